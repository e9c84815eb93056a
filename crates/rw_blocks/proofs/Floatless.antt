-- The JSON of a world has no number with a fraction, so serde_json specifies its text exactly.
use Rattle.std.proofs.Common.{◌≡◌, ℕ, Bool, true, false, cond, eqb, List, [], ◌∷◌, Option, Some, None, refl, map}
use Rattle.std.specs.Prelude.{option_map, slice_get}
use Rattle.std.specs.List.{cons_option, filter_map}
use Rattle.serde_json.specs.Data.{Data}
use Rattle.serde_json.specs.View.{items_of}
use Rattle.serde_json.specs.Written.{has_float, items_have_float}
use Rattle.rw_handles.specs.declared.kinds.Kind.{Kind}
use Rattle.rw_handles.specs.declared.kinds.Kind.TheVariants.{Sender, Weak}
use Rattle.rw_handles.specs.declared.kinds.Slot.{Slot}
use Rattle.rw_handles.specs.Slots.{alive, kind_at, same_kind}
use Rattle.rw_broadcast.specs.Machine.{position_at}
use Rattle.rw_broadcast.specs.Shown.{Shown as Broadcast}
use Rattle.rw_watch.specs.Machine.{mark_at}
use Rattle.rw_watch.specs.Shown.{Shown as Watch}
use Rattle.rw_world.specs.Kinds.{broadcast_shown, watch_shown}
use Rattle.rw_world.specs.Machines.{ChanShown}
use Rattle.rw_blocks.specs.Json.{natural, handle_json, handles_json, receiver_json, receivers_json, watcher_json}
use Rattle.rw_blocks.specs.Json.{watchers_json, weak_member, broadcast_with, channel_json, world_json}

abbrev is_floatless : List Data → Type 0
is_floatless ds = items_have_float (items_of ds) ≡ false

onto : (d : Data) (ds : List Data) → has_float d ≡ false → is_floatless ds → is_floatless (d ∷ ds)
onto d ds first rest = rw (first, rest) refl

of_map : {X : Type 0} (f : X → Data) → ((x : X) → has_float (f x) ≡ false) → (xs : List X) → is_floatless (map f xs)
of_map f each [] = refl
of_map f each (x ∷ xs) = onto (f x) (map f xs) (each x) (of_map f each xs)

abbrev IsFloatlessIfThere : Option Data → Type 0
IsFloatlessIfThere None = Unit {0}
IsFloatlessIfThere (Some d) = has_float d ≡ false

of_filter_at : {X : Type 0} (f : X → Option Data) (o : Option Data) (ds : List Data) → IsFloatlessIfThere o → is_floatless ds → is_floatless (cons_option o ds)
of_filter_at f None ds first rest = rest
of_filter_at f (Some d) ds first rest = onto d ds first rest

of_filter_map : {X : Type 0} (f : X → Option Data) → ((x : X) → IsFloatlessIfThere (f x)) → (xs : List X) → is_floatless (filter_map f xs)
of_filter_map f each [] = refl
of_filter_map f each (x ∷ xs) = of_filter_at f (f x) (filter_map f xs) (each x) (of_filter_map f each xs)

number_if : (b : Bool) (h : ℕ) → IsFloatlessIfThere (cond b (Some (natural h)) None)
number_if true h = refl
number_if false h = tt

handle_at : (kind : Kind) (h : ℕ) (own : Option Kind) → IsFloatlessIfThere (handle_json kind h own)
handle_at kind h None = tt
handle_at kind h (Some own) = number_if (same_kind kind own) h

handles : {X : Type 0} (kind : Kind) (slots : List (Slot X)) (n : ℕ) → is_floatless (handles_json kind slots n)
unfolding handles_json
handles kind slots n = of_filter_map _ (λ h. handle_at kind h (kind_at (slice_get slots h))) _

reader_at : (x : Broadcast ℕ) (h : ℕ) (position : Option ℕ) → IsFloatlessIfThere (option_map (receiver_json x h) position)
reader_at x h None = tt
reader_at x h (Some position) = refl

readers : (x : Broadcast ℕ) (n : ℕ) → is_floatless (receivers_json x n)
unfolding receivers_json
readers x n = of_filter_map _ (λ h. reader_at x h (position_at (slice_get x.slots h))) _

watcher_at : (x : Watch ℕ) (h : ℕ) (mark : Option (Option ℕ)) → IsFloatlessIfThere (option_map (watcher_json x h) mark)
watcher_at x h None = tt
watcher_at x h (Some None) = refl
watcher_at x h (Some (Some version)) = refl

watchers : (x : Watch ℕ) (n : ℕ) → is_floatless (watchers_json x n)
unfolding watchers_json
watchers x n = of_filter_map _ (λ h. watcher_at x h (mark_at (slice_get x.slots h))) _

of_channel : (x : ChanShown ℕ) → has_float (channel_json x) ≡ false
of_channel (broadcast_shown x) = of_weak (eqb (alive Weak x.slots) 0) where
  of_weak : (b : Bool) → has_float (broadcast_with x (cond b [] (weak_member x ∷ []))) ≡ false
  of_weak true = rw (readers x _, handles Sender x.slots _, of_map natural (λ n. refl) x.window) refl
  of_weak false = rw (readers x _, handles Sender x.slots _, handles Weak x.slots _, of_map natural (λ n. refl) x.window) refl
of_channel (watch_shown x) = rw (watchers x _, handles Sender x.slots _) refl

pub of_world : (xs : List (ChanShown ℕ)) (len place : ℕ) → has_float (world_json xs len place) ≡ false
unfolding world_json
of_world xs len place = rw (of_map channel_json of_channel xs) refl
