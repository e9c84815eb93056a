-- The lists of the first handles, extended by one handle at a time.
use Rattle.std.proofs.Common.{◌≡◌, ◌++◌, ◌∷◌, [], ◌+◌, ℕ, zero, suc, List, Option, Some, None, refl, ap, ◌∙◌, add-one, arith}
use Rattle.std.specs.Prelude.{option_map, option_to_list, slice_get}
use Rattle.std.specs.List.{filter_map, range_with_len}
use Rattle.std.proofs.lemmas.List.Elements.{filter_map-append}
use Rattle.std.proofs.lemmas.Grind.{common_steps}
use Rattle.serde_json.specs.Data.{Data}
use Rattle.rw_handles.specs.declared.kinds.Kind.{Kind}
use Rattle.rw_handles.specs.declared.kinds.Slot.{Slot}
use Rattle.rw_handles.specs.Slots.{kind_at}
use Rattle.rw_broadcast.specs.Machine.{position_at}
use Rattle.rw_broadcast.specs.Shown.{Shown as Broadcast}
use Rattle.rw_watch.specs.Machine.{mark_at}
use Rattle.rw_watch.specs.Shown.{Shown as Watch}
use Rattle.rw_blocks.proofs.Lists.{first_more}
use Rattle.rw_blocks.specs.Json.{of_handles, handle_json, handles_json, receiver_json, receivers_json, watcher_json, watchers_json}

of_one : (o : Option Data) → filter_map (λ (x : Option Data). x) (o ∷ []) ≡ option_to_list o
of_one None = refl
of_one (Some d) = refl

of_handles-more : (f : ℕ → Option Data) (n : ℕ) → of_handles f (n + 1) ≡ of_handles f n ++ option_to_list (f n)
of_handles-more f n = ap (filter_map f) (first_more n) ∙ filter_map-append f (range_with_len 0 n) (n ∷ [])
    ∙ ap (λ (ds : List Data). of_handles f n ++ ds) (of_one (f n))

pub handles_json-more : {X : Type 0} (kind : Kind) (slots : List (Slot X)) (n : ℕ)
    → handles_json kind slots (n + 1) ≡ handles_json kind slots n ++ option_to_list (handle_json kind n (kind_at (slice_get slots n)))
unfolding handles_json
handles_json-more kind slots n = of_handles-more (λ h. handle_json kind h (kind_at (slice_get slots h))) n

pub handles_json-none : {X : Type 0} (kind : Kind) (slots : List (Slot X)) → handles_json kind slots 0 ≡ []
unfolding handles_json
handles_json-none kind slots = refl

pub readers_json-more : (x : Broadcast ℕ) (n : ℕ)
    → receivers_json x (n + 1) ≡ receivers_json x n ++ option_to_list (option_map (receiver_json x n) (position_at (slice_get x.slots n)))
unfolding receivers_json
readers_json-more x n = of_handles-more (λ h. option_map (receiver_json x h) (position_at (slice_get x.slots h))) n

pub readers_json-none : (x : Broadcast ℕ) → receivers_json x 0 ≡ []
unfolding receivers_json
readers_json-none x = refl

pub watchers_json-more : (x : Watch ℕ) (n : ℕ)
    → watchers_json x (n + 1) ≡ watchers_json x n ++ option_to_list (option_map (watcher_json x n) (mark_at (slice_get x.slots n)))
unfolding watchers_json
watchers_json-more x n = of_handles-more (λ h. option_map (watcher_json x h) (mark_at (slice_get x.slots h))) n

pub watchers_json-none : (x : Watch ℕ) → watchers_json x 0 ≡ []
unfolding watchers_json
watchers_json-none x = refl

pub ruleset handle_lists = (handles_json-more, handles_json-none, readers_json-more, readers_json-none, watchers_json-more, watchers_json-none, common_steps)
