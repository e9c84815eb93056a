-- The lives of a channel's handles: when and by whom each was made, when it was dropped, and who called with it.
use Rattle.std.specs.Prelude.{◌≡◌, ◌≢◌, ℕ, ◌+◌, ◌-◌, ◌<◌, ◌≤◌, ◌⊎◌, Bool, false, ◌&&◌, nat_eq, nat_lt, if◌then◌else◌, List, [], ◌∷◌}
use Rattle.std.specs.Prelude.{◌++◌, length, Option, None, Some, IsSome, option_and_then, option_map, slice_get, slice_index_or}
use Rattle.std.specs.List.{count_by, range_with_len}
use Rattle.std.specs.Option.{option_map_or}
use Rattle.rw_handles.specs.declared.kinds.Kind.{Kind}
use Rattle.rw_handles.specs.Slots.{kind_at}
use Rattle.rw_journal.specs.Run.{Run}
use Rattle.rw_navigator.specs.Places.{entry_to, last_place, shown_at}
use Rattle.rw_world.specs.Channel.{handle_of}
use Rattle.rw_world.specs.Kinds.{broadcast_shown, watch_shown}
use Rattle.rw_world.specs.Machines.{ChanShown}
use Rattle.rw_world.specs.Specified.{WorldEntry}

-- what callers see of a life. `calls` has for each actor how many calls it made with the handle; what isn't there is 0
pub record Life : Type 0 where
  pub kind : Kind
  pub made : ℕ
  pub maker : Option ℕ
  pub dropped : Option ℕ
  pub calls : List ℕ

module _ {V : Type 0} where
  -- how many handles a channel has made, and the kind of a live one
  abbrev pub made_in : ChanShown V → ℕ
  made_in (broadcast_shown x) = length x.slots
  made_in (watch_shown y) = length y.slots

  abbrev pub kind_in : ChanShown V → ℕ → Option Kind
  kind_in (broadcast_shown x) handle = kind_at (slice_get x.slots handle)
  kind_in (watch_shown y) handle = kind_at (slice_get y.slots handle)

  -- the same at a place of a run
  abbrev pub made_at : Run V → (channel place : ℕ) → ℕ
  made_at run channel place = option_map_or made_in (slice_get (shown_at run place) channel) 0

  abbrev pub kind_then : Run V → (channel handle place : ℕ) → Option Kind
  kind_then run channel handle place = option_and_then (λ x. kind_in x handle) (slice_get (shown_at run place) channel)

  -- the entry is this actor's call with this handle of the channel
  abbrev pub is_call_with : (channel handle actor : ℕ) → WorldEntry V → Bool
  is_call_with channel handle actor e = nat_eq e.call.channel channel && nat_eq (handle_of e.call.call) handle && nat_eq e.actor actor

  -- the entry after a place is such a call, and the handle was made before
  abbrev pub calls_after : Run V → (channel handle actor place : ℕ) → Bool
  calls_after run channel handle actor place =
      nat_lt handle (made_at run channel place)
      && option_map_or (is_call_with channel handle actor) (slice_get run.entries place) false

  -- how many calls an actor made with a handle, up to a place
  abbrev pub calls_to : Run V → (channel handle actor place : ℕ) → ℕ
  calls_to run channel handle actor place = count_by (calls_after run channel handle actor) (range_with_len 0 place)

  -- up to a place: the handle is still alive there, or was dropped by the call that leads to another
  abbrev pub EndsAt : Run V → (channel handle last : ℕ) → Option ℕ → Type 0
  EndsAt run channel handle last None = IsSome (kind_then run channel handle last)
  EndsAt run channel handle last (Some place) =
      (0 < place) × (place ≤ last) × IsSome (kind_then run channel handle (place - 1)) × (kind_then run channel handle place ≡ None)

  -- up to a place, this is the life of the channel's handle of this number
  pub record IsLife (run : Run V) (channel handle last : ℕ) (life : Life) : Type 0 where
    pub made : handle < made_at run channel life.made
    pub fresh : (life.made ≡ 0) ⊎ (made_at run channel (life.made - 1) ≤ handle)
    pub inside : life.made ≤ last
    pub kind : kind_then run channel handle life.made ≡ Some life.kind
    pub maker : life.maker ≡ option_map (λ e. e.actor) (entry_to run life.made)
    pub end : EndsAt run channel handle last life.dropped
    pub calls : (actor : ℕ) → slice_index_or life.calls actor 0 ≡ calls_to run channel handle actor last

  -- up to a place, these are the lives of the channel's handles, by number
  pub record AreLivesTo (run : Run V) (channel last : ℕ) (lives : List Life) : Type 0 where
    pub many : length lives ≡ made_at run channel last
    pub each : (handle : ℕ) (life : Life) → slice_get lives handle ≡ Some life → IsLife run channel handle last life

  -- these are the lives of the channel's handles in the whole run
  abbrev pub AreLives : Run V → (channel : ℕ) → List Life → Type 0
  AreLives run channel lives = AreLivesTo run channel (last_place run) lives

-- ---- inside

-- the life of a handle that was just made
abbrev pub born : Kind → (made : ℕ) → (maker : Option ℕ) → Life
born kind made maker = record { kind = kind; made = made; maker = maker; dropped = None; calls = [] }

-- one call more of an actor
pub record Counted (old new : Life) (actor : ℕ) : Type 0 where
  pub kind : new.kind ≡ old.kind
  pub made : new.made ≡ old.made
  pub maker : new.maker ≡ old.maker
  pub dropped : new.dropped ≡ old.dropped
  pub calls : (other : ℕ) → slice_index_or new.calls other 0 ≡ slice_index_or old.calls other 0 + (if nat_eq other actor then 1 else 0)

-- dropped at this place, if the handle has no kind there and was not dropped before
abbrev pub dropped_by : (dropped : Option ℕ) → Option Kind → (place : ℕ) → Option ℕ
dropped_by None None place = Some place
dropped_by None (Some kind) place = None
dropped_by (Some before) kind place = Some before

abbrev pub with_kind : Life → Option Kind → (place : ℕ) → Life
with_kind life kind place = record life { dropped = dropped_by life.dropped kind place }

-- from lives to lives: of one handle a call by this actor was counted, and the kind that it has at a place was noted
pub record CountedCall (old new : List Life) (handle actor : ℕ) (kind : Option Kind) (place : ℕ) : Type 0 where
  pub many : length new ≡ length old
  pub others : (other : ℕ) → other ≢ handle → slice_get new other ≡ slice_get old other
  pub own : (before after : Life)
      → slice_get old handle ≡ Some before
      → slice_get new handle ≡ Some after
      → (mid : Life) × Counted before mid actor × (after ≡ with_kind mid kind place)

-- a life was appended for the channel's next handle, if it has made one
abbrev pub AddedMade : {V : Type 0} → (old new : List Life) → ChanShown V → (place actor : ℕ) → Type 0
AddedMade old new x place actor =
    ((new ≡ old) × (length old < made_in x → kind_in x (length old) ≡ None))
    ⊎ ((kind : Kind) × (length old < made_in x) × (kind_in x (length old) ≡ Some kind) × (new ≡ old ++ born kind place (Some actor) ∷ []))
