-- Desks, and what they return.
use Rattle.std.specs.Prelude.{◌≡◌, ◌↔◌, Bool, true, false, ℕ, ◌<◌, ◌≤◌, ◌||◌, nat_eq, nat_lt, if◌then◌else◌, None}
use Rattle.std.specs.Prelude.{Some, Option, slice_get, List, length, map, IfOk, OnErr, IsErrOf, IsTrue, Result}
use Rattle.std.specs.Option.{option_map}
use Rattle.rw_law.specs.declared.limits.TheConstants.{MOST_ACTORS}
use Rattle.rw_world.specs.declared.opening.Spec.{Spec}
use Rattle.rw_world.specs.declared.opening.Spec.TheVariants as spec
use Rattle.rw_world.specs.declared.rows.RowCall.{RowCall}
use Rattle.rw_world.specs.Channel.{strays_at}
use Rattle.rw_world.specs.declared.channels.ChanCall.{ChanCall}
use Rattle.rw_world.specs.declared.channels.ChanReply.{ChanReply}
use Rattle.rw_world.specs.Openings.{spec_kind, refusal}
use Rattle.rw_world.specs.Shapes.{stray_of}
use Rattle.rw_desk.specs.declared.faults.DeskFault.{DeskFault}
use Rattle.rw_desk.specs.declared.faults.DeskFault.TheVariants.{NoChannel}
use Rattle.rw_desk.specs.declared.faults.DeskOpenFault.{DeskOpenFault}
use Rattle.rw_desk.specs.declared.faults.DeskOpenFault.TheVariants.{BadActors, World}
use Rattle.rw_desk.specs.declared.handles.Ends.{Ends}
use Rattle.rw_desk.specs.declared.handles.Ends.TheVariants.{Broadcast, Watch}
use Rattle.rw_desk.specs.Passes.{HasReceipt, Pass, fresh_pass}

-- what callers see of a desk: the specs of its channels, and the number of its actors
pub record Desk (V : Type 0) : Type 0 where
  pub specs : List (Spec V)
  pub actors : ℕ

-- the invariant of a desk: its specs open, it has 1 to 64 actors, and a lock for each channel
pub record IsDesk {V : Type 0} (specs : List (Spec V)) (actors locks : ℕ) : Type 0 where
  pub opens : refusal specs ≡ None
  pub some_actor : 0 < actors
  pub few_actors : actors ≤ MOST_ACTORS
  pub locked : locks ≡ length specs

-- why no desk is opened: the number of actors is bad, or no world is opened from the specs
abbrev pub refusal_to_open : {V : Type 0} → List (Spec V) → ℕ → Option DeskOpenFault
refusal_to_open specs actors = if nat_eq actors 0 || nat_lt MOST_ACTORS actors then Some BadActors else option_map (λ fault. World fault) (refusal specs)

-- sender 0 and receiver 1, which a channel has from the beginning
abbrev pub ends_at : {V : Type 0} → ℕ → Option (Spec V) → Option Ends
ends_at channel None = None
ends_at channel (Some (spec.Broadcast capacity)) = Some (Broadcast (record { channel = channel; number = 0 }) (record { channel = channel; number = 1 }))
ends_at channel (Some (spec.Watch init)) = Some (Watch (record { channel = channel; number = 0 }) (record { channel = channel; number = 1 }))

-- a desk with these specs and this many actors, a fresh pass for each actor, and the first two handles of each channel
pub record HasOpened {V : Type 0} (specs : List (Spec V)) (actors : ℕ) (desk : Desk V) (passes : List (Pass V)) (ends : List Ends) : Type 0 where
  pub desk_is : desk ≡ record { specs = specs; actors = actors }
  pub passes_are : (length passes ≡ actors) × ((a : ℕ) → a < actors → slice_get passes a ≡ Some (fresh_pass a))
  pub ends_are : (length ends ≡ length specs) × ((c : ℕ) → c < length specs → slice_get ends c ≡ ends_at c (slice_get specs c))

-- a call, with its channel
abbrev pub row_call : {V : Type 0} → ℕ → ChanCall V → RowCall (ChanCall V)
row_call channel call = record { channel = channel; call = call }

-- whether there is no watch channel with this number
abbrev pub no_watch_at : {V : Type 0} → Option (Spec V) → Bool
no_watch_at None = true
no_watch_at (Some (spec.Broadcast capacity)) = true
no_watch_at (Some (spec.Watch init)) = false

abbrev pub has_no_watch : {V : Type 0} → List (Spec V) → ℕ → Bool
has_no_watch specs channel = no_watch_at (slice_get specs channel)

-- What a desk returns for a call: the pass has its receipt, with the reply that the result has; or the pass is unchanged. The fault is
-- `NoChannel` exactly if the call strays by the specs.
pub record IsAnswered {V X : Type 0} (specs : List (Spec V)) (old new : Pass V) (channel : ℕ) (call : ChanCall V)
    (reply_of : X → ChanReply V) (answer : Result X DeskFault) : Type 0 where
  pub receipt : IfOk answer (λ x. HasReceipt (slice_get specs channel) old new channel call (reply_of x))
  pub refused : OnErr answer (new ≡ old)
  pub no_channel : IsErrOf answer NoChannel ↔ IsTrue (stray_of strays_at (map spec_kind specs) (row_call channel call))
