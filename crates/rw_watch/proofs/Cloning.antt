-- A cloned receiver has a mark that a receiver of the channel can have.
use Rattle.std.proofs.Common.{◌≡◌, ℕ}
use Rattle.std.specs.Prelude.{Option}
use Rattle.rw_handles.specs.declared.kinds.Kind.{Kind}
use Rattle.rw_handles.specs.declared.kinds.Kind.TheVariants.{Receiver}
use Rattle.rw_handles.specs.declared.kinds.Slot.TheVariants.{Live}
use Rattle.rw_handles.specs.declared.kinds.Found.TheVariants.{Handle}
use Rattle.rw_handles.specs.Slots.{lookup}
use Rattle.rw_handles.proofs.SlotLaws.{found_at_wanted, All-slice_get}
use Rattle.rw_watch.specs.declared.calls.WCall.{WCall}
use Rattle.rw_watch.specs.declared.calls.WCall.TheVariants.{CloneReceiver}
use Rattle.rw_watch.specs.Channel.{handle_of, wanted_kind}
use Rattle.rw_watch.specs.Shown.{Shown, IsAllowed, IsMark, IsMarked}

cloned : {V : Type 0} (x : Shown V) (h : ℕ) (kind : Kind) (mark : Option ℕ) → lookup (wanted_kind {V = V} (CloneReceiver h)) x.slots h ≡ Handle kind mark
    → IsAllowed x → IsMark x.version mark
cloned x h kind mark is ok = All-slice_get (IsMarked x.version) x.slots h (Live Receiver mark) (found_at_wanted Receiver _ kind mark is) ok.marked

-- the mark of the receiver that a call clones
pub cloned_mark : {V : Type 0} (x : Shown V) (call : WCall V) (h : ℕ) (kind : Kind) (mark : Option ℕ) → call ≡ CloneReceiver h
    → lookup (wanted_kind call) x.slots (handle_of call) ≡ Handle kind mark → IsAllowed x → IsMark x.version mark
cloned_mark x call h kind mark here is = cloned x h kind mark (rw here at is)
