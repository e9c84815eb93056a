-- No handle of a watch is a weak sender.
use Rattle.std.proofs.Common.{◌≡◌, ◌≢◌, ℕ, List, refl, sym, ◌∙◌}
use Rattle.std.specs.Prelude.{Option, Some, None, All, slice_get}
use Rattle.rw_handles.specs.declared.kinds.Kind.{Kind}
use Rattle.rw_handles.specs.declared.kinds.Kind.TheVariants.{Weak}
use Rattle.rw_handles.specs.declared.kinds.Slot.{Slot}
use Rattle.rw_handles.specs.declared.kinds.Slot.TheVariants.{Live, Spent}
use Rattle.rw_handles.specs.Slots.{kind_at}
use Rattle.rw_handles.proofs.SlotLaws.{All-slice_get}
use Rattle.rw_watch.specs.Shown.{Shown, IsAllowed, IsMarked}

strong_at : (version : ℕ) (slots : List (Slot (Option ℕ))) (id : ℕ) (o : Option (Slot (Option ℕ))) → slice_get slots id ≡ o → All (IsMarked version) slots
    → kind_at o ≢ Some Weak
strong_at version slots id None is all = λ h. cc
strong_at version slots id (Some Spent) is all = λ h. cc
strong_at version slots id (Some (Live Weak mark)) is all = absurd (All-slice_get (IsMarked version) slots id (Live Weak mark) is all)
strong_at version slots id (Some (Live kind mark)) is all = λ h. cc

pub strong : {V : Type 0} (x : Shown V) (id : ℕ) (kind : Option Kind) → IsAllowed x → kind ≡ kind_at (slice_get x.slots id) → kind ≢ Some Weak
strong x id kind ok is = λ h. strong_at x.version x.slots id (slice_get x.slots id) refl ok.marked (sym is ∙ h)
