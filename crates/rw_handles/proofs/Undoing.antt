-- Each undoing restores the slots before the step.
use Rattle.std.proofs.Common.{◌≡◌, ap, ◌∙◌}
use Rattle.std.specs.Prelude.{Some, slice_get, slice_set}
use Rattle.rw_handles.specs.declared.kinds.Slot.TheVariants.{Live, Spent}
use Rattle.rw_handles.specs.Slots.{with_value}
use Rattle.rw_handles.specs.Laws.{UnmakeUndoesMake, UndropUndoesDrop, SetUndoesSet, with_value_at}
use Rattle.rw_law.proofs.Lists.{push_back}
use Rattle.rw_handles.proofs.SlotLaws.{set_back, slice_get-set}

pub unmake_undoes_make : {X : Type 0} → UnmakeUndoesMake X
unmake_undoes_make slots kind x = push_back slots (Live kind x)

pub undrop_undoes_drop : {X : Type 0} → UndropUndoesDrop X
undrop_undoes_drop slots id kind x at = set_back slots id Spent (Live kind x) at

pub set_undoes_set : {X : Type 0} → SetUndoesSet X
set_undoes_set slots id kind old new at =
    let first : with_value_at slots id new ≡ slice_set slots id (Live kind new) = ap (λ o. slice_set slots id (with_value new o)) at in
    let there : slice_get (slice_set slots id (Live kind new)) id ≡ Some (Live kind new) = slice_get-set slots id (Live kind new) (Live kind old) at in
    let second : with_value_at (slice_set slots id (Live kind new)) id old ≡ slice_set (slice_set slots id (Live kind new)) id (Live kind old) =
    ap (λ o. slice_set (slice_set slots id (Live kind new)) id (with_value old o)) there in
    ap (λ s. with_value_at s id old) first ∙ (second ∙ set_back slots id (Live kind new) (Live kind old) at)
