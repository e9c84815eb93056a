-- The laws of windows.
use Rattle.std.proofs.Common.{◌≡◌, ◌+◌, ◌-◌, length, ap, ◌∙◌, arith}
use Rattle.std.specs.Prelude.{slice_get}
use Rattle.rw_law.proofs.Lists.{slice_get-drop}
use Rattle.rw_ring.specs.Windows.{window_before-after, window_after-drop, is_some-eviction}
use Rattle.rw_ring.specs.Laws.{UnputUndoesPut, PutFitsUnput, PutKeepsTheLast, ReadsByPosition}

pub unput_undoes_put : {V : Type 0} → UnputUndoesPut V
unput_undoes_put capacity window v some = window_before-after capacity window v some

pub put_fits_unput : {V : Type 0} → PutFitsUnput V
put_fits_unput capacity window count some kept = is_some-eviction capacity window count some kept

pub put_keeps_the_last : {V : Type 0} → PutKeepsTheLast V
put_keeps_the_last capacity all v some = window_after-drop capacity all v some

pub reads_by_position : {V : Type 0} → ReadsByPosition V
reads_by_position capacity all position kept =
    let first = length all - capacity in
    let there : first + (position - first) ≡ position = omega arith in
    slice_get-drop first all (position - first) ∙ ap (slice_get all) there
