use Rattle.rw_handles.proofs.Undoing.{unmake_undoes_make, undrop_undoes_drop, set_undoes_set}
use Rattle.rw_handles.proofs.laws.undoings.Goals as goal

pub returns-clause-unmake : goal.returns-clause-unmake
returns-clause-unmake g c = unmake_undoes_make

pub returns-clause-undrop : goal.returns-clause-undrop
returns-clause-undrop g c = undrop_undoes_drop

pub returns-clause-set : goal.returns-clause-set
returns-clause-set g c = set_undoes_set
