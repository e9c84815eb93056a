use Rattle.rw_handles.proofs.Changing.{keeps_renaming_at_map}
use Rattle.rw_handles.proofs.Renaming.{keeps_renaming_at_make, keeps_renaming_at_set, renames_live_ones, renames_twice}
use Rattle.rw_handles.proofs.Reordering.{renames_at_exchange, renames_at_insertion}
use Rattle.rw_handles.proofs.Sorting.{renames_sorted}
use Rattle.rw_handles.proofs.laws.renamings.Goals as goal

pub returns-clause-live : goal.returns-clause-live
returns-clause-live g c = renames_live_ones _

pub returns-clause-make : goal.returns-clause-make
returns-clause-make g c = keeps_renaming_at_make _

pub returns-clause-set : goal.returns-clause-set
returns-clause-set g c = keeps_renaming_at_set _

pub returns-clause-twice : goal.returns-clause-twice
returns-clause-twice g c = renames_twice _

pub returns-clause-insertion : goal.returns-clause-insertion
returns-clause-insertion g c = renames_at_insertion _

pub returns-clause-exchange : goal.returns-clause-exchange
returns-clause-exchange g c = renames_at_exchange _

pub returns-clause-map : goal.returns-clause-map
returns-clause-map g c = keeps_renaming_at_map _

pub returns-clause-sorted : goal.returns-clause-sorted
returns-clause-sorted g c = renames_sorted _
