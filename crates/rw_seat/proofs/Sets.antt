-- Two proofs of one equation between views are equal.
use Rattle.std.proofs.Common.{Option}
use base.Stored.{Coded-set, coded×, coded_ℕ, coded_list}
use denote.RattleType.{RattleType}
use Rattle.std.specs.Coded.{coded_option}
use Rattle.atomic_table.specs.Table.{Me}
use Rattle.atomic_table.specs.Seated.{TableId, table_id_coded}
use Rattle.rw_seat.specs.declared.view.View.{View}
use Rattle.rw_seat.specs.contracts.view.View.{the_row}

pub me_set : (T U W : RattleType) → IsSet (Me (Option T.Denot) (View U.Denot W.Denot))
me_set T U W = Coded-set (coded× (the_row U W).coded (coded_list (coded× coded_ℕ (coded_option T.coded))))

pub table_id_set : IsSet TableId
table_id_set = Coded-set table_id_coded

pub start_set : (W : RattleType) → IsSet (Option W.Denot)
start_set W = Coded-set (coded_option W.coded)
