use Rattle.std.proofs.Common.{refl}
use Rattle.rw_seat.proofs.Sets.{me_set, start_set, table_id_set}
use Rattle.rw_seat.proofs.lent.Lent.book.Goals as goal

pub returns : goal.returns
returns g c = (
  (
    refl,
    λ w i. record {
      from = c.args.self.now.from;
      number = c.args.self.now.number;
      seat = c.args.self.now.seat;
      book = w;
      mine = me_set g.row.B g.row.B-Entry g.row.B-Start _ _ (c.self-1.given w).0 c.args.self.now.mine i;
      of_table = table_id_set _ _ (c.self-1.given w).1.0 c.args.self.now.of_table i;
      start = start_set g.row.B-Start _ _ (c.self-1.given w).1.1.0 c.args.self.now.start i;
    },
  ),
  record { writes_back = tt; value = refl },
)
