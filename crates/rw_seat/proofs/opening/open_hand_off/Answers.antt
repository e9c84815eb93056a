use Rattle.std.proofs.Common.{List, map, ap, ◌∙◌}
use Rattle.std.proofs.lemmas.Result.{IfOk-weaker}
use Rattle.rw_world.specs.Specified.{ChanEntry}
use Rattle.rw_seat.specs.Rule.{numbers_from}
use Rattle.rw_seat.proofs.opening.open_hand_off.Goals as goal

pub returns-clause-seats : goal.returns-clause-seats
returns-clause-seats g c =
    IfOk-weaker c.open-2.result _ _
    (λ r same. same ∙ ap (λ (f : List (ChanEntry g.row.V.Denot)). map (λ n. record { number = n; home = r.0.home; front = f }) (numbers_from 0 c.args.seats))
    c.in_ok-ledger.ensures.empty) c.open-2.ensures.seats
