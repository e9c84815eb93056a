use Rattle.std.proofs.Common.{◌≡◌}
use Rattle.std.specs.Int.{IsNextPowerOfTwo}
use Rattle.rw_broadcast.specs.Arithmetic.{retained_capacity}
use Rattle.rw_broadcast.proofs.Powers.{retains_next_power, retained-bounds, one_next_power}
use Rattle.rw_broadcast.proofs.machine.retained_capacity.Goals as goal

pub returns-clause-capacity : goal.returns-clause-capacity
returns-clause-capacity c =
    let found : IsNextPowerOfTwo c.from.result c.next_power_of_two.result =
    (c.next_power_of_two.ensures.power, c.next_power_of_two.ensures.lower_bound, c.next_power_of_two.ensures.upper_bound) in
    let same : c.from.result ≡ c.args.asked = cc in
    one_next_power c.args.asked _ _ (rw same at found) (retains_next_power c.args.asked c.requires.some c.requires.small)

pub returns-clause-most : goal.returns-clause-most
returns-clause-most c =
    let same : c.next_power_of_two.result ≡ retained_capacity c.args.asked = returns-clause-capacity c in
    rw same (retained-bounds c.args.asked).1
