use Rattle.std.proofs.Common.{◌≡◌}
use Rattle.std.specs.Int.{IsNextPowerOfTwo}
use Rattle.rw_broadcast.proofs.Powers.{retains_next_power, one_next_power}
use Rattle.rw_findings.proofs.losses.track.retained.Goals as goal

pub returns : goal.returns
returns c =
    let found : IsNextPowerOfTwo c.from.result c.next_power_of_two.result =
    (c.next_power_of_two.ensures.power, c.next_power_of_two.ensures.lower_bound, c.next_power_of_two.ensures.upper_bound) in
    let same : c.from.result ≡ c.args.asked = cc in
    one_next_power c.args.asked _ _ (rw same at found) (retains_next_power c.args.asked c.requires.some c.requires.small)
