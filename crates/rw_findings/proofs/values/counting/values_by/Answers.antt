use Rattle.std.proofs.Common.{rules, of_calls}
use Rattle.std.specs.Prelude.{nat_le}
use Rattle.std.proofs.lemmas.List.Sorted.{IsPartitionPoint-from_clause}
use Rattle.rw_findings.specs.declared.values.value.ChannelValue.{ChannelValue}
use Rattle.rw_findings.proofs.ValueCounts.{cut_is, parted}
use Rattle.rw_findings.proofs.values.counting.values_by.Goals as goal

pub returns : goal.returns
returns g c = λ run channel are within.
    let values = c.args.values.now in
    cut_is run channel values are c.args.place c.partition_point.result within c.partition_point.ensures.bound
    (IsPartitionPoint-from_clause (λ (v : ChannelValue _). nat_le v.since c.args.place) values c.partition_point.result c.partition_point.ensures.partitioned
    (parted run channel values are c.args.place) (λ a r f k. search (rules, of_calls)))
