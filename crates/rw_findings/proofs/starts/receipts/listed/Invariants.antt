use Rattle.std.proofs.Common.{◌≡◌, length, map, take, vec_capacity}
use Rattle.rw_findings.specs.Peaks.{peak_in}
use Rattle.rw_findings.proofs.starts.receipts.listed.Given as goal

abbrev pub invariant-loop-one : goal.invariant-loop-one
invariant-loop-one l = record {
  places : l.places.items ≡ map (λ t. peak_in l.given t.channel t.receiver) (take l.one-index l.totals);
  room : vec_capacity l.places ≡ length l.totals;
}
