use Rattle.std.proofs.Common.{◌≡◌, take, length, vec_capacity}
use Rattle.rw_findings.specs.Tallies.{opened_tallies}
use Rattle.rw_findings.proofs.totals.totalling.open_tallies.Given as goal

abbrev pub invariant-loop-spec : goal.invariant-loop-spec
invariant-loop-spec g l = record {
  tallies : l.tallies.items ≡ opened_tallies (take l.spec-index l.specs);
  room : vec_capacity l.tallies ≡ length l.specs;
}
