use Rattle.std.proofs.Common.{◌≡◌, take, length, vec_capacity}
use Rattle.rw_findings.specs.LateReaders.{opened}
use Rattle.rw_findings.proofs.closings.finding.all_open.Given as goal

abbrev pub invariant-loop-spec : goal.invariant-loop-spec
invariant-loop-spec g l = record {
  closed : l.closed.items ≡ opened (take l._spec-index l.specs);
  room : vec_capacity l.closed ≡ length l.specs;
}
