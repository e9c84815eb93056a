use Rattle.std.proofs.Common.{◌≡◌, take, length, vec_capacity}
use Rattle.rw_findings.specs.LossTracks.{opened_tracks}
use Rattle.rw_findings.proofs.losses.finding.open_tracks.Given as goal

abbrev pub invariant-loop-spec : goal.invariant-loop-spec
invariant-loop-spec g l = record {
  tracks : l.tracks.items ≡ opened_tracks (take l.spec-index l.specs);
  room : vec_capacity l.tracks ≡ length l.specs;
}
