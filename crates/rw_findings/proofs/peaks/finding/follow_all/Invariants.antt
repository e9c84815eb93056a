use Rattle.std.proofs.Common.{◌≡◌, ℕ, ◌+◌, ◌<◌, ◌≤◌, min}
use Rattle.rw_findings.specs.Following.{Stands}
use Rattle.rw_findings.specs.Peaks.{IsGreatest, measured_at, peak_in, start_of}
use Rattle.rw_navigator.specs.Places.{last_place}
use Rattle.rw_findings.proofs.peaks.finding.follow_all.Given as goal

abbrev pub invariant-each_stretch : goal.invariant-each_stretch
invariant-each_stretch g l = record {
  start : l.start ≡ min (start_of l.stretches l.stretch) (last_place l.run + 1);
  stands : l.start ≤ last_place l.run → Stands l.run l.asked.channel l.machine l.start;
  done : (receiver stretch : ℕ) → stretch < l.stretch
      → IsGreatest (measured_at l.asked.measure l.run l.asked.channel receiver) (last_place l.run) (start_of l.stretches stretch)
      (start_of l.stretches (stretch + 1)) (peak_in l.peaks receiver stretch);
  fresh : (receiver stretch : ℕ) → l.stretch ≤ stretch → peak_in l.peaks receiver stretch ≡ 0;
}
