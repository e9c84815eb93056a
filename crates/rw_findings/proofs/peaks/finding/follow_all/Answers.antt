-- `follow_all` finds the greatest number measured of each receiver in each stretch, or runs out of memory.
use Rattle.std.proofs.Common.{◌≡◌, ◌∙◌, ◌+◌, ◌<◌, ◌≤◌, ◌-◌, ap, arith, inl, inr, length, min, subst, sym, zero-mul}
use Rattle.std.proofs.lemmas.Bool.{cases_lt}
use Rattle.rw_findings.specs.Following.{Stands}
use Rattle.rw_findings.specs.Peaks.{IsGreatest, measured_at, peak_in, start_of}
use Rattle.rw_navigator.specs.Places.{last_place}
use Rattle.rw_findings.proofs.PeakSums.{greatest_wide, later_start, next_start, none_past}
use Rattle.rw_findings.proofs.peaks.finding.follow_all.Goals as goal

pub end_of-end-requires : goal.end_of-end-requires
end_of-end-requires g c = omega (arith, c.len-last.ensures, c.entries-entries.ensures.few, ap length c.entries-entries.ensures.entries)

pub each_stretch-init : goal.each_stretch-init
each_stretch-init g c = record {
  start = omega (arith, zero-mul c.args.stretches.each, c.requires.inside);
  stands = λ inside. c.requires.here;
  done = λ receiver stretch below. absurd (omega (arith, below));
  fresh = λ receiver stretch above. c.requires.fresh receiver stretch;
}

pub follow-requires-clause-fresh : goal.follow-requires-clause-fresh
follow-requires-clause-fresh g c = λ receiver. c.each_stretch.invariant.fresh receiver c.each_stretch.stretch (omega arith)

pub follow-requires-clause-some : goal.follow-requires-clause-some
follow-requires-clause-some g c = omega (arith, c.requires.some, c.if-last-start.false, c.end_of-end.ensures)

pub returns-then-last-start : goal.returns-then-last-start
returns-then-last-start g c =
    let run = c.args.run.now in
    let stretches = c.args.stretches in
    let stretch = c.each_stretch.stretch in
    let past : last_place run < start_of stretches stretch = omega (arith, c.each_stretch.invariant.start, c.if-last-start.true, c.len-last.ensures) in
    λ receiver other within.
    let at = measured_at c.args.asked.measure run c.args.asked.channel receiver in
    elim (cases_lt other stretch) [
      | inl below ↦ c.each_stretch.invariant.done receiver other below
      | inr above ↦
          subst (λ n. IsGreatest at (last_place run) (start_of stretches other) (start_of stretches (other + 1)) n)
          (sym (c.each_stretch.invariant.fresh receiver other above))
          (none_past at (last_place run) (start_of stretches other) (start_of stretches (other + 1))
          (omega (arith, past, later_start stretches.from stretches.each stretch other above)))
    ]

pub each_stretch-preserved : goal.each_stretch-preserved
each_stretch-preserved g c =
    let run = c.args.run.now in
    let stretches = c.args.stretches in
    let stretch = c.each_stretch.stretch in
    let end = c.end_of-end.result in
    let inv = c.each_stretch.invariant in
    let rows = c.follow.new.peaks in
    let inside : c.each_stretch.start ≤ last_place run = omega (arith, c.if-last-start.false, c.len-last.ensures) in
    let ends : end ≡ min (c.each_stretch.start + stretches.each) (last_place run + 1) = omega (arith, c.end_of-end.ensures, c.len-last.ensures) in
    let next : end ≡ min (start_of stretches (stretch + 1)) (last_place run + 1) =
    next_start stretches.from stretches.each stretch c.each_stretch.start (last_place run) end inv.start inside ends in
    let start_is : c.each_stretch.start ≡ start_of stretches stretch = omega (arith, inv.start, inside) in
    record {
      start = next;
      stands = λ within.
          let on : end - 1 < last_place run = omega (arith, within, ends, c.requires.some) in
          let back : end - 1 + 1 ≡ end = omega (arith, ends, c.requires.some) in
          subst (λ p. Stands run c.args.asked.channel c.advance_within.new.machine p) back (c.advance_within.ensures on);
      done = λ receiver other below.
          let at = measured_at c.args.asked.measure run c.args.asked.channel receiver in
          elim (cases_lt other stretch) [
            | inl before ↦
                subst (λ n. IsGreatest at (last_place run) (start_of stretches other) (start_of stretches (other + 1)) n)
                (sym (c.in_ok-follow.ensures.others receiver other (λ same. omega (arith, same, before)))) (inv.done receiver other before)
            | inr now ↦
                let same : stretch ≡ other = omega (arith, now, below) in
                let found = subst (λ from. IsGreatest at (last_place run) from end (peak_in rows receiver stretch)) start_is
                (c.in_ok-follow.ensures.peaks receiver) in
                let wide =
                greatest_wide at (last_place run) (start_of stretches stretch) end (start_of stretches (stretch + 1)) (peak_in rows receiver stretch)
                (omega (arith, next))
                (elim (cases_lt (last_place run) end) [ inl past ↦ inr past | inr within ↦ inl (omega (arith, next, within)) ]) found in
                subst (λ k. IsGreatest at (last_place run) (start_of stretches k) (start_of stretches (k + 1)) (peak_in rows receiver k)) same wide
          ];
      fresh = λ receiver other above. c.in_ok-follow.ensures.others receiver other (λ same. omega (arith, same, above))
          ∙ inv.fresh receiver other (omega (arith, above));
    }
