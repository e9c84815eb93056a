-- `follow` finds the greatest number measured of each receiver in one stretch, and leaves the peaks of other stretches as they were.
use Rattle.std.proofs.Common.{◌≡◌, ◌<◌, ◌+◌, ◌-◌, ◌∙◌, ap, arith, get_or, inl, inr, length, max, refl, subst, sym}
use Rattle.rw_world.specs.Machines.{of_chan}
use Rattle.rw_findings.specs.Following.{Stands}
use Rattle.rw_findings.specs.Peaks.{IsGreatest, IsSoFar, measured_at, named_level, peak_in}
use Rattle.rw_navigator.specs.Places.{last_place, shown_at}
use Rattle.rw_findings.proofs.PeakPlaces.{measured_is, named_or_not, rises}
use Rattle.rw_findings.proofs.PeakSums.{greatest_is, raised_here, raised_there, so_far_first, so_far_on}
use Rattle.rw_findings.proofs.peaks.finding.follow.Goals as goal

pub each_place-preserved : goal.each_place-preserved
each_place-preserved g c =
    let run = c.args.run.now in
    let channel = c.args.asked.channel in
    let measure = c.args.asked.measure in
    let p = c.each_place.place in
    let e = c.index-entries-place.result in
    let x = (of_chan {V = g.row.V.Denot}).shown c.each_place.machine in
    let stands = c.each_place.invariant.stands in
    let within : p < last_place run = omega (arith, c.each_place-test.true, c.requires.inside) in
    let read : e ≡ get_or run.entries p e = c.index-entries-place.is ∙ ap (λ es. get_or es p e) c.entries.ensures.entries in
    record {
      stands = c.advance.ensures;
      so_far = λ receiver.
          so_far_on (measured_at measure run channel receiver) c.args.from p (peak_in c.each_place.peaks receiver c.args.stretch) _
          (named_level measure channel x e.call receiver) c.each_place.auto.place
          (c.each_place.invariant.so_far receiver)
          (c.in_ok-raise_named.ensures receiver c.args.stretch
          ∙ raised_here c.args.stretch (peak_in c.each_place.peaks receiver c.args.stretch) (named_level measure channel x e.call receiver))
          (elim (named_or_not measure channel x e.call receiver) [
            | inl is ↦ inl (is ∙ sym (measured_is measure (shown_at run p) channel receiver x stands.shows))
            | inr none ↦ inr (none.0, rises c.documented.ensures.places run channel p e within read measure receiver x stands.shows none.1)
          ]);
      others = λ receiver other apart.
          c.in_ok-raise_named.ensures receiver other ∙ raised_there c.args.stretch other (peak_in c.each_place.peaks receiver other)
          (named_level measure channel x e.call receiver) apart
          ∙ c.each_place.invariant.others receiver other apart;
    }

pub returns-clause-peaks : goal.returns-clause-peaks
returns-clause-peaks g c =
    let run = c.args.run.now in
    let channel = c.args.asked.channel in
    let measure = c.args.asked.measure in
    let p = c.each_place.place in
    let x = (of_chan {V = g.row.V.Denot}).shown c.each_place.machine in
    let stands = c.each_place.invariant.stands in
    let last : p + 1 ≡ c.args.to = omega (arith, c.each_place-test.false, c.each_place.auto.place, c.each_place.auto.place-end, c.requires.some) in
    λ receiver.
    let at = measured_at measure run channel receiver in
    let before = peak_in c.each_place.peaks receiver c.args.stretch in
    let after = peak_in c.raise_all.new.peaks receiver c.args.stretch in
    subst (λ to. IsGreatest at (last_place run) c.args.from to after) last
    (greatest_is at (last_place run) c.args.from p before after c.each_place.auto.place (omega (arith, last, c.requires.inside))
    (c.each_place.invariant.so_far receiver)
    (c.in_ok-raise_all.ensures receiver c.args.stretch ∙ raised_here c.args.stretch before _
    ∙ ap (max before) (sym (measured_is measure (shown_at run p) channel receiver x stands.shows))))

pub bounds-entries-place : goal.bounds-entries-place
bounds-entries-place g c =
    let within : c.each_place.place < last_place c.args.run.now = omega (arith, c.each_place-test.true, c.requires.inside) in
    subst (λ es. c.each_place.place < length es) (sym c.entries.ensures.entries) within

pub advance-requires-clause-here : goal.advance-requires-clause-here
advance-requires-clause-here g c = c.each_place.invariant.stands

pub advance-requires-clause-more : goal.advance-requires-clause-more
advance-requires-clause-more g c = omega (arith, c.each_place-test.true, c.requires.inside)

pub each_place-init : goal.each_place-init
each_place-init g c = record {
  stands = c.requires.here;
  so_far = λ receiver.
      let at = measured_at c.args.asked.measure c.args.run.now c.args.asked.channel receiver in
      subst (λ n. IsSoFar at c.args.from c.args.from n) (sym (c.requires.fresh receiver)) (so_far_first at c.args.from);
  others = λ receiver other apart. refl;
}

pub returns-clause-stands : goal.returns-clause-stands
returns-clause-stands g c =
    let last : c.each_place.place ≡ c.args.to - 1 =
    omega (arith, c.each_place-test.false, c.each_place.auto.place-end, c.each_place.auto.place, c.requires.some) in
    subst (λ p. Stands c.args.run.now c.args.asked.channel c.each_place.machine p) last c.each_place.invariant.stands

pub returns-clause-others : goal.returns-clause-others
returns-clause-others g c =
    let x = (of_chan {V = g.row.V.Denot}).shown c.each_place.machine in
    λ receiver other apart.
    c.in_ok-raise_all.ensures receiver other ∙ raised_there c.args.stretch other (peak_in c.each_place.peaks receiver other) _ apart
    ∙ c.each_place.invariant.others receiver other apart
