use Rattle.std.proofs.Common.{◌≡◌, ◌∙◌, ap, subst, arith, ◌-◌, ◌≤◌, ◌<◌, length, take}
use Rattle.std.specs.Prelude.{count_by}
use Rattle.std.proofs.lemmas.List.{take_all, length-drop}
use Rattle.rw_values.specs.Stored.{Store, age, is_last}
use Rattle.rw_values.proofs.Cells.{length_rotation}
use Rattle.rw_values.proofs.Leaving.{kept_from, counts_last, counts_other}
use Rattle.rw_values.proofs.values.Values.last_of.Goals as goal
use Rattle.rw_values.proofs.values.Values.last_of.Goals.{then-receivers-eq1, else-receivers-eq1}

pub loop-number-init : goal.loop-number-init
loop-number-init g c =
    let none : 0 ≡ c.args.from - c.args.from = omega arith in
    record {
      counted = ap (λ n. count_by is_last (take n (kept_from c.args.self.now c.args.from))) none;
      few = omega arith;
    }

pub loop-number-preserved : goal.loop-number-preserved
loop-number-preserved g c =
    let s = c.args.self.now in
    let sent : c.loop-number.number < s.next = omega (arith, ap (λ (t : Store _). t.next) c.self.view_is, c.loop-number-test.true) in
    let from = c.args.from in
    let number = c.loop-number.number in
    let there = c.loop-number.auto.number in
    let read = c.receivers.ensures in
    elim c.if-receivers-eq1.branch [
      | then-receivers-eq1 w ↦ record {
        counted = omega (
          arith,
          w.last-is,
          c.loop-number.invariant.counted,
          counts_last s from number c.requires.kept there sent c.receivers.result read w.if-receivers-eq1.true,
        );
        few = omega (arith, w.last-is, c.loop-number.invariant.few, c.loop-number.auto.number);
      }
      | else-receivers-eq1 w ↦ record {
        counted = omega (
          arith,
          w.last-is,
          c.loop-number.invariant.counted,
          counts_other s from number c.requires.kept there sent c.receivers.result read w.if-receivers-eq1.false,
        );
        few = omega (arith, w.last-is, c.loop-number.invariant.few, c.loop-number.auto.number);
      }
    ]

pub returns : goal.returns
returns g c =
    let s = c.args.self.now in
    let numbered : length s.kept ≤ s.next = subst (λ (t : Store _). length t.kept ≤ t.next) c.self.view_is
    (omega (arith, length_rotation c.self.inside.first c.self.inside.cells.items, c.self.invariant.numbered)) in
    let next : c.self.inside.next ≡ s.next = ap (λ (t : Store _). t.next) c.self.view_is in
    let all : length (kept_from s c.args.from) ≤ c.loop-number.number - c.args.from =
    omega (arith, next, numbered, c.requires.kept, c.requires.sent, c.loop-number-test.false, length-drop (age s c.args.from) s.kept) in
    c.loop-number.invariant.counted ∙ ap (count_by is_last) (take_all (c.loop-number.number - c.args.from) (kept_from s c.args.from) all)
