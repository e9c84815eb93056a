-- `follow_all` finds the least actor with an entry that isn't its next receipt, and how many receipts of each lower actor are its entries.
use Rattle.std.proofs.Common.{◌≡◌, ◌≢◌, ◌<◌, ℕ, false, true, Some, get_or, length, map, [], ◌+◌, ◌∙◌, refl, sym, subst, arith}
use Rattle.std.specs.Prelude.{slice_get}
use Rattle.std.proofs.lemmas.List.{take_all, length-set, length-replicate, get_or-replicate}
use Rattle.rw_desk.specs.Closing.{receipts_of}
use Rattle.rw_desk.specs.Settling.{receipt_of}
use Rattle.rw_desk.specs.Straying.{AreAt, IsAt}
use Rattle.rw_desk.proofs.Following.{moved, skipped, stuck_below, stuck_here}
use Rattle.rw_desk.proofs.straying.follow_all.Goals as goal
use Rattle.rw_desk.proofs.straying.follow_all.Goals.{then-entry-nearest+then-not-follow, else-entry-nearest}
use Rattle.rw_desk.proofs.straying.follow_all.Goals.{else-entry-nearest-via-then-entry-nearest+else-not-follow}
use Rattle.rw_desk.proofs.straying.follow_all.Goals.{else-entry-nearest-via-else-entry-nearest}

pub loop-entry-init : goal.loop-entry-init
loop-entry-init g c =
    let IsStart : ℕ → ℕ → Type 0 = λ a number. IsAt {V = g.row.V.Denot} (map g.P.HasPass.pass_of c.args.passes.now) [] a number in
    rw c.requires.numbers (
      length-replicate {A = ℕ} 64 0,
      omega arith,
      λ a below. subst (IsStart a) (sym (get_or-replicate {A = ℕ} 64 a 0 0 below)) (record { same = refl; within = omega arith }),
      λ below. absurd (omega arith),
    )

pub loop-entry-preserved : goal.loop-entry-preserved
loop-entry-preserved g c =
    let es = c.args.entries.now in
    let ps = map g.P.HasPass.pass_of c.args.passes.now in
    let e = c.entry-item.result in
    let i = c.loop-entry.entry-index in
    let numbers = c.loop-entry.numbers in
    let bound = c.loop-entry.nearest.actor in
    let within = c.loop-entry-test.true in
    let at = c.entry-item.is in
    let inv = c.loop-entry.invariant in
    elim c.if-entry-nearest.branch [
      | then-entry-nearest+then-not-follow w ↦
          let below = w.if-entry-nearest.true in
          let other : slice_get (receipts_of e.actor ps) (get_or numbers e.actor 0) ≢ Some (receipt_of e) =
          λ h. let both : false ≡ true = w.if-not-follow.ensures.same.1 h in cc in
          rw (w.nearest-is, w.numbers-is, w.if-not-follow.ensures.numbers) (
            inv.0,
            omega (arith, below, inv.1),
            stuck_below ps es i e within at numbers bound inv.2 below,
            λ known. stuck_here ps es i e within at numbers bound inv.2 below other,
          )
      | else-entry-nearest w ↦ elim w.else-entry-nearest.branch [
        | else-entry-nearest-via-then-entry-nearest+else-not-follow v ↦
            let below = v.if-entry-nearest.true in
            let wide : e.actor < length numbers = omega (arith, below, inv.0, inv.1) in
            rw (w.nearest-is, w.numbers-is, v.numbers-is, v.if-not-follow.ensures.numbers) (
              length-set numbers e.actor (get_or numbers e.actor 0 + 1) ∙ inv.0,
              inv.1,
              moved ps es i e within at numbers bound inv.2 below wide (v.if-not-follow.ensures.same.0 refl),
              inv.3,
            )
        | else-entry-nearest-via-else-entry-nearest v ↦
            rw (w.nearest-is, w.numbers-is, v.numbers-is)
            (inv.0, inv.1, skipped ps es i e within at numbers bound inv.2 (omega (arith, v.if-entry-nearest.false)), inv.3)
      ]
    ]

pub returns-clause-at : goal.returns-clause-at
returns-clause-at g c =
    subst (λ es. AreAt (map g.P.HasPass.pass_of c.args.passes.now) es c.loop-entry.numbers c.loop-entry.nearest.actor)
    (take_all c.loop-entry.entry-index c.args.entries.now (omega arith)) c.loop-entry.invariant.2
