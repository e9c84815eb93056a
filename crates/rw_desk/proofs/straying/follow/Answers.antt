use Rattle.std.proofs.Common.{get_or, refl, arith}
use Rattle.std.proofs.lemmas.Option.{slice_get_within}
use Rattle.rw_desk.specs.Settling.{receipt_of}
use Rattle.rw_desk.proofs.straying.follow.Goals as goal

pub returns-then-not-is_next-clause-same : goal.returns-then-not-is_next-clause-same
returns-then-not-is_next-clause-same g c = rw (← c.receipts_of.ensures) c.if-not-is_next.ensures

pub overflow_add-numbers : goal.overflow_add-numbers
overflow_add-numbers g c =
    let within = slice_get_within c.receipts_of.result.now (get_or c.args.numbers.now c.args.entry.now.actor 0) (receipt_of c.args.entry.now)
    (c.if-not-is_next.ensures.0 refl) in
    omega (arith, within)

pub returns-clause-same : goal.returns-clause-same
returns-clause-same g c = rw (← c.receipts_of.ensures) c.if-not-is_next.ensures

pub returns-clause-numbers : goal.returns-clause-numbers
returns-clause-numbers g c = refl
