use Rattle.std.proofs.Common.{ap, subst, ◌∙◌}
use Rattle.rw_law.specs.Journal.{IsLegal}
use Rattle.rw_journal.specs.Interleaving.{journal_of}
use Rattle.rw_script.proofs.running.run_book.Goals as goal

pub returns-clause-entries : goal.returns-clause-entries
returns-clause-entries g c =
    let m = g.M.Reversible in
    let es = c.run_steps.new.book.entries in
    let x = m.shown c.args.start in
    c.journal_of_an_interleaving.ensures.one x 0 es
    (subst (λ y. IsLegal m y es) (c.in_ok-waits.ensures.opened ∙ ap m.shown c.in_ok-book.ensures.opening) c.book_law.ensures.legal) c.in_ok-waits.ensures.stamps
    ∙ ap (journal_of m x 0) c.in_ok-waits.ensures.calls
