use Rattle.std.proofs.Common.{rules, ◌≡◌, ◌∙◌, ap, get_or}
use Rattle.std.specs.Prelude.{None, Some}
use Rattle.rw_findings.specs.Receivers.{given_by}
use Rattle.rw_findings.proofs.ReceiptSteps.{receipts_idle, receipts_more}
use Rattle.rw_findings.proofs.starts.receipts.follow.Goals as goal

pub returns-in_ok-raise : goal.returns-in_ok-raise
returns-in_ok-raise g c =
    let run = c.args.run.now in
    let p = c.args.place in
    let e = c.index-entries-place.result in
    let is : given_by e.call.call e.reply ≡ Some c.in-Some.handle = search rules in
    receipts_more run p e c.requires.more (c.index-entries-place.is ∙ ap (λ es. get_or es p e) c.entries.ensures.entries) c.args.given.now c.raise.new.self
    c.in-Some.handle is c.in_ok-raise.ensures c.requires.here

pub returns-in_default : goal.returns-in_default
returns-in_default g c =
    let run = c.args.run.now in
    let p = c.args.place in
    let e = c.index-entries-place.result in
    let none : given_by e.call.call e.reply ≡ None = search rules in
    receipts_idle run p e c.requires.more (c.index-entries-place.is ∙ ap (λ es. get_or es p e) c.entries.ensures.entries) c.args.given.now none c.requires.here
