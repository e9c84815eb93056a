use Rattle.std.proofs.Common.{◌∙◌, ap, length}
use Rattle.rw_findings.specs.LateReaders.{with_all_readers, with_closings}
use Rattle.rw_findings.proofs.closings.finding.listed.Goals as goal

pub push_closings-requires : goal.push_closings-requires
push_closings-requires c = c.requires.few

pub push_readers-requires-clause-few : goal.push_readers-requires-clause-few
push_readers-requires-clause-few c = c.requires.few

pub push_readers-requires-clause-small : goal.push_readers-requires-clause-small
push_readers-requires-clause-small c = c.requires.small

pub returns-clause-channels : goal.returns-clause-channels
returns-clause-channels c =
    let ks = c.args.closed.now in
    c.in_ok-push_closings.ensures ∙ ap (λ closings. with_closings closings ks (length ks)) c.new-channels.ensures.items

pub returns-clause-readers : goal.returns-clause-readers
returns-clause-readers c =
    let ks = c.args.closed.now in
    c.in_ok-push_readers.ensures ∙ ap (λ readers. with_all_readers readers ks (length ks)) c.new-readers.ensures.items
