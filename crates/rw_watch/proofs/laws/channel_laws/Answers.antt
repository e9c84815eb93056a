use Rattle.rw_watch.proofs.Alike.{alike_twice, renamed_are_alike, replies_alike, replies_alike_throughout}
use Rattle.rw_watch.proofs.Forgetting.{replies_recent}
use Rattle.rw_watch.proofs.Renaming.{replies_renamed}
use Rattle.rw_watch.proofs.Showing.{is_shown_by_some, replies_by_record, shows_allowed, shows_its_record, shows_its_steps}
use Rattle.rw_watch.proofs.laws.channel_laws.Goals as goal

pub returns-clause-steps : goal.returns-clause-steps
returns-clause-steps g c = shows_its_steps _

pub returns-clause-record : goal.returns-clause-record
returns-clause-record g c = shows_its_record _

pub returns-clause-replies : goal.returns-clause-replies
returns-clause-replies g c = replies_by_record _

pub returns-clause-allowed : goal.returns-clause-allowed
returns-clause-allowed g c = shows_allowed _

pub returns-clause-shown : goal.returns-clause-shown
returns-clause-shown g c = is_shown_by_some _

pub returns-clause-renamed : goal.returns-clause-renamed
returns-clause-renamed g c = replies_renamed _

pub returns-clause-recent : goal.returns-clause-recent
returns-clause-recent g c = replies_recent _

pub returns-clause-alike : goal.returns-clause-alike
returns-clause-alike g c = replies_alike _

pub returns-clause-throughout : goal.returns-clause-throughout
returns-clause-throughout g c = replies_alike_throughout _

pub returns-clause-renamed_alike : goal.returns-clause-renamed_alike
returns-clause-renamed_alike g c = renamed_are_alike _

pub returns-clause-alike_twice : goal.returns-clause-alike_twice
returns-clause-alike_twice g c = alike_twice _
