use Rattle.rw_values.proofs.Watching.{stores_the_last}
use Rattle.rw_values.proofs.laws.watch_stores.Goals as goal

pub returns : goal.returns
returns g c = stores_the_last _ _
