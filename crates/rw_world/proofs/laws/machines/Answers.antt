use Rattle.std.proofs.Common.{refl}
use Rattle.rw_world.proofs.laws.machines.Goals as goal

pub returns-clause-channels : goal.returns-clause-channels
returns-clause-channels g c x es = (λ legal. legal, λ legal. legal)

pub returns-clause-worlds : goal.returns-clause-worlds
returns-clause-worlds g c xs es = (λ legal. legal, λ legal. legal)

pub returns-clause-after : goal.returns-clause-after
returns-clause-after g c xs es = refl
