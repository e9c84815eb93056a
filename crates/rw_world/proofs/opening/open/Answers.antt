use Rattle.std.proofs.Common.{◌≤◌, sym, subst}
use Rattle.rw_world.specs.Machines.{of_chan}
use Rattle.rw_world.specs.Row.{weigh}
use Rattle.rw_world.proofs.Specifying.{weigh-opened}
use Rattle.rw_world.proofs.opening.open.Goals as goal

pub returns-clause-light : goal.returns-clause-light
returns-clause-light g c = subst (λ xs. weigh (of_chan {V = g.row.V.Denot}) xs ≤ 2) (sym c.in_ok-open_all.ensures) (weigh-opened c.args.specs.now)
