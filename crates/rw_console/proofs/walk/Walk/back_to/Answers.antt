use Rattle.std.proofs.Common.{refl}
use Rattle.rw_navigator.specs.Conditions.{holds_of_shown}
use Rattle.rw_console.proofs.walk.Walk.back_to.Goals as goal

-- what the debugger finds is the run's hit
pub returns-in_default-clause-found : goal.returns-in_default-clause-found
returns-in_default-clause-found c =
    let found = c.back_to-found.ensures.found (holds_of_shown c.args.cond) (λ x. refl) in
    rw (← c.self.view_is, ← c.keep_index.ensures) (rw c.bring.ensures.place at (rw c.bring.ensures.run at found))
