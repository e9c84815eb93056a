use Rattle.std.proofs.Common.{sym, subst}
use Rattle.rw_recording.specs.Leading.{IsLeading}
use Rattle.rw_recording.proofs.Needing.{led_on}
use Rattle.rw_recording.proofs.leading.Leading.make.Goals as goal
use Rattle.rw_recording.proofs.leading.Leading.make.Goals.{in-Ok, in-Err}

pub invariant_of-self : goal.invariant_of-self
invariant_of-self c =
    let i = c.self.inside in
    elim c.match-call.branch [
      | in-Ok w ↦ led_on i.recording c.call.new.self i.actor i.clock c.args.call c.self.invariant w.in-Ok.ensures.0
      | in-Err w ↦ subst (λ r. IsLeading r i.actor i.clock) (sym w.in-Err.ensures.0) c.self.invariant
    ]
