use Rattle.std.proofs.Common.{◌≡◌, ◌++◌, take}
use Rattle.std.specs.List.{flat_map}
use Rattle.rw_answers.specs.LossLines.{loss_line}
use Rattle.rw_answers.proofs.loss_lines.push_losses.Given as goal

abbrev pub invariant-loop-loss : goal.invariant-loop-loss
invariant-loop-loss l = l.out.items ≡ l.initial.out.items ++ flat_map loss_line (take l.loss-index l.losses)
