use Rattle.std.proofs.Common.{◌<◌, All, take}
use Rattle.rw_script.proofs.threads.are_of.Given as goal

abbrev pub invariant-loop-entry : goal.invariant-loop-entry
invariant-loop-entry l = All (λ e. e.actor < l.actors) (take l.entry-index l.entries)
