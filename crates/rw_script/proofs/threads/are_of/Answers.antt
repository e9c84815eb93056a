use Rattle.std.proofs.Common.{◌<◌, ℕ, All, arith, subst}
use Rattle.std.proofs.lemmas.List.{take_all}
use Rattle.std.proofs.lemmas.List.Elements.{All-more}
use Rattle.rw_world.specs.Specified.{WorldEntry}
use Rattle.rw_script.proofs.threads.are_of.Goals as goal

pub loop-entry-preserved : goal.loop-entry-preserved
loop-entry-preserved c =
    All-more (λ (e : WorldEntry ℕ). e.actor < c.args.actors) c.args.entries.now c.loop-entry.entry-index _ c.loop-entry-test.true c.loop-entry.invariant
    c.if-entry-actors.false

pub returns : goal.returns
returns c many = subst (All (λ (e : WorldEntry ℕ). e.actor < c.args.actors)) (take_all c.loop-entry.entry-index c.args.entries.now (omega arith))
    c.loop-entry.invariant
