use Rattle.std.proofs.Common.{false}
use Rattle.rw_script.proofs.WellFormedLaws.{step_holds}
use Rattle.rw_script.proofs.reader.ScriptReader.read_step.Goals as goal

pub add_step-requires : goal.add_step-requires
add_step-requires c =
    record {
      step = step_holds _ _ c.args.self.now.lines _ _ _ c.in_ok-target.target false _ c.in_ok-kind.ensures.actor c.in_ok-kind.ensures.channel
          c.in_ok-said.ensures.kind;
    }
