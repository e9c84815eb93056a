use Rattle.rw_steps.proofs.Telling.{told_by_flat}
use Rattle.rw_steps.proofs.steps.call.Goals as goal

pub returns : goal.returns
returns g c =
    let x = g.C.Records.shown_in c.args.channel.now in
    record {
      made = c.record.result;
      recorded = c.record.ensures.recorded;
      reply_is = c.of_others.ensures;
      told_is = λ other. told_by_flat x c.args.call c.record.result c.of_others.result other c.of_others.ensures c.record.ensures.reply;
    }
