use Rattle.std.proofs.Common.{◌∙◌, ap₂}
use Rattle.rw_waiting.specs.Told.{told_by_counts}
use Rattle.rw_steps.specs.Replies.{told_with}
use Rattle.rw_steps.proofs.Telling.{told_by_flat_counted}
use Rattle.rw_steps.proofs.steps.step.Goals as goal

pub returns : goal.returns
returns g c =
    let x = g.C.Records.shown_in c.args.channel.now in
    let y = g.C.Records.shown_in c.record.new.self in
    record {
      made = c.record.result;
      recorded = c.record.ensures.recorded;
      reply_is = c.of-reply.ensures;
      told_is =
          c.counted.ensures
          ∙ ap₂ (λ b l. told_with (told_by_counts b l) c.of-reply.result) c.counts-before.ensures c.counts-left.ensures
          ∙ told_by_flat_counted x c.args.call y c.record.result c.of-reply.result c.of-reply.ensures c.record.ensures.reply c.record.ensures.shown;
    }
