use Rattle.rw_world.specs.Machines.{of_chan}
use Rattle.rw_recording.proofs.Entries.{one_more_made}
use Rattle.rw_recording.proofs.channels.make_all.Goals as goal

pub loop-i-preserved : goal.loop-i-preserved
loop-i-preserved c =
    one_more_made (of_chan.shown c.args.channel.now) (of_chan.shown c.loop-i.channel) (of_chan.shown c.make.new.channel) c.args.calls.now c.loop-i.i _
    c.to_call-call.result c.loop-i-test.true c.loop-i.invariant c.to_call-call.ensures c.in_ok-_reply.ensures.shown
