use Rattle.std.proofs.Common.{◌≡◌, take}
use Rattle.test_claims.specs.Calls.{after_calls, last_reply}
use Rattle.test_claims.proofs.playing.play.Given as goal

-- the calls so far were made, and the room is as before
abbrev pub invariant-loop-call : goal.invariant-loop-call
invariant-loop-call g l =
    let m = g.M.Reversible in
    record {
      shows : m.shown l.machine ≡ after_calls m (m.shown l.fn.machine) (take l.call-index l.calls);
      last : l.last ≡ last_reply m (m.shown l.fn.machine) (take l.call-index l.calls);
      room : m.reserved l.machine ≡ m.reserved l.fn.machine;
    }
