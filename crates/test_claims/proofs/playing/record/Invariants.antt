use Rattle.std.proofs.Common.{◌≡◌, ◌++◌, take}
use Rattle.test_claims.specs.Calls.{calls_of}
use Rattle.test_claims.proofs.playing.record.Given as goal

-- the calls so far were recorded
abbrev pub invariant-loop-call : goal.invariant-loop-call
invariant-loop-call g l =
    record {
      calls : calls_of l.book.entries ≡ calls_of l.fn.book.entries ++ take l.call-index l.calls;
      opening : l.book.opening ≡ l.fn.book.opening;
    }
