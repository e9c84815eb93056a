use Rattle.std.proofs.Common.{◌≡◌}
use Rattle.example_ticker.proofs.read_rest.Given as goal

-- the book is of the world as it was opened
abbrev pub invariant-loop : goal.invariant-loop
invariant-loop g l = l.ticker.opening ≡ l.fn.ticker.opening
