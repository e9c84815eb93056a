use Rattle.std.proofs.Common.{◌≡◌}
use Rattle.example_ticker.proofs.trade.Given as goal

-- the book is of the world as it was opened
abbrev pub invariant-loop-price : goal.invariant-loop-price
invariant-loop-price g l = l.ticker.opening ≡ l.fn.ticker.opening
