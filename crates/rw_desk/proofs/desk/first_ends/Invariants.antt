use Rattle.std.proofs.Common.{◌≡◌, ◌<◌, ℕ, length}
use Rattle.std.specs.Prelude.{slice_get}
use Rattle.rw_desk.specs.Desks.{ends_at}
use Rattle.rw_desk.proofs.desk.first_ends.Given as goal

abbrev pub invariant-loop-channel : goal.invariant-loop-channel
invariant-loop-channel g l = (length l.ends.items ≡ l.channel) × ((c : ℕ) → c < l.channel → slice_get l.ends.items c ≡ ends_at c (slice_get l.specs c))
