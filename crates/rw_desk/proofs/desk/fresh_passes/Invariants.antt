use Rattle.std.proofs.Common.{◌≡◌, ◌<◌, ℕ, Some, length}
use Rattle.std.specs.Prelude.{slice_get}
use Rattle.rw_desk.specs.Passes.{fresh_pass}
use Rattle.rw_desk.proofs.desk.fresh_passes.Given as goal

abbrev pub invariant-loop-actor : goal.invariant-loop-actor
invariant-loop-actor g l = (length l.passes.items ≡ l.actor) × ((a : ℕ) → a < l.actor → slice_get l.passes.items a ≡ Some (fresh_pass a))
