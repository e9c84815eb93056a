use Rattle.std.proofs.Common.{◌≡◌, ◌<◌, ◌≤◌, ℕ, map, take}
use Rattle.rw_desk.specs.Closing.{passes_of}
use Rattle.rw_desk.proofs.strangers.stranger.Given as goal

abbrev pub invariant-loop-actor : goal.invariant-loop-actor
invariant-loop-actor g l = (b : ℕ) → b < l.actor → passes_of b (map g.P.HasPass.pass_of l.passes) ≡ 1

abbrev pub invariant-loop-pass : goal.invariant-loop-pass
invariant-loop-pass g l =
    let ps = map g.P.HasPass.pass_of l.passes in
    ((b : ℕ) → b < l.actors → passes_of b ps ≡ 1) × ((b : ℕ) → l.actors ≤ b → passes_of b (take l.pass-index ps) ≡ 0)
