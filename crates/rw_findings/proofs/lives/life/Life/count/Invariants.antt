use Rattle.std.proofs.Common.{◌≡◌, ℕ, ◌+◌, ◌-◌, length}
use Rattle.std.specs.Prelude.{slice_index_or}
use Rattle.rw_findings.proofs.lives.life.Life.count.Given as goal

abbrev pub invariant-each_missing : goal.invariant-each_missing
invariant-each_missing l = record {
  kind : l.self-inside.kind ≡ l.fn.self.kind;
  made : l.self-inside.made ≡ l.fn.self.made;
  maker : l.self-inside.maker ≡ l.fn.self.maker;
  dropped : l.self-inside.dropped ≡ l.fn.self.dropped;
  calls : (other : ℕ) → slice_index_or l.self-inside.calls.items other 0 ≡ slice_index_or l.fn.self.calls other 0;
  actor : l.actor-2 ≡ l.actor;
}

abbrev pub decreases-each_missing : goal.decreases-each_missing
decreases-each_missing l = l.actor + 1 - length l.self-inside.calls.items
