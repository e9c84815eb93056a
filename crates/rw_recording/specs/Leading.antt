-- A new channel that calls of one actor lead to what another is like.
use Rattle.std.specs.Prelude.{◌≡◌, ℕ, ◌+◌, ◌<◌, ◌≤◌, true, List, length, All}
use Rattle.rw_law.specs.declared.limits.TheConstants.{MOST_ACTORS}
use Rattle.rw_world.specs.declared.opening.Spec.{Spec}
use Rattle.rw_world.specs.Specified.{ChanEntry}
use Rattle.rw_journal.specs.Book.{last_stamp}
use Rattle.rw_recording.specs.Recordings.{Recording}

-- what stays the same of it: its spec, the actor, the clock after which the calls are stamped, and how many calls it may have
pub record Leading : Type 0 where
  pub spec : Spec ℕ
  pub actor : ℕ
  pub clock : ℕ
  pub most : ℕ

-- the entries are calls of one actor, stamped after its clock
abbrev pub AreBy : (actor clock : ℕ) → List (ChanEntry ℕ) → Type 0
AreBy actor clock es = All (λ e. (e.actor ≡ actor) × (clock < e.stamp)) es

-- what holds of its parts
pub record IsLeading (r : Recording) (actor clock : ℕ) : Type 0 where
  pub recorded : r.is_recorded ≡ true
  pub few : actor < MOST_ACTORS
  pub by : AreBy actor clock r.journal
  pub stamps : last_stamp r.journal ≤ clock + length r.journal
