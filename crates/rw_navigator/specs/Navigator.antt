-- A visit to a journal: a machine at one of its places.
use Rattle.std.specs.Prelude.{◌≡◌, ℕ, ◌≤◌, ◌-◌, ◌^◌, List, length, take}
use Rattle.rw_law.specs.declared.machine.Reversible.{Ghosts}
use Rattle.rw_law.specs.declared.journal.Entry.{Entry}
use Rattle.rw_law.specs.Journal.{after_all, after, IsLegal, before_all}
use Rattle.rw_law.specs.Room.{HasRoom}
use Rattle.rw_navigator.specs.Counted.{Counted, count_after}

-- the machine, the journal's entries, and the place: how many of the entries lead to the machine's state
pub record Navigator (M C R P : Type 0) : Type 0 where
  pub machine : Counted M
  pub entries : List (Entry M C R P)
  pub place : ℕ

module _ {M C R P : Type 0} (m : Ghosts M C R P) where
  -- where the journal starts: what undoing the entries before the place leads to
  abbrev pub start_of : Navigator M C R P → m.View
  start_of v = before_all m (m.shown v.machine.state) (take v.place v.entries)

  -- a machine that shows the state at a place of a legal journal, with room for the calls of its entries
  pub record IsNavigator (v : Navigator M C R P) : Type 0 where
    pub allowed : m.allowed (start_of v)
    pub legal : IsLegal m (start_of v) v.entries
    pub shows : m.shown v.machine.state ≡ after m (start_of v) v.entries v.place
    pub inside : v.place ≤ length v.entries
    pub counted : v.machine.turns ≤ 2 ^ 64 - 1
    pub room : HasRoom m (start_of v) v.entries (m.reserved v.machine.state)

  -- a machine that has made the calls of a legal journal from x, and has room to make them again
  pub record IsAtEnd (x : m.View) (machine : M) (es : List (Entry M C R P)) : Type 0 where
    pub allowed : m.allowed x
    pub legal : IsLegal m x es
    pub shows : m.shown machine ≡ after_all m x es
    pub room : HasRoom m x es (m.reserved machine)

  -- the new visit is to the same journal at place p, shows the state there, and has made n calls more
  pub record MovedTo (old new : Navigator M C R P) (p n : ℕ) : Type 0 where
    pub start : start_of new ≡ start_of old
    pub entries : new.entries ≡ old.entries
    pub place : new.place ≡ p
    pub shows : m.shown new.machine.state ≡ after m (start_of old) old.entries p
    pub turns : new.machine.turns ≡ count_after old.machine.turns n
