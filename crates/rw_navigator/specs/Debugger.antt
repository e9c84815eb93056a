-- A debugger: a machine at a place of a run.
use Rattle.std.specs.Prelude.{◌≡◌, ℕ, ◌≤◌, IfSome, List, Option, unwrap_or}
use Rattle.rw_journal.specs.Run.{Run}
use Rattle.rw_law.specs.Journal.{after}
use Rattle.rw_world.specs.declared.opening.Spec.{Spec}
use Rattle.rw_world.specs.declared.rows.RowCall.{RowCall}
use Rattle.rw_world.specs.declared.channels.Chan.{Chan}
use Rattle.rw_world.specs.declared.channels.ChanCall.{ChanCall}
use Rattle.rw_world.specs.declared.channels.ChanReply.{ChanReply}
use Rattle.rw_world.specs.declared.channels.ChanPatch.{ChanPatch}
use Rattle.rw_world.specs.Machines.{ChanShown, of_world}
use Rattle.rw_world.specs.Records.{documented_at, IsDocumented}
use Rattle.rw_world.specs.Specified.{WorldEntry}
use Rattle.rw_navigator.specs.declared.moves.Move.{Move}
use Rattle.rw_navigator.specs.Counted.{Counted, count_after}
use Rattle.rw_navigator.specs.Moves.{landing, distance, landing_all, distance_all}
use Rattle.rw_navigator.specs.Navigator.{IsNavigator, Navigator, start_of}
use Rattle.rw_navigator.specs.Places.{last_place, shown_at}

-- the run, the place, what the machine shows, and how many calls it has had
pub record Debugger (V : Type 0) : Type 0 where
  pub run : Run V
  pub place : ℕ
  pub shown : List (ChanShown V)
  pub turns : ℕ

-- a visit to the journal of a world
abbrev pub Visit : Type 0 → Type 0
Visit V = Navigator (List (Chan V)) (RowCall (ChanCall V)) (ChanReply V) (ChanPatch V)

module _ {V : Type 0} where
  -- the run of these specs and entries
  abbrev pub as_run : List (Spec V) → List (WorldEntry V) → Run V
  as_run specs es = record { specs = specs; entries = es }

  -- the debugger is at place p of the run and shows what is documented there; its machine has had no call yet
  pub record StandsAt (d : Debugger V) (run : Run V) (p : ℕ) : Type 0 where
    pub run_is : d.run ≡ run
    pub place : d.place ≡ p
    pub shown : d.shown ≡ shown_at run p
    pub turns : d.turns ≡ 0

  -- the debugger went to place p of its run by n calls of its machine, and shows what is documented there
  pub record WentTo (old new : Debugger V) (p n : ℕ) : Type 0 where
    pub run : new.run ≡ old.run
    pub place : new.place ≡ p
    pub shown : new.shown ≡ shown_at old.run p
    pub turns : new.turns ≡ count_after old.turns n

  -- it went where the move leads, by one call of its machine per place
  abbrev pub WentBy : (old new : Debugger V) → Move → Type 0
  WentBy old new move =
      let last = last_place old.run in
      WentTo old new (landing last old.place move) (distance last old.place move)

  -- the same for a list of moves
  abbrev pub WentAlong : (old new : Debugger V) → List Move → Type 0
  WentAlong old new moves =
      let last = last_place old.run in
      WentTo old new (landing_all last old.place moves) (distance_all last old.place moves)

  -- it went to the place that was found, or stayed at its place if none was, after at most this many calls
  abbrev pub FoundAt : (old new : Debugger V) → Option ℕ → ℕ → Type 0
  FoundAt old new found most = (n : ℕ) × (n ≤ most) × WentTo old new (unwrap_or found old.place) n

  -- ---- inside

  -- what callers see of a visit to the journal of these specs
  abbrev pub debugger_at : List (Spec V) → Visit V → Debugger V
  debugger_at specs visit = record {
    run = as_run specs visit.entries;
    place = visit.place;
    shown = (of_world {V = V}).shown visit.machine.state;
    turns = visit.machine.turns;
  }

  -- at each place of the visited journal the documented state is shown, each reply is the documented one, and what is indexed, if
  -- anything is, are its entries
  pub record IsDebugger (specs : List (Spec V)) (visit : Visit V) (kept : Option (List (WorldEntry V))) : Type 0 where
    pub shows : (n : ℕ) → after of_world (start_of of_world visit) visit.entries n ≡ documented_at specs visit.entries n
    pub documented : IsDocumented specs visit.entries
    pub indexed : IfSome kept (λ es. es ≡ visit.entries)

  -- a visit to these entries by this machine, at a place
  abbrev pub visit_of : List (WorldEntry V) → Counted (List (Chan V)) → ℕ → Visit V
  visit_of es machine place = record { machine = machine; entries = es; place = place }

  -- the machine is at this place of a run that others have
  pub record IsVisitor (run : Run V) (machine : Counted (List (Chan V))) (place : ℕ) (kept : Option (List (WorldEntry V))) : Type 0 where
    pub visits : IsNavigator of_world (visit_of run.entries machine place)
    pub debugs : IsDebugger run.specs (visit_of run.entries machine place) kept
