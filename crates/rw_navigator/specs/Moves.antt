-- Moves between the places of a journal, 0 to its length.
use Rattle.std.specs.Prelude.{ℕ, ◌+◌, ◌-◌, length, nat_le, if◌then◌else◌, Option, Some, None, Result, Ok, Err, List, [], ◌∷◌, unwrap_or}
use Rattle.rw_navigator.specs.declared.moves.Move.{Move}
use Rattle.rw_navigator.specs.declared.moves.Move.TheVariants.{Back, Forward, Goto, Start, End}
use Rattle.rw_navigator.specs.declared.moves.OutOfRange.{OutOfRange}
use Rattle.rw_law.specs.declared.machine.Reversible.{Ghosts}
use Rattle.rw_navigator.specs.Navigator.{Navigator, MovedTo}

-- the place of this number, if it is one of 0 to len
abbrev pub place_at : ℕ → ℕ → Option ℕ
place_at len p = if nat_le p len then Some p else None

-- where a move from place p leads
abbrev pub place_after : ℕ → ℕ → Move → Option ℕ
place_after len p (Back n) = if nat_le n p then Some (p - n) else None
place_after len p (Forward n) = place_at len (p + n)
place_after len p (Goto n) = place_at len n
place_after len p Start = Some 0
place_after len p End = Some len

-- the result of a move: it is refused if it leads to no place
abbrev pub answer_of : Option ℕ → Result (Unit {0}) OutOfRange
answer_of (Some p) = Ok tt
answer_of None = Err (record {})

abbrev pub answer_to : ℕ → ℕ → Move → Result (Unit {0}) OutOfRange
answer_to len p move = answer_of (place_after len p move)

-- the place after a move, which a refused move doesn't change
abbrev pub landing : ℕ → ℕ → Move → ℕ
landing len p move = unwrap_or (place_after len p move) p

-- the number of entries between two places
abbrev pub distance_between : ℕ → ℕ → ℕ
distance_between p q = (p - q) + (q - p)

-- how far a move goes
abbrev pub distance : ℕ → ℕ → Move → ℕ
distance len p move = distance_between p (landing len p move)

-- the result of each move, in order
abbrev pub answers_to : ℕ → ℕ → List Move → List (Result (Unit {0}) OutOfRange)
answers_to len p [] = []
answers_to len p (move ∷ moves) = answer_to len p move ∷ answers_to len (landing len p move) moves

-- the place after all moves
abbrev pub landing_all : ℕ → ℕ → List Move → ℕ
landing_all len p [] = p
landing_all len p (move ∷ moves) = landing_all len (landing len p move) moves

-- how far all moves go, added up
abbrev pub distance_all : ℕ → ℕ → List Move → ℕ
distance_all len p [] = 0
distance_all len p (move ∷ moves) = distance len p move + distance_all len (landing len p move) moves

module _ {M C R P : Type 0} (m : Ghosts M C R P) where
  -- the new visit is where the move leads from the old one, by one call of the machine per place
  abbrev pub MovedBy : (old new : Navigator M C R P) → Move → Type 0
  MovedBy old new move =
      let len = length old.entries in
      MovedTo m old new (landing len old.place move) (distance len old.place move)

  -- the same for a list of moves
  abbrev pub WalkedBy : (old new : Navigator M C R P) → List Move → Type 0
  WalkedBy old new moves =
      let len = length old.entries in
      MovedTo m old new (landing_all len old.place moves) (distance_all len old.place moves)
