-- One more move at the end of a list of moves.
use Rattle.std.proofs.Common.{◌≡◌, ℕ, ◌+◌, List, [], ◌∷◌, ◌++◌, refl, ap, arith}
use Rattle.rw_navigator.specs.declared.moves.Move.{Move}
use Rattle.rw_navigator.specs.Moves.{answer_to, landing, distance, answers_to, landing_all, distance_all}

pub answers_to-push : (len p : ℕ) (moves : List Move) (move : Move)
    → answers_to len p (moves ++ move ∷ []) ≡ answers_to len p moves ++ answer_to len (landing_all len p moves) move ∷ []
answers_to-push len p [] move = refl
answers_to-push len p (m ∷ moves) move = ap (λ xs. answer_to len p m ∷ xs) (answers_to-push len (landing len p m) moves move)

pub landing_all-push : (len p : ℕ) (moves : List Move) (move : Move)
    → landing_all len p (moves ++ move ∷ []) ≡ landing len (landing_all len p moves) move
landing_all-push len p [] move = refl
landing_all-push len p (m ∷ moves) move = landing_all-push len (landing len p m) moves move

pub distance_all-push : (len p : ℕ) (moves : List Move) (move : Move)
    → distance_all len p (moves ++ move ∷ []) ≡ distance_all len p moves + distance len (landing_all len p moves) move
distance_all-push len p [] move = omega arith
distance_all-push len p (m ∷ moves) move = omega (arith, distance_all-push len (landing len p m) moves move)
