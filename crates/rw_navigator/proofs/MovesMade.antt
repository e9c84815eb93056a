-- A walk continues by one move.
use Rattle.std.proofs.Common.{◌≡◌, ℕ, ◌+◌, ◌<◌, List, [], ◌∷◌, ◌++◌, length, take, get_or, sym, ◌∙◌, ap, subst}
use Rattle.std.proofs.lemmas.List.{take_more}
use Rattle.std.specs.Prelude.{Result}
use Rattle.rw_law.specs.declared.machine.Reversible.{Ghosts}
use Rattle.rw_navigator.specs.declared.moves.Move.{Move}
use Rattle.rw_navigator.specs.declared.moves.OutOfRange.{OutOfRange}
use Rattle.rw_navigator.specs.Moves.{answer_to, landing, distance, answers_to, landing_all, distance_all, MovedBy}
use Rattle.rw_navigator.specs.Navigator.{Navigator, MovedTo}
use Rattle.rw_navigator.proofs.Visits.{moved_on}
use Rattle.rw_navigator.proofs.MoveLists.{answers_to-push, landing_all-push, distance_all-push}

answers_to-more : (len p q : ℕ) (moves : List Move) (i : ℕ) (d : Move) → i < length moves → q ≡ landing_all len p (take i moves)
    → answers_to len p (take (i + 1) moves) ≡ answers_to len p (take i moves) ++ answer_to len q (get_or moves i d) ∷ []
answers_to-more len p q moves i d left there =
    ap (answers_to len p) (take_more moves i d left)
    ∙ (answers_to-push len p (take i moves) (get_or moves i d)
    ∙ ap (λ r. answers_to len p (take i moves) ++ answer_to len r (get_or moves i d) ∷ []) (sym there))

-- the result of move i is appended to the results of the moves before it
pub told_on : (len p n q : ℕ) (moves : List Move) (i : ℕ) (d : Move) (old new : List (Result (Unit {0}) OutOfRange)) (r : Result (Unit {0}) OutOfRange)
    → i < length moves → new ≡ old ++ r ∷ [] → r ≡ answer_to n q (get_or moves i d) → n ≡ len → q ≡ landing_all len p (take i moves)
    → old ≡ answers_to len p (take i moves) → new ≡ answers_to len p (take (i + 1) moves)
told_on len p n q moves i d old new r left longer answer same there told =
    longer
    ∙ (ap (λ x. old ++ x ∷ []) (answer ∙ ap (λ l. answer_to l q (get_or moves i d)) same)
    ∙ (ap (λ xs. xs ++ answer_to len q (get_or moves i d) ∷ []) told ∙ sym (answers_to-more len p q moves i d left there)))

module _ {M C R P : Type 0} (m : Ghosts M C R P) where
  -- the way of the moves before move i, and then of move i
  pub walked_on : (u v w : Navigator M C R P) (moves : List Move) (i : ℕ) (d : Move) → i < length moves
      → MovedTo m u v (landing_all (length u.entries) u.place (take i moves)) (distance_all (length u.entries) u.place (take i moves))
      → MovedBy m v w (get_or moves i d)
      → MovedTo m u w (landing_all (length u.entries) u.place (take (i + 1) moves)) (distance_all (length u.entries) u.place (take (i + 1) moves))
  walked_on u v w moves i d left before step =
      let len : ℕ = length u.entries in
      let made : List Move = take i moves in
      let one : Move = get_or moves i d in
      let q : ℕ = landing_all len u.place made in
      let same : length v.entries ≡ len = ap length before.entries in
      let onward : MovedTo m v w (landing len q one) (distance len q one) =
      subst (λ r. MovedTo m v w (landing len r one) (distance len r one)) before.place
      (subst (λ n. MovedTo m v w (landing n v.place one) (distance n v.place one)) same step) in
      let more : take (i + 1) moves ≡ made ++ one ∷ [] = take_more moves i d left in
      subst (λ ms. MovedTo m u w (landing_all len u.place ms) (distance_all len u.place ms)) (sym more)
      (subst (λ r. MovedTo m u w r (distance_all len u.place (made ++ one ∷ []))) (sym (landing_all-push len u.place made one))
      (subst (λ n. MovedTo m u w (landing len q one) n) (sym (distance_all-push len u.place made one))
      (moved_on m u v w q (landing len q one) (distance_all len u.place made) (distance len q one) before onward)))
