use Rattle.std.proofs.Common.{◌≡◌, ◌<◌, ℕ, [], Some, length}
use Rattle.std.specs.Prelude.{slice_get}
use Rattle.rw_desk.specs.Passes.{fresh_pass}
use Rattle.rw_seat.proofs.opening.seats_without_hand_seats.Given as goal

abbrev pub invariant-loop-actor : goal.invariant-loop-actor
invariant-loop-actor g l = (length l.seats.items ≡ l.actor)
    × ((a : ℕ) → a < l.actor → slice_get l.seats.items a ≡ Some (record { pass = fresh_pass a; hand_seats = [] }))
