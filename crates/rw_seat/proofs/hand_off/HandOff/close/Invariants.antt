use Rattle.std.proofs.Common.{◌≡◌, ◌⊎◌, ℕ, List, [], ◌∷◌, false, map, All, length}
use Rattle.rw_seat.specs.Journals.{IsIn, IsQuiet}
use Rattle.rw_seat.specs.Rule.{Known}
use Rattle.rw_seat.proofs.hand_off.HandOff.close.Given as goal

abbrev pub invariant-loop-hand_seat : goal.invariant-loop-hand_seat
invariant-loop-hand_seat g l = record {
  of_table : (l.all.table_id ≡ l.fn.self.home.table) × (l.all.me.1 ≡ []) × (l.all.me.0.held ≡ false);
  living : (n : ℕ) × IsIn n l.all.me.0.numbers;
  fit : All (λ s. s.home ≡ l.fn.self.home) l.seats.items;
  numbers : (n : ℕ) → IsIn n (map (λ s. s.number) l.fn.seats.items) → IsIn n (map (λ s. s.number) l.seats.items) ⊎ IsIn n l.all.me.0.numbers;
  fronts : (h : List g.row.B-Entry.Denot) → Known g.B.Keeps.author h l.all.me.0 → All (λ s. IsQuiet g.B.Keeps.author (s.number ∷ []) s.front h) l.seats.items
      → All (λ s. IsQuiet g.B.Keeps.author (s.number ∷ []) s.front h) l.fn.seats.items;
}

abbrev pub decreases-loop-hand_seat : goal.decreases-loop-hand_seat
decreases-loop-hand_seat g l = length l.seats.items
