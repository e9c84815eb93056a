use Rattle.std.proofs.Common.{◌≡◌, ℕ, List, [], ◌∷◌, ◌++◌, Option, Some, refl, sym, ap, ◌∙◌, subst}
use Rattle.atomic_table.specs.Table.{opening}
use Rattle.rw_seat.specs.Rule.{HasOneBook, resting, numbers_from}
use Rattle.rw_seat.proofs.Steps.{makes}
use Rattle.rw_seat.proofs.hand_off.HandOff.open.Goals as goal

pub new-requires : goal.new-requires
new-requires g c =
    let author = g.B.Keeps.author in
    let start = g.B.Keeps.start in
    let journal = g.B.Keeps.journal in
    let n : ℕ = c.args.seats in
    let b : g.row.B.Denot = c.args.book in
    let slots : List (Option g.row.B.Denot) = c.push_reserved.new.self.items in
    let is : slots ≡ Some b ∷ [] = c.push_reserved.ensures.items ∙ ap (λ (l : List (Option g.row.B.Denot)). l ++ Some b ∷ []) c.in_ok-slots.ensures.items in
    let seen : c.of.result.value ≡ b = c.of.ensures in
    subst (λ (z : List (Option g.row.B.Denot) × g.row.B.Denot). HasOneBook author start journal (start z.1) n
    (opening (0 ∷ []) z.0 (resting (numbers_from 0 n) (Some (start z.1)) (journal z.1))))
    (λ i. (sym is i, sym seen i)) (makes author start journal (start b) n b refl)
