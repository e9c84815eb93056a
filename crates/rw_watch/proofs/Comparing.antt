-- Handles of two channels, one by one.
use Rattle.std.proofs.Common.{◌≡◌, ℕ, zero, suc, ◌+◌, ◌<◌, Bool, true, false, cond, List, [], ◌∷◌, ◌++◌, length, map, take, get_or, refl, ap, ◌∙◌, subst}
use Rattle.std.specs.Prelude.{Option, Some, None}
use Rattle.std.proofs.lemmas.List.{length-map, map_push, take_more}
use Rattle.rw_handles.specs.declared.kinds.Slot.{Slot}
use Rattle.rw_handles.specs.declared.kinds.Slot.TheVariants.{Live, Spent}
use Rattle.rw_handles.specs.Renaming.{IsRenaming, number_before}
use Rattle.rw_handles.proofs.Changing.{renaming_changed}
use Rattle.rw_watch.specs.Alike.{IsAlike, seen_slot}
use Rattle.rw_watch.specs.Channel.{is_unseen}
use Rattle.rw_watch.specs.Recent.{recent_slot, recent}
use Rattle.rw_watch.specs.Shown.{Shown}

pub one_more_seen : (version : ℕ) (slots : List (Slot (Option ℕ))) (i : ℕ) (d : Slot (Option ℕ)) → i < length slots
    → map (seen_slot version) (take (i + 1) slots) ≡ map (seen_slot version) (take i slots) ++ seen_slot version (get_or slots i d) ∷ []
one_more_seen version slots i d within = ap (map (seen_slot version)) (take_more slots i d within)
    ∙ map_push (seen_slot version) (take i slots) (get_or slots i d)

-- the mark of version 0 that says whether the value was seen
abbrev marked_slot : Slot ℕ → Slot (Option ℕ)
marked_slot (Live kind zero) = Live kind None
marked_slot (Live kind (suc n)) = Live kind (Some 0)
marked_slot Spent = Spent

marked_seen : (version : ℕ) (slot : Slot (Option ℕ)) → marked_slot (seen_slot version slot) ≡ recent_slot version slot
marked_seen version (Live kind mark) = by_test (is_unseen version mark) where
  by_test : (b : Bool) → marked_slot (Live kind (cond b 0 1)) ≡ Live kind (cond b None (Some 0))
  by_test true = refl
  by_test false = refl
marked_seen version Spent = refl

all_marked_seen : (version : ℕ) (slots : List (Slot (Option ℕ))) → map marked_slot (map (seen_slot version) slots) ≡ map (recent_slot version) slots
all_marked_seen version [] = refl
all_marked_seen version (slot ∷ slots) =
    ap (λ t. t ∷ map marked_slot (map (seen_slot version) slots)) (marked_seen version slot)
    ∙ ap (λ l. recent_slot version slot ∷ l) (all_marked_seen version slots)

alike_by_seen : (to : ℕ → ℕ) (x y : Shown ℕ) → y.value ≡ x.value → IsRenaming to (map (seen_slot x.version) x.slots) (map (seen_slot y.version) y.slots)
    → IsAlike to x y
alike_by_seen to x y same is = record {
  same = ap (λ v. record (recent y) { value = v }) same;
  renaming =
      let marked = renaming_changed to (map (seen_slot x.version) x.slots) (map (seen_slot y.version) y.slots) marked_slot refl is in
      subst (λ l. IsRenaming to l (recent y).slots) (all_marked_seen x.version x.slots)
      (subst (λ l. IsRenaming to (map marked_slot (map (seen_slot x.version) x.slots)) l) (all_marked_seen y.version y.slots) marked);
}

pub alike_by_slots : (numbers : List ℕ) (x y : Shown ℕ) (here there : List (Slot ℕ)) → y.value ≡ x.value
    → here ≡ map (seen_slot x.version) x.slots → there ≡ map (seen_slot y.version) y.slots
    → IsRenaming (number_before numbers (length there)) here there → IsAlike (number_before numbers (length y.slots)) x y
alike_by_slots numbers x y here there same first second is =
    alike_by_seen (number_before numbers (length y.slots)) x y same
    (subst (λ n. IsRenaming (number_before numbers n) (map (seen_slot x.version) x.slots) (map (seen_slot y.version) y.slots))
    (length-map y.slots (seen_slot y.version))
    (subst (λ l. IsRenaming (number_before numbers (length l)) (map (seen_slot x.version) x.slots) l) second
    (subst (λ l. IsRenaming (number_before numbers (length there)) l there) first is)))
