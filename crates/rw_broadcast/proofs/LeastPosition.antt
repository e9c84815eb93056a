-- The least position of the receivers among the first handles.
use Rattle.std.proofs.Common.{◌≡◌, ℕ, ◌+◌, ◌<◌, min, List, [], ◌∷◌, ◌++◌, length, take, get_or, refl, ap, ◌∙◌}
use Rattle.std.specs.Prelude.{Option, Some, None}
use Rattle.std.proofs.lemmas.List.{take_more}
use Rattle.std.proofs.lemmas.List.Sums.{fold_push}
use Rattle.rw_handles.specs.declared.kinds.Kind.TheVariants.{Receiver}
use Rattle.rw_handles.specs.declared.kinds.Slot.{Slot}
use Rattle.rw_handles.specs.declared.kinds.Slot.TheVariants.{Live, Spent}
use Rattle.rw_handles.specs.Slots.{values}
use Rattle.rw_handles.proofs.SlotLaws.{values-append}
use Rattle.rw_broadcast.specs.Arithmetic.{least}
use Rattle.rw_broadcast.specs.Machine.{least_with}
use Rattle.std.proofs.lemmas.List.{append-nil}

least-push : (ps : List ℕ) (p : ℕ) → least (ps ++ p ∷ []) ≡ least_with (least ps) (Live Receiver p)
least-push [] p = refl
least-push (q ∷ qs) p = ap Some (fold_push min q qs p)

-- a slot without a receiver leaves the least position as it is
stays : (o : Option ℕ) (s : Slot ℕ) → values Receiver (s ∷ []) ≡ [] → o ≡ least_with o s
stays None (Live Receiver position) none = absurd cc
stays (Some p) (Live Receiver position) none = absurd cc
stays None _ none = refl
stays (Some p) _ none = refl

no_more : (hs : List (Slot ℕ)) (s : Slot ℕ) → values Receiver (s ∷ []) ≡ [] → least (values Receiver (hs ++ s ∷ [])) ≡ least_with (least (values Receiver hs)) s
no_more hs s none =
    ap least (values-append Receiver hs (s ∷ []) ∙ (ap (λ l. values Receiver hs ++ l) none ∙ append-nil (values Receiver hs)))
    ∙ stays (least (values Receiver hs)) s none

least_one_more : (hs : List (Slot ℕ)) (s : Slot ℕ) → least (values Receiver (hs ++ s ∷ [])) ≡ least_with (least (values Receiver hs)) s
least_one_more hs (Live Receiver position) = ap least (values-append Receiver hs (Live Receiver position ∷ [])) ∙ least-push (values Receiver hs) position
least_one_more hs (Live kind position) = no_more hs (Live kind position) refl
least_one_more hs Spent = no_more hs Spent refl

pub least_more : (hs : List (Slot ℕ)) (i : ℕ) (d : Slot ℕ) → i < length hs
    → least (values Receiver (take (i + 1) hs)) ≡ least_with (least (values Receiver (take i hs))) (get_or hs i d)
least_more hs i d within = ap (λ l. least (values Receiver l)) (take_more hs i d within) ∙ least_one_more (take i hs) (get_or hs i d)
