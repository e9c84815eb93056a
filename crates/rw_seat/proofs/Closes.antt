-- For closing a hand-off.
use Rattle.std.proofs.Common.{◌≡◌, ◌≢◌, ◌⊎◌, ℕ, zero, suc, ◌<◌, List, [], ◌∷◌, ◌++◌, map, length, get_or, take, All}
use Rattle.std.proofs.Common.{Option, Some, false, sym, ap, ◌∙◌, subst, inl, inr, ⊎_elim, arith}
use Rattle.std.proofs.lemmas.List.{map-append}
use Rattle.std.proofs.lemmas.List.Elements.{All-pop, All-same, All-nil}
use Rattle.rw_seat.specs.declared.view.View.{View}
use Rattle.rw_seat.specs.declared.view.Old.{Old}
use Rattle.rw_seat.specs.Journals.{IsIn, IsQuiet}
use Rattle.rw_seat.specs.Rule.{joined_view, Fits, OldsFit, HasOneBook, Known, OldsKnown}
use mathlib.Core.Option.{some}
use lib.ListN.{get_elem?}
use Rattle.atomic_table.specs.Table.{Final, Seen}
use Rattle.rw_seat.proofs.Steps.{closes}
use Rattle.rw_seat.proofs.Journals.{in_append, in_left, in_right}

module _ {S : Type 0} (f : S → ℕ) where
  pub none_in : (xs : List S) (n : ℕ) → length xs ≡ 0 → IsIn n (map f xs) → ⊥
  none_in [] n none i = i
  none_in (x ∷ xs) n none i = absurd (omega arith)

  pub in_at : (xs : List S) (i n : ℕ) (x : S) → i < length xs → x ≡ get_or xs i x → n ≡ f x → IsIn n (map f xs)
  in_at [] i n x low is e = absurd (omega arith)
  in_at (y ∷ ys) zero n x low is e = inl (e ∙ ap f is)
  in_at (y ∷ ys) (suc i) n x low is e = inr (in_at ys i n x (omega arith) is e)

  pub not_more : (xs : List S) (i n : ℕ) (x : S) → i < length xs → x ≡ get_or xs i x → f x ≢ n → (IsIn n (map f (take i xs)) → ⊥)
      → IsIn n (map f (take (suc i) xs)) → ⊥
  not_more [] i n x low is ne out at = absurd (omega arith)
  not_more (y ∷ ys) zero n x low is ne out at = ⊎_elim (λ (e : n ≡ f y). ne (ap f is ∙ sym e)) (λ (b : ⊥). b) at
  not_more (y ∷ ys) (suc i) n x low is ne out at =
      ⊎_elim (λ (e : n ≡ f y). out (inl e)) (λ (b : IsIn n (map f (take (suc i) ys))). not_more ys i n x (omega arith) is ne (λ z. out (inr z)) b) at

  pub in_popped : (xs ys : List S) (x : S) (n : ℕ) → xs ≡ ys ++ x ∷ [] → IsIn n (map f xs) → IsIn n (map f ys) ⊎ (n ≡ f x)
  in_popped xs ys x n is at =
      ⊎_elim (λ (a : IsIn n (map f ys)). inl a) (λ (b : (n ≡ f x) ⊎ ⊥). ⊎_elim (λ (e : n ≡ f x). inr e) (λ (z : ⊥). absurd z) b)
      (in_append n (map f ys) (f x ∷ []) (subst (IsIn n) (ap (map f) is ∙ map-append f ys (x ∷ [])) at))

pub all_popped : {S : Type 0} (P : S → Type 0) (xs ys : List S) (x : S) → xs ≡ ys ++ x ∷ [] → All P xs → All P ys × P x
all_popped P xs ys x is all = All-pop P xs ys (Some x) is all

-- a number that is m or is in v is in v ++ w, where w has m alone
pub in_rest : (n : ℕ) (v w : List ℕ) (A : Type 0) (m : ℕ) → w ≡ m ∷ [] → (A ⊎ (n ≡ m)) ⊎ IsIn n v → A ⊎ IsIn n (v ++ w)
in_rest n v w A m is (inl (inl a)) = inl a
in_rest n v w A m is (inl (inr e)) = inr (in_right n v w (subst (IsIn n) (sym is) (inl e)))
in_rest n v w A m is (inr i) = inr (in_left n v w i)

module _ {E : Type 0} (author : E → ℕ) where
  olds_known : (h f : List E) (ns : List ℕ) (os : List (Old E)) → OldsFit author h ns f os → OldsKnown author h os
  olds_known h f ns [] fit = tt
  olds_known h f ns (o ∷ os) fit = (fit.2, olds_known h f ns os fit.3)

  split_known : (h : List E) (os ps : List (Old E)) → OldsKnown author h (os ++ ps) → OldsKnown author h os × OldsKnown author h ps
  split_known h [] ps k = (tt, k)
  split_known h (o ∷ os) ps k = let r = split_known h os ps k.1 in ((k.0, r.0), r.1)

module _ {E S : Type 0} (author : E → ℕ) where
  pub known_fits : (h : List E) (v : View E S) → Fits author h v → Known author h v
  known_fits h v fit = (fit.0, olds_known author h v.front v.numbers v.olds fit.1)

  pub known_joined : (h : List E) (v w j : View E S) → j ≡ joined_view v w → Known author h j → Known author h v × Known author h w
  known_joined h v w j is k =
      let k' : Known author h (joined_view v w) = subst (Known author h) is k in
      let r = split_known author h v.olds w.olds k'.1.1.1 in ((k'.1.0, r.0), (k'.1.1.0, r.1))

  pub known_one : (h : List E) (v : View E S) (n : ℕ) → v.numbers ≡ n ∷ [] → Known author h v → IsQuiet author (n ∷ []) v.front h
  known_one h v n is k = subst (λ (ns : List ℕ). IsQuiet author ns v.front h) is k.0

-- what is known once all seats are joined
pub ended : {B E S X : Type 0} (author : E → ℕ) (start : B → S) (journal : B → List E) (o : S) (seats count id : ℕ) (v : View E S) (ws : List ℕ)
    (xs : List (Option B)) (f : X → ℕ) (all left : List X) → seats ≡ count → v.held ≡ false
    → left ≡ [] → ((n : ℕ) → IsIn n (map f all) → IsIn n (map f left) ⊎ IsIn n v.numbers) → ((n : ℕ) → n < count → IsIn n (map f all))
    → Final (Seen (HasOneBook author start journal o seats) id v) ws xs
    → (b : B) × (get_elem? xs 0 ≡ some (Some b)) × Fits author (journal b) v × (start b ≡ o)
ended author start journal o seats count id v ws xs f all left same idle none each has end =
    closes author start journal o seats id v ws xs idle
    (λ n low. ⊎_elim (λ (a : IsIn n (map f left)). absurd (subst (λ l. IsIn n (map f l)) none a)) (λ (b : IsIn n v.numbers). b) (each n (has n (omega arith))))
    end

pub all_none : {S : Type 0} (P : S → Type 0) (xs : List S) → xs ≡ [] → All P xs
all_none P xs e = All-same P xs [] e (All-nil P)
