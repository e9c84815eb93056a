-- Facts of all views, as one of them changes, is split, or is joined with another.
use Rattle.std.proofs.Common.{◌≡◌, ◌≢◌, ◌⊎◌, ℕ, zero, suc, ◌+◌, ◌<◌, List, [], ◌∷◌, ◌++◌, length, set, Option}
use Rattle.std.proofs.Common.{Some, refl, sym, ap, ◌∙◌, subst, inl, inr, ⊎_elim, arith}
use mathlib.Core.Logic.{dite}
use mathlib.Core.Option.{some, some-injective, some-ne-none}
use native.Mathlib.Decide.{ℕ_discrete}
use lib.ListN.{get_elem?}
use Rattle.atomic_table.proofs.Lists.{at_set}
use Rattle.rw_seat.specs.declared.view.View.{View}
use Rattle.rw_seat.specs.Journals.{IsIn, Apart, Distinct, longer}
use Rattle.rw_seat.specs.Rule.{numbers_from, resting, spent_view, joined_view, Fits, AreApart, Agree}
use Rattle.rw_seat.proofs.Journals.{in_append, in_left, in_right, in_from, longer_starts, quiet_later, quiet_fewer, quiet_both, olds_append, olds_wider}

pub from_distinct : (n k : ℕ) → Distinct (numbers_from n k)
from_distinct n zero = tt
from_distinct n (suc k) = ((λ i. let r = in_from (n + 1) k n i in omega arith), from_distinct (n + 1) k)

pub distinct_append : (ns ms : List ℕ) → Distinct ns → Distinct ms → Apart ns ms → Distinct (ns ++ ms)
distinct_append [] ms a b apart = b
distinct_append (n ∷ ns) ms a b apart = (
  (λ i. ⊎_elim (λ (x : IsIn n ns). a.0 x) (λ (y : IsIn n ms). apart n (inl refl) y) (in_append n ns ms i)),
  distinct_append ns ms a.1 b (λ k x y. apart k (inr x) y),
)

module _ {A : Type 0} where
  at_end : (l : List A) (a b : A) (j : ℕ) → get_elem? (l ++ a ∷ []) j ≡ some b → (get_elem? l j ≡ some b) ⊎ ((j ≡ length l) × (a ≡ b))
  at_end [] a b zero e = inr (refl, some-injective a b e)
  at_end [] a b (suc j) e = absurd (some-ne-none b (sym e))
  at_end (x ∷ xs) a b zero e = inl e
  at_end (x ∷ xs) a b (suc j) e = ⊎_elim (λ (t : get_elem? xs j ≡ some b). inl t) (λ (t : (j ≡ length xs) × (a ≡ b)). inr (ap suc t.0, t.1)) (at_end xs a b j e)

  pub at_within : (l : List A) (j : ℕ) (b : A) → get_elem? l j ≡ some b → j < length l
  at_within [] j b e = absurd (some-ne-none b (sym e))
  at_within (x ∷ xs) zero b e = omega arith
  at_within (x ∷ xs) (suc j) b e = let r = at_within xs j b e in omega arith

-- where a number goes at a split: m stays at id, the others of id go to the index l
abbrev Fork : ℕ → ℕ → ℕ → ℕ → ℕ → ℕ → Type 0
Fork id m l n k j = ((k ≡ id) × (n ≡ m) × (j ≡ id)) ⊎ (((k ≡ id) × (n ≢ m) × (j ≡ l)) ⊎ ((k ≢ id) × (j ≡ k)))

fork_one : (id m l n k i j : ℕ) → Fork id m l n k i → Fork id m l n k j → i ≡ j
fork_one id m l n k i j (inl a) (inl b) = a.2 ∙ sym b.2
fork_one id m l n k i j (inl a) (inr (inl b)) = absurd (b.1 a.1)
fork_one id m l n k i j (inl a) (inr (inr b)) = absurd (b.0 a.0)
fork_one id m l n k i j (inr (inl a)) (inl b) = absurd (a.1 b.1)
fork_one id m l n k i j (inr (inl a)) (inr (inl b)) = a.2 ∙ sym b.2
fork_one id m l n k i j (inr (inl a)) (inr (inr b)) = absurd (b.0 a.0)
fork_one id m l n k i j (inr (inr a)) (inl b) = absurd (a.0 b.0)
fork_one id m l n k i j (inr (inr a)) (inr (inl b)) = absurd (a.0 b.0)
fork_one id m l n k i j (inr (inr a)) (inr (inr b)) = a.1 ∙ sym b.1

-- where a number goes at a join
abbrev Fuse : ℕ → ℕ → ℕ → ℕ → ℕ → Type 0
Fuse id other n k j = ((k ≡ other) × (j ≡ id)) ⊎ ((k ≢ other) × (j ≡ k))

fuse_one : (id other n k i j : ℕ) → Fuse id other n k i → Fuse id other n k j → i ≡ j
fuse_one id other n k i j (inl a) (inl b) = a.1 ∙ sym b.1
fuse_one id other n k i j (inl a) (inr b) = absurd (b.0 a.0)
fuse_one id other n k i j (inr a) (inl b) = absurd (a.0 b.0)
fuse_one id other n k i j (inr a) (inr b) = a.1 ∙ sym b.1

fits_spent : {E : Type 0} (S : Type 0) (author : E → ℕ) (h : List E) → Fits {S = S} author h spent_view
fits_spent S author h = ((h, refl, λ n i. absurd i), tt)

module _ {E S : Type 0} (author : E → ℕ) where
  -- if each number of a new view comes from one of an old one, and goes to one index, the new views are apart
  abbrev Origin : List (View E S) → (ℕ → ℕ → ℕ → Type 0) → ℕ → View E S → Type 0
  Origin old R j u = (n : ℕ) → IsIn n u.numbers → (k : ℕ) × (x : View E S) × (get_elem? old k ≡ some x) × IsIn n x.numbers × R n k j

  apart_via : (old new : List (View E S)) (R : ℕ → ℕ → ℕ → Type 0) → ((n k i j : ℕ) → R n k i → R n k j → i ≡ j)
      → ((j : ℕ) (u : View E S) → get_elem? new j ≡ some u → Origin old R j u) → AreApart old → AreApart new
  apart_via old new R one from apart i j v w ne ei ej n a b =
      let p = from i v ei n a in
      let q = from j w ej n b in
      dite (ℕ_discrete p.0 q.0)
      (λ same. ne (one n p.0 i j p.4 (subst (λ (k : ℕ). R n k j) (sym same) q.4)))
      (λ other. apart p.0 q.0 p.1 q.1 other p.2 q.2 n p.3 q.3)

  below_via : (seats : ℕ) (old new : List (View E S)) (R : ℕ → ℕ → ℕ → Type 0) → ((j : ℕ) (u : View E S) → get_elem? new j ≡ some u → Origin old R j u)
      → ((j : ℕ) (v : View E S) → get_elem? old j ≡ some v → (n : ℕ) → IsIn n v.numbers → n < seats)
      → (j : ℕ) (v : View E S) → get_elem? new j ≡ some v → (n : ℕ) → IsIn n v.numbers → n < seats
  below_via seats old new R from below j v e n i = let p = from j v e n i in below p.0 p.1 p.2 n p.3

  -- a fact of each view, after one is set
  pub each_set : (P : ℕ → View E S → Type 0) (views : List (View E S)) (id : ℕ) (w : View E S)
      → ((j : ℕ) (u : View E S) → j ≢ id → get_elem? views j ≡ some u → P j u) → P id w
      → (j : ℕ) (u : View E S) → get_elem? (set views id w) j ≡ some u → P j u
  each_set P views id w others mine j u e = ⊎_elim
      (λ (t : (j ≡ id) × (w ≡ u)). subst (λ (z : ℕ × View E S). P z.0 z.1) (λ i. (sym t.0 i, t.1 i)) mine)
      (λ (t : (j ≢ id) × (get_elem? views j ≡ some u)). others j u t.0 t.1)
      (at_set views id j w u e)

  -- one view becomes another with the same numbers
  pub agree_set : (o : S) (h g : List E) (seats : ℕ) (views : List (View E S)) (id : ℕ) (v w : View E S) → get_elem? views id ≡ some v → w.numbers ≡ v.numbers
      → w.start ≡ v.start → Agree author o h seats views
      → ((j : ℕ) (u : View E S) → j ≢ id → get_elem? views j ≡ some u → Fits author g u) → Fits author g w → Agree author o g seats (set views id w)
  agree_set o h g seats views id v w at same start agree others mine =
      let from : (j : ℕ) (u : View E S) → get_elem? (set views id w) j ≡ some u → Origin views (λ n k i. k ≡ i) j u =
      λ j u e n i. ⊎_elim
      (λ (t : (j ≡ id) × (w ≡ u)). (id, v, at, subst (IsIn n) (ap (λ (x : View E S). x.numbers) (sym t.1) ∙ same) i, sym t.0))
      (λ (t : (j ≢ id) × (get_elem? views j ≡ some u)). (j, u, t.1, i, refl))
      (at_set views id j w u e) in record {
        fits = each_set (λ j u. Fits author g u) views id w others mine;
        apart = apart_via views (set views id w) (λ n k i. k ≡ i) (λ n k i j a b. sym a ∙ b) from agree.apart;
        below = below_via seats views (set views id w) (λ n k i. k ≡ i) from agree.below;
        distinct = each_set (λ j u. Distinct u.numbers) views id w (λ j u ne e. agree.distinct j u e) (subst Distinct (sym same) (agree.distinct id v at));
        started = each_set (λ j u. (n : ℕ) → IsIn n u.numbers → u.start ≡ Some o) views id w (λ j u ne e. agree.started j u e)
            (λ n i. start ∙ agree.started id v at n (subst (IsIn n) same i));
      }

  -- a fact of each view, after a split
  pub each_split : (P : ℕ → View E S → Type 0) (views : List (View E S)) (id : ℕ) (a b : View E S)
      → ((j : ℕ) (u : View E S) → j ≢ id → get_elem? views j ≡ some u → P j u) → P id a → P (length (set views id a)) b
      → (j : ℕ) (u : View E S) → get_elem? (set views id a ++ b ∷ []) j ≡ some u → P j u
  each_split P views id a b others left right j u e = ⊎_elim
      (λ (t : get_elem? (set views id a) j ≡ some u). ⊎_elim
      (λ (x : (j ≡ id) × (a ≡ u)). subst (λ (z : ℕ × View E S). P z.0 z.1) (λ i. (sym x.0 i, x.1 i)) left)
      (λ (x : (j ≢ id) × (get_elem? views j ≡ some u)). others j u x.0 x.1)
      (at_set views id j a u t))
      (λ (t : (j ≡ length (set views id a)) × (b ≡ u)). subst (λ (z : ℕ × View E S). P z.0 z.1) (λ i. (sym t.0 i, t.1 i)) right)
      (at_end (set views id a) b u j e)

  pub agree_split : (o : S) (h : List E) (seats : ℕ) (views : List (View E S)) (id m : ℕ) (ms : List ℕ) (start : Option S) (f : List E)
      → get_elem? views id ≡ some (resting (m ∷ ms) start f) → Agree author o h seats views
      → Agree author o h seats (set views id (resting (m ∷ []) start f) ++ resting ms start f ∷ [])
  agree_split o h seats views id m ms start f at agree =
      let v : View E S = resting (m ∷ ms) start f in
      let a : View E S = resting (m ∷ []) start f in
      let b : View E S = resting ms start f in
      let l : ℕ = length (set views id a) in
      let apart : Distinct (m ∷ ms) = agree.distinct id v at in
      let fit : Fits author h v = agree.fits id v at in
      let from : (j : ℕ) (u : View E S) → get_elem? (set views id a ++ b ∷ []) j ≡ some u → Origin views (Fork id m l) j u =
      each_split (Origin views (Fork id m l)) views id a b
      (λ j u ne e n i. (j, u, e, i, inr (inr (ne, refl))))
      (λ n i. (id, v, at, ⊎_elim (λ (x : n ≡ m). inl x) (λ (x : ⊥). absurd x) i, inl (refl, ⊎_elim (λ (x : n ≡ m). x) (λ (x : ⊥). absurd x) i, refl)))
      (λ n i. (id, v, at, inr i, inr (inl (refl, (λ is. apart.0 (subst (λ (k : ℕ). IsIn k ms) is i)), refl)))) in record {
        fits = each_split (λ j u. Fits author h u) views id a b (λ j u ne e. agree.fits j u e)
            (quiet_fewer author (m ∷ ms) (m ∷ []) f h (λ n i. ⊎_elim (λ (x : n ≡ m). inl x) (λ (x : ⊥). absurd x) i) fit.0, tt)
            (quiet_fewer author (m ∷ ms) ms f h (λ n i. inr i) fit.0, tt);
        apart = apart_via views (set views id a ++ b ∷ []) (Fork id m l) (λ n k i j x y. fork_one id m l n k i j x y) from agree.apart;
        below = below_via seats views (set views id a ++ b ∷ []) (Fork id m l) from agree.below;
        distinct = each_split (λ j u. Distinct u.numbers) views id a b (λ j u ne e. agree.distinct j u e) ((λ x. x), tt) apart.1;
        started = each_split (λ j u. (n : ℕ) → IsIn n u.numbers → u.start ≡ Some o) views id a b (λ j u ne e. agree.started j u e)
            (λ n i. agree.started id v at m (inl refl)) (λ n i. agree.started id v at m (inl refl));
      }

  pub each_join : (P : ℕ → View E S → Type 0) (views : List (View E S)) (id other : ℕ) (a : View E S)
      → ((j : ℕ) (u : View E S) → j ≢ id → j ≢ other → get_elem? views j ≡ some u → P j u) → P id a → P other spent_view
      → (j : ℕ) (u : View E S) → get_elem? (set (set views id a) other spent_view) j ≡ some u → P j u
  each_join P views id other a others both gone j u e = ⊎_elim
      (λ (x : (j ≡ other) × (spent_view ≡ u)). subst (λ (z : ℕ × View E S). P z.0 z.1) (λ i. (sym x.0 i, x.1 i)) gone)
      (λ (t : (j ≢ other) × (get_elem? (set views id a) j ≡ some u)). ⊎_elim
      (λ (x : (j ≡ id) × (a ≡ u)). subst (λ (z : ℕ × View E S). P z.0 z.1) (λ i. (sym x.0 i, x.1 i)) both)
      (λ (x : (j ≢ id) × (get_elem? views j ≡ some u)). others j u x.0 t.0 x.1)
      (at_set views id j a u t.1))
      (at_set (set views id a) other j spent_view u e)

  fits_joined : (h : List E) (v w : View E S) → Fits author h v → Fits author h w → Fits author h (joined_view v w)
  fits_joined h v w a b =
      let f : List E = v.front in
      let g : List E = w.front in
      let s = longer_starts h f g (a.0.0, a.0.1) (b.0.0, b.0.1) in
      let ns : List ℕ = v.numbers ++ w.numbers in
      let l : List E = longer f g in (
        quiet_both author v.numbers w.numbers l h (quiet_later author v.numbers f l h a.0 s.0 s.2) (quiet_later author w.numbers g l h b.0 s.1 s.2),
        (
          (λ n i. in_left n v.numbers w.numbers i),
          s.0,
          a.0,
          (
            (λ n i. in_right n v.numbers w.numbers i),
            s.1,
            b.0,
            olds_append author h ns l v.olds w.olds
                (olds_wider author h v.numbers ns f l v.olds (λ n i. in_left n v.numbers w.numbers i) s.0 a.1)
                (olds_wider author h w.numbers ns g l w.olds (λ n i. in_right n v.numbers w.numbers i) s.1 b.1),
          ),
        ),
      )

  pub agree_join : (o : S) (h : List E) (seats : ℕ) (views : List (View E S)) (id other m : ℕ) (v w : View E S) → IsIn m v.numbers → get_elem? views id ≡ some v
      → get_elem? views other ≡ some w → other ≢ id
      → Agree author o h seats views → Agree author o h seats (set (set views id (joined_view v w)) other spent_view)
  agree_join o h seats views id other m v w living atv atw ne agree =
      let a : View E S = joined_view v w in
      let from : (j : ℕ) (u : View E S) → get_elem? (set (set views id a) other spent_view) j ≡ some u → Origin views (Fuse id other) j u =
      each_join (Origin views (Fuse id other)) views id other a
      (λ j u ni no e n i. (j, u, e, i, inr (no, refl)))
      (λ n i. ⊎_elim
      (λ (x : IsIn n v.numbers). (id, v, atv, x, inr ((λ e. ne (sym e)), refl)))
      (λ (x : IsIn n w.numbers). (other, w, atw, x, inl (refl, refl)))
      (in_append n v.numbers w.numbers i))
      (λ n i. absurd i) in record {
        fits = each_join (λ j u. Fits author h u) views id other a (λ j u ni no e. agree.fits j u e)
            (fits_joined h v w (agree.fits id v atv) (agree.fits other w atw)) (fits_spent S author h);
        apart = apart_via views (set (set views id a) other spent_view) (Fuse id other) (λ n k i j x y. fuse_one id other n k i j x y) from agree.apart;
        below = below_via seats views (set (set views id a) other spent_view) (Fuse id other) from agree.below;
        distinct = each_join (λ j u. Distinct u.numbers) views id other a (λ j u ni no e. agree.distinct j u e)
            (distinct_append v.numbers w.numbers (agree.distinct id v atv) (agree.distinct other w atw) (agree.apart id other v w (λ e. ne (sym e)) atv atw))
            tt;
        started = each_join (λ j u. (n : ℕ) → IsIn n u.numbers → u.start ≡ Some o) views id other a (λ j u ni no e. agree.started j u e)
            (λ n i. agree.started id v atv m living) (λ n i. absurd i);
      }
