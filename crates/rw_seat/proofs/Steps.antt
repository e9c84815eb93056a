-- Each step of a hand-off preserves its rule.
use Rattle.std.proofs.Common.{◌≡◌, ◌≢◌, ℕ, zero, suc, ◌<◌, eqb, List, [], ◌∷◌, ◌++◌, set, Bool, true, false, true≢false}
use Rattle.std.proofs.Common.{Option, Some, None, refl, sym, ap, ◌∙◌, subst, inl, inr, ⊎_elim, arith}
use Rattle.std.specs.Prelude.{slice_index}
use mathlib.Core.Option.{some, none, some-injective, some-ne-none}
use prog.Atomic.{either}
use lib.ListN.{get_elem?}
use Rattle.atomic_table.specs.Table.{State, Me, Act, step, keeps, takes, gives, stepped, Allows, Splits, Joins, opening, Final, Seen, Valid, carried_after}
use Rattle.atomic_table.proofs.Lists.{set_again, set_here, set_else, at_longer}
use Rattle.rw_seat.specs.declared.view.View.{View}
use Rattle.rw_seat.specs.Journals.{IsIn, Apart, Distinct, IsQuiet, Adds}
use Rattle.rw_seat.specs.Rule.{numbers_from, view_of, resting, spent_view, joined_view, first_part, other_part}
use Rattle.rw_seat.specs.Rule.{Fits, Agree, AtHome, IsOut, HasOneBook, Acquires, Releases}
use Rattle.rw_seat.proofs.Journals.{in_from, quiet_self, quiet_more, olds_more}
use Rattle.rw_seat.proofs.Views.{from_distinct, at_within, each_set, agree_set, each_split, agree_split, each_join, agree_join}

off : false ≡ true → ⊥
off e = true≢false (sym e)

false_if : (b : Bool) → (b ≡ true → ⊥) → b ≡ false
false_if true n = absurd (n refl)
false_if false n = refl

module _ {B E S : Type 0} (author : E → ℕ) (start : B → S) (journal : B → List E) (o : S) (seats : ℕ) where
  abbrev St : Type 0
  St = State (Option B) (View E S)

  abbrev Rule : St → Type 0
  Rule = HasOneBook author start journal o seats

  abbrev Mine : Type 0
  Mine = Me (Option B) (View E S)

  abbrev Free : List E → St → Type 0
  Free = AtHome author start journal o

  abbrev Taken : List E → St → Type 0
  Taken = IsOut author start journal o

  -- a table whose slot has the book b, and one whose slot a seat has
  abbrev home_table : B → List (View E S) → St
  home_table b views = record { words = 0 ∷ []; homes = some (Some b) ∷ []; views = views }

  abbrev out_table : List (View E S) → St
  out_table views = record { words = 1 ∷ []; homes = none ∷ []; views = views }

  -- making the table with its first seat
  pub makes : (b : B) → start b ≡ o → Rule (opening (0 ∷ []) (Some b ∷ []) (resting (numbers_from 0 seats) (Some o) (journal b)))
  makes b from =
      let h : List E = journal b in
      let v : View E S = resting (numbers_from 0 seats) (Some o) h in (
        h,
        record {
          fits = only (Fits author h) v (quiet_self author (numbers_from 0 seats) h, tt);
          apart = (λ i j x y ne ei ej n a c. absurd (ne (first i x v ei ∙ sym (first j y v ej))));
          below = only (λ u. (n : ℕ) → IsIn n u.numbers → n < seats) v (λ n i. let r = in_from 0 seats n i in omega arith);
          distinct = only (λ u. Distinct u.numbers) v (from_distinct 0 seats);
          started = only (λ u. (n : ℕ) → IsIn n u.numbers → u.start ≡ Some o) v (λ n i. refl);
        },
        inl (b, refl, refl, from, refl, only (λ u. u.held ≡ false) v refl),
      )
    where
      first : (j : ℕ) (u v : View E S) → get_elem? (v ∷ []) j ≡ some u → j ≡ 0
      first zero u v e = refl
      first (suc j) u v e = absurd (some-ne-none u (sym e))

      only : (P : View E S → Type 0) (v : View E S) → P v → (j : ℕ) (u : View E S) → get_elem? (v ∷ []) j ≡ some u → P u
      only P v p zero u e = subst P (some-injective v u e) p
      only P v p (suc j) u e = absurd (some-ne-none u (sym e))

  -- the seat that has the book isn't one that hasn't
  not_out : (views : List (View E S)) (i j : ℕ) (h : List E) (ns : List ℕ) (v : View E S) → get_elem? views i ≡ some (view_of ns (Some o) h true [])
      → get_elem? views j ≡ some v → v.held ≡ false → i ≢ j
  not_out views i j h ns v ei ej idle same =
      let e : some (view_of ns (Some o) h true []) ≡ some v = sym ei ∙ (ap (get_elem? views) same ∙ ej) in
      true≢false (ap (λ (x : View E S). x.held) (some-injective (view_of ns (Some o) h true []) v e) ∙ idle)

  -- an acquire
  abbrev Taking : ℕ → ℕ → View E S → St → Type 0
  Taking slots id v s = (w : View E S) × (a : Act (Option B)) × Valid s.homes [] a
      × Rule (stepped s 0 (either (eqb (slice_index s.words 0) 0) 1 (slice_index s.words 0)) id [] w a)
      × Acquires author start journal (step slots 0 0 1 none) (v, []) (slice_index s.words 0) (w, carried_after [] a)

  take_home : (slots id n : ℕ) (ns : List ℕ) (v : View E S) (b : B) (views : List (View E S)) → v.numbers ≡ n ∷ ns → get_elem? views id ≡ some v → start b ≡ o
      → Agree author o (journal b) seats views
      → ((j : ℕ) (u : View E S) → get_elem? views j ≡ some u → u.held ≡ false) → Taking slots id v (home_table b views)
  take_home slots id n ns v b views is at from agree idle =
      let h : List E = journal b in
      let knows : v.start ≡ Some o = agree.started id v at n (subst (IsIn n) (sym is) (inl refl)) in
      let w : View E S = view_of v.numbers v.start h true [] in
      let views' : List (View E S) = set views id w in (
        w,
        takes 0 (Some b),
        refl,
        (
          h,
          agree_set author o h h seats views id v w at refl refl agree (λ j u ne e. agree.fits j u e) (quiet_self author v.numbers h, tt),
          inr (
            id,
            n,
            ns,
            refl,
            refl,
            set_here views id w (at_within views id v at) ∙ ap (λ (z : List ℕ × Option S). some (view_of z.0 z.1 h true [])) (λ i. (is i, knows i)),
            each_set author (λ j u. u.held ≡ true → j ≡ id) views id w (λ j u ne e t. absurd (true≢false (sym t ∙ idle j u e))) (λ t. refl),
          ),
        ),
        ((λ z. (b, refl, knows ∙ ap (λ (x : S). Some x) (sym from), agree.fits id v at)), (λ z. absurd (z refl))),
      )

  take_out : (slots id : ℕ) (v : View E S) (h : List E) (views : List (View E S)) → get_elem? views id ≡ some v → Rule (out_table views)
      → Taking slots id v (out_table views)
  take_out slots id v h views at r = (
    v,
    keeps,
    tt,
    subst (λ (l : List (View E S)). Rule (out_table l)) (sym (set_again views id v at)) r,
    ((λ z. absurd (omega arith)), (λ z. refl)),
  )

  home_is : (s : St) (b : B) → s.words ≡ 0 ∷ [] → s.homes ≡ some (Some b) ∷ [] → home_table b s.views ≡ s
  home_is s b p q i = record { words = sym p i; homes = sym q i; views = s.views }

  out_is : (s : St) → s.words ≡ 1 ∷ [] → s.homes ≡ none ∷ [] → out_table s.views ≡ s
  out_is s p q i = record { words = sym p i; homes = sym q i; views = s.views }

  -- an acquire that succeeds, and one that fails
  pub takes_turn : (slots id n : ℕ) (ns : List ℕ) (v : View E S) → v.numbers ≡ n ∷ ns
      → Allows Rule slots id (v, []) 0 (λ k. either (eqb k 0) 1 k) (Acquires author start journal (step slots 0 0 1 none) (v, []))
  takes_turn slots id n ns v is s r deep at fits = ⊎_elim
      (λ (p : Free r.0 s). subst (Taking slots id v) (home_is s p.0 p.1 p.2)
      (take_home slots id n ns v p.0 s.views is at p.3 (subst (λ (h : List E). Agree author o h seats s.views) (sym p.4) r.1) p.5))
      (λ (p : Taken r.0 s). subst (Taking slots id v) (out_is s p.3 p.4)
      (take_out slots id v r.0 s.views at (r.0, r.1, inr (p.0, p.1, p.2, refl, refl, p.5, p.6))))
      r.2

  -- a release
  abbrev Giving : ℕ → ℕ → View E S → B → St → Type 0
  Giving slots id v b s = (w : View E S) × (a : Act (Option B)) × Valid s.homes ((0, Some b) ∷ []) a × Rule (stepped s 0 0 id ((0, Some b) ∷ []) w a)
      × Releases author start journal (step slots 0 0 0 none) (v, (0, Some b) ∷ []) 0 (w, carried_after ((0, Some b) ∷ []) a)

  give_out : (slots id : ℕ) (v : View E S) (b : B) (h : List E) (views : List (View E S)) → get_elem? views id ≡ some v → v.front ≡ h → start b ≡ o
      → Adds author v.numbers v.front (journal b) → Agree author o h seats views
      → ((j : ℕ) (u : View E S) → get_elem? views j ≡ some u → u.held ≡ true → j ≡ id) → Giving slots id v b (out_table views)
  give_out slots id v b h views at is from adds agree one =
      let g : List E = journal b in
      let w : View E S = resting v.numbers v.start g in
      let more : Adds author v.numbers h g = subst (λ (f : List E). Adds author v.numbers f g) is adds in (
        w,
        gives,
        tt,
        (
          g,
          agree_set author o h g seats views id v w at refl refl agree
              (λ j u ne e. let fit : Fits author h u = agree.fits j u e in let apart : Apart u.numbers v.numbers = agree.apart j id u v ne e at in
              (quiet_more author u.numbers v.numbers u.front h g apart fit.0 more, olds_more author u.numbers v.numbers h g u.front u.olds apart more fit.1))
              (quiet_self author v.numbers g, tt),
          inl (b, refl, refl, from, refl, each_set author (λ j u. u.held ≡ false) views id w (λ j u ne e. false_if u.held (λ t. ne (one j u e t))) refl),
        ),
        (λ c same. ap (λ (y : B). (resting v.numbers v.start (journal y), [])) (book_of b c same)),
      )
    where
      slot_of : List (ℕ × Option B) → Option B
      slot_of [] = None
      slot_of (x ∷ xs) = x.1

      book_of : (b c : B) → ◌≡◌ {A = List (ℕ × Option B)} ((0, Some b) ∷ []) ((0, Some c) ∷ []) → b ≡ c
      book_of b c same = let e : Some b ≡ Some c = ap slot_of same in cc

  pub gives_back : (slots id : ℕ) (v : View E S) (b : B) → v.held ≡ true → v.start ≡ Some (start b) → Adds author v.numbers v.front (journal b)
      → Allows Rule slots id (v, (0, Some b) ∷ []) 0 (λ _. 0) (λ _. Releases author start journal (step slots 0 0 0 none) (v, (0, Some b) ∷ []) 0)
  gives_back slots id v b held starts adds s r deep at fits = ⊎_elim
      (λ (p : Free r.0 s). absurd (true≢false (sym held ∙ p.5 id v at)))
      (λ (p : Taken r.0 s).
      let same : id ≡ p.0 = p.6 id v at held in
      let mine : some (view_of (p.1 ∷ p.2) (Some o) r.0 true []) ≡ some v = sym p.5 ∙ (ap (get_elem? s.views) (sym same) ∙ at) in
      let here : view_of (p.1 ∷ p.2) (Some o) r.0 true [] ≡ v = some-injective (view_of (p.1 ∷ p.2) (Some o) r.0 true []) v mine in
      let is : r.0 ≡ v.front = ap (λ (x : View E S). x.front) here in
      let knows : Some o ≡ v.start = ap (λ (x : View E S). x.start) here in
      let both : Some (start b) ≡ Some o = sym starts ∙ sym knows in
      let from : start b ≡ o = cc in
      subst (Giving slots id v b) (out_is s p.3 p.4) (give_out slots id v b r.0 s.views at (sym is) from adds r.1 (λ j u e t. p.6 j u e t ∙ sym same)))
      r.2

  -- splitting a seat
  pub splits : (id m : ℕ) (ms : List ℕ) (from : Option S) (f : List E) → Splits Rule id (resting (m ∷ ms) from f) (resting (m ∷ []) from f) (resting ms from f)
  splits id m ms from f s r at =
      let v : View E S = resting (m ∷ ms) from f in
      let a : View E S = resting (m ∷ []) from f in
      let b : View E S = resting ms from f in
      let views : List (View E S) = set s.views id a ++ b ∷ [] in (
        r.0,
        agree_split author o r.0 seats s.views id m ms from f at r.1,
        ⊎_elim
            (λ (p : Free r.0 s). inl (p.0, p.1, p.2, p.3, p.4, each_split author (λ j u. u.held ≡ false) s.views id a b (λ j u ne e. p.5 j u e) refl refl))
            (λ (p : Taken r.0 s). let ne : p.0 ≢ id = not_out s.views p.0 id r.0 (p.1 ∷ p.2) v p.5 at refl in inr (
              p.0,
              p.1,
              p.2,
              p.3,
              p.4,
              at_longer (set s.views id a) (b ∷ []) p.0 (view_of (p.1 ∷ p.2) (Some o) r.0 true []) (set_else s.views id p.0 a ne ∙ p.5),
              each_split author (λ j u. u.held ≡ true → j ≡ p.0) s.views id a b (λ j u x e t. p.6 j u e t) (λ t. absurd (off t)) (λ t. absurd (off t)),
            ))
            r.2,
      )

  -- joining a seat
  pub joins : (id other m : ℕ) (v w : View E S) → IsIn m v.numbers → v.held ≡ false → w.held ≡ false → Joins Rule id v other w (joined_view v w) spent_view
  joins id other m v w living idle still s r atv ne got =
      let a : View E S = joined_view v w in
      let atw : get_elem? s.views other ≡ some w = sym (set_else s.views id other a ne) ∙ got in (
        r.0,
        agree_join author o r.0 seats s.views id other m v w living atv atw ne r.1,
        ⊎_elim
            (λ (p : Free r.0 s). inl (p.0, p.1, p.2, p.3, p.4, each_join author (λ j u. u.held ≡ false) s.views id other a (λ j u x y e. p.5 j u e) refl refl))
            (λ (p : Taken r.0 s).
            let ni : p.0 ≢ id = not_out s.views p.0 id r.0 (p.1 ∷ p.2) v p.5 atv idle in
            let no : p.0 ≢ other = not_out s.views p.0 other r.0 (p.1 ∷ p.2) w p.5 atw still in inr (
              p.0,
              p.1,
              p.2,
              p.3,
              p.4,
              set_else (set s.views id a) other p.0 spent_view no ∙ (set_else s.views id p.0 a ni ∙ p.5),
              each_join author (λ j u. u.held ≡ true → j ≡ p.0) s.views id other a (λ j u x y e t. p.6 j u e t) (λ t. absurd (off t)) (λ t. absurd (off t)),
            ))
            r.2,
      )

  -- closing: if one seat has every number, and not the book, the slot has the book; it has its start, and fits the seat's front and each
  -- old one
  pub closes : (id : ℕ) (v : View E S) (ws : List ℕ) (xs : List (Option B)) → v.held ≡ false → ((n : ℕ) → n < seats → IsIn n v.numbers)
      → Final (Seen Rule id v) ws xs
      → (b : B) × (get_elem? xs 0 ≡ some (Some b)) × Fits author (journal b) v × (start b ≡ o)
  closes id v ws xs idle all end =
      let s : St = end.0 in
      let r : Rule s = end.1.0 in
      let at : get_elem? s.views id ≡ some v = end.1.1 in ⊎_elim
      (λ (p : Free r.0 s). (
        p.0,
        end.4 0 (Some p.0) (ap (λ (l : List (mathlib.Core.Option.Option (Option B))). get_elem? l 0) p.2),
        subst (λ (h : List E). Fits author h v) (sym p.4) (r.1.fits id v at),
        p.3,
      ))
      (λ (p : Taken r.0 s).
      let u : View E S = view_of (p.1 ∷ p.2) (Some o) r.0 true [] in
      let ne : p.0 ≢ id = not_out s.views p.0 id r.0 (p.1 ∷ p.2) v p.5 at idle in
      absurd (r.1.apart p.0 id u v ne p.5 at p.1 (inl refl) (all p.1 (r.1.below p.0 u p.5 p.1 (inl refl)))))
      r.2

module _ {B : Type 0} where
  abbrev slot_in : List (ℕ × Option B) → Option B
  slot_in [] = None
  slot_in (x ∷ xs) = x.1

  -- what was in the slot
  pub same_book : (l : List (ℕ × Option B)) (b : B) (x : Option B) (r : List (ℕ × Option B)) → l ≡ (0, Some b) ∷ [] → l ≡ (0, x) ∷ r → x ≡ Some b
  same_book l b x r p q = ap slot_in (sym q ∙ p)

module _ {E S : Type 0} (author : E → ℕ) where
  pub joined_numbers : (v w j : View E S) (a b : ℕ) → j ≡ joined_view v w → v.numbers ≡ a ∷ [] → w.numbers ≡ b ∷ [] → j.numbers ≡ a ∷ (b ∷ [])
  joined_numbers v w j a b is p q = ap (λ (x : View E S). x.numbers) is ∙ (λ i. p i ++ q i)

  -- what the acquire after a join implies for both seats
  pub met_one : (v w j : View E S) (h : List E) (n : ℕ) → j ≡ joined_view v w → Fits author h j → v.numbers ≡ n ∷ [] → IsQuiet author (n ∷ []) v.front h
  met_one v w j h n is fit p = subst (λ (ns : List ℕ). IsQuiet author ns v.front h) p (subst (Fits author h) is fit).1.2

  pub met_two : (v w j : View E S) (h : List E) (n : ℕ) → j ≡ joined_view v w → Fits author h j → w.numbers ≡ n ∷ [] → IsQuiet author (n ∷ []) w.front h
  met_two v w j h n is fit q = subst (λ (ns : List ℕ). IsQuiet author ns w.front h) q (subst (Fits author h) is fit).1.3.2

pub splits_view : {B E S : Type 0} (author : E → ℕ) (start : B → S) (journal : B → List E) (o : S) (seats id m : ℕ) (ms : List ℕ) (from : Option S) (f : List E)
    (u : View E S) → u ≡ resting (m ∷ ms) from f
    → Splits (HasOneBook author start journal o seats) id u (first_part u) (other_part u)
splits_view author start journal o seats id m ms from f u is =
    subst (λ u. Splits (HasOneBook author start journal o seats) id u (first_part u) (other_part u)) (sym is)
    (splits author start journal o seats id m ms from f)
