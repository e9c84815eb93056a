-- Where bytes are cut, and what the parts are.
use Rattle.std.proofs.Common.{◌≡◌, ◌≢◌, ℕ, zero, suc, ◌+◌, ◌-◌, ◌<◌, Bool, true, false, not, cond, List, [], ◌∷◌, ◌++◌, length, take}
use Rattle.std.proofs.Common.{drop, get_or, Option, Some, None, inl, inr, ◌⊎◌, refl, ap, ◌∙◌, arith, ltb, eqb, add-one}
use Rattle.std.specs.Prelude.{position}
use Rattle.std.proofs.lemmas.Bool.{ltb-false, cond-true, cond-false, and_parts, and_from, not-true, eqb-true, eq-eqb, ne_eqb}
use Rattle.std.proofs.lemmas.List.{take_rest}
use Rattle.std.proofs.lemmas.List.Sums.{fails_before_first}
use Rattle.std.proofs.lemmas.List.Quantifiers.{position-Some}
use Rattle.rw_lines.specs.Cut.{cut, onto, lacks}

abbrev pair : List ℕ → List ℕ → Option (List ℕ × List ℕ)
pair a b = Some (a, b)

abbrev stop : Bool → List ℕ → Option (List ℕ × List ℕ) → Option (List ℕ × List ℕ)
stop b bs more = cond b (pair [] bs) more

-- two parts joined by the byte are cut there, if the first one lacks it
pub cut_joined : (mark : ℕ) (a rest : List ℕ) → lacks mark a ≡ true → cut mark (a ++ mark ∷ rest) ≡ Some (a, rest)
cut_joined mark [] rest h = cond-true (eqb mark mark) (pair [] rest) (onto mark (cut mark rest)) (eq-eqb mark mark refl)
cut_joined mark (b ∷ a) rest h =
    let p = and_parts (not (eqb b mark)) (lacks mark a) h in
    cond-false (eqb b mark) (pair [] (a ++ mark ∷ rest)) (onto b (cut mark (a ++ mark ∷ rest))) (not-true _ p.0)
    ∙ ap (onto b) (cut_joined mark a rest p.1)

-- without the byte there is no cut
pub cut_lacks : (mark : ℕ) (a : List ℕ) → lacks mark a ≡ true → cut mark a ≡ None
cut_lacks mark [] h = refl
cut_lacks mark (b ∷ a) h =
    let p = and_parts (not (eqb b mark)) (lacks mark a) h in
    cond-false (eqb b mark) (pair [] a) (onto b (cut mark a)) (not-true _ p.0) ∙ ap (onto b) (cut_lacks mark a p.1)

onto_some : (b : ℕ) (o : Option (List ℕ × List ℕ)) (p : List ℕ × List ℕ) → onto b o ≡ Some p → (q : List ℕ × List ℕ) × (o ≡ Some q) × ((b ∷ q.0, q.1) ≡ p)
onto_some b None p e = absurd cc
onto_some b (Some q) p e = (q, refl, cc)

onto_none : (b : ℕ) (o : Option (List ℕ × List ℕ)) → onto b o ≡ None → o ≡ None
onto_none b None e = refl
onto_none b (Some q) e = absurd cc

stop_some : (t : Bool) (bs : List ℕ) (more : Option (List ℕ × List ℕ)) (p : List ℕ × List ℕ) → stop t bs more ≡ Some p
    → ((t ≡ true) × (([], bs) ≡ p)) ⊎ ((t ≡ false) × (more ≡ Some p))
stop_some true bs more p e = inl (refl, cc)
stop_some false bs more p e = inr (refl, e)

stop_none : (t : Bool) (bs : List ℕ) (more : Option (List ℕ × List ℕ)) → stop t bs more ≡ None → (t ≡ false) × (more ≡ None)
stop_none true bs more e = absurd cc
stop_none false bs more e = (refl, e)

-- the parts of a cut: the first one lacks the byte, and joined by it they are the whole
pub cut_parts : (mark : ℕ) (bytes : List ℕ) (p : List ℕ × List ℕ) → cut mark bytes ≡ Some p → (lacks mark p.0 ≡ true) × (bytes ≡ p.0 ++ mark ∷ p.1)
cut_parts mark [] p e = absurd cc
cut_parts mark (b ∷ bs) p e =
    elim (stop_some (eqb b mark) bs (onto b (cut mark bs)) p e) [
      | inl h ↦ let same : b ≡ mark = eqb-true b mark h.0 in rw (← h.1, same) (refl, refl)
      | inr h ↦
          let q = onto_some b (cut mark bs) p h.1 in
          let ih = cut_parts mark bs q.0 q.1 in
          rw (← q.2) (and_from (not (eqb b mark)) (lacks mark q.0.0) (ap not h.0) ih.0, ap (λ (x : List ℕ). b ∷ x) ih.1)
    ]

-- without a cut, the byte is missing
pub lacks_uncut : (mark : ℕ) (bytes : List ℕ) → cut mark bytes ≡ None → lacks mark bytes ≡ true
lacks_uncut mark [] e = refl
lacks_uncut mark (b ∷ bs) e =
    let p = stop_none (eqb b mark) bs (onto b (cut mark bs)) e in
    and_from (not (eqb b mark)) (lacks mark bs) (ap not p.0) (lacks_uncut mark bs (onto_none b (cut mark bs) p.1))

pub lacks-append : (mark : ℕ) (a b : List ℕ) → lacks mark a ≡ true → lacks mark b ≡ true → lacks mark (a ++ b) ≡ true
lacks-append mark [] b h k = k
lacks-append mark (c ∷ a) b h k =
    let p = and_parts (not (eqb c mark)) (lacks mark a) h in
    and_from (not (eqb c mark)) (lacks mark (a ++ b)) p.0 (lacks-append mark a b p.1 k)

pub lacks_one : (mark b : ℕ) → b ≢ mark → lacks mark (b ∷ []) ≡ true
lacks_one mark b ne = and_from (not (eqb b mark)) true (ap not (ne_eqb b mark ne)) refl

-- ---- by index, as slices are cut

at_index : (mark : ℕ) (bytes : List ℕ) (i : ℕ) → i < length bytes → eqb (get_or bytes i 0) mark ≡ true → ((k : ℕ) → k < i → eqb (get_or bytes k 0) mark ≡ false)
    → cut mark bytes ≡ Some (take i bytes, drop (suc i) bytes)
at_index mark [] i lt here before = absurd (omega arith)
at_index mark (b ∷ bs) zero lt here before = cond-true (eqb b mark) (pair [] bs) (onto b (cut mark bs)) here
at_index mark (b ∷ bs) (suc i) lt here before =
    cond-false (eqb b mark) (pair [] bs) (onto b (cut mark bs)) (before 0 (omega arith))
    ∙ ap (onto b) (at_index mark bs i (omega arith) here (λ k h. before (suc k) (omega arith)))

at_none : (mark : ℕ) (bytes : List ℕ) → ((k : ℕ) → k < length bytes → eqb (get_or bytes k 0) mark ≡ false) → cut mark bytes ≡ None
at_none mark [] before = refl
at_none mark (b ∷ bs) before =
    cond-false (eqb b mark) (pair [] bs) (onto b (cut mark bs)) (before 0 (omega arith))
    ∙ ap (onto b) (at_none mark bs (λ k h. before (suc k) (omega arith)))

none_of : (b : Bool) (n : ℕ) → cond b (Some n) None ≡ None → b ≡ false
none_of true n e = absurd cc
none_of false n e = refl

none_below : (m n : ℕ) → cond (ltb m n) (Some m) None ≡ None → ltb m n ≡ false
none_below m n e = none_of (ltb m n) m e

pub cut_none : (bytes : List ℕ) (mark : ℕ) → position (λ b. eqb b mark) bytes ≡ None → cut mark bytes ≡ None
cut_none bytes mark e =
    let all = none_below _ _ e in
    at_none mark bytes (λ k lt. fails_before_first (λ b. eqb b mark) bytes k 0 (omega (arith, ltb-false _ _ all)))

pub cut_some : (bytes : List ℕ) (mark at : ℕ) → position (λ b. eqb b mark) bytes ≡ Some at
    → cut mark bytes ≡ Some (take at bytes, take (length bytes - (at + 1)) (drop (at + 1) bytes))
cut_some bytes mark at e =
    let p = position-Some (λ b. eqb b mark) bytes at 0 e in
    rw (take_rest, add-one) (at_index mark bytes at p.0 p.1 p.2)
