-- Names as keys of a map, and names in the order of binding.
use Rattle.std.proofs.Common.{◌≡◌, ℕ, ◌<◌, Bool, true, false, cond, ◌&&◌, ◌||◌, List, [], ◌∷◌, ◌++◌, map, length}
use Rattle.std.proofs.Common.{get_or, Option, Some, None, refl, ap, ◌∙◌, arith, ltb, eqb, inl, inr}
use Rattle.std.specs.Prelude.{position, is_some, slice_get}
use Rattle.std.specs.List.{position_or_len, IsDistinct}
use Rattle.std.specs.Map.{keys_of, values_of, lookup}
use Rattle.std.specs.Str.{bytes_eq}
use Rattle.std.proofs.lemmas.Bool.{cond-true, cond-false, lt-ltb, le-ltb, ltb-false, cases_order}
use Rattle.std.proofs.lemmas.List.{length-map, get_or-map}
use Rattle.std.proofs.lemmas.List.Quantifiers.{position-Some}
use Rattle.std.proofs.lemmas.List.Sums.{position_or_len_is, fails_before_first}
use Rattle.std.proofs.lemmas.Map.Keys.{apart_from_distinct}
use Rattle.std.proofs.lemmas.Option.{get_or_from_slice_get}
use Rattle.std.proofs.lemmas.Slice.Eq.{bytes_eq-Decides}
use Rattle.indexmap.specs.IndexMap.{insert_entry}
use Rattle.rw_script.specs.StepLines.{Bound, number_of, is_bound}

-- ---- the first position

pub first_at : {X : Type 0} (p : X → Bool) (xs : List X) (i : ℕ) (d : X) → i < length xs → ((k : ℕ) → k < i → p (get_or xs k d) ≡ false)
    → p (get_or xs i d) ≡ true → position p xs ≡ Some i
first_at p xs i d lt before here =
    let e : position_or_len p xs ≡ i = position_or_len_is p xs i d (omega (arith, lt)) before (λ _. here) in
    rw e (cond-true (ltb i (length xs)) (Some i) None (lt-ltb i (length xs) lt))

pub no_position : {X : Type 0} (p : X → Bool) (xs : List X) (d : X) → ((k : ℕ) → k < length xs → p (get_or xs k d) ≡ false) → position p xs ≡ None
no_position p xs d fails =
    let e : position_or_len p xs ≡ length xs = position_or_len_is p xs (length xs) d (omega arith) fails (λ h. absurd (omega (arith, h))) in
    rw e (cond-false (ltb (length xs) (length xs)) (Some (length xs)) None (le-ltb (length xs) (length xs) (omega arith)))

none_of : (b : Bool) (n : ℕ) → cond b (Some n) None ≡ None → b ≡ false
none_of true n e = absurd cc
none_of false n e = refl

pub fails_everywhere : {X : Type 0} (p : X → Bool) (xs : List X) (d : X) → position p xs ≡ None → (k : ℕ) → k < length xs → p (get_or xs k d) ≡ false
fails_everywhere p xs d e k lt =
    let all = none_of (ltb (position_or_len p xs) (length xs)) (position_or_len p xs) e in
    fails_before_first p xs k d (omega (arith, lt, ltb-false _ _ all))

-- ---- tests

both : (a b : Bool) → a ≡ false → (a && b) ≡ false
both true b h = absurd cc
both false b h = refl

all_of : (a b : Bool) → a ≡ true → b ≡ true → (a && b) ≡ true
all_of true b h k = k
all_of false b h k = absurd cc

and_false : (a b : Bool) → b ≡ false → (a && b) ≡ false
and_false true b h = h
and_false false b h = refl

or_false : (a b : Bool) → (a || b) ≡ false → (a ≡ false) × (b ≡ false)
or_false true b h = absurd cc
or_false false b h = (refl, h)

-- ---- names

-- K: keys, whose bytes are `items`; X: the actor that bound a key, and the channel
module _ {K X : Type 0} (items : K → List ℕ) (by at : X → ℕ) where
  abbrev pub bound : K × X → Bound
  bound e = record { name = items e.0; actor = by e.1; channel = at e.1 }

  abbrev is_it : List ℕ → K → Bool
  is_it name k = bytes_eq name (items k)

  some_or : (b : Bool) (x : X) (o : Option X) → is_some (cond b (Some x) o) ≡ b || is_some o
  some_or true x o = refl
  some_or false x o = refl

  pub is_bound_by_map : (es : List (K × X)) (name : List ℕ) → is_some (lookup (is_it name) es) ≡ is_bound (map bound es) name
  is_bound_by_map [] name = refl
  is_bound_by_map (e ∷ es) name = some_or (is_it name e.0) e.1 (lookup (is_it name) es) ∙ ap (λ b. is_it name e.0 || b) (is_bound_by_map es name)

  abbrev same : K → K → Bool
  same a b = bytes_eq (items a) (items b)

  -- a name that no line has bound is added at the end
  pub bound_last : (es : List (K × X)) (name : List ℕ) (key : K) (x : X) → items key ≡ name → is_bound (map bound es) name ≡ false
      → map bound (insert_entry same es key x) ≡ map bound es ++ record { name = name; actor = by x; channel = at x } ∷ []
  bound_last [] name key x is free = rw is refl
  bound_last (e ∷ es) name key x is free =
      let p = or_false (bytes_eq name (items e.0)) (is_bound (map bound es) name) free in
      let other : same key e.0 ≡ false = rw is p.0 in
      ap (map bound) (cond-false (same key e.0) ((e.0, x) ∷ es) (e ∷ insert_entry same es key x) other)
      ∙ ap (λ (bs : List Bound). bound e ∷ bs) (bound_last es name key x is p.1)

  module _ (name : List ℕ) (actor channel : ℕ) where
    abbrev is_here : X → Bool
    is_here x = eqb (by x) actor && eqb (at x) channel

    abbrev is_found : Bound → Bool
    is_found b = bytes_eq name b.name && (eqb b.actor actor && eqb b.channel channel)

    found_at : (es : List (K × X)) (k : ℕ) (d : K × X) → k < length es
        → is_found (get_or (map bound es) k (bound d)) ≡ is_it name (get_or (keys_of es) k d.0) && is_here (get_or (values_of es) k d.1)
    found_at es k d lt = rw (get_or-map bound es k d (bound d) lt, get_or-map (λ e. e.0) es k d d.0 lt, get_or-map (λ e. e.1) es k d d.1 lt) refl

    length-bound : (es : List (K × X)) → length (map bound es) ≡ length es
    length-bound es = length-map es bound

    length-keys : (es : List (K × X)) → length (keys_of es) ≡ length es
    length-keys es = length-map es (λ e. e.0)

    -- no line bound the name
    pub unbound_name : (es : List (K × X)) → position (is_it name) (keys_of es) ≡ None → number_of (map bound es) name actor channel ≡ None
    unbound_name [] e = refl
    unbound_name (e0 ∷ es) e =
        no_position is_found (map bound (e0 ∷ es)) (bound e0) (λ k lt.
        let within : k < length (e0 ∷ es) = omega (arith, lt, length-bound (e0 ∷ es)) in
        found_at (e0 ∷ es) k e0 within ∙ both _ _ (fails_everywhere (is_it name) (keys_of (e0 ∷ es)) e0.0 e k (omega (arith, within, length-keys (e0 ∷ es)))))

    -- this actor bound it on this channel
    pub bound_here : (es : List (K × X)) (i : ℕ) (x : X) → position (is_it name) (keys_of es) ≡ Some i → slice_get (values_of es) i ≡ Some x → is_here x ≡ true
        → number_of (map bound es) name actor channel ≡ Some i
    bound_here [] i x e at here = absurd cc
    bound_here (e0 ∷ es) i x e at here =
        let p = position-Some (is_it name) (keys_of (e0 ∷ es)) i e0.0 e in
        let within : i < length (e0 ∷ es) = omega (arith, p.0, length-keys (e0 ∷ es)) in
        let own : is_here (get_or (values_of (e0 ∷ es)) i e0.1) ≡ true = ap is_here (get_or_from_slice_get (values_of (e0 ∷ es)) i x e0.1 at) ∙ here in
        first_at is_found (map bound (e0 ∷ es)) i (bound e0) (omega (arith, within, length-bound (e0 ∷ es)))
        (λ k lt. found_at (e0 ∷ es) k e0 (omega (arith, lt, within)) ∙ both _ _ (p.2 k lt))
        (found_at (e0 ∷ es) i e0 within ∙ all_of _ _ p.1 own)

    it_is : (a b : K) → is_it name a ≡ true → same a b ≡ false → is_it name b ≡ false
    it_is a b h d = let e : name ≡ items a = (bytes_eq-Decides name (items a)).0 h in rw e d

    -- another actor bound it, or on another channel
    pub bound_elsewhere : (es : List (K × X)) (i : ℕ) (x : X) → IsDistinct same (keys_of es) → position (is_it name) (keys_of es) ≡ Some i
        → slice_get (values_of es) i ≡ Some x → is_here x ≡ false
        → number_of (map bound es) name actor channel ≡ None
    bound_elsewhere [] i x distinct e at here = absurd cc
    bound_elsewhere (e0 ∷ es) i x distinct e at here =
        let p = position-Some (is_it name) (keys_of (e0 ∷ es)) i e0.0 e in
        let ks : List K = keys_of (e0 ∷ es) in
        let not_own : is_here (get_or (values_of (e0 ∷ es)) i e0.1) ≡ false = ap is_here (get_or_from_slice_get (values_of (e0 ∷ es)) i x e0.1 at) ∙ here in
        no_position is_found (map bound (e0 ∷ es)) (bound e0) (λ k lt.
        let within : k < length (e0 ∷ es) = omega (arith, lt, length-bound (e0 ∷ es)) in
        found_at (e0 ∷ es) k e0 within ∙ elim (cases_order k i) [
          | inl same_position ↦ and_false _ _ (ap (λ j. is_here (get_or (values_of (e0 ∷ es)) j e0.1)) same_position ∙ not_own)
          | inr other ↦ elim other [
            | inl below ↦ both _ _ (p.2 k below)
            | inr above ↦ both _ _ (it_is (get_or ks i e0.0) (get_or ks k e0.0) p.1
                (apart_from_distinct same ks i k e0.0 distinct above (omega (arith, within, length-keys (e0 ∷ es)))))
          ]
        ])
