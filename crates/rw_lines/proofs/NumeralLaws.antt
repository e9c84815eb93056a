-- Numerals are the decimal texts of the numbers below 2^64.
use Rattle.std.proofs.Common.{◌≡◌, ℕ, ◌+◌, ◌-◌, ◌*◌, ◌^◌, ◌<◌, ◌≤◌, Bool, true, false, cond, ltb, eqb, List, [], ◌∷◌}
use Rattle.std.proofs.Common.{length, get_or, Option, Some, None, refl, sym, ap, ◌∙◌, arith, inl, inr}
use Rattle.std.specs.Prelude.{◌&&◌, decimal, IfSome}
use Rattle.std.specs.Char.{is_ascii_digit, digit_value}
use Rattle.std.specs.Str.{all_ascii_digits}
use Rattle.std.specs.Str.Parse.{digits_value, digits_value_after}
use Rattle.std.proofs.lemmas.Bool.{and_parts, and_from, ltb-true, lt-ltb, ne_eqb, eqb-false, cond-true, cond-false}
use Rattle.std.proofs.lemmas.Bool.{cases_lt, cases_Bool, and_right, false_from_ne_true, not_from_false}
use Rattle.std.proofs.lemmas.Str.{digit_value_digit}
use Rattle.std.proofs.lemmas.Str.Parse.{IsNumeralModel, numerals_by_value, tells_all_ascii_digits}
use Rattle.std.proofs.lemmas.Fmt.{decimal_digit, decimal-digits_value, digits_decimal, digits_value-decimal, first_decimal, decimal_nonempty}
use Rattle.rw_lines.specs.Cut.{lacks}
use Rattle.rw_lines.specs.Numerals.{digits_in, numeral_in}

own : IsNumeralModel (λ ds. all_ascii_digits ds ≡ true) (digits_value 10)
own = numerals_by_value _ tells_all_ascii_digits

chosen_some : (b : Bool) (x m : ℕ) → cond b (Some x) None ≡ Some m → (b ≡ true) × (x ≡ m)
chosen_some true x m e = (refl, cc)
chosen_some false x m e = absurd cc

passed_some : (b : Bool) (x : Option ℕ) (m : ℕ) → cond b None x ≡ Some m → (b ≡ false) × (x ≡ Some m)
passed_some true x m e = absurd cc
passed_some false x m e = (refl, e)

-- what was read is digits, and the result is their value
digits_read : (ds : List ℕ) (m : ℕ) → digits_in ds ≡ Some m → (all_ascii_digits ds ≡ true) × (digits_value 10 ds ≡ m) × (m < 2 ^ 64)
digits_read ds m e =
    let c = chosen_some (all_ascii_digits ds && ltb (digits_value 10 ds) (2 ^ 64)) (digits_value 10 ds) m e in
    let p = and_parts (all_ascii_digits ds) (ltb (digits_value 10 ds) (2 ^ 64)) c.0 in
    (p.0, c.1, rw (← c.1) (ltb-true _ _ p.1))

digits_again : (ds : List ℕ) (n : ℕ) → n < 2 ^ 64 → ds ≡ decimal n → digits_in ds ≡ Some n
digits_again ds n lt e =
    let digits : all_ascii_digits ds ≡ true = rw e (digits_decimal own n lt) in
    let value : digits_value 10 ds ≡ n = rw e (digits_value-decimal own n lt) in
    cond-true (all_ascii_digits ds && ltb (digits_value 10 ds) (2 ^ 64)) (Some (digits_value 10 ds)) None (and_from _ _ digits (lt-ltb _ _ (rw value lt)))
    ∙ ap (λ (m : ℕ). Some m) value

-- a numeral is the decimal text of its number
pub named : (t : List ℕ) (n : ℕ) → numeral_in t ≡ Some n → (t ≡ decimal n) × (n < 2 ^ 64)
named [] n e = absurd cc
named (d ∷ []) n e =
    let r = digits_read (d ∷ []) n e in
    (sym (rw (← r.1) (decimal-digits_value own (d ∷ []) r.0 (omega arith) (λ z. refl) (rw r.1 r.2))), r.2)
named (d ∷ c ∷ ds) n e =
    let k = passed_some (eqb d 48) (digits_in (d ∷ c ∷ ds)) n e in
    let r = digits_read (d ∷ c ∷ ds) n k.1 in
    (sym (rw (← r.1) (decimal-digits_value own (d ∷ c ∷ ds) r.0 (omega arith) (λ z. absurd (eqb-false d 48 k.0 z)) (rw r.1 r.2))), r.2)

-- the decimal text of a number is its numeral
pub only : (t : List ℕ) (n : ℕ) → n < 2 ^ 64 → t ≡ decimal n → numeral_in t ≡ Some n
only [] n lt e = absurd (omega (arith, ap length e, decimal_nonempty n lt))
only (d ∷ []) n lt e = digits_again (d ∷ []) n lt e
only (d ∷ c ∷ ds) n lt e =
    elim (cases_lt 0 n) [
      | inl some ↦ cond-false (eqb d 48) None (digits_in (d ∷ c ∷ ds))
          (ne_eqb d 48 (λ z. omega (arith, first_decimal n some lt, ap (λ (x : List ℕ). get_or x 0 0) e))) ∙ digits_again (d ∷ c ∷ ds) n lt e
      | inr none ↦ let zero_is : n ≡ 0 = omega arith in absurd (omega (arith, ap length (e ∙ ap decimal zero_is ∙ decimal_digit 0 (omega arith))))
    ]

pub named_if : (t : List ℕ) (o : Option ℕ) → o ≡ numeral_in t → IfSome o (λ n. (t ≡ decimal n) × (n < 2 ^ 64))
named_if t None e = tt
named_if t (Some n) e = named t n (sym e)

lacks-digits : (mark : ℕ) (ds : List ℕ) → is_ascii_digit mark ≡ false → all_ascii_digits ds ≡ true → lacks mark ds ≡ true
lacks-digits mark [] other all = refl
lacks-digits mark (d ∷ ds) other all =
    let p = and_parts (is_ascii_digit d) (all_ascii_digits ds) all in
    and_from _ _ (not_from_false _ (ne_eqb d mark (λ same. absurd cc))) (lacks-digits mark ds other p.1)

-- a numeral has digits alone
pub lacks-decimal : (mark n : ℕ) → is_ascii_digit mark ≡ false → n < 2 ^ 64 → lacks mark (decimal n) ≡ true
lacks-decimal mark n other lt = lacks-digits mark (decimal n) other (digits_decimal own n lt)

-- ---- digit by digit

-- the number that has these digits after those of n, if it is below 2^64
abbrev pub digits_from : ℕ → List ℕ → Option ℕ
digits_from n [] = Some n
digits_from n (d ∷ ds) = cond (is_ascii_digit d && ltb (n * 10 + (d - 48)) (2 ^ 64)) (digits_from (n * 10 + (d - 48)) ds) None

abbrev number_if : Bool → ℕ → Option ℕ
number_if all v = cond (all && ltb v (2 ^ 64)) (Some v) None

grows : (n : ℕ) (ds : List ℕ) → n ≤ digits_value_after 10 n ds
grows n [] = omega arith
grows n (d ∷ ds) = omega (arith, grows (n * 10 + digit_value d) ds)

ltb_large : (m n : ℕ) → n ≤ m → ltb m n ≡ false
ltb_large m n le = false_from_ne_true (ltb m n) (λ e. omega (arith, ltb-true m n e))

read_from : (n : ℕ) (ds : List ℕ) → n < 2 ^ 64 → digits_from n ds ≡ number_if (all_ascii_digits ds) (digits_value_after 10 n ds)
read_from n [] lt = sym (cond-true (true && ltb n (2 ^ 64)) (Some n) None (lt-ltb _ _ lt))
read_from n (d ∷ ds) lt =
    elim (cases_Bool (is_ascii_digit d)) [
      | inl digit ↦
          let in_range = (tells_all_ascii_digits.parts d [] (and_from _ _ digit refl)).0 in
          let same : n * 10 + digit_value d ≡ n * 10 + (d - 48) = omega (arith, digit_value_digit d in_range) in
          elim (cases_lt (n * 10 + (d - 48)) (2 ^ 64)) [
            | inl small ↦
                cond-true (is_ascii_digit d && ltb (n * 10 + (d - 48)) (2 ^ 64)) (digits_from (n * 10 + (d - 48)) ds) None
                (and_from _ _ digit (lt-ltb _ _ small))
                ∙ read_from (n * 10 + (d - 48)) ds small
                ∙ rw (same, digit) refl
            | inr large ↦
                let past : 2 ^ 64 ≤ digits_value_after 10 (n * 10 + digit_value d) ds = omega (arith, same, grows (n * 10 + digit_value d) ds) in
                cond-false (is_ascii_digit d && ltb (n * 10 + (d - 48)) (2 ^ 64)) (digits_from (n * 10 + (d - 48)) ds) None
                (and_right _ _ (ltb_large (n * 10 + (d - 48)) (2 ^ 64) large))
                ∙ sym (cond-false (all_ascii_digits (d ∷ ds) && ltb (digits_value_after 10 n (d ∷ ds)) (2 ^ 64)) (Some (digits_value_after 10 n (d ∷ ds))) None
                (and_right _ _ (ltb_large (digits_value_after 10 n (d ∷ ds)) (2 ^ 64) past)))
          ]
      | inr none ↦ rw none refl
    ]

-- read digit by digit, they give the same number
pub digits_from_none : (ds : List ℕ) → digits_from 0 ds ≡ digits_in ds
digits_from_none ds = read_from 0 ds (omega arith)
