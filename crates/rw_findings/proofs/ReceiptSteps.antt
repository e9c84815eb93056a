-- One entry of a run, and the places at which handles were last given a value.
use Rattle.std.proofs.Common.{◌≡◌, ℕ, zero, suc, ◌+◌, ◌-◌, ◌<◌, Bool, true, false, cond, List, [], ◌∷◌, ◌++◌, length, get_or, max, inl, inr, refl, ap, sym}
use Rattle.std.proofs.Common.{◌∙◌, subst, arith}
use Rattle.std.specs.Prelude.{Some, None, ◌&&◌, map, nat_eq, option_map, slice_get}
use Rattle.std.proofs.lemmas.Bool.{cases_eq, cases_lt}
use Rattle.std.proofs.lemmas.Bool.Decides.{nat_tests}
use Rattle.std.proofs.lemmas.List.{length-map, length_push}
use Rattle.std.proofs.lemmas.Option.{slice_get-get_or, slice_get-map, slice_get_within}
use Rattle.rw_journal.specs.Run.{Run}
use Rattle.rw_navigator.specs.Conditions.{has}
use Rattle.rw_navigator.specs.Places.{last_place}
use Rattle.rw_world.specs.Specified.{WorldEntry}
use Rattle.rw_findings.specs.Peaks.{Raised, alone, peak_in}
use Rattle.rw_findings.specs.Receivers.{AreLastGiven, AreLastReceipts, IsLastGiven, given_by, gives}
use Rattle.rw_findings.specs.declared.totals.total.Totals.{Totals}
use Rattle.rw_findings.specs.Totals.{passes_at}
use Rattle.rw_findings.proofs.LifePlaces.{same_element}

-- at the opening no handle was given a value
pub receipts_first : {V : Type 0} (run : Run V) → AreLastGiven run 0 []
receipts_first run c h = record { within = omega arith; given = inl refl; none_later = λ p above below. absurd (omega (arith, below)) }

module _ {V : Type 0} (run : Run V) (n : ℕ) (e : WorldEntry V) (within : n < length run.entries) (read : e ≡ get_or run.entries n e) where
  passes_is : (c h : ℕ) → passes_at c (gives h) run.entries n ≡ (nat_eq e.call.channel c && gives h e.call.call e.reply)
  passes_is c h =
      ap (λ o. has (λ (f : WorldEntry V). nat_eq f.call.channel c && gives h f.call.call f.reply) o)
      (slice_get-get_or run.entries n e within ∙ ap Some (sym read))

  -- a handle that was given nothing
  idle : (c h place : ℕ) → IsLastGiven run c h n place → passes_at c (gives h) run.entries n ≡ false → IsLastGiven run c h (n + 1) place
  idle c h place is none = record {
    within = omega (arith, is.within);
    given = is.given;
    none_later = λ p above below.
        elim (cases_lt p n) [
          | inl before ↦ is.none_later p above before
          | inr not_before ↦ let here : n ≡ p = omega (arith, below, not_before) in
              subst (λ q. passes_at c (gives h) run.entries q ≡ false) here none
        ];
  }

  -- one that was given a value
  now : (c h : ℕ) → passes_at c (gives h) run.entries n ≡ true → IsLastGiven run c h (n + 1) (n + 1)
  now c h passed = record {
    within = omega arith;
    given = let back : n ≡ n + 1 - 1 = omega arith in inr (omega arith, subst (λ p. passes_at c (gives h) run.entries p ≡ true) back passed);
    none_later = λ p above below. absurd (omega (arith, above, below));
  }

  and_false : (b : Bool) → (b && false) ≡ false
  and_false true = refl
  and_false false = refl

  pub receipts_idle : (rows : List (List ℕ)) → given_by e.call.call e.reply ≡ None → AreLastGiven run n rows → AreLastGiven run (n + 1) rows
  receipts_idle rows none are c h =
      idle c h (peak_in rows c h) (are c h)
      (passes_is c h ∙ ap (λ o. nat_eq e.call.channel c && has (λ g. nat_eq g h) o) none ∙ and_false (nat_eq e.call.channel c))

  module _ (old new : List (List ℕ)) (handle : ℕ) (is : given_by e.call.call e.reply ≡ Some handle)
      (raised : Raised old new handle (alone e.call.channel (n + 1))) (are : AreLastGiven run n old) where
    given_is : (c h : ℕ) → passes_at c (gives h) run.entries n ≡ (nat_eq e.call.channel c && nat_eq handle h)
    given_is c h = passes_is c h ∙ ap (λ o. nat_eq e.call.channel c && has (λ g. nat_eq g h) o) is

    level : (c h : ℕ) (a b : Bool) → nat_eq h handle ≡ a → nat_eq c e.call.channel ≡ b
        → peak_in new c h ≡ cond a (max (peak_in old c h) (cond b (n + 1) 0)) (peak_in old c h)
    level c h a b first second =
        raised c h ∙ ap (λ k. cond k (max (peak_in old c h) (cond (nat_eq c e.call.channel) (n + 1) 0)) (peak_in old c h)) first
        ∙ ap (λ k. cond a (max (peak_in old c h) (cond k (n + 1) 0)) (peak_in old c h)) second

    pub receipts_more : AreLastGiven run (n + 1) new
    receipts_more c h =
        elim (cases_eq h handle) [
          | inl same ↦ elim (cases_eq c e.call.channel) [
            | inl on ↦
                let one : nat_eq h handle ≡ true = grind (arith, nat_tests) in
                let two : nat_eq c e.call.channel ≡ true = grind (arith, nat_tests) in
                let three : nat_eq handle h ≡ true = grind (arith, nat_tests) in
                let four : nat_eq e.call.channel c ≡ true = grind (arith, nat_tests) in
                let place : n + 1 ≡ peak_in new c h = omega (arith, level c h true true one two, (are c h).within) in
                subst (λ p. IsLastGiven run c h (n + 1) p) place
                (now c h (given_is c h ∙ ap (λ k. k && nat_eq handle h) four ∙ three))
            | inr apart ↦
                let one : nat_eq h handle ≡ true = grind (arith, nat_tests) in
                let two : nat_eq c e.call.channel ≡ false = grind (arith, nat_tests) in
                let three : nat_eq e.call.channel c ≡ false = grind (arith, nat_tests) in
                let place : peak_in old c h ≡ peak_in new c h = omega (arith, level c h true false one two) in
                subst (λ p. IsLastGiven run c h (n + 1) p) place
                (idle c h (peak_in old c h) (are c h) (given_is c h ∙ ap (λ k. k && nat_eq handle h) three))
          ]
          | inr apart ↦
              let one : nat_eq h handle ≡ false = grind (arith, nat_tests) in
              let two : nat_eq handle h ≡ false = grind (arith, nat_tests) in
              let place : peak_in old c h ≡ peak_in new c h = sym (level c h false (nat_eq c e.call.channel) one refl) in
              subst (λ p. IsLastGiven run c h (n + 1) p) place
              (idle c h (peak_in old c h) (are c h)
              (given_is c h ∙ ap (λ k. nat_eq e.call.channel c && k) two ∙ and_false (nat_eq e.call.channel c)))
        ]

-- ---- lists of findings, one more

before_push : {X : Type 0} (xs : List X) (i : ℕ) (x : X) → i < length xs → slice_get (xs ++ x ∷ []) i ≡ slice_get xs i
before_push [] i x below = absurd (omega arith)
before_push (z ∷ xs) zero x below = refl
before_push (z ∷ xs) (suc i) x below = before_push xs i x (omega arith)

at_push : {X : Type 0} (xs : List X) (x : X) → slice_get (xs ++ x ∷ []) (length xs) ≡ Some x
at_push [] x = refl
at_push (z ∷ xs) x = at_push xs x

-- of the first elements of a list, each with what was found of it
abbrev pub AreFound : {X Y : Type 0} → (Is : X → Y → Type 0) → List X → ℕ → List Y → Type 0
AreFound Is xs n ys = (length ys ≡ n) × ((i : ℕ) (x : _) (y : _) → slice_get xs i ≡ Some x → slice_get ys i ≡ Some y → Is x y)

pub found_more : {X Y : Type 0} (Is : X → Y → Type 0) (xs : List X) (n : ℕ) (ys : List Y) (x : X) (y : Y) → slice_get xs n ≡ Some x → Is x y
    → AreFound Is xs n ys → AreFound Is xs (n + 1) (ys ++ y ∷ [])
found_more Is xs n ys x y here is are = (
  length_push ys y ∙ ap (λ k. k + 1) are.0,
  λ i a b first second.
      elim (cases_lt i n) [
        | inl before ↦ are.1 i a b first (sym (before_push ys i y (omega (arith, before, are.0))) ∙ second)
        | inr not_before ↦
            let inside : i < length (ys ++ y ∷ []) = slice_get_within (ys ++ y ∷ []) i b second in
            let last : i ≡ length ys = omega (arith, not_before, inside, length_push ys y, are.0) in
            let index : i ≡ n = omega (arith, last, are.0) in
            let b_is : y ≡ b = same_element (sym (at_push ys y) ∙ ap (λ k. slice_get (ys ++ y ∷ []) k) (sym last) ∙ second) in
            let a_is : x ≡ a = same_element (sym here ∙ ap (λ k. slice_get xs k) (sym index) ∙ first) in
            subst (λ z. Is a z) b_is (subst (λ z. Is z y) a_is is)
      ],
)

-- ---- the receivers of totals

map_read : {X Y : Type 0} (f : X → Y) (xs : List X) (i : ℕ) (x : X) (y : Y) → slice_get xs i ≡ Some x → slice_get (map f xs) i ≡ Some y → f x ≡ y
map_read f xs i x y here there = same_element (sym (slice_get-map f xs i ∙ ap (option_map f) here) ∙ there)

pub are_receipts : {V : Type 0} (run : Run V) (rows : List (List ℕ)) (totals : List Totals) (places : List ℕ) → AreLastGiven run (last_place run) rows
    → places ≡ map (λ t. peak_in rows t.channel t.receiver) totals → AreLastReceipts run totals places
are_receipts run rows totals places are is = record {
  many = ap length is ∙ length-map totals (λ t. peak_in rows t.channel t.receiver);
  each = λ i place t here there.
      subst (IsLastGiven run t.channel t.receiver (last_place run))
      (map_read (λ (u : Totals). peak_in rows u.channel u.receiver) totals i t place here (ap (λ ps. slice_get ps i) (sym is) ∙ there))
      (are t.channel t.receiver);
}
