-- How a receiver that is gone is taken off the values that it had to receive, one by one.
use Rattle.std.proofs.Common.{◌≡◌, ◌≢◌, ℕ, ◌+◌, ◌-◌, ◌<◌, ◌≤◌, Bool, true, false, cond, List, [], ◌∷◌, ◌++◌, length, map, take, drop, set, get_or}
use Rattle.std.proofs.Common.{refl, ap, sym, ◌∙◌, arith, subst, length-take, length-drop}
use Rattle.std.specs.Prelude.{min, Option, Some, None, All, slice_get, count_by}
use Rattle.std.specs.Option.{option_to_list}
use Rattle.std.proofs.lemmas.Bool.{eqb-true, eq-eqb}
use Rattle.std.proofs.lemmas.List.{length-append, length-map, append-nil, get_or-drop, get_or-append_right}
use Rattle.std.proofs.lemmas.List.{get_or_default, set-append_right, take_more, take_all, flat_map_more}
use Rattle.std.proofs.lemmas.List.{drop_all, take-append-drop}
use Rattle.std.proofs.lemmas.List.Edits.{map_over_more}
use Rattle.std.proofs.lemmas.List.Elements.{All-get_or}
use Rattle.std.proofs.lemmas.List.Folds.{length-flat_map-take}
use Rattle.std.proofs.lemmas.List.Sums.{sum_by-cons, count_by_more_yes, count_by_more_no}
use Rattle.std.proofs.lemmas.Option.{slice_get-get_or}
use Rattle.rw_values.specs.declared.values.Kept.{Kept}
use Rattle.rw_values.specs.Stored.{Store, Awaits, IsAwaited, age, kept_at, receivers_of, given, all_given, is_last, one_less, one_less_at}
use Rattle.rw_values.specs.Stored.{one_less_from, older_than, unread_of, with_left, with_received}
use Rattle.rw_values.specs.Inside.{store_of_cells}
use Rattle.rw_values.proofs.Cells.{length_rotation}
use Rattle.rw_values.proofs.Keeping.{one_less_is_set}

-- what is under no number
abbrev nothing : {V : Type 0} → Kept V
nothing = record { receivers = 0; value = None }

-- those kept from a number on
abbrev pub kept_from : {V : Type 0} → Store V → ℕ → List (Kept V)
kept_from s from = drop (age s from) s.kept

-- what is kept once the values from one number up to another have one receiver less
abbrev pub left_until : {V : Type 0} → Store V → (from number : ℕ) → List (Kept V)
left_until s from number =
    take (age s from) s.kept ++ (map one_less (take (number - from) (kept_from s from)) ++ drop (number - from) (kept_from s from))

-- from which number on a receiver has values to receive in a store of these cells: this many before the next number
pub record Begins {V : Type 0} (s : Store V) (next few unread : ℕ) : Type 0 where
  pub next_is : next ≡ s.next
  pub numbered : length s.kept ≤ s.next
  pub from_is : next - few ≡ s.next - min unread (length s.kept)
  pub kept : s.next ≤ next - few + length s.kept

pub begins : {V : Type 0} (s : Store V) (capacity first next room unread all few : ℕ) (cells : List (Kept V))
    → store_of_cells capacity first next cells room ≡ s → length cells ≤ next → all ≡ length cells → few ≡ min unread all → Begins s next few unread
begins s capacity first next room unread all few cells is below all_is few_is =
    let next_is : next ≡ s.next = ap (λ (t : Store _). t.next) is in
    let as_long : length s.kept ≡ length cells = ap (λ (t : Store _). length t.kept) (sym is) ∙ length_rotation first cells in
    record {
      next_is = next_is;
      numbered = omega (arith, next_is, as_long, below);
      from_is = omega (arith, next_is, as_long, all_is, few_is);
      kept = omega (arith, next_is, as_long, all_is, few_is);
    }

-- a loop that has come to a number
pub record IsLeaving {V : Type 0} (before now : Store V) (from number : ℕ) (values : List V) (capacity : ℕ) : Type 0 where
  pub is : now ≡ record before { kept = left_until before from number }
  pub given_is : values ≡ all_given (take (number - from) (kept_from before from))
  pub room : count_by is_last (kept_from before from) ≤ capacity

-- no more is given than have one receiver left
pub few_given : {V : Type 0} (ks : List (Kept V)) → length (all_given ks) ≤ count_by is_last ks
few_given [] = omega arith
few_given (k ∷ ks) = omega (
  arith,
  few_given ks,
  length-append (option_to_list (given k)) (all_given ks),
  one_given (is_last k) k.value,
  sum_by-cons (λ l. cond (is_last l) 1 0) k ks,
) where
  one_given : {V : Type 0} (b : Bool) (o : Option V) → length (option_to_list (cond b o None)) ≤ cond b 1 0
  one_given true None = omega arith
  one_given true (Some v) = omega arith
  one_given false o = omega arith

-- the value at a number, from another one on
module _ {V : Type 0} (s : Store V) (from number : ℕ) (kept : s.next ≤ from + length s.kept) (there : from ≤ number) (sent : number < s.next) where
  abbrev xs : List (Kept V)
  xs = kept_from s from

  abbrev i : ℕ
  i = number - from

  abbrev k : Kept V
  k = get_or xs i nothing

  place : age s number ≡ age s from + i
  place = omega (arith, kept, there, sent)

  within : age s from + i < length s.kept
  within = omega (arith, kept, there, sent)

  pub short : i < length xs
  short = omega (arith, within, length-drop (age s from) s.kept)

  one_on : number + 1 - from ≡ i + 1
  one_on = omega (arith, there)

  pub next_is : kept_at s number ≡ Some k
  next_is =
      ap (slice_get s.kept) place
      ∙ (slice_get-get_or s.kept (age s from + i) nothing within ∙ ap Some (sym (get_or-drop (age s from) s.kept i nothing)))

  -- how many have one receiver left, with one more value
  pub counts_last : (receivers : ℕ) → receivers ≡ receivers_of (kept_at s number) → receivers ≡ 1
      → count_by is_last (take (number + 1 - from) xs) ≡ count_by is_last (take i xs) + 1
  counts_last receivers is one =
      ap (λ n. count_by is_last (take n xs)) one_on
      ∙ count_by_more_yes is_last xs i nothing short (eq-eqb k.receivers 1 (omega (arith, is ∙ ap receivers_of next_is, one)))

  pub counts_other : (receivers : ℕ) → receivers ≡ receivers_of (kept_at s number) → receivers ≢ 1
      → count_by is_last (take (number + 1 - from) xs) ≡ count_by is_last (take i xs)
  counts_other receivers is other =
      ap (λ n. count_by is_last (take n xs)) one_on
      ∙ count_by_more_no is_last xs i nothing short
      (is_false (is_last k) (λ yes. other (is ∙ (ap receivers_of next_is ∙ eqb-true k.receivers 1 yes)))) where
        is_false : (b : Bool) → (b ≡ true → ⊥) → b ≡ false
        is_false true never = absurd (never refl)
        is_false false never = refl

  -- the store once those before it have one receiver less
  abbrev lu : List (Kept V)
  lu = left_until s from number

  abbrev pub left : Store V
  left = record s { kept = lu }

  abbrev ys : List (Kept V)
  ys = map one_less (take i xs) ++ drop i xs

  length_older : length (take (age s from) s.kept) ≡ age s from
  length_older = omega (arith, length-take (age s from) s.kept, within)

  length_done : length (map one_less (take i xs)) ≡ i
  length_done = omega (arith, length-map (take i xs) one_less, length-take i xs, short)

  length_left : length lu ≡ length s.kept
  length_left = omega (
    arith,
    length-append (take (age s from) s.kept) ys,
    length-append (map one_less (take i xs)) (drop i xs),
    length_older,
    length_done,
    length-drop i xs,
    length-drop (age s from) s.kept,
    short,
    within,
  )

  left_age : age left number ≡ age s from + i
  left_age = omega (arith, length_left, place)

  get_ys : get_or ys i nothing ≡ k
  get_ys =
      let none : i + (i - i) ≡ i = omega arith in
      get_or-append_right (map one_less (take i xs)) (drop i xs) i i nothing length_done (omega arith)
      ∙ (get_or-drop i xs (i - i) nothing ∙ ap (λ n. get_or xs n nothing) none)

  get_left : get_or lu (age s from + i) nothing ≡ k
  get_left =
      let there : age s from + i - age s from ≡ i = omega arith in
      get_or-append_right (take (age s from) s.kept) ys (age s from) (age s from + i) nothing length_older (omega arith)
      ∙ (ap (λ n. get_or ys n nothing) there ∙ get_ys)

  pub left_at : kept_at left number ≡ Some k
  left_at =
      ap (slice_get lu) left_age
      ∙ (slice_get-get_or lu (age s from + i) nothing (omega (arith, length_left, within)) ∙ ap Some get_left)

  pub awaits_left : All IsAwaited xs → Awaits left number
  awaits_left awaited = record {
    kept = omega (arith, length_left, kept, there);
    sent = sent;
    some = subst (λ o. 0 < receivers_of o) (sym left_at) (All-get_or IsAwaited xs i nothing short awaited);
  }

  -- with one receiver less for it too
  pub left_next : with_received left number ≡ record s { kept = left_until s from (number + 1) }
  left_next =
      let there : age s from + i - age s from ≡ i = omega arith in
      let same : k ≡ get_or ys i k = sym get_ys ∙ get_or_default ys i nothing k (omega (
        arith,
        length-append (map one_less (take i xs)) (drop i xs),
        length_done,
        length-drop i xs,
        short,
      )) in
      ap (λ l. record s { kept = l })
      (ap (one_less_at lu) left_age
      ∙ (one_less_is_set lu (age s from + i) nothing (omega (arith, length_left, within))
      ∙ (ap (λ l. set lu (age s from + i) (one_less l)) get_left
      ∙ (set-append_right (take (age s from) s.kept) ys (age s from) (age s from + i) (one_less k) length_older (omega arith)
      ∙ (ap (λ n. take (age s from) s.kept ++ set ys n (one_less k)) there
      ∙ (ap (λ l. take (age s from) s.kept ++ l) (map_over_more one_less xs ys i k short refl same)
      ∙ ap (λ n. take (age s from) s.kept ++ (map one_less (take n xs) ++ drop n xs)) (sym one_on)))))))

  -- and what is given back then
  pub given_next : all_given (take i xs) ++ option_to_list (given k) ≡ all_given (take (number + 1 - from) xs)
  given_next =
      flat_map_more (λ (l : Kept V). option_to_list (given l)) [] (take i xs) k
      ∙ (ap all_given (sym (take_more xs i nothing short)) ∙ ap (λ n. all_given (take n xs)) (sym one_on))

  pub room_next : (v : V) → given k ≡ Some v → length (all_given (take i xs)) + 1 ≤ count_by is_last xs
  room_next v is = omega (
    arith,
    length-flat_map-take (λ (l : Kept V). option_to_list (given l)) xs i nothing short,
    ap (λ o. length (option_to_list o)) is,
    few_given xs,
  )

-- at the beginning
pub left_none : {V : Type 0} (s : Store V) (from : ℕ) → s ≡ record s { kept = left_until s from from }
left_none s from =
    let none : from - from ≡ 0 = omega arith in
    ap (λ l. record s { kept = l })
    (sym (ap (λ n. take (age s from) s.kept ++ (map one_less (take n (kept_from s from)) ++ drop n (kept_from s from))) none
    ∙ take-append-drop (age s from) s.kept))

-- a receiver's values to receive are those from a number on
pub place_is : {V : Type 0} (s : Store V) (unread from : ℕ) → length s.kept ≤ s.next → from ≡ s.next - min unread (length s.kept)
    → age s from ≡ older_than s unread
place_is s unread from numbered from_is = omega (arith, numbered, from_is)

-- at the end, where the values from the number on are those that a receiver had to receive
module _ {V : Type 0} (s : Store V) (unread from number : ℕ) (numbered : length s.kept ≤ s.next)
    (from_is : from ≡ s.next - min unread (length s.kept)) (all : s.next ≤ number) where
  as_many : length (kept_from s from) ≤ number - from
  as_many = omega (arith, numbered, from_is, all, length-drop (age s from) s.kept)

  pub given_all : all_given (take (number - from) (kept_from s from)) ≡ all_given (unread_of s unread)
  given_all = ap all_given (take_all (number - from) (kept_from s from) as_many ∙ ap (λ n. drop n s.kept) (place_is s unread from numbered from_is))

  pub left_all : record s { kept = left_until s from number } ≡ with_left s unread
  left_all = ap (λ l. record s { kept = l })
      (ap (λ l. take (age s from) s.kept ++ (map one_less l ++ drop (number - from) (kept_from s from))) (take_all (number - from) (kept_from s from) as_many)
      ∙ (ap (λ l. take (age s from) s.kept ++ (map one_less (kept_from s from) ++ l)) (drop_all (number - from) (kept_from s from) as_many)
      ∙ (ap (λ l. take (age s from) s.kept ++ l) (append-nil (map one_less (kept_from s from)))
      ∙ ap (one_less_from s.kept) (place_is s unread from numbered from_is))))
