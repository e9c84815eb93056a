-- What a step does to those who wait for one thing.
use Rattle.std.proofs.Common.{◌≡◌, ℕ, ◌+◌, ◌<◌, ◌≤◌, Bool, true, false, cond, not, List, [], ◌∷◌, refl, ap, sym, ◌∙◌, arith}
use Rattle.std.specs.Prelude.{Option, Some, None, ◌==◌, nat_le}
use Rattle.std.specs.List.{filter}
use Rattle.std.proofs.lemmas.Bool.{eqb-true, eqb-false, leb-true, leb-false, ne_eqb}
use Rattle.std.proofs.lemmas.List.Sums.{sum_by-cons, sum_by_push}
use Rattle.rw_waiting.specs.declared.notices.WaitFor.{WaitFor}
use Rattle.rw_waiting.specs.declared.notices.WaitFor.TheVariants.{Value, NoReceiver}
use Rattle.rw_waiting.specs.declared.queue.Entry.{Entry}
use Rattle.rw_waiting.specs.Queue.{Queued, with_item, with_items, with_other, other_among, without}
use Rattle.rw_waiting.specs.Listed.{Listed, waiting_for, after_told}
use Rattle.rw_waiting.specs.Waitable.{Waitable}
use Rattle.rw_waiting.specs.Steps.{Step, Make, Begin, Renew, GiveUp, Renumber, many, woken_of, listed_after, woken_by}

-- what happens to a queue
pub data Act (W : Type 0) : Type 0 where
  Same : Act W
  Added : W → Act W
  Renewed : ℕ → W → Act W
  Left : ℕ → Act W
  Woken : Act W

abbrev pub act_on : {W : Type 0} → Act W → Queued W → Queued W
act_on Same q = q
act_on (Added waker) q = with_item q waker
act_on (Renewed t waker) q = with_other q t waker
act_on (Left t) q = without q t
act_on Woken q = with_items q []

abbrev pub given : {W : Type 0} → Act W → Queued W → List (Entry W)
given Woken q = q.items
given _ q = []

-- what happens to those who wait for the second, where it happens to those who wait for the first
abbrev pub act_at : {W : Type 0} → WaitFor → WaitFor → Act W → Act W
act_at Value Value a = a
act_at NoReceiver NoReceiver a = a
act_at _ _ a = Same

abbrev pub act_told : {W : Type 0} → Option WaitFor → WaitFor → Act W
act_told None what = Same
act_told (Some other) what = act_at other what Woken

module _ {V C : Type 0} (w : Waitable V C) {W : Type 0} where
  abbrev pub act_of : V → Step C W → WaitFor → Act W
  act_of x (Make c) what = act_told (w.told x c) what
  act_of x (Begin other waker) what = act_at other what (Added waker)
  act_of x (Renew other t waker) what = act_at other what (Renewed t waker)
  act_of x (GiveUp other t) what = act_at other what (Left t)
  act_of x Renumber what = Same

told_acts : {W : Type 0} (l : Listed W) (o : Option WaitFor) (what : WaitFor)
    → waiting_for (after_told l o) what ≡ act_on (act_told o what) (waiting_for l what)
told_acts l None what = refl
told_acts l (Some Value) Value = refl
told_acts l (Some Value) NoReceiver = refl
told_acts l (Some NoReceiver) Value = refl
told_acts l (Some NoReceiver) NoReceiver = refl

told_gives : {W : Type 0} (l : Listed W) (o : Option WaitFor) (what : WaitFor) → woken_of l o what ≡ given (act_told o what) (waiting_for l what)
told_gives l None what = refl
told_gives l (Some Value) Value = refl
told_gives l (Some Value) NoReceiver = refl
told_gives l (Some NoReceiver) Value = refl
told_gives l (Some NoReceiver) NoReceiver = refl

module _ {V C : Type 0} (w : Waitable V C) {W : Type 0} where
  -- a step leaves of each queue what its act does, and wakes whom its act gives out
  acts_and_gives : (x : V) (l : Listed W) (s : Step C W) (what : WaitFor)
      → (waiting_for (listed_after w x l s) what ≡ act_on (act_of w x s what) (waiting_for l what))
      × (woken_by w x l s what ≡ given (act_of w x s what) (waiting_for l what))
  acts_and_gives x l (Make c) what = (told_acts l (w.told x c) what, told_gives l (w.told x c) what)
  acts_and_gives x l Renumber what = (refl, refl)
  acts_and_gives x l (Begin Value waker) Value = (refl, refl)
  acts_and_gives x l (Begin Value waker) NoReceiver = (refl, refl)
  acts_and_gives x l (Begin NoReceiver waker) Value = (refl, refl)
  acts_and_gives x l (Begin NoReceiver waker) NoReceiver = (refl, refl)
  acts_and_gives x l (Renew Value t waker) Value = (refl, refl)
  acts_and_gives x l (Renew Value t waker) NoReceiver = (refl, refl)
  acts_and_gives x l (Renew NoReceiver t waker) Value = (refl, refl)
  acts_and_gives x l (Renew NoReceiver t waker) NoReceiver = (refl, refl)
  acts_and_gives x l (GiveUp Value t) Value = (refl, refl)
  acts_and_gives x l (GiveUp Value t) NoReceiver = (refl, refl)
  acts_and_gives x l (GiveUp NoReceiver t) Value = (refl, refl)
  acts_and_gives x l (GiveUp NoReceiver t) NoReceiver = (refl, refl)

  pub acts : (x : V) (l : Listed W) (s : Step C W) (what : WaitFor) → waiting_for (listed_after w x l s) what ≡ act_on (act_of w x s what) (waiting_for l what)
  acts x l s what = (acts_and_gives x l s what).0

  pub gives : (x : V) (l : Listed W) (s : Step C W) (what : WaitFor) → woken_by w x l s what ≡ given (act_of w x s what) (waiting_for l what)
  gives x l s what = (acts_and_gives x l s what).1

pub next_grows : {W : Type 0} (a : Act W) (q : Queued W) → q.next ≤ (act_on a q).next
next_grows Same q = omega arith
next_grows (Added waker) q = omega arith
next_grows (Renewed t waker) q = omega arith
next_grows (Left t) q = omega arith
next_grows Woken q = omega arith

-- ---- how often a ticket is there

abbrev one_if : Bool → ℕ
one_if b = cond b 1 0

-- one, if the ticket may still be given out
abbrev pub unused : ℕ → ℕ → ℕ
unused t n = cond (nat_le n t) 1 0

-- a ticket that is given out was unused before, and isn't then
given_out : (t n : ℕ) → cond (n == t) 1 0 + unused t (n + 1) ≡ unused t n
given_out t n = by_tests (n == t) (nat_le (n + 1) t) (nat_le n t) (eqb-true n t) (eqb-false n t) (leb-true (n + 1) t) (leb-false (n + 1) t)
    (leb-true n t) (leb-false n t) where
      by_tests : (a b c : Bool) → (a ≡ true → n ≡ t) → (a ≡ false → n ≡ t → ⊥) → (b ≡ true → n + 1 ≤ t) → (b ≡ false → t < n + 1)
          → (c ≡ true → n ≤ t) → (c ≡ false → t < n) → ◌≡◌ {A = ℕ} (cond a 1 0 + cond b 1 0) (cond c 1 0)
      by_tests true true c a _ b _ _ _ = absurd (omega (arith, a refl, b refl))
      by_tests true false true _ _ _ _ _ _ = refl
      by_tests true false false a _ _ b _ c = absurd (omega (arith, a refl, c refl))
      by_tests false true true _ _ _ _ _ _ = refl
      by_tests false true false _ _ b _ _ c = absurd (omega (arith, b refl, c refl))
      by_tests false false true _ a _ b c _ = absurd (omega (arith, a refl, b refl, c refl))
      by_tests false false false _ _ _ _ _ _ = refl

module _ {W : Type 0} (t : ℕ) where
  abbrev pub bit : Entry W → ℕ
  bit k = cond (k.number == t) 1 0

  fewer : (p : Entry W → Bool) (ks : List (Entry W)) → many t (filter p ks) ≤ many t ks
  fewer p [] = omega arith
  fewer p (k ∷ ks) = by_test (p k) (fewer p ks) where
    by_test : (b : Bool) → many t (filter p ks) ≤ many t ks → many t (cond b (k ∷ filter p ks) (filter p ks)) ≤ many t (k ∷ ks)
    by_test true less = omega (arith, sum_by-cons bit k (filter p ks), sum_by-cons bit k ks, less)
    by_test false less = omega (arith, sum_by-cons bit k ks, less)

  -- without another ticket it is there as often
  others : (other : ℕ) (ks : List (Entry W)) → (other ≡ t → ⊥) → many t (filter (λ (k : Entry W). not (k.number == other)) ks) ≡ many t ks
  others other [] apart = refl
  others other (k ∷ ks) apart = by_test (k.number == other) (eqb-true k.number other) (others other ks apart) where
    by_test : (b : Bool) → (b ≡ true → k.number ≡ other) → many t (filter (λ (k : Entry W). not (k.number == other)) ks) ≡ many t ks
        → many t (cond (not b) (k ∷ filter (λ (k : Entry W). not (k.number == other)) ks) (filter (λ (k : Entry W). not (k.number == other)) ks))
        ≡ many t (k ∷ ks)
    by_test true is rest =
        let none : (k.number == t) ≡ false = ne_eqb k.number t (λ same. apart (sym (is refl) ∙ same)) in
        omega (arith, rest, sum_by-cons bit k ks, ap one_if none)
    by_test false is rest =
        omega (arith, rest, sum_by-cons bit k ks, sum_by-cons bit k (filter (λ (k : Entry W). not (k.number == other)) ks))

  added : (q : Queued W) (waker : W) → t < q.next → many t (with_item q waker).items ≡ many t q.items
  added q waker fresh =
      let one : Entry W = record { number = q.next; item = waker } in
      let none : (q.next == t) ≡ false = ne_eqb q.next t (λ same. omega (arith, same, fresh)) in
      omega (arith, sum_by_push bit q.items one, ap one_if none)

  -- a call that is renewed keeps its ticket, and no other's changes
  renewed_many : (number : ℕ) (other : W) (ks : List (Entry W)) → many t (other_among ks number other) ≡ many t ks
  renewed_many number other [] = refl
  renewed_many number other (k ∷ ks) = by_number (k.number == number) (renewed_many number other ks) where
    by_number : (b : Bool) → many t (other_among ks number other) ≡ many t ks
        → many t (cond b (record k { item = other } ∷ ks) (k ∷ other_among ks number other)) ≡ many t (k ∷ ks)
    by_number true rest = sum_by-cons bit (record k { item = other }) ks ∙ sym (sum_by-cons bit k ks)
    by_number false rest = omega (arith, rest, sum_by-cons bit k (other_among ks number other), sum_by-cons bit k ks)

  -- an act that isn't this ticket's leaving
  abbrev pub IsNotLeaving : Act W → Type 0
  IsNotLeaving (Left other) = other ≡ t → ⊥
  IsNotLeaving _ = Unit {0}

  pub many_after : (a : Act W) (q : Queued W) → t < q.next → IsNotLeaving a → many t (given a q) + many t (act_on a q).items ≡ many t q.items
  many_after Same q fresh stays = omega arith
  many_after (Added waker) q fresh stays = omega (arith, added q waker fresh)
  many_after (Renewed other waker) q fresh stays = omega (arith, renewed_many other waker q.items)
  many_after (Left other) q fresh stays = omega (arith, others other q.items stays)
  many_after Woken q fresh stays = omega arith

  pub many_less : (a : Act W) (q : Queued W) → t < q.next → many t (act_on a q).items ≤ many t q.items
  many_less Same q fresh = omega arith
  many_less (Added waker) q fresh = omega (arith, added q waker fresh)
  many_less (Renewed other waker) q fresh = omega (arith, renewed_many other waker q.items)
  many_less (Left other) q fresh = fewer (λ (k : Entry W). not (k.number == other)) q.items
  many_less Woken q fresh = omega arith

  abbrev pub budget : Queued W → ℕ
  budget q = many t q.items + unused t q.next

  pub spends : (a : Act W) (q : Queued W) → many t (given a q) + budget (act_on a q) ≤ budget q
  spends Same q = omega arith
  spends (Added waker) q = omega (arith, sum_by_push bit q.items (record { number = q.next; item = waker }), given_out t q.next)
  spends (Renewed other waker) q = omega (arith, renewed_many other waker q.items)
  spends (Left other) q = omega (arith, fewer (λ (k : Entry W). not (k.number == other)) q.items)
  spends Woken q = omega arith
