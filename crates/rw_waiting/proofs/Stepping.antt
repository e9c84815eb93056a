-- Nobody waits in vain, by the laws of waiting.
use Rattle.std.proofs.Common.{◌≡◌, ℕ, ◌+◌, ◌<◌, ◌≤◌, Bool, true, false, cond, List, [], ◌∷◌, refl, ap, ◌∙◌, arith}
use Rattle.std.specs.Prelude.{Option, Some, None, nat_le}
use Rattle.std.proofs.lemmas.List.Sums.{sum_by-append}
use Rattle.rw_waiting.specs.declared.notices.WaitFor.{WaitFor}
use Rattle.rw_waiting.specs.declared.notices.WaitFor.TheVariants.{Value, NoReceiver}
use Rattle.rw_waiting.specs.Listed.{Listed, nobody, waiting_for, with_waiter, after_told}
use Rattle.rw_waiting.specs.Waitable.{Waitable, WaitLaws}
use Rattle.rw_waiting.specs.Steps.{Step, Make, Begin, Renew, GiveUp, Renumber, many, IsListed, Stays, view_after, listed_after, woken_by}
use Rattle.rw_waiting.specs.Steps.{view_after_all, listed_after_all, woken_by_all, number_after_all, Spare}
use Rattle.rw_waiting.specs.Steps.{NobodyWaitsInVain, WakesOnlyTheReady, IsWokenOrListed, WakesOnce}
use Rattle.rw_waiting.proofs.Acting.{act_of, act_told, acts, gives, next_grows, bit, IsNotLeaving, many_after, many_less, unused, budget, spends}

emptied : {W : Type 0} (l : Listed W) (what : WaitFor) (t : ℕ) → many t (waiting_for (after_told l (Some what)) what).items ≡ 0
emptied l Value t = refl
emptied l NoReceiver t = refl

fresh_waiter : {W : Type 0} (l : Listed W) (what : WaitFor) (waker : W) → (waiting_for l what).next < (waiting_for (with_waiter l what waker) what).next
fresh_waiter l Value waker = omega arith
fresh_waiter l NoReceiver waker = omega arith

told_stays : (W : Type 0) (t : ℕ) (o : Option WaitFor) (what : WaitFor) → IsNotLeaving {W = W} t (act_told o what)
told_stays W t None what = tt
told_stays W t (Some Value) Value = tt
told_stays W t (Some Value) NoReceiver = tt
told_stays W t (Some NoReceiver) Value = tt
told_stays W t (Some NoReceiver) NoReceiver = tt

module _ {V C : Type 0} (w : Waitable V C) {W : Type 0} where
  still_fresh : (x : V) (l : Listed W) (s : Step C W) (what : WaitFor) (t : ℕ) → t < (waiting_for l what).next
      → t < (waiting_for (listed_after w x l s) what).next
  still_fresh x l s what t fresh =
      omega (arith, ap (λ q. q.next) (acts w x l s what), next_grows (act_of w x s what) (waiting_for l what), fresh)

  -- a ticket that was given out and isn't there doesn't come back
  never : (x : V) (l : Listed W) (steps : List (Step C W)) (what : WaitFor) (t : ℕ) → t < (waiting_for l what).next
      → many t (waiting_for l what).items ≡ 0 → many t (waiting_for (listed_after_all w x l steps) what).items ≡ 0
  never x l [] what t fresh none = none
  never x l (s ∷ steps) what t fresh none =
      never (view_after w x s) (listed_after w x l s) steps what t (still_fresh x l s what t fresh)
      (omega (
        arith,
        ap (λ q. many t q.items) (acts w x l s what),
        many_less t (act_of w x s what) (waiting_for l what) fresh,
        none,
      ))

  module _ (laws : WaitLaws w) where
    on : (x : V) (l : Listed W) (steps : List (Step C W)) (what : WaitFor) (h t : ℕ) → w.allowed x → w.waits x what h → Spare w x steps what h
        → t < (waiting_for l what).next → IsListed (listed_after_all w x l steps) what t
        → w.waits (view_after_all w x steps) what (number_after_all w x steps h)
    on x l [] what h t ok waits spare fresh listed = waits
    on x l (Make c ∷ steps) what h t ok waits spare fresh listed =
        let untold : w.told x c ≡ Some what → ⊥ = λ is.
        let none : many t (waiting_for (listed_after w x l (Make c)) what).items ≡ 0 =
        ap (λ o. many t (waiting_for (after_told l o) what).items) is ∙ emptied l what t in
        omega (
          arith,
          never (w.next x c) (listed_after w x l (Make c)) steps what t (still_fresh x l (Make c) what t fresh) none,
          listed,
        ) in
        on (w.next x c) (listed_after w x l (Make c)) steps what h t (laws.next_allowed x c ok) (laws.waits_on x c what h ok waits spare.0 untold)
        spare.1 (still_fresh x l (Make c) what t fresh) listed
    on x l (Begin other waker ∷ steps) what h t ok waits spare fresh listed =
        on x (listed_after w x l (Begin other waker)) steps what h t ok waits spare.1 (still_fresh x l (Begin other waker) what t fresh) listed
    on x l (Renew other r waker ∷ steps) what h t ok waits spare fresh listed =
        on x (listed_after w x l (Renew other r waker)) steps what h t ok waits spare.1 (still_fresh x l (Renew other r waker) what t fresh) listed
    on x l (GiveUp other r ∷ steps) what h t ok waits spare fresh listed =
        on x (listed_after w x l (GiveUp other r)) steps what h t ok waits spare.1 (still_fresh x l (GiveUp other r) what t fresh) listed
    on x l (Renumber ∷ steps) what h t ok waits spare fresh listed =
        on (w.renumbered x) l steps what (w.number_after x h) t (laws.renumbered_allowed x ok) (laws.waits_renumbered x what h ok waits) spare.1
        fresh listed

    allowed_after : (x : V) (steps : List (Step C W)) → w.allowed x → w.allowed (view_after_all w x steps)
    allowed_after x [] ok = ok
    allowed_after x (Make c ∷ steps) ok = allowed_after (w.next x c) steps (laws.next_allowed x c ok)
    allowed_after x (Begin other waker ∷ steps) ok = allowed_after x steps ok
    allowed_after x (Renew other r waker ∷ steps) ok = allowed_after x steps ok
    allowed_after x (GiveUp other r ∷ steps) ok = allowed_after x steps ok
    allowed_after x (Renumber ∷ steps) ok = allowed_after (w.renumbered x) steps (laws.renumbered_allowed x ok)

  one_stays : (x : V) (s : Step C W) (steps : List (Step C W)) (what : WaitFor) (t : ℕ) → Stays (s ∷ steps) what t → IsNotLeaving t (act_of w x s what)
  one_stays x (Make c) steps what t stays = told_stays W t (w.told x c) what
  one_stays x (Begin Value waker) steps Value t stays = tt
  one_stays x (Begin Value waker) steps NoReceiver t stays = tt
  one_stays x (Begin NoReceiver waker) steps Value t stays = tt
  one_stays x (Begin NoReceiver waker) steps NoReceiver t stays = tt
  one_stays x (Renew Value r waker) steps Value t stays = tt
  one_stays x (Renew Value r waker) steps NoReceiver t stays = tt
  one_stays x (Renew NoReceiver r waker) steps Value t stays = tt
  one_stays x (Renew NoReceiver r waker) steps NoReceiver t stays = tt
  one_stays x Renumber steps what t stays = tt
  one_stays x (GiveUp Value r) steps Value t stays = stays.0 refl
  one_stays x (GiveUp Value r) steps NoReceiver t stays = tt
  one_stays x (GiveUp NoReceiver r) steps Value t stays = tt
  one_stays x (GiveUp NoReceiver r) steps NoReceiver t stays = stays.0 refl

  rest_stays : (s : Step C W) (steps : List (Step C W)) (what : WaitFor) (t : ℕ) → Stays (s ∷ steps) what t → Stays steps what t
  rest_stays (Make c) steps what t stays = stays
  rest_stays (Begin other waker) steps what t stays = stays
  rest_stays (Renew other r waker) steps what t stays = stays
  rest_stays (GiveUp other r) steps what t stays = stays.1
  rest_stays Renumber steps what t stays = stays

  woken_or_listed_after : (x : V) (l : Listed W) (what : WaitFor) (t : ℕ) (steps : List (Step C W)) → t < (waiting_for l what).next → Stays steps what t
      → many t (woken_by_all w x l steps what) + many t (waiting_for (listed_after_all w x l steps) what).items ≡ many t (waiting_for l what).items
  woken_or_listed_after x l what t [] fresh stays = omega arith
  woken_or_listed_after x l what t (s ∷ steps) fresh stays =
      let one : IsNotLeaving t (act_of w x s what) = one_stays x s steps what t stays in
      let rest : Stays steps what t = rest_stays s steps what t stays in
      omega (
        arith,
        sum_by-append (bit t) (woken_by w x l s what) (woken_by_all w (view_after w x s) (listed_after w x l s) steps what),
        ap (many t) (gives w x l s what),
        ap (λ q. many t q.items) (acts w x l s what),
        many_after t (act_of w x s what) (waiting_for l what) fresh one,
        woken_or_listed_after (view_after w x s) (listed_after w x l s) what t steps (still_fresh x l s what t fresh) rest,
      )

  at_steps : (x : V) (l : Listed W) (steps : List (Step C W)) (what : WaitFor) (t : ℕ) → many t (woken_by_all w x l steps what) ≤ budget t (waiting_for l what)
  at_steps x l [] what t = omega arith
  at_steps x l (s ∷ steps) what t =
      omega (
        arith,
        sum_by-append (bit t) (woken_by w x l s what) (woken_by_all w (view_after w x s) (listed_after w x l s) steps what),
        ap (many t) (gives w x l s what),
        ap (budget t) (acts w x l s what),
        spends t (act_of w x s what) (waiting_for l what),
        at_steps (view_after w x s) (listed_after w x l s) steps what t,
      )

one_unused : (t : ℕ) → unused t 0 ≤ 1
one_unused t = by_test (nat_le 0 t) where
  by_test : (b : Bool) → cond b 1 0 ≤ 1
  by_test true = omega arith
  by_test false = omega arith

budget_of_nobody : (W : Type 0) (t : ℕ) (what : WaitFor) → budget t (waiting_for {W = W} nobody what) ≤ 1
budget_of_nobody W t Value = omega (arith, one_unused t)
budget_of_nobody W t NoReceiver = omega (arith, one_unused t)

module _ {V C : Type 0} (w : Waitable V C) {W : Type 0} where
  pub in_vain : WaitLaws w → NobodyWaitsInVain w W
  in_vain laws x l what h waker steps ok waits spare listed =
      on w laws x (with_waiter l what waker) steps what h (waiting_for l what).next ok waits spare (fresh_waiter l what waker) listed

  pub only_the_ready : WaitLaws w → WakesOnlyTheReady w W
  only_the_ready laws x l what h waker steps c ok waits spare spared listed is still =
      laws.waits_no_longer (view_after_all w x steps) c what (number_after_all w x steps h) (allowed_after w laws x steps ok)
      (in_vain laws x l what h waker steps ok waits spare listed) spared is still

  pub woken_or_listed : IsWokenOrListed w W
  woken_or_listed x l what t steps fresh stays = woken_or_listed_after w x l what t steps fresh stays

  pub once : WakesOnce w W
  once x steps what t = omega (arith, at_steps w x nobody steps what t, budget_of_nobody W t what)
