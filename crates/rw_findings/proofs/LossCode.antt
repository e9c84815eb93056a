-- The code of the search for losses, and what it computes.
use Rattle.std.proofs.Common.{◌≡◌, ℕ, zero, suc, ◌<◌, ◌≤◌, List, [], ◌∷◌, length, ◌++◌, get_or, set, take, drop, refl, sym, ap, ◌∙◌, arith}
use Rattle.std.specs.Option.{IsNone}
use Rattle.std.proofs.lemmas.List.{take_at}
use Rattle.std.specs.Prelude.{Option, Some, None, option_map, nat_eq, nat_lt, ◌||◌, Bool, true, false}
use Rattle.std.proofs.lemmas.Bool.Decides.{nat_tests}
use Rattle.rw_broadcast.specs.declared.calls.BCall.{BCall}
use Rattle.rw_broadcast.specs.declared.calls.BReply.{BReply}
use Rattle.rw_ring.specs.declared.ring.TheConstants.{MOST_CAPACITY}
use Rattle.rw_world.specs.Lists.{map_at}
use Rattle.rw_world.specs.Openings.{has_bad_capacity}
use Rattle.rw_world.specs.declared.channels.ChanCall.{ChanCall}
use Rattle.rw_world.specs.declared.channels.ChanCall.TheVariants as call_of
use Rattle.rw_world.specs.declared.channels.ChanReply.{ChanReply}
use Rattle.rw_world.specs.declared.channels.ChanReply.TheVariants as reply_of
use Rattle.rw_world.specs.declared.opening.Spec.{Spec}
use Rattle.rw_world.specs.declared.opening.Spec.TheVariants.{Broadcast}
use Rattle.rw_world.proofs.Modifying.{length-modified}
use Rattle.rw_world.specs.Specified.{WorldEntry}
use Rattle.rw_findings.specs.LossTracks.{Track, with_call, with_call_on, with_entry}

pub set_at : {X : Type 0} (f : X → X) (xs : List X) (i : ℕ) (d y : X) → i < length xs → y ≡ f (get_or xs i d) → set xs i y ≡ map_at f xs i
set_at f [] i d y within is = refl
set_at f (x ∷ xs) zero d y within is = ap (λ z. z ∷ xs) is
set_at f (x ∷ xs) (suc i) d y within is = let below : i < length xs = omega arith in ap (λ zs. x ∷ zs) (set_at f xs i d y below is)

pub past_at : {X : Type 0} (f : X → X) (xs : List X) (i : ℕ) → length xs ≤ i → xs ≡ map_at f xs i
past_at f [] i past = refl
past_at f (x ∷ xs) zero past = absurd (omega arith)
past_at f (x ∷ xs) (suc i) past = ap (λ zs. x ∷ zs) (past_at f xs i (omega arith))

module _ {V : Type 0} where
  -- the track of a channel is written
  pub taken : (ts : List (Option Track)) (c : ℕ) (call : ChanCall V) (reply : ChanReply V) (b : BCall V) (r : BReply V) (place : ℕ) (was new : Option Track)
      → call ≡ call_of.B b → reply ≡ reply_of.B r → c < length ts
      → was ≡ get_or ts c was → new ≡ option_map (λ t. with_call t b r place) was → set ts c new ≡ with_call_on ts c call reply place
  taken ts c call reply b r place was new call_is reply_is within read is =
      set_at (option_map (λ t. with_call t b r place)) ts c was new within (is ∙ ap (option_map (λ t. with_call t b r place)) read)
      ∙ ap (λ k. with_call_on ts c k (reply_of.B r) place) (sym call_is) ∙ ap (λ k. with_call_on ts c call k place) (sym reply_is)

  -- there is no such channel
  pub not_taken : (ts : List (Option Track)) (c : ℕ) (call : ChanCall V) (reply : ChanReply V) (b : BCall V) (r : BReply V) (place : ℕ) → call ≡ call_of.B b
      → reply ≡ reply_of.B r → length ts ≤ c
      → ts ≡ with_call_on ts c call reply place
  not_taken ts c call reply b r place call_is reply_is past =
      past_at (option_map (λ t. with_call t b r place)) ts c past
      ∙ ap (λ k. with_call_on ts c k (reply_of.B r) place) (sym call_is) ∙ ap (λ k. with_call_on ts c call k place) (sym reply_is)

  -- there are as many tracks after an entry
  pub length_taken : (ts : List (Option Track)) (e : WorldEntry V) (place : ℕ) → length (with_entry ts e place) ≡ length ts
  length_taken ts e place = on e.call.channel e.call.call e.reply where
    on : (c : ℕ) (call : ChanCall V) (reply : ChanReply V) → length (with_call_on ts c call reply place) ≡ length ts
    on c (call_of.B call) (reply_of.B reply) = length-modified (option_map (λ t. with_call t call reply place)) ts c
    on c (call_of.B call) _ = refl
    on c (call_of.W call) _ = refl

  -- a capacity that isn't bad is one that a broadcast can have
  pub good_capacity : (spec : Spec V) (capacity : ℕ) → spec ≡ Broadcast capacity → has_bad_capacity spec ≡ false → (0 < capacity) × (capacity ≤ MOST_CAPACITY)
  good_capacity spec capacity is good = by_tests (nat_eq capacity 0) (nat_lt MOST_CAPACITY capacity) refl refl (ap has_bad_capacity (sym is) ∙ good) where
    by_tests : (a b : Bool) → nat_eq capacity 0 ≡ a → nat_lt MOST_CAPACITY capacity ≡ b → (a || b) ≡ false → (0 < capacity) × (capacity ≤ MOST_CAPACITY)
    by_tests true b some few none = absurd cc
    by_tests false true some few none = absurd cc
    by_tests false false some few none = (grind (arith, nat_tests), grind (arith, nat_tests))

pub is_none_from : {X : Type 0} (o : Option X) → o ≡ None → IsNone o
is_none_from None is = refl
is_none_from (Some x) is = absurd cc

-- a slice of a Vec that was written
pub written : {X : Type 0} (n : ℕ) (xs ys : List X) → length xs ≡ n → length ys ≡ n → take n (xs ++ drop (length xs) ys) ≡ xs
written n xs ys one two = ap (λ k. take k (xs ++ drop (length xs) ys)) (sym one) ∙ take_at xs (drop (length xs) ys) (length xs) refl
