-- A machine that is defined by one function: the outcome of a call, from what is shown. Each law is then a fact about one outcome.
use Rattle.std.specs.Prelude.{◌≡◌, ℕ, ◌+◌, ◌≤◌, Bool, true, false, if◌then◌else◌, refl}
use Rattle.rw_law.specs.Laws.{Laws}

-- what a call leads to: what is shown then, the reply, and the patch that undoes it
pub record Outcome (V R P : Type 0) : Type 0 where
  pub next : V
  pub reply : R
  pub patch : P

-- a machine, as its callers see it: what it shows, and the weight up to which it has room
pub record Machine (V : Type 0) : Type 0 where
  pub shown : V
  pub limit : ℕ

-- the machine went from old to new by this outcome, and returned its reply and patch
pub record Follows {V R P : Type 0} (old new : Machine V) (given : R × P) (o : Outcome V R P) : Type 0 where
  pub shown : new.shown ≡ o.next
  pub limit : new.limit ≡ old.limit
  pub reply : given.0 ≡ o.reply
  pub patch : given.1 ≡ o.patch

module _ {V C R P : Type 0} (allowed : V → Type 0) (weigh : V → ℕ) (back : V → C → P → V) (fits : V → C → P → Type 0) (refuses : R → Bool) where
  -- the laws of a machine, for one outcome of a call from x
  pub record IsSound (x : V) (c : C) (o : Outcome V R P) : Type 0 where
    pub undone : allowed x → back o.next c o.patch ≡ x
    pub next_allowed : allowed x → allowed o.next
    pub patch_fits : allowed x → fits o.next c o.patch
    pub refused : refuses o.reply ≡ true → o.next ≡ x
    pub weight_rises : weigh o.next ≤ weigh x + 1

  -- an outcome that depends on a test is sound if it is sound in both cases
  pub sound_if : {E : Type 0} (f : E → Outcome V R P) {x : V} {c : C} (b : Bool) {o p : E}
      → (b ≡ true → IsSound x c (f o))
      → (b ≡ false → IsSound x c (f p))
      → IsSound x c (f (if b then o else p))
  sound_if f true h k = h refl
  sound_if f false h k = k refl

  -- where all outcomes are sound, the laws hold
  pub laws_of : (outcome : V → C → Outcome V R P) (is_waiting is_straying : R → Bool) → ((x : V) (c : C) → IsSound x c (outcome x c))
      → ((r : R) → is_waiting r ≡ true → refuses r ≡ true) → ((r : R) → is_straying r ≡ true → refuses r ≡ true)
      → Laws allowed weigh (λ x c. (outcome x c).next) (λ x c. (outcome x c).reply) (λ x c. (outcome x c).patch) back fits refuses is_waiting is_straying
  laws_of outcome is_waiting is_straying sound waits strays = record {
    undone = λ x c. (sound x c).undone;
    next_allowed = λ x c. (sound x c).next_allowed;
    patch_fits = λ x c. (sound x c).patch_fits;
    refused = λ x c a. (sound x c).refused;
    waiting_refuses = waits;
    straying_refuses = strays;
    weight_rises = λ x c a. (sound x c).weight_rises;
  }
