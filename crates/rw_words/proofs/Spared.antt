-- Results that never have one fault.
use Rattle.std.proofs.Common.{◌≢◌, Bool, true, false, cond, Option, Some, None, Result, Ok, Err}
use Rattle.rw_words.specs.Words.{◌>>=◌, map_ok, or_fault}

-- the result isn't this fault
abbrev pub Spares : {A E : Type 0} → E → Result A E → Type 0
Spares fault (Ok x) = Unit {0}
Spares fault (Err other) = other ≢ fault

module _ {E : Type 0} (fault : E) where
  pub bind_spares : {A B : Type 0} (r : Result A E) (f : A → Result B E) → Spares fault r → ((x : A) → Spares fault (f x)) → Spares fault (r >>= f)
  bind_spares (Ok x) f h g = g x
  bind_spares (Err other) f h g = h

  pub cond_spares : {A : Type 0} (b : Bool) (r s : Result A E) → Spares fault r → Spares fault s → Spares fault (cond b r s)
  cond_spares true r s h g = h
  cond_spares false r s h g = g

  pub or_fault_spares : {A : Type 0} (other : E) (o : Option A) → other ≢ fault → Spares fault (or_fault other o)
  or_fault_spares other None h = h
  or_fault_spares other (Some x) h = tt

  pub map_spares : {A B : Type 0} (f : A → B) (r : Result A E) → Spares fault r → Spares fault (map_ok f r)
  map_spares f (Ok x) h = tt
  map_spares f (Err other) h = h
