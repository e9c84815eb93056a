-- Errors that `?` returns, and the faults of closing a desk.
use Rattle.std.proofs.Common.{◌≡◌, ℕ, List, Result, Ok, Err, IsErrOf, ◌⊎◌, inl, inr, ap}
use Rattle.std.specs.Prelude.{◌↔◌, IsErrAnd}
use Rattle.rw_world.specs.Specified.{ChanEntry}
use Rattle.rw_desk.specs.declared.faults.CloseFault.{CloseFault}
use Rattle.rw_desk.specs.declared.faults.CloseFault.TheVariants.{Stranger, Strayed, NoMemory}
use Rattle.rw_desk.specs.declared.faults.DeskFault.{DeskFault}
use Rattle.rw_desk.specs.declared.faults.DeskFault.TheVariants as desk
use Rattle.rw_desk.specs.Closing.{AreAllHere, IsCloseFaultOf, IsCopyFault, IsNoStranger, IsSettleFaultOf}
use Rattle.rw_desk.specs.Passes.{Pass}

-- a `?` returns the error unchanged
pub handed_on : {T E : Type 0} (r : Result T E) (e : E) → IsErrAnd r (λ f. f ≡ e) → r ≡ Err e
handed_on (Ok x) e told = absurd told
handed_on (Err f) e told = ap (λ g. Err g) told

-- which error it is doesn't depend on the type of the `Ok`
pub same_error : {T U E : Type 0} (e f : E) (P : Type 0) → (IsErrOf {T = T} (Err e) f ↔ P) → (IsErrOf {T = U} (Err e) f ↔ P)
same_error {T = T} {U = U} e f P told = (
  λ h. let same : e ≡ f = cc in told.0 (ap (λ g. Err g) same),
  λ p. let is : ◌≡◌ {A = Result T _} (Err e) (Err f) = told.1 p in let same : e ≡ f = cc in ap (λ g. Err g) same,
)

pub other_error : {T U E : Type 0} (e f : E) → (IsErrOf {T = T} (Err e) f → ⊥) → IsErrOf {T = U} (Err e) f → ⊥
other_error e f other h = let same : e ≡ f = cc in other (ap (λ g. Err g) same)

pub told_on : {T U E : Type 0} (r : Result U E) (e f : E) (P : Type 0) → IsErrAnd r (λ g. g ≡ e) → (IsErrOf {T = T} (Err e) f ↔ P) → (IsErrOf r f ↔ P)
told_on r e f P is told = rw (handed_on r e is) (same_error e f P told)

-- no `Ok` is an error
pub no_error : {T U E : Type 0} (x : T) (y : U) (f : E) (P : Type 0) → (IsErrOf (Ok x) f ↔ P) → (IsErrOf (Ok y) f ↔ P)
no_error {T = T} {E = E} x y f P told = (λ h. absurd (cc), λ p. let is : ◌≡◌ {A = Result T E} (Ok x) (Err f) = told.1 p in absurd (cc))

-- an error is this one exactly if its cause holds
pub as_error : {T E : Type 0} (e f : E) (P : Type 0) → ((e ≡ f) ↔ P) → (IsErrOf {T = T} (Err e) f ↔ P)
as_error e f P told = (λ h. let same : e ≡ f = cc in told.0 same, λ p. ap (λ g. Err g) (told.1 p))

pub memory_is_not_full : {T : Type 0} → IsErrOf {T = T} (Err desk.NoMemory) desk.JournalFull → ⊥
memory_is_not_full h = cc

-- a refusal to make room isn't the fault of a stray call
pub room_fault_is_no_stray : {T U : Type 0} (e : DeskFault) → (IsErrOf {T = T} (Err e) desk.JournalFull ⊎ IsErrOf {T = T} (Err e) desk.NoMemory)
    → IsErrOf {T = U} (Err e) desk.NoChannel → ⊥
room_fault_is_no_stray e (inl full) stray = cc
room_fault_is_no_stray e (inr memory) stray = cc

pub copy_fault_names_nobody : (fault : CloseFault) → IsCopyFault fault → IsNoStranger fault
copy_fault_names_nobody (Stranger a) h = h
copy_fault_names_nobody (Strayed a i) h = tt
copy_fault_names_nobody NoMemory h = tt

module _ {V : Type 0} where
  pub settle_fault_names_nobody : (js : List (List (ChanEntry V))) (passes : List (Pass V)) (fault : CloseFault) → IsSettleFaultOf js passes fault
      → IsNoStranger fault
  settle_fault_names_nobody js passes (Stranger a) h = h
  settle_fault_names_nobody js passes (Strayed a i) h = tt
  settle_fault_names_nobody js passes NoMemory h = tt

  -- if each actor has a pass, each fault but `Stranger` is one of closing the desk
  pub close_fault : (n : ℕ) (passes : List (Pass V)) (fault : CloseFault) → IsNoStranger fault → AreAllHere n passes → IsCloseFaultOf n passes fault
  close_fault n passes (Stranger a) other here = absurd other
  close_fault n passes (Strayed a i) other here = here
  close_fault n passes NoMemory other here = here
