-- What holds of a call, by the cases of the check of its handle.
use Rattle.std.proofs.Common.{◌≡◌, ℕ, ◌<◌, Bool, true, false, cond, refl}
use Rattle.std.specs.Prelude.{◌&&◌, nat_le}
use Rattle.std.proofs.lemmas.Bool.{leb-false}
use Rattle.rw_handles.specs.declared.kinds.Kind.{Kind}
use Rattle.rw_handles.specs.declared.kinds.HandleFault.{HandleFault}
use Rattle.rw_handles.specs.declared.kinds.Found.{Found}
use Rattle.rw_handles.specs.declared.kinds.Found.TheVariants.{Fault, Handle}
use Rattle.rw_handles.specs.declared.table.TheConstants.{MOST_HANDLES}
use Rattle.rw_handles.specs.Channels.{answer_of_check}

-- a call that makes a handle passes the check on their number only below the limit
room_for_more : (b : Bool) (n : ℕ) → (b && nat_le MOST_HANDLES n) ≡ false → b ≡ true → n < MOST_HANDLES
room_for_more true n h _ = leb-false MOST_HANDLES n h
room_for_more false n h is = cc

-- what holds of a refusal, of too many handles, and of a call that a live handle serves, holds of every call
pub of_checked : {X E : Type 0} (P : E → Type 0) (refused : HandleFault → E) (too_many : E) (makes : Bool) (made : ℕ) (served : Kind → X → E) (f : Found X)
    → ((fault : HandleFault) → P (refused fault)) → P too_many
    → ((kind : Kind) (x : X) → f ≡ Handle kind x → (makes ≡ true → made < MOST_HANDLES) → P (served kind x))
    → P (answer_of_check refused too_many makes made served f)
of_checked P refused too_many makes made served (Fault fault) faulty many serves = faulty fault
of_checked P refused too_many makes made served (Handle kind x) faulty many serves =
    by_number (makes && nat_le MOST_HANDLES made) (λ few. serves kind x refl (room_for_more makes made few)) where
      by_number : (b : Bool) → (b ≡ false → P (served kind x)) → P (cond b too_many (served kind x))
      by_number true few = many
      by_number false few = few refl
