-- A list with one element changed, and what is found in it.
use Rattle.std.proofs.Common.{◌≡◌, ◌≢◌, ℕ, zero, suc, List, [], ◌∷◌, length, Some, refl, sym, ap}
use Rattle.std.specs.Prelude.{slice_get}
use Rattle.std.specs.Option.{option_map_or}
use Rattle.rw_law.specs.declared.machine.Reversible.{Ghosts}
use Rattle.rw_world.specs.Lists.{map_at}
use Rattle.rw_world.specs.Commuting.{Commutes}
use Rattle.rw_world.specs.Row.{Missing}

module _ {X : Type 0} where
  pub length-modified : (f : X → X) (xs : List X) (i : ℕ) → length (map_at f xs i) ≡ length xs
  length-modified f [] i = refl
  length-modified f (x ∷ xs) zero = refl
  length-modified f (x ∷ xs) (suc i) = ap suc (length-modified f xs i)

  -- changes at two places commute
  pub modified_comm : (f g : X → X) (xs : List X) (i j : ℕ) → i ≢ j → map_at g (map_at f xs i) j ≡ map_at f (map_at g xs j) i
  modified_comm f g [] i j apart = refl
  modified_comm f g (x ∷ xs) zero zero apart = absurd (apart refl)
  modified_comm f g (x ∷ xs) zero (suc j) apart = refl
  modified_comm f g (x ∷ xs) (suc i) zero apart = refl
  modified_comm f g (x ∷ xs) (suc i) (suc j) apart = ap (λ ys. x ∷ ys) (modified_comm f g xs i j (λ same. apart (ap suc same)))

  pub get-modified : (f : X → X) (xs : List X) (i : ℕ) (x : X) → slice_get xs i ≡ Some x → slice_get (map_at f xs i) i ≡ Some (f x)
  get-modified f [] i x here = cc
  get-modified f (y ∷ xs) zero x here = let same : y ≡ x = cc in ap (λ z. Some (f z)) same
  get-modified f (y ∷ xs) (suc i) x here = get-modified f xs i x here

  -- a change leaves the other places
  pub get-modified_other : (f : X → X) (xs : List X) (i j : ℕ) → i ≢ j → slice_get (map_at f xs i) j ≡ slice_get xs j
  get-modified_other f [] i j apart = refl
  get-modified_other f (x ∷ xs) zero zero apart = absurd (apart refl)
  get-modified_other f (x ∷ xs) zero (suc j) apart = refl
  get-modified_other f (x ∷ xs) (suc i) zero apart = refl
  get-modified_other f (x ∷ xs) (suc i) (suc j) apart = get-modified_other f xs i j (λ same. apart (ap suc same))

-- calls on two different channels commute
pub commutes : {M C R P : Type 0} (m : Ghosts M C R P) (missing : Missing R P) → Commutes m missing
commutes m missing xs c d apart =
    let back_apart : d.channel ≢ c.channel = λ same. apart (sym same) in
    let after_c = get-modified_other (λ x. m.next x c.call) xs c.channel d.channel apart in
    let after_d = get-modified_other (λ x. m.next x d.call) xs d.channel c.channel back_apart in
    record {
      members = modified_comm (λ x. m.next x c.call) (λ x. m.next x d.call) xs c.channel d.channel apart;
      reply = ap (λ o. option_map_or (λ x. m.reply_of x d.call) o missing.reply) after_c;
      reply_of_other = ap (λ o. option_map_or (λ x. m.reply_of x c.call) o missing.reply) after_d;
      patch = ap (λ o. option_map_or (λ x. m.patch_of x d.call) o missing.patch) after_c;
      patch_of_other = ap (λ o. option_map_or (λ x. m.patch_of x c.call) o missing.patch) after_d;
    }
