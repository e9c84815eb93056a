-- A row obeys the laws, if its members do.
use Rattle.std.proofs.Common.{◌≡◌, ℕ, zero, suc, ◌+◌, ◌≤◌, true, List, [], ◌∷◌, refl, ap, arith}
use Rattle.rw_law.specs.declared.machine.Reversible.{Ghosts}
use Rattle.rw_law.specs.Journal.{LawsOf}
use Rattle.rw_law.specs.Laws.{Laws}
use Rattle.rw_world.specs.declared.rows.RowCall.{RowCall}
use Rattle.rw_world.specs.Lists.{Each, greatest}
use Rattle.rw_world.specs.Row.{Missing, next, reply_of, patch_of, back, Fits, IsAllowed, weigh}

module _ {M C R P : Type 0} (m : Ghosts M C R P) (missing : Missing R P) where
  abbrev to : ℕ → C → RowCall C
  to i c = record { channel = i; call = c }

  module _ (laws : LawsOf m) where
    undone_at : (xs : List m.View) (i : ℕ) (c : C) → Each m.allowed xs → back m (next m xs (to i c)) (to i c) (patch_of m missing xs (to i c)) ≡ xs
    undone_at [] i c allowed = refl
    undone_at (x ∷ xs) zero c allowed = ap (λ y. y ∷ xs) (laws.undone x c allowed.0)
    undone_at (x ∷ xs) (suc i) c allowed = ap (λ ys. x ∷ ys) (undone_at xs i c allowed.1)

    allowed_at : (xs : List m.View) (i : ℕ) (c : C) → Each m.allowed xs → Each m.allowed (next m xs (to i c))
    allowed_at [] i c allowed = tt
    allowed_at (x ∷ xs) zero c allowed = (laws.next_allowed x c allowed.0, allowed.1)
    allowed_at (x ∷ xs) (suc i) c allowed = (allowed.0, allowed_at xs i c allowed.1)

    fits_at : (xs : List m.View) (i : ℕ) (c : C) → Each m.allowed xs → Fits m (next m xs (to i c)) (to i c) (patch_of m missing xs (to i c))
    fits_at [] i c allowed = tt
    fits_at (x ∷ xs) zero c allowed = laws.patch_fits x c allowed.0
    fits_at (x ∷ xs) (suc i) c allowed = fits_at xs i c allowed.1

    refused_at : (xs : List m.View) (i : ℕ) (c : C) → Each m.allowed xs → m.refuses (reply_of m missing xs (to i c)) ≡ true → next m xs (to i c) ≡ xs
    refused_at [] i c allowed refuses = refl
    refused_at (x ∷ xs) zero c allowed refuses = ap (λ y. y ∷ xs) (laws.refused x c allowed.0 refuses)
    refused_at (x ∷ xs) (suc i) c allowed refuses = ap (λ ys. x ∷ ys) (refused_at xs i c allowed.1 refuses)

    rises_at : (xs : List m.View) (i : ℕ) (c : C) → Each m.allowed xs → greatest m.weigh (next m xs (to i c)) ≤ greatest m.weigh xs + 1
    rises_at [] i c allowed = omega arith
    rises_at (x ∷ xs) zero c allowed = omega (arith, laws.weight_rises x c allowed.0)
    rises_at (x ∷ xs) (suc i) c allowed = omega (arith, rises_at xs i c allowed.1)

    pub row_laws : Laws (IsAllowed m) (weigh m) (next m) (reply_of m missing) (patch_of m missing) (back m) (Fits m) m.refuses m.is_waiting m.is_straying
    row_laws = record {
      undone = λ x c allowed. undone_at x c.channel c.call allowed;
      next_allowed = λ x c allowed. allowed_at x c.channel c.call allowed;
      patch_fits = λ x c allowed. fits_at x c.channel c.call allowed;
      refused = λ x c allowed refuses. refused_at x c.channel c.call allowed refuses;
      waiting_refuses = laws.waiting_refuses;
      straying_refuses = laws.straying_refuses;
      weight_rises = λ x c allowed. rises_at x c.channel c.call allowed;
    }
