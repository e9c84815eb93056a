-- The shape of a row doesn't change, and decides which calls stray.
use Rattle.std.proofs.Common.{◌≡◌, ℕ, zero, suc, Bool, true, List, [], ◌∷◌, map, refl, ap, ◌∙◌}
use Rattle.std.specs.Prelude.{slice_get}
use Rattle.std.specs.Option.{option_map_or}
use Rattle.rw_law.specs.declared.machine.Reversible.{Ghosts}
use Rattle.rw_world.specs.Lists.{map_at}
use Rattle.rw_world.specs.Row.{Missing, next}
use Rattle.rw_world.specs.Shapes.{KeepsKind, StraysByKind, KeepsShape, KeepsShapeThroughout, StraysByShape}

module _ {M C R P : Type 0} (m : Ghosts M C R P) {K : Type 0} (kind : m.View → K) (strays_at : K → C → Bool) where
  shape_at : KeepsKind m kind strays_at → (xs : List m.View) (i : ℕ) (c : C) → map kind (map_at (λ x. m.next x c) xs i) ≡ map kind xs
  shape_at keeps [] i c = refl
  shape_at keeps (x ∷ xs) zero c = ap (λ k. k ∷ map kind xs) (keeps x c)
  shape_at keeps (x ∷ xs) (suc i) c = ap (λ ks. kind x ∷ ks) (shape_at keeps xs i c)

  pub keeps_shape : KeepsKind m kind strays_at → KeepsShape m kind strays_at
  keeps_shape keeps xs c = shape_at keeps xs c.channel c.call

  pub keeps_shape_throughout : (missing : Missing R P) → KeepsKind m kind strays_at → KeepsShapeThroughout m kind strays_at missing
  keeps_shape_throughout missing keeps xs [] = refl
  keeps_shape_throughout missing keeps xs (e ∷ es) = keeps_shape_throughout missing keeps (next m xs e.call) es ∙ keeps_shape keeps xs e.call

  module _ (missing : Missing R P) (strays : m.is_straying missing.reply ≡ true) (by_kind : StraysByKind m kind strays_at) where
    strays_in : (xs : List m.View) (i : ℕ) (c : C)
        → m.is_straying (option_map_or (λ x. m.reply_of x c) (slice_get xs i) missing.reply)
        ≡ option_map_or (λ k. strays_at k c) (slice_get (map kind xs) i) true
    strays_in [] i c = strays
    strays_in (x ∷ xs) zero c = by_kind x c
    strays_in (x ∷ xs) (suc i) c = strays_in xs i c

    pub strays_by_shape : StraysByShape m kind strays_at missing
    strays_by_shape xs c = strays_in xs c.channel c.call
