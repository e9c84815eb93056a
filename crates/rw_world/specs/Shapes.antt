-- The shape of a row: which kind of machine is under which number.
use Rattle.std.specs.Prelude.{◌≡◌, Bool, true, List, map, slice_get}
use Rattle.std.specs.Option.{option_map_or}
use Rattle.rw_law.specs.declared.machine.Reversible.{Ghosts}
use Rattle.rw_law.specs.Journal.{after_all}
use Rattle.rw_world.specs.declared.rows.RowCall.{RowCall}
use Rattle.rw_world.specs.Row.{Missing, next, reply_of, of_row}
use Rattle.rw_world.specs.Parts.{RowEntry}

-- whether a call strays in a row of these kinds: there is no such channel, or its kind has no such call
abbrev pub stray_of : {K C : Type 0} → (K → C → Bool) → List K → RowCall C → Bool
stray_of strays_at ks c = option_map_or (λ k. strays_at k c.call) (slice_get ks c.channel) true

module _ {M C R P : Type 0} (m : Ghosts M C R P) {K : Type 0} (kind : m.View → K) (strays_at : K → C → Bool) where
  -- a step of one machine doesn't change its kind
  abbrev pub KeepsKind : Type 0
  KeepsKind = (x : m.View) (c : C) → kind (m.next x c) ≡ kind x

  -- whether a call of one machine strays depends on its kind alone
  abbrev pub StraysByKind : Type 0
  StraysByKind = (x : m.View) (c : C) → m.is_straying (m.reply_of x c) ≡ strays_at (kind x) c

  -- no step changes the shape of the row
  abbrev pub KeepsShape : Type 0
  KeepsShape = (xs : List m.View) (c : RowCall C) → map kind (next m xs c) ≡ map kind xs

  -- no journal changes the shape of the row
  abbrev pub KeepsShapeThroughout : Missing R P → Type 0
  KeepsShapeThroughout missing = (xs : List m.View) (es : List (RowEntry M C R P)) → map kind (after_all (of_row m missing) xs es) ≡ map kind xs

  -- whether a call strays depends on the shape of the row alone
  abbrev pub StraysByShape : Missing R P → Type 0
  StraysByShape missing = (xs : List m.View) (c : RowCall C) → m.is_straying (reply_of m missing xs c) ≡ stray_of strays_at (map kind xs) c
