-- The steps of machines in a row: a call is made on the machine of its channel, and leaves the others as they are.
-- A call on a channel that isn't there changes nothing.
use Rattle.std.specs.Prelude.{ℕ, List, map, slice_get, MatchOption}
use Rattle.std.specs.Option.{option_map_or}
use Rattle.rw_law.specs.declared.machine.Reversible.{Ghosts}
use Rattle.rw_world.specs.declared.rows.RowCall.{RowCall}
use Rattle.rw_world.specs.Lists.{map_at, Each, greatest, least}

-- the reply and the patch of a call whose channel isn't there
pub record Missing (R P : Type 0) : Type 0 where
  pub reply : R
  pub patch : P

module _ {M C R P : Type 0} (m : Ghosts M C R P) where
  abbrev pub next : List m.View → RowCall C → List m.View
  next xs c = map_at (λ x. m.next x c.call) xs c.channel

  abbrev pub back : List m.View → RowCall C → P → List m.View
  back xs c p = map_at (λ x. m.back x c.call p) xs c.channel

  -- the patch fits the channel's own machine; where there is no such channel, any patch will do
  abbrev pub Fits : List m.View → RowCall C → P → Type 0
  Fits xs c p = MatchOption (slice_get xs c.channel) (Unit {0}) (λ x. m.fits x c.call p)

  abbrev pub IsAllowed : List m.View → Type 0
  IsAllowed xs = Each m.allowed xs

  -- the weight of a row is the greatest of its members
  abbrev pub weigh : List m.View → ℕ
  weigh xs = greatest m.weigh xs

module _ {M C R P : Type 0} (m : Ghosts M C R P) (missing : Missing R P) where
  -- the reply of the channel's own machine, or that of a missing channel
  abbrev pub reply_of : List m.View → RowCall C → R
  reply_of xs c = option_map_or (λ x. m.reply_of x c.call) (slice_get xs c.channel) missing.reply

  abbrev pub patch_of : List m.View → RowCall C → P
  patch_of xs c = option_map_or (λ x. m.patch_of x c.call) (slice_get xs c.channel) missing.patch

  -- the row of such machines, as one machine: its replies mean what its members' replies mean
  abbrev pub of_row : Ghosts (List M) (RowCall C) R P
  of_row = record {
    View = List m.View;
    shown = map m.shown;
    reserved = least m.reserved;
    allowed = IsAllowed m;
    weigh = weigh m;
    next = next m;
    reply_of = reply_of;
    patch_of = patch_of;
    back = back m;
    fits = Fits m;
    refuses = m.refuses;
    is_waiting = m.is_waiting;
    is_straying = m.is_straying;
  }
