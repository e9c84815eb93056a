-- Calls on two channels of a row.
use Rattle.std.specs.Prelude.{◌≡◌, ◌≢◌, List}
use Rattle.rw_law.specs.declared.machine.Reversible.{Ghosts}
use Rattle.rw_world.specs.declared.rows.RowCall.{RowCall}
use Rattle.rw_world.specs.Row.{Missing, next, reply_of, patch_of}

module _ {M C R P : Type 0} (m : Ghosts M C R P) (missing : Missing R P) where
  -- two calls lead to the same members in either order, and each gets the reply and the patch that it gets alone
  pub record IsCommuting (xs : List m.View) (c d : RowCall C) : Type 0 where
    pub members : next m (next m xs c) d ≡ next m (next m xs d) c
    pub reply : reply_of m missing (next m xs c) d ≡ reply_of m missing xs d
    pub reply_of_other : reply_of m missing (next m xs d) c ≡ reply_of m missing xs c
    pub patch : patch_of m missing (next m xs c) d ≡ patch_of m missing xs d
    pub patch_of_other : patch_of m missing (next m xs d) c ≡ patch_of m missing xs c

  -- calls on two different channels commute
  abbrev pub Commutes : Type 0
  Commutes = (xs : List m.View) (c d : RowCall C) → c.channel ≢ d.channel → IsCommuting xs c d
