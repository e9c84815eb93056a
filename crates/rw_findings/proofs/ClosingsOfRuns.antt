-- The closings of a run: its entries, and what is documented at its places.
use Rattle.std.proofs.Common.{◌≡◌, ℕ, ◌+◌, ◌<◌, List, [], length, get_or, ap, sym, ◌∙◌, subst}
use Rattle.std.specs.Prelude.{IfOk, Option, Result, Ok, Err}
use mathlib.Core.Path.{fun_ext}
use Rattle.rw_journal.specs.Run.{Run}
use Rattle.rw_law.proofs.Journals.{after_more}
use Rattle.rw_world.specs.Machines.{ChanShown, of_world}
use Rattle.rw_world.specs.Openings.{opening_row}
use Rattle.rw_world.specs.Records.{ShowsAtPlaces}
use Rattle.rw_world.specs.Specified.{WorldEntry}
use Rattle.rw_navigator.specs.Places.{last_place, shown_at}
use Rattle.rw_findings.specs.Closings.{AreClosings, AreClosingsOf}
use Rattle.rw_findings.specs.declared.closings.closing.Closing.{Closing}
use Rattle.rw_findings.specs.declared.closings.closing.LateReader.{LateReader}
use Rattle.rw_findings.specs.LateReaders.{ClosedChannel, with_entry, with_closings, with_all_readers}
use Rattle.rw_findings.proofs.LossRuns.{at_place, allowed_at}
use Rattle.rw_findings.proofs.TotalsOfRuns.{same_channels}
use Rattle.rw_findings.proofs.ClosingRuns.{AreKept, kept_on, all_closings}

-- what follows of a value from two facts on it
pub from_both : {X Y : Type 0} (r : Result X Y) (P Q R : X → Type 0) → ((x : X) → P x → Q x → R x) → IfOk r P → IfOk r Q → IfOk r R
from_both (Ok x) P Q R follows one other = follows x one other
from_both (Err y) P Q R follows one other = tt

module _ {V : Type 0} where
  -- one entry of a run, where this is shown after it
  pub kept_entry : ShowsAtPlaces V → (run : Run V) (n place : ℕ) (e : WorldEntry V) (xs : List (ChanShown V)) (ks : List (Option ClosedChannel)) → place ≡ n + 1
      → xs ≡ shown_at run place → n < length run.entries → e ≡ get_or run.entries n e
      → AreKept (at_place run) run.entries n ks → AreKept (at_place run) run.entries (n + 1) (with_entry xs ks e place)
  kept_entry shows run n place e xs ks place_is shown within read kept =
      let next : at_place run (n + 1) ≡ (of_world {V = V}).next (at_place run n) e.call =
      after_more of_world (opening_row run.specs) run.entries n e within
      ∙ ap (λ (f : WorldEntry V). (of_world {V = V}).next (at_place run n) f.call) (sym read) in
      let xs_is : at_place run (n + 1) ≡ xs = shows run.specs run.entries (n + 1) ∙ ap (λ p. shown_at run p) (sym place_is) ∙ sym shown in
      subst (λ ys. AreKept (at_place run) run.entries (n + 1) (with_entry ys ks e place)) xs_is
      (kept_on (at_place run) run.entries n place e ks place_is within read (allowed_at run (n + 1)) next kept)

  -- what is kept after the last entry makes the lists, by what is documented
  pub are_closings : ShowsAtPlaces V → (run : Run V) (ks : List (Option ClosedChannel)) (closings : List Closing) (readers : List LateReader)
      → AreKept (at_place run) run.entries (last_place run) ks
      → closings ≡ with_closings [] ks (length ks) → readers ≡ with_all_readers [] ks (length ks) → AreClosings run closings readers
  are_closings shows run ks closings readers kept closings_are readers_are =
      let same : at_place run ≡ shown_at run = fun_ext (λ n. shows run.specs run.entries n) in
      subst (λ at. AreClosingsOf at run.entries closings readers) same
      (subst (λ list. AreClosingsOf (at_place run) run.entries list readers) (sym closings_are)
      (subst (λ list. AreClosingsOf (at_place run) run.entries (with_closings [] ks (length ks)) list) (sym readers_are)
      (all_closings (at_place run) run.entries ks kept (same_channels run))))
