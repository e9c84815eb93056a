-- The totals of a run: its entries, and what is documented at its places.
use Rattle.std.proofs.Common.{◌≡◌, ℕ, ◌+◌, ◌<◌, List, [], length, get_or, ap, sym, ◌∙◌, subst, arith}
use Rattle.std.specs.Prelude.{None, slice_get}
use Rattle.std.proofs.lemmas.Option.{slice_get_past}
use mathlib.Core.Path.{fun_ext}
use Rattle.rw_journal.specs.Run.{Run}
use Rattle.rw_law.specs.Journal.{IsLegal, IsStep}
use Rattle.rw_law.proofs.Journals.{after_more, step_at}
use Rattle.rw_world.specs.Machines.{of_world}
use Rattle.rw_world.specs.Openings.{opening_row}
use Rattle.rw_world.specs.Records.{ShowsAtPlaces}
use Rattle.rw_world.specs.Specified.{WorldEntry}
use Rattle.rw_navigator.specs.Places.{last_place, shown_at}
use Rattle.rw_findings.specs.declared.totals.total.Totals.{Totals}
use Rattle.rw_findings.specs.declared.totals.tally.Tally.{Tally}
use Rattle.rw_findings.specs.Totals.{AreTotals, AreTotalsOf}
use Rattle.rw_findings.specs.Tallies.{with_entry, with_channels}
use Rattle.rw_findings.proofs.LossRuns.{at_place, allowed_at, length_at}
use Rattle.rw_findings.proofs.TallyRuns.{AreKept, kept_on}
use Rattle.rw_findings.proofs.TallyRooms.{past_end}
use Rattle.rw_findings.proofs.TallyLists.{all_totals}

module _ {V : Type 0} where
  -- one entry of a run
  pub kept_entry : (run : Run V) (n : ℕ) (e : WorldEntry V) (ts : List Tally) → IsLegal of_world (opening_row run.specs) run.entries → n < length run.entries
      → e ≡ get_or run.entries n e
      → AreKept (at_place run) run.entries n ts → AreKept (at_place run) run.entries (n + 1) (with_entry ts e (n + 1))
  kept_entry run n e ts legal within read kept =
      let next : at_place run (n + 1) ≡ (of_world {V = V}).next (at_place run n) e.call =
      after_more of_world (opening_row run.specs) run.entries n e within
      ∙ ap (λ (f : WorldEntry V). (of_world {V = V}).next (at_place run n) f.call) (sym read) in
      let step : IsStep of_world (at_place run n) e =
      subst (λ f. IsStep of_world (at_place run n) f) (sym read) (step_at of_world (opening_row run.specs) run.entries n e legal within) in
      kept_on (at_place run) run.entries n e ts within read (allowed_at run n) next step.reply kept

  -- a channel that isn't there at the last place was at none
  pub same_channels : (run : Run V) (place c : ℕ) → slice_get (at_place run (last_place run)) c ≡ None → slice_get (at_place run place) c ≡ None
  same_channels run place c none =
      slice_get_past (at_place run place) c (omega (
        arith,
        past_end (at_place run (last_place run)) c none,
        length_at run (last_place run),
        length_at run place,
      ))

  -- what is kept after the last entry makes the totals, by what is documented
  pub are_totals : ShowsAtPlaces V → (run : Run V) (ts : List Tally) (totals : List Totals) → AreKept (at_place run) run.entries (last_place run) ts
      → totals ≡ with_channels [] ts (length ts) → AreTotals run totals
  are_totals shows run ts totals kept found =
      let same : at_place run ≡ shown_at run = fun_ext (λ n. shows run.specs run.entries n) in
      subst (λ at. AreTotalsOf at run.entries (last_place run) totals) same
      (subst (λ list. AreTotalsOf (at_place run) run.entries (last_place run) list) (sym found)
      (all_totals (at_place run) run.entries ts kept (same_channels run)))
