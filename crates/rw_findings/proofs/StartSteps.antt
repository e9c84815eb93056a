-- One loss of a run: where it began.
use Rattle.std.proofs.Common.{◌≡◌, ℕ, ◌+◌, ◌<◌, ◌≤◌, List, get_or, length, inl, inr, ap, sym, ◌∙◌, arith, subst}
use Rattle.std.specs.Prelude.{Option, Some, slice_get, unwrap_or}
use Rattle.std.proofs.lemmas.List.Elements.{All-get_or}
use Rattle.std.proofs.lemmas.Option.{get_or_from_slice_get, slice_get-get_or, slice_get_within}
use Rattle.rw_journal.specs.Run.{Run}
use Rattle.rw_world.specs.Machines.{ChanShown}
use Rattle.rw_navigator.specs.Places.{last_place, shown_at}
use Rattle.rw_findings.specs.Losses.{AreLosses, IsLoss}
use Rattle.rw_findings.specs.Peaks.{peak_in}
use Rattle.rw_findings.specs.Receivers.{AreLastGiven, IsLastGiven, IsStart, position_in, position_then}
use Rattle.rw_findings.specs.declared.losses.loss.Loss.{Loss}
use Rattle.rw_findings.proofs.LossLaws.{position_is, start, within_run}

-- where all further losses begin at this place or later
abbrev pub IsBeforeAll : List Loss → (i place : ℕ) → Type 0
IsBeforeAll losses i place = (j : ℕ) (loss : Loss) → i ≤ j → slice_get losses j ≡ Some loss → place ≤ loss.from

pub later_from : (losses : List Loss) (i place : ℕ) (d : Loss) → i < length losses → IsBeforeAll losses i place → place ≤ (get_or losses i d).from
later_from losses i place d within later = later i (get_or losses i d) (omega arith) (slice_get-get_or losses i d within)

module _ {V : Type 0} (run : Run V) (losses : List Loss) (i : ℕ) (d : Loss) (are : AreLosses run losses) where
  pub rises_on : IsBeforeAll losses (i + 1) (get_or losses i d).from
  rises_on j loss above here =
      let read : get_or losses j d ≡ loss = get_or_from_slice_get losses j loss d here in
      subst (λ l. (get_or losses i d).from ≤ l.from) read
      (elim (are.ordered i j d (omega (arith, above)) (slice_get_within losses j loss here)) [
        | inl below ↦ omega (arith, below)
        | inr same ↦ omega (arith, same.0)
      ])

  module _ (within : i < length losses) where
    abbrev loss : Loss
    loss = get_or losses i d

    is_loss : IsLoss run loss
    is_loss = All-get_or (λ l. IsLoss run l) losses i d within are.each

    pub begins_within : loss.from ≤ last_place run
    begins_within = omega (arith, within_run run loss is_loss, is_loss.some)

    -- what is found of it, where this is shown at its place
    pub is_start : (xs : List (ChanShown V)) (position : Option ℕ) (rows : List (List ℕ)) → xs ≡ shown_at run loss.from
        → position ≡ position_in xs loss.channel loss.receiver → AreLastGiven run loss.from rows
        → (first received : ℕ) → first ≡ unwrap_or position 0 → received ≡ peak_in rows loss.channel loss.receiver
        → IsStart run loss (record { first = first; received = received })
    is_start xs position rows shown at given first received first_is received_is =
        let begun = start run loss is_loss in
        let there : position_then run loss.channel loss.receiver loss.from ≡ Some begun.position =
        position_is run loss.channel loss.receiver loss.from begun in
        let position_there : position ≡ Some begun.position = at ∙ ap (λ ys. position_in ys loss.channel loss.receiver) shown ∙ there in
        let first_there : begun.position ≡ first = sym (first_is ∙ ap (λ o. unwrap_or o 0) position_there) in
        record {
          first = there ∙ ap Some first_there;
          received = subst (IsLastGiven run loss.channel loss.receiver loss.from) (sym received_is) (given loss.channel loss.receiver);
        }
