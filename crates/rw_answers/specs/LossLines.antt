-- The text of a run's losses.
use Rattle.std.specs.Prelude.{◌≡◌, ℕ, List, ◌++◌, codes}
use Rattle.std.specs.List.{flat_map}
use Rattle.rw_journal.specs.Run.{Run}
use Rattle.rw_blocks.specs.Labels.{with_number}
use Rattle.rw_findings.specs.declared.losses.loss.Loss.{Loss}
use Rattle.rw_findings.specs.declared.losses.loss.LossEnd.{LossEnd}
use Rattle.rw_findings.specs.declared.losses.loss.LossEnd.TheVariants.{Told, Dropped, Open}
use Rattle.rw_findings.specs.Losses.{AreLosses}

-- how a loss ended, and at which place
abbrev pub end_words : LossEnd → List ℕ
end_words (Told place) = with_number (codes " told ") place
end_words (Dropped place) = with_number (codes " dropped ") place
end_words Open = codes " open"

-- the line of a loss: its channel and receiver, the place where it began, how many values were lost, and its end
unfoldable pub loss_line : Loss → List ℕ
loss_line loss =
    with_number (codes "loss ") loss.channel ++ with_number (codes " ") loss.receiver ++ with_number (codes " ") loss.from ++ with_number (codes " ") loss.lost
    ++ end_words loss.end ++ codes "\n"

-- the text is that of a run's losses, a line each
unfoldable pub IsLossText : Run ℕ → List ℕ → Type 0
IsLossText run text = (losses : List Loss) × AreLosses run losses × (text ≡ flat_map loss_line losses)
