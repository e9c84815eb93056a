-- The text of all that is found in a run by one reading.
use Rattle.std.specs.Prelude.{◌≡◌, ℕ, List, ◌++◌, length}
use Rattle.rw_journal.specs.Run.{Run}
use Rattle.rw_answers.specs.ClosingLines.{IsClosingText}
use Rattle.rw_answers.specs.LifeLines.{IsLifeText}
use Rattle.rw_answers.specs.Texts.{AreTexts}
use Rattle.rw_answers.specs.TotalLines.{IsTotalText}
use Rattle.rw_answers.specs.ValueLines.{IsValueText}

-- the text is that of a run's closings, of its receivers' totals, and of the handles and the values of each channel
pub record IsFoundText (run : Run ℕ) (text : List ℕ) : Type 0 where
  pub closings : List ℕ
  pub totals : List ℕ
  pub lives : List ℕ
  pub values : List ℕ
  pub closings_are : IsClosingText run closings
  pub totals_are : IsTotalText run totals
  pub lives_are : AreTexts (IsLifeText run) (length run.specs) lives
  pub values_are : AreTexts (IsValueText run) (length run.specs) values
  pub text_is : text ≡ closings ++ totals ++ lives ++ values
