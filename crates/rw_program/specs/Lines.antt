-- The line that a run writes to standard error.
use Rattle.std.specs.Prelude.{ℕ, List, string_bytes}
use Rattle.rw_program.specs.declared.endings.Ended.{Ended}
use Rattle.rw_program.specs.declared.endings.Line.{Line}
use Rattle.rw_program.specs.declared.endings.Line.TheVariants.{Fixed, Made}

abbrev pub text_of : Line → List ℕ
text_of (Fixed line) = line.now
text_of (Made line) = string_bytes line

abbrev pub line_of : Ended → List ℕ
line_of ended = text_of ended.line
