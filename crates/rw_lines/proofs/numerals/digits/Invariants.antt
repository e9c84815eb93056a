use Rattle.std.proofs.Common.{◌≡◌, drop}
use Rattle.rw_lines.specs.Numerals.{digits_in}
use Rattle.rw_lines.proofs.NumeralLaws.{digits_from}
use Rattle.rw_lines.proofs.numerals.digits.Given as goal

abbrev pub invariant-each_digit : goal.invariant-each_digit
invariant-each_digit l = digits_from l.n (drop l.digit-index l.token) ≡ digits_in l.token
