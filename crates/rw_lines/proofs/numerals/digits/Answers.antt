use Rattle.rw_lines.proofs.NumeralLaws.{digits_from_none}
use Rattle.rw_lines.proofs.numerals.digits.Goals as goal

pub each_digit-init : goal.each_digit-init
each_digit-init c = digits_from_none c.args.token.now
