use Rattle.std.proofs.Common.{◌≡◌, ◌∙◌, None, rules}
use Rattle.rw_lines.specs.Numerals.{numeral_in}
use Rattle.rw_lines.proofs.NumeralLaws.{named_if, only}
use Rattle.rw_lines.proofs.numerals.numeral.Goals as goal

pub returns-in-empty-clause-only : goal.returns-in-empty-clause-only
returns-in-empty-clause-only c = λ n lt e.
    let exact : None ≡ numeral_in c.args.token.now = search rules in
    exact ∙ only _ n lt e

pub returns-in-48-clause-only : goal.returns-in-48-clause-only
returns-in-48-clause-only c = λ n lt e.
    let exact : None ≡ numeral_in c.args.token.now = search rules in
    exact ∙ only _ n lt e

pub returns-in_default-clause-named : goal.returns-in_default-clause-named
returns-in_default-clause-named c =
    let exact : c.digits.result ≡ numeral_in c.args.token.now = search rules in
    named_if _ _ exact

pub returns-in_default-clause-only : goal.returns-in_default-clause-only
returns-in_default-clause-only c = λ n lt e.
    let exact : c.digits.result ≡ numeral_in c.args.token.now = search rules in
    exact ∙ only _ n lt e
