-- `next_short_line` reads the next line, unless that is too long: then exactly its first bytes.
use Rattle.std.proofs.Common.{◌++◌, ◌∷◌, [], arith}
use Rattle.std.proofs.lemmas.Result.{err_from_is_err_and}
use Rattle.std.proofs.lemmas.Grind.{common_steps}
use Rattle.std.proofs.lemmas.List.{length_push}
use Rattle.rw_lines.proofs.CutLaws.{lacks-append, lacks_one}
use Rattle.rw_lines.proofs.Known.{Consumes-then}
use Rattle.rw_lines.proofs.PartLine.{few_of_part, kept_at_read, kept_of_part, long_part, next_part}
use Rattle.rw_lines.proofs.lines.next_short_line.Goals as goal

pub returns-in_err-byte-clause-few : goal.returns-in_err-byte-clause-few
returns-in_err-byte-clause-few g c = omega (arith, few_of_part c.each_byte.invariant.0 c.each_byte.invariant.1)

pub returns-in_err-byte-clause-kept : goal.returns-in_err-byte-clause-kept
returns-in_err-byte-clause-kept g c =
    let p = err_from_is_err_and c.from_residual.result c.from_residual.ensures.1 in
    rw (p.1, p.2) (kept_at_read c.each_byte.invariant.0 (c.in_err-byte.ensures.err).0)

pub returns-else-is_empty-clause-few : goal.returns-else-is_empty-clause-few
returns-else-is_empty-clause-few g c = omega (arith, few_of_part c.each_byte.invariant.0 c.each_byte.invariant.1)

pub returns-then-allowed-eq0-clause-few : goal.returns-then-allowed-eq0-clause-few
returns-then-allowed-eq0-clause-few g c = omega (arith, few_of_part c.each_byte.invariant.0 c.each_byte.invariant.1)

pub returns-then-allowed-eq0-clause-kept : goal.returns-then-allowed-eq0-clause-kept
returns-then-allowed-eq0-clause-kept g c = kept_of_part c.each_byte.invariant.0

pub returns-then-allowed-eq0-clause-err : goal.returns-then-allowed-eq0-clause-err
returns-then-allowed-eq0-clause-err g c =
    let p = c.each_byte.invariant.0 in
    record {
      text = p.text ++ c.in-Some.byte ∷ [];
      read = Consumes-then _ _ _ _ _ p.read (rw c.in-Some.is at c.in_ok-byte.ensures.byte);
      why = omega (arith, length_push p.text c.in-Some.byte, p.count);
    }

pub returns-then-byte-eq10-clause-ok : goal.returns-then-byte-eq10-clause-ok
returns-then-byte-eq10-clause-ok g c =
    let p = c.each_byte.invariant.0 in (
      record {
        text = p.text;
        unbroken = p.unbroken;
        fits = p.fits;
        read = Consumes-then _ _ _ _ _ p.read (rw (← c.if-byte-eq10.true) (rw c.in-Some.is at c.in_ok-byte.ensures.byte));
        count = omega (arith, p.count);
      },
      c.each_byte.invariant.1,
    )

pub returns-then-byte-eq10-clause-few : goal.returns-then-byte-eq10-clause-few
returns-then-byte-eq10-clause-few g c = omega (arith, few_of_part c.each_byte.invariant.0 c.each_byte.invariant.1)

pub returns-in_err-push-clause-few : goal.returns-in_err-push-clause-few
returns-in_err-push-clause-few g c = omega (arith, few_of_part c.each_byte.invariant.0 c.each_byte.invariant.1)

pub returns-in_err-push-clause-kept : goal.returns-in_err-push-clause-kept
returns-in_err-push-clause-kept g c =
    let p = err_from_is_err_and c.from_residual-in_err-push.result c.from_residual-in_err-push.ensures.1 in
    rw (p.1, p.2) (grind (arith, kept_of_part c.each_byte.invariant.0, c.each_byte.invariant.1, common_steps))

pub returns-in_err-push-clause-err : goal.returns-in_err-push-clause-err
returns-in_err-push-clause-err g c =
    let e = err_from_is_err_and c.from_residual-in_err-push.result c.from_residual-in_err-push.ensures.1 in
    let p = c.each_byte.invariant.0 in
    rw (e.1, e.2) (record {
      text = p.text ++ c.in-Some.byte ∷ [];
      read = Consumes-then _ _ _ _ _ p.read (rw c.in-Some.is at c.in_ok-byte.ensures.byte);
      why = (
        lacks-append 10 p.text (c.in-Some.byte ∷ []) p.unbroken (lacks_one 10 c.in-Some.byte c.if-byte-eq10.false),
        omega (arith, length_push p.text c.in-Some.byte, p.count),
      );
    })

pub returns-then-len-gt-LONGEST_LINE-clause-few : goal.returns-then-len-gt-LONGEST_LINE-clause-few
returns-then-len-gt-LONGEST_LINE-clause-few g c = omega (arith, few_of_part c.each_byte.invariant.0 c.each_byte.invariant.1)

pub returns-then-len-gt-LONGEST_LINE-clause-ok : goal.returns-then-len-gt-LONGEST_LINE-clause-ok
returns-then-len-gt-LONGEST_LINE-clause-ok g c =
    long_part _ _ _ _ _ _ _ c.in-Some.byte c.each_byte.invariant.0 c.each_byte.invariant.1 (rw c.in-Some.is at c.in_ok-byte.ensures.byte)
    c.if-byte-eq10.false (omega arith) (grind (arith, common_steps)) (grind (arith, common_steps))

pub each_byte-preserved : goal.each_byte-preserved
each_byte-preserved g c = (
  next_part _ _ _ _ _ _ _ c.in-Some.byte c.each_byte.invariant.0 (rw c.in-Some.is at c.in_ok-byte.ensures.byte) c.if-byte-eq10.false (omega arith)
      (λ le. grind (arith, common_steps)) (λ lt. absurd (omega (arith, c.each_byte.invariant.1))),
  grind (arith, common_steps),
)
