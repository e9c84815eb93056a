-- `next_line` reads exactly the next line, or the end of the input, within the bytes that are allowed.
use Rattle.std.proofs.Common.{◌++◌, ◌∷◌, [], arith, refl}
use Rattle.std.proofs.lemmas.Result.{err_from_is_err_and}
use Rattle.std.proofs.lemmas.List.{length_push}
use Rattle.rw_lines.proofs.Known.{Consumes-then}
use Rattle.rw_lines.proofs.PartLine.{kept_at_read, kept_of_part, last_of_part, next_part, part_of_long, stops_at_read}
use Rattle.rw_lines.proofs.lines.next_line.Goals as goal

pub each_byte-init : goal.each_byte-init
each_byte-init g c =
    let long = rw c.in-TooLong.is at c.in_ok-next_short_line.ensures.ok in
    (part_of_long long, omega (arith, long.long))

pub returns-in_err-byte-clause-err : goal.returns-in_err-byte-clause-err
returns-in_err-byte-clause-err g c =
    let p = err_from_is_err_and c.from_residual-in_err-byte.result c.from_residual-in_err-byte.ensures.1 in
    rw (p.1, p.2) (stops_at_read c.each_byte.invariant.0 (c.in_err-byte.ensures.err).1 (c.in_err-byte.ensures.err).0)

pub returns-in_err-byte-clause-kept : goal.returns-in_err-byte-clause-kept
returns-in_err-byte-clause-kept g c =
    let p = err_from_is_err_and c.from_residual-in_err-byte.result c.from_residual-in_err-byte.ensures.1 in
    rw (p.1, p.2) (kept_at_read c.each_byte.invariant.0 (c.in_err-byte.ensures.err).0)

pub returns-in_default-clause-ok : goal.returns-in_default-clause-ok
returns-in_default-clause-ok g c =
    last_of_part c.each_byte.invariant.0 (omega (arith, c.each_byte.invariant.1)) (rw c.in_default.is at c.in_ok-byte.ensures.byte)
    ((rw c.in_default.is at c.in_ok-byte.ensures.end) refl)

pub returns-then-allowed-eq0-clause-err : goal.returns-then-allowed-eq0-clause-err
returns-then-allowed-eq0-clause-err g c =
    let p = c.each_byte.invariant.0 in
    record {
      text = p.text ++ c.in-Some.byte ∷ [];
      read = Consumes-then _ _ _ _ _ p.read (rw c.in-Some.is at c.in_ok-byte.ensures.byte);
      why = omega (arith, length_push p.text c.in-Some.byte, p.count);
    }

pub returns-then-allowed-eq0-clause-kept : goal.returns-then-allowed-eq0-clause-kept
returns-then-allowed-eq0-clause-kept g c = kept_of_part c.each_byte.invariant.0

pub returns-then-byte-eq10-clause-ok : goal.returns-then-byte-eq10-clause-ok
returns-then-byte-eq10-clause-ok g c =
    let p = c.each_byte.invariant.0 in
    record {
      text = p.text;
      unbroken = p.unbroken;
      fits = p.fits;
      read = Consumes-then _ _ _ _ _ p.read (rw (← c.if-byte-eq10.true) (rw c.in-Some.is at c.in_ok-byte.ensures.byte));
      count = omega (arith, p.count);
    }

pub each_byte-preserved : goal.each_byte-preserved
each_byte-preserved g c = (
  next_part _ _ _ _ _ _ _ c.in-Some.byte c.each_byte.invariant.0 (rw c.in-Some.is at c.in_ok-byte.ensures.byte) c.if-byte-eq10.false (omega arith)
      (λ le. absurd (omega (arith, c.each_byte.invariant.1))) (λ lt. refl),
  c.each_byte.invariant.1,
)
