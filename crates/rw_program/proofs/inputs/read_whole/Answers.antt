use Rattle.std.proofs.Common.{◌≡◌, length, take, ◌++◌, sym, arith}
use Rattle.std.proofs.lemmas.List.{length-append}
use Rattle.std.proofs.lemmas.Result.{err_from_is_err_and}
use Rattle.rw_lines.proofs.Known.{Consumes-then}
use Rattle.rw_program.proofs.inputs.read_whole.Goals as goal

pub returns-then-len-taken-gt-MOST_BYTES-clause-fault : goal.returns-then-len-taken-gt-MOST_BYTES-clause-fault
returns-then-len-taken-gt-MOST_BYTES-clause-fault g c =
    let piece = take c.in-Ok.taken c.read.new.buf in
    let count : length piece ≡ c.in-Ok.taken = sym c.in-Ok.ensures.bound.1 in (
      c.each_piece.bytes.items ++ piece,
      Consumes-then _ _ _ _ _ c.each_piece.invariant.read c.in-Ok.ensures.bytes.0,
      omega (arith, length-append c.each_piece.bytes.items piece, count, c.len.ensures, c.if-len-taken-gt-MOST_BYTES.true),
    )

pub returns-in_err-extend_from_slice-clause-fault : goal.returns-in_err-extend_from_slice-clause-fault
returns-in_err-extend_from_slice-clause-fault g c =
    let p = err_from_is_err_and c.from_residual.result c.from_residual.ensures.1 in
    let piece = take c.in-Ok.taken c.read.new.buf in
    let count : length piece ≡ c.in-Ok.taken = sym c.in-Ok.ensures.bound.1 in
    rw (p.1, p.2) (
      c.each_piece.bytes.items ++ piece,
      Consumes-then _ _ _ _ _ c.each_piece.invariant.read c.in-Ok.ensures.bytes.0,
      omega (arith, length-append c.each_piece.bytes.items piece, count, c.len.ensures, c.if-len-taken-gt-MOST_BYTES.false),
    )
