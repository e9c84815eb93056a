use Rattle.std.proofs.Common.{◌≡◌, ◌<◌, ◌∙◌, [], ap, arith, length, refl, sym}
use Rattle.std.proofs.lemmas.Option.{get_or_from_slice_get, slice_get_read}
use Rattle.std.specs.Prelude.{slice_index_or}
use Rattle.rw_findings.specs.Peaks.{raised_to}
use Rattle.rw_findings.proofs.PeakSums.{raised_rows}
use Rattle.rw_findings.proofs.peaks.rows.Peaks.raise.Goals as goal

pub returns : goal.returns
returns c =
    let rows = c.each_missing.self-inside.rows.items in
    let within : c.args.receiver < length rows = omega (arith, c.each_missing-test.false, c.len.ensures) in
    let row : c.index_mut.result.now ≡ slice_index_or rows c.args.receiver [] =
    sym (get_or_from_slice_get rows c.args.receiver c.index_mut.result.now []
    (slice_get_read rows (length rows) c.args.receiver c.index_mut.result.now refl within c.index_mut.ensures.value)) in
    raised_rows c.args.self.now rows c.args.receiver c.args.stretch c.args.level c.raise.new.self c.each_missing.invariant within
    (λ other. c.in_ok-raise.ensures other ∙ ap (λ r. raised_to c.args.stretch other (slice_index_or r other 0) c.args.level) row)
