use Rattle.std.proofs.Common.{◌<◌, ◌∙◌, ap, arith, length, max, refl, sym}
use Rattle.std.proofs.lemmas.Option.{get_or_from_slice_get, slice_get_read}
use Rattle.rw_findings.proofs.PeakSums.{raised_at}
use Rattle.rw_findings.proofs.peaks.rows.Row.raise.Goals as goal

pub returns : goal.returns
returns c =
    let peaks = c.each_missing.self-inside.peaks.items in
    let within : c.args.stretch < length peaks = omega (arith, c.each_missing-test.false, c.len.ensures) in
    let peak = get_or_from_slice_get peaks c.args.stretch c.index.result.now 0
    (slice_get_read peaks (length peaks) c.args.stretch c.index.result.now refl within c.index.ensures) in
    raised_at _ _ _ _ _ c.each_missing.invariant within (c.max.ensures ∙ ap (λ n. max n c.args.level) (sym peak))
