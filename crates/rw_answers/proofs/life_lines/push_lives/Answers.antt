use Rattle.std.proofs.Common.{◌∙◌, ◌++◌, ap, length, refl, sym}
use Rattle.std.specs.Prelude.{slice_get}
use Rattle.std.proofs.lemmas.Option.{slice_get_read}
use Rattle.rw_answers.specs.LifeLines.{life_line_at}
use Rattle.rw_answers.proofs.PeakTexts.{written_more}
use Rattle.rw_answers.proofs.life_lines.push_lives.Goals as goal

pub each_handle-preserved : goal.each_handle-preserved
each_handle-preserved c =
    let n = c.each_handle.handle in
    let lives = c.args.lives.now in
    let life = c.index-lives-handle.result in
    let found = slice_get_read lives (length lives) n life refl c.each_handle-test.true c.index-lives-handle.is in
    written_more (λ handle. life_line_at c.args.channel handle (slice_get lives handle)) _ _ _ n c.each_handle.invariant
    (c.in_ok-push_life.ensures ∙ ap (λ o. c.each_handle.out.items ++ life_line_at c.args.channel n o) (sym found))
