use Rattle.std.proofs.Common.{ap, ◌∙◌}
use Rattle.rw_world.specs.Openings.{opening_row}
use Rattle.rw_script.proofs.PlayLaws.{world_plays}
use Rattle.rw_script.proofs.running.play.Goals as goal

pub run_book-requires-clause-plays : goal.run_book-requires-clause-plays
run_book-requires-clause-plays c =
    let opened = rw c.specs-2.ensures.opens at c.in-Ok.ensures.opened in
    world_plays c.args.script.now.specs _ c.documented.ensures.replies c.specified.ensures.strays (opened ∙ ap opening_row c.specs-2.ensures.specs)
