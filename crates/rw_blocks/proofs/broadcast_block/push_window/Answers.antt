use Rattle.std.proofs.Common.{sym, ◌∙◌, codes, arith}
use Rattle.std.proofs.lemmas.Grind.{common_steps}
use Rattle.rw_blocks.specs.Labels.{with_number}
use Rattle.rw_blocks.specs.BroadcastBlock.{window_line}
use Rattle.rw_blocks.proofs.Written.{items_more, items_all}
use Rattle.rw_blocks.proofs.broadcast_block.push_window.Goals as goal

pub each_value-preserved : goal.each_value-preserved
each_value-preserved c = items_more (with_number (codes " ")) _ _ _ _ _ _ c.each_value.invariant (sym c.window.ensures ∙ c.in-Some.is)
    c.in_ok-push_with_number.ensures

pub returns : goal.returns
unfolding window_line
returns c =
    let all = items_all (with_number (codes " ")) _ _ _ _ c.each_value.invariant (sym c.window.ensures ∙ c.in_default.is) in
    grind (arith, common_steps)
