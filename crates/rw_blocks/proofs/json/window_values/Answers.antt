use Rattle.std.proofs.Common.{sym, ap, ◌∙◌, map}
use Rattle.serde_json.specs.View.{view}
use Rattle.rw_blocks.specs.Json.{natural}
use Rattle.rw_blocks.proofs.Lists.{mapped_more, pushed, taken_all}
use Rattle.rw_blocks.proofs.json.window_values.Goals as goal

pub each_value-preserved : goal.each_value-preserved
each_value-preserved c =
    pushed view _ _ _ _ _ c.in_ok-push.ensures.items c.each_value.invariant c.from.ensures
    ∙ sym (mapped_more natural _ _ _ (sym c.window.ensures ∙ c.in-Some.is))

pub returns : goal.returns
returns c = c.each_value.invariant ∙ ap (map natural) (taken_all _ _ (sym c.window.ensures ∙ c.in_default.is))
