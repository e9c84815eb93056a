use Rattle.std.proofs.Common.{ap, ◌∙◌}
use Rattle.std.proofs.lemmas.Result.{IfOk-weaker}
use Rattle.serde_json.specs.Written.{compact_text, has_float}
use Rattle.rw_blocks.specs.Json.{json_text}
use Rattle.rw_blocks.proofs.Floatless.{of_world}
use Rattle.rw_blocks.proofs.json.world_text.Goals as goal

pub returns : goal.returns
unfolding json_text
returns c =
    IfOk-weaker c.to_vec.result _ _
    (λ text so. so (ap has_float c.in_ok-world_value.ensures ∙ of_world _ c.args.len c.args.place) ∙ ap compact_text c.in_ok-world_value.ensures)
    c.to_vec.ensures.text
