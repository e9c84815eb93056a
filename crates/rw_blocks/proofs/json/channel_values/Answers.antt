use Rattle.std.proofs.Common.{sym, ap, ◌∙◌, map}
use Rattle.std.specs.Option.{option_copied}
use Rattle.serde_json.specs.View.{view}
use Rattle.rw_world.specs.Machines.{of_chan}
use Rattle.rw_blocks.specs.Json.{channel_json}
use Rattle.rw_blocks.proofs.Lists.{map_map, mapped_more, pushed, taken_all}
use Rattle.rw_blocks.proofs.json.channel_values.Goals as goal

pub each_channel-preserved : goal.each_channel-preserved
each_channel-preserved c =
    pushed view _ _ _ _ _ c.in_ok-push.ensures.items c.each_channel.invariant c.in_ok-channel_value.ensures
    ∙ sym (mapped_more (λ m. channel_json (of_chan.shown m)) _ _ _ (sym c.channel.ensures ∙ ap option_copied c.in-Some.is))

pub returns : goal.returns
returns c =
    c.each_channel.invariant
    ∙ ap (map (λ m. channel_json (of_chan.shown m))) (taken_all _ _ (sym c.channel.ensures ∙ ap option_copied c.in_default.is))
    ∙ sym (map_map of_chan.shown channel_json c.args.world.now)
