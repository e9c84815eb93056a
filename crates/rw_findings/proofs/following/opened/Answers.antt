use Rattle.std.proofs.Common.{◌∙◌, ◌<◌, ap, arith, get_or, length, subst, sym}
use Rattle.rw_world.specs.Machines.{of_chan}
use Rattle.rw_world.specs.Openings.{has_bad_capacity}
use Rattle.rw_findings.proofs.FollowedPlaces.{opens_light, stands_first}
use Rattle.rw_findings.proofs.LossCode.{is_none_from}
use Rattle.rw_findings.proofs.following.opened.Goals as goal

pub open_channel-requires : goal.open_channel-requires
open_channel-requires g c =
    let within = subst (λ ss. c.args.channel < length ss) (sym c.specs-specs.ensures.specs) c.requires in
    let good = c.refusal_of-refusal.ensures.good (is_none_from _ (c.refusal_of-refusal.ensures.refusal ∙ c.specs-specs.ensures.run.opens)) c.args.channel
    c.index-specs-channel.result within in
    ap has_bad_capacity c.index-specs-channel.is ∙ good

pub ready-requires : goal.ready-requires
ready-requires g c = omega (arith, opens_light _ _ c.in_ok-machine.ensures, c.entries-entries.ensures.few)

pub returns : goal.returns
returns g c =
    let spec = c.index-specs-channel.result in
    stands_first c.documented.ensures.places c.args.run.now c.args.channel spec c.ready.new.self c.requires
    (c.index-specs-channel.is ∙ ap (λ ss. get_or ss c.args.channel spec) c.specs-specs.ensures.specs)
    (c.in_ok-ready.ensures.view ∙ c.in_ok-machine.ensures)
    (omega (
      arith,
      c.in_ok-ready.ensures.room,
      ap (λ x. (of_chan {V = g.row.V.Denot}).weigh x) c.in_ok-ready.ensures.view,
      ap length c.entries-entries.ensures.entries,
    ))

pub bounds-specs-channel : goal.bounds-specs-channel
bounds-specs-channel g c = subst (λ ss. c.args.channel < length ss) (sym c.specs-specs.ensures.specs) c.requires
