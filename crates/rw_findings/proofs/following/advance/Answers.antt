use Rattle.std.proofs.Common.{◌∙◌, ap, arith, get_or, subst, sym, length, ◌<◌}
use Rattle.rw_findings.proofs.FollowedPlaces.{stands_here, stands_there}
use Rattle.rw_findings.proofs.following.advance.Goals as goal

pub returns-then-entry-channel : goal.returns-then-entry-channel
returns-then-entry-channel g c =
    let e = c.index-entries-place.result in
    stands_here c.documented.ensures.places c.args.run.now c.args.channel c.args.place e c.requires.more
    (c.index-entries-place.is ∙ ap (λ es. get_or es c.args.place e) c.entries.ensures.entries)
    c.args.machine.now c.apply.new.self c.requires.here c.if-entry-channel.true c.apply.ensures.view c.apply.ensures.room

pub returns-else-entry-channel : goal.returns-else-entry-channel
returns-else-entry-channel g c =
    let e = c.index-entries-place.result in
    stands_there c.documented.ensures.places c.args.run.now c.args.channel c.args.place e c.requires.more
    (c.index-entries-place.is ∙ ap (λ es. get_or es c.args.place e) c.entries.ensures.entries)
    c.args.machine.now c.requires.here c.if-entry-channel.false

pub bounds-entries-place : goal.bounds-entries-place
bounds-entries-place g c = subst (λ es. c.args.place < length es) (sym c.entries.ensures.entries) c.requires.more

pub apply-requires : goal.apply-requires
apply-requires g c = omega (arith, c.requires.here.room, c.requires.more)
