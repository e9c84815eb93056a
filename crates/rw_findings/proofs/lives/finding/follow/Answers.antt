-- `follow` leads the lives of a channel's handles on by one entry: what they are up to a place, they are up to the next one.
use Rattle.std.proofs.Common.{◌≡◌, ◌<◌, ◌∙◌, ◌+◌, ap, arith, get_or, length, subst, sym}
use Rattle.rw_world.specs.Machines.{of_chan}
use Rattle.rw_findings.specs.Lives.{CountedCall, AddedMade, kind_in}
use Rattle.rw_findings.proofs.FollowedPlaces.{channel_here}
use Rattle.rw_findings.proofs.LifePlaces.{few_calls, lives_here, lives_there, same_element}
use Rattle.rw_findings.proofs.lives.finding.follow.Goals as goal

pub returns-then-entry-channel-clause-lives : goal.returns-then-entry-channel-clause-lives
returns-then-entry-channel-clause-lives g c =
    let e = c.index-entries-place.result in
    lives_there c.args.run.now c.args.channel c.documented.ensures.places c.args.place e c.requires.more
    (c.index-entries-place.is ∙ ap (λ es. get_or es c.args.place e) c.entries.ensures.entries)
    c.args.lives.now.items c.requires.lives c.if-entry-channel.true

pub count_call-requires : goal.count_call-requires
count_call-requires g c = λ life found.
    let actor = c.index-entries-place.result.actor in
    omega (
      arith,
      (c.requires.lives.each c.handle-handle.result life found).calls actor,
      few_calls c.args.run.now c.args.channel c.handle-handle.result actor c.args.place,
      c.requires.more,
      c.entries.ensures.few,
      ap length c.entries.ensures.entries,
    )

pub returns-clause-lives : goal.returns-clause-lives
returns-clause-lives g c =
    let run = c.args.run.now in
    let p = c.args.place in
    let e = c.index-entries-place.result in
    let x = (of_chan {V = g.row.V.Denot}).shown c.args.machine.now in
    let y = (of_chan {V = g.row.V.Denot}).next x e.call.call in
    let read = c.index-entries-place.is ∙ ap (λ es. get_or es p e) c.entries.ensures.entries in
    let there = channel_here c.documented.ensures.places run c.args.channel p e c.requires.more read x c.requires.here.shows c.if-entry-channel.false in
    let y_is : (of_chan {V = g.row.V.Denot}).shown c.advance.new.machine ≡ y = same_element (sym c.advance.ensures.shows ∙ there) in
    let h = c.handle-handle.result in
    let kind : c.kind_of.result ≡ kind_in y h = c.kind_of.ensures ∙ ap (λ z. kind_in z h) y_is in
    let mid = c.count_call.new.lives.items in
    let called : CountedCall c.args.lives.now.items mid h e.actor (kind_in y h) (p + 1) =
    subst (λ k. CountedCall c.args.lives.now.items mid h e.actor k (p + 1)) kind c.in_ok-count_call.ensures in
    let made : AddedMade mid c.add_made.new.lives.items y (p + 1) e.actor =
    subst (λ z. AddedMade mid c.add_made.new.lives.items z (p + 1) e.actor) y_is c.in_ok-add_made.ensures in
    lives_here run c.args.channel c.documented.ensures.places p e c.requires.more read x c.args.lives.now.items mid c.add_made.new.lives.items
    c.requires.here.shows c.if-entry-channel.false c.requires.lives
    (subst (λ k. CountedCall c.args.lives.now.items mid k e.actor (kind_in y k) (p + 1)) c.handle-handle.ensures called) made

pub bounds-entries-place : goal.bounds-entries-place
bounds-entries-place g c = subst (λ es. c.args.place < length es) (sym c.entries.ensures.entries) c.requires.more

pub advance-requires-clause-here : goal.advance-requires-clause-here
advance-requires-clause-here g c = c.requires.here

pub advance-requires-clause-more : goal.advance-requires-clause-more
advance-requires-clause-more g c = c.requires.more

pub returns-then-entry-channel-clause-here : goal.returns-then-entry-channel-clause-here
returns-then-entry-channel-clause-here g c = c.advance.ensures

pub returns-clause-here : goal.returns-clause-here
returns-clause-here g c = c.advance.ensures
