use Rattle.std.proofs.Common.{◌≡◌, ◌+◌, ◌≤◌, ◌∙◌, ap, arith, false, get_or, length, sym, subst}
use Rattle.std.specs.Prelude.{Some, option_map, slice_get}
use Rattle.std.proofs.lemmas.Option.{slice_get-map}
use Rattle.rw_world.specs.Machines.{of_chan, of_world}
use Rattle.rw_findings.specs.Traffic.{AreOpened, IsOpened}
use Rattle.rw_findings.proofs.LifePlaces.{same_element}
use Rattle.rw_findings.proofs.TrafficPlaces.{opened_more, opened_none}
use Rattle.rw_findings.proofs.traffic.finding.opened.Goals as goal

pub each_channel-init : goal.each_channel-init
each_channel-init g c = record {
  opened = subst (AreOpened (of_world.shown c.args.world.now) c.args.channels.now 0) (sym c.in_ok-found.ensures.items)
      (opened_none (of_world.shown c.args.world.now) c.args.channels.now);
  room = omega (arith, c.in_ok-found.ensures.capacity, c.len.ensures);
}

pub push_reserved-requires : goal.push_reserved-requires
push_reserved-requires g c =
    omega (
      arith,
      c.each_channel.invariant.opened.many,
      c.each_channel.invariant.room,
      c.each_channel-test.true,
      c.each_channel.auto.channel-end,
      c.len-channel-end.ensures,
    )

pub each_channel-preserved : goal.each_channel-preserved
each_channel-preserved g c =
    let world = c.args.world.now in
    let xs = of_world.shown world in
    let n = c.each_channel.channel in
    let channels = c.args.channels.now in
    let o = c.in_ok-traffic.traffic in
    let machine = c.unwrap-machine.result.now in
    let at : slice_get world n ≡ Some machine = sym (rw c.unwrap-machine.ensures at c.channel.ensures) in
    let shown : slice_get xs n ≡ Some ((of_chan {V = g.row.V.Denot}).shown machine) =
    slice_get-map (of_chan {V = g.row.V.Denot}).shown world n ∙ ap (option_map (of_chan {V = g.row.V.Denot}).shown) at in
    let opened : IsOpened (get_or channels n false) ((of_chan {V = g.row.V.Denot}).shown machine) o =
    subst (λ k. IsOpened k ((of_chan {V = g.row.V.Denot}).shown machine) o) c.is_asked.ensures c.in_ok-traffic.ensures in
    record {
      opened = subst (AreOpened xs channels (n + 1)) (sym c.push_reserved.ensures.items)
          (opened_more xs channels n c.each_channel.found.items o c.each_channel.invariant.opened
          (λ x here. subst (λ y. IsOpened (get_or channels n false) y o) (same_element (sym shown ∙ here)) opened));
      room = subst (λ k. length world ≤ k) (sym c.push_reserved.ensures.capacity) c.each_channel.invariant.room;
    }

pub returns : goal.returns
returns g c =
    let last : c.each_channel.channel ≡ length c.args.world.now =
    omega (arith, c.each_channel-test.false, c.each_channel.auto.channel-end, c.len-channel-end.ensures) in
    subst (λ n. AreOpened (of_world.shown c.args.world.now) c.args.channels.now n c.each_channel.found.items) last c.each_channel.invariant.opened
