use Rattle.std.proofs.Common.{◌≡◌, Some, length, ◌∙◌, refl, sym, ap}
use Rattle.std.specs.Prelude.{slice_get}
use Rattle.std.proofs.lemmas.Option.{slice_get_read}
use Rattle.rw_desk.specs.Desks.{ends_at}
use Rattle.rw_desk.proofs.Opened.{one_more}
use Rattle.rw_desk.proofs.desk.first_ends.Goals as goal

pub loop-channel-preserved : goal.loop-channel-preserved
loop-channel-preserved g c =
    let inv = c.loop-channel.invariant in
    let n = c.loop-channel.channel in
    let specs = c.args.specs.now in
    let spec = c.index-specs-channel.result in
    let at : slice_get specs n ≡ Some spec = slice_get_read specs (length specs) n spec refl c.loop-channel-test.true c.index-specs-channel.is in
    one_more (λ a. ends_at a (slice_get specs a)) c.loop-channel.ends.items c.push.new.self.items c.ends_of.result n inv.0 inv.1
    (c.ends_of.ensures ∙ ap (ends_at n) (sym at)) c.in_ok-push.ensures.items
