use Rattle.std.proofs.Common.{◌≡◌, ◌≤◌, length, refl, ap, sym, ◌∙◌, subst, arith}
use Rattle.std.proofs.lemmas.Bool.{true≢false}
use Rattle.std.proofs.lemmas.Option.{IfSome_then, slice_get_within}
use Rattle.rw_world.specs.Channel.{strays_at}
use Rattle.rw_world.specs.Openings.{spec_kind}
use Rattle.rw_seat.proofs.Desks.{spec_there, strays_past, strays_there}
use Rattle.rw_seat.proofs.seat_desk.SeatDesk.hand_off.Goals as goal

pub returns-in_err-get-clause-none : goal.returns-in_err-get-clause-none
returns-in_err-get-clause-none g c =
    let specs = c.deref.ensures.value ∙ ap (λ d. d.specs) c.self.view_is in
    let past = subst (λ ss. length ss ≤ c.args.channel) specs c.in_err-get.ensures.lookup.3 in
    rw c.from_residual.ensures (λ _. strays_past c.args.self.now.specs c.args.channel c.args.call.now past, λ _. refl)

pub returns-then-is_of_other_kind-clause-none : goal.returns-then-is_of_other_kind-clause-none
returns-then-is_of_other_kind-clause-none g c =
    let specs = c.deref.ensures.value ∙ ap (λ d. d.specs) c.self.view_is in
    let there = spec_there c.args.self.now.specs c.deref.result.now c.args.channel c.in_ok-get.field-0.now specs c.in_ok-get.ensures.lookup.3.0
    c.in_ok-get.ensures.lookup.1 in
    let strays = strays_there c.args.self.now.specs c.args.channel c.in_ok-get.field-0.now c.args.call.now there ∙ sym c.if-is_of_other_kind.ensures in
    (λ _. strays, λ _. refl)

pub returns-clause-none : goal.returns-clause-none
returns-clause-none g c =
    let specs = c.deref.ensures.value ∙ ap (λ d. d.specs) c.self.view_is in
    let there = spec_there c.args.self.now.specs c.deref.result.now c.args.channel c.in_ok-get.field-0.now specs c.in_ok-get.ensures.lookup.3.0
    c.in_ok-get.ensures.lookup.1 in
    let stays = strays_there c.args.self.now.specs c.args.channel c.in_ok-get.field-0.now c.args.call.now there ∙ sym c.if-is_of_other_kind.ensures in (
      λ none. absurd (omega (arith, slice_get_within c.args.self.now.specs c.args.channel c.in_ok-get.field-0.now there, c.hand_off_at.ensures.none.0 none)),
      λ strays. absurd (true≢false (sym strays ∙ stays)),
    )

pub returns-clause-home : goal.returns-clause-home
returns-clause-home g c = c.hand_off_at.ensures.home

pub returns-clause-spec : goal.returns-clause-spec
returns-clause-spec g c =
    let specs = c.deref.ensures.value ∙ ap (λ d. d.specs) c.self.view_is in
    let there = spec_there c.args.self.now.specs c.deref.result.now c.args.channel c.in_ok-get.field-0.now specs c.in_ok-get.ensures.lookup.3.0
    c.in_ok-get.ensures.lookup.1 in
    IfSome_then c.hand_off_at.result c.hand_off_at.ensures.spec
    (λ h s. (
      s.0,
      s.1,
      s.2,
      let same : s.0 ≡ c.in_ok-get.field-0.now =
          cc (s.1, there) in ap (λ x. strays_at (spec_kind x) c.args.call.now) same ∙ sym c.if-is_of_other_kind.ensures,
    ))
