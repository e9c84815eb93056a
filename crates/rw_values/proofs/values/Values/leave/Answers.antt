use Rattle.std.proofs.Common.{◌≡◌, ◌∙◌, ap, sym, subst, arith, ◌-◌, ◌<◌, ◌++◌, ◌∷◌, [], length, take, drop}
use Rattle.std.specs.Prelude.{All, vec_capacity}
use Rattle.std.specs.Option.{option_to_list}
use Rattle.std.proofs.lemmas.List.{append-nil}
use Rattle.rw_values.specs.Stored.{Store, Awaits, IsAwaited, all_given, given_of, kept_at, with_received}
use Rattle.rw_values.proofs.Leaving.{begins, kept_from, left_none, awaits_left, left_at, left_next, given_next, room_next, place_is, given_all, left_all}
use Rattle.rw_values.proofs.values.Values.leave.Goals as goal
use Rattle.rw_values.proofs.values.Values.leave.Goals.{in-Some, in-None}

pub loop-number-init : goal.loop-number-init
loop-number-init g c =
    let s = c.args.self.now in
    let from = c.self.inside.next - c.min.result in
    let none : 0 ≡ from - from = omega arith in
    record {
      is = left_none s from;
      given_is = c.in_ok-given.ensures.items ∙ ap (λ n. all_given (take n (kept_from s from))) none;
      room = omega (arith, c.in_ok-given.ensures.exact, c.last_of.ensures);
    }

pub receive-requires : goal.receive-requires
receive-requires g c =
    let s = c.args.self.now in
    let from = c.self.inside.next - c.min.result in
    let number = c.loop-number.number in
    let all : c.len.result ≡ length c.self.inside.cells.items = omega (arith, c.len.ensures) in
    let at = begins s _ _ _ _ c.args.unread _ c.min.result _ c.self.view_is c.self.invariant.numbered all c.min.ensures in
    let sent : number < s.next = omega (arith, at.next_is, c.loop-number-test.true) in
    let awaited : All IsAwaited (kept_from s from) =
    subst (λ n. All IsAwaited (drop n s.kept)) (sym (place_is s c.args.unread from at.numbered at.from_is)) c.requires in
    subst (λ (t : Store _). Awaits t number) (sym c.loop-number.invariant.is)
    (awaits_left s from number at.kept c.loop-number.auto.number sent awaited)

pub push_reserved-requires : goal.push_reserved-requires
push_reserved-requires g c =
    let s = c.args.self.now in
    let from = c.self.inside.next - c.min.result in
    let number = c.loop-number.number in
    let all : c.len.result ≡ length c.self.inside.cells.items = omega (arith, c.len.ensures) in
    let at = begins s _ _ _ _ c.args.unread _ c.min.result _ c.self.view_is c.self.invariant.numbered all c.min.ensures in
    let sent : number < s.next = omega (arith, at.next_is, c.loop-number-test.true) in
    let is = sym (ap given_of (left_at s from number at.kept c.loop-number.auto.number sent))
    ∙ (ap (λ (t : Store _). given_of (kept_at t number)) (sym c.loop-number.invariant.is) ∙ (sym c.receive.ensures.given ∙ c.in-Some.is)) in
    omega (
      arith,
      ap length c.loop-number.invariant.given_is,
      c.loop-number.invariant.room,
      room_next s from number at.kept c.loop-number.auto.number sent c.in-Some.value is,
    )

pub loop-number-preserved : goal.loop-number-preserved
loop-number-preserved g c =
    let s = c.args.self.now in
    let from = c.self.inside.next - c.min.result in
    let number = c.loop-number.number in
    let all : c.len.result ≡ length c.self.inside.cells.items = omega (arith, c.len.ensures) in
    let at = begins s _ _ _ _ c.args.unread _ c.min.result _ c.self.view_is c.self.invariant.numbered all c.min.ensures in
    let sent : number < s.next = omega (arith, at.next_is, c.loop-number-test.true) in
    let there = c.loop-number.auto.number in
    let is = sym (ap given_of (left_at s from number at.kept there sent))
    ∙ (ap (λ (t : Store _). given_of (kept_at t number)) (sym c.loop-number.invariant.is) ∙ sym c.receive.ensures.given) in
    let now = c.receive.ensures.kept ∙ (ap (λ t. with_received t number) c.loop-number.invariant.is ∙ left_next s from number at.kept there sent) in
    let more = given_next s from number at.kept there sent in
    elim c.match-receive.branch [
      | in-Some w ↦ record {
        is = now;
        given_is = ap (λ v. v.items) w.given-is ∙ (w.push_reserved.ensures.items
            ∙ (ap (λ l. l ++ w.in-Some.value ∷ []) c.loop-number.invariant.given_is
            ∙ (ap (λ o. all_given (take (number - from) (kept_from s from)) ++ option_to_list o) (sym (is ∙ w.in-Some.is)) ∙ more)));
        room = omega (arith, ap (λ v. vec_capacity v) w.given-is, w.push_reserved.ensures.capacity, c.loop-number.invariant.room);
      }
      | in-None w ↦ record {
        is = now;
        given_is = ap (λ v. v.items) w.given-is ∙ (c.loop-number.invariant.given_is
            ∙ (sym (append-nil (all_given (take (number - from) (kept_from s from))))
            ∙ (ap (λ o. all_given (take (number - from) (kept_from s from)) ++ option_to_list o) (sym (is ∙ w.in-None.is)) ∙ more)));
        room = omega (arith, ap (λ v. vec_capacity v) w.given-is, c.loop-number.invariant.room);
      }
    ]

pub returns-clause-given : goal.returns-clause-given
returns-clause-given g c =
    let s = c.args.self.now in
    let from = c.self.inside.next - c.min.result in
    let number = c.loop-number.number in
    let all : c.len.result ≡ length c.self.inside.cells.items = omega (arith, c.len.ensures) in
    let at = begins s _ _ _ _ c.args.unread _ c.min.result _ c.self.view_is c.self.invariant.numbered all c.min.ensures in
    c.loop-number.invariant.given_is ∙ given_all s c.args.unread from number at.numbered at.from_is (omega (arith, at.next_is, c.loop-number-test.false))

pub returns-clause-kept : goal.returns-clause-kept
returns-clause-kept g c =
    let s = c.args.self.now in
    let from = c.self.inside.next - c.min.result in
    let number = c.loop-number.number in
    let all : c.len.result ≡ length c.self.inside.cells.items = omega (arith, c.len.ensures) in
    let at = begins s _ _ _ _ c.args.unread _ c.min.result _ c.self.view_is c.self.invariant.numbered all c.min.ensures in
    c.loop-number.invariant.is ∙ left_all s c.args.unread from number at.numbered at.from_is (omega (arith, at.next_is, c.loop-number-test.false))
