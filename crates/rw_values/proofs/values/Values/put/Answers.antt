use Rattle.std.proofs.Common.{◌≡◌, ◌∙◌, ap, sym, subst, arith, set, length-set, ◌<◌, ◌≤◌, ◌+◌, ◌∷◌, ◌++◌, []}
use Rattle.std.proofs.lemmas.List.{length_push}
use Rattle.std.proofs.lemmas.List.Elements.{All-set, All-push}
use Rattle.std.specs.Prelude.{All, vec_capacity, length}
use Rattle.rw_values.specs.declared.values.Kept.{Kept}
use Rattle.rw_values.specs.Inside.{store_of_cells}
use Rattle.rw_values.specs.Stored.{Store, IsKept, sent_to, with_value}
use Rattle.rw_values.proofs.Cells.{overwrote}
use Rattle.rw_values.proofs.Keeping.{sent_kept}
use Rattle.rw_values.proofs.values.Values.put.Goals as goal

pub invariant_of-self : goal.invariant_of-self
invariant_of-self g c =
    let i = c.self.inside in
    let cells = i.cells.items in
    let ring = c.self.invariant in
    let sent = sent_to c.args.receivers c.args.value in
    let now : c.push_reserved.new.self.items ≡ cells ++ sent ∷ [] = c.push_reserved.ensures.items in
    let one_more : length c.push_reserved.new.self.items ≡ length cells + 1 = ap length now ∙ length_push cells sent in
    let room : length cells < i.capacity = omega (arith, c.len.ensures, c.if-len-self.true) in
    let next : i.next ≤ c.args.number = omega (arith, ap (λ (s : Store _). s.next) c.self.view_is, c.requires.next.0) in
    record {
      some = ring.some;
      small = ring.small;
      few = omega (arith, one_more, room);
      within = ring.within;
      young = λ less. ring.young room;
      numbered = omega (arith, one_more, next, ring.numbered);
      kept = subst (All IsKept) (sym now) (All-push IsKept cells sent ring.kept (sent_kept c.args.receivers c.args.value c.requires.some));
    }

pub invariant_of-self-2 : goal.invariant_of-self-2
invariant_of-self-2 g c =
    let i = c.self.inside in
    let cells = i.cells.items in
    let ring = c.self.invariant in
    let sent : Kept _ = record { receivers = c.args.receivers; value = c.replace.new.dest } in
    let as_long = length-set cells i.first sent in
    let full : i.capacity ≤ length cells = omega (arith, c.len.ensures, c.if-len-self.false) in
    let next : i.next ≤ c.args.number = omega (arith, ap (λ (s : Store _). s.next) c.self.view_is, c.requires.next.0) in
    record {
      some = ring.some;
      small = ring.small;
      few = omega (arith, as_long, ring.few);
      within = c.next_cell-self-inside.ensures.within;
      young = λ less. absurd (omega (arith, as_long, full, less));
      numbered = omega (arith, as_long, next, ring.numbered);
      kept = All-set IsKept cells i.first sent
          (subst (λ o. IsKept (record { receivers = c.args.receivers; value = o })) (sym c.replace.ensures.after)
          (sent_kept c.args.receivers c.args.value c.requires.some)) ring.kept;
    }

pub returns-clause-kept : goal.returns-clause-kept
returns-clause-kept g c =
    let i = c.self.inside in
    let cells = i.cells.items in
    let full : length cells ≡ i.capacity = omega (arith, c.len.ensures, c.if-len-self.false, c.self.invariant.few) in
    let next = c.args.number + 1 in
    let sent = sent_to c.args.receivers c.args.value in
    let at : Kept _ → Store _ = λ k. store_of_cells i.capacity c.next_cell-self-inside.result next (set cells i.first k) (vec_capacity i.cells) in
    ap (λ o. at (record { receivers = c.args.receivers; value = o })) c.replace.ensures.after
    ∙ (ap (λ m. store_of_cells i.capacity m next (set cells i.first sent) (vec_capacity i.cells)) c.next_cell-self-inside.ensures.cell
    ∙ (ap (λ l. record (store_of_cells i.capacity i.first next cells (vec_capacity i.cells)) { kept = l })
    (overwrote i.capacity i.first cells sent c.self.invariant.within full)
    ∙ ap (λ s. with_value s c.args.number c.args.receivers c.args.value) c.self.view_is))
