use Rattle.std.proofs.Common.{◌≡◌, ◌∙◌, ap, sym, subst, arith, set, length-set}
use Rattle.std.proofs.lemmas.List.Elements.{All-set}
use Rattle.std.specs.Prelude.{vec_capacity, length}
use Rattle.rw_values.specs.Inside.{store_of_cells}
use Rattle.rw_values.specs.Stored.{Store, Awaits, IsKept, given_of, kept_at, with_received}
use Rattle.rw_values.proofs.Keeping.{kept_is, awaited, is_kept, less_is, less_kept}
use Rattle.rw_values.proofs.values.Values.receive.Goals as goal

pub invariant_of-self : goal.invariant_of-self
invariant_of-self g c =
    let i = c.self.inside in
    let counted : c.len-count.result ≡ length i.cells.items = omega (arith, c.len-count.ensures) in
    let awaits = subst (λ (s : Store _). Awaits s c.args.number) (sym c.self.view_is) c.requires in
    let read = c.index_mut.ensures.value in
    let k = c.index_mut.result.now in
    let kept = is_kept i.capacity i.first i.next (vec_capacity i.cells) i.cells.items c.args.number c.len-count.result c.cell_of.result k
    c.self.invariant awaits counted c.cell_of.ensures.cell read in
    let some = awaited i.capacity i.first i.next (vec_capacity i.cells) i.cells.items c.args.number c.len-count.result c.cell_of.result k
    c.self.invariant awaits counted c.cell_of.ensures.cell read in
    let as_long = length-set i.cells.items c.cell_of.result c.serve.new.kept in
    record {
      some = c.self.invariant.some;
      small = c.self.invariant.small;
      few = omega (arith, as_long, c.self.invariant.few);
      within = c.self.invariant.within;
      young = λ less. c.self.invariant.young (omega (arith, as_long, less));
      numbered = omega (arith, as_long, c.self.invariant.numbered);
      kept = All-set IsKept i.cells.items c.cell_of.result c.serve.new.kept
          (subst IsKept (sym c.serve.ensures.kept) (less_kept k kept some)) c.self.invariant.kept;
    }

pub returns-clause-given : goal.returns-clause-given
returns-clause-given g c =
    let i = c.self.inside in
    let counted : c.len-count.result ≡ length i.cells.items = omega (arith, c.len-count.ensures) in
    let awaits = subst (λ (s : Store _). Awaits s c.args.number) (sym c.self.view_is) c.requires in
    let same = kept_is i.capacity i.first i.next (vec_capacity i.cells) i.cells.items c.args.number c.len-count.result c.cell_of.result
    c.index_mut.result.now c.self.invariant awaits counted c.cell_of.ensures.cell c.index_mut.ensures.value in
    c.serve.ensures.given ∙ (ap given_of (sym same) ∙ ap (λ s. given_of (kept_at s c.args.number)) c.self.view_is)

pub returns-clause-kept : goal.returns-clause-kept
returns-clause-kept g c =
    let i = c.self.inside in
    let counted : c.len-count.result ≡ length i.cells.items = omega (arith, c.len-count.ensures) in
    let awaits = subst (λ (s : Store _). Awaits s c.args.number) (sym c.self.view_is) c.requires in
    let less = less_is i.capacity i.first i.next (vec_capacity i.cells) i.cells.items c.args.number c.len-count.result c.cell_of.result
    c.index_mut.result.now c.self.invariant awaits counted c.cell_of.ensures.cell c.index_mut.ensures.value in
    ap (λ k. store_of_cells i.capacity i.first i.next (set i.cells.items c.cell_of.result k) (vec_capacity i.cells)) c.serve.ensures.kept
    ∙ (ap (λ l. record (store_of_cells i.capacity i.first i.next i.cells.items (vec_capacity i.cells)) { kept = l }) less
    ∙ ap (λ s. with_received s c.args.number) c.self.view_is)
