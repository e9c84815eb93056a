use Rattle.std.proofs.Common.{rules, ◌≡◌, ℕ, List, [], ◌∷◌, Option, Some, sym, ap, ◌∙◌, subst}
use mathlib.Core.Option.{none}
use Rattle.atomic_table.specs.Table.{Me, Allows, step, rest}
use Rattle.rw_seat.specs.declared.view.View.{View}
use Rattle.rw_seat.specs.Rule.{HasOneBook, Releases}
use Rattle.rw_seat.proofs.Steps.{gives_back}
use Rattle.rw_seat.proofs.acquiring.release.Goals as goal

pub store-requires : goal.store-requires
store-requires g c =
    let author = g.B.Keeps.author in
    let start = g.B.Keeps.start in
    let journal = g.B.Keeps.journal in
    let V : Type 0 = View g.row.B-Entry.Denot g.row.B-Start.Denot in
    let key = c.args.table.now.key in
    let slots : ℕ = c.args.table.now.table_id.slots in
    let v : V = c.args.seat.now.me.0 in
    let b : g.row.B.Denot = c.args.book in
    let seat = c.exchange.new.seat in
    let is : seat.me ≡ (v, (0, Some b) ∷ []) = c.exchange.ensures.3
    ∙ ap (λ (l : List (ℕ × Option g.row.B.Denot)). (v, (0, Some b) ∷ rest l)) c.requires.held.1 in (
      search rules,
      search rules,
      subst (λ (m : Me (Option g.row.B.Denot) V). Allows (HasOneBook author start journal (start key.book.value) key.seats) slots seat.id m 0 (λ _. 0)
          (λ _. Releases author start journal (step slots 0 0 0 none) m 0)) (sym is)
          (gives_back author start journal (start key.book.value) key.seats slots seat.id v b c.requires.held.0 c.requires.start c.requires.adds),
    )
