use Rattle.std.proofs.Common.{rules, ◌≡◌, ℕ, List, [], ◌∷◌, eqb, Option, Some, sym, ap, ◌∙◌, subst}
use mathlib.Core.Option.{none}
use prog.Atomic.{either}
use Rattle.atomic_table.specs.Table.{Me, Allows, step, rest}
use Rattle.rw_seat.specs.declared.view.View.{View}
use Rattle.rw_seat.specs.Rule.{HasOneBook, Acquires, Fits}
use Rattle.rw_seat.proofs.Steps.{takes_turn, same_book}
use Rattle.rw_seat.proofs.acquiring.acquire.Goals as goal

pub compare_exchange-requires : goal.compare_exchange-requires
compare_exchange-requires g c =
    let author = g.B.Keeps.author in
    let start = g.B.Keeps.start in
    let journal = g.B.Keeps.journal in
    let V : Type 0 = View g.row.B-Entry.Denot g.row.B-Start.Denot in
    let key = c.args.table.now.key in
    let slots : ℕ = c.args.table.now.table_id.slots in
    let v : V = c.args.seat.now.me.0 in
    let seat = c.loop.seat in
    let is : seat.me ≡ (v, []) = c.loop.invariant.2 ∙ ap (λ (l : List (ℕ × Option g.row.B.Denot)). (v, l)) c.requires.idle in
    let living = c.requires.living in (
      search rules,
      search rules,
      subst (λ (m : Me (Option g.row.B.Denot) V). Allows (HasOneBook author start journal (start key.book.value) key.seats) slots seat.id m 0
          (λ k. either (eqb k 0) 1 k) (Acquires author start journal (step slots 0 0 1 none) m)) (sym is)
          (takes_turn author start journal (start key.book.value) key.seats slots seat.id living.0 living.1 v living.2),
    )

pub exchange-requires : goal.exchange-requires
exchange-requires g c =
    let V : Type 0 = View g.row.B-Entry.Denot g.row.B-Start.Denot in
    let t = c.compare_exchange.ensures.2.0 c.if-compare_exchange-eq-FREE.true in
    let me = c.compare_exchange.new.seat.me in
    let is : me.1 ≡ (0, Some t.0) ∷ [] = ap (λ (m : Me (Option g.row.B.Denot) V). m.1) t.1 in
    (search rules, (Some t.0, is ∙ ap (λ (l : List (ℕ × Option g.row.B.Denot)). (0, Some t.0) ∷ rest l) (sym is)))

pub returns-then-compare_exchange-eq-FREE-clause-start : goal.returns-then-compare_exchange-eq-FREE-clause-start
returns-then-compare_exchange-eq-FREE-clause-start g c =
    let V : Type 0 = View g.row.B-Entry.Denot g.row.B-Start.Denot in
    let t = c.compare_exchange.ensures.2.0 c.if-compare_exchange-eq-FREE.true in
    let me = c.compare_exchange.new.seat.me in
    let is : me.1 ≡ (0, Some t.0) ∷ [] = ap (λ (m : Me (Option g.row.B.Denot) V). m.1) t.1 in
    let found : c.exchange.result ≡ Some t.0 = same_book me.1 t.0 c.exchange.result (rest me.1) is c.exchange.ensures.2 in
    let same : t.0 ≡ c.unwrap.result = cc (found, c.unwrap.ensures) in
    let view : c.loop.seat.me.0 ≡ c.args.seat.now.me.0 = ap (λ (m : Me (Option g.row.B.Denot) V). m.0) c.loop.invariant.2 in
    ap (λ (v : V). v.start) (sym view) ∙ (t.2 ∙ ap (λ (b : g.row.B.Denot). Some (g.B.Keeps.start b)) same)

pub returns-then-compare_exchange-eq-FREE-clause-fits : goal.returns-then-compare_exchange-eq-FREE-clause-fits
returns-then-compare_exchange-eq-FREE-clause-fits g c =
    let author = g.B.Keeps.author in
    let journal = g.B.Keeps.journal in
    let V : Type 0 = View g.row.B-Entry.Denot g.row.B-Start.Denot in
    let t = c.compare_exchange.ensures.2.0 c.if-compare_exchange-eq-FREE.true in
    let me = c.compare_exchange.new.seat.me in
    let is : me.1 ≡ (0, Some t.0) ∷ [] = ap (λ (m : Me (Option g.row.B.Denot) V). m.1) t.1 in
    let found : c.exchange.result ≡ Some t.0 = same_book me.1 t.0 c.exchange.result (rest me.1) is c.exchange.ensures.2 in
    let same : t.0 ≡ c.unwrap.result = cc (found, c.unwrap.ensures) in
    let view : c.loop.seat.me.0 ≡ c.args.seat.now.me.0 = ap (λ (m : Me (Option g.row.B.Denot) V). m.0) c.loop.invariant.2 in
    subst (λ (v : V). Fits author (journal c.unwrap.result) v) view
    (subst (λ (b : g.row.B.Denot). Fits author (journal b) c.loop.seat.me.0) same t.3)
