-- `close` returns a book that extends the front of each seat. Where a seat is missing, it returns all that it was given.
use Rattle.std.proofs.Common.{rules, arith, ◌≡◌, ◌⊎◌, ◌<◌, ℕ, List, [], ◌∷◌, map, Option, Some, IsSome, refl, sym, ap, ◌∙◌, subst, inl, inr, ⊎_elim}
use Rattle.std.proofs.lemmas.Grind.{common_steps}
use mathlib.Core.Option.{some-injective}
use Rattle.atomic_table.specs.Table.{Me}
use Rattle.rw_seat.specs.declared.view.View.{View}
use Rattle.rw_seat.specs.HandOffs.{HandSeat}
use Rattle.rw_seat.specs.Journals.{IsIn, IsQuiet}
use Rattle.rw_seat.specs.Rule.{Fits}
use Rattle.rw_seat.proofs.Journals.{in_left}
use Rattle.rw_seat.proofs.Splitting.{each_popped}
use Rattle.rw_seat.proofs.Steps.{joins}
use Rattle.rw_seat.proofs.Closes.{in_popped, all_popped, in_rest, known_fits, known_joined, known_one, ended, all_none, none_in}
use Rattle.rw_seat.proofs.hand_off.HandOff.close.Goals as goal

pub loop-hand_seat-init : goal.loop-hand_seat-init
loop-hand_seat-init g c =
    let S : Type 0 = HandSeat g.row.B-Entry.Denot g.row.B-Start.Denot in
    let M : Type 0 = Me (Option g.row.B.Denot) (View g.row.B-Entry.Denot g.row.B-Start.Denot) in
    let author = g.B.Keeps.author in
    let x : S = c.in-Some.hand_seat in
    let r = c.hand_seat.inside in
    let xs : List S = c.args.seats.items in
    let ys : List S = c.pop.new.self.items in
    let fit = all_popped (λ (s : S). s.home ≡ c.args.self.home) xs ys x c.in-Some.ensures.items c.requires in
    let number : r.number ≡ x.number = ap (λ (s : S). s.number) c.hand_seat.view_is in
    let front : r.seat.me.0.front ≡ x.front = ap (λ (s : S). s.front) c.hand_seat.view_is in
    let ns : r.seat.me.0.numbers ≡ r.number ∷ [] = ap (λ (m : M). m.0.numbers) c.hand_seat.invariant in record {
      of_table = (
        ap (λ (s : S). s.home.table) c.hand_seat.view_is ∙ ap (λ h. h.table) fit.1,
        ap (λ (m : M). m.1) c.hand_seat.invariant,
        ap (λ (m : M). m.0.held) c.hand_seat.invariant,
      );
      living = (r.number, subst (IsIn r.number) (sym ns) (inl refl));
      fit = fit.0;
      numbers = (λ n i. ⊎_elim (λ (a : IsIn n (map (λ (s : S). s.number) ys)). inl a)
          (λ (e : n ≡ x.number). inr (subst (IsIn n) (sym ns) (inl (e ∙ sym number)))) (in_popped (λ (s : S). s.number) xs ys x n c.in-Some.ensures.items i));
      fronts = (λ h k all. each_popped (λ (s : S). IsQuiet author (s.number ∷ []) s.front h) ys xs x c.in-Some.ensures.items all
          (subst (λ (z : ℕ × List g.row.B-Entry.Denot). IsQuiet author (z.0 ∷ []) z.1 h) (λ i. (number i, front i))
          (known_one author h r.seat.me.0 r.number ns k)));
    }

pub join_seat-requires : goal.join_seat-requires
join_seat-requires g c =
    let S : Type 0 = HandSeat g.row.B-Entry.Denot g.row.B-Start.Denot in
    let M : Type 0 = Me (Option g.row.B.Denot) (View g.row.B-Entry.Denot g.row.B-Start.Denot) in
    let start = g.B.Keeps.start in
    let key = c.self.inside.table.shared.key in
    let x : S = c.in-Some-pop.hand_seat in
    let r = c.hand_seat-in-Some-pop in
    let inv = c.loop-hand_seat.invariant in
    let fit = all_popped (λ (s : S). s.home ≡ c.args.self.home) c.loop-hand_seat.seats.items c.pop-in-loop-hand_seat.new.self.items x
    c.in-Some-pop.ensures.items inv.fit in
    let here = ap (λ h. h.home.table) c.self.view_is in (
      inv.of_table.0 ∙ sym here,
      ap (λ (s : S). s.home.table) r.view_is ∙ (ap (λ h. h.table) fit.1 ∙ sym here),
      ap (λ (m : M). m.1) r.invariant,
      search rules,
      joins g.B.Keeps.author start g.B.Keeps.journal (start key.book.value) key.seats c.loop-hand_seat.all.id r.inside.seat.id inv.living.0
          c.loop-hand_seat.all.me.0 r.inside.seat.me.0 inv.living.1 inv.of_table.2 (ap (λ (m : M). m.0.held) r.invariant),
    )

pub loop-hand_seat-preserved : goal.loop-hand_seat-preserved
loop-hand_seat-preserved g c =
    let S : Type 0 = HandSeat g.row.B-Entry.Denot g.row.B-Start.Denot in
    let V : Type 0 = View g.row.B-Entry.Denot g.row.B-Start.Denot in
    let M : Type 0 = Me (Option g.row.B.Denot) V in
    let author = g.B.Keeps.author in
    let x : S = c.in-Some-pop.hand_seat in
    let r = c.hand_seat-in-Some-pop in
    let xs : List S = c.loop-hand_seat.seats.items in
    let ys : List S = c.pop-in-loop-hand_seat.new.self.items in
    let v : V = c.loop-hand_seat.all.me.0 in
    let w : V = r.inside.seat.me.0 in
    let j : V = c.join_seat.new.seat.me.0 in
    let inv = c.loop-hand_seat.invariant in
    let is = ap (λ (m : M). m.0) c.join_seat.ensures.2 in
    let fit = all_popped (λ (s : S). s.home ≡ c.args.self.home) xs ys x c.in-Some-pop.ensures.items inv.fit in
    let number : r.inside.number ≡ x.number = ap (λ (s : S). s.number) r.view_is in
    let front : w.front ≡ x.front = ap (λ (s : S). s.front) r.view_is in
    let ns : w.numbers ≡ r.inside.number ∷ [] = ap (λ (m : M). m.0.numbers) r.invariant in record {
      of_table = (
        c.join_seat.ensures.0 ∙ inv.of_table.0,
        ap (λ (m : M). m.1) c.join_seat.ensures.2 ∙ inv.of_table.1,
        ap (λ (m : M). m.0.held) c.join_seat.ensures.2,
      );
      living = (
        inv.living.0,
        subst (IsIn inv.living.0) (sym (ap (λ (m : M). m.0.numbers) c.join_seat.ensures.2))
            (in_left inv.living.0 v.numbers w.numbers inv.living.1),
      );
      fit = fit.0;
      numbers = (λ n i. subst (λ (l : List ℕ). IsIn n (map (λ (s : S). s.number) ys) ⊎ IsIn n l) (sym (ap (λ (m : M). m.0.numbers) c.join_seat.ensures.2))
          (in_rest n v.numbers w.numbers (IsIn n (map (λ (s : S). s.number) ys)) x.number (ns ∙ ap (λ (k : ℕ). k ∷ []) number)
          (⊎_elim (λ (a : IsIn n (map (λ (s : S). s.number) xs)). inl (in_popped (λ (s : S). s.number) xs ys x n c.in-Some-pop.ensures.items a))
          (λ (b : IsIn n v.numbers). inr b) (inv.numbers n i))));
      fronts = (λ h k all. let both = known_joined author h v w j is k in
          inv.fronts h both.0 (each_popped (λ (s : S). IsQuiet author (s.number ∷ []) s.front h) ys xs x c.in-Some-pop.ensures.items all
          (subst (λ (z : ℕ × List g.row.B-Entry.Denot). IsQuiet author (z.0 ∷ []) z.1 h) (λ i. (number i, front i))
          (known_one author h w r.inside.number ns both.1))));
    }

pub unwrap-book-requires : goal.unwrap-book-requires
unwrap-book-requires g c =
    let S : Type 0 = HandSeat g.row.B-Entry.Denot g.row.B-Start.Denot in
    let start = g.B.Keeps.start in
    let key = c.self.inside.table.shared.key in
    let inv = c.loop-hand_seat.invariant in
    let none : c.loop-hand_seat.seats.items ≡ [] = first_of (search rules, grind (arith, common_steps)) in
    let count : key.seats ≡ c.args.self.seats = c.self.invariant.2 ∙ ap (λ h. h.seats) c.self.view_is in
    let t = ended g.B.Keeps.author start g.B.Keeps.journal (start key.book.value) key.seats c.args.self.seats c.loop-hand_seat.all.id c.loop-hand_seat.all.me.0
    _ _ (λ (s : S). s.number) c.args.seats.items c.loop-hand_seat.seats.items
    count inv.of_table.2 none inv.numbers c.if-not-has_all.ensures c.close_with-closed.ensures.values.2 in
    let is : c.take.result ≡ Some t.0 = some-injective _ _ (sym c.take.ensures.value ∙ t.1) in
    subst IsSome (sym is) (search rules)

pub close_with-closed-requires : goal.close_with-closed-requires
close_with-closed-requires g c = c.loop-hand_seat.invariant.of_table.0 ∙ sym (ap (λ h. h.home.table) c.self.view_is)

pub returns-clause-fronts : goal.returns-clause-fronts
returns-clause-fronts g c =
    let S : Type 0 = HandSeat g.row.B-Entry.Denot g.row.B-Start.Denot in
    let author = g.B.Keeps.author in
    let start = g.B.Keeps.start in
    let journal = g.B.Keeps.journal in
    let key = c.self.inside.table.shared.key in
    let inv = c.loop-hand_seat.invariant in
    let none : c.loop-hand_seat.seats.items ≡ [] = first_of (search rules, grind (arith, common_steps)) in
    let count : key.seats ≡ c.args.self.seats = c.self.invariant.2 ∙ ap (λ h. h.seats) c.self.view_is in
    let t = ended author start journal (start key.book.value) key.seats c.args.self.seats c.loop-hand_seat.all.id c.loop-hand_seat.all.me.0 _ _
    (λ (s : S). s.number) c.args.seats.items c.loop-hand_seat.seats.items
    count inv.of_table.2 none inv.numbers c.if-not-has_all.ensures c.close_with-closed.ensures.values.2 in
    let is : c.take.result ≡ Some t.0 = some-injective _ _ (sym c.take.ensures.value ∙ t.1) in
    let same : t.0 ≡ c.unwrap-book.result = cc (is, c.unwrap-book.ensures) in
    let h : List g.row.B-Entry.Denot = journal c.unwrap-book.result in
    let fit : Fits author h c.loop-hand_seat.all.me.0 = subst (λ (b : g.row.B.Denot). Fits author (journal b) c.loop-hand_seat.all.me.0) same t.2 in
    inv.fronts h (known_fits author h c.loop-hand_seat.all.me.0 fit)
    (all_none (λ (s : S). IsQuiet author (s.number ∷ []) s.front h) c.loop-hand_seat.seats.items none)

pub returns-clause-start : goal.returns-clause-start
returns-clause-start g c =
    let S : Type 0 = HandSeat g.row.B-Entry.Denot g.row.B-Start.Denot in
    let start = g.B.Keeps.start in
    let key = c.self.inside.table.shared.key in
    let inv = c.loop-hand_seat.invariant in
    let none : c.loop-hand_seat.seats.items ≡ [] = first_of (search rules, grind (arith, common_steps)) in
    let count : key.seats ≡ c.args.self.seats = c.self.invariant.2 ∙ ap (λ h. h.seats) c.self.view_is in
    let t = ended g.B.Keeps.author start g.B.Keeps.journal (start key.book.value) key.seats c.args.self.seats c.loop-hand_seat.all.id c.loop-hand_seat.all.me.0
    _ _ (λ (s : S). s.number) c.args.seats.items c.loop-hand_seat.seats.items
    count inv.of_table.2 none inv.numbers c.if-not-has_all.ensures c.close_with-closed.ensures.values.2 in
    let is : c.take.result ≡ Some t.0 = some-injective _ _ (sym c.take.ensures.value ∙ t.1) in
    let same : t.0 ≡ c.unwrap-book.result = cc (is, c.unwrap-book.ensures) in
    ap (λ (b : g.row.B.Denot). Some (start b)) (sym same) ∙ (ap (λ (o : g.row.B-Start.Denot). Some o) t.3 ∙ ap (λ h. h.home.start) c.self.view_is)

pub unreachable-requires : goal.unreachable-requires
unreachable-requires g c =
    let S : Type 0 = HandSeat g.row.B-Entry.Denot g.row.B-Start.Denot in
    let some : 0 < c.args.self.seats = omega (arith, c.self.invariant.3, ap (λ h. h.seats) c.self.view_is) in
    none_in (λ (s : S). s.number) c.args.seats.items 0 (omega (arith, c.in_default.ensures.cases.0)) (c.if-not-has_all.ensures 0 some)
