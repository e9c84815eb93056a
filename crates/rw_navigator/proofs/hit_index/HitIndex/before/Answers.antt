use Rattle.std.proofs.Common.{rules, of_calls, ◌≡◌, ◌<◌, ◌≤◌, ◌∙◌, Some, length, sym, subst}
use Rattle.std.specs.Prelude.{nat_lt}
use Rattle.std.proofs.lemmas.List.Sorted.{IsPartitionPoint-from_clause, IsPartitionedBy-ltb}
use Rattle.rw_navigator.specs.Search.{step_hit, last_below}
use Rattle.rw_navigator.proofs.Indexing.{IsAllHits, all_hits, before_cut, none_before}
use Rattle.rw_navigator.proofs.Searches.{step_hit-inside}
use Rattle.rw_navigator.proofs.hit_index.HitIndex.before.Given as given
use Rattle.rw_navigator.proofs.hit_index.HitIndex.before.Goals as goal

pub returns-then-below-eq0-clause-found : goal.returns-then-below-eq0-clause-found
returns-then-below-eq0-clause-found g c =
    let es = c.self.inside.entries.value.items in
    let holds = g.P.Probe.holds_of_step c.self.inside.probe.value in
    let xs = c.as_slice.result.now in
    let all : IsAllHits (step_hit holds es) xs = subst (IsAllHits (step_hit holds es)) (sym (c.as_slice.ensures.value ∙ c.self.invariant))
    (all_hits (step_hit holds es) (length es) (step_hit-inside holds es)) in
    let cut = IsPartitionPoint-from_clause (λ q. nat_lt q c.args.place) xs c.partition_point-below.result c.partition_point-below.ensures.partitioned
    (IsPartitionedBy-ltb (λ q. q) xs c.args.place all.rising) (λ a r f k. search (rules, of_calls)) in
    rw (← c.self.view_is) (sym (none_before _ _ (step_hit-inside holds es) xs all c.partition_point-below.result c.args.place cut c.if-below-eq0.true))

-- the last hit before the split
found : (g : given.Over) (c : goal.After-row_known-1 g)
    → (last_below (step_hit (g.P.Probe.holds_of_step c.self.inside.probe.value) c.self.inside.entries.value.items) c.args.place ≡ Some c.index.result.now)
    × (0 < c.index.result.now) × (c.index.result.now < c.args.place) × (c.index.result.now ≤ length c.self.inside.entries.value.items)
found g c =
    let es = c.self.inside.entries.value.items in
    let holds = g.P.Probe.holds_of_step c.self.inside.probe.value in
    let xs = c.as_slice.result.now in
    let all : IsAllHits (step_hit holds es) xs = subst (IsAllHits (step_hit holds es)) (sym (c.as_slice.ensures.value ∙ c.self.invariant))
    (all_hits (step_hit holds es) (length es) (step_hit-inside holds es)) in
    let cut = IsPartitionPoint-from_clause (λ q. nat_lt q c.args.place) xs c.partition_point-below.result c.partition_point-below.ensures.partitioned
    (IsPartitionedBy-ltb (λ q. q) xs c.args.place all.rising) (λ a r f k. search (rules, of_calls)) in
    before_cut _ _ (step_hit-inside holds es) xs all c.partition_point-below.result c.args.place cut
    c.index.result.now c.if-below-eq0.false c.partition_point-below.ensures.bound (rw (← c.as_slice.ensures.value) at c.index.ensures)

pub returns-clause-found : goal.returns-clause-found
returns-clause-found g c = rw (← c.self.view_is) (sym (found g c).0)

pub returns-clause-below : goal.returns-clause-below
returns-clause-below g c =
    let f = found g c in
    rw (← c.self.view_is) (f.1, f.2, f.3)
