use Rattle.std.proofs.Common.{rules, of_calls, ◌≡◌, ◌<◌, ◌≤◌, ◌∙◌, Some, length, sym, subst, arith}
use Rattle.std.specs.Prelude.{nat_le}
use Rattle.std.proofs.lemmas.List.Sorted.{IsPartitionPoint-from_clause, IsPartitionedBy-leb}
use Rattle.rw_navigator.specs.Search.{step_hit, first_above}
use Rattle.rw_navigator.proofs.Indexing.{IsAllHits, all_hits, behind_cut, none_behind}
use Rattle.rw_navigator.proofs.Searches.{step_hit-inside}
use Rattle.rw_navigator.proofs.hit_index.HitIndex.after.Given as given
use Rattle.rw_navigator.proofs.hit_index.HitIndex.after.Goals as goal

pub returns-then-passed-len-clause-found : goal.returns-then-passed-len-clause-found
returns-then-passed-len-clause-found g c =
    let es = c.self.inside.entries.value.items in
    let holds = g.P.Probe.holds_of_step c.self.inside.probe.value in
    let xs = c.as_slice.result.now in
    let all : IsAllHits (step_hit holds es) xs = subst (IsAllHits (step_hit holds es)) (sym (c.as_slice.ensures.value ∙ c.self.invariant))
    (all_hits (step_hit holds es) (length es) (step_hit-inside holds es)) in
    let cut = IsPartitionPoint-from_clause (λ q. nat_le q c.args.place) xs c.partition_point-passed.result c.partition_point-passed.ensures.partitioned
    (IsPartitionedBy-leb (λ q. q) xs c.args.place all.rising) (λ a r f k. search (rules, of_calls)) in
    rw (← c.self.view_is)
    (sym (none_behind _ _ (step_hit-inside holds es) xs all c.partition_point-passed.result c.args.place cut
    (omega (arith, c.if-passed-len.true, c.len.ensures, c.as_slice.ensures.len))))

-- the first hit after the split
found : (g : given.Over) (c : goal.After-row_known-1 g)
    → (first_above (step_hit (g.P.Probe.holds_of_step c.self.inside.probe.value) c.self.inside.entries.value.items) c.args.place
    (length c.self.inside.entries.value.items) ≡ Some c.index.result.now)
    × (c.args.place < c.index.result.now) × (c.index.result.now ≤ length c.self.inside.entries.value.items)
found g c =
    let es = c.self.inside.entries.value.items in
    let holds = g.P.Probe.holds_of_step c.self.inside.probe.value in
    let xs = c.as_slice.result.now in
    let all : IsAllHits (step_hit holds es) xs = subst (IsAllHits (step_hit holds es)) (sym (c.as_slice.ensures.value ∙ c.self.invariant))
    (all_hits (step_hit holds es) (length es) (step_hit-inside holds es)) in
    let cut = IsPartitionPoint-from_clause (λ q. nat_le q c.args.place) xs c.partition_point-passed.result c.partition_point-passed.ensures.partitioned
    (IsPartitionedBy-leb (λ q. q) xs c.args.place all.rising) (λ a r f k. search (rules, of_calls)) in
    behind_cut _ _ (step_hit-inside holds es) xs all c.partition_point-passed.result c.args.place cut
    c.index.result.now (omega (arith, c.partition_point-passed.ensures.bound, c.if-passed-len.false, c.len.ensures, c.as_slice.ensures.len))
    (rw (← c.as_slice.ensures.value) at c.index.ensures)

pub returns-clause-found : goal.returns-clause-found
returns-clause-found g c = rw (← c.self.view_is) (sym (found g c).0)

pub returns-clause-above : goal.returns-clause-above
returns-clause-above g c =
    let f = found g c in
    rw (← c.self.view_is) (f.1, f.2)
