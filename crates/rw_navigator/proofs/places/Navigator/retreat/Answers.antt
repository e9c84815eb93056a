use Rattle.std.proofs.Common.{◌<◌, ◌≤◌, ◌-◌, length, arith}
use Rattle.rw_navigator.proofs.Visits.{fits_back, retreated}
use Rattle.rw_navigator.proofs.places.Navigator.retreat.Goals as goal

pub overflow_sub-self : goal.overflow_sub-self
overflow_sub-self g c =
    let above : 0 < c.self.inside.place = rw (← c.self.view_is) at c.requires in
    omega (arith, above)

pub index-entry-requires : goal.index-entry-requires
index-entry-requires g c =
    let above : 0 < c.self.inside.place = rw (← c.self.view_is) at c.requires in
    omega (arith, above, c.self.invariant.inside, c.self.inside.entries.ok.0)

pub undo-requires : goal.undo-requires
undo-requires g c =
    let v = c.self.inside in
    let above : 0 < v.place = rw (← c.self.view_is) at c.requires in
    let inside : v.place ≤ length v.entries.items = c.self.invariant.inside in
    fits_back g.R.Reversible g.met.R.Reversible.laws v.machine v.entries.items c.index-entry.result.now (v.place - 1) v.place (omega arith)
    c.index-entry.ensures (omega arith) c.self.invariant

pub invariant_of-self : goal.invariant_of-self
invariant_of-self g c =
    let v = c.self.inside in
    let above : 0 < v.place = rw (← c.self.view_is) at c.requires in
    let inside : v.place ≤ length v.entries.items = c.self.invariant.inside in
    (retreated g.R.Reversible g.met.R.Reversible.laws v.machine v.entries.items c.index-entry.result.now (v.place - 1) v.place (omega arith)
    c.index-entry.ensures (omega arith) c.undo.new.self c.self.invariant c.undo.ensures.view c.undo.ensures.turns c.undo.ensures.room).0

pub returns : goal.returns
returns g c =
    let v = c.self.inside in
    let above : 0 < v.place = rw (← c.self.view_is) at c.requires in
    let inside : v.place ≤ length v.entries.items = c.self.invariant.inside in
    rw (← c.self.view_is)
    (retreated g.R.Reversible g.met.R.Reversible.laws v.machine v.entries.items c.index-entry.result.now (v.place - 1) v.place (omega arith)
    c.index-entry.ensures (omega arith) c.undo.new.self c.self.invariant c.undo.ensures.view c.undo.ensures.turns c.undo.ensures.room).1
