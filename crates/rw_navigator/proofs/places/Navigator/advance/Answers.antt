use Rattle.std.proofs.Common.{◌<◌, ◌+◌, length, refl}
use Rattle.rw_navigator.proofs.Visits.{visit, room_at, advanced}
use Rattle.rw_navigator.proofs.places.Navigator.advance.Goals as goal

pub apply-requires : goal.apply-requires
apply-requires g c =
    let v = c.self.inside in
    let h : v.place < length v.entries.items = rw (← c.self.view_is) at c.requires in
    room_at g.R.Reversible (visit g.R.Reversible v.machine v.entries.items v.place) c.self.invariant h

pub invariant_of-self : goal.invariant_of-self
invariant_of-self g c =
    let v = c.self.inside in
    let h : v.place < length v.entries.items = rw (← c.self.view_is) at c.requires in
    (advanced g.R.Reversible g.met.R.Reversible.laws v.machine v.entries.items c.index-entry.result.now v.place (v.place + 1) refl
    c.index-entry.ensures h c.apply.new.self c.self.invariant c.apply.ensures.view c.apply.ensures.turns c.apply.ensures.room).0

pub returns : goal.returns
returns g c =
    let v = c.self.inside in
    let h : v.place < length v.entries.items = rw (← c.self.view_is) at c.requires in
    rw (← c.self.view_is)
    (advanced g.R.Reversible g.met.R.Reversible.laws v.machine v.entries.items c.index-entry.result.now v.place (v.place + 1) refl
    c.index-entry.ensures h c.apply.new.self c.self.invariant c.apply.ensures.view c.apply.ensures.turns c.apply.ensures.room).1
