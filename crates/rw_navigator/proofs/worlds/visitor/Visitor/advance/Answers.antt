use Rattle.std.proofs.Common.{◌≡◌, ◌<◌, ◌+◌, ◌∙◌, ap, get_or, length, refl, subst, sym}
use Rattle.rw_journal.specs.Run.{Run}
use Rattle.rw_world.specs.Channel.{no_channel}
use Rattle.rw_world.specs.Machines.{of_chan, of_world}
use Rattle.rw_world.specs.RowLaws.{row_laws}
use Rattle.rw_world.proofs.Documenting.{chan_laws}
use Rattle.rw_navigator.specs.Debugger.{visit_of}
use Rattle.rw_navigator.proofs.Debugging.{still, went}
use Rattle.rw_navigator.proofs.Visits.{advanced, room_at}
use Rattle.rw_navigator.proofs.worlds.visitor.Visitor.advance.Goals as goal

pub bounds-entries-place : goal.bounds-entries-place
bounds-entries-place g c =
    let v = c.self.inside in
    let more : v.place < length v.run.value.entries = rw (← c.self.view_is) at c.requires.more in
    let same = rw (← c.self.view_is) at c.requires.same in
    let lent : c.entries.result.now ≡ v.run.value.entries = c.entries.ensures.entries ∙ ap (λ (r : Run g.row.V.Denot). r.entries) same in
    subst (λ es. v.place < length es) (sym lent) more

pub apply-requires : goal.apply-requires
apply-requires g c =
    let v = c.self.inside in
    let more : v.place < length v.run.value.entries = rw (← c.self.view_is) at c.requires.more in
    room_at of_world (visit_of v.run.value.entries v.machine v.place) c.self.invariant.visits more

pub invariant_of-self : goal.invariant_of-self
invariant_of-self g c =
    let v = c.self.inside in
    let es = v.run.value.entries in
    let e = c.index-entries-place.result in
    let more : v.place < length es = rw (← c.self.view_is) at c.requires.more in
    let same = rw (← c.self.view_is) at c.requires.same in
    let lent : c.entries.result.now ≡ es = c.entries.ensures.entries ∙ ap (λ (r : Run g.row.V.Denot). r.entries) same in
    let read : e ≡ get_or es v.place e = c.index-entries-place.is ∙ ap (λ us. get_or us v.place e) lent in
    let moved = advanced of_world (row_laws of_chan no_channel chan_laws) v.machine es e v.place (v.place + 1) refl read more c.apply.new.self
    c.self.invariant.visits c.apply.ensures.view c.apply.ensures.turns c.apply.ensures.room in
    record { visits = moved.0; debugs = still v.run.value.specs _ _ c.self.invariant.debugs _ _ moved.1 }

pub returns : goal.returns
returns g c =
    let v = c.self.inside in
    let es = v.run.value.entries in
    let e = c.index-entries-place.result in
    let more : v.place < length es = rw (← c.self.view_is) at c.requires.more in
    let same = rw (← c.self.view_is) at c.requires.same in
    let lent : c.entries.result.now ≡ es = c.entries.ensures.entries ∙ ap (λ (r : Run g.row.V.Denot). r.entries) same in
    let read : e ≡ get_or es v.place e = c.index-entries-place.is ∙ ap (λ us. get_or us v.place e) lent in
    let moved = advanced of_world (row_laws of_chan no_channel chan_laws) v.machine es e v.place (v.place + 1) refl read more c.apply.new.self
    c.self.invariant.visits c.apply.ensures.view c.apply.ensures.turns c.apply.ensures.room in
    rw (← c.self.view_is) (went v.run.value.specs _ _ c.self.invariant.debugs _ _ moved.1)
