use Rattle.std.proofs.Common.{◌∙◌, ap, sym, Some}
use Rattle.std.specs.Option.{option_copied_mut}
use Rattle.rw_waiting.specs.Queue.{entries_of, with_other}
use Rattle.rw_waiting.proofs.Numbered.{found, replaced}
use Rattle.rw_waiting.proofs.queue.Queue.replace.Goals as goal
use Rattle.rw_waiting.proofs.queue.Queue.replace.Goals.{in-Some, in-None}

pub returns-clause-replaced : goal.returns-clause-replaced
returns-clause-replaced g c =
    rw (← c.self.view_is) (elim c.match-get_mut.branch [
      | in-Some w ↦ rw w.result-is (
          sym (found c.args.number c.self.inside.items.entries) ∙ sym c.get_mut.ensures.value
          ∙ ap option_copied_mut w.in-Some.is ∙ ap Some (sym w.replace.ensures.value)
          )
      | in-None w ↦ rw w.result-is tt
    ])

pub returns-clause-other : goal.returns-clause-other
returns-clause-other g c =
    rw (← c.self.view_is) (elim c.match-get_mut.branch [
      | in-Some w ↦ rw w.result-is (rw w.self-inside-is (
          ap (λ ks. record { items = ks; next = c.self.inside.next })
          (ap entries_of (c.get_mut.follows.holds w.replace.new.dest).0 ∙ replaced c.args.number c.self.inside.items.entries w.replace.new.dest)
          ∙ ap (λ x. with_other (record { items = entries_of c.self.inside.items.entries; next = c.self.inside.next }) c.args.number x) w.replace.ensures.after
          ))
      | in-None w ↦ rw w.result-is tt
    ])

pub returns-clause-absent : goal.returns-clause-absent
returns-clause-absent g c =
    rw (← c.self.view_is) (elim c.match-get_mut.branch [
      | in-Some w ↦ rw w.result-is tt
      | in-None w ↦ rw w.result-is (sym (found c.args.number c.self.inside.items.entries) ∙ sym c.get_mut.ensures.value ∙ ap option_copied_mut w.in-None.is)
    ])
