use Rattle.std.proofs.Common.{◌∙◌, sym}
use Rattle.rw_script.proofs.NameLaws.{unbound_name, bound_here, bound_elsewhere}
use Rattle.rw_script.proofs.names.Names.number.Goals as goal

pub returns-in_err-number-clause-number : goal.returns-in_err-number-clause-number
returns-in_err-number-clause-number c =
    rw (← c.self.view_is) (c.from_residual.ensures
    ∙ sym (unbound_name (λ k. k.items) (λ x. x.actor) (λ x. x.channel) c.args.name.now c.args.actor c.args.channel c.self.inside.bindings.entries
    (sym c.in_err-number.ensures.index)))

pub returns-then-is_by-clause-number : goal.returns-then-is_by-clause-number
returns-then-is_by-clause-number c =
    rw (← c.self.view_is) (sym (bound_here (λ k. k.items) (λ x. x.actor) (λ x. x.channel) c.args.name.now c.args.actor c.args.channel
    c.self.inside.bindings.entries c.in_ok-number.number _
    (sym c.in_ok-number.ensures.index) c.index.ensures (sym c.if-is_by.ensures)))

pub returns-else-is_by-clause-number : goal.returns-else-is_by-clause-number
returns-else-is_by-clause-number c =
    rw (← c.self.view_is) (sym (bound_elsewhere (λ k. k.items) (λ x. x.actor) (λ x. x.channel) c.args.name.now c.args.actor c.args.channel
    c.self.inside.bindings.entries c.in_ok-number.number _
    c.in_ok-number.ensures.unique (sym c.in_ok-number.ensures.index) c.index.ensures (sym c.if-is_by.ensures)))
