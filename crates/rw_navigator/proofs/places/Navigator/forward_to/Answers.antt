use Rattle.std.proofs.Common.{◌≡◌, ◌≤◌, ℕ, ◌-◌, length, true, false, Option, Some, None, ◌∙◌, sym, subst, arith}
use Rattle.std.specs.Prelude.{unwrap_or}
use Rattle.rw_navigator.specs.Moves.{distance_between}
use Rattle.rw_navigator.specs.Navigator.{MovedTo}
use Rattle.rw_navigator.specs.Search.{hit, first_above, most_above}
use Rattle.rw_navigator.proofs.places.Navigator.forward_to.Goals as goal

-- the distance to what was found, 0 if nothing was, is within the most calls
way_within : (place len : ℕ) (found : Option ℕ) → unwrap_or found place - place ≤ most_above place len found
way_within place len None = omega arith
way_within place len (Some q) = omega arith

pub returns-then-on_step-clause-found : goal.returns-then-on_step-clause-found
returns-then-on_step-clause-found g c f tests =
    let m = g.R.Reversible in
    let o = c.args.self.now in
    let step = g.P.Probe.holds_of_step c.args.probe.now in
    let asks : g.P.Probe.asks_step c.args.probe.now ≡ true = sym c.on_step.ensures ∙ c.if-on_step.true in
    subst (λ b. c.forward_to_step.result ≡ first_above (hit m b step f o) o.place (length o.entries)) (sym asks) c.forward_to_step.ensures.found

pub returns-then-on_step-clause-moved : goal.returns-then-on_step-clause-moved
returns-then-on_step-clause-moved g c =
    let o = c.args.self.now in
    (_, way_within o.place (length o.entries) c.forward_to_step.result, c.forward_to_step.ensures.moved)

pub returns-then-on_step-clause-above : goal.returns-then-on_step-clause-above
returns-then-on_step-clause-above g c = c.forward_to_step.ensures.above

pub returns-then-on_step-clause-found_step : goal.returns-then-on_step-clause-found_step
returns-then-on_step-clause-found_step g c asks = c.forward_to_step.ensures.found

pub returns-then-on_step-clause-moved_step : goal.returns-then-on_step-clause-moved_step
returns-then-on_step-clause-moved_step g c asks =
    let o = c.args.self.now in
    let place : ℕ = unwrap_or c.forward_to_step.result o.place in
    let way : place - o.place ≡ distance_between o.place place = omega (arith, c.forward_to_step.ensures.no_nearer) in
    subst (λ n. MovedTo g.R.Reversible o c.forward_to_step.new.self place n) way c.forward_to_step.ensures.moved

pub returns-else-on_step-clause-found : goal.returns-else-on_step-clause-found
returns-else-on_step-clause-found g c f tests =
    let m = g.R.Reversible in
    let o = c.args.self.now in
    let step = g.P.Probe.holds_of_step c.args.probe.now in
    let asks : g.P.Probe.asks_step c.args.probe.now ≡ false = sym c.on_step.ensures ∙ c.if-on_step.false in
    subst (λ b. c.forward_to_state.result ≡ first_above (hit m b step f o) o.place (length o.entries)) (sym asks) (c.forward_to_state.ensures.found f tests)

pub returns-else-on_step-clause-moved : goal.returns-else-on_step-clause-moved
returns-else-on_step-clause-moved g c = c.forward_to_state.ensures.moved

pub returns-else-on_step-clause-above : goal.returns-else-on_step-clause-above
returns-else-on_step-clause-above g c = c.forward_to_state.ensures.above
