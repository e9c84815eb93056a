use Rattle.std.proofs.Common.{◌≡◌, ◌≤◌, ℕ, ◌-◌, true, false, Option, Some, None, ◌∙◌, sym, subst, arith}
use Rattle.std.specs.Prelude.{unwrap_or}
use Rattle.rw_navigator.specs.Moves.{distance_between}
use Rattle.rw_navigator.specs.Navigator.{MovedTo}
use Rattle.rw_navigator.specs.Search.{hit, last_below, most_below}
use Rattle.rw_navigator.proofs.places.Navigator.back_to.Goals as goal

-- the distance to what was found, 0 if nothing was, is within the most calls
way_within : (place : ℕ) (found : Option ℕ) → place - unwrap_or found place ≤ most_below place found
way_within place None = omega arith
way_within place (Some q) = omega arith

pub returns-then-on_step-clause-found : goal.returns-then-on_step-clause-found
returns-then-on_step-clause-found g c f tests =
    let m = g.R.Reversible in
    let o = c.args.self.now in
    let step = g.P.Probe.holds_of_step c.args.probe.now in
    let asks : g.P.Probe.asks_step c.args.probe.now ≡ true = sym c.on_step.ensures ∙ c.if-on_step.true in
    subst (λ b. c.back_to_step.result ≡ last_below (hit m b step f o) o.place) (sym asks) c.back_to_step.ensures.found

pub returns-then-on_step-clause-moved : goal.returns-then-on_step-clause-moved
returns-then-on_step-clause-moved g c = (_, way_within c.args.self.now.place c.back_to_step.result, c.back_to_step.ensures.moved)

pub returns-then-on_step-clause-below : goal.returns-then-on_step-clause-below
returns-then-on_step-clause-below g c = c.back_to_step.ensures.below

pub returns-then-on_step-clause-found_step : goal.returns-then-on_step-clause-found_step
returns-then-on_step-clause-found_step g c asks = c.back_to_step.ensures.found

pub returns-then-on_step-clause-moved_step : goal.returns-then-on_step-clause-moved_step
returns-then-on_step-clause-moved_step g c asks =
    let o = c.args.self.now in
    let place : ℕ = unwrap_or c.back_to_step.result o.place in
    let way : o.place - place ≡ distance_between o.place place = omega (arith, c.back_to_step.ensures.no_farther) in
    subst (λ n. MovedTo g.R.Reversible o c.back_to_step.new.self place n) way c.back_to_step.ensures.moved

pub returns-else-on_step-clause-found : goal.returns-else-on_step-clause-found
returns-else-on_step-clause-found g c f tests =
    let m = g.R.Reversible in
    let o = c.args.self.now in
    let step = g.P.Probe.holds_of_step c.args.probe.now in
    let asks : g.P.Probe.asks_step c.args.probe.now ≡ false = sym c.on_step.ensures ∙ c.if-on_step.false in
    subst (λ b. c.back_to_state.result ≡ last_below (hit m b step f o) o.place) (sym asks) (c.back_to_state.ensures.found f tests)

pub returns-else-on_step-clause-moved : goal.returns-else-on_step-clause-moved
returns-else-on_step-clause-moved g c = c.back_to_state.ensures.moved

pub returns-else-on_step-clause-below : goal.returns-else-on_step-clause-below
returns-else-on_step-clause-below g c = c.back_to_state.ensures.below
