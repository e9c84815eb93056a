use Rattle.std.proofs.Common.{◌≡◌, ◌∙◌, ℕ, List, Some, length, map, refl, ap, subst, sym}
use Rattle.std.specs.Prelude.{slice_get}
use Rattle.std.proofs.lemmas.Option.{slice_get_read}
use Rattle.rw_world.specs.declared.opening.Spec.{Spec}
use Rattle.rw_world.specs.Openings.{spec_kind}
use Rattle.rw_script.proofs.WellFormedLaws.{kind_there}
use Rattle.rw_script.proofs.reader.ScriptReader.kind_for.Goals as goal

pub returns-in-Some-clause-channel : goal.returns-in-Some-clause-channel
returns-in-Some-clause-channel c =
    let found = c.in-Some.ensures.lookup in
    let specs = c.deref.result.now in
    let there = kind_there specs c.args.channel _ (slice_get_read specs (length specs) c.args.channel _ refl found.3.0 found.1)
    ∙ ap Some (sym c.kind.ensures) in
    subst (λ (xs : List (Spec ℕ)). slice_get (map spec_kind xs) c.args.channel ≡ Some c.kind.result) (c.deref.ensures.value ∙ ap (λ r. r.specs) c.self.view_is)
    there
