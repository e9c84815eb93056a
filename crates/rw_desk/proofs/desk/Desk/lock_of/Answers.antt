use Rattle.std.proofs.Common.{◌≡◌, ◌≤◌, None, Some, length, refl, sym, ◌∙◌, subst}
use Rattle.std.specs.Prelude.{slice_get}
use Rattle.std.proofs.lemmas.Bool.{true≢false}
use Rattle.std.proofs.lemmas.Option.{slice_get-map, slice_get_past, slice_get_read}
use Rattle.rw_desk.proofs.desk.Desk.lock_of.Goals as goal

pub returns-in_err-spec-clause-none : goal.returns-in_err-spec-clause-none
returns-in_err-spec-clause-none g c =
    let specs = c.self.inside.specs.items in
    let none : slice_get specs c.args.channel ≡ None =
    slice_get_past specs c.args.channel (subst (λ ss. length ss ≤ c.args.channel) c.deref.ensures.value c.in_err-spec.ensures.lookup.3) in
    rw (c.from_residual.ensures, ← c.self.view_is, slice_get-map, none) (λ _. refl, λ _. refl)

pub returns-then-is_of_other_kind-clause-none : goal.returns-then-is_of_other_kind-clause-none
returns-then-is_of_other_kind-clause-none g c =
    let read = c.deref.result.now in
    let spec = c.in_ok-spec.spec.now in
    let there : slice_get c.self.inside.specs.items c.args.channel ≡ Some spec =
    subst (λ ss. slice_get ss c.args.channel ≡ Some spec) c.deref.ensures.value
    (slice_get_read read (length read) c.args.channel spec refl c.in_ok-spec.ensures.lookup.3.0 c.in_ok-spec.ensures.lookup.1) in
    rw (← c.self.view_is, slice_get-map, there) (λ _. sym c.if-is_of_other_kind.ensures, λ _. refl)

pub returns-clause-none : goal.returns-clause-none
returns-clause-none g c =
    let read = c.deref.result.now in
    let spec = c.in_ok-spec.spec.now in
    let there : slice_get c.self.inside.specs.items c.args.channel ≡ Some spec =
    subst (λ ss. slice_get ss c.args.channel ≡ Some spec) c.deref.ensures.value
    (slice_get_read read (length read) c.args.channel spec refl c.in_ok-spec.ensures.lookup.3.0 c.in_ok-spec.ensures.lookup.1) in
    rw (← c.self.view_is, slice_get-map, there) (
      λ none. absurd (true≢false none),
      λ strays. absurd (true≢false (sym strays ∙ sym c.if-is_of_other_kind.ensures)),
    )

pub returns-clause-there : goal.returns-clause-there
returns-clause-there g c =
    let read = c.deref.result.now in
    let spec = c.in_ok-spec.spec.now in
    rw (← c.self.view_is) (subst (λ ss. slice_get ss c.args.channel ≡ Some spec) c.deref.ensures.value
    (slice_get_read read (length read) c.args.channel spec refl c.in_ok-spec.ensures.lookup.3.0 c.in_ok-spec.ensures.lookup.1))
