-- Each value leaves a store once.
use Rattle.std.proofs.Common.{◌≡◌, Bool, true, false, cond, ◌++◌, refl}
use Rattle.std.specs.Prelude.{Option, None}
use Rattle.std.specs.Option.{option_to_list}
use Rattle.std.proofs.lemmas.List.{append-nil}
use Rattle.rw_values.specs.Stored.{is_last}
use Rattle.rw_values.specs.Once.{GivesOrKeeps, KeepsWhatIsAwaited}
use Rattle.rw_values.proofs.Keeping.{less_kept}

by_test : {V : Type 0} (b : Bool) (o : Option V) → option_to_list (cond b o None) ++ option_to_list (cond b None o) ≡ option_to_list o
by_test true o = append-nil (option_to_list o)
by_test false o = refl

pub gives_or_keeps : (V : Type 0) → GivesOrKeeps V
gives_or_keeps V k = by_test (is_last k) k.value

pub keeps_what_is_awaited : (V : Type 0) → KeepsWhatIsAwaited V
keeps_what_is_awaited V k is some = less_kept k is some
