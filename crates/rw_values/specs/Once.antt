-- Each value leaves a store once.
use Rattle.std.specs.Prelude.{◌≡◌, ◌++◌}
use Rattle.std.specs.Option.{option_to_list}
use Rattle.rw_values.specs.declared.values.Kept.{Kept}
use Rattle.rw_values.specs.Stored.{IsAwaited, IsKept, given, one_less}

-- with one receiver less a value is given back or kept, and never both
abbrev pub GivesOrKeeps : Type 0 → Type 0
GivesOrKeeps V = (k : Kept V) → option_to_list (given k) ++ option_to_list (one_less k).value ≡ option_to_list k.value

-- it is kept as long as somebody has yet to receive it, and no longer
abbrev pub KeepsWhatIsAwaited : Type 0 → Type 0
KeepsWhatIsAwaited V = (k : Kept V) → IsKept k → IsAwaited k → IsKept (one_less k)
