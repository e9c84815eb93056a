-- Numbers as values.
use Rattle.std.specs.Prelude.{ℕ, ◌<◌, ◌^◌, Some}
use Rattle.rw_law.specs.declared.value.Payload.{Ghosts}

-- a number of 64 bits is a value, and its own word
abbrev pub numbers : Ghosts ℕ
numbers = record { is_value = λ v. v < 2 ^ 64; word_of = λ v. v; value_of = λ w. Some w }
