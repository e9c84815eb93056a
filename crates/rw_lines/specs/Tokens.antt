-- Words and names.
use Rattle.std.specs.Prelude.{ℕ, List, [], ◌∷◌, length, Bool, false, not, ◌==◌, ◌&&◌, ◌||◌, nat_lt, nat_le, codes}
use Rattle.std.specs.Char.{is_ascii_lowercase, is_ascii_digit}
use Rattle.std.specs.List.{list_all}
use Rattle.std.specs.Str.{bytes_eq}

-- a token of a to z and '-'
abbrev pub is_word : List ℕ → Bool
is_word token = nat_lt 0 (length token) && list_all (λ b. is_ascii_lowercase b || b == 45) token

-- a letter a to z, then at most 15 of a to z and 0 to 9; but not "as"
abbrev pub is_name : List ℕ → Bool
is_name [] = false
is_name (b ∷ bs) =
    is_ascii_lowercase b
    && (nat_le (length bs) 15
    && (list_all (λ b. is_ascii_lowercase b || is_ascii_digit b) bs
    && not (bytes_eq (b ∷ bs) (codes "as"))))
