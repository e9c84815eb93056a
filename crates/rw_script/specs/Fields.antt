-- The fields of a step line, and the names in the text of its call.
use Rattle.std.specs.Prelude.{ℕ, Bool, is_some, if◌then◌else◌, List, ◌∷◌, ◌++◌, Option, None, Some, codes}
use Rattle.std.specs.Str.{bytes_eq}
use Rattle.rw_lines.specs.Cut.{cut}
use Rattle.rw_lines.specs.Numerals.{numeral_in}
use Rattle.rw_lines.specs.Tokens.{is_word, is_name}
use Rattle.rw_words.specs.Arguments.{◌>>=◌, rest_text}
use Rattle.rw_words.specs.Words.{first_part, rest_of}

-- ---- the fields

-- a numeral that a space follows, and the rest
unfoldable pub number_field : List ℕ → Option (ℕ × List ℕ)
number_field text = do
  p ← cut 32 text
  n ← numeral_in p.0
  Some (n, p.1)

abbrev pub begins_with_word : List ℕ → Bool
begins_with_word text = is_word (first_part text (cut 32 text))

-- a step line: an actor's numeral, a channel's numeral, and the text of a call, which begins with a word
unfoldable pub fields_in : List ℕ → Option (ℕ × ℕ × List ℕ)
fields_in line = do
  actor ← number_field line
  channel ← number_field actor.1
  if begins_with_word channel.1 then Some (actor.0, channel.0, channel.1) else None

-- ---- the names

-- the token, if it is a name
abbrev pub name_in : List ℕ → Option (List ℕ)
name_in token = if is_name token then Some token else None

abbrev pub name_behind_as : Option (List ℕ × List ℕ) → Option (List ℕ)
name_behind_as None = None
name_behind_as (Some p) = if bytes_eq p.0 (codes "as") then name_in p.1 else None

-- the name that is bound, if just `as NAME` follows the handle
abbrev pub bound_in : Option (List ℕ) → Option (List ℕ)
bound_in None = None
bound_in (Some more) = name_behind_as (cut 32 more)

-- the text of a call without its names
pub record Named : Type 0 where
  -- with `0` for a name, and without ` as NAME`
  pub text : List ℕ
  -- the name that stands for the handle
  pub target : Option (List ℕ)
  -- the name that is bound
  pub bound : Option (List ℕ)

-- the handle, or `0` where a name stands for it
abbrev pub handle_text : List ℕ → List ℕ
handle_text handle = if is_name handle then codes "0" else handle

-- what follows the handle, without `as NAME`
abbrev pub without_binding : Option (List ℕ) → Option (List ℕ)
without_binding more = if is_some (bound_in more) then None else more

-- from a word, a handle and what follows
abbrev pub named_call : List ℕ → List ℕ → Option (List ℕ) → Named
named_call word handle more = record {
  text = word ++ 32 ∷ (handle_text handle ++ rest_text (without_binding more));
  target = name_in handle;
  bound = bound_in more;
}

abbrev pub named_parts : List ℕ → Option (List ℕ × List ℕ) → Named
named_parts text None = record { text = text; target = None; bound = None }
named_parts text (Some p) = named_call p.0 (first_part p.1 (cut 32 p.1)) (rest_of (cut 32 p.1))

-- the part before the first space is the word, and the part before the next one is the handle
unfoldable pub named_in : List ℕ → Named
named_in text = named_parts text (cut 32 text)
