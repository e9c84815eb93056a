-- The text of a call, and its parts.
use Rattle.std.proofs.Common.{◌≡◌, ℕ, true, List, [], ◌∷◌, ◌++◌, None, ap}
use Rattle.std.proofs.lemmas.List.{append-nil}
use Rattle.rw_lines.specs.Cut.{cut, lacks}
use Rattle.rw_lines.proofs.CutLaws.{cut_joined, cut_lacks}
use Rattle.rw_words.specs.Words.{first_part, rest_of}
use Rattle.rw_script.specs.Fields.{named_call, named_parts, named_in}

-- a word that something follows
pub named_joined : (word text : List ℕ) → lacks 32 word ≡ true
    → named_in (word ++ 32 ∷ text) ≡ named_call word (first_part text (cut 32 text)) (rest_of (cut 32 text))
unfolding named_in
named_joined word text plain = ap (named_parts (word ++ 32 ∷ text)) (cut_joined 32 word text plain)

-- a word that nothing follows
pub named_alone : (word : List ℕ) → lacks 32 word ≡ true → named_in (word ++ []) ≡ record { text = word; target = None; bound = None }
unfolding named_in
named_alone word plain = rw append-nil (ap (named_parts word) (cut_lacks 32 word plain))
