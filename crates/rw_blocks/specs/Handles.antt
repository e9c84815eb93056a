-- The lines that list a channel's live handles of a kind.
use Rattle.std.specs.Prelude.{ℕ, List, [], ◌++◌, length, Option, None, Some, codes, slice_get, ◌==◌, if◌then◌else◌}
use Rattle.std.specs.List.{flat_map, range_with_len}
use Rattle.rw_handles.specs.declared.kinds.Kind.{Kind}
use Rattle.rw_handles.specs.declared.kinds.Kind.TheVariants.{Sender, Weak}
use Rattle.rw_handles.specs.declared.kinds.Slot.{Slot}
use Rattle.rw_handles.specs.Slots.{alive, kind_at, same_kind}
use Rattle.rw_blocks.specs.Labels.{with_number}

-- handle h, if it is alive and of this kind
abbrev pub handle_word : Kind → ℕ → Option Kind → List ℕ
handle_word kind h None = []
handle_word kind h (Some own) = if same_kind kind own then with_number (codes " ") h else []

module _ {X : Type 0} where
  -- the live handles of this kind among the first n, in order of number
  unfoldable pub handle_words : Kind → List (Slot X) → ℕ → List ℕ
  handle_words kind slots n = flat_map (λ h. handle_word kind h (kind_at (slice_get slots h))) (range_with_len 0 n)

  -- a line of a word and all live handles of this kind
  unfoldable pub handles_line : List ℕ → Kind → List (Slot X) → List ℕ
  handles_line word kind slots = word ++ handle_words kind slots (length slots) ++ codes "\n"

  abbrev pub senders_line : List (Slot X) → List ℕ
  senders_line slots = handles_line (codes "senders") Sender slots

  -- the line for weak senders, only if there are any
  abbrev pub weak_line : List (Slot X) → List ℕ
  weak_line slots = if alive Weak slots == 0 then [] else handles_line (codes "weak") Weak slots
