-- Who waits for a channel, where there is a list.
use Rattle.std.specs.Prelude.{Box, Bool, not, ◌&&◌, ◌==◌, length, Option, Some, None}
use Rattle.rw_waiting.specs.declared.notices.WaitFor.{WaitFor}
use Rattle.rw_waiting.specs.Listed.{Listed, nobody, woken}

-- where there is no list, nobody waits
abbrev pub listed_in : {W Z : Type 0} → Option (Box (Listed W) Z) → Listed W
listed_in None = nobody
listed_in (Some list) = list.value

-- no call waits
abbrev pub is_nobody : {W : Type 0} → Listed W → Bool
is_nobody l = (length l.for_value.items == 0) && (length l.for_no_receiver.items == 0)

-- some call waits for what was told
abbrev pub wakes_some : {W : Type 0} → Listed W → Option WaitFor → Bool
wakes_some l told = not (length (woken l told) == 0)
