-- How many live handles there are of each kind.
use Rattle.std.specs.Prelude.{◌≡◌, ℕ, ◌+◌, cond}
use Rattle.rw_handles.specs.declared.kinds.Kind.{Kind}
use Rattle.rw_handles.specs.declared.kinds.Kind.TheVariants.{Sender, Receiver, Weak}
use Rattle.rw_handles.specs.declared.tally.Tally.{Tally}
use Rattle.rw_handles.specs.Slots.{same_kind}

abbrev pub tally_of : Tally → Kind → ℕ
tally_of t Sender = t.senders
tally_of t Receiver = t.receivers
tally_of t Weak = t.weak

-- many has one handle more of this kind than few, and as many of each other kind
abbrev pub IsOneMore : Kind → Tally → Tally → Type 0
IsOneMore kind few many = (k : Kind) → tally_of many k ≡ tally_of few k + cond (same_kind k kind) 1 0
