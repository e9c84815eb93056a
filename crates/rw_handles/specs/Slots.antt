-- The handles of a channel, as the list of their slots in the order of making.
-- So its length is the number of handles made, and a dropped handle keeps its number.
use Rattle.std.specs.Prelude.{ℕ, Bool, true, false, cond, List, [], ◌∷◌, Option, Some, None, IsSome, Result, Ok, Err, slice_get, count_by, ⊤}
use Rattle.rw_handles.specs.declared.kinds.Kind.{Kind}
use Rattle.rw_handles.specs.declared.kinds.Kind.TheVariants.{Sender, Receiver, Weak}
use Rattle.rw_handles.specs.declared.kinds.Slot.{Slot}
use Rattle.rw_handles.specs.declared.kinds.Slot.TheVariants.{Live, Spent}
use Rattle.rw_handles.specs.declared.kinds.HandleFault.{HandleFault}
use Rattle.rw_handles.specs.declared.kinds.HandleFault.TheVariants.{Unknown, Gone, WrongKind}
use Rattle.rw_handles.specs.declared.kinds.Found.{Found}
use Rattle.rw_handles.specs.declared.kinds.Found.TheVariants.{Fault, Handle}

abbrev pub same_kind : Kind → Kind → Bool
same_kind Sender Sender = true
same_kind Receiver Receiver = true
same_kind Weak Weak = true
same_kind _ _ = false

-- whether a handle of this kind serves where that kind is wanted; at None any kind serves
abbrev pub serves : Option Kind → Kind → Bool
serves None kind = true
serves (Some wanted) kind = same_kind wanted kind

-- what a lookup finds, from the slot under the number, if there is one
abbrev pub lookup_at : {X : Type 0} → Option Kind → Option (Slot X) → Found X
lookup_at wanted None = Fault Unknown
lookup_at wanted (Some Spent) = Fault Gone
lookup_at wanted (Some (Live kind x)) = cond (serves wanted kind) (Handle kind x) (Fault WrongKind)

-- the handle of this number, where it is alive and of the wanted kind
abbrev pub lookup : {X : Type 0} → Option Kind → List (Slot X) → ℕ → Found X
lookup wanted slots h = lookup_at wanted (slice_get slots h)

-- Ok where a handle was found, or else the fault
abbrev pub look_answer : {X : Type 0} → Found X → Result (Unit {0}) HandleFault
look_answer (Fault fault) = Err fault
look_answer (Handle kind x) = Ok tt

-- the kind of the live handle under a number, if there is one
abbrev pub kind_at : {X : Type 0} → Option (Slot X) → Option Kind
kind_at None = None
kind_at (Some Spent) = None
kind_at (Some (Live kind x)) = Some kind

-- its value
abbrev pub value_at : {X : Type 0} → Option (Slot X) → Option X
value_at None = None
value_at (Some Spent) = None
value_at (Some (Live kind x)) = Some x

-- there is a live handle under the number
abbrev pub IsLive : {X : Type 0} → Option (Slot X) → Type 0
IsLive o = IsSome (value_at o)

-- the value of the live receiver under a number, if there is one
abbrev pub receiver_at : {X : Type 0} → Option (Slot X) → Option X
receiver_at (Some (Live Receiver x)) = Some x
receiver_at _ = None

-- there is a live receiver under the number
abbrev pub IsReceiver : {X : Type 0} → Option (Slot X) → Type 0
IsReceiver (Some (Live Receiver x)) = ⊤
IsReceiver _ = ⊥

-- the handle with another value, and with the same kind
abbrev pub with_value : {X : Type 0} → X → Option (Slot X) → Slot X
with_value x (Some (Live kind old)) = Live kind x
with_value x (Some Spent) = Spent
with_value x None = Spent

-- whether a slot has a live handle of this kind
abbrev pub is_alive : {X : Type 0} → Kind → Slot X → Bool
is_alive kind (Live own x) = same_kind kind own
is_alive kind Spent = false

-- how many handles of this kind are alive
abbrev pub alive : {X : Type 0} → Kind → List (Slot X) → ℕ
alive kind slots = count_by (is_alive kind) slots

-- the values of the live handles of this kind, in order of number
abbrev pub values : {X : Type 0} → Kind → List (Slot X) → List X
values kind [] = []
values kind (Live own x ∷ slots) = cond (same_kind kind own) (x ∷ values kind slots) (values kind slots)
values kind (Spent ∷ slots) = values kind slots
