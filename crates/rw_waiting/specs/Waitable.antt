-- A channel that calls wait for, and its laws.
use Rattle.std.specs.Prelude.{◌≡◌, ℕ, Option, Some}
use Rattle.rw_waiting.specs.declared.notices.WaitFor.{WaitFor}

-- V is what the channel shows, and C are its calls
pub record Waitable (V C : Type 0) : Type 1 where
  pub allowed : V → Type 0
  pub next : V → C → V
  -- a call with this handle would wait for this
  pub waits : V → WaitFor → ℕ → Type 0
  -- what the step of a call tells those who wait, if anything
  pub told : V → C → Option WaitFor
  -- the call leaves the handle to the call that waits for this with it
  pub spares : C → WaitFor → ℕ → Type 0
  -- what is shown once the numbers of dropped handles are taken out, and the number that a live handle has then
  pub renumbered : V → V
  pub number_after : V → ℕ → ℕ

pub record WaitLaws {V C : Type 0} (w : Waitable V C) : Type 0 where
  pub next_allowed : (x : V) (c : C) → w.allowed x → w.allowed (w.next x c)
  -- who isn't told still waits
  pub waits_on : (x : V) (c : C) (what : WaitFor) (h : ℕ) → w.allowed x → w.waits x what h → w.spares c what h
      → (w.told x c ≡ Some what → ⊥) → w.waits (w.next x c) what h
  -- who is told no longer waits
  pub waits_no_longer : (x : V) (c : C) (what : WaitFor) (h : ℕ) → w.allowed x → w.waits x what h → w.spares c what h
      → w.told x c ≡ Some what → w.waits (w.next x c) what h → ⊥
  pub renumbered_allowed : (x : V) → w.allowed x → w.allowed (w.renumbered x)
  -- who waits, waits with the new number of the handle
  pub waits_renumbered : (x : V) (what : WaitFor) (h : ℕ) → w.allowed x → w.waits x what h → w.waits (w.renumbered x) what (w.number_after x h)
