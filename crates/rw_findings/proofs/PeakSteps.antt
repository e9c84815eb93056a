-- One call of a channel: what is measured of a receiver falls only by a call that names it.
use Rattle.std.proofs.Common.{◌≡◌, ◌≢◌, ℕ, ◌-◌, ◌≤◌, true, false, cond, List, inl, inr, refl, ap, sym, subst, arith}
use Rattle.std.specs.Prelude.{All, Option, Some, None, not, ◌==◌, option_map, slice_get, unwrap_or}
use Rattle.std.proofs.lemmas.Bool.{cases_order}
use Rattle.std.proofs.lemmas.Bool.Decides.{nat_tests}
use Rattle.std.proofs.lemmas.List.Elements.{All-get_or}
use Rattle.std.proofs.lemmas.Option.{get_or_from_slice_get, slice_get_within}
use Rattle.rw_handles.specs.declared.kinds.Kind.TheVariants.{Sender, Receiver, Weak}
use Rattle.rw_handles.specs.declared.kinds.Slot.{Slot}
use Rattle.rw_handles.specs.declared.kinds.Slot.TheVariants.{Live, Spent}
use Rattle.rw_broadcast.specs.Channel as b
use Rattle.rw_broadcast.specs.Machine.{position_at}
use Rattle.rw_broadcast.specs.Shown as bs
use Rattle.rw_watch.specs.Channel as w
use Rattle.rw_watch.specs.Machine.{is_seen_at}
use Rattle.rw_watch.specs.Shown as ws
use Rattle.rw_world.specs.Kinds.{broadcast_shown, watch_shown}
use Rattle.rw_world.specs.Machines.{ChanShown, of_chan}
use Rattle.rw_world.specs.declared.channels.ChanCall.{ChanCall}
use Rattle.rw_world.specs.declared.channels.ChanCall.TheVariants as call_of
use Rattle.rw_navigator.specs.Conditions.{has}
use Rattle.rw_findings.specs.Peaks.{measured_of}
use Rattle.rw_world.specs.Channel.{handle_of}
use Rattle.rw_findings.specs.declared.peaks.measure.Measure.{Measure}
use Rattle.rw_findings.specs.declared.peaks.measure.Measure.TheVariants.{Lag, Unread, Unseen}
use Rattle.rw_findings.proofs.HandleSteps.{Grows, GrowsMarked, IsKept, grows, grows_marked, own, own_mark}

all_at : {X : Type 0} (P : X → Type 0) (xs : List X) (i : ℕ) (x : X) → All P xs → slice_get xs i ≡ Some x → P x
all_at P xs i x all here = subst P (get_or_from_slice_get xs i x x here) (All-get_or P xs i x (slice_get_within xs i x here) all)

abbrev level : (ℕ → ℕ) → Option (Slot ℕ) → ℕ
level f o = unwrap_or (option_map f (position_at o)) 0

level_at : (f f' : ℕ → ℕ) (o : Option ℕ) → ((p : ℕ) → f p ≤ f' p) → unwrap_or (option_map f o) 0 ≤ unwrap_or (option_map f' o) 0
level_at f f' None more = omega arith
level_at f f' (Some p) more = more p

level_kept : (f f' : ℕ → ℕ) (o o' : Option (Slot ℕ)) → ((p : ℕ) → f p ≤ f' p) → IsKept o o' → level f o ≤ level f' o'
level_kept f f' o o' more (inl none) = let nothing : level f o ≡ 0 = ap (level f) none in omega (arith, nothing)
level_kept f f' o o' more (inr same) = subst (λ k. level f o ≤ level f' k) (sym same) (level_at f f' (position_at o) more)

abbrev unseen : (version : ℕ) → Option (Slot (Option ℕ)) → ℕ
unseen version o = cond (has not (is_seen_at version o)) 1 0

-- what was not seen before is not seen after later versions
later_unseen : (mark before after : ℕ) → mark ≤ before → before ≤ after
    → unseen before (Some (Live Receiver (Some mark))) ≤ unseen after (Some (Live Receiver (Some mark)))
later_unseen mark before after small later =
    elim (cases_order mark before) [
      | inl same ↦ let seen : (mark == before) ≡ true = grind (arith, nat_tests) in
          let none : unseen before (Some (Live Receiver (Some mark))) ≡ 0 = ap (λ k. cond {A = ℕ} (not (not (not k))) 1 0) seen in
          omega (arith, none)
      | inr (inl below) ↦ let first : (mark == before) ≡ false = grind (arith, nat_tests) in
          let second : (mark == after) ≡ false = grind (arith, nat_tests) in
          let one : unseen before (Some (Live Receiver (Some mark))) ≡ 1 = ap (λ k. cond {A = ℕ} (not (not (not k))) 1 0) first in
          let other : unseen after (Some (Live Receiver (Some mark))) ≡ 1 = ap (λ k. cond {A = ℕ} (not (not (not k))) 1 0) second in
          omega (arith, one, other)
      | inr (inr above) ↦ absurd (omega (arith, small, above))
    ]

unseen_later : (before after : ℕ) (o : Option (Slot (Option ℕ))) → ((s : Slot (Option ℕ)) → o ≡ Some s → ws.IsMarked before s) → before ≤ after
    → unseen before o ≤ unseen after o
unseen_later before after None marked later = omega arith
unseen_later before after (Some Spent) marked later = omega arith
unseen_later before after (Some (Live Sender mark)) marked later = omega arith
unseen_later before after (Some (Live Weak mark)) marked later = omega arith
unseen_later before after (Some (Live Receiver None)) marked later = omega arith
unseen_later before after (Some (Live Receiver (Some mark))) marked later = later_unseen mark before after (marked (Live Receiver (Some mark)) refl) later

unseen_kept : (before after : ℕ) (o o' : Option (Slot (Option ℕ))) → ((s : Slot (Option ℕ)) → o ≡ Some s → ws.IsMarked before s) → before ≤ after → IsKept o o'
    → unseen before o ≤ unseen after o'
unseen_kept before after o o' marked later (inl none) = let nothing : unseen before o ≡ 0 = ap (unseen before) none in omega (arith, nothing)
unseen_kept before after o o' marked later (inr same) = subst (λ k. unseen before o ≤ unseen after k) (sym same) (unseen_later before after o marked later)

module _ {V : Type 0} where
  -- ---- a broadcast

  broadcast_kept : (measure : Measure) (x y : bs.Shown V) (g : ℕ) → Grows x y g
      → measured_of measure (broadcast_shown x) g ≤ measured_of measure (broadcast_shown y) g
  broadcast_kept Lag x y g more = level_kept (λ p. x.sent - x.capacity - p) (λ p. y.sent - y.capacity - p) (slice_get x.slots g) (slice_get y.slots g)
      (λ p. omega (arith, more.0, more.1)) more.2
  broadcast_kept Unread x y g more = level_kept (λ p. x.sent - p) (λ p. y.sent - p) (slice_get x.slots g) (slice_get y.slots g) (λ p. omega (arith, more.0))
      more.2
  broadcast_kept Unseen x y g more = omega arith

  -- ---- a watch

  watch_kept : (measure : Measure) (x y : ws.Shown V) (g : ℕ) → ws.IsAllowed x → GrowsMarked x y g
      → measured_of measure (watch_shown x) g ≤ measured_of measure (watch_shown y) g
  watch_kept Lag x y g ok more = omega arith
  watch_kept Unread x y g ok more = omega arith
  watch_kept Unseen x y g ok more = unseen_kept x.version y.version (slice_get x.slots g) (slice_get y.slots g)
      (λ s here. all_at (ws.IsMarked x.version) x.slots g s ok.marked here) more.0 more.1

  -- ---- a channel of either kind

  pub kept : (measure : Measure) (x : ChanShown V) (call : ChanCall V) (g : ℕ) → (of_chan {V = V}).allowed x → g ≢ handle_of call
      → measured_of measure x g ≤ measured_of measure ((of_chan {V = V}).next x call) g
  kept measure (broadcast_shown x) (call_of.B call) g ok apart =
      broadcast_kept measure x (bs.next x call) g (grows x (b.effect (bs.channel_of x) call).0 (b.handle_of call) g (own (bs.channel_of x) call) apart)
  kept measure (broadcast_shown x) (call_of.W call) g ok apart = omega arith
  kept measure (watch_shown x) (call_of.B call) g ok apart = omega arith
  kept measure (watch_shown x) (call_of.W call) g ok apart =
      watch_kept measure x (ws.next x call) g ok (grows_marked x (w.effect x call).0 (w.handle_of call) g (own_mark x call) apart)
