-- How much a lead needs at most, and why there is none.
use Rattle.std.proofs.Common.{◌≡◌, ℕ, zero, suc, ◌+◌, ◌<◌, ◌≤◌, max, cond, List, [], ◌∷◌, ◌++◌, length, length-append, take, get_or}
use Rattle.std.proofs.Common.{refl, ap, sym, ◌∙◌, subst, arith, inl, inr}
use Rattle.std.specs.Prelude.{◌⊎◌, slice_get}
use Rattle.std.proofs.lemmas.Bool.{cases_lt}
use Rattle.std.proofs.lemmas.List.{get_or_default}
use Rattle.std.proofs.lemmas.List.Elements.{All-push}
use Rattle.rw_law.specs.Journal.{after_all}
use Rattle.rw_broadcast.specs.Arithmetic.{oldest}
use Rattle.rw_broadcast.specs.Dozing.{changed, dozing, dozing_slot}
use Rattle.rw_broadcast.specs.Shown.{Shown}
use Rattle.rw_world.specs.declared.channels.ChanCall.{ChanCall}
use Rattle.rw_world.specs.Kinds.{broadcast_shown, watch_shown}
use Rattle.rw_world.specs.Machines.{ChanShown, handles_made, of_chan}
use Rattle.rw_world.specs.Specified.{ChanEntry}
use Rattle.rw_journal.specs.Book.{last_stamp}
use Rattle.rw_journal.specs.Ledger.{made_entry}
use Rattle.rw_journal.specs.StoredCalls.{call_of}
use Rattle.rw_journal.proofs.Books.{last_stamp-push}
use Rattle.rw_recording.specs.declared.faults.WindowFault.{WindowFault}
use Rattle.rw_recording.specs.declared.faults.WindowFault.TheVariants.{NoMemory, TooLong, OutOfOrder, Dropped, Unlike}
use Rattle.rw_recording.specs.Calls.{after_call, entry_of}
use Rattle.rw_recording.specs.Kept.{entries_from, Kept}
use Rattle.rw_recording.specs.Leading.{AreBy, IsLeading, Leading}
use Rattle.rw_recording.specs.NoLeads.{live_in, retained_in, AreTooMany, AsksFor, HasNoLead, IsMostOf, IsUnled, MaySend}
use Rattle.rw_recording.specs.Recordings.{RecordedCall, Recording}
use Rattle.rw_recording.specs.Windows.{all_dozing, dozed}
use Rattle.rw_recording.proofs.Stopped.{entry_at}

-- ---- how many values it sends

module _ (x : ChanShown ℕ) (ns : List RecordedCall) where
  pub one_more_asking : (i old r new : ℕ) (d : RecordedCall) (c : ChanCall ℕ) → i < length ns → c ≡ call_of (get_or ns i d).call
      → IsMostOf x ns i old → (r ≡ 0) ⊎ AsksFor x r c → new ≡ max old r → IsMostOf x ns (i + 1) new
  one_more_asking i old r new d c within is so_far here then = by_order (cases_lt old r) here so_far where
    by_order : (old < r) ⊎ (r ≤ old) → (r ≡ 0) ⊎ AsksFor x r c → IsMostOf x ns i old → IsMostOf x ns (i + 1) new
    by_order (inl more) (inl none) old_is = absurd (omega (arith, more, none))
    by_order (inl more) (inr asks) old_is =
        let same : r ≡ new = omega (arith, more, then) in
        inr (
          i,
          omega arith,
          λ e.
              subst (λ k. AsksFor x k (call_of (get_or ns i e).call)) same
              (subst (AsksFor x r) (is ∙ ap (λ n. call_of n.call) (get_or_default ns i d e within)) asks),
        )
    by_order (inr less) h (inl low) = inl (omega (arith, less, then, low))
    by_order (inr less) h (inr far) =
        let same : old ≡ new = omega (arith, less, then) in
        inr (far.0, omega (arith, far.1), λ e. subst (λ k. AsksFor x k (call_of (get_or ns far.0 e).call)) same (far.2 e))

  pub most_from : (k : Kept) (n : ℕ) → x ≡ k.before → entries_from x ns ≡ k.entries → IsMostOf x ns (length ns) n → MaySend k n
  most_from k n before entries (inl low) = inl (subst (λ y. n ≤ retained_in y + 1) before low)
  most_from k n before entries (inr far) = at_call ns refl where
    at_call : (ks : List RecordedCall) → ks ≡ ns → MaySend k n
    at_call [] is = absurd (omega (arith, far.1, ap length is))
    at_call (d ∷ ks) is =
        let e : ChanEntry ℕ = made_entry of_chan call_of (after_all of_chan x (entries_from x (take far.0 ns))) (get_or ns far.0 d) in
        inr (far.0, e, ap (λ es. slice_get es far.0) (sym entries) ∙ entry_at x ns far.0 d far.1, subst (λ y. AsksFor y n e.call) before (far.2 d))

-- ---- a call of a lead

pub led_on : (r s : Recording) (actor clock : ℕ) (c : ChanCall ℕ) → IsLeading r actor clock → s ≡ after_call r actor clock c → IsLeading s actor clock
led_on r s actor clock c old is =
    let e : ChanEntry ℕ = entry_of r actor clock c in
    let all : List (ChanEntry ℕ) = r.journal ++ e ∷ [] in
    let by : AreBy actor clock all = All-push (λ f. (f.actor ≡ actor) × (clock < f.stamp)) r.journal e old.by (refl, omega arith) in
    let stamps : last_stamp all ≤ clock + length all = omega
    (arith, last_stamp-push 0 r.journal e, length-append r.journal (e ∷ []), old.stamps) in
    subst (λ z. IsLeading z actor clock) (sym is) (record {
      recorded = old.recorded;
      few = old.few;
      by = subst (λ b. AreBy actor clock (cond b all r.journal)) (sym old.recorded) by;
      stamps = subst (λ b. last_stamp (cond b all r.journal) ≤ clock + length (cond b all r.journal)) (sym old.recorded) stamps;
    })

-- ---- why there is none

pub no_lead : (k : Kept) (clock values handles : ℕ) (l : Leading) (fault : WindowFault) → MaySend k values → handles ≤ live_in k.before + 2
    → l.clock ≡ clock → l.most ≡ values + handles → IsUnled l fault → HasNoLead k clock fault
no_lead k clock values handles l TooLong sends few same most why = inr (values, sends, by_case why) where
  by_case : AreTooMany l.clock l.most → AreTooMany clock (values + live_in k.before + 2)
  by_case (inl many) = inl (omega (arith, many, few, most))
  by_case (inr great) = inr (omega (arith, great, few, most, same))
no_lead k clock values handles l OutOfOrder sends few same most why = why
no_lead k clock values handles l Dropped sends few same most why = why
no_lead k clock values handles l NoMemory sends few same most why = tt
no_lead k clock values handles l Unlike sends few same most why = tt

-- ---- how many numbers it needs

length_changed : {A : Type 0} (h : ℕ) (f : A → A) (xs : List A) → length (changed h f xs) ≡ length xs
length_changed h f [] = refl
length_changed zero f (x ∷ xs) = refl
length_changed (suc h) f (x ∷ xs) = ap suc (length_changed h f xs)

made_dozing : (hs : List ℕ) (x : Shown ℕ) → length (all_dozing hs x).slots ≡ length x.slots
made_dozing [] x = refl
made_dozing (h ∷ hs) x = made_dozing hs (dozing h x) ∙ length_changed h (dozing_slot (oldest x.sent x.capacity)) x.slots

pub made_dozed : (hs : List ℕ) (x : ChanShown ℕ) → handles_made (dozed hs x) ≡ handles_made x
made_dozed hs (broadcast_shown x) = made_dozing hs x
made_dozed hs (watch_shown y) = refl
