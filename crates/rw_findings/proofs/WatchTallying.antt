-- One call of a watch, and what is kept of all its receivers.
use Rattle.std.proofs.Common.{◌≡◌, ◌≢◌, ℕ, zero, suc, ◌+◌, ◌<◌, ◌≤◌, ◌⊎◌, Bool, true, false, cond, List, [], ◌∷◌, ◌++◌}
use Rattle.std.proofs.Common.{length, get_or, set, length-set, inl, inr, refl, ap, sym, ◌∙◌, subst, arith}
use Rattle.std.specs.Prelude.{Option, Some, None, slice_get, option_map, nat_eq}
use Rattle.std.proofs.lemmas.Bool.{cases_order, cases_lt}
use Rattle.std.proofs.lemmas.List.{length_push, get_or_append_left}
use Rattle.std.proofs.lemmas.Option.{slice_get_within}
use Rattle.std.proofs.Math.Seq.{get_or-append_seam}
use Rattle.rw_handles.specs.declared.kinds.Kind.{Kind}
use Rattle.rw_handles.specs.declared.kinds.Kind.TheVariants.{Sender, Receiver, Weak}
use Rattle.rw_handles.specs.declared.kinds.Slot.{Slot}
use Rattle.rw_handles.specs.declared.kinds.Slot.TheVariants.{Live, Spent}
use Rattle.rw_handles.proofs.SlotLaws.{slice_get-set}
use Rattle.rw_watch.specs.declared.calls.WCall.{WCall}
use Rattle.rw_watch.specs.declared.calls.WReply.{WReply}
use Rattle.rw_watch.specs.Channel.{Change, Write, Make, Mark, Leave}
use Rattle.rw_watch.specs.Machine.{mark_at}
use Rattle.rw_watch.specs.Shown.{Shown, with_change}
use Rattle.rw_world.specs.declared.channels.ChanCall.TheVariants as call_of
use Rattle.rw_world.specs.declared.channels.ChanReply.TheVariants as reply_of
use Rattle.rw_findings.specs.Totals.{is_notified, looks}
use Rattle.rw_findings.specs.declared.totals.watch.Watcher.{Watcher}
use Rattle.rw_findings.specs.WatchTallies.{WatchTally, new_watcher, after_look, after_mark, after_update, after_change, after_end}
use Rattle.rw_findings.specs.WatchTallies.{watcher_in, with_watcher, with_call}
use Rattle.rw_findings.proofs.LossSteps.{get-set_other}
use Rattle.rw_findings.proofs.BroadcastTallying.{get_or_past, get_or_push_past, get_or-set_same, get_or-set_apart, same_or_apart, eq_is, eq_not}
use Rattle.rw_findings.proofs.WatchSteps.{IsOther, StepsTo, keeps, writes, makes_receiver, makes_other, peeks, borrows, updates}
use Rattle.rw_findings.proofs.WatchSteps.{marks, changes, unmarks, leaves}
use Rattle.rw_findings.proofs.Sights.{IsNext, Rises}
use Rattle.rw_findings.proofs.Watchers.{Watched, Unwatched, IsWatched, IsIdle, stays_unwatched, rests, is_unmarked, is_looked, is_marked, is_updated}
use Rattle.rw_findings.proofs.Watchers.{is_changed, is_ended, is_made}

pub get-push_other : {A : Type 0} (xs : List A) (i : ℕ) (a : A) → i ≢ length xs → slice_get (xs ++ a ∷ []) i ≡ slice_get xs i
get-push_other [] zero a apart = absurd (apart refl)
get-push_other [] (suc i) a apart = refl
get-push_other (x ∷ xs) zero a apart = refl
get-push_other (x ∷ xs) (suc i) a apart = get-push_other xs i a (λ same. apart (ap suc same))

pub get-push_last : {A : Type 0} (xs : List A) (a : A) → slice_get (xs ++ a ∷ []) (length xs) ≡ Some a
get-push_last [] a = refl
get-push_last (x ∷ xs) a = get-push_last xs a

-- a list with what it has already
set_same : {A : Type 0} (xs : List A) (i : ℕ) (a : A) → slice_get xs i ≡ Some a → set xs i a ≡ xs
set_same [] i a there = refl
set_same (x ∷ xs) zero a there = let e : x ≡ a = cc in ap (λ y. y ∷ xs) (sym e)
set_same (x ∷ xs) (suc i) a there = ap (λ ys. x ∷ ys) (set_same xs i a there)

module _ {V : Type 0} where
  -- the tally of a channel that shows y at place n
  pub record IsTallyOf (y : Shown V) (t : WatchTally) (n : ℕ) : Type 0 where
    pub version : t.version ≡ y.version
    pub few : t.version ≤ n
    pub made : length t.watchers ≡ length y.slots
    pub others : (h : ℕ) → IsOther (slice_get y.slots h) → watcher_in t h ≡ None

  -- where these are the marks and the version at each place, the counts of entries, and who looks at the value at each place
  module _ (mark : (h place : ℕ) → Option (Option ℕ)) (version : ℕ → ℕ) (notified : (h place : ℕ) → ℕ) (looked : (h place : ℕ) → Bool) where
    -- the tally and its receivers at place m
    pub record AreWatched (m : ℕ) (y : Shown V) (t : WatchTally) : Type 0 where
      pub tally : IsTallyOf y t m
      pub rises : Rises version m
      pub watched : (h : ℕ) → IsWatched (mark h) version (notified h) (looked h) m (watcher_in t h)

    -- what is shown at a place
    pub record ShowsAt (place : ℕ) (y : Shown V) : Type 0 where
      pub marks : (h : ℕ) → mark h place ≡ mark_at (slice_get y.slots h)
      pub version_is : version place ≡ y.version

    -- what the entry that is made at a place, of this call and with this reply, is to each receiver
    pub record IsNoted (place : ℕ) (call : WCall V) (r : WReply V) : Type 0 where
      pub changes_is : (h : ℕ) → notified h (place + 1) ≡ cond (is_notified h (call_of.W call) (reply_of.W r)) (notified h place + 1) (notified h place)
      pub look_is : (h : ℕ) → looked h place ≡ looks h (call_of.W call) (reply_of.W r)

  module _ (mark : (h place : ℕ) → Option (Option ℕ)) (version : ℕ → ℕ) (notified : (h place : ℕ) → ℕ) (looked : (h place : ℕ) → Bool) (n : ℕ) where
    abbrev After : Shown V → WatchTally → Type 0
    After z u = AreWatched mark version notified looked (n + 1) z u

    abbrev ShownAfter : Shown V → Type 0
    ShownAfter z = ShowsAt mark version notified looked (n + 1) z

    module _ (y : Shown V) (t : WatchTally) (are : AreWatched mark version notified looked n y t) (now : ShowsAt mark version notified looked n y) where
      -- no change is told to a receiver by the entry, which is no look of it
      abbrev Idle : (h : ℕ) → Type 0
      Idle h = IsIdle (mark h) version (notified h) (looked h) n

      abbrev WatchedAt : (h place : ℕ) → Watcher → Type 0
      WatchedAt h place w = Watched (mark h) version (notified h) (looked h) place w

      abbrev WatchedAs : (h place : ℕ) → Option Watcher → Type 0
      WatchedAs h place o = IsWatched (mark h) version (notified h) (looked h) place o

      version_now : t.version ≡ version n
      version_now = are.tally.version ∙ sym now.version_is

      rises_on : version n ≤ version (n + 1) → Rises version (n + 1)
      rises_on rise place within =
          elim (cases_lt place (n + 1)) [
            | inl inside ↦ omega (arith, are.rises place (omega (arith, inside)), rise)
            | inr past ↦ let here : n + 1 ≡ place = omega (arith, within, past) in subst (λ k. version k ≤ version (n + 1)) here (omega arith)
          ]

      -- the version rises or not, and nothing else changes
      on_version : (z : Shown V) (u : WatchTally) → z.slots ≡ y.slots → u.watchers ≡ t.watchers → u.version ≡ z.version
          → (z.version ≡ y.version) ⊎ (z.version ≡ y.version + 1) → ShownAfter z
          → ((h : ℕ) → mark h (n + 1) ≡ mark h n → IsNext version n → WatchedAs h (n + 1) (watcher_in t h)) → After z u
      on_version z u slots watchers version_is rise then each =
          let risen : IsNext version n =
          elim rise [
            | inl same ↦ inl (then.version_is ∙ same ∙ sym now.version_is)
            | inr up ↦ inr (then.version_is ∙ up ∙ ap (λ k. k + 1) (sym now.version_is))
          ] in
          record {
            tally = record {
              version = version_is;
              few = elim rise [
                | inl same ↦ omega (arith, version_is, same, are.tally.version, are.tally.few)
                | inr up ↦ omega
                    (arith, version_is, up, are.tally.version, are.tally.few)
              ];
              made = ap length watchers ∙ are.tally.made ∙ ap length (sym slots);
              others = λ h other. ap (λ ws. get_or ws h None) watchers ∙ are.tally.others h (subst (λ ss. IsOther (slice_get ss h)) slots other);
            };
            rises = rises_on (elim risen [ inl same ↦ omega (arith, same) | inr up ↦ omega (arith, up) ]);
            watched = λ h. subst (λ ws. WatchedAs h (n + 1) (get_or ws h None)) (sym watchers)
                (each h (then.marks h ∙ ap (λ s. mark_at (slice_get s h)) slots ∙ sym (now.marks h)) risen);
          }

      -- a receiver that the call isn't about
      at_rest : (h : ℕ) → Idle h → mark h (n + 1) ≡ mark h n → IsNext version n → WatchedAs h (n + 1) (watcher_in t h)
      at_rest h idle same rise = rests (mark h) version (notified h) (looked h) n (watcher_in t h) are.rises idle same rise (are.watched h)

      -- a handle is made
      on_make : (kind : Kind) (m : Option ℕ) (w : Option Watcher) → ShownAfter (with_change y (Make kind m)) → ((h : ℕ) → Idle h)
          → (IsOther (Some (Live kind m)) → w ≡ None)
          → ((h : ℕ) → mark h (n + 1) ≡ mark_at (Some (Live kind m)) → version (n + 1) ≡ version n → Unwatched (mark h) version (notified h) (looked h) n
          → WatchedAs h (n + 1) w)
          → After (with_change y (Make kind m)) (record t { watchers = t.watchers ++ w ∷ [] })
      on_make kind m w then idle other makes =
          let same : version (n + 1) ≡ version n = then.version_is ∙ sym now.version_is in
          record {
            tally = record {
              version = are.tally.version;
              few = omega (arith, are.tally.few);
              made = omega (arith, length_push t.watchers w, length_push y.slots (Live kind m), are.tally.made);
              others = λ h is. elim (same_or_apart h (length t.watchers)) [
                | inl last ↦ new h last ∙ other (subst IsOther (new_slot h last) is)
                | inr apart ↦ kept h apart ∙ are.tally.others h (subst IsOther (kept_slot h apart) is)
              ];
            };
            rises = rises_on (omega (arith, same));
            watched = λ h. elim (same_or_apart h (length t.watchers)) [
              | inl last ↦ let before : watcher_in t h ≡ None = get_or_past t.watchers h None (omega (arith, last)) in
                  subst (λ o. WatchedAs h (n + 1) o) (sym (new h last))
                  (makes h (then.marks h ∙ ap mark_at (new_slot h last)) same (subst (λ o. WatchedAs h n o) before (are.watched h)))
              | inr apart ↦ subst (λ o. WatchedAs h (n + 1) o) (sym (kept h apart))
                  (at_rest h (idle h) (then.marks h ∙ ap mark_at (kept_slot h apart) ∙ sym (now.marks h)) (inl same))
            ];
          } where
            new : (h : ℕ) → h ≡ length t.watchers → get_or (t.watchers ++ w ∷ []) h None ≡ w
            new h last = ap (λ j. get_or (t.watchers ++ w ∷ []) j None) last ∙ get_or-append_seam t.watchers w [] None

            new_slot : (h : ℕ) → h ≡ length t.watchers → slice_get (y.slots ++ Live kind m ∷ []) h ≡ Some (Live kind m)
            new_slot h last = ap (λ j. slice_get (y.slots ++ Live kind m ∷ []) j) (last ∙ are.tally.made) ∙ get-push_last y.slots (Live kind m)

            kept_slot : (h : ℕ) → h ≢ length t.watchers → slice_get (y.slots ++ Live kind m ∷ []) h ≡ slice_get y.slots h
            kept_slot h apart = get-push_other y.slots h (Live kind m) (λ e. apart (e ∙ sym are.tally.made))

            kept : (h : ℕ) → h ≢ length t.watchers → get_or (t.watchers ++ w ∷ []) h None ≡ watcher_in t h
            kept h apart =
                elim (cases_order h (length t.watchers)) [
                  | inl last ↦ absurd (apart last)
                  | inr (inl below) ↦ get_or_append_left t.watchers (w ∷ []) None h below
                  | inr (inr above) ↦ get_or_push_past t.watchers h w None above ∙ sym (get_or_past t.watchers h None (omega (arith, above)))
                ]

      -- what is under number g changes, and its receiver
      on_set : (g : ℕ) (slot was : Slot (Option ℕ)) (w : Option Watcher) → slice_get y.slots g ≡ Some was
          → ShownAfter (record y { slots = set y.slots g slot }) → ((h : ℕ) → h ≢ g → Idle h) → (IsOther (Some slot) → ⊥)
          → (mark g (n + 1) ≡ mark_at (Some slot) → version (n + 1) ≡ version n → WatchedAs g (n + 1) w)
          → After (record y { slots = set y.slots g slot }) (with_watcher t g w)
      on_set g slot was w here then idle no_other own =
          let same : version (n + 1) ≡ version n = then.version_is ∙ sym now.version_is in
          let set_slot : slice_get (set y.slots g slot) g ≡ Some slot = slice_get-set y.slots g slot was here in
          record {
            tally = record {
              version = are.tally.version;
              few = omega (arith, are.tally.few);
              made = omega (arith, length-set t.watchers g w, length-set y.slots g slot, are.tally.made);
              others = λ h is. elim (same_or_apart h g) [
                | inl is_g ↦ absurd (no_other (subst IsOther (ap (λ j. slice_get (set y.slots g slot) j) is_g ∙ set_slot) is))
                | inr apart ↦ get_or-set_apart t.watchers g h w None apart
                    ∙ are.tally.others h (subst IsOther (get-set_other y.slots g h slot apart) is)
              ];
            };
            rises = rises_on (omega (arith, same));
            watched = λ h. elim (same_or_apart h g) [
              | inl is_g ↦ let within : g < length t.watchers = omega (arith, are.tally.made, slice_get_within y.slots g was here) in
                  subst (λ j. WatchedAs j (n + 1) (get_or (set t.watchers g w) j None)) (sym is_g)
                  (subst (λ o. WatchedAs g (n + 1) o) (sym (get_or-set_same t.watchers g w None within)) (own (then.marks g ∙ ap mark_at set_slot) same))
              | inr apart ↦ let there : mark h (n + 1) ≡ mark h n = then.marks h ∙ ap mark_at (get-set_other y.slots g h slot apart) ∙ sym (now.marks h) in
                  subst (λ o. WatchedAs h (n + 1) o) (sym (get_or-set_apart t.watchers g h w None apart))
                  (at_rest h (idle h apart) there (inl same))
            ];
          }

      -- a receiver that is there is watched
      on_receiver : (g : ℕ) (from : Option ℕ) (slot : Slot (Option ℕ)) (after : Watcher → Watcher) → slice_get y.slots g ≡ Some (Live Receiver from)
          → ShownAfter (record y { slots = set y.slots g slot }) → ((h : ℕ) → h ≢ g → Idle h) → (IsOther (Some slot) → ⊥)
          → ((w : Watcher) → mark g n ≡ Some from → mark g (n + 1) ≡ mark_at (Some slot) → version (n + 1) ≡ version n → WatchedAt g n w
          → WatchedAt g (n + 1) (after w))
          → After (record y { slots = set y.slots g slot }) (with_watcher t g (option_map after (watcher_in t g)))
      on_receiver g from slot after here then idle no_other own =
          on_set g slot (Live Receiver from) (option_map after (watcher_in t g)) here then idle no_other
          (λ there same. by_watcher (watcher_in t g) (are.watched g) there same) where
            at : mark g n ≡ Some from
            at = now.marks g ∙ ap mark_at here

            by_watcher : (o : Option Watcher) → WatchedAs g n o → mark g (n + 1) ≡ mark_at (Some slot) → version (n + 1) ≡ version n
                → WatchedAs g (n + 1) (option_map after o)
            by_watcher None is there same = let e : ◌≡◌ {A = Option (Option ℕ)} None (Some from) = sym (is.absent n (omega arith)) ∙ at in absurd cc
            by_watcher (Some w) is there same = own w at there same is

      -- one that looks at the value, and changes nothing
      on_look : (g : ℕ) (from : Option ℕ) → slice_get y.slots g ≡ Some (Live Receiver from) → ShownAfter y → ((h : ℕ) → h ≢ g → Idle h)
          → notified g (n + 1) ≡ notified g n → looked g n ≡ true → After y (with_watcher t g (option_map (after_look t.version) (watcher_in t g)))
      on_look g from here then idle quiet look =
          let back : record y { slots = set y.slots g (Live Receiver from) } ≡ y =
          ap (λ slots. record y { slots = slots }) (set_same y.slots g (Live Receiver from) here) in
          subst (λ z. After z (with_watcher t g (option_map (after_look t.version) (watcher_in t g)))) back
          (on_receiver g from (Live Receiver from) (after_look t.version) here (subst (λ z. ShownAfter z) (sym back) then) idle (λ other. other)
          (λ w at there same is. subst (λ v. WatchedAt g (n + 1) (after_look v w)) (sym version_now)
          (is_looked (mark g) version (notified g) (looked g) n w from at same is quiet look (there ∙ sym at))))

      -- a handle that is no receiver changes nothing
      nobody : (g : ℕ) (after : Watcher → Watcher) → IsOther (slice_get y.slots g) → with_watcher t g (option_map after (watcher_in t g)) ≡ t
      nobody g after other =
          ap (λ o. with_watcher t g (option_map after o)) (are.tally.others g other)
          ∙ ap (λ ws. record t { watchers = ws }) (still t.watchers g (are.tally.others g other)) where
            still : (ws : List (Option Watcher)) (i : ℕ) → get_or ws i None ≡ None → set ws i None ≡ ws
            still [] i none = refl
            still (o ∷ ws) zero none = ap (λ p. p ∷ ws) (sym none)
            still (o ∷ ws) (suc i) none = ap (λ vs. o ∷ vs) (still ws i none)

      -- such a handle looks at the value
      on_peek : (g : ℕ) → IsOther (slice_get y.slots g) → ShownAfter y → ((h : ℕ) → h ≢ g → Idle h) → notified g (n + 1) ≡ notified g n
          → After y (with_watcher t g (option_map (after_look t.version) (watcher_in t g)))
      on_peek g other then idle quiet =
          subst (λ u. After y u) (sym (nobody g (after_look t.version) other))
          (on_version y t refl refl are.tally.version (inl refl) then (λ h same rise. elim (same_or_apart h g) [
            | inl is_g ↦ let none : watcher_in t h ≡ None = are.tally.others h (subst (λ j. IsOther (slice_get y.slots j)) (sym is_g) other) in
                subst (λ o. WatchedAs h (n + 1) o) (sym none)
                (stays_unwatched (mark h) version (notified h) (looked h) n (subst (λ j. notified j (n + 1) ≡ notified j n) (sym is_g) quiet) same
                (subst (λ o. WatchedAs h n o) none (are.watched h)))
            | inr apart ↦ at_rest h (idle h apart) same rise
          ]))

      sender_leaves : (g : ℕ) (kind : Kind) (m : Option ℕ) → slice_get y.slots g ≡ Some (Live kind m) → IsOther (Some (Live kind m))
          → ShownAfter (with_change y (Leave g kind m)) → ((h : ℕ) → Idle h) → mark_at (Some (Live kind m)) ≡ None
          → After (with_change y (Leave g kind m)) (with_watcher t g (option_map (after_end t.version) (watcher_in t g)))
      sender_leaves g kind m here other then idle no_mark =
          let none : watcher_in t g ≡ None = are.tally.others g (subst IsOther (sym here) other) in
          subst (λ o. After (with_change y (Leave g kind m)) (with_watcher t g (option_map (after_end t.version) o))) (sym none)
          (on_set g Spent (Live kind m) None here then (λ h apart. idle h) (λ other. other)
          (λ there same. rests (mark g) version (notified g) (looked g) n None are.rises (idle g)
          (there ∙ sym (now.marks g ∙ ap mark_at here ∙ no_mark)) (inl same) (subst (λ o. WatchedAs g n o) none (are.watched g))))

      on_leave : (g : ℕ) (kind : Kind) (m : Option ℕ) → slice_get y.slots g ≡ Some (Live kind m) → ShownAfter (with_change y (Leave g kind m))
          → ((h : ℕ) → Idle h) → After (with_change y (Leave g kind m)) (with_watcher t g (option_map (after_end t.version) (watcher_in t g)))
      on_leave g Receiver m here then idle =
          on_receiver g m Spent (after_end t.version) here then (λ h apart. idle h) (λ other. other)
          (λ w at gone same is. subst (λ v. WatchedAt g (n + 1) (after_end v w)) (sym version_now)
          (is_ended (mark g) version (notified g) (looked g) n w m at same is (idle g) gone))
      on_leave g Sender m here then idle = sender_leaves g Sender m here tt then idle refl
      on_leave g Weak m here then idle = sender_leaves g Weak m here tt then idle refl

    -- any call
    pub watched_on : (y : Shown V) (t : WatchTally) (call : WCall V) (change : Change V) (r : WReply V) → AreWatched mark version notified looked n y t
        → ShowsAt mark version notified looked n y → StepsTo y call change r → IsNoted mark version notified looked n call r
        → ShowsAt mark version notified looked (n + 1) (with_change y change)
        → AreWatched mark version notified looked (n + 1) (with_change y change) (with_call t call r)
    watched_on y t call change r are now steps noted then = by_step steps noted then where
      -- a receiver that the entry isn't about
      silent : {call : WCall V} {r : WReply V} → IsNoted mark version notified looked n call r → (h : ℕ)
          → is_notified h (call_of.W call) (reply_of.W r) ≡ false → looks h (call_of.W call) (reply_of.W r) ≡ false → Idle y t are now h
      silent noted h unnotified unlooked = record {
        changes_is = noted.changes_is h ∙ ap (λ b. cond b (notified h n + 1) (notified h n)) unnotified;
        no_look = noted.look_is h ∙ unlooked;
      }

      -- one whose number isn't the call's
      another : (g h : ℕ) → h ≢ g → nat_eq g h ≡ false
      another g h apart = eq_not g h (λ same. apart (sym same))

      version_is : t.version ≡ version n
      version_is = version_now y t are now

      to_version : (m : Option ℕ) → mark_at (Some (Live Receiver (Some y.version))) ≡ Some (Some (version n))
      to_version m = ap (λ v. Some (Some v)) (sym now.version_is)

      by_step : {call : WCall V} {change : Change V} {r : WReply V} → StepsTo y call change r → IsNoted mark version notified looked n call r
          → ShownAfter (with_change y change) → After (with_change y change) (with_call t call r)
      by_step (keeps {call = call} {r = r} quiet same) noted then =
          subst (λ u. After y u) (sym (same t))
          (on_version y t are now y t refl refl are.tally.version (inl refl) then
          (λ h same rise. at_rest y t are now h (silent noted h (quiet h).0 (quiet h).1) same rise))
      by_step (writes {call = call} {v = v} {told = told} {r = r} quiet same) noted then =
          subst (λ u. After (with_change y (Write v told)) u) (sym (same t))
          (on_version y t are now (with_change y (Write v told)) (record t { version = cond told (t.version + 1) t.version }) refl refl
          (ap (λ v. cond told (v + 1) v) are.tally.version) (risen told) then
          (λ h same rise. at_rest y t are now h (silent noted h (quiet h).0 (quiet h).1) same rise)) where
            risen : (b : Bool) → (cond b (y.version + 1) y.version ≡ y.version) ⊎ (cond b (y.version + 1) y.version ≡ y.version + 1)
            risen true = inr refl
            risen false = inl refl
      by_step (makes_receiver {call = call} {mark = m} {n = k} small makes) noted then =
          subst (λ w. After (with_change y (Make Receiver m)) (record t { watchers = t.watchers ++ w ∷ [] })) (sym (makes t))
          (on_make y t are now Receiver m (Some (new_watcher t.version)) then (λ h. silent noted h refl refl) (λ other. absurd other)
          (λ h there same unwatched. subst (λ v. WatchedAt y t are now h (n + 1) (new_watcher v)) (same ∙ sym version_is)
          (is_made (mark h) version (notified h) (looked h) n m (noted.changes_is h) there (λ v m_is. omega (arith, small v m_is, same, now.version_is))
          (rises_on y t are now (omega (arith, same))) unwatched)))
      by_step (makes_other {call = call} {n = k} makes) noted then =
          subst (λ w. After (with_change y (Make Sender None)) (record t { watchers = t.watchers ++ w ∷ [] })) (sym (makes t))
          (on_make y t are now Sender None None then (λ h. silent noted h refl refl) (λ other. refl)
          (λ h there same unwatched. rests (mark h) version (notified h) (looked h) n None are.rises (silent noted h refl refl)
          (there ∙ sym (unwatched.absent n (omega arith))) (inl same) unwatched))
      by_step (peeks {h = g} other) noted then =
          on_peek y t are now g other then (λ h apart. silent noted h refl (another g h apart)) (noted.changes_is g)
      by_step (borrows {h = g} {from = from} here) noted then =
          on_look y t are now g from here then (λ h apart. silent noted h refl (another g h apart)) (noted.changes_is g)
          (noted.look_is g ∙ eq_is g g refl)
      by_step (updates {h = g} {from = from} here) noted then =
          on_receiver y t are now g from (Live Receiver (Some y.version)) (after_update t.version) here then
          (λ h apart. silent noted h refl (another g h apart)) (λ other. other)
          (λ w at there same is. subst (λ v. WatchedAt y t are now g (n + 1) (after_update v w)) (sym version_is)
          (is_updated (mark g) version (notified g) (looked g) n w from at same is (noted.changes_is g) (noted.look_is g ∙ eq_is g g refl)
          (there ∙ to_version from)))
      by_step (marks {h = g} {from = from} here) noted then =
          on_receiver y t are now g from (Live Receiver (Some y.version)) (after_mark t.version) here then
          (λ h apart. silent noted h refl refl) (λ other. other)
          (λ w at there same is. subst (λ v. WatchedAt y t are now g (n + 1) (after_mark v w)) (sym version_is)
          (is_marked (mark g) version (notified g) (looked g) n w from at same is (silent noted g refl refl) (there ∙ to_version from)))
      by_step (changes {h = g} {from = from} here) noted then =
          on_receiver y t are now g from (Live Receiver (Some y.version)) (after_change t.version) here then
          (λ h apart. silent noted h (another g h apart) refl) (λ other. other)
          (λ w at there same is. subst (λ v. WatchedAt y t are now g (n + 1) (after_change v w)) (sym version_is)
          (is_changed (mark g) version (notified g) (looked g) n w from at same is
          (noted.changes_is g ∙ ap (λ b. cond b (notified g n + 1) (notified g n)) (eq_is g g refl)) (noted.look_is g) (there ∙ to_version from)))
      by_step (unmarks {h = g} {from = from} here) noted then =
          subst (λ u. After (with_change y (Mark g from None)) u) (put_back t.watchers g)
          (on_receiver y t are now g from (Live Receiver None) (λ w. w) here then (λ h apart. silent noted h refl refl) (λ other. other)
          (λ w at there same is. is_unmarked (mark g) version (notified g) (looked g) n w from at same is (silent noted g refl refl) there)) where
            same_list : (ws : List (Option Watcher)) (i : ℕ) → set ws i (option_map (λ w. w) (get_or ws i None)) ≡ ws
            same_list [] i = refl
            same_list (None ∷ ws) zero = refl
            same_list (Some w ∷ ws) zero = refl
            same_list (o ∷ ws) (suc i) = ap (λ vs. o ∷ vs) (same_list ws i)

            put_back : (ws : List (Option Watcher)) (i : ℕ) → record t { watchers = set t.watchers g (option_map (λ w. w) (watcher_in t g)) } ≡ t
            put_back ws i = ap (λ ws. record t { watchers = ws }) (same_list t.watchers g)
      by_step (leaves {h = g} {kind = kind} {mark = m} here) noted then = on_leave y t are now g kind m here then (λ h. silent noted h refl refl)
