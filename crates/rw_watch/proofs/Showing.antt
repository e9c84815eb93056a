-- What a channel shows after a change is what the record after that change shows.
use Rattle.std.proofs.Common.{◌≡◌, ℕ, zero, suc, ◌+◌, Bool, true, false, cond, List, [], ◌∷◌, ◌++◌, refl, ap, sym, subst, ◌∙◌, arith}
use Rattle.std.specs.Prelude.{Some, None}
use Rattle.std.proofs.lemmas.List.Elements.{All-push, All-nil}
use Rattle.std.proofs.lemmas.List.Sums.{fold_push}
use Rattle.rw_handles.specs.declared.kinds.Kind.TheVariants.{Sender, Receiver}
use Rattle.rw_handles.specs.declared.kinds.Slot.TheVariants.{Live}
use Rattle.rw_watch.specs.declared.calls.WCall.{WCall}
use Rattle.rw_watch.specs.declared.calls.WReply.{WReply}
use Rattle.rw_watch.specs.Channel.{Change, Keep, Write, Make, Mark, Leave, effect}
use Rattle.rw_watch.specs.Record as whole
use Rattle.rw_watch.specs.Record.{Record, told_count, last_value, channel_of, step, opening_record, after}
use Rattle.rw_watch.specs.Shown.{Shown, shown, version_after, with_change, next, reply_of, IsAllowed, IsMarked}
use Rattle.rw_watch.specs.Laws.{shown_after, ShowsItsSteps, ShowsItsRecord, RepliesByRecord, ShowsAllowed, IsShownBySome, IsDocumented}
use Rattle.rw_watch.specs.Soundness.{watch_laws}

last_value-push : {V : Type 0} (v : V) (changes : List (V × Bool)) (w : V) (told : Bool) → last_value v (changes ++ (w, told) ∷ []) ≡ w
last_value-push v [] w told = refl
last_value-push v (change ∷ changes) w told = last_value-push change.0 changes w told

told_count-push : {V : Type 0} (changes : List (V × Bool)) (w : V) (told : Bool)
    → told_count (changes ++ (w, told) ∷ []) ≡ version_after (told_count changes) told
told_count-push changes w told = fold_push _ 0 changes (w, told) ∙ raised_is (told_count changes) told where
  raised_is : (n : ℕ) (told : Bool) → n + cond told 1 0 ≡ version_after n told
  raised_is n true = refl
  raised_is n false = omega arith

shown-changed : {V : Type 0} (r : Record V) (change : Change V) → with_change (shown r) change ≡ shown (whole.with_change r change)
shown-changed r Keep = refl
shown-changed r (Write w told) =
    sym (ap (λ n. record (shown (whole.with_change r (Write w told))) { version = n }) (told_count-push r.changes w told)
    ∙ ap (λ v. record (shown r) { version = version_after (told_count r.changes) told; value = v }) (last_value-push r.initial r.changes w told))
shown-changed r (Make kind mark) = refl
shown-changed r (Mark h from to) = refl
shown-changed r (Leave h kind mark) = refl

pub shows_its_steps : (V : Type 0) → ShowsItsSteps V
shows_its_steps V r call = (refl, shown-changed r (effect (channel_of r) call).0)

-- so where a machine's step is that on what it shows, it is the documented one
pub documented : {V : Type 0} (x y : Shown V) (call : WCall V) (reply : WReply V) → reply ≡ reply_of x call → y ≡ next x call → IsDocumented x call reply y
documented {V} x y call reply same_reply same_next r is =
    let P = λ (z : Shown V). (reply ≡ reply_of z call) × (y ≡ next z call) in
    let here : P (shown r) = subst P (sym is) (same_reply, same_next) in
    (here.0, here.1 ∙ (shows_its_steps V r call).1)

allowed_opening : {V : Type 0} (initial : V) → IsAllowed (shown (opening_record initial))
allowed_opening {V} initial = record {
  few_slots = omega arith;
  marked = All-push (IsMarked 0) (Live Sender None ∷ []) (Live Receiver (Some 0)) (All-push (IsMarked 0) [] (Live Sender None) (All-nil (IsMarked 0)) refl)
      (omega arith);
}

allowed_after : {V : Type 0} (r : Record V) (calls : List (WCall V)) → IsAllowed (shown r) → IsAllowed (shown (after r calls))
allowed_after r [] ok = ok
allowed_after {V} r (call ∷ calls) ok =
    let P = λ (x : Shown V). IsAllowed x in
    allowed_after (step r call).0 calls (subst P (shows_its_steps V r call).1 (watch_laws.next_allowed (shown r) call ok))

pub shows_allowed : (V : Type 0) → ShowsAllowed V
shows_allowed V initial calls = allowed_after (opening_record initial) calls (allowed_opening initial)

shows_after : {V : Type 0} (r : Record V) (calls : List (WCall V)) → shown_after (shown r) calls ≡ shown (after r calls)
shows_after r [] = refl
shows_after {V} r (call ∷ calls) = ap (λ x. shown_after x calls) (shows_its_steps V r call).1 ∙ shows_after (step r call).0 calls

pub shows_its_record : (V : Type 0) → ShowsItsRecord V
shows_its_record V initial calls = shows_after (opening_record initial) calls

pub replies_by_record : (V : Type 0) → RepliesByRecord V
replies_by_record V initial calls call =
    ap (λ (x : Shown V). reply_of x call) (shows_its_record V initial calls) ∙ (shows_its_steps V (after (opening_record initial) calls) call).0

-- n changes with notification, each to the same value
abbrev told_again : {V : Type 0} → V → ℕ → List (V × Bool)
told_again v zero = []
told_again v (suc n) = told_again v n ++ (v, true) ∷ []

told_count-told_again : {V : Type 0} (v : V) (n : ℕ) → told_count (told_again v n) ≡ n
told_count-told_again v zero = refl
told_count-told_again v (suc n) = let before = told_count-told_again v n in told_count-push (told_again v n) v true ∙ omega arith

last_value-told_again : {V : Type 0} (v : V) (n : ℕ) → last_value v (told_again v n) ≡ v
last_value-told_again v zero = refl
last_value-told_again v (suc n) = last_value-push v (told_again v n) v true

pub is_shown_by_some : (V : Type 0) → IsShownBySome V
is_shown_by_some V x = (
  record { initial = x.value; changes = told_again x.value x.version; slots = x.slots },
  ap (λ n. record x { version = n; value = last_value x.value (told_again x.value x.version) }) (told_count-told_again x.value x.version)
      ∙ ap (λ v. record x { value = v }) (last_value-told_again x.value x.version),
)
