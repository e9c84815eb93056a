-- Channels that are alike reply alike.
use Rattle.std.proofs.Common.{◌≡◌, ℕ, ◌+◌, ◌<◌, ◌≤◌, true, [], ◌∷◌, length, map, refl, ap, sym, ◌∙◌, subst, arith, length-set}
use Rattle.std.specs.Prelude.{Option}
use Rattle.std.proofs.lemmas.List.{length-map, length_push}
use Rattle.rw_handles.specs.declared.kinds.Kind.TheVariants.{Receiver}
use Rattle.rw_handles.specs.declared.kinds.Slot.TheVariants.{Live, Spent}
use Rattle.rw_handles.specs.declared.table.TheConstants.{MOST_HANDLES}
use Rattle.rw_handles.specs.Renaming.{IsRenaming}
use Rattle.rw_handles.proofs.Changing.{renaming_changed}
use Rattle.rw_handles.proofs.Renaming.{renames_twice}
use Rattle.rw_watch.specs.declared.calls.WCall.{WCall}
use Rattle.rw_watch.specs.Alike.{AlikeTwice, RenamedAreAlike, RepliesAlike, replies_of, RepliesAlikeThroughout}
use Rattle.rw_watch.specs.Channel.{Change, Keep, Write, Make, Mark, Leave, effect, makes}
use Rattle.rw_watch.specs.Recent.{recent_slot, recent}
use Rattle.rw_watch.specs.Renaming.{IsRenamed, renamed_call, renamed_reply}
use Rattle.rw_watch.specs.Shown.{Shown, with_change, next, reply_of}
use Rattle.rw_watch.specs.Soundness.{watch_laws}
use Rattle.rw_watch.proofs.Forgetting.{replies_recent}
use Rattle.rw_watch.proofs.Renaming.{replies_renamed}

-- renamed channels are renamed also where the versions before are forgotten
recent_renamed : {V : Type 0} (to : ℕ → ℕ) (x y : Shown V) → IsRenamed to x y → IsRenamed to (recent x) (recent y)
recent_renamed to x y is = record {
  same = ap (λ v. record (recent y) { value = v }) (ap (λ z. z.value) is.same);
  renaming =
      let here = renaming_changed to x.slots y.slots (recent_slot x.version) refl is.renaming in
      let version : y.version ≡ x.version = ap (λ z. z.version) is.same in
      subst (λ w. IsRenaming to (recent x).slots (map (recent_slot w) y.slots)) (sym version) here;
}

pub replies_alike : (V : Type 0) → RepliesAlike V
replies_alike V to x y call here there is few =
    let other = renamed_call to call in
    let room : makes call ≡ true → (length (recent x).slots < MOST_HANDLES) × (length (recent y).slots < MOST_HANDLES) = λ one. (
      omega (arith, (few one).0, length-map x.slots (recent_slot x.version)),
      omega (arith, (few one).1, length-map y.slots (recent_slot y.version)),
    ) in
    let step = replies_renamed V to (recent x) (recent y) call is room in
    let first = replies_recent V x call here in
    let second = replies_recent V y other there in (
      sym second.0 ∙ step.0 ∙ ap (renamed_reply to) first.0,
      subst (λ z. IsRenamed to z (recent (next y other))) first.1
          (subst (λ z. IsRenamed to (recent (next (recent x) call)) z) second.1 (recent_renamed to (next (recent x) call) (next (recent y) other) step.1)),
    )

-- ---- all later calls

made_one_at_most : {V : Type 0} (x : Shown V) (change : Change V) → length (with_change x change).slots ≤ length x.slots + 1
made_one_at_most x Keep = omega arith
made_one_at_most x (Write v told) = omega arith
made_one_at_most x (Make kind m) = omega (arith, length_push x.slots (Live kind m))
made_one_at_most x (Mark h from to) = omega (arith, length-set x.slots h (Live Receiver to))
made_one_at_most x (Leave h kind m) = omega (arith, length-set x.slots h Spent)

few_after : {V : Type 0} (x : Shown V) (call : WCall V) (n : ℕ) → length x.slots + (n + 1) ≤ MOST_HANDLES → length (next x call).slots + n ≤ MOST_HANDLES
few_after x call n few = omega (arith, few, made_one_at_most x (effect x call).0)

pub replies_alike_throughout : (V : Type 0) → RepliesAlikeThroughout V
replies_alike_throughout V to x y [] here there is few less = (refl, is)
replies_alike_throughout V to x y (call ∷ calls) here there is few less =
    let other = renamed_call to call in
    let step = replies_alike V to x y call here there is (λ _. (omega (arith, few), omega (arith, less))) in
    let rest = replies_alike_throughout V to (next x call) (next y other) calls
    (watch_laws.next_allowed x call here) (watch_laws.next_allowed y other there) step.1
    (few_after x call (length calls) (omega (arith, few))) (few_after y other (length calls) (omega (arith, less))) in (
      ap (λ r. r ∷ replies_of (next y other) (map (renamed_call to) calls)) step.0 ∙ ap (λ l. renamed_reply to (reply_of x call) ∷ l) rest.0,
      rest.1,
    )

-- ---- other ways to be alike

pub renamed_are_alike : (V : Type 0) → RenamedAreAlike V
renamed_are_alike V to x y is = recent_renamed to x y is

pub alike_twice : (V : Type 0) → AlikeTwice V
alike_twice V to onto x y z is then = record {
  same = then.same ∙ ap (λ (c : Shown V). record c { slots = (recent z).slots }) is.same;
  renaming = renames_twice (Option ℕ) to onto (recent x).slots (recent y).slots (recent z).slots is.renaming then.renaming;
}
