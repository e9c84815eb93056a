-- The kind of a channel never changes. It determines which calls stray, and the kind of a reply.
use Rattle.std.proofs.Common.{◌≡◌, ℕ, false, List, [], ◌∷◌, Some, Result, Ok, Err, IfOk, OnErr, refl, sym, ◌∙◌, ap, subst}
use Rattle.rw_law.specs.Journal.{after_all}
use Rattle.rw_world.specs.declared.opening.Spec.{Spec}
use Rattle.rw_world.specs.declared.opening.Spec.TheVariants.{Broadcast, Watch}
use Rattle.rw_world.specs.declared.channels.ChanCall.TheVariants as call
use Rattle.rw_world.specs.Channel.{strays_at}
use Rattle.rw_world.specs.ChannelLaws.{kind_stays, strays_by_kind}
use Rattle.rw_world.specs.Kinds.{broadcast_shown, watch_shown, channel_kind}
use Rattle.rw_world.specs.declared.channels.Chan.{Chan}
use Rattle.rw_world.specs.declared.channels.ChanCall.{ChanCall}
use Rattle.rw_world.specs.declared.channels.ChanReply.{ChanReply}
use Rattle.rw_world.specs.declared.channels.ChanPatch.{ChanPatch}
use Rattle.rw_world.specs.Machines.{ChanShown, of_broadcast, of_watch, of_chan}
use Rattle.rw_world.specs.Openings.{opened_channel, spec_kind}
use Rattle.rw_world.specs.Specified.{ChanEntry}
use Rattle.rw_journal.specs.Book.{Book, IsBook, IsUnchanged, opening_of, reply_to, state_of}
use Rattle.rw_desk.specs.declared.faults.DeskFault.{DeskFault}
use Rattle.rw_desk.specs.GuardedBook.{IsOpenedFrom}
use Rattle.rw_desk.specs.Passes.{HasReceipt, IsOfKind, IsRecorded, Pass}

-- what callers see of a channel's book
abbrev pub Books : Type 0 → Type 0
Books V = Book (Chan V) (ChanCall V) (ChanReply V) (ChanPatch V)

module _ {V : Type 0} where
  kind_after : (x : ChanShown V) (es : List (ChanEntry V)) → channel_kind (after_all of_chan x es) ≡ channel_kind x
  kind_after x [] = refl
  kind_after x (e ∷ es) = kind_after ((of_chan {V = V}).next x e.call) es ∙ kind_stays of_broadcast of_watch x e.call

  kind_opened : (spec : Spec V) → channel_kind (opened_channel spec) ≡ spec_kind spec
  kind_opened (Broadcast capacity) = refl
  kind_opened (Watch init) = refl

  -- a book's channel is of the kind of the spec that the book was opened from
  pub kind_of_book : (spec : Spec V) (book : Books V) → IsOpenedFrom spec book → channel_kind (state_of of_chan book) ≡ spec_kind spec
  kind_of_book spec book opened = kind_after ((of_chan {V = V}).shown book.opening) book.entries ∙ (ap channel_kind opened ∙ kind_opened spec)

  -- whether a call strays at a book depends only on the spec that the book was opened from
  pub strays_by_spec : (spec : Spec V) (book : Books V) (c : ChanCall V) → IsOpenedFrom spec book
      → (of_chan {V = V}).is_straying (reply_to of_chan book c) ≡ strays_at (spec_kind spec) c
  strays_by_spec spec book c opened =
      strays_by_kind of_broadcast of_watch (state_of of_chan book) c ∙ ap (λ k. strays_at k c) (kind_of_book spec book opened)

  kind_of_reply : (x : ChanShown V) (c : ChanCall V) → (of_chan {V = V}).is_straying ((of_chan {V = V}).reply_of x c) ≡ false
      → IsOfKind c ((of_chan {V = V}).reply_of x c)
  kind_of_reply (broadcast_shown x) (call.B c) stays = tt
  kind_of_reply (broadcast_shown x) (call.W c) stays = absurd (cc)
  kind_of_reply (watch_shown x) (call.B c) stays = absurd (cc)
  kind_of_reply (watch_shown x) (call.W c) stays = tt

  -- a recorded call adds its receipt
  pub has_receipt : (spec : Spec V) (old new : Pass V) (before now : Books V) (channel : ℕ) (c : ChanCall V) (r : ChanReply V) → IsOpenedFrom spec before
      → IsBook of_chan (opening_of of_chan before) before.entries
      → IsRecorded of_chan old new before now channel c r → HasReceipt (Some spec) old new channel c r
  has_receipt spec old new before now channel c r opened book recorded =
      let taken = recorded.taken in
      let x : ChanShown V = after_all of_chan (opened_channel spec) before.entries in
      let reply_is : r ≡ (of_chan {V = V}).reply_of x c = taken.reply_is ∙ ap (λ s. (of_chan {V = V}).reply_of (after_all of_chan s before.entries) c) opened in
      let stays : (of_chan {V = V}).is_straying ((of_chan {V = V}).reply_of x c) ≡ false =
      subst (λ s. (of_chan {V = V}).is_straying s ≡ false) reply_is taken.no_stray in
      record {
        opened = spec;
        spec_is = refl;
        journal = before.entries;
        book = subst (λ s. IsBook of_chan s before.entries) opened book;
        stamp = recorded.stamp;
        stamp_is = taken.stamp_is;
        replied = sym reply_is;
        no_wait = taken.no_wait;
        kind = subst (IsOfKind c) (sym reply_is) (kind_of_reply x c stays);
        pass = recorded.pass;
      }

  -- no call changes what the book was opened from
  pub opened_still : (spec : Spec V) (old new : Pass V) (before now : Books V) (channel : ℕ) (c : ChanCall V) (answer : Result (ChanReply V) DeskFault)
      → IsOpenedFrom spec before → IfOk answer (λ r. IsRecorded of_chan old new before now channel c r) → OnErr answer (IsUnchanged before now)
      → IsOpenedFrom spec now
  opened_still spec old new before now channel c (Ok r) opened recorded unchanged = ap (of_chan {V = V}).shown recorded.taken.opening ∙ opened
  opened_still spec old new before now channel c (Err fault) opened recorded unchanged = ap (of_chan {V = V}).shown unchanged.opening ∙ opened

  pub receipt_given : (spec : Spec V) (old new : Pass V) (before now : Books V) (channel : ℕ) (c : ChanCall V) (answer : Result (ChanReply V) DeskFault)
      → IsOpenedFrom spec before → IsBook of_chan (opening_of of_chan before) before.entries
      → IfOk answer (λ r. IsRecorded of_chan old new before now channel c r) → IfOk answer (λ r. HasReceipt (Some spec) old new channel c r)
  receipt_given spec old new before now channel c (Ok r) opened book recorded = has_receipt spec old new before now channel c r opened book recorded
  receipt_given spec old new before now channel c (Err fault) opened book recorded = tt

  -- a call that isn't stray by the spec isn't stray at the book
  pub never_strays : (spec own : Spec V) (book : Books V) (c : ChanCall V) → IsOpenedFrom own book → own ≡ spec → strays_at (spec_kind spec) c ≡ false
      → (of_chan {V = V}).is_straying (reply_to of_chan book c) ≡ false
  never_strays spec own book c opened same stays = strays_by_spec own book c opened ∙ (ap (λ s. strays_at (spec_kind s) c) same ∙ stays)
