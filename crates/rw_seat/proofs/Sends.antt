-- If its values may cross threads, a seat of a desk may be sent to another thread, and threads may share the desk.
use denote.RattleType.{RattleType}
use denote.Param.Send.{IsSend, IsSync, struct_send, struct_sync, recorded_send, recorded_sync, view_send, view_sync, plain_sync}
use denote.Struct.Declared as Declared
use Rattle.std.specs.declared.clone.Clone as clone
use Rattle.std.proofs.Crossing.{Box-send, Vec-send, Vec-sync}
use Rattle.rw_law.specs.declared.value.Payload as payload
use Rattle.rw_law.specs.contracts.journal.Entry as Entry
use Rattle.rw_world.specs.Specified.{ChanEntry}
use Rattle.rw_world.specs.contracts.channels.Chan as Chan
use Rattle.rw_world.specs.contracts.channels.ChanCall as Call
use Rattle.rw_world.specs.contracts.channels.ChanReply as Reply
use Rattle.rw_world.specs.contracts.channels.ChanPatch as Patch
use Rattle.rw_world.specs.contracts.channels.ChanReversible.TheImpl as machine
use Rattle.rw_world.specs.contracts.opening.Spec as Spec
use Rattle.rw_world.proofs.channels.Chan.TheSendSync as chan
use Rattle.rw_world.proofs.opening.Spec.TheSendSync as spec
use Rattle.rw_journal.specs.declared.keeps.Keeps as keeps
use Rattle.rw_journal.specs.contracts.ledger.Ledger as Ledger
use Rattle.rw_journal.specs.contracts.stored_call.StoredCall as Stored
use Rattle.rw_journal.specs.contracts.stored_call.StoredCallCallFormChanCall.TheImpl as form
use Rattle.rw_journal.proofs.Sends.{ledger_send}
use Rattle.rw_journal.proofs.stored_call.StoredCall.TheSendSync as stored
use Rattle.rw_desk.proofs.OfKind.{Books}
use Rattle.rw_desk.proofs.pass.Pass.TheSendSync as pass
use Rattle.rw_seat.specs.contracts.boxed_ledger.BoxedLedger as Boxed
use Rattle.rw_seat.specs.contracts.boxed_ledger.BoxedLedger.TheInside as InsideBoxed
use Rattle.rw_seat.specs.contracts.hand_off.HandOff as HandOff
use Rattle.rw_seat.specs.contracts.hand_off.HandSeat as HandSeat
use Rattle.rw_seat.specs.contracts.desk_seat.DeskSeat as Seat
use Rattle.rw_seat.specs.contracts.desk_seat.DeskSeat.TheInside as InsideSeat
use Rattle.rw_seat.specs.contracts.seat_desk.SeatDesk as Desk
use Rattle.rw_seat.specs.contracts.seat_desk.SeatDesk.TheInside as InsideDesk
use Rattle.rw_seat.proofs.hand_off.HandOff.TheSendSync as hand_off
use Rattle.rw_seat.proofs.hand_off.HandSeat.TheSendSync as hand_seat

module _ (V : RattleType) (p : payload.Ghosts V.Denot) (k : clone.Ghosts V.Denot) where
  abbrev ledger : RattleType
  ledger = Ledger.the_row (Chan.the_row V) (Stored.the_row V) (Call.the_row V) (Reply.the_row V) (Patch.the_row V)
      (machine.ghosts V k machine.no_dict) (form.ghosts V k form.no_dict)

  abbrev boxed : RattleType
  boxed = Boxed.the_row V p k

  abbrev entry : RattleType
  entry = Entry.the_row (Chan.the_row V) (Call.the_row V) (Reply.the_row V) (Patch.the_row V)

  abbrev kept : keeps.Ghosts boxed.Denot entry.Denot (Chan.the_row V).Denot
  kept = record { author = λ (e : ChanEntry V.Denot). e.actor; start = λ (b : Books V.Denot). b.opening; journal = λ (b : Books V.Denot). b.entries }

  module _ (s : IsSend V) where
    ledger_sent : IsSend ledger
    ledger_sent =
        ledger_send (Chan.the_row V) (Stored.the_row V) (Call.the_row V) (Reply.the_row V) (Patch.the_row V)
        (machine.ghosts V k machine.no_dict) (form.ghosts V k form.no_dict) (chan.the_send V s) (stored.the_send V s)

    boxed_inside_sent : IsSend (InsideBoxed.the_row V p k)
    boxed_inside_sent =
        recorded_send (InsideBoxed.the_field V p k).row _ _ (InsideBoxed.the_type V p k).to_one
        (struct_send (Declared.shape (InsideBoxed.the_type V p k)) (Box-send ledger ledger_sent, tt))

    boxed_sent : IsSend boxed
    boxed_sent = view_send (InsideBoxed.the_row V p k) _ _ _ _ boxed_inside_sent

    hand_sent : IsSend (HandSeat.the_row boxed entry (Chan.the_row V) kept)
    hand_sent = hand_seat.the_send boxed entry (Chan.the_row V) kept boxed_sent

    inside_sent : IsSend (InsideSeat.the_row V p k)
    inside_sent =
        recorded_send (InsideSeat.the_field V p k).row _ _ (InsideSeat.the_type V p k).to_one
        (struct_send (Declared.shape (InsideSeat.the_type V p k))
        (pass.the_send V s, (Vec-send (HandSeat.the_row boxed entry (Chan.the_row V) kept) hand_sent, tt)))

    pub seat_sent : IsSend (Seat.the_row V p k)
    seat_sent = view_send (InsideSeat.the_row V p k) _ _ _ _ inside_sent

    hand_off_shared : IsSync (HandOff.the_row boxed entry (Chan.the_row V) kept)
    hand_off_shared = hand_off.the_sync boxed entry (Chan.the_row V) kept boxed_sent

    module _ (y : IsSync V) where
      inside_shared : IsSync (InsideDesk.the_row V p k)
      inside_shared =
          recorded_sync (InsideDesk.the_field V p k).row _ _ (InsideDesk.the_type V p k).to_one
          (struct_sync (Declared.shape (InsideDesk.the_type V p k)) (
            Vec-sync (Spec.the_row V) (spec.the_sync V y),
            (plain_sync _ _ _ _ _, (Vec-sync (HandOff.the_row boxed entry (Chan.the_row V) kept) hand_off_shared, tt)),
          ))

      pub desk_shared : IsSync (Desk.the_row V p k)
      desk_shared = view_sync (InsideDesk.the_row V p k) _ _ _ _ inside_shared
