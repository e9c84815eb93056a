-- A recording may cross threads, since all that it has may.
use denote.Builtin.{u64}
use denote.Param.Send.{IsSend, struct_send, recorded_send, view_send, sendable}
use denote.Struct.Declared as Declared
use Rattle.std.proofs.Crossing.{crosses}
use Rattle.std.specs.contracts.prelude.U64Clone.TheImpl as number
use Rattle.rw_journal.specs.contracts.ledger.Ledger as Ledger
use Rattle.rw_journal.proofs.Sends.{ledger_send}
use Rattle.rw_world.specs.contracts.channels.Chan as C
use Rattle.rw_world.specs.contracts.channels.ChanCall as CC
use Rattle.rw_world.specs.contracts.channels.ChanReply as CR
use Rattle.rw_world.specs.contracts.channels.ChanPatch as CP
use Rattle.rw_world.specs.contracts.channels.ChanReversible.TheImpl as chan
use Rattle.rw_world.proofs.channels.Chan.TheSendSync as Chan
use Rattle.rw_recording.proofs.recording.Ended.TheSendSync as Ended
use Rattle.rw_journal.proofs.stored_call.StoredCall.TheSendSync as Stored
use Rattle.rw_journal.specs.contracts.stored_call.StoredCall as S
use Rattle.rw_journal.specs.contracts.stored_call.StoredCallCallFormChanCall.TheImpl as form
use Rattle.rw_recording.specs.contracts.recording.Recording as Recording
use Rattle.rw_recording.specs.contracts.recording.Recording.TheInside as Inside

chan_send : IsSend (C.the_row u64)
chan_send = search (sendable, crosses, Chan.the_send) depth 20

stored_send : IsSend (S.the_row u64)
stored_send = search (sendable, crosses, Stored.the_send) depth 20

recorded_ledger_send : IsSend (Ledger.the_row (C.the_row u64) (S.the_row u64) (CC.the_row u64) (CR.the_row u64) (CP.the_row u64)
    (chan.ghosts u64 number.ghosts chan.no_dict) (form.ghosts u64 number.ghosts form.no_dict))
recorded_ledger_send = ledger_send (C.the_row u64) (S.the_row u64) (CC.the_row u64) (CR.the_row u64) (CP.the_row u64)
    (chan.ghosts u64 number.ghosts chan.no_dict) (form.ghosts u64 number.ghosts form.no_dict) chan_send stored_send

inside_send : IsSend Inside.the_row
inside_send =
    recorded_send (Inside.the_field).row _ _ (Inside.the_type).to_one
    (struct_send (Declared.shape Inside.the_type)
    (search sendable depth 20, (search (sendable, recorded_ledger_send) depth 20, (search (sendable, crosses, Ended.the_send) depth 20, tt))))

pub recording_send : IsSend Recording.the_row
recording_send = view_send Inside.the_row _ _ _ _ inside_send
