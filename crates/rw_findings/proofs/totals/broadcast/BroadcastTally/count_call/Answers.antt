use Rattle.std.proofs.Common.{◌≡◌, ℕ, sym}
use Rattle.std.specs.Prelude.{Option, Some, None, option_and_then}
use Rattle.rw_broadcast.specs.declared.calls.BCall.{BCall}
use Rattle.rw_findings.specs.LossTracks.{subject}
use Rattle.rw_findings.specs.declared.totals.broadcast.Reader.{Reader}
use Rattle.rw_findings.specs.BroadcastTallies.{BroadcastTally, HasRoom, HasRoomFor, reader_in, reader_of}
use Rattle.rw_findings.proofs.totals.broadcast.BroadcastTally.count_call.Goals as goal

-- there is room for the receiver of a call
room : {V : Type 0} (t : BroadcastTally) (call : BCall V) (r : Reader) → HasRoom t → Some r ≡ reader_of t call → HasRoomFor t r
room t call r has found = by_subject (subject call) found where
  by_subject : (o : Option ℕ) → Some r ≡ option_and_then (λ h. reader_in t h) o → HasRoomFor t r
  by_subject None found = absurd cc
  by_subject (Some h) found = has.readers h r (sym found)

pub after_value-requires : goal.after_value-requires
after_value-requires g c = (room c.args.self.now c.args.call.now c.in-Some.reader c.requires c.in-Some.ensures).received

pub after_lag-requires : goal.after_lag-requires
after_lag-requires g c = room c.args.self.now c.args.call.now c.in-Some-reader_of.reader c.requires c.in-Some-reader_of.ensures

pub after_drop-requires : goal.after_drop-requires
after_drop-requires g c = room c.args.self.now c.args.call.now c.in-Some-reader_of-2.reader c.requires c.in-Some-reader_of-2.ensures
