use Rattle.rw_recording.proofs.History.{joined_are_last, kept_are_last, past_is_end, skipped_are_last, windows_show_history}
use Rattle.rw_recording.proofs.laws.windows_show_history.Goals as goal

pub returns : goal.returns
returns c = record { kept = kept_are_last; skipped = skipped_are_last; past = past_is_end; joined = joined_are_last; window = windows_show_history }
