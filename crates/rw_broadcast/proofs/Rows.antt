-- Worked examples of lists of calls, computed: their replies, and what is shown at some places.
use Rattle.std.proofs.Common.{◌≡◌, ℕ, List, [], ◌∷◌, take, refl}
use Rattle.rw_handles.specs.declared.kinds.Kind.TheVariants.{Sender, Receiver, Weak}
use Rattle.rw_handles.specs.declared.kinds.Slot.TheVariants.{Live, Spent}
use Rattle.rw_broadcast.specs.declared.calls.BCall.{BCall}
use Rattle.rw_broadcast.specs.declared.calls.BCall.TheVariants.{Send, Subscribe, CloneSender, Resubscribe, TryRecv, Recv, DropHandle, SenderLen}
use Rattle.rw_broadcast.specs.declared.calls.BCall.TheVariants.{ReceiverCount, ReceiverLen, Downgrade, Upgrade, CloneWeak}
use Rattle.rw_broadcast.specs.declared.calls.BReply.{BReply}
use Rattle.rw_broadcast.specs.declared.calls.BReply.TheVariants.{Sent, NoReceivers, Value, Lagged, Empty, Closed, Waits, New}
use Rattle.rw_broadcast.specs.declared.calls.BReply.TheVariants.{Dropped, Count, Unknown, Gone, WrongKind, NoSender}
use Rattle.rw_broadcast.specs.Arithmetic.{retained_capacity}
use Rattle.rw_broadcast.specs.Record.{opening_record, replies, after}
use Rattle.rw_broadcast.specs.Shown.{Shown, shown}

-- what a channel of this capacity shows after these calls
abbrev shown_after : ℕ → List (BCall ℕ) → Shown ℕ
shown_after asked calls = shown (after (opening_record asked) calls)

abbrev replies_of : ℕ → List (BCall ℕ) → List (BReply ℕ)
replies_of asked calls = replies (opening_record asked) calls

abbrev overrun_walked_back : List (BCall ℕ)
overrun_walked_back = Send 0 1 ∷ Send 0 2 ∷ Send 0 3 ∷ TryRecv 1 ∷ TryRecv 1 ∷ TryRecv 1 ∷ TryRecv 1 ∷ []

overrun_walked_back-replies : replies_of 2 overrun_walked_back ≡ Sent 1 ∷ Sent 1 ∷ Sent 1 ∷ Lagged 1 ∷ Value 2 ∷ Value 3 ∷ Empty ∷ []
unfolding retained_capacity
overrun_walked_back-replies = refl

overrun_walked_back-at_2 : shown_after 2 (take 2 overrun_walked_back)
    ≡ record { capacity = 2; sent = 2; window = 1 ∷ 2 ∷ []; slots = Live Sender 0 ∷ Live Receiver 0 ∷ [] }
unfolding retained_capacity
overrun_walked_back-at_2 = refl

overrun_walked_back-at_3 : shown_after 2 (take 3 overrun_walked_back)
    ≡ record { capacity = 2; sent = 3; window = 2 ∷ 3 ∷ []; slots = Live Sender 0 ∷ Live Receiver 0 ∷ [] }
unfolding retained_capacity
overrun_walked_back-at_3 = refl

overrun_walked_back-at_7 : shown_after 2 overrun_walked_back
    ≡ record { capacity = 2; sent = 3; window = 2 ∷ 3 ∷ []; slots = Live Sender 0 ∷ Live Receiver 3 ∷ [] }
unfolding retained_capacity
overrun_walked_back-at_7 = refl

abbrev capacity_is_rounded_up : List (BCall ℕ)
capacity_is_rounded_up = Send 0 1 ∷ Send 0 2 ∷ Send 0 3 ∷ Send 0 4 ∷ Send 0 5 ∷ TryRecv 1 ∷ []

capacity_is_rounded_up-replies : replies_of 3 capacity_is_rounded_up ≡ Sent 1 ∷ Sent 1 ∷ Sent 1 ∷ Sent 1 ∷ Sent 1 ∷ Lagged 1 ∷ []
unfolding retained_capacity
capacity_is_rounded_up-replies = refl

capacity_is_rounded_up-at_5 : shown_after 3 (take 5 capacity_is_rounded_up)
    ≡ record { capacity = 4; sent = 5; window = 2 ∷ 3 ∷ 4 ∷ 5 ∷ []; slots = Live Sender 0 ∷ Live Receiver 0 ∷ [] }
unfolding retained_capacity
capacity_is_rounded_up-at_5 = refl

capacity_is_rounded_up-at_6 : shown_after 3 capacity_is_rounded_up
    ≡ record { capacity = 4; sent = 5; window = 2 ∷ 3 ∷ 4 ∷ 5 ∷ []; slots = Live Sender 0 ∷ Live Receiver 1 ∷ [] }
unfolding retained_capacity
capacity_is_rounded_up-at_6 = refl

abbrev lagged_then_closed : List (BCall ℕ)
lagged_then_closed = Send 0 1 ∷ Send 0 2 ∷ DropHandle 0 ∷ TryRecv 1 ∷ TryRecv 1 ∷ TryRecv 1 ∷ []

lagged_then_closed-replies : replies_of 1 lagged_then_closed ≡ Sent 1 ∷ Sent 1 ∷ Dropped ∷ Lagged 1 ∷ Value 2 ∷ Closed ∷ []
unfolding retained_capacity
lagged_then_closed-replies = refl

lagged_then_closed-at_6 : shown_after 1 lagged_then_closed ≡ record { capacity = 1; sent = 2; window = 2 ∷ []; slots = Spent ∷ Live Receiver 2 ∷ [] }
unfolding retained_capacity
lagged_then_closed-at_6 = refl

abbrev send_without_receivers : List (BCall ℕ)
send_without_receivers = DropHandle 1 ∷ Send 0 9 ∷ Subscribe 0 ∷ Send 0 9 ∷ Recv 2 ∷ Recv 2 ∷ ReceiverCount 0 ∷ []

send_without_receivers-replies : replies_of 4 send_without_receivers ≡ Dropped ∷ NoReceivers 9 ∷ New 2 ∷ Sent 1 ∷ Value 9 ∷ Waits ∷ Count 1 ∷ []
unfolding retained_capacity
send_without_receivers-replies = refl

send_without_receivers-at_1 : shown_after 4 (take 1 send_without_receivers) ≡ record { capacity = 4; sent = 0; window = []; slots = Live Sender 0 ∷ Spent ∷ [] }
unfolding retained_capacity
send_without_receivers-at_1 = refl

send_without_receivers-at_2 : shown_after 4 (take 2 send_without_receivers) ≡ shown_after 4 (take 1 send_without_receivers)
unfolding retained_capacity
send_without_receivers-at_2 = refl

abbrev drop_reads_the_rest : List (BCall ℕ)
drop_reads_the_rest = Send 0 5 ∷ Send 0 6 ∷ SenderLen 0 ∷ DropHandle 1 ∷ SenderLen 0 ∷ []

drop_reads_the_rest-replies : replies_of 4 drop_reads_the_rest ≡ Sent 1 ∷ Sent 1 ∷ Count 2 ∷ Dropped ∷ Count 0 ∷ []
unfolding retained_capacity
drop_reads_the_rest-replies = refl

drop_reads_the_rest-at_5 : shown_after 4 drop_reads_the_rest ≡ record { capacity = 4; sent = 2; window = 5 ∷ 6 ∷ []; slots = Live Sender 0 ∷ Spent ∷ [] }
unfolding retained_capacity
drop_reads_the_rest-at_5 = refl

abbrev resubscribe_skips_the_backlog : List (BCall ℕ)
resubscribe_skips_the_backlog = Send 0 1 ∷ Send 0 2 ∷ Send 0 3 ∷ Send 0 4 ∷ Send 0 5 ∷ Resubscribe 1 ∷ Send 0 6 ∷ ReceiverLen 1 ∷ ReceiverLen 2 ∷ []

resubscribe_skips_the_backlog-replies : replies_of 2 resubscribe_skips_the_backlog
    ≡ Sent 1 ∷ Sent 1 ∷ Sent 1 ∷ Sent 1 ∷ Sent 1 ∷ New 2 ∷ Sent 2 ∷ Count 6 ∷ Count 1 ∷ []
unfolding retained_capacity
resubscribe_skips_the_backlog-replies = refl

resubscribe_skips_the_backlog-at_6 : shown_after 2 (take 6 resubscribe_skips_the_backlog)
    ≡ record { capacity = 2; sent = 5; window = 4 ∷ 5 ∷ []; slots = Live Sender 0 ∷ Live Receiver 0 ∷ Live Receiver 5 ∷ [] }
unfolding retained_capacity
resubscribe_skips_the_backlog-at_6 = refl

abbrev sender_len_counts_the_slowest : List (BCall ℕ)
sender_len_counts_the_slowest = Subscribe 0 ∷ Send 0 10 ∷ Send 0 20 ∷ Send 0 30 ∷ SenderLen 0 ∷ Recv 1 ∷ SenderLen 0 ∷ Recv 2 ∷ SenderLen 0 ∷ []

sender_len_counts_the_slowest-replies : replies_of 16 sender_len_counts_the_slowest
    ≡ New 2 ∷ Sent 2 ∷ Sent 2 ∷ Sent 2 ∷ Count 3 ∷ Value 10 ∷ Count 3 ∷ Value 10 ∷ Count 2 ∷ []
unfolding retained_capacity
sender_len_counts_the_slowest-replies = refl

abbrev refused_handles : List (BCall ℕ)
refused_handles = Send 5 1 ∷ Send 1 1 ∷ Recv 0 ∷ DropHandle 1 ∷ Recv 1 ∷ CloneSender 0 ∷ []

refused_handles-replies : replies_of 2 refused_handles ≡ Unknown ∷ WrongKind ∷ WrongKind ∷ Dropped ∷ Gone ∷ New 2 ∷ []
unfolding retained_capacity
refused_handles-replies = refl

refused_handles-at_3 : shown_after 2 (take 3 refused_handles) ≡ shown_after 2 []
unfolding retained_capacity
refused_handles-at_3 = refl

abbrev weak_senders : List (BCall ℕ)
weak_senders = Downgrade 0 ∷ Upgrade 2 ∷ DropHandle 0 ∷ TryRecv 1 ∷ DropHandle 3 ∷ Upgrade 2 ∷ TryRecv 1 ∷ []

weak_senders-replies : replies_of 2 weak_senders ≡ New 2 ∷ New 3 ∷ Dropped ∷ Empty ∷ Dropped ∷ NoSender ∷ Closed ∷ []
unfolding retained_capacity
weak_senders-replies = refl

weak_senders-at_1 : shown_after 2 (take 1 weak_senders)
    ≡ record { capacity = 2; sent = 0; window = []; slots = Live Sender 0 ∷ Live Receiver 0 ∷ Live Weak 0 ∷ [] }
unfolding retained_capacity
weak_senders-at_1 = refl

weak_senders-at_7 : shown_after 2 weak_senders ≡ record { capacity = 2; sent = 0; window = []; slots = Spent ∷ Live Receiver 0 ∷ Live Weak 0 ∷ Spent ∷ [] }
unfolding retained_capacity
weak_senders-at_7 = refl

abbrev weak_senders_refused : List (BCall ℕ)
weak_senders_refused = Downgrade 0 ∷ CloneWeak 2 ∷ Send 2 1 ∷ DropHandle 2 ∷ Upgrade 2 ∷ Upgrade 3 ∷ []

weak_senders_refused-replies : replies_of 2 weak_senders_refused ≡ New 2 ∷ New 3 ∷ WrongKind ∷ Dropped ∷ Gone ∷ New 4 ∷ []
unfolding retained_capacity
weak_senders_refused-replies = refl
