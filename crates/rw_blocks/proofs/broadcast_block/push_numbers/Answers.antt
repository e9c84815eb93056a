use Rattle.std.proofs.lemmas.Result.{on_ok_weaker}
use Rattle.rw_blocks.specs.BroadcastBlock.{channel_numbers}
use Rattle.rw_blocks.proofs.Written.{five_written}
use Rattle.rw_blocks.proofs.broadcast_block.push_numbers.Goals as goal

pub returns : goal.returns
unfolding channel_numbers
returns c =
    let number = c.in_ok-push_with_number.ensures in
    let capacity = rw c.capacity.ensures at c.in_ok-push_with_number-2.ensures in
    let sent = rw c.sent.ensures at c.in_ok-push_with_number-3.ensures in
    let queued = rw c.queued.ensures at c.in_ok-push_with_number-4.ensures in
    on_ok_weaker c.push_with_number-5.result (λ made. five_written _ _ _ _ _ _ number capacity sent queued made)
    (rw (c.from.ensures, c.made.ensures) at c.push_with_number-5.ensures)
