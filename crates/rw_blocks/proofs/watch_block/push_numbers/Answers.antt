use Rattle.std.proofs.lemmas.Result.{on_ok_weaker}
use Rattle.rw_blocks.specs.WatchBlock.{channel_numbers}
use Rattle.rw_blocks.proofs.Written.{four_written}
use Rattle.rw_blocks.proofs.watch_block.push_numbers.Goals as goal

pub returns : goal.returns
unfolding channel_numbers
returns c =
    let number = c.in_ok-push_with_number.ensures in
    let version = rw c.version.ensures at c.in_ok-push_with_number-2.ensures in
    let value = rw c.value.ensures at c.in_ok-push_with_number-3.ensures in
    on_ok_weaker c.push_with_number-4.result (λ made. four_written _ _ _ _ _ number version value made)
    (rw (c.from.ensures, c.made.ensures) at c.push_with_number-4.ensures)
