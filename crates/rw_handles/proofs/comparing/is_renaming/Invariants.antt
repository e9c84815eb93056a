use Rattle.std.proofs.Common.{take}
use Rattle.rw_handles.proofs.Taking.{AreTaken}
use Rattle.rw_handles.proofs.comparing.is_renaming.Given as goal

abbrev pub invariant-loop-h : goal.invariant-loop-h
invariant-loop-h l = AreTaken (take l.h l.numbers) (take l.h l.first) l.fn.second.items l.left.items
