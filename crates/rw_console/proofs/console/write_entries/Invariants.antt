use Rattle.rw_console.proofs.Listing.{Listing}
use Rattle.rw_console.proofs.console.write_entries.Given as goal

abbrev pub invariant-each_entry : goal.invariant-each_entry
invariant-each_entry g l = Listing (g.W.Write.contents l.fn.writer) (g.W.Write.contents l.writer) l.fn.walk.run l.i
