-- The book that a `Lent` lends.
use Rattle.std.specs.Prelude.{ℕ, List, []}
use Rattle.std.specs.Borrow.{Lends, MutBor, Fml}
use mir.Syntax.{named}
use denote.RattleType.{RattleType}
use Rattle.rw_seat.specs.declared.lent.Lent.{Lent}
use Rattle.rw_seat.specs.contracts.lent.Lent.{the_row}

module _ (T U W : RattleType) (author : U.Denot → ℕ) (start : T.Denot → W.Denot) (journal : T.Denot → List U.Denot) where
  abbrev pub with_book : Lent T.Denot U.Denot W.Denot → T.Denot → Lent T.Denot U.Denot W.Denot
  with_book s w = record s { book = w }

  -- s ends with the book that the borrow r leaves
  abbrev pub LendsBook : MutBor (Lent T.Denot U.Denot W.Denot) → MutBor T.Denot → Fml
  LendsBook s r = Lends
      (the_row (record { mir = named 1; lft = [] }) T U W (record { author = author; start = start; journal = journal }))
      T s r (with_book s.now)
