-- What lists of calls lead to.
use Rattle.std.specs.Prelude.{List, [], ◌∷◌, map, Option, None, Some}
use Rattle.rw_law.specs.declared.machine.Reversible.{Ghosts}
use Rattle.rw_law.specs.declared.journal.Entry.{Entry}

-- the calls of a journal, in order
abbrev pub calls_of : {M C R P : Type 0} → List (Entry M C R P) → List C
calls_of es = map (λ e. e.call) es

-- what is shown after these calls, in order
abbrev pub after_calls : {M C R P : Type 0} → (m : Ghosts M C R P) → m.View → List C → m.View
after_calls m x [] = x
after_calls m x (c ∷ cs) = after_calls m (m.next x c) cs

-- the reply to the last of these calls
abbrev pub last_reply : {M C R P : Type 0} → (m : Ghosts M C R P) → m.View → List C → Option R
last_reply m x [] = None
last_reply m x (c ∷ []) = Some (m.reply_of x c)
last_reply m x (c ∷ (d ∷ cs)) = last_reply m (m.next x c) (d ∷ cs)
