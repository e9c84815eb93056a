use Rattle.std.proofs.Common.{◌≡◌, ◌≢◌, ℕ, List, [], Result, Err, inr, refl, sym, subst, arith, rules}
use Rattle.rw_journal.specs.Run.{Run}
use Rattle.rw_law.specs.Numbers.{numbers}
use Rattle.rw_text.specs.Reading.{Finishes, reading_of}
use Rattle.rw_text.specs.declared.faults.TextFault.{TextFault}
use Rattle.rw_text.specs.declared.faults.TextFault.TheVariants.{Malformed, LimitExceeded, WrongOrder, WrongReply, Truncated, NoMemory}
use Rattle.rw_answers.specs.Pages.{IsWithin, page_of, page_report}
use Rattle.rw_answers.proofs.pages.debug_page.Goals as goal

-- the fault that is returned is that of the text, unless memory ran out
said_fault : (fault : TextFault) (said : Result (Run ℕ) TextFault) → fault ≢ NoMemory → Finishes (Err fault) said → said ≡ Err fault
said_fault (Malformed line) said other is = is
said_fault (LimitExceeded line) said other is = is
said_fault (WrongOrder line) said other is = is
said_fault (WrongReply line) said other is = is
said_fault Truncated said other is = is
said_fault NoMemory said other is = absurd (other refl)

-- of a text with a fault no command is read
within_fault : (journal : List ℕ) (fault : TextFault) (limit : ℕ) (commands : List ℕ) → fault ≢ NoMemory → Finishes (Err fault) (reading_of numbers journal)
    → IsWithin limit (page_of journal) commands
within_fault journal fault limit commands other is =
    subst (λ (r : Result (Run ℕ) TextFault). IsWithin limit (page_report r) commands) (sym (said_fault fault (reading_of numbers journal) other is))
    (inr (record { first = []; rest = commands; parts = refl; few = omega arith; decided = λ more. refl }))

pub returns-in-Err-clause-limit : goal.returns-in-Err-clause-limit
returns-in-Err-clause-limit c = within_fault _ c.in-Err.fault _ _ (search rules) c.in-Err.ensures.exact
