-- Acts of sender 0 lead to what they send and make.
use Rattle.std.proofs.Common.{◌≡◌, ℕ, suc, ◌+◌, ◌<◌, false, cond, List, [], ◌∷◌, ◌++◌, length, fold, ap, sym, ◌∙◌, arith}
use Rattle.std.specs.Prelude.{nat_le, ◌==◌}
use Rattle.std.proofs.lemmas.Bool.{lt-leb}
use Rattle.std.proofs.lemmas.Bool.{ne_eqb}
use Rattle.std.proofs.lemmas.List.{append-nil, append_assoc, length_push}
use Rattle.rw_handles.specs.declared.kinds.Kind.{Kind}
use Rattle.rw_handles.specs.declared.kinds.Kind.TheVariants.{Sender, Receiver, Weak}
use Rattle.rw_handles.specs.declared.kinds.Slot.{Slot}
use Rattle.rw_handles.specs.declared.kinds.Slot.TheVariants.{Live}
use Rattle.rw_handles.specs.declared.table.TheConstants.{MOST_HANDLES}
use Rattle.rw_handles.specs.Slots.{alive, is_alive}
use Rattle.rw_broadcast.specs.Channel.{Change, Append, Make, Keep}
use Rattle.rw_broadcast.specs.declared.calls.BCall.TheVariants as call
use Rattle.rw_broadcast.specs.declared.calls.BReply.{BReply}
use Rattle.rw_broadcast.specs.declared.calls.BReply.TheVariants.{Sent, NoReceivers, New, TooManyHandles}
use Rattle.rw_broadcast.specs.Record.{with_change, step, after}
use Rattle.rw_broadcast.specs.Leading.{Sends, MakesReceiver, MakesSender, MakesWeak, calls_of, sent_by, made_by, grown, LeadsTo}

-- a count from a is a more
count_more : (kind : Kind) (a : ℕ) (xs : List (Slot ℕ)) → fold (λ a s. a + cond (is_alive kind s) 1 0) a xs ≡ a + alive kind xs
count_more kind a [] = omega arith
count_more kind a (x ∷ xs) =
    let one = cond (is_alive kind x) 1 0 in
    let here = count_more kind (a + one) xs in
    let there = count_more kind (0 + one) xs in
    omega (arith, here, there)

module _ {V : Type 0} where
  -- while receiver 1 is alive, a value is sent
  sends : (capacity : ℕ) (sent : List V) (made : List (Slot ℕ)) (v : V)
      → (step (grown capacity sent made) (call.Send 0 v)).0 ≡ grown capacity (sent ++ v ∷ []) made
  sends capacity sent made v =
      let many = alive Receiver (Live Sender 0 ∷ Live Receiver 0 ∷ made) in
      let some : many ≡ 1 + alive Receiver made = count_more Receiver 1 made in
      let not_none : (many == 0) ≡ false = ne_eqb many 0 (λ none. omega (arith, some, none)) in
      ap (λ b. with_change (grown capacity sent made) (cond {A = Change V × BReply V} b (Keep, NoReceivers v) (Append v, Sent many)).0) not_none

  -- while few handles were made, one is made
  makes_one : (capacity : ℕ) (sent : List V) (made : List (Slot ℕ)) (kind : Kind) (p : ℕ)
      → length made + 2 < MOST_HANDLES
      → with_change (grown capacity sent made)
      (cond {A = Change V × BReply V} (nat_le MOST_HANDLES (suc (suc (length made)))) (Keep, TooManyHandles) (Make kind p, New (suc (suc (length made))))).0
      ≡ grown capacity sent (made ++ Live kind p ∷ [])
  makes_one capacity sent made kind p few =
      ap (λ b. with_change (grown capacity sent made) (cond {A = Change V × BReply V} b (Keep, TooManyHandles) (Make kind p, New (suc (suc (length made))))).0)
      (lt-leb MOST_HANDLES (suc (suc (length made))) (omega (arith, few)))

pub leads_to : (V : Type 0) → LeadsTo V
leads_to V capacity sent made [] few =
    ap (λ s. grown capacity s made) (sym (append-nil sent)) ∙ ap (λ m. grown capacity (sent ++ []) m) (sym (append-nil made))
leads_to V capacity sent made (Sends v ∷ acts) few =
    ap (λ r. after r (calls_of acts)) (sends capacity sent made v)
    ∙ leads_to V capacity (sent ++ v ∷ []) made acts (omega (arith, few))
    ∙ ap (λ s. grown capacity s (made ++ made_by (length (sent ++ v ∷ [])) acts)) (append_assoc sent (v ∷ []) (sent_by acts))
    ∙ ap (λ n. grown capacity (sent ++ v ∷ sent_by acts) (made ++ made_by n acts)) (length_push sent v)
leads_to V capacity sent made (MakesReceiver ∷ acts) few =
    ap (λ r. after r (calls_of acts)) (makes_one capacity sent made Receiver (length sent) (omega (arith, few)))
    ∙ leads_to V capacity sent (made ++ Live Receiver (length sent) ∷ []) acts (omega (arith, few, length_push made (Live Receiver (length sent))))
    ∙ ap (λ m. grown capacity (sent ++ sent_by acts) m) (append_assoc made (Live Receiver (length sent) ∷ []) (made_by (length sent) acts))
leads_to V capacity sent made (MakesSender ∷ acts) few =
    ap (λ r. after r (calls_of acts)) (makes_one capacity sent made Sender 0 (omega (arith, few)))
    ∙ leads_to V capacity sent (made ++ Live Sender 0 ∷ []) acts (omega (arith, few, length_push made (Live Sender 0)))
    ∙ ap (λ m. grown capacity (sent ++ sent_by acts) m) (append_assoc made (Live Sender 0 ∷ []) (made_by (length sent) acts))
leads_to V capacity sent made (MakesWeak ∷ acts) few =
    ap (λ r. after r (calls_of acts)) (makes_one capacity sent made Weak 0 (omega (arith, few)))
    ∙ leads_to V capacity sent (made ++ Live Weak 0 ∷ []) acts (omega (arith, few, length_push made (Live Weak 0)))
    ∙ ap (λ m. grown capacity (sent ++ sent_by acts) m) (append_assoc made (Live Weak 0 ∷ []) (made_by (length sent) acts))
