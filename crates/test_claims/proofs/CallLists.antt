-- Lists of calls with one more call.
use Rattle.std.proofs.Common.{◌≡◌, ℕ, ◌+◌, ◌<◌, ◌≤◌, List, [], ◌∷◌, ◌++◌, length, take, get_or, Some, refl, arith}
use Rattle.std.proofs.lemmas.List.{take_more}
use Rattle.rw_law.specs.declared.machine.Reversible.{Ghosts}
use Rattle.rw_law.specs.Journal.{LawsOf}
use Rattle.test_claims.specs.Calls.{after_calls, last_reply}

module _ {M C R P : Type 0} (m : Ghosts M C R P) where
  after_calls-push : (x : m.View) (cs : List C) (c : C) → after_calls m x (cs ++ c ∷ []) ≡ m.next (after_calls m x cs) c
  after_calls-push x [] c = refl
  after_calls-push x (d ∷ cs) c = after_calls-push (m.next x d) cs c

  -- one more call was made
  pub after_more : (x : m.View) (cs : List C) (k : ℕ) (c : C) → k < length cs → c ≡ get_or cs k c
      → after_calls m x (take (k + 1) cs) ≡ m.next (after_calls m x (take k cs)) c
  after_more x cs k c inside read =
      rw (take_more cs k c inside, ← read) (after_calls-push x (take k cs) c)

  last_reply-push : (x : m.View) (cs : List C) (c : C) → last_reply m x (cs ++ c ∷ []) ≡ Some (m.reply_of (after_calls m x cs) c)
  last_reply-push x [] c = refl
  last_reply-push x (d ∷ []) c = refl
  last_reply-push x (d ∷ (e ∷ cs)) c = last_reply-push (m.next x d) (e ∷ cs) c

  pub last_more : (x : m.View) (cs : List C) (k : ℕ) (c : C) → k < length cs → c ≡ get_or cs k c
      → last_reply m x (take (k + 1) cs) ≡ Some (m.reply_of (after_calls m x (take k cs)) c)
  last_more x cs k c inside read =
      rw (take_more cs k c inside, ← read) (last_reply-push x (take k cs) c)

  module _ (laws : LawsOf m) where
    pub allowed_after : (x : m.View) (cs : List C) → m.allowed x → m.allowed (after_calls m x cs)
    allowed_after x [] a = a
    allowed_after x (c ∷ cs) a = allowed_after (m.next x c) cs (laws.next_allowed x c a)

    -- each call adds at most one to the weight
    pub weigh_after : (x : m.View) (cs : List C) → m.allowed x → m.weigh (after_calls m x cs) ≤ m.weigh x + length cs
    weigh_after x [] a = omega arith
    weigh_after x (c ∷ cs) a = omega (arith, laws.weight_rises x c a, weigh_after (m.next x c) cs (laws.next_allowed x c a))
