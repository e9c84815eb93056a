-- Which acts send given values, and make receivers at given positions.
use Rattle.std.specs.Prelude.{◌≡◌, ℕ, ◌+◌, ◌-◌, ◌≤◌, List, [], ◌∷◌, ◌++◌, length, map, take, drop}
use Rattle.rw_handles.specs.declared.kinds.Kind.TheVariants.{Receiver}
use Rattle.rw_handles.specs.declared.kinds.Slot.TheVariants.{Live}
use Rattle.rw_broadcast.specs.Leading.{Act, Sends, MakesReceiver, sent_by, made_by}

-- the positions don't fall, and are from `at` to `end`
abbrev pub Rises : (at : ℕ) → List ℕ → (end : ℕ) → Type 0
Rises at [] end = at ≤ end
Rises at (q ∷ qs) end = (at ≤ q) × Rises q qs end

-- the values are sent, and a receiver is made at each of the positions, where `at` values were sent before
abbrev pub plan : {V : Type 0} → (at : ℕ) → (positions : List ℕ) → (values : List V) → List (Act V)
plan at [] vs = map (λ v. Sends v) vs
plan at (q ∷ qs) vs = map (λ v. Sends v) (take (q - at) vs) ++ MakesReceiver ∷ plan q qs (drop (q - at) vs)

-- a law: the plan sends these values and makes these receivers
abbrev pub DoesWhatIsPlanned : Type 0 → Type 0
DoesWhatIsPlanned V = (at : ℕ) (qs : List ℕ) (vs : List V) → Rises at qs (at + length vs)
    → (sent_by (plan at qs vs) ≡ vs) × (made_by at (plan at qs vs) ≡ map (λ q. Live Receiver q) qs)
