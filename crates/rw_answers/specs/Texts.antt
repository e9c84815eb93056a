-- Texts that are put together from others.
use Rattle.std.specs.Prelude.{◌≡◌, ℕ, zero, suc, List, [], ◌++◌}

-- a text of this kind was appended
abbrev pub Appended : (old new : List ℕ) → (List ℕ → Type 0) → Type 0
Appended old new Is = (text : List ℕ) × (new ≡ old ++ text) × Is text

-- the text is that of the first channels, in order
abbrev pub AreTexts : ((channel : ℕ) → List ℕ → Type 0) → (channels : ℕ) → List ℕ → Type 0
AreTexts Is zero text = text ≡ []
AreTexts Is (suc channel) text = (front : List ℕ) × (last : List ℕ) × AreTexts Is channel front × Is channel last × (text ≡ front ++ last)
