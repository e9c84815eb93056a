-- The rule of a hand-off: one word, 0 while the book is free and 1 while a seat has it; one slot; and what the seats have seen.
use Rattle.std.specs.Prelude.{◌≡◌, ◌≢◌, ◌⊎◌, ℕ, zero, suc, ◌+◌, ◌<◌, List, [], ◌∷◌, ◌++◌, Bool, true, false, Option, Some, None, take, drop}
use mathlib.Core.Option.{some, none}
use lib.ListN.{get_elem?}
use Rattle.atomic_table.specs.Table.{State, Me, Step}
use Rattle.rw_seat.specs.Journals.{IsIn, Apart, Distinct, StartsWith, longer, IsQuiet}
use Rattle.rw_seat.specs.declared.view.View.{View}
use Rattle.rw_seat.specs.declared.view.Old.{Old}

-- the numbers from n on, k of them
abbrev pub numbers_from : ℕ → ℕ → List ℕ
numbers_from n zero = []
numbers_from n (suc k) = n ∷ numbers_from (n + 1) k

module _ {E S : Type 0} where
  abbrev pub view_of : List ℕ → Option S → List E → Bool → List (Old E) → View E S
  view_of ns o f held olds = record { numbers = ns; start = o; front = f; held = held; olds = olds }

  -- a view without the book and without old fronts
  abbrev pub resting : List ℕ → Option S → List E → View E S
  resting ns o f = view_of ns o f false []

  -- the view of a seat after it has joined another
  abbrev pub spent_view : View E S
  spent_view = resting [] None []

  abbrev pub old_of : View E S → Old E
  old_of v = record { numbers = v.numbers; front = v.front }

  -- the numbers of both, the longer front, and both fronts as old ones
  abbrev pub joined_view : View E S → View E S → View E S
  joined_view v w = view_of (v.numbers ++ w.numbers) v.start (longer v.front w.front) false (old_of v ∷ old_of w ∷ (v.olds ++ w.olds))

  -- the first number, and the others
  abbrev pub first_part : View E S → View E S
  first_part v = resting (take 1 v.numbers) v.start v.front

  abbrev pub other_part : View E S → View E S
  other_part v = resting (drop 1 v.numbers) v.start v.front

-- no number is in two views
abbrev pub AreApart : {E S : Type 0} → List (View E S) → Type 0
AreApart {E} {S} views = (i j : ℕ) (v w : View E S) → i ≢ j → get_elem? views i ≡ some v → get_elem? views j ≡ some w → Apart v.numbers w.numbers

module _ {E : Type 0} (author : E → ℕ) where
  -- each old front has numbers of ns and is a prefix of f, and h goes on from it with no entry by its numbers
  abbrev pub OldsFit : List E → List ℕ → List E → List (Old E) → Type 0
  OldsFit h ns f [] = Unit {0}
  OldsFit h ns f (o ∷ os) = ((n : ℕ) → IsIn n o.numbers → IsIn n ns) × StartsWith f o.front × IsQuiet author o.numbers o.front h × OldsFit h ns f os

module _ {E S : Type 0} (author : E → ℕ) where
  -- the view fits the journal h
  abbrev pub Fits : List E → View E S → Type 0
  Fits h v = IsQuiet author v.numbers v.front h × OldsFit author h v.numbers v.front v.olds

  -- Each view fits the journal h. Its numbers are below the number of seats, none of them twice, and none is in another view. A view with a
  -- number knows what the journal starts from.
  pub record Agree (o : S) (h : List E) (seats : ℕ) (views : List (View E S)) : Type 0 where
    pub fits : (j : ℕ) (v : View E S) → get_elem? views j ≡ some v → Fits h v
    pub apart : AreApart views
    pub below : (j : ℕ) (v : View E S) → get_elem? views j ≡ some v → (n : ℕ) → IsIn n v.numbers → n < seats
    pub distinct : (j : ℕ) (v : View E S) → get_elem? views j ≡ some v → Distinct v.numbers
    pub started : (j : ℕ) (v : View E S) → get_elem? views j ≡ some v → (n : ℕ) → IsIn n v.numbers → v.start ≡ Some o

module _ {B E S : Type 0} (author : E → ℕ) (start : B → S) (journal : B → List E) where
  -- the word is 0, the slot has a book with the journal h from o, and no seat has the book
  abbrev pub AtHome : S → List E → State (Option B) (View E S) → Type 0
  AtHome o h s =
      (b : B)
      × (s.words ≡ 0 ∷ [])
      × (s.homes ≡ some (Some b) ∷ [])
      × (start b ≡ o)
      × (journal b ≡ h)
      × ((j : ℕ) (v : View E S) → get_elem? s.views j ≡ some v → v.held ≡ false)

  -- the word is 1, one seat with a number has the book, and the front that it noted is h
  abbrev pub IsOut : S → List E → State (Option B) (View E S) → Type 0
  IsOut o h s =
      (i : ℕ) × (n : ℕ) × (ns : List ℕ) × (s.words ≡ 1 ∷ []) × (s.homes ≡ none ∷ []) × (get_elem? s.views i ≡ some (view_of (n ∷ ns) (Some o) h true []))
      × ((j : ℕ) (v : View E S) → get_elem? s.views j ≡ some v → v.held ≡ true → j ≡ i)

  abbrev pub HasOneBook : S → ℕ → State (Option B) (View E S) → Type 0
  HasOneBook o seats s = (h : List E) × Agree author o h seats s.views × (AtHome o h s ⊎ IsOut o h s)

  -- an acquire that succeeds: the seat gets the slot with a book, which starts as the seat knows, and whose journal fits the seat's front
  -- and each old one
  abbrev pub HasAcquired : Me (Option B) (View E S) → Me (Option B) (View E S) → Type 0
  HasAcquired m w =
      (b : B)
      × (w ≡ (view_of m.0.numbers m.0.start (journal b) true [], (0, Some b) ∷ []))
      × (m.0.start ≡ Some (start b))
      × Fits author (journal b) m.0

  abbrev pub Acquires : Step (Option B) → Me (Option B) (View E S) → ℕ → Me (Option B) (View E S) → Type 0
  Acquires st m found w = (found ≡ 0 → HasAcquired m w) × (found ≢ 0 → w ≡ m)

  -- a release: the seat's front is then the book's journal
  abbrev pub Releases : Step (Option B) → Me (Option B) (View E S) → ℕ → Me (Option B) (View E S) → Type 0
  Releases st m found w = (b : B) → m.1 ≡ (0, Some b) ∷ [] → w ≡ (resting m.0.numbers m.0.start (journal b), [])

module _ {B E S : Type 0} where
  -- a seat of one number, without the book
  abbrev pub HasOne : ℕ → Me (Option B) (View E S) → Type 0
  HasOne n m = m ≡ (resting (n ∷ []) m.0.start m.0.front, [])

  -- a seat of one number that has the slot, whose book is lent
  abbrev pub Holds : ℕ → Me (Option B) (View E S) → Type 0
  Holds n m = m ≡ (view_of (n ∷ []) m.0.start m.0.front true [], (0, None) ∷ [])

module _ {E : Type 0} (author : E → ℕ) where
  abbrev pub OldsKnown : List E → List (Old E) → Type 0
  OldsKnown h [] = Unit {0}
  OldsKnown h (o ∷ os) = IsQuiet author o.numbers o.front h × OldsKnown h os

module _ {E S : Type 0} (author : E → ℕ) where
  -- what a view and its old fronts imply of the journal h
  abbrev pub Known : List E → View E S → Type 0
  Known h v = IsQuiet author v.numbers v.front h × OldsKnown author h v.olds
