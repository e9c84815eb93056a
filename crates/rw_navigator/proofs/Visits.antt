-- What is known of a visit's machine, and how one step of the machine moves the visit.
use Rattle.std.proofs.Common.{◌≡◌, ℕ, ◌+◌, ◌-◌, ◌^◌, ◌<◌, ◌≤◌, List, length, take, get_or, refl, sym, ◌∙◌, ap, subst, arith}
use Rattle.std.proofs.Math.Seq.{take-length}
use Rattle.rw_law.specs.declared.machine.Reversible.{Ghosts}
use Rattle.rw_law.specs.declared.journal.Entry.{Entry}
use Rattle.rw_law.specs.Journal.{after_all, after, IsLegal, before_all, LawsOf}
use Rattle.rw_law.specs.Room.{HasRoom}
use Rattle.rw_law.proofs.Journals.{before_all-after, after_more, fits_at, back_at}
use Rattle.rw_law.proofs.Rooms.{room_for, room_ahead}
use Rattle.rw_navigator.specs.Counted.{Counted, count_after}
use Rattle.rw_navigator.specs.Navigator.{Navigator, IsAtEnd, IsNavigator, MovedTo, start_of}

module _ {M C R P : Type 0} (m : Ghosts M C R P) where
  abbrev pub visit : Counted M → List (Entry M C R P) → ℕ → Navigator M C R P
  visit k es p = record { machine = k; entries = es; place = p }

  -- a visit that stays has moved by 0 calls
  pub unmoved : (v : Navigator M C R P) → IsNavigator m v → MovedTo m v v v.place 0
  unmoved v i =
      let small : v.machine.turns ≤ 2 ^ 64 - 1 = i.counted in
      record { start = refl; entries = refl; place = refl; shows = i.shows; turns = omega arith }

  -- one move after another
  pub moved_on : (u v w : Navigator M C R P) (p q n k : ℕ) → MovedTo m u v p n → MovedTo m v w q k → MovedTo m u w q (n + k)
  moved_on u v w p q n k a b =
      let first : v.machine.turns ≡ count_after u.machine.turns n = a.turns in
      let second : w.machine.turns ≡ count_after v.machine.turns k = b.turns in
      record {
        start = b.start ∙ a.start;
        entries = b.entries ∙ a.entries;
        place = b.place;
        shows = b.shows ∙ (ap (λ o. after m o v.entries q) a.start ∙ ap (λ es. after m (start_of m u) es q) a.entries);
        turns = omega arith;
      }

  -- a move and one place more, towards the start and towards the end
  pub back_one : (u v w : Navigator M C R P) (p q n k : ℕ) → MovedTo m u v p n → MovedTo m v w (v.place - 1) 1 → q ≡ p - 1 → k ≡ n + 1 → MovedTo m u w q k
  back_one u v w p q n k a b e f =
      let whole : MovedTo m u w (p - 1) (n + 1) = moved_on u v w p (p - 1) n 1 a (subst (λ r. MovedTo m v w (r - 1) 1) a.place b) in
      subst (λ r. MovedTo m u w r k) (sym e) (subst (λ j. MovedTo m u w (p - 1) j) (sym f) whole)

  pub on_one : (u v w : Navigator M C R P) (p q n k : ℕ) → MovedTo m u v p n → MovedTo m v w (v.place + 1) 1 → q ≡ p + 1 → k ≡ n + 1 → MovedTo m u w q k
  on_one u v w p q n k a b e f =
      let whole : MovedTo m u w (p + 1) (n + 1) = moved_on u v w p (p + 1) n 1 a (subst (λ r. MovedTo m v w (r + 1) 1) a.place b) in
      subst (λ r. MovedTo m u w r k) (sym e) (subst (λ j. MovedTo m u w (p + 1) j) (sym f) whole)

  -- the machine has room for every entry that is left
  pub room_at : (v : Navigator M C R P) → IsNavigator m v → v.place < length v.entries → m.weigh (m.shown v.machine.state) < m.reserved v.machine.state
  room_at v i h = rw i.shows (room_for m (start_of m v) v.entries (m.reserved v.machine.state) v.place i.room h)

  module _ (laws : LawsOf m) where
    -- where the machine shows the state of a place, the journal's start is what undoing leads to
    start_at : (o : m.View) (v : Navigator M C R P) → m.allowed o → IsLegal m o v.entries → m.shown v.machine.state ≡ after m o v.entries v.place
        → start_of m v ≡ o
    start_at o v a l h = ap (λ x. before_all m x (take v.place v.entries)) h ∙ before_all-after m laws o v.entries v.place a l

    -- a machine that shows the start of a journal, with room for its calls, visits its first place
    pub at_first : (k : Counted M) (es : List (Entry M C R P)) (x : m.View) → m.shown k.state ≡ x → m.allowed x → IsLegal m x es
        → m.weigh x + length es ≤ m.reserved k.state → k.turns ≡ 0 → IsNavigator m (visit k es 0)
    at_first k es x shows allowed legal room turns = record {
      allowed = subst m.allowed (sym shows) allowed;
      legal = subst (λ y. IsLegal m y es) (sym shows) legal;
      shows = refl;
      inside = omega arith;
      counted = omega arith;
      room = subst (λ y. HasRoom m y es (m.reserved k.state)) (sym shows) (room_ahead m laws x es (m.reserved k.state) allowed room);
    }

    -- a machine that has made the calls of a journal visits its last place
    module _ (k : Counted M) (es : List (Entry M C R P)) (p : ℕ) (x : m.View) (made : IsAtEnd m x k.state es) (last : p ≡ length es) where
      shows_last : m.shown k.state ≡ after m x es p
      shows_last = made.shows ∙ sym (ap (after_all m x) (ap (λ n. take n es) last ∙ take-length es))

      pub start_at_last : start_of m (visit k es p) ≡ x
      start_at_last = start_at x (visit k es p) made.allowed made.legal shows_last

      pub at_last : k.turns ≡ 0 → IsNavigator m (visit k es p)
      at_last turns = record {
        allowed = subst m.allowed (sym start_at_last) made.allowed;
        legal = subst (λ y. IsLegal m y es) (sym start_at_last) made.legal;
        shows = shows_last ∙ sym (ap (λ y. after m y es p) start_at_last);
        inside = omega arith;
        counted = omega arith;
        room = subst (λ y. HasRoom m y es (m.reserved k.state)) (sym start_at_last) made.room;
      }

    -- one call of the machine that leads to the state of place q moves the visit there
    module _ (k k' : Counted M) (es : List (Entry M C R P)) (p q : ℕ) (old : IsNavigator m (visit k es p)) (inside : q ≤ length es)
        (shows : m.shown k'.state ≡ after m (start_of m (visit k es p)) es q)
        (turns : k'.turns ≡ count_after k.turns 1) (room : m.reserved k'.state ≡ m.reserved k.state) where
      start_kept : start_of m (visit k' es q) ≡ start_of m (visit k es p)
      start_kept = start_at (start_of m (visit k es p)) (visit k' es q) old.allowed old.legal shows

      still_visit : IsNavigator m (visit k' es q)
      still_visit =
          let o : m.View = start_of m (visit k es p) in
          let same : start_of m (visit k' es q) ≡ o = start_kept in
          record {
            allowed = subst m.allowed (sym same) old.allowed;
            legal = subst (λ x. IsLegal m x es) (sym same) old.legal;
            shows = shows ∙ ap (λ x. after m x es q) (sym same);
            inside = inside;
            counted = omega arith;
            room = subst (λ x. HasRoom m x es (m.reserved k'.state)) (sym same) (subst (λ n. HasRoom m o es n) (sym room) old.room);
          }

      carried : IsNavigator m (visit k' es q) × MovedTo m (visit k es p) (visit k' es q) q 1
      carried = (still_visit, record { start = start_kept; entries = refl; place = refl; shows = shows; turns = turns })

    module _ (k : Counted M) (es : List (Entry M C R P)) (e : Entry M C R P) (p q : ℕ) (next : q ≡ p + 1) (read : e ≡ get_or es p e)
        (inside : p < length es) where
      -- redoing the entry at the place leads to the next place
      pub advanced : (k' : Counted M) → IsNavigator m (visit k es p) → m.shown k'.state ≡ m.next (m.shown k.state) e.call
          → k'.turns ≡ count_after k.turns 1 → m.reserved k'.state ≡ m.reserved k.state
          → IsNavigator m (visit k' es q) × MovedTo m (visit k es p) (visit k' es q) q 1
      advanced k' old step turns room =
          let o : m.View = start_of m (visit k es p) in
          let shows : m.shown k'.state ≡ after m o es q =
          step
          ∙ (ap (λ x. m.next x e.call) old.shows
          ∙ (ap (λ f. m.next (after m o es p) f.call) read ∙ (sym (after_more m o es p e inside) ∙ ap (after m o es) (sym next)))) in
          carried k k' es p q old (omega arith) shows turns room

      -- the state of the place is that after the entry before it
      here : (old : IsNavigator m (visit k es q)) → m.shown k.state ≡ after m (start_of m (visit k es q)) es (p + 1)
      here old = old.shows ∙ ap (after m (start_of m (visit k es q)) es) next

      -- the patch of the entry before the place fits
      pub fits_back : IsNavigator m (visit k es q) → m.fits (m.shown k.state) e.call e.patch
      fits_back old =
          let o : m.View = start_of m (visit k es q) in
          subst (λ x. m.fits x e.call e.patch) (sym (here old))
          (subst (λ f. m.fits (after m o es (p + 1)) f.call f.patch) (sym read) (fits_at m laws o es p e old.allowed old.legal inside))

      -- undoing that entry leads to the place before
      pub retreated : (k' : Counted M) → IsNavigator m (visit k es q) → m.shown k'.state ≡ m.back (m.shown k.state) e.call e.patch
          → k'.turns ≡ count_after k.turns 1 → m.reserved k'.state ≡ m.reserved k.state
          → IsNavigator m (visit k' es p) × MovedTo m (visit k es q) (visit k' es p) p 1
      retreated k' old step turns room =
          let o : m.View = start_of m (visit k es q) in
          let shows : m.shown k'.state ≡ after m o es p =
          step
          ∙ (ap (λ x. m.back x e.call e.patch) (here old)
          ∙ (ap (λ f. m.back (after m o es (p + 1)) f.call f.patch) read ∙ back_at m laws o es p e old.allowed old.legal inside)) in
          carried k k' es q p old (omega arith) shows turns room
