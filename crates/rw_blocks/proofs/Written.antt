-- Lists that are written an item at a time.
use Rattle.std.proofs.Common.{◌≡◌, ◌++◌, ◌∷◌, [], ◌+◌, ◌≤◌, ℕ, zero, suc, List, Option, Some, None, refl}
use Rattle.std.proofs.Common.{sym, ap, ◌∙◌, length, take, add-one, arith, append_assoc}
use Rattle.std.specs.Prelude.{map, option_map, slice_get}
use Rattle.std.specs.List.{flat_map, range_with_len}
use Rattle.std.proofs.lemmas.Grind.{common_steps}
use Rattle.std.proofs.lemmas.List.{append-nil, flat_map_more, length-map, take_all, take_more}
use Rattle.std.proofs.lemmas.Option.{slice_get_within, get_or_from_slice_get, slice_get-map}
use Rattle.rw_handles.specs.declared.kinds.Kind.{Kind}
use Rattle.rw_handles.specs.declared.kinds.Slot.{Slot}
use Rattle.rw_handles.specs.Slots.{kind_at}
use Rattle.rw_broadcast.specs.Machine.{position_at}
use Rattle.rw_broadcast.specs.Shown as b
use Rattle.rw_watch.specs.Machine.{mark_at}
use Rattle.rw_watch.specs.Shown as w
use Rattle.rw_world.specs.Machines.{ChanShown}
use Rattle.rw_blocks.proofs.Lists.{first_more}
use Rattle.rw_blocks.specs.Handles.{handle_word, handle_words}
use Rattle.rw_blocks.specs.BroadcastBlock as broadcast
use Rattle.rw_blocks.specs.WatchBlock as watch
use Rattle.rw_blocks.specs.Blocks.{block_of, channel_block, first_blocks, world_blocks}

-- ---- the items of a list

pub items_more : (f : ℕ → List ℕ) (start out out' xs : List ℕ) (i x : ℕ) → out ≡ start ++ flat_map f (take i xs) → slice_get xs i ≡ Some x → out' ≡ out ++ f x
    → out' ≡ start ++ flat_map f (take (i + 1) xs)
items_more f start out out' xs i x so here more =
    let at : take (i + 1) xs ≡ take i xs ++ x ∷ [] =
    take_more xs i 0 (slice_get_within xs i x here) ∙ ap (λ (y : ℕ). take i xs ++ y ∷ []) (get_or_from_slice_get xs i x 0 here) in
    more ∙ ap (λ (o : List ℕ). o ++ f x) so ∙ flat_map_more f start (take i xs) x ∙ ap (λ (ys : List ℕ). start ++ flat_map f ys) (sym at)

past_end : {A : Type 0} (xs : List A) (i : ℕ) → slice_get xs i ≡ None → length xs ≤ i
past_end [] i none = omega arith
past_end (x ∷ xs) zero none = absurd cc
past_end (x ∷ xs) (suc i) none =
    let h : length xs ≤ i = past_end xs i none in
    omega arith

pub items_all : (f : ℕ → List ℕ) (start out xs : List ℕ) (i : ℕ) → out ≡ start ++ flat_map f (take i xs) → slice_get xs i ≡ None → out ≡ start ++ flat_map f xs
items_all f start out xs i so none = so ∙ ap (λ (ys : List ℕ). start ++ flat_map f ys) (take_all i xs (past_end xs i none))

-- ---- the first numbers

-- what is written for each number, in order
numbers_more : (f : ℕ → List ℕ) (n : ℕ) → flat_map f (range_with_len 0 (n + 1)) ≡ flat_map f (range_with_len 0 n) ++ f n
numbers_more f n = ap (flat_map f) (first_more n) ∙ sym (flat_map_more f [] (range_with_len 0 n) n)

pub handle_words-more : {X : Type 0} (kind : Kind) (slots : List (Slot X)) (n : ℕ)
    → handle_words kind slots (n + 1) ≡ handle_words kind slots n ++ handle_word kind n (kind_at (slice_get slots n))
unfolding handle_words
handle_words-more kind slots n = numbers_more (λ h. handle_word kind h (kind_at (slice_get slots h))) n

pub handle_words-none : {X : Type 0} (kind : Kind) (slots : List (Slot X)) → handle_words kind slots 0 ≡ []
unfolding handle_words
handle_words-none kind slots = refl

pub broadcast_lines-more : (x : b.Shown ℕ) (n : ℕ)
    → broadcast.receiver_lines x (n + 1) ≡ broadcast.receiver_lines x n ++ broadcast.receiver_line x n (position_at (slice_get x.slots n))
unfolding broadcast.receiver_lines
broadcast_lines-more x n = numbers_more (λ h. broadcast.receiver_line x h (position_at (slice_get x.slots h))) n

pub broadcast_lines-none : (x : b.Shown ℕ) → broadcast.receiver_lines x 0 ≡ []
unfolding broadcast.receiver_lines
broadcast_lines-none x = refl

pub watch_lines-more : (x : w.Shown ℕ) (n : ℕ)
    → watch.receiver_lines x (n + 1) ≡ watch.receiver_lines x n ++ watch.receiver_line x n (mark_at (slice_get x.slots n))
unfolding watch.receiver_lines
watch_lines-more x n = numbers_more (λ h. watch.receiver_line x h (mark_at (slice_get x.slots h))) n

pub watch_lines-none : (x : w.Shown ℕ) → watch.receiver_lines x 0 ≡ []
unfolding watch.receiver_lines
watch_lines-none x = refl

pub blocks-more : (xs : List (ChanShown ℕ)) (n : ℕ) → first_blocks xs (n + 1) ≡ first_blocks xs n ++ block_of n (slice_get xs n)
unfolding first_blocks
blocks-more xs n = numbers_more (λ i. block_of i (slice_get xs i)) n

pub blocks-none : (xs : List (ChanShown ℕ)) → first_blocks xs 0 ≡ []
unfolding first_blocks
blocks-none xs = refl

pub blocks_begin : (xs : List (ChanShown ℕ)) (out : List ℕ) → out ≡ out ++ first_blocks xs 0
blocks_begin xs out = sym (append-nil out) ∙ ap (λ (t : List ℕ). out ++ t) (sym (blocks-none xs))

pub blocks_go : {C : Type 0} (f : C → ChanShown ℕ) (cs : List C) (i : ℕ) (c : C) (start out out' : List ℕ) → out ≡ start ++ first_blocks (map f cs) i
    → slice_get cs i ≡ Some c → out' ≡ out ++ channel_block i (f c)
    → out' ≡ start ++ first_blocks (map f cs) (i + 1)
blocks_go f cs i c start out out' so here more =
    let at : slice_get (map f cs) i ≡ Some (f c) = slice_get-map f cs i ∙ ap (option_map f) here in
    let block : first_blocks (map f cs) (i + 1) ≡ first_blocks (map f cs) i ++ channel_block i (f c) =
    blocks-more (map f cs) i ∙ ap (λ (o : Option (ChanShown ℕ)). first_blocks (map f cs) i ++ block_of i o) at in
    more ∙ ap (λ (o : List ℕ). o ++ channel_block i (f c)) so ∙ append_assoc start (first_blocks (map f cs) i) (channel_block i (f c))
    ∙ ap (λ (t : List ℕ). start ++ t) (sym block)

pub blocks_end : {C : Type 0} (f : C → ChanShown ℕ) (cs : List C) (i : ℕ) (start out : List ℕ) → out ≡ start ++ first_blocks (map f cs) i → i ≡ length cs
    → out ≡ start ++ world_blocks (map f cs)
blocks_end f cs i start out so all = so ∙ ap (λ (n : ℕ). start ++ first_blocks (map f cs) n) (all ∙ sym (length-map cs f))

pub ruleset by_number = (handle_words-more, handle_words-none, broadcast_lines-more, broadcast_lines-none, watch_lines-more, watch_lines-none, common_steps)

-- ---- four and five pieces, one after the other

pub four_written : (o0 a b c d : List ℕ) {o1 o2 o3 o4 : List ℕ} → o1 ≡ o0 ++ a → o2 ≡ o1 ++ b → o3 ≡ o2 ++ c → o4 ≡ o3 ++ d → o4 ≡ o0 ++ (a ++ b ++ c ++ d)
four_written o0 a b c d p q r s =
    s ∙ ap (λ (o : List ℕ). o ++ d) (r ∙ ap (λ (o : List ℕ). o ++ c) (q ∙ ap (λ (o : List ℕ). o ++ b) p ∙ append_assoc o0 a b) ∙ append_assoc o0 (a ++ b) c)
    ∙ append_assoc o0 (a ++ b ++ c) d

pub five_written : (o0 a b c d e : List ℕ) {o1 o2 o3 o4 o5 : List ℕ} → o1 ≡ o0 ++ a → o2 ≡ o1 ++ b → o3 ≡ o2 ++ c → o4 ≡ o3 ++ d → o5 ≡ o4 ++ e
    → o5 ≡ o0 ++ (a ++ b ++ c ++ d ++ e)
five_written o0 a b c d e p q r s t = t ∙ ap (λ (o : List ℕ). o ++ e) (four_written o0 a b c d p q r s) ∙ append_assoc o0 (a ++ b ++ c ++ d) e
