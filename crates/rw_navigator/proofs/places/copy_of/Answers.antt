use Rattle.std.proofs.Common.{◌≡◌, ℕ, ◌+◌, ◌<◌, List, [], ◌∷◌, ◌++◌, length, take, get_or, ap, ◌∙◌, sym, arith}
use Rattle.std.proofs.lemmas.List.{take_all, take_more}
use Rattle.rw_navigator.proofs.places.copy_of.Goals as goal

-- a copy of the first items, and then of the next one
more : {A : Type 0} (xs old new : List A) (i : ℕ) (x y : A) → i < length xs → old ≡ take i xs → x ≡ get_or xs i x → y ≡ x → new ≡ old ++ y ∷ []
    → new ≡ take (i + 1) xs
more xs old new i x y left so is same pushed =
    pushed ∙ ap (λ ys. ys ++ y ∷ []) so ∙ ap (λ z. take i xs ++ z ∷ []) (same ∙ is) ∙ sym (take_more xs i x left)

pub loop-entry-init : goal.loop-entry-init
loop-entry-init g c = record { copied = c.in_ok-copy.ensures.items; count = c.in_ok-copy.ensures.len; room = c.in_ok-copy.ensures.capacity }

pub loop-entry-preserved : goal.loop-entry-preserved
loop-entry-preserved g c =
    let kept = c.loop-entry.invariant in
    record {
      copied = more c.args.entries.now _ _ c.loop-entry.entry-index _ _ c.loop-entry-test.true kept.copied c.entry-item.is c.copied.ensures
          c.push_reserved.ensures.items;
      count = omega (arith, c.push_reserved.ensures.len, kept.count);
      room = omega (arith, c.push_reserved.ensures.capacity, kept.room);
    }

pub returns : goal.returns
returns g c = c.loop-entry.invariant.copied ∙ take_all c.loop-entry.entry-index c.args.entries.now (omega arith)
