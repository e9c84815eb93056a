use Rattle.std.proofs.Common.{rules, ◌≡◌, ◌+◌, take, refl, sym, subst}
use Rattle.std.proofs.lemmas.List.{take_all}
use Rattle.rw_handles.specs.declared.kinds.Kind.TheVariants.{Sender}
use Rattle.rw_handles.specs.declared.kinds.Slot.TheVariants.{Live}
use Rattle.rw_handles.proofs.Taking.{AreTaken, one_more_in_order, all_taken}
use Rattle.rw_handles.proofs.comparing.is_renaming.Goals as goal

pub loop-h-preserved : goal.loop-h-preserved
loop-h-preserved c =
    let ns = c.args.numbers.now in
    let xs = c.args.first.now in
    let left = c.loop-h.left.items in
    let h = c.loop-h.h in
    subst (AreTaken (take (h + 1) ns) (take (h + 1) xs) c.args.second.items) (sym (c.if-not-take.ensures.dropped refl))
    (one_more_in_order ns xs c.args.second.items left h 0 (Live Sender 0) (search rules) (search rules) c.loop-h.invariant
    (c.if-not-take.ensures.stood refl) (c.if-not-take.ensures.live refl))

pub returns : goal.returns
returns c = λ spent.
    let ns = c.args.numbers.now in
    let xs = c.args.first.now in
    let h = c.loop-h.h in
    let numbers : take h ns ≡ ns = take_all h ns (search rules) in
    let first : take h xs ≡ xs = take_all h xs (search rules) in
    let t = subst (λ l. AreTaken ns l c.args.second.items c.loop-h.left.items) first
    (subst (λ l. AreTaken l (take h xs) c.args.second.items c.loop-h.left.items) numbers c.loop-h.invariant) in
    all_taken ns xs c.args.second.items c.loop-h.left.items t (search rules)
