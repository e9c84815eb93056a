use Rattle.std.proofs.Common.{◌≡◌, take}
use Rattle.std.specs.List.{flat_map}
use Rattle.rw_answers.specs.HeldPages.{state_line}
use Rattle.rw_answers.proofs.held_pages.states_page.Given as goal

abbrev pub invariant-loop-place : goal.invariant-loop-place
invariant-loop-place l =
    (l.text.items ≡ flat_map (state_line l.initial.walk.run) (take l.place-index l.places)) × (l.walk.run ≡ l.initial.walk.run)
