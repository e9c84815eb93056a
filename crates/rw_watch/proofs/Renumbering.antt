-- A machine whose handles have other numbers has room as before.
use Rattle.std.proofs.Common.{◌≡◌, ℕ, ◌+◌, ◌≤◌, length, ap, sym, subst, arith, inl, inr}
use Rattle.std.specs.Prelude.{All, Option, ◌⊎◌}
use Rattle.std.proofs.lemmas.List.Elements.{All-filter}
use Rattle.rw_handles.specs.Handles.{Table}
use Rattle.rw_handles.specs.Renaming.{is_live, live_ones}
use Rattle.rw_handles.proofs.Renaming.{live_fewer}
use Rattle.rw_watch.specs.declared.machine.Watch.TheInside.{Inside}
use Rattle.rw_watch.specs.Inside.{HasRoom}
use Rattle.rw_watch.specs.Shown.{IsMarked}

pub has_room_after : {V : Type 0} (a : Inside V) (new : Table (Option ℕ)) → (new.slots ≡ live_ones a.handles.slots) ⊎ (new ≡ a.handles)
    → length new.slots + new.room ≡ length a.handles.slots + a.handles.room → HasRoom a → HasRoom (record a { handles = new })
has_room_after a new (inr same) room ok = subst (λ t. HasRoom (record a { handles = t })) (sym same) ok
has_room_after a new (inl left) room ok =
    let fewer : length new.slots ≤ length a.handles.slots = omega (arith, ap length left, live_fewer a.handles.slots) in
    record {
      allowed = record {
        few_slots = omega (arith, fewer, ok.allowed.few_slots);
        marked = subst (All (IsMarked a.version)) (sym left) (All-filter is_live (IsMarked a.version) a.handles.slots ok.allowed.marked);
      };
      within = omega (arith, fewer, ok.within);
      small_limit = ok.small_limit;
      makings = omega (arith, room, ok.makings);
    }
