-- A machine whose handles have other numbers has room as before.
use Rattle.std.proofs.Common.{◌≡◌, ℕ, ◌+◌, ◌≤◌, length, ap, sym, subst, arith, inl, inr}
use Rattle.std.specs.Prelude.{All, ◌⊎◌}
use Rattle.std.proofs.lemmas.List.Elements.{All-filter}
use Rattle.rw_handles.specs.Handles.{Table}
use Rattle.rw_handles.specs.Renaming.{is_live, live_ones}
use Rattle.rw_handles.proofs.Renaming.{live_fewer}
use Rattle.rw_broadcast.specs.declared.machine.Broadcast.TheInside.{Inside}
use Rattle.rw_broadcast.specs.Inside.{HasRoom}
use Rattle.rw_broadcast.specs.Shown.{IsPlaced}

pub has_room_after : {V : Type 0} (a : Inside V) (new : Table ℕ) → (new.slots ≡ live_ones a.handles.slots) ⊎ (new ≡ a.handles)
    → length new.slots + new.room ≡ length a.handles.slots + a.handles.room → HasRoom a → HasRoom (record a { handles = new })
has_room_after a new (inr same) room ok = subst (λ t. HasRoom (record a { handles = t })) (sym same) ok
has_room_after a new (inl left) room ok =
    let fewer : length new.slots ≤ length a.handles.slots = omega (arith, ap length left, live_fewer a.handles.slots) in
    record {
      allowed = record {
        some_capacity = ok.allowed.some_capacity;
        small_capacity = ok.allowed.small_capacity;
        retained = ok.allowed.retained;
        few_slots = omega (arith, fewer, ok.allowed.few_slots);
        placed = subst (All (IsPlaced a.values.count)) (sym left) (All-filter is_live (IsPlaced a.values.count) a.handles.slots ok.allowed.placed);
      };
      within = omega (arith, fewer, ok.within);
      small_limit = ok.small_limit;
      makings = omega (arith, room, ok.makings);
    }
