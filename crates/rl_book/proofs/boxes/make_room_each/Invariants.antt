use Rattle.std.proofs.Common.{◌≡◌, ℕ, List, Some, map, All, take}
use Rattle.rl_names.specs.declared.name.Key.{Key}
use Rattle.rl_book.proofs.boxes.make_room_each.Given as goal

abbrev pub invariant-loop-observer : goal.invariant-loop-observer
invariant-loop-observer g l =
    record {
      room : All (λ o. (goal.Observer-dyn g (o.vtable, o.value)).room_for o.value ≡ Some (l.key, l.script)) (take l.observer-index l.observer-items);
      told_nothing : map (λ o. (goal.Observer-dyn g (o.vtable, o.value)).ran o.value) l.observer-items
          ≡ map (λ o. (goal.Observer-dyn g (o.vtable, o.value)).ran o.value) l.fn.observers;
      fixed : (k : Key) (s : List ℕ) → map (λ o. (goal.Observer-dyn g (o.vtable, o.value)).throws o.value k s) l.observer-items
          ≡ map (λ o. (goal.Observer-dyn g (o.vtable, o.value)).throws o.value k s) l.fn.observers;
      same : (map (λ o. o.ptr) l.observer-items ≡ map (λ o. o.ptr) l.fn.observers)
          × (map (λ o. o.vtable) l.observer-items ≡ map (λ o. o.vtable) l.fn.observers);
    }
