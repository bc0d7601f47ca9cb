use Rattle.std.proofs.Common.{◌≡◌, ◌++◌, ℕ, List, Some, map, All, take, drop}
use Rattle.std.specs.List.{list_any}
use Rattle.rl_names.specs.declared.name.Key.{Key}
use Rattle.rl_base.specs.Execution.{told_of}
use Rattle.rl_book.proofs.boxes.execute_each.Given as goal

abbrev pub invariant-loop-observer : goal.invariant-loop-observer
invariant-loop-observer g l =
    record {
      room : All (λ o. (goal.Observer-dyn g (o.vtable, o.value)).room_for o.value ≡ Some (l.key, l.script)) (drop l.observer-index l.observer-items);
      told : map (λ o. (goal.Observer-dyn g (o.vtable, o.value)).ran o.value) l.observer-items
          ≡ map (told_of (l.key, l.script)) (take l.observer-index (map (λ o. (goal.Observer-dyn g (o.vtable, o.value)).ran o.value) l.fn.observers))
          ++ drop l.observer-index (map (λ o. (goal.Observer-dyn g (o.vtable, o.value)).ran o.value) l.fn.observers);
      threw : l.threw ≡ list_any (λ o. (goal.Observer-dyn g (o.vtable, o.value)).throws o.value l.key l.script) (take l.observer-index l.fn.observers);
      fixed : (k : Key) (s : List ℕ) → map (λ o. (goal.Observer-dyn g (o.vtable, o.value)).throws o.value k s) l.observer-items
          ≡ map (λ o. (goal.Observer-dyn g (o.vtable, o.value)).throws o.value k s) l.fn.observers;
      same : (map (λ o. o.ptr) l.observer-items ≡ map (λ o. o.ptr) l.fn.observers)
          × (map (λ o. o.vtable) l.observer-items ≡ map (λ o. o.vtable) l.fn.observers);
    }
