use Rattle.std.proofs.Common.{◌≡◌, ◌+◌, ℕ, List, drop, map}
use Rattle.std.specs.BTreeSet.{contains_text}
use Rattle.rl_gadgets.specs.declared.list.GadgetList.{GadgetList}
use Rattle.rl_gadgets.specs.List.{is_defined, none_yet, with_lines}
use Rattle.rl_gadgets.proofs.list.gadgets_in.Given as goal

-- the lines that are left lead from the list so far to the whole list
abbrev pub invariant-lines : goal.invariant-lines
invariant-lines l = record {
  list : with_lines (record { rows = l.rows.items; passed = l.passed.items }) (l.place + 1) (map (λ x. x.now) (drop l.place l.lines))
      ≡ with_lines none_yet 1 (map (λ x. x.now) l.lines);
  names : (q : List ℕ) → contains_text l.names q ≡ is_defined l.rows.items q;
}
