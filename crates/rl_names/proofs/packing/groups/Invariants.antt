use Rattle.std.proofs.Common.{◌≡◌, ℕ, List, take, map, true}
use Rattle.std.specs.List.{list_all, position_from}
use Rattle.std.specs.Prelude.{bytes_eq}
use Rattle.std.specs.BTreeMap.{get_by}
use Rattle.std.specs.Ordering.{nat_cmp}
use Rattle.std.specs.Cmp.Lexicographic.{slice_cmp}
use Rattle.rl_names.specs.Name.{is_name}
use Rattle.rl_names.specs.Packing.{fronts, group_of}
use Rattle.rl_names.proofs.packing.groups.Given as goal

abbrev pub invariant-names : goal.invariant-names
invariant-names l = record {
  grouped : map (λ group. map (λ n. n.now) group.items) l.groups.items ≡ map (group_of (take l.name-index l.names)) (fronts (take l.name-index l.names));
  places : (q : List ℕ) → get_by (λ k. slice_cmp nat_cmp q k.now) l.places ≡ position_from (λ f. bytes_eq f q) 0 (fronts (take l.name-index l.names));
  all : list_all is_name (take l.name-index l.names) ≡ true;
}
