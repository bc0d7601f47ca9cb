use Rattle.std.proofs.Common.{◌≡◌, ℕ, List, take}
use Rattle.std.specs.List.{list_any}
use Rattle.std.specs.Prelude.{bytes_eq}
use Rattle.std.specs.BTreeSet.{contains_by}
use Rattle.std.specs.Ordering.{nat_cmp}
use Rattle.std.specs.Cmp.Lexicographic.{slice_cmp}
use Rattle.rl_names.specs.Packing.{distinct}
use Rattle.rl_gadgets.proofs.pages.distinct.Given as goal

abbrev pub invariant-titles : goal.invariant-titles
invariant-titles l = record {
  kept : l.kept.items ≡ distinct (take l.title-index l.titles);
  seen : (q : List ℕ) → contains_by (λ k. slice_cmp nat_cmp q k.now) l.seen ≡ list_any (λ x. bytes_eq x q) (take l.title-index l.titles);
}
