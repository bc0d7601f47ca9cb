use Rattle.std.proofs.Common.{◌≡◌, Bool, true, ℕ, zero, suc, ◌<◌, List, [], ◌∷◌, length, sym, ◌∙◌, arith, Vec}
use Rattle.std.specs.Prelude.{Contains, nat_lt}
use Rattle.std.specs.List.{list_all}
use Rattle.std.specs.declared.alloc.Global.{Global}
use Rattle.std.proofs.lemmas.Bool.{and_parts}
use Rattle.std.proofs.lemmas.Bool.Decides.{nat_tests}
use Rattle.std.proofs.lemmas.List.{length-map}
use Rattle.std.proofs.lemmas.List.Folds.{list_all-map}
use Rattle.rl_graph.specs.Graph.{edge_lists, next_in, IsWithin}
use Rattle.rl_graph.proofs.ToolsLemmas.{all_each, contains_none}
use Rattle.rl_graph.proofs.tests.told_of.Goals as goal

abbrev below : ℕ → ℕ → Bool
below n k = nat_lt k n

each_low : (n : ℕ) (numbers : List ℕ) (number : ℕ) → list_all (below n) numbers ≡ true → Contains numbers number → number < n
each_low n numbers number all there = let low : nat_lt number n ≡ true = all_each (below n) numbers number all there in grind (arith, nat_tests)

lists_low : (n : ℕ) (lists : List (List ℕ)) (from to : ℕ) → list_all (list_all (below n)) lists ≡ true → Contains (next_in lists from) to → to < n
lists_low n [] from to all there = absurd (contains_none to there)
lists_low n (next ∷ lists) zero to all there = each_low n next to (and_parts (list_all (below n) next) (list_all (list_all (below n)) lists) all).0 there
lists_low n (next ∷ lists) (suc from) to all there =
    lists_low n lists from to (and_parts (list_all (below n) next) (list_all (list_all (below n)) lists) all).1 there

within : (edges : List (Vec ℕ Global)) → list_all (λ (next : Vec ℕ Global). list_all (below (length edges)) next.items) edges ≡ true
    → IsWithin (edge_lists edges)
within edges all = λ from to there.
    let low : to < length edges = lists_low (length edges) (edge_lists edges) from to
    (list_all-map (list_all (below (length edges))) (λ (v : Vec ℕ Global). v.items) edges ∙ all) there in
    let same : length (edge_lists edges) ≡ length edges = length-map edges (λ (v : Vec ℕ Global). v.items) in
    omega (arith, low, same)

pub told-requires-clause-within : goal.told-requires-clause-within
told-requires-clause-within c = within c.as_slice-edges.result.now (sym c.is_within.ensures ∙ c.if-not-is_within.false)
