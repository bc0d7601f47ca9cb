use Rattle.std.proofs.Common.{◌++◌, ◌∷◌, [], ℕ, List, sym, subst, ap, ◌∙◌, add-one, arith, rules}
use Rattle.std.specs.Prelude.{IsPermutation}
use Rattle.std.specs.List.{range_with_len}
use Rattle.std.specs.Ordering.{nat_cmp, is_lt}
use Rattle.std.specs.Cmp.Lexicographic.{slice_cmp}
use Rattle.std.proofs.lemmas.Cmp.{nat_list_cmp_total}
use Rattle.std.proofs.lemmas.Fn.{always_returns_same}
use Rattle.std.proofs.lemmas.List.Sorted.{ranks_by}
use Rattle.rl_rows.specs.Index.{name_in}
use Rattle.rl_rows.proofs.IndexLemmas.{range_push}
use Rattle.rl_rows.proofs.index.index_of.Goals as goal

pub loop-row-preserved : goal.loop-row-preserved
loop-row-preserved c = rw (c.in_ok-push.ensures.items, c.loop-row.invariant, add-one)
    (sym (range_push 0 c.loop-row.row ∙ ap (λ (k : ℕ). range_with_len 0 c.loop-row.row ++ k ∷ []) (omega arith)))

pub returns : goal.returns
returns c = record {
  shuffled = subst (λ (ks : List ℕ). IsPermutation ks c.sort_unstable_by.new.self.items) (c.loop-row.invariant ∙ ap (range_with_len 0) (omega arith))
      c.sort_unstable_by.ensures.permutation;
  sorted = c.sort_unstable_by.ensures.sorted (λ a b. is_lt (slice_cmp nat_cmp (name_in c.args.rows.now a) (name_in c.args.rows.now b)))
      (ranks_by nat_list_cmp_total (name_in c.args.rows.now))
      (always_returns_same _ _ _ (λ a r f' k. search rules));
}
