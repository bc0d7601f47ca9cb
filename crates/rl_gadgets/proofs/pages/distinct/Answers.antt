use Rattle.std.proofs.Common.{◌≡◌, ◌+◌, ◌++◌, [], ◌∷◌, true, not, take, cond, bytes_eq, ap, sym, ◌∙◌, arith}
use Rattle.std.specs.Ordering.{nat_cmp, is_eq}
use Rattle.std.specs.Cmp.Lexicographic.{slice_cmp}
use Rattle.std.proofs.lemmas.List.{take_more}
use Rattle.std.proofs.lemmas.Map.Text.{is_eq-slice_cmp}
use Rattle.std.proofs.lemmas.Grind.{common_steps}
use Rattle.rl_names.specs.Packing.{distinct}
use Rattle.rl_names.proofs.GroupingLemmas.{distinct_push, has, has_more}
use Rattle.rl_gadgets.proofs.pages.distinct.Goals as goal
use Rattle.rl_gadgets.proofs.pages.distinct.Goals.{then-branch+in_ok-copy+in_ok-push, else-branch}

pub titles-preserved : goal.titles-preserved
titles-preserved c =
    let xs = c.args.titles.now in
    let i = c.titles.title-index in
    let y = c.title-item.result in
    let done = take i xs in
    let grown : take (i + 1) xs ≡ done ++ y ∷ [] = take_more xs i y c.titles-test.true ∙ ap (λ z. done ++ z ∷ []) (sym c.title-item.is) in
    let text : c.as_str.result.now ≡ y = c.as_str.ensures in
    let added : c.in_ok-insert.field-0 ≡ not (has y done) = c.in_ok-insert.ensures.added ∙ ap not (c.titles.invariant.seen c.as_str.result.now)
    ∙ ap (λ t. not (has t done)) text in
    let after : distinct (take (i + 1) xs) ≡ cond (has y done) (distinct done) (distinct done ++ y ∷ []) = ap distinct grown ∙ distinct_push done y in
    record {
      kept = rw after
          (elim c.if-branch.branch [
            | then-branch+in_ok-copy+in_ok-push w ↦ grind (arith, common_steps, added, text, c.titles.invariant.kept)
            | else-branch w ↦ grind (arith, common_steps, added, c.titles.invariant.kept)
          ]);
      seen = λ q.
          c.in_ok-insert.ensures.updates.0 (record { ref_ptr = (0, 0); now = q })
          ∙ ap (cond (is_eq (slice_cmp nat_cmp c.as_str.result.now q)) true) (c.titles.invariant.seen q)
          ∙ ap (λ v. cond v true (has q done)) (is_eq-slice_cmp c.as_str.result.now q ∙ ap (λ t. bytes_eq t q) text)
          ∙ has_more q done y ∙ ap (has q) (sym grown);
    }
