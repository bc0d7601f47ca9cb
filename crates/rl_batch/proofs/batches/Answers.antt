use Rattle.std.proofs.Common.{ap, sym, subst, map, ◌∙◌}
use Rattle.std.proofs.lemmas.Result.{IfOk-weaker}
use Rattle.rl_book_spec.specs.Batches.{batch_of, goes_on, is_before, sorted_by}
use Rattle.rl_batch.specs.Given.{numbered_rows, AskFor}
use Rattle.rl_batch.specs.Split.{cuts, goes, seen}
use Rattle.rl_batch.proofs.AskedLemmas.{asked_for}
use Rattle.rl_batch.proofs.CutsLemmas.{fold_is_cuts}
use Rattle.rl_batch.proofs.batches.Goals as goal

pub returns-clause-batches : goal.returns-clause-batches
returns-clause-batches c =
    let same_rows = ap (λ xs. map (batch_of c.args.base.now) (cuts (goes c.args.base.now c.args.limit) (map seen xs))) c.as_slice.ensures.value in
    let same_cuts = ap (map (batch_of c.args.base.now)) (ap (cuts (goes c.args.base.now c.args.limit)) c.in_ok-rows.ensures.order
    ∙ sym (fold_is_cuts (goes_on c.args.base.now c.args.limit) (sorted_by is_before (numbered_rows c.args.registry.now c.args.rows.now)))) in
    IfOk-weaker c.cut.result _ _ (λ batches h. h ∙ same_rows ∙ same_cuts) c.cut.ensures

pub returns-clause-asks : goal.returns-clause-asks
returns-clause-asks c =
    let same_rows = ap (λ xs. map (batch_of c.args.base.now) (cuts (goes c.args.base.now c.args.limit) (map seen xs))) c.as_slice.ensures.value in
    let same_cuts = ap (map (batch_of c.args.base.now)) (ap (cuts (goes c.args.base.now c.args.limit)) c.in_ok-rows.ensures.order
    ∙ sym (fold_is_cuts (goes_on c.args.base.now c.args.limit) (sorted_by is_before (numbered_rows c.args.registry.now c.args.rows.now)))) in
    IfOk-weaker c.cut.result _ _ (λ batches h. subst (AskFor c.args.rows.now c.args.limit) (sym (h ∙ same_rows ∙ same_cuts))
    (asked_for c.args.base.now c.args.limit c.args.registry.now c.args.rows.now c.requires.base c.requires.rows.within)) c.cut.ensures
