use Rattle.std.proofs.Common.{ℕ, List, sym, subst, ◌∙◌}
use Rattle.rl_view_spec.specs.Closure.{Registered}
use Rattle.rl_batch.specs.Given.{MayBeAsked}
use Rattle.rl_book.proofs.AskedLemmas.{may_be_asked}
use Rattle.rl_book.proofs.requesting.request_rows.Goals as goal

pub batches-requires-clause-rows : goal.batches-requires-clause-rows
batches-requires-clause-rows c =
    subst (λ (r : Registered). MayBeAsked r c.as_slice.result.now) (sym c.registry.ensures)
    (subst (λ (rows : List ℕ). MayBeAsked c.args.table.now.registered rows) (sym (c.as_slice.ensures.value ∙ c.in_ok-left.ensures))
    (may_be_asked c.args.held.now.gifts c.args.table.now c.args.rows.now c.requires.within c.requires.once))
