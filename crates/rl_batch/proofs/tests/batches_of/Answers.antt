use Rattle.std.proofs.Common.{◌∙◌, ap, not, subst, sym}
use Rattle.std.specs.Prelude.{IsTrue}
use Rattle.std.specs.List.{list_all, range_with_len}
use Rattle.rl_names.specs.declared.row.Row.{Row}
use Rattle.rl_view_spec.specs.Closure.{Registered}
use Rattle.rl_view_spec.specs.Rows.{is_private}
use Rattle.rl_batch.specs.Given.{MayBeAsked}
use Rattle.rl_batch.proofs.WholeLemmas.{may_be_asked}
use Rattle.rl_batch.proofs.tests.batches_of.Goals as goal

pub batches-requires-clause-rows : goal.batches-requires-clause-rows
batches-requires-clause-rows c =
    subst (MayBeAsked c.in_ok-registry.registry) (sym (c.as_slice.ensures.value ∙ c.in_ok-numbers.ensures ∙ ap (range_with_len 0) c.count.ensures.value))
    (may_be_asked c.in_ok-registry.registry (subst (λ (r : Registered). IsTrue (list_all (λ (row : Row). not (is_private row.group)) r.rows))
    (sym c.in_ok-registry.ensures.1) c.in_ok-rows.ensures.public))
