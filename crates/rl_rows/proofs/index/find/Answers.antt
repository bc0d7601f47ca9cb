use Rattle.std.proofs.Common.{rules}
use Rattle.std.specs.Ordering.{nat_cmp}
use Rattle.std.specs.Cmp.Lexicographic.{slice_cmp}
use Rattle.std.proofs.lemmas.Fn.{always_returns_same}
use Rattle.rl_rows.specs.Index.{name_in}
use Rattle.rl_rows.proofs.IndexLemmas.{index_within, found_named, found_nowhere}
use Rattle.rl_rows.proofs.index.find.Goals as goal

pub returns-in-Ok-clause-value : goal.returns-in-Ok-clause-value
returns-in-Ok-clause-value c =
    found_named c.args.rows.now c.args.order.now c.args.name.now c.in-Ok.at c.requires.index c.requires.distinct c.in-Ok.ensures.bound
    (c.in-Ok.ensures.position (λ row. slice_cmp nat_cmp (name_in c.args.rows.now row) c.args.name.now) (always_returns_same _ _ _ (λ a r f' k. search rules))
    0)

pub returns-in-Ok-clause-within : goal.returns-in-Ok-clause-within
returns-in-Ok-clause-within c = index_within c.args.rows.now c.args.order.now c.in-Ok.at 0 c.requires.index c.in-Ok.ensures.bound

pub returns-in-Err-clause-value : goal.returns-in-Err-clause-value
returns-in-Err-clause-value c =
    found_nowhere c.args.rows.now c.args.order.now c.args.name.now c.in-Err.field-0 c.requires.index
    (c.in-Err.ensures.position (λ row. slice_cmp nat_cmp (name_in c.args.rows.now row) c.args.name.now)
    (always_returns_same _ _ _ (λ a r f' k. search rules)))
