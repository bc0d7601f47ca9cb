use Rattle.std.proofs.Common.{◌+◌, take, false}
use Rattle.rl_book_spec.specs.Closing.{key_bytes}
use Rattle.rl_store.specs.Merging.{stays}
use Rattle.rl_store.proofs.MarksLemmas.{one_more, stays_more}
use Rattle.rl_store.proofs.merging.marks_of.Goals as goal

pub fresh-preserved : goal.fresh-preserved
fresh-preserved c = one_more (key_bytes c.stored-item.result.key) false (stays c.args.registry.now (take c.fresh.stored-index c.args.fresh.now))
    (stays c.args.registry.now (take (c.fresh.stored-index + 1) c.args.fresh.now)) c.args.pairs.now c.fresh.marks.items c.mark_at.new.marks.items
    c.fresh.invariant c.mark_at.ensures
    (stays_more c.args.registry.now c.args.fresh.now c.fresh.stored-index c.stored-item.result c.fresh-test.true c.stored-item.is)
