use Rattle.std.proofs.Common.{◌∙◌, ap, set}
use Rattle.rl_states.specs.Counted.{Held}
use Rattle.rl_states.proofs.CountedLemmas.{mark_set}
use Rattle.rl_states.proofs.counted.Counted.set_mark.Goals as goal

pub returns-clause-value : goal.returns-clause-value
returns-clause-value g c =
    mark_set c.self.inside.cells.items c.self.inside.users.items c.self.inside.runnable.items c.args.row c.index_mut.result.now
    c.args.mark c.index_mut.ensures.value
    ∙ ap (λ (h : Held). record h { marks = set h.marks c.args.row c.args.mark }) c.self.view_is
