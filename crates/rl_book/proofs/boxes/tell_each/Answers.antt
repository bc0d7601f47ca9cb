use Rattle.std.proofs.Common.{◌∙◌}
use Rattle.rl_book.proofs.TurnsLemmas.{asked_same}
use Rattle.rl_book.proofs.boxes.tell_each.Goals as goal

pub returns-clause-threw : goal.returns-clause-threw
returns-clause-threw g c = c.execute_each.ensures.threw ∙ asked_same
    (λ o. (goal.Observer-dyn g (o.vtable, o.value)).throws o.value c.args.key.now c.args.script.now) _ _ (c.make_room_each.ensures.fixed _ _)

pub returns-clause-fixed : goal.returns-clause-fixed
returns-clause-fixed g c k s = c.execute_each.ensures.fixed k s ∙ c.make_room_each.ensures.fixed k s
