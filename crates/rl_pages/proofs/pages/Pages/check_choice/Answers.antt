use Rattle.rl_pages.proofs.HistoryLemmas.{chosen_is_kept}
use Rattle.rl_pages.proofs.pages.Pages.check_choice.Goals as goal

pub make_room-requires-clause-kept : goal.make_room-requires-clause-kept
make_room-requires-clause-kept c =
    chosen_is_kept c.args.self.now.entries c.args.viewer.now c.in-User.name c.args.key.now c.args.value.now
    c.in_ok-entry.entry c.requires c.in-User.is c.in_ok-entry.ensures.answer
