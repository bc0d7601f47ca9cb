use Rattle.rl_pages.proofs.HistoryLemmas.{titled_is_kept}
use Rattle.rl_pages.proofs.pages.Pages.check_edit.Goals as goal

pub make_room-requires-clause-kept : goal.make_room-requires-clause-kept
make_room-requires-clause-kept c =
    titled_is_kept c.args.policy.now.admins c.args.self.now.entries c.args.viewer.now c.args.title.now
    c.in_ok-title.title c.args.base c.args.text.now c.in_ok-entry.entry
    c.requires c.in_ok-title.ensures.ok c.in_ok-entry.ensures.answer
