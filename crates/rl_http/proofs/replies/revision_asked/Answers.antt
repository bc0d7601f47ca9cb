use Rattle.std.proofs.Common.{rules, refl, ap, ◌∙◌}
use Rattle.rl_names.specs.Title.{title_of}
use Rattle.rl_http.proofs.RepliesLemmas.{no_title}
use Rattle.rl_http.proofs.replies.revision_asked.Goals as goal

pub returns-in-Err-BadTitle : goal.returns-in-Err-BadTitle
returns-in-Err-BadTitle g c =
    no_title c.args.desk.now.entries _ c.refused.result (ap title_of (search rules)
    ∙ c.in-Err-BadTitle.ensures tt (rw c.in-Err-BadTitle.field-0-is refl)) c.refused.ensures
