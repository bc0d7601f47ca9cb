use Rattle.std.proofs.Common.{ap, sym, ◌∙◌}
use Rattle.rl_names.specs.Title.{no_user_name_told}
use Rattle.rl_pages.proofs.SeenLemmas.{no_viewer}
use Rattle.rl_pages.proofs.viewer.Viewer.read.Goals as goal

pub returns-in-Err-BadUserName-clause-value : goal.returns-in-Err-BadUserName-clause-value
returns-in-Err-BadUserName-clause-value c = λ refusal told.
    no_viewer c.args.bytes.now (sym c.is_empty.ensures ∙ c.if-is_empty.false)
    (c.in-Err-BadUserName.ensures tt (ap no_user_name_told c.in-Err-BadUserName.field-0-is))
