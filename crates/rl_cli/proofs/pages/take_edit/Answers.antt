use Rattle.std.proofs.Common.{ap}
use Rattle.rl_pages.specs.Refusals.{edit_refusal}
use Rattle.rl_pages.specs.Viewer.{viewer_refusal}
use Rattle.rl_pages.specs.declared.viewer.ViewerError.TheVariants.{BadUser}
use Rattle.rl_pages.specs.declared.refusals.EditError.TheVariants as refusals
use Rattle.rl_cli.proofs.PagesLemmas.{nobodys_edit, refused_edit}
use Rattle.rl_cli.proofs.pages.take_edit.Goals as goal

pub returns-in-Err-BadUser-clause-entries : goal.returns-in-Err-BadUser-clause-entries
returns-in-Err-BadUser-clause-entries c =
    nobodys_edit c.args.wiki.now.catalogue.admins c.args.wiki.now.entries c.args.wiki.now.entries
    c.args.by.now c.as_bytes.result.now c.args.title.now c.args.title.now c.args.base c.args.text.now c.args.text.now c.as_bytes.ensures
    (c.in-Err-BadUser.ensures.value BadUser (ap viewer_refusal c.in-Err-BadUser.field-0-is))

pub returns-in-Err-BadTitle-clause-entries : goal.returns-in-Err-BadTitle-clause-entries
returns-in-Err-BadTitle-clause-entries c =
    refused_edit c.args.wiki.now.catalogue.admins c.args.wiki.now.entries c.edit.new.self.entries
    c.args.by.now c.as_bytes.result.now c.args.title.now c.as_bytes-2.result.now c.args.base c.args.text.now c.as_str.result.now c.as_bytes.ensures
    c.in-Ok.viewer c.in-Err-BadTitle.field-0 refusals.BadTitle c.as_bytes-2.ensures c.as_str.ensures c.in-Ok.ensures.value
    c.in-Err-BadTitle.ensures.answer.0 c.in-Err-BadTitle.ensures.answer.1 (ap edit_refusal c.in-Err-BadTitle.field-0-is)

pub returns-in-Err-NotAllowed-clause-entries : goal.returns-in-Err-NotAllowed-clause-entries
returns-in-Err-NotAllowed-clause-entries c =
    refused_edit c.args.wiki.now.catalogue.admins c.args.wiki.now.entries c.edit.new.self.entries
    c.args.by.now c.as_bytes.result.now c.args.title.now c.as_bytes-2.result.now c.args.base c.args.text.now c.as_str.result.now c.as_bytes.ensures
    c.in-Ok.viewer c.in-Err-NotAllowed.field-0 refusals.NotAllowed c.as_bytes-2.ensures c.as_str.ensures c.in-Ok.ensures.value
    c.in-Err-NotAllowed.ensures.answer.0 c.in-Err-NotAllowed.ensures.answer.1 (ap edit_refusal c.in-Err-NotAllowed.field-0-is)

pub returns-in-Err-Conflict-clause-entries : goal.returns-in-Err-Conflict-clause-entries
returns-in-Err-Conflict-clause-entries c =
    refused_edit c.args.wiki.now.catalogue.admins c.args.wiki.now.entries c.edit.new.self.entries
    c.args.by.now c.as_bytes.result.now c.args.title.now c.as_bytes-2.result.now c.args.base c.args.text.now c.as_str.result.now c.as_bytes.ensures
    c.in-Ok.viewer c.in-Err-Conflict.field-0 (refusals.Conflict c.in-Err-Conflict.field-0-0) c.as_bytes-2.ensures c.as_str.ensures c.in-Ok.ensures.value
    c.in-Err-Conflict.ensures.answer.0 c.in-Err-Conflict.ensures.answer.1 (ap edit_refusal c.in-Err-Conflict.field-0-is)

pub returns-in-Err-TextTooLong-clause-entries : goal.returns-in-Err-TextTooLong-clause-entries
returns-in-Err-TextTooLong-clause-entries c =
    refused_edit c.args.wiki.now.catalogue.admins c.args.wiki.now.entries c.edit.new.self.entries
    c.args.by.now c.as_bytes.result.now c.args.title.now c.as_bytes-2.result.now c.args.base c.args.text.now c.as_str.result.now c.as_bytes.ensures
    c.in-Ok.viewer c.in-Err-TextTooLong.field-0 (refusals.TextTooLong c.in-Err-TextTooLong.field-0-0) c.as_bytes-2.ensures c.as_str.ensures c.in-Ok.ensures.value
    c.in-Err-TextTooLong.ensures.answer.0 c.in-Err-TextTooLong.ensures.answer.1 (ap edit_refusal c.in-Err-TextTooLong.field-0-is)

pub returns-in-Err-Full-clause-entries : goal.returns-in-Err-Full-clause-entries
returns-in-Err-Full-clause-entries c =
    refused_edit c.args.wiki.now.catalogue.admins c.args.wiki.now.entries c.edit.new.self.entries
    c.args.by.now c.as_bytes.result.now c.args.title.now c.as_bytes-2.result.now c.args.base c.args.text.now c.as_str.result.now c.as_bytes.ensures
    c.in-Ok.viewer c.in-Err-Full.field-0 (refusals.Full c.in-Err-Full.field-0-0 c.in-Err-Full.field-0-1) c.as_bytes-2.ensures c.as_str.ensures c.in-Ok.ensures.value
    c.in-Err-Full.ensures.answer.0 c.in-Err-Full.ensures.answer.1 (ap edit_refusal c.in-Err-Full.field-0-is)
