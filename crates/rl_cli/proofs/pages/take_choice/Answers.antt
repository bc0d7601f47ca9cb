use Rattle.std.proofs.Common.{ap}
use Rattle.rl_pages.specs.Refusals.{choice_refusal}
use Rattle.rl_pages.specs.Viewer.{viewer_refusal}
use Rattle.rl_pages.specs.declared.viewer.ViewerError.TheVariants.{BadUser}
use Rattle.rl_pages.specs.declared.refusals.ChoiceError.TheVariants as refusals
use Rattle.rl_cli.proofs.PagesLemmas.{nobodys_choice, refused_choice}
use Rattle.rl_cli.proofs.pages.take_choice.Goals as goal

pub returns-in-Err-BadUser-clause-entries : goal.returns-in-Err-BadUser-clause-entries
returns-in-Err-BadUser-clause-entries c =
    nobodys_choice c.args.wiki.now.catalogue.admins c.args.wiki.now.entries c.args.wiki.now.entries
    c.args.user.now c.as_bytes.result.now c.args.key.now c.args.key.now c.args.value.now c.args.value.now c.as_bytes.ensures
    (c.in-Err-BadUser.ensures.value BadUser (ap viewer_refusal c.in-Err-BadUser.field-0-is))

pub returns-in-Err-NotAllowed-clause-entries : goal.returns-in-Err-NotAllowed-clause-entries
returns-in-Err-NotAllowed-clause-entries c =
    refused_choice c.args.wiki.now.catalogue.admins c.args.wiki.now.entries c.set_choice.new.self.entries
    c.args.user.now c.as_bytes.result.now c.args.key.now c.as_str.result.now c.args.value.now c.as_str-2.result.now c.as_bytes.ensures
    c.in-Ok.viewer c.in-Err-NotAllowed.field-0 refusals.NotAllowed c.as_str.ensures c.as_str-2.ensures c.in-Ok.ensures.value
    c.in-Err-NotAllowed.ensures.answer.0 c.in-Err-NotAllowed.ensures.answer.1 (ap choice_refusal c.in-Err-NotAllowed.field-0-is)

pub returns-in-Err-BadKey-clause-entries : goal.returns-in-Err-BadKey-clause-entries
returns-in-Err-BadKey-clause-entries c =
    refused_choice c.args.wiki.now.catalogue.admins c.args.wiki.now.entries c.set_choice.new.self.entries
    c.args.user.now c.as_bytes.result.now c.args.key.now c.as_str.result.now c.args.value.now c.as_str-2.result.now c.as_bytes.ensures
    c.in-Ok.viewer c.in-Err-BadKey.field-0 refusals.BadKey c.as_str.ensures c.as_str-2.ensures c.in-Ok.ensures.value
    c.in-Err-BadKey.ensures.answer.0 c.in-Err-BadKey.ensures.answer.1 (ap choice_refusal c.in-Err-BadKey.field-0-is)

pub returns-in-Err-TextTooLong-clause-entries : goal.returns-in-Err-TextTooLong-clause-entries
returns-in-Err-TextTooLong-clause-entries c =
    refused_choice c.args.wiki.now.catalogue.admins c.args.wiki.now.entries c.set_choice.new.self.entries
    c.args.user.now c.as_bytes.result.now c.args.key.now c.as_str.result.now c.args.value.now c.as_str-2.result.now c.as_bytes.ensures
    c.in-Ok.viewer c.in-Err-TextTooLong.field-0 (refusals.TextTooLong c.in-Err-TextTooLong.field-0-0) c.as_str.ensures c.as_str-2.ensures c.in-Ok.ensures.value
    c.in-Err-TextTooLong.ensures.answer.0 c.in-Err-TextTooLong.ensures.answer.1 (ap choice_refusal c.in-Err-TextTooLong.field-0-is)

pub returns-in-Err-Full-clause-entries : goal.returns-in-Err-Full-clause-entries
returns-in-Err-Full-clause-entries c =
    refused_choice c.args.wiki.now.catalogue.admins c.args.wiki.now.entries c.set_choice.new.self.entries
    c.args.user.now c.as_bytes.result.now c.args.key.now c.as_str.result.now c.args.value.now c.as_str-2.result.now c.as_bytes.ensures
    c.in-Ok.viewer c.in-Err-Full.field-0 (refusals.Full c.in-Err-Full.field-0-0 c.in-Err-Full.field-0-1) c.as_str.ensures c.as_str-2.ensures c.in-Ok.ensures.value
    c.in-Err-Full.ensures.answer.0 c.in-Err-Full.ensures.answer.1 (ap choice_refusal c.in-Err-Full.field-0-is)
