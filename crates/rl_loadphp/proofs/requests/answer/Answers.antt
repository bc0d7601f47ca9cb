use Rattle.rl_build.specs.Sight.{sight}
use Rattle.rl_loadphp.proofs.AskingLemmas.{answer_gives, answer_made, answer_says}
use Rattle.rl_loadphp.proofs.requests.answer.Goals as goal

pub returns-clause-pieces : goal.returns-clause-pieces
returns-clause-pieces c =
    let s = sight c.args.catalog.now c.args.pages.now.entries c.args.viewer.now in
    answer_made s c.args.query.now c.in_ok-query.query c.in_ok-answer_to.field-0 c.sent.result c.in_ok-query.ensures
    c.in_ok-answer_to.ensures.value c.sent.ensures

pub returns-clause-parts : goal.returns-clause-parts
returns-clause-parts c =
    let s = sight c.args.catalog.now c.args.pages.now.entries c.args.viewer.now in
    answer_says s c.args.query.now c.in_ok-query.query c.in_ok-answer_to.field-0 c.sent.result c.in_ok-query.ensures
    c.in_ok-answer_to.ensures.value c.in_ok-answer_to.ensures.parts c.sent.ensures

pub returns-clause-answer : goal.returns-clause-answer
returns-clause-answer c =
    let s = sight c.args.catalog.now c.args.pages.now.entries c.args.viewer.now in
    answer_gives s c.args.query.now c.in_ok-query.query c.in_ok-answer_to.field-0 c.sent.result c.in_ok-query.ensures
    c.in_ok-answer_to.ensures.value c.sent.ensures
