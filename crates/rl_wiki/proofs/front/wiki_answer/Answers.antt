use Rattle.rl_wiki.proofs.FrontLemmas.{reads_back}
use Rattle.rl_wiki.proofs.front.wiki_answer.Goals as goal

pub returns-then-branch-clause-again : goal.returns-then-branch-clause-again
returns-then-branch-clause-again c asks =
    reads_back c.args.catalog.now c.args.pages.now.entries c.args.viewer.now c.args.bytes.now c.in_ok-query.query c.in_ok-query.ensures
    c.in_ok-started.started.body c.in_ok-started.ensures.again
