use Rattle.std.proofs.Common.{rules}
use Rattle.rl_wiki.proofs.AnsweringLemmas.{again, pieces, unseen}
use Rattle.rl_wiki.proofs.wiki.Wiki.answer.Goals as goal

pub returns-clause-pieces : goal.returns-clause-pieces
returns-clause-pieces c =
    pieces c.self.inside.catalog c.args.self.now.catalogue c.self.inside.pages.entries c.args.self.now.entries c.args.viewer.now c.args.query.now
    c.wiki_answer.result (search rules) (search rules) c.wiki_answer.ensures.pieces

pub returns-clause-again : goal.returns-clause-again
returns-clause-again c =
    again c.self.inside.catalog c.args.self.now.catalogue c.self.inside.pages.entries c.args.self.now.entries c.args.viewer.now c.args.query.now
    c.wiki_answer.result (search rules) (search rules) c.wiki_answer.ensures.again

pub returns-clause-isolation : goal.returns-clause-isolation
returns-clause-isolation c =
    unseen c.self.inside.catalog c.args.self.now.catalogue c.self.inside.pages.entries c.args.self.now.entries c.args.viewer.now c.args.query.now
    c.wiki_answer.result (search rules) (search rules) c.wiki_answer.ensures.answer
