use Rattle.rl_pages.specs.declared.viewer.Viewer.TheVariants.{Anon}
use Rattle.rl_wiki.proofs.FrontLemmas.{nobody_reads, own_reader, start_read, text_read}
use Rattle.rl_wiki.proofs.front.readers_text.Goals as goal

pub returns-then-own-clause-text : goal.returns-then-own-clause-text
returns-then-own-clause-text c =
    text_read c.args.catalog.now c.args.pages.now.entries c.args.viewer.now c.args.viewer.now c.args.query.now
    c.in_ok-ctx.ctx c.startup_text.result c.in_ok-ctx.ensures
    (own_reader c.args.viewer.now c.args.query.now c.in_ok-own.own c.as_str.result.now c.in_ok-own.ensures c.as_str.ensures c.if-own.true)
    c.startup_text.ensures.text

pub returns-then-own-clause-again : goal.returns-then-own-clause-again
returns-then-own-clause-again c =
    start_read c.args.catalog.now c.args.pages.now.entries c.args.viewer.now c.args.viewer.now c.args.query.now
    c.in_ok-ctx.ctx c.startup_text.result c.in_ok-ctx.ensures
    (own_reader c.args.viewer.now c.args.query.now c.in_ok-own.own c.as_str.result.now c.in_ok-own.ensures c.as_str.ensures c.if-own.true)
    c.startup_text.ensures.again

pub returns-clause-text : goal.returns-clause-text
returns-clause-text c =
    text_read c.args.catalog.now c.args.pages.now.entries c.args.viewer.now Anon c.args.query.now
    c.in_ok-ctx.ctx c.startup_text-else-own.result c.in_ok-ctx.ensures
    (nobody_reads c.args.viewer.now c.args.query.now c.in_ok-own.own c.as_str.result.now c.in_ok-own.ensures c.as_str.ensures c.if-own.false)
    c.startup_text-else-own.ensures.text

pub returns-clause-again : goal.returns-clause-again
returns-clause-again c =
    start_read c.args.catalog.now c.args.pages.now.entries c.args.viewer.now Anon c.args.query.now
    c.in_ok-ctx.ctx c.startup_text-else-own.result c.in_ok-ctx.ensures
    (nobody_reads c.args.viewer.now c.args.query.now c.in_ok-own.own c.as_str.result.now c.in_ok-own.ensures c.as_str.ensures c.if-own.false)
    c.startup_text-else-own.ensures.again
