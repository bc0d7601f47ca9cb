use Rattle.std.proofs.Common.{ap, sym, ◌∙◌}
use Rattle.rl_loadphp.specs.Refusal.{refusal_told}
use Rattle.rl_wiki.specs.Front.{wiki_answer}
use Rattle.rl_cli.specs.Verdict.{fault_told, wiki_in}
use Rattle.rl_cli.proofs.VerdictLemmas.{query_refused}
use Rattle.rl_cli.proofs.work.load.Goals as goal

pub returns : goal.returns
returns c =
    let wiki = c.in_ok-wiki.wiki in
    query_refused c.args.viewer.now c.args.query.now (wiki_in c.args.paged c.args.files.now) wiki (refusal_told c.in-Err.error)
    (fault_told c.of_query.result) c.in_ok-wiki.ensures
    (λ refusal told. ap (wiki_answer wiki.catalogue wiki.entries c.args.viewer.now) (sym c.as_bytes.ensures.value)
    ∙ c.in-Err.ensures.answer refusal told)
    c.of_query.ensures
