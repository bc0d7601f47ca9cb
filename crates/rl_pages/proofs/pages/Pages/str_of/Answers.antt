use Rattle.std.proofs.Common.{◌≡◌, ap, ◌∙◌}
use Rattle.rl_pages.specs.History.{History, page_of, revision_of, text_numbered}
use Rattle.rl_pages.specs.Index.{number_at}
use Rattle.rl_pages.proofs.IndexLemmas.{last_text}
use Rattle.rl_pages.proofs.pages.Pages.str_of.Goals as goal

pub returns : goal.returns
returns c =
    let es = c.self.inside.entries.items in
    let t = c.args.title.now in
    let count : c.number_of.result ≡ revision_of es t = c.number_of.ensures ∙ ap (number_at c.self.inside.numbers) c.as_str.ensures
    ∙ c.self.invariant.last t in
    c.text_numbered.ensures ∙ ap (λ xs. text_numbered xs c.number_of.result) c.as_slice.ensures.value ∙ ap (text_numbered es) count ∙ last_text t es
    ∙ ap (λ (h : History). page_of h.entries t) c.self.view_is
