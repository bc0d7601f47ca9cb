use Rattle.std.proofs.Common.{◌≡◌, true, false, sym, ap, ◌∙◌}
use Rattle.rl_pages.specs.Viewer.{is_seen_by}
use Rattle.rl_pages.proofs.SeenLemmas.{page_if_seen, none_if_hidden}
use Rattle.rl_pages.proofs.pages.Pages.str_seen.Goals as goal

pub returns-then-sees : goal.returns-then-sees
returns-then-sees c =
    let shows : is_seen_by c.args.viewer.now c.args.title.now ≡ true = ap (is_seen_by c.args.viewer.now) (sym c.as_bytes.ensures.value)
    ∙ sym c.sees.ensures ∙ c.if-sees.true in
    c.str_of.ensures ∙ page_if_seen c.args.viewer.now c.args.self.now.entries c.args.title.now shows

pub returns-else-sees : goal.returns-else-sees
returns-else-sees c =
    let hides : is_seen_by c.args.viewer.now c.args.title.now ≡ false = ap (is_seen_by c.args.viewer.now) (sym c.as_bytes.ensures.value)
    ∙ sym c.sees.ensures ∙ c.if-sees.false in
    none_if_hidden c.args.viewer.now c.args.self.now.entries c.args.title.now hides
