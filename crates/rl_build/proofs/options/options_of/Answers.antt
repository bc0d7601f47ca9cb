use Rattle.std.proofs.Common.{◌≡◌, ◌∙◌, ap, subst, IfOk, List}
use Rattle.rl_names.specs.declared.part.Message.{Message}
use Rattle.rl_pages.specs.History.{options_of}
use Rattle.rl_build.proofs.PagesLemmas.{own_options}
use Rattle.rl_build.proofs.options.options_of.Goals as goal

pub returns-in-User : goal.returns-in-User
returns-in-User c =
    let P : List Message → Type 0 = λ ms. IfOk c.choices_of.result (λ options. options.items ≡ ms) in
    subst P (ap (options_of c.args.pages.now.entries) c.as_bytes.ensures ∙ own_options c.args.pages.now.entries c.in-User.name c.args.viewer.now c.in-User.is)
    c.choices_of.ensures
