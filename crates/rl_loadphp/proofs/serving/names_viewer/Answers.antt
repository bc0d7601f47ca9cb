use Rattle.std.proofs.Common.{◌≡◌, false, Option, None, sym, ap, ◌∙◌}
use Rattle.std.specs.Option.{option_map_or}
use Rattle.rl_pages.specs.declared.viewer.Viewer.{Viewer}
use Rattle.rl_pages.specs.declared.viewer.ViewerError.TheVariants.{BadUser}
use Rattle.rl_pages.specs.Viewer.{viewer_of, viewer_refusal}
use Rattle.rl_loadphp.specs.Served.{is_viewer}
use Rattle.rl_loadphp.proofs.serving.names_viewer.Goals as goal

pub returns-in-Err-BadUser : goal.returns-in-Err-BadUser
returns-in-Err-BadUser c =
    let none : viewer_of c.args.user.now ≡ None =
    ap viewer_of (sym c.as_bytes.ensures.value) ∙ c.in-Err-BadUser.ensures.value BadUser (ap viewer_refusal c.in-Err-BadUser.field-0-is) in
    ap (λ (o : Option Viewer). option_map_or (is_viewer c.args.viewer.now) o false) (sym none)
