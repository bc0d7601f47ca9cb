use Rattle.std.proofs.Common.{◌≡◌, take, map, false}
use Rattle.std.specs.List.{list_any}
use Rattle.rl_gadgets.specs.Line.{is_page}
use Rattle.rl_gadgets.proofs.pages.has_page.Given as goal

abbrev pub invariant-pages : goal.invariant-pages
invariant-pages l = list_any is_page (map (λ x. x.now) (take l.page-index l.pages)) ≡ false
