use Rattle.std.proofs.Common.{◌≡◌, ◌++◌, drop, map, option_map}
use Rattle.rl_gadgets.specs.Line.{all_titles}
use Rattle.rl_gadgets.proofs.pages.all_titles.Given as goal

abbrev pub invariant-pages : goal.invariant-pages
invariant-pages l = option_map (λ v. l.titles.items ++ v) (all_titles (map (λ x. x.now) (drop l.page-index l.pages)))
    ≡ all_titles (map (λ x. x.now) l.pages)
