use Rattle.std.proofs.Common.{◌≡◌, take, map, filter}
use Rattle.rl_gadgets.specs.Line.{has_ending}
use Rattle.rl_gadgets.proofs.pages.ending_so.Given as goal

abbrev pub invariant-pages : goal.invariant-pages
invariant-pages l = map (λ x. x.now) l.kept.items ≡ filter (has_ending l.ending) (map (λ x. x.now) (take l.page-index l.pages))
