use Rattle.std.proofs.Common.{◌≡◌, filter, take}
use Rattle.rl_build.specs.Sight.{sight}
use Rattle.rl_loadphp.specs.Embed.{is_private}
use Rattle.rl_loadphp.proofs.embedding.private_among.Given as goal

abbrev pub invariant-names : goal.invariant-names
invariant-names l = l.private.items ≡ filter (is_private (sight l.catalog l.pages.entries l.viewer) l.ctx) (take l.name-index l.names)
