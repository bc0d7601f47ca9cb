use Rattle.std.proofs.Common.{◌≡◌, ℕ, List, filter, not}
use Rattle.rl_build.specs.Sight.{sight}
use Rattle.rl_loadphp.specs.Served.{is_served}
use Rattle.rl_loadphp.proofs.serving.sort_out.Given as goal

abbrev pub invariant-names : goal.invariant-names
invariant-names l = record {
  served : l.served.items ≡ filter (is_served (sight l.catalog l.pages.entries l.viewer) l.ctx l.own) l.yielded;
  missing : l.missing.items ≡ filter (λ (name : List ℕ). not (is_served (sight l.catalog l.pages.entries l.viewer) l.ctx l.own name)) l.yielded;
}
