use Rattle.std.proofs.Common.{◌≡◌, subst, sym}
use Rattle.matchit.specs.Rows.{RowsOf}
use Rattle.matchit.specs.Router.{RouteOf}
use Rattle.matchit.proofs.OnLiterals.{matchit_on_literals}
use Rattle.rl_http.specs.declared.routes.Call.{Call}
use Rattle.rl_http.specs.Routes.{FindsCalls}
use Rattle.rl_http.proofs.RoutesLemmas.{wiki_rows, wiki_finds}
use Rattle.rl_http.proofs.routing.Routes.new.Goals as goal

pub invariant_of-result : goal.invariant_of-result
unfolding matchit_on_literals
invariant_of-result c =
    let load = c.in_ok-add.ensures in
    let edit = c.in_ok-add-2.ensures in
    let option = c.in_ok-add-3.ensures in
    let revision = c.in_ok-add-4.ensures in
    let rows : c.add-4.new.router ≡ wiki_rows = rw (option.1, edit.1, load.1, c.new-router.ensures) at revision.1 in
    subst (λ (r : RowsOf (RouteOf Call)). FindsCalls r) (sym rows) wiki_finds
