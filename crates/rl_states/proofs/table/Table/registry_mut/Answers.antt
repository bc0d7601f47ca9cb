use Rattle.std.proofs.Common.{◌≡◌, ◌∙◌, length, sym, subst, ap, arith}
use Rattle.rl_view_spec.specs.Closure.{Registered}
use Rattle.rl_view_spec.specs.Progress.{Progress}
use Rattle.rl_registry.specs.Rows.{with_version}
use Rattle.rl_states.specs.Credit.{credit}
use Rattle.rl_states.specs.Kept.{IsTable, progress_in}
use Rattle.rl_states.proofs.CreditLemmas.{credit_alike}
use Rattle.rl_states.proofs.VersionsLemmas.{version_alike, kept_alike}
use Rattle.rl_states.proofs.table.Table.registry_mut.Goals as goal

pub set_version-requires : goal.set_version-requires
set_version-requires c = omega (arith, c.requires, ap (λ (t : Progress). length t.registered.rows) c.self.view_is)

pub invariant_of-self : goal.invariant_of-self
invariant_of-self c =
    let t : Progress = progress_in c.self.inside in
    let long : length c.set_version.new.self.rows ≡ length c.self.inside.registry.rows =
    ap (λ (r : Registered). length r.rows) c.set_version.ensures
    ∙ (version_alike c.self.inside.registry c.args.row c.args.version c.self.invariant.table.distinct).long in
    record {
      table = subst (λ (r : Registered). IsTable (record t { registered = r }) c.self.inside.cells.standings c.self.inside.cells.users
          c.self.inside.cells.spoiled)
          (sym c.set_version.ensures)
          (kept_alike t (with_version c.self.inside.registry c.args.row c.args.version) c.self.inside.cells.standings
          c.self.inside.cells.users c.self.inside.cells.spoiled
          (version_alike c.self.inside.registry c.args.row c.args.version c.self.invariant.table.distinct) c.self.invariant.table);
      paired = c.self.invariant.paired;
      room = omega (arith, long, c.self.invariant.room);
      room_beside = omega (arith, long, c.self.invariant.room_beside);
    }

pub returns-clause-value : goal.returns-clause-value
returns-clause-value c =
    let t : Progress = progress_in c.self.inside in
    ap (λ (r : Registered). record t { registered = r }) c.set_version.ensures
    ∙ ap (λ (p : Progress). record p { registered = with_version p.registered c.args.row c.args.version }) c.self.view_is

pub returns-clause-credit : goal.returns-clause-credit
returns-clause-credit c =
    let t : Progress = progress_in c.self.inside in
    let alike = version_alike c.self.inside.registry c.args.row c.args.version c.self.invariant.table.distinct in
    ap (λ (r : Registered). credit (record t { registered = r })) c.set_version.ensures
    ∙ credit_alike t (with_version c.self.inside.registry c.args.row c.args.version) c.self.inside.cells.spoiled alike c.self.invariant.table.distinct
    c.self.invariant.table.spoiled
    (kept_alike t (with_version c.self.inside.registry c.args.row c.args.version) c.self.inside.cells.standings c.self.inside.cells.users
    c.self.inside.cells.spoiled alike
    c.self.invariant.table).spoiled
    ∙ ap credit c.self.view_is
