use Rattle.std.proofs.Common.{◌≡◌, List, [], length, sym, ap, ◌∙◌, cond, arith}
use Rattle.std.specs.Prelude.{option_map}
use Rattle.std.specs.List.{filter_map}
use Rattle.std.proofs.lemmas.Grind.{common_steps}
use Rattle.rl_view_spec.specs.Closure.{Text}
use Rattle.rl_registry.specs.Search.{unknown_of, unknown_dep}
use Rattle.rl_rows.specs.Least.{least_from}
use Rattle.rl_registry.proofs.UnknownsLemmas.{unknown_skipped, unknown_none, unknown_of_is}
use Rattle.rl_registry.proofs.registry.Registry.least_unknown_of.Goals as goal
use Rattle.rl_registry.proofs.registry.Registry.least_unknown_of.Goals.{then-skipped-via-then-skipped, then-skipped-via-else-skipped+then-needs-deps}

pub returns-then-skipped : goal.returns-then-skipped
returns-then-skipped c =
    let none : unknown_of c.args.self.now c.args.row ≡ [] = elim c.then-skipped.branch [
      | then-skipped-via-then-skipped w ↦ unknown_skipped c.args.self.now c.args.row (sym c.skipped.ensures ∙ w.if-skipped.true)
      | then-skipped-via-else-skipped+then-needs-deps w ↦
          unknown_none c.args.self.now c.args.row c.row_at.result.now c.row_at.ensures
          (ap length (sym w.needs.ensures.value) ∙ w.if-needs-deps.true ∙ ap length c.as_slice-deps.ensures)
    ] in
    ap (λ (names : List Text). least_from (option_map (λ name. name.now) c.args.found) names) (sym none)

pub returns : goal.returns
returns c =
    let e : unknown_of c.args.self.now c.args.row ≡ filter_map (unknown_dep c.args.self.now) c.as_slice-deps.result.now =
    unknown_of_is c.args.self.now c.args.row c.row_at.result.now c.row_at.ensures
    ∙ ap (λ b. cond b [] (filter_map (unknown_dep c.args.self.now) c.row_at.result.now.deps)) (sym c.skipped.ensures ∙ c.if-skipped.false)
    ∙ ap (filter_map (unknown_dep c.args.self.now)) (sym c.as_slice-deps.ensures) in
    rw e (grind (arith, common_steps))
