use Rattle.std.proofs.Common.{◌≡◌, drop}
use Rattle.std.specs.List.{filter_map}
use Rattle.rl_view_spec.specs.Breach.{bad_index}
use Rattle.rl_rows.proofs.rows.first_bad.Given as goal

abbrev pub invariant-loop-dep : goal.invariant-loop-dep
invariant-loop-dep l = filter_map (bad_index l.count) (drop l.dep-index l.deps) ≡ filter_map (bad_index l.count) l.deps
