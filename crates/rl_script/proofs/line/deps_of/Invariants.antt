use Rattle.std.proofs.Common.{◌≡◌, ◌++◌, drop, map}
use Rattle.std.specs.Prelude.{option_map}
use Rattle.serde_json.specs.View.{view}
use Rattle.rl_names.specs.declared.row.Dep.TheVariants.{Named}
use Rattle.rl_script_spec.specs.Grammar.{texts_of}
use Rattle.rl_script.proofs.line.deps_of.Given as goal

-- what is left gives the same
abbrev pub invariant-loop-value : goal.invariant-loop-value
invariant-loop-value l =
    option_map (λ rest. l.deps.items ++ map Named rest) (texts_of (map view (drop l.value-index l.values)))
    ≡ option_map (map Named) (texts_of (map view l.values))
