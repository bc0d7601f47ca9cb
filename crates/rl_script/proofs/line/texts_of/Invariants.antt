use Rattle.std.proofs.Common.{◌≡◌, ◌++◌, map}
use Rattle.std.specs.Prelude.{option_map}
use Rattle.std.specs.Vec.Iter.{into_iter_items}
use Rattle.serde_json.specs.View.{view}
use Rattle.rl_script_spec.specs.Grammar.{texts_of}
use Rattle.rl_script.proofs.line.texts_of.Given as goal

-- what is left gives the same
abbrev pub invariant-loop-value : goal.invariant-loop-value
invariant-loop-value l =
    option_map (λ rest. l.texts.items ++ rest) (texts_of (map view (into_iter_items l.value-iterator))) ≡ texts_of (map view l.fn.values.items)
