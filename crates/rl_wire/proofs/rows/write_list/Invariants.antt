use Rattle.std.proofs.Common.{◌≡◌, ◌++◌, drop, map}
use Rattle.std.specs.List.{AllByRecursion}
use Rattle.json.specs.Tree.{items_tokens}
use Rattle.serde_json.specs.Written.{items_outline}
use Rattle.rl_wire.specs.Payload.{items_of, array_of}
use Rattle.rl_wire.specs.Startup.{dep_value, IsDep}
use Rattle.rl_wire.specs.Tokens.{value_tokens}
use Rattle.rl_wire.proofs.rows.write_list.Given as goal

-- with the tokens of what is left, the array is whole; where what is left are dependencies, all are
abbrev pub invariant-deps : goal.invariant-deps
invariant-deps l = record {
  before : l.json.before ≡ l.fn.json.before;
  tokens : l.json.tokens ++ items_tokens (items_outline (items_of (map dep_value (drop l.dep-index l.deps)))) ≡ l.fn.json.tokens
      ++ value_tokens (array_of (map dep_value l.deps));
  deps : AllByRecursion IsDep (drop l.dep-index l.deps) → AllByRecursion IsDep l.deps;
}
