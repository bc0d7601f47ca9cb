use Rattle.std.proofs.Common.{◌≡◌, ◌++◌, drop, map}
use Rattle.std.specs.List.{AllByRecursion}
use Rattle.json.specs.Tree.{items_tokens}
use Rattle.serde_json.specs.Written.{items_outline}
use Rattle.rl_wire.specs.Payload.{items_of, array_of}
use Rattle.rl_wire.specs.Startup.{row_value, IsRow}
use Rattle.rl_wire.specs.Tokens.{value_tokens}
use Rattle.rl_wire.proofs.rows.write_rows.Given as goal

-- with the tokens of what is left, the array is whole; where what is left are rows, all are
abbrev pub invariant-rows : goal.invariant-rows
invariant-rows l = record {
  before : l.json.before ≡ l.fn.json.before;
  tokens : l.json.tokens ++ items_tokens (items_outline (items_of (map row_value (drop l.row-index l.rows)))) ≡ l.fn.json.tokens
      ++ value_tokens (array_of (map row_value l.rows));
  rows : AllByRecursion IsRow (drop l.row-index l.rows) → AllByRecursion IsRow l.rows;
}
