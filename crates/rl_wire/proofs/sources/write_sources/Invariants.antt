use Rattle.std.proofs.Common.{◌≡◌, ◌++◌, drop}
use Rattle.json.specs.Tree.{members_tokens}
use Rattle.serde_json.specs.Data.{object}
use Rattle.serde_json.specs.Written.{members_outline}
use Rattle.rl_wire.specs.Startup.{source_members, AreSources}
use Rattle.rl_wire.specs.Tokens.{value_tokens}
use Rattle.rl_wire.proofs.sources.write_sources.Given as goal

-- with the tokens of what is left, the object is whole; where what is left are sources, all are
abbrev pub invariant-sources : goal.invariant-sources
invariant-sources l = record {
  before : l.json.before ≡ l.fn.json.before;
  tokens : l.json.tokens ++ members_tokens (members_outline (source_members (drop l.source-index l.sources))) ≡ l.fn.json.tokens
      ++ value_tokens (object (source_members l.sources));
  sources : AreSources (drop l.source-index l.sources) → AreSources l.sources;
}
