use Rattle.std.proofs.Common.{◌≡◌, ◌++◌, take, drop, string_bytes, IsUtf8}
use Rattle.std.specs.List.{AllByRecursion}
use Rattle.rl_loadphp.specs.Body.{states_text}
use Rattle.rl_loadphp.proofs.lines.push_states.Given as goal

-- where what is left is UTF-8, all is
abbrev pub invariant-names : goal.invariant-names
invariant-names l = record {
  text : string_bytes l.out ≡ string_bytes l.fn.out ++ states_text l.word (take l.name-index l.names);
  utf8 : AllByRecursion IsUtf8 (drop l.name-index l.names) → AllByRecursion IsUtf8 l.names;
}
