use Rattle.std.proofs.Common.{◌≡◌, take, map, true}
use Rattle.std.specs.List.{list_all}
use Rattle.rl_names.specs.Name.{is_name}
use Rattle.rl_gadgets.proofs.options.names.Given as goal

abbrev pub invariant-words : goal.invariant-words
invariant-words l = record {
  names : l.names.items ≡ map (λ x. x.now) (take l.word-index l.words);
  all : list_all is_name (map (λ x. x.now) (take l.word-index l.words)) ≡ true;
}
