use Rattle.std.proofs.Common.{◌≡◌, take, map, string_bytes}
use Rattle.std.specs.Prelude.{fold}
use Rattle.rl_names.specs.Spacing.{with_word}
use Rattle.rl_names.proofs.title.push_words.Given as goal

abbrev pub invariant-words : goal.invariant-words
invariant-words l = string_bytes l.out ≡ fold with_word (string_bytes l.fn.out) (map (λ x. x.now) (take l.word-index l.word-items))
