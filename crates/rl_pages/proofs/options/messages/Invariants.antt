use Rattle.std.proofs.Common.{◌≡◌, ◌++◌, map}
use Rattle.rl_pages.proofs.OptionLemmas.{shown}
use Rattle.rl_pages.proofs.options.messages.Given as goal

-- with the values that are left, all are copied
abbrev pub invariant-values : goal.invariant-values
invariant-values l = l.messages.items ++ map shown l.key-iterator ≡ map shown l.values.entries
