use Rattle.std.proofs.Common.{◌≡◌, ◌++◌, drop}
use Rattle.std.specs.List.{filter_map}
use Rattle.rl_names.specs.Title.{user_name_of}
use Rattle.rl_defs.proofs.words.user_names.Given as goal

-- the names so far, and those of the texts that are left
abbrev pub invariant-texts : goal.invariant-texts
invariant-texts l = l.names.items ++ filter_map user_name_of (drop l.text-index l.texts) ≡ filter_map user_name_of l.texts
