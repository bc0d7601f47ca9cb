use Rattle.std.proofs.Common.{◌≡◌, ◌++◌, take, drop}
use Rattle.rl_build.specs.Sheet.{put_name}
use Rattle.rl_build.proofs.all_names.place_of.Given as goal

-- what stands before the place stays before the name
abbrev pub invariant-names : goal.invariant-names
invariant-names l = put_name l.names l.name ≡ take l.at l.names ++ put_name (drop l.at l.names) l.name
