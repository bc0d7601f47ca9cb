use Rattle.std.proofs.Common.{◌≡◌, drop, find, bytes_eq}
use Rattle.rl_build.specs.declared.built_in.BuiltIn.{BuiltIn}
use Rattle.rl_build.specs.BuiltIn.{built_in_name}
use Rattle.rl_build.proofs.built_in.BuiltIn.named.Given as goal

-- what is left has the same one of this name
abbrev pub invariant-all : goal.invariant-all
invariant-all l =
    find (λ (b : BuiltIn). bytes_eq (built_in_name b) l.name) (drop l.built_in-index l.built_in-items)
    ≡ find (λ (b : BuiltIn). bytes_eq (built_in_name b) l.name) l.built_in-items
