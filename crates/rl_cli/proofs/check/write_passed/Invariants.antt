use Rattle.std.proofs.Common.{◌≡◌, ◌++◌, drop}
use Rattle.std.specs.Prelude.{flat_map}
use Rattle.rl_cli.specs.Check.{passed_line}
use Rattle.rl_cli.proofs.check.write_passed.Given as goal

-- with the lines of the numbers that are left, those of all stand there
abbrev pub invariant-numbers : goal.invariant-numbers
invariant-numbers l = l.out.items ++ flat_map passed_line (drop l.number-index l.numbers) ≡ l.fn.out.items ++ flat_map passed_line l.numbers
