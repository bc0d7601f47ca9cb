use Rattle.std.proofs.Common.{◌≡◌, ◌++◌, drop}
use Rattle.std.specs.Prelude.{flat_map}
use Rattle.rl_cli.specs.Check.{gadget_line}
use Rattle.rl_cli.proofs.check.write_gadgets.Given as goal

-- with the lines of the gadgets that are left, those of all stand there
abbrev pub invariant-gadgets : goal.invariant-gadgets
invariant-gadgets l = l.out.items ++ flat_map gadget_line (drop l.gadget-index l.gadgets) ≡ l.fn.out.items ++ flat_map gadget_line l.gadgets
