use Rattle.std.proofs.Common.{◌≡◌, ◌++◌, take, map, codes}
use Rattle.rl_gadgets.specs.Line.{underscored}
use Rattle.rl_gadgets.proofs.line.module_name.Given as goal

abbrev pub invariant-bytes : goal.invariant-bytes
invariant-bytes l = l.name.items ≡ codes "ext.gadget." ++ map underscored (take l.byte-index l.own)
