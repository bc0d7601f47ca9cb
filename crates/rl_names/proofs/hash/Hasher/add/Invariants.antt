use Rattle.std.proofs.Common.{◌≡◌, take}
use Rattle.std.specs.Prelude.{fold}
use Rattle.rl_names.specs.Hash.{fnv_step}
use Rattle.rl_names.proofs.hash.Hasher.add.Given as goal

abbrev pub invariant-loop-byte : goal.invariant-loop-byte
invariant-loop-byte l = l.self-inside.hash ≡ fold fnv_step l.initial.self-inside.hash (take l.byte-index l.bytes)
