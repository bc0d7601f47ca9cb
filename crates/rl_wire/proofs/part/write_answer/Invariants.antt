use Rattle.std.proofs.Common.{◌≡◌, take, drop, string_bytes}
use Rattle.std.specs.List.{AllByRecursion}
use Rattle.rl_wire.specs.Line.{wire_text, IsPart, AreInOrder}
use Rattle.rl_wire.proofs.part.write_answer.Given as goal

-- the lines of the parts so far; those that are left are in order, and where they are parts, all are
abbrev pub invariant-parts : goal.invariant-parts
invariant-parts l = record {
  text : string_bytes l.out ≡ wire_text (take l.part-index l.parts);
  in_order : AreInOrder (drop l.part-index l.parts);
  parts : AllByRecursion IsPart (drop l.part-index l.parts) → AllByRecursion IsPart l.parts;
}
