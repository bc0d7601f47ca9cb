use Rattle.std.proofs.Common.{◌≡◌, length}
use Rattle.std.specs.Str.Iter.{split_steps}
use Rattle.std.specs.Str.Pattern.{FindsChar}
use Rattle.rl_script_spec.specs.Script.{capped, lines_of}
use Rattle.rl_script.proofs.LinesLemmas.{IsLeft}
use Rattle.rl_script.proofs.script.read_script.Given as goal

abbrev pub invariant-loop-line : goal.invariant-loop-line
invariant-loop-line l = record {
  number : l.number ≡ capped (length l.yielded);
  left : IsLeft (split_steps FindsChar (λ a b. b ≡ a)) l.line-iterator l.script (length l.yielded) (lines_of l.text);
}
