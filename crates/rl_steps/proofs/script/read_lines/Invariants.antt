use Rattle.std.proofs.Common.{◌≡◌, length}
use Rattle.std.specs.Str.Iter.{split_steps}
use Rattle.std.specs.Str.Pattern.{FindsChar}
use Rattle.rl_script_spec.specs.Script.{capped}
use Rattle.rl_steps.specs.Script.{lines_of}
use Rattle.rl_steps.proofs.LinesLemmas.{IsLeft}
use Rattle.rl_steps.proofs.script.read_lines.Given as goal

abbrev pub invariant-loop-line : goal.invariant-loop-line
invariant-loop-line l = record {
  number : l.number ≡ capped (length l.yielded);
  left : IsLeft l.kinds (split_steps FindsChar (λ a b. b ≡ a)) l.line-iterator l.steps.items (length l.yielded) (lines_of l.text);
}
