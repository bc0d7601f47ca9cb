-- How the steps of a script are taken in, line by line, for clauses of private functions.
use Rattle.std.specs.Prelude.{◌≡◌, ◌++◌, ◌∷◌, ℕ, List, [], length, Option, Some, None, option_map, Result}
use Rattle.rl_names.specs.Meant.{ButForMemory}
use Rattle.rl_script.specs.declared.script.ScriptError.{ScriptError}
use Rattle.rl_steps.specs.Script.{fault_after, refusal, steps_in, told}
use Rattle.rl_steps.specs.declared.script.Kinds.{Kinds}
use Rattle.rl_steps.specs.declared.step.Step.{Step}

-- one more line is said behind these steps: its step is added, or the line may not stand there
abbrev pub TakesIn : Kinds → ℕ → Option Step → Result (Unit {0}) ScriptError → List Step → List Step → Type 0
TakesIn kinds number said result before after =
    ButForMemory refusal (λ _. (fault_after kinds (length before) said ≡ None) × (after ≡ before ++ steps_in ((number, said) ∷ [])))
    (λ why. option_map (told number) (fault_after kinds (length before) said) ≡ Some why) result
