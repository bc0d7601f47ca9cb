-- What a script is to a command, by what was found of its lines.
use Rattle.std.proofs.Common.{◌≡◌, List, Some, None, Ok, Err, refl, sym, ap, ◌∙◌}
use Rattle.std.specs.Str.{IsUtf8, is_utf8}
use Rattle.std.proofs.lemmas.Bool.{false_from_ne_true}
use Rattle.std.proofs.lemmas.Str.{IsUtf8-from_is_utf8, is_utf8-from_IsUtf8}
use Rattle.rl_names.specs.declared.rule.Rule.TheVariants as rules
use Rattle.rl_view_spec.specs.Closure.{Text}
use Rattle.rl_script_spec.specs.Script.{Bad}
use Rattle.rl_script.specs.declared.script.ScriptError.{ScriptError}
use Rattle.rl_steps.specs.Script.{first_fault, lack_of, lines_of, script_of, steps_in, told}
use Rattle.rl_steps.specs.declared.script.Kinds.{Kinds}
use Rattle.rl_steps.specs.declared.step.Step.{Step}

module _ (kinds : Kinds) (bytes : Text) where
  pub no_text : (why : ScriptError) → (IsUtf8 bytes → ⊥) → Some (told 0 (Bad rules.NotUtf8)) ≡ Some why → script_of kinds bytes ≡ Err why
  no_text why not_text is =
      let same : told 0 (Bad rules.NotUtf8) ≡ why = cc in
      rw (false_from_ne_true (is_utf8 bytes) (λ e. not_text (IsUtf8-from_is_utf8 bytes e))) (ap Err same)

  module _ (valid : IsUtf8 bytes) where
    pub at_fault : (why : ScriptError) → first_fault kinds 0 (lines_of bytes) ≡ Some why → script_of kinds bytes ≡ Err why
    at_fault why faulty = rw (is_utf8-from_IsUtf8 bytes valid, faulty) refl

    pub lacking : (steps : List Step) (why : ScriptError) → first_fault kinds 0 (lines_of bytes) ≡ None → steps ≡ steps_in (lines_of bytes)
        → lack_of kinds steps ≡ Some why → script_of kinds bytes ≡ Err why
    lacking steps why fine same lacks = rw (is_utf8-from_IsUtf8 bytes valid, fine, ap (lack_of kinds) (sym same) ∙ lacks) refl

    pub is_whole : (steps : List Step) → first_fault kinds 0 (lines_of bytes) ≡ None → steps ≡ steps_in (lines_of bytes)
        → lack_of kinds steps ≡ None → script_of kinds bytes ≡ Ok steps
    is_whole steps fine same lacks =
        rw (is_utf8-from_IsUtf8 bytes valid, fine, ap (lack_of kinds) (sym same) ∙ lacks) (ap Ok (sym same))
