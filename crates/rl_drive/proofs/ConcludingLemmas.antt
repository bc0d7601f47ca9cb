-- The verdict on a script, from what its parts answer.
use Rattle.std.proofs.Common.{◌≡◌, ℕ, List, [], Bool, Option, Some, None, Err, refl, ap, ap₂, sym, ◌∙◌, reverse}
use Rattle.std.specs.declared.alloc.Global.{Global}
use Rattle.std.specs.Prelude.{Vec, if◌then◌else◌, option_map}
use Rattle.std.specs.Option.{option_map_or}
use Rattle.std.specs.Str.{IsUtf8, is_utf8}
use Rattle.std.proofs.lemmas.Bool.{false_from_ne_true}
use Rattle.std.proofs.lemmas.Str.{IsUtf8-from_is_utf8, is_utf8-from_IsUtf8}
use Rattle.rl_names.specs.Rules.{number_of}
use Rattle.rl_names.specs.declared.rule.Rule.TheVariants as rules
use Rattle.rl_names.specs.declared.name.Key.{Key}
use Rattle.rl_names.specs.declared.row.Row.{Row}
use Rattle.rl_view_spec.specs.Breach.{Breach, breach_of}
use Rattle.rl_view_spec.specs.Breach as breach
use Rattle.rl_view_spec.specs.Closure.{Text, Registered}
use Rattle.rl_view_spec.specs.View.{Throws}
use Rattle.rl_registry.specs.Answered.{Registers}
use Rattle.rl_registry.specs.declared.error.RegistryError.{RegistryError}
use Rattle.rl_registry.specs.declared.error.RegistryError.TheVariants as bad
use Rattle.rl_script.specs.Reads.{Tells}
use Rattle.rl_script.specs.declared.script.ScriptError.{ScriptError}
use Rattle.rl_script.specs.declared.script.ScriptError.TheVariants as faulty
use Rattle.rl_script_spec.specs.Output.{all_ready, events_of, output_of}
use Rattle.rl_script_spec.specs.Script.{Fault, Verdict, BadLine, Prints, TooMany, breach_verdict, fault_verdict, first_fault, lines_of, printed, registered_in}
use Rattle.rl_script_spec.specs.Script.{rows_in, steps_in, verdict_of}
use Rattle.rl_script_spec.specs.declared.Step.{Step}
use Rattle.rl_view.specs.Heard.{executions, throws_by, watched}
use Rattle.rl_drive.specs.Drives.{Concludes}
use Rattle.rl_drive.specs.Errors.{of_registry, of_script}
use Rattle.rl_drive.specs.Hearing.{AreHeard, executions_in}
use Rattle.rl_drive.proofs.HearingLemmas.{heard_nothing}

-- what a script says of a registry
abbrev pub said : Vec Row Global → Vec Text Global → Registered
said rows features = record { rows = rows.items; features = features.items }

fault_is : (fault : Option (ℕ × Fault)) (rest verdict : Verdict) → option_map fault_verdict fault ≡ Some verdict →
    option_map_or fault_verdict fault rest ≡ verdict
fault_is None rest verdict e = absurd (cc)
fault_is (Some fault) rest verdict e = cc

-- the verdict that an error tells is the one that is meant
pub told : (one refusal verdict : Verdict) → Some one ≡ Some refusal → verdict ≡ one → verdict ≡ refusal
told one refusal verdict p e = let same : one ≡ refusal = cc in e ∙ same

module _ (throws : Throws) where
  pub no_text : (bytes : Text) → (IsUtf8 bytes → ⊥) → verdict_of throws bytes ≡ BadLine 0 (number_of rules.NotUtf8)
  no_text bytes no' =
      ap (λ (valid : Bool). if valid then option_map_or fault_verdict (first_fault 0 (lines_of bytes))
      (option_map_or breach_verdict (breach_of (rows_in (lines_of bytes))) (printed throws bytes)) else BadLine 0 (number_of rules.NotUtf8))
      (false_from_ne_true (is_utf8 bytes) (λ e. no' (IsUtf8-from_is_utf8 bytes e)))

  of_text : (bytes : Text) → IsUtf8 bytes
      → verdict_of throws bytes ≡ option_map_or fault_verdict (first_fault 0 (lines_of bytes))
      (option_map_or breach_verdict (breach_of (rows_in (lines_of bytes))) (printed throws bytes))
  of_text bytes valid =
      ap (λ (valid : Bool). if valid then option_map_or fault_verdict (first_fault 0 (lines_of bytes))
      (option_map_or breach_verdict (breach_of (rows_in (lines_of bytes))) (printed throws bytes)) else BadLine 0 (number_of rules.NotUtf8))
      (is_utf8-from_IsUtf8 bytes valid)

  -- a script at fault
  pub at_fault : (bytes : Text) (error : ScriptError) → IsUtf8 bytes → Tells error (first_fault 0 (lines_of bytes)) →
      Concludes (Err (of_script error)) (verdict_of throws bytes)
  at_fault bytes (faulty.BadLine line why) valid tells = λ refusal p. of_text bytes valid
      ∙ fault_is (first_fault 0 (lines_of bytes)) _ refusal (tells refusal p)
  at_fault bytes (faulty.TooMany count) valid tells = λ refusal p. of_text bytes valid
      ∙ fault_is (first_fault 0 (lines_of bytes)) _ refusal (tells refusal p)
  at_fault bytes faulty.NoMemory valid tells = λ refusal p. of_text bytes valid ∙ fault_is (first_fault 0 (lines_of bytes)) _ refusal (tells refusal p)

  -- a script whose lines may stand where they do
  of_lines : (bytes : Text) (r : Registered) → IsUtf8 bytes → first_fault 0 (lines_of bytes) ≡ None → registered_in (lines_of bytes) ≡ r
      → verdict_of throws bytes ≡ option_map_or breach_verdict (breach_of r.rows) (printed throws bytes)
  of_lines bytes r valid none are =
      of_text bytes valid
      ∙ ap (λ (fault : Option (ℕ × Fault)). option_map_or fault_verdict fault
      (option_map_or breach_verdict (breach_of (rows_in (lines_of bytes))) (printed throws bytes))) none
      ∙ ap (λ (r : Registered). option_map_or breach_verdict (breach_of r.rows) (printed throws bytes)) are

  -- rows that are no registry
  pub no_registry : (bytes : Text) (r : Registered) (error : RegistryError) → IsUtf8 bytes → first_fault 0 (lines_of bytes) ≡ None →
      registered_in (lines_of bytes) ≡ r → Registers (Err error) r.rows r.features
      → Concludes (Err (of_registry error)) (verdict_of throws bytes)
  no_registry bytes r (bad.TooMany what count) valid none are broken = λ refusal p.
      told (TooMany what count) refusal (verdict_of throws bytes) p
      (of_lines bytes r valid none are ∙ ap (λ (breach : Option Breach). option_map_or breach_verdict breach (printed throws bytes))
      (broken (breach.TooMany what count) refl))
  no_registry bytes r (bad.Duplicate name) valid none are broken = λ refusal p.
      told (BadLine 0 (number_of rules.Duplicate)) refusal (verdict_of throws bytes) p
      (of_lines bytes r valid none are ∙ ap (λ (breach : Option Breach). option_map_or breach_verdict breach (printed throws bytes))
      (broken (breach.Duplicate name) refl))
  no_registry bytes r (bad.BadIndex row index) valid none are broken = λ refusal p.
      told (BadLine 0 (number_of rules.BadIndex)) refusal (verdict_of throws bytes) p
      (of_lines bytes r valid none are ∙ ap (λ (breach : Option Breach). option_map_or breach_verdict breach (printed throws bytes))
      (broken (breach.BadIndex row index) refl))
  no_registry bytes r bad.NoMemory valid none are broken = λ refusal p. absurd (cc)

  -- a script that was played
  pub is_played : (bytes : Text) (r : Registered) (steps : List Step) (text : Text) (ready : Bool) → IsUtf8 bytes →
      first_fault 0 (lines_of bytes) ≡ None → registered_in (lines_of bytes) ≡ r → steps_in (lines_of bytes) ≡ steps
      → breach_of r.rows ≡ None → text ≡ output_of (record { registered = r; throws = throws }) (reverse steps)
      → ready ≡ all_ready (record { registered = r; throws = throws }) (reverse steps) →
      verdict_of throws bytes ≡ Prints text ready
  is_played bytes r steps text ready valid none are steps_are whole e f =
      of_lines bytes r valid none are
      ∙ ap (λ (breach : Option Breach). option_map_or breach_verdict breach (printed throws bytes)) whole
      ∙ ap₂ (λ (r : Registered) (steps : List Step). Prints (output_of (record { registered = r; throws = throws }) (reverse steps))
      (all_ready (record { registered = r; throws = throws }) (reverse steps))) are steps_are
      ∙ ap₂ Prints (sym e) (sym f)

-- ---- what is heard

-- of a script that is refused nothing is heard
pub unread_unheard : (error : ScriptError) (heard : List (Key × Text)) (told : List (List (Key × Text))) → AreHeard (Err (of_script error)) heard told told
unread_unheard (faulty.BadLine line why) heard told = refl
unread_unheard (faulty.TooMany count) heard told = refl
unread_unheard faulty.NoMemory heard told = ([], heard, refl, heard_nothing told)

pub unregistered_unheard : (error : RegistryError) (heard : List (Key × Text)) (told : List (List (Key × Text))) →
    AreHeard (Err (of_registry error)) heard told told
unregistered_unheard (bad.TooMany what count) heard told = refl
unregistered_unheard (bad.Duplicate name) heard told = refl
unregistered_unheard (bad.BadIndex row index) heard told = refl
unregistered_unheard bad.NoMemory heard told = ([], heard, refl, heard_nothing told)

-- the executions of a script that was played
pub executions_are : (says : Key → Text → Bool) (bytes : Text) (r : Registered) (steps : List Step) → registered_in (lines_of bytes) ≡ r →
    steps_in (lines_of bytes) ≡ steps
    → executions (watched says r) (events_of r (reverse steps)) ≡ executions_in (throws_by says) bytes
executions_are says bytes r steps are steps_are =
    sym (ap₂ (λ (r : Registered) (steps : List Step). executions (watched says r) (events_of r (reverse steps))) are steps_are)
