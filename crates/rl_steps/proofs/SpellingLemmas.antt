-- The line of a step is read as that step.
use Rattle.std.proofs.Common.{◌≡◌, ◌∙◌, ◌<◌, ℕ, true, false, nat_lt, List, [], ◌∷◌, IsUtf8, Option, Some, Ok, option_and_then}
use Rattle.std.proofs.Common.{refl, ap, subst, arith}
use Rattle.std.specs.List.{AllByRecursion}
use Rattle.std.proofs.lemmas.Bool.Decides.{nat_tests}
use Rattle.std.proofs.lemmas.Str.{is_utf8-from_IsUtf8}
use Rattle.serde_json.specs.Data.{Data}
use Rattle.serde_json.specs.Find.{as_array}
use Rattle.serde_json.specs.Read.{read}
use Rattle.rl_view_spec.specs.Closure.{Text}
use Rattle.rl_script_spec.specs.Grammar.{members_of}
use Rattle.rl_script_spec.specs.Script.{cut, is_ignored, trimmed}
use Rattle.rl_wire.specs.Payload.{array_of}
use Rattle.rl_steps.specs.Grammar.{members_step, step_of}
use Rattle.rl_steps.specs.Script.{is_embedded, lines_of, script_of}
use Rattle.rl_steps.specs.Spelling.{values_of, step_text, IsSpelt, IsSized, StepsReadBack}
use Rattle.rl_steps.specs.declared.script.Kinds.TheVariants.{All}
use Rattle.rl_steps.specs.declared.step.Step.{Step}
use Rattle.rl_steps.specs.declared.step.Step.TheVariants.{Edit, Choice, Clock, View, Using, Load, Take, Serve, Deliver, Lose, Close, Embed}
use Rattle.rl_steps.specs.declared.step.TheConstants as limits
use Rattle.rl_steps.proofs.WrittenLemmas.{Plain, Plain-boolean, Plain-string, Plain-texts, Plain-whole, members_back, texts_back, values_read}
use Rattle.rl_steps.proofs.WrittenLemmas.{one_line_cut, one_line_trimmed}

plain_values : (step : Step) → IsSpelt step → IsSized step → AllByRecursion Plain (values_of step)
plain_values (Edit by title base text) spelt sized =
    (Plain-string _, (Plain-string by, (Plain-string title, (Plain-whole base sized, (Plain-string text, tt)))))
plain_values (Choice user key value) spelt sized = (Plain-string _, (Plain-string user, (Plain-string key, (Plain-string value, tt))))
plain_values (Clock now) spelt sized = (Plain-string _, (Plain-whole now (omega (arith, spelt)), tt))
plain_values (View user lang skin debug features) spelt sized =
    (Plain-string _, (Plain-string user, (Plain-string lang, (Plain-string skin, (Plain-boolean debug, (Plain-texts features, tt))))))
plain_values (Using names) spelt sized = (Plain-string _, (Plain-texts names, tt))
plain_values (Load names) spelt sized = (Plain-string _, (Plain-texts names, tt))
plain_values Take spelt sized = (Plain-string _, tt)
plain_values (Serve ask) spelt sized = (Plain-string _, (Plain-whole ask (omega (arith, sized)), tt))
plain_values (Deliver wire) spelt sized = (Plain-string _, (Plain-whole wire (omega (arith, sized)), tt))
plain_values (Lose ask) spelt sized = (Plain-string _, (Plain-whole ask (omega (arith, sized)), tt))
plain_values Close spelt sized = (Plain-string _, tt)
plain_values (Embed text) spelt sized = (Plain-string _, (Plain-string text, tt))

is_below : (n bound : ℕ) → n < bound → nat_lt n bound ≡ true
is_below n bound h = grind (arith, nat_tests)

-- the values of a step say that step
values_say : (step : Step) → IsSpelt step → IsSized step → members_step (values_of step) ≡ Some step
values_say (Edit by title base text) spelt sized = rw spelt refl
values_say (Choice user key value) spelt sized = rw spelt refl
values_say (Clock now) spelt sized = rw (is_below now limits.CLOCK_END spelt) refl
values_say (View user lang skin debug features) spelt sized = rw (spelt, members_back, texts_back features) refl
values_say (Using names) spelt sized = rw (members_back, texts_back names) refl
values_say (Load names) spelt sized = rw (members_back, texts_back names) refl
values_say Take spelt sized = refl
values_say (Serve ask) spelt sized = rw (is_below ask 4294967296 sized) refl
values_say (Deliver wire) spelt sized = rw (is_below wire 4294967296 sized) refl
values_say (Lose ask) spelt sized = rw (is_below ask 4294967296 sized) refl
values_say Close spelt sized = refl
values_say (Embed text) spelt sized = refl

line_says : (text : Text) (ds : List Data) (step : Step) → read text ≡ Some (array_of ds) → members_step ds ≡ Some step → step_of text ≡ Some step
line_says text ds step is says =
    ap (λ (d : Option Data). option_and_then (λ items. members_step (members_of items)) (option_and_then as_array d)) is
    ∙ ap members_step (members_back ds) ∙ says

-- a line that is not ignored stands alone
alone : (text : Text) (step : Step) → cut text ≡ text ∷ [] → trimmed text ≡ text → is_ignored text ≡ false → step_of text ≡ Some step
    → lines_of text ≡ (1, Some step) ∷ []
alone text step one same kept says = rw (one, same, kept, says) refl

read_alone : (text : Text) (step : Step) → is_embedded step ≡ false → IsUtf8 text → lines_of text ≡ (1, Some step) ∷ []
    → script_of All text ≡ Ok (step ∷ [])
read_alone text step plan valid lines = rw (is_utf8-from_IsUtf8 text valid, lines, plan) refl

pub steps_read_back : StepsReadBack
steps_read_back step plan spelt sized valid =
    let plain = plain_values step spelt sized in
    read_alone (step_text step) step plan valid
    (alone (step_text step) step (one_line_cut (values_of step) plain) (one_line_trimmed (values_of step)) refl
    (line_says (step_text step) (values_of step) step (values_read (values_of step) plain) (values_say step spelt sized)))

-- a text that is the line of a step
pub read_as : (step : Step) (text : Text) → is_embedded step ≡ false → IsSpelt step → IsSized step → text ≡ step_text step → IsUtf8 text
    → script_of All text ≡ Ok (step ∷ [])
read_as step text plan spelt sized is valid = ap (script_of All) is ∙ steps_read_back step plan spelt sized (subst IsUtf8 is valid)
