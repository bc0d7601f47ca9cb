-- What is left of the lines of a script, as the loop over them goes on.
use Rattle.std.proofs.Common.{min, ◌≡◌, ◌+◌, ◌++◌, ℕ, Bool, true, false, List, [], ◌∷◌, length, Bor, Option, Some, None, refl, ap, sym}
use Rattle.std.proofs.Common.{◌∙◌, subst, arith, length-append, append_assoc, append-nil, option_map}
use Rattle.std.specs.Prelude.{if◌then◌else◌}
use Rattle.std.specs.Option.{option_map_or}
use Rattle.std.specs.Iterator.{AlwaysYields}
use Rattle.std.proofs.lemmas.Iterator.{YieldsList}
use Rattle.rl_view_spec.specs.Closure.{Text}
use Rattle.rl_script_spec.specs.Script.{Fault, cut, capped, trimmed, is_ignored}
use Rattle.rl_script.specs.declared.script.ScriptError.{ScriptError}
use Rattle.rl_steps.specs.Grammar.{step_of}
use Rattle.rl_steps.specs.Script.{fault_after, first_fault, lines_of, said_from, steps_in, told}
use Rattle.rl_steps.specs.declared.script.Kinds.{Kinds}
use Rattle.rl_steps.specs.declared.step.Step.{Step}

-- what a line says, if it is not ignored
abbrev pub said_by : Text → Option (Option Step)
said_by text = if is_ignored (trimmed text) then None else Some (step_of (trimmed text))

-- the number of the next line
pub next_number : (number result passed : ℕ) → number ≡ capped passed → result ≡ min (number + 1) 4294967295 → result ≡ capped (passed + 1)
next_number number result passed same is = omega arith

-- the step of a line is in no need of its number
same_said : (a b : ℕ) (said : Option Step) → steps_in ((a, said) ∷ []) ≡ steps_in ((b, said) ∷ [])
same_said a b None = refl
same_said a b (Some step) = refl

module _ (kinds : Kinds) where
  -- the steps, with the lines that are left, are what all lines say
  pub record SaysTheSame (steps : List Step) (left all : List (ℕ × Option Step)) : Type 0 where
    pub fault : first_fault kinds (length steps) left ≡ first_fault kinds 0 all
    pub whole : steps ++ steps_in left ≡ steps_in all

  -- the iterator gives these texts, which are the lines after so many
  pub record IsLeft {S : Type 0} (yields_by : S → Option (Bor Text) → S → Type 0) (iterator : S) (steps : List Step) (number : ℕ)
      (all : List (ℕ × Option Step)) : Type 0 where
    pub texts : List Text
    pub yields : AlwaysYields yields_by (λ line. line.now) iterator texts
    pub same : SaysTheSame steps (said_from (number + 1) texts) all

  -- ---- one line

  -- a line is taken in
  take_one : (before after : List Step) (number : ℕ) (said : Option Step) (lines all : List (ℕ × Option Step))
      → SaysTheSame before ((number, said) ∷ lines) all
      → fault_after kinds (length before) said ≡ None → after ≡ before ++ steps_in ((number, said) ∷ [])
      → SaysTheSame after lines all
  take_one before after number None lines all same fine is = absurd (cc)
  take_one before after number (Some step) lines all same fine is =
      let goes_on : first_fault kinds (length before) ((number, Some step) ∷ lines) ≡ first_fault kinds (length before + 1) lines = rw fine refl in
      record {
        fault = rw (is, length-append) (sym goes_on ∙ same.fault);
        whole = rw (is, append_assoc) same.whole;
      }

  -- a line may not stand there
  refuse_one : (before : List Step) (number line : ℕ) (said : Option Step) (lines all : List (ℕ × Option Step)) (why : ScriptError)
      → SaysTheSame before ((number, said) ∷ lines) all → line ≡ capped number
      → option_map (told line) (fault_after kinds (length before) said) ≡ Some why
      → first_fault kinds 0 all ≡ Some why
  refuse_one before number line said lines all why same is refused = sym same.fault ∙ by_fault (fault_after kinds (length before) said) refused
    where
      by_fault : (fault : Option Fault) → option_map (told line) fault ≡ Some why
          → option_map_or (λ fault. Some (told (capped number) fault)) fault (first_fault kinds (length before + 1) lines) ≡ Some why
      by_fault None h = absurd (cc)
      by_fault (Some fault) h = ap (λ (n : ℕ). Some (told n fault)) (sym is) ∙ h

  -- ---- all lines

  module _ {S : Type 0} (yields_by : S → Option (Bor Text) → S → Type 0) where
    pub all_left : (iterator : S) (steps : List Step) (text : Text) → YieldsList yields_by (λ line. line.now) iterator (cut text) → steps ≡ []
        → IsLeft yields_by iterator steps 0 (lines_of text)
    all_left iterator steps text yields none = record {
      texts = cut text;
      yields = yields.runs;
      same = record { fault = rw none refl; whole = rw none refl };
    }

    -- the line that comes, and what is left after it
    abbrev Comes : Text → S → List Step → ℕ → List (ℕ × Option Step) → Type 0
    Comes line after steps number all =
        (texts : List Text) × AlwaysYields yields_by (λ line. line.now) after texts × SaysTheSame steps (said_from (number + 1) (line ∷ texts)) all

    comes : (before after : S) (line : Bor Text) (steps : List Step) (number : ℕ) (all : List (ℕ × Option Step))
        → IsLeft yields_by before steps number all → yields_by before (Some line) after → Comes line.now after steps number all
    comes before after line steps number all left took = cases left.texts left.yields left.same
      where
        cases : (texts : List Text) → AlwaysYields yields_by (λ line. line.now) before texts → SaysTheSame steps (said_from (number + 1) texts) all
            → Comes line.now after steps number all
        cases [] yields same = absurd (yields line after took)
        cases (text ∷ texts) yields same =
            let m = yields.1 line after took in
            (texts, m.1, subst (λ (now : Text). SaysTheSame steps (said_from (number + 1) (now ∷ texts)) all) (sym m.0) same)

    -- the lines that are said, by what the first says
    said_first : (number : ℕ) (text : Text) (texts : List Text) (said : Option (Option Step)) → said_by text ≡ said
        → said_from number (text ∷ texts) ≡ option_map_or (λ said. (number, said) ∷ said_from (number + 1) texts) said (said_from (number + 1) texts)
    said_first number text texts said is = by_ignored (is_ignored (trimmed text)) said is
      where
        by_ignored : (b : Bool) (said : Option (Option Step)) → (if b then None else Some (step_of (trimmed text))) ≡ said
            → (if b then said_from (number + 1) texts else (number, step_of (trimmed text)) ∷ said_from (number + 1) texts)
            ≡ option_map_or (λ said. (number, said) ∷ said_from (number + 1) texts) said (said_from (number + 1) texts)
        by_ignored true said h = rw (sym h) refl
        by_ignored false said h = rw (sym h) refl

    -- a line that says nothing
    pub passed_over : (before after : S) (line : Bor Text) (steps : List Step) (number : ℕ) (all : List (ℕ × Option Step))
        → IsLeft yields_by before steps number all → yields_by before (Some line) after → said_by line.now ≡ None
        → IsLeft yields_by after steps (number + 1) all
    passed_over before after line steps number all left took none =
        let m = comes before after line steps number all left took in
        record {
          texts = m.0;
          yields = m.1;
          same = subst (λ (lines : List (ℕ × Option Step)). SaysTheSame steps lines all) (said_first (number + 1) line.now m.0 None none) m.2;
        }

    -- a line that is taken in
    pub taken_in : (before after : S) (line : Bor Text) (steps next : List Step) (number told_number : ℕ) (said : Option Step)
        (all : List (ℕ × Option Step))
        → IsLeft yields_by before steps number all → yields_by before (Some line) after → said_by line.now ≡ Some said
        → fault_after kinds (length steps) said ≡ None → next ≡ steps ++ steps_in ((told_number, said) ∷ [])
        → IsLeft yields_by after next (number + 1) all
    taken_in before after line steps next number told_number said all left took some fine is =
        let m = comes before after line steps number all left took in
        record {
          texts = m.0;
          yields = m.1;
          same = take_one steps next (number + 1) said (said_from (number + 1 + 1) m.0) all
              (subst (λ (lines : List (ℕ × Option Step)). SaysTheSame steps lines all) (said_first (number + 1) line.now m.0 (Some said) some) m.2) fine
              (is ∙ ap (λ (more : List Step). steps ++ more) (same_said told_number (number + 1) said));
        }

    -- a line that may not stand there
    pub refused : (before after : S) (line : Bor Text) (steps : List Step) (number told_number : ℕ) (said : Option Step) (why : ScriptError)
        (all : List (ℕ × Option Step))
        → IsLeft yields_by before steps number all → yields_by before (Some line) after → said_by line.now ≡ Some said
        → told_number ≡ capped (number + 1) → option_map (told told_number) (fault_after kinds (length steps) said) ≡ Some why
        → first_fault kinds 0 all ≡ Some why
    refused before after line steps number told_number said why all left took some is fault =
        let m = comes before after line steps number all left took in
        refuse_one steps (number + 1) told_number said (said_from (number + 1 + 1) m.0) all why
        (subst (λ (lines : List (ℕ × Option Step)). SaysTheSame steps lines all) (said_first (number + 1) line.now m.0 (Some said) some) m.2) is fault

    -- no line is left
    pub ended : (before after : S) (steps : List Step) (number : ℕ) (all : List (ℕ × Option Step)) → IsLeft yields_by before steps number all
        → yields_by before None after → (first_fault kinds 0 all ≡ None) × (steps ≡ steps_in all)
    ended before after steps number all left took = cases left.texts left.yields left.same
      where
        cases : (texts : List Text) → AlwaysYields yields_by (λ line. line.now) before texts → SaysTheSame steps (said_from (number + 1) texts) all
            → (first_fault kinds 0 all ≡ None) × (steps ≡ steps_in all)
        cases [] yields same = (sym same.fault, sym (append-nil steps) ∙ same.whole)
        cases (text ∷ texts) yields same = absurd (yields.0 after took)
