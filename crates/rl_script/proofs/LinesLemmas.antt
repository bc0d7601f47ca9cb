-- What is left of the lines of a script, as the loop over them goes on.
use Rattle.std.proofs.Common.{min, ◌≡◌, ◌+◌, ◌++◌, ℕ, List, [], ◌∷◌, length, Bor, Option, Some, None, Ok, Err, refl, ap, sym, subst}
use Rattle.std.proofs.Common.{◌∙◌, ap₂, arith, length-append, append_assoc, append-nil, option_map}
use Rattle.std.specs.Option.{option_map_or, option_or}
use Rattle.std.specs.Iterator.{AlwaysYields}
use Rattle.std.proofs.lemmas.Iterator.{YieldsList}
use Rattle.rl_view_spec.specs.Closure.{Text}
use Rattle.rl_script_spec.specs.declared.Line.{Line}
use Rattle.rl_script_spec.specs.declared.Line.TheVariants.{Registers, HasFeatures, Does, Faulty}
use Rattle.rl_script_spec.specs.Script.{BadLine, Fault, Bad, TooManySteps, cut, capped, fault_after, first_fault, last_features, lines_of, registered_in}
use Rattle.rl_script_spec.specs.Script.{rows_in, said_of, said_from, steps_in, steps_with}
use Rattle.rl_script.specs.Reads.{Reads, TakesIn, Tells}
use Rattle.rl_script.specs.declared.script.Script.{Script}
use Rattle.rl_script.specs.declared.script.ScriptError.{ScriptError}
use Rattle.rl_script.specs.declared.script.ScriptError.TheVariants as told_error
use Rattle.rl_names.specs.Rules.{number_of}
use Rattle.rl_names.specs.declared.row.Row.{Row}

-- the script, with the lines that are left, says what all lines say
pub record SaysTheSame (script : Script) (left all : List (ℕ × Line)) : Type 0 where
  pub fault : first_fault (length script.steps.items) left ≡ first_fault 0 all
  pub rows : script.rows.items ++ rows_in left ≡ rows_in all
  pub features : option_map_or (λ features. features) (last_features left) script.features.items ≡ (registered_in all).features
  pub steps : script.steps.items ++ steps_in left ≡ steps_in all

-- the iterator gives these texts, which are the lines after so many
pub record IsLeft {S : Type 0} (step : S → Option (Bor Text) → S → Type 0) (iterator : S) (script : Script) (number : ℕ)
    (all : List (ℕ × Line)) : Type 0 where
  pub texts : List Text
  pub yields : AlwaysYields step (λ line. line.now) iterator texts
  pub same : SaysTheSame script (said_from (number + 1) texts) all

-- ---- one line

-- a text with nothing after it
with_nothing : {X : Type 0} (before after more : List X) → after ≡ before ++ [] → after ++ more ≡ before ++ more
with_nothing before after more e = rw (e, append-nil) refl

one_more : {X : Type 0} (before after more : List X) (x : X) → after ≡ before ++ x ∷ [] → after ++ more ≡ before ++ x ∷ more
one_more before after more x e = rw (e, append_assoc) refl

-- the fault of the first of some lines, where it has none
no_fault : (steps at : ℕ) (said : Line) (lines : List (ℕ × Line)) → fault_after steps said ≡ None →
    first_fault steps ((at, said) ∷ lines) ≡ first_fault (steps_with steps said) lines
no_fault steps at said lines e = rw e refl

-- a line is taken in
take_one : (script next : Script) (at told : ℕ) (said : Line) (lines all : List (ℕ × Line))
    → SaysTheSame script ((at, said) ∷ lines) all → TakesIn script (told, said) (Ok tt) next → SaysTheSame next lines all
take_one script next at told Faulty lines all same taken = let e = taken.0 in cc
take_one script next at told (Registers row) lines all same taken = record {
  fault = rw (taken.3, append-nil) (sym (no_fault (length script.steps.items) at (Registers row) lines taken.0) ∙ same.fault);
  rows = one_more script.rows.items next.rows.items (rows_in lines) row taken.1 ∙ same.rows;
  features = rw taken.2 same.features;
  steps = with_nothing script.steps.items next.steps.items (steps_in lines) taken.3 ∙ same.steps;
}
take_one script next at told (HasFeatures features) lines all same taken = record {
  fault = rw (taken.3, append-nil) (sym (no_fault (length script.steps.items) at (HasFeatures features) lines taken.0) ∙ same.fault);
  rows = with_nothing script.rows.items next.rows.items (rows_in lines) taken.1 ∙ same.rows;
  features = rw taken.2 (last_or (last_features lines) features script.features.items ∙ same.features);
  steps = with_nothing script.steps.items next.steps.items (steps_in lines) taken.3 ∙ same.steps;
}
  where
    last_or : (last : Option (List Text)) (features other : List Text) →
        option_map_or (λ f. f) last features ≡ option_map_or (λ f. f) (option_or last (Some features)) other
    last_or None features other = refl
    last_or (Some later) features other = refl
take_one script next at told (Does step) lines all same taken = record {
  fault = rw (taken.3, length-append) (sym (no_fault (length script.steps.items) at (Does step) lines taken.0) ∙ same.fault);
  rows = with_nothing script.rows.items next.rows.items (rows_in lines) taken.1 ∙ same.rows;
  features = rw taken.2 same.features;
  steps = one_more script.steps.items next.steps.items (steps_in lines) step taken.3 ∙ same.steps;
}

capped_twice : (number : ℕ) → capped (capped number) ≡ capped number
capped_twice number = grind arith

-- the number of the next line
pub next_number : (number result passed : ℕ) → number ≡ capped passed → result ≡ min (number + 1) 4294967295 → result ≡ capped (passed + 1)
next_number number result passed same is = omega arith

-- an error tells the same of a line by its number and by the number that is given
tells_capped : (error : ScriptError) (at told : ℕ) (fault : Fault) → told ≡ capped at → Tells error (Some (told, fault)) →
    Tells error (Some (at, fault))
tells_capped error at told (Bad rule) e told_it = λ verdict p. ap (λ (n : ℕ). Some (BadLine n (number_of rule))) (sym (ap capped e ∙ capped_twice at))
    ∙ told_it verdict p
tells_capped error at told TooManySteps e told_it = told_it

-- a line may not stand there
refuse_one : (script next : Script) (at told : ℕ) (said : Line) (lines all : List (ℕ × Line)) (error : ScriptError)
    → SaysTheSame script ((at, said) ∷ lines) all → TakesIn script (told, said) (Err error) next → told ≡ capped at →
    Tells error (first_fault 0 all)
refuse_one script next at told said lines all error same told_it number =
    subst (λ (fault : Option (ℕ × Fault)). Tells error fault) same.fault (step (fault_after (length script.steps.items) said) told_it)
  where
    step : (fault : Option Fault) → Tells error (option_map (λ fault. (told, fault)) fault)
        → Tells error (option_map_or (λ fault. Some (at, fault)) fault (first_fault (steps_with (length script.steps.items) said) lines))
    step None h = λ verdict p. let wrong = h verdict p in absurd (cc)
    step (Some fault) h = tells_capped error at told fault number h

-- ---- all lines

module _ {S : Type 0} (step : S → Option (Bor Text) → S → Type 0) where
  pub all_left : (iterator : S) (script : Script) (text : Text) → YieldsList step (λ line. line.now) iterator (cut text)
      → script.rows.items ≡ [] → script.features.items ≡ [] → script.steps.items ≡ [] → IsLeft step iterator script 0 (lines_of text)
  all_left iterator script text yields rows features steps = record {
    texts = cut text;
    yields = yields.runs;
    same = record { fault = rw steps refl; rows = rw rows refl; features = rw features refl; steps = rw steps refl };
  }

  -- the line that comes, and what is left after it
  abbrev Comes : Text → S → Script → ℕ → List (ℕ × Line) → Type 0
  Comes line after script number all =
      (texts : List Text) × AlwaysYields step (λ line. line.now) after texts × SaysTheSame script (said_from (number + 1) (line ∷ texts)) all

  comes : (before after : S) (line : Bor Text) (script : Script) (number : ℕ) (all : List (ℕ × Line))
      → IsLeft step before script number all → step before (Some line) after → Comes line.now after script number all
  comes before after line script number all left took = cases left.texts left.yields left.same
    where
      cases : (texts : List Text) → AlwaysYields step (λ line. line.now) before texts → SaysTheSame script (said_from (number + 1) texts) all →
          Comes line.now after script number all
      cases [] yields same = absurd (yields line after took)
      cases (text ∷ texts) yields same =
          let m = yields.1 line after took in
          (texts, m.1, subst (λ (now : Text). SaysTheSame script (said_from (number + 1) (now ∷ texts)) all) (sym m.0) same)

  is_said : (line : Text) (script : Script) (number : ℕ) (said : Line) (texts : List Text) (all : List (ℕ × Line)) → said_of line ≡ Some said
      → SaysTheSame script (said_from (number + 1) (line ∷ texts)) all → SaysTheSame script ((number + 1, said) ∷ said_from (number + 1 + 1) texts) all
  is_said line script number said texts all some same =
      subst (λ (said : Option Line). SaysTheSame script (option_map_or (λ line. (number + 1, line) ∷ said_from (number + 1 + 1) texts) said
      (said_from (number + 1 + 1) texts)) all) some same

  -- a line that says nothing
  pub passed_over : (before after : S) (line : Bor Text) (script : Script) (number : ℕ) (all : List (ℕ × Line))
      → IsLeft step before script number all → step before (Some line) after → said_of line.now ≡ None → IsLeft step after script (number + 1) all
  passed_over before after line script number all left took none =
      let m = comes before after line script number all left took in
      record {
        texts = m.0;
        yields = m.1;
        same = subst (λ (said : Option Line). SaysTheSame script
            (option_map_or (λ line. (number + 1, line) ∷ said_from (number + 1 + 1) m.0) said (said_from (number + 1 + 1) m.0)) all) none m.2;
      }

  -- a line that is taken in
  pub taken_in : (before after : S) (line : Bor Text) (script next : Script) (number told : ℕ) (said : Line) (all : List (ℕ × Line))
      → IsLeft step before script number all → step before (Some line) after → said_of line.now ≡ Some said → TakesIn script (told, said) (Ok tt) next
      → IsLeft step after next (number + 1) all
  taken_in before after line script next number told said all left took some taken =
      let m = comes before after line script number all left took in
      record {
        texts = m.0;
        yields = m.1;
        same = take_one script next (number + 1) told said (said_from (number + 1 + 1) m.0) all
            (is_said line.now script number said m.0 all some m.2) taken;
      }

  -- a line that may not stand there
  pub refused : (before after : S) (line : Bor Text) (script next : Script) (number told : ℕ) (said : Line) (error : ScriptError) (all : List (ℕ × Line))
      → IsLeft step before script number all → step before (Some line) after → said_of line.now ≡ Some said →
      TakesIn script (told, said) (Err error) next
      → told ≡ capped (number + 1) → Tells error (first_fault 0 all)
  refused before after line script next number told said error all left took some taken same =
      let m = comes before after line script number all left took in
      refuse_one script next (number + 1) told said (said_from (number + 1 + 1) m.0) all error (is_said line.now script number said m.0 all some m.2) taken same

  -- no line is left
  pub ended : (before after : S) (script : Script) (number : ℕ) (all : List (ℕ × Line)) → IsLeft step before script number all →
      step before None after → Reads (Ok script) all
  ended before after script number all left took = cases left.texts left.yields left.same
    where
      cases : (texts : List Text) → AlwaysYields step (λ line. line.now) before texts → SaysTheSame script (said_from (number + 1) texts) all →
          Reads (Ok script) all
      cases [] yields same = record {
        whole = sym same.fault;
        registered = ap₂ (λ (rows : List Row) (features : List Text). record { rows = rows; features = features })
            (sym same.rows ∙ append-nil script.rows.items) (sym same.features);
        steps = sym same.steps ∙ append-nil script.steps.items;
      }
      cases (text ∷ texts) yields same = absurd (yields.0 after took)
