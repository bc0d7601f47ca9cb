-- Executions, one after another, and what is heard of them.
use mathlib.Core.Path.{fun_ext}
use Rattle.std.proofs.Common.{◌≡◌, ℕ, ◌-◌, ◌<◌, ◌≤◌, List, [], ◌∷◌, ◌++◌, Bool, true, false, Option, Some, None, length, map, refl, ap, ap₂, sym, subst, ◌∙◌}
use Rattle.std.proofs.Common.{append_assoc, append-nil, arith, length-append}
use Rattle.std.specs.Prelude.{IsErr, Result, Ok, Err}
use Rattle.std.specs.List.{filter_map}
use Rattle.std.proofs.lemmas.List.{map-append}
use Rattle.std.proofs.lemmas.List.Elements.{filter_map-append}
use Rattle.rl_names.specs.declared.name.Key.{Key}
use Rattle.rl_names.specs.declared.text.NoMemory.{NoMemory}
use Rattle.rl_view_spec.specs.Closure.{Text}
use Rattle.rl_view_spec.specs.Keys.{never}
use Rattle.rl_view_spec.specs.Progress.{HasDistinctNames, name_at}
use Rattle.rl_view_spec.specs.View.{View, Event, Answer, Implementation, Missing, Failed, GivenUp, first_of, is_implementation, throws_at, throws_for}
use Rattle.rl_view_spec.proofs.ObservedLemmas.{first_same}
use Rattle.rl_view.specs.Heard.{after_hearing, execution_of, executions_of, throws_by}
use Rattle.rl_wire.specs.declared.part.Part.{Part}
use Rattle.rl_wire.specs.declared.part.Part.TheVariants.{Impl}
use Rattle.rl_book_spec.specs.Given.{given_to, outcome_of}
use Rattle.rl_book_spec.specs.Kept.{Booked, events_in, is_due}
use Rattle.rl_book_spec.specs.Opening.{answer_of, view_of}
use Rattle.rl_book_spec.specs.declared.Origin.{Origin}
use Rattle.rl_book_spec.proofs.GivenLemmas.{given_outcome}
use Rattle.rl_book.specs.Calls.{Executes, ExecutesNext, HasExecuted, IsRun, Rests, Resumes, Told, is_answered, runs_by, watched_in}
use Rattle.rl_book.specs.declared.answer.Run.{Run}

-- ---- what observers heard

pub same_says : (one other : Key → Text → Bool) → ((key : Key) (script : Text) → one key script ≡ other key script) → one ≡ other
same_says one other same = fun_ext (λ key. fun_ext (same key))

pub heard_nothing : (told : Told) → told ≡ after_hearing [] told
heard_nothing [] = refl
heard_nothing (before ∷ told) = ap₂ (λ (x : List (Key × Text)) (xs : Told). x ∷ xs) (sym (append-nil before)) (heard_nothing told)

heard_more : (one other : List (Key × Text)) (told : Told) → after_hearing other (after_hearing one told) ≡ after_hearing (one ++ other) told
heard_more one other [] = refl
heard_more one other (before ∷ told) =
    ap₂ (λ (x : List (Key × Text)) (xs : Told). x ∷ xs) (append_assoc before one other) (heard_more one other told)

-- ---- one after another

module _ (says : Key → Text → Bool) where
  pub executes_none : (b : Booked) (told : Told) → Executes says [] b b told told
  executes_none b told = record {
    ran = ap (λ (ran : List (ℕ × Bool)). record b { ran = ran }) (sym (append-nil b.ran));
    heard = heard_nothing told;
  }

  pub executes_more : (rows : List ℕ) (row : ℕ) (first old new : Booked) (told told1 told' : Told) → Executes says rows first old told told1
      → Executes says (row ∷ []) old new told1 told' → Executes says (rows ++ row ∷ []) first new told told'
  executes_more rows row first old new told told1 told' before more =
      let v : View = watched_in says first in
      let events : List Event = events_in first in
      let run : ℕ → ℕ × Bool = λ row. (row, throws_at v events (name_at first.opening.registered row)) in
      let heard_of : ℕ → Option (Key × Text) = λ row. execution_of (name_at v.registered row) (first_of v events (name_at v.registered row)) in
      record {
        ran =
            more.ran ∙ ap (λ (b : Booked). record b { ran = b.ran ++ runs_by says b (row ∷ []) }) before.ran
            ∙ ap (λ (ran : List (ℕ × Bool)). record first { ran = ran })
            (append_assoc first.ran (runs_by says first rows) (runs_by says first (row ∷ []))
            ∙ ap (λ (runs : List (ℕ × Bool)). first.ran ++ runs) (sym (map-append run rows (row ∷ []))));
        heard =
            more.heard ∙ ap (λ (b : Booked). after_hearing (executions_of (watched_in says b) (events_in b) (row ∷ [])) told1) before.ran
            ∙ ap (after_hearing (executions_of v events (row ∷ []))) before.heard
            ∙ heard_more (executions_of v events rows) (executions_of v events (row ∷ [])) told
            ∙ ap (λ (heard : List (Key × Text)). after_hearing heard told) (sym (filter_map-append heard_of rows (row ∷ [])));
      }

  -- fewer rows are left
  pub fewer_left : (row : ℕ) (old new : Booked) (told told' : Told) → Executes says (row ∷ []) old new told told'
      → length new.ran ≤ length new.opening.registered.rows
      → length new.opening.registered.rows - length new.ran < length old.opening.registered.rows - length old.ran
  fewer_left row old new told told' e few =
      let rows = ap (λ (b : Booked). length b.opening.registered.rows) e.ran in
      let ran = ap (λ (b : Booked). length b.ran) e.ran in
      let one = length-append old.ran (runs_by says old (row ∷ [])) in
      omega (arith, rows, ran, one, few)

-- ---- one execution

-- the row was answered with what executes
run_outcome : (b : Booked) (row : ℕ) (threw : Bool) (run : Run) → HasDistinctNames b.opening.registered → is_answered b row ≡ true
    → IsRun b (row, threw) run → outcome_of b.opening b.past (name_at b.opening.registered row) ≡ Some (Implementation run.key.version run.script)
run_outcome b row threw run distinct answered r = step (outcome_of b.opening b.past name) refl answered
  where
    name : Text
    name = name_at b.opening.registered row

    impl : Part
    impl = Impl run.key.name run.key.version run.script r.part.0 r.part.1

    some_same : (given : Part × Origin) → given_to b.opening b.past name ≡ Some given → given ≡ (impl, run.origin)
    some_same given e =
        let f : Some given ≡ Some (impl, run.origin) = sym e ∙ ap (given_to b.opening b.past) (sym r.name) ∙ r.part.2 in cc

    step : (outcome : Option Answer) → outcome_of b.opening b.past name ≡ outcome → is_implementation outcome ≡ true
        → outcome_of b.opening b.past name ≡ Some (Implementation run.key.version run.script)
    step None e i = cc
    step (Some (Implementation version script)) e i =
        let m = given_outcome b.opening b.past name version script distinct e in
        e ∙ ap Some (sym m.2 ∙ ap (λ (given : Part × Origin). answer_of given.0) (some_same m.0 m.1))
    step (Some Missing) e i = cc
    step (Some Failed) e i = cc
    step (Some GivenUp) e i = cc

module _ (says : Key → Text → Bool) (old new : Booked) (row : ℕ) (threw : Bool) (run : Run) (distinct : HasDistinctNames old.opening.registered)
    (answered : is_answered old row ≡ true) (r : IsRun old (row, threw) run) where
  abbrev name : Text
  name = name_at old.opening.registered row

  first_is : first_of (watched_in says old) (events_in old) name ≡ Some (Implementation run.key.version run.script)
  first_is =
      sym (first_same (view_of never old.opening) (throws_by says) (events_in old) name) ∙ run_outcome old row threw run distinct answered r

  key_is : record { name = name; version = run.key.version } ≡ run.key
  key_is = ap (λ (n : Text). record { name = n; version = run.key.version }) (sym r.name)

  -- it is heard under its key, and threw where it is said to
  pub executes_one : (threw' : Bool) (told told' : Told) → threw' ≡ says run.key run.script
      → new ≡ record old { ran = old.ran ++ (row, threw') ∷ [] }
      → told' ≡ map (λ (before : List (Key × Text)). before ++ (run.key, run.script) ∷ []) told
      → Executes says (row ∷ []) old new told told'
  executes_one threw' told told' says_so ran heard = record {
    ran = ran ∙ ap (λ (b : Bool). record old { ran = old.ran ++ (row, b) ∷ [] })
        (says_so ∙ ap (λ (key : Key). says key run.script) (sym key_is) ∙ sym (ap (throws_for (throws_by says) name) first_is));
    heard =
        heard ∙ ap (λ (key : Key). after_hearing ((key, run.script) ∷ []) told) (sym key_is)
        ∙ ap (λ (o : Option Answer). after_hearing (filter_map (λ (row : ℕ). execution_of name o) (row ∷ [])) told) (sym first_is);
  }

-- ---- what the next execution leaves

-- where memory ran out
pub stops_next : (says : Key → Text → Bool) (r : Result Bool NoMemory) (old : Booked) (told told' : Told) → IsErr r → is_due old ≡ true
    → told' ≡ told → ExecutesNext says r old old told told'
stops_next says (Ok ran) old told told' err due same = cc
stops_next says (Err error) old told told' err due same = (due, refl, same)

-- where a row executed, by what observers said at first
pub next_row_ran : (says first : Key → Text → Bool) (ran : Bool) (old new : Booked) (told told' : Told) → ran ≡ true → says ≡ first
    → ExecutesNext says (Ok ran) old new told told' → (row : ℕ) × Executes first (row ∷ []) old new told told'
next_row_ran says first false old new told told' e same h = cc
next_row_ran says first true old new told told' e same h =
    (h.0, subst (λ (s : Key → Text → Bool). Executes s (h.0 ∷ []) old new told told') same h.2)

-- where none was due
pub none_ran : (says : Key → Text → Bool) (ran : Bool) (old new : Booked) (told told' : Told) → ran ≡ false
    → ExecutesNext says (Ok ran) old new told told' → Rests old × (new ≡ old) × (told' ≡ told)
none_ran says true old new told told' e h = cc
none_ran says false old new told told' e h = h

module _ (says : Key → Text → Bool) (first old new : Booked) (told told1 told' : Told) (before : HasExecuted says first old told told1)
    (is : new ≡ old) (same : told' ≡ told1) where
  executed_same : HasExecuted says first new told told'
  executed_same = (before.0, record { ran = is ∙ before.1.ran; heard = same ∙ before.1.heard })

  pub resumed : Rests old → HasExecuted says first new told told' × Rests new
  resumed rests = (executed_same, ap is_due is ∙ rests)

  pub stopped : (r : Result (Unit {0}) NoMemory) → IsErr r → is_due old ≡ true → Resumes says r first new told told'
  stopped (Ok done) err due = cc
  stopped (Err error) err due = (executed_same, ap is_due is ∙ due)
