-- Where views end does not depend on the order in which answers come.
use Rattle.std.proofs.Common.{◌≡◌, ℕ, List, [], ◌∷◌, Bool, true, false, ◌&&◌, Option, Some, None, map, refl, ap, ap₂, sym, subst, ◌∙◌, ⊎_elim, nat_eq}
use Rattle.std.specs.Prelude.{Contains, bytes_eq, is_some}
use Rattle.std.specs.List.{list_any}
use Rattle.std.proofs.lemmas.Bool.{and_parts}
use Rattle.std.proofs.lemmas.List.Elements.{Contains-append_cases, Contains-append_left}
use Rattle.rl_names.specs.declared.name.Key.{Key}
use Rattle.rl_view_spec.specs.Closure.{Text, Registered}
use Rattle.rl_view_spec.specs.Keys.{never}
use Rattle.rl_view_spec.specs.Laws.{AreLawful}
use Rattle.rl_view_spec.specs.Order.{HaveSameOutcomes}
use Rattle.rl_view_spec.specs.Progress.{name_at}
use Rattle.rl_view_spec.specs.View.{View, Event, Answer, Implementation, Missing, Failed, GivenUp, first_of, is_implementation, is_touched}
use Rattle.rl_view_spec.specs.View.{log_of, or_else, state_of, throws_at, throws_for}
use Rattle.rl_view_spec.proofs.AfterLemmas.{logged_belongs}
use Rattle.rl_view_spec.proofs.AnsweredLemmas.{answered_is_decided}
use Rattle.rl_view_spec.proofs.ChainsLemmas as chains
use Rattle.rl_view_spec.proofs.ObservedLemmas.{first_same, only_runs_throw}
use Rattle.rl_view_spec.proofs.OrderLemmas.{same_row, same_state}
use Rattle.rl_view_spec.proofs.PlacesLemmas.{bytes_eq-from}
use Rattle.rl_view_spec.proofs.StatesLemmas.{iff_same}
use Rattle.rl_view_spec.proofs.ToolsLemmas.{any_one, contains_cases, contains_head, contains_map, contains_none, contains_tail, one_any}
use Rattle.rl_view.specs.Heard.{throws_by, watched}
use Rattle.rl_wire.specs.declared.part.Part.{Part}
use Rattle.rl_wire.specs.declared.part.Part.TheVariants.{Impl}
use Rattle.rl_book_spec.specs.Book.{event_of}
use Rattle.rl_book_spec.specs.Given.{outcome_of}
use Rattle.rl_book_spec.specs.Kept.{Booked, IsBook, events_in, rows_run, threw_in, view_in}
use Rattle.rl_book_spec.specs.Opening.{answer_of}
use Rattle.rl_book_spec.specs.declared.Origin.{Origin}
use Rattle.rl_book_spec.proofs.AskedForLemmas.{settled_answered}
use Rattle.rl_book_spec.proofs.GivenLemmas.{given_outcome}
use Rattle.rl_book_spec.proofs.LawfulLemmas.{books_lawful}
use Rattle.rl_book_spec.proofs.StageLemmas.{stage_ends, stage_front}
use Rattle.rl_book.specs.Calls.{IsRun, due_row, runs_by, watched_in}
use Rattle.rl_book.specs.Order.{ExecutionsThrowAs, HaveSame, IsAtRest, NotesThrowAs, OrderIsFree, RunAlike, SettledIsDecided, ThrewAs}
use Rattle.rl_book.specs.declared.answer.Run.{Run}

map_contains : {X Y : Type 0} (f : X → Y) (xs : List X) (y : Y) → Contains (map f xs) y → (x : X) × Contains xs x × (f x ≡ y)
map_contains f [] y c = absurd (contains_none y c)
map_contains f (x ∷ xs) y c =
    ⊎_elim (λ here. (x, contains_head x xs, here))
    (λ later. let m = map_contains f xs y later in (m.0, contains_tail x xs m.0 m.1, m.2))
    (contains_cases (f x) (map f xs) y c)

none_due : (o : Option ℕ) → is_some o ≡ false → o ≡ None
none_due None e = refl
none_due (Some row) e = cc

-- ---- what executed was answered with an implementation

module _ (b : Booked) (book : IsBook b) where
  abbrev v : View
  v = view_in b

  abbrev past : List Event
  past = events_in b

  abbrev name_of : ℕ → Text
  name_of row = name_at b.opening.registered row

  pub ran_answered : (row : ℕ) → Contains (rows_run b) row → is_implementation (first_of v past (name_of row)) ≡ true
  ran_answered row c =
      let front = stage_front v past (rows_run b) book.stage in
      (logged_belongs v past row (books_lawful (threw_in b.opening.registered b.ran) b.opening b.past)
      (subst (λ (log : List ℕ). Contains log row) (sym front.1) (Contains-append_left (rows_run b) front.0 row c))).answered

  -- what an execution tells is what its row was answered with
  pub run_outcome : (ran : ℕ × Bool) (run : Run) → Contains b.ran ran → IsRun b ran run
      → outcome_of b.opening b.past run.key.name ≡ Some (Implementation run.key.version run.script)
  run_outcome ran run c i = step (outcome_of b.opening b.past run.key.name) refl
      (ap (λ (name : Text). is_implementation (outcome_of b.opening b.past name)) i.name
      ∙ ap is_implementation (sym (first_same v never past (name_of ran.0)))
      ∙ ran_answered ran.0 (contains_map (λ (run : ℕ × Bool). run.0) b.ran ran c))
    where
      told : Part × Origin
      told = (Impl run.key.name run.key.version run.script i.part.0 i.part.1, run.origin)

      step : (o : Option Answer) → outcome_of b.opening b.past run.key.name ≡ o → is_implementation o ≡ true
          → outcome_of b.opening b.past run.key.name ≡ Some (Implementation run.key.version run.script)
      step None e h = cc
      step (Some Missing) e h = cc
      step (Some Failed) e h = cc
      step (Some GivenUp) e h = cc
      step (Some (Implementation version script)) e h =
          let g = given_outcome b.opening b.past run.key.name version script book.distinct e in
          let both : Some g.0 ≡ Some told = sym g.1 ∙ i.part.2 in
          let is : g.0 ≡ told = cc in
          e ∙ ap Some (sym g.2 ∙ ap (λ (p : Part × Origin). answer_of p.0) is)

-- ---- who says what threw

pub executions_throw : ExecutionsThrowAs
executions_throw says old new told told' h before =
    subst (λ (b : Booked). ThrewAs says b) (sym h.1.ran) (λ row threw c.
    ⊎_elim (λ first. before row threw first)
    (λ later.
    let m = map_contains (λ (row : ℕ). (row, throws_at (watched_in says old) (events_in old) (name_at old.opening.registered row))) h.0 (row, threw) later in
    sym (ap (λ (run : ℕ × Bool). run.1) m.2)
    ∙ ap (λ (run : ℕ × Bool). throws_at (watched_in says old) (events_in old) (name_at old.opening.registered run.0)) m.2)
    (Contains-append_cases old.ran (runs_by says old h.0) (row, threw) c))

pub notes_throw : NotesThrowAs
notes_throw says call b book before = λ row threw c. before row threw c ∙ stays row (contains_map (λ (run : ℕ × Bool). run.0) b.ran (row, threw) c)
  where
    stays : (row : ℕ) → Contains (rows_run b) row → throws_at (watched_in says b) (events_in b) (name_at b.opening.registered row)
        ≡ throws_at (watched_in says b) (event_of b.opening b.past call ∷ events_in b) (name_at b.opening.registered row)
    stays row c =
        let name : Text = name_at b.opening.registered row in
        let first : Option Answer = first_of (watched_in says b) (events_in b) name in
        step first (first_of (watched_in says b) (event_of b.opening b.past call ∷ events_in b) name) _ refl
        (ap is_implementation (sym (first_same (view_in b) (throws_by says) (events_in b) name)) ∙ ran_answered b book row c)
      where
        step : (first later next : Option Answer) → later ≡ or_else first next → is_implementation first ≡ true
            → throws_for (throws_by says) (name_at b.opening.registered row) first ≡ throws_for (throws_by says) (name_at b.opening.registered row) later
        step None later next e h = cc
        step (Some answer) later next e h = ap (throws_for (throws_by says) (name_at b.opening.registered row)) (sym e)

-- ---- a view at rest is one under who says so

module _ (says : Key → Text → Bool) (b : Booked) (a : IsAtRest says b) where
  abbrev r : Registered
  r = b.opening.registered

  abbrev w : View
  w = watched says r

  log_is : rows_run b ≡ log_of (view_in b) (events_in b)
  log_is = stage_ends (view_in b) (events_in b) (rows_run b) a.book.stage (none_due (due_row b) a.rests)

  threw_there : (row : ℕ) → Contains (rows_run b) row
      → list_any (λ (run : ℕ × Bool). run.1 && bytes_eq (name_at r run.0) (name_at r row)) b.ran ≡ throws_at w (events_in b) (name_at r row)
  threw_there row c =
      let m = map_contains (λ (run : ℕ × Bool). run.0) b.ran row c in
      let name : Text = name_at r row in
      iff_same (list_any (λ (run : ℕ × Bool). run.1 && bytes_eq (name_at r run.0) name) b.ran) (throws_at w (events_in b) name)
      (λ e.
      let n = any_one (λ (run : ℕ × Bool). run.1 && bytes_eq (name_at r run.0) name) b.ran e in
      let parts = and_parts n.0.1 (bytes_eq (name_at r n.0.0) name) n.2 in
      sym (a.threw n.0.0 n.0.1 n.1 ∙ ap (throws_at w (events_in b)) (chains.same (name_at r n.0.0) name parts.1)) ∙ parts.0)
      (λ t.
      one_any (λ (run : ℕ × Bool). run.1 && bytes_eq (name_at r run.0) name) b.ran m.0 m.1
      (ap₂ (λ (x y : Bool). x && y) (a.threw m.0.0 m.0.1 m.1 ∙ ap (λ (row : ℕ). throws_at w (events_in b) (name_at r row)) m.2 ∙ t)
      (bytes_eq-from (name_at r m.0.0) name (ap (name_at r) m.2))))

  agree : (row : ℕ) → Contains (log_of (view_in b) (events_in b)) row
      → throws_at (view_in b) (events_in b) (name_at r row) ≡ throws_at w (events_in b) (name_at r row)
  agree row c = step (first_of (view_in b) (events_in b) (name_at r row)) (ran_answered b a.book row here)
    where
      here : Contains (rows_run b) row
      here = subst (λ (log : List ℕ). Contains log row) (sym log_is) c

      step : (o : Option Answer) → is_implementation o ≡ true
          → throws_for (threw_in r b.ran) (name_at r row) o ≡ throws_at w (events_in b) (name_at r row)
      step None h = cc
      step (Some (Implementation version script)) h = threw_there row here
      step (Some Missing) h = cc
      step (Some Failed) h = cc
      step (Some GivenUp) h = cc

  both : (log_of (view_in b) (events_in b) ≡ log_of w (events_in b))
      × ((name : Text) → state_of (view_in b) (events_in b) name ≡ state_of w (events_in b) name)
  both = only_runs_throw (view_in b) (events_in b) (throws_by says) a.book.distinct
      (books_lawful (threw_in r b.ran) b.opening b.past) agree

  pub rows_watched : rows_run b ≡ log_of w (events_in b)
  rows_watched = log_is ∙ both.0

  pub state_watched : (name : Text) → state_of (view_in b) (events_in b) name ≡ state_of w (events_in b) name
  state_watched name = both.1 name

-- ---- two views end alike

module _ (says : Key → Text → Bool) (one other : Booked) (a : IsAtRest says one) (b : IsAtRest says other) (h : HaveSame one other) where
  abbrev seen : View
  seen = watched says one.opening.registered

  lawful : AreLawful seen (events_in other)
  lawful = subst (λ (r : Registered). AreLawful (watched says r) (events_in other)) (sym h.registered)
      (books_lawful (throws_by says) other.opening other.past)

  same_outcomes : HaveSameOutcomes seen (events_in one) (events_in other)
  same_outcomes = record {
    touched = λ name. h.touched name ∙ ap (λ (r : Registered). is_touched (watched says r) (events_in other) name) (sym h.registered);
    outcomes = λ name.
        first_same seen never (events_in one) name
        ∙ h.outcomes name
        ∙ sym (first_same (watched says other.opening.registered) never (events_in other) name)
        ∙ ap (λ (r : Registered). first_of (watched says r) (events_in other) name) (sym h.registered);
  }

  states_same : (name : Text) → state_of (view_in one) (events_in one) name ≡ state_of (view_in other) (events_in other) name
  states_same name =
      state_watched says one a name
      ∙ same_state seen (events_in one) (events_in other) same_outcomes name
      ∙ ap (λ (r : Registered). state_of (watched says r) (events_in other) name) h.registered
      ∙ sym (state_watched says other b name)

  rows_same : (row : ℕ) → list_any (nat_eq row) (rows_run one) ≡ list_any (nat_eq row) (rows_run other)
  rows_same row =
      ap (list_any (nat_eq row)) (rows_watched says one a)
      ∙ same_row seen (events_in one) (events_in other) a.book.distinct (books_lawful (throws_by says) one.opening one.past) lawful same_outcomes row
      ∙ ap (λ (r : Registered). list_any (nat_eq row) (log_of (watched says r) (events_in other))) h.registered
      ∙ ap (list_any (nat_eq row)) (sym (rows_watched says other b))

  texts_same : (ran ran' : ℕ × Bool) (run run' : Run) → Contains one.ran ran → Contains other.ran ran' → ran.0 ≡ ran'.0 → IsRun one ran run
      → IsRun other ran' run' → RunAlike run run'
  texts_same ran ran' run run' c c' e i i' =
      let name : run.key.name ≡ run'.key.name = i.name ∙ ap₂ (λ (r : Registered) (row : ℕ). name_at r row) h.registered e ∙ sym i'.name in
      let text : Some (Implementation run.key.version run.script) ≡ Some (Implementation run'.key.version run'.script) =
      sym (run_outcome one a.book ran run c i) ∙ ap (outcome_of one.opening one.past) name ∙ h.outcomes run'.key.name
      ∙ run_outcome other b.book ran' run' c' i' in
      let version : run.key.version ≡ run'.key.version = cc in
      record {
        key = ap₂ (λ (name version : Text). record { name = name; version = version }) name version;
        script = cc;
        threw =
            i.threw
            ∙ a.threw ran.0 ran.1 c
            ∙ ap (throws_for (throws_by says) (name_at one.opening.registered ran.0)) (same_outcomes.outcomes (name_at one.opening.registered ran.0))
            ∙ ap₂ (λ (r : Registered) (row : ℕ). throws_at (watched says r) (events_in other) (name_at r row)) h.registered e
            ∙ sym (b.threw ran'.0 ran'.1 c')
            ∙ sym i'.threw;
      }

pub settled_decided : SettledIsDecided
settled_decided b book whole settled name touched =
    let throws = threw_in b.opening.registered b.ran in
    answered_is_decided (view_in b) (events_in b) (books_lawful throws b.opening b.past)
    (settled_answered throws b.opening b.past book.distinct whole settled) name touched

pub order_free : OrderIsFree
order_free says one other a b h = record {
  states = states_same says one other a b h;
  rows = rows_same says one other a b h;
  texts = texts_same says one other a b h;
}
