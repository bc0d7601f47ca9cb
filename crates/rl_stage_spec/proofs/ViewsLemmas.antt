-- What the views of a session are opened over, and what holds of them.
use Rattle.std.proofs.Common.{◌≡◌, zero, suc, Bool, true, false, List, [], ◌∷◌, ◌++◌, map, Option, Some, None, refl, sym, ap, subst, ◌∙◌, arith}
use Rattle.std.specs.Prelude.{IsTrue, ⊤, if◌then◌else◌, Contains, IfSome, Result, Ok, Err, is_none, option_map, option_to_list, slice_get, ◌&&◌}
use Rattle.std.specs.List.{AllByRecursion}
use Rattle.std.specs.Option.{option_map_or}
use Rattle.rl_names.specs.declared.row.Row.{Row}
use Rattle.rl_defs.specs.Ascending.{IsAscending}
use Rattle.rl_defs.specs.Catalogue.{Catalogue, IsCatalogue}
use Rattle.rl_build.specs.BuiltIn.{built_ins}
use Rattle.rl_build.specs.Context.{context_of}
use Rattle.rl_build.specs.Sheet.{AreAllNames, all_names}
use Rattle.rl_build.specs.Sight.{Sight, sight}
use Rattle.rl_build.specs.declared.context.Context.{Context}
use Rattle.rl_build.proofs.AllNamesLemmas.{ascending_all, have_sheets}
use Rattle.rl_compact.specs.Compact.{compact_row, compacted}
use Rattle.rl_pages.specs.declared.entry.Entry.{Entry}
use Rattle.rl_pages.specs.declared.viewer.Viewer.{Viewer}
use Rattle.rl_rows.proofs.RowsReadLemmas.{distinct_from_once}
use Rattle.rl_startup.specs.Registry.{all_rows, modules_of, start_of}
use Rattle.rl_startup.specs.Rows.{rows_of}
use Rattle.rl_startup.proofs.FineLemmas.{once_of}
use Rattle.rl_startup.proofs.RegistryLemmas.{names_ascend}
use Rattle.rl_startup.proofs.RowsLemmas.{rows_are_lawful}
use Rattle.rl_view_spec.specs.Closure.{Text, refusal_of}
use Rattle.rl_view_spec.specs.Progress.{HasDistinctNames, name_at}
use Rattle.rl_view_spec.specs.Keys.{never}
use Rattle.rl_view_spec.specs.View.{Throws, Answer, Implementation, Missing, Failed, GivenUp, first_of, is_implementation}
use Rattle.rl_view_spec.proofs.AfterLemmas.{logged_belongs}
use Rattle.rl_view_spec.proofs.ObservedLemmas.{first_same}
use Rattle.rl_book_spec.proofs.GivenLemmas.{given_outcome}
use Rattle.rl_view_spec.proofs.StatesLemmas.{headline}
use Rattle.rl_book_spec.proofs.LawfulLemmas.{books_lawful}
use Rattle.rl_book_spec.specs.declared.Call.{Call}
use Rattle.rl_book_spec.specs.declared.Call.TheVariants as calls
use Rattle.rl_steps.specs.declared.step.Step.{Step}
use Rattle.rl_steps.specs.declared.step.Step.TheVariants.{Edit, Choice, Clock, View, Using, Load, Take, Serve, Deliver, Lose, Close, Embed}
use Rattle.rl_stage_spec.specs.Headline.{IsOver, RunsAreGiven, SessionsHold, ViewsAreOver, views_of}
use Rattle.rl_stage_spec.specs.Replies.{events_in, view_in}
use Rattle.rl_stage_spec.specs.Session.{Asking, Ended, Session, Viewed, Wired, asking_by, choice_by, closed, delivering, edit_by, ending, first_waiting}
use Rattle.rl_stage_spec.specs.Session.{is_current, losing, losing_by, may_lose, serving, session_after, session_of, taking, using_by}
use Rattle.rl_stage_spec.specs.Session.{view_over, viewer_by, with_call, with_entry}

-- ---- the rows that a client starts from have distinct names

module _ (c : Catalogue) (lawful : IsCatalogue c) (entries : List Entry) (viewer : Viewer) (ctx : Context) where
  abbrev seen : Sight
  seen = sight c entries viewer

  are_all : AreAllNames seen ctx (all_names seen)
  are_all = record {
    ascending = ascending_all (map (λ m. m.name) c.modules) built_ins lawful.modules.ascend;
    all = λ name. have_sheets built_ins c.modules name;
  }

  rows_ascend : IsAscending (map (λ (row : Row). row.name) (rows_of (modules_of seen ctx)))
  rows_ascend = subst IsAscending (sym (rows_are_lawful.names (modules_of seen ctx)))
      (names_ascend seen ctx (all_names seen) (modules_of seen ctx) are_all refl)

pub same_names : (all rows : List Row) → map (λ (row : Row). row.name) (map (compact_row all) rows) ≡ map (λ (row : Row). row.name) rows
same_names all [] = refl
same_names all (row ∷ rows) = ap (λ names. row.name ∷ names) (same_names all rows)

pub start_distinct : (c : Catalogue) → IsCatalogue c → (entries : List Entry) (viewer : Viewer) (ctx : Context) (features : List Text)
    → HasDistinctNames (record { rows = (start_of (sight c entries viewer) ctx).rows; features = features })
unfolding start_of all_rows
start_distinct c lawful entries viewer ctx features =
    let rows : List Row = rows_of (modules_of (sight c entries viewer) ctx) in
    distinct_from_once (compacted rows) (once_of (compacted rows)
    (subst IsAscending (sym (same_names rows rows)) (rows_ascend c lawful entries viewer ctx)))

-- ---- the definitions stay as they are

same_if : (b : Bool) (call : Call) (s : Session) → (if b then with_call call s else s).catalogue ≡ s.catalogue
same_if true call s = refl
same_if false call s = refl

same_chosen : {X : Type 0} (f : X → Session) (s : Session) (o : Option X) → ((x : X) → (f x).catalogue ≡ s.catalogue)
    → (option_map_or f o s).catalogue ≡ s.catalogue
same_chosen f s None k = refl
same_chosen f s (Some x) k = k x

same_entry : {E : Type 0} (r : Result Entry E) (s : Session) → (with_entry r s).catalogue ≡ s.catalogue
same_entry (Ok entry) s = refl
same_entry (Err refusal) s = refl

pub same_closed : (throws : Throws) (s : Session) → (closed throws s).catalogue ≡ s.catalogue
same_closed throws s = same_chosen (ending throws s) s s.current (λ (v : Viewed). refl)

pub same_after : (throws : Throws) (s : Session) (step : Step) → (session_after throws s step).catalogue ≡ s.catalogue
same_after throws s (Edit by title base text) = same_entry (edit_by s by title base text) s
same_after throws s (Choice user key value) = same_entry (choice_by s user key value) s
same_after throws s (Clock now) = refl
same_after throws s (View user lang skin debug features) = same_closed throws s
same_after throws s (Using names) =
    same_chosen (using_by names s) s s.current (λ (v : Viewed). same_if (is_none (refusal_of v.opening.registered names)) (calls.Using names) s)
same_after throws s (Load names) = refl
same_after throws s Take = same_chosen (taking s) s s.current (λ (v : Viewed). refl)
same_after throws s (Serve ask) = same_chosen (serving s) s (slice_get s.asks ask) (λ (a : Asking). refl)
same_after throws s (Deliver wire) = same_chosen (delivering wire s) s (slice_get s.wires wire) (λ (w : Wired). same_if (is_current s w.ask) _ s)
same_after throws s (Lose ask) =
    same_chosen (losing s) s (slice_get s.asks ask)
    (λ (a : Asking). same_chosen (losing_by s a) s s.current (λ (v : Viewed). same_if (is_current s a && may_lose v a) _ s))
same_after throws s Close = same_closed throws s
same_after throws s (Embed text) = refl

pub catalogue_stays : (throws : Throws) (c : Catalogue) (past : List Step) → (session_of throws c past).catalogue ≡ c
catalogue_stays throws c [] = refl
catalogue_stays throws c (step ∷ past) = same_after throws (session_of throws c past) step ∙ catalogue_stays throws c past

-- ---- of each view

-- what holds of all views holds of each
pub among : (P : Viewed → Type 0) (ended : List Ended) (current : Option Viewed) (v : Viewed)
    → AllByRecursion (λ (e : Ended). P e.view) ended → IfSome current P
    → Contains (map (λ (e : Ended). e.view) ended ++ option_to_list current) v → P v
among P [] None v h k (at, within, is) = absurd (omega arith)
among P [] (Some w) v h k (zero, within, is) = subst P is k
among P [] (Some w) v h k (suc at, within, is) = absurd (omega arith)
among P (e ∷ es) current v h k (zero, within, is) = subst P is h.0
among P (e ∷ es) current v h k (suc at, within, is) = among P es current v h.1 k (at, omega arith, is)

-- ---- what holds of each view when it is opened, and is kept by calls, holds of all views

pub one_more : {X : Type 0} (P : X → Type 0) (xs : List X) (x : X) → AllByRecursion P xs → P x → AllByRecursion P (xs ++ x ∷ [])
one_more P [] x h p = (p, tt)
one_more P (y ∷ ys) x h p = (h.0, one_more P ys x h.1 p)

module _ (P : Viewed → Type 0) (stays : (v : Viewed) (past : List Call) → P v → P (record v { past = past })) where
  record Each (s : Session) : Type 0 where
    ended : AllByRecursion (λ (e : Ended). P e.view) s.ended
    current : IfSome s.current P

  called : (call : Call) (o : Option Viewed) → IfSome o P → IfSome (option_map (λ (v : Viewed). record v { past = call ∷ v.past }) o) P
  called call None h = tt
  called call (Some v) h = stays v (call ∷ v.past) h

  each_call : (call : Call) (s : Session) → Each s → Each (with_call call s)
  each_call call s h = record { ended = h.ended; current = called call s.current h.current }

  each_if : (b : Bool) (call : Call) (s : Session) → Each s → Each (if b then with_call call s else s)
  each_if true call s h = each_call call s h
  each_if false call s h = h

  each_entry : {E : Type 0} (r : Result Entry E) (s : Session) → Each s → Each (with_entry r s)
  each_entry (Ok entry) s h = record { ended = h.ended; current = h.current }
  each_entry (Err refusal) s h = h

  each_ending : (throws : Throws) (s : Session) (o : Option Viewed) → Each s → IfSome o P → Each (option_map_or (ending throws s) o s)
  each_ending throws s None h k = h
  each_ending throws s (Some v) h k = record { ended = one_more (λ (e : Ended). P e.view) s.ended _ h.ended k; current = tt }

  each_closed : (throws : Throws) (s : Session) → Each s → Each (closed throws s)
  each_closed throws s h = each_ending throws s s.current h h.current

  each_chosen : {X : Type 0} (f : X → Session) (s : Session) (o : Option X) → Each s → ((x : X) → Each (f x)) → Each (option_map_or f o s)
  each_chosen f s None h k = h
  each_chosen f s (Some x) h k = k x

  each_asks : (s : Session) (asks : List Asking) → Each s → Each (record s { asks = asks })
  each_asks s asks h = record { ended = h.ended; current = h.current }

  -- a view that a step opens has it
  abbrev pub Opens : Throws → Session → Step → Type 0
  Opens throws s (View user lang skin debug features) =
      P (view_over (closed throws s) (viewer_by user) (context_of s.catalogue lang skin debug) features)
  Opens throws s other = ⊤

  each_after : (throws : Throws) (s : Session) (step : Step) → Opens throws s step → Each s → Each (session_after throws s step)
  each_after throws s (Edit by title base text) k h = each_entry (edit_by s by title base text) s h
  each_after throws s (Choice user key value) k h = each_entry (choice_by s user key value) s h
  each_after throws s (Clock now) k h = record { ended = h.ended; current = h.current }
  each_after throws s (View user lang skin debug features) k h =
      let before = each_closed throws s h in record { ended = before.ended; current = k }
  each_after throws s (Using names) k h =
      each_chosen (using_by names s) s s.current h (λ (v : Viewed). each_if (is_none (refusal_of v.opening.registered names)) (calls.Using names) s h)
  each_after throws s (Load names) k h = each_call (calls.Load names) s h
  each_after throws s Take k h =
      each_chosen (taking s) s s.current h
      (λ (v : Viewed). each_call calls.Take _ (each_asks s (s.asks ++ option_to_list (option_map (asking_by s v) (first_waiting v))) h))
  each_after throws s (Serve ask) k h =
      each_chosen (serving s) s (slice_get s.asks ask) h (λ (a : Asking). record { ended = h.ended; current = h.current })
  each_after throws s (Deliver wire) k h =
      each_chosen (delivering wire s) s (slice_get s.wires wire) h (λ (w : Wired). each_if (is_current s w.ask) _ s h)
  each_after throws s (Lose ask) k h =
      each_chosen (losing s) s (slice_get s.asks ask) h
      (λ (a : Asking). each_chosen (losing_by s a) s s.current h (λ (v : Viewed). each_if (is_current s a && may_lose v a) _ s h))
  each_after throws s Close k h = each_closed throws s h
  each_after throws s (Embed text) k h = h

  -- each step of these opens such a view
  abbrev pub AllOpen : Throws → Catalogue → List Step → Type 0
  AllOpen throws c [] = ⊤
  AllOpen throws c (step ∷ past) = Opens throws (session_of throws c past) step × AllOpen throws c past

  each_session : (throws : Throws) (c : Catalogue) (past : List Step) → AllOpen throws c past → Each (session_of throws c past)
  each_session throws c [] k = record { ended = tt; current = tt }
  each_session throws c (step ∷ past) k = each_after throws (session_of throws c past) step k.0 (each_session throws c past k.1)

  pub each_view : (throws : Throws) (c : Catalogue) (past : List Step) → AllOpen throws c past → (v : Viewed)
      → Contains (views_of (session_of throws c past)) v → P v
  each_view throws c past k v there =
      let h = each_session throws c past k in among P (session_of throws c past).ended (session_of throws c past).current v h.ended h.current there

-- ---- each view is opened over what the wiki has then

over_stays : (c : Catalogue) (v : Viewed) (past : List Call) → IsOver c v → IsOver c (record v { past = past })
over_stays c v past h = record { rows = h.rows; embedded = h.embedded; base = h.base }

over_opened : (throws : Throws) (c : Catalogue) (s : Session) (viewer : Viewer) (ctx : Context) (features : List Text) → s.catalogue ≡ c
    → IsOver c (view_over (closed throws s) viewer ctx features)
over_opened throws c s viewer ctx features same =
    subst (λ (d : Catalogue). IsOver d (view_over (closed throws s) viewer ctx features)) (same_closed throws s ∙ same)
    (record { rows = refl; embedded = refl; base = refl })

over_step : (throws : Throws) (c : Catalogue) (s : Session) (step : Step) → s.catalogue ≡ c → Opens (IsOver c) (over_stays c) throws s step
over_step throws c s (View user lang skin debug features) same =
    over_opened throws c s (viewer_by user) (context_of s.catalogue lang skin debug) features same
over_step throws c s (Edit by title base text) same = tt
over_step throws c s (Choice user key value) same = tt
over_step throws c s (Clock now) same = tt
over_step throws c s (Using names) same = tt
over_step throws c s (Load names) same = tt
over_step throws c s Take same = tt
over_step throws c s (Serve ask) same = tt
over_step throws c s (Deliver wire) same = tt
over_step throws c s (Lose ask) same = tt
over_step throws c s Close same = tt
over_step throws c s (Embed text) same = tt

over_all : (throws : Throws) (c : Catalogue) (past : List Step) → AllOpen (IsOver c) (over_stays c) throws c past
over_all throws c [] = tt
over_all throws c (step ∷ past) = (over_step throws c (session_of throws c past) step (catalogue_stays throws c past), over_all throws c past)

pub views_over : ViewsAreOver
views_over throws c past v there = each_view (IsOver c) (over_stays c) throws c past (over_all throws c past) v there

pub sessions_hold : SessionsHold
sessions_hold throws c past lawful v there =
    let over = views_over throws c past v there in
    let distinct : HasDistinctNames v.opening.registered =
    subst (λ (rows : List Row). HasDistinctNames (record { rows = rows; features = v.opening.registered.features })) (sym over.rows)
    (start_distinct c lawful v.entries v.viewer v.context v.opening.registered.features) in
    let held = headline (view_in throws v) (events_in v) distinct (books_lawful throws v.opening v.past) in
    record { runs = held.0; ready = held.1 }

-- ---- what executed was given

implementation_there : (found : Option Answer) → IsTrue (is_implementation found) → (version script : Text) × (found ≡ Some (Implementation version script))
implementation_there None h = absurd (cc)
implementation_there (Some (Implementation version script)) h = (version, script, refl)
implementation_there (Some Missing) h = absurd (cc)
implementation_there (Some Failed) h = absurd (cc)
implementation_there (Some GivenUp) h = absurd (cc)

pub runs_are_given : RunsAreGiven
runs_are_given throws c past lawful v there row ran =
    let over = views_over throws c past v there in
    let distinct : HasDistinctNames v.opening.registered =
    subst (λ (rows : List Row). HasDistinctNames (record { rows = rows; features = v.opening.registered.features })) (sym over.rows)
    (start_distinct c lawful v.entries v.viewer v.context v.opening.registered.features) in
    let name = name_at v.opening.registered row in
    let belongs = logged_belongs (view_in throws v) (events_in v) row (books_lawful throws v.opening v.past) ran in
    let answer = implementation_there (first_of (view_in throws v) (events_in v) name) belongs.answered in
    let given = given_outcome v.opening v.past name answer.0 answer.1 distinct (sym (first_same (view_in throws v) never (events_in v) name) ∙ answer.2) in
    (given.0, answer.0, answer.1, given.1, given.2)
