-- What a view took from the store was built for the view that it came to.
use Rattle.std.proofs.Common.{◌≡◌, ℕ, Bool, true, false, List, [], ◌∷◌, ◌++◌, map, length, Option, Some, None, bytes_eq, cond, find}
use Rattle.std.proofs.Common.{refl, sym, ap, subst, ◌∙◌, nat_le}
use Rattle.std.specs.Prelude.{if◌then◌else◌, not, ◌&&◌, IfSome, Result, Ok, Err, is_none, option_and_then, option_map, option_to_list}
use Rattle.std.specs.Prelude.{Contains, slice_get}
use Rattle.std.specs.List.{AllByRecursion, cons_option, filter_map}
use Rattle.std.specs.Option.{option_map_or, option_or}
use Rattle.std.proofs.lemmas.Slice.Eq.{bytes_eq-Decides}
use Rattle.rl_names.specs.declared.part.Message.{Message}
use Rattle.rl_names.specs.declared.row.Row.{Row}
use Rattle.rl_defs.specs.Catalogue.{Catalogue, IsCatalogue}
use Rattle.rl_build.specs.Context.{context_of}
use Rattle.rl_build.specs.declared.context.Context.{Context}
use Rattle.rl_pages.specs.declared.entry.Entry.{Entry}
use Rattle.rl_pages.specs.declared.viewer.Viewer.{Viewer}
use Rattle.rl_view_spec.specs.Closure.{Text, Registered, refusal_of, row_of}
use Rattle.rl_view_spec.specs.Rows.{is_private}
use Rattle.rl_view_spec.specs.View.{Throws, state_of}
use Rattle.rl_names.specs.Name.{key_text}
use Rattle.rl_wire.specs.Line.{part_text}
use Rattle.rl_wire.specs.Reading as wire
use Rattle.rl_wire.specs.declared.part.Part.{Part}
use Rattle.rl_wire.specs.declared.part.Part.TheVariants.{Impl, State}
use Rattle.rl_book_spec.specs.Laws.{IsOfKey}
use Rattle.rl_book_spec.specs.Book.{events_of}
use Rattle.rl_book_spec.specs.Closing.{age_at, fresh_of, fresh_pairs, has_key, is_kept_group, is_key_of, is_ready, key_bytes, pairs_after, stored_before}
use Rattle.rl_book_spec.specs.Closing.{stored_from, wire_of}
use Rattle.rl_book_spec.specs.Given.{given_at_touch, given_by, given_in, given_to, registered_after}
use Rattle.rl_book_spec.specs.Opening.{part_name, part_of, stored_of, view_of}
use Rattle.rl_book_spec.specs.declared.Call.{Call}
use Rattle.rl_book_spec.specs.declared.Call.TheVariants as calls
use Rattle.rl_book_spec.specs.declared.Mark.{Mark}
use Rattle.rl_book_spec.specs.declared.Origin.{Origin}
use Rattle.rl_book_spec.specs.declared.Origin.TheVariants as origin
use Rattle.rl_book_spec.specs.declared.Stored.{Stored}
use Rattle.rl_store.specs.Stock.{Stock, fitted, is_fresh, note_of}
use Rattle.rl_store.specs.declared.note.Note.{Note}
use Rattle.rl_store.specs.declared.note.Note.TheVariants as note
use Rattle.rl_steps.specs.declared.step.Step.{Step}
use Rattle.rl_steps.specs.declared.step.Step.TheVariants.{Edit, Choice, Clock, View, Using, Load, Take, Serve, Deliver, Lose, Close, Embed}
use Rattle.rl_build.specs.Payload.{payload_of}
use Rattle.rl_build.specs.Sheet.{sheet_of}
use Rattle.rl_build.specs.Sight.{sight}
use Rattle.rl_stage_spec.specs.Headline.{IsBuilt, IsServed, OpensWithTexts, StoredIsBuilt, views_of}
use Rattle.rl_stage_spec.specs.Shared.{IsContext}
use Rattle.rl_stage_spec.proofs.AnswersLemmas.{parts_come_by_answers}
use Rattle.rl_stage_spec.proofs.KeptLemmas.{IsSharedIfKept, IsSharedName, built_named, part_named, start_shared}
use Rattle.rl_stage_spec.proofs.SharedLemmas.{shared_is_for_all}
use Rattle.rl_stage_spec.proofs.VaryLemmas.{vary_tells}
use Rattle.rl_stage_spec.specs.Session.{Asking, Ended, Session, Viewed, Wired, asking_by, choice_by, closed, delivering, edit_by, ending, first_waiting}
use Rattle.rl_stage_spec.specs.Session.{is_current, losing, losing_by, may_lose, opened, serving, session_after, session_of, store_for, taking, using_by}
use Rattle.rl_stage_spec.specs.Session.{vary_of, viewer_by, wire_for, with_call, with_entry}
use Rattle.rl_stage_spec.proofs.BuiltLemmas.{IsTold, served_is_built, there_is, told_all, told_stays}
use Rattle.rl_stage_spec.proofs.OriginLemmas.{from_embedded, from_store, from_there, given_by_call}
use Rattle.rl_stage_spec.proofs.QueriesLemmas.{all_append, all_filter, all_sorted}
use Rattle.rl_stage_spec.proofs.ViewsLemmas.{among, catalogue_stays, each_view, one_more, same_closed, views_over}
use Rattle.rl_stage_spec.proofs.WiresLemmas.{get_more}

-- a pair of the store, for this vary text, was built when the answer was made that it came with
record PairOk (c : Catalogue) (wires : List Wired) (vary : Text) (pair : Stored) : Type 0 where
  wire : Wired
  mark : Mark
  kept : slice_get wires mark.answer ≡ Some wire
  number_is : pair.wire ≡ wire_of mark
  context : Context
  has : IsContext c context
  alike : vary_of c context ≡ vary
  built : IsBuilt c wire.entries wire.ask.viewer context pair.part
  everyone : (other : Viewer) (like : Context) → context.skin ≡ like.skin → IsBuilt c wire.entries other like pair.part
  of_key : IsOfKey pair

abbrev PairsOk : Catalogue → List Wired → Text → List Stored → Type 0
PairsOk c wires vary pairs = AllByRecursion (PairOk c wires vary) pairs

abbrev ViewOk : Catalogue → List Wired → Viewed → Type 0
ViewOk c wires v = v.opening.base.debug ≡ false → PairsOk c wires (vary_of c v.context) v.opening.stored

abbrev OpenOk : Catalogue → List Wired → Text → Viewed → Type 0
OpenOk c wires vary v = ViewOk c wires v × (v.opening.base.debug ≡ false → vary ≡ vary_of c v.context)

record StoreOk (c : Catalogue) (s : Session) : Type 0 where
  store : PairsOk c s.wires s.store.vary s.store.pairs
  ended : AllByRecursion (λ (e : Ended). ViewOk c s.wires e.view) s.ended
  current : IfSome s.current (OpenOk c s.wires s.store.vary)

-- ---- calls, entries and answers

module _ (c : Catalogue) where
  called : (wires : List Wired) (vary : Text) (call : Call) (o : Option Viewed) → IfSome o (OpenOk c wires vary)
      → IfSome (option_map (λ (v : Viewed). record v { past = call ∷ v.past }) o) (OpenOk c wires vary)
  called wires vary call None h = tt
  called wires vary call (Some v) h = h

  ok_call : (call : Call) (s : Session) → StoreOk c s → StoreOk c (with_call call s)
  ok_call call s h = record { store = h.store; ended = h.ended; current = called s.wires s.store.vary call s.current h.current }

  ok_if : (b : Bool) (call : Call) (s : Session) → StoreOk c s → StoreOk c (if b then with_call call s else s)
  ok_if true call s h = ok_call call s h
  ok_if false call s h = h

  ok_entry : {E : Type 0} (r : Result Entry E) (s : Session) → StoreOk c s → StoreOk c (with_entry r s)
  ok_entry (Ok entry) s h = record { store = h.store; ended = h.ended; current = h.current }
  ok_entry (Err refusal) s h = h

  ok_chosen : {X : Type 0} (f : X → Session) (s : Session) (o : Option X) → StoreOk c s → ((x : X) → StoreOk c (f x)) → StoreOk c (option_map_or f o s)
  ok_chosen f s None h k = h
  ok_chosen f s (Some x) h k = k x

  ok_asks : (s : Session) (asks : List Asking) → StoreOk c s → StoreOk c (record s { asks = asks })
  ok_asks s asks h = record { store = h.store; ended = h.ended; current = h.current }

  pairs_more : (wires : List Wired) (w : Wired) (vary : Text) (pairs : List Stored) → PairsOk c wires vary pairs → PairsOk c (wires ++ w ∷ []) vary pairs
  pairs_more wires w vary [] h = tt
  pairs_more wires w vary (pair ∷ pairs) h = (
    record {
      wire = h.0.wire;
      mark = h.0.mark;
      kept = get_more wires w h.0.mark.answer h.0.wire h.0.kept;
      number_is = h.0.number_is;
      context = h.0.context;
      has = h.0.has;
      alike = h.0.alike;
      built = h.0.built;
      everyone = h.0.everyone;
      of_key = h.0.of_key;
    },
    pairs_more wires w vary pairs h.1,
  )

  ended_more : (wires : List Wired) (w : Wired) (es : List Ended) → AllByRecursion (λ (e : Ended). ViewOk c wires e.view) es
      → AllByRecursion (λ (e : Ended). ViewOk c (wires ++ w ∷ []) e.view) es
  ended_more wires w [] h = tt
  ended_more wires w (e ∷ es) h =
      (λ d. pairs_more wires w (vary_of c e.view.context) e.view.opening.stored (h.0 d), ended_more wires w es h.1)

  current_more : (wires : List Wired) (w : Wired) (vary : Text) (o : Option Viewed) → IfSome o (OpenOk c wires vary)
      → IfSome o (OpenOk c (wires ++ w ∷ []) vary)
  current_more wires w vary None h = tt
  current_more wires w vary (Some v) h = (λ d. pairs_more wires w (vary_of c v.context) v.opening.stored (h.0 d), h.1)

  ok_serving : (s : Session) (ask : Asking) → StoreOk c s → StoreOk c (serving s ask)
  ok_serving s ask h = record {
    store = pairs_more s.wires (wire_for s ask) s.store.vary s.store.pairs h.store;
    ended = ended_more s.wires (wire_for s ask) s.ended h.ended;
    current = current_more s.wires (wire_for s ask) s.store.vary s.current h.current;
  }

  -- ---- the end of a view

  abbrev left_by : Bool → ℕ → Stock → List Stored → List Stored → Stock
  left_by b as_of store older after = if b then store else record { vary = store.vary; as_of = as_of; pairs = if b then older else after }

  ok_left : (wires : List Wired) (as_of : ℕ) (store : Stock) (older after : List Stored) (b : Bool) → PairsOk c wires store.vary store.pairs
      → (b ≡ false → PairsOk c wires store.vary after)
      → PairsOk c wires (left_by b as_of store older after).vary (left_by b as_of store older after).pairs
  ok_left wires as_of store older after true h k = h
  ok_left wires as_of store older after false h k = k refl

  ok_after : (wires : List Wired) (vary : Text) (r : Registered) (fresh older : List Stored) → PairsOk c wires vary fresh → PairsOk c wires vary older
      → PairsOk c wires vary (pairs_after r fresh older)
  ok_after wires vary r fresh older h k =
      all_sorted (PairOk c wires vary) stored_before _
      (all_append (PairOk c wires vary) fresh _ h
      (all_filter (PairOk c wires vary) (λ (stored : Stored). is_key_of r stored.key && not (has_key fresh stored.key)) older k))

  ok_ending : (throws : Throws) (s : Session) (v : Viewed) → s.current ≡ Some v → StoreOk c s
      → PairsOk c s.wires (vary_of c v.context) (fresh_pairs throws v.opening v.past) → StoreOk c (ending throws s v)
  ok_ending throws s v is h fresh =
      let open_now : OpenOk c s.wires s.store.vary v = subst (λ (o : Option Viewed). IfSome o (OpenOk c s.wires s.store.vary)) is h.current in
      record {
        store =
            ok_left s.wires (age_at s.clock) s.store v.opening.stored
            (pairs_after (registered_after v.opening v.past) (fresh_pairs throws v.opening v.past) v.opening.stored) v.opening.base.debug h.store
            (λ d. ok_after s.wires s.store.vary (registered_after v.opening v.past) (fresh_pairs throws v.opening v.past) v.opening.stored
            (subst (λ (t : Text). PairsOk c s.wires t (fresh_pairs throws v.opening v.past)) (sym (open_now.1 d)) fresh)
            (subst (λ (t : Text). PairsOk c s.wires t v.opening.stored) (sym (open_now.1 d)) (open_now.0 d)));
        ended = one_more (λ (e : Ended). ViewOk c s.wires e.view) s.ended _ h.ended open_now.0;
        current = tt;
      }

  ok_closing : (throws : Throws) (s : Session) (o : Option Viewed) → s.current ≡ o → StoreOk c s
      → ((v : Viewed) → s.current ≡ Some v → PairsOk c s.wires (vary_of c v.context) (fresh_pairs throws v.opening v.past))
      → StoreOk c (option_map_or (ending throws s) o s)
  ok_closing throws s None is h fresh = h
  ok_closing throws s (Some v) is h fresh = ok_ending throws s v is h (fresh v is)

  -- ---- a new view

  fitted_pairs : (wires : List Wired) (n : Note) (store : Stock) (vary : Text) → PairsOk c wires store.vary store.pairs
      → PairsOk c wires (fitted n store vary).vary (fitted n store vary).pairs
  fitted_pairs wires note.Fresh store vary h = h
  fitted_pairs wires note.NotStore store vary h = tt
  fitted_pairs wires note.OtherVary store vary h = tt
  fitted_pairs wires (note.Expired as_of) store vary h = tt

  fitted_vary : (store : Stock) (vary : Text) (b : Bool) → bytes_eq store.vary vary ≡ b → (fresh : Bool)
      → (fitted (if not b then note.OtherVary else (if fresh then note.Fresh else note.Expired store.as_of)) store vary).vary ≡ vary
  fitted_vary store vary true is true = (bytes_eq-Decides store.vary vary).0 is
  fitted_vary store vary true is false = refl
  fitted_vary store vary false is fresh = refl

  abbrev for_view : Bool → Stock → Text → ℕ → Stock
  for_view b store vary clock = if b then store else fitted (note_of store vary clock) store vary

  for_pairs : (wires : List Wired) (b : Bool) (store : Stock) (vary : Text) (clock : ℕ) → PairsOk c wires store.vary store.pairs
      → PairsOk c wires (for_view b store vary clock).vary (for_view b store vary clock).pairs
  for_pairs wires true store vary clock h = h
  for_pairs wires false store vary clock h = fitted_pairs wires (note_of store vary clock) store vary h

  for_vary : (b : Bool) (store : Stock) (vary : Text) (clock : ℕ) → b ≡ false → (for_view b store vary clock).vary ≡ vary
  for_vary true store vary clock is = absurd (cc)
  for_vary false store vary clock is = fitted_vary store vary (bytes_eq store.vary vary) refl (is_fresh store.as_of clock)

  ok_opened : (viewer : Viewer) (ctx : Context) (features : List Text) (s : Session) → s.catalogue ≡ c → StoreOk c s → StoreOk c (opened viewer ctx features s)
  ok_opened viewer ctx features s same h =
      let vary = vary_of s.catalogue ctx in
      let told : vary_of s.catalogue ctx ≡ vary_of c ctx = ap (λ (d : Catalogue). vary_of d ctx) same in
      let pairs = for_pairs s.wires ctx.debug s.store vary s.clock h.store in
      record {
        store = pairs;
        ended = h.ended;
        current = (
          λ d. subst (λ (t : Text). PairsOk c s.wires t (store_for s ctx).pairs) (for_vary ctx.debug s.store vary s.clock d ∙ told) pairs,
          λ d. for_vary ctx.debug s.store vary s.clock d ∙ told,
        );
      }

-- ---- what a view adds

all_mapped : {X Y : Type 0} (f : X → Option Y) (Q : X → Type 0) (P : Y → Type 0) → ((x : X) (y : Y) → Q x → f x ≡ Some y → P y) → (xs : List X)
    → AllByRecursion Q xs → AllByRecursion P (filter_map f xs)
all_mapped f Q P holds [] qs = tt
all_mapped {X} {Y} f Q P holds (x ∷ xs) qs = step (all_mapped f Q P holds xs qs.1) (f x) refl
  where
    step : AllByRecursion P (filter_map f xs) → (o : Option Y) → f x ≡ o → AllByRecursion P (cons_option o (filter_map f xs))
    step rest None is = rest
    step rest (Some y) is = (holds x y qs.0 is, rest)

last_view : (es : List Ended) (o : Option Viewed) (v : Viewed) → o ≡ Some v
    → slice_get (map (λ (e : Ended). e.view) es ++ option_to_list o) (length es) ≡ Some v
last_view [] o v is = subst (λ (o : Option Viewed). slice_get (option_to_list o) 0 ≡ Some v) (sym is) refl
last_view (e ∷ es) o v is = last_view es o v is

module _ (throws : Throws) (c : Catalogue) (past : List Step) (lawful : IsCatalogue c) (texts : AllByRecursion OpensWithTexts past) where
  abbrev now : Session
  now = session_of throws c past

  module _ (v : Viewed) (is : now.current ≡ Some v) where
    abbrev Fresh : Stored → Type 0
    Fresh = PairOk c now.wires (vary_of c v.context)

    at_end : slice_get (views_of now) (length now.ended) ≡ Some v
    at_end = last_view now.ended now.current v is

    there : Contains (views_of now) v
    there = there_is (views_of now) (length now.ended) v at_end

    has_context : IsContext c v.context
    has_context =
        let told = each_view (IsTold c) (told_stays c) throws c past (told_all throws c past texts) v there in
        (told.lang, told.skin, told.debug, told.context_is)

    -- what is built of a shared name for the view is built so for everyone
    for_everyone : (entries : List Entry) (name : Text) (part : Part) → IsSharedName c name → part_name part ≡ name
        → IsBuilt c entries v.viewer v.context part → (other : Viewer) (like : Context) → v.context.skin ≡ like.skin → IsBuilt c entries other like part
    for_everyone entries name part (sheet, found, kept) named (from, is_built) other like same =
        let from_is : name ≡ from = sym named ∙ built_named from (payload_of (sight c entries v.viewer) v.context from) part is_built in
        let of_from : sheet_of (sight c entries v.viewer) v.context from ≡ Some sheet =
        subst (λ (n : Text). sheet_of (sight c entries v.viewer) v.context n ≡ Some sheet) from_is found in
        (from, sym (shared_is_for_all c entries v.viewer other v.context like same from sheet of_from kept) ∙ is_built)

    fresh_served : (name : Text) → IsSharedName c name → (n version script styles : Text) (messages : List Message) (mark : Mark) → n ≡ name
        → IsServed now (length now.ended) v (Impl n version script styles messages) mark
        → Fresh (record { key = record { name = n; version = version }; part = Impl n version script styles messages; wire = wire_of mark })
    fresh_served name shared n version script styles messages mark named sv =
        let part = Impl n version script styles messages in
        let for_view : IsBuilt c sv.wire.entries v.viewer v.context part =
        subst (λ (d : Catalogue). IsBuilt d sv.wire.entries v.viewer v.context part) (catalogue_stays throws c past) sv.built in
        record {
          wire = sv.wire;
          mark = mark;
          kept = sv.kept;
          number_is = refl;
          context = v.context;
          has = has_context;
          alike = refl;
          of_key = (script, styles, messages, refl);
          built = subst (λ (u : Viewer). IsBuilt c sv.wire.entries u v.context part) (sym sv.viewer) for_view;
          everyone = for_everyone sv.wire.entries name part shared named for_view;
        }

    by_length : (b : Bool) (made pair : Stored) → (if b then Some made else None) ≡ Some pair → Fresh made → Fresh pair
    by_length true made pair e h = let same : made ≡ pair = cc in subst Fresh same h
    by_length false made pair e h = absurd (cc)

    from_given : (row : Row) (pair : Stored) → IsSharedName c row.name → (g : Option (Part × Origin)) → given_to v.opening v.past row.name ≡ g
        → option_and_then stored_from g ≡ Some pair → Fresh pair
    from_given row pair shared None given e = absurd (cc)
    from_given row pair shared (Some (State name kind, from)) given e = absurd (cc)
    from_given row pair shared (Some (Impl n version script styles messages, origin.Embedded)) given e = absurd (cc)
    from_given row pair shared (Some (Impl n version script styles messages, origin.Stored number)) given e = absurd (cc)
    from_given row pair shared (Some (Impl n version script styles messages, origin.Wire mark)) given e =
        let part = Impl n version script styles messages in
        let came = parts_come_by_answers throws c past (length now.ended) v at_end row.name part mark given in
        by_length (nat_le (length (part_text part)) 100000) _ pair e
        (fresh_served row.name shared n version script styles messages mark (part_named came.parts row.name part came.stands)
        (served_is_built throws c past lawful texts (length now.ended) v at_end row.name n version script styles messages mark given))

    fresh_one : (row : Row) (pair : Stored) → IsSharedIfKept c row → fresh_of throws v.opening v.past row ≡ Some pair → Fresh pair
    fresh_one row pair shared e = step (is_kept_group row.group) refl (is_ready (state_of (view_of throws v.opening) (events_of v.opening v.past) row.name)) e
      where
        step : (b : Bool) → is_kept_group row.group ≡ b → (r : Bool)
            → (if b && r then option_and_then stored_from (given_to v.opening v.past row.name) else None) ≡ Some pair → Fresh pair
        step true kept true e = from_given row pair (shared kept) (given_to v.opening v.past row.name) refl e
        step true kept false e = absurd (cc)
        step false kept r e = absurd (cc)

    fresh_ok : PairsOk c now.wires (vary_of c v.context) (fresh_pairs throws v.opening v.past)
    fresh_ok =
        all_mapped (fresh_of throws v.opening v.past) (IsSharedIfKept c) Fresh fresh_one v.opening.registered.rows
        (subst (AllByRecursion (IsSharedIfKept c)) (sym (views_over throws c past v there).rows) (start_shared c v.entries v.viewer v.context))

  ok_closed : StoreOk c now → StoreOk c (closed throws now)
  ok_closed h = ok_closing c throws now now.current refl h fresh_ok

  ok_step : (step : Step) → StoreOk c now → StoreOk c (session_after throws now step)
  ok_step (Edit by title base text) h = ok_entry c (edit_by now by title base text) now h
  ok_step (Choice user key value) h = ok_entry c (choice_by now user key value) now h
  ok_step (Clock moment) h = record { store = h.store; ended = h.ended; current = h.current }
  ok_step (View user lang skin debug features) h =
      ok_opened c (viewer_by user) (context_of now.catalogue lang skin debug) features (closed throws now)
      (same_closed throws now ∙ catalogue_stays throws c past) (ok_closed h)
  ok_step (Using names) h =
      ok_chosen c (using_by names now) now now.current h
      (λ (v : Viewed). ok_if c (is_none (refusal_of v.opening.registered names)) (calls.Using names) now h)
  ok_step (Load names) h = ok_call c (calls.Load names) now h
  ok_step Take h =
      ok_chosen c (taking now) now now.current h
      (λ (v : Viewed). ok_call c calls.Take _ (ok_asks c now (now.asks ++ option_to_list (option_map (asking_by now v) (first_waiting v))) h))
  ok_step (Serve ask) h = ok_chosen c (serving now) now (slice_get now.asks ask) h (λ (a : Asking). ok_serving c now a h)
  ok_step (Deliver wire) h =
      ok_chosen c (delivering wire now) now (slice_get now.wires wire) h (λ (w : Wired). ok_if c (is_current now w.ask) _ now h)
  ok_step (Lose ask) h =
      ok_chosen c (losing now) now (slice_get now.asks ask) h
      (λ (a : Asking). ok_chosen c (losing_by now a) now now.current h (λ (v : Viewed). ok_if c (is_current now a && may_lose v a) _ now h))
  ok_step Close h = ok_closed h
  ok_step (Embed text) h = h

ok_session : (throws : Throws) (c : Catalogue) (past : List Step) → IsCatalogue c → AllByRecursion OpensWithTexts past
    → StoreOk c (session_of throws c past)
ok_session throws c [] lawful texts = record { store = tt; ended = tt; current = tt }
ok_session throws c (step ∷ past) lawful texts = ok_step throws c past lawful texts.1 step (ok_session throws c past lawful texts.1)

-- ---- what a view took

all_found : {X : Type 0} (P : X → Type 0) (f : X → Bool) (xs : List X) (x : X) → AllByRecursion P xs → find f xs ≡ Some x → P x
all_found P f [] x h is = absurd (cc)
all_found {X} P f (y ∷ ys) x h is = step (all_found P f ys x h.1) (f y) is
  where
    step : (find f ys ≡ Some x → P x) → (b : Bool) → cond b (Some y) (find f ys) ≡ Some x → P x
    step rest true e = let same : y ≡ x = cc in subst P same h.0
    step rest false e = rest e

-- where a part was given from
found_passes : {X : Type 0} (f : X → Bool) (xs : List X) (x : X) → find f xs ≡ Some x → f x ≡ true
found_passes f [] x is = absurd (cc)
found_passes {X} f (y ∷ ys) x is = step (found_passes f ys x) (f y) refl is
  where
    step : (find f ys ≡ Some x → f x ≡ true) → (b : Bool) → f y ≡ b → cond b (Some y) (find f ys) ≡ Some x → f x ≡ true
    step rest true passes e = let same : y ≡ x = cc in subst (λ (z : X). f z ≡ true) same passes
    step rest false passes e = rest e

abbrev stored_number : Option (Part × Origin) → Option (Option ℕ)
stored_number None = None
stored_number (Some (part, origin.Stored number)) = Some number
stored_number (Some (part, origin.Embedded)) = None
stored_number (Some (part, origin.Wire mark)) = None

abbrev given_part : Option (Part × Origin) → Option Part
given_part given = option_map (λ (g : Part × Origin). g.0) given

module _ (c : Catalogue) (wires : List Wired) (v : Viewed) (ok : ViewOk c wires v) (name : Text) (part : Part) (number : Option ℕ) where
  record Taken : Type 0 where
    pair : Stored
    pair_ok : PairOk c wires (vary_of c v.context) pair
    part_is : pair.part ≡ part
    number_is : pair.wire ≡ number
    row : Row
    named : row_of v.opening.registered name ≡ Some row
    row_key : option_map (key_text row.name) row.version ≡ Some (key_bytes pair.key)

  module _ (row : Row) (named : row_of v.opening.registered name ≡ Some row) where
    taken_pair : (pair : Stored) → PairOk c wires (vary_of c v.context) pair → option_map (key_text row.name) row.version ≡ Some (key_bytes pair.key)
        → Some (from_store pair) ≡ Some (part, origin.Stored number) → Taken
    taken_pair pair h key e =
        let parts : Some pair.part ≡ Some part = ap given_part e in
        let numbers : Some pair.wire ≡ Some number = ap stored_number e in
        record { pair = pair; pair_ok = h; part_is = cc; number_is = cc; row = row; named = named; row_key = key }

    abbrev has_key_of : Text → Stored → Bool
    has_key_of version stored = bytes_eq (key_text stored.key.name stored.key.version) (key_text row.name version)

    from_pairs : (b : Bool) → v.opening.base.debug ≡ b → (version : Option Text) → row.version ≡ version → (o : Option Stored)
        → (if b then None else option_and_then (λ (t : Text). find (has_key_of t) v.opening.stored) version) ≡ o
        → option_map from_store o ≡ Some (part, origin.Stored number) → Taken
    from_pairs b d version versioned None is e = absurd (cc)
    from_pairs true d version versioned (Some pair) is e = absurd (cc)
    from_pairs false d None versioned (Some pair) is e = absurd (cc)
    from_pairs false d (Some version) versioned (Some pair) is e =
        let same : key_bytes pair.key ≡ key_text row.name version =
        (bytes_eq-Decides (key_text pair.key.name pair.key.version) (key_text row.name version)).0
        (found_passes (has_key_of version) v.opening.stored pair is) in
        taken_pair pair (all_found (PairOk c wires (vary_of c v.context)) (has_key_of version) v.opening.stored pair (ok d) is)
        (ap (option_map (key_text row.name)) versioned ∙ ap Some (sym same)) e

    at_touch : (found : Option Part) (b : Bool)
        → option_or (option_map from_embedded found) (if b then None else option_map from_store (stored_of v.opening row))
        ≡ Some (part, origin.Stored number)
        → Taken
    at_touch (Some p) b e = absurd (let no_number : None ≡ Some number = ap stored_number e in cc)
    at_touch None true e = absurd (cc)
    at_touch None false e = from_pairs v.opening.base.debug refl row.version refl (stored_of v.opening row) refl e

  touched : (found : Option Row) → row_of v.opening.registered name ≡ found
      → option_and_then (given_at_touch v.opening) found ≡ Some (part, origin.Stored number) → Taken
  touched None is e = absurd (cc)
  touched (Some row) is e = at_touch row is (part_of v.opening.embedded row.name) (is_private row.group) e

  not_delivered : (read : Result (List Part) ℕ) (mark : Mark) → given_in name read (origin.Wire mark) ≡ Some (part, origin.Stored number) → ⊥
  not_delivered (Err line) mark e = cc
  not_delivered (Ok parts) mark e = step (part_of parts name) e
    where
      step : (found : Option Part) → option_map (from_there (origin.Wire mark)) found ≡ Some (part, origin.Stored number) → ⊥
      step None e = cc
      step (Some p) e = let no_number : None ≡ Some number = ap stored_number e in cc

  by_call : (call : Call) → given_by v.opening call name ≡ Some (part, origin.Stored number) → Taken
  by_call (calls.Using names) e = touched (row_of v.opening.registered name) refl e
  by_call (calls.Load names) e = touched (row_of v.opening.registered name) refl e
  by_call calls.Take e = absurd (cc)
  by_call (calls.Deliver ask bytes mark) e = absurd (not_delivered (wire.answer_of bytes) mark e)
  by_call (calls.Lose ask mark) e = absurd (cc)

current_ok : (c : Catalogue) (wires : List Wired) (vary : Text) (o : Option Viewed) → IfSome o (OpenOk c wires vary) → IfSome o (ViewOk c wires)
current_ok c wires vary None h = tt
current_ok c wires vary (Some v) h = h.0

pub stored_is_built : StoredIsBuilt
stored_is_built throws c past lawful skins texts v there name part number given =
    let s = session_of throws c past in
    let h = ok_session throws c past lawful texts in
    let ok : ViewOk c s.wires v = among (ViewOk c s.wires) s.ended s.current v h.ended (current_ok c s.wires s.store.vary s.current h.current) there in
    let by = given_by_call v.opening name v.past (part, origin.Stored number) given in
    let taken = by_call c s.wires v ok name part number by.0 by.2 in
    let same : c ≡ s.catalogue = sym (catalogue_stays throws c past) in
    let told = each_view (IsTold c) (told_stays c) throws c past (told_all throws c past texts) v there in
    let tells = vary_tells c skins taken.pair_ok.context v.context taken.pair_ok.has (told.lang, told.skin, told.debug, told.context_is)
    taken.pair_ok.alike in
    record {
      wire = taken.pair_ok.wire;
      mark = taken.pair_ok.mark;
      kept = taken.pair_ok.kept;
      number_is = sym taken.number_is ∙ taken.pair_ok.number_is;
      context = taken.pair_ok.context;
      stored = taken.pair;
      part_is = taken.part_is;
      of_key = taken.pair_ok.of_key;
      row = taken.row;
      named = taken.named;
      row_key = taken.row_key;
      alike = subst (λ (d : Catalogue). vary_of d taken.pair_ok.context ≡ vary_of d v.context) same taken.pair_ok.alike;
      made =
          subst (λ (d : Catalogue). IsBuilt d taken.pair_ok.wire.entries taken.pair_ok.wire.ask.viewer taken.pair_ok.context part) same
          (subst (λ (p : Part). IsBuilt c taken.pair_ok.wire.entries taken.pair_ok.wire.ask.viewer taken.pair_ok.context p) taken.part_is
          taken.pair_ok.built);
      built =
          subst (λ (d : Catalogue). IsBuilt d taken.pair_ok.wire.entries v.viewer v.context part) same
          (subst (λ (p : Part). IsBuilt c taken.pair_ok.wire.entries v.viewer v.context p) taken.part_is
          (taken.pair_ok.everyone v.viewer v.context tells.0));
    }
