-- What came by answers was built for the view.
use Rattle.std.proofs.Common.{◌≡◌, ℕ, zero, suc, arith, Bool, true, false, List, [], ◌∷◌, map}
use Rattle.std.proofs.Common.{Option, Some, None, refl, sym, ap, subst, ◌∙◌, IsTrue, IsUtf8, codes, bytes_eq}
use Rattle.std.specs.Prelude.{Contains, if◌then◌else◌, not, option_map, slice_get, ◌||◌}
use Rattle.std.specs.List.{AllByRecursion, cons_option, filter_map, fold, list_any}
use Rattle.std.specs.Ordering.{match_ordering, nat_cmp}
use Rattle.std.specs.declared.cmp.Ordering.{Ordering}
use Rattle.std.specs.declared.cmp.Ordering.TheVariants.{Less, Equal, Greater}
use Rattle.std.specs.Cmp.Lexicographic.{slice_cmp}
use Rattle.std.proofs.lemmas.Bool.{and_parts}
use Rattle.std.proofs.lemmas.Str.{IsUtf8-nil}
use Rattle.json.proofs.Printed.Utf8.{IsUtf8-are_ascii}
use Rattle.rl_names.specs.Name.{is_name}
use Rattle.rl_names.specs.Query.{query_of}
use Rattle.rl_names.specs.declared.query.Query.{Query}
use Rattle.rl_names.specs.declared.row.Row.{Row}
use Rattle.rl_names.proofs.AsciiLemmas.{name_ascii}
use Rattle.rl_defs.specs.Catalogue.{Catalogue, IsCatalogue, IsModule}
use Rattle.rl_defs.specs.Words.{is_built_in, is_gadget}
use Rattle.rl_defs.specs.declared.file.File.{File}
use Rattle.rl_defs.specs.declared.module_def.ModuleDef.{ModuleDef}
use Rattle.rl_build.specs.BuiltIn.{built_in_name, built_ins}
use Rattle.rl_build.specs.Context.{context_of, language_of, skin_of}
use Rattle.rl_build.specs.Sheet.{all_names, put_name, sheet_of}
use Rattle.rl_build.specs.Sight.{Sight, sight}
use Rattle.rl_build.specs.declared.built_in.BuiltIn.{BuiltIn}
use Rattle.rl_build.specs.declared.built_in.BuiltIn.TheVariants as built_in
use Rattle.rl_build.specs.declared.context.Context.{Context}
use Rattle.rl_build.specs.declared.sheets.Sheet.{Sheet}
use Rattle.rl_compact.specs.Compact.{compacted}
use Rattle.rl_loadphp.specs.Served.{query_context}
use Rattle.rl_pages.specs.Refusals.{name_of}
use Rattle.rl_pages.specs.declared.entry.Entry.{Entry}
use Rattle.rl_pages.specs.declared.viewer.Viewer.{Viewer}
use Rattle.rl_startup.specs.Registry.{all_rows, module_of, modules_of, start_of, version_in}
use Rattle.rl_startup.specs.Rows.{names_of, rows_of}
use Rattle.rl_startup.proofs.RowsLemmas.{rows_are_lawful}
use Rattle.rl_view_spec.specs.Closure.{Text}
use Rattle.rl_view_spec.specs.View.{Throws}
use Rattle.rl_wire.specs.Reading.{answer_of}
use Rattle.rl_wire.specs.declared.part.Part.TheVariants.{Impl}
use Rattle.rl_book_spec.specs.declared.Call.{Call}
use Rattle.rl_book_spec.specs.declared.Sent.{Sent}
use Rattle.rl_steps.specs.declared.step.Step.{Step}
use Rattle.rl_steps.specs.declared.step.Step.TheVariants.{Edit, Choice, Clock, View, Using, Load, Take, Serve, Deliver, Lose, Close, Embed}
use Rattle.rl_stage_spec.specs.Headline.{OpensWithTexts, ServedIsBuilt, views_of}
use Rattle.rl_stage_spec.specs.Session.{Session, Viewed, base_of, closed, session_of, view_over, viewer_by}
use Rattle.rl_stage_spec.proofs.AnswersLemmas.{parts_come_by_answers}
use Rattle.rl_stage_spec.proofs.OriginLemmas.{Made}
use Rattle.rl_stage_spec.proofs.QueriesLemmas.{HaveLowNames, IsQuery, SameBase, queries_of, query_tells}
use Rattle.rl_stage_spec.proofs.ServedLemmas.{served_made}
use Rattle.rl_stage_spec.proofs.TextsLemmas.{AreLow, IsLow, low_name}
use Rattle.rl_stage_spec.proofs.ViewsLemmas.{AllOpen, Opens, catalogue_stays, each_view, same_names, views_over}
use Rattle.rl_stage_spec.proofs.WiresLemmas.{all_at}

-- ---- the names of rows are ASCII

low_by : (o : Ordering) (n x : Text) (xs : List Text) → IsLow n → AreLow (x ∷ xs) → AreLow (put_name xs n)
    → AreLow (match_ordering o (n ∷ x ∷ xs) (x ∷ xs) (x ∷ put_name xs n))
low_by Less n x xs p h rest = (p, h)
low_by Equal n x xs p h rest = h
low_by Greater n x xs p h rest = (h.0, rest)

low_put : (xs : List Text) (n : Text) → IsLow n → AreLow xs → AreLow (put_name xs n)
low_put [] n p h = (p, tt)
low_put (x ∷ xs) n p h = low_by (slice_cmp nat_cmp n x) n x xs p h (low_put xs n p h.1)

low_built_in : (b : BuiltIn) → IsLow (built_in_name b)
low_built_in built_in.Site = refl
low_built_in built_in.SiteStyles = refl
low_built_in built_in.User = refl
low_built_in built_in.UserOptions = refl
low_built_in built_in.UserStyles = refl

low_all : (names : List Text) (bs : List BuiltIn) → AreLow names
    → AreLow (fold (λ (names : List Text) (b : BuiltIn). put_name names (built_in_name b)) names bs)
low_all names [] h = h
low_all names (b ∷ bs) h = low_all (put_name names (built_in_name b)) bs (low_put names (built_in_name b) (low_built_in b) h)

low_defined : (files : List File) (ms : List ModuleDef) → AllByRecursion (IsModule files) ms → AreLow (map (λ (m : ModuleDef). m.name) ms)
low_defined files [] h = tt
low_defined files (m ∷ ms) h =
    let named : IsTrue (is_name m.name) =
    (and_parts (is_name m.name) (not (bytes_eq m.name (codes "startup") || is_built_in m.name || is_gadget m.name)) h.0.name).0 in
    (low_name m.name (name_ascii m.name named), low_defined files ms h.1)

module _ (s : Sight) (ctx : Context) where
  low_one : (name : Text) (names : List Text) (o : Option Sheet) → IsLow name → AreLow (names_of (filter_map (module_of s ctx) names))
      → AreLow (names_of (cons_option (option_map (λ (sheet : Sheet). record { name = name; sheet = sheet; version = version_in s ctx name sheet.group }) o)
      (filter_map (module_of s ctx) names)))
  low_one name names None p h = h
  low_one name names (Some sheet) p h = (p, h)

  low_modules : (names : List Text) → AreLow names → AreLow (names_of (filter_map (module_of s ctx) names))
  low_modules [] h = tt
  low_modules (name ∷ names) h = low_one name names (sheet_of s ctx name) h.0 (low_modules names h.1)

low_rows : (rows : List Row) → AreLow (map (λ (row : Row). row.name) rows) → HaveLowNames rows
low_rows [] h = tt
low_rows (row ∷ rows) h = (h.0, low_rows rows h.1)

low_start : (c : Catalogue) → IsCatalogue c → (entries : List Entry) (viewer : Viewer) (ctx : Context)
    → HaveLowNames (start_of (sight c entries viewer) ctx).rows
unfolding start_of all_rows
low_start c lawful entries viewer ctx =
    let seen = sight c entries viewer in
    let rows : List Row = rows_of (modules_of seen ctx) in
    low_rows (compacted rows)
    (subst AreLow (sym (same_names rows rows ∙ rows_are_lawful.names (modules_of seen ctx)))
    (low_modules seen ctx (all_names seen) (low_all (map (λ (m : ModuleDef). m.name) c.modules) built_ins (low_defined c.files c.modules lawful.each))))

-- ---- a context that is told again is the same

module _ (known : Text → Bool) (other : Text) where
  abbrev pick : Text → Text
  pick word = if known word then word else other

  pick_other : (b : Bool) → (if b then other else other) ≡ other
  pick_other true = refl
  pick_other false = refl

  pick_step : (word : Text) (b : Bool) → known word ≡ b → pick (if b then word else other) ≡ (if b then word else other)
  pick_step word true e = ap (λ (b : Bool). if b then word else other) e
  pick_step word false e = pick_other (known other)

  pub pick_again : (word : Text) → pick (pick word) ≡ pick word
  pick_again word = pick_step word (known word) refl

  pick_utf8 : (word : Text) (b : Bool) → IsUtf8 word → IsUtf8 other → IsUtf8 (if b then word else other)
  pick_utf8 word true h k = h
  pick_utf8 word false h k = k

context_again : (c : Catalogue) (lang skin : Text) (debug : Bool)
    → context_of c (context_of c lang skin debug).lang (context_of c lang skin debug).skin debug ≡ context_of c lang skin debug
context_again c lang skin debug =
    ap (λ (l : Text). record { lang = l; skin = skin_of c (skin_of c skin); debug = debug })
    (pick_again (λ word. list_any (λ l. bytes_eq l.code word) c.languages) (codes "qqx") lang)
    ∙ ap (λ (k : Text). record { lang = language_of c lang; skin = k; debug = debug })
    (pick_again (λ word. list_any (λ s. bytes_eq s word) c.skins) (codes "fallback") skin)

-- ---- the context and the viewer of each view are texts

pub record IsTold (c : Catalogue) (v : Viewed) : Type 0 where
  pub lang : Text
  pub skin : Text
  pub debug : Bool
  pub context_is : v.context ≡ context_of c lang skin debug
  pub lang_text : IsUtf8 v.context.lang
  pub skin_text : IsUtf8 v.context.skin
  pub user_text : IsUtf8 (name_of v.viewer)

pub told_stays : (c : Catalogue) (v : Viewed) (past : List Call) → IsTold c v → IsTold c (record v { past = past })
told_stays c v past h = record {
  lang = h.lang;
  skin = h.skin;
  debug = h.debug;
  context_is = h.context_is;
  lang_text = h.lang_text;
  skin_text = h.skin_text;
  user_text = h.user_text;
}

viewer_text : (user : Text) → IsUtf8 user → IsUtf8 (name_of (viewer_by user))
viewer_text [] h = IsUtf8-nil
viewer_text (b ∷ bs) h = h

told_opened : (throws : Throws) (c : Catalogue) (s : Session) (user lang skin : Text) (debug : Bool) (features : List Text) → s.catalogue ≡ c
    → IsUtf8 user → IsUtf8 lang → IsUtf8 skin
    → IsTold c (view_over (closed throws s) (viewer_by user) (context_of s.catalogue lang skin debug) features)
told_opened throws c s user lang skin debug features same u l k = record {
  lang = lang;
  skin = skin;
  debug = debug;
  context_is = ap (λ (d : Catalogue). context_of d lang skin debug) same;
  lang_text =
      pick_utf8 (λ word. list_any (λ l. bytes_eq l.code word) s.catalogue.languages) (codes "qqx") lang
      (list_any (λ l. bytes_eq l.code lang) s.catalogue.languages) l (IsUtf8-are_ascii (codes "qqx") refl);
  skin_text =
      pick_utf8 (λ word. list_any (λ t. bytes_eq t word) s.catalogue.skins) (codes "fallback") skin
      (list_any (λ t. bytes_eq t skin) s.catalogue.skins) k (IsUtf8-are_ascii (codes "fallback") refl);
  user_text = viewer_text user u;
}

told_step : (throws : Throws) (c : Catalogue) (s : Session) (step : Step) → s.catalogue ≡ c → OpensWithTexts step
    → Opens (IsTold c) (told_stays c) throws s step
told_step throws c s (View user lang skin debug features) same h = told_opened throws c s user lang skin debug features same h.0 h.1 h.2
told_step throws c s (Edit by title base text) same h = tt
told_step throws c s (Choice user key value) same h = tt
told_step throws c s (Clock now) same h = tt
told_step throws c s (Using names) same h = tt
told_step throws c s (Load names) same h = tt
told_step throws c s Take same h = tt
told_step throws c s (Serve ask) same h = tt
told_step throws c s (Deliver wire) same h = tt
told_step throws c s (Lose ask) same h = tt
told_step throws c s Close same h = tt
told_step throws c s (Embed text) same h = tt

pub told_all : (throws : Throws) (c : Catalogue) (past : List Step) → AllByRecursion OpensWithTexts past → AllOpen (IsTold c) (told_stays c) throws c past
told_all throws c [] h = tt
told_all throws c (step ∷ past) h =
    (told_step throws c (session_of throws c past) step (catalogue_stays throws c past) h.0, told_all throws c past h.1)

-- ---- what came by answers

pub there_is : {X : Type 0} (xs : List X) (number : ℕ) (x : X) → slice_get xs number ≡ Some x → Contains xs x
there_is [] number x is = absurd (cc)
there_is (y ∷ ys) zero x is = let same : y ≡ x = cc in (0, omega arith, same)
there_is (y ∷ ys) (suc number) x is = let later = there_is ys number x is in (suc later.0, omega (arith, later.1), later.2)

pub served_is_built : ServedIsBuilt
served_is_built throws c past lawful texts number v at name found version script styles messages mark given =
    let s = session_of throws c past in
    let part = Impl found version script styles messages in
    let there = there_is (views_of s) number v at in
    let over = views_over throws c past v there in
    let told = each_view (IsTold c) (told_stays c) throws c past (told_all throws c past texts) v there in
    let same : s.catalogue ≡ c = catalogue_stays throws c past in
    let came = parts_come_by_answers throws c past number v at name part mark given in
    let low : HaveLowNames v.opening.registered.rows = subst HaveLowNames (sym over.rows) (low_start c lawful v.entries v.viewer v.context) in
    let asks : IsQuery v.opening.base came.sent.batch.query =
    all_at (λ (sent : Sent). IsQuery v.opening.base sent.batch.query) _ came.batch came.sent (queries_of v.opening low came.asked) came.waited in
    let lang : IsUtf8 v.opening.base.lang = subst (λ (q : Query). IsUtf8 q.lang) (sym over.base) told.lang_text in
    let skin : IsUtf8 v.opening.base.skin = subst (λ (q : Query). IsUtf8 q.skin) (sym over.base) told.skin_text in
    let user : IsUtf8 v.opening.base.user = subst (λ (q : Query). IsUtf8 q.user) (sym over.base) told.user_text in
    let says : SameBase v.opening.base (query_of came.wire.ask.query) =
    subst (λ (t : Text). SameBase v.opening.base (query_of t)) (sym came.query) (query_tells v.opening.base came.sent.batch.query lang skin user asks) in
    let based : SameBase (base_of v.viewer v.context) (query_of came.wire.ask.query) =
    subst (λ (q : Query). SameBase q (query_of came.wire.ask.query)) over.base says in
    let in_context : query_context s.catalogue (query_of came.wire.ask.query) ≡ v.context = context_told c s.catalogue same v told
    (query_of came.wire.ask.query) based in
    let made = served_made s.catalogue came.wire.entries v.viewer came.wire.ask.query based.only came.parts (ap answer_of (sym came.text) ∙ came.read) name
    part came.stands refl in
    record {
      wire = came.wire;
      kept = came.kept;
      own = came.own;
      viewer = came.viewer;
      built = subst (λ (ctx : Context). Made (sight s.catalogue came.wire.entries v.viewer) ctx part) in_context made;
    }
  where
    context_told : (c d : Catalogue) → d ≡ c → (v : Viewed) → IsTold c v → (q : Query) → SameBase (base_of v.viewer v.context) q
        → query_context d q ≡ v.context
    context_told c d same v told q based =
        ap (λ (e : Catalogue). query_context e q) same
        ∙ ap (λ (l : Text). context_of c l q.skin q.debug) based.lang ∙ ap (λ (k : Text). context_of c v.context.lang k q.debug) based.skin
        ∙ ap (λ (b : Bool). context_of c v.context.lang v.context.skin b) based.debug
        ∙ ap (λ (ctx : Context). context_of c ctx.lang ctx.skin ctx.debug) told.context_is
        ∙ context_again c told.lang told.skin told.debug ∙ sym told.context_is
