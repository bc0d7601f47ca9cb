-- What is promised over the parts of a wiki is promised over the wiki.
use Rattle.std.proofs.Common.{◌≡◌, ℕ, Bool, true, false, cond, List, [], ◌∷◌, Option}
use Rattle.std.proofs.Common.{Some, None, Result, Ok, Err, IfOk, refl, sym, subst, ap, ◌∙◌}
use Rattle.std.specs.Prelude.{filter, length, nat_lt}
use Rattle.std.specs.Option.{option_map_or}
use Rattle.rl_names.specs.Meant.{Gives}
use Rattle.rl_names.specs.Query.{query_of}
use Rattle.rl_names.specs.declared.query.Query.{Query}
use Rattle.rl_defs.specs.Catalogue.{Catalogue}
use Rattle.rl_pages.specs.declared.entry.Entry.{Entry}
use Rattle.rl_pages.specs.declared.entry.Entry.TheVariants.{Edit, Choice}
use Rattle.rl_pages.specs.declared.viewer.Viewer.{Viewer}
use Rattle.rl_pages.specs.declared.viewer.Viewer.TheVariants.{Anon}
use Rattle.rl_pages.specs.Seen.{seen, sees}
use Rattle.rl_pages.specs.Viewer.{is_user, owner_of}
use Rattle.rl_wire.specs.StartupReading.{startup_of}
use Rattle.rl_build.specs.Sight.{Sight, sight}
use Rattle.rl_loadphp.specs.declared.answers.Answer.{Answer}
use Rattle.rl_loadphp.specs.declared.answers.AnswerError.{AnswerError}
use Rattle.rl_loadphp.specs.declared.answers.Kind.TheVariants.{Script}
use Rattle.rl_loadphp.specs.Answer.{answer_to, asked, sent}
use Rattle.rl_loadphp.specs.Refusal.{Refusal, refusal_told}
use Rattle.rl_loadphp.specs.Sent.{IsMadeOfPieces}
use Rattle.rl_loadphp.specs.Served.{names_viewer, query_context}
use Rattle.rl_startup.specs.Registry.{start_of, startup_text_of}
use Rattle.rl_wiki.specs.Front.{answered_by, asks_startup, reader_of, wiki_answer}

-- ---- what nobody sees, every viewer sees

kept : (e : Entry) (rest : List Entry) (shows nobody : Bool) → sees Anon e ≡ nobody → (nobody ≡ true → shows ≡ true)
    → filter (sees Anon) (cond shows (e ∷ rest) rest) ≡ cond nobody (e ∷ filter (sees Anon) rest) (filter (sees Anon) rest)
kept e rest true nobody is h = ap (λ b. cond b (e ∷ filter (sees Anon) rest) (filter (sees Anon) rest)) is
kept e rest false true is h = let bad : false ≡ true = h refl in absurd (cc)
kept e rest false false is h = refl

shown_to_all : (viewer : Viewer) (owner : Option (List ℕ)) → option_map_or (is_user Anon) owner true ≡ true
    → option_map_or (is_user viewer) owner true ≡ true
shown_to_all viewer None h = refl
shown_to_all viewer (Some name) h = absurd (cc)

sees_more : (viewer : Viewer) (e : Entry) → sees Anon e ≡ true → sees viewer e ≡ true
sees_more viewer (Edit by title text) h = shown_to_all viewer (owner_of title) h
sees_more viewer (Choice user key value) h = absurd (cc)

-- what nobody sees of what a viewer sees is all that nobody sees
nobody_sees : (viewer : Viewer) (es : List Entry) → seen Anon (seen viewer es) ≡ seen Anon es
nobody_sees viewer [] = refl
nobody_sees viewer (e ∷ es) =
    kept e (seen viewer es) (sees viewer e) (sees Anon e) refl (sees_more viewer e)
    ∙ ap (λ rest. cond (sees Anon e) (e ∷ rest) rest) (nobody_sees viewer es)

-- ---- isolation

abbrev shown_as : Catalogue → Viewer → List Entry → Sight
shown_as c viewer es = record { catalogue = c; history = record { viewer = viewer; entries = es } }

module _ (c : Catalogue) (entries others : List Entry) (viewer : Viewer) (same : seen viewer entries ≡ seen viewer others) where
  nobody_alike : seen Anon entries ≡ seen Anon others
  nobody_alike = sym (nobody_sees viewer entries) ∙ ap (seen Anon) same ∙ nobody_sees viewer others

  alike : sight c entries viewer ≡ sight c others viewer
  alike = ap (shown_as c viewer) same

  reader_alike : (own : Bool) → sight c entries (cond own viewer Anon) ≡ sight c others (cond own viewer Anon)
  reader_alike true = alike
  reader_alike false = ap (shown_as c Anon) nobody_alike

  query_alike : (r : Result Query Refusal) → answered_by c entries viewer r ≡ answered_by c others viewer r
  query_alike (Ok q) =
      ap (λ (s : Sight). cond (asks_startup q)
      (Ok record { body = startup_text_of s (query_context c q); kind = Script; max_age = 300; private = nat_lt 0 (length q.user) })
      (sent (answer_to (sight c entries viewer) q))) (reader_alike (names_viewer viewer q.user))
      ∙ ap (λ (s : Sight). cond (asks_startup q)
      (Ok record {
        body = startup_text_of (sight c others (reader_of viewer q)) (query_context c q);
        kind = Script;
        max_age = 300;
        private = nat_lt 0 (length q.user);
      })
      (sent (answer_to s q))) alike
  query_alike (Err refusal) = refl

  pub wiki_answers_are_seen : (query : List ℕ) → wiki_answer c entries viewer query ≡ wiki_answer c others viewer query
  wiki_answers_are_seen query = query_alike (asked query)

-- ---- over the wiki

module _ (c d : Catalogue) (entries these : List Entry) (viewer : Viewer) (query : List ℕ) (r : Result Answer AnswerError)
    (same_catalogue : c ≡ d) (same_entries : entries ≡ these) where
  pub gives : Gives refusal_told r (wiki_answer c entries viewer query) → Gives refusal_told r (wiki_answer d these viewer query)
  gives h =
      let P : Catalogue → Type 0 = λ x. Gives refusal_told r (wiki_answer x entries viewer query) in
      let Q : List Entry → Type 0 = λ es. Gives refusal_told r (wiki_answer d es viewer query) in
      subst Q same_entries (subst P same_catalogue h)

  pub pieces : IfOk r (λ (a : Answer). asks_startup (query_of query) ≡ false → IsMadeOfPieces (sight c entries viewer) (query_of query) a.body)
      → IfOk r (λ (a : Answer). asks_startup (query_of query) ≡ false → IsMadeOfPieces (sight d these viewer) (query_of query) a.body)
  pieces h =
      let P : Catalogue → Type 0 = λ x. IfOk r (λ (a : Answer). asks_startup (query_of query) ≡ false
      → IsMadeOfPieces (sight x entries viewer) (query_of query) a.body) in
      let Q : List Entry → Type 0 = λ es. IfOk r (λ (a : Answer). asks_startup (query_of query) ≡ false
      → IsMadeOfPieces (sight d es viewer) (query_of query) a.body) in
      subst Q same_entries (subst P same_catalogue h)

  pub again : IfOk r (λ (a : Answer). asks_startup (query_of query) ≡ true
      → startup_of a.body ≡ Ok (start_of (sight c entries (reader_of viewer (query_of query))) (query_context c (query_of query))))
      → IfOk r (λ (a : Answer). asks_startup (query_of query) ≡ true
      → startup_of a.body ≡ Ok (start_of (sight d these (reader_of viewer (query_of query))) (query_context d (query_of query))))
  again h =
      let P : Catalogue → Type 0 = λ x. IfOk r (λ (a : Answer). asks_startup (query_of query) ≡ true
      → startup_of a.body ≡ Ok (start_of (sight x entries (reader_of viewer (query_of query))) (query_context x (query_of query)))) in
      let Q : List Entry → Type 0 = λ es. IfOk r (λ (a : Answer). asks_startup (query_of query) ≡ true
      → startup_of a.body ≡ Ok (start_of (sight d es (reader_of viewer (query_of query))) (query_context d (query_of query)))) in
      subst Q same_entries (subst P same_catalogue h)

  -- what the viewer does not see changes nothing
  pub unseen : Gives refusal_told r (wiki_answer c entries viewer query) → (others : List Entry) → seen viewer these ≡ seen viewer others
      → Gives refusal_told r (wiki_answer d others viewer query)
  unseen h others same =
      let R : Result Answer Refusal → Type 0 = λ meant. Gives refusal_told r meant in
      subst R (wiki_answers_are_seen d these others viewer same query) (gives h)
