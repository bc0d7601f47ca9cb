-- What the wiki's answers are made of.
use Rattle.std.proofs.Common.{◌≡◌, ℕ, ◌+◌, ◌-◌, ◌≤◌, Bool, true, false, List, [], ◌∷◌, ◌++◌, ◌⊎◌, inl, inr, map, length, Option, Some, None}
use Rattle.std.proofs.Common.{refl, sym, ap, subst, ◌∙◌, arith, length-append, replicate}
use Rattle.std.specs.Prelude.{if◌then◌else◌, ◌&&◌, codes, Ok, Err, option_map}
use Rattle.std.specs.List.{AllByRecursion}
use Rattle.std.specs.Option.{option_or}
use Rattle.std.proofs.lemmas.List.{length-replicate, length-take-le}
use Rattle.rl_names.specs.Hash.{base_36, padded, version_of_hash}
use Rattle.rl_names.specs.Query.{query_of}
use Rattle.rl_names.specs.declared.query.Only.{Only}
use Rattle.rl_names.specs.declared.query.Only.TheVariants as only
use Rattle.rl_names.specs.declared.query.Query.{Query}
use Rattle.rl_defs.specs.Catalogue.{Catalogue, module_named}
use Rattle.rl_defs.specs.declared.module_def.ModuleDef.{ModuleDef}
use Rattle.rl_pages.specs.declared.entry.Entry.{Entry}
use Rattle.rl_pages.specs.declared.viewer.Viewer.{Viewer}
use Rattle.rl_build.specs.BuiltIn.{built_in_named}
use Rattle.rl_build.specs.Payload.{payload_of_built_in, payload_of_module}
use Rattle.rl_build.specs.Sight.{Sight, sight}
use Rattle.rl_build.specs.declared.built_in.BuiltIn.{BuiltIn}
use Rattle.rl_build.specs.declared.context.Context.{Context}
use Rattle.rl_build.specs.declared.payloads.Payload.{Payload}
use Rattle.rl_loadphp.specs.Answer.{answer_to, are_too_many, sent}
use Rattle.rl_loadphp.specs.Body.{body_of as body_for, built, implementation_of, implementations, missing_part, parts_of}
use Rattle.rl_loadphp.specs.Refusal.{Refusal, AnswerTooLong, QueryTooLong, TooManyNames}
use Rattle.rl_names.specs.Packing.{expand}
use Rattle.rl_names.specs.declared.counted.Counted.TheVariants.{AnswerBytes, Names, QueryBytes}
use Rattle.rl_loadphp.specs.Served.{missing, names_of, query_context, served}
use Rattle.rl_view_spec.specs.Closure.{Text}
use Rattle.rl_wiki.specs.Front.{answer_by, answered_by, asks_startup, is_alone, startup_answer, wants_scripts, wiki_answer}
use Rattle.rl_wire.specs.Line.{wire_text}
use Rattle.rl_wire.specs.Message.{AreAscending}
use Rattle.rl_wire.specs.Reading.{answer_of}
use Rattle.rl_wire.specs.declared.part.Part.{Part}
use Rattle.rl_wire.specs.declared.part.Part.TheVariants.{Impl, State}
use Rattle.rl_book_spec.specs.Opening.{part_of}
use Rattle.rl_stage_spec.specs.Session.{body_of}
use Rattle.rl_stage_spec.proofs.OriginLemmas.{Made, all_made, found_part}
use Rattle.rl_stage_spec.proofs.ReadLemmas.{IsReadable, answer_said}

-- ---- what is built may be read

hash_length : (n : ℕ) → length (version_of_hash n) ≡ 5
unfolding version_of_hash
hash_length n =
    let long : length (padded 5 (base_36 n)) ≡ length {A = ℕ} (replicate (5 - length (base_36 n)) 48) + length (base_36 n) =
    length-append (replicate (5 - length (base_36 n)) 48) (base_36 n) in
    let zeros : length {A = ℕ} (replicate (5 - length (base_36 n)) 48) ≡ 5 - length (base_36 n) = length-replicate (5 - length (base_36 n)) 48 in
    let within : 5 ≤ length (padded 5 (base_36 n)) = omega (arith, long, zeros) in
    length-take-le 5 (padded 5 (base_36 n)) within

readable_made : (seen : Sight) (ctx : Context) (name : Text) (part : Part) → implementation_of seen ctx name ≡ Some part → IsReadable part
readable_made seen ctx name part is = step (built_in_named name) (module_named seen.catalogue name) is
  where
    one : (p : Payload) → p.messages ≡ [] → IsReadable (built name p)
    one p none = (hash_length _, subst AreAscending (sym none) tt)

    step : (b : Option BuiltIn) (m : Option ModuleDef)
        → option_map (built name) (option_or (option_map (payload_of_built_in seen.history ctx) b) (option_map (payload_of_module seen.catalogue) m))
        ≡ Some part
        → IsReadable part
    step None None e = absurd (cc)
    step None (Some m) e =
        let same : built name (payload_of_module seen.catalogue m) ≡ part = cc in
        subst IsReadable same (one (payload_of_module seen.catalogue m) refl)
    step (Some b) m e =
        let same : built name (payload_of_built_in seen.history ctx b) ≡ part = cc in
        subst IsReadable same (one (payload_of_built_in seen.history ctx b) refl)

abbrev pub is_state : Part → Bool
is_state (Impl name version script styles messages) = false
is_state (State name kind) = true

module _ (seen : Sight) (ctx : Context) where
  abbrev pub IsPiece : Part → Type 0
  IsPiece part = IsReadable part × ((is_state part ≡ true) ⊎ Made seen ctx part)

  impl_pieces : (parts : List Part) (later : List Part) → AllByRecursion (Made seen ctx) parts → AllByRecursion IsPiece later
      → AllByRecursion IsPiece (parts ++ later)
  impl_pieces [] later h k = k
  impl_pieces (part ∷ parts) later h k = ((readable_made seen ctx h.0.0 part h.0.1, inr h.0), impl_pieces parts later h.1 k)

  state_pieces : (names : List Text) → AllByRecursion IsPiece (map missing_part names)
  state_pieces [] = tt
  state_pieces (name ∷ names) = ((tt, inl refl), state_pieces names)

  pieces : (these others : List Text) → AllByRecursion IsPiece (parts_of seen ctx these others)
  pieces these others = impl_pieces (implementations seen ctx these) (map missing_part others) (all_made seen ctx these) (state_pieces others)

  readable : (parts : List Part) → AllByRecursion IsPiece parts → AllByRecursion IsReadable parts
  readable [] h = tt
  readable (part ∷ parts) h = (h.0.0, readable parts h.1)

-- ---- the body of an answer to a query for all that modules bring

module _ (c : Catalogue) (entries : List Entry) (viewer : Viewer) where
  abbrev Says : Text → Query → Type 0
  Says body q = (body ≡ []) ⊎ (body ≡ wire_text (parts_of (sight c entries viewer) (query_context c q) (served (sight c entries viewer) q)
      (missing (sight c entries viewer) q)))

  by_sent : (q : Query) → q.only ≡ only.All → (b : Bool) (refusal : Refusal)
      → Says (body_of (if b then Err refusal else Ok (answer_to (sight c entries viewer) q))) q
  by_sent q all true refusal = inl refl
  by_sent q all false refusal =
      inr (ap (λ (o : Only). body_for (sight c entries viewer) (query_context c q) o (served (sight c entries viewer) q)
      (missing (sight c entries viewer) q)) all)

  by_query : (q : Query) → q.only ≡ only.All → Says (body_of (answer_by c entries viewer q)) q
  by_query q all =
      let no_scripts : asks_startup q ≡ false = ap (λ (o : Only). wants_scripts o && is_alone (codes "startup") (names_of q)) all in
      subst (λ (b : Bool). Says (body_of (if b then Ok (startup_answer c entries viewer q) else sent (answer_to (sight c entries viewer) q))) q)
      (sym no_scripts)
      (by_sent q all (are_too_many AnswerBytes (length (answer_to (sight c entries viewer) q).body))
      (AnswerTooLong (length (answer_to (sight c entries viewer) q).body)))

  by_asked : (q : Query) → q.only ≡ only.All → (a b : Bool) (one other : Refusal)
      → Says (body_of (answered_by c entries viewer (if a then Err one else (if b then Err other else Ok q)))) q
  by_asked q all true b one other = inl refl
  by_asked q all false true one other = inl refl
  by_asked q all false false one other = by_query q all

  body_says : (bytes : Text) → (query_of bytes).only ≡ only.All → Says (body_of (wiki_answer c entries viewer bytes)) (query_of bytes)
  body_says bytes all =
      by_asked (query_of bytes) all (are_too_many QueryBytes (length bytes)) (are_too_many Names (length (expand (query_of bytes).modules)))
      (QueryTooLong (length bytes)) (TooManyNames (length (expand (query_of bytes).modules)))

  -- an implementation that stands in an answer was built for the viewer, in the context that the query tells
  pub served_made : (bytes : Text) → (query_of bytes).only ≡ only.All → (parts : List Part)
      → answer_of (body_of (wiki_answer c entries viewer bytes)) ≡ Ok parts
      → (name : Text) (part : Part) → part_of parts name ≡ Some part → is_state part ≡ false
      → Made (sight c entries viewer) (query_context c (query_of bytes)) part
  served_made bytes all parts read name part found impl =
      elim (body_says bytes all) [
        | inl empty ↦ nothing (ap answer_of (sym empty) ∙ read)
        | inr says ↦ something (ap answer_of (sym says) ∙ read)
      ]
    where
      nothing : answer_of [] ≡ Ok parts → Made (sight c entries viewer) (query_context c (query_of bytes)) part
      nothing e =
          let none : [] ≡ parts = cc in
          let lost : part_of [] name ≡ Some part = ap (λ (ps : List Part). part_of ps name) none ∙ found in absurd (cc)

      chosen : IsPiece (sight c entries viewer) (query_context c (query_of bytes)) part
          → Made (sight c entries viewer) (query_context c (query_of bytes)) part
      chosen piece = elim piece.1 [ inl state ↦ absurd (let clash : true ≡ false = sym state ∙ impl in cc) | inr made ↦ made ]

      something : answer_of (wire_text (parts_of (sight c entries viewer) (query_context c (query_of bytes)) (served (sight c entries viewer) (query_of bytes))
          (missing (sight c entries viewer) (query_of bytes)))) ≡ Ok parts → Made (sight c entries viewer) (query_context c (query_of bytes)) part
      something e =
          let seen = sight c entries viewer in
          let ctx = query_context c (query_of bytes) in
          let these = served seen (query_of bytes) in
          let others = missing seen (query_of bytes) in
          let all_pieces = pieces seen ctx these others in
          let same : parts ≡ parts_of seen ctx these others =
          answer_said (parts_of seen ctx these others) parts (readable seen ctx (parts_of seen ctx these others) all_pieces) e in
          chosen (found_part (IsPiece seen ctx) (parts_of seen ctx these others) name part all_pieces
          (ap (λ (ps : List Part). part_of ps name) (sym same) ∙ found))
