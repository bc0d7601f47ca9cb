-- An answer is made of what is not private.
use Rattle.std.proofs.Common.{◌≡◌, ℕ, Bool, true, false, not, cond, List, [], ◌∷◌, ◌++◌, codes, map, Option, Some, None, option_map, Result}
use Rattle.std.proofs.Common.{Ok, Err, bytes_eq, refl, sym, ap, ◌∙◌}
use Rattle.std.specs.Prelude.{filter, flat_map, option_and_then}
use Rattle.std.specs.List.{AllByRecursion, filter_map}
use Rattle.std.specs.Option.{option_map_or, option_or}
use Rattle.rl_names.specs.Packing.{distinct}
use Rattle.rl_names.specs.declared.query.Query.{Query}
use Rattle.rl_names.specs.declared.query.Only.{Only}
use Rattle.rl_names.specs.declared.query.Only.TheVariants.{All, Scripts, Styles}
use Rattle.rl_names.proofs.PackingLemmas.{distinct_kept}
use Rattle.rl_wire.specs.Line.{wire_text}
use Rattle.rl_defs.specs.Catalogue.{Catalogue, file_of, module_named}
use Rattle.rl_defs.specs.declared.module_def.ModuleDef.{ModuleDef}
use Rattle.rl_pages.specs.declared.entry.Entry.{Entry}
use Rattle.rl_pages.specs.declared.viewer.Viewer.{Viewer}
use Rattle.rl_pages.specs.Seen.{Shown, shown}
use Rattle.rl_build.specs.declared.context.Context.{Context}
use Rattle.rl_build.specs.declared.payloads.Payload.{Payload}
use Rattle.rl_build.specs.Context.{context_of}
use Rattle.rl_build.specs.Sight.{Sight}
use Rattle.rl_build.specs.declared.built_in.BuiltIn.{BuiltIn}
use Rattle.rl_build.specs.BuiltIn.{built_in_named}
use Rattle.rl_build.specs.Sheet.{sheet_of_built_in, sheet_of_module}
use Rattle.rl_build.specs.Payload.{file_lines, payload_of, payload_of_built_in, payload_of_module, version_of}
use Rattle.rl_loadphp.specs.Answer.{age_with, answer_of, answer_to, answered, asked, sent}
use Rattle.rl_loadphp.specs.Refusal.{Refusal}
use Rattle.rl_loadphp.specs.Body.{body_of, built, implementation_of, implementations, missing_part, states_text}
use Rattle.rl_loadphp.specs.Embed.{embed_of}
use Rattle.rl_loadphp.specs.Isolation.{if_public, public_module, AnswersAreSeen, EmbedsAreSeen, DifferInPrivate, PrivateIsUnseen}
use Rattle.rl_loadphp.specs.Served.{is_own, is_served, may_serve, missing, names_of, payloads, query_context, served}

-- ---- lists

filter_same : {X : Type 0} (p q : X → Bool) (xs : List X) → ((x : X) → p x ≡ q x) → filter p xs ≡ filter q xs
filter_same p q [] same = refl
filter_same p q (x ∷ xs) same = rw (same x, filter_same p q xs same) refl

filter_map_same : {X Y : Type 0} (f g : X → Option Y) (xs : List X) → AllByRecursion (λ x. f x ≡ g x) xs → filter_map f xs ≡ filter_map g xs
filter_map_same f g [] same = refl
filter_map_same f g (x ∷ xs) same = rw (same.0, filter_map_same f g xs same.1) refl

flat_map_same : {X Y : Type 0} (f g : X → List Y) (xs : List X) → AllByRecursion (λ x. f x ≡ g x) xs → flat_map f xs ≡ flat_map g xs
flat_map_same f g [] same = refl
flat_map_same f g (x ∷ xs) same = rw (same.0, flat_map_same f g xs same.1) refl

-- what holds of all that pass holds of each that is kept
kept_pass : {X : Type 0} (P : X → Type 0) (p : X → Bool) (xs : List X) → ((x : X) → p x ≡ true → P x) → AllByRecursion P (filter p xs)
kept_pass P p [] h = tt
kept_pass P p (x ∷ xs) h =
    let step : (v : Bool) → p x ≡ v → AllByRecursion P (cond v (x ∷ filter p xs) (filter p xs)) =
    λ (v : Bool). elim v as (λ w. p x ≡ w → AllByRecursion P (cond w (x ∷ filter p xs) (filter p xs))) [
      | true ↦ λ e. (h x e, kept_pass P p xs h)
      | false ↦ λ e. kept_pass P p xs h
    ] in
    step (p x) refl

all_map : {X : Type 0} (P Q : X → Type 0) (xs : List X) → ((x : X) → P x → Q x) → AllByRecursion P xs → AllByRecursion Q xs
all_map P Q [] f a = tt
all_map P Q (x ∷ xs) f a = (f x a.0, all_map P Q xs f a.1)

-- ---- a private module is served to nobody

serves : Bool → Option ModuleDef → Bool
serves own o = option_map_or (may_serve own) (option_map sheet_of_module o) false

public_serves : (user : Bool) (m : ModuleDef) (v : Bool) → bytes_eq m.group (codes "private") ≡ v
    → may_serve user (sheet_of_module m) ≡ serves user (cond v None (Some m))
unfolding serves
public_serves user m true e = rw e refl
public_serves user m false e = refl

serves_public : (user : Bool) (o : Option ModuleDef) → serves user o ≡ serves user (option_and_then if_public o)
unfolding serves
serves_public user None = refl
serves_public user (Some m) = public_serves user m (bytes_eq m.group (codes "private")) refl

-- what is served is not private
served_public : (user : Bool) (m : ModuleDef) (v : Bool) → bytes_eq m.group (codes "private") ≡ v → may_serve user (sheet_of_module m) ≡ true →
    cond v None (Some m) ≡ Some m
served_public user m true e h = let no : may_serve user (sheet_of_module m) ≡ false = rw e refl in absurd (cc)
served_public user m false e h = refl

served_module : (user : Bool) (o : Option ModuleDef) → serves user o ≡ true → option_and_then if_public o ≡ o
unfolding serves
served_module user None h = absurd (cc)
served_module user (Some m) h = served_public user m (bytes_eq m.group (codes "private")) refl h

-- ---- two catalogues

abbrev over : Shown → Catalogue → Sight
over h c = record { catalogue = c; history = h }

module _ (h : Shown) (c d : Catalogue) (alike : DifferInPrivate c d) where
  same_context : (lang skin : List ℕ) (debug : Bool) → context_of c lang skin debug ≡ context_of d lang skin debug
  same_context lang skin debug = rw (alike.languages, alike.skins) refl

  served_alike : (user : Bool) (b : Option BuiltIn) (o p : Option ModuleDef) → serves user o ≡ serves user p
      → option_map_or (may_serve user) (option_or (option_map sheet_of_built_in b) (option_map sheet_of_module o)) false
      ≡ option_map_or (may_serve user) (option_or (option_map sheet_of_built_in b) (option_map sheet_of_module p)) false
  unfolding serves
  served_alike user None o p e = e
  served_alike user (Some b) o p e = refl

  same_served : (ctx : Context) (user : Bool) (name : List ℕ) → is_served (over h c) ctx user name ≡ is_served (over h d) ctx user name
  same_served ctx user name =
      served_alike user (built_in_named name) (module_named c name) (module_named d name)
      (serves_public user (module_named c name) ∙ ap (serves user) (alike.modules name) ∙ sym (serves_public user (module_named d name)))

  same_texts : (m : ModuleDef) → AllByRecursion (λ file. file_of c file ≡ file_of d file) m.scripts → payload_of_module c m ≡ payload_of_module d m
  same_texts m files =
      let lines = all_map (λ file. file_of c file ≡ file_of d file) (λ file. file_lines c file ≡ file_lines d file) (distinct m.scripts)
      (λ file e. rw e refl)
      (distinct_kept (λ file. file_of c file ≡ file_of d file) m.scripts files) in
      rw (flat_map_same (file_lines c) (file_lines d) (distinct m.scripts) lines) refl

  brings : (name : List ℕ) (o : Option ModuleDef) → module_named c name ≡ o → public_module c name ≡ o → module_named d name ≡ o
      → option_map (payload_of_module c) o ≡ option_map (payload_of_module d) o
  brings name None is public is_too = refl
  brings name (Some m) is public is_too = ap Some (same_texts m (alike.files name m public))

  module_brings : (user : Bool) (name : List ℕ) → serves user (module_named c name) ≡ true
      → option_map (payload_of_module c) (module_named c name) ≡ option_map (payload_of_module d) (module_named d name)
  module_brings user name serves_it =
      let seen_c : public_module c name ≡ module_named c name = served_module user (module_named c name) serves_it in
      let same_test : serves user (module_named c name) ≡ serves user (module_named d name) =
      serves_public user (module_named c name) ∙ ap (serves user) (alike.modules name) ∙ sym (serves_public user (module_named d name)) in
      let seen_d : public_module d name ≡ module_named d name = served_module user (module_named d name) (sym same_test ∙ serves_it) in
      let same : module_named d name ≡ module_named c name = sym seen_d ∙ sym (alike.modules name) ∙ seen_c in
      brings name (module_named c name) refl seen_c same ∙ ap (option_map (payload_of_module d)) (sym same)

  brought_alike : (ctx : Context) (user : Bool) (b : Option BuiltIn) (o p : Option ModuleDef)
      → (serves user o ≡ true → option_map (payload_of_module c) o ≡ option_map (payload_of_module d) p)
      → option_map_or (may_serve user) (option_or (option_map sheet_of_built_in b) (option_map sheet_of_module o)) false ≡ true
      → option_or (option_map (payload_of_built_in h ctx) b) (option_map (payload_of_module c) o)
      ≡ option_or (option_map (payload_of_built_in h ctx) b) (option_map (payload_of_module d) p)
  unfolding serves
  brought_alike ctx user None o p same serves_it = same serves_it
  brought_alike ctx user (Some b) o p same serves_it = refl

  -- what is served brings the same
  same_brought : (ctx : Context) (user : Bool) (name : List ℕ) → is_served (over h c) ctx user name ≡ true
      → payload_of (over h c) ctx name ≡ payload_of (over h d) ctx name
  same_brought ctx user name serves_it =
      brought_alike ctx user (built_in_named name) (module_named c name) (module_named d name) (module_brings user name) serves_it

  module _ (ctx : Context) (names : List (List ℕ))
      (brought : AllByRecursion (λ name. payload_of (over h c) ctx name ≡ payload_of (over h d) ctx name) names) where
    same_payloads : payloads (over h c) ctx names ≡ payloads (over h d) ctx names
    same_payloads = filter_map_same (payload_of (over h c) ctx) (payload_of (over h d) ctx) names brought

    same_implementations : implementations (over h c) ctx names ≡ implementations (over h d) ctx names
    same_implementations = filter_map_same (implementation_of (over h c) ctx) (implementation_of (over h d) ctx) names
        (all_map (λ name. payload_of (over h c) ctx name ≡ payload_of (over h d) ctx name)
        (λ name. implementation_of (over h c) ctx name ≡ implementation_of (over h d) ctx name) names
        (λ name e. ap (option_map (built name)) e) brought)

    same_body : (only : Only) (others : List (List ℕ)) → body_of (over h c) ctx only names others ≡ body_of (over h d) ctx only names others
    same_body All others = ap (λ parts. wire_text (parts ++ map missing_part others)) same_implementations
    same_body Scripts others =
        ap (λ (ps : List Payload). flat_map (λ (p : Payload). p.script) ps ++ (states_text (codes "ready") names ++ states_text (codes "missing") others))
        same_payloads
    same_body Styles others = ap (λ (ps : List Payload). flat_map (λ (p : Payload). p.styles) ps) same_payloads

  same_answer : (q : Query) → answer_to (over h c) q ≡ answer_to (over h d) q
  same_answer q =
      let ctx = query_context c q in
      let own = is_own (over h c) q in
      let contexts : ctx ≡ query_context d q = same_context q.lang q.skin q.debug in
      let names = served (over h c) q in
      let others = missing (over h c) q in
      let kept : names ≡ served (over h d) q =
      filter_same (is_served (over h c) ctx own) (is_served (over h d) ctx own) (names_of q) (same_served ctx own)
      ∙ ap (λ x. filter (is_served (over h d) x own) (names_of q)) contexts in
      let left : others ≡ missing (over h d) q =
      filter_same (λ name. not (is_served (over h c) ctx own name)) (λ name. not (is_served (over h d) ctx own name)) (names_of q)
      (λ name. ap not (same_served ctx own name))
      ∙ ap (λ x. filter (λ name. not (is_served (over h d) x own name)) (names_of q)) contexts in
      let brought = kept_pass (λ name. payload_of (over h c) ctx name ≡ payload_of (over h d) ctx name)
      (is_served (over h c) ctx own) (names_of q) (same_brought ctx own) in
      let body : body_of (over h c) ctx q.only names others ≡ body_of (over h d) (query_context d q) q.only (served (over h d) q) (missing (over h d) q) =
      same_body ctx names brought q.only others
      ∙ ap (λ x. body_of (over h d) x q.only names others) contexts
      ∙ ap (λ ns. body_of (over h d) (query_context d q) q.only ns others) kept
      ∙ ap (body_of (over h d) (query_context d q) q.only (served (over h d) q)) left in
      let age : age_with q.version (map version_of (payloads (over h c) ctx names))
      ≡ age_with q.version (map version_of (payloads (over h d) (query_context d q) (served (over h d) q))) =
      ap (λ ps. age_with q.version (map version_of ps)) (same_payloads ctx names brought)
      ∙ ap (λ x. age_with q.version (map version_of (payloads (over h d) x names))) contexts
      ∙ ap (λ ns. age_with q.version (map version_of (payloads (over h d) (query_context d q) ns))) kept in
      rw (body, age) refl

  same_answered : (r : Result Query Refusal) → answered (over h c) r ≡ answered (over h d) r
  same_answered (Ok q) = ap sent (same_answer q)
  same_answered (Err refusal) = refl

pub private_is_unseen : PrivateIsUnseen
private_is_unseen c d alike entries viewer query = same_answered (shown entries viewer) c d alike (asked query)

-- ---- two histories

as_shown : Viewer → List Entry → Shown
as_shown viewer entries = record { viewer = viewer; entries = entries }

pub answers_are_seen : AnswersAreSeen
unfolding as_shown
answers_are_seen c entries others viewer same query = ap (λ (es : List Entry). answer_of (over (as_shown viewer es) c) query) same

pub embeds_are_seen : EmbedsAreSeen
unfolding as_shown
embeds_are_seen c entries others viewer same ctx = ap (λ (es : List Entry). embed_of (over (as_shown viewer es) c) ctx) same
