-- An answer is made of pieces that may be sent.
use Rattle.std.proofs.Common.{◌≡◌, ℕ, suc, Bool, true, false, cond, ◌&&◌, ◌||◌, not, List, [], ◌∷◌, ◌++◌, codes, Option, Some}
use Rattle.std.proofs.Common.{None, filter, bytes_eq, refl, sym, ap, ◌∙◌, subst, arith, append-nil}
use Rattle.std.specs.Prelude.{Contains}
use Rattle.std.specs.List.{AllByRecursion, flat_map}
use Rattle.std.specs.Option.{option_map_or}
use Rattle.std.proofs.lemmas.Bool.{and_parts}
use Rattle.std.proofs.lemmas.List.Concat.{flat_map-append}
use Rattle.std.proofs.lemmas.Slice.Eq.{bytes_eq-Decides}
use Rattle.rl_names.specs.declared.query.Query.{Query}
use Rattle.rl_names.specs.declared.query.Only.{Only}
use Rattle.rl_names.specs.declared.query.Only.TheVariants.{All, Scripts, Styles}
use Rattle.rl_wire.specs.Line.{line, part_text, state_text}
use Rattle.rl_pages.specs.declared.viewer.Viewer.{Viewer}
use Rattle.rl_pages.specs.declared.viewer.Viewer.TheVariants.{Anon, User}
use Rattle.rl_pages.specs.Viewer.{viewer_of}
use Rattle.rl_build.specs.declared.sheets.Sheet.{Sheet}
use Rattle.rl_build.specs.declared.payloads.Payload.{Payload}
use Rattle.rl_build.specs.Sight.{Sight}
use Rattle.rl_build.specs.Sheet.{sheet_of}
use Rattle.rl_build.specs.Payload.{payload_of}
use Rattle.rl_loadphp.specs.Served.{names_of, query_context, is_own, is_viewer, may_serve, is_served, served, missing}
use Rattle.rl_loadphp.specs.Body.{body_of, built, states_text, scripts_text}
use Rattle.rl_loadphp.specs.Sent.{MaySend, Piece, implementation, script, styles, state, IsMadeOfPieces}
use Rattle.rl_loadphp.specs.Steps.{line_of, script_of, styles_of}
use Rattle.rl_loadphp.proofs.MadeLemmas.{wire-missing, scripts-payloads, styles-payloads}

-- ---- what is made of pieces

both : {X : Type 0} (P : X → Type 0) (xs ys : List X) → AllByRecursion P xs → AllByRecursion P ys → AllByRecursion P (xs ++ ys)
both P [] ys a b = b
both P (x ∷ xs) ys a b = (a.0, both P xs ys a.1 b)

nothing_made : (s : Sight) (q : Query) → IsMadeOfPieces s q []
nothing_made s q = ([], refl, tt)

one_made : (s : Sight) (q : Query) (text : List ℕ) → Piece s q text → IsMadeOfPieces s q text
one_made s q text piece = (text ∷ [], sym (append-nil text), (piece, tt))

both_made : (s : Sight) (q : Query) (a b : List ℕ) → IsMadeOfPieces s q a → IsMadeOfPieces s q b → IsMadeOfPieces s q (a ++ b)
both_made s q a b (ps, whole, all) (qs, rest, others) = (
  ps ++ qs,
  ap (λ t. t ++ b) whole ∙ ap (λ t. flat_map (λ (piece : List ℕ). piece) ps ++ t) rest ∙ sym (flat_map-append (λ (piece : List ℕ). piece) ps qs),
  both (Piece s q) ps qs all others,
)

each_made : (s : Sight) (q : Query) (P : List ℕ → Type 0) (text_of : List ℕ → List ℕ) →
    ((name : List ℕ) → P name → IsMadeOfPieces s q (text_of name))
    → (names : List (List ℕ)) → AllByRecursion P names → IsMadeOfPieces s q (flat_map text_of names)
each_made s q P text_of one [] all = nothing_made s q
each_made s q P text_of one (name ∷ names) all = both_made s q (text_of name) (flat_map text_of names) (one name all.0)
    (each_made s q P text_of one names all.1)

-- ---- names that are asked for

IsAsked : Query → List ℕ → Type 0
IsAsked q name = Contains (names_of q) name

contains_all : (xs ys : List (List ℕ)) → ((name : List ℕ) → Contains xs name → Contains ys name) → AllByRecursion (Contains ys) xs
contains_all [] ys into = tt
contains_all (x ∷ xs) ys into =
    (into x (0, omega arith, refl), contains_all xs ys (λ name (k, within, is). into name (suc k, omega arith, is)))

kept_step : (P : List ℕ → Type 0) (test : List ℕ → Bool) (v : Bool) (x : List ℕ) (rest : List (List ℕ)) → test x ≡ v → P x
    → AllByRecursion (λ (n : List ℕ). P n × (test n ≡ true)) rest →
    AllByRecursion (λ (n : List ℕ). P n × (test n ≡ true)) (cond v (x ∷ rest) rest)
kept_step P test true x rest e here all = ((here, e), all)
kept_step P test false x rest e here all = all

-- what a filter keeps is what it was given, and passes
kept : (P : List ℕ → Type 0) (test : List ℕ → Bool) (xs : List (List ℕ)) → AllByRecursion P xs →
    AllByRecursion (λ (n : List ℕ). P n × (test n ≡ true)) (filter test xs)
kept P test [] all = tt
kept P test (x ∷ xs) all = kept_step P test (test x) x (filter test xs) refl all.0 (kept P test xs all.1)

first_parts : (P Q : List ℕ → Type 0) (xs : List (List ℕ)) → AllByRecursion (λ (n : List ℕ). P n × Q n) xs → AllByRecursion P xs
first_parts P Q [] all = tt
first_parts P Q (x ∷ xs) all = (all.0.0, first_parts P Q xs all.1)

-- ---- what is_served tells

not_both : (b : Bool) → not b ≡ true → b ≡ true → ⊥
not_both true h k = cc
not_both false h k = cc

viewer_is : (viewer other : Viewer) → is_viewer viewer other ≡ true → other ≡ viewer
viewer_is Anon Anon h = refl
viewer_is Anon (User name) h = absurd (cc)
viewer_is (User name) Anon h = absurd (cc)
viewer_is (User name) (User other) h = ap User (sym ((bytes_eq-Decides name other).0 h))

named_viewer : (viewer : Viewer) (o : Option Viewer) → option_map_or (is_viewer viewer) o false ≡ true → o ≡ Some viewer
named_viewer viewer None h = absurd (cc)
named_viewer viewer (Some other) h = ap Some (viewer_is viewer other h)

-- what is a user's own is for that user
either : (user own : Bool) → (not user || own) ≡ true → user ≡ true → own ≡ true
either true own h k = h
either false own h k = absurd (cc)

may_send : (s : Sight) (q : Query) (name : List ℕ) (p : Payload) (o : Option Sheet) → sheet_of s (query_context s.catalogue q) name ≡ o →
    option_map_or (may_serve (is_own s q)) o false ≡ true
    → IsAsked q name → payload_of s (query_context s.catalogue q) name ≡ Some p → MaySend s q name p
unfolding IsAsked
may_send s q name p None e served asked brings = absurd (cc)
may_send s q name p (Some sheet) e served asked brings =
    let whole = and_parts (not (bytes_eq sheet.group (codes "private")) && bytes_eq sheet.source (codes "local"))
    (not (bytes_eq sheet.group (codes "user")) || is_own s q) served in
    let front = and_parts (not (bytes_eq sheet.group (codes "private"))) (bytes_eq sheet.source (codes "local")) whole.0 in
    record {
      asked = asked;
      sheet = sheet;
      known = e;
      public = λ is. not_both (bytes_eq sheet.group (codes "private")) front.0 ((bytes_eq-Decides sheet.group (codes "private")).1 is);
      here = (bytes_eq-Decides sheet.source (codes "local")).0 front.1;
      own = λ is.
          named_viewer s.history.viewer (viewer_of q.user)
          (either (bytes_eq sheet.group (codes "user")) (is_own s q) whole.1 ((bytes_eq-Decides sheet.group (codes "user")).1 is));
      brings = brings;
    }

-- ---- what names bring

IsSent : Sight → Query → List ℕ → Type 0
IsSent s q name = IsAsked q name × (is_served s (query_context s.catalogue q) (is_own s q) name ≡ true)

brought : (s : Sight) (q : Query) (make : Payload → List ℕ) (name : List ℕ) → ((p : Payload) → MaySend s q name p → Piece s q (make p))
    → IsSent s q name → (o : Option Payload) → payload_of s (query_context s.catalogue q) name ≡ o → IsMadeOfPieces s q (option_map_or make o [])
unfolding IsSent
brought s q make name piece sent None e = nothing_made s q
brought s q make name piece sent (Some p) e =
    one_made s q (make p) (piece p (may_send s q name p (sheet_of s (query_context s.catalogue q) name) refl sent.1 sent.0 e))

lines_made : (s : Sight) (q : Query) (names : List (List ℕ)) → AllByRecursion (IsSent s q) names →
    IsMadeOfPieces s q (flat_map (line_of s (query_context s.catalogue q)) names)
lines_made s q = each_made s q (IsSent s q) (line_of s (query_context s.catalogue q))
    (λ name sent. brought s q (λ (p : Payload). line (part_text (built name p))) name (λ p may. implementation name p may) sent
    (payload_of s (query_context s.catalogue q) name) refl)

scripts_made : (s : Sight) (q : Query) (names : List (List ℕ)) → AllByRecursion (IsSent s q) names →
    IsMadeOfPieces s q (flat_map (script_of s (query_context s.catalogue q)) names)
scripts_made s q = each_made s q (IsSent s q) (script_of s (query_context s.catalogue q))
    (λ name sent. brought s q (λ (p : Payload). p.script) name (λ p may. script name p may) sent (payload_of s (query_context s.catalogue q) name) refl)

styles_made : (s : Sight) (q : Query) (names : List (List ℕ)) → AllByRecursion (IsSent s q) names →
    IsMadeOfPieces s q (flat_map (styles_of s (query_context s.catalogue q)) names)
styles_made s q = each_made s q (IsSent s q) (styles_of s (query_context s.catalogue q))
    (λ name sent. brought s q (λ (p : Payload). p.styles) name (λ p may. styles name p may) sent (payload_of s (query_context s.catalogue q) name) refl)

states_made : (s : Sight) (q : Query) (word : List ℕ) → Contains (codes "ready" ∷ codes "missing" ∷ []) word
    → (names : List (List ℕ)) → AllByRecursion (IsAsked q) names → IsMadeOfPieces s q (states_text word names)
unfolding IsAsked
states_made s q word known = each_made s q (Contains (names_of q)) (λ (name : List ℕ). line (state_text name word))
    (λ name asked. one_made s q (line (state_text name word)) (state name word asked known))

-- ---- the body

all_asked : (q : Query) → AllByRecursion (IsAsked q) (names_of q)
unfolding IsAsked
all_asked q = contains_all (names_of q) (names_of q) (λ name h. h)

served_sent : (s : Sight) (q : Query) → AllByRecursion (IsSent s q) (served s q)
unfolding IsSent
served_sent s q = kept (IsAsked q) (is_served s (query_context s.catalogue q) (is_own s q)) (names_of q) (all_asked q)

served_asked : (s : Sight) (q : Query) → AllByRecursion (IsAsked q) (served s q)
unfolding IsSent
served_asked s q =
    first_parts (IsAsked q) (λ (name : List ℕ). is_served s (query_context s.catalogue q) (is_own s q) name ≡ true) (served s q) (served_sent s q)

missing_asked : (s : Sight) (q : Query) → AllByRecursion (IsAsked q) (missing s q)
missing_asked s q =
    first_parts (IsAsked q) (λ (name : List ℕ). not (is_served s (query_context s.catalogue q) (is_own s q) name) ≡ true) (missing s q)
    (kept (IsAsked q) (λ (name : List ℕ). not (is_served s (query_context s.catalogue q) (is_own s q) name)) (names_of q) (all_asked q))

missing_made : (s : Sight) (q : Query) → IsMadeOfPieces s q (states_text (codes "missing") (missing s q))
missing_made s q = states_made s q (codes "missing") (1, omega arith, refl) (missing s q) (missing_asked s q)

pub body_made : (s : Sight) (q : Query) (only : Only) → IsMadeOfPieces s q (body_of s (query_context s.catalogue q) only (served s q) (missing s q))
body_made s q All =
    let Made : List ℕ → Type 0 = λ text. IsMadeOfPieces s q text in
    subst Made (sym (wire-missing s (query_context s.catalogue q) (served s q) (missing s q)))
    (both_made s q (flat_map (line_of s (query_context s.catalogue q)) (served s q)) (states_text (codes "missing") (missing s q))
    (lines_made s q (served s q) (served_sent s q)) (missing_made s q))
body_made s q Scripts =
    let Made : List ℕ → Type 0 = λ text. IsMadeOfPieces s q text in
    let states = both_made s q (states_text (codes "ready") (served s q)) (states_text (codes "missing") (missing s q))
    (states_made s q (codes "ready") (0, omega arith, refl) (served s q) (served_asked s q)) (missing_made s q) in
    both_made s q (scripts_text s (query_context s.catalogue q) (served s q))
    (states_text (codes "ready") (served s q) ++ states_text (codes "missing") (missing s q))
    (subst Made (sym (scripts-payloads s (query_context s.catalogue q) (served s q))) (scripts_made s q (served s q) (served_sent s q))) states
body_made s q Styles =
    let Made : List ℕ → Type 0 = λ text. IsMadeOfPieces s q text in
    subst Made (sym (styles-payloads s (query_context s.catalogue q) (served s q))) (styles_made s q (served s q) (served_sent s q))
