-- A path that is text is routed as it is, and another one is not found. A router of literal routes finds the route that is
-- the path.
use Rattle.std.proofs.Common.{◌≡◌, ◌<◌, ◌≤◌, ℕ, ◌-◌, List, [], ◌∷◌, Bool, true, false, cond, Option, Some, None, length}
use Rattle.std.proofs.Common.{refl, ◌∙◌, ap, arith, ◌==◌}
use Rattle.std.proofs.lemmas.Bool.Decides.{nat_tests}
use Rattle.std.specs.Prelude.{IsUtf8, zero, suc, ltb, bytes_eq, codes, option_map, ◌&&◌}
use Rattle.std.specs.List.{list_all}
use Rattle.matchit.specs.Router.{RouteOf}
use Rattle.std.specs.Str.{is_utf8}
use Rattle.std.proofs.lemmas.Str.{IsUtf8-from_is_utf8, is_utf8-from_IsUtf8}
use Rattle.matchit.specs.Rows.{RowsOf, param_token, catch_all_token}
use Rattle.matchit.specs.Seek.{same_text, own, step, or_else, seek, first, param_step, has_slash}
use Rattle.matchit.specs.Order.{lookup}
use Rattle.matchit.specs.Level.{IsText}
use Rattle.rl_http.specs.declared.routes.Route.{Route}
use Rattle.rl_http.specs.declared.routes.Route.TheVariants.{NotFound}
use Rattle.rl_http.specs.declared.routes.Call.{Call}
use Rattle.rl_http.specs.declared.routes.Call.TheVariants as calls
use Rattle.rl_http.specs.Routes.{route_of, route_decoded, FindsCalls}

pub text_routed : (method path text : List ℕ) (r : Route) → text ≡ path → IsUtf8 path → r ≡ route_of method text → r ≡ route_decoded method path
text_routed method path text r e h g =
    let t : is_utf8 path ≡ true = is_utf8-from_IsUtf8 path h in
    let f : r ≡ route_of method path = rw (← e) g in
    rw t f

pub other_not_found : (method path : List ℕ) → ¬ (IsUtf8 path) → NotFound ≡ route_decoded method path
other_not_found method path h = by_test (is_utf8 path) refl
  where
    by_test : (b : Bool) → is_utf8 path ≡ b → NotFound ≡ cond b (route_of method path) NotFound
    by_test true e = absurd (h (IsUtf8-from_is_utf8 path e))
    by_test false e = refl

-- ---- literal routes

module _ {K : Type 0} where
  -- every token of each pattern is a byte
  abbrev pub AreLiteral : RowsOf K → Type 0
  AreLiteral [] = Unit {0}
  AreLiteral ((t, k) ∷ rest) = IsText t × AreLiteral rest

  pub step_literal : (b : ℕ) (rows : RowsOf K) → AreLiteral rows → AreLiteral (step b rows)
  step_literal b [] l = tt
  step_literal b (([], k) ∷ rest) l = step_literal b rest l.1
  step_literal b ((x ∷ t, k) ∷ rest) l =
      elim (x == b) as (λ v. AreLiteral (cond v ((t, k) ∷ step b rest) (step b rest))) [
        | true ↦ (l.0.1, step_literal b rest l.1)
        | false ↦ step_literal b rest l.1
      ]

  -- no literal pattern goes on with a parameter
  pub step_none : (b : ℕ) (rows : RowsOf K) → 256 ≤ b → AreLiteral rows → step b rows ≡ []
  step_none b [] h l = refl
  step_none b (([], k) ∷ rest) h l = step_none b rest h l.1
  step_none b ((x ∷ t, k) ∷ rest) h l =
      let small : x < 256 = l.0.0 in
      let e : (x == b) ≡ false = grind (arith, nat_tests) in
      rw e (step_none b rest h l.1)

  pub own_found : (rows : RowsOf K) → own rows ≡ lookup [] rows
  own_found [] = refl
  own_found (([], k) ∷ rest) = refl
  own_found ((x ∷ t, k) ∷ rest) = own_found rest

  pub step_found : (b : ℕ) (path : List ℕ) (rows : RowsOf K) → lookup path (step b rows) ≡ lookup (b ∷ path) rows
  step_found b path [] = refl
  step_found b path (([], k) ∷ rest) = step_found b path rest
  step_found b path ((x ∷ t, k) ∷ rest) = by_test (x == b) refl (step_found b path rest)
    where
      by_test : (v : Bool) → (x == b) ≡ v → lookup path (step b rest) ≡ lookup (b ∷ path) rest
          → lookup path (step b ((x ∷ t, k) ∷ rest)) ≡ lookup (b ∷ path) ((x ∷ t, k) ∷ rest)
      by_test true e h = rw e (ap (λ (r : Option K). cond (same_text t path) (Some k) r) h)
      by_test false e h = rw e h

  pub after_none : (path : List ℕ) → (param_step {K = K} [] path).1 ≡ []
  unfolding param_step
  after_none path =
      elim (has_slash path) as (λ v. (cond {A = ℕ × RowsOf K} v (0, []) (length path, [])).1 ≡ []) [
        | true ↦ refl
        | false ↦ refl
      ]

  pub seek_none : (skip : ℕ) (path : List ℕ) → seek {K = K} skip [] path ≡ None
  unfolding seek
  seek_none skip [] = refl
  seek_none (suc skip) (b ∷ path) = seek_none skip path
  seek_none zero (b ∷ path) = simp (seek_none 0 path, after_none (b ∷ path), seek_none (((param_step {K = K} [] (b ∷ path)).0) - 1) path)

  pub or_none : (a : Option K) → or_else a None ≡ a
  or_none None = refl
  or_none (Some k) = refl

  -- the route that a path matches is the one whose pattern it is
  pub literal_found : (path : List ℕ) (rows : RowsOf K) → AreLiteral rows → first rows path ≡ lookup path rows
  unfolding seek
  literal_found [] rows l = own_found rows
  literal_found (b ∷ path) rows l =
      let p : step param_token rows ≡ [] = step_none param_token rows (omega arith) l in
      let c : step catch_all_token rows ≡ [] = step_none catch_all_token rows (omega arith) l in
      let f : seek 0 (step b rows) path ≡ lookup (b ∷ path) rows = literal_found path (step b rows) (step_literal b rows l) ∙ step_found b path rows in
      rw (p, c, after_none (b ∷ path), seek_none ((param_step {K = K} [] (b ∷ path)).0 - 1) path) (or_none (seek 0 (step b rows) path) ∙ f)

-- bytes are below 256
pub bytes_literal : (text : List ℕ) → list_all (λ b. ltb b 256) text ≡ true → IsText text
bytes_literal [] e = tt
bytes_literal (b ∷ text) e = by_test (ltb b 256) refl e (bytes_literal text)
  where
    by_test : (v : Bool) → ltb b 256 ≡ v → (v && list_all (λ x. ltb x 256) text) ≡ true
        → (list_all (λ x. ltb x 256) text ≡ true → IsText text) → IsText (b ∷ text)
    by_test true t e h = (grind (arith, nat_tests, t), h e)
    by_test false t e h = absurd (let no : ⊥ = cc in no)

-- ---- the router of a wiki

abbrev pub literal : List ℕ → Call → List ℕ × RouteOf Call
literal path call = (path, record { pattern = path; text = path; names = []; value = call })

abbrev pub wiki_rows : RowsOf (RouteOf Call)
wiki_rows =
    literal (codes "/edit") calls.Edit ∷ literal (codes "/load.php") calls.Load
    ∷ literal (codes "/option") calls.Choice ∷ literal (codes "/revision") calls.Revision ∷ []

pub wiki_literal : AreLiteral wiki_rows
wiki_literal = (
  bytes_literal (codes "/edit") refl,
  (
    bytes_literal (codes "/load.php") refl,
    (bytes_literal (codes "/option") refl, (bytes_literal (codes "/revision") refl, tt)),
  ),
)

pub one_of_four : {X Y : Type 0} (f : X → Y) (a b c d : Bool) (w x y z : X)
    → option_map f (cond a (Some w) (cond b (Some x) (cond c (Some y) (cond d (Some z) None))))
    ≡ cond a (Some (f w)) (cond b (Some (f x)) (cond c (Some (f y)) (cond d (Some (f z)) None)))
one_of_four f true b c d w x y z = refl
one_of_four f false true c d w x y z = refl
one_of_four f false false true d w x y z = refl
one_of_four f false false false true w x y z = refl
one_of_four f false false false false w x y z = refl

pub wiki_finds : FindsCalls wiki_rows
wiki_finds path =
    ap (option_map (λ (r : RouteOf Call). r.value)) (literal_found path wiki_rows wiki_literal)
    ∙ one_of_four (λ (r : RouteOf Call). r.value) (bytes_eq (codes "/edit") path) (bytes_eq (codes "/load.php") path) (bytes_eq (codes "/option") path)
    (bytes_eq (codes "/revision") path) (literal (codes "/edit") calls.Edit).1 (literal (codes "/load.php") calls.Load).1
    (literal (codes "/option") calls.Choice).1 (literal (codes "/revision") calls.Revision).1
