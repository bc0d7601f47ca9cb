-- Versions change nothing of what a table keeps.
use Rattle.std.proofs.Common.{◌≡◌, ◌≢◌, ℕ, ◌+◌, List, [], ◌∷◌, Bool, true, false, cond, ◌&&◌, ◌||◌, not, length, set, get_or}
use Rattle.std.proofs.Common.{map, nat_eq, nat_lt, Option, Some, None, refl, ap, sym, subst, ◌∙◌, ⊎_elim, arith}
use Rattle.std.specs.Prelude.{AllPairs, Contains, bytes_eq, count_by, option_and_then, option_map, position, slice_get}
use Rattle.std.specs.List.{filter_map, cons_option, list_all, list_any, prefix_len}
use Rattle.std.specs.Option.{option_map_or}
use Rattle.std.proofs.Math.ListN.{get_or-map}
use Rattle.std.proofs.lemmas.Bool.{cases_eq, eq-eqb, ne_eqb}
use Rattle.std.proofs.lemmas.List.{length-map, length-set}
use Rattle.std.proofs.lemmas.Option.{IfSome_then, slice_get-map, slice_get_within}
use Rattle.rl_names.specs.declared.row.Row.{Row}
use Rattle.rl_names.specs.declared.row.Dep.{Dep}
use Rattle.rl_names.specs.declared.row.Dep.TheVariants.{At, Named}
use Rattle.rl_view_spec.specs.Closure.{Text, Registered, dep_name, has_feature}
use Rattle.rl_view_spec.specs.Numbers.{number_of, number_of_dep, needed, needs_of}
use Rattle.rl_view_spec.specs.Progress.{Progress, is_skipped_at, is_done, HasDistinctNames}
use Rattle.rl_view_spec.proofs.ToolsLemmas.{all_each, each_all}
use Rattle.rl_registry.specs.Rows.{with_version}
use Rattle.rl_states.specs.declared.standing.Standing.{Standing}
use Rattle.rl_states.specs.Kept.{waits_of, needs_done, IsStanding, Spoils, IsTable}
use Rattle.rl_graph.specs.Graph.{marked}
use Rattle.rl_states.proofs.StandingsLemmas.{count_agree, same_places, set_place}

-- two registries whose rows need and skip the same
pub record AreAlike (r s : Registered) : Type 0 where
  pub long : length s.rows ≡ length r.rows
  pub distinct : HasDistinctNames s
  pub needs : (row : ℕ) → needs_of s row ≡ needs_of r row
  pub skips : (row : ℕ) → is_skipped_at s row ≡ is_skipped_at r row

-- ---- a registry with another version

abbrev replaced : Registered → ℕ → Row → Registered
replaced r k new = record r { rows = set r.rows k new }

-- what is asked of rows is answered as before, where the new row answers it as the old
asked : {X : Type 0} (f : Row → X) (rows : List Row) (k : ℕ) (old new : Row) (i : ℕ) → slice_get rows k ≡ Some old → f new ≡ f old →
    option_map f (slice_get (set rows k new) i) ≡ option_map f (slice_get rows i)
asked {X = X} f rows k old new i at e =
    ap (option_map f) (set_place rows k new i (slice_get_within rows k old at)) ∙ ⊎_elim (λ s. here s) (λ ne. there ne) (cases_eq i k)
  where
    here : i ≡ k → option_map f (cond (nat_eq i k) (Some new) (slice_get rows i)) ≡ option_map f (slice_get rows i)
    here s =
        ap (λ (b : Bool). option_map f (cond b (Some new) (slice_get rows i))) (eq-eqb i k s) ∙ ap Some e
        ∙ sym (ap (option_map f) (ap (slice_get rows) s ∙ at))

    there : (i ≡ k → ⊥) → option_map f (cond (nat_eq i k) (Some new) (slice_get rows i)) ≡ option_map f (slice_get rows i)
    there ne = ap (λ (b : Bool). option_map f (cond b (Some new) (slice_get rows i))) (ne_eqb i k ne)

map_or : {X : Type 0} (f : Row → X) (d : X) (o : Option Row) → option_map_or f o d ≡ option_map_or (λ (x : X). x) (option_map f o) d
map_or f d None = refl
map_or f d (Some row) = refl

asked_or : {X : Type 0} (f : Row → X) (d : X) (rows : List Row) (k : ℕ) (old new : Row) (i : ℕ) → slice_get rows k ≡ Some old → f new ≡ f old →
    option_map_or f (slice_get (set rows k new) i) d ≡ option_map_or f (slice_get rows i) d
asked_or {X = X} f d rows k old new i at e =
    map_or f d (slice_get (set rows k new) i) ∙ ap (λ (o : Option X). option_map_or (λ (x : X). x) o d) (asked f rows k old new i at e)
    ∙ sym (map_or f d (slice_get rows i))

names_same : (rows : List Row) (k : ℕ) (old new : Row) → slice_get rows k ≡ Some old → new.name ≡ old.name →
    map (λ (row : Row). row.name) (set rows k new) ≡ map (λ (row : Row). row.name) rows
names_same rows k old new at e = same_places (map (λ (row : Row). row.name) (set rows k new)) (map (λ (row : Row). row.name) rows) (λ i.
    slice_get-map (λ (row : Row). row.name) (set rows k new) i ∙ asked (λ (row : Row). row.name) rows k old new i at e
    ∙ sym (slice_get-map (λ (row : Row). row.name) rows i))

-- the place of a name depends on the names alone
position_of_names : (name : Text) (rows : List Row) → position (λ (row : Row). bytes_eq row.name name) rows
    ≡ position (λ (other : Text). bytes_eq other name) (map (λ (row : Row). row.name) rows)
position_of_names name rows =
    ap (λ (m : ℕ). cond (nat_lt m (length rows)) (Some m) None) (prefix rows)
    ∙ ap (λ (n : ℕ). cond (nat_lt (prefix_len (λ (other : Text). not (bytes_eq other name)) (map (λ (row : Row). row.name) rows)) n)
    (Some (prefix_len (λ (other : Text). not (bytes_eq other name)) (map (λ (row : Row). row.name) rows))) None)
    (sym (length-map rows (λ (row : Row). row.name)))
  where
    prefix : (rows : List Row) → prefix_len (λ (row : Row). not (bytes_eq row.name name)) rows
        ≡ prefix_len (λ (other : Text). not (bytes_eq other name)) (map (λ (row : Row). row.name) rows)
    prefix [] = refl
    prefix (row ∷ rows) = ap (λ (n : ℕ). cond (not (bytes_eq row.name name)) (1 + n) 0) (prefix rows)

number_same : (r : Registered) (k : ℕ) (old new : Row) (name : Text) → slice_get r.rows k ≡ Some old → new.name ≡ old.name →
    number_of (replaced r k new) name ≡ number_of r name
number_same r k old new name at e =
    position_of_names name (set r.rows k new) ∙ ap (position (λ (other : Text). bytes_eq other name)) (names_same r.rows k old new at e)
    ∙ sym (position_of_names name r.rows)

dep_same : (r : Registered) (k : ℕ) (old new : Row) (dep : Dep) → slice_get r.rows k ≡ Some old → new.name ≡ old.name →
    dep_name (replaced r k new) dep ≡ dep_name r dep
dep_same r k old new (At i) at e = asked (λ (row : Row). row.name) r.rows k old new i at e
dep_same r k old new (Named name) at e = refl

number_of_dep_same : (r : Registered) (k : ℕ) (old new : Row) (dep : Dep) → slice_get r.rows k ≡ Some old → new.name ≡ old.name →
    number_of_dep (replaced r k new) dep ≡ number_of_dep r dep
number_of_dep_same r k old new dep at e = ap (option_and_then (number_of (replaced r k new))) (dep_same r k old new dep at e) ∙ step (dep_name r dep)
  where
    step : (o : Option Text) → option_and_then (number_of (replaced r k new)) o ≡ option_and_then (number_of r) o
    step None = refl
    step (Some name) = number_same r k old new name at e

feature_same : (r : Registered) (k : ℕ) (new : Row) (skip : Option Text) → has_feature (replaced r k new) skip ≡ has_feature r skip
feature_same r k new None = refl
feature_same r k new (Some skip) = refl

filter_map_same : (f g : Dep → Option ℕ) (deps : List Dep) → ((dep : Dep) → f dep ≡ g dep) → filter_map f deps ≡ filter_map g deps
filter_map_same f g [] h = refl
filter_map_same f g (dep ∷ deps) h = ap (λ (o : Option ℕ). cons_option o (filter_map f deps)) (h dep)
    ∙ ap (cons_option (g dep)) (filter_map_same f g deps h)

needed_same : (r : Registered) (k : ℕ) (old new row : Row) → slice_get r.rows k ≡ Some old → new.name ≡ old.name →
    needed (replaced r k new) row ≡ needed r row
needed_same r k old new row at e =
    ap (λ (b : Bool). cond b [] (filter_map (number_of_dep (replaced r k new)) row.deps)) (feature_same r k new row.skip)
    ∙ ap (λ (ns : List ℕ). cond (has_feature r row.skip) [] ns)
    (filter_map_same (number_of_dep (replaced r k new)) (number_of_dep r) row.deps (λ dep. number_of_dep_same r k old new dep at e))

needs_same : (r : Registered) (k : ℕ) (old new : Row) (i : ℕ) → slice_get r.rows k ≡ Some old → new.name ≡ old.name →
    needed r new ≡ needed r old → needs_of (replaced r k new) i ≡ needs_of r i
needs_same r k old new i at e same = step (slice_get (set r.rows k new) i) ∙ asked_or (needed r) [] r.rows k old new i at same
  where
    step : (o : Option Row) → option_map_or (needed (replaced r k new)) o [] ≡ option_map_or (needed r) o []
    step None = refl
    step (Some row) = needed_same r k old new row at e

skips_same : (r : Registered) (k : ℕ) (old new : Row) (i : ℕ) → slice_get r.rows k ≡ Some old → new.skip ≡ old.skip →
    is_skipped_at (replaced r k new) i ≡ is_skipped_at r i
skips_same r k old new i at e = step (slice_get (set r.rows k new) i)
    ∙ asked_or (λ (row : Row). has_feature r row.skip) false r.rows k old new i at (ap (has_feature r) e)
  where
    step : (o : Option Row) → option_map_or (λ (row : Row). has_feature (replaced r k new) row.skip) o false
        ≡ option_map_or (λ (row : Row). has_feature r row.skip) o false
    step None = refl
    step (Some row) = feature_same r k new row.skip

distinct_same : (rows : List Row) (k : ℕ) (old new : Row) → slice_get rows k ≡ Some old → new.name ≡ old.name →
    AllPairs (λ (a b : Row). a.name ≢ b.name) rows → AllPairs (λ (a b : Row). a.name ≢ b.name) (set rows k new)
distinct_same rows k old new at e h = λ i j d low high same. h i j d low (omega (arith, high, length-set rows k new)) (name i d ∙ same ∙ sym (name j d))
  where
    name : (i : ℕ) (d : Row) → (get_or rows i d).name ≡ (get_or (set rows k new) i d).name
    name i d = sym (get_or-map (λ (row : Row). row.name) rows i d) ∙ ap (λ (ns : List Text). get_or ns i d.name) (sym (names_same rows k old new at e))
        ∙ get_or-map (λ (row : Row). row.name) (set rows k new) i d

pub version_alike : (r : Registered) (row : ℕ) (version : Text) → HasDistinctNames r → AreAlike r (with_version r row version)
version_alike r row version distinct = step (slice_get r.rows row) refl
  where
    step : (o : Option Row) → slice_get r.rows row ≡ o →
        AreAlike r (record r { rows = option_map_or (λ (found : Row). set r.rows row (record found { version = Some version })) o r.rows })
    step None e = record { long = refl; distinct = distinct; needs = λ i. refl; skips = λ i. refl }
    step (Some found) e = record {
      long = length-set r.rows row (record found { version = Some version });
      distinct = distinct_same r.rows row found (record found { version = Some version }) e refl distinct;
      needs = λ i. needs_same r row found (record found { version = Some version }) i e refl refl;
      skips = λ i. skips_same r row found (record found { version = Some version }) i e refl;
    }

-- ---- a table over an alike registry

pub kept_alike : (t : Progress) (s : Registered) (standings : List Standing) (users : List (List ℕ)) (marks : List Bool) → AreAlike t.registered s →
    IsTable t standings users marks → IsTable (record t { registered = s }) standings users marks
kept_alike t s standings users marks a k = record {
  few = omega (arith, a.long, k.few);
  distinct = a.distinct;
  long = k.long ∙ sym a.long;
  cells = k.cells;
  each = λ row standing at.
      let is : IsStanding t row standing = k.each row standing at in
      record { ran = is.ran; done = is.done ∙ sym (done row); waits = is.waits ∙ sym (waits row) };
  indexed = record {
    long = k.indexed.long ∙ sym a.long;
    each = λ row user low. k.indexed.each row user (omega (arith, a.long, low))
        ∙ ap (λ (xs : List ℕ). cond (nat_eq user row) 0 (count_by (nat_eq row) xs)) (sym (a.needs user));
  };
  spoiled = record {
    long = k.spoiled.long ∙ sym a.long;
    spoils = to (marked marks) k.spoiled.spoils;
    least = λ test h row m. k.spoiled.least test (from test h) row m;
  };
  counted = k.counted;
  inside = λ row h. omega (arith, a.long, k.inside row h);
  after = λ row h. after row (k.after row h);
  running = IfSome_then t.executing k.running (λ row m. record
      { inside = omega (arith, a.long, m.inside); kept = a.skips row ∙ m.kept; first = m.first; after = after row m.after });
}
  where
    done : (row : ℕ) → is_done (record t { registered = s }) row ≡ is_done t row
    done row = ap (λ (b : Bool). b || list_any (λ (run : ℕ × Bool). nat_eq run.0 row && not run.1) t.ran) (a.skips row)

    waits : (row : ℕ) → waits_of (record t { registered = s }) row ≡ waits_of t row
    waits row =
        ap (count_by (λ other. not (nat_eq other row || is_done (record t { registered = s }) other))) (a.needs row)
        ∙ count_agree (λ other. not (nat_eq other row || is_done (record t { registered = s }) other)) (λ other. not (nat_eq other row || is_done t other))
        (needs_of t.registered row)
        (λ other c. ap (λ (b : Bool). not (nat_eq other row || b)) (done other))

    after : (row : ℕ) → needs_done t row ≡ true → needs_done (record t { registered = s }) row ≡ true
    after row h =
        ap (list_all (λ other. nat_eq other row || is_done (record t { registered = s }) other)) (a.needs row)
        ∙ each_all (λ other. nat_eq other row || is_done (record t { registered = s }) other) (needs_of t.registered row)
        (λ other c. ap (λ (b : Bool). nat_eq other row || b) (done other)
        ∙ all_each (λ other. nat_eq other row || is_done t other) (needs_of t.registered row) other h c)

    to : (test : ℕ → Bool) → Spoils t test → Spoils (record t { registered = s }) test
    to test h = record {
      broken = λ row low b. h.broken row (omega (arith, a.long, low)) b;
      upward = λ row need c b. h.upward row need (subst (λ (xs : List ℕ). Contains xs need) (a.needs row) c) b;
    }

    from : (test : ℕ → Bool) → Spoils (record t { registered = s }) test → Spoils t test
    from test h = record {
      broken = λ row low b. h.broken row (omega (arith, a.long, low)) b;
      upward = λ row need c b. h.upward row need (subst (λ (xs : List ℕ). Contains xs need) (sym (a.needs row)) c) b;
    }
