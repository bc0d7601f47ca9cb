-- Versions change nothing that resolution looks at.
use Rattle.std.proofs.Common.{◌≡◌, ◌≢◌, ℕ, ◌<◌, List, [], ◌∷◌, Bool, true, length, map, get_or, nat_lt, ◌+◌, Option, Some, None}
use Rattle.std.proofs.Common.{refl, ap, sym, subst, ◌∙◌, arith}
use Rattle.std.specs.Prelude.{AllPairs, IsPermutation, slice_get, slice_set, option_map}
use Rattle.std.specs.List.{list_all, range_with_len}
use Rattle.std.specs.Option.{option_map_or}
use Rattle.std.specs.Ordering.{nat_cmp, is_lt}
use Rattle.std.specs.Cmp.Lexicographic.{slice_cmp}
use Rattle.std.proofs.Math.Seq.{map-set_same}
use Rattle.std.proofs.lemmas.List.{length-map}
use Rattle.std.proofs.Math.ListN.{get_or-map}
use Rattle.std.proofs.lemmas.Option.{slice_get-map, slice_get_within, slice_get-get_or, get_or_from_slice_get}
use Rattle.rl_names.specs.declared.row.Row.{Row}
use Rattle.rl_names.specs.declared.row.Dep.{Dep}
use Rattle.rl_names.specs.declared.row.Dep.TheVariants.{At, Named}
use Rattle.rl_view_spec.specs.Closure.{Text, Registered, has_feature}
use Rattle.rl_view_spec.specs.Direct.{is_within}
use Rattle.rl_view_spec.specs.Numbers.{needed}
use Rattle.rl_view_spec.proofs.ToolsLemmas.{all_each, each_all}
use Rattle.rl_view_spec.specs.Versions.{without_version, without_versions}
use Rattle.rl_view_spec.proofs.VersionsLemmas.{alike_but_for_versions, feature_bare, needed_bare}
use Rattle.rl_registry.specs.Rows.{VersionsChangeNothing, with_version}
use Rattle.rl_rows.specs.Edges.{HasDepsWithin}
use Rattle.rl_rows.specs.Index.{name_in, IsIndex}
use Rattle.rl_registry.specs.Kept.{IsKept}

versioned : (r : Registered) (k : ℕ) (version : Text) (found : Row) → slice_get r.rows k ≡ Some found →
    with_version r k version ≡ record r { rows = slice_set r.rows k (record found { version = Some version }) }
versioned r k version found e = ap (λ (o : Option Row). record r
    { rows = option_map_or (λ found. slice_set r.rows k (record found { version = Some version })) o r.rows }) e

pub bare_versioned : (r : Registered) (k : ℕ) (version : Text) → without_versions (with_version r k version) ≡ without_versions r
bare_versioned r k version = step (slice_get r.rows k) refl
  where
    step : (o : Option Row) → slice_get r.rows k ≡ o → without_versions (with_version r k version) ≡ without_versions r
    step None e = ap (λ (o : Option Row). without_versions (record r
        { rows = option_map_or (λ found. slice_set r.rows k (record found { version = Some version })) o r.rows })) e
    step (Some found) e =
        ap without_versions (versioned r k version found e)
        ∙ ap (λ (rows : List Row). record r { rows = rows })
        (map-set_same without_version r.rows k (record found { version = Some version }) found
        (ap without_version (sym (get_or_from_slice_get r.rows k found found e))))

all_needed_bare : (r : Registered) (rows : List Row) → map (needed (without_versions r)) (map without_version rows) ≡ map (needed r) rows
all_needed_bare r [] = refl
all_needed_bare r (row ∷ rows) = rw (needed_bare r row, all_needed_bare r rows) refl

-- rows that are alike but for their versions, place by place
row_kept : (rs ss : List Row) → map without_version rs ≡ map without_version ss → (i : ℕ) (d : Row) →
    without_version (get_or rs i d) ≡ without_version (get_or ss i d)
row_kept rs ss e i d = sym (get_or-map without_version rs i d) ∙ ap (λ (xs : List Row). get_or xs i (without_version d)) e
    ∙ get_or-map without_version ss i d

long_kept : (rs ss : List Row) → map without_version rs ≡ map without_version ss → length rs ≡ length ss
long_kept rs ss e = sym (length-map rs without_version) ∙ ap length e ∙ length-map ss without_version

distinct_kept : (rs ss : List Row) → map without_version rs ≡ map without_version ss → AllPairs (λ a b. a.name ≢ b.name) rs →
    AllPairs (λ a b. a.name ≢ b.name) ss
distinct_kept rs ss e distinct = λ i j d low high same.
    distinct i j d low (omega (arith, high, long_kept rs ss e))
    (ap (λ row. row.name) (row_kept rs ss e i d) ∙ same ∙ ap (λ row. row.name) (sym (row_kept rs ss e j d)))

is_within_kept : (r s : Registered) (dep : Dep) → length r.rows ≡ length s.rows → is_within r dep ≡ true → is_within s dep ≡ true
is_within_kept r s (At number) e h = ap (nat_lt number) (sym e) ∙ h
is_within_kept r s (Named name) e h = refl

within_kept : (r s : Registered) → map without_version r.rows ≡ map without_version s.rows → HasDepsWithin r → HasDepsWithin s
within_kept r s e within = λ k found there.
    let low : k < length s.rows = slice_get_within s.rows k found there in
    let is : get_or s.rows k found ≡ found = get_or_from_slice_get s.rows k found found there in
    let here : slice_get r.rows k ≡ Some (get_or r.rows k found) = slice_get-get_or r.rows k found (omega (arith, low, long_kept r.rows s.rows e)) in
    let deps : (get_or r.rows k found).deps ≡ found.deps = ap (λ row. row.deps) (row_kept r.rows s.rows e k found) ∙ ap (λ row. row.deps) is in
    each_all (is_within s) found.deps (λ dep c.
    is_within_kept r s dep (long_kept r.rows s.rows e)
    (all_each (is_within r) found.deps dep (subst (λ (ds : List Dep). list_all (is_within r) ds ≡ true) deps (within k (get_or r.rows k found) here)) c))

skips_bare : (r : Registered) (rows : List Row) → map (λ row. has_feature (without_versions r) row.skip) (map without_version rows)
    ≡ map (λ row. has_feature r row.skip) rows
skips_bare r [] = refl
skips_bare r (row ∷ rows) = rw (feature_bare r row.skip, skips_bare r rows) refl

-- an index is one of the names alone
name_kept : (rs ss : List Row) → map without_version rs ≡ map without_version ss → (k : ℕ) → name_in rs k ≡ name_in ss k
name_kept rs ss e k = step rs k ∙ ap (λ (xs : List Row). name_in xs k) e ∙ sym (step ss k)
  where
    step : (xs : List Row) (k : ℕ) → name_in xs k ≡ name_in (map without_version xs) k
    step xs k = last (slice_get xs k) ∙ ap (λ (o : Option Row). option_map_or (λ found. found.name) o []) (sym (slice_get-map without_version xs k))
      where
        last : (o : Option Row) → option_map_or (λ found. found.name) o [] ≡ option_map_or (λ found. found.name) (option_map without_version o) []
        last None = refl
        last (Some row) = refl

index_kept : (rs ss : List Row) (order : List ℕ) → map without_version rs ≡ map without_version ss → IsIndex rs order → IsIndex ss order
index_kept rs ss order e i = record {
  shuffled = subst (λ (n : ℕ). IsPermutation (range_with_len 0 n) order) (long_kept rs ss e) i.shuffled;
  sorted = λ k d low high.
      ap (λ (x : Text). is_lt (slice_cmp nat_cmp x (name_in ss (get_or order k d)))) (sym (name_kept rs ss e (get_or order (k + 1) d)))
      ∙ ap (λ (x : Text). is_lt (slice_cmp nat_cmp (name_in rs (get_or order (k + 1) d)) x)) (sym (name_kept rs ss e (get_or order k d)))
      ∙ i.sorted k d low high;
}

-- so a new version leaves what a registry keeps
pub kept_versioned : (r : Registered) (order : List ℕ) (skips : List Bool) (edges : List (List ℕ)) (k : ℕ) (version : Text) →
    IsKept r order skips edges → IsKept (with_version r k version) order skips edges
kept_versioned r order skips edges k version kept =
    let s : Registered = with_version r k version in
    let same : without_versions s ≡ without_versions r = bare_versioned r k version in
    let rows : map without_version r.rows ≡ map without_version s.rows = ap (λ (q : Registered). q.rows) (sym same) in
    record {
      few = omega (arith, kept.few, long_kept r.rows s.rows rows);
      within = within_kept r s rows kept.within;
      index = index_kept r.rows s.rows order rows kept.index;
      skips_are = kept.skips_are ∙ sym (skips_bare r r.rows) ∙ ap (λ (q : Registered). map (λ row. has_feature q row.skip) q.rows) (sym same)
          ∙ skips_bare s s.rows;
      has_edges = record {
        distinct = distinct_kept r.rows s.rows rows kept.has_edges.distinct;
        edges_are = kept.has_edges.edges_are ∙ sym (all_needed_bare r r.rows) ∙ ap (λ (q : Registered). map (needed q) q.rows) (sym same)
            ∙ all_needed_bare s s.rows;
      };
    }

-- the row that is read is replaced
pub versioned_at : (r : Registered) (k : ℕ) (version : Text) (found : Row) → k < length r.rows → found ≡ get_or r.rows k found →
    with_version r k version ≡ record r { rows = slice_set r.rows k (record found { version = Some version }) }
versioned_at r k version found low is = versioned r k version found (slice_get-get_or r.rows k found low ∙ ap Some (sym is))

pub versions_change_nothing : VersionsChangeNothing
versions_change_nothing r row version = alike_but_for_versions (with_version r row version) r (bare_versioned r row version)
