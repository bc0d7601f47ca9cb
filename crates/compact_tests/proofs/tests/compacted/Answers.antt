use Rattle.std.proofs.Common.{◌≡◌, ℕ, List, Bool, false, Option, None, Some, Bor, ap, refl, subst, sym, ◌∙◌}
use Rattle.std.specs.Prelude.{is_some, option_map, slice_get}
use Rattle.rl_names.specs.declared.row.Row.{Row}
use Rattle.rl_view_spec.specs.Breach.{bad_indexes, repeated}
use Rattle.rl_view_spec.specs.Closure.{least}
use Rattle.rl_view_spec.proofs.ResolveLemmas.{least_none}
use Rattle.rl_rows.specs.Edges.{HasDepsWithin}
use Rattle.rl_rows.specs.Index.{AreDistinct}
use Rattle.rl_rows.proofs.RowsReadLemmas.{distinct_from_once, within_from_indexes}
use Rattle.rl_compact.specs.Compact.{plain}
use Rattle.compact_tests.proofs.RegistrableLemmas.{still_registrable}
use Rattle.compact_tests.proofs.tests.compacted.Goals as goal

none_if : {X : Type 0} (o : Option X) (b : Bool) → b ≡ is_some o → b ≡ false → o ≡ None
none_if None b e h = refl
none_if (Some x) b e h = cc

distinct : (rows seen : List Row) (found : Option (Bor (List ℕ))) (b : Bool) → seen ≡ rows → option_map (λ name. name.now) found ≡ least (repeated seen)
    → b ≡ is_some found → b ≡ false → AreDistinct rows
distinct rows seen found b e told is off =
    subst (λ (rs : List Row). AreDistinct rs) e
    (distinct_from_once seen (least_none (repeated seen) (sym told ∙ ap (option_map (λ (name : Bor (List ℕ)). name.now)) (none_if found b is off))))

within : (rows seen : List Row) (found : Option (ℕ × ℕ)) (b : Bool) → seen ≡ rows → found ≡ slice_get (bad_indexes seen) 0 → b ≡ is_some found
    → b ≡ false → HasDepsWithin (plain rows)
within rows seen found b e told is off =
    subst (λ (rs : List Row). HasDepsWithin (plain rs)) e (within_from_indexes (plain seen) (sym told ∙ none_if found b is off))

pub compact-requires-clause-distinct : goal.compact-requires-clause-distinct
compact-requires-clause-distinct c =
    distinct c.args.rows.items c.as_slice-2.result.now c.least_repeated.result c.is_some.result c.as_slice-2.ensures.value c.least_repeated.ensures
    c.is_some.ensures c.if-is_some.false

pub compact-requires-clause-within : goal.compact-requires-clause-within
compact-requires-clause-within c =
    within c.args.rows.items c.as_slice-4.result.now c.first_bad_index.result c.is_some-2.result c.as_slice-4.ensures.value c.first_bad_index.ensures
    c.is_some-2.ensures c.if-is_some-2.false

pub returns : goal.returns
returns c = still_registrable c.args.rows.items c.in_ok-compact.field-0.items c.requires c.in_ok-compact.ensures
