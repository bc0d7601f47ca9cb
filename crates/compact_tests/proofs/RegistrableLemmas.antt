-- Rows that a registry takes are so after compaction.
use Rattle.std.proofs.Common.{◌≡◌, List, [], ◌∷◌, Bool, ◌&&◌, map, refl, ap₂, sym, subst, ◌∙◌}
use Rattle.std.specs.List.{list_all}
use Rattle.rl_names.specs.declared.row.Row.{Row}
use Rattle.rl_view_spec.specs.Rows.{has_version_unless_private, has_own_group, AreRegistrable}
use Rattle.rl_compact.specs.Compact.{compact_row, compacted}

-- a test that does not look at dependencies
all_kept : (p : Row → Bool) (all rows : List Row) → ((row : Row) → p (compact_row all row) ≡ p row)
    → list_all p (map (compact_row all) rows) ≡ list_all p rows
all_kept p all [] same = refl
all_kept p all (row ∷ rows) same = ap₂ (λ (a b : Bool). a && b) (same row) (all_kept p all rows same)

pub still_registrable : (rows left : List Row) → AreRegistrable rows → left ≡ compacted rows → AreRegistrable left
still_registrable rows left k e = subst (λ (rs : List Row). AreRegistrable rs) (sym e) (record {
  versions = all_kept has_version_unless_private rows rows (λ row. refl) ∙ k.versions;
  groups = all_kept has_own_group rows rows (λ row. refl) ∙ k.groups;
})
