-- Rows that may be written may be registered.
use Rattle.std.proofs.Common.{◌≡◌, List, [], ◌∷◌, Bool, true, ◌&&◌, Option, Some, None, refl, ap₂}
use Rattle.std.specs.Prelude.{is_some, nat_lt}
use Rattle.std.proofs.lemmas.Bool.{and_parts}
use Rattle.rl_names.specs.declared.row.Group.{Group}
use Rattle.rl_names.specs.declared.row.Group.TheVariants.{Plain, User, Private, Other}
use Rattle.rl_names.specs.declared.row.Row.{Row}
use Rattle.rl_view_spec.specs.Closure.{Text}
use Rattle.rl_view_spec.specs.Rows.{AreRegistrable, fits_group, has_own_group, has_version_unless_private, is_other_number}
use Rattle.rl_wire.specs.Startup as wire
use Rattle.rl_wire.specs.Startup.{AreWritable, is_writable}

group_fits : (group : Group) (version : Option Text) → wire.fits_group group version ≡ true
    → (fits_group version group ≡ true) × (is_other_number group ≡ true)
group_fits Plain version h = (h, refl)
group_fits User version h = (h, refl)
group_fits Private None h = (refl, refl)
group_fits Private (Some v) h = cc
group_fits (Other n) version h = let parts = and_parts (nat_lt 1 n) (is_some version) h in (parts.1, parts.0)

row_fits : (row : Row) → is_writable row ≡ true → (has_version_unless_private row ≡ true) × (has_own_group row ≡ true)
row_fits row h = group_fits row.group row.version
    (and_parts (wire.fits_group row.group row.version) _ (and_parts _ _ h).0).0

pub writable_registrable : (rows : List Row) → AreWritable rows → AreRegistrable rows
writable_registrable [] w = record { versions = refl; groups = refl }
writable_registrable (row ∷ rows) w =
    let here = row_fits row w.0 in
    let rest = writable_registrable rows w.1 in
    record {
      versions = ap₂ (λ (a b : Bool). a && b) here.0 rest.versions;
      groups = ap₂ (λ (a b : Bool). a && b) here.1 rest.groups;
    }
