-- What rows of a registry have, and how it changes.
use Rattle.std.specs.Prelude.{ℕ, Some, slice_get, slice_set}
use Rattle.std.specs.Option.{option_map_or}
use Rattle.rl_view_spec.specs.Closure.{Text, Registered}
use Rattle.rl_view_spec.specs.Versions.{AreAlike}

-- the registry, with this version of a row
abbrev pub with_version : Registered → ℕ → Text → Registered
with_version r row version =
    record r { rows = option_map_or (λ found. slice_set r.rows row (record found { version = Some version })) (slice_get r.rows row) r.rows }

-- a version changes nothing that requests and progress look at
abbrev pub VersionsChangeNothing : Type 0
VersionsChangeNothing = (r : Registered) (row : ℕ) (version : Text) → AreAlike (with_version r row version) r
