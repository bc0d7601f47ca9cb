-- What a registry asks of its rows.
use Rattle.std.specs.Prelude.{List, Bool, true, false, is_some, is_none, nat_le, IsTrue, Option}
use Rattle.std.specs.List.{list_all}
use Rattle.rl_names.specs.declared.row.Row.{Row}
use Rattle.rl_names.specs.declared.row.Group.{Group}
use Rattle.rl_names.specs.declared.row.Group.TheVariants.{Plain, User, Private, Other}
use Rattle.rl_view_spec.specs.Closure.{Text}

-- a version stands exactly where the group is not private
abbrev pub fits_group : Option Text → Group → Bool
fits_group version Plain = is_some version
fits_group version User = is_some version
fits_group version Private = is_none version
fits_group version (Other number) = is_some version

abbrev pub has_version_unless_private : Row → Bool
has_version_unless_private row = fits_group row.version row.group

-- the numbers 0 and 1 are those of the groups that have a name
abbrev pub is_other_number : Group → Bool
is_other_number Plain = true
is_other_number User = true
is_other_number Private = true
is_other_number (Other number) = nat_le 2 number

abbrev pub has_own_group : Row → Bool
has_own_group row = is_other_number row.group

abbrev pub is_private : Group → Bool
is_private Private = true
is_private other = false

-- rows that a registry takes, unless they break a rule of its own
pub record AreRegistrable (rows : List Row) : Type 0 where
  pub versions : IsTrue (list_all has_version_unless_private rows)
  pub groups : IsTrue (list_all has_own_group rows)
