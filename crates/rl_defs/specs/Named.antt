-- The names that the values of one kind have.
use Rattle.std.specs.Prelude.{ℕ, List}
use Rattle.std.specs.List.{AllByRecursion}
use Rattle.std.specs.Str.{IsUtf8}
use Rattle.rl_defs.specs.Ascending.{IsAscending}

-- texts that ascend
pub record AreNames (names : List (List ℕ)) : Type 0 where
  pub ascend : IsAscending names
  pub texts : AllByRecursion IsUtf8 names
