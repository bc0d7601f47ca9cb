-- What a map from texts to places says of a text.
use Rattle.std.specs.Prelude.{ℕ, List, Option}
use Rattle.std.specs.BTreeMap.{BTreeMap, get_by}
use Rattle.std.specs.Ordering.{nat_cmp}
use Rattle.std.specs.Cmp.Lexicographic.{slice_cmp}
use Rattle.std.specs.Borrow.{Bor}

abbrev pub place_by : BTreeMap (Bor (List ℕ)) ℕ → List ℕ → Option ℕ
place_by places text = get_by (λ k. slice_cmp nat_cmp text k.now) places
