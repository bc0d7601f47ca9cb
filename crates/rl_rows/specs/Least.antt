-- The least of texts, found one by one.
use Rattle.std.specs.Prelude.{List, [], ◌∷◌, Option, Some}
use Rattle.rl_view_spec.specs.Closure.{Text, lesser}

-- the least of the texts and of the one found before, if there is one
abbrev pub least_from : Option Text → List Text → Option Text
least_from found [] = found
least_from found (text ∷ texts) = least_from (Some (lesser text found)) texts
