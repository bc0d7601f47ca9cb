use Rattle.std.proofs.Common.{◌≡◌, ℕ, [], ◌∷◌, List, Option, Some, None, length, map, replicate, refl, ap, ◌∙◌}
use Rattle.rl_names.specs.declared.name.Key.{Key}
use Rattle.rl_names.specs.declared.row.Row.{Row}
use Rattle.rl_view_spec.specs.Closure.{Text}
use Rattle.rl_drive.specs.Given.{execution_in}
use Rattle.rl_drive.specs.declared.given.Given.{Given}
use Rattle.rl_drive.proofs.given.nothing_given.Goals as goal

abbrev none_of : ℕ → List (Option Given)
none_of n = replicate n None

none_from : (P : Option Given → Type 0) → ((x : Given) → P (Some x) → ⊥) → (y : Option Given) → P y → y ≡ None
none_from P no' None h = refl
none_from P no' (Some x) h = absurd (no' x h)

nothing : (rows : List Row) → map execution_in (none_of (length rows)) ≡ map (λ row. None) rows
nothing [] = refl
nothing (row ∷ rows) = ap (λ (given : List (Option (Key × Text))). None ∷ given) (nothing rows)

pub returns-clause-given : goal.returns-clause-given
returns-clause-given c =
    ap (map execution_in) (c.in_ok-given.ensures.items_if_clones_equal (none_from _ (λ x e. e)) ∙ ap none_of c.count.ensures.value)
    ∙ nothing c.args.registry.now.rows
