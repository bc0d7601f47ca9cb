-- A text that was added to in two steps.
use Rattle.std.proofs.Common.{◌≡◌, ℕ, List, [], ◌∷◌, ◌++◌, ap, ◌∙◌, append_assoc}
use Rattle.rl_wire.specs.Line.{line}

pub append_then : (o a rest o1 o2 : List ℕ) → o1 ≡ o ++ a → o2 ≡ o1 ++ rest → o2 ≡ o ++ (a ++ rest)
append_then o a rest o1 o2 first second = second ∙ ap (λ text. text ++ rest) first ∙ append_assoc o a rest

-- two lines, each with its end
pub two_lines : (first second o o1 o2 o3 o4 : List ℕ) → o ≡ [] → o1 ≡ o ++ first → o2 ≡ o1 ++ 10 ∷ [] → o3 ≡ o2 ++ second →
    o4 ≡ o3 ++ 10 ∷ [] → o4 ≡ line first ++ line second
two_lines first second o o1 o2 o3 o4 e e1 e2 e3 e4 =
    e4 ∙ ap (λ t. t ++ 10 ∷ []) (e3 ∙ ap (λ t. t ++ second) (e2 ∙ ap (λ t. t ++ 10 ∷ []) (e1 ∙ ap (λ t. t ++ first) e)))
    ∙ append_assoc (line first) second (10 ∷ [])
