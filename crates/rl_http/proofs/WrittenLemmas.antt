-- One piece written after another.
use Rattle.std.proofs.Common.{◌≡◌, ℕ, ◌+◌, ◌≤◌, List, ◌++◌, length, take, drop, Option, Some, None, refl, ap, sym, ◌∙◌}
use Rattle.std.proofs.Common.{append_assoc, arith, take-add, ◌-◌}
use Rattle.std.proofs.lemmas.Grind.{common_steps}
use Rattle.rl_base.specs.Written.{appended}

pub appended-appended : (old : Option (List ℕ)) (a b : List ℕ) → appended (appended old a) b ≡ appended old (a ++ b)
appended-appended None a b = refl
appended-appended (Some w) a b = ap Some (append_assoc w a b)

-- a piece taken from what is left goes on with the front
pub appended_more : (old : Option (List ℕ)) (text : List ℕ) (at count : ℕ)
    → appended (appended old (take at text)) (take count (drop at text)) ≡ appended old (take (at + count) text)
appended_more old text at count = appended-appended old (take at text) (take count (drop at text)) ∙ ap (appended old) (sym (take-add at count text))

pub appended_piece : (old mid new : Option (List ℕ)) (text : List ℕ) (at count : ℕ)
    → mid ≡ appended old (take at text) → count ≤ length (take (length text - at) (drop at text))
    → new ≡ appended mid (take count (take (length text - at) (drop at text))) → new ≡ appended old (take (at + count) text)
appended_piece old mid new text at count e h n =
    n ∙ ap (λ m. appended m (take count (take (length text - at) (drop at text)))) e
    ∙ ap (appended (appended old (take at text))) (front (drop at text) (length text - at) count h)
    ∙ appended_more old text at count
  where
    front : (xs : List ℕ) (n count : ℕ) → count ≤ length (take n xs) → take count (take n xs) ≡ take count xs
    front xs n count h = grind (arith, common_steps)
