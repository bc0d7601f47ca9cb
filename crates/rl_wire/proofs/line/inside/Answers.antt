use Rattle.std.proofs.Common.{◌≡◌, ◌≢◌, ◌++◌, ◌∷◌, [], ◌∙◌, ℕ, List, Option, Some, None, Bor, ap, sym, lit<}
use Rattle.std.specs.Prelude.{MatchOption, unwrap_or}
use Rattle.std.proofs.lemmas.List.{append_cancel_left, append_cancel_right}
use Rattle.std.proofs.lemmas.Str.Pattern.{strip_prefix_char, strip_suffix_char}
use Rattle.rl_wire.proofs.line.inside.Goals as goal

behind_first : (b : ℕ) (text inner : List ℕ) (r : Option (Bor (List ℕ))) (whole given : Bor (List ℕ))
    → MatchOption r ((rest : List ℕ) → text ≢ b ∷ rest) (λ x. text ≡ b ∷ x.now) → given ≡ unwrap_or r whole → text ≡ b ∷ inner → given.now ≡ inner
behind_first b text inner None whole given none e is = absurd (none inner is)
behind_first b text inner (Some x) whole given some e is =
    ap (λ (g : Bor (List ℕ)). g.now) e ∙ append_cancel_left (b ∷ []) x.now inner (sym some ∙ is)

before_last : (b : ℕ) (text inner : List ℕ) (r : Option (Bor (List ℕ))) (whole given : Bor (List ℕ))
    → MatchOption r ((front : List ℕ) → text ≢ front ++ (b ∷ [])) (λ x. text ≡ x.now ++ (b ∷ [])) → given ≡ unwrap_or r whole → text ≡ inner ++ b ∷ []
    → given.now ≡ inner
before_last b text inner None whole given none e is = absurd (none inner is)
before_last b text inner (Some x) whole given some e is =
    ap (λ (g : Bor (List ℕ)). g.now) e ∙ append_cancel_right x.now inner (b ∷ []) (sym some ∙ is)

pub returns : goal.returns
returns c = λ inner is.
    let rest = behind_first 91 c.args.array.now (inner ++ 93 ∷ []) c.strip_prefix.result c.args.array c.unwrap_or-rest.result
    (strip_prefix_char 91 c.args.array.now c.strip_prefix.result c.strip_prefix.ensures.cases (lit< tt)) c.unwrap_or-rest.ensures is in
    before_last 93 c.unwrap_or-rest.result.now inner c.strip_suffix.result c.unwrap_or-rest.result c.unwrap_or.result
    (strip_suffix_char 93 c.unwrap_or-rest.result.now c.strip_suffix.result c.strip_suffix.ensures.cases (lit< tt)) c.unwrap_or.ensures rest
