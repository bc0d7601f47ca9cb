-- Putting words behind one another joins those that are not empty.
use Rattle.std.proofs.Common.{◌≡◌, ℕ, List, [], ◌∷◌, ◌++◌, refl, ◌∙◌}
use Rattle.std.specs.Prelude.{filter, fold}
use Rattle.std.specs.List.{join_with_byte}
use Rattle.std.proofs.lemmas.List.{append_assoc}
use Rattle.rl_names.specs.Spacing.{with_word}
use Rattle.rl_names.specs.Title.{is_filled}

joined_more : (text word : List ℕ) (rest : List (List ℕ)) →
    join_with_byte 32 ((text ++ 32 ∷ word) ∷ rest) ≡ join_with_byte 32 (text ∷ word ∷ rest)
joined_more text word [] = refl
joined_more text word (next ∷ rest) = append_assoc text (32 ∷ word) (32 ∷ join_with_byte 32 (next ∷ rest))

joined_from : (text : List ℕ) (parts : List (List ℕ)) → fold with_word text parts ≡ join_with_byte 32 (filter is_filled (text ∷ parts))
joined_from [] [] = refl
joined_from (b ∷ bs) [] = refl
joined_from [] (part ∷ parts) = joined_from part parts
joined_from (b ∷ bs) ([] ∷ parts) = joined_from (b ∷ bs) parts
joined_from (b ∷ bs) ((c ∷ cs) ∷ parts) = joined_from ((b ∷ bs) ++ 32 ∷ c ∷ cs) parts ∙ joined_more (b ∷ bs) (c ∷ cs) (filter is_filled parts)

pub joined : (parts : List (List ℕ)) → fold with_word [] parts ≡ join_with_byte 32 (filter is_filled parts)
joined parts = joined_from [] parts
