-- How the words of a title are put behind one another.
use Rattle.std.specs.Prelude.{ℕ, ◌++◌, ◌∷◌, [], List}

-- a text with one more word behind it
abbrev pub with_word : List ℕ → List ℕ → List ℕ
with_word [] word = word
with_word (b ∷ bs) [] = b ∷ bs
with_word (b ∷ bs) (c ∷ cs) = (b ∷ bs) ++ 32 ∷ c ∷ cs
