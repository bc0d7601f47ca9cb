-- Characters that are shown one after another.
use Rattle.std.proofs.Common.{◌≡◌, ℕ, ◌-◌, ◌<◌, ◌≤◌, List, [], ◌∷◌, ◌++◌, length, refl, ap, sym, ◌∙◌, append-nil}
use Rattle.std.specs.Prelude.{if◌then◌else◌, encode_utf8}
use Rattle.std.specs.Char.{len_utf8}
use Rattle.std.specs.Str.{IsUtf8, chars}
use Rattle.std.proofs.lemmas.Bool.{lt-ltb, le-ltb}
use Rattle.std.proofs.lemmas.List.{nil_from_length}
use Rattle.std.proofs.lemmas.Str.{chars_past_char, chars-nil}
use Rattle.rl_view_spec.specs.Closure.{Text}
use Rattle.rl_cli.specs.Spelt.{spelt_char, spelt_within}

with_room : (room c : ℕ) (cs : List ℕ) → len_utf8 c ≤ room → spelt_within room (c ∷ cs) ≡ spelt_char c ++ spelt_within (room - len_utf8 c) cs
unfolding spelt_within
with_room room c cs h = ap (λ b. if b then 226 ∷ 128 ∷ 166 ∷ [] else spelt_char c ++ spelt_within (room - len_utf8 c) cs) (le-ltb room (len_utf8 c) h)

without_room : (room c : ℕ) (cs : List ℕ) → room < len_utf8 c → spelt_within room (c ∷ cs) ≡ 226 ∷ 128 ∷ 166 ∷ []
unfolding spelt_within
without_room room c cs h = ap (λ b. if b then 226 ∷ 128 ∷ 166 ∷ [] else spelt_char c ++ spelt_within (room - len_utf8 c) cs) (lt-ltb room (len_utf8 c) h)

none_left : (room : ℕ) → spelt_within room [] ≡ []
unfolding spelt_within
none_left room = refl

-- the next character, where it has room
pub shown_next : (so_far all : Text) (room len c : ℕ) (rest later : Text) → IsUtf8 rest → rest ≡ encode_utf8 c ++ later → len ≡ len_utf8 c →
    len ≤ room
    → so_far ++ spelt_within room (chars rest) ≡ all → so_far ++ (spelt_char c ++ spelt_within (room - len) (chars later)) ≡ all
shown_next so_far all room len c rest later utf8 parts size h before =
    let fits : len_utf8 c ≤ room = rw (sym size) h in
    ap (λ (n : ℕ). so_far ++ (spelt_char c ++ spelt_within (room - n) (chars later))) size
    ∙ (ap (λ (t : Text). so_far ++ t) (sym (ap (spelt_within room) (chars_past_char rest later c utf8 parts) ∙ with_room room c (chars later) fits))
    ∙ before)

-- the next character, where it has none
pub shown_cut : (so_far all : Text) (room len c : ℕ) (rest later : Text) → IsUtf8 rest → rest ≡ encode_utf8 c ++ later → len ≡ len_utf8 c →
    room < len
    → so_far ++ spelt_within room (chars rest) ≡ all → so_far ++ 226 ∷ 128 ∷ 166 ∷ [] ≡ all
shown_cut so_far all room len c rest later utf8 parts size h before =
    let wide : room < len_utf8 c = rw (sym size) h in
    ap (λ (t : Text). so_far ++ t) (sym (ap (spelt_within room) (chars_past_char rest later c utf8 parts) ∙ without_room room c (chars later) wide))
    ∙ before

-- no character is left
pub shown_all : (so_far all : Text) (room : ℕ) (rest : Text) → length rest ≡ 0 → so_far ++ spelt_within room (chars rest) ≡ all → so_far ≡ all
shown_all so_far all room rest h before =
    let none : chars rest ≡ [] = ap chars (nil_from_length rest h) ∙ chars-nil in
    sym (ap (λ (t : Text). so_far ++ t) (ap (spelt_within room) none ∙ none_left room) ∙ append-nil so_far) ∙ before
