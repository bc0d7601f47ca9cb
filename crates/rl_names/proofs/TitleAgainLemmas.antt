-- Words with one space between are the words that they are cut into again.
use Rattle.std.proofs.Common.{◌≡◌, ℕ, Bool, true, false, cond, List, [], ◌∷◌, ◌++◌, refl, sym, ap, ◌∙◌, Some}
use Rattle.std.specs.Prelude.{filter, flat_map}
use Rattle.std.specs.List.{AllByRecursion, join_with_byte, list_any, onto_first, slice_split}
use Rattle.std.specs.Str.{IsUtf8}
use Rattle.std.proofs.lemmas.Bool.{or_from, or_parts}
use Rattle.std.proofs.lemmas.List.{append-nil}
use Rattle.rl_names.proofs.PackingLemmas.{join_none, split_join}
use Rattle.rl_names.proofs.TitleLemmas.{title_spelt, user_name_spelt}
use Rattle.rl_names.specs.Title.{is_filled, is_space, is_title, is_underscore, is_user_name, spaced, title_of, user_name_of, words}

-- ---- the parts of a text

-- a part without these bytes
abbrev Without : (ℕ → Bool) → List ℕ → Type 0
Without p part = list_any p part ≡ false

onto_without : (p : ℕ → Bool) (b : ℕ) (parts : List (List ℕ)) → p b ≡ false → AllByRecursion (Without p) parts →
    AllByRecursion (Without p) (onto_first b parts)
onto_without p b [] h a = (or_from (p b) false h refl, tt)
onto_without p b (part ∷ parts) h a = (or_from (p b) (list_any p part) h a.0, a.1)

cut_step : (p : ℕ → Bool) (v : Bool) (b : ℕ) (parts : List (List ℕ)) → p b ≡ v → AllByRecursion (Without p) parts →
    AllByRecursion (Without p) (cond v ([] ∷ parts) (onto_first b parts))
cut_step p true b parts e a = (refl, a)
cut_step p false b parts e a = onto_without p b parts e a

-- a text is cut at every byte that passes
cut_everywhere : (p : ℕ → Bool) (bs : List ℕ) → AllByRecursion (Without p) (slice_split p bs)
cut_everywhere p [] = (refl, tt)
cut_everywhere p (b ∷ bs) = cut_step p (p b) b (slice_split p bs) refl (cut_everywhere p bs)

kept_step : (p q : ℕ → Bool) (v : Bool) (b : ℕ) (parts : List (List ℕ)) → q b ≡ false → AllByRecursion (Without q) parts →
    AllByRecursion (Without q) (cond v ([] ∷ parts) (onto_first b parts))
kept_step p q true b parts e a = (refl, a)
kept_step p q false b parts e a = onto_without q b parts e a

-- and its parts have no byte that it has not
still_without : (p q : ℕ → Bool) (bs : List ℕ) → Without q bs → AllByRecursion (Without q) (slice_split p bs)
still_without p q [] h = (refl, tt)
still_without p q (b ∷ bs) h =
    let parts = or_parts (q b) (list_any q bs) h in
    kept_step p q (p b) b (slice_split p bs) parts.0 (still_without p q bs parts.1)

-- ---- words

all_append : (P : List ℕ → Type 0) (xs ys : List (List ℕ)) → AllByRecursion P xs → AllByRecursion P ys → AllByRecursion P (xs ++ ys)
all_append P [] ys a b = b
all_append P (x ∷ xs) ys a b = (a.0, all_append P xs ys a.1 b)

spaceless : (parts : List (List ℕ)) → AllByRecursion (Without is_space) (flat_map (slice_split is_space) parts)
spaceless [] = tt
spaceless (part ∷ parts) = all_append (Without is_space) (slice_split is_space part) (flat_map (slice_split is_space) parts) (cut_everywhere is_space part)
    (spaceless parts)

underscoreless : (parts : List (List ℕ)) → AllByRecursion (Without is_underscore) parts →
    AllByRecursion (Without is_underscore) (flat_map (slice_split is_space) parts)
underscoreless [] a = tt
underscoreless (part ∷ parts) a =
    all_append (Without is_underscore) (slice_split is_space part) (flat_map (slice_split is_space) parts) (still_without is_space is_underscore part a.0)
    (underscoreless parts a.1)

filled_step : (P : List ℕ → Type 0) (v : Bool) (x : List ℕ) (xs : List (List ℕ)) → P x → AllByRecursion P xs →
    AllByRecursion P (cond v (x ∷ xs) xs)
filled_step P true x xs h a = (h, a)
filled_step P false x xs h a = a

filled_all : (P : List ℕ → Type 0) (xs : List (List ℕ)) → AllByRecursion P xs → AllByRecursion P (filter is_filled xs)
filled_all P [] a = tt
filled_all P (x ∷ xs) a = filled_step P (is_filled x) x (filter is_filled xs) a.0 (filled_all P xs a.1)

filled_twice : (xs : List (List ℕ)) → filter is_filled (filter is_filled xs) ≡ filter is_filled xs
filled_twice [] = refl
filled_twice ([] ∷ xs) = filled_twice xs
filled_twice ((b ∷ bs) ∷ xs) = ap (λ l. (b ∷ bs) ∷ l) (filled_twice xs)

-- ---- the words of joined words

whole : (bs : List ℕ) → Without is_underscore bs → slice_split is_underscore bs ≡ bs ∷ []
whole bs h = split_join is_underscore 95 bs [] refl (h, tt)

words_joined : (ws : List (List ℕ)) → AllByRecursion (Without is_space) ws → AllByRecursion (Without is_underscore) ws → filter is_filled ws ≡ ws →
    words (join_with_byte 32 ws) ≡ ws
words_joined [] s u f = refl
words_joined (w ∷ ws) s u f =
    let one : slice_split is_underscore (join_with_byte 32 (w ∷ ws)) ≡ join_with_byte 32 (w ∷ ws)
    ∷ [] = whole (join_with_byte 32 (w ∷ ws)) (join_none is_underscore 32 (w ∷ ws) refl u) in
    ap (λ l. filter is_filled (flat_map (slice_split is_space) l)) one
    ∙ ap (λ l. filter is_filled (l ++ [])) (split_join is_space 32 w ws refl s)
    ∙ ap (filter is_filled) (append-nil (w ∷ ws))
    ∙ f

-- what is spaced is spaced already
pub spaced_again : (bytes : List ℕ) → spaced (spaced bytes) ≡ spaced bytes
spaced_again bytes =
    let parts = flat_map (slice_split is_space) (slice_split is_underscore bytes) in
    let s = filled_all (Without is_space) parts (spaceless (slice_split is_underscore bytes)) in
    let u = filled_all (Without is_underscore) parts (underscoreless (slice_split is_underscore bytes) (cut_everywhere is_underscore bytes)) in
    ap (join_with_byte 32) (words_joined (words bytes) s u (filled_twice parts))

pub title_again : (bytes text : List ℕ) → IsUtf8 text → spaced bytes ≡ text → is_title text ≡ true → title_of text ≡ Some text
title_again bytes text utf8 e h = title_spelt text text utf8 (ap spaced (sym e) ∙ spaced_again bytes ∙ e) h

pub user_name_again : (bytes text : List ℕ) → IsUtf8 text → spaced bytes ≡ text → is_user_name text ≡ true → user_name_of text ≡ Some text
user_name_again bytes text utf8 e h = user_name_spelt text text utf8 (ap spaced (sym e) ∙ spaced_again bytes ∙ e) h
