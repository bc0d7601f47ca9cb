-- An answer, line by line.
use Rattle.std.proofs.Common.{◌≡◌, ◌≢◌, ℕ, ◌+◌, Bool, true, false, not, List, [], ◌∷◌, ◌++◌, length, Option, Some, None, Result, Ok}
use Rattle.std.proofs.Common.{Err, refl, sym, ap, ◌∙◌, subst, arith, append_assoc}
use Rattle.std.specs.List.{AllByRecursion, slice_split, join_with_byte}
use Rattle.std.proofs.lemmas.Bool.{and_parts}
use Rattle.std.proofs.lemmas.List.Splits.{join_with_byte-slice_split}
use Rattle.rl_wire.specs.declared.part.Part.{Part}
use Rattle.rl_wire.specs.Line.{line, part_text, wire_text, IsPart}
use Rattle.rl_wire.specs.Arguments.{is_line_end}
use Rattle.rl_wire.specs.Reading.{part_in, and_more, said_by, parts_from, of_lines, answer_of, IsBad, AnswersSayParts}
use Rattle.rl_wire.proofs.PlainLemmas.{no_end}
use Rattle.rl_wire.proofs.SaidLemmas.{written, alone, no_end-part}

-- ---- cutting at line ends

abbrev pub cut : List ℕ → List (List ℕ)
cut bytes = slice_split is_line_end bytes

split_step : (x : ℕ) (xs : List ℕ) (text : List ℕ) (texts : List (List ℕ)) → is_line_end x ≡ false → cut xs ≡ text ∷ texts →
    cut (x ∷ xs) ≡ (x ∷ text) ∷ texts
split_step x xs text texts e is = rw (e, is) refl

no_end_first : (x : ℕ) (xs : List ℕ) → no_end (x ∷ xs) ≡ true → (is_line_end x ≡ false) × (no_end xs ≡ true)
no_end_first x xs h = let p = and_parts _ _ h in (not_true (is_line_end x) p.0, p.1)
  where
    not_true : (b : Bool) → not b ≡ true → b ≡ false
    not_true true h = absurd (cc)
    not_true false h = refl

pub split_at_end : (text rest : List ℕ) → no_end text ≡ true → cut (text ++ 10 ∷ rest) ≡ text ∷ cut rest
split_at_end [] rest h = refl
split_at_end (x ∷ xs) rest h = let p = no_end_first x xs h in split_step x (xs ++ 10 ∷ rest) xs (cut rest) p.0 (split_at_end xs rest p.1)

-- there is a first line
pub first_line : (bytes : List ℕ) → (text : List ℕ) × (texts : List (List ℕ)) × (cut bytes ≡ text ∷ texts)
first_line [] = ([], [], refl)
first_line (x ∷ xs) = cases (is_line_end x) refl (first_line xs)
  where
    cases : (b : Bool) → is_line_end x ≡ b → (text : List ℕ) × (texts : List (List ℕ)) × (cut xs ≡ text ∷ texts) →
        (text : List ℕ) × (texts : List (List ℕ)) × (cut (x ∷ xs) ≡ text ∷ texts)
    cases true e (text, texts, is) = ([], cut xs, rw e refl)
    cases false e (text, texts, is) = (x ∷ text, texts, split_step x xs text texts e is)

-- no line has an end inside
unfoldable pub AreLines : List (List ℕ) → Type 0
AreLines texts = AllByRecursion (λ (text : List ℕ). no_end text ≡ true) texts

pub lines_of : (bytes : List ℕ) → AreLines (cut bytes)
unfolding AreLines
lines_of [] = (refl, tt)
lines_of (x ∷ xs) = cases (is_line_end x) refl (first_line xs) (lines_of xs)
  where
    onto : (text : List ℕ) → is_line_end x ≡ false → no_end text ≡ true → no_end (x ∷ text) ≡ true
    onto text e h = rw (e, h) refl

    cases : (b : Bool) → is_line_end x ≡ b → (text : List ℕ) × (texts : List (List ℕ)) × (cut xs ≡ text ∷ texts) → AreLines (cut xs) →
        AreLines (cut (x ∷ xs))
    cases true e (text, texts, is) all = rw e (refl, all)
    cases false e (text, texts, is) all = rw (split_step x xs text texts e is) (let h = rw is at all in (onto text e h.0, h.1))

-- ---- one line more

pub from_first : (number : ℕ) (text : List ℕ) (bytes : List ℕ) →
    of_lines number (text ∷ cut bytes) ≡ said_by number (part_in text) (of_lines (number + 1) (cut bytes))
from_first number text bytes = let f = first_line bytes in rw f.2 refl

one_line : (number : ℕ) (text rest : List ℕ) → no_end text ≡ true →
    of_lines number (cut (text ++ 10 ∷ rest)) ≡ said_by number (part_in text) (of_lines (number + 1) (cut rest))
one_line number text rest h = ap (of_lines number) (split_at_end text rest h) ∙ from_first number text rest

-- ---- what was written is read

pub line_then : (text rest : List ℕ) → line text ++ rest ≡ text ++ 10 ∷ rest
line_then text rest = append_assoc text (10 ∷ []) rest

read_lines : (number : ℕ) (parts : List Part) → AllByRecursion IsPart parts → of_lines number (cut (wire_text parts)) ≡ Ok parts
read_lines number [] h = refl
read_lines number (part ∷ parts) h =
    ap (λ text. of_lines number (cut text)) (line_then (part_text part) (wire_text parts))
    ∙ one_line number (part_text part) (wire_text parts) (no_end-part part h.0)
    ∙ ap (λ o. said_by number o (of_lines (number + 1) (cut (wire_text parts)))) (written part h.0)
    ∙ ap (and_more part) (read_lines (number + 1) parts h.1)

-- ---- and no other text is

joined : List ℕ → List (List ℕ) → List ℕ
joined text texts = join_with_byte 10 (text ∷ texts)

rejoined : (bytes text : List ℕ) (texts : List (List ℕ)) → cut bytes ≡ text ∷ texts → joined text texts ≡ bytes
unfolding joined
rejoined bytes text texts is = ap (join_with_byte 10) (sym is) ∙ join_with_byte-slice_split 10 bytes

-- a line and then those that follow it, of which the same is known
alone_step : (number : ℕ) (text next : List ℕ) (texts : List (List ℕ)) (parts : List Part) (o : Option Part) (r : Result (List Part) ℕ) →
    part_in text ≡ o
    → ((more : List Part) → r ≡ Ok more → wire_text more ≡ joined next texts) → said_by number o r ≡ Ok parts →
    wire_text parts ≡ joined text (next ∷ texts)
unfolding joined
alone_step number text next texts parts None r e later is = absurd (cc)
alone_step number text next texts parts (Some part) (Err bad) e later is = absurd (cc)
alone_step number text next texts parts (Some part) (Ok more) e later is =
    let these : parts ≡ part ∷ more = cc in
    ap wire_text these ∙ line_then (part_text part) (wire_text more) ∙ ap (λ t. t ++ 10 ∷ wire_text more) (alone text part e)
    ∙ ap (λ t. text ++ 10 ∷ t) (later more refl)

alone_from : (number : ℕ) (text : List ℕ) (texts : List (List ℕ)) (parts : List Part) → parts_from number text texts ≡ Ok parts →
    wire_text parts ≡ joined text texts
unfolding joined
alone_from number [] [] [] is = refl
alone_from number [] [] (part ∷ parts) is = absurd (cc)
alone_from number (b ∷ bs) [] parts is = absurd (cc)
alone_from number text (next ∷ texts) parts is =
    alone_step number text next texts parts (part_in text) (parts_from (number + 1) next texts) refl (λ more f. alone_from (number + 1) next texts more f) is

answers_alone : (bytes : List ℕ) (parts : List Part) → answer_of bytes ≡ Ok parts → wire_text parts ≡ bytes
answers_alone bytes parts is =
    let f = first_line bytes in
    alone_from 1 f.0 f.1 parts (sym (ap (of_lines 1) f.2) ∙ is) ∙ rejoined bytes f.0 f.1 f.2

-- ---- the first bad line

-- where two texts without line ends begin a text, each up to a line end, they are one
pub same_line : (xs ys a b : List ℕ) → no_end xs ≡ true → no_end ys ≡ true → xs ++ 10 ∷ a ≡ ys ++ 10 ∷ b → xs ≡ ys
same_line [] [] a b h k is = refl
same_line [] (y ∷ ys) a b h k is =
    let p = no_end_first y ys k in
    let here : 10 ≡ y = cc in
    absurd (let e : is_line_end y ≡ true = ap is_line_end (sym here) in cc)
same_line (x ∷ xs) [] a b h k is =
    let p = no_end_first x xs h in
    let here : x ≡ 10 = cc in
    absurd (let e : is_line_end x ≡ true = ap is_line_end here in cc)
same_line (x ∷ xs) (y ∷ ys) a b h k is =
    let p = no_end_first x xs h in
    let q = no_end_first y ys k in
    let here : x ≡ y = cc in
    let later : xs ++ 10 ∷ a ≡ ys ++ 10 ∷ b = cc in
    ap (λ z. z ∷ xs) here ∙ ap (λ zs. y ∷ zs) (same_line xs ys a b p.1 q.1 later)

-- a text without line ends has none
pub never_ends : (xs ys a : List ℕ) → no_end xs ≡ true → xs ≡ ys ++ 10 ∷ a → ⊥
never_ends [] [] a h is = cc
never_ends [] (y ∷ ys) a h is = cc
never_ends (x ∷ xs) [] a h is =
    let p = no_end_first x xs h in
    let here : x ≡ 10 = cc in
    let e : is_line_end x ≡ true = ap is_line_end here in cc
never_ends (x ∷ xs) (y ∷ ys) a h is = let p = no_end_first x xs h in let later : xs ≡ ys ++ 10 ∷ a = cc in never_ends xs ys a p.1 later

abbrev Bad : List ℕ → ℕ → ℕ → Type 0
Bad bytes first number = (parts : List Part) × (rest : List ℕ) × (bytes ≡ wire_text parts ++ rest) × (number ≡ length parts + first) × IsBad rest

bad_end : (b : ℕ) (bs : List ℕ) → no_end (b ∷ bs) ≡ true → IsBad (b ∷ bs)
bad_end b bs h = (λ is. cc, λ part more ok is. never_ends (b ∷ bs) (part_text part) more h (is ∙ line_then (part_text part) more))

bad_line : (text rest : List ℕ) → no_end text ≡ true → part_in text ≡ None → IsBad (text ++ 10 ∷ rest)
bad_line text rest h none = (
  some text,
  λ part more ok is.
      let same : text ≡ part_text part = same_line text (part_text part) rest more h (no_end-part part ok) (is ∙ line_then (part_text part) more) in
      let said : part_in text ≡ Some part = ap part_in same ∙ written part ok in cc,
)
  where
    some : (text : List ℕ) → text ++ 10 ∷ rest ≢ []
    some [] is = cc
    some (b ∷ bs) is = cc

bad_step : (number : ℕ) (text next : List ℕ) (texts : List (List ℕ)) (bad : ℕ) (o : Option Part) (r : Result (List Part) ℕ) →
    no_end text ≡ true → part_in text ≡ o
    → ((later : ℕ) → r ≡ Err later → Bad (joined next texts) (number + 1) later) → said_by number o r ≡ Err bad →
    Bad (joined text (next ∷ texts)) number bad
unfolding joined
bad_step number text next texts bad None r h e later is =
    let same : number ≡ bad = cc in
    let count : number ≡ length {A = Part} [] + number = omega arith in
    ([], joined text (next ∷ texts), refl, sym same ∙ count, bad_line text (joined next texts) h e)
bad_step number text next texts bad (Some part) (Ok more) h e later is = absurd (cc)
bad_step number text next texts bad (Some part) (Err after) h e later is =
    let same : after ≡ bad = cc in
    let b = later after refl in (
      part ∷ b.0,
      b.1,
      ap (λ t. t ++ 10 ∷ joined next texts) (sym (alone text part e)) ∙ ap (λ t. part_text part ++ 10 ∷ t) b.2
          ∙ sym (ap (λ t. t ++ b.1) (line_then (part_text part) (wire_text b.0)) ∙ append_assoc (part_text part) (10 ∷ wire_text b.0) b.1),
      sym same ∙ (let count : after ≡ length (part ∷ b.0) + number = omega (arith, b.3) in count),
      b.4,
    )

bad_from : (number : ℕ) (text : List ℕ) (texts : List (List ℕ)) (bad : ℕ) → AreLines (text ∷ texts) → parts_from number text texts ≡ Err bad →
    Bad (joined text texts) number bad
unfolding joined AreLines
bad_from number [] [] bad all is = absurd (cc)
bad_from number (b ∷ bs) [] bad all is =
    let same : number ≡ bad = cc in
    let count : number ≡ length {A = Part} [] + number = omega arith in ([], b ∷ bs, refl, sym same ∙ count, bad_end b bs all.0)
bad_from number text (next ∷ texts) bad all is =
    bad_step number text next texts bad (part_in text) (parts_from (number + 1) next texts) all.0 refl
    (λ later f. bad_from (number + 1) next texts later all.1 f) is

answers_bad : (bytes : List ℕ) (bad : ℕ) → answer_of bytes ≡ Err bad → Bad bytes 1 bad
answers_bad bytes bad is =
    let f = first_line bytes in
    subst (λ (t : List ℕ). Bad t 1 bad) (rejoined bytes f.0 f.1 f.2)
    (bad_from 1 f.0 f.1 bad (let all = lines_of bytes in rw f.2 at all) (sym (ap (of_lines 1) f.2) ∙ is))

answers_once : (a b : List Part) → AllByRecursion IsPart a → AllByRecursion IsPart b → wire_text a ≡ wire_text b → a ≡ b
answers_once a b h k same =
    let one : answer_of (wire_text a) ≡ Ok a = read_lines 1 a h in
    let other : answer_of (wire_text a) ≡ Ok b = ap answer_of same ∙ read_lines 1 b k in cc

pub answers_say_parts : AnswersSayParts
answers_say_parts = record { written = read_lines 1; alone = answers_alone; once = answers_once; bad = answers_bad }
