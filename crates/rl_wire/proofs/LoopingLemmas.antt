-- What is left of an answer, as the loop over its lines goes on.
use Rattle.std.proofs.Common.{◌≡◌, ℕ, ◌+◌, ◌<◌, ◌≤◌, Bool, true, false, cond, nat_lt, List, [], ◌∷◌, ◌++◌, length, take, drop}
use Rattle.std.proofs.Common.{Option, Some, None, Result, Ok, Err, refl, sym, ap, ◌∙◌, subst, ◌-◌, arith, append_assoc, append-nil, length-append}
use Rattle.std.proofs.Common.{length-drop}
use Rattle.std.specs.Prelude.{min, IfSome}
use Rattle.std.specs.List.{position, position_or_len}
use Rattle.std.proofs.lemmas.List.{drop-drop, take_all}
use Rattle.std.proofs.lemmas.Bool.Decides.{nat_tests}
use Rattle.std.proofs.lemmas.List.Splits.{slice_split_first}
use Rattle.rl_wire.specs.declared.part.Part.{Part}
use Rattle.rl_wire.specs.Line.{IsInOrder, AreInOrder}
use Rattle.rl_wire.specs.declared.error.WireError.TheVariants.{BadLine}
use Rattle.rl_wire.specs.Arguments.{capped, is_line_end, line_told, TellsLine}
use Rattle.rl_wire.specs.Reading.{part_in, and_more, said_by, of_lines, answer_of}
use Rattle.rl_wire.proofs.LinesLemmas.{cut, from_first}

-- the parts so far, and then what the lines that are left say
abbrev pub behind : List Part → Result (List Part) ℕ → Result (List Part) ℕ
behind parts (Ok more) = Ok (parts ++ more)
behind parts (Err number) = Err number

behind_more : (parts : List Part) (part : Part) (r : Result (List Part) ℕ) → behind parts (and_more part r) ≡ behind (parts ++ part ∷ []) r
behind_more parts part (Ok more) = ap Ok (sym (append_assoc parts (part ∷ []) more))
behind_more parts part (Err number) = refl

-- ---- the next line end

place_of : (b : Bool) (n at : ℕ) → cond b (Some n) None ≡ Some at → (b ≡ true) × (n ≡ at)
place_of true n at is = (refl, cc)
place_of false n at is = absurd (cc)

pub cut_line : (bytes : List ℕ) (at : ℕ) → position is_line_end bytes ≡ Some at → cut bytes ≡ take at bytes ∷ cut (drop (at + 1) bytes)
cut_line bytes at is =
    let p = place_of (nat_lt (position_or_len is_line_end bytes) (length bytes)) (position_or_len is_line_end bytes) at is in
    let within : position_or_len is_line_end bytes < length bytes = grind (arith, nat_tests) in
    slice_split_first is_line_end bytes 0 within ∙ ap (λ n. take n bytes ∷ cut (drop (n + 1) bytes)) p.1

no_place : (b : Bool) (n : ℕ) → cond b (Some n) None ≡ None → b ≡ false
no_place true n is = absurd (cc)
no_place false n is = refl

last_step : (x : ℕ) (xs : List ℕ) (b : Bool) → is_line_end x ≡ b → (length xs ≤ position_or_len is_line_end xs → cut xs ≡ xs ∷ []) →
    length (x ∷ xs) ≤ position_or_len is_line_end (x ∷ xs) → cut (x ∷ xs) ≡ (x ∷ xs) ∷ []
last_step x xs true e later h = absurd (let k = rw e at h in omega (arith, k))
last_step x xs false e later h = let k = rw e at h in rw (e, later (omega (arith, k))) refl

one_last : (bytes : List ℕ) → length bytes ≤ position_or_len is_line_end bytes → cut bytes ≡ bytes ∷ []
one_last [] h = refl
one_last (x ∷ xs) h = last_step x xs (is_line_end x) refl (one_last xs) h

pub last_line : (bytes : List ℕ) → position is_line_end bytes ≡ None → cut bytes ≡ bytes ∷ []
last_line bytes is =
    let no = no_place (nat_lt (position_or_len is_line_end bytes) (length bytes)) (position_or_len is_line_end bytes) is in
    one_last bytes (grind (arith, nat_tests))

-- ---- the loop

said_first : (parts : List Part) (rest : List ℕ) (at : ℕ) (o : Option Part) → position is_line_end rest ≡ Some at → part_in (take at rest) ≡ o
    → behind parts (of_lines (length parts + 1) (cut rest))
    ≡ behind parts (said_by (length parts + 1) o (of_lines (length parts + 1 + 1) (cut (drop (at + 1) rest))))
said_first parts rest at o is e =
    ap (λ texts. behind parts (of_lines (length parts + 1) texts)) (cut_line rest at is)
    ∙ ap (behind parts) (from_first (length parts + 1) (take at rest) (drop (at + 1) rest))
    ∙ ap (λ o. behind parts (said_by (length parts + 1) o (of_lines (length parts + 1 + 1) (cut (drop (at + 1) rest))))) e

pub next_line : (parts next : List Part) (part : Part) (rest : List ℕ) (at : ℕ) (all : Result (List Part) ℕ) → position is_line_end rest ≡ Some at →
    part_in (take at rest) ≡ Some part → next ≡ parts ++ part ∷ []
    → behind parts (of_lines (length parts + 1) (cut rest)) ≡ all → behind next (of_lines (length next + 1) (cut (drop (at + 1) rest))) ≡ all
next_line parts next part rest at all is e these same =
    let count : length next + 1 ≡ length parts + 1 + 1 = rw (these, length-append) refl in
    ap (λ n. behind next (of_lines n (cut (drop (at + 1) rest)))) count
    ∙ ap (λ ps. behind ps (of_lines (length parts + 1 + 1) (cut (drop (at + 1) rest)))) these
    ∙ sym (behind_more parts part (of_lines (length parts + 1 + 1) (cut (drop (at + 1) rest))))
    ∙ sym (said_first parts rest at (Some part) is e) ∙ same

pub bad_line : (parts : List Part) (rest : List ℕ) (at : ℕ) (all : Result (List Part) ℕ) → position is_line_end rest ≡ Some at →
    part_in (take at rest) ≡ None
    → behind parts (of_lines (length parts + 1) (cut rest)) ≡ all → all ≡ Err (length parts + 1)
bad_line parts rest at all is e same = sym same ∙ said_first parts rest at None is e

pub no_line : (parts : List Part) (rest : List ℕ) (all : Result (List Part) ℕ) → 0 < length rest → position is_line_end rest ≡ None
    → behind parts (of_lines (length parts + 1) (cut rest)) ≡ all → all ≡ Err (length parts + 1)
no_line parts rest all some is same = sym same ∙ ap (λ texts. behind parts (of_lines (length parts + 1) texts)) (last_line rest is) ∙ at_last rest some
  where
    at_last : (rest : List ℕ) → 0 < length rest → behind parts (of_lines (length parts + 1) (rest ∷ [])) ≡ Err (length parts + 1)
    at_last [] some = absurd (omega arith)
    at_last (b ∷ bs) some = refl

pub all_lines : (parts : List Part) (rest : List ℕ) (all : Result (List Part) ℕ) → length rest ≡ 0 →
    behind parts (of_lines (length parts + 1) (cut rest)) ≡ all → all ≡ Ok parts
all_lines parts [] all none same = sym same ∙ ap Ok (append-nil parts)
all_lines parts (b ∷ bs) all none same = absurd (omega arith)

pub first_lines : (bytes : List ℕ) (parts : List Part) → parts ≡ [] → behind parts (of_lines (length parts + 1) (cut bytes)) ≡ answer_of bytes
first_lines bytes parts none = ap (λ (ps : List Part). behind ps (of_lines (length ps + 1) (cut bytes))) none ∙ plain (answer_of bytes)
  where
    plain : (r : Result (List Part) ℕ) → behind [] r ≡ r
    plain (Ok more) = refl
    plain (Err number) = refl

-- ---- beside the text

-- what stands behind the line and its end
pub rest_of : (bytes back : List ℕ) (at : ℕ) → back ≡ drop at bytes → take (length back - 1) (drop 1 back) ≡ drop (at + 1) bytes
rest_of bytes back at is =
    take_all (length back - 1) (drop 1 back) (omega (arith, length-drop 1 back)) ∙ ap (drop 1) is ∙ drop-drop 1 at bytes

pub next_number : (number next passed : ℕ) → number ≡ capped passed → next ≡ min (number + 1) 4294967295 → next ≡ capped (passed + 1)
next_number number next passed same is = omega arith

-- the number that a refusal of a bad line tells
pub tells : {A : Type 0} (said : Result A ℕ) (number bad : ℕ) → said ≡ Err bad → number ≡ capped bad → (told : ℕ) → line_told (BadLine number) ≡ Some told
    → TellsLine said told
tells said number bad is fits told same = let e : told ≡ capped bad = cc in (bad, is, e)

all_push : (parts : List Part) (part : Part) → AreInOrder parts → IsInOrder part → AreInOrder (parts ++ part ∷ [])
all_push [] part all one = (one, tt)
all_push (p ∷ parts) part all one = (all.0, all_push parts part all.1 one)

pub one_more : (parts next : List Part) (part : Part) (o : Option Part) → next ≡ parts ++ part ∷ [] → AreInOrder parts → o ≡ Some part →
    IfSome o IsInOrder → AreInOrder next
one_more parts next part o these all is one =
    let here : IsInOrder part = subst (λ (o : Option Part). IfSome o IsInOrder) is one in
    subst AreInOrder (sym these) (all_push parts part all here)
