-- JSON values of a step: they are written without line ends, and read again.
use Rattle.std.proofs.Common.{◌≡◌, ℕ, ◌^◌, ◌<◌, ◌≤◌, ◌==◌, Bool, true, false, not, List, [], ◌∷◌, ◌++◌, map, Some}
use Rattle.std.proofs.Common.{option_and_then, refl, sym, ap, ◌∙◌, arith, append-nil, IsUtf8, subst}
use Rattle.std.specs.List.{AllByRecursion}
use Rattle.std.proofs.lemmas.Bool.{and_parts}
use Rattle.json.specs.Token.{Token}
use Rattle.json.specs.Lex.{tokens}
use Rattle.json.specs.Json as json
use Rattle.json.specs.Print.{print}
use Rattle.json.specs.Tree as tree
use Rattle.json.proofs.Printed.Decimals.{IsNumber-decimal}
use Rattle.json.proofs.Printed.Tokens.{tokens-print}
use Rattle.json.proofs.Printed.Trees.{value-json_tokens, ArePrintable-json_tokens}
use Rattle.serde_json.specs.Data.{Data, unsigned, boolean, number, string}
use Rattle.serde_json.specs.Read.{read, max_depth, of_json, of_items}
use Rattle.serde_json.specs.Written.{compact_text, outline, items_outline}
use Rattle.serde_json.proofs.Numbers.{number_of-decimal}
use Rattle.serde_json.proofs.Texts.{print-outline}
use Rattle.rl_view_spec.specs.Closure.{Text}
use Rattle.rl_script_spec.specs.Grammar.{members_of, texts_of}
use Rattle.rl_script_spec.specs.Script.{cut, trimmed}
use Rattle.rl_wire.specs.Line.{arguments_text}
use Rattle.rl_wire.specs.Payload.{items_of, array_of}
use Rattle.rl_wire.specs.Tokens.{values_tokens}
use Rattle.rl_wire.proofs.PlainLemmas.{no_end, no_end-append, no_end-compact, no_end-quoted}
use Rattle.rl_wire.proofs.PrintedLemmas.{in_brackets, print-array}
use Rattle.rl_steps.specs.Spelling.{texts_value, whole_value}

-- ---- what is written

-- a writer that began with nothing has written values between brackets
pub in_array : (ds : List Data) (before0 before1 before2 before3 text : Text) (tokens0 tokens1 tokens2 tokens3 : List Token)
    → before0 ≡ [] → before1 ≡ before0 → before2 ≡ before1 → before3 ≡ before2
    → tokens0 ≡ [] → tokens1 ≡ tokens0 ++ Token.begin_array ∷ [] → tokens2 ≡ tokens1 ++ values_tokens ds
    → tokens3 ≡ tokens2 ++ Token.end_array ∷ []
    → text ≡ before3 ++ print tokens3 → IsUtf8 (print tokens3) → (text ≡ compact_text (array_of ds)) × IsUtf8 text
in_array ds before0 before1 before2 before3 text tokens0 tokens1 tokens2 tokens3 b0 b1 b2 b3 t0 t1 t2 t3 is valid =
    let front : before3 ≡ [] = b3 ∙ b2 ∙ b1 ∙ b0 in
    let whole : tokens3 ≡ Token.begin_array ∷ (values_tokens ds ++ Token.end_array ∷ []) = rw (t3, t2, t1, t0) refl in
    let printed : text ≡ print tokens3 = is ∙ ap (λ (b : Text). b ++ print tokens3) front in
    (printed ∙ ap print whole ∙ print-array ds, subst IsUtf8 (sym printed) valid)

-- ---- what is read

-- the text of a value is read as that value, where its numbers are numbers
reads_back : (d : Data) → tree.HasNumbers (outline d) → tree.depth (outline d) ≤ 127 → of_json (outline d) ≡ Some d
    → read (compact_text d) ≡ Some d
reads_back d numbers shallow same =
    let written : tokens (compact_text d) ≡ tree.json_tokens (outline d) ++ [] =
    ap tokens (sym (print-outline d)) ∙ tokens-print (tree.json_tokens (outline d)) (ArePrintable-json_tokens (outline d) numbers)
    ∙ sym (append-nil (tree.json_tokens (outline d))) in
    ap (λ (ts : List Token). option_and_then of_json (option_and_then (λ p. json.if_last p.0 p.1) (json.value max_depth ts))) written
    ∙ ap (λ o. option_and_then of_json (option_and_then (λ p. json.if_last p.0 p.1) o)) (value-json_tokens (outline d) max_depth [] shallow)
    ∙ same

-- a value without line ends that is read as it was
pub record Plain (d : Data) : Type 0 where
  numbers : tree.HasNumbers (outline d)
  shallow : tree.depth (outline d) ≤ 2
  same : of_json (outline d) ≡ Some d
  one_line : no_end (compact_text d) ≡ true

numbers-items : (ds : List Data) → AllByRecursion Plain ds → tree.ItemsHaveNumbers (items_outline (items_of ds))
numbers-items [] plain = tt
numbers-items (d ∷ ds) plain = (plain.0.numbers, numbers-items ds plain.1)

depth-items : (ds : List Data) → AllByRecursion Plain ds → tree.items_depth (items_outline (items_of ds)) ≤ 2
depth-items [] plain = omega arith
depth-items (d ∷ ds) plain = omega (arith, plain.0.shallow, depth-items ds plain.1)

same-items : (ds : List Data) → AllByRecursion Plain ds → of_items (items_outline (items_of ds)) ≡ Some (items_of ds)
same-items [] plain = refl
same-items (d ∷ ds) plain = rw (plain.0.same, same-items ds plain.1) refl

pub values_read : (ds : List Data) → AllByRecursion Plain ds → read (compact_text (array_of ds)) ≡ Some (array_of ds)
values_read ds plain = reads_back (array_of ds) (numbers-items ds plain) (omega (arith, depth-items ds plain)) (rw (same-items ds plain) refl)

no_end-values : (ds : List Data) → AllByRecursion Plain ds → no_end (arguments_text ds) ≡ true
no_end-values [] plain = refl
no_end-values (d ∷ []) plain = plain.0.one_line
no_end-values (d ∷ e ∷ ds) plain =
    no_end-append (compact_text d) (44 ∷ arguments_text (e ∷ ds)) plain.0.one_line (no_end-values (e ∷ ds) plain.1)

no_end-array : (ds : List Data) → AllByRecursion Plain ds → no_end (compact_text (array_of ds)) ≡ true
no_end-array ds plain =
    ap no_end (in_brackets ds)
    ∙ no_end-append (91 ∷ arguments_text ds) (93 ∷ []) (no_end-append (91 ∷ []) (arguments_text ds) refl (no_end-values ds plain)) refl

-- ---- values of a step

pub Plain-string : (s : Text) → Plain (string s)
Plain-string s = record { numbers = tt; shallow = omega arith; same = refl; one_line = no_end-quoted s }

pub Plain-whole : (n : ℕ) → n < 2 ^ 64 → Plain (whole_value n)
Plain-whole n h = record {
  numbers = IsNumber-decimal n h;
  shallow = omega arith;
  same = rw (number_of-decimal n h) refl;
  one_line = no_end-compact (number (unsigned n)) h;
}

pub Plain-boolean : (b : Bool) → Plain (boolean b)
Plain-boolean true = record { numbers = tt; shallow = omega arith; same = refl; one_line = refl }
Plain-boolean false = record { numbers = tt; shallow = omega arith; same = refl; one_line = refl }

plain_strings : (texts : List Text) → AllByRecursion Plain (map string texts)
plain_strings [] = tt
plain_strings (text ∷ texts) = (Plain-string text, plain_strings texts)

flat_strings : (texts : List Text) → tree.items_depth (items_outline (items_of (map string texts))) ≤ 0
flat_strings [] = omega arith
flat_strings (text ∷ texts) = omega (arith, flat_strings texts)

pub Plain-texts : (texts : List Text) → Plain (texts_value texts)
Plain-texts texts = record {
  numbers = numbers-items (map string texts) (plain_strings texts);
  shallow = omega (arith, flat_strings texts);
  same = rw (same-items (map string texts) (plain_strings texts)) refl;
  one_line = no_end-array (map string texts) (plain_strings texts);
}

-- ---- lists of values

pub members_back : (ds : List Data) → members_of (items_of ds) ≡ ds
members_back [] = refl
members_back (d ∷ ds) = ap (λ (xs : List Data). d ∷ xs) (members_back ds)

pub texts_back : (texts : List Text) → texts_of (map string texts) ≡ Some texts
texts_back [] = refl
texts_back (text ∷ texts) = rw (texts_back texts) refl

-- ---- one line

cut_whole : (text : Text) → no_end text ≡ true → cut text ≡ text ∷ []
cut_whole [] h = refl
cut_whole (b ∷ bs) h =
    let p = and_parts _ _ h in
    rw (not_true (b == 10) p.0, cut_whole bs p.1) refl
  where
    not_true : (b : Bool) → not b ≡ true → b ≡ false
    not_true true e = absurd (cc)
    not_true false e = refl

trimmed_end : (text : Text) → trimmed (text ++ 93 ∷ []) ≡ text ++ 93 ∷ []
trimmed_end [] = refl
trimmed_end (a ∷ []) = refl
trimmed_end (a ∷ b ∷ bs) = ap (λ (xs : Text). a ∷ xs) (trimmed_end (b ∷ bs))

pub one_line_cut : (ds : List Data) → AllByRecursion Plain ds → cut (compact_text (array_of ds)) ≡ compact_text (array_of ds) ∷ []
one_line_cut ds plain = cut_whole (compact_text (array_of ds)) (no_end-array ds plain)

pub one_line_trimmed : (ds : List Data) → trimmed (compact_text (array_of ds)) ≡ compact_text (array_of ds)
one_line_trimmed ds = ap trimmed (in_brackets ds) ∙ trimmed_end (91 ∷ arguments_text ds) ∙ sym (in_brackets ds)
