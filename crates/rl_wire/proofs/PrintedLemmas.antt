-- What a writer prints for JSON values.
use Rattle.std.proofs.Common.{◌≡◌, ℕ, Bool, true, false, List, [], ◌∷◌, ◌++◌, refl, sym, ap, ◌∙◌, append-nil, append_assoc}
use Rattle.std.specs.List.{fold}
use Rattle.std.proofs.lemmas.List.Sums.{fold-append}
use Rattle.json.specs.Token.{Token}
use Rattle.json.specs.Print.{print, print_from, ends}
use Rattle.json.specs.Json as json
use Rattle.json.specs.Tree.{json_tokens, items_tokens, members_tokens}
use Rattle.json.proofs.Printed.Tokens.{print_from-append}
use Rattle.serde_json.specs.Data.{Data, null, boolean, number, string, array, object}
use Rattle.serde_json.specs.Written.{items_outline, members_outline, compact_text, items_text}
use Rattle.serde_json.proofs.Texts.{print-outline}
use Rattle.rl_wire.specs.Tokens.{value_tokens, values_tokens}
use Rattle.rl_wire.specs.Payload.{items_of, array_of}
use Rattle.rl_wire.specs.Line.{arguments_text}

-- ---- the last token of a value ends it

after : Bool → List Token → Bool
after c ts = fold (λ _ t. ends t) c ts

items_end : (js : json.Items) (c : Bool) → after c (items_tokens js) ≡ true
unfolding after
items_end json.no_items c = refl
items_end (json.item j js) c = fold-append (λ (_ : Bool) (t : Token). ends t) c (json_tokens j) (items_tokens js) ∙ items_end js (after c (json_tokens j))

members_end : (ms : json.Members) (c : Bool) → after c (members_tokens ms) ≡ true
unfolding after
members_end json.no_members c = refl
members_end (json.member k j ms) c = fold-append (λ (_ : Bool) (t : Token). ends t) false (json_tokens j) (members_tokens ms)
    ∙ members_end ms (after false (json_tokens j))

value_ends : (d : Data) (c : Bool) → after c (value_tokens d) ≡ true
unfolding after
value_ends null c = refl
value_ends (boolean b) c = refl
value_ends (number n) c = refl
value_ends (string s) c = refl
value_ends (array ds) c = items_end (items_outline ds) false
value_ends (object ms) c = members_end (members_outline ms) false

-- ---- values one after another are printed with commas between them

value_begins : (d : Data) (ts : List Token) → print_from true (value_tokens d ++ ts) ≡ 44 ∷ print_from false (value_tokens d ++ ts)
unfolding print_from
value_begins null ts = refl
value_begins (boolean b) ts = refl
value_begins (number n) ts = refl
value_begins (string s) ts = refl
value_begins (array ds) ts = refl
value_begins (object ms) ts = refl

pub print-values : (ds : List Data) → print (values_tokens ds) ≡ arguments_text ds
unfolding print_from after
print-values [] = refl
print-values (d ∷ []) = ap print (append-nil (value_tokens d)) ∙ print-outline d
print-values (d ∷ e ∷ ds) =
    print_from-append false (value_tokens d) (values_tokens (e ∷ ds))
    ∙ ap (λ c. print (value_tokens d) ++ print_from c (values_tokens (e ∷ ds))) (value_ends d false)
    ∙ ap (λ text. print (value_tokens d) ++ text) (value_begins e (values_tokens ds) ∙ ap (λ text. 44 ∷ text) (print-values (e ∷ ds)))
    ∙ ap (λ text. text ++ 44 ∷ arguments_text (e ∷ ds)) (print-outline d)

-- a text that ended before the values, and the values behind it
pub written : (old before text : List ℕ) (tokens : List Token) (ds : List Data) → before ≡ old → tokens ≡ values_tokens ds →
    text ≡ before ++ print tokens → text ≡ old ++ arguments_text ds
written old before text tokens ds same these is =
    is ∙ ap (λ b. b ++ print tokens) same ∙ ap (λ ts. old ++ print ts) these ∙ ap (λ bytes. old ++ bytes) (print-values ds)

-- ---- an array of values

array_values : (ds : List Data) → items_tokens (items_outline (items_of ds)) ≡ values_tokens ds ++ Token.end_array ∷ []
array_values [] = refl
array_values (d ∷ ds) = ap (λ ts. value_tokens d ++ ts) (array_values ds) ∙ sym (append_assoc (value_tokens d) (values_tokens ds) (Token.end_array ∷ []))

pub print-array : (ds : List Data) → print (Token.begin_array ∷ (values_tokens ds ++ Token.end_array ∷ [])) ≡ compact_text (array_of ds)
print-array ds = ap (λ ts. print (Token.begin_array ∷ ts)) (sym (array_values ds)) ∙ print-outline (array_of ds)

items_joined : (ds : List Data) → items_text false (items_of ds) ≡ arguments_text ds ++ 93 ∷ []
items_joined [] = refl
items_joined (d ∷ []) = refl
items_joined (d ∷ e ∷ ds) = ap (λ text. compact_text d ++ 44 ∷ text) (items_joined (e ∷ ds))
    ∙ sym (append_assoc (compact_text d) (44 ∷ arguments_text (e ∷ ds)) (93 ∷ []))

-- arguments between brackets are an array
pub in_brackets : (ds : List Data) → compact_text (array_of ds) ≡ 91 ∷ (arguments_text ds ++ 93 ∷ [])
in_brackets ds = ap (λ text. 91 ∷ text) (items_joined ds)
