-- What is written of texts, lists and objects is read as it was.
use Rattle.std.proofs.Common.{◌≡◌, ℕ, ◌≤◌, List, [], ◌∷◌, ◌++◌, Some, option_and_then, refl, sym, ap, ◌∙◌, arith, append-nil}
use Rattle.std.specs.List.{AllByRecursion}
use Rattle.std.specs.Ordering.{nat_cmp, ordering_reverse}
use Rattle.std.specs.declared.cmp.Ordering.TheVariants.{Less, Greater}
use Rattle.std.specs.Cmp.Lexicographic.{slice_cmp}
use Rattle.std.proofs.lemmas.Cmp.{nat_list_cmp_total}
use Rattle.json.specs.Token.{Token}
use Rattle.json.specs.Lex.{tokens}
use Rattle.json.specs.Json as json
use Rattle.json.specs.Tree as tree
use Rattle.json.proofs.Printed.Tokens.{tokens-print}
use Rattle.json.proofs.Printed.Trees.{value-json_tokens, ArePrintable-json_tokens}
use Rattle.serde_json.specs.Data.{Data, string, no_members, member, put}
use Rattle.serde_json.specs.Read.{read, max_depth, of_json, of_items, of_members}
use Rattle.serde_json.specs.Written.{compact_text, outline, items_outline, members_outline}
use Rattle.serde_json.proofs.Texts.{print-outline}
use Rattle.rl_names.specs.declared.part.Message.{Message}
use Rattle.rl_wire.specs.Message.{IsBelow, AreAscending, members_of, messages_value}
use Rattle.rl_wire.specs.Payload.{styles_value, payload_values, items_of, array_of, payload_text}
use Rattle.rl_wire.specs.declared.part.Part.{Part}
use Rattle.rl_wire.specs.declared.part.Part.TheVariants.{Impl, State}
use Rattle.rl_wire.specs.Line.{arguments_text, arguments_of, AreInOrder, ReadBack, ArgumentsReadBack}
use Rattle.rl_wire.proofs.PrintedLemmas.{in_brackets}

-- the text of a value is read as that value, where its numbers are numbers and its keys ascend
reads_back : (d : Data) → tree.HasNumbers (outline d) → tree.depth (outline d) ≤ 127 → of_json (outline d) ≡ Some d →
    read (compact_text d) ≡ Some d
reads_back d numbers shallow same =
    let written : tokens (compact_text d) ≡ tree.json_tokens (outline d) ++ [] =
    ap tokens (sym (print-outline d)) ∙ tokens-print (tree.json_tokens (outline d)) (ArePrintable-json_tokens (outline d) numbers)
    ∙ sym (append-nil (tree.json_tokens (outline d))) in
    ap (λ (ts : List Token). option_and_then of_json (option_and_then (λ p. json.if_last p.0 p.1) (json.value max_depth ts))) written
    ∙ ap (λ o. option_and_then of_json (option_and_then (λ p. json.if_last p.0 p.1) o)) (value-json_tokens (outline d) max_depth [] shallow)
    ∙ same

-- ---- objects of texts

-- a key above all that are there goes last
put_last : (ms : List Message) (m : Message) → AllByRecursion (λ (n : Message). slice_cmp nat_cmp n.key m.key ≡ Less) ms →
    put m.key (string m.text) (members_of ms) ≡ members_of (ms ++ m ∷ [])
put_last [] m below = refl
put_last (n ∷ ms) m below =
    let above : slice_cmp nat_cmp m.key n.key ≡ Greater = nat_list_cmp_total.antisymm m.key n.key ∙ ap ordering_reverse below.0 in
    rw above (ap (member n.key (string n.text)) (put_last ms m below.1))

-- each of the messages done is below each that is left
AreBelow : List Message → List Message → Type 0
AreBelow ms ns = AllByRecursion (λ (n : Message). AllByRecursion (λ (m : Message). slice_cmp nat_cmp m.key n.key ≡ Less) ms) ns

one_more_below : (done : List Message) (m n : Message) → AllByRecursion (λ (d : Message). slice_cmp nat_cmp d.key n.key ≡ Less) done →
    slice_cmp nat_cmp m.key n.key ≡ Less
    → AllByRecursion (λ (d : Message). slice_cmp nat_cmp d.key n.key ≡ Less) (done ++ m ∷ [])
one_more_below [] m n h k = (k, tt)
one_more_below (d ∷ done) m n h k = (h.0, one_more_below done m n h.1 k)

AreBelow-push : (done : List Message) (m : Message) (ns : List Message) → AreBelow done ns → IsBelow m.key ns → AreBelow (done ++ m ∷ []) ns
unfolding AreBelow
AreBelow-push done m [] h k = tt
AreBelow-push done m (n ∷ ns) h k = (one_more_below done m n h.0 k.0, AreBelow-push done m ns h.1 k.1)

regroup : (done : List Message) (m : Message) (ms : List Message) → (done ++ m ∷ []) ++ ms ≡ done ++ m ∷ ms
regroup [] m ms = refl
regroup (d ∷ done) m ms = ap (λ l. d ∷ l) (regroup done m ms)

of_members-messages : (done ms : List Message) → AreBelow done ms → AreAscending ms →
    of_members (members_outline (members_of ms)) (members_of done) ≡ Some (members_of (done ++ ms))
unfolding AreBelow
of_members-messages done [] below ascending = ap (λ l. Some (members_of l)) (sym (append-nil done))
of_members-messages done (m ∷ ms) below ascending =
    ap (λ found. of_members (members_outline (members_of ms)) found) (put_last done m below.0)
    ∙ of_members-messages (done ++ m ∷ []) ms (AreBelow-push done m ms below.1 ascending.0) ascending.1
    ∙ ap (λ l. Some (members_of l)) (regroup done m ms)

none_below : (ms : List Message) → AreBelow [] ms
unfolding AreBelow
none_below [] = tt
none_below (m ∷ ms) = (tt, none_below ms)

numbers-messages : (ms : List Message) → tree.MembersHaveNumbers (members_outline (members_of ms))
numbers-messages [] = tt
numbers-messages (m ∷ ms) = (tt, numbers-messages ms)

depth-messages : (ms : List Message) → tree.members_depth (members_outline (members_of ms)) ≤ 0
depth-messages [] = omega arith
depth-messages (m ∷ ms) = omega (arith, depth-messages ms)

-- ---- values that are read as they were, and lists of them

record Plain (d : Data) : Type 0 where
  numbers : tree.HasNumbers (outline d)
  shallow : tree.depth (outline d) ≤ 2
  same : of_json (outline d) ≡ Some d

Plain-string : (s : List ℕ) → Plain (string s)
Plain-string s = record { numbers = tt; shallow = omega arith; same = refl }

Plain-styles : (styles : List ℕ) → Plain (styles_value styles)
Plain-styles [] = record { numbers = tt; shallow = omega arith; same = refl }
Plain-styles (b ∷ bs) = record { numbers = ((tt, tt), tt); shallow = omega arith; same = refl }

Plain-messages : (messages : List Message) → AreAscending messages → Plain (messages_value messages)
Plain-messages messages ascending =
    let shown : of_members (members_outline (members_of messages)) no_members
    ≡ Some (members_of messages) = of_members-messages [] messages (none_below messages) ascending in
    record { numbers = numbers-messages messages; shallow = omega (arith, depth-messages messages); same = rw shown refl }

numbers-items : (ds : List Data) → AllByRecursion Plain ds → tree.ItemsHaveNumbers (items_outline (items_of ds))
numbers-items [] plain = tt
numbers-items (d ∷ ds) plain = (plain.0.numbers, numbers-items ds plain.1)

depth-items : (ds : List Data) → AllByRecursion Plain ds → tree.items_depth (items_outline (items_of ds)) ≤ 2
depth-items [] plain = omega arith
depth-items (d ∷ ds) plain = omega (arith, plain.0.shallow, depth-items ds plain.1)

of_items-plain : (ds : List Data) → AllByRecursion Plain ds → of_items (items_outline (items_of ds)) ≡ Some (items_of ds)
of_items-plain [] plain = refl
of_items-plain (d ∷ ds) plain = rw (plain.0.same, of_items-plain ds plain.1) refl

array_reads_back : (ds : List Data) → AllByRecursion Plain ds → read (compact_text (array_of ds)) ≡ Some (array_of ds)
array_reads_back ds plain =
    reads_back (array_of ds) (numbers-items ds plain) (omega (arith, depth-items ds plain)) (rw (of_items-plain ds plain) refl)

pub payload_reads_back : (script styles : List ℕ) (messages : List Message) → AreAscending messages
    → read (payload_text script styles messages) ≡ Some (array_of (payload_values script styles messages))
payload_reads_back script styles messages ascending =
    array_reads_back (payload_values script styles messages) (Plain-string script, (Plain-styles styles, (Plain-messages messages ascending, tt)))

bracketed : (ds : List Data) → AllByRecursion Plain ds → read (91 ∷ (arguments_text ds ++ 93 ∷ [])) ≡ Some (array_of ds)
bracketed ds plain = ap read (sym (in_brackets ds)) ∙ array_reads_back ds plain

pub arguments_read_back : ArgumentsReadBack
arguments_read_back (Impl name version script styles messages) ascending =
    bracketed (arguments_of (Impl name version script styles messages))
    (Plain-string _, (Plain-string script, (Plain-styles styles, (Plain-messages messages ascending, tt))))
arguments_read_back (State name kind) ascending =
    bracketed (arguments_of (State name kind)) (record { numbers = (tt, tt); shallow = omega arith; same = refl }, tt)

pub all_read_back : (parts : List Part) → AreInOrder parts → AllByRecursion ReadBack parts
all_read_back [] ordered = tt
all_read_back (part ∷ parts) ordered = (arguments_read_back part ordered.0, all_read_back parts ordered.1)
