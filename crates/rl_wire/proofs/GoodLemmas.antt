-- JSON without floats, whose objects' keys ascend: what is written of it is read as it was.
use Rattle.std.proofs.Common.{◌≡◌, ℕ, ◌^◌, ◌<◌, ◌≤◌, List, [], ◌++◌, Some, option_and_then, refl, sym, ap, ◌∙◌, arith}
use Rattle.std.proofs.Common.{append-nil, IsUtf8}
use Rattle.std.specs.Prelude.{⊤}
use Rattle.std.specs.Ordering.{nat_cmp, ordering_reverse}
use Rattle.std.specs.declared.cmp.Ordering.TheVariants.{Less, Greater}
use Rattle.std.specs.Cmp.Lexicographic.{slice_cmp}
use Rattle.std.proofs.lemmas.Cmp.{nat_list_cmp_total}
use Rattle.json.specs.Token.{Token}
use Rattle.json.specs.Lex.{tokens}
use Rattle.json.specs.Json as json
use Rattle.json.specs.Tree as tree
use Rattle.json.proofs.Printed.Tokens.{tokens-print}
use Rattle.json.proofs.Printed.Trees.{value-json_tokens, ArePrintable-json_tokens}
use Rattle.json.proofs.Printed.Decimals.{IsNumber-decimal}
use Rattle.serde_json.specs.Data.{Data, unsigned, negative, float, null, boolean, number, string, array, object, Items, no_items, item, Members, no_members}
use Rattle.serde_json.specs.Data.{member, put, depth, items_depth, members_depth}
use Rattle.serde_json.specs.Read.{read, max_depth, of_json, of_items, of_members}
use Rattle.serde_json.specs.Written.{compact_text, outline, items_outline, members_outline}
use Rattle.rl_wire.proofs.PlainLemmas.{IsTextual, AreTextual, HasTextual}
use Rattle.serde_json.proofs.Numbers.{number_of-decimal}
use Rattle.serde_json.proofs.Texts.{print-outline}

abbrev pub IsAbove : List ℕ → Members → Type 0
IsAbove k no_members = ⊤
IsAbove k (member l d ms) = (slice_cmp nat_cmp k l ≡ Less) × IsAbove k ms

abbrev mutual
  pub IsGood : Data → Type 0
  IsGood null = ⊤
  IsGood (boolean b) = ⊥
  IsGood (number (unsigned n)) = n < 2 ^ 64
  IsGood (number (negative z)) = ⊥
  IsGood (number (float x)) = ⊥
  IsGood (string s) = IsUtf8 s
  IsGood (array ds) = AreGood ds
  IsGood (object ms) = HasGood ms

  pub AreGood : Items → Type 0
  AreGood no_items = ⊤
  AreGood (item d ds) = IsGood d × AreGood ds

  pub HasGood : Members → Type 0
  HasGood no_members = ⊤
  HasGood (member k d ms) = IsAbove k ms × IsGood d × HasGood ms × IsUtf8 k

-- ---- members one after another

behind : Members → Members → Members
behind no_members more = more
behind (member k d ms) more = member k d (behind ms more)

IsBelow : Members → List ℕ → Type 0
IsBelow no_members k = ⊤
IsBelow (member l d ms) k = (slice_cmp nat_cmp l k ≡ Less) × IsBelow ms k

put_end : (found : Members) (k : List ℕ) (d : Data) → IsBelow found k → put k d found ≡ behind found (member k d no_members)
unfolding behind IsBelow
put_end no_members k d below = refl
put_end (member l e ms) k d below =
    let after : slice_cmp nat_cmp k l ≡ Greater = nat_list_cmp_total.antisymm k l ∙ ap ordering_reverse below.0 in
    rw after (ap (member l e) (put_end ms k d below.1))

AreBelow : Members → Members → Type 0
AreBelow found no_members = ⊤
AreBelow found (member k d ms) = IsBelow found k × AreBelow found ms

below_push : (found : Members) (k : List ℕ) (d : Data) (l : List ℕ) → IsBelow found l → slice_cmp nat_cmp k l ≡ Less →
    IsBelow (behind found (member k d no_members)) l
unfolding behind IsBelow
below_push no_members k d l h is = (is, tt)
below_push (member j e ms) k d l h is = (h.0, below_push ms k d l h.1 is)

all_below_push : (found : Members) (k : List ℕ) (d : Data) (ms : Members) → AreBelow found ms → IsAbove k ms →
    AreBelow (behind found (member k d no_members)) ms
unfolding AreBelow
all_below_push found k d no_members h above = tt
all_below_push found k d (member l e ms) h above = (below_push found k d l h.0 above.0, all_below_push found k d ms h.1 above.1)

behind_behind : (found : Members) (k : List ℕ) (d : Data) (ms : Members) → behind (behind found (member k d no_members)) ms ≡ behind found (member k d ms)
unfolding behind
behind_behind no_members k d ms = refl
behind_behind (member l e found) k d ms = ap (member l e) (behind_behind found k d ms)

behind_none : (found : Members) → behind found no_members ≡ found
unfolding behind
behind_none no_members = refl
behind_none (member k d ms) = ap (member k d) (behind_none ms)

none_below : (ms : Members) → AreBelow no_members ms
unfolding AreBelow IsBelow
none_below no_members = tt
none_below (member k d ms) = (tt, none_below ms)

-- ---- reading back

mutual
  unfolding AreBelow behind

  of_json-good : (d : Data) → IsGood d → of_json (outline d) ≡ Some d
  of_json-good null h = refl
  of_json-good (boolean b) h = absurd h
  of_json-good (number (unsigned n)) h = rw (number_of-decimal n h) refl
  of_json-good (number (negative z)) h = absurd h
  of_json-good (number (float x)) h = absurd h
  of_json-good (string s) h = refl
  of_json-good (array ds) h = rw (of_items-good ds h) refl
  of_json-good (object ms) h = rw (of_members-good no_members ms (none_below ms) h) refl

  of_items-good : (ds : Items) → AreGood ds → of_items (items_outline ds) ≡ Some ds
  of_items-good no_items h = refl
  of_items-good (item d ds) h = rw (of_json-good d h.0, of_items-good ds h.1) refl

  of_members-good : (found : Members) (ms : Members) → AreBelow found ms → HasGood ms → of_members (members_outline ms) found ≡ Some (behind found ms)
  of_members-good found no_members below h = ap Some (sym (behind_none found))
  of_members-good found (member k d ms) below h =
      rw (of_json-good d h.1) (ap (λ m. of_members (members_outline ms) m) (put_end found k d below.0)
      ∙ of_members-good (behind found (member k d no_members)) ms (all_below_push found k d ms below.1 h.0) h.2
      ∙ ap Some (behind_behind found k d ms))

mutual
  numbers-good : (d : Data) → IsGood d → tree.HasNumbers (outline d)
  numbers-good null h = tt
  numbers-good (boolean b) h = absurd h
  numbers-good (number (unsigned n)) h = IsNumber-decimal n h
  numbers-good (number (negative z)) h = absurd h
  numbers-good (number (float x)) h = absurd h
  numbers-good (string s) h = tt
  numbers-good (array ds) h = numbers-items ds h
  numbers-good (object ms) h = numbers-members ms h

  numbers-items : (ds : Items) → AreGood ds → tree.ItemsHaveNumbers (items_outline ds)
  numbers-items no_items h = tt
  numbers-items (item d ds) h = (numbers-good d h.0, numbers-items ds h.1)

  numbers-members : (ms : Members) → HasGood ms → tree.MembersHaveNumbers (members_outline ms)
  numbers-members no_members h = tt
  numbers-members (member k d ms) h = (numbers-good d h.1, numbers-members ms h.2)

mutual
  depth-good : (d : Data) (n : ℕ) → depth d ≤ n → tree.depth (outline d) ≤ n
  depth-good null n h = omega arith
  depth-good (boolean b) n h = omega arith
  depth-good (number x) n h = omega arith
  depth-good (string s) n h = omega arith
  depth-good (array ds) n h = omega (arith, depth-items ds (items_depth ds) (omega arith))
  depth-good (object ms) n h = omega (arith, depth-members ms (members_depth ms) (omega arith))

  depth-items : (ds : Items) (n : ℕ) → items_depth ds ≤ n → tree.items_depth (items_outline ds) ≤ n
  depth-items no_items n h = omega arith
  depth-items (item d ds) n h = omega (arith, depth-good d n (omega arith), depth-items ds n (omega arith))

  depth-members : (ms : Members) (n : ℕ) → members_depth ms ≤ n → tree.members_depth (members_outline ms) ≤ n
  depth-members no_members n h = omega arith
  depth-members (member k d ms) n h = omega (arith, depth-good d n (omega arith), depth-members ms n (omega arith))

-- what is written of good JSON is read as it was
pub good_reads_back : (d : Data) → IsGood d → depth d ≤ 127 → read (compact_text d) ≡ Some d
good_reads_back d good shallow =
    let written : tokens (compact_text d) ≡ tree.json_tokens (outline d) ++ [] =
    ap tokens (sym (print-outline d)) ∙ tokens-print (tree.json_tokens (outline d)) (ArePrintable-json_tokens (outline d) (numbers-good d good))
    ∙ sym (append-nil (tree.json_tokens (outline d))) in
    ap (λ (ts : List Token). option_and_then of_json (option_and_then (λ p. json.if_last p.0 p.1) (json.value max_depth ts))) written
    ∙ ap (λ o. option_and_then of_json (option_and_then (λ p. json.if_last p.0 p.1) o))
    (value-json_tokens (outline d) max_depth [] (depth-good d 127 shallow))
    ∙ of_json-good d good

mutual
  pub textual_good : (d : Data) → IsGood d → IsTextual d
  textual_good null h = tt
  textual_good (boolean b) h = absurd h
  textual_good (number (unsigned n)) h = h
  textual_good (number (negative z)) h = absurd h
  textual_good (number (float x)) h = absurd h
  textual_good (string s) h = h
  textual_good (array ds) h = textual_items ds h
  textual_good (object ms) h = textual_members ms h

  textual_items : (ds : Items) → AreGood ds → AreTextual ds
  textual_items no_items h = tt
  textual_items (item d ds) h = (textual_good d h.0, textual_items ds h.1)

  textual_members : (ms : Members) → HasGood ms → HasTextual ms
  textual_members no_members h = tt
  textual_members (member k d ms) h = (h.3, textual_good d h.1, textual_members ms h.2)
