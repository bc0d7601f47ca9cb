-- A line says the part that it is the line of, and no other text says it.
use Rattle.std.proofs.Common.{◌≡◌, ℕ, ◌+◌, ◌-◌, Bool, true, false, cond, nat_le, List, [], ◌∷◌, ◌++◌, length, take, drop, codes}
use Rattle.std.proofs.Common.{bytes_eq, IsUtf8, IsTrue, Option, Some, None, option_and_then, refl, sym, ap, ◌∙◌, arith, length-append}
use Rattle.std.specs.List.{AllByRecursion}
use Rattle.std.specs.Result.{result_ok}
use Rattle.std.specs.Str.{is_utf8}
use Rattle.std.proofs.lemmas.Bool.Decides.{nat_tests}
use Rattle.std.proofs.lemmas.List.{take-append-le, take_all}
use Rattle.std.proofs.lemmas.Slice.Eq.{bytes_eq-Decides}
use Rattle.std.proofs.lemmas.Str.{IsUtf8-append, IsUtf8-from_ascii, is_utf8-from_IsUtf8}
use Rattle.rl_names.proofs.AsciiLemmas.{name_ascii, version_ascii}
use Rattle.json.proofs.Printed.Utf8.{IsUtf8-are_ascii}
use Rattle.serde_json.specs.Data.{Data, string}
use Rattle.serde_json.specs.Read.{read}
use Rattle.rl_names.specs.Name.{is_name, is_version, key_text}
use Rattle.rl_names.proofs.KeyLemmas.{key_texts}
use Rattle.rl_names.specs.declared.name.Key.{Key}
use Rattle.rl_names.specs.declared.part.Message.{Message}
use Rattle.rl_names.specs.declared.kind.StateKind.{StateKind}
use Rattle.rl_names.specs.declared.kind.StateKind.TheVariants.{Missing, Error}
use Rattle.rl_wire.specs.declared.part.Part.{Part}
use Rattle.rl_wire.specs.declared.part.Part.TheVariants.{Impl, State}
use Rattle.rl_wire.specs.Message.{members_of}
use Rattle.rl_wire.specs.Payload.{styles_value, items_of, array_of}
use Rattle.rl_wire.specs.Line.{arguments_text, arguments_of, part_text, kind_text, state_arguments, implement_arguments, IsInOrder, AreTexts, IsPart}
use Rattle.rl_wire.specs.Arguments.{listed, list_in, arguments_in}
use Rattle.rl_wire.specs.Reading.{key_in, styles_in, messages_among, implementation_in, kind_named, state_in, spelt, candidate, part_in, LinesSayParts}
use Rattle.rl_wire.proofs.PlainLemmas.{IsTextual, HasTextual, no_end, no_end-append, no_end-arguments, IsUtf8-arguments, ascii_front}
use Rattle.rl_wire.proofs.ReadBackLemmas.{arguments_read_back}

-- ---- the arguments of a line

take_front : (a b : List ℕ) → take (length a) (a ++ b) ≡ a
take_front a b = grind (arith, take-append-le, take_all)

pub cut_text : (text args : List ℕ) (front : ℕ) → drop front text ≡ args ++ 41 ∷ 59 ∷ [] → length text ≡ front + (length args + 2) →
    arguments_in front text ≡ list_in (91 ∷ (args ++ 93 ∷ []))
cut_text text args front rest len =
    let within : nat_le (front + 2) (length text) ≡ true = grind (arith, nat_tests) in
    let count : length text - 2 - front ≡ length args = omega arith in
    rw (within, count, rest, take_front args (41 ∷ 59 ∷ [])) refl

pub list_back : (ds : List Data) → listed (items_of ds) ≡ ds
list_back [] = refl
list_back (d ∷ ds) = ap (λ xs. d ∷ xs) (list_back ds)

in_brackets : (ds : List Data) → AllByRecursion IsTextual ds → is_utf8 (91 ∷ (arguments_text ds ++ 93 ∷ [])) ≡ true
in_brackets ds h =
    is_utf8-from_IsUtf8 _ (ascii_front 91 _ (IsUtf8-are_ascii (91 ∷ []) refl) (IsUtf8-append _ _ (IsUtf8-arguments ds h) (IsUtf8-are_ascii (93 ∷ []) refl)))

pub list_read : (ds : List Data) → AllByRecursion IsTextual ds → read (91 ∷ (arguments_text ds ++ 93 ∷ [])) ≡ Some (array_of ds) →
    list_in (91 ∷ (arguments_text ds ++ 93 ∷ [])) ≡ Some ds
list_read ds h is = rw (in_brackets ds h, is) (ap Some (list_back ds))

-- ---- a part's arguments

textual_messages : (ms : List Message) → AreTexts ms → HasTextual (members_of ms)
textual_messages [] h = tt
textual_messages (m ∷ ms) h = (h.0.0, h.0.1, textual_messages ms h.1)

textual_styles : (styles : List ℕ) → IsUtf8 styles → IsTextual (styles_value styles)
textual_styles [] h = tt
textual_styles (b ∷ bs) h = (IsUtf8-are_ascii (codes "css") refl, (h, tt), tt)

css_back : (styles : List ℕ) → styles_in (styles_value styles) ≡ Some styles
css_back [] = refl
css_back (b ∷ bs) = refl

messages_back : (ms : List Message) → messages_among (members_of ms) ≡ ms
messages_back [] = refl
messages_back (m ∷ ms) = ap (λ xs. m ∷ xs) (messages_back ms)

key_back : (name version : List ℕ) → IsTrue (is_name name) → IsTrue (is_version version) →
    key_in (string (key_text name version)) ≡ Some (record { name = name; version = version })
key_back name version n v = let key : Key = record { name = name; version = version } in ap result_ok (key_texts.written key n v)

implementation_back : (name version script styles : List ℕ) (messages : List Message) → IsTrue (is_name name) → IsTrue (is_version version)
    → implementation_in (implement_arguments name version script styles messages) ≡ Some (Impl name version script styles messages)
implementation_back name version script styles messages n v = rw (key_back name version n v, css_back styles, messages_back messages) refl

kind_utf8 : (kind : StateKind) → IsUtf8 (kind_text kind)
kind_utf8 Missing = IsUtf8-are_ascii (codes "missing") refl
kind_utf8 Error = IsUtf8-are_ascii (codes "error") refl

kind_back : (kind : StateKind) → kind_named (kind_text kind) ≡ Some kind
kind_back Missing = refl
kind_back Error = refl

state_back : (name : List ℕ) (kind : StateKind) → state_in (state_arguments name (kind_text kind)) ≡ Some (State name kind)
state_back name kind = rw (kind_back kind) refl

IsUtf8-key_text : (name version : List ℕ) → IsUtf8 name → IsUtf8 version → IsUtf8 (key_text name version)
IsUtf8-key_text name version n v = IsUtf8-append name (64 ∷ version) n (ascii_front 64 version (IsUtf8-are_ascii (64 ∷ []) refl) v)

-- ---- what a part's line says

textual : (part : Part) → IsPart part → AllByRecursion IsTextual (arguments_of part)
textual (Impl name version script styles messages) h = (
  IsUtf8-key_text name version (IsUtf8-from_ascii name (name_ascii name h.0)) (IsUtf8-from_ascii version (version_ascii version h.1)),
  (h.2, (textual_styles styles h.3, (textual_messages messages h.4, tt))),
)
textual (State name kind) h = ((h, kind_utf8 kind, tt), tt)

in_order : (part : Part) → IsPart part → IsInOrder part
in_order (Impl name version script styles messages) h = h.5
in_order (State name kind) h = tt

arguments_said : (part : Part) → IsPart part → list_in (91 ∷ (arguments_text (arguments_of part) ++ 93 ∷ [])) ≡ Some (arguments_of part)
arguments_said part h = list_read (arguments_of part) (textual part h) (arguments_read_back part (in_order part h))

candidate_of : (part : Part) → IsPart part → candidate (part_text part) ≡ Some part
candidate_of (Impl name version script styles messages) h =
    let args = arguments_text (implement_arguments name version script styles messages) in
    let cut : arguments_in 20 (part_text (Impl name version script styles messages)) ≡ list_in (91 ∷ (args ++ 93 ∷ [])) =
    cut_text (part_text (Impl name version script styles messages)) args 20 refl (omega (arith, length-append args (41 ∷ 59 ∷ []))) in
    rw (cut, arguments_said (Impl name version script styles messages) h) (implementation_back name version script styles messages h.0 h.1)
candidate_of (State name kind) h =
    let args = arguments_text (state_arguments name (kind_text kind)) in
    let cut : arguments_in 16 (part_text (State name kind)) ≡ list_in (91 ∷ (args ++ 93 ∷ [])) =
    cut_text (part_text (State name kind)) args 16 refl (omega (arith, length-append args (41 ∷ 59 ∷ []))) in
    rw (cut, arguments_said (State name kind) h) (state_back name kind)

same_bytes : (xs : List ℕ) → bytes_eq xs xs ≡ true
same_bytes xs = (bytes_eq-Decides xs xs).1 refl

pub written : (part : Part) → IsPart part → part_in (part_text part) ≡ Some part
written part h = rw (candidate_of part h, same_bytes (part_text part)) refl

-- ---- and no other text does

spelt_alone : (text : List ℕ) (found part : Part) (b : Bool) → bytes_eq (part_text found) text ≡ b → cond b (Some found) None ≡ Some part →
    part_text part ≡ text
spelt_alone text found part true e is =
    let same : found ≡ part = cc in
    ap part_text (sym same) ∙ (bytes_eq-Decides (part_text found) text).0 e
spelt_alone text found part false e is = absurd (cc)

alone_of : (text : List ℕ) (found : Option Part) (part : Part) → option_and_then (spelt text) found ≡ Some part → part_text part ≡ text
alone_of text None part is = absurd (cc)
alone_of text (Some found) part is = spelt_alone text found part (bytes_eq (part_text found) text) refl is

pub alone : (text : List ℕ) (part : Part) → part_in text ≡ Some part → part_text part ≡ text
alone text part is = alone_of text (candidate text) part is

none : (text : List ℕ) → part_in text ≡ None → (part : Part) → IsPart part → part_text part ≡ text → ⊥
none text is part h same = let said : part_in text ≡ Some part = ap part_in (sym same) ∙ written part h in cc

once : (a b : Part) → IsPart a → IsPart b → part_text a ≡ part_text b → a ≡ b
once a b h k same = let said : Some a ≡ Some b = sym (written a h) ∙ ap part_in same ∙ written b k in cc

pub lines_say_parts : LinesSayParts
lines_say_parts = record { written = written; alone = alone; none = none; once = once }

-- ---- the line has no end inside

pub no_end-part : (part : Part) → IsPart part → no_end (part_text part) ≡ true
no_end-part (Impl name version script styles messages) h =
    no_end-append (codes "mw.loader.implement(") (arguments_text (implement_arguments name version script styles messages) ++ codes ");") refl
    (no_end-append (arguments_text (implement_arguments name version script styles messages)) (codes ");")
    (no_end-arguments (implement_arguments name version script styles messages) (textual (Impl name version script styles messages) h)) refl)
no_end-part (State name kind) h =
    no_end-append (codes "mw.loader.state(") (arguments_text (state_arguments name (kind_text kind)) ++ codes ");") refl
    (no_end-append (arguments_text (state_arguments name (kind_text kind))) (codes ");")
    (no_end-arguments (state_arguments name (kind_text kind)) (textual (State name kind) h)) refl)
