-- What is read of the parts that were written.
use Rattle.std.proofs.Common.{◌≡◌, ℕ, ◌+◌, Bool, true, false, cond, List, [], ◌∷◌, ◌++◌, length, codes, bytes_eq, Option, Some, None}
use Rattle.std.proofs.Common.{refl, sym, ap, ◌∙◌, arith, length-append}
use Rattle.std.specs.Prelude.{⊤, Result, Ok, Err, option_and_then, option_map, if◌then◌else◌, not, drop, ◌==◌}
use Rattle.std.specs.List.{AllByRecursion, list_all, list_any, slice_split}
use Rattle.std.specs.Result.{result_ok}
use Rattle.std.specs.Str.{is_utf8}
use Rattle.rl_names.specs.Cut.{before_by, suffix_by}
use Rattle.rl_names.specs.Key.{KeyFault, NoVersion, BadVersion, BadName, is_at, key_of}
use Rattle.rl_names.specs.Name.{is_name, is_version, is_version_byte, key_text}
use Rattle.std.proofs.lemmas.Bool.{and_parts}
use Rattle.std.proofs.lemmas.Bool.Decides.{nat_tests}
use Rattle.rl_names.proofs.KeyLemmas.{key_texts}
use Rattle.rl_names.specs.declared.kind.StateKind.{StateKind}
use Rattle.rl_names.specs.declared.kind.StateKind.TheVariants.{Missing, Error}
use Rattle.rl_names.specs.declared.name.Key.{Key}
use Rattle.rl_names.specs.declared.part.Message.{Message}
use Rattle.json.specs.Print.{quoted}
use Rattle.serde_json.specs.Data.{Data, null, string, number, array, object, boolean, Items, no_items, item, Members, no_members, member}
use Rattle.serde_json.specs.Find.{as_array}
use Rattle.serde_json.specs.Read.{read}
use Rattle.serde_json.specs.Written.{compact_text, items_text, members_text, comma_if}
use Rattle.rl_wire.specs.Arguments.{arguments_in, is_line_end, list_in, listed}
use Rattle.rl_wire.specs.Line.{arguments_of, arguments_text, implement_arguments, kind_text, part_text, state_arguments, wire_text, IsInOrder}
use Rattle.rl_wire.specs.Message.{AreAscending, members_of}
use Rattle.rl_wire.specs.Payload.{array_of, styles_value}
use Rattle.rl_wire.specs.Reading.{answer_of, candidate, implementation_in, kind_named, messages_among, of_lines, part_in, said_by, spelt}
use Rattle.rl_wire.specs.Reading.{state_in, styles_in}
use Rattle.rl_wire.specs.declared.part.Part.{Part}
use Rattle.rl_wire.specs.declared.part.Part.TheVariants.{Impl, State}
use Rattle.rl_wire.proofs.LinesLemmas.{from_first, line_then, split_at_end}
use Rattle.rl_wire.proofs.PlainLemmas.{no_end, no_end-append, no_end-quoted}
use Rattle.rl_wire.proofs.ReadBackLemmas.{arguments_read_back}
use Rattle.rl_wire.proofs.SaidLemmas.{cut_text, list_back}

-- a part whose line says it where it says anything
abbrev pub IsReadable : Part → Type 0
IsReadable (Impl name version script styles messages) = (length version ≡ 5) × AreAscending messages
IsReadable (State name kind) = ⊤

-- ---- no line end stands in a line

abbrev mutual
  IsPlain : Data → Type 0
  IsPlain (string s) = ⊤
  IsPlain (array ds) = ArePlain ds
  IsPlain (object ms) = HavePlain ms
  IsPlain other = ⊥

  ArePlain : Items → Type 0
  ArePlain no_items = ⊤
  ArePlain (item d ds) = IsPlain d × ArePlain ds

  HavePlain : Members → Type 0
  HavePlain no_members = ⊤
  HavePlain (member k d ms) = IsPlain d × HavePlain ms

comma_plain : (b : Bool) → no_end (comma_if b) ≡ true
comma_plain true = refl
comma_plain false = refl

mutual
  plain_compact : (d : Data) → IsPlain d → no_end (compact_text d) ≡ true
  plain_compact null h = absurd h
  plain_compact (boolean b) h = absurd h
  plain_compact (number n) h = absurd h
  plain_compact (string s) h = no_end-quoted s
  plain_compact (array ds) h = plain_items false ds h
  plain_compact (object ms) h = plain_members false ms h

  plain_items : (b : Bool) (ds : Items) → ArePlain ds → no_end (items_text b ds) ≡ true
  plain_items b no_items h = refl
  plain_items b (item d ds) h = no_end-append (comma_if b) (compact_text d ++ items_text true ds) (comma_plain b)
      (no_end-append (compact_text d) (items_text true ds) (plain_compact d h.0) (plain_items true ds h.1))

  plain_members : (b : Bool) (ms : Members) → HavePlain ms → no_end (members_text b ms) ≡ true
  plain_members b no_members h = refl
  plain_members b (member k d ms) h =
      no_end-append (comma_if b) (quoted k ++ 58 ∷ (compact_text d ++ members_text true ms)) (comma_plain b)
      (no_end-append (quoted k) (58 ∷ (compact_text d ++ members_text true ms)) (no_end-quoted k)
      (no_end-append (compact_text d) (members_text true ms) (plain_compact d h.0) (plain_members true ms h.1)))

plain_arguments : (ds : List Data) → AllByRecursion IsPlain ds → no_end (arguments_text ds) ≡ true
plain_arguments [] h = refl
plain_arguments (d ∷ []) h = plain_compact d h.0
plain_arguments (d ∷ e ∷ ds) h = no_end-append (compact_text d) (44 ∷ arguments_text (e ∷ ds)) (plain_compact d h.0) (plain_arguments (e ∷ ds) h.1)

plain_styles : (styles : List ℕ) → IsPlain (styles_value styles)
plain_styles [] = tt
plain_styles (b ∷ bs) = ((tt, tt), tt)

plain_messages : (ms : List Message) → HavePlain (members_of ms)
plain_messages [] = tt
plain_messages (m ∷ ms) = (tt, plain_messages ms)

plain_part : (part : Part) → no_end (part_text part) ≡ true
plain_part (Impl name version script styles messages) =
    no_end-append (codes "mw.loader.implement(") (arguments_text (implement_arguments name version script styles messages) ++ codes ");") refl
    (no_end-append (arguments_text (implement_arguments name version script styles messages)) (codes ");")
    (plain_arguments (implement_arguments name version script styles messages) (tt, (tt, (plain_styles styles, (plain_messages messages, tt))))) refl)
plain_part (State name kind) =
    no_end-append (codes "mw.loader.state(") (arguments_text (state_arguments name (kind_text kind)) ++ codes ");") refl
    (no_end-append (arguments_text (state_arguments name (kind_text kind))) (codes ");")
    (plain_arguments (state_arguments name (kind_text kind)) ((tt, tt), tt)) refl)

-- ---- a line says its part

css_back : (styles : List ℕ) → styles_in (styles_value styles) ≡ Some styles
css_back [] = refl
css_back (b ∷ bs) = refl

messages_back : (ms : List Message) → messages_among (members_of ms) ≡ ms
messages_back [] = refl
messages_back (m ∷ ms) = ap (λ xs. m ∷ xs) (messages_back ms)

abbrev version_in : Result Key KeyFault → List ℕ → List ℕ
version_in (Ok key) other = key.version
version_in (Err fault) other = other

-- a key that was read has a version of five bytes
key_version : (text : List ℕ) (key : Key) → key_of text ≡ Ok key → length key.version ≡ 5
key_version text key is =
    step (not (list_any is_at (drop 1 text))) (is_version (suffix_by is_at text)) refl (not (is_name (before_by is_at text))) is
  where
    step : (a b : Bool) → is_version (suffix_by is_at text) ≡ b → (d : Bool)
        → (if a then Err NoVersion else (if not b then Err BadVersion else (if d then Err BadName
        else Ok (record { name = before_by is_at text; version = suffix_by is_at text })))) ≡ Ok key
        → length key.version ≡ 5
    step true b e d h = absurd (cc)
    step false false e d h = absurd (cc)
    step false true e true h = absurd (cc)
    step false true e false h =
        let whole : length (suffix_by is_at text) ≡ 5 =
        grind (arith, nat_tests, (and_parts (length (suffix_by is_at text) == 5) (list_all is_version_byte (suffix_by is_at text)) e).0) in
        let same : suffix_by is_at text ≡ key.version = ap (λ (r : Result Key KeyFault). version_in r (suffix_by is_at text)) h in
        ap length (sym same) ∙ whole

same_ends : (a b x y : List ℕ) → length x ≡ length y → a ++ 64 ∷ x ≡ b ++ 64 ∷ y → (a ≡ b) × (x ≡ y)
same_ends [] [] x y l is = (refl, (cc))
same_ends [] (d ∷ b) x y l is =
    let long : length (64 ∷ x) ≡ length (d ∷ (b ++ 64 ∷ y)) = ap length is in
    absurd (omega (arith, long, l, length-append b (64 ∷ y)))
same_ends (d ∷ a) [] x y l is =
    let long : length (d ∷ (a ++ 64 ∷ x)) ≡ length (64 ∷ y) = ap length is in
    absurd (omega (arith, long, l, length-append a (64 ∷ x)))
same_ends (d ∷ a) (e ∷ b) x y l is =
    let head : d ≡ e = cc in
    let later : a ++ 64 ∷ x ≡ b ++ 64 ∷ y = cc in
    let rest = same_ends a b x y l later in
    (ap (λ z. z ∷ a) head ∙ ap (λ zs. e ∷ zs) rest.0, rest.1)

key_back : (name version : List ℕ) (key : Key) → length version ≡ 5 → key_of (key_text name version) ≡ Ok key
    → key ≡ record { name = name; version = version }
key_back name version key five is =
    let same = same_ends name key.name version key.version (five ∙ sym (key_version (key_text name version) key is))
    (key_texts.alone (key_text name version) key is) in
    sym (ap (λ (n : List ℕ). record { name = n; version = version }) same.0
    ∙ ap (λ (v : List ℕ). record { name = key.name; version = v }) same.1)

implementation_back : (name version script styles : List ℕ) (messages : List Message) (said : Part) → length version ≡ 5
    → implementation_in (implement_arguments name version script styles messages) ≡ Some said
    → said ≡ Impl name version script styles messages
implementation_back name version script styles messages said five is =
    step (key_of (key_text name version)) (λ key e. key_back name version key five e) (sym (with_rest (result_ok (key_of (key_text name version)))) ∙ is)
  where
    made : List ℕ → List Message → Key → Option Part
    made css ms keyed = Some (Impl keyed.name keyed.version script css ms)

    with_rest : (o : Option Key)
        → option_and_then (λ (keyed : Key). option_and_then (λ css. Some (Impl keyed.name keyed.version script css (messages_among (members_of messages))))
        (styles_in (styles_value styles))) o
        ≡ option_and_then (λ (keyed : Key). Some (Impl keyed.name keyed.version script styles messages)) o
    with_rest None = refl
    with_rest (Some keyed) = rw (css_back styles, messages_back messages) refl

    step : (r : Result Key KeyFault) → ((key : Key) → r ≡ Ok key → key ≡ record { name = name; version = version })
        → option_and_then (λ (keyed : Key). Some (Impl keyed.name keyed.version script styles messages)) (result_ok r) ≡ Some said
        → said ≡ Impl name version script styles messages
    step (Err fault) back e = absurd (cc)
    step (Ok key) back e =
        let these : Impl key.name key.version script styles messages ≡ said = cc in
        sym these ∙ ap (λ (k : Key). Impl k.name k.version script styles messages) (back key refl)

kind_back : (kind : StateKind) → kind_named (kind_text kind) ≡ Some kind
kind_back Missing = refl
kind_back Error = refl

state_back : (name : List ℕ) (kind : StateKind) → state_in (state_arguments name (kind_text kind)) ≡ Some (State name kind)
state_back name kind = rw (kind_back kind) refl

in_order : (part : Part) → IsReadable part → IsInOrder part
in_order (Impl name version script styles messages) h = h.1
in_order (State name kind) h = tt

in_brackets : Part → List ℕ
in_brackets part = 91 ∷ (arguments_text (arguments_of part) ++ 93 ∷ [])

-- what a line says, where it is UTF-8
list_said : (part : Part) → IsReadable part
    → list_in (91 ∷ (arguments_text (arguments_of part) ++ 93 ∷ []))
    ≡ cond (is_utf8 (91 ∷ (arguments_text (arguments_of part) ++ 93 ∷ []))) (Some (arguments_of part)) None
list_said part h = step (is_utf8 (91 ∷ (arguments_text (arguments_of part) ++ 93 ∷ []))) (arguments_read_back part (in_order part h))
  where
    step : (b : Bool) → read (91 ∷ (arguments_text (arguments_of part) ++ 93 ∷ [])) ≡ Some (array_of (arguments_of part))
        → option_map listed (option_and_then as_array (if b then read (91 ∷ (arguments_text (arguments_of part) ++ 93 ∷ [])) else None))
        ≡ cond b (Some (arguments_of part)) None
    step true is = rw is (ap Some (list_back (arguments_of part)))
    step false is = refl

-- what the arguments of a part say
abbrev reads_in : Part → Option Part
reads_in (Impl name version script styles messages) = implementation_in (implement_arguments name version script styles messages)
reads_in (State name kind) = state_in (state_arguments name (kind_text kind))

reads_back : (part said : Part) → IsReadable part → reads_in part ≡ Some said → said ≡ part
reads_back (Impl name version script styles messages) said h is = implementation_back name version script styles messages said h.0 is
reads_back (State name kind) said h is = let found : Some (State name kind) ≡ Some said = sym (state_back name kind) ∙ is in cc

candidate_said : (part : Part) → IsReadable part
    → candidate (part_text part) ≡ cond (is_utf8 (91 ∷ (arguments_text (arguments_of part) ++ 93 ∷ []))) (reads_in part) None
candidate_said (Impl name version script styles messages) h =
    let part = Impl name version script styles messages in
    let args = arguments_text (implement_arguments name version script styles messages) in
    let cut : arguments_in 20 (part_text part) ≡ list_in (91 ∷ (args ++ 93 ∷ [])) =
    cut_text (part_text part) args 20 refl (omega (arith, length-append args (41 ∷ 59 ∷ []))) in
    ap (option_and_then implementation_in) (cut ∙ list_said part h) ∙ step (is_utf8 (91 ∷ (args ++ 93 ∷ [])))
  where
    step : (b : Bool) → option_and_then implementation_in (cond b (Some (implement_arguments name version script styles messages)) None)
        ≡ cond b (implementation_in (implement_arguments name version script styles messages)) None
    step true = refl
    step false = refl
candidate_said (State name kind) h =
    let part = State name kind in
    let args = arguments_text (state_arguments name (kind_text kind)) in
    let cut : arguments_in 16 (part_text part) ≡ list_in (91 ∷ (args ++ 93 ∷ [])) =
    cut_text (part_text part) args 16 refl (omega (arith, length-append args (41 ∷ 59 ∷ []))) in
    ap (option_and_then state_in) (cut ∙ list_said part h) ∙ step (is_utf8 (91 ∷ (args ++ 93 ∷ [])))
  where
    step : (b : Bool) → option_and_then state_in (cond b (Some (state_arguments name (kind_text kind))) None)
        ≡ cond b (state_in (state_arguments name (kind_text kind))) None
    step true = refl
    step false = refl

-- a line that is spelt so says what its arguments say
spelt_same : (text : List ℕ) (found said : Part) (b : Bool) → bytes_eq (part_text found) text ≡ b → cond b (Some found) None ≡ Some said → found ≡ said
spelt_same text found said true e is = cc
spelt_same text found said false e is = absurd (cc)

part_said : (part said : Part) → IsReadable part → part_in (part_text part) ≡ Some said → said ≡ part
part_said part said h is =
    step (is_utf8 (91 ∷ (arguments_text (arguments_of part) ++ 93 ∷ []))) (reads_in part) (λ p e. reads_back part p h e)
    (sym (ap (option_and_then (spelt (part_text part))) (candidate_said part h)) ∙ is)
  where
    step : (b : Bool) (o : Option Part) → ((p : Part) → o ≡ Some p → p ≡ part)
        → option_and_then (spelt (part_text part)) (cond b o None) ≡ Some said → said ≡ part
    step false o back e = absurd (cc)
    step true None back e = absurd (cc)
    step true (Some p) back e = sym (spelt_same (part_text part) p said (bytes_eq (part_text p) (part_text part)) refl e) ∙ back p refl

-- ---- an answer says its parts

one_line : (n : ℕ) (text rest : List ℕ) → no_end text ≡ true →
    of_lines n (slice_split is_line_end (text ++ 10 ∷ rest)) ≡ said_by n (part_in text) (of_lines (n + 1) (slice_split is_line_end rest))
one_line n text rest h = ap (of_lines n) (split_at_end text rest h) ∙ from_first n text rest

lines_said : (n : ℕ) (parts said : List Part) → AllByRecursion IsReadable parts → of_lines n (slice_split is_line_end (wire_text parts)) ≡ Ok said
    → said ≡ parts
lines_said n [] said h is = cc
lines_said n (part ∷ parts) said h is =
    step (part_in (part_text part)) (of_lines (n + 1) (slice_split is_line_end (wire_text parts)))
    (λ p e. part_said part p h.0 e) (λ more e. lines_said (n + 1) parts more h.1 e)
    (sym (ap (λ text. of_lines n (slice_split is_line_end text)) (line_then (part_text part) (wire_text parts))
    ∙ one_line n (part_text part) (wire_text parts) (plain_part part)) ∙ is)
  where
    step : (o : Option Part) (r : Result (List Part) ℕ) → ((p : Part) → o ≡ Some p → p ≡ part) → ((more : List Part) → r ≡ Ok more → more ≡ parts)
        → said_by n o r ≡ Ok said → said ≡ part ∷ parts
    step None r one later e = absurd (cc)
    step (Some p) (Err bad) one later e = absurd (cc)
    step (Some p) (Ok more) one later e =
        let same : p ≡ part = one p refl in
        let rest : more ≡ parts = later more refl in
        let these : said ≡ p ∷ more = cc in
        these ∙ ap (λ q. q ∷ more) same ∙ ap (λ qs. part ∷ qs) rest

pub answer_said : (parts said : List Part) → AllByRecursion IsReadable parts → answer_of (wire_text parts) ≡ Ok said → said ≡ parts
answer_said parts said h is = lines_said 1 parts said h is
