-- A startup text, from its lines, and a row, from its fields.
use Rattle.std.proofs.Common.{◌≡◌, ℕ, ◌+◌, ◌<◌, List, [], ◌∷◌, length, take, drop, Option, Some, None, option_and_then, Err, unwrap_or}
use Rattle.std.proofs.Common.{refl, sym, ap, ◌∙◌, arith}
use Rattle.std.specs.List.{position, join_with_byte}
use Rattle.std.proofs.lemmas.List.{drop-drop}
use Rattle.std.proofs.lemmas.List.Splits.{join_with_byte-slice_split}
use Rattle.serde_json.specs.Data.{Data, Members}
use Rattle.serde_json.specs.Find.{as_object, as_str}
use Rattle.rl_names.specs.declared.part.Source.{Source}
use Rattle.rl_names.specs.declared.row.Dep.{Dep}
use Rattle.rl_names.specs.declared.row.Group.{Group}
use Rattle.rl_names.specs.declared.row.Row.{Row}
use Rattle.rl_wire.specs.Arguments.{arguments_in, first, is_line_end}
use Rattle.rl_wire.specs.StartupReading.{sources_among, if_sources, sources_in, name_in, version_in, deps_in, group_in, next_field, row_with, if_writable}
use Rattle.rl_wire.specs.StartupReading.{row_of, rows_in, rows_alone, startup_by, of_startup_lines, startup_of}
use Rattle.rl_wire.proofs.LinesLemmas.{cut, first_line}
use Rattle.rl_wire.proofs.LoopingLemmas.{cut_line, last_line}

-- ---- the second line

pub no_line : (bytes : List ℕ) → position is_line_end bytes ≡ None → None ≡ rows_alone (cut bytes)
no_line bytes none = sym (ap rows_alone (last_line bytes none))

some_behind : (text : List ℕ) (x : ℕ) (xs next : List ℕ) (texts : List (List ℕ)) → cut (x ∷ xs) ≡ next ∷ texts →
    None ≡ rows_alone (text ∷ next ∷ texts)
some_behind text x xs [] [] is = absurd (let whole : [] ≡ x ∷ xs = ap (join_with_byte 10) (sym is) ∙ join_with_byte-slice_split 10 (x ∷ xs) in cc)
some_behind text x xs [] (y ∷ ys) is = refl
some_behind text x xs (b ∷ bs) texts is = refl

behind_line : (text rest : List ℕ) → 0 < length rest → None ≡ rows_alone (text ∷ cut rest)
behind_line text [] some = absurd (omega arith)
behind_line text (x ∷ xs) some =
    let f = first_line (x ∷ xs) in some_behind text x xs f.0 f.1 f.2 ∙ ap (λ texts. rows_alone (text ∷ texts)) (sym f.2)

pub not_alone : (bytes rest : List ℕ) (at : ℕ) → position is_line_end bytes ≡ Some at → rest ≡ drop (at + 1) bytes → 0 < length rest →
    None ≡ rows_alone (cut bytes)
not_alone bytes rest at is same some =
    behind_line (take at bytes) rest some ∙ ap (λ r. rows_alone (take at bytes ∷ cut r)) same ∙ ap rows_alone (sym (cut_line bytes at is))

pub alone : (bytes line rest : List ℕ) (at : ℕ) → position is_line_end bytes ≡ Some at → line ≡ take at bytes → rest ≡ drop (at + 1) bytes →
    length rest ≡ 0 → rows_in line ≡ rows_alone (cut bytes)
alone bytes line [] at is here same none =
    ap rows_in here ∙ ap (λ r. rows_alone (take at bytes ∷ cut r)) same ∙ ap rows_alone (sym (cut_line bytes at is))
alone bytes line (x ∷ xs) at is here same none = absurd (omega arith)

-- ---- both lines

pub no_first_line : (bytes : List ℕ) → position is_line_end bytes ≡ None → startup_of bytes ≡ Err 1
no_first_line bytes none = ap of_startup_lines (last_line bytes none)

from_first : (text bytes : List ℕ) → of_startup_lines (text ∷ cut bytes) ≡ startup_by (sources_in text) (cut bytes)
from_first text bytes = let f = first_line bytes in rw f.2 refl

pub with_first_line : (bytes line rest : List ℕ) (at : ℕ) → position is_line_end bytes ≡ Some at → line ≡ take at bytes →
    rest ≡ drop (at + 1) bytes → startup_of bytes ≡ startup_by (sources_in line) (cut rest)
with_first_line bytes line rest at is here same =
    ap of_startup_lines (cut_line bytes at is) ∙ from_first (take at bytes) (drop (at + 1) bytes)
    ∙ ap (λ t. startup_by (sources_in t) (cut (drop (at + 1) bytes))) (sym here) ∙ ap (λ r. startup_by (sources_in line) (cut r)) (sym same)

-- ---- what is read, step by step

pub sources_made : (line : List ℕ) (argument : Data) (members : Members) (ss : List Source) →
    Some argument ≡ option_and_then first (arguments_in 20 line) → Some members ≡ as_object argument
    → ss ≡ sources_among members → if_sources line ss ≡ sources_in line
sources_made line argument _ ss given object these =
    ap (if_sources line) these ∙ ap (λ o. option_and_then (λ ms. if_sources line (sources_among ms)) o) object
    ∙ ap (λ o. option_and_then (λ ms. if_sources line (sources_among ms)) (option_and_then as_object o)) given

pub row_made : (fields f1 f2 f3 f4 f5 : List Data) (n v d g s k : Data) (name : List ℕ) (version : Option (List ℕ)) (deps : List Dep) (group : Group)
    (source : List ℕ) (skip : Option (List ℕ))
    → n ≡ next_field fields → f1 ≡ drop 1 fields → v ≡ next_field f1 → f2 ≡ drop 1 f1 → d ≡ next_field f2 → f3 ≡ drop 1 f2 →
    g ≡ next_field f3 → f4 ≡ drop 1 f3 → s ≡ next_field f4
    → f5 ≡ drop 1 f4 → k ≡ next_field f5 → Some name ≡ name_in n → version ≡ version_in v → deps ≡ deps_in d → group ≡ group_in g →
    source ≡ unwrap_or (as_str s) [] → skip ≡ as_str k
    → if_writable (record { name = name; version = version; deps = deps; group = group; source = source; skip = skip }) ≡ row_of fields
row_made fields f1 f2 f3 f4 f5 n v d g s k name version deps group source skip hn h1 hv h2 hd h3 hg h4 hs h5 hk named hversion hdeps hgroup hsource hskip =
    let d2 : f2 ≡ drop 2 fields = h2 ∙ ap (drop 1) h1 ∙ drop-drop 1 1 fields in
    let d3 : f3 ≡ drop 3 fields = h3 ∙ ap (drop 1) d2 ∙ drop-drop 1 2 fields in
    let d4 : f4 ≡ drop 4 fields = h4 ∙ ap (drop 1) d3 ∙ drop-drop 1 3 fields in
    let d5 : f5 ≡ drop 5 fields = h5 ∙ ap (drop 1) d4 ∙ drop-drop 1 4 fields in
    let wv : v ≡ next_field (drop 1 fields) = hv ∙ ap next_field h1 in
    let wd : d ≡ next_field (drop 2 fields) = hd ∙ ap next_field d2 in
    let wg : g ≡ next_field (drop 3 fields) = hg ∙ ap next_field d3 in
    let ws : s ≡ next_field (drop 4 fields) = hs ∙ ap next_field d4 in
    let wk : k ≡ next_field (drop 5 fields) = hk ∙ ap next_field d5 in
    let made : Row = row_with (next_field (drop 1 fields)) (next_field (drop 2 fields)) (next_field (drop 3 fields)) (next_field (drop 4 fields))
    (next_field (drop 5 fields)) name in
    let given : Row = record { name = name; version = version; deps = deps; group = group; source = source; skip = skip } in
    let same : given ≡ made =
    rw (hversion, wv, hdeps, wd, hgroup, wg, hsource, ws, hskip, wk) refl in
    ap if_writable same ∙ named_row (name_in (next_field fields)) name (named ∙ ap name_in hn)
  where
    named_row : (o : Option (List ℕ)) (name : List ℕ) → Some name ≡ o
        → if_writable (row_with (next_field (drop 1 fields)) (next_field (drop 2 fields)) (next_field (drop 3 fields)) (next_field (drop 4 fields))
        (next_field (drop 5 fields)) name)
        ≡ option_and_then (λ name. if_writable (row_with (next_field (drop 1 fields)) (next_field (drop 2 fields)) (next_field (drop 3 fields))
        (next_field (drop 4 fields)) (next_field (drop 5 fields)) name)) o
    named_row o name is =
        ap (λ o. option_and_then (λ name. if_writable (row_with (next_field (drop 1 fields)) (next_field (drop 2 fields)) (next_field (drop 3 fields))
        (next_field (drop 4 fields)) (next_field (drop 5 fields)) name)) o) is
