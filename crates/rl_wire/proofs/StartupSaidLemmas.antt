-- A startup text that was written is read again.
use Rattle.std.proofs.Common.{◌≡◌, ℕ, ◌+◌, ◌^◌, ◌<◌, ◌≤◌, true, false, ◌==◌, nat_lt, List, [], ◌∷◌, ◌++◌, map, drop}
use Rattle.std.proofs.Common.{codes, bytes_eq, IsUtf8, IsTrue, Option, Some, None, Ok, refl, sym, ap, ◌∙◌, arith, length-append, append_assoc}
use Rattle.std.specs.Prelude.{unwrap_or, IfSome, is_some}
use Rattle.std.specs.List.{AllByRecursion, filter_map}
use Rattle.std.proofs.lemmas.Bool.{and_parts}
use Rattle.std.proofs.lemmas.Bool.Decides.{nat_tests}
use Rattle.std.proofs.lemmas.Slice.Eq.{bytes_eq-Decides}
use Rattle.std.proofs.lemmas.Str.{IsUtf8-from_ascii, IsUtf8-nil}
use Rattle.serde_json.specs.Data.{Data, unsigned, null, number, string, array, object, no_items, depth, items_depth, members_depth}
use Rattle.serde_json.specs.Read.{read}
use Rattle.serde_json.specs.Find.{as_str}
use Rattle.rl_names.proofs.AsciiLemmas.{name_ascii, version_ascii}
use Rattle.rl_names.specs.Name.{is_version}
use Rattle.rl_names.specs.declared.part.Source.{Source}
use Rattle.rl_names.specs.declared.row.Dep.{Dep}
use Rattle.rl_names.specs.declared.row.Dep.TheVariants.{At, Named}
use Rattle.rl_names.specs.declared.row.Group.{Group}
use Rattle.rl_names.specs.declared.row.Group.TheVariants.{Plain, User, Private, Other}
use Rattle.rl_names.specs.declared.row.Row.{Row}
use Rattle.rl_wire.specs.declared.startup.Startup.{Startup}
use Rattle.rl_wire.specs.Payload.{items_of, array_of}
use Rattle.rl_wire.specs.Line.{arguments_text, line}
use Rattle.rl_wire.specs.Arguments.{list_in, arguments_in}
use Rattle.rl_wire.specs.Startup.{source_members, sources_text, dep_value, deps_field, group_field, source_field, skip_field, with_field, fields_of, row_value}
use Rattle.rl_wire.specs.Startup.{rows_text, startup_text, fits_group, is_writable, IsBefore, AreOrdered, AreWritable, IsWritable, AreSources, IsDep, IsGroup}
use Rattle.rl_wire.specs.Startup.{IsRow, IsStartup}
use Rattle.rl_wire.specs.StartupReading.{sources_among, sources_in, dep_in, deps_in, group_in, version_in, next_field, row_with, if_writable, row_of, row_in}
use Rattle.rl_wire.specs.StartupReading.{rows_in, startup_of, of_startup_lines}
use Rattle.rl_wire.proofs.PlainLemmas.{no_end, no_end-append, no_end-arguments}
use Rattle.rl_wire.proofs.PrintedLemmas.{in_brackets}
use Rattle.rl_wire.proofs.GoodLemmas.{IsGood, AreGood, HasGood, IsAbove, good_reads_back, textual_good}
use Rattle.rl_wire.proofs.SaidLemmas.{cut_text, list_read, list_back}
use Rattle.rl_wire.proofs.LinesLemmas.{cut, split_at_end}

-- ---- one argument

read_one : (d : Data) → IsGood d → depth d ≤ 100 → list_in (91 ∷ (arguments_text (d ∷ []) ++ 93 ∷ [])) ≡ Some (d ∷ [])
read_one d good shallow =
    list_read (d ∷ []) (textual_good d good, tt)
    (ap read (sym (in_brackets (d ∷ []))) ∙ good_reads_back (array_of (d ∷ [])) (good, tt) (omega arith))

no_end_one : (d : Data) → IsGood d → no_end (arguments_text (d ∷ [])) ≡ true
no_end_one d good = no_end-arguments (d ∷ []) (textual_good d good, tt)

-- ---- values so deep at most

record Fine (n : ℕ) (d : Data) : Type 0 where
  good : IsGood d
  shallow : depth d ≤ n

good_items : (n : ℕ) (ds : List Data) → AllByRecursion (Fine n) ds → AreGood (items_of ds)
good_items n [] h = tt
good_items n (d ∷ ds) h = (h.0.good, good_items n ds h.1)

shallow_items : (n : ℕ) (ds : List Data) → AllByRecursion (Fine n) ds → items_depth (items_of ds) ≤ n
shallow_items n [] h = omega arith
shallow_items n (d ∷ ds) h = omega (arith, h.0.shallow, shallow_items n ds h.1)

Fine-array : (n : ℕ) (ds : List Data) → AllByRecursion (Fine n) ds → Fine (n + 1) (array_of ds)
Fine-array n ds h = record { good = good_items n ds h; shallow = omega (arith, shallow_items n ds h) }

Fine-string : (n : ℕ) (s : List ℕ) → IsUtf8 s → Fine n (string s)
Fine-string n s u = record { good = u; shallow = omega arith }

Fine-number : (n m : ℕ) → m < 2 ^ 64 → Fine n (number (unsigned m))
Fine-number n m h = record { good = h; shallow = omega arith }

Fine-null : (n : ℕ) → Fine n null
Fine-null n = record { good = tt; shallow = omega arith }

-- ---- sources

above : (name : List ℕ) (ss : List Source) → IsBefore name ss → IsAbove name (source_members ss)
above name [] h = tt
above name (s ∷ ss) h = (h.0, above name ss h.1)

good_sources : (ss : List Source) → AreSources ss → AreOrdered ss → HasGood (source_members ss)
good_sources [] h k = tt
good_sources (s ∷ ss) h k = (above s.name ss k.0, h.0.1, good_sources ss h.1 k.1, h.0.0)

shallow_sources : (ss : List Source) → members_depth (source_members ss) ≤ 0
shallow_sources [] = omega arith
shallow_sources (s ∷ ss) = omega (arith, shallow_sources ss)

sources_back : (ss : List Source) → sources_among (source_members ss) ≡ ss
sources_back [] = refl
sources_back (s ∷ ss) = ap (λ (xs : List Source). s ∷ xs) (sources_back ss)

same_bytes : (xs : List ℕ) → bytes_eq xs xs ≡ true
same_bytes xs = (bytes_eq-Decides xs xs).1 refl

pub sources_said : (ss : List Source) → AreSources ss → AreOrdered ss → sources_in (sources_text ss) ≡ Some ss
sources_said ss h k =
    let d = object (source_members ss) in
    let shallow : depth d ≤ 100 = omega (arith, shallow_sources ss) in
    let cut_here : arguments_in 20 (sources_text ss) ≡ list_in (91 ∷ (arguments_text (d ∷ []) ++ 93 ∷ [])) =
    cut_text (sources_text ss) (arguments_text (d ∷ [])) 20 refl (omega (arith, length-append (arguments_text (d ∷ [])) (41 ∷ 59 ∷ []))) in
    rw (cut_here, read_one d (good_sources ss h k) shallow, sources_back ss, same_bytes (sources_text ss)) refl

pub no_end-sources : (ss : List Source) → AreSources ss → AreOrdered ss → no_end (sources_text ss) ≡ true
no_end-sources ss h k =
    let args = arguments_text (object (source_members ss) ∷ []) in
    no_end-append (codes "mw.loader.addSource(") (args ++ codes ");") refl
    (no_end-append args (codes ");") (no_end_one (object (source_members ss)) (good_sources ss h k)) refl)

-- ---- fields of a row

fine_dep : (dep : Dep) → IsDep dep → Fine 0 (dep_value dep)
fine_dep (At row) h = Fine-number 0 row (omega arith)
fine_dep (Named name) h = Fine-string 0 name h

fine_deps : (deps : List Dep) → AllByRecursion IsDep deps → AllByRecursion (Fine 0) (map dep_value deps)
fine_deps [] h = tt
fine_deps (d ∷ ds) h = (fine_dep d h.0, fine_deps ds h.1)

fine_deps_field : (deps : List Dep) → AllByRecursion IsDep deps → IfSome (deps_field deps) (Fine 1)
fine_deps_field [] h = tt
fine_deps_field (d ∷ ds) h = Fine-array 0 (map dep_value (d ∷ ds)) (fine_deps (d ∷ ds) h)

fine_group : (group : Group) → IsGroup group → IfSome (group_field group) (Fine 1)
fine_group Plain h = tt
fine_group User h = Fine-number 1 0 (omega arith)
fine_group Private h = Fine-number 1 1 (omega arith)
fine_group (Other n) h = Fine-number 1 n (omega (arith, h))

fine_source : (source : List ℕ) → IsUtf8 source → IfSome (source_field source) (Fine 1)
fine_source [] u = tt
fine_source (b ∷ bs) u = Fine-string 1 (b ∷ bs) u

fine_skip : (skip : Option (List ℕ)) → IfSome skip IsUtf8 → IfSome (skip_field skip) (Fine 1)
fine_skip None h = tt
fine_skip (Some skip) h = Fine-string 1 skip h

fine_with : (blank : Data) (field : Option Data) (later : List Data) → Fine 1 blank → IfSome field (Fine 1) → AllByRecursion (Fine 1) later →
    AllByRecursion (Fine 1) (with_field blank field later)
fine_with blank (Some field) later b f all = (f, all)
fine_with blank None [] b f all = tt
fine_with blank None (next ∷ later) b f all = (b, all)

utf8_version : (version : Option (List ℕ)) → IfSome version (λ v. IsTrue (is_version v)) → IsUtf8 (unwrap_or version [])
utf8_version None h = IsUtf8-nil
utf8_version (Some v) h = IsUtf8-from_ascii v (version_ascii v h)

fine_row : (r : Row) → IsRow r → Fine 2 (row_value r)
fine_row r h =
    Fine-array 1 (string r.name ∷ string (unwrap_or r.version []) ∷ fields_of r) (
      Fine-string 1 r.name (IsUtf8-from_ascii r.name (name_ascii r.name h.name)),
      (
        Fine-string 1 (unwrap_or r.version []) (utf8_version r.version h.version),
        fine_with (array no_items) (deps_field r.deps) _ (Fine-array 0 [] tt) (fine_deps_field r.deps h.fields.deps)
            (fine_with null (group_field r.group) _ (Fine-null 1) (fine_group r.group h.fields.group)
            (fine_with null (source_field r.source) _ (Fine-null 1) (fine_source r.source h.fields.source)
            (fine_with null (skip_field r.skip) [] (Fine-null 1) (fine_skip r.skip h.fields.skip) tt))),
      ),
    )

fine_rows : (rows : List Row) → AllByRecursion IsRow rows → AllByRecursion (Fine 2) (map row_value rows)
fine_rows [] h = tt
fine_rows (r ∷ rs) h = (fine_row r h.0, fine_rows rs h.1)

-- ---- rows are read again

small_number : (n : ℕ) → n < 2 ^ 32 → nat_lt n (2 ^ 32) ≡ true
small_number n h = grind (arith, nat_tests)

dep_back : (dep : Dep) → IsDep dep → dep_in (dep_value dep) ≡ Some dep
dep_back (At row) h = rw (small_number row h) refl
dep_back (Named name) h = refl

deps_list_back : (deps : List Dep) → AllByRecursion IsDep deps → filter_map dep_in (map dep_value deps) ≡ deps
deps_list_back [] h = refl
deps_list_back (d ∷ ds) h = rw (dep_back d h.0, deps_list_back ds h.1) refl

deps_back : (deps : List Dep) → AllByRecursion IsDep deps → deps_in (unwrap_or (deps_field deps) null) ≡ deps
deps_back [] h = refl
deps_back (d ∷ ds) h = ap (filter_map dep_in) (list_back (map dep_value (d ∷ ds))) ∙ deps_list_back (d ∷ ds) h

group_back : (group : Group) (version : Option (List ℕ)) → IsGroup group → fits_group group version ≡ true →
    group_in (unwrap_or (group_field group) null) ≡ group
group_back Plain version h fits = refl
group_back User version h fits = refl
group_back Private version h fits = refl
group_back (Other n) version h fits =
    let own : nat_lt 1 n ≡ true = (and_parts (nat_lt 1 n) (is_some version) fits).0 in
    let zero_no : (n == 0) ≡ false = grind (arith, nat_tests) in
    let one_no : (n == 1) ≡ false = grind (arith, nat_tests) in
    rw (small_number n h, zero_no, one_no) refl

source_back : (source : List ℕ) → unwrap_or (as_str (unwrap_or (source_field source) null)) [] ≡ source
source_back [] = refl
source_back (b ∷ bs) = refl

skip_back : (skip : Option (List ℕ)) → as_str (unwrap_or (skip_field skip) null) ≡ skip
skip_back None = refl
skip_back (Some skip) = refl

version_back : (version : Option (List ℕ)) → IfSome version (λ v. IsTrue (is_version v)) → version_in (string (unwrap_or version [])) ≡ version
version_back None h = refl
version_back (Some v) h = rw h refl

-- the row of these fields
abbrev row_by : List Data → List ℕ → Row
row_by fields name = row_with (next_field (drop 1 fields)) (next_field (drop 2 fields)) (next_field (drop 3 fields)) (next_field (drop 4 fields))
    (next_field (drop 5 fields)) name

-- fields that are left out are as blank ones
fields_back : (n v : Data) (a b c d : Option Data) (name : List ℕ) →
    row_by (n ∷ v ∷ with_field (array no_items) a (with_field null b (with_field null c (with_field null d [])))) name
    ≡ row_with v (unwrap_or a null) (unwrap_or b null) (unwrap_or c null) (unwrap_or d null) name
fields_back n v None None None None name = refl
fields_back n v None None None (Some d) name = refl
fields_back n v None None (Some c) None name = refl
fields_back n v None None (Some c) (Some d) name = refl
fields_back n v None (Some b) None None name = refl
fields_back n v None (Some b) None (Some d) name = refl
fields_back n v None (Some b) (Some c) None name = refl
fields_back n v None (Some b) (Some c) (Some d) name = refl
fields_back n v (Some a) None None None name = refl
fields_back n v (Some a) None None (Some d) name = refl
fields_back n v (Some a) None (Some c) None name = refl
fields_back n v (Some a) None (Some c) (Some d) name = refl
fields_back n v (Some a) (Some b) None None name = refl
fields_back n v (Some a) (Some b) None (Some d) name = refl
fields_back n v (Some a) (Some b) (Some c) None name = refl
fields_back n v (Some a) (Some b) (Some c) (Some d) name = refl

fits : (r : Row) → IsTrue (is_writable r) → fits_group r.group r.version ≡ true
fits r w = (and_parts _ _ (and_parts _ _ w).0).0

row_same : (r : Row) → IsRow r → IsTrue (is_writable r)
    → row_with (string (unwrap_or r.version [])) (unwrap_or (deps_field r.deps) null) (unwrap_or (group_field r.group) null)
    (unwrap_or (source_field r.source) null) (unwrap_or (skip_field r.skip) null) r.name ≡ r
row_same r h w =
    rw (
      version_back r.version h.version,
      deps_back r.deps h.fields.deps,
      group_back r.group r.version h.fields.group (fits r w),
      source_back r.source,
      skip_back r.skip,
    ) refl

if_named : (r : Row) (fields : List Data) → IsRow r → IsTrue (is_writable r) → row_by (string r.name ∷ fields) r.name ≡ r →
    row_of (string r.name ∷ fields) ≡ Some r
if_named r fields h w same = rw (h.name) (ap if_writable same ∙ rw w refl)

row_back : (r : Row) → IsRow r → IsTrue (is_writable r) → row_in (row_value r) ≡ Some r
row_back r h w =
    ap row_of (list_back (string r.name ∷ string (unwrap_or r.version []) ∷ fields_of r))
    ∙ if_named r (string (unwrap_or r.version []) ∷ fields_of r) h w
    (fields_back (string r.name) (string (unwrap_or r.version [])) (deps_field r.deps) (group_field r.group) (source_field r.source) (skip_field r.skip) r.name
    ∙ row_same r h w)

rows_back : (rows : List Row) → AllByRecursion IsRow rows → AreWritable rows → filter_map row_in (map row_value rows) ≡ rows
rows_back [] h w = refl
rows_back (r ∷ rs) h w = rw (row_back r h.0 w.0, rows_back rs h.1 w.1) refl

pub rows_said : (rows : List Row) → AllByRecursion IsRow rows → AreWritable rows → rows_in (rows_text rows) ≡ Some rows
rows_said rows h w =
    let d = array_of (map row_value rows) in
    let fine = Fine-array 2 (map row_value rows) (fine_rows rows h) in
    let shallow : depth d ≤ 100 = omega (arith, fine.shallow) in
    let cut_here : arguments_in 19 (rows_text rows) ≡ list_in (91 ∷ (arguments_text (d ∷ []) ++ 93 ∷ [])) =
    cut_text (rows_text rows) (arguments_text (d ∷ [])) 19 refl (omega (arith, length-append (arguments_text (d ∷ [])) (41 ∷ 59 ∷ []))) in
    rw (cut_here, read_one d fine.good shallow, list_back (map row_value rows), rows_back rows h w, same_bytes (rows_text rows)) refl

pub no_end-rows : (rows : List Row) → AllByRecursion IsRow rows → no_end (rows_text rows) ≡ true
no_end-rows rows h =
    let args = arguments_text (array_of (map row_value rows) ∷ []) in
    let fine = Fine-array 2 (map row_value rows) (fine_rows rows h) in
    no_end-append (codes "mw.loader.register(") (args ++ codes ");") refl
    (no_end-append args (codes ");") (no_end_one (array_of (map row_value rows)) fine.good) refl)

-- ---- both lines

two_lines : (a b : List ℕ) → no_end a ≡ true → no_end b ≡ true → cut (line a ++ line b) ≡ a ∷ b ∷ [] ∷ []
two_lines a b h k =
    ap cut (append_assoc a (10 ∷ []) (line b)) ∙ split_at_end a (line b) h ∙ ap (λ texts. a ∷ texts) (split_at_end b [] k)

pub startup_again : (s : Startup) → IsStartup s → IsWritable s → startup_of (startup_text s) ≡ Ok s
startup_again s h w =
    ap of_startup_lines (two_lines (sources_text s.sources) (rows_text s.rows) (no_end-sources s.sources h.sources w.sources) (no_end-rows s.rows h.rows))
    ∙ rw (sources_said s.sources h.sources w.sources, rows_said s.rows h.rows w.rows) refl
