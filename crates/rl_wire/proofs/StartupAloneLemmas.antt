-- No text but a startup text is read, and of any other the first bad line is told.
use Rattle.std.proofs.Common.{◌≡◌, inl, inr, ℕ, Bool, true, false, cond, List, [], ◌∷◌, ◌++◌, bytes_eq, Option, Some, None, option_and_then}
use Rattle.std.proofs.Common.{option_map, Ok, Err, refl, sym, ap, ◌∙◌, subst}
use Rattle.std.specs.List.{AllByRecursion, filter_map}
use Rattle.std.proofs.lemmas.Slice.Eq.{bytes_eq-Decides}
use Rattle.std.proofs.lemmas.List.Splits.{join_with_byte-slice_split}
use Rattle.std.specs.List.{join_with_byte}
use Rattle.serde_json.specs.Data.{Data, Members}
use Rattle.serde_json.specs.Find.{as_array, as_object}
use Rattle.rl_names.specs.declared.part.Source.{Source}
use Rattle.rl_names.specs.declared.row.Row.{Row}
use Rattle.rl_wire.specs.declared.startup.Startup.{Startup}
use Rattle.rl_wire.specs.Line.{line}
use Rattle.rl_wire.specs.Arguments.{arguments_in, listed, first}
use Rattle.rl_wire.specs.Startup.{sources_text, rows_text, startup_text, AreWritable, IsWritable, IsRow, IsStartup}
use Rattle.rl_wire.specs.StartupReading.{sources_among, if_sources, sources_in, row_in, if_rows, rows_in, rows_alone, with_rows, startup_by, of_startup_lines}
use Rattle.rl_wire.specs.StartupReading.{startup_of, BadFirst, BadSecond, IsBadStartup, TextsSayStartups}
use Rattle.rl_wire.proofs.PlainLemmas.{no_end}
use Rattle.rl_wire.proofs.LinesLemmas.{cut, AreLines, split_at_end, first_line, lines_of, line_then, same_line, never_ends}
use Rattle.rl_wire.proofs.StartupSaidLemmas.{sources_said, rows_said, no_end-sources, no_end-rows, startup_again}

-- ---- a line counts only where it is spelt so

spelt : {A : Type 0} (f : A → List ℕ) (text : List ℕ) (x a : A) (b : Bool) → bytes_eq (f x) text ≡ b → cond b (Some x) None ≡ Some a →
    f a ≡ text
spelt f text x a true e is = let same : x ≡ a = cc in ap f (sym same) ∙ (bytes_eq-Decides (f x) text).0 e
spelt f text x a false e is = absurd (cc)

sources_alone_by : (text : List ℕ) (o : Option Members) (ss : List Source) →
    option_and_then (λ members. if_sources text (sources_among members)) o ≡ Some ss → sources_text ss ≡ text
sources_alone_by text None ss is = absurd (cc)
sources_alone_by text (Some members) ss is = spelt sources_text text (sources_among members) ss (bytes_eq (sources_text (sources_among members)) text) refl is

sources_alone : (text : List ℕ) (ss : List Source) → sources_in text ≡ Some ss → sources_text ss ≡ text
sources_alone text ss is = sources_alone_by text (option_and_then as_object (option_and_then first (arguments_in 20 text))) ss is

rows_alone_by : (text : List ℕ) (o : Option (List Data)) (rows : List Row) →
    option_and_then (λ values. if_rows text (filter_map row_in values)) o ≡ Some rows → rows_text rows ≡ text
rows_alone_by text None rows is = absurd (cc)
rows_alone_by text (Some values) rows is = spelt rows_text text (filter_map row_in values) rows (bytes_eq (rows_text (filter_map row_in values)) text) refl is

rows_only : (text : List ℕ) (rows : List Row) → rows_in text ≡ Some rows → rows_text rows ≡ text
rows_only text rows is = rows_alone_by text (option_map listed (option_and_then as_array (option_and_then first (arguments_in 19 text)))) rows is

-- ---- the lines of a text

joined : List ℕ → List (List ℕ) → List ℕ
joined text texts = join_with_byte 10 (text ∷ texts)

rejoined : (bytes text : List ℕ) (texts : List (List ℕ)) → cut bytes ≡ text ∷ texts → bytes ≡ joined text texts
unfolding joined
rejoined bytes text texts is = sym (join_with_byte-slice_split 10 bytes) ∙ ap (join_with_byte 10) is

first_no_end : (bytes text : List ℕ) (texts : List (List ℕ)) → cut bytes ≡ text ∷ texts → no_end text ≡ true
unfolding AreLines
first_no_end bytes text texts is = let all = lines_of bytes in let h = rw is at all in h.0

-- ---- only startup texts are read

second : (ss : List Source) (text bytes next : List ℕ) (o : Option (List Row)) (s : Startup) → sources_text ss ≡ text →
    bytes ≡ joined text (next ∷ [] ∷ []) → rows_in next ≡ o → with_rows ss o ≡ Ok s → startup_text s ≡ bytes
unfolding joined
second ss text bytes next None s first whole e is = absurd (cc)
second ss text bytes next (Some rows) s first whole e is =
    let made : Startup = record { sources = ss; rows = rows } in
    let same : made ≡ s = cc in
    ap startup_text (sym same) ∙ line_then (sources_text ss) (line (rows_text rows)) ∙ ap (λ t. t ++ 10 ∷ line (rows_text rows)) first
    ∙ ap (λ t. text ++ 10 ∷ line t) (rows_only next rows e) ∙ sym whole

by_rest : (ss : List Source) (text bytes next : List ℕ) (rest : List (List ℕ)) (s : Startup) → sources_text ss ≡ text →
    bytes ≡ joined text (next ∷ rest) → with_rows ss (rows_alone (next ∷ rest)) ≡ Ok s → startup_text s ≡ bytes
by_rest ss text bytes next [] s first whole is = absurd (cc)
by_rest ss text bytes next ([] ∷ []) s first whole is = second ss text bytes next (rows_in next) s first whole refl is
by_rest ss text bytes next ([] ∷ y ∷ ys) s first whole is = absurd (cc)
by_rest ss text bytes next ((b ∷ bs) ∷ ys) s first whole is = absurd (cc)

by_sources : (text bytes next : List ℕ) (rest : List (List ℕ)) (o : Option (List Source)) (s : Startup) → sources_in text ≡ o →
    bytes ≡ joined text (next ∷ rest) → startup_by o (next ∷ rest) ≡ Ok s → startup_text s ≡ bytes
by_sources text bytes next rest None s e whole is = absurd (cc)
by_sources text bytes next rest (Some ss) s e whole is = by_rest ss text bytes next rest s (sources_alone text ss e) whole is

by_lines : (text bytes : List ℕ) (texts : List (List ℕ)) (s : Startup) → bytes ≡ joined text texts → of_startup_lines (text ∷ texts) ≡ Ok s →
    startup_text s ≡ bytes
by_lines text bytes [] s whole is = absurd (cc)
by_lines text bytes (next ∷ rest) s whole is = by_sources text bytes next rest (sources_in text) s refl whole is

startup_alone : (bytes : List ℕ) (s : Startup) → startup_of bytes ≡ Ok s → startup_text s ≡ bytes
startup_alone bytes s is = let f = first_line bytes in by_lines f.0 bytes f.1 s (rejoined bytes f.0 f.1 f.2) (sym (ap of_startup_lines f.2) ∙ is)

-- ---- the first bad line

one_line_bad : (text : List ℕ) → no_end text ≡ true → BadFirst text
one_line_bad text h sources more ok ordered is = never_ends text (sources_text sources) more h (is ∙ line_then (sources_text sources) more)

first_bad : (text : List ℕ) (more : List ℕ) → no_end text ≡ true → sources_in text ≡ None → BadFirst (text ++ 10 ∷ more)
first_bad text more h none sources other ok ordered is =
    let same : text ≡ sources_text sources = same_line text (sources_text sources) more other h (no_end-sources sources ok ordered)
    (is ∙ line_then (sources_text sources) other) in
    let said : sources_in text ≡ Some sources = ap sources_in same ∙ sources_said sources ok ordered in cc

-- where the rest is the line of rows, it is read
rows_here : (ss : List Source) (next more : List ℕ) (rest : List (List ℕ)) (rows : List Row) (number : ℕ) → AllByRecursion IsRow rows →
    AreWritable rows → cut more ≡ next ∷ rest → more ≡ line (rows_text rows)
    → with_rows ss (rows_alone (next ∷ rest)) ≡ Err number → ⊥
rows_here ss next more rest rows number ok writable lines is bad =
    let two : next ∷ rest ≡ rows_text rows ∷ [] ∷ [] = sym lines ∙ ap cut is ∙ split_at_end (rows_text rows) [] (no_end-rows rows ok) in
    let read : rows_alone (next ∷ rest) ≡ Some rows = ap rows_alone two ∙ rows_said rows ok writable in
    let good : with_rows ss (rows_alone (next ∷ rest)) ≡ Ok (record { sources = ss; rows = rows }) = ap (with_rows ss) read in cc

second_lines : (bytes text next : List ℕ) (rest : List (List ℕ)) → cut bytes ≡ text ∷ next ∷ rest → no_end text ≡ true →
    cut (joined next rest) ≡ next ∷ rest
unfolding joined
second_lines bytes text next rest is h =
    let all : text ∷ cut (join_with_byte 10 (next ∷ rest)) ≡ text ∷ next ∷ rest = sym (split_at_end text (join_with_byte 10 (next ∷ rest)) h)
    ∙ ap cut (sym (rejoined bytes text (next ∷ rest) is)) ∙ is in cc

two_bad : (ss : List Source) (bytes text next : List ℕ) (rest : List (List ℕ)) (number : ℕ) → cut bytes ≡ text ∷ next ∷ rest →
    sources_in text ≡ Some ss → with_rows ss (rows_alone (next ∷ rest)) ≡ Err number → BadSecond bytes
unfolding joined
two_bad ss bytes text next rest number is e bad =
    let h = first_no_end bytes text (next ∷ rest) is in (
      ss,
      join_with_byte 10 (next ∷ rest),
      rejoined bytes text (next ∷ rest) is ∙ ap (λ t. t ++ 10 ∷ join_with_byte 10 (next ∷ rest)) (sym (sources_alone text ss e))
          ∙ sym (line_then (sources_text ss) (join_with_byte 10 (next ∷ rest))),
      λ rows ok writable same. rows_here ss next (join_with_byte 10 (next ∷ rest)) rest rows number ok writable (second_lines bytes text next rest is h) same
          bad,
    )

is_second : (ss : List Source) (o : Option (List Row)) (number : ℕ) → with_rows ss o ≡ Err number → number ≡ 2
is_second ss None number is = cc
is_second ss (Some rows) number is = absurd (cc)

bad_by_sources : (bytes text next : List ℕ) (rest : List (List ℕ)) (o : Option (List Source)) (number : ℕ) → cut bytes ≡ text ∷ next ∷ rest →
    sources_in text ≡ o → startup_by o (next ∷ rest) ≡ Err number → IsBadStartup bytes number
unfolding joined
bad_by_sources bytes text next rest None number is e bad =
    let one : number ≡ 1 = cc in
    inl (
      one,
      subst BadFirst (sym (rejoined bytes text (next ∷ rest) is))
          (first_bad text (join_with_byte 10 (next ∷ rest)) (first_no_end bytes text (next ∷ rest) is) e),
    )
bad_by_sources bytes text next rest (Some ss) number is e bad =
    inr (is_second ss (rows_alone (next ∷ rest)) number bad, two_bad ss bytes text next rest number is e bad)

bad_by_lines : (bytes text : List ℕ) (texts : List (List ℕ)) (number : ℕ) → cut bytes ≡ text ∷ texts →
    of_startup_lines (text ∷ texts) ≡ Err number → IsBadStartup bytes number
unfolding joined
bad_by_lines bytes text [] number is bad =
    let one : number ≡ 1 = cc in
    inl (one, subst BadFirst (sym (rejoined bytes text [] is)) (one_line_bad text (first_no_end bytes text [] is)))
bad_by_lines bytes text (next ∷ rest) number is bad = bad_by_sources bytes text next rest (sources_in text) number is refl bad

startup_bad : (bytes : List ℕ) (number : ℕ) → startup_of bytes ≡ Err number → IsBadStartup bytes number
startup_bad bytes number is = let f = first_line bytes in bad_by_lines bytes f.0 f.1 number f.2 (sym (ap of_startup_lines f.2) ∙ is)

startup_once : (a b : Startup) → IsStartup a → IsWritable a → IsStartup b → IsWritable b → startup_text a ≡ startup_text b → a ≡ b
startup_once a b h w k v same =
    let one : startup_of (startup_text a) ≡ Ok a = startup_again a h w in
    let other : startup_of (startup_text a) ≡ Ok b = ap startup_of same ∙ startup_again b k v in cc

pub texts_say_startups : TextsSayStartups
texts_say_startups = record { written = startup_again; alone = startup_alone; once = startup_once; bad = startup_bad }
