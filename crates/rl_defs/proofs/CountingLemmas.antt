-- What is counted where definitions are refused is something in them, never the bytes of their file.
use Rattle.std.proofs.Common.{◌≢◌, ℕ, ◌-◌, ◌^◌, min, Bool, true, false, List, [], ◌∷◌, length, Option, Some, None}
use Rattle.std.specs.Prelude.{nat_le, bytes_eq, codes, is_some, Result, Ok, Err}
use Rattle.toml.specs.Data.{Members}
use Rattle.rl_names.specs.Title.{user_name_of}
use Rattle.rl_names.specs.declared.counted.Counted.TheVariants as counted
use Rattle.rl_defs.specs.declared.draft.Draft.{Draft}
use Rattle.rl_names.specs.Limits.{limit_of}
use Rattle.rl_defs.specs.Refusal.{Refusal}
use Rattle.rl_defs.specs.Refusal as breaches
use Rattle.rl_defs.specs.Breach.{or_else, first_of, unless, unknown_at, unknown_among, unknown_field, bad_module_name, bad_admin}
use Rattle.rl_defs.specs.Breach.{bad_skin, bad_name, too_many, too_many_dependencies, is_dependency, bad_dependency, bad_dependency_of, text_of, no_file}
use Rattle.rl_defs.specs.Breach.{no_file_of, bad_source, listed_bytes, too_large, breach_of, first_breach, settled, reading_of, reading}
use Rattle.rl_defs.specs.Catalogue.{Catalogue}
use Rattle.rl_defs.specs.Draft.{draft_of}
use Rattle.rl_defs.specs.Fields.{Place, InFile, InFiles, InModules, InWiki, InModule, Field, is_known, fields}
use Rattle.rl_defs.specs.Reading.{document}
use Rattle.rl_defs.specs.Words.{is_definable, is_skin}

abbrev pub IsOfDefinitions : Refusal → Type 0
IsOfDefinitions (breaches.TooMany what count) = what ≢ counted.FileBytes
IsOfDefinitions other = Unit {0}

abbrev pub IsOfReading : Result Catalogue Refusal → Type 0
IsOfReading (Ok catalogue) = Unit {0}
IsOfReading (Err e) = IsOfDefinitions e

abbrev IsOfBreach : Option Refusal → Type 0
IsOfBreach None = Unit {0}
IsOfBreach (Some e) = IsOfDefinitions e

of_or : (one other : Option Refusal) → IsOfBreach one → IsOfBreach other → IsOfBreach (or_else one other)
of_or None other h k = k
of_or (Some e) other h k = h

of_unless : (b : Bool) (e : Refusal) → IsOfDefinitions e → IsOfBreach (unless b e)
of_unless true e h = tt
of_unless false e h = h

of_first : {X : Type 0} (xs : List X) (f : X → Option Refusal) → ((x : X) → IsOfBreach (f x)) → IsOfBreach (first_of f xs)
of_first [] f h = tt
of_first (x ∷ xs) f h = of_or (f x) (first_of f xs) (h x) (of_first xs f h)

-- a list of which each element keeps a rule
of_each : {X : Type 0} (xs : List X) (test : X → Bool) (e : X → Refusal) → ((x : X) → IsOfDefinitions (e x)) →
    IsOfBreach (first_of (λ x. unless (test x) (e x)) xs)
of_each xs test e h = of_first xs (λ x. unless (test x) (e x)) (λ x. of_unless (test x) (e x) (h x))

-- ---- fields

of_unknown : (place : Place) (key : List ℕ) → IsOfDefinitions (unknown_at place key)
of_unknown InFile key = tt
of_unknown InFiles key = tt
of_unknown InModules key = tt
of_unknown InWiki key = tt
of_unknown (InModule name) key = tt

of_fields : (fs : List Field) → IsOfBreach (unknown_among fs)
of_fields fs = of_each fs is_known (λ f. unknown_at f.place f.key) (λ f. of_unknown f.place f.key)

-- ---- the later checks

of_names : (d : Draft) → IsOfBreach (bad_name d)
of_names d =
    of_or (bad_module_name d.modules) (or_else (bad_admin d.admins) (bad_skin d.skins))
    (of_each d.modules (λ m. is_definable m.name) (λ m. breaches.BadName m.name) (λ m. tt))
    (of_or (bad_admin d.admins) (bad_skin d.skins)
    (of_each d.admins (λ admin. is_some (user_name_of admin)) breaches.BadName (λ admin. tt))
    (of_each d.skins is_skin breaches.BadName (λ skin. tt)))

of_numbers : (d : Draft) → IsOfBreach (too_many d)
of_numbers d =
    of_or (unless (nat_le (length d.modules) (limit_of counted.Modules)) (breaches.TooMany counted.Modules (length d.modules)))
    (too_many_dependencies d.modules)
    (of_unless (nat_le (length d.modules) (limit_of counted.Modules)) (breaches.TooMany counted.Modules (length d.modules)) (λ e. cc))
    (of_each d.modules (λ m. nat_le (length m.dependencies) (limit_of counted.Dependencies))
    (λ m. breaches.TooMany counted.Dependencies (length m.dependencies)) (λ m e. cc))

of_dependencies : (d : Draft) → IsOfBreach (bad_dependency d)
of_dependencies d = of_first d.modules (bad_dependency_of d) (λ m. of_each m.dependencies (is_dependency d) (breaches.BadDependency m.name) (λ name. tt))

of_files : (d : Draft) → IsOfBreach (no_file d)
of_files d = of_first d.modules (no_file_of d) (λ m. of_each m.scripts (λ file. is_some (text_of d file)) (breaches.NoFile m.name) (λ file. tt))

of_sources : (d : Draft) → IsOfBreach (bad_source d)
of_sources d = of_each d.modules (λ m. bytes_eq m.source (codes "local")) (λ m. breaches.BadSource m.name) (λ m. tt)

of_sizes : (d : Draft) → IsOfBreach (too_large d)
of_sizes d = of_unless (nat_le (listed_bytes d) (limit_of counted.ListedBytes)) (breaches.TooMany counted.ListedBytes (min (listed_bytes d) (2 ^ 64 - 1)))
    (λ e. cc)

of_draft : (d : Draft) → IsOfBreach (breach_of d)
of_draft d =
    of_or (bad_name d) (or_else (too_many d) (or_else (bad_dependency d) (or_else (no_file d) (or_else (bad_source d) (too_large d))))) (of_names d)
    (of_or (too_many d) (or_else (bad_dependency d) (or_else (no_file d) (or_else (bad_source d) (too_large d)))) (of_numbers d)
    (of_or (bad_dependency d) (or_else (no_file d) (or_else (bad_source d) (too_large d))) (of_dependencies d)
    (of_or (no_file d) (or_else (bad_source d) (too_large d)) (of_files d)
    (of_or (bad_source d) (too_large d) (of_sources d) (of_sizes d)))))

-- ---- the file

of_settled : (d : Draft) (o : Option Refusal) → IsOfBreach o → IsOfReading (settled d o)
of_settled d None h = tt
of_settled d (Some e) h = h

of_reading : (o : Option Members) → IsOfReading (reading_of o)
of_reading None = tt
of_reading (Some top) =
    of_settled (draft_of top) (first_breach top)
    (of_or (unknown_field top) (breach_of (draft_of top)) (of_fields (fields top)) (of_draft (draft_of top)))

pub reading_is_of_definitions : (bytes : List ℕ) → IsOfReading (reading bytes)
reading_is_of_definitions bytes = of_reading (document bytes)
