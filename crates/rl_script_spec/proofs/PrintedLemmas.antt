-- A script that is printed has rows with distinct names, so the headline stands of it.
use Rattle.std.proofs.Common.{◌≡◌, ◌≢◌, ℕ, zero, suc, List, [], ◌∷◌, Bool, true, false, Option, Some, None, refl, sym, get_or, length}
use Rattle.std.proofs.Common.{arith}
use Rattle.std.specs.Prelude.{AllPairs, bytes_eq, if◌then◌else◌, nat_lt, option_map, reverse, slice_get}
use Rattle.std.specs.List.{list_any}
use Rattle.std.specs.Option.{option_map_or}
use Rattle.std.specs.Str.{is_utf8}
use Rattle.rl_names.specs.Limits.{limit_of}
use Rattle.rl_names.specs.Rules.{number_of}
use Rattle.rl_names.specs.declared.counted.Counted.TheVariants as counted
use Rattle.rl_names.specs.declared.rule.Rule.TheVariants as rules
use Rattle.rl_names.specs.declared.row.Row.{Row}
use Rattle.rl_view_spec.specs.Breach as breach
use Rattle.rl_view_spec.specs.Breach.{Breach, bad_indexes, repeated, breach_of, wide_row}
use Rattle.rl_view_spec.specs.Closure.{Text, least}
use Rattle.rl_view_spec.specs.Progress.{HasDistinctNames}
use Rattle.rl_view_spec.specs.View.{Throws}
use Rattle.rl_view_spec.proofs.PlacesLemmas.{bytes_eq-from}
use Rattle.rl_view_spec.proofs.ResolveLemmas.{least_none}
use Rattle.rl_view_spec.proofs.ToolsLemmas.{one_any}
use Rattle.std.proofs.lemmas.Bool.{both_ways}
use Rattle.std.proofs.lemmas.List.Elements.{Contains-get_or}
use Rattle.rl_script_spec.specs.Laws.{PrintedHolds}
use Rattle.rl_script_spec.specs.Output.{output_of}
use Rattle.rl_script_spec.specs.Script.{Fault, Prints, BadLine, Bad, TooManySteps, lines_of, rows_in, first_fault, fault_verdict, breach_verdict, printed}
use Rattle.rl_script_spec.specs.Script.{verdict_of, view_of, steps_of}
use Rattle.rl_script_spec.proofs.OrderLemmas.{scripts_hold}

-- ---- no name is repeated

not_later : (row : Row) (rows : List Row) → repeated (row ∷ rows) ≡ [] → list_any (λ other. bytes_eq other.name row.name) rows ≡ false
not_later row rows = step (list_any (λ other. bytes_eq other.name row.name) rows)
  where
    step : (b : Bool) → (if b then row.name ∷ repeated rows else repeated rows) ≡ [] → b ≡ false
    step true e = cc
    step false e = refl

later_too : (row : Row) (rows : List Row) → repeated (row ∷ rows) ≡ [] → repeated rows ≡ []
later_too row rows = step (list_any (λ other. bytes_eq other.name row.name) rows)
  where
    step : (b : Bool) → (if b then row.name ∷ repeated rows else repeated rows) ≡ [] → repeated rows ≡ []
    step true e = cc
    step false e = e

pub distinct_rows : (rows : List Row) → repeated rows ≡ [] → AllPairs (λ a b. a.name ≢ b.name) rows
distinct_rows [] e i j d low high = absurd (omega (arith, high))
distinct_rows (row ∷ rows) e i zero d low high = absurd (omega (arith, low))
distinct_rows (row ∷ rows) e zero (suc j) d low high = λ same.
    both_ways (list_any (λ other. bytes_eq other.name row.name) rows) (not_later row rows e)
    (one_any (λ other. bytes_eq other.name row.name) rows (get_or rows j d) (Contains-get_or rows j d (omega arith))
    (bytes_eq-from (get_or rows j d).name row.name (sym same)))
distinct_rows (row ∷ rows) e (suc i) (suc j) d low high = distinct_rows rows (later_too row rows e) i j d (omega arith) (omega arith)

-- ---- rows that break no rule

no_breach : (rows : List Row) → breach_of rows ≡ None → repeated rows ≡ []
no_breach rows e =
    least_none (repeated rows)
    (step (nat_lt (limit_of counted.Rows) (length rows)) (wide_row rows) (least (repeated rows))
    (option_map (λ bad. breach.BadIndex bad.0 bad.1) (slice_get (bad_indexes rows) 0)) e)
  where
    step : (many : Bool) (wide : Option Row) (twice : Option Text) (index : Option Breach)
        → (if many then Some (breach.TooMany counted.Rows (length rows)) else
        option_map_or (λ row. Some (breach.TooMany counted.Dependencies (length row.deps))) wide
        (option_map_or (λ name. Some (breach.Duplicate name)) twice index)) ≡ None
        → twice ≡ None
    step true wide twice index e = cc
    step false (Some row) twice index e = cc
    step false None (Some name) index e = cc
    step false None None index e = refl

-- ---- what is printed broke no rule

unbroken : (throws : Throws) (bytes text : Text) (ready : Bool) → verdict_of throws bytes ≡ Prints text ready →
    breach_of (rows_in (lines_of bytes)) ≡ None
unbroken throws bytes text ready = step (is_utf8 bytes) (first_fault 0 (lines_of bytes)) (breach_of (rows_in (lines_of bytes)))
  where
    step : (valid : Bool) (fault : Option (ℕ × Fault)) (broken : Option Breach)
        → (if valid then option_map_or fault_verdict fault (option_map_or breach_verdict broken (printed throws bytes)) else
        BadLine 0 (number_of rules.NotUtf8)) ≡ Prints text ready
        → broken ≡ None
    step false fault broken e = cc
    step true (Some (number, Bad rule)) broken e = cc
    step true (Some (number, TooManySteps)) broken e = cc
    step true None (Some (breach.TooMany what count)) e = cc
    step true None (Some (breach.Duplicate name)) e = cc
    step true None (Some (breach.BadIndex row index)) e = cc
    step true None None e = refl

-- what is printed is the output of the view and the steps
pub printed_text : (throws : Throws) (bytes text : Text) (ready : Bool) → verdict_of throws bytes ≡ Prints text ready →
    output_of (view_of throws bytes) (reverse (steps_of bytes)) ≡ text
printed_text throws bytes text ready = step (is_utf8 bytes) (first_fault 0 (lines_of bytes)) (breach_of (rows_in (lines_of bytes)))
  where
    step : (valid : Bool) (fault : Option (ℕ × Fault)) (broken : Option Breach)
        → (if valid then option_map_or fault_verdict fault (option_map_or breach_verdict broken (printed throws bytes)) else
        BadLine 0 (number_of rules.NotUtf8)) ≡ Prints text ready
        → output_of (view_of throws bytes) (reverse (steps_of bytes)) ≡ text
    step false fault broken e = cc
    step true (Some (number, Bad rule)) broken e = cc
    step true (Some (number, TooManySteps)) broken e = cc
    step true None (Some (breach.TooMany what count)) e = cc
    step true None (Some (breach.Duplicate name)) e = cc
    step true None (Some (breach.BadIndex row index)) e = cc
    step true None None e = cc

pub printed_holds : PrintedHolds
printed_holds throws bytes text ready e =
    let distinct : HasDistinctNames (view_of throws bytes).registered =
    distinct_rows (rows_in (lines_of bytes)) (no_breach (rows_in (lines_of bytes)) (unbroken throws bytes text ready e)) in
    let holds = scripts_hold (view_of throws bytes) (reverse (steps_of bytes)) distinct in
    record { runs = holds.0; ready = holds.1 }
