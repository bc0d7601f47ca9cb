-- The gadget list: a page whose lines define modules.
use Rattle.std.specs.Prelude.{ℕ, ◌+◌, ◌==◌, Bool, min, nat_le, if◌then◌else◌, List, [], ◌∷◌, ◌++◌, length, bytes_eq}
use Rattle.std.specs.Prelude.{slice_index, Option, Some, None, Result, Ok, Err}
use Rattle.std.specs.List.{list_any, slice_split}
use Rattle.std.specs.Option.{option_map_or}
use Rattle.std.specs.Str.Lines.{strip_carriage_return}
use Rattle.rl_gadgets.specs.declared.gadget.Gadget.{Gadget}
use Rattle.rl_gadgets.specs.declared.list.GadgetList.{GadgetList}
use Rattle.rl_gadgets.specs.declared.list.TheConstants.{MAX_GADGETS}
use Rattle.rl_gadgets.specs.Cut.{is}
use Rattle.rl_gadgets.specs.Line.{Reason, Taken, Full, gadget_in, behind_stars}

-- a module of this name is defined
abbrev pub is_defined : List Gadget → List ℕ → Bool
is_defined rows name = list_any (λ (row : Gadget). bytes_eq row.name name) rows

-- why a gadget does not become a row behind these, if it does not
abbrev pub fault_behind : List Gadget → Gadget → Option Reason
fault_behind rows gadget =
    if is_defined rows gadget.name then Some Taken
    else (if nat_le MAX_GADGETS (length rows) then Some Full else None)

-- what becomes of a gadget behind these rows
abbrev pub row_behind : List Gadget → Result Gadget Reason → Result Gadget Reason
row_behind rows (Err reason) = Err reason
row_behind rows (Ok gadget) = option_map_or Err (fault_behind rows gadget) (Ok gadget)

-- A line gives a row, or its number is listed.
abbrev pub with_row : GadgetList → ℕ → Result Gadget Reason → GadgetList
with_row list number (Ok gadget) = record list { rows = list.rows ++ gadget ∷ [] }
with_row list number (Err reason) = record list { passed = list.passed ++ number ∷ [] }

-- lines that do not begin with a star say nothing
abbrev pub begins_with_star : List ℕ → Bool
begins_with_star line = slice_index line 0 == 42

-- numbers are given up to the greatest of 32 bits
abbrev pub capped : ℕ → ℕ
capped number = min number 4294967295

abbrev pub with_line : GadgetList → ℕ → List ℕ → GadgetList
with_line list number line =
    if begins_with_star line then with_row list (capped number) (row_behind list.rows (gadget_in (capped number) (behind_stars line))) else list

-- lines in order, with their numbers; one carriage return at the end of a line is dropped
abbrev pub with_lines : GadgetList → ℕ → List (List ℕ) → GadgetList
with_lines list number [] = list
with_lines list number (line ∷ lines) = with_lines (with_line list number (strip_carriage_return line)) (number + 1) lines

abbrev pub none_yet : GadgetList
none_yet = record { rows = []; passed = [] }

-- the gadgets of a page, and the numbers of the lines that were passed over; lines end at line feeds alone and count from 1
abbrev pub gadgets_of : List ℕ → GadgetList
gadgets_of page = with_lines none_yet 1 (slice_split (is 10) page)
