-- What a well-formed answer changes of what a view keeps.
use Rattle.std.specs.Prelude.{◌≡◌, ◌+◌, ◌-◌, ℕ, ◌<◌, List, Bool, fold, if◌then◌else◌, length, nat_eq, option_and_then, slice_get, slice_set}
use Rattle.std.specs.Prelude.{Option, Some, None}
use Rattle.std.specs.List.{list_any}
use Rattle.rl_view_spec.specs.Progress.{Progress}
use Rattle.rl_view.specs.Seen.{after_answer, counting_row}
use Rattle.rl_wire.specs.declared.part.Part.{Part}
use Rattle.rl_book_spec.specs.Opening.{answer_of, part_name}
use Rattle.rl_book_spec.specs.Traffic.{Traffic, after_delivery, asked_of}
use Rattle.rl_book_spec.specs.declared.Asked.{Asked}
use Rattle.rl_book_spec.specs.declared.Mark.{Mark}
use Rattle.rl_book_spec.specs.declared.Sent.{Sent}
use Rattle.rl_book_spec.specs.declared.Took.{Took}
use Rattle.rl_book.specs.declared.given.Delivered.{Delivered}

-- the marks say which numbers are among these
pub record AreMarks (rows : List ℕ) (count : ℕ) (marks : List Bool) : Type 0 where
  pub long : length marks ≡ count
  pub each : (row : ℕ) → row < count → slice_get marks row ≡ Some (list_any (nat_eq row) rows)

-- ---- one part

-- the row that takes a part: it is one of these rows, and the part counts for it
abbrev pub row_for : List ℕ → Progress → Part → Option ℕ
row_for rows t part = option_and_then (λ row. if list_any (nat_eq row) rows then Some row else None) (counting_row t (part_name part))

-- the table, the parts that rows took, and how many parts were used
pub record Taking : Type 0 where
  pub table : Progress
  pub delivered : List (Option Delivered)
  pub used : ℕ

abbrev pub table_with : Option ℕ → Part → Progress → Progress
table_with None part t = t
table_with (Some row) part t = after_answer row (answer_of part) t

abbrev pub delivered_with : Option ℕ → Delivered → List (Option Delivered) → List (Option Delivered)
delivered_with None part delivered = delivered
delivered_with (Some row) part delivered = slice_set delivered row (Some part)

abbrev pub used_with : Option ℕ → ℕ → ℕ
used_with None used = used
used_with (Some row) used = used + 1

-- where a row takes the part
abbrev pub after_part : List ℕ → Mark → Taking → Part → Taking
after_part rows mark s part = record {
  table = table_with (row_for rows s.table part) part s.table;
  delivered = delivered_with (row_for rows s.table part) (record { part = part; mark = mark }) s.delivered;
  used = used_with (row_for rows s.table part) s.used;
}

-- ---- all parts of an answer, in order

abbrev pub after_parts : List ℕ → Mark → List Part → Taking → Taking
after_parts rows mark parts s = fold (after_part rows mark) s parts

-- the parts of the answer to an ask are taken by the rows of its batch, and the answer is noted
pub record TakesParts (ask : ℕ) (parts : List Part) (mark : Mark) (took : Took) (t t' : Progress) (delivered delivered' : List (Option Delivered))
    (q q' : Traffic) : Type 0 where
  pub taken :
      (pair : Asked × Sent) → asked_of q ask ≡ Some pair
      → record { table = t'; delivered = delivered'; used = took.used }
      ≡ after_parts pair.1.batch.rows mark parts (record { table = t; delivered = delivered; used = 0 })
  pub passed : took.passed ≡ length parts - took.used
  pub requests : q' ≡ after_delivery q ask

-- nothing changed
pub record TakesNone (t t' : Progress) (delivered delivered' : List (Option Delivered)) (q q' : Traffic) : Type 0 where
  pub table : t' ≡ t
  pub kept : delivered' ≡ delivered
  pub requests : q' ≡ q
