-- Rows cut into batches, each of which one query asks for.
use Rattle.std.specs.Prelude.{ℕ, ◌+◌, ◌&&◌, ◌==◌, ◌∷◌, [], ◌++◌, List, Bool, if◌then◌else◌, bytes_eq, codes, find, fold}
use Rattle.std.specs.Prelude.{length, map, nat_le, option_and_then, Option}
use Rattle.std.specs.List.{filter_map, list_all}
use Rattle.std.specs.Ordering.{nat_cmp, is_lt, ordering_then}
use Rattle.std.specs.declared.cmp.Ordering.{Ordering}
use Rattle.std.specs.Cmp.Lexicographic.{slice_cmp}
use Rattle.form_urlencoded.specs.Form as form
use Rattle.rl_names.specs.Hash.{combined}
use Rattle.rl_names.specs.Packing.{front_of, suffix_of, pack, packed_order}
use Rattle.rl_names.specs.Query.{query_text}
use Rattle.rl_names.specs.declared.query.Query.{Query}
use Rattle.rl_names.specs.declared.row.Group.{Group}
use Rattle.rl_names.specs.declared.row.Group.TheVariants.{Plain, User, Private, Other}
use Rattle.rl_names.specs.declared.row.Row.{Row}
use Rattle.rl_view_spec.specs.Closure.{Text, is_among}
use Rattle.rl_book_spec.specs.declared.Batch.{Batch}

-- ---- the order in which rows are asked for

-- the empty source is this wiki
abbrev pub source_name : Text → Text
source_name [] = codes "local"
source_name (byte ∷ bytes) = byte ∷ bytes

-- no group first, and then by number
abbrev pub group_rank : Group → ℕ
group_rank Plain = 0
group_rank User = 1
group_rank Private = 2
group_rank (Other number) = number + 3

-- by source, then by group
abbrev pub split_cmp : Row → Row → Ordering
split_cmp a b = ordering_then (slice_cmp nat_cmp (source_name a.source) (source_name b.source)) (nat_cmp (group_rank a.group) (group_rank b.group))

-- and then by name
abbrev pub row_cmp : Row → Row → Ordering
row_cmp a b = ordering_then (split_cmp a b) (slice_cmp nat_cmp a.name b.name)

-- a row with its number
abbrev pub Numbered : Type 0
Numbered = ℕ × Row

abbrev pub is_before : Numbered → Numbered → Bool
is_before a b = is_lt (row_cmp a.1 b.1)

-- the element, where it belongs among sorted ones
abbrev pub insert_by : {X : Type 0} → (X → X → Bool) → X → List X → List X
insert_by before x [] = x ∷ []
insert_by before x (y ∷ ys) = if before x y then x ∷ y ∷ ys else y ∷ insert_by before x ys

abbrev pub sorted_by : {X : Type 0} → (X → X → Bool) → List X → List X
sorted_by before [] = []
sorted_by before (x ∷ xs) = insert_by before x (sorted_by before xs)

-- ---- how long a query grows

abbrev pub encoded_len : Text → ℕ
encoded_len text = length (form.byte_serialize text)

-- What a name adds to those that were collected: three bytes for what stands in front of it, and its own bytes, but for
-- a front that is there already.
abbrev pub added_len : List Text → Text → ℕ
added_len names name = 3 + encoded_len (if is_among (map front_of names) (front_of name) then suffix_of name else name)

-- what names add, in order, to those that were collected
abbrev pub added_lens : List Text → List Text → ℕ
added_lens names [] = 0
added_lens names (name ∷ next) = added_len names name + added_lens (names ++ name ∷ []) next

abbrev pub collected_len : List Text → ℕ
collected_len names = added_lens [] names

-- what every query of a group begins with: only the group `user` carries the user
abbrev pub base_in : Query → Group → Query
base_in base User = base
base_in base other = record base { user = [] }

abbrev pub base_len : Query → Row → ℕ
base_len base row = length (query_text (base_in base row.group))

-- ---- batches

abbrev pub names_in : List Numbered → List Text
names_in rows = map (λ numbered. numbered.1.name) rows

-- they have one source and one group
abbrev pub is_one_split : List Numbered → Numbered → Bool
is_one_split rows numbered = list_all (λ other. bytes_eq (source_name other.1.source) (source_name numbered.1.source)
    && (group_rank other.1.group == group_rank numbered.1.group)) rows

-- A row goes on with a batch where it is of the same source and group, and the query stays within the limit.
abbrev pub goes_on : Query → ℕ → List Numbered → Numbered → Bool
goes_on base limit rows numbered =
    is_one_split rows numbered
    && nat_le (base_len base numbered.1 + 23 + collected_len (names_in rows) + added_len (names_in rows) numbered.1.name) limit

-- it is collected in the last batch, or begins a new one
abbrev pub collect : {X : Type 0} → (List X → X → Bool) → List (List X) → X → List (List X)
collect joins [] x = (x ∷ []) ∷ []
collect joins (batch ∷ []) x = if joins batch x then (batch ++ x ∷ []) ∷ [] else batch ∷ (x ∷ []) ∷ []
collect joins (batch ∷ next ∷ batches) x = batch ∷ collect joins (next ∷ batches) x

-- the rows of each batch, in the order in which they are asked for
abbrev pub rows_of_batches : Query → ℕ → List Numbered → List (List Numbered)
rows_of_batches base limit rows = fold (collect (goes_on base limit)) [] (sorted_by is_before rows)

-- the versions of these names, in their order
abbrev pub version_in : List Numbered → Text → Option Text
version_in rows name = option_and_then (λ numbered. numbered.1.version) (find (λ numbered. bytes_eq numbered.1.name name) rows)

abbrev pub versions_in : List Numbered → List Text → List Text
versions_in rows names = filter_map (version_in rows) names

-- the packed names, and the combined version of what they name, in packed order
abbrev pub query_for : Query → List Numbered → Query
query_for base rows = record base { modules = pack (names_in rows); version = combined (versions_in rows (packed_order (names_in rows))) }

-- the rows of a batch, the first of which tells source and group
abbrev pub batch_of : Query → List Numbered → Batch
batch_of base [] = record { source = []; rows = []; query = query_text (query_for base []) }
batch_of base (row ∷ rows) = record {
  source = row.1.source;
  rows = map (λ numbered. numbered.0) (row ∷ rows);
  query = query_text (query_for (base_in base row.1.group) (row ∷ rows));
}

-- the batches that ask for these rows
abbrev pub batches_of : Query → ℕ → List Numbered → List Batch
batches_of base limit rows = map (batch_of base) (rows_of_batches base limit rows)
