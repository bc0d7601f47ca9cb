-- What the head of a request says, and when it is refused.
use Rattle.std.specs.Prelude.{◌≡◌, ◌≤◌, ℕ, ◌⊎◌, ◌+◌, ◌*◌, ◌∷◌, [], List, Bool, if◌then◌else◌}
use Rattle.std.specs.Prelude.{nat_lt, ◌&&◌, ◌||◌, not, ◌==◌, length, take, drop, map, ◌-◌, fold, count_by, bytes_eq, codes, Option}
use Rattle.std.specs.Prelude.{Some, None, Result, Ok, Err}
use Rattle.std.specs.List.{list_any, list_all, slice_split, prefix_len, suffix_len}
use Rattle.std.specs.Char.{to_ascii_lowercase, is_ascii_digit, is_ascii_whitespace}
use Rattle.httparse.specs.Grammar.{RequestHead, ReadsRequest, HasNoRequest, NeverHasRequest, MayBecomeRequest, print_request}
use Rattle.httparse.specs.Spans.{name_and_value, RequestExceeds}
use Rattle.rl_names.specs.Title.{user_name_of}
use Rattle.rl_pages.specs.declared.viewer.Viewer.{Viewer}
use Rattle.rl_pages.specs.declared.viewer.Viewer.TheVariants.{Anon, User}
use Rattle.rl_pages.specs.Viewer.{IsViewer}
use Rattle.httparse.specs.declared.borrowed.Header.{Header}
use Rattle.httparse.specs.Borrowed.{header_parts}
use Rattle.rl_http.specs.declared.heads.HeadError.{HeadError}
use Rattle.rl_http.specs.declared.heads.HeadError.TheVariants.{Refused, NoMemory}
use Rattle.rl_http.specs.declared.heads.Head.{Head}
use Rattle.rl_http.specs.declared.heads.HeadRead.{HeadRead}
use Rattle.rl_http.specs.declared.heads.HeadRead.TheVariants.{Whole, Part, Bad}

-- a header as its name and its value, without the blanks around it
abbrev pub Fields : Type 0
Fields = List (List ℕ × List ℕ)

-- a name in small letters
abbrev pub lower : List ℕ → List ℕ
lower text = map to_ascii_lowercase text

-- whether a header has this name, in letters of either case
abbrev pub is_named : List ℕ → List ℕ × List ℕ → Bool
is_named name field = bytes_eq (lower field.0) (lower name)

abbrev pub has_field : List ℕ → Fields → Bool
has_field name fields = list_any (is_named name) fields

-- this header's value where it has the name, else what was found before
abbrev pub later_value : List ℕ → Option (List ℕ) → List ℕ × List ℕ → Option (List ℕ)
later_value name found field = if is_named name field then Some field.1 else found

-- the value of the last header of this name
abbrev pub last_value : List ℕ → Fields → Option (List ℕ)
last_value name fields = fold (later_value name) None fields

-- ---- the body's length

-- one digit or more and nothing else
abbrev pub is_number : List ℕ → Bool
is_number text = nat_lt 0 (length text) && list_all is_ascii_digit text

-- the number that digits write, behind those that write n
abbrev pub number_after : ℕ → List ℕ → ℕ
number_after n [] = n
number_after n (d ∷ ds) = number_after (n * 10 + (d - 48)) ds

abbrev pub number_of : List ℕ → ℕ
number_of digits = number_after 0 digits

-- the length that a value spells: digits alone, and of a body of at most 8 MiB
abbrev pub length_spelt : Option (List ℕ) → Result ℕ ℕ
length_spelt None = Ok 0
length_spelt (Some value) =
    if not (is_number value) then Err 400
    else (if nat_lt 8388608 (number_of value) then Err 413 else Ok (number_of value))

abbrev pub body_length : Fields → Result ℕ ℕ
body_length fields =
    if nat_lt 1 (count_by (is_named (codes "content-length")) fields) then Err 400
    else length_spelt (last_value (codes "content-length") fields)

-- ---- the viewer

abbrev pub name_or_refusal : Option (List ℕ) → Result (List ℕ) ℕ
name_or_refusal None = Err 400
name_or_refusal (Some name) = Ok name

-- no bytes at all stand for nobody
abbrev pub viewer_spelt : Option (List ℕ) → Result (List ℕ) ℕ
viewer_spelt None = Ok []
viewer_spelt (Some []) = Ok []
viewer_spelt (Some (b ∷ bs)) = name_or_refusal (user_name_of (b ∷ bs))

abbrev pub viewer_of : Fields → Result (List ℕ) ℕ
viewer_of fields = viewer_spelt (last_value (codes "x-wiki-user") fields)

-- the viewer of a head: no name stands for nobody
abbrev pub viewer_named : List ℕ → Viewer
viewer_named [] = Anon
viewer_named (b ∷ bs) = User (b ∷ bs)

-- ---- whether the connection ends after the answer

abbrev pub is_comma : ℕ → Bool
is_comma b = b == 44

abbrev pub trim_end : List ℕ → List ℕ
trim_end bytes = take (length bytes - suffix_len is_ascii_whitespace bytes) bytes

-- a member without the blanks at its ends
abbrev pub trimmed : List ℕ → List ℕ
trimmed member = trim_end (drop (prefix_len is_ascii_whitespace member) member)

abbrev pub is_close : List ℕ → Bool
is_close member = bytes_eq (lower (trimmed member)) (codes "close")

abbrev pub says_close : List ℕ × List ℕ → Bool
says_close field = is_named (codes "connection") field && list_any is_close (slice_split is_comma field.1)

abbrev pub is_last : ℕ → Fields → Bool
is_last minor fields = minor == 0 || list_any says_close fields

-- ---- the head

-- a head as it is kept, or the code that refuses it
abbrev pub head_for : List ℕ → List ℕ → Bool → Result ℕ ℕ → Result (List ℕ) ℕ → Result Head ℕ
head_for method target last (Err code) viewer = Err code
head_for method target last (Ok length) (Err code) = Err code
head_for method target last (Ok length) (Ok viewer) =
    Ok record { method = method; target = target; viewer = viewer; length = length; last = last }

-- what these parts of a head say, or the code of the first rule that they break
abbrev pub head_said : List ℕ → List ℕ → ℕ → Fields → Result Head ℕ
head_said method target minor fields =
    if has_field (codes "transfer-encoding") fields then Err 400
    else head_for method target (is_last minor fields) (body_length fields) (viewer_of fields)

abbrev pub head_of : RequestHead → Result Head ℕ
head_of h = head_said h.method h.target h.minor (map name_and_value h.fields)

-- ---- reading

-- the first bytes are a head of the grammar, of which this is said
abbrev pub BeginsWith : List ℕ → ℕ → Result Head ℕ → Type 0
BeginsWith bytes used said =
    (h : RequestHead) × ReadsRequest bytes h (drop used bytes) × (used ≡ length (print_request h)) × (head_of h ≡ said)

-- no bytes can follow that make a head, or more than 64 headers stand there
abbrev pub IsHopeless : List ℕ → ℕ → Type 0
IsHopeless bytes code = (code ≡ 400) × (NeverHasRequest bytes ⊎ RequestExceeds 64 bytes)

-- Whole: a head is read, and it is refused for nothing. Part: no front is a head, and some bytes can follow that make
-- one, unless the bytes end inside the target. Bad: no bytes can follow that make a head, or there are more than 64
-- headers, or a head is read and is refused.
abbrev pub ReadsHead : List ℕ → HeadRead → Type 0
ReadsHead bytes (Whole used head) = BeginsWith bytes used (Ok head)
ReadsHead bytes Part = HasNoRequest bytes × MayBecomeRequest bytes
ReadsHead bytes (Bad code) = IsHopeless bytes code ⊎ ((used : ℕ) × BeginsWith bytes used (Err code))

-- a head lies in so many bytes, and its body is not above what a body may have
abbrev pub IsHeadWithin : ℕ → HeadRead → Type 0
IsHeadWithin len (Whole used head) = (used ≤ len) × (head.length ≤ 8388608)
IsHeadWithin len other = Unit {0}

-- the viewer of a head is one that the rule of user names gives
abbrev pub HasViewer : HeadRead → Type 0
HasViewer (Whole used head) = IsViewer (viewer_named head.viewer)
HasViewer other = Unit {0}

-- a head is said, or refused by this code; want of memory may come in its place
abbrev pub Says : Result Head HeadError → Result Head ℕ → Type 0
Says (Ok head) said = said ≡ Ok head
Says (Err (Refused code)) said = said ≡ Err code
Says (Err NoMemory) said = Unit {0}

-- what slices of a buffer say
abbrev pub parts : List Header → Fields
parts headers = map header_parts headers

abbrev pub SaysLength : Result ℕ HeadError → Result ℕ ℕ → Type 0
SaysLength (Ok length) said = said ≡ Ok length
SaysLength (Err (Refused code)) said = said ≡ Err code
SaysLength (Err NoMemory) said = ⊥

abbrev pub SaysViewer : Result (List ℕ) HeadError → Result (List ℕ) ℕ → Type 0
SaysViewer (Ok viewer) said = said ≡ Ok viewer
SaysViewer (Err (Refused code)) said = said ≡ Err code
SaysViewer (Err NoMemory) said = Unit {0}
