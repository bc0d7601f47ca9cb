-- Batches, losses, private rows and stores, computed on the definitions.
use Rattle.std.proofs.Common.{arith, ◌≡◌, ℕ, List, [], ◌∷◌, ◌++◌, true, false, refl, map, Some, None, length}
use Rattle.std.specs.Prelude.{codes}
use Rattle.form_urlencoded.specs.Form.{byte_serialize}
use Rattle.percent_encoding.specs.Percent.{percent_encode_byte}
use Rattle.std.specs.Str.{is_utf8, chars}
use lib.Utf8.{encode}
use Rattle.serde_json.proofs.OnLiterals.{serde_json_on_literals}
use Rattle.std.specs.Fmt.{digits}
use Rattle.rl_names.specs.Hash.{hash_5, version_of_hash}
use Rattle.rl_names.specs.declared.query.Only.TheVariants.{All}
use Rattle.rl_names.specs.declared.query.Query.{Query}
use Rattle.rl_names.specs.declared.row.Group.{Group}
use Rattle.rl_names.specs.declared.row.Group.TheVariants.{Plain, User, Private, Other}
use Rattle.rl_names.specs.declared.row.Row.{Row}
use Rattle.rl_view_spec.specs.Closure.{Text}
use Rattle.rl_view_spec.specs.Progress.{HasDistinctNames}
use Rattle.rl_view_spec.specs.View.{state_of, log_of}
use Rattle.rl_view_spec.specs.declared.Phase.{Phase}
use Rattle.rl_view_spec.specs.declared.Phase.TheVariants as phase
use Rattle.rl_wire.specs.Line.{line}
use Rattle.rl_wire.specs.declared.part.Part.{Part}
use Rattle.rl_wire.specs.declared.part.Part.TheVariants.{Impl}
use Rattle.rl_book_spec.specs.Batches.{Numbered, batches_of}
use Rattle.rl_book_spec.specs.Book.{events_of}
use Rattle.rl_book_spec.specs.Closing.{stored_after}
use Rattle.rl_book_spec.specs.Given.{took_by}
use Rattle.rl_view_spec.specs.Keys.{never}
use Rattle.rl_book_spec.specs.Laws.{ShortAnswersSettle}
use Rattle.rl_book_spec.specs.Opening.{Opening, view_of}
use Rattle.rl_book_spec.specs.Traffic.{traffic_of, all_settled}
use Rattle.rl_book_spec.specs.declared.Call.{Call}
use Rattle.rl_book_spec.specs.declared.Call.TheVariants.{Using, Take, Deliver, Lose}
use Rattle.rl_book_spec.specs.declared.Mark.{Mark}
use Rattle.rl_book_spec.specs.declared.Stored.{Stored}

abbrev row : Text → Text → Group → Row
row name version group = record { name = name; version = Some version; deps = []; group = group; source = []; skip = None }

abbrev base : Query
base = record { modules = []; lang = codes "en"; skin = codes "vector"; debug = false; only = All; user = []; version = [] }

-- ---- batch lengths

abbrev two : List Numbered
two = (0, row (codes "a.b") (codes "aaaaa") Plain) ∷ (1, row (codes "a.cd") (codes "bbbbb") Plain) ∷ []

abbrev version_1 : Text
version_1 = hash_5 (codes "aaaaabbbbb")

one_batch : batches_of base 53 two ≡ record {
  source = [];
  rows = 0 ∷ 1 ∷ [];
  query = codes "lang=en&modules=a.b%2Ccd&skin=vector&version="
      ++ version_1;
} ∷ []
unfolding version_of_hash digits byte_serialize percent_encode_byte
one_batch = refl

its_length : map (λ batch. length batch.query) (batches_of base 53 two) ≡ 50 ∷ []
unfolding version_of_hash digits byte_serialize percent_encode_byte
its_length = refl

two_batches : map (λ batch. batch.rows) (batches_of base 52 two) ≡ (0 ∷ []) ∷ (1 ∷ []) ∷ []
unfolding version_of_hash digits byte_serialize percent_encode_byte
two_batches = refl

two_at_ten : map (λ batch. batch.rows) (batches_of base 10 two) ≡ (0 ∷ []) ∷ (1 ∷ []) ∷ []
unfolding version_of_hash digits byte_serialize percent_encode_byte
two_at_ten = refl

abbrev three : List Numbered
three = (0, row (codes "a") (codes "aaaaa") Plain) ∷ (1, row (codes "b.x") (codes "bbbbb") Plain) ∷ (2, row (codes "c") (codes "ccccc") Plain) ∷ []

packed_versions : map (λ batch. batch.query) (batches_of base 2000 three)
    ≡ (codes "lang=en&modules=a%2Cc%7Cb.x&skin=vector&version=" ++ hash_5 (codes "aaaaacccccbbbbb")) ∷ []
unfolding version_of_hash digits byte_serialize percent_encode_byte
packed_versions = refl

-- by source and group first, `user` in the group of that name alone
abbrev mixed : List Numbered
mixed =
    (0, record (row (codes "z") (codes "aaaaa") Plain) { source = codes "elsewhere" }) ∷ (1, row (codes "b") (codes "bbbbb") (Other 2))
    ∷ (2, row (codes "c") (codes "ccccc") User)
    ∷ (3, row (codes "y") (codes "ddddd") Plain) ∷ (4, row (codes "x") (codes "eeeee") Plain) ∷ []

sorted_splits : map (λ batch. batch.rows) (batches_of (record base { user = codes "Ann" }) 2000 mixed) ≡ (0 ∷ []) ∷ (4 ∷ 3 ∷ []) ∷ (2 ∷ [])
    ∷ (1 ∷ []) ∷ []
unfolding version_of_hash digits byte_serialize percent_encode_byte
sorted_splits = refl

only_user : map (λ batch. batch.query) (batches_of (record base { user = codes "Ann" }) 2000
    ((2, row (codes "c") (codes "ccccc") User) ∷ (4, row (codes "x") (codes "eeeee") Plain) ∷ []))
    ≡ (codes "lang=en&modules=x&skin=vector&version=" ++ hash_5 (codes "eeeee"))
    ∷ (codes "lang=en&modules=c&skin=vector&user=Ann&version=" ++ hash_5 (codes "ccccc")) ∷ []
unfolding version_of_hash digits byte_serialize percent_encode_byte
only_user = refl

-- ---- private row

abbrev opened : List Row → List Part → Opening
opened rows embedded = record { registered = record { rows = rows; features = [] }; embedded = embedded; base = base; limit = 2000; stored = [] }

abbrev private : Row
private = record { name = codes "p"; version = None; deps = []; group = Private; source = []; skip = None }

abbrev with_private : List Part → Opening
with_private embedded = opened (row (codes "a") (codes "aaaaa") Plain ∷ private ∷ []) embedded

abbrev state : Opening → List Call → Text → Phase
state o past name = state_of (view_of never o) (events_of o past) name

abbrev log : Opening → List Call → List ℕ
log o past = log_of (view_of never o) (events_of o past)

abbrev using_p : List Call
using_p = Using (codes "p" ∷ []) ∷ []

private_is_error : state (with_private []) using_p (codes "p") ≡ phase.Error
private_is_error = refl

nothing_waits : (traffic_of (with_private []) using_p).waiting ≡ []
unfolding version_of_hash digits byte_serialize percent_encode_byte
nothing_waits = refl

abbrev part_p : Part
part_p = Impl (codes "p") (codes "ppppp") (codes "p()") [] []

embedded_is_ready : state (with_private (part_p ∷ [])) using_p (codes "p") ≡ phase.Ready
embedded_is_ready = refl

embedded_ran_once : log (with_private (part_p ∷ [])) (Using (codes "p" ∷ []) ∷ using_p) ≡ 1 ∷ []
embedded_ran_once = refl

-- ---- losses: the newest call stands first

abbrev mark : Mark
mark = record { link = 0; answer = 0 }

abbrev one_row : Opening
one_row = opened (row (codes "a") (codes "aaaaa") Plain ∷ []) []

abbrev using_a : List Call
using_a = Using (codes "a" ∷ []) ∷ []

abbrev lost_once : List Call
lost_once = Deliver 0 (codes "x") mark ∷ Take ∷ using_a

abbrev lost_twice : List Call
lost_twice = Lose 1 None ∷ Take ∷ lost_once

abbrev lost_thrice : List Call
lost_thrice = Lose 2 None ∷ Take ∷ lost_twice

abbrev losses : List Call → List ℕ
losses past = map (λ sent. sent.losses) (traffic_of one_row past).batches

losses_counted : map losses (using_a ∷ lost_once ∷ lost_twice ∷ lost_thrice ∷ []) ≡ (0 ∷ []) ∷ (1 ∷ []) ∷ (2 ∷ []) ∷ (3 ∷ []) ∷ []
unfolding version_of_hash digits byte_serialize percent_encode_byte is_utf8 chars encode serde_json_on_literals
losses_counted = refl

waits_again : map (λ past. (traffic_of one_row past).waiting) (using_a ∷ (Take ∷ using_a) ∷ lost_once ∷ (Take ∷ lost_once) ∷ lost_twice
    ∷ (Take ∷ lost_twice) ∷ lost_thrice ∷ []) ≡ (0 ∷ []) ∷ [] ∷ (0 ∷ []) ∷ [] ∷ (0 ∷ []) ∷ [] ∷ [] ∷ []
unfolding version_of_hash digits byte_serialize percent_encode_byte is_utf8 chars encode serde_json_on_literals
waits_again = refl

lost_asks : map (λ asked. asked.lost) (traffic_of one_row lost_thrice).asks ≡ true ∷ true ∷ true ∷ []
unfolding version_of_hash digits byte_serialize percent_encode_byte is_utf8 chars encode serde_json_on_literals
lost_asks = refl

given_up_is_error : map (λ past. state one_row past (codes "a")) (using_a ∷ lost_twice ∷ lost_thrice ∷ []) ≡ phase.Loading ∷ phase.Loading
    ∷ phase.Error ∷ []
unfolding version_of_hash digits byte_serialize percent_encode_byte is_utf8 chars encode serde_json_on_literals
given_up_is_error = refl

settled_by_loss : map (λ past. all_settled (traffic_of one_row past)) (lost_twice ∷ lost_thrice ∷ []) ≡ false ∷ true ∷ []
unfolding version_of_hash digits byte_serialize percent_encode_byte is_utf8 chars encode serde_json_on_literals
settled_by_loss = refl

-- a late answer to a lost ask settles the batch, and is used
abbrev part_a : Part
part_a = Impl (codes "a") (codes "bbbbb") (codes "a()") [] []

abbrev late : List Call
late = Deliver 0 (line (codes "mw.loader.implement(\"a@bbbbb\",\"a()\",{},{});")) mark ∷ lost_once

late_settles : (traffic_of one_row late).waiting ≡ []
unfolding version_of_hash digits byte_serialize percent_encode_byte is_utf8 chars encode serde_json_on_literals
late_settles = refl

late_is_used : took_by one_row lost_once (Deliver 0 (line (codes "mw.loader.implement(\"a@bbbbb\",\"a()\",{},{});")) mark) (part_a ∷ [])
    ≡ record { used = 1; passed = 0 }
unfolding version_of_hash digits byte_serialize percent_encode_byte is_utf8 chars encode serde_json_on_literals
late_is_used = refl

-- it is stored under the version that was served, with the number of its answer
abbrev stored_a : Stored
stored_a = record { key = record { name = codes "a"; version = codes "bbbbb" }; part = part_a; wire = Some 7 }

abbrev late_by : ℕ → List Call
late_by answer = Deliver 0 (line (codes "mw.loader.implement(\"a@bbbbb\",\"a()\",{},{});")) (record { link = 0; answer = answer }) ∷ lost_once

late_is_stored : stored_after never one_row (late_by 7) ≡ stored_a ∷ []
unfolding version_of_hash digits byte_serialize percent_encode_byte is_utf8 chars encode serde_json_on_literals
late_is_stored = refl

-- ---- repeated delivery, and an ask that is lost three times: a part counts once, and what comes after the third loss is passed over

abbrev two_rows : Opening
two_rows = opened (row (codes "a") (codes "aaaaa") Plain ∷ row (codes "b") (codes "bbbbb") (Other 2) ∷ []) []

abbrev wire_a : Text
wire_a = line (codes "mw.loader.implement(\"a@aaaaa\",\"a()\\n\",{},{});")

abbrev wire_b : Text
wire_b = line (codes "mw.loader.implement(\"b@bbbbb\",\"b()\\n\",{},{});")

abbrev got_a : Part
got_a = Impl (codes "a") (codes "aaaaa") (codes "a()" ++ 10 ∷ []) [] []

abbrev got_b : Part
got_b = Impl (codes "b") (codes "bbbbb") (codes "b()" ++ 10 ∷ []) [] []

abbrev from_wire : ℕ → Mark
from_wire number = record { link = 0; answer = number }

abbrev asked : List Call
asked = Take ∷ Using (codes "a" ∷ codes "b" ∷ []) ∷ []

abbrev delivered : List Call
delivered = Deliver 0 wire_a (from_wire 0) ∷ asked

abbrev repeated : List Call
repeated = Deliver 0 wire_a (from_wire 0) ∷ delivered

abbrev gave_up : List Call
gave_up = Lose 3 None ∷ Take ∷ Lose 2 None ∷ Take ∷ Lose 1 None ∷ Take ∷ repeated

first_query : map (λ sent. sent.batch.query) (traffic_of two_rows asked).batches
    ≡ (codes "lang=en&modules=a&skin=vector&version=" ++ hash_5 (codes "aaaaa"))
    ∷ (codes "lang=en&modules=b&skin=vector&version=" ++ hash_5 (codes "bbbbb")) ∷ []
unfolding version_of_hash digits byte_serialize percent_encode_byte is_utf8 chars encode serde_json_on_literals
first_query = refl

took_once : took_by two_rows asked (Deliver 0 wire_a (from_wire 0)) (got_a ∷ []) ≡ record { used = 1; passed = 0 }
unfolding version_of_hash digits byte_serialize percent_encode_byte is_utf8 chars encode serde_json_on_literals
took_once = refl

took_again : took_by two_rows delivered (Deliver 0 wire_a (from_wire 0)) (got_a ∷ []) ≡ record { used = 0; passed = 1 }
unfolding version_of_hash digits byte_serialize percent_encode_byte is_utf8 chars encode serde_json_on_literals
took_again = refl

took_late : took_by two_rows gave_up (Deliver 1 wire_b (from_wire 1)) (got_b ∷ []) ≡ record { used = 0; passed = 1 }
unfolding version_of_hash digits byte_serialize percent_encode_byte is_utf8 chars encode serde_json_on_literals
took_late = refl

states_at_end : map (state two_rows (Deliver 1 wire_b (from_wire 1) ∷ gave_up)) (codes "a" ∷ codes "b" ∷ []) ≡ phase.Ready ∷ phase.Error ∷ []
unfolding version_of_hash digits byte_serialize percent_encode_byte is_utf8 chars encode serde_json_on_literals
states_at_end = refl

executed_once : log two_rows (Deliver 1 wire_b (from_wire 1) ∷ gave_up) ≡ 0 ∷ []
unfolding version_of_hash digits byte_serialize percent_encode_byte is_utf8 chars encode serde_json_on_literals
executed_once = refl

stored_at_end : map (λ stored. stored.key) (stored_after never two_rows (Deliver 1 wire_b (from_wire 1) ∷ gave_up))
    ≡ (record { name = codes "a"; version = codes "aaaaa" }) ∷ []
unfolding version_of_hash digits byte_serialize percent_encode_byte is_utf8 chars encode serde_json_on_literals
stored_at_end = refl

-- ---- the next view takes it from the store, and asks for the other alone

abbrev pair_a : Stored
pair_a = record { key = record { name = codes "a"; version = codes "aaaaa" }; part = got_a; wire = Some 0 }

stored_pairs : stored_after never two_rows gave_up ≡ pair_a ∷ []
unfolding version_of_hash digits byte_serialize percent_encode_byte is_utf8 chars encode serde_json_on_literals
stored_pairs = refl

abbrev next_view : Opening
next_view = record two_rows { stored = pair_a ∷ [] }

asks_for_the_other : map (λ sent. sent.batch.rows) (traffic_of next_view (Using (codes "a" ∷ codes "b" ∷ []) ∷ [])).batches ≡ (1 ∷ []) ∷ []
unfolding version_of_hash digits byte_serialize percent_encode_byte is_utf8 chars encode serde_json_on_literals
asks_for_the_other = refl

stored_is_ready : state next_view (Using (codes "a" ∷ codes "b" ∷ []) ∷ []) (codes "a") ≡ phase.Ready
unfolding version_of_hash digits byte_serialize percent_encode_byte is_utf8 chars encode serde_json_on_literals
stored_is_ready = refl

kept_by_next : stored_after never next_view (Using (codes "a" ∷ codes "b" ∷ []) ∷ []) ≡ pair_a ∷ []
unfolding version_of_hash digits byte_serialize percent_encode_byte is_utf8 chars encode serde_json_on_literals
kept_by_next = refl

-- in debug nothing is taken from the store, and it stays
abbrev in_debug : Opening
in_debug = record next_view { base = record base { debug = true } }

debug_asks : map (λ sent. sent.batch.rows) (traffic_of in_debug (Using (codes "a" ∷ []) ∷ [])).batches ≡ (0 ∷ []) ∷ []
unfolding version_of_hash digits byte_serialize percent_encode_byte is_utf8 chars encode serde_json_on_literals
debug_asks = refl

debug_keeps : stored_after never in_debug (Using (codes "a" ∷ []) ∷ []) ≡ pair_a ∷ []
unfolding version_of_hash digits byte_serialize percent_encode_byte is_utf8 chars encode serde_json_on_literals
debug_keeps = refl

-- ---- one answer with two parts of a row: the first counts
twice_in_one : took_by two_rows asked (Deliver 0 (wire_a ++ wire_a ++ wire_b) (from_wire 0)) (got_a ∷ got_a ∷ got_b ∷ [])
    ≡ record { used = 1; passed = 2 }
unfolding version_of_hash digits byte_serialize percent_encode_byte is_utf8 chars encode serde_json_on_literals
twice_in_one = refl

-- ---- a short answer settles its batch, and leaves its row without an outcome
abbrev short : List Call
short = Deliver 0 [] mark ∷ Take ∷ using_a

pub short_settles : ShortAnswersSettle
unfolding version_of_hash digits byte_serialize percent_encode_byte serde_json_on_literals
short_settles = (one_row, short, alone, refl, refl)
  where
    alone : HasDistinctNames one_row.registered
    alone i j d lt within = absurd (omega arith)
