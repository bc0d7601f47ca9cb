-- Names, keys, hashes, packed lists, queries and titles, computed on the definitions.
use Rattle.std.proofs.Common.{◌≡◌, ℕ, List, [], ◌∷◌, refl, Some, None, Ok, Err, replicate}
use Rattle.std.specs.Prelude.{codes}
use Rattle.std.specs.Str.{is_utf8, chars}
use Rattle.std.specs.Str.Lossy.{utf8_lossy, utf8_valid_len}
use Rattle.std.specs.Fmt.{digits}
use Rattle.form_urlencoded.specs.Form.{raw_pairs, split, byte_serialize}
use Rattle.percent_encoding.specs.Percent.{percent_decode, percent_encode_byte}
use lib.Utf8.{encode}
use Rattle.rl_names.specs.Hash.{hash_5, combined, version_of_hash}
use Rattle.rl_names.specs.Key.{key_of, NoVersion, BadVersion, BadName}
use Rattle.rl_names.specs.Name.{name_fault, Empty, TooLong, BadByte, LeadingDot}
use Rattle.rl_names.specs.Packing.{pack, packed_order, expand}
use Rattle.rl_names.specs.Query.{query_of, query_text}
use Rattle.rl_names.specs.Title.{title_of, user_name_of}

-- ---- names

no_bytes : name_fault [] ≡ Some Empty
no_bytes = refl

name_of_255 : name_fault (replicate 255 97) ≡ None
name_of_255 = refl

name_of_256 : name_fault (replicate 256 97) ≡ Some (TooLong 256)
name_of_256 = refl

bar_in_name : name_fault (codes "a|b") ≡ Some (BadByte 1)
bar_in_name = refl

dot_in_front : name_fault (codes ".a") ≡ Some LeadingDot
dot_in_front = refl

bar_before_dot : name_fault (codes ".a|") ≡ Some (BadByte 2)
bar_before_dot = refl

-- ---- keys

key_with_at_in_front : key_of (codes "@wikimedia/codex@1efc7") ≡ Ok (record { name = codes "@wikimedia/codex"; version = codes "1efc7" })
key_with_at_in_front = refl

key_with_at_within : key_of (codes "a@b@1efc7") ≡ Ok (record { name = codes "a@b"; version = codes "1efc7" })
key_with_at_within = refl

no_version : key_of (codes "@x") ≡ Err NoVersion
no_version = refl

no_version_of_scope : key_of (codes "@wikimedia/codex") ≡ Err NoVersion
no_version_of_scope = refl

bad_version : key_of (codes "a@b") ≡ Err BadVersion
bad_version = refl

bad_name : key_of (codes ".a@1efc7") ≡ Err BadName
bad_name = refl

-- ---- hashes

hash_of_nothing : hash_5 [] ≡ codes "ztntf"
unfolding version_of_hash digits
hash_of_nothing = refl

hash_of_a : hash_5 (codes "a") ≡ codes "1efc7"
unfolding version_of_hash digits
hash_of_a = refl

hash_of_b : hash_5 (codes "b") ≡ codes "1efc7"
unfolding version_of_hash digits
hash_of_b = refl

hash_of_foobar : hash_5 (codes "foobar") ≡ codes "duu7a"
unfolding version_of_hash digits
hash_of_foobar = refl

-- 79rb in base 36, padded
hash_padded : hash_5 (codes "98430") ≡ codes "079rb"
unfolding version_of_hash digits
hash_padded = refl

combined_versions : combined (codes "aaaaa" ∷ codes "ccccc" ∷ codes "bbbbb" ∷ []) ≡ codes "unhc5"
unfolding version_of_hash digits
combined_versions = refl

-- ---- packed lists

five_names : pack (codes "foo.bar" ∷ codes "foo.baz" ∷ codes "bar.baz" ∷ codes "bar.quux" ∷ codes "jquery" ∷ [])
    ≡ codes "foo.bar,baz|bar.baz,quux|jquery"
five_names = refl

abbrev four : List (List ℕ)
four = codes "foo.bar" ∷ codes "jquery" ∷ codes "foo.baz" ∷ codes "mw" ∷ []

abbrev four_by_group : List (List ℕ)
four_by_group = codes "foo.bar" ∷ codes "foo.baz" ∷ codes "jquery" ∷ codes "mw" ∷ []

four_names : pack four ≡ codes "foo.bar,baz|jquery,mw"
four_names = refl

four_ordered : packed_order four ≡ four_by_group
four_ordered = refl

four_expanded : expand (codes "foo.bar,baz|jquery,mw") ≡ four_by_group
four_expanded = refl

nothing_expanded : expand [] ≡ [] ∷ []
nothing_expanded = refl

empty_suffix : expand (codes "a.,b") ≡ codes "a." ∷ codes "a.b" ∷ []
empty_suffix = refl

lone_comma : expand (codes ",") ≡ [] ∷ [] ∷ []
lone_comma = refl

comma_before_dot : expand (codes "a,b.c") ≡ codes "a,b.c" ∷ []
comma_before_dot = refl

lone_bar : expand (codes "|") ≡ [] ∷ [] ∷ []
lone_bar = refl

two_bars : expand (codes "a||b") ≡ codes "a" ∷ [] ∷ codes "b" ∷ []
two_bars = refl

-- ---- titles and user names

spaced_title : title_of (codes "_Main__Page _") ≡ Some (codes "Main Page")
unfolding is_utf8 chars encode
spaced_title = refl

no_words : title_of (codes "_ _") ≡ None
unfolding is_utf8 chars encode
no_words = refl

spaced_user : user_name_of (codes "Ann_Lee") ≡ Some (codes "Ann Lee")
unfolding is_utf8 chars encode
spaced_user = refl

user_with_slash : user_name_of (codes "Ann/x") ≡ None
unfolding is_utf8 chars encode
user_with_slash = refl

title_of_256 : title_of (replicate 256 97) ≡ None
unfolding is_utf8 chars encode
title_of_256 = refl

-- ---- queries

-- the text that the query of a form is written as
abbrev written : List ℕ → List ℕ
written form = query_text (query_of form)

last_value_counts : written (codes "skin=x&debug=1&modules=a&modules=b%7Cc&raw=1") ≡ codes "debug=true&modules=b%7Cc&skin=x"
unfolding raw_pairs split utf8_lossy percent_decode utf8_valid_len byte_serialize percent_encode_byte is_utf8 chars encode
last_value_counts = refl

empty_value_is_absent : written (codes "lang=de&only=x&lang=") ≡ []
unfolding raw_pairs split utf8_lossy percent_decode utf8_valid_len byte_serialize percent_encode_byte is_utf8 chars encode
empty_value_is_absent = refl

plus_is_space : written (codes "modules=a+b%20c&&=x&skin") ≡ codes "modules=a+b+c"
unfolding raw_pairs split utf8_lossy percent_decode utf8_valid_len byte_serialize percent_encode_byte is_utf8 chars encode
plus_is_space = refl
