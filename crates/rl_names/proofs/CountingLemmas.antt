-- How many pieces a text expands to, byte by byte.
use Rattle.std.proofs.Common.{◌≡◌, ℕ, ◌+◌, Bool, true, false, ◌||◌, ◌&&◌, not, cond, List, [], ◌∷◌, length, flat_map, refl, sym, ap}
use Rattle.std.proofs.Common.{◌∙◌, arith, length-append}
use Rattle.std.specs.List.{list_any, slice_split, onto_first, count_by}
use Rattle.std.proofs.lemmas.List.{length-map}
use Rattle.std.proofs.lemmas.List.Splits.{slice_split-cons_yes, slice_split-cons_no, length-slice_split}
use Rattle.std.proofs.lemmas.List.Sums.{sum_by-cons}
use Rattle.rl_names.proofs.CutLemmas.{all_suffix}
use Rattle.rl_names.specs.Counting.{has_dot, divides_pieces, piece_count}
use Rattle.rl_names.specs.Packing.{is_bar, is_comma, is_dot, suffix_of, expand_group, expand}

-- ---- one group

group_pieces : (group : List ℕ) → length (expand_group group) ≡ count_by is_comma (suffix_of group) + 1
group_pieces group = length-map _ _ ∙ length-slice_split is_comma (suffix_of group)

commas_more : (dotted dot : Bool) (b : ℕ) (group : List ℕ) → list_any is_dot group ≡ dotted → is_dot b ≡ dot
    → count_by is_comma (cond (dot || dotted) (suffix_of group) (b ∷ group)) ≡ count_by is_comma (suffix_of group) + cond (is_comma b && not dotted) 1 0
commas_more true true b group e d = grind arith
commas_more true false b group e d = grind arith
commas_more false true b group e d = grind arith
commas_more false false b group e d = rw (all_suffix is_dot group e) (sum_by-cons (λ x. cond (is_comma x) 1 0) b group ∙ grind arith)

-- a byte in front of a group, which is no bar
group_more : (b : ℕ) (group : List ℕ) → is_bar b ≡ false
    → length (expand_group (b ∷ group)) ≡ length (expand_group group) + cond (divides_pieces b (list_any is_dot group)) 1 0
group_more b group e =
    let more = commas_more (list_any is_dot group) (is_dot b) b group refl refl in
    let divides : divides_pieces b (list_any is_dot group) ≡ (is_comma b && not (list_any is_dot group)) =
    ap (λ v. v || (is_comma b && not (list_any is_dot group))) e in
    rw divides (omega (arith, group_pieces (b ∷ group), group_pieces group, more))

-- ---- all groups

-- the group that a text begins with, and the others
record Begins (bs : List ℕ) : Type 0 where
  group : List ℕ
  groups : List (List ℕ)
  split : slice_split is_bar bs ≡ group ∷ groups
  dotted : list_any is_dot group ≡ has_dot bs

begins_step : (bar : Bool) (b : ℕ) (bs : List ℕ) → is_bar b ≡ bar → Begins bs → Begins (b ∷ bs)
begins_step true b bs e rest = record {
  group = [];
  groups = slice_split is_bar bs;
  split = slice_split-cons_yes is_bar b bs e;
  dotted = sym (ap (λ v. not v && (is_dot b || has_dot bs)) e);
}
begins_step false b bs e rest = record {
  group = b ∷ rest.group;
  groups = rest.groups;
  split = slice_split-cons_no is_bar b bs e ∙ ap (onto_first b) rest.split;
  dotted = ap (λ v. is_dot b || v) rest.dotted ∙ sym (ap (λ v. not v && (is_dot b || has_dot bs)) e);
}

begins : (bs : List ℕ) → Begins bs
begins [] = record { group = []; groups = []; split = refl; dotted = refl }
begins (b ∷ bs) = begins_step (is_bar b) b bs refl (begins bs)

split_length : (bs group : List ℕ) (groups : List (List ℕ)) → slice_split is_bar bs ≡ group ∷ groups
    → length (expand bs) ≡ length (expand_group group) + length (flat_map expand_group groups)
split_length bs group groups e = ap (λ l. length (flat_map expand_group l)) e ∙ length-append (expand_group group) (flat_map expand_group groups)

count_step : (bar : Bool) (b : ℕ) (bs : List ℕ) → is_bar b ≡ bar →
    length (expand (b ∷ bs)) ≡ length (expand bs) + cond (divides_pieces b (has_dot bs)) 1 0
count_step true b bs e =
    let whole = split_length (b ∷ bs) [] (slice_split is_bar bs) (slice_split-cons_yes is_bar b bs e) in
    let divides : divides_pieces b (has_dot bs) ≡ true = ap (λ v. v || (is_comma b && not (has_dot bs))) e in
    rw divides (omega (arith, whole, group_pieces []))
count_step false b bs e =
    let rest = begins bs in
    let whole = split_length (b ∷ bs) (b ∷ rest.group) rest.groups (slice_split-cons_no is_bar b bs e ∙ ap (onto_first b) rest.split) in
    let before = split_length bs rest.group rest.groups rest.split in
    let more : length (expand_group (b ∷ rest.group)) ≡ length (expand_group rest.group) + cond (divides_pieces b (has_dot bs)) 1 0 =
    group_more b rest.group e ∙ ap (λ v. length (expand_group rest.group) + cond (divides_pieces b v) 1 0) rest.dotted in
    omega (arith, whole, before, more)

pub pieces_counted : (bs : List ℕ) → length (expand bs) ≡ piece_count bs
pieces_counted [] = refl
pieces_counted (b ∷ bs) = count_step (is_bar b) b bs refl ∙ ap (λ n. n + cond (divides_pieces b (has_dot bs)) 1 0) (pieces_counted bs)
