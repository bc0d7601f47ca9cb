use Rattle.std.proofs.Common.{◌≡◌, ◌<◌, ◌≤◌, ◌+◌, ◌-◌, ◌&&◌, ◌++◌, ◌∷◌, [], ℕ, List, true, length, get_or}
use Rattle.std.proofs.Common.{map, take, ap, sym, ◌∙◌, cond, arith}
use Rattle.std.specs.Borrow.{Bor}
use Rattle.std.specs.Prelude.{bytes_eq, nat_le}
use Rattle.std.specs.Ordering.{nat_cmp, is_eq}
use Rattle.std.specs.Cmp.Lexicographic.{slice_cmp}
use Rattle.std.proofs.lemmas.Bool.{and_parts, leb-true}
use Rattle.std.proofs.lemmas.List.{length-map}
use Rattle.std.proofs.lemmas.Map.Text.{is_eq-slice_cmp}
use Rattle.rl_names.specs.Packing.{front_of}
use Rattle.rl_names.specs.Query.{query_text}
use Rattle.rl_names.proofs.GroupingLemmas.{has, has_more}
use Rattle.rl_names.specs.declared.row.Row.{Row}
use Rattle.rl_book_spec.specs.Batches.{Numbered, collected_len, names_in}
use Rattle.rl_batch.specs.Split.{is_split, seen}
use Rattle.rl_batch.proofs.CountedLemmas.{added_is, fills_here, fits_here, fronts_push, len_more, low_more, names_push, open_more, seen_at, seen_more}
use Rattle.rl_batch.proofs.CountedLemmas.{split_more}
use Rattle.rl_batch.proofs.filling.fill.Goals as goal
use Rattle.rl_batch.proofs.filling.fill.Goals.{else-at-gt0-via-then-at-gt0+else-not-goes_on, else-at-gt0-via-else-at-gt0}

pub returns-then-not-goes_on-clause-cut : goal.returns-then-not-goes_on-clause-cut
returns-then-not-goes_on-clause-cut c =
    let rows = c.args.rows.now in
    let i = c.rows.at in
    let x = c.index-rows-at.result in
    let done : List Numbered = map seen (take i rows) in
    let low : i < length rows = c.rows-test.true in
    let added = added_is (names_in done) x.1.now.name _ c.added_len-added.result
    (c.rows.invariant.fronts (front_of x.1.now.name)) c.added_len-added.ensures.exact in
    let least : 3 ≤ c.added_len-added.result = omega (arith, c.added_len-added.ensures.exact) in
    let room : c.saturating_sub-room.result ≡ c.args.limit - length (query_text c.args.base.now) - 23 =
    omega (arith, c.saturating_sub-room.ensures, c.saturating_sub.ensures, c.encoded_len.ensures, c.from.ensures) in
    let is = fits_here (length (query_text c.args.base.now)) c.args.limit rows i c.index-rows-0.result x c.rows.len c.added_len-added.result
    c.saturating_sub-room.result c.if-at-gt0.true low c.rows.invariant.split c.rows.invariant.len added least room in
    fills_here (length (query_text c.args.base.now)) c.args.limit (map seen rows) i (seen x) (omega (arith, low, length-map rows seen))
    (seen_at rows i x (seen x) low ∙ ap seen (sym c.index-rows-at.is)) c.if-at-gt0.true
    (is ∙ (sym c.goes_on.ensures ∙ c.if-not-goes_on.true)) c.rows.invariant.cut

pub rows-preserved : goal.rows-preserved
rows-preserved c =
    let rows = c.args.rows.now in
    let i = c.rows.at in
    let x = c.index-rows-at.result in
    let done : List Numbered = map seen (take i rows) in
    let low : i < length rows = c.rows-test.true in
    let added = added_is (names_in done) x.1.now.name _ c.added_len-added.result
    (c.rows.invariant.fronts (front_of x.1.now.name)) c.added_len-added.ensures.exact in
    let least : 3 ≤ c.added_len-added.result = omega (arith, c.added_len-added.ensures.exact) in
    let room : c.saturating_sub-room.result ≡ c.args.limit - length (query_text c.args.base.now) - 23 =
    omega (arith, c.saturating_sub-room.ensures, c.saturating_sub.ensures, c.encoded_len.ensures, c.from.ensures) in
    let went : 0 < i → (is_split (get_or rows 0 c.index-rows-0.result).1.now x.1.now
    && nat_le (c.rows.len + c.added_len-added.result) c.saturating_sub-room.result) ≡ true = elim c.else-at-gt0.branch [
      | else-at-gt0-via-then-at-gt0+else-not-goes_on w ↦ λ pos. sym w.goes_on.ensures ∙ w.if-not-goes_on.false
      | else-at-gt0-via-else-at-gt0 w ↦ λ pos. absurd (omega (arith, pos, w.if-at-gt0.false))
    ] in
    let more : map seen (take (i + 1) rows) ≡ done ++ seen x ∷ [] = seen_more rows i x low
    ∙ ap (λ (y : ℕ × Bor Row). done ++ seen y ∷ []) (sym c.index-rows-at.is) in
    let front : c.cut.result.0.now ≡ front_of x.1.now.name = c.cut.ensures.front ∙ ap front_of c.as_str.ensures in
    let grown : map front_of (names_in (map seen (take (i + 1) rows))) ≡ map front_of (names_in done) ++ front_of x.1.now.name ∷ [] =
    ap (λ (xs : List Numbered). map front_of (names_in xs)) more ∙ (ap (map front_of) (names_push done (seen x))
    ∙ fronts_push (names_in done) x.1.now.name) in
    record {
      low = low_more rows i c.rows.len c.added_len-added.result c.saturating_sub-room.result c.rows.invariant.len c.added_len-added.ensures.most
          (λ pos. leb-true _ _ (and_parts _ _ (went pos)).1);
      len = len_more done (seen x) c.rows.len c.added_len-added.result c.rows.invariant.len added
          ∙ ap (λ (xs : List Numbered). collected_len (names_in xs)) (sym more);
      fronts = λ q.
          c.in_ok-insert.ensures.updates.0 (record { ref_ptr = (0, 0); now = q })
          ∙ ap (cond (is_eq (slice_cmp nat_cmp c.cut.result.0.now q)) true) (c.rows.invariant.fronts q)
          ∙ ap (λ v. cond v true (has q (map front_of (names_in done)))) (is_eq-slice_cmp c.cut.result.0.now q ∙ ap (λ t. bytes_eq t q) front)
          ∙ has_more q (map front_of (names_in done)) (front_of x.1.now.name)
          ∙ ap (has q) (sym grown);
      split = split_more rows i c.index-rows-0.result x low c.index-rows-at.is c.rows.invariant.split (λ pos. (and_parts _ _ (went pos)).0);
      cut = open_more (length (query_text c.args.base.now)) c.args.limit (map seen rows) i (seen x) (omega (arith, low, length-map rows seen))
          (seen_at rows i x (seen x) low ∙ ap seen (sym c.index-rows-at.is))
          (λ pos. fits_here (length (query_text c.args.base.now)) c.args.limit rows i c.index-rows-0.result x c.rows.len c.added_len-added.result
          c.saturating_sub-room.result pos low c.rows.invariant.split c.rows.invariant.len added least room ∙ went pos)
          c.rows.invariant.cut;
    }
