use Rattle.std.proofs.Common.{◌≡◌, ◌+◌, ◌++◌, [], ◌∷◌, ◌&&◌, length, take, map, cond, ap, sym, ◌∙◌, rules, unwrap_or, Some}
use Rattle.std.proofs.Common.{get_or}
use Rattle.std.specs.List.{position_from}
use Rattle.std.specs.Prelude.{bytes_eq}
use Rattle.std.proofs.lemmas.List.{take_more, length-map}
use Rattle.std.proofs.lemmas.List.Folds.{list_all_more}
use Rattle.rl_names.specs.Name.{is_name}
use Rattle.rl_names.specs.Grouping.{put_at}
use Rattle.rl_names.specs.Packing.{front_of, fronts, group_of}
use Rattle.rl_names.proofs.GroupingLemmas.{name_put, place_noted}
use Rattle.rl_names.proofs.packing.groups.Goals as goal

pub names-preserved : goal.names-preserved
names-preserved c =
    let xs = c.args.names.now in
    let i = c.names.name-index in
    let y = c.name-item.result in
    let done = take i xs in
    let place = c.in_ok-place.place in
    let grown : take (i + 1) xs ≡ done ++ y ∷ [] = take_more xs i y c.names-test.true ∙ ap (λ z. done ++ z ∷ []) (sym c.name-item.is) in
    let front : c.cut.result.0.now ≡ front_of y = c.cut.ensures.front ∙ ap front_of c.text.ensures.value in
    let count : length c.names.groups.items ≡ length (fronts done) = sym (length-map c.names.groups.items (λ group. map (λ n. n.now) group.items))
    ∙ ap length c.names.invariant.grouped ∙ length-map (fronts done) (group_of done) in
    let next : c.len.result ≡ length (fronts done) = c.len.ensures ∙ search rules ∙ count in
    let at : place ≡ unwrap_or (position_from (λ f. bytes_eq f (front_of y)) 0 (fronts done)) (length (fronts done)) =
    c.in_ok-place.ensures.place ∙ ap (λ o. unwrap_or o c.len.result) (c.names.invariant.places c.cut.result.0.now)
    ∙ ap (λ f. unwrap_or (position_from (λ g. bytes_eq g f) 0 (fronts done)) c.len.result) front
    ∙ ap (unwrap_or (position_from (λ f. bytes_eq f (front_of y)) 0 (fronts done))) next in
    record {
      grouped = c.in_ok-put.ensures ∙ ap (λ gs. put_at gs place y) c.names.invariant.grouped ∙ name_put done y place at
          ∙ ap (λ l. map (group_of l) (fronts l)) (sym grown);
      places = λ q.
          c.in_ok-place.ensures.noted q ∙ ap (cond (bytes_eq c.cut.result.0.now q) (Some place)) (c.names.invariant.places q)
          ∙ ap (λ f. cond (bytes_eq f q) (Some place) (position_from (λ g. bytes_eq g q) 0 (fronts done))) front ∙ place_noted done y place at q
          ∙ ap (λ l. position_from (λ f. bytes_eq f q) 0 (fronts l)) (sym grown);
      all = list_all_more is_name xs i y c.names-test.true ∙ ap (λ v. v && is_name (get_or xs i y)) c.names.invariant.all ∙ ap is_name (sym c.name-item.is)
          ∙ c.text.ensures.name;
    }
