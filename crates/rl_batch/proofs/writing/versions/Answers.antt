use Rattle.std.proofs.Common.{◌≡◌, ◌++◌, ◌+◌, ◌∷◌, [], Option, ap, sym, ◌∙◌, arith, take}
use Rattle.std.specs.List.{filter_map, cons_option}
use Rattle.std.proofs.lemmas.Grind.{common_steps}
use Rattle.std.proofs.lemmas.List.{take_more}
use Rattle.rl_view_spec.specs.Closure.{Text}
use Rattle.rl_batch.specs.Split.{version_at}
use Rattle.rl_batch.proofs.CutsLemmas.{filter_map_push}
use Rattle.rl_batch.proofs.writing.versions.Goals as goal
use Rattle.rl_batch.proofs.writing.versions.Goals.{in-Some+in_ok-push, in_default}

pub names-preserved : goal.names-preserved
names-preserved c =
    let f = version_at c.args.registry.now in
    let xs = c.args.names.now in
    let i = c.names.name-index in
    let x = c.name-item.result in
    let grown : filter_map f (take (i + 1) xs) ≡ filter_map f (take i xs) ++ cons_option (f x) [] =
    ap (filter_map f) (take_more xs i x c.names-test.true ∙ ap (λ z. take i xs ++ z ∷ []) (sym c.name-item.is)) ∙ filter_map_push f (take i xs) x in
    elim c.match-version.branch [
      | in-Some+in_ok-push w ↦
          let one : cons_option (f x) [] ≡ w.in-Some.version ∷ [] = ap (λ (o : Option Text). cons_option o []) (sym c.version.ensures ∙ w.in-Some.is) in
          grind (arith, common_steps, w.in_ok-push.ensures.items, c.names.invariant, grown, one, w.versions-is)
      | in_default w ↦
          let none : cons_option (f x) [] ≡ [] = ap (λ (o : Option Text). cons_option o []) (sym c.version.ensures ∙ w.in_default.is) in
          grind (arith, common_steps, c.names.invariant, grown, none, w.versions-is)
    ]
