use Rattle.std.proofs.Common.{◌≡◌, ◌++◌, ◌∷◌, ◌<◌, [], List, ap, sym, subst, ◌∙◌, map, None, Bor}
use Rattle.std.specs.List.{fold}
use Rattle.std.proofs.lemmas.List.{map-append}
use Rattle.rl_pages.specs.declared.entry.Entry.{Entry}
use Rattle.rl_pages.specs.History.{History, chooses, last_number, options_after}
use Rattle.rl_pages.specs.Index.{entry_numbered}
use Rattle.rl_pages.proofs.ChoiceLemmas.{Back, at_last, stepped, gone_through, nows-reverse}
use Rattle.rl_pages.proofs.pages.Pages.choices.Goals as goal

pub choices-init : goal.choices-init
choices-init c =
    let user = c.args.user.now in
    let es = c.self.inside.entries.items in
    let number : c.number_of-number.result ≡ last_number (chooses user) es = c.number_of-number.ensures ∙ c.self.invariant.chosen user in
    subst (λ (h : History). Back user h.entries c.number_of-number.result (map (λ (e : Bor Entry). e.now) c.new-found.result.items)) c.self.view_is
    (subst (λ (found : List (Bor Entry)). Back user es c.number_of-number.result (map (λ (e : Bor Entry). e.now) found)) (sym c.new-found.ensures.items)
    (subst (λ n. Back user es n []) (sym number) (at_last user es)))

module _ (c : goal.In_ok-push) where
  abbrev gone : List Entry
  gone = map (λ (e : Bor Entry). e.now) c.choices.found.items

  entries : c.as_slice.result.now ≡ c.args.self.now.entries
  entries = c.as_slice.ensures.value ∙ ap (λ (h : History). h.entries) c.self.view_is

  step : Back c.args.user.now c.args.self.now.entries c.in-Some.before (gone ++ c.in-Some.entry.now ∷ []) × (c.in-Some.before < c.choices.number)
  step =
      stepped c.args.user.now c.args.self.now.entries c.choices.number gone c.in-Some.entry.now c.in-Some.before
      (c.in-Some.ensures ∙ ap (λ es. entry_numbered es c.choices.number) entries) c.choices.invariant

pub choices-smaller : goal.choices-smaller
choices-smaller c = (step c).1

pub choices-preserved : goal.choices-preserved
choices-preserved c =
    let items : c.push.new.self.items ≡ c.choices.found.items ++ c.in-Some.entry ∷ [] = c.in_ok-push.ensures.items in
    subst (λ xs. Back c.args.user.now c.args.self.now.entries c.in-Some.before xs)
    (sym (ap (map (λ (e : Bor Entry). e.now)) items ∙ map-append (λ (e : Bor Entry). e.now) c.choices.found.items (c.in-Some.entry ∷ []))) (step c).0

pub returns : goal.returns
returns c =
    let user = c.args.user.now in
    let now : List (Bor Entry) → List Entry = map (λ (e : Bor Entry). e.now) in
    let past : entry_numbered c.args.self.now.entries c.choices.number ≡ None
    = ap (λ es. entry_numbered es c.choices.number) (sym (c.as_slice.ensures.value ∙ ap (λ (h : History). h.entries) c.self.view_is))
    ∙ sym c.in_default.ensures in
    ap (λ xs. fold (options_after user) [] (now xs)) c.reverse.ensures.items ∙ ap (fold (options_after user) []) (nows-reverse c.choices.found.items)
    ∙ gone_through user c.args.self.now.entries c.choices.number (now c.choices.found.items) past c.choices.invariant
