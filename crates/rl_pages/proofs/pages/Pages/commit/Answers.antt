use Rattle.std.proofs.Common.{◌≡◌, ◌+◌, ◌<◌, true, false, Option, Some}
use Rattle.std.proofs.Common.{cond, length, subst, ap, sym, ◌∙◌, arith, [], ◌∷◌, ◌++◌}
use Rattle.std.specs.Vec.{vec_capacity, vec_len}
use Rattle.std.proofs.lemmas.Grind.{common_steps}
use Rattle.std.proofs.lemmas.List.Sums.{sum_by-append}
use Rattle.rl_pages.specs.declared.entry.Entry.{Entry}
use Rattle.rl_pages.specs.History.{History, revision_of, edits, chooses, last_number, bytes_of, size_of}
use Rattle.rl_pages.specs.Index.{HasRoom, number_at, choice_before, befores}
use Rattle.rl_pages.specs.Refusals.{IsAccepted}
use Rattle.rl_pages.proofs.ChoiceLemmas.{befores_append, befores_length, before_known}
use Rattle.rl_pages.proofs.HistoryLemmas.{accepted_more}
use Rattle.rl_pages.proofs.IndexLemmas.{last_append, revision_append}
use Rattle.rl_pages.proofs.pages.Pages.commit.Goals as goal

pub invariant_of-self : goal.invariant_of-self
invariant_of-self c =
    let es = c.self.inside.entries.items in
    let entry = c.args.entry in
    let room : c.self.inside.room ≡ Some entry = ap (λ (h : History). h.room) c.self.view_is ∙ c.requires in
    let place = subst (λ (r : Option Entry). HasRoom es (vec_capacity c.self.inside.entries) c.self.inside.numbers
    (vec_capacity c.self.inside.before) c.self.inside.choosers r) room c.self.invariant.place in
    let items : c.push-2.new.self.items ≡ es ++ entry ∷ [] = c.in-Ok-push.ensures.items in
    let larger : bytes_of (es ++ entry ∷ []) ≡ bytes_of es + (0 + size_of entry) = sum_by-append size_of es (entry ∷ []) in
    let sized : c.size.result ≡ size_of entry = c.size.ensures in
    let again : bytes_of c.push-2.new.self.items ≡ bytes_of (es ++ entry ∷ []) = ap bytes_of items in
    let count : c.len.result + 1 ≡ length es + 1 = grind (arith, common_steps) in
    let before : c.number_before.result ≡ choice_before es entry = c.number_before.ensures
    ∙ before_known es c.self.inside.choosers c.self.invariant.chosen entry in
    let links : c.push.new.self.items ≡ c.self.inside.before.items ++ c.number_before.result ∷ [] = c.in-Ok.ensures.items in
    record {
      accepted = subst IsAccepted (sym items) (accepted_more es entry c.self.invariant.accepted place.0 place.1);
      counted = omega (arith, c.self.invariant.counted, larger, sized, again);
      last = λ q. c.set_number_by.ensures q ∙ ap (λ n. cond (edits q entry) n (number_at c.self.inside.numbers q)) count
          ∙ ap (λ n. cond (edits q entry) (length es + 1) n) (c.self.invariant.last q)
          ∙ sym (revision_append q es entry) ∙ sym (ap (λ xs. revision_of xs q) items);
      linked = links ∙ ap (λ ns. ns ++ c.number_before.result ∷ []) c.self.invariant.linked ∙ ap (λ n. befores [] es ++ n ∷ []) before
          ∙ sym (befores_append [] es entry) ∙ sym (ap (befores []) items);
      chosen = λ q. c.set_number_of_chooser.ensures q ∙ ap (λ n. cond (chooses q entry) n (number_at c.self.inside.choosers q)) count
          ∙ ap (λ n. cond (chooses q entry) (length es + 1) n) (c.self.invariant.chosen q)
          ∙ sym (last_append (chooses q) es entry) ∙ sym (ap (last_number (chooses q)) items);
      place = tt;
    }

pub unreachable-requires : goal.unreachable-requires
unreachable-requires c =
    let room : c.self.inside.room ≡ Some c.args.entry = ap (λ (h : History). h.room) c.self.view_is ∙ c.requires in
    let place = subst (λ (r : Option Entry). HasRoom c.self.inside.entries.items (vec_capacity c.self.inside.entries) c.self.inside.numbers
    (vec_capacity c.self.inside.before) c.self.inside.choosers r) room c.self.invariant.place in
    let few : length c.self.inside.before.items ≡ length c.self.inside.entries.items
    = ap length c.self.invariant.linked ∙ befores_length [] c.self.inside.entries.items in
    let links : length c.self.inside.entries.items < vec_capacity c.self.inside.before = place.4 in
    let fits : vec_len c.self.inside.before < vec_capacity c.self.inside.before = grind (arith, common_steps) in
    let taken : false ≡ true = c.in_default.ensures.succeeds fits in
    absurd (cc)
