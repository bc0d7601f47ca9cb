use Rattle.std.proofs.Common.{◌≡◌, Bool, true, false, refl, sym, ap, ◌∙◌}
use Rattle.std.specs.Str.{is_utf8}
use Rattle.std.proofs.lemmas.Str.{IsUtf8-from_is_utf8}
use Rattle.rl_pages.specs.History.{History, options_of}
use Rattle.rl_pages.proofs.ChoiceLemmas.{unknown_chooser}
use Rattle.rl_pages.proofs.pages.Pages.choices_of.Goals as goal

pub returns-in-Err : goal.returns-in-Err
returns-in-Err c =
    c.new.ensures.items ∙ sym (unknown_chooser c.args.user.now c.self.inside.entries.items
    (unread (is_utf8 c.args.user.now) refl) c.self.invariant.accepted.kept) ∙ ap (λ (h : History). options_of h.entries c.args.user.now) c.self.view_is
  where
    unread : (b : Bool) → is_utf8 c.args.user.now ≡ b → is_utf8 c.args.user.now ≡ false
    unread false h = h
    unread true h = absurd (c.in-Err.ensures.cases.0 (IsUtf8-from_is_utf8 c.args.user.now h))
