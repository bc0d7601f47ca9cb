use Rattle.std.proofs.Common.{◌≡◌, ◌∙◌, ℕ, List, Result, Ok, Err, None, ap, subst}
use Rattle.std.specs.Prelude.{IfOk}
use Rattle.rl_names.specs.declared.row.Row.{Row}
use Rattle.rl_names.specs.declared.text.NoMemory.{NoMemory}
use Rattle.rl_view_spec.specs.Breach.{breach_of}
use Rattle.rl_wire.specs.Startup.{startup_text}
use Rattle.rl_wire.specs.StartupReading.{startup_of}
use Rattle.rl_wire.specs.declared.startup.Startup.{Startup}
use Rattle.rl_build.specs.Sight.{sight}
use Rattle.rl_compact.specs.Compact.{compacted}
use Rattle.rl_startup.specs.Registry.{start_of, startup_text_of, this_wiki}
use Rattle.rl_startup.proofs.registry.startup_text.Goals as goal

start_over : List Row → Startup
start_over rows = record { sources = this_wiki; rows = compacted rows }

pub returns-clause-text : goal.returns-clause-text
unfolding startup_text_of start_of start_over
returns-clause-text c =
    let made : c.in_ok-startup.startup ≡ start_of (sight c.args.catalog.now c.args.pages.now.entries c.args.viewer.now) c.args.ctx.now =
    c.in_ok-startup.ensures.value ∙ ap start_over c.in_ok-rows.ensures.rows in
    subst (λ (start : Startup). IfOk c.write_startup.result (λ t. t ≡ startup_text start)) made c.write_startup.ensures.text

pub returns-clause-again : goal.returns-clause-again
unfolding start_of start_over
returns-clause-again c =
    let made : c.in_ok-startup.startup ≡ start_of (sight c.args.catalog.now c.args.pages.now.entries c.args.viewer.now) c.args.ctx.now =
    c.in_ok-startup.ensures.value ∙ ap start_over c.in_ok-rows.ensures.rows in
    subst (λ (start : Startup). IfOk c.write_startup.result (λ t. startup_of t ≡ Ok start)) made c.write_startup.ensures.again

anyway : (r : Result (List ℕ) NoMemory) (P : Type 0) → P → IfOk r (λ _. P)
anyway (Ok text) P p = p
anyway (Err e) P p = tt

pub returns-clause-lawful : goal.returns-clause-lawful
unfolding start_of start_over
returns-clause-lawful c =
    let made : c.in_ok-startup.startup ≡ start_of (sight c.args.catalog.now c.args.pages.now.entries c.args.viewer.now) c.args.ctx.now =
    c.in_ok-startup.ensures.value ∙ ap start_over c.in_ok-rows.ensures.rows in
    anyway c.write_startup.result _ (subst (λ (start : Startup). breach_of start.rows ≡ None) made c.in_ok-startup.ensures.lawful)
