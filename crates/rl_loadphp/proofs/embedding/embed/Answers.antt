use Rattle.std.proofs.Common.{◌≡◌, ◌++◌, ap, ◌∙◌, append-nil, map}
use Rattle.rl_wire.specs.Line.{wire_text}
use Rattle.rl_wire.specs.Reading.{answer_of as parts_said}
use Rattle.rl_wire.proofs.LinesLemmas.{answers_say_parts}
use Rattle.rl_build.specs.Sight.{sight}
use Rattle.rl_loadphp.specs.Body.{implementations, missing_part, parts_of}
use Rattle.rl_loadphp.proofs.embedding.embed.Goals as goal

pub returns-clause-text : goal.returns-clause-text
returns-clause-text c =
    let s = sight c.args.catalog.now c.args.pages.now.entries c.args.viewer.now in
    let ctx = c.args.ctx.now in
    let names = c.in_ok-private_names.field-0.items in
    c.from_string.ensures ∙ c.in_ok-made.ensures.body
    ∙ ap (λ others. wire_text (implementations s ctx names ++ map missing_part others)) c.new.ensures.items
    ∙ ap wire_text (append-nil (implementations s ctx names))
    ∙ ap (λ ns. wire_text (implementations s ctx ns)) c.in_ok-private_names.ensures

pub returns-clause-parts : goal.returns-clause-parts
returns-clause-parts c =
    let s = sight c.args.catalog.now c.args.pages.now.entries c.args.viewer.now in
    let said = parts_of s c.args.ctx.now c.in_ok-private_names.field-0.items c.new.result.items in
    let text : c.from_string.result ≡ wire_text said = c.from_string.ensures ∙ c.in_ok-made.ensures.body in
    (said, c.in_ok-made.ensures.parts, text, ap parts_said text ∙ answers_say_parts.written said c.in_ok-made.ensures.parts)
