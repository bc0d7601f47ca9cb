use Rattle.std.proofs.Common.{◌≡◌, ◌++◌, ◌∷◌, [], ◌∙◌, ℕ, List, ap, sym, codes, string_bytes, append_assoc}
use Rattle.serde_json.specs.Data.{string}
use Rattle.serde_json.specs.Written.{compact_text}
use Rattle.rl_names.specs.Name.{key_text}
use Rattle.rl_wire.specs.Payload.{payload_values}
use Rattle.rl_wire.specs.Line.{arguments_text}
use Rattle.rl_wire.proofs.AppendingLemmas.{append_then}
use Rattle.rl_wire.proofs.PrintedLemmas.{in_brackets}
use Rattle.rl_wire.proofs.line.push_payload.Goals as goal

-- the line, in the pieces that are added
in_pieces : (key payload : List ℕ) → (codes "mw.loader.implement" ++ (codes "(" ++ ((key ++ 44 ∷ payload) ++ codes ");"))) ++ 10 ∷ []
    ≡ codes "mw.loader.implement(" ++ (key ++ (codes "," ++ (payload ++ codes ");\n")))
in_pieces key payload = ap (λ (text : List ℕ). codes "mw.loader.implement(" ++ text)
    (append_assoc (key ++ 44 ∷ payload) (codes ");") (10 ∷ []) ∙ append_assoc key (44 ∷ payload) (codes ");\n"))

pub returns : goal.returns
returns c = λ script styles messages is.
    let key : List ℕ = compact_text (string (key_text c.args.name.now c.args.version)) in
    let payload : List ℕ = arguments_text (payload_values script styles messages) in
    let spelt = ap (λ (text : List ℕ). string_bytes c.push_str.new.self ++ arguments_text (string text ∷ []))
    (c.as_str-2.ensures.value ∙ c.in_ok-key.ensures ∙ ap (key_text c.args.name.now) c.as_str.ensures.value) in
    let within = c.inside.ensures payload (is ∙ in_brackets (payload_values script styles messages)) in
    append_then _ (codes "mw.loader.implement(") _ _ _ c.in_ok-push_str.ensures.bytes
    (append_then _ key _ _ _ (c.in_ok-add_text.ensures ∙ spelt)
    (append_then _ (codes ",") _ _ _ c.in_ok-push_str-2.ensures.bytes
    (append_then _ payload (codes ");\n") _ _ (c.in_ok-push_str-3.ensures.bytes ∙ ap (λ (text : List ℕ). string_bytes c.push_str-2.new.self ++ text) within)
    c.in_ok-push_str-4.ensures.bytes)))
    ∙ ap (λ (text : List ℕ). string_bytes c.args.out.now ++ text) (sym (in_pieces key payload))
