use Rattle.std.proofs.Common.{◌≡◌, [], length, ap, sym, ◌∙◌, refl}
use Rattle.std.specs.Prelude.{codes}
use Rattle.rl_names.specs.Query.{debug_text}
use Rattle.rl_names.specs.QuerySteps.{with_parameter}
use Rattle.rl_names.proofs.QueryWrittenLemmas.{in_steps, up_to_lang, up_to_only, up_to_user}
use Rattle.rl_names.proofs.query.Query.encoded_len.Goals as goal

pub returns : goal.returns
returns c =
    let q = c.args.self.now in
    let t1 = with_parameter [] (codes "debug") (debug_text q.debug) in
    let t3 = with_parameter (up_to_lang q) (codes "modules") q.modules in
    let t5 = with_parameter (up_to_only q) (codes "skin") q.skin in
    let e1 : length t1 ≡ c.longer-len.result = ap (λ v. length (with_parameter [] (codes "debug") v)) (sym c.debug_str.ensures)
    ∙ c.longer-len.ensures.exact [] refl in
    let e2 : length (up_to_lang q) ≡ c.longer-len-2.result = ap (λ v. length (with_parameter t1 (codes "lang") v)) (sym c.as_str.ensures)
    ∙ c.longer-len-2.ensures.exact t1 e1 in
    let e3 : length t3 ≡ c.longer-len-3.result = ap (λ v. length (with_parameter (up_to_lang q) (codes "modules") v)) (sym c.as_str-2.ensures)
    ∙ c.longer-len-3.ensures.exact (up_to_lang q) e2 in
    let e4 : length (up_to_only q) ≡ c.longer-len-4.result = ap (λ v. length (with_parameter t3 (codes "only") v)) (sym c.as_str-3.ensures)
    ∙ c.longer-len-4.ensures.exact t3 e3 in
    let e5 : length t5 ≡ c.longer-len-5.result = ap (λ v. length (with_parameter (up_to_only q) (codes "skin") v)) (sym c.as_str-4.ensures)
    ∙ c.longer-len-5.ensures.exact (up_to_only q) e4 in
    let e6 : length (up_to_user q) ≡ c.longer-len-6.result = ap (λ v. length (with_parameter t5 (codes "user") v)) (sym c.as_str-5.ensures)
    ∙ c.longer-len-6.ensures.exact t5 e5 in
    sym (ap length (in_steps q) ∙ ap (λ v. length (with_parameter (up_to_user q) (codes "version") v)) (sym c.as_str-6.ensures)
    ∙ c.longer.ensures.exact (up_to_user q) e6)
