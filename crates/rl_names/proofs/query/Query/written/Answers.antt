use Rattle.std.proofs.Common.{◌≡◌, ◌++◌, [], ap, sym, ◌∙◌}
use Rattle.std.specs.Prelude.{codes}
use Rattle.form_urlencoded.specs.Target.{Target}
use Rattle.rl_names.specs.Query.{debug_text}
use Rattle.rl_names.specs.QuerySteps.{with_parameter}
use Rattle.rl_names.proofs.QueryWrittenLemmas.{in_steps, up_to_lang, up_to_only, up_to_user}
use Rattle.rl_names.proofs.query.Query.written.Goals as goal

pub returns-clause-text : goal.returns-clause-text
returns-clause-text c =
    let q = c.args.self.now in
    let t1 = with_parameter [] (codes "debug") (debug_text q.debug) in
    let t3 = with_parameter (up_to_lang q) (codes "modules") q.modules in
    let t5 = with_parameter (up_to_only q) (codes "skin") q.skin in
    let f0 : c.new-form.result.form ≡ [] = ap (λ (f : Target). f.form) c.new-form.ensures ∙ c.new.ensures.bytes in
    let f1 : c.append.new.form.form ≡ t1 =
    ap (λ (f : Target). f.form) c.in_ok-append.ensures ∙ ap (λ f. with_parameter f (codes "debug") c.debug_str.result.now) f0
    ∙ ap (with_parameter [] (codes "debug")) c.debug_str.ensures in
    let f2 : c.append-2.new.form.form ≡ up_to_lang q =
    ap (λ (f : Target). f.form) c.in_ok-append-2.ensures ∙ ap (λ f. with_parameter f (codes "lang") c.as_str.result.now) f1
    ∙ ap (with_parameter t1 (codes "lang")) c.as_str.ensures in
    let f3 : c.append-3.new.form.form ≡ t3 =
    ap (λ (f : Target). f.form) c.in_ok-append-3.ensures ∙ ap (λ f. with_parameter f (codes "modules") c.as_str-2.result.now) f2
    ∙ ap (with_parameter (up_to_lang q) (codes "modules")) c.as_str-2.ensures in
    let f4 : c.append-4.new.form.form ≡ up_to_only q =
    ap (λ (f : Target). f.form) c.in_ok-append-4.ensures ∙ ap (λ f. with_parameter f (codes "only") c.as_str-3.result.now) f3
    ∙ ap (with_parameter t3 (codes "only")) c.as_str-3.ensures in
    let f5 : c.append-5.new.form.form ≡ t5 =
    ap (λ (f : Target). f.form) c.in_ok-append-5.ensures ∙ ap (λ f. with_parameter f (codes "skin") c.as_str-4.result.now) f4
    ∙ ap (with_parameter (up_to_only q) (codes "skin")) c.as_str-4.ensures in
    let f6 : c.append-6.new.form.form ≡ up_to_user q =
    ap (λ (f : Target). f.form) c.in_ok-append-6.ensures ∙ ap (λ f. with_parameter f (codes "user") c.as_str-5.result.now) f5
    ∙ ap (with_parameter t5 (codes "user")) c.as_str-5.ensures in
    let f7 : c.append-7.new.form.form ≡ with_parameter (up_to_user q) (codes "version") q.version =
    ap (λ (f : Target). f.form) c.in_ok-append-7.ensures ∙ ap (λ f. with_parameter f (codes "version") c.as_str-6.result.now) f6
    ∙ ap (with_parameter (up_to_user q) (codes "version")) c.as_str-6.ensures in
    let prefix : c.append-7.new.form.prefix ≡ [] = ap (λ (f : Target). f.prefix) c.in_ok-append-7.ensures in
    c.from_string.ensures ∙ c.finish.ensures ∙ ap (λ p. p ++ c.append-7.new.form.form) prefix ∙ f7 ∙ sym (in_steps q)
