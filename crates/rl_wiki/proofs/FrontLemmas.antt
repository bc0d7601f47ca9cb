-- The answer to a query that asks for the startup text, and to any other.
use Rattle.std.proofs.Common.{◌≡◌, ℕ, Bool, true, false, cond, List, Result, Ok, Err, IfOk, sym, subst, ap, ◌∙◌}
use Rattle.std.specs.Prelude.{length, nat_lt}
use Rattle.rl_names.specs.Limits.{limit_of}
use Rattle.rl_names.specs.Packing.{expand}
use Rattle.rl_names.specs.Query.{query_of}
use Rattle.rl_names.specs.declared.counted.Counted.TheVariants.{QueryBytes, Names}
use Rattle.rl_names.specs.declared.query.Query.{Query}
use Rattle.rl_defs.specs.Catalogue.{Catalogue}
use Rattle.rl_pages.specs.declared.entry.Entry.{Entry}
use Rattle.rl_pages.specs.declared.viewer.Viewer.{Viewer}
use Rattle.rl_build.specs.Sight.{sight}
use Rattle.rl_loadphp.specs.Answer.{asked}
use Rattle.rl_loadphp.specs.Refusal.{Refusal, QueryTooLong, TooManyNames}
use Rattle.rl_loadphp.specs.Served.{names_viewer, query_context}
use Rattle.rl_pages.specs.declared.viewer.Viewer.TheVariants.{Anon}
use Rattle.rl_wire.specs.StartupReading.{startup_of}
use Rattle.rl_build.specs.declared.context.Context.{Context}
use Rattle.rl_startup.specs.Registry.{start_of, startup_text_of}
use Rattle.rl_wiki.specs.Front.{reader_of}

-- what is left of two tests that refuse
unrefused : (long many : Bool) (e f : Refusal) (q r : Query) → cond long (Err e) (cond many (Err f) (Ok q)) ≡ Ok r → r ≡ q
unrefused true many e f q r is = absurd (cc)
unrefused false true e f q r is = absurd (cc)
unrefused false false e f q r is = cc

pub asked_is : (bytes : List ℕ) (q : Query) → asked bytes ≡ Ok q → q ≡ query_of bytes
asked_is bytes q is =
    let count = length (expand (query_of bytes).modules) in
    unrefused (nat_lt (limit_of QueryBytes) (length bytes)) (nat_lt (limit_of Names) count) (QueryTooLong (length bytes)) (TooManyNames count) (query_of bytes)
    q is

module _ (c : Catalogue) (entries : List Entry) (viewer : Viewer) (bytes : List ℕ) where
  module _ (q : Query) (is : asked bytes ≡ Ok q) where
    -- what was made for the query that was read was made for the query that the bytes spell
    pub reads_back : (body : List ℕ) → startup_of body ≡ Ok (start_of (sight c entries (reader_of viewer q)) (query_context c q))
        → startup_of body ≡ Ok (start_of (sight c entries (reader_of viewer (query_of bytes))) (query_context c (query_of bytes)))
    reads_back body h =
        let P : Query → Type 0 = λ x. startup_of body ≡ Ok (start_of (sight c entries (reader_of viewer x)) (query_context c x)) in
        subst P (asked_is bytes q is) h

-- ---- the reader

module _ (viewer : Viewer) (q : Query) (own : Bool) (user : List ℕ) (named : own ≡ names_viewer viewer user) (same : user ≡ q.user) where
  names : names_viewer viewer q.user ≡ own
  names = sym (named ∙ ap (names_viewer viewer) same)

  pub own_reader : own ≡ true → viewer ≡ reader_of viewer q
  own_reader is = sym (ap (λ b. cond b viewer Anon) (names ∙ is))

  pub nobody_reads : own ≡ false → Anon ≡ reader_of viewer q
  nobody_reads is = sym (ap (λ b. cond b viewer Anon) (names ∙ is))

module _ {E : Type 0} (c : Catalogue) (entries : List Entry) (viewer reader : Viewer) (q : Query) (ctx : Context) (r : Result (List ℕ) E)
    (same : ctx ≡ query_context c q) (is : reader ≡ reader_of viewer q) where
  pub text_read : IfOk r (λ t. t ≡ startup_text_of (sight c entries reader) ctx)
      → IfOk r (λ t. t ≡ startup_text_of (sight c entries (reader_of viewer q)) (query_context c q))
  text_read h =
      let P : Context → Type 0 = λ x. IfOk r (λ t. t ≡ startup_text_of (sight c entries reader) x) in
      let Q : Viewer → Type 0 = λ v. IfOk r (λ t. t ≡ startup_text_of (sight c entries v) (query_context c q)) in
      subst Q is (subst P same h)

  pub start_read : IfOk r (λ t. startup_of t ≡ Ok (start_of (sight c entries reader) ctx))
      → IfOk r (λ t. startup_of t ≡ Ok (start_of (sight c entries (reader_of viewer q)) (query_context c q)))
  start_read h =
      let P : Context → Type 0 = λ x. IfOk r (λ t. startup_of t ≡ Ok (start_of (sight c entries reader) x)) in
      let Q : Viewer → Type 0 = λ v. IfOk r (λ t. startup_of t ≡ Ok (start_of (sight c entries v) (query_context c q))) in
      subst Q is (subst P same h)
