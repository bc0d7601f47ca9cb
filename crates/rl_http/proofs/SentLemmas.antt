-- What was sent of the answers, and what is collected.
use Rattle.std.proofs.Common.{◌≡◌, ℕ, ◌+◌, ◌≤◌, List, [], ◌++◌, length, take, Option, Some, None, Result, Ok, Err, OnOk, OnErr}
use Rattle.std.proofs.Common.{refl, ap, sym, subst, ◌∙◌, inl, inr, arith, append_assoc, append-nil}
use Rattle.std.proofs.Math.Seq.{take-length, take-append-add}
use Rattle.std.proofs.lemmas.Grind.{common_steps}
use Rattle.rl_base.specs.Written.{appended, and_front}
use Rattle.rl_base.specs.declared.conn.ConnError.{ConnError}
use Rattle.rl_http.specs.declared.serving.End.{End}
use Rattle.rl_http.specs.Sent.{AppendsFront, Gives}
use Rattle.rl_http.specs.Serving.{Finishes}
use Rattle.rl_http.proofs.WrittenLemmas.{appended-appended}

pub appended_none : (written : Option (List ℕ)) → written ≡ appended written []
appended_none None = refl
appended_none (Some w) = ap Some (sym (append-nil w))

-- of these texts a front was sent, and the rest is collected
pub record Sent (written0 written1 : Option (List ℕ)) (texts out : List ℕ) : Type 0 where
  pub flown : List ℕ
  pub is : written1 ≡ appended written0 flown
  pub rest : texts ≡ flown ++ out

pub sent_none : (written : Option (List ℕ)) (out : List ℕ) → out ≡ [] → Sent written written [] out
sent_none written out e = record { flown = []; is = appended_none written; rest = sym e }

-- a text collected
pub gives_collected : (written : Option (List ℕ)) (out text out1 : List ℕ) → out1 ≡ out ++ text → Gives written out text written out1
gives_collected written out text out1 e = ([], appended_none written, e)

-- all sent, and then a text
pub gives_sent : (written0 written1 written2 : Option (List ℕ)) (out text out1 : List ℕ)
    → written1 ≡ appended written0 out → written2 ≡ appended written1 text → out1 ≡ [] → Gives written0 out text written2 out1
gives_sent written0 written1 written2 out text out1 e f none = (
  out ++ text,
  f ∙ (ap (λ w. appended w text) e ∙ appended-appended written0 out text),
  ap (λ (t : List ℕ). (out ++ text) ++ t) none ∙ append-nil (out ++ text),
)

-- a front of one text is one of it and what follows
pub front_before : (written0 written1 : Option (List ℕ)) (out text : List ℕ)
    → AppendsFront written0 out written1 → AppendsFront written0 (out ++ text) written1
front_before written0 written1 out text (count, few, w) =
    (count, within out text count few, w ∙ ap (appended written0) (sym (shorter count out text few)))
  where
    within : (out text : List ℕ) (count : ℕ) → count ≤ length out → count ≤ length (out ++ text)
    within out text count h = grind (arith, common_steps)

    shorter : (count : ℕ) (out text : List ℕ) → count ≤ length out → take count (out ++ text) ≡ take count out
    shorter count out text h = grind (arith, common_steps)

-- a front of a text behind what was sent
pub front_behind : (written0 written1 written2 : Option (List ℕ)) (out text : List ℕ)
    → written1 ≡ appended written0 out → AppendsFront written1 text written2 → AppendsFront written0 (out ++ text) written2
front_behind written0 written1 written2 out text e (count, few, w) = (
  length out + count,
  within out text count few,
  w ∙ (ap (λ v. appended v (take count text)) e
      ∙ (appended-appended written0 out (take count text) ∙ ap (appended written0) (sym (take-append-add out text count)))),
)
  where
    within : (out text : List ℕ) (count : ℕ) → count ≤ length text → length out + count ≤ length (out ++ text)
    within out text count h = grind (arith, common_steps)

-- nothing of it was sent
pub front_none : (written : Option (List ℕ)) (text : List ℕ) → AppendsFront written text written
front_none written text = (0, grind (arith, common_steps), appended_none written)

-- all of it was
pub front_whole : (written0 written1 : Option (List ℕ)) (text : List ℕ) → written1 ≡ appended written0 text → AppendsFront written0 text written1
front_whole written0 written1 text e = (length text, omega arith, e ∙ ap (appended written0) (sym (take-length text)))

-- one text more
pub sent_give : (written0 written1 written2 : Option (List ℕ)) (texts out text out2 : List ℕ)
    → Sent written0 written1 texts out → Gives written1 out text written2 out2 → Sent written0 written2 (texts ++ text) out2
sent_give written0 written1 written2 texts out text out2 s (more, w, e) = record {
  flown = s.flown ++ more;
  is = w ∙ (ap (λ v. appended v more) s.is ∙ appended-appended written0 s.flown more);
  rest = ap (λ (t : List ℕ). t ++ text) s.rest
      ∙ (append_assoc s.flown out text ∙ (ap (λ (t : List ℕ). s.flown ++ t) (sym e) ∙ sym (append_assoc s.flown more out2)));
}

-- what was collected was sent, and a text behind it
pub sent_whole : (written0 written1 written2 : Option (List ℕ)) (texts out text : List ℕ)
    → Sent written0 written1 texts out → written2 ≡ appended written1 (out ++ text) → written2 ≡ appended written0 (texts ++ text)
sent_whole written0 written1 written2 texts out text s e =
    e ∙ (ap (λ v. appended v (out ++ text)) s.is
    ∙ (appended-appended written0 s.flown (out ++ text)
    ∙ ap (appended written0) (sym (append_assoc s.flown out text) ∙ ap (λ (t : List ℕ). t ++ text) (sym s.rest))))

pub sent_flushed : (written0 written1 written2 : Option (List ℕ)) (texts out out2 : List ℕ)
    → Sent written0 written1 texts out → written2 ≡ appended written1 out → out2 ≡ [] → Sent written0 written2 texts out2
sent_flushed written0 written1 written2 texts out out2 s e none = record {
  flown = texts;
  is = sent_whole written0 written1 written2 texts out [] s (e ∙ ap (appended written1) (sym (append-nil out))) ∙ ap (appended written0) (append-nil texts);
  rest = sym (ap (λ (t : List ℕ). texts ++ t) none ∙ append-nil texts);
}

-- a front of all that answers, and of a text behind it
pub sent_front : (written0 written1 written2 : Option (List ℕ)) (texts out text : List ℕ)
    → Sent written0 written1 texts out → AppendsFront written1 (out ++ text) written2
    → (front : ℕ) × (written2 ≡ appended written0 (take front (texts ++ text)))
sent_front written0 written1 written2 texts out text s (count, few, w) = (
  length s.flown + count,
  w ∙ (ap (λ v. appended v (take count (out ++ text))) s.is
      ∙ (appended-appended written0 s.flown (take count (out ++ text))
      ∙ ap (appended written0) (sym (take-append-add s.flown (out ++ text) count)
      ∙ ap (take (length s.flown + count)) (sym (append_assoc s.flown out text) ∙ ap (λ (t : List ℕ). t ++ text) (sym s.rest))))),
)

-- ---- by the result of the last call

pub where_ok : {E : Type 0} (result : Result (Unit {0}) E) (A B : Type 0) → (A → B) → OnOk result A → OnOk result B
where_ok (Ok x) A B f a = f a
where_ok (Err e) A B f a = tt

pub where_err : {E : Type 0} (result : Result (Unit {0}) E) (A B : Type 0) → (A → B) → OnErr result A → OnErr result B
where_err (Ok x) A B f a = tt
where_err (Err e) A B f a = f a

-- a text is given, and then all ends
pub finishes_given : (wanted end : End) (written0 written1 written2 : Option (List ℕ)) (out text out1 : List ℕ)
    → Gives written0 out text written1 out1 → Finishes wanted written1 out1 written2 end → Finishes wanted written0 (out ++ text) written2 end
finishes_given wanted end written0 written1 written2 out text out1 (flown, w, e) (inl (is, f)) =
    inl (is, f ∙ (ap (λ v. appended v out1) w ∙ (appended-appended written0 flown out1 ∙ ap (appended written0) e)))
finishes_given wanted end written0 written1 written2 out text out1 (flown, w, e) (inr (error, is, front)) =
    inr (error, is, subst (λ (t : List ℕ). AppendsFront written0 t written2) e (front_behind written0 written1 written2 flown out1 w front))

pub finishes_text : (wanted end : End) (written0 written1 : Option (List ℕ)) (out text other : List ℕ)
    → text ≡ other → Finishes wanted written0 (out ++ text) written1 end → Finishes wanted written0 (out ++ other) written1 end
finishes_text wanted end written0 written1 out text other e f = subst (λ (t : List ℕ). Finishes wanted written0 (out ++ t) written1 end) e f
