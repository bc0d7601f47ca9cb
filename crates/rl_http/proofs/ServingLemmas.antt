-- One connection served, request by request.
use Rattle.std.proofs.Common.{◌≡◌, ℕ, ◌+◌, ◌-◌, ◌^◌, ◌<◌, ◌≤◌, List, [], ◌∷◌, ◌++◌, length, take, drop}
use Rattle.std.proofs.Common.{true, false, Option, Some, None, Ok}
use Rattle.std.proofs.Common.{min, refl, ap, sym, subst, ◌∙◌, inl, inr, arith, append_assoc, append-nil}
use Rattle.std.proofs.lemmas.List.{take-append-drop, drop-take, length-take-le}
use Rattle.rl_base.specs.Causes.{Rose}
use Rattle.rl_base.specs.Connection.{after_front}
use Rattle.rl_base.specs.Written.{appended}
use Rattle.rl_base.specs.declared.conn.ConnError.{ConnError}
use Rattle.rl_base.specs.declared.conn.ConnError.TheVariants as conns
use Rattle.rl_defs.specs.Catalogue.{Catalogue}
use Rattle.rl_pages.specs.declared.entry.Entry.{Entry}
use Rattle.rl_http.specs.declared.heads.Head.{Head}
use Rattle.rl_http.specs.declared.heads.HeadRead.TheVariants.{Part, Bad}
use Rattle.rl_http.specs.declared.hand.Hand.{Hand}
use Rattle.rl_http.specs.declared.serving.End.{End}
use Rattle.rl_http.specs.declared.serving.End.TheVariants as ends
use Rattle.rl_http.specs.Answers.{refused_text}
use Rattle.rl_http.specs.Heads.{ReadsHead}
use Rattle.rl_http.specs.Replies.{Reply, Replies, http_reply}
use Rattle.rl_http.specs.Sent.{AppendsFront}
use Rattle.rl_http.specs.Serving.{Exchange, IsRequest, IsAnswered, Moment, bytes_of, texts_of, Leads, GoesOn, looked_at, IsAtEnd, IsPart, refusal_for, counted, end_of, end_by}
use Rattle.rl_http.specs.Serving.{Had, Ended, Broken, Serves, HasRequest, IsHand, Sends, SendsFront, Finishes, EndsBy}
use Rattle.rl_http.proofs.HandLemmas.{begins_cut}
use Rattle.rl_http.proofs.SentLemmas.{Sent, sent_none, sent_give, sent_whole, sent_flushed, sent_front, front_none, front_before}

-- the state between two requests
pub record Progress
    (catalogue : Catalogue) (before after : Moment)
    (left0 left1 written0 written1 : Option (List ℕ)) (requests : ℕ) (input out : List ℕ) : Type 0 where
  pub xs : List Exchange
  pub goes : GoesOn xs
  pub had : Had catalogue before after left0 left1 xs input
  pub sent : Sent written0 written1 (texts_of xs) out
  pub count : requests ≡ counted (length xs)

-- the state once a request is answered, of which the head is told
pub record Answered
    (catalogue : Catalogue) (before after : Moment)
    (left0 left1 written0 written1 : Option (List ℕ)) (requests : ℕ) (head : Head) (input out : List ℕ) : Type 0 where
  pub x : Exchange
  pub xs : List Exchange
  pub goes : GoesOn xs
  pub is : x.head ≡ head
  pub had : Had catalogue before after left0 left1 (x ∷ xs) input
  pub sent : Sent written0 written1 (texts_of (x ∷ xs)) out
  pub count : requests ≡ counted (length (x ∷ xs))

after_none : (left : Option (List ℕ)) → left ≡ after_front [] left
after_none None = refl
after_none (Some l) = refl

after_more : (a b : List ℕ) (left : Option (List ℕ)) → after_front a (after_front b left) ≡ after_front (a ++ b) left
after_more a b None = refl
after_more a b (Some l) = ap Some (sym (append_assoc a b l))

pub begins : (catalogue : Catalogue) (at : Moment) (left written : Option (List ℕ)) (input out : List ℕ)
    → input ≡ [] → out ≡ [] → Progress catalogue at at left left written written 0 input out
begins catalogue at left written input out e f = record {
  xs = [];
  goes = tt;
  had = record { each = tt; came = after_none left ∙ ap (λ (i : List ℕ). after_front i left) (sym e); leads = (refl, omega arith) };
  sent = sent_none written out f;
  count = refl;
}

-- the same history, and faults that were counted since
leads_on : (catalogue : Catalogue) (before mid after : Moment) (xs : List Exchange)
    → after.entries ≡ mid.entries → mid.faults ≤ after.faults → Leads catalogue before xs mid → Leads catalogue before xs after
leads_on catalogue before mid after [] same more l = (same ∙ l.0, omega (arith, l.1, more))
leads_on catalogue before mid after (x ∷ xs) same more (one, other, l, answered, e, few) =
    (one, other, l, answered, same ∙ e, omega (arith, few, more))

-- a request at the front of the input, with its answer
abbrev exchange : List ℕ → Head → ℕ → ℕ → List ℕ → Exchange
exchange input head from to text = record { bytes = take to input; head = head; body = take (to - from) (drop from input); text = text }

is_request : (input : List ℕ) (head : Head) (from to : ℕ) (text : List ℕ)
    → HasRequest input head from to → IsRequest (exchange input head from to text)
is_request input head from to text has =
    let sum : from + (to - from) ≡ to = omega (arith, has.ends) in
    record {
      used = from;
      begins = begins_cut input to from (Ok head) (omega (arith, has.ends)) has.begins;
      rest = sym (drop-take from (to - from) input) ∙ ap (λ (n : ℕ). drop from (take n input)) sum;
      whole = length-take-le to input has.within ∙ has.ends;
    }

-- more bytes came
moved : (left0 left1 left2 : Option (List ℕ)) (front input0 input1 : List ℕ)
    → left0 ≡ after_front (front ++ input0) left1 → after_front input0 left1 ≡ after_front input1 left2
    → left0 ≡ after_front (front ++ input1) left2
moved left0 left1 left2 front input0 input1 c t =
    c ∙ (sym (after_more front input0 left1) ∙ (ap (after_front front) t ∙ after_more front input1 left2))

-- a request left the input
passed : (left0 left1 : Option (List ℕ)) (front input : List ℕ) (to : ℕ)
    → left0 ≡ after_front (front ++ input) left1 → left0 ≡ after_front ((front ++ take to input) ++ drop to input) left1
passed left0 left1 front input to c =
    c ∙ ap (λ (t : List ℕ). after_front t left1)
    (ap (λ (t : List ℕ). front ++ t) (sym (take-append-drop to input)) ∙ sym (append_assoc front (take to input) (drop to input)))

-- what was had, where as much is still to come
had_still : (catalogue : Catalogue) (before mid : Moment) (left0 left1 left2 : Option (List ℕ)) (xs : List Exchange) (input : List ℕ)
    → Had catalogue before mid left0 left1 xs input → left2 ≡ left1 → Had catalogue before mid left0 left2 xs input
had_still catalogue before mid left0 left1 left2 xs input had same = record {
  each = had.each;
  came = had.came ∙ ap (after_front (bytes_of xs ++ input)) (sym same);
  leads = had.leads;
}

had_moved : (catalogue : Catalogue) (before mid : Moment) (left0 left1 left2 : Option (List ℕ))
    (xs : List Exchange) (input0 input1 : List ℕ)
    → Had catalogue before mid left0 left1 xs input0
    → after_front input0 left1 ≡ after_front input1 left2 → Had catalogue before mid left0 left2 xs input1
had_moved catalogue before mid left0 left1 left2 xs input0 input1 had took = record {
  each = had.each;
  came = moved left0 left1 left2 (bytes_of xs) input0 input1 had.came took;
  leads = had.leads;
}

-- what was had, and the next request with its answer
had_more : (catalogue : Catalogue) (before mid after : Moment) (left0 left1 left2 : Option (List ℕ))
    (xs : List Exchange) (input : List ℕ) (head : Head) (from to : ℕ) (text : List ℕ)
    → Had catalogue before mid left0 left1 xs input → HasRequest input head from to
    → IsAnswered catalogue (exchange input head from to text) mid after → left2 ≡ left1
    → Had catalogue before after left0 left2 (exchange input head from to text ∷ xs) (drop to input)
had_more catalogue before mid after left0 left1 left2 xs input head from to text had has answered same = record {
  each = (is_request input head from to text has, had.each);
  came = passed left0 left2 (bytes_of xs) input to (had.came ∙ ap (after_front (bytes_of xs ++ input)) (sym same));
  leads = (mid, after, had.leads, answered, refl, omega arith);
}

-- a connection that refused a call, by its refusal
pub serves_broken : (catalogue : Catalogue) (before after : Moment) (left0 left1 written0 written1 : Option (List ℕ))
    (n : ℕ) (end : End) (error : ConnError)
    → end ≡ end_by error → ((end : End) → Broken catalogue before after left0 left1 written0 written1 record { requests = n; end = end })
    → Serves catalogue before after left0 left1 written0 written1 record { requests = n; end = end }
serves_broken catalogue before after left0 left1 written0 written1 n end error is broken =
    subst (λ (x : End). Serves catalogue before after left0 left1 written0 written1 record { requests = n; end = x }) (sym is) (by_error error)
  where
    by_error : (error : ConnError) → Serves catalogue before after left0 left1 written0 written1 record { requests = n; end = end_by error }
    by_error conns.Failed = broken ends.PeerFault
    by_error conns.NoMemory = broken ends.NoMemory

-- ---- the loop's steps

module _ (catalogue : Catalogue) (before mid : Moment) (left0 left1 written0 written1 : Option (List ℕ))
    (n : ℕ) (input out : List ℕ)
    (p : Progress catalogue before mid left0 left1 written0 written1 n input out) where
  -- more bytes came, and what was collected was sent
  pub read_more : (left2 written2 : Option (List ℕ)) (input2 out2 : List ℕ)
      → after_front input left1 ≡ after_front input2 left2 → written2 ≡ appended written1 out → out2 ≡ []
      → Progress catalogue before mid left0 left2 written0 written2 n input2 out2
  read_more left2 written2 input2 out2 took e none = record {
    xs = p.xs;
    goes = p.goes;
    had = had_moved catalogue before mid left0 left1 left2 p.xs input input2 p.had took;
    sent = sent_flushed written0 written1 written2 (texts_of p.xs) out out2 p.sent e none;
    count = p.count;
  }

  -- it broke before the next request, and of what was collected a front was sent
  pub broke : (left2 written2 : Option (List ℕ)) (input2 : List ℕ)
      → after_front input left1 ≡ after_front input2 left2 → AppendsFront written1 out written2
      → (end : End) → Broken catalogue before mid left0 left2 written0 written2 record { requests = n; end = end }
  broke left2 written2 input2 took front end =
      let s : (front : ℕ) × (written2 ≡ appended written0 (take front (texts_of p.xs ++ []))) =
      sent_front written0 written1 written2 (texts_of p.xs) out [] p.sent (front_before written1 written2 out [] front) in
      record {
        xs = p.xs;
        rest = input2;
        tail = [];
        front = s.0;
        had = had_moved catalogue before mid left0 left1 left2 p.xs input input2 p.had took;
        follows = inl refl;
        sent = s.1;
        least = omega (arith, p.count);
        most = omega (arith, p.count);
      }

  -- it ended by its own: all that was collected was sent, and a text behind it
  pub ended : (left2 written2 : Option (List ℕ)) (tail : List ℕ) (end : End)
      → left2 ≡ left1 → written2 ≡ appended written1 (out ++ tail) → ((xs : List Exchange) → GoesOn xs → EndsBy end xs input left2 tail)
      → Ended catalogue before mid left0 left2 written0 written2 record { requests = n; end = end }
  ended left2 written2 tail end same e why = record {
    xs = p.xs;
    rest = input;
    tail = tail;
    had = had_still catalogue before mid left0 left1 left2 p.xs input p.had same;
    sent = sent_whole written0 written1 written2 (texts_of p.xs) out tail p.sent e;
    count = p.count;
    ends = why p.xs p.goes;
  }

  -- the body is that of the request at the front of the input
  answered_so : (after : Moment) (head : Head) (from to : ℕ) (body text : List ℕ) → body ≡ take (to - from) (drop from input)
      → Replies mid.entries (Rose mid.faults after.faults) (http_reply catalogue mid.entries head body) text after.entries
      → IsAnswered catalogue (exchange input head from to text) mid after
  answered_so after head from to body text same replies =
      subst (λ (b : List ℕ). Replies mid.entries (Rose mid.faults after.faults) (http_reply catalogue mid.entries head b) text after.entries) same replies

  -- a request was answered
  pub answered : (after : Moment) (left2 written2 : Option (List ℕ)) (m : ℕ) (head : Head) (from to : ℕ) (body out2 : List ℕ)
      → HasRequest input head from to → body ≡ take (to - from) (drop from input)
      → Sends (Rose mid.faults after.faults) mid.entries (http_reply catalogue mid.entries head body) after.entries written1 out written2 out2
      → left2 ≡ left1 → m ≡ min (n + 1) (2 ^ 64 - 1)
      → Answered catalogue before after left0 left2 written0 written2 m head (drop to input) out2
  answered after left2 written2 m head from to body out2 has same (text, replies, given) still c = record {
    x = exchange input head from to text;
    xs = p.xs;
    goes = p.goes;
    is = refl;
    had = had_more catalogue before mid after left0 left1 left2 p.xs input head from to text p.had has (answered_so after head from to body text same replies) still;
    sent = sent_give written0 written1 written2 (texts_of p.xs) out text out2 p.sent given;
    count = omega (arith, c, p.count);
  }

  -- it broke at an answer
  pub broke_answer : (after : Moment) (left2 written2 : Option (List ℕ)) (m : ℕ) (head : Head) (from to : ℕ) (body : List ℕ)
      → HasRequest input head from to → body ≡ take (to - from) (drop from input)
      → SendsFront (Rose mid.faults after.faults) mid.entries (http_reply catalogue mid.entries head body) after.entries written1 out written2
      → mid.faults ≤ after.faults → left2 ≡ left1 → m ≡ min (n + 1) (2 ^ 64 - 1)
      → (end : End) → Broken catalogue before after left0 left2 written0 written2 record { requests = m; end = end }
  broke_answer after left2 written2 m head from to body has same (inl (text, replies, front)) more still c end =
      let q : (front : ℕ) × (written2 ≡ appended written0 (take front (texts_of p.xs ++ text))) =
      sent_front written0 written1 written2 (texts_of p.xs) out text p.sent front in
      record {
        xs = exchange input head from to text ∷ p.xs;
        rest = drop to input;
        tail = [];
        front = q.0;
        had = had_more catalogue before mid after left0 left1 left2 p.xs input head from to text p.had has (answered_so after head from to body text same replies) still;
        follows = inl refl;
        sent = q.1 ∙ ap (λ (x : List ℕ). appended written0 (take q.0 x)) (sym (append-nil (texts_of p.xs ++ text)));
        least = omega (arith, c, p.count);
        most = omega (arith, c, p.count);
      }
  broke_answer after left2 written2 m head from to body has same (inr (stays, w)) more still c end =
      let q : (front : ℕ) × (written2 ≡ appended written0 (take front (texts_of p.xs ++ []))) =
      sent_front written0 written1 written2 (texts_of p.xs) out [] p.sent
      (subst (λ (v : Option (List ℕ)). AppendsFront written1 (out ++ []) v) (sym w) (front_none written1 (out ++ []))) in
      let had : Had catalogue before mid left0 left2 p.xs input = had_still catalogue before mid left0 left1 left2 p.xs input p.had still in
      record {
        xs = p.xs;
        rest = input;
        tail = [];
        front = q.0;
        had = record { each = had.each; came = had.came; leads = leads_on catalogue before mid after p.xs stays more had.leads };
        follows = inl refl;
        sent = q.1;
        least = omega (arith, c, p.count);
        most = omega (arith, c, p.count);
      }

  -- it broke at the answer to a head that is refused
  broke_bad : (left2 written2 : Option (List ℕ)) (code : ℕ)
      → ReadsHead (looked_at input) (Bad code) → left2 ≡ left1 → AppendsFront written1 (out ++ refused_text (refusal_for code)) written2
      → (end : End) → Broken catalogue before mid left0 left2 written0 written2 record { requests = n; end = end }
  broke_bad left2 written2 code bad same front end =
      let q : (front : ℕ) × (written2 ≡ appended written0 (take front (texts_of p.xs ++ refused_text (refusal_for code)))) =
      sent_front written0 written1 written2 (texts_of p.xs) out (refused_text (refusal_for code)) p.sent front in
      record {
        xs = p.xs;
        rest = input;
        tail = refused_text (refusal_for code);
        front = q.0;
        had = had_still catalogue before mid left0 left1 left2 p.xs input p.had same;
        follows = inr (code, bad, refl);
        sent = q.1;
        least = omega (arith, p.count);
        most = omega (arith, p.count);
      }

  -- no more bytes came
  pub ends_here : (left2 written2 : Option (List ℕ)) (input2 : List ℕ) (end : End)
      → IsPart input → after_front input left1 ≡ after_front input2 left2 → (input2 ≡ input) × IsAtEnd left2
      → written2 ≡ appended written1 out → end ≡ end_of input2
      → Serves catalogue before mid left0 left2 written0 written2 record { requests = n; end = end }
  ends_here left2 written2 input2 end part took (same, none) e is =
      subst (λ (x : End). Serves catalogue before mid left0 left2 written0 written2 record { requests = n; end = x }) (sym (is ∙ ap end_of same))
      (by_input input refl)
    where
      had : (i : List ℕ) → i ≡ input → Had catalogue before mid left0 left2 p.xs i
      had i k = had_moved catalogue before mid left0 left1 left2 p.xs input i p.had (took ∙ ap (λ (t : List ℕ). after_front t left2) (same ∙ sym k))

      sent : written2 ≡ appended written0 (texts_of p.xs ++ [])
      sent = sent_whole written0 written1 written2 (texts_of p.xs) out [] p.sent (e ∙ ap (appended written1) (sym (append-nil out)))

      by_input : (i : List ℕ) → i ≡ input → Serves catalogue before mid left0 left2 written0 written2 record { requests = n; end = end_of i }
      by_input [] k = record {
        xs = p.xs;
        rest = [];
        tail = [];
        had = had [] k;
        sent = sent;
        count = p.count;
        ends = (p.goes, refl, none, refl);
      }
      by_input (b ∷ bs) k = record {
        xs = p.xs;
        rest = b ∷ bs;
        tail = [];
        had = had (b ∷ bs) k;
        sent = sent;
        count = p.count;
        ends = (p.goes, (λ q. cc), subst IsPart (sym k) part, none, refl);
      }

  -- a head was refused, and answered so
  pub ends_bad : (left2 written2 : Option (List ℕ)) (code : ℕ) (end : End)
      → ReadsHead (looked_at input) (Bad code) → left2 ≡ left1 → Finishes ends.Bad written1 (out ++ refused_text (refusal_for code)) written2 end
      → Serves catalogue before mid left0 left2 written0 written2 record { requests = n; end = end }
  ends_bad left2 written2 code end bad same (inl (is, e)) =
      subst (λ (x : End). Serves catalogue before mid left0 left2 written0 written2 record { requests = n; end = x }) (sym is)
      (ended left2 written2 (refused_text (refusal_for code)) ends.Bad same e (λ xs goes. (goes, (code, bad, refl))))
  ends_bad left2 written2 code end bad same (inr (error, is, front)) =
      serves_broken catalogue before mid left0 left2 written0 written2 n end error is (broke_bad left2 written2 code bad same front)

  -- a head was too long
  pub ends_long : (left2 written2 : Option (List ℕ)) (end : End)
      → (16384 ≤ length input) × ReadsHead (looked_at input) Part → left2 ≡ left1 → Finishes ends.TooLong written1 out written2 end
      → Serves catalogue before mid left0 left2 written0 written2 record { requests = n; end = end }
  ends_long left2 written2 end (long, part) same (inl (is, e)) =
      subst (λ (x : End). Serves catalogue before mid left0 left2 written0 written2 record { requests = n; end = x }) (sym is)
      (ended left2 written2 [] ends.TooLong same (e ∙ ap (appended written1) (sym (append-nil out))) (λ xs goes. (goes, long, part, refl)))
  ends_long left2 written2 end (long, part) same (inr (error, is, front)) =
      serves_broken catalogue before mid left0 left2 written0 written2 n end error is
      (broke left2 written2 input (ap (after_front input) (sym same)) front)

module _ (catalogue : Catalogue) (before after : Moment) (left0 left1 written0 written1 : Option (List ℕ))
    (m : ℕ) (head : Head) (input out : List ℕ)
    (a : Answered catalogue before after left0 left1 written0 written1 m head input out) where
  -- the connection goes on
  pub goes_next : head.last ≡ false → (input2 : List ℕ) → input2 ≡ input
      → Progress catalogue before after left0 left1 written0 written1 m input2 out
  goes_next last input2 e = record {
    xs = a.x ∷ a.xs;
    goes = (ap (λ (h : Head). h.last) a.is ∙ last, a.goes);
    had = subst (λ (i : List ℕ). Had catalogue before after left0 left1 (a.x ∷ a.xs) i) (sym e) a.had;
    sent = a.sent;
    count = a.count;
  }

  -- it was the last request
  pub ends_asked : (left2 written2 : Option (List ℕ)) (end : End)
      → head.last ≡ true → left2 ≡ left1 → Finishes ends.Asked written1 out written2 end
      → Serves catalogue before after left0 left2 written0 written2 record { requests = m; end = end }
  ends_asked left2 written2 end last same (inl (is, e)) =
      subst (λ (x : End). Serves catalogue before after left0 left2 written0 written2 record { requests = m; end = x }) (sym is)
      record {
        xs = a.x ∷ a.xs;
        rest = input;
        tail = [];
        had = had_still catalogue before after left0 left1 left2 (a.x ∷ a.xs) input a.had same;
        sent = sent_whole written0 written1 written2 (texts_of (a.x ∷ a.xs)) out [] a.sent (e ∙ ap (appended written1) (sym (append-nil out)));
        count = a.count;
        ends = ((ap (λ (h : Head). h.last) a.is ∙ last, a.goes), refl);
      }
  ends_asked left2 written2 end last same (inr (error, is, front)) =
      serves_broken catalogue before after left0 left2 written0 written2 m end error is at_end
    where
      at_end : (end : End) → Broken catalogue before after left0 left2 written0 written2 record { requests = m; end = end }
      at_end end =
          let q : (front : ℕ) × (written2 ≡ appended written0 (take front (texts_of (a.x ∷ a.xs) ++ []))) =
          sent_front written0 written1 written2 (texts_of (a.x ∷ a.xs)) out [] a.sent (front_before written1 written2 out [] front) in
          record {
            xs = a.x ∷ a.xs;
            rest = input;
            tail = [];
            front = q.0;
            had = had_still catalogue before after left0 left1 left2 (a.x ∷ a.xs) input a.had same;
            follows = inl refl;
            sent = q.1;
            least = omega (arith, a.count);
            most = omega (arith, a.count);
          }

-- a count that rose since earlier
pub rose_since : (a b c : ℕ) → a ≤ b → Rose b c → Rose a c
rose_since a b c h r = omega (arith, r)

-- ---- in the words of the loop

pub has_here : (bytes input : List ℕ) (hand : Hand) → bytes ≡ input → IsHand bytes hand → IsHand input hand
has_here bytes input hand e h = subst (λ (i : List ℕ). IsHand i hand) e h

pub sends_here : (here catalogue : Catalogue) (s : Type 0) (mid after : List Entry) (head : Head) (body out out1 : List ℕ)
    (written0 written1 : Option (List ℕ))
    → here ≡ catalogue → Sends s mid (http_reply here mid head body) after written0 out written1 out1
    → Sends s mid (http_reply catalogue mid head body) after written0 out written1 out1
sends_here here catalogue s mid after head body out out1 written0 written1 e x =
    subst (λ (k : Catalogue). Sends s mid (http_reply k mid head body) after written0 out written1 out1) e x

pub front_here : (here catalogue : Catalogue) (s : Type 0) (mid after : List Entry) (head : Head) (body out : List ℕ) (written0 written1 : Option (List ℕ))
    → here ≡ catalogue → SendsFront s mid (http_reply here mid head body) after written0 out written1
    → SendsFront s mid (http_reply catalogue mid head body) after written0 out written1
front_here here catalogue s mid after head body out written0 written1 e x =
    subst (λ (k : Catalogue). SendsFront s mid (http_reply k mid head body) after written0 out written1) e x

-- a peer's fault is a refusal of the connection that counted it
pub peer_by : (error : ConnError) (end : End) (A : Type 0) → end ≡ end_by error → (error ≡ conns.Failed → A) → end ≡ ends.PeerFault → A
peer_by conns.Failed end A is f e = f refl
peer_by conns.NoMemory end A is f e = absurd (let no : ends.NoMemory ≡ ends.PeerFault = sym is ∙ e in let never : ⊥ = cc in never)
