-- One connection served: the requests that were read whole, what was sent, and why it ended.
use Rattle.std.specs.Prelude.{◌≡◌, ◌≢◌, ◌==◌, ℕ, ◌+◌, ◌-◌, ◌^◌, ◌<◌, ◌≤◌, ◌⊎◌, ◌++◌, ◌∷◌, [], List}
use Rattle.std.specs.Prelude.{Bool, true, false, cond, if◌then◌else◌, min, length, take, drop, Option, IfSome, Ok}
use Rattle.rl_base.specs.Causes.{Rose}
use Rattle.rl_base.specs.Connection.{after_front}
use Rattle.rl_base.specs.Written.{appended}
use Rattle.rl_base.specs.declared.conn.ConnError.{ConnError}
use Rattle.rl_base.specs.declared.conn.ConnError.TheVariants as conns
use Rattle.rl_defs.specs.Catalogue.{Catalogue}
use Rattle.rl_pages.specs.declared.entry.Entry.{Entry}
use Rattle.rl_pages.specs.Viewer.{IsViewer}
use Rattle.rl_http.specs.declared.heads.Head.{Head}
use Rattle.rl_http.specs.declared.heads.HeadRead.TheVariants.{Part, Bad}
use Rattle.rl_http.specs.declared.refusals.Refusal.{Refusal}
use Rattle.rl_http.specs.declared.refusals.Refusal.TheVariants.{BadRequest, TooLarge}
use Rattle.rl_http.specs.declared.hand.Hand.{Hand}
use Rattle.rl_http.specs.declared.hand.Hand.TheVariants as hands
use Rattle.rl_http.specs.declared.serving.End.{End}
use Rattle.rl_http.specs.declared.serving.End.TheVariants as ends
use Rattle.rl_http.specs.declared.serving.Served.{Served}
use Rattle.rl_http.specs.Answers.{refused_text}
use Rattle.rl_http.specs.Heads.{BeginsWith, ReadsHead, viewer_named}
use Rattle.rl_http.specs.Replies.{Reply, Replies, http_reply}
use Rattle.rl_http.specs.Sent.{AppendsFront, Gives}

-- a request that was read whole, with what answers it
pub record Exchange : Type 0 where
  pub bytes : List ℕ
  pub head : Head
  pub body : List ℕ
  pub text : List ℕ

-- the bytes are a head that is refused for nothing, and the body that it announces
pub record IsRequest (x : Exchange) : Type 0 where
  pub used : ℕ
  pub begins : BeginsWith x.bytes used (Ok x.head)
  pub rest : x.body ≡ drop used x.bytes
  pub whole : length x.bytes ≡ used + x.head.length

-- Exchanges stand newest first.

-- all the bytes of the requests, in order
abbrev pub bytes_of : List Exchange → List ℕ
bytes_of [] = []
bytes_of (x ∷ xs) = bytes_of xs ++ x.bytes

-- all their answers, in order
abbrev pub texts_of : List Exchange → List ℕ
texts_of [] = []
texts_of (x ∷ xs) = texts_of xs ++ x.text

-- A history, and how many faults its keeper has counted.
pub record Moment : Type 0 where
  pub entries : List Entry
  pub faults : ℕ

abbrev pub moment : List Entry → ℕ → Moment
moment entries faults = record { entries = entries; faults = faults }

-- one request is answered at a moment, and leaves another: a fault is answered only where it was counted at this very request
abbrev pub IsAnswered : Catalogue → Exchange → Moment → Moment → Type 0
IsAnswered catalogue x one other =
    Replies one.entries (Rose one.faults other.faults) (http_reply catalogue one.entries x.head x.body) x.text other.entries

-- each is answered at the moment that the one before left; after the last of them faults may be counted still
abbrev pub Leads : Catalogue → Moment → List Exchange → Moment → Type 0
Leads catalogue before [] after = (after.entries ≡ before.entries) × (before.faults ≤ after.faults)
Leads catalogue before (x ∷ xs) after =
    (one : Moment) × (other : Moment) × Leads catalogue before xs one × IsAnswered catalogue x one other
    × (after.entries ≡ other.entries) × (other.faults ≤ after.faults)

abbrev pub AreRequests : List Exchange → Type 0
AreRequests [] = Unit {0}
AreRequests (x ∷ xs) = IsRequest x × AreRequests xs

-- after none of these does the connection end
abbrev pub GoesOn : List Exchange → Type 0
GoesOn [] = Unit {0}
GoesOn (x ∷ xs) = (x.head.last ≡ false) × GoesOn xs

-- it ends after the last of these
abbrev pub EndsAsked : List Exchange → Type 0
EndsAsked [] = ⊥
EndsAsked (x ∷ xs) = (x.head.last ≡ true) × GoesOn xs

-- what is looked at of the bytes after the last whole request
abbrev pub looked_at : List ℕ → List ℕ
looked_at rest = take 16384 rest

-- the bytes are a head, and fewer than the body that it announces
abbrev pub IsShort : List ℕ → Type 0
IsShort rest = (used : ℕ) × (head : Head) × BeginsWith rest used (Ok head) × (length rest < used + head.length)

-- with more bytes behind them they may be a whole request
abbrev pub IsPart : List ℕ → Type 0
IsPart rest = ((length rest < 16384) × ReadsHead rest Part) ⊎ IsShort rest

abbrev pub IsAtEnd : Option (List ℕ) → Type 0
IsAtEnd left = IfSome left (λ bytes. bytes ≡ [])

abbrev pub refusal_for : ℕ → Refusal
refusal_for code = if code == 413 then TooLarge else BadRequest

-- Why a connection ends after these exchanges, where these bytes came after the last of them, this is still to come, and
-- this was sent after the answers. Closed: between two requests. Cut: inside one. Asked: a request asked for it. Bad: a
-- head is refused, and answered so. TooLong: a head does not end within 16,384 bytes.
abbrev pub EndsBy : End → List Exchange → List ℕ → Option (List ℕ) → List ℕ → Type 0
EndsBy ends.Closed xs rest left tail = GoesOn xs × (rest ≡ []) × IsAtEnd left × (tail ≡ [])
EndsBy ends.Cut xs rest left tail = GoesOn xs × (rest ≢ []) × IsPart rest × IsAtEnd left × (tail ≡ [])
EndsBy ends.Asked xs rest left tail = EndsAsked xs × (tail ≡ [])
EndsBy ends.Bad xs rest left tail =
    GoesOn xs × ((code : ℕ) × ReadsHead (looked_at rest) (Bad code) × (tail ≡ refused_text (refusal_for code)))
EndsBy ends.TooLong xs rest left tail = GoesOn xs × (16384 ≤ length rest) × ReadsHead (looked_at rest) Part × (tail ≡ [])
EndsBy ends.PeerFault xs rest left tail = ⊥
EndsBy ends.NoMemory xs rest left tail = ⊥

-- What a connection had: these requests came whole, each is answered at the moment that the one before left, and then
-- some bytes more came. Where the connection tells its bytes, these are they.
pub record Had
    (catalogue : Catalogue) (before after : Moment) (left0 left1 : Option (List ℕ))
    (xs : List Exchange) (rest : List ℕ) : Type 0 where
  pub each : AreRequests xs
  pub came : left0 ≡ after_front (bytes_of xs ++ rest) left1
  pub leads : Leads catalogue before xs after

-- the count of so many requests, which stands still at its type's end
abbrev pub counted : ℕ → ℕ
counted n = min n (2 ^ 64 - 1)

-- it ended by its own, and all was sent
pub record Ended
    (catalogue : Catalogue) (before after : Moment)
    (left0 left1 written0 written1 : Option (List ℕ)) (served : Served) : Type 0 where
  pub xs : List Exchange
  pub rest : List ℕ
  pub tail : List ℕ
  pub had : Had catalogue before after left0 left1 xs rest
  pub sent : written1 ≡ appended written0 (texts_of xs ++ tail)
  pub count : served.requests ≡ counted (length xs)
  pub ends : EndsBy served.end xs rest left1 tail

-- after the answers comes nothing, or the answer to a head that is refused
abbrev pub MayFollow : List ℕ → List ℕ → Type 0
MayFollow rest tail =
    (tail ≡ []) ⊎ ((code : ℕ) × ReadsHead (looked_at rest) (Bad code) × (tail ≡ refused_text (refusal_for code)))

-- it ended by a fault or for want of memory, and a front was sent; one more request may have been read whole
pub record Broken
    (catalogue : Catalogue) (before after : Moment)
    (left0 left1 written0 written1 : Option (List ℕ)) (served : Served) : Type 0 where
  pub xs : List Exchange
  pub rest : List ℕ
  pub tail : List ℕ
  pub front : ℕ
  pub had : Had catalogue before after left0 left1 xs rest
  pub follows : MayFollow rest tail
  pub sent : written1 ≡ appended written0 (take front (texts_of xs ++ tail))
  pub least : counted (length xs) ≤ served.requests
  pub most : served.requests ≤ length xs + 1

abbrev pub is_broken : End → Bool
is_broken ends.PeerFault = true
is_broken ends.NoMemory = true
is_broken other = false

abbrev pub Serves : Catalogue → Moment → Moment
    → Option (List ℕ) → Option (List ℕ) → Option (List ℕ) → Option (List ℕ) → Served → Type 0
Serves catalogue before after left0 left1 written0 written1 served =
    cond (is_broken served.end)
    (Broken catalogue before after left0 left1 written0 written1 served)
    (Ended catalogue before after left0 left1 written0 written1 served)

-- ---- steps

-- the front of the input is a whole request
pub record HasRequest (input : List ℕ) (head : Head) (from to : ℕ) : Type 0 where
  pub begins : BeginsWith input from (Ok head)
  pub ends : to ≡ from + head.length
  pub within : to ≤ length input
  pub viewer : IsViewer (viewer_named head.viewer)

-- what the bytes in hand are
abbrev pub IsHand : List ℕ → Hand → Type 0
IsHand input (hands.Whole head from to) = HasRequest input head from to
IsHand input hands.More = IsPart input
IsHand input (hands.Bad code) = ReadsHead (looked_at input) (Bad code)
IsHand input hands.TooLong = (16384 ≤ length input) × ReadsHead (looked_at input) Part

-- how a connection ends where no more bytes come
abbrev pub end_of : List ℕ → End
end_of [] = ends.Closed
end_of (b ∷ bs) = ends.Cut

-- how it ends at a refusal of the connection
abbrev pub end_by : ConnError → End
end_by conns.Failed = ends.PeerFault
end_by conns.NoMemory = ends.NoMemory

-- a text answers a request, and it was given to be sent
abbrev pub Sends : Type 0 → List Entry → Reply → List Entry → Option (List ℕ) → List ℕ → Option (List ℕ) → List ℕ → Type 0
Sends rose before reply after written0 out0 written1 out1 =
    (text : List ℕ) × Replies before rose reply text after × Gives written0 out0 text written1 out1

-- a text answers a request, and a front was sent; or there was no memory for a text, and all is as before
abbrev pub SendsFront : Type 0 → List Entry → Reply → List Entry → Option (List ℕ) → List ℕ → Option (List ℕ) → Type 0
SendsFront rose before reply after written0 out0 written1 =
    ((text : List ℕ) × Replies before rose reply text after × AppendsFront written0 (out0 ++ text) written1)
    ⊎ ((after ≡ before) × (written1 ≡ written0))

-- all that was collected was sent and it ends so, or a front of it was, and it ends by the connection's refusal
abbrev pub Finishes : End → Option (List ℕ) → List ℕ → Option (List ℕ) → End → Type 0
Finishes wanted written0 out written1 end =
    ((end ≡ wanted) × (written1 ≡ appended written0 out))
    ⊎ ((error : ConnError) × (end ≡ end_by error) × AppendsFront written0 out written1)
