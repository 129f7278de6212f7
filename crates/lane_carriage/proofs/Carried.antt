-- What a journal whose messages have their fates says of each message.
use Rattle.std.proofs.Common.{◌≡◌, ◌==◌, ◌&&◌, ◌||◌, ◌+◌, ℕ, zero, suc, Bool, true, false, not, List, [], ◌∷◌, ◌++◌, length, nat_lt, nat_le, Option, Some, None, if◌then◌else◌, refl, sym, ap, ◌∙◌, arith, eq-eqb, length-append}
use Rattle.std.specs.Option.{is_some}
use Rattle.std.proofs.lemmas.Bool.Decides.{nat_tests}
use Rattle.carriers.specs.declared.fate.Fate.{Fate}
use Rattle.carriers.specs.declared.fate.Fate.TheVariants.{Deliver, LoseRequest, LoseReply, Twice, Late}
use Rattle.messages.specs.declared.noted.NotedBody.{NotedBody}
use Rattle.lane_journals.specs.Readers.{Message as Sending, or_else, only_if, round_in, sent, stopped, first_reply, returned}
use Rattle.lane_journals.specs.Meanings.{history, meaning_body}
use Rattle.lane_journals.specs.declared.event.LaneEvent.{LaneEvent}
use Rattle.lane_journals.specs.declared.event.LaneEvent.TheVariants as event
use Rattle.lane_carriage.specs.Carriage.{met, due, is_due, is_cut_off, IsOther, IsMessage, IsCarried, Nothing, Other, Message}
use Rattle.lane_carriage.specs.Readers.{sendings, last_sent, arrivals, receives, fate_of, times_sent, is_returned, arrivals_of}
use Rattle.lane_carriage.proofs.Fates.{fate-append, fate-within, is_due_if, added-due}
use Rattle.lane_carriage.proofs.Dealings.{run-last, run-sendings, run-returned, run-sent, run-receives, run-arrivals, own-last, own-sendings, own-returned, own-sent, own-receives, own-cut, own-arrivals, now_returned, now_arrived}

-- ---- the readers of a journal

or_else-some : {A : Type 0} (a : Option A) (t : Bool) (x : A) → is_some (or_else a (only_if t x)) ≡ (is_some a || t)
or_else-some None true x = refl
or_else-some None false x = refl
or_else-some (Some a) t x = refl

pub sent-if : (k : ℕ) (J : List LaneEvent) → is_some (sent k (history J)) ≡ nat_lt 0 (sendings k J)
sent-if k [] = refl
sent-if k (event.Sent n v d to body ∷ J) =
    or_else-some (sent k (history J)) (n == k) _ ∙ ap (λ b. b || (n == k)) (sent-if k J) ∙ more (n == k) (sendings k J)
  where
    more : (t : Bool) (c : ℕ) → (nat_lt 0 c || t) ≡ nat_lt 0 (if t then c + 1 else c)
    more true c = grind (arith, nat_tests)
    more false c = grind (arith, nat_tests)
sent-if k (_ ∷ J) = sent-if k J

abbrev pub has_any : List ℕ → Bool
has_any [] = false
has_any (l ∷ ls) = true

pub reply-if : (k : ℕ) (J : List LaneEvent) → is_some (first_reply k (history J)) ≡ has_any (arrivals k J)
reply-if k [] = refl
reply-if k (event.Delivered n r ∷ J) =
    or_else-some (first_reply k (history J)) (n == k) _ ∙ ap (λ b. b || (n == k)) (reply-if k J) ∙ more (n == k) (arrivals k J)
  where
    more : (t : Bool) (A : List ℕ) → (has_any A || t) ≡ has_any (if t then last_sent J ∷ A else A)
    more true [] = refl
    more true (l ∷ A) = refl
    more false [] = refl
    more false (l ∷ A) = refl
reply-if k (_ ∷ J) = reply-if k J

-- ---- what is said of each message

pub record Says (given : List Fate) (J : List LaneEvent) : Type 0 where
  pub last : last_sent J ≡ length given
  pub once : (k : ℕ) → sendings k J ≡ times_sent (fate_of k given)
  pub arrived : (k : ℕ) → arrivals k J ≡ arrivals_of k (fate_of k given) (length given) (λ j. receives k j J)
  pub returns : (k : ℕ) → returned k (history J) ≡ (is_returned (fate_of k given) && receives k k J)

says-other : (given : List Fate) (J : List LaneEvent) (e : LaneEvent) → IsOther e → Says given J → Says given (e ∷ J)
says-other given J (event.Sent n v d to body) o s = absurd o
says-other given J (event.Delivered n r) o s = absurd o
says-other given J (event.Returned n) o s = absurd o
says-other given J _ o s = record { last = s.last; once = s.once; arrived = s.arrived; returns = s.returns }

-- ---- one message more

-- the number of the next message has no fate yet
fresh : (given : List Fate) (k : ℕ) → k ≡ length given + 1 → fate_of k given ≡ None
fresh given k e = none (fate_of k given) (fate-within 1 k given ∙ (grind (arith, nat_tests)))
  where
    none : (o : Option Fate) → is_some o ≡ false → o ≡ None
    none None h = refl
    none (Some f) h = cc

next-fate : (given : List Fate) (f : Fate) (k : ℕ) → fate_of k (given ++ f ∷ []) ≡ (if k == length given + 1 then Some f else fate_of k given)
next-fate given f k = let same : 1 + length given ≡ length given + 1 = omega arith in fate-append 1 k given f ∙ ap (λ (n : ℕ). if k == n then Some f else fate_of k given) same

once-next : (f : Fate) (k n : ℕ) (g : Option Fate) (t : Bool) → (k == n) ≡ t → (t ≡ true → g ≡ None)
    → (if n == k then times_sent g + 1 else times_sent g) ≡ times_sent (if t then Some f else g)
once-next f k n g true e none = let new : g ≡ None = none refl in let same : k ≡ n = grind (arith, nat_tests) in rw new (grind (arith, nat_tests))
once-next f k n g false e none = grind (arith, nat_tests)

swap-test : (k n : ℕ) (t : Bool) → (k == n) ≡ t → (n == k) ≡ t
swap-test k n t e = grind (arith, nat_tests)

-- ---- whether its receiver ran

pub none-of : {A : Type 0} (o : Option A) → is_some o ≡ false → o ≡ None
none-of None h = refl
none-of (Some a) h = cc

-- the message was just sent, the first of its number
own-stopped : (n v d to : ℕ) (body : NotedBody) (J : List LaneEvent) → sent n (history J) ≡ None
    → is_cut_off n (event.Sent n v d to body ∷ J) ≡ stopped to (history J)
own-stopped n v d to body J none =
    let same : (n == n) ≡ true = eq-eqb n n refl in
    rw (none, same) refl

-- after message n was sent, whether the receiver ran as message j was
abbrev ran_with : ℕ → Bool → (ℕ → Bool) → ℕ → Bool
ran_with n cut ran j = if n == j then not cut else ran j

not-there : (n : ℕ) (cut : Bool) (ran : ℕ → Bool) (j : ℕ) → (n == j) ≡ false → ran_with n cut ran j ≡ ran j
not-there n cut ran j e = ap (λ (t : Bool). if t then not cut else ran j) e

right-there : (n : ℕ) (cut : Bool) (ran : ℕ → Bool) (j : ℕ) → (n == j) ≡ true → ran_with n cut ran j ≡ not cut
right-there n cut ran j e = ap (λ (t : Bool). if t then not cut else ran j) e

arrivals-same : (k : ℕ) (o : Option Fate) (c : ℕ) (p q : ℕ → Bool) → ((j : ℕ) → p j ≡ q j) → arrivals_of k o c p ≡ arrivals_of k o c q
arrivals-same k None c p q h = refl
arrivals-same k (Some Deliver) c p q h = ap (λ (b : Bool). if b then k ∷ [] else []) (h k)
arrivals-same k (Some LoseRequest) c p q h = refl
arrivals-same k (Some LoseReply) c p q h = ap (λ (b : Bool). if b then k ∷ [] else []) (h k)
arrivals-same k (Some Twice) c p q h = ap (λ (b : Bool). if b then k ∷ k ∷ [] else []) (h k)
arrivals-same k (Some (Late i)) c p q h = ap (λ (b : Bool). if nat_le (k + i) c then (if b then (k + i) ∷ [] else []) else []) (h (k + i))

either : {A : Type 0} (b : Bool) (x : A) → (if b then x else x) ≡ x
either true x = refl
either false x = refl

-- ---- what is returned

returned-else : (f : Fate) (n k : ℕ) (old : Bool) → (n == k) ≡ false → now_returned f n k old ≡ old
returned-else Deliver n k old e = ap (λ (t : Bool). if t then true else old) e
returned-else LoseRequest n k old e = refl
returned-else LoseReply n k old e = refl
returned-else Twice n k old e = ap (λ (t : Bool). if t then true else old) e
returned-else (Late j) n k old e = refl

returned-here : (f : Fate) (s : Bool) (n k : ℕ) → (n == k) ≡ true → now_returned (met s f) n k false ≡ (is_returned (Some f) && not s)
returned-here Deliver false n k e = ap (λ (t : Bool). if t then true else false) e
returned-here LoseRequest false n k e = refl
returned-here LoseReply false n k e = refl
returned-here Twice false n k e = ap (λ (t : Bool). if t then true else false) e
returned-here (Late j) false n k e = refl
returned-here Deliver true n k e = refl
returned-here LoseRequest true n k e = refl
returned-here LoseReply true n k e = refl
returned-here Twice true n k e = refl
returned-here (Late j) true n k e = refl

returned-next : (f : Fate) (s cut : Bool) (k n : ℕ) (g : Option Fate) (ran : ℕ → Bool) (t : Bool) → (n == k) ≡ t → (t ≡ true → g ≡ None) → (t ≡ true → cut ≡ s)
    → now_returned (met s f) n k (is_returned g && ran k) ≡ (is_returned (if t then Some f else g) && ran_with n cut ran k)
returned-next f s cut k n g ran true e none runs =
    ap (λ (o : Option Fate). now_returned (met s f) n k (is_returned o && ran k)) (none refl)
    ∙ returned-here f s n k e
    ∙ ap (λ (b : Bool). is_returned (Some f) && not b) (sym (runs refl))
    ∙ ap (λ (b : Bool). is_returned (Some f) && b) (sym (right-there n cut ran k e))
returned-next f s cut k n g ran false e none runs =
    returned-else (met s f) n k (is_returned g && ran k) e
    ∙ ap (λ (b : Bool). is_returned g && b) (sym (not-there n cut ran k e))

-- ---- where it arrives

-- the late ones that are due come in
abbrev with_due : Bool → Bool → ℕ → List ℕ → List ℕ
with_due cut is n A = if cut then A else (if is then n ∷ A else A)

-- its own fate says nothing of another message
other-arrived : (f : Fate) (n k l : ℕ) (A : List ℕ) → (n == k) ≡ false → now_arrived f n k l A ≡ A
other-arrived Deliver n k l A e = rw e refl
other-arrived LoseRequest n k l A e = refl
other-arrived LoseReply n k l A e = rw e refl
other-arrived Twice n k l A e = rw e refl
other-arrived (Late j) n k l A e = refl

-- one that waits arrives now, or it doesn't
waited-next : (k c n i : ℕ) (cut : Bool) (ran : ℕ → Bool) (t : Bool) → n ≡ c + 1 → (k + i == n) ≡ t
    → with_due cut t n (arrivals_of k (Some (Late i)) c ran) ≡ arrivals_of k (Some (Late i)) n (ran_with n cut ran)
waited-next k c n i cut ran true up e =
    let same : n ≡ k + i = grind (arith, nat_tests) in
    let before : nat_le (k + i) c ≡ false = grind (arith, nat_tests) in
    let within : nat_le (k + i) n ≡ true = grind (arith, nat_tests) in
    let now : (n == k + i) ≡ true = grind (arith, nat_tests) in
    ap (λ (b : Bool). with_due cut true n (if b then (if ran (k + i) then (k + i) ∷ [] else []) else [])) before
    ∙ only cut
    ∙ ap (λ (j : ℕ). if not cut then j ∷ [] else []) same
    ∙ ap (λ (b : Bool). if b then (k + i) ∷ [] else []) (sym (right-there n cut ran (k + i) now))
    ∙ ap (λ (b : Bool). if b then (if ran_with n cut ran (k + i) then (k + i) ∷ [] else []) else []) (sym within)
  where
    only : (b : Bool) → with_due b true n [] ≡ (if not b then n ∷ [] else [])
    only true = refl
    only false = refl
waited-next k c n i cut ran false up e =
    let as_before : nat_le (k + i) c ≡ nat_le (k + i) n = grind (arith, nat_tests) in
    let not_now : (n == k + i) ≡ false = grind (arith, nat_tests) in
    either cut (arrivals_of k (Some (Late i)) c ran)
    ∙ ap (λ (b : Bool). if nat_le (k + i) c then (if b then (k + i) ∷ [] else []) else []) (sym (not-there n cut ran (k + i) not_now))
    ∙ ap (λ (b : Bool). if b then (if ran_with n cut ran (k + i) then (k + i) ∷ [] else []) else []) as_before

late-next : (k c n : ℕ) (g : Option Fate) (cut : Bool) (ran : ℕ → Bool) → n ≡ c + 1 → (n == k) ≡ false
    → with_due cut (is_due_if k g n) n (arrivals_of k g c ran) ≡ arrivals_of k g n (ran_with n cut ran)
late-next k c n None cut ran up e = either cut []
late-next k c n (Some Deliver) cut ran up e = either cut _ ∙ ap (λ (b : Bool). if b then k ∷ [] else []) (sym (not-there n cut ran k e))
late-next k c n (Some LoseRequest) cut ran up e = either cut []
late-next k c n (Some LoseReply) cut ran up e = either cut _ ∙ ap (λ (b : Bool). if b then k ∷ [] else []) (sym (not-there n cut ran k e))
late-next k c n (Some Twice) cut ran up e = either cut _ ∙ ap (λ (b : Bool). if b then k ∷ k ∷ [] else []) (sym (not-there n cut ran k e))
late-next k c n (Some (Late i)) cut ran up e = waited-next k c n i cut ran (k + i == n) up refl

-- the message itself, where it falls due at once
own-waited : (n i : ℕ) (s : Bool) (ran : ℕ → Bool) → ran n ≡ not s → with_due s (n + i == n) n [] ≡ arrivals_of n (Some (Late i)) n ran
own-waited n zero s ran h =
    let same : n + 0 ≡ n = omega arith in
    let here : (n == n) ≡ true = eq-eqb n n refl in
    let within : nat_le n n ≡ true = grind (arith, nat_tests) in
    ap (λ (j : ℕ). with_due s (j == n) n []) same ∙ ap (λ (b : Bool). with_due s b n []) here ∙ by s
    ∙ ap (λ (b : Bool). if b then n ∷ [] else []) (sym h)
    ∙ ap (λ (b : Bool). if b then (if ran n then n ∷ [] else []) else []) (sym within)
    ∙ ap (λ (j : ℕ). if nat_le j n then (if ran j then j ∷ [] else []) else []) (sym same)
  where
    by : (b : Bool) → with_due b true n [] ≡ (if not b then n ∷ [] else [])
    by true = refl
    by false = refl
own-waited n (suc i) s ran h =
    let later : (n + suc i == n) ≡ false = grind (arith, nat_tests) in
    let beyond : nat_le (n + suc i) n ≡ false = grind (arith, nat_tests) in
    ap (λ (b : Bool). with_due s b n []) later ∙ either s []
    ∙ ap (λ (b : Bool). if b then (if ran (n + suc i) then (n + suc i) ∷ [] else []) else []) (sym beyond)

own-next : (f : Fate) (n : ℕ) (s : Bool) (ran : ℕ → Bool) → ran n ≡ not s
    → with_due s (is_due n f n) n (now_arrived (met s f) n n n []) ≡ arrivals_of n (Some f) n ran
own-next Deliver n false ran h = let same : (n == n) ≡ true = eq-eqb n n refl in rw (same, h) refl
own-next LoseRequest n false ran h = refl
own-next LoseReply n false ran h = let same : (n == n) ≡ true = eq-eqb n n refl in rw (same, h) refl
own-next Twice n false ran h = let same : (n == n) ≡ true = eq-eqb n n refl in rw (same, h) refl
own-next (Late j) n false ran h = own-waited n j false ran h
own-next Deliver n true ran h = rw h refl
own-next LoseRequest n true ran h = refl
own-next LoseReply n true ran h = rw h refl
own-next Twice n true ran h = rw h refl
own-next (Late j) n true ran h = own-waited n j true ran h

arrived-next : (f : Fate) (s cut : Bool) (k c n : ℕ) (g : Option Fate) (A : List ℕ) (ran : ℕ → Bool) (t : Bool) → (k == n) ≡ t → n ≡ c + 1
    → (t ≡ true → g ≡ None) → (t ≡ true → cut ≡ s) → A ≡ arrivals_of k g c ran
    → with_due cut (is_due_if k (if t then Some f else g) n) n (now_arrived (met s f) n k n A) ≡ arrivals_of k (if t then Some f else g) n (ran_with n cut ran)
arrived-next f s cut k c n g A ran true e up none runs a =
    let same : k ≡ n = grind (arith, nat_tests) in
    let here : (n == n) ≡ true = eq-eqb n n refl in
    let new : A ≡ [] = a ∙ ap (λ (o : Option Fate). arrivals_of k o c ran) (none refl) in
    ap (λ (B : List ℕ). with_due cut (is_due k f n) n (now_arrived (met s f) n k n B)) new
    ∙ ap (λ (b : Bool). with_due b (is_due k f n) n (now_arrived (met s f) n k n [])) (runs refl)
    ∙ ap (λ (j : ℕ). with_due s (is_due j f n) n (now_arrived (met s f) n j n [])) same
    ∙ own-next f n s (ran_with n cut ran) (right-there n cut ran n here ∙ ap (λ (b : Bool). not b) (runs refl))
    ∙ ap (λ (j : ℕ). arrivals_of j (Some f) n (ran_with n cut ran)) (sym same)
arrived-next f s cut k c n g A ran false e up none runs a =
    ap (λ (B : List ℕ). with_due cut (is_due_if k g n) n B) (other-arrived (met s f) n k n A (swap-test k n false e) ∙ a)
    ∙ late-next k c n g cut ran up (swap-test k n false e)

-- ---- all of that

module _ (given : List Fate) (J : List LaneEvent) (f : Fate) (K : List LaneEvent) (m : IsMessage given f J K) (old : Says given J) where
  abbrev n : ℕ
  n = length given + 1

  abbrev J1 : List LaneEvent
  J1 = event.Sent n m.version m.sender m.receiver m.body ∷ J

  abbrev ns : List ℕ
  ns = due (given ++ f ∷ []) n

  -- its receiver is stopped
  abbrev halted : Bool
  halted = stopped m.receiver (history J)

  -- what its fate comes to
  abbrev comes : Fate
  comes = met halted f

  abbrev ran : ℕ → ℕ → Bool
  ran k j = receives k j J

  new : (k : ℕ) → (k == n) ≡ true → fate_of k given ≡ None
  new k e = fresh given k (grind (arith, nat_tests))

  -- no message had that number
  first : sent n (history J) ≡ None
  first = none-of (sent n (history J)) (sent-if n J ∙ ap (λ (c : ℕ). nat_lt 0 c) (old.once n ∙ ap (λ (o : Option Fate). times_sent o) (fresh given n refl)))

  halts : (k : ℕ) → (k == n) ≡ true → is_cut_off k J1 ≡ halted
  halts k e =
      let same : k ≡ n = grind (arith, nat_tests) in
      ap (λ (j : ℕ). is_cut_off j J1) same ∙ own-stopped n m.version m.sender m.receiver m.body J first

  abbrev meant : Sending
  meant = let b = meaning_body J m.body in record { version = m.version; receiver = m.receiver; body = b; round = round_in m.version b (history J) }

  -- what was sent before
  pub sent-then : (k : ℕ) (x : Sending) → sent k (history J) ≡ Some x → sent k (history K) ≡ Some x
  sent-then k x e =
      run-sent k ns m.after K m.late ∙ own-sent k comes n J1 m.after m.dealt
      ∙ ap (λ (o : Option Sending). or_else o (only_if (n == k) meant)) e

  ran-then : (k j : ℕ) → receives k j K ≡ ran_with n (is_cut_off k J1) (ran k) j
  ran-then k j = run-receives k j ns m.after K m.late ∙ own-receives k j comes n J1 m.after m.dealt

  -- whether a receiver ran before is what it was
  pub ran-before : (k j : ℕ) → (n == j) ≡ false → receives k j K ≡ receives k j J
  ran-before k j e = ran-then k j ∙ not-there n (is_cut_off k J1) (ran k) j e

  count : length (given ++ f ∷ []) ≡ n
  count = length-append given (f ∷ [])

  arrived-then : (k : ℕ) → arrivals k K ≡ arrivals_of k (fate_of k (given ++ f ∷ [])) (length (given ++ f ∷ [])) (λ j. receives k j K)
  arrived-then k =
      let is : Bool = is_due_if k (fate_of k (given ++ f ∷ [])) n in
      let ran_now : ℕ → Bool = ran_with n (is_cut_off k J1) (ran k) in
      run-arrivals k ns m.after K m.late
      ∙ ap (λ (B : List ℕ). if is_cut_off k m.after then arrivals k m.after else B) (added-due k (last_sent m.after) 1 (given ++ f ∷ []) n (arrivals k m.after))
      ∙ ap (λ (l : ℕ). with_due (is_cut_off k m.after) is l (arrivals k m.after)) (own-last comes n J1 m.after m.dealt)
      ∙ ap (λ (A : List ℕ). with_due (is_cut_off k m.after) is n A) (own-arrivals k comes n J1 m.after m.dealt)
      ∙ ap (λ (b : Bool). with_due b is n (now_arrived comes n k n (arrivals k J))) (own-cut k comes n J1 m.after m.dealt)
      ∙ ap (λ (o : Option Fate). with_due (is_cut_off k J1) (is_due_if k o n) n (now_arrived comes n k n (arrivals k J))) (next-fate given f k)
      ∙ arrived-next f halted (is_cut_off k J1) k (length given) n (fate_of k given) (arrivals k J) (ran k) (k == n) refl refl (new k) (halts k) (old.arrived k)
      ∙ ap (λ (o : Option Fate). arrivals_of k o n ran_now) (sym (next-fate given f k))
      ∙ ap (λ (c : ℕ). arrivals_of k (fate_of k (given ++ f ∷ [])) c ran_now) (sym count)
      ∙ arrivals-same k (fate_of k (given ++ f ∷ [])) (length (given ++ f ∷ [])) ran_now (λ j. receives k j K) (λ j. sym (ran-then k j))

  returned-then : (k : ℕ) → returned k (history K) ≡ (is_returned (fate_of k (given ++ f ∷ [])) && receives k k K)
  returned-then k =
      run-returned k ns m.after K m.late ∙ own-returned k comes n J1 m.after m.dealt
      ∙ ap (λ (b : Bool). now_returned comes n k b) (old.returns k)
      ∙ returned-next f halted (is_cut_off k J1) k n (fate_of k given) (ran k) (k == n) (swap-test k n (k == n) refl) (new k) (halts k)
      ∙ ap (λ (o : Option Fate). is_returned o && ran_with n (is_cut_off k J1) (ran k) k) (sym (next-fate given f k))
      ∙ ap (λ (b : Bool). is_returned (fate_of k (given ++ f ∷ [])) && b) (sym (ran-then k k))

  says-message : Says (given ++ f ∷ []) K
  says-message = record {
    last = run-last ns m.after K m.late ∙ own-last comes n J1 m.after m.dealt ∙ sym count;
    once = λ k. run-sendings k ns m.after K m.late ∙ own-sendings k comes n J1 m.after m.dealt
        ∙ ap (λ (c : ℕ). if n == k then c + 1 else c) (old.once k)
        ∙ once-next f k n (fate_of k given) (k == n) refl (new k)
        ∙ ap (λ (o : Option Fate). times_sent o) (sym (next-fate given f k));
    arrived = arrived-then;
    returns = returned-then;
  }

pub says : (given : List Fate) (J : List LaneEvent) → IsCarried given J → Says given J
says given J Nothing = record { last = refl; once = λ k. refl; arrived = λ k. refl; returns = λ k. refl }
says given J (Other g K e o c) = says-other g K e o (says g K c)
says given J (Message g K f L m c) = says-message g K f L m (says g K c)
