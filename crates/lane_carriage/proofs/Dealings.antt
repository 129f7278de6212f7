-- What a message's own fate and the late deliveries add to what is read.
use Rattle.std.proofs.Common.{◌≡◌, ◌==◌, ℕ, Bool, true, false, List, [], ◌∷◌, Option, Some, None, if◌then◌else◌, refl, ap, ◌∙◌, arith}
use Rattle.std.proofs.lemmas.Bool.Decides.{nat_tests}
use Rattle.carriers.specs.declared.fate.Fate.{Fate}
use Rattle.carriers.specs.declared.fate.Fate.TheVariants.{Deliver, LoseRequest, LoseReply, Twice, Late}
use Rattle.messages.specs.declared.noted.NotedReply.{NotedReply}
use Rattle.lane_journals.specs.Events as plain
use Rattle.lane_journals.specs.Readers.{Journal, Message as Sending, sent, returned}
use Rattle.lane_journals.specs.Meanings.{history, meaning_reply}
use Rattle.lane_journals.specs.declared.event.LaneEvent.{LaneEvent}
use Rattle.lane_journals.specs.declared.event.LaneEvent.TheVariants.{Delivered, Returned}
use Rattle.lane_carriage.specs.Carriage.{IsDealt, is_stopped, is_cut_off, IsGivenOut, AreDelivered}
use Rattle.lane_carriage.specs.Readers.{sendings, last_sent, arrivals, receives}
use Rattle.lane_carriage.proofs.Fates.{added}

-- ---- whether a receiver runs

stopped-delivered : (o : Option Sending) (k : ℕ) (r : plain.Reply) (H : Journal) → is_stopped o (plain.Delivered k r ∷ H) ≡ is_stopped o H
stopped-delivered None k r H = refl
stopped-delivered (Some m) k r H = refl

stopped-returned : (o : Option Sending) (k : ℕ) (H : Journal) → is_stopped o (plain.Returned k ∷ H) ≡ is_stopped o H
stopped-returned None k H = refl
stopped-returned (Some m) k H = refl

pub cut-delivered : (k n : ℕ) (r : NotedReply) (J : List LaneEvent) → is_cut_off k (Delivered n r ∷ J) ≡ is_cut_off k J
cut-delivered k n r J = stopped-delivered (sent k (history J)) n (meaning_reply J r) (history J)

pub cut-returned : (k n : ℕ) (J : List LaneEvent) → is_cut_off k (Returned n ∷ J) ≡ is_cut_off k J
cut-returned k n J = stopped-returned (sent k (history J)) n (history J)

same-cut : (n k : ℕ) (J : List LaneEvent) → (n == k) ≡ true → is_cut_off n J ≡ is_cut_off k J
same-cut n k J e = let same : n ≡ k = grind (arith, nat_tests) in ap (λ (j : ℕ). is_cut_off j J) same

-- ---- what is read the same behind deliveries and returns

-- deliveries leave it as it is
abbrev Passes : {A : Type 0} → (List LaneEvent → A) → Type 0
Passes read = (n : ℕ) (r : NotedReply) (J : List LaneEvent) → read (Delivered n r ∷ J) ≡ read J

given-same : {A : Type 0} (read : List LaneEvent → A) → Passes read → (c : Bool) (n : ℕ) (J L : List LaneEvent) → IsGivenOut c n J L → read L ≡ read J
given-same read p true n J L h = ap read h
given-same read p false n J L h = ap read h.1 ∙ p n h.0 J

run-same : {A : Type 0} (read : List LaneEvent → A) → Passes read → (ns : List ℕ) (J K : List LaneEvent) → AreDelivered ns J K → read K ≡ read J
run-same read p [] J K h = ap read h
run-same read p (n ∷ ns) J K h = run-same read p ns h.0 K h.1.1 ∙ given-same read p (is_cut_off n J) n J h.0 h.1.0

own-same : {A : Type 0} (read : List LaneEvent → A) → Passes read → ((n : ℕ) (J : List LaneEvent) → read (Returned n ∷ J) ≡ read J)
    → (f : Fate) (n : ℕ) (J K : List LaneEvent) → IsDealt f n J K → read K ≡ read J
own-same read p q Deliver n J K h = ap read h.1 ∙ q n (Delivered n h.0 ∷ J) ∙ p n h.0 J
own-same read p q LoseRequest n J K h = ap read h
own-same read p q LoseReply n J K h = ap read h.1 ∙ p n h.0 J
own-same read p q Twice n J K h = ap read h.2 ∙ p n h.1 (Returned n ∷ Delivered n h.0 ∷ J) ∙ q n (Delivered n h.0 ∷ J) ∙ p n h.0 J
own-same read p q (Late j) n J K h = ap read h

pub run-last : (ns : List ℕ) (J K : List LaneEvent) → AreDelivered ns J K → last_sent K ≡ last_sent J
run-last = run-same last_sent (λ n r J. refl)

pub run-sendings : (k : ℕ) (ns : List ℕ) (J K : List LaneEvent) → AreDelivered ns J K → sendings k K ≡ sendings k J
run-sendings k = run-same (λ J. sendings k J) (λ n r J. refl)

pub run-returned : (k : ℕ) (ns : List ℕ) (J K : List LaneEvent) → AreDelivered ns J K → returned k (history K) ≡ returned k (history J)
run-returned k = run-same (λ J. returned k (history J)) (λ n r J. refl)

pub run-sent : (k : ℕ) (ns : List ℕ) (J K : List LaneEvent) → AreDelivered ns J K → sent k (history K) ≡ sent k (history J)
run-sent k = run-same (λ J. sent k (history J)) (λ n r J. refl)

pub run-receives : (k j : ℕ) (ns : List ℕ) (J K : List LaneEvent) → AreDelivered ns J K → receives k j K ≡ receives k j J
run-receives k j = run-same (λ J. receives k j J) (λ n r J. refl)

pub own-last : (f : Fate) (n : ℕ) (J K : List LaneEvent) → IsDealt f n J K → last_sent K ≡ last_sent J
own-last = own-same last_sent (λ n r J. refl) (λ n J. refl)

pub own-sendings : (k : ℕ) (f : Fate) (n : ℕ) (J K : List LaneEvent) → IsDealt f n J K → sendings k K ≡ sendings k J
own-sendings k = own-same (λ J. sendings k J) (λ n r J. refl) (λ n J. refl)

pub own-sent : (k : ℕ) (f : Fate) (n : ℕ) (J K : List LaneEvent) → IsDealt f n J K → sent k (history K) ≡ sent k (history J)
own-sent k = own-same (λ J. sent k (history J)) (λ n r J. refl) (λ n J. refl)

pub own-receives : (k j : ℕ) (f : Fate) (n : ℕ) (J K : List LaneEvent) → IsDealt f n J K → receives k j K ≡ receives k j J
own-receives k j = own-same (λ J. receives k j J) (λ n r J. refl) (λ n J. refl)

pub own-cut : (k : ℕ) (f : Fate) (n : ℕ) (J K : List LaneEvent) → IsDealt f n J K → is_cut_off k K ≡ is_cut_off k J
own-cut k = own-same (λ J. is_cut_off k J) (cut-delivered k) (cut-returned k)

-- ---- where late messages arrive

-- the arrivals of message k once message n was given out, where `l` was sent last
abbrev now_given : Bool → ℕ → ℕ → ℕ → List ℕ → List ℕ
now_given c n k l A = if c then A else (if n == k then l ∷ A else A)

given-arrivals : (k : ℕ) (c : Bool) (n : ℕ) (J L : List LaneEvent) → IsGivenOut c n J L → arrivals k L ≡ now_given c n k (last_sent J) (arrivals k J)
given-arrivals k true n J L h = ap (λ (M : List LaneEvent). arrivals k M) h
given-arrivals k false n J L h = ap (λ (M : List LaneEvent). arrivals k M) h.1

-- the arrivals of message k once these were given out
abbrev pub all_given : Bool → ℕ → ℕ → List ℕ → List ℕ → List ℕ
all_given cut k l ns A = if cut then A else added k l ns A

one-given : (k l n : ℕ) (ns A : List ℕ) (c d : Bool) (t : Bool) → (t ≡ true → c ≡ d)
    → all_given d k l ns (if c then A else (if t then l ∷ A else A)) ≡ (if d then A else added k l ns (if t then l ∷ A else A))
one-given k l n ns A true true t h = refl
one-given k l n ns A true false true h = let no = h refl in cc
one-given k l n ns A true false false h = refl
one-given k l n ns A false true true h = let no = h refl in cc
one-given k l n ns A false true false h = refl
one-given k l n ns A false false t h = refl

pub run-arrivals : (k : ℕ) (ns : List ℕ) (J K : List LaneEvent) → AreDelivered ns J K → arrivals k K ≡ all_given (is_cut_off k J) k (last_sent J) ns (arrivals k J)
run-arrivals k [] J K h = ap (λ (L : List LaneEvent). arrivals k L) h ∙ none (is_cut_off k J)
  where
    none : (b : Bool) → arrivals k J ≡ (if b then arrivals k J else arrivals k J)
    none true = refl
    none false = refl
run-arrivals k (n ∷ ns) J K h =
    let c = is_cut_off n J in
    run-arrivals k ns h.0 K h.1.1
    ∙ ap (λ (d : Bool). all_given d k (last_sent h.0) ns (arrivals k h.0)) (given-same (λ M. is_cut_off k M) (cut-delivered k) c n J h.0 h.1.0)
    ∙ ap (λ (l : ℕ). all_given (is_cut_off k J) k l ns (arrivals k h.0)) (given-same last_sent (λ m r M. refl) c n J h.0 h.1.0)
    ∙ ap (λ (A : List ℕ). all_given (is_cut_off k J) k (last_sent J) ns A) (given-arrivals k c n J h.0 h.1.0)
    ∙ one-given k (last_sent J) n ns (arrivals k J) c (is_cut_off k J) (n == k) (same-cut n k J)

-- ---- its own fate

-- whether message k was returned, once message n was dealt with
abbrev pub now_returned : Fate → ℕ → ℕ → Bool → Bool
now_returned Deliver n k old = if n == k then true else old
now_returned LoseRequest n k old = old
now_returned LoseReply n k old = old
now_returned Twice n k old = if n == k then true else old
now_returned (Late j) n k old = old

pub own-returned : (k : ℕ) (f : Fate) (n : ℕ) (J K : List LaneEvent) → IsDealt f n J K
    → returned k (history K) ≡ now_returned f n k (returned k (history J))
own-returned k Deliver n J K h = ap (λ (L : List LaneEvent). returned k (history L)) h.1
own-returned k LoseRequest n J K h = ap (λ (L : List LaneEvent). returned k (history L)) h
own-returned k LoseReply n J K h = ap (λ (L : List LaneEvent). returned k (history L)) h.1
own-returned k Twice n J K h = ap (λ (L : List LaneEvent). returned k (history L)) h.2
own-returned k (Late j) n J K h = ap (λ (L : List LaneEvent). returned k (history L)) h

abbrev once_more : ℕ → ℕ → ℕ → List ℕ → List ℕ
once_more n k l A = if n == k then l ∷ A else A

-- the arrivals of message k then, where `l` was sent last
abbrev pub now_arrived : Fate → ℕ → ℕ → ℕ → List ℕ → List ℕ
now_arrived Deliver n k l A = once_more n k l A
now_arrived LoseRequest n k l A = A
now_arrived LoseReply n k l A = once_more n k l A
now_arrived Twice n k l A = once_more n k l (once_more n k l A)
now_arrived (Late j) n k l A = A

pub own-arrivals : (k : ℕ) (f : Fate) (n : ℕ) (J K : List LaneEvent) → IsDealt f n J K
    → arrivals k K ≡ now_arrived f n k (last_sent J) (arrivals k J)
own-arrivals k Deliver n J K h = ap (λ (L : List LaneEvent). arrivals k L) h.1
own-arrivals k LoseRequest n J K h = ap (λ (L : List LaneEvent). arrivals k L) h
own-arrivals k LoseReply n J K h = ap (λ (L : List LaneEvent). arrivals k L) h.1
own-arrivals k Twice n J K h = ap (λ (L : List LaneEvent). arrivals k L) h.2
own-arrivals k (Late j) n J K h = ap (λ (L : List LaneEvent). arrivals k L) h
