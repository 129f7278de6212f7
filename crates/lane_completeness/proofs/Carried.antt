-- A lane in which each message is delivered and answered at once, to nodes that run, is undisturbed.
use Rattle.std.proofs.Common.{◌≡◌, ℕ, zero, suc, ◌+◌, ◌<◌, ◌≤◌, ◌==◌, Bool, true, false, cond, not, ◌&&◌, eq-eqb, List, [], ◌∷◌, ◌++◌, length, Option, Some, None, if◌then◌else◌, is_some, IsSome, inl, inr, refl, sym, ap, ◌∙◌, subst, arith}
use Rattle.std.proofs.lemmas.Bool.{cases_lt}
use Rattle.std.proofs.lemmas.List.{length-append}
use Rattle.std.proofs.lemmas.Bool.Decides.{nat_tests}
use Rattle.carriers.specs.Fates.{delivered}
use Rattle.carriers.specs.declared.fate.Fate.{Fate}
use Rattle.carriers.specs.declared.fate.Fate.TheVariants.{Deliver, LoseRequest, LoseReply, Twice, Late}
use Rattle.messages.specs.declared.noted.NotedBody.{NotedBody}
use Rattle.lane_journals.specs.Readers.{Message, or_else, only_if, round_in, sent, stopped, returned}
use Rattle.lane_journals.specs.Meanings.{history, meaning_body}
use Rattle.lane_journals.specs.declared.event.LaneEvent.{LaneEvent}
use Rattle.lane_journals.specs.declared.event.LaneEvent.TheVariants as event
use Rattle.lane_carriage.specs.Carriage.{met, IsDealt, is_stopped, is_cut_off, IsGivenOut, AreDelivered, due, IsOther, IsCarried, Nothing, Other, Message as Further, IsMessage}
use Rattle.lane_carriage.specs.Readers.{receives, fate_of, is_returned}
use Rattle.lane_carriage.proofs.Fates.{fate-append}
use Rattle.lane_carriage.proofs.Carried.{says, sent-then, ran-before}
use Rattle.lane_carriage.proofs.Messages.{numbers, was-sent, unsent}
use Rattle.lane_completeness.specs.Completeness.{HaveReturned, InTurn, RunSince, NoneStops, AreAnswered, IsUndisturbed}

module _ (before : List Fate) (J : List LaneEvent) (carried : IsCarried before J) where
  have-returned : (given : List Fate) (K : List LaneEvent) → IsCarried given K → AreAnswered (length before) given → RunSince J K → HaveReturned J K
  have-returned given K c answered run k m s late = by_fate (fate_of k given) refl
    where
      not-both : (x : Option Message) → x ≡ None → IsSome x → ⊥
      not-both None e h = cc
      not-both (Some y) e h = cc

      later : IsSome (fate_of k given) → returned k (history K) ≡ true
      later has =
          let n = (numbers given k).0 has in
          elim (cases_lt (length before) k) [
            | inl more ↦ (says given K c).returns k ∙ ap (λ (b : Bool). b && receives k k K) (answered k more n.1) ∙ run k m s late
            | inr few ↦ absurd (not-both (sent k (history J)) late (was-sent before J carried k n.0 few))
          ]

      by_fate : (x : Option Fate) → fate_of k given ≡ x → returned k (history K) ≡ true
      by_fate None e = absurd (let z : ◌≡◌ {A = Option Message} None (Some m) = sym (unsent given K c k e) ∙ s in cc)
      by_fate (Some f) e = later (ap is_some e)

  fewer : (given : List Fate) (f : Fate) → AreAnswered (length before) (given ++ f ∷ []) → AreAnswered (length before) given
  fewer given f answered k more most = ap is_returned (sym same) ∙ answered k more longer
    where
      longer : k ≤ length (given ++ f ∷ [])
      longer = by_list given k most
        where
          by_list : (xs : List Fate) (j : ℕ) → j ≤ length xs → j ≤ length (xs ++ f ∷ [])
          by_list [] j h = omega arith
          by_list (x ∷ xs) j h = let i = by_list xs (length xs) (omega arith) in omega arith

      same : fate_of k (given ++ f ∷ []) ≡ fate_of k given
      same = let z = fate-append 1 k given f in grind (arith, nat_tests)

  -- ---- what ran since ran before

  other-run : (L : List LaneEvent) (e : LaneEvent) → IsOther e → RunSince J (e ∷ L) → RunSince J L
  other-run L (event.Sent n v d to body) o run = absurd o
  other-run L (event.Delivered n r) o run = absurd o
  other-run L (event.Returned n) o run = absurd o
  other-run L _ o run = run

  message-run : (given : List Fate) (L : List LaneEvent) (f : Fate) (K : List LaneEvent) → IsCarried given L → IsMessage given f L K → RunSince J K → RunSince J L
  message-run given L f K c x run k m s late = sym (ran-before given L f K x (says given L c) k k other) ∙ run k m (sent-then given L f K x (says given L c) k m s) late
    where
      by_fate : (o : Option Fate) → fate_of k given ≡ o → IsSome (fate_of k given)
      by_fate None e = absurd (let z : ◌≡◌ {A = Option Message} None (Some m) = sym (unsent given L c k e) ∙ s in cc)
      by_fate (Some g) e = ap is_some e

      other : (length given + 1 == k) ≡ false
      other = let n = (numbers given k).0 (by_fate (fate_of k given) refl) in let most = n.1 in grind (arith, nat_tests)

  -- ---- in turn

  given-turn : (cut : Bool) (n : ℕ) (L M : List LaneEvent) → IsGivenOut cut n L M → InTurn J L → InTurn J M
  given-turn true n L M d t = subst (λ (x : List LaneEvent). InTurn J x) (sym d) t
  given-turn false n L M d t = subst (λ (x : List LaneEvent). InTurn J x) (sym d.1) (t, inl tt)

  delivered-turn : (ns : List ℕ) (L K : List LaneEvent) → AreDelivered ns L K → InTurn J L → InTurn J K
  delivered-turn [] L K d t = subst (λ (x : List LaneEvent). InTurn J x) (sym d) t
  delivered-turn (n ∷ ns) L K d t = delivered-turn ns d.0 K d.1.1 (given-turn (is_cut_off n L) n L d.0 d.1.0 t)

  dealt-turn : (f : Fate) (n : ℕ) (L K : List LaneEvent) → IsDealt f n L K → InTurn J L → InTurn J K
  dealt-turn Deliver n L K d t = subst (λ (x : List LaneEvent). InTurn J x) (sym d.1) ((t, inl tt), inl tt)
  dealt-turn LoseRequest n L K d t = subst (λ (x : List LaneEvent). InTurn J x) (sym d) t
  dealt-turn LoseReply n L K d t = subst (λ (x : List LaneEvent). InTurn J x) (sym d.1) (t, inl tt)
  dealt-turn Twice n L K d t = subst (λ (x : List LaneEvent). InTurn J x) (sym d.2) (((t, inl tt), inl tt), inl tt)
  dealt-turn (Late k) n L K d t = subst (λ (x : List LaneEvent). InTurn J x) (sym d) t

  message-turn : (given : List Fate) (L : List LaneEvent) (f : Fate) (K : List LaneEvent) → IsMessage given f L K → InTurn J L → HaveReturned J L → InTurn J K
  message-turn given L f K m t all =
      delivered-turn (due (given ++ f ∷ []) (length given + 1)) m.after K m.late
      (dealt-turn (met (stopped m.receiver (history L)) f) (length given + 1) (event.Sent (length given + 1) m.version m.sender m.receiver m.body ∷ L) m.after m.dealt (t, inr all))

  in-turn : (given : List Fate) (K : List LaneEvent) → IsCarried given K → AreAnswered (length before) given → RunSince J K → InTurn J K
  in-turn given K Nothing answered run = tt
  in-turn given K (Other g L e o c) answered run =
      let before = other-run L e o run in
      (in-turn g L c answered before, inr (have-returned g L c answered before))
  in-turn given K (Further g L f M m c) answered run =
      let before = message-run g L f M c m run in
      message-turn g L f M m (in-turn g L c (fewer g f answered) before) (have-returned g L c (fewer g f answered) before)

pub undisturbed : (before given : List Fate) (J K : List LaneEvent) → IsCarried before J → IsCarried given K → AreAnswered (length before) given → RunSince J K → IsUndisturbed J K
undisturbed before given J K b c answered run = record { in_turn = in-turn before J b given K c answered run; all = have-returned before J b given K c answered run }

-- ---- all messages

returned-since : (J K : List LaneEvent) → HaveReturned [] K → HaveReturned J K
returned-since J K all k m s late = all k m s refl

turn-since : (J K : List LaneEvent) → InTurn [] K → InTurn J K
turn-since J [] t = tt
turn-since J (e ∷ K) t = (turn-since J K t.0, elim t.1 [ inl c ↦ inl c | inr all ↦ inr (returned-since J K all) ])

pub all-undisturbed : (given : List Fate) (J K : List LaneEvent) → IsCarried given K → AreAnswered 0 given → RunSince [] K → IsUndisturbed J K
all-undisturbed given J K c answered run = let u = undisturbed [] given [] K Nothing c answered run in record { in_turn = turn-since J K u.in_turn; all = returned-since J K u.all }

-- a perfect carrier gives no other fate
pub perfect : (many : ℕ) → AreAnswered 0 (delivered many)
perfect zero k more most = absurd (omega arith)
perfect (suc n) k more most = elim (cases_lt (length (delivered n)) k) [
  | inl last ↦ ap is_returned (next ∙ here last)
  | inr before ↦ ap is_returned (next ∙ there before) ∙ perfect n k more before
]
  where
    next : fate_of k (delivered n ++ Deliver ∷ []) ≡ cond (k == 1 + length (delivered n)) (Some Deliver) (fate_of k (delivered n))
    next = fate-append 1 k (delivered n) Deliver

    here : length (delivered n) < k → cond (k == 1 + length (delivered n)) (Some Deliver) (fate_of k (delivered n)) ≡ Some Deliver
    here last =
        let z = length-append (delivered n) (Deliver ∷ []) in
        let same : k ≡ 1 + length (delivered n) = omega (arith, z, last, most) in
        ap (λ (t : Bool). cond t (Some Deliver) (fate_of k (delivered n))) (eq-eqb k (1 + length (delivered n)) same)

    there : k ≤ length (delivered n) → cond (k == 1 + length (delivered n)) (Some Deliver) (fate_of k (delivered n)) ≡ fate_of k (delivered n)
    there before = grind (arith, nat_tests)

-- ---- nodes that neither stop nor start

-- one that isn't added was there
there-before : (o : Option Message) (x y : Message) → or_else o (only_if false x) ≡ Some y → o ≡ Some y
there-before None x y h = cc
there-before (Some z) x y h = h

abbrev RunsNow : ℕ → Message → List LaneEvent → Type 0
RunsNow number m K = receives number number K ≡ not (stopped m.receiver (history K))

sent-runs : (n v d to : ℕ) (body : NotedBody) (K : List LaneEvent) (number : ℕ) (m : Message) (t : Bool) → (n == number) ≡ t
    → sent number (history (event.Sent n v d to body ∷ K)) ≡ Some m → (sent number (history K) ≡ Some m → RunsNow number m K)
    → RunsNow number m (event.Sent n v d to body ∷ K)
sent-runs n v d to body K number m true e s older =
    let L : List LaneEvent = event.Sent n v d to body ∷ K in
    ap (λ (t : Bool). if t then not (is_cut_off number L) else receives number number K) e
    ∙ ap (λ (o : Option Message). not (is_stopped o (history L))) s
sent-runs n v d to body K number m false e s older =
    let L : List LaneEvent = event.Sent n v d to body ∷ K in
    let b = meaning_body K body in
    let x : Message = record { version = v; receiver = to; body = b; round = round_in v b (history K) } in
    ap (λ (t : Bool). if t then not (is_cut_off number L) else receives number number K) e
    ∙ older (there-before (sent number (history K)) x m (subst (λ (t : Bool). or_else (sent number (history K)) (only_if t x) ≡ Some m) e s))

pub running : (J K : List LaneEvent) → NoneStops K → (number : ℕ) (m : Message) → sent number (history (K ++ J)) ≡ Some m → sent number (history J) ≡ None
    → receives number number (K ++ J) ≡ not (stopped m.receiver (history (K ++ J)))
running J [] none number m s late = absurd (let z : ◌≡◌ {A = Option Message} None (Some m) = sym late ∙ s in cc)
running J (event.Stopped n ∷ K) none number m s late = absurd none
running J (event.Started n ∷ K) none number m s late = absurd none
running J (event.Sent n v d to body ∷ K) none number m s late = sent-runs n v d to body (K ++ J) number m (n == number) refl s (λ t. running J K none number m t late)
running J (_ ∷ K) none number m s late = running J K none number m s late
