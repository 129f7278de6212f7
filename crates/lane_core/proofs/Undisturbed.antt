-- An upkeep that nothing disturbs.
use Rattle.std.proofs.Common.{◌≡◌, ◌==◌, ◌&&◌, ◌++◌, ◌+◌, ◌≤◌, ◌<◌, ◌⊎◌, ℕ, Bool, true, false, not, List, [], ◌∷◌, length, Option, Some, None, if◌then◌else◌, inl, inr, refl, sym, ap, ap₂, ◌∙◌, subst, arith, eq-eqb}
use Rattle.std.proofs.lemmas.Bool.Decides.{nat_tests}
use Rattle.carriers.specs.declared.fate.Fate.{Fate}
use Rattle.cluster_states.specs.Publishing.{serves}
use Rattle.cluster_states.specs.declared.cluster_state.ClusterState.{ClusterState}
use Rattle.messages.specs.declared.noted.NotedBody.{NotedBody}
use Rattle.lane_journals.specs.Readers.{Journal, Message, or_else, only_if, sent, stopped, returned}
use Rattle.lane_journals.specs.Legal.{MaySend}
use Rattle.lane_journals.specs.States.{state_of}
use Rattle.lane_journals.specs.Meanings.{history, meaning_body}
use Rattle.lane_journals.specs.Places.{Setting, state_in}
use Rattle.lane_journals.specs.KeptJournals.{IsLegal}
use Rattle.lane_journals.specs.declared.event.LaneEvent.{LaneEvent}
use Rattle.lane_journals.specs.declared.event.LaneEvent.TheVariants as event
use Rattle.lane_carriage.specs.Carriage.{is_stopped, is_cut_off}
use Rattle.lane_carriage.specs.Readers.{last_sent, receives, fate_of, is_returned}
use Rattle.lane_carriage.specs.Laws.{OfCarried}
use Rattle.lane_keeping.specs.LaneKeeping.{setting_of}
use Rattle.lane_keeping.specs.Tidings.{is_older, heard_next, last_state}
use Rattle.lane_journals.specs.Readers.{held}
use Rattle.upkeep_spans.specs.Spans.{IsUpkeepEvent, AreUpkeep, Nothing, More, OfUpkeep, later}
use Rattle.upkeep_spans.specs.Causes.{first_absent, cause_of, IsCause}
use Rattle.upkeep_spans.specs.Scans.{ArePlaced}
use Rattle.upkeep_spans.specs.declared.answers.Upkeep.{Upkeep}
use Rattle.upkeep_spans.specs.declared.answers.Upkeep.TheVariants.{Rested, Blocked, Disturbed, Held, NoMemory}
use Rattle.upkeep_spans.proofs.Placing.{placed}
use Rattle.lane_calls.specs.LaneValues.{LaneValue, IsLaneValue, IsAny}
use Rattle.lane_calls.specs.Upkept.{Maintains, IsUpkept}
use Rattle.lane_core.specs.Undisturbed.{IsUndisturbed}
use Rattle.lane_core.proofs.Newest.{newest_is}
use Rattle.lane_core.proofs.Running.{none-first}

abbrev Events : Type 0
Events = List LaneEvent

-- ---- the events of a span

pub record IsAnswered (p : ℕ → Bool) (I K : Events) : Type 0 where
  pub front : Events
  pub is : K ≡ front ++ I
  pub none : first_absent p front ≡ None

-- each that was sent in it
abbrev EachSent : (ℕ → Bool) → ℕ → ℕ → Events → Events → Type 0
EachSent p d v J W = (L : Events) (n w e to : ℕ) (b : NotedBody) → AreUpkeep d v J L → w ≡ v → AreUpkeep d v (event.Sent n w e to b ∷ L) W → p n ≡ true

nobody : (p : ℕ → Bool) (n to : ℕ) (o : Option ℕ) → o ≡ None → p n ≡ true → or_else o (only_if (not (p n)) to) ≡ None
nobody p n to o none h = ap₂ (λ (x : Option ℕ) (t : Bool). or_else x (only_if (not t) to)) none h

further : (d v : ℕ) (J : Events) (e : LaneEvent) (K : Events) → IsUpkeepEvent d v e → AreUpkeep d v (e ∷ J) K → AreUpkeep d v J K
further d v J e K is Nothing = More J e is Nothing
further d v J e K is (More L f h more) = More L f h (further d v J e L is more)

answered-next : (p : ℕ → Bool) (I L : Events) (e : LaneEvent) (r : IsAnswered p I L) → first_absent p (e ∷ r.front) ≡ None → IsAnswered p I (e ∷ L)
answered-next p I L e r none = record { front = e ∷ r.front; is = ap (λ (M : Events). e ∷ M) r.is; none = none }

answered-span : (p : ℕ → Bool) (d v : ℕ) (I J W K : Events) → EachSent p d v J W → AreUpkeep d v J K → AreUpkeep d v K W → IsAnswered p I J → IsAnswered p I K
answered-span p d v I J W K each Nothing rest base = base
answered-span p d v I J W K each (More L e h more) rest base = by_event e h rest (answered-span p d v I J W L each more (further d v L e W h rest) base)
  where
    by_event : (e : LaneEvent) → IsUpkeepEvent d v e → AreUpkeep d v (e ∷ L) W → IsAnswered p I L → IsAnswered p I (e ∷ L)
    by_event (event.Opened a b c) h up r = answered-next p I L (event.Opened a b c) r r.none
    by_event (event.Sent n w a to b) h up r = answered-next p I L (event.Sent n w a to b) r (nobody p n to (first_absent p r.front) r.none (each L n w a to b more h.1 up))
    by_event (event.Delivered n x) h up r = answered-next p I L (event.Delivered n x) r r.none
    by_event (event.Returned n) h up r = answered-next p I L (event.Returned n) r r.none
    by_event (event.Decided a b x) h up r = answered-next p I L (event.Decided a b x) r r.none
    by_event (event.Published s) h up r = absurd h
    by_event (event.Heard a b) h up r = absurd h
    by_event (event.Begun l a b c s) h up r = absurd h
    by_event (event.Refused l a x) h up r = absurd h
    by_event (event.Prepared l b x) h up r = absurd h
    by_event (event.Wrote l x) h up r = absurd h
    by_event (event.Closed l x) h up r = absurd h
    by_event (event.Stopped n) h up r = absurd h
    by_event (event.Started n) h up r = absurd h

heard-before : (p : ℕ → Bool) (d : ℕ) (s : ClusterState) (J : Events) → IsAnswered p J (heard_next d (Some s) J)
heard-before p d s J = by_test (is_older (held d (history J)) s.version)
  where
    by_test : (b : Bool) → IsAnswered p J (if b then event.Heard d s.version ∷ J else J)
    by_test true = record { front = event.Heard d s.version ∷ []; is = refl; none = refl }
    by_test false = record { front = []; is = refl; none = refl }

-- ---- numbers

legal-down : (S : Setting) (d v : ℕ) (J K : Events) → AreUpkeep d v J K → IsLegal S K → IsLegal S J
legal-down S d v J K Nothing l = l
legal-down S d v J K (More L e h more) l = legal-down S d v J L more l.0

module _ (given : List Fate) (d v : ℕ) where
  placed-down : (J K : Events) → AreUpkeep d v J K → ArePlaced given K → ArePlaced given J
  placed-down J K Nothing l = l
  placed-down J K (More L e h more) l = placed-down J L more (by_event e h l)
    where
      by_event : (e : LaneEvent) → IsUpkeepEvent d v e → ArePlaced given (e ∷ L) → ArePlaced given L
      by_event (event.Opened a b c) h l = l
      by_event (event.Sent n w a to b) h l = l.1
      by_event (event.Delivered n x) h l = l.1
      by_event (event.Returned n) h l = l.1
      by_event (event.Decided a b x) h l = l
      by_event (event.Published s) h l = absurd h
      by_event (event.Heard a b) h l = absurd h
      by_event (event.Begun l a b c s) h _ = absurd h
      by_event (event.Refused l a x) h _ = absurd h
      by_event (event.Prepared l b x) h _ = absurd h
      by_event (event.Wrote l x) h _ = absurd h
      by_event (event.Closed l x) h _ = absurd h
      by_event (event.Stopped n) h l = absurd h
      by_event (event.Started n) h l = absurd h

  last-up : (J K : Events) → AreUpkeep d v J K → ArePlaced given K → last_sent J ≤ last_sent K
  last-up J K Nothing l = omega arith
  last-up J K (More L e h more) l = by_event e h l (last-up J L more)
    where
      by_event : (e : LaneEvent) → IsUpkeepEvent d v e → ArePlaced given (e ∷ L) → (ArePlaced given L → last_sent J ≤ last_sent L) → last_sent J ≤ last_sent (e ∷ L)
      by_event (event.Opened a b c) h l up = up l
      by_event (event.Sent n w a to b) h l up = let next = l.0 in let le = up l.1 in omega (arith, next, le)
      by_event (event.Delivered n x) h l up = up l.1
      by_event (event.Returned n) h l up = up l.1
      by_event (event.Decided a b x) h l up = up l
      by_event (event.Published s) h l up = absurd h
      by_event (event.Heard a b) h l up = absurd h
      by_event (event.Begun l a b c s) h _ up = absurd h
      by_event (event.Refused l a x) h _ up = absurd h
      by_event (event.Prepared l b x) h _ up = absurd h
      by_event (event.Wrote l x) h _ up = absurd h
      by_event (event.Closed l x) h _ up = absurd h
      by_event (event.Stopped n) h l up = absurd h
      by_event (event.Started n) h l up = absurd h

  -- what is sent later has another number
  receives-up : (k : ℕ) (J K : Events) → AreUpkeep d v J K → ArePlaced given K → k ≤ last_sent J → receives k k K ≡ receives k k J
  receives-up k J K Nothing l le = refl
  receives-up k J K (More L e h more) l le = by_event e h l (λ (q : ArePlaced given L). receives-up k J L more q le) (last-up J L more)
    where
      by_event : (e : LaneEvent) → IsUpkeepEvent d v e → ArePlaced given (e ∷ L) → (ArePlaced given L → receives k k L ≡ receives k k J) → (ArePlaced given L → last_sent J ≤ last_sent L) → receives k k (e ∷ L) ≡ receives k k J
      by_event (event.Opened a b c) h l up last = up l
      by_event (event.Sent n w a to b) h l up last =
          let next = l.0 in
          let most = last l.1 in
          let off : (n == k) ≡ false = grind (arith, nat_tests) in
          rw off (up l.1)
      by_event (event.Delivered n x) h l up last = up l.1
      by_event (event.Returned n) h l up last = up l.1
      by_event (event.Decided a b x) h l up last = up l
      by_event (event.Published s) h l up last = absurd h
      by_event (event.Heard a b) h l up last = absurd h
      by_event (event.Begun l a b c s) h _ up last = absurd h
      by_event (event.Refused l a x) h _ up last = absurd h
      by_event (event.Prepared l b x) h _ up last = absurd h
      by_event (event.Wrote l x) h _ up last = absurd h
      by_event (event.Closed l x) h _ up last = absurd h
      by_event (event.Stopped n) h l up last = absurd h
      by_event (event.Started n) h l up last = absurd h

-- ---- a message that was just sent

unsent : (k : ℕ) (H : Journal) (o : Option Message) → sent k H ≡ o → ((j : ℕ) (m : Message) → sent j H ≡ Some m → j < k) → sent k H ≡ None
unsent k H None is below = is
unsent k H (Some m) is below = let less : k < k = below k m is in absurd (omega (arith, less))

own-message : (k : ℕ) (o : Option Message) (m : Message) → o ≡ None → or_else o (only_if (k == k) m) ≡ Some m
own-message k o m none = ap₂ (λ (x : Option Message) (t : Bool). or_else x (only_if t m)) none (eq-eqb k k refl)

not-cut : (k w a to : ℕ) (b : NotedBody) (L : Events) → sent k (history L) ≡ None → stopped to (history L) ≡ false → is_cut_off k (event.Sent k w a to b ∷ L) ≡ false
not-cut k w a to b L none runs =
    ap (λ (o : Option Message). is_stopped o (history (event.Sent k w a to b ∷ L))) (own-message k (sent k (history L)) _ none) ∙ runs

receives-own : (k w a to : ℕ) (b : NotedBody) (L : Events) → is_cut_off k (event.Sent k w a to b ∷ L) ≡ false → receives k k (event.Sent k w a to b ∷ L) ≡ true
receives-own k w a to b L cut = ap₂ (λ (t c : Bool). if t then not c else receives k k L) (eq-eqb k k refl) cut

-- ---- the whole

-- the answer by its cause
rests : (answer : Upkeep) (late absent : Option ℕ) → late ≡ None → absent ≡ None → answer ≡ cause_of late absent → answer ≡ Rested
rests answer late absent unlate none is = is ∙ ap₂ cause_of unlate none

same-state : (J : Events) (s t : ClusterState) → last_state J ≡ Some s → last_state J ≡ Some t → s ≡ t
same-state J s t a b = cc

module _ (last : OfCarried (λ given J. last_sent J ≡ length given))
    (back : OfCarried (λ given J. (k : ℕ) → returned k (history J) ≡ (is_returned (fate_of k given) && receives k k J)))
    (serve : (S : Setting) (J : Events) → IsLegal S J → (v n : ℕ) (s : ClusterState) → state_in v J ≡ Some s → state_of (history J) v n ≡ serves s n)
    (behind : (J span : Events) → later (length J) (span ++ J) ≡ span)
    (states : OfUpkeep (λ J K. (v : ℕ) → state_in v K ≡ state_in v J))
    (stops : OfUpkeep (λ J K. (n : ℕ) → stopped n (history K) ≡ stopped n (history J)))
    (old new : LaneValue) (was : IsLaneValue old) (is : IsLaneValue new) (m : Maintains old new) (u : IsUndisturbed old new) where
  abbrev d : ℕ
  d = m.owner

  abbrev s : ClusterState
  s = m.state

  abbrev v : ℕ
  v = s.version

  abbrev J : Events
  J = old.journal

  abbrev H : Events
  H = heard_next d (Some s) J

  abbrev W : Events
  W = new.journal

  abbrev S : Setting
  S = setting_of new.lane new.rules

  same : u.state ≡ s
  same = same-state J u.state s u.newest m.newest

  there : ArePlaced new.given W
  there = placed new.given W is.carried

  lane-same : setting_of old.lane old.rules ≡ S
  lane-same = ap (λ (x : LaneValue). setting_of x.lane x.rules) (sym m.after)

  published : state_in v H ≡ Some s
  published = by_test (is_older (held d (history J)) s.version)
    where
      by_test : (b : Bool) → state_in v (if b then event.Heard d s.version ∷ J else J) ≡ Some s
      by_test true = (newest_is (setting_of old.lane old.rules) J was.legal s m.newest).1
      by_test false = (newest_is (setting_of old.lane old.rules) J was.legal s m.newest).1

  runs : (n : ℕ) → serves s n ≡ true → stopped n (history H) ≡ false
  runs n h = by_test (is_older (held d (history J)) s.version)
    where
      by_test : (b : Bool) → stopped n (history (if b then event.Heard d s.version ∷ J else J)) ≡ false
      by_test true = u.run n (subst (λ (x : ClusterState). serves x n ≡ true) (sym same) h)
      by_test false = u.run n (subst (λ (x : ClusterState). serves x n ≡ true) (sym same) h)

  begins : last_sent H ≡ length old.given
  begins = by_test (is_older (held d (history J)) s.version)
    where
      by_test : (b : Bool) → last_sent (if b then event.Heard d s.version ∷ J else J) ≡ length old.given
      by_test true = last old.given J was.carried
      by_test false = last old.given J was.carried

  each : EachSent (λ n. returned n (history W)) d v H W
  each L n w a to b before version up =
      let sends : MaySend (state_of (history (event.Sent n w a to b ∷ L))) (history L) n w a to (meaning_body L b) = ((legal-down S d v (event.Sent n w a to b ∷ L) W up is.legal).1).permitted in
      let at : ArePlaced new.given (event.Sent n w a to b ∷ L) = placed-down new.given d v (event.Sent n w a to b ∷ L) W up there in
      let known : state_in w (event.Sent n w a to b ∷ L) ≡ Some s = subst (λ (x : ℕ). state_in x (event.Sent n w a to b ∷ L) ≡ Some s) (sym version) (states d v H L before v ∙ published) in
      let member : serves s to ≡ true = sym (serve S (event.Sent n w a to b ∷ L) (legal-down S d v (event.Sent n w a to b ∷ L) W up is.legal) w to s known) ∙ sends.member in
      let running : stopped to (history L) ≡ false = stops d v H L before to ∙ runs to member in
      let new-one : sent n (history L) ≡ None = unsent n (history L) (sent n (history L)) refl sends.greater in
      let taken : receives n n W ≡ true = receives-up new.given d v n (event.Sent n w a to b ∷ L) W up there (omega arith) ∙ receives-own n w a to b L (not-cut n w a to b L new-one running) in
      let low : last_sent H ≤ last_sent L = last-up new.given d v H L before at.1 in
      let high : n ≤ last_sent W = last-up new.given d v (event.Sent n w a to b ∷ L) W up there in
      let first : last_sent H ≡ length old.given = begins in
      let end : last_sent W ≡ length new.given = last new.given W is.carried in
      let next : n ≡ last_sent L + 1 = at.0 in
      let fate : is_returned (fate_of n new.given) ≡ true = u.answered n (omega (arith, low, first, next)) (omega (arith, high, end)) in
      back new.given W is.carried n ∙ ap₂ (λ (x y : Bool). x && y) fate taken

  none-absent : first_absent (λ n. returned n (history W)) (later (length J) W) ≡ None
  none-absent =
      let r : IsAnswered (λ n. returned n (history W)) J W = answered-span (λ n. returned n (history W)) d v J H W W each m.pass Nothing (heard-before (λ n. returned n (history W)) d s J) in
      ap (first_absent (λ n. returned n (history W))) (ap (later (length J)) r.is ∙ behind J r.front) ∙ r.none

  rested : (answer : Upkeep) → IsCause new.given (length J) W answer → answer ≡ Rested
  rested answer cause = rests answer _ _ u.unlate none-absent cause

-- by the answer
pub undisturbed : OfCarried (λ given J. last_sent J ≡ length given)
    → OfCarried (λ given J. (k : ℕ) → returned k (history J) ≡ (is_returned (fate_of k given) && receives k k J))
    → ((S : Setting) (J : Events) → IsLegal S J → (v n : ℕ) (s : ClusterState) → state_in v J ≡ Some s → state_of (history J) v n ≡ serves s n)
    → ((J span : Events) → later (length J) (span ++ J) ≡ span)
    → OfUpkeep (λ J K. (v : ℕ) → state_in v K ≡ state_in v J)
    → OfUpkeep (λ J K. (n : ℕ) → stopped n (history K) ≡ stopped n (history J))
    → (old new : LaneValue) (answer : Upkeep) → IsLaneValue old → IsLaneValue new → IsUpkept old new answer → IsUndisturbed old new → (answer ≡ Rested) ⊎ (answer ≡ NoMemory)
undisturbed last back serve behind states stops old new (Held by) was is h u = absurd (none-first IsAny old.under_way by u.idle h.0)
undisturbed last back serve behind states stops old new NoMemory was is h u = inr refl
undisturbed last back serve behind states stops old new Rested was is h u = inl refl
undisturbed last back serve behind states stops old new (Blocked n) was is h u = inl (rested last back serve behind states stops old new was is h.1 u (Blocked n) h.2)
undisturbed last back serve behind states stops old new (Disturbed n) was is h u = inl (rested last back serve behind states stops old new was is h.1 u (Disturbed n) h.2)
