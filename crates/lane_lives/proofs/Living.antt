-- What the deeds of a lane leave, all together.
use Rattle.std.proofs.Common.{◌≡◌, ◌≢◌, ◌⊎◌, ◌<◌, ◌≤◌, ◌+◌, ℕ, true, List, [], ◌∷◌, ◌++◌, Some, inl, inr, refl, sym, ap, ◌∙◌, subst, arith}
use Rattle.std.specs.Option.{IsSome}
use Rattle.std.proofs.lemmas.Bool.{cases_lt, false≢true}
use Rattle.bucket_ids.specs.Buckets.{Low}
use Rattle.cluster_states.specs.declared.cluster_state.ClusterState.{ClusterState}
use Rattle.lane_journals.specs.Readers.{held, began, closed, before_line}
use Rattle.lane_journals.specs.Meanings.{history}
use Rattle.lane_journals.specs.Places.{published_states}
use Rattle.lane_journals.specs.declared.event.LaneEvent.{LaneEvent}
use Rattle.lane_journals.specs.declared.event.LaneEvent.TheVariants as event
use Rattle.lane_keeping.specs.Lines.{IsFresh}
use Rattle.lane_keeping.specs.Tidings.{announced, stopped_next, started_next, last_state}
use Rattle.lane_lives.specs.declared.setting.Setting.{Setting}
use Rattle.lane_calls.specs.Lines.{Lines, IsNone, last_line, AreRising}
use Rattle.lane_lives.specs.Lives.{Deed, Announces, Stops, Starts, Runs, Feeds, Maintains, Does, IsLife, lines_of, AreAlone, states_in, newest_in, deed_events}
use Rattle.lane_calls.specs.Readings.{told_events}
use Rattle.lane_lives.proofs.FirstEvents.{heard_first}
use Rattle.lane_calls.proofs.OneLine.{IsLine, IsUnbegun, IsEnded, told_line, told_upkeep, passes_announced}
use Rattle.lane_lives.proofs.Deeds.{IsOf, deed_is, pass_or_none}
use Rattle.lane_calls.proofs.Told.{told_announced, told_stopped, told_started, published_told, last_told}
use Rattle.lane_lives.proofs.DeedStates.{states_told, newest_told}
use Rattle.lane_calls.proofs.Steps.{grown-tells, grown-held, grown-fresh}

-- ---- states and nodes

-- the events of states and nodes are those of the deeds
pub events_told : (s : Setting) (lane : Low) (deeds : List Deed) (J : List LaneEvent) → IsLife s lane deeds J → told_events J ≡ deed_events s deeds
events_told s lane [] J life = ap told_events life ∙ told_announced 0 s.initial []
events_told s lane (Announces state deaf ∷ deeds) K life = ap told_events life.1.1 ∙ told_announced deaf state life.0 ∙ ap (λ E. event.Published state ∷ E) (events_told s lane deeds life.0 life.1.0)
events_told s lane (Stops n ∷ deeds) K life = ap told_events life.1.1 ∙ told_stopped n life.0 ∙ ap (stopped_next n) (events_told s lane deeds life.0 life.1.0)
events_told s lane (Starts n ∷ deeds) K life = ap told_events life.1.1 ∙ told_started n life.0 ∙ ap (started_next n) (events_told s lane deeds life.0 life.1.0)
events_told s lane (Runs line ∷ deeds) K life = told_line lane s.rules line line.via life.0 K life.1.1 ∙ events_told s lane deeds life.0 life.1.0
events_told s lane (Feeds feeders lines left ∷ deeds) K life = grown-tells feeders lines lane s.rules life.0 K (life.1.1).grew ∙ events_told s lane deeds life.0 life.1.0
events_told s lane (Maintains noted ∷ deeds) K life = told_upkeep lane life.0 K (pass_or_none lane noted life.0 K life.1.1) ∙ events_told s lane deeds life.0 life.1.0

pub states_published : (s : Setting) (lane : Low) (deeds : List Deed) (J : List LaneEvent) → IsLife s lane deeds J → published_states J ≡ states_in s deeds
states_published s lane deeds J life = sym (published_told J) ∙ ap published_states (events_told s lane deeds J life) ∙ states_told s deeds

-- the state that was published last
pub newest_published : (s : Setting) (lane : Low) (deeds : List Deed) (J : List LaneEvent) → IsLife s lane deeds J → last_state J ≡ Some (newest_in s deeds)
newest_published s lane deeds J life = sym (last_told J) ∙ ap last_state (events_told s lane deeds J life) ∙ newest_told s deeds

-- ---- one deed more

-- its own number, or that of no line
abbrev number_of : Deed → ℕ
number_of (Runs line) = line.number
number_of _ = 0

pub deed_own : (deed : Deed) (deeds : List Deed) → AreAlone (deed ∷ deeds) → IsOf (number_of deed) deed × AreAlone deeds
deed_own (Announces state deaf) deeds alone = (tt, alone)
deed_own (Stops n) deeds alone = (tt, alone)
deed_own (Starts n) deeds alone = (tt, alone)
deed_own (Runs line) deeds alone = (refl, alone)
deed_own (Feeds feeders lines left) deeds alone = absurd alone
deed_own (Maintains noted) deeds alone = (tt, alone)

-- who held a state holds one
heard_on : (s : Setting) (lane : Low) (deed : Deed) (J K : List LaneEvent) → Does s lane deed J K → (d : ℕ) → IsSome (held d (history J)) → IsSome (held d (history K))
heard_on s lane (Announces state deaf) J K does = (deed_is s lane (Announces state deaf) 0 tt J K does).heard
heard_on s lane (Stops n) J K does = (deed_is s lane (Stops n) 0 tt J K does).heard
heard_on s lane (Starts n) J K does = (deed_is s lane (Starts n) 0 tt J K does).heard
heard_on s lane (Runs line) J K does = (deed_is s lane (Runs line) line.number refl J K does).heard
heard_on s lane (Feeds feeders lines left) J K does = λ d some. grown-held feeders lines lane s.rules d J K does.grew some
heard_on s lane (Maintains noted) J K does = (deed_is s lane (Maintains noted) 0 tt J K does).heard

-- each distributor holds a state
pub heard_all : (s : Setting) (lane : Low) (deeds : List Deed) (J : List LaneEvent) → IsLife s lane deeds J → (d : ℕ) → d < 32 → IsSome (held d (history J))
heard_all s lane [] J life d h = subst (λ K. IsSome (held d (history K))) (sym life) (heard_first s.initial d h)
heard_all s lane (deed ∷ deeds) K life d h = heard_on s lane deed life.0 K life.1.1 d (heard_all s lane deeds life.0 life.1.0 d h)

fresh_first : (s : ClusterState) (j : ℕ) → IsFresh (history (announced 0 s [])) j
fresh_first s j = let p = passes_announced 0 s [] in record { unbegun = p.began_is j; unrefused = p.refused_is j; unprepared = p.prepared_is j; unwritten = p.wrote_is j; unclosed = p.closed_is j }

-- a line of another number than the deed is as fresh as before
fresh_after : (n j : ℕ) (J K : List LaneEvent) → IsLine n J K → j ≢ n → IsFresh (history J) j → IsFresh (history K) j
fresh_after n j J K is other old = record {
  unbegun = is.began_is j other ∙ old.unbegun;
  unrefused = is.refused_is j other ∙ old.unrefused;
  unprepared = is.prepared_is j other ∙ old.unprepared;
  unwritten = is.wrote_is j other ∙ old.unwritten;
  unclosed = is.closed_is j other ∙ old.unclosed;
}

-- a deed of no line leaves all lines as they were
other_number : (j : ℕ) → j ≢ j + 1
other_number j e = omega (arith, e)

none_both : (j : ℕ) (lines more : Lines) → IsNone j (lines ++ more) → IsNone j lines × IsNone j more
none_both j [] more none = (tt, none)
none_both j (line ∷ lines) more none = let rest = none_both j lines more none.1 in ((none.0, rest.0), rest.1)

-- a line that didn't ask for anything there has no event
pub others_fresh : (s : Setting) (lane : Low) (deeds : List Deed) (J : List LaneEvent) → IsLife s lane deeds J → (j : ℕ) → IsNone j (lines_of deeds) → IsFresh (history J) j
others_fresh s lane [] J life j none = subst (λ K. IsFresh (history K) j) (sym life) (fresh_first s.initial j)
others_fresh s lane (Announces state deaf ∷ deeds) K life j none = fresh_after (j + 1) j life.0 K (deed_is s lane (Announces state deaf) (j + 1) tt life.0 K life.1.1) (other_number j) (others_fresh s lane deeds life.0 life.1.0 j none)
others_fresh s lane (Stops n ∷ deeds) K life j none = fresh_after (j + 1) j life.0 K (deed_is s lane (Stops n) (j + 1) tt life.0 K life.1.1) (other_number j) (others_fresh s lane deeds life.0 life.1.0 j none)
others_fresh s lane (Starts n ∷ deeds) K life j none = fresh_after (j + 1) j life.0 K (deed_is s lane (Starts n) (j + 1) tt life.0 K life.1.1) (other_number j) (others_fresh s lane deeds life.0 life.1.0 j none)
others_fresh s lane (Maintains noted ∷ deeds) K life j none = fresh_after (j + 1) j life.0 K (deed_is s lane (Maintains noted) (j + 1) tt life.0 K life.1.1) (other_number j) (others_fresh s lane deeds life.0 life.1.0 j none)
others_fresh s lane (Feeds feeders lines left ∷ deeds) K life j none =
    let off = none_both j lines (lines_of deeds) none in
    grown-fresh feeders lines lane s.rules j off.0 life.0 K (life.1.1).grew (others_fresh s lane deeds life.0 life.1.0 j off.1)
others_fresh s lane (Runs line ∷ deeds) K life j none = fresh_after line.number j life.0 K (deed_is s lane (Runs line) line.number refl life.0 K life.1.1) none.0 (others_fresh s lane deeds life.0 life.1.0 j none.1)

-- ---- numbers

pub later_none : (j : ℕ) (lines : Lines) → AreRising lines → last_line lines < j → IsNone j lines
later_none j [] rising h = tt
later_none j (line ∷ lines) rising h = (λ e. absurd (omega (arith, e, h)), later_none j lines rising.1 (omega (arith, h, rising.0)))

-- numbers begin with 1
pub zero_none : (lines : Lines) → AreRising lines → IsNone 0 lines
zero_none [] rising = tt
zero_none (line ∷ lines) rising = (λ e. absurd (omega (arith, e, rising.0)), zero_none lines rising.1)

-- ---- the order of lines

apart : (j n : ℕ) → (j ≡ n) ⊎ (j ≢ n)
apart j n = elim (cases_lt j n) [
  | inl below ↦ inr (λ e. absurd (omega (arith, e, below)))
  | inr above ↦ elim (cases_lt n j) [
    | inl over ↦ inr (λ e. absurd (omega (arith, e, over)))
    | inr under ↦ inl (omega (arith, above, under))
  ]
]

pub begun_before : (s : Setting) (lane : Low) (deeds : List Deed) (J : List LaneEvent) → IsLife s lane deeds J → AreRising (lines_of deeds) → (j : ℕ) → IsSome (began j (history J)) → j ≤ last_line (lines_of deeds)
begun_before s lane deeds J life rising j h = elim (cases_lt (last_line (lines_of deeds)) j) [
  | inl later ↦ absurd (false≢true (subst IsSome ((others_fresh s lane deeds J life j (later_none j (lines_of deeds) rising later)).unbegun) h))
  | inr within ↦ omega (arith, within)
]

-- after one line more each line that began is closed
closed_after : (n : ℕ) (J K : List LaneEvent) → IsLine n J K → ((j : ℕ) → IsSome (began j (history J)) → closed j (history J) ≡ true) → (j : ℕ) → IsSome (began j (history K)) → closed j (history K) ≡ true
closed_after n J K is before j h = elim (apart j n) [
  | inl own ↦ subst (λ i. closed i (history K) ≡ true) (sym own) (by_own is.own (subst (λ i. IsSome (began i (history K))) own h))
  | inr other ↦ is.closed_is j other ∙ before j (subst IsSome (is.began_is j other) h)
]
  where
    by_own : IsUnbegun n J K ⊎ IsEnded n J K → IsSome (began n (history K)) → closed n (history K) ≡ true
    by_own (inl u) h = u.closed_is ∙ before n (subst IsSome u.began_is h)
    by_own (inr e) h = e.closed_is

-- where no feeders are, each line that began is closed
pub begun_closed : (s : Setting) (lane : Low) (deeds : List Deed) (J : List LaneEvent) → IsLife s lane deeds J → AreAlone deeds → (j : ℕ) → IsSome (began j (history J)) → closed j (history J) ≡ true
begun_closed s lane [] J life alone j h = absurd (false≢true (subst IsSome (ap (λ K. began j (history K)) life ∙ (fresh_first s.initial j).unbegun) h))
begun_closed s lane (deed ∷ deeds) K life alone j h =
    let own = deed_own deed deeds alone in
    closed_after (number_of deed) life.0 K (deed_is s lane deed (number_of deed) own.0 life.0 K life.1.1) (λ i some. begun_closed s lane deeds life.0 life.1.0 own.1 i some) j h

-- of two lines that began the earlier was closed as the later began
abbrev InOrder : List LaneEvent → Type 0
InOrder J = (earlier later : ℕ) → earlier < later → IsSome (began earlier (history J)) → IsSome (began later (history J)) → closed earlier (before_line later (history J)) ≡ true

-- after a deed of no line, or a line that comes after those that began
order_after : (n : ℕ) (J K : List LaneEvent) → IsLine n J K → ((j : ℕ) → IsSome (began j (history J)) → j < n) → ((j : ℕ) → IsSome (began j (history J)) → closed j (history J) ≡ true) → InOrder J → InOrder K
order_after n J K is low all order earlier later early a b = elim (apart later n) [
  | inl own ↦
      let not_own : earlier ≢ n = (λ e. absurd (omega (arith, e, early, own))) in
      let was : IsSome (began earlier (history J)) = subst IsSome (is.began_is earlier not_own) a in
      subst (λ i. closed earlier (before_line i (history K)) ≡ true) (sym own) (by_own was is.own (subst (λ i. IsSome (began i (history K))) own b))
  | inr other ↦
      let then : IsSome (began later (history J)) = subst IsSome (is.began_is later other) b in
      let below : later < n = low later then in
      let not_own : earlier ≢ n = (λ e. absurd (omega (arith, e, early, below))) in
      ap (closed earlier) (is.before_is later other) ∙ order earlier later early (subst IsSome (is.began_is earlier not_own) a) then
]
  where
    by_own : IsSome (began earlier (history J)) → IsUnbegun n J K ⊎ IsEnded n J K → IsSome (began n (history K)) → closed earlier (before_line n (history K)) ≡ true
    by_own was (inl u) h = let old : n < n = low n (subst IsSome u.began_is h) in absurd (omega (arith, old))
    by_own was (inr e) h = e.before earlier ∙ all earlier was

-- a number above all that began
above : (s : Setting) (lane : Low) (deeds : List Deed) (J : List LaneEvent) → IsLife s lane deeds J → AreRising (lines_of deeds) → (n : ℕ) → last_line (lines_of deeds) < n → (j : ℕ) → IsSome (began j (history J)) → j < n
above s lane deeds J life rising n later j h = let low : j ≤ last_line (lines_of deeds) = begun_before s lane deeds J life rising j h in omega (arith, low, later)

-- a deed of no line; its number may be any
by_other : (s : Setting) (lane : Low) (deed : Deed) (deeds : List Deed) (K : List LaneEvent) (life : IsLife s lane (deed ∷ deeds) K) → IsOf (last_line (lines_of deeds) + 1) deed → AreAlone deeds → AreRising (lines_of deeds) → InOrder life.0 → InOrder K
by_other s lane deed deeds K life of alone rising order =
    let n = last_line (lines_of deeds) + 1 in
    order_after n life.0 K (deed_is s lane deed n of life.0 K life.1.1) (λ j h. above s lane deeds life.0 life.1.0 rising n (omega arith) j h)
    (λ j h. begun_closed s lane deeds life.0 life.1.0 alone j h) order

ordered : (s : Setting) (lane : Low) (deeds : List Deed) (J : List LaneEvent) → IsLife s lane deeds J → AreAlone deeds → AreRising (lines_of deeds) → InOrder J
ordered s lane [] J life alone rising = λ earlier later early a b. absurd (false≢true (subst IsSome (ap (λ K. began later (history K)) life ∙ (fresh_first s.initial later).unbegun) b))
ordered s lane (Announces state deaf ∷ deeds) K life alone rising = by_other s lane (Announces state deaf) deeds K life tt alone rising (ordered s lane deeds life.0 life.1.0 alone rising)
ordered s lane (Stops n ∷ deeds) K life alone rising = by_other s lane (Stops n) deeds K life tt alone rising (ordered s lane deeds life.0 life.1.0 alone rising)
ordered s lane (Starts n ∷ deeds) K life alone rising = by_other s lane (Starts n) deeds K life tt alone rising (ordered s lane deeds life.0 life.1.0 alone rising)
ordered s lane (Feeds feeders lines left ∷ deeds) K life alone rising = absurd alone
ordered s lane (Maintains noted ∷ deeds) K life alone rising = by_other s lane (Maintains noted) deeds K life tt alone rising (ordered s lane deeds life.0 life.1.0 alone rising)
ordered s lane (Runs line ∷ deeds) K life alone rising =
    order_after line.number life.0 K (deed_is s lane (Runs line) line.number refl life.0 K life.1.1) (λ j h. above s lane deeds life.0 life.1.0 rising.1 line.number rising.0 j h)
    (λ j h. begun_closed s lane deeds life.0 life.1.0 alone j h) (ordered s lane deeds life.0 life.1.0 alone rising.1)

pub in_order : (s : Setting) (lane : Low) (deeds : List Deed) (J : List LaneEvent) → IsLife s lane deeds J → AreAlone deeds → AreRising (lines_of deeds) → (earlier line : ℕ) → earlier < line
    → IsSome (began earlier (history J)) → IsSome (began line (history J)) → closed earlier (before_line line (history J)) ≡ true
in_order s lane deeds J life alone rising = ordered s lane deeds J life alone rising
