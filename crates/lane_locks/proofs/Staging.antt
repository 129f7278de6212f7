-- How far the lines are after a call for one of them.
use Rattle.std.proofs.Common.{◌≡◌, ◌≢◌, ◌⊎◌, ◌<◌, ℕ, zero, suc, true, false, List, Option, None, Some, IsSome, is_some, inl, inr, refl, sym, ap, ◌∙◌, subst, slice_get, slice_set, arith}
use Rattle.messages.specs.declared.outcome.Outcome.{Outcome}
use Rattle.lane_journals.specs.Readers.{began, closed}
use Rattle.lane_journals.specs.Meanings.{history}
use Rattle.lane_keeping.specs.Lines.{IsFresh}
use Rattle.lane_keeping.specs.LaneKeeping.{setting_of}
use Rattle.lane_calls.specs.declared.answers.Begin.{Begin}
use Rattle.lane_calls.specs.declared.answers.Begin.TheVariants as begin
use Rattle.lane_calls.specs.declared.answers.Advance.{Advance}
use Rattle.lane_calls.specs.declared.answers.Advance.TheVariants as advance
use Rattle.lane_calls.specs.declared.progress.UnderWay.{UnderWay}
use Rattle.lane_calls.specs.LaneValues.{LaneValue, IsLaneValue, IsPlace, WantsMore, WantsEnd, MayAdvance, MayClose, Closes}
use Rattle.lane_calls.specs.Lines.{FeedLine, Lines}
use Rattle.lane_calls.specs.Readings.{outcome_in}
use Rattle.lane_calls.proofs.OneLine.{unended_none, fresh_none, outcome_own, outcome_refused}
use Rattle.lane_core.specs.Advancing.{IsAdvance}
use Rattle.lane_core.proofs.Places.{get-one, get-set-cases, set-length}
use Rattle.lane_calls.specs.Segments.{HasTurn, IsNext, BeginsAs, IsSegment}
use Rattle.lane_calls.proofs.Answering.{unrefused}
use Rattle.lane_calls.proofs.Calling.{segment-holds, segment-goes}
use Rattle.lane_locks.specs.declared.lines.Line.{Line}
use Rattle.lane_locks.specs.declared.lines.Stage.{Stage}
use Rattle.lane_locks.specs.declared.lines.Stage.TheVariants.{Waiting, Going, Ending, Answered}
use Rattle.lane_locks.specs.Lines.{line_of, AreLines}
use Rattle.lane_locks.specs.Served.{StageIs, HasStarted, AreStages, IsRunSoFar}
use Rattle.lane_locks.specs.Turns.{stages_begun, stages_gone}
use Rattle.lane_locks.proofs.Calls.{begin-call, advance-call, close-call}
use Rattle.lane_locks.proofs.Sparing.{such-new, such-here, Outcomes, Spares, begin-spares, advance-spares, close-spares, begin-outcomes, advance-outcomes, close-outcomes}

-- ---- the line's own stage

pub begun-stage : (line : FeedLine) (via : Option ℕ) (v w : LaneValue) → BeginsAs line via v w begin.Begun → MayAdvance line.number w.under_way
begun-stage line None v w b = subst (MayAdvance line.number) (sym (ap (λ (x : LaneValue). x.under_way) b.after)) (such-new WantsMore line.number v.under_way _ refl tt)
begun-stage line (Some d) v w b = subst (MayAdvance line.number) (sym (ap (λ (x : LaneValue). x.under_way) b.after)) (such-new WantsMore line.number v.under_way _ refl tt)

refused-stage : (line : FeedLine) (via : Option ℕ) (x : Outcome) (v w : LaneValue) → IsFresh (history v.journal) line.number → BeginsAs line via v w (begin.Refused x) → outcome_in line.number w.journal ≡ Some x
refused-stage line None x v w fresh b = absurd b
refused-stage line (Some d) x v w fresh b = ap (λ (y : LaneValue). outcome_in line.number y.journal) b.after ∙ outcome_refused line.number d x v.journal (fresh_none line.number v.journal fresh)

pub more-stage : (n : ℕ) (v w : LaneValue) → IsAdvance n v w advance.More → MayAdvance n w.under_way
more-stage n v w a = subst (MayAdvance n) (sym (ap (λ (x : LaneValue). x.under_way) ((a.advances).0).after)) (such-here WantsMore n v.under_way a.at a.operation _ (a.place).found (a.place).line_is tt)

pub done-stage : (n : ℕ) (v w : LaneValue) → IsAdvance n v w advance.Done → MayClose n w.under_way
done-stage n v w a = subst (MayClose n) (sym (ap (λ (x : LaneValue). x.under_way) ((a.advances).1).after)) (such-here WantsEnd n v.under_way a.at a.operation _ (a.place).found (a.place).line_is tt)

pub short-stage : (n : ℕ) (v w : LaneValue) → IsAdvance n v w advance.NoMemory → MayClose n w.under_way
short-stage n v w a = subst (MayClose n) (sym (ap (λ (x : LaneValue). x.under_way) (a.advances).after)) (such-here WantsEnd n v.under_way a.at a.operation _ (a.place).found (a.place).line_is tt)

some-of : {A : Type 0} (o : Option A) → IsSome o → (x : A) × (o ≡ Some x)
some-of None h = absurd (let clash : false ≡ true = h in cc)
some-of (Some x) h = (x, refl)

-- what is under way has no outcome
pub under-way-none : (v : LaneValue) → IsLaneValue v → (n at : ℕ) (u : UnderWay) → IsPlace n v.under_way at u → outcome_in n v.journal ≡ None
under-way-none v holds n at u place =
    let un = (holds.lines).unclosed at u place.found in
    let is = place.line_is in
    let b = some-of (began n (history v.journal)) (subst (λ (k : ℕ). IsSome (began k (history v.journal))) is un.0) in
    unended_none n v.journal (subst (λ (k : ℕ). closed k (history v.journal) ≡ false) is un.1) (unrefused (setting_of v.lane v.rules) n v.journal holds.legal b.0 b.1)

-- nor is it fresh
pub under-way-known : (v : LaneValue) → IsLaneValue v → (n at : ℕ) (u : UnderWay) → IsPlace n v.under_way at u → IsFresh (history v.journal) n → ⊥
under-way-known v holds n at u place fresh =
    let un = (holds.lines).unclosed at u place.found in
    let some : IsSome (began n (history v.journal)) = subst (λ (k : ℕ). IsSome (began k (history v.journal))) place.line_is un.0 in
    let none : is_some (began n (history v.journal)) ≡ false = ap is_some fresh.unbegun in
    let clash : true ≡ false = sym some ∙ none in cc

closed-stage : (n : ℕ) (x : Outcome) (v w : LaneValue) → IsLaneValue v → Closes n x v w → outcome_in n w.journal ≡ Some x
closed-stage n x v w holds c = ap (λ (y : LaneValue). outcome_in n y.journal) c.after ∙ outcome_own n x v.journal (under-way-none v holds n c.at c.operation c.place)

-- ---- all lines

spared : (n : ℕ) (s : Stage) (v w : LaneValue) → Spares n v w → Outcomes v.journal w.journal → StageIs v n s → StageIs w n s
spared n Waiting v w p o h = p.fresh h
spared n Going v w p o h = p.advances h
spared n Ending v w p o h = p.closes h
spared n (Answered x) v w p o h = o n x h

module _ (feeders : ℕ) (lines : Lines) (ls : List Line) (are : AreLines feeders ls) (v : LaneValue) (stages : List Stage) (k : AreStages feeders lines v ls stages) where
  turn-stays : (w : LaneValue) → Outcomes v.journal w.journal → (line : FeedLine) → HasTurn feeders lines line v.journal → HasTurn feeders lines line w.journal
  turn-stays w o line h = λ other among same less.
      let s = some-of (outcome_in other.number v.journal) (h other among same less) in
      subst IsSome (sym (o other.number s.0 s.1)) refl

  -- lines of different places have different numbers
  pub apart : (a b : ℕ) (l m : Line) → slice_get ls a ≡ Some l → slice_get ls b ≡ Some m → a ≢ b → m.number ≢ l.number
  apart a b l m at_a at_b off same = elim (nat-order a b off) [
    | inl less ↦ (let r = are.rising a b l m at_a at_b less in omega (arith, r, same))
    | inr more ↦ (let r = are.rising b a m l at_b at_a more in omega (arith, r, same))
  ]
    where
      nat-order : (a b : ℕ) → a ≢ b → (a < b) ⊎ (b < a)
      nat-order zero zero off = absurd (off refl)
      nat-order zero (suc b) off = inl (omega arith)
      nat-order (suc a) zero off = inr (omega arith)
      nat-order (suc a) (suc b) off = elim (nat-order a b (λ e. off (ap suc e))) [ inl less ↦ inl (omega (arith, less)) | inr more ↦ inr (omega (arith, more)) ]

  module _ (place : ℕ) (l : Line) (found : slice_get ls place ≡ Some l) (w : LaneValue) (spares : (n : ℕ) → n ≢ l.number → Spares n v w) (outcomes : Outcomes v.journal w.journal) where
    -- its stage is the same
    pub stages-stay : ((s : Stage) → slice_get stages place ≡ Some s → StageIs w l.number s) → AreStages feeders lines w ls stages
    stages-stay own = record { many = k.many; each = each; turns = λ at m s got at_s started. turn-stays w outcomes (line_of m) (k.turns at m s got at_s started) }
      where
        each : (at : ℕ) (m : Line) (s : Stage) → slice_get ls at ≡ Some m → slice_get stages at ≡ Some s → StageIs w m.number s
        each at m s got at_s = elim (nat-same at place) [
          | inl here ↦ (let same : m ≡ l = get-one ls place m l (subst (λ (i : ℕ). slice_get ls i ≡ Some m) here got) found in
              subst (λ (z : Line). StageIs w z.number s) (sym same) (own s (subst (λ (i : ℕ). slice_get stages i ≡ Some s) here at_s)))
          | inr off ↦ spared m.number s v w (spares m.number (apart place at l m found got (λ e. off (sym e)))) outcomes (k.each at m s got at_s)
        ]
          where
            nat-same : (a b : ℕ) → (a ≡ b) ⊎ (a ≢ b)
            nat-same zero zero = inl refl
            nat-same zero (suc b) = inr (λ e. (let f : zero ≡ suc b = e in cc))
            nat-same (suc a) zero = inr (λ e. (let f : suc a ≡ zero = e in cc))
            nat-same (suc a) (suc b) = elim (nat-same a b) [ inl e ↦ inl (ap suc e) | inr off ↦ inr (λ e. off (let f : suc a ≡ suc b = e in cc)) ]

    -- or it comes to another, in its turn
    pub stages-go : (now : Stage) → StageIs w l.number now → HasTurn feeders lines (line_of l) v.journal → AreStages feeders lines w ls (slice_set stages place now)
    stages-go now own turn = record { many = set-length stages place now ∙ k.many; each = each; turns = turns }
      where
        same-line : (at : ℕ) (m : Line) → slice_get ls at ≡ Some m → at ≡ place → m ≡ l
        same-line at m got here = get-one ls place m l (subst (λ (i : ℕ). slice_get ls i ≡ Some m) here got) found

        each : (at : ℕ) (m : Line) (s : Stage) → slice_get ls at ≡ Some m → slice_get (slice_set stages place now) at ≡ Some s → StageIs w m.number s
        each at m s got at_s = elim (get-set-cases stages place at now s at_s) [
          | inl here ↦ subst (λ (z : Line). StageIs w z.number s) (sym (same-line at m got here.0)) (subst (StageIs w l.number) (sym here.1) own)
          | inr off ↦ spared m.number s v w (spares m.number (apart place at l m found got (λ e. off.0 (sym e)))) outcomes (k.each at m s got off.1)
        ]

        turns : (at : ℕ) (m : Line) (s : Stage) → slice_get ls at ≡ Some m → slice_get (slice_set stages place now) at ≡ Some s → HasStarted s → HasTurn feeders lines (line_of m) w.journal
        turns at m s got at_s started = elim (get-set-cases stages place at now s at_s) [
          | inl here ↦ subst (λ (z : Line). HasTurn feeders lines (line_of z) w.journal) (sym (same-line at m got here.0)) (turn-stays w outcomes (line_of l) turn)
          | inr off ↦ turn-stays w outcomes (line_of m) (k.turns at m s got off.1 started)
        ]

-- ---- what was served

module _ (feeders : ℕ) (lines : Lines) (first v : LaneValue) (ls : List Line) (stages : List Stage) (are : AreLines feeders ls) (k : IsRunSoFar feeders lines first v ls stages) where
  same-served : (w : LaneValue) → w ≡ v → IsRunSoFar feeders lines first w ls stages
  same-served w e = subst (λ (z : LaneValue). IsRunSoFar feeders lines first z ls stages) (sym e) k

  pub begun-served : (place : ℕ) (l : Line) (w : LaneValue) (answer : Begin) → slice_get ls place ≡ Some l → IsNext feeders lines (line_of l) v.journal → BeginsAs (line_of l) l.via v w answer → IsLaneValue w
      → IsRunSoFar feeders lines first w ls (stages_begun place answer stages)
  begun-served place l w answer found next b now = record { segment = goes; stages_are = by answer b }
    where
      goes : IsSegment feeders lines first w
      goes = segment-goes feeders lines first v k.segment w (begin-call feeders lines v w (line_of l) l.via answer refl next b) now

      by : (a : Begin) → BeginsAs (line_of l) l.via v w a → AreStages feeders lines w ls (stages_begun place a stages)
      by begin.Begun b = stages-go feeders lines ls are v stages k.stages_are place l found w (λ n off. begin-spares n (line_of l) v w begin.Begun off b) (begin-outcomes (line_of l) v w begin.Begun b) Going (begun-stage (line_of l) l.via v w b) next.turn
      by (begin.Refused x) b = stages-go feeders lines ls are v stages k.stages_are place l found w (λ n off. begin-spares n (line_of l) v w (begin.Refused x) off b) (begin-outcomes (line_of l) v w (begin.Refused x) b) (Answered x)
          (refused-stage (line_of l) l.via x v w next.fresh b) next.turn
      by (begin.Held y) b = subst (λ (z : LaneValue). AreStages feeders lines z ls stages) (sym (held-same l.via b)) k.stages_are
        where
          held-same : (via : Option ℕ) → BeginsAs (line_of l) via v w (begin.Held y) → w ≡ v
          held-same None b = b.same
          held-same (Some d) b = b.same
      by begin.NoMemory b = subst (λ (z : LaneValue). AreStages feeders lines z ls stages) (sym (short-same l.via b)) k.stages_are
        where
          short-same : (via : Option ℕ) → BeginsAs (line_of l) via v w begin.NoMemory → w ≡ v
          short-same None b = b
          short-same (Some d) b = b

  -- it had its turn
  turn-of : (place : ℕ) (l : Line) (s : Stage) → slice_get ls place ≡ Some l → slice_get stages place ≡ Some s → HasStarted s → HasTurn feeders lines (line_of l) v.journal
  turn-of place l s found at started = (k.stages_are).turns place l s found at started

  pub gone-served : (place : ℕ) (l : Line) (w : LaneValue) (answer : Advance) → slice_get ls place ≡ Some l → slice_get stages place ≡ Some Going → IsAdvance l.number v w answer → IsLaneValue w
      → IsRunSoFar feeders lines first w ls (stages_gone place answer stages)
  gone-served place l w answer found going a now = record { segment = segment-goes feeders lines first v k.segment w (advance-call feeders lines v w l.number answer a) now; stages_are = by answer a }
    where
      turn : HasTurn feeders lines (line_of l) v.journal
      turn = turn-of place l Going found going tt

      by : (b : Advance) → IsAdvance l.number v w b → AreStages feeders lines w ls (stages_gone place b stages)
      by advance.More a = stages-stay feeders lines ls are v stages k.stages_are place l found w (λ n off. advance-spares n l.number v w advance.More off a) (advance-outcomes l.number v w advance.More a)
          (λ s at. subst (StageIs w l.number) (get-one stages place Going s going at) (more-stage l.number v w a))
      by (advance.Waits y) a = subst (λ (z : LaneValue). AreStages feeders lines z ls stages) (sym (a.advances).1) k.stages_are
      by advance.Done a = stages-go feeders lines ls are v stages k.stages_are place l found w (λ n off. advance-spares n l.number v w advance.Done off a) (advance-outcomes l.number v w advance.Done a) Ending (done-stage l.number v w a) turn
      by advance.NoMemory a = stages-go feeders lines ls are v stages k.stages_are place l found w (λ n off. advance-spares n l.number v w advance.NoMemory off a) (advance-outcomes l.number v w advance.NoMemory a) Ending (short-stage l.number v w a) turn

  pub closed-served : (place : ℕ) (l : Line) (w : LaneValue) (x : Outcome) → slice_get ls place ≡ Some l → slice_get stages place ≡ Some Ending → Closes l.number x v w → IsLaneValue w
      → IsRunSoFar feeders lines first w ls (slice_set stages place (Answered x))
  closed-served place l w x found ending c now = record {
    segment = segment-goes feeders lines first v k.segment w (close-call feeders lines v w l.number x c) now;
    stages_are = stages-go feeders lines ls are v stages k.stages_are place l found w (λ n off. close-spares n l.number x v w off c) (close-outcomes l.number x v w c) (Answered x)
        (closed-stage l.number x v w (segment-holds feeders lines first v k.segment) c) (turn-of place l Ending found ending tt);
  }
