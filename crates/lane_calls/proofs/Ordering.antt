-- Which lines the events of a segment are of, and in which order these begin.
use Rattle.std.proofs.Common.{◌≡◌, ◌≢◌, ◌<◌, ◌≤◌, ◌/◌, ◌%◌, ◌^◌, ℕ, zero, suc, List, [], ◌∷◌, ◌++◌, length, Some, IsSome, sym, ap, ◌∙◌, subst, slice_get}
use Rattle.bucket_ids.specs.Buckets.{Low}
use Rattle.distributor_part.specs.declared.rules.Rules.{Rules}
use Rattle.messages.specs.declared.outcome.Outcome.{Outcome}
use Rattle.messages.specs.declared.outcome.Outcome.TheVariants.{OwnedElsewhere}
use Rattle.messages.specs.declared.decision.Decision.TheVariants.{RoundEnded}
use Rattle.proof_basics.proofs.Options.{some_same, none_some}
use Rattle.lane_journals.specs.Buckets.{Id, key_of}
use Rattle.lane_journals.specs.declared.event.LaneEvent.{LaneEvent}
use Rattle.lane_journals.specs.declared.event.LaneEvent.TheVariants as event
use Rattle.lane_keeping.specs.Lines.{IsNotOf}
use Rattle.operation_keeping.specs.Wants.{IsCarriage}
use Rattle.lane_calls.specs.Lines.{FeedLine, Lines, IsNone}
use Rattle.lane_calls.specs.Readings.{outcome_in}
use Rattle.lane_calls.proofs.Quiet.{AddsFor, since_adds}
use Rattle.lane_calls.specs.Segments.{feeder_of, IsAmong, AreApart, IsNext}
use Rattle.lane_calls.specs.Courses.{HasEnded}
use Rattle.lane_calls.specs.Growth.{IsStep, Hears, Begins, Refuses, Wants, CutsOff, Closes, Carries, Grows}
use Rattle.lane_calls.specs.LineEvents.{StartsLine}
use Rattle.lane_calls.proofs.Growing.{grows-steps}

-- ---- what begins a line

adds-none : (line n : ℕ) (e : LaneEvent) → AddsFor line e → StartsLine n e → ⊥
adds-none line n (event.Begun l d v id stamp) h s = absurd h
adds-none line n (event.Refused l d outcome) h s = absurd h
adds-none line n _ h s = absurd s

carries-none : (n : ℕ) (e : LaneEvent) → IsCarriage e → StartsLine n e → ⊥
carries-none n (event.Begun l d v id stamp) h s = absurd h
carries-none n (event.Refused l d outcome) h s = absurd h
carries-none n _ h s = absurd s

-- the line that begins is one of these, and it has its turn
record StartOf (feeders : ℕ) (lines : Lines) (J : List LaneEvent) (n : ℕ) : Type 0 where
  line : FeedLine
  next : IsNext feeders lines line J
  number_is : line.number ≡ n

module _ (feeders : ℕ) (lines : Lines) (lane : Low) (rules : Rules) (J : List LaneEvent) (e : LaneEvent) where
  starts : (n : ℕ) → IsStep feeders lines lane rules J e → StartsLine n e → StartOf feeders lines J n
  starts n (Hears h) s = absurd (subst (StartsLine n) h.event s)
  starts n (Begins line next b) s = record { line = line; next = next; number_is = subst (StartsLine n) b.event s }
  starts n (Refuses line next r) s =
      let f = r.refused in
      let is : e ≡ event.Refused line.number r.distributor (OwnedElsewhere f.owner (r.state).version) = (let h = f.refused in cc) in
      record { line = line; next = next; number_is = subst (StartsLine n) is s }
  starts n (Wants line among w) s = absurd (adds-none line.number n e (since_adds lane rules line.number line.operation _ e J w.wants) s)
  starts n (CutsOff c) s =
      let is : e ≡ event.Decided c.distributor (c.state).version (RoundEnded (c.round).row (c.round).holders) = (let h = c.ended in cc) in
      absurd (subst (StartsLine n) is s)
  starts n (Closes line among c) s = absurd (subst (StartsLine n) c.event s)
  starts n (Carries c) s = absurd (carries-none n e c s)

-- ---- lines in order

in-order : (feeders : ℕ) (lines : Lines) (lane : Low) (rules : Rules) (J K : List LaneEvent) → AreApart lines → Grows feeders lines lane rules J K
    → (earlier line : FeedLine) → IsAmong lines earlier → IsAmong lines line → feeder_of feeders earlier ≡ feeder_of feeders line → earlier.number < line.number
    → (after : List LaneEvent) (e : LaneEvent) (before : List LaneEvent) → K ≡ after ++ e ∷ before → length J ≤ length before → StartsLine line.number e → IsSome (outcome_in earlier.number before)
in-order feeders lines lane rules J K apart grew earlier line in_earlier in_line same less after e before is le start =
    let s = starts feeders lines lane rules before e line.number (grows-steps feeders lines lane rules J K grew after e before is le) start in
    let one : s.line ≡ line = apart s.line line (s.next).among in_line s.number_is in
    (s.next).turn earlier in_earlier (same ∙ ap (feeder_of feeders) (sym one)) (subst (λ (k : ℕ). earlier.number < k) (sym s.number_is) less)

pub feeders-in-order : (feeders : ℕ) (lines : Lines) (lane : Low) (rules : Rules) (J K : List LaneEvent) → AreApart lines → Grows feeders lines lane rules J K
    → (earlier line : FeedLine) → IsAmong lines earlier → IsAmong lines line → feeder_of feeders earlier ≡ feeder_of feeders line → earlier.number < line.number
    → (after : List LaneEvent) (e : LaneEvent) (before : List LaneEvent) → K ≡ after ++ e ∷ before → length J ≤ length before → StartsLine line.number e → IsSome (outcome_in earlier.number before)
feeders-in-order = in-order

pub documents-in-order : (feeders : ℕ) (lines : Lines) (lane : Low) (rules : Rules) (J K : List LaneEvent) → AreApart lines → Grows feeders lines lane rules J K
    → (earlier line : FeedLine) → IsAmong lines earlier → IsAmong lines line → earlier.operation.id ≡ line.operation.id → earlier.number < line.number
    → (after : List LaneEvent) (e : LaneEvent) (before : List LaneEvent) → K ≡ after ++ e ∷ before → length J ≤ length before → StartsLine line.number e → IsSome (outcome_in earlier.number before)
documents-in-order feeders lines lane rules J K apart grew earlier line in_earlier in_line same =
    in-order feeders lines lane rules J K apart grew earlier line in_earlier in_line (ap (λ (id : Id). (key_of id / 2 ^ 32) % feeders) same)

-- ---- how lines end

module _ (feeders : ℕ) (lines : Lines) (lane : Low) (rules : Rules) where
  -- the line that is closed so
  abbrev ClosedSo : List LaneEvent → ℕ → Outcome → Type 0
  ClosedSo J n x = (line : FeedLine) × IsAmong lines line × (line.number ≡ n) × HasEnded lane rules line J x

  closed-so : (J : List LaneEvent) (n : ℕ) (x : Outcome) → IsStep feeders lines lane rules J (event.Closed n x) → ClosedSo J n x
  closed-so J n x (Hears h) = absurd (let e = h.event in cc)
  closed-so J n x (Begins line next b) = absurd (let e = b.event in cc)
  closed-so J n x (Refuses line next r) = absurd (let f = r.refused in let e = f.refused in cc)
  closed-so J n x (Wants line among w) = absurd (since_adds lane rules line.number line.operation _ (event.Closed n x) J w.wants)
  closed-so J n x (CutsOff c) = absurd (let e = c.ended in cc)
  closed-so J n x (Closes line among c) =
      let number : line.number ≡ n = (let e = c.event in cc) in
      let outcome : c.outcome ≡ x = (let e = c.event in cc) in
      (line, among, number, subst (HasEnded lane rules line J) outcome c.ended)
  closed-so J n x (Carries c) = absurd c

  pub closed-courses : (J K : List LaneEvent) → Grows feeders lines lane rules J K → (after : List LaneEvent) (n : ℕ) (x : Outcome) (before : List LaneEvent) → K ≡ after ++ event.Closed n x ∷ before → length J ≤ length before → ClosedSo before n x
  closed-courses J K grew after n x before is le = closed-so before n x (grows-steps feeders lines lane rules J K grew after (event.Closed n x) before is le)

-- ---- other lines

none-among : (n : ℕ) (lines : Lines) (line : FeedLine) (place : ℕ) → IsNone n lines → slice_get lines place ≡ Some line → line.number ≢ n
none-among n [] line place none at = absurd (none_some line at)
none-among n (l ∷ lines) line zero none at = λ same. none.0 (sym same ∙ ap (λ (x : FeedLine). x.number) (sym (some_same l line at)))
none-among n (l ∷ lines) line (suc place) none at = none-among n lines line place none.1 at

pub adds-not : (line n : ℕ) (e : LaneEvent) → line ≢ n → AddsFor line e → IsNotOf n e
adds-not line n (event.Begun l d v id stamp) off h = absurd h
adds-not line n (event.Refused l d outcome) off h = absurd h
adds-not line n (event.Closed l outcome) off h = absurd h
adds-not line n (event.Prepared l b set) off h = λ same. off (sym h ∙ same)
adds-not line n (event.Wrote l entry) off h = λ same. off (sym h ∙ same)
adds-not line n _ off h = tt

pub carries-not : (n : ℕ) (e : LaneEvent) → IsCarriage e → IsNotOf n e
carries-not n (event.Delivered k r) h = tt
carries-not n (event.Returned k) h = tt
carries-not n _ h = absurd h

module _ (feeders : ℕ) (lines : Lines) (lane : Low) (rules : Rules) (n : ℕ) (none : IsNone n lines) where
  off : (line : FeedLine) → IsAmong lines line → line.number ≢ n
  off line among = none-among n lines line among.0 none among.1

  pub not-of : (J : List LaneEvent) (e : LaneEvent) → IsStep feeders lines lane rules J e → IsNotOf n e
  not-of J e (Hears h) = subst (IsNotOf n) (sym h.event) tt
  not-of J e (Begins line next b) = subst (IsNotOf n) (sym b.event) (off line next.among)
  not-of J e (Refuses line next r) =
      let f = r.refused in
      let is : e ≡ event.Refused line.number r.distributor (OwnedElsewhere f.owner (r.state).version) = (let h = f.refused in cc) in
      subst (IsNotOf n) (sym is) (off line next.among)
  not-of J e (Wants line among w) = adds-not line.number n e (off line among) (since_adds lane rules line.number line.operation _ e J w.wants)
  not-of J e (CutsOff c) =
      let is : e ≡ event.Decided c.distributor (c.state).version (RoundEnded (c.round).row (c.round).holders) = (let h = c.ended in cc) in
      subst (IsNotOf n) (sym is) tt
  not-of J e (Closes line among c) = subst (IsNotOf n) (sym c.event) (off line among)
  not-of J e (Carries c) = carries-not n e c

  pub others-none : (J K : List LaneEvent) → Grows feeders lines lane rules J K → (after : List LaneEvent) (e : LaneEvent) (before : List LaneEvent) → K ≡ after ++ e ∷ before → length J ≤ length before → IsNotOf n e
  others-none J K grew after e before is le = not-of before e (grows-steps feeders lines lane rules J K grew after e before is le)
