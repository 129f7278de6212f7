-- A line begins once each line of an earlier deed has its outcome.
use Rattle.std.proofs.Common.{◌≡◌, ◌==◌, ◌⊎◌, ◌<◌, ℕ, zero, suc, Bool, true, false, List, [], ◌∷◌, ◌++◌, length, Option, None, Some, is_some, inl, inr, refl, sym, ap, ◌∙◌, subst, slice_get, if◌then◌else◌, arith}
use Rattle.std.specs.Option.{IsSome}
use Rattle.std.proofs.lemmas.Bool.{cases_lt}
use Rattle.std.proofs.lemmas.Bool.Decides.{nat_tests}
use Rattle.std.proofs.lemmas.List.{append_assoc}
use Rattle.proof_basics.proofs.Options.{none_some}
use Rattle.bucket_ids.specs.Buckets.{Low}
use Rattle.distributor_part.specs.declared.rules.Rules.{Rules}
use Rattle.messages.specs.declared.outcome.Outcome.{Outcome}
use Rattle.lane_journals.specs.Readers.{Beginning, or_else, only_if, began, refused}
use Rattle.lane_journals.specs.Meanings.{history}
use Rattle.lane_journals.specs.declared.event.LaneEvent.{LaneEvent}
use Rattle.lane_journals.specs.declared.event.LaneEvent.TheVariants as event
use Rattle.lane_keeping.specs.Lines.{IsFresh}
use Rattle.lane_calls.specs.LineEvents.{StartsLine}
use Rattle.lane_calls.specs.Lines.{FeedLine, Lines, IsNone, IsCarriedOut}
use Rattle.lane_calls.specs.Readings.{outcome_in}
use Rattle.lane_calls.specs.Segments.{IsAmong}
use Rattle.lane_lives.specs.declared.setting.Setting.{Setting}
use Rattle.lane_lives.specs.Lives.{Deed, Announces, Stops, Starts, Runs, Feeds, Maintains, Does, IsLife, lines_of}
use Rattle.lane_lives.proofs.Living.{others_fresh}
use Rattle.lane_promises.specs.Promises.{NoneIsLeft}
use Rattle.lane_promises.proofs.CompletingBeside.{first-of}
use Rattle.lane_promises.proofs.Covered.{was_before}
use Rattle.lane_promises.proofs.Ends.{ends}
use Rattle.lane_promises.proofs.Later.{Stays, stays_itself, stays-trans, stays_event, deed_stays}

-- ---- each line has its outcome

some-then : (J K : List LaneEvent) → Stays J K → (n : ℕ) → IsSome (outcome_in n J) → IsSome (outcome_in n K)
some-then J K stays n some = by_outcome (outcome_in n J) refl some
  where
    by_outcome : (o : Option Outcome) → outcome_in n J ≡ o → IsSome o → IsSome (outcome_in n K)
    by_outcome None is some = absurd cc
    by_outcome (Some x) is some = ap is_some (stays.outcomes n x is)

or-own : (n : ℕ) (o : Option Outcome) (x : Outcome) → IsSome (or_else o (only_if (n == n) x))
or-own n None x = grind (arith, nat_tests)
or-own n (Some y) x = refl

run-answered : (lane : Low) (rules : Rules) (line : FeedLine) (J K : List LaneEvent) → IsCarriedOut lane rules line line.via J K → IsSome (outcome_in line.number K)
run-answered lane rules line J K c = let e = ends lane rules line line.via J K refl c in subst IsSome (sym (e.read line.number)) (or-own line.number (outcome_in line.number J) e.outcome)

among-either : (lines more : Lines) (line : FeedLine) → IsAmong (lines ++ more) line → IsAmong lines line ⊎ IsAmong more line
among-either [] more line among = inr among
among-either (l ∷ lines) more line among = by_place (λ k at. among-either lines more line (k, at)) among.0 among.1
  where
    by_place : ((k : ℕ) → slice_get (lines ++ more) k ≡ Some line → IsAmong lines line ⊎ IsAmong more line) → (k : ℕ) → slice_get (l ∷ (lines ++ more)) k ≡ Some line → IsAmong (l ∷ lines) line ⊎ IsAmong more line
    by_place rest zero at = inl (0, at)
    by_place rest (suc k) at = elim (rest k at) [
      | inl first ↦ inl (suc first.0, first.1)
      | inr old ↦ inr old
    ]

module _ (s : Setting) (lane : Low) where
  on : (deed : Deed) (J K : List LaneEvent) → Does s lane deed J K → (n : ℕ) → IsSome (outcome_in n J) → IsSome (outcome_in n K)
  on deed J K does n some = some-then J K (deed_stays s lane deed J K does) n some

  answered : (deeds : List Deed) (J : List LaneEvent) → IsLife s lane deeds J → NoneIsLeft deeds → (line : FeedLine) → IsAmong (lines_of deeds) line → IsSome (outcome_in line.number J)
  answered [] J life none line among = absurd (none_some line among.1)
  answered (Announces state deaf ∷ deeds) K life none line among = on (Announces state deaf) life.0 K life.1.1 line.number (answered deeds life.0 life.1.0 none line among)
  answered (Stops n ∷ deeds) K life none line among = on (Stops n) life.0 K life.1.1 line.number (answered deeds life.0 life.1.0 none line among)
  answered (Starts n ∷ deeds) K life none line among = on (Starts n) life.0 K life.1.1 line.number (answered deeds life.0 life.1.0 none line among)
  answered (Maintains noted ∷ deeds) K life none line among = on (Maintains noted) life.0 K life.1.1 line.number (answered deeds life.0 life.1.0 none line among)
  answered (Runs own ∷ deeds) K life none line among = elim (among-either (own ∷ []) (lines_of deeds) line among) [
    | inl first ↦ by_place first.0 first.1
    | inr old ↦ on (Runs own) life.0 K life.1.1 line.number (answered deeds life.0 life.1.0 none line old)
  ]
    where
      by_place : (k : ℕ) → slice_get (own ∷ []) k ≡ Some line → IsSome (outcome_in line.number K)
      by_place zero at = let same : own ≡ line = cc in subst (λ (l : FeedLine). IsSome (outcome_in l.number K)) same (run-answered lane s.rules own life.0 K life.1.1)
      by_place (suc k) at = absurd (none_some line at)
  answered (Feeds feeders lines left ∷ deeds) K life none line among = elim (among-either lines (lines_of deeds) line among) [
    | inl here ↦ elim ((life.1.1).answered line here) [
      | inl out ↦ absurd (none_some line (subst (λ (ls : Lines). slice_get ls out.0 ≡ Some line) none.0 out.1))
      | inr some ↦ some
    ]
    | inr old ↦ on (Feeds feeders lines left) life.0 K life.1.1 line.number (answered deeds life.0 life.1.0 none.1 line old)
  ]

-- ---- what had begun or was refused stays so

-- the line neither began nor was refused
record IsUnstarted (n : ℕ) (J : List LaneEvent) : Type 0 where
  unbegun : began n (history J) ≡ None
  unrefused : refused n (history J) ≡ false

unstarted-before : (n : ℕ) (e : LaneEvent) (J : List LaneEvent) → IsUnstarted n (e ∷ J) → IsUnstarted n J
unstarted-before n (event.Begun l d v id stamp) J u = record { unbegun = before (began n (history J)) _ u.unbegun; unrefused = u.unrefused }
  where
    before : (o p : Option Beginning) → or_else o p ≡ None → o ≡ None
    before None p h = refl
    before (Some b) p h = cc
unstarted-before n (event.Refused l d x) J u = record { unbegun = u.unbegun; unrefused = before (l == n) (refused n (history J)) u.unrefused }
  where
    before : (t r : Bool) → (if t then true else r) ≡ false → r ≡ false
    before true r h = cc
    before false r h = h
unstarted-before n _ J u = record { unbegun = u.unbegun; unrefused = u.unrefused }

unstarted-there : (n : ℕ) (more J : List LaneEvent) → IsUnstarted n (more ++ J) → IsUnstarted n J
unstarted-there n [] J u = u
unstarted-there n (e ∷ more) J u = unstarted-there n more J (unstarted-before n e (more ++ J) u)

starts-known : (n : ℕ) (e : LaneEvent) (J : List LaneEvent) → StartsLine n e → IsUnstarted n (e ∷ J) → ⊥
starts-known n (event.Begun l d v id stamp) J same u = by_old (began n (history J)) u.unbegun
  where
    own : (l == n) ≡ true
    own = grind (arith, nat_tests)

    by_old : (o : Option Beginning) → or_else o (only_if (l == n) (record { distributor = d; version = v; id = id; stamp = stamp })) ≡ None → ⊥
    by_old None is = let clash = ap (λ (t : Bool). only_if t (record { distributor = d; version = v; id = id; stamp = stamp })) (sym own) ∙ is in cc
    by_old (Some b) is = cc
starts-known n (event.Refused l d x) J same u = let clash : true ≡ false = ap (λ (t : Bool). if t then true else refused n (history J)) (sym own) ∙ u.unrefused in cc
  where
    own : (l == n) ≡ true
    own = grind (arith, nat_tests)
starts-known n _ J same u = absurd same

-- ---- in order

stays-on : (more J : List LaneEvent) → Stays J (more ++ J)
stays-on [] J = stays_itself J
stays-on (e ∷ more) J = stays-trans J (more ++ J) (e ∷ (more ++ J)) (stays-on more J) (stays_event e (more ++ J))

-- the line has no event in the first part, so it began behind it
since-first : (n : ℕ) (M J : List LaneEvent) → IsFresh (history J) n → (after : List LaneEvent) (e : LaneEvent) (before : List LaneEvent) → M ++ J ≡ after ++ e ∷ before → StartsLine n e → (C : List LaneEvent) × (before ≡ C ++ J)
since-first n M J fresh after e before is starts = elim (cases_lt (length before) (length J)) [
  | inl short ↦ absurd (by_short short)
  | inr long ↦ first-of M (after ++ e ∷ []) J before (is ∙ sym (append_assoc after (e ∷ []) before)) (omega (arith, long))
]
  where
    by_short : length before < length J → ⊥
    by_short less =
        let c = first-of after M (e ∷ before) J (sym is) (omega (arith, less)) in
        starts-known n e before starts (unstarted-there n c.0 (e ∷ before) (subst (IsUnstarted n) c.1 (record { unbegun = fresh.unbegun; unrefused = fresh.unrefused })))

pub deeds_in_order : (s : Setting) (lane : Low) (more deeds : List Deed) (K : List LaneEvent) → IsLife s lane (more ++ deeds) K → NoneIsLeft deeds → (earlier : FeedLine) → IsAmong (lines_of deeds) earlier
    → (n : ℕ) → IsNone n (lines_of deeds) → (after : List LaneEvent) (e : LaneEvent) (before : List LaneEvent) → K ≡ after ++ e ∷ before → StartsLine n e → IsSome (outcome_in earlier.number before)
deeds_in_order s lane more deeds K life left earlier among n none after e before is starts =
    let was = was_before K s lane more deeds K life ([], refl) in
    let grown = since-first n (was.grown).0 was.journal (others_fresh s lane deeds was.journal was.life n none) after e before (sym (was.grown).1 ∙ is) starts in
    some-then was.journal before (subst (Stays was.journal) (sym grown.1) (stays-on grown.0 was.journal)) earlier.number (answered s lane deeds was.journal was.life left earlier among)
