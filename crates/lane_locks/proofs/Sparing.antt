-- What a call for one line leaves of the others, and that outcomes stay.
use Rattle.std.proofs.Common.{◌≡◌, ◌≢◌, ℕ, List, [], ◌∷◌, ◌++◌, length, Option, None, Some, inl, inr, sym, ap, ◌∙◌, subst, slice_get, slice_set}
use Rattle.std.specs.List.{remove}
use Rattle.bucket_ids.specs.Buckets.{Low}
use Rattle.distributor_part.specs.declared.rules.Rules.{Rules}
use Rattle.messages.specs.declared.decision.Decision.{Decision}
use Rattle.messages.specs.declared.operation.Operation.{Operation}
use Rattle.messages.specs.declared.outcome.Outcome.{Outcome}
use Rattle.lane_journals.specs.Readers.{Journal, or_else}
use Rattle.lane_journals.specs.Meanings.{history}
use Rattle.lane_journals.specs.declared.event.LaneEvent.{LaneEvent}
use Rattle.lane_journals.specs.declared.event.LaneEvent.TheVariants as event
use Rattle.lane_keeping.specs.Lines.{IsFresh, IsNotOf}
use Rattle.operation_keeping.specs.Wants.{IsCarriage, IsRunSince, Still, Longer, IsCutRunSince}
use Rattle.operation_keeping.proofs.Lines.{fresh-waits}
use Rattle.lane_calls.specs.declared.answers.Begin.{Begin}
use Rattle.lane_calls.specs.declared.answers.Begin.TheVariants as begin
use Rattle.lane_calls.specs.declared.answers.Advance.{Advance}
use Rattle.lane_calls.specs.declared.answers.Advance.TheVariants as advance
use Rattle.lane_calls.specs.declared.progress.UnderWay.{UnderWay}
use Rattle.lane_calls.specs.declared.progress.Progress.{Progress}
use Rattle.lane_calls.specs.LaneValues.{LaneValue, IsPlace, WantsMore, WantsEnd, MayAdvance, MayClose, Closes, with_run}
use Rattle.lane_calls.specs.Lines.{FeedLine}
use Rattle.lane_calls.specs.Readings.{outcome_in}
use Rattle.lane_calls.proofs.Quiet.{AddsFor, since_adds}
use Rattle.lane_calls.proofs.Told.{next_keeps}
use Rattle.lane_core.specs.Advancing.{IsAdvance}
use Rattle.lane_core.proofs.Places.{skip-back, get-one, get-set, get-set-off, get-old, get-new, get-remove}
use Rattle.lane_calls.specs.Segments.{BeginsAs}
use Rattle.lane_calls.proofs.Growing.{carries}
use Rattle.lane_calls.proofs.Ordering.{adds-not, carries-not}

-- ---- what holds on over such events

module _ (Q : LaneEvent → Type 0) (P : List LaneEvent → Type 0) (more : (e : LaneEvent) (J : List LaneEvent) → Q e → P J → P (e ∷ J))
    (m : ℕ) (adds : (e : LaneEvent) → AddsFor m e → Q e) (carried : (e : LaneEvent) → IsCarriage e → Q e) (decided : (d v : ℕ) (x : Decision) → Q (event.Decided d v x)) where
  run-over : (lane : Low) (rules : Rules) (o : Operation) (from : Journal) (J K : List LaneEvent) → IsRunSince lane rules m o from J K → P J → P K
  run-over lane rules o from J K Still p = p
  run-over lane rules o from J K (Longer e L run wanted) p =
      more e L (elim wanted [ inl c ↦ carried e (carries from e c) | inr w ↦ adds e (since_adds lane rules m o from e L w) ]) (run-over lane rules o from J L run p)

  cut-over : (lane : Low) (rules : Rules) (o : Operation) (from : Journal) (J K : List LaneEvent) → IsCutRunSince lane rules m o from J K → P J → P K
  cut-over lane rules o from J K c p = let rest = run-over lane rules o from J c.0 c.1 p in elim c.2 [
    | inl same ↦ subst P (sym same) rest
    | inr cut ↦ subst P (sym cut.ended) (more _ c.0 (decided _ _ _) rest)
  ]

  -- by whatever an advance added
  advance-over : (v w : LaneValue) (answer : Advance) → IsAdvance m v w answer → P v.journal → P w.journal
  advance-over v w advance.More h p = run-over v.lane v.rules (h.operation).operation (history v.journal) v.journal w.journal
      (subst (λ (n : ℕ). IsRunSince v.lane v.rules n (h.operation).operation (history v.journal) v.journal w.journal) (h.place).line_is ((h.advances).0).run) p
  advance-over v w (advance.Waits by) h p = subst P (ap (λ (x : LaneValue). x.journal) (sym (h.advances).1)) p
  advance-over v w advance.Done h p = run-over v.lane v.rules (h.operation).operation (history v.journal) v.journal w.journal
      (subst (λ (n : ℕ). IsRunSince v.lane v.rules n (h.operation).operation (history v.journal) v.journal w.journal) (h.place).line_is ((h.advances).1).run) p
  advance-over v w advance.NoMemory h p = cut-over v.lane v.rules (h.operation).operation (history v.journal) v.journal w.journal
      (subst (λ (n : ℕ). IsCutRunSince v.lane v.rules n (h.operation).operation (history v.journal) v.journal w.journal) (h.place).line_is (h.advances).run) p

-- ---- the same of a beginning and of a close

module _ (Q : LaneEvent → Type 0) (P : List LaneEvent → Type 0) (more : (e : LaneEvent) (J : List LaneEvent) → Q e → P J → P (e ∷ J)) where
  begin-over : (line : FeedLine) (via : Option ℕ) (v w : LaneValue) (answer : Begin) → ((e v : ℕ) → Q (event.Heard e v)) → ((d s : ℕ) (i : _) (t : _) → Q (event.Begun line.number d s i t)) → ((d : ℕ) (x : Outcome) → Q (event.Refused line.number d x))
      → BeginsAs line via v w answer → P v.journal → P w.journal
  begin-over line None v w begin.Begun heard begun refused b p =
      subst P (sym (ap (λ (x : LaneValue). x.journal) b.after))
      (more _ b.heard (begun _ _ _ _) (subst P (sym b.heard_is) (next_keeps P (λ d k L q. more (event.Heard d k) L (heard d k) q) b.owner b.state v.journal p)))
  begin-over line None v w (begin.Refused x) heard begun refused b p = absurd b
  begin-over line None v w (begin.Held by) heard begun refused b p = subst P (ap (λ (x : LaneValue). x.journal) (sym b.same)) p
  begin-over line None v w begin.NoMemory heard begun refused b p = subst P (ap (λ (x : LaneValue). x.journal) (sym b)) p
  begin-over line (Some d) v w begin.Begun heard begun refused b p = subst P (sym (ap (λ (x : LaneValue). x.journal) b.after)) (more _ v.journal (begun _ _ _ _) p)
  begin-over line (Some d) v w (begin.Refused x) heard begun refused b p = subst P (sym (ap (λ (x : LaneValue). x.journal) b.after)) (more _ v.journal (refused _ _) p)
  begin-over line (Some d) v w (begin.Held by) heard begun refused b p = subst P (ap (λ (x : LaneValue). x.journal) (sym b.same)) p
  begin-over line (Some d) v w begin.NoMemory heard begun refused b p = subst P (ap (λ (x : LaneValue). x.journal) (sym b)) p

  close-over : (line : ℕ) (x : Outcome) (v w : LaneValue) → Q (event.Closed line x) → Closes line x v w → P v.journal → P w.journal
  close-over line x v w closed c p = subst P (sym (ap (λ (y : LaneValue). y.journal) c.after)) (more _ v.journal closed p)

-- ---- outcomes stay

abbrev pub Outcomes : List LaneEvent → List LaneEvent → Type 0
Outcomes J K = (n : ℕ) (x : Outcome) → outcome_in n J ≡ Some x → outcome_in n K ≡ Some x

or-stays : (o p : Option Outcome) (x : Outcome) → o ≡ Some x → or_else o p ≡ Some x
or-stays None p x h = let none : ◌≡◌ {A = Option Outcome} None (Some x) = h in absurd (cc)
or-stays (Some y) p x h = h

outcome-stays : (n : ℕ) (x : Outcome) (e : LaneEvent) (J : List LaneEvent) → outcome_in n J ≡ Some x → outcome_in n (e ∷ J) ≡ Some x
outcome-stays n x (event.Closed l y) J h = or-stays (outcome_in n J) _ x h
outcome-stays n x (event.Refused l d y) J h = or-stays (outcome_in n J) _ x h
outcome-stays n x _ J h = h

-- ---- places among the operations under way

-- the line's operation is there, as far as this
abbrev pub HasSuch : (Progress → Type 0) → ℕ → List UnderWay → Type 0
HasSuch W n us = (at : ℕ) × (u : UnderWay) × IsPlace n us at u × W u.progress

module _ (W : Progress → Type 0) (n : ℕ) where
  such-push : (us : List UnderWay) (x : UnderWay) → HasSuch W n us → HasSuch W n (us ++ x ∷ [])
  such-push us x h = (h.0, h.1, record { found = get-old us x h.0 h.1 (h.2).found; line_is = (h.2).line_is }, h.3)

  pub such-new : (us : List UnderWay) (x : UnderWay) → x.line ≡ n → W x.progress → HasSuch W n (us ++ x ∷ [])
  such-new us x is w = (length us, x, record { found = get-new us x; line_is = is }, w)

  -- another line's changes, or goes
  off-place : (us : List UnderWay) (at : ℕ) (u : UnderWay) → slice_get us at ≡ Some u → n ≢ u.line → (h : HasSuch W n us) → h.0 ≢ at
  off-place us at u found off h same =
      let here : h.1 ≡ u = get-one us at h.1 u (subst (λ (k : ℕ). slice_get us k ≡ Some h.1) same (h.2).found) found in
      off (sym (h.2).line_is ∙ ap (λ (y : UnderWay). y.line) here)

  such-set : (us : List UnderWay) (at : ℕ) (u y : UnderWay) → slice_get us at ≡ Some u → n ≢ u.line → HasSuch W n us → HasSuch W n (slice_set us at y)
  such-set us at u y found off h = (h.0, h.1, record { found = get-set-off us at h.0 y h.1 (off-place us at u found off h) (h.2).found; line_is = (h.2).line_is }, h.3)

  such-removed : (us : List UnderWay) (at : ℕ) (u : UnderWay) → slice_get us at ≡ Some u → n ≢ u.line → HasSuch W n us → HasSuch W n (remove us at)
  such-removed us at u found off h =
      let b = skip-back at h.0 (off-place us at u found off h) in (
        b.0,
        h.1,
        record { found = get-remove us at b.0 ∙ ap (λ (k : ℕ). slice_get us k) b.1 ∙ (h.2).found; line_is = (h.2).line_is },
        h.3,
      )

  pub such-here : (us : List UnderWay) (at : ℕ) (u y : UnderWay) → slice_get us at ≡ Some u → y.line ≡ n → W y.progress → HasSuch W n (slice_set us at y)
  such-here us at u y found is w = (at, y, record { found = get-set us at u y found; line_is = is }, w)

  -- ---- by a call for another line

  pub such-begun : (line : FeedLine) (via : Option ℕ) (v w : LaneValue) (answer : Begin) → BeginsAs line via v w answer → HasSuch W n v.under_way → HasSuch W n w.under_way
  such-begun line None v w begin.Begun b h = subst (HasSuch W n) (sym (ap (λ (x : LaneValue). x.under_way) b.after)) (such-push v.under_way _ h)
  such-begun line None v w (begin.Refused x) b h = absurd b
  such-begun line None v w (begin.Held by) b h = subst (HasSuch W n) (ap (λ (x : LaneValue). x.under_way) (sym b.same)) h
  such-begun line None v w begin.NoMemory b h = subst (HasSuch W n) (ap (λ (x : LaneValue). x.under_way) (sym b)) h
  such-begun line (Some d) v w begin.Begun b h = subst (HasSuch W n) (sym (ap (λ (x : LaneValue). x.under_way) b.after)) (such-push v.under_way _ h)
  such-begun line (Some d) v w (begin.Refused x) b h = subst (HasSuch W n) (sym (ap (λ (x : LaneValue). x.under_way) b.after)) h
  such-begun line (Some d) v w (begin.Held by) b h = subst (HasSuch W n) (ap (λ (x : LaneValue). x.under_way) (sym b.same)) h
  such-begun line (Some d) v w begin.NoMemory b h = subst (HasSuch W n) (ap (λ (x : LaneValue). x.under_way) (sym b)) h

  such-run : (m : ℕ) (v w : LaneValue) (at : ℕ) (u y : UnderWay) → IsPlace m v.under_way at u → n ≢ m → w ≡ with_run v w.journal w.given at y → HasSuch W n v.under_way → HasSuch W n w.under_way
  such-run m v w at u y place off after h = subst (HasSuch W n) (sym (ap (λ (x : LaneValue). x.under_way) after)) (such-set v.under_way at u y place.found (λ same. off (same ∙ place.line_is)) h)

  pub such-advanced : (m : ℕ) (v w : LaneValue) (answer : Advance) → n ≢ m → IsAdvance m v w answer → HasSuch W n v.under_way → HasSuch W n w.under_way
  such-advanced m v w advance.More off a h = such-run m v w a.at a.operation _ a.place off ((a.advances).0).after h
  such-advanced m v w (advance.Waits by) off a h = subst (HasSuch W n) (ap (λ (x : LaneValue). x.under_way) (sym (a.advances).1)) h
  such-advanced m v w advance.Done off a h = such-run m v w a.at a.operation _ a.place off ((a.advances).1).after h
  such-advanced m v w advance.NoMemory off a h = such-run m v w a.at a.operation _ a.place off (a.advances).after h

  pub such-closed : (m : ℕ) (x : Outcome) (v w : LaneValue) → n ≢ m → Closes m x v w → HasSuch W n v.under_way → HasSuch W n w.under_way
  such-closed m x v w off c h = subst (HasSuch W n) (sym (ap (λ (y : LaneValue). y.under_way) c.after)) (such-removed v.under_way c.at c.operation (c.place).found (λ same. off (same ∙ (c.place).line_is)) h)

-- ---- all of it

-- the call leaves the line as it was
pub record Spares (n : ℕ) (v w : LaneValue) : Type 0 where
  pub fresh : IsFresh (history v.journal) n → IsFresh (history w.journal) n
  pub advances : MayAdvance n v.under_way → MayAdvance n w.under_way
  pub closes : MayClose n v.under_way → MayClose n w.under_way

fresh-more : (n : ℕ) (e : LaneEvent) (J : List LaneEvent) → IsNotOf n e → IsFresh (history J) n → IsFresh (history (e ∷ J)) n
fresh-more n e J off fresh = fresh-waits J e n off fresh

pub begin-spares : (n : ℕ) (line : FeedLine) (v w : LaneValue) (answer : Begin) → n ≢ line.number → BeginsAs line line.via v w answer → Spares n v w
begin-spares n line v w answer off b =
    let away : line.number ≢ n = λ same. off (sym same) in
    record {
      fresh = begin-over (IsNotOf n) (λ J. IsFresh (history J) n) (fresh-more n) line line.via v w answer (λ d k. tt) (λ d s i t. away) (λ d x. away) b;
      advances = such-begun WantsMore n line line.via v w answer b;
      closes = such-begun WantsEnd n line line.via v w answer b;
    }

pub advance-spares : (n m : ℕ) (v w : LaneValue) (answer : Advance) → n ≢ m → IsAdvance m v w answer → Spares n v w
advance-spares n m v w answer off a = record {
  fresh = advance-over (IsNotOf n) (λ J. IsFresh (history J) n) (fresh-more n) m (λ e h. adds-not m n e (λ same. off (sym same)) h) (λ e h. carries-not n e h) (λ d k x. tt) v w answer a;
  advances = such-advanced WantsMore n m v w answer off a;
  closes = such-advanced WantsEnd n m v w answer off a;
}

pub close-spares : (n m : ℕ) (x : Outcome) (v w : LaneValue) → n ≢ m → Closes m x v w → Spares n v w
close-spares n m x v w off c = record {
  fresh = close-over (IsNotOf n) (λ J. IsFresh (history J) n) (fresh-more n) m x v w (λ same. off (sym same)) c;
  advances = such-closed WantsMore n m x v w off c;
  closes = such-closed WantsEnd n m x v w off c;
}

pub begin-outcomes : (line : FeedLine) (v w : LaneValue) (answer : Begin) → BeginsAs line line.via v w answer → Outcomes v.journal w.journal
begin-outcomes line v w answer b = λ n x h. begin-over (λ e. Unit {0}) (λ J. outcome_in n J ≡ Some x) (λ e J q p. outcome-stays n x e J p) line line.via v w answer (λ d k. tt) (λ d s i t. tt) (λ d y. tt) b h

pub advance-outcomes : (m : ℕ) (v w : LaneValue) (answer : Advance) → IsAdvance m v w answer → Outcomes v.journal w.journal
advance-outcomes m v w answer a = λ n x h. advance-over (λ e. Unit {0}) (λ J. outcome_in n J ≡ Some x) (λ e J q p. outcome-stays n x e J p) m (λ e q. tt) (λ e q. tt) (λ d k y. tt) v w answer a h

pub close-outcomes : (m : ℕ) (x : Outcome) (v w : LaneValue) → Closes m x v w → Outcomes v.journal w.journal
close-outcomes m x v w c = λ n y h. close-over (λ e. Unit {0}) (λ J. outcome_in n J ≡ Some y) (λ e J q p. outcome-stays n y e J p) m x v w tt c h
