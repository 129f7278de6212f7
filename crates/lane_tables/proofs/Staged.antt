-- What each call leaves of the lines of a script.
use Rattle.std.proofs.Common.{◌≡◌, ◌≢◌, ◌⊎◌, ℕ, Bool, zero, suc, List, replicate, Option, None, Some, inl, inr, refl, sym, ap, ◌∙◌, subst, slice_get, slice_set}
use Rattle.proof_basics.proofs.Options.{some_same, none_some}
use Rattle.bucket_ids.specs.Buckets.{IsIn}
use Rattle.global_ids.specs.Keys as keys
use Rattle.global_ids.proofs.KeyLaws.{key_small}
use Rattle.carriers.specs.declared.fate.Fate.{Fate}
use Rattle.lane_journals.specs.Buckets.{key_of}
use Rattle.lane_journals.specs.declared.event.LaneEvent.{LaneEvent}
use Rattle.lane_lives.specs.declared.setting.Setting.{Setting}
use Rattle.lane_lives.specs.Settings.{IsSetting}
use Rattle.lane_lives.specs.Serving.{bucket_in}
use Rattle.messages.specs.declared.outcome.Outcome.{Outcome}
use Rattle.upkeep_spans.specs.declared.answers.Upkeep.{Upkeep}
use Rattle.upkeep_spans.specs.declared.answers.Upkeep.TheVariants as upkeep
use Rattle.lane_calls.specs.declared.progress.UnderWay.{UnderWay}
use Rattle.lane_calls.specs.declared.answers.Hear.{Hear}
use Rattle.lane_calls.specs.declared.answers.Hear.TheVariants as hear
use Rattle.lane_calls.specs.declared.answers.Begin.{Begin}
use Rattle.lane_calls.specs.declared.answers.Begin.TheVariants as begin
use Rattle.lane_calls.specs.declared.answers.Advance.{Advance}
use Rattle.lane_calls.specs.declared.answers.Advance.TheVariants as advance
use Rattle.lane_calls.specs.LaneValues.{LaneValue, IsHearing, WantsMore, WantsEnd, Closes}
use Rattle.lane_calls.specs.Lines.{FeedLine}
use Rattle.lane_calls.specs.Segments.{BeginsAs}
use Rattle.lane_calls.specs.Upkept.{Maintains, IsUpkept}
use Rattle.lane_core.specs.Advancing.{IsAdvance}
use Rattle.lane_core.proofs.Places.{get-set-cases}
use Rattle.lane_locks.proofs.Sparing.{such-begun, such-advanced, such-closed}
use Rattle.lane_locks.proofs.Staging.{begun-stage, more-stage, done-stage, short-stage}
use Rattle.lane_tables.specs.declared.stages.LineStage.{LineStage}
use Rattle.lane_tables.specs.declared.stages.LineStage.TheVariants as stage
use Rattle.lane_tables.specs.Scripted.{OfStage, AreStaged, IsScripted, IsStill, stages_begun, stages_gone}

-- ---- none has begun

get-replicate : (n k : ℕ) (x y : LineStage) → slice_get (replicate n x) k ≡ Some y → y ≡ x
get-replicate zero k x y h = absurd (none_some y h)
get-replicate (suc n) zero x y h = sym (some_same x y h)
get-replicate (suc n) (suc k) x y h = get-replicate n k x y h

pub fresh-staged : (us : List UnderWay) (stages : List LineStage) → stages ≡ replicate 32 stage.Fresh → AreStaged us stages
fresh-staged us stages is line s at =
    subst (OfStage us line) (sym (get-replicate 32 line stage.Fresh s (ap (λ (ss : List LineStage). slice_get ss line) (sym is) ∙ at))) tt

-- ---- the lane is another

pub record StaysOf (v w : LaneValue) : Type 0 where
  pub lane : w.lane ≡ v.lane
  pub rules : w.rules ≡ v.rules

pub stays-same : (v w : LaneValue) → w ≡ v → StaysOf v w
stays-same v w e = record { lane = ap (λ (x : LaneValue). x.lane) e; rules = ap (λ (x : LaneValue). x.rules) e }

pub scripted-on : (setting : Setting) (v w : LaneValue) (stages now : List LineStage) → IsScripted setting v stages → StaysOf v w → AreStaged w.under_way now → IsScripted setting w now
scripted-on setting v w stages now is stays staged = record {
  is_setting = is.is_setting;
  lane_is = stays.lane ∙ is.lane_is;
  rules_are = stays.rules ∙ is.rules_are;
  staged = staged;
}

-- ---- a call for one line

-- one line comes to another stage, and the others stay as they were
staged-set : (v w : LaneValue) (n : ℕ) (now : LineStage) (stages : List LineStage) → AreStaged v.under_way stages → OfStage w.under_way n now
    → ((m : ℕ) (s : LineStage) → m ≢ n → OfStage v.under_way m s → OfStage w.under_way m s) → AreStaged w.under_way (slice_set stages n now)
staged-set v w n now stages are own others line s at = elim (get-set-cases stages n line now s at) [
  | inl here ↦ subst (λ (m : ℕ). OfStage w.under_way m s) (sym here.0) (subst (OfStage w.under_way n) (sym here.1) own)
  | inr off ↦ others line s off.0 (are line s off.1)
]

-- or it stays at its own
staged-stay : (v w : LaneValue) (n : ℕ) (now : LineStage) (stages : List LineStage) → slice_get stages n ≡ Some now → AreStaged v.under_way stages → OfStage w.under_way n now
    → ((m : ℕ) (s : LineStage) → m ≢ n → OfStage v.under_way m s → OfStage w.under_way m s) → AreStaged w.under_way stages
staged-stay v w n now stages found are own others line s at = elim (nat-same line n) [
  | inl here ↦
      let same : s ≡ now = some_same s now (sym at ∙ ap (slice_get stages) here ∙ found) in
      subst (λ (m : ℕ). OfStage w.under_way m s) (sym here) (subst (OfStage w.under_way n) (sym same) own)
  | inr off ↦ others line s off (are line s at)
]
  where
    nat-same : (a b : ℕ) → (a ≡ b) ⊎ (a ≢ b)
    nat-same zero zero = inl refl
    nat-same zero (suc b) = inr (λ e. (let f : zero ≡ suc b = e in cc))
    nat-same (suc a) zero = inr (λ e. (let f : suc a ≡ zero = e in cc))
    nat-same (suc a) (suc b) = elim (nat-same a b) [ inl e ↦ inl (ap suc e) | inr off ↦ inr (λ e. off (let f : suc a ≡ suc b = e in cc)) ]

-- ---- begin

begun-others : (line : FeedLine) (via : Option ℕ) (v w : LaneValue) (answer : Begin) → BeginsAs line via v w answer → (m : ℕ) (s : LineStage) → OfStage v.under_way m s → OfStage w.under_way m s
begun-others line via v w answer b m stage.Fresh h = tt
begun-others line via v w answer b m stage.Going h = such-begun WantsMore m line via v w answer b h
begun-others line via v w answer b m stage.Ending h = such-begun WantsEnd m line via v w answer b h
begun-others line via v w answer b m stage.Closed h = tt

begun-staged : (line : FeedLine) (via : Option ℕ) (v w : LaneValue) (stages : List LineStage) (answer : Begin) → AreStaged v.under_way stages → BeginsAs line via v w answer → AreStaged w.under_way (stages_begun line.number answer stages)
begun-staged line via v w stages begin.Begun are b = staged-set v w line.number stage.Going stages are (begun-stage line via v w b) (λ m s off. begun-others line via v w begin.Begun b m s)
begun-staged line via v w stages (begin.Refused x) are b = staged-set v w line.number stage.Closed stages are tt (λ m s off. begun-others line via v w (begin.Refused x) b m s)
begun-staged line via v w stages (begin.Held by) are b = λ m s at. begun-others line via v w (begin.Held by) b m s (are m s at)
begun-staged line via v w stages begin.NoMemory are b = λ m s at. begun-others line via v w begin.NoMemory b m s (are m s at)

begun-stays : (line : FeedLine) (via : Option ℕ) (v w : LaneValue) (answer : Begin) → BeginsAs line via v w answer → StaysOf v w
begun-stays line None v w begin.Begun b = record { lane = ap (λ (x : LaneValue). x.lane) b.after; rules = ap (λ (x : LaneValue). x.rules) b.after }
begun-stays line None v w (begin.Refused x) b = absurd b
begun-stays line None v w (begin.Held by) b = stays-same v w b.same
begun-stays line None v w begin.NoMemory b = stays-same v w b
begun-stays line (Some d) v w begin.Begun b = record { lane = ap (λ (x : LaneValue). x.lane) b.after; rules = ap (λ (x : LaneValue). x.rules) b.after }
begun-stays line (Some d) v w (begin.Refused x) b = record { lane = ap (λ (x : LaneValue). x.lane) b.after; rules = ap (λ (x : LaneValue). x.rules) b.after }
begun-stays line (Some d) v w (begin.Held by) b = stays-same v w b.same
begun-stays line (Some d) v w begin.NoMemory b = stays-same v w b

pub begun-scripted : (setting : Setting) (line : FeedLine) (via : Option ℕ) (v w : LaneValue) (stages : List LineStage) (answer : Begin) → IsScripted setting v stages → BeginsAs line via v w answer
    → IsScripted setting w (stages_begun line.number answer stages)
begun-scripted setting line via v w stages answer is b =
    scripted-on setting v w stages (stages_begun line.number answer stages) is (begun-stays line via v w answer b) (begun-staged line via v w stages answer is.staged b)

-- ---- advance

gone-others : (n : ℕ) (v w : LaneValue) (answer : Advance) → IsAdvance n v w answer → (m : ℕ) (s : LineStage) → m ≢ n → OfStage v.under_way m s → OfStage w.under_way m s
gone-others n v w answer a m stage.Fresh off h = tt
gone-others n v w answer a m stage.Going off h = such-advanced WantsMore m n v w answer off a h
gone-others n v w answer a m stage.Ending off h = such-advanced WantsEnd m n v w answer off a h
gone-others n v w answer a m stage.Closed off h = tt

gone-stays : (n : ℕ) (v w : LaneValue) (answer : Advance) → IsAdvance n v w answer → StaysOf v w
gone-stays n v w advance.More a = record { lane = ap (λ (x : LaneValue). x.lane) ((a.advances).0).after; rules = ap (λ (x : LaneValue). x.rules) ((a.advances).0).after }
gone-stays n v w (advance.Waits by) a = stays-same v w (a.advances).1
gone-stays n v w advance.Done a = record { lane = ap (λ (x : LaneValue). x.lane) ((a.advances).1).after; rules = ap (λ (x : LaneValue). x.rules) ((a.advances).1).after }
gone-stays n v w advance.NoMemory a = record { lane = ap (λ (x : LaneValue). x.lane) (a.advances).after; rules = ap (λ (x : LaneValue). x.rules) (a.advances).after }

gone-staged : (n : ℕ) (v w : LaneValue) (stages : List LineStage) (answer : Advance) → AreStaged v.under_way stages → slice_get stages n ≡ Some stage.Going → IsAdvance n v w answer → AreStaged w.under_way (stages_gone n answer stages)
gone-staged n v w stages advance.More are at a = staged-stay v w n stage.Going stages at are (more-stage n v w a) (λ m s off. gone-others n v w advance.More a m s off)
gone-staged n v w stages (advance.Waits by) are at a = subst (λ (x : LaneValue). AreStaged x.under_way stages) (sym (a.advances).1) are
gone-staged n v w stages advance.Done are at a = staged-set v w n stage.Ending stages are (done-stage n v w a) (λ m s off. gone-others n v w advance.Done a m s off)
gone-staged n v w stages advance.NoMemory are at a = staged-set v w n stage.Ending stages are (short-stage n v w a) (λ m s off. gone-others n v w advance.NoMemory a m s off)

pub gone-scripted : (setting : Setting) (n : ℕ) (v w : LaneValue) (stages : List LineStage) (answer : Advance) → IsScripted setting v stages → slice_get stages n ≡ Some stage.Going → IsAdvance n v w answer
    → IsScripted setting w (stages_gone n answer stages)
gone-scripted setting n v w stages answer is at a =
    scripted-on setting v w stages (stages_gone n answer stages) is (gone-stays n v w answer a) (gone-staged n v w stages answer is.staged at a)

-- ---- close

closed-others : (n : ℕ) (x : Outcome) (v w : LaneValue) → Closes n x v w → (m : ℕ) (s : LineStage) → m ≢ n → OfStage v.under_way m s → OfStage w.under_way m s
closed-others n x v w c m stage.Fresh off h = tt
closed-others n x v w c m stage.Going off h = such-closed WantsMore m n x v w off c h
closed-others n x v w c m stage.Ending off h = such-closed WantsEnd m n x v w off c h
closed-others n x v w c m stage.Closed off h = tt

pub closed-scripted : (setting : Setting) (n : ℕ) (x : Outcome) (v w : LaneValue) (stages : List LineStage) → IsScripted setting v stages → Closes n x v w → IsScripted setting w (slice_set stages n stage.Closed)
closed-scripted setting n x v w stages is c =
    scripted-on setting v w stages (slice_set stages n stage.Closed) is (record { lane = ap (λ (y : LaneValue). y.lane) c.after; rules = ap (λ (y : LaneValue). y.rules) c.after })
    (staged-set v w n stage.Closed stages is.staged tt (λ m s off. closed-others n x v w c m s off))

-- ---- what leaves all lines as they are

pub still-scripted : (setting : Setting) (v w : LaneValue) (stages : List LineStage) → IsScripted setting v stages → IsStill v w → IsScripted setting w stages
still-scripted setting v w stages is s = record {
  is_setting = is.is_setting;
  lane_is = s.lane_is ∙ is.lane_is;
  rules_are = s.rules_are ∙ is.rules_are;
  staged = subst (λ (us : List UnderWay). AreStaged us stages) (sym s.under_way_are) is.staged;
}

pub still-same : (v w : LaneValue) → w ≡ v → IsStill v w
still-same v w e = record { lane_is = ap (λ (x : LaneValue). x.lane) e; rules_are = ap (λ (x : LaneValue). x.rules) e; under_way_are = ap (λ (x : LaneValue). x.under_way) e }

-- the journal, the fates and the room are others
pub still-after : (v w : LaneValue) (J : List LaneEvent) (given planned : List Fate) (room : Bool) → w ≡ record v { journal = J; given = given; planned = planned; has_room = room } → IsStill v w
still-after v w J given planned room e = record { lane_is = ap (λ (x : LaneValue). x.lane) e; rules_are = ap (λ (x : LaneValue). x.rules) e; under_way_are = ap (λ (x : LaneValue). x.under_way) e }

pub still_heard : (d : ℕ) (v w : LaneValue) (answer : Hear) → IsHearing d v w answer → IsStill v w
still_heard d v w (hear.Heard version) h = still-after v w _ _ _ _ h.after
still_heard d v w (hear.Held by) h = still-same v w h.same
still_heard d v w hear.NoMemory h = still-same v w h

still-maintained : (v w : LaneValue) → Maintains v w → IsStill v w
still-maintained v w m = still-after v w _ _ _ _ m.after

pub still_upkept : (v w : LaneValue) (answer : Upkeep) → IsUpkept v w answer → IsStill v w
still_upkept v w (upkeep.Held by) u = still-same v w u.1
still_upkept v w upkeep.NoMemory u = elim u.1 [ inl same ↦ still-same v w same | inr m ↦ still-maintained v w m ]
still_upkept v w upkeep.Rested u = still-maintained v w u.1
still_upkept v w (upkeep.Blocked absent) u = still-maintained v w u.1
still_upkept v w (upkeep.Disturbed message) u = still-maintained v w u.1

-- ---- a new lane

pub new-scripted : (setting : Setting) (v : LaneValue) (stages : List LineStage) → IsSetting setting → v.lane ≡ bucket_in setting 0 → v.rules ≡ setting.rules → stages ≡ replicate 32 stage.Fresh → IsScripted setting v stages
new-scripted setting v stages is lane rules fresh = record { is_setting = is; lane_is = lane; rules_are = rules; staged = fresh-staged v.under_way stages fresh }

-- the key of a document lies in its lane
pub key-lies : (bits key : ℕ) (id : List ℕ) → key ≡ keys.key_of id → keys.lane_of key bits ≡ 0 → IsIn (keys.lane_bucket bits 0) (key_of id)
unfolding key_of
key-lies bits key id key_is lane_is = subst (λ (l : ℕ). IsIn (keys.lane_bucket bits l) (keys.key_of id)) (ap (λ (k : ℕ). keys.lane_of k bits) (sym key_is) ∙ lane_is) (key_small id, refl)
