-- What is known of an operation under way lasts while others go on.
use Rattle.std.proofs.Common.{◌≡◌, ℕ, true, false, List, ◌∷◌, Option, Some, None, refl, ◌∙◌}
use Rattle.bucket_ids.specs.Buckets.{Low}
use Rattle.stamps.specs.declared.stamp.Stamp.{Stamp}
use Rattle.cluster_states.specs.declared.cluster_state.ClusterState.{ClusterState}
use Rattle.documents.specs.declared.entry.Entry.{Entry}
use Rattle.messages.specs.declared.operation.Operation.{Operation}
use Rattle.messages.specs.declared.outcome.Outcome.{Outcome}
use Rattle.distributor_part.specs.declared.rules.Rules.{Rules}
use Rattle.op_machine.specs.declared.machine.Standing.{Standing}
use Rattle.lane_journals.specs.Buckets.{Id, contains}
use Rattle.lane_journals.specs.Readers.{Beginning, Preparing, began, prepared, wrote, closed, before_line, opened, answered_store, complete, active}
use Rattle.lane_journals.specs.Facts.{IsOpen}
use Rattle.lane_journals.specs.States.{state_of}
use Rattle.lane_journals.specs.Meanings.{history, meaning}
use Rattle.lane_journals.specs.Places.{Setting}
use Rattle.lane_journals.specs.KeptJournals.{IsLegal, IsLegalStep}
use Rattle.lane_journals.specs.declared.event.LaneEvent.{LaneEvent}
use Rattle.lane_journals.specs.declared.event.LaneEvent.TheVariants.{Closed}
use Rattle.lane_journals.proofs.Basics.{opened-stays}
use Rattle.lane_journals.proofs.Meant.{meant-legal}
use Rattle.lane_keeping.specs.LaneKeeping.{setting_of}
use Rattle.lane_keeping.specs.Acting.{IsActing}
use Rattle.operation_keeping.specs.OperationKeeping.{IsUnderWay, KnowsPreparing, KnowsStanding}
use Rattle.operation_keeping.specs.Others.{IsAnothers, AreOthers, Same, More}
use Rattle.operation_keeping.specs.Wants.{IsAtStanding}
use Rattle.operation_keeping.proofs.OthersLines as one
use Rattle.operation_keeping.proofs.OthersRows as one_row
use Rattle.operation_keeping.proofs.OthersReads as one_read
use Rattle.operation_keeping.proofs.OthersEnding as one_end

-- ---- lists of events

pub others-trans : (line : ℕ) (id : Id) (J K L : List LaneEvent) → AreOthers line id J K → AreOthers line id K L → AreOthers line id J L
others-trans line id J K L a Same = a
others-trans line id J K L a (More e M b off) = More e M (others-trans line id J K M a b) off

-- what each of them leaves, all leave
module _ (line : ℕ) (id : Id) (J : List LaneEvent) where
  module _ (F : List LaneEvent → Type 0) where
    pub lasts-by : ((e : LaneEvent) (K : List LaneEvent) → IsAnothers line id K e → F K → F (e ∷ K)) → (K : List LaneEvent) → AreOthers line id J K → F J → F K
    lasts-by one K Same f = f
    lasts-by one K (More e L a off) f = one e L off (lasts-by one L a f)

    -- where the journal is legal
    pub lasts-in : (S : Setting) → ((e : LaneEvent) (K : List LaneEvent) → IsLegal S (e ∷ K) → IsAnothers line id K e → F K → F (e ∷ K)) → (K : List LaneEvent) → AreOthers line id J K → IsLegal S K → F J → F K
    lasts-in S one K Same legal f = f
    lasts-in S one K (More e L a off) legal f = one e L legal off (lasts-in S one L a legal.0 f)

  -- ---- what is read by line

  pub began-lasts : (K : List LaneEvent) → AreOthers line id J K → began line (history K) ≡ began line (history J)
  began-lasts K a = lasts-by (λ M. began line (history M) ≡ began line (history J)) (λ e M off h. one.began-passes line id M e off ∙ h) K a refl

  pub prepared-lasts : (K : List LaneEvent) → AreOthers line id J K → prepared line (history K) ≡ prepared line (history J)
  prepared-lasts K a = lasts-by (λ M. prepared line (history M) ≡ prepared line (history J)) (λ e M off h. one.prepared-passes line id M e off ∙ h) K a refl

  pub wrote-lasts : (K : List LaneEvent) → AreOthers line id J K → wrote line (history K) ≡ wrote line (history J)
  wrote-lasts K a = lasts-by (λ M. wrote line (history M) ≡ wrote line (history J)) (λ e M off h. one.wrote-passes line id M e off ∙ h) K a refl

  pub closed-lasts : (K : List LaneEvent) → AreOthers line id J K → closed line (history K) ≡ closed line (history J)
  closed-lasts K a = lasts-by (λ M. closed line (history M) ≡ closed line (history J)) (λ e M off h. one.closed-passes line id M e off ∙ h) K a refl

  pub before-lasts : (K : List LaneEvent) → AreOthers line id J K → before_line line (history K) ≡ before_line line (history J)
  before-lasts K a = lasts-by (λ M. before_line line (history M) ≡ before_line line (history J)) (λ e M off h. one.before-passes line id M e off ∙ h) K a refl

pub opened-lasts : (line : ℕ) (id : Id) (J K : List LaneEvent) → AreOthers line id J K → (v : ℕ) → opened v (history J) ≡ true → opened v (history K) ≡ true
opened-lasts line id J K a v h = lasts-by line id J (λ M. opened v (history M) ≡ true) (λ e M off is. opened-stays v (history M) (meaning M e) is) K a h

-- who answered the line's Store
pub answered-lasts : (line : ℕ) (id : Id) (J K : List LaneEvent) → AreOthers line id J K → (v n : ℕ) (stamp : Stamp) → answered_store v id stamp n (history K) ≡ answered_store v id stamp n (history J)
answered-lasts line id J K a v n stamp = lasts-by line id J (λ M. answered_store v id stamp n (history M) ≡ answered_store v id stamp n (history J))
    (λ e M off h. one_read.answered-passes line id M e off (record { distributor = 0; version = v; id = id; stamp = None }) refl v n stamp ∙ h) K a refl

-- ---- the row of an operation that is prepared

module _ (S : Setting) (line : ℕ) (b : Beginning) (p : Preparing) (v : ℕ) (J : List LaneEvent) where
  pub open-lasts : (K : List LaneEvent) → AreOthers line b.id J K → IsOpen v line b p (history J) → IsOpen v line b p (history K)
  open-lasts K a o = record {
    began = began-lasts line b.id J K a ∙ o.began;
    version = o.version;
    prepared = prepared-lasts line b.id J K a ∙ o.prepared;
    unclosed = closed-lasts line b.id J K a ∙ o.unclosed;
  }

  -- its members may lose their marks, and none gets one
  pub complete-lasts : (K : List LaneEvent) → AreOthers line b.id J K → IsLegal S K → IsOpen v line b p (history J) → (key : ℕ) → contains p.row key ≡ true → (n : ℕ) → complete v n key (history K) ≡ true → complete v n key (history J) ≡ true
  complete-lasts K Same legal o key inside n h = h
  complete-lasts K (More e L a off) legal o key inside n h =
      complete-lasts L a legal.0 o key inside n (one_row.complete-falls S.acks (state_of (history (e ∷ L))) (history L) (meaning L e) (meant-legal S (e ∷ L) legal) v line b p (open-lasts L a o) key inside n h)

  pub active-lasts : (K : List LaneEvent) → AreOthers line b.id J K → IsLegal S K → IsOpen v line b p (history J) → (key : ℕ) → contains p.row key ≡ true → active v key (history K) ≡ active v key (history J)
  active-lasts K Same legal o key inside = refl
  active-lasts K (More e L a off) legal o key inside =
      one_row.active-passes S.acks (state_of (history (e ∷ L))) (history L) (meaning L e) (meant-legal S (e ∷ L) legal) v line b p (open-lasts L a o) key inside ∙ active-lasts L a legal.0 o key inside

-- ---- the operation

module _ (lane : Low) (rules : Rules) (J K : List LaneEvent) (d : ℕ) (s : ClusterState) (line : ℕ) where
  pub under_way-lasts : (o : Operation) (stamp : Option Stamp) → AreOthers line o.id J K → IsUnderWay lane (history J) d s line o stamp → IsUnderWay lane (history K) d s line o stamp
  under_way-lasts o stamp a u = lasts-by line o.id J (λ M. IsUnderWay lane (history M) d s line o stamp) (λ e M off h. one.under_way-passes line o.id M e off lane d s o stamp h) K a u

  pub acting-lasts : (o : Operation) (stamp : Option Stamp) → AreOthers line o.id J K → IsLegal (setting_of lane rules) K → IsUnderWay lane (history J) d s line o stamp → IsActing lane J d s → IsActing lane K d s
  acting-lasts o stamp a legal u acts =
      (lasts-in line o.id J (λ M. IsUnderWay lane (history M) d s line o stamp × IsActing lane M d s) (setting_of lane rules)
      (λ e M legal off h. (one.under_way-passes line o.id M e off lane d s o stamp h.0, one.acting-passes line o.id M e off lane d s o stamp (setting_of lane rules) legal.1 h.0 h.1)) K a legal (u, acts)).1

  pub preparing-lasts : (o : Operation) (stamp : Option Stamp) → AreOthers line o.id J K → KnowsPreparing lane (history J) d s line o stamp → KnowsPreparing lane (history K) d s line o stamp
  preparing-lasts o stamp a k = lasts-by line o.id J (λ M. KnowsPreparing lane (history M) d s line o stamp) (λ e M off h. one.preparing-passes line o.id M e off lane d s o stamp h) K a k

  -- one message that is awaited aside
  pub standing-lasts : (row : Low) (written : Option Entry) (awaited : Option ℕ) (t : Standing) → AreOthers line t.plan.operation.id J K → IsLegal (setting_of lane rules) K → KnowsStanding lane rules J d s line row written awaited t → KnowsStanding lane rules K d s line row written awaited t
  standing-lasts row written awaited t a legal k =
      lasts-in line t.plan.operation.id J (λ M. KnowsStanding lane rules M d s line row written awaited t) (setting_of lane rules) (λ e M l off h. one_read.standing-passes lane rules M e l d s line row written awaited t off h) K a legal k

  pub at-standing-lasts : (o : Operation) (row : Low) (written : Option Entry) (t : Standing) → AreOthers line o.id J K → IsLegal (setting_of lane rules) K → IsAtStanding lane rules J line o d s row written t → IsAtStanding lane rules K line o d s row written t
  at-standing-lasts o row written t a legal k =
      lasts-in line o.id J (λ M. IsAtStanding lane rules M line o d s row written t) (setting_of lane rules) (λ e M l off h. one_read.at-standing-passes lane rules M e l d s line o row written t off h) K a legal k

-- ---- the end

-- a line that may be closed with an outcome may be later
pub closing-lasts : (S : Setting) (line : ℕ) (b : Beginning) (J K : List LaneEvent) → AreOthers line b.id J K → IsLegal S K → began line (history J) ≡ Some b → closed line (history J) ≡ false → (x : Outcome) → IsLegalStep S J (Closed line x) → IsLegalStep S K (Closed line x)
closing-lasts S line b J K Same legal begun unclosed x step = step
closing-lasts S line b J K (More e L a off) legal begun unclosed x step =
    one_end.closing-passes S L e legal line b off (began-lasts line b.id J L a ∙ begun) (closed-lasts line b.id J L a ∙ unclosed) x (closing-lasts S line b J L a legal.0 begun unclosed x step)
