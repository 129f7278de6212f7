-- What a message, a round and the opening of a state add to a journal are events of an upkeep.
use Rattle.std.proofs.Common.{◌≡◌, ◌+◌, ℕ, List, ◌∷◌, length, Option, Some, None, inl, inr, Bool, refl, sym, ap, subst, ◌∙◌}
use Rattle.bucket_ids.specs.Buckets.{Low}
use Rattle.cluster_states.specs.declared.cluster_state.ClusterState.{ClusterState}
use Rattle.carriers.specs.declared.fate.Fate.{Fate}
use Rattle.carriers.specs.declared.fate.Fate.TheVariants as fate
use Rattle.messages.specs.Noting.{noted_body}
use Rattle.messages.specs.declared.body.Body.{Body}
use Rattle.messages.specs.declared.decision.Decision.TheVariants.{RoundBegun, RoundEnded}
use Rattle.messages.specs.declared.message.Message.{Message}
use Rattle.messages.specs.declared.message.Origin.{Origin}
use Rattle.messages.specs.declared.late.Late.{Late}
use Rattle.distributor_part.specs.declared.rules.Rules.{Rules}
use Rattle.distributor_part.specs.Parts.{Part}
use Rattle.merge_rounds.specs.Rounds.{RoundState, IsNext}
use Rattle.lane_journals.specs.declared.event.LaneEvent.{LaneEvent}
use Rattle.lane_journals.specs.declared.event.LaneEvent.TheVariants as event
use Rattle.lane_keeping.specs.Replaying.{sending}
use Rattle.lane_carriage.specs.Carriage.{IsDealt, AreDelivered}
use Rattle.lane_carriage.specs.Waits.{numbers}
use Rattle.lane_keeping.specs.RoundKeeping.{origin_in}
use Rattle.lane_states.specs.declared.lane_state.LaneState.{LaneState}
use Rattle.lane_rounds.specs.declared.opening.OpeningEnd.{OpeningEnd}
use Rattle.round_keeping.specs.declared.round_run.RoundRun.{RoundRun}
use Rattle.round_keeping.specs.declared.round_run.RoundEnd.{RoundEnd}
use Rattle.lane_carriage.specs.Carrying.{met_at}
use Rattle.lane_states.specs.LaneStates.{journal_of, part_of, Went}
use Rattle.lane_rounds.specs.Openings.{IsGone, IsAsked, Nobody, More, EndsBy, EndsOpening, StopsOpening}
use Rattle.round_keeping.specs.RoundRuns as runs
use Rattle.round_keeping.specs.RoundRuns.{Sends, IsRoundRun, Begins, IsWholeRun, IsCutShort}
use Rattle.lane_carriage.proofs.GivenOut.{over-all}
use Rattle.upkeep_spans.specs.Spans as spans
use Rattle.upkeep_spans.specs.Spans.{IsUpkeepBody, IsUpkeepEvent, AreUpkeep}

-- ---- one message

module _ (d v : ℕ) (I : List LaneEvent) where
  abbrev U : List LaneEvent → Type 0
  U K = AreUpkeep d v I K

  on : (e : LaneEvent) (J K : List LaneEvent) → IsUpkeepEvent d v e → K ≡ e ∷ J → U J → U K
  on e J K h is u = subst U (sym is) (spans.More J e h u)

  pub upkeep-delivered : (ns : List ℕ) (J K : List LaneEvent) → AreDelivered ns J K → U J → U K
  upkeep-delivered ns J K h u = over-all U (λ n r X x. spans.More X (event.Delivered n r) tt x) ns J K h u

  pub upkeep-dealt : (f : Fate) (n : ℕ) (J K : List LaneEvent) → IsDealt f n J K → U J → U K
  upkeep-dealt fate.Deliver n J K h u = on (event.Returned n) (event.Delivered n h.0 ∷ J) K tt h.1 (spans.More J (event.Delivered n h.0) tt u)
  upkeep-dealt fate.LoseRequest n J K h u = subst U (sym h) u
  upkeep-dealt fate.LoseReply n J K h u = on (event.Delivered n h.0) J K tt h.1 u
  upkeep-dealt fate.Twice n J K h u =
      on (event.Delivered n h.1) (event.Returned n ∷ event.Delivered n h.0 ∷ J) K tt h.2
      (spans.More (event.Delivered n h.0 ∷ J) (event.Returned n) tt (spans.More J (event.Delivered n h.0) tt u))
  upkeep-dealt (fate.Late k) n J K h u = subst U (sym h) u

  pub upkeep-sent : (n : ℕ) (m : Message) (J : List LaneEvent) → m.sender ≡ d → m.version ≡ v → IsUpkeepBody (noted_body m.body) → U J → U (sending n m ∷ J)
  upkeep-sent n m J sender version body u = spans.More J (sending n m) (sender, version, body) u

  pub upkeep-gone : (n : ℕ) (m : Message) (J K : List LaneEvent) → m.sender ≡ d → m.version ≡ v → IsUpkeepBody (noted_body m.body) → IsGone n m J K → U J → U K
  upkeep-gone n m J K sender version body g u =
      upkeep-delivered g.numbers g.between K g.late (upkeep-dealt g.fate n (sending n m ∷ J) g.between g.dealt (upkeep-sent n m J sender version body u))

  pub upkeep-sends : (m : Message) (f : Fate) (last : ℕ) (late : List Late) (J : List LaneEvent) (rest : List Late) (K : List LaneEvent)
      → m.sender ≡ d → m.version ≡ v → IsUpkeepBody (noted_body m.body) → Sends m f last late J rest K → U J → U K
  upkeep-sends m f last late J rest K sender version body h u =
      upkeep-delivered (numbers (h.due).taken) h.after K (h.due).delivered
      (upkeep-dealt (met_at J m f) (last + 1) (sending (last + 1) m ∷ J) h.after h.dealt (upkeep-sent (last + 1) m J sender version body u))

pub upkeep-went : (d v : ℕ) (c e : LaneState) (m : Message) (given now : List Fate) → m.sender ≡ d → m.version ≡ v → IsUpkeepBody (noted_body m.body)
    → Went c e m given now → AreUpkeep d v (journal_of c) (journal_of e)
upkeep-went d v c e m given now sender version body w =
    upkeep-delivered d v (journal_of c) (numbers (w.late).taken) w.between (journal_of e) (w.late).delivered
    (upkeep-dealt d v (journal_of c) (met_at (journal_of c) m w.fate) (c.last + 1) (sending (c.last + 1) m ∷ journal_of c) w.between w.dealt
    (upkeep-sent d v (journal_of c) (c.last + 1) m (journal_of c) sender version body spans.Nothing))

-- ---- a round

-- the owner sends its next message: a Read of the whole row, or the union
next-body : (r : RoundState) (m : Message) → IsNext r (Some m) → IsUpkeepBody (noted_body m.body)
next-body r m (inl read) = subst (λ (b : Body). IsUpkeepBody (noted_body b)) (sym (ap (λ (x : Message). x.body) read.is)) tt
next-body r m (inr apply) = subst (λ (b : Body). IsUpkeepBody (noted_body b)) (sym (ap (λ (x : Message). x.body) apply.is)) tt

next-sender : (r : RoundState) (m : Message) → IsNext r (Some m) → m.sender ≡ (r.origin).sender
next-sender r m (inl read) = ap (λ (x : Message). x.sender) read.is
next-sender r m (inr apply) = ap (λ (x : Message). x.sender) apply.is

next-version : (r : RoundState) (m : Message) → IsNext r (Some m) → m.version ≡ (r.origin).version
next-version r m (inl read) = ap (λ (x : Message). x.version) read.is
next-version r m (inr apply) = ap (λ (x : Message). x.version) apply.is

module _ (lane : Low) (d : ℕ) (s : ClusterState) where
  pub upkeep-run : (last : ℕ) (late : List Late) (J : List LaneEvent) (fates : List Fate) (rest : List Late) (K : List LaneEvent) → IsRoundRun lane d s last late J fates rest K → AreUpkeep d s.version J K
  upkeep-run last late J fates rest K runs.Nothing = spans.Nothing
  upkeep-run last late J fates rest K (runs.Further before mid M f left L run h) =
      let origin : (h.round).origin ≡ origin_in lane d s = (h.knows).origin_is in
      upkeep-sends d s.version J h.message f (last + length before) mid M left L
      (next-sender h.round h.message h.next ∙ ap (λ (o : Origin). o.sender) origin)
      (next-version h.round h.message h.next ∙ ap (λ (o : Origin). o.version) origin)
      (next-body h.round h.message h.next) h.sends (upkeep-run last late J before mid M run)

pub upkeep-begun : (lane : Low) (J K : List LaneEvent) (d key : ℕ) (x : RoundRun) → Begins lane J K d key x → AreUpkeep d (x.state).version J K
upkeep-begun lane J K d key x b = on d (x.state).version J (event.Decided d (x.state).version (RoundBegun (x.round).row (x.round).receivers)) J K (refl, refl) b.grows spans.Nothing

pub upkeep-whole : (lane : Low) (x : RoundRun) (e : RoundEnd) (given after : List Fate) (last now : ℕ) (late rest : List Late) (J K : List LaneEvent)
    → IsWholeRun lane x e given after last now late rest J K → AreUpkeep x.distributor (x.state).version J K
upkeep-whole lane x e given after last now late rest J K w =
    on x.distributor (x.state).version J (event.Decided (w.run).distributor ((w.run).state).version (RoundEnded ((w.run).round).row ((w.run).round).holders)) w.before K
    (ap (λ (z : RoundRun). z.distributor) (w.same).run_is, ap (λ (z : RoundRun). (z.state).version) (w.same).run_is)
    w.ended (upkeep-run lane x.distributor x.state last late J (w.on).fates rest w.before (w.on).run)

pub upkeep-cut : (lane : Low) (x : RoundRun) (given after : List Fate) (last now : ℕ) (late rest : List Late) (J K : List LaneEvent)
    → IsCutShort lane x given after last now late rest J K → AreUpkeep x.distributor (x.state).version J K
upkeep-cut lane x given after last now late rest J K w =
    on x.distributor (x.state).version J (event.Decided x.distributor (x.state).version (RoundEnded (w.round).row (w.round).holders)) w.before K (refl, refl)
    w.ended (upkeep-run lane x.distributor x.state last late J (w.on).fates rest w.before (w.on).run)

-- ---- an opening

-- the part that asked and was told still has the state
module _ (lane : Low) (rules : Rules) (d : ℕ) (s : ClusterState) (J : List LaneEvent) (p : Part) (heard : p.state ≡ Some s) where
  pub heard-on : (K : List LaneEvent) (q : Part) (short : Bool) → IsAsked lane rules d J p K q short → q.state ≡ Some s
  heard-on _ _ _ Nobody = heard
  heard-on _ _ _ (More K L q asked told number m was one before keeps asks gone settled hears) =
      ap (λ (z : Part). z.state) hears.after ∙ ap (λ (z : Part). z.state) asks.after ∙ heard-on K q was before

  version-is : (q : Part) (t : ClusterState) → q.state ≡ Some s → q.state ≡ Some t → t.version ≡ s.version
  version-is q t a b = let same : t ≡ s = (let e = sym b ∙ a in cc) in ap (λ (z : ClusterState). z.version) same

  pub upkeep-asked : (K : List LaneEvent) (q : Part) (short : Bool) → IsAsked lane rules d J p K q short → AreUpkeep d s.version J K
  upkeep-asked _ _ _ Nobody = spans.Nothing
  upkeep-asked _ _ _ (More K L q asked told number m was one before keeps asks gone settled hears) =
      upkeep-gone d s.version J number m K L
      (ap (λ (x : Message). x.sender) asks.message ∙ keeps.number_is)
      (ap (λ (x : Message). x.version) asks.message ∙ version-is q asks.state (heard-on K q was before) (asks.unopened).heard)
      (subst (λ (b : Body). IsUpkeepBody (noted_body b)) (sym (ap (λ (x : Message). x.body) asks.message)) tt)
      gone (upkeep-asked K q was before)

module _ (c e : LaneState) (d : ℕ) (s : ClusterState) (heard : (part_of c d).state ≡ Some s) where
  ends-by : (missing : Option ℕ) (short : Bool) (q : Part) → EndsBy c d missing short (journal_of e) q → AreUpkeep d s.version (journal_of c) (journal_of e)
  ends-by None short q h =
      on d s.version (journal_of c) (event.Opened d ((h.opens).state).version h.buckets) h.before (journal_of e)
      (refl, version-is c.lane c.rules d s (journal_of c) (part_of c d) heard h.part (h.opens).state (heard-on c.lane c.rules d s (journal_of c) (part_of c d) heard h.before h.part short h.asked) ((h.opens).unopened).heard)
      h.grows (upkeep-asked c.lane c.rules d s (journal_of c) (part_of c d) heard h.before h.part short h.asked)
  ends-by (Some missing) short q h = upkeep-asked c.lane c.rules d s (journal_of c) (part_of c d) heard (journal_of e) h.part short h.asked

  pub upkeep-opened : (end : OpeningEnd) → EndsOpening c e d end → AreUpkeep d s.version (journal_of c) (journal_of e)
  upkeep-opened end h = ends-by end.missing end.short h.part h.ends

  pub upkeep-stopped : StopsOpening c e d → AreUpkeep d s.version (journal_of c) (journal_of e)
  upkeep-stopped h = upkeep-asked c.lane c.rules d s (journal_of c) (part_of c d) heard (journal_of e) (h.stops).part (h.stops).short (h.stops).asked

-- one behind another
pub upkeep-then : (d v : ℕ) (I J K : List LaneEvent) → AreUpkeep d v I J → AreUpkeep d v J K → AreUpkeep d v I K
upkeep-then d v I J K a spans.Nothing = a
upkeep-then d v I J K a (spans.More L e h b) = spans.More L e h (upkeep-then d v I J L a b)
