-- A line that is to be prepared, over the round that is run for it.
use Rattle.std.proofs.Common.{◌≡◌, ◌≤◌, ◌+◌, ℕ, true, List, [], ◌∷◌, Option, Some, None, IsSome, inl, inr, refl, sym, ap, subst, ◌∙◌, arith, ◌%◌, ◌^◌, eq-eqb}
use Rattle.std.proofs.lemmas.Bool.{eqb-true}
use Rattle.bucket_ids.specs.Buckets.{Low, IsIn}
use Rattle.stamps.specs.declared.stamp.Stamp.{Stamp}
use Rattle.cluster_states.specs.declared.cluster_state.ClusterState.{ClusterState}
use Rattle.carriers.specs.declared.fate.Fate.{Fate}
use Rattle.global_ids.proofs.KeyLaws.{key_small}
use Rattle.messages.specs.declared.decision.Decision.TheVariants.{RoundBegun, RoundEnded}
use Rattle.messages.specs.declared.operation.Operation.{Operation}
use Rattle.bucket_db.specs.Rows.{Rows}
use Rattle.bucket_db.specs.declared.row.Row.{Row}
use Rattle.distributor_part.specs.Parts.{Part}
use Rattle.messages.specs.declared.late.Late.{Late}
use Rattle.lane_journals.specs.Buckets.{Id, contains, key_of}
use Rattle.lane_journals.specs.Events as plain
use Rattle.lane_journals.specs.Readers.{Journal, Message, stamps_of, rounds, round_of, round_in, sent}
use Rattle.lane_journals.specs.Meanings.{history, meaning}
use Rattle.lane_journals.specs.declared.event.LaneEvent.{LaneEvent}
use Rattle.lane_journals.specs.declared.event.LaneEvent.TheVariants.{Sent, Delivered, Returned, Decided}
use Rattle.lane_journals.proofs.Basics.{sent-stays, sent-cases, rounds-grow}
use Rattle.lane_journals.proofs.BucketLaws.{same_bucket-refl}
use Rattle.lane_keeping.specs.Acting.{IsActing}
use Rattle.operation_keeping.specs.Wants.{NoRoundSince}
use Rattle.round_keeping.specs.declared.round_run.RoundRun.{RoundRun}
use Rattle.round_keeping.specs.declared.round_run.RoundEnd.{RoundEnd}
use Rattle.lane_states.specs.LaneStates.{IsResting}
use Rattle.lane_keeping.specs.Tidings.{last_state}
use Rattle.lane_lines.specs.Steps.{IsUneventful}
use Rattle.round_keeping.specs.RoundRuns.{NoneRuns, MayBegin, Begins, EndsRun, IsWholeRun, IsCutShort}
use Rattle.lane_lines.specs.RoundLines.{IsBegunFor, IsWaitedFor}
use Rattle.lane_lines.specs.Readying.{IsToPrepare, BeganNoRound, HasSent}
use Rattle.proof_basics.proofs.Options.{some_same as some-same}
use Rattle.lane_states.proofs.SameStates.{same-state}
use Rattle.round_keeping.proofs.Staying.{stays-round}
use Rattle.lane_carriage.proofs.Staying.{IsOfMessage}

-- ---- a line that is to be prepared

module _ (lane : Low) (line : ℕ) (o : Operation) (stamp : Option Stamp) where
  -- it stays so over messages and rounds
  prepare-stays : (d : ℕ) (s : ClusterState) (e : LaneEvent) (J : List LaneEvent) → IsOfMessage e → IsToPrepare lane J line o d s stamp → IsToPrepare lane (e ∷ J) line o d s stamp
  prepare-stays d s (Sent n v x to body) J i w = record { acting = record { holds = (w.acting).holds; published = (w.acting).published; owner = (w.acting).owner }; knows = w.knows }
  prepare-stays d s (Delivered n r) J i w = record { acting = record { holds = (w.acting).holds; published = (w.acting).published; owner = (w.acting).owner }; knows = w.knows }
  prepare-stays d s (Returned n) J i w = record { acting = record { holds = (w.acting).holds; published = (w.acting).published; owner = (w.acting).owner }; knows = w.knows }
  prepare-stays d s _ J i w = absurd i

  prepare-begun : (d : ℕ) (s : ClusterState) (J : List LaneEvent) (x v : ℕ) (b : Low) (set : ℕ) → IsToPrepare lane J line o d s stamp → IsToPrepare lane (Decided x v (RoundBegun b set) ∷ J) line o d s stamp
  prepare-begun d s J x v b set w = record { acting = record { holds = (w.acting).holds; published = (w.acting).published; owner = (w.acting).owner }; knows = w.knows }

  prepare-ended : (d : ℕ) (s : ClusterState) (J : List LaneEvent) (x v : ℕ) (b : Low) (set : ℕ) → IsToPrepare lane J line o d s stamp → IsToPrepare lane (Decided x v (RoundEnded b set) ∷ J) line o d s stamp
  prepare-ended d s J x v b set w = record { acting = record { holds = (w.acting).holds; published = (w.acting).published; owner = (w.acting).owner }; knows = w.knows }

  module _ (J : List LaneEvent) (d : ℕ) (s : ClusterState) (w : IsToPrepare lane J line o d s stamp) where
    in-key : (b : Low) (id : Id) → contains b (key_of id) ≡ true → IsIn b (key_of id)
    unfolding contains key_of
    in-key b id h = (key_small id, eqb-true (key_of id % 2 ^ b.bits) b.low h)

    -- its round may begin
    pub may-begin : (p : Part) (key : ℕ) → key ≡ key_of o.id → p.state ≡ Some s → IsSome p.rows → IsResting p → MayBegin lane d p key
    may-begin p key same heard opened rest = by_rows p.rows refl opened
      where
        by_rows : (r : Option Rows) → p.rows ≡ r → IsSome r → MayBegin lane d p key
        by_rows None e some = absurd (cc)
        by_rows (Some rows) e some = record {
          state = s;
          heard = heard;
          owner = (w.acting).owner;
          rows = rows;
          opened = e;
          unasked = rest.unasked;
          told = rest.told;
          no_round = rest.no_round;
          inside = subst (λ (k : ℕ). IsIn lane k) (sym same) (in-key lane o.id ((w.knows).is_under_way).in_lane);
        }

-- ---- what the round leaves

-- what its events leave: the line is to be prepared, no state is published and no stamp drawn, the newest round of the
-- row has its number, and what was sent is
pub record Follows (lane : Low) (J K : List LaneEvent) (line : ℕ) (o : Operation) (d : ℕ) (s : ClusterState) (stamp : Option Stamp) (b : Low) (number : ℕ) : Type 0 where
  pub waits : IsToPrepare lane K line o d s stamp
  pub newest : last_state K ≡ last_state J
  pub counted : (v : ℕ) → stamps_of v (history K) ≡ stamps_of v (history J)
  pub round_is : round_of s.version b (history K) ≡ number
  pub sent_stays : HasSent (history J) K

module _ (lane : Low) (J : List LaneEvent) (line : ℕ) (o : Operation) (d : ℕ) (s : ClusterState) (stamp : Option Stamp) (b : Low) (number : ℕ) where
  abbrev F : List LaneEvent → Type 0
  F K = Follows lane J K line o d s stamp b number

  follows-stays : (e : LaneEvent) (K : List LaneEvent) → IsOfMessage e → F K → F (e ∷ K)
  follows-stays (Sent n v x to body) K i f = record { waits = prepare-stays lane line o stamp d s (Sent n v x to body) K i f.waits; newest = f.newest; counted = f.counted; round_is = f.round_is; sent_stays = λ k m h. sent-stays k (history K) m (meaning K (Sent n v x to body)) (f.sent_stays k m h) }
  follows-stays (Delivered n r) K i f = record { waits = prepare-stays lane line o stamp d s (Delivered n r) K i f.waits; newest = f.newest; counted = f.counted; round_is = f.round_is; sent_stays = f.sent_stays }
  follows-stays (Returned n) K i f = record { waits = prepare-stays lane line o stamp d s (Returned n) K i f.waits; newest = f.newest; counted = f.counted; round_is = f.round_is; sent_stays = f.sent_stays }
  follows-stays _ K i f = absurd i

  follows-ended : (K : List LaneEvent) (x v : ℕ) (c : Low) (set : ℕ) → F K → F (Decided x v (RoundEnded c set) ∷ K)
  follows-ended K x v c set f = record { waits = prepare-ended lane line o stamp d s K x v c set f.waits; newest = f.newest; counted = f.counted; round_is = f.round_is; sent_stays = f.sent_stays }

  -- a round that was run to its end, and one that was cut off
  pub follows-whole : (x : RoundRun) (e : RoundEnd) (given after : List Fate) (last now : ℕ) (late rest : List Late) (K L : List LaneEvent) → IsWholeRun lane x e given after last now late rest K L → F K → F L
  follows-whole x e given after last now late rest K L h f =
      subst F (sym h.ended) (follows-ended h.before (h.run).distributor ((h.run).state).version ((h.run).round).row ((h.run).round).holders
      (stays-round F follows-stays lane x.distributor x.state last late K (h.on).fates rest h.before (h.on).run f))

  pub follows-cut : (x : RoundRun) (given after : List Fate) (last now : ℕ) (late rest : List Late) (K L : List LaneEvent) → IsCutShort lane x given after last now late rest K L → F K → F L
  follows-cut x given after last now late rest K L h f =
      subst F (sym h.ended) (follows-ended h.before x.distributor (x.state).version (h.round).row (h.round).holders
      (stays-round F follows-stays lane x.distributor x.state last late K (h.on).fates rest h.before (h.on).run f))

  -- the rounds that are under way are the same where none is
  pub follows-quiet : (K : List LaneEvent) → F K → NoneRuns J → NoneRuns K → IsUneventful J K
  follows-quiet K f none then = record { newest = f.newest; counted = f.counted; rounds = λ v c. then v c ∙ sym (none v c) }

-- ---- a round that begins

module _ (lane : Low) (J K : List LaneEvent) (d key : ℕ) (x : RoundRun) (b : Begins lane J K d key x) (line : ℕ) (o : Operation) (s : ClusterState) (stamp : Option Stamp) (w : IsToPrepare lane J line o d s stamp) where
  acting-then : IsActing lane K d s
  acting-then = (subst (λ (L : List LaneEvent). IsToPrepare lane L line o d s stamp) (sym b.grows) (prepare-begun lane line o stamp d s J d (x.state).version (x.round).row (x.round).receivers w)).acting

  -- it is run under the state that the line goes by
  pub state-is : x.state ≡ s
  state-is = same-state lane K d x.state s (subst (λ (n : ℕ). IsActing lane K n x.state) b.distributor_is (b.runs).acting) acting-then

  pub to-run : IsToPrepare lane J line o x.distributor x.state stamp
  to-run = subst (λ (n : ℕ). IsToPrepare lane J line o n x.state stamp) (sym b.distributor_is) (subst (λ (t : ClusterState). IsToPrepare lane J line o d t stamp) (sym state-is) w)

  number-is : (v : ℕ) (c : Low) (H : Journal) → round_of v c (plain.Decided d v (plain.RoundBegun c) ∷ H) ≡ rounds v H + 1
  number-is v c H = rw (eq-eqb v v refl, same_bucket-refl c) refl

  pub follows-begun : Follows lane J K line o d s stamp (x.round).row (rounds s.version (history J) + 1)
  follows-begun =
      subst (λ (L : List LaneEvent). Follows lane J L line o d s stamp (x.round).row (rounds s.version (history J) + 1)) (sym b.grows)
      (record {
        waits = prepare-begun lane line o stamp d s J d (x.state).version (x.round).row (x.round).receivers w;
        newest = refl;
        counted = λ v. refl;
        round_is = subst (λ (v : ℕ). round_of s.version (x.round).row (plain.Decided d v (plain.RoundBegun (x.round).row) ∷ history J) ≡ rounds s.version (history J) + 1) (sym (ap (λ (t : ClusterState). t.version) state-is))
            (number-is s.version (x.round).row (history J));
        sent_stays = λ k m h. h;
      })

  module _ (same : key ≡ key_of o.id) where
    pub begun-for : (from : Journal) → BeganNoRound J from s.version → IsBegunFor from lane J x line o stamp
    begun-for from none = record {
      under_way = (to-run.knows).is_under_way;
      unprepared = (to-run.knows).unprepared;
      key_is = b.key_is ∙ same;
      none = subst (λ (t : ClusterState). NoRoundSince J from t.version (x.round).row) (sym state-is) (none (x.round).row);
    }

    pub waited-for : IsWaitedFor lane K x line o stamp
    waited-for =
        let f = follows-begun in
        let z : IsToPrepare lane K line o x.distributor x.state stamp = subst (λ (n : ℕ). IsToPrepare lane K line o n x.state stamp) (sym b.distributor_is) (subst (λ (t : ClusterState). IsToPrepare lane K line o d t stamp) (sym state-is) f.waits) in
        record { under_way = (z.knows).is_under_way; unprepared = (z.knows).unprepared; key_is = b.key_is ∙ same }

-- ---- its part rests afterwards

pub ended-rests : (p q : Part) (x : RoundRun) (row : Row) → EndsRun p q x row → IsResting q
ended-rests p q x row e = record {
  unasked = ap (λ (z : Part). z.asked) (e.ends).after;
  told = ap (λ (z : Part). z.awaited) (e.ends).after;
  no_round = ap (λ (z : Part). z.stage) (e.ends).after;
}

-- ---- the number of the round

round-low : (v : ℕ) (b : Low) (H : Journal) → round_of v b H ≤ rounds v H
round-low v b [] = omega arith
round-low v b (e ∷ H) = by_event e (round-low v b H)
  where
    by_event : (e : plain.Event) → round_of v b H ≤ rounds v H → round_of v b (e ∷ H) ≤ rounds v (e ∷ H)
    by_event e h = grind arith

round-in-low : (v : ℕ) (x : plain.Body) (H : Journal) → round_in v x H ≤ rounds v H
round-in-low v (plain.Read b) H = round-low v b H
round-in-low v (plain.Apply b u) H = round-low v b H
round-in-low v _ H = omega arith

-- no message is of a later round than those that were begun
sent-low : (k : ℕ) (m : Message) (H : Journal) → sent k H ≡ Some m → m.round ≤ rounds m.version H
sent-low k m [] s = cc
sent-low k m (e ∷ H) s = let more = rounds-grow m.version H e in elim (sent-cases k H e m s) [
  | inl old ↦ (let i = sent-low k m H old in omega arith)
  | inr new ↦ (let i = round-in-low m.version m.body H in let z = new.round in omega arith)
]

module _ (lane : Low) (J K : List LaneEvent) (line : ℕ) (o : Operation) (d : ℕ) (s : ClusterState) (stamp : Option Stamp) (b : Low) (f : Follows lane J K line o d s stamp b (rounds s.version (history J) + 1)) where
  -- a round was begun since
  pub round-since : (from : Journal) → NoRoundSince J from s.version b → NoRoundSince K from s.version b → ⊥
  round-since from none then =
      let low = round-low s.version b (history J) in
      let is : rounds s.version (history J) + 1 ≡ round_of s.version b (history J) = sym f.round_is ∙ then ∙ sym none in
      absurd (omega (arith, low, is))

  -- and its messages were sent since then
  pub sent-since : (from : Journal) → HasSent from J → (k : ℕ) (m : Message) → sent k (history K) ≡ Some m → m.version ≡ s.version → m.round ≡ rounds s.version (history J) + 1 → sent k from ≡ None
  sent-since from has k m is version round = by_old (sent k from) refl
    where
      by_old : (y : Option Message) → sent k from ≡ y → y ≡ None
      by_old None e = refl
      by_old (Some y) e =
          let was : sent k (history J) ≡ Some y = has k y e in
          let still : sent k (history K) ≡ Some y = f.sent_stays k y was in
          let same : y ≡ m = some-same y m (sym still ∙ is) in
          let low : m.round ≤ rounds s.version (history J) = subst (λ (v : ℕ). m.round ≤ rounds v (history J)) version (subst (λ (z : Message). z.round ≤ rounds z.version (history J)) same (sent-low k y (history J) was)) in
          absurd (omega (arith, low, round))
