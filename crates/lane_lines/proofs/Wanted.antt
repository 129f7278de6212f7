-- The messages and the end of a round are what the line of its operation wants.
use Rattle.std.proofs.Common.{◌≡◌, ◌<◌, ◌+◌, arith, ℕ, true, List, ◌∷◌, length, Option, Some, None, inl, inr, refl, sym, ap, subst, ◌∙◌}
use Rattle.bucket_ids.specs.Buckets.{Low}
use Rattle.stamps.specs.declared.stamp.Stamp.{Stamp}
use Rattle.cluster_states.specs.declared.cluster_state.ClusterState.{ClusterState}
use Rattle.carriers.specs.declared.fate.Fate.{Fate}
use Rattle.carriers.specs.declared.fate.Fate.TheVariants as fate
use Rattle.messages.specs.declared.message.Message.{Message}
use Rattle.messages.specs.declared.noted.NotedReply.{NotedReply}
use Rattle.messages.specs.declared.operation.Operation.{Operation}
use Rattle.messages.specs.declared.decision.Decision.TheVariants.{RoundBegun, RoundEnded}
use Rattle.bucket_db.specs.Rows.{Rows}
use Rattle.bucket_db.specs.declared.row.Row.{Row}
use Rattle.distributor_part.specs.declared.rules.Rules.{Rules}
use Rattle.distributor_part.specs.Parts.{Part}
use Rattle.distributor_part.specs.Steps.{BeginsRound, IsRowOf}
use Rattle.merge_rounds.specs.Rounds.{RoundState, IsNext}
use Rattle.messages.specs.declared.late.Late.{Late}
use Rattle.lane_carriage.specs.Carriage.{IsDealt, AreDelivered}
use Rattle.lane_journals.specs.Buckets.{contains, key_of}
use Rattle.lane_journals.specs.Readers.{Journal, sent, prepared, running}
use Rattle.lane_journals.specs.Meanings.{history}
use Rattle.lane_journals.specs.declared.event.LaneEvent.{LaneEvent}
use Rattle.lane_journals.specs.declared.event.LaneEvent.TheVariants.{Delivered, Returned, Decided}
use Rattle.lane_keeping.specs.Replaying.{sending}
use Rattle.lane_keeping.specs.Acting.{IsActing, IsKnownRow}
use Rattle.lane_keeping.specs.LaneKeeping.{PartKeeps}
use Rattle.lane_keeping.specs.RoundKeeping.{KnowsRound}
use Rattle.operation_keeping.specs.OperationKeeping.{IsUnderWay}
use Rattle.operation_keeping.specs.Wants.{Adds, WantsSince, NoRoundSince, RoundGives, IsRunSince, Still, Longer, IsCutRunSince}
use Rattle.lane_carriage.specs.Carrying.{met_at}
use Rattle.round_keeping.specs.RoundRuns.{SendsNext, IsRoundRun, Nothing, Further, IsRunning, NoneRuns, Begins, IsWholeRun, IsCutShort}
use Rattle.lane_lines.specs.RoundLines.{IsBegunFor, IsWaitedFor}
use Rattle.round_keeping.specs.declared.round_run.RoundRun.{RoundRun}
use Rattle.round_keeping.specs.declared.round_run.RoundEnd.{RoundEnd}
use Rattle.lane_carriage.proofs.GivenOut.{over-all}

module _ (lane : Low) (rules : Rules) (d : ℕ) (s : ClusterState) (line : ℕ) (o : Operation) (stamp : Option Stamp) (row : Low) (inside : contains row (key_of o.id) ≡ true) (from : Journal) where
  -- the line waits for the round of the row
  record Waits (J : List LaneEvent) : Type 0 where
    pub acting : IsActing lane J d s
    pub under_way : IsUnderWay lane (history J) d s line o stamp
    pub unprepared : prepared line (history J) ≡ None
    pub runs : running s.version row (history J) ≡ true

  delivered : (J : List LaneEvent) (n : ℕ) (y : NotedReply) → Waits J → Waits (Delivered n y ∷ J)
  delivered J n y w = record { acting = record { holds = (w.acting).holds; published = (w.acting).published; owner = (w.acting).owner }; under_way = w.under_way; unprepared = w.unprepared; runs = w.runs }

  returned : (J : List LaneEvent) (n : ℕ) → Waits J → Waits (Returned n ∷ J)
  returned J n w = record { acting = record { holds = (w.acting).holds; published = (w.acting).published; owner = (w.acting).owner }; under_way = w.under_way; unprepared = w.unprepared; runs = w.runs }

  was-sent : (J : List LaneEvent) (n : ℕ) (m : Message) → Waits J → Waits (sending n m ∷ J)
  was-sent J n m w = record { acting = record { holds = (w.acting).holds; published = (w.acting).published; owner = (w.acting).owner }; under_way = w.under_way; unprepared = w.unprepared; runs = w.runs }

  -- the journal grew by what the line wants, and the line waits on
  record Goes (J K : List LaneEvent) : Type 0 where
    pub run : IsRunSince lane rules line o from J K
    pub waits : Waits K

  on-delivered : (J K : List LaneEvent) (n : ℕ) (y : NotedReply) → Goes J K → Goes J (Delivered n y ∷ K)
  on-delivered J K n y g = record { run = Longer (Delivered n y) K g.run (inl tt); waits = delivered K n y g.waits }

  on-returned : (J K : List LaneEvent) (n : ℕ) → sent n from ≡ None → Goes J K → Goes J (Returned n ∷ K)
  on-returned J K n none g = record { run = Longer (Returned n) K g.run (inl none); waits = returned K n g.waits }

  wants : (K : List LaneEvent) (e : LaneEvent) → Waits K → (r : RoundState) → KnowsRound lane K d s r → (next : Option Message) → IsNext r next → RoundGives d s r next (Adds e) → WantsSince lane rules line o from K (Adds e)
  wants K e w r k next is gives = record {
    distributor = d;
    state = s;
    stamp = stamp;
    acting = w.acting;
    under_way = w.under_way;
    wants = inl (w.unprepared, inr (inr (inl (record { round = r; knows = k; inside = subst (λ (b : Low). contains b (key_of o.id) ≡ true) (k.only row w.runs) inside; next = next; is_next = is; gives = gives }))));
  }

  on-dealt : (f : Fate) (n : ℕ) → sent n from ≡ None → (I J K : List LaneEvent) → IsDealt f n J K → Goes I J → Goes I K
  on-dealt fate.Deliver n none I J K h g = subst (λ (x : List LaneEvent). Goes I x) (sym h.1) (on-returned I _ n none (on-delivered I J n h.0 g))
  on-dealt fate.LoseRequest n none I J K h g = subst (λ (x : List LaneEvent). Goes I x) (sym h) g
  on-dealt fate.LoseReply n none I J K h g = subst (λ (x : List LaneEvent). Goes I x) (sym h.1) (on-delivered I J n h.0 g)
  on-dealt fate.Twice n none I J K h g = subst (λ (x : List LaneEvent). Goes I x) (sym h.2) (on-delivered I _ n h.1 (on-returned I _ n none (on-delivered I J n h.0 g)))
  on-dealt (fate.Late k) n none I J K h g = subst (λ (x : List LaneEvent). Goes I x) (sym h) g

  on-all : (ns : List ℕ) (I J K : List LaneEvent) → AreDelivered ns J K → Goes I J → Goes I K
  on-all ns I J K h g = over-all (λ (x : List LaneEvent). Goes I x) (λ n r x y. on-delivered I x n r y) ns J K h g

  on-next : (f : Fate) (last : ℕ) → sent (last + 1) from ≡ None → (late rest : List Late) (I J K : List LaneEvent) → SendsNext lane d s f last late J rest K → Goes I J → Goes I K
  on-next f last none late rest I J K h g = on-all _ I (h.sends).after K ((h.sends).due).delivered (on-dealt (met_at J h.message f) (last + 1) none I (sending (last + 1) h.message ∷ J) (h.sends).after (h.sends).dealt
      (record { run = Longer (sending (last + 1) h.message) J g.run (inr (wants J (sending (last + 1) h.message) g.waits h.round h.knows (Some h.message) h.next (last + 1, refl))); waits = was-sent J (last + 1) h.message g.waits }))

  on-run : (last : ℕ) → ((n : ℕ) → last < n → sent n from ≡ None) → (late : List Late) (J : List LaneEvent) (fates : List Fate) (rest : List Late) (K : List LaneEvent) → IsRoundRun lane d s last late J fates rest K → Waits J → Goes J K
  on-run last above late J fates rest K Nothing w = record { run = Still; waits = w }
  on-run last above late J fates rest K (Further before mid M f left L run h) w = on-next f (last + length before) (above (last + length before + 1) (omega arith)) mid left J M L h (on-run last above late J before mid M run w)

module _ (lane : Low) (rules : Rules) (x : RoundRun) (J : List LaneEvent) (runs : IsRunning lane J x) (line : ℕ) (o : Operation) (stamp : Option Stamp) (waited : IsWaitedFor lane J x line o stamp) (from : Journal) (inside : contains (x.round).row x.key ≡ true) where
  inside-of : contains (x.round).row (key_of o.id) ≡ true
  inside-of = subst (λ (k : ℕ). contains (x.round).row k ≡ true) waited.key_is inside

  waits : Waits lane rules x.distributor x.state line o stamp (x.round).row inside-of from J
  waits = record { acting = runs.acting; under_way = waited.under_way; unprepared = waited.unprepared; runs = (runs.knows).under_way }

  -- a round that was run to its end
  pub whole-wanted : (e : RoundEnd) (given after : List Fate) (last : ℕ) → ((n : ℕ) → last < n → sent n from ≡ None) → (now : ℕ) (late rest : List Late) (K : List LaneEvent) → IsWholeRun lane x e given after last now late rest J K → IsRunSince lane rules line o from J K
  whole-wanted e given after last above now late rest K h =
      let g = on-run lane rules x.distributor x.state line o stamp (x.round).row inside-of from last above late J (h.on).fates rest h.before (h.on).run waits in
      let end : LaneEvent = Decided x.distributor (x.state).version (RoundEnded ((h.run).round).row ((h.run).round).holders) in
      subst (λ (L : List LaneEvent). IsRunSince lane rules line o from J L) (sym (h.ended ∙ ap (λ (z : RoundRun). Decided z.distributor (z.state).version (RoundEnded ((h.run).round).row ((h.run).round).holders) ∷ h.before) (h.same).run_is))
      (Longer end h.before g.run (inr (wants lane rules x.distributor x.state line o stamp (x.round).row inside-of from h.before end g.waits (h.run).round h.knows None h.over refl)))

  -- one that was cut off
  pub cut-wanted : (given after : List Fate) (last : ℕ) → ((n : ℕ) → last < n → sent n from ≡ None) → (now : ℕ) (late rest : List Late) (K : List LaneEvent) → IsCutShort lane x given after last now late rest J K → IsCutRunSince lane rules line o from J K
  cut-wanted given after last above now late rest K h =
      let g = on-run lane rules x.distributor x.state line o stamp (x.round).row inside-of from last above late J (h.on).fates rest h.before (h.on).run waits in
      (h.before, g.run, inr (record { distributor = x.distributor; state = x.state; round = h.round; knows = h.knows; ended = h.ended }))

-- ---- its beginning

-- its owner acted before
pub acting-before : (lane : Low) (J K : List LaneEvent) (d key : ℕ) (x : RoundRun) → Begins lane J K d key x → IsActing lane J x.distributor x.state
acting-before lane J K d key x b =
    let a = subst (λ (L : List LaneEvent). IsActing lane L x.distributor x.state) b.grows (b.runs).acting in
    record { holds = a.holds; published = a.published; owner = a.owner }

-- the line wants the round that the part begins
pub begin-wanted : (lane : Low) (rules : Rules) (x : RoundRun) (J K : List LaneEvent) (d key : ℕ) (p q : Part) → IsActing lane J x.distributor x.state → Begins lane J K d key x → PartKeeps lane rules J d p → BeginsRound p q key (x.round).row (x.round).receivers
    → ((rows : Rows) (at : ℕ) (row : Row) → p.rows ≡ Some rows → IsRowOf rows key at row → IsKnownRow (x.state).version (history J) row × (contains row.bucket key ≡ true)) → NoneRuns J
    → (line : ℕ) (o : Operation) (stamp : Option Stamp) (from : Journal) → IsBegunFor from lane J x line o stamp → IsRunSince lane rules line o from J K
begin-wanted lane rules x J K d key p q acting b kept begins known none line o stamp from w =
    let e : LaneEvent = Decided d (x.state).version (RoundBegun (x.round).row (x.round).receivers) in
    let row = begins.row in
    let fact = known begins.rows begins.at row (begins.opened).opened begins.is_row in
    let key_is : key ≡ key_of o.id = sym b.key_is ∙ w.key_is in
    subst (λ (L : List LaneEvent). IsRunSince lane rules line o from J L) (sym b.grows)
    (Longer e J Still (inr (record {
      distributor = x.distributor;
      state = x.state;
      stamp = stamp;
      acting = acting;
      under_way = w.under_way;
      wants = inl (
        w.unprepared,
        inr (inl (record {
          row = row;
          has_row = record { known = fact.0; inside = subst (λ (k : ℕ). contains row.bucket k ≡ true) key_is fact.1; no_round = none (x.state).version row.bucket };
          none = subst (λ (c : Low). NoRoundSince J from (x.state).version c) begins.same_bucket w.none;
          part = p;
          after = q;
          receivers = (x.round).receivers;
          keeps = subst (λ (n : ℕ). PartKeeps lane rules J n p) (sym b.distributor_is) kept;
          is_step = subst (λ (k : ℕ). BeginsRound p q k row.bucket (x.round).receivers) key_is (subst (λ (c : Low). BeginsRound p q key c (x.round).receivers) begins.same_bucket begins);
          is = ap (λ (n : ℕ). Adds (Decided n (x.state).version (RoundBegun (x.round).row (x.round).receivers))) (sym b.distributor_is)
              ∙ ap (λ (c : Low). Adds (Decided x.distributor (x.state).version (RoundBegun c (x.round).receivers))) begins.same_bucket;
        })),
      );
    })))
