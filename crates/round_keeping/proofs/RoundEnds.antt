-- How a round begins and ends, at its owner's part.
use Rattle.std.proofs.Common.{◌≡◌, ◌≢◌, ◌↔◌, ◌<◌, ◌&&◌, ℕ, Bool, true, false, cond, nat_lt, List, ◌∷◌, Option, Some, None, length, slice_set, refl, sym, ap, subst, ◌∙◌, eqb, arith, eq-eqb, slice_get}
use mathlib.Core.Bool.{true≢false}
use Rattle.std.proofs.lemmas.Bool.{eqb-true}
use Rattle.std.proofs.lemmas.Bool.Decides.{nat_tests}
use Rattle.bucket_ids.specs.Buckets.{Low, IsIn, IsBucket, has_key}
use Rattle.node_sets.specs.Members.{has_node, size_below}
use Rattle.cluster_states.specs.declared.cluster_state.ClusterState.{ClusterState}
use Rattle.ideal_nodes.specs.Placement.{IsOwner}
use Rattle.messages.specs.declared.decision.Decision.TheVariants.{RoundBegun, RoundEnded}
use Rattle.bucket_db.specs.Rows.{Rows}
use Rattle.bucket_db.specs.declared.row.Row.{Row}
use Rattle.distributor_part.specs.declared.rules.Rules.{Rules}
use Rattle.distributor_part.specs.declared.stage.Stage.{Stage}
use Rattle.distributor_part.specs.declared.stage.Stage.TheVariants.{Running, Over}
use Rattle.distributor_part.specs.Parts.{Part, IsOwning}
use Rattle.distributor_part.specs.Steps.{BeginsRound, EndsRound, IsRowOf}
use Rattle.distributor_part.specs.Upkeep.{BeginsRoundAt}
use Rattle.merge_rounds.specs.Rounds.{RoundState, new_round, HaveAllShown, IsOver}
use Rattle.lane_journals.specs.Events as plain
use Rattle.lane_journals.specs.Buckets.{same_bucket, contains}
use Rattle.lane_journals.specs.Facts.{Idle}
use Rattle.lane_journals.specs.Readers.{Journal, is_read, round_of, running}
use Rattle.lane_journals.specs.Meanings.{history}
use Rattle.lane_journals.specs.declared.event.LaneEvent.{LaneEvent}
use Rattle.lane_journals.specs.declared.event.LaneEvent.TheVariants.{Decided}
use Rattle.lane_keeping.specs.LaneKeeping.{PartKeeps, part_in}
use Rattle.lane_keeping.specs.Acting.{IsActing, IsKnownRow}
use Rattle.lane_keeping.specs.Asking.{OthersStay}
use Rattle.lane_keeping.specs.RoundKeeping.{was_sent, is_of, is_apply, origin_in, KnowsRound, KnowsAnswers, NoRound}
use Rattle.round_keeping.specs.Laws.{IsBegun}
use Rattle.round_keeping.proofs.Sent.{sent-passes, passes}
use Rattle.round_keeping.specs.RoundRuns.{WasRefused, is_read_in, is_apply_in, KnowsRefusals, NoneRuns, GoesOn, IsRunBy, MayBegin, MayBeginAt, IsNewRun, Begins, IsToldOver, EndsJob, are_missing, is_short, IsEnd, IsCutOff, EndsWith, RunsOn, IsWholeRun, IsCutShort}
use Rattle.round_keeping.specs.declared.round_run.RoundRun.{RoundRun}
use Rattle.round_keeping.specs.declared.round_run.RoundEnd.{RoundEnd}
use Rattle.messages.specs.declared.late.Late.{Late}
use Rattle.carriers.specs.declared.fate.Fate.{Fate}
use Rattle.lane_keeping.proofs.Parts.{part-own, part-others}

-- ---- the part

pub owning-of : (lane : Low) (rules : Rules) (J : List LaneEvent) (d key : ℕ) (p : Part) → PartKeeps lane rules J d p → MayBegin lane d p key → IsOwning p
owning-of lane rules J d key p k m = record {
  state = m.state;
  heard = m.heard;
  owner = subst (λ (n : ℕ). IsOwner p.lane m.state n) (sym k.number_is) (subst (λ (l : Low). IsOwner l m.state d) (sym k.lane_is) m.owner);
}

pub inside-of : (lane : Low) (rules : Rules) (J : List LaneEvent) (d key : ℕ) (p : Part) → PartKeeps lane rules J d p → IsIn lane key → IsIn p.lane key
inside-of lane rules J d key p k h = subst (λ (l : Low). IsIn l key) (sym k.lane_is) h

-- ---- a round that begins

none-first : (set n : ℕ) → (has_node set n && nat_lt (size_below set n) 0) ≡ false
none-first set n = by_test (has_node set n)
  where
    none : (a : ℕ) → nat_lt a 0 ≡ false
    none a = grind (arith, nat_tests)

    by_test : (t : Bool) → (t && nat_lt (size_below set n) 0) ≡ false
    by_test true = none (size_below set n)
    by_test false = refl

module _ (lane : Low) (J : List LaneEvent) (d : ℕ) (s : ClusterState) (bucket : Low) (receivers : ℕ) where
  abbrev pub K : List LaneEvent
  K = Decided d s.version (RoundBegun bucket receivers) ∷ J

  abbrev i : ℕ
  i = round_of s.version bucket (history K)

  -- nobody was asked in it
  none-refused : (origin : _) (readers : ℕ) → KnowsRound lane K d s (new_round origin bucket readers receivers) → KnowsRefusals (history K) s.version i bucket false false
  none-refused origin readers k = record {
    unread_is = (λ h. absurd (true≢false (sym h)), λ w. absurd (true≢false (sym (read-sent w) ∙ k.reads_are (w.message).receiver ∙ none-first readers (w.message).receiver)));
    unapplied_is = (λ h. absurd (true≢false (sym h)), λ w. absurd (true≢false (sym (apply-sent w) ∙ k.applies_are (w.message).receiver ∙ none-first receivers (w.message).receiver)));
  }
    where
      read-sent : (w : WasRefused (history K) (is_read_in s.version bucket i)) → was_sent (is_of is_read s.version i (w.message).receiver) (history K) ≡ true
      read-sent w = sent-passes (is_of is_read s.version i (w.message).receiver) (history K) w.number w.message w.was_sent (passes is_read s.version i (w.message).receiver w.message (ap is_read w.tested.2) w.tested.0 w.tested.1 refl)

      apply-sent : (w : WasRefused (history K) (is_apply_in s.version bucket i)) → was_sent (is_of is_apply s.version i (w.message).receiver) (history K) ≡ true
      apply-sent w = sent-passes (is_of is_apply s.version i (w.message).receiver) (history K) w.number w.message w.was_sent (passes is_apply s.version i (w.message).receiver w.message (ap is_apply (w.tested.2).1) w.tested.0 w.tested.1 refl)

  others-still : NoneRuns J → (v : ℕ) (b : Low) → v ≢ s.version → running v b (history K) ≡ false
  others-still none v b other = by_test (eqb s.version v) refl
    where
      by_test : (t : Bool) → eqb s.version v ≡ t → cond t (cond (same_bucket bucket b) true (running v b (history J))) (running v b (history J)) ≡ false
      by_test true e = absurd (other (sym (eqb-true s.version v e)))
      by_test false e = none v b

  module _ (key : ℕ) (x : RoundRun) (n : IsNewRun lane d s key bucket receivers x) where
    abbrev new : RoundRun
    new = record { distributor = d; state = s; key = key; round = new_round (origin_in lane d s) bucket n.readers receivers; unread = false; unapplied = false }

    pub begins-by : IsActing lane J d s → NoneRuns J → KnowsRound lane K d s (new_round (origin_in lane d s) bucket n.readers receivers) → Begins lane J K d key x
    begins-by a none k = subst (λ (y : RoundRun). Begins lane J K d key y) (sym n.is) (record {
      distributor_is = refl;
      key_is = refl;
      grows = refl;
      runs = record {
        acting = record { holds = a.holds; published = a.published; owner = a.owner };
        knows = k;
        others = others-still none;
        refusals = none-refused (origin_in lane d s) n.readers k;
      };
      new = record { readers = n.readers; readers_are = n.readers_are; is = refl };
    })

    pub run-by : (p q : Part) (at : ℕ) → p.state ≡ Some s → p.asked ≡ 0 → p.awaited ≡ None → (b : BeginsRoundAt p q at bucket receivers) → has_key (b.row).bucket key ≡ true → IsRunBy q x
    run-by p q at heard unasked told b has = subst (λ (y : RoundRun). IsRunBy q y) (sym n.is) (record {
      heard = ap (λ (z : Part). z.state) b.after ∙ heard;
      unasked = ap (λ (z : Part). z.asked) b.after ∙ unasked;
      told = ap (λ (z : Part). z.awaited) b.after ∙ told;
      rows = b.rows;
      opened = ap (λ (z : Part). z.rows) b.after ∙ (b.opened).opened;
      at = at;
      running = ap (λ (z : Part). z.stage) b.after;
      row = b.row;
      is_row = record { found = b.found; has = has };
      row_is = b.same_bucket;
    })

    pub begins-there : (p q : Part) (at : ℕ) → BeginsRoundAt p q at bucket receivers → BeginsRoundAt p q at (x.round).row (x.round).receivers
    begins-there p q at b = subst (λ (y : RoundRun). BeginsRoundAt p q at (y.round).row (y.round).receivers) (sym n.is) b

    pub begins-at : (p q : Part) → BeginsRound p q key bucket receivers → BeginsRound p q key (x.round).row (x.round).receivers
    begins-at p q b = subst (λ (y : RoundRun). BeginsRound p q key (y.round).row (y.round).receivers) (sym n.is) b

-- ---- at its place

module _ (lane : Low) (rules : Rules) (parts : List Part) (d : ℕ) (p q : Part) (within : d < length parts) (is : part_in lane rules parts d ≡ p) where
  -- a fact of the part before and after
  pub both-at : (R : Part → Part → Type 0) → R p q → R (part_in lane rules parts d) (part_in lane rules (slice_set parts d q) d)
  both-at R h = subst (λ (y : Part). R (part_in lane rules parts d) y) (sym (part-own lane rules parts d q within)) (subst (λ (x : Part). R x q) (sym is) h)

  pub now-at : (R : Part → Type 0) → R q → R (part_in lane rules (slice_set parts d q) d)
  now-at R h = subst R (sym (part-own lane rules parts d q within)) h

  -- the part is another only in what no journal knows
  pub alike-at : (asked : ℕ) (awaited : Option ℕ) (stage : Stage) → q ≡ record p { asked = asked; awaited = awaited; stage = stage }
      → part_in lane rules (slice_set parts d q) d ≡ record (part_in lane rules parts d) { asked = asked; awaited = awaited; stage = stage }
  alike-at asked awaited stage e = part-own lane rules parts d q within ∙ e ∙ ap (λ (x : Part). record x { asked = asked; awaited = awaited; stage = stage }) (sym is)

-- one part is another after the other
pub others-then : (lane : Low) (rules : Rules) (parts : List Part) (d : ℕ) (p q : Part) → OthersStay lane rules (slice_set parts d p) (slice_set parts d q) d
others-then lane rules parts d p q e off = part-others lane rules parts d q e off ∙ sym (part-others lane rules parts d p e off)

-- ---- a round that ends

-- the row and the complete members of its end
module _ (p over q : Part) (x : RoundRun) (row : Row) (run : IsRunBy p x) (told : IsToldOver p over (x.round).holders) (ends : EndsJob over q x.key row) where
  abbrev end : EndsRound over ends.ended ends.bucket ends.complete
  end = ends.ends

  over-is : Over told.at (x.round).holders told.missing ≡ Over end.at ends.complete end.missing
  over-is = sym (ap (λ (z : Part). z.stage) told.after) ∙ end.over

  pub complete-is : ends.complete ≡ (x.round).holders
  complete-is = let e = over-is in cc

  place-is : run.at ≡ end.at
  place-is = (let a : run.at ≡ told.at = (let e = sym run.running ∙ told.running in cc) in a) ∙ (let e = over-is in cc)

  rows-are : run.rows ≡ end.rows
  rows-are = let e = sym run.opened ∙ sym (ap (λ (z : Part). z.rows) told.after) ∙ end.opened in cc

  row-is : run.row ≡ end.row
  row-is = let e = sym (run.is_row).found ∙ ap (λ (r : Rows). slice_get r.rows run.at) rows-are ∙ ap (λ (a : ℕ). slice_get (end.rows).rows a) place-is ∙ end.found in cc

  pub bucket-is : ends.bucket ≡ (x.round).row
  bucket-is = end.same_bucket ∙ sym (ap (λ (r : Row). r.bucket) row-is) ∙ sym run.row_is

  pub ended-as : EndsRound over ends.ended (x.round).row (x.round).holders
  ended-as = subst (λ (b : Low). EndsRound over ends.ended b (x.round).holders) bucket-is (subst (λ (c : ℕ). EndsRound over ends.ended ends.bucket c) complete-is end)

-- its part owns the lane
pub over-owning : (lane : Low) (rules : Rules) (J : List LaneEvent) (d complete : ℕ) (p over : Part) (x : RoundRun) → PartKeeps lane rules J d p → IsOwner lane x.state d → IsRunBy p x → IsToldOver p over complete → IsOwning over
over-owning lane rules J d complete p over x k owner run told = record {
  state = x.state;
  heard = ap (λ (z : Part). z.state) told.after ∙ run.heard;
  owner = subst (λ (n : ℕ). IsOwner over.lane x.state n) (sym (ap (λ (z : Part). z.number) told.after ∙ k.number_is)) (subst (λ (l : Low). IsOwner l x.state d) (sym (ap (λ (z : Part). z.lane) told.after ∙ k.lane_is)) owner);
}

pub over-inside : (lane : Low) (rules : Rules) (J : List LaneEvent) (d key complete : ℕ) (p over : Part) → PartKeeps lane rules J d p → IsIn lane key → IsToldOver p over complete → IsIn over.lane key
over-inside lane rules J d key complete p over k h told = subst (λ (l : Low). IsIn l key) (sym (ap (λ (z : Part). z.lane) told.after ∙ k.lane_is)) h

pub end-by : (K : List LaneEvent) (x : RoundRun) (e : RoundEnd) (row : Row) → e.row ≡ row → IsKnownRow (x.state).version (history K) row → contains row.bucket x.key ≡ true → (x.round).row ≡ row.bucket → KnowsAnswers K x.state x.round
    → KnowsRefusals (history K) (x.state).version (round_of (x.state).version (x.round).row (history K)) (x.round).row x.unread x.unapplied
    → ((e.whole ≡ true) ↔ HaveAllShown (x.round).readers (x.round).shown) → ((n : ℕ) → has_node e.missing n ≡ are_missing x.round e.whole n) → e.short ≡ is_short x e.whole → IsEnd K x e
end-by K x e row same known inside same_row answers refusals whole missing short = record {
  known = subst (λ (r : Row). IsKnownRow (x.state).version (history K) r) (sym same) known;
  inside = subst (λ (r : Row). contains r.bucket x.key ≡ true) (sym same) inside;
  same_row = subst (λ (r : Row). (x.round).row ≡ r.bucket) (sym same) same_row;
  answers = answers;
  refusals = refusals;
  whole_is = whole;
  missing_are = missing;
  short_is = short;
}

-- no round is under way then
pub none-then : (lane : Low) (J : List LaneEvent) (x : RoundRun) (b0 : Low) (complete : ℕ) → ((v : ℕ) (b : Low) → v ≢ (x.state).version → running v b (history J) ≡ false)
    → ((b : Low) → running (x.state).version b (history (Decided x.distributor (x.state).version (RoundEnded b0 complete) ∷ J)) ≡ false)
    → NoneRuns (Decided x.distributor (x.state).version (RoundEnded b0 complete) ∷ J)
none-then lane J x b0 complete others none v b = by_test (eqb (x.state).version v) refl
  where
    by_test : (t : Bool) → eqb (x.state).version v ≡ t → running v b (history (Decided x.distributor (x.state).version (RoundEnded b0 complete) ∷ J)) ≡ false
    by_test true e = subst (λ (w : ℕ). running w b (history (Decided x.distributor (x.state).version (RoundEnded b0 complete) ∷ J)) ≡ false) (eqb-true (x.state).version v e) (none b)
    by_test false e = ap (λ (t : Bool). cond t (cond (same_bucket b0 b) false (running v b (history J))) (running v b (history J))) e ∙ others v b (λ same. true≢false (sym (eq-eqb (x.state).version v (sym same)) ∙ e))

-- ---- what the laws ask

pub owner-as : (lane : Low) (d key : ℕ) (p : Part) (s : ClusterState) → MayBegin lane d p key → p.state ≡ Some s → IsOwner lane s d
owner-as lane d key p s m e = let same : m.state ≡ s = (let h = sym m.heard ∙ e in cc) in subst (λ (t : ClusterState). IsOwner lane t d) same m.owner

pub owner-place : (lane : Low) (d at : ℕ) (p : Part) (s : ClusterState) → MayBeginAt lane d p at → p.state ≡ Some s → IsOwner lane s d
owner-place lane d at p s m e = let same : m.state ≡ s = (let h = sym m.heard ∙ e in cc) in subst (λ (t : ClusterState). IsOwner lane t d) same m.owner

pub begun-of : (lane : Low) (rules : Rules) (J : List LaneEvent) (parts : List Part) (d at key : ℕ) (q : Part) (bucket : Low) (receivers : ℕ) (s : ClusterState) (b : BeginsRoundAt (part_in lane rules parts d) q at bucket receivers)
    → has_key (b.row).bucket key ≡ true → IsActing lane J d s → IsBucket bucket → ((rows : Rows) (key at : ℕ) (row : Row) → (part_in lane rules parts d).rows ≡ Some rows → IsRowOf rows key at row → IsKnownRow s.version (history J) row)
    → Idle s.version bucket (history J) → NoRound J s → IsBegun lane rules J parts d s q at bucket receivers
begun-of lane rules J parts d at key q bucket receivers s b has acting valid known idle none = record {
  acting = acting;
  valid = valid;
  begins = b;
  known = known b.rows key at b.row (b.opened).opened (record { found = b.found; has = has });
  idle = idle;
  no_round = none;
}

-- the same of a round in which no more was sent
pub answers-as : (J : List LaneEvent) (s : ClusterState) (r q : RoundState) → q ≡ record r { reads = q.reads; applies = q.applies; awaited = q.awaited } → KnowsAnswers J s r → KnowsAnswers J s q
answers-as J s r q e k = subst (λ (y : RoundState). KnowsAnswers J s y) (sym e) k

-- two rows of a key have the same bucket
pub same-row : (v : ℕ) (H : Journal) (d w : ℕ) (b : Low) (c : ℕ → Bool) (key : ℕ) (row row2 : Row) → IsKnownRow v H row → IsKnownRow v (plain.Decided d w (plain.RoundEnded b c) ∷ H) row2 → contains row.bucket key ≡ true → contains row2.bucket key ≡ true → row.bucket ≡ row2.bucket
same-row v H d w b c key row row2 k k2 i i2 = let e = sym ((k.is_row).row key i) ∙ (k2.is_row).row key i2 in cc

-- ---- a round that went on

pub run-by-goes : (p : Part) (x y : RoundRun) → GoesOn x y → IsRunBy p x → IsRunBy p y
run-by-goes p x y go r = record {
  heard = r.heard ∙ ap (λ (s : ClusterState). Some s) (sym (ap (λ (z : RoundRun). z.state) go.run_is));
  unasked = r.unasked;
  told = r.told;
  rows = r.rows;
  opened = r.opened;
  at = r.at;
  running = r.running ∙ ap (λ (n : ℕ). Running r.at n) (sym (ap (λ (z : RoundState). z.receivers) go.round_is));
  row = r.row;
  is_row = subst (λ (k : ℕ). IsRowOf r.rows k r.at r.row) (sym (ap (λ (z : RoundRun). z.key) go.run_is)) r.is_row;
  row_is = ap (λ (z : RoundState). z.row) go.round_is ∙ r.row_is;
}

module _ (lane : Low) (x y : RoundRun) where
  runs-to : (given after : List Fate) (last now mid : ℕ) (late rest between : List Late) (J K : List LaneEvent) → now ≡ mid → rest ≡ between → RunsOn lane x.distributor x.state given after last mid late between J K
      → RunsOn lane x.distributor x.state given after last now late rest J K
  runs-to given after last now mid late rest between J K a b h = subst (λ (n : ℕ). RunsOn lane x.distributor x.state given after last n late rest J K) (sym a) (subst (λ (l : List Late). RunsOn lane x.distributor x.state given after last mid late l J K) (sym b) h)

  -- the round was run to its end
  pub whole-of : (e : RoundEnd) (given after : List Fate) (last now mid : ℕ) (late rest between : List Late) (J before K : List LaneEvent) → now ≡ mid → rest ≡ between → GoesOn x y → IsOver y.round
      → RunsOn lane x.distributor x.state given after last mid late between J before → KnowsRound lane before y.distributor y.state y.round → EndsWith y before K → IsEnd K y e
      → IsWholeRun lane x e given after last now late rest J K
  whole-of e given after last now mid late rest between J before K a b go over on knows ended end = record {
    run = y;
    same = go;
    over = over;
    before = before;
    on = runs-to given after last now mid late rest between J before a b on;
    knows = subst (λ (d : ℕ). KnowsRound lane before d x.state y.round) (ap (λ (z : RoundRun). z.distributor) go.run_is) (subst (λ (s : ClusterState). KnowsRound lane before y.distributor s y.round) (ap (λ (z : RoundRun). z.state) go.run_is) knows);
    ended = ended;
    end = end;
  }

  -- the round was cut off
  pub cut-of : (given after : List Fate) (last now mid : ℕ) (late rest between : List Late) (J before K : List LaneEvent) → now ≡ mid → rest ≡ between → GoesOn x y
      → RunsOn lane x.distributor x.state given after last mid late between J before → IsCutOff lane before y → EndsWith y before K → IsCutShort lane x given after last now late rest J K
  cut-of given after last now mid late rest between J before K a b go on cut ended = record {
    run = y;
    same = go;
    before = before;
    on = runs-to given after last now mid late rest between J before a b on;
    round = cut.round;
    knows = subst (λ (d : ℕ). KnowsRound lane before d x.state cut.round) (ap (λ (z : RoundRun). z.distributor) go.run_is) (subst (λ (s : ClusterState). KnowsRound lane before y.distributor s cut.round) (ap (λ (z : RoundRun). z.state) go.run_is) (cut.runs).knows);
    ended = ended
        ∙ ap (λ (z : RoundRun). Decided z.distributor (z.state).version (RoundEnded (y.round).row (y.round).holders) ∷ before) go.run_is
        ∙ ap (λ (r : RoundState). Decided x.distributor (x.state).version (RoundEnded r.row r.holders) ∷ before) cut.rest;
  }
