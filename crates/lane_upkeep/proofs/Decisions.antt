-- A decision on a row, and what it leaves of a pass.
use Rattle.std.proofs.Common.{◌≡◌, ◌<◌, ℕ, zero, suc, List, [], ◌∷◌, length, Option, Some, slice_set, get_or, refl, sym, ap, ◌∙◌, subst, subst₂, arith}
use Rattle.std.specs.Prelude.{slice_get, vec_len, IfSome}
use Rattle.std.specs.Vec.{with_item}
use Rattle.bucket_ids.specs.Buckets.{Low}
use Rattle.cluster_states.specs.declared.cluster_state.ClusterState.{ClusterState}
use Rattle.carriers.specs.declared.fate.Fate.{Fate}
use Rattle.messages.specs.declared.decision.Decision.{Decision}
use Rattle.messages.specs.declared.decision.Decision.TheVariants.{RoundBegun, RoundEnded, RowSplit, RowsJoined, ActiveOn, DeleteFrom, DeleteOver}
use Rattle.bucket_db.specs.Rows.{Rows, AreRows, buckets_of}
use Rattle.bucket_db.proofs.RowLists.{read_is}
use Rattle.bucket_db.specs.declared.row.Deleting.{Deleting}
use Rattle.bucket_db.specs.declared.row.Row.{Row}
use Rattle.distributor_part.specs.Parts.{Part, rows_of}
use Rattle.distributor_part.specs.Steps.{IsOpened}
use Rattle.distributor_part.specs.Upkeep.{JoinsRows, EndsDelete}
use Rattle.lane_journals.specs.Readers.{answer, round_of, running}
use Rattle.lane_journals.specs.Facts.{AnsweredApply, Idle}
use Rattle.lane_journals.specs.Meanings.{history, meaning_decision}
use Rattle.lane_journals.specs.Events as plain
use Rattle.lane_journals.specs.KeptJournals.{past}
use Rattle.lane_journals.specs.declared.event.LaneEvent.{LaneEvent}
use Rattle.lane_journals.specs.declared.event.LaneEvent.TheVariants.{Decided}
use Rattle.lane_keeping.specs.LaneKeeping.{part_in, Keeps}
use Rattle.lane_keeping.specs.Acting.{IsActing}
use Rattle.lane_keeping.specs.Asking.{OthersStay}
use Rattle.lane_keeping.specs.Laws.{IsKeptNext}
use Rattle.row_keeping.specs.Deciding.{IsDeciding, HasDelete, IsDeleteOver}
use Rattle.distributor_part.proofs.PartLaws.{row_at}
use Rattle.round_keeping.proofs.Waiting.{answered-stays}
use Rattle.lane_states.specs.declared.lane_state.LaneState.{LaneState}
use Rattle.lane_states.specs.LaneStates.{journal_of, part_of, IsKept, IsKeptBy, HasRoom, IsResting, log_of, handed_of}
use Rattle.lane_states.specs.Told.{Log}
use Rattle.lane_carriage.specs.Carrying.{AreCarried}
use Rattle.round_keeping.specs.RoundRuns.{NoneRuns}
use Rattle.lane_states.specs.Accepting.{IsPartAccepted, AreAccepted}
use Rattle.lane_states.proofs.Accepting.{accepted-but}
use Rattle.lane_states.proofs.Kept.{kept_more, kept_still}
use Rattle.lane_states.proofs.Places.{part-at}
use Rattle.lane_keeping.proofs.Parts.{part-own, part-others}
use Rattle.round_keeping.proofs.Runs.{carried-decided}
use Rattle.upkeep_spans.specs.Spans.{AreUpkeep, OfUpkeep, Nothing, More}
use Rattle.lane_upkeep.specs.declared.owner.Owner.{Owner}
use Rattle.pass_machine.specs.declared.notes.RowNote.{RowNote}
use Rattle.lane_upkeep.specs.Deciding.{HasEnded}
use Rattle.lane_upkeep.specs.Noted.{StaysKnown}
use Rattle.lane_upkeep.specs.Notes.{KnowsNote}
use Rattle.lane_upkeep.specs.Passing.{IsPassing, PassesOn, rows_in, HasRow}

-- ---- decisions that begin and end no round

abbrev pub IsOfRows : Decision → Type 0
IsOfRows (RoundBegun b r) = ⊥
IsOfRows (RoundEnded b c) = ⊥
IsOfRows _ = Unit {0}

runs-on : (J : List LaneEvent) (d v : ℕ) (x : Decision) → IsOfRows x → (w : ℕ) (b : Low) → running w b (history (Decided d v x ∷ J)) ≡ running w b (history J)
runs-on J d v (RoundBegun c r) q w b = absurd q
runs-on J d v (RoundEnded c s) q w b = absurd q
runs-on J d v (RowSplit c) q w b = refl
runs-on J d v (RowsJoined c) q w b = refl
runs-on J d v (ActiveOn c n) q w b = refl
runs-on J d v (DeleteFrom c n s) q w b = refl
runs-on J d v (DeleteOver c n) q w b = refl

round-on : (J : List LaneEvent) (d v : ℕ) (x : Decision) → IsOfRows x → (w : ℕ) (b : Low) → round_of w b (history (Decided d v x ∷ J)) ≡ round_of w b (history J)
round-on J d v (RoundBegun c r) q w b = absurd q
round-on J d v (RoundEnded c s) q w b = absurd q
round-on J d v (RowSplit c) q w b = refl
round-on J d v (RowsJoined c) q w b = refl
round-on J d v (ActiveOn c n) q w b = refl
round-on J d v (DeleteFrom c n s) q w b = refl
round-on J d v (DeleteOver c n) q w b = refl

pub none-runs-on : (J : List LaneEvent) (d v : ℕ) (x : Decision) → IsOfRows x → NoneRuns J → NoneRuns (Decided d v x ∷ J)
none-runs-on J d v x q none w b = runs-on J d v x q w b ∙ none w b

-- a note is known still
pub known-on : (J : List LaneEvent) (d v : ℕ) (x : Decision) (s : ClusterState) (note : RowNote) → IsOfRows x → KnowsNote J s note → KnowsNote (Decided d v x ∷ J) s note
known-on J d v x s note q k =
    let e = plain.Decided d v (meaning_decision x) in
    let same : round_of s.version note.bucket (e ∷ history J) ≡ round_of s.version note.bucket (history J) = round-on J d v x q s.version note.bucket in
    record {
      exact_are = λ y h. let g = k.exact_are y h in record {
        given = g.given;
        shown = ap (λ (i : ℕ). answer s.version i y.node (e ∷ history J)) same ∙ g.shown;
        names = g.names;
      };
      holders_are = λ n h. subst (λ (i : ℕ). AnsweredApply s.version i n note.bucket (e ∷ history J)) (sym same)
          (answered-stays s.version (round_of s.version note.bucket (history J)) n note.bucket (history J) e (k.holders_are n h));
    }

-- ---- the lane where nothing was decided

-- a list whose element is written as it was
pub set-same : {X : Type 0} (xs : List X) (i : ℕ) (x : X) → i < length xs → x ≡ get_or xs i x → slice_set xs i x ≡ xs
set-same [] i x h e = absurd (omega (arith, h))
set-same (y ∷ ys) zero x h e = ap (λ z. z ∷ ys) e
set-same (y ∷ ys) (suc i) x h e = ap (λ zs. y ∷ zs) (set-same ys i x (omega (arith, h)) e)

module _ (c e : LaneState) (o : Owner) (after : e ≡ record c { journal = e.journal; parts = e.parts }) (len : vec_len e.parts ≡ vec_len c.parts) where
  abbrev d : ℕ
  d = o.distributor

  abbrev v : ℕ
  v = (o.state).version

  abbrev J : List LaneEvent
  J = journal_of c

  -- what is known of the longer lane is known of this one
  of_after : (P : LaneState → Type 0) → P e → P (record c { journal = e.journal; parts = e.parts })
  of_after P h = subst P after h

  whole : e ≡ record c { journal = e.journal; last = e.last; nodes = e.nodes; parts = e.parts; late = e.late }
  whole = after ∙ ap (λ (z : LaneState). record c { journal = e.journal; last = z.last; nodes = z.nodes; parts = e.parts; late = z.late }) (sym after)

  -- the journal is the same, and so are the parts, or one is another in what no journal knows
  module _ (same : journal_of e ≡ J) (others : OthersStay c.lane c.rules c.parts.items e.parts.items d) where
    pub still-on : PassesOn c e o
    still-on = record { others = others; parts = len; after = whole; grows = subst (AreUpkeep d v J) (sym same) Nothing }

    pub still-known : StaysKnown c e o
    still-known note k = subst (λ (K : List LaneEvent). KnowsNote K o.state note) (sym same) k

    pub still-passes : log_of e ≡ log_of c → (given : List Fate) → HasRoom 0 e → Keeps c.lane c.rules J c.newest c.last c.nodes.items e.parts.items → AreAccepted c.lane c.rules J e.parts.items → (rows : Rows) → IsOpened (part_of e d) o.state rows
        → IsResting (part_of e d) → IsPassing c o given → IsPassing e o given
    still-passes told given room keeps accepted rows opened resting h = subst (λ (z : LaneState). IsPassing z o given) (sym after) (record {
      keeps = subst₂ (λ (K : List LaneEvent) (l : Log). IsKeptBy c.lane c.rules K c.newest c.last c.nodes.items e.parts.items c.late.late c.stopped (record { log = l; handed = handed_of c })) (sym same) (sym (ap (λ (l : Log). record l { turn_room = c.turn_room }) told)) (kept_still h.keeps (omega arith) keeps accepted);
      spare = of_after (HasRoom 0) room;
      carried = subst (λ (K : List LaneEvent). AreCarried given K c.last c.late.late) (sym same) h.carried;
      there = subst (λ (n : ℕ). d < n) (sym len) h.there;
      acting = subst (λ (K : List LaneEvent). IsActing c.lane K d o.state) (sym same) h.acting;
      rows = rows;
      opened = of_after (λ (z : LaneState). IsOpened (part_of z d) o.state rows) opened;
      resting = of_after (λ (z : LaneState). IsResting (part_of z d)) resting;
      none_runs = subst NoneRuns (sym same) h.none_runs;
      idle = λ w b. subst (λ (K : List LaneEvent). Idle w b (history K)) (sym same) (h.idle w b);
    })

  -- ---- the lane where this was decided

  module _ (x : Decision) (of_rows : IsOfRows x) (grows : journal_of e ≡ Decided d v x ∷ J) (others : OthersStay c.lane c.rules c.parts.items e.parts.items d) where
    one : AreUpkeep d v J (Decided d v x ∷ J)
    one = More J (Decided d v x) (refl, refl) Nothing

    pub decided-on : PassesOn c e o
    decided-on = record { others = others; parts = len; after = whole; grows = subst (AreUpkeep d v J) (sym grows) one }

    pub decided-known : StaysKnown c e o
    decided-known note k = subst (λ (K : List LaneEvent). KnowsNote K o.state note) (sym grows) (known-on J d v x o.state note of_rows k)

    pub decided-passes : log_of e ≡ log_of c → OfUpkeep (λ J K. (w : ℕ) (b : Low) → Idle w b (history J) → Idle w b (history K)) → (given : List Fate) → HasRoom 0 e
        → IsKeptNext c.lane c.rules J c.newest c.last c.nodes.items e.parts.items (Decided d v x) → AreAccepted c.lane c.rules J e.parts.items → (rows : Rows) → IsOpened (part_of e d) o.state rows
        → IsResting (part_of e d) → IsPassing c o given → IsPassing e o given
    decided-passes told idles given room next accepted rows opened resting h = subst (λ (z : LaneState). IsPassing z o given) (sym after) (record {
      keeps = subst₂ (λ (K : List LaneEvent) (l : Log). IsKeptBy c.lane c.rules K c.newest c.last c.nodes.items e.parts.items c.late.late c.stopped (record { log = l; handed = handed_of c })) (sym grows) (sym (ap (λ (l : Log). record l { turn_room = c.turn_room }) told)) (kept_more h.keeps next.keeps tt accepted);
      spare = of_after (HasRoom 0) room;
      carried = subst (λ (K : List LaneEvent). AreCarried given K c.last c.late.late) (sym grows) (carried-decided given J c.last c.late.late d v x h.carried);
      there = subst (λ (n : ℕ). d < n) (sym len) h.there;
      acting = subst (λ (K : List LaneEvent). IsActing c.lane K d o.state) (sym grows) (record { holds = (h.acting).holds; published = (h.acting).published; owner = (h.acting).owner });
      rows = rows;
      opened = of_after (λ (z : LaneState). IsOpened (part_of z d) o.state rows) opened;
      resting = of_after (λ (z : LaneState). IsResting (part_of z d)) resting;
      none_runs = subst NoneRuns (sym grows) (none-runs-on J d v x of_rows h.none_runs);
      idle = λ w b. subst (λ (K : List LaneEvent). Idle w b (history K)) (sym grows) (idles d v J (Decided d v x ∷ J) one w b (h.idle w b));
    })

-- ---- a part at its place

-- the lane where there is room is another only in that
pub record Writes (c r e : LaneState) (o : Owner) (p q : Part) : Type 0 where
  pub same : r.journal.events.items ≡ c.journal.events.items
  pub told : log_of e ≡ log_of c
  pub roomy : r ≡ record c { journal = r.journal }
  pub here : o.distributor < length r.parts.items
  pub read : p ≡ get_or r.parts.items o.distributor p
  pub rest : e ≡ record r { journal = e.journal; parts = e.parts }
  pub items : e.parts.items ≡ slice_set r.parts.items o.distributor q
  pub len : vec_len e.parts ≡ vec_len r.parts

module _ {c r e : LaneState} {o : Owner} {p q : Part} (w : Writes c r e o p q) where
  pub writes-after : e ≡ record c { journal = e.journal; parts = e.parts }
  writes-after = w.rest ∙ ap (λ (z : LaneState). record z { journal = e.journal; parts = e.parts }) w.roomy

  parts-same : r.parts ≡ c.parts
  parts-same = ap (λ (z : LaneState). z.parts) w.roomy

  pub writes-len : vec_len e.parts ≡ vec_len c.parts
  writes-len = w.len ∙ ap vec_len parts-same

  pub part-before : part_of c o.distributor ≡ p
  part-before = ap (λ (z : LaneState). part_of z o.distributor) (sym w.roomy) ∙ part-at r.lane r.rules r.parts.items o.distributor p w.here w.read

  lane-same : e.lane ≡ r.lane
  lane-same = ap (λ (z : LaneState). z.lane) w.rest

  rules-same : e.rules ≡ r.rules
  rules-same = ap (λ (z : LaneState). z.rules) w.rest

  pub part-after : part_of e o.distributor ≡ q
  part-after = ap (λ (z : LaneState). part_of z o.distributor) w.rest ∙ ap (λ (xs : List Part). part_in r.lane r.rules xs o.distributor) w.items
      ∙ part-own r.lane r.rules r.parts.items o.distributor q w.here

  pub writes-both : (R : Part → Part → Type 0) → R p q → R (part_of c o.distributor) (part_of e o.distributor)
  writes-both R h = subst (λ (y : Part). R (part_of c o.distributor) y) (sym part-after) (subst (λ (x : Part). R x q) (sym part-before) h)

  pub writes-others : OthersStay c.lane c.rules c.parts.items e.parts.items o.distributor
  writes-others = subst (λ (xs : List Part). OthersStay c.lane c.rules c.parts.items xs o.distributor) (sym (w.items ∙ ap (λ ps. slice_set ps.items o.distributor q) parts-same))
      (part-others c.lane c.rules c.parts.items o.distributor q)

  -- rows that are others leave the part opened and at rest
  module _ (rows : Rows) (changed : q ≡ record p { rows = Some rows }) where
    pub opened-then : (s : ClusterState) (old : Rows) → IsOpened (part_of c o.distributor) s old → IsOpened (part_of e o.distributor) s rows
    opened-then s old h = subst (λ (y : Part). IsOpened y s rows) (sym (part-after ∙ changed)) (record { heard = ap (λ (x : Part). x.state) (sym part-before) ∙ h.heard; opened = refl })

    pub resting-then : IsResting (part_of c o.distributor) → IsResting (part_of e o.distributor)
    resting-then h = subst (λ (y : Part). IsResting y) (sym (part-after ∙ changed)) (record {
      unasked = ap (λ (x : Part). x.asked) (sym part-before) ∙ h.unasked;
      told = ap (λ (x : Part). x.awaited) (sym part-before) ∙ h.told;
      no_round = ap (λ (x : Part). x.stage) (sym part-before) ∙ h.no_round;
    })

  -- the same, as the laws say it
  pub now-after : part_in c.lane c.rules e.parts.items o.distributor ≡ q
  now-after = ap (λ (xs : List Part). part_in c.lane c.rules xs o.distributor) (w.items ∙ ap (λ ps. slice_set ps.items o.distributor q) parts-same)
      ∙ part-own c.lane c.rules c.parts.items o.distributor q (subst (λ ps. o.distributor < length ps.items) parts-same w.here)

  pub writes-now : (R : Part → Part → Type 0) → R p q → R (part_of c o.distributor) (part_in c.lane c.rules e.parts.items o.distributor)
  writes-now R h = subst (λ (y : Part). R (part_of c o.distributor) y) (sym now-after) (subst (λ (x : Part). R x q) (sym part-before) h)

  -- which rows were accepted
  pub writes-accepted : (IsPartAccepted (history (journal_of c)) p → IsPartAccepted (history (journal_of c)) q) → IsKept c → AreAccepted c.lane c.rules (journal_of c) e.parts.items
  writes-accepted f k = accepted-but c.lane c.rules (journal_of c) c.parts.items e.parts.items o.distributor writes-others
      (writes-now (λ y z. IsPartAccepted (history (journal_of c)) y → IsPartAccepted (history (journal_of c)) z) f (k.accepted o.distributor)) k.accepted

  pub deciding : (given : List Fate) → IsPassing c o given → IsDeciding c.lane c.rules (journal_of c) c.parts.items e.parts.items o.distributor o.state
  deciding given h = record { acting = h.acting; others = writes-others; no_round = λ b. h.none_runs (o.state).version b; idle = λ b. h.idle (o.state).version b }

  -- the row that is read
  pub row-read : (at : ℕ) (slice : List Row) (read : Row) → at < length (rows_in c o) → slice ≡ rows_of p.rows → read ≡ get_or slice at read → HasRow c o at read
  row-read at slice read within same is =
      subst (λ (x : Part). slice_get (rows_of x.rows) at ≡ Some read) (sym part-before)
      (row_at (rows_of p.rows) slice at read (subst (λ (x : Part). at < length (rows_of x.rows)) part-before within) same is)

  -- where nothing is written
  pub unwritten : q ≡ p → e.parts.items ≡ c.parts.items
  unwritten same = w.items ∙ ap (slice_set r.parts.items o.distributor) same ∙ set-same r.parts.items o.distributor p w.here w.read ∙ ap (λ ps. ps.items) parts-same

-- a row of a place is one
pub row-is : (c : LaneState) (o : Owner) (at : ℕ) (read row : Row) (rows : Rows) → HasRow c o at read → (part_of c o.distributor).rows ≡ Some rows → slice_get rows.rows at ≡ Some row → read ≡ row
row-is c o at read row rows has opened found =
    let both : Some read ≡ Some row = sym has ∙ ap (λ x. slice_get (rows_of x) at) opened ∙ found in cc

-- ---- want of memory

module _ (c e : LaneState) (o : Owner) (after : e ≡ record c { journal = e.journal; parts = e.parts }) (len : vec_len e.parts ≡ vec_len c.parts) (same : journal_of e ≡ journal_of c) (items : e.parts.items ≡ c.parts.items) where
  pub part-same : part_of e o.distributor ≡ part_of c o.distributor
  part-same = ap (λ (z : LaneState). part_of z o.distributor) after ∙ ap (λ (xs : List Part). part_in c.lane c.rules xs o.distributor) items

  others-same : OthersStay c.lane c.rules c.parts.items e.parts.items o.distributor
  others-same n off = ap (λ (xs : List Part). part_in c.lane c.rules xs n) items

  pub same-on : PassesOn c e o
  same-on = still-on c e o after len same others-same

  pub same-passes : log_of e ≡ log_of c → (given : List Fate) → HasRoom 0 e → IsPassing c o given → IsPassing e o given
  same-passes told given room h = still-passes c e o after len same others-same told given room
      (subst (λ (xs : List Part). Keeps c.lane c.rules (journal_of c) c.newest c.last c.nodes.items xs) (sym items) (h.keeps).keeps)
      (subst (λ (xs : List Part). AreAccepted c.lane c.rules (journal_of c) xs) (sym items) (h.keeps).accepted) h.rows
      (subst (λ (x : Part). IsOpened x o.state h.rows) (sym part-same) h.opened) (subst IsResting (sym part-same) h.resting) h

module _ (c r : LaneState) (o : Owner) (same : r.journal.events.items ≡ c.journal.events.items) (roomy : r ≡ record c { journal = r.journal }) where
  roomy-after : r ≡ record c { journal = r.journal; parts = r.parts }
  roomy-after = roomy ∙ ap (λ (z : LaneState). record c { journal = r.journal; parts = z.parts }) (sym roomy)

  pub roomy-on : PassesOn c r o
  roomy-on = same-on c r o roomy-after (ap (λ (z : LaneState). vec_len z.parts) roomy) (ap past same) (ap (λ (z : LaneState). z.parts.items) roomy)

  pub roomy-passes : log_of r ≡ log_of c → (given : List Fate) → HasRoom 0 r → IsPassing c o given → IsPassing r o given
  roomy-passes = same-passes c r o roomy-after (ap (λ (z : LaneState). vec_len z.parts) roomy) (ap past same) (ap (λ (z : LaneState). z.parts.items) roomy)

-- a row that may be joined has more than one bit
pub has-parent : (p q : Part) (at : ℕ) (slice : List Row) (read : Row) (x : JoinsRows p q at) → IfSome p.rows (λ rows. AreRows p.lane (buckets_of rows.rows)) → slice ≡ rows_of p.rows
    → read ≡ get_or slice at read → 1 < (get_or slice at read).bucket.bits
has-parent p q at slice read x whole same is =
    let rows = subst (λ (o : Option Rows). IfSome o (λ d. AreRows p.lane (buckets_of d.rows))) x.opened whole in
    let some = (rows.bucket).some in
    let inside = (x.joinable).inside in
    let lane = ap (λ (b : Low). b.bits) x.same_lane in
    let row = read_is x.rows.rows slice at read x.row (same ∙ ap rows_of x.opened) is x.found in
    let bits = ap (λ (r : Row). r.bucket.bits) (sym is ∙ row) in
    omega arith

-- a Delete that is over is so under the names of the call
pub delete-ends : (c : LaneState) (now : List Part) (o : Owner) (bucket : Low) (node : ℕ)
    → ((delete : Deleting) (x : EndsDelete (part_of c o.distributor) (part_in c.lane c.rules now o.distributor) delete.bucket delete.node) → HasDelete x.rows delete → IsDeleteOver (history (journal_of c)) o.state delete
    → IsKeptNext c.lane c.rules (journal_of c) c.newest c.last c.nodes.items now (Decided o.distributor (o.state).version (DeleteOver delete.bucket delete.node)))
    → EndsDelete (part_of c o.distributor) (part_in c.lane c.rules now o.distributor) bucket node → HasEnded c o bucket node
    → IsKeptNext c.lane c.rules (journal_of c) c.newest c.last c.nodes.items now (Decided o.distributor (o.state).version (DeleteOver bucket node))
delete-ends c now o bucket node law x (delete, same_bucket, same_node, (at, row, found, deleting), over) =
    subst₂ (λ (b : Low) (n : ℕ). IsKeptNext c.lane c.rules (journal_of c) c.newest c.last c.nodes.items now (Decided o.distributor (o.state).version (DeleteOver b n))) same_bucket same_node
    (let y = subst₂ (λ (b : Low) (n : ℕ). EndsDelete (part_of c o.distributor) (part_in c.lane c.rules now o.distributor) b n) (sym same_bucket) (sym same_node) x in
    law delete y (record { at = at; row = row; found = ap (λ z. slice_get (rows_of z) at) (sym y.opened) ∙ found; deleting = deleting }) over)

-- a part that is as it was, written at its place
module _ (c r : LaneState) (o : Owner) (p q : Part) (i : ℕ) (same : r.journal.events.items ≡ c.journal.events.items) (told : log_of r ≡ log_of c) (roomy : r ≡ record c { journal = r.journal }) (at_own : i ≡ o.distributor)
    (here : i < length r.parts.items) (read : p ≡ get_or r.parts.items i p) (still : q ≡ p) where
  abbrev then_same : LaneState
  then_same = record r { parts = with_item r.parts i q }

  none-written : Writes c r then_same o p q
  none-written = record {
    same = same;
    told = told;
    roomy = roomy;
    here = subst (λ n. n < length r.parts.items) at_own here;
    read = subst (λ n. p ≡ get_or r.parts.items n p) at_own read;
    rest = refl;
    items = ap (λ n. slice_set r.parts.items n q) at_own;
    len = refl;
  }

  pub unwritten-on : PassesOn c then_same o
  unwritten-on = same-on c then_same o (writes-after none-written) (writes-len none-written) (ap past same) (unwritten none-written still)

  pub unwritten-passes : (given : List Fate) → HasRoom 0 r → IsPassing c o given → IsPassing then_same o given
  unwritten-passes = same-passes c then_same o (writes-after none-written) (writes-len none-written) (ap past same) (unwritten none-written still) told
