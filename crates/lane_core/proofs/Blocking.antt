-- What stands against the search for a row.
use Rattle.std.proofs.Common.{◌≡◌, ◌≤◌, ◌<◌, ℕ, Bool, true, false, List, Option, Some, None, is_some, slice_get, inl, inr, refl, sym, ap, ◌∙◌, subst, arith}
use Rattle.bucket_ids.specs.Buckets.{Low}
use Rattle.node_sets.specs.Members.{has_node, size_of}
use Rattle.cluster_states.specs.declared.cluster_state.ClusterState.{ClusterState}
use Rattle.carriers.specs.declared.fate.Fate.{Fate}
use Rattle.bucket_db.specs.declared.row.Row.{Row}
use Rattle.lane_journals.specs.Buckets.{contains, key_of}
use Rattle.lane_journals.specs.Facts.{IsOpen}
use Rattle.lane_journals.specs.Readers.{Beginning, Preparing, began, prepared, opened}
use Rattle.lane_journals.specs.Meanings.{history}
use Rattle.lane_journals.specs.Places.{state_in}
use Rattle.lane_journals.specs.declared.event.LaneEvent.{LaneEvent}
use Rattle.op_machine.proofs.NodeLaws.{size_of-count}
use Rattle.ideal_nodes.specs.Placement.{IsOwner}
use Rattle.bucket_db.specs.Rows.{Rows}
use Rattle.distributor_part.specs.Steps.{IsRowOf}
use Rattle.lane_lines.specs.Readying.{HasRowWith}
use Rattle.lane_journals.proofs.Rows.{same-row}
use Rattle.lane_keeping.specs.Acting.{IsActing, IsKnownRow}
use Rattle.lane_keeping.proofs.Acting.{one-owner}
use Rattle.operation_keeping.specs.OperationKeeping.{beginning_of}
use Rattle.proof_basics.proofs.Options.{some_same as some-same}
use Rattle.lane_states.specs.LaneStates.{journal_of, part_of}
use Rattle.lane_states.proofs.SameStates.{same-state}
use Rattle.lane_calls.specs.LaneValues.{IsPreparedIn}
use Rattle.lane_core.specs.declared.work.Job.{Job}
use Rattle.lane_core.specs.declared.work.Work.{Work}
use Rattle.lane_core.specs.Advancing.{IsHindered}
use Rattle.lane_core.specs.Searching.{is_begun, IsFreeFor, IsBlocked}
use Rattle.lane_core.specs.Works.{value_of, under_way_at, progress_of, IsItsRow, IsWork, IsPreparedAt, OfNoJob, OfFirstJob, IsOneOrNone}
use Rattle.lane_core.proofs.Places.{get-one}
use Rattle.lane_core.proofs.Under.{none-under, first-under}
use Rattle.lane_core.proofs.Searching.{begun-so, was-job, unprepared, key-is}

clash : true ≡ false → ⊥
clash e = cc

-- ---- the row of a job

its-row : (r : Option Low) (o : Option Preparing) (b : Low) → r ≡ Some b → IsItsRow r o → (p : Preparing) × (o ≡ Some p) × (p.row ≡ b)
its-row None None b e h = let none : None ≡ Some b = e in cc
its-row None (Some p) b e h = absurd h
its-row (Some r) None b e h = absurd h
its-row (Some r) (Some p) b e h = let same : r ≡ b = some-same r b e in (p, refl, h ∙ same)

row-of : (r : Option Low) (o : Option Preparing) (p : Preparing) → o ≡ Some p → IsItsRow r o → r ≡ Some p.row
row-of None None p e h = let none : None ≡ Some p = e in cc
row-of None (Some q) p e h = absurd h
row-of (Some r) None p e h = absurd h
row-of (Some r) (Some q) p e h = let same : q ≡ p = some-same q p e in ap (λ (b : Low). Some b) (sym h ∙ ap (λ (z : Preparing). z.row) same)

no-row : (r : Option Low) (b : Low) → IsItsRow r None → r ≡ Some b → ⊥
no-row None b h e = let none : None ≡ Some b = e in cc
no-row (Some r) b h e = absurd h

module _ (x : Work) (d : ℕ) (bucket : Low) (w : IsWork x) where
  abbrev J : List LaneEvent
  J = journal_of x.state

  prepared-at : (at : ℕ) (m : Job) → slice_get x.jobs.items at ≡ Some m → IsPreparedIn J d bucket (under_way_at m) → IsPreparedAt d bucket m
  prepared-at at m got q = (q.begun_at, row-of m.row (prepared m.line (history J)) q.preparing q.prepared_as ((w.jobs_are).each at m got).row_is ∙ ap (λ (b : Low). Some b) q.row_is)

  prepared-there : (at : ℕ) (m : Job) → slice_get x.jobs.items at ≡ Some m → IsPreparedAt d bucket m → IsPreparedIn J d bucket (under_way_at m)
  prepared-there at m got q =
      let p = its-row m.row (prepared m.line (history J)) bucket q.1 ((w.jobs_are).each at m got).row_is in
      record { begun_at = q.0; preparing = p.0; prepared_as = p.1; row_is = p.2 }

-- ---- the job that was begun

module _ (x : Work) (at : ℕ) (j : Job) (w : IsWork x) (found : slice_get x.jobs.items at ≡ Some j) (begun : is_begun j.phase ≡ true)
    (opens : (d : ℕ) (s : ClusterState) → IsActing x.state.lane (journal_of x.state) d s → opened s.version (history (journal_of x.state)) ≡ is_some (part_of x.state d).rows) where
  abbrev s : ClusterState
  s = (was-job x at j w found begun).state

  acting : IsActing x.state.lane (journal_of x.state) j.distributor s
  acting = (was-job x at j w found begun).acting

  pub free-unopened : is_some (part_of x.state j.distributor).rows ≡ false → IsFreeFor x j
  free-unopened shut = record {
    free = λ given planned takes by h. clash (sym h.opened_is ∙ opens j.distributor h.state h.acting ∙ shut);
    row = λ there t is. absurd (clash (sym there ∙ shut));
  }

  -- the row that was found is its key's
  pub row-fits : (row : Row) (o : Option Rows) → (part_of x.state j.distributor).rows ≡ o → HasRowWith o j.key row
      → ((rows : Rows) (key at : ℕ) (y : Row) → (part_of x.state j.distributor).rows ≡ Some rows → IsRowOf rows key at y → IsKnownRow s.version (history (journal_of x.state)) y)
      → ((rows : Rows) (key at : ℕ) (y : Row) → IsRowOf rows key at y → contains y.bucket key ≡ true)
      → IsKnownRow s.version (history (journal_of x.state)) row × (contains row.bucket (key_of j.operation.id) ≡ true)
  row-fits row None e h known inside = absurd h
  row-fits row (Some d) e h known inside = (known d j.key h.0 row e h.1, subst (λ (n : ℕ). contains row.bucket n ≡ true) (key-is x at j w found begun) (inside d j.key h.0 row h.1))

  module _ (heard : (part_of x.state j.distributor).state ≡ Some s) (row : Row) (known : IsKnownRow s.version (history (journal_of x.state)) row) (inside : contains row.bucket (key_of j.operation.id) ≡ true) where
    size : (r : Row) → IsKnownRow s.version (history (journal_of x.state)) r → contains r.bucket (key_of j.operation.id) ≡ true → size_of r.complete ≡ size_of row.complete
    size r k i = size_of-count r.complete (has_node row.complete) (λ n. sym (k.members n (key_of j.operation.id) i) ∙ known.members n (key_of j.operation.id) inside) ∙ sym (size_of-count row.complete (has_node row.complete) (λ n. refl))

    bucket-is : (r : Row) → IsKnownRow s.version (history (journal_of x.state)) r → contains r.bucket (key_of j.operation.id) ≡ true → r.bucket ≡ row.bucket
    bucket-is r k i = same-row s.version r.bucket row.bucket (history (journal_of x.state)) (key_of j.operation.id) k.is_row known.is_row i inside

    -- another state under which it acts, or that its part heard, is the same
    knows-as : (t : ClusterState) (r : Row) → t ≡ s → IsKnownRow t.version (history (journal_of x.state)) r → IsKnownRow s.version (history (journal_of x.state)) r
    knows-as t r e k = subst (λ (z : ClusterState). IsKnownRow z.version (history (journal_of x.state)) r) e k

    key-inside : (r : Row) → contains r.bucket j.key ≡ true → contains r.bucket (key_of j.operation.id) ≡ true
    key-inside r i = subst (λ (n : ℕ). contains r.bucket n ≡ true) (key-is x at j w found begun) i

    pub free-enough : x.state.rules.acks ≤ size_of row.complete → IsFreeFor x j
    free-enough enough = record {
      free = λ given planned takes by h.
          let same = same-state x.state.lane (journal_of x.state) j.distributor h.state s h.acting acting in
          let sizes = size h.row (knows-as h.state h.row same h.known) h.inside in
          let few = h.few in
          omega (arith, few, sizes, enough);
      row = λ there t is r k i few.
          let sizes = size r (knows-as t r (some-same t s (sym is ∙ heard)) k) (key-inside r i) in
          absurd (omega (arith, few, sizes, enough));
    }

    pub free-none : OfNoJob (IsPreparedAt j.distributor row.bucket) x.jobs.items → IsFreeFor x j
    free-none none = record {
      free = λ given planned takes by h.
          let same = same-state x.state.lane (journal_of x.state) j.distributor h.state s h.acting acting in
          let f = h.first in
          none-under (IsPreparedAt j.distributor row.bucket) (IsPreparedIn (journal_of x.state) j.distributor row.bucket) x.jobs.items (prepared-at x j.distributor row.bucket w) none f.at f.operation (f.place).found
          (subst (λ (b : Low). IsPreparedIn (journal_of x.state) j.distributor b f.operation) (bucket-is h.row (knows-as h.state h.row same h.known) h.inside) f.is);
      row = λ there t is r k i few line begin p standing at_row. idle t r (some-same t s (sym is ∙ heard)) (bucket-is r (knows-as t r (some-same t s (sym is ∙ heard)) k) (key-inside r i)) line begin p standing at_row;
    }
      where
        idle : (t : ClusterState) (r : Row) → t ≡ s → r.bucket ≡ row.bucket → (line : ℕ) (begin : Beginning) (p : Preparing) → IsOpen t.version line begin p (history (journal_of x.state)) → p.row ≡ r.bucket → ⊥
        idle t r same is line begin p standing at_row = elim ((w.jobs_are).others line begin standing.began) [
          | inl over ↦ clash (sym over ∙ standing.unclosed)
          | inr there ↦ (let m = there.1 in
              let k = (w.jobs_are).each there.0 m there.2 in
              let line_is : m.line ≡ line = there.3 in
              let first : begin ≡ beginning_of m.distributor k.state m.operation m.stamp = some-same _ _ (sym standing.began ∙ ap (λ (l : ℕ). began l (history (journal_of x.state))) (sym line_is) ∙ (k.under_way).begun_as) in
              let version : (k.state).version ≡ s.version = sym (ap (λ (z : Beginning). z.version) first) ∙ standing.version ∙ ap (λ (z : ClusterState). z.version) same in
              let state : k.state ≡ s = some-same k.state s (sym (k.acting).published ∙ ap (λ (n : ℕ). state_in n (journal_of x.state)) version ∙ acting.published) in
              let owner : m.distributor ≡ j.distributor = one-owner x.state.lane s m.distributor j.distributor (subst (λ (z : ClusterState). IsOwner x.state.lane z m.distributor) state (k.acting).owner) acting.owner in
              let prepared_as : prepared m.line (history (journal_of x.state)) ≡ Some p = ap (λ (l : ℕ). prepared l (history (journal_of x.state))) line_is ∙ standing.prepared in
              none there.0 m there.2 (owner, row-of m.row (prepared m.line (history (journal_of x.state))) p prepared_as k.row_is ∙ ap (λ (b : Low). Some b) (at_row ∙ is)))
        ]

    pub hindered : is_some (part_of x.state j.distributor).rows ≡ true → size_of row.complete < x.state.rules.acks → (by : ℕ) → OfFirstJob (IsPreparedAt j.distributor row.bucket) x.jobs.items by
        → (given planned : List Fate) (takes : Bool) → IsHindered (under_way_at j) (value_of x given planned takes) by
    hindered some few by h given planned takes = record {
      begun = ap progress_of (begun-so j.phase begun);
      other = λ same. another same;
      state = s;
      acting = acting;
      opened_is = opens j.distributor s acting ∙ some;
      row = row;
      known = known;
      inside = inside;
      few = few;
      first = first-under (IsPreparedAt j.distributor row.bucket) (IsPreparedIn (journal_of x.state) j.distributor row.bucket) x.jobs.items (prepared-at x j.distributor row.bucket w) by (prepared-there x j.distributor row.bucket w) h;
    }
      where
        another : by ≡ j.line → ⊥
        another same =
            let place : h.at ≡ at = (w.jobs_are).lines_apart h.at at h.job j (h.place).found found ((h.place).line_is ∙ same) in
            let one : h.job ≡ j = get-one x.jobs.items at h.job j (subst (λ (i : ℕ). slice_get x.jobs.items i ≡ Some h.job) place (h.place).found) found in
            no-row j.row row.bucket (subst (IsItsRow j.row) (unprepared x at j w found begun).unprepared (was-job x at j w found begun).row_is) (ap (λ (z : Job). z.row) (sym one) ∙ (h.is).1)

    pub blocked : is_some (part_of x.state j.distributor).rows ≡ true → size_of row.complete < x.state.rules.acks → (o : Option ℕ) → IsOneOrNone (IsPreparedAt j.distributor row.bucket) x.jobs.items o → IsBlocked x j o
    blocked some few None h = free-none h
    blocked some few (Some by) h = λ given planned takes. hindered some few by h given planned takes
