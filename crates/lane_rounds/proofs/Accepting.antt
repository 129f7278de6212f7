-- Rows that were accepted, at a part that is told something, ends a round or opens its state.
use Rattle.std.proofs.Common.{◌≡◌, ℕ, ◌<◌, true, false, List, [], ◌∷◌, map, length, Option, Some, slice_set, sym, ap, subst}
use Rattle.bucket_ids.specs.Buckets.{Low}
use Rattle.cluster_states.specs.declared.cluster_state.ClusterState.{ClusterState}
use Rattle.bucket_db.specs.Answers.{new_row}
use Rattle.bucket_db.specs.Rows.{Rows}
use Rattle.bucket_db.specs.Changes.{at_row}
use Rattle.distributor_part.specs.declared.rules.Rules.{Rules}
use Rattle.distributor_part.specs.declared.stage.Stage.{Stage}
use Rattle.distributor_part.specs.Parts.{Part, rows_of, version_of}
use Rattle.distributor_part.specs.Steps.{Opens, EndsRound}
use Rattle.lane_journals.specs.Readers.{Journal}
use Rattle.lane_journals.specs.Meanings.{history}
use Rattle.lane_journals.specs.declared.event.LaneEvent.{LaneEvent}
use Rattle.lane_keeping.specs.LaneKeeping.{part_in}
use Rattle.lane_states.specs.Accepting.{IsAccepted, AreRowsAccepted, IsPartAccepted, AreAccepted}
use Rattle.lane_states.proofs.Accepting.{accepted-at, accepted-alike}
use Rattle.lane_rounds.proofs.RowLists.{all-at}

module _ (H : Journal) (p q : Part) where
  -- a row has other complete members
  pub accepted-marks : (rows : Rows) (at marks : ℕ) → q.state ≡ p.state → p.rows ≡ Some rows → rows_of q.rows ≡ at_row at (λ r. record r { complete = marks }) rows.rows → IsPartAccepted H p → IsPartAccepted H q
  accepted-marks rows at marks state opened now h =
      subst (λ (o : Option ClusterState). AreRowsAccepted (version_of o) H (rows_of q.rows)) (sym state)
      (subst (AreRowsAccepted (version_of p.state) H) (sym now)
      (all-at (IsAccepted (version_of p.state) H) (λ r. record r { complete = marks }) rows.rows at (λ row found a is. let was = a is in record { node = was.node; active = was.active; keys = was.keys })
      (subst (λ (o : Option Rows). AreRowsAccepted (version_of p.state) H (rows_of o)) opened h)))

  pub accepted-ended : (bucket : Low) (complete : ℕ) → EndsRound p q bucket complete → IsPartAccepted H p → IsPartAccepted H q
  accepted-ended bucket complete x = accepted-marks x.rows x.at x.marks (ap (λ (z : Part). z.state) x.after) x.opened (ap (λ (z : Part). rows_of z.rows) x.after)

  -- rows that come with an opening haven't been accepted
  fresh-rows : (v : ℕ) (buckets : List Low) → AreRowsAccepted v H (map new_row buckets)
  fresh-rows v [] = tt
  fresh-rows v (b ∷ bs) = ((λ is. let no : false ≡ true = is in cc), fresh-rows v bs)

  pub accepted-opened : (buckets : List Low) → Opens p q buckets → IsPartAccepted H q
  accepted-opened buckets x = subst (AreRowsAccepted (version_of q.state) H) (sym (ap (λ (z : Part). rows_of z.rows) (x.rows).after)) (fresh-rows (version_of q.state) buckets)

-- a part whose job goes on, or is over
pub accepted-changed : (lane : Low) (rules : Rules) (J : List LaneEvent) (parts : List Part) (d : ℕ) (p q : Part) → d < length parts → part_in lane rules parts d ≡ p → (asked : ℕ) (awaited : Option ℕ) (stage : Stage)
    → q ≡ record p { asked = asked; awaited = awaited; stage = stage } → AreAccepted lane rules J parts → AreAccepted lane rules J (slice_set parts d q)
accepted-changed lane rules J parts d p q within is asked awaited stage e = accepted-at lane rules J parts d p q within is (accepted-alike (history J) p q (ap (λ (z : Part). z.state) e) (ap (λ (z : Part). z.rows) e))
