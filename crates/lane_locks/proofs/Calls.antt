-- Each call of a lane is a call of a segment.
use Rattle.std.proofs.Common.{◌≡◌, ℕ, Option, Some, sym, subst}
use Rattle.cluster_states.specs.declared.cluster_state.ClusterState.{ClusterState}
use Rattle.ideal_nodes.specs.Placement.{IsOwner}
use Rattle.messages.specs.declared.outcome.Outcome.{Outcome}
use Rattle.lane_keeping.specs.Tidings.{last_state}
use Rattle.lane_calls.specs.declared.answers.Hear.{Hear}
use Rattle.lane_calls.specs.declared.answers.Begin.{Begin}
use Rattle.lane_calls.specs.declared.answers.Advance.{Advance}
use Rattle.lane_calls.specs.declared.answers.Advance.TheVariants as advance
use Rattle.lane_calls.specs.declared.progress.Progress.TheVariants.{Runs, Over, Short}
use Rattle.lane_calls.specs.LaneValues.{LaneValue, IsHearing, Closes}
use Rattle.lane_calls.specs.Lines.{FeedLine, Lines}
use Rattle.lane_core.specs.Advancing.{IsAdvance}
use Rattle.lane_calls.specs.Segments.{IsNext, BeginsAs, IsCall, Hears, Starts, Continues, Ends, Stays}

module _ (feeders : ℕ) (lines : Lines) (v w : LaneValue) where
  pub hear-call : (d : ℕ) (s : ClusterState) (answer : Hear) → last_state v.journal ≡ Some s → IsOwner v.lane s d → IsHearing d v w answer → IsCall feeders lines v w
  hear-call d s answer newest owns h = Hears (record { owner = d; state = s; newest = newest; owns = owns; answer = answer; hears = h })

  pub begin-call : (line : FeedLine) (via : Option ℕ) (answer : Begin) → line.via ≡ via → IsNext feeders lines line v.journal → BeginsAs line via v w answer → IsCall feeders lines v w
  begin-call line via answer is next b = Starts line answer next (subst (λ (o : Option ℕ). BeginsAs line o v w answer) (sym is) b)

  pub advance-call : (line : ℕ) (answer : Advance) → IsAdvance line v w answer → IsCall feeders lines v w
  advance-call line advance.More h =
      let d = h.advances in
      Continues h.at h.operation (record { found = (h.place).found; wants = h.wants; progress = Runs; left = (d.0).left; went = ((d.0).run, d.1); after = (d.0).after; gives = (d.0).gives })
  advance-call line (advance.Waits by) h = Stays (h.advances).1
  advance-call line advance.Done h =
      let d = h.advances in
      Continues h.at h.operation (record { found = (h.place).found; wants = h.wants; progress = Over d.0; left = (d.1).left; went = ((d.1).run, d.2); after = (d.1).after; gives = (d.1).gives })
  advance-call line advance.NoMemory h =
      let d = h.advances in
      Continues h.at h.operation (record { found = (h.place).found; wants = h.wants; progress = Short; left = d.left; went = d.run; after = d.after; gives = d.gives })

  pub close-call : (line : ℕ) (x : Outcome) → Closes line x v w → IsCall feeders lines v w
  close-call line x c = Ends line x c
