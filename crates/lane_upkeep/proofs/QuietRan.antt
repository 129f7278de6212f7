-- The round that a pass runs in a quiet span is the round of a pass in the abstract.
use Rattle.std.proofs.Common.{◌≡◌, ◌<◌, ℕ, true, List, Option, Some, slice_get, sym, ap, subst, ◌∙◌}
use Rattle.bucket_ids.specs.Buckets.{Low}
use Rattle.cluster_states.specs.declared.cluster_state.ClusterState.{ClusterState}
use Rattle.cluster_states.specs.Publishing.{serves}
use Rattle.carriers.specs.declared.fate.Fate.{Fate}
use Rattle.messages.specs.declared.late.Late.{Late}
use Rattle.bucket_db.specs.Rows.{Rows}
use Rattle.bucket_db.specs.declared.row.Row.{Row}
use Rattle.distributor_part.specs.declared.rules.Rules.{Rules}
use Rattle.distributor_part.specs.Parts.{rows_of}
use Rattle.distributor_part.specs.Targets.{AreTargets}
use Rattle.distributor_part.specs.Upkeep.{BeginsRoundAt}
use Rattle.merge_rounds.specs.Rounds.{RoundState}
use Rattle.node_model.specs.Nodes.{Node}
use Rattle.lane_journals.specs.Readers.{version}
use Rattle.lane_journals.specs.Meanings.{history}
use Rattle.lane_journals.specs.declared.event.LaneEvent.{LaneEvent}
use Rattle.lane_keeping.specs.LaneKeeping.{node_in, setting_of}
use Rattle.lane_states.specs.declared.lane_state.LaneState.{LaneState}
use Rattle.round_keeping.specs.declared.round_run.RoundRun.{RoundRun}
use Rattle.round_keeping.specs.declared.round_run.RoundEnd.{RoundEnd}
use Rattle.lane_states.specs.LaneStates.{journal_of, part_of}
use Rattle.round_keeping.specs.RoundRuns.{Begins}
use Rattle.pass_model.specs.Rows.{Settings}
use Rattle.pass_model.specs.Scripts.{Script}
use Rattle.undisturbed_spans.specs.Undisturbed.{Extends}
use Rattle.undisturbed_spans.specs.Ending.{IsWholeRound, HasEnded}
use Rattle.lane_upkeep.specs.declared.owner.Owner.{Owner}
use Rattle.pass_machine.specs.declared.notes.RowNote.{RowNote}
use Rattle.lane_upkeep.specs.Passing.{IsPassing, PassesOn, HasRow}
use Rattle.lane_upkeep.specs.RoundNotes.{NotesRun, GainsMarks}
use Rattle.lane_upkeep.specs.Quiet.{Goes, IsCurrent, AreSettingsIn, DoesQuietly, IsRoundQuietly}
use Rattle.lane_upkeep.proofs.Upkept.{upkeep-run}
use Rattle.lane_upkeep.proofs.RoundsLeft.{row-of}
use Rattle.lane_upkeep.proofs.QuietSteps.{documents-stay}
use Rattle.lane_upkeep.proofs.QuietMade.{TargetsAreListed, round-still, round-quietly}

-- the law of whole rounds
abbrev pub RoundsEnd : Type 0
RoundsEnd = (d : Script) (lane : Low) (key : ℕ) (J M K : List LaneEvent) (x y : RoundRun) (e : RoundEnd) (given after : List Fate) (last until : ℕ) (late rest : List Late) (old now : ℕ → Node)
    → IsWholeRound d lane key J M K x y e given after last until late rest old now → HasEnded d x.state J K old now y.round

state-same : (s t : ClusterState) → ◌≡◌ {A = Option ClusterState} (Some s) (Some t) → s ≡ t
state-same s t h = cc

row-same : (r q : Row) → ◌≡◌ {A = Option Row} (Some r) (Some q) → r ≡ q
row-same r q h = cc

module _ (ends : RoundsEnd) (targets : TargetsAreListed) (c e : LaneState) (o : Owner) (at : ℕ) (given after : List Fate) (note : RowNote) (r : NotesRun c e o at given after note)
    (p : IsPassing c o given) (q : IsPassing e o after) (on : PassesOn c e o) (gains : GainsMarks (part_of c o.distributor) (part_of e o.distributor) at note.holders) where
  abbrev x : RoundRun
  x = (r.ran).begun

  abbrev y : RoundRun
  y = r.run

  -- ---- what its end tells

  module _ (d : Script) (current : IsCurrent c o) (few : (n : ℕ) → serves o.state n ≡ true → n < 32) (goes : Goes d after c e) where
    begins : Begins c.lane (journal_of c) (r.ran).journal x.distributor x.key x
    begins = subst (λ (k : ℕ). Begins c.lane (journal_of c) (r.ran).journal k x.key x) (sym ((r.ran).begins).distributor_is) (r.ran).begins

    whole : IsWholeRound d c.lane x.key (journal_of c) (r.ran).journal (journal_of e) x y (r.ran).end given after c.last e.last c.late.late e.late.late (node_in c.nodes.items) (node_in e.nodes.items)
    whole = record {
      begins = begins;
      whole = (r.ran).whole;
      goes = (r.ran).goes;
      is_end = (r.ran).is_end;
      all_read = r.all_read;
      all_applied = r.all_applied;
      on = upkeep-run c.lane x.distributor x.state c.last c.late.late (r.ran).journal (((r.ran).whole).on).fates e.late.late ((r.ran).whole).before (((r.ran).whole).on).run;
      nodes = (r.ran).nodes;
      carried = p.carried;
      carried_then = (q.carried).carried;
      quiet = goes;
      current = subst (λ (z : ClusterState). (n : ℕ) → serves z n ≡ true → version n (history (journal_of c)) ≡ z.version) (sym (r.ran).state_is) current;
      few = subst (λ (z : ClusterState). (n : ℕ) → serves z n ≡ true → n < 32) (sym (r.ran).state_is) few;
      valid = λ n. (((p.keeps).keeps).nodes_are n).valid;
      setting = setting_of e.lane e.rules;
      legal = ((q.keeps).keeps).legal;
    }

    ended : HasEnded d o.state (journal_of c) (journal_of e) (node_in c.nodes.items) (node_in e.nodes.items) y.round
    ended = subst (λ (z : ClusterState). HasEnded d z (journal_of c) (journal_of e) (node_in c.nodes.items) (node_in e.nodes.items) y.round) (r.ran).state_is
        (ends d c.lane x.key (journal_of c) (r.ran).journal (journal_of e) x y (r.ran).end given after c.last e.last c.late.late e.late.late (node_in c.nodes.items) (node_in e.nodes.items) whole)

  -- ---- whose row it is, and whom it goes to

  module _ (row : Row) (found : HasRow c o at row) where
    abbrev step : BeginsRoundAt (part_of c o.distributor) (r.ran).part at (x.round).row (x.round).receivers
    step = (r.ran).step

    row-is : (y.round).row ≡ row.bucket
    row-is = ap (λ (z : RoundState). z.row) ((r.ran).goes).round_is ∙ row-of (part_of c o.distributor) (r.ran).part at (x.round).row (x.round).receivers row step found

    rules-are : (part_of c o.distributor).rules ≡ c.rules
    rules-are = (((p.keeps).keeps).parts_are o.distributor).rules_are

    state-is : step.state ≡ o.state
    state-is = state-same step.state o.state (sym (step.opened).heard ∙ (p.opened).heard)

    same-row : step.row ≡ row
    same-row = row-same step.row row (sym step.found ∙ (sym (ap (λ (z : Option Rows). slice_get (rows_of z) at) (step.opened).opened) ∙ found))

    goes-to : AreTargets (c.rules).redundancy o.state row.bucket row.active (y.round).receivers
    goes-to =
        subst (λ (set : ℕ). AreTargets (c.rules).redundancy o.state row.bucket row.active set) (sym (ap (λ (z : RoundState). z.receivers) ((r.ran).goes).round_is))
        (subst (λ (z : Row). AreTargets (c.rules).redundancy o.state z.bucket z.active (x.round).receivers) same-row
        (subst (λ (z : ClusterState). AreTargets (c.rules).redundancy z (step.row).bucket (step.row).active (x.round).receivers) state-is
        (subst (λ (z : Rules). AreTargets z.redundancy step.state (step.row).bucket (step.row).active (x.round).receivers) rules-are step.targets)))

  -- ---- the round

  few-in : (s : Settings) → AreSettingsIn c o s → (n : ℕ) → serves o.state n ≡ true → n < 32
  few-in s are n g = (are.sound).few n ((are.lane).serving n ∙ g)

  pub rounds-quietly : Extends given after → DoesQuietly given after c e o (λ d s. (row : Row) → HasRow c o at row → IsRoundQuietly d s c e o at row note)
  rounds-quietly fates = record {
    fates = fates;
    quiet = λ d s are current goes row found. round-quietly targets d c e o at row note y.round s are (ended d current (few-in s are) goes) r.note_is (row-is row found) (goes-to row found) gains found
        (λ b held. documents-stay o.distributor (o.state).version (journal_of c) (journal_of e) on.grows b held);
    versions = λ d s are current goes. (ended d current (few-in s are) goes).versions;
    still = λ d s are current goes. round-still d c e o y.round (ended d current (few-in s are) goes);
  }
