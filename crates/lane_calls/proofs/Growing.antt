-- How a journal grows by what the operation of a line wants.
use Rattle.std.proofs.Common.{◌≡◌, ◌≤◌, ◌+◌, ℕ, Bool, true, false, List, [], ◌∷◌, ◌++◌, length, Some, IsSome, inl, inr, refl, sym, ap, ◌∙◌, subst, if◌then◌else◌, arith}
use Rattle.std.proofs.lemmas.List.{length-append}
use Rattle.bucket_ids.specs.Buckets.{Low}
use Rattle.cluster_states.specs.declared.cluster_state.ClusterState.{ClusterState}
use Rattle.distributor_part.specs.declared.rules.Rules.{Rules}
use Rattle.ideal_nodes.specs.Placement.{IsOwner}
use Rattle.lane_journals.specs.Readers.{Journal, held}
use Rattle.lane_journals.specs.Meanings.{history}
use Rattle.lane_journals.specs.declared.event.LaneEvent.{LaneEvent}
use Rattle.lane_journals.specs.declared.event.LaneEvent.TheVariants as event
use Rattle.lane_keeping.specs.Tidings.{is_older, heard_next, last_state}
use Rattle.operation_keeping.specs.Wants.{IsCarriage, IsCarriageSince, IsRunSince, Still, Longer, IsCutRunSince, IsCutRound}
use Rattle.lane_calls.specs.Lines.{FeedLine, Lines}
use Rattle.lane_calls.proofs.OneLine.{passes_next}
use Rattle.lane_calls.specs.Segments.{IsAmong, IsNext}
use Rattle.lane_calls.specs.Growth.{IsLater, IsStep, Hears, Wants, CutsOff, Carries, Grows, Same, More}
use Rattle.lane_calls.proofs.Lists.{later-same, later-more}

pub carries : (from : Journal) (e : LaneEvent) → IsCarriageSince from e → IsCarriage e
carries from (event.Delivered k r) c = tt
carries from (event.Returned k) c = tt
carries from _ c = absurd c

pub heard-later : (d : ℕ) (s : ClusterState) (J : List LaneEvent) → IsLater J (heard_next d (Some s) J)
heard-later d s J = by_test (is_older (held d (history J)) s.version)
  where
    by_test : (t : Bool) → IsLater J (if t then event.Heard d s.version ∷ J else J)
    by_test true = later-more J J _ (later-same J)
    by_test false = later-same J

module _ (feeders : ℕ) (lines : Lines) (lane : Low) (rules : Rules) where
  abbrev pub By : List LaneEvent → List LaneEvent → Type 0
  By J K = Grows feeders lines lane rules J K

  pub grows-later : (J K : List LaneEvent) → By J K → IsLater J K
  grows-later J K Same = later-same J
  grows-later J K (More e L grew step) = later-more J L e (grows-later J L grew)

  pub grows-twice : (I J K : List LaneEvent) → By I J → By J K → By I K
  grows-twice I J K a Same = a
  grows-twice I J K a (More e L b step) = More e L (grows-twice I J L a b) step

  pub grows-steps : (J K : List LaneEvent) → By J K → (after : List LaneEvent) (e : LaneEvent) (before : List LaneEvent) → K ≡ after ++ e ∷ before → length J ≤ length before → IsStep feeders lines lane rules before e
  grows-steps J K Same after e before is le = absurd (let all : length J ≡ length after + length (e ∷ before) = ap length is ∙ length-append after (e ∷ before) in omega arith)
  grows-steps J K (More d L grew step) [] e before is le =
      let here : d ≡ e = cc in
      let rest : L ≡ before = cc in
      subst (λ M. IsStep feeders lines lane rules M e) rest (subst (IsStep feeders lines lane rules L) here step)
  grows-steps J K (More d L grew step) (c ∷ after) e before is le = let rest : L ≡ after ++ e ∷ before = cc in grows-steps J L grew after e before rest le

  -- ---- a run, and one that was cut off

  module _ (line : FeedLine) (among : IsAmong lines line) (J from : List LaneEvent) (grew : By J from) where
    pub grows-run : (K : List LaneEvent) → IsRunSince lane rules line.number line.operation (history from) from K → By J K × IsLater from K
    grows-run K Still = (grew, later-same from)
    grows-run K (Longer e L run wanted) =
        let rest = grows-run L run in (
          More e L rest.0 (elim wanted [ inl c ↦ Carries (carries (history from) e c) | inr w ↦ Wants line among (record { from = from; since = rest.1; wants = w }) ]),
          later-more from L e rest.1,
        )

    pub grows-cut : (K : List LaneEvent) → IsCutRunSince lane rules line.number line.operation (history from) from K → By J K × IsLater from K
    grows-cut K c = let rest = grows-run c.0 c.1 in elim c.2 [
      | inl same ↦ subst (λ (M : List LaneEvent). By J M × IsLater from M) (sym same) rest
      | inr cut ↦ subst (λ (M : List LaneEvent). By J M × IsLater from M) (sym cut.ended)
          (More _ c.0 rest.0 (CutsOff (subst (IsCutRound lane c.0) cut.ended cut)), later-more from c.0 _ rest.1)
    ]

  -- ---- the owner hears the newest state

  pub grows-heard : (d : ℕ) (s : ClusterState) (I J : List LaneEvent) → last_state J ≡ Some s → IsOwner lane s d → By I J → By I (heard_next d (Some s) J)
  grows-heard d s I J newest owns grew = by_test (is_older (held d (history J)) s.version)
    where
      by_test : (t : Bool) → By I (if t then event.Heard d s.version ∷ J else J)
      by_test true = More (event.Heard d s.version) J grew (Hears (record { distributor = d; state = s; newest = newest; owns = owns; event = refl }))
      by_test false = grew

  pub newest-heard : (d : ℕ) (s : ClusterState) (J : List LaneEvent) → last_state J ≡ Some s → last_state (heard_next d (Some s) J) ≡ Some s
  newest-heard d s J newest = by_test (is_older (held d (history J)) s.version)
    where
      by_test : (t : Bool) → last_state (if t then event.Heard d s.version ∷ J else J) ≡ Some s
      by_test true = newest
      by_test false = newest

  -- a line whose turn it is has it then
  pub next-heard : (line : FeedLine) (d : ℕ) (s : ClusterState) (J : List LaneEvent) → IsNext feeders lines line J → IsNext feeders lines line (heard_next d (Some s) J)
  next-heard line d s J next = let p = passes_next d s J in record {
    among = next.among;
    fresh = record {
      unbegun = p.began_is line.number ∙ (next.fresh).unbegun;
      unrefused = p.refused_is line.number ∙ (next.fresh).unrefused;
      unprepared = p.prepared_is line.number ∙ (next.fresh).unprepared;
      unwritten = p.wrote_is line.number ∙ (next.fresh).unwritten;
      unclosed = p.closed_is line.number ∙ (next.fresh).unclosed;
    };
    turn = λ other among same earlier. subst IsSome (sym (p.outcome_is other.number)) (next.turn other among same earlier);
  }
