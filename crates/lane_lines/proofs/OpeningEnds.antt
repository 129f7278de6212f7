-- How an opening ends, and what the line wants then.
use Rattle.std.proofs.Common.{◌≡◌, ◌↔◌, ◌&&◌, not, ℕ, Bool, true, false, cond, List, ◌∷◌, Option, Some, None, inl, inr, refl, sym, subst, ap, ◌∙◌, eq-eqb}
use Rattle.bucket_ids.specs.Buckets.{Low}
use Rattle.node_sets.specs.Members.{has_node, size_of}
use Rattle.stamps.specs.declared.stamp.Stamp.{Stamp}
use Rattle.cluster_states.specs.declared.cluster_state.ClusterState.{ClusterState}
use Rattle.cluster_states.specs.Publishing.{serves}
use Rattle.ideal_nodes.specs.Placement.{IsOwner}
use Rattle.messages.specs.declared.operation.Operation.{Operation}
use Rattle.messages.specs.declared.outcome.Outcome.{Outcome}
use Rattle.messages.specs.declared.outcome.Outcome.TheVariants.{NoMemory, TooFew}
use Rattle.messages.specs.declared.step.Step.TheVariants.{Open, Finished}
use Rattle.distributor_part.specs.declared.rules.Rules.{Rules}
use Rattle.distributor_part.specs.declared.stage.Stage.TheVariants.{Before}
use Rattle.distributor_part.specs.Parts.{Part}
use Rattle.distributor_part.specs.Steps.{Opens, LacksAnswers}
use Rattle.op_machine.specs.Nodes.{first_node, count_nodes}
use Rattle.op_machine.specs.Outcomes.{node_or_zero, absent_of}
use Rattle.op_machine.proofs.NodeLaws.{first_node-least, first_node-all, size_of-count}
use Rattle.lane_journals.specs.Buckets.{key_of}
use Rattle.lane_journals.specs.Facts.{AnsweredAsk}
use Rattle.lane_journals.specs.Readers.{held, asked, opened}
use Rattle.lane_journals.specs.RowLists.{row_with, rows}
use Rattle.lane_journals.specs.Places.{state_in}
use Rattle.lane_journals.specs.Meanings.{history}
use Rattle.lane_journals.specs.KeptJournals.{IsLegal, IsLegalStep}
use Rattle.lane_journals.specs.declared.event.LaneEvent.{LaneEvent}
use Rattle.lane_journals.specs.declared.event.LaneEvent.TheVariants.{Opened, Closed}
use Rattle.lane_journals.proofs.Meant.{state-serves}
use Rattle.lane_keeping.specs.LaneKeeping.{PartKeeps, Holds, KnowsOpening, setting_of}
use Rattle.operation_keeping.specs.OperationKeeping.{WasShortSince}
use Rattle.operation_keeping.specs.Laws.{MayLackAnswers}
use Rattle.operation_keeping.proofs.Counting.{small}
use Rattle.operation_keeping.proofs.Opening.{lacks-answers}
use Rattle.operation_keeping.proofs.Preparing.{ends-opening}
use Rattle.operation_keeping.specs.Wants.{IsRunSince, Longer, Adds, Ends, Want, OpeningWants, EndsUnless, is_ask, opening_short, WantsSince, IsEndSince}
use Rattle.lane_lines.specs.OpeningRuns.{KnowsAsking, opening_shortage}
use Rattle.lane_lines.specs.Readying.{IsToPrepare, outcome_of}
use Rattle.proof_basics.proofs.Options.{some_same as some-same}
use Rattle.lane_lines.proofs.OpeningRuns.{prepare-on}

module _ (lane : Low) (rules : Rules) (J : List LaneEvent) (line : ℕ) (o : Operation) (d : ℕ) (s : ClusterState) (stamp : Option Stamp) (K : List LaneEvent) (q : Part) (short : Bool)
    (k : KnowsAsking lane rules J line o d s stamp K q short) (keeps : PartKeeps lane rules K d q) where
  -- what its part wants, the line wants
  wants-by : (want : Want) → OpeningWants lane rules K (history J) (key_of o.id) d s want → WantsSince lane rules line o (history J) K want
  wants-by want w = record {
    distributor = d;
    state = s;
    stamp = stamp;
    acting = (k.still).acting;
    under_way = ((k.still).knows).is_under_way;
    wants = inl (((k.still).knows).unprepared, inl w);
  }

  -- ---- all have answered

  module _ (after : Part) (buckets : List Low) (x : Opens q after buckets) where
    pub opened-state : x.state ≡ s
    opened-state = some-same x.state s (sym (x.unopened).heard ∙ k.heard)

    pub runs-opened : IsRunSince lane rules line o (history J) J (Opened d (x.state).version buckets ∷ K)
    runs-opened = Longer (Opened d (x.state).version buckets) K k.run (inr (wants-by (Adds (Opened d (x.state).version buckets)) (record {
      part = q;
      after = after;
      step = Open buckets;
      keeps = keeps;
      heard = k.heard;
      unopened = (x.unopened).unopened;
      no_round = (x.unopened).no_round;
      asked = k.asked;
      is_step = x;
      gives = ap (λ (t : ClusterState). Opened d t.version buckets) opened-state;
    })))

    pub prepare-opened : IsToPrepare lane (Opened d (x.state).version buckets ∷ K) line o d s stamp
    prepare-opened = prepare-on lane line o d s stamp (Opened d (x.state).version buckets) K tt tt k.still

    pub is-opened : opened s.version (history (Opened d (x.state).version buckets ∷ K)) ≡ true
    is-opened = ap (λ (b : Bool). cond b true (opened s.version (history K))) (eq-eqb (x.state).version s.version (ap (λ (t : ClusterState). t.version) opened-state))

  -- ---- some haven't

  module _ (missing : ℕ) (l : LacksAnswers q missing) where
    wants-short : (outcome : Outcome) → (short ≡ true → outcome ≡ NoMemory) → (short ≡ false → outcome ≡ outcome_of (opening_shortage (serves s) q.answered missing false)) → IsEndSince lane rules line o (history J) K outcome
    wants-short outcome memory none = wants-by (Ends outcome) (record {
      part = q;
      after = record q { asked = 0; stage = Before };
      step = Finished missing;
      keeps = keeps;
      heard = k.heard;
      unopened = (l.unopened).unopened;
      no_round = (l.unopened).no_round;
      asked = k.asked;
      is_step = record { cause = inl l; after = refl };
      gives = by_short short refl;
    })
      where
        by_short : (b : Bool) → short ≡ b → EndsUnless (WasShortSince (history J) (history K) (is_ask s.version)) (opening_short s q.answered missing) (Ends outcome)
        by_short true e = inl ((k.short_is).0 e, memory e)
        by_short false e = inr (λ w. (let no : false ≡ true = sym e ∙ (k.short_is).1 w in cc), none e)

    pub short-wanted : IsEndSince lane rules line o (history J) K (outcome_of (opening_shortage (serves s) q.answered missing short))
    short-wanted = wants-short (outcome_of (opening_shortage (serves s) q.answered missing short)) (λ e. ap (λ (b : Bool). outcome_of (opening_shortage (serves s) q.answered missing b)) e) (λ e. ap (λ (b : Bool). outcome_of (opening_shortage (serves s) q.answered missing b)) e)

    -- ---- it may be closed so

    module _ (legal : IsLegal (setting_of lane rules) K) (told : (n : ℕ) → (has_node q.answered n ≡ true) ↔ AnsweredAsk s.version n (history K)) (all : ℕ) (all_serve : (n : ℕ) → has_node all n ≡ serves s n) where
      lacking-state : l.state ≡ s
      lacking-state = some-same l.state s (sym (l.unopened).heard ∙ k.heard)

      holds : Holds lane d (held d (history K)) (λ v. state_in v K) (λ v n. asked v n (history K)) (λ v. opened v (history K)) (λ v key. row_with key (rows v (history K))) (Some l.state) q
      holds = subst (λ (x : Option ClusterState). Holds lane d (held d (history K)) (λ v. state_in v K) (λ v n. asked v n (history K)) (λ v. opened v (history K)) (λ v key. row_with key (rows v (history K))) x q) (l.unopened).heard keeps.heard

      knows : KnowsOpening (λ n. asked (l.state).version n (history K)) (opened (l.state).version (history K)) (λ key. row_with key (rows (l.state).version (history K))) l.state q
      knows = holds.2 (subst (λ (t : ClusterState). IsOwner lane t d) (sym lacking-state) ((k.still).acting).owner)

      all_there : (n : ℕ) → has_node all n ≡ serves l.state n
      all_there n = all_serve n ∙ ap (λ (t : ClusterState). serves t n) (sym lacking-state)

      has-answered : (a b : Bool) → a ≡ true → (a && not b) ≡ false → b ≡ true
      has-answered true true e h = refl
      has-answered true false e h = let no : true ≡ false = h in cc
      has-answered false b e h = let no : false ≡ true = e in cc

      absent-lacks : has_node missing (absent_of None (has_node missing)) ≡ true
      absent-lacks = by_first (first_node (has_node missing)) refl
        where
          by_first : (x : Option ℕ) → first_node (has_node missing) ≡ x → has_node missing (node_or_zero x) ≡ true
          by_first (Some n) e = (first_node-least (has_node missing) n e).here
          by_first None e = absurd (l.some (λ n serving. has-answered (serves l.state n) (has_node q.answered n) serving (sym (l.are n) ∙ first_node-all (has_node missing) e n (small all n (all_there n ∙ serving)))))

      may-lack : MayLackAnswers K s.version (size_of q.answered) (size_of all) (absent_of None (has_node missing))
      may-lack = subst (λ (t : ClusterState). MayLackAnswers K t.version (size_of q.answered) (size_of all) (absent_of None (has_node missing))) lacking-state
          (lacks-answers K q missing all (absent_of None (has_node missing)) l (λ n. asked (l.state).version n (history K)) (λ key. row_with key (rows (l.state).version (history K))) knows
          (λ n. state-serves (setting_of lane rules) K legal (l.state).version n l.state holds.1) (λ n. subst (λ (t : ClusterState). (has_node q.answered n ≡ true) ↔ AnsweredAsk t.version n (history K)) (sym lacking-state) (told n)) all_there absent-lacks)

      answered-serve : (n : ℕ) → has_node q.answered n ≡ (serves s n && has_node q.answered n)
      answered-serve n = subst (λ (t : ClusterState). has_node q.answered n ≡ (serves t n && has_node q.answered n)) lacking-state (both (has_node q.answered n) (serves l.state n) (knows.serving n))
        where
          both : (a b : Bool) → (a ≡ true → b ≡ true) → a ≡ (b && a)
          both true b h = sym (ap (λ (t : Bool). t && true) (h refl))
          both false true h = refl
          both false false h = refl

      few-legal : IsLegalStep (setting_of lane rules) K (Closed line (outcome_of (opening_shortage (serves s) q.answered missing false)))
      few-legal =
          subst (λ (n : ℕ). IsLegalStep (setting_of lane rules) K (Closed line (TooFew n (count_nodes (serves s)) (absent_of None (has_node missing))))) (size_of-count q.answered (λ n. serves s n && has_node q.answered n) answered-serve)
          (subst (λ (n : ℕ). IsLegalStep (setting_of lane rules) K (Closed line (TooFew (size_of q.answered) n (absent_of None (has_node missing))))) (size_of-count all (serves s) all_serve)
          (ends-opening lane rules K d s line o stamp legal (k.still).knows (size_of q.answered) (size_of all) (absent_of None (has_node missing)) may-lack))

      pub short-legal : IsLegalStep (setting_of lane rules) K (Closed line NoMemory) → IsLegalStep (setting_of lane rules) K (Closed line (outcome_of (opening_shortage (serves s) q.answered missing short)))
      short-legal quits = by_short short
        where
          by_short : (b : Bool) → IsLegalStep (setting_of lane rules) K (Closed line (outcome_of (opening_shortage (serves s) q.answered missing b)))
          by_short true = quits
          by_short false = few-legal
