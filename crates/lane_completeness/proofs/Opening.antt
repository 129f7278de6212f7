-- How an opening ends that gets too few answers: a node wanted memory, or nothing was heard of one that was asked.
use Rattle.std.proofs.Common.{◌≡◌, ◌⊎◌, ◌↔◌, ℕ, ◌<◌, Bool, true, false, cond, not, ◌&&◌, List, Option, Some, None, is_some, inl, inr, refl, sym, ap, ◌∙◌, subst}
use mathlib.Core.Bool.{true≢false}
use Rattle.std.proofs.lemmas.Bool.{and_parts}
use Rattle.bucket_ids.specs.Buckets.{Low}
use Rattle.node_sets.specs.Members.{has_node}
use Rattle.stamps.specs.declared.stamp.Stamp.{Stamp}
use Rattle.cluster_states.specs.declared.cluster_state.ClusterState.{ClusterState}
use Rattle.cluster_states.specs.Publishing.{serves}
use Rattle.ideal_nodes.specs.Placement.{IsOwner}
use Rattle.ideal_nodes.proofs.Firsts.{member_small}
use Rattle.op_machine.specs.Nodes.{first_node}
use Rattle.op_machine.specs.Outcomes.{node_or_zero, absent_of}
use Rattle.op_machine.proofs.NodeLaws.{first_node-all, first_node-least}
use Rattle.messages.specs.declared.operation.Operation.{Operation}
use Rattle.messages.specs.declared.outcome.Outcome.{Outcome}
use Rattle.messages.specs.declared.outcome.Outcome.TheVariants.{TooFew, NoMemory}
use Rattle.messages.specs.declared.step.Step.{Step}
use Rattle.messages.specs.declared.step.Step.TheVariants as step
use Rattle.distributor_part.specs.declared.rules.Rules.{Rules}
use Rattle.distributor_part.specs.declared.stage.Stage.{Stage}
use Rattle.distributor_part.specs.declared.stage.Stage.TheVariants.{Before, Ended}
use Rattle.distributor_part.specs.Parts.{Part}
use Rattle.distributor_part.specs.Steps.{LacksAnswers, IsStep}
use Rattle.bucket_db.specs.Rows.{Rows}
use Rattle.lane_journals.specs.Readers.{Journal, Message, before_line, sent, asked, held, opened}
use Rattle.lane_journals.specs.RowLists.{row_with, rows}
use Rattle.lane_journals.specs.States.{state_of}
use Rattle.lane_journals.specs.Meanings.{history}
use Rattle.lane_journals.specs.Places.{state_in}
use Rattle.lane_journals.specs.declared.event.LaneEvent.{LaneEvent}
use Rattle.lane_keeping.specs.LaneKeeping.{KnowsOpening, Holds, PartKeeps}
use Rattle.operation_keeping.specs.OperationKeeping.{WasShortSince}
use Rattle.proof_basics.proofs.Tests.{not_answered}
use Rattle.operation_keeping.specs.Wants.{Ends, EndsUnless, WasAskedSince, is_ask, OpeningGives, OpeningWants}
use Rattle.lane_completeness.specs.Completeness.{WantedMemory}
use Rattle.lane_completeness.specs.Causes.{OfOpening, IsMissing}
use Rattle.lane_journals.proofs.Replies.{IsOwed}
use Rattle.lane_completeness.proofs.Runs.{At, sent-later}
use Rattle.lane_journals.proofs.Hearing.{ask-counts}
use Rattle.lane_completeness.proofs.Missing.{owed-came, missing, any-short}

-- ---- too few

-- of nodes that pass a test, if any does, the absent one does
pub absent-passes : (active : Option ℕ) (p : ℕ → Bool) → (((n : ℕ) → n < 32 → p n ≡ false) → ⊥) → p (absent_of active p) ≡ true
absent-passes active p some = by_active active
  where
    by_first : (o : Option ℕ) → first_node p ≡ o → p (node_or_zero o) ≡ true
    by_first None e = absurd (some (first_node-all p e))
    by_first (Some n) e = (first_node-least p n e).here

    by_test : (n : ℕ) (t : Bool) → p n ≡ t → p (cond t n (node_or_zero (first_node p))) ≡ true
    by_test n true e = e
    by_test n false e = by_first (first_node p) refl

    by_active : (o : Option ℕ) → p (absent_of o p) ≡ true
    by_active None = by_first (first_node p) refl
    by_active (Some n) = by_test n (p n) refl

-- the end is NoMemory, since a node wanted it
abbrev pub IsShort : List LaneEvent → ℕ → Outcome → Type 0
IsShort L line x = (x ≡ NoMemory) × WantedMemory (history L) line

-- too few answered, and the absent node is missing
pub record IsLacking (L : List LaneEvent) (line : ℕ) (x : Outcome) : Type 0 where
  pub answered : ℕ
  pub needed : ℕ
  pub absent : ℕ
  pub is : x ≡ TooFew answered needed absent
  pub missing : IsMissing (history L) line absent

abbrev pub FallsShort : List LaneEvent → ℕ → Outcome → Type 0
FallsShort L line x = IsShort L line x ⊎ IsLacking L line x

-- an end for want of answers is one for want of memory, or else the absent node is missing
pub falls-short : (L : List LaneEvent) (line : ℕ) (from : Journal) → ((k : ℕ) → sent k from ≡ None → sent k (before_line line (history L)) ≡ None) → (test : Message → Type 0) (answered needed absent : ℕ) (x : Outcome)
    → EndsUnless (WasShortSince from (history L) test) (TooFew answered needed absent) (Ends x) → ((WasShortSince from (history L) test → ⊥) → IsMissing (history L) line absent) → FallsShort L line x
falls-short L line from earlier test answered needed absent x e lacks = elim e [
  | inl a ↦ inl (a.1, any-short (history L) line from earlier test a.0)
  | inr b ↦ inr (record { answered = answered; needed = needed; absent = absent; is = b.1; missing = lacks b.0 })
]

-- ---- the opening

module _ (lane : Low) (rules : Rules) (line d : ℕ) (o : Operation) (stamp : Option Stamp) (J F : List LaneEvent) (L : List LaneEvent) (s : ClusterState) (a : At lane rules line d s.version o stamp J F L)
    (e : ℕ) (owner : IsOwner lane s e) (p : Part) (keeps : PartKeeps lane rules L e p) (heard : p.state ≡ Some s)
    (was_asked : (n : ℕ) → (has_node p.asked n ≡ true) ↔ WasAskedSince (history F) (history L) s.version n) where
  abbrev HoldsState : Option ClusterState → Type 0
  HoldsState x = Holds lane e (held e (history L)) (λ w. state_in w L) (λ w n. asked w n (history L)) (λ w. opened w (history L)) (λ w key. row_with key (rows w (history L))) x p

  knows : KnowsOpening (λ n. asked s.version n (history L)) (opened s.version (history L)) (λ key. row_with key (rows s.version (history L))) s p
  knows = let h : HoldsState (Some s) = subst HoldsState heard keeps.heard in h.2 owner

  -- who was asked and didn't answer
  asked-missing : p.rows ≡ None → (WasShortSince (history F) (history L) (is_ask s.version) → ⊥) → (n : ℕ) → WasAskedSince (history F) (history L) s.version n → has_node p.answered n ≡ false → IsMissing (history L) line n
  asked-missing unopened none n w unanswered = missing lane rules line d s.version o stamp J F L a (history F) (is_ask s.version) w.number w.message n (sent-later lane rules line d s.version o stamp J F L a w.number w.later) w.was_sent w.version w.receiver
      (OfOpening (knows.opened_as ∙ ap is_some unopened) w.body)
      (owed-came lane rules line d s.version o stamp J F L a (history F) (is_ask s.version) w.number w.message w.later w.was_sent (w.version, w.body) (subst IsOwed (sym w.body) tt))
      (λ back. true≢false (sym (knows.answered_are n ∙ ask-counts rules.acks (state_of (history L)) s.version n w.number w.message back.given w.version w.receiver w.body (history L) a.legal back.back w.was_sent back.reply) ∙ unanswered))
      none

  module _ (unopened : p.rows ≡ None) (set : ℕ) (l : LacksAnswers p set) where
    in-set : (n : ℕ) → serves l.state n ≡ true → has_node p.answered n ≡ false → has_node set n ≡ true
    in-set n serving unanswered = l.are n ∙ ap (λ (t : Bool). t && not (has_node p.answered n)) serving ∙ ap (λ (t : Bool). not t) unanswered

    absent-in : has_node set (absent_of None (has_node set)) ≡ true
    absent-in = absent-passes None (has_node set) (λ none. l.some (λ n serving. by_answered none n serving (has_node p.answered n) refl))
      where
        by_answered : ((n : ℕ) → n < 32 → has_node set n ≡ false) → (n : ℕ) → serves l.state n ≡ true → (t : Bool) → has_node p.answered n ≡ t → has_node p.answered n ≡ true
        by_answered none n serving true f = f
        by_answered none n serving false f = let i = in-set n serving f in absurd (true≢false (sym i ∙ none n (member_small set n i)))

    -- each of those that didn't answer was asked
    in-missing : (WasShortSince (history F) (history L) (is_ask s.version) → ⊥) → (n : ℕ) → has_node set n ≡ true → IsMissing (history L) line n
    in-missing none n has = by_asked (has_node p.asked n) refl
      where
        parts : (serves l.state n ≡ true) × (has_node p.answered n ≡ false)
        parts = let z = and_parts (serves l.state n) (not (has_node p.answered n)) (sym (l.are n) ∙ has) in (z.0, not_answered (has_node p.answered n) z.1)

        by_asked : (t : Bool) → has_node p.asked n ≡ t → IsMissing (history L) line n
        by_asked false f = absurd (l.none_left n (record { serves = parts.0; unanswered = parts.1; unasked = f }))
        by_asked true f = asked-missing unopened none n ((was_asked n).0 f) parts.1

  -- it ends only where nobody is left to be asked
  over-lacks : (key set : ℕ) (q : Part) → p.rows ≡ None → p.stage ≡ Before → IsStep p key (step.Finished set) q → LacksAnswers p set
  over-lacks key set q unopened before f = elim f.cause [
    | inl l ↦ l
    | inr (inl h) ↦ absurd (no-rows h.rows (sym unopened ∙ h.opened))
    | inr (inr h) ↦ absurd (no-end (sym before ∙ h))
  ]
    where
      no-rows : (r : Rows) → ◌≡◌ {A = Option Rows} None (Some r) → ⊥
      no-rows r h = cc

      no-end : ◌≡◌ {A = Stage} Before (Ended set) → ⊥
      no-end h = cc

pub opening-ends : (lane : Low) (rules : Rules) (line d : ℕ) (o : Operation) (stamp : Option Stamp) (J F : List LaneEvent) (L : List LaneEvent) (s : ClusterState) → At lane rules line d s.version o stamp J F L
    → (key e : ℕ) → IsOwner lane s e → (x : Outcome) → OpeningWants lane rules L (history F) key e s (Ends x) → FallsShort L line x
opening-ends lane rules line d o stamp J F L s a key e owner x w = by_step w.step w.is_step w.gives
  where
    by_step : (y : Step) → IsStep w.part key y w.after → OpeningGives L (history F) e s w.part y (Ends x) → FallsShort L line x
    by_step (step.Send m) i g = absurd g
    by_step (step.Open buckets) i g = absurd g
    by_step (step.Decide y) i g = absurd g
    by_step (step.Finished set) i g =
        let l = over-lacks lane rules line d o stamp J F L s a e owner w.part w.keeps w.heard w.asked key set w.after w.unopened w.no_round i in
        falls-short L line (history F) (sent-later lane rules line d s.version o stamp J F L a) (is_ask s.version) _ _ _ x g (λ none. in-missing lane rules line d o stamp J F L s a e owner w.part w.keeps w.heard w.asked w.unopened set l none _
        (absent-in lane rules line d o stamp J F L s a e owner w.part w.keeps w.heard w.asked w.unopened set l))
