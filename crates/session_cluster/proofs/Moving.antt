-- What a line moves in the lanes, and what it leaves.
use Rattle.std.proofs.Common.{◌≡◌, ◌⊎◌, ◌≤◌, ℕ, zero, suc, List, [], ◌∷◌, Option, None, Some, inl, inr, refl, sym, ap, ap₂, ◌∙◌, subst, arith, length, map, slice_get, set}
use Rattle.std.proofs.lemmas.Bool.{cases_eq, cases_lt}
use Rattle.std.proofs.lemmas.List.{length-map}
use Rattle.std.proofs.lemmas.Option.{slice_get_within}
use Rattle.carriers.specs.declared.fate.Fate.{Fate}
use Rattle.cluster_states.specs.Publishing.{Told, publish_fault}
use Rattle.cluster_states.specs.declared.cluster_state.ClusterState.{ClusterState}
use Rattle.cluster_states.specs.declared.states.PublishFault.{PublishFault}
use Rattle.messages.specs.declared.operation.Operation.{Operation}
use Rattle.messages.specs.declared.outcome.Outcome.{Outcome}
use Rattle.bucket_ids.specs.Buckets.{Low}
use Rattle.distributor_part.specs.declared.rules.Rules.{Rules}
use Rattle.lane_calls.specs.LaneValues.{LaneValue}
use Rattle.lane_lives.specs.declared.setting.Setting.{Setting}
use Rattle.lane_calls.specs.Lines.{FeedLine, IsCarriedOut}
use Rattle.lane_lives.specs.Lives.{Deed, Announces, Stops, Starts, Runs, Maintains}
use Rattle.lane_calls.specs.Readings.{outcome_in}
use Rattle.lane_lives.specs.Serving.{bucket_in}
use Rattle.lane_calls.proofs.OneLine.{IsLine}
use Rattle.lane_lives.proofs.Deeds.{deed_is}
use Rattle.lane_calls.proofs.Upkept.{pass_made}
use Rattle.reports.specs.declared.answer.Answer.TheVariants as answer
use Rattle.session_cluster.specs.Cells.{Cell, journals}
use Rattle.session_cluster.specs.Keeping.{HaveDone}
use Rattle.session_cluster.specs.Lanes.{lane_of_id, journal_in}
use Rattle.session_cluster.specs.Output.{plan_answer, operation_answer, upkeep_answer, found_answer_of, answer_in}
use Rattle.session_cluster.specs.Searches.{fronts_of}
use Rattle.session_cluster.specs.Spans.{spans_of}
use Rattle.session_cluster.specs.Steps.{with_room, without_room, after_state, after_stop, after_start, IsOperatedIn, IsStateTold, MayHavePassed, MayHaveAllPassed, IsAfter}
use Rattle.session_cluster.specs.declared.asked.Asked.{Asked}
use Rattle.session_cluster.specs.declared.asked.Asked.TheVariants as command
use Rattle.session_cluster.proofs.Elements.{map_there}
use Rattle.session_cluster.proofs.KeptLanes.{lane_there}
use Rattle.session_cluster.proofs.LaneLists.{journal_is, journal_at, journal_past, journal_set, journal_other}
use Rattle.session_cluster.proofs.SessionSteps.{after_plan, takes_same}

-- in each lane the line came, or nothing changed; and whether its carrier takes plans is as it was
pub record Moves (k : ℕ) (vs ws : List LaneValue) : Type 0 where
  pub journal : (lane : ℕ) → IsLine k (journal_in lane (journals vs)) (journal_in lane (journals ws)) ⊎ (journal_in lane (journals ws) ≡ journal_in lane (journals vs))
  pub plans : (lane : ℕ) → plan_answer (slice_get ws lane) ≡ plan_answer (slice_get vs lane)

-- ---- all lanes at once

plans_map : (f : LaneValue → LaneValue) → ((v : LaneValue) → (f v).takes_plans ≡ v.takes_plans) → (vs : List LaneValue) (lane : ℕ) → plan_answer (slice_get (map f vs) lane) ≡ plan_answer (slice_get vs lane)
plans_map f takes [] lane = refl
plans_map f takes (v ∷ vs) zero = ap (λ t. plan_answer (Some (record v { takes_plans = t }))) (takes v)
plans_map f takes (v ∷ vs) (suc lane) = plans_map f takes vs lane

journal_map : (f : LaneValue → LaneValue) (vs : List LaneValue) (lane : ℕ) (v : LaneValue) → slice_get vs lane ≡ Some v → journal_in lane (journals (map f vs)) ≡ (f v).journal
journal_map f vs lane v at = journal_at (map f vs) lane (f v) (map_there f vs lane v at)

-- in each lane a deed was done
moves_each : (k : ℕ) (f : LaneValue → LaneValue) (vs : List LaneValue) → ((lane : ℕ) (v : LaneValue) → IsLine k v.journal (f v).journal ⊎ ((f v).journal ≡ v.journal)) → (lane : ℕ)
    → IsLine k (journal_in lane (journals vs)) (journal_in lane (journals (map f vs))) ⊎ (journal_in lane (journals (map f vs)) ≡ journal_in lane (journals vs))
moves_each k f vs step lane = elim (cases_lt lane (length vs)) [
  | inl there ↦ let found = lane_there vs lane there in by_step found.0 found.1 (step lane found.0)
  | inr past ↦
      let outside : length vs ≤ lane = omega (arith, past) in
      inr (journal_past (map f vs) lane (omega (arith, length-map vs f, outside)) ∙ sym (journal_past vs lane outside))
]
  where
    by_step : (v : LaneValue) → slice_get vs lane ≡ Some v → IsLine k v.journal (f v).journal ⊎ ((f v).journal ≡ v.journal)
        → IsLine k (journal_in lane (journals vs)) (journal_in lane (journals (map f vs))) ⊎ (journal_in lane (journals (map f vs)) ≡ journal_in lane (journals vs))
    by_step v at (inl line) = inl (subst (λ J. IsLine k J (journal_in lane (journals (map f vs)))) (sym (journal_at vs lane v at)) (subst (IsLine k v.journal) (sym (journal_map f vs lane v at)) line))
    by_step v at (inr same) = inr (journal_map f vs lane v at ∙ same ∙ sym (journal_at vs lane v at))

each_moves : (k : ℕ) (f : LaneValue → LaneValue) (vs ws : List LaneValue) → ws ≡ map f vs → ((v : LaneValue) → (f v).takes_plans ≡ v.takes_plans) → ((lane : ℕ) (v : LaneValue) → IsLine k v.journal (f v).journal ⊎ ((f v).journal ≡ v.journal)) → Moves k vs ws
each_moves k f vs ws now takes step = subst (Moves k vs) (sym now) (record { journal = moves_each k f vs step; plans = plans_map f takes vs })

same_moves : (k : ℕ) (vs ws : List LaneValue) → ws ≡ vs → Moves k vs ws
same_moves k vs ws now = subst (Moves k vs) (sym now) (record { journal = λ lane. inr refl; plans = λ lane. refl })

told_moves : (s : Setting) (o : Option PublishFault) (state : ClusterState) (deaf : ℕ) (old new : Cell) (k : ℕ) → IsStateTold k o state deaf old new → Moves k old.lanes new.lanes
told_moves s None state deaf old new k d =
    each_moves k (after_state state deaf) old.lanes new.lanes (ap (λ (x : Cell). x.lanes) d.now) (λ v. refl)
    (λ lane v. inl (deed_is s (bucket_in s lane) (Announces state deaf) k tt v.journal (after_state state deaf v).journal refl))
told_moves s (Some why) state deaf old new k d = each_moves k with_room old.lanes new.lanes (ap (λ (x : Cell). x.lanes) d) (λ v. refl) (λ lane v. inr refl)

-- ---- one lane

plans_set : (vs : List LaneValue) (at : ℕ) (v w : LaneValue) → slice_get vs at ≡ Some v → w.takes_plans ≡ v.takes_plans → (lane : ℕ) → plan_answer (slice_get (set vs at w) lane) ≡ plan_answer (slice_get vs lane)
plans_set [] at v w there takes lane = refl
plans_set (x ∷ vs) zero v w there takes zero = ap (λ t. plan_answer (Some (record w { takes_plans = t }))) (takes ∙ ap (λ (y : LaneValue). y.takes_plans) (sym (some_is there)))
  where
    some_is : {y z : LaneValue} → Some y ≡ Some z → y ≡ z
    some_is e = cc
plans_set (x ∷ vs) zero v w there takes (suc lane) = refl
plans_set (x ∷ vs) (suc at) v w there takes zero = refl
plans_set (x ∷ vs) (suc at) v w there takes (suc lane) = plans_set vs at v w there takes lane

moves_set : (k : ℕ) (vs : List LaneValue) (at : ℕ) (v w : LaneValue) → slice_get vs at ≡ Some v → IsLine k v.journal w.journal ⊎ (w.journal ≡ v.journal) → (lane : ℕ)
    → IsLine k (journal_in lane (journals vs)) (journal_in lane (journals (set vs at w))) ⊎ (journal_in lane (journals (set vs at w)) ≡ journal_in lane (journals vs))
moves_set k vs at v w there step lane = elim (cases_eq at lane) [
  | inl here ↦ by_step here step
  | inr other ↦ inr (journal_other vs at lane w other)
]
  where
    now : journal_in at (journals (set vs at w)) ≡ w.journal
    now = journal_set vs at w (slice_get_within vs at v there)

    by_step : at ≡ lane → IsLine k v.journal w.journal ⊎ (w.journal ≡ v.journal)
        → IsLine k (journal_in lane (journals vs)) (journal_in lane (journals (set vs at w))) ⊎ (journal_in lane (journals (set vs at w)) ≡ journal_in lane (journals vs))
    by_step here (inl line) = inl (subst (λ n. IsLine k (journal_in n (journals vs)) (journal_in n (journals (set vs at w)))) here
        (subst (λ J. IsLine k J (journal_in at (journals (set vs at w)))) (sym (journal_at vs at v there)) (subst (IsLine k v.journal) (sym now) line)))
    by_step here (inr same) = inr (subst (λ n. journal_in n (journals (set vs at w)) ≡ journal_in n (journals vs)) here (now ∙ same ∙ sym (journal_at vs at v there)))

one_moves : (k : ℕ) (vs ws : List LaneValue) (at : ℕ) (v w : LaneValue) → ws ≡ set vs at w → slice_get vs at ≡ Some v → w.takes_plans ≡ v.takes_plans → IsLine k v.journal w.journal ⊎ (w.journal ≡ v.journal) → Moves k vs ws
one_moves k vs ws at v w now there takes step = subst (Moves k vs) (sym now) (record { journal = moves_set k vs at v w there step; plans = plans_set vs at v w there takes })

-- the line in the lane of its operation
line_there : {deeds : ℕ → List Deed} (s : Setting) (plans : ℕ → List Fate) (cs : List Asked) (op : Operation) (via : Option ℕ) (old new : Cell) (k at : ℕ) (x : Outcome) → HaveDone s plans cs deeds old → (d : IsOperatedIn at k op via old new x) → IsLine k (d.before).journal (d.after).journal
line_there s plans cs op via old new k at x kept d =
    let line : FeedLine = record { number = k; operation = op; via = via } in
    let is = kept.serving at d.before d.there in
    deed_is s (bucket_in s at) (Runs line) k refl (d.before).journal (d.after).journal
    (subst (λ (r : Rules). IsCarriedOut (bucket_in s at) r line via (d.before).journal (d.after).journal) is.rules_are
    (subst (λ (b : Low). IsCarriedOut b (d.before).rules line via (d.before).journal (d.after).journal) is.lane_is (d.ran).done))

operation_moves : {deeds : ℕ → List Deed} (s : Setting) (plans : ℕ → List Fate) (cs : List Asked) (op : Operation) (via : Option ℕ) (old new : Cell) (k at : ℕ) (x : Outcome) → HaveDone s plans cs deeds old → IsOperatedIn at k op via old new x → Moves k old.lanes new.lanes
operation_moves s plans cs op via old new k at x kept d =
    one_moves k old.lanes new.lanes at d.before d.after (ap (λ (c : Cell). c.lanes) d.now) d.there (ap (λ (v : LaneValue). v.takes_plans) (d.ran).after) (inl (line_there s plans cs op via old new k at x kept d))

-- ---- upkeep

passed_line : (k : ℕ) (s : Setting) (v w : LaneValue) → MayHavePassed v w → IsLine k v.journal w.journal ⊎ (w.journal ≡ v.journal)
passed_line k s v w (inl same) = inr (ap (λ (x : LaneValue). x.journal) same)
passed_line k s v w (inr m) = inl (deed_is s v.lane (Maintains None) k tt v.journal w.journal (inr (pass_made v w m.0)))

-- a lane that isn't there stays out
none_there : (vs ws : List LaneValue) (lane : ℕ) → length ws ≡ length vs → length vs ≤ lane → plan_answer (slice_get ws lane) ≡ plan_answer (slice_get vs lane)
none_there [] [] lane count past = refl
none_there [] (w ∷ ws) lane count past = absurd (omega (arith, count))
none_there (v ∷ vs) [] lane count past = absurd (omega (arith, count))
none_there (v ∷ vs) (w ∷ ws) zero count past = absurd (omega (arith, past))
none_there (v ∷ vs) (w ∷ ws) (suc lane) count past = none_there vs ws lane (omega (arith, count)) (omega (arith, past))

plan_same : (v w : LaneValue) → w.takes_plans ≡ v.takes_plans → plan_answer (Some w) ≡ plan_answer (Some v)
plan_same v w takes = ap (λ t. Some (answer.Planned t)) takes

all_move : (s : Setting) (k : ℕ) (vs ws : List LaneValue) → MayHaveAllPassed vs ws → Moves k vs ws
all_move s k vs ws d = record {
  journal = λ lane. elim (cases_lt lane (length vs)) [
    | inl there ↦
        let v = lane_there vs lane there in
        let w = lane_there ws lane (omega (arith, there, d.count)) in
        by_step lane v.0 w.0 v.1 w.1 (passed_line k s v.0 w.0 (d.each lane v.0 w.0 v.1 w.1))
    | inr past ↦ inr (journal_past ws lane (omega (arith, past, d.count)) ∙ sym (journal_past vs lane (omega (arith, past))))
  ];
  plans = λ lane. elim (cases_lt lane (length vs)) [
    | inl there ↦
        let v = lane_there vs lane there in
        let w = lane_there ws lane (omega (arith, there, d.count)) in
        ap plan_answer w.1 ∙ plan_same v.0 w.0 (takes_same v.0 w.0 (d.each lane v.0 w.0 v.1 w.1)) ∙ sym (ap plan_answer v.1)
    | inr past ↦ none_there vs ws lane d.count (omega (arith, past))
  ];
}
  where
    by_step : (lane : ℕ) (v w : LaneValue) → slice_get vs lane ≡ Some v → slice_get ws lane ≡ Some w → IsLine k v.journal w.journal ⊎ (w.journal ≡ v.journal)
        → IsLine k (journal_in lane (journals vs)) (journal_in lane (journals ws)) ⊎ (journal_in lane (journals ws) ≡ journal_in lane (journals vs))
    by_step lane v w was is (inl line) =
        inl (subst (λ J. IsLine k J (journal_in lane (journals ws))) (sym (journal_at vs lane v was)) (subst (IsLine k v.journal) (sym (journal_at ws lane w is)) line))
    by_step lane v w was is (inr same) = inr (journal_at ws lane w is ∙ same ∙ sym (journal_at vs lane v was))

-- ---- any line

pub moves : {deeds : ℕ → List Deed} (s : Setting) (plans : ℕ → List Fate) (cs : List Asked) (c : Asked) (old new : Cell) (k : ℕ) → HaveDone s plans cs deeds old → IsAfter s k c old new → Moves k old.lanes new.lanes
moves s plans cs command.Blank old new k kept now = same_moves k old.lanes new.lanes (ap (λ (x : Cell). x.lanes) now)
moves s plans cs command.TooLong old new k kept now = same_moves k old.lanes new.lanes (ap (λ (x : Cell). x.lanes) now)
moves s plans cs command.Barrier old new k kept now = same_moves k old.lanes new.lanes (ap (λ (x : Cell). x.lanes) now)
moves s plans cs (command.Bad why) old new k kept now = same_moves k old.lanes new.lanes (ap (λ (x : Cell). x.lanes) now)
moves s plans cs (command.Feed op via) old new k kept now = operation_moves s plans cs op via old new k (lane_of_id s.bits op.id) now.0 kept now.1
moves s plans cs (command.State state deaf) old new k kept now = told_moves s (publish_fault old.told state) state deaf old new k now
moves s plans cs (command.BadState offset) old new k kept now = same_moves k old.lanes new.lanes (ap (λ (x : Cell). x.lanes) now)
moves s plans cs (command.Stop node) old new k kept now =
    each_moves k (after_stop node) old.lanes new.lanes (ap (λ (x : Cell). x.lanes) now.now) (λ v. refl) (λ lane v. inl (deed_is s (bucket_in s lane) (Stops node) k tt v.journal (after_stop node v).journal refl))
moves s plans cs (command.Start node) old new k kept now =
    each_moves k (after_start node) old.lanes new.lanes (ap (λ (x : Cell). x.lanes) now.now) (λ v. refl) (λ lane v. inl (deed_is s (bucket_in s lane) (Starts node) k tt v.journal (after_start node v).journal refl))
moves s plans cs (command.Net at fates) old new k kept now =
    one_moves k old.lanes new.lanes at now.before (after_plan fates now.before) (ap (λ (x : Cell). x.lanes) now.now) now.there refl (inr refl)
moves s plans cs command.Maintain old new k kept now = all_move s k old.lanes new.lanes now.lanes
moves s plans cs (command.Search query) old new k kept now = same_moves k old.lanes new.lanes (ap (λ (x : Cell). x.lanes) now)
moves s plans cs (command.BadQuery offset) old new k kept now = same_moves k old.lanes new.lanes (ap (λ (x : Cell). x.lanes) now)

-- ---- room and what is shown

pub journals_seen : (vs ws : List LaneValue) → map without_room ws ≡ map without_room vs → journals ws ≡ journals vs
journals_seen vs ws same = sym (unseen ws) ∙ ap (map journal_is) same ∙ unseen vs
  where
    unseen : (us : List LaneValue) → map journal_is (map without_room us) ≡ map journal_is us
    unseen [] = refl
    unseen (u ∷ us) = ap (λ Js. u.journal ∷ Js) (unseen us)

pub plans_seen : (vs ws : List LaneValue) → map without_room ws ≡ map without_room vs → (lane : ℕ) → plan_answer (slice_get ws lane) ≡ plan_answer (slice_get vs lane)
plans_seen vs ws same lane =
    sym (plans_map without_room (λ v. refl) ws lane) ∙ ap (λ us. plan_answer (slice_get us lane)) same ∙ plans_map without_room (λ v. refl) vs lane

-- and then a line's answer is the same
pub answer_seen : (s : Setting) (told : Told) (j : ℕ) (c : Asked) (vs ws : Cell) → map without_room ws.lanes ≡ map without_room vs.lanes → ws.upkeeps ≡ vs.upkeeps → ws.fronts ≡ vs.fronts → answer_in s told j c ws ≡ answer_in s told j c vs
answer_seen s told j command.Blank vs ws same spans fronts = refl
answer_seen s told j command.TooLong vs ws same spans fronts = refl
answer_seen s told j command.Barrier vs ws same spans fronts = refl
answer_seen s told j (command.Bad why) vs ws same spans fronts = refl
answer_seen s told j (command.Feed op via) vs ws same spans fronts = ap (operation_answer s j op.id) (journals_seen vs.lanes ws.lanes same)
answer_seen s told j (command.State state deaf) vs ws same spans fronts = refl
answer_seen s told j (command.BadState offset) vs ws same spans fronts = refl
answer_seen s told j (command.Stop node) vs ws same spans fronts = refl
answer_seen s told j (command.Start node) vs ws same spans fronts = refl
answer_seen s told j (command.Net lane fates) vs ws same spans fronts = plans_seen vs.lanes ws.lanes same lane
answer_seen s told j command.Maintain vs ws same spans fronts = ap (λ us. upkeep_answer (spans_of j us)) spans
answer_seen s told j (command.Search q) vs ws same spans fronts = ap₂ (λ o Js. found_answer_of s.schema told q o Js) (ap (fronts_of j) fronts) (journals_seen vs.lanes ws.lanes same)
answer_seen s told j (command.BadQuery offset) vs ws same spans fronts = refl

-- ---- the outcome of an operation

-- it is what the line ended with
pub outcome_after : (s : Setting) (op : Operation) (via : Option ℕ) (old new : Cell) (k : ℕ) (x : Outcome) → IsOperatedIn (lane_of_id s.bits op.id) k op via old new x
    → outcome_in k (journal_in (lane_of_id s.bits op.id) (journals new.lanes)) ≡ Some x
outcome_after s op via old new k x d =
    let at = lane_of_id s.bits op.id in
    ap (λ (c : Cell). outcome_in k (journal_in at (journals c.lanes))) d.now
    ∙ ap (outcome_in k) (journal_set old.lanes at d.after (slice_get_within old.lanes at d.before d.there)) ∙ (d.ran).outcome_is
