-- One line more keeps what a session keeps.
use Rattle.std.proofs.Common.{◌≡◌, ◌≢◌, ◌⊎◌, ◌<◌, ◌≤◌, ◌+◌, ℕ, zero, suc, List, [], ◌∷◌, ◌++◌, Option, None, Some, option_and_then, inl, inr, refl, sym, ap, ◌∙◌, subst, arith, length, length-append, length-set, map, slice_get, set, true}
use Rattle.std.proofs.lemmas.List.{length-map}
use Rattle.std.proofs.lemmas.Option.{slice_get_within}
use Rattle.carriers.specs.Fates.{planned_with}
use Rattle.carriers.specs.declared.fate.Fate.{Fate}
use Rattle.cluster_states.specs.Publishing.{Told, publish_fault}
use Rattle.cluster_states.specs.declared.cluster_state.ClusterState.{ClusterState}
use Rattle.cluster_states.specs.declared.states.PublishFault.{PublishFault}
use Rattle.messages.specs.declared.operation.Operation.{Operation}
use Rattle.messages.specs.declared.outcome.Outcome.{Outcome}
use Rattle.lane_calls.specs.LaneValues.{LaneValue, IsLaneValue}
use Rattle.lane_lives.specs.declared.setting.Setting.{Setting}
use Rattle.lane_lives.specs.Lives.{Deed, Announces, Stops, Starts, Runs, Maintains, lines_of}
use Rattle.lane_calls.specs.Lines.{last_line}
use Rattle.lane_lives.specs.Serving.{IsServing}
use Rattle.lane_core.proofs.Served.{serves_run, serves_announced, serves_stopped, serves_started, serves_room, serves_planned, serves_upkept, serves_spanned}
use Rattle.session_cluster.specs.Cells.{Cell}
use Rattle.session_cluster.specs.Deeds.{first_told, told_with, told_next, told_of, with_state, with_line, deeds_of_lane, planned_next, planned_for}
use Rattle.session_cluster.specs.Keeping.{HaveDone, IsKept, AreAlike, AreAllAlike}
use Rattle.session_cluster.specs.Lanes.{lane_of_id}
use Rattle.lane_lives.specs.Upkeep.{MayBeUpkept}
use Rattle.query_text.specs.Grammar.{Said}
use Rattle.session_cluster.specs.Searches.{fronts_of, fronts_now}
use Rattle.session_cluster.specs.Spans.{spans_of, span_in}
use Rattle.session_cluster.specs.Steps.{with_room, without_room, after_state, after_stop, after_start, IsOperatedIn, IsDoneInEach, IsPublished, IsStateTold, IsPlannedIn, MayHavePassed, HasSpans, IsMaintained, IsSearched, IsRoomier, IsAfter}
use Rattle.session_cluster.specs.declared.asked.Asked.{Asked}
use Rattle.session_cluster.specs.declared.asked.Asked.TheVariants as command
use Rattle.session_cluster.specs.declared.cluster.LineSpans.{LineSpans}
use Rattle.lane_lives.specs.declared.spans.UpkeepSpan.{UpkeepSpan}
use Rattle.session_cluster.proofs.AlikeDeeds.{AreLow, alike_low, alike_line}
use Rattle.session_cluster.proofs.DeedLists.{told_push, deeds_push, deeds_same, planned_push, with_own, with_other, plan_own, plan_other, lines_low}
use Rattle.session_cluster.proofs.Elements.{element_set, element_map, element_seen}
use Rattle.session_cluster.proofs.FrontLists.{fronts_other}
use Rattle.session_cluster.proofs.SpanLists.{spans_other, spans_own}

count_next : (cs : List Asked) (c : Asked) (k : ℕ) → k ≡ length cs + 1 → k ≡ length (cs ++ c ∷ [])
count_next cs c k is = omega (arith, is, length-append cs (c ∷ []))

-- each lane serves the lines so far and this one more
abbrev ServesNext : Setting → (ℕ → List Fate) → List Asked → (ℕ → List Deed) → Asked → ℕ → Told → List LineSpans → List LaneValue → Type 0
ServesNext s plans cs deeds c k told us vs = (lane : ℕ) (v : LaneValue) → slice_get vs lane ≡ Some v
    → IsServing s (planned_next lane v.takes_plans c (planned_for lane v.takes_plans (plans lane) cs)) lane (with_line s us lane told k c (deeds lane)) v

-- these deeds were done, and this line's
abbrev DoneNext : Setting → (ℕ → List Fate) → List Asked → (ℕ → List Deed) → Asked → ℕ → Cell → Cell → Type 0
DoneNext s plans cs deeds c k old new = HaveDone s plans (cs ++ c ∷ []) (λ lane. with_line s new.upkeeps lane old.told k c (deeds lane)) new

-- another line has the spans that it had
abbrev pub LeavesSpans : ℕ → Cell → Cell → Type 0
LeavesSpans k old new = (line : ℕ) → k ≢ line → spans_of line new.upkeeps ≡ spans_of line old.upkeeps

same_spans : (k : ℕ) (old new : Cell) → new.upkeeps ≡ old.upkeeps → LeavesSpans k old new
same_spans k old new same line other = ap (spans_of line) same

-- and the fronts
abbrev pub LeavesFronts : ℕ → Cell → Cell → Type 0
LeavesFronts k old new = (line : ℕ) → k ≢ line → fronts_of line new.fronts ≡ fronts_of line old.fronts

same_fronts : (k : ℕ) (old new : Cell) → new.fronts ≡ old.fronts → LeavesFronts k old new
same_fronts k old new same line other = ap (fronts_of line) same

done_next : (s : Setting) (plans : ℕ → List Fate) (cs : List Asked) (deeds : ℕ → List Deed) (c : Asked) (old new : Cell) (k : ℕ) → HaveDone s plans cs deeds old → k ≡ length cs + 1
    → new.bits ≡ old.bits → new.told ≡ told_next c old.told → new.dealt ≡ k → length new.lanes ≡ length old.lanes → ServesNext s plans cs deeds c k old.told new.upkeeps new.lanes → LeavesSpans k old new → LeavesFronts k old new
    → DoneNext s plans cs deeds c k old new
done_next s plans cs deeds c old new k done is bits told dealt lanes serving spans fronts = record {
  bits = bits ∙ done.bits;
  told = told ∙ ap (told_next c) done.told ∙ sym (told_push (first_told s) cs c);
  dealt = dealt ∙ count_next cs c k is;
  lanes = lanes ∙ done.lanes;
  serving = λ lane v at. subst (λ p. IsServing s p lane (with_line s new.upkeeps lane old.told k c (deeds lane)) v) (sym (planned_push lane v.takes_plans (plans lane) cs c)) (serving lane v at);
  unkept = λ line later. spans line (λ e. absurd (omega (arith, e, later, dealt))) ∙ done.unkept line (omega (arith, later, dealt, is, done.dealt));
  unread = λ line later. fronts line (λ e. absurd (omega (arith, e, later, dealt))) ∙ done.unread line (omega (arith, later, dealt, is, done.dealt));
}

-- ---- a line that does nothing in the lanes

serves_same : (s : Setting) (plans : ℕ → List Fate) (cs : List Asked) (deeds : ℕ → List Deed) (old new : Cell) (k : ℕ) → HaveDone s plans cs deeds old → new ≡ record old { dealt = k }
    → (lane : ℕ) (v : LaneValue) → slice_get new.lanes lane ≡ Some v → IsServing s (planned_for lane v.takes_plans (plans lane) cs) lane (deeds lane) v
serves_same s plans cs deeds old new k done now lane v at = done.serving lane v (subst (λ (x : Cell). slice_get x.lanes lane ≡ Some v) now at)

done_plain : (s : Setting) (plans : ℕ → List Fate) (cs : List Asked) (deeds : ℕ → List Deed) (c : Asked) (old new : Cell) (k : ℕ) → HaveDone s plans cs deeds old → k ≡ length cs + 1 → ((told : Told) → told_next c told ≡ told)
    → ServesNext s plans cs deeds c k old.told new.upkeeps new.lanes → new ≡ record old { dealt = k } → DoneNext s plans cs deeds c k old new
done_plain s plans cs deeds c old new k done is none serving now =
    done_next s plans cs deeds c old new k done is (ap (λ (x : Cell). x.bits) now) (ap (λ (x : Cell). x.told) now ∙ sym (none old.told)) (ap (λ (x : Cell). x.dealt) now) (ap (λ (x : Cell). length x.lanes) now) serving (same_spans k old new (ap (λ (x : Cell). x.upkeeps) now)) (same_fronts k old new (ap (λ (x : Cell). x.fronts) now))

-- ---- an operation

-- the lane of the operation serves it
served : (s : Setting) (plans : ℕ → List Fate) (cs : List Asked) (deeds : ℕ → List Deed) (op : Operation) (via : Option ℕ) (old new : Cell) (k at : ℕ) (x : Outcome) → HaveDone s plans cs deeds old → AreLow deeds (length cs) → k ≡ length cs + 1 → (d : IsOperatedIn at k op via old new x)
    → IsServing s (planned_for at (d.after).takes_plans (plans at) cs) at (Runs (record { number = k; operation = op; via = via }) ∷ deeds at) d.after
served s plans cs deeds op via old new k at x done low is d =
    let below : last_line (lines_of (deeds at)) ≤ length cs = low at in
    subst (λ t. IsServing s (planned_for at t (plans at) cs) at (Runs (record { number = k; operation = op; via = via }) ∷ deeds at) d.after) (sym (ap (λ (v : LaneValue). v.takes_plans) (d.ran).after))
    (serves_run s (planned_for at (d.before).takes_plans (plans at) cs) at (deeds at) d.before d.after (record { number = k; operation = op; via = via }) x (done.serving at d.before d.there) (omega (arith, is, below)) d.ran)

serves_operation : (s : Setting) (plans : ℕ → List Fate) (cs : List Asked) (deeds : ℕ → List Deed) (op : Operation) (via : Option ℕ) (old new : Cell) (k : ℕ) (x : Outcome) → HaveDone s plans cs deeds old → AreLow deeds (length cs) → k ≡ length cs + 1
    → (d : IsOperatedIn (lane_of_id s.bits op.id) k op via old new x) → ServesNext s plans cs deeds (command.Feed op via) k old.told new.upkeeps (set old.lanes (lane_of_id s.bits op.id) d.after)
serves_operation s plans cs deeds op via old new k x done low is d lane v h =
    let at = lane_of_id s.bits op.id in
    let p = planned_for lane v.takes_plans (plans lane) cs in
    elim (element_set old.lanes at lane d.after v h) [
      | inl here ↦
          subst (λ ds. IsServing s p lane ds v) (sym (with_own s lane k op via (deeds lane) here.0))
          (subst (λ (w : LaneValue). IsServing s (planned_for lane w.takes_plans (plans lane) cs) lane (Runs (record { number = k; operation = op; via = via }) ∷ deeds lane) w) here.1
          (subst (λ n. IsServing s (planned_for n (d.after).takes_plans (plans n) cs) n (Runs (record { number = k; operation = op; via = via }) ∷ deeds n) d.after) here.0
          (served s plans cs deeds op via old new k at x done low is d)))
      | inr there ↦
          subst (λ ds. IsServing s p lane ds v) (sym (with_other s lane k op via (deeds lane) there.0)) (done.serving lane v there.1)
    ]

done_operation : (s : Setting) (plans : ℕ → List Fate) (cs : List Asked) (deeds : ℕ → List Deed) (op : Operation) (via : Option ℕ) (old new : Cell) (k : ℕ) (x : Outcome) → HaveDone s plans cs deeds old → AreLow deeds (length cs) → k ≡ length cs + 1
    → IsOperatedIn (lane_of_id s.bits op.id) k op via old new x → DoneNext s plans cs deeds (command.Feed op via) k old new
done_operation s plans cs deeds op via old new k x done low is d =
    done_next s plans cs deeds (command.Feed op via) old new k done is (ap (λ (c : Cell). c.bits) d.now) (ap (λ (c : Cell). c.told) d.now) (ap (λ (c : Cell). c.dealt) d.now)
    (ap (λ (c : Cell). length c.lanes) d.now ∙ length-set old.lanes (lane_of_id s.bits op.id) d.after)
    (λ lane v at. serves_operation s plans cs deeds op via old new k x done low is d lane v (subst (λ (c : Cell). slice_get c.lanes lane ≡ Some v) d.now at))
    (same_spans k old new (ap (λ (c : Cell). c.upkeeps) d.now)) (same_fronts k old new (ap (λ (c : Cell). c.fronts) d.now))

-- ---- what every lane does

-- each lane is what f makes of it, f leaves alone whether its carrier takes plans, and what f makes serves these deeds
serves_each : (s : Setting) (plans : ℕ → List Fate) (cs : List Asked) (deeds : ℕ → List Deed) (old new : Cell) (f : LaneValue → LaneValue) (more : ℕ → List Deed) → HaveDone s plans cs deeds old → new.lanes ≡ map f old.lanes
    → ((v : LaneValue) → (f v).takes_plans ≡ v.takes_plans)
    → ((lane : ℕ) (v : LaneValue) (p : List Fate) → slice_get new.lanes lane ≡ Some (f v) → IsServing s p lane (deeds lane) v → IsServing s p lane (more lane) (f v))
    → (lane : ℕ) (v : LaneValue) → slice_get new.lanes lane ≡ Some v → IsServing s (planned_for lane v.takes_plans (plans lane) cs) lane (more lane) v
serves_each s plans cs deeds old new f more done now takes step lane v at =
    let found = element_map f old.lanes lane v (subst (λ vs. slice_get vs lane ≡ Some v) now at) in
    let w = found.0 in
    subst (λ (x : LaneValue). IsServing s (planned_for lane x.takes_plans (plans lane) cs) lane (more lane) x) (sym found.1.1)
    (subst (λ t. IsServing s (planned_for lane t (plans lane) cs) lane (more lane) (f w)) (sym (takes w))
    (step lane w (planned_for lane w.takes_plans (plans lane) cs) (subst (λ x. slice_get new.lanes lane ≡ Some x) found.1.1 at) (done.serving lane w found.1.0)))

-- a state was announced
serves_state : (s : Setting) (plans : ℕ → List Fate) (cs : List Asked) (deeds : ℕ → List Deed) (state : ClusterState) (deaf : ℕ) (old new : Cell) (k : ℕ) → HaveDone s plans cs deeds old → IsPublished k state deaf old new
    → (lane : ℕ) (v : LaneValue) → slice_get new.lanes lane ≡ Some v → IsServing s (planned_for lane v.takes_plans (plans lane) cs) lane (Announces state deaf ∷ deeds lane) v
serves_state s plans cs deeds state deaf old new k done d =
    serves_each s plans cs deeds old new (after_state state deaf) (λ lane. Announces state deaf ∷ deeds lane) done (ap (λ (x : Cell). x.lanes) d.now) (λ v. refl)
    (λ lane v p at is. serves_announced s p lane (deeds lane) v (after_state state deaf v) state deaf is refl (d.holds lane (after_state state deaf v) at))

-- room was made
serves_roomy : (s : Setting) (plans : ℕ → List Fate) (cs : List Asked) (deeds : ℕ → List Deed) (old new : Cell) → HaveDone s plans cs deeds old → new.lanes ≡ map with_room old.lanes
    → (lane : ℕ) (v : LaneValue) → slice_get new.lanes lane ≡ Some v → IsServing s (planned_for lane v.takes_plans (plans lane) cs) lane (deeds lane) v
serves_roomy s plans cs deeds old new done now =
    serves_each s plans cs deeds old new with_room deeds done now (λ v. refl) (λ lane v p at is. serves_room s p lane (deeds lane) v (with_room v) true is refl)

serves_told : (s : Setting) (plans : ℕ → List Fate) (cs : List Asked) (deeds : ℕ → List Deed) (o : Option PublishFault) (state : ClusterState) (deaf : ℕ) (old new : Cell) (k : ℕ) → HaveDone s plans cs deeds old → IsStateTold k o state deaf old new
    → (lane : ℕ) (v : LaneValue) → slice_get new.lanes lane ≡ Some v → IsServing s (planned_for lane v.takes_plans (plans lane) cs) lane (with_state o state deaf (deeds lane)) v
serves_told s plans cs deeds None state deaf old new k done d = serves_state s plans cs deeds state deaf old new k done d
serves_told s plans cs deeds (Some why) state deaf old new k done d = serves_roomy s plans cs deeds old new done (ap (λ (x : Cell). x.lanes) d)

-- what else is told, dealt with and there then
record IsToldThen (k : ℕ) (o : Option PublishFault) (state : ClusterState) (old new : Cell) : Type 0 where
  bits : new.bits ≡ old.bits
  told : new.told ≡ told_with o state old.told
  dealt : new.dealt ≡ k
  lanes : length new.lanes ≡ length old.lanes
  upkeeps : new.upkeeps ≡ old.upkeeps
  fronts : new.fronts ≡ old.fronts

told_then : (k : ℕ) (o : Option PublishFault) (state : ClusterState) (deaf : ℕ) (old new : Cell) → IsStateTold k o state deaf old new → IsToldThen k o state old new
told_then k None state deaf old new d = record {
  bits = ap (λ (x : Cell). x.bits) d.now;
  told = ap (λ (x : Cell). x.told) d.now;
  dealt = ap (λ (x : Cell). x.dealt) d.now;
  lanes = ap (λ (x : Cell). length x.lanes) d.now ∙ length-map old.lanes (after_state state deaf);
  upkeeps = ap (λ (x : Cell). x.upkeeps) d.now;
  fronts = ap (λ (x : Cell). x.fronts) d.now;
}
told_then k (Some why) state deaf old new d = record {
  bits = ap (λ (x : Cell). x.bits) d;
  told = ap (λ (x : Cell). x.told) d;
  dealt = ap (λ (x : Cell). x.dealt) d;
  lanes = ap (λ (x : Cell). length x.lanes) d ∙ length-map old.lanes with_room;
  upkeeps = ap (λ (x : Cell). x.upkeeps) d;
  fronts = ap (λ (x : Cell). x.fronts) d;
}

done_told : (s : Setting) (plans : ℕ → List Fate) (cs : List Asked) (deeds : ℕ → List Deed) (state : ClusterState) (deaf : ℕ) (old new : Cell) (k : ℕ) → HaveDone s plans cs deeds old → k ≡ length cs + 1
    → IsStateTold k (publish_fault old.told state) state deaf old new → DoneNext s plans cs deeds (command.State state deaf) k old new
done_told s plans cs deeds state deaf old new k done is d =
    let told = told_then k (publish_fault old.told state) state deaf old new d in
    done_next s plans cs deeds (command.State state deaf) old new k done is told.bits told.told told.dealt told.lanes
    (serves_told s plans cs deeds (publish_fault old.told state) state deaf old new k done d)
    (same_spans k old new told.upkeeps) (same_fronts k old new told.fronts)

done_stop : (s : Setting) (plans : ℕ → List Fate) (cs : List Asked) (deeds : ℕ → List Deed) (node : ℕ) (old new : Cell) (k : ℕ) → HaveDone s plans cs deeds old → k ≡ length cs + 1 → IsDoneInEach k (after_stop node) old new → DoneNext s plans cs deeds (command.Stop node) k old new
done_stop s plans cs deeds node old new k done is d =
    done_next s plans cs deeds (command.Stop node) old new k done is (ap (λ (x : Cell). x.bits) d.now) (ap (λ (x : Cell). x.told) d.now) (ap (λ (x : Cell). x.dealt) d.now)
    (ap (λ (x : Cell). length x.lanes) d.now ∙ length-map old.lanes (after_stop node))
    (serves_each s plans cs deeds old new (after_stop node) (λ lane. Stops node ∷ deeds lane) done (ap (λ (x : Cell). x.lanes) d.now) (λ v. refl)
    (λ lane v p at on. serves_stopped s p lane (deeds lane) v (after_stop node v) node on refl (d.holds lane (after_stop node v) at)))
    (same_spans k old new (ap (λ (x : Cell). x.upkeeps) d.now)) (same_fronts k old new (ap (λ (x : Cell). x.fronts) d.now))

done_start : (s : Setting) (plans : ℕ → List Fate) (cs : List Asked) (deeds : ℕ → List Deed) (node : ℕ) (old new : Cell) (k : ℕ) → HaveDone s plans cs deeds old → k ≡ length cs + 1 → IsDoneInEach k (after_start node) old new → DoneNext s plans cs deeds (command.Start node) k old new
done_start s plans cs deeds node old new k done is d =
    done_next s plans cs deeds (command.Start node) old new k done is (ap (λ (x : Cell). x.bits) d.now) (ap (λ (x : Cell). x.told) d.now) (ap (λ (x : Cell). x.dealt) d.now)
    (ap (λ (x : Cell). length x.lanes) d.now ∙ length-map old.lanes (after_start node))
    (serves_each s plans cs deeds old new (after_start node) (λ lane. Starts node ∷ deeds lane) done (ap (λ (x : Cell). x.lanes) d.now) (λ v. refl)
    (λ lane v p at on. serves_started s p lane (deeds lane) v (after_start node v) node on refl (d.holds lane (after_start node v) at)))
    (same_spans k old new (ap (λ (x : Cell). x.upkeeps) d.now)) (same_fronts k old new (ap (λ (x : Cell). x.fronts) d.now))

-- ---- a plan of messages

-- the lane once these fates were planned
abbrev pub after_plan : List Fate → LaneValue → LaneValue
after_plan fates v = record v { planned = planned_with v.takes_plans v.planned fates }

planned_here : (s : Setting) (plans : ℕ → List Fate) (cs : List Asked) (deeds : ℕ → List Deed) (at k : ℕ) (fates : List Fate) (old new : Cell) → HaveDone s plans cs deeds old → (d : IsPlannedIn k at fates old new)
    → IsServing s (planned_with (d.before).takes_plans (planned_for at (d.before).takes_plans (plans at) cs) fates) at (deeds at) (after_plan fates d.before)
planned_here s plans cs deeds at k fates old new done d =
    let is = done.serving at d.before d.there in
    subst (λ p. IsServing s (planned_with (d.before).takes_plans p fates) at (deeds at) (after_plan fates d.before)) is.planned_are
    (serves_planned s (planned_for at (d.before).takes_plans (plans at) cs) at (deeds at) d.before (after_plan fates d.before) (planned_with (d.before).takes_plans (d.before).planned fates) is refl)

serves_plan : (s : Setting) (plans : ℕ → List Fate) (cs : List Asked) (deeds : ℕ → List Deed) (at k : ℕ) (fates : List Fate) (old new : Cell) → HaveDone s plans cs deeds old → (d : IsPlannedIn k at fates old new)
    → ServesNext s plans cs deeds (command.Net at fates) k old.told new.upkeeps (set old.lanes at (after_plan fates d.before))
serves_plan s plans cs deeds at k fates old new done d lane v h =
    let p = planned_for lane v.takes_plans (plans lane) cs in
    elim (element_set old.lanes at lane (after_plan fates d.before) v h) [
      | inl here ↦
          subst (λ q. IsServing s q lane (deeds lane) v) (sym (plan_own lane at v.takes_plans fates p here.0))
          (subst (λ (w : LaneValue). IsServing s (planned_with w.takes_plans (planned_for lane w.takes_plans (plans lane) cs) fates) lane (deeds lane) w) here.1
          (subst (λ n. IsServing s (planned_with (d.before).takes_plans (planned_for n (d.before).takes_plans (plans n) cs) fates) n (deeds n) (after_plan fates d.before)) here.0
          (planned_here s plans cs deeds at k fates old new done d)))
      | inr there ↦
          subst (λ q. IsServing s q lane (deeds lane) v) (sym (plan_other lane at v.takes_plans fates p there.0)) (done.serving lane v there.1)
    ]

done_plan : (s : Setting) (plans : ℕ → List Fate) (cs : List Asked) (deeds : ℕ → List Deed) (at k : ℕ) (fates : List Fate) (old new : Cell) → HaveDone s plans cs deeds old → k ≡ length cs + 1 → IsPlannedIn k at fates old new
    → DoneNext s plans cs deeds (command.Net at fates) k old new
done_plan s plans cs deeds at k fates old new done is d =
    done_next s plans cs deeds (command.Net at fates) old new k done is (ap (λ (x : Cell). x.bits) d.now) (ap (λ (x : Cell). x.told) d.now) (ap (λ (x : Cell). x.dealt) d.now)
    (ap (λ (x : Cell). length x.lanes) d.now ∙ length-set old.lanes at (after_plan fates d.before))
    (λ lane v h. serves_plan s plans cs deeds at k fates old new done d lane v (subst (λ (x : Cell). slice_get x.lanes lane ≡ Some v) d.now h))
    (same_spans k old new (ap (λ (x : Cell). x.upkeeps) d.now)) (same_fronts k old new (ap (λ (x : Cell). x.fronts) d.now))

-- ---- upkeep

-- the lane as it was
pub lane_was : (vs ws : List LaneValue) (lane : ℕ) (w : LaneValue) → length ws ≡ length vs → slice_get ws lane ≡ Some w → (v : LaneValue) × (slice_get vs lane ≡ Some v)
lane_was [] ws lane w count at = absurd (omega (arith, count, slice_get_within ws lane w at))
lane_was (v ∷ vs) [] lane w count at = absurd (omega (arith, count))
lane_was (v ∷ vs) (x ∷ ws) zero w count at = (v, refl)
lane_was (v ∷ vs) (x ∷ ws) (suc lane) w count at = lane_was vs ws lane w (omega (arith, count)) at

-- it may have made a pass, and is legal
pub passed_legal : (v w : LaneValue) → MayHavePassed v w → IsLaneValue v → MayBeUpkept v w × IsLaneValue w
passed_legal v w (inl same) holds = (inl same, subst IsLaneValue (sym same) holds)
passed_legal v w (inr m) holds = (inr m.0, m.1)

pub takes_same : (v w : LaneValue) → MayHavePassed v w → w.takes_plans ≡ v.takes_plans
takes_same v w (inl same) = ap (λ (x : LaneValue). x.takes_plans) same
takes_same v w (inr m) = ap (λ (x : LaneValue). x.takes_plans) (m.0).after

-- what is noted of the line in a lane, by which the lane serves on
record IsNotedSo (s : Setting) (p : List Fate) (lane k : ℕ) (deeds : List Deed) (us : List LineSpans) (w : LaneValue) : Type 0 where
  noted : Option UpkeepSpan
  is : span_in lane k us ≡ noted
  serves : IsServing s p lane (Maintains noted ∷ deeds) w

in_list : (xs : List UpkeepSpan) (lane : ℕ) → lane < length xs → (x : UpkeepSpan) × (slice_get xs lane ≡ Some x)
in_list [] lane h = absurd (omega (arith, h))
in_list (x ∷ xs) zero h = (x, refl)
in_list (x ∷ xs) (suc lane) h = in_list xs lane (omega (arith, h))

module _ (s : Setting) (plans : ℕ → List Fate) (cs : List Asked) (deeds : ℕ → List Deed) (old new : Cell) (k : ℕ) (done : HaveDone s plans cs deeds old) (is : k ≡ length cs + 1) (d : IsMaintained k old new) where
  abbrev at_lane : ℕ → Option (List UpkeepSpan) → Option UpkeepSpan
  at_lane lane o = option_and_then (λ spans. slice_get spans lane) o

  own_none : spans_of k old.upkeeps ≡ None
  own_none = done.unkept k (omega (arith, is, done.dealt))

  module _ (lane : ℕ) (v w : LaneValue) (was : slice_get old.lanes lane ≡ Some v) (at : slice_get new.lanes lane ≡ Some w) where
    abbrev p : List Fate
    p = planned_for lane v.takes_plans (plans lane) cs

    may : MayHavePassed v w
    may = (d.lanes).each lane v w was at

    legal : MayBeUpkept v w × IsLaneValue w
    legal = passed_legal v w may (done.serving lane v was).holds

    noted_so : (new.upkeeps ≡ old.upkeeps) ⊎ HasSpans k old new → IsNotedSo s p lane k (deeds lane) new.upkeeps w
    noted_so (inl same) = record {
      noted = None;
      is = ap (at_lane lane) (ap (spans_of k) same ∙ own_none);
      serves = serves_upkept s p lane (deeds lane) v w (done.serving lane v was) legal.0 legal.1;
    }
    noted_so (inr h) =
        let x = in_list h.spans lane (let small = slice_get_within new.lanes lane w at in omega (arith, small, (d.lanes).count, (h.are).count)) in
        record {
          noted = Some x.0;
          is = ap (at_lane lane) (ap (spans_of k) h.noted ∙ spans_own k old.upkeeps (record { line = k; spans = h.spans }) refl own_none) ∙ x.1;
          serves = serves_spanned s p lane (deeds lane) v w x.0 (done.serving lane v was) ((h.are).each lane v w x.0 was at x.1).spans legal.1;
        }

    serves_noted : IsNotedSo s p lane k (deeds lane) new.upkeeps w → IsServing s (planned_for lane w.takes_plans (plans lane) cs) lane (Maintains (span_in lane k new.upkeeps) ∷ deeds lane) w
    serves_noted n =
        subst (λ t. IsServing s (planned_for lane t (plans lane) cs) lane (Maintains (span_in lane k new.upkeeps) ∷ deeds lane) w) (sym (takes_same v w may))
        (subst (λ noted. IsServing s p lane (Maintains noted ∷ deeds lane) w) (sym n.is) n.serves)

  serves_maintain : ServesNext s plans cs deeds command.Maintain k old.told new.upkeeps new.lanes
  serves_maintain lane w at = let was = lane_was old.lanes new.lanes lane w (d.lanes).count at in serves_noted lane was.0 w was.1 at (noted_so lane was.0 w was.1 at d.spans)

leaves_noted : (k : ℕ) (old new : Cell) → (new.upkeeps ≡ old.upkeeps) ⊎ HasSpans k old new → LeavesSpans k old new
leaves_noted k old new (inl same) line other = ap (spans_of line) same
leaves_noted k old new (inr h) line other = ap (spans_of line) h.noted ∙ spans_other line old.upkeeps (record { line = k; spans = h.spans }) other

done_maintain : (s : Setting) (plans : ℕ → List Fate) (cs : List Asked) (deeds : ℕ → List Deed) (old new : Cell) (k : ℕ) → HaveDone s plans cs deeds old → k ≡ length cs + 1 → IsMaintained k old new → DoneNext s plans cs deeds command.Maintain k old new
done_maintain s plans cs deeds old new k done is d =
    done_next s plans cs deeds command.Maintain old new k done is (ap (λ (x : Cell). x.bits) d.now) (ap (λ (x : Cell). x.told) d.now) (ap (λ (x : Cell). x.dealt) d.now) (d.lanes).count
    (serves_maintain s plans cs deeds old new k done is d) (leaves_noted k old new d.spans) (same_fronts k old new (ap (λ (x : Cell). x.fronts) d.now))

-- ---- a search

-- it noted how far it read
leaves_read : (k : ℕ) (old new : Cell) → IsSearched k old new → LeavesFronts k old new
leaves_read k old new now line other = ap (λ (x : Cell). fronts_of line x.fronts) now ∙ fronts_other line old.fronts (record { line = k; fronts = fronts_now old.lanes }) other

done_search : (s : Setting) (plans : ℕ → List Fate) (cs : List Asked) (deeds : ℕ → List Deed) (query : Said) (old new : Cell) (k : ℕ) → HaveDone s plans cs deeds old → k ≡ length cs + 1 → IsSearched k old new → DoneNext s plans cs deeds (command.Search query) k old new
done_search s plans cs deeds query old new k done is now =
    done_next s plans cs deeds (command.Search query) old new k done is (ap (λ (x : Cell). x.bits) now) (ap (λ (x : Cell). x.told) now) (ap (λ (x : Cell). x.dealt) now) (ap (λ (x : Cell). length x.lanes) now)
    (λ lane v at. done.serving lane v (subst (λ (x : Cell). slice_get x.lanes lane ≡ Some v) now at))
    (same_spans k old new (ap (λ (x : Cell). x.upkeeps) now)) (leaves_read k old new now)

-- ---- any line

pub done_low : (s : Setting) (plans : ℕ → List Fate) (cs : List Asked) (deeds : ℕ → List Deed) (c : Asked) (old new : Cell) (k : ℕ) → HaveDone s plans cs deeds old → AreLow deeds (length cs) → k ≡ length cs + 1 → IsAfter s k c old new
    → HaveDone s plans (cs ++ c ∷ []) (λ lane. with_line s new.upkeeps lane old.told k c (deeds lane)) new
done_low s plans cs deeds command.Blank old new k done low is now = done_plain s plans cs deeds command.Blank old new k done is (λ told. refl) (serves_same s plans cs deeds old new k done now) now
done_low s plans cs deeds command.TooLong old new k done low is now = done_plain s plans cs deeds command.TooLong old new k done is (λ told. refl) (serves_same s plans cs deeds old new k done now) now
done_low s plans cs deeds command.Barrier old new k done low is now = done_plain s plans cs deeds command.Barrier old new k done is (λ told. refl) (serves_same s plans cs deeds old new k done now) now
done_low s plans cs deeds (command.Bad why) old new k done low is now = done_plain s plans cs deeds (command.Bad why) old new k done is (λ told. refl) (serves_same s plans cs deeds old new k done now) now
done_low s plans cs deeds (command.Feed op via) old new k done low is now = done_operation s plans cs deeds op via old new k now.0 done low is now.1
done_low s plans cs deeds (command.State state deaf) old new k done low is now = done_told s plans cs deeds state deaf old new k done is now
done_low s plans cs deeds (command.BadState offset) old new k done low is now = done_plain s plans cs deeds (command.BadState offset) old new k done is (λ told. refl) (serves_same s plans cs deeds old new k done now) now
done_low s plans cs deeds (command.Stop node) old new k done low is now = done_stop s plans cs deeds node old new k done is now
done_low s plans cs deeds (command.Start node) old new k done low is now = done_start s plans cs deeds node old new k done is now
done_low s plans cs deeds (command.Net at fates) old new k done low is now = done_plan s plans cs deeds at k fates old new done is now
done_low s plans cs deeds command.Maintain old new k done low is now = done_maintain s plans cs deeds old new k done is now
done_low s plans cs deeds (command.Search query) old new k done low is now = done_search s plans cs deeds query old new k done is now
done_low s plans cs deeds (command.BadQuery offset) old new k done low is now = done_plain s plans cs deeds (command.BadQuery offset) old new k done is (λ told. refl) (serves_same s plans cs deeds old new k done now) now

-- ---- whose spans a line leaves

-- it asked for upkeep, or noted none
pub noted_after : (s : Setting) (c : Asked) (old new : Cell) (k : ℕ) → IsAfter s k c old new → (c ≡ command.Maintain) ⊎ (new.upkeeps ≡ old.upkeeps)
noted_after s command.Blank old new k now = inr (ap (λ (x : Cell). x.upkeeps) now)
noted_after s command.TooLong old new k now = inr (ap (λ (x : Cell). x.upkeeps) now)
noted_after s command.Barrier old new k now = inr (ap (λ (x : Cell). x.upkeeps) now)
noted_after s (command.Bad why) old new k now = inr (ap (λ (x : Cell). x.upkeeps) now)
noted_after s (command.Feed op via) old new k now = inr (ap (λ (x : Cell). x.upkeeps) (now.1).now)
noted_after s (command.State state deaf) old new k now = inr (told_then k (publish_fault old.told state) state deaf old new now).upkeeps
noted_after s (command.BadState offset) old new k now = inr (ap (λ (x : Cell). x.upkeeps) now)
noted_after s (command.Stop node) old new k now = inr (ap (λ (x : Cell). x.upkeeps) now.now)
noted_after s (command.Start node) old new k now = inr (ap (λ (x : Cell). x.upkeeps) now.now)
noted_after s (command.Net at fates) old new k now = inr (ap (λ (x : Cell). x.upkeeps) now.now)
noted_after s command.Maintain old new k now = inl refl
noted_after s (command.Search query) old new k now = inr (ap (λ (x : Cell). x.upkeeps) now)
noted_after s (command.BadQuery offset) old new k now = inr (ap (λ (x : Cell). x.upkeeps) now)

pub leaves_spans : (s : Setting) (c : Asked) (old new : Cell) (k : ℕ) → IsAfter s k c old new → LeavesSpans k old new
leaves_spans s c old new k after = elim (noted_after s c old new k after) [
  | inl is ↦ leaves_noted k old new (subst (λ (x : Asked). IsAfter s k x old new) is after).spans
  | inr same ↦ same_spans k old new same
]

-- ---- whose fronts a line leaves

-- it searched, or read nothing
pub read_after : (s : Setting) (c : Asked) (old new : Cell) (k : ℕ) → IsAfter s k c old new → ((query : Said) × (c ≡ command.Search query)) ⊎ (new.fronts ≡ old.fronts)
read_after s command.Blank old new k now = inr (ap (λ (x : Cell). x.fronts) now)
read_after s command.TooLong old new k now = inr (ap (λ (x : Cell). x.fronts) now)
read_after s command.Barrier old new k now = inr (ap (λ (x : Cell). x.fronts) now)
read_after s (command.Bad why) old new k now = inr (ap (λ (x : Cell). x.fronts) now)
read_after s (command.Feed op via) old new k now = inr (ap (λ (x : Cell). x.fronts) (now.1).now)
read_after s (command.State state deaf) old new k now = inr (told_then k (publish_fault old.told state) state deaf old new now).fronts
read_after s (command.BadState offset) old new k now = inr (ap (λ (x : Cell). x.fronts) now)
read_after s (command.Stop node) old new k now = inr (ap (λ (x : Cell). x.fronts) now.now)
read_after s (command.Start node) old new k now = inr (ap (λ (x : Cell). x.fronts) now.now)
read_after s (command.Net at fates) old new k now = inr (ap (λ (x : Cell). x.fronts) now.now)
read_after s command.Maintain old new k now = inr (ap (λ (x : Cell). x.fronts) now.now)
read_after s (command.Search query) old new k now = inl (query, refl)
read_after s (command.BadQuery offset) old new k now = inr (ap (λ (x : Cell). x.fronts) now)

pub leaves_fronts : (s : Setting) (c : Asked) (old new : Cell) (k : ℕ) → IsAfter s k c old new → LeavesFronts k old new
leaves_fronts s c old new k after = elim (read_after s c old new k after) [
  | inl is ↦ leaves_read k old new (subst (λ (x : Asked). IsAfter s k x old new) is.1 after)
  | inr same ↦ same_fronts k old new same
]

-- ---- deeds that are those of the lines, or like them

-- the same deeds in other words
pub done_as : (s : Setting) (plans : ℕ → List Fate) (cs : List Asked) (ds es : ℕ → List Deed) (c : Cell) → ((lane : ℕ) → ds lane ≡ es lane) → HaveDone s plans cs ds c → HaveDone s plans cs es c
done_as s plans cs ds es c same done = record {
  bits = done.bits;
  told = done.told;
  dealt = done.dealt;
  lanes = done.lanes;
  serving = λ lane v at. subst (λ deeds. IsServing s (planned_for lane v.takes_plans (plans lane) cs) lane deeds v) (same lane) (done.serving lane v at);
  unkept = done.unkept;
  unread = done.unread;
}

-- deeds like those of the lines
pub done_more : (s : Setting) (plans : ℕ → List Fate) (cs : List Asked) (deeds : ℕ → List Deed) (c : Asked) (old new : Cell) (k : ℕ) → HaveDone s plans cs deeds old → AreAllAlike s old.upkeeps cs deeds → k ≡ length cs + 1 → IsAfter s k c old new
    → HaveDone s plans (cs ++ c ∷ []) (λ lane. with_line s new.upkeeps lane old.told k c (deeds lane)) new
done_more s plans cs deeds c old new k done alike is after = done_low s plans cs deeds c old new k done (alike_low s old.upkeeps cs deeds alike) is after

-- those of the lines, with one line more
deeds_next : (s : Setting) (cs : List Asked) (c : Asked) (old new : Cell) (k : ℕ) → k ≡ length cs + 1 → old.told ≡ told_of s cs → LeavesSpans k old new → (lane : ℕ)
    → with_line s new.upkeeps lane old.told k c (deeds_of_lane s old.upkeeps lane cs) ≡ deeds_of_lane s new.upkeeps lane (cs ++ c ∷ [])
deeds_next s cs c old new k is told spans lane =
    ap (λ t. with_line s new.upkeeps lane t k c (deeds_of_lane s old.upkeeps lane cs)) told
    ∙ sym (deeds_push s new.upkeeps lane k cs c is ∙ ap (λ ds. with_line s new.upkeeps lane (told_of s cs) k c ds) (deeds_same s old.upkeeps new.upkeeps k lane cs (omega (arith, is)) spans))

pub kept_more : (s : Setting) (plans : ℕ → List Fate) (cs : List Asked) (c : Asked) (old new : Cell) (k : ℕ) → IsKept s plans cs old → k ≡ length cs + 1 → IsAfter s k c old new → IsKept s plans (cs ++ c ∷ []) new
kept_more s plans cs c old new k kept is after =
    done_as s plans (cs ++ c ∷ []) _ (λ lane. deeds_of_lane s new.upkeeps lane (cs ++ c ∷ [])) new (deeds_next s cs c old new k is kept.told (leaves_spans s c old new k after))
    (done_low s plans cs (λ lane. deeds_of_lane s old.upkeeps lane cs) c old new k kept (λ lane. lines_low s old.upkeeps lane cs) is after)

-- deeds that are like them stay so
pub alike_more : (s : Setting) (cs : List Asked) (deeds : ℕ → List Deed) (c : Asked) (old new : Cell) (k : ℕ) → AreAllAlike s old.upkeeps cs deeds → k ≡ length cs + 1 → old.told ≡ told_of s cs → IsAfter s k c old new
    → AreAllAlike s new.upkeeps (cs ++ c ∷ []) (λ lane. with_line s new.upkeeps lane old.told k c (deeds lane))
alike_more s cs deeds c old new k alike is told after lane =
    subst (AreAlike s (with_line s new.upkeeps lane old.told k c (deeds lane))) (deeds_next s cs c old new k is told (leaves_spans s c old new k after) lane)
    (alike_line s new.upkeeps lane old.told k c (deeds lane) (deeds_of_lane s old.upkeeps lane cs) (alike lane))

-- ---- room that was made

-- a lane of which all else is the same
but_room : (v w : LaneValue) → without_room v ≡ without_room w → v ≡ record w { has_room = v.has_room }
but_room v w same = ap (λ (x : LaneValue). record x { has_room = v.has_room }) same

serves_but_room : (s : Setting) (plans : ℕ → List Fate) (cs : List Asked) (deeds : ℕ → List Deed) (old new : Cell) → HaveDone s plans cs deeds old → map without_room new.lanes ≡ map without_room old.lanes
    → (lane : ℕ) (v : LaneValue) → slice_get new.lanes lane ≡ Some v → IsServing s (planned_for lane v.takes_plans (plans lane) cs) lane (deeds lane) v
serves_but_room s plans cs deeds old new done same lane v at =
    let found = element_seen without_room old.lanes new.lanes lane v same at in
    let w = found.0 in
    let is = but_room v w found.1.1 in
    subst (λ t. IsServing s (planned_for lane t (plans lane) cs) lane (deeds lane) v) (sym (ap (λ (x : LaneValue). x.takes_plans) is))
    (serves_room s (planned_for lane w.takes_plans (plans lane) cs) lane (deeds lane) w v v.has_room (done.serving lane w found.1.0) is)

pub done_roomier : (s : Setting) (plans : ℕ → List Fate) (cs : List Asked) (deeds : ℕ → List Deed) (old new : Cell) → IsRoomier old new → HaveDone s plans cs deeds old → HaveDone s plans cs deeds new
done_roomier s plans cs deeds old new r done = record {
  bits = ap (λ (x : Cell). x.bits) r.rest ∙ done.bits;
  told = ap (λ (x : Cell). x.told) r.rest ∙ done.told;
  dealt = ap (λ (x : Cell). x.dealt) r.rest ∙ done.dealt;
  lanes = sym (length-map new.lanes without_room) ∙ ap length r.lanes ∙ length-map old.lanes without_room ∙ done.lanes;
  serving = serves_but_room s plans cs deeds old new done r.lanes;
  unkept = λ line later. ap (λ (x : Cell). spans_of line x.upkeeps) r.rest ∙ done.unkept line (subst (λ (x : Cell). x.dealt < line) r.rest later);
  unread = λ line later. ap (λ (x : Cell). fronts_of line x.fronts) r.rest ∙ done.unread line (subst (λ (x : Cell). x.dealt < line) r.rest later);
}

pub kept_roomier : (s : Setting) (plans : ℕ → List Fate) (cs : List Asked) (old new : Cell) → IsRoomier old new → IsKept s plans cs old → IsKept s plans cs new
kept_roomier s plans cs old new r kept =
    done_as s plans cs (λ lane. deeds_of_lane s old.upkeeps lane cs) (λ lane. deeds_of_lane s new.upkeeps lane cs) new (λ lane. ap (λ us. deeds_of_lane s us lane cs) (sym (ap (λ (x : Cell). x.upkeeps) r.rest)))
    (done_roomier s plans cs (λ lane. deeds_of_lane s old.upkeeps lane cs) old new r kept)
