-- The lane of a document, and what may be asked of lanes.
use Rattle.std.proofs.Common.{◌≡◌, ◌<◌, ◌≤◌, ◌^◌, ℕ, zero, suc, Bool, List, [], ◌∷◌, Option, None, Some, IfSome, inl, inr, refl, sym, ap, ap₂, ◌∙◌, subst, arith, length, map, slice_get, slice_index_or, set}
use Rattle.std.specs.Option.{IsSome}
use Rattle.std.proofs.Math.Pow.{pow_mono}
use Rattle.std.proofs.lemmas.List.{length-map}
use Rattle.std.proofs.lemmas.Option.{get_or_from_slice_get}
use Rattle.bucket_ids.specs.Buckets.{Low, IsIn}
use Rattle.cluster_states.specs.Publishing.{Told, publish_fault}
use Rattle.cluster_states.specs.declared.cluster_state.ClusterState.{ClusterState}
use Rattle.global_ids.specs.Keys as keys
use Rattle.global_ids.proofs.KeyLaws.{key_small}
use Rattle.messages.specs.declared.operation.Operation.{Operation}
use Rattle.messages.specs.declared.outcome.Outcome.{Outcome}
use Rattle.carriers.specs.Fates.{planned_with}
use Rattle.carriers.specs.declared.fate.Fate.{Fate}
use Rattle.cluster_states.specs.declared.states.PublishFault.{PublishFault}
use Rattle.reports.specs.declared.answer.Answer.{Answer}
use Rattle.reports.specs.declared.answer.Answer.TheVariants as answer
use Rattle.lane_journals.specs.Buckets.{key_of}
use Rattle.lane_journals.specs.Meanings.{history}
use Rattle.lane_journals.specs.Readers.{held}
use Rattle.lane_calls.specs.LaneValues.{LaneValue, IsLaneValue}
use Rattle.lane_keeping.specs.Tidings.{last_state}
use Rattle.lane_lives.specs.declared.setting.Setting.{Setting}
use Rattle.lane_lives.specs.Settings.{lane_count}
use Rattle.lane_lives.specs.Lives.{Deed, lines_of, newest_in}
use Rattle.lane_calls.specs.Lines.{FeedLine, last_line}
use Rattle.lane_core.specs.Runs.{IsLineRun}
use Rattle.lane_lives.specs.Serving.{bucket_in, IsServing}
use Rattle.lane_core.proofs.Served.{serving_fresh, serving_heard, serving_newest, serving_told}
use Rattle.lane_core.specs.Shelved.{with_lane, OfLane}
use Rattle.lane_core.specs.Showing.{IsSettled}
use Rattle.shelves.specs.Plain.{Plain, ShowsPlain}
use Rattle.view_changes.specs.Opening.{opening}
use Rattle.view_changes.specs.Views.{View}
use Rattle.session_cluster.specs.Cells.{Cell, ShownLane, ShownCell, own_lane, lanes_in, shelves_in}
use Rattle.session_cluster.specs.Deeds.{told_with}
use Rattle.session_cluster.specs.Keeping.{IsReady}
use Rattle.session_cluster.specs.Lanes.{lane_of_id}
use Rattle.session_cluster.specs.Output.{state_answer, plan_answer}
use Rattle.session_cluster.specs.Searches.{fronts_of}
use Rattle.session_cluster.specs.Spans.{spans_of}
use Rattle.session_cluster.specs.Steps.{with_room, after_state, EachLane, IsTelling, IsRoomy, MayAnnounce, MayMaintain, HasTypes, MayRun, IsOperatedIn, IsDoneInEach, IsStateTold, IsToldRoomy, IsPlannedIn, MayHavePassed, MayHaveAllPassed, IsSettledLane, AreSettled, first_view, unheard}
use Rattle.session_cluster.proofs.AlikeDeeds.{alike_low}
use Rattle.session_cluster.proofs.DeedLists.{told_as, deeds_told}
use Rattle.session_cluster.proofs.Elements.{element_map, set_there, seen_map}
use Rattle.session_cluster.proofs.KeptLanes.{lane_there}
use Rattle.session_cluster.proofs.LaneLists.{lane_small, item-at}
use Rattle.session_cluster.proofs.ShelvedLanes.{lanes_did, shelves_did, each_of, cell-in, lane_index, lanes_set, settled_is, settled_set, each_settled}

-- ---- which lane it is

pub within : (s : Setting) (line at : ℕ) (c : Cell) → IsReady s line c → at < 2 ^ s.bits → at < length c.lanes
within s line at c ready small = let count : length c.lanes ≡ lane_count s = (ready.done).lanes in subst (λ m. at < m) (sym count) small

pub in_bounds : (s : Setting) (line at : ℕ) (op : Operation) (c : Cell) → IsReady s line c → at ≡ lane_of_id s.bits op.id → at < length c.lanes
in_bounds s line at op c ready is = within s line at c ready (subst (λ n. n < 2 ^ s.bits) (sym is) (lane_small s.bits op.id))

-- the lane that is looked up is that of the number
found-lane : (at n : ℕ) (c : Cell) (vs : List LaneValue) (v : LaneValue) → at < length c.lanes → vs ≡ c.lanes → n ≡ at → v ≡ slice_index_or vs n v → slice_get c.lanes at ≡ Some v
found-lane at n c vs v below same from value =
    let there = lane_there c.lanes at below in
    let one : v ≡ there.0 = value ∙ ap (λ m. slice_index_or vs m v) from ∙ ap (λ ws. slice_index_or ws at v) same ∙ get_or_from_slice_get c.lanes at there.0 v there.1 in
    there.1 ∙ ap Some (sym one)

look-up-lane : (at n : ℕ) (c : Cell) (vs : List LaneValue) → at < length c.lanes → vs ≡ c.lanes → n ≡ at → n < length vs
look-up-lane at n c vs below same from = subst (λ m. m < length vs) (sym from) (subst (λ ws. at < length ws) (sym same) below)

pub found : (at n : ℕ) (c : Cell) (xs : List ShownLane) (s : ShownLane) → at < length c.lanes → lanes_in xs ≡ c.lanes → n ≡ at → s ≡ slice_index_or xs n s → slice_get c.lanes at ≡ Some s.lane
found at n c xs s below same from value = found-lane at n c (lanes_in xs) s.lane below same from (lane_index xs n s value)

pub look_up : (at n : ℕ) (c : Cell) (xs : List ShownLane) → at < length c.lanes → lanes_in xs ≡ c.lanes → n ≡ at → n < length xs
look_up at n c xs below same from = let small = look-up-lane at n c (lanes_in xs) below same from in omega (arith, small, length-map xs own_lane)

-- one lane of a cluster is another
one-lane : (old inside : Cell) (xs : List ShownLane) (n at line : ℕ) (t : ShownLane) → inside ≡ old → inside.lanes ≡ lanes_in xs → n ≡ at
    → ◌≡◌ {A = Cell} (record inside { lanes = lanes_in (set xs n t); dealt = line }) (record old { lanes = set old.lanes at t.lane; dealt = line })
one-lane old inside xs n at line t is lanes from =
    cell-in old inside (lanes_in (set xs n t)) (set old.lanes at t.lane) line is
    (lanes_set xs n t ∙ (ap (λ (vs : List LaneValue). set vs n t.lane) (sym lanes ∙ ap (λ (x : Cell). x.lanes) is) ∙ ap (λ m. set old.lanes m t.lane) from))

-- the operation ran in it, and what changed there was shown, or not
pub operated_in : (line at n : ℕ) (op : Operation) (via : Option ℕ) (old inside : Cell) (xs : List ShownLane) (s t u : ShownLane) (x : Outcome) → at < length old.lanes → inside ≡ old → inside.lanes ≡ lanes_in xs → n ≡ at → s ≡ slice_index_or xs n s
    → IsLineRun (record { number = line; operation = op; via = via }) s.lane t.lane x → u.lane ≡ t.lane
    → IsOperatedIn at line op via old (record inside { lanes = lanes_in (set xs n u); dealt = line }) x
operated_in line at n op via old inside xs s t u x below is lanes from value ran same = record {
  before = s.lane;
  after = u.lane;
  there = found at n old xs s below (sym lanes ∙ ap (λ (c : Cell). c.lanes) is) from value;
  ran = subst (λ (v : LaneValue). IsLineRun (record { number = line; operation = op; via = via }) s.lane v x) (sym same) ran;
  now = one-lane old inside xs n at line u is lanes from;
}

-- that lane as it is settled then
pub ran_settled : (line : FeedLine) (old : ShownCell) (xs : List ShownLane) (n : ℕ) (s t u : ShownLane) (x : Outcome) → old.cell.lanes ≡ lanes_in xs → old.shelves ≡ shelves_in xs → n < length xs → s ≡ slice_index_or xs n s → AreSettled old
    → IsLineRun line s.lane t.lane x → t.shelf ≡ s.shelf → u.lane ≡ t.lane → first_view u.shelf ≡ first_view t.shelf → IsSettled ShowsPlain (λ (p : Plain). p.pending) u → EachLane IsSettledLane (set xs n u)
ran_settled line old xs n s t u x lanes shelves below value settled ran shelf same first shown =
    let all = each_settled xs old lanes shelves settled in
    let was : first_view s.shelf ≡ unheard s.lane = ap first_view (all n s (item-at xs n s below value)).0 in
    settled_set xs n u all (settled_is u (first ∙ (ap first_view shelf ∙ (was ∙ sym (ap unheard same ∙ ap unheard ran.after)))) shown)

pub planned_in : (line at n : ℕ) (given fates : List Fate) (old inside : Cell) (xs : List ShownLane) (s t : ShownLane) (taken : Bool) → at < length old.lanes → inside ≡ old → inside.lanes ≡ lanes_in xs → n ≡ at → s ≡ slice_index_or xs n s
    → given ≡ fates → taken ≡ s.lane.takes_plans → t ≡ record s { lane = record s.lane { planned = planned_with taken s.lane.planned given } }
    → IsPlannedIn line at fates old (record inside { lanes = lanes_in (set xs n t); dealt = line })
planned_in line at n given fates old inside xs s t taken below is lanes from value are took after =
    let v : LaneValue = s.lane in
    let lane : t.lane ≡ record v { planned = planned_with v.takes_plans v.planned fates }
    = ap (λ (z : ShownLane). z.lane) after ∙ ap (λ b. record v { planned = planned_with b v.planned given }) took ∙ ap (λ fs. record v { planned = planned_with v.takes_plans v.planned fs }) are in
    record {
      before = v;
      there = found at n old xs s below (sym lanes ∙ ap (λ (c : Cell). c.lanes) is) from value;
      now = one-lane old inside xs n at line t is lanes from ∙ ap (λ (x : LaneValue). record old { lanes = set old.lanes at x; dealt = line }) lane;
    }

-- and is settled still
pub plan_settled : (old : ShownCell) (xs : List ShownLane) (n : ℕ) (given : List Fate) (s t : ShownLane) (taken : Bool) → old.cell.lanes ≡ lanes_in xs → old.shelves ≡ shelves_in xs → n < length xs → s ≡ slice_index_or xs n s → AreSettled old
    → t ≡ record s { lane = record s.lane { planned = planned_with taken s.lane.planned given } } → EachLane IsSettledLane (set xs n t)
plan_settled old xs n given s t taken lanes shelves below value settled after =
    let all = each_settled xs old lanes shelves settled in
    settled_set xs n t all (subst IsSettledLane (sym after) (all n s (item-at xs n s below value)))

-- what the plan is answered
pub plan_told : (at n : ℕ) (fates : List Fate) (c : Cell) (xs : List ShownLane) (s t : ShownLane) (taken : Bool) → at < length c.lanes → lanes_in xs ≡ c.lanes → n ≡ at → taken ≡ s.lane.takes_plans
    → t ≡ record s { lane = record s.lane { planned = planned_with taken s.lane.planned fates } } → Some (answer.Planned taken) ≡ plan_answer (slice_get (lanes_in (set xs n t)) at)
plan_told at n fates c xs s t taken below same from took after =
    ap (λ b. Some (answer.Planned b)) (took ∙ sym (ap (λ (z : ShownLane). z.lane.takes_plans) after))
    ∙ ap plan_answer (sym (ap (λ (vs : List LaneValue). slice_get vs at) (lanes_set xs n t) ∙ (ap (λ m. slice_get (set (lanes_in xs) n t.lane) m) (sym from) ∙ set_there (lanes_in xs) n t.lane (look-up-lane at n c (lanes_in xs) below same from))))

-- ---- what may be asked of it

some_there : {A : Type 0} (o : Option A) (x : A) → o ≡ Some x → IsSome o
some_there o x is = subst IsSome (sym is) refl

in_bucket : (bits : ℕ) (id : List ℕ) → IsIn (keys.lane_bucket bits (lane_of_id bits id)) (key_of id)
unfolding lane_of_id key_of
in_bucket bits id = (key_small id, refl)

via_holds : (s : Setting) (planned : List Fate) (lane : ℕ) (deeds : List Deed) (v : LaneValue) (via : Option ℕ) → IsServing s planned lane deeds v → IfSome via (λ d. d < 32) → IfSome via (λ d. IsSome (held d (history v.journal)))
via_holds s planned lane deeds v None is small = tt
via_holds s planned lane deeds v (Some d) is small = serving_heard s planned lane deeds v d is small

pub may_run : (s : Setting) (line at : ℕ) (op : Operation) (via : Option ℕ) (c : Cell) → IsReady s line c → at ≡ lane_of_id s.bits op.id → IfSome via (λ d. d < 32)
    → (v : LaneValue) → slice_get c.lanes at ≡ Some v → MayRun line op via v
may_run s line at op via c ready is small v there =
    let deeds = ready.deeds at in
    let serving = (ready.done).serving at v there in
    let low : last_line (lines_of deeds) ≤ length ready.commands = alike_low s c.upkeeps ready.commands ready.deeds ready.alike at in
    record {
      idle = serving.idle;
      fresh = serving_fresh s _ at deeds v line serving (omega (arith, low, ready.next));
      published = some_there (last_state v.journal) (newest_in s deeds) (serving_newest s _ at deeds v serving);
      holds = via_holds s _ at deeds v via serving small;
      in_lane = subst (λ (b : Low). IsIn b (key_of op.id)) (sym (serving.lane_is ∙ ap (bucket_in s) is)) (in_bucket s.bits op.id);
    }

pub some_line : (s : Setting) (line : ℕ) (c : Cell) → IsReady s line c → 1 ≤ line
some_line s line c ready = omega (arith, ready.next)

-- ---- what may be told to all

pub all_telling : (s : Setting) (line : ℕ) (c : Cell) → IsReady s line c → EachLane (IsTelling c.told) c.lanes
all_telling s line c ready lane v at =
    let serving = (ready.done).serving lane v at in
    let deeds = ready.deeds lane in
    record { idle = serving.idle; told_is = serving_told s _ lane deeds v serving ∙ ap (told_as (s.rules).acks) (ready.alike lane).states ∙ deeds_told s c.upkeeps lane ready.commands ∙ sym (ready.done).told }

-- ---- what may be kept in order

pub all_may_maintain : (s : Setting) (line : ℕ) (c : Cell) → IsReady s line c → EachLane MayMaintain c.lanes
all_may_maintain s line c ready lane v at =
    let serving = (ready.done).serving lane v at in
    let deeds = ready.deeds lane in
    record { idle = serving.idle; published = some_there (last_state v.journal) (newest_in s deeds) (serving_newest s _ lane deeds v serving) }

few_lanes : (bits : ℕ) → bits ≤ 6 → 2 ^ bits ≤ 64
few_lanes bits few = pow_mono few

pub few_of : (s : Setting) (line : ℕ) (c : Cell) → IsReady s line c → length c.lanes ≤ 64
few_of s line c ready = subst (λ n. n ≤ 64) (sym (ready.done).lanes) (few_lanes s.bits ready.setting.most)

pub new_line : (s : Setting) (line : ℕ) (c : Cell) → IsReady s line c → spans_of line c.upkeeps ≡ None
new_line s line c ready = (ready.done).unkept line (omega (arith, ready.next, (ready.done).dealt))

-- ---- what may be searched

pub new_search : (s : Setting) (line : ℕ) (c : Cell) → IsReady s line c → fronts_of line c.fronts ≡ None
new_search s line c ready = (ready.done).unread line (omega (arith, ready.next, (ready.done).dealt))

pub all_typed : (s : Setting) (line : ℕ) (c : Cell) → IsReady s line c → EachLane (HasTypes s.schema) c.lanes
all_typed s line c ready lane v at = ((ready.done).serving lane v at).types_are

-- ---- where room was made

telling_roomy : (t : Told) (v : LaneValue) → IsTelling t v → IsRoomy (with_room v)
telling_roomy t v is = record { idle = is.idle; room = refl }

pub all_roomy : (t : Told) (vs ws : List LaneValue) → EachLane (IsTelling t) vs → ws ≡ map with_room vs → EachLane IsRoomy ws
all_roomy t vs ws telling now lane w at =
    let is = element_map with_room vs lane w (subst (λ us. slice_get us lane ≡ Some w) now at) in
    subst IsRoomy (sym is.1.1) (telling_roomy t is.0 (telling lane is.0 is.1.0))

telling_may : (t : Told) (state : ClusterState) (v : LaneValue) → publish_fault t state ≡ None → IsTelling t v → MayAnnounce state (with_room v)
telling_may t state v none is = record { roomy = telling_roomy t v is; accepted = ap (λ x. publish_fault x state) is.told_is ∙ none }

pub all_may_announce : (t : Told) (state : ClusterState) (vs ws : List LaneValue) → publish_fault t state ≡ None → EachLane (IsTelling t) vs → ws ≡ map with_room vs → EachLane (MayAnnounce state) ws
all_may_announce t state vs ws none telling now lane w at =
    let is = element_map with_room vs lane w (subst (λ us. slice_get us lane ≡ Some w) now at) in
    subst (MayAnnounce state) (sym is.1.1) (telling_may t state is.0 none (telling lane is.0 is.1.0))

-- ---- what all did where room was made

pub done_roomy : (line : ℕ) (f : LaneValue → LaneValue) (old mid new : Cell) → ((v : LaneValue) → f (with_room v) ≡ f v) → mid ≡ record old { lanes = map with_room old.lanes } → IsDoneInEach line f mid new → IsDoneInEach line f old new
done_roomy line f old mid new same room d = record {
  now = d.now ∙ ap (λ (x : Cell). record x { lanes = map f x.lanes; dealt = line }) room ∙ ap (λ vs. record old { lanes = vs; dealt = line }) (seen_map with_room f same old.lanes);
  holds = d.holds;
}

told_roomy : (line : ℕ) (o : Option PublishFault) (state : ClusterState) (deaf : ℕ) (old mid new : Cell) → mid ≡ record old { lanes = map with_room old.lanes } → IsToldRoomy line o state deaf mid new → IsStateTold line o state deaf old new
told_roomy line None state deaf old mid new room d = record {
  now = d.now ∙ ap (λ (x : Cell). record x { told = told_with None state x.told; lanes = map (after_state state deaf) x.lanes; dealt = line }) room
      ∙ ap (λ vs. record old { told = told_with None state old.told; lanes = vs; dealt = line }) (seen_map with_room (after_state state deaf) (λ v. refl) old.lanes);
  holds = d.holds;
}
told_roomy line (Some why) state deaf old mid new room d = d ∙ ap (λ (x : Cell). record x { dealt = line }) room

abbrev fault_in : ClusterState → Cell → Option PublishFault
fault_in state c = publish_fault c.told state

-- what was told where room was made, and what it is answered
pub told_where_roomy : (line : ℕ) (state : ClusterState) (deaf : ℕ) (old mid new : Cell) (a : Option Answer) → mid ≡ record old { lanes = map with_room old.lanes }
    → IsToldRoomy line (publish_fault mid.told state) state deaf mid new → a ≡ state_answer (publish_fault mid.told state) state
    → IsStateTold line (publish_fault old.told state) state deaf old new × (a ≡ state_answer (publish_fault old.told state) state)
told_where_roomy line state deaf old mid new a room d told =
    let same : fault_in state mid ≡ fault_in state old = ap (fault_in state) room in
    (told_roomy line (publish_fault old.told state) state deaf old mid new room (subst (λ o. IsToldRoomy line o state deaf mid new) same d), told ∙ ap (λ o. state_answer o state) same)

-- the lanes of a cluster in which room was made
pub roomy_after : (old mid : Cell) → mid ≡ record old { lanes = map with_room old.lanes } → EachLane (IsTelling old.told) old.lanes → EachLane IsRoomy mid.lanes
roomy_after old mid room telling = all_roomy old.told old.lanes mid.lanes telling (ap (λ (x : Cell). x.lanes) room)

pub may_announce_after : (state : ClusterState) (old mid : Cell) → mid ≡ record old { lanes = map with_room old.lanes } → EachLane (IsTelling old.told) old.lanes → publish_fault mid.told state ≡ None → EachLane (MayAnnounce state) mid.lanes
may_announce_after state old mid room telling none = all_may_announce old.told state old.lanes mid.lanes (sym (ap (fault_in state) room) ∙ none) telling (ap (λ (x : Cell). x.lanes) room)

-- every lane of a cluster did it, whose lanes with their shelves were these
pub all_did : (line : ℕ) (f : LaneValue → LaneValue) (old inside : Cell) (items vs ws shown : List ShownLane) → inside ≡ old → inside.lanes ≡ lanes_in items → vs ≡ items → ws ≡ map (with_lane f) vs → EachLane (OfLane IsLaneValue) ws → shown ≡ ws
    → IsDoneInEach line f old (record inside { lanes = lanes_in shown; dealt = line })
all_did line f old inside items vs ws shown is lanes same after holds shows = record {
  now = cell-in old inside (lanes_in shown) (map f old.lanes) line is (lanes_did f vs shown (shows ∙ after) ∙ ap (map f) (ap lanes_in same ∙ (sym lanes ∙ ap (λ (x : Cell). x.lanes) is)));
  holds = subst (λ (xs : List ShownLane). EachLane IsLaneValue (lanes_in xs)) (sym shows) (each_of IsLaneValue ws holds);
}

-- and their shelves are the same
pub all_left : (f : LaneValue → LaneValue) (items vs ws shown : List ShownLane) (ps : List Plain) → shelves_in items ≡ ps → vs ≡ items → ws ≡ map (with_lane f) vs → shown ≡ ws → shelves_in shown ≡ ps
all_left f items vs ws shown ps are same after shows = shelves_did f vs shown (shows ∙ after) ∙ (ap shelves_in same ∙ are)

-- nothing stands against the state
pub no_fault : (state : ClusterState) (old inside : Cell) → inside ≡ old → publish_fault inside.told state ≡ None → publish_fault old.told state ≡ None
no_fault state old inside is none = sym (ap (fault_in state) is) ∙ none

pub all_announced : (line : ℕ) (state : ClusterState) (deaf : ℕ) (old inside : Cell) (items vs ws shown : List ShownLane) (now : Told) → inside ≡ old → inside.lanes ≡ lanes_in items → vs ≡ items → now ≡ told_with None state inside.told
    → ws ≡ map (with_lane (after_state state deaf)) vs → EachLane (OfLane IsLaneValue) ws → publish_fault inside.told state ≡ None → shown ≡ ws
    → IsToldRoomy line (publish_fault old.told state) state deaf old (record inside { told = now; lanes = lanes_in shown; dealt = line })
all_announced line state deaf old inside items vs ws shown now is lanes same told after holds none shows =
    let d : IsDoneInEach line (after_state state deaf) old (record inside { lanes = lanes_in shown; dealt = line }) = all_did line (after_state state deaf) old inside items vs ws shown is lanes same after holds shows in
    subst (λ o. IsToldRoomy line o state deaf old (record inside { told = now; lanes = lanes_in shown; dealt = line })) (sym (no_fault state old inside is none)) (record {
      now = ap (λ (x : Cell). record x { told = now }) d.now ∙ ap (λ t. record old { told = t; lanes = map (after_state state deaf) old.lanes; dealt = line }) (told ∙ ap (λ (x : Cell). told_with None state x.told) is);
      holds = d.holds;
    })

-- as many lanes as before
pub same_many : (f : LaneValue → LaneValue) (inside vs ws : List ShownLane) (n : ℕ) → n ≡ length inside → vs ≡ inside → ws ≡ map (with_lane f) vs → length ws ≡ n
same_many f inside vs ws n count same after = ap length after ∙ length-map vs (with_lane f) ∙ ap length same ∙ sym count

-- ---- lanes that have the types that they had

unheard_map : (f : LaneValue → LaneValue) → ((v : LaneValue) → (f v).types ≡ v.types) → (vs : List LaneValue) → map unheard (map f vs) ≡ map unheard vs
unheard_map f same [] = refl
unheard_map f same (v ∷ vs) = ap₂ (λ (w : View) (ws : List View). w ∷ ws) (ap opening (same v)) (unheard_map f same vs)

pub done_unheard : (line : ℕ) (f : LaneValue → LaneValue) (old new : Cell) → ((v : LaneValue) → (f v).types ≡ v.types) → IsDoneInEach line f old new → map unheard new.lanes ≡ map unheard old.lanes
done_unheard line f old new same d = ap (λ (c : Cell). map unheard c.lanes) d.now ∙ unheard_map f same old.lanes

pub told_unheard : (line : ℕ) (o : Option PublishFault) (state : ClusterState) (deaf : ℕ) (old new : Cell) → IsStateTold line o state deaf old new → map unheard new.lanes ≡ map unheard old.lanes
told_unheard line None state deaf old new d = ap (λ (c : Cell). map unheard c.lanes) d.now ∙ unheard_map (after_state state deaf) (λ v. refl) old.lanes
told_unheard line (Some why) state deaf old new d = ap (λ (c : Cell). map unheard c.lanes) d ∙ unheard_map with_room (λ v. refl) old.lanes

passed_types : (v w : LaneValue) → MayHavePassed v w → unheard w ≡ unheard v
passed_types v w (inl same) = ap unheard same
passed_types v w (inr m) = ap unheard (m.0).after

pub passed_unheard : (vs ws : List LaneValue) → MayHaveAllPassed vs ws → map unheard ws ≡ map unheard vs
passed_unheard [] [] d = refl
passed_unheard [] (w ∷ ws) d = absurd (omega (arith, d.count))
passed_unheard (v ∷ vs) [] d = absurd (omega (arith, d.count))
passed_unheard (v ∷ vs) (w ∷ ws) d =
    ap₂ (λ (x : View) (xs : List View). x ∷ xs) (passed_types v w (d.each zero v w refl refl))
    (passed_unheard vs ws (record { count = omega (arith, d.count); each = λ lane x y was is. d.each (suc lane) x y was is }))
