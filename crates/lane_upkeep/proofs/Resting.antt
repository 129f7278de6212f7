-- A pass in a quiet span leaves the lane at rest.
use Rattle.std.proofs.Common.{◌≡◌, ◌++◌, ◌≤◌, ℕ, Bool, true, List, Option, Some, is_some, sym, ap, ◌∙◌, subst, OnOk, Result, Ok, Err}
use Rattle.bucket_ids.specs.Buckets.{Low}
use Rattle.cluster_states.specs.declared.cluster_state.ClusterState.{ClusterState}
use Rattle.cluster_states.specs.Publishing.{newest_of as newest_state, serves}
use Rattle.ideal_nodes.specs.Placement.{IsIdeal}
use Rattle.carriers.specs.declared.fate.Fate.{Fate}
use Rattle.distributor_part.specs.declared.rules.Rules.{Rules}
use Rattle.node_model.specs.Nodes as service
use Rattle.lane_journals.specs.Events.{Content}
use Rattle.lane_journals.specs.Readers.{published, asked, opened}
use Rattle.lane_journals.specs.RowLists.{row_with, rows}
use Rattle.lane_journals.specs.States.{state_of}
use Rattle.lane_journals.specs.Meanings.{history}
use Rattle.lane_journals.specs.Places.{Setting, state_in, published_states}
use Rattle.lane_journals.specs.KeptJournals.{IsLegal}
use Rattle.lane_journals.specs.declared.event.LaneEvent.{LaneEvent}
use Rattle.lane_journals.proofs.Meant.{meant-legal}
use Rattle.lane_keeping.specs.NodeKeeping.{NodeKeeps}
use Rattle.lane_carriage.specs.Carriage.{IsCarried}
use Rattle.lane_keeping.specs.LaneKeeping.{setting_of, part_in, IsNewest, KnowsOpening}
use Rattle.lane_keeping.specs.Laws.{OfKept}
use Rattle.lane_keeping.specs.Acting.{IsActing}
use Rattle.lane_states.specs.declared.lane_state.LaneState.{LaneState}
use Rattle.lane_states.specs.LaneStates.{journal_of, part_of, IsSetUp}
use Rattle.pass_model.specs.Rows.{Settings, united}
use Rattle.pass_model.specs.Passes.{World, Resends, Passes}
use Rattle.pass_model.specs.Resting.{AreSettings, HasBegun, IsResting}
use Rattle.lane_rest.specs.Rest.{documents, IsAtRest}
use Rattle.pass_model.specs.Worlds.{AreSettingsOf, IsSaid, IsWorldOf}
use Rattle.pass_model.specs.Lanes.{seen_node}
use Rattle.pass_model.specs.Nodes.{Node}
use Rattle.pass_model.specs.Scripts.{Script}
use Rattle.pass_model.specs.Found.{settings_of}
use Rattle.upkeep_spans.specs.Causes.{IsUndisturbed}
use Rattle.undisturbed_spans.specs.Undisturbed.{GoesUndisturbed}
use Rattle.upkeep_spans.specs.Spans.{AreUpkeep}
use Rattle.lane_upkeep.specs.declared.owner.Owner.{Owner}
use Rattle.pass_machine.specs.declared.notes.RowNote.{RowNote}
use Rattle.std.specs.BTreeMap.{BTreeMap}
use Rattle.lane_upkeep.specs.Passing.{IsPassing, PassesOn, AreWhole}
use Rattle.lane_upkeep.specs.Rests.{OpensAndPasses, RestsWhereQuiet}
use Rattle.lane_upkeep.specs.Quiet.{Goes, nodes_in, IsCurrent, AreSettingsIn, DoesQuietly, PassesQuietly, world_in}
use Rattle.lane_upkeep.proofs.RestingStates.{newest-said, current-once, documents-stay, upkeep-then}
use Rattle.lane_upkeep.proofs.RestingRows.{world-of}

-- ---- the laws that this stands on

-- settings are found
pub record AreFound : Type 0 where
  pub ordered : (s : ClusterState) (b : Low) → (nodes : List ℕ) × IsIdeal b s nodes
  pub sound : (S : Setting) (first most v : ℕ) (s : ClusterState) (J : List LaneEvent) (ideal : Low → List ℕ) → IsLegal S J → state_in v J ≡ Some s → 1 ≤ S.acks → S.acks ≤ S.redundancy → 1 ≤ S.lane.bits
      → ((b : Low) → IsIdeal b s (ideal b)) → AreSettings (settings_of S first most s J ideal)
  pub lane : (S : Setting) (first most : ℕ) (s : ClusterState) (J : List LaneEvent) (ideal : Low → List ℕ) → ((b : Low) → IsIdeal b s (ideal b)) → AreSettingsOf S first most s J (settings_of S first most s J ideal)

-- a pass in the abstract brings rest, which is the lane's
pub record BringRest : Type 0 where
  pub brings : (s : Settings) (before resent after : World) → AreSettings s → HasBegun s before → Resends s before resent → Passes s resent after → IsResting s (united s resent.nodes) after
  pub is_read : (S : Setting) (first most : ℕ) (s : ClusterState) (J : List LaneEvent) (t : Settings) (U : Content) (w : World) → IsLegal S J → newest_state (published_states J) ≡ Some s → opened s.version (history J) ≡ true
      → AreSettingsOf S first most s J t → IsWorldOf s J w → IsResting t U w → IsAtRest S first most J
  pub said : (J : List LaneEvent) (n many : ℕ) (doubled : ℕ → Bool) (y : service.Node) → NodeKeeps J n y → IsSaid n (history J) (seen_node doubled many y)

-- the owner knows its opening, and which nodes serve
pub record OwnersKnow : Type 0 where
  pub knows : OfKept (λ lane rules J newest last nodes parts. (d : ℕ) (s : ClusterState) → IsActing lane J d s
      → KnowsOpening (λ n. asked s.version n (history J)) (opened s.version (history J)) (λ key. row_with key (rows s.version (history J))) s (part_in lane rules parts d))
  pub serving : OfKept (λ lane rules J newest last nodes parts. (d : ℕ) (s : ClusterState) → IsActing lane J d s → (n : ℕ) → state_of (history J) s.version n ≡ serves s n)

-- a pass may begin where one is under way
abbrev pub Begins : Type 0
Begins = (d : Script) (c : LaneState) (o : Owner) (given : List Fate) (s : Settings) (still : ℕ → Node) (notes : BTreeMap ℕ RowNote) → AreWhole c o → IsPassing c o given → AreSettingsIn c o s → IsCurrent c o → HasBegun s (world_in d s still c o notes)

-- ---- settings

settings-later : (S : Setting) (first most : ℕ) (s : ClusterState) (J K : List LaneEvent) (t : Settings) → ((b : Low) (held : Content) → documents b held K ≡ documents b held J) → AreSettingsOf S first most s J t → AreSettingsOf S first most s K t
settings-later S first most s J K t same a = record {
  serving = a.serving;
  ideal = a.ideal;
  redundancy = a.redundancy;
  acks = a.acks;
  searchable = a.searchable;
  split_at = a.split_at;
  lane_bits = a.lane_bits;
  documents = λ held b. a.documents held b ∙ sym (same b held);
}

-- ---- between two steps of a pass

record IsKnown (c : LaneState) (o : Owner) : Type 0 where
  legal : IsLegal (setting_of c.lane c.rules) (journal_of c)
  newest : (state_in (o.state).version (journal_of c) ≡ Some o.state) × ((v : ℕ) → published v (history (journal_of c)) ≡ true → v ≤ (o.state).version)
  opening : KnowsOpening (λ n. asked (o.state).version n (history (journal_of c))) (opened (o.state).version (history (journal_of c))) (λ key. row_with key (rows (o.state).version (history (journal_of c)))) o.state (part_of c o.distributor)
  is_open : opened (o.state).version (history (journal_of c)) ≡ true
  current : IsCurrent c o

known-of : OwnersKnow → (c : LaneState) (o : Owner) (given : List Fate) → IsPassing c o given → 1 ≤ (c.rules).acks → c.newest ≡ Some o.state → IsKnown c o
known-of laws c o given p some newest = record {
  legal = (p.keeps.keeps).legal;
  newest = top;
  opening = opening;
  is_open = is_open;
  current = current-once (setting_of c.lane c.rules) (journal_of c) (p.keeps.keeps).legal some o.state (laws.serving _ _ _ _ _ _ _ p.keeps.keeps o.distributor o.state p.acting) is_open top.1;
}
  where
    top : IsNewest (λ v. state_in v (journal_of c)) (λ v. published v (history (journal_of c))) (Some o.state)
    top = subst (λ (x : Option ClusterState). IsNewest (λ v. state_in v (journal_of c)) (λ v. published v (history (journal_of c))) x) newest (p.keeps.keeps).newest_is

    opening : KnowsOpening (λ n. asked (o.state).version n (history (journal_of c))) (opened (o.state).version (history (journal_of c))) (λ key. row_with key (rows (o.state).version (history (journal_of c)))) o.state (part_of c o.distributor)
    opening = laws.knows _ _ _ _ _ _ _ p.keeps.keeps o.distributor o.state p.acting

    is_open : opened (o.state).version (history (journal_of c)) ≡ true
    is_open = opening.opened_as ∙ ap is_some (p.opened).opened

-- ---- the pass

module _ (found : AreFound) (bring : BringRest) (owners : OwnersKnow) (begins : Begins) (m e : LaneState) (o : Owner) (given now : List Fate) (p : IsPassing m o given) (q : IsPassing e o now) (whole : AreWhole m o) (on : PassesOn m e o)
    (set_up : IsSetUp m.lane m.rules) (few : (m.rules).searchable ≤ (m.rules).redundancy) (newest : m.newest ≡ Some o.state) (does : DoesQuietly given now m e o (λ d s. PassesQuietly d s m e o)) where
  abbrev S : Setting
  S = setting_of m.lane m.rules

  abbrev J : List LaneEvent
  J = journal_of m

  abbrev K : List LaneEvent
  K = journal_of e

  abbrev ideal : Low → List ℕ
  ideal b = (found.ordered o.state b).0

  abbrev s : Settings
  s = settings_of S (m.rules).searchable (m.rules).split_at o.state J ideal

  lane-is : e.lane ≡ m.lane
  lane-is = ap (λ (z : LaneState). z.lane) on.after

  rules-are : e.rules ≡ m.rules
  rules-are = ap (λ (z : LaneState). z.rules) on.after

  before : IsKnown m o
  before = known-of owners m o given p set_up.acked newest

  after : IsKnown e o
  after = known-of owners e o now q (subst (λ (r : Rules). 1 ≤ r.acks) (sym rules-are) set_up.acked) (ap (λ (z : LaneState). z.newest) on.after ∙ newest)

  settings : AreSettingsIn m o s
  settings = record {
    sound = found.sound S (m.rules).searchable (m.rules).split_at (o.state).version o.state J ideal before.legal before.newest.0 set_up.acked set_up.enough set_up.some (λ b. (found.ordered o.state b).1);
    lane = found.lane S (m.rules).searchable (m.rules).split_at o.state J ideal (λ b. (found.ordered o.state b).1);
    searched = few;
  }

  legal-after : IsLegal S K
  legal-after = subst (λ (r : Rules). IsLegal (setting_of m.lane r) K) rules-are (subst (λ (l : Low). IsLegal (setting_of l e.rules) K) lane-is after.legal)

  pub pass-rests : (d : Script) → Goes d now m e → IsAtRest S (m.rules).searchable (m.rules).split_at K
  pass-rests d goes =
      let x : PassesQuietly d s m e o = does.quiet d s settings before.current goes in
      let still : ℕ → Node = nodes_in d m in
      let rests : IsResting s (united s (x.resent).nodes) (world_in d s still e o x.after) = bring.brings s (world_in d s still m o x.before) x.resent (world_in d s still e o x.after) settings.sound (begins d m o given s still x.before whole p settings before.current) x.resends x.passes in
      bring.is_read S (m.rules).searchable (m.rules).split_at o.state K s (united s (x.resent).nodes) (world_in d s still e o x.after) legal-after
      (newest-said S K legal-after o.state after.newest.0 after.newest.1) after.is_open
      (settings-later S (m.rules).searchable (m.rules).split_at o.state J K s (documents-stay o.distributor (o.state).version J K on.grows) settings.lane)
      (world-of bring.said S.acks (state_of (history K)) d s still e o x.after (meant-legal S K legal-after) q.keeps after.current (after.opening).rows_are) rests

-- ---- the opening, and then the pass

rest-same : (l : Low) (r : Rules) (e : LaneState) → e.lane ≡ l → e.rules ≡ r → IsAtRest (setting_of l r) r.searchable r.split_at (journal_of e) → IsAtRest (setting_of e.lane e.rules) (e.rules).searchable (e.rules).split_at (journal_of e)
rest-same l r e lane rules h =
    subst (λ (x : Low). IsAtRest (setting_of x e.rules) (e.rules).searchable (e.rules).split_at (journal_of e)) (sym lane)
    (subst (λ (x : Rules). IsAtRest (setting_of l x) x.searchable x.split_at (journal_of e)) (sym rules) h)

-- each quiet span has a script
abbrev pub HaveScripts : Type 0
HaveScripts = (S : Setting) (e v : ℕ) (given : List Fate) (J K : List LaneEvent) → IsLegal S K → AreUpkeep e v J K → IsUndisturbed given J K → (d : Script) × GoesUndisturbed d given J K

-- and the second part of one is quiet
abbrev pub SecondIsQuiet : Type 0
SecondIsQuiet = (e v : ℕ) (d : Script) (given more : List Fate) (J K L : List LaneEvent) → AreUpkeep e v J K → AreUpkeep e v K L → IsCarried given K → IsCarried (given ++ more) L → GoesUndisturbed d (given ++ more) J L → GoesUndisturbed d (given ++ more) K L

module _ (found : AreFound) (bring : BringRest) (owners : OwnersKnow) (begins : Begins) (scripts : HaveScripts) (second : SecondIsQuiet) (c m e : LaneState) (o : Owner) (given now : List Fate) where
  pub maintained-rests : OpensAndPasses c m e o given now → RestsWhereQuiet now c e
  maintained-rests x set_up few quiet =
      let p : IsPassing m o given = x.between in
      let q : IsPassing e o now = x.passing in
      let opening : PassesOn c m o = x.opening in
      let on : PassesOn m e o = x.pass in
      let does : DoesQuietly given now m e o (λ d s. PassesQuietly d s m e o) = x.does in
      let lane : e.lane ≡ m.lane = ap (λ (z : LaneState). z.lane) on.after in
      let rules : e.rules ≡ m.rules = ap (λ (z : LaneState). z.rules) on.after in
      let all : AreUpkeep o.distributor (o.state).version (journal_of c) (journal_of e) = upkeep-then o.distributor (o.state).version (journal_of c) (journal_of m) (journal_of e) opening.grows on.grows in
      let script = scripts (setting_of e.lane e.rules) o.distributor (o.state).version now (journal_of c) (journal_of e) (q.keeps.keeps).legal all quiet in
      let more = (does.fates).0 in
      let are : now ≡ given ++ more = (does.fates).1 in
      let goes : GoesUndisturbed script.0 (given ++ more) (journal_of m) (journal_of e) =
      second o.distributor (o.state).version script.0 given more (journal_of c) (journal_of m) (journal_of e) opening.grows on.grows (p.carried).carried
      (subst (λ (f : List Fate). IsCarried f (journal_of e)) are (q.carried).carried)
      (subst (λ (f : List Fate). GoesUndisturbed script.0 f (journal_of c) (journal_of e)) are script.1) in
      rest-same m.lane m.rules e lane rules
      (pass-rests found bring owners begins m e o given now p q x.whole on
      (subst (λ (r : Rules). IsSetUp m.lane r) rules (subst (λ (l : Low). IsSetUp l e.rules) lane set_up))
      (subst (λ (r : Rules). r.searchable ≤ r.redundancy) rules few)
      (ap (λ (z : LaneState). z.newest) opening.after ∙ x.newest) does script.0
      (subst (λ (f : List Fate). GoesUndisturbed script.0 f (journal_of m) (journal_of e)) (sym are) goes))

-- where the pass was made
pub rests-if : {X E : Type 0} (r : Result X E) (P Q : Type 0) → (P → Q) → OnOk r P → OnOk r Q
rests-if (Ok x) P Q f p = f p
rests-if (Err e) P Q f p = tt
