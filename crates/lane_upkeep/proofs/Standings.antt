-- A pass stands behind each of its steps, where nothing is lost or late.
use Rattle.std.proofs.Common.{◌≡◌, ◌∙◌, ℕ, Bool, true, false, List, Option, Some, None, refl, sym, ap, ap₂, subst, slice_get, if◌then◌else◌}
use Rattle.std.specs.Ordering.{nat_cmp}
use Rattle.std.specs.BTreeMap.{BTreeMap, Updates, get}
use Rattle.bucket_ids.specs.Buckets.{Low}
use Rattle.bucket_ids.specs.Printed.{number_of}
use Rattle.carriers.specs.declared.fate.Fate.{Fate}
use Rattle.cluster_states.specs.declared.cluster_state.ClusterState.{ClusterState}
use Rattle.cluster_states.specs.Publishing.{serves}
use Rattle.messages.specs.declared.body.Body.{Body}
use Rattle.messages.specs.declared.body.Body.TheVariants as body
use Rattle.messages.specs.declared.decision.Decision.{Decision}
use Rattle.messages.specs.declared.reply.Reply.{Reply}
use Rattle.messages.specs.declared.reply.Reply.TheVariants as reply
use Rattle.bucket_db.specs.Rows.{Rows}
use Rattle.bucket_db.specs.declared.row.Row.{Row}
use Rattle.distributor_part.specs.Parts.{Part, rows_of}
use Rattle.distributor_part.specs.Upkeep.{AcceptsAt}
use Rattle.distributor_part.specs.declared.rules.Rules.{Rules}
use Rattle.lane_keeping.specs.Flights.{NamesBucket}
use Rattle.row_keeping.proofs.Serving.{actives, deletes}
use Rattle.pass_model.specs.Nodes.{Node}
use Rattle.pass_model.specs.Shapes.{Shape, shape_of}
use Rattle.pass_model.specs.Rows.{Settings}
use Rattle.pass_model.specs.Passes.{World, Resends, Passes}
use Rattle.pass_model.specs.Resting.{AreSettings}
use Rattle.pass_model.specs.Lanes as rest_lanes
use Rattle.pass_model.specs.Scripts.{Script, told_node}
use Rattle.lane_states.specs.declared.lane_state.LaneState.{LaneState}
use Rattle.lane_states.specs.LaneStates.{journal_of, part_of}
use Rattle.pass_machine.specs.declared.doing.Doing.{Doing}
use Rattle.pass_machine.specs.declared.doing.Doing.TheVariants.{ResendingDelete, Finished}
use Rattle.pass_machine.specs.declared.doing.UpkeepStep.{UpkeepStep}
use Rattle.pass_machine.specs.declared.doing.UpkeepStep.TheVariants.{Tell, Decide, Accept, Round}
use Rattle.pass_machine.specs.declared.doing.Turn.TheVariants.{Says}
use Rattle.pass_machine.specs.declared.notes.RowNote.{RowNote}
use Rattle.pass_machine.specs.declared.pass.UpkeepPass.{UpkeepPass}
use Rattle.pass_machine.specs.Turns.{View, Sees, turn_at, answered, decided, accepted, rounded}
use Rattle.pass_machine.specs.Going.{GoesOver, Forgets, Makes, made_in, rows_made}
use Rattle.pass_machine.specs.Abstract.{answer_of, shown_in, row_with}
use Rattle.pass_runs.specs.Worlds.{IsUnder, shown_at, world_of}
use Rattle.pass_runs.specs.Steps.{Changes, IsDecidedBy, IsRoundAt}
use Rattle.pass_runs.specs.Standing.{NoNotes, Stands}
use Rattle.lane_upkeep.specs.declared.owner.Owner.{Owner}
use Rattle.lane_upkeep.specs.CameBack.{is_taken, is_end}
use Rattle.lane_upkeep.specs.Passing.{IsPassing, PassesOn, rows_in, HasRow, AreWhole}
use Rattle.lane_upkeep.specs.UnderWay.{view_in, AreIdeal, Comes, IsNextStep, is_taken_as}
use Rattle.lane_upkeep.specs.Quiet.{nodes_in, AreSettingsIn, OthersStay, DoesQuietly, IsToldQuietly, IsRoundQuietly, world_in, StandsIn, StandsOn, PassesQuietly}
use Rattle.lane_upkeep.proofs.Permitted.{sees_view}
use Rattle.lane_upkeep.proofs.QuietSteps.{FirstIsQuiet, SecondIsQuiet, does_same, does_map, does_map_in, does_then}

-- ---- the laws that this stands on

abbrev pub OverStands : Type 0
OverStands = (s : Settings) (still : ℕ → Node) (first : World) (v : View) (made : BTreeMap ℕ (Unit {0})) (notes : BTreeMap ℕ RowNote) (d e : Doing) (ns : ℕ → Node) → IsUnder s still v ns → GoesOver v made notes d e
    → Stands s still first v made notes d ns → Stands s still first v made notes e ns

abbrev pub ToldStands : Type 0
ToldStands = (s : Settings) (still : ℕ → Node) (first : World) (v : View) (made : BTreeMap ℕ (Unit {0})) (notes : BTreeMap ℕ RowNote) (d : Doing) (ns : ℕ → Node) (n : ℕ) (b : Body) → IsUnder s still v ns → NamesBucket b
    → turn_at v made notes d ≡ Says (Tell n b) → Stands s still first v made notes d ns → Stands s still first v made notes (answered v (answer_of b (ns n)) d) (told_node n b ns)

abbrev pub DecidedStands : Type 0
DecidedStands = (s : Settings) (still : ℕ → Node) (first : World) (v w : View) (made : BTreeMap ℕ (Unit {0})) (notes after : BTreeMap ℕ RowNote) (d : Doing) (ns : ℕ → Node) (at : ℕ) (x : Decision) → IsUnder s still v ns → IsUnder s still w ns
    → turn_at v made notes d ≡ Says (Decide at x) → Changes v w (IsDecidedBy at x) → Forgets (rows_made d x) notes after → Stands s still first v made notes d ns → Stands s still first w made after (decided d x) ns

abbrev pub AcceptedStands : Type 0
AcceptedStands = (s : Settings) (still : ℕ → Node) (first : World) (v w : View) (made : BTreeMap ℕ (Unit {0})) (notes : BTreeMap ℕ RowNote) (d : Doing) (ns : ℕ → Node) (at : ℕ) → IsUnder s still v ns → IsUnder s still w ns
    → turn_at v made notes d ≡ Says (Accept at) → Changes v w (λ p q. AcceptsAt p q at) → Stands s still first v made notes d ns → Stands s still first w made notes (accepted d) ns

abbrev pub RoundedStands : Type 0
RoundedStands = (s : Settings) (still : ℕ → Node) (first : World) (v w : View) (made now : BTreeMap ℕ (Unit {0})) (notes after : BTreeMap ℕ RowNote) (d : Doing) (ns ms : ℕ → Node) (at : ℕ) → IsUnder s still v ns → IsUnder s still w ms
    → turn_at v made notes d ≡ Says (Round at) → IsRoundAt s still v w notes after ns ms at → Makes (made_in d) made now → Stands s still first v made notes d ns → Stands s still first w now after (rounded w d) ms

abbrev pub Begins : Type 0
Begins = (s : Settings) (still : ℕ → Node) (v : View) (made : BTreeMap ℕ (Unit {0})) (notes : BTreeMap ℕ RowNote) (ns : ℕ → Node) → IsUnder s still v ns → ((number : ℕ) → get nat_cmp made number ≡ None) → NoNotes notes
    → Stands s still (world_of still v notes ns) v made notes (ResendingDelete 0) ns

abbrev pub Ends : Type 0
Ends = (s : Settings) (still : ℕ → Node) (first : World) (v : View) (made : BTreeMap ℕ (Unit {0})) (notes : BTreeMap ℕ RowNote) (ns : ℕ → Node) → AreSettings s → Stands s still first v made notes Finished ns
    → (resent : World) × Resends s first resent × Passes s resent (world_of still v notes ns)

-- ---- what the machine reads

-- the lane and its rules stay
pub view_then : (ideal : Low → List ℕ) (c e : LaneState) (o : Owner) → PassesOn c e o → view_in ideal e o ≡ record (view_in ideal c o) { rows = rows_in e o }
view_then ideal c e o on = ap₂ (λ (r : Rules) (l : Low). record { state = o.state; rules = r; lane = l; rows = rows_in e o; ideal = ideal }) (ap (λ (z : LaneState). z.rules) on.after) (ap (λ (z : LaneState). z.lane) on.after)

module _ (d : Script) (s : Settings) (c : LaneState) (o : Owner) (given : List Fate) (p : IsPassing c o given) (are : AreSettingsIn c o s) (whole : AreWhole c o) where
  opened-row : (at : ℕ) (row : Row) → HasRow c o at row → slice_get (p.rows).rows at ≡ Some row
  opened-row at row found = sym (ap (λ (x : Option Rows). slice_get (rows_of x) at) (p.opened).opened) ∙ found

  -- what holds at any time of a pass
  pub under_in : (still : ℕ → Node) → ((n : ℕ) → serves o.state n ≡ false → nodes_in d c n ≡ still n) → IsUnder s still (view_in s.ideal c o) (nodes_in d c)
  under_in still others = record {
    agrees = record {
      serving = (are.lane).serving;
      ideal = refl;
      redundancy = (are.lane).redundancy;
      acks = (are.lane).acks;
      searchable = (are.lane).searchable;
      searched = are.searched;
    };
    split_at = (are.lane).split_at;
    lane_bits = (are.lane).lane_bits;
    ideal = (are.lane).ideal;
    rows = whole;
    actives = λ at row n found is. actives c.lane c.rules (journal_of c) c.newest c.last c.nodes.items c.parts.items (p.keeps).keeps o.distributor o.state p.acting p.rows (p.opened).opened at row n (opened-row at row found) is;
    deletes = λ at row x found is. deletes c.lane c.rules (journal_of c) c.newest c.last c.nodes.items c.parts.items (p.keeps).keeps o.distributor o.state p.acting p.rows (p.opened).opened x (record { at = at; row = row; found = opened-row at row found; deleting = is });
    others = others;
  }

-- ---- the machine

-- it goes over places
pub stands_over : OverStands → (d : Script) (s : Settings) (c : LaneState) (o : Owner) (given : List Fate) (p q : UpkeepPass) (x : UpkeepStep) → IsPassing c o given → AreSettingsIn c o s → AreWhole c o → Comes c o p q x → StandsOn d s c c o p q
stands_over over d s c o given p q x passing are whole comes still first stands =
    let u = under_in d s c o given passing are whole still stands.others in
    record {
      others = stands.others;
      stands = subst (λ (r : UpkeepPass). Stands s still first (view_in s.ideal c o) r.made r.notes.by_number r.doing (nodes_in d c)) (sym comes.same)
          (over s still first (view_in s.ideal c o) p.made p.notes.by_number p.doing q.doing (nodes_in d c) u (comes.goes s.ideal (are.lane).ideal) stands.stands);
    }

is-answer : (r : Reply) → is_taken (Some r) ≡ rest_lanes.is_answer r
is-answer (reply.Answer ps es) = refl
is-answer (reply.Newer v) = refl
is-answer reply.NoBucket = refl
is-answer reply.Differs = refl
is-answer reply.NoMemory = refl

-- what a reply tells is what the node takes
taken-tells : (b : Body) (x : Node) (r : Reply) → rest_lanes.is_answer r ≡ rest_lanes.is_taken b x → is_end (Some r) ≡ true → is_taken_as b (Some r) ≡ answer_of b x
taken-tells body.Ask x r e ends = is-answer r ∙ e
taken-tells (body.Read b only) x r e ends = is-answer r ∙ e
taken-tells (body.Store y) x r e ends = is-answer r ∙ e
taken-tells (body.Apply b es) x r e ends = is-answer r ∙ e
taken-tells (body.Delete b serial) x r e ends = ends
taken-tells (body.Split b) x r e ends = is-answer r ∙ e
taken-tells (body.Join b) x r e ends = is-answer r ∙ e
taken-tells (body.Ready b) x r e ends = is-answer r ∙ e
taken-tells (body.Activate b) x r e ends = is-answer r ∙ e

-- behind a message
pub stands_told : ToldStands → (d : Script) (s : Settings) (c e : LaneState) (o : Owner) (given now : List Fate) (p q : UpkeepPass) (node : ℕ) (b : Body) (back : Option Reply) (taken : Bool) → IsPassing c o given → IsPassing e o now → PassesOn c e o
    → AreSettingsIn c o s → AreWhole c o → NamesBucket b → IsNextStep c o p (Tell node b) → rows_in e o ≡ rows_in c o → taken ≡ is_taken_as b back
    → ((v : View) → Sees (part_of e o.distributor) v → q.doing ≡ answered v taken p.doing) → q ≡ record p { doing = q.doing }
    → OthersStay d c e o → IsToldQuietly d c e node b back → StandsOn d s c e o p q
stands_told told d s c e o given now p q node b back taken passing passing_e on are whole names next same tells behind is stay t still first stands =
    let v = view_in s.ideal c o in
    let u = under_in d s c o given passing are whole still stands.others in
    let view : view_in s.ideal e o ≡ v = view_then s.ideal c e o on ∙ ap (λ (rows : List Row). record v { rows = rows }) same in
    let nodes : nodes_in d e ≡ told_node node b (nodes_in d c) = λ i n. t.nodes n i in
    let ideal : AreIdeal o s.ideal = (are.lane).ideal in
    let answer : taken ≡ answer_of b (nodes_in d c node) = tells ∙ (ap (is_taken_as b) t.came_back ∙ taken-tells b (nodes_in d c node) t.given t.answers (ap is_end (sym t.came_back) ∙ t.ends)) in
    let doing : q.doing ≡ answered v (answer_of b (nodes_in d c node)) p.doing =
    behind (view_in s.ideal e o) (sees_view e o s.ideal (now, passing_e) ideal) ∙ ap₂ (λ (w : View) (t : Bool). answered w t p.doing) view answer in
    let after = told s still first v p.made p.notes.by_number p.doing (nodes_in d c) node b u names (next s.ideal ideal) stands.stands in
    record {
      others = λ n off. stay n off ∙ stands.others n off;
      stands = subst (λ (r : UpkeepPass). Stands s still first (view_in s.ideal e o) r.made r.notes.by_number r.doing (nodes_in d e)) (sym is)
          (subst (λ (x : Doing). Stands s still first (view_in s.ideal e o) p.made p.notes.by_number x (nodes_in d e)) (sym doing)
          (subst (λ (w : View). Stands s still first w p.made p.notes.by_number (answered v (answer_of b (nodes_in d c node)) p.doing) (nodes_in d e)) (sym view)
          (subst (λ (ns : ℕ → Node). Stands s still first v p.made p.notes.by_number (answered v (answer_of b (nodes_in d c node)) p.doing) ns) (sym nodes) after)));
    }

-- the owner's part did something with its rows
pub changes_in : (ideal : Low → List ℕ) (c e : LaneState) (o : Owner) (given : List Fate) (R : Part → Part → Type 0) → IsPassing c o given → PassesOn c e o → R (part_of c o.distributor) (part_of e o.distributor) → Changes (view_in ideal c o) (view_in ideal e o) R
changes_in ideal c e o given R passing on does = record {
  before = part_of c o.distributor;
  after = part_of e o.distributor;
  rows = refl;
  lane = (((passing.keeps).keeps).parts_are o.distributor).lane_is;
  view = view_then ideal c e o on;
  does = does;
}

-- behind a decision
pub stands_decided : DecidedStands → (d : Script) (s : Settings) (c e : LaneState) (o : Owner) (given now : List Fate) (p q : UpkeepPass) (at : ℕ) (x : Decision) → IsPassing c o given → IsPassing e o now → PassesOn c e o → AreSettingsIn c o s → AreSettingsIn e o s
    → AreWhole c o → AreWhole e o → IsNextStep c o p (Decide at x) → IsDecidedBy at x (part_of c o.distributor) (part_of e o.distributor) → ((n : ℕ) → nodes_in d e n ≡ nodes_in d c n)
    → q.doing ≡ decided p.doing x → q.made ≡ p.made → Forgets (rows_made p.doing x) p.notes.by_number q.notes.by_number → StandsOn d s c e o p q
stands_decided law d s c e o given now p q at x passing passing_e on are are_e whole whole_e next does stay doing made forgets still first stands =
    let nodes : nodes_in d e ≡ nodes_in d c = λ i n. stay n i in
    let others : (n : ℕ) → serves o.state n ≡ false → nodes_in d e n ≡ still n = λ n off. stay n ∙ stands.others n off in
    let after = law s still first (view_in s.ideal c o) (view_in s.ideal e o) p.made p.notes.by_number q.notes.by_number p.doing (nodes_in d c) at x
    (under_in d s c o given passing are whole still stands.others)
    (subst (λ (ns : ℕ → Node). IsUnder s still (view_in s.ideal e o) ns) nodes (under_in d s e o now passing_e are_e whole_e still others))
    (next s.ideal (are.lane).ideal) (changes_in s.ideal c e o given (IsDecidedBy at x) passing on does) forgets stands.stands in
    record {
      others = others;
      stands = subst (λ (ns : ℕ → Node). Stands s still first (view_in s.ideal e o) q.made q.notes.by_number q.doing ns) (sym nodes)
          (subst (λ (m : BTreeMap ℕ (Unit {0})). Stands s still first (view_in s.ideal e o) m q.notes.by_number q.doing (nodes_in d c)) (sym made)
          (subst (λ (y : Doing). Stands s still first (view_in s.ideal e o) p.made q.notes.by_number y (nodes_in d c)) (sym doing) after));
    }

-- behind an acceptance
pub stands_accepted : AcceptedStands → (d : Script) (s : Settings) (c e : LaneState) (o : Owner) (given now : List Fate) (p q : UpkeepPass) (at : ℕ) → IsPassing c o given → IsPassing e o now → PassesOn c e o → AreSettingsIn c o s → AreSettingsIn e o s
    → AreWhole c o → AreWhole e o → IsNextStep c o p (Accept at) → AcceptsAt (part_of c o.distributor) (part_of e o.distributor) at → ((n : ℕ) → nodes_in d e n ≡ nodes_in d c n)
    → q.doing ≡ accepted p.doing → q ≡ record p { doing = q.doing } → StandsOn d s c e o p q
stands_accepted law d s c e o given now p q at passing passing_e on are are_e whole whole_e next does stay doing is still first stands =
    let nodes : nodes_in d e ≡ nodes_in d c = λ i n. stay n i in
    let others : (n : ℕ) → serves o.state n ≡ false → nodes_in d e n ≡ still n = λ n off. stay n ∙ stands.others n off in
    let after = law s still first (view_in s.ideal c o) (view_in s.ideal e o) p.made p.notes.by_number p.doing (nodes_in d c) at
    (under_in d s c o given passing are whole still stands.others)
    (subst (λ (ns : ℕ → Node). IsUnder s still (view_in s.ideal e o) ns) nodes (under_in d s e o now passing_e are_e whole_e still others))
    (next s.ideal (are.lane).ideal) (changes_in s.ideal c e o given (λ y z. AcceptsAt y z at) passing on does) stands.stands in
    record {
      others = others;
      stands = subst (λ (r : UpkeepPass). Stands s still first (view_in s.ideal e o) r.made r.notes.by_number r.doing (nodes_in d e)) (sym is)
          (subst (λ (ns : ℕ → Node). Stands s still first (view_in s.ideal e o) p.made p.notes.by_number q.doing ns) (sym nodes)
          (subst (λ (y : Doing). Stands s still first (view_in s.ideal e o) p.made p.notes.by_number y (nodes_in d c)) (sym doing) after));
    }

-- ---- a round

-- what a node shows that doesn't serve is what it was where the pass began
still-shown : (state : ClusterState) (b : Low) (note : RowNote) (ns still : ℕ → Node) → ((n : ℕ) → serves state n ≡ false → ns n ≡ still n) → shown_at state still b note ≡ shown_at state ns b note
still-shown state b note ns still same = λ i n. by_test n (serves state n) refl i
  where
    by_test : (n : ℕ) (t : Bool) → serves state n ≡ t → (if t then shown_in note n else shape_of b (still n).pieces) ≡ (if t then shown_in note n else shape_of b (ns n).pieces)
    by_test n true e = refl
    by_test n false e = ap (λ (x : Node). shape_of b x.pieces) (sym (same n e))

pub stands_rounded : RoundedStands → (d : Script) (s : Settings) (c e : LaneState) (o : Owner) (given now : List Fate) (p q : UpkeepPass) (at : ℕ) (row : Row) (note : RowNote) → IsPassing c o given → IsPassing e o now → PassesOn c e o
    → AreSettingsIn c o s → AreSettingsIn e o s → AreWhole c o → AreWhole e o → IsNextStep c o p (Round at) → HasRow c o at row → OthersStay d c e o → IsRoundQuietly d s c e o at row note
    → ((v : View) → Sees (part_of e o.distributor) v → q.doing ≡ rounded v p.doing) → Updates nat_cmp p.notes.by_number q.notes.by_number (number_of note.bucket) (Some note) → Makes (made_in p.doing) p.made q.made → StandsOn d s c e o p q
stands_rounded law d s c e o given now p q at row note passing passing_e on are are_e whole whole_e next found stay r behind kept makes still first stands =
    let others : (n : ℕ) → serves o.state n ≡ false → nodes_in d e n ≡ still n = λ n off. stay n off ∙ stands.others n off in
    let after = law s still first (view_in s.ideal c o) (view_in s.ideal e o) p.made q.made p.notes.by_number q.notes.by_number p.doing (nodes_in d c) (nodes_in d e) at
    (under_in d s c o given passing are whole still stands.others) (under_in d s e o now passing_e are_e whole_e still others) (next s.ideal (are.lane).ideal)
    (record {
      row = row;
      found = found;
      note = note;
      of_row = r.of_row;
      whole = r.whole;
      parted = r.parted;
      then = r.after;
      view = view_then s.ideal c e o on ∙ ap (λ (rows : List Row). record (view_in s.ideal c o) { rows = rows }) r.rows;
      deleting = r.deleting;
      nodes = λ i n. r.nodes n i;
      becomes = ap (λ (f : ℕ → Shape). row_with f (Some note) r.after) (still-shown o.state (r.after).bucket note (nodes_in d c) still stands.others) ∙ r.becomes;
      kept = subst (λ (b : Low). Updates nat_cmp p.notes.by_number q.notes.by_number (number_of b) (Some note)) r.of_row kept;
    }) makes stands.stands in
    record {
      others = others;
      stands = subst (λ (y : Doing). Stands s still first (view_in s.ideal e o) q.made q.notes.by_number y (nodes_in d e)) (sym (behind (view_in s.ideal e o) (sees_view e o s.ideal (now, passing_e) (are.lane).ideal))) after;
    }

-- ---- the whole pass

pub stands_then : (d : Script) (s : Settings) (c m e : LaneState) (o : Owner) (p q r : UpkeepPass) → StandsOn d s c m o p q → StandsOn d s m e o q r → StandsOn d s c e o p r
stands_then d s c m e o p q r a b still first stands = b still first (a still first stands)

-- the machine goes over places and takes a step
pub does_step : OverStands → (c e : LaneState) (o : Owner) (given now : List Fate) (p m q : UpkeepPass) (x : UpkeepStep) → IsPassing c o given → AreWhole c o → Comes c o p m x → DoesQuietly given now c e o (λ d s. StandsOn d s c e o m q)
    → DoesQuietly given now c e o (λ d s. StandsOn d s c e o p q)
does_step over c e o given now p m q x passing whole comes does = does_map_in given now c e o (λ d s. StandsOn d s c e o m q) (λ d s. StandsOn d s c e o p q)
    (λ d s are current goes versions still on. stands_then d s c c e o p m q (stands_over over d s c o given p m x passing are whole comes) on) does

-- it goes over places to its end
pub does_end : OverStands → (c : LaneState) (o : Owner) (given : List Fate) (p q : UpkeepPass) (x : UpkeepStep) → IsPassing c o given → AreWhole c o → Comes c o p q x → DoesQuietly given given c c o (λ d s. StandsOn d s c c o p q)
does_end over c o given p q x passing whole comes = does_same c o given (λ d s. StandsOn d s c c o p q) (λ d s are current. stands_over over d s c o given p q x passing are whole comes)

-- the pass stands since it began, without a note of a round
pub record StandsSince (d : Script) (s : Settings) (c e : LaneState) (o : Owner) (q : UpkeepPass) : Type 0 where
  pub notes : BTreeMap ℕ RowNote
  pub stands : StandsIn d s (nodes_in d c) (world_in d s (nodes_in d c) c o notes) e o q

-- where it begins
pub does_begin : Begins → (c : LaneState) (o : Owner) (given : List Fate) (p : UpkeepPass) → IsPassing c o given → AreWhole c o → p.doing ≡ ResendingDelete 0 → ((number : ℕ) → get nat_cmp p.made number ≡ None)
    → ((number : ℕ) → get nat_cmp p.notes.by_number number ≡ None) → DoesQuietly given given c c o (λ d s. StandsSince d s c c o p)
does_begin begins c o given p passing whole start none_made no_notes = does_same c o given (λ d s. StandsSince d s c c o p) (λ d s are current. record {
  notes = p.notes.by_number;
  stands = record {
    others = λ n off. refl;
    stands = subst (λ (y : Doing). Stands s (nodes_in d c) (world_in d s (nodes_in d c) c o p.notes.by_number) (view_in s.ideal c o) p.made p.notes.by_number y (nodes_in d c)) (sym start)
        (begins s (nodes_in d c) (view_in s.ideal c o) p.made p.notes.by_number (nodes_in d c) (under_in d s c o given passing are whole (nodes_in d c) (λ n off. refl)) none_made no_notes);
  };
})

-- behind one step more
pub does_more : FirstIsQuiet → SecondIsQuiet → (c m e : LaneState) (o : Owner) (given mid end : List Fate) (q r : UpkeepPass) → PassesOn c m o → PassesOn m e o → IsPassing m o mid → IsPassing e o end
    → DoesQuietly given mid c m o (λ d s. StandsSince d s c m o q) → DoesQuietly mid end m e o (λ d s. StandsOn d s m e o q r) → DoesQuietly given end c e o (λ d s. StandsSince d s c e o r)
does_more first second c m e o given mid end q r one two passing_mid passing_end a b =
    let L : Script → Settings → Type 0 = λ d s. StandsSince d s c m o q in
    let M : Script → Settings → Type 0 = λ d s. StandsOn d s m e o q r in
    does_map given end c e o (λ d s. L d s × M d s) (λ d s. StandsSince d s c e o r) (λ d s x. record { notes = (x.0).notes; stands = x.1 (nodes_in d c) (world_in d s (nodes_in d c) c o (x.0).notes) (x.0).stands })
    (does_then first second c m e o given mid end L M one two passing_mid passing_end a b)

-- and at its end
pub does_finish : Ends → (c e : LaneState) (o : Owner) (given now : List Fate) (q : UpkeepPass) → q.doing ≡ Finished → DoesQuietly given now c e o (λ d s. StandsSince d s c e o q) → DoesQuietly given now c e o (λ d s. PassesQuietly d s c e o)
does_finish ends c e o given now q finished does = does_map_in given now c e o (λ d s. StandsSince d s c e o q) (λ d s. PassesQuietly d s c e o)
    (λ d s are current goes versions still x.
    let first : World = world_in d s (nodes_in d c) c o x.notes in
    let last = ends s (nodes_in d c) first (view_in s.ideal e o) q.made q.notes.by_number (nodes_in d e) are.sound
    (subst (λ (y : Doing). Stands s (nodes_in d c) first (view_in s.ideal e o) q.made q.notes.by_number y (nodes_in d e)) finished (x.stands).stands) in
    record {
      before = x.notes;
      after = q.notes.by_number;
      resent = last.0;
      resends = last.1;
      passes = last.2;
    }) does
