-- A lane beside its shelf, which has what was handed over to it.
use Rattle.std.proofs.Common.{◌≡◌, ◌++◌, ◌∙◌, List, sym, ap, subst, arith, append_assoc}
use Rattle.carriers.specs.declared.fate.Fate.{Fate}
use Rattle.bucket_ids.specs.Buckets.{IsBucket}
use Rattle.node_model.specs.Nodes.{Node}
use Rattle.view_changes.specs.declared.change.LaneChange.{LaneChange}
use Rattle.shelves.specs.Shelves.{Holds, ShowsSame, ShowsFirst}
use Rattle.journal_views.specs.JournalViews.{FindRoom}
use Rattle.node_views.specs.NodesKept.{AreKeptNodes}
use Rattle.lane_keeping.specs.LaneKeeping.{setting_of, NodesKeep}
use Rattle.lane_changes.specs.Changes.{changes_of}
use Rattle.lane_states.specs.Told.{all_kept, ShowsOn}
use Rattle.lane_states.specs.LaneStates.{journal_of, handed_of, IsCarriedBy, IsSetUp}
use Rattle.lane_calls.specs.LaneValues.{LaneValue}
use Rattle.lane_core.specs.declared.work.Work.{Work}
use Rattle.lane_core.specs.Works.{SameHanded, IsWork}
use Rattle.lane_core.specs.LaneInside.{IsLane}
use Rattle.lane_core.specs.Shelved.{Shelved, HoldsFirst}

-- ---- the value

pub lane-is : {H : Type 0} {a b : Shelved H} → a ≡ b → a.lane ≡ b.lane
lane-is {H} e = ap (λ (s : Shelved H). s.lane) e

pub shelf-is : {H : Type 0} {a b : Shelved H} → a ≡ b → a.shelf ≡ b.shelf
shelf-is {H} e = ap (λ (s : Shelved H). s.shelf) e

pub with-shelf : {H : Type 0} {v w : LaneValue} (shelf : H) → v ≡ w → ◌≡◌ {A = Shelved H} (record { lane = v; shelf = shelf }) (record { lane = w; shelf = shelf })
with-shelf {H} shelf e = λ i. record { lane = e i; shelf = shelf }

pub shelved_same : {H : Type 0} (a b : Shelved H) → a.lane ≡ b.lane → a.shelf ≡ b.shelf → a ≡ b
shelved_same a b lane shelf = λ i. record { lane = lane i; shelf = shelf i }

pub shelf_seen : {H : Type 0} (v : LaneValue) (shelf : H) (x : Shelved H) → ◌≡◌ {A = Shelved H} (record { lane = v; shelf = shelf }) x → shelf ≡ x.shelf
shelf_seen {H} v shelf x is = ap (λ (s : Shelved H). s.shelf) is

-- ---- what is kept of it

module _ {H : Type 0} (shows : H → List LaneChange → Type 0) (pending : H → List LaneChange) where
  -- nothing was handed over
  pub lane_still : (shelf : H) (x y : Work) (given now : List Fate) → IsLane shows pending x given shelf → IsWork y → IsCarriedBy y.state now → SameHanded x y → IsLane shows pending y now shelf
  lane_still shelf x y given now is works carried same = record { works = works; carried = carried; holds = subst (λ (all : List LaneChange). Holds (shows shelf) (pending shelf) all) (sym same) is.holds }

  -- the shelf has the first of the changes that the journal gives
  pub has-first : (shelf : H) (x : Work) (given : List Fate) → IsLane shows pending x given shelf → HoldsFirst (shows shelf) (pending shelf) (changes_of (journal_of x.state))
  has-first shelf x given is = (handed_of x.state, (all_kept x.state.journal.kept.items, (is.holds, (((is.works).kept).told_is).whole)))

  -- it told a note
  pub holds-same : (old new : H) (all : List LaneChange) → ShowsSame (shows old) (shows new) → pending new ≡ pending old → Holds (shows old) (pending old) all → Holds (shows new) (pending new) all
  holds-same old new all same left h = (h.0, ((same h.0).0 h.1.0, ap (λ (cs : List LaneChange). h.0 ++ cs) left ∙ h.1.1))

-- more is shown, and then more
pub shows-then : (shows shows' shows'' : List LaneChange → Type 0) (before after : List LaneChange) → ShowsOn shows shows' → ShowsFirst shows' shows'' before after → ShowsOn shows shows''
shows-then shows shows' shows'' before after on s cs h =
    let more = on cs h in
    (more.0 ++ s.first, subst shows'' (append_assoc cs more.0 s.first) (s.shown (cs ++ more.0) more.1))

-- ---- its nodes as they stand

pub kept-nodes : (x : Work) (nodes : List Node) → nodes ≡ x.state.nodes.items → IsWork x → FindRoom (journal_of x.state) → AreKeptNodes (setting_of x.state.lane x.state.rules) (journal_of x.state) nodes x.state.stopped
kept-nodes x nodes same w room = record {
  lane = bucket w.set_up;
  acks = (w.set_up).acked;
  legal = ((w.kept).keeps).legal;
  room = room;
  nodes_are = λ n small. (subst (λ (ns : List Node). NodesKeep (journal_of x.state) ns) (sym same) ((w.kept).keeps).nodes_are) n;
  stopped_are = λ n small. sym ((w.kept).stops_are n);
}
  where
    bucket : IsSetUp x.state.lane x.state.rules → IsBucket x.state.lane
    bucket s = record { some = s.some; most = (let few = s.most in omega (arith, few)); fits = s.fits }
