-- A view after nodes were told has what is read off the journal that they keep.
use Rattle.std.proofs.Common.{◌≡◌, ◌<◌, ℕ, zero, suc, true, cond, List, [], ◌∷◌, length, Option, None, refl, sym, ap, ap₂, ◌∙◌, subst, arith}
use Rattle.std.specs.FinMap as fin
use Rattle.bucket_ids.specs.Buckets.{Low, IsBucket, has_key}
use Rattle.global_ids.specs.Keys as keys
use Rattle.doc_types.specs.SchemaCodes.{Types}
use Rattle.documents.specs.Fields.{Contents}
use Rattle.documents.specs.declared.entry.Entry.{Entry}
use Rattle.node_sets.specs.Members.{has_node}
use Rattle.node_model.specs.Nodes.{Node}
use Rattle.node_model.specs.Telling.{kept_of}
use Rattle.view_changes.specs.Views.{NodeView, View, in_regions, node_at, view_after}
use Rattle.view_changes.specs.Opening.{opening}
use Rattle.view_changes.specs.Kept.{AreParted, IsView}
use Rattle.view_changes.specs.Shown.{Keeping, ShowsNode, shown}
use Rattle.search_laws.specs.Searches.{LieIn}
use Rattle.lane_journals.specs.Meanings.{history}
use Rattle.lane_journals.specs.Places.{Setting}
use Rattle.lane_journals.specs.declared.event.LaneEvent.{LaneEvent}
use Rattle.lane_durability.specs.Laws.{InAllKept}
use Rattle.lane_keeping.specs.NodeKeeping.{NodeKeeps, regions}
use Rattle.lane_keeping.specs.LaneKeeping.{node_in}
use Rattle.lane_changes.specs.Changes.{changes_of}
use Rattle.lane_changes.proofs.Kept.{KeptAs}
use Rattle.journal_views.specs.JournalViews.{view_of, HasRead, Shows, FindRoom}
use Rattle.journal_views.proofs.Folds.{node-of}
use Rattle.journal_views.proofs.Reading.{held-is, lie-nodes}
use Rattle.journal_views.proofs.Writes.{few-written}
use Rattle.node_views.specs.NodesKept.{AreKeptNodes}
use Rattle.node_views.specs.NodesTold.{with_nodes}
use Rattle.node_views.proofs.Stages as stages
use Rattle.node_views.proofs.Stages.{AreKept}

-- the laws of views and journals
pub record Laws : Type 0 where
  pub given : stages.Given
  pub shown : InAllKept (λ S J. (types : Types) → IsBucket S.lane → FindRoom J → Shows (view_of types J) (view_after (opening types) (changes_of J)))
  pub view : InAllKept (λ S J. (types : Types) → IsBucket S.lane → FindRoom J → IsView (view_after (opening types) (changes_of J)))
  pub lane : InAllKept (λ S J. (types : Types) → IsBucket S.lane → FindRoom J → LieIn S.lane (view_after (opening types) (changes_of J)).nodes)

lie-at : (lane : Low) (ns : List NodeView) → LieIn lane ns → (n key : ℕ) → n < length ns → in_regions (node_at n ns).regions key ≡ true → has_key lane key ≡ true
lie-at lane [] f n key l h = absurd (omega (arith, l))
lie-at lane (x ∷ xs) f zero key l h = f.0 key h
lie-at lane (x ∷ xs) f (suc n) key l h = lie-at lane xs f.1 n key (omega (arith, l)) h

module _ (laws : Laws) (S : Setting) (J : List LaneEvent) (nodes : List Node) (set : ℕ) (h : AreKeptNodes S J nodes set) (types : Types) where
  abbrev ks : ℕ → Keeping
  ks n = kept_of (node_in nodes n)

  -- the view of the journal's changes
  abbrev whole : View
  whole = view_after (opening types) (changes_of J)

  whole-view : IsView whole
  whole-view = laws.view S h.acks J h.legal types h.lane h.room

  whole-shows : Shows (view_of types J) whole
  whole-shows = laws.shown S h.acks J h.legal types h.lane h.room

  long : (n : ℕ) → n < 32 → n < length whole.nodes
  long n low = subst (λ (m : ℕ). n < m) (sym whole-view.many) low

  kept-as : (n : ℕ) → n < 32 → KeptAs J n (ks n)
  kept-as n low = let k : NodeKeeps J n (node_in nodes n) = h.nodes_are n low in
      record { version_is = k.version_is; regions_are = k.regions_are; stamps_are = k.stamps_are; entries_are = k.entries_are }

  -- it has the nodes' versions and regions
  same-version : (n : ℕ) → n < 32 → (node_at n whole.nodes).version ≡ (ks n).version
  same-version n low = (whole-shows.nodes n low).version_is ∙ sym (kept-as n low).version_is

  same-regions : (n : ℕ) → n < 32 → (node_at n whole.nodes).regions ≡ (ks n).regions
  same-regions n low = (whole-shows.nodes n low).regions_are ∙ sym (kept-as n low).regions_are

  over : (n key : ℕ) → n < 32 → in_regions (ks n).regions key ≡ true → in_regions (node_at n whole.nodes).regions key ≡ true
  over n key low i = ap (λ (rs : List Low). in_regions rs key) (same-regions n low) ∙ i

  are-kept : AreKept ks
  are-kept = record {
    parted = λ n low. subst AreParted (same-regions n low) (node-of whole.nodes whole-view.nodes n (long n low)).regions;
    apart = λ n m key ln lm same i j. whole-view.apart (ks m).version key n m (long n ln) (long m lm) (same-version n ln ∙ same, over n key ln i) (same-version m lm, over m key lm j);
    own = λ n low id e g. ((kept-as n low).entries_are id e g).0;
    few = λ n low. few-written J (ks n).entries (kept-as n low).entries_are h.room;
  }

  abbrev last : View
  last = with_nodes types ks (has_node set) 32

  pub last-view : IsView last
  last-view = stages.last-view laws.given types ks (has_node set) are-kept

  shows-node : (n : ℕ) → n < 32 → ShowsNode types (ks n) (has_node set n) (node_at n last.nodes)
  shows-node = stages.last-shows laws.given types ks (has_node set) are-kept

  node-reads : (n : ℕ) → n < 32 → HasRead (view_of types J n) (node_at n last.nodes)
  node-reads n low =
      let s = shows-node n low in
      let k = kept-as n low in
      record {
        version_is = s.version_is ∙ k.version_is;
        stopped_is = s.stopped_is ∙ h.stopped_are n low;
        regions_are = s.regions_are ∙ k.regions_are;
        documents_are = λ id. s.documents_are id
            ∙ ap₂ (λ (rs : List Low) (o : Option Entry). cond {A = Option Contents} (in_regions rs (keys.key_of id)) (shown types id o) None) k.regions_are (held-is J n (ks n) k id);
      }

  pub reads : Shows (view_of types J) last
  reads = record { many = last-view.many; nodes = node-reads }

  pub lies : LieIn S.lane last.nodes
  lies = lie-nodes S.lane last.nodes (λ n key l i.
      let low : n < 32 = subst (λ (m : ℕ). n < m) last-view.many l in
      lie-at S.lane whole.nodes (laws.lane S h.acks J h.legal types h.lane h.room) n key (long n low)
      (over n key low (sym (ap (λ (rs : List Low). in_regions rs key) (shows-node n low).regions_are) ∙ i)))
