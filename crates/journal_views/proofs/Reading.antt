-- The view of the changes of a journal has what is read off the journal, and so it is of each prefix.
use Rattle.std.proofs.Common.{◌≡◌, ◌↔◌, ◌<◌, ◌≤◌, ◌++◌, ℕ, zero, suc, true, cond, eqb, eqb-true, List, [], ◌∷◌, length, take, Option, None, Some, option_map, unwrap_or, inl, inr, refl, sym, ap, ap₂, ◌∙◌, subst, arith, append-nil, append_assoc}
use Rattle.std.proofs.Math.Seq.{take-append_seam}
use Rattle.std.specs.FinMap as fin
use Rattle.bucket_ids.specs.Buckets.{Low, IsBucket, has_key}
use Rattle.global_ids.specs.Keys as keys
use Rattle.doc_types.specs.SchemaCodes.{Types}
use Rattle.documents.specs.Fields.{Contents}
use Rattle.documents.specs.declared.entry.Entry.{Entry}
use Rattle.std.proofs.lemmas.Slice.Eq.{bytes_eq-Decides}
use Rattle.document_rows.specs.Rows.{fitted}
use Rattle.view_changes.specs.Views.{NodeView, View, in_regions, node_at, view_after}
use Rattle.view_changes.specs.Opening.{opening}
use Rattle.view_changes.specs.Kept.{IsView}
use Rattle.view_changes.specs.Shown.{Keeping, ShowsNode, shown, body_shown}
use Rattle.view_changes.specs.declared.change.LaneChange.{LaneChange}
use Rattle.search_laws.specs.Searches.{LieIn}
use Rattle.lane_journals.specs.Stamps.{Stamp}
use Rattle.lane_journals.specs.Buckets.{Bucket, Id}
use Rattle.lane_journals.specs.Readers.{stopped, store, version}
use Rattle.lane_journals.specs.Facts.{InRegion}
use Rattle.lane_journals.specs.States.{state_of}
use Rattle.lane_journals.specs.Meanings.{entry_at, history}
use Rattle.lane_journals.specs.Places.{Setting}
use Rattle.lane_journals.specs.KeptJournals.{IsLegal}
use Rattle.lane_journals.specs.declared.event.LaneEvent.{LaneEvent}
use Rattle.lane_journals.proofs.Basics.{or_else-cases, only_if-some}
use Rattle.lane_journals.proofs.Meant.{meant-legal}
use Rattle.lane_keeping.specs.NodeKeeping.{regions, stamp_of}
use Rattle.lane_keeping.proofs.Words.{contains-is}
use Rattle.lane_keeping.proofs.Regions.{said, back}
use Rattle.lane_changes.specs.Deliveries.{keeping}
use Rattle.lane_changes.specs.Changes.{changes_by, changes_of}
use Rattle.journal_views.specs.JournalViews.{IsWrittenAs, entry_named, held_entry, NodeRead, view_of, prefix_with, view_at, body_in, AreFit, HasRead, Shows, written_entries, FindRoom}
use Rattle.journal_views.proofs.Members.{In, contains-in}
use Rattle.lane_changes.proofs.Kept.{AreStamped, KeptAs, kept}
use Rattle.journal_views.proofs.Lanes.{region-lies}
use Rattle.journal_views.proofs.Writes.{entry-among, room-before}
use Rattle.journal_views.proofs.Folds.{types-after}
use Rattle.journal_views.proofs.Standing.{Given, Stands, stands, within-is}

-- ---- entries

-- what a node keeps of a document is the entry that the journal says it holds
pub held-is : (J : List LaneEvent) (n : ℕ) (k : Keeping) → KeptAs J n k → (id : Id) → fin.get k.entries id ≡ held_entry n id J
held-is J n k h id = by_get (fin.get k.entries id) refl
  where
    by_get : (o : Option Entry) → fin.get k.entries id ≡ o → o ≡ held_entry n id J
    by_get None g = sym (ap (λ (s : Option Stamp). entry_named s J) (sym (h.stamps_are id) ∙ ap stamp_of g))
    by_get (Some e) g = sym (ap (λ (s : Option Stamp). entry_named s J) (sym (h.stamps_are id) ∙ ap stamp_of g) ∙ (h.entries_are id e g).1)

-- ---- the nodes of a view

pub lie-nodes : (lane : Low) (ns : List NodeView) → ((n key : ℕ) → n < length ns → in_regions (node_at n ns).regions key ≡ true → has_key lane key ≡ true) → LieIn lane ns
lie-nodes lane [] f = tt
lie-nodes lane (x ∷ xs) f = ((λ key h. f zero key (omega arith) h), lie-nodes lane xs (λ n key l h. f (suc n) key (omega (arith, l)) h))

module _ (g : Given) (S : Setting) (some : 1 ≤ S.acks) (lane : IsBucket S.lane) (types : Types) where
  abbrev view : List LaneEvent → View
  view J = view_after (opening types) (changes_of J)

  node-reads : (J : List LaneEvent) → IsLegal S J → (n : ℕ) (x : NodeView) → ShowsNode (view J).types (keeping n J) (stopped n (history J)) x → HasRead (view_of types J n) x
  node-reads J l n x h =
      let k : KeptAs J n (keeping n J) = kept g.stamped S J l n in
      record {
        version_is = h.version_is ∙ k.version_is;
        stopped_is = h.stopped_is;
        regions_are = h.regions_are ∙ k.regions_are;
        documents_are = λ id. h.documents_are id
            ∙ ap₂ (λ (rs : List Low) (y : Types). cond {A = Option Contents} (in_regions rs (keys.key_of id)) (shown y id (fin.get (keeping n J).entries id)) None) k.regions_are (types-after (changes_of J) (opening types))
            ∙ ap (λ (o : Option Entry). cond {A = Option Contents} (in_regions (regions n (history J)) (keys.key_of id)) (shown types id o) None) (held-is J n (keeping n J) k id);
      }

  pub reads : (J : List LaneEvent) → IsLegal S J → FindRoom J → Shows (view_of types J) (view J)
  reads J l room =
      let st : Stands g S some lane types J = stands g S some lane types J l room in
      record { many = (st.is_view).many; nodes = λ n low. node-reads J l n (node_at n (view J).nodes) (st.shows n (subst (λ (i : ℕ). n < i) (sym (st.is_view).many) low)) }

  pub views : (J : List LaneEvent) → IsLegal S J → FindRoom J → IsView (view J)
  views J l room = (stands g S some lane types J l room).is_view

  pub lies : (J : List LaneEvent) → IsLegal S J → FindRoom J → LieIn S.lane (view J).nodes
  lies J l room = lie-nodes S.lane (view J).nodes (λ n key low h.
      let st : Stands g S some lane types J = stands g S some lane types J l room in
      let k : KeptAs J n (keeping n J) = kept g.stamped S J l n in
      let there : in_regions (regions n (history J)) key ≡ true = sym (ap (λ (rs : List Bucket). in_regions rs key) ((st.shows n low).regions_are ∙ k.regions_are)) ∙ h in
      sym (contains-is S.lane key) ∙ region-lies S lane J l (version n (history J)) n key
      (said S.acks (state_of (history J)) (history J) (meant-legal S J l) n key (within-is key (regions n (history J)) ∙ there)))

-- ---- prefixes

-- a prefix of a journal, in whose changes it begins
pub record IsPrefix (S : Setting) (g : ℕ) (J K : List LaneEvent) : Type 0 where
  pub legal : IsLegal S K
  pub room : FindRoom K
  pub more : List LaneChange
  pub changes : changes_of J ≡ changes_of K ++ more
  pub long : length (changes_of K) ≡ g

pub prefixed : (S : Setting) (g : ℕ) (J : List LaneEvent) → IsLegal S J → FindRoom J → (K : List LaneEvent) → prefix_with g J ≡ Some K → IsPrefix S g J K
prefixed S g [] l room K h =
    let o = only_if-some (eqb 0 g) [] K h in
    subst (λ (x : List LaneEvent). IsPrefix S g [] x) o.1 (record { legal = tt; room = room; more = []; changes = refl; long = eqb-true 0 g o.0 })
prefixed S g (e ∷ J) l room K h = elim (or_else-cases (prefix_with g J) _ K h) [
  | inl old ↦ (let p = prefixed S g J l.0 (room-before J e room) K old in record {
    legal = p.legal;
    room = p.room;
    more = p.more ++ changes_by J e;
    changes = ap (λ (cs : List LaneChange). cs ++ changes_by J e) p.changes ∙ append_assoc (changes_of K) p.more (changes_by J e);
    long = p.long;
  })
  | inr new ↦ (let o = only_if-some (eqb (length (changes_of (e ∷ J))) g) (e ∷ J) K new.1 in
      subst (λ (x : List LaneEvent). IsPrefix S g (e ∷ J) x) o.1 (record { legal = l; room = room; more = []; changes = sym (append-nil (changes_of (e ∷ J))); long = eqb-true _ _ o.0 }))
]

pub taken : (S : Setting) (g : ℕ) (J K : List LaneEvent) → IsPrefix S g J K → take g (changes_of J) ≡ changes_of K
taken S g J K p =
    ap (λ (i : ℕ). take i (changes_of J)) (sym p.long) ∙ ap (take (length (changes_of K))) p.changes ∙ take-append_seam (changes_of K) p.more

some-is : (a b : ℕ → NodeRead) → ◌≡◌ {A = Option (ℕ → NodeRead)} (Some a) (Some b) → a ≡ b
some-is a b e = ap (λ (o : Option (ℕ → NodeRead)). unwrap_or o a) e

pub fronts-read : Given → (S : Setting) → 1 ≤ S.acks → (J : List LaneEvent) → IsLegal S J → (types : Types) → IsBucket S.lane → FindRoom J → (g : ℕ) (read : ℕ → NodeRead) → view_at types g J ≡ Some read
    → Shows read (view_after (opening types) (take g (changes_of J)))
fronts-read given S some J l types lane room g read h = by_prefix (prefix_with g J) refl h
  where
    by_prefix : (o : Option (List LaneEvent)) → prefix_with g J ≡ o → option_map (view_of types) o ≡ Some read → Shows read (view_after (opening types) (take g (changes_of J)))
    by_prefix None e f = cc
    by_prefix (Some K) e f =
        let p = prefixed S g J l room K e in
        subst (λ (x : ℕ → NodeRead). Shows x (view_after (opening types) (take g (changes_of J)))) (some-is (view_of types K) read f)
        (subst (λ (cs : List LaneChange). Shows (view_of types K) (view_after (opening types) cs)) (sym (taken S g J K p)) (reads given S some lane types K p.legal p.room))

-- ---- a longer journal

record Continues (N J : List LaneEvent) : Type 0 where
  more : List LaneChange
  changes : changes_of (N ++ J) ≡ changes_of J ++ more

continues : (N J : List LaneEvent) → Continues N J
continues [] J = record { more = []; changes = sym (append-nil (changes_of J)) }
continues (e ∷ N) J = let c = continues N J in record {
  more = c.more ++ changes_by (N ++ J) e;
  changes = ap (λ (cs : List LaneChange). cs ++ changes_by (N ++ J) e) c.changes ∙ append_assoc (changes_of J) c.more (changes_by (N ++ J) e);
}

pub first-changes : (N J : List LaneEvent) → take (length (changes_of J)) (changes_of (N ++ J)) ≡ changes_of J
first-changes N J = let c = continues N J in ap (take (length (changes_of J))) c.changes ∙ take-append_seam (changes_of J) c.more

-- ---- what is read

pub regions-read : (S : Setting) (J : List LaneEvent) → IsLegal S J → (n key : ℕ) → (in_regions (regions n (history J)) key ≡ true) ↔ InRegion (version n (history J)) n key (history J)
regions-read S J l n key =
    let lawful = meant-legal S J l in let same = within-is key (regions n (history J)) in
    ((λ h. said S.acks (state_of (history J)) (history J) lawful n key (same ∙ h)), (λ h. sym same ∙ back S.acks (state_of (history J)) (history J) lawful n key h))

pub held-read : AreStamped → (S : Setting) (J : List LaneEvent) → IsLegal S J → (n : ℕ) (id : Id) (s : Stamp) → store n id (history J) ≡ Some s → IsWrittenAs J id s
held-read named S J l n id s h = by_get (fin.get (keeping n J).entries id) refl
  where
    k : KeptAs J n (keeping n J)
    k = kept named S J l n

    by_get : (o : Option Entry) → fin.get (keeping n J).entries id ≡ o → IsWrittenAs J id s
    by_get None g = let none : ◌≡◌ {A = Option Stamp} None (Some s) = sym (ap stamp_of g) ∙ k.stamps_are id ∙ h in cc
    by_get (Some e) g =
        let same : ◌≡◌ {A = Option Stamp} (Some e.stamp) (Some s) = sym (ap stamp_of g) ∙ k.stamps_are id ∙ h in
        let stamp : e.stamp ≡ s = cc in
        let w = k.entries_are id e g in
        record { entry = e; written = ap (λ (t : Stamp). entry_at t J) (sym stamp) ∙ w.1; id_is = w.0 }

pub documents-read : AreStamped → (S : Setting) (J : List LaneEvent) → IsLegal S J → (types : Types) → AreFit types (written_entries J) → (n : ℕ) (id : Id)
    → (view_of types J n).document id ≡ cond {A = Option Contents} (in_regions (regions n (history J)) (keys.key_of id)) (body_in (held_entry n id J)) None
documents-read named S J l types fit n id = ap (λ (o : Option Contents). cond {A = Option Contents} (in_regions (regions n (history J)) (keys.key_of id)) o None) (by_store (store n id (history J)) refl)
  where
    by_body : (e : Entry) → In e (written_entries J) → e.id ≡ id → (o : Option Contents) → e.body ≡ o → body_shown types id o ≡ o
    by_body e among own None b = refl
    by_body e among own (Some d) b =
        let f = fit e d (contains-in (written_entries J) e among) b in
        ap (λ t. cond {A = Option Contents} t (Some (fitted types d)) None) ((bytes_eq-Decides d.id id).1 (f.0 ∙ own)) ∙ ap (λ (x : Contents). Some x) f.1

    by_store : (s : Option Stamp) → store n id (history J) ≡ s → shown types id (entry_named s J) ≡ body_in (entry_named s J)
    by_store None h = refl
    by_store (Some s) h =
        let w = held-read named S J l n id s h in
        ap (shown types id) w.written ∙ by_body w.entry (entry-among J s w.entry w.written) w.id_is (w.entry).body refl ∙ sym (ap body_in w.written)
