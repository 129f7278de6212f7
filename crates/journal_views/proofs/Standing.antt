-- The view of the changes of a legal journal shows what its nodes keep, event by event.
use Rattle.std.proofs.Common.{◌≡◌, ◌≢◌, ◌<◌, ◌≤◌, ◌++◌, ◌||◌, ◌&&◌, ℕ, max, nat_lt, Bool, true, false, cond, eqb, eq-eqb, List, [], ◌∷◌, length, filter, Option, None, Some, is_some, inl, refl, sym, ap, ap₂, ◌∙◌, subst, arith, append-nil}
use mathlib.Core.Bool.{true≢false}
use Rattle.std.proofs.lemmas.Bool.Decides.{nat_tests}
use Rattle.std.specs.Cmp.{tied_itself}
use Rattle.std.specs.Cmp.Lexicographic.{nat_list_cmp_total}
use Rattle.std.specs.Ordering.{eq_by_cmp, is_eq}
use Rattle.std.specs.FinMap as fin
use Rattle.std.specs.FinMap.{get-insert}
use Rattle.bucket_ids.specs.Buckets.{IsBucket, has_key}
use Rattle.global_ids.specs.Keys as keys
use Rattle.doc_types.specs.SchemaCodes.{Types}
use Rattle.documents.specs.declared.entry.Entry.{Entry}
use Rattle.documents.specs.EntryCodes.{id_cmp}
use Rattle.entry_maps.specs.EntryCodes.{Entries}
use Rattle.entry_maps.specs.Entries.{is_newer, with_entry, in_bucket}
use Rattle.messages.specs.declared.noted.NotedBody.{NotedBody}
use Rattle.messages.specs.declared.noted.NotedBody.TheVariants.{Ask, Read, Store, Apply, Delete, Split, Join, Ready, Activate}
use Rattle.messages.specs.declared.noted.NotedReply.{NotedReply}
use Rattle.messages.specs.declared.noted.NotedReply.TheVariants as noted
use Rattle.pieces.specs.declared.piece.Piece.{Piece}
use Rattle.std.specs.Str.{bytes_eq}
use Rattle.entry_maps.specs.Joins.{joined}
use Rattle.document_rows.specs.Rows.{Rows, has_row, document_of, AreDistinct}
use Rattle.view_changes.specs.Views.{NodeView, View, in_regions, listed, is_fresh, node_at, changed, view_after}
use Rattle.view_changes.specs.Opening.{opening}
use Rattle.view_changes.specs.Kept.{IsNode, IsActiveOver, IsView}
use Rattle.view_changes.specs.Shown.{shown, Keeping, ShowsNode, AreOwn, adopt}
use Rattle.view_changes.specs.Room.{AllAt, AllHave}
use Rattle.view_changes.specs.Deeds.{NodeDeed, after_deed, is_seen, adoption, changes_of as changes_told, RoomAlong, MayDo, ViewShows, with_node}
use Rattle.view_changes.specs.declared.change.LaneChange.{LaneChange}
use Rattle.view_changes.specs.declared.change.LaneChange.TheVariants as change
use Rattle.lane_journals.specs.Stamps.{Stamp, Le}
use Rattle.lane_journals.specs.Buckets.{Bucket, Id, key_of}
use Rattle.lane_journals.specs.Events as plain
use Rattle.lane_journals.specs.Readers as readers
use Rattle.lane_journals.specs.Readers.{Journal, Message, sent, stopped, version, store}
use Rattle.lane_journals.specs.Facts.{InRegion}
use Rattle.lane_journals.specs.Legal.{MayDeliver, Replies, Legal}
use Rattle.lane_journals.specs.States.{state_of}
use Rattle.lane_journals.specs.Meanings.{entry_at, meaning_body, meaning_reply, history}
use Rattle.lane_journals.specs.Places.{Setting}
use Rattle.lane_journals.specs.KeptJournals.{IsLegal}
use Rattle.lane_journals.specs.declared.event.LaneEvent.{LaneEvent}
use Rattle.lane_journals.specs.declared.event.LaneEvent.TheVariants.{Delivered, Stopped, Started}
use Rattle.lane_journals.proofs.Basics.{sent-stays, sent-member, Accepted-stays}
use Rattle.lane_journals.proofs.Meant.{meant-legal}
use Rattle.lane_journals.proofs.Order.{Le_nothing}
use Rattle.lane_journals.proofs.Regions.{region-newer}
use Rattle.lane_journals.specs.ActiveCopies.{InAll}
use Rattle.lane_durability.specs.Durability.{CountedOnce}
use Rattle.lane_keeping.specs.NodeKeeping.{regions, stamp_of, AreWritten}
use Rattle.lane_keeping.proofs.Words.{contains-is, key-is, inside-is}
use Rattle.lane_keeping.proofs.Regions.{within, said}
use Rattle.lane_changes.specs.Deliveries.{NotedMessage, noted_message, entries_named, storing, deed_of, deed_by, after_delivery, keeping}
use Rattle.lane_changes.specs.Changes.{changes_at, changes_by, changes_of}
use Rattle.journal_views.specs.JournalViews.{FindRoom}
use Rattle.lane_changes.proofs.Noted.{AllThere, NotedAs, sent-noted}
use Rattle.lane_changes.proofs.Kept.{AreStamped, KeptAs, adopt-version, adopt-regions, adopt-entries, inside-written, deed-written, kept}
use Rattle.view_changes.proofs.OpeningLaws.{node-new, opening-view}
use Rattle.journal_views.proofs.Lanes.{activated-lies, serving-small}
use Rattle.journal_views.proofs.Writes.{few-written, room-before}
use Rattle.journal_views.proofs.Folds.{after-append, ViewsKeep, view-after, adoption-buckets, NamesBucket, told-buckets, node-of, same-shown, switched}

-- the region of a node as a view tests it
pub within-is : (key : ℕ) (rs : List Bucket) → within key rs ≡ in_regions rs key
within-is key [] = refl
within-is key (r ∷ rs) = ap₂ (λ x y. x || y) (contains-is r key) (within-is key rs)

region-stays : (v n key : ℕ) (H : Journal) (e : plain.Event) → InRegion v n key H → InRegion v n key (e ∷ H)
region-stays v n key H e h = record {
  number = h.number;
  message = h.message;
  bucket = h.bucket;
  was_sent = sent-stays h.number H h.message e h.was_sent;
  receiver = h.receiver;
  version = h.version;
  body = h.body;
  accepted = Accepted-stays h.number H e h.accepted;
  inside = h.inside;
}

equal-ids : (id : Id) → eq_by_cmp id_cmp id id ≡ true
equal-ids id = ap is_eq (tied_itself nat_list_cmp_total id)

-- ---- an entry that is stored finds a place

-- the entries of a map that has each document of some rows find places
abbrev pub RoomAlongs : Type 0
RoomAlongs = (types : Types) (m : Entries) (es : List Entry) → AllAt m es → fin.len m < 4294967295 → (rows : Rows) → AreDistinct rows → AllHave m rows → RoomAlong types es rows

first-of : (a b : Bool) → (a && b) ≡ true → a ≡ true
first-of true b h = refl
first-of false b h = h

there-some : (q : Id) (rows : Rows) → has_row q rows ≡ true → is_some (document_of q rows) ≡ true
there-some q [] h = h
there-some q (None ∷ rows) h = there-some q rows h
there-some q (Some d ∷ rows) h = by_test (bytes_eq d.id q) h (there-some q rows)
  where
    by_test : (t : Bool) → (t || has_row q rows) ≡ true → (has_row q rows ≡ true → is_some (document_of q rows) ≡ true) → is_some (cond t (Some d) (document_of q rows)) ≡ true
    by_test true i ih = refl
    by_test false i ih = ih i

-- what a view shows of a node, its entries have
shown-have : (types : Types) (k : Keeping) (s : Bool) (n : NodeView) → ShowsNode types k s n → AllHave k.entries n.rows
shown-have types k s n h q there = by_tests (in_regions k.regions (keys.key_of q)) (fin.get k.entries q) (ap is_some (sym (h.documents_are q)) ∙ there-some q n.rows there)
  where
    by_tests : (t : Bool) (o : Option Entry) → is_some (cond t (shown types q o) None) ≡ true → is_some o ≡ true
    by_tests true None e = e
    by_tests true (Some x) e = refl
    by_tests false o e = absurd (true≢false (sym e))

room-stored : RoomAlongs → (types : Types) (k : Keeping) (s : Bool) (x : NodeView) (e : Entry) → IsNode x → ShowsNode types k s x → fin.len (with_entry k.entries e) < 4294967295
    → RoomAlong types (cond (is_seen k e) (e ∷ []) []) x.rows
room-stored rooms types k s x e node h few = by_seen (is_seen k e) refl
  where
    by_newer : (t : Bool) → is_newer e (fin.get k.entries e.id) ≡ t → t ≡ true → fin.get (cond t (fin.insert k.entries e.id e) k.entries) e.id ≡ Some e
    by_newer true f g = get-insert nat_list_cmp_total k.entries e.id e e.id ∙ ap (λ u. cond u (Some e) (fin.get k.entries e.id)) (equal-ids e.id)
    by_newer false f g = absurd (true≢false (sym g))

    either : (u : Bool) (o : Option Entry) → is_some o ≡ true → is_some (cond u (Some e) o) ≡ true
    either true o i = refl
    either false o i = i

    stays : (t : Bool) (q : Id) → is_some (fin.get k.entries q) ≡ true → is_some (fin.get (cond t (fin.insert k.entries e.id e) k.entries) q) ≡ true
    stays true q i = ap (λ (o : Option Entry). is_some o) (get-insert nat_list_cmp_total k.entries e.id e q) ∙ either (eq_by_cmp id_cmp q e.id) (fin.get k.entries q) i
    stays false q i = i

    have : AllHave (with_entry k.entries e) x.rows
    have q there = stays (is_newer e (fin.get k.entries e.id)) q (shown-have types k s x h q there)

    by_seen : (t : Bool) → is_seen k e ≡ t → RoomAlong types (cond t (e ∷ []) []) x.rows
    by_seen false f = tt
    by_seen true f =
        let new : is_newer e (fin.get k.entries e.id) ≡ true = first-of (is_newer e (fin.get k.entries e.id)) (in_regions k.regions (keys.key_of e.id)) f in
        rooms types (with_entry k.entries e) (e ∷ []) (by_newer (is_newer e (fin.get k.entries e.id)) refl new, tt) few x.rows node.distinct have

-- ---- what lower crates say

pub record Given : Type 0 where
  pub stamped : AreStamped
  pub views : ViewsKeep
  pub rooms : RoomAlongs
  pub room_activated : (types : Types) (k : Keeping) (s : Bool) (n : NodeView) (b : Bucket) → AreOwn k.entries → IsNode n → ShowsNode types k s n → fin.len k.entries < 4294967295
      → RoomAlong types (filter (is_fresh b k.regions) (listed (fin.retain_keys k.entries (in_bucket b)))) n.rows
  pub room_united : (types : Types) (k : Keeping) (s : Bool) (n : NodeView) (es : Entries) → AreOwn es → IsNode n → ShowsNode types k s n → fin.len (joined k.entries es) < 4294967295
      → RoomAlong types (filter (is_seen k) (listed es)) n.rows
  pub deed_shown : (n : ℕ) (d : NodeDeed) (ks : ℕ → Keeping) (stopped : ℕ → Bool) (v : View) → IsView v → n < length v.nodes → MayDo n (ks n) v d → ViewShows ks stopped v
      → ViewShows (with_node n (after_deed d (ks n)) ks) stopped (view_after v (changes_told n (ks n) d))
  pub adoption_shown : (n w : ℕ) (ks : ℕ → Keeping) (stopped : ℕ → Bool) (v : View) → ViewShows ks stopped v → ViewShows (with_node n (adopt w (ks n)) ks) stopped (view_after v (adoption n w (ks n)))
  pub once : InAll (λ acks P J. CountedOnce J)

module _ (g : Given) (S : Setting) (some : 1 ≤ S.acks) (lane : IsBucket S.lane) (types : Types) where
  named : AreStamped
  named = g.stamped

  abbrev pub seen : List LaneEvent → View
  seen J = view_after (opening types) (changes_of J)

  pub record Stands (J : List LaneEvent) : Type 0 where
    pub is_view : IsView (seen J)
    pub shows : ViewShows (λ n. keeping n J) (λ n. stopped n (history J)) (seen J)

  -- ---- a delivery

  module _ (J : List LaneEvent) (c : ℕ) (r : NotedReply) (l : IsLegal S (Delivered c r ∷ J)) (room : FindRoom J) (st : Stands J) where
    abbrev H : Journal
    H = history J

    may : MayDeliver H c (meaning_reply J r)
    may = (l.1).permitted

    abbrev m : Message
    m = may.message

    a : NotedAs J c m
    a = sent-noted S J l.0 c m may.was_sent

    abbrev x : NotedMessage
    x = a.noted

    abbrev n : ℕ
    n = x.receiver

    abbrev w : ℕ
    w = x.version

    abbrev event : plain.Event
    event = plain.Delivered c (meaning_reply J r)

    abbrev P : ℕ → ℕ → Bool
    P = state_of (history (Delivered c r ∷ J))

    lawful : Legal S.acks P (event ∷ H)
    lawful = meant-legal S (Delivered c r ∷ J) l

    low : n < 32
    low = subst (λ (i : ℕ). i < 32) a.receiver_is (serving-small S.acks P H lawful.0 m.version m.receiver (sent-member S.acks P H lawful.0 c m may.was_sent))

    -- what the node keeps, first at the version of the message
    abbrev k : Keeping
    k = keeping n J

    abbrev k1 : Keeping
    k1 = adopt w k

    abbrev deed : NodeDeed
    deed = deed_by J x.body r

    was : KeptAs J n k
    was = kept named S J l.0 n

    abbrev v1 : View
    v1 = view_after (seen J) (adoption n w k)

    abbrev ks : ℕ → Keeping
    ks i = keeping i J

    abbrev ks1 : ℕ → Keeping
    ks1 = with_node n k1 ks

    abbrev stops : ℕ → Bool
    stops i = stopped i H

    here1 : ks1 n ≡ k1
    here1 = ap (λ t. cond {A = Keeping} t k1 (ks n)) (eq-eqb n n refl)

    other1 : (i : ℕ) → i ≢ n → ks1 i ≡ ks i
    other1 i ne = by_test (eqb i n) refl
      where
        by_test : (t : Bool) → eqb i n ≡ t → cond {A = Keeping} t k1 (ks i) ≡ ks i
        by_test true e = absurd (ne (grind (arith, nat_tests)))
        by_test false e = refl

    shows1 : ViewShows ks1 stops v1
    shows1 = g.adoption_shown n w ks stops (seen J) st.shows

    view1 : IsView v1
    view1 = view-after g.views (adoption n w k) (adoption-buckets n w k) (seen J) st.is_view

    long : n < length v1.nodes
    long = subst (λ (i : ℕ). n < i) (sym view1.many) low

    node1 : IsNode (node_at n v1.nodes)
    node1 = node-of v1.nodes view1.nodes n long

    shown1 : ShowsNode v1.types k1 (stops n) (node_at n v1.nodes)
    shown1 = subst (λ (q : Keeping). ShowsNode v1.types q (stops n) (node_at n v1.nodes)) here1 (shows1 n long)

    written1 : AreWritten (λ s. entry_at s J) k1.entries
    written1 = subst (AreWritten (λ s. entry_at s J)) (sym (adopt-entries w k)) was.entries_are

    own1 : (id : Id) (e : Entry) → fin.get k1.entries id ≡ Some e → e.id ≡ id
    own1 id e g = (written1 id e g).0

    few : (b : NotedBody) → AllThere J b → fin.len (after_deed (deed_of J b) k1).entries < 4294967295
    few b there = few-written J (after_deed (deed_of J b) k1).entries (deed-written named S J l.0 b there k1 written1) room

    -- ---- at the receiver

    here : eqb m.receiver n ≡ true
    here = eq-eqb m.receiver n a.receiver_is

    version-now : version n (event ∷ H) ≡ max w (version n H)
    version-now = by_message ∙ ap (λ v. max v (version n H)) a.version_is
      where
        by_message : version n (event ∷ H) ≡ max m.version (version n H)
        by_message = rw (may.was_sent, here) refl

    version-one : k1.version ≡ version n (event ∷ H)
    version-one = adopt-version w k ∙ ap (λ v. max w v) was.version_is ∙ sym version-now

    regions-one : k1.regions ≡ cond (nat_lt (version n H) w) [] (regions n H)
    regions-one = adopt-regions w k ∙ ap₂ (λ v (rs : List Bucket). cond (nat_lt v w) [] rs) was.version_is was.regions_are

    body-at : (b : NotedBody) → x.body ≡ b → m.body ≡ meaning_body J b
    body-at b is = a.body_is ∙ ap (meaning_body J) is

    there-at : (b : NotedBody) → x.body ≡ b → AllThere J b
    there-at b is = subst (AllThere J) is a.there

    module _ (ps : List Piece) (ss : List Stamp) (answered : r ≡ noted.Answer ps ss) (at_least : version n H ≤ w) where
      own-store : (id : Id) → store n id (event ∷ H) ≡ readers.after_body id m.body (store n id H)
      own-store id = ap (λ (y : NotedReply). store n id (plain.Delivered c (meaning_reply J y) ∷ H)) answered ∙ by_message
        where
          by_message : store n id (plain.Delivered c (meaning_reply J (noted.Answer ps ss)) ∷ H) ≡ readers.after_body id m.body (store n id H)
          by_message = rw (may.was_sent, here) refl

      -- an entry that a Delete takes lies in no region
      dropped : (b : Bucket) (s : ℕ) → x.body ≡ Delete b s → (id : Id) (e : Entry) → fin.get k1.entries id ≡ Some e → in_regions k1.regions (keys.key_of id) ≡ true → in_bucket b id ≡ false
      dropped b s is id e g inside = by_test (in_bucket b id) refl
        where
          raised : (x y : ℕ) → nat_lt y x ≡ false → y ≡ max x y
          raised x y f = grind (arith, nat_tests)

          gone : in_bucket b id ≡ true → store n id (event ∷ H) ≡ None
          gone f =
              own-store id ∙ ap (λ (y : plain.Body). readers.after_body id y (store n id H)) (body-at (Delete b s) is)
              ∙ ap (λ t. cond {A = Option Stamp} t None (store n id H)) (inside-is b id ∙ f)

          held : store n id H ≡ Some e.stamp
          held = sym (was.stamps_are id) ∙ ap (λ (es : Entries). stamp_of (fin.get es id)) (sym (adopt-entries w k)) ∙ ap stamp_of g

          by_rise : (t : Bool) → nat_lt (version n H) w ≡ t → in_regions (cond t [] (regions n H)) (keys.key_of id) ≡ true → in_bucket b id ≡ true → ⊥
          by_rise true f j h = true≢false (sym j)
          by_rise false f j h =
              let inregion : InRegion (version n H) n (key_of id) H = said S.acks P H lawful.0 n (key_of id) (within-is (key_of id) (regions n H) ∙ ap (in_regions (regions n H)) (key-is id) ∙ j) in
              let stays : version n (event ∷ H) ≡ version n H = version-now ∙ sym (raised w (version n H) f) in
              let le : Le (store n id H) (store n id (event ∷ H)) = region-newer S.acks P some H lawful.0 event lawful (version n H) n id inregion stays in
              let le2 : Le (Some e.stamp) None = subst (λ (o : Option Stamp). Le o None) held (subst (λ (o : Option Stamp). Le (store n id H) o) (gone h) le) in
              let none : ◌≡◌ {A = Option Stamp} (Some e.stamp) None = Le_nothing (Some e.stamp) le2 in
              cc

          by_test : (t : Bool) → in_bucket b id ≡ t → t ≡ false
          by_test false f = refl
          by_test true f = absurd (by_rise (nat_lt (version n H) w) refl (sym (ap (λ (rs : List Bucket). in_regions rs (keys.key_of id)) regions-one) ∙ inside) f)

      -- no other node of the version is active in the bucket of an Activate
      alone : (b : Bucket) → x.body ≡ Activate b → (i key : ℕ) → i ≢ n → i < length v1.nodes → IsActiveOver k1.version key (node_at i v1.nodes) → has_key b key ≡ true → ⊥
      alone b is i key ne li over h =
          let its : KeptAs J i (ks i) = kept named S J l.0 i in
          let shown : ShowsNode v1.types (ks i) (stops i) (node_at i v1.nodes) = subst (λ (q : Keeping). ShowsNode v1.types q (stops i) (node_at i v1.nodes)) (other1 i ne) (shows1 i li) in
          let same : version i H ≡ version n (event ∷ H) = sym its.version_is ∙ sym shown.version_is ∙ over.0 ∙ version-one in
          let there : in_regions (regions i H) key ≡ true = sym (ap (λ (rs : List Bucket). in_regions rs key) (shown.regions_are ∙ its.regions_are)) ∙ over.1 in
          let old : InRegion (version n (event ∷ H)) i key (event ∷ H) =
          subst (λ (v : ℕ). InRegion v i key (event ∷ H)) same (region-stays (version i H) i key H event (said S.acks P H lawful.0 i key (within-is key (regions i H) ∙ there))) in
          ne (g.once S.acks some P (event ∷ H) lawful (version n (event ∷ H)) i n key old (new h))
        where
          greatest : (x y : ℕ) → y ≤ x → x ≡ max x y
          greatest x y le = omega (arith, le)

          new : has_key b key ≡ true → InRegion (version n (event ∷ H)) n key (event ∷ H)
          new g = record {
            number = c;
            message = m;
            bucket = b;
            was_sent = sent-stays c H m event may.was_sent;
            receiver = a.receiver_is;
            version = a.version_is ∙ greatest w (version n H) at_least ∙ sym version-now;
            body = body-at (Activate b) is;
            accepted = inl (refl, ap (λ (y : NotedReply). readers.is_answer (meaning_reply J y)) answered);
            inside = contains-is b key ∙ g;
          }

      may-store : (o : Option Entry) → fin.len (after_deed (storing o) k1).entries < 4294967295 → MayDo n k1 v1 (storing o)
      may-store None f = tt
      may-store (Some e) f = room-stored g.rooms v1.types k1 (stops n) (node_at n v1.nodes) e node1 shown1 f

      may-do : (b : NotedBody) → x.body ≡ b → MayDo n k1 v1 (deed_of J b)
      may-do (Store s) is = may-store (entry_at s J) (few (Store s) (there-at (Store s) is))
      may-do (Apply b us) is =
          let own : (id : Id) (e : Entry) → fin.get (fin.retain_keys (entries_named J us) (in_bucket b)) id ≡ Some e → e.id ≡ id = λ id e g. (inside-written named S J l.0 b us id e g).0 in
          (own, g.room_united v1.types k1 (stops n) (node_at n v1.nodes) (fin.retain_keys (entries_named J us) (in_bucket b)) own node1 shown1 (few (Apply b us) (there-at (Apply b us) is)))
      may-do (Delete b s) is = dropped b s is
      may-do (Activate b) is = (
        own1,
        (activated-lies S lane J l.0 c m b may.was_sent (body-at (Activate b) is)).bucket,
        alone b is,
        g.room_activated v1.types k1 (stops n) (node_at n v1.nodes) b own1 node1 shown1 (few (Activate b) tt),
      )
      may-do Ask is = tt
      may-do (Read b id) is = tt
      may-do (Split b) is = tt
      may-do (Join b) is = tt
      may-do (Ready b) is = tt

      bucket-of : (b : NotedBody) → x.body ≡ b → NamesBucket (deed_of J b)
      bucket-of (Store s) is = by_entry (entry_at s J)
        where
          by_entry : (o : Option Entry) → NamesBucket (storing o)
          by_entry None = tt
          by_entry (Some e) = tt
      bucket-of (Activate b) is = (activated-lies S lane J l.0 c m b may.was_sent (body-at (Activate b) is)).bucket
      bucket-of (Apply b us) is = tt
      bucket-of (Delete b s) is = tt
      bucket-of Ask is = tt
      bucket-of (Read b id) is = tt
      bucket-of (Split b) is = tt
      bucket-of (Join b) is = tt
      bucket-of (Ready b) is = tt

    at-receiver : version m.receiver H ≤ m.version → version n H ≤ w
    at-receiver le = subst (λ (v : ℕ). version n H ≤ v) a.version_is (subst (λ (i : ℕ). version i H ≤ m.version) a.receiver_is le)

    allowed : (y : NotedReply) → r ≡ y → Replies H m (meaning_reply J y) → MayDo n k1 v1 (deed_by J x.body y) × NamesBucket (deed_by J x.body y)
    allowed (noted.Answer ps ss) is q = (may-do ps ss is (at-receiver q.low) x.body refl, bucket-of ps ss is (at-receiver q.low) x.body refl)
    allowed (noted.Newer v) is q = (tt, tt)
    allowed noted.NoBucket is q = (tt, tt)
    allowed noted.Differs is q = (tt, tt)
    allowed noted.NoMemory is q = (tt, tt)

    done : MayDo n k1 v1 deed × NamesBucket deed
    done = allowed r refl may.reply

    abbrev v2 : View
    v2 = view_after v1 (changes_told n k1 deed)

    shows2 : ViewShows (with_node n (after_deed deed k1) ks1) stops v2
    shows2 = subst (λ (q : Keeping). ViewShows (with_node n (after_deed deed q) ks1) stops (view_after v1 (changes_told n q deed))) here1
        (g.deed_shown n deed ks1 stops v1 view1 long (subst (λ (q : Keeping). MayDo n q v1 deed) (sym here1) done.0) shows1)

    seen-is : seen (Delivered c r ∷ J) ≡ v2
    seen-is =
        after-append (opening types) (changes_of J) (changes_at J r (noted_message c J))
        ∙ ap (λ (o : Option NotedMessage). view_after (seen J) (changes_at J r o)) a.found
        ∙ after-append (seen J) (adoption n w k) (changes_told n k1 deed)

    keeping-is : (i : ℕ) → with_node n (after_deed deed k1) ks1 i ≡ keeping i (Delivered c r ∷ J)
    keeping-is i = by_test (eqb i n) refl ∙ ap (λ (o : Option NotedMessage). after_delivery J i r o (keeping i J)) (sym a.found)
      where
        by_test : (t : Bool) → eqb i n ≡ t → cond {A = Keeping} t (after_deed deed k1) (cond {A = Keeping} t k1 (ks i)) ≡ cond {A = Keeping} (eqb n i) (after_deed deed (adopt w (ks i))) (ks i)
        by_test true e =
            let same : i ≡ n = grind (arith, nat_tests) in
            subst (λ (j : ℕ). after_deed deed k1 ≡ cond {A = Keeping} (eqb n j) (after_deed deed (adopt w (ks j))) (ks j)) (sym same) (sym (ap (λ t. cond {A = Keeping} t (after_deed deed k1) k) (eq-eqb n n refl)))
        by_test false e =
            let turned : eqb n i ≡ false = grind (arith, nat_tests) in
            sym (ap (λ t. cond {A = Keeping} t (after_deed deed (adopt w (ks i))) (ks i)) turned)

    delivered-stands : Stands (Delivered c r ∷ J)
    delivered-stands = record {
      is_view = subst IsView (sym seen-is) (view-after g.views (changes_told n k1 deed) (told-buckets n k1 deed done.1) v1 view1);
      shows = subst (ViewShows (λ i. keeping i (Delivered c r ∷ J)) stops) (sym seen-is) (same-shown (with_node n (after_deed deed k1) ks1) (λ i. keeping i (Delivered c r ∷ J)) stops v2 keeping-is shows2);
    }

  -- ---- any event

  quiet : (J : List LaneEvent) (e : LaneEvent) → changes_by J e ≡ [] → ((i : ℕ) → keeping i (e ∷ J) ≡ keeping i J) → ((i : ℕ) → stopped i (history (e ∷ J)) ≡ stopped i (history J)) → Stands J → Stands (e ∷ J)
  quiet J e none keeps stops st = record { is_view = subst IsView (sym same) st.is_view; shows = subst (ViewShows (λ i. keeping i (e ∷ J)) (λ i. stopped i (history (e ∷ J)))) (sym same) shows }
    where
      same : seen (e ∷ J) ≡ seen J
      same = ap (λ (cs : List LaneChange). view_after (opening types) (changes_of J ++ cs)) none ∙ ap (view_after (opening types)) (append-nil (changes_of J))

      shows : ViewShows (λ i. keeping i (e ∷ J)) (λ i. stopped i (history (e ∷ J))) (seen J)
      shows i l = subst (λ (t : Bool). ShowsNode (seen J).types (keeping i (e ∷ J)) t (node_at i (seen J).nodes)) (sym (stops i))
          (subst (λ (q : Keeping). ShowsNode (seen J).types q (stopped i (history J)) (node_at i (seen J).nodes)) (sym (keeps i)) (st.shows i l))

  other-node : (n i : ℕ) → i ≢ n → eqb n i ≡ false
  other-node n i ne = by_test (eqb n i) refl
    where
      by_test : (t : Bool) → eqb n i ≡ t → t ≡ false
      by_test true e = absurd (ne (grind (arith, nat_tests)))
      by_test false e = refl

  pub stands : (J : List LaneEvent) → IsLegal S J → FindRoom J → Stands J
  stands [] l room = record {
    is_view = opening-view types;
    shows = λ i low. subst (λ (y : NodeView). ShowsNode types (keeping i []) false y) (sym (node-new i 32)) (record { version_is = refl; stopped_is = refl; regions_are = refl; documents_are = λ id. refl });
  }
  stands (Delivered c r ∷ J) l room = delivered-stands J c r l (room-before J (Delivered c r) room) (stands J l.0 (room-before J (Delivered c r) room))
  stands (Stopped n ∷ J) l room = let st = stands J l.0 (room-before J (Stopped n) room) in
      let same : seen (Stopped n ∷ J) ≡ changed (seen J) (change.Stop n) = after-append (opening types) (changes_of J) (change.Stop n ∷ []) in record {
        is_view = subst IsView (sym same) (view-after g.views (change.Stop n ∷ []) (tt, tt) (seen J) st.is_view);
        shows = subst (ViewShows (λ i. keeping i J) (λ i. stopped i (history (Stopped n ∷ J)))) (sym same)
            (switched true n (seen J) (changed (seen J) (change.Stop n)) (λ i. keeping i J) (λ i. stopped i (history J)) (λ i. stopped i (history (Stopped n ∷ J))) refl refl
            (ap (λ t. cond t true (stopped n (history J))) (eq-eqb n n refl)) (λ i ne. ap (λ t. cond t true (stopped i (history J))) (other-node n i ne)) st.shows);
      }
  stands (Started n ∷ J) l room = let st = stands J l.0 (room-before J (Started n) room) in
      let same : seen (Started n ∷ J) ≡ changed (seen J) (change.Start n) = after-append (opening types) (changes_of J) (change.Start n ∷ []) in record {
        is_view = subst IsView (sym same) (view-after g.views (change.Start n ∷ []) (tt, tt) (seen J) st.is_view);
        shows = subst (ViewShows (λ i. keeping i J) (λ i. stopped i (history (Started n ∷ J)))) (sym same)
            (switched false n (seen J) (changed (seen J) (change.Start n)) (λ i. keeping i J) (λ i. stopped i (history J)) (λ i. stopped i (history (Started n ∷ J))) refl refl
            (ap (λ t. cond t false (stopped n (history J))) (eq-eqb n n refl)) (λ i ne. ap (λ t. cond t false (stopped i (history J))) (other-node n i ne)) st.shows);
      }
  stands (e ∷ J) l room = quiet J e refl (λ i. refl) (λ i. refl) (stands J l.0 (room-before J e room))
