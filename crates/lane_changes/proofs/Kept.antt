-- What a node keeps, delivery by delivery, is what the readers of its journal say.
use Rattle.std.proofs.Common.{◌≡◌, ℕ, max, nat_lt, Bool, true, false, cond, List, [], ◌∷◌, Option, None, Some, refl, sym, ap, ap₂, ◌∙◌, subst, arith, eqb}
use Rattle.std.proofs.lemmas.Bool.Decides.{nat_tests}
use Rattle.std.specs.FinMap as fin
use Rattle.std.specs.FinMap.{get-empty}
use Rattle.documents.specs.declared.entry.Entry.{Entry}
use Rattle.documents.specs.EntryCodes.{id_cmp}
use Rattle.entry_maps.specs.EntryCodes.{Entries}
use Rattle.entry_maps.specs.Entries.{with_entry, in_bucket}
use Rattle.messages.specs.declared.body.Body.TheVariants as body
use Rattle.messages.specs.declared.noted.NotedBody.{NotedBody}
use Rattle.messages.specs.declared.noted.NotedBody.TheVariants.{Ask, Read, Store, Apply, Delete, Split, Join, Ready, Activate}
use Rattle.messages.specs.declared.noted.NotedReply.{NotedReply}
use Rattle.messages.specs.declared.noted.NotedReply.TheVariants as noted
use Rattle.replica_store.specs.Replicas.{LieIn}
use Rattle.view_changes.specs.Shown.{Keeping, adopt}
use Rattle.view_changes.specs.Deeds.{NodeDeed, Looks, Stores, Unites, Drops, Activates, after_deed}
use Rattle.lane_journals.specs.Stamps.{Stamp, newer}
use Rattle.lane_journals.specs.Buckets.{Bucket, Id, same_id, contains, key_of}
use Rattle.lane_journals.specs.Events as plain
use Rattle.lane_journals.specs.Readers as readers
use Rattle.lane_journals.specs.Readers.{Journal, Message, sent, version, store}
use Rattle.lane_journals.specs.Meanings.{entry_at, id_in, entry_of, pick, content, names, id_at, meaning_body, meaning_reply, history}
use Rattle.lane_journals.specs.Legal.{MayDeliver}
use Rattle.lane_journals.specs.Places.{Setting}
use Rattle.lane_journals.specs.KeptJournals.{IsLegal}
use Rattle.lane_journals.specs.declared.event.LaneEvent.{LaneEvent}
use Rattle.lane_journals.specs.declared.event.LaneEvent.TheVariants.{Wrote, Delivered}
use Rattle.lane_journals.proofs.Basics.{or_else-some}
use Rattle.lane_keeping.specs.NodeKeeping.{activated_regions, regions, stamp_of, AreWritten}
use Rattle.lane_keeping.proofs.Words.{inside-is}
use Rattle.lane_keeping.proofs.Stamping.{newer-none, shown_in, stamps-after, written-after}
use Rattle.lane_changes.specs.Deliveries.{NotedMessage, noted_message, with_named, entries_named, storing, deed_of, deed_by, after_delivery, keeping}
use Rattle.lane_changes.proofs.Noted.{AllThere, NotedAs, sent-noted}

-- what is kept, over what readers read
pub record IsKept (v : ℕ) (rs : List Bucket) (held : Id → Option Stamp) (wrote : Stamp → Option Entry) (k : Keeping) : Type 0 where
  pub version_is : k.version ≡ v
  pub regions_are : k.regions ≡ rs
  pub stamps_are : (id : Id) → stamp_of (fin.get k.entries id) ≡ held id
  pub entries_are : AreWritten wrote k.entries

abbrev pub KeptAs : List LaneEvent → ℕ → Keeping → Type 0
KeptAs J n k = IsKept (version n (history J)) (regions n (history J)) (λ id. store n id (history J)) (λ s. entry_at s J) k

-- ---- a greater version

pub adopt-version : (w : ℕ) (k : Keeping) → (adopt w k).version ≡ max w k.version
adopt-version w k = by_test (nat_lt k.version w) refl
  where
    raised : (a b : ℕ) → nat_lt a b ≡ true → b ≡ max b a
    raised a b e = grind (arith, nat_tests)

    same : (a b : ℕ) → nat_lt a b ≡ false → a ≡ max b a
    same a b e = grind (arith, nat_tests)

    by_test : (t : Bool) → nat_lt k.version w ≡ t → (cond {A = Keeping} t (record { version = w; regions = []; entries = k.entries }) k).version ≡ max w k.version
    by_test true e = raised k.version w e
    by_test false e = same k.version w e

pub adopt-regions : (w : ℕ) (k : Keeping) → (adopt w k).regions ≡ cond (nat_lt k.version w) [] k.regions
adopt-regions w k = by_test (nat_lt k.version w)
  where
    by_test : (t : Bool) → (cond {A = Keeping} t (record { version = w; regions = []; entries = k.entries }) k).regions ≡ cond t [] k.regions
    by_test true = refl
    by_test false = refl

pub adopt-entries : (w : ℕ) (k : Keeping) → (adopt w k).entries ≡ k.entries
adopt-entries w k = by_test (nat_lt k.version w)
  where
    by_test : (t : Bool) → (cond {A = Keeping} t (record { version = w; regions = []; entries = k.entries }) k).entries ≡ k.entries
    by_test true = refl
    by_test false = refl

-- ---- entries that are named

-- an entry is that of its stamp
abbrev pub AreStamped : Type 0
AreStamped = (S : Setting) (J : List LaneEvent) → IsLegal S J → (s : Stamp) (e : Entry) → entry_at s J ≡ Some e → e.stamp ≡ s

module _ (named : AreStamped) (S : Setting) (J : List LaneEvent) (legal : IsLegal S J) where
  abbrev wrote : Stamp → Option Entry
  wrote s = entry_at s J

  -- the entry of a stamp that is joined to a map
  stamp-joined : (m : Entries) (s : Stamp) (x : Entry) (id : Id) → entry_at s J ≡ Some x → stamp_of (fin.get (with_entry m x) id) ≡ newer (entry_of id s (Some x.id)) (stamp_of (fin.get m id))
  stamp-joined m s x id e = stamps-after (body.Store x) m id tt ∙ by_id (same_id x.id id)
    where
      stamped : x.stamp ≡ s
      stamped = named S J legal s x e

      by_id : (t : Bool) → cond t (newer (Some x.stamp) (stamp_of (fin.get m id))) (stamp_of (fin.get m id)) ≡ newer (cond t (Some s) None) (stamp_of (fin.get m id))
      by_id true = ap (λ (u : Stamp). newer (Some u) (stamp_of (fin.get m id))) stamped
      by_id false = sym (newer-none (stamp_of (fin.get m id)))

  named-stamps : (ss : List Stamp) (id : Id) → stamp_of (fin.get (entries_named J ss) id) ≡ pick J id ss
  named-stamps [] id = ap stamp_of (get-empty id_cmp id)
  named-stamps (s ∷ ss) id = by_entry (entry_at s J) refl (named-stamps ss id)
    where
      by_entry : (o : Option Entry) → entry_at s J ≡ o → stamp_of (fin.get (entries_named J ss) id) ≡ pick J id ss
          → stamp_of (fin.get (with_named (entries_named J ss) o) id) ≡ newer (entry_of id s (id_in o)) (pick J id ss)
      by_entry None e ih = ih ∙ sym (newer-none (pick J id ss))
      by_entry (Some x) e ih = stamp-joined (entries_named J ss) s x id e ∙ ap (λ (o : Option Stamp). newer (entry_of id s (Some x.id)) o) ih

  named-written : (ss : List Stamp) → AreWritten wrote (entries_named J ss)
  named-written [] = λ id e g. let none = sym (get-empty id_cmp id) ∙ g in cc
  named-written (s ∷ ss) = by_entry (entry_at s J) refl (named-written ss)
    where
      by_entry : (o : Option Entry) → entry_at s J ≡ o → AreWritten wrote (entries_named J ss) → AreWritten wrote (with_named (entries_named J ss) o)
      by_entry None e ih = ih
      by_entry (Some x) e ih = written-after wrote (body.Store x) (entries_named J ss) (ap wrote (named S J legal s x e) ∙ e) ih

  -- those of an Apply that lie in its bucket
  abbrev inside : Bucket → List Stamp → Entries
  inside b ss = fin.retain_keys (entries_named J ss) (in_bucket b)

  cond-some : (t : Bool) (o : Option Entry) (e : Entry) → cond t o None ≡ Some e → (t ≡ true) × (o ≡ Some e)
  cond-some true o e h = (refl, h)
  cond-some false o e h = cc

  pub inside-lie : (b : Bucket) (ss : List Stamp) → LieIn b (inside b ss)
  inside-lie b ss id e g = (cond-some (in_bucket b id) (fin.get (entries_named J ss) id) e (sym (shown_in b (entries_named J ss) id) ∙ g)).0

  pub inside-written : (b : Bucket) (ss : List Stamp) → AreWritten wrote (inside b ss)
  inside-written b ss id e g = named-written ss id e (cond-some (in_bucket b id) (fin.get (entries_named J ss) id) e (sym (shown_in b (entries_named J ss) id) ∙ g)).1

  pub inside-stamps : (b : Bucket) (ss : List Stamp) (id : Id) → contains b (key_of id) ≡ true → stamp_of (fin.get (inside b ss) id) ≡ pick J id ss
  inside-stamps b ss id h =
      ap stamp_of (shown_in b (entries_named J ss) id ∙ ap (λ t. cond t (fin.get (entries_named J ss) id) None) (sym (inside-is b id) ∙ h))
      ∙ named-stamps ss id

  -- ---- a deed

  pub deed-version : (d : NodeDeed) (k : Keeping) → (after_deed d k).version ≡ k.version
  deed-version Looks k = refl
  deed-version (Stores e) k = refl
  deed-version (Unites es) k = refl
  deed-version (Drops b) k = refl
  deed-version (Activates b) k = refl

  storing-regions : (o : Option Entry) (k : Keeping) → (after_deed (storing o) k).regions ≡ k.regions
  storing-regions None k = refl
  storing-regions (Some e) k = refl

  deed-regions : (b : NotedBody) (k : Keeping) → (after_deed (deed_of J b) k).regions ≡ activated_regions (meaning_body J b) k.regions
  deed-regions (Store s) k = storing-regions (entry_at s J) k
  deed-regions (Apply b ss) k = refl
  deed-regions Ask k = refl
  deed-regions (Read b None) k = refl
  deed-regions (Read b (Some id)) k = refl
  deed-regions (Delete b s) k = refl
  deed-regions (Split b) k = refl
  deed-regions (Join b) k = refl
  deed-regions (Ready b) k = refl
  deed-regions (Activate b) k = refl

  deed-stamps : (b : NotedBody) → AllThere J b → (k : Keeping) (id : Id)
      → stamp_of (fin.get (after_deed (deed_of J b) k).entries id) ≡ readers.after_body id (meaning_body J b) (stamp_of (fin.get k.entries id))
  deed-stamps (Store s) h k id =
      ap (λ (o : Option Entry). stamp_of (fin.get (after_deed (storing o) k).entries id)) h.1
      ∙ stamps-after (body.Store h.0) k.entries id tt
      ∙ ap (λ (t : Stamp). readers.after_body id (plain.Store (h.0).id t) (stamp_of (fin.get k.entries id))) (named S J legal s h.0 h.1)
      ∙ sym (ap (λ (o : Option Entry). readers.after_body id (plain.Store (id_at (id_in o)) s) (stamp_of (fin.get k.entries id))) h.1)
  deed-stamps (Apply b ss) h k id = stamps-after (body.Apply b (inside b ss)) k.entries id (inside-lie b ss) ∙ by_key (contains b (key_of id)) refl
    where
      by_key : (t : Bool) → contains b (key_of id) ≡ t → cond t (newer (stamp_of (fin.get (inside b ss) id)) (stamp_of (fin.get k.entries id))) (stamp_of (fin.get k.entries id))
          ≡ cond t (newer (pick J id ss) (stamp_of (fin.get k.entries id))) (stamp_of (fin.get k.entries id))
      by_key true e = ap (λ (o : Option Stamp). newer o (stamp_of (fin.get k.entries id))) (inside-stamps b ss id e)
      by_key false e = refl
  deed-stamps (Delete b s) h k id = stamps-after (body.Delete b s) k.entries id tt
  deed-stamps Ask h k id = refl
  deed-stamps (Read b None) h k id = refl
  deed-stamps (Read b (Some i)) h k id = refl
  deed-stamps (Split b) h k id = refl
  deed-stamps (Join b) h k id = refl
  deed-stamps (Ready b) h k id = refl
  deed-stamps (Activate b) h k id = refl

  pub deed-written : (b : NotedBody) → AllThere J b → (k : Keeping) → AreWritten wrote k.entries → AreWritten wrote (after_deed (deed_of J b) k).entries
  deed-written (Store s) h k w =
      subst (λ (o : Option Entry). AreWritten wrote (after_deed (storing o) k).entries) (sym h.1)
      (written-after wrote (body.Store h.0) k.entries (ap wrote (named S J legal s h.0 h.1) ∙ h.1) w)
  deed-written (Apply b ss) h k w = written-after wrote (body.Apply b (inside b ss)) k.entries (inside-written b ss) w
  deed-written (Delete b s) h k w = written-after wrote (body.Delete b s) k.entries tt w
  deed-written Ask h k w = w
  deed-written (Read b id) h k w = w
  deed-written (Split b) h k w = w
  deed-written (Join b) h k w = w
  deed-written (Ready b) h k w = w
  deed-written (Activate b) h k w = w

  -- ---- a delivery

  module _ (c : ℕ) (m : Message) (was_sent : sent c (history J) ≡ Some m) (a : NotedAs J c m) (n : ℕ) (k : Keeping) (h : KeptAs J n k) where
    abbrev H : Journal
    H = history J

    abbrev x : NotedMessage
    x = a.noted

    body-at : meaning_body J x.body ≡ m.body
    body-at = sym a.body_is

    module _ (other : eqb m.receiver n ≡ false) where
      apart-version : (r : plain.Reply) → version n (plain.Delivered c r ∷ H) ≡ version n H
      apart-version r = rw (was_sent, other) refl

      apart-regions : (r : plain.Reply) → regions n (plain.Delivered c r ∷ H) ≡ regions n H
      apart-regions (plain.Answer y t) = rw (was_sent, other) refl
      apart-regions (plain.Newer w) = rw (was_sent, other) refl
      apart-regions plain.NoBucket = rw (was_sent, other) refl
      apart-regions plain.Differs = rw (was_sent, other) refl
      apart-regions plain.NoMemory = rw (was_sent, other) refl

      apart-store : (r : plain.Reply) (id : Id) → store n id (plain.Delivered c r ∷ H) ≡ store n id H
      apart-store (plain.Answer y t) id = rw (was_sent, other) refl
      apart-store (plain.Newer w) id = refl
      apart-store plain.NoBucket id = refl
      apart-store plain.Differs id = refl
      apart-store plain.NoMemory id = refl

      apart : (r : NotedReply) → KeptAs (Delivered c r ∷ J) n k
      apart r = record {
        version_is = h.version_is ∙ sym (apart-version (meaning_reply J r));
        regions_are = h.regions_are ∙ sym (apart-regions (meaning_reply J r));
        stamps_are = λ id. h.stamps_are id ∙ sym (apart-store (meaning_reply J r) id);
        entries_are = h.entries_are;
      }

    module _ (here : eqb m.receiver n ≡ true) where
      here-version : (r : plain.Reply) → version n (plain.Delivered c r ∷ H) ≡ max m.version (version n H)
      here-version r = rw (was_sent, here) refl

      abbrev left : List Bucket
      left = cond (nat_lt (version n H) m.version) [] (regions n H)

      left-is : (adopt m.version k).regions ≡ left
      left-is = adopt-regions m.version k ∙ ap₂ (λ v (rs : List Bucket). cond (nat_lt v m.version) [] rs) h.version_is h.regions_are

      raised-is : (r : plain.Reply) → (adopt m.version k).version ≡ version n (plain.Delivered c r ∷ H)
      raised-is r = adopt-version m.version k ∙ ap (λ v. max m.version v) h.version_is ∙ sym (here-version r)

      entries-is : (id : Id) → stamp_of (fin.get (adopt m.version k).entries id) ≡ store n id H
      entries-is id = ap (λ (es : Entries). stamp_of (fin.get es id)) (adopt-entries m.version k) ∙ h.stamps_are id

      written-is : AreWritten wrote (adopt m.version k).entries
      written-is = subst (AreWritten wrote) (sym (adopt-entries m.version k)) h.entries_are

      -- accepted
      answered-regions : (y : plain.Content) (t : Bucket → ℕ → Bool) → regions n (plain.Delivered c (plain.Answer y t) ∷ H) ≡ activated_regions m.body left
      answered-regions y t = rw (was_sent, here) refl

      answered-store : (y : plain.Content) (t : Bucket → ℕ → Bool) (id : Id) → store n id (plain.Delivered c (plain.Answer y t) ∷ H) ≡ readers.after_body id m.body (store n id H)
      answered-store y t id = rw (was_sent, here) refl

      -- refused
      refused : (r : NotedReply) → regions n (history (Delivered c r ∷ J)) ≡ left → ((id : Id) → store n id (history (Delivered c r ∷ J)) ≡ store n id H) → KeptAs (Delivered c r ∷ J) n (adopt m.version k)
      refused r e f = record {
        version_is = raised-is (meaning_reply J r);
        regions_are = left-is ∙ sym e;
        stamps_are = λ id. entries-is id ∙ sym (f id);
        entries_are = written-is;
      }

      taken : (r : NotedReply) → KeptAs (Delivered c r ∷ J) n (after_deed (deed_by J x.body r) (adopt m.version k))
      taken (noted.Answer ps ss) = record {
        version_is = deed-version (deed_of J x.body) (adopt m.version k) ∙ raised-is (meaning_reply J (noted.Answer ps ss));
        regions_are = deed-regions x.body (adopt m.version k) ∙ ap₂ (λ (y : plain.Body) (rs : List Bucket). activated_regions y rs) body-at left-is
            ∙ sym (answered-regions (content J ss) (names ps));
        stamps_are = λ id. deed-stamps x.body a.there (adopt m.version k) id ∙ ap₂ (λ (y : plain.Body) (o : Option Stamp). readers.after_body id y o) body-at (entries-is id)
            ∙ sym (answered-store (content J ss) (names ps) id);
        entries_are = deed-written x.body a.there (adopt m.version k) written-is;
      }
      taken (noted.Newer w) = refused (noted.Newer w) (rw (was_sent, here) refl) (λ id. refl)
      taken noted.NoBucket = refused noted.NoBucket (rw (was_sent, here) refl) (λ id. refl)
      taken noted.Differs = refused noted.Differs (rw (was_sent, here) refl) (λ id. refl)
      taken noted.NoMemory = refused noted.NoMemory (rw (was_sent, here) refl) (λ id. refl)

    pub delivered : (r : NotedReply) → KeptAs (Delivered c r ∷ J) n (after_delivery J n r (noted_message c J) k)
    delivered r = subst (λ (o : Option NotedMessage). KeptAs (Delivered c r ∷ J) n (after_delivery J n r o k)) (sym a.found) (by_node (eqb x.receiver n) refl)
      where
        by_node : (t : Bool) → eqb x.receiver n ≡ t → KeptAs (Delivered c r ∷ J) n (cond t (after_deed (deed_by J x.body r) (adopt x.version k)) k)
        by_node true e = subst (λ v. KeptAs (Delivered c r ∷ J) n (after_deed (deed_by J x.body r) (adopt v k))) a.version_is (taken (ap (λ i. eqb i n) a.receiver_is ∙ e) r)
        by_node false e = apart (ap (λ i. eqb i n) a.receiver_is ∙ e) r

-- ---- all events

pub kept : AreStamped → (S : Setting) (J : List LaneEvent) → IsLegal S J → (n : ℕ) → KeptAs J n (keeping n J)
kept named S [] l n = record {
  version_is = refl;
  regions_are = refl;
  stamps_are = λ id. ap stamp_of (get-empty id_cmp id);
  entries_are = λ id e g. let none = sym (get-empty id_cmp id) ∙ g in cc;
}
kept named S (Delivered c r ∷ J) l n =
    let d : MayDeliver (history J) c (meaning_reply J r) = (l.1).permitted in
    delivered named S J l.0 c d.message d.was_sent (sent-noted S J l.0 c d.message d.was_sent) n (keeping n J) (kept named S J l.0 n) r
kept named S (Wrote line e ∷ J) l n = let h = kept named S J l.0 n in record {
  version_is = h.version_is;
  regions_are = h.regions_are;
  stamps_are = h.stamps_are;
  entries_are = λ id x g. let w = h.entries_are id x g in (w.0, or_else-some (entry_at x.stamp J) _ x w.1);
}
kept named S (_ ∷ J) l n = kept named S J l.0 n

-- each entry stands at its document, and is the one that the journal names
pub own : (J : List LaneEvent) (n : ℕ) (k : Keeping) → KeptAs J n k → (id : Id) (e : Entry) → fin.get k.entries id ≡ Some e → e.id ≡ id
own J n k h id e g = (h.entries_are id e g).0
