-- The changes that a node tells as it takes a message are those that the journal's next event gives.
use Rattle.std.proofs.Common.{◌≡◌, ◌++◌, ℕ, Bool, true, false, List, ◌∷◌, Option, None, Some, refl, sym, ap, ap₂, ◌∙◌, arith}
use mathlib.Core.Bool.{true≢false}
use Rattle.std.specs.Cmp.Lexicographic.{nat_list_cmp_total}
use Rattle.std.specs.FinMap as fin
use Rattle.std.specs.FinMap.{same_map, slice_cmp-IsAntisymmetric, nat_cmp-IsAntisymmetric}
use Rattle.bucket_ids.specs.Buckets.{Low}
use Rattle.documents.specs.declared.entry.Entry.{Entry}
use Rattle.entry_maps.specs.EntryCodes.{Entries}
use Rattle.entry_maps.specs.Entries.{in_bucket}
use Rattle.messages.specs.declared.body.Body.{Body}
use Rattle.messages.specs.declared.body.Body.TheVariants as body
use Rattle.messages.specs.declared.message.Message.{Message}
use Rattle.messages.specs.declared.reply.Reply.{Reply}
use Rattle.messages.specs.declared.reply.Reply.TheVariants as reply
use Rattle.messages.specs.declared.noted.NotedBody.{NotedBody}
use Rattle.messages.specs.declared.noted.NotedBody.TheVariants.{Ask, Read, Store, Apply, Delete, Split, Join, Ready, Activate}
use Rattle.messages.specs.Noting.{noted_reply}
use Rattle.replica_store.specs.Replicas.{LieIn}
use Rattle.node_model.specs.Nodes.{Node}
use Rattle.node_model.specs.Takes.{IsInside}
use Rattle.view_changes.specs.Shown.{Keeping, adopt}
use Rattle.view_changes.specs.Deeds.{NodeDeed, Looks, Unites, Drops, Activates, adoption, changes_of as changes_told}
use Rattle.view_changes.specs.declared.change.LaneChange.{LaneChange}
use Rattle.lane_journals.specs.Stamps.{Stamp}
use Rattle.lane_journals.specs.Buckets.{Bucket, Id, contains, key_of}
use Rattle.lane_journals.specs.Events as plain
use Rattle.lane_journals.specs.Meanings.{entry_at, id_in, id_at, pick, content, meaning_body}
use Rattle.lane_journals.specs.Places.{Setting}
use Rattle.lane_journals.specs.KeptJournals.{IsLegal}
use Rattle.lane_journals.specs.declared.event.LaneEvent.{LaneEvent}
use Rattle.lane_keeping.specs.NodeKeeping.{stamp_of, AreWritten, NodeKeeps}
use Rattle.lane_keeping.specs.Flights.{meant, Brings, IsInFlight}
use Rattle.lane_keeping.specs.Replaying.{delivered}
use Rattle.lane_keeping.proofs.Words.{inside-is}
use Rattle.lane_changes.specs.Deliveries.{NotedMessage, entries_named, storing, deed_of, deed_by, keeping}
use Rattle.lane_changes.specs.Changes.{changes_at, changes_of}
use Rattle.node_model.specs.Telling.{kept_of, deed_in, deed_replied, changes_taken}
use Rattle.lane_changes.proofs.Noted.{NotedAs, sent-noted}
use Rattle.lane_changes.proofs.Kept.{KeptAs, kept, AreStamped, inside-lie, inside-written, inside-stamps}

-- ---- maps of written entries with the same stamps are one

same-some : (wrote : Stamp → Option Entry) (a b : Option Entry) → stamp_of a ≡ stamp_of b → ((e : Entry) → a ≡ Some e → wrote e.stamp ≡ Some e) → ((e : Entry) → b ≡ Some e → wrote e.stamp ≡ Some e) → a ≡ b
same-some wrote None None h f g = refl
same-some wrote None (Some y) h f g = cc
same-some wrote (Some x) None h f g = cc
same-some wrote (Some x) (Some y) h f g =
    let stamps : x.stamp ≡ y.stamp = cc in
    sym (f x refl) ∙ ap wrote stamps ∙ g y refl

same-maps : (wrote : Stamp → Option Entry) (m other : Entries) → AreWritten wrote m → AreWritten wrote other → ((id : Id) → stamp_of (fin.get m id) ≡ stamp_of (fin.get other id)) → m ≡ other
same-maps wrote m other a b h =
    same_map nat_list_cmp_total (slice_cmp-IsAntisymmetric nat_cmp-IsAntisymmetric) m other
    (λ id. same-some wrote (fin.get m id) (fin.get other id) (h id) (λ e g. (a id e g).1) (λ e g. (b id e g).1))

make : (v u : ℕ) (rs qs : List Low) (m other : Entries) → v ≡ u → rs ≡ qs → m ≡ other → ◌≡◌ {A = Keeping} (record { version = v; regions = rs; entries = m }) (record { version = u; regions = qs; entries = other })
make v u rs qs m other a b c = λ i. record { version = a i; regions = b i; entries = c i }

pub keeping-is : AreStamped → (S : Setting) (J : List LaneEvent) → IsLegal S J → (n : ℕ) (x : Node) → NodeKeeps J n x → keeping n J ≡ kept_of x
keeping-is named S J l n x h =
    let k : KeptAs J n (keeping n J) = kept named S J l n in
    make (keeping n J).version x.version (keeping n J).regions x.regions (keeping n J).entries x.entries (k.version_is ∙ sym h.version_is) (k.regions_are ∙ sym h.regions_are)
    (same-maps (λ s. entry_at s J) (keeping n J).entries x.entries k.entries_are h.entries_are (λ id. k.stamps_are id ∙ sym (h.stamps_are id)))

-- ---- bodies

module _ (named : AreStamped) (S : Setting) (J : List LaneEvent) (l : IsLegal S J) where
  abbrev wrote : Stamp → Option Entry
  wrote s = entry_at s J

  same-apply : (b : Bucket) (ss : List Stamp) (es : Entries) → AreWritten wrote es → LieIn b es → ((id : Id) → pick J id ss ≡ stamp_of (fin.get es id)) → fin.retain_keys (entries_named J ss) (in_bucket b) ≡ es
  same-apply b ss es w i h = same-maps wrote (fin.retain_keys (entries_named J ss) (in_bucket b)) es (inside-written named S J l b ss) w (λ id. by_key id (contains b (key_of id)) refl)
    where
      none-of : (id : Id) (m : Entries) → LieIn b m → contains b (key_of id) ≡ false → (o : Option Entry) → fin.get m id ≡ o → stamp_of o ≡ None
      none-of id m lie e None g = refl
      none-of id m lie e (Some y) g = absurd (true≢false (sym (inside-is b id ∙ lie id y g) ∙ e))

      by_key : (id : Id) (t : Bool) → contains b (key_of id) ≡ t → stamp_of (fin.get (fin.retain_keys (entries_named J ss) (in_bucket b)) id) ≡ stamp_of (fin.get es id)
      by_key id true e = inside-stamps named S J l b ss id e ∙ h id
      by_key id false e = none-of id (fin.retain_keys (entries_named J ss) (in_bucket b)) (inside-lie named S J l b ss) e (fin.get (fin.retain_keys (entries_named J ss) (in_bucket b)) id) refl
          ∙ sym (none-of id es i e (fin.get es id) refl)

  apply-parts : (b c : Bucket) (u v : plain.Content) → ◌≡◌ {A = plain.Body} (plain.Apply b u) (plain.Apply c v) → (b ≡ c) × (u ≡ v)
  apply-parts b c u v e = (cc, cc)

  store-stamp : (i j : Id) (s t : Stamp) → ◌≡◌ {A = plain.Body} (plain.Store i s) (plain.Store j t) → s ≡ t
  store-stamp i j s t e = cc

  delete-bucket : (b c : Bucket) (s t : ℕ) → ◌≡◌ {A = plain.Body} (plain.Delete b s) (plain.Delete c t) → b ≡ c
  delete-bucket b c s t e = cc

  activate-bucket : (b c : Bucket) → ◌≡◌ {A = plain.Body} (plain.Activate b) (plain.Activate c) → b ≡ c
  activate-bucket b c e = cc

  -- which bodies have a node do something
  abbrev act : plain.Body → ℕ
  act (plain.Store i s) = 1
  act (plain.Apply b u) = 2
  act (plain.Delete b s) = 3
  act (plain.Activate b) = 4
  act _ = 0

  abbrev act_in : Body → ℕ
  act_in (body.Store e) = 1
  act_in (body.Apply b es) = 2
  act_in (body.Delete b s) = 3
  act_in (body.Activate b) = 4
  act_in _ = 0

  act-meant : (y : Body) → act (meant y) ≡ act_in y
  act-meant (body.Store e) = refl
  act-meant (body.Apply b es) = refl
  act-meant (body.Delete b s) = refl
  act-meant (body.Activate b) = refl
  act-meant body.Ask = refl
  act-meant (body.Read b None) = refl
  act-meant (body.Read b (Some id)) = refl
  act-meant (body.Split b) = refl
  act-meant (body.Join b) = refl
  act-meant (body.Ready b) = refl

  same-act : (x : plain.Body) (y : Body) → x ≡ meant y → act x ≡ act_in y
  same-act x y h = ap act h ∙ act-meant y

  looks-same : (y : Body) → 0 ≡ act_in y → Looks ≡ deed_in y
  looks-same (body.Store e) h = absurd (omega (arith, h))
  looks-same (body.Apply b es) h = absurd (omega (arith, h))
  looks-same (body.Delete b s) h = absurd (omega (arith, h))
  looks-same (body.Activate b) h = absurd (omega (arith, h))
  looks-same _ h = refl

  stores-same : (s : Stamp) (y : Body) → meaning_body J (Store s) ≡ meant y → 1 ≡ act_in y → Brings wrote y → storing (entry_at s J) ≡ deed_in y
  stores-same s (body.Store e) h a b = ap (λ (t : Stamp). storing (entry_at t J)) (store-stamp (id_at (id_in (entry_at s J))) e.id s e.stamp h) ∙ ap storing b
  stores-same s _ h a b = absurd (omega (arith, a))

  unites-same : (c : Bucket) (ss : List Stamp) (y : Body) → meaning_body J (Apply c ss) ≡ meant y → 2 ≡ act_in y → Brings wrote y → IsInside y → Unites (fin.retain_keys (entries_named J ss) (in_bucket c)) ≡ deed_in y
  unites-same c ss (body.Apply d es) h a b i =
      let parts = apply-parts c d (content J ss) (λ id. stamp_of (fin.get es id)) h in
      ap Unites (ap (λ (z : Bucket). fin.retain_keys (entries_named J ss) (in_bucket z)) parts.0 ∙ same-apply d ss es b i (λ id. ap (λ (u : plain.Content). u id) parts.1))
  unites-same c ss _ h a b i = absurd (omega (arith, a))

  drops-same : (c : Bucket) (s : ℕ) (y : Body) → plain.Delete c s ≡ meant y → 3 ≡ act_in y → Drops c ≡ deed_in y
  drops-same c s (body.Delete d t) h a = ap Drops (delete-bucket c d s t h)
  drops-same c s _ h a = absurd (omega (arith, a))

  activates-same : (c : Bucket) (y : Body) → plain.Activate c ≡ meant y → 4 ≡ act_in y → Activates c ≡ deed_in y
  activates-same c (body.Activate d) h a = ap Activates (activate-bucket c d h)
  activates-same c _ h a = absurd (omega (arith, a))

  -- a noted body that means what a body does has the node do the same
  deed-same : (x : NotedBody) (y : Body) → meaning_body J x ≡ meant y → Brings wrote y → IsInside y → deed_of J x ≡ deed_in y
  deed-same (Store s) y h b i = stores-same s y h (same-act (meaning_body J (Store s)) y h) b
  deed-same (Apply c ss) y h b i = unites-same c ss y h (same-act (meaning_body J (Apply c ss)) y h) b i
  deed-same (Delete c s) y h b i = drops-same c s y h (same-act (plain.Delete c s) y h)
  deed-same (Activate c) y h b i = activates-same c y h (same-act (plain.Activate c) y h)
  deed-same Ask y h b i = looks-same y (same-act plain.Ask y h)
  deed-same (Read c None) y h b i = looks-same y (same-act (plain.Read c) y h)
  deed-same (Read c (Some id)) y h b i = looks-same y (same-act (plain.ReadDoc id) y h)
  deed-same (Split c) y h b i = looks-same y (same-act (plain.Split c) y h)
  deed-same (Join c) y h b i = looks-same y (same-act (plain.Join c) y h)
  deed-same (Ready c) y h b i = looks-same y (same-act (plain.Ready c) y h)

  replied-same : (x : NotedBody) (y : Body) (r : Reply) → deed_of J x ≡ deed_in y → deed_by J x (noted_reply r) ≡ deed_replied y r
  replied-same x y (reply.Answer ps es) h = h
  replied-same x y (reply.Newer v) h = refl
  replied-same x y reply.NoBucket h = refl
  replied-same x y reply.Differs h = refl
  replied-same x y reply.NoMemory h = refl

  pub told : (number : ℕ) (m : Message) (x : Node) (r : Reply) → IsInFlight J number m → NodeKeeps J m.receiver x → changes_of (delivered number r ∷ J) ≡ changes_of J ++ changes_taken x m r
  told number m x r f h =
      let a : NotedAs J number f.sending = sent-noted S J l number f.sending f.was_sent in
      let version : (a.noted).version ≡ m.version = sym a.version_is ∙ f.version_is in
      let receiver : (a.noted).receiver ≡ m.receiver = sym a.receiver_is ∙ f.receiver_is in
      let deed : deed_by J (a.noted).body (noted_reply r) ≡ deed_replied m.body r = replied-same (a.noted).body m.body r (deed-same (a.noted).body m.body (sym a.body_is ∙ f.body_is) f.brings (f.whole).inside) in
      ap (λ (cs : List LaneChange). changes_of J ++ cs)
      (ap (λ (o : Option NotedMessage). changes_at J (noted_reply r) o) a.found
      ∙ ap (λ (n : ℕ). at n (a.noted).version (keeping n J) (deed_by J (a.noted).body (noted_reply r))) receiver
      ∙ ap (λ (w : ℕ). at m.receiver w (keeping m.receiver J) (deed_by J (a.noted).body (noted_reply r))) version
      ∙ ap₂ (λ (k : Keeping) (d : NodeDeed). at m.receiver m.version k d) (keeping-is named S J l m.receiver x h) deed)
    where
      at : ℕ → ℕ → Keeping → NodeDeed → List LaneChange
      at n w k d = adoption n w k ++ changes_told n (adopt w k) d
