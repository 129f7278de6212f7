-- A node is what the journal says, after an event.
use Rattle.std.proofs.Common.{◌≡◌, ◌≢◌, ◌&&◌, ℕ, ◌+◌, ◌<◌, ◌≤◌, max, nat_lt, Bool, true, false, cond, List, [], ◌∷◌, map, refl, sym, ap, ap₂, ◌∙◌, subst, arith, None, Some, eqb, eq-eqb, eqb-true}
use mathlib.Core.Bool.{true≢false}
use Rattle.std.proofs.lemmas.Bool.Decides.{nat_tests}
use Rattle.std.specs.List.{list_any}
use Rattle.std.specs.FinMap as fin
use Rattle.std.specs.FinMap.{get-empty}
use Rattle.documents.specs.EntryCodes.{id_cmp}
use Rattle.pieces.specs.declared.piece.Piece.{Piece}
use Rattle.pieces.specs.Pieces.{is_piece, does_meet}
use Rattle.pieces.specs.Holdings.{AreUpTo}
use Rattle.pieces.specs.Runs.{IsLaid, AreRuns}
use Rattle.pieces.specs.Told.{Accepted}
use Rattle.messages.specs.declared.body.Body.{Body}
use Rattle.messages.specs.declared.body.Body.TheVariants as body
use Rattle.messages.specs.declared.noted.NotedReply.{NotedReply}
use Rattle.messages.specs.declared.noted.NotedReply.TheVariants as noted
use Rattle.replica_store.specs.Replicas.{Replica, IsReplica}
use Rattle.node_model.specs.Nodes.{Node, new_node, adopt, after_body, stored}
use Rattle.node_model.specs.Takes.{told, shown_pieces, IsInside}
use Rattle.lane_journals.specs.Stamps.{Stamp}
use Rattle.lane_journals.specs.Buckets.{Bucket, Id}
use Rattle.lane_journals.specs.Events as plain
use Rattle.lane_journals.specs.Readers as readers
use Rattle.lane_journals.specs.Readers.{Journal, Message, sent, raised, version, store, still, acceptable, was_named, untouched, stands, is_read}
use Rattle.lane_journals.specs.Pieces.{pieces, pieces_after}
use Rattle.lane_journals.specs.Meanings.{entry_at, names, meaning_reply, content, history}
use Rattle.lane_journals.specs.declared.event.LaneEvent.{LaneEvent}
use Rattle.lane_journals.specs.declared.event.LaneEvent.TheVariants.{Wrote, Delivered}
use Rattle.lane_journals.proofs.Basics.{or_else-some}
use Rattle.lane_keeping.specs.NodeKeeping.{adopted_regions, activated_regions, regions, read_by, was_read, accepts, stamp_of, AreWritten, shape, SerialsAre, NodeKeeps}
use Rattle.lane_keeping.specs.Flights.{meant, Brings, NamesBucket}
use Rattle.lane_keeping.specs.Replaying.{IsNoDelivery}
use Rattle.lane_keeping.proofs.Words.{names-is}
use Rattle.lane_keeping.proofs.Lists.{any-filtered}
use Rattle.lane_keeping.proofs.Bodies.{entries_by, pieces_by, by-version, by-entries, by-pieces, by-regions, by-serial, by-one, adopt-entries, adopt-pieces, adopt-serial, adopt-regions, adopt-version}
use Rattle.lane_keeping.proofs.Shapes.{after-alike, shapes-after}
use Rattle.lane_keeping.proofs.Standing.{touches, still-is, untouched-is, read_by-is, there-low, gone, kept}
use Rattle.lane_keeping.proofs.Stamping.{stamps-after, written-after}

-- ---- what is no delivery

pub begins : (n : ℕ) → NodeKeeps [] n new_node
begins n = record {
  version_is = refl;
  stamps_are = λ id. ap stamp_of (get-empty id_cmp id);
  entries_are = λ id e g. let none = sym (get-empty id_cmp id) ∙ g in cc;
  pieces_are = λ test. refl;
  regions_are = refl;
  serials = record { low = λ b s e. absurd (true≢false (sym e)); there = λ b s e. absurd (true≢false (sym e)) };
  read_serials = record { low = λ b s e. absurd (true≢false (sym e)); there = λ b s e. absurd (true≢false (sym e)) };
  few = omega arith;
  valid = record { holding = record { laid = tt; up_to = tt }; held = λ id e g. let none = sym (get-empty id_cmp id) ∙ g in cc };
}

pub waits : (J : List LaneEvent) (e : LaneEvent) (n : ℕ) (x : Node) → IsNoDelivery e → NodeKeeps J n x → NodeKeeps (e ∷ J) n x
waits J (Delivered k r) n x i h = absurd i
waits J (Wrote l entry) n x i h = record {
  version_is = h.version_is;
  stamps_are = h.stamps_are;
  entries_are = λ id e g. let w = h.entries_are id e g in (w.0, or_else-some (entry_at e.stamp J) _ e w.1);
  pieces_are = h.pieces_are;
  regions_are = h.regions_are;
  serials = h.serials;
  read_serials = h.read_serials;
  few = h.few;
  valid = h.valid;
}
waits J _ n x i h = h

-- ---- a delivery that changes nothing at the node but its version

record Unmoved (J K : Journal) (n : ℕ) : Type 0 where
  stores : (id : Id) → store n id K ≡ store n id J
  shapes : pieces n K ≡ pieces n J
  named : (b : Bucket) (s : ℕ) → was_named n b s K ≡ was_named n b s J
  standing : (b : Bucket) (s : ℕ) → stands n b s K ≡ stands n b s J
  shown : (b : Bucket) (s : ℕ) → was_read n b s K ≡ was_read n b s J
  open_to : (b : Bucket) (s : ℕ) → acceptable n b s K ≡ acceptable n b s J
  many : accepts n K ≡ accepts n J

stored_is : (x y : Node) → y.entries ≡ x.entries → y.pieces ≡ x.pieces → y.serial ≡ x.serial → stored x ≡ stored y
stored_is x y e p s = let is : ◌≡◌ {A = Replica} (stored y) (stored x) = λ i. record { entries = e i; pieces = p i; serial = s i } in sym is

moved : (was stand wast standt : Bucket → ℕ → Bool) (ps qs : List Piece) (last top : ℕ) → SerialsAre was stand ps last → ((b : Bucket) (s : ℕ) → wast b s ≡ was b s) → ((b : Bucket) (s : ℕ) → standt b s ≡ stand b s) → qs ≡ ps → top ≡ last
    → SerialsAre wast standt qs top
moved was stand wast standt ps qs last top h w t p l = record {
  low = λ b s e. subst (λ x. s ≤ x) (sym l) (h.low b s (sym (w b s) ∙ e));
  there = λ b s e. ap (list_any (is_piece b s)) p ∙ h.there b s (sym (w b s) ∙ e) ∙ sym (t b s);
}

keeps-unmoved : (J : List LaneEvent) (k : ℕ) (r : NotedReply) (n : ℕ) (x y : Node) → NodeKeeps J n x → Unmoved (history J) (history (Delivered k r ∷ J)) n
    → y.version ≡ version n (history (Delivered k r ∷ J)) → y.regions ≡ regions n (history (Delivered k r ∷ J)) → y.entries ≡ x.entries → y.pieces ≡ x.pieces → y.serial ≡ x.serial
    → NodeKeeps (Delivered k r ∷ J) n y
keeps-unmoved J k r n x y h u v g e p l = record {
  version_is = v;
  stamps_are = λ id. ap (λ es. stamp_of (fin.get es id)) e ∙ h.stamps_are id ∙ sym (u.stores id);
  entries_are = subst (AreWritten (λ s. entry_at s J)) (sym e) h.entries_are;
  pieces_are = λ test. ap (λ ps. list_any test (map shape ps)) p ∙ h.pieces_are test ∙ ap (list_any test) (sym u.shapes);
  regions_are = g;
  serials = moved _ _ _ _ x.pieces y.pieces x.serial y.serial h.serials u.named u.standing p l;
  read_serials = moved _ _ _ _ x.pieces y.pieces x.serial y.serial h.read_serials u.shown u.open_to p l;
  few = subst (λ t. t ≤ accepts n (history (Delivered k r ∷ J))) (sym l) (subst (λ t. x.serial ≤ t) (sym u.many) h.few);
  valid = subst IsReplica (stored_is x y e p l) h.valid;
}

-- ---- at another node

module _ (H : Journal) (k n : ℕ) (m : Message) (was_sent : sent k H ≡ Some m) (other : eqb m.receiver n ≡ false) where
  apart-unmoved : (r : plain.Reply) → Unmoved H (plain.Delivered k r ∷ H) n
  apart-unmoved (plain.Answer x t) = record { stores = λ id. rw (was_sent, other) refl; shapes = rw (was_sent, other) refl; named = λ b s. rw (was_sent, other) refl; standing = λ b s. rw (was_sent, other) refl; shown = λ b s. rw (was_sent, other) refl; open_to = λ b s. rw (was_sent, other) refl; many = rw (was_sent, other) refl }
  apart-unmoved (plain.Newer w) = record { stores = λ id. refl; shapes = refl; named = λ b s. refl; standing = λ b s. refl; shown = λ b s. refl; open_to = λ b s. refl; many = refl }
  apart-unmoved plain.NoBucket = record { stores = λ id. refl; shapes = refl; named = λ b s. refl; standing = λ b s. refl; shown = λ b s. refl; open_to = λ b s. refl; many = refl }
  apart-unmoved plain.Differs = record { stores = λ id. refl; shapes = refl; named = λ b s. refl; standing = λ b s. refl; shown = λ b s. refl; open_to = λ b s. refl; many = refl }
  apart-unmoved plain.NoMemory = record { stores = λ id. refl; shapes = refl; named = λ b s. refl; standing = λ b s. refl; shown = λ b s. refl; open_to = λ b s. refl; many = refl }

  apart-version : (r : plain.Reply) → version n (plain.Delivered k r ∷ H) ≡ version n H
  apart-version r = rw (was_sent, other) refl

  apart-regions : (r : plain.Reply) → regions n (plain.Delivered k r ∷ H) ≡ regions n H
  apart-regions (plain.Answer x t) = rw (was_sent, other) refl
  apart-regions (plain.Newer w) = rw (was_sent, other) refl
  apart-regions plain.NoBucket = rw (was_sent, other) refl
  apart-regions plain.Differs = rw (was_sent, other) refl
  apart-regions plain.NoMemory = rw (was_sent, other) refl

pub apart : (J : List LaneEvent) (k : ℕ) (r : NotedReply) (m : Message) (n : ℕ) (x : Node) → sent k (history J) ≡ Some m → m.receiver ≢ n → NodeKeeps J n x → NodeKeeps (Delivered k r ∷ J) n x
apart J k r m n x was_sent ne h =
    let other : eqb m.receiver n ≡ false = by_test (eqb m.receiver n) refl in
    keeps-unmoved J k r n x x h (apart-unmoved (history J) k n m was_sent other (meaning_reply J r))
    (h.version_is ∙ sym (apart-version (history J) k n m was_sent other (meaning_reply J r))) (h.regions_are ∙ sym (apart-regions (history J) k n m was_sent other (meaning_reply J r))) refl refl refl
  where
    by_test : (t : Bool) → eqb m.receiver n ≡ t → t ≡ false
    by_test true e = absurd (ne (eqb-true _ _ e))
    by_test false e = refl

-- ---- at the receiver, where it isn't accepted

abbrev pub IsRefusal : NotedReply → Type 0
IsRefusal (noted.Answer ps ss) = ⊥
IsRefusal _ = Unit {0}

refused-unmoved : (J : List LaneEvent) (k n : ℕ) (r : NotedReply) → IsRefusal r → Unmoved (history J) (history (Delivered k r ∷ J)) n
refused-unmoved J k n (noted.Answer ps ss) i = absurd i
refused-unmoved J k n (noted.Newer w) i = record { stores = λ id. refl; shapes = refl; named = λ b s. refl; standing = λ b s. refl; shown = λ b s. refl; open_to = λ b s. refl; many = refl }
refused-unmoved J k n noted.NoBucket i = record { stores = λ id. refl; shapes = refl; named = λ b s. refl; standing = λ b s. refl; shown = λ b s. refl; open_to = λ b s. refl; many = refl }
refused-unmoved J k n noted.Differs i = record { stores = λ id. refl; shapes = refl; named = λ b s. refl; standing = λ b s. refl; shown = λ b s. refl; open_to = λ b s. refl; many = refl }
refused-unmoved J k n noted.NoMemory i = record { stores = λ id. refl; shapes = refl; named = λ b s. refl; standing = λ b s. refl; shown = λ b s. refl; open_to = λ b s. refl; many = refl }

-- what readers read of the receiver
module _ (H : Journal) (k : ℕ) (m : Message) (was_sent : sent k H ≡ Some m) where
  here : eqb m.receiver m.receiver ≡ true
  here = eq-eqb m.receiver m.receiver refl

  version-raised : (r : plain.Reply) → version m.receiver (plain.Delivered k r ∷ H) ≡ max m.version (version m.receiver H)
  version-raised r = rw (was_sent, here) refl

  regions-adopted : adopted_regions m.receiver (version m.receiver H) (sent k H) (regions m.receiver H) ≡ cond (nat_lt (version m.receiver H) m.version) [] (regions m.receiver H)
  regions-adopted = rw (was_sent, here) refl

  module _ (c : plain.Content) (nm : Bucket → ℕ → Bool) where
    abbrev given : plain.Event
    given = plain.Delivered k (plain.Answer c nm)

    own-store : (id : Id) → store m.receiver id (given ∷ H) ≡ readers.after_body id m.body (store m.receiver id H)
    own-store id = rw (was_sent, here) refl

    own-pieces : pieces m.receiver (given ∷ H) ≡ pieces_after m.body (pieces m.receiver H)
    own-pieces = rw (was_sent, here) refl

    own-regions : regions m.receiver (given ∷ H) ≡ activated_regions m.body (cond (nat_lt (version m.receiver H) m.version) [] (regions m.receiver H))
    own-regions = rw (was_sent, here) refl

    own-named : (b : Bucket) (s : ℕ) → was_named m.receiver b s (given ∷ H) ≡ cond (nm b s) true (was_named m.receiver b s H)
    own-named b s = rw (was_sent, here) refl

    own-stands : (b : Bucket) (s : ℕ) → stands m.receiver b s (given ∷ H) ≡ untouched m.body nm b s (stands m.receiver b s H)
    own-stands b s = rw (was_sent, here) refl

    own-read : (b : Bucket) (s : ℕ) → was_read m.receiver b s (given ∷ H) ≡ read_by m.body nm b s (was_read m.receiver b s H)
    own-read b s = rw (was_sent, here) refl

    own-many : accepts m.receiver (given ∷ H) ≡ accepts m.receiver H + 1
    own-many = rw (was_sent, here) refl

    own-open : (b : Bucket) (s : ℕ) → acceptable m.receiver b s (given ∷ H) ≡ still m.body nm b s (acceptable m.receiver b s H)
    own-open b s = rw (was_sent, here) refl

module _ (J : List LaneEvent) (k : ℕ) (m : Message) (was_sent : sent k (history J) ≡ Some m) where
  abbrev n : ℕ
  n = m.receiver

  version-here : (r : NotedReply) → version n (history (Delivered k r ∷ J)) ≡ max m.version (version n (history J))
  version-here r = version-raised (history J) k m was_sent (meaning_reply J r)

  regions-refused : (r : NotedReply) → IsRefusal r → regions n (history (Delivered k r ∷ J)) ≡ cond (nat_lt (version n (history J)) m.version) [] (regions n (history J))
  regions-refused (noted.Answer ps ss) i = absurd i
  regions-refused (noted.Newer w) i = regions-adopted (history J) k m was_sent
  regions-refused noted.NoBucket i = regions-adopted (history J) k m was_sent
  regions-refused noted.Differs i = regions-adopted (history J) k m was_sent
  regions-refused noted.NoMemory i = regions-adopted (history J) k m was_sent

  module _ (x : Node) (h : NodeKeeps J n x) where
    adopt-regions-here : (adopt m.version x).regions ≡ cond (nat_lt (version n (history J)) m.version) [] (regions n (history J))
    adopt-regions-here = adopt-regions m.version x ∙ ap₂ (λ v rs. cond (nat_lt v m.version) [] rs) h.version_is h.regions_are

    adopt-version-here : (r : NotedReply) → x.version ≤ m.version → (adopt m.version x).version ≡ version n (history (Delivered k r ∷ J))
    adopt-version-here r le = let low : version n (history J) ≤ m.version = subst (λ v. v ≤ m.version) h.version_is le in
        adopt-version m.version x le ∙ greater m.version (version n (history J)) low ∙ sym (version-here r)
      where
        greater : (a b : ℕ) → b ≤ a → a ≡ max a b
        greater a b h = omega arith

    pub refused : (r : NotedReply) → IsRefusal r → x.version ≤ m.version → NodeKeeps (Delivered k r ∷ J) n (adopt m.version x)
    refused r i le = keeps-unmoved J k r n x (adopt m.version x) h (refused-unmoved J k n r i) (adopt-version-here r le) (adopt-regions-here ∙ sym (regions-refused r i))
        (adopt-entries m.version x) (adopt-pieces m.version x) (adopt-serial m.version x)

    -- a message that is too old
    pub too_old : (w : ℕ) → m.version < x.version → NodeKeeps (Delivered k (noted.Newer w) ∷ J) n x
    too_old w less =
        let lt : m.version < version n (history J) = subst (λ v. m.version < v) h.version_is less in
        keeps-unmoved J k (noted.Newer w) n x x h (refused-unmoved J k n (noted.Newer w) tt) (h.version_is ∙ lesser m.version (version n (history J)) lt ∙ sym (version-here (noted.Newer w)))
        (h.regions_are ∙ sym (regions-refused (noted.Newer w) tt ∙ ap (λ t. cond t [] (regions n (history J))) (not_less (version n (history J)) m.version lt))) refl refl refl
      where
        lesser : (a b : ℕ) → a < b → b ≡ max a b
        lesser a b h = omega arith

        not_less : (a b : ℕ) → b < a → nat_lt a b ≡ false
        not_less a b h = grind (arith, nat_tests)

-- ---- at the receiver, where it is accepted

-- what an answer shows is there, and its body changes no piece
pub shown-there : (x : Body) (t : ℕ) (ps : List Piece) (b : Bucket) (s : ℕ) → list_any (is_piece b s) (shown_pieces x ps) ≡ true → (list_any (is_piece b s) ps ≡ true) × (pieces_by x t ps ≡ ps)
shown-there body.Ask t ps b s h = (h, refl)
shown-there (body.Read c None) t ps b s h = (any-filtered (is_piece b s) (does_meet c) ps h, refl)
shown-there (body.Read c (Some id)) t ps b s h = absurd (true≢false (sym h))
shown-there (body.Store e) t ps b s h = absurd (true≢false (sym h))
shown-there (body.Apply c es) t ps b s h = absurd (true≢false (sym h))
shown-there (body.Delete c y) t ps b s h = absurd (true≢false (sym h))
shown-there (body.Split c) t ps b s h = absurd (true≢false (sym h))
shown-there (body.Join c) t ps b s h = absurd (true≢false (sym h))
shown-there (body.Ready c) t ps b s h = absurd (true≢false (sym h))
shown-there (body.Activate c) t ps b s h = absurd (true≢false (sym h))

module _ (laws : AreRuns) (x : Body) (bucket : NamesBucket x) (ps : List Piece) (last : ℕ) (is_laid : IsLaid 0 ps) (up : AreUpTo last ps) (accepted : told x ps ≡ Accepted) where
  serials-after : (nm was stand wast standt : Bucket → ℕ → Bool) (top : ℕ) → last ≤ top → SerialsAre was stand ps last
      → ((b : Bucket) (s : ℕ) → nm b s ≡ true → list_any (is_piece b s) (shown_pieces x ps) ≡ true)
      → ((b : Bucket) (s : ℕ) → wast b s ≡ cond (nm b s) true (was b s))
      → ((b : Bucket) (s : ℕ) → standt b s ≡ cond (nm b s) true (cond (touches (meant x) b) false (stand b s)))
      → SerialsAre wast standt (pieces_by x (last + 1) ps) top
  serials-after nm was stand wast standt top grows h shows w t = record {
    low = λ b s e. low_by b s (nm b s) refl (sym (w b s) ∙ e);
    there = λ b s e. there_by b s (nm b s) refl (sym (w b s) ∙ e) ∙ sym (t b s);
  }
    where
      low_by : (b : Bucket) (s : ℕ) (y : Bool) → nm b s ≡ y → cond y true (was b s) ≡ true → s ≤ top
      low_by b s true f e = let le = there-low b s last ps up (shown-there x (last + 1) ps b s (shows b s f)).0 in omega (arith, grows, le)
      low_by b s false f e = let le = h.low b s e in omega (arith, grows, le)

      old_by : (b : Bucket) (s : ℕ) (z : Bool) → touches (meant x) b ≡ z → was b s ≡ true → list_any (is_piece b s) (pieces_by x (last + 1) ps) ≡ cond z false (stand b s)
      old_by b s true f e = gone laws last ps is_laid b s (h.low b s e) x bucket accepted f
      old_by b s false f e = kept laws last ps is_laid b s (h.low b s e) x bucket f ∙ h.there b s e

      there_by : (b : Bucket) (s : ℕ) (y : Bool) → nm b s ≡ y → cond y true (was b s) ≡ true → list_any (is_piece b s) (pieces_by x (last + 1) ps) ≡ cond (nm b s) true (cond (touches (meant x) b) false (stand b s))
      there_by b s true f e = let there = shown-there x (last + 1) ps b s (shows b s f) in
          ap (list_any (is_piece b s)) there.1 ∙ there.0 ∙ sym (ap (λ y. cond y true (cond (touches (meant x) b) false (stand b s))) f)
      there_by b s false f e = old_by b s (touches (meant x) b) refl e ∙ sym (ap (λ y. cond y true (cond (touches (meant x) b) false (stand b s))) f)

module _ (laws : AreRuns) (J : List LaneEvent) (k : ℕ) (m : Message) (was_sent : sent k (history J) ≡ Some m) (B : Body) (body_is : m.body ≡ meant B)
    (bucket : NamesBucket B) (inside : IsInside B) (brings : Brings (λ s. entry_at s J) B)
    (x : Node) (h : NodeKeeps J m.receiver x) (le : x.version ≤ m.version) (accepted : told B x.pieces ≡ Accepted) (ss : List Stamp) where
  abbrev at : ℕ
  at = m.receiver

  abbrev shows : List Piece
  shows = shown_pieces B x.pieces

  abbrev reply : NotedReply
  reply = noted.Answer shows ss

  abbrev H : Journal
  H = history J

  abbrev K : Journal
  K = history (Delivered k reply ∷ J)

  abbrev new : Node
  new = after_body B (adopt m.version x)

  new-entries : new.entries ≡ entries_by B x.entries
  new-entries = by-entries (adopt m.version x) B ∙ ap (entries_by B) (adopt-entries m.version x)

  new-pieces : new.pieces ≡ pieces_by B (x.serial + 1) x.pieces
  new-pieces = by-pieces (adopt m.version x) B ∙ ap₂ (λ t ps. pieces_by B (t + 1) ps) (adopt-serial m.version x) (adopt-pieces m.version x)

  new-serial : x.serial ≤ new.serial
  new-serial = subst (λ t. t ≤ new.serial) (adopt-serial m.version x) (by-serial (adopt m.version x) B)

  abbrev shown : plain.Content
  shown = content J ss

  store-own : (id : Id) → store at id K ≡ readers.after_body id (meant B) (store at id H)
  store-own id = own-store H k m was_sent shown (names shows) id ∙ ap (λ y. readers.after_body id y (store at id H)) body_is

  pieces-own : pieces at K ≡ pieces_after (meant B) (pieces at H)
  pieces-own = own-pieces H k m was_sent shown (names shows) ∙ ap (λ y. pieces_after y (pieces at H)) body_is

  regions-own : regions at K ≡ activated_regions (meant B) (cond (nat_lt (version at H) m.version) [] (regions at H))
  regions-own = own-regions H k m was_sent shown (names shows) ∙ ap (λ y. activated_regions y (cond (nat_lt (version at H) m.version) [] (regions at H))) body_is

  named-own : (b : Bucket) (s : ℕ) → was_named at b s K ≡ cond (names shows b s) true (was_named at b s H)
  named-own b s = own-named H k m was_sent shown (names shows) b s

  stands-own : (b : Bucket) (s : ℕ) → stands at b s K ≡ untouched (meant B) (names shows) b s (stands at b s H)
  stands-own b s = own-stands H k m was_sent shown (names shows) b s ∙ ap (λ y. untouched y (names shows) b s (stands at b s H)) body_is

  read-own : (b : Bucket) (s : ℕ) → was_read at b s K ≡ read_by (meant B) (names shows) b s (was_read at b s H)
  read-own b s = own-read H k m was_sent shown (names shows) b s ∙ ap (λ y. read_by y (names shows) b s (was_read at b s H)) body_is

  open-own : (b : Bucket) (s : ℕ) → acceptable at b s K ≡ still (meant B) (names shows) b s (acceptable at b s H)
  open-own b s = own-open H k m was_sent shown (names shows) b s ∙ ap (λ y. still y (names shows) b s (acceptable at b s H)) body_is

  both_so : (a c : Bool) → (a && c) ≡ true → c ≡ true
  both_so true c e = e
  both_so false c e = absurd (true≢false (sym e))

  serials-new : SerialsAre (λ b s. was_named at b s K) (λ b s. stands at b s K) new.pieces new.serial
  serials-new = subst (λ ps. SerialsAre (λ b s. was_named at b s K) (λ b s. stands at b s K) ps new.serial) (sym new-pieces)
      (serials-after laws B bucket x.pieces x.serial ((h.valid).holding).laid ((h.valid).holding).up_to accepted (names shows) (λ b s. was_named at b s H) (λ b s. stands at b s H)
      (λ b s. was_named at b s K) (λ b s. stands at b s K) new.serial new-serial h.serials
      (λ b s e. sym (names-is shows b s) ∙ e) named-own (λ b s. stands-own b s ∙ untouched-is (meant B) (names shows) b s (stands at b s H)))

  read-serials-new : SerialsAre (λ b s. was_read at b s K) (λ b s. acceptable at b s K) new.pieces new.serial
  read-serials-new = subst (λ ps. SerialsAre (λ b s. was_read at b s K) (λ b s. acceptable at b s K) ps new.serial) (sym new-pieces)
      (serials-after laws B bucket x.pieces x.serial ((h.valid).holding).laid ((h.valid).holding).up_to accepted (λ b s. is_read (meant B) && names shows b s) (λ b s. was_read at b s H) (λ b s. acceptable at b s H)
      (λ b s. was_read at b s K) (λ b s. acceptable at b s K) new.serial new-serial h.read_serials
      (λ b s e. sym (names-is shows b s) ∙ both_so (is_read (meant B)) (names shows b s) e)
      (λ b s. read-own b s ∙ read_by-is (meant B) (names shows) b s (was_read at b s H)) (λ b s. open-own b s ∙ still-is (meant B) (names shows) b s (acceptable at b s H)))

  few-new : new.serial ≤ accepts at K
  few-new =
      let drawn : new.serial ≤ (adopt m.version x).serial + 1 = by-one (adopt m.version x) B in
      let was : (adopt m.version x).serial ≡ x.serial = adopt-serial m.version x in
      let many : accepts at K ≡ accepts at H + 1 = own-many H k m was_sent shown (names shows) in
      let few : x.serial ≤ accepts at H = h.few in
      omega (arith, drawn, was, many, few)

  pub answered : IsReplica (stored new) → NodeKeeps (Delivered k reply ∷ J) at new
  answered valid = record {
    version_is = by-version (adopt m.version x) B ∙ adopt-version-here J k m was_sent x h reply le;
    stamps_are = λ id. ap (λ es. stamp_of (fin.get es id)) new-entries ∙ stamps-after B x.entries id inside ∙ ap (readers.after_body id (meant B)) (h.stamps_are id) ∙ sym (store-own id);
    entries_are = subst (AreWritten (λ s. entry_at s J)) (sym new-entries) (written-after (λ s. entry_at s J) B x.entries brings h.entries_are);
    pieces_are = λ test. ap (λ ps. list_any test (map shape ps)) new-pieces
        ∙ shapes-after laws B bucket (x.serial + 1) x.pieces ((h.valid).holding).laid accepted test
        ∙ after-alike (map shape x.pieces) (pieces at H) h.pieces_are (meant B) test
        ∙ ap (list_any test) (sym pieces-own);
    regions_are = by-regions (adopt m.version x) B ∙ ap (activated_regions (meant B)) (adopt-regions-here J k m was_sent x h) ∙ sym regions-own;
    serials = serials-new;
    read_serials = read-serials-new;
    few = few-new;
    valid = valid;
  }
