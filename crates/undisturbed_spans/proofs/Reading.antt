-- What a Read of a bucket shows in a quiet span.
use Rattle.std.proofs.Common.{◌≡◌, ◌≢◌, ◌==◌, ◌&&◌, ◌⊎◌, ◌++◌, ◌+◌, ℕ, Bool, true, false, not, cond, List, [], ◌∷◌, length, filter, Option, Some, None, is_some, inl, inr, refl, sym, ap, ap₂, ◌∙◌, subst, eqb, eqb-true, eq-eqb}
use Rattle.std.specs.List.{list_any}
use mathlib.Core.Bool.{true≢false}
use Rattle.std.specs.FinMap as fin
use Rattle.bucket_ids.specs.Buckets.{Low, has_key}
use Rattle.documents.specs.declared.entry.Entry.{Entry}
use Rattle.entry_maps.specs.EntryCodes.{Entries}
use Rattle.entry_maps.specs.Entries.{in_bucket}
use Rattle.entry_maps.specs.Stamps.{stamps_of}
use Rattle.pieces.specs.declared.piece.Piece.{Piece}
use Rattle.pieces.specs.Pieces.{does_meet, is_piece}
use Rattle.messages.specs.declared.body.Body.{Body}
use Rattle.messages.specs.declared.body.Body.TheVariants as body
use Rattle.messages.specs.declared.message.Message.{Message}
use Rattle.messages.specs.declared.reply.Reply.{Reply}
use Rattle.messages.specs.declared.reply.Reply.TheVariants as reply
use Rattle.messages.specs.declared.noted.NotedReply.{NotedReply}
use Rattle.messages.specs.Noting.{noted_body, noted_reply}
use Rattle.node_model.specs.Takes.{Treats}
use Rattle.node_model.specs.Nodes as lane
use Rattle.lane_journals.specs.Stamps.{Stamp}
use Rattle.lane_journals.specs.Buckets.{Bucket, Id, key_of}
use Rattle.lane_journals.specs.Events as plain
use Rattle.lane_journals.specs.Readers.{sent, first_reply, version}
use Rattle.lane_journals.specs.Meanings.{history, entry_at, names, content, meaning_body, meaning_reply}
use Rattle.lane_journals.specs.declared.event.LaneEvent.TheVariants.{Delivered, Returned}
use Rattle.lane_keeping.specs.NodeKeeping.{stamp_of, AreWritten}
use Rattle.lane_keeping.specs.Flights.{meant}
use Rattle.lane_keeping.specs.Replaying.{sending}
use Rattle.lane_keeping.proofs.Words.{key-is, names-is}
use Rattle.lane_keeping.proofs.Stamping.{content-is, shown_in}
use Rattle.upkeep_spans.specs.Spans.{later}
use Rattle.lane_keeping.specs.Spans.{IsTakenIn, GoBy, NodesGo}
use Rattle.pass_model.specs.Scripts.{came, tells, is_telling}
use Rattle.undisturbed_spans.specs.Undisturbed.{IsTakenOnce, IsTakenTwice}
use Rattle.undisturbed_spans.specs.Telling.{held_in, IsShownIn}
use Rattle.undisturbed_spans.proofs.Takings.{Nodes, Events, one-span, the, sent-now, still-current, versions-once, versions-twice, first-is, second-is, to, means, treats, elsewhere}

-- the body of a Read is known by what it means
read-is : (x : Body) (b : Low) → meant x ≡ plain.Read b → x ≡ body.Read b None
read-is (body.Read c None) b e = let same : c ≡ b = cc in ap (λ z. body.Read z None) same
read-is (body.Read c (Some id)) b e = cc
read-is body.Ask b e = cc
read-is (body.Store s) b e = cc
read-is (body.Apply c m) b e = cc
read-is (body.Delete c s) b e = cc
read-is (body.Split c) b e = cc
read-is (body.Join c) b e = cc
read-is (body.Ready c) b e = cc
read-is (body.Activate c) b e = cc

-- it changes nothing
reads : (b : Low) (y z : lane.Node) (r : Reply) → Treats y (body.Read b None) z r → z ≡ y
reads b y z (reply.Answer ps es) t = t.1.1.1
reads b y z (reply.Newer v) t = absurd t
reads b y z reply.NoBucket t = t.1
reads b y z reply.Differs t = t.1
reads b y z reply.NoMemory t = t.1

-- what it is answered, where memory serves
record Shows (b : Low) (y : lane.Node) (r : Reply) : Type 0 where
  pieces : List Piece
  entries : Entries
  is : r ≡ reply.Answer pieces entries
  pieces_are : pieces ≡ filter (does_meet b) y.pieces
  entries_are : entries ≡ fin.retain_keys y.entries (in_bucket b)

shows : (b : Low) (y z : lane.Node) (r : Reply) → Treats y (body.Read b None) z r → (r ≡ reply.NoMemory → ⊥) → Shows b y r
shows b y z (reply.Answer ps es) t fine = record { pieces = ps; entries = es; is = refl; pieces_are = t.1.0; entries_are = t.1.1.0 }
shows b y z (reply.Newer v) t fine = absurd t
shows b y z reply.NoBucket t fine = let e = t.0 in cc
shows b y z reply.Differs t fine = let e = t.0 in cc
shows b y z reply.NoMemory t fine = absurd (fine refl)

-- what is kept of written entries is written
kept-written : (wrote : Stamp → Option Entry) (b : Low) (m : Entries) → AreWritten wrote m → AreWritten wrote (fin.retain_keys m (in_bucket b))
kept-written wrote b m h id x g = by_test (in_bucket b id) (sym (shown_in b m id) ∙ g)
  where
    by_test : (t : Bool) → cond t (fin.get m id) None ≡ Some x → (x.id ≡ id) × (wrote x.stamp ≡ Some x)
    by_test true e = h id x e
    by_test false e = cc

held-is : (b : Low) (m : Entries) (id : Id) → stamp_of (fin.get (fin.retain_keys m (in_bucket b)) id) ≡ held_in b m id
held-is b m id = ap stamp_of (shown_in b m id) ∙ by_test (in_bucket b id) ∙ ap (λ k. cond (has_key b k) (stamp_of (fin.get m id)) None) (sym (key-is id))
  where
    by_test : (t : Bool) → stamp_of (cond t (fin.get m id) None) ≡ cond t (stamp_of (fin.get m id)) None
    by_test true = refl
    by_test false = refl

module _ (behind : (J N : Events) → later (length J) (N ++ J) ≡ N) (J : Events) (old now : Nodes) (k : ℕ) (m : Message) (b : Low) (body_is : m.body ≡ body.Read b None)
    (unsent : sent k (history J) ≡ None) (silent : first_reply k (history J) ≡ None) (current : version m.receiver (history J) ≡ m.version) where
  abbrev S : Events
  S = sending k m ∷ J

  now-sent : sent k (history (sending k m ∷ J)) ≡ Some (the J k m)
  now-sent = sent-now J k m unsent

  means-read : meaning_body J (noted_body m.body) ≡ plain.Read b
  means-read = ap (λ x. meaning_body J (noted_body x)) body_is

  -- it isn't counted
  untold : (n : ℕ) → tells n (sent k (history (sending k m ∷ J))) ≡ false
  untold n = ap (λ o. tells n o) now-sent ∙ ap (λ x. (m.receiver == n) && is_telling x) means-read ∙ none (m.receiver == n)
    where
      none : (t : Bool) → (t && false) ≡ false
      none true = refl
      none false = refl

  came-one : (q : NotedReply) (n : ℕ) → came n (history (Returned k ∷ Delivered k q ∷ sending k m ∷ J)) ≡ came n (history J)
  came-one q n = ap (λ t. cond (t && not (is_some (first_reply k (history J)))) (came n (history J) + 1) (came n (history J))) (untold n)

  came-two : (q u : NotedReply) (n : ℕ) → came n (history (Delivered k u ∷ Returned k ∷ Delivered k q ∷ sending k m ∷ J)) ≡ came n (history J)
  came-two q u n =
      ap (λ t. cond (t && not (is_some (first_reply k (history (Returned k ∷ Delivered k q ∷ sending k m ∷ J))))) (came n (history (Returned k ∷ Delivered k q ∷ sending k m ∷ J)) + 1) (came n (history (Returned k ∷ Delivered k q ∷ sending k m ∷ J)))) (untold n)
      ∙ came-one q n

  module _ (L : Events) (f g : Nodes) (q : NotedReply) (was : sent k (history L) ≡ Some (the J k m)) (knows : version m.receiver (history L) ≡ m.version) (t : IsTakenIn L f g k q) where
    abbrev x : Message
    x = t.message

    here : x.receiver ≡ m.receiver
    here = to J k m L f g q was knows t

    is-read : x.body ≡ body.Read b None
    is-read = read-is x.body b (means J k m L f g q was knows t ∙ means-read)

    treated : Treats (f x.receiver) (body.Read b None) (g x.receiver) t.reply
    treated = subst (λ y. Treats (f x.receiver) y (g x.receiver) t.reply) is-read (treats J k m L f g q was knows t)

    unmoved : (n : ℕ) → g n ≡ f n
    unmoved n = by_test (eqb n m.receiver) refl
      where
        by_test : (u : Bool) → eqb n m.receiver ≡ u → g n ≡ f n
        by_test true e = subst (λ i. g i ≡ f i) (here ∙ sym (eqb-true n m.receiver e)) (reads b (f x.receiver) (g x.receiver) t.reply treated)
        by_test false e = elsewhere J k m L f g q was knows t n (λ i. true≢false (sym (eq-eqb n m.receiver i) ∙ e))

    shown-by : (t.reply ≡ reply.NoMemory → ⊥) → Shows b (f m.receiver) t.reply
    shown-by fine = subst (λ n. Shows b (f n) t.reply) here (shows b (f x.receiver) (g x.receiver) t.reply treated fine)

    written : AreWritten (λ s. entry_at s L) (f m.receiver).entries
    written = subst (λ n. AreWritten (λ s. entry_at s L) (f n).entries) here (t.keeps).entries_are

  -- what the first reply is
  record Given (q : NotedReply) : Type 0 where
    content_is : plain.Content
    named : Bucket → ℕ → Bool
    is : meaning_reply S q ≡ plain.Answer content_is named
    held : (id : Id) → content_is id ≡ held_in b (old m.receiver).entries id
    names_are : (c : Bucket) (s : ℕ) → named c s ≡ list_any (is_piece c s) (filter (does_meet b) (old m.receiver).pieces)

  given-by : (q : NotedReply) (f g : Nodes) → ((n : ℕ) → f n ≡ old n) → IsTakenIn (sending k m ∷ J) f g k q → (meaning_reply S q ≡ plain.NoMemory → ⊥) → Given q
  given-by q f g still t fine =
      let w = shown-by S f g q now-sent current t (λ e. fine (ap (meaning_reply S) (t.noted_is ∙ ap noted_reply e))) in
      record {
        content_is = content S (stamps_of w.entries);
        named = names w.pieces;
        is = ap (meaning_reply S) (t.noted_is ∙ ap noted_reply w.is);
        held = λ id.
            ap (λ (es : Entries). content S (stamps_of es) id) w.entries_are
            ∙ content-is S (fin.retain_keys (f m.receiver).entries (in_bucket b)) (kept-written (λ s. entry_at s S) b (f m.receiver).entries (written S f g q now-sent current t)) id
            ∙ held-is b (f m.receiver).entries id
            ∙ ap (λ (y : lane.Node). held_in b y.entries id) (still m.receiver);
        names_are = λ c s. names-is w.pieces c s ∙ ap (list_any (is_piece c s)) (w.pieces_are ∙ ap (λ (y : lane.Node). filter (does_meet b) y.pieces) (still m.receiver));
      }

  pub read-once : (q : NotedReply) → NodesGo J old (Returned k ∷ Delivered k q ∷ sending k m ∷ J) now → (first_reply k (history (Returned k ∷ Delivered k q ∷ sending k m ∷ J)) ≡ Some plain.NoMemory → ⊥)
      → IsShownIn J (Returned k ∷ Delivered k q ∷ sending k m ∷ J) old now k m b
  read-once q go fine =
      let w : GoBy (Returned k ∷ Delivered k q ∷ sending k m ∷ []) J old now = subst (λ (N : Events). GoBy N J old now) (one-span behind J (Returned k ∷ Delivered k q ∷ sending k m ∷ J) go.span (Returned k ∷ Delivered k q ∷ sending k m ∷ []) go.grows refl) go.went in
      let v = given-by q w.0 now w.1 w.2 (λ e. fine (first-is J k m silent q ∙ ap (λ z. Some z) e)) in
      record {
        nodes = λ n. unmoved S w.0 now q now-sent current w.2 n ∙ w.1 n;
        came_as = came-one q;
        versions = versions-once J k m unsent current q;
        content = v.content_is;
        named = v.named;
        replied = first-is J k m silent q ∙ ap (λ z. Some z) v.is;
        held = v.held;
        names = v.names_are;
      }

  pub read-twice : (q u : NotedReply) → NodesGo J old (Delivered k u ∷ Returned k ∷ Delivered k q ∷ sending k m ∷ J) now → (first_reply k (history (Delivered k u ∷ Returned k ∷ Delivered k q ∷ sending k m ∷ J)) ≡ Some plain.NoMemory → ⊥)
      → IsShownIn J (Delivered k u ∷ Returned k ∷ Delivered k q ∷ sending k m ∷ J) old now k m b
  read-twice q u go fine =
      let w : GoBy (Delivered k u ∷ Returned k ∷ Delivered k q ∷ sending k m ∷ []) J old now =
      subst (λ (N : Events). GoBy N J old now) (one-span behind J (Delivered k u ∷ Returned k ∷ Delivered k q ∷ sending k m ∷ J) go.span (Delivered k u ∷ Returned k ∷ Delivered k q ∷ sending k m ∷ []) go.grows refl) go.went in
      let v = given-by q w.1.0 w.0 w.1.1 w.1.2 (λ e. fine (second-is J k m silent q u ∙ ap (λ z. Some z) e)) in
      record {
        nodes = λ n. unmoved (Returned k ∷ Delivered k q ∷ sending k m ∷ J) w.0 now u now-sent (still-current J k m unsent q current) w.2 n ∙ unmoved S w.1.0 w.0 q now-sent current w.1.2 n ∙ w.1.1 n;
        came_as = came-two q u;
        versions = versions-twice J k m unsent current q u;
        content = v.content_is;
        named = v.named;
        replied = second-is J k m silent q u ∙ ap (λ z. Some z) v.is;
        held = v.held;
        names = v.names_are;
      }

pub read : ((J N : Events) → later (length J) (N ++ J) ≡ N) → (J K : Events) (old now : Nodes) (k : ℕ) (m : Message) (b : Low) → m.body ≡ body.Read b None
    → sent k (history J) ≡ None → first_reply k (history J) ≡ None → version m.receiver (history J) ≡ m.version
    → IsTakenOnce k (sending k m ∷ J) K ⊎ IsTakenTwice k (sending k m ∷ J) K → NodesGo J old K now → (first_reply k (history K) ≡ Some plain.NoMemory → ⊥) → IsShownIn J K old now k m b
read behind J K old now k m b body_is unsent silent current takings go fine = elim takings [
  | inl o ↦ subst (λ (E : Events). IsShownIn J E old now k m b) (sym o.1)
      (read-once behind J old now k m b body_is unsent silent current o.0 (subst (λ (E : Events). NodesGo J old E now) o.1 go) (subst (λ (E : Events). first_reply k (history E) ≡ Some plain.NoMemory → ⊥) o.1 fine))
  | inr o ↦ subst (λ (E : Events). IsShownIn J E old now k m b) (sym o.2)
      (read-twice behind J old now k m b body_is unsent silent current o.0 o.1 (subst (λ (E : Events). NodesGo J old E now) o.2 go) (subst (λ (E : Events). first_reply k (history E) ≡ Some plain.NoMemory → ⊥) o.2 fine))
]
