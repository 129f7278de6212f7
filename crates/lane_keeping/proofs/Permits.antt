-- What a node replies may come next in the journal.
use Rattle.std.proofs.Common.{◌≡◌, ◌&&◌, inl, not, ℕ, ◌≤◌, Bool, true, false, cond, List, [], ◌∷◌, refl, sym, ap, ◌∙◌, subst, Option, None, Some}
use Rattle.std.specs.List.{list_any}
use Rattle.std.specs.Ordering.{eq_by_cmp}
use Rattle.std.specs.Cmp.Lexicographic.{nat_list_cmp_total}
use Rattle.std.specs.FinMap as fin
use Rattle.std.specs.FinMap.{get-insert, get-empty}
use Rattle.global_ids.specs.Keys as keys
use Rattle.bucket_ids.specs.Buckets as ids
use Rattle.documents.specs.declared.entry.Entry.{Entry}
use Rattle.documents.specs.EntryCodes.{id_cmp}
use Rattle.entry_maps.specs.EntryCodes.{Entries}
use Rattle.entry_maps.specs.Entries.{in_bucket}
use Rattle.entry_maps.specs.Stamps.{stamps_of}
use Rattle.entry_maps.proofs.StampLaws.{stamps_of-rising}
use Rattle.pieces.specs.declared.piece.Piece.{Piece}
use Rattle.pieces.specs.Pieces as laid
use Rattle.pieces.specs.Pieces.{is_piece, is_over, is_inside, is_exactly, does_meet, has_key_of}
use Rattle.pieces.specs.Runs.{AreRuns}
use Rattle.pieces.specs.Told.{Told, Accepted, NoBucket, Differs, where_some}
use Rattle.messages.specs.declared.body.Body.{Body}
use Rattle.messages.specs.declared.body.Body.TheVariants as body
use Rattle.node_model.specs.Nodes.{Node, only_entry}
use Rattle.node_model.specs.Takes.{told, shown_entries, shown_pieces}
use Rattle.lane_journals.specs.Stamps.{Stamp}
use Rattle.lane_journals.specs.Buckets as words
use Rattle.lane_journals.specs.Buckets.{Bucket, Id, key_of}
use Rattle.lane_journals.specs.Events as plain
use Rattle.lane_journals.specs.Readers.{Journal, Message, sent, version, store, acceptable, was_named, stands, holds, Given}
use Rattle.lane_journals.specs.Pieces.{NodePiece, any_covers, any_inside, any_meets, ready_covers, pieces, MayTake}
use Rattle.lane_journals.specs.Pieces as listed
use Rattle.lane_journals.specs.Legal.{Legal, MayShow, Lacks, Differ, Has, NotAcceptable, Replies}
use Rattle.lane_journals.specs.States.{state_of}
use Rattle.lane_journals.specs.Meanings.{entry_at, written, content, names, history}
use Rattle.lane_journals.specs.Naming.{Each, IsHeld, PiecesShown, EntriesShown, NamesShown}
use Rattle.lane_journals.specs.Places.{Setting}
use Rattle.lane_journals.specs.KeptJournals.{IsLegal}
use Rattle.lane_journals.specs.declared.event.LaneEvent.{LaneEvent}
use Rattle.lane_journals.proofs.Ids.{same_id-eq}
use Rattle.lane_journals.proofs.Pieces.{shaped}
use Rattle.lane_journals.proofs.Meant.{meant-legal}
use Rattle.lane_keeping.specs.NodeKeeping.{was_read, stamp_of, AreWritten, NodeKeeps}
use Rattle.lane_keeping.specs.Flights.{meant}
use Rattle.lane_keeping.proofs.Words.{contains-is, key-is, inside-is, same-is, covers-is, meets-is, meets-turned, names-is}
use Rattle.lane_keeping.proofs.Lists.{In, each-in}
use Rattle.lane_keeping.proofs.Standing.{accepted-some, there-exact, accepted-delete, accepted-ready, accepted-split, accepted-join}
use Rattle.lane_keeping.proofs.Shapes.{contains-any, covers-any, inside-any, meets-any, piece-any, shapes-any}
use Rattle.lane_keeping.proofs.Stamping.{id-tests, tied-ids, Named, named-of, named-written, content-is, shown_in}
use Rattle.lane_keeping.proofs.Members.{shows-all, shows-whole, is_wrong, ready_covers-by, mark-over, unmarked-over}
use Rattle.lane_keeping.proofs.Reading.{shown-read, delete-read}
use Rattle.lane_keeping.proofs.Replays.{shown-there}

-- ---- what a refusal tells

some-none : (t : Bool) → where_some t ≡ NoBucket → t ≡ false
some-none true e = cc
some-none false e = refl

met-none : (t u : Bool) → cond t Accepted (cond u Differs NoBucket) ≡ NoBucket → (t ≡ false) × (u ≡ false)
met-none true u e = cc
met-none false true e = cc
met-none false false e = (refl, refl)

met-differs : (t u : Bool) → cond t Accepted (cond u Differs NoBucket) ≡ Differs → (t ≡ false) × (u ≡ true)
met-differs true u e = cc
met-differs false true e = (refl, refl)
met-differs false false e = cc

some-differs : (t : Bool) → where_some t ≡ Differs → ⊥
some-differs true e = cc
some-differs false e = cc

-- ---- the entries that an answer shows

only-is : (o : Option Entry) (id : Id) (e : Entry) → fin.get (only_entry o) id ≡ Some e → (o ≡ Some e) × (id ≡ e.id)
only-is None id e g = let none = sym (get-empty id_cmp id) ∙ g in cc
only-is (Some x) id e g = by_test (eq_by_cmp id_cmp id x.id) refl (sym (get-insert nat_list_cmp_total (fin.empty {X = Entry} {R = id_cmp}) x.id x id) ∙ g)
  where
    same : ◌≡◌ {A = Option Entry} (Some x) (Some e) → x ≡ e
    same k = cc

    by_test : (t : Bool) → eq_by_cmp id_cmp id x.id ≡ t → cond t (Some x) (fin.get (fin.empty {X = Entry} {R = id_cmp}) id) ≡ Some e → (◌≡◌ {A = Option Entry} (Some x) (Some e)) × (id ≡ e.id)
    by_test true f k = (k, tied-ids id x.id f ∙ ap (λ (z : Entry). z.id) (same k))
    by_test false f k = let none = sym (get-empty id_cmp id) ∙ k in cc

-- what is shown is there
pub shown-sub : (x : Body) (wrote : Stamp → Option Entry) (m : Entries) → AreWritten wrote m → (id : Id) (e : Entry) → fin.get (shown_entries x m) id ≡ Some e → fin.get m id ≡ Some e
shown-sub (body.Read b None) wrote m w id e g = by_test (in_bucket b id) (sym (shown_in b m id) ∙ g)
  where
    by_test : (t : Bool) → cond t (fin.get m id) None ≡ Some e → fin.get m id ≡ Some e
    by_test true h = h
    by_test false h = cc
shown-sub (body.Read b (Some d)) wrote m w id e g =
    let o = only-is (fin.get m d) id e g in
    let own = w d e o.0 in
    ap (fin.get m) (o.1 ∙ own.0) ∙ o.0
shown-sub body.Ask wrote m w id e g = let none = sym (get-empty id_cmp id) ∙ g in cc
shown-sub (body.Store x) wrote m w id e g = let none = sym (get-empty id_cmp id) ∙ g in cc
shown-sub (body.Apply b es) wrote m w id e g = let none = sym (get-empty id_cmp id) ∙ g in cc
shown-sub (body.Delete b s) wrote m w id e g = let none = sym (get-empty id_cmp id) ∙ g in cc
shown-sub (body.Split b) wrote m w id e g = let none = sym (get-empty id_cmp id) ∙ g in cc
shown-sub (body.Join b) wrote m w id e g = let none = sym (get-empty id_cmp id) ∙ g in cc
shown-sub (body.Ready b) wrote m w id e g = let none = sym (get-empty id_cmp id) ∙ g in cc
shown-sub (body.Activate b) wrote m w id e g = let none = sym (get-empty id_cmp id) ∙ g in cc

none-in : (ss : List Stamp) → ((s : Stamp) → In s ss → ⊥) → ss ≡ []
none-in [] f = refl
none-in (s ∷ ss) f = absurd (f s (inl refl))

no-stamps : stamps_of fin.empty ≡ []
no-stamps = none-in (stamps_of fin.empty) (λ s i. gone (named-of fin.empty s i))
  where
    gone : {s : Stamp} → Named fin.empty s → ⊥
    gone n = let none = sym (get-empty id_cmp n.id) ∙ n.there in cc

module _ (laws : AreRuns) (S : Setting) (J : List LaneEvent) (legal : IsLegal S J) (x : Node) (n : ℕ) (h : NodeKeeps J n x) where
  abbrev H : Journal
  H = history J

  abbrev wrote : Stamp → Option Entry
  wrote s = entry_at s J

  abbrev P : ℕ → ℕ → Bool
  P = state_of H

  meant_so : Legal S.acks P H
  meant_so = meant-legal S J legal

  abbrev ps : List Piece
  ps = x.pieces

  abbrev qs : List NodePiece
  qs = pieces n H

  -- ---- pieces

  pub holds-key : (key : ℕ) → holds n key H ≡ laid.holds key ps
  holds-key key =
      (shaped S.acks P H meant_so n).over key ∙ contains-any key qs ∙ sym (h.pieces_are (λ q. words.contains q.bucket key))
      ∙ shapes-any (λ q. words.contains q.bucket key) (has_key_of key) (λ p. contains-is p.bucket key) ps

  holds-is : (id : Id) → holds n (key_of id) H ≡ laid.holds (keys.key_of id) ps
  holds-is id = holds-key (key_of id) ∙ ap (λ k. laid.holds k ps) (key-is id)

  covers-at : (b : Bucket) → any_covers b qs ≡ list_any (is_over b) ps
  covers-at b = covers-any b qs ∙ sym (h.pieces_are (λ q. words.covers q.bucket b)) ∙ shapes-any (λ q. words.covers q.bucket b) (is_over b) (λ p. covers-is p.bucket b) ps

  inside-at : (b : Bucket) → any_inside b qs ≡ list_any (is_inside b) ps
  inside-at b = inside-any b qs ∙ sym (h.pieces_are (λ q. words.covers b q.bucket)) ∙ shapes-any (λ q. words.covers b q.bucket) (is_inside b) (λ p. covers-is b p.bucket) ps

  meets-at : (b : Bucket) → any_meets b qs ≡ list_any (does_meet b) ps
  meets-at b = meets-any b qs ∙ sym (h.pieces_are (λ q. words.meets q.bucket b)) ∙ shapes-any (λ q. words.meets q.bucket b) (does_meet b) (λ p. meets-is p.bucket b) ps

  exact-at : (b : Bucket) → listed.is_piece b qs ≡ list_any (is_exactly b) ps
  exact-at b = piece-any b qs ∙ sym (h.pieces_are (λ q. words.same_bucket q.bucket b)) ∙ shapes-any (λ q. words.same_bucket q.bucket b) (is_exactly b) (λ p. same-is p.bucket b) ps

  ready-at : (b : Bucket) (r : Bool) → (list_any (is_over b) ps ≡ true) × (list_any (λ q. ids.covers q.bucket b && is_wrong r q.ready) ps ≡ false) → ready_covers b qs ≡ r
  ready-at b r o = ready_covers-by b r qs (covers-at b ∙ o.0)
      (sym (h.pieces_are (λ q. words.covers q.bucket b && is_wrong r q.ready))
      ∙ shapes-any (λ q. words.covers q.bucket b && is_wrong r q.ready) (λ q. ids.covers q.bucket b && is_wrong r q.ready) (λ p. ap (λ t. t && is_wrong r p.ready) (covers-is p.bucket b)) ps ∙ o.1)

  -- ---- refusals

  lacks : (B : Body) → told B ps ≡ NoBucket → Lacks H n (meant B)
  lacks body.Ask e = cc
  lacks (body.Read b None) e = cc
  lacks (body.Read b (Some id)) e = holds-is id ∙ some-none (laid.holds (keys.key_of id) ps) e
  lacks (body.Store y) e = holds-is y.id ∙ some-none (laid.holds (keys.key_of y.id) ps) e
  lacks (body.Apply b es) e = cc
  lacks (body.Delete b s) e = meets-at b ∙ (met-none (list_any (is_piece b s) ps) (list_any (does_meet b) ps) e).1
  lacks (body.Split b) e = covers-at b ∙ some-none (list_any (is_over b) ps) e
  lacks (body.Join b) e = inside-at b ∙ some-none (list_any (is_inside b) ps) e
  lacks (body.Ready b) e = meets-at b ∙ (met-none (list_any (is_exactly b) ps) (list_any (does_meet b) ps) e).1
  lacks (body.Activate b) e = covers-at b ∙ unmarked-over b ps e

  differ : (B : Body) → told B ps ≡ Differs → Differ H n (meant B)
  differ body.Ask e = cc
  differ (body.Read b None) e = cc
  differ (body.Read b (Some id)) e = absurd (some-differs (laid.holds (keys.key_of id) ps) e)
  differ (body.Store y) e = absurd (some-differs (laid.holds (keys.key_of y.id) ps) e)
  differ (body.Apply b es) e = cc
  differ (body.Delete b s) e = meets-at b ∙ (met-differs (list_any (is_piece b s) ps) (list_any (does_meet b) ps) e).1
  differ (body.Split b) e = absurd (some-differs (list_any (is_over b) ps) e)
  differ (body.Join b) e = absurd (some-differs (list_any (is_inside b) ps) e)
  differ (body.Ready b) e = let d = met-differs (list_any (is_exactly b) ps) (list_any (does_meet b) ps) e in (meets-at b ∙ d.1, exact-at b ∙ d.0)
  differ (body.Activate b) e = let o = mark-over laws b false 0 ps ((h.valid).holding).laid e in (covers-at b ∙ o.0, ready-at b false o)

  -- ---- answers

  has : (B : Body) → told B ps ≡ Accepted → Has H n (meant B)
  has (body.Read b (Some id)) e = holds-is id ∙ accepted-some (laid.holds (keys.key_of id) ps) e
  has (body.Store y) e = holds-is y.id ∙ accepted-some (laid.holds (keys.key_of y.id) ps) e
  has body.Ask e = tt
  has (body.Read b None) e = tt
  has (body.Apply b es) e = tt
  has (body.Delete b s) e = tt
  has (body.Split b) e = tt
  has (body.Join b) e = tt
  has (body.Ready b) e = tt
  has (body.Activate b) e = tt

  takes : (B : Body) → told B ps ≡ Accepted → MayTake qs (meant B)
  takes (body.Delete b s) e = exact-at b ∙ there-exact b s ps (accepted-delete b s ps e)
  takes (body.Split b) e = covers-at b ∙ accepted-split b ps e
  takes (body.Join b) e = inside-at b ∙ accepted-join b ps e
  takes (body.Ready b) e = exact-at b ∙ accepted-ready b ps e
  takes (body.Activate b) e = ready-at b true (mark-over laws b true 0 ps ((h.valid).holding).laid e)
  takes body.Ask e = tt
  takes (body.Read b None) e = tt
  takes (body.Read b (Some id)) e = tt
  takes (body.Store y) e = tt
  takes (body.Apply b es) e = tt

  written-shown : (B : Body) → AreWritten wrote (shown_entries B x.entries)
  written-shown B id e g = h.entries_are id e (shown-sub B wrote x.entries h.entries_are id e g)

  named-there : (B : Body) (c : Bucket) (s : ℕ) → names (shown_pieces B ps) c s ≡ true → list_any (is_piece c s) ps ≡ true
  named-there B c s e = (shown-there B 0 ps c s (sym (names-is (shown_pieces B ps) c s) ∙ e)).0

  abbrev given : Body → Given
  given B = record { content = content J (stamps_of (shown_entries B x.entries)); names = names (shown_pieces B ps) }

  content-at : (B : Body) (id : Id) → (given B).content id ≡ stamp_of (fin.get (shown_entries B x.entries) id)
  content-at B id = content-is J (shown_entries B x.entries) (written-shown B) id

  show : (b : Bucket) → MayShow H n b (given (body.Read b None))
  show b = record {
    content = λ id i. content-at (body.Read b None) id ∙ ap stamp_of (shown_in b x.entries id ∙ ap (λ t. cond t (fin.get x.entries id) None) (sym (inside-is b id) ∙ i)) ∙ h.stamps_are id;
    only = λ id i. content-at (body.Read b None) id ∙ ap stamp_of (shown_in b x.entries id ∙ ap (λ t. cond t (fin.get x.entries id) None) (sym (inside-is b id) ∙ i));
    serial = λ c s named v r d g shown had. sym (h.read_serials.there c s (shown-read S.acks P H meant_so v r n d g c s shown had)) ∙ named-there (body.Read b None) c s named;
  }

  show_one : (b : Bucket) (id : Id) → (given (body.Read b (Some id))).content id ≡ store n id H
  show_one b id = content-at (body.Read b (Some id)) id ∙ ap stamp_of (by_get (fin.get x.entries id) refl) ∙ h.stamps_are id
    where
      by_get : (o : Option Entry) → fin.get x.entries id ≡ o → fin.get (only_entry o) id ≡ o
      by_get None g = get-empty id_cmp id
      by_get (Some e) g =
          let own = (h.entries_are id e g).0 in
          get-insert nat_list_cmp_total (fin.empty {X = Entry} {R = id_cmp}) e.id e id
          ∙ ap (λ t. cond t (Some e) (fin.get (fin.empty {X = Entry} {R = id_cmp}) id)) (id-tests e.id id ∙ same_id-eq e.id id own)

  -- the message, as the journal has it
  module _ (k : ℕ) (m : Message) (was_sent : sent k H ≡ Some m) (to : m.receiver ≡ n) (B : Body) (body_is : m.body ≡ meant B) (late : x.version ≤ m.version) where
    low : version m.receiver H ≤ m.version
    low = subst (λ i. version i H ≤ m.version) (sym to) (subst (λ v. v ≤ m.version) h.version_is late)

    -- a Delete that was sent is acceptable just where its piece is there
    acceptable-is : (b : Bucket) (s : ℕ) → m.body ≡ plain.Delete b s → acceptable m.receiver b s H ≡ list_any (is_piece b s) ps
    acceptable-is b s e =
        let was : was_read n b s H ≡ true = subst (λ i. was_read i b s H ≡ true) to (delete-read S.acks P H meant_so k m was_sent b s e) in
        ap (λ i. acceptable i b s H) to ∙ sym (h.read_serials.there b s was)

    same_delete : (C : Body) (b : Bucket) (s : ℕ) → meant C ≡ plain.Delete b s → C ≡ body.Delete b s
    same_delete (body.Delete c t) b s e = cc
    same_delete body.Ask b s e = cc
    same_delete (body.Read c None) b s e = cc
    same_delete (body.Read c (Some id)) b s e = cc
    same_delete (body.Store y) b s e = cc
    same_delete (body.Apply c es) b s e = cc
    same_delete (body.Split c) b s e = cc
    same_delete (body.Join c) b s e = cc
    same_delete (body.Ready c) b s e = cc
    same_delete (body.Activate c) b s e = cc

    same_read : (C : Body) (b : Bucket) → meant C ≡ plain.Read b → C ≡ body.Read b None
    same_read (body.Read c None) b e = cc
    same_read (body.Read c (Some id)) b e = cc
    same_read (body.Delete c t) b e = cc
    same_read body.Ask b e = cc
    same_read (body.Store y) b e = cc
    same_read (body.Apply c es) b e = cc
    same_read (body.Split c) b e = cc
    same_read (body.Join c) b e = cc
    same_read (body.Ready c) b e = cc
    same_read (body.Activate c) b e = cc

    same_one : (C : Body) (id : Id) → meant C ≡ plain.ReadDoc id → (b : Bucket) × (C ≡ body.Read b (Some id))
    same_one (body.Read c (Some i)) id e = (c, ap (λ (z : Id). body.Read c (Some z)) (let f = e in cc))
    same_one (body.Read c None) id e = cc
    same_one (body.Delete c t) id e = cc
    same_one body.Ask id e = cc
    same_one (body.Store y) id e = cc
    same_one (body.Apply c es) id e = cc
    same_one (body.Split c) id e = cc
    same_one (body.Join c) id e = cc
    same_one (body.Ready c) id e = cc
    same_one (body.Activate c) id e = cc

    refused-delete : (t : Told) → told B ps ≡ t → (t ≡ Accepted → ⊥) → NotAcceptable H m
    refused-delete t e not b s is =
        let B_is = same_delete B b s (sym body_is ∙ is) in
        acceptable-is b s is ∙ by_test (list_any (is_piece b s) ps) (list_any (does_meet b) ps) (ap (λ C. told C ps) (sym B_is) ∙ e)
      where
        by_test : (a c : Bool) → cond a Accepted (cond c Differs NoBucket) ≡ t → a ≡ false
        by_test true c f = absurd (not (sym f))
        by_test false c f = refl

    at-body : (F : ℕ → plain.Body → Type 0) → F n (meant B) → F m.receiver m.body
    at-body F f = subst (λ i. F i m.body) (sym to) (subst (λ y. F n y) (sym body_is) f)

    pub replies-no_bucket : told B ps ≡ NoBucket → Replies H m plain.NoBucket
    replies-no_bucket e = (low, refused-delete NoBucket e (λ f. cc), at-body (λ i y. Lacks H i y) (lacks B e))

    pub replies-differs : told B ps ≡ Differs → Replies H m plain.Differs
    replies-differs e = (low, refused-delete Differs e (λ f. cc), at-body (λ i y. Differ H i y) (differ B e))

    pub replies-no_memory : Replies H m plain.NoMemory
    replies-no_memory = low

    pub replies-answer : told B ps ≡ Accepted → Replies H m (plain.Answer (given B).content (given B).names)
    replies-answer e = record {
      low = low;
      has = at-body (λ i y. Has H i y) (has B e);
      takes = at-body (λ i y. MayTake (pieces i H) y) (takes B e);
      show = λ b is. subst (λ i. MayShow H i b (given B)) (sym to) (subst (λ C. MayShow H n b (given C)) (sym (same_read B b (sym body_is ∙ is))) (show b));
      show_one = λ id is. let one = same_one B id (sym body_is ∙ is) in
          subst (λ i. (given B).content id ≡ store i id H) (sym to) (subst (λ C. (given C).content id ≡ store n id H) (sym one.1) (show_one one.0 id));
      fresh = λ c s named was. ap (λ i. stands i c s H) to ∙ sym (h.serials.there c s (subst (λ i. was_named i c s H ≡ true) to was)) ∙ named-there B c s named;
      may_delete = λ b s is. let B_is = same_delete B b s (sym body_is ∙ is) in
          acceptable-is b s is ∙ accepted-delete b s ps (ap (λ C. told C ps) (sym B_is) ∙ e);
    }

    -- ---- what an answer names

    shown-pieces : (C : Body) → PiecesShown H n (meant C) (shown_pieces C ps)
    shown-pieces body.Ask = shows-whole laws ps qs h.pieces_are ((h.valid).holding).laid
    shown-pieces (body.Read b None) = shows-all laws ps qs h.pieces_are ((h.valid).holding).laid (λ c. words.meets b c) (does_meet b) (λ p. meets-is b p.bucket ∙ meets-turned b p.bucket)
    shown-pieces (body.Read b (Some id)) = refl
    shown-pieces (body.Store y) = refl
    shown-pieces (body.Apply b es) = refl
    shown-pieces (body.Delete b s) = refl
    shown-pieces (body.Split b) = refl
    shown-pieces (body.Join b) = refl
    shown-pieces (body.Ready b) = refl
    shown-pieces (body.Activate b) = refl

    shown-entries : (C : Body) → EntriesShown J (meant C) (stamps_of (shown_entries C x.entries))
    shown-entries (body.Read b None) = tt
    shown-entries (body.Read b (Some id)) = each-in (λ s. written s J ≡ Some id) (stamps_of (shown_entries (body.Read b (Some id)) x.entries)) (λ s i. one s (named-of (only_entry (fin.get x.entries id)) s i))
      where
        one : (s : Stamp) → Named (only_entry (fin.get x.entries id)) s → written s J ≡ Some id
        one s nm =
            let o = only-is (fin.get x.entries id) nm.id nm.entry nm.there in
            named-written J (only_entry (fin.get x.entries id)) (written-shown (body.Read b (Some id))) s nm
            ∙ ap (λ (i : Id). Some i) (o.1 ∙ (h.entries_are id nm.entry o.0).0)
    shown-entries body.Ask = no-stamps
    shown-entries (body.Store y) = no-stamps
    shown-entries (body.Apply b es) = no-stamps
    shown-entries (body.Delete b s) = no-stamps
    shown-entries (body.Split b) = no-stamps
    shown-entries (body.Join b) = no-stamps
    shown-entries (body.Ready b) = no-stamps
    shown-entries (body.Activate b) = no-stamps

    pub names-shown : NamesShown J m (shown_pieces B ps) (stamps_of (shown_entries B x.entries))
    names-shown = record {
      rising = stamps_of-rising (shown_entries B x.entries);
      held = subst (λ i. Each (λ s. IsHeld J i s) (stamps_of (shown_entries B x.entries))) (sym to) (each-in (λ s. IsHeld J n s) (stamps_of (shown_entries B x.entries)) (λ s i. one s (named-of (shown_entries B x.entries) s i)));
      asked = subst (λ y. EntriesShown J y (stamps_of (shown_entries B x.entries))) (sym body_is) (shown-entries B);
      shown = at-body (λ i y. PiecesShown H i y (shown_pieces B ps)) (shown-pieces B);
    }
      where
        one : (s : Stamp) → Named (shown_entries B x.entries) s → IsHeld J n s
        one s nm = record {
          id = nm.id;
          wrote = named-written J (shown_entries B x.entries) (written-shown B) s nm;
          holds = sym (h.stamps_are nm.id) ∙ ap stamp_of (shown-sub B wrote x.entries h.entries_are nm.id nm.entry nm.there) ∙ ap (λ (u : Stamp). Some u) nm.stamped;
        }
