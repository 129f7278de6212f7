-- The journal below a version is legal.
use Rattle.std.proofs.Common.{◌≡◌, ℕ, ◌+◌, ◌<◌, Bool, true, false, cond, [], ◌∷◌, Option, Some, None, refl, sym, ap, ◌∙◌, subst, arith, inl, inr, List, eqb, ltb, eq-eqb, ◌⊎◌}
use Rattle.lane_journals.specs.Sets.{AtLeast, outside}
use Rattle.lane_journals.specs.Stamps.{Stamp}
use Rattle.lane_journals.specs.Buckets.{Bucket, first_child, second_child, across, Id, key_of}
use Rattle.lane_journals.specs.Events.{Content, Body, Ask, Read, ReadDoc, Store, Apply, Delete, Split, Join, Ready, Activate, Reply, Answer, Newer, NoBucket, Differs, NoMemory, Decision, RoundBegun, RoundEnded, RowSplit, RowsJoined, ActiveOn, DeleteFrom, DeleteOver, Event, Published, Heard, Begun, Opened, Prepared, Wrote, Sent, Delivered, Returned, Closed, Decided, Refused, Stopped, Started}
use Rattle.lane_journals.specs.Readers.{Journal, known, held, Beginning, began, before_line, refused, Preparing, round_of, Message, sent, first_reply, returned, version, Given, answer}
use Rattle.lane_journals.specs.Facts.{Applied, Idle, ReadAt, ReadBack, WasAsked, Shown, AnsweredApply, AnsweredAsk, IsRow, IsMember, IsOpen}
use Rattle.lane_journals.specs.Legal.{IsNextStamp, Belongs, MayCarry, MaySend, Lacks, Differ, Has, NotAcceptable, Replies, MayDeliver, MayReturn, IsIdleRow, Keeper, is_ending, MayDecide, Permits, Legal}
use Rattle.lane_journals.specs.Pieces.{NodePiece, any_covers, any_inside, any_meets, is_piece, ready_covers, MayTake}
use Rattle.lane_journals.specs.Below.{tells, keeps, keeps_return, keeps_line, kept, below}
use Rattle.std.proofs.lemmas.Bool.{eqb-true}
use Rattle.std.proofs.lemmas.Bool.Decides.{nat_tests}
use Rattle.lane_journals.proofs.Basics.{began-stays, sent-stays}
use Rattle.proof_basics.proofs.Options.{some-none}
use Rattle.lane_journals.proofs.Beginnings.{lasting, before-legal}
use Rattle.lane_journals.proofs.Counts.{AtLeast-map, both-map}
use Rattle.lane_durability.proofs.Below.{lt-true, true-lt, opened-below, row_at-below, running-below, round_of-below, published-below, published-back, known-below, stamps-below, active-below, deleting-below, held-below, stopped-below}
use Rattle.lane_durability.proofs.BelowLines.{Low, low-line, prepared-below, wrote-below, closed-below, began-back, began-below, sent-back, sent-below, told, reply-below}
use Rattle.lane_durability.proofs.BelowReaders.{returned-back, returned-below, answered_store-below, answer-below, complete-below, base-low, view, keeps-both, replies-version}

module _ (acks : ℕ) (P : ℕ → ℕ → Bool) (v : ℕ) where
  told-some : (o : Option Reply) (r : Reply) → told acks P v o ≡ Some r → o ≡ Some r
  told-some None r h = cc
  told-some (Some q) r h = by_case (tells v q) h
    where
      by_case : (t : Bool) → cond t (Some q) None ≡ Some r → ◌≡◌ {A = Option Reply} (Some q) (Some r)
      by_case true h = h
      by_case false h = cc

  told-keeps : (o : Option Reply) (r : Reply) → o ≡ Some r → tells v r ≡ true → told acks P v o ≡ Some r
  told-keeps o r h t = rw (h, t) refl

  low-message : (J : Journal) (k : ℕ) (m : Message) → sent k J ≡ Some m → m.version < v → (x : Message) → sent k J ≡ Some x → x.version < v
  low-message J k m s lt x h = let same : m ≡ x = cc in subst (λ (y : Message). y.version < v) same lt

  pub first-back : (J : Journal) → Legal acks P J → (k : ℕ) (m : Message) (r : Reply) → sent k J ≡ Some m → m.version < v → first_reply k (below v J) ≡ Some r → first_reply k J ≡ Some r
  first-back J l k m r s lt f = told-some (first_reply k J) r (sym (reply-below acks P v J l k (low-message J k m s lt)) ∙ f)

  pub first-below : (J : Journal) → Legal acks P J → (k : ℕ) (m : Message) (r : Reply) → sent k J ≡ Some m → m.version < v → first_reply k J ≡ Some r → tells v r ≡ true → first_reply k (below v J) ≡ Some r
  first-below J l k m r s lt f t = reply-below acks P v J l k (low-message J k m s lt) ∙ told-keeps (first_reply k J) r f t

  shown-back : (J : Journal) → Legal acks P J → (w r n : ℕ) (b : Bucket) (g : Given) → Shown w r n b g (below v J) → Shown w r n b g J
  shown-back J l w r n b g h =
      let s = sent-back acks P v J l h.number h.message h.was_sent in
      record { number = h.number; message = h.message; was_sent = s.0; receiver = h.receiver; version = h.version; round = h.round; body = h.body; reply = first-back J l h.number h.message (Answer g.content g.names) s.0 s.1 h.reply }

  applied-back : (J : Journal) → Legal acks P J → (w r n : ℕ) (b : Bucket) (u : Content) → Applied w r n b u (below v J) → Applied w r n b u J
  applied-back J l w r n b u a = record { number = a.number; message = a.message; was_sent = (sent-back acks P v J l a.number a.message a.was_sent).0; receiver = a.receiver; version = a.version; round = a.round; body = a.body }

  pub apply-back : (J : Journal) → Legal acks P J → (w r n : ℕ) (b : Bucket) → AnsweredApply w r n b (below v J) → AnsweredApply w r n b J
  apply-back J l w r n b a =
      let s = sent-back acks P v J l a.number a.message a.was_sent in
      record {
        number = a.number;
        message = a.message;
        union = a.union;
        content = a.content;
        names = a.names;
        was_sent = s.0;
        receiver = a.receiver;
        version = a.version;
        round = a.round;
        body = a.body;
        reply = first-back J l a.number a.message (Answer a.content a.names) s.0 s.1 a.reply;
        back = returned-back v a.number J a.back;
      }

  pub apply-below : (J : Journal) → Legal acks P J → (w r n : ℕ) (b : Bucket) → w < v → AnsweredApply w r n b J → AnsweredApply w r n b (below v J)
  apply-below J l w r n b lt a =
      let lt' : (a.message).version < v = (let z = a.version in omega arith) in
      record {
        number = a.number;
        message = a.message;
        union = a.union;
        content = a.content;
        names = a.names;
        was_sent = sent-below acks P v J l a.number a.message a.was_sent lt';
        receiver = a.receiver;
        version = a.version;
        round = a.round;
        body = a.body;
        reply = first-below J l a.number a.message (Answer a.content a.names) a.was_sent lt' a.reply refl;
        back = returned-below acks P v J l a.number a.message (Answer a.content a.names) a.was_sent lt' a.reply refl a.back;
      }

  pub ask-below : (J : Journal) → Legal acks P J → (w n : ℕ) → w < v → AnsweredAsk w n J → AnsweredAsk w n (below v J)
  ask-below J l w n lt a =
      let lt' : (a.message).version < v = (let z = a.version in omega arith) in
      record {
        number = a.number;
        message = a.message;
        content = a.content;
        names = a.names;
        was_sent = sent-below acks P v J l a.number a.message a.was_sent lt';
        receiver = a.receiver;
        version = a.version;
        body = a.body;
        reply = first-below J l a.number a.message (Answer a.content a.names) a.was_sent lt' a.reply refl;
        back = returned-below acks P v J l a.number a.message (Answer a.content a.names) a.was_sent lt' a.reply refl a.back;
      }

  open-back : (J : Journal) → Legal acks P J → (w line : ℕ) (b : Beginning) (p : Preparing) → IsOpen w line b p (below v J) → IsOpen w line b p J
  open-back J l w line b p o =
      let a = began-back acks P v J l line b o.began in
      let low = low-line acks P v line J b a.0 a.1 in
      record { began = a.0; version = o.version; prepared = sym (prepared-below acks P v line J l low) ∙ o.prepared; unclosed = sym (closed-below acks P v line J l low) ∙ o.unclosed }

  open-below : (J : Journal) → Legal acks P J → (w line : ℕ) (b : Beginning) (p : Preparing) → w < v → IsOpen w line b p J → IsOpen w line b p (below v J)
  open-below J l w line b p lt o =
      let lt' : b.version < v = (let z = o.version in omega arith) in
      let low = low-line acks P v line J b o.began lt' in
      record { began = began-below acks P v J l line b o.began lt'; version = o.version; prepared = prepared-below acks P v line J l low ∙ o.prepared; unclosed = closed-below acks P v line J l low ∙ o.unclosed }

  pub row-below : (J : Journal) (w : ℕ) (b : Bucket) → w < v → IsRow w b J → IsRow w b (below v J)
  row-below J w b lt r = record { fits = r.fits; opened = opened-below v w lt J ∙ r.opened; row = λ key i. row_at-below v w lt J key ∙ r.row key i }

  pub member-below : (J : Journal) → Legal acks P J → (w n : ℕ) (b : Bucket) → w < v → IsMember w n b J → IsMember w n b (below v J)
  member-below J l w n b lt h key i = complete-below acks P v J l w n lt key ∙ h key i

  idle-below : (J : Journal) → Legal acks P J → (w : ℕ) (b : Bucket) → Idle w b J → Idle w b (below v J)
  idle-below J l w b h line begin p o e = h line begin p (open-back J l w line begin p o) e

  quiet-below : (J : Journal) → Legal acks P J → (w : ℕ) (b : Bucket) → w < v → IsIdleRow w b J → IsIdleRow w b (below v J)
  quiet-below J l w b lt q = record { row = row-below J w b lt q.row; no_round = running-below v w lt b J ∙ q.no_round; idle = idle-below J l w b q.idle }

  holder-below : (J : Journal) (d w : ℕ) → w < v → held d J ≡ Some w → held d (below v J) ≡ Some w
  holder-below J d w lt h = held-below v d J (λ y g. let z : Some y ≡ Some w = sym g ∙ h in let same : y ≡ w = cc in omega arith) ∙ h

  abbrev belongs-below : (J : Journal) → Legal acks P J → (w n : ℕ) (id : Id) → w < v → (x : Belongs J w n id) → Belongs (below v J) w n id
  belongs-below J l w n id lt x = record { line = x.line; begin = x.begin; preparing = x.preparing; is_open = open-below J l w x.line x.begin x.preparing lt x.is_open; same_id = x.same_id; recipient = x.recipient }

  -- ---- what a line read

  before-below : (J : Journal) → Legal acks P J → (k : ℕ) → Low acks P v k J → before_line k (below v J) ≡ below v (before_line k J)
  before-below [] l k low = refl
  before-below (e ∷ J) l k low = by_event e l.1 low (before-below J l.0 k (λ b f. low b (began-stays k J b e f)))
    where
      keep : (t : Bool) (e : Event) (X : Journal) → ((K : Journal) → before_line k (e ∷ K) ≡ before_line k K) → before_line k (below v J) ≡ X → before_line k (cond t (e ∷ below v J) (below v J)) ≡ X
      keep true e X f h = f (below v J) ∙ h
      keep false e X f h = h

      by_event : (e : Event) → Permits acks P J e → Low acks P v k (e ∷ J) → before_line k (below v J) ≡ below v (before_line k J) → before_line k (cond (kept v J e) (e ∷ below v J) (below v J)) ≡ below v (before_line k (e ∷ J))
      by_event (Begun m d w id s) p low ih = by_case (eqb m k) refl
        where
          own : m ≡ k → w < v
          own is = low (record { distributor = d; version = w; id = id; stamp = s }) (rw (is, subst (λ (i : ℕ). began i J ≡ None) is p.fresh, eq-eqb k k refl) refl)

          by_case : (t : Bool) → eqb m k ≡ t → before_line k (cond (ltb w v) (Begun m d w id s ∷ below v J) (below v J)) ≡ below v (cond t J (before_line k J))
          by_case true e = rw (lt-true w v (own (eqb-true m k e)), e) refl
          by_case false e = by_kept (ltb w v)
            where
              by_kept : (t : Bool) → before_line k (cond t (Begun m d w id s ∷ below v J) (below v J)) ≡ below v (before_line k J)
              by_kept true = rw e ih
              by_kept false = ih
      by_event e p low ih = keep (kept v J e) e (below v (before_line k J)) (λ K. refl) ih

  line-low : (J : Journal) → Legal acks P J → (k : ℕ) (b : Beginning) → began k J ≡ Some b → b.version < v → before_line k (below v J) ≡ below v (before_line k J)
  line-low J l k b f lt = before-below J l k (low-line acks P v k J b f lt)

  -- what was sent as the line began was sent
  early-sent : (J : Journal) → Legal acks P J → (k j : ℕ) (b : Beginning) (x : Message) → began k J ≡ Some b → sent j (before_line k J) ≡ Some x → sent j J ≡ Some x
  early-sent J l k j b x f h = lasting acks P (λ K. sent j K ≡ Some x) (λ e K g. sent-stays j K x e g) J l k b f h

  later-below : (J : Journal) → Legal acks P J → (k j : ℕ) (b : Beginning) → began k J ≡ Some b → b.version < v → sent j (before_line k J) ≡ None → sent j (before_line k (below v J)) ≡ None
  later-below J l k j b f lt h = rw (line-low J l k b f lt) (some-none _ (λ x g. let y = (sent-back acks P v (before_line k J) (before-legal acks P J l k) j x g).0 in cc))

  pub later-back : (J : Journal) → Legal acks P J → (k j : ℕ) (b : Beginning) (m : Message) → began k J ≡ Some b → b.version < v → sent j J ≡ Some m → m.version < v → sent j (before_line k (below v J)) ≡ None → sent j (before_line k J) ≡ None
  later-back J l k j b m f lt s low h = some-none _ (λ x g.
      let at = early-sent J l k j b x f g in
      let same : m ≡ x = cc in
      let y = sent-below acks P v (before_line k J) (before-legal acks P J l k) j x g (subst (λ (z : Message). z.version < v) same low) in
      let z : sent j (below v (before_line k J)) ≡ None = ap (λ (K : Journal). sent j K) (sym (line-low J l k b f lt)) ∙ h in
      absurd (let q : ◌≡◌ {A = Option Message} None (Some x) = sym z ∙ y in cc))

  asked-back : (J : Journal) → Legal acks P J → (k : ℕ) (b : Beginning) → began k J ≡ Some b → b.version < v → WasAsked k b (below v J) → WasAsked k b J
  asked-back J l k b f lt a =
      let s = sent-back acks P v J l a.number a.message a.was_sent in
      record { number = a.number; message = a.message; was_sent = s.0; later = later-back J l k a.number b a.message f lt s.0 s.1 a.later; version = a.version; body = a.body }

  pub read-below : (J : Journal) → Legal acks P J → (n k : ℕ) (b : Beginning) (content : Content) → began k J ≡ Some b → b.version < v → ReadBack n k b content J → ReadBack n k b content (below v J)
  read-below J l n k b content f lt a =
      let r : ReadAt n k b content J = a.read in
      let low : (r.message).version < v = (let z = r.version in omega arith) in
      record {
        read = record {
          number = r.number;
          message = r.message;
          names = r.names;
          was_sent = sent-below acks P v J l r.number r.message r.was_sent low;
          later = later-below J l k r.number b f lt r.later;
          receiver = r.receiver;
          version = r.version;
          body = r.body;
          reply = first-below J l r.number r.message (Answer content r.names) r.was_sent low r.reply refl;
        };
        back = returned-below acks P v J l r.number r.message (Answer content r.names) r.was_sent low r.reply refl a.back;
      }

  refused-back : (J : Journal) (k : ℕ) → refused k (below v J) ≡ true → refused k J ≡ true
  refused-back [] k h = h
  refused-back (e ∷ J) k h = by_case (kept v J e) h (refused-back J k)
    where
      stays : (e : Event) (K : Journal) → refused k K ≡ true → refused k (e ∷ K) ≡ true
      stays e K h = grind (arith, nat_tests)

      again : (e : Event) (K L : Journal) → refused k (e ∷ K) ≡ true → (refused k K ≡ true) ⊎ (refused k (e ∷ L) ≡ true)
      again e K L h = grind (arith, nat_tests)

      by_case : (t : Bool) → refused k (cond t (e ∷ below v J) (below v J)) ≡ true → (refused k (below v J) ≡ true → refused k J ≡ true) → refused k (e ∷ J) ≡ true
      by_case true h ih = elim (again e (below v J) J h) [ inl old ↦ stays e J (ih old) | inr new ↦ new ]
      by_case false h ih = stays e J (ih h)

  refused-below : (J : Journal) (k : ℕ) → refused k J ≡ false → refused k (below v J) ≡ false
  refused-below J k h = by_case (refused k (below v J)) refl
    where
      by_case : (t : Bool) → refused k (below v J) ≡ t → t ≡ false
      by_case true e = let z = refused-back J k e in cc
      by_case false e = refl

  -- ---- each event

  carry-below : (J : Journal) → Legal acks P J → (w n : ℕ) (b : Body) → w < v → MayCarry P J w n b → MayCarry P (below v J) w n b
  carry-below J l w n Ask lt c = opened-below v w lt J ∙ c
  carry-below J l w n (Read b) lt c = record {
    under_way = running-below v w lt b J ∙ c.under_way;
    first = λ m u a. c.first m u (subst (λ (r : ℕ). Applied w r m b u J) (round_of-below v w lt b J) (applied-back J l w (round_of w b (below v J)) m b u a));
  }
  carry-below J l w n (ReadDoc id) lt c = belongs-below J l w n id lt c
  carry-below J l w n (Store id s) lt c = record {
    belongs = belongs-below J l w n id lt c.belongs;
    stamped = c.stamped;
    written = wrote-below acks P v (c.belongs).line J l (low-line acks P v (c.belongs).line J (c.belongs).begin ((c.belongs).is_open).began (let z = ((c.belongs).is_open).version in omega arith)) ∙ c.written;
  }
  carry-below J l w n (Apply b u) lt c = record {
    under_way = running-below v w lt b J ∙ c.under_way;
    covers = λ m h. let a = c.covers m h in (a.0, same m a.0 a.1, a.2);
    attained = λ id s h. let a = c.attained id s h in (a.0, a.1, same a.0 a.1 a.2, a.3);
  }
    where
      same : (m : ℕ) (g : Given) → answer w (round_of w b J) m J ≡ Some g → answer w (round_of w b (below v J)) m (below v J) ≡ Some g
      same m g h = subst (λ (r : ℕ). answer w r m (below v J) ≡ Some g) (sym (round_of-below v w lt b J)) (answer-below acks P v J l w (round_of w b J) m lt ∙ h)
  carry-below J l w n (Delete b s) lt c = (c.0, deleting-below v w lt J c.0 ∙ c.1)
  carry-below J l w n (Activate b) lt c = (row-below J w b lt c.0, λ key i. active-below v w lt J key ∙ c.1 key i)
  carry-below J l w n (Split b) lt c = c
  carry-below J l w n (Join b) lt c = c
  carry-below J l w n (Ready b) lt c = c

  send-below : (J : Journal) → Legal acks P J → (k w d n : ℕ) (b : Body) → w < v → MaySend P J k w d n b → MaySend P (below v J) k w d n b
  send-below J l k w d n b lt p = record {
    greater = λ j m h. p.greater j m (sent-back acks P v J l j m h).0;
    holder = holder-below J d w lt p.holder;
    member = p.member;
    timing = elim p.timing [ inl a ↦ inl a | inr o ↦ inr (opened-below v w lt J ∙ o) ];
    carries = carry-below J l w n b lt p.carries;
  }

  not-below : (J : Journal) → Legal acks P J → (m : Message) → version m.receiver J < v → NotAcceptable J m → NotAcceptable (below v J) m
  not-below J l m low h b s is = (view acks P v J l m.receiver).serials low b s ∙ h b s is

  lacks-below : (J : Journal) → Legal acks P J → (n : ℕ) (b : Body) → version n J < v → Lacks J n b → Lacks (below v J) n b
  lacks-below J l n (Store id s) low h = (view acks P v J l n).pieces low (key_of id) ∙ h
  lacks-below J l n (ReadDoc id) low h = (view acks P v J l n).pieces low (key_of id) ∙ h
  lacks-below J l n Ask low h = h
  lacks-below J l n (Read b) low h = h
  lacks-below J l n (Apply b u) low h = h
  lacks-below J l n (Split b) low h = ap (λ (ps : List NodePiece). any_covers b ps) ((view acks P v J l n).shapes low) ∙ h
  lacks-below J l n (Join b) low h = ap (λ (ps : List NodePiece). any_inside b ps) ((view acks P v J l n).shapes low) ∙ h
  lacks-below J l n (Ready b) low h = ap (λ (ps : List NodePiece). any_meets b ps) ((view acks P v J l n).shapes low) ∙ h
  lacks-below J l n (Activate b) low h = ap (λ (ps : List NodePiece). any_covers b ps) ((view acks P v J l n).shapes low) ∙ h
  lacks-below J l n (Delete b s) low h = ap (λ (ps : List NodePiece). any_meets b ps) ((view acks P v J l n).shapes low) ∙ h

  differ-below : (J : Journal) → Legal acks P J → (n : ℕ) (b : Body) → version n J < v → Differ J n b → Differ (below v J) n b
  differ-below J l n (Ready b) low h = let e = (view acks P v J l n).shapes low in (ap (λ (ps : List NodePiece). any_meets b ps) e ∙ h.0, ap (λ (ps : List NodePiece). is_piece b ps) e ∙ h.1)
  differ-below J l n (Activate b) low h = let e = (view acks P v J l n).shapes low in (ap (λ (ps : List NodePiece). any_covers b ps) e ∙ h.0, ap (λ (ps : List NodePiece). ready_covers b ps) e ∙ h.1)
  differ-below J l n (Delete b s) low h = ap (λ (ps : List NodePiece). any_meets b ps) ((view acks P v J l n).shapes low) ∙ h
  differ-below J l n Ask low h = absurd h
  differ-below J l n (Read b) low h = absurd h
  differ-below J l n (ReadDoc i) low h = absurd h
  differ-below J l n (Store i s) low h = absurd h
  differ-below J l n (Apply b u) low h = absurd h
  differ-below J l n (Split b) low h = absurd h
  differ-below J l n (Join b) low h = absurd h

  has-below : (J : Journal) → Legal acks P J → (n : ℕ) (b : Body) → version n J < v → Has J n b → Has (below v J) n b
  has-below J l n (Store id s) low h = (view acks P v J l n).pieces low (key_of id) ∙ h
  has-below J l n (ReadDoc id) low h = (view acks P v J l n).pieces low (key_of id) ∙ h
  has-below J l n _ low h = tt

  reply-kept : (J : Journal) → Legal acks P J → (m : Message) (r : Reply) → Replies J m r → m.version < v → version m.receiver J < v → Replies (below v J) m r
  reply-kept J l m (Newer w) p lt low = let x = (view acks P v J l m.receiver).versions low in (p.0, p.1 ∙ sym x)
  reply-kept J l m NoBucket p lt low = let x = (view acks P v J l m.receiver).versions low in let z = p.0 in (omega arith, not-below J l m low p.1, lacks-below J l m.receiver m.body low p.2)
  reply-kept J l m Differs p lt low = let x = (view acks P v J l m.receiver).versions low in let z = p.0 in (omega arith, not-below J l m low p.1, differ-below J l m.receiver m.body low p.2)
  reply-kept J l m NoMemory p lt low = let x = (view acks P v J l m.receiver).versions low in omega arith
  reply-kept J l m (Answer y t) p lt low =
      let x = view acks P v J l m.receiver in let q = x.versions low in let z = p.low in
      record {
        low = omega arith;
        has = has-below J l m.receiver m.body low p.has;
        takes = subst (λ (ps : List NodePiece). MayTake ps m.body) (sym (x.shapes low)) p.takes;
        show = λ b is. record {
          content = λ id i. (p.show b is).content id i ∙ sym (base-low acks P v m.receiver id J low) ∙ sym (x.stores id);
          only = λ id i. (p.show b is).only id i;
          serial = λ c s named w r d h shown had. x.serials low c s ∙ (p.show b is).serial c s named w r d h (shown-back J l w r m.receiver d h shown) had;
        };
        show_one = λ id is. p.show_one id is ∙ sym (base-low acks P v m.receiver id J low) ∙ sym (x.stores id);
        fresh = λ c s h had. x.standing low c s ∙ p.fresh c s h (sym (x.named low c s) ∙ had);
        may_delete = λ b s is. x.serials low b s ∙ p.may_delete b s is;
      }

  deliver-below : (J : Journal) → Legal acks P J → (k : ℕ) (r : Reply) → MayDeliver J k r → keeps v r (sent k J) ≡ true → MayDeliver (below v J) k r
  deliver-below J l k r p q =
      let kb = keeps-both acks P v p.message r (rw p.was_sent at q) in
      let low = replies-version acks P v J p.message r p.reply kb.0 kb.1 in
      record { message = p.message; was_sent = sent-below acks P v J l k p.message p.was_sent kb.1; runs = stopped-below v (p.message).receiver J ∙ p.runs; reply = reply-kept J l p.message r p.reply kb.1 low }

  return-below : (J : Journal) → Legal acks P J → (k : ℕ) → MayReturn J k → keeps_return v (first_reply k J) (sent k J) ≡ true → MayReturn (below v J) k
  return-below J l k p q = by_sent (sent k J) refl (rw p.replied at q)
    where
      once : returned k (below v J) ≡ false
      once = by_case (returned k (below v J)) refl
        where
          by_case : (t : Bool) → returned k (below v J) ≡ t → t ≡ false
          by_case true e = let z = returned-back v k J e in let y = p.once in cc
          by_case false e = refl

      by_sent : (o : Option Message) → sent k J ≡ o → keeps v p.reply o ≡ true → MayReturn (below v J) k
      by_sent None f h = cc
      by_sent (Some m) f h = let kb = keeps-both acks P v m p.reply h in record { once = once; reply = p.reply; replied = first-below J l k m p.reply f kb.1 p.replied kb.0 }

  decide-below : (J : Journal) → Legal acks P J → (w : ℕ) (x : Decision) → w < v → MayDecide acks J w x → MayDecide acks (below v J) w x
  decide-below J l w (RoundBegun b) lt p = quiet-below J l w b lt p
  decide-below J l w (RoundEnded b set) lt p = record {
    under_way = running-below v w lt b J ∙ p.under_way;
    idle = idle-below J l w b p.idle;
    answered = λ n h. subst (λ (r : ℕ). AnsweredApply w r n b (below v J)) (sym (round_of-below v w lt b J)) (apply-below J l w (round_of w b J) n b lt (p.answered n h));
    whole = λ n a. p.whole n (subst (λ (r : ℕ). AnsweredApply w r n b J) (round_of-below v w lt b J) (apply-back J l w (round_of w b (below v J)) n b a));
  }
  decide-below J l w (RowSplit b) lt p = (p.0, quiet-below J l w b lt p.1)
  decide-below J l w (RowsJoined q) lt p = record {
    fits = p.fits;
    first = quiet-below J l w (first_child q) lt p.first;
    second = quiet-below J l w (second_child q) lt p.second;
    same_active = λ key i. active-below v w lt J key ∙ p.same_active key i ∙ sym (active-below v w lt J (across q key));
    one_delete = λ key i. elim (p.one_delete key i) [ inl a ↦ inl (deleting-below v w lt J key ∙ a) | inr a ↦ inr (deleting-below v w lt J (across q key) ∙ a) ];
  }
  decide-below J l w (ActiveOn b n) lt p = record { quiet = quiet-below J l w b lt p.quiet; undecided = λ key i. active-below v w lt J key ∙ p.undecided key i; member = member-below J l w n b lt p.member }
  decide-below J l w (DeleteFrom b n s) lt p = record {
    quiet = quiet-below J l w b lt p.quiet;
    none = λ key i. deleting-below v w lt J key ∙ p.none key i;
    inactive = λ key i h. p.inactive key i (sym (active-below v w lt J key) ∙ h);
    given = p.given;
    read = subst (λ (r : ℕ). answer w r n (below v J) ≡ Some p.given) (sym (round_of-below v w lt b J)) (answer-below acks P v J l w (round_of w b J) n lt ∙ p.read);
    named = p.named;
    keepers = subst (λ (r : ℕ). AtLeast acks (λ m. Keeper w r n m b (below v J))) (sym (round_of-below v w lt b J)) (AtLeast-map (λ m k. record { other = k.other; member = member-below J l w m b lt k.member; answered = apply-below J l w (round_of w b J) m b lt k.answered }) p.keepers);
  }
  decide-below J l w (DeleteOver b n) lt p =
      let lt' : (p.message).version < v = (let z = p.version in omega arith) in
      record {
        key = p.key;
        delete = p.delete;
        pending = deleting-below v w lt J p.key ∙ p.pending;
        bucket = p.bucket;
        node = p.node;
        no_round = λ other row h i. running-below v w lt row J ∙ p.no_round other row (sym (deleting-below v w lt J other) ∙ h) (sym (row_at-below v w lt J other) ∙ i);
        idle = λ other line begin q h o. p.idle other line begin q (sym (deleting-below v w lt J other) ∙ h) (open-back J l w line begin q o);
        number = p.number;
        message = p.message;
        was_sent = sent-below acks P v J l p.number p.message p.was_sent lt';
        receiver = p.receiver;
        version = p.version;
        body = p.body;
        reply = p.reply;
        replied = first-below J l p.number p.message p.reply p.was_sent lt' p.replied (ending-tells p.reply p.ending);
        ending = p.ending;
        back = returned-below acks P v J l p.number p.message p.reply p.was_sent lt' p.replied (ending-tells p.reply p.ending) p.back;
      }
    where
      ending-tells : (r : Reply) → is_ending r ≡ true → tells v r ≡ true
      ending-tells (Answer x t) h = refl
      ending-tells NoBucket h = refl
      ending-tells Differs h = refl
      ending-tells _ h = cc

  pub line-version : (J : Journal) (line : ℕ) (b : Beginning) → began line J ≡ Some b → keeps_line v (began line J) ≡ true → b.version < v
  line-version J line b f h = true-lt b.version v (let z : keeps_line v (Some b) ≡ true = rw f at h in z)

  pub permits-below : (J : Journal) → Legal acks P J → (e : Event) → kept v J e ≡ true → Permits acks P J e → Permits acks P (below v J) e
  permits-below J l (Published w set) q p = let lt = true-lt w v q in record {
    newest = λ x h. p.newest x (published-back v x J h).0;
    nodes = p.nodes;
    small = p.small;
    inhabited = p.inhabited;
    few = (let few = p.few in let le = both-map (λ n. known w n (Published w set ∷ below v J)) (λ n. known w n (Published w set ∷ J)) (outside set) (λ n. rw (known-below v w lt J n) refl) in omega arith);
  }
  permits-below J l (Heard d w) q p = let lt = true-lt w v q in record {
    state = published-below v w lt J ∙ p.state;
    newest = λ x h. p.newest x (published-back v x J h).0;
    idle = λ line b h same. let a = began-back acks P v J l line b h in closed-below acks P v line J l (low-line acks P v line J b a.0 a.1) ∙ p.idle line b a.0 same;
    newer = λ x h. p.newer x (sym (held-below v d J (λ y g. let z = p.newer y g in omega arith)) ∙ h);
  }
  permits-below J l (Begun line d w id s) q p = let lt = true-lt w v q in record {
    fresh = some-none _ (λ x h. let a = (began-back acks P v J l line x h).0 in let b = p.fresh in cc);
    unrefused = refused-below J line p.unrefused;
    holder = holder-below J d w lt p.holder;
    alone = λ other b h same. let a = began-back acks P v J l other b h in closed-below acks P v other J l (low-line acks P v other J b a.0 a.1) ∙ p.alone other b a.0 same;
    stamp = next s p.stamp;
  }
    where
      next : (s : Option Stamp) → IsNextStamp J w s → IsNextStamp (below v J) w s
      next None h = h
      next (Some s) h = (h.0, h.1 ∙ ap (λ (x : ℕ). x + 1) (sym (stamps-below v w (true-lt w v q) J)))
  permits-below J l (Opened d w rows) q p = let lt = true-lt w v q in record {
    holder = holder-below J d w lt p.holder;
    parted = p.parted;
    once = opened-below v w lt J ∙ p.once;
    all = λ n h. ask-below J l w n lt (p.all n h);
    state = published-below v w lt J ∙ p.state;
  }
  permits-below J l (Prepared line b set) q p =
      let lt = line-version J line p.begin p.begun q in
      let w = (p.begin).version in
      let low = low-line acks P v line J p.begin p.begun lt in
      record {
        begin = p.begin;
        begun = began-below acks P v J l line p.begin p.begun lt;
        fresh = prepared-below acks P v line J l low ∙ p.fresh;
        unclosed = closed-below acks P v line J l low ∙ p.unclosed;
        row = row-below J w b lt p.row;
        inside = p.inside;
        no_round = running-below v w lt b J ∙ p.no_round;
        recipients = λ n key i. p.recipients n key i ∙ sym (complete-below acks P v J l w n lt key);
        enough = p.enough;
      }
  permits-below J l (Wrote line kind) q p =
      let lt = line-version J line p.begin p.begun q in
      let low = low-line acks P v line J p.begin p.begun lt in
      record {
        begin = p.begin;
        begun = began-below acks P v J l line p.begin p.begun lt;
        stamp = p.stamp;
        stamped = p.stamped;
        preparing = p.preparing;
        was_prepared = prepared-below acks P v line J l low ∙ p.was_prepared;
        unwritten = wrote-below acks P v line J l low ∙ p.unwritten;
        unclosed = closed-below acks P v line J l low ∙ p.unclosed;
        seen = λ a. AtLeast-map (λ n k. (k.0, (k.1.0, read-below J l n line p.begin k.1.0 p.begun lt k.1.1))) (p.seen (asked-back J l line p.begin p.begun lt a));
      }
  permits-below J l (Sent k w d n b) q p = send-below J l k w d n b (true-lt w v q) p
  permits-below J l (Delivered k r) q p = deliver-below J l k r p q
  permits-below J l (Returned k) q p = return-below J l k p q
  permits-below J l (Closed line ok) q p =
      let lt = line-version J line p.begin p.begun q in
      let w = (p.begin).version in
      let low = low-line acks P v line J p.begin p.begun lt in
      record {
        begin = p.begin;
        begun = began-below acks P v J l line p.begin p.begun lt;
        unclosed = closed-below acks P v line J l low ∙ p.unclosed;
        acked = λ h. let a = p.acked h in record {
          stamp = a.stamp;
          stamped = a.stamped;
          preparing = a.preparing;
          was_prepared = prepared-below acks P v line J l low ∙ a.was_prepared;
          enough = AtLeast-map (λ n k. (k.0, answered_store-below acks P v J l w (p.begin).id a.stamp n lt ∙ k.1)) a.enough;
          active = λ n key i g. answered_store-below acks P v J l w (p.begin).id a.stamp n lt ∙ a.active n key i (sym (active-below v w lt J key) ∙ g);
        };
      }
  permits-below J l (Decided d w x) q p = (holder-below J d w (true-lt w v q) p.0, decide-below J l w x (true-lt w v q) p.1)
  permits-below J l (Refused line d w) q p = let lt = true-lt w v q in record { fresh = some-none _ (λ x h. let a = (began-back acks P v J l line x h).0 in let b = p.fresh in cc); unrefused = refused-below J line p.unrefused; holder = holder-below J d w lt p.holder }
  permits-below J l (Stopped n) q p = stopped-below v n J ∙ p
  permits-below J l (Started n) q p = stopped-below v n J ∙ p

  -- the law
  pub legal-below : (J : Journal) → Legal acks P J → Legal acks P (below v J)
  legal-below [] l = tt
  legal-below (e ∷ J) l = by_case (kept v J e) refl (legal-below J l.0)
    where
      by_case : (t : Bool) → kept v J e ≡ t → Legal acks P (below v J) → Legal acks P (cond t (e ∷ below v J) (below v J))
      by_case true q ih = (ih, permits-below J l.0 e q l.1)
      by_case false q ih = ih
