-- A Delete names what a Read showed.
use Rattle.std.proofs.Common.{◌≡◌, ◌==◌, ℕ, Bool, true, false, cond, [], ◌∷◌, Option, Some, None, sym, ap, ◌∙◌, subst, arith, inl, inr, eq-eqb}
use Rattle.std.proofs.lemmas.Bool.Decides.{nat_tests}
use Rattle.lane_journals.specs.Buckets.{Bucket, contains, same_bucket, across}
use Rattle.lane_journals.specs.Events.{Body, Delete, Answer, RoundBegun, RoundEnded, RowSplit, RowsJoined, ActiveOn, DeleteFrom, DeleteOver, Event, Decided}
use Rattle.lane_journals.specs.Readers.{Journal, or_else, round_of, Message, sent, Given, Deleting, ends, deleting}
use Rattle.lane_journals.specs.Facts.{Shown}
use Rattle.lane_journals.specs.Legal.{MayCarry, MaySend, MayDelete, Legal}
use Rattle.lane_journals.proofs.Basics.{or_else-cases, sent-cases}
use Rattle.lane_journals.proofs.Serials.{ShownNow, shown-cases, answer-shown}
use Rattle.lane_keeping.specs.NodeKeeping.{read_by, read_after, was_read}

pub was_read-stays : (n : ℕ) (b : Bucket) (s : ℕ) (H : Journal) (e : Event) → was_read n b s H ≡ true → was_read n b s (e ∷ H) ≡ true
was_read-stays n b s H e h = grind (arith, nat_tests)

module _ (acks : ℕ) (P : ℕ → ℕ → Bool) where
  read-now : (H : Journal) (e : Event) (n : ℕ) (b : Bucket) (g : Given) (c : Bucket) (s : ℕ) → ShownNow n b g H e → g.names c s ≡ true → was_read n c s (e ∷ H) ≡ true
  read-now H e n b g c s q named = subst (λ (x : Event). was_read n c s (x ∷ H) ≡ true) (sym q.is)
      (ap (λ o. read_after n c s (Answer g.content g.names) o (was_read n c s H)) q.was_sent
      ∙ ap (λ t. cond t (read_by (q.message).body g.names c s (was_read n c s H)) (was_read n c s H)) (eq-eqb (q.message).receiver n q.receiver)
      ∙ ap (λ x. read_by x g.names c s (was_read n c s H)) q.body
      ∙ ap (λ t. cond t true (was_read n c s H)) named)

  pub shown-read : (H : Journal) → Legal acks P H → (v r n : ℕ) (b : Bucket) (g : Given) (c : Bucket) (s : ℕ) → Shown v r n b g H → g.names c s ≡ true → was_read n c s H ≡ true
  shown-read [] l v r n b g c s h named = let f = h.reply in cc
  shown-read (e ∷ H) l v r n b g c s h named = elim (shown-cases acks P H e l v r n b g h) [
    | inl old ↦ was_read-stays n c s H e (shown-read H l.0 v r n b g c s old named)
    | inr new ↦ read-now H e n b g c s new.0 named
  ]

  abbrev WasRead : Journal → Deleting → Type 0
  WasRead H x = was_read x.node x.bucket x.serial H ≡ true

  over_ends : (b : Bucket) (n : ℕ) (o : Option Deleting) (x : Deleting) → ends b n o ≡ Some x → o ≡ Some x
  over_ends b n None x h = cc
  over_ends b n (Some d) x h = by_tests (same_bucket d.bucket b) (d.node == n) h
    where
      by_tests : (t u : Bool) → cond t (cond u None (Some d)) (Some d) ≡ Some x → Some d ≡ Some x
      by_tests true true h = cc
      by_tests true false h = h
      by_tests false u h = h

  deleting-read : (H : Journal) → Legal acks P H → (v key : ℕ) (x : Deleting) → deleting v key H ≡ Some x → WasRead H x
  deleting-read [] l v key x h = cc
  deleting-read (Decided d w (DeleteFrom b n s) ∷ H) l v key x h = by_tests (w == v) (contains b key) h (deleting-read H l.0 v key x)
    where
      may : MayDelete acks H w b n s
      may = (l.1).1

      own : WasRead H (record { bucket = b; node = n; serial = s })
      own = let a = answer-shown w (round_of w b H) n H may.given may.read in shown-read H l.0 w (round_of w b H) n a.0 may.given b s a.1 may.named

      same : ◌≡◌ {A = Option Deleting} (Some (record { bucket = b; node = n; serial = s })) (Some x) → record { bucket = b; node = n; serial = s } ≡ x
      same h = cc

      by_tests : (t u : Bool) → cond t (cond u (Some (record { bucket = b; node = n; serial = s })) (deleting v key H)) (deleting v key H) ≡ Some x → (deleting v key H ≡ Some x → WasRead H x) → WasRead H x
      by_tests true true h ih = subst (WasRead H) (same h) own
      by_tests true false h ih = ih h
      by_tests false u h ih = ih h
  deleting-read (Decided d w (RowsJoined p) ∷ H) l v key x h = by_tests (w == v) (contains p key) h (deleting-read H l.0 v key x) (deleting-read H l.0 v (across p key) x)
    where
      by_tests : (t u : Bool) → cond t (cond u (or_else (deleting v key H) (deleting v (across p key) H)) (deleting v key H)) (deleting v key H) ≡ Some x
          → (deleting v key H ≡ Some x → WasRead H x) → (deleting v (across p key) H ≡ Some x → WasRead H x) → WasRead H x
      by_tests true true h ih jh = elim (or_else-cases (deleting v key H) (deleting v (across p key) H) x h) [ inl one ↦ ih one | inr two ↦ jh two.1 ]
      by_tests true false h ih jh = ih h
      by_tests false u h ih jh = ih h
  deleting-read (Decided d w (DeleteOver b n) ∷ H) l v key x h = by_test (w == v) h (deleting-read H l.0 v key x)
    where
      by_test : (t : Bool) → cond t (ends b n (deleting v key H)) (deleting v key H) ≡ Some x → (deleting v key H ≡ Some x → WasRead H x) → WasRead H x
      by_test true h ih = ih (over_ends b n (deleting v key H) x h)
      by_test false h ih = ih h
  deleting-read (Decided d w (RoundBegun b) ∷ H) l v key x h = deleting-read H l.0 v key x h
  deleting-read (Decided d w (RoundEnded b set) ∷ H) l v key x h = deleting-read H l.0 v key x h
  deleting-read (Decided d w (RowSplit b) ∷ H) l v key x h = deleting-read H l.0 v key x h
  deleting-read (Decided d w (ActiveOn b n) ∷ H) l v key x h = deleting-read H l.0 v key x h
  deleting-read (e ∷ H) l v key x h = was_read-stays x.node x.bucket x.serial H e (deleting-read H l.0 v key x h)

  -- a Delete that was sent names what a Read of a bucket showed
  pub delete-read : (H : Journal) → Legal acks P H → (k : ℕ) (m : Message) → sent k H ≡ Some m → (b : Bucket) (s : ℕ) → m.body ≡ Delete b s → was_read m.receiver b s H ≡ true
  delete-read [] l k m h b s is = cc
  delete-read (e ∷ H) l k m h b s is = was_read-stays m.receiver b s H e (elim (sent-cases k H e m h) [
    | inl old ↦ delete-read H l.0 k m old b s is
    | inr new ↦ (let p : MaySend P H k m.version new.sender m.receiver m.body = rw new.is at l.1 in
        let c : MayCarry P H m.version m.receiver (Delete b s) = subst (λ (y : Body). MayCarry P H m.version m.receiver y) is p.carries in
        deleting-read H l.0 m.version c.0 (record { bucket = b; node = m.receiver; serial = s }) c.1)
  ])
