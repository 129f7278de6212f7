-- The events of versions below a version are a legal journal, as it is kept.
use Rattle.std.proofs.Common.{◌≡◌, ℕ, ◌<◌, ◌≤◌, Bool, true, false, cond, List, [], ◌∷◌, ◌++◌, Option, Some, None, refl, sym, ap, ◌∙◌, subst, subst₂, arith, inl, inr, eqb, ltb, eq-eqb}
use Rattle.std.proofs.lemmas.Bool.{cases_lt}
use Rattle.std.proofs.lemmas.Bool.Decides.{nat_tests}
use Rattle.cluster_states.specs.declared.cluster_state.ClusterState.{ClusterState}
use Rattle.documents.specs.declared.entry.Entry.{Entry}
use Rattle.lane_journals.specs.Sets.{count}
use Rattle.lane_journals.specs.Stamps.{Stamp, same_stamp}
use Rattle.lane_journals.specs.Buckets.{Id, Bucket, same_bucket, meets, key_of}
use Rattle.lane_journals.specs.Events as plain
use Rattle.lane_journals.specs.Events.{Content, Event, Body, Reply}
use Rattle.lane_journals.specs.Readers.{Journal, or_else, only_if, published, Beginning, began, Preparing, prepared, Message, round_in, sent, version, store, answer, complete, row_at, round_of, wrote, opened}
use Rattle.lane_journals.specs.Facts.{IsRow, IsMember, AnsweredReady, AnsweredApply}
use Rattle.lane_journals.specs.Pieces.{NodePiece, pieces}
use Rattle.lane_journals.specs.Legal.{Carries, MaySend, MayDeliver, Permits, Legal}
use Rattle.lane_journals.specs.States.{state_of}
use Rattle.lane_journals.specs.Below.{keeps, keeps_line, kept, below}
use Rattle.lane_journals.specs.Meanings.{version_in, entry_at, id_in, written, pick, content, names, id_at, meaning_body, meaning_reply, meaning, history}
use Rattle.lane_journals.specs.Naming.{IsEntry, IsHeld, Each, NamesSent, NamesReplied, NamesShown, EntriesShown, PiecesShown, ShowsPieces, WellNoted}
use Rattle.lane_journals.specs.Places.{Setting, state_in, Owns, IsAmongFirst, IsActive, IsTarget, receivers_of, NamesRow, WasNamed, IsPartition, PlacedBody, PlacedDecision, IsElsewhere, Placed}
use Rattle.lane_journals.specs.Endings.{HasSeen, IsDocument, NoDocument, FellShort, OpeningFellShort, RoundFellShort, UnionFellShort, ReadsFellShort, StoresFellShort, UnpreparedFellShort, HasFallenShort, PreparedFellShort, MayEnd, Ended}
use Rattle.lane_journals.specs.KeptJournals.{IsLegal}
use Rattle.pieces.specs.declared.piece.Piece.{Piece}
use Rattle.messages.specs.declared.outcome.Outcome.{Outcome}
use Rattle.messages.specs.declared.outcome.Outcome.TheVariants.{Acked, Nothing, Found, Missing, ConditionFailed, BadUpdate, TooFew, OwnedElsewhere}
use Rattle.messages.specs.declared.outcome.Outcome.TheVariants as outcome
use Rattle.messages.specs.declared.decision.Decision.{Decision}
use Rattle.messages.specs.declared.decision.Decision.TheVariants.{RoundBegun, RoundEnded, RowSplit, RowsJoined, ActiveOn, DeleteFrom, DeleteOver}
use Rattle.messages.specs.declared.noted.NotedBody.{NotedBody}
use Rattle.messages.specs.declared.noted.NotedBody.TheVariants.{Ask, Read, Store, Apply, Delete, Split, Join, Ready, Activate}
use Rattle.messages.specs.declared.noted.NotedReply.{NotedReply}
use Rattle.messages.specs.declared.noted.NotedReply.TheVariants.{Answer, Newer, NoBucket, Differs, NoMemory}
use Rattle.lane_journals.specs.declared.event.LaneEvent.{LaneEvent}
use Rattle.lane_journals.specs.declared.event.LaneEvent.TheVariants.{Published, Heard, Begun, Refused, Opened, Prepared, Wrote, Sent, Delivered, Returned, Closed, Decided, Stopped, Started}
use Rattle.lane_journals.proofs.Basics.{number-fresh, published-stays}
use Rattle.lane_journals.proofs.Counts.{AtLeast-map}
use Rattle.lane_journals.proofs.States.{permits-agree, state-stays, states-agree}
use Rattle.lane_durability.specs.KeptBelow.{kept_below}
use Rattle.lane_journals.proofs.Kept.{stamp-bound}
use Rattle.lane_durability.proofs.Below.{lt-true, true-lt, opened-below, row_at-below, round_of-below, active-below}
use Rattle.lane_durability.proofs.BelowLines.{low-line, began-below, prepared-below, wrote-below, sent-back}
use Rattle.lane_durability.proofs.BelowReaders.{base-low, view, keeps-both, replies-version, answer-below, answered_store-below, complete-below}
use Rattle.lane_durability.proofs.BelowPlaces.{state-below, asked-below, ask-back, ready-below, read-back, look-bound}
use Rattle.lane_durability.proofs.Law.{line-version, permits-below, read-below, apply-back, ask-below, row-below}
use Rattle.lane_durability.proofs.Bounds.{bounds}

-- the event may come next under given states
pub record UnderStep (S : Setting) (P : ℕ → ℕ → Bool) (J : List LaneEvent) (e : LaneEvent) : Type 0 where
  pub noted : WellNoted J e
  pub permitted : Permits S.acks P (history J) (meaning J e)
  pub placed : Placed S J e
  pub ended : Ended S J e

abbrev pub Under : Setting → (ℕ → ℕ → Bool) → List LaneEvent → Type 0
Under S P [] = Unit {0}
Under S P (e ∷ J) = Under S P J × UnderStep S P J e

-- what is kept means a legal journal
pub under-legal : (S : Setting) (P : ℕ → ℕ → Bool) (J : List LaneEvent) → Under S P J → Legal S.acks P (history J)
under-legal S P [] l = tt
under-legal S P (e ∷ J) l = (under-legal S P J l.0, (l.1).permitted)

each-map : (A B : Stamp → Type 0) → ((s : Stamp) → A s → B s) → (ss : List Stamp) → Each A ss → Each B ss
each-map A B f [] h = tt
each-map A B f (s ∷ ss) h = (f s h.0, each-map A B f ss h.1)

each-zip : (A B C : Stamp → Type 0) → ((s : Stamp) → A s → B s → C s) → (ss : List Stamp) → Each A ss → Each B ss → Each C ss
each-zip A B C f [] h g = tt
each-zip A B C f (s ∷ ss) h g = (f s h.0 g.0, each-zip A B C f ss h.1 g.1)

module _ (S : Setting) (P : ℕ → ℕ → Bool) (v : ℕ) where
  -- ---- what was written with a stamp below v

  same_stamp-version : (t s : Stamp) → same_stamp t s ≡ true → t.version ≡ s.version
  unfolding same_stamp
  same_stamp-version t s h = grind (arith, nat_tests)

  entry-below : (J : List LaneEvent) → Under S P J → (s : Stamp) → s.version < v → entry_at s (kept_below v J) ≡ entry_at s J
  entry-below [] l s lt = refl
  entry-below (e ∷ J) l s lt = by_event e (l.1).noted (entry-below J l.0 s lt)
    where
      keep : (e : LaneEvent) → ((K : List LaneEvent) → entry_at s (e ∷ K) ≡ entry_at s K) → (t : Bool) → entry_at s (kept_below v J) ≡ entry_at s J → entry_at s (cond t (e ∷ kept_below v J) (kept_below v J)) ≡ entry_at s (e ∷ J)
      keep e f true ih = f (kept_below v J) ∙ ih ∙ sym (f J)
      keep e f false ih = ih ∙ sym (f J)

      left : (o : Option Entry) → or_else o None ≡ o
      left None = refl
      left (Some x) = refl

      by_event : (e : LaneEvent) → WellNoted J e → entry_at s (kept_below v J) ≡ entry_at s J → entry_at s (cond (kept v (history J) (meaning J e)) (e ∷ kept_below v J) (kept_below v J)) ≡ entry_at s (e ∷ J)
      by_event (Wrote k t) w ih = by_same (same_stamp t.stamp s) refl
        where
          by_same : (u : Bool) → same_stamp t.stamp s ≡ u → entry_at s (cond (keeps_line v (began k (history J))) (Wrote k t ∷ kept_below v J) (kept_below v J)) ≡ or_else (entry_at s J) (only_if u t)
          by_same true e =
              let bound = stamp-bound S.acks P (history J) (under-legal S P J l.0) k w.begin t.stamp w.begun w.stamped in
              let low : (w.begin).version < v = (let x = bound.0 in let y = same_stamp-version t.stamp s e in omega arith) in
              let kp : keeps_line v (began k (history J)) ≡ true = rw w.begun (lt-true (w.begin).version v low) in
              rw (kp, ih, e) refl
          by_same false e = by_kept (keeps_line v (began k (history J)))
            where
              by_kept : (x : Bool) → entry_at s (cond x (Wrote k t ∷ kept_below v J) (kept_below v J)) ≡ or_else (entry_at s J) None
              by_kept true = rw (ih, e) refl
              by_kept false = ih ∙ sym (left (entry_at s J))
      by_event e w ih = keep e (λ K. refl) (kept v (history J) (meaning J e)) ih

  -- no entry of v or above is kept
  entry-none : (J : List LaneEvent) → Under S P J → (s : Stamp) → v ≤ s.version → entry_at s (kept_below v J) ≡ None
  entry-none [] l s high = refl
  entry-none (e ∷ J) l s high = by_event e (l.1).noted (entry-none J l.0 s high)
    where
      keep : (e : LaneEvent) → ((K : List LaneEvent) → entry_at s (e ∷ K) ≡ entry_at s K) → (t : Bool) → entry_at s (kept_below v J) ≡ None → entry_at s (cond t (e ∷ kept_below v J) (kept_below v J)) ≡ None
      keep e f true ih = f (kept_below v J) ∙ ih
      keep e f false ih = ih

      by_event : (e : LaneEvent) → WellNoted J e → entry_at s (kept_below v J) ≡ None → entry_at s (cond (kept v (history J) (meaning J e)) (e ∷ kept_below v J) (kept_below v J)) ≡ None
      by_event (Wrote k t) w ih = by_kept (keeps_line v (began k (history J))) refl
        where
          by_kept : (x : Bool) → keeps_line v (began k (history J)) ≡ x → entry_at s (cond x (Wrote k t ∷ kept_below v J) (kept_below v J)) ≡ None
          by_kept false e = ih
          by_kept true e = by_same (same_stamp t.stamp s) refl
            where
              by_same : (u : Bool) → same_stamp t.stamp s ≡ u → or_else (entry_at s (kept_below v J)) (only_if u t) ≡ None
              by_same false f = rw ih refl
              by_same true f =
                  let bound = stamp-bound S.acks P (history J) (under-legal S P J l.0) k w.begin t.stamp w.begun w.stamped in
                  let x = bound.0 in let y = same_stamp-version t.stamp s f in let z = line-version S.acks P v (history J) k w.begin w.begun e in absurd (omega arith)
      by_event e w ih = keep e (λ K. refl) (kept v (history J) (meaning J e)) ih

  entry-back : (J : List LaneEvent) → Under S P J → (s : Stamp) (t : Entry) → entry_at s (kept_below v J) ≡ Some t → entry_at s J ≡ Some t
  entry-back J l s t h = elim (cases_lt s.version v) [
    | inl less ↦ sym (entry-below J l s less) ∙ h
    | inr more ↦ (let x = entry-none J l s more in absurd (let z : ◌≡◌ {A = Option Entry} None (Some t) = sym x ∙ h in cc))
  ]

  written-below : (J : List LaneEvent) → Under S P J → (s : Stamp) → s.version < v → written s (kept_below v J) ≡ written s J
  written-below J l s lt = ap id_in (entry-below J l s lt)

  pick-below : (J : List LaneEvent) → Under S P J → (id : Id) (ss : List Stamp) → Each (λ s. s.version < v) ss → pick (kept_below v J) id ss ≡ pick J id ss
  pick-below J l id [] h = refl
  pick-below J l id (s ∷ ss) h = rw (written-below J l s h.0, pick-below J l id ss h.1) refl

  content-below : (J : List LaneEvent) → Under S P J → (ss : List Stamp) → Each (λ s. s.version < v) ss → content (kept_below v J) ss ≡ content J ss
  content-below J l ss h = λ i id. pick-below J l id ss h i

  -- ---- the stamps of a kept event are below v

  fresh-sent : (J : Journal) (k w d n : ℕ) (b : Body) → sent k J ≡ None → sent k (plain.Sent k w d n b ∷ J) ≡ Some (record { version = w; receiver = n; body = b; round = round_in w b J })
  fresh-sent J k w d n b h = rw (h, eq-eqb k k refl) refl

  apply-lows : (J : List LaneEvent) → Under S P J → (k w d n : ℕ) (b : Bucket) (ss : List Stamp) → w < v → Each (λ s. IsEntry J ss s) ss → MaySend P (history J) k w d n (plain.Apply b (content J ss)) → Each (λ s. s.version < v) ss
  apply-lows J l k w d n b ss lt h p =
      let lJ = under-legal S P J l in
      let f = bounds S.acks P (plain.Sent k w d n (plain.Apply b (content J ss)) ∷ history J) (lJ, p) in
      each-map _ _ (λ s x.
      let z = f.carries k (record { version = w; receiver = n; body = plain.Apply b (content J ss); round = round_in w (plain.Apply b (content J ss)) (history J) }) b (content J ss) x.id s (fresh-sent (history J) k w d n (plain.Apply b (content J ss)) (number-fresh P (history J) k w d n _ p)) refl x.newest in below_of s z) ss h
    where
      below_of : (s : Stamp) → s.version ≤ w → s.version < v
      below_of s h = omega arith

  sent-low : (J : List LaneEvent) → Under S P J → (k w d n : ℕ) (b : NotedBody) → w < v → NamesSent J b → MaySend P (history J) k w d n (meaning_body J b) → meaning_body (kept_below v J) b ≡ meaning_body J b
  sent-low J l k w d n (Store s) lt h p =
      let c : Carries (history J) w n (id_at (written s J)) s = p.carries in
      let o = (c.belongs).is_open in
      let bound = stamp-bound S.acks P (history J) (under-legal S P J l) (c.belongs).line (c.belongs).begin s o.began c.stamped in
      rw (written-below J l s (let x = bound.0 in let y = o.version in omega arith)) refl
  sent-low J l k w d n (Apply b ss) lt h p = ap (λ (u : Content). plain.Apply b u) (content-below J l ss (apply-lows J l k w d n b ss lt h.1 p))
  sent-low J l k w d n Ask lt h p = refl
  sent-low J l k w d n (Read b None) lt h p = refl
  sent-low J l k w d n (Read b (Some i)) lt h p = refl
  sent-low J l k w d n (Delete b s) lt h p = refl
  sent-low J l k w d n (Split b) lt h p = refl
  sent-low J l k w d n (Join b) lt h p = refl
  sent-low J l k w d n (Ready b) lt h p = refl
  sent-low J l k w d n (Activate b) lt h p = refl

  held-low : (J : List LaneEvent) → Under S P J → (n : ℕ) → version n (history J) < v → (ss : List Stamp) → Each (λ s. IsHeld J n s) ss → Each (λ s. s.version < v) ss
  held-low J l n low ss h = each-map _ _ (λ s x. below_of s (let f = bounds S.acks P (history J) (under-legal S P J l) in f.stores n x.id s x.holds)) ss h
    where
      below_of : (s : Stamp) → s.version ≤ version n (history J) → s.version < v
      below_of s h = omega arith

  reply-low : (J : List LaneEvent) → Under S P J → (k : ℕ) (r : NotedReply) → NamesReplied J k r → MayDeliver (history J) k (meaning_reply J r) → keeps v (meaning_reply J r) (sent k (history J)) ≡ true → meaning_reply (kept_below v J) r ≡ meaning_reply J r
  reply-low J l k (Answer ps ss) h p q =
      let kb = keeps-both S.acks P v p.message (meaning_reply J (Answer ps ss)) (rw p.was_sent at q) in
      let low = replies-version S.acks P v (history J) p.message (meaning_reply J (Answer ps ss)) p.reply kb.0 kb.1 in
      ap (λ (u : Content). plain.Answer u (names ps)) (content-below J l ss (held-low J l (p.message).receiver low ss (h p.message p.was_sent).held))
  reply-low J l k (Newer w) h p q = refl
  reply-low J l k NoBucket h p q = refl
  reply-low J l k Differs h p q = refl
  reply-low J l k NoMemory h p q = refl

  meaning-below : (J : List LaneEvent) → Under S P J → (e : LaneEvent) → kept v (history J) (meaning J e) ≡ true → WellNoted J e → Permits S.acks P (history J) (meaning J e) → meaning (kept_below v J) e ≡ meaning J e
  meaning-below J l (Sent k w d n b) q h p = ap (λ (x : Body). plain.Sent k w d n x) (sent-low J l k w d n b (true-lt w v q) h p)
  meaning-below J l (Delivered k r) q h p = ap (λ (x : Reply). plain.Delivered k x) (reply-low J l k r h p q)
  meaning-below J l (Published s) q h p = refl
  meaning-below J l (Heard d w) q h p = refl
  meaning-below J l (Begun k d w id s) q h p = refl
  meaning-below J l (Refused k d w) q h p = refl
  meaning-below J l (Opened d w rows) q h p = refl
  meaning-below J l (Prepared k b set) q h p = refl
  meaning-below J l (Wrote k t) q h p = refl
  meaning-below J l (Returned k) q h p = refl
  meaning-below J l (Closed k ok) q h p = refl
  meaning-below J l (Decided d w x) q h p = refl
  meaning-below J l (Stopped n) q h p = refl
  meaning-below J l (Started n) q h p = refl

  -- what is kept of the list means what is kept of its history
  pub history-below : (J : List LaneEvent) → Under S P J → history (kept_below v J) ≡ below v (history J)
  history-below [] l = refl
  history-below (e ∷ J) l = by_kept (kept v (history J) (meaning J e)) refl (history-below J l.0)
    where
      by_kept : (t : Bool) → kept v (history J) (meaning J e) ≡ t → history (kept_below v J) ≡ below v (history J) → history (cond t (e ∷ kept_below v J) (kept_below v J)) ≡ cond t (meaning J e ∷ below v (history J)) (below v (history J))
      by_kept true q ih = rw (meaning-below J l.0 e q (l.1).noted (l.1).permitted, ih) refl
      by_kept false q ih = ih

  -- ---- what is named

  rising-held : (J : List LaneEvent) → Under S P J → (m : Message) → version m.receiver (history J) < v → (ps : List Piece) (ss : List Stamp) → NamesShown J m ps ss → NamesShown (kept_below v J) m ps ss
  rising-held J l m low ps ss h = record {
    rising = h.rising;
    held = each-zip _ _ _ (λ s lt x. record {
      id = x.id;
      wrote = written-below J l s lt ∙ x.wrote;
      holds = ap (λ (y : Journal). store m.receiver x.id y) (history-below J l) ∙ (view S.acks P v (history J) lJ m.receiver).stores x.id ∙ base-low S.acks P v m.receiver x.id (history J) low ∙ x.holds;
    }) ss lows h.held;
    asked = asked' m.body h.asked;
    shown = subst (λ (K : Journal). PiecesShown K m.receiver m.body ps) (sym (history-below J l)) (shown' m.body h.shown);
  }
    where
      lJ : Legal S.acks P (history J)
      lJ = under-legal S P J l

      lows : Each (λ s. s.version < v) ss
      lows = held-low J l m.receiver low ss h.held

      asked' : (b : Body) → EntriesShown J b ss → EntriesShown (kept_below v J) b ss
      asked' (plain.ReadDoc id) a = each-zip _ _ _ (λ s lt x. written-below J l s lt ∙ x) ss lows a
      asked' (plain.Read b) a = tt
      asked' plain.Ask a = a
      asked' (plain.Store i s) a = a
      asked' (plain.Apply b u) a = a
      asked' (plain.Delete b s) a = a
      asked' (plain.Split b) a = a
      asked' (plain.Join b) a = a
      asked' (plain.Ready b) a = a
      asked' (plain.Activate b) a = a

      same-pieces : pieces m.receiver (below v (history J)) ≡ pieces m.receiver (history J)
      same-pieces = (view S.acks P v (history J) lJ m.receiver).shapes low

      shown' : (b : Body) → PiecesShown (history J) m.receiver b ps → PiecesShown (below v (history J)) m.receiver b ps
      shown' plain.Ask a = subst (λ (qs : List NodePiece). ShowsPieces ps qs (λ b. true)) (sym same-pieces) a
      shown' (plain.Read b) a = subst (λ (qs : List NodePiece). ShowsPieces ps qs (λ c. meets b c)) (sym same-pieces) a
      shown' (plain.ReadDoc id) a = a
      shown' (plain.Store i s) a = a
      shown' (plain.Apply b u) a = a
      shown' (plain.Delete b s) a = a
      shown' (plain.Split b) a = a
      shown' (plain.Join b) a = a
      shown' (plain.Ready b) a = a
      shown' (plain.Activate b) a = a

  sent-noted : (J : List LaneEvent) → Under S P J → (k w d n : ℕ) (b : NotedBody) → w < v → NamesSent J b → MaySend P (history J) k w d n (meaning_body J b) → NamesSent (kept_below v J) b
  sent-noted J l k w d n (Store s) lt h p =
      let c : Carries (history J) w n (id_at (written s J)) s = p.carries in
      let o = (c.belongs).is_open in
      let bound = stamp-bound S.acks P (history J) (under-legal S P J l) (c.belongs).line (c.belongs).begin s o.began c.stamped in
      (h.0, written-below J l s (let x = bound.0 in let y = o.version in omega arith) ∙ h.1)
  sent-noted J l k w d n (Apply b ss) lt h p =
      let lows = apply-lows J l k w d n b ss lt h.1 p in
      (h.0, each-zip _ _ _ (λ s lt x. record { id = x.id; wrote = written-below J l s lt ∙ x.wrote; newest = pick-below J l x.id ss lows ∙ x.newest }) ss lows h.1)
  sent-noted J l k w d n (Read b (Some id)) lt h p = h
  sent-noted J l k w d n (Read b None) lt h p = tt
  sent-noted J l k w d n Ask lt h p = tt
  sent-noted J l k w d n (Delete b s) lt h p = tt
  sent-noted J l k w d n (Split b) lt h p = tt
  sent-noted J l k w d n (Join b) lt h p = tt
  sent-noted J l k w d n (Ready b) lt h p = tt
  sent-noted J l k w d n (Activate b) lt h p = tt

  noted-below : (J : List LaneEvent) → Under S P J → (e : LaneEvent) → kept v (history J) (meaning J e) ≡ true → WellNoted J e → Permits S.acks P (history J) (meaning J e) → WellNoted (kept_below v J) e
  noted-below J l (Wrote k t) q h p =
      let lt = line-version S.acks P v (history J) k h.begin h.begun q in
      record { begin = h.begin; begun = subst (λ (x : Journal). began k x ≡ Some h.begin) (sym (history-below J l)) (began-below S.acks P v (history J) (under-legal S P J l) k h.begin h.begun lt); stamped = h.stamped; same_id = h.same_id }
  noted-below J l (Sent k w d n b) q h p = sent-noted J l k w d n b (true-lt w v q) h p
  noted-below J l (Delivered k (Answer ps ss)) q h p = λ m s.
      let s' = (sent-back S.acks P v (history J) (under-legal S P J l) k m (subst (λ (x : Journal). sent k x ≡ Some m) (history-below J l) s)).0 in
      let same : p.message ≡ m = (let x = p.was_sent in cc) in
      let kb = keeps-both S.acks P v p.message (meaning_reply J (Answer ps ss)) (rw p.was_sent at q) in
      let low' = replies-version S.acks P v (history J) p.message (meaning_reply J (Answer ps ss)) p.reply kb.0 kb.1 in
      rising-held J l m (subst (λ (x : Message). version x.receiver (history J) < v) same low') ps ss (h m s')
  noted-below J l (Delivered k _) q h p = tt
  noted-below J l _ q h p = tt

  -- ---- places

  state_in-below : (J : List LaneEvent) (w : ℕ) → w < v → state_in w (kept_below v J) ≡ state_in w J
  state_in-below [] w lt = refl
  state_in-below (e ∷ J) w lt = by_event e (state_in-below J w lt)
    where
      keep : (e : LaneEvent) → ((K : List LaneEvent) → state_in w (e ∷ K) ≡ state_in w K) → (t : Bool) → state_in w (kept_below v J) ≡ state_in w J → state_in w (cond t (e ∷ kept_below v J) (kept_below v J)) ≡ state_in w (e ∷ J)
      keep e f true ih = f (kept_below v J) ∙ ih ∙ sym (f J)
      keep e f false ih = ih ∙ sym (f J)

      left : (o : Option ClusterState) → o ≡ or_else o None
      left None = refl
      left (Some x) = refl

      other : (x : ℕ) → ltb x v ≡ false → eqb x w ≡ false
      other x h = grind (arith, nat_tests)

      by_event : (e : LaneEvent) → state_in w (kept_below v J) ≡ state_in w J → state_in w (cond (kept v (history J) (meaning J e)) (e ∷ kept_below v J) (kept_below v J)) ≡ state_in w (e ∷ J)
      by_event (Published t) ih = by_kept (ltb t.version v) refl
        where
          by_kept : (x : Bool) → ltb t.version v ≡ x → state_in w (cond x (Published t ∷ kept_below v J) (kept_below v J)) ≡ or_else (state_in w J) (only_if (eqb t.version w) t)
          by_kept true h = rw ih refl
          by_kept false h = rw (other t.version h) (ih ∙ left (state_in w J))
      by_event e ih = keep e (λ K. refl) (kept v (history J) (meaning J e)) ih

  receivers-below : (J : List LaneEvent) (w : ℕ) (b : Bucket) → w < v → receivers_of w b (kept_below v J) ≡ receivers_of w b J
  receivers-below [] w b lt = refl
  receivers-below (e ∷ J) w b lt = by_event e (receivers-below J w b lt)
    where
      keep : (e : LaneEvent) → ((K : List LaneEvent) → receivers_of w b (e ∷ K) ≡ receivers_of w b K) → (t : Bool) → receivers_of w b (kept_below v J) ≡ receivers_of w b J → receivers_of w b (cond t (e ∷ kept_below v J) (kept_below v J)) ≡ receivers_of w b (e ∷ J)
      keep e f true ih = f (kept_below v J) ∙ ih ∙ sym (f J)
      keep e f false ih = ih ∙ sym (f J)

      other : (x : ℕ) → ltb x v ≡ false → eqb x w ≡ false
      other x h = grind (arith, nat_tests)

      by_event : (e : LaneEvent) → receivers_of w b (kept_below v J) ≡ receivers_of w b J → receivers_of w b (cond (kept v (history J) (meaning J e)) (e ∷ kept_below v J) (kept_below v J)) ≡ receivers_of w b (e ∷ J)
      by_event (Decided d x (RoundBegun c set)) ih = by_kept (ltb x v) refl
        where
          by_kept : (t : Bool) → ltb x v ≡ t → receivers_of w b (cond t (Decided d x (RoundBegun c set) ∷ kept_below v J) (kept_below v J)) ≡ cond (eqb x w) (cond (same_bucket c b) (Some set) (receivers_of w b J)) (receivers_of w b J)
          by_kept true h = rw ih refl
          by_kept false h = rw (other x h) ih
      by_event (Decided d x (RoundEnded c set)) ih = keep (Decided d x (RoundEnded c set)) (λ K. refl) (ltb x v) ih
      by_event (Decided d x (RowSplit c)) ih = keep (Decided d x (RowSplit c)) (λ K. refl) (ltb x v) ih
      by_event (Decided d x (RowsJoined c)) ih = keep (Decided d x (RowsJoined c)) (λ K. refl) (ltb x v) ih
      by_event (Decided d x (ActiveOn c n)) ih = keep (Decided d x (ActiveOn c n)) (λ K. refl) (ltb x v) ih
      by_event (Decided d x (DeleteFrom c n s)) ih = keep (Decided d x (DeleteFrom c n s)) (λ K. refl) (ltb x v) ih
      by_event (Decided d x (DeleteOver c n)) ih = keep (Decided d x (DeleteOver c n)) (λ K. refl) (ltb x v) ih
      by_event e ih = keep e (λ K. refl) (kept v (history J) (meaning J e)) ih

  owns-below : (J : List LaneEvent) (d w : ℕ) → w < v → Owns S J d w → Owns S (kept_below v J) d w
  owns-below J d w lt o = record { state = o.state; published = state_in-below J w lt ∙ o.published; owner = o.owner }

  among-below : (J : List LaneEvent) (w n : ℕ) (b : Bucket) → w < v → IsAmongFirst S J w b n → IsAmongFirst S (kept_below v J) w b n
  among-below J w n b lt a = record { state = a.state; published = state_in-below J w lt ∙ a.published; ideal = a.ideal; is_ideal = a.is_ideal; among = a.among }

  among-back : (J : List LaneEvent) (w n : ℕ) (b : Bucket) → w < v → IsAmongFirst S (kept_below v J) w b n → IsAmongFirst S J w b n
  among-back J w n b lt a = record { state = a.state; published = sym (state_in-below J w lt) ∙ a.published; ideal = a.ideal; is_ideal = a.is_ideal; among = a.among }

  target-below : (J : List LaneEvent) → Under S P J → (w n : ℕ) (b : Bucket) → w < v → IsTarget S J w b n → IsTarget S (kept_below v J) w b n
  target-below J l w n b lt (inl a) = inl (among-below J w n b lt a)
  target-below J l w n b lt (inr a) = inr (subst (λ (K : Journal). IsActive w b n K) (sym (history-below J l)) (λ key i. active-below v w lt (history J) key ∙ a key i))

  target-back : (J : List LaneEvent) → Under S P J → (w n : ℕ) (b : Bucket) → w < v → IsTarget S (kept_below v J) w b n → IsTarget S J w b n
  target-back J l w n b lt (inl a) = inl (among-back J w n b lt a)
  target-back J l w n b lt (inr a) = inr (let a' : IsActive w b n (below v (history J)) = subst (λ (K : Journal). IsActive w b n K) (history-below J l) a in λ key i. sym (active-below v w lt (history J) key) ∙ a' key i)

  row-kept : (J : List LaneEvent) → Under S P J → (w : ℕ) (b : Bucket) → w < v → IsRow w b (history J) → IsRow w b (history (kept_below v J))
  row-kept J l w b lt r = subst (λ (K : Journal). IsRow w b K) (sym (history-below J l)) (row-below S.acks P v (history J) w b lt r)

  names_row-below : (J : List LaneEvent) → Under S P J → (w : ℕ) (b : Bucket) → w < v → NamesRow w b (history J) → NamesRow w b (history (kept_below v J))
  names_row-below J l w b lt (inl r) = inl (row-kept J l w b lt r)
  names_row-below J l w b lt (inr (inl r)) = inr (inl (r.0, row-kept J l w r.0 lt r.1, r.2))
  names_row-below J l w b lt (inr (inr r)) = inr (inr (row-kept J l w _ lt r.0, row-kept J l w _ lt r.1))

  member-back : (J : List LaneEvent) → Under S P J → (w m : ℕ) (b : Bucket) → w < v → IsMember w m b (history (kept_below v J)) → IsMember w m b (history J)
  member-back J l w m b lt h = let h' : IsMember w m b (below v (history J)) = subst (λ (K : Journal). IsMember w m b K) (history-below J l) h in λ key i. sym (complete-below S.acks P v (history J) (under-legal S P J l) w m lt key) ∙ h' key i

  named-below : (J : List LaneEvent) → Under S P J → (w : ℕ) (c : Bucket) → w < v → WasNamed w c (history J) → WasNamed w c (history (kept_below v J))
  named-below J l w c lt n = subst (λ (K : Journal). WasNamed w c K) (sym (history-below J l)) (record {
    node = n.node;
    serves = state-below v w lt (history J) n.node ∙ n.serves;
    given = n.given;
    answer = asked-below S.acks P v (history J) (under-legal S P J l) w n.node lt ∙ n.answer;
    serial = n.serial;
    names = n.names;
  })

  named-back : (J : List LaneEvent) → Under S P J → (w : ℕ) (c : Bucket) → w < v → WasNamed w c (history (kept_below v J)) → WasNamed w c (history J)
  named-back J l w c lt h = let n : WasNamed w c (below v (history J)) = subst (λ (K : Journal). WasNamed w c K) (history-below J l) h in record {
    node = n.node;
    serves = sym (state-below v w lt (history J) n.node) ∙ n.serves;
    given = n.given;
    answer = sym (asked-below S.acks P v (history J) (under-legal S P J l) w n.node lt) ∙ n.answer;
    serial = n.serial;
    names = n.names;
  }

  partition-below : (J : List LaneEvent) → Under S P J → (w : ℕ) (rows : List Bucket) → w < v → IsPartition S (history J) w rows → IsPartition S (history (kept_below v J)) w rows
  partition-below J l w rows lt p = record {
    valid = p.valid;
    parts = p.parts;
    whole = λ b c h n e. p.whole b c h (named-back J l w c lt n) e;
    coarsest = λ b h. elim (p.coarsest b h) [ inl is ↦ inl is | inr c ↦ inr (c.0, named-below J l w c.0 lt c.1, c.2, c.3) ];
  }

  body-placed : (J : List LaneEvent) → Under S P J → (w n : ℕ) (b : NotedBody) → w < v → PlacedBody S J w n b → PlacedBody S (kept_below v J) w n b
  body-placed J l w n (Apply b ss) lt p = (p.0, receivers-below J w b lt ∙ p.1, p.2)
  body-placed J l w n (Split b) lt p = names_row-below J l w b lt p
  body-placed J l w n (Join b) lt p = names_row-below J l w b lt p
  body-placed J l w n (Ready b) lt p = names_row-below J l w b lt p
  body-placed J l w n _ lt p = tt

  decision-placed : (J : List LaneEvent) → Under S P J → (w : ℕ) (x : Decision) → w < v → PlacedDecision S J w x → PlacedDecision S (kept_below v J) w x
  decision-placed J l w (RoundBegun b set) lt p = λ n. ((λ h. target-below J l w n b lt ((p n).0 h)), (λ t. (p n).1 (target-back J l w n b lt t)))
  decision-placed J l w (RowsJoined q) lt p = p
  decision-placed J l w (ActiveOn b n) lt p = (
    subst (λ (K : Journal). AnsweredReady w n b K) (sym (history-below J l)) (ready-below S.acks P v (history J) (under-legal S P J l) w n b lt p.0),
    record {
      state = p.1.state;
      published = state_in-below J w lt ∙ p.1.published;
      ideal = p.1.ideal;
      is_ideal = p.1.is_ideal;
      listed = p.1.listed;
      first = λ m h k. p.1.first m h (member-back J l w m b lt k);
    },
  )
  decision-placed J l w (DeleteFrom b n s) lt p = λ t. p (target-back J l w n b lt t)
  decision-placed J l w (RoundEnded b set) lt p = tt
  decision-placed J l w (RowSplit b) lt p = tt
  decision-placed J l w (DeleteOver b n) lt p = tt

  elsewhere-below : (J : List LaneEvent) (d : ℕ) (x : Outcome) → version_in x < v → IsElsewhere S J d x → IsElsewhere S (kept_below v J) d x
  elsewhere-below J d (OwnedElsewhere owner w) lt p = (owns-below J owner w lt p.0, p.1)
  elsewhere-below J d (outcome.Acked s) lt p = absurd p
  elsewhere-below J d (outcome.Nothing s) lt p = absurd p
  elsewhere-below J d (outcome.Found s) lt p = absurd p
  elsewhere-below J d (outcome.Missing s) lt p = absurd p
  elsewhere-below J d (outcome.ConditionFailed s) lt p = absurd p
  elsewhere-below J d (outcome.BadUpdate fault) lt p = absurd p
  elsewhere-below J d (outcome.TooFew a n x) lt p = absurd p
  elsewhere-below J d outcome.NoMemory lt p = absurd p

  placed-below : (J : List LaneEvent) → Under S P J → (e : LaneEvent) → kept v (history J) (meaning J e) ≡ true → Placed S J e → Placed S (kept_below v J) e
  placed-below J l (Published s) q p = p
  placed-below J l (Begun line d w id s) q p = (owns-below J d w (true-lt w v q) p.0, p.1)
  placed-below J l (Refused line d x) q p = elsewhere-below J d x (true-lt (version_in x) v q) p
  placed-below J l (Opened d w rows) q p = (owns-below J d w (true-lt w v q) p.0, partition-below J l w rows (true-lt w v q) p.1)
  placed-below J l (Sent k w d n b) q p = (owns-below J d w (true-lt w v q) p.0, body-placed J l w n b (true-lt w v q) p.1)
  placed-below J l (Decided d w x) q p = (owns-below J d w (true-lt w v q) p.0, decision-placed J l w x (true-lt w v q) p.1)
  placed-below J l _ q p = tt

  -- ---- outcomes

  seen-below : (J : Journal) → Legal S.acks P J → (line : ℕ) (b : Beginning) (seen : Option Stamp) → began line J ≡ Some b → b.version < v → HasSeen S.acks J line b seen → HasSeen S.acks (below v J) line b seen
  seen-below J l line b seen f lt h = record {
    preparing = h.preparing;
    was_prepared = prepared-below S.acks P v line J l (low-line S.acks P v line J b f lt) ∙ h.was_prepared;
    enough = AtLeast-map (λ n k. (k.0, (k.1.0, read-below S.acks P v J l n line b k.1.0 f lt k.1.1))) h.enough;
    newest = λ n content r. h.newest n content (read-back S.acks P v J l n line b content f lt r);
    shown = λ s e. let x = h.shown s e in (x.0, x.1, read-below S.acks P v J l x.0 line b x.1 f lt x.2, x.3);
  }

  document-back : (J : List LaneEvent) → Under S P J → (s : Stamp) → IsDocument (kept_below v J) s → IsDocument J s
  document-back J l s d = record { entry = d.entry; at = entry-back J l s d.entry d.at; document = d.document }

  no_document-below : (J : List LaneEvent) → Under S P J → (seen : Option Stamp) → NoDocument J seen → NoDocument (kept_below v J) seen
  no_document-below J l None h = tt
  no_document-below J l (Some s) h = λ d. h (document-back J l s d)

  -- what was seen is below v
  seen-low : (J : Journal) → Legal S.acks P J → (line : ℕ) (b : Beginning) (s : Stamp) → b.version < v → HasSeen S.acks J line b (Some s) → s.version < v
  seen-low J l line b s lt h =
      let x = h.shown s refl in
      let r = (x.2).read in
      let z = look-bound S.acks P v J l r.number r.message b.id x.1 r.names s r.was_sent r.body r.reply x.3 in
      let y = r.version in omega arith

  short-map : (A B A' B' : ℕ → Type 0) (many absent : ℕ) → ((n : ℕ) → A n → A' n) → ((n : ℕ) → A' n → A n) → ((n : ℕ) → B n → B' n) → ((n : ℕ) → B' n → B n) → FellShort A B many absent → FellShort A' B' many absent
  short-map A B A' B' many absent a a' b b' f = (
    (f.0.0, f.0.1, λ n. ((λ h. let x = (f.0.2 n).0 h in (a n x.0, b n x.1)), (λ y. (f.0.2 n).1 (a' n y.0, b' n y.1)))),
    a absent f.1,
    λ y. f.2 (b' absent y),
  )

  counts-below : (J : Journal) (w : ℕ) → w < v → count (λ n. state_of (below v J) w n) ≡ count (λ n. state_of J w n)
  counts-below J w lt = λ i. count (λ n. state-below v w lt J n i)

  opening-below : (J : Journal) → Legal S.acks P J → (w a n x : ℕ) → w < v → OpeningFellShort J w a n x → OpeningFellShort (below v J) w a n x
  opening-below J l w a n x lt p = (p.0 ∙ sym (counts-below J w lt), short-map _ _ _ _ a x (λ m h. state-below v w lt J m ∙ h) (λ m h. sym (state-below v w lt J m) ∙ h) (λ m h. ask-below S.acks P v J l w m lt h) (λ m h. ask-back S.acks P v J l w m h) p.1)

  round-below : (J : Journal) → Legal S.acks P J → (w : ℕ) (row : Bucket) (a n x : ℕ) → w < v → RoundFellShort J w row a n x → RoundFellShort (below v J) w row a n x
  round-below J l w row a n x lt p = (p.0 ∙ sym (counts-below J w lt), short-map _ _ _ _ a x (λ m h. state-below v w lt J m ∙ h) (λ m h. sym (state-below v w lt J m) ∙ h) (λ m h. (h.0, same m ∙ h.1)) (λ m h. (h.0, sym (same m) ∙ h.1)) p.1)
    where
      same : (m : ℕ) → answer w (round_of w row (below v J)) m (below v J) ≡ answer w (round_of w row J) m J
      same m = ap (λ (r : ℕ). answer w r m (below v J)) (round_of-below v w lt row J) ∙ answer-below S.acks P v J l w (round_of w row J) m lt

  union-below : (J : List LaneEvent) → (l : Under S P J) → (w key : ℕ) (row : Bucket) (a n x : ℕ) → w < v → UnionFellShort S J w key row a n x → UnionFellShort S (kept_below v J) w key row a n x
  union-below J l w key row a n x lt p = (
    p.0,
    p.1,
    (p.2.0, p.2.1, λ m. ((λ h. same m ∙ (p.2.2 m).0 h), (λ h. (p.2.2 m).1 (sym (same m) ∙ h)))),
    (p.3.0, receivers-below J w row lt ∙ p.3.1, p.3.2),
    λ y. p.4 (let y' : AnsweredApply w (round_of w row (below v (history J))) x row (below v (history J)) = subst (λ (K : Journal). AnsweredApply w (round_of w row K) x row K) (history-below J l) y in
        apply-back S.acks P v (history J) lJ w (round_of w row (history J)) x row (subst (λ (r : ℕ). AnsweredApply w r x row (below v (history J))) (round_of-below v w lt row (history J)) y')),
  )
    where
      lJ : Legal S.acks P (history J)
      lJ = under-legal S P J l

      same : (m : ℕ) → complete w m key (history (kept_below v J)) ≡ complete w m key (history J)
      same m = ap (λ (K : Journal). complete w m key K) (history-below J l) ∙ complete-below S.acks P v (history J) lJ w m lt key

  reads-below : (J : Journal) → Legal S.acks P J → (line : ℕ) (b : Beginning) (p : Preparing) (a n x : ℕ) → began line J ≡ Some b → b.version < v → ReadsFellShort S.acks J line b p a n x → ReadsFellShort S.acks (below v J) line b p a n x
  reads-below J l line b p a n x f lt h = (h.0, h.1, short-map _ _ _ _ a x (λ m y. y) (λ m y. y) (λ m y. (y.0, read-below S.acks P v J l m line b y.0 f lt y.1)) (λ m y. (y.0, read-back S.acks P v J l m line b y.0 f lt y.1)) h.2)

  stores-below : (J : Journal) → Legal S.acks P J → (b : Beginning) (p : Preparing) (s : Stamp) (a n x : ℕ) → b.version < v → StoresFellShort S.acks J b p s a n x → StoresFellShort S.acks (below v J) b p s a n x
  stores-below J l b p s a n x lt h = (
    h.0,
    elim h.1 [ inl few ↦ inl few | inr act ↦ inr (active-below v b.version lt J (key_of b.id) ∙ act) ],
    short-map _ _ _ _ a x (λ m y. y) (λ m y. y) (λ m y. answered_store-below S.acks P v J l b.version b.id s m lt ∙ y) (λ m y. sym (answered_store-below S.acks P v J l b.version b.id s m lt) ∙ y) h.2,
  )

  -- ---- a line that isn't prepared

  under-front : (later moment : List LaneEvent) → Under S P (later ++ moment) → Under S P moment
  under-front [] moment l = l
  under-front (e ∷ later) moment l = under-front later moment l.0

  below-front : (later moment : List LaneEvent) → (rest : List LaneEvent) × (kept_below v (later ++ moment) ≡ rest ++ kept_below v moment)
  below-front [] moment = ([], refl)
  below-front (e ∷ later) moment = by_kept (kept v (history (later ++ moment)) (meaning (later ++ moment) e)) (below-front later moment)
    where
      by_kept : (t : Bool) → (rest : List LaneEvent) × (kept_below v (later ++ moment) ≡ rest ++ kept_below v moment)
          → (rest : List LaneEvent) × (cond t (e ∷ kept_below v (later ++ moment)) (kept_below v (later ++ moment)) ≡ rest ++ kept_below v moment)
      by_kept true ih = (e ∷ ih.0, ap (λ (K : List LaneEvent). e ∷ K) ih.1)
      by_kept false ih = ih

  unprepared-below : (J : List LaneEvent) → (l : Under S P J) → (line : ℕ) (b : Beginning) → began line (history J) ≡ Some b → b.version < v → (a n y : ℕ) → UnpreparedFellShort S J line b a n y → UnpreparedFellShort S (kept_below v J) line b a n y
  unprepared-below J l line b f lt a n y h = record {
    unprepared = move (λ K. prepared line K ≡ None) (prepared-below S.acks P v line (history J) lJ (low-line S.acks P v line (history J) b f lt) ∙ h.unprepared);
    short = elim h.short [
      | inl o ↦ inl (move (λ K. opened b.version K ≡ false) (opened-below v b.version lt (history J) ∙ o.0), move (λ K. OpeningFellShort K b.version a n y) (opening-below (history J) lJ b.version a n y lt o.1))
      | inr r ↦ inr (
        r.0,
        move (λ K. row_at b.version (key_of b.id) K ≡ Some r.0) (row_at-below v b.version lt (history J) (key_of b.id) ∙ r.1),
        elim r.2 [
          | inl k ↦ inl (move (λ K. RoundFellShort K b.version r.0 a n y) (round-below (history J) lJ b.version r.0 a n y lt k))
          | inr k ↦ inr (union-below J l b.version (key_of b.id) r.0 a n y lt k)
        ],
      )
    ];
  }
    where
      lJ : Legal S.acks P (history J)
      lJ = under-legal S P J l

      move : (Q : Journal → Type 0) → Q (below v (history J)) → Q (history (kept_below v J))
      move Q q = subst Q (sym (history-below J l)) q

  end-below : (J : List LaneEvent) → (l : Under S P J) → (line : ℕ) (b : Beginning) (x : Outcome) → began line (history J) ≡ Some b → b.version < v → MayEnd S J line b x → MayEnd S (kept_below v J) line b x
  end-below J l line b x f lt = by_outcome x
    where
      H : Journal
      H = history J

      lJ : Legal S.acks P (history J)
      lJ = under-legal S P J l

      move : (Q : Journal → Type 0) → Q (below v (history J)) → Q (history (kept_below v J))
      move Q q = subst Q (sym (history-below J l)) q

      wrote' : (t : Bool) → wrote line (history J) ≡ t → wrote line (history (kept_below v J)) ≡ t
      wrote' t h = move (λ K. wrote line K ≡ t) (wrote-below S.acks P v line (history J) lJ (low-line S.acks P v line (history J) b f lt) ∙ h)

      seen' : (seen : Option Stamp) → HasSeen S.acks (history J) line b seen → HasSeen S.acks (history (kept_below v J)) line b seen
      seen' seen h = move (λ K. HasSeen S.acks K line b seen) (seen-below (history J) lJ line b seen f lt h)

      fallen : (a n y : ℕ) → HasFallenShort S J line b a n y → HasFallenShort S (kept_below v J) line b a n y
      fallen a n y h = let earlier = subst (Under S P) h.whole l in let later = below-front h.later h.moment in record {
        unprepared = move (λ K. prepared line K ≡ None) (prepared-below S.acks P v line (history J) lJ (low-line S.acks P v line (history J) b f lt) ∙ h.unprepared);
        moment = kept_below v h.moment;
        later = later.0;
        whole = ap (kept_below v) h.whole ∙ later.1;
        begun = subst (λ (K : Journal). began line K ≡ Some b) (sym (history-below h.moment (under-front h.later h.moment earlier))) (began-below S.acks P v (history h.moment) (under-legal S P h.moment (under-front h.later h.moment earlier)) line b h.begun lt);
        short = unprepared-below h.moment (under-front h.later h.moment earlier) line b h.begun lt a n y h.short;
      }

      ready : (a n y : ℕ) → PreparedFellShort S.acks (history J) line b a n y → PreparedFellShort S.acks (history (kept_below v J)) line b a n y
      ready a n y h = record {
        preparing = h.preparing;
        was_prepared = move (λ K. prepared line K ≡ Some h.preparing) (prepared-below S.acks P v line (history J) lJ (low-line S.acks P v line (history J) b f lt) ∙ h.was_prepared);
        short = elim h.short [
          | inl r ↦ inl (wrote' false r.0, move (λ K. ReadsFellShort S.acks K line b h.preparing a n y) (reads-below (history J) lJ line b h.preparing a n y f lt r.1))
          | inr s ↦ inr (s.0, s.1, wrote' true s.2, move (λ K. StoresFellShort S.acks K b h.preparing s.0 a n y) (stores-below (history J) lJ b h.preparing s.0 a n y lt s.3))
        ];
      }

      by_outcome : (x : Outcome) → MayEnd S J line b x → MayEnd S (kept_below v J) line b x
      by_outcome (Acked s) h = (h.0, wrote' true h.1)
      by_outcome (Nothing seen) h = (h.0, wrote' false h.1, seen' seen h.2, no_document-below J l seen h.3)
      by_outcome (Found s) h = (h.0, seen' (Some s) h.1, record { entry = (h.2).entry; at = entry-below J l s (seen-low (history J) lJ line b s lt h.1) ∙ (h.2).at; document = (h.2).document })
      by_outcome (Missing seen) h = (h.0, seen' seen h.1, no_document-below J l seen h.2)
      by_outcome (ConditionFailed seen) h = (h.0, wrote' false h.1, seen' seen h.2)
      by_outcome (BadUpdate fault) h = (h.0, wrote' false h.1, (h.2.0, seen' h.2.0 h.2.1))
      by_outcome (TooFew a n y) (inl h) = inl (fallen a n y h)
      by_outcome (TooFew a n y) (inr h) = inr (ready a n y h)
      by_outcome (OwnedElsewhere owner w) h = absurd h
      by_outcome outcome.NoMemory h = tt

  ended-below : (J : List LaneEvent) → Under S P J → (e : LaneEvent) → kept v (history J) (meaning J e) ≡ true → Ended S J e → Ended S (kept_below v J) e
  ended-below J l (Closed line x) q p =
      let lt = line-version S.acks P v (history J) line p.0 p.1 q in
      (p.0, subst (λ (K : Journal). began line K ≡ Some p.0) (sym (history-below J l)) (began-below S.acks P v (history J) (under-legal S P J l) line p.0 p.1 lt), end-below J l line p.0 x p.1 lt p.2)
  ended-below J l _ q p = tt

  -- ---- the law

  pub under-below : (J : List LaneEvent) → Under S P J → Under S P (kept_below v J)
  under-below [] l = tt
  under-below (e ∷ J) l = by_kept (kept v (history J) (meaning J e)) refl (under-below J l.0)
    where
      by_kept : (t : Bool) → kept v (history J) (meaning J e) ≡ t → Under S P (kept_below v J) → Under S P (cond t (e ∷ kept_below v J) (kept_below v J))
      by_kept true q ih = (
        ih,
        record {
          noted = noted-below J l.0 e q (l.1).noted (l.1).permitted;
          permitted = subst₂ (λ (x : Journal) (y : Event). Permits S.acks P x y) (sym (history-below J l.0)) (sym (meaning-below J l.0 e q (l.1).noted (l.1).permitted)) (permits-below S.acks P v (history J) (under-legal S P J l.0) (meaning J e) q (l.1).permitted);
          placed = placed-below J l.0 e q (l.1).placed;
          ended = ended-below J l.0 e q (l.1).ended;
        },
      )
      by_kept false q ih = ih

-- ---- states given or read off

pub kept-with : (S : Setting) (J : List LaneEvent) → IsLegal S J → (Q : ℕ → ℕ → Bool) → ((v n : ℕ) → published v (history J) ≡ true → state_of (history J) v n ≡ Q v n) → Under S Q J
kept-with S [] l Q same = tt
kept-with S (e ∷ J) l Q same =
    let P = state_of (history (e ∷ J)) in
    let ih = kept-with S J l.0 Q (λ v n h. sym (state-stays S.acks P (history J) (meaning J e) (l.1).permitted v n h) ∙ same v n (published-stays v (history J) (meaning J e) h)) in
    (ih, record { noted = (l.1).noted; permitted = permits-agree S.acks P Q (history J) (meaning J e) (under-legal S Q J ih) same (l.1).permitted; placed = (l.1).placed; ended = (l.1).ended })

pub kept-back : (S : Setting) (Q : ℕ → ℕ → Bool) (J : List LaneEvent) → Under S Q J → IsLegal S J
kept-back S Q [] l = tt
kept-back S Q (e ∷ J) l =
    let P = state_of (history (e ∷ J)) in
    let ih = kept-back S Q J l.0 in
    let legal = under-legal S P J (kept-with S J ih P (λ v n h. sym (state-stays S.acks Q (history J) (meaning J e) (l.1).permitted v n h))) in
    (ih, record { noted = (l.1).noted; permitted = permits-agree S.acks Q P (history J) (meaning J e) legal (λ v n h. sym (states-agree S.acks Q (history (e ∷ J)) (under-legal S Q (e ∷ J) l) v n h)) (l.1).permitted; placed = (l.1).placed; ended = (l.1).ended })

-- the events of versions below v are a legal journal
pub kept-law : (S : Setting) (J : List LaneEvent) → IsLegal S J → (v : ℕ) → IsLegal S (kept_below v J)
kept-law S J l v = kept-back S (state_of (history J)) (kept_below v J) (under-below S (state_of (history J)) v J (kept-with S J l (state_of (history J)) (λ w n h. refl)))

pub kept-history : (S : Setting) (J : List LaneEvent) → IsLegal S J → (v : ℕ) → history (kept_below v J) ≡ below v (history J)
kept-history S J l v = history-below S (state_of (history J)) v J (kept-with S J l (state_of (history J)) (λ w n h. refl))
