-- A line that may be closed with an outcome may be after others' events.
use Rattle.std.proofs.Common.{◌≡◌, ◌↔◌, ℕ, Bool, true, false, cond, List, [], ◌∷◌, Option, Some, None, inl, inr, refl, sym, ap, ◌∙◌, subst}
use Rattle.documents.specs.declared.entry.Entry.{Entry}
use Rattle.messages.specs.declared.noted.NotedReply.{NotedReply}
use Rattle.messages.specs.declared.noted.NotedReply.TheVariants as noted
use Rattle.messages.specs.declared.outcome.Outcome.{Outcome}
use Rattle.messages.specs.declared.outcome.Outcome.TheVariants as outcome
use Rattle.lane_journals.specs.Stamps.{Stamp}
use Rattle.lane_journals.specs.Buckets.{Id, same_id, key_of}
use Rattle.lane_journals.specs.Events as plain
use Rattle.lane_journals.specs.Events.{Content, Reply}
use Rattle.lane_journals.specs.Readers.{Beginning, Preparing, began, closed, first_reply}
use Rattle.lane_journals.specs.Facts.{IsOpen, ReadBack}
use Rattle.lane_journals.specs.Legal.{EnoughRead, MayAck, Legal}
use Rattle.lane_journals.specs.States.{state_of}
use Rattle.lane_journals.specs.Endings.{HasSeen, IsDocument, NoDocument, FellShort, ReadsFellShort, StoresFellShort, HasFallenShort, PreparedFellShort, MayEnd}
use Rattle.lane_journals.specs.Meanings.{history, meaning, meaning_reply, entry_at, written, id_in, entry_of, pick}
use Rattle.lane_journals.specs.Places.{Setting}
use Rattle.lane_journals.specs.KeptJournals.{IsLegal, IsLegalStep}
use Rattle.lane_journals.specs.declared.event.LaneEvent.{LaneEvent}
use Rattle.lane_journals.specs.declared.event.LaneEvent.TheVariants as event
use Rattle.lane_journals.specs.declared.event.LaneEvent.TheVariants.{Closed}
use Rattle.lane_journals.proofs.Basics.{first_reply-cases, began-stays, prepared-stays}
use Rattle.lane_journals.proofs.Counts.{AtLeast-map}
use Rattle.lane_journals.proofs.Marks.{active-stays}
use Rattle.lane_journals.proofs.Meant.{meant-legal}
use Rattle.lane_journals.proofs.Order.{newer-either}
use Rattle.lane_keeping.proofs.Flying.{entry-stays}
use Rattle.operation_keeping.specs.Others.{IsAnothers}
use Rattle.operation_keeping.proofs.Plain.{some-same, none-some}
use Rattle.operation_keeping.proofs.Messages.{back-stays, back-cases}
use Rattle.operation_keeping.proofs.OthersLines.{prepared-passes, wrote-passes, closed-passes, before-passes}
use Rattle.operation_keeping.proofs.OthersRows.{active-passes}
use Rattle.operation_keeping.proofs.OthersReads.{not-read, none-back, answered-passes}

-- ---- what an answer shows was written

module _ (J : List LaneEvent) (s : Stamp) where
  abbrev WasWritten : Type 0
  WasWritten = (x : Entry) × (entry_at s J ≡ Some x)

  named-written : (id : Id) (t : Stamp) → entry_of id t (written t J) ≡ Some s → WasWritten
  named-written id t h = by_entry (entry_at t J) refl h
    where
      by_test : (x : Entry) (is : Bool) → cond is (Some t) None ≡ Some s → entry_at t J ≡ Some x → WasWritten
      by_test x true q at = (x, subst (λ (y : Stamp). entry_at y J ≡ Some x) (some-same t s q) at)
      by_test x false q at = absurd (none-some s q)

      by_entry : (o : Option Entry) → entry_at t J ≡ o → entry_of id t (id_in o) ≡ Some s → WasWritten
      by_entry None at q = absurd (none-some s q)
      by_entry (Some x) at q = by_test x (same_id x.id id) q at

  picked-written : (id : Id) (ss : List Stamp) → pick J id ss ≡ Some s → WasWritten
  picked-written id [] h = absurd (none-some s h)
  picked-written id (t ∷ ss) h = elim (newer-either (entry_of id t (written t J)) (pick J id ss)) [
    | inl this ↦ named-written id t (sym this ∙ h)
    | inr rest ↦ picked-written id ss (sym rest ∙ h)
  ]

-- what a reply shows of the document
abbrev stamp_shown : Id → Reply → Option Stamp
stamp_shown id (plain.Answer c names) = c id
stamp_shown id _ = None

pub shown-written : (J : List LaneEvent) (k : ℕ) (c : Content) (names : _) (id : Id) (s : Stamp) → first_reply k (history J) ≡ Some (plain.Answer c names) → c id ≡ Some s → (x : Entry) × (entry_at s J ≡ Some x)
shown-written [] k c names id s replied shows = absurd (none-some _ replied)
shown-written (e ∷ J) k c names id s replied shows = elim (first_reply-cases k (history J) (meaning J e) (plain.Answer c names) replied) [
  | inl old ↦ (let w = shown-written J k c names id s old shows in (w.0, entry-stays J e s w.0 w.1))
  | inr new ↦ now e new.0
]
  where
    by_reply : (r : NotedReply) → meaning_reply J r ≡ plain.Answer c names → (x : Entry) × (entry_at s J ≡ Some x)
    by_reply (noted.Answer ps ss) is = picked-written J s id ss (ap (λ (y : Reply). stamp_shown id y) is ∙ shows)
    by_reply _ is = absurd (cc)

    now : (x : LaneEvent) → meaning J x ≡ plain.Delivered k (plain.Answer c names) → (y : Entry) × (entry_at s (x ∷ J) ≡ Some y)
    now (event.Delivered n r) is = by_reply r (let same : meaning_reply J r ≡ plain.Answer c names = cc in same)
    now _ is = absurd (cc)

-- ---- fewer than were needed

short-same : (asked A B : ℕ → Type 0) (many absent : ℕ) → ((n : ℕ) → A n ↔ B n) → FellShort asked A many absent → FellShort asked B many absent
short-same asked A B many absent same f = (
  (f.0.0, f.0.1, λ n. (λ h. (let x = (f.0.2 n).0 h in (x.0, (same n).0 x.1)), λ x. (f.0.2 n).1 (x.0, (same n).1 x.1))),
  f.1,
  λ x. f.2 ((same absent).1 x),
)

module _ (S : Setting) (J : List LaneEvent) (e : LaneEvent) (legal : IsLegal S (e ∷ J)) (line : ℕ) (b : Beginning) (off : IsAnothers line b.id J e) (begun : began line (history J) ≡ Some b) (unclosed : closed line (history J) ≡ false) where
  abbrev P : ℕ → ℕ → Bool
  P = state_of (history (e ∷ J))

  lawful : Legal S.acks P (history (e ∷ J))
  lawful = meant-legal S (e ∷ J) legal

  -- ---- what was seen

  back-on : (n : ℕ) (c : Content) → ReadBack n line b c (history J) → ReadBack n line b c (history (e ∷ J))
  back-on n c r = back-stays S.acks P (history J) (meaning J e) n line b c (before-passes line b.id J e off) r

  back-off : (n : ℕ) (c : Content) → ReadBack n line b c (history (e ∷ J)) → ReadBack n line b c (history J)
  back-off n c r = elim (back-cases S.acks P (history J) lawful.0 (meaning J e) n line b c (before-passes line b.id J e off) r) [
    | inl old ↦ old
    | inr now ↦ absurd (not-read b.id ((now.read).message).body (none-back line b.id J e off (now.read).number (now.read).message now.is (now.read).was_sent) (now.read).body)
  ]

  enough-passes : (p : Preparing) → EnoughRead S.acks (history J) line b p → EnoughRead S.acks (history (e ∷ J)) line b p
  enough-passes p = AtLeast-map (λ n x. (x.0, (x.1.0, back-on n x.1.0 x.1.1)))

  seen-passes : (seen : Option Stamp) → HasSeen S.acks (history J) line b seen → HasSeen S.acks (history (e ∷ J)) line b seen
  seen-passes seen h = record {
    preparing = h.preparing;
    was_prepared = prepared-stays line (history J) h.preparing (meaning J e) h.was_prepared;
    enough = enough-passes h.preparing h.enough;
    newest = λ n c r. h.newest n c (back-off n c r);
    shown = λ s is. (let x = h.shown s is in (x.0, x.1, back-on x.0 x.1 x.2, x.3));
  }

  document-passes : (s : Stamp) → IsDocument J s → IsDocument (e ∷ J) s
  document-passes s h = record { entry = h.entry; at = entry-stays J e s h.entry h.at; document = h.document }

  -- what was seen was written, so no later entry has its stamp
  no-document-passes : (seen : Option Stamp) → HasSeen S.acks (history J) line b seen → NoDocument J seen → NoDocument (e ∷ J) seen
  no-document-passes None h none = tt
  no-document-passes (Some s) h none = λ x.
      let shown = h.shown s refl in
      let w = shown-written J ((shown.2).read).number shown.1 ((shown.2).read).names b.id s ((shown.2).read).reply shown.3 in
      let same = some-same w.0 x.entry (sym (entry-stays J e s w.0 w.1) ∙ x.at) in
      none (record { entry = x.entry; at = w.1 ∙ ap (λ (y : Entry). Some y) same; document = x.document })

  -- ---- too few

  reads-short : (p : Preparing) (answered needed absent : ℕ) → ReadsFellShort S.acks (history J) line b p answered needed absent → ReadsFellShort S.acks (history (e ∷ J)) line b p answered needed absent
  reads-short p answered needed absent h = (h.0, h.1, short-same _ _ _ answered absent (λ n. (λ r. (r.0, back-on n r.0 r.1), λ r. (r.0, back-off n r.0 r.1))) h.2)

  stores-short : (p : Preparing) (s : Stamp) (answered needed absent : ℕ) → StoresFellShort S.acks (history J) b p s answered needed absent → StoresFellShort S.acks (history (e ∷ J)) b p s answered needed absent
  stores-short p s answered needed absent h = (
    h.0,
    elim h.1 [ inl few ↦ inl few | inr act ↦ inr (active-stays S.acks P b.version (key_of b.id) absent (history J) (meaning J e) lawful.1 act) ],
    short-same _ _ _ answered absent (λ n. (λ r. answered-passes line b.id J e off b refl b.version n s ∙ r, λ r. sym (answered-passes line b.id J e off b refl b.version n s) ∙ r)) h.2,
  )

  unprepared-short : (answered needed absent : ℕ) → HasFallenShort S J line b answered needed absent → HasFallenShort S (e ∷ J) line b answered needed absent
  unprepared-short answered needed absent h = record {
    unprepared = prepared-passes line b.id J e off ∙ h.unprepared;
    moment = h.moment;
    later = e ∷ h.later;
    whole = ap (λ (K : List LaneEvent). e ∷ K) h.whole;
    begun = h.begun;
    short = h.short;
  }

  prepared-short : (answered needed absent : ℕ) → PreparedFellShort S.acks (history J) line b answered needed absent → PreparedFellShort S.acks (history (e ∷ J)) line b answered needed absent
  prepared-short answered needed absent h = record {
    preparing = h.preparing;
    was_prepared = prepared-stays line (history J) h.preparing (meaning J e) h.was_prepared;
    short = elim h.short [
      | inl r ↦ inl (wrote-passes line b.id J e off ∙ r.0, reads-short h.preparing answered needed absent r.1)
      | inr s ↦ inr (s.0, s.1, wrote-passes line b.id J e off ∙ s.2, stores-short h.preparing s.0 answered needed absent s.3)
    ];
  }

  -- ---- the end

  may-ack-passes : MayAck S.acks (history J) line b → MayAck S.acks (history (e ∷ J)) line b
  may-ack-passes m = record {
    stamp = m.stamp;
    stamped = m.stamped;
    preparing = m.preparing;
    was_prepared = prepared-stays line (history J) m.preparing (meaning J e) m.was_prepared;
    enough = AtLeast-map (λ n x. (x.0, answered-passes line b.id J e off b refl b.version n m.stamp ∙ x.1)) m.enough;
    active = λ n key inside act. answered-passes line b.id J e off b refl b.version n m.stamp ∙ m.active n key inside (sym (active-passes S.acks P (history J) (meaning J e) lawful b.version line b m.preparing was_open key inside) ∙ act);
  }
    where
      was_open : IsOpen b.version line b m.preparing (history J)
      was_open = record { began = begun; version = refl; prepared = m.was_prepared; unclosed = unclosed }

  end-passes : (x : Outcome) → MayEnd S J line b x → MayEnd S (e ∷ J) line b x
  end-passes (outcome.Acked s) h = (h.0, wrote-passes line b.id J e off ∙ h.1)
  end-passes (outcome.Nothing seen) h = (h.0, wrote-passes line b.id J e off ∙ h.1, seen-passes seen h.2, no-document-passes seen h.2 h.3)
  end-passes (outcome.Found s) h = (h.0, seen-passes (Some s) h.1, document-passes s h.2)
  end-passes (outcome.Missing seen) h = (h.0, seen-passes seen h.1, no-document-passes seen h.1 h.2)
  end-passes (outcome.ConditionFailed seen) h = (h.0, wrote-passes line b.id J e off ∙ h.1, seen-passes seen h.2)
  end-passes (outcome.BadUpdate fault) h = (h.0, wrote-passes line b.id J e off ∙ h.1, (h.2.0, seen-passes h.2.0 h.2.1))
  end-passes (outcome.TooFew answered needed absent) (inl h) = inl (unprepared-short answered needed absent h)
  end-passes (outcome.TooFew answered needed absent) (inr h) = inr (prepared-short answered needed absent h)
  end-passes (outcome.OwnedElsewhere owner v) h = absurd h
  end-passes outcome.NoMemory h = tt

  pub closing-passes : (x : Outcome) → IsLegalStep S J (Closed line x) → IsLegalStep S (e ∷ J) (Closed line x)
  closing-passes x step = record {
    noted = tt;
    permitted = record {
      begin = b;
      begun = began-stays line (history J) b (meaning J e) begun;
      unclosed = closed-passes line b.id J e off ∙ unclosed;
      acked = λ h. may-ack-passes (subst (λ (y : Beginning). MayAck S.acks (history J) line y) (some-same (step.permitted).begin b (sym (step.permitted).begun ∙ begun)) ((step.permitted).acked h));
    };
    placed = tt;
    ended = (b, began-stays line (history J) b (meaning J e) begun, end-passes x (subst (λ (y : Beginning). MayEnd S J line y x) (some-same ((step.ended).0) b (sym (step.ended).1 ∙ begun)) (step.ended).2));
  }
