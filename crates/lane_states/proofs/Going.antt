-- A message that was sent and dealt with, step by step.
use Rattle.std.proofs.Common.{◌≡◌, ◌+◌, ℕ, List, [], ◌∷◌, ◌++◌, length, sym, ap, subst, ◌∙◌}
use Rattle.carriers.specs.declared.fate.Fate.{Fate}
use Rattle.messages.specs.Noting.{noted_body}
use Rattle.messages.specs.declared.message.Message.{Message as Letter}
use Rattle.messages.specs.Waiting.{NoneIsDue}
use Rattle.messages.specs.declared.late.Late.{Late}
use Rattle.lane_journals.specs.Readers.{stopped}
use Rattle.lane_journals.specs.Meanings.{history}
use Rattle.lane_journals.specs.declared.event.LaneEvent.{LaneEvent}
use Rattle.lane_keeping.specs.Replaying.{sending}
use Rattle.lane_carriage.specs.Carriage.{IsDealt, AreDelivered, due, IsMessage, Message}
use Rattle.lane_carriage.specs.Waits.{numbers, IsWaiting, kept_by}
use Rattle.lane_carriage.specs.Laws.{OfTaken}
use Rattle.lane_states.specs.declared.lane_state.LaneState.{LaneState}
use Rattle.lane_states.specs.LaneStates.{journal_of, Went}
use Rattle.lane_carriage.specs.Carrying.{AreCarried, met_at, DeliversSome}
use Rattle.lane_states.proofs.Stops.{kept-met}

-- the journal, the late messages and the last number of a lane are as they were, and then a message was sent
pub record IsSentIn (x b : LaneState) (m : Letter) : Type 0 where
  pub last : b.last ≡ x.last + 1
  pub journal : journal_of b ≡ sending (x.last + 1) m ∷ journal_of x
  pub late : b.late.late ≡ x.late.late

-- it was dealt with by the fate that the carrier gave, as its receiver runs or is stopped
pub went-by : (fate met : Fate) (x b d e : LaneState) (m : Letter) (given now : List Fate) → now ≡ given ++ fate ∷ [] → IsSentIn x b m → met ≡ met_at (journal_of b) m fate
    → IsDealt met b.last (journal_of b) (journal_of d) → d.late.late ≡ kept_by met b.last m b.late.late → d.last ≡ b.last
    → DeliversSome d.last d.late.late e.late.late (journal_of d) (journal_of e) → NoneIsDue d.last e.late.late → e.last ≡ d.last → Went x e m given now
went-by fate met x b d e m given now fates s is dealt kept dl due none el =
    let n : d.last ≡ x.last + 1 = dl ∙ s.last in
    let by : met ≡ met_at (journal_of x) m fate = is ∙ ap (λ (J : List LaneEvent). met_at J m fate) s.journal in
    let k : d.late.late ≡ kept_by fate (x.last + 1) m x.late.late = kept ∙ ap (λ (f : Fate). kept_by f b.last m b.late.late) by ∙ kept-met (stopped m.receiver (history (journal_of x))) fate b.last m b.late.late
    ∙ ap (λ (i : ℕ). kept_by fate i m b.late.late) s.last ∙ ap (λ (late : List Late). kept_by fate (x.last + 1) m late) s.late in
    record {
      fate = fate;
      fates = fates;
      next = el ∙ n;
      between = journal_of d;
      dealt = subst (λ (f : Fate). IsDealt f (x.last + 1) (sending (x.last + 1) m ∷ journal_of x) (journal_of d)) by
          (subst (λ (J : List LaneEvent). IsDealt met (x.last + 1) J (journal_of d)) s.journal (subst (λ (i : ℕ). IsDealt met i (journal_of b) (journal_of d)) s.last dealt));
      late = subst (λ (late : List Late). DeliversSome (x.last + 1) late e.late.late (journal_of d) (journal_of e)) k (subst (λ (i : ℕ). DeliversSome i d.late.late e.late.late (journal_of d) (journal_of e)) n due);
      none_left = subst (λ (i : ℕ). NoneIsDue i e.late.late) n none;
    }

-- ---- the fates

module _ (waits : OfTaken (λ given last late f taken rest. IsWaiting (given ++ f ∷ []) (last + 1) rest)) (are_due : OfTaken (λ given last late f taken rest. numbers taken ≡ due (given ++ f ∷ []) (last + 1))) where
  pub went-carried : (x e : LaneState) (m : Letter) (given now : List Fate) → Went x e m given now → AreCarried given (journal_of x) x.last x.late.late → AreCarried now (journal_of e) e.last e.late.late
  went-carried x e m given now w c = subst (λ (fs : List Fate). AreCarried fs (journal_of e) e.last e.late.late) (sym w.fates) (record {
    carried = Message given (journal_of x) w.fate (journal_of e) message c.carried;
    waiting = subst (λ (i : ℕ). IsWaiting (given ++ w.fate ∷ []) i e.late.late) (sym w.next) (waits given x.last x.late.late w.fate m w.late.taken e.late.late c.waiting w.late.are_taken w.none_left);
  })
    where
      counted : x.last ≡ length given
      counted = c.waiting.counted

      message : IsMessage given w.fate (journal_of x) (journal_of e)
      message = record {
        version = m.version;
        sender = m.sender;
        receiver = m.receiver;
        body = noted_body m.body;
        after = w.between;
        dealt = subst (λ (i : ℕ). IsDealt (met_at (journal_of x) m w.fate) (i + 1) (sending (i + 1) m ∷ journal_of x) w.between) counted w.dealt;
        late = subst (λ (i : ℕ). AreDelivered (due (given ++ w.fate ∷ []) (i + 1)) w.between (journal_of e)) counted
            (subst (λ (ns : List ℕ). AreDelivered ns w.between (journal_of e)) (are_due given x.last x.late.late w.fate m w.late.taken e.late.late c.waiting w.late.are_taken w.none_left) w.late.delivered);
      }
