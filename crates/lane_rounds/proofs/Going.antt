-- Messages that are gone, and a lane whose fates stay as they are.
use Rattle.std.proofs.Common.{◌≡◌, ◌+◌, ℕ, List, ◌∷◌, sym, subst}
use Rattle.carriers.specs.declared.fate.Fate.{Fate}
use Rattle.messages.specs.declared.message.Message.{Message as Letter}
use Rattle.messages.specs.declared.late.Late.{Late}
use Rattle.lane_journals.specs.declared.event.LaneEvent.{LaneEvent}
use Rattle.lane_keeping.specs.Replaying.{sending}
use Rattle.lane_carriage.specs.Carriage.{IsDealt, IsOther, Other}
use Rattle.lane_carriage.specs.Waits.{numbers}
use Rattle.lane_states.specs.declared.lane_state.LaneState.{LaneState}
use Rattle.lane_states.specs.LaneStates.{journal_of, Went}
use Rattle.lane_carriage.specs.Carrying.{AreCarried, met_at}
use Rattle.lane_rounds.specs.Openings.{IsGone}

pub stays-carried : (x e : LaneState) (given now : List Fate) → journal_of e ≡ journal_of x → e.late.late ≡ x.late.late → e.last ≡ x.last → now ≡ given → AreCarried given (journal_of x) x.last x.late.late → AreCarried now (journal_of e) e.last e.late.late
stays-carried x e given now j l n f c = subst (λ (fs : List Fate). AreCarried fs (journal_of e) e.last e.late.late) (sym f) (subst (λ (J : List LaneEvent). AreCarried given J e.last e.late.late) (sym j)
    (subst (λ (i : ℕ). AreCarried given (journal_of x) i e.late.late) (sym n) (subst (λ (late : List Late). AreCarried given (journal_of x) x.last late) (sym l) c)))

pub other-carried : (x e : LaneState) (given : List Fate) (event : LaneEvent) → IsOther event → journal_of e ≡ event ∷ journal_of x → e.late.late ≡ x.late.late → e.last ≡ x.last → AreCarried given (journal_of x) x.last x.late.late → AreCarried given (journal_of e) e.last e.late.late
other-carried x e given event o j l n c = subst (λ (J : List LaneEvent). AreCarried given J e.last e.late.late) (sym j)
    (subst (λ (i : ℕ). AreCarried given (event ∷ journal_of x) i e.late.late) (sym n) (subst (λ (late : List Late). AreCarried given (event ∷ journal_of x) x.last late) (sym l)
    (record { carried = Other given (journal_of x) event o c.carried; waiting = c.waiting })))

-- the message is gone, in the words of its caller
pub gone-by : (x y e : LaneState) (m : Letter) (given now : List Fate) → y.last ≡ x.last → journal_of y ≡ journal_of x → Went y e m given now → IsGone (x.last + 1) m (journal_of x) (journal_of e)
gone-by x y e m given now n j w = record {
  fate = met_at (journal_of y) m w.fate;
  between = w.between;
  dealt = subst (λ (J : List LaneEvent). IsDealt (met_at (journal_of y) m w.fate) (x.last + 1) (sending (x.last + 1) m ∷ J) w.between) j (subst (λ (i : ℕ). IsDealt (met_at (journal_of y) m w.fate) (i + 1) (sending (i + 1) m ∷ journal_of y) w.between) n w.dealt);
  numbers = numbers w.late.taken;
  late = w.late.delivered;
}
