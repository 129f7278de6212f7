-- How an operation may end.
use Rattle.std.proofs.Common.{◌≡◌, ℕ, false, refl}
use Rattle.stamps.specs.declared.stamp.Stamp.{Stamp}
use Rattle.messages.specs.declared.outcome.Outcome.{Outcome}
use Rattle.messages.specs.declared.outcome.Outcome.TheVariants.{Acked, Nothing, Found, Missing, ConditionFailed, BadUpdate, TooFew, OwnedElsewhere, NoMemory}
use Rattle.lane_journals.specs.Meanings.{is_acked}
use Rattle.lane_journals.specs.KeptJournals.{IsLegalStep}
use Rattle.lane_journals.specs.declared.event.LaneEvent.TheVariants.{Closed}
use Rattle.lane_keeping.specs.LaneKeeping.{setting_of}
use Rattle.lane_states.specs.declared.lane_state.LaneState.{LaneState}
use Rattle.lane_states.specs.LaneStates.{journal_of}
use Rattle.lane_lines.specs.Closing.{MayEndWith}

-- any end but an acknowledgement
abbrev IsNoAck : Outcome → Type 0
IsNoAck o = (s : Stamp) → o ≡ Acked s → ⊥

pub quiet-end : (o : Outcome) → IsNoAck o → is_acked o ≡ false
quiet-end (Acked s) never = absurd (never s refl)
quiet-end (Nothing x) never = refl
quiet-end (Found x) never = refl
quiet-end (Missing x) never = refl
quiet-end (ConditionFailed x) never = refl
quiet-end (BadUpdate x) never = refl
quiet-end (TooFew a b x) never = refl
quiet-end (OwnedElsewhere a b) never = refl
quiet-end NoMemory never = refl

pub legal-end : (c : LaneState) (line d key answered : ℕ) (o : Outcome) → IsNoAck o → MayEndWith c line d key o answered → IsLegalStep (setting_of c.lane c.rules) (journal_of c) (Closed line o)
legal-end c line d key answered (Acked s) never may = absurd (never s refl)
legal-end c line d key answered (Nothing x) never may = may
legal-end c line d key answered (Found x) never may = may
legal-end c line d key answered (Missing x) never may = may
legal-end c line d key answered (ConditionFailed x) never may = may
legal-end c line d key answered (BadUpdate x) never may = may
legal-end c line d key answered (TooFew a b x) never may = may
legal-end c line d key answered (OwnedElsewhere a b) never may = may
legal-end c line d key answered NoMemory never may = may
