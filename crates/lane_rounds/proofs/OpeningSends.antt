-- A message that is gone: what is carried over its deliveries, and that the journal was legal before.
use Rattle.std.proofs.Common.{ℕ, List, ◌∷◌, sym, subst}
use Rattle.carriers.specs.declared.fate.Fate.{Fate}
use Rattle.carriers.specs.declared.fate.Fate.TheVariants as fate
use Rattle.messages.specs.declared.message.Message.{Message as Letter}
use Rattle.messages.specs.declared.noted.NotedReply.{NotedReply}
use Rattle.lane_journals.specs.Places.{Setting}
use Rattle.lane_journals.specs.KeptJournals.{IsLegal}
use Rattle.lane_journals.specs.declared.event.LaneEvent.{LaneEvent}
use Rattle.lane_journals.specs.declared.event.LaneEvent.TheVariants.{Delivered, Returned}
use Rattle.lane_keeping.specs.Replaying.{sending}
use Rattle.lane_carriage.specs.Carriage.{IsDealt}
use Rattle.lane_rounds.specs.Openings.{IsGone}
use Rattle.lane_carriage.proofs.GivenOut.{over-all}

module _ (P : List LaneEvent → Type 0) (number : ℕ) (delivered : (n : ℕ) (r : NotedReply) (K : List LaneEvent) → P K → P (Delivered n r ∷ K)) (back : (K : List LaneEvent) → P K → P (Returned number ∷ K)) where
  carried-dealt : (f : Fate) (K L : List LaneEvent) → IsDealt f number K L → P K → P L
  carried-dealt fate.Deliver K L d p = subst P (sym d.1) (back (Delivered number d.0 ∷ K) (delivered number d.0 K p))
  carried-dealt fate.LoseRequest K L d p = subst P (sym d) p
  carried-dealt fate.LoseReply K L d p = subst P (sym d.1) (delivered number d.0 K p)
  carried-dealt fate.Twice K L d p = subst P (sym d.2) (delivered number d.1 (Returned number ∷ Delivered number d.0 ∷ K) (back (Delivered number d.0 ∷ K) (delivered number d.0 K p)))
  carried-dealt (fate.Late k) K L d p = subst P (sym d) p

  pub carried : (m : Letter) (K L : List LaneEvent) → IsGone number m K L → P (sending number m ∷ K) → P L
  carried m K L g p = over-all P delivered g.numbers g.between L g.late (carried-dealt g.fate (sending number m ∷ K) g.between g.dealt p)

-- a legal journal was legal as the message was sent
pub legal-sent : (S : Setting) (number : ℕ) (m : Letter) (K L : List LaneEvent) → IsGone number m K L → IsLegal S L → IsLegal S (sending number m ∷ K)
legal-sent S number m K L g = carried (λ (X : List LaneEvent). IsLegal S X → IsLegal S (sending number m ∷ K)) number (λ n r X p l. p l.0) (λ X p l. p l.0) m K L g (λ l. l)
