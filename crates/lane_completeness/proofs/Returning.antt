-- In a lane whose messages have fates each reply comes back in turn, or not at all; and not where the message was lost.
use Rattle.std.proofs.Common.{◌≡◌, ◌⊎◌, ◌&&◌, ℕ, ◌+◌, Bool, true, false, List, [], ◌∷◌, ◌++◌, length, inl, inr, refl, sym, ◌∙◌, subst}
use Rattle.carriers.specs.declared.fate.Fate.{Fate}
use Rattle.carriers.specs.declared.fate.Fate.TheVariants.{Deliver, LoseRequest, LoseReply, Twice, Late}
use Rattle.messages.specs.declared.noted.NotedBody.{NotedBody}
use Rattle.lane_journals.specs.Readers.{returned, stopped}
use Rattle.lane_journals.specs.Meanings.{history}
use Rattle.lane_journals.specs.declared.event.LaneEvent.{LaneEvent}
use Rattle.lane_journals.specs.declared.event.LaneEvent.TheVariants as event
use Rattle.lane_carriage.specs.Carriage.{met, IsDealt, is_cut_off, IsGivenOut, AreDelivered, due, IsOther, IsCarried, Nothing, Other, Message as Further}
use Rattle.lane_carriage.specs.Readers.{fate_of, is_returned, receives}
use Rattle.lane_carriage.proofs.Carried.{says}
use Rattle.lane_completeness.specs.Causes.{IsLost, ReturnInTurn}

module _ (J : List LaneEvent) where
  abbrev Turn : List LaneEvent → Type 0
  Turn K = ReturnInTurn J K

  other-turn : (e : LaneEvent) (L : List LaneEvent) → IsOther e → Turn L → Turn (e ∷ L)
  other-turn (event.Returned n) L o t = absurd o
  other-turn _ L o t = t

  given-turn : (cut : Bool) (n : ℕ) (L K : List LaneEvent) → IsGivenOut cut n L K → Turn L → Turn K
  given-turn true n L K g t = subst Turn (sym g) t
  given-turn false n L K g t = subst Turn (sym g.1) t

  delivered-turn : (ns : List ℕ) (L K : List LaneEvent) → AreDelivered ns L K → Turn L → Turn K
  delivered-turn [] L K d t = subst Turn (sym d) t
  delivered-turn (n ∷ ns) L K d t = delivered-turn ns d.0 K d.1.1 (given-turn (is_cut_off n L) n L d.0 d.1.0 t)

  dealt-turn : (f : Fate) (n v d to : ℕ) (b : NotedBody) (L K : List LaneEvent) → IsDealt f n (event.Sent n v d to b ∷ L) K → Turn L → Turn K
  dealt-turn Deliver n v d to b L K i t = subst Turn (sym i.1) (t, λ late. refl)
  dealt-turn LoseRequest n v d to b L K i t = subst Turn (sym i) t
  dealt-turn LoseReply n v d to b L K i t = subst Turn (sym i.1) t
  dealt-turn Twice n v d to b L K i t = subst Turn (sym i.2) (t, λ late. refl)
  dealt-turn (Late k) n v d to b L K i t = subst Turn (sym i) t

  pub in-turn : (given : List Fate) (K : List LaneEvent) → IsCarried given K → Turn K
  in-turn given K Nothing = tt
  in-turn given K (Other g L e o c) = other-turn e L o (in-turn g L c)
  in-turn given K (Further g L f M m c) = delivered-turn (due (g ++ f ∷ []) (length g + 1)) m.after M m.late
      (dealt-turn (met (stopped m.receiver (history L)) f) (length g + 1) m.version m.sender m.receiver m.body L m.after m.dealt (in-turn g L c))

-- a message without reply was lost
pub lost : (given : List Fate) (K : List LaneEvent) (number : ℕ) → IsCarried given K → returned number (history K) ≡ false → IsLost given K number
lost given K number c back = by_tests (is_returned (fate_of number given)) (receives number number K) (sym ((says given K c).returns number) ∙ back)
  where
    by_tests : (t u : Bool) → (t && u) ≡ false → (t ≡ false) ⊎ (u ≡ false)
    by_tests false u h = inl refl
    by_tests true u h = inr h
