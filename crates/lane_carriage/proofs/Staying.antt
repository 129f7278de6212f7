-- What stays over the events of a message.
use Rattle.std.proofs.Common.{◌+◌, ℕ, List, ◌∷◌, sym, subst}
use Rattle.carriers.specs.declared.fate.Fate.{Fate}
use Rattle.carriers.specs.declared.fate.Fate.TheVariants as fate
use Rattle.lane_journals.specs.declared.event.LaneEvent.{LaneEvent}
use Rattle.lane_journals.specs.declared.event.LaneEvent.TheVariants.{Sent, Delivered, Returned}
use Rattle.lane_carriage.specs.Carriage.{IsDealt, AreDelivered}
use Rattle.lane_carriage.proofs.GivenOut.{over-all}

-- an event of a message
abbrev pub IsOfMessage : LaneEvent → Type 0
IsOfMessage (Sent n v d to body) = Unit {0}
IsOfMessage (Delivered n r) = Unit {0}
IsOfMessage (Returned n) = Unit {0}
IsOfMessage _ = ⊥

module _ (P : List LaneEvent → Type 0) (stays : (e : LaneEvent) (J : List LaneEvent) → IsOfMessage e → P J → P (e ∷ J)) where
  pub stays-delivered : (ns : List ℕ) (J K : List LaneEvent) → AreDelivered ns J K → P J → P K
  stays-delivered ns J K d p = over-all P (λ n r X q. stays (Delivered n r) X tt q) ns J K d p

  pub stays-dealt : (f : Fate) (n : ℕ) (J K : List LaneEvent) → IsDealt f n J K → P J → P K
  stays-dealt fate.Deliver n J K d p = subst P (sym d.1) (stays (Returned n) (Delivered n d.0 ∷ J) tt (stays (Delivered n d.0) J tt p))
  stays-dealt fate.LoseRequest n J K d p = subst P (sym d) p
  stays-dealt fate.LoseReply n J K d p = subst P (sym d.1) (stays (Delivered n d.0) J tt p)
  stays-dealt fate.Twice n J K d p = subst P (sym d.2) (stays (Delivered n d.1) (Returned n ∷ Delivered n d.0 ∷ J) tt (stays (Returned n) (Delivered n d.0 ∷ J) tt (stays (Delivered n d.0) J tt p)))
  stays-dealt (fate.Late k) n J K d p = subst P (sym d) p
