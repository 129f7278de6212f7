-- Messages that are given out one after the other: each is delivered, or lost.
use Rattle.std.proofs.Common.{◌∷◌, ℕ, Bool, true, false, List, [], sym, subst}
use Rattle.messages.specs.declared.noted.NotedReply.{NotedReply}
use Rattle.lane_journals.specs.declared.event.LaneEvent.{LaneEvent}
use Rattle.lane_journals.specs.declared.event.LaneEvent.TheVariants.{Delivered}
use Rattle.lane_carriage.specs.Carriage.{is_cut_off, IsGivenOut, AreDelivered}

-- what stays over each delivery stays over all of them
module _ (P : List LaneEvent → Type 0) (over : (n : ℕ) (r : NotedReply) (J : List LaneEvent) → P J → P (Delivered n r ∷ J)) where
  over-one : (b : Bool) (n : ℕ) (J K : List LaneEvent) → IsGivenOut b n J K → P J → P K
  over-one true n J K h p = subst P (sym h) p
  over-one false n J K h p = subst P (sym h.1) (over n h.0 J p)

  pub over-all : (ns : List ℕ) (J K : List LaneEvent) → AreDelivered ns J K → P J → P K
  over-all [] J K h p = subst P (sym h) p
  over-all (n ∷ ns) J K h p = over-all ns h.0 K h.1.1 (over-one (is_cut_off n J) n J h.0 h.1.0 p)
