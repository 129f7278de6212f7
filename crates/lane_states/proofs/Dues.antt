-- Late messages that are given out one after the other.
use Rattle.std.proofs.Common.{◌≡◌, ◌≤◌, ℕ, Bool, true, false, List, [], ◌∷◌, ◌++◌, refl, sym, ap, subst, ◌∙◌, append_assoc}
use Rattle.messages.specs.Waiting.{Each}
use Rattle.messages.specs.declared.late.Late.{Late}
use Rattle.lane_journals.specs.declared.event.LaneEvent.{LaneEvent}
use Rattle.lane_carriage.specs.Carriage.{AreDelivered, IsGivenOut, is_cut_off}
use Rattle.lane_carriage.specs.Waits.{numbers}
use Rattle.lane_carriage.proofs.Waitings.{delivered-further, passed-over}
use Rattle.lane_carriage.specs.Carrying.{DeliversSome}
use Rattle.lane_states.specs.Growing.{DeliversOne}

each-push : (P : Late → Type 0) (late : List Late) (l : Late) → Each P late → P l → Each P (late ++ l ∷ [])
each-push P [] l h p = (p, tt)
each-push P (m ∷ late) l h p = (h.0, each-push P late l h.1 p)

-- one more of those that are due
pub delivers-more : (last : ℕ) (late rest rest2 : List Late) (J K L : List LaneEvent) → DeliversSome last late rest J K → DeliversOne last rest rest2 K L → DeliversSome last late rest2 J L
delivers-more last late rest rest2 J K L some one = record {
  taken = some.taken ++ one.first ∷ [];
  are_taken = record {
    all = (some.are_taken).all ∙ ap (λ (x : List Late). some.taken ++ x) one.was_first ∙ sym (append_assoc some.taken (one.first ∷ []) rest2);
    due = each-push (λ l. l.due ≤ last) some.taken one.first (some.are_taken).due one.is_due;
  };
  delivered = by_cut (is_cut_off (one.first).number K) refl one.given_out;
}
  where
    by_cut : (cut : Bool) → is_cut_off (one.first).number K ≡ cut → IsGivenOut cut (one.first).number K L → AreDelivered (numbers (some.taken ++ one.first ∷ [])) J L
    by_cut true is g = subst (λ (X : List LaneEvent). AreDelivered (numbers (some.taken ++ one.first ∷ [])) J X) (sym g) (passed-over some.taken one.first J K some.delivered is)
    by_cut false is g = subst (λ (X : List LaneEvent). AreDelivered (numbers (some.taken ++ one.first ∷ [])) J X) (sym g.1) (delivered-further some.taken one.first J K g.0 some.delivered is)

pub delivers-none : (last : ℕ) (late : List Late) (J : List LaneEvent) → DeliversSome last late late J J
delivers-none last late J = record { taken = []; are_taken = record { all = refl; due = tt }; delivered = refl }
