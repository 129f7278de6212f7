-- Before an event that carries nothing, the messages were carried by the first of the fates.
use Rattle.std.proofs.Common.{◌≡◌, ◌==◌, ℕ, ◌+◌, Bool, true, false, List, [], ◌∷◌, ◌++◌, length, Some, refl, sym, ap, ◌∙◌, subst, if◌then◌else◌}
use Rattle.std.specs.Option.{IsSome}
use Rattle.std.proofs.lemmas.Bool.{false≢true}
use Rattle.std.proofs.lemmas.List.{append-nil, append_assoc}
use Rattle.carriers.specs.declared.fate.Fate.{Fate}
use Rattle.carriers.specs.declared.fate.Fate.TheVariants.{Deliver, LoseRequest, LoseReply, Twice, Late}
use Rattle.lane_journals.specs.declared.event.LaneEvent.{LaneEvent}
use Rattle.lane_journals.specs.declared.event.LaneEvent.TheVariants.{Sent, Delivered, Returned}
use Rattle.lane_journals.specs.Readers.{stopped}
use Rattle.lane_journals.specs.Meanings.{history}
use Rattle.lane_carriage.specs.Carriage.{met, IsDealt, is_cut_off, IsGivenOut, AreDelivered, due, IsOther, IsCarried, Nothing, Other, Message}
use Rattle.lane_carriage.specs.Readers.{fate_from}

-- so many of the fates are those of the messages before
pub record IsCarriedThen (given : List Fate) (R : List LaneEvent) : Type 0 where
  pub first : List Fate
  pub rest : List Fate
  pub carried : IsCarried first R
  pub are : given ≡ first ++ rest

-- ---- past what is carried

past_one : (x e : LaneEvent) (A M R : List LaneEvent) → (IsOther x → ⊥) → IsOther e → x ∷ A ≡ M ++ e ∷ R → (N : List LaneEvent) × (A ≡ N ++ e ∷ R)
past_one x e A [] R not other h = absurd (not (subst IsOther (sym (same_head h)) other))
  where
    same_head : x ∷ A ≡ e ∷ R → x ≡ e
    same_head h = cc
past_one x e A (m ∷ M) R not other h = (M, same_tail h)
  where
    same_tail : x ∷ A ≡ m ∷ (M ++ e ∷ R) → A ≡ M ++ e ∷ R
    same_tail h = cc

past_given : (cut : Bool) (n : ℕ) (A L M R : List LaneEvent) (e : LaneEvent) → IsOther e → IsGivenOut cut n A L → L ≡ M ++ e ∷ R → (N : List LaneEvent) × (A ≡ N ++ e ∷ R)
past_given true n A L M R e other d h = (M, sym d ∙ h)
past_given false n A L M R e other d h = past_one (Delivered n d.0) e A M R (λ z. z) other (sym d.1 ∙ h)

past_late : (ns : List ℕ) (A K M R : List LaneEvent) (e : LaneEvent) → IsOther e → AreDelivered ns A K → K ≡ M ++ e ∷ R → (N : List LaneEvent) × (A ≡ N ++ e ∷ R)
past_late [] A K M R e other d h = (M, sym d ∙ h)
past_late (n ∷ ns) A K M R e other d h =
    let t = past_late ns d.0 K M R e other d.1.1 h in
    past_given (is_cut_off n A) n A d.0 t.0 R e other d.1.0 t.1

past_own : (f : Fate) (n : ℕ) (A K M R : List LaneEvent) (e : LaneEvent) → IsOther e → IsDealt f n A K → K ≡ M ++ e ∷ R → (N : List LaneEvent) × (A ≡ N ++ e ∷ R)
past_own Deliver n A K M R e other d h =
    let one = past_one (Returned n) e (Delivered n d.0 ∷ A) M R (λ z. z) other (sym d.1 ∙ h) in
    past_one (Delivered n d.0) e A one.0 R (λ z. z) other one.1
past_own LoseRequest n A K M R e other d h = (M, sym d ∙ h)
past_own LoseReply n A K M R e other d h = past_one (Delivered n d.0) e A M R (λ z. z) other (sym d.1 ∙ h)
past_own Twice n A K M R e other d h =
    let one = past_one (Delivered n d.1) e (Returned n ∷ Delivered n d.0 ∷ A) M R (λ z. z) other (sym d.2 ∙ h) in
    let two = past_one (Returned n) e (Delivered n d.0 ∷ A) one.0 R (λ z. z) other one.1 in
    past_one (Delivered n d.0) e A two.0 R (λ z. z) other two.1
past_own (Late k) n A K M R e other d h = (M, sym d ∙ h)

-- ---- the first of the fates

longer : (given : List Fate) (f : Fate) (R : List LaneEvent) → IsCarriedThen given R → IsCarriedThen (given ++ f ∷ []) R
longer given f R t = record {
  first = t.first;
  rest = t.rest ++ f ∷ [];
  carried = t.carried;
  are = ap (λ g. g ++ f ∷ []) t.are ∙ append_assoc t.first t.rest (f ∷ []);
}

no_event : (M R : List LaneEvent) (e : LaneEvent) → [] ≡ M ++ e ∷ R → ⊥
no_event [] R e h = cc h
no_event (m ∷ M) R e h = cc h

pub carried_then : (given : List Fate) (K : List LaneEvent) → IsCarried given K → (M : List LaneEvent) (e : LaneEvent) (R : List LaneEvent) → IsOther e → K ≡ M ++ e ∷ R → IsCarriedThen given R
carried_then given K Nothing M e R other h = absurd (no_event M R e h)
carried_then given K (Other g J x o c) [] e R other h = record { first = g; rest = []; carried = subst (IsCarried g) (same_tail h) c; are = sym (append-nil g) }
  where
    same_tail : x ∷ J ≡ e ∷ R → J ≡ R
    same_tail h = cc
carried_then given K (Other g J x o c) (m ∷ M) e R other h = carried_then g J c M e R other (same_tail h)
  where
    same_tail : x ∷ J ≡ m ∷ (M ++ e ∷ R) → J ≡ M ++ e ∷ R
    same_tail h = cc
carried_then given K (Message g J f L m c) M e R other h =
    let late = past_late (due (g ++ f ∷ []) (length g + 1)) m.after L M R e other m.late h in
    let own = past_own (met (stopped m.receiver (history J)) f) (length g + 1) (Sent (length g + 1) m.version m.sender m.receiver m.body ∷ J) m.after late.0 R e other m.dealt late.1 in
    let before = past_one (Sent (length g + 1) m.version m.sender m.receiver m.body) e J own.0 R (λ z. z) other own.1 in
    longer g f R (carried_then g J c before.0 e R other before.1)

pub then_trans : (given : List Fate) (K R : List LaneEvent) (t : IsCarriedThen given K) → IsCarriedThen t.first R → IsCarriedThen given R
then_trans given K R t u = record {
  first = u.first;
  rest = u.rest ++ t.rest;
  carried = u.carried;
  are = t.are ∙ ap (λ g. g ++ t.rest) u.are ∙ append_assoc u.first u.rest t.rest;
}

-- before one more such event
pub other_before : (given : List Fate) (e : LaneEvent) (J : List LaneEvent) → IsOther e → IsCarriedThen given (e ∷ J) → IsCarriedThen given J
other_before given e J other t = then_trans given (e ∷ J) J t (carried_then t.first (e ∷ J) t.carried [] e J other refl)

-- a message has its fate among the first ones already
fate_first : (i k : ℕ) (g rest : List Fate) → IsSome (fate_from i k g) → fate_from i k (g ++ rest) ≡ fate_from i k g
fate_first i k [] rest h = absurd (false≢true h)
fate_first i k (f ∷ g) rest h = by_test (i == k) (fate_first (i + 1) k g rest) h
  where
    by_test : (t : Bool) → (IsSome (fate_from (i + 1) k g) → fate_from (i + 1) k (g ++ rest) ≡ fate_from (i + 1) k g) → IsSome (if t then Some f else fate_from (i + 1) k g)
        → (if t then Some f else fate_from (i + 1) k (g ++ rest)) ≡ (if t then Some f else fate_from (i + 1) k g)
    by_test true ih h = refl
    by_test false ih h = ih h

pub fate_then : (k : ℕ) (given : List Fate) (R : List LaneEvent) (t : IsCarriedThen given R) → IsSome (fate_from 1 k t.first) → fate_from 1 k given ≡ fate_from 1 k t.first
fate_then k given R t some = ap (fate_from 1 k) t.are ∙ fate_first 1 k t.first t.rest some
