-- In a journal whose messages have their fates each event of a message stands in its place.
use Rattle.std.proofs.Common.{◌≡◌, ◌≢◌, ◌==◌, ℕ, ◌+◌, ◌<◌, Bool, true, false, List, [], ◌∷◌, ◌++◌, length, Option, Some, None, refl, sym, ap, ◌∙◌, subst, arith}
use Rattle.std.specs.List.{Contains}
use Rattle.std.proofs.lemmas.Bool.Decides.{nat_tests}
use Rattle.std.proofs.lemmas.List.Elements.{Contains-append_left, Contains-append_right}
use Rattle.carriers.specs.declared.fate.Fate.{Fate}
use Rattle.carriers.specs.declared.fate.Fate.TheVariants.{Deliver, LoseRequest, LoseReply, Twice, Late}
use Rattle.lane_journals.specs.Readers.{stopped}
use Rattle.lane_journals.specs.Meanings.{history}
use Rattle.lane_journals.specs.declared.event.LaneEvent.{LaneEvent}
use Rattle.lane_journals.specs.declared.event.LaneEvent.TheVariants as event
use Rattle.lane_carriage.specs.Carriage.{met, IsDealt, IsGivenOut, is_cut_off, AreDelivered, due, IsOther, IsMessage, IsCarried, Nothing, Other, Message}
use Rattle.lane_carriage.specs.Readers.{last_sent, fate_of}
use Rattle.lane_carriage.proofs.Carried.{says}
use Rattle.lane_carriage.proofs.Dealings.{own-last}
use Rattle.lane_carriage.proofs.Dues.{just}
use Rattle.upkeep_spans.specs.Scans.{ComesAt, ArePlaced}
use Rattle.upkeep_spans.proofs.AtOnce.{fate-at, fate-before, fate-behind}

-- ---- one fate more

comes-on : (given : List Fate) (f : Fate) (n last : ℕ) → ComesAt (fate_of n given) n last → ComesAt (fate_of n (given ++ f ∷ [])) n last
comes-on given f n last c = by_place (n == length given + 1) refl
  where
    by_place : (t : Bool) → (n == length given + 1) ≡ t → ComesAt (fate_of n (given ++ f ∷ [])) n last
    by_place true e =
        let lt : length given < n = grind (arith, nat_tests) in
        absurd (subst (λ (o : Option Fate). ComesAt o n last) (fate-behind given n lt) c)
    by_place false e =
        let apart : n ≢ length given + 1 = grind (arith, nat_tests) in
        subst (λ (o : Option Fate). ComesAt o n last) (sym (fate-before given f n apart)) c

placed-on : (given : List Fate) (f : Fate) (J : List LaneEvent) → ArePlaced given J → ArePlaced (given ++ f ∷ []) J
placed-on given f [] h = tt
placed-on given f (event.Sent n v d to body ∷ J) h = (h.0, placed-on given f J h.1)
placed-on given f (event.Delivered n r ∷ J) h = (comes-on given f n (last_sent J) h.0, placed-on given f J h.1)
placed-on given f (event.Returned n ∷ J) h = (h.0, placed-on given f J h.1)
placed-on given f (_ ∷ J) h = placed-on given f J h

-- ---- what becomes of a message

own-placed : (given : List Fate) (cut : Bool) (f : Fate) (n : ℕ) (J K : List LaneEvent) → fate_of n given ≡ Some f → n ≡ last_sent J → IsDealt (met cut f) n J K → ArePlaced given J → ArePlaced given K
own-placed given true Deliver n J K e at h p = subst (λ (L : List LaneEvent). ArePlaced given L) (sym h) p
own-placed given true LoseRequest n J K e at h p = subst (λ (L : List LaneEvent). ArePlaced given L) (sym h) p
own-placed given true LoseReply n J K e at h p = subst (λ (L : List LaneEvent). ArePlaced given L) (sym h) p
own-placed given true Twice n J K e at h p = subst (λ (L : List LaneEvent). ArePlaced given L) (sym h) p
own-placed given true (Late k) n J K e at h p = subst (λ (L : List LaneEvent). ArePlaced given L) (sym h) p
own-placed given false LoseRequest n J K e at h p = subst (λ (L : List LaneEvent). ArePlaced given L) (sym h) p
own-placed given false (Late k) n J K e at h p = subst (λ (L : List LaneEvent). ArePlaced given L) (sym h) p
own-placed given false Deliver n J K e at h p =
    let here : ComesAt (fate_of n given) n (last_sent J) = subst (λ (o : Option Fate). ComesAt o n (last_sent J)) (sym e) at in
    subst (λ (L : List LaneEvent). ArePlaced given L) (sym h.1) (at, (here, p))
own-placed given false LoseReply n J K e at h p =
    let here : ComesAt (fate_of n given) n (last_sent J) = subst (λ (o : Option Fate). ComesAt o n (last_sent J)) (sym e) at in
    subst (λ (L : List LaneEvent). ArePlaced given L) (sym h.1) (here, p)
own-placed given false Twice n J K e at h p =
    let here : ComesAt (fate_of n given) n (last_sent J) = subst (λ (o : Option Fate). ComesAt o n (last_sent J)) (sym e) at in
    subst (λ (L : List LaneEvent). ArePlaced given L) (sym h.2) (here, (at, (here, p)))

-- ---- the late ones that are due

given-last : (cut : Bool) (n : ℕ) (J L : List LaneEvent) → IsGivenOut cut n J L → last_sent L ≡ last_sent J
given-last true n J L h = ap last_sent h
given-last false n J L h = ap last_sent h.1

given-placed : (given : List Fate) (cut : Bool) (n : ℕ) (J L : List LaneEvent) → ComesAt (fate_of n given) n (last_sent J) → IsGivenOut cut n J L → ArePlaced given J → ArePlaced given L
given-placed given true n J L c h p = subst (λ (X : List LaneEvent). ArePlaced given X) (sym h) p
given-placed given false n J L c h p = subst (λ (X : List LaneEvent). ArePlaced given X) (sym h.1) (c, p)

due-placed : (given : List Fate) (ns : List ℕ) (J K : List LaneEvent) → ((n : ℕ) → Contains ns n → ComesAt (fate_of n given) n (last_sent J)) → AreDelivered ns J K → ArePlaced given J → ArePlaced given K
due-placed given [] J K c h p = subst (λ (L : List LaneEvent). ArePlaced given L) (sym h) p
due-placed given (n ∷ ns) J K c h p =
    let same : last_sent h.0 ≡ last_sent J = given-last (is_cut_off n J) n J h.0 h.1.0 in
    due-placed given ns h.0 K
    (λ m x. subst (λ (l : ℕ). ComesAt (fate_of m given) m l) (sym same) (c m (Contains-append_right (n ∷ []) ns m x)))
    h.1.1 (given-placed given (is_cut_off n J) n J h.0 (c n (Contains-append_left (n ∷ []) ns n (0, omega arith, refl))) h.1.0 p)

comes-due : (given : List Fate) (last n : ℕ) → Contains (due given last) n → ComesAt (fate_of n given) n last
comes-due given last n c =
    let d : (k : ℕ) × (fate_of n given ≡ Some (Late k)) × (n + k ≡ last) = (just given last n).0 c in
    subst (λ (o : Option Fate). ComesAt o n last) (sym d.1) d.2

-- ---- the whole journal

placed-other : (given : List Fate) (J : List LaneEvent) (e : LaneEvent) → IsOther e → ArePlaced given J → ArePlaced given (e ∷ J)
placed-other given J (event.Sent n v d to body) o p = absurd o
placed-other given J (event.Delivered n r) o p = absurd o
placed-other given J (event.Returned n) o p = absurd o
placed-other given J _ o p = p

placed-message : (given : List Fate) (f : Fate) (J K : List LaneEvent) → last_sent J ≡ length given → IsMessage given f J K → ArePlaced given J → ArePlaced (given ++ f ∷ []) K
placed-message given f J K last m p =
    let at : fate_of (length given + 1) (given ++ f ∷ []) ≡ Some f = fate-at given f (length given + 1) refl in
    let begun : ArePlaced (given ++ f ∷ []) (event.Sent (length given + 1) m.version m.sender m.receiver m.body ∷ J) = (ap (λ (l : ℕ). l + 1) (sym last), placed-on given f J p) in
    let dealt : ArePlaced (given ++ f ∷ []) m.after = own-placed (given ++ f ∷ []) (stopped m.receiver (history J)) f (length given + 1) (event.Sent (length given + 1) m.version m.sender m.receiver m.body ∷ J) m.after at refl m.dealt begun in
    let now : last_sent m.after ≡ length given + 1 = own-last (met (stopped m.receiver (history J)) f) (length given + 1) (event.Sent (length given + 1) m.version m.sender m.receiver m.body ∷ J) m.after m.dealt in
    due-placed (given ++ f ∷ []) (due (given ++ f ∷ []) (length given + 1)) m.after K
    (λ j x. subst (λ (l : ℕ). ComesAt (fate_of j (given ++ f ∷ [])) j l) (sym now) (comes-due (given ++ f ∷ []) (length given + 1) j x)) m.late dealt

pub placed : (given : List Fate) (J : List LaneEvent) → IsCarried given J → ArePlaced given J
placed given J Nothing = tt
placed given J (Other g K e o c) = placed-other g K e o (placed g K c)
placed given J (Message g K f L m c) = placed-message g f K L (says g K c).last m (placed g K c)
