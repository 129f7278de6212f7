-- Whether a reply that came back said that the node wants memory, and that it stays so.
use Rattle.std.proofs.Common.{◌≡◌, ◌↔◌, ℕ, Bool, true, false, cond, eqb, eq-eqb, List, ◌∷◌, Option, Some, None, IsSome, refl, sym, ap, subst, ◌∙◌}
use Rattle.messages.specs.declared.noted.NotedReply.{NotedReply}
use Rattle.messages.specs.declared.noted.NotedReply.TheVariants as noted
use Rattle.lane_journals.specs.Events as plain
use Rattle.lane_journals.specs.Readers.{or_else, only_if, first_reply, returned}
use Rattle.lane_journals.specs.Meanings.{history, meaning_reply}
use Rattle.lane_journals.specs.declared.event.LaneEvent.{LaneEvent}
use Rattle.lane_journals.specs.declared.event.LaneEvent.TheVariants.{Delivered, Returned}
use Rattle.lane_carriage.specs.Carriage.{AreDelivered}
use Rattle.lane_states.specs.Growing.{is_short, IsSettled}
use Rattle.lane_carriage.proofs.GivenOut.{over-all}

-- nothing came back
pub settled-none : (number : ℕ) (J : List LaneEvent) → returned number (history J) ≡ false → IsSettled number J false
settled-none number J not = record {
  short_is = (λ e. absurd (never e), λ s. absurd (never (sym not ∙ s.0)));
  replied = λ e. absurd (never (sym not ∙ e));
}
  where
    never : false ≡ true → ⊥
    never e = cc

means-short : (J : List LaneEvent) (r : NotedReply) → (is_short r ≡ true) ↔ (Some (meaning_reply J r) ≡ Some plain.NoMemory)
means-short J (noted.Answer ps es) = (λ e. cc, λ e. cc)
means-short J (noted.Newer v) = (λ e. cc, λ e. cc)
means-short J noted.NoBucket = (λ e. cc, λ e. cc)
means-short J noted.Differs = (λ e. cc, λ e. cc)
means-short J noted.NoMemory = (λ e. refl, λ e. refl)

-- the reply came back
pub settled-back : (number : ℕ) (J : List LaneEvent) (r : NotedReply) → first_reply number (history J) ≡ None → IsSettled number (Returned number ∷ Delivered number r ∷ J) (is_short r)
settled-back number J r none = record {
  short_is = (λ e. (back, first ∙ (means-short J r).0 e), λ s. (means-short J r).1 (sym first ∙ s.1));
  replied = λ e. subst (λ (o : Option plain.Reply). IsSome o) (sym first) refl;
}
  where
    back : returned number (history (Returned number ∷ Delivered number r ∷ J)) ≡ true
    back = ap (λ (t : Bool). cond t true (returned number (history J))) (eq-eqb number number refl)

    first : first_reply number (history (Returned number ∷ Delivered number r ∷ J)) ≡ Some (meaning_reply J r)
    first = ap (λ (o : Option plain.Reply). or_else o (only_if (eqb number number) (meaning_reply J r))) none ∙ ap (λ (t : Bool). only_if t (meaning_reply J r)) (eq-eqb number number refl)

stays-first : (a b : Option plain.Reply) (y : plain.Reply) → a ≡ Some y → or_else a b ≡ Some y
stays-first (Some x) b y e = e
stays-first None b y e = cc

was-first : (a b : Option plain.Reply) (y : plain.Reply) → IsSome a → or_else a b ≡ Some y → a ≡ Some y
was-first (Some x) b y s e = e
was-first None b y s e = cc

some-stays : (a b : Option plain.Reply) → IsSome a → IsSome (or_else a b)
some-stays (Some x) b s = refl
some-stays None b s = cc

-- it stays over any delivery
pub settled-stays : (number k : ℕ) (J : List LaneEvent) (r : NotedReply) (short : Bool) → IsSettled number J short → IsSettled number (Delivered k r ∷ J) short
settled-stays number k J r short s = record {
  short_is = (
    λ e. let c = s.short_is.0 e in (c.0, stays-first (first_reply number (history J)) (only_if (eqb k number) (meaning_reply J r)) plain.NoMemory c.1),
    λ c. s.short_is.1 (c.0, was-first (first_reply number (history J)) (only_if (eqb k number) (meaning_reply J r)) plain.NoMemory (s.replied c.0) c.1),
  );
  replied = λ e. some-stays (first_reply number (history J)) (only_if (eqb k number) (meaning_reply J r)) (s.replied e);
}

pub settled-delivered : (number : ℕ) (ns : List ℕ) (J K : List LaneEvent) (short : Bool) → AreDelivered ns J K → IsSettled number J short → IsSettled number K short
settled-delivered number ns J K short d s = over-all (λ (X : List LaneEvent). IsSettled number X short) (λ n r X x. settled-stays number n X r short x) ns J K d s
