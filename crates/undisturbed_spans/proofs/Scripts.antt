-- The script that a journal says agrees with it.
use Rattle.std.proofs.Common.{◌≡◌, ◌==◌, ◌&&◌, ◌+◌, ◌<◌, ℕ, Bool, true, false, not, cond, nat_lt, List, [], ◌∷◌, Option, Some, None, is_some, refl, sym, ap, ap₂, ◌∙◌, subst, arith, eqb, eqb-true, eq-eqb}
use Rattle.std.proofs.lemmas.Bool.Decides.{nat_tests}
use mathlib.Core.Bool.{true≢false}
use Rattle.lane_journals.specs.Events.{Event, Reply, Published, Heard, Begun, Opened, Prepared, Wrote, Sent, Delivered, Returned, Closed, Decided, Refused, Stopped, Started}
use Rattle.lane_journals.specs.Readers.{Journal, Message, or_else, only_if, sent, first_reply}
use Rattle.lane_journals.specs.Legal.{Legal}
use Rattle.lane_journals.proofs.Basics.{sent-stays, replied-sent}
use Rattle.pass_model.specs.Scripts.{Script, tells, is_telling, came, came_before, takings, Agrees}
use Rattle.undisturbed_spans.specs.Scripts.{comes_as, script_in, AreDelivered}

some-of : {A : Type 0} (x y : A) → ◌≡◌ {A = Option A} (Some x) (Some y) → x ≡ y
some-of x y e = cc

-- a message that has a reply was sent, as the longer journal says
module _ (acks : ℕ) (P : ℕ → ℕ → Bool) where
  sent-first : (H : Journal) → Legal acks P H → (k : ℕ) (m : Message) (e : Event) → sent k (e ∷ H) ≡ Some m → (o : Option Reply) → first_reply k H ≡ o → is_some o ≡ true → sent k H ≡ Some m
  sent-first H l k m e s None f i = absurd (true≢false (sym i))
  sent-first H l k m e s (Some r) f i =
      let w = replied-sent acks P H l k r f in
      w.1 ∙ ap (λ (x : Message). Some x) (some-of w.0 m (sym (sent-stays k H w.0 e w.1) ∙ s))

  module _ (whole : Journal) (k : ℕ) (m : Message) (telling : is_telling m.body ≡ true) where
    abbrev n : ℕ
    n = m.receiver

    -- as it first came fewer had come than now, and the script says of that number how it was taken
    record Says (H : Journal) : Type 0 where
      fewer : came_before n k H < came n H
      says : script_in whole n (came_before n k H) H ≡ nat_lt 1 (takings k whole)

    tells-it : (H : Journal) → sent k H ≡ Some m → tells n (sent k H) ≡ true
    tells-it H s = ap (λ o. tells n o) s ∙ ap₂ (λ x y. x && y) (eq-eqb n n refl) telling

    -- the message itself is delivered, for the first time
    first-time : (H : Journal) (j : ℕ) (r : Reply) → sent k H ≡ Some m → first_reply k H ≡ None → (j == k) ≡ true → Says (Delivered j r ∷ H)
    unfolding script_in
    first-time H j r s none e =
        subst (λ (i : ℕ). Says (Delivered i r ∷ H)) (sym (eqb-true j k e)) (record {
          fewer = subst (λ (a : ℕ). a < came n (Delivered k r ∷ H)) (sym before) (subst (λ (b : ℕ). came n H < b) (sym now) (omega arith));
          says = ap (λ (i : ℕ). script_in whole n i (Delivered k r ∷ H)) before ∙ ap (λ t. cond t (nat_lt 1 (takings k whole)) (script_in whole n (came n H) H)) here;
        })
      where
        new : not (is_some (first_reply k H)) ≡ true
        new = ap (λ o. not (is_some o)) none

        before : came_before n k (Delivered k r ∷ H) ≡ came n H
        before = ap (λ t. cond t (came n H) (came_before n k H)) (ap₂ (λ x y. x && y) (eq-eqb k k refl) new)

        now : came n (Delivered k r ∷ H) ≡ came n H + 1
        now = ap (λ t. cond t (came n H + 1) (came n H)) (ap₂ (λ x y. x && y) (tells-it H s) new)

        here : comes_as n (came n H) k H ≡ true
        here = ap₂ (λ x y. x && y) (ap₂ (λ x y. x && y) (tells-it H s) new) (eq-eqb (came n H) (came n H) refl)

    -- any other delivery, or it again
    next-time : (H : Journal) (j : ℕ) (r : Reply) → is_some (first_reply k H) ≡ true → Says H → Says (Delivered j r ∷ H)
    unfolding script_in
    next-time H j r some h = record {
      fewer = subst (λ (a : ℕ). a < came n (Delivered j r ∷ H)) (sym before) (more (tells n (sent j H) && not (is_some (first_reply j H))));
      says = ap (λ (i : ℕ). script_in whole n i (Delivered j r ∷ H)) before
          ∙ ap (λ t. cond t (nat_lt 1 (takings j whole)) (script_in whole n (came_before n k H) H)) elsewhere
          ∙ h.says;
    }
      where
        never : (t : Bool) → (t && not true) ≡ false
        never true = refl
        never false = refl

        before : came_before n k (Delivered j r ∷ H) ≡ came_before n k H
        before = ap (λ t. cond ((j == k) && not t) (came n H) (came_before n k H)) some ∙ ap (λ t. cond t (came n H) (came_before n k H)) (never (j == k))

        more : (t : Bool) → came_before n k H < cond t (came n H + 1) (came n H)
        more true = let f = h.fewer in omega (arith, f)
        more false = h.fewer

        off : (a b : ℕ) → a < b → (b == a) ≡ false
        off a b less = grind (arith, nat_tests)

        shut : (t : Bool) → (t && false) ≡ false
        shut true = refl
        shut false = refl

        elsewhere : comes_as n (came_before n k H) j H ≡ false
        elsewhere = ap (λ t. (tells n (sent j H) && not (is_some (first_reply j H))) && t) (off (came_before n k H) (came n H) h.fewer) ∙ shut (tells n (sent j H) && not (is_some (first_reply j H)))

    kept : (H : Journal) (e : Event) → Says H → came_before n k (e ∷ H) ≡ came_before n k H → came n (e ∷ H) ≡ came n H → ((i : ℕ) → script_in whole n i (e ∷ H) ≡ script_in whole n i H) → Says (e ∷ H)
    kept H e h b c s = record {
      fewer = subst (λ (x : ℕ). x < came n (e ∷ H)) (sym b) (subst (λ (x : ℕ). came_before n k H < x) (sym c) h.fewer);
      says = ap (λ (i : ℕ). script_in whole n i (e ∷ H)) b ∙ s (came_before n k H) ∙ h.says;
    }

    says-all : (H : Journal) → Legal acks P H → sent k H ≡ Some m → is_some (first_reply k H) ≡ true → Says H
    unfolding script_in
    says-all [] l s i = absurd (true≢false (sym i))
    says-all (Delivered j r ∷ H) l s i = by_reply (first_reply k H) refl (λ some. says-all H l.0 s some)
      where
        by_reply : (o : Option Reply) → first_reply k H ≡ o → (is_some (first_reply k H) ≡ true → Says H) → Says (Delivered j r ∷ H)
        by_reply (Some x) f ih = next-time H j r (ap is_some f) (ih (ap is_some f))
        by_reply None f ih = first-time H j r s f (by_test (j == k) refl)
          where
            by_test : (t : Bool) → (j == k) ≡ t → (j == k) ≡ true
            by_test true e = e
            by_test false e = absurd (true≢false (sym i ∙ ap is_some (ap₂ (λ o t. or_else o (only_if t r)) f e)))
    says-all (Published v set ∷ H) l s i = kept H _ (says-all H l.0 s i) refl refl (λ x. refl)
    says-all (Heard d v ∷ H) l s i = kept H _ (says-all H l.0 s i) refl refl (λ x. refl)
    says-all (Begun x d v id t ∷ H) l s i = kept H _ (says-all H l.0 s i) refl refl (λ x. refl)
    says-all (Opened d v rows ∷ H) l s i = kept H _ (says-all H l.0 s i) refl refl (λ x. refl)
    says-all (Prepared x b set ∷ H) l s i = kept H _ (says-all H l.0 s i) refl refl (λ x. refl)
    says-all (Wrote x kind ∷ H) l s i = kept H _ (says-all H l.0 s i) refl refl (λ x. refl)
    says-all (Sent a v d to b ∷ H) l s i = kept H _ (says-all H l.0 (sent-first H l.0 k m (Sent a v d to b) s (first_reply k H) refl i) i) refl refl (λ x. refl)
    says-all (Returned a ∷ H) l s i = kept H _ (says-all H l.0 s i) refl refl (λ x. refl)
    says-all (Closed x ok ∷ H) l s i = kept H _ (says-all H l.0 s i) refl refl (λ x. refl)
    says-all (Decided d v x ∷ H) l s i = kept H _ (says-all H l.0 s i) refl refl (λ x. refl)
    says-all (Refused x d v ∷ H) l s i = kept H _ (says-all H l.0 s i) refl refl (λ x. refl)
    says-all (Stopped x ∷ H) l s i = kept H _ (says-all H l.0 s i) refl refl (λ x. refl)
    says-all (Started x ∷ H) l s i = kept H _ (says-all H l.0 s i) refl refl (λ x. refl)

  pub agrees : (J K : Journal) → Legal acks P K → AreDelivered J K → (d : Script) × Agrees d J K
  agrees J K l h = (λ n i. script_in K n i K, λ k m unsent is telling. (says-all K k m telling K l is (h k m unsent is telling)).says)
