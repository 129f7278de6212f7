-- The parts of a quiet span.
use Rattle.std.proofs.Common.{◌≡◌, ◌==◌, ◌&&◌, ◌++◌, ◌+◌, ◌≤◌, ℕ, Bool, true, false, not, cond, List, [], ◌∷◌, length, Option, Some, None, is_some, nat_lt, refl, sym, ap, ap₂, ◌∙◌, subst, arith, eq-eqb, eqb-true}
use Rattle.std.proofs.lemmas.List.{append_assoc}
use Rattle.carriers.specs.declared.fate.Fate.{Fate}
use Rattle.carriers.specs.declared.fate.Fate.TheVariants.{Deliver, LoseRequest, LoseReply, Twice, Late}
use Rattle.lane_journals.specs.Readers.{Message, or_else, only_if, sent, first_reply, returned}
use Rattle.lane_journals.specs.Meanings.{history, meaning_reply}
use Rattle.lane_journals.specs.declared.event.LaneEvent.{LaneEvent}
use Rattle.lane_journals.specs.declared.event.LaneEvent.TheVariants.{Published, Heard, Begun, Refused, Opened, Prepared, Wrote, Sent, Delivered, Returned, Closed, Decided, Stopped, Started}
use Rattle.lane_carriage.specs.Carriage.{IsCarried, is_cut_off}
use Rattle.lane_carriage.specs.Readers.{sendings, last_sent, arrivals, receives, fate_from, fate_of, times_sent, is_returned, arrivals_of}
use Rattle.lane_carriage.specs.Laws.{OfCarried}
use Rattle.upkeep_spans.specs.Spans.{later, AreUpkeep, OfUpkeep}
use Rattle.upkeep_spans.specs.Causes.{is_late, first_late, first_absent, IsUndisturbed}
use Rattle.pass_model.specs.Scripts.{Script, came, came_before, is_want, takings, Agrees}
use Rattle.undisturbed_spans.specs.Undisturbed.{GoesUndisturbed}
use Rattle.proof_basics.proofs.Tests.{not-false}

abbrev pub Events : Type 0
Events = List LaneEvent

-- ---- options and tests

else-first : {A : Type 0} (x y : Option A) → or_else x y ≡ None → x ≡ None
else-first None y h = refl
else-first (Some a) y h = cc

pub else-second : {A : Type 0} (x y : Option A) → or_else x y ≡ None → y ≡ None
else-second None y h = h
else-second (Some a) y h = cc

else-none : {A : Type 0} (x y : Option A) → x ≡ None → y ≡ None → or_else x y ≡ None
else-none x y p q = ap (λ o. or_else o y) p ∙ q

else-stays : {A : Type 0} (x y : Option A) (a : A) → x ≡ Some a → or_else x y ≡ Some a
else-stays x y a h = ap (λ o. or_else o y) h

pub if-none : {A : Type 0} (t : Bool) (a : A) → only_if t a ≡ None → t ≡ false
if-none true a h = cc
if-none false a h = refl

none-if : {A : Type 0} (t : Bool) (a : A) → t ≡ false → only_if t a ≡ None
none-if t a h = ap (λ u. only_if u a) h

false-not : (t : Bool) → t ≡ true → not t ≡ false
false-not t h = ap (λ u. not u) h

both-true : (a b : Bool) → (a && b) ≡ true → (a ≡ true) × (b ≡ true)
both-true true b h = (refl, h)
both-true false b h = cc

true-both : (a b : Bool) → a ≡ true → b ≡ true → (a && b) ≡ true
true-both a b p q = ap₂ (λ x y. x && y) p q

-- ---- late messages

late-later : (g : List Fate) (N M : Events) → first_late g (N ++ M) ≡ None → first_late g N ≡ None
late-later g [] M h = refl
late-later g (Published s ∷ N) M h = late-later g N M h
late-later g (Heard e w ∷ N) M h = late-later g N M h
late-later g (Begun l e w i t ∷ N) M h = late-later g N M h
late-later g (Refused l e o ∷ N) M h = late-later g N M h
late-later g (Opened e w rs ∷ N) M h = late-later g N M h
late-later g (Prepared l b t ∷ N) M h = late-later g N M h
late-later g (Wrote l x ∷ N) M h = late-later g N M h
late-later g (Sent n w e to x ∷ N) M h = late-later g N M h
late-later g (Delivered n r ∷ N) M h = else-none (first_late g N) (only_if (is_late (fate_of n g)) n) (late-later g N M (else-first (first_late g (N ++ M)) (only_if (is_late (fate_of n g)) n) h)) (else-second (first_late g (N ++ M)) (only_if (is_late (fate_of n g)) n) h)
late-later g (Returned n ∷ N) M h = late-later g N M h
late-later g (Closed l o ∷ N) M h = late-later g N M h
late-later g (Decided e w x ∷ N) M h = late-later g N M h
late-later g (Stopped n ∷ N) M h = late-later g N M h
late-later g (Started n ∷ N) M h = late-later g N M h

pub late-earlier : (g : List Fate) (N M : Events) → first_late g (N ++ M) ≡ None → first_late g M ≡ None
late-earlier g [] M h = h
late-earlier g (Published s ∷ N) M h = late-earlier g N M h
late-earlier g (Heard e w ∷ N) M h = late-earlier g N M h
late-earlier g (Begun l e w i t ∷ N) M h = late-earlier g N M h
late-earlier g (Refused l e o ∷ N) M h = late-earlier g N M h
late-earlier g (Opened e w rs ∷ N) M h = late-earlier g N M h
late-earlier g (Prepared l b t ∷ N) M h = late-earlier g N M h
late-earlier g (Wrote l x ∷ N) M h = late-earlier g N M h
late-earlier g (Sent n w e to x ∷ N) M h = late-earlier g N M h
late-earlier g (Delivered n r ∷ N) M h = late-earlier g N M (else-first (first_late g (N ++ M)) (only_if (is_late (fate_of n g)) n) h)
late-earlier g (Returned n ∷ N) M h = late-earlier g N M h
late-earlier g (Closed l o ∷ N) M h = late-earlier g N M h
late-earlier g (Decided e w x ∷ N) M h = late-earlier g N M h
late-earlier g (Stopped n ∷ N) M h = late-earlier g N M h
late-earlier g (Started n ∷ N) M h = late-earlier g N M h

-- a fate that was given stays
fate-stays : (i k : ℕ) (g more : List Fate) (f : Fate) → fate_from i k g ≡ Some f → fate_from i k (g ++ more) ≡ Some f
fate-stays i k [] more f h = cc
fate-stays i k (a ∷ g) more f h = by_test (i == k) h (λ x. fate-stays (i + 1) k g more f x)
  where
    by_test : (t : Bool) → cond t (Some a) (fate_from (i + 1) k g) ≡ Some f → (fate_from (i + 1) k g ≡ Some f → fate_from (i + 1) k (g ++ more) ≡ Some f) → cond t (Some a) (fate_from (i + 1) k (g ++ more)) ≡ Some f
    by_test true x ih = x
    by_test false x ih = ih x

was-late : (k : ℕ) (g more : List Fate) → is_late (fate_of k (g ++ more)) ≡ false → is_late (fate_of k g) ≡ false
was-late k g more h = by_fate (fate_of k g) refl
  where
    by_fate : (o : Option Fate) → fate_of k g ≡ o → is_late o ≡ false
    by_fate None e = refl
    by_fate (Some f) e = sym (ap is_late (fate-stays 1 k g more f e)) ∙ h

late-before : (g more : List Fate) (M : Events) → first_late (g ++ more) M ≡ None → first_late g M ≡ None
late-before g more [] h = refl
late-before g more (Published s ∷ N) h = late-before g more N h
late-before g more (Heard e w ∷ N) h = late-before g more N h
late-before g more (Begun l e w i t ∷ N) h = late-before g more N h
late-before g more (Refused l e o ∷ N) h = late-before g more N h
late-before g more (Opened e w rs ∷ N) h = late-before g more N h
late-before g more (Prepared l b t ∷ N) h = late-before g more N h
late-before g more (Wrote l x ∷ N) h = late-before g more N h
late-before g more (Sent n w e to x ∷ N) h = late-before g more N h
late-before g more (Delivered n r ∷ N) h = else-none (first_late g N) (only_if (is_late (fate_of n g)) n) (late-before g more N (else-first (first_late (g ++ more) N) (only_if (is_late (fate_of n (g ++ more))) n) h)) (none-if (is_late (fate_of n g)) n (was-late n g more (if-none (is_late (fate_of n (g ++ more))) n (else-second (first_late (g ++ more) N) (only_if (is_late (fate_of n (g ++ more))) n) h))))
late-before g more (Returned n ∷ N) h = late-before g more N h
late-before g more (Closed l o ∷ N) h = late-before g more N h
late-before g more (Decided e w x ∷ N) h = late-before g more N h
late-before g more (Stopped n ∷ N) h = late-before g more N h
late-before g more (Started n ∷ N) h = late-before g more N h

-- ---- messages that were sent

cond-more : (t : Bool) (a b : ℕ) → a ≤ b → a ≤ cond t (b + 1) b
cond-more true a b h = omega (arith, h)
cond-more false a b h = h

own-more : (k a : ℕ) → 1 ≤ cond (k == k) (a + 1) a
own-more k a = subst (λ t. 1 ≤ cond t (a + 1) a) (sym (eq-eqb k k refl)) (omega arith)

receives-by : (t u x y : Bool) (a b : ℕ) → b ≤ a → cond t (a + 1) a ≡ b → (a ≡ b → x ≡ y) → cond t u x ≡ y
receives-by true u x y a b le g ih = absurd (omega (arith, le, g))
receives-by false u x y a b le g ih = ih g

sendings-more : (k : ℕ) (N M : Events) → sendings k M ≤ sendings k (N ++ M)
sendings-more k [] M = omega arith
sendings-more k (Published s ∷ N) M = sendings-more k N M
sendings-more k (Heard e w ∷ N) M = sendings-more k N M
sendings-more k (Begun l e w i t ∷ N) M = sendings-more k N M
sendings-more k (Refused l e o ∷ N) M = sendings-more k N M
sendings-more k (Opened e w rs ∷ N) M = sendings-more k N M
sendings-more k (Prepared l b t ∷ N) M = sendings-more k N M
sendings-more k (Wrote l x ∷ N) M = sendings-more k N M
sendings-more k (Sent n w e to x ∷ N) M = cond-more (n == k) (sendings k M) (sendings k (N ++ M)) (sendings-more k N M)
sendings-more k (Delivered n r ∷ N) M = sendings-more k N M
sendings-more k (Returned n ∷ N) M = sendings-more k N M
sendings-more k (Closed l o ∷ N) M = sendings-more k N M
sendings-more k (Decided e w x ∷ N) M = sendings-more k N M
sendings-more k (Stopped n ∷ N) M = sendings-more k N M
sendings-more k (Started n ∷ N) M = sendings-more k N M

receives-stays : (k j : ℕ) (N M : Events) → sendings j (N ++ M) ≡ sendings j M → receives k j (N ++ M) ≡ receives k j M
receives-stays k j [] M h = refl
receives-stays k j (Published s ∷ N) M h = receives-stays k j N M h
receives-stays k j (Heard e w ∷ N) M h = receives-stays k j N M h
receives-stays k j (Begun l e w i t ∷ N) M h = receives-stays k j N M h
receives-stays k j (Refused l e o ∷ N) M h = receives-stays k j N M h
receives-stays k j (Opened e w rs ∷ N) M h = receives-stays k j N M h
receives-stays k j (Prepared l b t ∷ N) M h = receives-stays k j N M h
receives-stays k j (Wrote l x ∷ N) M h = receives-stays k j N M h
receives-stays k j (Sent n w e to x ∷ N) M h = receives-by (n == j) (not (is_cut_off k (Sent n w e to x ∷ (N ++ M)))) (receives k j (N ++ M)) (receives k j M) (sendings j (N ++ M)) (sendings j M) (sendings-more j N M) h (λ g. receives-stays k j N M g)
receives-stays k j (Delivered n r ∷ N) M h = receives-stays k j N M h
receives-stays k j (Returned n ∷ N) M h = receives-stays k j N M h
receives-stays k j (Closed l o ∷ N) M h = receives-stays k j N M h
receives-stays k j (Decided e w x ∷ N) M h = receives-stays k j N M h
receives-stays k j (Stopped n ∷ N) M h = receives-stays k j N M h
receives-stays k j (Started n ∷ N) M h = receives-stays k j N M h

-- what was sent behind a journal, and wasn't returned
absent-later : (p : ℕ → Bool) (N M : Events) → first_absent p (N ++ M) ≡ None → first_absent p N ≡ None
absent-later p [] M h = refl
absent-later p (Published s ∷ N) M h = absent-later p N M h
absent-later p (Heard e w ∷ N) M h = absent-later p N M h
absent-later p (Begun l e w i t ∷ N) M h = absent-later p N M h
absent-later p (Refused l e o ∷ N) M h = absent-later p N M h
absent-later p (Opened e w rs ∷ N) M h = absent-later p N M h
absent-later p (Prepared l b t ∷ N) M h = absent-later p N M h
absent-later p (Wrote l x ∷ N) M h = absent-later p N M h
absent-later p (Sent n w e to x ∷ N) M h = else-none (first_absent p N) (only_if (not (p n)) to) (absent-later p N M (else-first (first_absent p (N ++ M)) (only_if (not (p n)) to) h)) (else-second (first_absent p (N ++ M)) (only_if (not (p n)) to) h)
absent-later p (Delivered n r ∷ N) M h = absent-later p N M h
absent-later p (Returned n ∷ N) M h = absent-later p N M h
absent-later p (Closed l o ∷ N) M h = absent-later p N M h
absent-later p (Decided e w x ∷ N) M h = absent-later p N M h
absent-later p (Stopped n ∷ N) M h = absent-later p N M h
absent-later p (Started n ∷ N) M h = absent-later p N M h

pub absent-earlier : (p : ℕ → Bool) (N M : Events) → first_absent p (N ++ M) ≡ None → first_absent p M ≡ None
absent-earlier p [] M h = h
absent-earlier p (Published s ∷ N) M h = absent-earlier p N M h
absent-earlier p (Heard e w ∷ N) M h = absent-earlier p N M h
absent-earlier p (Begun l e w i t ∷ N) M h = absent-earlier p N M h
absent-earlier p (Refused l e o ∷ N) M h = absent-earlier p N M h
absent-earlier p (Opened e w rs ∷ N) M h = absent-earlier p N M h
absent-earlier p (Prepared l b t ∷ N) M h = absent-earlier p N M h
absent-earlier p (Wrote l x ∷ N) M h = absent-earlier p N M h
absent-earlier p (Sent n w e to x ∷ N) M h = absent-earlier p N M (else-first (first_absent p (N ++ M)) (only_if (not (p n)) to) h)
absent-earlier p (Delivered n r ∷ N) M h = absent-earlier p N M h
absent-earlier p (Returned n ∷ N) M h = absent-earlier p N M h
absent-earlier p (Closed l o ∷ N) M h = absent-earlier p N M h
absent-earlier p (Decided e w x ∷ N) M h = absent-earlier p N M h
absent-earlier p (Stopped n ∷ N) M h = absent-earlier p N M h
absent-earlier p (Started n ∷ N) M h = absent-earlier p N M h

-- by another test of those that were sent
absent-by : (p q : ℕ → Bool) (M J : Events) → ((n : ℕ) → 1 ≤ sendings n (M ++ J) → p n ≡ true → q n ≡ true) → first_absent p M ≡ None → first_absent q M ≡ None
absent-by p q [] J f h = refl
absent-by p q (Published s ∷ N) J f h = absent-by p q N J f h
absent-by p q (Heard e w ∷ N) J f h = absent-by p q N J f h
absent-by p q (Begun l e w i t ∷ N) J f h = absent-by p q N J f h
absent-by p q (Refused l e o ∷ N) J f h = absent-by p q N J f h
absent-by p q (Opened e w rs ∷ N) J f h = absent-by p q N J f h
absent-by p q (Prepared l b t ∷ N) J f h = absent-by p q N J f h
absent-by p q (Wrote l x ∷ N) J f h = absent-by p q N J f h
absent-by p q (Sent n w e to x ∷ N) J f h = else-none (first_absent q N) (only_if (not (q n)) to) (absent-by p q N J (λ k s g. f k (cond-more (n == k) 1 (sendings k (N ++ J)) s) g) (else-first (first_absent p N) (only_if (not (p n)) to) h)) (none-if (not (q n)) to (false-not (q n) (f n (own-more n (sendings n (N ++ J))) (not-false (p n) (if-none (not (p n)) to (else-second (first_absent p N) (only_if (not (p n)) to) h))))))
absent-by p q (Delivered n r ∷ N) J f h = absent-by p q N J f h
absent-by p q (Returned n ∷ N) J f h = absent-by p q N J f h
absent-by p q (Closed l o ∷ N) J f h = absent-by p q N J f h
absent-by p q (Decided e w x ∷ N) J f h = absent-by p q N J f h
absent-by p q (Stopped n ∷ N) J f h = absent-by p q N J f h
absent-by p q (Started n ∷ N) J f h = absent-by p q N J f h

sent-before : (k : ℕ) (N J : Events) → sent k (history (N ++ J)) ≡ None → sent k (history J) ≡ None
sent-before k [] J h = h
sent-before k (Published s ∷ N) J h = sent-before k N J h
sent-before k (Heard e w ∷ N) J h = sent-before k N J h
sent-before k (Begun l e w i t ∷ N) J h = sent-before k N J h
sent-before k (Refused l e o ∷ N) J h = sent-before k N J h
sent-before k (Opened e w rs ∷ N) J h = sent-before k N J h
sent-before k (Prepared l b t ∷ N) J h = sent-before k N J h
sent-before k (Wrote l x ∷ N) J h = sent-before k N J h
sent-before k (Sent n w e to x ∷ N) J h = sent-before k N J (else-first (sent k (history (N ++ J))) _ h)
sent-before k (Delivered n r ∷ N) J h = sent-before k N J h
sent-before k (Returned n ∷ N) J h = sent-before k N J h
sent-before k (Closed l o ∷ N) J h = sent-before k N J h
sent-before k (Decided e w x ∷ N) J h = sent-before k N J h
sent-before k (Stopped n ∷ N) J h = sent-before k N J h
sent-before k (Started n ∷ N) J h = sent-before k N J h

sent-stays : (k : ℕ) (N J : Events) (m : Message) → sent k (history J) ≡ Some m → sent k (history (N ++ J)) ≡ Some m
sent-stays k [] J m h = h
sent-stays k (Published s ∷ N) J m h = sent-stays k N J m h
sent-stays k (Heard e w ∷ N) J m h = sent-stays k N J m h
sent-stays k (Begun l e w i t ∷ N) J m h = sent-stays k N J m h
sent-stays k (Refused l e o ∷ N) J m h = sent-stays k N J m h
sent-stays k (Opened e w rs ∷ N) J m h = sent-stays k N J m h
sent-stays k (Prepared l b t ∷ N) J m h = sent-stays k N J m h
sent-stays k (Wrote l x ∷ N) J m h = sent-stays k N J m h
sent-stays k (Sent n w e to x ∷ N) J m h = else-stays (sent k (history (N ++ J))) _ m (sent-stays k N J m h)
sent-stays k (Delivered n r ∷ N) J m h = sent-stays k N J m h
sent-stays k (Returned n ∷ N) J m h = sent-stays k N J m h
sent-stays k (Closed l o ∷ N) J m h = sent-stays k N J m h
sent-stays k (Decided e w x ∷ N) J m h = sent-stays k N J m h
sent-stays k (Stopped n ∷ N) J m h = sent-stays k N J m h
sent-stays k (Started n ∷ N) J m h = sent-stays k N J m h

-- ---- deliveries

length-more : (t : Bool) (i : ℕ) (xs : List ℕ) (a : ℕ) → a ≤ length xs → a ≤ length (cond t (i ∷ xs) xs)
length-more true i xs a h = omega (arith, h)
length-more false i xs a h = h

away-by : (p : ℕ → Bool) (n k : ℕ) (t : Bool) → (n == k) ≡ t → (i : ℕ) (xs : List ℕ) (a : ℕ) → length xs ≡ a → p k ≡ true → p n ≡ false → length (cond t (i ∷ xs) xs) ≡ a
away-by p n k true e i xs a h late off = let bad : true ≡ false = sym late ∙ subst (λ j. p j ≡ false) (eqb-true n k e) off in absurd (cc)
away-by p n k false e i xs a h late off = h

skip-by : {A : Type 0} (t u : Bool) (x y z : A) (i : ℕ) (xs : List ℕ) (a : ℕ) → a ≤ length xs → length (cond t (i ∷ xs) xs) ≡ a → (length xs ≡ a → x ≡ z) → cond (t && u) y x ≡ z
skip-by true u x y z i xs a le g ih = absurd (omega (arith, le, g))
skip-by false u x y z i xs a le g ih = ih g

arrivals-more : (k : ℕ) (N M : Events) → length (arrivals k M) ≤ length (arrivals k (N ++ M))
arrivals-more k [] M = omega arith
arrivals-more k (Published s ∷ N) M = arrivals-more k N M
arrivals-more k (Heard e w ∷ N) M = arrivals-more k N M
arrivals-more k (Begun l e w i t ∷ N) M = arrivals-more k N M
arrivals-more k (Refused l e o ∷ N) M = arrivals-more k N M
arrivals-more k (Opened e w rs ∷ N) M = arrivals-more k N M
arrivals-more k (Prepared l b t ∷ N) M = arrivals-more k N M
arrivals-more k (Wrote l x ∷ N) M = arrivals-more k N M
arrivals-more k (Sent n w e to x ∷ N) M = arrivals-more k N M
arrivals-more k (Delivered n r ∷ N) M = length-more (n == k) (last_sent (N ++ M)) (arrivals k (N ++ M)) (length (arrivals k M)) (arrivals-more k N M)
arrivals-more k (Returned n ∷ N) M = arrivals-more k N M
arrivals-more k (Closed l o ∷ N) M = arrivals-more k N M
arrivals-more k (Decided e w x ∷ N) M = arrivals-more k N M
arrivals-more k (Stopped n ∷ N) M = arrivals-more k N M
arrivals-more k (Started n ∷ N) M = arrivals-more k N M

-- the message isn't delivered there
abbrev NotThere : ℕ → Events → Events → Type 0
NotThere k N M = length (arrivals k (N ++ M)) ≡ length (arrivals k M)

late-away : (g : List Fate) (k : ℕ) (N M : Events) → is_late (fate_of k g) ≡ true → first_late g N ≡ None → NotThere k N M
late-away g k [] M late h = refl
late-away g k (Published s ∷ N) M late h = late-away g k N M late h
late-away g k (Heard e w ∷ N) M late h = late-away g k N M late h
late-away g k (Begun l e w i t ∷ N) M late h = late-away g k N M late h
late-away g k (Refused l e o ∷ N) M late h = late-away g k N M late h
late-away g k (Opened e w rs ∷ N) M late h = late-away g k N M late h
late-away g k (Prepared l b t ∷ N) M late h = late-away g k N M late h
late-away g k (Wrote l x ∷ N) M late h = late-away g k N M late h
late-away g k (Sent n w e to x ∷ N) M late h = late-away g k N M late h
late-away g k (Delivered n r ∷ N) M late h = away-by (λ i. is_late (fate_of i g)) n k (n == k) refl (last_sent (N ++ M)) (arrivals k (N ++ M)) (length (arrivals k M)) (late-away g k N M late (else-first (first_late g N) (only_if (is_late (fate_of n g)) n) h)) late (if-none (is_late (fate_of n g)) n (else-second (first_late g N) (only_if (is_late (fate_of n g)) n) h))
late-away g k (Returned n ∷ N) M late h = late-away g k N M late h
late-away g k (Closed l o ∷ N) M late h = late-away g k N M late h
late-away g k (Decided e w x ∷ N) M late h = late-away g k N M late h
late-away g k (Stopped n ∷ N) M late h = late-away g k N M late h
late-away g k (Started n ∷ N) M late h = late-away g k N M late h

takings-stay : (k : ℕ) (N M : Events) → NotThere k N M → takings k (history (N ++ M)) ≡ takings k (history M)
takings-stay k [] M h = refl
takings-stay k (Published s ∷ N) M h = takings-stay k N M h
takings-stay k (Heard e w ∷ N) M h = takings-stay k N M h
takings-stay k (Begun l e w i t ∷ N) M h = takings-stay k N M h
takings-stay k (Refused l e o ∷ N) M h = takings-stay k N M h
takings-stay k (Opened e w rs ∷ N) M h = takings-stay k N M h
takings-stay k (Prepared l b t ∷ N) M h = takings-stay k N M h
takings-stay k (Wrote l x ∷ N) M h = takings-stay k N M h
takings-stay k (Sent n w e to x ∷ N) M h = takings-stay k N M h
takings-stay k (Delivered n r ∷ N) M h = skip-by (n == k) (not (is_want (meaning_reply (N ++ M) r))) (takings k (history (N ++ M))) (takings k (history (N ++ M)) + 1) (takings k (history M)) (last_sent (N ++ M)) (arrivals k (N ++ M)) (length (arrivals k M)) (arrivals-more k N M) h (λ g. takings-stay k N M g)
takings-stay k (Returned n ∷ N) M h = takings-stay k N M h
takings-stay k (Closed l o ∷ N) M h = takings-stay k N M h
takings-stay k (Decided e w x ∷ N) M h = takings-stay k N M h
takings-stay k (Stopped n ∷ N) M h = takings-stay k N M h
takings-stay k (Started n ∷ N) M h = takings-stay k N M h

before-stays : (node k : ℕ) (N M : Events) → NotThere k N M → came_before node k (history (N ++ M)) ≡ came_before node k (history M)
before-stays node k [] M h = refl
before-stays node k (Published s ∷ N) M h = before-stays node k N M h
before-stays node k (Heard e w ∷ N) M h = before-stays node k N M h
before-stays node k (Begun l e w i t ∷ N) M h = before-stays node k N M h
before-stays node k (Refused l e o ∷ N) M h = before-stays node k N M h
before-stays node k (Opened e w rs ∷ N) M h = before-stays node k N M h
before-stays node k (Prepared l b t ∷ N) M h = before-stays node k N M h
before-stays node k (Wrote l x ∷ N) M h = before-stays node k N M h
before-stays node k (Sent n w e to x ∷ N) M h = before-stays node k N M h
before-stays node k (Delivered n r ∷ N) M h = skip-by (n == k) (not (is_some (first_reply k (history (N ++ M))))) (came_before node k (history (N ++ M))) (came node (history (N ++ M))) (came_before node k (history M)) (last_sent (N ++ M)) (arrivals k (N ++ M)) (length (arrivals k M)) (arrivals-more k N M) h (λ g. before-stays node k N M g)
before-stays node k (Returned n ∷ N) M h = before-stays node k N M h
before-stays node k (Closed l o ∷ N) M h = before-stays node k N M h
before-stays node k (Decided e w x ∷ N) M h = before-stays node k N M h
before-stays node k (Stopped n ∷ N) M h = before-stays node k N M h
before-stays node k (Started n ∷ N) M h = before-stays node k N M h

-- ---- a span of two parts

-- what is known of carried journals
pub record Carriage : Type 0 where
  pub once : OfCarried (λ given J. (k : ℕ) → sendings k J ≡ times_sent (fate_of k given))
  pub unsent : OfCarried (λ given J. (k : ℕ) → fate_of k given ≡ None → sent k (history J) ≡ None)
  pub arrivals : OfCarried (λ given J. (k : ℕ) → arrivals k J ≡ arrivals_of k (fate_of k given) (length given) (λ j. receives k j J))
  pub returned : OfCarried (λ given J. (k : ℕ) → returned k (history J) ≡ (is_returned (fate_of k given) && receives k k J))

-- the middle journal, and what came before and after it
module _ (law : Carriage) (g more : List Fate) (N K : Events) (m : IsCarried g K) (l : IsCarried (g ++ more) (N ++ K)) where
  same-sendings : (k : ℕ) (f : Fate) → fate_of k g ≡ Some f → sendings k (N ++ K) ≡ sendings k K
  same-sendings k f e = law.once (g ++ more) (N ++ K) l k ∙ ap times_sent (fate-stays 1 k g more f e) ∙ sym (law.once g K m k ∙ ap times_sent e)

  same-receives : (k : ℕ) (f : Fate) → fate_of k g ≡ Some f → receives k k (N ++ K) ≡ receives k k K
  same-receives k f e = receives-stays k k N K (same-sendings k f e)

  known-fate : (k : ℕ) → 1 ≤ sendings k K → (f : Fate) × (fate_of k g ≡ Some f)
  known-fate k s = by_fate (fate_of k g) refl (subst (λ i. 1 ≤ i) (law.once g K m k) s)
    where
      by_fate : (o : Option Fate) → fate_of k g ≡ o → 1 ≤ times_sent (fate_of k g) → (f : Fate) × (fate_of k g ≡ Some f)
      by_fate None e h = let z : times_sent (fate_of k g) ≡ 0 = ap times_sent e in absurd (omega (arith, z, h))
      by_fate (Some f) e h = (f, e)

  -- what was returned in the end was so in the middle
  back-before : (k : ℕ) → 1 ≤ sendings k K → returned k (history (N ++ K)) ≡ true → returned k (history K) ≡ true
  back-before k s h =
      let o = known-fate k s in
      let t = both-true (is_returned (fate_of k (g ++ more))) (receives k k (N ++ K)) (sym (law.returned (g ++ more) (N ++ K) l k) ∙ h) in
      law.returned g K m k
      ∙ true-both (is_returned (fate_of k g)) (receives k k K)
      (ap is_returned o.1 ∙ sym (ap is_returned (fate-stays 1 k g more o.0 o.1)) ∙ t.0)
      (sym (same-receives k o.0 o.1) ∙ t.1)

  -- what was sent before the middle isn't delivered behind it
  away : (k : ℕ) (x : Message) → sent k (history K) ≡ Some x → first_late (g ++ more) N ≡ None → NotThere k N K
  away k x h quiet = by_fate (fate_of k g) refl
    where
      ends : (f : Fate) → fate_of k g ≡ Some f → (is_late (Some f) ≡ false) → NotThere k N K
      ends f e p = ap length (law.arrivals (g ++ more) (N ++ K) l k
          ∙ ap (λ o. arrivals_of k o (length (g ++ more)) (λ j. receives k j (N ++ K))) (fate-stays 1 k g more f e)
          ∙ by_kind f p (same-receives k f e)
          ∙ sym (law.arrivals g K m k ∙ ap (λ o. arrivals_of k o (length g) (λ j. receives k j K)) e))
        where
          by_kind : (f : Fate) → is_late (Some f) ≡ false → receives k k (N ++ K) ≡ receives k k K
              → arrivals_of k (Some f) (length (g ++ more)) (λ j. receives k j (N ++ K)) ≡ arrivals_of k (Some f) (length g) (λ j. receives k j K)
          by_kind Deliver q r = ap (λ t. cond t (k ∷ []) []) r
          by_kind LoseRequest q r = refl
          by_kind LoseReply q r = ap (λ t. cond t (k ∷ []) []) r
          by_kind Twice q r = ap (λ t. cond t (k ∷ k ∷ []) []) r
          by_kind (Late i) q r = cc

      by_late : (f : Fate) → fate_of k g ≡ Some f → (t : Bool) → is_late (Some f) ≡ t → NotThere k N K
      by_late f e true p = late-away (g ++ more) k N K (ap is_late (fate-stays 1 k g more f e) ∙ p) quiet
      by_late f e false p = ends f e p

      by_fate : (o : Option Fate) → fate_of k g ≡ o → NotThere k N K
      by_fate None e = let none : sent k (history K) ≡ None = law.unsent g K m k e in let bad : Some x ≡ None = sym h ∙ none in absurd (cc)
      by_fate (Some f) e = by_late f e (is_late (Some f)) refl

  module _ (d : Script) (M J : Events) (is : K ≡ M ++ J) where
    first-quiet : first_late (g ++ more) (N ++ M) ≡ None → first_absent (λ n. returned n (history (N ++ K))) (N ++ M) ≡ None → (first_late g M ≡ None) × (first_absent (λ n. returned n (history K)) M ≡ None)
    first-quiet late absent = (
      late-before g more M (late-earlier (g ++ more) N M late),
      absent-by (λ n. returned n (history (N ++ K))) (λ n. returned n (history K)) M J
          (λ n s r. back-before n (subst (λ (E : Events). 1 ≤ sendings n E) (sym is) s) r)
          (absent-earlier (λ n. returned n (history (N ++ K))) N M absent),
    )

    second-quiet : first_late (g ++ more) (N ++ M) ≡ None → first_absent (λ n. returned n (history (N ++ K))) (N ++ M) ≡ None → (first_late (g ++ more) N ≡ None) × (first_absent (λ n. returned n (history (N ++ K))) N ≡ None)
    second-quiet late absent = (late-later (g ++ more) N M late, absent-later (λ n. returned n (history (N ++ K))) N M absent)

    first-agrees : first_late (g ++ more) N ≡ None → Agrees d (history J) (history (N ++ K)) → Agrees d (history J) (history K)
    first-agrees late a k x none some telling =
        let off = away k x some late in
        ap (λ i. d x.receiver i) (sym (before-stays x.receiver k N K off))
        ∙ a k x none (sent-stays k N K x some) telling
        ∙ ap (λ i. nat_lt 1 i) (takings-stay k N K off)

    second-agrees : Agrees d (history J) (history (N ++ K)) → Agrees d (history K) (history (N ++ K))
    second-agrees a k x none some telling = a k x (sent-before k M J (subst (λ (E : Events). sent k (history E) ≡ None) is none)) some telling

-- ---- as spans of upkeeps

module _ (law : Carriage) (span : OfUpkeep (λ J K. K ≡ later (length J) K ++ J)) (behind : (J N : Events) → later (length J) (N ++ J) ≡ N)
    (e v : ℕ) (d : Script) (g more : List Fate) (J K L : Events) (on : AreUpkeep e v J K) (over : AreUpkeep e v K L) (m : IsCarried g K) (l : IsCarried (g ++ more) L) where
  whole : L ≡ later (length K) L ++ K
  whole = span e v K L over

  middle : K ≡ later (length J) K ++ J
  middle = span e v J K on

  all : later (length J) L ≡ later (length K) L ++ later (length J) K
  all = ap (later (length J)) (whole ∙ ap (λ (E : Events). later (length K) L ++ E) middle ∙ sym (append_assoc (later (length K) L) (later (length J) K) J))
      ∙ behind J (later (length K) L ++ later (length J) K)

  carried : IsCarried (g ++ more) (later (length K) L ++ K)
  carried = subst (λ (E : Events). IsCarried (g ++ more) E) whole l

  late : IsUndisturbed (g ++ more) J L → first_late (g ++ more) (later (length K) L ++ later (length J) K) ≡ None
  late q = sym (ap (λ (E : Events). first_late (g ++ more) E) all) ∙ q.unlate

  absent : IsUndisturbed (g ++ more) J L → first_absent (λ n. returned n (history (later (length K) L ++ K))) (later (length K) L ++ later (length J) K) ≡ None
  absent q = sym (ap₂ (λ (E F : Events). first_absent (λ n. returned n (history E)) F) whole all) ∙ q.back

  pub first-part : GoesUndisturbed d (g ++ more) J L → GoesUndisturbed d g J K
  first-part h =
      let q = first-quiet law g more (later (length K) L) K m carried d (later (length J) K) J middle (late h.quiet) (absent h.quiet) in
      record {
        quiet = record { unlate = q.0; back = q.1 };
        agrees = first-agrees law g more (later (length K) L) K m carried d (later (length J) K) J middle
            (second-quiet law g more (later (length K) L) K m carried d (later (length J) K) J middle (late h.quiet) (absent h.quiet)).0
            (subst (λ (E : Events). Agrees d (history J) (history E)) whole h.agrees);
      }

  pub second-part : GoesUndisturbed d (g ++ more) J L → GoesUndisturbed d (g ++ more) K L
  second-part h =
      let q = second-quiet law g more (later (length K) L) K m carried d (later (length J) K) J middle (late h.quiet) (absent h.quiet) in
      record {
        quiet = record { unlate = q.0; back = ap (λ (E : Events). first_absent (λ n. returned n (history E)) (later (length K) L)) whole ∙ q.1 };
        agrees = subst (λ (E : Events). Agrees d (history K) (history E)) (sym whole)
            (second-agrees law g more (later (length K) L) K m carried d (later (length J) K) J middle (subst (λ (E : Events). Agrees d (history J) (history E)) whole h.agrees));
      }
