-- The first message that wasn't returned, seen as the span goes on.
use Rattle.std.proofs.Common.{◌≡◌, ◌==◌, ℕ, ◌+◌, ◌≤◌, ◌<◌, Bool, true, false, not, List, [], ◌∷◌, ◌++◌, Option, Some, None, if◌then◌else◌, refl, sym, ap, ◌∙◌, subst, arith, eq-eqb}
use Rattle.std.proofs.lemmas.Bool.Decides.{nat_tests}
use Rattle.carriers.specs.declared.fate.Fate.{Fate}
use Rattle.lane_journals.specs.Readers.{or_else, only_if, returned}
use Rattle.lane_journals.specs.Meanings.{history}
use Rattle.lane_journals.specs.declared.event.LaneEvent.{LaneEvent}
use Rattle.lane_journals.specs.declared.event.LaneEvent.TheVariants as event
use Rattle.lane_carriage.specs.Readers.{last_sent}
use Rattle.upkeep_spans.specs.Causes.{first_absent}
use Rattle.upkeep_spans.specs.Scans.{awaited_in, gone_in, ArePlaced}

-- a number behind the last isn't returned
fresh : (given : List Fate) (J : List LaneEvent) (n : ℕ) → ArePlaced given J → last_sent J < n → returned n (history J) ≡ false
fresh given [] n p lt = refl
fresh given (event.Sent k v d to body ∷ J) n p lt = fresh given J n p.1 (let e : k ≡ last_sent J + 1 = p.0 in omega arith)
fresh given (event.Delivered k r ∷ J) n p lt = fresh given J n p.1 lt
fresh given (event.Returned k ∷ J) n p lt =
    let apart : (k == n) ≡ false = (let e : k ≡ last_sent J = p.0 in grind (arith, nat_tests)) in
    ap (λ (t : Bool). if t then true else returned n (history J)) apart ∙ fresh given J n p.1 lt
fresh given (_ ∷ J) n p lt = fresh given J n p lt

-- only the messages that were sent are tested
absent-same : (given : List Fate) (B K : List LaneEvent) (f g : ℕ → Bool) → ArePlaced given (K ++ B) → ((n : ℕ) → n ≤ last_sent (K ++ B) → f n ≡ g n) → first_absent f K ≡ first_absent g K
absent-same given B [] f g p h = refl
absent-same given B (event.Sent n v d to body ∷ K) f g p h =
    let next : n ≡ last_sent (K ++ B) + 1 = p.0 in
    let one : f n ≡ g n = h n (omega arith) in
    let rest : first_absent f K ≡ first_absent g K = absent-same given B K f g p.1 (λ m le. h m (omega arith)) in
    rw (one, rest) refl
absent-same given B (event.Delivered n r ∷ K) f g p h = absent-same given B K f g p.1 h
absent-same given B (event.Returned n ∷ K) f g p h = absent-same given B K f g p.1 h
absent-same given B (_ ∷ K) f g p h = absent-same given B K f g p h

or_else-none : {A : Type 0} (o : Option A) → or_else o None ≡ o
or_else-none None = refl
or_else-none (Some a) = refl

apart-returned : (k n : ℕ) (r : Bool) → n < k → (if k == n then true else r) ≡ r
apart-returned k n r lt = ap (λ (t : Bool). if t then true else r) (apart k n lt)
  where
    apart : (k n : ℕ) → n < k → (k == n) ≡ false
    apart k n lt = grind (arith, nat_tests)

mutual
  -- with the last message returned, just the earlier ones are left
  absent-returned : (given : List Fate) (B K : List LaneEvent) (k : ℕ) → ArePlaced given (K ++ B) → k ≡ last_sent (K ++ B)
      → (f : ℕ → Bool) → f k ≡ true → ((n : ℕ) → n < k → f n ≡ returned n (history (K ++ B))) → first_absent f K ≡ gone_in K
  absent-returned given B [] k p at f own h = refl
  absent-returned given B (event.Sent n v d to body ∷ K) k p at f own h =
      let here : f n ≡ true = subst (λ (m : ℕ). f m ≡ true) at own in
      let next : n ≡ last_sent (K ++ B) + 1 = p.0 in
      let below : first_absent f K ≡ first_absent (λ m. returned m (history (K ++ B))) K = absent-same given B K f (λ m. returned m (history (K ++ B))) p.1 (λ m le. h m (omega arith)) in
      ap (λ (t : Bool). or_else (first_absent f K) (only_if (not t) to)) here ∙ or_else-none (first_absent f K) ∙ below ∙ absent given B K p.1
  absent-returned given B (event.Delivered n r ∷ K) k p at f own h = absent-returned given B K k p.1 at f own h
  absent-returned given B (event.Returned n ∷ K) k p at f own h =
      absent-returned given B K k p.1 at f own
      (λ m lt. h m lt ∙ apart-returned n m (returned m (history (K ++ B))) (let e : n ≡ last_sent (K ++ B) = p.0 in omega arith))
  absent-returned given B (_ ∷ K) k p at f own h = absent-returned given B K k p at f own h

  -- the first message that wasn't returned: one before the last, or the last
  pub absent : (given : List Fate) (B K : List LaneEvent) → ArePlaced given (K ++ B) → first_absent (λ n. returned n (history (K ++ B))) K ≡ or_else (gone_in K) (awaited_in K)
  absent given B [] p = refl
  absent given B (event.Sent n v d to body ∷ K) p =
      let none : returned n (history (K ++ B)) ≡ false = fresh given (K ++ B) n p.1 (let e : n ≡ last_sent (K ++ B) + 1 = p.0 in omega arith) in
      ap (λ (t : Bool). or_else (first_absent (λ m. returned m (history (K ++ B))) K) (only_if (not t) to)) none
      ∙ ap (λ (o : Option ℕ). or_else o (Some to)) (absent given B K p.1)
  absent given B (event.Delivered n r ∷ K) p = absent given B K p.1
  absent given B (event.Returned k ∷ K) p =
      absent-returned given B K k p.1 p.0 (λ n. if k == n then true else returned n (history (K ++ B)))
      (ap (λ (t : Bool). if t then true else returned k (history (K ++ B))) (eq-eqb k k refl))
      (λ n lt. apart-returned k n (returned n (history (K ++ B))) lt)
      ∙ sym (or_else-none (gone_in K))
  absent given B (_ ∷ K) p = absent given B K p
