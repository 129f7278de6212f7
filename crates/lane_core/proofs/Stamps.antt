-- A stamp has an event of its own.
use Rattle.std.proofs.Common.{◌≡◌, ◌==◌, ◌≤◌, ◌+◌, ℕ, Bool, true, false, List, [], ◌∷◌, None, Some, length, if◌then◌else◌, subst, arith}
use Rattle.std.proofs.lemmas.List.{length-reverse}
use Rattle.lane_journals.specs.Readers.{stamps_of}
use Rattle.lane_journals.specs.Meanings.{history}
use Rattle.lane_journals.specs.KeptJournals.{past}
use Rattle.lane_journals.specs.declared.event.LaneEvent.{LaneEvent}
use Rattle.lane_journals.specs.declared.event.LaneEvent.TheVariants.{Published, Heard, Begun, Refused, Opened, Prepared, Wrote, Sent, Delivered, Returned, Closed, Decided, Stopped, Started}

pub length-past : (events : List LaneEvent) → length (past events) ≡ length events
unfolding past
length-past events = length-reverse events

counted : (b : Bool) (n m : ℕ) → n ≤ m → (if b then n + 1 else n) ≤ m + 1
counted true n m h = omega (arith, h)
counted false n m h = omega (arith, h)

module _ (v : ℕ) where
  few : (J : List LaneEvent) → stamps_of v (history J) ≤ length J
  few [] = omega arith
  few (Begun l d w i (Some s) ∷ J) = let h = counted (w == v) (stamps_of v (history J)) (length J) (few J) in omega (arith, h)
  few (Begun l d w i None ∷ J) = let h = few J in omega (arith, h)
  few (Published x ∷ J) = let h = few J in omega (arith, h)
  few (Heard d w ∷ J) = let h = few J in omega (arith, h)
  few (Refused l d x ∷ J) = let h = few J in omega (arith, h)
  few (Opened d w x ∷ J) = let h = few J in omega (arith, h)
  few (Prepared l b x ∷ J) = let h = few J in omega (arith, h)
  few (Wrote l x ∷ J) = let h = few J in omega (arith, h)
  few (Sent k w d n x ∷ J) = let h = few J in omega (arith, h)
  few (Delivered k x ∷ J) = let h = few J in omega (arith, h)
  few (Returned k ∷ J) = let h = few J in omega (arith, h)
  few (Closed l x ∷ J) = let h = few J in omega (arith, h)
  few (Decided d w x ∷ J) = let h = few J in omega (arith, h)
  few (Stopped n ∷ J) = let h = few J in omega (arith, h)
  few (Started n ∷ J) = let h = few J in omega (arith, h)

  pub few-stamps : (events : List LaneEvent) → stamps_of v (history (past events)) ≤ length events
  few-stamps events = subst (λ (n : ℕ). stamps_of v (history (past events)) ≤ n) (length-past events) (few (past events))
