-- The name of a run, read off the lanes that it begins with.
use Rattle.std.proofs.Common.{◌≡◌, ℕ, List, Result, Ok, Err, IfOk, sym, ap, ◌∙◌, subst}
use Rattle.shelves.specs.Plain.{Plain}
use Rattle.lane_calls.specs.LaneValues.{LaneValue}
use Rattle.lane_calls.specs.Lines.{Lines}
use Rattle.lane_locks.specs.Slots.{IsKept}
use Rattle.lane_locks.specs.declared.lanes.ReadyLane.{ReadyLane}
use Rattle.lane_locks.specs.declared.lanes.FedLane.{FedLane}
use Rattle.lane_locks.specs.Lanes.{EachAt, IsReady, IsFed}
use Rattle.lane_locks.specs.Runs.{MayRun, RunsOn, value_of, list_of, opening_of, value_at, lines_at, opening_at}

module _ {A C D : Type 0} (olds : List (ReadyLane A Plain C D)) (feeders : ℕ) where
  -- lanes that may run are ready under the name that is read off them
  pub names_ready : EachAt (λ _ r. MayRun feeders (r.lane).lane r.list) olds
      → EachAt (λ k r. IsReady (λ (s : Plain). s.opening) feeders (λ n. value_at olds n) (λ n. lines_at olds n) (λ n. opening_at olds n) k r.lane r.list) olds
  names_ready may k r at =
      let m = may k r at in
      record {
        began_is = sym (ap value_of at);
        idle = m.idle;
        shelf_is = sym (ap opening_of at);
        feeders_are = m.feeders_are;
        lines_are = sym (ap list_of at);
        of_lane = m.of_lane;
        fresh = m.fresh;
      }

  -- lanes that were fed under that name, each at the place of its number, ran on
  pub fed_runs : (news : List (FedLane A Plain C D)) → EachAt (λ k f. f.number ≡ k) news
      → EachAt (λ _ f. IsFed (λ (s : Plain). s.opening) feeders (λ n. value_at olds n) (λ n. lines_at olds n) (λ n. opening_at olds n) f.number f.lane (f.lines).items (f.stages).items) news
      → RunsOn feeders olds news
  fed_runs news order fed k old new at_old at_new =
      let f = fed k new at_new in
      let named = subst (λ (n : ℕ). IsKept feeders (lines_at olds n) (value_at olds n) (new.lane).lane (new.lines).items (new.stages).items) (order k new at_new) f.kept in
      let valued = subst (λ (v : LaneValue). IsKept feeders (lines_at olds k) v (new.lane).lane (new.lines).items (new.stages).items) (ap value_of at_old) named in
      record {
        kept = subst (λ (ls : Lines). IsKept feeders ls (old.lane).lane (new.lane).lane (new.lines).items (new.stages).items) (ap list_of at_old) valued;
        over = f.over;
        idle = f.idle;
        opening = f.shelf_is ∙ (ap (λ (n : ℕ). opening_at olds n) (order k new at_new) ∙ ap opening_of at_old);
      }

-- what follows of two facts of a result follows where it is there
pub if_both : {A E : Type 0} (r : Result A E) (P Q R : A → Type 0) → ((v : A) → P v → Q v → R v) → IfOk r P → IfOk r Q → IfOk r R
if_both (Ok v) P Q R f p q = f v p q
if_both (Err e) P Q R f p q = tt
