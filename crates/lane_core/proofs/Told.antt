-- What an upkeep's answer says of the lane's value.
use Rattle.std.proofs.Common.{◌≡◌, ◌⊎◌, ◌≤◌, ◌+◌, ℕ, Bool, true, false, List, [], ◌∷◌, ◌++◌, length, Option, Some, None, slice_get, if◌then◌else◌, inl, inr, refl, sym, ap, subst, ◌∙◌, arith, length-append}
use Rattle.carriers.specs.declared.fate.Fate.{Fate}
use Rattle.cluster_states.specs.declared.cluster_state.ClusterState.{ClusterState}
use Rattle.lane_journals.specs.Readers.{held, returned}
use Rattle.lane_journals.specs.Meanings.{history}
use Rattle.lane_journals.specs.KeptJournals.{past}
use Rattle.lane_journals.specs.declared.event.LaneEvent.{LaneEvent}
use Rattle.lane_journals.specs.declared.event.LaneEvent.TheVariants.{Heard}
use Rattle.lane_carriage.specs.Readers.{last_sent}
use Rattle.lane_keeping.specs.Tidings.{is_older, heard_next}
use Rattle.lane_states.specs.LaneStates.{journal_of}
use Rattle.upkeep_spans.specs.declared.answers.Upkeep.{Upkeep}
use Rattle.upkeep_spans.specs.declared.answers.Upkeep.TheVariants.{Rested, Blocked, Disturbed, Held, NoMemory}
use Rattle.upkeep_spans.specs.Spans.{AreUpkeep, Nothing, More, later, earlier}
use Rattle.upkeep_spans.specs.Causes.{first_absent, cause_of, IsCause, IsUndisturbed}
use Rattle.upkeep_spans.proofs.Leaving.{before}
use Rattle.upkeep_spans.proofs.Rested.{all_back, was_undisturbed}
use Rattle.upkeep_spans.proofs.Seeing.{length-past}
use Rattle.lane_calls.specs.LaneValues.{LaneValue, OfFirst, IsAny}
use Rattle.lane_core.specs.declared.work.Job.{Job}
use Rattle.lane_core.specs.declared.work.Work.{Work}
use Rattle.lane_core.specs.Works.{value_of, under_way_at, under_way_in}
use Rattle.lane_core.specs.Passes.{MakesPass, PassesBy, HasPassed}
use Rattle.lane_core.specs.Upkeeping.{MaintainsBy, MayMaintain, OpensBy, RestsBy}
use Rattle.lane_calls.specs.Upkept.{Maintains, HasOpened, HaveRun, IsLaneAtRest, IsUpkept}

-- ---- the answer

not-held : (by : ℕ) (late absent : Option ℕ) → Held by ≡ cause_of late absent → ⊥
not-held by (Some n) absent e = Prim.cc
not-held by None (Some n) e = Prim.cc
not-held by None None e = Prim.cc

pub upkept-told : (old new : LaneValue) (answer : Upkeep) → old.under_way ≡ [] → Maintains old new → (first_absent (λ n. returned n (history new.journal)) (later (length old.journal) new.journal) ≡ None → HasOpened new.journal × HaveRun new.journal) → (IsUndisturbed new.given old.journal new.journal → IsLaneAtRest new) → (answer ≡ NoMemory) ⊎ IsCause new.given (length old.journal) new.journal answer → IsUpkept old new answer
upkept-told old new NoMemory idle m f g t = (idle, inr m)
upkept-told old new Rested idle m f g (inl e) = Prim.cc
upkept-told old new Rested idle m f g (inr c) = (idle, m, c, (f (all_back _ _ c)).0, (f (all_back _ _ c)).1, g (was_undisturbed _ _ _ c))
upkept-told old new (Blocked n) idle m f g (inl e) = Prim.cc
upkept-told old new (Blocked n) idle m f g (inr c) = (idle, m, c)
upkept-told old new (Disturbed n) idle m f g (inl e) = Prim.cc
upkept-told old new (Disturbed n) idle m f g (inr c) = (idle, m, c)
upkept-told old new (Held by) idle m f g (inl e) = Prim.cc
upkept-told old new (Held by) idle m f g (inr c) = absurd (not-held by _ _ c)

-- ---- the span

pub record IsBehind (J K : List LaneEvent) : Type 0 where
  pub front : List LaneEvent
  pub is : K ≡ front ++ J

behind-heard : (d : ℕ) (o : Option ClusterState) (J : List LaneEvent) → IsBehind J (heard_next d o J)
behind-heard d None J = record { front = []; is = refl }
behind-heard d (Some s) J = by_test (is_older (held d (history J)) s.version)
  where
    by_test : (b : Bool) → IsBehind J (if b then Heard d s.version ∷ J else J)
    by_test true = record { front = Heard d s.version ∷ []; is = refl }
    by_test false = record { front = []; is = refl }

behind-span : (d v : ℕ) (I J K : List LaneEvent) → AreUpkeep d v J K → IsBehind I J → IsBehind I K
behind-span d v I J K Nothing b = b
behind-span d v I J K (More L e h more) b = let r : IsBehind I L = behind-span d v I J L more b in record { front = e ∷ r.front; is = ap (λ (M : List LaneEvent). e ∷ M) r.is }

pub behind-pass : (old new : LaneValue) → Maintains old new → IsBehind old.journal new.journal
behind-pass old new m = behind-span m.owner (m.state).version old.journal (heard_next m.owner (Some m.state) old.journal) new.journal m.pass (behind-heard m.owner (Some m.state) old.journal)

pub earlier-behind : (J K : List LaneEvent) → IsBehind J K → earlier (length J) K ≡ J
earlier-behind J K b = subst (λ (L : List LaneEvent). earlier (length J) L ≡ J) (sym b.is) (before J b.front)

pub longer-behind : (J K : List LaneEvent) → IsBehind J K → length J ≤ length K
longer-behind J K b = let size : length K ≡ length b.front + length J = ap length b.is ∙ length-append b.front J in omega (arith, size)

-- ---- the events as they are kept, oldest first

pub inside-of : (xs ys : List LaneEvent) → IsBehind (past xs) (past ys) → length xs ≤ length ys
inside-of xs ys b =
    let le : length (past xs) ≤ length (past ys) = longer-behind (past xs) (past ys) b in
    let first : length (past xs) ≡ length xs = length-past xs in
    let all : length (past ys) ≡ length ys = length-past ys in
    omega (arith, le, first, all)

pub before-of : (xs ys : List LaneEvent) (given : List Fate) (last : ℕ) → IsBehind (past xs) (past ys) → last ≡ length given → last_sent (past xs) ≡ length given → last ≡ last_sent (earlier (length xs) (past ys))
before-of xs ys given last b counted sent =
    counted ∙ sym sent
    ∙ ap last_sent (sym (ap (λ (n : ℕ). earlier n (past ys)) (sym (length-past xs)) ∙ earlier-behind (past xs) (past ys) b))

pub cause-of : (xs K : List LaneEvent) (given : List Fate) (answer : Upkeep) → (answer ≡ NoMemory) ⊎ IsCause given (length xs) K answer → (answer ≡ NoMemory) ⊎ IsCause given (length (past xs)) K answer
cause-of xs K given answer t = subst (λ (n : ℕ). (answer ≡ NoMemory) ⊎ IsCause given n K answer) (sym (length-past xs)) t

-- ---- an operation under way

-- without a first one there is none
pub none-there : (jobs : List Job) → slice_get jobs 0 ≡ None → jobs ≡ []
none-there [] h = refl
none-there (j ∷ jobs) h = absurd (cc)

-- the first of them is of any
pub held-first : (jobs : List Job) (j : Job) → slice_get jobs 0 ≡ Some j → OfFirst IsAny (under_way_in jobs) j.line
held-first [] j h = absurd (cc)
held-first (k ∷ jobs) j h = record {
  at = 0;
  operation = under_way_at k;
  place = record { found = refl; line_is = (let same : k ≡ j = cc in ap (λ (z : Job). z.line) same) };
  is = tt;
  first = λ n u less found none. absurd (omega (arith, less));
}

-- ---- want of memory

pub upkept-short : (x y : Work) (given now planned : List Fate) (takes : Bool) → x.jobs.items ≡ [] → MayMaintain x y given now → IsUpkept (value_of x given planned takes) (value_of y now planned takes) NoMemory
upkept-short x y given now planned takes idle (inl same) = (ap under_way_in idle, inl (ap (λ (g : List Fate). value_of y g planned takes) same.1 ∙ same.0 given planned takes))
upkept-short x y given now planned takes idle (inr m) = (ap under_way_in idle, inr (m planned takes))

-- ---- the lane's value behind its view

pub lane-told : (x y : Work) (given now p q : List Fate) (t u : Bool) (v : LaneValue) (answer result : Upkeep) (from : ℕ) → value_of x given p t ≡ v → q ≡ p → u ≡ t → x.jobs.items ≡ [] → from ≡ length x.state.journal.events.items → MaintainsBy x y given now → OpensBy x y → RestsBy x y now
    → (answer ≡ NoMemory) ⊎ IsCause now from (journal_of y.state) answer → result ≡ answer → IsUpkept v (value_of y now q u) result
lane-told x y given now p q t u v answer result from view planned kind idle at m opens rests told is =
    subst (λ (o : LaneValue). IsUpkept o (value_of y now q u) result) view
    (subst (λ (a : Upkeep). IsUpkept (value_of x given p t) (value_of y now q u) a) (sym is)
    (subst (λ (a : List Fate). IsUpkept (value_of x given p t) (value_of y now a u) answer) (sym planned)
    (subst (λ (a : Bool). IsUpkept (value_of x given p t) (value_of y now p a) answer) (sym kind)
    (upkept-told (value_of x given p t) (value_of y now p t) answer (ap under_way_in idle) (m p t) opens rests
    (cause-of x.state.journal.events.items (journal_of y.state) now answer (subst (λ (n : ℕ). (answer ≡ NoMemory) ⊎ IsCause now n (journal_of y.state) answer) at told))))))

pub lane-short : (x y : Work) (given now p q : List Fate) (t u : Bool) (v : LaneValue) (result : Upkeep) → value_of x given p t ≡ v → q ≡ p → u ≡ t → x.jobs.items ≡ [] → MayMaintain x y given now → result ≡ NoMemory → IsUpkept v (value_of y now q u) result
lane-short x y given now p q t u v result view planned kind idle m is =
    subst (λ (o : LaneValue). IsUpkept o (value_of y now q u) result) view
    (subst (λ (a : Upkeep). IsUpkept (value_of x given p t) (value_of y now q u) a) (sym is)
    (subst (λ (a : List Fate). IsUpkept (value_of x given p t) (value_of y now a u) NoMemory) (sym planned)
    (subst (λ (a : Bool). IsUpkept (value_of x given p t) (value_of y now p a) NoMemory) (sym kind)
    (upkept-short x y given now p t idle m))))

-- ---- the order of its pass

passed-by : (v w : LaneValue) (answer : Upkeep) → MakesPass v.lane v.rules v.journal w.journal w.given → HasPassed v w answer
passed-by v w Rested m = m
passed-by v w (Blocked n) m = m
passed-by v w (Disturbed n) m = m
passed-by v w (Held by) m = tt
passed-by v w NoMemory m = tt

pub lane-passed : (x y : Work) (given now p q : List Fate) (t u : Bool) (v : LaneValue) (result : Upkeep) → value_of x given p t ≡ v → PassesBy x y now → HasPassed v (value_of y now q u) result
lane-passed x y given now p q t u v result view m =
    subst (λ (o : LaneValue). HasPassed o (value_of y now q u) result) view (passed-by (value_of x given p t) (value_of y now q u) result m)

pub none-passed : (v w : LaneValue) (result : Upkeep) → result ≡ NoMemory → HasPassed v w result
none-passed v w result is = subst (HasPassed v w) (sym is) tt
