-- Rows are buckets within the lane, and so is what an Activate names; nodes have numbers below 32.
use Rattle.std.proofs.Common.{◌≡◌, ◌==◌, ◌+◌, ◌^◌, ◌<◌, ◌≤◌, ℕ, Bool, true, false, cond, List, [], ◌∷◌, Option, Some, is_some, inl, inr, refl, sym, ap, ◌∙◌, subst, arith}
use mathlib.Core.Bool.{true≢false}
use Rattle.bucket_ids.specs.Buckets.{IsBucket}
use Rattle.messages.specs.declared.decision.Decision.TheVariants.{RoundBegun, RoundEnded, RowSplit, RowsJoined, ActiveOn, DeleteFrom, DeleteOver}
use Rattle.lane_journals.specs.Buckets.{Bucket, contains, first_child, second_child}
use Rattle.lane_journals.specs.Events as plain
use Rattle.lane_journals.specs.Readers.{Journal, Message, row_in, row_at, sent}
use Rattle.lane_journals.specs.Facts.{IsRow, InRegion}
use Rattle.lane_journals.specs.Legal.{MaySend, MayCarry, MayJoin, IsIdleRow, Permits, Legal}
use Rattle.lane_journals.specs.States.{state_of}
use Rattle.lane_journals.specs.Meanings.{meaning, history}
use Rattle.lane_journals.specs.Places.{Setting, IsPartition}
use Rattle.lane_journals.specs.KeptJournals.{IsLegal}
use Rattle.lane_journals.specs.declared.event.LaneEvent.{LaneEvent}
use Rattle.lane_journals.specs.declared.event.LaneEvent.TheVariants.{Opened, Decided}
use Rattle.lane_journals.proofs.Basics.{sent-cases}
use Rattle.lane_journals.proofs.BucketLaws.{child_of, first_in, second_in, fits-of, own-low}
use Rattle.journal_views.proofs.Members.{In, contains-in}

-- a bucket whose keys are all of the lane
pub record LiesIn (S : Setting) (b : Bucket) : Type 0 where
  pub bucket : IsBucket b
  pub inside : (key : ℕ) → contains b key ≡ true → contains S.lane key ≡ true

-- ---- rows in a list

found-in : (key : ℕ) (rows : List Bucket) (b : Bucket) → row_in key rows ≡ Some b → In b rows
found-in key [] b h = cc
found-in key (r ∷ rows) b h = by_test (contains r key) (found-in key rows b) h
  where
    by_test : (t : Bool) → (row_in key rows ≡ Some b → In b rows) → cond t (Some r) (row_in key rows) ≡ Some b → In b (r ∷ rows)
    by_test true ih g = inl (let e : ◌≡◌ {A = Option Bucket} (Some r) (Some b) = g in cc)
    by_test false ih g = inr (ih g)

some-in : (key : ℕ) (rows : List Bucket) (b : Bucket) → In b rows → contains b key ≡ true → is_some (row_in key rows) ≡ true
some-in key [] b i h = absurd i
some-in key (r ∷ rows) b (inl is) h = ap (λ t. is_some (cond t (Some r) (row_in key rows))) (ap (λ (x : Bucket). contains x key) is ∙ h)
some-in key (r ∷ rows) b (inr i) h = by_test (contains r key) (some-in key rows b i h)
  where
    by_test : (t : Bool) → is_some (row_in key rows) ≡ true → is_some (cond t (Some r) (row_in key rows)) ≡ true
    by_test true ih = refl
    by_test false ih = ih

opened-lies : (S : Setting) (H : Journal) (v : ℕ) (rows : List Bucket) → IsPartition S H v rows → (key : ℕ) (b : Bucket) → row_in key rows ≡ Some b → LiesIn S b
opened-lies S H v rows p key b h =
    let i = found-in key rows b h in
    record { bucket = p.valid b (contains-in rows b i); inside = λ k g. sym (p.parts k) ∙ some-in k rows b i g }

-- ---- children and parents

first-bits : (b : Bucket) → (first_child b).bits ≡ b.bits + 1
unfolding first_child
first-bits b = refl

second-bits : (b : Bucket) → (second_child b).bits ≡ b.bits + 1
unfolding second_child
second-bits b = refl

first-lies : (S : Setting) (b : Bucket) → b.bits < 58 → LiesIn S b → LiesIn S (first_child b)
first-lies S b few h =
    let bits = first-bits b in let fits = (h.bucket).fits in
    record { bucket = record { some = omega (arith, bits); most = omega (arith, bits, few); fits = (fits-of b fits).0 }; inside = λ key g. h.inside key (first_in b key fits g) }

second-lies : (S : Setting) (b : Bucket) → b.bits < 58 → LiesIn S b → LiesIn S (second_child b)
second-lies S b few h =
    let bits = second-bits b in let fits = (h.bucket).fits in
    record { bucket = record { some = omega (arith, bits); most = omega (arith, bits, few); fits = (fits-of b fits).1 }; inside = λ key g. h.inside key (second_in b key fits g) }

parent-lies : (S : Setting) (p : Bucket) → p.low < 2 ^ p.bits → 1 ≤ p.bits → LiesIn S (first_child p) → LiesIn S (second_child p) → LiesIn S p
parent-lies S p fits some a b = record {
  bucket = record { some = some; most = (let bits = first-bits p in let most = (a.bucket).most in omega (arith, bits, most)); fits = fits };
  inside = λ key g. elim (child_of p key g) [ inl i ↦ a.inside key i | inr i ↦ b.inside key i ];
}

-- ---- rows of a journal

split-lies : (S : Setting) (c : Bucket) (key : ℕ) (b : Bucket) → c.bits < 58 → LiesIn S c → ◌≡◌ {A = Option Bucket} (Some (cond (contains (first_child c) key) (first_child c) (second_child c))) (Some b) → LiesIn S b
split-lies S c key b few h e = by_test (contains (first_child c) key) e
  where
    by_test : (t : Bool) → ◌≡◌ {A = Option Bucket} (Some (cond t (first_child c) (second_child c))) (Some b) → LiesIn S b
    by_test true g = let is : first_child c ≡ b = cc in subst (LiesIn S) is (first-lies S c few h)
    by_test false g = let is : second_child c ≡ b = cc in subst (LiesIn S) is (second-lies S c few h)

some-of : (a b : Bucket) → ◌≡◌ {A = Option Bucket} (Some a) (Some b) → a ≡ b
some-of a b e = cc

module _ (S : Setting) (lane : IsBucket S.lane) where
  row-lies : (J : List LaneEvent) → IsLegal S J → (v key : ℕ) (b : Bucket) → row_at v key (history J) ≡ Some b → LiesIn S b
  row-lies [] l v key b h = cc
  row-lies (Opened d w rows ∷ J) l v key b h = by_version (w == v) (row-lies J l.0 v key b) h
    where
      by_version : (t : Bool) → (row_at v key (history J) ≡ Some b → LiesIn S b) → cond t (row_in key rows) (row_at v key (history J)) ≡ Some b → LiesIn S b
      by_version true ih g = opened-lies S (history J) w rows ((l.1).placed).1 key b g
      by_version false ih g = ih g
  row-lies (Decided d w (RowSplit c) ∷ J) l v key b h = by_version (w == v) refl (row-lies J l.0) h
    where
      split : (c.bits < 58) × IsIdleRow w c (history J)
      split = ((l.1).permitted).1

      by_key : (t : Bool) → contains c key ≡ t → ((u k : ℕ) (x : Bucket) → row_at u k (history J) ≡ Some x → LiesIn S x)
          → cond t (Some (cond (contains (first_child c) key) (first_child c) (second_child c))) (row_at v key (history J)) ≡ Some b → LiesIn S b
      by_key true e ih g = split-lies S c key b split.0 (ih w key c (((split.1).row).row key e)) g
      by_key false e ih g = ih v key b g

      by_version : (t : Bool) → (w == v) ≡ t → ((u k : ℕ) (x : Bucket) → row_at u k (history J) ≡ Some x → LiesIn S x)
          → cond t (cond (contains c key) (Some (cond (contains (first_child c) key) (first_child c) (second_child c))) (row_at v key (history J))) (row_at v key (history J)) ≡ Some b → LiesIn S b
      by_version true e ih g = by_key (contains c key) refl ih g
      by_version false e ih g = ih v key b g
  row-lies (Decided d w (RowsJoined p) ∷ J) l v key b h = by_version (w == v) (row-lies J l.0) h
    where
      join : MayJoin (history J) w p
      join = ((l.1).permitted).1

      row-of : ((u k : ℕ) (x : Bucket) → row_at u k (history J) ≡ Some x → LiesIn S x) → (c : Bucket) → IsRow w c (history J) → LiesIn S c
      row-of ih c r = ih w c.low c (r.row c.low (own-low c r.fits))

      parent : ((u k : ℕ) (x : Bucket) → row_at u k (history J) ≡ Some x → LiesIn S x) → LiesIn S p
      parent ih =
          let le : (S.lane).bits ≤ p.bits = ((l.1).placed).1 in let some = lane.some in
          parent-lies S p join.fits (omega (arith, le, some)) (row-of ih (first_child p) (join.first).row) (row-of ih (second_child p) (join.second).row)

      by_key : (t : Bool) → ((u k : ℕ) (x : Bucket) → row_at u k (history J) ≡ Some x → LiesIn S x) → cond t (Some p) (row_at v key (history J)) ≡ Some b → LiesIn S b
      by_key true ih g = subst (LiesIn S) (some-of p b g) (parent ih)
      by_key false ih g = ih v key b g

      by_version : (t : Bool) → ((u k : ℕ) (x : Bucket) → row_at u k (history J) ≡ Some x → LiesIn S x) → cond t (cond (contains p key) (Some p) (row_at v key (history J))) (row_at v key (history J)) ≡ Some b → LiesIn S b
      by_version true ih g = by_key (contains p key) ih g
      by_version false ih g = ih v key b g
  row-lies (Decided d w (RoundBegun c set) ∷ J) l v key b h = row-lies J l.0 v key b h
  row-lies (Decided d w (RoundEnded c set) ∷ J) l v key b h = row-lies J l.0 v key b h
  row-lies (Decided d w (ActiveOn c n) ∷ J) l v key b h = row-lies J l.0 v key b h
  row-lies (Decided d w (DeleteFrom c n s) ∷ J) l v key b h = row-lies J l.0 v key b h
  row-lies (Decided d w (DeleteOver c n) ∷ J) l v key b h = row-lies J l.0 v key b h
  row-lies (_ ∷ J) l v key b h = row-lies J l.0 v key b h

  -- ---- what an Activate names

  sent-lies : (J : List LaneEvent) → IsLegal S J → (k : ℕ) (m : Message) (b : Bucket) → sent k (history J) ≡ Some m → m.body ≡ plain.Activate b → LiesIn S b
  sent-lies [] l k m b h is = cc
  sent-lies (e ∷ J) l k m b h is = elim (sent-cases k (history J) (meaning J e) m h) [
    | inl old ↦ sent-lies J l.0 k m b old is
    | inr new ↦ (
        let p : MaySend (state_of (plain.Sent k m.version new.sender m.receiver m.body ∷ history J)) (history J) k m.version new.sender m.receiver m.body =
        subst (λ (x : plain.Event). Permits S.acks (state_of (x ∷ history J)) (history J) x) new.is (l.1).permitted in
        let r : IsRow m.version b (history J) = (subst (λ (y : plain.Body). MayCarry (state_of (plain.Sent k m.version new.sender m.receiver m.body ∷ history J)) (history J) m.version m.receiver y) is p.carries).0 in
        row-lies J l.0 m.version b.low b (r.row b.low (own-low b r.fits)))
  ]

  pub activated-lies : (J : List LaneEvent) → IsLegal S J → (k : ℕ) (m : Message) (b : Bucket) → sent k (history J) ≡ Some m → m.body ≡ plain.Activate b → LiesIn S b
  activated-lies = sent-lies

  -- a region has keys of the lane alone
  pub region-lies : (J : List LaneEvent) → IsLegal S J → (v n key : ℕ) → InRegion v n key (history J) → contains S.lane key ≡ true
  region-lies J l v n key r = (sent-lies J l r.number r.message r.bucket r.was_sent r.body).inside key r.inside

-- ---- nodes

pub serving-small : (acks : ℕ) (P : ℕ → ℕ → Bool) (H : Journal) → Legal acks P H → (v n : ℕ) → state_of H v n ≡ true → n < 32
serving-small acks P [] l v n h = absurd (true≢false (sym h))
serving-small acks P (plain.Published w set ∷ H) l v n h = by_test (w == v) (serving-small acks P H l.0 v n) h
  where
    by_test : (t : Bool) → (state_of H v n ≡ true → n < 32) → cond t (set n) (state_of H v n) ≡ true → n < 32
    by_test true ih g = (l.1).small n g
    by_test false ih g = ih g
serving-small acks P (_ ∷ H) l v n h = serving-small acks P H l.0 v n h
