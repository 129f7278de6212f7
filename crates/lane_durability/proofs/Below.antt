-- What the journal below a version says of one version.
use Rattle.std.proofs.Common.{◌≡◌, ℕ, ◌<◌, Bool, true, false, cond, [], ◌∷◌, Some, refl, sym, ◌∙◌, arith, inl, inr, ◌⊎◌, eqb, ltb}
use Rattle.std.proofs.lemmas.Bool.Decides.{nat_tests}
use Rattle.lane_journals.specs.Buckets.{Bucket, across}
use Rattle.lane_journals.specs.Events.{Body, Read, Apply, RoundBegun, RoundEnded, RowSplit, RowsJoined, ActiveOn, DeleteFrom, DeleteOver, Event, Heard, Decided, Stopped, Started}
use Rattle.lane_journals.specs.Readers.{Journal, published, known, stopped, held, stamps_of, opened, row_at, rounds, round_of, running, round_in, active, deleting}
use Rattle.lane_journals.specs.Below.{kept, below}

pub lt-true : (a b : ℕ) → a < b → ltb a b ≡ true
lt-true a b h = grind (arith, nat_tests)

pub true-lt : (a b : ℕ) → ltb a b ≡ true → a < b
true-lt a b h = grind (arith, nat_tests)

-- what goes by the events of one version below v is the same
pub same_below : {A : Type 0} (v : ℕ) (R : Journal → ℕ → A) → ((e : Event) (J K : Journal) → ((key : ℕ) → R J key ≡ R K key) → (key : ℕ) → R (e ∷ J) key ≡ R (e ∷ K) key) → ((e : Event) (J : Journal) → kept v J e ≡ false → (key : ℕ) → R (e ∷ J) key ≡ R J key) → (J : Journal) (key : ℕ) → R (below v J) key ≡ R J key
same_below v R congr skip [] key = refl
same_below v R congr skip (e ∷ J) key = by_case (kept v J e) refl (same_below v R congr skip J)
  where
    by_case : (t : Bool) → kept v J e ≡ t → ((key : ℕ) → R (below v J) key ≡ R J key) → R (cond t (e ∷ below v J) (below v J)) key ≡ R (e ∷ J) key
    by_case true k ih = congr e (below v J) J ih key
    by_case false k ih = ih key ∙ sym (skip e J k key)

module _ (v w : ℕ) (lt : w < v) where
  rounds-congr : (e : Event) (J K : Journal) → (ℕ → rounds w J ≡ rounds w K) → ℕ → rounds w (e ∷ J) ≡ rounds w (e ∷ K)
  rounds-congr e J K h key = let x = h 0 in grind arith

  rounds-skip : (e : Event) (J : Journal) → kept v J e ≡ false → ℕ → rounds w (e ∷ J) ≡ rounds w J
  rounds-skip e J k key = grind (arith, nat_tests)

  pub rounds-below : (J : Journal) → rounds w (below v J) ≡ rounds w J
  rounds-below J = same_below v (λ J i. rounds w J) rounds-congr rounds-skip J 0

  opened-congr : (e : Event) (J K : Journal) → (ℕ → opened w J ≡ opened w K) → ℕ → opened w (e ∷ J) ≡ opened w (e ∷ K)
  opened-congr e J K h key = let x = h 0 in grind arith

  opened-skip : (e : Event) (J : Journal) → kept v J e ≡ false → ℕ → opened w (e ∷ J) ≡ opened w J
  opened-skip e J k key = grind (arith, nat_tests)

  pub opened-below : (J : Journal) → opened w (below v J) ≡ opened w J
  opened-below J = same_below v (λ J i. opened w J) opened-congr opened-skip J 0

  row_at-congr : (e : Event) (J K : Journal) → ((key : ℕ) → row_at w key J ≡ row_at w key K) → (key : ℕ) → row_at w key (e ∷ J) ≡ row_at w key (e ∷ K)
  row_at-congr e J K h key = let x = h key in grind arith

  row_at-skip : (e : Event) (J : Journal) → kept v J e ≡ false → (key : ℕ) → row_at w key (e ∷ J) ≡ row_at w key J
  row_at-skip e J k key = grind (arith, nat_tests)

  pub row_at-below : (J : Journal) (key : ℕ) → row_at w key (below v J) ≡ row_at w key J
  row_at-below = same_below v (λ J key. row_at w key J) row_at-congr row_at-skip

  running-congr : (b : Bucket) (e : Event) (J K : Journal) → (ℕ → running w b J ≡ running w b K) → ℕ → running w b (e ∷ J) ≡ running w b (e ∷ K)
  running-congr b e J K h key = let x = h 0 in grind arith

  running-skip : (b : Bucket) (e : Event) (J : Journal) → kept v J e ≡ false → ℕ → running w b (e ∷ J) ≡ running w b J
  running-skip b e J k key = grind (arith, nat_tests)

  pub running-below : (b : Bucket) (J : Journal) → running w b (below v J) ≡ running w b J
  running-below b J = same_below v (λ J i. running w b J) (running-congr b) (running-skip b) J 0

  -- the round's number goes by the number of all rounds
  round_of-congr : (b : Bucket) (e : Event) (J K : Journal) → rounds w J ≡ rounds w K → round_of w b J ≡ round_of w b K → round_of w b (e ∷ J) ≡ round_of w b (e ∷ K)
  round_of-congr b e J K h g = grind arith

  round_of-skip : (b : Bucket) (e : Event) (J : Journal) → kept v J e ≡ false → round_of w b (e ∷ J) ≡ round_of w b J
  round_of-skip b e J k = grind (arith, nat_tests)

  pub round_of-below : (b : Bucket) (J : Journal) → round_of w b (below v J) ≡ round_of w b J
  round_of-below b [] = refl
  round_of-below b (e ∷ J) = by_case (kept v J e) refl (round_of-below b J)
    where
      by_case : (t : Bool) → kept v J e ≡ t → round_of w b (below v J) ≡ round_of w b J → round_of w b (cond t (e ∷ below v J) (below v J)) ≡ round_of w b (e ∷ J)
      by_case true k ih = round_of-congr b e (below v J) J (rounds-below J) ih
      by_case false k ih = ih ∙ sym (round_of-skip b e J k)

  published-congr : (e : Event) (J K : Journal) → (ℕ → published w J ≡ published w K) → ℕ → published w (e ∷ J) ≡ published w (e ∷ K)
  published-congr e J K h key = let x = h 0 in grind arith

  published-skip : (e : Event) (J : Journal) → kept v J e ≡ false → ℕ → published w (e ∷ J) ≡ published w J
  published-skip e J k key = grind (arith, nat_tests)

  pub published-below : (J : Journal) → published w (below v J) ≡ published w J
  published-below J = same_below v (λ J i. published w J) published-congr published-skip J 0

  known-congr : (e : Event) (J K : Journal) → ((n : ℕ) → known w n J ≡ known w n K) → (n : ℕ) → known w n (e ∷ J) ≡ known w n (e ∷ K)
  known-congr e J K h n = let x = h n in grind arith

  known-skip : (e : Event) (J : Journal) → kept v J e ≡ false → (n : ℕ) → known w n (e ∷ J) ≡ known w n J
  known-skip e J k n = grind (arith, nat_tests)

  pub known-below : (J : Journal) (n : ℕ) → known w n (below v J) ≡ known w n J
  known-below = same_below v (λ J n. known w n J) known-congr known-skip

  stamps-congr : (e : Event) (J K : Journal) → (ℕ → stamps_of w J ≡ stamps_of w K) → ℕ → stamps_of w (e ∷ J) ≡ stamps_of w (e ∷ K)
  stamps-congr e J K h key = let x = h 0 in grind arith

  stamps-skip : (e : Event) (J : Journal) → kept v J e ≡ false → ℕ → stamps_of w (e ∷ J) ≡ stamps_of w J
  stamps-skip e J k key = grind (arith, nat_tests)

  pub stamps-below : (J : Journal) → stamps_of w (below v J) ≡ stamps_of w J
  stamps-below J = same_below v (λ J i. stamps_of w J) stamps-congr stamps-skip J 0

  active-congr : (e : Event) (J K : Journal) → ((key : ℕ) → active w key J ≡ active w key K) → (key : ℕ) → active w key (e ∷ J) ≡ active w key (e ∷ K)
  active-congr e J K h key = let x = h key in grind arith

  active-skip : (e : Event) (J : Journal) → kept v J e ≡ false → (key : ℕ) → active w key (e ∷ J) ≡ active w key J
  active-skip e J k key = grind (arith, nat_tests)

  pub active-below : (J : Journal) (key : ℕ) → active w key (below v J) ≡ active w key J
  active-below = same_below v (λ J key. active w key J) active-congr active-skip

  deleting-congr : (e : Event) (J K : Journal) → ((key : ℕ) → deleting w key J ≡ deleting w key K) → (key : ℕ) → deleting w key (e ∷ J) ≡ deleting w key (e ∷ K)
  deleting-congr (Decided d x (RowsJoined p)) J K h key = rw (h key, h (across p key)) refl
  deleting-congr (Decided d x (DeleteOver b n)) J K h key = rw (h key) refl
  deleting-congr (Decided d x (DeleteFrom b n s)) J K h key = rw (h key) refl
  deleting-congr (Decided d x (RoundBegun b)) J K h key = h key
  deleting-congr (Decided d x (RoundEnded b set)) J K h key = h key
  deleting-congr (Decided d x (RowSplit b)) J K h key = h key
  deleting-congr (Decided d x (ActiveOn b n)) J K h key = h key
  deleting-congr _ J K h key = h key

  not_w : (x : ℕ) → ltb x v ≡ false → eqb x w ≡ false
  not_w x h = grind (arith, nat_tests)

  deleting-skip : (e : Event) (J : Journal) → kept v J e ≡ false → (key : ℕ) → deleting w key (e ∷ J) ≡ deleting w key J
  deleting-skip (Decided d x (RowsJoined p)) J k key = rw (not_w x k) refl
  deleting-skip (Decided d x (DeleteOver b n)) J k key = rw (not_w x k) refl
  deleting-skip (Decided d x (DeleteFrom b n s)) J k key = rw (not_w x k) refl
  deleting-skip (Decided d x (RoundBegun b)) J k key = refl
  deleting-skip (Decided d x (RoundEnded b set)) J k key = refl
  deleting-skip (Decided d x (RowSplit b)) J k key = refl
  deleting-skip (Decided d x (ActiveOn b n)) J k key = refl
  deleting-skip _ J k key = refl

  pub deleting-below : (J : Journal) (key : ℕ) → deleting w key (below v J) ≡ deleting w key J
  deleting-below = same_below v (λ J key. deleting w key J) deleting-congr deleting-skip

  pub round_in-below : (b : Body) (J : Journal) → round_in w b (below v J) ≡ round_in w b J
  round_in-below (Read b) J = round_of-below b J
  round_in-below (Apply b u) J = round_of-below b J
  round_in-below _ J = refl

-- ---- states and distributors

pub published-back : (v x : ℕ) (J : Journal) → published x (below v J) ≡ true → (published x J ≡ true) × (x < v)
published-back v x [] h = cc
published-back v x (e ∷ J) h = by_case (kept v J e) refl h (published-back v x J)
  where
    stays : (e : Event) → published x J ≡ true → published x (e ∷ J) ≡ true
    stays e h = grind (arith, nat_tests)

    now : (e : Event) → published x (e ∷ below v J) ≡ true → kept v J e ≡ true → (published x (below v J) ≡ true) ⊎ ((published x (e ∷ J) ≡ true) × (x < v))
    now e h k = grind (arith, nat_tests)

    by_case : (t : Bool) → kept v J e ≡ t → published x (cond t (e ∷ below v J) (below v J)) ≡ true → (published x (below v J) ≡ true → (published x J ≡ true) × (x < v)) → (published x (e ∷ J) ≡ true) × (x < v)
    by_case true k h ih = elim (now e h k) [ inl old ↦ (let i = ih old in (stays e i.0, i.1)) | inr new ↦ new ]
    by_case false k h ih = let i = ih h in (stays e i.0, i.1)

pub held-below : (v d : ℕ) (J : Journal) → ((y : ℕ) → held d J ≡ Some y → y < v) → held d (below v J) ≡ held d J
held-below v d [] h = refl
held-below v d (e ∷ J) h = by_event e h (λ h. held-below v d J h)
  where
    keep : (e : Event) → (held d (e ∷ J) ≡ held d J) → (held d (e ∷ below v J) ≡ held d (below v J)) → held d (below v J) ≡ held d J → held d (cond (kept v J e) (e ∷ below v J) (below v J)) ≡ held d (e ∷ J)
    keep e a b ih = by_case (kept v J e)
      where
        by_case : (t : Bool) → held d (cond t (e ∷ below v J) (below v J)) ≡ held d (e ∷ J)
        by_case true = b ∙ ih ∙ sym a
        by_case false = ih ∙ sym a

    by_event : (e : Event) → ((y : ℕ) → held d (e ∷ J) ≡ Some y → y < v) → (((y : ℕ) → held d J ≡ Some y → y < v) → held d (below v J) ≡ held d J) → held d (cond (kept v J e) (e ∷ below v J) (below v J)) ≡ held d (e ∷ J)
    by_event (Heard c y) h ih = by_d (eqb c d) refl
      where
        by_d : (t : Bool) → eqb c d ≡ t → held d (cond (ltb y v) (Heard c y ∷ below v J) (below v J)) ≡ held d (Heard c y ∷ J)
        by_d true e = rw (lt-true y v (h y (rw e refl)), e) refl
        by_d false e = keep (Heard c y) (rw e refl) (rw e refl) (ih (λ z g. h z (rw e g)))
    by_event e h ih = keep e refl refl (ih h)

-- all Stopped and Started events are kept
pub stopped-below : (v n : ℕ) (J : Journal) → stopped n (below v J) ≡ stopped n J
stopped-below v n J = same_below v (λ J i. stopped n J) congr skip J 0
  where
    congr : (e : Event) (J K : Journal) → (ℕ → stopped n J ≡ stopped n K) → ℕ → stopped n (e ∷ J) ≡ stopped n (e ∷ K)
    congr e J K h key = let x = h 0 in grind arith

    skip : (e : Event) (J : Journal) → kept v J e ≡ false → ℕ → stopped n (e ∷ J) ≡ stopped n J
    skip (Stopped m) J k key = cc
    skip (Started m) J k key = cc
    skip _ J k key = refl
