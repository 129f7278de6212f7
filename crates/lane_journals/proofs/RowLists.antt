-- The rows as a list say what the readers by key say.
use Rattle.std.proofs.Common.{◌≡◌, ℕ, ◌^◌, ◌<◌, Bool, true, false, cond, List, [], ◌∷◌, Option, Some, None, refl, sym, ap, ◌∙◌, subst, arith, inl, inr, ◌⊎◌, eqb, eq-eqb}
use Rattle.std.proofs.lemmas.Bool.{eqb-true}
use Rattle.std.proofs.lemmas.Bool.Decides.{nat_tests}
use Rattle.lane_journals.specs.Buckets.{Bucket, contains, same_bucket, first_child, second_child, across}
use Rattle.lane_journals.specs.Events.{Decision, RoundBegun, RoundEnded, RowSplit, RowsJoined, ActiveOn, DeleteFrom, DeleteOver, Event, Opened, Closed, Decided}
use Rattle.lane_journals.specs.Readers.{Journal, or_else, Beginning, began, Preparing, prepared, opened, row_in, row_at, lacks, complete, active, deleting}
use Rattle.lane_journals.specs.Facts.{IsRow}
use Rattle.lane_journals.specs.Legal.{MayAck, MayClose, MayJoin, MayDecide, Permits, Legal}
use Rattle.lane_journals.specs.RowLists.{Row, new_rows, with_members, with_active, with_delete, without_delete, without, change, change_all, child, split_row, row_named, drop_row, join_rows, close_row, rows, row_with, bucket_of, member_of, active_of, delete_of}
use Rattle.lane_journals.proofs.BucketLaws.{same_bucket-refl, same_bucket-true, child_of, first_in, second_in, across-first, across-second, second_low}
use Rattle.lane_journals.proofs.Rows.{running-row, open-row}

found-contains : (key : ℕ) (rs : List Row) (r : Row) → row_with key rs ≡ Some r → contains r.bucket key ≡ true
found-contains key [] r h = cc
found-contains key (q ∷ rs) r h = by_case (contains q.bucket key) refl h (found-contains key rs r)
  where
    by_case : (t : Bool) → contains q.bucket key ≡ t → cond t (Some q) (row_with key rs) ≡ Some r → (row_with key rs ≡ Some r → contains r.bucket key ≡ true) → contains r.bucket key ≡ true
    by_case true e h ih = let same : q ≡ r = cc in subst (λ (x : Row). contains x.bucket key ≡ true) same e
    by_case false e h ih = ih h

-- a change of a row that has no key of it leaves the key's row alone
pub change-other : (b : Bucket) (f : Row → Row) → ((r : Row) → (f r).bucket ≡ r.bucket) → (key : ℕ) → contains b key ≡ false → (rs : List Row) → row_with key (change b f rs) ≡ row_with key rs
change-other b f same key out [] = refl
change-other b f same key out (r ∷ rs) = by_case (same_bucket r.bucket b) refl (change-other b f same key out rs)
  where
    by_case : (t : Bool) → same_bucket r.bucket b ≡ t → row_with key (change b f rs) ≡ row_with key rs → row_with key (cond t (f r) r ∷ change b f rs) ≡ row_with key (r ∷ rs)
    by_case true e ih =
        let is = same_bucket-true r.bucket b e in
        let no_key : contains r.bucket key ≡ false = rw is out in
        let no_key' : contains (f r).bucket key ≡ false = rw (same r) no_key in
        rw (no_key, no_key') ih
    by_case false e ih = rw ih refl

-- where the key's row is of the bucket, it is changed
pub change-here : (b : Bucket) (f : Row → Row) → ((r : Row) → (f r).bucket ≡ r.bucket) → (key : ℕ) (rs : List Row) (r : Row) → row_with key rs ≡ Some r → r.bucket ≡ b → contains b key ≡ true → row_with key (change b f rs) ≡ Some (f r)
change-here b f same key [] r h is i = cc
change-here b f same key (q ∷ rs) r h is i = by_case (contains q.bucket key) refl h (change-here b f same key rs r)
  where
    by_case : (t : Bool) → contains q.bucket key ≡ t → cond t (Some q) (row_with key rs) ≡ Some r → (row_with key rs ≡ Some r → r.bucket ≡ b → contains b key ≡ true → row_with key (change b f rs) ≡ Some (f r)) → row_with key (cond (same_bucket q.bucket b) (f q) q ∷ change b f rs) ≡ Some (f r)
    by_case true e h ih =
        let one : q ≡ r = cc in
        let here : same_bucket q.bucket b ≡ true = rw (ap (λ (x : Row). x.bucket) one ∙ is) (same_bucket-refl b) in
        let has : contains (f q).bucket key ≡ true = rw (same q) e in
        rw (here, has) (ap (λ (x : Row). Some (f x)) one)
    by_case false e h ih = by_same (same_bucket q.bucket b) refl
      where
        by_same : (u : Bool) → same_bucket q.bucket b ≡ u → row_with key (cond u (f q) q ∷ change b f rs) ≡ Some (f r)
        by_same true g = let z : contains q.bucket key ≡ true = rw (same_bucket-true q.bucket b g) i in cc
        by_same false g = rw e (ih h is i)

change_all-with : (f : Row → Row) → ((r : Row) → (f r).bucket ≡ r.bucket) → (key : ℕ) (rs : List Row) → ((row_with key rs ≡ None) × (row_with key (change_all f rs) ≡ None)) ⊎ ((r : Row) × (row_with key rs ≡ Some r) × (row_with key (change_all f rs) ≡ Some (f r)))
change_all-with f same key [] = inl (refl, refl)
change_all-with f same key (q ∷ rs) = by_case (contains q.bucket key) refl (change_all-with f same key rs)
  where
    by_case : (t : Bool) → contains q.bucket key ≡ t → ((row_with key rs ≡ None) × (row_with key (change_all f rs) ≡ None)) ⊎ ((r : Row) × (row_with key rs ≡ Some r) × (row_with key (change_all f rs) ≡ Some (f r))) →
        ((row_with key (q ∷ rs) ≡ None) × (row_with key (f q ∷ change_all f rs) ≡ None)) ⊎ ((r : Row) × (row_with key (q ∷ rs) ≡ Some r) × (row_with key (f q ∷ change_all f rs) ≡ Some (f r)))
    by_case true e ih = inr (q, rw e refl, (let g : contains (f q).bucket key ≡ true = rw (same q) e in rw g refl))
    by_case false e ih = let g : contains (f q).bucket key ≡ false = rw (same q) e in rw (e, g) ih

-- what the row of a key says is what the readers by key say
pub record Linked (v key : ℕ) (J : Journal) : Type 0 where
  pub row : row_at v key J ≡ bucket_of (row_with key (rows v J))
  pub members : (n : ℕ) → complete v n key J ≡ member_of n (row_with key (rows v J))
  pub actives : active v key J ≡ active_of (row_with key (rows v J))
  pub deletes : deleting v key J ≡ delete_of (row_with key (rows v J))

-- the same of any row
record Says (v key : ℕ) (J : Journal) (r : Option Row) : Type 0 where
  row : row_at v key J ≡ bucket_of r
  members : (n : ℕ) → complete v n key J ≡ member_of n r
  actives : active v key J ≡ active_of r
  deletes : deleting v key J ≡ delete_of r

says-linked : (v key : ℕ) (J : Journal) (r : Option Row) → row_with key (rows v J) ≡ r → Says v key J r → Linked v key J
says-linked v key J r e s = record { row = s.row ∙ ap bucket_of (sym e); members = λ n. s.members n ∙ ap (λ (x : Option Row). member_of n x) (sym e); actives = s.actives ∙ ap active_of (sym e); deletes = s.deletes ∙ ap delete_of (sym e) }

linked-says : (v key : ℕ) (J : Journal) (r : Option Row) → row_with key (rows v J) ≡ r → Linked v key J → Says v key J r
linked-says v key J r e s = record { row = s.row ∙ ap bucket_of e; members = λ n. s.members n ∙ ap (λ (x : Option Row). member_of n x) e; actives = s.actives ∙ ap active_of e; deletes = s.deletes ∙ ap delete_of e }

-- the row of a key of a row
pub the-row : (v key : ℕ) (b : Bucket) (J : Journal) → Linked v key J → IsRow v b J → contains b key ≡ true → (r : Row) × (row_with key (rows v J) ≡ Some r) × (r.bucket ≡ b)
the-row v key b J k q i = by_found (row_with key (rows v J)) refl
  where
    by_found : (o : Option Row) → row_with key (rows v J) ≡ o → (r : Row) × (row_with key (rows v J) ≡ Some r) × (r.bucket ≡ b)
    by_found None f = let x : ◌≡◌ {A = Option Bucket} None (Some b) = sym (k.row ∙ ap bucket_of f) ∙ q.row key i in cc
    by_found (Some r) f = let x : ◌≡◌ {A = Option Bucket} (Some r.bucket) (Some b) = sym (k.row ∙ ap bucket_of f) ∙ q.row key i in (r, f, cc)

-- before a version is opened it has no rows
pub no_rows : (v : ℕ) (J : Journal) → opened v J ≡ false → rows v J ≡ []
no_rows v [] o = refl
no_rows v (e ∷ J) o = by_event e o (no_rows v J)
  where
    closes : (b : Option Beginning) (p : Option Preparing) → close_row v b p J [] ≡ []
    closes None p = refl
    closes (Some b) None = refl
    closes (Some b) (Some p) = by_case (eqb b.version v)
      where
        by_case : (t : Bool) → cond {A = List Row} t [] [] ≡ []
        by_case true = refl
        by_case false = refl

    same : (t : Bool) → cond {A = List Row} t [] [] ≡ []
    same true = refl
    same false = refl

    by_event : (e : Event) → opened v (e ∷ J) ≡ false → (opened v J ≡ false → rows v J ≡ []) → rows v (e ∷ J) ≡ []
    by_event (Opened d w bs) o ih = by_case (eqb w v) o
      where
        by_case : (t : Bool) → cond t true (opened v J) ≡ false → cond t (new_rows bs) (rows v J) ≡ []
        by_case true o = cc
        by_case false o = ih o
    by_event (Closed l true) o ih = rw (ih o) (closes (began l J) (prepared l J))
    by_event (Closed l false) o ih = ih o
    by_event (Decided d w (RoundEnded b set)) o ih = rw (ih o) (same (eqb w v))
    by_event (Decided d w (RowSplit b)) o ih = rw (ih o) (same (eqb w v))
    by_event (Decided d w (RowsJoined p)) o ih = rw (ih o) (same (eqb w v))
    by_event (Decided d w (ActiveOn b n)) o ih = rw (ih o) (same (eqb w v))
    by_event (Decided d w (DeleteFrom b n s)) o ih = rw (ih o) (same (eqb w v))
    by_event (Decided d w (DeleteOver b n)) o ih = rw (ih o) (same (eqb w v))
    by_event (Decided d w (RoundBegun b)) o ih = ih o
    by_event e o ih = ih o

new-rows : (key : ℕ) (bs : List Bucket) → (bucket_of (row_with key (new_rows bs)) ≡ row_in key bs) × ((n : ℕ) → member_of n (row_with key (new_rows bs)) ≡ false) × (active_of (row_with key (new_rows bs)) ≡ None) × (delete_of (row_with key (new_rows bs)) ≡ None)
new-rows key [] = (refl, (λ n. refl), refl, refl)
new-rows key (b ∷ bs) = by_case (contains b key) (new-rows key bs)
  where
    made : Row
    made = record { bucket = b; members = λ n. false; active = None; deleting = None }

    by_case : (t : Bool) → (bucket_of (row_with key (new_rows bs)) ≡ row_in key bs) × ((n : ℕ) → member_of n (row_with key (new_rows bs)) ≡ false) × (active_of (row_with key (new_rows bs)) ≡ None) × (delete_of (row_with key (new_rows bs)) ≡ None) →
        (bucket_of (cond t (Some (record { bucket = b; members = λ n. false; active = None; deleting = None })) (row_with key (new_rows bs))) ≡ cond t (Some b) (row_in key bs)) × ((n : ℕ) → member_of n (cond t (Some (record { bucket = b; members = λ n. false; active = None; deleting = None })) (row_with key (new_rows bs))) ≡ false)
        × (active_of (cond t (Some (record { bucket = b; members = λ n. false; active = None; deleting = None })) (row_with key (new_rows bs))) ≡ None) × (delete_of (cond t (Some (record { bucket = b; members = λ n. false; active = None; deleting = None })) (row_with key (new_rows bs))) ≡ None)
    by_case true ih = (refl, (λ n. refl), refl, refl)
    by_case false ih = ih

-- ---- splits

split-other : (b : Bucket) → b.low < 2 ^ b.bits → (key : ℕ) → contains b key ≡ false → (rs : List Row) → row_with key (split_row b rs) ≡ row_with key rs
split-other b fits key out [] = refl
split-other b fits key out (r ∷ rs) = by_case (same_bucket r.bucket b) refl (split-other b fits key out rs)
  where
    first_out : contains (first_child b) key ≡ false
    first_out = flip (contains (first_child b) key) refl
      where
        flip : (t : Bool) → contains (first_child b) key ≡ t → t ≡ false
        flip true e = let z = first_in b key fits e in cc
        flip false e = refl

    second_out : contains (second_child b) key ≡ false
    second_out = flip (contains (second_child b) key) refl
      where
        flip : (t : Bool) → contains (second_child b) key ≡ t → t ≡ false
        flip true e = let z = second_in b key fits e in cc
        flip false e = refl

    by_case : (t : Bool) → same_bucket r.bucket b ≡ t → row_with key (split_row b rs) ≡ row_with key rs → row_with key (cond t (child (first_child b) r ∷ child (second_child b) r ∷ split_row b rs) (r ∷ split_row b rs)) ≡ row_with key (r ∷ rs)
    by_case true e ih = let no_key : contains r.bucket key ≡ false = rw (same_bucket-true r.bucket b e) out in rw (first_out, second_out, no_key) ih
    by_case false e ih = rw ih refl

abbrev pub half : Bucket → ℕ → Bucket
half b key = cond (contains (first_child b) key) (first_child b) (second_child b)

split-here : (b : Bucket) (key : ℕ) (rs : List Row) (r : Row) → row_with key rs ≡ Some r → r.bucket ≡ b → contains b key ≡ true → row_with key (split_row b rs) ≡ Some (child (half b key) r)
split-here b key [] r h is i = cc
split-here b key (q ∷ rs) r h is i = by_case (contains q.bucket key) refl h (split-here b key rs r)
  where
    by_child : (t : Bool) → contains (first_child b) key ≡ t → row_with key (child (first_child b) q ∷ child (second_child b) q ∷ split_row b rs) ≡ Some (child (cond t (first_child b) (second_child b)) q)
    by_child true e = rw e refl
    by_child false e = elim (child_of b key i) [ inl first ↦ (let z : true ≡ false = sym first ∙ e in absurd (let w : true ≡ false = z in cc)) | inr second ↦ rw (e, second) refl ]

    by_case : (t : Bool) → contains q.bucket key ≡ t → cond t (Some q) (row_with key rs) ≡ Some r → (row_with key rs ≡ Some r → r.bucket ≡ b → contains b key ≡ true → row_with key (split_row b rs) ≡ Some (child (half b key) r)) →
        row_with key (cond (same_bucket q.bucket b) (child (first_child b) q ∷ child (second_child b) q ∷ split_row b rs) (q ∷ split_row b rs)) ≡ Some (child (half b key) r)
    by_case true e h ih =
        let one : q ≡ r = cc in
        let here : same_bucket q.bucket b ≡ true = rw (ap (λ (x : Row). x.bucket) one ∙ is) (same_bucket-refl b) in
        rw here (by_child (contains (first_child b) key) refl ∙ ap (λ (x : Row). Some (child (half b key) x)) one)
    by_case false e h ih = by_same (same_bucket q.bucket b) refl
      where
        by_same : (u : Bool) → same_bucket q.bucket b ≡ u → row_with key (cond u (child (first_child b) q ∷ child (second_child b) q ∷ split_row b rs) (q ∷ split_row b rs)) ≡ Some (child (half b key) r)
        by_same true g = let z : contains q.bucket key ≡ true = rw (same_bucket-true q.bucket b g) i in cc
        by_same false g = rw e (ih h is i)

-- ---- joins

named-here : (b : Bucket) (key : ℕ) (rs : List Row) (r : Row) → row_with key rs ≡ Some r → r.bucket ≡ b → contains b key ≡ true → row_named b rs ≡ Some r
named-here b key [] r h is i = cc
named-here b key (q ∷ rs) r h is i = by_case (contains q.bucket key) refl h (named-here b key rs r)
  where
    by_case : (t : Bool) → contains q.bucket key ≡ t → cond t (Some q) (row_with key rs) ≡ Some r → (row_with key rs ≡ Some r → r.bucket ≡ b → contains b key ≡ true → row_named b rs ≡ Some r) → cond (same_bucket q.bucket b) (Some q) (row_named b rs) ≡ Some r
    by_case true e h ih = let one : q ≡ r = cc in let here : same_bucket q.bucket b ≡ true = rw (ap (λ (x : Row). x.bucket) one ∙ is) (same_bucket-refl b) in rw here h
    by_case false e h ih = by_same (same_bucket q.bucket b) refl
      where
        by_same : (u : Bool) → same_bucket q.bucket b ≡ u → cond u (Some q) (row_named b rs) ≡ Some r
        by_same true g = let z : contains q.bucket key ≡ true = rw (same_bucket-true q.bucket b g) i in cc
        by_same false g = ih h is i

pub drop-other : (b : Bucket) (key : ℕ) → contains b key ≡ false → (rs : List Row) → row_with key (drop_row b rs) ≡ row_with key rs
drop-other b key out [] = refl
drop-other b key out (r ∷ rs) = by_case (same_bucket r.bucket b) refl (drop-other b key out rs)
  where
    by_case : (t : Bool) → same_bucket r.bucket b ≡ t → row_with key (drop_row b rs) ≡ row_with key rs → row_with key (cond t (drop_row b rs) (r ∷ drop_row b rs)) ≡ row_with key (r ∷ rs)
    by_case true e ih = let no_key : contains r.bucket key ≡ false = rw (same_bucket-true r.bucket b e) out in rw no_key ih
    by_case false e ih = rw ih refl

module _ (acks : ℕ) (P : ℕ → ℕ → Bool) where
  -- a change of a row, by key
  changed : (v key : ℕ) (b : Bucket) (J : Journal) (f : Row → Row) → ((r : Row) → (f r).bucket ≡ r.bucket) → Linked v key J → IsRow v b J →
      ((r : Row) × (contains b key ≡ true) × Says v key J (Some r) × (r.bucket ≡ b) × (row_with key (change b f (rows v J)) ≡ Some (f r)))
      ⊎ ((contains b key ≡ false) × (row_with key (change b f (rows v J)) ≡ row_with key (rows v J)))
  changed v key b J f same k q = by_key (contains b key) refl
    where
      by_key : (t : Bool) → contains b key ≡ t → ((r : Row) × (contains b key ≡ true) × Says v key J (Some r) × (r.bucket ≡ b) × (row_with key (change b f (rows v J)) ≡ Some (f r)))
          ⊎ ((contains b key ≡ false) × (row_with key (change b f (rows v J)) ≡ row_with key (rows v J)))
      by_key true i = let r = the-row v key b J k q i in inl (r.0, i, linked-says v key J (Some r.0) r.1 k, r.2, change-here b f same key (rows v J) r.0 r.1 r.2 i)
      by_key false i = inr (i, change-other b f same key i (rows v J))

  -- an event that changes no row of the version
  unchanged : (v key : ℕ) (J : Journal) (e : Event) → row_at v key (e ∷ J) ≡ row_at v key J → ((n : ℕ) → complete v n key (e ∷ J) ≡ complete v n key J) → active v key (e ∷ J) ≡ active v key J → deleting v key (e ∷ J) ≡ deleting v key J → rows v (e ∷ J) ≡ rows v J → Linked v key J → Linked v key (e ∷ J)
  unchanged v key J e a b c d r k = says-linked v key (e ∷ J) (row_with key (rows v J)) (ap (λ (x : List Row). row_with key x) r)
      (record { row = a ∙ k.row; members = λ n. b n ∙ k.members n; actives = c ∙ k.actives; deletes = d ∙ k.deletes })

  other-row : (v w d key : ℕ) (x : Decision) (J : Journal) → eqb w v ≡ false → row_at v key (Decided d w x ∷ J) ≡ row_at v key J
  other-row v w d key x J e = grind (arith, nat_tests)

  other-complete : (v w d n key : ℕ) (x : Decision) (J : Journal) → eqb w v ≡ false → complete v n key (Decided d w x ∷ J) ≡ complete v n key J
  other-complete v w d n key x J e = grind (arith, nat_tests)

  other-active : (v w d key : ℕ) (x : Decision) (J : Journal) → eqb w v ≡ false → active v key (Decided d w x ∷ J) ≡ active v key J
  other-active v w d key x J e = grind (arith, nat_tests)

  other-deleting : (v w d key : ℕ) (x : Decision) (J : Journal) → eqb w v ≡ false → deleting v key (Decided d w x ∷ J) ≡ deleting v key J
  other-deleting v w d key x J e = grind (arith, nat_tests)

  other-rows : (v w d : ℕ) (x : Decision) (J : Journal) → eqb w v ≡ false → rows v (Decided d w x ∷ J) ≡ rows v J
  other-rows v w d x J e = grind (arith, nat_tests)

  -- ---- each decision of the version

  ended-linked : (v key d : ℕ) (b : Bucket) (set : ℕ → Bool) (J : Journal) → IsRow v b J → Linked v key J → Linked v key (Decided d v (RoundEnded b set) ∷ J)
  ended-linked v key d b set J q k = elim (changed v key b J (with_members set) (λ r. refl) k q) [
    | inl c ↦ (let s = c.2 in says-linked v key _ (Some (with_members set c.0)) (rw (eq-eqb v v refl) c.4)
        (record { row = s.row; members = λ n. rw (eq-eqb v v refl, c.1, s.members n) refl; actives = s.actives; deletes = s.deletes }))
    | inr c ↦ says-linked v key _ (row_with key (rows v J)) (rw (eq-eqb v v refl) c.1)
        (record { row = k.row; members = λ n. rw (eq-eqb v v refl, c.0) (k.members n); actives = k.actives; deletes = k.deletes })
  ]

  active-linked : (v key d : ℕ) (b : Bucket) (n : ℕ) (J : Journal) → IsRow v b J → Linked v key J → Linked v key (Decided d v (ActiveOn b n) ∷ J)
  active-linked v key d b n J q k = elim (changed v key b J (with_active n) (λ r. refl) k q) [
    | inl c ↦ (let s = c.2 in says-linked v key _ (Some (with_active n c.0)) (rw (eq-eqb v v refl) c.4)
        (record { row = s.row; members = s.members; actives = rw (eq-eqb v v refl, c.1) refl; deletes = s.deletes }))
    | inr c ↦ says-linked v key _ (row_with key (rows v J)) (rw (eq-eqb v v refl) c.1)
        (record { row = k.row; members = k.members; actives = rw (eq-eqb v v refl, c.0) k.actives; deletes = k.deletes })
  ]

  from-linked : (v key d : ℕ) (b : Bucket) (n t : ℕ) (J : Journal) → IsRow v b J → Linked v key J → Linked v key (Decided d v (DeleteFrom b n t) ∷ J)
  from-linked v key d b n t J q k = elim (changed v key b J (with_delete b n t) (λ r. refl) k q) [
    | inl c ↦ (let s = c.2 in says-linked v key _ (Some (with_delete b n t c.0)) (rw (eq-eqb v v refl) c.4)
        (record { row = s.row; members = λ m. rw (eq-eqb v v refl, c.1, s.members m) refl; actives = s.actives; deletes = rw (eq-eqb v v refl, c.1) refl }))
    | inr c ↦ says-linked v key _ (row_with key (rows v J)) (rw (eq-eqb v v refl) c.1)
        (record { row = k.row; members = λ m. rw (eq-eqb v v refl, c.0) (k.members m); actives = k.actives; deletes = rw (eq-eqb v v refl, c.0) k.deletes })
  ]

  over-linked : (v key d : ℕ) (b : Bucket) (n : ℕ) (J : Journal) → Linked v key J → Linked v key (Decided d v (DeleteOver b n) ∷ J)
  over-linked v key d b n J k = elim (change_all-with (without_delete b n) (λ r. refl) key (rows v J)) [
    | inl c ↦ (let s = linked-says v key J None c.0 k in says-linked v key _ None (rw (eq-eqb v v refl) c.1)
        (record { row = s.row; members = s.members; actives = s.actives; deletes = rw (eq-eqb v v refl, s.deletes) refl }))
    | inr c ↦ (let s = linked-says v key J (Some c.0) c.1 k in says-linked v key _ (Some (without_delete b n c.0)) (rw (eq-eqb v v refl) c.2)
        (record { row = s.row; members = s.members; actives = s.actives; deletes = rw (eq-eqb v v refl, s.deletes) refl }))
  ]

  split-linked : (v key d : ℕ) (b : Bucket) (J : Journal) → IsRow v b J → Linked v key J → Linked v key (Decided d v (RowSplit b) ∷ J)
  split-linked v key d b J q k = by_key (contains b key) refl
    where
      by_key : (t : Bool) → contains b key ≡ t → Linked v key (Decided d v (RowSplit b) ∷ J)
      by_key true i =
          let r = the-row v key b J k q i in
          let s = linked-says v key J (Some r.0) r.1 k in
          says-linked v key _ (Some (child (half b key) r.0)) (rw (eq-eqb v v refl) (split-here b key (rows v J) r.0 r.1 r.2 i))
          (record { row = rw (eq-eqb v v refl, i) refl; members = s.members; actives = s.actives; deletes = s.deletes })
      by_key false i = says-linked v key _ (row_with key (rows v J)) (rw (eq-eqb v v refl) (split-other b q.fits key i (rows v J)))
          (record { row = rw (eq-eqb v v refl, i) k.row; members = k.members; actives = k.actives; deletes = k.deletes })

  -- a joined row, of the rows of its children
  abbrev merged : Bucket → Row → Row → Row
  merged p r q = record { bucket = p; members = λ n. cond (r.members n) (q.members n) false; active = r.active; deleting = or_else r.deleting q.deleting }

  join-here : (p : Bucket) (rs : List Row) (r q : Row) (key : ℕ) → row_named (first_child p) rs ≡ Some r → row_named (second_child p) rs ≡ Some q → contains p key ≡ true → row_with key (join_rows p rs) ≡ Some (merged p r q)
  join-here p rs r q key a b i = rw (a, b, i) refl

  join-other : (p : Bucket) (rs : List Row) (r q : Row) (key : ℕ) → p.low < 2 ^ p.bits → row_named (first_child p) rs ≡ Some r → row_named (second_child p) rs ≡ Some q → contains p key ≡ false → row_with key (join_rows p rs) ≡ row_with key rs
  join-other p rs r q key fits a b i = rw (a, b, i) (drop-other (first_child p) key first_out (drop_row (second_child p) rs) ∙ drop-other (second_child p) key second_out rs)
    where
      first_out : contains (first_child p) key ≡ false
      first_out = flip (contains (first_child p) key) refl
        where
          flip : (t : Bool) → contains (first_child p) key ≡ t → t ≡ false
          flip true e = let z = first_in p key fits e in cc
          flip false e = refl

      second_out : contains (second_child p) key ≡ false
      second_out = flip (contains (second_child p) key) refl
        where
          flip : (t : Bool) → contains (second_child p) key ≡ t → t ≡ false
          flip true e = let z = second_in p key fits e in cc
          flip false e = refl

  and-flip : (a b : Bool) → cond a b false ≡ cond b a false
  and-flip true true = refl
  and-flip true false = refl
  and-flip false true = refl
  and-flip false false = refl

  or-flip : {A : Type 0} (a b : Option A) → (a ≡ None) ⊎ (b ≡ None) → or_else a b ≡ or_else b a
  or-flip None None h = refl
  or-flip None (Some y) h = refl
  or-flip (Some x) None h = refl
  or-flip (Some x) (Some y) (inl h) = cc
  or-flip (Some x) (Some y) (inr h) = cc

  join-linked : (v key d : ℕ) (p : Bucket) (J : Journal) → MayJoin J v p → ((key : ℕ) → Linked v key J) → Linked v key (Decided d v (RowsJoined p) ∷ J)
  join-linked v key d p J may ih = by_key (contains p key) refl
    where
      low1 : contains (first_child p) (across p (second_child p).low) ≡ true
      low1 = across-second p (second_child p).low may.fits (second_low p may.fits)

      named1 : (r : Row) × (row_named (first_child p) (rows v J) ≡ Some r)
      named1 = let x = the-row v _ (first_child p) J (ih _) (may.first).row low1 in (x.0, named-here (first_child p) _ (rows v J) x.0 x.1 x.2 low1)

      named2 : (r : Row) × (row_named (second_child p) (rows v J) ≡ Some r)
      named2 = let x = the-row v _ (second_child p) J (ih _) (may.second).row (second_low p may.fits) in (x.0, named-here (second_child p) _ (rows v J) x.0 x.1 x.2 (second_low p may.fits))

      -- the rows of a key of the first child and of one of the second
      both-rows : (k1 k2 : ℕ) → contains (first_child p) k1 ≡ true → contains (second_child p) k2 ≡ true → Says v k1 J (Some named1.0) × Says v k2 J (Some named2.0)
      both-rows k1 k2 i j =
          let x = the-row v k1 (first_child p) J (ih k1) (may.first).row i in
          let y = the-row v k2 (second_child p) J (ih k2) (may.second).row j in
          let x' = named-here (first_child p) k1 (rows v J) x.0 x.1 x.2 i in
          let y' = named-here (second_child p) k2 (rows v J) y.0 y.1 y.2 j in
          let n1 = named1.1 in let n2 = named2.1 in
          let e1 : x.0 ≡ named1.0 = cc in let e2 : y.0 ≡ named2.0 = cc in
          (linked-says v k1 J (Some named1.0) (x.1 ∙ ap (λ (z : Row). Some z) e1) (ih k1), linked-says v k2 J (Some named2.0) (y.1 ∙ ap (λ (z : Row). Some z) e2) (ih k2))

      by_child : contains p key ≡ true → (contains (first_child p) key ≡ true) ⊎ (contains (second_child p) key ≡ true) → Says v key (Decided d v (RowsJoined p) ∷ J) (Some (merged p named1.0 named2.0))
      by_child i (inl f) = let s = both-rows key (across p key) f (across-first p key may.fits f) in record {
        row = rw (eq-eqb v v refl, i) refl;
        members = λ n. rw (eq-eqb v v refl, i, (s.0).members n, (s.1).members n) refl;
        actives = (s.0).actives;
        deletes = rw (eq-eqb v v refl, i, (s.0).deletes, (s.1).deletes) refl;
      }
      by_child i (inr f) = let s = both-rows (across p key) key (across-second p key may.fits f) f in record {
        row = rw (eq-eqb v v refl, i) refl;
        members = λ n. rw (eq-eqb v v refl, i, (s.0).members n, (s.1).members n) (and-flip ((named2.0).members n) ((named1.0).members n));
        actives = may.same_active key i ∙ (s.0).actives;
        deletes = rw (eq-eqb v v refl, i) (or-flip (deleting v key J) (deleting v (across p key) J) (may.one_delete key i) ∙ rw ((s.0).deletes, (s.1).deletes) refl);
      }

      by_key : (t : Bool) → contains p key ≡ t → Linked v key (Decided d v (RowsJoined p) ∷ J)
      by_key true i = says-linked v key _ (Some (merged p named1.0 named2.0)) (rw (eq-eqb v v refl) (join-here p (rows v J) named1.0 named2.0 key named1.1 named2.1 i)) (by_child i (child_of p key i))
      by_key false i = let k = ih key in says-linked v key _ (row_with key (rows v J)) (rw (eq-eqb v v refl) (join-other p (rows v J) named1.0 named2.0 key may.fits named1.1 named2.1 i))
          (record { row = rw (eq-eqb v v refl, i) k.row; members = λ n. rw (eq-eqb v v refl, i) (k.members n); actives = k.actives; deletes = rw (eq-eqb v v refl, i) k.deletes })

  closed-linked : (J : Journal) → Legal acks P J → (v key line : ℕ) → MayClose acks J line true → Linked v key J → Linked v key (Closed line true ∷ J)
  closed-linked J l v key line may k = by_version (eqb (may.begin).version v) refl
    where
      b : Beginning
      b = may.begin

      ack : MayAck acks J line may.begin
      ack = may.acked refl

      p : Preparing
      p = ack.preparing

      lost : ℕ → Bool
      lost n = lacks v (may.begin).id n J (may.begin).stamp

      flip : (t : Bool) (x : Bool) → cond (cond true t false) false x ≡ cond t false x
      flip t x = refl

      by_version : (t : Bool) → eqb (may.begin).version v ≡ t → Linked v key (Closed line true ∷ J)
      by_version false e = unchanged v key J (Closed line true) refl (λ n. rw (may.begun, ack.was_prepared, e) refl) refl refl (rw (may.begun, ack.was_prepared, e) refl) k
      by_version true e = elim (changed v key (ack.preparing).row J (without (λ n. lacks v (may.begin).id n J (may.begin).stamp)) (λ r. refl) k
          (open-row acks P J l v line may.begin ack.preparing (record { began = may.begun; version = eqb-true _ _ e; prepared = ack.was_prepared; unclosed = may.unclosed }))) [
            | inl c ↦ (let s = c.2 in says-linked v key _ (Some (without (λ n. lacks v (may.begin).id n J (may.begin).stamp) c.0)) (rw (may.begun, ack.was_prepared, e) c.4)
                (record { row = s.row; members = λ n. rw (may.begun, ack.was_prepared, e, c.1, s.members n) refl; actives = s.actives; deletes = s.deletes }))
            | inr c ↦ says-linked v key _ (row_with key (rows v J)) (rw (may.begun, ack.was_prepared, e) c.1)
                (record { row = k.row; members = λ n. rw (may.begun, ack.was_prepared, e, c.0) (k.members n); actives = k.actives; deletes = k.deletes })
          ]

  opened-linked : (v key d : ℕ) (bs : List Bucket) (J : Journal) → opened v J ≡ false → Linked v key J → Linked v key (Opened d v bs ∷ J)
  opened-linked v key d bs J o k =
      let none = no_rows v J o in
      let s = linked-says v key J None (ap (λ (x : List Row). row_with key x) none) k in
      let new = new-rows key bs in
      says-linked v key (Opened d v bs ∷ J) (row_with key (new_rows bs)) (rw (eq-eqb v v refl) refl)
      (record { row = rw (eq-eqb v v refl) (sym new.0); members = λ n. s.members n ∙ sym (new.1 n); actives = s.actives ∙ sym new.2; deletes = s.deletes ∙ sym new.3 })

  decided-linked : (J : Journal) → Legal acks P J → (v key d : ℕ) (x : Decision) → MayDecide acks J v x → ((key : ℕ) → Linked v key J) → Linked v key (Decided d v x ∷ J)
  decided-linked J l v key d (RoundBegun b) p ih = unchanged v key J (Decided d v (RoundBegun b)) refl (λ n. refl) refl refl refl (ih key)
  decided-linked J l v key d (RoundEnded b set) p ih = ended-linked v key d b set J (running-row acks P J l v b p.under_way) (ih key)
  decided-linked J l v key d (RowSplit b) p ih = split-linked v key d b J (p.1).row (ih key)
  decided-linked J l v key d (RowsJoined q) p ih = join-linked v key d q J p ih
  decided-linked J l v key d (ActiveOn b n) p ih = active-linked v key d b n J (p.quiet).row (ih key)
  decided-linked J l v key d (DeleteFrom b n s) p ih = from-linked v key d b n s J (p.quiet).row (ih key)
  decided-linked J l v key d (DeleteOver b n) p ih = over-linked v key d b n J (ih key)

  -- the list of rows says of each key what the readers by key say
  pub linked : (J : Journal) → Legal acks P J → (v key : ℕ) → Linked v key J
  linked [] l v key = record { row = refl; members = λ n. refl; actives = refl; deletes = refl }
  linked (e ∷ J) l v key = by_event e l.1 (linked J l.0 v)
    where
      by_event : (e : Event) → Permits acks P J e → ((key : ℕ) → Linked v key J) → Linked v key (e ∷ J)
      by_event (Opened d w bs) p ih = by_case (eqb w v) refl
        where
          by_case : (t : Bool) → eqb w v ≡ t → Linked v key (Opened d w bs ∷ J)
          by_case true e = let is = eqb-true w v e in subst (λ (x : ℕ). Linked v key (Opened d x bs ∷ J)) (sym is) (opened-linked v key d bs J (subst (λ (x : ℕ). opened x J ≡ false) is p.once) (ih key))
          by_case false e = unchanged v key J (Opened d w bs) (rw e refl) (λ n. refl) refl refl (rw e refl) (ih key)
      by_event (Closed line true) p ih = closed-linked J l.0 v key line p (ih key)
      by_event (Closed line false) p ih = unchanged v key J (Closed line false) refl (λ n. refl) refl refl refl (ih key)
      by_event (Decided d w x) p ih = by_case (eqb w v) refl
        where
          by_case : (t : Bool) → eqb w v ≡ t → Linked v key (Decided d w x ∷ J)
          by_case true e = let is = eqb-true w v e in subst (λ (y : ℕ). Linked v key (Decided d y x ∷ J)) (sym is) (decided-linked J l.0 v key d x (subst (λ (y : ℕ). MayDecide acks J y x) is p.1) ih)
          by_case false e = unchanged v key J (Decided d w x) (other-row v w d key x J e) (λ n. other-complete v w d n key x J e) (other-active v w d key x J e) (other-deleting v w d key x J e) (other-rows v w d x J e) (ih key)
      by_event e p ih = unchanged v key J e refl (λ n. refl) refl refl refl (ih key)
