-- The rows of a version have no common keys.
use Rattle.std.proofs.Common.{◌≡◌, ℕ, ◌^◌, ◌<◌, Bool, true, false, cond, List, [], ◌∷◌, Option, Some, None, refl, sym, ap, ◌∙◌, subst, inl, inr, eqb}
use Rattle.std.proofs.lemmas.Bool.{eqb-true}
use Rattle.lane_journals.specs.Buckets.{Bucket, contains, same_bucket, first_child, second_child}
use Rattle.lane_journals.specs.Events.{RoundBegun, RoundEnded, RowSplit, RowsJoined, ActiveOn, DeleteFrom, DeleteOver, Event, Opened, Closed, Decided}
use Rattle.lane_journals.specs.Readers.{Journal, Beginning, began, Preparing, prepared, opened, row_in, lacks, complete}
use Rattle.lane_journals.specs.Facts.{IsRow}
use Rattle.lane_journals.specs.Legal.{Parted, MayJoin, Permits, Legal}
use Rattle.lane_journals.specs.RowLists.{Row, new_rows, with_members, with_active, with_delete, without_delete, without, change, change_all, child, split_row, row_named, drop_row, joined, join_rows, close_row, rows, row_with, bucket_of, member_of, IsIn}
use Rattle.lane_journals.proofs.BucketLaws.{same_bucket-refl, same_bucket-true, child_of, first_in, second_in, children_apart, fits-of}
use Rattle.lane_journals.proofs.RowLists.{drop-other, the-row, Linked, linked}

-- no two rows have a common key
abbrev pub PartedRows : List Row → Type 0
PartedRows [] = Unit {0}
PartedRows (r ∷ rs) = ((r.bucket).low < 2 ^ (r.bucket).bits) × ((key : ℕ) → contains (r.bucket) key ≡ true → row_with key rs ≡ None) × PartedRows rs

left-none : (t : Bool) (r : Row) (o : Option Row) → cond t (Some r) o ≡ None → (t ≡ false) × (o ≡ None)
left-none true r o h = cc
left-none false r o h = (refl, h)

new-none : (key : ℕ) (bs : List Bucket) → row_in key bs ≡ None → row_with key (new_rows bs) ≡ None
new-none key [] h = refl
new-none key (b ∷ bs) h = by_case (contains b key) refl h (new-none key bs)
  where
    by_case : (t : Bool) → contains b key ≡ t → cond t (Some b) (row_in key bs) ≡ None → (row_in key bs ≡ None → row_with key (new_rows bs) ≡ None) → row_with key (new_rows (b ∷ bs)) ≡ None
    by_case true e h ih = cc
    by_case false e h ih = rw e (ih h)

new-parted : (bs : List Bucket) → Parted bs → PartedRows (new_rows bs)
new-parted [] p = tt
new-parted (b ∷ bs) p = (p.0, (λ key h. new-none key bs (p.1 key h)), new-parted bs p.2)

change-none : (b : Bucket) (f : Row → Row) → ((r : Row) → (f r).bucket ≡ r.bucket) → (key : ℕ) (rs : List Row) → row_with key rs ≡ None → row_with key (change b f rs) ≡ None
change-none b f same key [] h = refl
change-none b f same key (r ∷ rs) h = let n = left-none (contains r.bucket key) r (row_with key rs) h in by_case (same_bucket r.bucket b) n.0 (change-none b f same key rs n.1)
  where
    by_case : (t : Bool) → contains r.bucket key ≡ false → row_with key (change b f rs) ≡ None → row_with key (cond t (f r) r ∷ change b f rs) ≡ None
    by_case true e ih = let z : contains (f r).bucket key ≡ false = rw (same r) e in rw z ih
    by_case false e ih = rw e ih

change-parted : (b : Bucket) (f : Row → Row) → ((r : Row) → (f r).bucket ≡ r.bucket) → (rs : List Row) → PartedRows rs → PartedRows (change b f rs)
change-parted b f same [] p = tt
change-parted b f same (r ∷ rs) p = by_case (same_bucket r.bucket b) (change-parted b f same rs p.2)
  where
    by_case : (t : Bool) → PartedRows (change b f rs) → PartedRows (cond t (f r) r ∷ change b f rs)
    by_case true ih = (subst (λ (x : Bucket). x.low < 2 ^ x.bits) (sym (same r)) p.0, (λ key h. change-none b f same key rs (p.1 key (subst (λ (x : Bucket). contains x key ≡ true) (same r) h))), ih)
    by_case false ih = (p.0, (λ key h. change-none b f same key rs (p.1 key h)), ih)

all-none : (f : Row → Row) → ((r : Row) → (f r).bucket ≡ r.bucket) → (key : ℕ) (rs : List Row) → row_with key rs ≡ None → row_with key (change_all f rs) ≡ None
all-none f same key [] h = refl
all-none f same key (r ∷ rs) h = let n = left-none (contains r.bucket key) r (row_with key rs) h in let z : contains (f r).bucket key ≡ false = rw (same r) n.0 in rw z (all-none f same key rs n.1)

all-parted : (f : Row → Row) → ((r : Row) → (f r).bucket ≡ r.bucket) → (rs : List Row) → PartedRows rs → PartedRows (change_all f rs)
all-parted f same [] p = tt
all-parted f same (r ∷ rs) p = (subst (λ (x : Bucket). x.low < 2 ^ x.bits) (sym (same r)) p.0, (λ key h. all-none f same key rs (p.1 key (subst (λ (x : Bucket). contains x key ≡ true) (same r) h))), all-parted f same rs p.2)

not-true : (t : Bool) → (t ≡ true → ⊥) → t ≡ false
not-true true h = absurd (h refl)
not-true false h = refl

split-none : (b : Bucket) → b.low < 2 ^ b.bits → (key : ℕ) (rs : List Row) → row_with key rs ≡ None → row_with key (split_row b rs) ≡ None
split-none b fits key [] h = refl
split-none b fits key (r ∷ rs) h = let n = left-none (contains r.bucket key) r (row_with key rs) h in by_case (same_bucket r.bucket b) refl n.0 (split-none b fits key rs n.1)
  where
    by_case : (t : Bool) → same_bucket r.bucket b ≡ t → contains r.bucket key ≡ false → row_with key (split_row b rs) ≡ None → row_with key (cond t (child (first_child b) r ∷ child (second_child b) r ∷ split_row b rs) (r ∷ split_row b rs)) ≡ None
    by_case true e o ih =
        let out : contains b key ≡ false = subst (λ (x : Bucket). contains x key ≡ false) (same_bucket-true r.bucket b e) o in
        let one : contains (first_child b) key ≡ false = not-true _ (λ z. let y = first_in b key fits z in cc) in
        let two : contains (second_child b) key ≡ false = not-true _ (λ z. let y = second_in b key fits z in cc) in
        rw (one, two) ih
    by_case false e o ih = rw o ih

split-parted : (b : Bucket) → b.low < 2 ^ b.bits → (first_child b).low < 2 ^ (first_child b).bits → (second_child b).low < 2 ^ (second_child b).bits → (rs : List Row) → PartedRows rs → PartedRows (split_row b rs)
split-parted b fits f1 f2 [] p = tt
split-parted b fits f1 f2 (r ∷ rs) p = by_case (same_bucket r.bucket b) refl (split-parted b fits f1 f2 rs p.2)
  where
    by_case : (t : Bool) → same_bucket r.bucket b ≡ t → PartedRows (split_row b rs) → PartedRows (cond t (child (first_child b) r ∷ child (second_child b) r ∷ split_row b rs) (r ∷ split_row b rs))
    by_case true e ih =
        let is = same_bucket-true r.bucket b e in (
          f1,
          (λ key h. let two : contains (second_child b) key ≡ false = not-true _ (λ z. children_apart b key h z) in
              rw two (split-none b fits key rs (p.1 key (subst (λ (x : Bucket). contains x key ≡ true) (sym is) (first_in b key fits h))))),
          (f2, (λ key h. split-none b fits key rs (p.1 key (subst (λ (x : Bucket). contains x key ≡ true) (sym is) (second_in b key fits h)))), ih),
        )
    by_case false e ih = (p.0, (λ key h. split-none b fits key rs (p.1 key h)), ih)

drop-none : (b : Bucket) (key : ℕ) (rs : List Row) → row_with key rs ≡ None → row_with key (drop_row b rs) ≡ None
drop-none b key [] h = refl
drop-none b key (r ∷ rs) h = let n = left-none (contains r.bucket key) r (row_with key rs) h in by_case (same_bucket r.bucket b) n.0 (drop-none b key rs n.1)
  where
    by_case : (t : Bool) → contains r.bucket key ≡ false → row_with key (drop_row b rs) ≡ None → row_with key (cond t (drop_row b rs) (r ∷ drop_row b rs)) ≡ None
    by_case true o ih = ih
    by_case false o ih = rw o ih

drop-parted : (b : Bucket) (rs : List Row) → PartedRows rs → PartedRows (drop_row b rs)
drop-parted b [] p = tt
drop-parted b (r ∷ rs) p = by_case (same_bucket r.bucket b) (drop-parted b rs p.2)
  where
    by_case : (t : Bool) → PartedRows (drop_row b rs) → PartedRows (cond t (drop_row b rs) (r ∷ drop_row b rs))
    by_case true ih = ih
    by_case false ih = (p.0, (λ key h. drop-none b key rs (p.1 key h)), ih)

-- once its row is dropped, a key has none
drop-gone : (b : Bucket) (key : ℕ) (rs : List Row) → PartedRows rs → (r : Row) → row_with key rs ≡ Some r → r.bucket ≡ b → row_with key (drop_row b rs) ≡ None
drop-gone b key [] p r h is = cc
drop-gone b key (q ∷ rs) p r h is = by_case (contains q.bucket key) refl h (drop-gone b key rs p.2 r)
  where
    by_case : (t : Bool) → contains q.bucket key ≡ t → cond t (Some q) (row_with key rs) ≡ Some r → (row_with key rs ≡ Some r → r.bucket ≡ b → row_with key (drop_row b rs) ≡ None) → row_with key (cond (same_bucket q.bucket b) (drop_row b rs) (q ∷ drop_row b rs)) ≡ None
    by_case true e h ih = let one : q ≡ r = cc in let here : same_bucket q.bucket b ≡ true = rw (ap (λ (x : Row). x.bucket) one ∙ is) (same_bucket-refl b) in rw here (drop-none b key rs (p.1 key e))
    by_case false e h ih = by_same (same_bucket q.bucket b) (ih h is)
      where
        by_same : (u : Bool) → row_with key (drop_row b rs) ≡ None → row_with key (cond u (drop_row b rs) (q ∷ drop_row b rs)) ≡ None
        by_same true x = x
        by_same false x = rw e x

-- a row of the list is the row of its keys
pub in-list : (r : Row) (rs : List Row) → PartedRows rs → IsIn r rs → (key : ℕ) → contains r.bucket key ≡ true → row_with key rs ≡ Some r
in-list r [] p h key i = absurd h
in-list r (q ∷ rs) p (inl is) key i = let z : contains q.bucket key ≡ true = subst (λ (x : Row). contains x.bucket key ≡ true) (sym is) i in rw z (ap (λ (x : Row). Some x) is)
in-list r (q ∷ rs) p (inr h) key i = by_case (contains q.bucket key) refl (in-list r rs p.2 h key i)
  where
    by_case : (t : Bool) → contains q.bucket key ≡ t → row_with key rs ≡ Some r → cond t (Some q) (row_with key rs) ≡ Some r
    by_case true e x = let z = p.1 key e in let y : ◌≡◌ {A = Option Row} None (Some r) = sym z ∙ x in cc
    by_case false e x = x

children-fit : (b : Bucket) → b.low < 2 ^ b.bits → ((first_child b).low < 2 ^ (first_child b).bits) × ((second_child b).low < 2 ^ (second_child b).bits)
children-fit b h = fits-of b h

module _ (acks : ℕ) (P : ℕ → ℕ → Bool) where
  closed-parted : (v line : ℕ) (b : Option Beginning) (p : Option Preparing) (J : Journal) (rs : List Row) → PartedRows rs → PartedRows (close_row v b p J rs)
  closed-parted v line None p J rs h = h
  closed-parted v line (Some b) None J rs h = h
  closed-parted v line (Some b) (Some p) J rs h = by_case (eqb b.version v)
    where
      by_case : (t : Bool) → PartedRows (cond t (change p.row (without (λ n. lacks v b.id n J b.stamp)) rs) rs)
      by_case true = change-parted p.row (without (λ n. lacks v b.id n J b.stamp)) (λ r. refl) rs h
      by_case false = h

  join-parted : (J : Journal) → (v : ℕ) (p : Bucket) → MayJoin J v p → ((key : ℕ) → Linked v key J) → PartedRows (rows v J) → PartedRows (join_rows p (rows v J))
  join-parted J v p may ih h = by_rows (row_named (first_child p) (rows v J)) (row_named (second_child p) (rows v J))
    where
      rest : List Row
      rest = drop_row (first_child p) (drop_row (second_child p) (rows v J))

      rest-parted : PartedRows (drop_row (first_child p) (drop_row (second_child p) (rows v J)))
      rest-parted = drop-parted (first_child p) _ (drop-parted (second_child p) _ h)

      gone : (key : ℕ) → contains p key ≡ true → row_with key (drop_row (first_child p) (drop_row (second_child p) (rows v J))) ≡ None
      gone key i = elim (child_of p key i) [
        | inl f ↦ (let x = the-row v key (first_child p) J (ih key) (may.first).row f in by_second key f x.0 x.1 x.2)
        | inr f ↦ (let x = the-row v key (second_child p) J (ih key) (may.second).row f in drop-none (first_child p) key _ (drop-gone (second_child p) key (rows v J) h x.0 x.1 x.2))
      ]
        where
          by_second : (key : ℕ) → contains (first_child p) key ≡ true → (r : Row) → row_with key (rows v J) ≡ Some r → r.bucket ≡ first_child p → row_with key (drop_row (first_child p) (drop_row (second_child p) (rows v J))) ≡ None
          by_second key f r x is = drop-gone (first_child p) key (drop_row (second_child p) (rows v J)) (drop-parted (second_child p) _ h) r (drop-other (second_child p) key (not-true _ (λ z. children_apart p key f z)) (rows v J) ∙ x) is

      by_rows : (a b : Option Row) → PartedRows (joined p a b (drop_row (first_child p) (drop_row (second_child p) (rows v J))))
      by_rows (Some a) (Some b) = (may.fits, gone, rest-parted)
      by_rows (Some a) None = rest-parted
      by_rows None b = rest-parted

  pub parted : (J : Journal) → Legal acks P J → (v : ℕ) → PartedRows (rows v J)
  parted [] l v = tt
  parted (e ∷ J) l v = by_event e l.1 (parted J l.0 v)
    where
      by_event : (e : Event) → Permits acks P J e → PartedRows (rows v J) → PartedRows (rows v (e ∷ J))
      by_event (Opened d w bs) p h = by_case (eqb w v)
        where
          by_case : (t : Bool) → PartedRows (cond t (new_rows bs) (rows v J))
          by_case true = new-parted bs p.parted
          by_case false = h
      by_event (Closed line true) p h = closed-parted v line (began line J) (prepared line J) J (rows v J) h
      by_event (Closed line false) p h = h
      by_event (Decided d w (RoundEnded b set)) p h = by_case (eqb w v)
        where
          by_case : (t : Bool) → PartedRows (cond t (change b (with_members set) (rows v J)) (rows v J))
          by_case true = change-parted b (with_members set) (λ r. refl) (rows v J) h
          by_case false = h
      by_event (Decided d w (ActiveOn b n)) p h = by_case (eqb w v)
        where
          by_case : (t : Bool) → PartedRows (cond t (change b (with_active n) (rows v J)) (rows v J))
          by_case true = change-parted b (with_active n) (λ r. refl) (rows v J) h
          by_case false = h
      by_event (Decided d w (DeleteFrom b n s)) p h = by_case (eqb w v)
        where
          by_case : (t : Bool) → PartedRows (cond t (change b (with_delete b n s) (rows v J)) (rows v J))
          by_case true = change-parted b (with_delete b n s) (λ r. refl) (rows v J) h
          by_case false = h
      by_event (Decided d w (DeleteOver b n)) p h = by_case (eqb w v)
        where
          by_case : (t : Bool) → PartedRows (cond t (change_all (without_delete b n) (rows v J)) (rows v J))
          by_case true = all-parted (without_delete b n) (λ r. refl) (rows v J) h
          by_case false = h
      by_event (Decided d w (RowSplit b)) p h = by_case (eqb w v)
        where
          fits : b.low < 2 ^ b.bits
          fits = ((p.1.1).row).fits

          by_case : (t : Bool) → PartedRows (cond t (split_row b (rows v J)) (rows v J))
          by_case true = let c = children-fit b fits in split-parted b fits c.0 c.1 (rows v J) h
          by_case false = h
      by_event (Decided d w (RowsJoined q)) p h = by_case (eqb w v) refl
        where
          by_case : (t : Bool) → eqb w v ≡ t → PartedRows (cond t (join_rows q (rows v J)) (rows v J))
          by_case true e = join-parted J v q (subst (λ (x : ℕ). MayJoin J x q) (eqb-true w v e) p.1) (linked acks P J l.0 v) h
          by_case false e = h
      by_event (Decided d w (RoundBegun b)) p h = h
      by_event e p h = h

  -- a row of the list is a row, and says of its keys what the readers by key say
  pub listed-row : (J : Journal) → Legal acks P J → (v : ℕ) (r : Row) → opened v J ≡ true → (r.bucket).low < 2 ^ (r.bucket).bits → IsIn r (rows v J) → IsRow v r.bucket J
  listed-row J l v r o fits h = record { fits = fits; opened = o; row = λ key i. (linked acks P J l v key).row ∙ ap bucket_of (in-list r (rows v J) (parted J l v) h key i) }

  pub listed-member : (J : Journal) → Legal acks P J → (v n : ℕ) (r : Row) → IsIn r (rows v J) → (key : ℕ) → contains r.bucket key ≡ true → complete v n key J ≡ r.members n
  listed-member J l v n r h key i = (linked acks P J l v key).members n ∙ ap (λ (x : Option Row). member_of n x) (in-list r (rows v J) (parted J l v) h key i)

  -- and a row by key is in the list
  pub row-listed : (J : Journal) → Legal acks P J → (v : ℕ) (b : Bucket) (key : ℕ) → IsRow v b J → contains b key ≡ true → (r : Row) × (row_with key (rows v J) ≡ Some r) × (r.bucket ≡ b)
  row-listed J l v b key q i = the-row v key b J (linked acks P J l v key) q i
