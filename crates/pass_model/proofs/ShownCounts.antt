-- How many documents of a bucket are held, of all that were written.
use Rattle.std.proofs.Common.{◌≡◌, ◌&&◌, ℕ, ◌+◌, Bool, true, false, cond, List, [], ◌∷◌, Option, Some, None, is_some, map, count_by, length, refl, sym, ap, ◌∙◌, subst, arith, eq-eqb}
use mathlib.Core.Bool.{true≢false}
use Rattle.std.specs.FinMap as fin
use Rattle.std.specs.FinMap.{len-empty, len-entries, entries-insert, get-entries, get-insert, get-empty, same_map, slice_cmp-IsAntisymmetric, nat_cmp-IsAntisymmetric}
use Rattle.std.specs.Cmp.Lexicographic.{nat_list_cmp_total}
use Rattle.std.specs.declared.cmp.Ordering.TheVariants.{Less, Equal, Greater}
use Rattle.std.proofs.lemmas.List.Sums.{sum_by-cons}
use Rattle.bucket_ids.specs.Buckets.{Low, has_key}
use Rattle.stamps.specs.declared.stamp.Stamp.{Stamp}
use Rattle.documents.specs.declared.entry.Entry.{Entry}
use Rattle.documents.specs.EntryCodes.{id_cmp}
use Rattle.entry_maps.specs.EntryCodes.{Entries}
use Rattle.entry_maps.specs.Entries.{documents_of}
use Rattle.entry_maps.proofs.SlotLists.{same_id, same_id-refl, same_id-is}
use Rattle.proof_basics.proofs.Tests.{both, and_true}
use Rattle.lane_journals.specs.Buckets.{Id, key_of}
use Rattle.lane_journals.specs.Events.{Content}
use Rattle.lane_journals.specs.Stamps.{same_stamp}
use Rattle.lane_journals.specs.Readers.{or_else, only_if}
use Rattle.lane_journals.specs.Meanings.{entry_at}
use Rattle.lane_journals.specs.declared.event.LaneEvent.{LaneEvent}
use Rattle.lane_journals.specs.declared.event.LaneEvent.TheVariants.{Wrote}
use Rattle.lane_journals.proofs.Order.{same_stamp-true}
use Rattle.lane_keeping.specs.NodeKeeping.{stamp_of}
use Rattle.lane_rest.specs.Rest.{is_held, documents}
use Rattle.pass_model.specs.Counted.{AreOnce, AreHeld}

-- ---- a map with an entry more

abbrev one : Entry → ℕ
one e = cond (is_some e.body) 1 0

abbrev documents_in : List (List ℕ × Entry) → ℕ
documents_in es = count_by (λ e. is_some e.body) (map (λ e. e.1) es)

count-put : (es : List (List ℕ × Entry)) (k : List ℕ) (v : Entry) → fin.find id_cmp k es ≡ None → documents_in (fin.put id_cmp k v es) ≡ one v + documents_in es
count-put [] k v none = sum_by-cons one v []
count-put (e ∷ es) k v none =
    elim (id_cmp k e.0) as (λ r. id_cmp k e.0 ≡ r → documents_in (fin.put id_cmp k v (e ∷ es)) ≡ one v + documents_in (e ∷ es)) [
      | Less ↦ (λ p. rw p (sum_by-cons one v (map (λ x. x.1) (e ∷ es))))
      | Equal ↦ (λ p. absurd (true≢false (ap is_some (rw p at none))))
      | Greater ↦ (λ p. rw p (
          sum_by-cons one e.1 (map (λ x. x.1) (fin.put id_cmp k v es))
          ∙ ap (λ n. one e.1 + n) (count-put es k v (rw p at none))
          ∙ omega (arith, sum_by-cons one e.1 (map (λ x. x.1) es))))
    ] refl

count-insert : (m : Entries) (k : List ℕ) (v : Entry) → fin.get m k ≡ None → documents_of (fin.insert m k v) ≡ one v + documents_of m
count-insert m k v none = ap documents_in (entries-insert nat_list_cmp_total m k v) ∙ count-put (fin.entries m) k v (sym (get-entries m k) ∙ none)

no_pairs : (es : List (List ℕ × Entry)) → length es ≡ 0 → es ≡ []
no_pairs [] e = refl
no_pairs (x ∷ es) e = absurd (omega arith)

-- ---- stamps that are held

same_stamp-refl : (a : Stamp) → same_stamp a a ≡ true
unfolding same_stamp
same_stamp-refl a = rw (eq-eqb a.version a.version refl, eq-eqb a.count a.count refl) refl

held-is : (h : Option Stamp) (s : Stamp) → is_held h s ≡ true → h ≡ Some s
held-is None s e = cc
held-is (Some t) s e = ap (λ x. Some x) (same_stamp-true t s e)

same-some : {X : Type 0} (x y : X) → ◌≡◌ {A = Option X} (Some x) (Some y) → x ≡ y
same-some x y h = cc

module _ (b : Low) (U : Content) where
  abbrev here : Entry → Bool
  here e = has_key b (key_of e.id) && is_held (U e.id) e.stamp

  -- of all that were written those that are held
  abbrev made : List LaneEvent → Entries
  made [] = fin.empty
  made (Wrote line e ∷ J) = cond (here e) (fin.insert (made J) e.id e) (made J)
  made (_ ∷ J) = made J

  record IsHere (J : List LaneEvent) (id : Id) (e : Entry) : Type 0 where
    id_is : e.id ≡ id
    here_is : here e ≡ true
    at : entry_at e.stamp J ≡ Some e

  stamp-of-here : (e : Entry) → here e ≡ true → U e.id ≡ Some e.stamp
  stamp-of-here e h = held-is (U e.id) e.stamp (both (has_key b (key_of e.id)) (is_held (U e.id) e.stamp) h).1

  -- two of one document that are held have one stamp
  one-stamp : (x e : Entry) → here x ≡ true → here e ≡ true → x.id ≡ e.id → x.stamp ≡ e.stamp
  one-stamp x e hx he same = same-some x.stamp e.stamp (sym (stamp-of-here x hx) ∙ ap U same ∙ stamp-of-here e he)

  get-made : (J : List LaneEvent) (e : Entry) (id : Id) → here e ≡ true → fin.get (cond (here e) (fin.insert (made J) e.id e) (made J)) id ≡ cond (same_id id e.id) (Some e) (fin.get (made J) id)
  get-made J e id h = ap (λ (t : Bool). fin.get (cond t (fin.insert (made J) e.id e) (made J)) id) h ∙ get-insert nat_list_cmp_total (made J) e.id e id

  get-unmade : (J : List LaneEvent) (e : Entry) (id : Id) → here e ≡ false → fin.get (cond (here e) (fin.insert (made J) e.id e) (made J)) id ≡ fin.get (made J) id
  get-unmade J e id h = ap (λ (t : Bool). fin.get (cond t (fin.insert (made J) e.id e) (made J)) id) h

  -- what was written stays so, where stamps are new
  later : (x y : Entry) (s : Stamp) (J : List LaneEvent) → entry_at s J ≡ Some y → or_else (entry_at s J) (only_if (same_stamp x.stamp s) x) ≡ Some y
  later x y s J h = ap (λ (o : Option Entry). or_else o (only_if (same_stamp x.stamp s) x)) h

  first : (x : Entry) (J : List LaneEvent) → entry_at x.stamp J ≡ None → or_else (entry_at x.stamp J) (only_if (same_stamp x.stamp x.stamp) x) ≡ Some x
  first x J none = ap (λ (o : Option Entry). or_else o (only_if (same_stamp x.stamp x.stamp) x)) none ∙ own (same_stamp x.stamp x.stamp) (same_stamp-refl x.stamp)
    where
      own : (t : Bool) → t ≡ true → or_else None (only_if t x) ≡ Some x
      own true e = refl
      own false e = cc

  -- ---- what the map has

  made-is : (J : List LaneEvent) → AreOnce J → (id : Id) (e : Entry) → fin.get (made J) id ≡ Some e → IsHere J id e
  made-is [] once id e h = absurd (true≢false (sym (ap is_some (sym (get-empty id_cmp id) ∙ h))))
  made-is (Wrote line x ∷ J) once id e h = by_case (made-is J once.1 id e) (here x) refl (same_id id x.id) refl
    where
      step : IsHere J id e → IsHere (Wrote line x ∷ J) id e
      step y = record { id_is = y.id_is; here_is = y.here_is; at = later x e e.stamp J y.at }

      own : here x ≡ true → id ≡ x.id → x ≡ e → IsHere (Wrote line x ∷ J) id e
      own t same is = subst (λ (z : Entry). IsHere (Wrote line x ∷ J) id z) is (record { id_is = sym same; here_is = t; at = first x J once.0 })

      by_case : (fin.get (made J) id ≡ Some e → IsHere J id e) → (t : Bool) → here x ≡ t → (i : Bool) → same_id id x.id ≡ i → IsHere (Wrote line x ∷ J) id e
      by_case rest true t true i = own t (same_id-is id x.id i) (same-some x e (sym (get-made J x id t ∙ ap (λ (u : Bool). cond u (Some x) (fin.get (made J) id)) i) ∙ h))
      by_case rest true t false i = step (rest (sym (get-made J x id t ∙ ap (λ (u : Bool). cond u (Some x) (fin.get (made J) id)) i) ∙ h))
      by_case rest false t i e = step (rest (sym (get-unmade J x id t) ∙ h))
  made-is (_ ∷ J) once id e h = let x = made-is J once id e h in record { id_is = x.id_is; here_is = x.here_is; at = x.at }

  made-has : (J : List LaneEvent) → AreOnce J → (s : Stamp) (e : Entry) → entry_at s J ≡ Some e → e.stamp ≡ s → here e ≡ true → fin.get (made J) e.id ≡ Some e
  made-has [] once s e h is p = cc
  made-has (Wrote line x ∷ J) once s e h is p = by_old (made-has J once.1 s e) (entry_at s J) refl h
    where
      -- it is the new one
      own : x ≡ e → fin.get (made (Wrote line x ∷ J)) e.id ≡ Some e
      own same = subst (λ (z : Entry). fin.get (made (Wrote line x ∷ J)) z.id ≡ Some z) same
          (let t : here x ≡ true = subst (λ (z : Entry). here z ≡ true) (sym same) p in
          get-made J x x.id t ∙ ap (λ (u : Bool). cond u (Some x) (fin.get (made J) x.id)) (same_id-refl x.id))

      only : (t : Bool) → only_if t x ≡ Some e → x ≡ e
      only true g = same-some x e g
      only false g = cc

      -- or one before, of another document than the new one
      by_case : entry_at s J ≡ Some e → fin.get (made J) e.id ≡ Some e → (t : Bool) → here x ≡ t → (i : Bool) → same_id e.id x.id ≡ i → fin.get (made (Wrote line x ∷ J)) e.id ≡ Some e
      by_case old had true t true i =
          let stamps : x.stamp ≡ s = one-stamp x e t p (sym (same_id-is e.id x.id i)) ∙ is in
          absurd (true≢false (sym (ap is_some (sym (subst (λ (k : Stamp). entry_at k J ≡ None) stamps once.0) ∙ old))))
      by_case old had true t false i = get-made J x e.id t ∙ ap (λ (u : Bool). cond u (Some x) (fin.get (made J) e.id)) i ∙ had
      by_case old had false t i k = get-unmade J x e.id t ∙ had

      by_old : (entry_at s J ≡ Some e → e.stamp ≡ s → here e ≡ true → fin.get (made J) e.id ≡ Some e) → (o : Option Entry) → entry_at s J ≡ o → or_else o (only_if (same_stamp x.stamp s) x) ≡ Some e
          → fin.get (made (Wrote line x ∷ J)) e.id ≡ Some e
      by_old rest None is_none g = own (only (same_stamp x.stamp s) g)
      by_old rest (Some y) was g = let old : entry_at s J ≡ Some e = was ∙ g in by_case old (rest old is p) (here x) refl (same_id e.id x.id) refl
  made-has (_ ∷ J) once s e h is p = made-has J once s e h is p

  -- ---- how many there are

  made-new : (J : List LaneEvent) → AreOnce J → (x : Entry) → here x ≡ true → entry_at x.stamp J ≡ None → fin.get (made J) x.id ≡ None
  made-new J once x t none = by_case (fin.get (made J) x.id) refl
    where
      by_case : (o : Option Entry) → fin.get (made J) x.id ≡ o → o ≡ None
      by_case None e = refl
      by_case (Some y) e =
          let z = made-is J once x.id y e in
          let stamps : y.stamp ≡ x.stamp = one-stamp y x z.here_is t z.id_is in
          absurd (true≢false (sym (ap is_some (sym none ∙ subst (λ (k : Stamp). entry_at k J ≡ Some y) stamps z.at))))

  counted : (J : List LaneEvent) → AreOnce J → documents b U J ≡ documents_of (made J)
  counted [] once = sym (ap documents_in (no_pairs (fin.entries (fin.empty {X = Entry} {R = id_cmp})) (sym (len-entries _) ∙ len-empty id_cmp Entry)))
  counted (Wrote line x ∷ J) once = by_case (counted J once.1) (has_key b (key_of x.id)) refl (is_some x.body) refl (is_held (U x.id) x.stamp) refl
    where
      grows : has_key b (key_of x.id) ≡ true → is_held (U x.id) x.stamp ≡ true → documents_of (fin.insert (made J) x.id x) ≡ one x + documents_of (made J)
      grows ek eh = count-insert (made J) x.id x (made-new J once.1 x (and_true (has_key b (key_of x.id)) (is_held (U x.id) x.stamp) ek eh) once.0)

      by_case : documents b U J ≡ documents_of (made J) → (k : Bool) → has_key b (key_of x.id) ≡ k → (d : Bool) → is_some x.body ≡ d → (h : Bool) → is_held (U x.id) x.stamp ≡ h
          → cond (k && (d && h)) (documents b U J + 1) (documents b U J) ≡ documents_of (cond (k && h) (fin.insert (made J) x.id x) (made J))
      by_case rest true ek true ed true eh =
          let grown : documents_of (fin.insert (made J) x.id x) ≡ one x + documents_of (made J) = grows ek eh in
          let own : one x ≡ 1 = ap (λ (t : Bool). cond t 1 0) ed in
          omega (arith, rest, grown, own)
      by_case rest true ek false ed true eh =
          let grown : documents_of (fin.insert (made J) x.id x) ≡ one x + documents_of (made J) = grows ek eh in
          let own : one x ≡ 0 = ap (λ (t : Bool). cond t 1 0) ed in
          omega (arith, rest, grown, own)
      by_case rest true ek true ed false eh = rest
      by_case rest true ek false ed false eh = rest
      by_case rest false ek d ed h eh = rest
  counted (_ ∷ J) once = counted J once

  -- ---- the union

  module _ (J : List LaneEvent) (once : AreOnce J) (u : Entries) (a : AreHeld b U J u) where
    made-union : (id : Id) → fin.get (made J) id ≡ fin.get u id
    made-union id = by_case (fin.get u id) refl
      where
        by_none : fin.get u id ≡ None → (o : Option Entry) → fin.get (made J) id ≡ o → o ≡ None
        by_none none None e = refl
        by_none none (Some y) e =
            let z = made-is J once id y e in
            let key : has_key b (key_of id) ≡ true = subst (λ (i : Id). has_key b (key_of i) ≡ true) z.id_is (both (has_key b (key_of y.id)) (is_held (U y.id) y.stamp) z.here_is).0 in
            absurd (true≢false (sym (ap is_some (sym (ap stamp_of none) ∙ a.held id key ∙ ap U (sym z.id_is) ∙ stamp-of-here y z.here_is))))

        by_case : (o : Option Entry) → fin.get u id ≡ o → fin.get (made J) id ≡ o
        by_case None none = by_none none (fin.get (made J) id) refl
        by_case (Some e) some =
            let w = a.written id e some in
            let key : has_key b (key_of id) ≡ true = a.lies id e some in
            let stamp : U e.id ≡ Some e.stamp = ap U w.0 ∙ sym (a.held id key) ∙ ap stamp_of some in
            let h : here e ≡ true = and_true (has_key b (key_of e.id)) (is_held (U e.id) e.stamp) (subst (λ (i : Id). has_key b (key_of i) ≡ true) (sym w.0) key)
            (ap (λ (o : Option Stamp). is_held o e.stamp) stamp ∙ same_stamp-refl e.stamp) in
            subst (λ (i : Id). fin.get (made J) i ≡ Some e) w.0 (made-has J once e.stamp e w.1 refl h)

    pub documents-counted : documents b U J ≡ documents_of u
    documents-counted = counted J once ∙ ap documents_of (same_map nat_list_cmp_total (slice_cmp-IsAntisymmetric nat_cmp-IsAntisymmetric) (made J) u made-union)
