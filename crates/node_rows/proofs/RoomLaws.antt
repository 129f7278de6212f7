-- Where a new document comes, and what a change of rows is by places.
use Rattle.std.proofs.Common.{◌≡◌, ℕ, suc, ◌<◌, ◌≤◌, ◌==◌, Bool, true, false, cond, nat_lt, List, [], ◌∷◌, length, get_or, refl, sym, ap, subst, ◌∙◌, arith, Option, Some, None, option_map, is_some, zero, bytes_eq}
use Rattle.std.specs.Option.{IfSome}
use Rattle.std.specs.FinMap as fin
use Rattle.std.specs.FinMap.{same_map, nat_cmp-IsAntisymmetric}
use Rattle.std.proofs.lemmas.Cmp.{nat_cmp_total}
use Rattle.local_ids.proofs.KeyLaws.{get_with, get_without}
use Rattle.meta_store.specs.declared.store.Named.{Named}
use Rattle.std.proofs.lemmas.Bool.Decides.{nat_tests}
use Rattle.proof_basics.proofs.Numbers.{lt-to, ge-to}
use Rattle.proof_basics.proofs.Tests.{clash}
use Rattle.proof_basics.proofs.Options.{none_some}
use Rattle.doc_types.specs.SchemaCodes.{Types}
use Rattle.documents.specs.Fields.{Contents}
use Rattle.documents.specs.declared.entry.Entry.{Entry}
use Rattle.word_index.specs.Index.{Index}
use Rattle.meta_store.specs.Store.{Store, IsLeastFree}
use Rattle.field_indexes.specs.Fields.{Fields}
use Rattle.document_rows.specs.Rows.{Rows, is_of, has_row, free_place, put_free, replaced, without, with_document, fitted, after_body, taken_into, AreDistinct}
use Rattle.document_rows.specs.Reading.{row_at}
use Rattle.node_rows.specs.Kept.{document_in, documents_in, named_of, IsKept, set_at, put_new, by_body, own_body, shown}
use Rattle.node_rows.proofs.PlaceLaws.{put_is, free_within, least_is, few, fewer, full, replaced_is, has_at}
use Rattle.node_rows.proofs.ReadLaws.{how_many}

-- the document of a place by its entry
pub row_is : (xs : List (Option Entry)) (n : ℕ) (x : Option Entry) → n < length (documents_in xs) → x ≡ get_or xs n x → row_at (documents_in xs) n ≡ document_in x
row_is [] n x l e = absurd (omega (arith, l))
row_is (y ∷ ys) zero x l e = ap document_in (sym e)
row_is (y ∷ ys) (suc n) x l e = row_is ys n x (omega (arith, l)) e

pub within_id : (id : List ℕ) (rows : Rows) (n : ℕ) → is_of id (row_at rows n) ≡ true → n < length rows
within_id id [] n e = clash e refl
within_id id (r ∷ rows) zero e = omega arith
within_id id (r ∷ rows) (suc n) e = (let i = within_id id rows n e in omega (arith, i))

-- what holds of a document that is there
pub own_of : (P : Contents → Type 0) (o : Option Contents) (d : Contents) → Some d ≡ o → IfSome o P → P d
own_of P o d e h = subst (λ o. IfSome o P) (sym e) h

pub if_map : (P Q : Contents → Type 0) (o : Option Contents) → ((d : Contents) → P d → Q d) → IfSome o P → IfSome o Q
if_map P Q None f h = tt
if_map P Q (Some d) f h = f d h

-- ---- the least free place

none_named : (r : Option Contents) → option_map named_of r ≡ None → r ≡ None
none_named None e = refl
none_named (Some d) e = absurd (none_some (named_of d) (sym e))

some_named : (r : Option Contents) → is_some (option_map named_of r) ≡ true → is_some r ≡ true
some_named None e = e
some_named (Some d) e = refl

pub free_row : (types : Types) (store : Store) (rows : Rows) (lists : Index) (fields : Fields) → IsKept types store rows lists fields → (n : ℕ) → IsLeastFree store n → row_at rows n ≡ None
free_row types store rows lists fields is n least = none_named (row_at rows n) (sym (is.named n) ∙ least.0)

pub free_is : (types : Types) (store : Store) (rows : Rows) (lists : Index) (fields : Fields) → IsKept types store rows lists fields → (n : ℕ) → IsLeastFree store n → n ≡ free_place rows
free_is types store rows lists fields is n least = least_is rows n (free_row types store rows lists fields is n least) (λ k l. some_named (row_at rows k) (sym (ap is_some (is.named k)) ∙ least.1 k l))

pub has_room : (types : Types) (store : Store) (rows : Rows) (lists : Index) (fields : Fields) → IsKept types store rows lists fields → fin.len store < 4294967295 → free_place rows < 4294967295
has_room types store rows lists fields is h = by_test (nat_lt (free_place rows) (length rows)) refl
  where
    by_test : (t : Bool) → nat_lt (free_place rows) (length rows) ≡ t → free_place rows < 4294967295
    by_test true e = (let l : free_place rows < length rows = grind (arith, nat_tests) in let m = is.few in omega (arith, l, m))
    by_test false e =
        (let l : length rows ≤ free_place rows = grind (arith, nat_tests) in
        let f = full 0 rows l in let n = how_many types store rows lists fields is in let w = free_within rows in
        omega (arith, h, f, n, w))

pub is_full : (types : Types) (store : Store) (rows : Rows) (lists : Index) (fields : Fields) → IsKept types store rows lists fields → 4294967295 ≤ fin.len store → 4294967295 ≤ free_place rows
is_full types store rows lists fields is h = by_test (nat_lt (free_place rows) (length rows)) refl
  where
    by_test : (t : Bool) → nat_lt (free_place rows) (length rows) ≡ t → 4294967295 ≤ free_place rows
    by_test true e =
        (let l : free_place rows < length rows = grind (arith, nat_tests) in
        let f = fewer 0 rows l in let n = how_many types store rows lists fields is in let m = is.few in
        absurd (omega (arith, h, f, n, m)))
    by_test false e =
        (let l : length rows ≤ free_place rows = grind (arith, nat_tests) in
        let f = few 0 rows in let n = how_many types store rows lists fields is in
        omega (arith, h, f, n, l))

pub put_full : (d : Contents) (rows : Rows) → 4294967295 ≤ free_place rows → put_new d rows ≡ rows
put_full d rows h = ap (λ t. cond t (put_free d rows) rows) (ge-to (free_place rows) 4294967295 h)

pub put_at : (d : Contents) (rows : Rows) (n : ℕ) → n ≡ free_place rows → free_place rows < 4294967295 → put_new d rows ≡ set_at n (Some d) rows
put_at d rows n e h = ap (λ t. cond t (put_free d rows) rows) (lt-to (free_place rows) 4294967295 h) ∙ put_is d rows ∙ ap (λ k. set_at k (Some d) rows) (sym e)

-- ---- a document that comes

pub put_as : (o : Option Contents) (rows : Rows) → IfSome o (λ d. has_row d.id rows ≡ false) → by_body put_new o rows ≡ by_body with_document o rows
put_as None rows h = refl
put_as (Some d) rows h = sym (ap (λ t. cond t (replaced d rows) (put_new d rows)) h)

pub replace_as : (o : Option Contents) (rows : Rows) (n : ℕ) → AreDistinct rows → IfSome o (λ d. is_of d.id (row_at rows n) ≡ true) → by_body (λ d rows. set_at n (Some d) rows) o rows ≡ by_body with_document o rows
replace_as None rows n h k = refl
replace_as (Some d) rows n h k = sym (ap (λ t. cond t (replaced d rows) (put_new d rows)) (has_at d.id rows n k) ∙ replaced_is d rows n h k)

abbrev taken_shown : List ℕ → Option Contents → Rows → Rows
taken_shown id None rows = without id rows
taken_shown id (Some d) rows = with_document d rows

taken_is : (types : Types) (id : List ℕ) (body : Option Contents) (rows : Rows) → after_body types id body rows ≡ taken_shown id (option_map (fitted types) (own_body id body)) rows
taken_is types id None rows = refl
taken_is types id (Some d) rows = by_test (bytes_eq d.id id)
  where
    by_test : (t : Bool) → cond t (with_document (fitted types d) rows) (without id rows) ≡ taken_shown id (option_map (fitted types) (cond t (Some d) None)) rows
    by_test true = refl
    by_test false = refl

pub taken_some : (types : Types) (rows : Rows) (e : Entry) (o : Option Contents) → o ≡ shown types e → is_some o ≡ true → by_body with_document o rows ≡ taken_into types rows e
taken_some types rows e None h k = clash k refl
taken_some types rows e (Some d) h k = ap (λ o. taken_shown e.id o rows) h ∙ sym (taken_is types e.id e.body rows)

-- a place that was free is so again
pub put_back : (s : Store) (n : ℕ) (d : Named) → fin.get s n ≡ None → fin.remove (fin.insert s n d) n ≡ s
put_back s n d free = same_map nat_cmp_total nat_cmp-IsAntisymmetric _ _ (λ q. get_without (fin.insert s n d) n q ∙ ap (cond (q == n) None) (get_with s n d q) ∙ by_test q (q == n) refl)
  where
    by_test : (q : ℕ) (t : Bool) → (q == n) ≡ t → cond t None (cond t (Some d) (fin.get s q)) ≡ fin.get s q
    by_test q true e = sym free ∙ ap (fin.get s) (sym (let same : q ≡ n = grind (arith, nat_tests) in same))
    by_test q false e = refl
