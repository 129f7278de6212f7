-- The test whether a document fits a schema.
use Rattle.std.proofs.Common.{◌≡◌, ◌∙◌, ℕ, ◌<◌, ◌≤◌, ◌^◌, ℤ, pos, negsuc, Bool, true, false, ◌&&◌, nat_lt, nat_le, List, [], ◌∷◌, length, Option, Some, None, is_some, refl, ap, arith}
use Rattle.std.specs.FinMap as fin
use Rattle.std.specs.List.{list_all, AllByRecursion}
use Rattle.std.proofs.lemmas.Bool.{and_parts}
use Rattle.std.proofs.lemmas.Bool.Decides.{nat_tests}
use Rattle.document_ids.specs.Parts.{type_of}
use Rattle.doc_types.specs.SchemaCodes.{Types}
use Rattle.doc_types.specs.Values.{kind_of}
use Rattle.doc_types.specs.declared.values.FieldType.{FieldType}
use Rattle.doc_types.specs.declared.values.FieldType.TheVariants as kind
use Rattle.doc_types.specs.declared.values.FieldValue.{FieldValue}
use Rattle.doc_types.specs.declared.values.FieldValue.TheVariants.{Int, Text, Ints, Texts}
use Rattle.documents.specs.Fields.{Contents}
use Rattle.documents.specs.Fitting.{IsSmall, IsStorable, Fits}
use Rattle.documents.specs.Kinds.{Kinds, kinds_of, most_items}
use Rattle.documents.specs.Sizes.{size_of, largest}
use Rattle.message_texts.specs.Entries.{is_small, is_storable, is_kind, is_kind_of, is_allowed, document_fits}
use Rattle.message_texts.specs.Fitting.{IsSigned, HasSigned, FitsDocument}

least : (a b : ℕ) → nat_le a b ≡ true → a ≤ b
least a b e = grind (arith, nat_tests)

at_most : (a b : ℕ) → a ≤ b → nat_le a b ≡ true
at_most a b le = grind (arith, nat_tests)

lower : (a b : ℕ) → nat_lt a b ≡ true → a < b
lower a b e = grind (arith, nat_tests)

under : (a b : ℕ) → a < b → nat_lt a b ≡ true
under a b lt = grind (arith, nat_tests)

both : (a b : Bool) → a ≡ true → b ≡ true → (a && b) ≡ true
both true b p q = q
both false b p q = cc

-- ---- what passes fits

small : (z : ℤ) → is_small z ≡ true → IsSmall z
small (pos n) e = lower n (2 ^ 63) e
small (negsuc n) e = tt

signed : (z : ℤ) → is_small z ≡ true → IsSigned z
signed (pos n) e = lower n (2 ^ 63) e
signed (negsuc n) e = lower n (2 ^ 63) e

all_signed : (zs : List ℤ) → list_all is_small zs ≡ true → AllByRecursion IsSigned zs
all_signed [] e = tt
all_signed (z ∷ zs) e = let h = and_parts (is_small z) (list_all is_small zs) e in (signed z h.0, all_signed zs h.1)

has_signed : (v : FieldValue) → is_storable v ≡ true → HasSigned v
has_signed (Int z) e = signed z e
has_signed (Text t) e = tt
has_signed (Ints zs) e = let h = and_parts (nat_le (length zs) most_items) (list_all is_small zs) e in all_signed zs h.1
has_signed (Texts ts) e = tt

all_small : (zs : List ℤ) → list_all is_small zs ≡ true → AllByRecursion IsSmall zs
all_small [] e = tt
all_small (z ∷ zs) e = let h = and_parts (is_small z) (list_all is_small zs) e in (small z h.0, all_small zs h.1)

storable : (v : FieldValue) → is_storable v ≡ true → IsStorable v
storable (Int z) e = small z e
storable (Text t) e = tt
storable (Ints zs) e = let h = and_parts (nat_le (length zs) most_items) (list_all is_small zs) e in (least (length zs) most_items h.0, all_small zs h.1)
storable (Texts ts) e = least (length ts) most_items e

one_kind : (j k : FieldType) → is_kind j k ≡ true → j ≡ k
one_kind kind.Int kind.Int e = refl
one_kind kind.Int kind.Text e = cc
one_kind kind.Int kind.IntArray e = cc
one_kind kind.Int kind.TextArray e = cc
one_kind kind.Text kind.Int e = cc
one_kind kind.Text kind.Text e = refl
one_kind kind.Text kind.IntArray e = cc
one_kind kind.Text kind.TextArray e = cc
one_kind kind.IntArray kind.Int e = cc
one_kind kind.IntArray kind.Text e = cc
one_kind kind.IntArray kind.IntArray e = refl
one_kind kind.IntArray kind.TextArray e = cc
one_kind kind.TextArray kind.Int e = cc
one_kind kind.TextArray kind.Text e = cc
one_kind kind.TextArray kind.IntArray e = cc
one_kind kind.TextArray kind.TextArray e = refl

its_kind : (o : Option FieldType) (k : FieldType) → is_kind_of o k ≡ true → o ≡ Some k
its_kind None k e = cc
its_kind (Some j) k e = ap Some (one_kind j k e)

allowed : (kinds : Kinds) (es : List (List ℕ × FieldValue)) → list_all (is_allowed kinds) es ≡ true → Fits kinds es
allowed kinds [] e = tt
allowed kinds (f ∷ fs) e =
    let h = and_parts (is_allowed kinds f) (list_all (is_allowed kinds) fs) e in
    let a = and_parts (is_kind_of (kinds f.0) (kind_of f.1)) (is_storable f.1) h.0 in
    ((its_kind (kinds f.0) (kind_of f.1) a.0, storable f.1 a.1), allowed kinds fs h.1)

their_numbers : (kinds : Kinds) (es : List (List ℕ × FieldValue)) → list_all (is_allowed kinds) es ≡ true → AllByRecursion (λ e. HasSigned e.1) es
their_numbers kinds [] e = tt
their_numbers kinds (f ∷ fs) e =
    let h = and_parts (is_allowed kinds f) (list_all (is_allowed kinds) fs) e in
    (has_signed f.1 (and_parts (is_kind_of (kinds f.0) (kind_of f.1)) (is_storable f.1) h.0).1, their_numbers kinds fs h.1)

pub fits_document : (types : Types) (d : Contents) → document_fits types d ≡ true → FitsDocument types d.id d
fits_document types d e =
    let kinds = kinds_of types (type_of d.id) in
    let h = and_parts (is_some (fin.get types (type_of d.id))) (list_all (is_allowed kinds) (fin.entries d.fields) && nat_le (size_of d.fields) largest) e in
    let f = and_parts (list_all (is_allowed kinds) (fin.entries d.fields)) (nat_le (size_of d.fields) largest) h.1 in
    record { own = refl; there = h.0; fields = allowed kinds (fin.entries d.fields) f.0; numbers = their_numbers kinds (fin.entries d.fields) f.0; size = least (size_of d.fields) largest f.1 }

-- ---- and what fits passes

passes_small : (z : ℤ) → IsSigned z → is_small z ≡ true
passes_small (pos n) lt = under n (2 ^ 63) lt
passes_small (negsuc n) lt = under n (2 ^ 63) lt

pass_small : (zs : List ℤ) → AllByRecursion IsSigned zs → list_all is_small zs ≡ true
pass_small [] h = refl
pass_small (z ∷ zs) h = both _ _ (passes_small z h.0) (pass_small zs h.1)

passes_storable : (v : FieldValue) → IsStorable v → HasSigned v → is_storable v ≡ true
passes_storable (Int z) h n = passes_small z n
passes_storable (Text t) h n = refl
passes_storable (Ints zs) h n = both _ _ (at_most (length zs) most_items h.0) (pass_small zs n)
passes_storable (Texts ts) h n = at_most (length ts) most_items h

kind_itself : (k : FieldType) → is_kind k k ≡ true
kind_itself kind.Int = refl
kind_itself kind.Text = refl
kind_itself kind.IntArray = refl
kind_itself kind.TextArray = refl

pass_allowed : (kinds : Kinds) (es : List (List ℕ × FieldValue)) → Fits kinds es → AllByRecursion (λ e. HasSigned e.1) es → list_all (is_allowed kinds) es ≡ true
pass_allowed kinds [] h n = refl
pass_allowed kinds (f ∷ fs) h n =
    both _ _ (both _ _ (ap (λ (o : Option FieldType). is_kind_of o (kind_of f.1)) h.0.0 ∙ kind_itself (kind_of f.1)) (passes_storable f.1 h.0.1 n.0)) (pass_allowed kinds fs h.1 n.1)

pub passes_document : (types : Types) (d : Contents) → FitsDocument types d.id d → document_fits types d ≡ true
passes_document types d h = both _ _ h.there (both _ _ (pass_allowed (kinds_of types (type_of d.id)) (fin.entries d.fields) h.fields h.numbers) (at_most (size_of d.fields) largest h.size))
