-- Two different groups of one query never print alike.
use Rattle.std.proofs.Common.{◌≡◌, ◌||◌, ℕ, ℤ, pos, negsuc, Bool, true, false, List, [], ◌∷◌, ◌++◌, map, codes, Option, Some, None, refl, sym, ap, ap₂, subst, ◌∙◌, append_assoc, arith}
use Rattle.std.specs.Fmt.{signed_decimal}
use Rattle.std.specs.List.{AllByRecursion, list_any}
use Rattle.std.specs.Str.{bytes_eq}
use Rattle.std.proofs.lemmas.List.{append_cancel_right}
use Rattle.std.proofs.lemmas.Slice.Eq.{bytes_eq-Decides}
use mathlib.Core.Bool.{true≢false}
use Rattle.json.specs.Json as json
use Rattle.serde_json.specs.Data.{Members, no_members, member, put}
use Rattle.serde_json.specs.View.{items_of}
use Rattle.serde_json.specs.Written.{outline, items_outline, members_outline}
use Rattle.doc_types.specs.declared.outputs.OutputKind.{OutputKind}
use Rattle.doc_types.specs.declared.outputs.OutputKind.TheVariants.{Count, Sum, Min, Max}
use Rattle.doc_types.specs.declared.values.FieldValue.{FieldValue}
use Rattle.doc_types.specs.declared.values.FieldValue.TheVariants.{Int, Text, Ints, Texts}
use Rattle.json_documents.specs.Json.{number_json, value_json}
use Rattle.query_groups.specs.Outputs.{same_output, NamedOnce}
use Rattle.query_groups.specs.declared.answers.Group.{Group}
use Rattle.query_groups.specs.declared.answers.Output.{Output}
use Rattle.reports.specs.GroupText.{output_key, number_or_null, digits_or_null, output_json, with_outputs, group_members, groups_json}
use Rattle.reports.specs.Telling.{IsInt, IsLong, IsLongIf, IsGroupValue, IsGroup, told_group}
use Rattle.reports.proofs.Parts.{look}
use Rattle.reports.proofs.Putting.{put_there, put_aside}
use Rattle.reports.proofs.WideNumbers.{same_number}

-- ---- keys of different outputs

closed_by : (a b ends : List ℕ) (t : Bool) → bytes_eq (a ++ ends) (b ++ ends) ≡ t → bytes_eq b a ≡ false → t ≡ false
closed_by a b ends false e h = refl
closed_by a b ends true e h = absurd (true≢false (sym ((bytes_eq-Decides b a).1 (sym (append_cancel_right a b ends ((bytes_eq-Decides (a ++ ends) (b ++ ends)).0 e)))) ∙ h))

closed : (a b : List ℕ) → bytes_eq b a ≡ false → bytes_eq (a ++ codes ")") (b ++ codes ")") ≡ false
closed a b h = closed_by a b (codes ")") (bytes_eq (a ++ codes ")") (b ++ codes ")")) refl h

keys_apart : (o p : OutputKind) → same_output p o ≡ false → bytes_eq (output_key o) (output_key p) ≡ false
keys_apart Count Count h = cc
keys_apart Count (Sum b) h = refl
keys_apart Count (Min b) h = refl
keys_apart Count (Max b) h = refl
keys_apart (Sum a) Count h = refl
keys_apart (Sum a) (Sum b) h = closed a b h
keys_apart (Sum a) (Min b) h = refl
keys_apart (Sum a) (Max b) h = refl
keys_apart (Min a) Count h = refl
keys_apart (Min a) (Sum b) h = refl
keys_apart (Min a) (Min b) h = closed a b h
keys_apart (Min a) (Max b) h = refl
keys_apart (Max a) Count h = refl
keys_apart (Max a) (Sum b) h = refl
keys_apart (Max a) (Min b) h = refl
keys_apart (Max a) (Max b) h = closed a b h

value_apart : (o : OutputKind) → bytes_eq (codes "value") (output_key o) ≡ false
value_apart Count = refl
value_apart (Sum a) = refl
value_apart (Min a) = refl
value_apart (Max a) = refl

neither : (a b : Bool) → (a || b) ≡ false → (a ≡ false) × (b ≡ false)
neither true b h = cc
neither false b h = (refl, h)

none_among : {A : Type 0} (f : A → Bool) (front : List A) (x : A) (back : List A) → list_any f (front ++ x ∷ back) ≡ false → f x ≡ false
none_among f [] x back h = (neither (f x) (list_any f back) h).0
none_among f (y ∷ front) x back h = none_among f front x back (neither (f y) (list_any f (front ++ x ∷ back)) h).1

-- outputs behind one aren't that one
others : (front : List OutputKind) (o : OutputKind) (back ks : List OutputKind) → NamedOnce (front ++ o ∷ back) ks → AllByRecursion (λ p. same_output p o ≡ false) ks
others front o back [] h = tt
others front o back (k ∷ ks) h = (none_among (same_output k) front o back h.0, others front o (back ++ k ∷ []) ks (subst (λ l. NamedOnce l ks) (append_assoc front (o ∷ back) (k ∷ [])) h.1))

-- ---- what stands under the key of an output, and under that of the value

stays : (o : OutputKind) (os : List Output) (ms : Members) → AllByRecursion (λ p. same_output p o ≡ false) (map (λ (p : Output). p.kind) os) → look (output_key o) (members_outline (with_outputs os ms)) ≡ look (output_key o) (members_outline ms)
stays o [] ms h = refl
stays o (p ∷ os) ms h =
    stays o os (put (output_key p.kind) (output_json p.kind p.value) ms) h.1
    ∙ put_aside (output_key o) (output_key p.kind) (output_json p.kind p.value) ms (keys_apart o p.kind h.0)

value_stays : (os : List Output) (ms : Members) → look (codes "value") (members_outline (with_outputs os ms)) ≡ look (codes "value") (members_outline ms)
value_stays [] ms = refl
value_stays (p ∷ os) ms =
    value_stays os (put (output_key p.kind) (output_json p.kind p.value) ms)
    ∙ put_aside (codes "value") (output_key p.kind) (output_json p.kind p.value) ms (value_apart p.kind)

-- ---- numbers print apart

long : (z : ℤ) → IsInt z → IsLong z
long (pos n) h = omega (arith, h)
long (negsuc n) h = omega (arith, h)

same_long : (y z : ℤ) → IsLong y → IsLong z → signed_decimal y ≡ signed_decimal z → y ≡ z
same_long (pos m) (pos n) h k e = same_number (pos m) (pos n) h k e
same_long (pos m) (negsuc n) h k e = same_number (pos m) (negsuc n) h k e
same_long (negsuc m) (pos n) h k e = same_number (negsuc m) (pos n) h k e
same_long (negsuc m) (negsuc n) h k e = same_number (negsuc m) (negsuc n) h k e

number_outline : (z : ℤ) → outline (number_json z) ≡ json.number (signed_decimal z)
number_outline (pos n) = refl
number_outline (negsuc n) = refl

one_number : (s t : List ℕ) → json.number s ≡ json.number t → s ≡ t
one_number s t e = cc

same_or_null : (v w : Option ℤ) → IsLongIf v → IsLongIf w → outline (number_or_null v) ≡ outline (number_or_null w) → v ≡ w
same_or_null None None h k e = refl
same_or_null None (Some z) h k e = let is : json.null ≡ json.number (signed_decimal z) = e ∙ number_outline z in cc
same_or_null (Some y) None h k e = let is : json.number (signed_decimal y) ≡ json.null = sym (number_outline y) ∙ e in cc
same_or_null (Some y) (Some z) h k e = ap Some (same_long y z h k (one_number _ _ (sym (number_outline y) ∙ e ∙ number_outline z)))

same_digits : (v w : Option ℤ) → IsLongIf v → IsLongIf w → outline (digits_or_null v) ≡ outline (digits_or_null w) → v ≡ w
same_digits None None h k e = refl
same_digits None (Some z) h k e = cc
same_digits (Some y) None h k e = cc
same_digits (Some y) (Some z) h k e = let is : signed_decimal y ≡ signed_decimal z = cc in ap Some (same_long y z h k is)

same_said : (o : OutputKind) (v w : Option ℤ) → IsLongIf v → IsLongIf w → outline (output_json o v) ≡ outline (output_json o w) → v ≡ w
same_said Count v w h k e = same_or_null v w h k e
same_said (Sum field) v w h k e = same_digits v w h k e
same_said (Min field) v w h k e = same_or_null v w h k e
same_said (Max field) v w h k e = same_or_null v w h k e

-- ---- outputs of the same kinds

abbrev KindsAre : List OutputKind → List Output → Type 0
KindsAre ks os = map (λ (o : Output). o.kind) os ≡ ks

one_said : (a b : json.Json) → ◌≡◌ {A = Option json.Json} (Some a) (Some b) → a ≡ b
one_said a b e = cc

abbrev output_from : OutputKind → Option ℤ → Output
output_from k v = record { kind = k; value = v }

same_output_by : (o p : Output) → o.kind ≡ p.kind → IsLongIf o.value → IsLongIf p.value → outline (output_json o.kind o.value) ≡ outline (output_json p.kind p.value) → o ≡ p
same_output_by o p kind h k e = ap₂ output_from kind (same_said o.kind o.value p.value h k (e ∙ ap (λ x. outline (output_json x p.value)) (sym kind)))

-- what is said last under the key of the first output is what that says
first_said : (named : List OutputKind) (k : OutputKind) (ks : List OutputKind) (o : Output) (os : List Output) (ms : Members) → NamedOnce named (k ∷ ks) → o.kind ≡ k → KindsAre ks os
    → look (output_key o.kind) (members_outline (with_outputs (o ∷ os) ms)) ≡ Some (outline (output_json o.kind o.value))
first_said named k ks o os ms once is kinds =
    let apart : AllByRecursion (λ p. same_output p o.kind ≡ false) (map (λ (p : Output). p.kind) os) =
    subst (λ l. AllByRecursion (λ p. same_output p o.kind ≡ false) l) (sym kinds) (subst (λ x. AllByRecursion (λ p. same_output p x ≡ false) ks) (sym is) (others named k [] ks once.1)) in
    stays o.kind os (put (output_key o.kind) (output_json o.kind o.value) ms) apart ∙ put_there (output_key o.kind) (output_json o.kind o.value) ms

same_outputs : (named ks : List OutputKind) (os ps : List Output) (ms ns : Members) → NamedOnce named ks → KindsAre ks os → KindsAre ks ps → AllByRecursion (λ (o : Output). IsLongIf o.value) os → AllByRecursion (λ (o : Output). IsLongIf o.value) ps
    → ((q : OutputKind) → look (output_key q) (members_outline (with_outputs os ms)) ≡ look (output_key q) (members_outline (with_outputs ps ns))) → os ≡ ps
same_outputs named [] [] [] ms ns once h k i j e = refl
same_outputs named [] [] (p ∷ ps) ms ns once h k i j e = cc
same_outputs named [] (o ∷ os) ps ms ns once h k i j e = cc
same_outputs named (x ∷ ks) [] ps ms ns once h k i j e = cc
same_outputs named (x ∷ ks) (o ∷ os) [] ms ns once h k i j e = cc
same_outputs named (x ∷ ks) (o ∷ os) (p ∷ ps) ms ns once h k i j e =
    let o_is : o.kind ≡ x = cc in
    let p_is : p.kind ≡ x = cc in
    let os_are : map (λ (y : Output). y.kind) os ≡ ks = cc in
    let ps_are : map (λ (y : Output). y.kind) ps ≡ ks = cc in
    let kind : o.kind ≡ p.kind = o_is ∙ sym p_is in
    let said = sym (first_said named x ks o os ms once o_is os_are) ∙ e o.kind ∙ ap (λ q. look (output_key q) (members_outline (with_outputs (p ∷ ps) ns))) kind ∙ first_said named x ks p ps ns once p_is ps_are in
    ap₂ (λ y ys. y ∷ ys) (same_output_by o p kind i.0 j.0 (one_said _ _ said)) (same_outputs (named ++ x ∷ []) ks os ps _ _ once.1 os_are ps_are i.1 j.1 e)

-- ---- groups

same_value : (v w : FieldValue) → IsGroupValue v → IsGroupValue w → outline (value_json v) ≡ outline (value_json w) → v ≡ w
same_value (Int y) (Int z) h k e = ap Int (same_long y z (long y h) (long z k) (one_number _ _ (sym (number_outline y) ∙ e ∙ number_outline z)))
same_value (Int y) (Text u) h k e = let is : json.number (signed_decimal y) ≡ json.string u = sym (number_outline y) ∙ e in cc
same_value (Int y) (Ints zs) h k e = absurd k
same_value (Int y) (Texts us) h k e = absurd k
same_value (Text t) (Int z) h k e = let is : json.string t ≡ json.number (signed_decimal z) = e ∙ number_outline z in cc
same_value (Text t) (Text u) h k e = let is : t ≡ u = cc in ap Text is
same_value (Text t) (Ints zs) h k e = absurd k
same_value (Text t) (Texts us) h k e = absurd k
same_value (Ints ys) w h k e = absurd h
same_value (Texts ts) w h k e = absurd h

abbrev group_from : FieldValue → List Output → Group
group_from v os = record { value = v; count = 0; outputs = os }

module _ (asked : List OutputKind) where
  same_group : (g h : Group) → NamedOnce [] asked → IsGroup asked g → IsGroup asked h → members_outline (group_members g) ≡ members_outline (group_members h) → told_group g ≡ told_group h
  same_group g h once i j e =
      let said = sym (value_stays g.outputs (member (codes "value") (value_json g.value) no_members)) ∙ ap (look (codes "value")) e ∙ value_stays h.outputs (member (codes "value") (value_json h.value) no_members) in
      ap₂ group_from (same_value g.value h.value i.value j.value (one_said _ _ said))
      (same_outputs [] asked g.outputs h.outputs _ _ once i.outputs j.outputs i.numbers j.numbers (λ q. ap (look (output_key q)) e))

  pub same_groups : (gs hs : List Group) → NamedOnce [] asked → AllByRecursion (IsGroup asked) gs → AllByRecursion (IsGroup asked) hs → items_outline (items_of (groups_json gs)) ≡ items_outline (items_of (groups_json hs)) → map told_group gs ≡ map told_group hs
  same_groups [] [] once i j e = refl
  same_groups [] (h ∷ hs) once i j e = cc
  same_groups (g ∷ gs) [] once i j e = cc
  same_groups (g ∷ gs) (h ∷ hs) once i j e =
      let first : members_outline (group_members g) ≡ members_outline (group_members h) = cc in
      let rest : items_outline (items_of (groups_json gs)) ≡ items_outline (items_of (groups_json hs)) = cc in
      ap₂ (λ x xs. x ∷ xs) (same_group g h once i.0 j.0 first) (same_groups gs hs once i.1 j.1 rest)
