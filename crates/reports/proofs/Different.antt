-- Two different answers never print alike: each part of an answer is read off its report, and the parts are
-- the answer.
use Rattle.std.proofs.Common.{◌≡◌, ℕ, ℤ, pos, negsuc, Bool, List, [], ◌∷◌, ◌++◌, map, codes, Option, Some, None, option_map, refl, sym, ap, ap₂, subst, ◌∙◌, arith, decimal, cond}
use Rattle.std.specs.FinMap as fin
use Rattle.std.specs.Fmt.{signed_decimal}
use Rattle.std.specs.List.{AllByRecursion}
use Rattle.std.specs.Str.{bytes_eq}
use Rattle.std.specs.Str.Parse.{AllDigits}
use Rattle.std.proofs.lemmas.Fmt.{decimal_injective, decimal_is_IsNumeral, signed_decimal_injective}
use Rattle.std.proofs.lemmas.List.{append_cancel_right}
use Rattle.std.proofs.lemmas.Str.Parse.{tells_digits}
use Rattle.json.specs.Json as json
use Rattle.serde_json.specs.Data.{object, string}
use Rattle.serde_json.specs.View.{items_of}
use Rattle.serde_json.specs.Written.{compact_text, outline, items_outline, members_outline}
use Rattle.stamps.specs.declared.stamp.Stamp.{Stamp}
use Rattle.stamps.specs.Printed.{printed}
use Rattle.doc_types.specs.SchemaCodes.{Types}
use Rattle.doc_types.specs.Values.{kind_of}
use Rattle.doc_types.specs.declared.outputs.OutputKind.{OutputKind}
use Rattle.doc_types.specs.declared.values.FieldValue.{FieldValue}
use Rattle.doc_types.specs.declared.values.FieldValue.TheVariants.{Int, Text, Ints, Texts}
use Rattle.document_ids.specs.Parts.{type_of}
use Rattle.documents.specs.Fields.{Contents, FieldMap}
use Rattle.documents.specs.Fitting.{Fits}
use Rattle.documents.specs.Kinds.{Kinds, kinds_of}
use Rattle.json_documents.specs.Json.{number_json, value_json, members_json}
use Rattle.doc_updates.specs.declared.fault.UpdateFault.{UpdateFault}
use Rattle.doc_updates.specs.declared.fault.UpdateFault.TheVariants as fault
use Rattle.feed_lines.specs.declared.command.Cause.{Cause}
use Rattle.feed_lines.specs.declared.command.Cause.TheVariants as cause
use Rattle.query_groups.specs.Outputs.{NamedOnce}
use Rattle.query_groups.specs.declared.answers.Group.{Group}
use Rattle.reports.specs.ReportText.{line_text, cause_text, members_of, report_text}
use Rattle.reports.specs.Telling.{IsCount, IsInt, HasInts, IsStamp, IsStampIf, IsDocument, IsGroup, CanBe, told_group, as_told}
use Rattle.reports.specs.declared.answer.Answer.{Answer}
use Rattle.reports.specs.declared.answer.Answer.TheVariants as answer
use Rattle.reports.proofs.OneObject.{object_read}
use Rattle.reports.proofs.Parts.{look, text_in, some_text, truth_in, some_object, some_items, or_else, numbers_in, outline_of, groups_outline, word_of, numbers_of, stamp_of, taken_of, fault_of, field_of, cause_of, id_of, fields_of, groups_of, word_read, numbers_read, stamp_read, taken_read, fault_read, field_read, cause_read, id_read, fields_read, groups_read}
use Rattle.reports.proofs.SameGroups.{same_groups}

-- ---- numbers and stamps print apart

pub same_counts : (ms ns : List ℕ) → AllByRecursion IsCount ms → AllByRecursion IsCount ns → map decimal ms ≡ map decimal ns → ms ≡ ns
same_counts [] [] h k e = refl
same_counts [] (n ∷ ns) h k e = cc
same_counts (m ∷ ms) [] h k e = cc
same_counts (m ∷ ms) (n ∷ ns) h k e =
    let first : decimal m ≡ decimal n = cc in
    let rest : map decimal ms ≡ map decimal ns = cc in
    ap₂ (λ x xs. x ∷ xs) (decimal_injective m n h.0 k.0 first) (same_counts ms ns h.1 k.1 rest)

-- what stands before and behind the first colon
cut : (xs ys us vs : List ℕ) → AllDigits 10 xs → AllDigits 10 ys → xs ++ 58 ∷ us ≡ ys ++ 58 ∷ vs → (xs ≡ ys) × (us ≡ vs)
cut [] [] us vs d e h = (refl, cc)
cut [] (y ∷ ys) us vs d e h = let is : 58 ≡ y = cc in let digit = (tells_digits.parts y ys e).0 in absurd (omega (arith, is, digit.0, digit.1))
cut (x ∷ xs) [] us vs d e h = let is : x ≡ 58 = cc in let digit = (tells_digits.parts x xs d).0 in absurd (omega (arith, is, digit.0, digit.1))
cut (x ∷ xs) (y ∷ ys) us vs d e h =
    let first : x ≡ y = cc in
    let more : xs ++ 58 ∷ us ≡ ys ++ 58 ∷ vs = cc in
    let rest = cut xs ys us vs (tells_digits.parts x xs d).1 (tells_digits.parts y ys e).1 more in
    (ap₂ (λ z zs. z ∷ zs) first rest.0, rest.1)

digits_of : (n : ℕ) → IsCount n → AllDigits 10 (decimal n)
digits_of n h = (decimal_is_IsNumeral n h).0.1

abbrev stamp_from : ℕ → ℕ → Stamp
stamp_from version count = record { version = version; count = count }

same_parts : (a b : Stamp) → a.version ≡ b.version → a.count ≡ b.count → a ≡ b
same_parts a b v c = ap₂ stamp_from v c

same_stamp : (a b : Stamp) → IsStamp a → IsStamp b → printed a ≡ printed b → a ≡ b
unfolding printed
same_stamp a b h k e =
    let parts = cut (decimal a.version) (decimal b.version) (decimal a.count) (decimal b.count) (digits_of a.version h.version) (digits_of b.version k.version) e in
    same_parts a b (decimal_injective a.version b.version h.version k.version parts.0) (decimal_injective a.count b.count h.count k.count parts.1)

same_seen : (a b : Option Stamp) → IsStampIf a → IsStampIf b → option_map printed a ≡ option_map printed b → a ≡ b
same_seen None None h k e = refl
same_seen None (Some b) h k e = cc
same_seen (Some a) None h k e = cc
same_seen (Some a) (Some b) h k e = let is : printed a ≡ printed b = cc in ap Some (same_stamp a b h k is)

-- ---- fields of one type print apart

same_int : (y z : ℤ) → IsInt y → IsInt z → outline (number_json y) ≡ outline (number_json z) → y ≡ z
same_int (pos m) (pos n) h k e = let is : decimal m ≡ decimal n = cc in ap pos (decimal_injective m n (omega arith) (omega arith) is)
same_int (pos m) (negsuc n) h k e = let is : signed_decimal (pos m) ≡ signed_decimal (negsuc n) = cc in signed_decimal_injective (pos m) (negsuc n) h k is
same_int (negsuc m) (pos n) h k e = let is : signed_decimal (negsuc m) ≡ signed_decimal (pos n) = cc in signed_decimal_injective (negsuc m) (pos n) h k is
same_int (negsuc m) (negsuc n) h k e = let is : signed_decimal (negsuc m) ≡ signed_decimal (negsuc n) = cc in signed_decimal_injective (negsuc m) (negsuc n) h k is

same_ints : (ys zs : List ℤ) → AllByRecursion IsInt ys → AllByRecursion IsInt zs → items_outline (items_of (map number_json ys)) ≡ items_outline (items_of (map number_json zs)) → ys ≡ zs
same_ints [] [] h k e = refl
same_ints [] (z ∷ zs) h k e = cc
same_ints (y ∷ ys) [] h k e = cc
same_ints (y ∷ ys) (z ∷ zs) h k e =
    let first : outline (number_json y) ≡ outline (number_json z) = cc in
    let rest : items_outline (items_of (map number_json ys)) ≡ items_outline (items_of (map number_json zs)) = cc in
    ap₂ (λ x xs. x ∷ xs) (same_int y z h.0 k.0 first) (same_ints ys zs h.1 k.1 rest)

same_texts : (ys zs : List (List ℕ)) → items_outline (items_of (map string ys)) ≡ items_outline (items_of (map string zs)) → ys ≡ zs
same_texts [] [] e = refl
same_texts [] (z ∷ zs) e = cc
same_texts (y ∷ ys) [] e = cc
same_texts (y ∷ ys) (z ∷ zs) e =
    let first : y ≡ z = cc in
    let rest : items_outline (items_of (map string ys)) ≡ items_outline (items_of (map string zs)) = cc in
    ap₂ (λ x xs. x ∷ xs) first (same_texts ys zs rest)

same_value : (v w : FieldValue) → HasInts v → HasInts w → kind_of v ≡ kind_of w → outline (value_json v) ≡ outline (value_json w) → v ≡ w
same_value (Int y) (Int z) h k kind e = ap Int (same_int y z h k e)
same_value (Int y) (Text u) h k kind e = cc
same_value (Int y) (Ints zs) h k kind e = cc
same_value (Int y) (Texts us) h k kind e = cc
same_value (Text t) (Int z) h k kind e = cc
same_value (Text t) (Text u) h k kind e = let is : t ≡ u = cc in ap Text is
same_value (Text t) (Ints zs) h k kind e = cc
same_value (Text t) (Texts us) h k kind e = cc
same_value (Ints ys) (Int z) h k kind e = cc
same_value (Ints ys) (Text u) h k kind e = cc
same_value (Ints ys) (Ints zs) h k kind e = let is : items_outline (items_of (map number_json ys)) ≡ items_outline (items_of (map number_json zs)) = cc in ap Ints (same_ints ys zs h k is)
same_value (Ints ys) (Texts us) h k kind e = cc
same_value (Texts ts) (Int z) h k kind e = cc
same_value (Texts ts) (Text u) h k kind e = cc
same_value (Texts ts) (Ints zs) h k kind e = cc
same_value (Texts ts) (Texts us) h k kind e = let is : items_outline (items_of (map string ts)) ≡ items_outline (items_of (map string us)) = cc in ap Texts (same_texts ts us is)

same_entries : (kinds : Kinds) (es fs : List (List ℕ × FieldValue)) → Fits kinds es → Fits kinds fs → AllByRecursion (λ e. HasInts e.1) es → AllByRecursion (λ e. HasInts e.1) fs
    → members_outline (members_json es) ≡ members_outline (members_json fs) → es ≡ fs
same_entries kinds [] [] h k i j e = refl
same_entries kinds [] (g ∷ fs) h k i j e = cc
same_entries kinds (d ∷ es) [] h k i j e = cc
same_entries kinds (d ∷ es) (g ∷ fs) h k i j e =
    let name : d.0 ≡ g.0 = cc in
    let value : outline (value_json d.1) ≡ outline (value_json g.1) = cc in
    let rest : members_outline (members_json es) ≡ members_outline (members_json fs) = cc in
    let kinds_same : Some (kind_of d.1) ≡ Some (kind_of g.1) = sym h.0.0 ∙ ap kinds name ∙ k.0.0 in
    let kind : kind_of d.1 ≡ kind_of g.1 = cc in
    ap₂ (λ x xs. x ∷ xs) (ap₂ (λ n v. (n, v)) name (same_value d.1 g.1 i.0 j.0 kind value)) (same_entries kinds es fs h.1 k.1 i.1 j.1 rest)

-- ---- and the parts are the answer

abbrev stamp_or : Option Stamp → Stamp
stamp_or None = record { version = 0; count = 0 }
stamp_or (Some stamp) = stamp

abbrev fields_or : Option FieldMap → FieldMap
fields_or None = fin.from_entries []
fields_or (Some fields) = fields

abbrev groups_or : Option (List Group) → List Group
groups_or None = []
groups_or (Some groups) = groups

abbrev acked_by : Option Stamp → Answer
acked_by None = answer.Nothing
acked_by (Some stamp) = answer.Acked stamp

abbrev first_of : List ℕ → ℕ
first_of [] = 0
first_of (n ∷ ns) = n

abbrev second_of : List ℕ → ℕ
second_of [] = 0
second_of (n ∷ ns) = first_of ns

abbrev third_of : List ℕ → ℕ
third_of [] = 0
third_of (n ∷ ns) = second_of ns

abbrev fourth_of : List ℕ → ℕ
fourth_of [] = 0
fourth_of (n ∷ ns) = third_of ns

abbrev fault_from : List ℕ → List ℕ → ℕ → UpdateFault
fault_from word field size = cond (bytes_eq word (codes "zerodivisor")) (fault.ZeroDivisor field) (cond (bytes_eq word (codes "overflow")) (fault.Overflow field)
    (cond (bytes_eq word (codes "toomany")) (fault.TooMany field) (fault.TooLarge size)))

abbrev cause_from : List ℕ → Cause
cause_from word = cond (bytes_eq word (codes "json")) cause.Json (cond (bytes_eq word (codes "object")) cause.Object
    (cond (bytes_eq word (codes "key")) cause.Key (cond (bytes_eq word (codes "id")) cause.Id (cond (bytes_eq word (codes "type")) cause.Type
    (cond (bytes_eq word (codes "field")) cause.Field (cond (bytes_eq word (codes "value")) cause.Value (cond (bytes_eq word (codes "size")) cause.Size cause.Condition)))))))

cause_back : (why : Cause) → cause_from (cause_text why) ≡ why
cause_back cause.Json = refl
cause_back cause.Object = refl
cause_back cause.Key = refl
cause_back cause.Id = refl
cause_back cause.Type = refl
cause_back cause.Field = refl
cause_back cause.Value = refl
cause_back cause.Size = refl
cause_back cause.Condition = refl

-- what an answer tells
record Told : Type 0 where
  pub word : List ℕ
  pub numbers : List ℕ
  pub stamp : Option Stamp
  pub taken : Bool
  pub fault : List ℕ
  pub field : List ℕ
  pub cause : List ℕ
  pub id : List ℕ
  pub fields : Option FieldMap
  pub groups : Option (List Group)

abbrev told_from : List ℕ → List ℕ → Option Stamp → Bool → List ℕ → List ℕ → List ℕ → List ℕ → Option FieldMap → Option (List Group) → Told
told_from word numbers stamp taken fault field cause id fields groups =
    record { word = word; numbers = numbers; stamp = stamp; taken = taken; fault = fault; field = field; cause = cause; id = id; fields = fields; groups = groups }

abbrev told_of : Answer → Told
told_of a = told_from (word_of a) (numbers_of a) (stamp_of a) (taken_of a) (fault_of a) (field_of a) (cause_of a) (id_of a) (fields_of a) (option_map (map told_group) (groups_of a))

abbrev answer_from : Told → Answer
answer_from t =
    cond (bytes_eq t.word (codes "acked")) (acked_by t.stamp) (
    cond (bytes_eq t.word (codes "found")) (answer.Found t.id (record { id = t.id; fields = fields_or t.fields }) (stamp_or t.stamp)) (
    cond (bytes_eq t.word (codes "missing")) (answer.Missing t.stamp) (
    cond (bytes_eq t.word (codes "conditionfailed")) (answer.ConditionFailed t.stamp) (
    cond (bytes_eq t.word (codes "badupdate")) (answer.BadUpdate (fault_from t.fault t.field (first_of t.numbers))) (
    cond (bytes_eq t.word (codes "toofew")) (answer.TooFew (second_of t.numbers) (third_of t.numbers) (first_of t.numbers)) (
    cond (bytes_eq t.word (codes "notowner")) (answer.OwnedElsewhere (first_of t.numbers) (second_of t.numbers)) (
    cond (bytes_eq t.word (codes "nomemory")) (answer.NoMemory) (
    cond (bytes_eq t.word (codes "badline")) (answer.BadLine (cause_from t.cause)) (
    cond (bytes_eq t.word (codes "toolong")) (answer.TooLong) (
    cond (bytes_eq t.word (codes "published")) (answer.Published (first_of t.numbers)) (
    cond (bytes_eq t.word (codes "badstate")) (answer.BadState (first_of t.numbers)) (
    cond (bytes_eq t.word (codes "notnewer")) (answer.NotNewer (first_of t.numbers)) (
    cond (bytes_eq t.word (codes "nodistributor")) (answer.NoDistributor) (
    cond (bytes_eq t.word (codes "barrier")) (answer.Barrier) (
    cond (bytes_eq t.word (codes "toofewup")) (answer.TooFewUp (second_of t.numbers) (first_of t.numbers)) (
    cond (bytes_eq t.word (codes "toomanyout")) (answer.TooManyOut (second_of t.numbers) (first_of t.numbers)) (
    cond (bytes_eq t.word (codes "stopped")) (answer.Stopped (first_of t.numbers)) (
    cond (bytes_eq t.word (codes "started")) (answer.Started (first_of t.numbers)) (
    cond (bytes_eq t.word (codes "maintained")) (answer.Maintained (third_of t.numbers) (fourth_of t.numbers) (first_of t.numbers) (second_of t.numbers)) (
    cond (bytes_eq t.word (codes "search")) (answer.Search (record { version = third_of t.numbers; count = first_of t.numbers; covered = second_of t.numbers; full = t.taken; groups = groups_or t.groups })) (
    cond (bytes_eq t.word (codes "badquery")) (answer.BadQuery (first_of t.numbers)) (
    answer.Planned t.taken))))))))))))))))))))))

own_document : (types : Types) (id : List ℕ) (document : Contents) → IsDocument types id document → record { id = id; fields = document.fields } ≡ document
own_document types id document h = ap (λ i. record { id = i; fields = document.fields }) (sym h.own)

answer_back : (types : Types) (asked : List OutputKind) (a : Answer) → CanBe types asked a → answer_from (told_of a) ≡ as_told a
answer_back types asked (answer.Acked stamp) h = refl
answer_back types asked (answer.Found id document stamp) h = ap (λ d. answer.Found id d stamp) (own_document types id document h.0)
answer_back types asked (answer.Missing seen) h = refl
answer_back types asked answer.Nothing h = refl
answer_back types asked (answer.ConditionFailed seen) h = refl
answer_back types asked (answer.BadUpdate (fault.ZeroDivisor field)) h = refl
answer_back types asked (answer.BadUpdate (fault.Overflow field)) h = refl
answer_back types asked (answer.BadUpdate (fault.TooMany field)) h = refl
answer_back types asked (answer.BadUpdate (fault.TooLarge size)) h = refl
answer_back types asked (answer.BadUpdate fault.NoMemory) h = absurd h
answer_back types asked (answer.TooFew answered needed absent) h = refl
answer_back types asked (answer.OwnedElsewhere owner version) h = refl
answer_back types asked answer.NoMemory h = refl
answer_back types asked (answer.BadLine why) h = ap answer.BadLine (cause_back why)
answer_back types asked answer.TooLong h = refl
answer_back types asked (answer.Search found) h = refl
answer_back types asked (answer.BadQuery offset) h = refl
answer_back types asked (answer.Published version) h = refl
answer_back types asked (answer.BadState offset) h = refl
answer_back types asked (answer.NotNewer have) h = refl
answer_back types asked answer.NoDistributor h = refl
answer_back types asked (answer.TooFewUp up acks) h = refl
answer_back types asked (answer.TooManyOut out acks) h = refl
answer_back types asked (answer.Stopped node) h = refl
answer_back types asked (answer.Started node) h = refl
answer_back types asked (answer.Planned taken) h = refl
answer_back types asked answer.Barrier h = refl
answer_back types asked (answer.Maintained lanes rested blocked disturbed) h = refl

-- ---- numbers, stamps and fields of an answer that can be

counts_be : (types : Types) (asked : List OutputKind) (a : Answer) → CanBe types asked a → AllByRecursion IsCount (numbers_of a)
counts_be types asked (answer.Acked stamp) h = tt
counts_be types asked (answer.Found id document stamp) h = tt
counts_be types asked (answer.Missing seen) h = tt
counts_be types asked answer.Nothing h = tt
counts_be types asked (answer.ConditionFailed seen) h = tt
counts_be types asked (answer.BadUpdate (fault.ZeroDivisor field)) h = tt
counts_be types asked (answer.BadUpdate (fault.Overflow field)) h = tt
counts_be types asked (answer.BadUpdate (fault.TooMany field)) h = tt
counts_be types asked (answer.BadUpdate (fault.TooLarge size)) h = (h, tt)
counts_be types asked (answer.BadUpdate fault.NoMemory) h = tt
counts_be types asked (answer.TooFew answered needed absent) h = (h.2, (h.0, (h.1, tt)))
counts_be types asked (answer.OwnedElsewhere owner version) h = (h.0, (h.1, tt))
counts_be types asked answer.NoMemory h = tt
counts_be types asked (answer.BadLine why) h = tt
counts_be types asked answer.TooLong h = tt
counts_be types asked (answer.Search found) h = (h.count, (h.covered, (h.version, tt)))
counts_be types asked (answer.BadQuery offset) h = (h, tt)
counts_be types asked (answer.Published version) h = (h, tt)
counts_be types asked (answer.BadState offset) h = (h, tt)
counts_be types asked (answer.NotNewer have) h = (h, tt)
counts_be types asked answer.NoDistributor h = tt
counts_be types asked (answer.TooFewUp up acks) h = (h.1, (h.0, tt))
counts_be types asked (answer.TooManyOut out acks) h = (h.1, (h.0, tt))
counts_be types asked (answer.Stopped node) h = (h, tt)
counts_be types asked (answer.Started node) h = (h, tt)
counts_be types asked (answer.Planned taken) h = tt
counts_be types asked answer.Barrier h = tt
counts_be types asked (answer.Maintained lanes rested blocked disturbed) h = (h.2, (h.3, (h.0, (h.1, tt))))

stamp_be : (types : Types) (asked : List OutputKind) (a : Answer) → CanBe types asked a → IsStampIf (stamp_of a)
stamp_be types asked (answer.Acked stamp) h = h
stamp_be types asked (answer.Found id document stamp) h = h.1
stamp_be types asked (answer.Missing seen) h = h
stamp_be types asked answer.Nothing h = tt
stamp_be types asked (answer.ConditionFailed seen) h = h
stamp_be types asked (answer.BadUpdate (fault.ZeroDivisor field)) h = tt
stamp_be types asked (answer.BadUpdate (fault.Overflow field)) h = tt
stamp_be types asked (answer.BadUpdate (fault.TooMany field)) h = tt
stamp_be types asked (answer.BadUpdate (fault.TooLarge size)) h = tt
stamp_be types asked (answer.BadUpdate fault.NoMemory) h = tt
stamp_be types asked (answer.TooFew answered needed absent) h = tt
stamp_be types asked (answer.OwnedElsewhere owner version) h = tt
stamp_be types asked answer.NoMemory h = tt
stamp_be types asked (answer.BadLine why) h = tt
stamp_be types asked answer.TooLong h = tt
stamp_be types asked (answer.Search found) h = tt
stamp_be types asked (answer.BadQuery offset) h = tt
stamp_be types asked (answer.Published version) h = tt
stamp_be types asked (answer.BadState offset) h = tt
stamp_be types asked (answer.NotNewer have) h = tt
stamp_be types asked answer.NoDistributor h = tt
stamp_be types asked (answer.TooFewUp up acks) h = tt
stamp_be types asked (answer.TooManyOut out acks) h = tt
stamp_be types asked (answer.Stopped node) h = tt
stamp_be types asked (answer.Started node) h = tt
stamp_be types asked (answer.Planned taken) h = tt
stamp_be types asked answer.Barrier h = tt
stamp_be types asked (answer.Maintained lanes rested blocked disturbed) h = tt

-- groups that a query may find
record AreGroups (asked : List OutputKind) (groups : List Group) : Type 0 where
  pub once : NamedOnce [] asked
  pub each : AllByRecursion (IsGroup asked) groups

abbrev AreGroupsIf : List OutputKind → Option (List Group) → Type 0
AreGroupsIf asked None = Unit {0}
AreGroupsIf asked (Some groups) = AreGroups asked groups

groups_be : (types : Types) (asked : List OutputKind) (a : Answer) → CanBe types asked a → AreGroupsIf asked (groups_of a)
groups_be types asked (answer.Acked stamp) h = tt
groups_be types asked (answer.Found id document stamp) h = tt
groups_be types asked (answer.Missing seen) h = tt
groups_be types asked answer.Nothing h = tt
groups_be types asked (answer.ConditionFailed seen) h = tt
groups_be types asked (answer.BadUpdate (fault.ZeroDivisor field)) h = tt
groups_be types asked (answer.BadUpdate (fault.Overflow field)) h = tt
groups_be types asked (answer.BadUpdate (fault.TooMany field)) h = tt
groups_be types asked (answer.BadUpdate (fault.TooLarge size)) h = tt
groups_be types asked (answer.BadUpdate fault.NoMemory) h = tt
groups_be types asked (answer.TooFew answered needed absent) h = tt
groups_be types asked (answer.OwnedElsewhere owner version) h = tt
groups_be types asked answer.NoMemory h = tt
groups_be types asked (answer.BadLine why) h = tt
groups_be types asked answer.TooLong h = tt
groups_be types asked (answer.Search found) h = record { once = h.once; each = h.groups }
groups_be types asked (answer.BadQuery offset) h = tt
groups_be types asked (answer.Published version) h = tt
groups_be types asked (answer.BadState offset) h = tt
groups_be types asked (answer.NotNewer have) h = tt
groups_be types asked answer.NoDistributor h = tt
groups_be types asked (answer.TooFewUp up acks) h = tt
groups_be types asked (answer.TooManyOut out acks) h = tt
groups_be types asked (answer.Stopped node) h = tt
groups_be types asked (answer.Started node) h = tt
groups_be types asked (answer.Planned taken) h = tt
groups_be types asked answer.Barrier h = tt
groups_be types asked (answer.Maintained lanes rested blocked disturbed) h = tt

same_groups_if : (asked : List OutputKind) (f g : Option (List Group)) → AreGroupsIf asked f → AreGroupsIf asked g → option_map groups_outline f ≡ option_map groups_outline g → option_map (map told_group) f ≡ option_map (map told_group) g
same_groups_if asked None None h k e = refl
same_groups_if asked None (Some g) h k e = cc
same_groups_if asked (Some f) None h k e = cc
same_groups_if asked (Some f) (Some g) h k e = let is : groups_outline f ≡ groups_outline g = cc in ap Some (same_groups asked f g h.once h.each k.each is)

-- fields that a type of the schema may have
record AreFields (types : Types) (id : List ℕ) (fields : FieldMap) : Type 0 where
  pub fits : Fits (kinds_of types (type_of id)) (fin.entries fields)
  pub ints : AllByRecursion (λ e. HasInts e.1) (fin.entries fields)

abbrev AreFieldsIf : Types → List ℕ → Option FieldMap → Type 0
AreFieldsIf types id None = Unit {0}
AreFieldsIf types id (Some fields) = AreFields types id fields

fields_be : (types : Types) (asked : List OutputKind) (a : Answer) → CanBe types asked a → AreFieldsIf types (id_of a) (fields_of a)
fields_be types asked (answer.Acked stamp) h = tt
fields_be types asked (answer.Found id document stamp) h = record { fits = h.0.fits; ints = h.0.ints }
fields_be types asked (answer.Missing seen) h = tt
fields_be types asked answer.Nothing h = tt
fields_be types asked (answer.ConditionFailed seen) h = tt
fields_be types asked (answer.BadUpdate (fault.ZeroDivisor field)) h = tt
fields_be types asked (answer.BadUpdate (fault.Overflow field)) h = tt
fields_be types asked (answer.BadUpdate (fault.TooMany field)) h = tt
fields_be types asked (answer.BadUpdate (fault.TooLarge size)) h = tt
fields_be types asked (answer.BadUpdate fault.NoMemory) h = tt
fields_be types asked (answer.TooFew answered needed absent) h = tt
fields_be types asked (answer.OwnedElsewhere owner version) h = tt
fields_be types asked answer.NoMemory h = tt
fields_be types asked (answer.BadLine why) h = tt
fields_be types asked answer.TooLong h = tt
fields_be types asked (answer.Search found) h = tt
fields_be types asked (answer.BadQuery offset) h = tt
fields_be types asked (answer.Published version) h = tt
fields_be types asked (answer.BadState offset) h = tt
fields_be types asked (answer.NotNewer have) h = tt
fields_be types asked answer.NoDistributor h = tt
fields_be types asked (answer.TooFewUp up acks) h = tt
fields_be types asked (answer.TooManyOut out acks) h = tt
fields_be types asked (answer.Stopped node) h = tt
fields_be types asked (answer.Started node) h = tt
fields_be types asked (answer.Planned taken) h = tt
fields_be types asked answer.Barrier h = tt
fields_be types asked (answer.Maintained lanes rested blocked disturbed) h = tt

same_map : (types : Types) (i j : List ℕ) (f g : FieldMap) → i ≡ j → AreFields types i f → AreFields types j g → outline_of f ≡ outline_of g → f ≡ g
same_map types i j f g same h k e =
    fin.same_entries_map f g (same_entries (kinds_of types (type_of j)) (fin.entries f) (fin.entries g) (subst (λ x. Fits (kinds_of types (type_of x)) (fin.entries f)) same h.fits) k.fits h.ints k.ints e)

same_fields : (types : Types) (i j : List ℕ) (f g : Option FieldMap) → i ≡ j → AreFieldsIf types i f → AreFieldsIf types j g → option_map outline_of f ≡ option_map outline_of g → f ≡ g
same_fields types i j None None same h k e = refl
same_fields types i j None (Some g) same h k e = cc
same_fields types i j (Some f) None same h k e = cc
same_fields types i j (Some f) (Some g) same h k e = let is : outline_of f ≡ outline_of g = cc in ap Some (same_map types i j f g same h k is)

same_told : (w x : List ℕ) (m n : List ℕ) (s t : Option Stamp) (b c : Bool) (f g : List ℕ) (h i : List ℕ) (j k : List ℕ) (o p : List ℕ) (q r : Option FieldMap) (u v : Option (List Group))
    → w ≡ x → m ≡ n → s ≡ t → b ≡ c → f ≡ g → h ≡ i → j ≡ k → o ≡ p → q ≡ r → u ≡ v → told_from w m s b f h j o q u ≡ told_from x n t c g i k p r v
same_told w x m n s t b c f g h i j k o p q r u v e1 e2 e3 e4 e5 e6 e7 e8 e9 e10 = rw (e1, e2, e3, e4, e5, e6, e7, e8, e9, e10) refl

-- the same members are the same answer
same_members : (types : Types) (asked : List OutputKind) (line : ℕ) (a b : Answer) → CanBe types asked a → CanBe types asked b → members_outline (members_of line a) ≡ members_outline (members_of line b) → as_told a ≡ as_told b
same_members types asked line a b h k e =
    let ids = sym (id_read line a) ∙ ap (λ m. text_in (look (codes "id") m)) e ∙ id_read line b in
    let told = same_told (word_of a) (word_of b) (numbers_of a) (numbers_of b) (stamp_of a) (stamp_of b) (taken_of a) (taken_of b) (fault_of a) (fault_of b) (field_of a) (field_of b) (cause_of a) (cause_of b) (id_of a) (id_of b) (fields_of a) (fields_of b) (option_map (map told_group) (groups_of a)) (option_map (map told_group) (groups_of b))
    (sym (word_read line a) ∙ ap (λ m. text_in (look (codes "result") m)) e ∙ word_read line b)
    (same_counts (numbers_of a) (numbers_of b) (counts_be types asked a h) (counts_be types asked b k) (sym (numbers_read line a) ∙ ap numbers_in e ∙ numbers_read line b))
    (same_seen (stamp_of a) (stamp_of b) (stamp_be types asked a h) (stamp_be types asked b k)
    (sym (stamp_read line a) ∙ ap (λ m. or_else (some_text (look (codes "stamp") m)) (some_text (look (codes "seen") m))) e ∙ stamp_read line b))
    (sym (taken_read line a) ∙ ap (λ m. truth_in (or_else (look (codes "taken") m) (look (codes "full") m))) e ∙ taken_read line b)
    (sym (fault_read line a) ∙ ap (λ m. text_in (look (codes "fault") m)) e ∙ fault_read line b)
    (sym (field_read line a) ∙ ap (λ m. text_in (look (codes "field") m)) e ∙ field_read line b)
    (sym (cause_read line a) ∙ ap (λ m. text_in (look (codes "cause") m)) e ∙ cause_read line b)
    ids
    (same_fields types (id_of a) (id_of b) (fields_of a) (fields_of b) ids (fields_be types asked a h) (fields_be types asked b k)
    (sym (fields_read line a) ∙ ap (λ m. some_object (look (codes "fields") m)) e ∙ fields_read line b))
    (same_groups_if asked (groups_of a) (groups_of b) (groups_be types asked a h) (groups_be types asked b k)
    (sym (groups_read line a) ∙ ap (λ m. some_items (look (codes "groups") m)) e ∙ groups_read line b)) in
    sym (answer_back types asked a h) ∙ ap answer_from told ∙ answer_back types asked b k

one_outline : (ms ns : json.Members) → ◌≡◌ {A = Option json.Json} (Some (json.object ms)) (Some (json.object ns)) → ms ≡ ns
one_outline ms ns e = cc

pub different : (types : Types) (asked : List OutputKind) (line : ℕ) (a b : Answer) → IsCount line → CanBe types asked a → CanBe types asked b → report_text line a ≡ report_text line b → as_told a ≡ as_told b
unfolding line_text
different types asked line a b l h k e =
    let text = append_cancel_right (compact_text (object (members_of line a))) (compact_text (object (members_of line b))) (10 ∷ []) e in
    same_members types asked line a b h k
    (one_outline (members_outline (members_of line a)) (members_outline (members_of line b)) (sym (object_read types asked line a l h) ∙ ap json.document text ∙ object_read types asked line b l k))
