-- A report is one object with rising keys.
use Rattle.std.proofs.Common.{◌≡◌, ℕ, ◌≤◌, ℤ, pos, negsuc, true, List, [], ◌∷◌, Option, Some, None, refl, sym, ap, ◌∙◌, arith, map}
use Rattle.std.specs.FinMap as fin
use Rattle.std.specs.List.{AllByRecursion}
use Rattle.json.specs.Json as json
use Rattle.json.specs.Tree.{depth, items_depth, members_depth, HasNumbers, ItemsHaveNumbers, MembersHaveNumbers}
use Rattle.json.proofs.Printed.Decimals.{IsNumber-decimal, IsNumber-signed_decimal}
use Rattle.json.proofs.Printed.Trees.{document-print}
use Rattle.serde_json.specs.Data.{object, string, Members}
use Rattle.serde_json.specs.Written.{compact_text, outline, items_outline, members_outline}
use Rattle.serde_json.specs.View.{items_of}
use Rattle.serde_json.proofs.Texts.{print-outline}
use Rattle.stamps.specs.declared.stamp.Stamp.{Stamp}
use Rattle.doc_types.specs.SchemaCodes.{Types}
use Rattle.doc_types.specs.declared.outputs.OutputKind.{OutputKind}
use Rattle.doc_types.specs.declared.outputs.OutputKind.TheVariants.{Count, Sum, Min, Max}
use Rattle.doc_types.specs.declared.values.FieldValue.{FieldValue}
use Rattle.doc_types.specs.declared.values.FieldValue.TheVariants.{Int, Text, Ints, Texts}
use Rattle.json_documents.specs.Json.{number_json, value_json, members_json}
use Rattle.doc_updates.specs.declared.fault.UpdateFault.TheVariants as fault
use Rattle.query_groups.specs.declared.answers.Group.{Group}
use Rattle.query_groups.specs.declared.answers.Output.{Output}
use Rattle.reports.specs.GroupText.{output_key, number_or_null, digits_or_null, output_json, with_outputs, group_members, groups_json}
use Rattle.reports.specs.ReportText.{line_text, acked_members, found_members, seen_of, missing_members, condition_failed_members, nothing_members, field_fault_members, size_fault_members, result_members, too_few_members, owned_elsewhere_members, bad_line_members, search_members, published_members, not_newer_members, too_few_up_members, too_many_out_members, count_members, planned_members, maintained_members, members_of, report_text}
use Rattle.reports.specs.Telling.{are_rising, IsOneObject, IsCount, IsInt, IsLong, IsLongIf, HasInts, IsGroupValue, IsGroup, CanBe}
use Rattle.reports.specs.declared.answer.Answer.{Answer}
use Rattle.reports.specs.declared.answer.Answer.TheVariants as answer
use Rattle.reports.proofs.WideNumbers.{number_text}
use Rattle.reports.proofs.Putting.{put_rises, put_numbers, put_depth}

-- ---- the values of a document

int_text : (z : ℤ) → IsInt z → HasNumbers (outline (number_json z))
int_text (pos n) h = IsNumber-decimal n (omega arith)
int_text (negsuc n) h = IsNumber-signed_decimal (negsuc n) h

ints_text : (zs : List ℤ) → AllByRecursion IsInt zs → ItemsHaveNumbers (items_outline (items_of (map number_json zs)))
ints_text [] h = tt
ints_text (z ∷ zs) h = (int_text z h.0, ints_text zs h.1)

texts_text : (ts : List (List ℕ)) → ItemsHaveNumbers (items_outline (items_of (map string ts)))
texts_text [] = tt
texts_text (t ∷ ts) = (tt, texts_text ts)

value_text : (v : FieldValue) → HasInts v → HasNumbers (outline (value_json v))
value_text (Int z) h = int_text z h
value_text (Text t) h = tt
value_text (Ints zs) h = ints_text zs h
value_text (Texts ts) h = texts_text ts

pub fields_text : (es : List (List ℕ × FieldValue)) → AllByRecursion (λ e. HasInts e.1) es → MembersHaveNumbers (members_outline (members_json es))
fields_text [] h = tt
fields_text (e ∷ es) h = (value_text e.1 h.0, fields_text es h.1)

flat_ints : (zs : List ℤ) → items_depth (items_outline (items_of (map number_json zs))) ≡ 0
flat_ints [] = refl
flat_ints (z ∷ zs) = omega (arith, flat_ints zs)

flat_texts : (ts : List (List ℕ)) → items_depth (items_outline (items_of (map string ts))) ≡ 0
flat_texts [] = refl
flat_texts (t ∷ ts) = omega (arith, flat_texts ts)

value_depth : (v : FieldValue) → depth (outline (value_json v)) ≤ 1
value_depth (Int z) = omega arith
value_depth (Text t) = omega arith
value_depth (Ints zs) = omega (arith, flat_ints zs)
value_depth (Texts ts) = omega (arith, flat_texts ts)

pub fields_depth : (es : List (List ℕ × FieldValue)) → members_depth (members_outline (members_json es)) ≤ 1
fields_depth [] = omega arith
fields_depth (e ∷ es) = omega (arith, value_depth e.1, fields_depth es)

-- ---- groups

long_text : (z : ℤ) → IsLong z → HasNumbers (outline (number_json z))
long_text (pos n) h = number_text (pos n) h
long_text (negsuc n) h = number_text (negsuc n) h

number_or_text : (v : Option ℤ) → IsLongIf v → HasNumbers (outline (number_or_null v))
number_or_text None h = tt
number_or_text (Some z) h = long_text z h

digits_text : (v : Option ℤ) → HasNumbers (outline (digits_or_null v))
digits_text None = tt
digits_text (Some z) = tt

output_text : (o : OutputKind) (v : Option ℤ) → IsLongIf v → HasNumbers (outline (output_json o v))
output_text Count v h = number_or_text v h
output_text (Sum field) v h = digits_text v
output_text (Min field) v h = number_or_text v h
output_text (Max field) v h = number_or_text v h

outputs_text : (os : List Output) (ms : Members) → AllByRecursion (λ (o : Output). IsLongIf o.value) os → MembersHaveNumbers (members_outline ms) → MembersHaveNumbers (members_outline (with_outputs os ms))
outputs_text [] ms h n = n
outputs_text (o ∷ os) ms h n = outputs_text os _ h.1 (put_numbers (output_key o.kind) (output_json o.kind o.value) ms (output_text o.kind o.value h.0) n)

group_value_text : (v : FieldValue) → IsGroupValue v → HasNumbers (outline (value_json v))
group_value_text (Int z) h = int_text z h
group_value_text (Text t) h = tt
group_value_text (Ints zs) h = absurd h
group_value_text (Texts ts) h = absurd h

groups_text : (asked : List OutputKind) (gs : List Group) → AllByRecursion (IsGroup asked) gs → ItemsHaveNumbers (items_outline (items_of (groups_json gs)))
groups_text asked [] h = tt
groups_text asked (g ∷ gs) h = (outputs_text g.outputs _ h.0.numbers (group_value_text g.value h.0.value, tt), groups_text asked gs h.1)

number_depth : (v : Option ℤ) → depth (outline (number_or_null v)) ≤ 1
number_depth None = omega arith
number_depth (Some z) = omega arith

digits_depth : (v : Option ℤ) → depth (outline (digits_or_null v)) ≤ 1
digits_depth None = omega arith
digits_depth (Some z) = omega arith

output_depth : (o : OutputKind) (v : Option ℤ) → depth (outline (output_json o v)) ≤ 1
output_depth Count v = number_depth v
output_depth (Sum field) v = digits_depth v
output_depth (Min field) v = number_depth v
output_depth (Max field) v = number_depth v

outputs_depth : (os : List Output) (ms : Members) → members_depth (members_outline ms) ≤ 1 → members_depth (members_outline (with_outputs os ms)) ≤ 1
outputs_depth [] ms h = h
outputs_depth (o ∷ os) ms h = outputs_depth os _ (put_depth (output_key o.kind) (output_json o.kind o.value) ms (output_depth o.kind o.value) h)

group_depth : (g : Group) → members_depth (members_outline (group_members g)) ≤ 1
group_depth g = outputs_depth g.outputs _ (omega (arith, value_depth g.value))

groups_depth : (gs : List Group) → items_depth (items_outline (items_of (groups_json gs))) ≤ 2
groups_depth [] = omega arith
groups_depth (g ∷ gs) = omega (arith, group_depth g, groups_depth gs)

outputs_rise : (os : List Output) (ms : Members) → are_rising ms ≡ true → are_rising (with_outputs os ms) ≡ true
outputs_rise [] ms h = h
outputs_rise (o ∷ os) ms h = outputs_rise os _ (put_rises (output_key o.kind) (output_json o.kind o.value) ms h)

pub groups_rise : (g : Group) → are_rising (group_members g) ≡ true
groups_rise g = outputs_rise g.outputs _ refl

-- ---- the numbers of a report

seen_text : (seen : Option Stamp) → HasNumbers (outline (seen_of seen))
seen_text None = tt
seen_text (Some stamp) = tt

pub have_numbers : (types : Types) (asked : List OutputKind) (line : ℕ) (a : Answer) → IsCount line → CanBe types asked a → MembersHaveNumbers (members_outline (members_of line a))
unfolding acked_members found_members missing_members condition_failed_members nothing_members field_fault_members size_fault_members result_members too_few_members owned_elsewhere_members bad_line_members search_members published_members not_newer_members too_few_up_members too_many_out_members count_members planned_members maintained_members
have_numbers types asked line (answer.Acked stamp) l h = (IsNumber-decimal line l, (tt, (tt, tt)))
have_numbers types asked line (answer.Found id document stamp) l h = (fields_text (fin.entries document.fields) h.0.ints, (tt, (IsNumber-decimal line l, (tt, (tt, tt)))))
have_numbers types asked line (answer.Missing seen) l h = (IsNumber-decimal line l, (tt, (seen_text seen, tt)))
have_numbers types asked line answer.Nothing l h = (tt, (IsNumber-decimal line l, (tt, tt)))
have_numbers types asked line (answer.ConditionFailed seen) l h = (IsNumber-decimal line l, (tt, (seen_text seen, tt)))
have_numbers types asked line (answer.BadUpdate (fault.ZeroDivisor field)) l h = (tt, (tt, (IsNumber-decimal line l, (tt, tt))))
have_numbers types asked line (answer.BadUpdate (fault.Overflow field)) l h = (tt, (tt, (IsNumber-decimal line l, (tt, tt))))
have_numbers types asked line (answer.BadUpdate (fault.TooMany field)) l h = (tt, (tt, (IsNumber-decimal line l, (tt, tt))))
have_numbers types asked line (answer.BadUpdate (fault.TooLarge size)) l h = (tt, (IsNumber-decimal line l, (tt, (IsNumber-decimal size h, tt))))
have_numbers types asked line (answer.BadUpdate fault.NoMemory) l h = absurd h
have_numbers types asked line (answer.TooFew answered needed absent) l h = (IsNumber-decimal absent h.2, (IsNumber-decimal answered h.0, (IsNumber-decimal line l, (IsNumber-decimal needed h.1, (tt, tt)))))
have_numbers types asked line (answer.OwnedElsewhere owner version) l h = (IsNumber-decimal line l, (IsNumber-decimal owner h.0, (tt, (IsNumber-decimal version h.1, tt))))
have_numbers types asked line answer.NoMemory l h = (IsNumber-decimal line l, (tt, tt))
have_numbers types asked line (answer.BadLine why) l h = (tt, (IsNumber-decimal line l, (tt, tt)))
have_numbers types asked line answer.TooLong l h = (IsNumber-decimal line l, (tt, tt))
have_numbers types asked line (answer.Search found) l h =
    (IsNumber-decimal found.count h.count, (IsNumber-decimal found.covered h.covered, (tt, (groups_text asked found.groups h.groups, (IsNumber-decimal line l, (tt, (IsNumber-decimal found.version h.version, tt)))))))
have_numbers types asked line (answer.BadQuery offset) l h = (IsNumber-decimal line l, (IsNumber-decimal offset h, (tt, tt)))
have_numbers types asked line (answer.Published version) l h = (IsNumber-decimal line l, (tt, (IsNumber-decimal version h, tt)))
have_numbers types asked line (answer.BadState offset) l h = (IsNumber-decimal line l, (IsNumber-decimal offset h, (tt, tt)))
have_numbers types asked line (answer.NotNewer have) l h = (IsNumber-decimal have h, (IsNumber-decimal line l, (tt, tt)))
have_numbers types asked line answer.NoDistributor l h = (IsNumber-decimal line l, (tt, tt))
have_numbers types asked line (answer.TooFewUp up acks) l h = (IsNumber-decimal acks h.1, (IsNumber-decimal line l, (tt, (IsNumber-decimal up h.0, tt))))
have_numbers types asked line (answer.TooManyOut out acks) l h = (IsNumber-decimal acks h.1, (IsNumber-decimal line l, (IsNumber-decimal out h.0, (tt, tt))))
have_numbers types asked line (answer.Stopped node) l h = (IsNumber-decimal line l, (IsNumber-decimal node h, (tt, tt)))
have_numbers types asked line (answer.Started node) l h = (IsNumber-decimal line l, (IsNumber-decimal node h, (tt, tt)))
have_numbers types asked line (answer.Planned taken) l h = (IsNumber-decimal line l, (tt, (tt, tt)))
have_numbers types asked line answer.Barrier l h = (IsNumber-decimal line l, (tt, tt))
have_numbers types asked line (answer.Maintained lanes rested blocked disturbed) l h = (IsNumber-decimal blocked h.2, (IsNumber-decimal disturbed h.3, (IsNumber-decimal lanes h.0, (IsNumber-decimal line l, (IsNumber-decimal rested h.1, (tt, tt))))))

seen_depth : (seen : Option Stamp) → depth (outline (seen_of seen)) ≡ 0
seen_depth None = refl
seen_depth (Some stamp) = refl

pub is_shallow : (line : ℕ) (a : Answer) → members_depth (members_outline (members_of line a)) ≤ 3
unfolding acked_members found_members missing_members condition_failed_members nothing_members field_fault_members size_fault_members result_members too_few_members owned_elsewhere_members bad_line_members search_members published_members not_newer_members too_few_up_members too_many_out_members count_members planned_members maintained_members
is_shallow line (answer.Acked stamp) = omega arith
is_shallow line (answer.Found id document stamp) = omega (arith, fields_depth (fin.entries document.fields))
is_shallow line (answer.Missing seen) = omega (arith, seen_depth seen)
is_shallow line answer.Nothing = omega arith
is_shallow line (answer.ConditionFailed seen) = omega (arith, seen_depth seen)
is_shallow line (answer.BadUpdate (fault.ZeroDivisor field)) = omega arith
is_shallow line (answer.BadUpdate (fault.Overflow field)) = omega arith
is_shallow line (answer.BadUpdate (fault.TooMany field)) = omega arith
is_shallow line (answer.BadUpdate (fault.TooLarge size)) = omega arith
is_shallow line (answer.BadUpdate fault.NoMemory) = omega arith
is_shallow line (answer.TooFew answered needed absent) = omega arith
is_shallow line (answer.OwnedElsewhere owner version) = omega arith
is_shallow line answer.NoMemory = omega arith
is_shallow line (answer.BadLine why) = omega arith
is_shallow line answer.TooLong = omega arith
is_shallow line (answer.Search found) = omega (arith, groups_depth found.groups)
is_shallow line (answer.BadQuery offset) = omega arith
is_shallow line (answer.Published version) = omega arith
is_shallow line (answer.BadState offset) = omega arith
is_shallow line (answer.NotNewer have) = omega arith
is_shallow line answer.NoDistributor = omega arith
is_shallow line (answer.TooFewUp up acks) = omega arith
is_shallow line (answer.TooManyOut out acks) = omega arith
is_shallow line (answer.Stopped node) = omega arith
is_shallow line (answer.Started node) = omega arith
is_shallow line (answer.Planned taken) = omega arith
is_shallow line answer.Barrier = omega arith
is_shallow line (answer.Maintained lanes rested blocked disturbed) = omega arith

pub is_rising : (line : ℕ) (a : Answer) → are_rising (members_of line a) ≡ true
unfolding acked_members found_members missing_members condition_failed_members nothing_members field_fault_members size_fault_members result_members too_few_members owned_elsewhere_members bad_line_members search_members published_members not_newer_members too_few_up_members too_many_out_members count_members planned_members maintained_members
is_rising line (answer.Acked stamp) = refl
is_rising line (answer.Found id document stamp) = refl
is_rising line (answer.Missing seen) = refl
is_rising line answer.Nothing = refl
is_rising line (answer.ConditionFailed seen) = refl
is_rising line (answer.BadUpdate (fault.ZeroDivisor field)) = refl
is_rising line (answer.BadUpdate (fault.Overflow field)) = refl
is_rising line (answer.BadUpdate (fault.TooMany field)) = refl
is_rising line (answer.BadUpdate (fault.TooLarge size)) = refl
is_rising line (answer.BadUpdate fault.NoMemory) = refl
is_rising line (answer.TooFew answered needed absent) = refl
is_rising line (answer.OwnedElsewhere owner version) = refl
is_rising line answer.NoMemory = refl
is_rising line (answer.BadLine why) = refl
is_rising line answer.TooLong = refl
is_rising line (answer.Search found) = refl
is_rising line (answer.BadQuery offset) = refl
is_rising line (answer.Published version) = refl
is_rising line (answer.BadState offset) = refl
is_rising line (answer.NotNewer have) = refl
is_rising line answer.NoDistributor = refl
is_rising line (answer.TooFewUp up acks) = refl
is_rising line (answer.TooManyOut out acks) = refl
is_rising line (answer.Stopped node) = refl
is_rising line (answer.Started node) = refl
is_rising line (answer.Planned taken) = refl
is_rising line answer.Barrier = refl
is_rising line (answer.Maintained lanes rested blocked disturbed) = refl

-- ---- the bytes

pub object_read : (types : Types) (asked : List OutputKind) (line : ℕ) (a : Answer) → IsCount line → CanBe types asked a → json.document (compact_text (object (members_of line a))) ≡ Some (json.object (members_outline (members_of line a)))
object_read types asked line a l h =
    ap json.document (sym (print-outline (object (members_of line a))))
    ∙ document-print (json.object (members_outline (members_of line a))) (have_numbers types asked line a l h) (omega (arith, is_shallow line a))

pub one_object : (types : Types) (asked : List OutputKind) (line : ℕ) (a : Answer) → IsCount line → CanBe types asked a → IsOneObject (report_text line a) (members_of line a)
unfolding line_text
one_object types asked line a l h = record { text = compact_text (object (members_of line a)); line = refl; object = object_read types asked line a l h; rising = is_rising line a }
