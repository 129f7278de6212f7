use Rattle.std.proofs.Common.{◌<◌, length, sym, ap, subst, ◌∙◌, Option, Some, None, w64}
use Rattle.std.specs.Int.Signed.{◌≤ℤ◌}
use Rattle.std.specs.Option.{option_copied, IfNone, IfSome}
use Rattle.std.proofs.lemmas.Int.{to_z-of_z}
use Rattle.field_indexes.specs.Told.{fields_of}
use Rattle.document_rows.specs.Reading.{places_where, has_number_in}
use Rattle.node_rows.specs.Kept.{documents_in}
use Rattle.node_rows.specs.TypedRows.{TypedRows}
use Rattle.node_rows.proofs.ReadLaws.{numbers_are, no_numbers, wide_places}
use Rattle.node_rows.proofs.node_rows.NodeRows.next_value.Goals as goal

if_none : {X : Type 0} {P Q : Type 0} (o : Option X) → (P → Q) → IfNone o P → IfNone o Q
if_none None f h = f h
if_none (Some x) f h = h

if_some : {X : Type 0} {P Q : X → Type 0} (o : Option X) → ((x : X) → P x → Q x) → IfSome o P → IfSome o Q
if_some None f h = h
if_some (Some x) f h = f x h

pub returns-in-Some-clause-none : goal.returns-in-Some-clause-none
returns-in-Some-clause-none c =
    let name = c.args.type_name.now in
    let field = c.args.field.now in
    let rows = documents_in c.self.inside.rows.items in
    if_none c.next_value.result
    (λ f q low high.
    ap (λ (t : TypedRows). places_where (has_number_in name field q) t.rows) (sym c.self.view_is)
    ∙ sym (numbers_are c.self.inside.schema rows c.self.inside.indexes.types (fields_of c.self.inside.indexes.fields) name field q c.in-Some.index.now c.self.invariant.indexed c.in-Some.ensures)
    ∙ f q (subst (λ n. n ≤ℤ q) (sym (to_z-of_z w64 c.args.low c.ranges.low)) low) (subst (λ n. q ≤ℤ n) (sym (to_z-of_z w64 c.args.high c.ranges.high)) high))
    c.next_value.ensures.none

pub returns-in-Some-clause-least : goal.returns-in-Some-clause-least
returns-in-Some-clause-least c =
    let name = c.args.type_name.now in
    let field = c.args.field.now in
    let rows = documents_in c.self.inside.rows.items in
    if_some c.next_value.result
    (λ r f q low less.
    ap (λ (t : TypedRows). places_where (has_number_in name field q) t.rows) (sym c.self.view_is)
    ∙ sym (numbers_are c.self.inside.schema rows c.self.inside.indexes.types (fields_of c.self.inside.indexes.fields) name field q c.in-Some.index.now c.self.invariant.indexed c.in-Some.ensures)
    ∙ f q (subst (λ n. n ≤ℤ q) (sym (to_z-of_z w64 c.args.low c.ranges.low)) low) less)
    c.next_value.ensures.least

pub returns-in-Some-clause-ids : goal.returns-in-Some-clause-ids
returns-in-Some-clause-ids c =
    let name = c.args.type_name.now in
    let field = c.args.field.now in
    let rows = documents_in c.self.inside.rows.items in
    if_some c.next_value.result
    (λ r e.
    e ∙ numbers_are c.self.inside.schema rows c.self.inside.indexes.types (fields_of c.self.inside.indexes.fields) name field r.0 c.in-Some.index.now c.self.invariant.indexed c.in-Some.ensures
    ∙ ap (λ (t : TypedRows). places_where (has_number_in name field r.0) t.rows) c.self.view_is)
    c.next_value.ensures.ids

pub returns-in-Some-clause-wide : goal.returns-in-Some-clause-wide
returns-in-Some-clause-wide c = λ q h.
    wide_places c.self.inside.schema c.args.type_name.now c.args.field.now q (documents_in c.self.inside.rows.items) c.self.invariant.proper
    (subst (λ (t : TypedRows). 0 < length (places_where (has_number_in c.args.type_name.now c.args.field.now q) t.rows)) (sym c.self.view_is) h)

pub returns-in-None-clause-none : goal.returns-in-None-clause-none
returns-in-None-clause-none c = λ q low high.
    let name = c.args.type_name.now in
    let field = c.args.field.now in
    ap (λ (t : TypedRows). places_where (has_number_in name field q) t.rows) (sym c.self.view_is)
    ∙ no_numbers c.self.inside.schema (documents_in c.self.inside.rows.items) c.self.inside.indexes.types (fields_of c.self.inside.indexes.fields) name field q c.self.invariant.indexed (sym c.index.ensures ∙ ap option_copied c.in-None.is)

pub returns-in-None-clause-wide : goal.returns-in-None-clause-wide
returns-in-None-clause-wide c = λ q h.
    wide_places c.self.inside.schema c.args.type_name.now c.args.field.now q (documents_in c.self.inside.rows.items) c.self.invariant.proper
    (subst (λ (t : TypedRows). 0 < length (places_where (has_number_in c.args.type_name.now c.args.field.now q) t.rows)) (sym c.self.view_is) h)
