use Rattle.std.proofs.Common.{◌≡◌, ◌-◌, [], ◌∷◌, Some, None, sym, ap, ◌∙◌, arith, rules}
use Rattle.json.specs.Token.{Token}
use Rattle.json.specs.Json.{value, parse_map, after_end_array, read_key}
use Rattle.json.specs.Reads.{token_of}
use Rattle.json.proofs.Grammar.{value_is}
use Rattle.serde_json.specs.Data.{null, boolean, number, string, array, object, put}
use Rattle.serde_json.specs.Read.{of_json, converted}
use Rattle.serde_json.specs.View.{number_view}
use Rattle.line_values.specs.View.{view, members_view}
use Rattle.line_values.specs.declared.line_value.LineValue as LineValue
use Rattle.line_values.specs.declared.line_value.LineValue.{the_lemmas}
use Rattle.line_values.proofs.Members.{view-Array, view-Object, members_view-inserted}
use Rattle.line_values.proofs.Steps.{value_said-nothing, value_said-string, value_said-number, value_said-boolean, value_said-null, value_said-begin_array, value_said-begin_object, array_said-full, object_said-full, array_said-begun, object_said-begun, value_said-shorter}
use Rattle.line_values.proofs.Loops.{one_item_more, a_bad_item, all_items, no_key, all_members, a_bad_member, member_shorter, one_member_more}
use Rattle.line_values.proofs.tokens.+read_value.Goals as goal

-- ---- the items of an array

pub read_array-returns-then-depth-eq0-clause-fault : goal.read_array-returns-then-depth-eq0-clause-fault
read_array-returns-then-depth-eq0-clause-fault t c e = array_said-full c.args.depth c.args.reader.now c.if-depth-eq0.true

pub read_array-returns-in_err-item-clause-fault : goal.read_array-returns-in_err-item-clause-fault
read_array-returns-in_err-item-clause-fault t c e =
    let going : (after_end_array c.items.reader ≡ None) × (c.take_end_array.new.self ≡ c.items.reader) = grind arith in
    array_said-begun c.args.depth c.args.reader.now c.if-depth-eq0.false
    ∙ a_bad_item _ _ c.items.reader _ c.items.invariant going.0 (rw (← going.1) (c.read_value.ensures.fault (grind arith)))

pub read_array-items-smaller : goal.read_array-items-smaller
read_array-items-smaller t c =
    let going : (after_end_array c.items.reader ≡ None) × (c.take_end_array.new.self ≡ c.items.reader) = grind arith in
    value_said-shorter (c.args.depth - 1) c.items.reader c.read_value.new.reader (view c.in_ok-item.item) (rw (← going.1) c.in_ok-item.ensures.ok)

pub read_array-items-preserved : goal.read_array-items-preserved
read_array-items-preserved t c =
    let going : (after_end_array c.items.reader ≡ None) × (c.take_end_array.new.self ≡ c.items.reader) = grind arith in
    one_item_more _ _ c.items.reader _ c.items.invariant c.in_ok-item.item _ _ c.in_ok-push.ensures.items going.0 (rw (← going.1) c.in_ok-item.ensures.ok)

pub read_array-returns-clause-ok : goal.read_array-returns-clause-ok
read_array-returns-clause-ok t c =
    array_said-begun c.args.depth c.args.reader.now c.if-depth-eq0.false ∙ all_items _ _ c.items.reader _ c.items.invariant c.take_end_array.new.self (grind arith)

-- ---- the members of an object

pub read_object-returns-then-depth-eq0-clause-fault : goal.read_object-returns-then-depth-eq0-clause-fault
read_object-returns-then-depth-eq0-clause-fault t c e = object_said-full c.args.depth c.args.reader.now c.if-depth-eq0.true

pub read_object-returns-in_err-key-clause-fault : goal.read_object-returns-in_err-key-clause-fault
read_object-returns-in_err-key-clause-fault t c e =
    object_said-begun c.args.depth c.args.reader.now c.if-depth-eq0.false ∙ no_key _ _ c.members.reader _ c.members.invariant c.in_err-key.ensures.value

pub read_object-returns-in_err-member-clause-fault : goal.read_object-returns-in_err-member-clause-fault
read_object-returns-in_err-member-clause-fault t c e =
    let named : read_key c.members.reader ≡ Some (Some c.in-Some.key.now, c.next_key.new.self) = grind arith in
    object_said-begun c.args.depth c.args.reader.now c.if-depth-eq0.false
    ∙ a_bad_member _ _ c.members.reader _ c.members.invariant c.in-Some.key.now c.next_key.new.self named (c.read_value.ensures.fault (grind arith))

pub read_object-members-smaller : goal.read_object-members-smaller
read_object-members-smaller t c =
    let named : read_key c.members.reader ≡ Some (Some c.in-Some.key.now, c.next_key.new.self) = grind arith in
    member_shorter (c.args.depth - 1) _ c.members.reader _ c.members.invariant c.in-Some.key.now c.next_key.new.self named _ c.read_value.new.reader c.in_ok-member.ensures.ok

pub read_object-members-preserved : goal.read_object-members-preserved
read_object-members-preserved t c =
    let named : read_key c.members.reader ≡ Some (Some c.in-Some.key.now, c.next_key.new.self) = grind arith in
    let old = members_view c.members.found.items in
    let grown : members_view c.put.new.members.items ≡ put c.in-Some.key.now (view c.in_ok-member.member) old = search rules in
    one_member_more _ _ c.members.reader _ c.members.invariant c.in-Some.key.now c.next_key.new.self named _ c.read_value.new.reader _ grown c.in_ok-member.ensures.ok

pub read_object-returns-clause-ok : goal.read_object-returns-clause-ok
read_object-returns-clause-ok t c =
    object_said-begun c.args.depth c.args.reader.now c.if-depth-eq0.false ∙ all_members _ _ c.members.reader _ c.members.invariant c.next_key.new.self (grind arith)

-- ---- many members of an object

pub read_many-returns-then-depth-eq0-clause-fault : goal.read_many-returns-then-depth-eq0-clause-fault
read_many-returns-then-depth-eq0-clause-fault t c e = object_said-full c.args.depth c.args.reader.now c.if-depth-eq0.true

pub read_many-returns-in_err-key-clause-fault : goal.read_many-returns-in_err-key-clause-fault
read_many-returns-in_err-key-clause-fault t c e =
    object_said-begun c.args.depth c.args.reader.now c.if-depth-eq0.false ∙ no_key _ _ c.members.reader _ c.members.invariant c.in_err-key.ensures.value

pub read_many-returns-in_err-member-clause-fault : goal.read_many-returns-in_err-member-clause-fault
read_many-returns-in_err-member-clause-fault t c e =
    let named : read_key c.members.reader ≡ Some (Some c.in-Some.key.now, c.next_key.new.self) = grind arith in
    object_said-begun c.args.depth c.args.reader.now c.if-depth-eq0.false
    ∙ a_bad_member _ _ c.members.reader _ c.members.invariant c.in-Some.key.now c.next_key.new.self named (c.read_value.ensures.fault (grind arith))

pub read_many-members-smaller : goal.read_many-members-smaller
read_many-members-smaller t c =
    let named : read_key c.members.reader ≡ Some (Some c.in-Some.key.now, c.next_key.new.self) = grind arith in
    member_shorter (c.args.depth - 1) _ c.members.reader _ c.members.invariant c.in-Some.key.now c.next_key.new.self named _ c.read_value.new.reader c.in_ok-member.ensures.ok

pub read_many-members-preserved : goal.read_many-members-preserved
read_many-members-preserved t c =
    let named : read_key c.members.reader ≡ Some (Some c.in-Some.key.now, c.next_key.new.self) = grind arith in
    let old = members_view c.members.found.entries in
    let grown : members_view c.insert.new.self.entries ≡ put c.in-Some.key.now (view c.in_ok-member.member) old =
    ap members_view c.in_ok-insert.ensures.entries ∙ members_view-inserted c.members.found.entries c.in-Some.key c.in_ok-member.member in
    one_member_more _ _ c.members.reader _ c.members.invariant c.in-Some.key.now c.next_key.new.self named _ c.read_value.new.reader _ grown c.in_ok-member.ensures.ok

pub read_many-returns-clause-ok : goal.read_many-returns-clause-ok
read_many-returns-clause-ok t c =
    object_said-begun c.args.depth c.args.reader.now c.if-depth-eq0.false ∙ all_members _ _ c.members.reader _ c.members.invariant c.next_key.new.self (grind arith)
    ∙ ap (λ ms. Some (ms, c.next_key.new.self)) (sym c.in_ok-list.ensures.ok)

-- ---- a value

pub read_value-returns-in_err-read_array-in-BeginArray-clause-fault : goal.read_value-returns-in_err-read_array-in-BeginArray-clause-fault
read_value-returns-in_err-read_array-in-BeginArray-clause-fault t c e =
    let first : c.args.reader.now ≡ Token.begin_array ∷ c.next.new.self = c.in-Some.ensures.value ∙ ap (λ token. token_of token ∷ c.next.new.self) c.in-BeginArray.is in
    rw first (value_said-begin_array c.args.depth c.next.new.self ∙ ap (parse_map array) (c.read_array.ensures.fault (grind arith)))

pub read_value-returns-in_ok-read_array-in-BeginArray-clause-ok : goal.read_value-returns-in_ok-read_array-in-BeginArray-clause-ok
read_value-returns-in_ok-read_array-in-BeginArray-clause-ok t c =
    let first : c.args.reader.now ≡ Token.begin_array ∷ c.next.new.self = c.in-Some.ensures.value ∙ ap (λ token. token_of token ∷ c.next.new.self) c.in-BeginArray.is in
    let found = c.in_ok-read_array-in-BeginArray in
    rw first (value_said-begin_array c.args.depth c.next.new.self ∙ ap (parse_map array) found.ensures.ok ∙ ap (λ d. Some (d, c.read_array.new.reader)) (sym (view-Array found.field-0)))

pub read_value-returns-in_err-read_object-in-BeginObject-clause-fault : goal.read_value-returns-in_err-read_object-in-BeginObject-clause-fault
read_value-returns-in_err-read_object-in-BeginObject-clause-fault t c e =
    let first : c.args.reader.now ≡ Token.begin_object ∷ c.next.new.self = c.in-Some.ensures.value ∙ ap (λ token. token_of token ∷ c.next.new.self) c.in-BeginObject.is in
    rw first (value_said-begin_object c.args.depth c.next.new.self ∙ ap (parse_map object) (c.read_object.ensures.fault (grind arith)))

pub read_value-returns-in_ok-read_object-in-BeginObject-clause-ok : goal.read_value-returns-in_ok-read_object-in-BeginObject-clause-ok
read_value-returns-in_ok-read_object-in-BeginObject-clause-ok t c =
    let first : c.args.reader.now ≡ Token.begin_object ∷ c.next.new.self = c.in-Some.ensures.value ∙ ap (λ token. token_of token ∷ c.next.new.self) c.in-BeginObject.is in
    let found = c.in_ok-read_object-in-BeginObject in
    rw first (value_said-begin_object c.args.depth c.next.new.self ∙ ap (parse_map object) found.ensures.ok ∙ ap (λ d. Some (d, c.read_object.new.reader)) (sym (view-Object found.field-0)))

pub read_value-returns-in-String-clause-ok : goal.read_value-returns-in-String-clause-ok
read_value-returns-in-String-clause-ok t c =
    let found = c.in-String in
    let first : c.args.reader.now ≡ Token.string found.text.now ∷ c.next.new.self = c.in-Some.ensures.value ∙ ap (λ token. token_of token ∷ c.next.new.self) found.is in
    let seen : view (LineValue.Text found.text) ≡ string found.text.now = search (rules, the_lemmas) in
    rw first (value_said-string c.args.depth found.text.now c.next.new.self ∙ ap (λ d. Some (d, c.next.new.self)) (sym seen))

pub read_value-returns-in-Bool-clause-ok : goal.read_value-returns-in-Bool-clause-ok
read_value-returns-in-Bool-clause-ok t c =
    let found = c.in-Bool in
    let first : c.args.reader.now ≡ Token.boolean found.truth ∷ c.next.new.self = c.in-Some.ensures.value ∙ ap (λ token. token_of token ∷ c.next.new.self) found.is in
    let seen : view (LineValue.Bool found.truth) ≡ boolean found.truth = search (rules, the_lemmas) in
    rw first (value_said-boolean c.args.depth found.truth c.next.new.self ∙ ap (λ d. Some (d, c.next.new.self)) (sym seen))

pub read_value-returns-in-Null-clause-ok : goal.read_value-returns-in-Null-clause-ok
read_value-returns-in-Null-clause-ok t c =
    let found = c.in-Null in
    let first : c.args.reader.now ≡ Token.null ∷ c.next.new.self = c.in-Some.ensures.value ∙ ap (λ token. token_of token ∷ c.next.new.self) found.is in
    let seen : view LineValue.Null ≡ null = search (rules, the_lemmas) in
    rw first (value_said-null c.args.depth c.next.new.self ∙ ap (λ d. Some (d, c.next.new.self)) (sym seen))

pub read_value-returns-in-Some-number_of-clause-ok : goal.read_value-returns-in-Some-number_of-clause-ok
read_value-returns-in-Some-number_of-clause-ok t c =
    let text = c.in-Number.text.now in
    let number_is = c.in-Some-number_of.number in
    let first : c.args.reader.now ≡ Token.number text ∷ c.next.new.self = c.in-Some.ensures.value ∙ ap (λ token. token_of token ∷ c.next.new.self) c.in-Number.is in
    let seen : view (LineValue.Number number_is) ≡ number (number_view number_is) = search (rules, the_lemmas) in
    rw first (value_said-number c.args.depth text c.next.new.self ∙ rw (← c.in-Some-number_of.ensures) (ap (λ d. Some (d, c.next.new.self)) (sym seen)))

pub read_value-returns-in-None-clause-fault : goal.read_value-returns-in-None-clause-fault
read_value-returns-in-None-clause-fault t c e =
    let text = c.in-Number.text.now in
    let first : c.args.reader.now ≡ Token.number text ∷ c.next.new.self = c.in-Some.ensures.value ∙ ap (λ token. token_of token ∷ c.next.new.self) c.in-Number.is in
    rw first (value_said-number c.args.depth text c.next.new.self ∙ rw (← c.in-None.ensures))

pub read_value-returns-in_default-clause-fault : goal.read_value-returns-in_default-clause-fault
read_value-returns-in_default-clause-fault t c e =
    let over : c.args.reader.now ≡ [] = grind arith in
    rw over (value_said-nothing c.args.depth)

pub read_value-returns-in-EndObject-clause-fault : goal.read_value-returns-in-EndObject-clause-fault
read_value-returns-in-EndObject-clause-fault t c e =
    let none : value c.args.depth c.args.reader.now ≡ None = rw (value_is c.args.depth c.args.reader.now, c.in-Some.ensures.value) (grind arith) in
    ap (converted of_json) none
