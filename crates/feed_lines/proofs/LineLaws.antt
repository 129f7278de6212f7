-- What lines are puts, updates, removes and gets.
use Rattle.std.proofs.Common.{◌≡◌, ℕ, ◌≤◌, ◌&&◌, Bool, true, false, not, List, Option, Some, is_some, Ok, refl, sym, ap, ap₂, subst, ◌∙◌, nat_lt, arith}
use Rattle.std.proofs.lemmas.Bool.Decides.{nat_tests}
use Rattle.serde_json.specs.Data.{Data, object}
use Rattle.doc_types.specs.SchemaCodes.{Types}
use Rattle.json_documents.specs.DocumentFaults.{first_name, is_unknown, is_wrong}
use Rattle.documents.specs.Fields.{Contents}
use Rattle.json_documents.specs.Json.{fields_in}
use Rattle.documents.specs.Sizes.{largest, size_of}
use Rattle.doc_updates.specs.Updates.{Changes}
use Rattle.json_documents.specs.Updates as update
use Rattle.conditions.specs.Formulas.{Formula}
use Rattle.doc_selection.specs.declared.terms.Term.{Term}
use Rattle.messages.specs.declared.operation.Operation.{Operation}
use Rattle.messages.specs.declared.operation.OpKind.{OpKind}
use Rattle.messages.specs.declared.operation.OpKind.TheVariants as kind
use Rattle.feed_lines.specs.Lines.{IsLine, IsPut, IsUpdate}
use Rattle.feed_lines.specs.Meaning.{kind_in, create_in, via_in, operation_in, data_said}
use Rattle.feed_lines.specs.Tests.{Beside, beside_of, condition_in, said_in, kinds_for}
use Rattle.feed_lines.specs.declared.command.Command.TheVariants as command
use Rattle.feed_lines.specs.declared.keys.Verb.{Verb}
use Rattle.feed_lines.specs.declared.keys.Verb.TheVariants as verb
use Rattle.feed_lines.proofs.LineTests.{Meets, means, fed, condition_is, create_is, via_is, object_from, left, right, off, none}

not_over : (k : ℕ) → nat_lt largest k ≡ false → k ≤ largest
not_over k h = grind (arith, nat_tests)

not_more : (k : ℕ) → k ≤ largest → nat_lt largest k ≡ false
not_more k le = grind (arith, nat_tests)

-- a command's operation
abbrev operation : List ℕ → OpKind → Option (Formula Term) → Bool → Operation
operation id k c e = record { id = id; kind = k; condition = c; create = e }

one_operation : (a b : Operation) (v w : Option ℕ) → command.Feed a v ≡ command.Feed b w → (a ≡ b) × (v ≡ w)
one_operation a b v w e = (cc, cc)

-- a line that meets all tests says this operation
says : (types : Types) (bits : ℕ) (v : Verb) (d : Data) (id : List ℕ) (b : Beside) (k : OpKind) (c : Option (Formula Term)) (e : Bool) (via : Option ℕ) → IsLine types v d id c e via → Meets types v d id b
    → b.condition ≡ (beside_of d).condition → b.create ≡ (beside_of d).create → b.via ≡ (beside_of d).via → kind_in types v id b.fields ≡ k
    → data_said types bits d ≡ Ok (command.Feed (operation id k c e) via)
says types bits v d id b k c e via line m same_condition same_create same_via is =
    means types bits v d id b m
    ∙ ap₂ (λ o w. Ok (command.Feed o w))
    (same _ _ _ _ _ _ is (ap (condition_in types) same_condition ∙ condition_is types v d id c e via line) (ap create_in same_create ∙ create_is types v d id c e via line))
    (ap via_in same_via ∙ via_is types v d id c e via line)
  where
    same : (k l : OpKind) (c f : Option (Formula Term)) (e g : Bool) → k ≡ l → c ≡ f → e ≡ g → operation id k c e ≡ operation id l f g
    same k l c f e g p q r = rw (p, q, r) refl

with_same : (types : Types) (v : Verb) (d : Data) (id : List ℕ) (c : Option (Formula Term)) (e : Bool) (via : Option ℕ) → IsLine types v d id c e via
    → IsLine types v d id (condition_in types (beside_of d).condition) (create_in (beside_of d).create) (via_in (beside_of d).via)
with_same types v d id c e via line =
    subst (λ x. IsLine types v d id x (create_in (beside_of d).create) (via_in (beside_of d).via)) (sym (condition_is types v d id c e via line))
    (subst (λ y. IsLine types v d id c y (via_in (beside_of d).via)) (sym (create_is types v d id c e via line))
    (subst (λ z. IsLine types v d id c e z) (sym (via_is types v d id c e via line)) line))

abbrev with_fields : Data → Option Data → Beside
with_fields d f = record { fields = f; condition = (beside_of d).condition; create = (beside_of d).create; via = (beside_of d).via }

pub means_put : (types : Types) (bits : ℕ) (d : Data) (id : List ℕ) (document : Contents) (c : Option (Formula Term)) (e : Bool) (via : Option ℕ) → IsPut types d id document c e via
    → data_said types bits d ≡ Ok (command.Feed (record { id = id; kind = kind.Put document; condition = c; create = e }) via)
means_put types bits d id document c e via p =
    says types bits verb.Put d id (with_fields d (Some (object p.said))) (kind.Put document) c e via p.line (record {
      wanted = refl;
      line = with_same types verb.Put d id c e via p.line;
      there = ap (with_fields d) p.fields;
      known = ap (λ o. not (is_some o)) p.known;
      values = ap (λ o. true && not (is_some o)) p.right;
      size = ap not (not_more _ p.small);
    }) refl refl refl (ap kind.Put (sym p.content))

pub means_update : (types : Types) (bits : ℕ) (d : Data) (id : List ℕ) (changes : Changes) (c : Option (Formula Term)) (e : Bool) (via : Option ℕ) → IsUpdate types d id changes c e via
    → data_said types bits d ≡ Ok (command.Feed (record { id = id; kind = kind.Update changes; condition = c; create = e }) via)
means_update types bits d id changes c e via p =
    says types bits verb.Update d id (with_fields d (Some (object p.said))) (kind.Update changes) c e via p.line (record {
      wanted = refl;
      line = with_same types verb.Update d id c e via p.line;
      there = ap (with_fields d) p.fields;
      known = ap (λ o. not (is_some o)) p.known;
      values = ap (λ o. true && not (is_some o)) p.right;
      size = refl;
    }) refl refl refl (ap kind.Update (sym p.content))

pub means_remove : (types : Types) (bits : ℕ) (d : Data) (id : List ℕ) (c : Option (Formula Term)) (e : Bool) (via : Option ℕ) → IsLine types verb.Remove d id c e via
    → data_said types bits d ≡ Ok (command.Feed (record { id = id; kind = kind.Remove; condition = c; create = e }) via)
means_remove types bits d id c e via p = says types bits verb.Remove d id (beside_of d) kind.Remove c e via p
    (record { wanted = refl; line = with_same types verb.Remove d id c e via p; there = refl; known = refl; values = refl; size = refl }) refl refl refl refl

pub means_get : (types : Types) (bits : ℕ) (d : Data) (id : List ℕ) (c : Option (Formula Term)) (e : Bool) (via : Option ℕ) → IsLine types verb.Get d id c e via
    → data_said types bits d ≡ Ok (command.Feed (record { id = id; kind = kind.Get; condition = c; create = e }) via)
means_get types bits d id c e via p = says types bits verb.Get d id (beside_of d) kind.Get c e via p
    (record { wanted = refl; line = with_same types verb.Get d id c e via p; there = refl; known = refl; values = refl; size = refl }) refl refl refl refl

put_from : (types : Types) (d : Data) (i : List ℕ) (b : Beside) (document : Contents) → Meets types verb.Put d i b → kind_in types verb.Put i b.fields ≡ kind.Put document
    → IsPut types d i document (condition_in types b.condition) (create_in b.create) (via_in b.via)
put_from types d i b document m k =
    let found = object_from b.fields (left _ _ m.values) in
    record {
      line = m.line;
      said = found.0;
      fields = ap (λ x. x.fields) m.there ∙ found.1;
      known = none _ (subst (λ f. not (is_some (first_name (is_unknown (kinds_for types i)) (said_in f))) ≡ true) found.1 m.known);
      right = none _ (subst (λ f. not (is_some (first_name (is_wrong (kinds_for types i)) (said_in f))) ≡ true) found.1 (right _ _ m.values));
      small = not_over _ (off _ (subst (λ f. not (nat_lt largest (size_of (fields_in (kinds_for types i) (said_in f)))) ≡ true) found.1 m.size));
      content = content document _ k ∙ ap (λ f. record { id = i; fields = fields_in (kinds_for types i) (said_in f) }) found.1;
    }
  where
    content : (a b : Contents) → kind.Put b ≡ kind.Put a → a ≡ b
    content a b e = cc

update_from : (types : Types) (d : Data) (i : List ℕ) (b : Beside) (changes : Changes) → Meets types verb.Update d i b → kind_in types verb.Update i b.fields ≡ kind.Update changes
    → IsUpdate types d i changes (condition_in types b.condition) (create_in b.create) (via_in b.via)
update_from types d i b changes m k =
    let found = object_from b.fields (left _ _ m.values) in
    record {
      line = m.line;
      said = found.0;
      fields = ap (λ x. x.fields) m.there ∙ found.1;
      known = none _ (subst (λ f. not (is_some (first_name (is_unknown (kinds_for types i)) (said_in f))) ≡ true) found.1 m.known);
      right = none _ (subst (λ f. not (is_some (first_name (update.is_wrong (kinds_for types i)) (said_in f))) ≡ true) found.1 (right _ _ m.values));
      content = content changes _ k ∙ ap (λ f. update.changes_in (kinds_for types i) (said_in f)) found.1;
    }
  where
    content : (a b : Changes) → kind.Update b ≡ kind.Update a → a ≡ b
    content a b e = cc

put_by : (types : Types) (d : Data) (v : Verb) (i : List ℕ) (b : Beside) (document : Contents) → Meets types v d i b → kind_in types v i b.fields ≡ kind.Put document
    → IsPut types d i document (condition_in types b.condition) (create_in b.create) (via_in b.via)
put_by types d verb.Put i b document m k = put_from types d i b document m k
put_by types d verb.Update i b document m k = cc
put_by types d verb.Remove i b document m k = cc
put_by types d verb.Get i b document m k = cc

update_by : (types : Types) (d : Data) (v : Verb) (i : List ℕ) (b : Beside) (changes : Changes) → Meets types v d i b → kind_in types v i b.fields ≡ kind.Update changes
    → IsUpdate types d i changes (condition_in types b.condition) (create_in b.create) (via_in b.via)
update_by types d verb.Put i b changes m k = cc
update_by types d verb.Update i b changes m k = update_from types d i b changes m k
update_by types d verb.Remove i b changes m k = cc
update_by types d verb.Get i b changes m k = cc

remove_by : (types : Types) (d : Data) (v : Verb) (i : List ℕ) (b : Beside) → Meets types v d i b → kind_in types v i b.fields ≡ kind.Remove
    → IsLine types verb.Remove d i (condition_in types b.condition) (create_in b.create) (via_in b.via)
remove_by types d verb.Put i b m k = cc
remove_by types d verb.Update i b m k = cc
remove_by types d verb.Remove i b m k = m.line
remove_by types d verb.Get i b m k = cc

get_by : (types : Types) (d : Data) (v : Verb) (i : List ℕ) (b : Beside) → Meets types v d i b → kind_in types v i b.fields ≡ kind.Get
    → IsLine types verb.Get d i (condition_in types b.condition) (create_in b.create) (via_in b.via)
get_by types d verb.Put i b m k = cc
get_by types d verb.Update i b m k = cc
get_by types d verb.Remove i b m k = cc
get_by types d verb.Get i b m k = m.line

pub put_means : (types : Types) (bits : ℕ) (d : Data) (id : List ℕ) (document : Contents) (c : Option (Formula Term)) (e : Bool) (via : Option ℕ)
    → data_said types bits d ≡ Ok (command.Feed (record { id = id; kind = kind.Put document; condition = c; create = e }) via) → IsPut types d id document c e via
put_means types bits d id document c e via h =
    let s = fed types bits d _ _ h in
    let same = one_operation (operation_in types s.v s.id s.beside) (operation id (kind.Put document) c e) (via_in s.beside.via) via s.command in
    subst (λ o. IsPut types d o.id document o.condition o.create via) same.0
    (subst (λ w. IsPut types d s.id document (condition_in types s.beside.condition) (create_in s.beside.create) w) same.1 (put_by types d s.v s.id s.beside document s.holds (ap (λ o. o.kind) same.0)))

pub update_means : (types : Types) (bits : ℕ) (d : Data) (id : List ℕ) (changes : Changes) (c : Option (Formula Term)) (e : Bool) (via : Option ℕ)
    → data_said types bits d ≡ Ok (command.Feed (record { id = id; kind = kind.Update changes; condition = c; create = e }) via) → IsUpdate types d id changes c e via
update_means types bits d id changes c e via h =
    let s = fed types bits d _ _ h in
    let same = one_operation (operation_in types s.v s.id s.beside) (operation id (kind.Update changes) c e) (via_in s.beside.via) via s.command in
    subst (λ o. IsUpdate types d o.id changes o.condition o.create via) same.0
    (subst (λ w. IsUpdate types d s.id changes (condition_in types s.beside.condition) (create_in s.beside.create) w) same.1 (update_by types d s.v s.id s.beside changes s.holds (ap (λ o. o.kind) same.0)))

pub remove_means : (types : Types) (bits : ℕ) (d : Data) (id : List ℕ) (c : Option (Formula Term)) (e : Bool) (via : Option ℕ)
    → data_said types bits d ≡ Ok (command.Feed (record { id = id; kind = kind.Remove; condition = c; create = e }) via) → IsLine types verb.Remove d id c e via
remove_means types bits d id c e via h =
    let s = fed types bits d _ _ h in
    let same = one_operation (operation_in types s.v s.id s.beside) (operation id kind.Remove c e) (via_in s.beside.via) via s.command in
    subst (λ o. IsLine types verb.Remove d o.id o.condition o.create via) same.0
    (subst (λ w. IsLine types verb.Remove d s.id (condition_in types s.beside.condition) (create_in s.beside.create) w) same.1 (remove_by types d s.v s.id s.beside s.holds (ap (λ o. o.kind) same.0)))

pub get_means : (types : Types) (bits : ℕ) (d : Data) (id : List ℕ) (c : Option (Formula Term)) (e : Bool) (via : Option ℕ)
    → data_said types bits d ≡ Ok (command.Feed (record { id = id; kind = kind.Get; condition = c; create = e }) via) → IsLine types verb.Get d id c e via
get_means types bits d id c e via h =
    let s = fed types bits d _ _ h in
    let same = one_operation (operation_in types s.v s.id s.beside) (operation id kind.Get c e) (via_in s.beside.via) via s.command in
    subst (λ o. IsLine types verb.Get d o.id o.condition o.create via) same.0
    (subst (λ w. IsLine types verb.Get d s.id (condition_in types s.beside.condition) (create_in s.beside.create) w) same.1 (get_by types d s.v s.id s.beside s.holds (ap (λ o. o.kind) same.0)))
