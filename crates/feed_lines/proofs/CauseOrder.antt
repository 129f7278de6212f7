-- The first cause of an operation, by what its parts say.
use Rattle.std.proofs.Common.{◌≡◌, ℕ, ◌&&◌, Bool, true, false, List, [], ◌∷◌, Option, Some, None, is_some, Ok, Err, refl, sym, ap, ap₂, subst, ◌∙◌}
use Rattle.serde_json.specs.Data.{Data, null, boolean, number, string, array, object}
use Rattle.doc_types.specs.SchemaCodes.{Types}
use Rattle.conditions.specs.Formulas.{Formula}
use Rattle.doc_selection.specs.Saying.{selection_in}
use Rattle.doc_selection.specs.declared.terms.Term.{Term}
use Rattle.messages.specs.declared.operation.OpKind.{OpKind}
use Rattle.feed_lines.specs.Meaning.{kind_in, feed_in, create_in, via_in, answer_by, kind_said, id_said, condition_by, condition_said, cause_by, fault_by, Gives}
use Rattle.feed_lines.specs.Tests.{first_cause, Beside, has_type, has_fields, has_values, has_size, has_options, has_condition, condition_in, kind_tests}
use Rattle.feed_lines.specs.declared.command.Cause.{Cause}
use Rattle.feed_lines.specs.declared.command.Cause.TheVariants as cause
use Rattle.feed_lines.specs.declared.command.Command.TheVariants as command
use Rattle.feed_lines.specs.declared.command.LineFault.{LineFault}
use Rattle.feed_lines.specs.declared.command.LineFault.TheVariants as fault
use Rattle.feed_lines.specs.declared.keys.Verb.{Verb}

abbrev of_kind : Bool → Bool → Bool → Bool → Option Cause
of_kind t f v s = first_cause ((t, cause.Type) ∷ (f, cause.Field) ∷ (v, cause.Value) ∷ (s, cause.Size) ∷ [])

abbrev of_all : Bool → Bool → Bool → Bool → Bool → Bool → Option Cause
of_all t f v o s c = first_cause ((t, cause.Type) ∷ (f, cause.Field) ∷ (v && o, cause.Value) ∷ (s, cause.Size) ∷ (c, cause.Condition) ∷ [])

-- the cause of the kind, or what comes before its size
first_of_all : (t f v o s c : Bool) (why : Cause) → of_kind t f v s ≡ Some why → of_all t f v o s c ≡ Some (cause_by o why)
first_of_all false f v true s c why e = e
first_of_all false f v false s c why e = let is : cause.Type ≡ why = cc in subst (λ w. Some cause.Type ≡ Some (cause_by false w)) is refl
first_of_all true false v true s c why e = e
first_of_all true false v false s c why e = let is : cause.Field ≡ why = cc in subst (λ w. Some cause.Field ≡ Some (cause_by false w)) is refl
first_of_all true true false true s c why e = e
first_of_all true true false false s c why e = let is : cause.Value ≡ why = cc in subst (λ w. Some cause.Value ≡ Some (cause_by false w)) is refl
first_of_all true true true true false c why e = e
first_of_all true true true false false c why e = let is : cause.Size ≡ why = cc in subst (λ w. Some cause.Value ≡ Some (cause_by false w)) is refl
first_of_all true true true o true c why e = cc

wrong_options : (t f v s c : Bool) → of_kind t f v s ≡ None → of_all t f v false s c ≡ Some cause.Value
wrong_options false f v s c e = cc
wrong_options true false v s c e = cc
wrong_options true true false s c e = cc
wrong_options true true true s c e = refl

right_options : (t f v s c : Bool) → of_kind t f v s ≡ None → of_all t f v true s c ≡ first_cause ((c, cause.Condition) ∷ [])
right_options false f v s c e = cc
right_options true false v s c e = cc
right_options true true false s c e = cc
right_options true true true false c e = cc
right_options true true true true c e = refl

no_cause : {A : Type 0} (o : Option Cause) (x y : A) → answer_by o x ≡ Ok y → (o ≡ None) × (x ≡ y)
no_cause None x y h = (refl, cc)
no_cause (Some why) x y h = cc

a_cause : {A : Type 0} (o : Option Cause) (x : A) (why : Cause) → answer_by o x ≡ Err why → o ≡ Some why
a_cause None x why h = cc
a_cause (Some w) x why h = cc

-- the fault of the kind is that of the line
pub refused_kind : (types : Types) (v : Verb) (id : List ℕ) (b : Beside) (right : Bool) (why : LineFault) → right ≡ has_options b
    → Gives {A = OpKind} (Err why) (kind_said types v id b.fields) → Gives {A = Rattle.feed_lines.specs.declared.command.Command.Command} (Err (fault_by right why)) (id_said types v id b)
refused_kind types v id b right fault.NoMemory is g = tt
refused_kind types v id b right (fault.BadLine why) is g =
    ap (λ o. answer_by o (feed_in types v id b))
    (subst (λ o. of_all (has_type types id) (has_fields types v id b.fields) (has_values types v id b.fields) o (has_size types v id b.fields) (has_condition types b.condition) ≡ Some (cause_by right why)) is
    (first_of_all (has_type types id) (has_fields types v id b.fields) (has_values types v id b.fields) right (has_size types v id b.fields) (has_condition types b.condition) why
    (a_cause (first_cause (kind_tests types v id b.fields)) (kind_in types v id b.fields) why g)))

-- a wrong `condition` or `create`
pub refused_options : (types : Types) (v : Verb) (id : List ℕ) (b : Beside) (k : OpKind) → has_options b ≡ false → kind_said types v id b.fields ≡ Ok k → id_said types v id b ≡ Err cause.Value
refused_options types v id b k wrong g =
    ap (λ o. answer_by o (feed_in types v id b))
    (subst (λ o. of_all (has_type types id) (has_fields types v id b.fields) (has_values types v id b.fields) o (has_size types v id b.fields) (has_condition types b.condition) ≡ Some cause.Value) (sym wrong)
    (wrong_options (has_type types id) (has_fields types v id b.fields) (has_values types v id b.fields) (has_size types v id b.fields) (has_condition types b.condition)
    (no_cause (first_cause (kind_tests types v id b.fields)) (kind_in types v id b.fields) k g).0))

-- what is left is the condition
left_condition : (types : Types) (v : Verb) (id : List ℕ) (b : Beside) (k : OpKind) → has_options b ≡ true → kind_said types v id b.fields ≡ Ok k
    → id_said types v id b ≡ answer_by (first_cause ((has_condition types b.condition, cause.Condition) ∷ [])) (feed_in types v id b)
left_condition types v id b k right g =
    ap (λ o. answer_by o (feed_in types v id b))
    (subst (λ o. of_all (has_type types id) (has_fields types v id b.fields) (has_values types v id b.fields) o (has_size types v id b.fields) (has_condition types b.condition) ≡ first_cause ((has_condition types b.condition, cause.Condition) ∷ [])) (sym right)
    (right_options (has_type types id) (has_fields types v id b.fields) (has_values types v id b.fields) (has_size types v id b.fields) (has_condition types b.condition)
    (no_cause (first_cause (kind_tests types v id b.fields)) (kind_in types v id b.fields) k g).0))

-- whether there is a condition, and which
record HasSaid (types : Types) (o : Option Data) (condition : Option (Formula Term)) : Type 0 where
  pub right : has_condition types o ≡ true
  pub is : condition_in types o ≡ condition

by_text : (types : Types) (text : List ℕ) (o c : Option (Formula Term)) → selection_in types text ≡ o → condition_by o ≡ Ok c → HasSaid types (Some (string text)) c
by_text types text None c e h = cc
by_text types text (Some f) c e h = let is : Some f ≡ c = cc in record { right = ap is_some e; is = e ∙ is }

said_right : (types : Types) (o : Option Data) (c : Option (Formula Term)) → condition_said types o ≡ Ok c → HasSaid types o c
said_right types None c h = let is : None ≡ c = cc in record { right = refl; is = is }
said_right types (Some null) c h = cc
said_right types (Some (boolean b)) c h = cc
said_right types (Some (number n)) c h = cc
said_right types (Some (string text)) c h = by_text types text (selection_in types text) c refl h
said_right types (Some (array ds)) c h = cc
said_right types (Some (object ms)) c h = cc

by_no_text : (types : Types) (text : List ℕ) (o : Option (Formula Term)) (why : Cause) → selection_in types text ≡ o → condition_by o ≡ Err why → (is_some (selection_in types text) ≡ false) × (why ≡ cause.Condition)
by_no_text types text None why e h = let is : cause.Condition ≡ why = cc in (ap is_some e, sym is)
by_no_text types text (Some f) why e h = cc

said_wrong : (types : Types) (o : Option Data) (why : Cause) → condition_said types o ≡ Err why → (has_condition types o ≡ false) × (why ≡ cause.Condition)
said_wrong types None why h = cc
said_wrong types (Some null) why h = let is : cause.Condition ≡ why = cc in (refl, sym is)
said_wrong types (Some (boolean b)) why h = let is : cause.Condition ≡ why = cc in (refl, sym is)
said_wrong types (Some (number n)) why h = let is : cause.Condition ≡ why = cc in (refl, sym is)
said_wrong types (Some (string text)) why h = by_no_text types text (selection_in types text) why refl h
said_wrong types (Some (array ds)) why h = let is : cause.Condition ≡ why = cc in (refl, sym is)
said_wrong types (Some (object ms)) why h = let is : cause.Condition ≡ why = cc in (refl, sym is)

pub refused_condition : (types : Types) (v : Verb) (id : List ℕ) (b : Beside) (k : OpKind) (why : LineFault) → has_options b ≡ true → kind_said types v id b.fields ≡ Ok k
    → Gives {A = Option (Formula Term)} (Err why) (condition_said types b.condition) → Gives {A = Rattle.feed_lines.specs.declared.command.Command.Command} (Err why) (id_said types v id b)
refused_condition types v id b k fault.NoMemory right g h = tt
refused_condition types v id b k (fault.BadLine why) right g h =
    let wrong = said_wrong types b.condition why h in
    left_condition types v id b k right g
    ∙ ap (λ t. answer_by (first_cause ((t, cause.Condition) ∷ [])) (feed_in types v id b)) wrong.0 ∙ ap Err (sym wrong.1)

pub whole_operation : (types : Types) (v : Verb) (id : List ℕ) (b : Beside) (k : OpKind) (c : Option (Formula Term)) (e : Bool) (via : Option ℕ) → has_options b ≡ true → kind_said types v id b.fields ≡ Ok k
    → condition_said types b.condition ≡ Ok c → e ≡ create_in b.create → via ≡ via_in b.via → id_said types v id b ≡ Ok (command.Feed (record { id = id; kind = k; condition = c; create = e }) via)
whole_operation types v id b k c e via right g h made handed =
    let said = said_right types b.condition c h in
    left_condition types v id b k right g
    ∙ ap (λ t. answer_by (first_cause ((t, cause.Condition) ∷ [])) (feed_in types v id b)) said.right
    ∙ ap₂ (λ o w. Ok (command.Feed o w)) (same _ _ _ _ _ _ (no_cause (first_cause (kind_tests types v id b.fields)) (kind_in types v id b.fields) k g).1 said.is (sym made)) (sym handed)
  where
    same : (k l : OpKind) (c f : Option (Formula Term)) (e g : Bool) → k ≡ l → c ≡ f → e ≡ g
        → ◌≡◌ {A = Rattle.messages.specs.declared.operation.Operation.Operation} (record { id = id; kind = k; condition = c; create = e }) (record { id = id; kind = l; condition = f; create = g })
    same k l c f e g p q r = rw (p, q, r) refl
