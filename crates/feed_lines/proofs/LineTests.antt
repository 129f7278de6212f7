-- A line's tests, one by one.
use Rattle.std.proofs.Common.{◌≡◌, ℕ, ◌&&◌, Bool, true, false, not, cond, List, [], ◌∷◌, Option, Some, None, is_some, is_ok, option_and_then, Ok, refl, sym, ap, ap₂, subst, ◌∙◌}
use Rattle.serde_json.specs.Data.{Data, null, boolean, number, string, array, object, Members}
use Rattle.serde_json.specs.Find.{get, as_str, as_bool}
use Rattle.doc_types.specs.SchemaCodes.{Types}
use Rattle.document_ids.specs.Parts.{parts_of}
use Rattle.feed_lines.specs.Keys.{name_of}
use Rattle.conditions.specs.Formulas.{Formula}
use Rattle.doc_selection.specs.Saying.{selection_in}
use Rattle.doc_selection.specs.declared.terms.Term.{Term}
use Rattle.feed_lines.specs.Lines.{SaysCondition, SaysCreate, SaysVia, IsLine}
use Rattle.feed_lines.specs.Meaning.{feed_in, command_in, create_in, via_in, answer_by, verb_said, data_said}
use Rattle.feed_lines.specs.Tests.{or_false, first_cause, verb_of, Beside, beside_of, has_wanted, has_right_keys, as_id, id_in, has_type, is_object_in, has_fields, has_values, has_size, is_text_if, is_truth_if, is_node_if, has_options, condition_in, has_condition, text_of, tests}
use Rattle.feed_lines.specs.declared.command.Cause.{Cause}
use Rattle.feed_lines.specs.declared.command.Cause.TheVariants as cause
use Rattle.feed_lines.specs.declared.command.Command.{Command}
use Rattle.feed_lines.specs.Values.{node_of}
use Rattle.feed_lines.specs.declared.command.Command.TheVariants as command
use Rattle.feed_lines.specs.declared.keys.Verb.{Verb}
use Rattle.feed_lines.specs.declared.keys.LineVerb.{LineVerb}
use Rattle.feed_lines.specs.declared.keys.LineVerb.TheVariants as line
use Rattle.messages.specs.declared.operation.Operation.{Operation}

pub left : (a b : Bool) → (a && b) ≡ true → a ≡ true
left true b h = refl
left false b h = cc

pub right : (a b : Bool) → (a && b) ≡ true → b ≡ true
right true b h = h
right false b h = cc

pub off : (b : Bool) → not b ≡ true → b ≡ false
off true h = cc
off false h = refl

pub none : {X : Type 0} (o : Option X) → not (is_some o) ≡ true → o ≡ None
none None h = refl
none (Some x) h = cc

first_holds : (b : Bool) (c : Cause) (ts : List (Bool × Cause)) → first_cause ((b, c) ∷ ts) ≡ None → b ≡ true
first_holds true c ts h = refl
first_holds false c ts h = cc

others_hold : (b : Bool) (c : Cause) (ts : List (Bool × Cause)) → first_cause ((b, c) ∷ ts) ≡ None → first_cause ts ≡ None
others_hold true c ts h = h
others_hold false c ts h = cc

pub some_from : {X : Type 0} (o : Option X) → is_some o ≡ true → (x : X) × (o ≡ Some x)
some_from None h = cc
some_from (Some x) h = (x, refl)

-- what all tests of an operation's line say, and what stands beside its verb
pub record Meets (types : Types) (v : Verb) (d : Data) (id : List ℕ) (b : Beside) : Type 0 where
  pub wanted : has_wanted v b.fields ≡ true
  pub line : IsLine types v d id (condition_in types b.condition) (create_in b.create) (via_in b.via)
  pub there : beside_of d ≡ b
  pub known : has_fields types v id b.fields ≡ true
  pub values : has_values types v id b.fields ≡ true
  pub size : has_size types v id b.fields ≡ true

-- what `condition` and `create` say
says_text : (types : Types) (text : List ℕ) (o : Option (Formula Term)) → selection_in types text ≡ o → is_some o ≡ true → SaysCondition types (Some (string text)) o
says_text types text None e h = cc
says_text types text (Some f) e h = (text, (refl, e))

says_condition : (types : Types) (o : Option Data) → is_text_if o ≡ true → has_condition types o ≡ true → SaysCondition types o (condition_in types o)
says_condition types None t h = refl
says_condition types (Some null) t h = cc
says_condition types (Some (boolean b)) t h = cc
says_condition types (Some (number n)) t h = cc
says_condition types (Some (string text)) t h = says_text types text (selection_in types text) refl h
says_condition types (Some (array ds)) t h = cc
says_condition types (Some (object ms)) t h = cc

-- and back
record CanSay (types : Types) (o : Option Data) (condition : Option (Formula Term)) : Type 0 where
  pub text : is_text_if o ≡ true
  pub selection : has_condition types o ≡ true
  pub same : condition_in types o ≡ condition

can_say : (types : Types) (o : Option Data) (c : Option (Formula Term)) → SaysCondition types o c → CanSay types o c
can_say types o None h = subst (λ x. CanSay types x None) (sym h) (record { text = refl; selection = refl; same = refl })
can_say types o (Some f) h = subst (λ x. CanSay types x (Some f)) (sym h.1.0) (record { text = refl; selection = ap is_some h.1.1; same = h.1.1 })

says_create : (o : Option Data) → is_truth_if o ≡ true → SaysCreate o (create_in o)
says_create None h = refl
says_create (Some null) h = cc
says_create (Some (boolean b)) h = refl
says_create (Some (number n)) h = cc
says_create (Some (string s)) h = cc
says_create (Some (array ds)) h = cc
says_create (Some (object ms)) h = cc

can_create : (o : Option Data) (create : Bool) → SaysCreate o create → (is_truth_if o ≡ true) × (create_in o ≡ create)
can_create None create h = (refl, sym h)
can_create (Some d) create h = (ap (λ x. is_some (as_bool x)) h, ap (λ x. or_false (as_bool x)) h)

says_via : (o : Option Data) → is_node_if o ≡ true → SaysVia o (via_in o)
says_via None h = refl
says_via (Some d) h = let some = some_from (node_of d) h in (some.0, (some.1, some.1))

can_via : (o : Option Data) (via : Option ℕ) → SaysVia o via → (is_node_if o ≡ true) × (via_in o ≡ via)
can_via None via h = (refl, sym h)
can_via (Some d) via h = (ap is_some h.1.0, h.1.0 ∙ sym h.1.1)

-- what a line's condition, `create` and `via` are
pub condition_is : (types : Types) (v : Verb) (d : Data) (id : List ℕ) (c : Option (Formula Term)) (e : Bool) (via : Option ℕ) → IsLine types v d id c e via → condition_in types (beside_of d).condition ≡ c
condition_is types v d id c e via line = (can_say types (beside_of d).condition c line.says_condition).same

pub create_is : (types : Types) (v : Verb) (d : Data) (id : List ℕ) (c : Option (Formula Term)) (e : Bool) (via : Option ℕ) → IsLine types v d id c e via → create_in (beside_of d).create ≡ e
create_is types v d id c e via line = (can_create (beside_of d).create e line.says_create).1

pub via_is : (types : Types) (v : Verb) (d : Data) (id : List ℕ) (c : Option (Formula Term)) (e : Bool) (via : Option ℕ) → IsLine types v d id c e via → via_in (beside_of d).via ≡ via
via_is types v d id c e via line = (can_via (beside_of d).via via line.says_via).1

id_back : (o : Option Data) (id : List ℕ) → as_id (option_and_then as_str o) ≡ Some id → (o ≡ Some (string id)) × (is_ok (parts_of id) ≡ true)
id_back None id h = cc
id_back (Some null) id h = cc
id_back (Some (boolean b)) id h = cc
id_back (Some (number n)) id h = cc
id_back (Some (array ds)) id h = cc
id_back (Some (object ms)) id h = cc
id_back (Some (string s)) id h =
    elim (is_ok (parts_of s)) as (λ b. is_ok (parts_of s) ≡ b → cond b (Some s) None ≡ Some id → (◌≡◌ {A = Option Data} (Some (string s)) (Some (string id))) × (is_ok (parts_of id) ≡ true)) [
      | true ↦ λ e same. let is : s ≡ id = cc in (ap (λ t. Some (string t)) is, rw (← is) e)
      | false ↦ λ e same. cc
    ] refl h

id_is : (v : Verb) (d : Data) (id : List ℕ) → get (name_of v) d ≡ Some (string id) → is_ok (parts_of id) ≡ true → id_in v d ≡ Some id
unfolding id_in
id_is v d id text ok = ap (λ o. as_id (option_and_then as_str o)) text ∙ ap (λ b. cond b (Some id) None) ok

id_from : (v : Verb) (d : Data) (id : List ℕ) → id_in v d ≡ Some id → (get (name_of v) d ≡ Some (string id)) × (is_ok (parts_of id) ≡ true)
unfolding id_in
id_from v d id h = id_back (get (name_of v) d) id h

each_holds : (b c e f g h i : Bool) (q r s t u w x : Cause) → first_cause ((b, q) ∷ (c, r) ∷ (e, s) ∷ (f, t) ∷ (g, u) ∷ (h, w) ∷ (i, x) ∷ []) ≡ None
    → (b ≡ true) × (c ≡ true) × (e ≡ true) × (f ≡ true) × (g ≡ true) × (h ≡ true) × (i ≡ true)
each_holds b c e f g h i q r s t u w x all =
    let h2 = others_hold b q ((c, r) ∷ (e, s) ∷ (f, t) ∷ (g, u) ∷ (h, w) ∷ (i, x) ∷ []) all in
    let h3 = others_hold c r ((e, s) ∷ (f, t) ∷ (g, u) ∷ (h, w) ∷ (i, x) ∷ []) h2 in
    let h4 = others_hold e s ((f, t) ∷ (g, u) ∷ (h, w) ∷ (i, x) ∷ []) h3 in
    let h5 = others_hold f t ((g, u) ∷ (h, w) ∷ (i, x) ∷ []) h4 in
    let h6 = others_hold g u ((h, w) ∷ (i, x) ∷ []) h5 in
    let h7 = others_hold h w ((i, x) ∷ []) h6 in (
      first_holds b q ((c, r) ∷ (e, s) ∷ (f, t) ∷ (g, u) ∷ (h, w) ∷ (i, x) ∷ []) all,
      first_holds c r ((e, s) ∷ (f, t) ∷ (g, u) ∷ (h, w) ∷ (i, x) ∷ []) h2,
      first_holds e s ((f, t) ∷ (g, u) ∷ (h, w) ∷ (i, x) ∷ []) h3,
      first_holds f t ((g, u) ∷ (h, w) ∷ (i, x) ∷ []) h4,
      first_holds g u ((h, w) ∷ (i, x) ∷ []) h5,
      first_holds h w ((i, x) ∷ []) h6,
      first_holds i x ([]) h7,
    )

-- the tests all hold, so each does
pub meets : (types : Types) (bits : ℕ) (v : Verb) (d : Data) → verb_of d ≡ Some (line.Feed v) → first_cause (tests types bits (line.Feed v) d) ≡ None → Meets types v d (text_of (id_in v d)) (beside_of d)
meets types bits v d verb h =
    let b = beside_of d in
    let id = text_of (id_in v d) in
    let each = each_holds (has_right_keys (line.Feed v) d) (is_some (id_in v d)) (has_type types id) (has_fields types v id b.fields)
    (has_values types v id b.fields && has_options b) (has_size types v id b.fields) (has_condition types b.condition)
    cause.Key cause.Id cause.Type cause.Field cause.Value cause.Size cause.Condition h in
    let some = some_from (id_in v d) each.1 in
    let text = ap text_of some.1 in
    let from = id_from v d some.0 some.1 in
    let options = right _ _ each.4 in
    record {
      wanted = right _ _ each.0;
      line = record {
        has_verb = record { verb = verb; keys = left _ _ each.0 };
        text = from.0 ∙ ap (λ t. Some (string t)) (sym text);
        is_id = ap (λ t. is_ok (parts_of t)) text ∙ from.1;
        typed = each.2;
        says_condition = says_condition types b.condition (left _ _ (left _ _ options)) each.6;
        says_create = says_create b.create (right _ _ (left _ _ options));
        says_via = says_via b.via (right _ _ options);
      };
      there = refl;
      known = each.3;
      values = left _ _ each.4;
      size = each.5;
    }

all_hold : (b c e f g h i : Bool) (q r s t u w x : Cause) → b ≡ true → c ≡ true → e ≡ true → f ≡ true → g ≡ true → h ≡ true → i ≡ true
    → first_cause ((b, q) ∷ (c, r) ∷ (e, s) ∷ (f, t) ∷ (g, u) ∷ (h, w) ∷ (i, x) ∷ []) ≡ None
all_hold b c e f g h i q r s t u w x hb hc he hf hg hh hi = rw (hb, hc, he, hf, hg, hh, hi) refl

-- each test holds, so the line says its command
pub means : (types : Types) (bits : ℕ) (v : Verb) (d : Data) (id : List ℕ) (b : Beside) → Meets types v d id b → data_said types bits d ≡ Ok (feed_in types v id b)
means types bits v d id b m =
    let i = id_is v d id m.line.text m.line.is_id in
    let own = beside_of d in
    let said = can_say types own.condition (condition_in types b.condition) m.line.says_condition in
    let made = can_create own.create (create_in b.create) m.line.says_create in
    let handed = can_via own.via (via_in b.via) m.line.says_via in
    let all = all_hold (has_right_keys (line.Feed v) d) (is_some (id_in v d)) (has_type types (text_of (id_in v d))) (has_fields types v (text_of (id_in v d)) own.fields)
    (has_values types v (text_of (id_in v d)) own.fields && has_options own) (has_size types v (text_of (id_in v d)) own.fields) (has_condition types own.condition)
    cause.Key cause.Id cause.Type cause.Field cause.Value cause.Size cause.Condition
    (ap₂ (λ a f. a && has_wanted v f.fields) m.line.has_verb.keys m.there ∙ m.wanted)
    (ap is_some i)
    (ap (λ o. has_type types (text_of o)) i ∙ m.line.typed)
    (ap₂ (λ o f. has_fields types v (text_of o) f.fields) i m.there ∙ m.known)
    (ap₂ (λ x y. x && y) (ap₂ (λ o f. has_values types v (text_of o) f.fields) i m.there ∙ m.values) (ap₂ (λ x y. x && y) (ap₂ (λ x y. x && y) said.text made.0) handed.0))
    (ap₂ (λ o f. has_size types v (text_of o) f.fields) i m.there ∙ m.size)
    said.selection in
    ap (verb_said types bits d) m.line.has_verb.verb ∙ ap (λ c. answer_by c (feed_in types v (text_of (id_in v d)) own)) all
    ∙ ap₂ (λ o f. Ok (feed_in types v (text_of o) f)) i m.there

no_cause : (o : Option Cause) (x c : Command) → answer_by o x ≡ Ok c → (o ≡ None) × (x ≡ c)
no_cause None x c h = (refl, cc)
no_cause (Some why) x c h = cc

-- a line that says a command meets all tests of some verb
pub record Said (types : Types) (bits : ℕ) (d : Data) (c : Command) : Type 0 where
  pub v : LineVerb
  pub verb : verb_of d ≡ Some v
  pub holds : first_cause (tests types bits v d) ≡ None
  pub command : command_in types bits v d ≡ c

said_by : (types : Types) (bits : ℕ) (d : Data) (c : Command) (o : Option LineVerb) → verb_of d ≡ o → verb_said types bits d o ≡ Ok c → Said types bits d c
said_by types bits d c None verb h = cc
said_by types bits d c (Some v) verb h =
    let found = no_cause (first_cause (tests types bits v d)) _ c h in
    record { v = v; verb = verb; holds = found.0; command = found.1 }

pub said : (types : Types) (bits : ℕ) (d : Data) (c : Command) → data_said types bits d ≡ Ok c → Said types bits d c
said types bits d c h = said_by types bits d c (verb_of d) refl h

-- and back
pub says : (types : Types) (bits : ℕ) (v : LineVerb) (d : Data) → verb_of d ≡ Some v → first_cause (tests types bits v d) ≡ None → data_said types bits d ≡ Ok (command_in types bits v d)
says types bits v d verb holds = ap (verb_said types bits d) verb ∙ ap (λ c. answer_by c (command_in types bits v d)) holds

-- a line that says an operation meets all tests of an operation's verb
pub record Fed (types : Types) (d : Data) (c : Command) : Type 0 where
  pub v : Verb
  pub id : List ℕ
  pub beside : Beside
  pub holds : Meets types v d id beside
  pub command : feed_in types v id beside ≡ c

fed_by : (types : Types) (bits : ℕ) (d : Data) (o : Operation) (via : Option ℕ) (v : LineVerb) → verb_of d ≡ Some v → first_cause (tests types bits v d) ≡ None
    → command_in types bits v d ≡ command.Feed o via → Fed types d (command.Feed o via)
fed_by types bits d o via (line.Feed v) verb holds is =
    record { v = v; id = text_of (id_in v d); beside = beside_of d; holds = meets types bits v d verb holds; command = is }
fed_by types bits d o via line.Search verb holds is = cc
fed_by types bits d o via line.State verb holds is = cc
fed_by types bits d o via line.Stop verb holds is = cc
fed_by types bits d o via line.Start verb holds is = cc
fed_by types bits d o via line.Net verb holds is = cc
fed_by types bits d o via line.Maintain verb holds is = cc
fed_by types bits d o via line.Barrier verb holds is = cc

pub fed : (types : Types) (bits : ℕ) (d : Data) (o : Operation) (via : Option ℕ) → data_said types bits d ≡ Ok (command.Feed o via) → Fed types d (command.Feed o via)
fed types bits d o via h = let s = said types bits d _ h in fed_by types bits d o via s.v s.verb s.holds s.command

pub object_from : (f : Option Data) → is_object_in f ≡ true → (ms : Members) × (f ≡ Some (object ms))
object_from None h = cc
object_from (Some null) h = cc
object_from (Some (boolean b)) h = cc
object_from (Some (number n)) h = cc
object_from (Some (string s)) h = cc
object_from (Some (array ds)) h = cc
object_from (Some (object ms)) h = (ms, refl)
