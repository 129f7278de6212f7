-- How a node that took messages goes on.
use Rattle.std.proofs.Common.{◌≡◌, ◌⊎◌, inl, inr, ◌<◌, ◌≤◌, ◌+◌, ◌^◌, ℕ, List, [], ◌∷◌, ◌++◌, nat_lt, true, false, cond, refl, sym, ◌∙◌, ap, subst, arith}
use Rattle.std.proofs.lemmas.Bool.Decides.{nat_tests}
use Rattle.node_model.specs.Nodes.{Node, new_node, adopt, after_body}
use Rattle.node_model.specs.Takes.{Takes, Treats, told, HasRoom, IsInside}
use Rattle.doc_types.specs.SchemaCodes.{Types}
use Rattle.message_texts.specs.Fitting.{FitsBody}
use Rattle.messages.specs.declared.message.Message.{Message}
use Rattle.messages.specs.declared.body.Body.{Body}
use Rattle.messages.specs.declared.body.Body.TheVariants as body
use Rattle.messages.specs.declared.reply.Reply.{Reply}
use Rattle.messages.specs.declared.reply.Reply.TheVariants as reply
use Rattle.pieces.specs.Told.{Told}
use Rattle.node_journal.specs.Lives.{is_accepted, treated, after, after_all, IsLive, is_wanting, is_recorded}

-- greater versions, one after the other
adopt_on : (n : Node) (v w : ℕ) → v ≤ w → adopt w (adopt v n) ≡ adopt w n
adopt_on n v w le = grind (arith, nat_tests)

-- one of the node's version or a smaller one
adopt_same : (n : Node) → adopt n.version n ≡ n
adopt_same n = grind (arith, nat_tests)

adopt_version : (n : Node) (v : ℕ) → n.version ≤ v → (adopt v n).version ≡ v
adopt_version n v le = grind (arith, nat_tests)

after_new : (m : Message) (n : Node) → n.version ≤ m.version → after m n ≡ treated m.body (adopt m.version n)
after_new m n le = grind (arith, nat_tests)

pub all_more : (ms : List Message) (m : Message) (n : Node) → after_all (ms ++ m ∷ []) n ≡ after m (after_all ms n)
all_more [] m n = refl
all_more (k ∷ ms) m n = all_more ms m (after k n)

pub live_new : IsLive [] new_node
live_new = record { version = omega arith; is = sym (adopt_same new_node) }

-- a node that took just these messages
pub live_is : (ms : List Message) (n : Node) → n ≡ after_all ms new_node → IsLive ms n
live_is ms n is = record {
  version = subst (λ (k : Node). k.version ≤ n.version) is (omega arith);
  is = sym (adopt_same n) ∙ ap (adopt n.version) is;
}

treated_is : (b : Body) (old new : Node) (r : Reply) → is_recorded r ≡ true → Treats old b new r → new ≡ treated b old
treated_is b old new (reply.Answer ps es) here t = t.1.1.1 ∙ sym (ap (λ (x : Told). cond (is_accepted x) (after_body b old) old) t.0)
treated_is b old new (reply.Newer v) here t = absurd t
treated_is b old new reply.NoBucket here t = t.1 ∙ sym (ap (λ (x : Told). cond (is_accepted x) (after_body b old) old) t.0)
treated_is b old new reply.Differs here t = t.1 ∙ sym (ap (λ (x : Told). cond (is_accepted x) (after_body b old) old) t.0)
treated_is b old new reply.NoMemory here t = cc

wanting_is : (b : Body) (old new : Node) (r : Reply) → is_recorded r ≡ false → Treats old b new r → new ≡ old
wanting_is b old new (reply.Answer ps es) here t = cc
wanting_is b old new (reply.Newer v) here t = absurd t
wanting_is b old new reply.NoBucket here t = cc
wanting_is b old new reply.Differs here t = cc
wanting_is b old new reply.NoMemory here t = t.1

-- what a live node adopts is what one that took the messages adopts
live_adopt : (ms : List Message) (n : Node) (v : ℕ) → IsLive ms n → n.version ≤ v → adopt v n ≡ adopt v (after_all ms new_node)
live_adopt ms n v live le = ap (adopt v) live.is ∙ adopt_on (after_all ms new_node) n.version v le

-- a recorded message
pub live_more : (ms : List Message) (old new : Node) (m : Message) (r : Reply) → IsLive ms old → old.version ≤ m.version → Takes old m new r → is_recorded r ≡ true → IsLive (ms ++ m ∷ []) new
live_more ms old new m r live le takes here = live_is (ms ++ m ∷ []) new (
    treated_is m.body (adopt m.version old) new r here (takes.treated le)
    ∙ ap (treated m.body) (live_adopt ms old m.version live le)
    ∙ sym (after_new m (after_all ms new_node) (omega (arith, live.version, le)))
    ∙ sym (all_more ms m new_node))

-- one for which memory was wanting
pub live_wanting : (ms : List Message) (old new : Node) (m : Message) (r : Reply) → IsLive ms old → old.version ≤ m.version → Takes old m new r → is_recorded r ≡ false → IsLive ms new
live_wanting ms old new m r live le takes here =
    let same = wanting_is m.body (adopt m.version old) new r here (takes.treated le) ∙ live_adopt ms old m.version live le in
    let base : (after_all ms new_node).version ≤ m.version = omega (arith, live.version, le) in
    let v : new.version ≡ m.version = ap (λ (k : Node). k.version) same ∙ adopt_version (after_all ms new_node) m.version base in
    record {
      version = omega (arith, base, v);
      is = same ∙ ap (λ (w : ℕ). adopt w (after_all ms new_node)) (sym v);
    }

-- one of a smaller version
pub live_older : (ms : List Message) (old new : Node) (m : Message) (r : Reply) → IsLive ms old → m.version < old.version → Takes old m new r → (IsLive ms new) × (is_recorded r ≡ false)
live_older ms old new m r live lt takes =
    let t = takes.too_old lt in
    (subst (IsLive ms) (sym t.1) live, ap is_recorded t.0)

serial_adopt : (n : Node) (v : ℕ) → (adopt v n).serial ≡ n.serial
serial_adopt n v = grind (arith, nat_tests)

serial_body : (b : Body) (n : Node) → (after_body b n).serial ≤ n.serial + 1
serial_body body.Ask n = omega arith
serial_body (body.Read b only) n = omega arith
serial_body (body.Store e) n = omega arith
serial_body (body.Apply b m) n = omega arith
serial_body (body.Delete b serial) n = omega arith
serial_body (body.Split b) n = omega arith
serial_body (body.Join b) n = omega arith
serial_body (body.Ready b) n = omega arith
serial_body (body.Activate b) n = omega arith

serial_treated : (b : Body) (n : Node) → (treated b n).serial ≤ n.serial + 1
serial_treated b n = elim (is_accepted (told b n.pieces)) as (λ x. (cond x (after_body b n) n).serial ≤ n.serial + 1) [ true ↦ serial_body b n | false ↦ omega arith ]

-- a take draws one serial at most, and one that isn't recorded draws none
pub serial_more : (old new : Node) (m : Message) (r : Reply) → old.version ≤ m.version → Takes old m new r → is_recorded r ≡ true → new.serial ≤ old.serial + 1
serial_more old new m r le takes here =
    let same = ap (λ (k : Node). k.serial) (treated_is m.body (adopt m.version old) new r here (takes.treated le)) in
    omega (arith, same, serial_treated m.body (adopt m.version old), serial_adopt old m.version)

pub serial_wanting : (old new : Node) (m : Message) (r : Reply) → old.version ≤ m.version → Takes old m new r → is_recorded r ≡ false → new.serial ≡ old.serial
serial_wanting old new m r le takes here = ap (λ (k : Node). k.serial) (wanting_is m.body (adopt m.version old) new r here (takes.treated le)) ∙ serial_adopt old m.version

-- whatever the reply, unless memory was wanting
pub takes_after : (old new : Node) (m : Message) (r : Reply) → Takes old m new r → is_wanting r ≡ false → new ≡ after m old
takes_after old new m r takes served = elim (cases_less m.version old.version) [
  | inl lt ↦ (takes.too_old lt).1 ∙ sym (older m old lt)
  | inr le ↦ treated_too m.body (adopt m.version old) new r served (takes.treated le) ∙ sym (after_new m old le)
]
  where
    cases_less : (a b : ℕ) → (a < b) ⊎ (b ≤ a)
    cases_less a b = grind arith

    older : (m : Message) (n : Node) → m.version < n.version → after m n ≡ n
    older m n lt = grind (arith, nat_tests)

    treated_too : (b : Body) (old new : Node) (r : Reply) → is_wanting r ≡ false → Treats old b new r → new ≡ treated b old
    treated_too b old new (reply.Answer ps es) served t = treated_is b old new (reply.Answer ps es) refl t
    treated_too b old new (reply.Newer v) served t = absurd t
    treated_too b old new reply.NoBucket served t = treated_is b old new reply.NoBucket refl t
    treated_too b old new reply.Differs served t = treated_is b old new reply.Differs refl t
    treated_too b old new reply.NoMemory served t = cc

-- a message draws one serial at most
pub serial_after : (m : Message) (n : Node) → (after m n).serial ≤ n.serial + 1
serial_after m n = elim (nat_lt m.version n.version) as (λ t. (cond t n (treated m.body (adopt m.version n))).serial ≤ n.serial + 1) [
  | true ↦ omega arith
  | false ↦ omega (arith, serial_treated m.body (adopt m.version n), serial_adopt n m.version)
]

-- a node whose serial is far below the last has room for any body
pub has_room : (b : Body) (serial : ℕ) → serial < 2 ^ 32 → HasRoom b serial
has_room body.Ask serial lt = tt
has_room (body.Read b only) serial lt = tt
has_room (body.Store e) serial lt = omega (arith, lt)
has_room (body.Apply b m) serial lt = omega (arith, lt)
has_room (body.Delete b s) serial lt = tt
has_room (body.Split b) serial lt = omega (arith, lt)
has_room (body.Join b) serial lt = omega (arith, lt)
has_room (body.Ready b) serial lt = omega (arith, lt)
has_room (body.Activate b) serial lt = omega (arith, lt)

-- the entries of a body that fits lie in its bucket
pub is_inside : (types : Types) (b : Body) → FitsBody types b → IsInside b
is_inside types body.Ask fits = tt
is_inside types (body.Read b only) fits = tt
is_inside types (body.Store e) fits = tt
is_inside types (body.Apply b m) fits = λ id e has. (fits.1 id e has).inside
is_inside types (body.Delete b s) fits = tt
is_inside types (body.Split b) fits = tt
is_inside types (body.Join b) fits = tt
is_inside types (body.Ready b) fits = tt
is_inside types (body.Activate b) fits = tt
