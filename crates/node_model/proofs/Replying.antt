-- A message has one reply, and leaves one node.
use Rattle.std.proofs.Common.{◌≡◌, ◌⊎◌, Bool, true, false, nat_lt, inl, inr, refl, sym, ap₂, ◌∙◌}
use Rattle.messages.specs.declared.body.Body.{Body}
use Rattle.messages.specs.declared.message.Message.{Message}
use Rattle.messages.specs.declared.reply.Reply.{Reply}
use Rattle.messages.specs.declared.reply.Reply.TheVariants as reply
use Rattle.proof_basics.proofs.Numbers.{lt-of, ge-of}
use Rattle.pieces.specs.Told.{Accepted, NoBucket, Differs}
use Rattle.node_model.specs.Nodes.{Node, adopt}
use Rattle.node_model.specs.Takes.{Takes, Treats, IsServed, IsRefused}

treated_once : (x : Body) (old a b : Node) (r q : Reply) → Treats old x a r → Treats old x b q → IsServed r → IsServed q → (r ≡ q) × (a ≡ b)
treated_once x old a b (reply.Answer ps es) (reply.Answer qs fs) h k i j = (ap₂ reply.Answer (h.1.0 ∙ sym k.1.0) (h.1.1.0 ∙ sym k.1.1.0), h.1.1.1 ∙ sym k.1.1.1)
treated_once x old a b (reply.Answer ps es) reply.NoBucket h k i j = let e : Accepted ≡ NoBucket = sym h.0 ∙ k.0 in cc
treated_once x old a b (reply.Answer ps es) reply.Differs h k i j = let e : Accepted ≡ Differs = sym h.0 ∙ k.0 in cc
treated_once x old a b reply.NoBucket (reply.Answer qs fs) h k i j = let e : NoBucket ≡ Accepted = sym h.0 ∙ k.0 in cc
treated_once x old a b reply.NoBucket reply.NoBucket h k i j = (refl, h.1 ∙ sym k.1)
treated_once x old a b reply.NoBucket reply.Differs h k i j = let e : NoBucket ≡ Differs = sym h.0 ∙ k.0 in cc
treated_once x old a b reply.Differs (reply.Answer qs fs) h k i j = let e : Differs ≡ Accepted = sym h.0 ∙ k.0 in cc
treated_once x old a b reply.Differs reply.NoBucket h k i j = let e : Differs ≡ NoBucket = sym h.0 ∙ k.0 in cc
treated_once x old a b reply.Differs reply.Differs h k i j = (refl, h.1 ∙ sym k.1)
treated_once x old a b (reply.Newer v) q h k i j = absurd h
treated_once x old a b r (reply.Newer v) h k i j = absurd k
treated_once x old a b reply.NoMemory q h k i j = absurd i
treated_once x old a b r reply.NoMemory h k i j = absurd j

pub taken_once : (old a b : Node) (m : Message) (r q : Reply) → Takes old m a r → Takes old m b q → IsServed r → IsServed q → (r ≡ q) × (a ≡ b)
taken_once old a b m r q h k i j = by_version (nat_lt m.version old.version) refl
  where
    by_version : (t : Bool) → nat_lt m.version old.version ≡ t → (r ≡ q) × (a ≡ b)
    by_version true is = let x = h.too_old (lt-of _ _ is) in let y = k.too_old (lt-of _ _ is) in (x.0 ∙ sym y.0, x.1 ∙ sym y.1)
    by_version false is = treated_once m.body (adopt m.version old) a b r q (h.treated (ge-of _ _ is)) (k.treated (ge-of _ _ is)) i j

treats_nothing : (x : Body) (old new : Node) (r : Reply) → Treats old x new r → IsRefused r → new ≡ old
treats_nothing x old new (reply.Answer ps es) h i = absurd i
treats_nothing x old new (reply.Newer v) h i = absurd h
treats_nothing x old new reply.NoBucket h i = h.1
treats_nothing x old new reply.Differs h i = h.1
treats_nothing x old new reply.NoMemory h i = h.1

pub changes_nothing : (old new : Node) (m : Message) (r : Reply) → Takes old m new r → IsRefused r → (new ≡ old) ⊎ (new ≡ adopt m.version old)
changes_nothing old new m r h i = by_version (nat_lt m.version old.version) refl
  where
    by_version : (t : Bool) → nat_lt m.version old.version ≡ t → (new ≡ old) ⊎ (new ≡ adopt m.version old)
    by_version true is = inl (h.too_old (lt-of _ _ is)).1
    by_version false is = inr (treats_nothing m.body (adopt m.version old) new r (h.treated (ge-of _ _ is)) i)
