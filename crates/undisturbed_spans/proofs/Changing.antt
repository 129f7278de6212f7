-- What a message of a quiet span makes of a lane's nodes.
use Rattle.std.proofs.Common.{◌≡◌, ◌==◌, ◌&&◌, ◌+◌, ℕ, Bool, true, false, not, cond, List, ◌∷◌, Some, None, is_some, nat_lt, refl, sym, ap, ap₂, ◌∙◌, arith, eqb-true, eq-eqb}
use Rattle.std.proofs.lemmas.Bool.Decides.{nat_tests}
use Rattle.messages.specs.declared.body.Body.{Body}
use Rattle.messages.specs.declared.body.Body.TheVariants as body
use Rattle.messages.specs.declared.message.Message.{Message}
use Rattle.messages.specs.declared.reply.Reply.{Reply}
use Rattle.messages.specs.declared.reply.Reply.TheVariants as reply
use Rattle.messages.specs.Noting.{noted_body, noted_reply}
use Rattle.node_model.specs.Nodes.{Node}
use Rattle.lane_journals.specs.Events as plain
use Rattle.lane_journals.specs.Readers as readers
use Rattle.lane_journals.specs.Readers.{or_else, only_if, sent, first_reply, round_in}
use Rattle.lane_journals.specs.Meanings.{history, meaning_body, meaning_reply}
use Rattle.lane_journals.specs.declared.event.LaneEvent.{LaneEvent}
use Rattle.lane_journals.specs.declared.event.LaneEvent.TheVariants.{Returned}
use Rattle.lane_keeping.specs.Replaying.{sending, delivered}
use Rattle.pass_model.specs.Lanes.{IsPassBody, IsNoWant, seen_node}
use Rattle.pass_model.specs.Scripts.{Script, is_telling, tells, came, came_before, is_want, takings, Agrees, told_body}

-- ---- tests

no-second : (t : Bool) {A : Type 0} (x y : A) → cond (t && false) x y ≡ y
no-second true x y = refl
no-second false x y = refl

telling-is : (J : List LaneEvent) (x : Body) → IsPassBody x → is_telling (meaning_body J (noted_body x)) ≡ true
telling-is J (body.Apply b m) p = refl
telling-is J (body.Delete b s) p = refl
telling-is J (body.Split b) p = refl
telling-is J (body.Join b) p = refl
telling-is J (body.Ready b) p = refl
telling-is J (body.Activate b) p = refl
telling-is J body.Ask p = absurd p
telling-is J (body.Read b o) p = absurd p
telling-is J (body.Store e) p = absurd p

pub no-want : (J : List LaneEvent) (r : Reply) → IsNoWant r → is_want (meaning_reply J (noted_reply r)) ≡ false
no-want J (reply.Answer ps m) w = refl
no-want J (reply.Newer v) w = refl
no-want J reply.NoBucket w = refl
no-want J reply.Differs w = refl
no-want J reply.NoMemory w = absurd w

-- ---- the message is sent, and is delivered for the first time

module _ (J : List LaneEvent) (k : ℕ) (m : Message) (unsent : sent k (history J) ≡ None) (silent : first_reply k (history J) ≡ None) (untaken : takings k (history J) ≡ 0) (of : IsPassBody m.body) where
  sent-now : sent k (history (sending k m ∷ J)) ≡ Some (record { version = m.version; receiver = m.receiver; body = meaning_body J (noted_body m.body); round = round_in m.version (meaning_body J (noted_body m.body)) (history J) })
  sent-now = ap (λ o. or_else o (only_if (k == k) (record { version = m.version; receiver = m.receiver; body = meaning_body J (noted_body m.body); round = round_in m.version (meaning_body J (noted_body m.body)) (history J) }))) unsent
      ∙ ap (λ t. only_if t (record { version = m.version; receiver = m.receiver; body = meaning_body J (noted_body m.body); round = round_in m.version (meaning_body J (noted_body m.body)) (history J) })) (eq-eqb k k refl)

  tells-own : tells m.receiver (sent k (history (sending k m ∷ J))) ≡ true
  tells-own = ap (λ o. tells m.receiver o) sent-now ∙ ap₂ (λ x y. x && y) (eq-eqb m.receiver m.receiver refl) (telling-is J m.body of)

  tells-other : (n : ℕ) → (n ≡ m.receiver → ⊥) → tells n (sent k (history (sending k m ∷ J))) ≡ false
  tells-other n off = ap (λ o. tells n o) sent-now ∙ by_test (m.receiver == n) refl
    where
      by_test : (t : Bool) → (m.receiver == n) ≡ t → (t && is_telling (meaning_body J (noted_body m.body))) ≡ false
      by_test true e = absurd (off (sym (eqb-true m.receiver n e)))
      by_test false e = refl

  new : not (is_some (first_reply k (history J))) ≡ true
  new = ap (λ o. not (is_some o)) silent

  module _ (r : Reply) where
    pub came-own : came m.receiver (history (delivered k r ∷ sending k m ∷ J)) ≡ came m.receiver (history J) + 1
    came-own = ap (λ t. cond t (came m.receiver (history J) + 1) (came m.receiver (history J))) (ap₂ (λ x y. x && y) tells-own new)

    pub came-other : (n : ℕ) → (n ≡ m.receiver → ⊥) → came n (history (delivered k r ∷ sending k m ∷ J)) ≡ came n (history J)
    came-other n off = ap (λ t. cond (t && not (is_some (first_reply k (history J)))) (came n (history J) + 1) (came n (history J))) (tells-other n off)

    before-own : came_before m.receiver k (history (delivered k r ∷ sending k m ∷ J)) ≡ came m.receiver (history J)
    before-own = ap (λ t. cond t (came m.receiver (history J)) (came_before m.receiver k (history J))) (ap₂ (λ x y. x && y) (eq-eqb k k refl) new)

    replied : is_some (first_reply k (history (delivered k r ∷ sending k m ∷ J))) ≡ true
    replied = ap (λ o. is_some (or_else o (only_if (k == k) (meaning_reply (sending k m ∷ J) (noted_reply r))))) silent
        ∙ ap (λ t. is_some (only_if t (meaning_reply (sending k m ∷ J) (noted_reply r)))) (eq-eqb k k refl)

    takings-own : IsNoWant r → takings k (history (delivered k r ∷ sending k m ∷ J)) ≡ 1
    takings-own w = ap (λ t. cond t (takings k (history J) + 1) (takings k (history J))) (ap₂ (λ x y. x && not y) (eq-eqb k k refl) (no-want (sending k m ∷ J) r w))
        ∙ ap (λ i. i + 1) untaken

    -- once
    pub script-once : (d : Script) → IsNoWant r → Agrees d (history J) (history (Returned k ∷ delivered k r ∷ sending k m ∷ J)) → d m.receiver (came m.receiver (history J)) ≡ false
    script-once d w a = ap (λ i. d m.receiver i) (sym before-own)
        ∙ a k (record { version = m.version; receiver = m.receiver; body = meaning_body J (noted_body m.body); round = round_in m.version (meaning_body J (noted_body m.body)) (history J) }) unsent sent-now (telling-is J m.body of)
        ∙ ap (λ i. nat_lt 1 i) (takings-own w) ∙ less
      where
        less : nat_lt 1 1 ≡ false
        less = grind (arith, nat_tests)

    -- delivered again
    module _ (q : Reply) where
      pub came-again : (n : ℕ) → came n (history (delivered k q ∷ Returned k ∷ delivered k r ∷ sending k m ∷ J)) ≡ came n (history (delivered k r ∷ sending k m ∷ J))
      came-again n = ap (λ t. cond (tells n (sent k (history (sending k m ∷ J))) && not t) (came n (history (delivered k r ∷ sending k m ∷ J)) + 1) (came n (history (delivered k r ∷ sending k m ∷ J)))) replied
          ∙ no-second (tells n (sent k (history (sending k m ∷ J)))) (came n (history (delivered k r ∷ sending k m ∷ J)) + 1) (came n (history (delivered k r ∷ sending k m ∷ J)))

      before-again : came_before m.receiver k (history (delivered k q ∷ Returned k ∷ delivered k r ∷ sending k m ∷ J)) ≡ came m.receiver (history J)
      before-again = ap (λ t. cond ((k == k) && not t) (came m.receiver (history (delivered k r ∷ sending k m ∷ J))) (came_before m.receiver k (history (delivered k r ∷ sending k m ∷ J)))) replied
          ∙ no-second (k == k) (came m.receiver (history (delivered k r ∷ sending k m ∷ J))) (came_before m.receiver k (history (delivered k r ∷ sending k m ∷ J)))
          ∙ before-own

      takings-again : (t : Bool) → is_want (meaning_reply (Returned k ∷ delivered k r ∷ sending k m ∷ J) (noted_reply q)) ≡ t → IsNoWant r → takings k (history (delivered k q ∷ Returned k ∷ delivered k r ∷ sending k m ∷ J)) ≡ cond t 1 2
      takings-again t e w = ap₂ (λ x y. cond (x && not y) (takings k (history (delivered k r ∷ sending k m ∷ J)) + 1) (takings k (history (delivered k r ∷ sending k m ∷ J)))) (eq-eqb k k refl) e
          ∙ ap (λ i. cond (not t) (i + 1) i) (takings-own w) ∙ by_test t
        where
          by_test : (t : Bool) → cond (not t) (1 + 1) 1 ≡ cond t 1 2
          by_test true = refl
          by_test false = refl

      pub script-again : (d : Script) (t : Bool) → is_want (meaning_reply (Returned k ∷ delivered k r ∷ sending k m ∷ J) (noted_reply q)) ≡ t → IsNoWant r
          → Agrees d (history J) (history (delivered k q ∷ Returned k ∷ delivered k r ∷ sending k m ∷ J)) → d m.receiver (came m.receiver (history J)) ≡ not t
      script-again d t e w a = ap (λ i. d m.receiver i) (sym before-again)
          ∙ a k (record { version = m.version; receiver = m.receiver; body = meaning_body J (noted_body m.body); round = round_in m.version (meaning_body J (noted_body m.body)) (history J) }) unsent sent-now (telling-is J m.body of)
          ∙ ap (λ i. nat_lt 1 i) (takings-again t e w) ∙ by_test t
        where
          by_test : (t : Bool) → nat_lt 1 (cond t 1 2) ≡ not t
          by_test true = grind (arith, nat_tests)
          by_test false = grind (arith, nat_tests)

-- ---- the nodes

-- from where the script is known, the node is what a pass says
pub moved : (d : ℕ → Bool) (was now : ℕ) (z : Node) (x : Body) (y : Node) → now ≡ was + 1 → seen_node d (was + 1) z ≡ told_body x (seen_node d was y) → seen_node d now z ≡ told_body x (seen_node d was y)
moved d was now z x y e h = ap (λ i. seen_node d i z) e ∙ h
