-- The reply to a message of a pass in a quiet span: its node is at no higher version, and wants no memory, so a Delete is
-- over by it.
use Rattle.std.proofs.Common.{◌≡◌, ◌∙◌, ◌<◌, ◌≤◌, ℕ, Bool, true, List, [], ◌∷◌, Some, inl, inr, refl, sym, ap, subst, arith}
use Rattle.messages.specs.declared.body.Body.{Body}
use Rattle.messages.specs.declared.reply.Reply.{Reply}
use Rattle.messages.specs.declared.reply.Reply.TheVariants as reply
use Rattle.lane_journals.specs.Events as plain
use Rattle.lane_journals.specs.Events.{Event, Delivered}
use Rattle.lane_journals.specs.Readers.{Journal, Message, sent, first_reply, version}
use Rattle.lane_journals.specs.Legal.{MayDeliver, Permits, Legal}
use Rattle.lane_journals.specs.Meanings.{history}
use Rattle.lane_journals.specs.States.{state_of}
use Rattle.lane_journals.specs.KeptJournals.{IsLegal}
use Rattle.lane_journals.specs.Places.{Setting}
use Rattle.lane_journals.specs.declared.event.LaneEvent.{LaneEvent}
use Rattle.lane_journals.proofs.Basics.{sent_before, replied-sent, first_reply-cases}
use Rattle.lane_journals.proofs.Meant.{meant-legal}
use Rattle.lane_journals.proofs.Versions.{told-version}
use Rattle.lane_upkeep.specs.declared.owner.Owner.{Owner}
use Rattle.lane_upkeep.specs.CameBack.{CameBack, is_end}

-- ---- a node is at no higher version

module _ (acks : ℕ) (P : ℕ → ℕ → Bool) where
  -- who told of a version was sent a message of a smaller one
  told-above : (J : Journal) → Legal acks P J → (k w : ℕ) (m : Message) → sent k J ≡ Some m → first_reply k J ≡ Some (plain.Newer w) → m.version < w
  told-above [] l k w m s f = cc
  told-above (e ∷ J) l k w m s f =
      elim (first_reply-cases k J e (plain.Newer w) f) [
        | inl old ↦ told-above J l.0 k w m (sent_before acks P J k e m (replied-sent acks P J l.0 k (plain.Newer w) old) s) old
        | inr new ↦ now e new.0 l.1 s
      ]
    where
      now : (e : Event) → e ≡ Delivered k (plain.Newer w) → Permits acks P J e → sent k (e ∷ J) ≡ Some m → m.version < w
      now e is p s =
          let d : MayDeliver J k (plain.Newer w) = rw is at p in
          let s' : sent k J ≡ Some m = rw is at s in
          let same : d.message ≡ m = let a = d.was_sent in cc in
          subst (λ (y : Message). y.version < w) same d.reply.0

not-newer : (S : Setting) (J : List LaneEvent) (o : Owner) (node : ℕ) (b : Body) (v : ℕ) → IsLegal S J → version node (history J) ≡ (o.state).version → CameBack J o node b (reply.Newer v) → ⊥
not-newer S J o node b v legal current came =
    let l = meant-legal S J legal in
    let replied : first_reply came.number (history J) ≡ Some (plain.Newer v) = came.replied ∙ ap (λ (r : plain.Reply). Some r) came.noted_reply in
    let high : (came.message).version < v = told-above S.acks (state_of (history J)) (history J) l came.number v came.message came.was_sent replied in
    let low : v ≤ version (came.message).receiver (history J) = told-version S.acks (state_of (history J)) v (history J) l came.number v came.message came.was_sent replied in
    let at : version (came.message).receiver (history J) ≡ (came.message).version = ap (λ (n : ℕ). version n (history J)) came.receiver ∙ (current ∙ sym came.version) in
    absurd (omega arith)

-- so its reply ends a Delete
pub reply_ends : (S : Setting) (J : List LaneEvent) (o : Owner) (node : ℕ) (b : Body) (r : Reply) → IsLegal S J → version node (history J) ≡ (o.state).version → CameBack J o node b r → (r ≡ reply.NoMemory → ⊥) → is_end (Some r) ≡ true
reply_ends S J o node b (reply.Answer ps es) legal current came fine = refl
reply_ends S J o node b (reply.Newer v) legal current came fine = absurd (not-newer S J o node b v legal current came)
reply_ends S J o node b reply.NoBucket legal current came fine = refl
reply_ends S J o node b reply.Differs legal current came fine = refl
reply_ends S J o node b reply.NoMemory legal current came fine = absurd (fine refl)
