-- What comes back of the messages of a line: an answer, which then counts, or NoMemory; else nothing was heard of them.
use mathlib.Core.Bool.{true≢false}
use Rattle.std.proofs.Common.{◌≡◌, ◌⊎◌, ℕ, Bool, true, false, List, Option, Some, None, inl, inr, refl, sym, ap, ◌∙◌}
use Rattle.bucket_ids.specs.Buckets.{Low}
use Rattle.stamps.specs.declared.stamp.Stamp.{Stamp}
use Rattle.messages.specs.declared.operation.Operation.{Operation}
use Rattle.distributor_part.specs.declared.rules.Rules.{Rules}
use Rattle.lane_journals.specs.Events.{Reply, Answer, Newer}
use Rattle.lane_journals.specs.Readers.{Journal, Beginning, Given, before_line, Message, sent, first_reply, returned}
use Rattle.lane_journals.specs.States.{state_of}
use Rattle.lane_journals.specs.Meanings.{history}
use Rattle.lane_journals.specs.declared.event.LaneEvent.{LaneEvent}
use Rattle.lane_journals.proofs.Basics.{returned-replied}
use Rattle.operation_keeping.specs.OperationKeeping.{WasShortSince}
use Rattle.lane_completeness.specs.Completeness.{HaveReturned, WantedMemory}
use Rattle.lane_completeness.specs.Causes.{IsUnheard, IsOfPhase, IsMissing}
use Rattle.lane_journals.proofs.Replies.{IsNewest, IsHeard, IsFenced, IsOwed, known-owed, not-fenced}
use Rattle.lane_completeness.proofs.Runs.{At, start, first, not-sent}
use Rattle.lane_journals.proofs.Hearing.{answer-given}

-- ---- what comes back

-- the answer came back
pub record Back (H : Journal) (k : ℕ) : Type 0 where
  pub given : Given
  pub reply : first_reply k H ≡ Some (Answer given.content given.names)
  pub back : returned k H ≡ true

-- it did, or memory was wanted since an earlier journal, or nothing was heard of the message
abbrev pub Came : Journal → Journal → (Message → Type 0) → ℕ → Type 0
Came from H test k = Back H k ⊎ (WasShortSince from H test ⊎ IsUnheard H k)

module _ (lane : Low) (rules : Rules) (line d v : ℕ) (o : Operation) (stamp : Option Stamp) (J F : List LaneEvent) (L : List LaneEvent) (a : At lane rules line d v o stamp J F L) where
  module _ (from : Journal) (test : Message → Type 0) (k : ℕ) (m : Message) (late : sent k from ≡ None) (s : sent k (history L) ≡ Some m) (holds : test m) where
    -- the reply says so
    came-back : returned k (history L) ≡ true → (r : Reply) → first_reply k (history L) ≡ Some r → IsHeard r ⊎ IsFenced r → Came from (history L) test k
    came-back back r f h = elim h [
      | inl heard ↦ elim heard [
        | inl answers ↦ (let g = answer-given r answers in inl (record { given = g.0; reply = f ∙ ap (λ (x : Reply). Some x) g.1; back = back }))
        | inr wants ↦ inr (inl (record { number = k; message = m; was_sent = s; later = late; tested = holds; reply = f ∙ ap (λ (x : Reply). Some x) wants; back = back }))
      ]
      | inr newer ↦ inr (inr (inr (newer.0, f ∙ ap (λ (x : Reply). Some x) newer.1)))
    ]

    pub came : ((r : Reply) → first_reply k (history L) ≡ Some r → IsHeard r ⊎ IsFenced r) → Came from (history L) test k
    came known = by_test (returned k (history L)) refl
      where
        by_test : (t : Bool) → returned k (history L) ≡ t → Came from (history L) test k
        by_test true back = let r = returned-replied rules.acks (state_of (history L)) (history L) a.legal k back in came-back back r.0 r.1 (known r.0 r.1)
        by_test false never = inr (inr (inl never))

    -- of what an opening or a round sends
    pub owed-came : IsOwed m.body → Came from (history L) test k
    owed-came owed = came (λ r f. known-owed rules.acks (state_of (history L)) m.version k m r refl (history L) a.legal owed s f)

  -- who was asked since the line began, and whose answer didn't come, though no node wanted memory
  pub missing : (from : Journal) (test : Message → Type 0) (k : ℕ) (m : Message) (n : ℕ) → sent k (before_line line (history L)) ≡ None → sent k (history L) ≡ Some m → m.version ≡ v → m.receiver ≡ n
      → IsOfPhase (history L) line (first lane rules line d v o stamp J) m → Came from (history L) test k → (Back (history L) k → ⊥) → (WasShortSince from (history L) test → ⊥) → IsMissing (history L) line n
  missing from test k m n late s under to phase c counts none = elim c [
    | inl back ↦ absurd (counts back)
    | inr other ↦ elim other [
      | inl short ↦ absurd (none short)
      | inr unheard ↦ record { beginning = first lane rules line d v o stamp J; begun = a.begun; number = k; message = m; was_sent = s; later = late; version = under; receiver = to; of_phase = phase; unheard = unheard }
    ]
  ]

  -- nobody is missing where all came back, under the newest version
  module _ (low : IsNewest v (history L)) (all : HaveReturned (start lane rules line d v o stamp J) L) where
    pub none-missing : (n : ℕ) → IsMissing (history L) line n → ⊥
    none-missing n w = elim w.unheard [
      | inl never ↦ true≢false (sym (all w.number w.message w.was_sent (not-sent lane rules line d v o stamp J F L a w.number w.later)) ∙ never)
      | inr newer ↦ not-fenced rules.acks (state_of (history L)) v w.number w.message (Newer newer.0) (w.version ∙ same-version) (history L) a.legal low w.was_sent newer.1 (newer.0, refl)
    ]
      where
        same-version : (w.beginning).version ≡ v
        same-version = let x = w.begun in let y = a.begun in let same : w.beginning ≡ first lane rules line d v o stamp J = cc in ap (λ (b : Beginning). b.version) same

-- whatever was asked, where what wasn't sent before the search wasn't sent before the line
pub any-short : (H : Journal) (line : ℕ) (from : Journal) → ((k : ℕ) → sent k from ≡ None → sent k (before_line line H) ≡ None) → (test : Message → Type 0) → WasShortSince from H test → WantedMemory H line
any-short H line from earlier test w = record { number = w.number; message = w.message; was_sent = w.was_sent; later = earlier w.number w.later; tested = tt; reply = w.reply; back = w.back }
