-- A message that a lane sends in a quiet span is taken once or twice.
use Rattle.std.proofs.Common.{◌≡◌, ◌==◌, ◌++◌, ◌+◌, ◌≤◌, ◌&&◌, ◌⊎◌, ◌↔◌, ℕ, Bool, true, false, not, cond, List, [], ◌∷◌, length, Option, Some, None, IsSome, Contains, inl, inr, refl, sym, ap, ap₂, ◌∙◌, subst, arith, eq-eqb}
use Rattle.bucket_ids.specs.Buckets.{Low}
use Rattle.carriers.specs.declared.fate.Fate.{Fate}
use Rattle.carriers.specs.declared.fate.Fate.TheVariants.{Late}
use Rattle.pieces.specs.Runs.{AreRuns}
use Rattle.messages.specs.declared.message.Message.{Message}
use Rattle.messages.specs.Noting.{noted_body}
use Rattle.node_model.specs.Nodes as lane
use Rattle.lane_journals.specs.Events as plain
use Rattle.lane_journals.specs.Readers.{or_else, only_if, sent, first_reply, returned}
use Rattle.lane_journals.specs.Meanings.{history, meaning_reply}
use Rattle.lane_journals.specs.declared.event.LaneEvent.{LaneEvent}
use Rattle.lane_journals.specs.declared.event.LaneEvent.TheVariants.{Delivered}
use Rattle.lane_carriage.specs.Carriage.{due, IsMessage, IsCarried}
use Rattle.lane_carriage.specs.Readers.{last_sent, arrivals, receives, fate_of, is_returned, arrivals_of}
use Rattle.lane_carriage.specs.Laws.{OfCarried}
use Rattle.upkeep_spans.specs.Spans.{later}
use Rattle.pass_model.specs.Scripts.{Script, is_want, takings}
use Rattle.lane_keeping.specs.Replaying.{sending}
use Rattle.undisturbed_spans.specs.Undisturbed.{IsTakenOnce, IsTakenTwice}
use Rattle.undisturbed_spans.proofs.Taking.{taken}
use Rattle.undisturbed_spans.specs.Telling.{IsSaid, IsToldIn, IsFresh, IsAskedOf, IsShownIn}
use Rattle.undisturbed_spans.proofs.Telling.{told}
use Rattle.undisturbed_spans.proofs.Reading.{read}

abbrev Events : Type 0
Events = List LaneEvent

-- what never arrived has no reply
unheard : (k : ℕ) (J : Events) → arrivals k J ≡ [] → (first_reply k (history J) ≡ None) × (takings k (history J) ≡ 0)
unheard k [] e = (refl, refl)
unheard k (Delivered n r ∷ J) e = by_test (n == k) refl e (unheard k J)
  where
    by_test : (t : Bool) → (n == k) ≡ t → cond t (last_sent J ∷ arrivals k J) (arrivals k J) ≡ [] → (arrivals k J ≡ [] → (first_reply k (history J) ≡ None) × (takings k (history J) ≡ 0))
        → (first_reply k (history (Delivered n r ∷ J)) ≡ None) × (takings k (history (Delivered n r ∷ J)) ≡ 0)
    by_test true off e ih = cc
    by_test false off e ih = (
      ap₂ (λ o t. or_else o (only_if t (meaning_reply J r))) (ih e).0 off,
      ap (λ t. cond (t && not (is_want (meaning_reply J r))) (takings k (history J) + 1) (takings k (history J))) off ∙ (ih e).1,
    )
unheard k (_ ∷ J) e = unheard k J e

module _ (numbers : (given : List Fate) (k : ℕ) → IsSome (fate_of k given) ↔ ((1 ≤ k) × (k ≤ length given)))
    (unsent : OfCarried (λ given J. (k : ℕ) → fate_of k given ≡ None → sent k (history J) ≡ None))
    (arrive : OfCarried (λ given J. (k : ℕ) → arrivals k J ≡ arrivals_of k (fate_of k given) (length given) (λ j. receives k j J)))
    (back : OfCarried (λ given J. (k : ℕ) → returned k (history J) ≡ (is_returned (fate_of k given) && receives k k J)))
    (just : (given : List Fate) (n j : ℕ) → Contains (due given n) j ↔ ((k : ℕ) × (fate_of j given ≡ Some (Late k)) × (j + k ≡ n)))
    (behind : (J N : Events) → later (length J) (N ++ J) ≡ N) (runs : AreRuns) where
  no-fate : (g : List Fate) → fate_of (length g + 1) g ≡ None
  no-fate g = by_fate (fate_of (length g + 1) g) refl
    where
      by_fate : (o : Option Fate) → fate_of (length g + 1) g ≡ o → o ≡ None
      by_fate None e = refl
      by_fate (Some f) e = let b = ((numbers g (length g + 1)).0 (subst (λ p. IsSome p) (sym e) refl)).1 in absurd (omega (arith, b))

  module _ (given : List Fate) (J : Events) (carried : IsCarried given J) where
    none : arrivals (length given + 1) J ≡ []
    none = arrive given J carried (length given + 1) ∙ ap (λ o. arrivals_of (length given + 1) o (length given) (λ j. receives (length given + 1) j J)) (no-fate given)

    new-unsent : sent (length given + 1) (history J) ≡ None
    new-unsent = unsent given J carried (length given + 1) (no-fate given)

    new-silent : first_reply (length given + 1) (history J) ≡ None
    new-silent = (unheard (length given + 1) J none).0

    new-untaken : takings (length given + 1) (history J) ≡ 0
    new-untaken = (unheard (length given + 1) J none).1

  returned-by : (k : ℕ) (S K : Events) → IsTakenOnce k S K ⊎ IsTakenTwice k S K → returned k (history K) ≡ true
  returned-by k S K t = elim t [
    | inl o ↦ ap (λ (E : Events). returned k (history E)) o.1 ∙ ap (λ u. cond u true (returned k (history S))) (eq-eqb k k refl)
    | inr o ↦ ap (λ (E : Events). returned k (history E)) o.2 ∙ ap (λ u. cond u true (returned k (history S))) (eq-eqb k k refl)
  ]

  -- ---- what is said of rows

  module _ (d : Script) (given : List Fate) (f : Fate) (J K : Events) (old now : ℕ → lane.Node) (m : Message) (x : IsSaid d given f J K old now m) where
    abbrev message : IsMessage given f J K
    message = record { version = m.version; sender = m.sender; receiver = m.receiver; body = noted_body m.body; after = x.between; dealt = x.dealt; late = x.late }

    takings-are : IsTakenOnce (length given + 1) (sending (length given + 1) m ∷ J) K ⊎ IsTakenTwice (length given + 1) (sending (length given + 1) m ∷ J) K
    takings-are = taken numbers back just behind given f J K message x.carried x.quiet.quiet

    pub said-fresh : IsFresh J K (length given + 1) m
    said-fresh = record { unsent = new-unsent given J x.carried; silent = new-silent given J x.carried; takings = takings-are }

    pub comes-back : returned (length given + 1) (history K) ≡ true
    comes-back = returned-by (length given + 1) (sending (length given + 1) m ∷ J) K takings-are

    pub said : (first_reply (length given + 1) (history K) ≡ Some plain.NoMemory → ⊥) → IsToldIn d J K old now (length given + 1) m
    said fine = told runs behind d J K old now (length given + 1) m (record {
      new = record {
        unsent = new-unsent given J x.carried;
        silent = new-silent given J x.carried;
        untaken = new-untaken given J x.carried;
        of_pass = x.of_pass;
        brings = x.brings;
        current = x.current;
      };
      takings = takings-are;
      nodes = x.nodes;
      fine = fine;
    }) x.quiet.agrees

  -- ---- a Read of a bucket

  module _ (given : List Fate) (f : Fate) (J K : Events) (old now : ℕ → lane.Node) (m : Message) (b : Low) (x : IsAskedOf given f J K old now m b) where
    abbrev asked-message : IsMessage given f J K
    asked-message = record { version = m.version; sender = m.sender; receiver = m.receiver; body = noted_body m.body; after = x.between; dealt = x.dealt; late = x.late }

    asked-takings : IsTakenOnce (length given + 1) (sending (length given + 1) m ∷ J) K ⊎ IsTakenTwice (length given + 1) (sending (length given + 1) m ∷ J) K
    asked-takings = taken numbers back just behind given f J K asked-message x.carried x.quiet

    pub read-fresh : IsFresh J K (length given + 1) m
    read-fresh = record { unsent = new-unsent given J x.carried; silent = new-silent given J x.carried; takings = asked-takings }

    pub read-back : returned (length given + 1) (history K) ≡ true
    read-back = returned-by (length given + 1) (sending (length given + 1) m ∷ J) K asked-takings

    pub read-shown : (first_reply (length given + 1) (history K) ≡ Some plain.NoMemory → ⊥) → IsShownIn J K old now (length given + 1) m b
    read-shown fine = read behind J K old now (length given + 1) m b x.body_is (new-unsent given J x.carried) (new-silent given J x.carried) x.current asked-takings x.nodes fine
