-- A node that takes a message stays a valid store.
use Rattle.std.proofs.Common.{◌≡◌, inl, inr, ℕ, ◌+◌, ◌^◌, ◌<◌, List, sym, ◌∙◌, subst, arith}
use Rattle.bucket_ids.specs.Buckets.{has_key}
use Rattle.global_ids.specs.Keys.{key_of}
use Rattle.entry_maps.proofs.JoinLaws.{get-joined}
use Rattle.pieces.specs.Pieces.{holds, has_key_of, does_meet}
use Rattle.pieces.specs.Runs.{AreRuns}
use Rattle.pieces.specs.Told.{Accepted}
use Rattle.pieces.proofs.Laid.{IsLaid-renewed, IsLaid-ready, IsLaid-filter, IsLaid-split, IsLaid-join}
use Rattle.pieces.proofs.Serials.{AreUpTo-renewed, AreUpTo-ready, AreUpTo-filter, AreUpTo-split, AreUpTo-join}
use Rattle.pieces.proofs.ApplyLaws.{IsLaid-apply, AreUpTo-apply}
use Rattle.pieces.proofs.KeyLaws.{holds-renewed, holds-ready, holds-split, holds-join, holds-apply, holds-delete}
use Rattle.messages.specs.declared.body.Body.{Body}
use Rattle.messages.specs.declared.body.Body.TheVariants as body
use Rattle.messages.specs.declared.reply.Reply.{Reply}
use Rattle.messages.specs.declared.reply.Reply.TheVariants as reply
use Rattle.messages.specs.declared.message.Message.{Message}
use Rattle.replica_store.specs.Replicas.{Replica, IsReplica}
use Rattle.replica_store.proofs.HeldEntries.{AreHeld-store, AreHeld-more, AreHeld-join, AreHeld-delete}
use Rattle.node_model.specs.Nodes.{Node, adopt, after_body, stored}
use Rattle.node_model.specs.Takes.{Takes, Treats, told}
use Rattle.std.proofs.lemmas.Bool.{cases_lt}
use Rattle.lane_keeping.specs.Flights.{IsWhole}
use Rattle.lane_keeping.proofs.Words.{or-last}
use Rattle.lane_keeping.proofs.Bodies.{adopt-entries, adopt-pieces, adopt-serial}
use Rattle.lane_keeping.proofs.Standing.{accepted-some, there-exact, accepted-delete, accepted-join}

abbrev pub SmallKeys : Type 0
SmallKeys = (text : List ℕ) → key_of text < 2 ^ 58

module _ (laws : AreRuns) (small : SmallKeys) where
  pub valid-after : (x : Body) → IsWhole x → (n : Node) → told x n.pieces ≡ Accepted → IsReplica (stored n) → IsReplica (stored (after_body x n))
  valid-after body.Ask w n a h = h
  valid-after (body.Read b only) w n a h = h
  valid-after (body.Store e) w n a h = record {
    holding = record { laid = IsLaid-renewed (has_key_of (key_of e.id)) (n.serial + 1) 0 n.pieces (h.holding).laid; up_to = AreUpTo-renewed (has_key_of (key_of e.id)) n.serial n.pieces (h.holding).up_to };
    held = AreHeld-more small _ n.pieces _ (λ key k i. holds-renewed key (has_key_of (key_of e.id)) (n.serial + 1) n.pieces ∙ i)
        (AreHeld-store n.entries e n.pieces (accepted-some (holds (key_of e.id) n.pieces) a) h.held);
  }
  valid-after (body.Apply b es) w n a h = record {
    holding = record { laid = IsLaid-apply laws b w.bucket (n.serial + 1) n.pieces (h.holding).laid; up_to = AreUpTo-apply b n.serial n.pieces (h.holding).up_to };
    held = AreHeld-join small get-joined b n.entries es n.pieces _ (λ key k. holds-apply laws key k b w.bucket (n.serial + 1) n.pieces (h.holding).laid) w.inside h.held;
  }
  valid-after (body.Delete b s) w n a h = record {
    holding = record { laid = IsLaid-filter _ 0 n.pieces (h.holding).laid; up_to = AreUpTo-filter _ n.serial n.pieces (h.holding).up_to };
    held = AreHeld-delete small b n.entries n.pieces _ (λ key k. holds-delete laws key k b w.bucket 0 n.pieces (h.holding).laid (there-exact b s n.pieces (accepted-delete b s n.pieces a))) h.held;
  }
  valid-after (body.Split b) w n a h = record {
    holding = record { laid = IsLaid-split laws b w.bucket (n.serial + 1) 0 n.pieces (h.holding).laid; up_to = AreUpTo-split b n.serial n.pieces (h.holding).up_to };
    held = AreHeld-more small n.entries n.pieces _ (λ key k i. holds-split laws key k b w.bucket (n.serial + 1) 0 n.pieces (h.holding).laid ∙ i) h.held;
  }
  valid-after (body.Join b) w n a h = record {
    holding = record { laid = IsLaid-join laws b w.bucket (n.serial + 1) 0 (omega arith) n.pieces (h.holding).laid; up_to = AreUpTo-join b n.serial n.pieces (h.holding).up_to };
    held = AreHeld-more small n.entries n.pieces _ (λ key k i. holds-join laws key k b w.bucket (n.serial + 1) 0 n.pieces (h.holding).laid (accepted-join b n.pieces a) ∙ or-last (has_key b key) (holds key n.pieces) i) h.held;
  }
  valid-after (body.Ready b) w n a h = record {
    holding = record { laid = IsLaid-ready b (n.serial + 1) 0 n.pieces (h.holding).laid; up_to = AreUpTo-ready b n.serial n.pieces (h.holding).up_to };
    held = AreHeld-more small n.entries n.pieces _ (λ key k i. holds-ready key b (n.serial + 1) n.pieces ∙ i) h.held;
  }
  valid-after (body.Activate b) w n a h = record {
    holding = record { laid = IsLaid-renewed (does_meet b) (n.serial + 1) 0 n.pieces (h.holding).laid; up_to = AreUpTo-renewed (does_meet b) n.serial n.pieces (h.holding).up_to };
    held = AreHeld-more small n.entries n.pieces _ (λ key k i. holds-renewed key (does_meet b) (n.serial + 1) n.pieces ∙ i) h.held;
  }

  adopted : (v : ℕ) (n : Node) → IsReplica (stored n) → IsReplica (stored (adopt v n))
  adopted v n h =
      let is : ◌≡◌ {A = Replica} (stored (adopt v n)) (stored n) = λ i. record { entries = adopt-entries v n i; pieces = adopt-pieces v n i; serial = adopt-serial v n i } in
      subst IsReplica (sym is) h

  valid-treated : (x : Body) → IsWhole x → (n y : Node) (r : Reply) → IsReplica (stored n) → Treats n x y r → IsReplica (stored y)
  valid-treated x w n y (reply.Answer ps es) h t = subst (λ z. IsReplica (stored z)) (sym t.1.1.1) (valid-after x w n t.0 h)
  valid-treated x w n y (reply.Newer v) h t = absurd t
  valid-treated x w n y reply.NoBucket h t = subst (λ z. IsReplica (stored z)) (sym t.1) h
  valid-treated x w n y reply.Differs h t = subst (λ z. IsReplica (stored z)) (sym t.1) h
  valid-treated x w n y reply.NoMemory h t = subst (λ z. IsReplica (stored z)) (sym t.1) h

  pub valid-taken : (m : Message) → IsWhole m.body → (x y : Node) (r : Reply) → IsReplica (stored x) → Takes x m y r → IsReplica (stored y)
  valid-taken m w x y r h t = elim (cases_lt m.version x.version) [
    | inl less ↦ subst (λ z. IsReplica (stored z)) (sym (t.too_old less).1) h
    | inr le ↦ valid-treated m.body w (adopt m.version x) y r (adopted m.version x h) (t.treated le)
  ]
