-- Which replies there are to the Store and the Read of a document, while the operation isn't closed.
use Rattle.std.proofs.Common.{◌≡◌, ◌⊎◌, ℕ, ◌≤◌, Bool, true, false, [], ◌∷◌, Option, Some, None, inl, inr, sym, ap, ◌∙◌, subst}
use mathlib.Core.Bool.{true≢false}
use Rattle.lane_journals.specs.Stamps.{Stamp}
use Rattle.lane_journals.specs.Buckets.{Id, contains, key_of}
use Rattle.lane_journals.specs.Events.{Body, ReadDoc, Store, Reply, Event, Begun, Sent}
use Rattle.lane_journals.specs.Readers.{Journal, Beginning, Preparing, began, prepared, closed, before_line, Message, sent, first_reply, version, holds}
use Rattle.lane_journals.specs.Facts.{IsOpen}
use Rattle.lane_journals.specs.Legal.{Belongs, MayCarry, MaySend, Lacks, Differ, Permits, Legal}
use Rattle.lane_journals.proofs.Basics.{sent-cases, began-cases, prepared-stays, began-stays, closed-before}
use Rattle.lane_journals.proofs.Beginnings.{before-now, before-same}
use Rattle.lane_journals.proofs.Rows.{was-prepared}
use Rattle.lane_journals.proofs.Kept.{one-open}
use Rattle.lane_journals.proofs.Kept.{store-line, took-piece}
use Rattle.lane_journals.proofs.Marks.{recipient-holds}
use Rattle.lane_journals.proofs.Replies.{IsHeard, IsFenced, known-reply}

module _ (acks : ℕ) (P : ℕ → ℕ → Bool) where
  module _ (v : ℕ) (k : ℕ) (m : Message) (r : Reply) (at : m.version ≡ v) where
    -- to the Store of an operation that isn't closed
    module _ (some : 1 ≤ acks) (id : Id) (s : Stamp) (is : m.body ≡ Store id s) where
      -- each line with the stamp is open
      abbrev AreOpen : Journal → Type 0
      AreOpen J = (line : ℕ) (b : Beginning) → began line J ≡ Some b → b.stamp ≡ Some s → closed line J ≡ false

      open-before : (J : Journal) (e : Event) → AreOpen (e ∷ J) → AreOpen J
      open-before J e are line b f g = closed-before line J e (are line b (began-stays line J b e f) g)

      store-piece : (J : Journal) → Legal acks P J → version m.receiver J ≤ v → AreOpen J → sent k J ≡ Some m → holds m.receiver (key_of id) J ≡ true
      store-piece J l low are f =
          let x = store-line acks P J l k m id s f is in
          let w = was-prepared acks P J l x.line x.preparing x.was_prepared in
          let same : w.begin ≡ x.begin = (let y = w.begun in let z = x.begun in cc) in
          let inside : contains (x.preparing).row (key_of id) ≡ true = subst (λ (i : Id). contains (x.preparing).row (key_of i) ≡ true) x.same_id (subst (λ (b : Beginning). contains (x.preparing).row (key_of b.id) ≡ true) same w.inside) in
          let o : IsOpen v x.line x.begin x.preparing J = record { began = x.begun; version = x.version ∙ at; prepared = x.was_prepared; unclosed = are x.line x.begin x.begun x.stamped } in
          let h = recipient-holds acks P J l v m.receiver x.line x.begin x.preparing (key_of id) o x.recipient inside in
          took-piece acks P some J l v h.round m.receiver h.bucket h.union (key_of id) h.took h.inside h.free low

      store-lacks : (J : Journal) → Legal acks P J → version m.receiver J ≤ v → AreOpen J → sent k J ≡ Some m → Lacks J m.receiver m.body → ⊥
      store-lacks J l low are f h = let x : holds m.receiver (key_of id) J ≡ false = subst (λ (b : Body). Lacks J m.receiver b) is h in true≢false (sym (store-piece J l low are f) ∙ x)

      pub known-store : (J : Journal) → Legal acks P J → AreOpen J → sent k J ≡ Some m → first_reply k J ≡ Some r → IsHeard r ⊎ IsFenced r
      known-store J l are f g = known-reply acks P v k m r at AreOpen (λ y e h was known. open-before y e known) (λ y h low known was. (store-lacks y h low known was, λ x. subst (λ (b : Body). Differ y m.receiver b) is x)) J l are f g

    -- and to the Read of a document that such an operation sent since it began
    module _ (some : 1 ≤ acks) (line : ℕ) (b : Beginning) (is : m.body ≡ ReadDoc b.id) where
      pub record Since (J : Journal) : Type 0 where
        pub begun : began line J ≡ Some b
        pub unclosed : closed line J ≡ false
        pub late : sent k (before_line line J) ≡ None

      since-before : (J : Journal) (e : Event) → Legal acks P (e ∷ J) → sent k J ≡ Some m → Since (e ∷ J) → Since J
      since-before J e l f s = elim (began-cases line J e b s.begun) [
        | inl old ↦ record { begun = old; unclosed = closed-before line J e s.unclosed; late = subst (λ (y : Journal). sent k y ≡ None) (before-same acks P J e l line b old) s.late }
        | inr new ↦ (let at_begin : before_line line (e ∷ J) ≡ J = ap (λ (z : Event). before_line line (z ∷ J)) new.1 ∙ before-now J line new.0 b.version b.id b.stamp in
            absurd (let q : ◌≡◌ {A = Option Message} None (Some m) = sym (subst (λ (z : Journal). sent k z ≡ None) at_begin s.late) ∙ f in cc))
      ]

      -- its node is a recipient of the line
      record Recipient (J : Journal) : Type 0 where
        preparing : Preparing
        was_prepared : prepared line J ≡ Some preparing
        recipient : preparing.recipients m.receiver ≡ true
        version : b.version ≡ m.version

      recipient-of : (J : Journal) → Legal acks P J → sent k J ≡ Some m → Since J → Recipient J
      recipient-of [] l f s = cc
      recipient-of (e ∷ J) l f s = elim (sent-cases k J e m f) [
        | inl old ↦ later (recipient-of J l.0 old (since-before J e l old s))
        | inr new ↦ elim (began-cases line J e b s.begun) [
          | inl before ↦ (let p : MaySend P J k m.version new.sender m.receiver m.body = subst (λ (x : Event). Permits acks P J x) new.is l.1 in
              later (now before (subst (λ (y : Body). MayCarry P J m.version m.receiver y) is p.carries)))
          | inr begins ↦ absurd (apart new.is begins.1)
        ]
      ]
        where
          apart : {w d n x y : ℕ} {i : Id} {c : Body} {t : Option Stamp} → e ≡ Sent k w d n c → e ≡ Begun line x y i t → ⊥
          apart p q = cc

          later : Recipient J → Recipient (e ∷ J)
          later x = record { preparing = x.preparing; was_prepared = prepared-stays line J x.preparing e x.was_prepared; recipient = x.recipient; version = x.version }

          now : began line J ≡ Some b → Belongs J m.version m.receiver b.id → Recipient J
          now before x =
              let same = one-open acks P some J l.0 x.line line x.begin b (x.is_open).began before x.same_id (x.is_open).unclosed (closed-before line J e s.unclosed) in
              let begin : ◌≡◌ {A = Option Beginning} (Some x.begin) (Some b) = sym (subst (λ (i : ℕ). began i J ≡ Some x.begin) same (x.is_open).began) ∙ before in
              let one : x.begin ≡ b = cc in
              record {
                preparing = x.preparing;
                was_prepared = subst (λ (i : ℕ). prepared i J ≡ Some x.preparing) same (x.is_open).prepared;
                recipient = x.recipient;
                version = ap (λ (y : Beginning). y.version) (sym one) ∙ (x.is_open).version;
              }

      read-piece : (J : Journal) → Legal acks P J → version m.receiver J ≤ v → Since J → sent k J ≡ Some m → holds m.receiver (key_of b.id) J ≡ true
      read-piece J l low s f =
          let x = recipient-of J l f s in
          let w = was-prepared acks P J l line x.preparing x.was_prepared in
          let same : w.begin ≡ b = (let y = w.begun in let z = s.begun in cc) in
          let inside : contains (x.preparing).row (key_of b.id) ≡ true = subst (λ (y : Beginning). contains (x.preparing).row (key_of y.id) ≡ true) same w.inside in
          let o : IsOpen v line b x.preparing J = record { began = s.begun; version = x.version ∙ at; prepared = x.was_prepared; unclosed = s.unclosed } in
          let h = recipient-holds acks P J l v m.receiver line b x.preparing (key_of b.id) o x.recipient inside in
          took-piece acks P some J l v h.round m.receiver h.bucket h.union (key_of b.id) h.took h.inside h.free low

      read-lacks : (J : Journal) → Legal acks P J → version m.receiver J ≤ v → Since J → sent k J ≡ Some m → Lacks J m.receiver m.body → ⊥
      read-lacks J l low s f h = let x : holds m.receiver (key_of b.id) J ≡ false = subst (λ (y : Body). Lacks J m.receiver y) is h in true≢false (sym (read-piece J l low s f) ∙ x)

      pub known-read : (J : Journal) → Legal acks P J → Since J → sent k J ≡ Some m → first_reply k J ≡ Some r → IsHeard r ⊎ IsFenced r
      known-read J l s f g = known-reply acks P v k m r at Since since-before (λ y h low known was. (read-lacks y h low known was, λ x. subst (λ (c : Body). Differ y m.receiver c) is x)) J l s f g
