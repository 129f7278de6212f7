-- What each row of the tables is answered.
use Rattle.std.proofs.Common.{◌≡◌, ◌≢◌, ◌⊎◌, ℕ, Bool, true, false, List, [], ◌∷◌, Option, Some, IfSome, inl, inr, refl, sym, ap, ◌∙◌, subst}
use Rattle.cluster_states.specs.declared.cluster_state.ClusterState.{ClusterState}
use Rattle.bucket_ids.specs.Buckets.{Low}
use Rattle.ideal_nodes.specs.Placement.{IsOwner}
use Rattle.messages.specs.declared.operation.Operation.{Operation}
use Rattle.proof_basics.proofs.Options.{some_same as some-same}
use Rattle.lane_journals.specs.Buckets.{key_of}
use Rattle.lane_journals.specs.Readers.{held}
use Rattle.lane_journals.specs.Meanings.{history}
use Rattle.lane_journals.specs.Places.{state_in}
use Rattle.lane_journals.specs.declared.event.LaneEvent.{LaneEvent}
use Rattle.lane_journals.proofs.Rows.{same-row}
use Rattle.lane_keeping.specs.Acting.{IsActing, IsKnownRow}
use Rattle.lane_keeping.specs.Tidings.{heard_next, is_older, last_state}
use Rattle.lane_keeping.proofs.Acting.{one-owner}
use Rattle.upkeep_spans.specs.declared.answers.Upkeep.{Upkeep}
use Rattle.upkeep_spans.specs.declared.answers.Upkeep.TheVariants as upkeep
use Rattle.lane_calls.specs.declared.progress.UnderWay.{UnderWay}
use Rattle.lane_calls.specs.declared.answers.Advance.{Advance}
use Rattle.lane_calls.specs.declared.answers.Advance.TheVariants as advance
use Rattle.lane_calls.specs.declared.answers.Begin.{Begin}
use Rattle.lane_calls.specs.declared.answers.Begin.TheVariants as begin
use Rattle.lane_calls.specs.declared.answers.Hear.{Hear}
use Rattle.lane_calls.specs.declared.answers.Hear.TheVariants as hear
use Rattle.lane_calls.specs.LaneValues.{LaneValue, OfFirst, OfNone, IsBehind, IsBegunAt, IsOfDocument, IsAny, IsPreparedIn, IsHearing, IsBeginning, IsBeginningAtOwner}
use Rattle.lane_calls.specs.Upkept.{IsUpkept}
use Rattle.lane_core.specs.Advancing.{IsHindered, IsAdvance, Advances}
use Rattle.lane_tables.specs.Tables.{AreThree, SameDocument, OtherDocuments, HeardBetween, HeardByAnother, HeardAlready, OwnerBehind, SameRow, OtherRows, AreAnswers}
use Rattle.lane_tables.proofs.Firsts.{firsts-same, get-second, of-three, first-is, second-is, third-of}

-- ---- begin

-- who acts under a state holds no other
not-refused : (lane : Low) (J : List LaneEvent) (via : ℕ) (s t : ClusterState) → IsActing lane J via s → held via (history J) ≡ Some t.version → state_in t.version J ≡ Some t → (IsOwner lane t via → ⊥) → ⊥
not-refused lane J via s t acting holds published off =
    let v : s.version ≡ t.version = some-same s.version t.version (sym acting.holds ∙ holds) in
    let same : s ≡ t = some-same s t (sym acting.published ∙ ap (λ (n : ℕ). state_in n J) v ∙ published) in
    off (subst (λ (z : ClusterState). IsOwner lane z via) same acting.owner)

same-document : (old new : LaneValue) (line : ℕ) (o : Operation) (via : ℕ) (answer : Begin) → SameDocument old o via → IsBeginning line o via old new answer → ((answer ≡ begin.Held 2) ⊎ (answer ≡ begin.NoMemory)) × (new ≡ old)
same-document old new line o via begin.Begun r h = absurd (h.free 1 r.b (get-second old.under_way r.a r.b r.c r.three) r.same)
same-document old new line o via (begin.Refused x) r h = absurd (not-refused old.lane old.journal via r.state h.state r.acting h.holds h.published h.not_owner)
same-document old new line o via (begin.Held by) r h =
    (inl (ap (λ (n : ℕ). begin.Held n) (firsts-same (IsOfDocument o.id) old.under_way by 2 h.first (second-is old.under_way r.a r.b r.c r.three (IsOfDocument o.id) r.other r.same))), h.same)
same-document old new line o via begin.NoMemory r h = (inr refl, h)

other-documents : (old new : LaneValue) (line : ℕ) (o : Operation) (via : ℕ) (answer : Begin) → OtherDocuments old o via → IsBeginning line o via old new answer → (answer ≡ begin.Begun) ⊎ (answer ≡ begin.NoMemory)
other-documents old new line o via begin.Begun r h = inl refl
other-documents old new line o via (begin.Refused x) r h = absurd (not-refused old.lane old.journal via r.state h.state r.acting h.holds h.published h.not_owner)
other-documents old new line o via (begin.Held by) r h =
    let f = h.first in
    absurd (of-three old.under_way r.a r.b r.c r.three (λ (u : UnderWay). u.operation.id ≢ o.id) r.first r.second r.third f.at f.operation (f.place).found f.is)
other-documents old new line o via begin.NoMemory r h = inr refl

-- ---- hear

behind-so : (d : ℕ) (J : List LaneEvent) (s : ClusterState) → last_state J ≡ Some s → is_older (held d (history J)) s.version ≡ true → IsBehind d J
behind-so d J s newest b = subst (λ (o : Option ClusterState). IfSome o (λ (z : ClusterState). is_older (held d (history J)) z.version ≡ true)) (sym newest) b

behind-of : (d : ℕ) (J : List LaneEvent) (s : ClusterState) → last_state J ≡ Some s → IsBehind d J → is_older (held d (history J)) s.version ≡ true
behind-of d J s newest b = subst (λ (o : Option ClusterState). IfSome o (λ (z : ClusterState). is_older (held d (history J)) z.version ≡ true)) newest b

version-of : (version : ℕ) (J : List LaneEvent) (s : ClusterState) → last_state J ≡ Some s → IfSome (last_state J) (λ (z : ClusterState). version ≡ z.version) → version ≡ s.version
version-of version J s newest is = subst (λ (o : Option ClusterState). IfSome o (λ (z : ClusterState). version ≡ z.version)) newest is

first-between : (old : LaneValue) (d : ℕ) → HeardBetween old d → OfFirst (IsBegunAt d) old.under_way 2
first-between old d r = second-is old.under_way r.a r.b r.c r.three (IsBegunAt d) r.other r.same

not-between : (old : LaneValue) (d : ℕ) → HeardBetween old d → (IsBehind d old.journal → OfNone (IsBegunAt d) old.under_way) → ⊥
not-between old d r free = free (behind-so d old.journal r.state r.newest r.behind) 1 r.b (get-second old.under_way r.a r.b r.c r.three) r.same

heard-between : (old new : LaneValue) (d : ℕ) (answer : Hear) → HeardBetween old d → IsHearing d old new answer → ((answer ≡ hear.Held 2) ⊎ (answer ≡ hear.NoMemory)) × (new ≡ old)
heard-between old new d (hear.Heard version) r h = absurd (not-between old d r h.free)
heard-between old new d (hear.Held by) r h = (inl (ap (λ (n : ℕ). hear.Held n) (firsts-same (IsBegunAt d) old.under_way by 2 h.first (first-between old d r))), h.same)
heard-between old new d hear.NoMemory r h = (inr refl, h)

heard-by-another : (old new : LaneValue) (d : ℕ) (s : ClusterState) (answer : Hear) → HeardByAnother old d s → IsHearing d old new answer → (answer ≡ hear.Heard s.version) ⊎ (answer ≡ hear.NoMemory)
heard-by-another old new d s (hear.Heard version) r h = inl (ap (λ (n : ℕ). hear.Heard n) (version-of version old.journal s r.newest h.version_is))
heard-by-another old new d s (hear.Held by) r h =
    let f = h.first in
    absurd (of-three old.under_way r.a r.b r.c r.three (λ (u : UnderWay). u.distributor ≢ d) r.first r.second r.third f.at f.operation (f.place).found f.is)
heard-by-another old new d s hear.NoMemory r h = inr refl

-- who isn't behind hears nothing
heard-nothing : (d : ℕ) (J : List LaneEvent) (s : ClusterState) → last_state J ≡ Some s → is_older (held d (history J)) s.version ≡ false → heard_next d (last_state J) J ≡ J
heard-nothing d J s newest holds = ap (λ (o : Option ClusterState). heard_next d o J) newest ∙ rw holds refl

clash : (b : Bool) → b ≡ true → b ≡ false → ⊥
clash b t f = let wrong : true ≡ false = sym t ∙ f in cc

heard-already : (old new : LaneValue) (d : ℕ) (s : ClusterState) (answer : Hear) → HeardAlready old d s → IsHearing d old new answer → ((answer ≡ hear.Heard s.version) ⊎ (answer ≡ hear.NoMemory)) × (new ≡ old)
heard-already old new d s (hear.Heard version) r h =
    (inl (ap (λ (n : ℕ). hear.Heard n) (version-of version old.journal s r.newest h.version_is)), h.after ∙ ap (λ (K : List LaneEvent). record old { journal = K }) (heard-nothing d old.journal s r.newest r.holds))
heard-already old new d s (hear.Held by) r h = absurd (clash _ (behind-of d old.journal s r.newest h.behind) r.holds)
heard-already old new d s hear.NoMemory r h = (inr refl, h)

-- ---- begin at the owner

-- it is the owner of which the row speaks
owner-is : (old : LaneValue) (r : OwnerBehind old) (owner : ℕ) (state : ClusterState) → last_state old.journal ≡ Some state → IsOwner old.lane state owner → owner ≡ r.owner
owner-is old r owner state newest owns =
    let same : state ≡ (r.between).state = some-same state (r.between).state (sym newest ∙ (r.between).newest) in
    one-owner old.lane (r.between).state owner r.owner (subst (λ (z : ClusterState). IsOwner old.lane z owner) same owns) r.owns

between-at : (old : LaneValue) (r : OwnerBehind old) (owner : ℕ) → owner ≡ r.owner → HeardBetween old owner
between-at old r owner same = subst (HeardBetween old) (sym same) r.between

owner-behind : (old new : LaneValue) (line : ℕ) (o : Operation) (answer : Begin) → OwnerBehind old → IsBeginningAtOwner line o old new answer → ((answer ≡ begin.Held 2) ⊎ (answer ≡ begin.NoMemory)) × (new ≡ old)
owner-behind old new line o begin.Begun r h =
    absurd (not-between old h.owner (between-at old r h.owner (owner-is old r h.owner h.state h.newest (h.acting).owner)) h.free_to_hear)
owner-behind old new line o (begin.Refused x) r h = absurd h
owner-behind old new line o (begin.Held by) r h =
    let between = between-at old r h.owner (owner-is old r h.owner h.state h.newest h.owns) in (
      inl (ap (λ (n : ℕ). begin.Held n) (elim h.cause [
        | inl heard ↦ firsts-same (IsBegunAt h.owner) old.under_way by 2 heard.1 (first-between old h.owner between)
        | inr other ↦ absurd (not-between old h.owner between other.0)
      ])),
      h.same,
    )
owner-behind old new line o begin.NoMemory r h = (inr refl, h)

-- ---- advance

-- one line stands against it
one-hinders : (u : UnderWay) (v : LaneValue) (x y : ℕ) → IsHindered u v x → IsHindered u v y → x ≡ y
one-hinders u v x y h k =
    let version : h.state.version ≡ k.state.version = some-same h.state.version k.state.version (sym (h.acting).holds ∙ (k.acting).holds) in
    let known : IsKnownRow k.state.version (history v.journal) h.row = subst (λ (n : ℕ). IsKnownRow n (history v.journal) h.row) version h.known in
    let bucket : h.row.bucket ≡ k.row.bucket = same-row k.state.version h.row.bucket k.row.bucket (history v.journal) (key_of u.operation.id) known.is_row (k.known).is_row h.inside k.inside in
    firsts-same (IsPreparedIn v.journal u.distributor k.row.bucket) v.under_way x y (subst (λ (b : Low). OfFirst (IsPreparedIn v.journal u.distributor b) v.under_way x) bucket h.first) k.first

same-row-waits : (old new : LaneValue) (at : ℕ) (c : UnderWay) (answer : Advance) → IsHindered c old 1 → Advances at c old new answer → ((answer ≡ advance.Waits 1) × (new ≡ old)) ⊎ (answer ≡ advance.NoMemory)
same-row-waits old new at c advance.More r h = absurd ((h.0).free 1 r)
same-row-waits old new at c (advance.Waits by) r h = inl (ap (λ (n : ℕ). advance.Waits n) (one-hinders c old by 1 h.0 r), h.1)
same-row-waits old new at c advance.Done r h = absurd ((h.1).free 1 r)
same-row-waits old new at c advance.NoMemory r h = inr refl

same-row-answers : (old new : LaneValue) (answer : Advance) → SameRow old → IsAdvance 3 old new answer → ((answer ≡ advance.Waits 1) × (new ≡ old)) ⊎ (answer ≡ advance.NoMemory)
same-row-answers old new answer r h =
    let third : h.operation ≡ r.c = third-of old.under_way r.a r.b r.c r.three h.at h.operation h.place in
    same-row-waits old new h.at r.c answer r.hindered (subst (λ (u : UnderWay). Advances h.at u old new answer) third h.advances)

other-rows : (old new : LaneValue) (by : ℕ) → OtherRows old → IsAdvance 3 old new (advance.Waits by) → ⊥
other-rows old new by r h =
    let third : h.operation ≡ r.c = third-of old.under_way r.a r.b r.c r.three h.at h.operation h.place in
    r.free by (subst (λ (u : UnderWay). IsHindered u old by) third (h.advances).0)

-- ---- upkeep

not-none : (us : List UnderWay) (a b c : UnderWay) → AreThree us a b c → us ≡ [] → ⊥
not-none us a b c t none = let wrong : ◌≡◌ {A = List UnderWay} (a ∷ b ∷ c ∷ []) [] = sym t.are ∙ none in cc

upkeep-held : (old new : LaneValue) (a b c : UnderWay) (answer : Upkeep) → AreThree old.under_way a b c → IsUpkept old new answer → (answer ≡ upkeep.Held 1) × (new ≡ old)
upkeep-held old new a b c upkeep.Rested t h = absurd (not-none old.under_way a b c t h.0)
upkeep-held old new a b c (upkeep.Blocked absent) t h = absurd (not-none old.under_way a b c t h.0)
upkeep-held old new a b c (upkeep.Disturbed message) t h = absurd (not-none old.under_way a b c t h.0)
upkeep-held old new a b c (upkeep.Held by) t h = (ap (λ (n : ℕ). upkeep.Held n) (firsts-same IsAny old.under_way by 1 h.0 (first-is old.under_way a b c t IsAny tt)), h.1)
upkeep-held old new a b c upkeep.NoMemory t h = absurd (not-none old.under_way a b c t h.0)

pub are-answers : AreAnswers
are-answers = record {
  same_document = same-document;
  other_documents = other-documents;
  heard_between = heard-between;
  heard_by_another = heard-by-another;
  heard_already = heard-already;
  owner_behind = owner-behind;
  same_row = same-row-answers;
  other_rows = other-rows;
  upkeep_held = upkeep-held;
}
