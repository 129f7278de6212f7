-- States may be taken from the journal or be given.
use Rattle.std.proofs.Common.{◌≡◌, ℕ, ◌<◌, Bool, true, false, [], ◌∷◌, refl, sym, ◌∙◌, arith, eqb, eq-eqb, cond, ap}
use Rattle.std.proofs.lemmas.Bool.Decides.{nat_tests}
use Rattle.lane_journals.specs.Events.{Body, Ask, Read, ReadDoc, Store, Apply, Delete, Split, Join, Ready, Activate, Event, Published, Heard, Begun, Opened, Prepared, Wrote, Sent, Delivered, Returned, Closed, Decided, Refused, Stopped, Started}
use Rattle.lane_journals.specs.Readers.{Journal, published}
use Rattle.lane_journals.specs.Legal.{MayCarry, Permits, Legal}
use Rattle.lane_journals.specs.States.{state_of, LegalByStates}
use Rattle.std.proofs.lemmas.Bool.{eqb-true}
use Rattle.lane_journals.proofs.Basics.{published-stays}
use Rattle.lane_journals.proofs.Basics.{held-published}

module _ (acks : ℕ) (P Q : ℕ → ℕ → Bool) where
  -- Q says of the published versions what P says
  abbrev pub Agree : Journal → Type 0
  Agree J = (v n : ℕ) → published v J ≡ true → P v n ≡ Q v n

  carry-agrees : (J : Journal) → Agree J → (v n : ℕ) (b : Body) → published v J ≡ true → MayCarry P J v n b → MayCarry Q J v n b
  carry-agrees J same v n (Apply b u) pub-v c = record { under_way = c.under_way; covers = λ m h. c.covers m (same v m pub-v ∙ h); attained = c.attained }
  carry-agrees J same v n Ask pub-v c = c
  carry-agrees J same v n (Read b) pub-v c = c
  carry-agrees J same v n (ReadDoc id) pub-v c = c
  carry-agrees J same v n (Store id s) pub-v c = c
  carry-agrees J same v n (Delete b s) pub-v c = c
  carry-agrees J same v n (Split b) pub-v c = c
  carry-agrees J same v n (Join b) pub-v c = c
  carry-agrees J same v n (Ready b) pub-v c = c
  carry-agrees J same v n (Activate b) pub-v c = c

  pub permits-agree : (J : Journal) (e : Event) → Legal acks Q J → Agree (e ∷ J) → Permits acks P J e → Permits acks Q J e
  permits-agree J (Published v set) l same p = record { newest = p.newest; nodes = λ n. p.nodes n ∙ same v n (rw (eq-eqb v v refl) refl); small = p.small; inhabited = p.inhabited; few = p.few }
  permits-agree J (Opened d v rows) l same p = record { holder = p.holder; parted = p.parted; once = p.once; all = λ n h. p.all n (same v n p.state ∙ h); state = p.state }
  permits-agree J (Sent k v d n b) l same p = let pub-v = held-published acks Q J l d v p.holder in
      record { greater = p.greater; holder = p.holder; member = sym (same v n pub-v) ∙ p.member; timing = p.timing; carries = carry-agrees J same v n b pub-v p.carries }
  permits-agree J (Heard d v) l same p = p
  permits-agree J (Begun k d v id s) l same p = p
  permits-agree J (Prepared k b set) l same p = p
  permits-agree J (Wrote k kind) l same p = p
  permits-agree J (Delivered k r) l same p = p
  permits-agree J (Returned k) l same p = p
  permits-agree J (Closed k ok) l same p = p
  permits-agree J (Decided d v x) l same p = p
  permits-agree J (Refused line d v) l same p = p
  permits-agree J (Stopped n) l same p = p
  permits-agree J (Started n) l same p = p

-- a state stands once it is published
pub state-stays : (acks : ℕ) (P : ℕ → ℕ → Bool) (J : Journal) (e : Event) → Permits acks P J e → (v n : ℕ) → published v J ≡ true → state_of (e ∷ J) v n ≡ state_of J v n
state-stays acks P J (Published w set) p v n h = let lt = p.newest v h in rw (other w v lt) refl
  where
    other : (w v : ℕ) → v < w → eqb w v ≡ false
    other w v lt = grind (arith, nat_tests)
state-stays acks P J _ p v n h = refl

pub legal-with : (acks : ℕ) (J : Journal) → LegalByStates acks J → (Q : ℕ → ℕ → Bool) → ((v n : ℕ) → published v J ≡ true → state_of J v n ≡ Q v n) → Legal acks Q J
legal-with acks [] l Q same = tt
legal-with acks (e ∷ J) l Q same =
    let ih = legal-with acks J l.0 Q (λ v n h. sym (state-stays acks (state_of (e ∷ J)) J e l.1 v n h) ∙ same v n (published-stays v J e h)) in
    (ih, permits-agree acks (state_of (e ∷ J)) Q J e ih same l.1)

pub legal-states : (acks : ℕ) (J : Journal) → LegalByStates acks J → Legal acks (state_of J) J
legal-states acks J l = legal-with acks J l (state_of J) (λ v n h. refl)

-- a given state is the one that was published
pub states-agree : (acks : ℕ) (Q : ℕ → ℕ → Bool) (J : Journal) → Legal acks Q J → (v n : ℕ) → published v J ≡ true → state_of J v n ≡ Q v n
states-agree acks Q [] l v n h = cc
states-agree acks Q (Published w set ∷ J) l v n h = by_case (eqb w v) refl h (states-agree acks Q J l.0 v n)
  where
    by_case : (t : Bool) → eqb w v ≡ t → cond t true (published v J) ≡ true → (published v J ≡ true → state_of J v n ≡ Q v n) → cond t (set n) (state_of J v n) ≡ Q v n
    by_case true e h ih = (l.1).nodes n ∙ ap (λ (x : ℕ). Q x n) (eqb-true w v e)
    by_case false e h ih = ih h
states-agree acks Q (_ ∷ J) l v n h = states-agree acks Q J l.0 v n h
