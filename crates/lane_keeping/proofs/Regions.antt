-- The regions of a node are over the keys of the Activates that it accepted at its version.
use Rattle.std.proofs.Common.{◌≡◌, ◌||◌, ◌⊎◌, inl, inr, not, ℕ, ◌≤◌, max, nat_lt, Bool, true, false, cond, List, [], ◌∷◌, filter, refl, sym, ap, ap₂, ◌∙◌, subst, arith, Some, eqb, eq-eqb, eqb-true}
use mathlib.Core.Bool.{true≢false}
use Rattle.std.proofs.lemmas.Bool.Decides.{nat_tests}
use Rattle.std.specs.List.{list_any}
use Rattle.bucket_ids.specs.Buckets as ids
use Rattle.view_changes.specs.Shown.{with_region}
use Rattle.lane_journals.specs.Buckets.{Bucket, contains}
use Rattle.lane_journals.specs.Events.{Body, Ask, Read, ReadDoc, Store, Apply, Delete, Split, Join, Ready, Activate, Reply, Answer, Newer, NoBucket, Differs, NoMemory, Event, Delivered}
use Rattle.lane_journals.specs.Readers.{Journal, Message, sent, Accepted, is_answer, version}
use Rattle.lane_journals.specs.Facts.{InRegion}
use Rattle.lane_journals.specs.Legal.{Replies, MayDeliver, Legal}
use Rattle.lane_journals.proofs.Basics.{sent-stays, Accepted-stays, accepted-cases, accepted-sent, sent_before, version-grows}
use Rattle.lane_journals.proofs.BucketLaws.{covers-contains}
use Rattle.lane_keeping.specs.NodeKeeping.{activated_regions, regions}
use Rattle.lane_keeping.proofs.Words.{or-last, covers-is}

abbrev pub within : ℕ → List Bucket → Bool
within key rs = list_any (λ b. contains b key) rs

-- ---- one region more

covering : (b : Bucket) (key : ℕ) → contains b key ≡ true → (rs : List Bucket) → list_any (λ r. ids.covers r b) rs ≡ true → within key rs ≡ true
covering b key i [] h = absurd (true≢false (sym h))
covering b key i (r ∷ rs) h = by_test (ids.covers r b) refl h (covering b key i rs)
  where
    by_test : (t : Bool) → ids.covers r b ≡ t → (t || list_any (λ r. ids.covers r b) rs) ≡ true → (list_any (λ r. ids.covers r b) rs ≡ true → within key rs ≡ true) → (contains r key || within key rs) ≡ true
    by_test true e h ih = ap (λ t. t || within key rs) (covers-contains r b key (covers-is r b ∙ e) i)
    by_test false e h ih = or-last (contains r key) (within key rs) (ih h)

dropped : (b : Bucket) (key : ℕ) (rs : List Bucket) → (contains b key || within key (filter (λ r. not (ids.covers b r)) rs)) ≡ (contains b key || within key rs)
dropped b key [] = refl
dropped b key (r ∷ rs) = by_test (ids.covers b r) refl (contains b key) refl (contains r key) refl (dropped b key rs)
  where
    by_test : (t : Bool) → ids.covers b r ≡ t → (u : Bool) → contains b key ≡ u → (v : Bool) → contains r key ≡ v
        → (contains b key || within key (filter (λ r. not (ids.covers b r)) rs)) ≡ (contains b key || within key rs)
        → (u || within key (cond (not t) (r ∷ filter (λ r. not (ids.covers b r)) rs) (filter (λ r. not (ids.covers b r)) rs))) ≡ (u || (v || within key rs))
    by_test t e true f v g ih = refl
    by_test true e false f true g ih = absurd (true≢false (sym (covers-contains b r key (covers-is b r ∙ e) g) ∙ f))
    by_test true e false f false g ih = sym (ap (λ x. x || within key (filter (λ r. not (ids.covers b r)) rs)) f) ∙ ih ∙ ap (λ x. x || within key rs) f
    by_test false e false f v g ih = ap₂ (λ x y. x || y) g (sym (ap (λ x. x || within key (filter (λ r. not (ids.covers b r)) rs)) f) ∙ ih ∙ ap (λ x. x || within key rs) f)

pub within-region : (b : Bucket) (key : ℕ) (rs : List Bucket) → within key (with_region b rs) ≡ (contains b key || within key rs)
within-region b key rs = by_test (list_any (λ r. ids.covers r b) rs) refl
  where
    absorbed : (u : Bool) → contains b key ≡ u → list_any (λ r. ids.covers r b) rs ≡ true → within key rs ≡ (u || within key rs)
    absorbed true f e = covering b key f rs e
    absorbed false f e = refl

    by_test : (t : Bool) → list_any (λ r. ids.covers r b) rs ≡ t → within key (cond t rs (b ∷ filter (λ r. not (ids.covers b r)) rs)) ≡ (contains b key || within key rs)
    by_test true e = absorbed (contains b key) refl e
    by_test false e = dropped b key rs

-- ---- journals

abbrev replied : Reply → Body → List Bucket → List Bucket
replied (Answer x names) y rs = activated_regions y rs
replied _ y rs = rs

module _ (H : Journal) (k n : ℕ) (m : Message) (was_sent : sent k H ≡ Some m) where
  regions-here : eqb m.receiver n ≡ true → (r : Reply) → regions n (Delivered k r ∷ H) ≡ replied r m.body (cond (nat_lt (version n H) m.version) [] (regions n H))
  regions-here e (Answer x names) = rw (was_sent, e) refl
  regions-here e (Newer w) = rw (was_sent, e) refl
  regions-here e NoBucket = rw (was_sent, e) refl
  regions-here e Differs = rw (was_sent, e) refl
  regions-here e NoMemory = rw (was_sent, e) refl

  regions-other : eqb m.receiver n ≡ false → (r : Reply) → regions n (Delivered k r ∷ H) ≡ regions n H
  regions-other e (Answer x names) = rw (was_sent, e) refl
  regions-other e (Newer w) = rw (was_sent, e) refl
  regions-other e NoBucket = rw (was_sent, e) refl
  regions-other e Differs = rw (was_sent, e) refl
  regions-other e NoMemory = rw (was_sent, e) refl

  version-here : eqb m.receiver n ≡ true → (r : Reply) → version n (Delivered k r ∷ H) ≡ max m.version (version n H)
  version-here e r = rw (was_sent, e) refl

  version-other : eqb m.receiver n ≡ false → (r : Reply) → version n (Delivered k r ∷ H) ≡ version n H
  version-other e r = rw (was_sent, e) refl

stays : (v n key : ℕ) (H : Journal) (e : Event) → InRegion v n key H → InRegion v n key (e ∷ H)
stays v n key H e h = record {
  number = h.number;
  message = h.message;
  bucket = h.bucket;
  was_sent = sent-stays h.number H h.message e h.was_sent;
  receiver = h.receiver;
  version = h.version;
  body = h.body;
  accepted = Accepted-stays h.number H e h.accepted;
  inside = h.inside;
}

not_lt : (a b : ℕ) → nat_lt a b ≡ false → max b a ≡ a
not_lt a b e = grind (arith, nat_tests)

grown : (key : ℕ) (r : Reply) (y : Body) (rs : List Bucket) → within key rs ≡ true → within key (replied r y rs) ≡ true
grown key (Answer x names) (Activate b) rs h = within-region b key rs ∙ or-last (contains b key) (within key rs) h
grown key (Answer x names) Ask rs h = h
grown key (Answer x names) (Read b) rs h = h
grown key (Answer x names) (ReadDoc i) rs h = h
grown key (Answer x names) (Store i s) rs h = h
grown key (Answer x names) (Apply b u) rs h = h
grown key (Answer x names) (Delete b s) rs h = h
grown key (Answer x names) (Split b) rs h = h
grown key (Answer x names) (Join b) rs h = h
grown key (Answer x names) (Ready b) rs h = h
grown key (Newer w) y rs h = h
grown key NoBucket y rs h = h
grown key Differs y rs h = h
grown key NoMemory y rs h = h

-- where a key comes from
came : (key : ℕ) (r : Reply) (y : Body) (rs : List Bucket) → within key (replied r y rs) ≡ true → ((b : Bucket) × (y ≡ Activate b) × (is_answer r ≡ true) × (contains b key ≡ true)) ⊎ (within key rs ≡ true)
came key (Answer x names) (Activate b) rs h = by_test (contains b key) refl (sym (within-region b key rs) ∙ h)
  where
    by_test : (t : Bool) → contains b key ≡ t → (t || within key rs) ≡ true → ((c : Bucket) × (Activate b ≡ Activate c) × (true ≡ true) × (contains c key ≡ true)) ⊎ (within key rs ≡ true)
    by_test true e g = inl (b, refl, refl, e)
    by_test false e g = inr g
came key (Answer x names) Ask rs h = inr h
came key (Answer x names) (Read b) rs h = inr h
came key (Answer x names) (ReadDoc i) rs h = inr h
came key (Answer x names) (Store i s) rs h = inr h
came key (Answer x names) (Apply b u) rs h = inr h
came key (Answer x names) (Delete b s) rs h = inr h
came key (Answer x names) (Split b) rs h = inr h
came key (Answer x names) (Join b) rs h = inr h
came key (Answer x names) (Ready b) rs h = inr h
came key (Newer w) y rs h = inr h
came key NoBucket y rs h = inr h
came key Differs y rs h = inr h
came key NoMemory y rs h = inr h

module _ (acks : ℕ) (P : ℕ → ℕ → Bool) where
  -- a message that a node accepted is of no greater version than the node
  accepted-version : (H : Journal) → Legal acks P H → (k : ℕ) (m : Message) → sent k H ≡ Some m → Accepted k H → m.version ≤ version m.receiver H
  accepted-version [] l k m s a = absurd a
  accepted-version (e ∷ H) l k m s a = elim (accepted-cases k H e a) [
    | inl old ↦ (let was = accepted-sent acks P H l.0 k old in
        let before = sent_before acks P H k e m was s in
        let low = accepted-version H l.0 k m before old in let up = version-grows m.receiver H e in omega (arith, low, up))
    | inr new ↦ (let d : MayDeliver H k new.0 = rw new.1 at l.1 in
        let before = sent_before acks P H k e m (d.message, d.was_sent) s in
        subst (λ (x : Event). m.version ≤ version m.receiver (x ∷ H)) (sym new.1)
        (let is = version-here H k m.receiver m before (eq-eqb m.receiver m.receiver refl) new.0 in omega (arith, is)))
  ]

  said-delivered : (H : Journal) (k : ℕ) (r : Reply) → Legal acks P (Delivered k r ∷ H) → (n key : ℕ) → (within key (regions n H) ≡ true → InRegion (version n H) n key H)
      → within key (regions n (Delivered k r ∷ H)) ≡ true → InRegion (version n (Delivered k r ∷ H)) n key (Delivered k r ∷ H)
  said-delivered H k r l n key ih h = by_node (eqb m.receiver n) refl
    where
      p : MayDeliver H k r
      p = l.1

      m : Message
      m = p.message

      kept : eqb m.receiver n ≡ true → within key (cond (nat_lt (version n H) m.version) [] (regions n H)) ≡ true → InRegion (version n (Delivered k r ∷ H)) n key (Delivered k r ∷ H)
      kept e g = by_test (nat_lt (version n H) m.version) refl g
        where
          by_test : (t : Bool) → nat_lt (version n H) m.version ≡ t → within key (cond t [] (regions n H)) ≡ true → InRegion (version n (Delivered k r ∷ H)) n key (Delivered k r ∷ H)
          by_test true f g = absurd (true≢false (sym g))
          by_test false f g = subst (λ v. InRegion v n key (Delivered k r ∷ H)) (sym (version-here H k n m p.was_sent e r ∙ not_lt (version n H) m.version f)) (stays (version n H) n key H (Delivered k r) (ih g))

      by_node : (t : Bool) → eqb m.receiver n ≡ t → InRegion (version n (Delivered k r ∷ H)) n key (Delivered k r ∷ H)
      by_node false e = subst (λ v. InRegion v n key (Delivered k r ∷ H)) (sym (version-other H k n m p.was_sent e r))
          (stays (version n H) n key H (Delivered k r) (ih (sym (ap (within key) (regions-other H k n m p.was_sent e r)) ∙ h)))
      by_node true e = elim (came key r m.body (cond (nat_lt (version n H) m.version) [] (regions n H)) (sym (ap (within key) (regions-here H k n m p.was_sent e r)) ∙ h)) [
        | inl new ↦ record {
          number = k;
          message = m;
          bucket = new.0;
          was_sent = sent-stays k H m (Delivered k r) p.was_sent;
          receiver = eqb-true _ _ e;
          version = own_version r new.2 p.reply ∙ sym (version-here H k n m p.was_sent e r);
          body = new.1;
          accepted = inl (refl, new.2);
          inside = new.3;
        }
        | inr old ↦ kept e old
      ]
        where
          greater : (a b : ℕ) → b ≤ a → a ≡ max a b
          greater a b h = omega arith

          own_version : (r : Reply) → is_answer r ≡ true → Replies H m r → m.version ≡ max m.version (version n H)
          own_version (Answer x names) i q = greater m.version (version n H) (subst (λ j. version j H ≤ m.version) (eqb-true _ _ e) q.low)
          own_version (Newer w) i q = absurd (true≢false (sym i))
          own_version NoBucket i q = absurd (true≢false (sym i))
          own_version Differs i q = absurd (true≢false (sym i))
          own_version NoMemory i q = absurd (true≢false (sym i))

  pub said : (H : Journal) → Legal acks P H → (n key : ℕ) → within key (regions n H) ≡ true → InRegion (version n H) n key H
  said [] l n key h = absurd (true≢false (sym h))
  said (Delivered k r ∷ H) l n key h = said-delivered H k r l n key (said H l.0 n key) h
  said (e ∷ H) l n key h = stays (version n H) n key H e (said H l.0 n key h)

  -- and back: what was accepted at the node's version is there
  module _ (H : Journal) (l : Legal acks P H) (n key : ℕ) (ih : InRegion (version n H) n key H → within key (regions n H) ≡ true) where
    earlier : (v : ℕ) (g : InRegion v n key H) → version n H ≤ v → (version n H ≡ v) × (within key (regions n H) ≡ true)
    earlier v g up =
        let low : (g.message).version ≤ version n H = subst (λ i. (g.message).version ≤ version i H) g.receiver (accepted-version H l g.number g.message g.was_sent g.accepted) in
        let is : version n H ≡ v = (let e = g.version in omega (arith, low, up, e)) in
        (is, ih (subst (λ w. InRegion w n key H) (sym is) g))

    back-delivered : (k : ℕ) (r : Reply) → MayDeliver H k r → InRegion (version n (Delivered k r ∷ H)) n key (Delivered k r ∷ H) → within key (regions n (Delivered k r ∷ H)) ≡ true
    back-delivered k r p g = elim (accepted-cases g.number H (Delivered k r) g.accepted) [
      | inl old ↦ old_by (eqb (p.message).receiver n) refl (earlier (version n (Delivered k r ∷ H)) (before old) (version-grows n H (Delivered k r)))
      | inr new ↦ now new.0 new.1 new.2
    ]
      where
        before : Accepted g.number H → InRegion (version n (Delivered k r ∷ H)) n key H
        before old = record {
          number = g.number;
          message = g.message;
          bucket = g.bucket;
          was_sent = sent_before acks P H g.number (Delivered k r) g.message (accepted-sent acks P H l g.number old) g.was_sent;
          receiver = g.receiver;
          version = g.version;
          body = g.body;
          accepted = old;
          inside = g.inside;
        }

        not_raised : (a b : ℕ) → a ≡ max b a → nat_lt a b ≡ false
        not_raised a b e = grind (arith, nat_tests)

        old_by : (t : Bool) → eqb (p.message).receiver n ≡ t → (version n H ≡ version n (Delivered k r ∷ H)) × (within key (regions n H) ≡ true) → within key (regions n (Delivered k r ∷ H)) ≡ true
        old_by false e q = ap (within key) (regions-other H k n p.message p.was_sent e r) ∙ q.1
        old_by true e q =
            ap (within key) (regions-here H k n p.message p.was_sent e r)
            ∙ grown key r (p.message).body (cond (nat_lt (version n H) (p.message).version) [] (regions n H))
            (ap (λ t. within key (cond t [] (regions n H))) (not_raised (version n H) (p.message).version (q.0 ∙ version-here H k n p.message p.was_sent e r)) ∙ q.1)

        now : (s : Reply) → Delivered k r ≡ Delivered g.number s → is_answer s ≡ true → within key (regions n (Delivered k r ∷ H)) ≡ true
        now s is yes_it = new_by s (let e = is in cc) (let e = is in cc) yes_it
          where
            new_by : (s : Reply) → r ≡ s → k ≡ g.number → is_answer s ≡ true → within key (regions n (Delivered k r ∷ H)) ≡ true
            new_by (Answer x names) rs ks i =
                let own : sent g.number H ≡ Some g.message = sent_before acks P H g.number (Delivered k r) g.message (p.message, ap (λ j. sent j H) (sym ks) ∙ p.was_sent) g.was_sent in
                let at_k : sent k H ≡ Some g.message = ap (λ j. sent j H) ks ∙ own in
                ap (within key) (regions-here H k n g.message at_k (eq-eqb _ _ g.receiver) r)
                ∙ ap (λ y. within key (replied y (g.message).body (cond (nat_lt (version n H) (g.message).version) [] (regions n H)))) rs
                ∙ ap (λ y. within key (activated_regions y (cond (nat_lt (version n H) (g.message).version) [] (regions n H)))) g.body
                ∙ within-region g.bucket key (cond (nat_lt (version n H) (g.message).version) [] (regions n H))
                ∙ ap (λ t. t || within key (cond (nat_lt (version n H) (g.message).version) [] (regions n H))) g.inside
            new_by (Newer w) rs ks i = absurd (true≢false (sym i))
            new_by NoBucket rs ks i = absurd (true≢false (sym i))
            new_by Differs rs ks i = absurd (true≢false (sym i))
            new_by NoMemory rs ks i = absurd (true≢false (sym i))

  earlier-other : (H : Journal) (v n key : ℕ) → Legal acks P H → (e : Event) → ((k : ℕ) (r : Reply) → e ≡ Delivered k r → ⊥) → InRegion v n key (e ∷ H) → InRegion v n key H
  earlier-other H v n key l e no_delivery g = elim (accepted-cases g.number H e g.accepted) [
    | inl old ↦ record {
      number = g.number;
      message = g.message;
      bucket = g.bucket;
      was_sent = sent_before acks P H g.number e g.message (accepted-sent acks P H l g.number old) g.was_sent;
      receiver = g.receiver;
      version = g.version;
      body = g.body;
      accepted = old;
      inside = g.inside;
    }
    | inr new ↦ absurd (no_delivery g.number new.0 new.1)
  ]

  pub back : (H : Journal) → Legal acks P H → (n key : ℕ) → InRegion (version n H) n key H → within key (regions n H) ≡ true
  back [] l n key g = absurd g.accepted
  back (Delivered k r ∷ H) l n key g = back-delivered H l.0 n key (back H l.0 n key) k r l.1 g
  back (e ∷ H) l n key g = back H l.0 n key (earlier-other H (version n H) n key l.0 e (λ k r is. cc) g)
