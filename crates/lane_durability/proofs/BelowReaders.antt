-- Answers, marks and nodes below a version.
use Rattle.std.proofs.Common.{◌≡◌, ◌≢◌, ℕ, ◌<◌, ◌≤◌, Bool, true, false, cond, [], ◌∷◌, Option, Some, None, refl, sym, ap, ◌∙◌, subst, arith, inl, inr, ◌⊎◌, eqb, ltb, max, eq-eqb}
use Rattle.std.proofs.lemmas.Bool.{cases_lt, cases_eq}
use Rattle.std.proofs.lemmas.Bool.Decides.{nat_tests}
use Rattle.lane_journals.specs.Stamps.{Stamp}
use Rattle.lane_journals.specs.Buckets.{Bucket, across, Id}
use Rattle.lane_journals.specs.Events.{Reply, Answer, Newer, NoBucket, Differs, NoMemory, Decision, RoundBegun, RoundEnded, RowSplit, RowsJoined, ActiveOn, DeleteFrom, DeleteOver, Event, Delivered, Returned, Closed, Decided}
use Rattle.lane_journals.specs.Readers.{Journal, or_else, Beginning, began, Preparing, prepared, Message, sent, first_reply, returned, is_answer, version, after_message, store, still_after, acceptable, piece_after, holds, base, Given, is_read, given_by, answer_of, answer, answers, stored_by, answered_store, lacks, takes_mark, complete, was_named, named_after, stands, untouched_after}
use Rattle.lane_journals.specs.Legal.{Replies, MayDeliver, Permits, Legal}
use Rattle.lane_journals.specs.Below.{tells, keeps, keeps_return, keeps_line, kept, below}
use Rattle.lane_journals.specs.Pieces.{after_reply, pieces as pieces_of}
use Rattle.lane_journals.proofs.Basics.{sent_before, replied-sent, first_reply-stays, returned-replied, returned-stays, returned-cases, version-grows}
use Rattle.proof_basics.proofs.Options.{some-none}
use Rattle.lane_journals.proofs.Serials.{answer_of-parts}
use Rattle.lane_journals.proofs.Kept.{stored_by-parts}
use Rattle.lane_durability.proofs.Below.{lt-true, true-lt}
use Rattle.lane_durability.proofs.BelowLines.{low-line, prepared-below, began-below, sent-back, sent-below, told, untold, high-untold, reply-below}

returned-now : (k : ℕ) (L : Journal) (e : Event) → returned k (e ∷ L) ≡ true → (returned k L ≡ true) ⊎ ((J : Journal) → returned k (e ∷ J) ≡ true)
returned-now k L e h = elim (returned-cases k L e h) [ inl old ↦ inl old | inr is ↦ inr (λ J. rw is (rw (eq-eqb k k refl) refl)) ]

pub returned-back : (v k : ℕ) (J : Journal) → returned k (below v J) ≡ true → returned k J ≡ true
returned-back v k [] h = h
returned-back v k (e ∷ J) h = by_case (kept v J e) h (returned-back v k J)
  where
    by_case : (t : Bool) → returned k (cond t (e ∷ below v J) (below v J)) ≡ true → (returned k (below v J) ≡ true → returned k J ≡ true) → returned k (e ∷ J) ≡ true
    by_case true h ih = elim (returned-now k (below v J) e h) [ inl old ↦ returned-stays k J e (ih old) | inr new ↦ new J ]
    by_case false h ih = returned-stays k J e (ih h)

module _ (acks : ℕ) (P : ℕ → ℕ → Bool) (v : ℕ) where
  pub returned-below : (J : Journal) → Legal acks P J → (k : ℕ) (m : Message) (r : Reply) → sent k J ≡ Some m → m.version < v → first_reply k J ≡ Some r → tells v r ≡ true → returned k J ≡ true → returned k (below v J) ≡ true
  returned-below [] l k m r s lt f t h = h
  returned-below (e ∷ J) l k m r s lt f t h = elim (returned-cases k J e h) [
    | inl old ↦ (let q = returned-replied acks P J l.0 k old in
        let same : q.0 ≡ r = let x = first_reply-stays k J q.0 e q.1 in cc in
        let s' = sent_before acks P J k e m (replied-sent acks P J l.0 k q.0 q.1) s in
        keep (kept v J e) (returned-below J l.0 k m r s' lt (q.1 ∙ ap (λ (y : Reply). Some y) same) t old))
    | inr new ↦ now e new s f
  ]
    where
      keep : (x : Bool) → returned k (below v J) ≡ true → returned k (cond x (e ∷ below v J) (below v J)) ≡ true
      keep true h = returned-stays k (below v J) e h
      keep false h = h

      now : (e : Event) → e ≡ Returned k → sent k (e ∷ J) ≡ Some m → first_reply k (e ∷ J) ≡ Some r → returned k (cond (kept v J e) (e ∷ below v J) (below v J)) ≡ true
      now e is s f =
          let s' : sent k J ≡ Some m = rw is at s in
          let f' : first_reply k J ≡ Some r = rw is at f in
          rw (is, f', s', t, lt-true m.version v lt) (rw (eq-eqb k k refl) refl)

  -- ---- answers

  answers-told : (y : Option Reply) → answers (told acks P v y) ≡ answers y
  answers-told None = refl
  answers-told (Some r) = by_case (tells v r) refl
    where
      by_case : (t : Bool) → tells v r ≡ t → answers (cond t (Some r) None) ≡ is_answer r
      by_case true e = refl
      by_case false e = let x = untold acks P v r e in rw x.1 refl

  given-told : (w r n : ℕ) (m : Message) (y : Option Reply) → answer_of w r n (Some m) (told acks P v y) ≡ answer_of w r n (Some m) y
  given-told w r n m None = refl
  given-told w r n m (Some q) = by_case (tells v q) refl
    where
      none_of : (b c d e : Bool) → ◌≡◌ {A = Option Given} None (cond b (cond c (cond d (cond e None None) None) None) None)
      none_of true true true true = refl
      none_of true true true false = refl
      none_of true true false e = refl
      none_of true false d e = refl
      none_of false c d e = refl

      by_case : (t : Bool) → tells v q ≡ t → answer_of w r n (Some m) (cond t (Some q) None) ≡ answer_of w r n (Some m) (Some q)
      by_case true e = refl
      by_case false e = let x = untold acks P v q e in rw x.1 (none_of (is_read m.body) (eqb m.version w) (eqb m.round r) (eqb m.receiver n))

  -- a message is below v in both, or is v or above and in J alone, or in none
  pub sent-either : (J : Journal) → Legal acks P J → (k : ℕ) → ((m : Message) × (sent k J ≡ Some m) × (m.version < v) × (sent k (below v J) ≡ Some m) × (first_reply k (below v J) ≡ told acks P v (first_reply k J)))
      ⊎ ((sent k (below v J) ≡ None) × ((m : Message) → sent k J ≡ Some m → v ≤ m.version))
  sent-either J l k = by_sent (sent k J) refl
    where
      by_sent : (o : Option Message) → sent k J ≡ o → ((m : Message) × (sent k J ≡ Some m) × (m.version < v) × (sent k (below v J) ≡ Some m) × (first_reply k (below v J) ≡ told acks P v (first_reply k J)))
          ⊎ ((sent k (below v J) ≡ None) × ((m : Message) → sent k J ≡ Some m → v ≤ m.version))
      by_sent None f = inr (some-none _ (λ x h. let a = (sent-back acks P v J l k x h).0 in cc), λ m h. let z : None ≡ Some m = sym f ∙ h in absurd (let w : None ≡ Some m = z in cc))
      by_sent (Some m) f = elim (cases_lt m.version v) [
        | inl less ↦ inl (m, f, less, sent-below acks P v J l k m f less, reply-below acks P v J l k (λ x h. let same : m ≡ x = (let z : Some m ≡ Some x = sym f ∙ h in cc) in subst (λ (y : Message). y.version < v) same less))
        | inr more ↦ inr (
          some-none _ (λ x h. let a = sent-back acks P v J l k x h in let same : m ≡ x = (let z = a.0 in cc) in let y : x.version ≡ m.version = ap (λ (z : Message). z.version) (sym same) in let z = a.1 in absurd (omega arith)),
          λ x h. let same : m ≡ x = (let z : Some m ≡ Some x = sym f ∙ h in cc) in subst (λ (y : Message). v ≤ y.version) same more,
        )
      ]

  pub not_w : (w x : ℕ) → w < v → v ≤ x → eqb x w ≡ false
  not_w w x lt h = grind (arith, nat_tests)

  stored-below : (J : Journal) → Legal acks P J → (w : ℕ) (id : Id) (s : Stamp) (n k : ℕ) → w < v → stored_by w id s n (sent k (below v J)) (first_reply k (below v J)) ≡ stored_by w id s n (sent k J) (first_reply k J)
  stored-below J l w id s n k lt = elim (sent-either J l k) [
    | inl x ↦ rw (x.3, x.1, x.4, answers-told (first_reply k J)) refl
    | inr x ↦ rw x.0 (by_sent (sent k J) refl x.1)
  ]
    where
      by_sent : (o : Option Message) → sent k J ≡ o → ((m : Message) → sent k J ≡ Some m → v ≤ m.version) → false ≡ stored_by w id s n o (first_reply k J)
      by_sent None f h = refl
      by_sent (Some m) f h = rw (not_w w m.version lt (h m f)) refl

  given-below : (J : Journal) → Legal acks P J → (w r n k : ℕ) → w < v → answer_of w r n (sent k (below v J)) (first_reply k (below v J)) ≡ answer_of w r n (sent k J) (first_reply k J)
  given-below J l w r n k lt = elim (sent-either J l k) [
    | inl x ↦ rw (x.3, x.1, x.4) (given-told w r n x.0 (first_reply k J))
    | inr x ↦ rw x.0 (by_sent (sent k J) (first_reply k J) refl x.1)
  ]
    where
      flat : (b c d : Bool) (x : Option Given) → ◌≡◌ {A = Option Given} None (cond b (cond false (cond c (cond d x None) None) None) None)
      flat true c d x = refl
      flat false c d x = refl

      by_sent : (o : Option Message) (y : Option Reply) → sent k J ≡ o → ((m : Message) → sent k J ≡ Some m → v ≤ m.version) → None ≡ answer_of w r n o y
      by_sent None y f h = refl
      by_sent (Some m) None f h = refl
      by_sent (Some m) (Some y) f h = rw (not_w w m.version lt (h m f)) (flat (is_read m.body) (eqb m.round r) (eqb m.receiver n) (given_by y))

  -- what a dropped Returned event would have said
  dropped-stored : (J : Journal) (w : ℕ) (id : Id) (s : Stamp) (n k : ℕ) → w < v → keeps_return v (first_reply k J) (sent k J) ≡ false → stored_by w id s n (sent k J) (first_reply k J) ≡ false
  dropped-stored J w id s n k lt d = by_sent (sent k J) d
    where
      answering : (y : Reply) → is_answer y ≡ true → tells v y ≡ true
      answering (Answer x t) h = refl
      answering _ h = cc

      by_sent : (o : Option Message) → keeps_return v (first_reply k J) o ≡ false → stored_by w id s n o (first_reply k J) ≡ false
      by_sent None d = refl
      by_sent (Some m) d = by_case (stored_by w id s n (Some m) (first_reply k J)) refl
        where
          by_case : (t : Bool) → stored_by w id s n (Some m) (first_reply k J) ≡ t → t ≡ false
          by_case false e = refl
          by_case true e =
              let p = stored_by-parts w id s n m (first_reply k J) e in
              let z : keeps_return v (first_reply k J) (Some m) ≡ true = rw ((p.3).1, answering (p.3).0 (p.3).2, lt-true m.version v (let y = p.0 in omega arith)) refl in cc

  dropped-given : (J : Journal) (w r n k : ℕ) → w < v → keeps_return v (first_reply k J) (sent k J) ≡ false → answer_of w r n (sent k J) (first_reply k J) ≡ None
  dropped-given J w r n k lt d = some-none _ (λ g e.
      let p = answer_of-parts w r n (sent k J) (first_reply k J) g e in
      let z : keeps_return v (first_reply k J) (sent k J) ≡ true = rw (p.reply, p.is_message, lt-true (p.message).version v (let y = p.version in omega arith)) refl in let y = d in absurd (let q : true ≡ false = sym z ∙ d in cc))

  pub answered_store-below : (J : Journal) → Legal acks P J → (w : ℕ) (id : Id) (s : Stamp) (n : ℕ) → w < v → answered_store w id s n (below v J) ≡ answered_store w id s n J
  answered_store-below [] l w id s n lt = refl
  answered_store-below (Returned k ∷ J) l w id s n lt = by_case (keeps_return v (first_reply k J) (sent k J)) refl (answered_store-below J l.0 w id s n lt)
    where
      by_case : (t : Bool) → keeps_return v (first_reply k J) (sent k J) ≡ t → answered_store w id s n (below v J) ≡ answered_store w id s n J → answered_store w id s n (cond t (Returned k ∷ below v J) (below v J)) ≡ answered_store w id s n (Returned k ∷ J)
      by_case true d ih = rw (stored-below J l.0 w id s n k lt, ih) refl
      by_case false d ih = rw (dropped-stored J w id s n k lt d) ih
  answered_store-below (e ∷ J) l w id s n lt = plain e (answered_store-below J l.0 w id s n lt)
    where
      keep : (e : Event) → ((K : Journal) → answered_store w id s n (e ∷ K) ≡ answered_store w id s n K) → (t : Bool) → answered_store w id s n (below v J) ≡ answered_store w id s n J → answered_store w id s n (cond t (e ∷ below v J) (below v J)) ≡ answered_store w id s n (e ∷ J)
      keep e f true ih = f (below v J) ∙ ih ∙ sym (f J)
      keep e f false ih = ih ∙ sym (f J)

      plain : (e : Event) → answered_store w id s n (below v J) ≡ answered_store w id s n J → answered_store w id s n (cond (kept v J e) (e ∷ below v J) (below v J)) ≡ answered_store w id s n (e ∷ J)
      plain (Returned k) ih = by_case (keeps_return v (first_reply k J) (sent k J)) refl
        where
          by_case : (t : Bool) → keeps_return v (first_reply k J) (sent k J) ≡ t → answered_store w id s n (cond t (Returned k ∷ below v J) (below v J)) ≡ answered_store w id s n (Returned k ∷ J)
          by_case true d = rw (stored-below J l.0 w id s n k lt, ih) refl
          by_case false d = rw (dropped-stored J w id s n k lt d) ih
      plain e ih = keep e (λ K. refl) (kept v J e) ih

  pub answer-below : (J : Journal) → Legal acks P J → (w r n : ℕ) → w < v → answer w r n (below v J) ≡ answer w r n J
  answer-below [] l w r n lt = refl
  answer-below (e ∷ J) l w r n lt = plain e (answer-below J l.0 w r n lt)
    where
      left : (o : Option Given) → o ≡ or_else o None
      left None = refl
      left (Some x) = refl

      keep : (e : Event) → ((K : Journal) → answer w r n (e ∷ K) ≡ answer w r n K) → (t : Bool) → answer w r n (below v J) ≡ answer w r n J → answer w r n (cond t (e ∷ below v J) (below v J)) ≡ answer w r n (e ∷ J)
      keep e f true ih = f (below v J) ∙ ih ∙ sym (f J)
      keep e f false ih = ih ∙ sym (f J)

      plain : (e : Event) → answer w r n (below v J) ≡ answer w r n J → answer w r n (cond (kept v J e) (e ∷ below v J) (below v J)) ≡ answer w r n (e ∷ J)
      plain (Returned k) ih = by_case (keeps_return v (first_reply k J) (sent k J)) refl
        where
          by_case : (t : Bool) → keeps_return v (first_reply k J) (sent k J) ≡ t → answer w r n (cond t (Returned k ∷ below v J) (below v J)) ≡ answer w r n (Returned k ∷ J)
          by_case true d = rw (given-below J l.0 w r n k lt, ih) refl
          by_case false d = rw (dropped-given J w r n k lt d, ih) (left (answer w r n J))
      plain e ih = keep e (λ K. refl) (kept v J e) ih

  -- ---- marks

  marked-below : (J : Journal) → Legal acks P J → (w n key line : ℕ) (b : Beginning) → w < v → began line J ≡ Some b → b.version < v → takes_mark w n key (began line (below v J)) (prepared line (below v J)) (below v J) ≡ takes_mark w n key (began line J) (prepared line J) J
  marked-below J l w n key line b lt f low = rw (began-below acks P v J l line b f low, prepared-below acks P v line J l (low-line acks P v line J b f low), f) (by_prepared (prepared line J))
    where
      lacks-below : (s : Option Stamp) → lacks w b.id n (below v J) s ≡ lacks w b.id n J s
      lacks-below None = refl
      lacks-below (Some s) = rw (answered_store-below J l w b.id s n lt) refl

      by_prepared : (p : Option Preparing) → takes_mark w n key (Some b) p (below v J) ≡ takes_mark w n key (Some b) p J
      by_prepared None = refl
      by_prepared (Some p) = rw (lacks-below b.stamp) refl

  dropped-mark : (J : Journal) (w n key line : ℕ) (b : Beginning) → w < v → began line J ≡ Some b → v ≤ b.version → takes_mark w n key (began line J) (prepared line J) J ≡ false
  dropped-mark J w n key line b lt f high = rw f (by_prepared (prepared line J))
    where
      by_prepared : (p : Option Preparing) → takes_mark w n key (Some b) p J ≡ false
      by_prepared None = refl
      by_prepared (Some p) = rw (not_w w b.version lt high) refl

  pub complete-below : (J : Journal) → Legal acks P J → (w n : ℕ) → w < v → (key : ℕ) → complete w n key (below v J) ≡ complete w n key J
  complete-below [] l w n lt key = refl
  complete-below (e ∷ J) l w n lt key = plain e l.1 (complete-below J l.0 w n lt)
    where
      not_lt : (x : ℕ) → ltb x v ≡ false → eqb x w ≡ false
      not_lt x h = grind (arith, nat_tests)

      keep : (e : Event) → ((K : Journal) → complete w n key (e ∷ K) ≡ complete w n key K) → (t : Bool) → complete w n key (below v J) ≡ complete w n key J → complete w n key (cond t (e ∷ below v J) (below v J)) ≡ complete w n key (e ∷ J)
      keep e f true ih = f (below v J) ∙ ih ∙ sym (f J)
      keep e f false ih = ih ∙ sym (f J)

      plain : (e : Event) → Permits acks P J e → ((key : ℕ) → complete w n key (below v J) ≡ complete w n key J) → complete w n key (cond (kept v J e) (e ∷ below v J) (below v J)) ≡ complete w n key (e ∷ J)
      plain (Closed line true) p ih = elim (cases_lt (p.begin).version v) [
        | inl low ↦ (let kp : keeps_line v (began line J) ≡ true = rw p.begun (lt-true (p.begin).version v low) in
            rw (kp, marked-below J l.0 w n key line p.begin lt p.begun low, ih key) refl)
        | inr high ↦ (let kp : keeps_line v (began line J) ≡ false = rw p.begun (not-lt-false (p.begin).version high) in
            rw (kp, dropped-mark J w n key line p.begin lt p.begun high) (ih key))
      ]
        where
          not-lt-false : (x : ℕ) → v ≤ x → ltb x v ≡ false
          not-lt-false x h = grind (arith, nat_tests)
      plain (Decided d x y) p ih = by_case (ltb x v) refl
        where
          congr : (y : Decision) → complete w n key (Decided d x y ∷ below v J) ≡ complete w n key (Decided d x y ∷ J)
          congr (RoundEnded b set) = rw (ih key) refl
          congr (RowsJoined q) = rw (ih key, ih (across q key)) refl
          congr (DeleteFrom b m s) = rw (ih key) refl
          congr (RoundBegun b) = ih key
          congr (RowSplit b) = ih key
          congr (ActiveOn b m) = ih key
          congr (DeleteOver b m) = ih key

          skip : (y : Decision) → eqb x w ≡ false → complete w n key J ≡ complete w n key (Decided d x y ∷ J)
          skip (RoundEnded b set) e = rw e refl
          skip (RowsJoined q) e = rw e refl
          skip (DeleteFrom b m s) e = rw e refl
          skip (RoundBegun b) e = refl
          skip (RowSplit b) e = refl
          skip (ActiveOn b m) e = refl
          skip (DeleteOver b m) e = refl

          by_case : (t : Bool) → ltb x v ≡ t → complete w n key (cond t (Decided d x y ∷ below v J) (below v J)) ≡ complete w n key (Decided d x y ∷ J)
          by_case true k = congr y
          by_case false k = ih key ∙ skip y (not_lt x k)
      plain (Closed line false) p ih = keep (Closed line false) (λ K. refl) (keeps_line v (began line J)) (ih key)
      plain e p ih = keep e (λ K. refl) (kept v J e) (ih key)

  -- ---- nodes

  -- L says of the node what J says below v
  pub record View (L J : Journal) (n : ℕ) : Type 0 where
    pub least : version n L ≤ version n J
    pub versions : version n J < v → version n L ≡ version n J
    pub serials : version n J < v → (b : Bucket) (s : ℕ) → acceptable n b s L ≡ acceptable n b s J
    pub named : version n J < v → (b : Bucket) (s : ℕ) → was_named n b s L ≡ was_named n b s J
    pub standing : version n J < v → (b : Bucket) (s : ℕ) → stands n b s L ≡ stands n b s J
    pub pieces : version n J < v → (key : ℕ) → holds n key L ≡ holds n key J
    pub shapes : version n J < v → pieces_of n L ≡ pieces_of n J
    pub stores : (id : Id) → store n id L ≡ base v n id J

  pub base-low : (n : ℕ) (id : Id) (J : Journal) → version n J < v → base v n id J ≡ store n id J
  base-low n id [] h = refl
  base-low n id (e ∷ J) h = rw (lt-true (version n (e ∷ J)) v h) refl

  base-at : (n : ℕ) (id : Id) (J : Journal) (e : Event) → v ≤ version n (e ∷ J) → base v n id (e ∷ J) ≡ base v n id J
  base-at n id J e h = rw not_below refl
    where
      not_below : ltb (version n (e ∷ J)) v ≡ false
      not_below = grind (arith, nat_tests)

  base-same : (n : ℕ) (id : Id) (J : Journal) (e : Event) → version n (e ∷ J) ≡ version n J → store n id (e ∷ J) ≡ store n id J → base v n id (e ∷ J) ≡ base v n id J
  base-same n id J e a b = elim (cases_lt (version n J) v) [
    | inl low ↦ base-low n id (e ∷ J) (omega arith) ∙ b ∙ sym (base-low n id J low)
    | inr high ↦ base-at n id J e (omega arith)
  ]

  -- an event that does nothing at the node
  pub record Quiet (M L : Journal) (n : ℕ) : Type 0 where
    pub version : version n M ≡ version n L
    pub stores : (id : Id) → store n id M ≡ store n id L
    pub serials : (b : Bucket) (s : ℕ) → acceptable n b s M ≡ acceptable n b s L
    pub named : (b : Bucket) (s : ℕ) → was_named n b s M ≡ was_named n b s L
    pub standing : (b : Bucket) (s : ℕ) → stands n b s M ≡ stands n b s L
    pub pieces : (key : ℕ) → holds n key M ≡ holds n key L
    pub shapes : pieces_of n M ≡ pieces_of n L

  quiet-self : (L : Journal) (n : ℕ) → Quiet L L n
  quiet-self L n = record { version = refl; stores = λ id. refl; serials = λ b s. refl; named = λ b s. refl; standing = λ b s. refl; pieces = λ key. refl; shapes = refl }

  View-same : (L M J : Journal) (n : ℕ) (e : Event) → View L J n → Quiet (e ∷ J) J n → Quiet M L n → View M (e ∷ J) n
  View-same L M J n e x q q' = record {
    least = (let z = x.least in let a = q.version in let a' = q'.version in omega arith);
    versions = λ lt. (let a = q.version in let z = x.versions (omega arith) in q'.version ∙ z ∙ sym a);
    serials = λ lt b s. (let a = q.version in let z = x.serials (omega arith) b s in q'.serials b s ∙ z ∙ sym (q.serials b s));
    named = λ lt b s. (let a = q.version in let z = x.named (omega arith) b s in q'.named b s ∙ z ∙ sym (q.named b s));
    standing = λ lt b s. (let a = q.version in let z = x.standing (omega arith) b s in q'.standing b s ∙ z ∙ sym (q.standing b s));
    pieces = λ lt key. (let a = q.version in let z = x.pieces (omega arith) key in q'.pieces key ∙ z ∙ sym (q.pieces key));
    shapes = λ lt. (let a = q.version in let z = x.shapes (omega arith) in q'.shapes ∙ z ∙ sym q.shapes);
    stores = λ id. q'.stores id ∙ x.stores id ∙ sym (base-same n id J e q.version (q.stores id));
  }

  -- a delivery that both see, at a node below v
  View-both : (L J : Journal) (n k : ℕ) (r : Reply) (m : Message) → sent k J ≡ Some m → sent k L ≡ Some m → View L J n → version n J < v → version n (Delivered k r ∷ J) < v → View (Delivered k r ∷ L) (Delivered k r ∷ J) n
  View-both L J n k r m s s' x lt lt' = record {
    least = (let z = same in omega arith);
    versions = λ h. same;
    serials = λ h b t. rw (s, s', x.serials lt b t) refl;
    named = λ h b t. rw (s, s', x.named lt b t) refl;
    standing = λ h b t. rw (s, s', x.standing lt b t) refl;
    pieces = λ h key. rw (s, s', x.pieces lt key) refl;
    shapes = λ h. rw (s, s', x.shapes lt) refl;
    stores = λ id. rw (s, s', x.stores id ∙ base-low n id J lt) refl ∙ sym (base-low n id (Delivered k r ∷ J) lt');
  }
    where
      same : version n (Delivered k r ∷ L) ≡ version n (Delivered k r ∷ J)
      same = rw (s, s', x.versions lt) refl

  -- a node that ends up at v or above, by an event that L leaves out
  View-high : (L J : Journal) (n : ℕ) (e : Event) → View L J n → v ≤ version n (e ∷ J) → View L (e ∷ J) n
  View-high L J n e x h = record {
    least = (let z = x.least in let g = version-grows n J e in omega arith);
    versions = λ lt. absurd (omega arith);
    serials = λ lt b s. absurd (omega arith);
    named = λ lt b s. absurd (omega arith);
    standing = λ lt b s. absurd (omega arith);
    pieces = λ lt key. absurd (omega arith);
    shapes = λ lt. absurd (omega arith);
    stores = λ id. x.stores id ∙ sym (base-at n id J e h);
  }

  quiet-elsewhere : (K : Journal) (n k : ℕ) (r : Reply) (m : Message) → sent k K ≡ Some m → eqb m.receiver n ≡ false → Quiet (Delivered k r ∷ K) K n
  quiet-elsewhere K n k r m h ne = record { version = rw (h, ne) refl; stores = λ id. rw h (stores r id); serials = λ b s. rw h (serials r b s); named = λ b s. rw h (named r b s); standing = λ b s. rw h (standing r b s); pieces = λ key. rw h (pieces r key); shapes = rw h (shapes r) }
    where
      stores : (y : Reply) (id : Id) → after_message n id y (Some m) (store n id K) ≡ store n id K
      stores (Answer a b) id = rw ne refl
      stores _ id = refl

      named : (y : Reply) (b : Bucket) (s : ℕ) → named_after n b s y (Some m) (was_named n b s K) ≡ was_named n b s K
      named (Answer a c) b s = rw ne refl
      named _ b s = refl

      standing : (y : Reply) (b : Bucket) (s : ℕ) → untouched_after n b s y (Some m) (stands n b s K) ≡ stands n b s K
      standing (Answer a c) b s = rw ne refl
      standing _ b s = refl

      serials : (y : Reply) (b : Bucket) (s : ℕ) → still_after n b s y (Some m) (acceptable n b s K) ≡ acceptable n b s K
      serials (Answer a c) b s = rw ne refl
      serials _ b s = refl

      pieces : (y : Reply) (key : ℕ) → piece_after n key y (Some m) (holds n key K) ≡ holds n key K
      pieces (Answer a c) key = rw ne refl
      pieces _ key = refl

      shapes : (y : Reply) → after_reply n y (Some m) (pieces_of n K) ≡ pieces_of n K
      shapes (Answer a c) = rw ne refl
      shapes _ = refl

  false-lt : (a b : ℕ) → ltb a b ≡ false → b ≤ a
  false-lt a b h = grind (arith, nat_tests)

  pub replies-version : (J : Journal) (m : Message) (r : Reply) → Replies J m r → tells v r ≡ true → m.version < v → version m.receiver J < v
  replies-version J m r p t lt = elim (cases_lt (version m.receiver J) v) [ inl low ↦ low | inr high ↦ (let z = high-untold acks P v J m r p lt high in cc) ]

  -- a dropped delivery leaves the receiver at v or above
  dropped-high : (J : Journal) (k : ℕ) (m : Message) (r : Reply) → sent k J ≡ Some m → Replies J m r → keeps v r (Some m) ≡ false → v ≤ version m.receiver (Delivered k r ∷ J)
  dropped-high J k m r s p q = elim (cases_lt m.version v) [
    | inr more ↦ (let z : version m.receiver (Delivered k r ∷ J) ≡ max m.version (version m.receiver J) = rw (s, eq-eqb m.receiver m.receiver refl) refl in omega arith)
    | inl less ↦ by_tells (tells v r) refl less
  ]
    where
      grows : version m.receiver J ≤ version m.receiver (Delivered k r ∷ J)
      grows = version-grows m.receiver J (Delivered k r)

      untold' : (y : Reply) → Replies J m y → (w : ℕ) → y ≡ Newer w → w ≡ version m.receiver J
      untold' (Newer x) p w is = let same : x ≡ w = cc in sym same ∙ p.1
      untold' (Answer a b) p w is = cc
      untold' NoBucket p w is = cc
      untold' Differs p w is = cc
      untold' NoMemory p w is = cc

      by_tells : (t : Bool) → tells v r ≡ t → m.version < v → v ≤ version m.receiver (Delivered k r ∷ J)
      by_tells true e less = let z : keeps v r (Some m) ≡ true = rw (e, lt-true m.version v less) refl in cc
      by_tells false e less = let x = untold acks P v r e in let y = untold' r p x.0 x.1 in let z = x.2 in let g = grows in omega arith

  pub keeps-both : (m : Message) (r : Reply) → keeps v r (Some m) ≡ true → (tells v r ≡ true) × (m.version < v)
  keeps-both m r h = by_case (tells v r) (ltb m.version v) refl refl h
    where
      by_case : (t u : Bool) → tells v r ≡ t → ltb m.version v ≡ u → cond t u false ≡ true → (tells v r ≡ true) × (m.version < v)
      by_case true true e f h = (e, true-lt m.version v f)
      by_case true false e f h = cc
      by_case false u e f h = cc

  delivered-view : (J : Journal) → Legal acks P J → (k : ℕ) (r : Reply) → MayDeliver J k r → (n : ℕ) → View (below v J) J n → View (below v (Delivered k r ∷ J)) (Delivered k r ∷ J) n
  delivered-view J l k r p n x = by_kept (keeps v r (sent k J)) refl (cases_eq (p.message).receiver n)
    where
      apart : (p.message).receiver ≢ n → eqb (p.message).receiver n ≡ false
      apart ne = grind (arith, nat_tests)

      by_kept : (t : Bool) → keeps v r (sent k J) ≡ t → ((p.message).receiver ≡ n) ⊎ ((p.message).receiver ≢ n) → View (cond t (Delivered k r ∷ below v J) (below v J)) (Delivered k r ∷ J) n
      by_kept true q (inl here) =
          let kb = keeps-both p.message r (rw p.was_sent at q) in
          let low = replies-version J p.message r p.reply kb.0 kb.1 in
          let s' = sent-below acks P v J l k p.message p.was_sent kb.1 in
          let after : version (p.message).receiver (Delivered k r ∷ J) < v = rw (p.was_sent, eq-eqb (p.message).receiver (p.message).receiver refl) (let y = kb.1 in omega arith) in
          View-both (below v J) J n k r p.message p.was_sent s' x (subst (λ (i : ℕ). version i J < v) here low) (subst (λ (i : ℕ). version i (Delivered k r ∷ J) < v) here after)
      by_kept true q (inr ne) =
          let kb = keeps-both p.message r (rw p.was_sent at q) in
          View-same (below v J) (Delivered k r ∷ below v J) J n (Delivered k r) x (quiet-elsewhere J n k r p.message p.was_sent (apart ne)) (quiet-elsewhere (below v J) n k r p.message (sent-below acks P v J l k p.message p.was_sent kb.1) (apart ne))
      by_kept false q (inl here) = View-high (below v J) J n (Delivered k r) x (subst (λ (i : ℕ). v ≤ version i (Delivered k r ∷ J)) here (dropped-high J k p.message r p.was_sent p.reply (rw p.was_sent at q)))
      by_kept false q (inr ne) = View-same (below v J) (below v J) J n (Delivered k r) x (quiet-elsewhere J n k r p.message p.was_sent (apart ne)) (quiet-self (below v J) n)

  -- the law's second half: what the journal below v says of nodes
  pub view : (J : Journal) → Legal acks P J → (n : ℕ) → View (below v J) J n
  view [] l n = record { least = omega arith; versions = λ h. refl; serials = λ h b s. refl; named = λ h b s. refl; standing = λ h b s. refl; pieces = λ h key. refl; shapes = λ h. refl; stores = λ id. refl }
  view (e ∷ J) l n = by_event e l.1 (view J l.0 n)
    where
      keep : (e : Event) → ((K : Journal) → Quiet (e ∷ K) K n) → (t : Bool) → View (below v J) J n → View (cond t (e ∷ below v J) (below v J)) (e ∷ J) n
      keep e f true x = View-same (below v J) (e ∷ below v J) J n e x (f J) (f (below v J))
      keep e f false x = View-same (below v J) (below v J) J n e x (f J) (quiet-self (below v J) n)

      by_event : (e : Event) → Permits acks P J e → View (below v J) J n → View (cond (kept v J e) (e ∷ below v J) (below v J)) (e ∷ J) n
      by_event (Delivered k r) p x = delivered-view J l.0 k r p n x
      by_event e p x = keep e (λ K. record { version = refl; stores = λ id. refl; serials = λ b s. refl; named = λ b s. refl; standing = λ b s. refl; pieces = λ key. refl; shapes = refl }) (kept v J e) x
