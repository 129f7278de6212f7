-- What a lane keeps, after the reply to an Ask was returned, and after a state was opened.
use Rattle.std.proofs.Common.{◌≡◌, ◌≢◌, ◌==◌, ◌⊎◌, ℕ, Bool, true, false, ◌||◌, List, [], ◌∷◌, ◌++◌, map, cond, Option, Some, None, is_some, inl, inr, refl, sym, ap, ◌∙◌, subst, eqb, eq-eqb}
use Rattle.std.proofs.lemmas.Bool.{cases_eq}
use Rattle.bucket_ids.specs.Buckets.{Low, IsBucket}
use Rattle.node_sets.specs.Members.{has_node}
use Rattle.cluster_states.specs.declared.cluster_state.ClusterState.{ClusterState}
use Rattle.cluster_states.specs.Publishing.{serves}
use Rattle.ideal_nodes.specs.Placement.{IsOwner}
use Rattle.pieces.specs.declared.piece.Piece.{Piece}
use Rattle.node_sets.proofs.Bits.{has_none}
use Rattle.bucket_db.specs.Rows.{Rows, buckets_of}
use Rattle.bucket_db.specs.Answers.{new_row}
use Rattle.node_model.specs.Nodes.{Node}
use Rattle.distributor_part.specs.declared.rules.Rules.{Rules}
use Rattle.distributor_part.specs.Parts.{Part, rows_of}
use Rattle.distributor_part.specs.Steps.{HasRows, buckets_shown}
use Rattle.lane_journals.specs.Buckets.{contains, same_bucket}
use Rattle.lane_journals.specs.Events.{Content, Ask, Reply, Answer, Returned}
use Rattle.lane_journals.specs.Readers as readers
use Rattle.lane_journals.specs.Readers.{Journal, Given, or_else, sent, first_reply, returned, published, asked, asked_of, is_ask, given_by, opened}
use Rattle.lane_journals.specs.Facts.{AnsweredAsk}
use Rattle.lane_journals.specs.Legal.{Parted}
use Rattle.lane_journals.specs.RowLists as listed
use Rattle.lane_journals.specs.RowLists.{row_with, rows, new_rows}
use Rattle.lane_journals.specs.Meanings.{history, names}
use Rattle.lane_journals.specs.Places.{Setting, state_in, WasNamed}
use Rattle.lane_journals.specs.KeptJournals.{IsLegalStep}
use Rattle.lane_journals.specs.declared.event.LaneEvent.{LaneEvent}
use Rattle.lane_journals.specs.declared.event.LaneEvent.TheVariants as event
use Rattle.lane_journals.proofs.Basics.{or_else-some, or_else-cases}
use Rattle.lane_journals.proofs.BucketLaws.{same_bucket-refl, same_bucket-true}
use Rattle.lane_journals.proofs.Meant.{state-published, state-serves}
use Rattle.lane_keeping.specs.LaneKeeping.{setting_of, IsNamed, AreShown, KnowsOpening, IsRowOf, row_by, PartKeeps, part_in, Keeps}
use Rattle.lane_keeping.specs.Asking.{IsAlike}
use Rattle.lane_keeping.proofs.Acting.{HoldsAt, one-owner, asked-answered}
use Rattle.lane_keeping.proofs.Partitions.{In, in-of, contains-in, rows-parted, placed}
use Rattle.proof_basics.proofs.Numbers.{apart}

-- ---- tests and lists

pub or_none : {A : Type 0} (o : Option A) → or_else o None ≡ o
or_none None = refl
or_none (Some x) = refl

none-of : {A : Type 0} (o : Option A) → is_some o ≡ false → o ≡ None
none-of None h = refl
none-of (Some x) h = cc

pub some-of : {A : Type 0} (o : Option A) → is_some o ≡ true → (x : A) × (o ≡ Some x)
some-of None h = cc
some-of (Some x) h = (x, refl)

in-append : {X : Type 0} (x : X) (xs ys : List X) → In x (xs ++ ys) → In x xs ⊎ In x ys
in-append x [] ys h = inr h
in-append x (z ∷ zs) ys (inl e) = inl (inl e)
in-append x (z ∷ zs) ys (inr h) = elim (in-append x zs ys h) [ inl a ↦ inl (inr a) | inr b ↦ inr b ]

in-left : {X : Type 0} (x : X) (xs ys : List X) → In x xs → In x (xs ++ ys)
in-left x [] ys h = absurd h
in-left x (z ∷ zs) ys (inl e) = inl e
in-left x (z ∷ zs) ys (inr h) = inr (in-left x zs ys h)

in-right : {X : Type 0} (x : X) (xs ys : List X) → In x ys → In x (xs ++ ys)
in-right x [] ys h = h
in-right x (z ∷ zs) ys h = inr (in-right x zs ys h)

-- ---- the buckets that pieces name

named-in : (ps : List Piece) (b : Low) (s : ℕ) → names ps b s ≡ true → In b (buckets_shown ps)
named-in [] b s h = cc
named-in (p ∷ ps) b s h = by_test (same_bucket p.bucket b) refl h (named-in ps b s)
  where
    by_test : (t : Bool) → same_bucket p.bucket b ≡ t → cond t (cond (eqb p.serial s) true (names ps b s)) (names ps b s) ≡ true → (names ps b s ≡ true → In b (buckets_shown ps)) → In b (buckets_shown (p ∷ ps))
    by_test true e h ih = inl (same_bucket-true p.bucket b e)
    by_test false e h ih = inr (ih h)

in-named : (ps : List Piece) (b : Low) → In b (buckets_shown ps) → (s : ℕ) × (names ps b s ≡ true)
in-named [] b h = absurd h
in-named (p ∷ ps) b (inl e) = (
  p.serial,
  ap (λ (t : Bool). cond t (cond (eqb p.serial p.serial) true (names ps b p.serial)) (names ps b p.serial)) (ap (λ (x : Low). same_bucket p.bucket x) (sym e) ∙ same_bucket-refl p.bucket)
      ∙ ap (λ (t : Bool). cond t true (names ps b p.serial)) (eq-eqb p.serial p.serial refl),
)
in-named (p ∷ ps) b (inr h) = let z = in-named ps b h in (z.0, more (same_bucket p.bucket b) (eqb p.serial z.0) (names ps b z.0) z.1)
  where
    more : (t u r : Bool) → r ≡ true → cond t (cond u true r) r ≡ true
    more true true r h = refl
    more true false r h = h
    more false u r h = h

-- ---- answers after a return

asked-other : (v n k : ℕ) (H : Journal) (x : readers.Message) → sent k H ≡ Some x → x.version ≢ v → asked v n (Returned k ∷ H) ≡ asked v n H
asked-other v n k H x was off =
    ap (λ (o : Option readers.Message). or_else (asked v n H) (asked_of v n o (first_reply k H))) was ∙ ap (λ (o : Option Given). or_else (asked v n H) o) (nothing (first_reply k H)) ∙ or_none (asked v n H)
  where
    stuck : (t : Bool) (o : Option Given) → cond t (cond false o None) None ≡ None
    stuck true o = refl
    stuck false o = refl

    nothing : (y : Option Reply) → asked_of v n (Some x) y ≡ None
    nothing None = refl
    nothing (Some y) = rw (apart x.version v off) (stuck (is_ask x.body) (cond (eqb x.receiver n) (given_by y) None))

-- the reply to an Ask
pub record IsAskBack (H : Journal) (k v n : ℕ) (y : Reply) : Type 0 where
  pub message : readers.Message
  pub was_sent : sent k H ≡ Some message
  pub version : message.version ≡ v
  pub receiver : message.receiver ≡ n
  pub body : message.body ≡ Ask
  pub replied : first_reply k H ≡ Some y

asked-now : (v n k : ℕ) (H : Journal) (y : Reply) (a : IsAskBack H k v n y) (m : ℕ) → asked v m (Returned k ∷ H) ≡ or_else (asked v m H) (cond (eqb n m) (given_by y) None)
asked-now v n k H y a m =
    ap (λ (o : Option readers.Message). or_else (asked v m H) (asked_of v m o (first_reply k H))) a.was_sent ∙ ap (λ (o : Option Reply). or_else (asked v m H) (asked_of v m (Some a.message) o)) a.replied
    ∙ ap (λ (o : Option Given). or_else (asked v m H) o) now
  where
    now : cond (is_ask (a.message).body) (cond (eqb (a.message).version v) (cond (eqb (a.message).receiver m) (given_by y) None) None) None ≡ cond (eqb n m) (given_by y) None
    now = ap (λ (b : _). cond (is_ask b) (cond (eqb (a.message).version v) (cond (eqb (a.message).receiver m) (given_by y) None) None) None) a.body
        ∙ ap (λ (w : ℕ). cond (eqb w v) (cond (eqb (a.message).receiver m) (given_by y) None) None) a.version
        ∙ ap (λ (t : Bool). cond t (cond (eqb (a.message).receiver m) (given_by y) None) None) (eq-eqb v v refl)
        ∙ ap (λ (w : ℕ). cond (eqb w m) (given_by y) None) a.receiver

-- ---- what the asking distributor knows then

module _ (v n k : ℕ) (H : Journal) (s : ClusterState) (p q : Part) (alike : IsAlike p q) where
  -- a reply that is no answer
  pub knows-refused : (y : Reply) → IsAskBack H k v n y → given_by y ≡ None → (is_open : Bool) (row_at : ℕ → Option listed.Row)
      → q.answered ≡ p.answered → q.shown ≡ p.shown
      → KnowsOpening (λ m. asked v m H) is_open row_at s p → KnowsOpening (λ m. asked v m (Returned k ∷ H)) is_open row_at s q
  knows-refused y a none is_open row_at answered_is shown_is know = record {
    answered_are = λ m. ap (λ (b : ℕ). has_node b m) answered_is ∙ know.answered_are m ∙ ap is_some (sym (same m));
    serving = λ m h. know.serving m (sym (ap (λ (b : ℕ). has_node b m) answered_is) ∙ h);
    shown_are = λ u. let w = know.shown_are (sym alike.rows_are ∙ u) in subst (λ (bs : List Low). AreShown (λ m. asked v m (Returned k ∷ H)) bs) (sym shown_is) (record {
      valid = w.valid;
      named = λ b c. (let x = w.named b c in record { node = x.node; given = x.given; answer = same x.node ∙ x.answer; serial = x.serial; names = x.names });
      all = λ b x. w.all b (record { node = x.node; given = x.given; answer = sym (same x.node) ∙ x.answer; serial = x.serial; names = x.names });
    });
    opened_as = know.opened_as ∙ ap is_some (sym alike.rows_are);
    rows_are = λ key. subst (λ (o : _). IsRowOf (row_by key (rows_of o)) (row_at key)) (sym alike.rows_are) (know.rows_are key);
    parted = subst (λ (o : Option Rows). Parted (buckets_of (rows_of o))) (sym alike.rows_are) know.parted;
  }
    where
      same : (m : ℕ) → asked v m (Returned k ∷ H) ≡ asked v m H
      same m = asked-now v n k H y a m ∙ ap (λ (o : Option Given). or_else (asked v m H) (cond (eqb n m) o None)) none ∙ ap (λ (o : Option Given). or_else (asked v m H) o) (both (eqb n m)) ∙ or_none (asked v m H)
        where
          both : (t : Bool) → ◌≡◌ {A = Option Given} (cond t None None) None
          both true = refl
          both false = refl

  -- an answer
  pub knows-answered : (c : Content) (ps : List Piece) → IsAskBack H k v n (Answer c (names ps)) → (is_open : Bool) (row_at : ℕ → Option listed.Row)
      → serves s n ≡ true → has_node p.answered n ≡ false → p.rows ≡ None → ((b : Low) → In b (buckets_shown ps) → IsBucket b)
      → ((m : ℕ) → has_node q.answered m ≡ (has_node p.answered m || m == n)) → q.shown ≡ p.shown ++ buckets_shown ps
      → KnowsOpening (λ m. asked v m H) is_open row_at s p → KnowsOpening (λ m. asked v m (Returned k ∷ H)) is_open row_at s q
  knows-answered c ps a is_open row_at serving fresh unopened pieces marked shown_is know = record {
    answered_are = λ m. elim (cases_eq m n) [
      | inl is ↦ marked m ∙ right (has_node p.answered m) (m == n) (eq-eqb m n is) ∙ sym (ap is_some (ap (λ (x : ℕ). asked v x (Returned k ∷ H)) is ∙ own))
      | inr off ↦ marked m ∙ left (has_node p.answered m) (m == n) (apart m n off) ∙ know.answered_are m ∙ ap is_some (sym (other m off))
    ];
    serving = λ m h. elim (cases_eq m n) [
      | inl is ↦ ap (λ (x : ℕ). serves s x) is ∙ serving
      | inr off ↦ know.serving m (sym (marked m ∙ left (has_node p.answered m) (m == n) (apart m n off)) ∙ h)
    ];
    shown_are = λ u. subst (λ (bs : List Low). AreShown (λ m. asked v m (Returned k ∷ H)) bs) (sym shown_is) (record {
      valid = λ b h. elim (in-append b p.shown (buckets_shown ps) (in-of b (p.shown ++ buckets_shown ps) h)) [
        | inl old ↦ shown.valid b (contains-in b p.shown old)
        | inr new ↦ pieces b new
      ];
      named = λ b h. elim (in-append b p.shown (buckets_shown ps) (in-of b (p.shown ++ buckets_shown ps) h)) [
        | inl old ↦ (let x = shown.named b (contains-in b p.shown old) in record { node = x.node; given = x.given; answer = asked-now v n k H (Answer c (names ps)) a x.node ∙ or_else-some (asked v x.node H) _ x.given x.answer; serial = x.serial; names = x.names })
        | inr new ↦ (let z = in-named ps b new in record { node = n; given = g; answer = own; serial = z.0; names = z.1 })
      ];
      all = λ b x. contains-in b (p.shown ++ buckets_shown ps) (elim (or_else-cases (asked v x.node H) _ x.given (sym (asked-now v n k H (Answer c (names ps)) a x.node) ∙ x.answer)) [
        | inl old ↦ in-left b p.shown (buckets_shown ps) (in-of b p.shown (shown.all b (record { node = x.node; given = x.given; answer = old; serial = x.serial; names = x.names })))
        | inr new ↦ in-right b p.shown (buckets_shown ps) (named-in ps b x.serial (ap (λ (z : Given). z.names b x.serial) (by_test (eqb n x.node) x.given new.1) ∙ x.names))
      ]);
    });
    opened_as = know.opened_as ∙ ap is_some (sym alike.rows_are);
    rows_are = λ key. subst (λ (o : _). IsRowOf (row_by key (rows_of o)) (row_at key)) (sym alike.rows_are) (know.rows_are key);
    parted = subst (λ (o : Option Rows). Parted (buckets_of (rows_of o))) (sym alike.rows_are) know.parted;
  }
    where
      g : Given
      g = record { content = c; names = names ps }

      shown : AreShown (λ m. asked v m H) p.shown
      shown = know.shown_are unopened

      right : (x y : Bool) → y ≡ true → (x || y) ≡ true
      right true y e = refl
      right false y e = e

      left : (x y : Bool) → y ≡ false → (x || y) ≡ x
      left true y e = refl
      left false y e = e

      unasked : asked v n H ≡ None
      unasked = none-of (asked v n H) (sym (know.answered_are n) ∙ fresh)

      own : asked v n (Returned k ∷ H) ≡ Some g
      own = asked-now v n k H (Answer c (names ps)) a n ∙ ap (λ (o : Option Given). or_else o (cond (eqb n n) (Some g) None)) unasked ∙ ap (λ (t : Bool). cond t (Some g) None) (eq-eqb n n refl)

      other : (m : ℕ) → m ≢ n → asked v m (Returned k ∷ H) ≡ asked v m H
      other m off = asked-now v n k H (Answer c (names ps)) a m ∙ ap (λ (t : Bool). or_else (asked v m H) (cond t (Some g) None)) (apart n m (λ e. off (sym e))) ∙ or_none (asked v m H)

      by_test : (t : Bool) (h : Given) → cond t (Some g) None ≡ Some h → g ≡ h
      by_test true h e = cc
      by_test false h e = cc

-- ---- the lane

module _ (lane : Low) (rules : Rules) where
  abbrev S : Setting
  S = setting_of lane rules

  -- a distributor that owns the lane under another version, or doesn't own it
  pub elsewhere : (J : List LaneEvent) (s t : ClusterState) (d e : ℕ) → state_in s.version J ≡ Some s → IsOwner lane s d → e ≢ d → state_in t.version J ≡ Some t → IsOwner lane t e → s.version ≢ t.version
  elsewhere J s t d e at owner off there own same =
      let both : state_in s.version J ≡ Some t = ap (λ (v : ℕ). state_in v J) same ∙ there in
      let is : t ≡ s = (let w = sym both ∙ at in cc) in
      off (sym (one-owner lane s d e owner (subst (λ (x : ClusterState). IsOwner lane x e) is own)))

  others-returned : (J : List LaneEvent) (k d e : ℕ) (s : ClusterState) (x : readers.Message) → sent k (history J) ≡ Some x → x.version ≡ s.version → state_in s.version J ≡ Some s → IsOwner lane s d → e ≢ d
      → (p : Part) (o : Option ClusterState) → HoldsAt lane J e o p → HoldsAt lane (event.Returned k ∷ J) e o p
  others-returned J k d e s x was under at owner off p None h = h
  others-returned J k d e s x was under at owner off p (Some t) h = (
    h.0,
    h.1,
    λ own.
        subst (λ (f : ℕ → Option Given). KnowsOpening f (opened t.version (history J)) (λ key. row_with key (rows t.version (history J))) t p)
        (λ i n. sym (asked-other t.version n k (history J) x was (λ same. elsewhere J s t d e at owner off h.1 own (sym under ∙ same))) i)
        (h.2 own),
  )

  pub keeps-returned : (J : List LaneEvent) (newest : Option ClusterState) (last : ℕ) (nodes : List Node) (parts now : List Part) (k d : ℕ) (s : ClusterState) (x : readers.Message) (y : Reply) (q : Part)
      → Keeps lane rules J newest last nodes parts → sent k (history J) ≡ Some x → x.version ≡ s.version → state_in s.version J ≡ Some s → IsOwner lane s d
      → first_reply k (history J) ≡ Some y → returned k (history J) ≡ false
      → PartKeeps lane rules (event.Returned k ∷ J) d q → part_in lane rules now d ≡ q → ((e : ℕ) → e ≢ d → part_in lane rules now e ≡ part_in lane rules parts e)
      → Keeps lane rules (event.Returned k ∷ J) newest last nodes now
  keeps-returned J newest last nodes parts now k d s x y q keep was under at owner replied once part own other = record {
    legal = (keep.legal, record { noted = tt; permitted = record { once = once; reply = y; replied = replied }; placed = tt; ended = tt });
    newest_is = keep.newest_is;
    numbered = keep.numbered;
    nodes_are = keep.nodes_are;
    parts_are = λ e. elim (cases_eq e d) [
      | inl is ↦ subst (λ (z : ℕ). PartKeeps lane rules (event.Returned k ∷ J) z (part_in lane rules now z)) (sym is) (subst (λ (z : Part). PartKeeps lane rules (event.Returned k ∷ J) d z) (sym own) part)
      | inr off ↦ subst (λ (z : Part). PartKeeps lane rules (event.Returned k ∷ J) e z) (sym (other e off)) (let p = keep.parts_are e in record {
        number_is = p.number_is;
        lane_is = p.lane_is;
        rules_are = p.rules_are;
        heard = others-returned J k d e s x was under at owner off (part_in lane rules parts e) (part_in lane rules parts e).state p.heard;
      })
    ];
  }

  -- ---- a state is opened

  new-rows : (key : ℕ) (bs : List Low) → IsRowOf (row_by key (map new_row bs)) (row_with key (new_rows bs))
  new-rows key [] = tt
  new-rows key (b ∷ bs) = by_test (contains b key) (new-rows key bs)
    where
      by_test : (t : Bool) → IsRowOf (row_by key (map new_row bs)) (row_with key (new_rows bs))
          → IsRowOf (cond t (Some (new_row b)) (row_by key (map new_row bs))) (cond t (Some (record { bucket = b; members = λ n. false; active = None; deleting = None })) (row_with key (new_rows bs)))
      by_test true h = record { bucket_is = refl; complete_is = λ n. has_none n; active_is = refl; delete_is = tt }
      by_test false h = h

  new-buckets : (bs : List Low) → buckets_of (map new_row bs) ≡ bs
  new-buckets [] = refl
  new-buckets (b ∷ bs) = ap (λ (cs : List Low). b ∷ cs) (new-buckets bs)

  others-opened : (J : List LaneEvent) (d e : ℕ) (bs : List Low) (s : ClusterState) → state_in s.version J ≡ Some s → IsOwner lane s d → e ≢ d
      → (p : Part) (o : Option ClusterState) → HoldsAt lane J e o p → HoldsAt lane (event.Opened d s.version bs ∷ J) e o p
  others-opened J d e bs s at owner off p None h = h
  others-opened J d e bs s at owner off p (Some t) h = (
    h.0,
    h.1,
    λ own.
        let differ = apart s.version t.version (elsewhere J s t d e at owner off h.1 own) in
        subst (λ (u : Bool). KnowsOpening (λ n. asked t.version n (history J)) (cond u true (opened t.version (history J))) (λ key. row_with key (cond u (new_rows bs) (rows t.version (history J)))) t p) (sym differ) (h.2 own),
  )

  module _ (J : List LaneEvent) (newest : Option ClusterState) (last : ℕ) (nodes : List Node) (parts now : List Part) (d : ℕ) (s : ClusterState) (bs : List Low) (p q : Part)
      (keep : Keeps lane rules J newest last nodes parts) (here : part_in lane rules parts d ≡ p) (heard : p.state ≡ Some s) (owner : IsOwner lane s d) (unopened : p.rows ≡ None)
      (all : (n : ℕ) → serves s n ≡ true → has_node p.answered n ≡ true) (step : HasRows p q bs) where
    keeps : PartKeeps lane rules J d p
    keeps = subst (λ (x : Part). PartKeeps lane rules J d x) here (keep.parts_are d)

    holds : HoldsAt lane J d (Some s) p
    holds = subst (λ (o : Option ClusterState). HoldsAt lane J d o p) heard keeps.heard

    know : KnowsOpening (λ n. asked s.version n (history J)) (opened s.version (history J)) (λ key. row_with key (rows s.version (history J))) s p
    know = holds.2 owner

    shown : AreShown (λ n. asked s.version n (history J)) p.shown
    shown = know.shown_are unopened

    answered : (n : ℕ) → serves s n ≡ true → AnsweredAsk s.version n (history J)
    answered n h = let g = some-of (asked s.version n (history J)) (sym (know.answered_are n) ∙ all n h) in asked-answered s.version n (history J) g.0 g.1

    named-was : (b : Low) → IsNamed (λ n. asked s.version n (history J)) b → WasNamed s.version b (history J)
    named-was b x = record {
      node = x.node;
      serves = state-serves S J keep.legal s.version x.node s holds.1 ∙ know.serving x.node (know.answered_are x.node ∙ ap is_some x.answer);
      given = x.given;
      answer = x.answer;
      serial = x.serial;
      names = x.names;
    }

    pub may-open : IsLegalStep S J (event.Opened d s.version bs)
    may-open = record {
      noted = tt;
      permitted = record {
        holder = holds.0;
        parted = rows-parted p.lane p.shown bs step.are_rows step.coarsest;
        once = know.opened_as ∙ ap is_some unopened;
        all = λ n h. answered n (sym (state-serves S J keep.legal s.version n s holds.1) ∙ h);
        state = state-published s.version J s holds.1;
      };
      placed = (
        record { state = s; published = holds.1; owner = owner },
        placed p.lane p.shown bs step.are_rows step.coarsest S (history J) s.version (sym keeps.lane_is) shown.valid (λ b c. named-was b (shown.named b c))
            (λ b w. shown.all b (record { node = w.node; given = w.given; answer = w.answer; serial = w.serial; names = w.names })),
      );
      ended = tt;
    }

    opener : PartKeeps lane rules (event.Opened d s.version bs ∷ J) d q
    opener = subst (λ (x : Part). PartKeeps lane rules (event.Opened d s.version bs ∷ J) d x) (sym step.after) (record {
      number_is = keeps.number_is;
      lane_is = keeps.lane_is;
      rules_are = keeps.rules_are;
      heard = subst (λ (o : Option ClusterState). HoldsAt lane (event.Opened d s.version bs ∷ J) d o (record p { shown = []; rows = Some (record { lane = p.lane; rows = map new_row bs }) })) (sym heard) (
        holds.0,
        holds.1,
        λ own. subst (λ (u : Bool). KnowsOpening (λ n. asked s.version n (history J)) (cond u true (opened s.version (history J))) (λ key. row_with key (cond u (new_rows bs) (rows s.version (history J)))) s
            (record p { shown = []; rows = Some (record { lane = p.lane; rows = map new_row bs }) })) (sym (eq-eqb s.version s.version refl)) (record {
              answered_are = know.answered_are;
              serving = know.serving;
              shown_are = λ e. absurd (not_none e);
              opened_as = refl;
              rows_are = λ key. new-rows key bs;
              parted = subst Parted (sym (new-buckets bs)) (rows-parted p.lane p.shown bs step.are_rows step.coarsest);
            }),
      );
    })
      where
        not_none : ◌≡◌ {A = Option Rows} (Some (record { lane = p.lane; rows = map new_row bs })) None → ⊥
        not_none e = cc

    pub keeps-opened : part_in lane rules now d ≡ q → ((e : ℕ) → e ≢ d → part_in lane rules now e ≡ part_in lane rules parts e) → Keeps lane rules (event.Opened d s.version bs ∷ J) newest last nodes now
    keeps-opened own other = record {
      legal = (keep.legal, may-open);
      newest_is = keep.newest_is;
      numbered = keep.numbered;
      nodes_are = keep.nodes_are;
      parts_are = λ e. elim (cases_eq e d) [
        | inl is ↦ subst (λ (z : ℕ). PartKeeps lane rules (event.Opened d s.version bs ∷ J) z (part_in lane rules now z)) (sym is) (subst (λ (z : Part). PartKeeps lane rules (event.Opened d s.version bs ∷ J) d z) (sym own) opener)
        | inr off ↦ subst (λ (z : Part). PartKeeps lane rules (event.Opened d s.version bs ∷ J) e z) (sym (other e off)) (let x = keep.parts_are e in record {
          number_is = x.number_is;
          lane_is = x.lane_is;
          rules_are = x.rules_are;
          heard = others-opened J d e bs s holds.1 owner off (part_in lane rules parts e) (part_in lane rules parts e).state x.heard;
        })
      ];
    }
