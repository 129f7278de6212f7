-- At rest each key of the lane lies in the region of a node that runs.
use Rattle.std.proofs.Common.{◌≡◌, ◌==◌, ◌-◌, ◌++◌, ℕ, Bool, true, false, cond, List, [], ◌∷◌, length, length-append, Option, Some, None, is_some, slice_get, inl, inr, refl, sym, ap, ◌∙◌, subst, arith, eq-eqb}
use mathlib.Core.Bool.{true≢false}
use Rattle.std.specs.Option.{IfSome}
use Rattle.bucket_ids.specs.Buckets.{Low, has_key}
use Rattle.cluster_states.specs.Publishing.{newest_of, serves}
use Rattle.cluster_states.specs.declared.cluster_state.ClusterState.{ClusterState}
use Rattle.lane_journals.specs.Buckets.{contains, first_child, second_child}
use Rattle.lane_journals.specs.Facts.{InRegion}
use Rattle.lane_journals.specs.KeptJournals.{IsLegal}
use Rattle.lane_journals.specs.Legal.{MayPublish}
use Rattle.lane_journals.specs.Meanings.{history}
use Rattle.lane_journals.specs.Places.{Setting as Placing, state_in, published_states}
use Rattle.lane_journals.specs.Readers.{only_if, or_else, opened, row_in, row_at, stopped}
use Rattle.lane_journals.specs.RowLists.{Row, rows, row_with, bucket_of, IsIn}
use Rattle.lane_journals.specs.States.{state_of}
use Rattle.lane_journals.specs.declared.event.LaneEvent.{LaneEvent}
use Rattle.lane_journals.specs.declared.event.LaneEvent.TheVariants.{Published, Opened, Decided}
use Rattle.lane_journals.proofs.Basics.{sent-member}
use Rattle.lane_journals.proofs.Meant.{meant-legal, state-published, state-serves}
use Rattle.lane_journals.proofs.RowLists.{linked}
use Rattle.lane_keeping.specs.LaneKeeping.{setting_of}
use Rattle.lane_keeping.specs.Tidings.{last_state}
use Rattle.lane_keeping.proofs.Words.{contains-is}
use Rattle.lane_rest.specs.Rest.{IsActivated}
use Rattle.messages.specs.declared.decision.Decision.TheVariants as choice
use Rattle.lane_lives.specs.declared.setting.Setting.{Setting}
use Rattle.lane_lives.specs.Rested.{RestsIn, IsCovered}
use Rattle.lane_calls.specs.Upkept.{HaveRun}

-- ---- the newest state

last-of : (xs : List ClusterState) (x : ClusterState) → slice_get (xs ++ x ∷ []) (length xs) ≡ Some x
last-of [] x = refl
last-of (y ∷ ys) x = last-of ys x

-- it was published last
newest-is : (J : List LaneEvent) → newest_of (published_states J) ≡ last_state J
newest-is [] = refl
newest-is (Published s ∷ J) = ap (λ (k : ℕ). slice_get (published_states J ++ s ∷ []) k) (ap (λ (k : ℕ). k - 1) (length-append (published_states J) (s ∷ [])) ∙ (omega arith)) ∙ last-of (published_states J) s
newest-is (_ ∷ J) = newest-is J

-- and with its version
newest-in : (S : Placing) (J : List LaneEvent) → IsLegal S J → (s : ClusterState) → last_state J ≡ Some s → state_in s.version J ≡ Some s
newest-in S [] l s h = cc
newest-in S (Published t ∷ J) l s h =
    subst (λ (x : ClusterState). or_else (state_in x.version J) (only_if (t.version == x.version) t) ≡ Some x) same
    (ap (λ (o : Option ClusterState). or_else {A = ClusterState} o (only_if (t.version == t.version) t)) (fresh (state_in t.version J) refl) ∙ ap (λ (b : Bool). only_if b t) (eq-eqb t.version t.version refl))
  where
    same : t ≡ s
    same = let e : ◌≡◌ {A = Option ClusterState} (Some t) (Some s) = h in cc

    fresh : (o : Option ClusterState) → state_in t.version J ≡ o → o ≡ None
    fresh None e = refl
    fresh (Some x) e =
        let may : MayPublish S.acks (state_of (history (Published t ∷ J))) (history J) t.version (serves t) = (l.1).permitted in
        let less = may.newest t.version (state-published t.version J x e) in
        absurd (omega (arith, less))
newest-in S (_ ∷ J) l s h = newest-in S J l.0 s h

-- ---- rows

either-some : {A : Type 0} (t : Bool) (x : A) (o : Option A) → is_some o ≡ true → is_some (cond t (Some x) o) ≡ true
either-some true x o h = refl
either-some false x o h = h

-- once a version is opened each key of the lane has a row there
has-row : (S : Placing) (J : List LaneEvent) → IsLegal S J → (v key : ℕ) → opened v (history J) ≡ true → contains S.lane key ≡ true → is_some (row_at v key (history J)) ≡ true
has-row S [] l v key o k = absurd (true≢false (sym o))
has-row S (Opened d w bs ∷ J) l v key o k = by_version (w == v) o (λ h. has-row S J l.0 v key h k)
  where
    by_version : (t : Bool) → cond t true (opened v (history J)) ≡ true → (opened v (history J) ≡ true → is_some (row_at v key (history J)) ≡ true) → is_some (cond t (row_in key bs) (row_at v key (history J))) ≡ true
    by_version true h ih = ((l.1).placed).1.parts key ∙ k
    by_version false h ih = ih h
has-row S (Decided d w (choice.RowSplit b) ∷ J) l v key o k = by_version (w == v) (contains b key) (has-row S J l.0 v key o k)
  where
    by_version : (t u : Bool) → is_some (row_at v key (history J)) ≡ true → is_some (cond t (cond u (Some (cond (contains (first_child b) key) (first_child b) (second_child b))) (row_at v key (history J))) (row_at v key (history J))) ≡ true
    by_version true u ih = either-some u _ _ ih
    by_version false u ih = ih
has-row S (Decided d w (choice.RowsJoined p) ∷ J) l v key o k = by_version (w == v) (contains p key) (has-row S J l.0 v key o k)
  where
    by_version : (t u : Bool) → is_some (row_at v key (history J)) ≡ true → is_some (cond t (cond u (Some p) (row_at v key (history J))) (row_at v key (history J))) ≡ true
    by_version true u ih = either-some u _ _ ih
    by_version false u ih = ih
has-row S (Decided d w (choice.RoundBegun b set) ∷ J) l v key o k = has-row S J l.0 v key o k
has-row S (Decided d w (choice.RoundEnded b set) ∷ J) l v key o k = has-row S J l.0 v key o k
has-row S (Decided d w (choice.ActiveOn b n) ∷ J) l v key o k = has-row S J l.0 v key o k
has-row S (Decided d w (choice.DeleteFrom b n t) ∷ J) l v key o k = has-row S J l.0 v key o k
has-row S (Decided d w (choice.DeleteOver b n) ∷ J) l v key o k = has-row S J l.0 v key o k
has-row S (_ ∷ J) l v key o k = has-row S J l.0 v key o k

-- the row of a key is in the list, and has the key
record IsListed (key : ℕ) (rs : List Row) : Type 0 where
  row : Row
  among : IsIn row rs
  has : contains row.bucket key ≡ true

listed : (key : ℕ) (rs : List Row) → is_some (bucket_of (row_with key rs)) ≡ true → IsListed key rs
listed key [] h = absurd (true≢false (sym h))
listed key (r ∷ rs) h = by_key (contains r.bucket key) refl h (listed key rs)
  where
    by_key : (t : Bool) → contains r.bucket key ≡ t → is_some (bucket_of (cond t (Some r) (row_with key rs))) ≡ true → (is_some (bucket_of (row_with key rs)) ≡ true → IsListed key rs) → IsListed key (r ∷ rs)
    by_key true e h ih = record { row = r; among = inl refl; has = e }
    by_key false e h ih = let x = ih h in record { row = x.row; among = inr x.among; has = x.has }

-- ---- rest

runs-of : (J : List LaneEvent) (s : ClusterState) → last_state J ≡ Some s → HaveRun J → (n : ℕ) → serves s n ≡ true → stopped n (history J) ≡ false
runs-of J s last run = by_state (last_state J) last run
  where
    by_state : (o : Option ClusterState) → o ≡ Some s → IfSome o (λ x. (n : ℕ) → serves x n ≡ true → stopped n (history J) ≡ false) → (n : ℕ) → serves s n ≡ true → stopped n (history J) ≡ false
    by_state None e h = cc
    by_state (Some t) e h = let same : t ≡ s = cc in subst (λ (x : ClusterState). (n : ℕ) → serves x n ≡ true → stopped n (history J) ≡ false) same h

pub covered : (s : Setting) (lane : Low) (J : List LaneEvent) → IsLegal (setting_of lane s.rules) J → RestsIn s lane J → HaveRun J → (key : ℕ) → has_key lane key ≡ true → IsCovered key J
covered s lane J legal rest run key has =
    let S = setting_of lane s.rules in
    let state = rest.state in
    let last : last_state J ≡ Some state = sym (newest-is J) ∙ rest.newest in
    let lawful = meant-legal S J legal in
    let link = linked S.acks (state_of (history J)) (history J) lawful state.version key in
    let x = listed key (rows state.version (history J)) (ap is_some (sym link.row) ∙ has-row S J legal state.version key rest.is_open (contains-is lane key ∙ has)) in
    let a : IsActivated state.version x.row (history J) = (rest.settled x.row x.among).active in
    let r : InRegion state.version a.node key (history J) = a.region key (sym (contains-is (x.row).bucket key) ∙ x.has) in
    let member = sent-member S.acks (state_of (history J)) (history J) lawful r.number r.message r.was_sent in
    let serving : serves state a.node ≡ true = sym (state-serves S J legal state.version a.node state (newest-in S J legal state last)) ∙ subst (λ (v : ℕ). state_of (history J) v a.node ≡ true) r.version (subst (λ (n : ℕ). state_of (history J) (r.message).version n ≡ true) r.receiver member) in
    record { state = state; newest = last; node = a.node; current = a.current; runs = runs-of J state last run a.node serving; region = r }
