-- What a search over prefixes of legal journals counts.
use Rattle.std.proofs.Common.{◌≡◌, ◌<◌, ◌≤◌, ◌^◌, ◌||◌, ◌&&◌, ◌==◌, ℕ, zero, suc, Bool, true, false, cond, not, List, [], ◌∷◌, map, length, Option, None, Some, is_some, inl, inr, refl, sym, ap, ◌∙◌, subst, arith}
use mathlib.Core.Bool.{true≢false}
use Rattle.std.proofs.lemmas.Bool.Decides.{nat_tests}
use Rattle.std.specs.Str.{bytes_eq}
use Rattle.bucket_ids.specs.Buckets.{IsBucket, has_key}
use Rattle.global_ids.specs.Keys as keys
use Rattle.doc_types.specs.SchemaCodes.{Types}
use Rattle.documents.specs.Fields.{Contents}
use Rattle.document_rows.specs.Rows.{Rows, has_row, document_of}
use Rattle.view_changes.specs.Views.{NodeView, in_regions, node_at, view_after}
use Rattle.view_changes.specs.Opening.{opening}
use Rattle.view_changes.specs.Kept.{IsView}
use Rattle.view_changes.specs.Shown.{shown}
use Rattle.view_changes.specs.Serving.{serves}
use Rattle.search_laws.specs.Searches as searches
use Rattle.search_laws.specs.Searches.{Seen, times_counted, covered, LieIn, AreLanes, SomeNode, SomeSeen, EachNode, EachSeen}
use Rattle.lane_journals.specs.Stamps.{Stamp, Le}
use Rattle.lane_journals.specs.Buckets.{Bucket, Id, contains, key_of}
use Rattle.lane_journals.specs.Events as plain
use Rattle.lane_journals.specs.Readers.{Journal, Beginning, began, version, store, AckedBy, Acked}
use Rattle.lane_journals.specs.Facts.{InRegion}
use Rattle.lane_journals.specs.States.{state_of}
use Rattle.lane_journals.specs.Meanings.{history}
use Rattle.lane_journals.specs.Places.{Setting}
use Rattle.lane_journals.specs.KeptJournals.{IsLegal}
use Rattle.lane_journals.specs.declared.event.LaneEvent.{LaneEvent}
use Rattle.lane_journals.specs.declared.event.LaneEvent.TheVariants.{Begun}
use Rattle.lane_journals.proofs.Basics.{or_else-cases, only_if-some, began-stays}
use Rattle.lane_journals.proofs.Meant.{meant-legal}
use Rattle.lane_journals.specs.ActiveCopies.{InAll}
use Rattle.lane_durability.specs.Laws.{InAllKept}
use Rattle.lane_durability.specs.Durability.{SearchIsCurrent}
use Rattle.lane_keeping.specs.NodeKeeping.{regions}
use Rattle.journal_views.proofs.Members.{In, in-contains, contains-in}
use Rattle.lane_keeping.proofs.Regions.{said}
use Rattle.lane_keeping.proofs.Words.{contains-is, key-is}
use Rattle.lane_changes.specs.Changes.{changes_of}
use Rattle.journal_views.specs.JournalViews.{IsWrittenAs, held_entry, view_of, HasRead, Shows, FindRoom}
use Rattle.journal_views.specs.Fronts.{Front, IsFront, NoneHas, AreFronts, seen_at, one_if, IsCountedAs}
use Rattle.journal_views.proofs.Lanes.{region-lies}
use Rattle.journal_views.proofs.Standing.{within-is}

-- ---- what is known

pub record Laws : Type 0 where
  pub shown : InAllKept (λ S J. (types : Types) → IsBucket S.lane → FindRoom J → Shows (view_of types J) (view_after (opening types) (changes_of J)))
  pub view : InAllKept (λ S J. (types : Types) → IsBucket S.lane → FindRoom J → IsView (view_after (opening types) (changes_of J)))
  pub lane : InAllKept (λ S J. (types : Types) → IsBucket S.lane → FindRoom J → LieIn S.lane (view_after (opening types) (changes_of J)).nodes)
  pub full : (w : ℕ) (test : NodeView → Bool) (ls : List Seen) → AreLanes ls → EachSeen w (λ n. test n ≡ true) ls → covered w ls ≡ 2 ^ 58 → (key : ℕ) → key < 2 ^ 58 → SomeSeen w key (λ n. test n ≡ true) ls
  pub there : (w : ℕ) (id : Id) (ls : List Seen) → AreLanes ls → SomeSeen w (keys.key_of id) (λ n. has_row id n.rows ≡ true) ls → times_counted w id ls ≡ 1
  pub absent : (w : ℕ) (id : Id) (ls : List Seen) → AreLanes ls → SomeSeen w (keys.key_of id) (λ n. has_row id n.rows ≡ false) ls → times_counted w id ls ≡ 0
  pub held : InAllKept (λ S J. (n : ℕ) (id : Id) (s : Stamp) → store n id (history J) ≡ Some s → IsWrittenAs J id s)
  pub current : InAll (λ acks P J. SearchIsCurrent J)
  pub small : (id : Id) → keys.key_of id < 2 ^ 58

-- ---- lanes

none-has : (types : Types) (key : ℕ) (fs : List Front) → NoneHas key fs → searches.NoneHas key (map (seen_at types) fs)
none-has types key [] h = tt
none-has types key (f ∷ fs) h = (h.0, none-has types key fs h.1)

pub are-lanes : Laws → (types : Types) (fs : List Front) → AreFronts fs → AreLanes (map (seen_at types) fs)
are-lanes laws types [] h = tt
are-lanes laws types (f ∷ fs) h =
    let i : IsFront f = h.0 in
    (laws.view f.setting i.acks f.journal i.legal types i.lane i.room, laws.lane f.setting i.acks f.journal i.legal types i.lane i.room, (λ key k. none-has types key fs (h.1 key k)), are-lanes laws types fs h.2)

-- ---- the node that is over a key

-- a node that serves and has the key in a region, with a fact of it
pub record IsAt (w key : ℕ) (P : NodeView → Type 0) (ns : List NodeView) : Type 0 where
  pub node : ℕ
  pub low : node < length ns
  pub serving : serves w (node_at node ns) ≡ true
  pub over : in_regions (node_at node ns).regions key ≡ true
  pub fact : P (node_at node ns)

node-found : (w key : ℕ) (P : NodeView → Type 0) (ns : List NodeView) → SomeNode w key P ns → IsAt w key P ns
node-found w key P [] s = absurd s
node-found w key P (n ∷ ns) (inl s) = record { node = zero; low = omega arith; serving = s.0; over = s.1; fact = s.2 }
node-found w key P (n ∷ ns) (inr s) = let r = node-found w key P ns s in let l = r.low in record { node = suc r.node; low = omega (arith, l); serving = r.serving; over = r.over; fact = r.fact }

node-back : (w key : ℕ) (P : NodeView → Type 0) (ns : List NodeView) → IsAt w key P ns → SomeNode w key P ns
node-back w key P [] r = let l = r.low in absurd (omega (arith, l))
node-back w key P (n ∷ ns) r = by_place r.node r.low r.serving r.over r.fact (λ q. node-back w key P ns q)
  where
    by_place : (i : ℕ) → i < length (n ∷ ns) → serves w (node_at i (n ∷ ns)) ≡ true → in_regions (node_at i (n ∷ ns)).regions key ≡ true → P (node_at i (n ∷ ns)) → (IsAt w key P ns → SomeNode w key P ns) → SomeNode w key P (n ∷ ns)
    by_place zero l s o f ih = inl (s, o, f)
    by_place (suc i) l s o f ih = inr (ih (record { node = i; low = omega (arith, l); serving = s; over = o; fact = f }))

record IsAtFront (types : Types) (w key : ℕ) (P : NodeView → Type 0) (fs : List Front) : Type 0 where
  front : Front
  among : In front fs
  at : IsAt w key P ((seen_at types front).view).nodes

front-found : (types : Types) (w key : ℕ) (P : NodeView → Type 0) (fs : List Front) → SomeSeen w key P (map (seen_at types) fs) → IsAtFront types w key P fs
front-found types w key P [] s = absurd s
front-found types w key P (f ∷ fs) (inl s) = record { front = f; among = inl refl; at = node-found w key P ((seen_at types f).view).nodes s }
front-found types w key P (f ∷ fs) (inr s) = let r = front-found types w key P fs s in record { front = r.front; among = inr r.among; at = r.at }

pub front-back : (types : Types) (w key : ℕ) (P : NodeView → Type 0) (fs : List Front) (f : Front) → In f fs → IsAt w key P ((seen_at types f).view).nodes → SomeSeen w key P (map (seen_at types) fs)
front-back types w key P [] f i a = absurd i
front-back types w key P (g ∷ fs) f (inl is) a = inl (node-back w key P ((seen_at types g).view).nodes (subst (λ (x : Front). IsAt w key P ((seen_at types x).view).nodes) (sym is) a))
front-back types w key P (g ∷ fs) f (inr i) a = inr (front-back types w key P fs f i a)

each-node : (w : ℕ) (P : NodeView → Type 0) → ((n : NodeView) → P n) → (ns : List NodeView) → EachNode w P ns
each-node w P all [] = tt
each-node w P all (n ∷ ns) = ((λ s. all n), each-node w P all ns)

each-seen : (w : ℕ) (P : NodeView → Type 0) → ((n : NodeView) → P n) → (ls : List Seen) → EachSeen w P ls
each-seen w P all [] = tt
each-seen w P all (l ∷ ls) = (each-node w P all (l.view).nodes, each-seen w P all ls)

pub front-of : (fs : List Front) → AreFronts fs → (f : Front) → In f fs → IsFront f
front-of [] h f i = absurd i
front-of (g ∷ fs) h f (inl is) = subst IsFront is h.0
front-of (g ∷ fs) h f (inr i) = front-of fs h.2 f i

none-of : (key : ℕ) (fs : List Front) → NoneHas key fs → (f : Front) → In f fs → has_key (f.setting).lane key ≡ false
none-of key [] h f i = absurd i
none-of key (g ∷ fs) h f (inl is) = subst (λ (x : Front). has_key (x.setting).lane key ≡ false) is h.0
none-of key (g ∷ fs) h f (inr i) = none-of key fs h.1 f i

-- two lanes with a common key are one
one-lane : (key : ℕ) (fs : List Front) → AreFronts fs → (f g : Front) → In f fs → In g fs → has_key (f.setting).lane key ≡ true → has_key (g.setting).lane key ≡ true → f ≡ g
one-lane key [] h f g i j a b = absurd i
one-lane key (x ∷ fs) h f g (inl is) (inl js) a b = sym is ∙ js
one-lane key (x ∷ fs) h f g (inl is) (inr j) a b = absurd (true≢false (sym b ∙ none-of key fs (h.1 key (subst (λ (y : Front). has_key (y.setting).lane key ≡ true) (sym is) a)) g j))
one-lane key (x ∷ fs) h f g (inr i) (inl js) a b = absurd (true≢false (sym a ∙ none-of key fs (h.1 key (subst (λ (y : Front). has_key (y.setting).lane key ≡ true) (sym js) b)) f i))
one-lane key (x ∷ fs) h f g (inr i) (inr j) a b = one-lane key fs h.2 f g i j a b

-- ---- what is acknowledged in a lane is of a document of the lane

began-lane : (S : Setting) (J : List LaneEvent) → IsLegal S J → (line : ℕ) (b : Beginning) → began line (history J) ≡ Some b → contains S.lane (key_of b.id) ≡ true
began-lane S [] l line b h = cc
began-lane S (Begun k d v id s ∷ J) l line b h = elim (or_else-cases (began line (history J)) _ b h) [
  | inl old ↦ began-lane S J l.0 line b old
  | inr new ↦ (let o = only_if-some (k == line) _ b new.1 in subst (λ (x : Beginning). contains S.lane (key_of x.id) ≡ true) o.1 ((l.1).placed).1)
]
began-lane S (_ ∷ J) l line b h = began-lane S J l.0 line b h

record IsBegun (id : Id) (H : Journal) : Type 0 where
  line : ℕ
  begin : Beginning
  begun : began line H ≡ Some begin
  of_id : begin.id ≡ id

begun-stays : (id : Id) (H : Journal) (e : plain.Event) → IsBegun id H → IsBegun id (e ∷ H)
begun-stays id H e h = record { line = h.line; begin = h.begin; begun = began-stays h.line H h.begin e h.begun; of_id = h.of_id }

acked-begun : (v : ℕ) (id : Id) (s : Stamp) (H : Journal) → Acked v id s H → IsBegun id H
acked-begun v id s [] h = absurd h
acked-begun v id s (plain.Closed k true ∷ H) (inl now) = begun-stays id H (plain.Closed k true) (by_line (began k H) refl now)
  where
    by_line : (o : Option Beginning) → began k H ≡ o → AckedBy v id s o → IsBegun id H
    by_line None e a = absurd a
    by_line (Some b) e a = record { line = k; begin = b; begun = e; of_id = a.1 }
acked-begun v id s (plain.Closed k true ∷ H) (inr old) = begun-stays id H (plain.Closed k true) (acked-begun v id s H old)
acked-begun v id s (plain.Closed k false ∷ H) h = begun-stays id H (plain.Closed k false) (acked-begun v id s H h)
acked-begun v id s (e ∷ H) h = begun-stays id H e (acked-begun v id s H h)

acked-lane : (S : Setting) (J : List LaneEvent) → IsLegal S J → (v : ℕ) (id : Id) (s : Stamp) → Acked v id s (history J) → contains S.lane (key_of id) ≡ true
acked-lane S J l v id s h = let b = acked-begun v id s (history J) h in subst (λ (i : Id). contains S.lane (key_of i) ≡ true) b.of_id (began-lane S J l b.line b.begin b.begun)

-- ---- what is counted

has-some : (id : Id) (rows : Rows) → has_row id rows ≡ is_some (document_of id rows)
has-some id [] = refl
has-some id (None ∷ rows) = has-some id rows
has-some id (Some d ∷ rows) = by_test (bytes_eq d.id id) (has-some id rows)
  where
    by_test : (t : Bool) → has_row id rows ≡ is_some (document_of id rows) → (t || has_row id rows) ≡ is_some (cond {A = Option Contents} t (Some d) (document_of id rows))
    by_test true ih = refl
    by_test false ih = ih

serving-version : (w : ℕ) (x : NodeView) → serves w x ≡ true → x.version ≡ w
serving-version w x h = by_test (x.version == w) refl h
  where
    by_test : (t : Bool) → (x.version == w) ≡ t → (t && not x.stopped) ≡ true → x.version ≡ w
    by_test true e g = grind (arith, nat_tests)
    by_test false e g = absurd (true≢false (sym g))

serving-runs : (w : ℕ) (x : NodeView) → serves w x ≡ true → x.stopped ≡ false
serving-runs w x h = by_tests (x.version == w) x.stopped refl h
  where
    by_tests : (t u : Bool) → x.stopped ≡ u → (t && not u) ≡ true → x.stopped ≡ false
    by_tests true false e g = e
    by_tests true true e g = absurd (true≢false (sym g))
    by_tests false u e g = absurd (true≢false (sym g))

pub counted-as : (laws : Laws) (types : Types) (w : ℕ) (id : Id) (fs : List Front) → AreFronts fs → covered w (map (seen_at types) fs) ≡ 2 ^ 58
    → IsCountedAs types w id fs (times_counted w id (map (seen_at types) fs))
counted-as laws types w id fs h full = by_front (front-found types w (keys.key_of id) (λ n. true ≡ true) fs
    (laws.full w (λ n. true) (map (seen_at types) fs) lanes (each-seen w (λ n. true ≡ true) (λ n. refl) (map (seen_at types) fs)) full (keys.key_of id) (laws.small id)))
  where
    lanes : AreLanes (map (seen_at types) fs)
    lanes = are-lanes laws types fs h

    by_front : IsAtFront types w (keys.key_of id) (λ n. true ≡ true) fs → IsCountedAs types w id fs (times_counted w id (map (seen_at types) fs))
    by_front r = record {
      front = f;
      among = contains-in fs f r.among;
      node = n;
      version_is = at_version;
      runs = sym (read.stopped_is) ∙ serving-runs w x (r.at).serving;
      region = region;
      seen = document;
      counted = by_row (has_row id x.rows) refl ∙ ap one_if (has-some id x.rows ∙ ap is_some document);
      left = laws.held f.setting is.acks J is.legal n id;
      current = λ g i v s a le. newest g (in-contains fs g i) v s a le;
    }
      where
        f : Front
        f = r.front

        is : IsFront f
        is = front-of fs h f r.among

        J : List LaneEvent
        J = f.journal

        n : ℕ
        n = (r.at).node

        x : NodeView
        x = node_at n ((seen_at types f).view).nodes

        shows : Shows (view_of types J) (seen_at types f).view
        shows = laws.shown f.setting is.acks J is.legal types is.lane is.room

        low : n < 32
        low = let many = shows.many in let l = (r.at).low in omega (arith, many, l)

        read : HasRead (view_of types J n) x
        read = shows.nodes n low

        at_version : version n (history J) ≡ w
        at_version = sym read.version_is ∙ serving-version w x (r.at).serving

        over : in_regions (regions n (history J)) (keys.key_of id) ≡ true
        over = sym (ap (λ (rs : List Bucket). in_regions rs (keys.key_of id)) read.regions_are) ∙ (r.at).over

        region : InRegion w n (key_of id) (history J)
        region = subst (λ (v : ℕ). InRegion v n (key_of id) (history J)) at_version
            (said (f.setting).acks (state_of (history J)) (history J) (meant-legal f.setting J is.legal) n (key_of id)
            (within-is (key_of id) (regions n (history J)) ∙ (ap (in_regions (regions n (history J))) (key-is id) ∙ over)))

        document : document_of id x.rows ≡ shown types id (held_entry n id J)
        document = read.documents_are id ∙ ap (λ t. cond {A = Option Contents} t (shown types id (held_entry n id J)) None) over

        lane : contains (f.setting).lane (key_of id) ≡ true
        lane = region-lies (f.setting) is.lane J is.legal w n (key_of id) region

        by_row : (t : Bool) → has_row id x.rows ≡ t → times_counted w id (map (seen_at types) fs) ≡ one_if (has_row id x.rows)
        by_row true e = laws.there w id (map (seen_at types) fs) lanes
            (front-back types w (keys.key_of id) (λ y. has_row id y.rows ≡ true) fs f r.among (record { node = n; low = (r.at).low; serving = (r.at).serving; over = (r.at).over; fact = e }))
            ∙ sym (ap one_if e)
        by_row false e = laws.absent w id (map (seen_at types) fs) lanes
            (front-back types w (keys.key_of id) (λ y. has_row id y.rows ≡ false) fs f r.among (record { node = n; low = (r.at).low; serving = (r.at).serving; over = (r.at).over; fact = e }))
            ∙ sym (ap one_if e)

        as_key : (S : Setting) → contains S.lane (key_of id) ≡ true → has_key S.lane (key_of id) ≡ true
        as_key S g = sym (contains-is S.lane (key_of id)) ∙ g

        newest : (g : Front) → In g fs → (v : ℕ) (s : Stamp) → Acked v id s (history g.journal) → v ≤ w → Le (Some s) (store n id (history J))
        newest g i v s a le =
            let one : g ≡ f = one-lane (key_of id) fs h g f i r.among (as_key g.setting (acked-lane g.setting g.journal (front-of fs h g i).legal v id s a)) (as_key f.setting lane) in
            laws.current (f.setting).acks is.acks (state_of (history J)) (history J) (meant-legal f.setting J is.legal) w n id region at_version v s
            (subst (λ (y : Front). Acked v id s (history y.journal)) one a) le
