-- Which rows their active nodes accepted, after a decision on a row, and what an answered Activate says.
use Rattle.std.proofs.Common.{◌≡◌, ◌∙◌, ◌&&◌, not, map, ◌%◌, ◌^◌, ◌<◌, ◌≤◌, ℕ, Bool, true, false, List, Option, Some, None, inl, inr, ◌⊎◌, refl, sym, ap, subst, slice_get, arith, pow_pos, eq-eqb}
use Rattle.std.specs.Prelude.{IfSome}
use Rattle.std.specs.List.{filter, remove}
use Rattle.std.proofs.lemmas.Bool.{eqb-true}
use Rattle.std.proofs.lemmas.Nat.{mod_below}
use Rattle.std.proofs.lemmas.List.Elements.{All-contains, All-from_recursion}
use mathlib.Core.Bool.{true≢false}
use Rattle.bucket_ids.specs.Buckets.{Low, IsBucket, IsIn, has_key, covers, first_child, second_child, parent_of, sibling_of}
use Rattle.bucket_ids.proofs.LowBits.{low_of_low}
use Rattle.bucket_ids.proofs.KeySets.{children_parts, sibling_parts}
use Rattle.bucket_db.specs.Rows.{Rows, AreRows, AreBuckets, buckets_of}
use Rattle.bucket_db.specs.Changes.{with_rows, with_halves, with_row, first_half, second_half, split_at, with_joined, IsJoined, at_row, without_delete}
use Rattle.bucket_db.proofs.RowLists.{bucket_at, valid_at}
use Rattle.bucket_db.specs.declared.row.Row.{Row}
use Rattle.messages.specs.declared.body.Body.TheVariants as body
use Rattle.messages.specs.declared.reply.Reply.{Reply}
use Rattle.messages.specs.declared.reply.Reply.TheVariants as reply
use Rattle.distributor_part.specs.Parts.{Part, rows_of, version_of}
use Rattle.distributor_part.specs.Upkeep.{SplitsRow, JoinsRows, ActivatesAt, AcceptsAt, BeginsDelete, EndsDelete, deleting_from}
use Rattle.lane_journals.specs.Events as plain
use Rattle.lane_journals.specs.Buckets.{Bucket}
use Rattle.lane_journals.specs.Readers.{Journal, is_answer}
use Rattle.lane_journals.specs.Facts.{InRegion}
use Rattle.lane_journals.specs.Meanings.{history}
use Rattle.lane_journals.specs.declared.event.LaneEvent.{LaneEvent}
use Rattle.lane_journals.proofs.Basics.{replied-accepted}
use Rattle.lane_keeping.proofs.Words.{contains-is}
use Rattle.lane_states.specs.Accepting.{IsActiveAt, HasAccepted, IsAccepted, AreRowsAccepted, IsPartAccepted}
use Rattle.lane_rounds.proofs.RowLists.{all-get, all-come, all-gone, all-kept, all-at, all-changed}
use Rattle.lane_upkeep.specs.declared.owner.Owner.{Owner}
use Rattle.lane_upkeep.specs.CameBack.{CameBack, is_taken}

-- ---- keys of whatever size

key-in : (b : Low) → b.bits ≤ 58 → (key : ℕ) → has_key b key ≡ true → IsIn b (key % 2 ^ 58)
key-in b most key h = (mod_below key (2 ^ 58) (pow_pos 58), low_of_low key b.bits 58 most ∙ eqb-true (key % 2 ^ b.bits) b.low h)

key-of : (b : Low) → b.bits ≤ 58 → (key : ℕ) → IsIn b (key % 2 ^ 58) → has_key b key ≡ true
key-of b most key k = eq-eqb (key % 2 ^ b.bits) b.low (sym (low_of_low key b.bits 58 most) ∙ k.1)

first-key : (b : Low) → IsBucket b → b.bits < 58 → (key : ℕ) → has_key (first_child b) key ≡ true → has_key b key ≡ true
first-key b ok few key h = key-of b ok.most key ((children_parts b ok (key % 2 ^ 58)).1 (inl (key-in (first_child b) (omega arith) key h)))

second-key : (b : Low) → IsBucket b → b.bits < 58 → (key : ℕ) → has_key (second_child b) key ≡ true → has_key b key ≡ true
second-key b ok few key h = key-of b ok.most key ((children_parts b ok (key % 2 ^ 58)).1 (inr (key-in (second_child b) (omega arith) key h)))

-- a key of the parent lies in the one child or in the other
parent-key : (b : Low) → IsBucket b → 1 < b.bits → (key : ℕ) → has_key (parent_of b) key ≡ true → (has_key b key ≡ true) ⊎ (has_key (sibling_of b) key ≡ true)
parent-key b ok more key h =
    let most = ok.most in
    elim ((sibling_parts b ok more (key % 2 ^ 58)).0 (key-in (parent_of b) (omega arith) key h)) [
      | inl own ↦ inl (key-of b ok.most key own)
      | inr other ↦ inr (key-of (sibling_of b) ok.most key other)
    ]

-- ---- rows

bucket-at : (rows : List Row) (at : ℕ) (row : Row) → AreBuckets (buckets_of rows) → slice_get rows at ≡ Some row → IsBucket row.bucket
bucket-at rows at row valid found = valid_at (buckets_of rows) at row.bucket valid (bucket_at rows at row found)

both-true : (a b : Bool) → (a && b) ≡ true → (a ≡ true) × (b ≡ true)
both-true true true h = (refl, refl)
both-true true false h = absurd (true≢false (sym h))
both-true false b h = absurd (true≢false (sym h))

whole-rows : (lane : Low) (o : Option Rows) (rows : Rows) → IfSome o (λ d. AreRows lane (buckets_of d.rows)) → o ≡ Some rows → AreRows lane (buckets_of rows.rows)
whole-rows lane o rows h is = subst (λ (x : Option Rows). IfSome x (λ d. AreRows lane (buckets_of d.rows))) is h

module _ (v : ℕ) (H : Journal) where
  -- the halves of a row
  first-accepted : (row : Row) → IsBucket row.bucket → row.bucket.bits < 58 → IsAccepted v H row → IsAccepted v H (first_half row)
  first-accepted row ok few h is = let was = h is in record { node = was.node; active = was.active; keys = λ key k. was.keys key (first-key row.bucket ok few key k) }

  second-accepted : (row : Row) → IsBucket row.bucket → row.bucket.bits < 58 → IsAccepted v H row → IsAccepted v H (second_half row)
  second-accepted row ok few h is = let was = h is in record { node = was.node; active = was.active; keys = λ key k. was.keys key (second-key row.bucket ok few key k) }

  split-accepted : (rows : List Row) (at : ℕ) (row : Row) → slice_get rows at ≡ Some row → IsBucket row.bucket → row.bucket.bits < 58 → AreRowsAccepted v H rows → AreRowsAccepted v H (split_at at rows)
  split-accepted rows at row found ok few h =
      let was : IsAccepted v H row = all-get (IsAccepted v H) rows at row h found in
      subst (λ (o : Option Row). AreRowsAccepted v H (with_halves o (remove rows at))) (sym found)
      (all-come (IsAccepted v H) (second_half row) (with_row (first_half row) (remove rows at)) (second-accepted row ok few was)
      (all-come (IsAccepted v H) (first_half row) (remove rows at) (first-accepted row ok few was) (all-gone (IsAccepted v H) rows at h)))

  -- the row that two make
  module _ (row other joined : Row) (ok : IsBucket row.bucket) (more : 1 < row.bucket.bits) (sibling : other.bucket ≡ sibling_of row.bucket) (active : row.active ≡ other.active) (x : IsJoined row other joined) where
    made : HasAccepted v H row → HasAccepted v H other → HasAccepted v H joined
    made a b = record { node = a.node; active = x.active ∙ a.active; keys = λ key k. by_half key (parent-key row.bucket ok more key (ap (λ (c : Low). has_key c key) (sym x.bucket) ∙ k)) }
      where
        same : b.node ≡ a.node
        same = let e : Some b.node ≡ Some a.node = sym b.active ∙ sym active ∙ a.active in cc

        by_half : (key : ℕ) → (has_key row.bucket key ≡ true) ⊎ (has_key (sibling_of row.bucket) key ≡ true) → InRegion v a.node key H
        by_half key (inl k) = a.keys key k
        by_half key (inr k) = subst (λ (n : ℕ). InRegion v n key H) same (b.keys key (ap (λ (c : Low). has_key c key) sibling ∙ k))

    pub joined-accepted : IsAccepted v H row → IsAccepted v H other → IsAccepted v H joined
    joined-accepted f g is = let both = both-true row.accepted other.accepted (sym x.accepted ∙ is) in made (f both.0) (g both.1)

-- ---- parts

module _ (H : Journal) (p q : Part) where
  abbrev v : ℕ
  v = version_of p.state

  abbrev Before : Type 0
  Before = IsPartAccepted H p

  abbrev After : Type 0
  After = IsPartAccepted H q

  -- the rows become others
  rows-accepted : (rows : Rows) (now : List Row) → p.rows ≡ Some rows → q ≡ record p { rows = Some (with_rows rows now) } → (AreRowsAccepted v H rows.rows → AreRowsAccepted v H now) → Before → After
  rows-accepted rows now opened after f h = subst (IsPartAccepted H) (sym after) (f (subst (λ (o : Option Rows). AreRowsAccepted v H (rows_of o)) opened h))

  pub accepted_split : (at : ℕ) → IfSome p.rows (λ d. AreRows p.lane (buckets_of d.rows)) → SplitsRow p q at → Before → After
  accepted_split at whole x =
      let all = whole-rows p.lane p.rows x.rows whole x.opened in
      rows-accepted x.rows (split_at at (x.rows).rows) x.opened x.after (split-accepted v H (x.rows).rows at x.row x.found (bucket-at (x.rows).rows at x.row all.valid x.found) x.fewer)

  pub accepted_joined : (at : ℕ) → IfSome p.rows (λ d. AreRows p.lane (buckets_of d.rows)) → JoinsRows p q at → Before → After
  accepted_joined at whole x = rows-accepted x.rows (with_joined x.joined (x.rows).rows) x.opened x.after
      (λ h. all-come (IsAccepted v H) x.joined (filter (λ r. not (covers (x.joined).bucket r.bucket)) (x.rows).rows) (both h) (all-kept (IsAccepted v H) (λ r. not (covers (x.joined).bucket r.bucket)) (x.rows).rows h))
    where
      all : AreRows p.lane (buckets_of (x.rows).rows)
      all = whole-rows p.lane p.rows x.rows whole x.opened

      more : 1 < (x.row).bucket.bits
      more = let some = (all.bucket).some in let inside = (x.joinable).inside in let lane = ap (λ (b : Low). b.bits) x.same_lane in omega arith

      both : AreRowsAccepted v H (x.rows).rows → IsAccepted v H x.joined
      both h = joined-accepted v H x.row x.other x.joined (bucket-at (x.rows).rows at x.row all.valid x.found) more (x.joinable).sibling (x.joinable).active x.is_joined
          (all-get (IsAccepted v H) (x.rows).rows at x.row h x.found)
          (All-contains (IsAccepted v H) (x.rows).rows x.other (All-from_recursion (IsAccepted v H) (x.rows).rows h) (x.joinable).is_row)

  -- a row becomes active on a node, which hasn't accepted it
  pub accepted_activated : (at node : ℕ) → ActivatesAt p q at node → Before → After
  accepted_activated at node x = rows-accepted x.rows (at_row at (λ r. record r { active = Some node; accepted = false }) (x.rows).rows) x.opened x.after
      (all-at (IsAccepted v H) (λ r. record r { active = Some node; accepted = false }) (x.rows).rows at (λ row found a is. absurd (true≢false (sym is))))

  -- and then accepts it
  pub accepted_accepted : (at : ℕ) → AcceptsAt p q at → ((row : Row) → slice_get (rows_of p.rows) at ≡ Some row → HasAccepted v H row) → Before → After
  accepted_accepted at x now = rows-accepted x.rows (at_row at (λ r. record r { accepted = true }) (x.rows).rows) x.opened x.after
      (all-at (IsAccepted v H) (λ r. record r { accepted = true }) (x.rows).rows at
      (λ row found a is. let has = now row (ap (λ (o : Option Rows). slice_get (rows_of o) at) x.opened ∙ found) in record { node = has.node; active = has.active; keys = has.keys }))

  pub accepted_deleting : (at node serial : ℕ) → BeginsDelete p q at node serial → Before → After
  accepted_deleting at node serial x = rows-accepted x.rows (at_row at (deleting_from (x.row).bucket node serial x.marks) (x.rows).rows) x.opened x.after
      (all-at (IsAccepted v H) (deleting_from (x.row).bucket node serial x.marks) (x.rows).rows at (λ row found a is. let was = a is in record { node = was.node; active = was.active; keys = was.keys }))

  pub accepted_deleted : (bucket : Low) (node : ℕ) → EndsDelete p q bucket node → Before → After
  accepted_deleted bucket node x = rows-accepted x.rows (map (without_delete bucket node) (x.rows).rows) x.opened x.after
      (all-changed (IsAccepted v H) (without_delete bucket node) (x.rows).rows (λ row a is. let was = a is in record { node = was.node; active = was.active; keys = was.keys }))

-- ---- an Activate that was answered

answered : (J : List LaneEvent) (o : Owner) (node : ℕ) (b : Low) (r : Reply) (c : CameBack J o node (body.Activate b) r)
    → ((content : plain.Content) × (names : Bucket → ℕ → Bool) × (c.given ≡ plain.Answer content names)) → IsActiveAt (o.state).version b node (history J)
answered J o node b r c (content, names, is) key k = record {
  number = c.number;
  message = c.message;
  bucket = b;
  was_sent = c.was_sent;
  receiver = c.receiver;
  version = c.version;
  body = c.noted;
  accepted = replied-accepted 0 (λ w n. false) (history J) c.number c.given c.replied (ap is_answer is);
  inside = contains-is b key ∙ k;
}

-- the node has the bucket's keys in its regions then
pub active_of : (J : List LaneEvent) (o : Owner) (node : ℕ) (b : Low) (r : Option Reply) → is_taken r ≡ true → IfSome r (λ x. CameBack J o node (body.Activate b) x) → IsActiveAt (o.state).version b node (history J)
active_of J o node b None t c = absurd (true≢false (sym t))
active_of J o node b (Some (reply.Newer w)) t c = absurd (true≢false (sym t))
active_of J o node b (Some reply.NoBucket) t c = absurd (true≢false (sym t))
active_of J o node b (Some reply.Differs) t c = absurd (true≢false (sym t))
active_of J o node b (Some reply.NoMemory) t c = absurd (true≢false (sym t))
active_of J o node b (Some (reply.Answer ps es)) t c = answered J o node b (reply.Answer ps es) c c.noted_reply
