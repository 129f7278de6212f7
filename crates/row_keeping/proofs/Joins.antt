-- Two rows are joined.
use Rattle.std.proofs.Common.{◌≡◌, ◌&&◌, not, ℕ, zero, suc, ◌+◌, ◌-◌, ◌*◌, ◌%◌, ◌^◌, ◌<◌, ◌≤◌, Bool, true, false, nat_le, nat_lt, List, [], ◌∷◌, cond, Option, Some, None, inl, inr, ◌⊎◌, refl, sym, ap, ap₂, ◌∙◌, subst, slice_get, arith, eq-eqb, pow_pos, pow-suc, add-one, mod-eq_of_lt}
use Rattle.std.specs.List.{filter, Contains}
use Rattle.std.proofs.lemmas.Bool.{cases_lt}
use Rattle.std.proofs.lemmas.Bool.Decides.{nat_tests}
use Rattle.std.proofs.lemmas.Nat.{mod_below, mod_low}
use Rattle.bucket_ids.specs.Buckets.{Low, has_key, parent_of, sibling_of}
use Rattle.bucket_ids.specs.Buckets as ids
use Rattle.node_sets.specs.Members.{has_node}
use Rattle.cluster_states.specs.declared.cluster_state.ClusterState.{ClusterState}
use Rattle.bucket_db.specs.Changes.{with_joined}
use Rattle.bucket_db.specs.declared.row.Row.{Row}
use Rattle.bucket_db.specs.declared.row.Deleting.{Deleting}
use Rattle.messages.specs.declared.decision.Decision.TheVariants as choice
use Rattle.node_model.specs.Nodes.{Node}
use Rattle.distributor_part.specs.declared.rules.Rules.{Rules}
use Rattle.distributor_part.specs.Parts.{Part}
use Rattle.distributor_part.specs.Upkeep.{JoinsRows}
use Rattle.lane_journals.specs.Buckets.{contains, covers, first_child, second_child, across}
use Rattle.lane_journals.specs.Events.{Decided, RowsJoined}
use Rattle.lane_journals.specs.Readers as readers
use Rattle.lane_journals.specs.Readers.{Journal, or_else, active, deleting}
use Rattle.lane_journals.specs.Legal.{IsIdleRow, MayJoin}
use Rattle.lane_journals.specs.Meanings.{history}
use Rattle.lane_journals.specs.Places.{Setting}
use Rattle.lane_journals.specs.KeptJournals.{IsLegalStep}
use Rattle.lane_journals.specs.declared.event.LaneEvent.{LaneEvent}
use Rattle.lane_journals.specs.declared.event.LaneEvent.TheVariants as event
use Rattle.lane_journals.proofs.BucketLaws.{child_of, across-first, across-second, covers-of, covers-contains}
use Rattle.lane_keeping.specs.LaneKeeping.{setting_of, IsDelete, row_by, part_in, Keeps}
use Rattle.lane_keeping.specs.Laws.{IsKeptNext}
use Rattle.lane_keeping.proofs.Owners.{known-row, place-fits}
use Rattle.row_keeping.specs.Deciding.{IsDeciding}
use Rattle.row_keeping.proofs.RowLists.{Apart, parted-of, place-row, not-true, come-here, come-other, come-apart, kept-apart, kept-here, kept-other}
use Rattle.row_keeping.proofs.Reading.{Says, SaysRow}
use Rattle.row_keeping.proofs.Decided.{owns, rows-apart, rows-say, decided-next}
use Rattle.row_keeping.proofs.Changes.{quiet}

-- ---- a parent and its children

double : (k : ℕ) → 2 ^ (k + 1) ≡ 2 ^ k + 2 ^ k
double k = rw add-one (rw (pow-suc 2 k) (omega arith))

-- a bucket and its sibling are the children of the parent, in this order or the other
are-children : (b : Low) → b.low < 2 ^ b.bits → 1 ≤ b.bits → ((b ≡ first_child (parent_of b)) × (sibling_of b ≡ second_child (parent_of b))) ⊎ ((sibling_of b ≡ first_child (parent_of b)) × (b ≡ second_child (parent_of b)))
unfolding first_child second_child
are-children b fits some = elim (cases_lt b.low half) [
  | inl below ↦
      let low : b.low % half ≡ b.low = mod-eq_of_lt below in
      let other : cond (nat_lt b.low half) (b.low + half) (b.low - half) ≡ b.low + half = grind (arith, nat_tests) in
      inl (same_low (sym bits) (sym low), same_low (sym bits) (other ∙ ap (λ x. x + half) (sym low)))
  | inr above ↦
      let low : b.low % half ≡ b.low - half = low_of_rest above in
      let other : cond (nat_lt b.low half) (b.low + half) (b.low - half) ≡ b.low - half = grind (arith, nat_tests) in
      inr (same_low (sym bits) (other ∙ sym low), same_low (sym bits) (omega (arith, low)))
]
  where
    half : ℕ
    half = 2 ^ (b.bits - 1)

    bits : (b.bits - 1) + 1 ≡ b.bits
    bits = omega arith

    same_low : {i j x y : ℕ} → i ≡ j → x ≡ y → (let n : Low = record { bits = i; low = x } in n) ≡ record { bits = j; low = y }
    same_low e f = ap₂ (λ i x. record { bits = i; low = x }) e f

    top : b.low < half + half
    top = omega (arith, subst (λ k. b.low < 2 ^ k) (sym bits) fits, double (b.bits - 1))

    low_of_rest : half ≤ b.low → b.low % half ≡ b.low - half
    low_of_rest above =
        let whole : b.low ≡ 1 * half + (b.low - half) = omega arith in
        ap (λ x. x % half) whole ∙ mod_low 1 (b.bits - 1) (b.low - half) (omega (arith, top))

parent-fits : (b : Low) → (parent_of b).low < 2 ^ (parent_of b).bits
parent-fits b = mod_below b.low (2 ^ (b.bits - 1)) (pow_pos (b.bits - 1))

bits-first : (p : Low) → (first_child p).bits ≡ p.bits + 1
unfolding first_child
bits-first p = refl

bits-second : (p : Low) → (second_child p).bits ≡ p.bits + 1
unfolding second_child
bits-second p = refl

covers-is : (a b : Low) → ids.covers a b ≡ covers a b
unfolding covers contains
covers-is a b = by_test (nat_le a.bits b.bits) (has_key a b.low)
  where
    by_test : (x y : Bool) → (x && y) ≡ cond x y false
    by_test true y = refl
    by_test false y = refl

-- ---- the joined row

-- the row that two rows make, the first of which has the keys of the first child
record IsMerged (one two joined : Row) : Type 0 where
  fits : (joined.bucket).low < 2 ^ (joined.bucket).bits
  first : one.bucket ≡ first_child joined.bucket
  second : two.bucket ≡ second_child joined.bucket
  members : (n : ℕ) → has_node joined.complete n ≡ cond (has_node one.complete n) (has_node two.complete n) false
  active_first : one.active ≡ joined.active
  active_second : two.active ≡ joined.active
  deletes : (one.deleting ≡ None) ⊎ (two.deleting ≡ None)
  first_delete : two.deleting ≡ None → joined.deleting ≡ one.deleting
  second_delete : one.deleting ≡ None → joined.deleting ≡ two.deleting

and-flip : (a b : Bool) → cond a b false ≡ cond b a false
and-flip true true = refl
and-flip true false = refl
and-flip false true = refl
and-flip false false = refl

and-cond : (a b : Bool) → (a && b) ≡ cond a b false
and-cond true b = refl
and-cond false b = refl

no-delete : (o : Option readers.Deleting) → IsDelete None o → o ≡ None
no-delete None h = refl
no-delete (Some e) h = absurd h

or-none : (o : Option readers.Deleting) → or_else o None ≡ o
or-none None = refl
or-none (Some e) = refl

-- the Delete of either, in whichever order they are looked at
module _ (one two joined : Option Deleting) (a b : Option readers.Deleting) (is_one : IsDelete one a) (is_two : IsDelete two b) where
  none-first : one ≡ None → joined ≡ two → IsDelete joined (or_else a b) × IsDelete joined (or_else b a)
  none-first e is =
      let gone : a ≡ None = no-delete a (subst (λ (o : Option Deleting). IsDelete o a) e is_one) in
      let whole : IsDelete joined b = subst (λ (o : Option Deleting). IsDelete o b) (sym is) is_two in
      (subst (λ (o : Option readers.Deleting). IsDelete joined (or_else o b)) (sym gone) whole, subst (λ (o : Option readers.Deleting). IsDelete joined o) (sym (ap (λ (o : Option readers.Deleting). or_else b o) gone ∙ or-none b)) whole)

  none-second : two ≡ None → joined ≡ one → IsDelete joined (or_else a b) × IsDelete joined (or_else b a)
  none-second e is =
      let gone : b ≡ None = no-delete b (subst (λ (o : Option Deleting). IsDelete o b) e is_two) in
      let whole : IsDelete joined a = subst (λ (o : Option Deleting). IsDelete o a) (sym is) is_one in
      (subst (λ (o : Option readers.Deleting). IsDelete joined o) (sym (ap (λ (o : Option readers.Deleting). or_else a o) gone ∙ or-none a)) whole, subst (λ (o : Option readers.Deleting). IsDelete joined (or_else o a)) (sym gone) whole)

-- ---- the rows

module _ (rs : List Row) (free : Apart rs) (i j : ℕ) (one two joined : Row) (found_one : slice_get rs i ≡ Some one) (found_two : slice_get rs j ≡ Some two) (m : IsMerged one two joined) where
  abbrev p : Low
  p = joined.bucket

  abbrev stays : Row → Bool
  stays r = not (ids.covers joined.bucket r.bucket)

  goes : (r : Row) (key : ℕ) → p.bits ≤ (r.bucket).bits → contains p key ≡ true → contains r.bucket key ≡ true → stays r ≡ false
  goes r key le inside has = ap not (covers-is p r.bucket ∙ covers-of p r.bucket key le inside has)

  one-key : (key : ℕ) → contains (first_child p) key ≡ true → contains one.bucket key ≡ true
  one-key key h = subst (λ (b : Low). contains b key ≡ true) (sym m.first) h

  two-key : (key : ℕ) → contains (second_child p) key ≡ true → contains two.bucket key ≡ true
  two-key key h = subst (λ (b : Low). contains b key ≡ true) (sym m.second) h

  le-one : p.bits ≤ (one.bucket).bits
  le-one = let e = ap (λ (b : Low). b.bits) m.first ∙ bits-first p in omega (arith, e)

  le-two : p.bits ≤ (two.bucket).bits
  le-two = let e = ap (λ (b : Low). b.bits) m.second ∙ bits-second p in omega (arith, e)

  none-left : (key : ℕ) → contains p key ≡ true → row_by key (filter stays rs) ≡ None
  none-left key inside = elim (child_of p key inside) [
    | inl h ↦ kept-here key stays rs one free (place-row rs i one free found_one key (one-key key h)) (goes one key le-one inside (one-key key h))
    | inr h ↦ kept-here key stays rs two free (place-row rs j two free found_two key (two-key key h)) (goes two key le-two inside (two-key key h))
  ]

  joined-apart : Apart (with_joined joined rs)
  joined-apart = come-apart joined (filter stays rs) (kept-apart stays rs free) m.fits none-left

  joined-here : (key : ℕ) → contains p key ≡ true → row_by key (with_joined joined rs) ≡ Some joined
  joined-here key inside = come-here key joined (filter stays rs) inside (none-left key inside)

  joined-other : (key : ℕ) → contains p key ≡ false → row_by key (with_joined joined rs) ≡ row_by key rs
  joined-other key out = come-other key joined (filter stays rs) out ∙ kept-other key stays rs (λ r has. ap not (covers-is p r.bucket ∙ not-true (covers p r.bucket) (λ c. let w : true ≡ false = sym (covers-contains p r.bucket key c has) ∙ out in cc)))

  -- so say the readers
  module _ (v d : ℕ) (H : Journal) (say : (key : ℕ) → Says v key H (row_by key rs)) where
    abbrev K : Journal
    K = Decided d v (RowsJoined joined.bucket) ∷ H

    in-one : (key : ℕ) → contains (first_child p) key ≡ true → SaysRow v key H one
    in-one key h = subst (λ (o : Option Row). Says v key H o) (place-row rs i one free found_one key (one-key key h)) (say key)

    in-two : (key : ℕ) → contains (second_child p) key ≡ true → SaysRow v key H two
    in-two key h = subst (λ (o : Option Row). Says v key H o) (place-row rs j two free found_two key (two-key key h)) (say key)

    both-deletes : (k l : ℕ) → SaysRow v k H one → SaysRow v l H two → IsDelete joined.deleting (or_else (deleting v k H) (deleting v l H)) × IsDelete joined.deleting (or_else (deleting v l H) (deleting v k H))
    both-deletes k l x y = elim m.deletes [
      | inl e ↦ none-first one.deleting two.deleting joined.deleting (deleting v k H) (deleting v l H) x.deletes y.deletes e (m.second_delete e)
      | inr e ↦ none-second one.deleting two.deleting joined.deleting (deleting v k H) (deleting v l H) x.deletes y.deletes e (m.first_delete e)
    ]

    inside-says : (key : ℕ) → contains p key ≡ true → (contains (first_child p) key ≡ true) ⊎ (contains (second_child p) key ≡ true) → SaysRow v key K joined
    inside-says key inside (inl h) = let x = in-one key h in let y = in-two (across p key) (across-first p key m.fits h) in record {
      row = rw (eq-eqb v v refl, inside) refl;
      members = λ n. rw (eq-eqb v v refl, inside, x.members n, y.members n) (sym (m.members n));
      actives = x.actives ∙ m.active_first;
      deletes = rw (eq-eqb v v refl, inside) (both-deletes key (across p key) x y).0;
    }
    inside-says key inside (inr h) = let x = in-one (across p key) (across-second p key m.fits h) in let y = in-two key h in record {
      row = rw (eq-eqb v v refl, inside) refl;
      members = λ n. rw (eq-eqb v v refl, inside, x.members n, y.members n) (and-flip (has_node two.complete n) (has_node one.complete n) ∙ sym (m.members n));
      actives = y.actives ∙ m.active_second;
      deletes = rw (eq-eqb v v refl, inside) (both-deletes (across p key) key x y).1;
    }

    outside-says : (key : ℕ) → contains p key ≡ false → (o : Option Row) → Says v key H o → Says v key K o
    outside-says key out None h = rw (eq-eqb v v refl, out) h
    outside-says key out (Some r) h = record { row = rw (eq-eqb v v refl, out) h.row; members = λ n. rw (eq-eqb v v refl, out) (h.members n); actives = h.actives; deletes = rw (eq-eqb v v refl, out) h.deletes }

    joined-says : (key : ℕ) → Says v key K (row_by key (with_joined joined rs))
    joined-says key = by_key (contains p key) refl
      where
        by_key : (t : Bool) → contains p key ≡ t → Says v key K (row_by key (with_joined joined rs))
        by_key true inside = subst (λ (o : Option Row). Says v key K o) (sym (joined-here key inside)) (inside-says key inside (child_of p key inside))
        by_key false out = subst (λ (o : Option Row). Says v key K o) (sym (joined-other key out)) (outside-says key out (row_by key rs) (say key))

    -- the rows may be joined
    same-active : (key : ℕ) → contains p key ≡ true → active v key H ≡ active v (across p key) H
    same-active key inside = elim (child_of p key inside) [
      | inl h ↦ (in-one key h).actives ∙ m.active_first ∙ sym m.active_second ∙ sym (in-two (across p key) (across-first p key m.fits h)).actives
      | inr h ↦ (in-two key h).actives ∙ m.active_second ∙ sym m.active_first ∙ sym (in-one (across p key) (across-second p key m.fits h)).actives
    ]

    gone-one : one.deleting ≡ None → (key : ℕ) → contains (first_child p) key ≡ true → deleting v key H ≡ None
    gone-one e key h = no-delete (deleting v key H) (subst (λ (o : Option Deleting). IsDelete o (deleting v key H)) e (in-one key h).deletes)

    gone-two : two.deleting ≡ None → (key : ℕ) → contains (second_child p) key ≡ true → deleting v key H ≡ None
    gone-two e key h = no-delete (deleting v key H) (subst (λ (o : Option Deleting). IsDelete o (deleting v key H)) e (in-two key h).deletes)

    one-delete : (key : ℕ) → contains p key ≡ true → (deleting v key H ≡ None) ⊎ (deleting v (across p key) H ≡ None)
    one-delete key inside = elim (child_of p key inside) [
      | inl h ↦ elim m.deletes [ inl e ↦ inl (gone-one e key h) | inr e ↦ inr (gone-two e (across p key) (across-first p key m.fits h)) ]
      | inr h ↦ elim m.deletes [ inl e ↦ inr (gone-one e (across p key) (across-second p key m.fits h)) | inr e ↦ inl (gone-two e key h) ]
    ]

    may-join : IsIdleRow v one.bucket H → IsIdleRow v two.bucket H → MayJoin H v p
    may-join a b = record {
      fits = m.fits;
      first = subst (λ (c : Low). IsIdleRow v c H) m.first a;
      second = subst (λ (c : Low). IsIdleRow v c H) m.second b;
      same_active = same-active;
      one_delete = one-delete;
    }

-- ---- the lane

place-of : (x : Row) (xs : List Row) → Contains xs x → (k : ℕ) × (slice_get xs k ≡ Some x)
place-of x [] c = absurd (let less = c.1 in omega (arith, less))
place-of x (y ∷ ys) (zero, less, is) = (0, ap (λ (z : Row). Some z) is)
place-of x (y ∷ ys) (suc k, less, is) = let z = place-of x ys (k, omega arith, is) in (suc z.0, z.1)

module _ (lane : Low) (rules : Rules) (J : List LaneEvent) (newest : Option ClusterState) (last : ℕ) (nodes : List Node) (parts : List Part) (keep : Keeps lane rules J newest last nodes parts) (now : List Part) (d : ℕ) (s : ClusterState) (g : IsDeciding lane rules J parts now d s)
    (at : ℕ) (x : JoinsRows (part_in lane rules parts d) (part_in lane rules now d) at) where
  abbrev S : Setting
  S = setting_of lane rules

  free : Apart (x.rows).rows
  free = rows-apart lane rules J newest last nodes parts keep d s g.acting x.rows x.opened

  fewer : lane.bits < ((x.row).bucket).bits
  fewer = subst (λ (b : Low). b.bits < ((x.row).bucket).bits) (x.same_lane ∙ (keep.parts_are d).lane_is) (x.joinable).inside

  merged-next : (i j : ℕ) (one two : Row) → slice_get (x.rows).rows i ≡ Some one → slice_get (x.rows).rows j ≡ Some two → IsMerged one two x.joined
      → IsKeptNext lane rules J newest last nodes now (event.Decided d s.version (choice.RowsJoined (x.joined).bucket))
  merged-next i j one two found_one found_two m =
      decided-next lane rules J newest last nodes parts keep d s g.acting x.rows x.opened now g.others (choice.RowsJoined (x.joined).bucket) step (with_joined x.joined (x.rows).rows) x.after
      (joined-apart (x.rows).rows free i j one two x.joined found_one found_two m)
      (joined-says (x.rows).rows free i j one two x.joined found_one found_two m s.version d (history J) say)
    where
      say : (key : ℕ) → Says s.version key (history J) (row_by key (x.rows).rows)
      say = rows-say lane rules J newest last nodes parts keep d s g.acting x.rows x.opened

      still : (k : ℕ) (row : Row) → slice_get (x.rows).rows k ≡ Some row → IsIdleRow s.version row.bucket (history J)
      still k row found = quiet lane rules J newest last nodes parts keep now d s g row (known-row lane rules J newest last nodes parts keep d s g.acting x.rows x.opened k row found)

      above : lane.bits ≤ ((x.joined).bucket).bits
      above = let e = ap (λ (b : Low). b.bits) (x.is_joined).bucket in let f = fewer in omega (arith, e, f)

      step : IsLegalStep S J (event.Decided d s.version (choice.RowsJoined (x.joined).bucket))
      step = record {
        noted = tt;
        permitted = ((g.acting).holds, may-join (x.rows).rows free i j one two x.joined found_one found_two m s.version d (history J) say (still i one found_one) (still j two found_two));
        placed = (owns lane rules J newest last nodes parts keep d s g.acting, above);
        ended = tt;
      }

  pub join-next : IsKeptNext lane rules J newest last nodes now (event.Decided d s.version (choice.RowsJoined (x.joined).bucket))
  join-next = elim (are-children (x.row).bucket (place-fits (x.rows).rows at x.row (parted-of (x.rows).rows free) x.found) (let f = fewer in omega (arith, f))) [
    | inl e ↦ merged-next at other.0 x.row x.other x.found other.1 (record {
      fits = fits;
      first = e.0 ∙ ap first_child (sym parent);
      second = (x.joinable).sibling ∙ e.1 ∙ ap second_child (sym parent);
      members = λ n. (x.is_joined).complete n ∙ and-cond (has_node (x.row).complete n) (has_node (x.other).complete n);
      active_first = sym (x.is_joined).active;
      active_second = sym (x.joinable).active ∙ sym (x.is_joined).active;
      deletes = (x.joinable).deletes;
      first_delete = (x.is_joined).own_delete;
      second_delete = (x.is_joined).other_delete;
    })
    | inr e ↦ merged-next other.0 at x.other x.row other.1 x.found (record {
      fits = fits;
      first = (x.joinable).sibling ∙ e.0 ∙ ap first_child (sym parent);
      second = e.1 ∙ ap second_child (sym parent);
      members = λ n. (x.is_joined).complete n ∙ and-cond (has_node (x.row).complete n) (has_node (x.other).complete n) ∙ and-flip (has_node (x.row).complete n) (has_node (x.other).complete n);
      active_first = sym (x.joinable).active ∙ sym (x.is_joined).active;
      active_second = sym (x.is_joined).active;
      deletes = elim (x.joinable).deletes [ inl own ↦ inr own | inr theirs ↦ inl theirs ];
      first_delete = (x.is_joined).other_delete;
      second_delete = (x.is_joined).own_delete;
    })
  ]
    where
      parent : (x.joined).bucket ≡ parent_of (x.row).bucket
      parent = (x.is_joined).bucket

      fits : ((x.joined).bucket).low < 2 ^ ((x.joined).bucket).bits
      fits = subst (λ (b : Low). b.low < 2 ^ b.bits) (sym parent) (parent-fits (x.row).bucket)

      other : (k : ℕ) × (slice_get (x.rows).rows k ≡ Some x.other)
      other = place-of x.other (x.rows).rows (x.joinable).is_row
