-- Small facts of the life of a lane.
use Rattle.std.proofs.Common.{◌≡◌, ◌↔◌, ℕ, ◌^◌, ◌<◌, ◌≤◌, Bool, true, false, cond, List, [], ◌∷◌, Option, Some, None, refl, sym, ap, ◌∙◌, subst, arith, inl, inr, ◌⊎◌, eqb, zero, suc, slice_index_or, ltb, ◌&&◌}
use Rattle.std.proofs.lemmas.Bool.{eqb-true}
use Rattle.std.proofs.lemmas.Nat.Bits.{bit_at_above, bit_at_ones_above}
use Rattle.std.specs.Prelude.{take, Contains, is_some}
use Rattle.std.specs.Int.{bit_at}
use Rattle.bucket_ids.specs.Buckets.{IsBucket}
use Rattle.node_sets.specs.Members.{has_node}
use Rattle.cluster_states.specs.declared.cluster_state.ClusterState.{ClusterState}
use Rattle.cluster_states.specs.declared.marks.Mark.TheVariants.{Up, Down, Retired}
use Rattle.cluster_states.specs.MarkTests.{is_up}
use Rattle.cluster_states.specs.Publishing.{serves}
use Rattle.ideal_nodes.specs.Scores.{Has}
use Rattle.ideal_nodes.specs.Placement.{Precedes, IsIdeal}
use Rattle.ideal_nodes.proofs.Orders.{precedes_are_order}
use Rattle.lane_journals.specs.Sets.{count_below, count}
use Rattle.lane_journals.specs.Stamps.{newer}
use Rattle.lane_journals.specs.Buckets.{Id, same_id, key_of, Bucket, contains, same_bucket, first_child, second_child}
use Rattle.lane_journals.specs.Events.{Read, Delete}
use Rattle.lane_journals.specs.Readers.{row_in, active}
use Rattle.lane_journals.specs.Pieces.{NodePiece, IsPieceIn}
use Rattle.lane_journals.specs.Meanings.{nodes, names, history}
use Rattle.lane_journals.specs.Naming.{ShowsPieces}
use Rattle.lane_journals.specs.Places.{Setting, state_in, Owns, IsAmongFirst, IsActive, IsTarget, IsFirstMember, IsPartition}
use Rattle.journal_examples.specs.Lives.{lane, setting, state_one, state_two, stamp_two}
use Rattle.pieces.specs.declared.piece.Piece.{Piece}
use Rattle.lane_journals.specs.declared.event.LaneEvent.{LaneEvent}
use Rattle.lane_journals.proofs.Ids.{same_id-true}
use Rattle.lane_journals.proofs.BucketLaws.{same_bucket-true}
use Rattle.journal_examples.proofs.Walking.{EachReply, NamesOnly, asked-only}
use Rattle.proof_basics.proofs.Lists.{contains-one, contains-none}

pub some_same : {A : Type 0} (a b : A) → Some a ≡ Some b → a ≡ b
some_same a b h = cc

pub same_read : (a b : Bucket) → Read a ≡ Read b → a ≡ b
same_read a b h = cc

pub same_test : (t : Bool) → t ≡ cond t true false
same_test true = refl
same_test false = refl

-- ---- nodes

pub two_1 : (n : ℕ) → serves state_one n ≡ true → (n ≡ 0) ⊎ (n ≡ 1)
two_1 zero h = inl refl
two_1 (suc zero) h = inr refl
two_1 (suc (suc n)) h = cc

pub two_2 : (n : ℕ) → serves state_two n ≡ true → (n ≡ 0) ⊎ (n ≡ 1)
two_2 zero h = inl refl
two_2 (suc zero) h = inr refl
two_2 (suc (suc n)) h = cc

pub small_1 : (n : ℕ) → serves state_one n ≡ true → n < 32
small_1 n h = elim (two_1 n h) [ inl is ↦ omega arith | inr is ↦ omega arith ]

pub small_2 : (n : ℕ) → serves state_two n ≡ true → n < 32
small_2 n h = elim (two_2 n h) [ inl is ↦ omega arith | inr is ↦ omega arith ]

clear : (bits k n : ℕ) → bit_at bits n ≡ 0 → nodes bits n ≡ true → ⊥
unfolding has_node
clear bits k n e h = by_test (ltb n 32) (rw e at h)
  where
    by_test : (t : Bool) → (t && eqb 0 1) ≡ true → ⊥
    by_test true h = cc
    by_test false h = cc

pub both_two : (n : ℕ) → nodes 3 n ≡ true → (n ≡ 0) ⊎ (n ≡ 1)
both_two zero h = inl refl
both_two (suc zero) h = inr refl
both_two (suc (suc n)) h = absurd (clear 3 2 (suc (suc n)) (bit_at_ones_above 2 (suc (suc n)) (omega arith)) h)

pub one_first : (n : ℕ) → nodes 1 n ≡ true → n ≡ 0
one_first zero h = refl
one_first (suc n) h = absurd (clear 1 1 (suc n) (bit_at_ones_above 1 (suc n) (omega arith)) h)

pub two_last : (n : ℕ) → nodes 2 n ≡ true → n ≡ 1
two_last zero h = absurd (clear 2 2 0 refl h)
two_last (suc zero) h = refl
two_last (suc (suc n)) h = absurd (clear 2 2 (suc (suc n)) (bit_at_above 2 2 (suc (suc n)) (omega arith) (omega arith)) h)

pub has_two_1 : nodes 2 1 ≡ true
unfolding has_node
has_two_1 = refl

pub has_both_0 : nodes 3 0 ≡ true
unfolding has_node
has_both_0 = refl

pub has_both_1 : nodes 3 1 ≡ true
unfolding has_node
has_both_1 = refl

pub has_one_0 : nodes 1 0 ≡ true
unfolding has_node
has_one_0 = refl

pub enough_3 : 1 ≤ count (nodes 3)
unfolding count count_below has_node
enough_3 = omega arith

pub enough_1 : 1 ≤ count (nodes 1)
unfolding count count_below has_node
enough_1 = omega arith

abbrev pub only_0 : ℕ → Bool
only_0 n = eqb n 0

abbrev pub only_1 : ℕ → Bool
only_1 n = eqb n 1

pub is_0 : (n : ℕ) → only_0 n ≡ true → n ≡ 0
is_0 n h = eqb-true n 0 h

pub is_1 : (n : ℕ) → only_1 n ≡ true → n ≡ 1
is_1 n h = eqb-true n 1 h

-- ---- the states

first_distributor : (n : ℕ) → is_up (slice_index_or (Up ∷ []) n Down) ≡ true → n ≡ 0
first_distributor zero h = refl
first_distributor (suc n) h = cc

pub owns-one : (S : Setting) (J : List LaneEvent) → state_in 1 J ≡ Some state_one → Owns S J 0 1
owns-one S J h = record { state = state_one; published = h; owner = record { up = refl; first = λ n e. inl (first_distributor n e) } }

pub owns1 : (J : List LaneEvent) → state_in 1 J ≡ Some state_one → Owns setting J 0 1
owns1 J h = owns-one setting J h

pub owns2 : (J : List LaneEvent) → state_in 2 J ≡ Some state_two → Owns setting J 0 2
owns2 J h = record { state = state_two; published = h; owner = record { up = refl; first = λ n e. inl (first_distributor n e) } }

-- the two numbers are those of the two nodes
abbrev pub ArePair : ℕ → ℕ → Type 0
ArePair m n = (k : ℕ) → (is_up (slice_index_or (Up ∷ Up ∷ []) k Down) ≡ true) ↔ ((k ≡ m) ⊎ (k ≡ n))

pub straight : ArePair 0 1
straight k = (up k, back)
  where
    up : (k : ℕ) → is_up (slice_index_or (Up ∷ Up ∷ []) k Down) ≡ true → (k ≡ 0) ⊎ (k ≡ 1)
    up zero h = inl refl
    up (suc zero) h = inr refl
    up (suc (suc k)) h = cc

    back : (k ≡ 0) ⊎ (k ≡ 1) → is_up (slice_index_or (Up ∷ Up ∷ []) k Down) ≡ true
    back (inl is) = rw is refl
    back (inr is) = rw is refl

pub turned : ArePair 1 0
turned k = (λ h. other ((straight k).0 h), λ o. (straight k).1 (other o))
  where
    other : {m n : ℕ} → (k ≡ m) ⊎ (k ≡ n) → (k ≡ n) ⊎ (k ≡ m)
    other (inl is) = inr is
    other (inr is) = inl is

-- their ideal order, as one of them comes first
pub ideal_pair : (b : Bucket) (m n : ℕ) → ArePair m n → Precedes b state_one m n → IsIdeal b state_one (m ∷ n ∷ [])
ideal_pair b m n pair first = record { ranked = (before, (λ k h. absurd h, tt)); members = λ k. (λ h. listed k ((pair k).0 h), λ h. (pair k).1 (unlisted k h)) }
  where
    before : (k : ℕ) → Has k (n ∷ []) → Precedes b state_one m k
    before k (inl is) = subst (λ (i : ℕ). Precedes b state_one m i) (sym is) first
    before k (inr h) = absurd h

    listed : (k : ℕ) → (k ≡ m) ⊎ (k ≡ n) → Has k (m ∷ n ∷ [])
    listed k (inl is) = inl is
    listed k (inr is) = inr (inl is)

    unlisted : (k : ℕ) → Has k (m ∷ n ∷ []) → (k ≡ m) ⊎ (k ≡ n)
    unlisted k (inl is) = inl is
    unlisted k (inr (inl is)) = inr is
    unlisted k (inr (inr h)) = absurd h

-- the two nodes in ideal order, whichever that is
record BothIdeal (b : Bucket) : Type 0 where
  ideal : List ℕ
  is_ideal : IsIdeal b state_one ideal
  first : Has 0 (take 2 ideal)
  second : Has 1 (take 2 ideal)

both_ideal : (b : Bucket) → BothIdeal b
both_ideal b = elim ((precedes_are_order b state_one).either 1 0 (λ e. absurd (omega (arith, e)))) [
  | inl less ↦ record { ideal = 1 ∷ 0 ∷ []; is_ideal = ideal_pair b 1 0 turned less; first = inr (inl refl); second = inl refl }
  | inr more ↦ record { ideal = 0 ∷ 1 ∷ []; is_ideal = ideal_pair b 0 1 straight more; first = inl refl; second = inr (inl refl) }
]

pub has-taken : (n k : ℕ) (xs : List ℕ) → Has n (take k xs) → Has n xs
has-taken n zero xs h = absurd h
has-taken n (suc k) [] h = absurd h
has-taken n (suc k) (x ∷ xs) (inl is) = inl is
has-taken n (suc k) (x ∷ xs) (inr h) = inr (has-taken n k xs h)

pub zero_in : contains lane 0 ≡ true
unfolding contains
zero_in = refl

-- the receivers of a round: both nodes under the first state
pub receive_these : (J : List LaneEvent) → state_in 1 J ≡ Some state_one → ((n : ℕ) → IsActive 1 lane n (history J) → nodes 3 n ≡ true)
    → (n : ℕ) → (has_node 3 n ≡ true) ↔ IsTarget setting J 1 lane n
receive_these J s acts n = (λ h. inl (target (both_two n h)), back)
  where
    target : (n ≡ 0) ⊎ (n ≡ 1) → IsAmongFirst setting J 1 lane n
    target o = let x = both_ideal lane in record { state = state_one; published = s; ideal = x.ideal; is_ideal = x.is_ideal; among = elim o [ inl is ↦ subst (λ (i : ℕ). Has i (take 2 x.ideal)) (sym is) x.first | inr is ↦ subst (λ (i : ℕ). Has i (take 2 x.ideal)) (sym is) x.second ] }

    back : IsTarget setting J 1 lane n → has_node 3 n ≡ true
    back (inl a) =
        let same : a.state ≡ state_one = (let x = a.published in cc) in
        let up = (a.is_ideal.members n).1 (has-taken n 2 a.ideal a.among) in
        let two = (straight n).0 (subst (λ (x : ClusterState). is_up (slice_index_or x.nodes n Down) ≡ true) same up) in
        elim two [ inl is ↦ subst (λ (i : ℕ). nodes 3 i ≡ true) (sym is) has_both_0 | inr is ↦ subst (λ (i : ℕ). nodes 3 i ≡ true) (sym is) has_both_1 ]
    back (inr a) = acts n a

-- so it is where nothing is active
pub receive_both : (J : List LaneEvent) → state_in 1 J ≡ Some state_one → ((key : ℕ) → active 1 key (history J) ≡ None) → (n : ℕ) → (has_node 3 n ≡ true) ↔ IsTarget setting J 1 lane n
receive_both J s none = receive_these J s (λ n a. let x = a 0 zero_in in let y = none 0 in absurd (let z : ◌≡◌ {A = Option ℕ} None (Some n) = sym y ∙ x in cc))

up_two : (n : ℕ) → is_up (slice_index_or (Up ∷ Retired ∷ []) n Down) ≡ true → n ≡ 0
up_two zero h = refl
up_two (suc zero) h = cc
up_two (suc (suc n)) h = cc

ideal_two : (b : Bucket) → IsIdeal b state_two (0 ∷ [])
ideal_two b = record { ranked = ((λ m h. absurd h), tt); members = λ n. ((λ h. inl (up_two n h)), back n) }
  where
    back : (n : ℕ) → Has n (0 ∷ []) → is_up (slice_index_or (Up ∷ Retired ∷ []) n Down) ≡ true
    back n (inl is) = rw is refl
    back n (inr h) = absurd h

pub target-two : (J : List LaneEvent) → state_in 2 J ≡ Some state_two → (b : Bucket) (n : ℕ) → IsAmongFirst setting J 2 b n → n ≡ 0
target-two J s b n a =
    let same : a.state ≡ state_two = (let x = a.published in cc) in
    up_two n (subst (λ (x : ClusterState). is_up (slice_index_or x.nodes n Down) ≡ true) same ((a.is_ideal.members n).1 (has-taken n 2 a.ideal a.among)))

pub receive_one : (J : List LaneEvent) → state_in 2 J ≡ Some state_two → ((key : ℕ) → active 2 key (history J) ≡ None) → (n : ℕ) → (has_node 1 n ≡ true) ↔ IsTarget setting J 2 lane n
receive_one J s none n = ((λ h. inl (subst (λ (i : ℕ). IsAmongFirst setting J 2 lane i) (sym (one_first n h)) (record { state = state_two; published = s; ideal = 0 ∷ []; is_ideal = ideal_two lane; among = inl refl }))), back)
  where
    back : IsTarget setting J 2 lane n → has_node 1 n ≡ true
    back (inl a) = subst (λ (i : ℕ). nodes 1 i ≡ true) (sym (target-two J s lane n a)) has_one_0
    back (inr a) = let x = a 0 zero_in in let y = none 0 in absurd (let z : ◌≡◌ {A = Option ℕ} None (Some n) = sym y ∙ x in cc)

-- ---- pieces and rows

pub firstC : (first_child lane).low < 2 ^ (first_child lane).bits
unfolding first_child
firstC = omega arith

pub secondC : (second_child lane).low < 2 ^ (second_child lane).bits
unfolding second_child
secondC = omega arith

pub nothing_joined : (t : Bool) → cond t (newer None None) None ≡ None
unfolding newer
nothing_joined true = refl
nothing_joined false = refl

pub one_name : (c : Bucket) (s serial : ℕ) → names (record { bucket = lane; serial = serial; ready = false } ∷ []) c s ≡ true → c ≡ lane
one_name c s serial h = by_case (same_bucket lane c) refl h
  where
    by_case : (t : Bool) → same_bucket lane c ≡ t → cond t (cond (eqb serial s) true false) false ≡ true → c ≡ lane
    by_case true e h = sym (same_bucket-true lane c e)
    by_case false e h = cc

pub shows_nothing : (asked : Bucket → Bool) → ShowsPieces [] [] asked
shows_nothing asked = record { each = λ p c. absurd (contains-none p c); all = λ q h e. absurd h; once = λ p q c d e. absurd (contains-none p c) }

pub shows_piece : (b : Bucket) (serial : ℕ) (ready : Bool) (asked : Bucket → Bool) → asked b ≡ true → ShowsPieces (record { bucket = b; serial = serial; ready = ready } ∷ []) (record { bucket = b; ready = ready } ∷ []) asked
shows_piece b serial ready asked h = record {
  each = λ p c. (let is = contains-one _ p c in (subst (λ (x : Piece). asked x.bucket ≡ true) is h, inl (ap (λ (x : Piece). record { bucket = x.bucket; ready = x.ready }) is)));
  all = λ q i e. held q i;
  once = λ p q c d e. sym (contains-one _ p c) ∙ contains-one _ q d;
}
  where
    held : (q : NodePiece) → IsPieceIn q (record { bucket = b; ready = ready } ∷ []) → (s : ℕ) × Contains {X = Piece} (record { bucket = b; serial = serial; ready = ready } ∷ []) (record { bucket = q.bucket; serial = s; ready = q.ready })
    held q (inl is) = (serial, (0, omega arith, ap (λ (x : NodePiece). record { bucket = x.bucket; serial = serial; ready = x.ready }) is))
    held q (inr h) = absurd h

pub shows_one : (serial : ℕ) (asked : Bucket → Bool) → asked lane ≡ true → ShowsPieces (record { bucket = lane; serial = serial; ready = false } ∷ []) (record { bucket = lane; ready = false } ∷ []) asked
shows_one serial asked h = shows_piece lane serial false asked h

-- one piece beside another that isn't asked for
pub shows_beside : (b : Bucket) (serial : ℕ) (other : NodePiece) (asked : Bucket → Bool) → asked b ≡ true → asked other.bucket ≡ false
    → ShowsPieces (record { bucket = b; serial = serial; ready = false } ∷ []) (other ∷ record { bucket = b; ready = false } ∷ []) asked
shows_beside b serial other asked h out = record { each = λ p c. (let e = x.each p c in (e.0, inr e.1)); all = all; once = x.once }
  where
    x : ShowsPieces (record { bucket = b; serial = serial; ready = false } ∷ []) (record { bucket = b; ready = false } ∷ []) asked
    x = shows_piece b serial false asked h

    all : (q : NodePiece) → IsPieceIn q (other ∷ record { bucket = b; ready = false } ∷ []) → asked q.bucket ≡ true → (s : ℕ) × Contains {X = Piece} (record { bucket = b; serial = serial; ready = false } ∷ []) (record { bucket = q.bucket; serial = s; ready = q.ready })
    all q (inl is) e = (let y : asked q.bucket ≡ false = subst (λ (p : NodePiece). asked p.bucket ≡ false) is out in absurd (let z : true ≡ false = sym e ∙ y in cc))
    all q (inr i) e = x.all q i e

-- what two lists of the one stamp say of a document
pub held_one : (t c : Bool) → newer (cond t (Some stamp_two) None) None ≡ cond t (newer (Some stamp_two) (cond c (newer None None) None)) (cond c (newer None None) None)
unfolding newer
held_one true true = refl
held_one true false = refl
held_one false true = refl
held_one false false = refl

pub only_one : (id : Id) → contains lane (key_of id) ≡ true → (i : Id) → contains lane (key_of i) ≡ false → newer (cond (same_id id i) (Some stamp_two) None) None ≡ None
unfolding newer
only_one id inside i h = by_case (same_id id i) refl
  where
    by_case : (t : Bool) → same_id id i ≡ t → newer (cond t (Some stamp_two) None) None ≡ None
    by_case true e = let same = same_id-true id i e in let x : contains lane (key_of i) ≡ true = subst (λ (y : Id). contains lane (key_of y) ≡ true) same inside in absurd (let z : true ≡ false = sym x ∙ h in cc)
    by_case false e = refl

pub first_member : (J : List LaneEvent) → state_in 2 J ≡ Some state_two → IsFirstMember setting J 2 lane 0
first_member J s = record { state = state_two; published = s; ideal = 0 ∷ []; is_ideal = ideal_two lane; listed = inl refl; first = λ m h k. inl (only m h) }
  where
    only : (m : ℕ) → Has m (0 ∷ []) → m ≡ 0
    only m (inl is) = is
    only m (inr h) = absurd h

pub same_deleted : (a b : Bucket) (s t : ℕ) → Delete a s ≡ Delete b t → (a ≡ b) × (s ≡ t)
same_deleted a b s t h = (cc, cc)

pub one_left : (n : ℕ) (t u : Bool) → eqb 1 n ≡ t → nodes 1 n ≡ u → u ≡ cond t false (cond u true false)
one_left n true true e f = absurd (let x = one_first n f in let y = eqb-true 1 n e in omega arith)
one_left n true false e f = refl
one_left n false true e f = refl
one_left n false false e f = refl

-- the lane as one row
pub row_of : (S : Setting) (J : List LaneEvent) (v : ℕ) → IsBucket S.lane → EachReply (NamesOnly S.lane) (history J) → IsPartition S (history J) v (S.lane ∷ [])
row_of S J v is q = record {
  valid = λ b h. subst IsBucket (contains-one S.lane b h) is;
  parts = λ key. row_test (contains S.lane key) key;
  whole = λ b c h n e. asked-only S.lane v n.node (history J) q n.given n.answer c n.serial n.names ∙ contains-one S.lane b h;
  coarsest = λ b h. inl (sym (contains-one S.lane b h));
}
  where
    row_test : (t : Bool) (key : ℕ) → is_some (cond t (Some S.lane) (row_in key [])) ≡ t
    row_test true key = refl
    row_test false key = refl

pub one_row : (J : List LaneEvent) (v : ℕ) → EachReply (NamesOnly lane) (history J) → IsPartition setting (history J) v (lane ∷ [])
one_row J v q = row_of setting J v (record { some = omega arith; most = omega arith; fits = omega arith }) q
