-- From where the messages without answer are sent again.
use Rattle.std.proofs.Common.{◌≡◌, ◌==◌, ◌&&◌, ◌||◌, not, ℕ, zero, suc, ◌<◌, Bool, true, false, refl, sym, ap, ap₂, ◌∙◌, subst, arith, ◌⊎◌, inl, inr, Option, Some, None, eqb-true}
use Rattle.std.specs.List.{list_any}
use Rattle.bucket_ids.specs.Buckets.{Low, IsBucket, has_key}
use Rattle.lane_rest.specs.Sets.{newest_of, held_if, newest_below}
use Rattle.lane_rest.specs.Targets.{is_active}
use Rattle.pass_model.specs.Nodes.{Node, activate_node, can_activate, delete_node}
use Rattle.pass_model.specs.Shapes.{IsActiveOn, IsSound}
use Rattle.pass_model.specs.Rows.{Row, Settings, united}
use Rattle.pass_model.specs.Settling.{activate_nodes, activate_row, could_activate}
use Rattle.pass_model.specs.Passes.{ActivateAgain, DeleteAgain, NoResend, Passes, Resends, World, delete_again}
use Rattle.pass_model.specs.Resting.{AreSettings, HasBegun, IsResting, IsRow, IsUnion}
use Rattle.lane_journals.specs.Stamps.{Stamp, Le, newer}
use Rattle.lane_journals.specs.Buckets.{Id}
use Rattle.proof_basics.proofs.Tests.{or_true, and_true}
use Rattle.pass_model.proofs.Frames.{frame-if}
use Rattle.pass_model.proofs.Doubling.{frame-activate, activate-fits, good-activate, good-delete, activate-key, delete-regions}
use Rattle.pass_model.proofs.Rows.{frames-row, if-true, if-both}
use Rattle.pass_model.proofs.Aligning.{same-regions}
use Rattle.pass_model.proofs.Settling.{best-is-first}
use Rattle.pass_model.proofs.Lists.{all-mono, all-among, among-all, apart-among, among-apart, all-frames}
use Rattle.pass_model.proofs.Resting.{rests}
use Rattle.pass_model.proofs.Stamps.{newest-above}
use Rattle.lane_journals.proofs.Order.{Le_nothing, newer-either}

newest-is : (f : ℕ → Option Stamp) (k : ℕ) → (newest_below f k ≡ None) ⊎ ((n : ℕ) × (n < k) × (f n ≡ newest_below f k))
unfolding newest_below
newest-is f zero = inl refl
newest-is f (suc k) = by_newer (newer-either (f k) (newest_below f k)) (newest-is f k)
  where
    by_newer : (newer (f k) (newest_below f k) ≡ f k) ⊎ (newer (f k) (newest_below f k) ≡ newest_below f k) → (newest_below f k ≡ None) ⊎ ((n : ℕ) × (n < k) × (f n ≡ newest_below f k))
        → (newer (f k) (newest_below f k) ≡ None) ⊎ ((n : ℕ) × (n < suc k) × (f n ≡ newer (f k) (newest_below f k)))
    by_newer (inl e) o = inr (k, omega arith, sym e)
    by_newer (inr e) (inl z) = inl (e ∙ z)
    by_newer (inr e) (inr x) = inr (x.0, omega (arith, x.1), x.2 ∙ sym e)

module _ (s : Settings) (sound : AreSettings s) where
  -- there is a union
  pub union-of : (b : Low) (ns : ℕ → Node) → IsUnion s (united s ns) ns
  unfolding newest_of
  union-of b ns = record {
    most = λ n h id. subst (λ t. Le (held_if t (ns n).store id) (newest_below (λ m. held_if (s.serving m) (ns m).store id) 32)) h (newest-above (λ m. held_if (s.serving m) (ns m).store id) 32 n (sound.few n h));
    somewhere = λ id. by_top id (newest-is (λ m. held_if (s.serving m) (ns m).store id) 32);
  }
    where
      best : ℕ
      best = sound.best b

      serves : s.serving (sound.best b) ≡ true
      serves = sound.serving b (sound.best b) (best-is-first s sound (united s ns) b)

      none-there : (id : Id) → newest_below (λ m. held_if (s.serving m) (ns m).store id) 32 ≡ None → (n : ℕ) × (n < 32) × (s.serving n ≡ true) × ((ns n).store id ≡ newest_below (λ m. held_if (s.serving m) (ns m).store id) 32)
      none-there id z =
          let le = subst (λ t. Le (held_if t (ns (sound.best b)).store id) (newest_below (λ m. held_if (s.serving m) (ns m).store id) 32)) serves (newest-above (λ m. held_if (s.serving m) (ns m).store id) 32 (sound.best b) (sound.few (sound.best b) serves)) in
          (sound.best b, sound.few (sound.best b) serves, serves, Le_nothing ((ns (sound.best b)).store id) (subst (λ m. Le ((ns (sound.best b)).store id) m) z le) ∙ sym z)

      by_top : (id : Id) → (newest_below (λ m. held_if (s.serving m) (ns m).store id) 32 ≡ None) ⊎ ((n : ℕ) × (n < 32) × (held_if (s.serving n) (ns n).store id ≡ newest_below (λ m. held_if (s.serving m) (ns m).store id) 32))
          → (n : ℕ) × (n < 32) × (s.serving n ≡ true) × ((ns n).store id ≡ newest_below (λ m. held_if (s.serving m) (ns m).store id) 32)
      by_top id (inl z) = none-there id z
      by_top id (inr x) = by_serving (s.serving x.0) refl
        where
          by_serving : (t : Bool) → s.serving x.0 ≡ t → (n : ℕ) × (n < 32) × (s.serving n ≡ true) × ((ns n).store id ≡ newest_below (λ m. held_if (s.serving m) (ns m).store id) 32)
          by_serving true e = (x.0, x.1, e, sym (ap (λ t. held_if t (ns x.0).store id) e) ∙ x.2)
          by_serving false e = none-there id (sym x.2 ∙ ap (λ t. held_if t (ns x.0).store id) e)

  delete-row-is : (n k : ℕ) (b : Low) → IsBucket b → (ns : ℕ → Node) (r : Row) → IsRow s ns r → IsRow s (delete_again n b k ns) r
  delete-row-is n k b ok ns r row = same-regions s sound (λ id. None) ns (delete_again n b k ns) r
      (λ m. if-both (λ (x : Node). x.regions ≡ (ns m).regions) (m == n) (delete_node b k (ns m)) (ns m) (λ e. delete-regions b ok k (ns m)) refl) row

  activate-row-is : (ns : ℕ → Node) (r : Row) → IsRow s ns r → IsRow s (activate_nodes r ns) (activate_row r ns)
  activate-row-is ns r row = record {
    valid = row.valid;
    serves = row.serves;
    accepted = λ acc n h. by_known n h (or_true r.accepted (could_activate r.bucket ns r.active) acc);
    undecided = λ e. ap₂ (λ x y. x || y) (row.undecided e) (ap (λ o. could_activate r.bucket ns o) e);
  }
    where
      could : (o : Option ℕ) (n : ℕ) → is_active o n ≡ true → could_activate r.bucket ns o ≡ true → can_activate r.bucket (ns n) ≡ true
      could None n h c = cc
      could (Some m) n h c = subst (λ i. can_activate r.bucket (ns i) ≡ true) (eqb-true m n h) c

      by_known : (n : ℕ) → is_active r.active n ≡ true → (r.accepted ≡ true) ⊎ (could_activate r.bucket ns r.active ≡ true) → IsActiveOn r.bucket (activate_nodes r ns n)
      by_known n h (inl a) key k = if-both (λ (x : Node). list_any (λ q. has_key q key) x.regions ≡ true) (not r.accepted && is_active r.active n) (activate_node r.bucket (ns n)) (ns n)
          (λ e. activate-key r.bucket row.valid (ns n) key (row.accepted a n h key k)) (row.accepted a n h key k)
      by_known n h (inr c) key k = by_acc r.accepted refl
        where
          by_acc : (t : Bool) → r.accepted ≡ t → list_any (λ q. has_key q key) (activate_nodes r ns n).regions ≡ true
          by_acc true e = if-both (λ (x : Node). list_any (λ q. has_key q key) x.regions ≡ true) (not r.accepted && is_active r.active n) (activate_node r.bucket (ns n)) (ns n)
              (λ f. activate-key r.bucket row.valid (ns n) key (row.accepted e n h key k)) (row.accepted e n h key k)
          by_acc false e = if-true (λ (x : Node). list_any (λ q. has_key q key) x.regions ≡ true) (not r.accepted && is_active r.active n) (activate_node r.bucket (ns n)) (ns n)
              (and_true (not r.accepted) (is_active r.active n) (ap (λ t. not t) e) h) (activate-fits r.bucket row.valid (ns n) (could r.active n h c) key k)

  -- sending again keeps what holds at any time
  pub resends : (w v : World) → Resends s w v → HasBegun s w → HasBegun s v
  resends w v (NoResend w') h = h
  resends w v (DeleteAgain ns rows n k b end ok more) h = resends (record { nodes = delete_again n b k ns; rows = rows }) v more (record {
    good = λ m. if-both IsSound (m == n) (delete_node b k (ns m)) (ns m) (λ e. good-delete b ok k (ns m) (h.good m)) (h.good m);
    rows = all-mono (IsRow s ns) (IsRow s (delete_again n b k ns)) (λ r row. delete-row-is n k b ok ns r row) rows h.rows;
    apart = h.apart;
  })
  resends w v (ActivateAgain ns rows rest after r end m new more) h =
      let x = apart-among r rows rest h.apart m in
      let row = all-among (IsRow s ns) r rows rest h.rows m in
      resends (record { nodes = activate_nodes r ns; rows = after }) v more (record {
        good = λ n. if-both IsSound (not r.accepted && is_active r.active n) (activate_node r.bucket (ns n)) (ns n) (λ e. good-activate r.bucket x.1 (ns n) (h.good n)) (h.good n);
        rows = among-all (IsRow s (activate_nodes r ns)) (activate_row r ns) after rest (activate-row-is ns r row.0)
            (all-frames (IsRow s) r.bucket ns (activate_nodes r ns) (λ q ok g k. frames-row s (λ id. None) ns (activate_nodes r ns) q ok g k)
            (λ c okc apart. record { at = λ n. frame-if c (not r.accepted && is_active r.active n) (ns n) (activate_node r.bucket (ns n)) (λ e. frame-activate c r.bucket okc x.1 apart (ns n)) }) rest x.0 x.2 row.1) new;
        apart = among-apart (activate_row r ns) after rest x.0 x.1 x.2 new;
      })

  -- the same from where the messages are sent again
  pub rests-from : (w v z : World) → HasBegun s w → Resends s w v → Passes s v z → IsResting s (united s v.nodes) z
  rests-from w v z h r p =
      let g = resends w v r h in
      rests s sound (united s v.nodes) v z (record { good = g.good; union = union-of (record { bits = 1; low = 0 }) v.nodes; rows = g.rows; apart = g.apart }) p
