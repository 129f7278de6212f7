-- A lane's node does what a node of a pass does.
use Rattle.std.proofs.Common.{◌≡◌, ◌&&◌, ◌||◌, ◌+◌, ℕ, Bool, true, false, cond, List, [], ◌∷◌, Option, Some, None, IsSome, refl, sym, ap, ap₂, ◌∙◌, subst, arith}
use Rattle.std.specs.FinMap as fin
use Rattle.std.specs.List.{list_any, find}
use Rattle.bucket_ids.specs.Buckets.{Low}
use Rattle.bucket_ids.specs.Paths.{last_path}
use Rattle.pieces.specs.declared.piece.Piece.{Piece}
use Rattle.pieces.specs.Pieces.{is_over, is_inside, is_exactly, does_meet, is_piece, has_key_of, split_at, join_at, apply_at, ready_at, renewed, without}
use Rattle.pieces.specs.Runs.{IsLaid, AreRuns}
use Rattle.pieces.specs.Told.{Accepted, NoBucket, Differs, where_some, by_mark}
use Rattle.pieces.proofs.Laid.{none_past}
use Rattle.proof_basics.proofs.Tests.{both, or_left, or_right, and_true}
use Rattle.messages.specs.declared.body.Body.{Body}
use Rattle.messages.specs.declared.body.Body.TheVariants as body
use Rattle.messages.specs.declared.reply.Reply.{Reply}
use Rattle.messages.specs.declared.reply.Reply.TheVariants as reply
use Rattle.documents.specs.declared.entry.Entry.{Entry}
use Rattle.entry_maps.specs.EntryCodes.{Entries}
use Rattle.entry_maps.specs.Joins.{joined}
use Rattle.replica_store.specs.Replicas.{IsReplica}
use Rattle.node_model.specs.Nodes as lane
use Rattle.view_changes.specs.Shown.{with_region}
use Rattle.node_model.specs.Nodes.{stored}
use Rattle.node_model.specs.Takes.{IsInside, Treats}
use Rattle.lane_journals.specs.Stamps.{newer}
use Rattle.lane_journals.specs.Buckets.{Id, key_of}
use Rattle.lane_journals.specs.Meanings.{history}
use Rattle.lane_journals.specs.declared.event.LaneEvent.{LaneEvent}
use Rattle.lane_keeping.specs.NodeKeeping.{stamp_of, NodeKeeps}
use Rattle.lane_keeping.proofs.Words.{contains-is, key-is}
use Rattle.lane_keeping.proofs.Stamping.{stamps-after}
use Rattle.pass_model.specs.Nodes.{Node, apply_node, split_node, join_node, ready_node, activate_node, delete_node, counted, once_or_twice, received, with_pieces, taken_in, dropped_in}
use Rattle.pass_model.specs.Shapes.{IsApart, IsSound}
use Rattle.pass_model.specs.Worlds.{IsSaid}
use Rattle.pass_model.specs.Lanes.{seen_node, IsPassBody, after_once, is_taken, IsNoWant, is_answer}
use Rattle.pass_model.specs.Scripts.{told_body}
use Rattle.proof_basics.proofs.Lists.{none-map}
use Rattle.pass_model.proofs.Geometry.{meets-over}

-- ---- pieces in the order of their runs are apart

pub laid-apart : AreRuns → (lo : ℕ) (ps : List Piece) → IsLaid lo ps → IsApart ps
laid-apart runs lo [] h = tt
laid-apart runs lo (p ∷ ps) h = (none_past runs p.bucket h.1 (last_path p.bucket + 1) (omega arith) ps h.2, h.1, laid-apart runs (last_path p.bucket + 1) ps h.2)

-- the one piece over a bucket isn't ready, so none is
over-one : (b : Low) (ps : List Piece) (p : Piece) → IsApart ps → find (is_over b) ps ≡ Some p → p.ready ≡ false → list_any (λ q. is_over b q && q.ready) ps ≡ false
over-one b [] p a e f = refl
over-one b (q ∷ ps) p a e f = by_test (is_over b q) refl e (λ g. over-one b ps p a.2 g f)
  where
    same : Some q ≡ Some p → q.ready ≡ false
    same i = subst (λ (o : Option Piece). ready_in o ≡ false) (sym i) f
      where
        ready_in : Option Piece → Bool
        ready_in None = false
        ready_in (Some x) = x.ready

    behind : is_over b q ≡ true → list_any (λ x. is_over b x && x.ready) ps ≡ false
    behind o = none-map (does_meet q.bucket) (λ x. is_over b x && x.ready) ps (λ x g. meets-over x.bucket q.bucket b (both (is_over b x) x.ready g).0 o) a.0

    by_test : (t : Bool) → is_over b q ≡ t → cond t (Some q) (find (is_over b) ps) ≡ Some p → (find (is_over b) ps ≡ Some p → list_any (λ x. is_over b x && x.ready) ps ≡ false)
        → ((is_over b q && q.ready) || list_any (λ x. is_over b x && x.ready) ps) ≡ false
    by_test true o i ih = ap₂ (λ x y. x || y) (ap₂ (λ x y. x && y) o (same i)) (behind o)
    by_test false o i ih = ap₂ (λ x y. x || y) (ap (λ t. t && q.ready) o) (ih i)

over-found : (b : Low) (ps : List Piece) (p : Piece) → find (is_over b) ps ≡ Some p → p.ready ≡ true → list_any (λ q. is_over b q && q.ready) ps ≡ true
over-found b [] p e f = cc
over-found b (q ∷ ps) p e f = by_test (is_over b q) refl e (λ g. over-found b ps p g f)
  where
    same : Some q ≡ Some p → q.ready ≡ true
    same i = subst (λ (o : Option Piece). ready_in o ≡ true) (sym i) f
      where
        ready_in : Option Piece → Bool
        ready_in None = false
        ready_in (Some x) = x.ready

    by_test : (t : Bool) → is_over b q ≡ t → cond t (Some q) (find (is_over b) ps) ≡ Some p → (find (is_over b) ps ≡ Some p → list_any (λ x. is_over b x && x.ready) ps ≡ true)
        → ((is_over b q && q.ready) || list_any (λ x. is_over b x && x.ready) ps) ≡ true
    by_test true o i ih = or_left (is_over b q && q.ready) (list_any (λ x. is_over b x && x.ready) ps) (and_true (is_over b q) q.ready o (same i))
    by_test false o i ih = or_right (is_over b q && q.ready) (list_any (λ x. is_over b x && x.ready) ps) (ih i)

over-none : (b : Low) (ps : List Piece) → find (is_over b) ps ≡ None → list_any (λ q. is_over b q && q.ready) ps ≡ false
over-none b [] e = refl
over-none b (q ∷ ps) e = by_test (is_over b q) refl e (λ g. over-none b ps g)
  where
    by_test : (t : Bool) → is_over b q ≡ t → cond t (Some q) (find (is_over b) ps) ≡ None → (find (is_over b) ps ≡ None → list_any (λ x. is_over b x && x.ready) ps ≡ false)
        → ((is_over b q && q.ready) || list_any (λ x. is_over b x && x.ready) ps) ≡ false
    by_test true o i ih = cc
    by_test false o i ih = ap₂ (λ x y. x || y) (ap (λ t. t && q.ready) o) (ih i)

-- ---- a lane's node is one of a pass

module _ (doubled : ℕ → Bool) (came : ℕ) where
  pub seen-said : (J : List LaneEvent) (n : ℕ) (y : lane.Node) → NodeKeeps J n y → IsSaid n (history J) (seen_node doubled came y)
  seen-said J n y h = record { pieces = h.pieces_are; store = h.stamps_are; regions = h.regions_are }

  pub seen-sound : AreRuns → (y : lane.Node) → IsReplica (stored y) → IsSound (seen_node doubled came y)
  seen-sound runs y valid = record {
    apart = laid-apart runs 0 y.pieces valid.holding.laid;
    held = λ id some. there id (fin.get y.entries id) refl some;
  }
    where
      there : (id : Id) (o : Option Entry) → fin.get y.entries id ≡ o → IsSome (stamp_of o) → list_any (has_key_of (key_of id)) y.pieces ≡ true
      there id None e some = cc
      there id (Some x) e some = subst (λ k. list_any (has_key_of k) y.pieces ≡ true) (sym (key-is id)) (valid.held id x e)

  -- ---- what the replies tell

  some-true : (t : Bool) → where_some t ≡ Accepted → t ≡ true
  some-true true h = refl
  some-true false h = cc

  some-false : (t : Bool) → where_some t ≡ NoBucket → t ≡ false
  some-false true h = cc
  some-false false h = refl

  some-never : (t : Bool) → where_some t ≡ Differs → ⊥
  some-never true h = cc
  some-never false h = cc

  else-true : (t u : Bool) → cond t Accepted (cond u Differs NoBucket) ≡ Accepted → t ≡ true
  else-true true u h = refl
  else-true false true h = cc
  else-true false false h = cc

  else-false : (t u : Bool) → cond t Accepted (cond u Differs NoBucket) ≡ NoBucket → t ≡ false
  else-false true u h = cc
  else-false false u h = refl

  else-differs : (t u : Bool) → cond t Accepted (cond u Differs NoBucket) ≡ Differs → t ≡ false
  else-differs true u h = cc
  else-differs false u h = refl

  mark-true : (b : Low) (ps : List Piece) (o : Option Piece) → find (is_over b) ps ≡ o → by_mark o ≡ Accepted → list_any (λ p. is_over b p && p.ready) ps ≡ true
  mark-true b ps None e h = cc
  mark-true b ps (Some p) e h = by_ready p.ready refl h
    where
      by_ready : (t : Bool) → p.ready ≡ t → cond t Accepted Differs ≡ Accepted → list_any (λ q. is_over b q && q.ready) ps ≡ true
      by_ready true f g = over-found b ps p e f
      by_ready false f g = cc

  mark-none : (b : Low) (ps : List Piece) (o : Option Piece) → find (is_over b) ps ≡ o → by_mark o ≡ NoBucket → list_any (λ p. is_over b p && p.ready) ps ≡ false
  mark-none b ps None e h = over-none b ps e
  mark-none b ps (Some p) e h = by_ready p.ready h
    where
      by_ready : (t : Bool) → cond t Accepted Differs ≡ NoBucket → list_any (λ q. is_over b q && q.ready) ps ≡ false
      by_ready true g = cc
      by_ready false g = cc

  mark-differs : (b : Low) (ps : List Piece) → IsApart ps → (o : Option Piece) → find (is_over b) ps ≡ o → by_mark o ≡ Differs → list_any (λ p. is_over b p && p.ready) ps ≡ false
  mark-differs b ps a None e h = cc
  mark-differs b ps a (Some p) e h = by_ready p.ready refl h
    where
      by_ready : (t : Bool) → p.ready ≡ t → cond t Accepted Differs ≡ Differs → list_any (λ q. is_over b q && q.ready) ps ≡ false
      by_ready true f g = cc
      by_ready false f g = over-one b ps p a e f

  -- whether it answers
  pub tells : (y z : lane.Node) (x : Body) (r : Reply) → IsPassBody x → IsApart y.pieces → IsNoWant r → Treats y x z r → is_answer r ≡ is_taken x (seen_node doubled came y)
  tells y z (body.Apply b m) (reply.Answer ps es) p a w t = refl
  tells y z (body.Apply b m) reply.NoBucket p a w t = let h : Accepted ≡ NoBucket = t.0 in cc
  tells y z (body.Apply b m) reply.Differs p a w t = let h : Accepted ≡ Differs = t.0 in cc
  tells y z (body.Split b) (reply.Answer ps es) p a w t = sym (some-true (list_any (is_over b) y.pieces) t.0)
  tells y z (body.Split b) reply.NoBucket p a w t = sym (some-false (list_any (is_over b) y.pieces) t.0)
  tells y z (body.Split b) reply.Differs p a w t = absurd (some-never (list_any (is_over b) y.pieces) t.0)
  tells y z (body.Join b) (reply.Answer ps es) p a w t = sym (some-true (list_any (is_inside b) y.pieces) t.0)
  tells y z (body.Join b) reply.NoBucket p a w t = sym (some-false (list_any (is_inside b) y.pieces) t.0)
  tells y z (body.Join b) reply.Differs p a w t = absurd (some-never (list_any (is_inside b) y.pieces) t.0)
  tells y z (body.Ready b) (reply.Answer ps es) p a w t = sym (else-true (list_any (is_exactly b) y.pieces) (list_any (does_meet b) y.pieces) t.0)
  tells y z (body.Ready b) reply.NoBucket p a w t = sym (else-false (list_any (is_exactly b) y.pieces) (list_any (does_meet b) y.pieces) t.0)
  tells y z (body.Ready b) reply.Differs p a w t = sym (else-differs (list_any (is_exactly b) y.pieces) (list_any (does_meet b) y.pieces) t.0)
  tells y z (body.Activate b) (reply.Answer ps es) p a w t = sym (mark-true b y.pieces (find (is_over b) y.pieces) refl t.0)
  tells y z (body.Activate b) reply.NoBucket p a w t = sym (mark-none b y.pieces (find (is_over b) y.pieces) refl t.0)
  tells y z (body.Activate b) reply.Differs p a w t = sym (mark-differs b y.pieces a (find (is_over b) y.pieces) refl t.0)
  tells y z (body.Delete b s) (reply.Answer ps es) p a w t = sym (else-true (list_any (is_piece b s) y.pieces) (list_any (does_meet b) y.pieces) t.0)
  tells y z (body.Delete b s) reply.NoBucket p a w t = sym (else-false (list_any (is_piece b s) y.pieces) (list_any (does_meet b) y.pieces) t.0)
  tells y z (body.Delete b s) reply.Differs p a w t = sym (else-differs (list_any (is_piece b s) y.pieces) (list_any (does_meet b) y.pieces) t.0)
  tells y z x (reply.Newer v) p a w t = absurd t
  tells y z x reply.NoMemory p a w t = absurd w
  tells y z body.Ask r p a w t = absurd p
  tells y z (body.Read b o) r p a w t = absurd p
  tells y z (body.Store e) r p a w t = absurd p

  -- ---- what it is then

  taken-is : (b : Low) (y : lane.Node) (m : Entries) → IsInside (body.Apply b m) → (id : Id) → stamp_of (fin.get (joined y.entries m) id) ≡ taken_in b (λ i. stamp_of (fin.get m i)) (λ i. stamp_of (fin.get y.entries i)) id
  taken-is b y m lie id = stamps-after (body.Apply b m) y.entries id lie
      ∙ ap (λ t. cond t (newer (stamp_of (fin.get m id)) (stamp_of (fin.get y.entries id))) (stamp_of (fin.get y.entries id))) (contains-is b (key_of id))

  dropped-is : (b : Low) (s : ℕ) (y : lane.Node) (id : Id) → stamp_of (fin.get (lane.after_body (body.Delete b s) y).entries id) ≡ dropped_in b (λ i. stamp_of (fin.get y.entries i)) id
  dropped-is b s y id = stamps-after (body.Delete b s) y.entries id tt
      ∙ ap (λ t. cond t None (stamp_of (fin.get y.entries id))) (contains-is b (key_of id))

  -- a body that is answered makes of the node what one taking makes of it
  after-is : (x : Body) (y : lane.Node) → IsPassBody x → IsInside x → is_taken x (seen_node doubled came y) ≡ true → seen_node doubled came (lane.after_body x y) ≡ after_once x (seen_node doubled came y)
  after-is (body.Apply b m) y p lie h = λ i. record { pieces = apply_at b (y.serial + 1) y.pieces; serial = y.serial + 1; store = λ id. taken-is b y m lie id i; regions = y.regions; doubled = doubled; came = came }
  after-is (body.Split b) y p lie h = sym (ap (λ t. cond t (with_pieces (split_at b (y.serial + 1) y.pieces) (seen_node doubled came y)) (seen_node doubled came y)) h)
  after-is (body.Join b) y p lie h = sym (ap (λ t. cond t (with_pieces (join_at b (y.serial + 1) y.pieces) (seen_node doubled came y)) (seen_node doubled came y)) h)
  after-is (body.Ready b) y p lie h = sym (ap (λ t. cond t (with_pieces (ready_at b (y.serial + 1) y.pieces) (seen_node doubled came y)) (seen_node doubled came y)) h)
  after-is (body.Activate b) y p lie h = sym (ap (λ t. cond t (record { pieces = renewed (does_meet b) (y.serial + 1) y.pieces; serial = y.serial + 1; store = λ id. stamp_of (fin.get y.entries id); regions = with_region b y.regions; doubled = doubled; came = came }) (seen_node doubled came y)) h)
  after-is (body.Delete b s) y p lie h =
      (λ i. record { pieces = without b y.pieces; serial = y.serial; store = λ id. dropped-is b s y id i; regions = y.regions; doubled = doubled; came = came })
      ∙ sym (ap (λ t. cond t (record { pieces = without b y.pieces; serial = y.serial; store = dropped_in b (λ id. stamp_of (fin.get y.entries id)); regions = y.regions; doubled = doubled; came = came }) (seen_node doubled came y)) h)
  after-is body.Ask y p lie h = absurd p
  after-is (body.Read b o) y p lie h = absurd p
  after-is (body.Store e) y p lie h = absurd p

  -- one that is refused leaves it
  stays-is : (x : Body) (y : lane.Node) → IsPassBody x → is_taken x (seen_node doubled came y) ≡ false → seen_node doubled came y ≡ after_once x (seen_node doubled came y)
  stays-is (body.Apply b m) y p h = cc
  stays-is (body.Split b) y p h = sym (ap (λ t. cond t (with_pieces (split_at b (y.serial + 1) y.pieces) (seen_node doubled came y)) (seen_node doubled came y)) h)
  stays-is (body.Join b) y p h = sym (ap (λ t. cond t (with_pieces (join_at b (y.serial + 1) y.pieces) (seen_node doubled came y)) (seen_node doubled came y)) h)
  stays-is (body.Ready b) y p h = sym (ap (λ t. cond t (with_pieces (ready_at b (y.serial + 1) y.pieces) (seen_node doubled came y)) (seen_node doubled came y)) h)
  stays-is (body.Activate b) y p h = sym (ap (λ t. cond t (record { pieces = renewed (does_meet b) (y.serial + 1) y.pieces; serial = y.serial + 1; store = λ id. stamp_of (fin.get y.entries id); regions = with_region b y.regions; doubled = doubled; came = came }) (seen_node doubled came y)) h)
  stays-is (body.Delete b s) y p h = sym (ap (λ t. cond t (record { pieces = without b y.pieces; serial = y.serial; store = dropped_in b (λ id. stamp_of (fin.get y.entries id)); regions = y.regions; doubled = doubled; came = came }) (seen_node doubled came y)) h)
  stays-is body.Ask y p h = absurd p
  stays-is (body.Read b o) y p h = absurd p
  stays-is (body.Store e) y p h = absurd p

  pub does : (y z : lane.Node) (x : Body) (r : Reply) → IsPassBody x → IsInside x → IsApart y.pieces → IsNoWant r → Treats y x z r → seen_node doubled came z ≡ after_once x (seen_node doubled came y)
  does y z x (reply.Answer ps es) p lie a w t = ap (seen_node doubled came) t.1.1.1 ∙ after-is x y p lie (sym (tells y z x (reply.Answer ps es) p a w t))
  does y z x (reply.Newer v) p lie a w t = absurd t
  does y z x reply.NoBucket p lie a w t = ap (seen_node doubled came) t.1 ∙ stays-is x y p (sym (tells y z x reply.NoBucket p a w t))
  does y z x reply.Differs p lie a w t = ap (seen_node doubled came) t.1 ∙ stays-is x y p (sym (tells y z x reply.Differs p a w t))
  does y z x reply.NoMemory p lie a w t = absurd w

  -- ---- once or twice

  told-is : (x : Body) → IsPassBody x → (z : Node) → told_body x z ≡ received (after_once x) z
  unfolding apply_node split_node join_node ready_node activate_node delete_node
  told-is (body.Apply b m) p z = refl
  told-is (body.Split b) p z = refl
  told-is (body.Join b) p z = refl
  told-is (body.Ready b) p z = refl
  told-is (body.Activate b) p z = refl
  told-is (body.Delete b s) p z = refl
  told-is body.Ask p z = absurd p
  told-is (body.Read b o) p z = absurd p
  told-is (body.Store e) p z = absurd p

  -- a message that is taken once, and one that is taken twice
  pub told-once : (y z : lane.Node) (x : Body) (r : Reply) → IsPassBody x → IsInside x → IsApart y.pieces → IsNoWant r → Treats y x z r → doubled came ≡ false
      → seen_node doubled (came + 1) z ≡ told_body x (seen_node doubled came y)
  told-once y z x r p lie a w t off =
      ap counted (does y z x r p lie a w t)
      ∙ sym (ap (λ u. counted (once_or_twice u (after_once x) (seen_node doubled came y))) off)
      ∙ sym (told-is x p (seen_node doubled came y))

  pub told-twice : (y z v : lane.Node) (x : Body) (r q : Reply) → IsPassBody x → IsInside x → IsApart y.pieces → IsApart z.pieces → IsNoWant r → IsNoWant q → Treats y x z r → Treats z x v q → doubled came ≡ true
      → seen_node doubled (came + 1) v ≡ told_body x (seen_node doubled came y)
  told-twice y z v x r q p lie a b w u t more twice =
      ap counted (does z v x q p lie b u more)
      ∙ ap (λ n. counted (after_once x n)) (does y z x r p lie a w t)
      ∙ sym (ap (λ f. counted (once_or_twice f (after_once x) (seen_node doubled came y))) twice)
      ∙ sym (told-is x p (seen_node doubled came y))
