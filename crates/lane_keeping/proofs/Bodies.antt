-- What an accepted body makes of the parts of a node.
use Rattle.std.proofs.Common.{◌≡◌, ℕ, ◌+◌, ◌≤◌, not, Bool, true, false, cond, nat_lt, List, [], None, Some, refl, arith}
use Rattle.std.proofs.lemmas.Bool.Decides.{nat_tests}
use Rattle.std.specs.FinMap as fin
use Rattle.global_ids.specs.Keys.{key_of}
use Rattle.entry_maps.specs.Entries.{with_entry, in_bucket}
use Rattle.entry_maps.specs.EntryCodes.{Entries}
use Rattle.entry_maps.specs.Joins.{joined}
use Rattle.pieces.specs.declared.piece.Piece.{Piece}
use Rattle.pieces.specs.Pieces.{has_key_of, does_meet, renewed, ready_at, split_at, join_at, apply_at, without}
use Rattle.messages.specs.declared.body.Body.{Body}
use Rattle.messages.specs.declared.body.Body.TheVariants as body
use Rattle.node_model.specs.Nodes.{Node, adopt, after_body}
use Rattle.lane_keeping.specs.NodeKeeping.{activated_regions}
use Rattle.lane_keeping.specs.Flights.{meant}

abbrev pub entries_by : Body → Entries → Entries
entries_by body.Ask m = m
entries_by (body.Read b only) m = m
entries_by (body.Store e) m = with_entry m e
entries_by (body.Apply b es) m = joined m es
entries_by (body.Delete b s) m = fin.retain_keys m (λ id. not (in_bucket b id))
entries_by (body.Split b) m = m
entries_by (body.Join b) m = m
entries_by (body.Ready b) m = m
entries_by (body.Activate b) m = m

-- the new serial is t
abbrev pub pieces_by : Body → ℕ → List Piece → List Piece
pieces_by body.Ask t ps = ps
pieces_by (body.Read b only) t ps = ps
pieces_by (body.Store e) t ps = renewed (has_key_of (key_of e.id)) t ps
pieces_by (body.Apply b es) t ps = apply_at b t ps
pieces_by (body.Delete b s) t ps = without b ps
pieces_by (body.Split b) t ps = split_at b t ps
pieces_by (body.Join b) t ps = join_at b t ps
pieces_by (body.Ready b) t ps = ready_at b t ps
pieces_by (body.Activate b) t ps = renewed (does_meet b) t ps

module _ (n : Node) where
  pub by-version : (x : Body) → (after_body x n).version ≡ n.version
  by-version body.Ask = refl
  by-version (body.Read b only) = refl
  by-version (body.Store e) = refl
  by-version (body.Apply b es) = refl
  by-version (body.Delete b s) = refl
  by-version (body.Split b) = refl
  by-version (body.Join b) = refl
  by-version (body.Ready b) = refl
  by-version (body.Activate b) = refl

  pub by-entries : (x : Body) → (after_body x n).entries ≡ entries_by x n.entries
  by-entries body.Ask = refl
  by-entries (body.Read b only) = refl
  by-entries (body.Store e) = refl
  by-entries (body.Apply b es) = refl
  by-entries (body.Delete b s) = refl
  by-entries (body.Split b) = refl
  by-entries (body.Join b) = refl
  by-entries (body.Ready b) = refl
  by-entries (body.Activate b) = refl

  pub by-pieces : (x : Body) → (after_body x n).pieces ≡ pieces_by x (n.serial + 1) n.pieces
  by-pieces body.Ask = refl
  by-pieces (body.Read b only) = refl
  by-pieces (body.Store e) = refl
  by-pieces (body.Apply b es) = refl
  by-pieces (body.Delete b s) = refl
  by-pieces (body.Split b) = refl
  by-pieces (body.Join b) = refl
  by-pieces (body.Ready b) = refl
  by-pieces (body.Activate b) = refl

  pub by-regions : (x : Body) → (after_body x n).regions ≡ activated_regions (meant x) n.regions
  by-regions body.Ask = refl
  by-regions (body.Read b None) = refl
  by-regions (body.Read b (Some id)) = refl
  by-regions (body.Store e) = refl
  by-regions (body.Apply b es) = refl
  by-regions (body.Delete b s) = refl
  by-regions (body.Split b) = refl
  by-regions (body.Join b) = refl
  by-regions (body.Ready b) = refl
  by-regions (body.Activate b) = refl

  pub by-serial : (x : Body) → n.serial ≤ (after_body x n).serial
  by-serial body.Ask = omega arith
  by-serial (body.Read b only) = omega arith
  by-serial (body.Store e) = omega arith
  by-serial (body.Apply b es) = omega arith
  by-serial (body.Delete b s) = omega arith
  by-serial (body.Split b) = omega arith
  by-serial (body.Join b) = omega arith
  by-serial (body.Ready b) = omega arith
  by-serial (body.Activate b) = omega arith

  -- a body draws one serial at most
  pub by-one : (x : Body) → (after_body x n).serial ≤ n.serial + 1
  by-one body.Ask = omega arith
  by-one (body.Read b only) = omega arith
  by-one (body.Store e) = omega arith
  by-one (body.Apply b es) = omega arith
  by-one (body.Delete b s) = omega arith
  by-one (body.Split b) = omega arith
  by-one (body.Join b) = omega arith
  by-one (body.Ready b) = omega arith
  by-one (body.Activate b) = omega arith

-- ---- a node that takes a version

abbrev grown : ℕ → Node → Node
grown v n = record { version = v; entries = n.entries; pieces = n.pieces; regions = []; serial = n.serial }

module _ (v : ℕ) (n : Node) where
  pub adopt-entries : (adopt v n).entries ≡ n.entries
  adopt-entries = by_test (nat_lt n.version v)
    where
      by_test : (t : Bool) → (cond {A = Node} t (grown v n) n).entries ≡ n.entries
      by_test true = refl
      by_test false = refl

  pub adopt-pieces : (adopt v n).pieces ≡ n.pieces
  adopt-pieces = by_test (nat_lt n.version v)
    where
      by_test : (t : Bool) → (cond {A = Node} t (grown v n) n).pieces ≡ n.pieces
      by_test true = refl
      by_test false = refl

  pub adopt-serial : (adopt v n).serial ≡ n.serial
  adopt-serial = by_test (nat_lt n.version v)
    where
      by_test : (t : Bool) → (cond {A = Node} t (grown v n) n).serial ≡ n.serial
      by_test true = refl
      by_test false = refl

  pub adopt-regions : (adopt v n).regions ≡ cond (nat_lt n.version v) [] n.regions
  adopt-regions = by_test (nat_lt n.version v)
    where
      by_test : (t : Bool) → (cond {A = Node} t (grown v n) n).regions ≡ cond t [] n.regions
      by_test true = refl
      by_test false = refl

  pub adopt-version : n.version ≤ v → (adopt v n).version ≡ v
  adopt-version h = by_test (nat_lt n.version v) refl
    where
      same : (a b : ℕ) → nat_lt a b ≡ false → a ≤ b → a ≡ b
      same a b t h = grind (arith, nat_tests)

      by_test : (t : Bool) → nat_lt n.version v ≡ t → (cond {A = Node} t (grown v n) n).version ≡ v
      by_test true e = refl
      by_test false e = same n.version v e h
