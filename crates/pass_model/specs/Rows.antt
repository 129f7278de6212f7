-- What the owner knows of a row, who its targets are, and what a round makes of it.
use Rattle.std.specs.Prelude.{◌||◌, ℕ, Bool, List, take, Option, if◌then◌else◌}
use Rattle.bucket_ids.specs.Buckets.{Low}
use Rattle.lane_journals.specs.Events.{Content}
use Rattle.lane_rest.specs.Sets.{newest_of}
use Rattle.lane_rest.specs.Targets.{is_member, is_target_in, first_targets}
use Rattle.pass_model.specs.Nodes.{Node, apply_node}
use Rattle.pass_model.specs.Shapes.{Shape, shape_of}

-- which nodes serve, the ideal order of a bucket, the rules, and how many documents of a bucket are in a union
pub record Settings : Type 0 where
  pub serving : ℕ → Bool
  pub ideal : Low → List ℕ
  pub redundancy : ℕ
  pub acks : ℕ
  pub searchable : ℕ
  pub split_at : ℕ
  pub lane_bits : ℕ
  pub documents : Content → Low → ℕ

-- the marks of a row, and what its last round showed
pub record Row : Type 0 where
  pub bucket : Low
  pub complete : ℕ → Bool
  pub active : Option ℕ
  -- the active node accepted its activation
  pub accepted : Bool
  -- how many there are in the union
  pub documents : ℕ
  -- who accepted the union
  pub holders : ℕ → Bool
  -- how the buckets of a node stood to the row
  pub shown : ℕ → Shape

-- the node is among the first of the ideal order, as many as there are to be copies
abbrev pub is_first : Settings → Low → ℕ → Bool
is_first s b n = is_member (take s.redundancy (s.ideal b)) n

abbrev pub is_target : Settings → Row → ℕ → Bool
is_target s r n = is_target_in s.redundancy (s.ideal r.bucket) r.active n

-- the first targets in ideal order, which are to be ready
abbrev pub is_searched : Settings → Row → ℕ → Bool
is_searched s r n = is_member (first_targets s.searchable s.redundancy (s.ideal r.bucket) r.active) n

-- ---- a round

-- the newest of the nodes that serve
abbrev pub united : Settings → (ℕ → Node) → Content
united s ns = newest_of s.serving (λ n. (ns n).store)

-- each target takes the union
abbrev pub round_node : Settings → Row → (ℕ → Node) → ℕ → Node
round_node s r ns n = if is_target s r n then apply_node r.bucket (united s ns) (ns n) else ns n

abbrev pub round_row : Settings → Row → (ℕ → Node) → Row
round_row s r ns = record {
  bucket = r.bucket;
  complete = λ n. is_target s r n || r.complete n;
  active = r.active;
  accepted = r.accepted;
  documents = s.documents (united s ns) r.bucket;
  holders = is_target s r;
  shown = λ n. shape_of r.bucket (ns n).pieces;
}
