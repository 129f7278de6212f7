-- What a pass does for one row: its nodes are aligned, made ready, one is activated, and the others lose it.
use Rattle.std.specs.Prelude.{◌==◌, ◌&&◌, ◌||◌, ℕ, Bool, false, not, List, [], ◌∷◌, nat_le, Option, None, Some, if◌then◌else◌}
use Rattle.bucket_ids.specs.Buckets.{Low}
use Rattle.lane_journals.specs.Sets.{count}
use Rattle.lane_journals.specs.Readers.{or_else}
use Rattle.lane_rest.specs.Sets.{any_below}
use Rattle.lane_rest.specs.Targets.{is_active}
use Rattle.pass_model.specs.Nodes.{Node, split_node, join_node, ready_node, can_ready, activate_node, can_activate, delete_node}
use Rattle.pass_model.specs.Shapes.{Shape, Same, Over, Inside, is_askew, is_same}
use Rattle.pass_model.specs.Rows.{Settings, Row, is_target, is_searched, round_node, round_row}

-- ---- Split and Join to the nodes whose buckets stand askew

abbrev pub aligned : Low → Shape → Node → Node
aligned b Over x = split_node b x
aligned b Inside x = join_node b x
aligned b _ x = x

abbrev pub needs_align : Settings → Row → ℕ → Bool
needs_align s r n = s.serving n && not (r.holders n) && is_askew (r.shown n)

abbrev pub align_node : Settings → Row → (ℕ → Node) → ℕ → Node
align_node s r ns n = if needs_align s r n then aligned r.bucket (r.shown n) (ns n) else ns n

-- ---- Ready to the first targets in ideal order and to the node to be active, which is then decided

abbrev pub first_in : List ℕ → (ℕ → Bool) → Option ℕ
first_in [] p = None
first_in (n ∷ ns) p = if p n then Some n else first_in ns p

-- the active node, or the first complete member in ideal order
abbrev pub to_be_active : Settings → Row → Option ℕ
to_be_active s r = or_else r.active (first_in (s.ideal r.bucket) r.complete)

abbrev pub is_asked : Settings → Row → ℕ → Bool
is_asked s r n = is_searched s r n || is_active (to_be_active s r) n

abbrev pub ready_nodes : Settings → Row → (ℕ → Node) → ℕ → Node
ready_nodes s r ns n = if is_asked s r n then ready_node r.bucket (ns n) else ns n

-- the node, where it answered Ready
abbrev pub if_ready : Low → (ℕ → Node) → Option ℕ → Option ℕ
if_ready b ns None = None
if_ready b ns (Some n) = if can_ready b (ns n) then Some n else None

-- the nodes are those before Ready
abbrev pub decide_row : Settings → Row → (ℕ → Node) → Row
decide_row s r ns = record {
  bucket = r.bucket;
  complete = r.complete;
  active = or_else r.active (if_ready r.bucket ns (to_be_active s r));
  accepted = r.accepted;
  documents = r.documents;
  holders = r.holders;
  shown = r.shown;
}

-- ---- Activate to the active node, until it is accepted

abbrev pub activate_nodes : Row → (ℕ → Node) → ℕ → Node
activate_nodes r ns n = if not r.accepted && is_active r.active n then activate_node r.bucket (ns n) else ns n

abbrev pub could_activate : Low → (ℕ → Node) → Option ℕ → Bool
could_activate b ns None = false
could_activate b ns (Some n) = can_activate b (ns n)

-- the nodes are those before Activate
abbrev pub activate_row : Row → (ℕ → Node) → Row
activate_row r ns = record {
  bucket = r.bucket;
  complete = r.complete;
  active = r.active;
  accepted = r.accepted || could_activate r.bucket ns r.active;
  documents = r.documents;
  holders = r.holders;
  shown = r.shown;
}

-- ---- Delete to the nodes that showed the row and aren't targets

-- the other complete members that accepted the union are enough
abbrev pub are_enough : Settings → Row → ℕ → Bool
are_enough s r n = nat_le s.acks (count (λ m. r.complete m && r.holders m && not (m == n)))

abbrev pub delete_shown : Low → Shape → Node → Node
delete_shown b (Same k) x = delete_node b k x
delete_shown b _ x = x

abbrev pub does_delete : Settings → Row → ℕ → Bool
does_delete s r n = s.serving n && not (is_target s r n) && are_enough s r n

abbrev pub delete_nodes : Settings → Row → (ℕ → Node) → ℕ → Node
delete_nodes s r ns n = if does_delete s r n then delete_shown r.bucket (r.shown n) (ns n) else ns n

abbrev pub delete_row : Settings → Row → Row
delete_row s r = record {
  bucket = r.bucket;
  complete = λ n. r.complete n && not (does_delete s r n && is_same (r.shown n));
  active = r.active;
  accepted = r.accepted;
  documents = r.documents;
  holders = r.holders;
  shown = r.shown;
}

-- ---- all of these for one row

-- the nodes and a row
pub record Place : Type 0 where
  pub nodes : ℕ → Node
  pub row : Row

abbrev pub round_at : Settings → Place → Place
round_at s x = record { nodes = round_node s x.row x.nodes; row = round_row s x.row x.nodes }

abbrev pub align_nodes : Settings → Place → Place
align_nodes s x = record { nodes = align_node s x.row x.nodes; row = x.row }

-- one more round, if any node was aligned
abbrev pub align : Settings → Place → Place
align s x = if any_below (needs_align s x.row) 32 then round_at s (align_nodes s x) else x

abbrev pub ready_at_row : Settings → Place → Place
ready_at_row s x = record { nodes = ready_nodes s x.row x.nodes; row = decide_row s x.row x.nodes }

abbrev pub activate_at : Place → Place
activate_at x = record { nodes = activate_nodes x.row x.nodes; row = activate_row x.row x.nodes }

abbrev pub delete_at : Settings → Place → Place
delete_at s x = record { nodes = delete_nodes s x.row x.nodes; row = delete_row s x.row }

unfoldable pub settle : Settings → Place → Place
settle s x = delete_at s (activate_at (ready_at_row s (align s x)))
