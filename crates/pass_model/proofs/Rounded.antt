-- What holds of a row after a round, and after Ready and the decision.
use Rattle.std.proofs.Common.{◌≡◌, ℕ, true, false, Some}
use Rattle.bucket_ids.specs.Buckets.{has_key}
use Rattle.lane_journals.specs.Buckets.{Id, key_of}
use Rattle.lane_journals.specs.Events.{Content}
use Rattle.pass_model.specs.Nodes.{Node}
use Rattle.pass_model.specs.Shapes.{Fits, IsExact, IsReadied, is_askew}
use Rattle.pass_model.specs.Rows.{Row, Settings, is_target, is_searched}

-- after a round
pub record Rounded (s : Settings) (U : Content) (ns : ℕ → Node) (r : Row) : Type 0 where
  pub exact : (n : ℕ) → is_target s r n ≡ true → IsExact r.bucket (ns n)
  pub holds : (n : ℕ) → is_target s r n ≡ true → (id : Id) → has_key r.bucket (key_of id) ≡ true → (ns n).store id ≡ U id
  pub complete : (n : ℕ) → is_target s r n ≡ true → r.complete n ≡ true
  pub fits : (n : ℕ) → s.serving n ≡ true → is_target s r n ≡ false → Fits r.bucket (r.shown n) (ns n)
  pub documents : r.documents ≡ s.documents U r.bucket
  pub holders : (n : ℕ) → r.holders n ≡ is_target s r n

-- the nodes that aren't targets have the row as a bucket, or nothing there
abbrev pub Straight : Settings → Row → Type 0
Straight s r = (n : ℕ) → s.serving n ≡ true → is_target s r n ≡ false → is_askew (r.shown n) ≡ false

-- after Ready and the decision
pub record Ready (s : Settings) (ns : ℕ → Node) (r : Row) : Type 0 where
  pub node : ℕ
  pub decided : r.active ≡ Some node
  pub active_ready : IsReadied r.bucket (ns node)
  pub first_ready : (n : ℕ) → is_searched s r n ≡ true → IsReadied r.bucket (ns n)
