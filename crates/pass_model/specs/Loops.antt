-- A loop over the nodes in rising number.
use Rattle.std.specs.Prelude.{◌≡◌, ℕ, nat_lt, if◌then◌else◌}
use Rattle.pass_model.specs.Nodes.{Node}

-- the nodes below a number are done
abbrev pub UpTo : ℕ → (ℕ → Node) → (ℕ → Node) → (ℕ → Node) → Type 0
UpTo i before after now = (n : ℕ) → now n ≡ (if nat_lt n i then after n else before n)
