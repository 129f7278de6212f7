-- Turns that follow each other.
use Rattle.std.proofs.Common.{◌≡◌, ◌∙◌, ℕ, ◌+◌, refl, ap, subst}
use Rattle.pass_model.specs.Rows.{Settings}
use Rattle.pass_model.specs.Passes.{World}
use Rattle.pass_model.specs.Turns as turns
use Rattle.pass_model.specs.Turns.{Stand, stand, turn_at}
use Rattle.pass_model.proofs.Framing.{one-turn, turns-follow}
use Rattle.pass_runs.specs.Standing.{Leads}

pub lead_none : (s : Settings) (x : Stand) → Leads s x x
unfolding turns.turns
lead_none s x = (0, refl)

pub lead_then : (s : Settings) (x y z : Stand) → Leads s x y → Leads s y z → Leads s x z
lead_then s x y z a b = (a.0 + b.0, turns-follow s a.0 b.0 x ∙ (ap (turns.turns s b.0) a.1 ∙ b.1))

-- one turn more
pub lead_one : (s : Settings) (x : Stand) (d : turns.Doing) (w : World) (y : Stand) → Leads s x (stand d w) → turn_at s d w ≡ y → Leads s x y
lead_one s x d w y a e = lead_then s x (stand d w) y a (1, one-turn s (stand d w) ∙ e)

-- so many turns more
pub lead_more : (s : Settings) (x : Stand) (d : turns.Doing) (w : World) (y : Stand) → Leads s x (stand d w) → ((many : ℕ) × (turns.turns s many (stand d w) ≡ y)) → Leads s x y
lead_more s x d w y a b = lead_then s x (stand d w) y a b

-- to a world that is the same
pub lead_same : (s : Settings) (x : Stand) (d : turns.Doing) (w v : World) → w ≡ v → Leads s x (stand d w) → Leads s x (stand d v)
lead_same s x d w v e a = subst (λ (z : World). Leads s x (stand d z)) e a
