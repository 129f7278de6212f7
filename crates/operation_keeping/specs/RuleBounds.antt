-- How many copies a write needs.
use Rattle.std.specs.Prelude.{◌≤◌}
use Rattle.distributor_part.specs.declared.rules.Rules.{Rules}

-- a write needs a copy at least, and no more than there are to be
pub record AreRules (rules : Rules) : Type 0 where
  pub some : 1 ≤ rules.acks
  pub enough : rules.acks ≤ rules.redundancy
