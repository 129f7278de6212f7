-- What a session is set to.
use Rattle.std.specs.Prelude.{◌≡◌, ℕ, ◌^◌, ◌≤◌, [], None}
use Rattle.cluster_states.specs.ClusterStates.{State, IsState}
use Rattle.cluster_states.specs.Publishing.{publish_fault}
use Rattle.distributor_part.specs.declared.rules.Rules.{Rules}
use Rattle.lane_lives.specs.declared.setting.Setting.{Setting}

-- how many lanes there are: as many as the bits tell apart
abbrev pub lane_count : Setting → ℕ
lane_count s = 2 ^ s.bits

-- so many copies, of which some acknowledge a write and some are searchable
pub record AreRules (r : Rules) : Type 0 where
  pub some_acks : 1 ≤ r.acks
  pub few_acks : r.acks ≤ r.redundancy
  pub some_searchable : 1 ≤ r.searchable
  pub few_searchable : r.searchable ≤ r.redundancy
  pub few_copies : r.redundancy ≤ 8
  pub some_documents : 1 ≤ r.split_at
  pub few_documents : r.split_at ≤ 1000000

-- the state can be published before all others
abbrev pub IsFirst : ℕ → State → Type 0
IsFirst acks state = publish_fault (record { acks = acks; states = [] }) state ≡ None

-- two to sixty-four lanes, and a first state that can be published
pub record IsSetting (s : Setting) : Type 0 where
  pub some : 1 ≤ s.bits
  pub most : s.bits ≤ 6
  pub rules : AreRules s.rules
  pub state : IsState s.initial
  pub first : IsFirst s.rules.acks s.initial
