-- What the owner says to nodes of its rows.
use Rattle.std.specs.Prelude.{◌≡◌, ◌+◌, ℕ, false, List, Option, IfSome, IfNone}
use Rattle.carriers.specs.declared.fate.Fate.{Fate}
use Rattle.messages.specs.Noting.{message_of}
use Rattle.messages.specs.declared.body.Body.{Body}
use Rattle.messages.specs.declared.reply.Reply.{Reply}
use Rattle.lane_journals.specs.Readers.{returned}
use Rattle.lane_journals.specs.Meanings.{history}
use Rattle.lane_keeping.specs.RoundKeeping.{origin_in}
use Rattle.lane_states.specs.declared.lane_state.LaneState.{LaneState}
use Rattle.lane_states.specs.LaneStates.{journal_of, Went}
use Rattle.undisturbed_spans.specs.Undisturbed.{Extends}
use Rattle.lane_upkeep.specs.declared.owner.Owner.{Owner}
use Rattle.lane_upkeep.specs.CameBack.{CameBack}
use Rattle.lane_upkeep.specs.Quiet.{InQuiet, IsToldQuietly}

-- the owner said this to the node: the message was dealt with by the fate that the carrier gave, and this came back
pub record Says (c e : LaneState) (o : Owner) (node : ℕ) (body : Body) (given now : List Fate) (reply : Option Reply) : Type 0 where
  pub went : Went c e (message_of (origin_in c.lane o.distributor o.state) node body) given now
  pub parts : e.parts ≡ c.parts
  pub came : IfSome reply (λ r. CameBack (journal_of e) o node body r)
  pub silent : IfNone reply (returned (c.last + 1) (history (journal_of e)) ≡ false)
  pub fates : Extends given now
  pub quiet : InQuiet now c e o (λ d s. IsToldQuietly d c e node body reply)
