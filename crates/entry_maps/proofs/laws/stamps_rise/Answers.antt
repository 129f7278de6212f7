use Rattle.entry_maps.proofs.StampLaws.{stamps_of-rising, stamps_of-members}
use Rattle.entry_maps.proofs.laws.stamps_rise.Goals as goal

pub returns : goal.returns
returns c = record { rising = stamps_of-rising; members = stamps_of-members }
