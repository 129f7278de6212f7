use Rattle.lane_journals.specs.Meanings.{history}
use Rattle.lane_journals.specs.States.{state_of}
use Rattle.lane_journals.proofs.Meant.{meant-legal}
use Rattle.lane_durability.proofs.Found.{durable}
use Rattle.lane_durability.proofs.Operations.{newer-later, fresh, read-version, seen-current, saw-nothing-older, answered-before, counted-once, found-newest}
use Rattle.lane_durability.proofs.theorem.kept_journals_are_durable.Goals as goal

pub returns : goal.returns
returns c = record {
  durable = λ S some J l. durable S.acks (state_of (history J)) some (history J) (meant-legal S J l);
  later = λ S some J l. newer-later S.acks (state_of (history J)) some (history J) (meant-legal S J l);
  fresh = λ S some J l. fresh S.acks (state_of (history J)) some (history J) (meant-legal S J l);
  current = λ S some J l. read-version S.acks (state_of (history J)) some (history J) (meant-legal S J l);
  seen = λ S some J l. seen-current S.acks (state_of (history J)) some (history J) (meant-legal S J l);
  closed = λ S some J l. saw-nothing-older S.acks (state_of (history J)) some (history J) (meant-legal S J l);
  before = λ S some J l. answered-before S.acks (state_of (history J)) some (history J) (meant-legal S J l);
  apart = λ S some J l. counted-once S.acks (state_of (history J)) some (history J) (meant-legal S J l);
  held = λ S some J l. found-newest S.acks (state_of (history J)) some (history J) (meant-legal S J l);
}
