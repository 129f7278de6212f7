-- Wrong journals, each beside the right one.
use Rattle.std.proofs.Common.{◌≡◌, [], ◌∷◌, true, false, refl}
use Rattle.carriers.specs.declared.fate.Fate.TheVariants as fate
use Rattle.messages.specs.declared.noted.NotedBody.TheVariants as body
use Rattle.messages.specs.declared.noted.NotedReply.TheVariants as reply
use Rattle.lane_journals.specs.declared.event.LaneEvent.TheVariants.{Returned, Stopped, Started}
use Rattle.lane_carriage.specs.Carriage.{Nothing, Other, Message}
use Rattle.journal_examples.specs.WrongCarriage.{IsRefused, ask, reply_to, in_time, early, once, twice, numbered, skipped, unanswered, answered, cut_off, reaching_stopped, late_cut_off, late_reaching_stopped, started_again, lost_at_started, late_started_again, late_lost_at_started}
use Rattle.lane_carriage.proofs.Carried.{says}

pub delivered-early : IsRefused (fate.Late 1 ∷ fate.Deliver ∷ []) in_time early
delivered-early = (
  Message (fate.Late 1 ∷ []) (ask 1 ∷ []) fate.Deliver in_time (record { version = 1; sender = 0; receiver = 0; body = body.Ask; after = Returned 2 ∷ reply_to 2 ∷ ask 2 ∷ ask 1 ∷ []; dealt = (reply.NoMemory, refl); late = (in_time, ((reply.NoMemory, refl), refl)) })
      (Message [] [] (fate.Late 1) (ask 1 ∷ []) (record { version = 1; sender = 0; receiver = 0; body = body.Ask; after = ask 1 ∷ []; dealt = refl; late = refl }) Nothing),
  λ c. let at : 1 ∷ [] ≡ 2 ∷ [] = (says _ _ c).arrived 1 in cc,
)

pub delivered-twice : IsRefused (fate.Deliver ∷ []) once twice
delivered-twice = (
  Message [] [] fate.Deliver once (record { version = 1; sender = 0; receiver = 0; body = body.Ask; after = once; dealt = (reply.NoMemory, refl); late = refl }) Nothing,
  λ c. let at : 1 ∷ 1 ∷ [] ≡ 1 ∷ [] = (says _ _ c).arrived 1 in cc,
)

pub number-skipped : IsRefused (fate.LoseRequest ∷ fate.LoseRequest ∷ []) numbered skipped
number-skipped = (
  Message (fate.LoseRequest ∷ []) (ask 1 ∷ []) fate.LoseRequest numbered (record { version = 1; sender = 0; receiver = 0; body = body.Ask; after = numbered; dealt = refl; late = refl })
      (Message [] [] fate.LoseRequest (ask 1 ∷ []) (record { version = 1; sender = 0; receiver = 0; body = body.Ask; after = ask 1 ∷ []; dealt = refl; late = refl }) Nothing),
  λ c. let at : 0 ≡ 1 = (says _ _ c).once 2 in cc,
)

pub reply-returned : IsRefused (fate.LoseReply ∷ []) unanswered answered
reply-returned = (
  Message [] [] fate.LoseReply unanswered (record { version = 1; sender = 0; receiver = 0; body = body.Ask; after = unanswered; dealt = (reply.NoMemory, refl); late = refl }) Nothing,
  λ c. let at : true ≡ false = (says _ _ c).returns 1 in cc,
)

-- ---- a node that is stopped

pub delivered-to-stopped : IsRefused (fate.Deliver ∷ []) cut_off reaching_stopped
delivered-to-stopped = (
  Message [] (Stopped 0 ∷ []) fate.Deliver cut_off (record { version = 1; sender = 0; receiver = 0; body = body.Ask; after = cut_off; dealt = refl; late = refl }) (Other [] [] (Stopped 0) tt Nothing),
  λ c. let at : true ≡ false = (says _ _ c).returns 1 in cc,
)

pub late-to-stopped : IsRefused (fate.Late 1 ∷ fate.Deliver ∷ []) late_cut_off late_reaching_stopped
late-to-stopped = (
  Message (fate.Late 1 ∷ []) (Stopped 0 ∷ ask 1 ∷ []) fate.Deliver late_cut_off
      (record { version = 1; sender = 0; receiver = 0; body = body.Ask; after = late_cut_off; dealt = refl; late = (late_cut_off, (refl, refl)) })
      (Other (fate.Late 1 ∷ []) (ask 1 ∷ []) (Stopped 0) tt
      (Message [] [] (fate.Late 1) (ask 1 ∷ []) (record { version = 1; sender = 0; receiver = 0; body = body.Ask; after = ask 1 ∷ []; dealt = refl; late = refl }) Nothing)),
  λ c. let at : 2 ∷ [] ≡ [] = (says _ _ c).arrived 1 in cc,
)

pub lost-though-started : IsRefused (fate.Deliver ∷ []) started_again lost_at_started
lost-though-started = (
  Message [] (Started 0 ∷ Stopped 0 ∷ []) fate.Deliver started_again
      (record { version = 1; sender = 0; receiver = 0; body = body.Ask; after = started_again; dealt = (reply.NoMemory, refl); late = refl })
      (Other [] (Stopped 0 ∷ []) (Started 0) tt (Other [] [] (Stopped 0) tt Nothing)),
  λ c. let at : false ≡ true = (says _ _ c).returns 1 in cc,
)

pub late-lost-though-started : IsRefused (fate.Late 1 ∷ fate.LoseRequest ∷ []) late_started_again late_lost_at_started
late-lost-though-started = (
  Message (fate.Late 1 ∷ []) (Started 0 ∷ ask 1 ∷ Stopped 0 ∷ []) fate.LoseRequest late_started_again
      (record { version = 1; sender = 0; receiver = 0; body = body.Ask; after = late_lost_at_started; dealt = refl; late = (late_started_again, ((reply.NoMemory, refl), refl)) })
      (Other (fate.Late 1 ∷ []) (ask 1 ∷ Stopped 0 ∷ []) (Started 0) tt
      (Message [] (Stopped 0 ∷ []) (fate.Late 1) (ask 1 ∷ Stopped 0 ∷ [])
      (record { version = 1; sender = 0; receiver = 0; body = body.Ask; after = ask 1 ∷ Stopped 0 ∷ []; dealt = refl; late = refl })
      (Other [] [] (Stopped 0) tt Nothing))),
  λ c. let at : [] ≡ 2 ∷ [] = (says _ _ c).arrived 1 in cc,
)
