-- The life of a lane under its first state, from its second write on.
use Rattle.std.proofs.Common.{◌≡◌, ℕ, Bool, true, false, List, [], ◌∷◌, Some, None, refl, sym, subst, arith, inl, inr}
use Rattle.lane_journals.specs.Sets.{count_below, count, AtLeast}
use Rattle.lane_journals.specs.Stamps.{same_stamp}
use Rattle.lane_journals.specs.Buckets.{Bucket, contains, same_bucket, covers, meets, first_child, second_child, Id, key_of}
use Rattle.lane_journals.specs.Events as plain
use Rattle.lane_journals.specs.Readers.{running, Message, answered_store}
use Rattle.lane_journals.specs.Facts.{IsRow}
use Rattle.lane_journals.specs.Legal.{IsIdleRow, Permits}
use Rattle.lane_journals.specs.Pieces.{pieces, MayTake}
use Rattle.lane_journals.specs.States.{state_of}
use Rattle.lane_journals.specs.Meanings.{nodes, content, names, meaning, history}
use Rattle.lane_journals.specs.Naming.{NamesShown, WellNoted}
use Rattle.lane_journals.specs.Places.{Placed}
use Rattle.lane_journals.specs.Endings.{Ended}
use Rattle.lane_journals.specs.KeptJournals.{IsLegal}
use Rattle.journal_examples.specs.Lives.{lane, setting, stamp_two}
use Rattle.messages.specs.declared.noted.NotedBody.TheVariants as body
use Rattle.messages.specs.declared.noted.NotedReply.TheVariants as reply
use Rattle.messages.specs.declared.decision.Decision.TheVariants as choice
use Rattle.messages.specs.declared.outcome.Outcome.TheVariants as outcome
use Rattle.lane_journals.specs.declared.event.LaneEvent.{LaneEvent}
use Rattle.lane_journals.specs.declared.event.LaneEvent.TheVariants as event
use Rattle.lane_journals.proofs.Ids.{same_id-refl}
use Rattle.lane_journals.proofs.BucketLaws.{children_apart, first_in, second_in}
use Rattle.journal_examples.proofs.Walking.{EachSent, NumbersBelow, numbers, NotLook, unasked, LinesDone, idle-done}
use Rattle.journal_examples.proofs.LifeFacts.{some_same, same_test, has_both_0, has_both_1, enough_3, only_0, is_0, owns1, firstC, secondC}
use Rattle.journal_examples.proofs.LifeOne.{a30, live_a30}

module _ (id : Id) (inside : contains lane (key_of id) ≡ true) where
  abbrev base : List LaneEvent
  base = a30 id inside

  live_base : IsLegal setting base
  live_base = live_a30 id inside

  abbrev a31 : List LaneEvent
  a31 = event.Prepared 2 lane 3 ∷ base

  may_a31 : Permits 1 (state_of (history a31)) (history base) (meaning base (event.Prepared 2 lane 3))
  unfolding same_stamp same_bucket
  may_a31 = record { begin = (record { distributor = 0; version = 1; id = id; stamp = Some stamp_two }); begun = refl; fresh = refl; unclosed = refl; row = record { fits = omega arith; opened = refl; row = λ key h. rw h refl }; inside = inside; no_round = refl; recipients = λ n key h. rw h (same_test (nodes 3 n)); enough = enough_3 }

  live_a31 : IsLegal setting a31
  live_a31 = (live_base, record { noted = tt; permitted = may_a31; placed = tt; ended = tt })

  unlooked_a2 : EachSent (NotLook) (history a31)
  unfolding same_stamp same_bucket
  unlooked_a2 = ((λ i e. cc), ((λ i e. cc), ((λ i e. cc), ((λ i e. cc), ((λ i e. cc), ((λ i e. cc), ((λ i e. cc), ((λ i e. cc), tt))))))))

  abbrev a32 : List LaneEvent
  a32 = event.Wrote 2 (record { stamp = stamp_two; id = id; body = None }) ∷ a31

  may_a32 : Permits 1 (state_of (history a32)) (history a31) (meaning a31 (event.Wrote 2 (record { stamp = stamp_two; id = id; body = None })))
  unfolding same_stamp same_bucket
  may_a32 = record { begin = (record { distributor = 0; version = 1; id = id; stamp = Some stamp_two }); begun = refl; stamp = stamp_two; stamped = refl; preparing = (record { row = lane; recipients = nodes 3 }); was_prepared = refl; unwritten = refl; unclosed = refl; seen = λ a. absurd (unasked (history a31) unlooked_a2 2 (record { distributor = 0; version = 1; id = id; stamp = Some stamp_two }) a) }

  noted_a32 : WellNoted a31 (event.Wrote 2 (record { stamp = stamp_two; id = id; body = None }))
  noted_a32 = record { begin = (record { distributor = 0; version = 1; id = id; stamp = Some stamp_two }); begun = refl; stamped = refl; same_id = refl }

  live_a32 : IsLegal setting a32
  live_a32 = (live_a31, record { noted = noted_a32; permitted = may_a32; placed = tt; ended = tt })

  below_a9 : NumbersBelow 9 (history a32)
  below_a9 = (omega arith, (omega arith, (omega arith, (omega arith, (omega arith, (omega arith, (omega arith, (omega arith, tt))))))))

  abbrev a33 : List LaneEvent
  a33 = event.Sent 9 1 0 0 (body.Store stamp_two) ∷ a32

  may_a33 : Permits 1 (state_of (history a33)) (history a32) (meaning a32 (event.Sent 9 1 0 0 (body.Store stamp_two)))
  unfolding same_stamp same_bucket
  may_a33 = record { greater = λ j m h. numbers (history a32) 9 below_a9 j m h; holder = refl; member = refl; timing = inr refl; carries = record { belongs = record { line = 2; begin = (record { distributor = 0; version = 1; id = id; stamp = Some stamp_two }); preparing = (record { row = lane; recipients = nodes 3 }); is_open = record { began = refl; version = refl; prepared = refl; unclosed = refl }; same_id = refl; recipient = has_both_0 }; stamped = refl; written = refl } }

  noted_a33 : WellNoted a32 (event.Sent 9 1 0 0 (body.Store stamp_two))
  unfolding same_stamp
  noted_a33 = (id, refl)

  placed_a33 : Placed setting a32 (event.Sent 9 1 0 0 (body.Store stamp_two))
  placed_a33 = (owns1 a32 refl, tt)

  live_a33 : IsLegal setting a33
  live_a33 = (live_a32, record { noted = noted_a33; permitted = may_a33; placed = placed_a33; ended = tt })

  abbrev a34 : List LaneEvent
  a34 = event.Delivered 9 (reply.Answer [] []) ∷ a33

  may_a34 : Permits 1 (state_of (history a34)) (history a33) (meaning a33 (event.Delivered 9 (reply.Answer [] [])))
  unfolding same_stamp same_bucket
  may_a34 = record { message = (record { version = 1; receiver = 0; body = (plain.Store id stamp_two); round = 0 }); was_sent = refl; runs = refl; reply = record { low = omega arith; has = rw inside refl; takes = tt; show = λ b is. cc; show_one = λ i is. cc; fresh = λ c s h w. cc; may_delete = λ b s is. cc } }

  noted_a34 : WellNoted a33 (event.Delivered 9 (reply.Answer [] []))
  unfolding same_stamp same_bucket
  noted_a34 = λ m h. subst (λ (x : Message). NamesShown a33 x ([]) ([])) (some_same (record { version = 1; receiver = 0; body = (plain.Store id stamp_two); round = 0 }) m h) (record { rising = tt; held = tt; asked = refl; shown = refl })

  live_a34 : IsLegal setting a34
  live_a34 = (live_a33, record { noted = noted_a34; permitted = may_a34; placed = tt; ended = tt })

  abbrev a35 : List LaneEvent
  a35 = event.Returned 9 ∷ a34

  may_a35 : Permits 1 (state_of (history a35)) (history a34) (meaning a34 (event.Returned 9))
  unfolding same_stamp same_bucket
  may_a35 = record { once = refl; reply = plain.Answer (content a33 ([])) (names ([])); replied = refl }

  live_a35 : IsLegal setting a35
  live_a35 = (live_a34, record { noted = tt; permitted = may_a35; placed = tt; ended = tt })

  below_a10 : NumbersBelow 10 (history a35)
  below_a10 = (omega arith, (omega arith, (omega arith, (omega arith, (omega arith, (omega arith, (omega arith, (omega arith, (omega arith, tt)))))))))

  abbrev a36 : List LaneEvent
  a36 = event.Sent 10 1 0 1 (body.Store stamp_two) ∷ a35

  may_a36 : Permits 1 (state_of (history a36)) (history a35) (meaning a35 (event.Sent 10 1 0 1 (body.Store stamp_two)))
  unfolding same_stamp same_bucket
  may_a36 = record { greater = λ j m h. numbers (history a35) 10 below_a10 j m h; holder = refl; member = refl; timing = inr refl; carries = record { belongs = record { line = 2; begin = (record { distributor = 0; version = 1; id = id; stamp = Some stamp_two }); preparing = (record { row = lane; recipients = nodes 3 }); is_open = record { began = refl; version = refl; prepared = refl; unclosed = refl }; same_id = refl; recipient = has_both_1 }; stamped = refl; written = refl } }

  noted_a36 : WellNoted a35 (event.Sent 10 1 0 1 (body.Store stamp_two))
  unfolding same_stamp
  noted_a36 = (id, refl)

  placed_a36 : Placed setting a35 (event.Sent 10 1 0 1 (body.Store stamp_two))
  placed_a36 = (owns1 a35 refl, tt)

  live_a36 : IsLegal setting a36
  live_a36 = (live_a35, record { noted = noted_a36; permitted = may_a36; placed = placed_a36; ended = tt })

  abbrev a37 : List LaneEvent
  a37 = event.Delivered 10 (reply.Answer [] []) ∷ a36

  may_a37 : Permits 1 (state_of (history a37)) (history a36) (meaning a36 (event.Delivered 10 (reply.Answer [] [])))
  unfolding same_stamp same_bucket
  may_a37 = record { message = (record { version = 1; receiver = 1; body = (plain.Store id stamp_two); round = 0 }); was_sent = refl; runs = refl; reply = record { low = omega arith; has = rw inside refl; takes = tt; show = λ b is. cc; show_one = λ i is. cc; fresh = λ c s h w. cc; may_delete = λ b s is. cc } }

  noted_a37 : WellNoted a36 (event.Delivered 10 (reply.Answer [] []))
  unfolding same_stamp same_bucket
  noted_a37 = λ m h. subst (λ (x : Message). NamesShown a36 x ([]) ([])) (some_same (record { version = 1; receiver = 1; body = (plain.Store id stamp_two); round = 0 }) m h) (record { rising = tt; held = tt; asked = refl; shown = refl })

  live_a37 : IsLegal setting a37
  live_a37 = (live_a36, record { noted = noted_a37; permitted = may_a37; placed = tt; ended = tt })

  abbrev a38 : List LaneEvent
  a38 = event.Returned 10 ∷ a37

  may_a38 : Permits 1 (state_of (history a38)) (history a37) (meaning a37 (event.Returned 10))
  unfolding same_stamp same_bucket
  may_a38 = record { once = refl; reply = plain.Answer (content a36 ([])) (names ([])); replied = refl }

  live_a38 : IsLegal setting a38
  live_a38 = (live_a37, record { noted = tt; permitted = may_a38; placed = tt; ended = tt })

  stored_a2 : answered_store 1 id stamp_two 0 (history a38) ≡ true
  unfolding same_stamp same_bucket
  stored_a2 = rw (same_id-refl id) refl

  acked_a2 : AtLeast 1 (λ n. (nodes 3 n ≡ true) × (answered_store 1 id stamp_two n (history a38) ≡ true))
  unfolding count count_below
  acked_a2 = (only_0, omega arith, λ n h. subst (λ (i : ℕ). (nodes 3 i ≡ true) × (answered_store 1 id stamp_two i (history a38) ≡ true)) (sym (is_0 n h)) (has_both_0, stored_a2))

  abbrev a39 : List LaneEvent
  a39 = event.Closed 2 (outcome.Acked stamp_two) ∷ a38

  may_a39 : Permits 1 (state_of (history a39)) (history a38) (meaning a38 (event.Closed 2 (outcome.Acked stamp_two)))
  unfolding same_stamp same_bucket
  may_a39 = record { begin = (record { distributor = 0; version = 1; id = id; stamp = Some stamp_two }); begun = refl; unclosed = refl; acked = λ h. record { stamp = stamp_two; stamped = refl; preparing = (record { row = lane; recipients = nodes 3 }); was_prepared = refl; enough = acked_a2; active = λ n key i a. cc } }

  ended_a39 : Ended setting a38 (event.Closed 2 (outcome.Acked stamp_two))
  ended_a39 = ((record { distributor = 0; version = 1; id = id; stamp = Some stamp_two }), refl, (refl, refl))

  live_a39 : IsLegal setting a39
  live_a39 = (live_a38, record { noted = tt; permitted = may_a39; placed = tt; ended = ended_a39 })

  row_s1 : IsRow 1 lane (history a39)
  row_s1 = record { fits = omega arith; opened = refl; row = λ key h. rw h refl }

  done_s1 : LinesDone (history a39) (history a39)
  done_s1 = (refl, (refl, tt))

  quiet_s1 : IsIdleRow 1 lane (history a39)
  unfolding same_stamp same_bucket
  quiet_s1 = record { row = row_s1; no_round = refl; idle = idle-done (history a39) done_s1 1 lane }

  abbrev a40 : List LaneEvent
  a40 = event.Decided 0 1 (choice.RowSplit lane) ∷ a39

  may_a40 : Permits 1 (state_of (history a40)) (history a39) (meaning a39 (event.Decided 0 1 (choice.RowSplit lane)))
  unfolding same_stamp same_bucket
  may_a40 = (refl, (omega arith, quiet_s1))

  placed_a40 : Placed setting a39 (event.Decided 0 1 (choice.RowSplit lane))
  placed_a40 = (owns1 a39 refl, tt)

  live_a40 : IsLegal setting a40
  live_a40 = (live_a39, record { noted = tt; permitted = may_a40; placed = placed_a40; ended = tt })

  row_first : IsRow 1 (first_child lane) (history a40)
  row_first = record { fits = firstC; opened = refl; row = λ key h. rw (first_in lane key (omega arith) h, h) refl }

  row_second : IsRow 1 (second_child lane) (history a40)
  row_second = record { fits = secondC; opened = refl; row = λ key h. rw (second_in lane key (omega arith) h, not_first key h) refl }
    where
      not_first : (key : ℕ) → contains (second_child lane) key ≡ true → contains (first_child lane) key ≡ false
      not_first key h = flip (contains (first_child lane) key) refl
        where
          flip : (t : Bool) → contains (first_child lane) key ≡ t → t ≡ false
          flip true e = absurd (children_apart lane key e h)
          flip false e = refl

  below_a11 : NumbersBelow 11 (history a40)
  below_a11 = (omega arith, (omega arith, (omega arith, (omega arith, (omega arith, (omega arith, (omega arith, (omega arith, (omega arith, (omega arith, tt))))))))))

  abbrev a41 : List LaneEvent
  a41 = event.Sent 11 1 0 1 (body.Split (record { bits = 2; low = 0 })) ∷ a40

  may_a41 : Permits 1 (state_of (history a41)) (history a40) (meaning a40 (event.Sent 11 1 0 1 (body.Split (record { bits = 2; low = 0 }))))
  unfolding same_stamp same_bucket
  may_a41 = record { greater = λ j m h. numbers (history a40) 11 below_a11 j m h; holder = refl; member = refl; timing = inr refl; carries = tt }

  placed_a41 : Placed setting a40 (event.Sent 11 1 0 1 (body.Split (record { bits = 2; low = 0 })))
  unfolding first_child
  placed_a41 = (owns1 a40 refl, inl row_first)

  live_a41 : IsLegal setting a41
  live_a41 = (live_a40, record { noted = tt; permitted = may_a41; placed = placed_a41; ended = tt })

  takes_a11 : MayTake (pieces 1 (history a41)) (plain.Split (record { bits = 2; low = 0 }))
  unfolding contains same_stamp same_bucket covers meets first_child second_child
  takes_a11 = refl

  abbrev a42 : List LaneEvent
  a42 = event.Delivered 11 (reply.Answer [] []) ∷ a41

  may_a42 : Permits 1 (state_of (history a42)) (history a41) (meaning a41 (event.Delivered 11 (reply.Answer [] [])))
  unfolding same_stamp same_bucket
  may_a42 = record { message = (record { version = 1; receiver = 1; body = (plain.Split (record { bits = 2; low = 0 })); round = 0 }); was_sent = refl; runs = refl; reply = record { low = omega arith; has = tt; takes = takes_a11; show = λ b is. cc; show_one = λ i is. cc; fresh = λ c s h w. cc; may_delete = λ b s is. cc } }

  noted_a42 : WellNoted a41 (event.Delivered 11 (reply.Answer [] []))
  unfolding same_stamp same_bucket
  noted_a42 = λ m h. subst (λ (x : Message). NamesShown a41 x ([]) ([])) (some_same (record { version = 1; receiver = 1; body = (plain.Split (record { bits = 2; low = 0 })); round = 0 }) m h) (record { rising = tt; held = tt; asked = refl; shown = refl })

  live_a42 : IsLegal setting a42
  live_a42 = (live_a41, record { noted = noted_a42; permitted = may_a42; placed = tt; ended = tt })

  row_firstly : IsRow 1 (first_child lane) (history a42)
  row_firstly = record { fits = firstC; opened = refl; row = row_first.row }

  row_secondly : IsRow 1 (second_child lane) (history a42)
  row_secondly = record { fits = secondC; opened = refl; row = row_second.row }

  done_j1 : LinesDone (history a42) (history a42)
  done_j1 = (refl, (refl, tt))

  join_quietly : (b : Bucket) → IsRow 1 b (history a42) → running 1 b (history a42) ≡ false → IsIdleRow 1 b (history a42)
  join_quietly b r h = record { row = r; no_round = h; idle = idle-done (history a42) done_j1 1 b }

  first_still : running 1 (first_child lane) (history a42) ≡ false
  unfolding same_bucket first_child
  first_still = refl

  second_still : running 1 (second_child lane) (history a42) ≡ false
  unfolding same_bucket second_child
  second_still = refl

  abbrev a43 : List LaneEvent
  a43 = event.Decided 0 1 (choice.RowsJoined lane) ∷ a42

  may_a43 : Permits 1 (state_of (history a43)) (history a42) (meaning a42 (event.Decided 0 1 (choice.RowsJoined lane)))
  unfolding same_stamp
  may_a43 = (refl, record { fits = omega arith; first = join_quietly (first_child lane) row_firstly first_still; second = join_quietly (second_child lane) row_secondly second_still; same_active = λ key h. refl; one_delete = λ key h. inl refl })

  placed_a43 : Placed setting a42 (event.Decided 0 1 (choice.RowsJoined lane))
  placed_a43 = (owns1 a42 refl, omega arith)

  live_a43 : IsLegal setting a43
  live_a43 = (live_a42, record { noted = tt; permitted = may_a43; placed = placed_a43; ended = tt })

  row_j2 : IsRow 1 lane (history a43)
  row_j2 = record { fits = omega arith; opened = refl; row = λ key h. rw h refl }

  below_a12 : NumbersBelow 12 (history a43)
  below_a12 = (omega arith, (omega arith, (omega arith, (omega arith, (omega arith, (omega arith, (omega arith, (omega arith, (omega arith, (omega arith, (omega arith, tt)))))))))))

  abbrev a44 : List LaneEvent
  a44 = event.Sent 12 1 0 1 (body.Join lane) ∷ a43

  may_a44 : Permits 1 (state_of (history a44)) (history a43) (meaning a43 (event.Sent 12 1 0 1 (body.Join lane)))
  unfolding same_stamp same_bucket
  may_a44 = record { greater = λ j m h. numbers (history a43) 12 below_a12 j m h; holder = refl; member = refl; timing = inr refl; carries = omega arith }

  placed_a44 : Placed setting a43 (event.Sent 12 1 0 1 (body.Join lane))
  placed_a44 = (owns1 a43 refl, inl row_j2)

  live_a44 : IsLegal setting a44
  live_a44 = (live_a43, record { noted = tt; permitted = may_a44; placed = placed_a44; ended = tt })

  takes_a12 : MayTake (pieces 1 (history a44)) (plain.Join lane)
  unfolding contains same_stamp same_bucket covers meets first_child second_child
  takes_a12 = refl

  abbrev pub a45 : List LaneEvent
  a45 = event.Delivered 12 (reply.Answer [] []) ∷ a44

  may_a45 : Permits 1 (state_of (history a45)) (history a44) (meaning a44 (event.Delivered 12 (reply.Answer [] [])))
  unfolding same_stamp same_bucket
  may_a45 = record { message = (record { version = 1; receiver = 1; body = (plain.Join lane); round = 0 }); was_sent = refl; runs = refl; reply = record { low = omega arith; has = tt; takes = takes_a12; show = λ b is. cc; show_one = λ i is. cc; fresh = λ c s h w. cc; may_delete = λ b s is. cc } }

  noted_a45 : WellNoted a44 (event.Delivered 12 (reply.Answer [] []))
  unfolding same_stamp same_bucket
  noted_a45 = λ m h. subst (λ (x : Message). NamesShown a44 x ([]) ([])) (some_same (record { version = 1; receiver = 1; body = (plain.Join lane); round = 0 }) m h) (record { rising = tt; held = tt; asked = refl; shown = refl })

  pub live_a45 : IsLegal setting a45
  live_a45 = (live_a44, record { noted = noted_a45; permitted = may_a45; placed = tt; ended = tt })
