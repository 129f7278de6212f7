-- The life of a lane under its second state.
use Rattle.std.proofs.Common.{◌≡◌, ℕ, Bool, true, false, cond, List, [], ◌∷◌, Option, Some, None, refl, sym, ◌∙◌, subst, subst₂, arith, inl, inr, eqb}
use Rattle.std.proofs.lemmas.Bool.Decides.{nat_tests}
use Rattle.lane_journals.specs.Sets.{count_below, count, AtLeast}
use Rattle.lane_journals.specs.Stamps.{Le, newer, is_older, same_stamp}
use Rattle.lane_journals.specs.Buckets.{Bucket, contains, same_bucket, covers, meets, first_child, second_child, Id, same_id, key_of}
use Rattle.lane_journals.specs.Events as plain
use Rattle.lane_journals.specs.Readers.{Acked, round_of, running, Message, store, acceptable, Given, answer, answered_store, active}
use Rattle.lane_journals.specs.Facts.{AnsweredApply, AnsweredAsk, IsRow}
use Rattle.lane_journals.specs.Legal.{Keeper, MayShow, MayUnite, IsIdleRow, Permits}
use Rattle.lane_journals.specs.Pieces.{pieces, MayTake}
use Rattle.lane_journals.specs.States.{state_of}
use Rattle.lane_journals.specs.Meanings.{pick, nodes, content, names, meaning, history}
use Rattle.lane_journals.specs.Naming.{NamesShown, WellNoted}
use Rattle.lane_journals.specs.Places.{IsTarget, Placed}
use Rattle.lane_journals.specs.Endings.{Ended}
use Rattle.lane_journals.specs.KeptJournals.{IsLegal}
use Rattle.journal_examples.specs.Lives.{lane, setting, state_two, stamp_one, stamp_two, stamp_three}
use Rattle.messages.specs.declared.noted.NotedBody.TheVariants as body
use Rattle.messages.specs.declared.noted.NotedReply.TheVariants as reply
use Rattle.messages.specs.declared.decision.Decision.TheVariants as choice
use Rattle.messages.specs.declared.outcome.Outcome.TheVariants as outcome
use Rattle.lane_journals.specs.declared.event.LaneEvent.{LaneEvent}
use Rattle.lane_journals.specs.declared.event.LaneEvent.TheVariants as event
use Rattle.lane_journals.proofs.Order.{Le_refl}
use Rattle.lane_journals.proofs.Ids.{same_id-refl}
use Rattle.journal_examples.proofs.Walking.{EachSent, NumbersBelow, numbers, NotOf, unapplied, GoesTo, applied-to, NotLook, unasked, LinesDone, line-done, idle-done, EachReply, NotNamed, unnamed-yet, NamesOnly}
use Rattle.journal_examples.proofs.LifeFacts.{some_same, same_read, two_2, one_first, has_one_0, enough_1, only_0, is_0, owns2, one_row, one_name, held_one, only_one, first_member, same_deleted, one_left, target-two, small_2, receive_one, shows_one}
use Rattle.journal_examples.proofs.LifeWritten.{a45, live_a45}

module _ (id : Id) (inside : contains lane (key_of id) ≡ true) where
  abbrev base : List LaneEvent
  base = a45 id inside

  live_base : IsLegal setting base
  live_base = live_a45 id inside

  abbrev b1 : List LaneEvent
  b1 = event.Published state_two ∷ base

  may_b1 : Permits 1 (state_of (history b1)) (history base) (meaning base (event.Published state_two))
  unfolding count count_below
  may_b1 = record { newest = λ w h. grind (arith, nat_tests); nodes = λ n. refl; small = small_2; inhabited = (0, refl); few = omega arith }

  placed_b1 : Placed setting base (event.Published state_two)
  placed_b1 = (refl, refl)

  live_b1 : IsLegal setting b1
  live_b1 = (live_base, record { noted = tt; permitted = may_b1; placed = placed_b1; ended = tt })

  done_h2 : LinesDone (history b1) (history b1)
  done_h2 = (refl, (refl, tt))

  abbrev b2 : List LaneEvent
  b2 = event.Heard 0 2 ∷ b1

  may_b2 : Permits 1 (state_of (history b2)) (history b1) (meaning b1 (event.Heard 0 2))
  unfolding same_stamp same_bucket
  may_b2 = record { state = refl; newest = λ w h. grind (arith, nat_tests); newer = λ w h. (let same : 1 ≡ w = cc in omega arith); idle = λ line b f is. line-done (history b1) (history b1) done_h2 line b f }

  live_b2 : IsLegal setting b2
  live_b2 = (live_b1, record { noted = tt; permitted = may_b2; placed = tt; ended = tt })

  below_b13 : NumbersBelow 13 (history b2)
  below_b13 = (omega arith, (omega arith, (omega arith, (omega arith, (omega arith, (omega arith, (omega arith, (omega arith, (omega arith, (omega arith, (omega arith, (omega arith, tt))))))))))))

  abbrev b3 : List LaneEvent
  b3 = event.Sent 13 2 0 0 body.Ask ∷ b2

  may_b3 : Permits 1 (state_of (history b3)) (history b2) (meaning b2 (event.Sent 13 2 0 0 body.Ask))
  unfolding same_stamp same_bucket
  may_b3 = record { greater = λ j m h. numbers (history b2) 13 below_b13 j m h; holder = refl; member = refl; timing = inl refl; carries = refl }

  placed_b3 : Placed setting b2 (event.Sent 13 2 0 0 body.Ask)
  placed_b3 = (owns2 b2 refl, tt)

  live_b3 : IsLegal setting b3
  live_b3 = (live_b2, record { noted = tt; permitted = may_b3; placed = placed_b3; ended = tt })

  abbrev b4 : List LaneEvent
  b4 = event.Delivered 13 (reply.Answer (record { bucket = lane; serial = 2; ready = false } ∷ []) []) ∷ b3

  may_b4 : Permits 1 (state_of (history b4)) (history b3) (meaning b3 (event.Delivered 13 (reply.Answer (record { bucket = lane; serial = 2; ready = false } ∷ []) [])))
  unfolding same_stamp same_bucket
  may_b4 = record { message = (record { version = 2; receiver = 0; body = plain.Ask; round = 0 }); was_sent = refl; runs = refl; reply = record { low = omega arith; has = tt; takes = tt; show = λ b is. cc; show_one = λ i is. cc; fresh = λ c s h w. cc; may_delete = λ b s is. cc } }

  noted_b4 : WellNoted b3 (event.Delivered 13 (reply.Answer (record { bucket = lane; serial = 2; ready = false } ∷ []) []))
  unfolding same_stamp same_bucket covers contains meets first_child second_child
  noted_b4 = λ m h. subst (λ (x : Message). NamesShown b3 x (record { bucket = lane; serial = 2; ready = false } ∷ []) []) (some_same (record { version = 2; receiver = 0; body = plain.Ask; round = 0 }) m h) (record { rising = tt; held = tt; asked = refl; shown = shows_one 2 (λ b. true) refl })

  live_b4 : IsLegal setting b4
  live_b4 = (live_b3, record { noted = noted_b4; permitted = may_b4; placed = tt; ended = tt })

  abbrev b5 : List LaneEvent
  b5 = event.Returned 13 ∷ b4

  may_b5 : Permits 1 (state_of (history b5)) (history b4) (meaning b4 (event.Returned 13))
  unfolding same_stamp same_bucket
  may_b5 = record { once = refl; reply = plain.Answer (content b3 ([])) (names (record { bucket = lane; serial = 2; ready = false } ∷ [])); replied = refl }

  live_b5 : IsLegal setting b5
  live_b5 = (live_b4, record { noted = tt; permitted = may_b5; placed = tt; ended = tt })

  below_b14 : NumbersBelow 14 (history b5)
  below_b14 = (omega arith, (omega arith, (omega arith, (omega arith, (omega arith, (omega arith, (omega arith, (omega arith, (omega arith, (omega arith, (omega arith, (omega arith, (omega arith, tt)))))))))))))

  abbrev b6 : List LaneEvent
  b6 = event.Sent 14 2 0 1 body.Ask ∷ b5

  may_b6 : Permits 1 (state_of (history b6)) (history b5) (meaning b5 (event.Sent 14 2 0 1 body.Ask))
  unfolding same_stamp same_bucket
  may_b6 = record { greater = λ j m h. numbers (history b5) 14 below_b14 j m h; holder = refl; member = refl; timing = inl refl; carries = refl }

  placed_b6 : Placed setting b5 (event.Sent 14 2 0 1 body.Ask)
  placed_b6 = (owns2 b5 refl, tt)

  live_b6 : IsLegal setting b6
  live_b6 = (live_b5, record { noted = tt; permitted = may_b6; placed = placed_b6; ended = tt })

  abbrev b7 : List LaneEvent
  b7 = event.Delivered 14 (reply.Answer (record { bucket = lane; serial = 4; ready = false } ∷ []) []) ∷ b6

  may_b7 : Permits 1 (state_of (history b7)) (history b6) (meaning b6 (event.Delivered 14 (reply.Answer (record { bucket = lane; serial = 4; ready = false } ∷ []) [])))
  unfolding same_stamp same_bucket
  may_b7 = record { message = (record { version = 2; receiver = 1; body = plain.Ask; round = 0 }); was_sent = refl; runs = refl; reply = record { low = omega arith; has = tt; takes = tt; show = λ b is. cc; show_one = λ i is. cc; fresh = λ c s h w. cc; may_delete = λ b s is. cc } }

  noted_b7 : WellNoted b6 (event.Delivered 14 (reply.Answer (record { bucket = lane; serial = 4; ready = false } ∷ []) []))
  unfolding same_stamp same_bucket covers contains meets first_child second_child
  noted_b7 = λ m h. subst (λ (x : Message). NamesShown b6 x (record { bucket = lane; serial = 4; ready = false } ∷ []) []) (some_same (record { version = 2; receiver = 1; body = plain.Ask; round = 0 }) m h) (record { rising = tt; held = tt; asked = refl; shown = shows_one 4 (λ b. true) refl })

  live_b7 : IsLegal setting b7
  live_b7 = (live_b6, record { noted = noted_b7; permitted = may_b7; placed = tt; ended = tt })

  abbrev b8 : List LaneEvent
  b8 = event.Returned 14 ∷ b7

  may_b8 : Permits 1 (state_of (history b8)) (history b7) (meaning b7 (event.Returned 14))
  unfolding same_stamp same_bucket
  may_b8 = record { once = refl; reply = plain.Answer (content b6 ([])) (names (record { bucket = lane; serial = 4; ready = false } ∷ [])); replied = refl }

  live_b8 : IsLegal setting b8
  live_b8 = (live_b7, record { noted = tt; permitted = may_b8; placed = tt; ended = tt })

  all_b2 : (n : ℕ) → state_of (history b8) 2 n ≡ true → AnsweredAsk 2 n (history b8)
  unfolding same_stamp same_bucket
  all_b2 n h = elim (two_2 n h) [
    | inl is ↦ subst (λ (i : ℕ). AnsweredAsk 2 i (history b8)) (sym is) (record { number = 13; message = (record { version = 2; receiver = 0; body = plain.Ask; round = 0 }); content = (content b3 ([])); names = (names (record { bucket = lane; serial = 2; ready = false } ∷ [])); was_sent = refl; receiver = refl; version = refl; body = refl; reply = refl; back = refl })
    | inr is ↦ subst (λ (i : ℕ). AnsweredAsk 2 i (history b8)) (sym is) (record { number = 14; message = (record { version = 2; receiver = 1; body = plain.Ask; round = 0 }); content = (content b6 ([])); names = (names (record { bucket = lane; serial = 4; ready = false } ∷ [])); was_sent = refl; receiver = refl; version = refl; body = refl; reply = refl; back = refl })
  ]

  only_b2 : EachReply (NamesOnly lane) (history b8)
  only_b2 = ((λ c s. one_name c s 4), ((λ c s. one_name c s 2), ((λ c s h. cc), ((λ c s h. cc), ((λ c s h. cc), ((λ c s h. cc), ((λ c s h. cc), ((λ c s h. cc), ((λ c s h. cc), ((λ c s h. cc), ((λ c s h. cc), ((λ c s h. cc), tt))))))))))))

  abbrev b9 : List LaneEvent
  b9 = event.Opened 0 2 (lane ∷ []) ∷ b8

  may_b9 : Permits 1 (state_of (history b9)) (history b8) (meaning b8 (event.Opened 0 2 (lane ∷ [])))
  unfolding same_stamp same_bucket
  may_b9 = record { holder = refl; parted = (omega arith, (λ key h. refl), tt); once = refl; all = all_b2; state = refl }

  placed_b9 : Placed setting b8 (event.Opened 0 2 (lane ∷ []))
  placed_b9 = (owns2 b8 refl, one_row b8 2 only_b2)

  live_b9 : IsLegal setting b9
  live_b9 = (live_b8, record { noted = tt; permitted = may_b9; placed = placed_b9; ended = tt })

  abbrev b10 : List LaneEvent
  b10 = event.Delivered 8 (reply.Newer 2) ∷ b9

  may_b10 : Permits 1 (state_of (history b10)) (history b9) (meaning b9 (event.Delivered 8 (reply.Newer 2)))
  unfolding same_stamp same_bucket
  may_b10 = record { message = (record { version = 1; receiver = 1; body = (plain.Store id stamp_one); round = 0 }); was_sent = refl; runs = refl; reply = (omega arith, refl) }

  live_b10 : IsLegal setting b10
  live_b10 = (live_b9, record { noted = tt; permitted = may_b10; placed = tt; ended = tt })

  row_r2 : IsRow 2 lane (history b10)
  row_r2 = record { fits = omega arith; opened = refl; row = λ key h. rw h refl }

  done_r2 : LinesDone (history b10) (history b10)
  done_r2 = (refl, (refl, tt))

  quiet_r2 : IsIdleRow 2 lane (history b10)
  unfolding same_stamp same_bucket
  quiet_r2 = record { row = row_r2; no_round = refl; idle = idle-done (history b10) done_r2 2 lane }

  abbrev b11 : List LaneEvent
  b11 = event.Decided 0 2 (choice.RoundBegun lane 1) ∷ b10

  may_b11 : Permits 1 (state_of (history b11)) (history b10) (meaning b10 (event.Decided 0 2 (choice.RoundBegun lane 1)))
  unfolding same_stamp same_bucket
  may_b11 = (refl, quiet_r2)

  placed_b11 : Placed setting b10 (event.Decided 0 2 (choice.RoundBegun lane 1))
  placed_b11 = (owns2 b10 refl, receive_one b10 refl (λ key. refl))

  live_b11 : IsLegal setting b11
  live_b11 = (live_b10, record { noted = tt; permitted = may_b11; placed = placed_b11; ended = tt })

  none_b15 : EachSent (NotOf 2 1) (history b11)
  unfolding same_stamp same_bucket
  none_b15 = ((λ b u e f g. cc), ((λ b u e f g. cc), ((λ b u e f g. cc), ((λ b u e f g. cc), ((λ b u e f g. cc), ((λ b u e f g. cc), ((λ b u e f g. cc), ((λ b u e f g. cc), ((λ b u e f g. (let x : 1 ≡ 2 = f in omega arith)), ((λ b u e f g. (let x : 1 ≡ 2 = f in omega arith)), ((λ b u e f g. cc), ((λ b u e f g. cc), ((λ b u e f g. cc), ((λ b u e f g. cc), tt))))))))))))))

  below_b15 : NumbersBelow 15 (history b11)
  below_b15 = (omega arith, (omega arith, (omega arith, (omega arith, (omega arith, (omega arith, (omega arith, (omega arith, (omega arith, (omega arith, (omega arith, (omega arith, (omega arith, (omega arith, tt))))))))))))))

  abbrev b12 : List LaneEvent
  b12 = event.Sent 15 2 0 0 (body.Read lane None) ∷ b11

  may_b12 : Permits 1 (state_of (history b12)) (history b11) (meaning b11 (event.Sent 15 2 0 0 (body.Read lane None)))
  unfolding same_stamp same_bucket
  may_b12 = record { greater = λ j m h. numbers (history b11) 15 below_b15 j m h; holder = refl; member = refl; timing = inr refl; carries = record { under_way = refl; first = λ m u a. unapplied (history b11) 2 1 none_b15 m lane u a } }

  placed_b12 : Placed setting b11 (event.Sent 15 2 0 0 (body.Read lane None))
  placed_b12 = (owns2 b11 refl, tt)

  live_b12 : IsLegal setting b12
  live_b12 = (live_b11, record { noted = tt; permitted = may_b12; placed = placed_b12; ended = tt })

  unnamed_b15 : EachReply (NotNamed (history b12) 0) (history b12)
  unfolding same_stamp same_bucket
  unnamed_b15 = (tt, (inr ((record { version = 2; receiver = 1; body = plain.Ask; round = 0 }), refl, inl refl), (inr ((record { version = 2; receiver = 0; body = plain.Ask; round = 0 }), refl, inl refl), (inl (λ c s. refl), (inl (λ c s. refl), (inl (λ c s. refl), (inl (λ c s. refl), (inl (λ c s. refl), (inl (λ c s. refl), (inl (λ c s. refl), (inl (λ c s. refl), (inl (λ c s. refl), (inl (λ c s. refl), tt)))))))))))))

  shows_b15 : MayShow (history b12) 0 lane (record { content = content b12 (stamp_two ∷ []); names = names (record { bucket = lane; serial = 2; ready = false } ∷ []) })
  unfolding same_stamp
  shows_b15 = record { content = λ i h. held_one (same_id id i) (contains lane (key_of i)); only = λ i h. only_one id inside i h; serial = λ c s has u q d h shown had. absurd (unnamed-yet (history b12) 0 unnamed_b15 u q d h c s shown had) }

  held_15 : store 0 id (history b12) ≡ Some stamp_two
  unfolding same_stamp newer is_older
  held_15 = rw (same_id-refl id, inside) refl

  abbrev b13 : List LaneEvent
  b13 = event.Delivered 15 (reply.Answer (record { bucket = lane; serial = 2; ready = false } ∷ []) (stamp_two ∷ [])) ∷ b12

  may_b13 : Permits 1 (state_of (history b13)) (history b12) (meaning b12 (event.Delivered 15 (reply.Answer (record { bucket = lane; serial = 2; ready = false } ∷ []) (stamp_two ∷ []))))
  unfolding same_stamp same_bucket
  may_b13 = record { message = (record { version = 2; receiver = 0; body = (plain.Read lane); round = 1 }); was_sent = refl; runs = refl; reply = record { low = omega arith; has = tt; takes = tt; show = λ b is. subst (λ (x : Bucket). MayShow (history b12) 0 x (record { content = content b12 (stamp_two ∷ []); names = names (record { bucket = lane; serial = 2; ready = false } ∷ []) })) (same_read lane b is) shows_b15; show_one = λ i is. cc; fresh = λ c s h w. rw h refl; may_delete = λ b s is. cc } }

  noted_b13 : WellNoted b12 (event.Delivered 15 (reply.Answer (record { bucket = lane; serial = 2; ready = false } ∷ []) (stamp_two ∷ [])))
  unfolding same_stamp same_bucket covers contains meets first_child second_child
  noted_b13 = λ m h. subst (λ (x : Message). NamesShown b12 x (record { bucket = lane; serial = 2; ready = false } ∷ []) (stamp_two ∷ [])) (some_same (record { version = 2; receiver = 0; body = (plain.Read lane); round = 1 }) m h) (record { rising = tt; held = (record { id = id; wrote = refl; holds = held_15 }, tt); asked = tt; shown = shows_one 2 (λ c. meets lane c) refl })

  live_b13 : IsLegal setting b13
  live_b13 = (live_b12, record { noted = noted_b13; permitted = may_b13; placed = tt; ended = tt })

  abbrev b14 : List LaneEvent
  b14 = event.Returned 15 ∷ b13

  may_b14 : Permits 1 (state_of (history b14)) (history b13) (meaning b13 (event.Returned 15))
  unfolding same_stamp same_bucket
  may_b14 = record { once = refl; reply = plain.Answer (content b12 (stamp_two ∷ [])) (names (record { bucket = lane; serial = 2; ready = false } ∷ [])); replied = refl }

  live_b14 : IsLegal setting b14
  live_b14 = (live_b13, record { noted = tt; permitted = may_b14; placed = tt; ended = tt })

  none_b16 : EachSent (NotOf 2 1) (history b14)
  unfolding same_stamp same_bucket
  none_b16 = ((λ b u e f g. cc), ((λ b u e f g. cc), ((λ b u e f g. cc), ((λ b u e f g. cc), ((λ b u e f g. cc), ((λ b u e f g. cc), ((λ b u e f g. cc), ((λ b u e f g. cc), ((λ b u e f g. cc), ((λ b u e f g. (let x : 1 ≡ 2 = f in omega arith)), ((λ b u e f g. (let x : 1 ≡ 2 = f in omega arith)), ((λ b u e f g. cc), ((λ b u e f g. cc), ((λ b u e f g. cc), ((λ b u e f g. cc), tt)))))))))))))))

  below_b16 : NumbersBelow 16 (history b14)
  below_b16 = (omega arith, (omega arith, (omega arith, (omega arith, (omega arith, (omega arith, (omega arith, (omega arith, (omega arith, (omega arith, (omega arith, (omega arith, (omega arith, (omega arith, (omega arith, tt)))))))))))))))

  abbrev b15 : List LaneEvent
  b15 = event.Sent 16 2 0 1 (body.Read lane None) ∷ b14

  may_b15 : Permits 1 (state_of (history b15)) (history b14) (meaning b14 (event.Sent 16 2 0 1 (body.Read lane None)))
  unfolding same_stamp same_bucket
  may_b15 = record { greater = λ j m h. numbers (history b14) 16 below_b16 j m h; holder = refl; member = refl; timing = inr refl; carries = record { under_way = refl; first = λ m u a. unapplied (history b14) 2 1 none_b16 m lane u a } }

  placed_b15 : Placed setting b14 (event.Sent 16 2 0 1 (body.Read lane None))
  placed_b15 = (owns2 b14 refl, tt)

  live_b15 : IsLegal setting b15
  live_b15 = (live_b14, record { noted = tt; permitted = may_b15; placed = placed_b15; ended = tt })

  unnamed_b16 : EachReply (NotNamed (history b15) 1) (history b15)
  unfolding same_stamp same_bucket
  unnamed_b16 = (inr ((record { version = 2; receiver = 0; body = (plain.Read lane); round = 1 }), refl, inr refl), (tt, (inr ((record { version = 2; receiver = 1; body = plain.Ask; round = 0 }), refl, inl refl), (inr ((record { version = 2; receiver = 0; body = plain.Ask; round = 0 }), refl, inl refl), (inl (λ c s. refl), (inl (λ c s. refl), (inl (λ c s. refl), (inl (λ c s. refl), (inl (λ c s. refl), (inl (λ c s. refl), (inl (λ c s. refl), (inl (λ c s. refl), (inl (λ c s. refl), (inl (λ c s. refl), tt))))))))))))))

  shows_b16 : MayShow (history b15) 1 lane (record { content = content b15 (stamp_two ∷ []); names = names (record { bucket = lane; serial = 4; ready = false } ∷ []) })
  unfolding same_stamp
  shows_b16 = record { content = λ i h. held_one (same_id id i) (contains lane (key_of i)); only = λ i h. only_one id inside i h; serial = λ c s has u q d h shown had. absurd (unnamed-yet (history b15) 1 unnamed_b16 u q d h c s shown had) }

  held_16 : store 1 id (history b15) ≡ Some stamp_two
  unfolding same_stamp newer is_older
  held_16 = rw (same_id-refl id, inside) refl

  abbrev b16 : List LaneEvent
  b16 = event.Delivered 16 (reply.Answer (record { bucket = lane; serial = 4; ready = false } ∷ []) (stamp_two ∷ [])) ∷ b15

  may_b16 : Permits 1 (state_of (history b16)) (history b15) (meaning b15 (event.Delivered 16 (reply.Answer (record { bucket = lane; serial = 4; ready = false } ∷ []) (stamp_two ∷ []))))
  unfolding same_stamp same_bucket
  may_b16 = record { message = (record { version = 2; receiver = 1; body = (plain.Read lane); round = 1 }); was_sent = refl; runs = refl; reply = record { low = omega arith; has = tt; takes = tt; show = λ b is. subst (λ (x : Bucket). MayShow (history b15) 1 x (record { content = content b15 (stamp_two ∷ []); names = names (record { bucket = lane; serial = 4; ready = false } ∷ []) })) (same_read lane b is) shows_b16; show_one = λ i is. cc; fresh = λ c s h w. rw h refl; may_delete = λ b s is. cc } }

  noted_b16 : WellNoted b15 (event.Delivered 16 (reply.Answer (record { bucket = lane; serial = 4; ready = false } ∷ []) (stamp_two ∷ [])))
  unfolding same_stamp same_bucket covers contains meets first_child second_child
  noted_b16 = λ m h. subst (λ (x : Message). NamesShown b15 x (record { bucket = lane; serial = 4; ready = false } ∷ []) (stamp_two ∷ [])) (some_same (record { version = 2; receiver = 1; body = (plain.Read lane); round = 1 }) m h) (record { rising = tt; held = (record { id = id; wrote = refl; holds = held_16 }, tt); asked = tt; shown = shows_one 4 (λ c. meets lane c) refl })

  live_b16 : IsLegal setting b16
  live_b16 = (live_b15, record { noted = noted_b16; permitted = may_b16; placed = tt; ended = tt })

  abbrev b17 : List LaneEvent
  b17 = event.Returned 16 ∷ b16

  may_b17 : Permits 1 (state_of (history b17)) (history b16) (meaning b16 (event.Returned 16))
  unfolding same_stamp same_bucket
  may_b17 = record { once = refl; reply = plain.Answer (content b15 (stamp_two ∷ [])) (names (record { bucket = lane; serial = 4; ready = false } ∷ [])); replied = refl }

  live_b17 : IsLegal setting b17
  live_b17 = (live_b16, record { noted = tt; permitted = may_b17; placed = tt; ended = tt })

  newest_17 : pick b17 id (stamp_two ∷ []) ≡ Some stamp_two
  unfolding same_stamp newer
  newest_17 = rw (same_id-refl id) refl

  unites_b17 : MayUnite (state_of (history b17)) (history b17) 2 lane (content b17 (stamp_two ∷ []))
  unfolding same_stamp same_bucket
  unites_b17 = record {
    under_way = refl;
    covers = λ m h. elim (two_2 m h) [
      | inl is ↦ subst (λ (m : ℕ). (g : Given) × (answer 2 (round_of 2 lane (history b17)) m (history b17) ≡ Some g) × ((i : Id) → Le (g.content i) ((content b17 (stamp_two ∷ [])) i))) (sym is) ((record { content = (content b12 (stamp_two ∷ [])); names = (names (record { bucket = lane; serial = 2; ready = false } ∷ [])) }), refl, λ i. Le_refl _)
      | inr is ↦ subst (λ (m : ℕ). (g : Given) × (answer 2 (round_of 2 lane (history b17)) m (history b17) ≡ Some g) × ((i : Id) → Le (g.content i) ((content b17 (stamp_two ∷ [])) i))) (sym is) ((record { content = (content b15 (stamp_two ∷ [])); names = (names (record { bucket = lane; serial = 4; ready = false } ∷ [])) }), refl, λ i. Le_refl _)
    ];
    attained = λ i s h. (0, (record { content = (content b12 (stamp_two ∷ [])); names = (names (record { bucket = lane; serial = 2; ready = false } ∷ [])) }), refl, h);
  }

  below_b17 : NumbersBelow 17 (history b17)
  below_b17 = (omega arith, (omega arith, (omega arith, (omega arith, (omega arith, (omega arith, (omega arith, (omega arith, (omega arith, (omega arith, (omega arith, (omega arith, (omega arith, (omega arith, (omega arith, (omega arith, tt))))))))))))))))

  abbrev b18 : List LaneEvent
  b18 = event.Sent 17 2 0 0 (body.Apply lane (stamp_two ∷ [])) ∷ b17

  may_b18 : Permits 1 (state_of (history b18)) (history b17) (meaning b17 (event.Sent 17 2 0 0 (body.Apply lane (stamp_two ∷ []))))
  unfolding same_stamp same_bucket
  may_b18 = record { greater = λ j m h. numbers (history b17) 17 below_b17 j m h; holder = refl; member = refl; timing = inr refl; carries = unites_b17 }

  noted_b18 : WellNoted b17 (event.Sent 17 2 0 0 (body.Apply lane (stamp_two ∷ [])))
  unfolding same_stamp
  noted_b18 = (tt, (record { id = id; wrote = refl; newest = newest_17 }, tt))

  placed_b18 : Placed setting b17 (event.Sent 17 2 0 0 (body.Apply lane (stamp_two ∷ [])))
  unfolding same_bucket
  placed_b18 = (owns2 b17 refl, (1, refl, has_one_0))

  live_b18 : IsLegal setting b18
  live_b18 = (live_b17, record { noted = noted_b18; permitted = may_b18; placed = placed_b18; ended = tt })

  abbrev b19 : List LaneEvent
  b19 = event.Delivered 17 (reply.Answer [] []) ∷ b18

  may_b19 : Permits 1 (state_of (history b19)) (history b18) (meaning b18 (event.Delivered 17 (reply.Answer [] [])))
  unfolding same_stamp same_bucket
  may_b19 = record { message = (record { version = 2; receiver = 0; body = (plain.Apply lane (content b17 (stamp_two ∷ []))); round = 1 }); was_sent = refl; runs = refl; reply = record { low = omega arith; has = tt; takes = tt; show = λ b is. cc; show_one = λ i is. cc; fresh = λ c s h w. cc; may_delete = λ b s is. cc } }

  noted_b19 : WellNoted b18 (event.Delivered 17 (reply.Answer [] []))
  unfolding same_stamp same_bucket
  noted_b19 = λ m h. subst (λ (x : Message). NamesShown b18 x ([]) ([])) (some_same (record { version = 2; receiver = 0; body = (plain.Apply lane (content b17 (stamp_two ∷ []))); round = 1 }) m h) (record { rising = tt; held = tt; asked = refl; shown = refl })

  live_b19 : IsLegal setting b19
  live_b19 = (live_b18, record { noted = noted_b19; permitted = may_b19; placed = tt; ended = tt })

  abbrev b20 : List LaneEvent
  b20 = event.Returned 17 ∷ b19

  may_b20 : Permits 1 (state_of (history b20)) (history b19) (meaning b19 (event.Returned 17))
  unfolding same_stamp same_bucket
  may_b20 = record { once = refl; reply = plain.Answer (content b18 ([])) (names ([])); replied = refl }

  live_b20 : IsLegal setting b20
  live_b20 = (live_b19, record { noted = tt; permitted = may_b20; placed = tt; ended = tt })

  to_e2 : EachSent (GoesTo 2 1 (nodes 1)) (history b20)
  unfolding same_stamp same_bucket
  to_e2 = ((λ b u e f g. has_one_0), ((λ b u e f g. cc), ((λ b u e f g. cc), ((λ b u e f g. cc), ((λ b u e f g. cc), ((λ b u e f g. cc), ((λ b u e f g. cc), ((λ b u e f g. cc), ((λ b u e f g. cc), ((λ b u e f g. cc), ((λ b u e f g. cc), ((λ b u e f g. absurd (let x : 1 ≡ 2 = f in omega arith)), ((λ b u e f g. absurd (let x : 1 ≡ 2 = f in omega arith)), ((λ b u e f g. cc), ((λ b u e f g. cc), ((λ b u e f g. cc), ((λ b u e f g. cc), tt)))))))))))))))))

  done_e2 : LinesDone (history b20) (history b20)
  done_e2 = (refl, (refl, tt))

  took_e2 : (n : ℕ) → nodes 1 n ≡ true → AnsweredApply 2 1 n lane (history b20)
  unfolding same_stamp same_bucket
  took_e2 n h = subst (λ (i : ℕ). AnsweredApply 2 1 i lane (history b20)) (sym (one_first n h)) (record { union = (content b17 (stamp_two ∷ [])); number = 17; message = (record { version = 2; receiver = 0; body = (plain.Apply lane (content b17 (stamp_two ∷ []))); round = 1 }); content = (content b18 ([])); names = (names ([])); was_sent = refl; receiver = refl; version = refl; body = refl; reply = refl; back = refl; round = refl })

  abbrev b21 : List LaneEvent
  b21 = event.Decided 0 2 (choice.RoundEnded lane 1) ∷ b20

  may_b21 : Permits 1 (state_of (history b21)) (history b20) (meaning b20 (event.Decided 0 2 (choice.RoundEnded lane 1)))
  unfolding same_stamp same_bucket
  may_b21 = (refl, record { under_way = refl; idle = idle-done (history b20) done_e2 2 lane; answered = took_e2; whole = λ n a. applied-to (history b20) 2 1 (nodes 1) to_e2 n lane a })

  placed_b21 : Placed setting b20 (event.Decided 0 2 (choice.RoundEnded lane 1))
  placed_b21 = (owns2 b20 refl, tt)

  live_b21 : IsLegal setting b21
  live_b21 = (live_b20, record { noted = tt; permitted = may_b21; placed = placed_b21; ended = tt })

  row_y2 : IsRow 2 lane (history b21)
  row_y2 = record { fits = omega arith; opened = refl; row = λ key h. rw h refl }

  below_b18 : NumbersBelow 18 (history b21)
  below_b18 = (omega arith, (omega arith, (omega arith, (omega arith, (omega arith, (omega arith, (omega arith, (omega arith, (omega arith, (omega arith, (omega arith, (omega arith, (omega arith, (omega arith, (omega arith, (omega arith, (omega arith, tt)))))))))))))))))

  abbrev b22 : List LaneEvent
  b22 = event.Sent 18 2 0 0 (body.Ready lane) ∷ b21

  may_b22 : Permits 1 (state_of (history b22)) (history b21) (meaning b21 (event.Sent 18 2 0 0 (body.Ready lane)))
  unfolding same_stamp same_bucket
  may_b22 = record { greater = λ j m h. numbers (history b21) 18 below_b18 j m h; holder = refl; member = refl; timing = inr refl; carries = tt }

  placed_b22 : Placed setting b21 (event.Sent 18 2 0 0 (body.Ready lane))
  placed_b22 = (owns2 b21 refl, inl row_y2)

  live_b22 : IsLegal setting b22
  live_b22 = (live_b21, record { noted = tt; permitted = may_b22; placed = placed_b22; ended = tt })

  takes_b18 : MayTake (pieces 0 (history b22)) (plain.Ready lane)
  unfolding contains same_stamp same_bucket covers meets first_child second_child
  takes_b18 = refl

  abbrev b23 : List LaneEvent
  b23 = event.Delivered 18 (reply.Answer [] []) ∷ b22

  may_b23 : Permits 1 (state_of (history b23)) (history b22) (meaning b22 (event.Delivered 18 (reply.Answer [] [])))
  unfolding same_stamp same_bucket
  may_b23 = record { message = (record { version = 2; receiver = 0; body = (plain.Ready lane); round = 0 }); was_sent = refl; runs = refl; reply = record { low = omega arith; has = tt; takes = takes_b18; show = λ b is. cc; show_one = λ i is. cc; fresh = λ c s h w. cc; may_delete = λ b s is. cc } }

  noted_b23 : WellNoted b22 (event.Delivered 18 (reply.Answer [] []))
  unfolding same_stamp same_bucket
  noted_b23 = λ m h. subst (λ (x : Message). NamesShown b22 x ([]) ([])) (some_same (record { version = 2; receiver = 0; body = (plain.Ready lane); round = 0 }) m h) (record { rising = tt; held = tt; asked = refl; shown = refl })

  live_b23 : IsLegal setting b23
  live_b23 = (live_b22, record { noted = noted_b23; permitted = may_b23; placed = tt; ended = tt })

  abbrev b24 : List LaneEvent
  b24 = event.Returned 18 ∷ b23

  may_b24 : Permits 1 (state_of (history b24)) (history b23) (meaning b23 (event.Returned 18))
  unfolding same_stamp same_bucket
  may_b24 = record { once = refl; reply = plain.Answer (content b22 ([])) (names ([])); replied = refl }

  live_b24 : IsLegal setting b24
  live_b24 = (live_b23, record { noted = tt; permitted = may_b24; placed = tt; ended = tt })

  row_a2 : IsRow 2 lane (history b24)
  row_a2 = record { fits = omega arith; opened = refl; row = λ key h. rw h refl }

  done_a2 : LinesDone (history b24) (history b24)
  done_a2 = (refl, (refl, tt))

  quiet_a2 : IsIdleRow 2 lane (history b24)
  unfolding same_stamp same_bucket
  quiet_a2 = record { row = row_a2; no_round = refl; idle = idle-done (history b24) done_a2 2 lane }

  abbrev b25 : List LaneEvent
  b25 = event.Decided 0 2 (choice.ActiveOn lane 0) ∷ b24

  may_b25 : Permits 1 (state_of (history b25)) (history b24) (meaning b24 (event.Decided 0 2 (choice.ActiveOn lane 0)))
  unfolding same_stamp same_bucket
  may_b25 = (refl, record { quiet = quiet_a2; undecided = λ key h. refl; member = λ key h. rw (h, has_one_0) refl })

  placed_b25 : Placed setting b24 (event.Decided 0 2 (choice.ActiveOn lane 0))
  unfolding same_stamp same_bucket
  placed_b25 = (owns2 b24 refl, (record { number = 18; message = (record { version = 2; receiver = 0; body = (plain.Ready lane); round = 0 }); content = (content b22 ([])); names = (names ([])); was_sent = refl; receiver = refl; version = refl; body = refl; reply = refl; back = refl }, first_member b24 refl))

  pub live_b25 : IsLegal setting b25
  live_b25 = (live_b24, record { noted = tt; permitted = may_b25; placed = placed_b25; ended = tt })

  row_t2 : IsRow 2 lane (history b25)
  row_t2 = record { fits = omega arith; opened = refl; row = λ key h. rw h refl }

  below_b19 : NumbersBelow 19 (history b25)
  below_b19 = (omega arith, (omega arith, (omega arith, (omega arith, (omega arith, (omega arith, (omega arith, (omega arith, (omega arith, (omega arith, (omega arith, (omega arith, (omega arith, (omega arith, (omega arith, (omega arith, (omega arith, (omega arith, tt))))))))))))))))))

  abbrev b26 : List LaneEvent
  b26 = event.Sent 19 2 0 0 (body.Activate lane) ∷ b25

  may_b26 : Permits 1 (state_of (history b26)) (history b25) (meaning b25 (event.Sent 19 2 0 0 (body.Activate lane)))
  unfolding same_stamp same_bucket
  may_b26 = record { greater = λ j m h. numbers (history b25) 19 below_b19 j m h; holder = refl; member = refl; timing = inr refl; carries = (row_t2, λ key h. rw h refl) }

  placed_b26 : Placed setting b25 (event.Sent 19 2 0 0 (body.Activate lane))
  placed_b26 = (owns2 b25 refl, tt)

  live_b26 : IsLegal setting b26
  live_b26 = (live_b25, record { noted = tt; permitted = may_b26; placed = placed_b26; ended = tt })

  takes_b19 : MayTake (pieces 0 (history b26)) (plain.Activate lane)
  unfolding contains same_stamp same_bucket covers meets first_child second_child
  takes_b19 = refl

  abbrev b27 : List LaneEvent
  b27 = event.Delivered 19 (reply.Answer [] []) ∷ b26

  may_b27 : Permits 1 (state_of (history b27)) (history b26) (meaning b26 (event.Delivered 19 (reply.Answer [] [])))
  unfolding same_stamp same_bucket
  may_b27 = record { message = (record { version = 2; receiver = 0; body = (plain.Activate lane); round = 0 }); was_sent = refl; runs = refl; reply = record { low = omega arith; has = tt; takes = takes_b19; show = λ b is. cc; show_one = λ i is. cc; fresh = λ c s h w. cc; may_delete = λ b s is. cc } }

  noted_b27 : WellNoted b26 (event.Delivered 19 (reply.Answer [] []))
  unfolding same_stamp same_bucket
  noted_b27 = λ m h. subst (λ (x : Message). NamesShown b26 x ([]) ([])) (some_same (record { version = 2; receiver = 0; body = (plain.Activate lane); round = 0 }) m h) (record { rising = tt; held = tt; asked = refl; shown = refl })

  live_b27 : IsLegal setting b27
  live_b27 = (live_b26, record { noted = noted_b27; permitted = may_b27; placed = tt; ended = tt })

  row_d2 : IsRow 2 lane (history b27)
  row_d2 = record { fits = omega arith; opened = refl; row = λ key h. rw h refl }

  done_d2 : LinesDone (history b27) (history b27)
  done_d2 = (refl, (refl, tt))

  quiet_d2 : IsIdleRow 2 lane (history b27)
  unfolding same_stamp same_bucket
  quiet_d2 = record { row = row_d2; no_round = refl; idle = idle-done (history b27) done_d2 2 lane }

  took_17 : AnsweredApply 2 (round_of 2 lane (history b27)) 0 lane (history b27)
  unfolding same_stamp same_bucket
  took_17 = record { union = (content b17 (stamp_two ∷ [])); number = 17; message = (record { version = 2; receiver = 0; body = (plain.Apply lane (content b17 (stamp_two ∷ []))); round = 1 }); content = (content b18 ([])); names = (names ([])); was_sent = refl; receiver = refl; version = refl; body = refl; reply = refl; back = refl; round = refl }

  keeps_17 : (m : ℕ) → only_0 m ≡ true → Keeper 2 (round_of 2 lane (history b27)) 1 m lane (history b27)
  keeps_17 m h = subst (λ (i : ℕ). Keeper 2 (round_of 2 lane (history b27)) 1 i lane (history b27)) (sym (is_0 m h)) (record { other = λ e. omega arith; member = λ key i. rw (i, has_one_0) refl; answered = took_17 })

  keepers_d2 : AtLeast 1 (λ m. Keeper 2 (round_of 2 lane (history b27)) 1 m lane (history b27))
  unfolding count count_below
  keepers_d2 = (only_0, omega arith, keeps_17)

  not_active : (key : ℕ) → contains lane key ≡ true → active 2 key (history b27) ≡ Some 1 → ⊥
  not_active key h a = let x : ◌≡◌ {A = Option ℕ} (Some 0) (Some 1) = (rw h at a) in cc

  no_target : IsTarget setting b27 2 lane 1 → ⊥
  no_target (inl a) = absurd (let x = target-two b27 refl lane 1 a in omega arith)
  no_target (inr a) = not_active (key_of id) inside (a (key_of id) inside)

  abbrev b28 : List LaneEvent
  b28 = event.Decided 0 2 (choice.DeleteFrom lane 1 4) ∷ b27

  may_b28 : Permits 1 (state_of (history b28)) (history b27) (meaning b27 (event.Decided 0 2 (choice.DeleteFrom lane 1 4)))
  unfolding same_stamp same_bucket
  may_b28 = (refl, record { quiet = quiet_d2; none = λ key h. refl; inactive = not_active; given = (record { content = (content b15 (stamp_two ∷ [])); names = (names (record { bucket = lane; serial = 4; ready = false } ∷ [])) }); read = refl; named = refl; keepers = keepers_d2 })

  placed_b28 : Placed setting b27 (event.Decided 0 2 (choice.DeleteFrom lane 1 4))
  placed_b28 = (owns2 b27 refl, no_target)

  live_b28 : IsLegal setting b28
  live_b28 = (live_b27, record { noted = tt; permitted = may_b28; placed = placed_b28; ended = tt })

  below_b20 : NumbersBelow 20 (history b28)
  below_b20 = (omega arith, (omega arith, (omega arith, (omega arith, (omega arith, (omega arith, (omega arith, (omega arith, (omega arith, (omega arith, (omega arith, (omega arith, (omega arith, (omega arith, (omega arith, (omega arith, (omega arith, (omega arith, (omega arith, tt)))))))))))))))))))

  abbrev b29 : List LaneEvent
  b29 = event.Sent 20 2 0 1 (body.Delete lane 4) ∷ b28

  may_b29 : Permits 1 (state_of (history b29)) (history b28) (meaning b28 (event.Sent 20 2 0 1 (body.Delete lane 4)))
  unfolding same_stamp same_bucket
  may_b29 = record { greater = λ j m h. numbers (history b28) 20 below_b20 j m h; holder = refl; member = refl; timing = inr refl; carries = (key_of id, rw inside refl) }

  placed_b29 : Placed setting b28 (event.Sent 20 2 0 1 (body.Delete lane 4))
  placed_b29 = (owns2 b28 refl, tt)

  live_b29 : IsLegal setting b29
  live_b29 = (live_b28, record { noted = tt; permitted = may_b29; placed = placed_b29; ended = tt })

  may_drop : acceptable 1 lane 4 (history b29) ≡ true
  unfolding same_stamp same_bucket
  may_drop = refl

  had_it : store 1 id (history b29) ≡ Some stamp_two
  unfolding same_stamp newer is_older
  had_it = rw (same_id-refl id, inside) refl

  takes_b20 : MayTake (pieces 1 (history b29)) (plain.Delete lane 4)
  unfolding contains same_stamp same_bucket covers meets first_child second_child
  takes_b20 = refl

  abbrev b30 : List LaneEvent
  b30 = event.Delivered 20 (reply.Answer [] []) ∷ b29

  may_b30 : Permits 1 (state_of (history b30)) (history b29) (meaning b29 (event.Delivered 20 (reply.Answer [] [])))
  unfolding same_stamp same_bucket
  may_b30 = record { message = (record { version = 2; receiver = 1; body = (plain.Delete lane 4); round = 0 }); was_sent = refl; runs = refl; reply = record { low = omega arith; has = tt; takes = takes_b20; show = λ b is. cc; show_one = λ i is. cc; fresh = λ c s h w. cc; may_delete = λ b s is. subst₂ (λ (c : Bucket) (t : ℕ). acceptable 1 c t (history b29) ≡ true) (same_deleted lane b 4 s is).0 (same_deleted lane b 4 s is).1 may_drop } }

  noted_b30 : WellNoted b29 (event.Delivered 20 (reply.Answer [] []))
  unfolding same_stamp same_bucket
  noted_b30 = λ m h. subst (λ (x : Message). NamesShown b29 x ([]) ([])) (some_same (record { version = 2; receiver = 1; body = (plain.Delete lane 4); round = 0 }) m h) (record { rising = tt; held = tt; asked = refl; shown = refl })

  live_b30 : IsLegal setting b30
  live_b30 = (live_b29, record { noted = noted_b30; permitted = may_b30; placed = tt; ended = tt })

  abbrev b31 : List LaneEvent
  b31 = event.Returned 20 ∷ b30

  may_b31 : Permits 1 (state_of (history b31)) (history b30) (meaning b30 (event.Returned 20))
  unfolding same_stamp same_bucket
  may_b31 = record { once = refl; reply = plain.Answer (content b29 ([])) (names ([])); replied = refl }

  live_b31 : IsLegal setting b31
  live_b31 = (live_b30, record { noted = tt; permitted = may_b31; placed = tt; ended = tt })

  done_o2 : LinesDone (history b31) (history b31)
  done_o2 = (refl, (refl, tt))

  the_row : (other : ℕ) (row : Bucket) → cond (contains lane other) (Some lane) None ≡ Some row → lane ≡ row
  the_row other row h = by_test (contains lane other) h
    where
      by_test : (t : Bool) → cond t (Some lane) None ≡ Some row → lane ≡ row
      by_test true h = cc
      by_test false h = cc

  still_2 : running 2 lane (history b31) ≡ false
  unfolding same_stamp same_bucket
  still_2 = refl

  abbrev b32 : List LaneEvent
  b32 = event.Decided 0 2 (choice.DeleteOver lane 1) ∷ b31

  may_b32 : Permits 1 (state_of (history b32)) (history b31) (meaning b31 (event.Decided 0 2 (choice.DeleteOver lane 1)))
  unfolding same_stamp
  may_b32 = (
    refl,
    record {
      key = key_of id;
      delete = record { bucket = lane; node = 1; serial = 4 };
      pending = rw inside refl;
      bucket = refl;
      node = refl;
      no_round = λ other row h i. subst (λ (x : Bucket). running 2 x (history b31) ≡ false) (the_row other row i) still_2;
      idle = λ other line begin p h o i. (let z = line-done (history b31) (history b31) done_o2 line begin o.began in let y = o.unclosed in absurd (let q : true ≡ false = sym z ∙ y in cc));
      number = 20;
      message = (record { version = 2; receiver = 1; body = (plain.Delete lane 4); round = 0 });
      was_sent = refl;
      receiver = refl;
      version = refl;
      body = refl;
      reply = plain.Answer (content b29 ([])) (names ([]));
      replied = refl;
      ending = refl;
      back = refl;
    },
  )

  placed_b32 : Placed setting b31 (event.Decided 0 2 (choice.DeleteOver lane 1))
  placed_b32 = (owns2 b31 refl, tt)

  live_b32 : IsLegal setting b32
  live_b32 = (live_b31, record { noted = tt; permitted = may_b32; placed = placed_b32; ended = tt })

  done_bline3 : LinesDone (history b32) (history b32)
  done_bline3 = (refl, (refl, tt))

  abbrev b33 : List LaneEvent
  b33 = event.Begun 3 0 2 id (Some stamp_three) ∷ b32

  may_b33 : Permits 1 (state_of (history b33)) (history b32) (meaning b32 (event.Begun 3 0 2 id (Some stamp_three)))
  unfolding same_stamp same_bucket
  may_b33 = record { fresh = refl; unrefused = refl; holder = refl; alone = λ o b h is. line-done (history b32) (history b32) done_bline3 o b h; stamp = (refl, refl) }

  placed_b33 : Placed setting b32 (event.Begun 3 0 2 id (Some stamp_three))
  placed_b33 = (owns2 b32 refl, inside)

  live_b33 : IsLegal setting b33
  live_b33 = (live_b32, record { noted = tt; permitted = may_b33; placed = placed_b33; ended = tt })

  abbrev b34 : List LaneEvent
  b34 = event.Prepared 3 lane 1 ∷ b33

  may_b34 : Permits 1 (state_of (history b34)) (history b33) (meaning b33 (event.Prepared 3 lane 1))
  unfolding same_stamp same_bucket
  may_b34 = record { begin = (record { distributor = 0; version = 2; id = id; stamp = Some stamp_three }); begun = refl; fresh = refl; unclosed = refl; row = record { fits = omega arith; opened = refl; row = λ key h. rw h refl }; inside = inside; no_round = refl; recipients = λ n key h. rw h (one_left n (eqb 1 n) (nodes 1 n) refl refl); enough = enough_1 }

  live_b34 : IsLegal setting b34
  live_b34 = (live_b33, record { noted = tt; permitted = may_b34; placed = tt; ended = tt })

  unlooked_b3 : EachSent (NotLook) (history b34)
  unfolding same_stamp same_bucket
  unlooked_b3 = ((λ i e. cc), ((λ i e. cc), ((λ i e. cc), ((λ i e. cc), ((λ i e. cc), ((λ i e. cc), ((λ i e. cc), ((λ i e. cc), ((λ i e. cc), ((λ i e. cc), ((λ i e. cc), ((λ i e. cc), ((λ i e. cc), ((λ i e. cc), ((λ i e. cc), ((λ i e. cc), ((λ i e. cc), ((λ i e. cc), ((λ i e. cc), ((λ i e. cc), tt))))))))))))))))))))

  abbrev b35 : List LaneEvent
  b35 = event.Wrote 3 (record { stamp = stamp_three; id = id; body = None }) ∷ b34

  may_b35 : Permits 1 (state_of (history b35)) (history b34) (meaning b34 (event.Wrote 3 (record { stamp = stamp_three; id = id; body = None })))
  unfolding same_stamp same_bucket
  may_b35 = record { begin = (record { distributor = 0; version = 2; id = id; stamp = Some stamp_three }); begun = refl; stamp = stamp_three; stamped = refl; preparing = (record { row = lane; recipients = nodes 1 }); was_prepared = refl; unwritten = refl; unclosed = refl; seen = λ a. absurd (unasked (history b34) unlooked_b3 3 (record { distributor = 0; version = 2; id = id; stamp = Some stamp_three }) a) }

  noted_b35 : WellNoted b34 (event.Wrote 3 (record { stamp = stamp_three; id = id; body = None }))
  noted_b35 = record { begin = (record { distributor = 0; version = 2; id = id; stamp = Some stamp_three }); begun = refl; stamped = refl; same_id = refl }

  live_b35 : IsLegal setting b35
  live_b35 = (live_b34, record { noted = noted_b35; permitted = may_b35; placed = tt; ended = tt })

  below_b21 : NumbersBelow 21 (history b35)
  below_b21 = (omega arith, (omega arith, (omega arith, (omega arith, (omega arith, (omega arith, (omega arith, (omega arith, (omega arith, (omega arith, (omega arith, (omega arith, (omega arith, (omega arith, (omega arith, (omega arith, (omega arith, (omega arith, (omega arith, (omega arith, tt))))))))))))))))))))

  abbrev b36 : List LaneEvent
  b36 = event.Sent 21 2 0 0 (body.Store stamp_three) ∷ b35

  may_b36 : Permits 1 (state_of (history b36)) (history b35) (meaning b35 (event.Sent 21 2 0 0 (body.Store stamp_three)))
  unfolding same_stamp same_bucket
  may_b36 = record { greater = λ j m h. numbers (history b35) 21 below_b21 j m h; holder = refl; member = refl; timing = inr refl; carries = record { belongs = record { line = 3; begin = (record { distributor = 0; version = 2; id = id; stamp = Some stamp_three }); preparing = (record { row = lane; recipients = nodes 1 }); is_open = record { began = refl; version = refl; prepared = refl; unclosed = refl }; same_id = refl; recipient = has_one_0 }; stamped = refl; written = refl } }

  noted_b36 : WellNoted b35 (event.Sent 21 2 0 0 (body.Store stamp_three))
  unfolding same_stamp
  noted_b36 = (id, refl)

  placed_b36 : Placed setting b35 (event.Sent 21 2 0 0 (body.Store stamp_three))
  placed_b36 = (owns2 b35 refl, tt)

  live_b36 : IsLegal setting b36
  live_b36 = (live_b35, record { noted = noted_b36; permitted = may_b36; placed = placed_b36; ended = tt })

  abbrev b37 : List LaneEvent
  b37 = event.Delivered 21 (reply.Answer [] []) ∷ b36

  may_b37 : Permits 1 (state_of (history b37)) (history b36) (meaning b36 (event.Delivered 21 (reply.Answer [] [])))
  unfolding same_stamp same_bucket
  may_b37 = record { message = (record { version = 2; receiver = 0; body = (plain.Store id stamp_three); round = 0 }); was_sent = refl; runs = refl; reply = record { low = omega arith; has = rw inside refl; takes = tt; show = λ b is. cc; show_one = λ i is. cc; fresh = λ c s h w. cc; may_delete = λ b s is. cc } }

  noted_b37 : WellNoted b36 (event.Delivered 21 (reply.Answer [] []))
  unfolding same_stamp same_bucket
  noted_b37 = λ m h. subst (λ (x : Message). NamesShown b36 x ([]) ([])) (some_same (record { version = 2; receiver = 0; body = (plain.Store id stamp_three); round = 0 }) m h) (record { rising = tt; held = tt; asked = refl; shown = refl })

  live_b37 : IsLegal setting b37
  live_b37 = (live_b36, record { noted = noted_b37; permitted = may_b37; placed = tt; ended = tt })

  abbrev b38 : List LaneEvent
  b38 = event.Returned 21 ∷ b37

  may_b38 : Permits 1 (state_of (history b38)) (history b37) (meaning b37 (event.Returned 21))
  unfolding same_stamp same_bucket
  may_b38 = record { once = refl; reply = plain.Answer (content b36 ([])) (names ([])); replied = refl }

  live_b38 : IsLegal setting b38
  live_b38 = (live_b37, record { noted = tt; permitted = may_b38; placed = tt; ended = tt })

  stored_b3 : answered_store 2 id stamp_three 0 (history b38) ≡ true
  unfolding same_stamp same_bucket
  stored_b3 = rw (same_id-refl id) refl

  the_active : (n key : ℕ) → contains lane key ≡ true → active 2 key (history b38) ≡ Some n → answered_store 2 id stamp_three n (history b38) ≡ true
  the_active n key h a = let x : ◌≡◌ {A = Option ℕ} (Some 0) (Some n) = (rw h at a) in subst (λ (i : ℕ). answered_store 2 id stamp_three i (history b38) ≡ true) (some_same 0 n x) stored_b3

  acked_b3 : AtLeast 1 (λ n. (nodes 1 n ≡ true) × (answered_store 2 id stamp_three n (history b38) ≡ true))
  unfolding count count_below
  acked_b3 = (only_0, omega arith, λ n h. subst (λ (i : ℕ). (nodes 1 i ≡ true) × (answered_store 2 id stamp_three i (history b38) ≡ true)) (sym (is_0 n h)) (has_one_0, stored_b3))

  abbrev pub b39 : List LaneEvent
  b39 = event.Closed 3 (outcome.Acked stamp_three) ∷ b38

  may_b39 : Permits 1 (state_of (history b39)) (history b38) (meaning b38 (event.Closed 3 (outcome.Acked stamp_three)))
  unfolding same_stamp same_bucket
  may_b39 = record { begin = (record { distributor = 0; version = 2; id = id; stamp = Some stamp_three }); begun = refl; unclosed = refl; acked = λ h. record { stamp = stamp_three; stamped = refl; preparing = (record { row = lane; recipients = nodes 1 }); was_prepared = refl; enough = acked_b3; active = the_active } }

  ended_b39 : Ended setting b38 (event.Closed 3 (outcome.Acked stamp_three))
  ended_b39 = ((record { distributor = 0; version = 2; id = id; stamp = Some stamp_three }), refl, (refl, refl))

  pub live_b39 : IsLegal setting b39
  live_b39 = (live_b38, record { noted = tt; permitted = may_b39; placed = tt; ended = ended_b39 })

  pub newest_kept : store 0 id (history b39) ≡ Some stamp_three
  unfolding same_stamp newer is_older
  newest_kept = rw (same_id-refl id, inside) refl

  pub emptied : store 1 id (history b39) ≡ None
  unfolding same_stamp newer is_older
  emptied = rw (same_id-refl id, inside) refl

  pub acked_one : Acked 1 id stamp_two (history b39)
  acked_one = inr (inl (refl, refl, refl))

  pub acked_two : Acked 2 id stamp_three (history b39)
  acked_two = inl (refl, refl, refl)
