-- Wrong steps that concern the active node: an acknowledgement without it, and a second one.
use Rattle.std.proofs.Common.{◌≡◌, ℕ, true, false, List, [], ◌∷◌, Option, Some, None, refl, sym, subst, arith, inl, inr}
use Rattle.node_sets.specs.Members.{has_node}
use Rattle.lane_journals.specs.Stamps.{Stamp, Le, same_stamp}
use Rattle.lane_journals.specs.Buckets.{Bucket, contains, same_bucket, covers, meets, first_child, second_child, Id, key_of}
use Rattle.lane_journals.specs.Readers.{Beginning, began, Preparing, round_of, Message, Given, answer, answered_store, complete}
use Rattle.lane_journals.specs.Facts.{AnsweredApply, IsRow}
use Rattle.lane_journals.specs.Legal.{MayAck, MayShow, MayUnite, IsIdleRow, Permits}
use Rattle.lane_journals.specs.States.{state_of}
use Rattle.lane_journals.specs.Meanings.{nodes, names, meaning, history}
use Rattle.lane_journals.specs.Naming.{NamesShown, WellNoted}
use Rattle.lane_journals.specs.Pieces.{pieces, MayTake}
use Rattle.lane_journals.specs.Places.{Placed, IsActive}
use Rattle.lane_journals.specs.KeptJournals.{IsLegal}
use Rattle.journal_examples.specs.Lives.{lane, setting, stamp_one, read_one, united_one}
use Rattle.journal_examples.specs.WrongSteps.{IsRefused, acked_without_active, active_elsewhere}
use Rattle.lane_journals.specs.declared.event.LaneEvent.{LaneEvent}
use Rattle.lane_journals.proofs.Order.{Le_none}
use Rattle.journal_examples.proofs.Walking.{no_content, EachSent, NumbersBelow, numbers, NotOf, unapplied, GoesTo, applied-to, NotLook, unasked, NotStore, unstored, LinesDone, line-done, idle-done, EachReply, NotNamed, unnamed-yet}
use Rattle.journal_examples.proofs.LifeFacts.{owns1, some_same, same_read, same_test, two_1, has_both_0, has_both_1, has_one_0, has_two_1, two_last, one_first, enough_3, nothing_joined, shows_nothing, shows_piece, zero_in, receive_these}
use Rattle.journal_examples.proofs.Firsts.{lane-order, first-ideal, only-member}
use Rattle.journal_examples.proofs.LifeOne.{live_a16, live_a23}
use Rattle.lane_journals.specs.Events as plain
use Rattle.messages.specs.declared.noted.NotedBody.TheVariants as body
use Rattle.messages.specs.declared.noted.NotedReply.TheVariants as reply
use Rattle.messages.specs.declared.decision.Decision.TheVariants as choice
use Rattle.messages.specs.declared.outcome.Outcome.TheVariants as outcome
use Rattle.lane_journals.specs.declared.event.LaneEvent.TheVariants as event

-- ---- a second activation, on another node

below_f5 : NumbersBelow 5 (history read_one)
below_f5 = (omega arith, (omega arith, (omega arith, (omega arith, tt))))

unites_f5 : MayUnite (state_of (history read_one)) (history read_one) 1 lane no_content
unfolding same_stamp same_bucket
unites_f5 = record {
  under_way = refl;
  covers = λ m h. elim (two_1 m h) [
    | inl is ↦ subst (λ (m : ℕ). (g : Given) × (answer 1 (round_of 1 lane (history read_one)) m (history read_one) ≡ Some g) × ((i : Id) → Le (g.content i) (no_content i))) (sym is) (record { content = no_content; names = names ([]) }, refl, λ i. Le_none _)
    | inr is ↦ subst (λ (m : ℕ). (g : Given) × (answer 1 (round_of 1 lane (history read_one)) m (history read_one) ≡ Some g) × ((i : Id) → Le (g.content i) (no_content i))) (sym is) (record { content = no_content; names = names ([]) }, refl, λ i. Le_none _)
  ];
  attained = λ i s h. cc;
}

abbrev f1 : List LaneEvent
f1 = event.Sent 5 1 0 1 (body.Apply lane []) ∷ read_one

may_f1 : Permits 1 (state_of (history f1)) (history read_one) (meaning read_one (event.Sent 5 1 0 1 (body.Apply lane [])))
unfolding same_stamp same_bucket
may_f1 = record { greater = λ j m h. numbers (history read_one) 5 below_f5 j m h; holder = refl; member = refl; timing = inr refl; carries = unites_f5 }

noted_f1 : WellNoted read_one (event.Sent 5 1 0 1 (body.Apply lane []))
noted_f1 = (tt, tt)

placed_f1 : Placed setting read_one (event.Sent 5 1 0 1 (body.Apply lane []))
unfolding same_bucket
placed_f1 = (owns1 read_one refl, (3, refl, has_both_1))

live_f1 : IsLegal setting f1
live_f1 = (live_a16, record { noted = noted_f1; permitted = may_f1; placed = placed_f1; ended = tt })

abbrev f2 : List LaneEvent
f2 = event.Delivered 5 (reply.Answer [] []) ∷ f1

may_f2 : Permits 1 (state_of (history f2)) (history f1) (meaning f1 (event.Delivered 5 (reply.Answer [] [])))
unfolding same_stamp same_bucket
may_f2 = record { message = record { version = 1; receiver = 1; body = (plain.Apply lane no_content); round = 1 }; was_sent = refl; runs = refl; reply = record { low = omega arith; has = tt; takes = tt; show = λ b is. cc; show_one = λ i is. cc; fresh = λ c s h w. cc; may_delete = λ b s is. cc } }

noted_f2 : WellNoted f1 (event.Delivered 5 (reply.Answer [] []))
unfolding same_stamp same_bucket
noted_f2 = λ m h. subst (λ (x : Message). NamesShown f1 x ([]) []) (some_same (record { version = 1; receiver = 1; body = (plain.Apply lane no_content); round = 1 }) m h) (record { rising = tt; held = tt; asked = refl; shown = refl })

live_f2 : IsLegal setting f2
live_f2 = (live_f1, record { noted = noted_f2; permitted = may_f2; placed = tt; ended = tt })

abbrev f3 : List LaneEvent
f3 = event.Returned 5 ∷ f2

may_f3 : Permits 1 (state_of (history f3)) (history f2) (meaning f2 (event.Returned 5))
unfolding same_stamp same_bucket
may_f3 = record { once = refl; reply = plain.Answer no_content (names ([])); replied = refl }

live_f3 : IsLegal setting f3
live_f3 = (live_f2, record { noted = tt; permitted = may_f3; placed = tt; ended = tt })

to_f_r1 : EachSent (GoesTo 1 1 (nodes 2)) (history f3)
unfolding same_stamp same_bucket
to_f_r1 = ((λ b u e f g. has_two_1), ((λ b u e f g. cc), ((λ b u e f g. cc), ((λ b u e f g. cc), ((λ b u e f g. cc), tt)))))

done_f_r1 : LinesDone (history f3) (history f3)
done_f_r1 = tt

took_f_r1 : (n : ℕ) → nodes 2 n ≡ true → AnsweredApply 1 1 n lane (history f3)
unfolding same_stamp same_bucket
took_f_r1 n h = subst (λ (i : ℕ). AnsweredApply 1 1 i lane (history f3)) (sym (two_last n h)) (record { union = no_content; number = 5; message = record { version = 1; receiver = 1; body = (plain.Apply lane no_content); round = 1 }; content = no_content; names = names []; was_sent = refl; receiver = refl; version = refl; body = refl; reply = refl; back = refl; round = refl })

abbrev f4 : List LaneEvent
f4 = event.Decided 0 1 (choice.RoundEnded lane 2) ∷ f3

may_f4 : Permits 1 (state_of (history f4)) (history f3) (meaning f3 (event.Decided 0 1 (choice.RoundEnded lane 2)))
unfolding same_stamp same_bucket
may_f4 = (refl, record { under_way = refl; idle = idle-done (history f3) done_f_r1 1 lane; answered = took_f_r1; whole = λ n a. applied-to (history f3) 1 1 (nodes 2) to_f_r1 n lane a })

placed_f4 : Placed setting f3 (event.Decided 0 1 (choice.RoundEnded lane 2))
placed_f4 = (owns1 f3 refl, tt)

live_f4 : IsLegal setting f4
live_f4 = (live_f3, record { noted = tt; permitted = may_f4; placed = placed_f4; ended = tt })

row_f_ready : IsRow 1 lane (history f4)
row_f_ready = record { fits = omega arith; opened = refl; row = λ key h. rw h refl }

below_f6 : NumbersBelow 6 (history f4)
below_f6 = (omega arith, (omega arith, (omega arith, (omega arith, (omega arith, tt)))))

abbrev f5 : List LaneEvent
f5 = event.Sent 6 1 0 1 (body.Ready lane) ∷ f4

may_f5 : Permits 1 (state_of (history f5)) (history f4) (meaning f4 (event.Sent 6 1 0 1 (body.Ready lane)))
unfolding same_stamp same_bucket
may_f5 = record { greater = λ j m h. numbers (history f4) 6 below_f6 j m h; holder = refl; member = refl; timing = inr refl; carries = tt }

placed_f5 : Placed setting f4 (event.Sent 6 1 0 1 (body.Ready lane))
placed_f5 = (owns1 f4 refl, inl row_f_ready)

live_f5 : IsLegal setting f5
live_f5 = (live_f4, record { noted = tt; permitted = may_f5; placed = placed_f5; ended = tt })

takes_f6 : MayTake (pieces 1 (history f5)) (plain.Ready lane)
unfolding contains same_stamp same_bucket covers meets first_child second_child
takes_f6 = refl

abbrev f6 : List LaneEvent
f6 = event.Delivered 6 (reply.Answer [] []) ∷ f5

may_f6 : Permits 1 (state_of (history f6)) (history f5) (meaning f5 (event.Delivered 6 (reply.Answer [] [])))
unfolding same_stamp same_bucket
may_f6 = record { message = record { version = 1; receiver = 1; body = (plain.Ready lane); round = 0 }; was_sent = refl; runs = refl; reply = record { low = omega arith; has = tt; takes = takes_f6; show = λ b is. cc; show_one = λ i is. cc; fresh = λ c s h w. cc; may_delete = λ b s is. cc } }

noted_f6 : WellNoted f5 (event.Delivered 6 (reply.Answer [] []))
unfolding same_stamp same_bucket
noted_f6 = λ m h. subst (λ (x : Message). NamesShown f5 x ([]) []) (some_same (record { version = 1; receiver = 1; body = (plain.Ready lane); round = 0 }) m h) (record { rising = tt; held = tt; asked = refl; shown = refl })

live_f6 : IsLegal setting f6
live_f6 = (live_f5, record { noted = noted_f6; permitted = may_f6; placed = tt; ended = tt })

abbrev f7 : List LaneEvent
f7 = event.Returned 6 ∷ f6

may_f7 : Permits 1 (state_of (history f7)) (history f6) (meaning f6 (event.Returned 6))
unfolding same_stamp same_bucket
may_f7 = record { once = refl; reply = plain.Answer no_content (names ([])); replied = refl }

live_f7 : IsLegal setting f7
live_f7 = (live_f6, record { noted = tt; permitted = may_f7; placed = tt; ended = tt })

row_f_active : IsRow 1 lane (history f7)
row_f_active = record { fits = omega arith; opened = refl; row = λ key h. rw h refl }

done_f_active : LinesDone (history f7) (history f7)
done_f_active = tt

quiet_f_active : IsIdleRow 1 lane (history f7)
unfolding same_stamp same_bucket
quiet_f_active = record { row = row_f_active; no_round = refl; idle = idle-done (history f7) done_f_active 1 lane }

alone_f : complete 1 0 0 (history f7) ≡ false
unfolding contains has_node
alone_f = refl

abbrev f8 : List LaneEvent
f8 = event.Decided 0 1 (choice.ActiveOn lane 1) ∷ f7

may_f8 : Permits 1 (state_of (history f8)) (history f7) (meaning f7 (event.Decided 0 1 (choice.ActiveOn lane 1)))
unfolding same_stamp same_bucket
may_f8 = (refl, record { quiet = quiet_f_active; undecided = λ key h. refl; member = λ key h. rw (h, has_two_1) refl })

placed_f8 : Placed setting f7 (event.Decided 0 1 (choice.ActiveOn lane 1))
unfolding same_stamp same_bucket
placed_f8 = (owns1 f7 refl, (record { number = 6; message = record { version = 1; receiver = 1; body = (plain.Ready lane); round = 0 }; content = no_content; names = names []; was_sent = refl; receiver = refl; version = refl; body = refl; reply = refl; back = refl }, only-member f7 refl alone_f))

live_f8 : IsLegal setting f8
live_f8 = (live_f7, record { noted = tt; permitted = may_f8; placed = placed_f8; ended = tt })

row_f_round : IsRow 1 lane (history f8)
row_f_round = record { fits = omega arith; opened = refl; row = λ key h. rw h refl }

done_f_round : LinesDone (history f8) (history f8)
done_f_round = tt

quiet_f_round : IsIdleRow 1 lane (history f8)
unfolding same_stamp same_bucket
quiet_f_round = record { row = row_f_round; no_round = refl; idle = idle-done (history f8) done_f_round 1 lane }

active_f : (n : ℕ) → IsActive 1 lane n (history f8) → nodes 3 n ≡ true
unfolding contains
active_f n a = (let x : ◌≡◌ {A = Option ℕ} (Some 1) (Some n) = a 0 zero_in in subst (λ (i : ℕ). nodes 3 i ≡ true) (some_same 1 n x) has_both_1)

abbrev f9 : List LaneEvent
f9 = event.Decided 0 1 (choice.RoundBegun lane 3) ∷ f8

may_f9 : Permits 1 (state_of (history f9)) (history f8) (meaning f8 (event.Decided 0 1 (choice.RoundBegun lane 3)))
unfolding same_stamp same_bucket
may_f9 = (refl, quiet_f_round)

placed_f9 : Placed setting f8 (event.Decided 0 1 (choice.RoundBegun lane 3))
placed_f9 = (owns1 f8 refl, receive_these f8 refl active_f)

live_f9 : IsLegal setting f9
live_f9 = (live_f8, record { noted = tt; permitted = may_f9; placed = placed_f9; ended = tt })

below_f7 : NumbersBelow 7 (history f9)
below_f7 = (omega arith, (omega arith, (omega arith, (omega arith, (omega arith, (omega arith, tt))))))

none_f7 : EachSent (NotOf 1 2) (history f9)
unfolding same_stamp same_bucket
none_f7 = ((λ b u e f g. cc), ((λ b u e f g. (let x : 1 ≡ 2 = g in omega arith)), ((λ b u e f g. cc), ((λ b u e f g. cc), ((λ b u e f g. cc), ((λ b u e f g. cc), tt))))))

abbrev f10 : List LaneEvent
f10 = event.Sent 7 1 0 0 (body.Read lane None) ∷ f9

may_f10 : Permits 1 (state_of (history f10)) (history f9) (meaning f9 (event.Sent 7 1 0 0 (body.Read lane None)))
unfolding same_stamp same_bucket
may_f10 = record { greater = λ j m h. numbers (history f9) 7 below_f7 j m h; holder = refl; member = refl; timing = inr refl; carries = record { under_way = refl; first = λ m u a. unapplied (history f9) 1 2 none_f7 m lane u a } }

placed_f10 : Placed setting f9 (event.Sent 7 1 0 0 (body.Read lane None))
placed_f10 = (owns1 f9 refl, tt)

live_f10 : IsLegal setting f10
live_f10 = (live_f9, record { noted = tt; permitted = may_f10; placed = placed_f10; ended = tt })

shows_f7 : MayShow (history f10) 0 lane (record { content = no_content; names = names ([]) })
unfolding same_stamp
shows_f7 = record { content = λ i h. refl; only = λ i h. refl; serial = λ c s has u q d h shown had. cc }

abbrev f11 : List LaneEvent
f11 = event.Delivered 7 (reply.Answer [] []) ∷ f10

may_f11 : Permits 1 (state_of (history f11)) (history f10) (meaning f10 (event.Delivered 7 (reply.Answer [] [])))
unfolding same_stamp same_bucket
may_f11 = record { message = record { version = 1; receiver = 0; body = (plain.Read lane); round = 2 }; was_sent = refl; runs = refl; reply = record { low = omega arith; has = tt; takes = tt; show = λ b is. subst (λ (x : Bucket). MayShow (history f10) 0 x (record { content = no_content; names = names ([]) })) (same_read lane b is) shows_f7; show_one = λ i is. cc; fresh = λ c s h w. cc; may_delete = λ b s is. cc } }

noted_f11 : WellNoted f10 (event.Delivered 7 (reply.Answer [] []))
unfolding same_stamp same_bucket
noted_f11 = λ m h. subst (λ (x : Message). NamesShown f10 x ([]) []) (some_same (record { version = 1; receiver = 0; body = (plain.Read lane); round = 2 }) m h) (record { rising = tt; held = tt; asked = tt; shown = shows_nothing (λ c. meets lane c) })

live_f11 : IsLegal setting f11
live_f11 = (live_f10, record { noted = noted_f11; permitted = may_f11; placed = tt; ended = tt })

abbrev f12 : List LaneEvent
f12 = event.Returned 7 ∷ f11

may_f12 : Permits 1 (state_of (history f12)) (history f11) (meaning f11 (event.Returned 7))
unfolding same_stamp same_bucket
may_f12 = record { once = refl; reply = plain.Answer no_content (names ([])); replied = refl }

live_f12 : IsLegal setting f12
live_f12 = (live_f11, record { noted = tt; permitted = may_f12; placed = tt; ended = tt })

below_f8 : NumbersBelow 8 (history f12)
below_f8 = (omega arith, (omega arith, (omega arith, (omega arith, (omega arith, (omega arith, (omega arith, tt)))))))

none_f8 : EachSent (NotOf 1 2) (history f12)
unfolding same_stamp same_bucket
none_f8 = ((λ b u e f g. cc), ((λ b u e f g. cc), ((λ b u e f g. (let x : 1 ≡ 2 = g in omega arith)), ((λ b u e f g. cc), ((λ b u e f g. cc), ((λ b u e f g. cc), ((λ b u e f g. cc), tt)))))))

abbrev f13 : List LaneEvent
f13 = event.Sent 8 1 0 1 (body.Read lane None) ∷ f12

may_f13 : Permits 1 (state_of (history f13)) (history f12) (meaning f12 (event.Sent 8 1 0 1 (body.Read lane None)))
unfolding same_stamp same_bucket
may_f13 = record { greater = λ j m h. numbers (history f12) 8 below_f8 j m h; holder = refl; member = refl; timing = inr refl; carries = record { under_way = refl; first = λ m u a. unapplied (history f12) 1 2 none_f8 m lane u a } }

placed_f13 : Placed setting f12 (event.Sent 8 1 0 1 (body.Read lane None))
placed_f13 = (owns1 f12 refl, tt)

live_f13 : IsLegal setting f13
live_f13 = (live_f12, record { noted = tt; permitted = may_f13; placed = placed_f13; ended = tt })

unnamed_f8 : EachReply (NotNamed (history f13) 1) (history f13)
unfolding same_stamp same_bucket
unnamed_f8 = (inl (λ c s. refl), (inl (λ c s. refl), (inl (λ c s. refl), (inl (λ c s. refl), (inl (λ c s. refl), (inl (λ c s. refl), (inl (λ c s. refl), tt)))))))

shows_f8 : MayShow (history f13) 1 lane (record { content = no_content; names = names (record { bucket = lane; serial = 2; ready = true } ∷ []) })
unfolding same_stamp
shows_f8 = record { content = λ i h. sym (nothing_joined (contains lane (key_of i))); only = λ i h. refl; serial = λ c s has u q d h shown had. absurd (unnamed-yet (history f13) 1 unnamed_f8 u q d h c s shown had) }

abbrev f14 : List LaneEvent
f14 = event.Delivered 8 (reply.Answer (record { bucket = lane; serial = 2; ready = true } ∷ []) []) ∷ f13

may_f14 : Permits 1 (state_of (history f14)) (history f13) (meaning f13 (event.Delivered 8 (reply.Answer (record { bucket = lane; serial = 2; ready = true } ∷ []) [])))
unfolding same_stamp same_bucket
may_f14 = record { message = record { version = 1; receiver = 1; body = (plain.Read lane); round = 2 }; was_sent = refl; runs = refl; reply = record { low = omega arith; has = tt; takes = tt; show = λ b is. subst (λ (x : Bucket). MayShow (history f13) 1 x (record { content = no_content; names = names (record { bucket = lane; serial = 2; ready = true } ∷ []) })) (same_read lane b is) shows_f8; show_one = λ i is. cc; fresh = λ c s h w. cc; may_delete = λ b s is. cc } }

noted_f14 : WellNoted f13 (event.Delivered 8 (reply.Answer (record { bucket = lane; serial = 2; ready = true } ∷ []) []))
unfolding same_stamp same_bucket covers contains meets first_child second_child
noted_f14 = λ m h. subst (λ (x : Message). NamesShown f13 x (record { bucket = lane; serial = 2; ready = true } ∷ []) []) (some_same (record { version = 1; receiver = 1; body = (plain.Read lane); round = 2 }) m h) (record { rising = tt; held = tt; asked = tt; shown = shows_piece lane 2 true (λ c. meets lane c) refl })

live_f14 : IsLegal setting f14
live_f14 = (live_f13, record { noted = noted_f14; permitted = may_f14; placed = tt; ended = tt })

abbrev f15 : List LaneEvent
f15 = event.Returned 8 ∷ f14

may_f15 : Permits 1 (state_of (history f15)) (history f14) (meaning f14 (event.Returned 8))
unfolding same_stamp same_bucket
may_f15 = record { once = refl; reply = plain.Answer no_content (names (record { bucket = lane; serial = 2; ready = true } ∷ [])); replied = refl }

live_f15 : IsLegal setting f15
live_f15 = (live_f14, record { noted = tt; permitted = may_f15; placed = tt; ended = tt })

below_f9 : NumbersBelow 9 (history f15)
below_f9 = (omega arith, (omega arith, (omega arith, (omega arith, (omega arith, (omega arith, (omega arith, (omega arith, tt))))))))

unites_f9 : MayUnite (state_of (history f15)) (history f15) 1 lane no_content
unfolding same_stamp same_bucket
unites_f9 = record {
  under_way = refl;
  covers = λ m h. elim (two_1 m h) [
    | inl is ↦ subst (λ (m : ℕ). (g : Given) × (answer 1 (round_of 1 lane (history f15)) m (history f15) ≡ Some g) × ((i : Id) → Le (g.content i) (no_content i))) (sym is) (record { content = no_content; names = names ([]) }, refl, λ i. Le_none _)
    | inr is ↦ subst (λ (m : ℕ). (g : Given) × (answer 1 (round_of 1 lane (history f15)) m (history f15) ≡ Some g) × ((i : Id) → Le (g.content i) (no_content i))) (sym is) (record { content = no_content; names = names (record { bucket = lane; serial = 2; ready = true } ∷ []) }, refl, λ i. Le_none _)
  ];
  attained = λ i s h. cc;
}

abbrev f16 : List LaneEvent
f16 = event.Sent 9 1 0 0 (body.Apply lane []) ∷ f15

may_f16 : Permits 1 (state_of (history f16)) (history f15) (meaning f15 (event.Sent 9 1 0 0 (body.Apply lane [])))
unfolding same_stamp same_bucket
may_f16 = record { greater = λ j m h. numbers (history f15) 9 below_f9 j m h; holder = refl; member = refl; timing = inr refl; carries = unites_f9 }

noted_f16 : WellNoted f15 (event.Sent 9 1 0 0 (body.Apply lane []))
noted_f16 = (tt, tt)

placed_f16 : Placed setting f15 (event.Sent 9 1 0 0 (body.Apply lane []))
unfolding same_bucket
placed_f16 = (owns1 f15 refl, (3, refl, has_both_0))

live_f16 : IsLegal setting f16
live_f16 = (live_f15, record { noted = noted_f16; permitted = may_f16; placed = placed_f16; ended = tt })

abbrev f17 : List LaneEvent
f17 = event.Delivered 9 (reply.Answer [] []) ∷ f16

may_f17 : Permits 1 (state_of (history f17)) (history f16) (meaning f16 (event.Delivered 9 (reply.Answer [] [])))
unfolding same_stamp same_bucket
may_f17 = record { message = record { version = 1; receiver = 0; body = (plain.Apply lane no_content); round = 2 }; was_sent = refl; runs = refl; reply = record { low = omega arith; has = tt; takes = tt; show = λ b is. cc; show_one = λ i is. cc; fresh = λ c s h w. cc; may_delete = λ b s is. cc } }

noted_f17 : WellNoted f16 (event.Delivered 9 (reply.Answer [] []))
unfolding same_stamp same_bucket
noted_f17 = λ m h. subst (λ (x : Message). NamesShown f16 x ([]) []) (some_same (record { version = 1; receiver = 0; body = (plain.Apply lane no_content); round = 2 }) m h) (record { rising = tt; held = tt; asked = refl; shown = refl })

live_f17 : IsLegal setting f17
live_f17 = (live_f16, record { noted = noted_f17; permitted = may_f17; placed = tt; ended = tt })

abbrev f18 : List LaneEvent
f18 = event.Returned 9 ∷ f17

may_f18 : Permits 1 (state_of (history f18)) (history f17) (meaning f17 (event.Returned 9))
unfolding same_stamp same_bucket
may_f18 = record { once = refl; reply = plain.Answer no_content (names ([])); replied = refl }

live_f18 : IsLegal setting f18
live_f18 = (live_f17, record { noted = tt; permitted = may_f18; placed = tt; ended = tt })

to_f_r2 : EachSent (GoesTo 1 2 (nodes 1)) (history f18)
unfolding same_stamp same_bucket
to_f_r2 = ((λ b u e f g. has_one_0), ((λ b u e f g. cc), ((λ b u e f g. cc), ((λ b u e f g. cc), ((λ b u e f g. absurd (let x : 1 ≡ 2 = g in omega arith)), ((λ b u e f g. cc), ((λ b u e f g. cc), ((λ b u e f g. cc), ((λ b u e f g. cc), tt)))))))))

done_f_r2 : LinesDone (history f18) (history f18)
done_f_r2 = tt

took_f_r2 : (n : ℕ) → nodes 1 n ≡ true → AnsweredApply 1 2 n lane (history f18)
unfolding same_stamp same_bucket
took_f_r2 n h = subst (λ (i : ℕ). AnsweredApply 1 2 i lane (history f18)) (sym (one_first n h)) (record { union = no_content; number = 9; message = record { version = 1; receiver = 0; body = (plain.Apply lane no_content); round = 2 }; content = no_content; names = names []; was_sent = refl; receiver = refl; version = refl; body = refl; reply = refl; back = refl; round = refl })

abbrev f19 : List LaneEvent
f19 = event.Decided 0 1 (choice.RoundEnded lane 1) ∷ f18

may_f19 : Permits 1 (state_of (history f19)) (history f18) (meaning f18 (event.Decided 0 1 (choice.RoundEnded lane 1)))
unfolding same_stamp same_bucket
may_f19 = (refl, record { under_way = refl; idle = idle-done (history f18) done_f_r2 1 lane; answered = took_f_r2; whole = λ n a. applied-to (history f18) 1 2 (nodes 1) to_f_r2 n lane a })

placed_f19 : Placed setting f18 (event.Decided 0 1 (choice.RoundEnded lane 1))
placed_f19 = (owns1 f18 refl, tt)

live_f19 : IsLegal setting f19
live_f19 = (live_f18, record { noted = tt; permitted = may_f19; placed = placed_f19; ended = tt })

row_f_again : IsRow 1 lane (history f19)
row_f_again = record { fits = omega arith; opened = refl; row = λ key h. rw h refl }

below_f10 : NumbersBelow 10 (history f19)
below_f10 = (omega arith, (omega arith, (omega arith, (omega arith, (omega arith, (omega arith, (omega arith, (omega arith, (omega arith, tt)))))))))

abbrev f20 : List LaneEvent
f20 = event.Sent 10 1 0 0 (body.Ready lane) ∷ f19

may_f20 : Permits 1 (state_of (history f20)) (history f19) (meaning f19 (event.Sent 10 1 0 0 (body.Ready lane)))
unfolding same_stamp same_bucket
may_f20 = record { greater = λ j m h. numbers (history f19) 10 below_f10 j m h; holder = refl; member = refl; timing = inr refl; carries = tt }

placed_f20 : Placed setting f19 (event.Sent 10 1 0 0 (body.Ready lane))
placed_f20 = (owns1 f19 refl, inl row_f_again)

live_f20 : IsLegal setting f20
live_f20 = (live_f19, record { noted = tt; permitted = may_f20; placed = placed_f20; ended = tt })

takes_f10 : MayTake (pieces 0 (history f20)) (plain.Ready lane)
unfolding contains same_stamp same_bucket covers meets first_child second_child
takes_f10 = refl

abbrev f21 : List LaneEvent
f21 = event.Delivered 10 (reply.Answer [] []) ∷ f20

may_f21 : Permits 1 (state_of (history f21)) (history f20) (meaning f20 (event.Delivered 10 (reply.Answer [] [])))
unfolding same_stamp same_bucket
may_f21 = record { message = record { version = 1; receiver = 0; body = (plain.Ready lane); round = 0 }; was_sent = refl; runs = refl; reply = record { low = omega arith; has = tt; takes = takes_f10; show = λ b is. cc; show_one = λ i is. cc; fresh = λ c s h w. cc; may_delete = λ b s is. cc } }

noted_f21 : WellNoted f20 (event.Delivered 10 (reply.Answer [] []))
unfolding same_stamp same_bucket
noted_f21 = λ m h. subst (λ (x : Message). NamesShown f20 x ([]) []) (some_same (record { version = 1; receiver = 0; body = (plain.Ready lane); round = 0 }) m h) (record { rising = tt; held = tt; asked = refl; shown = refl })

live_f21 : IsLegal setting f21
live_f21 = (live_f20, record { noted = noted_f21; permitted = may_f21; placed = tt; ended = tt })

abbrev f22 : List LaneEvent
f22 = event.Returned 10 ∷ f21

may_f22 : Permits 1 (state_of (history f22)) (history f21) (meaning f21 (event.Returned 10))
unfolding same_stamp same_bucket
may_f22 = record { once = refl; reply = plain.Answer no_content (names ([])); replied = refl }

live_f22 : IsLegal setting f22
live_f22 = (live_f21, record { noted = tt; permitted = may_f22; placed = tt; ended = tt })

placed_other : Placed setting f22 (event.Decided 0 1 (choice.ActiveOn lane 0))
unfolding same_stamp same_bucket
placed_other = (owns1 f22 refl, (record { number = 10; message = record { version = 1; receiver = 0; body = (plain.Ready lane); round = 0 }; content = no_content; names = names []; was_sent = refl; receiver = refl; version = refl; body = refl; reply = refl; back = refl }, first-ideal setting f22 refl lane lane-order))

pub elsewhere : IsRefused setting active_elsewhere (event.Decided 0 1 (choice.ActiveOn lane 0))
elsewhere = record { legal = live_f22; noted = tt; placed = placed_other; ended = tt; unpermitted = λ p. (let u = (p.1).undecided 0 zero_in in absurd (let z : ◌≡◌ {A = Option ℕ} (Some 1) None = (rw zero_in at u) in cc)) }

module _ (id : Id) (inside : contains lane (key_of id) ≡ true) where
  -- ---- an acknowledgement without the active node

  row_e_ready : IsRow 1 lane (history united_one)
  row_e_ready = record { fits = omega arith; opened = refl; row = λ key h. rw h refl }

  below_e7 : NumbersBelow 7 (history united_one)
  below_e7 = (omega arith, (omega arith, (omega arith, (omega arith, (omega arith, (omega arith, tt))))))

  abbrev e1 : List LaneEvent
  e1 = event.Sent 7 1 0 0 (body.Ready lane) ∷ united_one

  may_e1 : Permits 1 (state_of (history e1)) (history united_one) (meaning united_one (event.Sent 7 1 0 0 (body.Ready lane)))
  unfolding same_stamp same_bucket
  may_e1 = record { greater = λ j m h. numbers (history united_one) 7 below_e7 j m h; holder = refl; member = refl; timing = inr refl; carries = tt }

  placed_e1 : Placed setting united_one (event.Sent 7 1 0 0 (body.Ready lane))
  placed_e1 = (owns1 united_one refl, inl row_e_ready)

  live_e1 : IsLegal setting e1
  live_e1 = (live_a23, record { noted = tt; permitted = may_e1; placed = placed_e1; ended = tt })

  takes_e7 : MayTake (pieces 0 (history e1)) (plain.Ready lane)
  unfolding contains same_stamp same_bucket covers meets first_child second_child
  takes_e7 = refl

  abbrev e2 : List LaneEvent
  e2 = event.Delivered 7 (reply.Answer [] []) ∷ e1

  may_e2 : Permits 1 (state_of (history e2)) (history e1) (meaning e1 (event.Delivered 7 (reply.Answer [] [])))
  unfolding same_stamp same_bucket
  may_e2 = record { message = record { version = 1; receiver = 0; body = (plain.Ready lane); round = 0 }; was_sent = refl; runs = refl; reply = record { low = omega arith; has = tt; takes = takes_e7; show = λ b is. cc; show_one = λ i is. cc; fresh = λ c s h w. cc; may_delete = λ b s is. cc } }

  noted_e2 : WellNoted e1 (event.Delivered 7 (reply.Answer [] []))
  unfolding same_stamp same_bucket
  noted_e2 = λ m h. subst (λ (x : Message). NamesShown e1 x ([]) []) (some_same (record { version = 1; receiver = 0; body = (plain.Ready lane); round = 0 }) m h) (record { rising = tt; held = tt; asked = refl; shown = refl })

  live_e2 : IsLegal setting e2
  live_e2 = (live_e1, record { noted = noted_e2; permitted = may_e2; placed = tt; ended = tt })

  abbrev e3 : List LaneEvent
  e3 = event.Returned 7 ∷ e2

  may_e3 : Permits 1 (state_of (history e3)) (history e2) (meaning e2 (event.Returned 7))
  unfolding same_stamp same_bucket
  may_e3 = record { once = refl; reply = plain.Answer no_content (names ([])); replied = refl }

  live_e3 : IsLegal setting e3
  live_e3 = (live_e2, record { noted = tt; permitted = may_e3; placed = tt; ended = tt })

  row_e_active : IsRow 1 lane (history e3)
  row_e_active = record { fits = omega arith; opened = refl; row = λ key h. rw h refl }

  done_e_active : LinesDone (history e3) (history e3)
  done_e_active = tt

  quiet_e_active : IsIdleRow 1 lane (history e3)
  unfolding same_stamp same_bucket
  quiet_e_active = record { row = row_e_active; no_round = refl; idle = idle-done (history e3) done_e_active 1 lane }

  abbrev e4 : List LaneEvent
  e4 = event.Decided 0 1 (choice.ActiveOn lane 0) ∷ e3

  may_e4 : Permits 1 (state_of (history e4)) (history e3) (meaning e3 (event.Decided 0 1 (choice.ActiveOn lane 0)))
  unfolding same_stamp same_bucket
  may_e4 = (refl, record { quiet = quiet_e_active; undecided = λ key h. refl; member = λ key h. rw (h, has_both_0) refl })

  placed_e4 : Placed setting e3 (event.Decided 0 1 (choice.ActiveOn lane 0))
  unfolding same_stamp same_bucket
  placed_e4 = (owns1 e3 refl, (record { number = 7; message = record { version = 1; receiver = 0; body = (plain.Ready lane); round = 0 }; content = no_content; names = names []; was_sent = refl; receiver = refl; version = refl; body = refl; reply = refl; back = refl }, first-ideal setting e3 refl lane lane-order))

  live_e4 : IsLegal setting e4
  live_e4 = (live_e3, record { noted = tt; permitted = may_e4; placed = placed_e4; ended = tt })

  done_e_line : LinesDone (history e4) (history e4)
  done_e_line = tt

  abbrev e5 : List LaneEvent
  e5 = event.Begun 1 0 1 id (Some stamp_one) ∷ e4

  may_e5 : Permits 1 (state_of (history e5)) (history e4) (meaning e4 (event.Begun 1 0 1 id (Some stamp_one)))
  unfolding same_stamp same_bucket
  may_e5 = record { fresh = refl; unrefused = refl; holder = refl; alone = λ o b h is. line-done (history e4) (history e4) done_e_line o b h; stamp = (refl, refl) }

  placed_e5 : Placed setting e4 (event.Begun 1 0 1 id (Some stamp_one))
  placed_e5 = (owns1 e4 refl, inside)

  live_e5 : IsLegal setting e5
  live_e5 = (live_e4, record { noted = tt; permitted = may_e5; placed = placed_e5; ended = tt })

  row_e_line : IsRow 1 lane (history e5)
  row_e_line = record { fits = omega arith; opened = refl; row = λ key h. rw h refl }

  abbrev e6 : List LaneEvent
  e6 = event.Prepared 1 lane 3 ∷ e5

  may_e6 : Permits 1 (state_of (history e6)) (history e5) (meaning e5 (event.Prepared 1 lane 3))
  unfolding same_stamp same_bucket
  may_e6 = record { begin = (record { distributor = 0; version = 1; id = id; stamp = Some stamp_one }); begun = refl; fresh = refl; unclosed = refl; row = row_e_line; inside = inside; no_round = refl; recipients = λ n key h. rw h (same_test (nodes 3 n)); enough = enough_3 }

  live_e6 : IsLegal setting e6
  live_e6 = (live_e5, record { noted = tt; permitted = may_e6; placed = tt; ended = tt })

  unlooked_e : EachSent NotLook (history e6)
  unfolding same_stamp same_bucket
  unlooked_e = (λ i e. cc, (λ i e. cc, (λ i e. cc, (λ i e. cc, (λ i e. cc, (λ i e. cc, (λ i e. cc, tt)))))))

  abbrev e7 : List LaneEvent
  e7 = event.Wrote 1 (record { stamp = stamp_one; id = id; body = None }) ∷ e6

  may_e7 : Permits 1 (state_of (history e7)) (history e6) (meaning e6 (event.Wrote 1 (record { stamp = stamp_one; id = id; body = None })))
  unfolding same_stamp same_bucket
  may_e7 = record { begin = (record { distributor = 0; version = 1; id = id; stamp = Some stamp_one }); begun = refl; stamp = stamp_one; stamped = refl; preparing = (record { row = lane; recipients = nodes 3 }); was_prepared = refl; unwritten = refl; unclosed = refl; seen = λ a. absurd (unasked (history e6) unlooked_e 1 (record { distributor = 0; version = 1; id = id; stamp = Some stamp_one }) a) }

  noted_e7 : WellNoted e6 (event.Wrote 1 (record { stamp = stamp_one; id = id; body = None }))
  noted_e7 = record { begin = (record { distributor = 0; version = 1; id = id; stamp = Some stamp_one }); begun = refl; stamped = refl; same_id = refl }

  live_e7 : IsLegal setting e7
  live_e7 = (live_e6, record { noted = noted_e7; permitted = may_e7; placed = tt; ended = tt })

  below_e8 : NumbersBelow 8 (history e7)
  below_e8 = (omega arith, (omega arith, (omega arith, (omega arith, (omega arith, (omega arith, (omega arith, tt)))))))

  abbrev e8 : List LaneEvent
  e8 = event.Sent 8 1 0 1 (body.Store stamp_one) ∷ e7

  may_e8 : Permits 1 (state_of (history e8)) (history e7) (meaning e7 (event.Sent 8 1 0 1 (body.Store stamp_one)))
  unfolding same_stamp same_bucket
  may_e8 = record { greater = λ j m h. numbers (history e7) 8 below_e8 j m h; holder = refl; member = refl; timing = inr refl; carries = record { belongs = record { line = 1; begin = (record { distributor = 0; version = 1; id = id; stamp = Some stamp_one }); preparing = (record { row = lane; recipients = nodes 3 }); is_open = record { began = refl; version = refl; prepared = refl; unclosed = refl }; same_id = refl; recipient = has_both_1 }; stamped = refl; written = refl } }

  noted_e8 : WellNoted e7 (event.Sent 8 1 0 1 (body.Store stamp_one))
  unfolding same_stamp
  noted_e8 = (id, refl)

  placed_e8 : Placed setting e7 (event.Sent 8 1 0 1 (body.Store stamp_one))
  placed_e8 = (owns1 e7 refl, tt)

  live_e8 : IsLegal setting e8
  live_e8 = (live_e7, record { noted = noted_e8; permitted = may_e8; placed = placed_e8; ended = tt })

  abbrev e9 : List LaneEvent
  e9 = event.Delivered 8 (reply.Answer [] []) ∷ e8

  may_e9 : Permits 1 (state_of (history e9)) (history e8) (meaning e8 (event.Delivered 8 (reply.Answer [] [])))
  unfolding same_stamp same_bucket
  may_e9 = record { message = record { version = 1; receiver = 1; body = (plain.Store id stamp_one); round = 0 }; was_sent = refl; runs = refl; reply = record { low = omega arith; has = rw inside refl; takes = tt; show = λ b is. cc; show_one = λ i is. cc; fresh = λ c s h w. cc; may_delete = λ b s is. cc } }

  noted_e9 : WellNoted e8 (event.Delivered 8 (reply.Answer [] []))
  unfolding same_stamp same_bucket
  noted_e9 = λ m h. subst (λ (x : Message). NamesShown e8 x ([]) []) (some_same (record { version = 1; receiver = 1; body = (plain.Store id stamp_one); round = 0 }) m h) (record { rising = tt; held = tt; asked = refl; shown = refl })

  live_e9 : IsLegal setting e9
  live_e9 = (live_e8, record { noted = noted_e9; permitted = may_e9; placed = tt; ended = tt })

  abbrev e10 : List LaneEvent
  e10 = event.Returned 8 ∷ e9

  may_e10 : Permits 1 (state_of (history e10)) (history e9) (meaning e9 (event.Returned 8))
  unfolding same_stamp same_bucket
  may_e10 = record { once = refl; reply = plain.Answer no_content (names ([])); replied = refl }

  live_e10 : IsLegal setting e10
  live_e10 = (live_e9, record { noted = tt; permitted = may_e10; placed = tt; ended = tt })

  not_stored : EachSent (NotStore id stamp_one 0) (history e10)
  unfolding same_stamp same_bucket
  not_stored = ((λ e. absurd (let x : 1 ≡ 0 = e in omega arith)), ((λ e. refl), ((λ e. refl), ((λ e. refl), ((λ e. refl), ((λ e. refl), ((λ e. refl), ((λ e. refl), tt))))))))

  pub unanswered : IsRefused setting (acked_without_active id) (event.Closed 1 (outcome.Acked stamp_one))
  unanswered = record { legal = live_e10; noted = tt; placed = tt; ended = ((record { distributor = 0; version = 1; id = id; stamp = Some stamp_one }), refl, (refl, refl)); unpermitted = λ p. refused p.begin p.begun (p.acked refl) }
    where
      refused : (b : Beginning) → began 1 (history e10) ≡ Some b → MayAck 1 (history e10) 1 b → ⊥
      refused b f a =
          let same : (record { distributor = 0; version = 1; id = id; stamp = Some stamp_one }) ≡ b = some_same (record { distributor = 0; version = 1; id = id; stamp = Some stamp_one }) b f in
          own (subst (λ (x : Beginning). MayAck 1 (history e10) 1 x) (sym same) a)
        where
          own : MayAck 1 (history e10) 1 (record { distributor = 0; version = 1; id = id; stamp = Some stamp_one }) → ⊥
          own a =
              let stamp : stamp_one ≡ a.stamp = some_same stamp_one a.stamp a.stamped in
              let row : (record { row = lane; recipients = nodes 3 }) ≡ a.preparing = some_same (record { row = lane; recipients = nodes 3 }) a.preparing a.was_prepared in
              let here : contains (a.preparing).row (key_of id) ≡ true = subst (λ (p : Preparing). contains p.row (key_of id) ≡ true) row inside in
              let x = a.active 0 (key_of id) here (rw inside refl) in
              unstored (history e10) (history e10) 1 id stamp_one 0 not_stored (subst (λ (s : Stamp). answered_store 1 id s 0 (history e10) ≡ true) (sym stamp) x)
