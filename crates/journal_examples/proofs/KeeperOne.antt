-- A lane of one copy: node 1 has a piece of the whole, and node 0 is complete in it.
use Rattle.std.proofs.Common.{◌≡◌, ℕ, true, false, List, [], ◌∷◌, Some, None, refl, sym, ap, subst, arith, inl, inr}
use Rattle.lane_journals.specs.Stamps.{Le, same_stamp}
use Rattle.lane_journals.specs.Buckets.{Bucket, contains, same_bucket, covers, meets, first_child, second_child, Id, key_of}
use Rattle.lane_journals.specs.Readers.{round_of, Message, Given, answer, running}
use Rattle.lane_journals.specs.Facts.{AnsweredApply, IsRow}
use Rattle.lane_journals.specs.Legal.{MayShow, MayUnite, IsIdleRow, Permits}
use Rattle.lane_journals.specs.States.{state_of}
use Rattle.lane_journals.specs.Meanings.{nodes, names, meaning, history}
use Rattle.lane_journals.specs.Naming.{NamesShown, WellNoted}
use Rattle.lane_journals.specs.Pieces.{pieces, MayTake}
use Rattle.lane_journals.specs.Places.{Placed}
use Rattle.lane_journals.specs.KeptJournals.{IsLegal}
use Rattle.journal_examples.specs.Lives.{asked_both}
use Rattle.journal_examples.specs.WrongSteps.{whole, half, one_copy}
use Rattle.lane_journals.specs.declared.event.LaneEvent.{LaneEvent}
use Rattle.lane_journals.proofs.Order.{Le_none}
use Rattle.lane_journals.proofs.BucketLaws.{first_in}
use Rattle.journal_examples.proofs.Walking.{no_content, EachSent, NumbersBelow, numbers, NotOf, unapplied, GoesTo, applied-to, LinesDone, idle-done, EachReply, NotNamed, unnamed-yet}
use Rattle.journal_examples.proofs.LifeFacts.{owns-one, some_same, same_read, two_1, has_one_0, has_two_1, two_last, one_first, nothing_joined, shows_nothing, shows_piece, row_of}
use Rattle.journal_examples.proofs.Firsts.{receive_whole, receive_half}
use Rattle.journal_examples.proofs.Halves.{half-in, half-out, second_is, first-fits, whole_bucket}
use Rattle.journal_examples.proofs.LifeOne.{all_a1, only_a1, live_a8}
use Rattle.lane_journals.specs.Events as plain
use Rattle.messages.specs.declared.noted.NotedBody.TheVariants as body
use Rattle.messages.specs.declared.noted.NotedReply.TheVariants as reply
use Rattle.messages.specs.declared.decision.Decision.TheVariants as choice
use Rattle.lane_journals.specs.declared.event.LaneEvent.TheVariants as event

abbrev g1 : List LaneEvent
g1 = event.Opened 0 1 (whole ∷ []) ∷ asked_both

may_g1 : Permits 1 (state_of (history g1)) (history asked_both) (meaning asked_both (event.Opened 0 1 (whole ∷ [])))
unfolding same_stamp same_bucket
may_g1 = record { holder = refl; parted = (omega arith, (λ key h. refl), tt); once = refl; all = all_a1; state = refl }

placed_g1 : Placed one_copy asked_both (event.Opened 0 1 (whole ∷ []))
placed_g1 = (owns-one one_copy asked_both refl, row_of one_copy asked_both 1 whole_bucket (only_a1 whole))

live_g1 : IsLegal one_copy g1
live_g1 = (live_a8 whole 1, record { noted = tt; permitted = may_g1; placed = placed_g1; ended = tt })

row_g1 : IsRow 1 whole (history g1)
row_g1 = record { fits = omega arith; opened = refl; row = λ key h. rw h refl }

done_g1 : LinesDone (history g1) (history g1)
done_g1 = tt

quiet_g1 : IsIdleRow 1 whole (history g1)
unfolding same_stamp same_bucket
quiet_g1 = record { row = row_g1; no_round = refl; idle = idle-done (history g1) done_g1 1 whole }

abbrev g2 : List LaneEvent
g2 = event.Decided 0 1 (choice.RowSplit whole) ∷ g1

may_g2 : Permits 1 (state_of (history g2)) (history g1) (meaning g1 (event.Decided 0 1 (choice.RowSplit whole)))
unfolding same_stamp same_bucket
may_g2 = (refl, (omega arith, quiet_g1))

placed_g2 : Placed one_copy g1 (event.Decided 0 1 (choice.RowSplit whole))
placed_g2 = (owns-one one_copy g1 refl, tt)

live_g2 : IsLegal one_copy g2
live_g2 = (live_g1, record { noted = tt; permitted = may_g2; placed = placed_g2; ended = tt })

second_g1 : IsRow 1 half (history g2)
second_g1 = record { fits = omega arith; opened = refl; row = λ key h. rw (half-in key h, half-out key h) (ap Some second_is) }

first_g1 : IsRow 1 (first_child whole) (history g2)
first_g1 = record { fits = first-fits; opened = refl; row = λ key h. rw (first_in whole key (omega arith) h, h) refl }

done_g2 : LinesDone (history g2) (history g2)
done_g2 = tt

quiet_g2 : IsIdleRow 1 half (history g2)
unfolding same_stamp same_bucket
quiet_g2 = record { row = second_g1; no_round = refl; idle = idle-done (history g2) done_g2 1 half }

abbrev g3 : List LaneEvent
g3 = event.Decided 0 1 (choice.RoundBegun half 2) ∷ g2

may_g3 : Permits 1 (state_of (history g3)) (history g2) (meaning g2 (event.Decided 0 1 (choice.RoundBegun half 2)))
unfolding same_stamp same_bucket
may_g3 = (refl, quiet_g2)

placed_g3 : Placed one_copy g2 (event.Decided 0 1 (choice.RoundBegun half 2))
placed_g3 = (owns-one one_copy g2 refl, receive_half g2 refl (λ key. refl))

live_g3 : IsLegal one_copy g3
live_g3 = (live_g2, record { noted = tt; permitted = may_g3; placed = placed_g3; ended = tt })

below_g3 : NumbersBelow 3 (history g3)
below_g3 = (omega arith, (omega arith, tt))

none_g3 : EachSent (NotOf 1 1) (history g3)
unfolding same_stamp same_bucket
none_g3 = ((λ b u e f g. cc), ((λ b u e f g. cc), tt))

abbrev g4 : List LaneEvent
g4 = event.Sent 3 1 0 0 (body.Read half None) ∷ g3

may_g4 : Permits 1 (state_of (history g4)) (history g3) (meaning g3 (event.Sent 3 1 0 0 (body.Read half None)))
unfolding same_stamp same_bucket
may_g4 = record { greater = λ j m h. numbers (history g3) 3 below_g3 j m h; holder = refl; member = refl; timing = inr refl; carries = record { under_way = refl; first = λ m u a. unapplied (history g3) 1 1 none_g3 m half u a } }

placed_g4 : Placed one_copy g3 (event.Sent 3 1 0 0 (body.Read half None))
placed_g4 = (owns-one one_copy g3 refl, tt)

live_g4 : IsLegal one_copy g4
live_g4 = (live_g3, record { noted = tt; permitted = may_g4; placed = placed_g4; ended = tt })

shows_g3 : MayShow (history g4) 0 half (record { content = no_content; names = names ([]) })
unfolding same_stamp
shows_g3 = record { content = λ i h. refl; only = λ i h. refl; serial = λ c s has u q d h shown had. cc }

abbrev g5 : List LaneEvent
g5 = event.Delivered 3 (reply.Answer [] []) ∷ g4

may_g5 : Permits 1 (state_of (history g5)) (history g4) (meaning g4 (event.Delivered 3 (reply.Answer [] [])))
unfolding same_stamp same_bucket
may_g5 = record { message = record { version = 1; receiver = 0; body = (plain.Read half); round = 1 }; was_sent = refl; runs = refl; reply = record { low = omega arith; has = tt; takes = tt; show = λ b is. subst (λ (x : Bucket). MayShow (history g4) 0 x (record { content = no_content; names = names ([]) })) (same_read half b is) shows_g3; show_one = λ i is. cc; fresh = λ c s h w. cc; may_delete = λ b s is. cc } }

noted_g5 : WellNoted g4 (event.Delivered 3 (reply.Answer [] []))
unfolding same_stamp same_bucket
noted_g5 = λ m h. subst (λ (x : Message). NamesShown g4 x ([]) []) (some_same (record { version = 1; receiver = 0; body = (plain.Read half); round = 1 }) m h) (record { rising = tt; held = tt; asked = tt; shown = shows_nothing (λ c. meets half c) })

live_g5 : IsLegal one_copy g5
live_g5 = (live_g4, record { noted = noted_g5; permitted = may_g5; placed = tt; ended = tt })

abbrev g6 : List LaneEvent
g6 = event.Returned 3 ∷ g5

may_g6 : Permits 1 (state_of (history g6)) (history g5) (meaning g5 (event.Returned 3))
unfolding same_stamp same_bucket
may_g6 = record { once = refl; reply = plain.Answer no_content (names ([])); replied = refl }

live_g6 : IsLegal one_copy g6
live_g6 = (live_g5, record { noted = tt; permitted = may_g6; placed = tt; ended = tt })

below_g4 : NumbersBelow 4 (history g6)
below_g4 = (omega arith, (omega arith, (omega arith, tt)))

none_g4 : EachSent (NotOf 1 1) (history g6)
unfolding same_stamp same_bucket
none_g4 = ((λ b u e f g. cc), ((λ b u e f g. cc), ((λ b u e f g. cc), tt)))

abbrev g7 : List LaneEvent
g7 = event.Sent 4 1 0 1 (body.Read half None) ∷ g6

may_g7 : Permits 1 (state_of (history g7)) (history g6) (meaning g6 (event.Sent 4 1 0 1 (body.Read half None)))
unfolding same_stamp same_bucket
may_g7 = record { greater = λ j m h. numbers (history g6) 4 below_g4 j m h; holder = refl; member = refl; timing = inr refl; carries = record { under_way = refl; first = λ m u a. unapplied (history g6) 1 1 none_g4 m half u a } }

placed_g7 : Placed one_copy g6 (event.Sent 4 1 0 1 (body.Read half None))
placed_g7 = (owns-one one_copy g6 refl, tt)

live_g7 : IsLegal one_copy g7
live_g7 = (live_g6, record { noted = tt; permitted = may_g7; placed = placed_g7; ended = tt })

shows_g4 : MayShow (history g7) 1 half (record { content = no_content; names = names ([]) })
unfolding same_stamp
shows_g4 = record { content = λ i h. refl; only = λ i h. refl; serial = λ c s has u q d h shown had. cc }

abbrev g8 : List LaneEvent
g8 = event.Delivered 4 (reply.Answer [] []) ∷ g7

may_g8 : Permits 1 (state_of (history g8)) (history g7) (meaning g7 (event.Delivered 4 (reply.Answer [] [])))
unfolding same_stamp same_bucket
may_g8 = record { message = record { version = 1; receiver = 1; body = (plain.Read half); round = 1 }; was_sent = refl; runs = refl; reply = record { low = omega arith; has = tt; takes = tt; show = λ b is. subst (λ (x : Bucket). MayShow (history g7) 1 x (record { content = no_content; names = names ([]) })) (same_read half b is) shows_g4; show_one = λ i is. cc; fresh = λ c s h w. cc; may_delete = λ b s is. cc } }

noted_g8 : WellNoted g7 (event.Delivered 4 (reply.Answer [] []))
unfolding same_stamp same_bucket
noted_g8 = λ m h. subst (λ (x : Message). NamesShown g7 x ([]) []) (some_same (record { version = 1; receiver = 1; body = (plain.Read half); round = 1 }) m h) (record { rising = tt; held = tt; asked = tt; shown = shows_nothing (λ c. meets half c) })

live_g8 : IsLegal one_copy g8
live_g8 = (live_g7, record { noted = noted_g8; permitted = may_g8; placed = tt; ended = tt })

abbrev g9 : List LaneEvent
g9 = event.Returned 4 ∷ g8

may_g9 : Permits 1 (state_of (history g9)) (history g8) (meaning g8 (event.Returned 4))
unfolding same_stamp same_bucket
may_g9 = record { once = refl; reply = plain.Answer no_content (names ([])); replied = refl }

live_g9 : IsLegal one_copy g9
live_g9 = (live_g8, record { noted = tt; permitted = may_g9; placed = tt; ended = tt })

below_g5 : NumbersBelow 5 (history g9)
below_g5 = (omega arith, (omega arith, (omega arith, (omega arith, tt))))

unites_g5 : MayUnite (state_of (history g9)) (history g9) 1 half no_content
unfolding same_stamp same_bucket
unites_g5 = record {
  under_way = refl;
  covers = λ m h. elim (two_1 m h) [
    | inl is ↦ subst (λ (m : ℕ). (g : Given) × (answer 1 (round_of 1 half (history g9)) m (history g9) ≡ Some g) × ((i : Id) → Le (g.content i) (no_content i))) (sym is) (record { content = no_content; names = names ([]) }, refl, λ i. Le_none _)
    | inr is ↦ subst (λ (m : ℕ). (g : Given) × (answer 1 (round_of 1 half (history g9)) m (history g9) ≡ Some g) × ((i : Id) → Le (g.content i) (no_content i))) (sym is) (record { content = no_content; names = names ([]) }, refl, λ i. Le_none _)
  ];
  attained = λ i s h. cc;
}

abbrev g10 : List LaneEvent
g10 = event.Sent 5 1 0 1 (body.Apply half []) ∷ g9

may_g10 : Permits 1 (state_of (history g10)) (history g9) (meaning g9 (event.Sent 5 1 0 1 (body.Apply half [])))
unfolding same_stamp same_bucket
may_g10 = record { greater = λ j m h. numbers (history g9) 5 below_g5 j m h; holder = refl; member = refl; timing = inr refl; carries = unites_g5 }

noted_g10 : WellNoted g9 (event.Sent 5 1 0 1 (body.Apply half []))
noted_g10 = (tt, tt)

placed_g10 : Placed one_copy g9 (event.Sent 5 1 0 1 (body.Apply half []))
unfolding same_bucket
placed_g10 = (owns-one one_copy g9 refl, (2, refl, has_two_1))

live_g10 : IsLegal one_copy g10
live_g10 = (live_g9, record { noted = noted_g10; permitted = may_g10; placed = placed_g10; ended = tt })

abbrev g11 : List LaneEvent
g11 = event.Delivered 5 (reply.Answer [] []) ∷ g10

may_g11 : Permits 1 (state_of (history g11)) (history g10) (meaning g10 (event.Delivered 5 (reply.Answer [] [])))
unfolding same_stamp same_bucket
may_g11 = record { message = record { version = 1; receiver = 1; body = (plain.Apply half no_content); round = 1 }; was_sent = refl; runs = refl; reply = record { low = omega arith; has = tt; takes = tt; show = λ b is. cc; show_one = λ i is. cc; fresh = λ c s h w. cc; may_delete = λ b s is. cc } }

noted_g11 : WellNoted g10 (event.Delivered 5 (reply.Answer [] []))
unfolding same_stamp same_bucket
noted_g11 = λ m h. subst (λ (x : Message). NamesShown g10 x ([]) []) (some_same (record { version = 1; receiver = 1; body = (plain.Apply half no_content); round = 1 }) m h) (record { rising = tt; held = tt; asked = refl; shown = refl })

live_g11 : IsLegal one_copy g11
live_g11 = (live_g10, record { noted = noted_g11; permitted = may_g11; placed = tt; ended = tt })

abbrev g12 : List LaneEvent
g12 = event.Returned 5 ∷ g11

may_g12 : Permits 1 (state_of (history g12)) (history g11) (meaning g11 (event.Returned 5))
unfolding same_stamp same_bucket
may_g12 = record { once = refl; reply = plain.Answer no_content (names ([])); replied = refl }

live_g12 : IsLegal one_copy g12
live_g12 = (live_g11, record { noted = tt; permitted = may_g12; placed = tt; ended = tt })

to_g_r1 : EachSent (GoesTo 1 1 (nodes 2)) (history g12)
unfolding same_stamp same_bucket
to_g_r1 = ((λ b u e f g. has_two_1), ((λ b u e f g. cc), ((λ b u e f g. cc), ((λ b u e f g. cc), ((λ b u e f g. cc), tt)))))

done_g_r1 : LinesDone (history g12) (history g12)
done_g_r1 = tt

took_g_r1 : (n : ℕ) → nodes 2 n ≡ true → AnsweredApply 1 1 n half (history g12)
unfolding same_stamp same_bucket
took_g_r1 n h = subst (λ (i : ℕ). AnsweredApply 1 1 i half (history g12)) (sym (two_last n h)) (record { union = no_content; number = 5; message = record { version = 1; receiver = 1; body = (plain.Apply half no_content); round = 1 }; content = no_content; names = names []; was_sent = refl; receiver = refl; version = refl; body = refl; reply = refl; back = refl; round = refl })

abbrev g13 : List LaneEvent
g13 = event.Decided 0 1 (choice.RoundEnded half 2) ∷ g12

may_g13 : Permits 1 (state_of (history g13)) (history g12) (meaning g12 (event.Decided 0 1 (choice.RoundEnded half 2)))
unfolding same_stamp same_bucket
may_g13 = (refl, record { under_way = refl; idle = idle-done (history g12) done_g_r1 1 half; answered = took_g_r1; whole = λ n a. applied-to (history g12) 1 1 (nodes 2) to_g_r1 n half a })

placed_g13 : Placed one_copy g12 (event.Decided 0 1 (choice.RoundEnded half 2))
placed_g13 = (owns-one one_copy g12 refl, tt)

live_g13 : IsLegal one_copy g13
live_g13 = (live_g12, record { noted = tt; permitted = may_g13; placed = placed_g13; ended = tt })

done_g3 : LinesDone (history g13) (history g13)
done_g3 = tt

quietly_g3 : (b : Bucket) → IsRow 1 b (history g13) → running 1 b (history g13) ≡ false → IsIdleRow 1 b (history g13)
quietly_g3 b r h = record { row = r; no_round = h; idle = idle-done (history g13) done_g3 1 b }

still_g3_1 : running 1 (first_child whole) (history g13) ≡ false
unfolding same_bucket first_child
still_g3_1 = refl

still_g3_2 : running 1 half (history g13) ≡ false
unfolding same_bucket
still_g3_2 = refl

firstly_g3 : IsRow 1 (first_child whole) (history g13)
firstly_g3 = record { fits = first-fits; opened = refl; row = (first_g1).row }

secondly_g3 : IsRow 1 half (history g13)
secondly_g3 = record { fits = omega arith; opened = refl; row = (second_g1).row }

second-quiet_g3 : IsIdleRow 1 (second_child whole) (history g13)
unfolding second_child
second-quiet_g3 = quietly_g3 half secondly_g3 still_g3_2

abbrev g14 : List LaneEvent
g14 = event.Decided 0 1 (choice.RowsJoined whole) ∷ g13

may_g14 : Permits 1 (state_of (history g14)) (history g13) (meaning g13 (event.Decided 0 1 (choice.RowsJoined whole)))
unfolding same_stamp
may_g14 = (refl, record { fits = omega arith; first = quietly_g3 (first_child whole) firstly_g3 still_g3_1; second = second-quiet_g3; same_active = λ key h. refl; one_delete = λ key h. inl refl })

placed_g14 : Placed one_copy g13 (event.Decided 0 1 (choice.RowsJoined whole))
placed_g14 = (owns-one one_copy g13 refl, omega arith)

live_g14 : IsLegal one_copy g14
live_g14 = (live_g13, record { noted = tt; permitted = may_g14; placed = placed_g14; ended = tt })

row_g4 : IsRow 1 whole (history g14)
row_g4 = record { fits = omega arith; opened = refl; row = λ key h. rw h refl }

below_g6 : NumbersBelow 6 (history g14)
below_g6 = (omega arith, (omega arith, (omega arith, (omega arith, (omega arith, tt)))))

abbrev g15 : List LaneEvent
g15 = event.Sent 6 1 0 1 (body.Join whole) ∷ g14

may_g15 : Permits 1 (state_of (history g15)) (history g14) (meaning g14 (event.Sent 6 1 0 1 (body.Join whole)))
unfolding same_stamp same_bucket
may_g15 = record { greater = λ j m h. numbers (history g14) 6 below_g6 j m h; holder = refl; member = refl; timing = inr refl; carries = omega arith }

placed_g15 : Placed one_copy g14 (event.Sent 6 1 0 1 (body.Join whole))
placed_g15 = (owns-one one_copy g14 refl, inl row_g4)

live_g15 : IsLegal one_copy g15
live_g15 = (live_g14, record { noted = tt; permitted = may_g15; placed = placed_g15; ended = tt })

takes_g6 : MayTake (pieces 1 (history g15)) (plain.Join whole)
unfolding contains same_stamp same_bucket covers meets first_child second_child
takes_g6 = refl

abbrev g16 : List LaneEvent
g16 = event.Delivered 6 (reply.Answer [] []) ∷ g15

may_g16 : Permits 1 (state_of (history g16)) (history g15) (meaning g15 (event.Delivered 6 (reply.Answer [] [])))
unfolding same_stamp same_bucket
may_g16 = record { message = record { version = 1; receiver = 1; body = (plain.Join whole); round = 0 }; was_sent = refl; runs = refl; reply = record { low = omega arith; has = tt; takes = takes_g6; show = λ b is. cc; show_one = λ i is. cc; fresh = λ c s h w. cc; may_delete = λ b s is. cc } }

noted_g16 : WellNoted g15 (event.Delivered 6 (reply.Answer [] []))
unfolding same_stamp same_bucket
noted_g16 = λ m h. subst (λ (x : Message). NamesShown g15 x ([]) []) (some_same (record { version = 1; receiver = 1; body = (plain.Join whole); round = 0 }) m h) (record { rising = tt; held = tt; asked = refl; shown = refl })

live_g16 : IsLegal one_copy g16
live_g16 = (live_g15, record { noted = noted_g16; permitted = may_g16; placed = tt; ended = tt })

row_g5 : IsRow 1 whole (history g16)
row_g5 = record { fits = omega arith; opened = refl; row = λ key h. rw h refl }

done_g5 : LinesDone (history g16) (history g16)
done_g5 = tt

quiet_g5 : IsIdleRow 1 whole (history g16)
unfolding same_stamp same_bucket
quiet_g5 = record { row = row_g5; no_round = refl; idle = idle-done (history g16) done_g5 1 whole }

abbrev g17 : List LaneEvent
g17 = event.Decided 0 1 (choice.RoundBegun whole 1) ∷ g16

may_g17 : Permits 1 (state_of (history g17)) (history g16) (meaning g16 (event.Decided 0 1 (choice.RoundBegun whole 1)))
unfolding same_stamp same_bucket
may_g17 = (refl, quiet_g5)

placed_g17 : Placed one_copy g16 (event.Decided 0 1 (choice.RoundBegun whole 1))
placed_g17 = (owns-one one_copy g16 refl, receive_whole g16 refl (λ key. refl))

live_g17 : IsLegal one_copy g17
live_g17 = (live_g16, record { noted = tt; permitted = may_g17; placed = placed_g17; ended = tt })

below_g7 : NumbersBelow 7 (history g17)
below_g7 = (omega arith, (omega arith, (omega arith, (omega arith, (omega arith, (omega arith, tt))))))

none_g7 : EachSent (NotOf 1 2) (history g17)
unfolding same_stamp same_bucket
none_g7 = ((λ b u e f g. cc), ((λ b u e f g. (let x : 1 ≡ 2 = g in omega arith)), ((λ b u e f g. cc), ((λ b u e f g. cc), ((λ b u e f g. cc), ((λ b u e f g. cc), tt))))))

abbrev g18 : List LaneEvent
g18 = event.Sent 7 1 0 0 (body.Read whole None) ∷ g17

may_g18 : Permits 1 (state_of (history g18)) (history g17) (meaning g17 (event.Sent 7 1 0 0 (body.Read whole None)))
unfolding same_stamp same_bucket
may_g18 = record { greater = λ j m h. numbers (history g17) 7 below_g7 j m h; holder = refl; member = refl; timing = inr refl; carries = record { under_way = refl; first = λ m u a. unapplied (history g17) 1 2 none_g7 m whole u a } }

placed_g18 : Placed one_copy g17 (event.Sent 7 1 0 0 (body.Read whole None))
placed_g18 = (owns-one one_copy g17 refl, tt)

live_g18 : IsLegal one_copy g18
live_g18 = (live_g17, record { noted = tt; permitted = may_g18; placed = placed_g18; ended = tt })

shows_g7 : MayShow (history g18) 0 whole (record { content = no_content; names = names ([]) })
unfolding same_stamp
shows_g7 = record { content = λ i h. refl; only = λ i h. refl; serial = λ c s has u q d h shown had. cc }

abbrev g19 : List LaneEvent
g19 = event.Delivered 7 (reply.Answer [] []) ∷ g18

may_g19 : Permits 1 (state_of (history g19)) (history g18) (meaning g18 (event.Delivered 7 (reply.Answer [] [])))
unfolding same_stamp same_bucket
may_g19 = record { message = record { version = 1; receiver = 0; body = (plain.Read whole); round = 2 }; was_sent = refl; runs = refl; reply = record { low = omega arith; has = tt; takes = tt; show = λ b is. subst (λ (x : Bucket). MayShow (history g18) 0 x (record { content = no_content; names = names ([]) })) (same_read whole b is) shows_g7; show_one = λ i is. cc; fresh = λ c s h w. cc; may_delete = λ b s is. cc } }

noted_g19 : WellNoted g18 (event.Delivered 7 (reply.Answer [] []))
unfolding same_stamp same_bucket
noted_g19 = λ m h. subst (λ (x : Message). NamesShown g18 x ([]) []) (some_same (record { version = 1; receiver = 0; body = (plain.Read whole); round = 2 }) m h) (record { rising = tt; held = tt; asked = tt; shown = shows_nothing (λ c. meets whole c) })

live_g19 : IsLegal one_copy g19
live_g19 = (live_g18, record { noted = noted_g19; permitted = may_g19; placed = tt; ended = tt })

abbrev g20 : List LaneEvent
g20 = event.Returned 7 ∷ g19

may_g20 : Permits 1 (state_of (history g20)) (history g19) (meaning g19 (event.Returned 7))
unfolding same_stamp same_bucket
may_g20 = record { once = refl; reply = plain.Answer no_content (names ([])); replied = refl }

live_g20 : IsLegal one_copy g20
live_g20 = (live_g19, record { noted = tt; permitted = may_g20; placed = tt; ended = tt })

below_g8 : NumbersBelow 8 (history g20)
below_g8 = (omega arith, (omega arith, (omega arith, (omega arith, (omega arith, (omega arith, (omega arith, tt)))))))

none_g8 : EachSent (NotOf 1 2) (history g20)
unfolding same_stamp same_bucket
none_g8 = ((λ b u e f g. cc), ((λ b u e f g. cc), ((λ b u e f g. (let x : 1 ≡ 2 = g in omega arith)), ((λ b u e f g. cc), ((λ b u e f g. cc), ((λ b u e f g. cc), ((λ b u e f g. cc), tt)))))))

abbrev g21 : List LaneEvent
g21 = event.Sent 8 1 0 1 (body.Read whole None) ∷ g20

may_g21 : Permits 1 (state_of (history g21)) (history g20) (meaning g20 (event.Sent 8 1 0 1 (body.Read whole None)))
unfolding same_stamp same_bucket
may_g21 = record { greater = λ j m h. numbers (history g20) 8 below_g8 j m h; holder = refl; member = refl; timing = inr refl; carries = record { under_way = refl; first = λ m u a. unapplied (history g20) 1 2 none_g8 m whole u a } }

placed_g21 : Placed one_copy g20 (event.Sent 8 1 0 1 (body.Read whole None))
placed_g21 = (owns-one one_copy g20 refl, tt)

live_g21 : IsLegal one_copy g21
live_g21 = (live_g20, record { noted = tt; permitted = may_g21; placed = placed_g21; ended = tt })

unnamed_g8 : EachReply (NotNamed (history g21) 1) (history g21)
unfolding same_stamp same_bucket
unnamed_g8 = (inl (λ c s. refl), (inl (λ c s. refl), (inl (λ c s. refl), (inl (λ c s. refl), (inl (λ c s. refl), (inl (λ c s. refl), (inl (λ c s. refl), tt)))))))

shows_g8 : MayShow (history g21) 1 whole (record { content = no_content; names = names (record { bucket = whole; serial = 3; ready = false } ∷ []) })
unfolding same_stamp
shows_g8 = record { content = λ i h. sym (nothing_joined (contains half (key_of i))); only = λ i h. refl; serial = λ c s has u q d h shown had. absurd (unnamed-yet (history g21) 1 unnamed_g8 u q d h c s shown had) }

abbrev g22 : List LaneEvent
g22 = event.Delivered 8 (reply.Answer (record { bucket = whole; serial = 3; ready = false } ∷ []) []) ∷ g21

may_g22 : Permits 1 (state_of (history g22)) (history g21) (meaning g21 (event.Delivered 8 (reply.Answer (record { bucket = whole; serial = 3; ready = false } ∷ []) [])))
unfolding same_stamp same_bucket
may_g22 = record { message = record { version = 1; receiver = 1; body = (plain.Read whole); round = 2 }; was_sent = refl; runs = refl; reply = record { low = omega arith; has = tt; takes = tt; show = λ b is. subst (λ (x : Bucket). MayShow (history g21) 1 x (record { content = no_content; names = names (record { bucket = whole; serial = 3; ready = false } ∷ []) })) (same_read whole b is) shows_g8; show_one = λ i is. cc; fresh = λ c s h w. cc; may_delete = λ b s is. cc } }

noted_g22 : WellNoted g21 (event.Delivered 8 (reply.Answer (record { bucket = whole; serial = 3; ready = false } ∷ []) []))
unfolding same_stamp same_bucket covers contains meets first_child second_child
noted_g22 = λ m h. subst (λ (x : Message). NamesShown g21 x (record { bucket = whole; serial = 3; ready = false } ∷ []) []) (some_same (record { version = 1; receiver = 1; body = (plain.Read whole); round = 2 }) m h) (record { rising = tt; held = tt; asked = tt; shown = shows_piece whole 3 false (λ c. meets whole c) refl })

live_g22 : IsLegal one_copy g22
live_g22 = (live_g21, record { noted = noted_g22; permitted = may_g22; placed = tt; ended = tt })

abbrev g23 : List LaneEvent
g23 = event.Returned 8 ∷ g22

may_g23 : Permits 1 (state_of (history g23)) (history g22) (meaning g22 (event.Returned 8))
unfolding same_stamp same_bucket
may_g23 = record { once = refl; reply = plain.Answer no_content (names (record { bucket = whole; serial = 3; ready = false } ∷ [])); replied = refl }

live_g23 : IsLegal one_copy g23
live_g23 = (live_g22, record { noted = tt; permitted = may_g23; placed = tt; ended = tt })

below_g9 : NumbersBelow 9 (history g23)
below_g9 = (omega arith, (omega arith, (omega arith, (omega arith, (omega arith, (omega arith, (omega arith, (omega arith, tt))))))))

unites_g9 : MayUnite (state_of (history g23)) (history g23) 1 whole no_content
unfolding same_stamp same_bucket
unites_g9 = record {
  under_way = refl;
  covers = λ m h. elim (two_1 m h) [
    | inl is ↦ subst (λ (m : ℕ). (g : Given) × (answer 1 (round_of 1 whole (history g23)) m (history g23) ≡ Some g) × ((i : Id) → Le (g.content i) (no_content i))) (sym is) (record { content = no_content; names = names ([]) }, refl, λ i. Le_none _)
    | inr is ↦ subst (λ (m : ℕ). (g : Given) × (answer 1 (round_of 1 whole (history g23)) m (history g23) ≡ Some g) × ((i : Id) → Le (g.content i) (no_content i))) (sym is) (record { content = no_content; names = names (record { bucket = whole; serial = 3; ready = false } ∷ []) }, refl, λ i. Le_none _)
  ];
  attained = λ i s h. cc;
}

abbrev g24 : List LaneEvent
g24 = event.Sent 9 1 0 0 (body.Apply whole []) ∷ g23

may_g24 : Permits 1 (state_of (history g24)) (history g23) (meaning g23 (event.Sent 9 1 0 0 (body.Apply whole [])))
unfolding same_stamp same_bucket
may_g24 = record { greater = λ j m h. numbers (history g23) 9 below_g9 j m h; holder = refl; member = refl; timing = inr refl; carries = unites_g9 }

noted_g24 : WellNoted g23 (event.Sent 9 1 0 0 (body.Apply whole []))
noted_g24 = (tt, tt)

placed_g24 : Placed one_copy g23 (event.Sent 9 1 0 0 (body.Apply whole []))
unfolding same_bucket
placed_g24 = (owns-one one_copy g23 refl, (1, refl, has_one_0))

live_g24 : IsLegal one_copy g24
live_g24 = (live_g23, record { noted = noted_g24; permitted = may_g24; placed = placed_g24; ended = tt })

abbrev g25 : List LaneEvent
g25 = event.Delivered 9 (reply.Answer [] []) ∷ g24

may_g25 : Permits 1 (state_of (history g25)) (history g24) (meaning g24 (event.Delivered 9 (reply.Answer [] [])))
unfolding same_stamp same_bucket
may_g25 = record { message = record { version = 1; receiver = 0; body = (plain.Apply whole no_content); round = 2 }; was_sent = refl; runs = refl; reply = record { low = omega arith; has = tt; takes = tt; show = λ b is. cc; show_one = λ i is. cc; fresh = λ c s h w. cc; may_delete = λ b s is. cc } }

noted_g25 : WellNoted g24 (event.Delivered 9 (reply.Answer [] []))
unfolding same_stamp same_bucket
noted_g25 = λ m h. subst (λ (x : Message). NamesShown g24 x ([]) []) (some_same (record { version = 1; receiver = 0; body = (plain.Apply whole no_content); round = 2 }) m h) (record { rising = tt; held = tt; asked = refl; shown = refl })

live_g25 : IsLegal one_copy g25
live_g25 = (live_g24, record { noted = noted_g25; permitted = may_g25; placed = tt; ended = tt })

abbrev g26 : List LaneEvent
g26 = event.Returned 9 ∷ g25

may_g26 : Permits 1 (state_of (history g26)) (history g25) (meaning g25 (event.Returned 9))
unfolding same_stamp same_bucket
may_g26 = record { once = refl; reply = plain.Answer no_content (names ([])); replied = refl }

live_g26 : IsLegal one_copy g26
live_g26 = (live_g25, record { noted = tt; permitted = may_g26; placed = tt; ended = tt })

to_g_r2 : EachSent (GoesTo 1 2 (nodes 1)) (history g26)
unfolding same_stamp same_bucket
to_g_r2 = ((λ b u e f g. has_one_0), ((λ b u e f g. cc), ((λ b u e f g. cc), ((λ b u e f g. cc), ((λ b u e f g. absurd (let x : 1 ≡ 2 = g in omega arith)), ((λ b u e f g. cc), ((λ b u e f g. cc), ((λ b u e f g. cc), ((λ b u e f g. cc), tt)))))))))

done_g_r2 : LinesDone (history g26) (history g26)
done_g_r2 = tt

took_g_r2 : (n : ℕ) → nodes 1 n ≡ true → AnsweredApply 1 2 n whole (history g26)
unfolding same_stamp same_bucket
took_g_r2 n h = subst (λ (i : ℕ). AnsweredApply 1 2 i whole (history g26)) (sym (one_first n h)) (record { union = no_content; number = 9; message = record { version = 1; receiver = 0; body = (plain.Apply whole no_content); round = 2 }; content = no_content; names = names []; was_sent = refl; receiver = refl; version = refl; body = refl; reply = refl; back = refl; round = refl })

abbrev pub g27 : List LaneEvent
g27 = event.Decided 0 1 (choice.RoundEnded whole 1) ∷ g26

may_g27 : Permits 1 (state_of (history g27)) (history g26) (meaning g26 (event.Decided 0 1 (choice.RoundEnded whole 1)))
unfolding same_stamp same_bucket
may_g27 = (refl, record { under_way = refl; idle = idle-done (history g26) done_g_r2 1 whole; answered = took_g_r2; whole = λ n a. applied-to (history g26) 1 2 (nodes 1) to_g_r2 n whole a })

placed_g27 : Placed one_copy g26 (event.Decided 0 1 (choice.RoundEnded whole 1))
placed_g27 = (owns-one one_copy g26 refl, tt)

pub live_g27 : IsLegal one_copy g27
live_g27 = (live_g26, record { noted = tt; permitted = may_g27; placed = placed_g27; ended = tt })
