-- The life of a lane under its first state.
use Rattle.std.proofs.Common.{◌≡◌, ℕ, Bool, true, false, cond, List, [], ◌∷◌, Some, None, refl, sym, subst, arith, inl, inr, eqb}
use Rattle.std.proofs.lemmas.Bool.Decides.{nat_tests}
use Rattle.lane_journals.specs.Sets.{count_below, count}
use Rattle.lane_journals.specs.Stamps.{Le, same_stamp}
use Rattle.lane_journals.specs.Buckets.{Bucket, contains, same_bucket, meets, Id, key_of}
use Rattle.lane_journals.specs.Events as plain
use Rattle.lane_journals.specs.Readers.{round_of, Message, Given, answer, answered_store}
use Rattle.lane_journals.specs.Facts.{AnsweredApply, AnsweredAsk, IsRow}
use Rattle.lane_journals.specs.Legal.{MayShow, MayUnite, IsIdleRow, Permits}
use Rattle.lane_journals.specs.States.{state_of}
use Rattle.lane_journals.specs.Meanings.{nodes, content, names, meaning, history}
use Rattle.lane_journals.specs.Naming.{NamesShown, WellNoted}
use Rattle.lane_journals.specs.Places.{Setting, Placed}
use Rattle.lane_journals.specs.Endings.{Ended}
use Rattle.lane_journals.specs.KeptJournals.{IsLegal}
use Rattle.journal_examples.specs.Lives.{lane, setting, state_one, stamp_one, stamp_two, asked_both}
use Rattle.messages.specs.declared.noted.NotedBody.TheVariants as body
use Rattle.messages.specs.declared.noted.NotedReply.TheVariants as reply
use Rattle.messages.specs.declared.decision.Decision.TheVariants as choice
use Rattle.messages.specs.declared.outcome.Outcome.TheVariants as outcome
use Rattle.lane_journals.specs.declared.event.LaneEvent.{LaneEvent}
use Rattle.lane_journals.specs.declared.event.LaneEvent.TheVariants as event
use Rattle.lane_journals.proofs.Order.{Le_none}
use Rattle.journal_examples.proofs.Walking.{no_content, EachSent, NumbersBelow, numbers, NotOf, unapplied, GoesTo, applied-to, NotLook, unasked, LinesDone, line-done, idle-done, EachReply, NamesOnly}
use Rattle.journal_examples.proofs.LifeFacts.{some_same, same_read, same_test, two_1, both_two, has_both_0, has_both_1, enough_3, owns-one, owns1, one_row, shows_nothing, small_1, receive_both}

-- of any lane, and however many copies there are to be
module _ (b : Bucket) (copies : ℕ) where
  abbrev S : Setting
  S = record { lane = b; acks = 1; redundancy = copies }

  abbrev a1 : List LaneEvent
  a1 = event.Published state_one ∷ []

  may_a1 : Permits 1 (state_of (history a1)) (history []) (meaning [] (event.Published state_one))
  unfolding count count_below
  may_a1 = record { newest = λ w h. cc; nodes = λ n. refl; small = small_1; inhabited = (0, refl); few = omega arith }

  placed_a1 : Placed S [] (event.Published state_one)
  placed_a1 = (refl, refl)

  live_a1 : IsLegal S a1
  live_a1 = (tt, record { noted = tt; permitted = may_a1; placed = placed_a1; ended = tt })

  abbrev a2 : List LaneEvent
  a2 = event.Heard 0 1 ∷ a1

  may_a2 : Permits 1 (state_of (history a2)) (history a1) (meaning a1 (event.Heard 0 1))
  unfolding same_stamp same_bucket
  may_a2 = record { state = refl; newest = λ w h. grind (arith, nat_tests); newer = λ w h. cc; idle = λ line b f is. cc }

  live_a2 : IsLegal S a2
  live_a2 = (live_a1, record { noted = tt; permitted = may_a2; placed = tt; ended = tt })

  below_a1 : NumbersBelow 1 (history a2)
  below_a1 = tt

  abbrev a3 : List LaneEvent
  a3 = event.Sent 1 1 0 0 body.Ask ∷ a2

  may_a3 : Permits 1 (state_of (history a3)) (history a2) (meaning a2 (event.Sent 1 1 0 0 body.Ask))
  unfolding same_stamp same_bucket
  may_a3 = record { greater = λ j m h. numbers (history a2) 1 below_a1 j m h; holder = refl; member = refl; timing = inl refl; carries = refl }

  placed_a3 : Placed S a2 (event.Sent 1 1 0 0 body.Ask)
  placed_a3 = (owns-one S a2 refl, tt)

  live_a3 : IsLegal S a3
  live_a3 = (live_a2, record { noted = tt; permitted = may_a3; placed = placed_a3; ended = tt })

  abbrev a4 : List LaneEvent
  a4 = event.Delivered 1 (reply.Answer [] []) ∷ a3

  may_a4 : Permits 1 (state_of (history a4)) (history a3) (meaning a3 (event.Delivered 1 (reply.Answer [] [])))
  unfolding same_stamp same_bucket
  may_a4 = record { message = (record { version = 1; receiver = 0; body = plain.Ask; round = 0 }); was_sent = refl; runs = refl; reply = record { low = omega arith; has = tt; takes = tt; show = λ b is. cc; show_one = λ i is. cc; fresh = λ c s h w. cc; may_delete = λ b s is. cc } }

  noted_a4 : WellNoted a3 (event.Delivered 1 (reply.Answer [] []))
  noted_a4 = λ m h. subst (λ (x : Message). NamesShown a3 x [] []) (some_same (record { version = 1; receiver = 0; body = plain.Ask; round = 0 }) m h) (record { rising = tt; held = tt; asked = refl; shown = shows_nothing (λ b. true) })

  live_a4 : IsLegal S a4
  live_a4 = (live_a3, record { noted = noted_a4; permitted = may_a4; placed = tt; ended = tt })

  abbrev a5 : List LaneEvent
  a5 = event.Returned 1 ∷ a4

  may_a5 : Permits 1 (state_of (history a5)) (history a4) (meaning a4 (event.Returned 1))
  unfolding same_stamp same_bucket
  may_a5 = record { once = refl; reply = plain.Answer (content a3 ([])) (names ([])); replied = refl }

  pub live_a5 : IsLegal S a5
  live_a5 = (live_a4, record { noted = tt; permitted = may_a5; placed = tt; ended = tt })

  below_a2 : NumbersBelow 2 (history a5)
  below_a2 = (omega arith, tt)

  abbrev a6 : List LaneEvent
  a6 = event.Sent 2 1 0 1 body.Ask ∷ a5

  may_a6 : Permits 1 (state_of (history a6)) (history a5) (meaning a5 (event.Sent 2 1 0 1 body.Ask))
  unfolding same_stamp same_bucket
  may_a6 = record { greater = λ j m h. numbers (history a5) 2 below_a2 j m h; holder = refl; member = refl; timing = inl refl; carries = refl }

  placed_a6 : Placed S a5 (event.Sent 2 1 0 1 body.Ask)
  placed_a6 = (owns-one S a5 refl, tt)

  live_a6 : IsLegal S a6
  live_a6 = (live_a5, record { noted = tt; permitted = may_a6; placed = placed_a6; ended = tt })

  abbrev a7 : List LaneEvent
  a7 = event.Delivered 2 (reply.Answer [] []) ∷ a6

  may_a7 : Permits 1 (state_of (history a7)) (history a6) (meaning a6 (event.Delivered 2 (reply.Answer [] [])))
  unfolding same_stamp same_bucket
  may_a7 = record { message = (record { version = 1; receiver = 1; body = plain.Ask; round = 0 }); was_sent = refl; runs = refl; reply = record { low = omega arith; has = tt; takes = tt; show = λ b is. cc; show_one = λ i is. cc; fresh = λ c s h w. cc; may_delete = λ b s is. cc } }

  noted_a7 : WellNoted a6 (event.Delivered 2 (reply.Answer [] []))
  noted_a7 = λ m h. subst (λ (x : Message). NamesShown a6 x [] []) (some_same (record { version = 1; receiver = 1; body = plain.Ask; round = 0 }) m h) (record { rising = tt; held = tt; asked = refl; shown = shows_nothing (λ b. true) })

  live_a7 : IsLegal S a7
  live_a7 = (live_a6, record { noted = noted_a7; permitted = may_a7; placed = tt; ended = tt })

  abbrev a8 : List LaneEvent
  a8 = event.Returned 2 ∷ a7

  may_a8 : Permits 1 (state_of (history a8)) (history a7) (meaning a7 (event.Returned 2))
  unfolding same_stamp same_bucket
  may_a8 = record { once = refl; reply = plain.Answer (content a6 ([])) (names ([])); replied = refl }

  pub live_a8 : IsLegal S a8
  live_a8 = (live_a7, record { noted = tt; permitted = may_a8; placed = tt; ended = tt })

-- both nodes have answered
pub all_a1 : (n : ℕ) → state_of (history asked_both) 1 n ≡ true → AnsweredAsk 1 n (history asked_both)
unfolding same_stamp same_bucket
all_a1 n h = elim (two_1 n h) [
  | inl is ↦ subst (λ (i : ℕ). AnsweredAsk 1 i (history asked_both)) (sym is) (record { number = 1; message = record { version = 1; receiver = 0; body = plain.Ask; round = 0 }; content = no_content; names = names []; was_sent = refl; receiver = refl; version = refl; body = refl; reply = refl; back = refl })
  | inr is ↦ subst (λ (i : ℕ). AnsweredAsk 1 i (history asked_both)) (sym is) (record { number = 2; message = record { version = 1; receiver = 1; body = plain.Ask; round = 0 }; content = no_content; names = names []; was_sent = refl; receiver = refl; version = refl; body = refl; reply = refl; back = refl })
]

-- and named no piece
pub only_a1 : (b : Bucket) → EachReply (NamesOnly b) (history asked_both)
only_a1 b = (λ c s h. cc, (λ c s h. cc, tt))

abbrev a9 : List LaneEvent
a9 = event.Opened 0 1 (lane ∷ []) ∷ asked_both

may_a9 : Permits 1 (state_of (history a9)) (history asked_both) (meaning asked_both (event.Opened 0 1 (lane ∷ [])))
unfolding same_stamp same_bucket
may_a9 = record { holder = refl; parted = (omega arith, (λ key h. refl), tt); once = refl; all = all_a1; state = refl }

placed_a9 : Placed setting asked_both (event.Opened 0 1 (lane ∷ []))
placed_a9 = (owns1 asked_both refl, one_row asked_both 1 (only_a1 lane))

pub live_a9 : IsLegal setting a9
live_a9 = (live_a8 lane 2, record { noted = tt; permitted = may_a9; placed = placed_a9; ended = tt })

row_r1 : IsRow 1 lane (history a9)
row_r1 = record { fits = omega arith; opened = refl; row = λ key h. rw h refl }

done_r1 : LinesDone (history a9) (history a9)
done_r1 = tt

quiet_r1 : IsIdleRow 1 lane (history a9)
unfolding same_stamp same_bucket
quiet_r1 = record { row = row_r1; no_round = refl; idle = idle-done (history a9) done_r1 1 lane }

abbrev a10 : List LaneEvent
a10 = event.Decided 0 1 (choice.RoundBegun lane 3) ∷ a9

may_a10 : Permits 1 (state_of (history a10)) (history a9) (meaning a9 (event.Decided 0 1 (choice.RoundBegun lane 3)))
unfolding same_stamp same_bucket
may_a10 = (refl, quiet_r1)

placed_a10 : Placed setting a9 (event.Decided 0 1 (choice.RoundBegun lane 3))
placed_a10 = (owns1 a9 refl, receive_both a9 refl (λ key. refl))

live_a10 : IsLegal setting a10
live_a10 = (live_a9, record { noted = tt; permitted = may_a10; placed = placed_a10; ended = tt })

none_a3 : EachSent (NotOf 1 1) (history a10)
unfolding same_stamp same_bucket
none_a3 = ((λ b u e f g. cc), ((λ b u e f g. cc), tt))

below_a3 : NumbersBelow 3 (history a10)
below_a3 = (omega arith, (omega arith, tt))

abbrev a11 : List LaneEvent
a11 = event.Sent 3 1 0 0 (body.Read lane None) ∷ a10

may_a11 : Permits 1 (state_of (history a11)) (history a10) (meaning a10 (event.Sent 3 1 0 0 (body.Read lane None)))
unfolding same_stamp same_bucket
may_a11 = record { greater = λ j m h. numbers (history a10) 3 below_a3 j m h; holder = refl; member = refl; timing = inr refl; carries = record { under_way = refl; first = λ m u a. unapplied (history a10) 1 1 none_a3 m lane u a } }

placed_a11 : Placed setting a10 (event.Sent 3 1 0 0 (body.Read lane None))
placed_a11 = (owns1 a10 refl, tt)

live_a11 : IsLegal setting a11
live_a11 = (live_a10, record { noted = tt; permitted = may_a11; placed = placed_a11; ended = tt })

shows_a3 : MayShow (history a11) 0 lane (record { content = content a11 ([]); names = names ([]) })
unfolding same_stamp
shows_a3 = record { content = λ i h. refl; only = λ i h. refl; serial = λ c s has u q d h shown had. cc }

abbrev a12 : List LaneEvent
a12 = event.Delivered 3 (reply.Answer [] []) ∷ a11

may_a12 : Permits 1 (state_of (history a12)) (history a11) (meaning a11 (event.Delivered 3 (reply.Answer [] [])))
unfolding same_stamp same_bucket
may_a12 = record { message = (record { version = 1; receiver = 0; body = (plain.Read lane); round = 1 }); was_sent = refl; runs = refl; reply = record { low = omega arith; has = tt; takes = tt; show = λ b is. subst (λ (x : Bucket). MayShow (history a11) 0 x (record { content = content a11 ([]); names = names ([]) })) (same_read lane b is) shows_a3; show_one = λ i is. cc; fresh = λ c s h w. cc; may_delete = λ b s is. cc } }

noted_a12 : WellNoted a11 (event.Delivered 3 (reply.Answer [] []))
unfolding same_stamp same_bucket
noted_a12 = λ m h. subst (λ (x : Message). NamesShown a11 x [] []) (some_same (record { version = 1; receiver = 0; body = (plain.Read lane); round = 1 }) m h) (record { rising = tt; held = tt; asked = tt; shown = shows_nothing (λ c. meets lane c) })

live_a12 : IsLegal setting a12
live_a12 = (live_a11, record { noted = noted_a12; permitted = may_a12; placed = tt; ended = tt })

abbrev a13 : List LaneEvent
a13 = event.Returned 3 ∷ a12

may_a13 : Permits 1 (state_of (history a13)) (history a12) (meaning a12 (event.Returned 3))
unfolding same_stamp same_bucket
may_a13 = record { once = refl; reply = plain.Answer (content a11 ([])) (names ([])); replied = refl }

live_a13 : IsLegal setting a13
live_a13 = (live_a12, record { noted = tt; permitted = may_a13; placed = tt; ended = tt })

none_a4 : EachSent (NotOf 1 1) (history a13)
unfolding same_stamp same_bucket
none_a4 = ((λ b u e f g. cc), ((λ b u e f g. cc), ((λ b u e f g. cc), tt)))

below_a4 : NumbersBelow 4 (history a13)
below_a4 = (omega arith, (omega arith, (omega arith, tt)))

abbrev a14 : List LaneEvent
a14 = event.Sent 4 1 0 1 (body.Read lane None) ∷ a13

may_a14 : Permits 1 (state_of (history a14)) (history a13) (meaning a13 (event.Sent 4 1 0 1 (body.Read lane None)))
unfolding same_stamp same_bucket
may_a14 = record { greater = λ j m h. numbers (history a13) 4 below_a4 j m h; holder = refl; member = refl; timing = inr refl; carries = record { under_way = refl; first = λ m u a. unapplied (history a13) 1 1 none_a4 m lane u a } }

placed_a14 : Placed setting a13 (event.Sent 4 1 0 1 (body.Read lane None))
placed_a14 = (owns1 a13 refl, tt)

live_a14 : IsLegal setting a14
live_a14 = (live_a13, record { noted = tt; permitted = may_a14; placed = placed_a14; ended = tt })

shows_a4 : MayShow (history a14) 1 lane (record { content = content a14 ([]); names = names ([]) })
unfolding same_stamp
shows_a4 = record { content = λ i h. refl; only = λ i h. refl; serial = λ c s has u q d h shown had. cc }

abbrev a15 : List LaneEvent
a15 = event.Delivered 4 (reply.Answer [] []) ∷ a14

may_a15 : Permits 1 (state_of (history a15)) (history a14) (meaning a14 (event.Delivered 4 (reply.Answer [] [])))
unfolding same_stamp same_bucket
may_a15 = record { message = (record { version = 1; receiver = 1; body = (plain.Read lane); round = 1 }); was_sent = refl; runs = refl; reply = record { low = omega arith; has = tt; takes = tt; show = λ b is. subst (λ (x : Bucket). MayShow (history a14) 1 x (record { content = content a14 ([]); names = names ([]) })) (same_read lane b is) shows_a4; show_one = λ i is. cc; fresh = λ c s h w. cc; may_delete = λ b s is. cc } }

noted_a15 : WellNoted a14 (event.Delivered 4 (reply.Answer [] []))
unfolding same_stamp same_bucket
noted_a15 = λ m h. subst (λ (x : Message). NamesShown a14 x [] []) (some_same (record { version = 1; receiver = 1; body = (plain.Read lane); round = 1 }) m h) (record { rising = tt; held = tt; asked = tt; shown = shows_nothing (λ c. meets lane c) })

live_a15 : IsLegal setting a15
live_a15 = (live_a14, record { noted = noted_a15; permitted = may_a15; placed = tt; ended = tt })

abbrev a16 : List LaneEvent
a16 = event.Returned 4 ∷ a15

may_a16 : Permits 1 (state_of (history a16)) (history a15) (meaning a15 (event.Returned 4))
unfolding same_stamp same_bucket
may_a16 = record { once = refl; reply = plain.Answer (content a14 ([])) (names ([])); replied = refl }

pub live_a16 : IsLegal setting a16
live_a16 = (live_a15, record { noted = tt; permitted = may_a16; placed = tt; ended = tt })

unites_a5 : MayUnite (state_of (history a16)) (history a16) 1 lane (content a16 ([]))
unfolding same_stamp same_bucket
unites_a5 = record {
  under_way = refl;
  covers = λ m h. elim (two_1 m h) [
    | inl is ↦ subst (λ (m : ℕ). (g : Given) × (answer 1 (round_of 1 lane (history a16)) m (history a16) ≡ Some g) × ((i : Id) → Le (g.content i) ((content a16 ([])) i))) (sym is) ((record { content = (content a11 ([])); names = (names ([])) }), refl, λ i. Le_none _)
    | inr is ↦ subst (λ (m : ℕ). (g : Given) × (answer 1 (round_of 1 lane (history a16)) m (history a16) ≡ Some g) × ((i : Id) → Le (g.content i) ((content a16 ([])) i))) (sym is) ((record { content = (content a14 ([])); names = (names ([])) }), refl, λ i. Le_none _)
  ];
  attained = λ i s h. cc;
}

below_a5 : NumbersBelow 5 (history a16)
below_a5 = (omega arith, (omega arith, (omega arith, (omega arith, tt))))

abbrev a17 : List LaneEvent
a17 = event.Sent 5 1 0 0 (body.Apply lane []) ∷ a16

may_a17 : Permits 1 (state_of (history a17)) (history a16) (meaning a16 (event.Sent 5 1 0 0 (body.Apply lane [])))
unfolding same_stamp same_bucket
may_a17 = record { greater = λ j m h. numbers (history a16) 5 below_a5 j m h; holder = refl; member = refl; timing = inr refl; carries = unites_a5 }

noted_a17 : WellNoted a16 (event.Sent 5 1 0 0 (body.Apply lane []))
noted_a17 = (tt, tt)

placed_a17 : Placed setting a16 (event.Sent 5 1 0 0 (body.Apply lane []))
unfolding same_bucket
placed_a17 = (owns1 a16 refl, (3, refl, has_both_0))

live_a17 : IsLegal setting a17
live_a17 = (live_a16, record { noted = noted_a17; permitted = may_a17; placed = placed_a17; ended = tt })

abbrev a18 : List LaneEvent
a18 = event.Delivered 5 (reply.Answer [] []) ∷ a17

may_a18 : Permits 1 (state_of (history a18)) (history a17) (meaning a17 (event.Delivered 5 (reply.Answer [] [])))
unfolding same_stamp same_bucket
may_a18 = record { message = (record { version = 1; receiver = 0; body = (plain.Apply lane (content a16 ([]))); round = 1 }); was_sent = refl; runs = refl; reply = record { low = omega arith; has = tt; takes = tt; show = λ b is. cc; show_one = λ i is. cc; fresh = λ c s h w. cc; may_delete = λ b s is. cc } }

noted_a18 : WellNoted a17 (event.Delivered 5 (reply.Answer [] []))
unfolding same_stamp same_bucket
noted_a18 = λ m h. subst (λ (x : Message). NamesShown a17 x ([]) ([])) (some_same (record { version = 1; receiver = 0; body = (plain.Apply lane (content a16 ([]))); round = 1 }) m h) (record { rising = tt; held = tt; asked = refl; shown = refl })

live_a18 : IsLegal setting a18
live_a18 = (live_a17, record { noted = noted_a18; permitted = may_a18; placed = tt; ended = tt })

abbrev a19 : List LaneEvent
a19 = event.Returned 5 ∷ a18

may_a19 : Permits 1 (state_of (history a19)) (history a18) (meaning a18 (event.Returned 5))
unfolding same_stamp same_bucket
may_a19 = record { once = refl; reply = plain.Answer (content a17 ([])) (names ([])); replied = refl }

live_a19 : IsLegal setting a19
live_a19 = (live_a18, record { noted = tt; permitted = may_a19; placed = tt; ended = tt })

unites_a6 : MayUnite (state_of (history a19)) (history a19) 1 lane (content a19 ([]))
unfolding same_stamp same_bucket
unites_a6 = record {
  under_way = refl;
  covers = λ m h. elim (two_1 m h) [
    | inl is ↦ subst (λ (m : ℕ). (g : Given) × (answer 1 (round_of 1 lane (history a19)) m (history a19) ≡ Some g) × ((i : Id) → Le (g.content i) ((content a19 ([])) i))) (sym is) ((record { content = (content a11 ([])); names = (names ([])) }), refl, λ i. Le_none _)
    | inr is ↦ subst (λ (m : ℕ). (g : Given) × (answer 1 (round_of 1 lane (history a19)) m (history a19) ≡ Some g) × ((i : Id) → Le (g.content i) ((content a19 ([])) i))) (sym is) ((record { content = (content a14 ([])); names = (names ([])) }), refl, λ i. Le_none _)
  ];
  attained = λ i s h. cc;
}

below_a6 : NumbersBelow 6 (history a19)
below_a6 = (omega arith, (omega arith, (omega arith, (omega arith, (omega arith, tt)))))

abbrev a20 : List LaneEvent
a20 = event.Sent 6 1 0 1 (body.Apply lane []) ∷ a19

may_a20 : Permits 1 (state_of (history a20)) (history a19) (meaning a19 (event.Sent 6 1 0 1 (body.Apply lane [])))
unfolding same_stamp same_bucket
may_a20 = record { greater = λ j m h. numbers (history a19) 6 below_a6 j m h; holder = refl; member = refl; timing = inr refl; carries = unites_a6 }

noted_a20 : WellNoted a19 (event.Sent 6 1 0 1 (body.Apply lane []))
noted_a20 = (tt, tt)

placed_a20 : Placed setting a19 (event.Sent 6 1 0 1 (body.Apply lane []))
unfolding same_bucket
placed_a20 = (owns1 a19 refl, (3, refl, has_both_1))

live_a20 : IsLegal setting a20
live_a20 = (live_a19, record { noted = noted_a20; permitted = may_a20; placed = placed_a20; ended = tt })

abbrev a21 : List LaneEvent
a21 = event.Delivered 6 (reply.Answer [] []) ∷ a20

may_a21 : Permits 1 (state_of (history a21)) (history a20) (meaning a20 (event.Delivered 6 (reply.Answer [] [])))
unfolding same_stamp same_bucket
may_a21 = record { message = (record { version = 1; receiver = 1; body = (plain.Apply lane (content a19 ([]))); round = 1 }); was_sent = refl; runs = refl; reply = record { low = omega arith; has = tt; takes = tt; show = λ b is. cc; show_one = λ i is. cc; fresh = λ c s h w. cc; may_delete = λ b s is. cc } }

noted_a21 : WellNoted a20 (event.Delivered 6 (reply.Answer [] []))
unfolding same_stamp same_bucket
noted_a21 = λ m h. subst (λ (x : Message). NamesShown a20 x ([]) ([])) (some_same (record { version = 1; receiver = 1; body = (plain.Apply lane (content a19 ([]))); round = 1 }) m h) (record { rising = tt; held = tt; asked = refl; shown = refl })

live_a21 : IsLegal setting a21
live_a21 = (live_a20, record { noted = noted_a21; permitted = may_a21; placed = tt; ended = tt })

abbrev a22 : List LaneEvent
a22 = event.Returned 6 ∷ a21

may_a22 : Permits 1 (state_of (history a22)) (history a21) (meaning a21 (event.Returned 6))
unfolding same_stamp same_bucket
may_a22 = record { once = refl; reply = plain.Answer (content a20 ([])) (names ([])); replied = refl }

live_a22 : IsLegal setting a22
live_a22 = (live_a21, record { noted = tt; permitted = may_a22; placed = tt; ended = tt })

to_e1 : EachSent (GoesTo 1 1 (nodes 3)) (history a22)
unfolding same_stamp same_bucket
to_e1 = ((λ b u e f g. has_both_1), ((λ b u e f g. has_both_0), ((λ b u e f g. cc), ((λ b u e f g. cc), ((λ b u e f g. cc), ((λ b u e f g. cc), tt))))))

done_e1 : LinesDone (history a22) (history a22)
done_e1 = tt

took_e1 : (n : ℕ) → nodes 3 n ≡ true → AnsweredApply 1 1 n lane (history a22)
unfolding same_stamp same_bucket
took_e1 n h = elim (both_two n h) [ inl is ↦ subst (λ (i : ℕ). AnsweredApply 1 1 i lane (history a22)) (sym is) (record { union = (content a16 ([])); number = 5; message = (record { version = 1; receiver = 0; body = (plain.Apply lane (content a16 ([]))); round = 1 }); content = (content a17 ([])); names = (names ([])); was_sent = refl; receiver = refl; version = refl; body = refl; reply = refl; back = refl; round = refl }) | inr is ↦ subst (λ (i : ℕ). AnsweredApply 1 1 i lane (history a22)) (sym is) (record { union = (content a19 ([])); number = 6; message = (record { version = 1; receiver = 1; body = (plain.Apply lane (content a19 ([]))); round = 1 }); content = (content a20 ([])); names = (names ([])); was_sent = refl; receiver = refl; version = refl; body = refl; reply = refl; back = refl; round = refl }) ]

abbrev a23 : List LaneEvent
a23 = event.Decided 0 1 (choice.RoundEnded lane 3) ∷ a22

may_a23 : Permits 1 (state_of (history a23)) (history a22) (meaning a22 (event.Decided 0 1 (choice.RoundEnded lane 3)))
unfolding same_stamp same_bucket
may_a23 = (refl, record { under_way = refl; idle = idle-done (history a22) done_e1 1 lane; answered = took_e1; whole = λ n a. applied-to (history a22) 1 1 (nodes 3) to_e1 n lane a })

placed_a23 : Placed setting a22 (event.Decided 0 1 (choice.RoundEnded lane 3))
placed_a23 = (owns1 a22 refl, tt)

pub live_a23 : IsLegal setting a23
live_a23 = (live_a22, record { noted = tt; permitted = may_a23; placed = placed_a23; ended = tt })

module _ (id : Id) (inside : contains lane (key_of id) ≡ true) where
  done_aline1 : LinesDone (history a23) (history a23)
  done_aline1 = tt

  abbrev a24 : List LaneEvent
  a24 = event.Begun 1 0 1 id (Some stamp_one) ∷ a23

  may_a24 : Permits 1 (state_of (history a24)) (history a23) (meaning a23 (event.Begun 1 0 1 id (Some stamp_one)))
  unfolding same_stamp same_bucket
  may_a24 = record { fresh = refl; unrefused = refl; holder = refl; alone = λ o b h is. line-done (history a23) (history a23) done_aline1 o b h; stamp = (refl, refl) }

  placed_a24 : Placed setting a23 (event.Begun 1 0 1 id (Some stamp_one))
  placed_a24 = (owns1 a23 refl, inside)

  live_a24 : IsLegal setting a24
  live_a24 = (live_a23, record { noted = tt; permitted = may_a24; placed = placed_a24; ended = tt })

  abbrev a25 : List LaneEvent
  a25 = event.Prepared 1 lane 3 ∷ a24

  may_a25 : Permits 1 (state_of (history a25)) (history a24) (meaning a24 (event.Prepared 1 lane 3))
  unfolding same_stamp same_bucket
  may_a25 = record { begin = (record { distributor = 0; version = 1; id = id; stamp = Some stamp_one }); begun = refl; fresh = refl; unclosed = refl; row = record { fits = omega arith; opened = refl; row = λ key h. rw h refl }; inside = inside; no_round = refl; recipients = λ n key h. rw h (same_test (nodes 3 n)); enough = enough_3 }

  live_a25 : IsLegal setting a25
  live_a25 = (live_a24, record { noted = tt; permitted = may_a25; placed = tt; ended = tt })

  unlooked_a1 : EachSent (NotLook) (history a25)
  unfolding same_stamp same_bucket
  unlooked_a1 = ((λ i e. cc), ((λ i e. cc), ((λ i e. cc), ((λ i e. cc), ((λ i e. cc), ((λ i e. cc), tt))))))

  abbrev a26 : List LaneEvent
  a26 = event.Wrote 1 (record { stamp = stamp_one; id = id; body = None }) ∷ a25

  may_a26 : Permits 1 (state_of (history a26)) (history a25) (meaning a25 (event.Wrote 1 (record { stamp = stamp_one; id = id; body = None })))
  unfolding same_stamp same_bucket
  may_a26 = record { begin = (record { distributor = 0; version = 1; id = id; stamp = Some stamp_one }); begun = refl; stamp = stamp_one; stamped = refl; preparing = (record { row = lane; recipients = nodes 3 }); was_prepared = refl; unwritten = refl; unclosed = refl; seen = λ a. absurd (unasked (history a25) unlooked_a1 1 (record { distributor = 0; version = 1; id = id; stamp = Some stamp_one }) a) }

  noted_a26 : WellNoted a25 (event.Wrote 1 (record { stamp = stamp_one; id = id; body = None }))
  noted_a26 = record { begin = (record { distributor = 0; version = 1; id = id; stamp = Some stamp_one }); begun = refl; stamped = refl; same_id = refl }

  live_a26 : IsLegal setting a26
  live_a26 = (live_a25, record { noted = noted_a26; permitted = may_a26; placed = tt; ended = tt })

  below_a7 : NumbersBelow 7 (history a26)
  below_a7 = (omega arith, (omega arith, (omega arith, (omega arith, (omega arith, (omega arith, tt))))))

  abbrev a27 : List LaneEvent
  a27 = event.Sent 7 1 0 0 (body.Store stamp_one) ∷ a26

  may_a27 : Permits 1 (state_of (history a27)) (history a26) (meaning a26 (event.Sent 7 1 0 0 (body.Store stamp_one)))
  unfolding same_stamp same_bucket
  may_a27 = record { greater = λ j m h. numbers (history a26) 7 below_a7 j m h; holder = refl; member = refl; timing = inr refl; carries = record { belongs = record { line = 1; begin = (record { distributor = 0; version = 1; id = id; stamp = Some stamp_one }); preparing = (record { row = lane; recipients = nodes 3 }); is_open = record { began = refl; version = refl; prepared = refl; unclosed = refl }; same_id = refl; recipient = has_both_0 }; stamped = refl; written = refl } }

  noted_a27 : WellNoted a26 (event.Sent 7 1 0 0 (body.Store stamp_one))
  unfolding same_stamp
  noted_a27 = (id, refl)

  placed_a27 : Placed setting a26 (event.Sent 7 1 0 0 (body.Store stamp_one))
  placed_a27 = (owns1 a26 refl, tt)

  live_a27 : IsLegal setting a27
  live_a27 = (live_a26, record { noted = noted_a27; permitted = may_a27; placed = placed_a27; ended = tt })

  below_a8 : NumbersBelow 8 (history a27)
  below_a8 = (omega arith, (omega arith, (omega arith, (omega arith, (omega arith, (omega arith, (omega arith, tt)))))))

  abbrev a28 : List LaneEvent
  a28 = event.Sent 8 1 0 1 (body.Store stamp_one) ∷ a27

  may_a28 : Permits 1 (state_of (history a28)) (history a27) (meaning a27 (event.Sent 8 1 0 1 (body.Store stamp_one)))
  unfolding same_stamp same_bucket
  may_a28 = record { greater = λ j m h. numbers (history a27) 8 below_a8 j m h; holder = refl; member = refl; timing = inr refl; carries = record { belongs = record { line = 1; begin = (record { distributor = 0; version = 1; id = id; stamp = Some stamp_one }); preparing = (record { row = lane; recipients = nodes 3 }); is_open = record { began = refl; version = refl; prepared = refl; unclosed = refl }; same_id = refl; recipient = has_both_1 }; stamped = refl; written = refl } }

  noted_a28 : WellNoted a27 (event.Sent 8 1 0 1 (body.Store stamp_one))
  unfolding same_stamp
  noted_a28 = (id, refl)

  placed_a28 : Placed setting a27 (event.Sent 8 1 0 1 (body.Store stamp_one))
  placed_a28 = (owns1 a27 refl, tt)

  live_a28 : IsLegal setting a28
  live_a28 = (live_a27, record { noted = noted_a28; permitted = may_a28; placed = placed_a28; ended = tt })

  unstored_1 : (n : ℕ) → answered_store 1 id stamp_one n (history a28) ≡ true → ⊥
  unfolding same_stamp same_bucket
  unstored_1 n h = none_returned (eqb 0 n) (eqb 1 n) h
    where
      none_returned : (s t : Bool) → cond (cond t false false) true (cond (cond s false false) true (cond (cond t false false) true (cond (cond s false false) true (cond (cond t false false) true (cond (cond s false false) true false))))) ≡ true → ⊥
      none_returned true true h = cc
      none_returned true false h = cc
      none_returned false true h = cc
      none_returned false false h = cc

  no_store_back_count : count (λ n. false) ≡ 0
  unfolding count count_below
  no_store_back_count = refl

  abbrev a29 : List LaneEvent
  a29 = event.Closed 1 (outcome.TooFew 0 1 0) ∷ a28

  may_a29 : Permits 1 (state_of (history a29)) (history a28) (meaning a28 (event.Closed 1 (outcome.TooFew 0 1 0)))
  unfolding same_stamp same_bucket
  may_a29 = record { begin = (record { distributor = 0; version = 1; id = id; stamp = Some stamp_one }); begun = refl; unclosed = refl; acked = λ h. cc }

  ended_a29 : Ended setting a28 (event.Closed 1 (outcome.TooFew 0 1 0))
  ended_a29 = ((record { distributor = 0; version = 1; id = id; stamp = Some stamp_one }), refl, inr (record { preparing = (record { row = lane; recipients = nodes 3 }); was_prepared = refl; short = inr (stamp_one, refl, refl, (refl, inl (omega arith), (((λ n. false), no_store_back_count, λ n. ((λ h. cc), (λ h. absurd (unstored_1 n h.1)))), has_both_0, unstored_1 0))) }))

  live_a29 : IsLegal setting a29
  live_a29 = (live_a28, record { noted = tt; permitted = may_a29; placed = tt; ended = ended_a29 })

  done_aline2 : LinesDone (history a29) (history a29)
  done_aline2 = (refl, tt)

  abbrev pub a30 : List LaneEvent
  a30 = event.Begun 2 0 1 id (Some stamp_two) ∷ a29

  may_a30 : Permits 1 (state_of (history a30)) (history a29) (meaning a29 (event.Begun 2 0 1 id (Some stamp_two)))
  unfolding same_stamp same_bucket
  may_a30 = record { fresh = refl; unrefused = refl; holder = refl; alone = λ o b h is. line-done (history a29) (history a29) done_aline2 o b h; stamp = (refl, refl) }

  placed_a30 : Placed setting a29 (event.Begun 2 0 1 id (Some stamp_two))
  placed_a30 = (owns1 a29 refl, inside)

  pub live_a30 : IsLegal setting a30
  live_a30 = (live_a29, record { noted = tt; permitted = may_a30; placed = placed_a30; ended = tt })
