-- A Delete whose keeper has itself an unanswered Delete is refused.
use Rattle.std.proofs.Common.{◌≡◌, ◌⊎◌, ℕ, true, false, List, [], ◌∷◌, Some, None, refl, sym, ap, ◌∙◌, subst, arith, inl, inr}
use Rattle.lane_journals.specs.Sets.{count_below, count, AtLeast}
use Rattle.lane_journals.specs.Stamps.{Le, same_stamp}
use Rattle.lane_journals.specs.Buckets.{Bucket, contains, same_bucket, covers, meets, first_child, second_child, across, Id, key_of}
use Rattle.lane_journals.specs.Readers.{round_of, Message, Given, answer, complete, running, deleting}
use Rattle.lane_journals.specs.Facts.{AnsweredApply, IsRow}
use Rattle.lane_journals.specs.Legal.{Keeper, MayShow, MayUnite, IsIdleRow, Permits}
use Rattle.lane_journals.specs.States.{state_of}
use Rattle.lane_journals.specs.Meanings.{nodes, names, meaning, history}
use Rattle.lane_journals.specs.Naming.{NamesShown, WellNoted}
use Rattle.lane_journals.specs.Pieces.{pieces, MayTake}
use Rattle.lane_journals.specs.Places.{Placed}
use Rattle.lane_journals.specs.KeptJournals.{IsLegal}
use Rattle.journal_examples.specs.WrongSteps.{IsRefused, IsNoKeeper, whole, half, one_copy, deleting_keeper}
use Rattle.lane_journals.specs.declared.event.LaneEvent.{LaneEvent}
use Rattle.lane_journals.proofs.Order.{Le_none}
use Rattle.lane_journals.proofs.Counts.{AtLeast-some}
use Rattle.lane_journals.proofs.BucketLaws.{first_in}
use Rattle.journal_examples.proofs.Walking.{no_content, EachSent, NumbersBelow, numbers, NotOf, unapplied, GoesTo, applied-to, LinesDone, idle-done, EachReply, NotNamed, unnamed-yet}
use Rattle.journal_examples.proofs.LifeFacts.{owns-one, some_same, same_read, two_1, has_one_0, has_two_1, two_last, one_first, only_1, is_1, nothing_joined, shows_piece, shows_beside}
use Rattle.journal_examples.proofs.Firsts.{three_in, receive_half, not-whole, not-half}
use Rattle.journal_examples.proofs.Halves.{half-in, half-out, second_is, first-fits, either-half}
use Rattle.lane_journals.specs.Events as plain
use Rattle.messages.specs.declared.noted.NotedBody.TheVariants as body
use Rattle.messages.specs.declared.noted.NotedReply.TheVariants as reply
use Rattle.messages.specs.declared.decision.Decision.TheVariants as choice
use Rattle.lane_journals.specs.declared.event.LaneEvent.TheVariants as event
use Rattle.journal_examples.proofs.KeeperOne.{g27, live_g27}

row_g6 : IsRow 1 whole (history g27)
row_g6 = record { fits = omega arith; opened = refl; row = λ key h. rw h refl }

done_g6 : LinesDone (history g27) (history g27)
done_g6 = tt

quiet_g6 : IsIdleRow 1 whole (history g27)
unfolding same_stamp same_bucket
quiet_g6 = record { row = row_g6; no_round = refl; idle = idle-done (history g27) done_g6 1 whole }

abbrev g28 : List LaneEvent
g28 = event.Decided 0 1 (choice.RowSplit whole) ∷ g27

may_g28 : Permits 1 (state_of (history g28)) (history g27) (meaning g27 (event.Decided 0 1 (choice.RowSplit whole)))
unfolding same_stamp same_bucket
may_g28 = (refl, (omega arith, quiet_g6))

placed_g28 : Placed one_copy g27 (event.Decided 0 1 (choice.RowSplit whole))
placed_g28 = (owns-one one_copy g27 refl, tt)

live_g28 : IsLegal one_copy g28
live_g28 = (live_g27, record { noted = tt; permitted = may_g28; placed = placed_g28; ended = tt })

second_g6 : IsRow 1 half (history g28)
second_g6 = record { fits = omega arith; opened = refl; row = λ key h. rw (half-in key h, half-out key h) (ap Some second_is) }

first_g6 : IsRow 1 (first_child whole) (history g28)
first_g6 = record { fits = first-fits; opened = refl; row = λ key h. rw (first_in whole key (omega arith) h, h) refl }

below_g10 : NumbersBelow 10 (history g28)
below_g10 = (omega arith, (omega arith, (omega arith, (omega arith, (omega arith, (omega arith, (omega arith, (omega arith, (omega arith, tt)))))))))

abbrev g29 : List LaneEvent
g29 = event.Sent 10 1 0 0 (body.Split half) ∷ g28

may_g29 : Permits 1 (state_of (history g29)) (history g28) (meaning g28 (event.Sent 10 1 0 0 (body.Split half)))
unfolding same_stamp same_bucket
may_g29 = record { greater = λ j m h. numbers (history g28) 10 below_g10 j m h; holder = refl; member = refl; timing = inr refl; carries = tt }

placed_g29 : Placed one_copy g28 (event.Sent 10 1 0 0 (body.Split half))
unfolding first_child second_child
placed_g29 = (owns-one one_copy g28 refl, inl second_g6)

live_g29 : IsLegal one_copy g29
live_g29 = (live_g28, record { noted = tt; permitted = may_g29; placed = placed_g29; ended = tt })

takes_g10 : MayTake (pieces 0 (history g29)) (plain.Split half)
unfolding contains same_stamp same_bucket covers meets first_child second_child
takes_g10 = refl

abbrev g30 : List LaneEvent
g30 = event.Delivered 10 (reply.Answer [] []) ∷ g29

may_g30 : Permits 1 (state_of (history g30)) (history g29) (meaning g29 (event.Delivered 10 (reply.Answer [] [])))
unfolding same_stamp same_bucket
may_g30 = record { message = record { version = 1; receiver = 0; body = (plain.Split half); round = 0 }; was_sent = refl; runs = refl; reply = record { low = omega arith; has = tt; takes = takes_g10; show = λ b is. cc; show_one = λ i is. cc; fresh = λ c s h w. cc; may_delete = λ b s is. cc } }

noted_g30 : WellNoted g29 (event.Delivered 10 (reply.Answer [] []))
unfolding same_stamp same_bucket
noted_g30 = λ m h. subst (λ (x : Message). NamesShown g29 x ([]) []) (some_same (record { version = 1; receiver = 0; body = (plain.Split half); round = 0 }) m h) (record { rising = tt; held = tt; asked = refl; shown = refl })

live_g30 : IsLegal one_copy g30
live_g30 = (live_g29, record { noted = noted_g30; permitted = may_g30; placed = tt; ended = tt })

row_g7 : IsRow 1 half (history g30)
row_g7 = record { fits = omega arith; opened = refl; row = (second_g6).row }

done_g7 : LinesDone (history g30) (history g30)
done_g7 = tt

quiet_g7 : IsIdleRow 1 half (history g30)
unfolding same_stamp same_bucket
quiet_g7 = record { row = row_g7; no_round = refl; idle = idle-done (history g30) done_g7 1 half }

abbrev g31 : List LaneEvent
g31 = event.Decided 0 1 (choice.RoundBegun half 2) ∷ g30

may_g31 : Permits 1 (state_of (history g31)) (history g30) (meaning g30 (event.Decided 0 1 (choice.RoundBegun half 2)))
unfolding same_stamp same_bucket
may_g31 = (refl, quiet_g7)

placed_g31 : Placed one_copy g30 (event.Decided 0 1 (choice.RoundBegun half 2))
placed_g31 = (owns-one one_copy g30 refl, receive_half g30 refl (λ key. refl))

live_g31 : IsLegal one_copy g31
live_g31 = (live_g30, record { noted = tt; permitted = may_g31; placed = placed_g31; ended = tt })

below_g11 : NumbersBelow 11 (history g31)
below_g11 = (omega arith, (omega arith, (omega arith, (omega arith, (omega arith, (omega arith, (omega arith, (omega arith, (omega arith, (omega arith, tt))))))))))

none_g11 : EachSent (NotOf 1 3) (history g31)
unfolding same_stamp same_bucket
none_g11 = ((λ b u e f g. cc), ((λ b u e f g. (let x : 2 ≡ 3 = g in omega arith)), ((λ b u e f g. cc), ((λ b u e f g. cc), ((λ b u e f g. cc), ((λ b u e f g. (let x : 1 ≡ 3 = g in omega arith)), ((λ b u e f g. cc), ((λ b u e f g. cc), ((λ b u e f g. cc), ((λ b u e f g. cc), tt))))))))))

abbrev g32 : List LaneEvent
g32 = event.Sent 11 1 0 0 (body.Read half None) ∷ g31

may_g32 : Permits 1 (state_of (history g32)) (history g31) (meaning g31 (event.Sent 11 1 0 0 (body.Read half None)))
unfolding same_stamp same_bucket
may_g32 = record { greater = λ j m h. numbers (history g31) 11 below_g11 j m h; holder = refl; member = refl; timing = inr refl; carries = record { under_way = refl; first = λ m u a. unapplied (history g31) 1 3 none_g11 m half u a } }

placed_g32 : Placed one_copy g31 (event.Sent 11 1 0 0 (body.Read half None))
placed_g32 = (owns-one one_copy g31 refl, tt)

live_g32 : IsLegal one_copy g32
live_g32 = (live_g31, record { noted = tt; permitted = may_g32; placed = placed_g32; ended = tt })

unnamed_g11 : EachReply (NotNamed (history g32) 0) (history g32)
unfolding same_stamp same_bucket
unnamed_g11 = (inl (λ c s. refl), (inl (λ c s. refl), (inr (record { version = 1; receiver = 1; body = (plain.Read whole); round = 2 }, refl, inr refl), (inl (λ c s. refl), (inl (λ c s. refl), (inl (λ c s. refl), (inl (λ c s. refl), (inl (λ c s. refl), (inl (λ c s. refl), (inl (λ c s. refl), tt))))))))))

shows_g11 : MayShow (history g32) 0 half (record { content = no_content; names = names (record { bucket = half; serial = 2; ready = false } ∷ []) })
unfolding same_stamp
shows_g11 = record { content = λ i h. sym (nothing_joined (contains whole (key_of i))); only = λ i h. refl; serial = λ c s has u q d h shown had. absurd (unnamed-yet (history g32) 0 unnamed_g11 u q d h c s shown had) }

abbrev g33 : List LaneEvent
g33 = event.Delivered 11 (reply.Answer (record { bucket = half; serial = 2; ready = false } ∷ []) []) ∷ g32

may_g33 : Permits 1 (state_of (history g33)) (history g32) (meaning g32 (event.Delivered 11 (reply.Answer (record { bucket = half; serial = 2; ready = false } ∷ []) [])))
unfolding same_stamp same_bucket
may_g33 = record { message = record { version = 1; receiver = 0; body = (plain.Read half); round = 3 }; was_sent = refl; runs = refl; reply = record { low = omega arith; has = tt; takes = tt; show = λ b is. subst (λ (x : Bucket). MayShow (history g32) 0 x (record { content = no_content; names = names (record { bucket = half; serial = 2; ready = false } ∷ []) })) (same_read half b is) shows_g11; show_one = λ i is. cc; fresh = λ c s h w. cc; may_delete = λ b s is. cc } }

noted_g33 : WellNoted g32 (event.Delivered 11 (reply.Answer (record { bucket = half; serial = 2; ready = false } ∷ []) []))
unfolding same_stamp same_bucket covers contains meets first_child second_child
noted_g33 = λ m h. subst (λ (x : Message). NamesShown g32 x (record { bucket = half; serial = 2; ready = false } ∷ []) []) (some_same (record { version = 1; receiver = 0; body = (plain.Read half); round = 3 }) m h) (record { rising = tt; held = tt; asked = tt; shown = shows_beside half 2 (record { bucket = record { bits = 2; low = 1 }; ready = false }) (λ c. meets half c) refl refl })

live_g33 : IsLegal one_copy g33
live_g33 = (live_g32, record { noted = noted_g33; permitted = may_g33; placed = tt; ended = tt })

abbrev g34 : List LaneEvent
g34 = event.Returned 11 ∷ g33

may_g34 : Permits 1 (state_of (history g34)) (history g33) (meaning g33 (event.Returned 11))
unfolding same_stamp same_bucket
may_g34 = record { once = refl; reply = plain.Answer no_content (names (record { bucket = half; serial = 2; ready = false } ∷ [])); replied = refl }

live_g34 : IsLegal one_copy g34
live_g34 = (live_g33, record { noted = tt; permitted = may_g34; placed = tt; ended = tt })

below_g12 : NumbersBelow 12 (history g34)
below_g12 = (omega arith, (omega arith, (omega arith, (omega arith, (omega arith, (omega arith, (omega arith, (omega arith, (omega arith, (omega arith, (omega arith, tt)))))))))))

none_g12 : EachSent (NotOf 1 3) (history g34)
unfolding same_stamp same_bucket
none_g12 = ((λ b u e f g. cc), ((λ b u e f g. cc), ((λ b u e f g. (let x : 2 ≡ 3 = g in omega arith)), ((λ b u e f g. cc), ((λ b u e f g. cc), ((λ b u e f g. cc), ((λ b u e f g. (let x : 1 ≡ 3 = g in omega arith)), ((λ b u e f g. cc), ((λ b u e f g. cc), ((λ b u e f g. cc), ((λ b u e f g. cc), tt)))))))))))

abbrev g35 : List LaneEvent
g35 = event.Sent 12 1 0 1 (body.Read half None) ∷ g34

may_g35 : Permits 1 (state_of (history g35)) (history g34) (meaning g34 (event.Sent 12 1 0 1 (body.Read half None)))
unfolding same_stamp same_bucket
may_g35 = record { greater = λ j m h. numbers (history g34) 12 below_g12 j m h; holder = refl; member = refl; timing = inr refl; carries = record { under_way = refl; first = λ m u a. unapplied (history g34) 1 3 none_g12 m half u a } }

placed_g35 : Placed one_copy g34 (event.Sent 12 1 0 1 (body.Read half None))
placed_g35 = (owns-one one_copy g34 refl, tt)

live_g35 : IsLegal one_copy g35
live_g35 = (live_g34, record { noted = tt; permitted = may_g35; placed = placed_g35; ended = tt })

shows_g12 : MayShow (history g35) 1 half (record { content = no_content; names = names (record { bucket = whole; serial = 3; ready = false } ∷ []) })
unfolding same_stamp same_bucket
shows_g12 = record { content = λ i h. sym (nothing_joined (contains half (key_of i))); only = λ i h. refl; serial = λ c s has u q d h shown had. rw has refl }

abbrev g36 : List LaneEvent
g36 = event.Delivered 12 (reply.Answer (record { bucket = whole; serial = 3; ready = false } ∷ []) []) ∷ g35

may_g36 : Permits 1 (state_of (history g36)) (history g35) (meaning g35 (event.Delivered 12 (reply.Answer (record { bucket = whole; serial = 3; ready = false } ∷ []) [])))
unfolding same_stamp same_bucket
may_g36 = record { message = record { version = 1; receiver = 1; body = (plain.Read half); round = 3 }; was_sent = refl; runs = refl; reply = record { low = omega arith; has = tt; takes = tt; show = λ b is. subst (λ (x : Bucket). MayShow (history g35) 1 x (record { content = no_content; names = names (record { bucket = whole; serial = 3; ready = false } ∷ []) })) (same_read half b is) shows_g12; show_one = λ i is. cc; fresh = λ c s h w. rw h refl; may_delete = λ b s is. cc } }

noted_g36 : WellNoted g35 (event.Delivered 12 (reply.Answer (record { bucket = whole; serial = 3; ready = false } ∷ []) []))
unfolding same_stamp same_bucket covers contains meets first_child second_child
noted_g36 = λ m h. subst (λ (x : Message). NamesShown g35 x (record { bucket = whole; serial = 3; ready = false } ∷ []) []) (some_same (record { version = 1; receiver = 1; body = (plain.Read half); round = 3 }) m h) (record { rising = tt; held = tt; asked = tt; shown = shows_piece whole 3 false (λ c. meets half c) refl })

live_g36 : IsLegal one_copy g36
live_g36 = (live_g35, record { noted = noted_g36; permitted = may_g36; placed = tt; ended = tt })

abbrev g37 : List LaneEvent
g37 = event.Returned 12 ∷ g36

may_g37 : Permits 1 (state_of (history g37)) (history g36) (meaning g36 (event.Returned 12))
unfolding same_stamp same_bucket
may_g37 = record { once = refl; reply = plain.Answer no_content (names (record { bucket = whole; serial = 3; ready = false } ∷ [])); replied = refl }

live_g37 : IsLegal one_copy g37
live_g37 = (live_g36, record { noted = tt; permitted = may_g37; placed = tt; ended = tt })

below_g13 : NumbersBelow 13 (history g37)
below_g13 = (omega arith, (omega arith, (omega arith, (omega arith, (omega arith, (omega arith, (omega arith, (omega arith, (omega arith, (omega arith, (omega arith, (omega arith, tt))))))))))))

unites_g13 : MayUnite (state_of (history g37)) (history g37) 1 half no_content
unfolding same_stamp same_bucket
unites_g13 = record {
  under_way = refl;
  covers = λ m h. elim (two_1 m h) [
    | inl is ↦ subst (λ (m : ℕ). (g : Given) × (answer 1 (round_of 1 half (history g37)) m (history g37) ≡ Some g) × ((i : Id) → Le (g.content i) (no_content i))) (sym is) (record { content = no_content; names = names (record { bucket = half; serial = 2; ready = false } ∷ []) }, refl, λ i. Le_none _)
    | inr is ↦ subst (λ (m : ℕ). (g : Given) × (answer 1 (round_of 1 half (history g37)) m (history g37) ≡ Some g) × ((i : Id) → Le (g.content i) (no_content i))) (sym is) (record { content = no_content; names = names (record { bucket = whole; serial = 3; ready = false } ∷ []) }, refl, λ i. Le_none _)
  ];
  attained = λ i s h. cc;
}

abbrev g38 : List LaneEvent
g38 = event.Sent 13 1 0 1 (body.Apply half []) ∷ g37

may_g38 : Permits 1 (state_of (history g38)) (history g37) (meaning g37 (event.Sent 13 1 0 1 (body.Apply half [])))
unfolding same_stamp same_bucket
may_g38 = record { greater = λ j m h. numbers (history g37) 13 below_g13 j m h; holder = refl; member = refl; timing = inr refl; carries = unites_g13 }

noted_g38 : WellNoted g37 (event.Sent 13 1 0 1 (body.Apply half []))
noted_g38 = (tt, tt)

placed_g38 : Placed one_copy g37 (event.Sent 13 1 0 1 (body.Apply half []))
unfolding same_bucket
placed_g38 = (owns-one one_copy g37 refl, (2, refl, has_two_1))

live_g38 : IsLegal one_copy g38
live_g38 = (live_g37, record { noted = noted_g38; permitted = may_g38; placed = placed_g38; ended = tt })

abbrev g39 : List LaneEvent
g39 = event.Delivered 13 (reply.Answer [] []) ∷ g38

may_g39 : Permits 1 (state_of (history g39)) (history g38) (meaning g38 (event.Delivered 13 (reply.Answer [] [])))
unfolding same_stamp same_bucket
may_g39 = record { message = record { version = 1; receiver = 1; body = (plain.Apply half no_content); round = 3 }; was_sent = refl; runs = refl; reply = record { low = omega arith; has = tt; takes = tt; show = λ b is. cc; show_one = λ i is. cc; fresh = λ c s h w. cc; may_delete = λ b s is. cc } }

noted_g39 : WellNoted g38 (event.Delivered 13 (reply.Answer [] []))
unfolding same_stamp same_bucket
noted_g39 = λ m h. subst (λ (x : Message). NamesShown g38 x ([]) []) (some_same (record { version = 1; receiver = 1; body = (plain.Apply half no_content); round = 3 }) m h) (record { rising = tt; held = tt; asked = refl; shown = refl })

live_g39 : IsLegal one_copy g39
live_g39 = (live_g38, record { noted = noted_g39; permitted = may_g39; placed = tt; ended = tt })

abbrev g40 : List LaneEvent
g40 = event.Returned 13 ∷ g39

may_g40 : Permits 1 (state_of (history g40)) (history g39) (meaning g39 (event.Returned 13))
unfolding same_stamp same_bucket
may_g40 = record { once = refl; reply = plain.Answer no_content (names ([])); replied = refl }

live_g40 : IsLegal one_copy g40
live_g40 = (live_g39, record { noted = tt; permitted = may_g40; placed = tt; ended = tt })

to_g_r3 : EachSent (GoesTo 1 3 (nodes 2)) (history g40)
unfolding same_stamp same_bucket
to_g_r3 = ((λ b u e f g. has_two_1), ((λ b u e f g. cc), ((λ b u e f g. cc), ((λ b u e f g. cc), ((λ b u e f g. absurd (let x : 2 ≡ 3 = g in omega arith)), ((λ b u e f g. cc), ((λ b u e f g. cc), ((λ b u e f g. cc), ((λ b u e f g. absurd (let x : 1 ≡ 3 = g in omega arith)), ((λ b u e f g. cc), ((λ b u e f g. cc), ((λ b u e f g. cc), ((λ b u e f g. cc), tt)))))))))))))

done_g_r3 : LinesDone (history g40) (history g40)
done_g_r3 = tt

took_g_r3 : (n : ℕ) → nodes 2 n ≡ true → AnsweredApply 1 3 n half (history g40)
unfolding same_stamp same_bucket
took_g_r3 n h = subst (λ (i : ℕ). AnsweredApply 1 3 i half (history g40)) (sym (two_last n h)) (record { union = no_content; number = 13; message = record { version = 1; receiver = 1; body = (plain.Apply half no_content); round = 3 }; content = no_content; names = names []; was_sent = refl; receiver = refl; version = refl; body = refl; reply = refl; back = refl; round = refl })

abbrev g41 : List LaneEvent
g41 = event.Decided 0 1 (choice.RoundEnded half 2) ∷ g40

may_g41 : Permits 1 (state_of (history g41)) (history g40) (meaning g40 (event.Decided 0 1 (choice.RoundEnded half 2)))
unfolding same_stamp same_bucket
may_g41 = (refl, record { under_way = refl; idle = idle-done (history g40) done_g_r3 1 half; answered = took_g_r3; whole = λ n a. applied-to (history g40) 1 3 (nodes 2) to_g_r3 n half a })

placed_g41 : Placed one_copy g40 (event.Decided 0 1 (choice.RoundEnded half 2))
placed_g41 = (owns-one one_copy g40 refl, tt)

live_g41 : IsLegal one_copy g41
live_g41 = (live_g40, record { noted = tt; permitted = may_g41; placed = placed_g41; ended = tt })

row_g8 : IsRow 1 half (history g41)
row_g8 = record { fits = omega arith; opened = refl; row = (second_g6).row }

done_g8 : LinesDone (history g41) (history g41)
done_g8 = tt

quiet_g8 : IsIdleRow 1 half (history g41)
unfolding same_stamp same_bucket
quiet_g8 = record { row = row_g8; no_round = refl; idle = idle-done (history g41) done_g8 1 half }

took_g8 : AnsweredApply 1 (round_of 1 half (history g41)) 1 half (history g41)
unfolding same_stamp same_bucket
took_g8 = record { union = no_content; number = 13; message = record { version = 1; receiver = 1; body = (plain.Apply half no_content); round = 3 }; content = no_content; names = names []; was_sent = refl; receiver = refl; version = refl; body = refl; reply = refl; back = refl; round = refl }

keepers_g8 : AtLeast 1 (λ m. Keeper 1 (round_of 1 half (history g41)) 0 m half (history g41))
unfolding count count_below
keepers_g8 = (only_1, omega arith, λ m h. subst (λ (i : ℕ). Keeper 1 (round_of 1 half (history g41)) 0 i half (history g41)) (sym (is_1 m h)) (record { other = λ e. omega arith; member = λ key i. rw (i, has_two_1) refl; answered = took_g8 }))

abbrev g42 : List LaneEvent
g42 = event.Decided 0 1 (choice.DeleteFrom half 0 2) ∷ g41

may_g42 : Permits 1 (state_of (history g42)) (history g41) (meaning g41 (event.Decided 0 1 (choice.DeleteFrom half 0 2)))
unfolding same_stamp same_bucket
may_g42 = (refl, record { quiet = quiet_g8; none = λ key h. rw (half-in key h) refl; inactive = λ key h a. cc; given = record { content = no_content; names = names (record { bucket = half; serial = 2; ready = false } ∷ []) }; read = refl; named = refl; keepers = keepers_g8 })

placed_g42 : Placed one_copy g41 (event.Decided 0 1 (choice.DeleteFrom half 0 2))
placed_g42 = (owns-one one_copy g41 refl, not-half g41 refl (λ key. refl))

live_g42 : IsLegal one_copy g42
live_g42 = (live_g41, record { noted = tt; permitted = may_g42; placed = placed_g42; ended = tt })

done_g9 : LinesDone (history g42) (history g42)
done_g9 = tt

quietly_g9 : (b : Bucket) → IsRow 1 b (history g42) → running 1 b (history g42) ≡ false → IsIdleRow 1 b (history g42)
quietly_g9 b r h = record { row = r; no_round = h; idle = idle-done (history g42) done_g9 1 b }

still_g9_1 : running 1 (first_child whole) (history g42) ≡ false
unfolding same_bucket first_child
still_g9_1 = refl

still_g9_2 : running 1 half (history g42) ≡ false
unfolding same_bucket
still_g9_2 = refl

firstly_g9 : IsRow 1 (first_child whole) (history g42)
firstly_g9 = record { fits = first-fits; opened = refl; row = (first_g6).row }

secondly_g9 : IsRow 1 half (history g42)
secondly_g9 = record { fits = omega arith; opened = refl; row = (second_g6).row }

one_g9 : (key : ℕ) → contains whole key ≡ true → (deleting 1 key (history g42) ≡ None) ⊎ (deleting 1 (across whole key) (history g42) ≡ None)
one_g9 key h = elim (either-half key) [ inl out ↦ inl (rw (out, h) refl) | inr out ↦ inr (rw (out.0, out.1) refl) ]

second-quiet_g9 : IsIdleRow 1 (second_child whole) (history g42)
unfolding second_child
second-quiet_g9 = quietly_g9 half secondly_g9 still_g9_2

abbrev g43 : List LaneEvent
g43 = event.Decided 0 1 (choice.RowsJoined whole) ∷ g42

may_g43 : Permits 1 (state_of (history g43)) (history g42) (meaning g42 (event.Decided 0 1 (choice.RowsJoined whole)))
unfolding same_stamp
may_g43 = (refl, record { fits = omega arith; first = quietly_g9 (first_child whole) firstly_g9 still_g9_1; second = second-quiet_g9; same_active = λ key h. refl; one_delete = one_g9 })

placed_g43 : Placed one_copy g42 (event.Decided 0 1 (choice.RowsJoined whole))
placed_g43 = (owns-one one_copy g42 refl, omega arith)

live_g43 : IsLegal one_copy g43
live_g43 = (live_g42, record { noted = tt; permitted = may_g43; placed = placed_g43; ended = tt })

took_g10 : AnsweredApply 1 (round_of 1 whole (history g43)) 0 whole (history g43)
unfolding same_stamp same_bucket
took_g10 = record { union = no_content; number = 9; message = record { version = 1; receiver = 0; body = (plain.Apply whole no_content); round = 2 }; content = no_content; names = names []; was_sent = refl; receiver = refl; version = refl; body = refl; reply = refl; back = refl; round = refl }

to_g10 : EachSent (GoesTo 1 2 (nodes 1)) (history g43)
unfolding same_stamp same_bucket
to_g10 = ((λ b u e f g. absurd (let x : 3 ≡ 2 = g in omega arith)), ((λ b u e f g. cc), ((λ b u e f g. cc), ((λ b u e f g. cc), ((λ b u e f g. has_one_0), ((λ b u e f g. cc), ((λ b u e f g. cc), ((λ b u e f g. cc), ((λ b u e f g. absurd (let x : 1 ≡ 2 = g in omega arith)), ((λ b u e f g. cc), ((λ b u e f g. cc), ((λ b u e f g. cc), ((λ b u e f g. cc), tt)))))))))))))

gone_g10 : complete 1 0 3 (history g43) ≡ false
unfolding contains
gone_g10 = refl

round_g10 : round_of 1 whole (history g43) ≡ 2
unfolding same_bucket
round_g10 = refl

none-keeps : (m : ℕ) → Keeper 1 (round_of 1 whole (history g43)) 1 m whole (history g43) → ⊥
none-keeps m k =
    let took : AnsweredApply 1 2 m whole (history g43) = subst (λ (r : ℕ). AnsweredApply 1 r m whole (history g43)) round_g10 k.answered in
    let zero_is : m ≡ 0 = one_first m (applied-to (history g43) 1 2 (nodes 1) to_g10 m whole took) in
    let here : complete 1 0 3 (history g43) ≡ true = subst (λ (i : ℕ). complete 1 i 3 (history g43) ≡ true) zero_is (k.member 3 three_in) in
    absurd (let z : true ≡ false = sym here ∙ gone_g10 in cc)

pub no_keeper : IsNoKeeper 1 whole 1 0 deleting_keeper
no_keeper = record { answered = took_g10; other = λ e. omega arith; kept = none-keeps 0 }

pub unmarked : IsRefused one_copy deleting_keeper (event.Decided 0 1 (choice.DeleteFrom whole 1 3))
unmarked = record { legal = live_g43; noted = tt; placed = (owns-one one_copy g43 refl, not-whole g43 refl (λ key. refl)); ended = tt; unpermitted = λ p. (let k = AtLeast-some 1 _ (omega arith) (p.1).keepers in none-keeps k.0 k.1) }
