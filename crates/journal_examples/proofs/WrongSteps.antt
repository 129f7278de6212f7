-- Wrong steps are refused: an early opening, a state that is too small, an incomplete replica, a second activation.
use Rattle.std.proofs.Common.{◌≡◌, ℕ, true, false, List, [], ◌∷◌, Option, Some, None, refl, sym, ◌∙◌, arith, eqb, eq-eqb}
use Rattle.lane_journals.specs.Sets.{count_below, count}
use Rattle.lane_journals.specs.Stamps.{same_stamp}
use Rattle.lane_journals.specs.Buckets.{contains, same_bucket, Id, key_of}
use Rattle.lane_journals.specs.Legal.{Permits}
use Rattle.lane_journals.specs.States.{state_of}
use Rattle.lane_journals.specs.Meanings.{names, meaning, history}
use Rattle.lane_journals.specs.Places.{Placed}
use Rattle.lane_journals.specs.KeptJournals.{IsLegal}
use Rattle.journal_examples.specs.Lives.{lane, setting, stamp_one, asked_one, opened_one, life_one, activated}
use Rattle.journal_examples.specs.WrongSteps.{IsRefused, opened_early, state_small, incomplete_read}
use Rattle.lane_journals.specs.declared.event.LaneEvent.{LaneEvent}
use Rattle.journal_examples.proofs.Walking.{no_content, each-sent, EachSent, LinesDone, line-done}
use Rattle.journal_examples.proofs.LifeFacts.{owns1, owns2, has_both_0, one_row, first_member}
use Rattle.journal_examples.proofs.LifeOne.{live_a5, live_a9}
use Rattle.journal_examples.proofs.LifeWritten.{live_a45}
use Rattle.journal_examples.proofs.LifeTwo.{live_b25}
use Rattle.lane_journals.specs.Events as plain
use Rattle.messages.specs.declared.decision.Decision.TheVariants as choice
use Rattle.lane_journals.specs.declared.event.LaneEvent.TheVariants as event

-- ---- opened before all nodes answered

early_sends : EachSent (λ m. eqb m.receiver 1 ≡ false) (history asked_one)
early_sends = (refl, tt)

pub early : IsRefused setting asked_one opened_early
early = record {
  legal = live_a5 lane 2;
  noted = tt;
  placed = (owns1 asked_one refl, one_row asked_one 1 (λ c s h. cc, tt));
  ended = tt;
  unpermitted = λ p. (let a = p.all 1 refl in
      let x = each-sent (λ m. eqb m.receiver 1 ≡ false) (history asked_one) early_sends a.number a.message a.was_sent in
      let y = eq-eqb (a.message).receiver 1 a.receiver in absurd (let z : true ≡ false = sym y ∙ x in cc));
}

module _ (id : Id) (inside : contains lane (key_of id) ≡ true) where
  -- ---- a state that leaves out too many

  pub leaving : IsRefused setting (life_one id) (event.Published state_small)
  unfolding count count_below
  leaving = record { legal = live_a45 id inside; noted = tt; placed = (refl, refl); ended = tt; unpermitted = λ p. absurd (let few = p.few in omega arith) }

  -- ---- a condition read from an incomplete replica

  done_cline1 : LinesDone (history opened_one) (history opened_one)
  done_cline1 = tt

  abbrev c1 : List LaneEvent
  c1 = event.Begun 1 0 1 id (Some stamp_one) ∷ opened_one

  may_c1 : Permits 1 (state_of (history c1)) (history opened_one) (meaning opened_one (event.Begun 1 0 1 id (Some stamp_one)))
  unfolding same_stamp same_bucket
  may_c1 = record { fresh = refl; unrefused = refl; holder = refl; alone = λ o b h is. line-done (history opened_one) (history opened_one) done_cline1 o b h; stamp = (refl, refl) }

  live_c1 : IsLegal setting c1
  live_c1 = (live_a9, record { noted = tt; permitted = may_c1; placed = (owns1 opened_one refl, inside); ended = tt })

  pub unready : IsRefused setting (incomplete_read id) (event.Prepared 1 lane 3)
  unready = record {
    legal = live_c1;
    noted = tt;
    placed = tt;
    ended = tt;
    unpermitted = λ p. (let r = p.recipients 0 (key_of id) inside in let h = has_both_0 in absurd (let z : true ≡ false = sym h ∙ r in cc));
  }

  -- ---- a row activated twice

  placed_twice : Placed setting (activated id) (event.Decided 0 2 (choice.ActiveOn lane 0))
  unfolding same_stamp same_bucket
  placed_twice = (owns2 (activated id) refl, (record { number = 18; message = record { version = 2; receiver = 0; body = plain.Ready lane; round = 0 }; content = no_content; names = names []; was_sent = refl; receiver = refl; version = refl; body = refl; reply = refl; back = refl }, first_member (activated id) refl))

  -- node 0 is active already
  pub twice : IsRefused setting (activated id) (event.Decided 0 2 (choice.ActiveOn lane 0))
  twice = record {
    legal = live_b25 id inside;
    noted = tt;
    placed = placed_twice;
    ended = tt;
    unpermitted = λ p. (let u = (p.1).undecided (key_of id) inside in absurd (let z : ◌≡◌ {A = Option ℕ} (Some 0) None = (rw inside at u) in cc));
  }
