-- Each of the five things that a line wants before it is prepared either adds an event or ends it for a shortage.
use Rattle.std.proofs.Common.{◌≡◌, ℕ, List, Option, None, Some, inl, inr}
use Rattle.bucket_ids.specs.Buckets.{Low}
use Rattle.cluster_states.specs.declared.cluster_state.ClusterState.{ClusterState}
use Rattle.messages.specs.declared.message.Message.{Message}
use Rattle.messages.specs.declared.outcome.Outcome.{Outcome}
use Rattle.messages.specs.declared.outcome.Outcome.TheVariants.{TooFew}
use Rattle.messages.specs.declared.step.Step.{Step}
use Rattle.messages.specs.declared.step.Step.TheVariants.{Send, Open, Decide, Finished}
use Rattle.distributor_part.specs.declared.rules.Rules.{Rules}
use Rattle.distributor_part.specs.Parts.{Part}
use Rattle.merge_rounds.specs.Rounds.{RoundState}
use Rattle.lane_journals.specs.Readers as readers
use Rattle.lane_journals.specs.Readers.{before_line, round_of}
use Rattle.lane_journals.specs.Meanings.{history}
use Rattle.lane_journals.specs.declared.event.LaneEvent.{LaneEvent}
use Rattle.operation_keeping.specs.OperationKeeping.{WasShort}
use Rattle.operation_keeping.specs.Wants.{Ends, EndsUnless, OpeningGives, OpeningWants, BeginningWants, RoundGives, RoundWants, PreparingWants, ShortWants, UnpreparedWants, is_ask, is_round_read, is_round_apply}
use Rattle.operation_keeping.specs.Shortages.{FallsShort}

module _ (J : List LaneEvent) (line : ℕ) (s : ClusterState) where
  -- what came back of messages of some kind came back of messages of the version
  of-version : (test : readers.Message → Type 0) → ((m : readers.Message) → test m → m.version ≡ s.version) → WasShort (history J) line test → WasShort (history J) line (λ m. m.version ≡ s.version)
  of-version test all w = record { number = w.number; message = w.message; was_sent = w.was_sent; later = w.later; tested = all w.message w.tested; reply = w.reply; back = w.back }

  unless : (test : readers.Message → Type 0) → ((m : readers.Message) → test m → m.version ≡ s.version) → (have wanted absent : ℕ) (x : Outcome) → EndsUnless (WasShort (history J) line test) (TooFew have wanted absent) (Ends x) → FallsShort J line s x
  unless test all have wanted absent x h = elim h [
    | inl short ↦ inr (short.1, of-version test all short.0)
    | inr few ↦ inl (have, wanted, absent, few.1)
  ]

  -- the opening
  by-step : (d : ℕ) (p : Part) (step : Step) (x : Outcome) → OpeningGives J (before_line line (history J)) d s p step (Ends x) → FallsShort J line s x
  by-step d p (Send m) x h = absurd h
  by-step d p (Open rows) x h = absurd h
  by-step d p (Decide y) x h = absurd h
  by-step d p (Finished missing) x h = unless (is_ask s.version) (λ m t. t.0) _ _ _ x h

  opening : (lane : Low) (rules : Rules) (key d : ℕ) (x : Outcome) → OpeningWants lane rules J (before_line line (history J)) key d s (Ends x) → FallsShort J line s x
  opening lane rules key d x w = by-step d w.part w.step x w.gives

  -- a round that is begun or prepared adds an event
  beginning : (lane : Low) (rules : Rules) (key d : ℕ) (x : Outcome) → BeginningWants lane rules J (before_line line (history J)) key d s (Ends x) → FallsShort J line s x
  beginning lane rules key d x w = let is = w.is in absurd (cc)

  preparing : (rules : Rules) (key : ℕ) (x : Outcome) → PreparingWants rules J line key s (Ends x) → FallsShort J line s x
  preparing rules key x w = let is = w.is in absurd (cc)

  -- and so does one that is under way
  by-round : (d : ℕ) (r : RoundState) (next : Option Message) (x : Outcome) → RoundGives d s r next (Ends x) → FallsShort J line s x
  by-round d r None x h = absurd h
  by-round d r (Some m) x h = absurd h

  under-way : (lane : Low) (key d : ℕ) (x : Outcome) → RoundWants lane J key d s (Ends x) → FallsShort J line s x
  under-way lane key d x w = by-round d w.round w.next x w.gives

  -- after its round
  short : (rules : Rules) (key : ℕ) (x : Outcome) → ShortWants rules J (before_line line (history J)) key s (Ends x) → FallsShort J line s x
  short rules key x w = elim w.gives [
    | inl reads ↦ unless (is_round_read s.version (w.row).bucket (round_of s.version (w.row).bucket (history J))) (λ m t. t.0) _ _ _ x reads.1
    | inr union ↦ unless (is_round_apply s.version (w.row).bucket (round_of s.version (w.row).bucket (history J))) (λ m t. t.0) _ _ _ x union.1
  ]

  pub falls-short : (lane : Low) (rules : Rules) (key d : ℕ) (x : Outcome) → UnpreparedWants lane rules J line (before_line line (history J)) key d s (Ends x) → FallsShort J line s x
  falls-short lane rules key d x h = elim h [
    | inl opens ↦ opening lane rules key d x opens
    | inr other ↦ elim other [
      | inl begins ↦ beginning lane rules key d x begins
      | inr more ↦ elim more [
        | inl runs ↦ under-way lane key d x runs
        | inr last ↦ elim last [ inl prepares ↦ preparing rules key x prepares | inr few ↦ short rules key x few ]
      ]
    ]
  ]
