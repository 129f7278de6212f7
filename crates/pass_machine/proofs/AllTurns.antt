-- A row that a join made, or a split, is told to each node in turn.
use Rattle.std.proofs.Common.{◌≡◌, ◌∙◌, ℕ, suc, ◌+◌, Bool, true, false, List, refl, ap, ap₂, nat_lt, if◌then◌else◌}
use Rattle.bucket_ids.specs.Buckets.{Low, first_child, parent_of}
use Rattle.cluster_states.specs.Publishing.{serves}
use Rattle.messages.specs.declared.body.Body.TheVariants as body
use Rattle.pass_model.specs.Nodes.{split_node, join_node}
use Rattle.pass_model.specs.Rows.{Settings}
use Rattle.pass_model.specs.Passes.{World}
use Rattle.pass_model.specs.Turns as turns
use Rattle.pass_model.specs.Turns.{Stand, stand, told, turn_at, join_one, split_one}
use Rattle.pass_machine.specs.declared.doing.Time.{Time}
use Rattle.pass_machine.specs.declared.doing.Doing.TheVariants.{JoinTold, JoinRound, SplitTold, SplitFirst}
use Rattle.pass_machine.specs.declared.doing.UpkeepStep.TheVariants as step
use Rattle.pass_machine.specs.declared.doing.Turn.TheVariants.{Over, Says}
use Rattle.pass_machine.specs.Turns.{View, tell_all}
use Rattle.pass_machine.specs.Abstract.{time_of, Agrees, Tells}
use Rattle.pass_machine.proofs.SettleTurns.{one-turn, next-one, told-none, told-one}

module _ (v : View) (s : Settings) (agrees : Agrees v s) (list : List Low) (w : World) where
  -- ---- joins

  module _ (t : Time) (bits at : ℕ) (p : Low) (n : ℕ) where
    abbrev join-to : Stand
    join-to = stand (turns.JoinTold (time_of list t) bits at p (suc n)) (told n (join_one s p) w)

    abbrev join-end : Stand
    join-end = stand (turns.JoinRound (time_of list t) bits at p) w

    pub joins_told : Tells v s list w (JoinTold t bits at p n) (tell_all v n (body.Join p) (JoinTold t bits at p (n + 1)) (JoinRound t bits at p))
    joins_told = by_test (nat_lt n 32) refl
      where
        by_serves : nat_lt n 32 ≡ true → (x : Bool) → serves v.state n ≡ x → Tells v s list w (JoinTold t bits at p n) (if x then Says (step.Tell n (body.Join p)) else Over (JoinTold t bits at p (n + 1)))
        by_serves e true f = ap (λ (u : Bool). if u then join-to else join-end) e
            ∙ ap₂ (λ (d : turns.Doing) (x : World). stand d x) (ap (λ (k : ℕ). turns.JoinTold (time_of list t) bits at p k) (next-one n))
            (told-one n (join_one s p) (body.Join p) w (λ x. ap (λ (u : Bool). if u then join_node p x else x) (agrees.serving n ∙ f)))
        by_serves e false f = (
          1,
          one-turn s (turns.JoinTold (time_of list t) bits at p n) w (stand (turns.JoinTold (time_of list t) bits at p (n + 1)) w) (ap (λ (u : Bool). if u then join-to else join-end) e
              ∙ ap₂ (λ (d : turns.Doing) (x : World). stand d x) (ap (λ (k : ℕ). turns.JoinTold (time_of list t) bits at p k) (next-one n))
              (told-none n (join_one s p) w (λ x. ap (λ (u : Bool). if u then join_node p x else x) (agrees.serving n ∙ f)))),
        )

        by_test : (x : Bool) → nat_lt n 32 ≡ x → Tells v s list w (JoinTold t bits at p n) (if x then (if serves v.state n then Says (step.Tell n (body.Join p)) else Over (JoinTold t bits at p (n + 1))) else Over (JoinRound t bits at p))
        by_test true e = by_serves e (serves v.state n) refl
        by_test false e = (1, one-turn s (turns.JoinTold (time_of list t) bits at p n) w (stand (turns.JoinRound (time_of list t) bits at p) w) (ap (λ (u : Bool). if u then join-to else join-end) e))

  -- ---- splits

  module _ (at : ℕ) (first second : Low) (n : ℕ) (is_first : first_child (parent_of first) ≡ first) where
    abbrev split-to : Stand
    split-to = stand (turns.SplitTold at (parent_of first) (suc n)) (told n (split_one s (parent_of first)) w)

    abbrev split-end : Stand
    split-end = stand (turns.SplitFirst at (parent_of first)) w

    pub splits_told : Tells v s list w (SplitTold at first second n) (tell_all v n (body.Split first) (SplitTold at first second (n + 1)) (SplitFirst at first second))
    splits_told = by_test (nat_lt n 32) refl
      where
        by_serves : nat_lt n 32 ≡ true → (x : Bool) → serves v.state n ≡ x → Tells v s list w (SplitTold at first second n) (if x then Says (step.Tell n (body.Split first)) else Over (SplitTold at first second (n + 1)))
        by_serves e true f = ap (λ (u : Bool). if u then split-to else split-end) e
            ∙ ap₂ (λ (d : turns.Doing) (x : World). stand d x) (ap (λ (k : ℕ). turns.SplitTold at (parent_of first) k) (next-one n))
            (told-one n (split_one s (parent_of first)) (body.Split first) w (λ x. ap₂ (λ (u : Bool) (b : Low). if u then split_node b x else x) (agrees.serving n ∙ f) is_first))
        by_serves e false f = (
          1,
          one-turn s (turns.SplitTold at (parent_of first) n) w (stand (turns.SplitTold at (parent_of first) (n + 1)) w) (ap (λ (u : Bool). if u then split-to else split-end) e
              ∙ ap₂ (λ (d : turns.Doing) (x : World). stand d x) (ap (λ (k : ℕ). turns.SplitTold at (parent_of first) k) (next-one n))
              (told-none n (split_one s (parent_of first)) w (λ x. ap (λ (u : Bool). if u then split_node (first_child (parent_of first)) x else x) (agrees.serving n ∙ f)))),
        )

        by_test : (x : Bool) → nat_lt n 32 ≡ x → Tells v s list w (SplitTold at first second n) (if x then (if serves v.state n then Says (step.Tell n (body.Split first)) else Over (SplitTold at first second (n + 1))) else Over (SplitFirst at first second))
        by_test true e = by_serves e (serves v.state n) refl
        by_test false e = (1, one-turn s (turns.SplitTold at (parent_of first) n) w (stand (turns.SplitFirst at (parent_of first)) w) (ap (λ (u : Bool). if u then split-to else split-end) e))
