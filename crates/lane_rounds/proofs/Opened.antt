-- The steps of an owner's part that opens its state, at its place among the parts.
use Rattle.std.proofs.Common.{◌≡◌, ◌⊎◌, ◌<◌, ◌+◌, ◌&&◌, ◌||◌, not, Bool, true, false, eqb, eq-eqb, refl, ℕ, List, Option, Some, None, inl, inr, length, slice_set, sym, ap, subst, ◌∙◌}
use Rattle.bucket_ids.specs.Buckets.{Low}
use Rattle.cluster_states.specs.declared.cluster_state.ClusterState.{ClusterState}
use Rattle.ideal_nodes.specs.Placement.{IsOwner}
use Rattle.messages.specs.declared.message.Message.{Message}
use Rattle.distributor_part.specs.declared.rules.Rules.{Rules}
use Rattle.distributor_part.specs.declared.stage.Stage.{Stage}
use Rattle.distributor_part.specs.declared.stage.Stage.TheVariants.{Before, Ended}
use Rattle.distributor_part.specs.Parts.{Part, IsOwning, version_of}
use Rattle.distributor_part.specs.Steps.{Asks, Opens, HasRows, IsUnopened, HaveAllAnswered, LacksAnswers, HasEnough, Finishes, without_end}
use Rattle.lane_journals.specs.declared.event.LaneEvent.{LaneEvent}
use Rattle.lane_keeping.specs.LaneKeeping.{PartKeeps, part_in}
use Rattle.lane_keeping.specs.Asking.{IsAsking}
use Rattle.std.proofs.lemmas.Bool.{eqb-true}
use Rattle.node_sets.specs.Members.{has_node, size_of}
use Rattle.ideal_nodes.proofs.Picks.{size_without}
use Rattle.lane_states.specs.Growing.{HasHeard}
use Rattle.lane_rounds.specs.Openings.{IsOpening}
use Rattle.lane_keeping.proofs.Parts.{part-own}

-- the Ask may be sent
asking-of : (lane : Low) (rules : Rules) (J : List LaneEvent) (d : ℕ) (p q : Part) (m : Message) → PartKeeps lane rules J d p → IsOwning p → Asks p q m → IsAsking lane d q m
asking-of lane rules J d p q m k own a = record {
  state = a.state;
  heard = ap (λ (x : Part). x.state) a.after ∙ (a.unopened).heard;
  owner = subst (λ (s : ClusterState). IsOwner lane s d) same (subst (λ (n : ℕ). IsOwner lane own.state n) k.number_is (subst (λ (l : Low). IsOwner l own.state p.number) k.lane_is own.owner));
  unopened = ap (λ (x : Part). x.rows) a.after ∙ (a.unopened).unopened;
  unanswered = ap (λ (x : Part). has_node x.answered m.receiver) a.after ∙ (a.to_ask).unanswered;
  serving = (a.to_ask).serves;
  body_is = ap (λ (x : Message). x.body) a.message;
  version_is = ap (λ (x : Message). x.version) a.message;
  sender_is = ap (λ (x : Message). x.sender) a.message ∙ k.number_is;
}
  where
    same : own.state ≡ a.state
    same = let h = sym own.heard ∙ (a.unopened).heard in cc

module _ (lane : Low) (rules : Rules) (parts : List Part) (d : ℕ) (p q : Part) (within : d < length parts) (is : part_in lane rules parts d ≡ p) where
  abbrev pub now : List Part
  now = slice_set parts d q

  pub own : part_in lane rules now d ≡ q
  own = part-own lane rules parts d q within

  -- a part whose job goes on, or is over
  pub changed-at : (asked : ℕ) (awaited : Option ℕ) (stage : Stage) → q ≡ record p { asked = asked; awaited = awaited; stage = stage }
      → part_in lane rules now d ≡ record (part_in lane rules parts d) { asked = asked; awaited = awaited; stage = stage }
  changed-at asked awaited stage e = own ∙ e ∙ ap (λ (x : Part). record x { asked = asked; awaited = awaited; stage = stage }) (sym is)

  pub asks-at : (m : Message) → Asks p q m → Asks (part_in lane rules parts d) (part_in lane rules now d) m
  asks-at m a = subst (λ (x : Part). Asks (part_in lane rules parts d) x m) (sym own) (subst (λ (x : Part). Asks x q m) (sym is) a)

  pub may-ask-at : (J : List LaneEvent) (m : Message) → PartKeeps lane rules J d (part_in lane rules parts d) → IsOwning (part_in lane rules parts d) → Asks p q m → IsAsking lane d (part_in lane rules now d) m
  may-ask-at J m k o a = subst (λ (x : Part). IsAsking lane d x m) (sym own) (asking-of lane rules J d (part_in lane rules parts d) q m k o (subst (λ (x : Part). Asks x q m) (sym is) a))

  pub awaited-now : (m : Message) → Asks p q m → (part_in lane rules now d).awaited ≡ Some m.receiver
  awaited-now m a = ap (λ (x : Part). x.awaited) own ∙ ap (λ (x : Part). x.awaited) a.after

  abbrev pub opens-at : (bs : List Low) → Opens p q bs → Opens (part_in lane rules parts d) (part_in lane rules now d) bs
  opens-at bs o = record {
    state = o.state;
    unopened = subst (λ (x : Part). IsUnopened x o.state) (sym is) o.unopened;
    all = subst (λ (x : Part). HaveAllAnswered x o.state) (sym is) o.all;
    rows = subst (λ (x : Part). HasRows (part_in lane rules parts d) x bs) (sym own) (subst (λ (x : Part). HasRows x q bs) (sym is) o.rows);
  }

  -- the version of the state that is opened
  pub version-opened : (bs : List Low) (o : Opens p q bs) → version_of q.state ≡ (o.state).version
  version-opened bs o = ap version_of (ap (λ (x : Part). x.state) (o.rows).after ∙ (o.unopened).heard)

  -- and its owner
  pub owner-at : (J : List LaneEvent) (s : ClusterState) → PartKeeps lane rules J d (part_in lane rules parts d) → IsOwning (part_in lane rules parts d) → p.state ≡ Some s → IsOwner lane s d
  owner-at J s k o e = subst (λ (t : ClusterState). IsOwner lane t d) same (subst (λ (n : ℕ). IsOwner lane o.state n) k.number_is (subst (λ (l : Low). IsOwner l o.state (part_in lane rules parts d).number) k.lane_is o.owner))
    where
      same : o.state ≡ s
      same = let h = sym o.heard ∙ (ap (λ (x : Part). x.state) is ∙ e) in cc

  pub lacks-at : (missing : ℕ) → LacksAnswers p missing → LacksAnswers (part_in lane rules parts d) missing
  lacks-at missing l = subst (λ (x : Part). LacksAnswers x missing) (sym is) l

  pub owns-at : IsOwning (part_in lane rules parts d) → IsOwning p
  owns-at o = subst IsOwning is o

  -- nobody is left to ask
  pub lacking-at : (key missing : ℕ) → Finishes p q key missing → (part_in lane rules parts d).rows ≡ None → (part_in lane rules parts d).stage ≡ Before → LacksAnswers (part_in lane rules parts d) missing
  lacking-at key missing f closed before = by_cause f.cause
    where
      by_cause : LacksAnswers p missing ⊎ (HasEnough p key missing ⊎ (p.stage ≡ Ended missing)) → LacksAnswers (part_in lane rules parts d) missing
      by_cause (inl l) = lacks-at missing l
      by_cause (inr (inl h)) = let none : Some h.rows ≡ None = sym h.opened ∙ sym (ap (λ (x : Part). x.rows) is) ∙ closed in cc
      by_cause (inr (inr e)) = let none : Ended missing ≡ Before = sym e ∙ sym (ap (λ (x : Part). x.stage) is) ∙ before in cc

  pub finished-at : (key missing : ℕ) → Finishes p q key missing → part_in lane rules now d ≡ record (part_in lane rules parts d) { asked = 0; stage = Before }
  finished-at key missing f = own ∙ f.after ∙ ap (λ (x : Part). record x { asked = 0; stage = Before }) (sym is)

  pub given-up-at : q ≡ record p { asked = 0; awaited = None; stage = without_end p.stage }
      → part_in lane rules now d ≡ record (part_in lane rules parts d) { asked = 0; awaited = None; stage = without_end (part_in lane rules parts d).stage }
  given-up-at e = own ∙ e ∙ ap (λ (x : Part). record x { asked = 0; awaited = None; stage = without_end x.stage }) (sym is)

-- ---- a node was asked

pub more-asked : (p q r : Part) (m : Message) → Asks p q m → HasHeard q r → size_of r.asked ≡ size_of p.asked + 1
more-asked p q r m a h =
    let same : r.asked ≡ q.asked = ap (λ (x : Part). x.asked) h.after in
    ap size_of same ∙ sym (size_without q.asked p.asked m.receiver (λ n. without n) (a.marked m.receiver ∙ itself))
  where
    itself : (has_node p.asked m.receiver || eqb m.receiver m.receiver) ≡ true
    itself = rw (a.to_ask).unasked (eq-eqb m.receiver m.receiver refl)

    without : (n : ℕ) → has_node p.asked n ≡ (has_node q.asked n && not (eqb n m.receiver))
    without n = rw (a.marked n) (by_test (eqb n m.receiver) refl (has_node p.asked n) refl)
      where
        by_test : (t : Bool) → eqb n m.receiver ≡ t → (b : Bool) → has_node p.asked n ≡ b → b ≡ ((b || t) && not t)
        by_test true e true h = absurd (let is = eqb-true n m.receiver e in let no : false ≡ true = sym (a.to_ask).unasked ∙ sym (ap (has_node p.asked) is) ∙ h in cc)
        by_test true e false h = refl
        by_test false e true h = refl
        by_test false e false h = refl

pub opening-after : (p q r : Part) (m : Message) → IsOpening p → Asks p q m → HasHeard q r → IsOpening r
opening-after p q r m o a h = record {
  owns = record {
    state = (o.owns).state;
    heard = ap (λ (x : Part). x.state) h.after ∙ ap (λ (x : Part). x.state) a.after ∙ (o.owns).heard;
    owner = subst (λ (l : Low). IsOwner l (o.owns).state r.number) (sym (ap (λ (x : Part). x.lane) h.after ∙ ap (λ (x : Part). x.lane) a.after))
        (subst (λ (n : ℕ). IsOwner p.lane (o.owns).state n) (sym (ap (λ (x : Part). x.number) h.after ∙ ap (λ (x : Part). x.number) a.after)) (o.owns).owner);
  };
  unopened = ap (λ (x : Part). x.rows) h.after ∙ ap (λ (x : Part). x.rows) a.after ∙ o.unopened;
  told = ap (λ (x : Part). x.awaited) h.after;
  no_round = ap (λ (x : Part). x.stage) h.after ∙ ap (λ (x : Part). x.stage) a.after ∙ o.no_round;
}

-- an Ask that wasn't sent
pub unsent : (p q r : Part) (m : Message) → Asks p q m → r ≡ q → r ≡ record p { asked = r.asked; awaited = r.awaited }
unsent p q r m a e = e ∙ a.after ∙ ap (λ (n : ℕ). record p { asked = n; awaited = Some m.receiver }) (sym (ap (λ (x : Part). x.asked) e))
    ∙ ap (λ (o : Option ℕ). record p { asked = r.asked; awaited = o }) (sym (ap (λ (x : Part). x.awaited) (e ∙ a.after)))

pub untaken : (p r : Part) → r ≡ p → r ≡ record p { asked = r.asked; awaited = r.awaited }
untaken p r e = e ∙ ap (λ (n : ℕ). record p { asked = n }) (sym (ap (λ (x : Part). x.asked) e)) ∙ ap (λ (o : Option ℕ). record p { asked = r.asked; awaited = o }) (sym (ap (λ (x : Part). x.awaited) e))
