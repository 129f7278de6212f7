-- Which of the messages behind a number found a node that wants memory: what stays while more are sent.
use Rattle.std.proofs.Common.{◌≡◌, ◌<◌, ◌≤◌, ◌+◌, ◌||◌, ◌&&◌, not, ℕ, Bool, true, false, cond, eqb, nat_le, List, ◌∷◌, length, refl, sym, ap, subst, ◌∙◌, arith}
use Rattle.std.proofs.lemmas.Bool.Decides.{nat_tests}
use Rattle.bucket_ids.specs.Buckets.{Low}
use Rattle.cluster_states.specs.declared.cluster_state.ClusterState.{ClusterState}
use Rattle.carriers.specs.declared.fate.Fate.{Fate}
use Rattle.carriers.specs.declared.fate.Fate.TheVariants as fate
use Rattle.messages.specs.declared.decision.Decision.{Decision}
use Rattle.messages.specs.declared.message.Message.{Message}
use Rattle.messages.specs.declared.noted.NotedReply.{NotedReply}
use Rattle.messages.specs.Noting.{noted_reply}
use Rattle.messages.specs.declared.noted.NotedReply.TheVariants as noted
use Rattle.messages.specs.declared.reply.Reply.{Reply}
use Rattle.messages.specs.declared.late.Late.{Late}
use Rattle.lane_journals.specs.Readers.{returned}
use Rattle.lane_journals.specs.Meanings.{history}
use Rattle.lane_journals.specs.declared.event.LaneEvent.{LaneEvent}
use Rattle.lane_journals.specs.declared.event.LaneEvent.TheVariants.{Delivered, Returned, Decided, Opened}
use Rattle.lane_keeping.specs.Replaying.{sending}
use Rattle.lane_carriage.specs.Carriage.{IsDealt}
use Rattle.lane_carriage.specs.Waits.{numbers}
use Rattle.lane_carriage.specs.Carrying.{met_at}
use Rattle.lane_states.specs.Growing.{is_short, IsSettled}
use Rattle.lane_rounds.specs.Openings.{IsGone}
use Rattle.round_keeping.specs.RoundRuns.{is_refusal, IsRunToldBy, Sends, IsRoundRun, Nothing, Further, RunsOn}
use Rattle.lane_states.specs.Shortages.{ends_at, WhereItEnds, NoneIsShort, EndsAtOnce}
use Rattle.round_keeping.specs.RoundShortages.{wants_memory, HadMemory}
use Rattle.lane_states.specs.declared.at_shortage.AtShortage.{AtShortage}
use Rattle.lane_states.specs.declared.at_shortage.AtShortage.TheVariants as at_shortage
use Rattle.round_keeping.specs.declared.round_run.RoundRun.{RoundRun}
use Rattle.lane_rounds.proofs.Settled.{settled-stays, settled-delivered}

-- ---- what is known of a message stays known

module _ (k : ℕ) (short : Bool) where
  pub settled-sent : (n : ℕ) (m : Message) (J : List LaneEvent) → IsSettled k J short → IsSettled k (sending n m ∷ J) short
  settled-sent n m J s = record { short_is = s.short_is; replied = s.replied }

  pub settled-decided : (d v : ℕ) (x : Decision) (J : List LaneEvent) → IsSettled k J short → IsSettled k (Decided d v x ∷ J) short
  settled-decided d v x J s = record { short_is = s.short_is; replied = s.replied }

  pub settled-opened : (d v : ℕ) (buckets : List Low) (J : List LaneEvent) → IsSettled k J short → IsSettled k (Opened d v buckets ∷ J) short
  settled-opened d v buckets J s = record { short_is = s.short_is; replied = s.replied }

  is-other : (n : ℕ) → k < n → eqb n k ≡ false
  is-other n less = grind (arith, nat_tests)

  -- another message is returned
  settled-returned : (n : ℕ) (J : List LaneEvent) → k < n → IsSettled k J short → IsSettled k (Returned n ∷ J) short
  settled-returned n J less s =
      let same : returned k (history (Returned n ∷ J)) ≡ returned k (history J) = ap (λ (t : Bool). cond t true (returned k (history J))) (is-other n less) in
      record {
        short_is = (λ e. let c = s.short_is.0 e in (same ∙ c.0, c.1), λ c. s.short_is.1 (sym same ∙ c.0, c.1));
        replied = λ e. s.replied (sym same ∙ e);
      }

  pub settled-dealt : (f : Fate) (n : ℕ) (J K : List LaneEvent) → k < n → IsDealt f n J K → IsSettled k J short → IsSettled k K short
  settled-dealt fate.Deliver n J K less d s = subst (λ (X : List LaneEvent). IsSettled k X short) (sym d.1) (settled-returned n (Delivered n d.0 ∷ J) less (settled-stays k n J d.0 short s))
  settled-dealt fate.LoseRequest n J K less d s = subst (λ (X : List LaneEvent). IsSettled k X short) (sym d) s
  settled-dealt fate.LoseReply n J K less d s = subst (λ (X : List LaneEvent). IsSettled k X short) (sym d.1) (settled-stays k n J d.0 short s)
  settled-dealt fate.Twice n J K less d s = subst (λ (X : List LaneEvent). IsSettled k X short) (sym d.2)
      (settled-stays k n (Returned n ∷ Delivered n d.0 ∷ J) d.1 short (settled-returned n (Delivered n d.0 ∷ J) less (settled-stays k n J d.0 short s)))
  settled-dealt (fate.Late later) n J K less d s = subst (λ (X : List LaneEvent). IsSettled k X short) (sym d) s

  -- another message is sent, and all that becomes of it
  pub settled-gone : (n : ℕ) (m : Message) (J K : List LaneEvent) → k < n → IsGone n m J K → IsSettled k J short → IsSettled k K short
  settled-gone n m J K less g s = settled-delivered k g.numbers g.between K short g.late (settled-dealt g.fate n (sending n m ∷ J) g.between less g.dealt (settled-sent n m J s))

  pub settled-sends : (m : Message) (f : Fate) (last : ℕ) (late : List Late) (J : List LaneEvent) (rest : List Late) (K : List LaneEvent) → k ≤ last → Sends m f last late J rest K → IsSettled k J short → IsSettled k K short
  settled-sends m f last late J rest K most h s = settled-delivered k (numbers (h.due).taken) h.after K short (h.due).delivered
      (settled-dealt (met_at J m f) (last + 1) (sending (last + 1) m ∷ J) h.after (omega (arith, most)) h.dealt (settled-sent (last + 1) m J s))

  -- and all that a round sends
  settled-run : (lane : Low) (d : ℕ) (s : ClusterState) (last : ℕ) (late : List Late) (J : List LaneEvent) (fates : List Fate) (rest : List Late) (K : List LaneEvent) → k ≤ last → IsRoundRun lane d s last late J fates rest K → IsSettled k J short → IsSettled k K short
  settled-run lane d s last late J _ _ _ most Nothing is = is
  settled-run lane d s last late J _ _ _ most (Further before mid M f rest L run h) is =
      settled-sends h.message f (last + length before) mid M rest L (omega (arith, most)) h.sends (settled-run lane d s last late J before mid M most run is)

  pub settled-on : (lane : Low) (d : ℕ) (s : ClusterState) (given after : List Fate) (last now : ℕ) (late rest : List Late) (J K : List LaneEvent) → k ≤ last → RunsOn lane d s given after last now late rest J K → IsSettled k J short → IsSettled k K short
  settled-on lane d s given after last now late rest J K most h is = settled-run lane d s last late J h.fates rest K most h.run is

pub settled-as : (k : ℕ) (J : List LaneEvent) (a b : Bool) → b ≡ a → IsSettled k J a → IsSettled k J b
settled-as k J a b e s = subst (λ (t : Bool). IsSettled k J t) (sym e) s

-- ---- of all of them

pub none-nothing : (last now : ℕ) (J : List LaneEvent) → now ≡ last → NoneIsShort last now J
none-nothing last now J e k less most = absurd (let no : ⊥ = omega (arith, e, less, most) in no)

-- over more events, of which one is known
pub none-stays : (last now : ℕ) (J K : List LaneEvent) → ((k : ℕ) → k ≤ now → IsSettled k J false → IsSettled k K false) → NoneIsShort last now J → NoneIsShort last now K
none-stays last now J K stays h k less most = stays k most (h k less most)

-- with one more
pub none-more : (last mid now : ℕ) (J : List LaneEvent) → now ≡ mid + 1 → NoneIsShort last mid J → IsSettled now J false → NoneIsShort last now J
none-more last mid now J e h one k less most = by_test (nat_le k mid) refl
  where
    by_test : (t : Bool) → nat_le k mid ≡ t → IsSettled k J false
    by_test true le = h k less (grind (arith, nat_tests))
    by_test false le = let same : now ≡ k = grind (arith, nat_tests) in subst (λ (i : ℕ). IsSettled i J false) same one

pub none-at : (last now end : ℕ) (J : List LaneEvent) → end ≡ now → NoneIsShort last now J → NoneIsShort last end J
none-at last now end J e h = subst (λ (i : ℕ). NoneIsShort last i J) (sym e) h

pub once-none : (last now : ℕ) (J : List LaneEvent) → NoneIsShort last now J → EndsAtOnce last now J
once-none last now J h k less before = h k less (omega (arith, before))

pub once-still : (last now : ℕ) (J : List LaneEvent) → now ≡ last → EndsAtOnce last now J
once-still last now J e k less before = absurd (let no : ⊥ = omega (arith, e, less, before) in no)

-- the last one alone may have come back as want of memory
pub once-more : (last mid now : ℕ) (J : List LaneEvent) → now ≡ mid + 1 → NoneIsShort last mid J → EndsAtOnce last now J
once-more last mid now J e h k less before = h k less (omega (arith, e, before))

-- one message more of a round, or none
module _ (lane : Low) (d : ℕ) (s : ClusterState) (given after : List Fate) (last mid now : ℕ) (late rest : List Late) (J K : List LaneEvent) (on : RunsOn lane d s given after mid now late rest J K) (h : NoneIsShort last mid J) where
  none-on : NoneIsShort last mid K
  none-on = none-stays last mid J K (λ k most is. settled-on k false lane d s given after mid now late rest J K most on is) h

  pub none-step : now ≡ mid + 1 → IsSettled now K false → NoneIsShort last now K
  none-step next one = none-more last mid now K next none-on one

  pub once-step : now ≡ mid + 1 → EndsAtOnce last now K
  once-step next = once-more last mid now K next none-on

  pub none-idle : now ≡ mid → NoneIsShort last now K
  none-idle same = none-at last mid now K same none-on

-- one Ask more
module _ (last mid now : ℕ) (m : Message) (J K : List LaneEvent) (gone : IsGone (mid + 1) m J K) (next : now ≡ mid + 1) (h : NoneIsShort last mid J) where
  none-gone : NoneIsShort last mid K
  none-gone = none-stays last mid J K (λ k most is. settled-gone k false (mid + 1) m J K (omega (arith, most)) gone is) h

  pub none-asked : (short : Bool) → short ≡ false → IsSettled (mid + 1) K short → NoneIsShort last now K
  none-asked short not one = none-more last mid now K next none-gone (subst (λ (i : ℕ). IsSettled i K false) (sym next) (settled-as (mid + 1) K short false (sym not) one))

  pub once-asked : EndsAtOnce last now K
  once-asked = once-more last mid now K next none-gone

-- a decision, an opened state, or nothing more
module _ (last now end : ℕ) (J K : List LaneEvent) (same : end ≡ now) where
  pub none-ended : (d v : ℕ) (x : Decision) → K ≡ Decided d v x ∷ J → NoneIsShort last now J → NoneIsShort last end K
  none-ended d v x is h k less most = subst (λ (X : List LaneEvent). IsSettled k X false) (sym is) (settled-decided k false d v x J (h k less (omega (arith, same, most))))

  pub once-ended : (d v : ℕ) (x : Decision) → K ≡ Decided d v x ∷ J → EndsAtOnce last now J → EndsAtOnce last end K
  once-ended d v x is h k less before = subst (λ (X : List LaneEvent). IsSettled k X false) (sym is) (settled-decided k false d v x J (h k less (omega (arith, same, before))))

  pub none-opened : (d v : ℕ) (buckets : List Low) → K ≡ Opened d v buckets ∷ J → NoneIsShort last now J → NoneIsShort last end K
  none-opened d v buckets is h k less most = subst (λ (X : List LaneEvent). IsSettled k X false) (sym is) (settled-opened k false d v buckets J (h k less (omega (arith, same, most))))

  pub none-same : K ≡ J → NoneIsShort last now J → NoneIsShort last end K
  none-same is h k less most = subst (λ (X : List LaneEvent). IsSettled k X false) (sym is) (h k less (omega (arith, same, most)))

  pub once-same : K ≡ J → EndsAtOnce last now J → EndsAtOnce last end K
  once-same is h k less before = subst (λ (X : List LaneEvent). IsSettled k X false) (sym is) (h k less (omega (arith, same, before)))

-- ---- what goes on had no shortage where that ends it

pub not-ended : (at : AtShortage) (short : Bool) → ends_at at short ≡ false → WhereItEnds at (short ≡ false)
not-ended at_shortage.GoOn short h it = absurd (let no : at_shortage.GoOn ≡ at_shortage.End = it in cc)
not-ended at_shortage.End short h it = h

pub or-none : (a b : Bool) → (a || b) ≡ false → (a ≡ false) × (b ≡ false)
or-none true b h = absurd (let no : true ≡ false = h in cc)
or-none false b h = (refl, h)

-- ---- a round keeps in mind whether a node wanted memory

pub had-as : (x : RoundRun) → wants_memory x ≡ false → HadMemory x
had-as x h = let both = or-none x.unread x.unapplied h in record { read = both.0; applied = both.1 }

pub had-not : (x : RoundRun) → HadMemory x → wants_memory x ≡ false
had-not x h = ap (λ (b : Bool). b || x.unapplied) h.read ∙ h.applied

-- only its round changes
pub had-still : (x y : RoundRun) → y ≡ record x { round = y.round } → HadMemory x → HadMemory y
had-still x y e h = record { read = ap (λ (z : RoundRun). z.unread) e ∙ h.read; applied = ap (λ (z : RoundRun). z.unapplied) e ∙ h.applied }

refused : (n : NotedReply) → is_refusal n ≡ is_short n
refused (noted.Answer ps es) = refl
refused (noted.Newer v) = refl
refused noted.NoBucket = refl
refused noted.Differs = refl
refused noted.NoMemory = refl

in-a-phase : (t r : Bool) → ((false || (t && r)) || (false || (not t && r))) ≡ r
in-a-phase true true = refl
in-a-phase true false = refl
in-a-phase false r = refl

pub told-short : (x y : RoundRun) (node : ℕ) (w : Reply) → HadMemory x → IsRunToldBy x y node w → wants_memory y ≡ is_short (noted_reply w)
told-short x y node w h told =
    let t = eqb (x.round).applies 0 in
    let r = is_refusal (noted_reply w) in
    ap wants_memory told.run_is
    ∙ ap (λ (a : Bool). (a || (t && r)) || (x.unapplied || (not t && r))) h.read
    ∙ ap (λ (b : Bool). (false || (t && r)) || (b || (not t && r))) h.applied
    ∙ in-a-phase t r ∙ refused (noted_reply w)
