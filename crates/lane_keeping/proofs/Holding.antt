-- What a node that is what the journal says has, in the words of the journal.
use Rattle.std.proofs.Common.{◌≡◌, ◌↔◌, ◌||◌, ◌+◌, ◌≤◌, ℕ, true, length, arith, Option, List, [], ◌∷◌, refl, sym, ap, ap₂, ◌∙◌, subst}
use Rattle.std.specs.List.{list_any}
use Rattle.bucket_ids.specs.Buckets.{has_key}
use Rattle.node_model.specs.Nodes.{Node}
use Rattle.lane_journals.specs.Buckets.{Bucket}
use Rattle.lane_journals.specs.Events.{Reply}
use Rattle.lane_journals.specs.Readers.{Message, sent}
use Rattle.lane_journals.specs.Facts.{InRegion}
use Rattle.lane_journals.specs.States.{state_of}
use Rattle.lane_journals.specs.Meanings.{meaning_reply, history}
use Rattle.lane_journals.specs.Places.{Setting}
use Rattle.lane_journals.specs.KeptJournals.{IsLegal}
use Rattle.lane_journals.specs.declared.event.LaneEvent.{LaneEvent}
use Rattle.lane_journals.specs.declared.event.LaneEvent.TheVariants.{Delivered}
use Rattle.lane_journals.proofs.Meant.{meant-legal}
use Rattle.lane_keeping.specs.NodeKeeping.{accepts_after, accepts, NodeKeeps}
use Rattle.lane_keeping.proofs.Words.{contains-is}
use Rattle.lane_keeping.proofs.Regions.{within, said, back}

within-is : (key : ℕ) (rs : List Bucket) → within key rs ≡ list_any (λ b. has_key b key) rs
within-is key [] = refl
within-is key (r ∷ rs) = ap₂ (λ x y. x || y) (contains-is r key) (within-is key rs)

pub regions-hold : (S : Setting) (J : List LaneEvent) (n : ℕ) (x : Node) → IsLegal S J → NodeKeeps J n x → (key : ℕ) → (list_any (λ b. has_key b key) x.regions ≡ true) ↔ InRegion x.version n key (history J)
regions-hold S J n x legal h key =
    let lawful = meant-legal S J legal in
    let same = within-is key x.regions in
    let here = ap (within key) h.regions_are in (
      λ i. subst (λ v. InRegion v n key (history J)) (sym h.version_is) (said S.acks (state_of (history J)) (history J) lawful n key (sym here ∙ same ∙ i)),
      λ g. sym same ∙ here ∙ back S.acks (state_of (history J)) (history J) lawful n key (subst (λ v. InRegion v n key (history J)) h.version_is g),
    )

-- ---- how many serials were drawn

accepts-few : (n : ℕ) (r : Reply) (m : Option Message) (old : ℕ) → accepts_after n r m old ≤ old + 1
accepts-few n r m old = grind arith

accepts-length : (n : ℕ) (J : List LaneEvent) → accepts n (history J) ≤ length J
accepts-length n [] = omega arith
accepts-length n (e ∷ J) = by_event e (accepts-length n J)
  where
    by_event : (e : LaneEvent) → accepts n (history J) ≤ length J → accepts n (history (e ∷ J)) ≤ length (e ∷ J)
    by_event (Delivered k r) h = let f = accepts-few n (meaning_reply J r) (sent k (history J)) (accepts n (history J)) in omega (arith, f, h)
    by_event e h = omega (arith, h)

pub serial-few : (J : List LaneEvent) (n : ℕ) (x : Node) → NodeKeeps J n x → x.serial ≤ length J
serial-few J n x h = let few = h.few in let many = accepts-length n J in omega (arith, few, many)
