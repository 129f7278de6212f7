-- Where a search reads each key at some node, it is full.
use Rattle.std.proofs.Common.{◌≡◌, ◌<◌, ◌^◌, ◌&&◌, ◌==◌, ℕ, Bool, true, false, not, List, map, sym, ap, ap₂, ◌∙◌, subst, arith}
use Rattle.std.proofs.lemmas.Bool.Decides.{nat_tests}
use Rattle.bucket_ids.specs.Buckets.{Low}
use Rattle.doc_types.specs.SchemaCodes.{Types}
use Rattle.view_changes.specs.Views.{NodeView, in_regions, node_at}
use Rattle.view_changes.specs.Serving.{serves}
use Rattle.search_laws.specs.Searches.{Seen, covered, AreLanes, SomeSeen}
use Rattle.lane_journals.specs.Facts.{InRegion}
use Rattle.lane_journals.specs.States.{state_of}
use Rattle.lane_journals.specs.Meanings.{history}
use Rattle.lane_journals.specs.declared.event.LaneEvent.{LaneEvent}
use Rattle.lane_journals.proofs.Basics.{sent-member}
use Rattle.lane_journals.proofs.Meant.{meant-legal}
use Rattle.journal_views.specs.JournalViews.{view_of, HasRead, Shows}
use Rattle.journal_views.specs.Fronts.{Front, IsFront, AreFronts, seen_at, IsKeyRead}
use Rattle.journal_views.proofs.Members.{In, in-contains}
use Rattle.journal_views.proofs.Lanes.{serving-small}
use Rattle.journal_views.proofs.Reading.{regions-read}
use Rattle.journal_views.proofs.Counting.{Laws, are-lanes, IsAt, front-back, front-of}

-- a node of the version that runs is read
reads : (w : ℕ) (n : NodeView) → n.version ≡ w → n.stopped ≡ false → serves w n ≡ true
reads w n at runs = ap₂ (λ (v : ℕ) (s : Bool). (v == w) && not s) at runs ∙ same w
  where
    same : (v : ℕ) → ((v == v) && true) ≡ true
    same v = grind (arith, nat_tests)

module _ (laws : Laws) (types : Types) (w : ℕ) (fs : List Front) (h : AreFronts fs) where
  -- a node that has a key in its region there
  read-at : (key : ℕ) (r : IsKeyRead w key fs) → In r.front fs → IsAt w key (λ n. Unit {0}) ((seen_at types r.front).view).nodes
  read-at key r among = record {
    node = n;
    low = omega (arith, shows.many, small);
    serving = reads w x (read.version_is ∙ r.version_is) (read.stopped_is ∙ r.runs);
    over = ap (λ (rs : List Low). in_regions rs key) read.regions_are ∙ (regions-read f.setting J is.legal n key).1 (subst (λ (v : ℕ). InRegion v n key (history J)) (sym r.version_is) r.region);
    fact = tt;
  }
    where
      f : Front
      f = r.front

      n : ℕ
      n = r.node

      J : List LaneEvent
      J = f.journal

      is : IsFront f
      is = front-of fs h f among

      shows : Shows (view_of types J) (seen_at types f).view
      shows = laws.shown f.setting is.acks J is.legal types is.lane is.room

      small : n < 32
      small = let lawful = meant-legal f.setting J is.legal in
          serving-small (f.setting).acks (state_of (history J)) (history J) lawful (r.region.message).version n
          (subst (λ (m : ℕ). state_of (history J) (r.region.message).version m ≡ true) r.region.receiver (sent-member (f.setting).acks (state_of (history J)) (history J) lawful r.region.number r.region.message r.region.was_sent))

      x : NodeView
      x = node_at n ((seen_at types f).view).nodes

      read : HasRead (view_of types J n) x
      read = shows.nodes n small

  pub full-where-read : ((w : ℕ) (ls : List Seen) → AreLanes ls → ((key : ℕ) → key < 2 ^ 58 → SomeSeen w key (λ n. Unit {0}) ls) → covered w ls ≡ 2 ^ 58) → ((key : ℕ) → key < 2 ^ 58 → IsKeyRead w key fs) → covered w (map (seen_at types) fs) ≡ 2 ^ 58
  full-where-read found each = found w (map (seen_at types) fs) (are-lanes laws types fs h) (λ key low.
      let r = each key low in
      let among = in-contains fs r.front r.among in
      front-back types w key (λ n. Unit {0}) fs r.front among (read-at key r among))
