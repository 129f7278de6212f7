use Rattle.std.proofs.Common.{rules, ◌≡◌, ◌<◌, ◌∙◌, ◌++◌, List, [], length, refl, sym, ap, subst}
use Rattle.std.proofs.lemmas.List.{append-nil}
use Rattle.std.proofs.lemmas.Result.{on_ok_weaker}
use Rattle.view_changes.specs.declared.change.LaneChange.{LaneChange}
use Rattle.lane_journals.specs.KeptJournals.{past}
use Rattle.lane_changes.specs.Changes.{changes_of}
use Rattle.shelves.specs.Shelves.{Holds}
use Rattle.lane_states.specs.declared.event_log.EventLog.{EventLog}
use Rattle.lane_states.specs.Told.{handed_in}
use Rattle.lane_states.specs.LaneStates.{journal_of, handed_of, tells_of}
use Rattle.lane_states.proofs.Shelving.{handed-so, handed-all, told-handed, few-told}
use Rattle.lane_states.proofs.lane_state.LaneState.hand_over.Goals as goal

pub returns-then-self-clause-more : goal.returns-then-self-clause-more
returns-then-self-clause-more g c = λ cs h. ([], subst (g.H.Shelf.shows c.args.shelf.now) (sym (append-nil cs)) h)

pub returns-clause-more : goal.returns-clause-more
returns-clause-more g c = λ cs h. (c.hand_over_lists-handed.ensures.taken.shown.first, c.hand_over_lists-handed.ensures.taken.shown.shown cs h)

pub returns-clause-keeps : goal.returns-clause-keeps
returns-clause-keeps g c =
    let x = c.args.self.now in
    let k = c.requires.keeps in
    let took = c.hand_over_lists-handed.ensures.taken in
    record {
      small = k.small;
      keeps = k.keeps;
      coming = k.coming;
      counted = k.counted;
      stops_are = k.stops_are;
      accepted = k.accepted;
      told_is = told-handed (journal_of x) (tells_of x) _ took.gone refl
          (ap (λ (l : EventLog). handed_in (past l.events.items) l.kept.items) c.of.ensures ∙ handed-so (journal_of x) x.journal.kept.items c.hand_over_lists-handed.new.kept.items (handed_of x) took.gone took.parted k.told_is.whole) took.parted
          (search rules) k.told_is;
    }

pub returns-clause-holds : goal.returns-clause-holds
returns-clause-holds g c = λ h.
    let x = c.args.self.now in
    let took = c.hand_over_lists-handed.ensures.taken in
    let now = ap (λ (l : EventLog). handed_in (past l.events.items) l.kept.items) c.of.ensures
    ∙ handed-so (journal_of x) x.journal.kept.items c.hand_over_lists-handed.new.kept.items (handed_of x) took.gone took.parted c.requires.keeps.told_is.whole in
    subst (λ (all : List LaneChange). Holds (g.H.Shelf.shows c.hand_over_lists-handed.new.shelf) (g.H.Shelf.pending c.hand_over_lists-handed.new.shelf) all) (sym now) (c.shelves_hold.ensures.settled _ _ _ _ _ took h).0

pub returns-clause-all : goal.returns-clause-all
returns-clause-all g c =
    on_ok_weaker c.hand_over_lists-handed.result (λ none. handed-all _ _ _ none (returns-clause-keeps g c).told_is.whole) c.hand_over_lists-handed.ensures.all

pub returns-clause-few : goal.returns-clause-few
returns-clause-few g c =
    let x = c.args.self.now in
    let few : length (changes_of (journal_of x)) < 18446744073709551615 = few-told x.journal.told (length (changes_of (journal_of x))) c.requires.keeps.told_is.count c.if-self.false in
    on_ok_weaker c.hand_over_lists-handed.result (λ none. few) c.hand_over_lists-handed.ensures.all
