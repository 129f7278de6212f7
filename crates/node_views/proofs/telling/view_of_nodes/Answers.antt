use Rattle.std.proofs.Common.{sym, subst}
use Rattle.proof_basics.proofs.Results.{if_ok}
use Rattle.search_laws.specs.Searches.{LieIn}
use Rattle.view_changes.specs.Kept.{IsView}
use Rattle.view_changes.specs.Views.{View}
use Rattle.journal_views.specs.JournalViews.{view_of, Shows}
use Rattle.node_views.proofs.Readings.{Laws, last-view, reads, lies}
use Rattle.node_views.proofs.telling.view_of_nodes.Goals as goal

pub returns : goal.returns
returns c = record {
  shows = if_ok c.told.result (λ v is S J h. subst (λ (w : View). Shows (view_of c.args.schema.now J) w) (sym is) (reads laws S J c.args.nodes.now c.args.stopped h c.args.schema.now)) c.told.ensures;
  view = if_ok c.told.result (λ v is S J h. subst IsView (sym is) (last-view laws S J c.args.nodes.now c.args.stopped h c.args.schema.now)) c.told.ensures;
  lane = if_ok c.told.result (λ v is S J h. subst (λ (w : View). LieIn S.lane w.nodes) (sym is) (lies laws S J c.args.nodes.now c.args.stopped h c.args.schema.now)) c.told.ensures;
}
  where
    laws : Laws
    laws = record {
      given = record {
        views = c.views_keep.ensures;
        room = c.deeds_find_room.ensures.activated;
        deed = c.deeds_are_shown.ensures.deed;
        adoption = c.deeds_are_shown.ensures.adoption;
      };
      shown = c.journals_are_shown.ensures.shown;
      view = c.journals_are_shown.ensures.view;
      lane = c.journals_are_shown.ensures.lane;
    }
