use Rattle.std.proofs.Common.{refl, sym, ap, ◌∙◌, subst}
use Rattle.std.proofs.lemmas.List.{with_items_is}
use Rattle.session_cluster.specs.Cells.{lanes_in, shelves_in}
use Rattle.session_cluster.specs.Steps.{EachLane, MayMaintain}
use Rattle.session_cluster.proofs.Passing.{passed_many, lanes_passed, lanes_spans}
use Rattle.session_cluster.proofs.Reborrowed.{still_session}
use Rattle.session_cluster.proofs.ShelvedLanes.{cell-in, cell_of, lanes_of, shelves_of}
use Rattle.session_cluster.proofs.session.Session.maintain_lanes.Goals as goal

pub maintain_all-made-requires-clause-may : goal.maintain_all-made-requires-clause-may
maintain_all-made-requires-clause-may g c = subst (EachLane MayMaintain) (sym (ap lanes_in c.deref_mut.ensures.value ∙ ap lanes_of c.self.view_is)) c.requires.may

pub returns-clause-passed : goal.returns-clause-passed
returns-clause-passed g c =
    lanes_passed c.args.self.now.cell _ _ (lanes_in c.maintain_all-made.new.lanes) _ (ap cell_of c.self.view_is) (ap lanes_in c.deref_mut.ensures.value) c.maintain_all-made.ensures.passed
    (ap lanes_in (with_items_is c.self.inside.lanes c.maintain_all-made.new.lanes (passed_many c.self.inside.lanes.items _ c.maintain_all-made.new.lanes _ c.self.inside.lanes.ok.0 c.deref_mut.ensures.value c.maintain_all-made.ensures.passed)))

pub returns-clause-spans : goal.returns-clause-spans
returns-clause-spans g c =
    lanes_spans _ c.args.self.now.cell _ _ (lanes_in c.maintain_all-made.new.lanes) _ _ (ap cell_of c.self.view_is) (ap lanes_in c.deref_mut.ensures.value) c.maintain_all-made.ensures.spans
    (ap lanes_in (with_items_is c.self.inside.lanes c.maintain_all-made.new.lanes (passed_many c.self.inside.lanes.items _ c.maintain_all-made.new.lanes _ c.self.inside.lanes.ok.0 c.deref_mut.ensures.value c.maintain_all-made.ensures.passed)))

pub invariant_of-self : goal.invariant_of-self
invariant_of-self g c =
    let many = passed_many c.self.inside.lanes.items _ c.maintain_all-made.new.lanes _ c.self.inside.lanes.ok.0 c.deref_mut.ensures.value c.maintain_all-made.ensures.passed in
    still_session _ _ c.self.inside.lanes.items c.maintain_all-made.new.lanes _ _ _ c.self.invariant c.self.inside.lanes.ok.0 many (with_items_is c.self.inside.lanes c.maintain_all-made.new.lanes many)

pub returns-clause-now : goal.returns-clause-now
returns-clause-now g c = cell-in c.args.self.now.cell _ _ _ c.args.line (ap cell_of c.self.view_is) refl

pub returns-clause-shelves : goal.returns-clause-shelves
returns-clause-shelves g c =
    let many = passed_many c.self.inside.lanes.items _ c.maintain_all-made.new.lanes _ c.self.inside.lanes.ok.0 c.deref_mut.ensures.value c.maintain_all-made.ensures.passed in
    ap shelves_in (with_items_is c.self.inside.lanes c.maintain_all-made.new.lanes many) ∙ (c.maintain_all-made.ensures.shelves ∙ (ap shelves_in c.deref_mut.ensures.value ∙ ap shelves_of c.self.view_is))
