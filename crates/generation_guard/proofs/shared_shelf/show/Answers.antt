use Rattle.std.proofs.Common.{◌≡◌, sym, subst, ◌∙◌, ap, drop, fold, ◌++◌, ◌∷◌, [], List}
use Rattle.left_right.specs.Register.{TurnsAt}
use Rattle.left_right.specs.Sides.{view as view_of}
use Rattle.generation_guard.specs.declared.rule.Tag.{Tag}
use Rattle.generation_guard.specs.declared.face.Face.{Face}
use Rattle.generation_guard.specs.declared.face.FaceStep.{FaceStep}
use Rattle.generation_guard.specs.declared.face.FaceStep.TheVariants.{Reach}
use Rattle.generation_guard.specs.Faces.{shown_by, stepped}
use Rattle.generation_guard.specs.Seats.{Agrees, KeepsTag, knows}
use Rattle.generation_guard.proofs.Rules.{shows_next}
use Rattle.generation_guard.proofs.Facing.{next_face, turned}
use Rattle.generation_guard.proofs.shared_shelf.show.Goals as goal

pub publish_as-requires : goal.publish_as-requires
publish_as-requires g c next is =
    let desk = c.reach.new.writer.desk in
    let i = (view_of c.args.writer.desk.place).shelf in
    let x = c.args.writer.desk.shown.value in
    let old = drop c.args.writer.behind c.args.writer.log.items in
    let same : desk.shown.value ≡ x = ap (λ d. d.shown.value) c.reach.ensures.desk in
    let all : shown_by next ≡ fold stepped (shown_by x) (old ++ Reach c.args.with.1.now ∷ []) =
    is ∙ (ap (λ (y : Face). fold stepped (shown_by y) (drop c.reach.new.writer.behind c.reach.new.writer.log.items)) same ∙ ap (λ (ss : List FaceStep). fold stepped (shown_by x) ss) c.if-not-reach.ensures.steps) in
    let next_is = next_face i x next old c.args.with.1.now c.requires.named.is_of c.requires.ahead all in
    let known : view_of desk.place ≡ knows i = ap (λ d. view_of d.place) c.reach.ensures.desk ∙ c.requires.named.known in
    subst (λ (t : Tag). TurnsAt Agrees desk.place.id t desk.shown.value next KeepsTag) (sym known) (shows_next desk.place.id i desk.shown.value next next_is.0)

pub returns-clause-named : goal.returns-clause-named
returns-clause-named g c =
    (turned _ _ _ _ _ _ _ _ _ _ c.args.with.1.now c.requires.named c.requires.ahead c.if-not-reach.ensures.steps
    (ap (λ d. view_of d.place) c.reach.ensures.desk) (ap (λ d. d.shown.value) c.reach.ensures.desk) c.publish_as.ensures.values c.publish_as.ensures.rule).0

pub returns-clause-shown : goal.returns-clause-shown
returns-clause-shown g c =
    (turned _ _ _ _ _ _ _ _ _ _ c.args.with.1.now c.requires.named c.requires.ahead c.if-not-reach.ensures.steps
    (ap (λ d. view_of d.place) c.reach.ensures.desk) (ap (λ d. d.shown.value) c.reach.ensures.desk) c.publish_as.ensures.values c.publish_as.ensures.rule).2
