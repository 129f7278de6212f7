-- What nodes go through in the parts of a span.
use Rattle.std.proofs.Common.{◌≡◌, ◌++◌, ℕ, List, [], ◌∷◌, length, refl, sym, ap, ◌∙◌, subst}
use Rattle.std.proofs.lemmas.List.{append_assoc}
use Rattle.lane_journals.specs.declared.event.LaneEvent.TheVariants.{Delivered}
use Rattle.upkeep_spans.specs.Spans.{later}
use Rattle.lane_keeping.specs.Spans.{IsTakenIn, GoBy, NodesGo}
use Rattle.undisturbed_spans.proofs.Takings.{Nodes, Events, one-span}

record Parts (M N J : Events) (old now : Nodes) : Type 0 where
  mid : Nodes
  first : GoBy N J old mid
  second : GoBy M (N ++ J) mid now

by-parts : (M N J : Events) (old now : Nodes) → GoBy (M ++ N) J old now → Parts M N J old now
by-parts [] N J old now h = record { mid = now; first = h; second = λ n. refl }
by-parts (Delivered k r ∷ M) N J old now h =
    let p = by-parts M N J old h.0 h.1 in
    record { mid = p.mid; first = p.first; second = (h.0, p.second, subst (λ (E : Events). IsTakenIn E h.0 now k r) (append_assoc M N J) h.2) }
by-parts (_ ∷ M) N J old now h = let p = by-parts M N J old now h in record { mid = p.mid; first = p.first; second = p.second }

pub go-parts : ((J N : Events) → later (length J) (N ++ J) ≡ N) → (J K L : Events) (old now : Nodes) (X Y : Events) → K ≡ X ++ J → L ≡ Y ++ K → NodesGo J old L now
    → (mid : Nodes) × NodesGo J old K mid × NodesGo K mid L now
go-parts behind J K L old now X Y first second h =
    let both : L ≡ (Y ++ X) ++ J = second ∙ ap (λ (E : Events). Y ++ E) first ∙ sym (append_assoc Y X J) in
    let p = by-parts Y X J old now (subst (λ (N : Events). GoBy N J old now) (one-span behind J L h.span (Y ++ X) h.grows both) h.went) in (
      p.mid,
      record { span = X; grows = first; went = p.first },
      record { span = Y; grows = second; went = subst (λ (E : Events). GoBy Y E p.mid now) (sym first) p.second },
    )
