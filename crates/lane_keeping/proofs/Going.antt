-- Spans of events that nodes go through.
use Rattle.std.proofs.Common.{◌≡◌, ◌++◌, ℕ, List, [], ◌∷◌, refl, sym, ap, ◌∙◌, subst}
use Rattle.std.proofs.lemmas.List.{append_assoc}
use Rattle.messages.specs.declared.noted.NotedReply.{NotedReply}
use Rattle.node_model.specs.Nodes.{Node}
use Rattle.node_model.specs.Takes.{Takes}
use Rattle.lane_journals.specs.declared.event.LaneEvent.{LaneEvent}
use Rattle.lane_journals.specs.declared.event.LaneEvent.TheVariants.{Delivered}
use Rattle.lane_keeping.specs.Replaying.{IsNoDelivery}
use Rattle.lane_keeping.specs.Spans.{IsTakenIn, GoBy, NodesGo}

abbrev Nodes : Type 0
Nodes = ℕ → Node

abbrev Events : Type 0
Events = List LaneEvent

by-none : (N J : Events) (e : LaneEvent) (old now : Nodes) → IsNoDelivery e → GoBy N J old now → GoBy (e ∷ N) J old now
by-none N J (Delivered k r) old now i h = absurd i
by-none N J _ old now i h = h

-- nodes that are the same in another way
taken-same : (K : Events) (old now after : Nodes) (k : ℕ) (r : NotedReply) → ((n : ℕ) → after n ≡ now n) → IsTakenIn K old now k r → IsTakenIn K old after k r
taken-same K old now after k r e h = record {
  message = h.message;
  reply = h.reply;
  noted_is = h.noted_is;
  flight = h.flight;
  keeps = h.keeps;
  takes = subst (λ y. Takes (old h.message.receiver) h.message y h.reply) (sym (e h.message.receiver)) h.takes;
  others = λ n off. e n ∙ h.others n off;
}

by-same : (N J : Events) (old now after : Nodes) → ((n : ℕ) → after n ≡ now n) → GoBy N J old now → GoBy N J old after
by-same [] J old now after e h = λ n. e n ∙ h n
by-same (Delivered k r ∷ N) J old now after e h = (h.0, h.1, taken-same (N ++ J) h.0 now after k r e h.2)
by-same (_ ∷ N) J old now after e h = by-same N J old now after e h

by-both : (M N J : Events) (old mid now : Nodes) → GoBy N J old mid → GoBy M (N ++ J) mid now → GoBy (M ++ N) J old now
by-both [] N J old mid now h g = by-same N J old mid now g h
by-both (Delivered k r ∷ M) N J old mid now h g = (g.0, by-both M N J old mid g.0 h g.1, subst (λ (E : Events). IsTakenIn E g.0 now k r) (sym (append_assoc M N J)) g.2)
by-both (_ ∷ M) N J old mid now h g = by-both M N J old mid now h g

pub go-none : (J : Events) (old now : Nodes) → ((n : ℕ) → now n ≡ old n) → NodesGo J old J now
go-none J old now e = record { span = []; grows = refl; went = e }

pub go-waits : (J K : Events) (old now : Nodes) (e : LaneEvent) → IsNoDelivery e → NodesGo J old K now → NodesGo J old (e ∷ K) now
go-waits J K old now e i h = record { span = e ∷ h.span; grows = ap (λ (E : Events). e ∷ E) h.grows; went = by-none h.span J e old now i h.went }

pub go-taken : (J K : Events) (old now after : Nodes) (k : ℕ) (r : NotedReply) → NodesGo J old K now → IsTakenIn K now after k r → NodesGo J old (Delivered k r ∷ K) after
go-taken J K old now after k r h t = record {
  span = Delivered k r ∷ h.span;
  grows = ap (λ (E : Events). Delivered k r ∷ E) h.grows;
  went = (now, h.went, subst (λ (E : Events). IsTakenIn E now after k r) h.grows t);
}

pub go-further : (J K L : Events) (old now after : Nodes) → NodesGo J old K now → NodesGo K now L after → NodesGo J old L after
go-further J K L old now after h g = record {
  span = g.span ++ h.span;
  grows = g.grows ∙ ap (λ (E : Events). g.span ++ E) h.grows ∙ sym (append_assoc g.span h.span J);
  went = by-both g.span h.span J old now after h.went (subst (λ (E : Events). GoBy g.span E now after) h.grows g.went);
}
