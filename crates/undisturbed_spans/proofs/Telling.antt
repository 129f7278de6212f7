-- What a message of a quiet span makes of a lane's nodes.
use Rattle.std.proofs.Common.{◌≡◌, ◌≢◌, ◌==◌, ◌&&◌, ◌⊎◌, ◌++◌, ◌+◌, ◌≤◌, ℕ, max, Bool, true, false, not, cond, nat_lt, List, [], ◌∷◌, length, Option, Some, None, inl, inr, refl, sym, ap, ap₂, ◌∙◌, subst, arith, eqb, eqb-true, eq-eqb}
use Rattle.std.proofs.lemmas.Bool.Decides.{nat_tests}
use mathlib.Core.Bool.{true≢false}
use Rattle.pieces.specs.Runs.{AreRuns}
use Rattle.messages.specs.declared.message.Message.{Message}
use Rattle.messages.specs.declared.reply.Reply.{Reply}
use Rattle.messages.specs.declared.reply.Reply.TheVariants as reply
use Rattle.messages.specs.declared.noted.NotedReply.{NotedReply}
use Rattle.messages.specs.Noting.{noted_body, noted_reply}
use Rattle.node_model.specs.Nodes as lane
use Rattle.node_model.specs.Nodes.{adopt}
use Rattle.node_model.specs.Takes.{Treats}
use Rattle.lane_journals.specs.Events as plain
use Rattle.lane_journals.specs.Readers as readers
use Rattle.lane_journals.specs.Readers.{or_else, only_if, sent, first_reply, round_in, raised, version}
use Rattle.lane_journals.specs.Meanings.{history, meaning_body, meaning_reply}
use Rattle.lane_journals.specs.declared.event.LaneEvent.{LaneEvent}
use Rattle.lane_journals.specs.declared.event.LaneEvent.TheVariants.{Delivered, Returned}
use Rattle.lane_keeping.specs.Flights.{meant}
use Rattle.lane_keeping.specs.Replaying.{sending, delivered}
use Rattle.upkeep_spans.specs.Spans.{later}
use Rattle.lane_keeping.specs.Spans.{IsTakenIn, GoBy, NodesGo}
use Rattle.pass_model.specs.Nodes.{Node, counted, once_or_twice, received}
use Rattle.pass_model.specs.Lanes.{seen_node, IsPassBody, after_once, is_taken, IsNoWant, is_answer}
use Rattle.pass_model.specs.Scripts.{Script, came, Agrees, is_want, told_body, told_node}
use Rattle.pass_model.proofs.Lanes.{laid-apart, tells, does}
use Rattle.undisturbed_spans.proofs.Changing.{came-own, came-other, came-again, script-once, script-again, no-want}
use Rattle.undisturbed_spans.specs.Telling.{seen_nodes, IsNew, IsTaken, IsToldIn}
use Rattle.undisturbed_spans.proofs.Takings.{Nodes, Events, one-span, the, sent-now, still-current, versions-once, versions-twice, first-is, second-is, to, means, treats, elsewhere}
use Rattle.undisturbed_spans.proofs.Bodies.{IsPassPlain, meant-pass, pass-meant, noted-means, same-once, same-taken, told-is}

wants : (r : Reply) → IsNoWant r ⊎ (r ≡ reply.NoMemory)
wants (reply.Answer ps es) = inl tt
wants (reply.Newer v) = inl tt
wants reply.NoBucket = inl tt
wants reply.Differs = inl tt
wants reply.NoMemory = inr refl

-- ---- one taking

module _ (runs : AreRuns) (J : Events) (k : ℕ) (m : Message) (new : IsNew J k m) where
  abbrev S : Events
  S = sending k m ∷ J

  now-sent : sent k (history (sending k m ∷ J)) ≡ Some (the J k m)
  now-sent = sent-now J k m new.unsent

  module _ (L : Events) (f g : Nodes) (q : NotedReply) (was : sent k (history L) ≡ Some (the J k m)) (current : version m.receiver (history L) ≡ m.version) (t : IsTakenIn L f g k q) where
    abbrev x : Message
    x = t.message

    here : x.receiver ≡ m.receiver
    here = to J k m L f g q was current t

    alike : meant x.body ≡ meant m.body
    alike = means J k m L f g q was current t ∙ noted-means J m.body new.of_pass new.brings

    of : IsPassBody x.body
    of = pass-meant x.body (subst IsPassPlain (sym alike) (meant-pass m.body new.of_pass))

    treated : Treats (f x.receiver) x.body (g x.receiver) t.reply
    treated = treats J k m L f g q was current t

    abbrev seen : (ℕ → Bool) → ℕ → Nodes → ℕ → Node
    seen doubled came h n = seen_node doubled came (h n)

    -- where memory serves
    becomes : (doubled : ℕ → Bool) (came : ℕ) → IsNoWant t.reply → seen doubled came g m.receiver ≡ after_once m.body (seen doubled came f m.receiver)
    becomes doubled came w =
        subst (λ n. seen doubled came g n ≡ after_once x.body (seen doubled came f n)) here
        (does doubled came (f x.receiver) (g x.receiver) x.body t.reply of ((t.flight).whole).inside (laid-apart runs 0 (f x.receiver).pieces (((t.keeps).valid).holding).laid) w treated)
        ∙ same-once x.body m.body of new.of_pass alike (seen doubled came f m.receiver)

    says : (doubled : ℕ → Bool) (came : ℕ) → IsNoWant t.reply → is_answer t.reply ≡ is_taken m.body (seen doubled came f m.receiver)
    says doubled came w =
        subst (λ n. is_answer t.reply ≡ is_taken x.body (seen doubled came f n)) here
        (tells doubled came (f x.receiver) (g x.receiver) x.body t.reply of (laid-apart runs 0 (f x.receiver).pieces (((t.keeps).valid).holding).laid) w treated)
        ∙ same-taken x.body m.body of new.of_pass alike (seen doubled came f m.receiver)

    -- where it doesn't
    stays : t.reply ≡ reply.NoMemory → g m.receiver ≡ f m.receiver
    stays e = subst (λ n. g n ≡ f n) here (subst (λ r. Treats (f x.receiver) x.body (g x.receiver) r) e treated).1

  -- ---- taken once

  module _ (behind : (J N : Events) → later (length J) (N ++ J) ≡ N) (d : Script) (old now : Nodes) where
    abbrev r : ℕ
    r = m.receiver

    abbrev at : ℕ
    at = came m.receiver (history J)

    -- by whether it is the receiver
    by-node : (K : Events) → seen_nodes d K now r ≡ told_body m.body (seen_nodes d J old r) → ((n : ℕ) → n ≢ r → seen_nodes d K now n ≡ seen_nodes d J old n)
        → (n : ℕ) → seen_nodes d K now n ≡ told_node m.receiver m.body (seen_nodes d J old) n
    by-node K here others n = by_test (eqb n r) refl
      where
        by_test : (t : Bool) → eqb n r ≡ t → seen_nodes d K now n ≡ cond t (told_body m.body (seen_nodes d J old n)) (seen_nodes d J old n)
        by_test true e = subst (λ i. seen_nodes d K now i ≡ told_body m.body (seen_nodes d J old i)) (sym (eqb-true n r e)) here
        by_test false e = others n (λ i. true≢false (sym (eq-eqb n r i) ∙ e))

    -- how the receiver is told, once and twice
    as-once : d r at ≡ false → counted (after_once m.body (seen_nodes d J old r)) ≡ told_body m.body (seen_nodes d J old r)
    as-once off = sym (ap (λ u. counted (once_or_twice u (after_once m.body) (seen_nodes d J old r))) off) ∙ sym (told-is m.body new.of_pass (seen_nodes d J old r))

    as-twice : d r at ≡ true → counted (after_once m.body (after_once m.body (seen_nodes d J old r))) ≡ told_body m.body (seen_nodes d J old r)
    as-twice on = sym (ap (λ u. counted (once_or_twice u (after_once m.body) (seen_nodes d J old r))) on) ∙ sym (told-is m.body new.of_pass (seen_nodes d J old r))

    fine-reply : (S : Events) (o : NotedReply) (w : Reply) → o ≡ noted_reply w → (Some (meaning_reply S o) ≡ Some plain.NoMemory → ⊥) → IsNoWant w
    fine-reply S o (reply.Answer ps es) e h = tt
    fine-reply S o (reply.Newer v) e h = tt
    fine-reply S o reply.NoBucket e h = tt
    fine-reply S o reply.Differs e h = tt
    fine-reply S o reply.NoMemory e h = h (ap (λ z. Some (meaning_reply S z)) e)

    module _ (q : NotedReply) where
      abbrev L1 : Events
      L1 = Returned k ∷ Delivered k q ∷ sending k m ∷ J

      once : NodesGo J old L1 now → Agrees d (history J) (history L1) → (first_reply k (history L1) ≡ Some plain.NoMemory → ⊥) → IsToldIn d J L1 old now k m
      once go agrees fine =
          let w : GoBy (Returned k ∷ Delivered k q ∷ sending k m ∷ []) J old now = subst (λ (N : Events). GoBy N J old now) (one-span behind J L1 go.span (Returned k ∷ Delivered k q ∷ sending k m ∷ []) go.grows refl) go.went in
          from w.0 w.1 w.2
        where
          from : (mid : Nodes) → ((n : ℕ) → mid n ≡ old n) → IsTakenIn (sending k m ∷ J) mid now k q → IsToldIn d J L1 old now k m
          from mid still t =
              let serves : IsNoWant t.reply = fine-reply (sending k m ∷ J) q t.reply t.noted_is (λ e. fine (first-is J k m new.silent q ∙ e)) in
              let off : d r at ≡ false = script-once J k m new.unsent new.silent new.untaken new.of_pass t.reply d serves
              (subst (λ u. Agrees d (history J) (history (Returned k ∷ Delivered k u ∷ sending k m ∷ J))) t.noted_is agrees) in
              record {
                nodes = by-node L1
                    (ap (λ i. seen_node (d r) i (now r)) (came-own J k m new.unsent new.silent new.untaken new.of_pass t.reply)
                    ∙ ap counted (becomes (sending k m ∷ J) mid now q now-sent new.current t (d r) at serves)
                    ∙ ap (λ y. counted (after_once m.body (seen_node (d r) at y))) (still r)
                    ∙ as-once off)
                    (λ n out. ap₂ (λ i y. seen_node (d n) i y) (came-other J k m new.unsent new.silent new.untaken new.of_pass t.reply n out) (elsewhere J k m (sending k m ∷ J) mid now q now-sent new.current t n out ∙ still n));
                others = λ n out. elsewhere J k m (sending k m ∷ J) mid now q now-sent new.current t n out ∙ still n;
                versions = versions-once J k m new.unsent new.current q;
                reply = t.reply;
                before = sending k m ∷ J;
                replied = first-is J k m new.silent q ∙ ap (λ z. Some (meaning_reply (sending k m ∷ J) z)) t.noted_is;
                answers = says (sending k m ∷ J) mid now q now-sent new.current t (d r) at serves ∙ ap (λ y. is_taken m.body (seen_node (d r) at y)) (still r);
              }

      -- ---- taken twice

      module _ (u : NotedReply) where
        abbrev L2 : Events
        L2 = Delivered k u ∷ Returned k ∷ Delivered k q ∷ sending k m ∷ J

        twice : NodesGo J old L2 now → Agrees d (history J) (history L2) → (first_reply k (history L2) ≡ Some plain.NoMemory → ⊥) → IsToldIn d J L2 old now k m
        twice go agrees fine =
            let w : GoBy (Delivered k u ∷ Returned k ∷ Delivered k q ∷ sending k m ∷ []) J old now = subst (λ (N : Events). GoBy N J old now) (one-span behind J L2 go.span (Delivered k u ∷ Returned k ∷ Delivered k q ∷ sending k m ∷ []) go.grows refl) go.went in
            from w.1.0 w.0 w.1.1 w.1.2 w.2
          where
            from : (mid next : Nodes) → ((n : ℕ) → mid n ≡ old n) → IsTakenIn (sending k m ∷ J) mid next k q → IsTakenIn L1 next now k u → IsToldIn d J L2 old now k m
            from mid next still t s =
                let serves : IsNoWant t.reply = fine-reply (sending k m ∷ J) q t.reply t.noted_is (λ e. fine (second-is J k m new.silent q u ∙ e)) in
                let both : Agrees d (history J) (history (delivered k s.reply ∷ Returned k ∷ delivered k t.reply ∷ sending k m ∷ J)) =
                subst (λ z. Agrees d (history J) (history (Delivered k z ∷ Returned k ∷ delivered k t.reply ∷ sending k m ∷ J))) s.noted_is
                (subst (λ z. Agrees d (history J) (history (Delivered k u ∷ Returned k ∷ Delivered k z ∷ sending k m ∷ J))) t.noted_is agrees) in
                record {
                  nodes = by-node L2
                      (ap (λ i. seen_node (d r) i (now r)) (named r ∙ came-again J k m new.unsent new.silent new.untaken new.of_pass t.reply s.reply r ∙ came-own J k m new.unsent new.silent new.untaken new.of_pass t.reply)
                      ∙ own serves both (wants s.reply))
                      (λ n out. ap₂ (λ i y. seen_node (d n) i y)
                      (named n ∙ came-again J k m new.unsent new.silent new.untaken new.of_pass t.reply s.reply n ∙ came-other J k m new.unsent new.silent new.untaken new.of_pass t.reply n out)
                      (elsewhere J k m L1 next now u now-sent (still-current J k m new.unsent q new.current) s n out ∙ elsewhere J k m (sending k m ∷ J) mid next q now-sent new.current t n out ∙ still n));
                  others = λ n out. elsewhere J k m L1 next now u now-sent (still-current J k m new.unsent q new.current) s n out
                      ∙ elsewhere J k m (sending k m ∷ J) mid next q now-sent new.current t n out ∙ still n;
                  versions = versions-twice J k m new.unsent new.current q u;
                  reply = t.reply;
                  before = sending k m ∷ J;
                  replied = second-is J k m new.silent q u ∙ ap (λ z. Some (meaning_reply (sending k m ∷ J) z)) t.noted_is;
                  answers = says (sending k m ∷ J) mid next q now-sent new.current t (d r) at serves ∙ ap (λ y. is_taken m.body (seen_node (d r) at y)) (still r);
                }
              where
                named : (n : ℕ) → came n (history L2) ≡ came n (history (delivered k s.reply ∷ Returned k ∷ delivered k t.reply ∷ sending k m ∷ J))
                named n = ap (λ z. came n (history (Delivered k u ∷ Returned k ∷ Delivered k z ∷ sending k m ∷ J))) t.noted_is

                first : IsNoWant t.reply → seen_node (d r) at (next r) ≡ after_once m.body (seen_nodes d J old r)
                first serves = becomes (sending k m ∷ J) mid next q now-sent new.current t (d r) at serves ∙ ap (λ y. after_once m.body (seen_node (d r) at y)) (still r)

                own : IsNoWant t.reply → Agrees d (history J) (history (delivered k s.reply ∷ Returned k ∷ delivered k t.reply ∷ sending k m ∷ J)) → IsNoWant s.reply ⊎ (s.reply ≡ reply.NoMemory)
                    → counted (seen_node (d r) at (now r)) ≡ told_body m.body (seen_nodes d J old r)
                own serves both (inl more) =
                    ap counted (becomes L1 next now u now-sent (still-current J k m new.unsent q new.current) s (d r) at more)
                    ∙ ap (λ y. counted (after_once m.body y)) (first serves)
                    ∙ as-twice (script-again J k m new.unsent new.silent new.untaken new.of_pass t.reply s.reply d false (no-want (Returned k ∷ delivered k t.reply ∷ sending k m ∷ J) s.reply more) serves both)
                own serves both (inr e) =
                    ap (λ y. counted (seen_node (d r) at y)) (stays L1 next now u now-sent (still-current J k m new.unsent q new.current) s e)
                    ∙ ap counted (first serves)
                    ∙ as-once (script-again J k m new.unsent new.silent new.untaken new.of_pass t.reply s.reply d true (ap (λ z. is_want (meaning_reply (Returned k ∷ delivered k t.reply ∷ sending k m ∷ J) (noted_reply z))) e) serves both)

-- ---- both

pub told : AreRuns → ((J N : Events) → later (length J) (N ++ J) ≡ N) → (d : Script) (J K : Events) (old now : Nodes) (k : ℕ) (m : Message) → IsTaken J K old now k m → Agrees d (history J) (history K) → IsToldIn d J K old now k m
told runs behind d J K old now k m x agrees = elim x.takings [
  | inl o ↦ subst (λ (E : Events). IsToldIn d J E old now k m) (sym o.1)
      (once runs J k m x.new behind d old now o.0 (subst (λ (E : Events). NodesGo J old E now) o.1 x.nodes) (subst (λ (E : Events). Agrees d (history J) (history E)) o.1 agrees)
      (subst (λ (E : Events). first_reply k (history E) ≡ Some plain.NoMemory → ⊥) o.1 x.fine))
  | inr o ↦ subst (λ (E : Events). IsToldIn d J E old now k m) (sym o.2)
      (twice runs J k m x.new behind d old now o.0 o.1 (subst (λ (E : Events). NodesGo J old E now) o.2 x.nodes) (subst (λ (E : Events). Agrees d (history J) (history E)) o.2 agrees)
      (subst (λ (E : Events). first_reply k (history E) ≡ Some plain.NoMemory → ⊥) o.2 x.fine))
]
