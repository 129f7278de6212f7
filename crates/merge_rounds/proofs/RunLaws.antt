-- A round after some Reads has what the replies showed.
use Rattle.std.proofs.Common.{◌≡◌, ◌==◌, ◌||◌, ℕ, ◌<◌, ◌+◌, Bool, true, false, nat_lt, List, [], ◌∷◌, Option, Some, None, cond, refl, sym, ap, ◌∙◌, subst, arith}
use Rattle.std.specs.List.{list_any}
use Rattle.std.proofs.lemmas.Bool.Decides.{nat_tests}
use Rattle.std.proofs.lemmas.List.Folds.{list_any-append}
use Rattle.node_sets.specs.Members.{has_node, size_of}
use Rattle.messages.specs.declared.message.Message.{Message}
use Rattle.messages.specs.declared.reply.Reply.{Reply}
use Rattle.messages.specs.declared.reply.Reply.TheVariants as reply
use Rattle.messages.specs.declared.step.NodePieces.{NodePieces}
use Rattle.merge_rounds.specs.Rounds.{RoundState, IsNth, IsRead, after_send, after_read, shown_after, shown_by, union_after, did_show, HaveAllShown, is_answer}
use Rattle.merge_rounds.specs.Runs.{HasRead, shown_of}

reading : (a b : ℕ) → a < b → nat_lt a b ≡ true
reading a b lt = grind (arith, nat_tests)

sent_is : (r : RoundState) (m : Message) → IsRead r m → after_send r (Some m) ≡ record r { reads = r.reads + 1; awaited = Some m.receiver }
sent_is r m h = ap (λ b. cond b (record r { reads = r.reads + 1; awaited = Some m.receiver }) (record r { applies = r.applies + 1; awaited = Some m.receiver })) (reading r.reads (size_of r.readers) h.turn)

pub goes_on : (replies : ℕ → Option Reply) (asked : List ℕ) (r : RoundState) (m : Message) → HasRead replies asked r → IsRead r m
    → HasRead replies (m.receiver ∷ asked) (after_read (after_send r (Some m)) m.receiver (replies m.receiver))
goes_on replies asked r m h is = subst (λ (s : RoundState). HasRead replies (m.receiver ∷ asked) (after_read s m.receiver (replies m.receiver))) (sym (sent_is r m is)) (record {
  reads = omega (arith, h.reads);
  first = (subst (λ k. IsNth r.readers k m.receiver) h.reads is.to, h.first);
  shown = ap (λ (s : List NodePieces). shown_after s m.receiver (replies m.receiver)) h.shown;
  union = ap (λ u. union_after u (replies m.receiver)) h.union;
})

either : (a b : Bool) (P : Type 0) → (a || b) ≡ true → (a ≡ true → P) → (b ≡ true → P) → P
either true b P h f g = f refl
either false b P h f g = g h

same_node : (a b : ℕ) → (a == b) ≡ true → a ≡ b
same_node a b h = grind (arith, nat_tests)

-- whose answer is shown has answered
shown_answered : (replies : ℕ → Option Reply) (asked : List ℕ) (node : ℕ) → did_show node (shown_of replies asked) ≡ true → is_answer (replies node) ≡ true
shown_answered replies [] node h = let e : false ≡ true = h in cc
shown_answered replies (n ∷ asked) node h = go (replies n) refl (shown_answered replies asked node) h
  where
    go : (o : Option Reply) → o ≡ replies n → (did_show node (shown_of replies asked) ≡ true → is_answer (replies node) ≡ true) → did_show node (shown_after (shown_of replies asked) n o) ≡ true → is_answer (replies node) ≡ true
    go (Some (reply.Answer pieces entries)) e more k =
        either (did_show node (shown_of replies asked)) (list_any (λ (p : NodePieces). p.node == node) (shown_by n pieces entries ∷ [])) (is_answer (replies node) ≡ true)
        (sym (list_any-append (λ (p : NodePieces). p.node == node) (shown_of replies asked) (shown_by n pieces entries ∷ [])) ∙ k)
        more
        (λ last. either (n == node) false (is_answer (replies node) ≡ true) last
        (λ same. ap (λ i. is_answer (replies i)) (sym (same_node n node same)) ∙ ap is_answer (sym e))
        (λ none. let f : false ≡ true = none in cc))
    go (Some (reply.Newer v)) e more k = more k
    go (Some reply.NoBucket) e more k = more k
    go (Some reply.Differs) e more k = more k
    go (Some reply.NoMemory) e more k = more k
    go None e more k = more k

pub whole : (replies : ℕ → Option Reply) (asked : List ℕ) (r : RoundState) → HasRead replies asked r → HaveAllShown r.readers r.shown
    → (node : ℕ) → has_node r.readers node ≡ true → is_answer (replies node) ≡ true
whole replies asked r h all node member =
    shown_answered replies asked node (subst (λ (s : List NodePieces). did_show node s ≡ true) h.shown (all node member))
