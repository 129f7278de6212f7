-- What a round is told.
use Rattle.std.proofs.Common.{◌≡◌, ◌<◌, ◌≤◌, ◌+◌, ℕ, zero, suc, Bool, true, false, cond, nat_lt, List, Some, None, inl, inr, refl, sym, subst, arith}
use Rattle.std.proofs.lemmas.Bool.Decides.{nat_tests}
use Rattle.bucket_ids.specs.Buckets.{Low}
use Rattle.messages.specs.declared.reply.Reply.{Reply}
use Rattle.messages.specs.declared.reply.Reply.TheVariants as reply
use Rattle.messages.specs.declared.noted.NotedReply.{NotedReply}
use Rattle.messages.specs.declared.noted.NotedReply.TheVariants as noted
use Rattle.node_sets.specs.Members.{size_of}
use Rattle.messages.specs.declared.message.Message.{Message}
use Rattle.merge_rounds.specs.Rounds.{RoundState, IsNext, after_send, after_read, IsAfterApply}
use Rattle.lane_journals.specs.declared.event.LaneEvent.{LaneEvent}
use Rattle.lane_keeping.specs.RoundKeeping.{KnowsRound}
use Rattle.round_keeping.specs.RoundRuns.{IsRunning, IsAfterReply, left, IsCutOff, IsToSend}
use Rattle.round_keeping.specs.declared.round_run.RoundRun.{RoundRun}
use Rattle.round_keeping.proofs.Running.{running-as, reply-row}

-- no reply comes
pub runs-none : (lane : Low) (J : List LaneEvent) (x : RoundRun) (q : RoundState) (n : ℕ) → IsRunning lane J x → IsAfterReply x.round q n None
    → KnowsRound lane J x.distributor x.state (after_read x.round n None)
    → ((after : RoundState) → IsAfterApply x.round after n None → KnowsRound lane J x.distributor x.state after) → IsRunning lane J (record x { round = q })
runs-none lane J x q n k h read applied = running-as lane J x q k (reply-row x.round q n None h) (by_count (x.round).applies refl)
  where
    by_count : (a : ℕ) → (x.round).applies ≡ a → KnowsRound lane J x.distributor x.state q
    by_count zero e = subst (λ (y : RoundState). KnowsRound lane J x.distributor x.state y) (sym (h.read e)) read
    by_count (suc a) e = applied q (h.applied (omega (arith, e)))

-- ---- the message that comes next

pub next-small : (r : RoundState) (m : Message) → IsNext r (Some m) → m.receiver < 32
next-small r m (inl t) = (t.to).small
next-small r m (inr t) = (t.to).small

-- what is sent changes only how much was sent, and who is waited for
pub sent-goes : (r : RoundState) (m : Message) → after_send r (Some m) ≡ record r { reads = (after_send r (Some m)).reads; applies = (after_send r (Some m)).applies; awaited = (after_send r (Some m)).awaited }
sent-goes r m = by_test (nat_lt r.reads (size_of r.readers))
  where
    by_test : (t : Bool) → cond t (record r { reads = r.reads + 1; awaited = Some m.receiver }) (record r { applies = r.applies + 1; awaited = Some m.receiver })
        ≡ record r {
          reads = (cond t (record r { reads = r.reads + 1; awaited = Some m.receiver }) (record r { applies = r.applies + 1; awaited = Some m.receiver })).reads;
          applies = (cond t (record r { reads = r.reads + 1; awaited = Some m.receiver }) (record r { applies = r.applies + 1; awaited = Some m.receiver })).applies;
          awaited = (cond t (record r { reads = r.reads + 1; awaited = Some m.receiver }) (record r { applies = r.applies + 1; awaited = Some m.receiver })).awaited;
        }
    by_test true = refl
    by_test false = refl

pub sent-rest : (r q : RoundState) (m : Message) → q ≡ after_send r (Some m) → q ≡ record r { reads = q.reads; applies = q.applies; awaited = q.awaited }
sent-rest r q m e = subst (λ (x : RoundState). x ≡ record r { reads = x.reads; applies = x.applies; awaited = x.awaited }) (sym e) (sent-goes r m)

is-less : (a b : ℕ) → a < b → nat_lt a b ≡ true
is-less a b h = grind (arith, nat_tests)

is-not : (a b : ℕ) → b ≤ a → nat_lt a b ≡ false
is-not a b h = grind (arith, nat_tests)

-- one message less is left
pub sent-less : (r q : RoundState) (m : Message) → IsNext r (Some m) → q ≡ after_send r (Some m) → left q < left r
sent-less r q m next e = subst (λ (x : RoundState). left x < left r) (sym e) (by_next next)
  where
    by_next : IsNext r (Some m) → left (after_send r (Some m)) < left r
    by_next (inl t) = let less = t.turn in subst (λ (b : Bool). left (cond b (record r { reads = r.reads + 1; awaited = Some m.receiver }) (record r { applies = r.applies + 1; awaited = Some m.receiver })) < left r) (sym (is-less r.reads (size_of r.readers) less)) (omega arith)
    by_next (inr t) = let more = t.turn in subst (λ (b : Bool). left (cond b (record r { reads = r.reads + 1; awaited = Some m.receiver }) (record r { applies = r.applies + 1; awaited = Some m.receiver })) < left r) (sym (is-not r.reads (size_of r.readers) t.read)) (omega arith)

-- nothing was taken from it
pub cut-as : (lane : Low) (J : List LaneEvent) (x : RoundRun) (q : RoundState) → IsRunning lane J x → q ≡ x.round → IsCutOff lane J (record x { round = q })
cut-as lane J x q k e = record { round = x.round; runs = k; rest = subst (λ (y : RoundState). y ≡ record x.round { reads = y.reads; applies = y.applies; awaited = y.awaited }) (sym e) refl }

-- its next message was
pub cut-sent : (lane : Low) (J : List LaneEvent) (x : RoundRun) (q : RoundState) (m : Message) → IsRunning lane J x → q ≡ after_send x.round (Some m) → IsCutOff lane J (record x { round = q })
cut-sent lane J x q m k e = record { round = x.round; runs = k; rest = sent-rest x.round q m e }

pub to-send : (lane : Low) (J : List LaneEvent) (x : RoundRun) (q : RoundState) (m : Message) → IsRunning lane J x → (x.round).awaited ≡ None → IsNext x.round (Some m) → q ≡ after_send x.round (Some m) → IsToSend lane J (record x { round = q }) m
to-send lane J x q m k told next e = record { round = x.round; runs = k; told = told; next = next; is = e }
