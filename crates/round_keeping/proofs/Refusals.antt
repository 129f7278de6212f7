-- Who wanted memory in a round, after more events.
use Rattle.std.proofs.Common.{◌≡◌, ◌⊎◌, ◌↔◌, ◌||◌, ℕ, Bool, true, false, cond, List, ◌∷◌, Some, inl, inr, refl, sym, ap, subst, ◌∙◌, eqb, eq-eqb}
use Rattle.std.proofs.lemmas.Bool.{eqb-true}
use Rattle.bucket_ids.specs.Buckets.{Low}
use Rattle.messages.specs.declared.noted.NotedReply.{NotedReply}
use Rattle.lane_journals.specs.Events as plain
use Rattle.lane_journals.specs.Readers as readers
use Rattle.lane_journals.specs.Readers.{Journal, sent, first_reply, returned}
use Rattle.lane_journals.specs.Meanings.{history, meaning}
use Rattle.lane_journals.specs.Places.{Setting}
use Rattle.lane_journals.specs.KeptJournals.{IsLegal}
use Rattle.lane_journals.specs.declared.event.LaneEvent.{LaneEvent}
use Rattle.lane_journals.specs.declared.event.LaneEvent.TheVariants.{Sent, Delivered, Returned}
use Rattle.lane_journals.proofs.Basics.{sent-stays, first_reply-stays, returned-stays}
use Rattle.lane_keeping.proofs.Events.{returned-replied, replied-sent}
use Rattle.round_keeping.specs.RoundRuns.{WasRefused, is_read_in, is_apply_in, KnowsRefusals}
use Rattle.proof_basics.proofs.Tests.{raised}

some-of : {A : Type 0} (x y : A) → Some x ≡ Some y → x ≡ y
some-of x y h = cc

module _ (S : Setting) (J : List LaneEvent) (legal : IsLegal S J) (test : readers.Message → Type 0) where
  stays : (e : LaneEvent) → WasRefused (history J) test → WasRefused (history (e ∷ J)) test
  stays e w = record {
    number = w.number;
    message = w.message;
    was_sent = sent-stays w.number (history J) w.message (meaning J e) w.was_sent;
    tested = w.tested;
    reply = first_reply-stays w.number (history J) plain.NoMemory (meaning J e) w.reply;
    back = returned-stays w.number (history J) (meaning J e) w.back;
  }

  -- a reply that was returned before was there before
  was-before : (e : LaneEvent) (w : WasRefused (history (e ∷ J)) test) → returned w.number (history J) ≡ true → WasRefused (history J) test
  was-before e w back =
      let r = returned-replied S J w.number legal back in
      let m = replied-sent S J w.number r.0 legal r.1 in
      let same_reply : r.0 ≡ plain.NoMemory = some-of r.0 plain.NoMemory (sym (first_reply-stays w.number (history J) r.0 (meaning J e) r.1) ∙ w.reply) in
      let same : m.0 ≡ w.message = some-of m.0 w.message (sym (sent-stays w.number (history J) m.0 (meaning J e) m.1) ∙ w.was_sent) in
      record {
        number = w.number;
        message = w.message;
        was_sent = m.1 ∙ ap (λ (x : readers.Message). Some x) same;
        tested = w.tested;
        reply = r.1 ∙ ap (λ (x : plain.Reply). Some x) same_reply;
        back = back;
      }

  -- the reply to a message is returned
  at-return : (n : ℕ) (m : readers.Message) (r : plain.Reply) → sent n (history J) ≡ Some m → first_reply n (history J) ≡ Some r → WasRefused (history (Returned n ∷ J)) test → WasRefused (history J) test ⊎ (test m × (r ≡ plain.NoMemory))
  at-return n m r is_sent replied w = by_test (eqb n w.number) refl w.back
    where
      by_test : (t : Bool) → eqb n w.number ≡ t → cond t true (returned w.number (history J)) ≡ true → WasRefused (history J) test ⊎ (test m × (r ≡ plain.NoMemory))
      by_test true e h =
          let same : n ≡ w.number = eqb-true n w.number e in
          let own : m ≡ w.message = some-of m w.message (sym is_sent ∙ ap (λ (k : ℕ). sent k (history J)) same ∙ w.was_sent) in
          inr (subst test (sym own) w.tested, some-of r plain.NoMemory (sym replied ∙ ap (λ (k : ℕ). first_reply k (history J)) same ∙ w.reply))
      by_test false e h = inl (was-before (Returned n) w h)

  now-refused : (n : ℕ) (m : readers.Message) (r : plain.Reply) → sent n (history J) ≡ Some m → first_reply n (history J) ≡ Some r → test m × (r ≡ plain.NoMemory) → WasRefused (history (Returned n ∷ J)) test
  now-refused n m r is_sent replied x = record {
    number = n;
    message = m;
    was_sent = is_sent;
    tested = x.0;
    reply = replied ∙ ap (λ (y : plain.Reply). Some y) x.1;
    back = ap (λ (t : Bool). cond t true (returned n (history J))) (eq-eqb n n refl);
  }

module _ (S : Setting) (J : List LaneEvent) (legal : IsLegal S J) (v i : ℕ) (b : Low) (unread unapplied : Bool) (k : KnowsRefusals (history J) v i b unread unapplied) where
  pub refusals-delivered : (n : ℕ) (y : NotedReply) → KnowsRefusals (history (Delivered n y ∷ J)) v i b unread unapplied
  refusals-delivered n y = record {
    unread_is = (λ h. stays S J legal (is_read_in v b i) (Delivered n y) (k.unread_is.0 h), λ w. k.unread_is.1 (was-before S J legal (is_read_in v b i) (Delivered n y) w w.back));
    unapplied_is = (λ h. stays S J legal (is_apply_in v b i) (Delivered n y) (k.unapplied_is.0 h), λ w. k.unapplied_is.1 (was-before S J legal (is_apply_in v b i) (Delivered n y) w w.back));
  }

  pub refusals-sent : (n w d m : ℕ) (x : _) → KnowsRefusals (history (Sent n w d m x ∷ J)) v i b unread unapplied
  refusals-sent n w d m x = record {
    unread_is = (λ h. stays S J legal (is_read_in v b i) (Sent n w d m x) (k.unread_is.0 h), λ u. k.unread_is.1 (was-before S J legal (is_read_in v b i) (Sent n w d m x) u u.back));
    unapplied_is = (λ h. stays S J legal (is_apply_in v b i) (Sent n w d m x) (k.unapplied_is.0 h), λ u. k.unapplied_is.1 (was-before S J legal (is_apply_in v b i) (Sent n w d m x) u u.back));
  }

  pub refusals-returned : (n : ℕ) (m : readers.Message) (r : plain.Reply) (read applied : Bool) → sent n (history J) ≡ Some m → first_reply n (history J) ≡ Some r
      → ((read ≡ true) ↔ (is_read_in v b i m × (r ≡ plain.NoMemory))) → ((applied ≡ true) ↔ (is_apply_in v b i m × (r ≡ plain.NoMemory)))
      → KnowsRefusals (history (Returned n ∷ J)) v i b (unread || read) (unapplied || applied)
  refusals-returned n m r read applied is_sent replied is_read is_applied = record {
    unread_is = raised unread read (WasRefused (history J) R) (R m × (r ≡ plain.NoMemory)) (WasRefused (history (Returned n ∷ J)) R) k.unread_is is_read (at-return S J legal R n m r is_sent replied) (stays S J legal R (Returned n)) (now-refused S J legal R n m r is_sent replied);
    unapplied_is = raised unapplied applied (WasRefused (history J) A) (A m × (r ≡ plain.NoMemory)) (WasRefused (history (Returned n ∷ J)) A) k.unapplied_is is_applied (at-return S J legal A n m r is_sent replied) (stays S J legal A (Returned n)) (now-refused S J legal A n m r is_sent replied);
  }
    where
      R : readers.Message → Type 0
      R = is_read_in v b i

      A : readers.Message → Type 0
      A = is_apply_in v b i

-- ---- a round that ends

module _ (H : Journal) (d v : ℕ) (x : plain.Decision) (test : readers.Message → Type 0) where
  decided-stays : WasRefused H test → WasRefused (plain.Decided d v x ∷ H) test
  decided-stays w = record { number = w.number; message = w.message; was_sent = w.was_sent; tested = w.tested; reply = w.reply; back = w.back }

  decided-before : WasRefused (plain.Decided d v x ∷ H) test → WasRefused H test
  decided-before w = record { number = w.number; message = w.message; was_sent = w.was_sent; tested = w.tested; reply = w.reply; back = w.back }

pub refusals-decided : (H : Journal) (d w : ℕ) (x : plain.Decision) (v i : ℕ) (b : Low) (unread unapplied : Bool) → KnowsRefusals H v i b unread unapplied → KnowsRefusals (plain.Decided d w x ∷ H) v i b unread unapplied
refusals-decided H d w x v i b unread unapplied k = record {
  unread_is = (λ h. decided-stays H d w x (is_read_in v b i) (k.unread_is.0 h), λ u. k.unread_is.1 (decided-before H d w x (is_read_in v b i) u));
  unapplied_is = (λ h. decided-stays H d w x (is_apply_in v b i) (k.unapplied_is.0 h), λ u. k.unapplied_is.1 (decided-before H d w x (is_apply_in v b i) u));
}
