-- No two entries of a legal journal were written with one stamp.
use Rattle.std.proofs.Common.{◌≡◌, ℕ, true, cond, List, [], ◌∷◌, Option, Some, None, inl, inr, refl, sym, ap, ◌∙◌, arith, eq-eqb}
use mathlib.Core.Bool.{true≢false}
use Rattle.std.proofs.lemmas.Bool.Decides.{nat_tests}
use Rattle.documents.specs.declared.entry.Entry.{Entry}
use Rattle.lane_journals.specs.Stamps.{Stamp, same_stamp}
use Rattle.lane_journals.specs.Events.{Event}
use Rattle.lane_journals.specs.Readers.{Journal, Beginning, began, wrote}
use Rattle.lane_journals.specs.States.{state_of}
use Rattle.lane_journals.specs.Meanings.{entry_at, meaning, history}
use Rattle.lane_journals.specs.Naming.{IsOwn}
use Rattle.lane_journals.specs.Places.{Setting}
use Rattle.lane_journals.specs.KeptJournals.{IsLegal, IsLegalStep}
use Rattle.lane_journals.specs.declared.event.LaneEvent.{LaneEvent}
use Rattle.lane_journals.specs.declared.event.LaneEvent.TheVariants.{Wrote}
use Rattle.lane_journals.proofs.Basics.{or_else-cases, only_if-some, began-stays}
use Rattle.lane_journals.proofs.Order.{same_stamp-true}
use Rattle.lane_journals.proofs.Meant.{meant-legal}
use Rattle.lane_journals.proofs.Kept.{stamp-line}
use Rattle.pass_model.specs.Counted.{AreOnce}

-- a line that began with the stamp wrote
record HasWritten (s : Stamp) (J : List LaneEvent) : Type 0 where
  line : ℕ
  begin : Beginning
  begun : began line (history J) ≡ Some begin
  of_stamp : begin.stamp ≡ Some s
  written : wrote line (history J) ≡ true

later-wrote : (l : ℕ) (H : Journal) (e : Event) → wrote l H ≡ true → wrote l (e ∷ H) ≡ true
later-wrote l H e h = grind (arith, nat_tests)

later-has : (s : Stamp) (J : List LaneEvent) (x : LaneEvent) → HasWritten s J → HasWritten s (x ∷ J)
later-has s J x h = record {
  line = h.line;
  begin = h.begin;
  begun = began-stays h.line (history J) h.begin (meaning J x) h.begun;
  of_stamp = h.of_stamp;
  written = later-wrote h.line (history J) (meaning J x) h.written;
}

module _ (S : Setting) where
  has-written : (J : List LaneEvent) → IsLegal S J → (s : Stamp) (e : Entry) → entry_at s J ≡ Some e → HasWritten s J
  has-written [] l s e h = cc
  has-written (Wrote k x ∷ J) l s e h = elim (or_else-cases (entry_at s J) _ e h) [
    | inl old ↦ later-has s J (Wrote k x) (has-written J l.0 s e old)
    | inr new ↦ now (same_stamp-true x.stamp s (only_if-some (same_stamp x.stamp s) x e new.1).0)
  ]
    where
      own : IsOwn J k x.stamp x.id
      own = (l.1).noted

      now : x.stamp ≡ s → HasWritten s (Wrote k x ∷ J)
      now is = record {
        line = k;
        begin = own.begin;
        begun = own.begun;
        of_stamp = own.stamped ∙ ap (λ (t : Stamp). Some t) is;
        written = ap (λ t. cond t true (wrote k (history J))) (eq-eqb k k refl);
      }
  has-written (x ∷ J) l s e h = later-has s J x (has-written J l.0 s e h)

  is-new : (J : List LaneEvent) → IsLegal S J → (k : ℕ) (e : Entry) → IsLegalStep S J (Wrote k e) → entry_at e.stamp J ≡ None
  is-new J l k e step = by_entry (entry_at e.stamp J) refl
    where
      own : IsOwn J k e.stamp e.id
      own = step.noted

      by_entry : (o : Option Entry) → entry_at e.stamp J ≡ o → o ≡ None
      by_entry None h = refl
      by_entry (Some x) h =
          let of = has-written J l e.stamp x h in
          let same : of.line ≡ k = stamp-line S.acks (state_of (history J)) (history J) (meant-legal S J l) of.line k of.begin own.begin e.stamp of.begun own.begun of.of_stamp own.stamped in
          let before : wrote k (history J) ≡ true = ap (λ i. wrote i (history J)) (sym same) ∙ of.written in
          absurd (true≢false (sym before ∙ (step.permitted).unwritten))

  pub all-once : (J : List LaneEvent) → IsLegal S J → AreOnce J
  all-once [] l = tt
  all-once (Wrote k e ∷ J) l = (is-new J l.0 k e l.1, all-once J l.0)
  all-once (_ ∷ J) l = all-once J l.0
