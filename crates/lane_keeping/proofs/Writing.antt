-- The entry of a stamp is the one that its line wrote.
use Rattle.std.proofs.Common.{◌≡◌, ◌==◌, ℕ, true, false, cond, List, [], ◌∷◌, Option, Some, None, inl, inr, refl, sym, ap, ◌∙◌, arith, eq-eqb}
use mathlib.Core.Bool.{true≢false}
use Rattle.std.proofs.lemmas.Bool.Decides.{nat_tests}
use Rattle.documents.specs.declared.entry.Entry.{Entry}
use Rattle.lane_journals.specs.Stamps.{Stamp, same_stamp}
use Rattle.lane_journals.specs.Events.{Event}
use Rattle.lane_journals.specs.Readers.{Journal, or_else, only_if, Beginning, began, wrote}
use Rattle.lane_journals.specs.States.{state_of}
use Rattle.lane_journals.specs.Meanings.{entry_at, meaning, history}
use Rattle.lane_journals.specs.Naming.{IsOwn}
use Rattle.lane_journals.specs.Places.{Setting}
use Rattle.lane_journals.specs.KeptJournals.{IsLegal, IsLegalStep}
use Rattle.lane_journals.specs.declared.event.LaneEvent.{LaneEvent}
use Rattle.lane_journals.specs.declared.event.LaneEvent.TheVariants.{Wrote}
use Rattle.lane_journals.proofs.Basics.{or_else-cases, only_if-some, began-stays}
use Rattle.lane_journals.proofs.Order.{same_stamp-true}
use Rattle.lane_journals.proofs.Meant.{meant-legal}
use Rattle.lane_journals.proofs.Kept.{stamp-line}

same_stamp-refl : (s : Stamp) → same_stamp s s ≡ true
unfolding same_stamp
same_stamp-refl s = ap (λ t. cond t (s.count == s.count) false) (eq-eqb s.version s.version refl) ∙ eq-eqb s.count s.count refl

wrote-stays : (l : ℕ) (H : Journal) (e : Event) → wrote l H ≡ true → wrote l (e ∷ H) ≡ true
wrote-stays l H e h = grind (arith, nat_tests)

-- the line that wrote the entry of a stamp
record IsLineOf (s : Stamp) (e : Entry) (J : List LaneEvent) : Type 0 where
  line : ℕ
  begin : Beginning
  begun : began line (history J) ≡ Some begin
  of_stamp : begin.stamp ≡ Some s
  written : wrote line (history J) ≡ true
  stamped : e.stamp ≡ s

later : (s : Stamp) (e : Entry) (J : List LaneEvent) (x : LaneEvent) → IsLineOf s e J → IsLineOf s e (x ∷ J)
later s e J x h = record {
  line = h.line;
  begin = h.begin;
  begun = began-stays h.line (history J) h.begin (meaning J x) h.begun;
  of_stamp = h.of_stamp;
  written = wrote-stays h.line (history J) (meaning J x) h.written;
  stamped = h.stamped;
}

module _ (S : Setting) where
  line-of : (J : List LaneEvent) → IsLegal S J → (s : Stamp) (e : Entry) → entry_at s J ≡ Some e → IsLineOf s e J
  line-of [] l s e h = cc
  line-of (Wrote k x ∷ J) l s e h = elim (or_else-cases (entry_at s J) _ e h) [
    | inl old ↦ later s e J (Wrote k x) (line-of J l.0 s e old)
    | inr new ↦ (let o = only_if-some (same_stamp x.stamp s) x e new.1 in now (same_stamp-true x.stamp s o.0) o.1)
  ]
    where
      own : IsOwn J k x.stamp x.id
      own = (l.1).noted

      now : x.stamp ≡ s → x ≡ e → IsLineOf s e (Wrote k x ∷ J)
      now is same = record {
        line = k;
        begin = own.begin;
        begun = own.begun;
        of_stamp = own.stamped ∙ ap (λ (t : Stamp). Some t) is;
        written = ap (λ t. cond t true (wrote k (history J))) (eq-eqb k k refl);
        stamped = ap (λ (z : Entry). z.stamp) (sym same) ∙ is;
      }
  line-of (x ∷ J) l s e h = later s e J x (line-of J l.0 s e h)

  pub entry-stamped : (J : List LaneEvent) → IsLegal S J → (s : Stamp) (e : Entry) → entry_at s J ≡ Some e → e.stamp ≡ s
  entry-stamped J l s e h = (line-of J l s e h).stamped

  unwritten : (J : List LaneEvent) → IsLegal S J → (k : ℕ) (e : Entry) → IsLegalStep S J (Wrote k e) → entry_at e.stamp J ≡ None
  unwritten J l k e step = by_entry (entry_at e.stamp J) refl
    where
      own : IsOwn J k e.stamp e.id
      own = step.noted

      by_entry : (o : Option Entry) → entry_at e.stamp J ≡ o → o ≡ None
      by_entry None h = refl
      by_entry (Some x) h =
          let of = line-of J l e.stamp x h in
          let same : of.line ≡ k = stamp-line S.acks (state_of (history J)) (history J) (meant-legal S J l) of.line k of.begin own.begin e.stamp of.begun own.begun of.of_stamp own.stamped in
          let before : wrote k (history J) ≡ true = ap (λ i. wrote i (history J)) (sym same) ∙ of.written in
          absurd (true≢false (sym before ∙ (step.permitted).unwritten))

  pub entry-written : (J : List LaneEvent) → IsLegal S J → (k : ℕ) (e : Entry) → IsLegalStep S J (Wrote k e) → entry_at e.stamp (Wrote k e ∷ J) ≡ Some e
  entry-written J l k e step = ap (λ o. or_else o (only_if (same_stamp e.stamp e.stamp) e)) (unwritten J l k e step) ∙ ap (λ t. only_if t e) (same_stamp-refl e.stamp)
