-- The carrier gives no fate anew in a segment.
use Rattle.std.proofs.Common.{◌≡◌, ℕ, List, [], ◌++◌, Option, None, Some, refl, sym, ap, ◌∙◌, subst, append_assoc, append-nil}
use Rattle.carriers.specs.declared.fate.Fate.{Fate}
use Rattle.messages.specs.declared.operation.Operation.{Operation}
use Rattle.lane_calls.specs.declared.answers.Begin.{Begin}
use Rattle.lane_calls.specs.declared.answers.Begin.TheVariants as begin
use Rattle.lane_calls.specs.declared.answers.Hear.{Hear}
use Rattle.lane_calls.specs.declared.answers.Hear.TheVariants as hear
use Rattle.lane_calls.specs.LaneValues.{LaneValue, IsHearing, IsBeginning, IsBeginningAtOwner}
use Rattle.lane_calls.specs.Lines.{FeedLine, Lines}
use Rattle.lane_calls.specs.Segments.{BeginsAs, GaveOn, IsCall, Hears, Starts, Continues, Ends, Stays, Calls, Here, Then, IsSegment}

pub gave-none : (given : List Fate) → GaveOn given given
gave-none given = ([], sym (append-nil given))

gave-twice : (now mid given : List Fate) → GaveOn now mid → GaveOn mid given → GaveOn now given
gave-twice now mid given a b = (b.0 ++ a.0, a.1 ∙ ap (λ l. l ++ a.0) b.1 ∙ append_assoc given b.0 a.0)

module _ (v w : LaneValue) where
  abbrev Gave : Type 0
  Gave = GaveOn w.given v.given

  same-given : (x : LaneValue) → w ≡ x → x.given ≡ v.given → Gave
  same-given x is same = subst (λ g. GaveOn g v.given) (sym (ap (λ (y : LaneValue). y.given) is ∙ same)) (gave-none v.given)

  heard-gives : (d : ℕ) (answer : Hear) → IsHearing d v w answer → Gave
  heard-gives d (hear.Heard version) h = same-given _ h.after refl
  heard-gives d (hear.Held by) h = same-given v h.same refl
  heard-gives d hear.NoMemory h = same-given v h refl

  begun-gives : (line : ℕ) (o : Operation) (via : ℕ) (answer : Begin) → IsBeginning line o via v w answer → Gave
  begun-gives line o via begin.Begun b = same-given _ b.after refl
  begun-gives line o via (begin.Refused outcome) b = same-given _ b.after refl
  begun-gives line o via (begin.Held by) b = same-given v b.same refl
  begun-gives line o via begin.NoMemory b = same-given v b refl

  owner-gives : (line : ℕ) (o : Operation) (answer : Begin) → IsBeginningAtOwner line o v w answer → Gave
  owner-gives line o begin.Begun b = same-given _ b.after refl
  owner-gives line o (begin.Refused outcome) b = absurd b
  owner-gives line o (begin.Held by) b = same-given v b.same refl
  owner-gives line o begin.NoMemory b = same-given v b refl

  starts-gives : (line : FeedLine) (via : Option ℕ) (answer : Begin) → BeginsAs line via v w answer → Gave
  starts-gives line None answer b = owner-gives line.number line.operation answer b
  starts-gives line (Some d) answer b = begun-gives line.number line.operation d answer b

  call-gives : (feeders : ℕ) (lines : Lines) → IsCall feeders lines v w → Gave
  call-gives feeders lines (Hears h) = heard-gives h.owner h.answer h.hears
  call-gives feeders lines (Starts line answer next b) = starts-gives line line.via answer b
  call-gives feeders lines (Continues at u g) = g.gives
  call-gives feeders lines (Ends line x c) = same-given _ c.after refl
  call-gives feeders lines (Stays is) = same-given v is refl

calls-give : (feeders : ℕ) (lines : Lines) (first v : LaneValue) → Calls feeders lines first v → GaveOn v.given first.given
calls-give feeders lines first v Here = gave-none first.given
calls-give feeders lines first v (Then u w calls call now) = gave-twice w.given u.given first.given (call-gives u w feeders lines call) (calls-give feeders lines first u calls)

pub segment-gives : (feeders : ℕ) (lines : Lines) (first last : LaneValue) → IsSegment feeders lines first last → GaveOn last.given first.given
segment-gives feeders lines first last s = calls-give feeders lines first last s.calls
