-- A segment of lines in another order is one of the same lines.
use Rattle.std.proofs.Common.{◌≡◌, ◌⊎◌, ℕ, zero, suc, List, [], ◌∷◌, ◌++◌, Some, inl, inr, sym, subst, slice_get}
use Rattle.lane_calls.specs.LaneValues.{LaneValue}
use Rattle.lane_calls.specs.Lines.{FeedLine, Lines}
use Rattle.lane_calls.specs.Segments.{IsAmong, IsCall, Hears, Starts, Continues, Ends, Stays, Calls, Here, Then, IsSegment}
use Rattle.lane_lives.specs.declared.setting.Setting.{Setting}
use Rattle.session_cluster.specs.declared.asked.Asked.{Asked}
use Rattle.session_segments.specs.FedDeeds.{with_fed, fed_lines}
use Rattle.session_segments.specs.Sorted.{lane_lines}
use Rattle.session_segments.proofs.PartLists.{with_fed_is, fed_lines_is}

-- ---- the same lines

abbrev pub AreWithin : Lines → Lines → Type 0
AreWithin lines more = (line : FeedLine) → IsAmong lines line → IsAmong more line

module _ (feeders : ℕ) (lines more : Lines) (to : AreWithin lines more) (back : AreWithin more lines) where
  same-call : (v w : LaneValue) → IsCall feeders lines v w → IsCall feeders more v w
  same-call v w (Hears h) = Hears h
  same-call v w (Starts line answer next begins) = Starts line answer
      (record { among = to line next.among; fresh = next.fresh; turn = λ other among same earlier. next.turn other (back other among) same earlier }) begins
  same-call v w (Continues at u goes) = Continues at u goes
  same-call v w (Ends line outcome closes) = Ends line outcome closes
  same-call v w (Stays is) = Stays is

  same-calls : (first w : LaneValue) → Calls feeders lines first w → Calls feeders more first w
  same-calls first w Here = Here
  same-calls first w (Then v x calls call holds) = Then v w (same-calls first v calls) (same-call v w call) holds

  pub same_segment : (first last : LaneValue) → IsSegment feeders lines first last → IsSegment feeders more first last
  same_segment first last s = record { holds = s.holds; idle = s.idle; calls = same-calls first last s.calls }

-- ---- lists of lines, behind each other

there-left : (xs ys : Lines) (line : FeedLine) (k : ℕ) → slice_get xs k ≡ Some line → slice_get (xs ++ ys) k ≡ Some line
there-left [] ys line zero h = cc h
there-left [] ys line (suc k) h = cc h
there-left (x ∷ xs) ys line zero h = h
there-left (x ∷ xs) ys line (suc k) h = there-left xs ys line k h

pub among_left : (xs ys : Lines) (line : FeedLine) → IsAmong xs line → IsAmong (xs ++ ys) line
among_left xs ys line among = (among.0, there-left xs ys line among.0 among.1)

pub among_right : (xs ys : Lines) (line : FeedLine) → IsAmong ys line → IsAmong (xs ++ ys) line
among_right [] ys line among = among
among_right (x ∷ xs) ys line among = let rest = among_right xs ys line among in (suc rest.0, rest.1)

there-either : (xs ys : Lines) (line : FeedLine) (k : ℕ) → slice_get (xs ++ ys) k ≡ Some line → IsAmong xs line ⊎ IsAmong ys line
there-either [] ys line k h = inr (k, h)
there-either (x ∷ xs) ys line zero h = inl (zero, h)
there-either (x ∷ xs) ys line (suc k) h = elim (there-either xs ys line k h) [
  | inl a ↦ inl (suc a.0, a.1)
  | inr b ↦ inr b
]

pub among_either : (xs ys : Lines) (line : FeedLine) → IsAmong (xs ++ ys) line → IsAmong xs line ⊎ IsAmong ys line
among_either xs ys line among = there-either xs ys line among.0 among.1

-- ---- those of a lane, the newest first or in order

module _ (s : Setting) (lane : ℕ) where
  in-order : (line : ℕ) (c : Asked) (cs : List Asked) → lane_lines s lane line (c ∷ cs) ≡ with_fed s lane line c [] ++ lane_lines s lane (suc line) cs
  in-order line c cs = with_fed_is s lane line c (lane_lines s lane (suc line) cs)

  newest-first : (line : ℕ) (c : Asked) (cs : List Asked) → fed_lines s lane line (c ∷ cs) [] ≡ fed_lines s lane (suc line) cs [] ++ with_fed s lane line c []
  newest-first line c cs = fed_lines_is s lane (suc line) cs (with_fed s lane line c [])

  pub fed_among : (line : ℕ) (cs : List Asked) → AreWithin (fed_lines s lane line cs []) (lane_lines s lane line cs)
  fed_among line [] x among = among
  fed_among line (c ∷ cs) x among =
      subst (λ (ls : Lines). IsAmong ls x) (sym (in-order line c cs))
      (elim (among_either (fed_lines s lane (suc line) cs []) (with_fed s lane line c []) x (subst (λ (ls : Lines). IsAmong ls x) (newest-first line c cs) among)) [
        | inl h ↦ among_right (with_fed s lane line c []) (lane_lines s lane (suc line) cs) x (fed_among (suc line) cs x h)
        | inr h ↦ among_left (with_fed s lane line c []) (lane_lines s lane (suc line) cs) x h
      ])

  pub lane_among : (line : ℕ) (cs : List Asked) → AreWithin (lane_lines s lane line cs) (fed_lines s lane line cs [])
  lane_among line [] x among = among
  lane_among line (c ∷ cs) x among =
      subst (λ (ls : Lines). IsAmong ls x) (sym (newest-first line c cs))
      (elim (among_either (with_fed s lane line c []) (lane_lines s lane (suc line) cs) x (subst (λ (ls : Lines). IsAmong ls x) (in-order line c cs) among)) [
        | inl h ↦ among_right (fed_lines s lane (suc line) cs []) (with_fed s lane line c []) x h
        | inr h ↦ among_left (fed_lines s lane (suc line) cs []) (with_fed s lane line c []) x (lane_among (suc line) cs x h)
      ])

  -- a segment of the ones is one of the others
  pub fed_segment : (feeders line : ℕ) (cs : List Asked) (v w : LaneValue) (lines : Lines) → lines ≡ lane_lines s lane line cs → IsSegment feeders lines v w → IsSegment feeders (fed_lines s lane line cs []) v w
  fed_segment feeders line cs v w lines is segment =
      same_segment feeders (lane_lines s lane line cs) (fed_lines s lane line cs []) (lane_among line cs) (fed_among line cs) v w (subst (λ (ls : Lines). IsSegment feeders ls v w) is segment)
