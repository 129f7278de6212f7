-- Where a line is among parts.
use Rattle.std.proofs.Common.{◌≡◌, ◌<◌, ◌≤◌, ◌+◌, ◌-◌, ℕ, zero, suc, true, false, List, [], ◌∷◌, ◌++◌, is_some, inl, inr, refl, sym, ap, ◌∙◌, subst, arith, length, length-append, append_assoc, slice_get, if◌then◌else◌}
use Rattle.std.proofs.lemmas.Bool.{cases_lt}
use Rattle.cluster_states.specs.Publishing.{Told}
use Rattle.lane_lives.specs.declared.setting.Setting.{Setting}
use Rattle.lane_lives.specs.Lives.{Deed}
use Rattle.session_cluster.specs.Deeds.{told_by}
use Rattle.session_cluster.specs.declared.cluster.LineSpans.{LineSpans}
use Rattle.session_cluster.specs.declared.asked.Asked.{Asked}
use Rattle.session_cluster.proofs.DeedLists.{told_append}
use Rattle.session_segments.specs.FedDeeds.{with_part, with_parts}
use Rattle.session_segments.specs.Parts.{Part, asked_of, asked_in, has_line, parts_before, parts_to}

-- ---- parts, and others behind them

pub asked_append : (ps qs : List Part) → asked_in (ps ++ qs) ≡ asked_in ps ++ asked_in qs
asked_append [] qs = refl
asked_append (p ∷ ps) qs = ap (λ (cs : List Asked). asked_of p ++ cs) (asked_append ps qs) ∙ sym (append_assoc (asked_of p) (asked_in ps) (asked_in qs))

pub parts_append : (s : Setting) (us : List LineSpans) (feeders lane : ℕ) (told : Told) (line : ℕ) (ps qs : List Part) (deeds : List Deed)
    → with_parts s us feeders lane told line (ps ++ qs) deeds
    ≡ with_parts s us feeders lane (told_by told (asked_in ps)) (line + length (asked_in ps)) qs (with_parts s us feeders lane told line ps deeds)
parts_append s us feeders lane told line [] qs deeds = ap (λ n. with_parts s us feeders lane told n qs deeds) (omega arith)
parts_append s us feeders lane told line (p ∷ ps) qs deeds =
    let more = with_part s us feeders lane told line p deeds in
    let next = told_by told (asked_of p) in
    let rest = with_parts s us feeders lane next (line + length (asked_of p)) ps more in
    parts_append s us feeders lane next (line + length (asked_of p)) ps qs more
    ∙ ap (λ (t : Told). with_parts s us feeders lane t (line + length (asked_of p) + length (asked_in ps)) qs rest) (sym (told_append told (asked_of p) (asked_in ps)))
    ∙ ap (λ n. with_parts s us feeders lane (told_by told (asked_of p ++ asked_in ps)) n qs rest) (let all = length-append (asked_of p) (asked_in ps) in omega (arith, all))

-- ---- the part of a line

in_list : (cs : List Asked) (at : ℕ) → at < length cs → is_some (slice_get cs at) ≡ true
in_list [] at low = absurd (omega (arith, low))
in_list (c ∷ cs) zero low = refl
in_list (c ∷ cs) (suc at) low = in_list cs at (omega (arith, low))

past_list : (cs : List Asked) (at : ℕ) → length cs ≤ at → is_some (slice_get cs at) ≡ false
past_list [] zero high = refl
past_list [] (suc at) high = refl
past_list (c ∷ cs) zero high = absurd (omega (arith, high))
past_list (c ∷ cs) (suc at) high = past_list cs at (omega (arith, high))

-- those before it, it, and those behind it
pub record IsPlaced (at : ℕ) (ps : List Part) : Type 0 where
  pub before : List Part
  pub own : Part
  pub after : List Part
  pub all : ps ≡ before ++ own ∷ after
  pub before_is : parts_before at ps ≡ before
  pub to_is : parts_to at ps ≡ before ++ own ∷ []
  pub low : length (asked_in before) ≤ at
  pub high : at < length (asked_in before) + length (asked_of own)

pub first_before : (at : ℕ) (p : Part) (ps : List Part) → at < length (asked_of p) → parts_before at (p ∷ ps) ≡ []
first_before at p ps low = ap (λ t. if t then [] else p ∷ parts_before (at - length (asked_of p)) ps) (in_list (asked_of p) at low)

pub first_to : (at : ℕ) (p : Part) (ps : List Part) → at < length (asked_of p) → parts_to at (p ∷ ps) ≡ p ∷ []
first_to at p ps low = ap (λ t. if t then p ∷ [] else p ∷ parts_to (at - length (asked_of p)) ps) (in_list (asked_of p) at low)

pub later_before : (at : ℕ) (p : Part) (ps : List Part) → length (asked_of p) ≤ at → parts_before at (p ∷ ps) ≡ p ∷ parts_before (at - length (asked_of p)) ps
later_before at p ps high = ap (λ t. if t then [] else p ∷ parts_before (at - length (asked_of p)) ps) (past_list (asked_of p) at high)

pub later_to : (at : ℕ) (p : Part) (ps : List Part) → length (asked_of p) ≤ at → parts_to at (p ∷ ps) ≡ p ∷ parts_to (at - length (asked_of p)) ps
later_to at p ps high = ap (λ t. if t then p ∷ [] else p ∷ parts_to (at - length (asked_of p)) ps) (past_list (asked_of p) at high)

pub placed_as : (before : List Part) (own : Part) (after : List Part) (at : ℕ) → length (asked_in before) ≤ at → at < length (asked_in before) + length (asked_of own)
    → (parts_before at (before ++ own ∷ after) ≡ before) × (parts_to at (before ++ own ∷ after) ≡ before ++ own ∷ [])
placed_as [] own after at low high = (first_before at own after (omega (arith, high)), first_to at own after (omega (arith, high)))
placed_as (p ∷ before) own after at low high =
    let all = length-append (asked_of p) (asked_in before) in
    let rest = placed_as before own after (at - length (asked_of p)) (omega (arith, low, all)) (omega (arith, low, high, all)) in
    let past : length (asked_of p) ≤ at = omega (arith, low, all) in (
      later_before at p (before ++ own ∷ after) past ∙ ap (λ (ps : List Part). p ∷ ps) rest.0,
      later_to at p (before ++ own ∷ after) past ∙ ap (λ (ps : List Part). p ∷ ps) rest.1,
    )

pub placed : (at : ℕ) (ps : List Part) → at < length (asked_in ps) → IsPlaced at ps
placed at [] within = absurd (omega (arith, within))
placed at (p ∷ ps) within = elim (cases_lt at (length (asked_of p))) [
  | inl here ↦ record {
    before = [];
    own = p;
    after = ps;
    all = refl;
    before_is = first_before at p ps here;
    to_is = first_to at p ps here;
    low = omega arith;
    high = omega (arith, here);
  }
  | inr past ↦
      let all = length-append (asked_of p) (asked_in ps) in
      let rest = placed (at - length (asked_of p)) ps (omega (arith, within, past, all)) in
      let long = length-append (asked_of p) (asked_in rest.before) in
      record {
        before = p ∷ rest.before;
        own = rest.own;
        after = rest.after;
        all = ap (λ (qs : List Part). p ∷ qs) rest.all;
        before_is = later_before at p ps (omega (arith, past)) ∙ ap (λ (qs : List Part). p ∷ qs) rest.before_is;
        to_is = later_to at p ps (omega (arith, past)) ∙ ap (λ (qs : List Part). p ∷ qs) rest.to_is;
        low = omega (arith, rest.low, past, long);
        high = omega (arith, rest.high, past, long);
      }
]

-- ---- one part more

-- the parts of a line that was there stay
pub placed_still : (ps : List Part) (p : Part) (at : ℕ) → at < length (asked_in ps) → (parts_before at (ps ++ p ∷ []) ≡ parts_before at ps) × (parts_to at (ps ++ p ∷ []) ≡ parts_to at ps)
placed_still ps p at within =
    let x = placed at ps within in
    let now = placed_as x.before x.own (x.after ++ p ∷ []) at x.low x.high in
    let is : ps ++ p ∷ [] ≡ x.before ++ x.own ∷ (x.after ++ p ∷ []) = ap (λ (qs : List Part). qs ++ p ∷ []) x.all ∙ append_assoc x.before (x.own ∷ x.after) (p ∷ []) in
    (ap (parts_before at) is ∙ now.0 ∙ sym x.before_is, ap (parts_to at) is ∙ now.1 ∙ sym x.to_is)

-- those of a line of the new one
pub placed_last : (ps : List Part) (p : Part) (at : ℕ) → length (asked_in ps) ≤ at → at < length (asked_in ps) + length (asked_of p) → (parts_before at (ps ++ p ∷ []) ≡ ps) × (parts_to at (ps ++ p ∷ []) ≡ ps ++ p ∷ [])
placed_last ps p at low high = placed_as ps p [] at low high
