-- What is kept of all lanes holds in each.
use Rattle.std.proofs.Common.{◌≡◌, ◌<◌, ℕ, zero, suc, List, [], ◌∷◌, Some, inl, inr, refl, sym, subst, arith, length, map, slice_get}
use Rattle.std.proofs.lemmas.Bool.{cases_lt}
use Rattle.carriers.specs.declared.fate.Fate.{Fate}
use Rattle.lane_journals.specs.KeptJournals.{IsLegal}
use Rattle.lane_calls.specs.LaneValues.{LaneValue}
use Rattle.lane_keeping.specs.LaneKeeping.{setting_of}
use Rattle.lane_lives.specs.declared.setting.Setting.{Setting}
use Rattle.lane_lives.specs.Lives.{Deed}
use Rattle.lane_lives.specs.Serving.{bucket_in, IsServing}
use Rattle.session_cluster.specs.Cells.{Cell, journals_of}
use Rattle.session_cluster.specs.Keeping.{HaveDone}
use Rattle.session_cluster.specs.Lanes.{Journal, journal_in, AreLegal}
use Rattle.session_cluster.specs.declared.asked.Asked.{Asked}
use Rattle.session_cluster.proofs.LaneLists.{journal_is, journal_at, journal_past}

pub lane_there : (vs : List LaneValue) (lane : ℕ) → lane < length vs → (v : LaneValue) × (slice_get vs lane ≡ Some v)
lane_there [] lane h = absurd (omega (arith, h))
lane_there (v ∷ vs) zero h = (v, refl)
lane_there (v ∷ vs) (suc lane) h = lane_there vs lane (omega (arith, h))

-- what holds of each lane that is there and of an empty journal holds of every lane's journal
pub in_lanes : (P : ℕ → Journal → Type 0) (vs : List LaneValue) → ((lane : ℕ) → P lane []) → ((lane : ℕ) (v : LaneValue) → slice_get vs lane ≡ Some v → P lane v.journal) → (lane : ℕ) → P lane (journal_in lane (map journal_is vs))
in_lanes P vs empty each lane = elim (cases_lt lane (length vs)) [
  | inl there ↦ let found = lane_there vs lane there in subst (P lane) (sym (journal_at vs lane found.0 found.1)) (each lane found.0 found.1)
  | inr past ↦ subst (P lane) (sym (journal_past vs lane (omega (arith, past)))) (empty lane)
]

serving_legal : (s : Setting) (planned : List Fate) (lane : ℕ) (deeds : List Deed) (v : LaneValue) → IsServing s planned lane deeds v → IsLegal (setting_of (bucket_in s lane) s.rules) v.journal
serving_legal s planned lane deeds v is = subst (λ b. IsLegal (setting_of b s.rules) v.journal) is.lane_is (subst (λ r. IsLegal (setting_of v.lane r) v.journal) is.rules_are (is.holds).legal)

pub kept_legal : {deeds : ℕ → List Deed} (s : Setting) (plans : ℕ → List Fate) (cs : List Asked) (c : Cell) → HaveDone s plans cs deeds c → AreLegal s (journals_of c)
kept_legal s plans cs c kept = in_lanes (λ lane J. IsLegal (setting_of (bucket_in s lane) s.rules) J) c.lanes (λ lane. tt) (λ lane v at. serving_legal s _ lane _ v (kept.serving lane v at))
