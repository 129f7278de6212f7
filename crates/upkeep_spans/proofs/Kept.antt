-- Which readers of a journal stay over an upkeep.
use Rattle.std.proofs.Common.{◌≡◌, ℕ, List, refl}
use Rattle.lane_journals.specs.Stamps.{Stamp}
use Rattle.lane_journals.specs.Readers.{published, known, held, stopped, began, prepared, wrote, closed, refused, stamps_of, before_line}
use Rattle.lane_journals.specs.Meanings.{history, entry_at, written}
use Rattle.lane_journals.specs.Places.{state_in, published_states}
use Rattle.lane_journals.specs.declared.event.LaneEvent.{LaneEvent}
use Rattle.upkeep_spans.specs.Spans.{AreUpkeep}
use Rattle.upkeep_spans.proofs.Leaving.{Leaves, same}

began-left : (k : ℕ) → Leaves (λ (L : List LaneEvent). began k (history L))
began-left k = record {
  opened = λ d v rows K. refl;
  sent = λ n v d to body K. refl;
  delivered = λ n r K. refl;
  returned = λ n K. refl;
  decided = λ d v x K. refl;
}

pub began-stays : (d v : ℕ) (J K : List LaneEvent) → AreUpkeep d v J K → (k : ℕ) → began k (history K) ≡ began k (history J)
began-stays d v J K h k = same (λ (L : List LaneEvent). began k (history L)) (began-left k) d v J K h

prepared-left : (k : ℕ) → Leaves (λ (L : List LaneEvent). prepared k (history L))
prepared-left k = record {
  opened = λ d v rows K. refl;
  sent = λ n v d to body K. refl;
  delivered = λ n r K. refl;
  returned = λ n K. refl;
  decided = λ d v x K. refl;
}

pub prepared-stays : (d v : ℕ) (J K : List LaneEvent) → AreUpkeep d v J K → (k : ℕ) → prepared k (history K) ≡ prepared k (history J)
prepared-stays d v J K h k = same (λ (L : List LaneEvent). prepared k (history L)) (prepared-left k) d v J K h

wrote-left : (k : ℕ) → Leaves (λ (L : List LaneEvent). wrote k (history L))
wrote-left k = record {
  opened = λ d v rows K. refl;
  sent = λ n v d to body K. refl;
  delivered = λ n r K. refl;
  returned = λ n K. refl;
  decided = λ d v x K. refl;
}

pub wrote-stays : (d v : ℕ) (J K : List LaneEvent) → AreUpkeep d v J K → (k : ℕ) → wrote k (history K) ≡ wrote k (history J)
wrote-stays d v J K h k = same (λ (L : List LaneEvent). wrote k (history L)) (wrote-left k) d v J K h

closed-left : (k : ℕ) → Leaves (λ (L : List LaneEvent). closed k (history L))
closed-left k = record {
  opened = λ d v rows K. refl;
  sent = λ n v d to body K. refl;
  delivered = λ n r K. refl;
  returned = λ n K. refl;
  decided = λ d v x K. refl;
}

pub closed-stays : (d v : ℕ) (J K : List LaneEvent) → AreUpkeep d v J K → (k : ℕ) → closed k (history K) ≡ closed k (history J)
closed-stays d v J K h k = same (λ (L : List LaneEvent). closed k (history L)) (closed-left k) d v J K h

refused-left : (k : ℕ) → Leaves (λ (L : List LaneEvent). refused k (history L))
refused-left k = record {
  opened = λ d v rows K. refl;
  sent = λ n v d to body K. refl;
  delivered = λ n r K. refl;
  returned = λ n K. refl;
  decided = λ d v x K. refl;
}

pub refused-stays : (d v : ℕ) (J K : List LaneEvent) → AreUpkeep d v J K → (k : ℕ) → refused k (history K) ≡ refused k (history J)
refused-stays d v J K h k = same (λ (L : List LaneEvent). refused k (history L)) (refused-left k) d v J K h

stamps_of-left : (k : ℕ) → Leaves (λ (L : List LaneEvent). stamps_of k (history L))
stamps_of-left k = record {
  opened = λ d v rows K. refl;
  sent = λ n v d to body K. refl;
  delivered = λ n r K. refl;
  returned = λ n K. refl;
  decided = λ d v x K. refl;
}

pub stamps_of-stays : (d v : ℕ) (J K : List LaneEvent) → AreUpkeep d v J K → (k : ℕ) → stamps_of k (history K) ≡ stamps_of k (history J)
stamps_of-stays d v J K h k = same (λ (L : List LaneEvent). stamps_of k (history L)) (stamps_of-left k) d v J K h

before_line-left : (k : ℕ) → Leaves (λ (L : List LaneEvent). before_line k (history L))
before_line-left k = record {
  opened = λ d v rows K. refl;
  sent = λ n v d to body K. refl;
  delivered = λ n r K. refl;
  returned = λ n K. refl;
  decided = λ d v x K. refl;
}

pub before_line-stays : (d v : ℕ) (J K : List LaneEvent) → AreUpkeep d v J K → (k : ℕ) → before_line k (history K) ≡ before_line k (history J)
before_line-stays d v J K h k = same (λ (L : List LaneEvent). before_line k (history L)) (before_line-left k) d v J K h

entry-left : (s : Stamp) → Leaves (λ (L : List LaneEvent). entry_at s L)
entry-left s = record {
  opened = λ d v rows K. refl;
  sent = λ n v d to body K. refl;
  delivered = λ n r K. refl;
  returned = λ n K. refl;
  decided = λ d v x K. refl;
}

pub entry-stays : (d v : ℕ) (J K : List LaneEvent) → AreUpkeep d v J K → (s : Stamp) → entry_at s K ≡ entry_at s J
entry-stays d v J K h s = same (λ (L : List LaneEvent). entry_at s L) (entry-left s) d v J K h

published-left : (w : ℕ) → Leaves (λ (L : List LaneEvent). published w (history L))
published-left w = record {
  opened = λ d v rows K. refl;
  sent = λ n v d to body K. refl;
  delivered = λ n r K. refl;
  returned = λ n K. refl;
  decided = λ d v x K. refl;
}

pub published-stays : (d v : ℕ) (J K : List LaneEvent) → AreUpkeep d v J K → (w : ℕ) → published w (history K) ≡ published w (history J)
published-stays d v J K h w = same (λ (L : List LaneEvent). published w (history L)) (published-left w) d v J K h

known-left : (w n : ℕ) → Leaves (λ (L : List LaneEvent). known w n (history L))
known-left w n = record {
  opened = λ d v rows K. refl;
  sent = λ n v d to body K. refl;
  delivered = λ n r K. refl;
  returned = λ n K. refl;
  decided = λ d v x K. refl;
}

pub known-stays : (d v : ℕ) (J K : List LaneEvent) → AreUpkeep d v J K → (w n : ℕ) → known w n (history K) ≡ known w n (history J)
known-stays d v J K h w n = same (λ (L : List LaneEvent). known w n (history L)) (known-left w n) d v J K h

states-left : Leaves (λ (L : List LaneEvent). published_states L)
states-left = record {
  opened = λ d v rows K. refl;
  sent = λ n v d to body K. refl;
  delivered = λ n r K. refl;
  returned = λ n K. refl;
  decided = λ d v x K. refl;
}

pub states-stays : (d v : ℕ) (J K : List LaneEvent) → AreUpkeep d v J K → published_states K ≡ published_states J
states-stays d v J K h = same (λ (L : List LaneEvent). published_states L) states-left d v J K h

state-left : (w : ℕ) → Leaves (λ (L : List LaneEvent). state_in w L)
state-left w = record {
  opened = λ d v rows K. refl;
  sent = λ n v d to body K. refl;
  delivered = λ n r K. refl;
  returned = λ n K. refl;
  decided = λ d v x K. refl;
}

pub state-stays : (d v : ℕ) (J K : List LaneEvent) → AreUpkeep d v J K → (w : ℕ) → state_in w K ≡ state_in w J
state-stays d v J K h w = same (λ (L : List LaneEvent). state_in w L) (state-left w) d v J K h

held-left : (n : ℕ) → Leaves (λ (L : List LaneEvent). held n (history L))
held-left n = record {
  opened = λ d v rows K. refl;
  sent = λ n v d to body K. refl;
  delivered = λ n r K. refl;
  returned = λ n K. refl;
  decided = λ d v x K. refl;
}

pub held-stays : (d v : ℕ) (J K : List LaneEvent) → AreUpkeep d v J K → (n : ℕ) → held n (history K) ≡ held n (history J)
held-stays d v J K h n = same (λ (L : List LaneEvent). held n (history L)) (held-left n) d v J K h

stopped-left : (n : ℕ) → Leaves (λ (L : List LaneEvent). stopped n (history L))
stopped-left n = record {
  opened = λ d v rows K. refl;
  sent = λ n v d to body K. refl;
  delivered = λ n r K. refl;
  returned = λ n K. refl;
  decided = λ d v x K. refl;
}

pub stopped-stays : (d v : ℕ) (J K : List LaneEvent) → AreUpkeep d v J K → (n : ℕ) → stopped n (history K) ≡ stopped n (history J)
stopped-stays d v J K h n = same (λ (L : List LaneEvent). stopped n (history L)) (stopped-left n) d v J K h
