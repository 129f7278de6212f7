use Rattle.lane_journals.specs.Readers.{round_of}
use Rattle.lane_journals.specs.Meanings.{history}
use Rattle.lane_keeping.specs.LaneKeeping.{setting_of}
use Rattle.round_keeping.proofs.Waiting.{knows-sent, knows-delivered, knows-returned, awaited-delivered, answers-delivered}
use Rattle.round_keeping.proofs.laws.rounds_wait.Goals as goal

pub returns : goal.returns
returns c = record {
  delivered = λ lane rules J newest last nodes parts keep d s r act know k y. knows-delivered (setting_of lane rules) J keep.legal s r (round_of s.version r.row (history J)) lane d k y know;
  returned = λ lane rules J newest last nodes parts keep d s r act know k other. knows-returned (setting_of lane rules) J keep.legal s r (round_of s.version r.row (history J)) lane d k
      (λ x h v n b e. other x h v n) (λ x h v n u e. other x h v n) know;
  sent = λ lane rules J newest last nodes parts keep d s r act know k m other. knows-sent (setting_of lane rules) J keep.legal s r (round_of s.version r.row (history J)) lane d k m other know;
  awaited = λ lane rules J newest last nodes parts keep d s r act know number k m y a ne. awaited-delivered J r number k m y ne a;
  answers = λ lane rules J newest last nodes parts keep d s r act know k y. answers-delivered (setting_of lane rules) J keep.legal s r (round_of s.version r.row (history J)) k y know;
}
