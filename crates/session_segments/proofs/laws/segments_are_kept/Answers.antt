use Rattle.session_segments.proofs.KeptParts.{ready_of_parts, kept_alone, kept_fed, kept_short}
use Rattle.session_segments.proofs.laws.segments_are_kept.Goals as goal

pub returns : goal.returns
returns c = record {
  together = kept_fed c.segments_serve.ensures;
  short = kept_short c.segments_serve.ensures;
  alone = kept_alone;
  ready = ready_of_parts;
}
