use Rattle.undisturbed_spans.proofs.Coming.{scripted}
use Rattle.undisturbed_spans.proofs.span_scripts.undisturbed_spans_have_scripts.Goals as goal

pub returns : goal.returns
returns c = λ S e v given J K legal on quiet. scripted _ _ c.upkeep_goes_on.ensures.span e v given J K (c.kept_journals_mean_legal_ones.ensures S K legal) on quiet
