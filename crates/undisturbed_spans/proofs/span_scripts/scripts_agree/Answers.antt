use Rattle.lane_journals.specs.Meanings.{history}
use Rattle.undisturbed_spans.proofs.Scripts.{agrees}
use Rattle.undisturbed_spans.proofs.span_scripts.scripts_agree.Goals as goal

pub returns : goal.returns
returns c = λ S J K legal h. agrees _ _ (history J) (history K) (c.kept_journals_mean_legal_ones.ensures S K legal) h
