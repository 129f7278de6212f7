use Rattle.lane_journals.specs.Meanings.{history}
use Rattle.undisturbed_spans.proofs.Rounding.{begins, asked, told}
use Rattle.undisturbed_spans.proofs.Uniting.{unites}
use Rattle.undisturbed_spans.proofs.rounds.undisturbed_rounds_go_on.Goals as goal

pub returns : goal.returns
returns c = record {
  begins = begins;
  asked = λ d J K L old now next v number b U k m h x e s. asked d J K L old now next v number b U k m h x e s;
  told = λ d J K L old now next v number b U k m u h x e alike s. told d J K L old now next v number b U k m h x u e alike s;
  unites = λ d J K old now v number b U readers did u h union all few answered. unites v number (history K) b old readers did u h.given union all few answered;
}
