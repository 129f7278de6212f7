-- That what queries say is data.
use Rattle.std.specs.Prelude.{ℕ, List, Option, refl}
use Rattle.std.specs.Coded.{Coded, code_by, coded×, coded_ℕ, coded_list, coded_option}
use Rattle.conditions.specs.Formulas.{Formula}
use Rattle.conditions.specs.Codes.{formula_code}
use Rattle.query_groups.specs.declared.groups.GroupBy.{GroupBy}
use Rattle.query_text.specs.declared.terms.Term.{Term}
use Rattle.query_text.specs.Grammar.{Said}

abbrev pub said_code : Coded Term → Coded GroupBy → Coded Said
said_code t g = code_by (List ℕ × (Formula Term × Option GroupBy)) (coded× (coded_list coded_ℕ) (coded× (formula_code t) (coded_option g)))
    (λ s. (s.type_name, (s.asked, s.group))) (λ p. record { type_name = p.0; asked = p.1.0; group = p.1.1 }) (λ _. refl)
