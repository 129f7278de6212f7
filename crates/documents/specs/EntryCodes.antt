-- That entries are data.
use Rattle.std.specs.Prelude.{ℕ, List, Option, refl}
use Rattle.std.specs.Coded.{Coded, code_by, coded×, coded_ℕ, coded_list, coded_option}
use Rattle.std.specs.Ordering.{nat_cmp}
use Rattle.std.specs.declared.cmp.Ordering.{Ordering}
use Rattle.std.specs.Cmp.Lexicographic.{slice_cmp}
use Rattle.stamps.specs.declared.stamp.Stamp.{Stamp}
use Rattle.documents.specs.Fields.{Contents, contents_code}
use Rattle.documents.specs.declared.entry.Entry.{Entry}

abbrev pub stamp_code : Coded Stamp
stamp_code = code_by (ℕ × ℕ) (coded× coded_ℕ coded_ℕ) (λ s. (s.version, s.count)) (λ p. record { version = p.0; count = p.1 }) (λ _. refl)

abbrev pub entry_code : Coded Entry
entry_code = code_by (Stamp × (List ℕ × Option Contents)) (coded× stamp_code (coded× (coded_list coded_ℕ) (coded_option contents_code)))
    (λ e. (e.stamp, (e.id, e.body))) (λ p. record { stamp = p.0; id = p.1.0; body = p.1.1 }) (λ _. refl)

-- ids in the order of their bytes
abbrev pub id_cmp : List ℕ → List ℕ → Ordering
id_cmp = slice_cmp nat_cmp
