-- What a join onto no entry is.
use Rattle.std.proofs.Common.{◌≡◌, refl, sym, ap, ◌∙◌, None, Some}
use Rattle.std.specs.FinMap as fin
use Rattle.std.specs.FinMap.{empty_of_len, get-empty}
use Rattle.entry_maps.specs.EntryCodes.{Entries}
use Rattle.entry_maps.specs.Entries.{newer_of}
use Rattle.entry_maps.specs.Joins.{joined}
use Rattle.entry_maps.proofs.JoinLaws.{joined-alone}

newer_of_none : (o : _) → o ≡ newer_of None o
newer_of_none None = refl
newer_of_none (Some e) = refl

pub joined_onto_none : (m other : Entries) → fin.len m ≡ 0 → joined m other ≡ other
joined_onto_none m other none =
    ap (λ e. joined e other) (empty_of_len m none)
    ∙ sym (joined-alone fin.empty other other (λ q. newer_of_none (fin.get other q) ∙ ap (λ o. newer_of o (fin.get other q)) (sym (get-empty _ q))))
