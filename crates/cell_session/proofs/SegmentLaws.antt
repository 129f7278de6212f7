-- The lines of a segment, one after the other.
use Rattle.std.proofs.Common.{◌≡◌, ℕ, ◌+◌, ◌≤◌, Bool, false, List, [], ◌∷◌, ◌++◌, Option, None, Some, inl, inr, refl, sym, ap, ◌∙◌, subst, arith, length, append_assoc, append-nil, length-append}
use Rattle.std.proofs.lemmas.Bool.{cases_lt}
use Rattle.std.specs.List.{count_by}
use Rattle.doc_types.specs.SchemaCodes.{Types}
use Rattle.io_ends.specs.Causes.{HasRisen}
use Rattle.io_ends.specs.Reading.{Reading, StandsIn}
use Rattle.session_cluster.specs.declared.asked.Asked.{Asked}
use Rattle.session_cluster.specs.declared.asked.Asked.TheVariants as command
use Rattle.session_segments.specs.Parts.{cuts, AreStill, AreOwn}
use Rattle.cell_session.specs.Counting.{is_state, is_maintain}
use Rattle.cell_session.specs.Ends.{IfTold}
use Rattle.cell_session.specs.Limits.{most_lines, most_bytes, most_states, most_maintains}
use Rattle.cell_session.specs.Reads.{Shows, TakesLine, IsReadEnd}
use Rattle.cell_session.specs.SegmentReads.{ReadsOn}
use Rattle.cell_session.specs.SoFar.{IsBehind}
use Rattle.cell_session.specs.declared.next_command.Step.TheVariants as step
use Rattle.cell_session.specs.declared.status.Status.{Status}
use Rattle.cell_session.specs.declared.status.Status.TheVariants as status
use Rattle.cell_session.proofs.Loops.{one_if, kind_push, told_more}

-- ---- a line that ends no segment

-- is read as no state, and as no upkeep
pub not_state : (c : Asked) → cuts c ≡ false → is_state c ≡ false
not_state (command.State state deaf) still = cc still
not_state (command.BadState offset) still = cc still
not_state _ still = refl

pub not_maintain : (c : Asked) → cuts c ≡ false → is_maintain c ≡ false
not_maintain command.Maintain still = cc still
not_maintain _ still = refl

pub not_counted : (of_kind : Asked → Bool) (cs : List Asked) (c : Asked) → of_kind c ≡ false → count_by of_kind (cs ++ c ∷ []) ≡ count_by of_kind cs
not_counted of_kind cs c none = kind_push of_kind cs c ∙ ap (λ t. count_by of_kind cs + (0 + one_if t)) none ∙ omega arith

-- ---- the reader goes on

told_still : (types : Types) (bits : ℕ) (text : Option (List ℕ)) (reader reader' : Reading) (left left' : Option (List ℕ)) (cs : List Asked) (number : ℕ) (c : Asked)
    → IfTold text (IsBehind types bits reader left cs) → length cs ≡ reader.lines → reader.max_lines ≡ most_lines → reader.max_bytes ≡ most_bytes
    → ((t : List ℕ) → StandsIn t reader left → Shows types bits t reader (step.Command number c))
    → ((t : List ℕ) → StandsIn t reader left → StandsIn t reader' left')
    → cuts c ≡ false → IfTold text (IsBehind types bits reader' left' (cs ++ c ∷ []))
told_still types bits None reader reader' left left' cs number c told count lines bytes shows stands still = tt
told_still types bits (Some text) reader reader' left left' cs number c told count lines bytes shows stands still =
    told_more types bits (Some text) reader reader' left left' cs number c told count lines bytes shows stands
    (subst (λ n. n ≤ most_states) (sym (not_counted is_state cs c (not_state c still))) (told.0).few_states)
    (subst (λ n. n ≤ most_maintains) (sym (not_counted is_maintain cs c (not_maintain c still))) (told.0).few_maintains)

on_nothing : (types : Types) (bits : ℕ) (reader : Reading) (left : Option (List ℕ)) → ReadsOn types bits reader reader left left []
on_nothing types bits reader left = record {
  grows = record { lines = omega arith; max_lines = refl; max_bytes = refl };
  few = λ few. few;
  behind = λ text earlier count lines bytes told. subst (λ cs. IfTold text (IsBehind types bits reader left cs)) (sym (append-nil earlier)) told;
}

pub on_none : (types : Types) (bits : ℕ) (reader : Reading) (left : Option (List ℕ)) (cs : List Asked) → cs ≡ [] → ReadsOn types bits reader reader left left cs × AreStill cs × AreOwn bits cs
on_none types bits reader left cs none = subst (λ ds. ReadsOn types bits reader reader left left ds × AreStill ds × AreOwn bits ds) (sym none) (on_nothing types bits reader left, tt, tt)

pub on_more : (types : Types) (bits : ℕ) (old reader reader' : Reading) (first left left' : Option (List ℕ)) (cs : List Asked) (number : ℕ) (c : Asked) → ReadsOn types bits old reader first left cs
    → TakesLine reader reader' number
    → ((t : List ℕ) → StandsIn t reader left → Shows types bits t reader (step.Command number c))
    → ((t : List ℕ) → StandsIn t reader left → StandsIn t reader' left')
    → cuts c ≡ false → ReadsOn types bits old reader' first left' (cs ++ c ∷ [])
on_more types bits old reader reader' first left left' cs number c on takes shows stands still =
    let was = on.grows in
    let more = takes.grows in
    record {
      grows = record {
        lines = omega (arith, more.lines, was.lines, length-append cs (c ∷ []));
        max_lines = more.max_lines ∙ was.max_lines;
        max_bytes = more.max_bytes ∙ was.max_bytes;
      };
      few = λ few. takes.few;
      behind = λ text earlier count lines bytes told.
          subst (λ ds. IfTold text (IsBehind types bits reader' left' ds)) (append_assoc earlier cs (c ∷ []))
          (told_still types bits text reader reader' left left' (earlier ++ cs) number c (on.behind text earlier count lines bytes told)
          (omega (arith, length-append earlier cs, count, was.lines)) (was.max_lines ∙ lines) (was.max_bytes ∙ bytes) shows stands still);
    }

-- ---- faults

-- a count that rose since a moment rose since an earlier one
pub risen_before : (last : Option ℕ) (a b c : ℕ) → a ≤ b → HasRisen last b c → HasRisen last a c
risen_before last a b c low (inl more) = inl (omega (arith, low, more))
risen_before last a b c low (inr full) = elim (cases_lt a b) [
  | inl less ↦ inl (omega (arith, less, full.1))
  | inr same ↦ let is : b ≡ a = omega (arith, low, same) in inr (full.0 ∙ ap Some is, full.1 ∙ is)
]

pub end_before : (end : Status) (last : Option ℕ) (a b c : ℕ) → a ≤ b → IsReadEnd end last b c → IsReadEnd end last a c
end_before status.Done last a b c low may = tt
end_before (status.Limit which) last a b c low may = tt
end_before status.ReadFault last a b c low may = risen_before last a b c low may
end_before status.NoMemory last a b c low may = tt
end_before status.Usage last a b c low may = absurd may
end_before status.WriteFault last a b c low may = absurd may
