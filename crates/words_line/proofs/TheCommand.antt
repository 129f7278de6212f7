-- The command is one whose matches and refusals `clap` states.
use Rattle.std.proofs.Common.{◌≡◌, true, refl, [], inl, inr, subst}
use Rattle.clap.specs.Words.{HasKind, Kinds, is_simple, is_simple_and_free, kind_of}
use Rattle.clap.specs.Kinds.{IsAmong}
use Rattle.clap.specs.declared.error.Error.{Error}
use Rattle.clap.specs.declared.error.kind.ErrorKind.TheVariants as kind
use Rattle.clap.proofs.OnLiterals.{clap_on_literals}
use Rattle.words_line.specs.Command.{the_command}

pub command_is_simple : is_simple the_command ≡ true
unfolding clap_on_literals
command_is_simple = refl

pub command_is_free : is_simple_and_free the_command ≡ true
unfolding clap_on_literals
command_is_free = refl

-- an error for another cause than memory is among the kinds of refusal, so these aren't none
pub other_kind : (e : Error) (kinds : Kinds) → HasKind kinds e → (kind_of e ≡ kind.OutOfMemory → ⊥) → kinds ≡ [] → ⊥
other_kind e kinds has other none = elim has [
  | inl memory ↦ other memory
  | inr among ↦ subst (λ (ks : Kinds). IsAmong (kind_of e) ks) none among
]
