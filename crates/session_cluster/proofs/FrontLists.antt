-- The fronts that were noted of lines.
use Rattle.std.proofs.Common.{◌≡◌, ◌≢◌, ℕ, List, [], ◌∷◌, ◌++◌, None, Some}
use Rattle.session_cluster.specs.Searches.{fronts_of}
use Rattle.session_cluster.specs.declared.searching.LineFronts.{LineFronts}
use Rattle.session_cluster.proofs.NotedLists.{noted_other, noted_own}

-- with those of one line more, another line has the same
pub fronts_other : (line : ℕ) (fs : List LineFronts) (f : LineFronts) → f.line ≢ line → fronts_of line (fs ++ f ∷ []) ≡ fronts_of line fs
fronts_other line fs f other = noted_other (λ (x : LineFronts). x.line) (λ (x : LineFronts). x.fronts) line fs f other

-- and that line has these, where it had none
pub fronts_own : (line : ℕ) (fs : List LineFronts) (f : LineFronts) → f.line ≡ line → fronts_of line fs ≡ None → fronts_of line (fs ++ f ∷ []) ≡ Some f.fronts
fronts_own line fs f own none = noted_own (λ (x : LineFronts). x.line) (λ (x : LineFronts). x.fronts) line fs f own none
