-- The leftmost wrong part of a text that is no id: those before it are right, and what is wrong with it. 58 is the colon.
use Rattle.std.specs.Prelude.{◌≡◌, ◌≢◌, ◌⊎◌, ℕ, ◌<◌, Bool, true, false, not, List, [], ◌∷◌, ◌++◌, length, codes, Option, count_by}
use Rattle.std.specs.List.{list_all}
use Rattle.std.specs.Char.{is_control}
use Rattle.std.specs.Str.{chars}
use Rattle.document_ids.specs.Grammar.{is_name, IsName, IsNumber, IsPairs}
use Rattle.document_ids.specs.Parts.{is_colon}
use Rattle.document_ids.specs.declared.fault.IdFault.{IdFault}
use Rattle.document_ids.specs.declared.fault.IdFault.TheVariants as id_fault

-- no colon is among these bytes
abbrev pub is_clear : List ℕ → Bool
is_clear text = list_all (λ b. not (is_colon b)) text

-- the rest of a text begins with this part and its closing colon, and goes on so
pub record BeginsWith (rest part behind : List ℕ) : Type 0 where
  pub spelling : rest ≡ part ++ 58 ∷ behind
  pub clear : is_clear part ≡ true

-- the rest of the text behind each right part
abbrev pub IsBehindScheme : List ℕ → List ℕ → Type 0
IsBehindScheme text rest = text ≡ codes "id:" ++ rest

abbrev pub IsBehindNamespace : List ℕ → List ℕ → Type 0
IsBehindNamespace text rest = (name : List ℕ) × (IsBehindScheme text (name ++ 58 ∷ rest) × IsName name)

abbrev pub IsBehindType : List ℕ → List ℕ → Type 0
IsBehindType text rest = (name : List ℕ) × (IsBehindNamespace text (name ++ 58 ∷ rest) × IsName name)

abbrev pub IsBehindPairs : List ℕ → List ℕ → Type 0
IsBehindPairs text rest = (pairs : List ℕ) × (IsBehindType text (pairs ++ 58 ∷ rest) × ((number : Option ℕ) × ((group : Option (List ℕ)) × IsPairs pairs number group)))

-- the part lacks its closing colon, or is no name, of whatever length
abbrev pub IsNoName : List ℕ → Type 0
IsNoName rest = (part behind : List ℕ) → BeginsWith rest part behind → is_name part ≡ false

-- a name in front that is too long
pub record IsLongName (rest : List ℕ) : Type 0 where
  pub part : List ℕ
  pub behind : List ℕ
  pub begins : BeginsWith rest part behind
  pub name : is_name part ≡ true
  pub long : 64 < length part

-- the third part isn't empty, and neither a number nor a group stands behind its sign
pub record IsNoPair (part : List ℕ) : Type 0 where
  pub some : part ≢ []
  pub number : (digits : List ℕ) → part ≢ codes "n=" ++ digits
  pub group : (group : List ℕ) → part ≡ codes "g=" ++ group → is_name group ≡ false

-- the third part lacks its closing colon, or is no pair
abbrev pub AreNoPairs : List ℕ → Type 0
AreNoPairs rest = (part behind : List ℕ) → BeginsWith rest part behind → IsNoPair part

-- the third part is `n=` and no number
pub record IsNoNumber (rest : List ℕ) : Type 0 where
  pub digits : List ℕ
  pub behind : List ℕ
  pub begins : BeginsWith rest (codes "n=" ++ digits) behind
  pub wrong : (number : ℕ) → IsNumber digits number → ⊥

-- the third part is `g=` and a group that is too long
pub record IsLongGroup (rest : List ℕ) : Type 0 where
  pub group : List ℕ
  pub behind : List ℕ
  pub begins : BeginsWith rest (codes "g=" ++ group) behind
  pub name : is_name group ≡ true
  pub long : 64 < length group

-- the last part is empty, or has a control character
abbrev pub IsNoUser : List ℕ → Type 0
IsNoUser user = (user ≡ []) ⊎ (0 < count_by is_control (chars user))

-- the last part is too long
pub record IsLongUser (user : List ℕ) : Type 0 where
  pub clear : count_by is_control (chars user) ≡ 0
  pub long : 1024 < length user

-- the part of this number is wrong, and those before it are right
abbrev pub HasBadPart : List ℕ → ℕ → Type 0
HasBadPart text part =
    ((part ≡ 1) × ((rest : List ℕ) × (IsBehindScheme text rest × IsNoName rest)))
    ⊎ ((part ≡ 2) × ((rest : List ℕ) × (IsBehindNamespace text rest × IsNoName rest)))
    ⊎ ((part ≡ 3) × ((rest : List ℕ) × (IsBehindType text rest × AreNoPairs rest)))
    ⊎ ((part ≡ 4) × ((rest : List ℕ) × (IsBehindPairs text rest × IsNoUser rest)))

-- the part of this number is too long, and those before it are right
abbrev pub HasLongPart : List ℕ → ℕ → Type 0
HasLongPart text part =
    ((part ≡ 1) × ((rest : List ℕ) × (IsBehindScheme text rest × IsLongName rest)))
    ⊎ ((part ≡ 2) × ((rest : List ℕ) × (IsBehindNamespace text rest × IsLongName rest)))
    ⊎ ((part ≡ 3) × ((rest : List ℕ) × (IsBehindType text rest × IsLongGroup rest)))
    ⊎ ((part ≡ 4) × ((rest : List ℕ) × (IsBehindPairs text rest × IsLongUser rest)))

-- the leftmost fault of a text
abbrev pub HasFault : List ℕ → IdFault → Type 0
HasFault text id_fault.BadScheme = (rest : List ℕ) → text ≢ codes "id:" ++ rest
HasFault text (id_fault.BadPart part) = HasBadPart text part
HasFault text id_fault.BadNumber = (rest : List ℕ) × (IsBehindType text rest × IsNoNumber rest)
HasFault text (id_fault.TooLong part) = HasLongPart text part
HasFault text id_fault.NoMemory = ⊥
