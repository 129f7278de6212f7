-- What each change makes of one value; what is absent, or of a kind that isn't taken, is 0 or an empty list.
use Rattle.std.specs.Prelude.{◌==◌, ◌++◌, ℕ, ℤ, pos, negsuc, ◌+ℤ◌, ◌-ℤ◌, ◌*ℤ◌, int_div, ◌^◌, Bool, false, List, [], length, Option, Some, None, Result, Ok, Err, nat_lt, if◌then◌else◌}
use Rattle.doc_types.specs.declared.values.FieldValue.{FieldValue}
use Rattle.doc_types.specs.declared.values.FieldValue.TheVariants.{Int, Text, Ints, Texts}
use Rattle.documents.specs.Kinds.{most_items}
use Rattle.doc_updates.specs.declared.change.Change.{Change}
use Rattle.doc_updates.specs.declared.change.Change.TheVariants.{Assign, Clear, Increment, Decrement, Multiply, Divide, AddNumbers, AddTexts}
use Rattle.doc_updates.specs.declared.fault.Reason.{Reason}
use Rattle.doc_updates.specs.declared.fault.Reason.TheVariants.{ZeroDivisor, Overflow, TooMany}

abbrev pub number_in : Option FieldValue → ℤ
number_in None = pos 0
number_in (Some (Int z)) = z
number_in (Some (Text t)) = pos 0
number_in (Some (Ints zs)) = pos 0
number_in (Some (Texts ts)) = pos 0

abbrev pub numbers_in : Option FieldValue → List ℤ
numbers_in None = []
numbers_in (Some (Int z)) = []
numbers_in (Some (Text t)) = []
numbers_in (Some (Ints zs)) = zs
numbers_in (Some (Texts ts)) = []

abbrev pub texts_in : Option FieldValue → List (List ℕ)
texts_in None = []
texts_in (Some (Int z)) = []
texts_in (Some (Text t)) = []
texts_in (Some (Ints zs)) = []
texts_in (Some (Texts ts)) = ts

-- from -2^63 to 2^63 - 1
abbrev pub is_long : ℤ → Bool
is_long (pos n) = nat_lt n (2 ^ 63)
is_long (negsuc n) = nat_lt n (2 ^ 63)

-- a number that was computed without bounds
abbrev pub fitted : ℤ → Result ℤ Reason
fitted z = if is_long z then Ok z else Err Overflow

abbrev pub is_zero : ℤ → Bool
is_zero (pos n) = n == 0
is_zero (negsuc n) = false

-- a quotient goes toward zero
abbrev pub quotient : ℤ → ℤ → Result ℤ Reason
quotient a b = if is_zero b then Err ZeroDivisor else fitted (int_div a b)

-- a list with items behind it
abbrev pub with_items : {X : Type 0} → List X → List X → Result (List X) Reason
with_items old items = if nat_lt most_items (length (old ++ items)) then Err TooMany else Ok (old ++ items)

-- a value that was made, as what the field has then
abbrev pub as_value : {X : Type 0} → (X → FieldValue) → Result X Reason → Result (Option FieldValue) Reason
as_value f (Ok x) = Ok (Some (f x))
as_value f (Err reason) = Err reason

abbrev pub changed : Change → Option FieldValue → Result (Option FieldValue) Reason
changed (Assign v) old = Ok (Some v)
changed Clear old = Ok None
changed (Increment by) old = as_value Int (fitted (number_in old +ℤ by))
changed (Decrement by) old = as_value Int (fitted (number_in old -ℤ by))
changed (Multiply by) old = as_value Int (fitted (number_in old *ℤ by))
changed (Divide by) old = as_value Int (quotient (number_in old) by)
changed (AddNumbers items) old = as_value Ints (with_items (numbers_in old) items)
changed (AddTexts items) old = as_value Texts (with_items (texts_in old) items)
