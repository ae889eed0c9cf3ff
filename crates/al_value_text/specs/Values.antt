-- What the value of a variable is shown as.
use Rattle.std.specs.Prelude.{ℕ, ◌==◌, Bool, true, false, if◌then◌else◌, List, [], ◌∷◌, ◌++◌, map, take, drop, replicate, sum_by, Option, Some, None, slice_get, unwrap_or, decimal}
use Rattle.std.specs.Fmt.{signed_decimal}
use Rattle.al_base.specs.Arith.{width_of, integer_of}
use Rattle.al_base.specs.declared.arith.Kind.{Kind}
use Rattle.al_typed.specs.declared.program.Aggregate.{Aggregate}
use Rattle.al_typed.specs.declared.ty.Ty.{Ty}
use Rattle.al_typed.specs.declared.ty.Ty.TheOpen.{Ty-F}
use Rattle.al_typed.specs.TyFold.{fold_ty}
use Rattle.al_meaning.specs.Words.{bits_of}
use Rattle.al_value_text.specs.Numbers.{pointer}

-- how many words a value of a type has, and what they are shown as
pub record Shown : Type 0 where
  pub words : ℕ
  pub text : List ℕ → List ℕ

-- what stands before a part
abbrev pub before : (is_first : Bool) → List ℕ
before true = []
before false = 44 ∷ []

-- texts with a comma between them, the first of which may stand behind others
abbrev pub with_commas : (is_first : Bool) → List (List ℕ) → List ℕ
with_commas is_first [] = []
with_commas is_first (t ∷ ts) = before is_first ++ t ++ with_commas false ts

abbrev pub in_parentheses : List (List ℕ) → List ℕ
in_parentheses texts = 40 ∷ with_commas true texts ++ 41 ∷ []

-- each part by its own words
abbrev pub shown_parts : List Shown → List ℕ → List (List ℕ)
shown_parts [] words = []
shown_parts (s ∷ rest) words = s.text (take s.words words) ∷ shown_parts rest (drop s.words words)

-- a tuple, an array, an aggr or an adt: its parts in order
abbrev pub parts : List Shown → Shown
parts all = record { words = sum_by (λ (s : Shown). s.words) all; text = λ words. in_parentheses (shown_parts all words) }

abbrev pub integer : Kind → Shown
integer k = record { words = if width_of k == 64 then 2 else 1; text = λ words. signed_decimal (integer_of k (bits_of words)) }

abbrev pub address : Shown
address = record { words = 1; text = λ words. pointer (bits_of words) }

-- what has no values
abbrev pub nothing : Shown
nothing = record { words = 0; text = λ words. [] }

-- a union: its units, as unsigned numbers
abbrev pub of_units : ℕ → Shown
of_units n = record { words = n; text = λ words. in_parentheses (map decimal (take n words)) }

-- where the aggregates are shown so
abbrev pub shown_step : List Shown → Ty-F Shown → Shown
shown_step known Ty-F.Void = nothing
shown_step known (Ty-F.Integer k) = integer k
shown_step known (Ty-F.Pointer _) = address
shown_step known (Ty-F.Array element count) = parts (replicate count element)
shown_step known (Ty-F.Chan _ _) = address
shown_step known (Ty-F.Tuple members) = parts members
shown_step known (Ty-F.Aggregate number) = unwrap_or (slice_get known number) nothing
shown_step known (Ty-F.Function _ _) = nothing

unfoldable pub shown_of : List Shown → Ty → Shown
shown_of known = fold_ty (shown_step known)

abbrev pub members_shown : List Shown → Bool → ℕ → List Ty → Shown
members_shown known true units members = of_units units
members_shown known false units members = parts (map (shown_of known) members)

unfoldable pub aggregate_shown : List Shown → Aggregate → Shown
aggregate_shown known a = members_shown known a.is_union a.units (unwrap_or a.members [])

-- aggregates are shown by those before them
unfoldable pub shown_after : List Shown → List Aggregate → List Shown
shown_after known [] = known
shown_after known (a ∷ rest) = shown_after (known ++ aggregate_shown known a ∷ []) rest

-- values of a type
unfoldable pub shown_in : List Aggregate → Ty → Shown
shown_in rows t = shown_of (shown_after [] rows) t

-- a value of a type
abbrev pub shown : List Aggregate → Ty → List ℕ → List ℕ
shown rows t words = (shown_in rows t).text words

-- how many words it has
abbrev pub words_in : List Aggregate → Ty → ℕ
words_in rows t = (shown_in rows t).words
