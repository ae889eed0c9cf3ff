-- The functions of a class are those that pointers of its type name.
use Rattle.std.proofs.Common.{◌≡◌, ℕ, suc, ◌+◌, ◌<◌, List, [], ◌∷◌, Option, Some, None, refl, sym, ap, ap₂, ◌∙◌, ◌⊎◌, inl, inr, arith}
use Rattle.std.specs.Prelude.{◌==◌, Bool, true, false, if◌then◌else◌, slice_get}
use Rattle.std.proofs.lemmas.Grind.{common_steps}
use Rattle.al_typed.specs.declared.ty.Ty.{Ty}
use Rattle.al_typed.specs.declared.program.Function.{Function as FunctionRow}
use Rattle.al_typed.specs.declared.program.Program.{Program}
use Rattle.al_typed.specs.Typed.{function_type}
use Rattle.al_typed.specs.Alike.{are_alike}
use Rattle.al_meaning.specs.Places.{function_address}
use Rattle.al_meaning.specs.Calls.{has_type, named_by}
use Rattle.al_ir.specs.declared.ir.Ir.{Ir}
use Rattle.al_ir.specs.Step.{named_in, class_of}
use Rattle.al_lower_code.specs.Classes.{first_of_type, all_of_type, class_number, class_at, classes_from, classes}
use Rattle.al_lower_pointers.proofs.Alike.{alike_same}

-- ---- one type

-- no function further on has the address of one before it
none_behind : (t : Ty) (v start : ℕ) (fs : List FunctionRow) → v < function_address start → named_by t v start fs ≡ None
none_behind t v start [] lt = refl
none_behind t v start (f ∷ fs) lt =
    let other : (function_address start == v) ≡ false = grind (arith, common_steps, lt) in
    ap (λ b. if b then (if has_type t f.around f then Some start else None) else named_by t v (start + 1) fs) other
    ∙ none_behind t v (start + 1) fs (omega (arith, lt))

-- those of a type are searched as all are
pub named_is : (t : Ty) (v start : ℕ) (fs : List FunctionRow) → named_in v (all_of_type t start fs) ≡ named_by t v start fs
named_is t v start [] = refl
named_is t v start (f ∷ fs) = on (named_is t v (start + 1) fs) (has_type t f.around f)
  where
    past : (b : Bool) → (function_address start == v) ≡ b → named_by t v (start + 1) fs ≡ (if b then None else named_by t v (start + 1) fs)
    past true e = none_behind t v (start + 1) fs (grind (arith, common_steps, e))
    past false e = refl

    on : named_in v (all_of_type t (start + 1) fs) ≡ named_by t v (start + 1) fs → (b : Bool) → named_in v (if b then start ∷ all_of_type t (start + 1) fs else all_of_type t (start + 1) fs) ≡ (if function_address start == v then (if b then Some start else None) else named_by t v (start + 1) fs)
    on rest true = ap (λ o. if function_address start == v then Some start else o) rest
    on rest false = rest ∙ past (function_address start == v) refl

-- the function that a value names has that type
pub record Named (t : Ty) (start number : ℕ) (fs : List FunctionRow) : Type 0 where
  pub index : ℕ
  pub is : number ≡ start + index
  pub function : FunctionRow
  pub there : slice_get fs index ≡ Some function
  pub typed : has_type t function.around function ≡ true

pub named_has_type : (t : Ty) (v start number : ℕ) (fs : List FunctionRow) → named_by t v start fs ≡ Some number → Named t start number fs
named_has_type t v start number [] e = absurd (cc)
named_has_type t v start number (f ∷ fs) e = on (named_has_type t v (start + 1) number fs) (function_address start == v) (has_type t f.around f) refl e
  where
    on : (named_by t v (start + 1) fs ≡ Some number → Named t (start + 1) number fs) → (b c : Bool) → has_type t f.around f ≡ c → (if b then (if c then Some start else None) else named_by t v (start + 1) fs) ≡ Some number → Named t start number (f ∷ fs)
    on rest true true h q = let same : start ≡ number = cc in record { index = 0; is = omega (arith, same); function = f; there = refl; typed = h }
    on rest true false h q = absurd (cc)
    on rest false c h q =
        let r = rest q in
        let is = r.is in
        record { index = suc r.index; is = omega (arith, is); function = r.function; there = r.there; typed = r.typed }

-- ---- types that are the same

abbrev pub HaveSame : Ty → Ty → Type 0
HaveSame t u = (around : List ℕ) (f : FunctionRow) → has_type t around f ≡ has_type u around f

alike_have_same : (t u : Ty) → are_alike t u ≡ true → HaveSame t u
alike_have_same t u e [] f = alike_same t u e (function_type f)
alike_have_same t u e (n ∷ around) f = refl

first_same : (t u : Ty) → HaveSame t u → (start : ℕ) (fs : List FunctionRow) → first_of_type t start fs ≡ first_of_type u start fs
first_same t u h start [] = refl
first_same t u h start (f ∷ fs) = ap₂ (λ b n. if b then start else n) (h f.around f) (first_same t u h (start + 1) fs)

all_same : (t u : Ty) → HaveSame t u → (start : ℕ) (fs : List FunctionRow) → all_of_type t start fs ≡ all_of_type u start fs
all_same t u h start [] = refl
all_same t u h start (f ∷ fs) = ap₂ (λ b ns. if b then start ∷ ns else ns) (h f.around f) (all_same t u h (start + 1) fs)

own_alike : (t : Ty) (around : List ℕ) (f : FunctionRow) → has_type t around f ≡ true → are_alike t (function_type f) ≡ true
own_alike t [] f e = e
own_alike t (n ∷ around) f e = absurd (cc)

-- ---- the class of a type

-- the first function of a type among these, or the place behind them
record First (p : Program) (t : Ty) (start : ℕ) (fs : List FunctionRow) : Type 0 where
  index : ℕ
  is : first_of_type t start fs ≡ start + index
  found : ((slice_get (classes_from p start fs) index ≡ Some []) × (all_of_type t start fs ≡ [])) ⊎ ((f : FunctionRow) × ((has_type t f.around f ≡ true) × (slice_get (classes_from p start fs) index ≡ Some (class_at p (start + index) f))))

first : (p : Program) (t : Ty) (start : ℕ) (fs : List FunctionRow) → First p t start fs
first p t start [] = record { index = 0; is = omega arith; found = inl (refl, refl) }
first p t start (f ∷ fs) = on (first p t (start + 1) fs) (has_type t f.around f) refl
  where
    on : First p t (start + 1) fs → (b : Bool) → has_type t f.around f ≡ b → First p t start (f ∷ fs)
    on r true e =
        let z : start ≡ start + 0 = omega arith in
        record { index = 0; is = ap (λ b. if b then start else first_of_type t (start + 1) fs) e ∙ z; found = inr (f, (e, ap (λ n. Some (class_at p n f)) z)) }
    on r false e =
        let z : start + 1 + r.index ≡ start + suc r.index = omega arith in
        record {
          index = suc r.index;
          is = ap (λ b. if b then start else first_of_type t (start + 1) fs) e ∙ (r.is ∙ z);
          found = further r.index (start + suc r.index) r.found z;
        }
      where
        further : (i j : ℕ) → ((slice_get (classes_from p (start + 1) fs) i ≡ Some []) × (all_of_type t (start + 1) fs ≡ [])) ⊎ ((g : FunctionRow) × ((has_type t g.around g ≡ true) × (slice_get (classes_from p (start + 1) fs) i ≡ Some (class_at p (start + 1 + i) g)))) → start + 1 + i ≡ j → ((slice_get (classes_from p (start + 1) fs) i ≡ Some []) × (all_of_type t start (f ∷ fs) ≡ [])) ⊎ ((g : FunctionRow) × ((has_type t g.around g ≡ true) × (slice_get (classes_from p (start + 1) fs) i ≡ Some (class_at p j g))))
        further i j (inl x) z = inl (x.0, ap (λ b. if b then start ∷ all_of_type t (start + 1) fs else all_of_type t (start + 1) fs) e ∙ x.1)
        further i j (inr x) z = inr (x.0, (x.1.0, x.1.1 ∙ ap (λ n. Some (class_at p n x.0)) z))

class_is : (ir : Ir) (n : ℕ) (fs : List ℕ) → slice_get ir.classes n ≡ Some fs → class_of ir n ≡ fs
class_is ir n fs e = ap (λ (o : Option (List ℕ)). elim o [ Some fs ↦ fs | None ↦ [] ]) e

-- operations that have the program's classes find the functions of a type in its class
pub class_has : (p : Program) (ir : Ir) (t : Ty) → ir.classes ≡ classes p → class_of ir (class_number p t) ≡ all_of_type t 0 p.functions
class_has p ir t has = on (first p t 0 p.functions).found
  where
    r : First p t 0 p.functions
    r = first p t 0 p.functions

    number : class_number p t ≡ r.index
    number = let e = r.is in let z : 0 + r.index ≡ r.index = omega arith in e ∙ z

    at : (fs : List ℕ) → slice_get (classes_from p 0 p.functions) r.index ≡ Some fs → class_of ir (class_number p t) ≡ fs
    at fs e = class_is ir (class_number p t) fs (ap₂ (λ (cs : List (List ℕ)) n. slice_get cs n) has number ∙ e)

    on : ((slice_get (classes_from p 0 p.functions) r.index ≡ Some []) × (all_of_type t 0 p.functions ≡ [])) ⊎ ((f : FunctionRow) × ((has_type t f.around f ≡ true) × (slice_get (classes_from p 0 p.functions) r.index ≡ Some (class_at p (0 + r.index) f)))) → class_of ir (class_number p t) ≡ all_of_type t 0 p.functions
    on (inl x) = at [] x.0 ∙ sym x.1
    on (inr x) =
        let f = x.0 in
        let alike = alike_have_same t (function_type f) (own_alike t f.around f x.1.0) in
        let same : class_number p (function_type f) ≡ 0 + r.index = sym (first_same t (function_type f) alike 0 p.functions) ∙ r.is in
        let own : (class_number p (function_type f) == 0 + r.index) ≡ true = grind (arith, common_steps, same) in
        at (class_at p (0 + r.index) f) x.1.1 ∙ (ap (λ b. if b then all_of_type (function_type f) 0 p.functions else []) own ∙ sym (all_same t (function_type f) alike 0 p.functions))

pub class_names : (p : Program) (ir : Ir) (t : Ty) (v : ℕ) → ir.classes ≡ classes p → named_in v (class_of ir (class_number p t)) ≡ named_by t v 0 p.functions
class_names p ir t v has = ap (named_in v) (class_has p ir t has) ∙ named_is t v 0 p.functions
