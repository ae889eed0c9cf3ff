-- An image of a program is laid out as harts need it.
use Rattle.std.proofs.Common.{◌≡◌, ℕ, zero, suc, ◌+◌, ◌<◌, ◌^◌, Bool, true, false, ◌||◌, if◌then◌else◌, List, [], ◌∷◌, ◌++◌, length, map, slice_get, slice_index, Option, Some, None, refl, ap, ◌∙◌, arith, subst}
use Rattle.std.specs.List.{list_any}
use Rattle.std.specs.Prelude.{All}
use Rattle.al_base.specs.declared.arith.Op.{Op as Arith}
use Rattle.al_base.specs.declared.arith.Op.TheVariants as arith
use Rattle.al_ir.specs.Bounds.{IsBounded}
use Rattle.al_ir.specs.declared.ir.Function.{Function}
use Rattle.al_ir.specs.declared.ir.Ir.{Ir}
use Rattle.al_ir.specs.declared.ir.Operation.{Operation}
use Rattle.al_ir.specs.declared.op.Op.TheVariants.{Long}
use Rattle.al_ir.specs.Control.{function_at, arguments_of, operation_at, code_of as operations_of}
use Rattle.rv_isa.specs.declared.image.Contents.{Contents}
use Rattle.rv_long.specs.declared.op.LongOp.{LongOp}
use Rattle.rv_long.specs.declared.op.LongOp.TheVariants.{Div, DivU, Rem, RemU}
use Rattle.rv_code.specs.Runs.{Stands}
use Rattle.rv_code.proofs.Leading.{stands_front, stands_back}
use Rattle.rv_form.specs.Layout.{Layout}
use Rattle.rv_form.specs.Longs.{division_of, routine_code}
use Rattle.rv_form.specs.Program.{Homes, IsImageOf, layout_of, slots_of, all_divisions, division_number, is_division, divides_by, uses, routine_if_used, routines_from, routines_code, places_from, dispatchers_code, dispatchers_place, class_arguments_of, runs_or_none, end_code}
use Rattle.rv_regs.specs.Homes.{AreHomes}
use Rattle.rv_alike.specs.LaidOut.{IsLaidOut, class_words}
use Rattle.rv_laid.proofs.Laying.{ended, laid_is}
use Rattle.rv_laid.proofs.Beginning.{begins_are}
use Rattle.rv_laid.proofs.Heading.{ending, no_line, dispatches, dispatchers_low, rows, words, head_stands}

any_is : {X : Type 0} (P : X → Bool) (xs : List X) (k : ℕ) (x : X) → slice_get xs k ≡ Some x → P x ≡ true → list_any P xs ≡ true
any_is P [] k x e q = absurd (cc)
any_is P (y ∷ xs) zero x e q = let same : y ≡ x = cc in ap (λ (b : Bool). b || list_any P xs) (ap P same ∙ q)
any_is P (y ∷ xs) (suc k) x e q = on (P y) (any_is P xs k x e q) where
  on : (b : Bool) → list_any P xs ≡ true → (b || list_any P xs) ≡ true
  on true r = refl
  on false r = r

-- the divisions that operations are
abbrev IsDivision : Option LongOp → LongOp → Type 0
IsDivision o d = (slice_get all_divisions (division_number d) ≡ Some d) × (is_division d o ≡ true)

divides : (k : Arith) (s : Bool) (d : LongOp) → division_of k s ≡ Some d → IsDivision (division_of k s) d
divides arith.Div true d e = let same : Div ≡ d = cc in subst (IsDivision (Some Div)) same (refl, refl)
divides arith.Div false d e = let same : DivU ≡ d = cc in subst (IsDivision (Some DivU)) same (refl, refl)
divides arith.Rem true d e = let same : Rem ≡ d = cc in subst (IsDivision (Some Rem)) same (refl, refl)
divides arith.Rem false d e = let same : RemU ≡ d = cc in subst (IsDivision (Some RemU)) same (refl, refl)
divides arith.Add s d e = absurd (cc)
divides arith.Sub s d e = absurd (cc)
divides arith.Mul s d e = absurd (cc)
divides arith.And s d e = absurd (cc)
divides arith.Or s d e = absurd (cc)
divides arith.Xor s d e = absurd (cc)
divides arith.Shl s d e = absurd (cc)
divides arith.Shr s d e = absurd (cc)
divides arith.Lt s d e = absurd (cc)
divides arith.Le s d e = absurd (cc)
divides arith.Eq s d e = absurd (cc)
divides arith.Ne s d e = absurd (cc)

class_words_are : (ir : Ir) (o : Option (List ℕ)) (fs : List ℕ) → o ≡ Some fs → class_arguments_of ir o ≡ class_words ir fs
class_words_are ir (Some []) fs e = let same : [] ≡ fs = cc in ap (class_words ir) same
class_words_are ir (Some (g ∷ gs)) fs e = let same : g ∷ gs ≡ fs = cc in ap (class_words ir) same
class_words_are ir None fs e = absurd (cc)

module _ (homes : Homes) (ir : Ir) (image : Contents) (is : IsImageOf homes ir image) where
  abbrev l : Layout
  l = ended homes ir

  routine_at : (at : ℕ) (ds : List LongOp) (k : ℕ) (d : LongOp) → slice_get ds k ≡ Some d → Stands image.code at (routines_from ir ds)
      → Stands image.code (slice_index (places_from at (map (λ x. length (routine_if_used ir x)) ds)) k) (routine_if_used ir d)
  routine_at at [] k d e has = absurd (cc)
  routine_at at (x ∷ ds) zero d e has =
      let same : x ≡ d = cc in
      subst (λ (y : LongOp). Stands image.code at (routine_if_used ir y)) same (stands_front image.code at (routine_if_used ir x) (routines_from ir ds) has)
  routine_at at (x ∷ ds) (suc k) d e has = routine_at (at + length (routine_if_used ir x)) ds k d e (stands_back image.code at (routine_if_used ir x) (routines_from ir ds) has)

  routines_stand : Stands image.code 2 (routines_code ir)
  routines_stand = stands_front image.code 2 (routines_code ir) (dispatchers_code (layout_of homes ir) (dispatchers_place ir) ir.classes)
      (stands_back image.code 0 end_code (routines_code ir ++ dispatchers_code (layout_of homes ir) (dispatchers_place ir) ir.classes) (head_stands homes ir image is))

  routines : (f pc : ℕ) (o : Operation) (op : Arith) (signed : Bool) (to a b : ℕ) (d : LongOp) → operation_at ir f pc ≡ Some o → o.op ≡ Long op signed to a b
      → division_of op signed ≡ Some d → Stands image.code (l.routine d) (routine_code d)
  routines f pc o k signed to a b d at e is_d = on (function_at ir f) refl at where
    has : IsDivision (division_of k signed) d
    has = divides k signed d is_d

    divided : divides_by d o.op ≡ true
    divided = ap (divides_by d) e ∙ has.1

    on : (x : Option Function) → function_at ir f ≡ x → slice_get (operations_of x) pc ≡ Some o → Stands image.code (l.routine d) (routine_code d)
    on (Some g) q r =
        let used : uses ir d ≡ true = any_is (λ (f : Function). list_any (λ (o : Operation). divides_by d o.op) f.code) ir.functions f g q (any_is (λ (o : Operation). divides_by d o.op) g.code pc o r divided) in
        let code : routine_if_used ir d ≡ routine_code d = ap (λ (y : Bool). if y then routine_code d else []) used in
        subst (Stands image.code (l.routine d)) code (routine_at 2 all_divisions (division_number d) d has.0 routines_stand)
    on None q r = absurd (cc)

  -- Two premises are of the program and its homes: functions that are called through one pointer take equally many words, and homes
  -- of all functions are as `AreHomes` says.
  pub is_laid_out : IsBounded ir → length image.code < 2 ^ 23 → (are : (f : ℕ) → AreHomes ir f (homes f))
      → ((class : ℕ) (fs : List ℕ) → slice_get ir.classes class ≡ Some fs → All (λ g. arguments_of (function_at ir g) ≡ class_words ir fs) fs) → IsLaidOut ir image l
  is_laid_out bounded small are equally = record {
    small = omega (arith, small);
    bounded = bounded;
    homes = are;
    laid = laid_is homes ir image is bounded small;
    begins = begins_are homes ir image is bounded small are;
    rows = rows homes ir image is;
    words = words homes ir image is;
    routines = routines;
    ending = ending homes ir image is;
    no_line = no_line homes ir image is;
    privates = is.privates;
    stack = λ f. refl;
    slots = λ f g e. ap slots_of e;
    arguments = λ f. refl;
    runs = λ n runs e. ap runs_or_none e;
    dispatches = dispatches homes ir image is;
    dispatchers_low = dispatchers_low homes ir image is small;
    class_arguments = λ class fs e. class_words_are ir (slice_get ir.classes class) fs e;
    equally = equally;
  }
