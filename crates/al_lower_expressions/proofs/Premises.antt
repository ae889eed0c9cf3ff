-- What the statement at hand, its function, the program and its operations have to give.
use Rattle.std.proofs.Common.{◌≡◌, ℕ, zero, suc, ◌^◌, ◌<◌, List, [], ◌∷◌, length, Some, refl, sym, ap, ◌∙◌, subst, arith}
use Rattle.std.specs.Prelude.{◌==◌, Bool, true, false, not, All, slice_get}
use Rattle.std.specs.List.{AllByRecursion}
use Rattle.std.proofs.lemmas.List.Elements.{recursion_from_All}
use Rattle.std.proofs.lemmas.Grind.{common_steps}
use Rattle.al_typed.specs.declared.program.Function.{Function as FunctionRow}
use Rattle.al_typed.specs.declared.program.Global.{Global as GlobalRow}
use Rattle.al_typed.specs.declared.program.Local.{Local as LocalRow}
use Rattle.al_typed.specs.declared.ty.Ty.{Ty}
use Rattle.al_typed.specs.declared.ty.Ty.TheViews.{out-Ty}
use denote.Hole.Carrier.{out}
use Rattle.al_typed.specs.declared.expression.TPlace.{TPlace, Local as LocalPlace, Global as GlobalPlace}
use Rattle.al_typed.specs.Types.{IsAggregate, is_array, may_be_private}
use Rattle.al_typed.specs.Typed.{place_type}
use Rattle.al_typed.specs.WellTyped.{Scope, names_in, HasAddress, IsPlace, IsLocalOf, IsGlobal, IsFunction, IsWellTyped, shared_types}
use Rattle.al_meaning.specs.Places.{function_at, locals_of, has_block, global_place, text_place, function_address}
use Rattle.al_lower_code.specs.Classes.{classes}
use Rattle.al_lower_claims.proofs.Privates.{NoArrayGlobals}
use Rattle.al_lower_claims.proofs.Claims.{Setting, stored, slotted, kept}
use Rattle.al_meaning.specs.Items.{Words, Address, Local, Private, Nowhere}
use Rattle.al_lower_values.proofs.Calls.{CallsDo}
use Rattle.al_lower_values.proofs.Loads.{HasAddresses}
use Rattle.al_lower_expressions.proofs.Types.{private_not_array}

-- ---- premises

-- The function at hand stands in a well-typed program, calls from it do what they mean, the operations have the program's classes,
-- and every address that a name stands for is a word.
pub record Premises (k : Setting) : Type 0 where
  pub function : FunctionRow
  pub there : function_at k.ways.program k.ways.function ≡ Some function
  pub well_typed : IsWellTyped k.ways.program
  pub calls : CallsDo k
  pub classes : k.ir.classes ≡ classes k.ways.program
  pub globals : (n : ℕ) (g : GlobalRow) → slice_get k.ways.program.globals n ≡ Some g → global_place k.ways.program n < 2 ^ 32
  pub texts : (n : ℕ) → n < length k.ways.program.strings → text_place k.ways.program n < 2 ^ 32
  pub functions : (n : ℕ) (g : FunctionRow) → slice_get k.ways.program.functions n ≡ Some g → function_address n < 2 ^ 32

-- where its expressions stand
abbrev pub scope_of : (k : Setting) → Premises k → Scope
scope_of k h = record { names = names_in k.ways.program h.function; iterators = k.iterators }

-- ---- what follows

same_some : {A : Type 0} (a b : A) → Some a ≡ Some b → a ≡ b
same_some a b e = cc

pub one_of_all : {A : Type 0} (P : A → Type 0) (xs : List A) (i : ℕ) (x : A) → All P xs → slice_get xs i ≡ Some x → P x
one_of_all P xs i x h e = on xs i (recursion_from_All P xs h) e
  where
    on : (xs : List _) (i : ℕ) → AllByRecursion P xs → slice_get xs i ≡ Some x → P x
    on [] i h e = absurd (cc)
    on (y ∷ xs) zero h e = subst P (same_some y x e) h.0
    on (y ∷ xs) (suc i) h e = on xs i h.1 e

module _ (k : Setting) (h : Premises k) where
  pub own : IsFunction k.ways.program k.ways.function h.function
  own = h.well_typed.functions k.ways.function h.function h.there

  pub local_is : (n : ℕ) (l : LocalRow) → slice_get (locals_of (function_at k.ways.program k.ways.function)) n ≡ Some l → IsLocalOf k.ways.program l
  local_is n l e = one_of_all (IsLocalOf k.ways.program) h.function.locals n l own.locals (ap (λ o. slice_get (locals_of o) n) (sym h.there) ∙ e)

  pub global_is : (n : ℕ) (g : GlobalRow) → slice_get k.ways.program.globals n ≡ Some g → IsGlobal k.ways.program g
  global_is n g e = one_of_all (IsGlobal k.ways.program) k.ways.program.globals n g h.well_typed.globals e

  pub plain_globals : NoArrayGlobals k.ways.program k.ways.program.globals
  plain_globals n g e private = private_not_array g.ty ((global_is n g e).is_private private).0

  true_is_not : (b : Bool) → b ≡ true → b ≡ false → ⊥
  true_is_not true p q = cc
  true_is_not false p q = cc

  not_private : (t u : Ty) → u ≡ t → IsAggregate t → may_be_private u ≡ false
  unfolding may_be_private out-Ty out
  not_private t u e a = ap may_be_private (e ∙ a.1)

  shared_local : (l : LocalRow) → IsLocalOf k.ways.program l → may_be_private l.ty ≡ false → l.is_shared ≡ true
  shared_local l h e = on l.is_shared refl
    where
      on : (b : Bool) → l.is_shared ≡ b → l.is_shared ≡ true
      on true q = q
      on false q = absurd (true_is_not (may_be_private l.ty) (h.1 q) e)

  shared_global : (g : GlobalRow) → IsGlobal k.ways.program g → may_be_private g.ty ≡ false → g.is_private ≡ false
  shared_global g h e = on g.is_private refl
    where
      on : (b : Bool) → g.is_private ≡ b → g.is_private ≡ false
      on false q = q
      on true q = absurd (true_is_not (may_be_private g.ty) (h.is_private q).0 e)

  -- a place that is an aggregate has an address: no private variable is one
  pub has_address : (place : TPlace) → IsPlace (scope_of k h) place → IsAggregate (place_type place) → HasAddress (scope_of k h) place
  unfolding IsPlace
  has_address (LocalPlace t n) v a = (v.0, (v.1.0, shared_local v.0 (one_of_all (IsLocalOf k.ways.program) h.function.locals n v.0 own.locals v.1.0) (not_private t v.0.ty v.1.1 a)))
  has_address (GlobalPlace t n) v a = (v.0, (v.1.0, shared_global v.0 (global_is n v.0 v.1.0) (not_private t v.0.ty v.1.1 a)))
  has_address _ v a = tt

  some_more : (n : ℕ) → not (suc n == 0) ≡ true
  some_more n = grind (arith, common_steps)

  some_shared : (ls : List LocalRow) (n : ℕ) (l : LocalRow) → slice_get ls n ≡ Some l → l.is_shared ≡ true → has_block ls ≡ true
  some_shared [] n l e s = absurd (cc)
  some_shared (x ∷ ls) zero l e s = let q : x.is_shared ≡ true = ap (λ (l : LocalRow). l.is_shared) (same_some x l e) ∙ s in shared_first x ls q
    where
      shared_first : (x : LocalRow) (ls : List LocalRow) → x.is_shared ≡ true → has_block (x ∷ ls) ≡ true
      shared_first x ls q = rw q (some_more (length (shared_types ls)))
  some_shared (x ∷ ls) (suc n) l e s = more x (some_shared ls n l e s)
    where
      more : (x : LocalRow) → has_block ls ≡ true → has_block (x ∷ ls) ≡ true
      more x r = on x.is_shared refl r
        where
          on : (b : Bool) → x.is_shared ≡ b → has_block ls ≡ true → has_block (x ∷ ls) ≡ true
          on true q r = rw q (some_more (length (shared_types ls)))
          on false q r = rw q r

  -- a function with a shared local has a block
  pub block_there : (n : ℕ) (l : LocalRow) → slice_get (locals_of (function_at k.ways.program k.ways.function)) n ≡ Some l → l.is_shared ≡ true → has_block (locals_of (function_at k.ways.program k.ways.function)) ≡ true
  block_there n l e s = some_shared (locals_of (function_at k.ways.program k.ways.function)) n l e s

  -- a place of an array has an address
  pub array_addresses : (t : Ty) → is_array t ≡ true → HasAddresses k t
  array_addresses t is lasting to now at (Address a) (stored slot offset w e there same leads) = (a, refl)
  array_addresses t is lasting to now at (Local n) (slotted l x ty e) = absurd (true_is_not (is_array t) is (ap is_array (sym ty) ∙ private_not_array l.ty ((local_is n l x.row).1 x.private)))
  array_addresses t is lasting to now at (Private n) (kept g row private ty e) = absurd (true_is_not (is_array t) is (ap is_array (sym ty) ∙ plain_globals n g row private))
  array_addresses t is lasting to now at (Words _) x = elim x [ ]
  array_addresses t is lasting to now at Nowhere x = elim x [ ]
