-- What is known of an operation of a program whose image is laid out.
use Rattle.std.proofs.Common.{◌≡◌, ◌≢◌, ℕ, zero, suc, ◌+◌, ◌<◌, ◌≤◌, Bool, true, false, ◌||◌, List, [], ◌∷◌, length, slice_get, Option, Some, None, refl, sym, ap, ◌∙◌, arith, subst, ◌⊎◌, inl, inr, ⊎_elim}
use Rattle.std.specs.Prelude.{nat_eq, Contains}
use Rattle.std.proofs.lemmas.Bool.{cases_eq}
use Rattle.std.proofs.lemmas.Bool.Decides.{nat_tests}
use Rattle.al_ir.specs.Bounds.{Has, IsSize, Fits, OperationsFit, IsFunction, jumps_of}
use Rattle.al_ir.specs.Control.{code_of, function_at, operation_at, stack_of}
use Rattle.al_ir.specs.declared.ir.Function.{Function}
use Rattle.al_ir.specs.declared.ir.Ir.{Ir}
use Rattle.al_ir.specs.declared.ir.Operation.{Operation}
use Rattle.al_ir.specs.declared.op.Op.{Op}
use Rattle.rv_isa.specs.declared.image.Contents.{Contents}
use Rattle.rv_exec.specs.Machine.{line_of}
use Rattle.rv_code.specs.declared.home.Home.{Home}
use Rattle.rv_code.specs.declared.home.Home.TheVariants.{Frame, Saved}
use Rattle.rv_code.specs.Homes.{Apart}
use Rattle.rv_code.specs.Jumps.{place}
use Rattle.rv_code.specs.Runs.{Stands}
use Rattle.rv_form.specs.Layout.{Layout}
use Rattle.rv_form.specs.Template.{template}
use Rattle.rv_match.specs.Places.{Homes, Writes, Passes, jumps_before}
use Rattle.rv_match.proofs.Counting.{jumps_next}
use Rattle.rv_regs.specs.Homes.{IsHomeOf}
use Rattle.rv_regs.specs.Uses.{IsIn, reads, writes, surely_writes, in_frame, comes_next, calls}
use Rattle.rv_pairs.specs.Several.{WritesEach}
use Rattle.rv_alike.specs.Within.{places, live_in}
use Rattle.rv_alike.specs.LaidOut.{IsLaidOut}
use Rattle.rv_alike.proofs.Ranges.{all_at, range, in_first, is_in_one, is_in_none}

fits_at : (ir : Ir) (g : Function) (os : List Operation) (base k : ℕ) (o : Operation) → slice_get os k ≡ Some o → OperationsFit ir g base os → Fits ir g (base + k) o.op
fits_at ir g [] base k o e all = absurd (cc)
fits_at ir g (x ∷ os) base zero o e all =
    let same : x ≡ o = cc in
    let start : base ≡ base + 0 = omega arith in
    subst (λ n. Fits ir g n o.op) start (subst (λ (y : Operation). Fits ir g base y.op) same all.0)
fits_at ir g (x ∷ os) base (suc k) o e all =
    let next : base + 1 + k ≡ base + suc k = omega arith in
    subst (λ n. Fits ir g n o.op) next (fits_at ir g os (base + 1) k o e all.1)

-- the sizes of units
pub size_is : (n : ℕ) → IsSize n → (n ≡ 1) ⊎ ((n ≡ 2) ⊎ (n ≡ 4))
size_is n e = on (cases_eq n 1) (cases_eq n 2) (cases_eq n 4) where
  off : (i j : ℕ) → i ≢ j → nat_eq i j ≡ false
  off i j other = grind (arith, nat_tests, other)

  none : (b d f : Bool) → b ≡ false → d ≡ false → f ≡ false → (b || d || f) ≡ true → ⊥
  none b d f p q r all = absurd (cc)

  on : (n ≡ 1) ⊎ (n ≢ 1) → (n ≡ 2) ⊎ (n ≢ 2) → (n ≡ 4) ⊎ (n ≢ 4) → (n ≡ 1) ⊎ ((n ≡ 2) ⊎ (n ≡ 4))
  on (inl p) q r = inl p
  on (inr p) (inl q) r = inr (inl q)
  on (inr p) (inr q) (inl r) = inr (inr r)
  on (inr p) (inr q) (inr r) = absurd (none (nat_eq n 1) (nat_eq n 2) (nat_eq n 4) (off n 1 p) (off n 2 q) (off n 4 r) e)

module _ (ir : Ir) (image : Contents) (l : Layout) (all : IsLaidOut ir image l) where
  abbrev pub live : (f pc unit t : ℕ) → Type 0
  live = live_in ir l all.homes

  -- homes are as matching frames have them
  pub homes_are : Homes (places l)
  homes_are = record { frame = λ f t k e. own_frame f t k e; saved = λ f t r e. own_saved f t r e } where
    own_frame : (f t k : ℕ) → l.home f t ≡ Frame k → k ≡ t
    own_frame f t k e = subst (λ (x : Home). IsHomeOf t x) e ((all.homes f).own t)

    own_saved : (f t r : ℕ) → l.home f t ≡ Saved r → (18 ≤ r) × (r < 28)
    own_saved f t r e = let q = subst (λ (x : Home). IsHomeOf t x) e ((all.homes f).own t) in (q.0, omega (arith, q.1))

  module _ (f pc : ℕ) (o : Operation) (at : operation_at ir f pc ≡ Some o) where
    -- the function
    pub record Its : Type 0 where
      pub function : Function
      pub found : function_at ir f ≡ Some function
      pub code : slice_get function.code pc ≡ Some o

    pub its : Its
    its = on (function_at ir f) refl at where
      on : (x : Option Function) → function_at ir f ≡ x → slice_get (code_of x) pc ≡ Some o → Its
      on (Some g) e q = record { function = g; found = e; code = q }
      on None e q = absurd (cc)

    pub is_function : IsFunction ir its.function
    is_function = all_at (IsFunction ir) ir.functions f its.function its.found all.bounded.functions

    pub fits : Fits ir its.function pc o.op
    fits = let e : 0 + pc ≡ pc = omega arith in subst (λ n. Fits ir its.function n o.op) e (fits_at ir its.function its.function.code 0 pc o its.code is_function.operations)

    pub slots_are : l.slots f ≡ its.function.slots
    slots_are = all.slots f its.function its.found

    pub slot_in : (t : ℕ) → Has its.function t 1 → t < l.slots f
    slot_in t q = omega (arith, q, slots_are)

    pub stack_few : l.stack f ≤ 16384
    stack_few =
        let e : stack_of (function_at ir f) ≡ its.function.stack = ap stack_of its.found in
        omega (arith, sym (all.stack f), e, is_function.stack)

    pub line_is : (j : ℕ) → l.at f pc ≤ j → j < l.at f (pc + 1) → line_of image (place j) ≡ o.line
    line_is = all.laid.line f pc o at

    pub jumps_are : jumps_before ir f (pc + 1) ≡ jumps_before ir f pc + jumps_of o.op
    jumps_are = jumps_next ir f pc o at

    -- for the operation by its form
    module _ (x : Op) (is : o.op ≡ x) where
      pub code : Stands image.code (l.at f pc) (template l f pc x)
      code = subst (λ (y : Op). Stands image.code (l.at f pc) (template l f pc y)) is (all.laid.op f pc o at)

      pub behind : l.at f pc + length (template l f pc x) ≡ l.at f (pc + 1)
      behind = subst (λ (y : Op). l.at f pc + length (template l f pc y) ≡ l.at f (pc + 1)) is (all.laid.next f pc o at)

      pub form_fits : Fits ir its.function pc x
      form_fits = subst (λ (y : Op). Fits ir its.function pc y) is fits

      pub form_jumps : jumps_before ir f (pc + 1) ≡ jumps_before ir f pc + jumps_of x
      form_jumps = jumps_are ∙ ap (λ (y : Op). jumps_before ir f pc + jumps_of y) is

      pub lives : (t : ℕ) → IsIn t (reads ir x) → live f pc 0 t
      lives t q = (all.homes f).is_liveness.read pc t o at (subst (λ (y : Op). IsIn t (reads ir y)) (sym is) q)

      pub stays : (n t : ℕ) → Contains (comes_next pc x) n → live f n 0 t → IsIn t (surely_writes ir x) ⊎ live f pc 0 t
      stays n t c a =
          subst (λ (y : Op). IsIn t (surely_writes ir y) ⊎ live f pc 0 t) is ((all.homes f).is_liveness.kept pc n t o at (subst (λ (y : Op). Contains (comes_next pc y) n) (sym is) c) a)

      pub stands_apart : (n t u : ℕ) → Contains (comes_next pc x) n → IsIn t (writes ir x) → live f n 0 u → t ≢ u → Apart (l.home f t) (l.home f u)
      stands_apart n t u c w a other =
          (all.homes f).written_apart pc n t u o at (subst (λ (y : Op). Contains (comes_next pc y) n) (sym is) c) (subst (λ (y : Op). IsIn t (writes ir y)) (sym is) w) a other

      pub framed : (t : ℕ) → IsIn t (in_frame ir x) → l.home f t ≡ Frame t
      framed t q = (all.homes f).found_by_address pc t o at (subst (λ (y : Op). IsIn t (in_frame ir y)) (sym is) q)

      pub across : (n t : ℕ) → calls x → Contains (comes_next pc x) n → live f n 0 t → l.home f t ≡ Frame t
      across n t k c a = (all.homes f).across_calls pc n t o at (subst calls (sym is) k) (subst (λ (y : Op). Contains (comes_next pc y) n) (sym is) c) a

      -- it writes one slot, or so many
      pub writes_one : (to : ℕ) → writes ir x ≡ range to 1 ∷ [] → surely_writes ir x ≡ range to 1 ∷ [] → Contains (comes_next pc x) (pc + 1) → Writes (places l) live f pc to
      writes_one to w s c t a other = (
        stands_apart (pc + 1) to t c (subst (IsIn to) (sym w) (in_first (range to 1) [] to (omega arith) (omega arith))) a (λ e. other (sym e)),
        ⊎_elim (λ q. let r = is_in_one (range to 1) t (subst (IsIn t) s q) in absurd (other (omega (arith, r.0, r.1)))) (λ q. q) (stays (pc + 1) t c a),
      )

      pub writes_each : (to n : ℕ) → writes ir x ≡ range to n ∷ [] → surely_writes ir x ≡ range to n ∷ [] → Contains (comes_next pc x) (pc + 1) → WritesEach (places l) live f pc to n
      writes_each to n w s c = record {
        apart = λ i t less a other. stands_apart (pc + 1) (to + i) t c (subst (IsIn (to + i)) (sym w) (in_first (range to n) [] (to + i) (omega arith) (omega (arith, less)))) a (λ e. other (sym e));
        lives = λ t a out. ⊎_elim (λ q. absurd (inside t out (is_in_one (range to n) t (subst (IsIn t) s q)))) (λ q. q) (stays (pc + 1) t c a);
      } where
        inside : (t : ℕ) → (t < to) ⊎ (to + n ≤ t) → (to ≤ t) × (t < to + n) → ⊥
        inside t (inl a) q = absurd (omega (arith, a, q.0))
        inside t (inr a) q = absurd (omega (arith, a, q.1))

      -- it writes none
      pub passes_to : (n : ℕ) → surely_writes ir x ≡ [] → Contains (comes_next pc x) n → Passes live f pc n
      passes_to n s c t a = ⊎_elim (λ q. absurd (is_in_none t (subst (IsIn t) s q))) (λ q. q) (stays n t c a)
