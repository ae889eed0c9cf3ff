-- Homes of one more function.
use Rattle.std.proofs.Common.{◌≡◌, ℕ, zero, suc, ◌+◌, ◌<◌, inl, inr, List, [], ◌∷◌, ◌++◌, Option, Some, length, refl, sym, subst, arith, length-append}
use Rattle.std.specs.List.{slice_get}
use Rattle.std.proofs.lemmas.Bool.{cases_lt}
use Rattle.al_ir.specs.declared.ir.Ir.{Ir}
use Rattle.rv_code.specs.declared.home.Home.{Home}
use Rattle.rv_regs.specs.Homes.{AreHomes, home_at}
use Rattle.rv_emit_ops.specs.Plans.{homes_or_none, homes_of}
use Rattle.rv_gen.specs.Generating.{HaveHomes}

at_front : {X : Type 0} (xs : List X) (x : X) (k : ℕ) → k < length xs → slice_get (xs ++ x ∷ []) k ≡ slice_get xs k
at_front [] x k less = absurd (omega (arith, less))
at_front (y ∷ ys) x zero less = refl
at_front (y ∷ ys) x (suc k) less = at_front ys x k (omega (arith, less))

at_end : {X : Type 0} (xs : List X) (x : X) → slice_get (xs ++ x ∷ []) (length xs) ≡ Some x
at_end [] x = refl
at_end (y ∷ ys) x = at_end ys x

pub have_more : (ir : Ir) (homes : List (List Home)) (own : List Home) → HaveHomes ir homes → AreHomes ir (length homes) (home_at own) → HaveHomes ir (homes ++ own ∷ [])
have_more ir homes own all one k less =
    elim (cases_lt k (length homes)) [
      | inl front ↦ subst (λ (o : Option (List Home)). AreHomes ir k (home_at (homes_or_none o))) (sym (at_front homes own k front)) (all k front)
      | inr behind ↦
          let e : length homes ≡ k = omega (arith, less, behind, length-append homes (own ∷ [])) in
          subst (λ n. AreHomes ir n (homes_of (homes ++ own ∷ []) n)) e
          (subst (λ (o : Option (List Home)). AreHomes ir (length homes) (home_at (homes_or_none o))) (sym (at_end homes own)) one)
    ]

pub have_none : (ir : Ir) → HaveHomes ir []
have_none ir k less = absurd (omega (arith, less))
