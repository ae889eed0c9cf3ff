-- What is round a unit.
use Rattle.std.proofs.Common.{◌≡◌, ℕ, zero, suc, ◌+◌, ◌<◌, ◌≤◌, List, [], ◌∷◌, ◌++◌, length, Some, refl, sym, ap, ◌∙◌, arith, inl, inr}
use Rattle.std.specs.Prelude.{slice_get}
use Rattle.std.proofs.lemmas.Bool.{cases_lt}
use Rattle.al_tree.specs.declared.item.Tree.{Tree}
use Rattle.al_tree.specs.declared.statement.Stmt.{Stmt}
use Rattle.al_typed.specs.declared.program.Function.{Function}
use Rattle.al_environment.specs.declared.environment.Environment.{Environment}
use Rattle.al_environment.specs.declared.environment.Here.{Here}
use Rattle.al_environment.specs.declared.environment.Round.{Round}
use Rattle.al_declare.specs.declared.function.Defined.{Defined}
use Rattle.al_type_stmt.specs.declared.within.Within.{Within}
use Rattle.al_type_function.specs.Branches.{round_of}
use Rattle.al_sound_rows.specs.Units.{IsBranch, IsRoundOf, IsUnit, of_branch, of_function}
use Rattle.al_sound_rows.proofs.Outcomes.{some_is}
use Rattle.al_sound_rows.proofs.Lists.{get_append, get_behind}
use Rattle.al_sound_rows.proofs.InnerAre.{inner_of, own_inner}
use Rattle.al_sound_rows.proofs.KnownAre.{is_known}

none_there : {A : Type 0} (P : Type 0) (xs : List A) (k : ℕ) (x : A) → xs ≡ [] → slice_get xs k ≡ Some x → P
none_there P [] k x e f = absurd (cc)
none_there P (y ∷ xs) k x e f = absurd (cc)

get_left : {A : Type 0} (xs ys : List A) (k : ℕ) → k < length xs → slice_get (xs ++ ys) k ≡ slice_get xs k
get_left [] ys k lt = absurd (omega arith)
get_left (x ∷ xs) ys zero lt = refl
get_left (x ∷ xs) ys (suc k) lt = get_left xs ys k (omega arith)

last_is : {A : Type 0} (xs : List A) (x : A) (k : ℕ) (y : A) → length xs ≤ k → slice_get (xs ++ x ∷ []) k ≡ Some y → (length xs ≡ k) × (y ≡ x)
last_is [] x zero y low e = (refl, sym (some_is e))
last_is [] x (suc k) y low e = absurd (cc)
last_is (z ∷ xs) x zero y low e = absurd (omega arith)
last_is (z ∷ xs) x (suc k) y low e = let r = last_is xs x k y (omega arith) e in (ap suc r.0, r.1)

module _ (env : Environment) (tree : Tree) (ds : List Defined) (strings : ℕ) (rows : List Function) where
  -- a row round the unit round a branch is round the branch
  further : (outer : ℕ) (g : Function) (v : Within) (there : Here) (s : Stmt) (number : ℕ) (f : Function) (w : Within) (here : Here) (u : Stmt) (k : ℕ) (r : Round)
      → IsBranch env tree outer g v there s number f w here u → IsRoundOf env tree ds strings rows g s k r → IsRoundOf env tree ds strings rows f u k r
  further outer g v there s number f w here u k r is o = record {
    outer = o.outer;
    stands = ap (λ l. slice_get l k) is.around ∙ get_append g.around (outer ∷ []) k o.outer o.stands;
    g = o.g;
    v = o.v;
    there = o.there;
    s = o.s;
    unit = o.unit;
    is = o.is;
    depth = o.depth;
    inner = inner_of o.s s u o.inner (own_inner s u is.among);
  }

  -- the unit in which a branch stands is the last round it
  last_round : (outer : ℕ) (g : Function) (v : Within) (there : Here) (s : Stmt) (number : ℕ) (f : Function) (w : Within) (here : Here) (u : Stmt) (k : ℕ) (r : Round)
      → IsBranch env tree outer g v there s number f w here u → IsUnit env tree ds strings rows outer g v there s → length there.around ≡ k → r ≡ round_of there
      → IsRoundOf env tree ds strings rows f u k r
  last_round outer g v there s number f w here u k r is unit deep same =
      let level = (is_known env tree ds strings rows outer g v there s unit).level in
      let at : k ≡ length g.around + 0 = omega arith in
      record {
        outer = outer;
        stands = ap (λ l. slice_get l k) is.around ∙ ap (slice_get (g.around ++ outer ∷ [])) at ∙ get_behind g.around (outer ∷ []) 0;
        g = g;
        v = v;
        there = there;
        s = s;
        unit = unit;
        is = same;
        depth = deep;
        inner = own_inner s u is.among;
      }

  pub round_is : (number : ℕ) (f : Function) (w : Within) (here : Here) (u : Stmt) → IsUnit env tree ds strings rows number f w here u → (k : ℕ) (r : Round)
      → slice_get here.around k ≡ Some r → IsRoundOf env tree ds strings rows f u k r
  round_is number f w here u (of_function _ _ _ _ _ stands is) k r e = none_there (IsRoundOf env tree ds strings rows f u k r) here.around k r is.outermost e
  round_is number f w here u (of_branch outer g v there s _ _ _ _ _ unit stands is) k r e =
      let at : slice_get (there.around ++ round_of there ∷ []) k ≡ Some r = ap (λ (x : Here). slice_get x.around k) (sym is.entered) ∙ e in
      elim (cases_lt k (length there.around)) [
        | inl lt ↦
            further outer g v there s number f w here u k r is
            (round_is outer g v there s unit k r (sym (get_left there.around (round_of there ∷ []) k lt) ∙ at))
        | inr low ↦
            let l = last_is there.around (round_of there) k r low at in
            last_round outer g v there s number f w here u k r is unit l.0 l.1
      ]
