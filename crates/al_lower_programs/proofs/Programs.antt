-- A well-typed program is lowered, where its terms are.
use Rattle.std.proofs.Common.{◌≡◌, ℕ, List, [], ◌∷◌, ◌++◌, Some, refl, sym, ap, ◌∙◌, subst, inl, inr, ⊎_elim}
use Rattle.al_typed.specs.declared.program.Function.{Function as FunctionRow}
use Rattle.al_typed.specs.declared.program.Program.{Program}
use Rattle.al_typed.specs.WellTyped.{Nest, no_labels, IsWellTyped}
use Rattle.al_meaning.specs.Places.{function_at}
use Rattle.al_ir.specs.Control.{code_of, arguments_of}
use Rattle.al_lowered.specs.Rules.{rules}
use Rattle.al_lowered.specs.Lowered.{Lowered}
use Rattle.al_lower_code.specs.Functions.{spot_of, function_code, lowered}
use Rattle.al_lower_steps.proofs.Functions.{FunctionsDo}
use Rattle.al_lower_steps.proofs.Lowered as steps
use Rattle.al_lower_claims.proofs.Homes.{homes}
use Rattle.al_lower_bodies.proofs.Bodies.{Body}
use Rattle.al_lower_statements.proofs.Functions.{FunctionIn, body_of, function_does}
use Rattle.al_lower_statements.proofs.Terms.{TermsDo, Premises}
use Rattle.al_lower_statements.proofs.Statements.{statement_does}
use Rattle.al_lower_programs.proofs.Layouts.{layouts_are, wide_are}
use Rattle.al_lower_programs.proofs.Rows.{has_from, row_is, frames, globals_plain, function_is, local_not_void, private_plain, parameters_plain, parameters_passed, returns_whole, fresh_fits}

-- In each function of the program at work its terms do what they mean.
abbrev pub TermsOfAllDo : Program → Type 0
TermsOfAllDo p = (b : Body) → b.program ≡ p → b.ir ≡ lowered p → TermsDo b

no_end : (xs : List ℕ) (x : ℕ) → [] ≡ xs ++ x ∷ [] → ⊥
no_end [] x e = cc
no_end (y ∷ xs) x e = cc

module _ (p : Program) (W : IsWellTyped p) (D : TermsOfAllDo p) where
  function_in : (number : ℕ) (g : FunctionRow) → function_at p number ≡ Some g → FunctionIn p (lowered p) number g
  function_in number g there =
      let f = function_is p W number g there in
      record {
        there = there;
        homes = homes p number (private_plain p W number g there);
        layouts = layouts_are p W.laid_out;
        plain = globals_plain p W;
        code = λ below. has_from (record { ir = lowered p; rules = rules p; function = number; below = below; text = [] }) [] (function_code (spot_of p number g) g) (ap code_of (row_is p number g there));
        arguments = ap arguments_of (row_is p number g there);
        stands = ⊎_elim (λ e. inl e) (λ x. inr x.1.1.1.1.1.0) f.stands;
        parameters = f.parameters;
        no_arrays = parameters_plain p W number g there;
        private_plain = private_plain p W number g there;
        wide = λ n l row lt wide. wide_are p number n g l there row lt wide;
        returns_whole = returns_whole p W number g there;
      }

  premises : (b : Body) → b.program ≡ p → b.ir ≡ lowered p → Premises b
  premises b same same_ir =
      let W2 = subst IsWellTyped (sym same) W in
      record {
        terms = D b same same_ir;
        locals = local_not_void b.program W2 b.function b.row b.there;
        returns = returns_whole b.program W2 b.function b.row b.there;
        parameters = λ number g callable. parameters_passed b.program W2 number g callable.0;
        branches = λ branch g there around. ⊎_elim (λ e. absurd (no_end b.row.around b.function (sym e ∙ around))) (λ x. x.1.1.1.1.1.0) (function_is b.program W2 branch g there).stands;
      }

  pub functions_do : FunctionsDo p (lowered p) (rules p)
  functions_do number g there =
      let h = function_in number g there in
      let nest : Nest = record { number = number; breaks = 0; loops = 0; labels = no_labels } in
      function_does h (λ below call instead given calls becomes gives.
      statement_does (body_of h below call instead given calls becomes gives) (premises (body_of h below call instead given calls becomes gives) refl refl) nest refl g.body (function_is p W number g there).body)

  -- The operations of the program ask what its meaning says.
  pub program_lowered : Lowered p (lowered p)
  program_lowered = steps.lowered p (lowered p) (frames p) functions_do refl (fresh_fits p W)
