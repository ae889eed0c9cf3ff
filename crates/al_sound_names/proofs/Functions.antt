-- The rows of functions are well typed with their names.
use Rattle.std.proofs.Common.{◌≡◌, ℕ, ◌<◌, ◌≤◌, Bool, true, false, ◌&&◌, List, [], ◌++◌, map, take, length, ◌^◌, refl, sym, ap, ap₂, ◌∙◌, subst, ◌⊎◌, inl, inr, arith}
use Rattle.std.specs.Prelude.{All, nat_le}
use Rattle.std.specs.List.{AllPairs}
use Rattle.al_tree.specs.declared.item.Tree.{Tree}
use Rattle.al_tree.specs.declared.statement.Stmt.{Stmt}
use Rattle.al_typed.specs.declared.program.Function.{Function}
use Rattle.al_typed.specs.declared.program.Local.{Local}
use Rattle.al_typed.specs.declared.program.Program.{Program}
use Rattle.al_typed.specs.declared.ty.Ty.TheVariants as ty
use Rattle.al_typed.specs.Layout.{in_order, layout}
use Rattle.al_typed.specs.Typed.{local_types, parameter_types}
use Rattle.al_typed.specs.Types.{is_array, is_complete, may_be_private}
use Rattle.al_typed.specs.WellTyped.{IsLocalOf, StandsIn, is_sound, is_stored, labels_in, rescues_in}
use Rattle.al_typed.specs.WellTyped as typed
use Rattle.al_declare.specs.declared.function.Defined.{Defined}
use Rattle.al_environment.specs.declared.environment.Environment.{Environment}
use Rattle.al_environment.specs.declared.environment.Here.{Here}
use Rattle.al_flow.specs.Flow.{marks}
use Rattle.al_type_function.specs.Numbers.{capped}
use Rattle.al_type_stmt.specs.declared.within.Within.{Within}
use Rattle.al_tree_places.specs.Apart.{AreApart, HasBody}
use Rattle.al_tree_places.specs.Jumps.{jump_places}
use Rattle.al_sound_nodes.specs.Nodes.{Tells}
use Rattle.al_sound_environment.specs.Tells.{any_scope}
use Rattle.al_sound_statements.specs.Named.{BodiesAreNamed}
use Rattle.al_sound_flow.specs.Flow.{label_numbers, rescue_numbers}
use Rattle.al_sound_flow.specs.Numbers.{NumbersDiffer, all_numbers}
use Rattle.al_sound_signatures.specs.Signatures.{IsPlain}
use Rattle.al_sound_rows.specs.Units.{HasBranches, IsFunction, IsKnown, of_branch, of_function, signature_of}
use Rattle.al_sound_rows.specs.Rows.{RowsAreUnits}
use Rattle.al_sound_names.proofs.Bodies.{body_is, numbered}
use Rattle.al_sound_names.proofs.Indexed.{capped_is}
use Rattle.al_sound_names.proofs.Named.{AreRoomy, Unit_of}
use Rattle.al_sound_names.proofs.Rooms.{AreFew, marks_few, parameters_few, variables_few}
use Rattle.al_sound_names.proofs.TellsNames.{NumbersLead}

-- the signature of each definition is plain
abbrev pub ArePlain : Environment → Tree → List Defined → Type 0
ArePlain env tree ds = (strings number : ℕ) (f : Function) (w : Within) (here : Here) (body : Stmt) (is : IsFunction env tree ds strings number f w here body)
    → IsPlain env.aggregates (signature_of env is.defined is.base is.head)

both : (a b : Bool) → a ≡ true → b ≡ true → (a && b) ≡ true
both true true e h = refl
both true false e h = h
both false b e h = e

none_taken : (f : Function) → f.parameters ≡ 0 → parameter_types f ≡ []
none_taken f e = ap (λ n. local_types (take n f.locals)) e

module _ (env : Environment) (tree : Tree) (ds : List Defined) (strings : ℕ) (p : Program) (aggregates : p.aggregates ≡ env.aggregates) (texts : strings ≡ length p.strings)
    (few : length p.functions ≤ 4294967296) (small : AreFew tree 4194304) (lead : NumbersLead env p)
    (jumps : (k : ℕ) (body : Stmt) → HasBody tree k body → AreApart (jump_places body)) (law : BodiesAreNamed) (units : RowsAreUnits) (numbers : NumbersDiffer)
    (plain : ArePlain env tree ds)
    (some functions : ℕ) (outside : Here) (any : Tells (any_scope env some functions 0) env outside) where
  roomy : AreRoomy env tree ds strings p aggregates
  roomy number f w here u is = let n = variables_few env tree ds strings p.functions 4194304 small number f w here u is in omega (arith, n)

  module _ (number : ℕ) (f : Function) (w : Within) (here : Here) (u : Stmt) (is : Unit_of env tree ds strings p aggregates number f w here u)
      (pars : HasBranches p.functions number f w u) where
    known : IsKnown env tree strings p.functions number f w here u
    known = units.known env tree ds strings p.functions number f w here u is

    counted : (labels_in f.body ≡ label_numbers 0 (marks u)) × (rescues_in f.body ≡ rescue_numbers 0 (marks u))
    counted = numbered env tree ds strings p aggregates texts few roomy lead jumps law some functions outside any number f w here u is pars

    all_are : labels_in f.body ++ rescues_in f.body ≡ all_numbers (marks u)
    all_are = ap₂ (λ ls rs. ls ++ rs) counted.0 counted.1

    labels_are : f.labels ≡ length (marks u)
    labels_are =
        let n = marks_few env tree ds strings p.functions 4194304 small number f w here u is in
        known.typed.labels ∙ ap capped (numbers.gathered env known.outside u) ∙ capped_is (length (marks u)) (omega (arith, n))

    plain_types : All (λ t. is_array t ≡ false) (parameter_types f) × ((f.returns ≡ ty.Void) ⊎ ((is_complete env.aggregates f.returns ≡ true) × (is_array f.returns ≡ false)))
    plain_types = on number f w here u is
      where
        on : (number : ℕ) (f : Function) (w : Within) (here : Here) (u : Stmt) → Unit_of env tree ds strings p aggregates number f w here u
            → All (λ t. is_array t ≡ false) (parameter_types f) × ((f.returns ≡ ty.Void) ⊎ ((is_complete env.aggregates f.returns ≡ true) × (is_array f.returns ≡ false)))
        on _ _ _ _ _ (of_function number f w here u stands i) =
            let n = parameters_few env tree ds strings p.functions 4194304 small number f w here u i in
            let q = plain strings number f w here u i in (
              subst (All (λ t. is_array t ≡ false)) (sym (units.parameters env tree ds strings number f w here u i (omega (arith, n)))) q.parameters,
              subst (λ t. (t ≡ ty.Void) ⊎ ((is_complete env.aggregates t ≡ true) × (is_array t ≡ false))) (sym i.returns) q.returns,
            )
        on _ _ _ _ _ (of_branch outer g v there s number f w here u parent stands i) =
            (subst (All (λ t. is_array t ≡ false)) (sym (none_taken f i.parameters)) (λ k d lt. absurd (omega (arith, lt))), inl (i.typed.returns ∙ ap (λ (x : Within). x.returns) i.within))

    locals_are : All (IsLocalOf p) f.locals
    locals_are = subst (λ rows. All (λ (l : Local). (is_stored rows l.ty ≡ true) × (l.is_shared ≡ false → may_be_private l.ty ≡ true)) f.locals) (sym aggregates) known.locals

    returns_are : (f.returns ≡ ty.Void) ⊎ ((is_stored p.aggregates f.returns ≡ true) × (is_array f.returns ≡ false))
    returns_are = on plain_types.1
      where
        on : (f.returns ≡ ty.Void) ⊎ ((is_complete env.aggregates f.returns ≡ true) × (is_array f.returns ≡ false))
            → (f.returns ≡ ty.Void) ⊎ ((is_stored p.aggregates f.returns ≡ true) × (is_array f.returns ≡ false))
        on (inl e) = inl e
        on (inr x) = inr (subst (λ rows. is_stored rows f.returns ≡ true) (sym aggregates) (both (is_sound env.aggregates f.returns) (is_complete env.aggregates f.returns) known.sound x.0), x.1)

    pub function_is : typed.IsFunction p number f
    function_is = record {
      locals = locals_are;
      parameters = known.parameters;
      no_arrays = plain_types.0;
      returns = returns_are;
      shared = subst (λ rows. nat_le (in_order (map (layout rows) (typed.shared_types f.locals))).size (2 ^ 28) ≡ true) (sym aggregates) known.typed.small;
      stands = known.stands;
      labels = subst (λ n. All (λ k. k < n) (labels_in f.body ++ rescues_in f.body)) (sym labels_are)
          (subst (All (λ k. k < length (marks u))) (sym all_are) (numbers.below (marks u)));
      distinct = subst (AllPairs (λ a b. a ≡ b → ⊥)) (sym all_are) (numbers.apart (marks u));
      body = body_is env tree ds strings p aggregates texts few roomy lead jumps law some functions outside any number f w here u is pars;
    }
