-- Units have fewer variables, labels and rescues than 32 bits have numbers.
use Rattle.std.proofs.Common.{◌≡◌, ℕ, ◌≤◌, List, ◌++◌, map, length, Some, ap, subst, ◌⊎◌, inl, inr, arith}
use Rattle.std.specs.Prelude.{Contains, slice_get}
use Rattle.std.proofs.lemmas.List.{length-append, length-map}
use Rattle.al_tree.specs.declared.item.Item.{Item}
use Rattle.al_tree.specs.declared.item.Item.TheVariants as item
use Rattle.al_tree.specs.declared.item.Tree.{Tree}
use Rattle.al_tree.specs.declared.statement.Stmt.{Stmt}
use Rattle.al_tree_laws.specs.Counts.{declared_count, function_count}
use Rattle.al_tree_walks.specs.Statements.{branches}
use Rattle.al_typed.specs.declared.program.Function.{Function}
use Rattle.al_declare.specs.declared.function.Defined.{Defined}
use Rattle.al_environment.specs.declared.environment.Environment.{Environment}
use Rattle.al_environment.specs.declared.environment.Here.{Here}
use Rattle.al_flow.specs.Flow.{marks}
use Rattle.al_body_parts.specs.Statements.{parts}
use Rattle.al_type_function.specs.Locals.{declared_local, declared_parameter, declared_parameters, variable}
use Rattle.al_type_stmt.specs.declared.within.Within.{Within}
use Rattle.al_sound_rows.specs.Units.{IsFunction, IsUnit, at_head, of_branch, of_function, signature_of}
use Rattle.al_sound_names.proofs.Bodies.{rooted}
use Rattle.al_sound_names.proofs.Counts.{counts_hold}
use Rattle.al_sound_names.proofs.LocalCounts.{locals_few}
use Rattle.al_sound_names.proofs.Named.{length_indexed}

-- each function of a text declares no more than so many
abbrev pub AreFew : Tree → ℕ → Type 0
AreFew tree most = (k : ℕ) (i : Item) → slice_get tree.items k ≡ Some i → function_count i ≤ most

module _ (env : Environment) (tree : Tree) (ds : List Defined) (strings : ℕ) (rows : List Function) (most : ℕ) (few : AreFew tree most) where
  declared_few : (number : ℕ) (f : Function) (w : Within) (here : Here) (u : Stmt) → IsUnit env tree ds strings rows number f w here u → declared_count u ≤ most
  declared_few number f w here u is =
      let r = rooted env tree ds strings rows number f w here u is in
      let all = few r.item (item.Function r.has.at r.has.scope r.has.base r.has.head r.body) r.has.is in
      on r.body r.among (omega (arith, all))
    where
      on : (body : Stmt) → (body ≡ u) ⊎ Contains (branches body) u → declared_count body ≤ most → declared_count u ≤ most
      on body (inl e) h = subst (λ (x : Stmt). declared_count x ≤ most) e h
      on body (inr c) h = let less = (counts_hold body).inner u c in omega (arith, less, h)

  pub marks_few : (number : ℕ) (f : Function) (w : Within) (here : Here) (u : Stmt) → IsUnit env tree ds strings rows number f w here u → length (marks u) ≤ most
  marks_few number f w here u is = let less = (counts_hold u).few in let all = declared_few number f w here u is in omega (arith, less, all)

  pub variables_few : (number : ℕ) (f : Function) (w : Within) (here : Here) (u : Stmt) → IsUnit env tree ds strings rows number f w here u → length here.locals ≤ most
  variables_few _ _ _ _ _ (of_function number f w here u stands is) =
      let own = at_head env is.head is.defined in
      let ts = (signature_of env is.defined is.base is.head).parameters in
      let ps = is.head.parameters in
      let ls = map declared_local (parts env own u).locals in
      let all = few is.defined.item (item.Function is.at is.scope is.base is.head u) is.stands in
      let count = ap length is.typed.variables in
      let long = length_indexed variable 0 (declared_parameters ts ps ++ ls) in
      let both = length-append (declared_parameters ts ps) ls in
      let named = length_indexed (declared_parameter ts) 0 ps in
      let others = length-map (parts env own u).locals declared_local in
      let less = locals_few env own u in
      omega (arith, all, count, long, both, named, others, less)
  variables_few _ _ _ _ _ (of_branch outer g v there s number f w here u parent stands is) =
      let all = declared_few number f w here u (of_branch outer g v there s number f w here u parent stands is) in
      let ls = map declared_local (parts env there u).locals in
      let count = ap length is.typed.variables in
      let long = length_indexed variable 0 ls in
      let others = length-map (parts env there u).locals declared_local in
      let less = locals_few env there u in
      omega (arith, all, count, long, others, less)

  pub parameters_few : (number : ℕ) (f : Function) (w : Within) (here : Here) (u : Stmt) (is : IsFunction env tree ds strings number f w here u) → length is.head.parameters ≤ most
  parameters_few number f w here u is =
      let all = few is.defined.item (item.Function is.at is.scope is.base is.head u) is.stands in
      omega (arith, all)
