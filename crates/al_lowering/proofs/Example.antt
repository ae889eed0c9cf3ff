-- The worked program meets all that lowering asks, and the other two are not well typed.
use Rattle.std.proofs.Common.{◌≡◌, ℕ, zero, suc, [], ◌∷◌, Some, None, refl, subst, inl, inr, arith}
use Rattle.std.specs.Prelude.{true, false, ◌<◌, ◌≤◌, ◌^◌, take, All, AllPairs, slice_get}
use Rattle.std.proofs.lemmas.List.Elements.{All-from_recursion, All-nil}
use Rattle.al_base.specs.declared.arith.Kind.TheVariants as kind
use Rattle.al_typed.specs.declared.expression.PrintPiece.TheVariants as print
use Rattle.al_typed.specs.declared.expression.TTarget.TheVariants as target
use Rattle.al_typed.specs.declared.expression.TExpr.TheVariants as expr
use Rattle.al_typed.specs.declared.expression.TExpr.TheBlock.{hidden-the_row-TPlace-0, hidden-the_row-TExpr-1, hidden-the_row-TTarget-2, hidden-the_row-TExpr-3, hidden-the_row-TTarget-5}
use Rattle.al_typed.specs.declared.expression.TPlace.TheVariants as place
use Rattle.al_typed.specs.declared.statement.TStmt.TheBlock.{hidden-the_row-TStmt-0}
use Rattle.al_typed.specs.declared.program.Function.{Function}
use Rattle.al_typed.specs.declared.program.StartValue.{StartValue}
use Rattle.al_typed.specs.declared.ty.Ty.TheVariants as ty
use Rattle.al_typed.specs.declared.ty.Ty.TheViews.{out-Ty}
use Rattle.al_typed.specs.declared.ty.Ty.TheBlock.{hidden-the_row-Ty-0, hidden-the_row-Ty-1}
use denote.Hole.Carrier.{hidden, out}
use Rattle.al_typed.specs.Types.{IsAggregate, int, is_array, is_void, is_complete, may_be_private}
use Rattle.al_typed.specs.Layout.{IsLaidOut, Keeps, members_of, layout, layout_of, layouts_after, aggregate_layout, member, row_of, rounded, followed, in_order}
use Rattle.al_typed.specs.WellTyped.{Scope, LeadsTo, AreBounds, IsLocalOf, Starts, is_stored, IsFunction, IsStatement, AreStatements, IsValue, AreValues, IsPlace, IsTarget, IsGiven, IsGlobal, IsWellTyped, names_in, no_labels}
use Rattle.al_lowering.specs.Addresses.{AddressesAreWords}
use Rattle.al_lowering.specs.Example.{s_type, s_pointer, s_row, g_row, s_local, g_place, f_row, main_row, example, plain, void_returned, no_value, x_local, x_member, no_member}
use Rattle.al_lowering.proofs.Addresses.{are_words}

none_there : {A : Type 0} (n : ℕ) (a : A) → slice_get [] n ≡ Some a → ⊥
none_there n a e = cc

same : {A : Type 0} (a x : A) → Some a ≡ Some x → a ≡ x
same a x e = cc

-- what holds of each of one thing and of each of two
each_of_one : {A : Type 0} (P : ℕ → A → Type 0) (a : A) → P 0 a → (n : ℕ) (x : A) → slice_get (a ∷ []) n ≡ Some x → P n x
each_of_one P a h zero x e = subst (P 0) (same a x e) h
each_of_one P a h (suc n) x e = absurd (none_there n x e)

each_of_two : {A : Type 0} (P : ℕ → A → Type 0) (a b : A) → P 0 a → P 1 b → (n : ℕ) (x : A) → slice_get (a ∷ b ∷ []) n ≡ Some x → P n x
each_of_two P a b h k zero x e = subst (P 0) (same a x e) h
each_of_two P a b h k (suc n) x e = each_of_one (λ n. P (suc n)) b k n x e

no_pairs : {A : Type 0} (R : A → A → Type 0) → AllPairs R []
no_pairs R i j d lt len = absurd (omega (arith, len))

laid_out : IsLaidOut example.aggregates
unfolding layout layout_of layouts_after aggregate_layout rounded followed in_order is_complete out-Ty out hidden-the_row-Ty-0 hidden
laid_out = record {
  keeps = each_of_one (λ k a. Keeps a (aggregate_layout (layouts_after [] (take k example.aggregates)) a)) s_row (record { size = refl; align = refl; units = refl });
  ordered = each_of_one (λ k a. All (λ t. is_complete (take k example.aggregates) t ≡ true) (members_of (Some a))) s_row (All-from_recursion (λ t. is_complete [] t ≡ true) (int ∷ ty.Integer kind.Byte ∷ []) (refl, (refl, tt)));
}

global_is : IsGlobal example g_row
unfolding layout layout_of layouts_after aggregate_layout rounded followed in_order is_complete out-Ty out
global_is = record { stored = refl; is_private = λ e. absurd (cc); starts = All-nil (Starts example g_row); ascending = no_pairs (λ (a b : StartValue). a.at < b.at) }

abbrev here : Function → Scope
here f = record { names = names_in example f; iterators = 0 }

-- where `s->a` and `g.a` lead
leads : LeadsTo example.aggregates (0 ∷ []) s_type int
unfolding member row_of layout layout_of rounded out-Ty out
leads = (record { ty = int; at = 0 }, (refl, refl))

f_local : IsPlace (here f_row) (place.Local s_pointer 0)
unfolding IsPlace
f_local = (s_local, (refl, refl))

f_pointer : IsValue (here f_row) (expr.Load s_pointer (place.Local s_pointer 0))
unfolding IsValue is_complete is_array out-Ty out hidden-the_row-TPlace-0 hidden-the_row-Ty-0 hidden
f_pointer = (f_local, (refl, refl))

f_value : IsValue (here f_row) (expr.Load int (place.PointedMember int (expr.Load s_pointer (place.Local s_pointer 0)) (0 ∷ [])))
unfolding IsValue IsPlace is_complete is_array out-Ty out hidden-the_row-TPlace-0 hidden-the_row-TExpr-3 hidden-the_row-TExpr-1 hidden
f_value = ((s_type, (f_pointer, (refl, leads))), (refl, refl))

f_body : IsStatement (here f_row) (record { number = 0; breaks = 0; loops = 0; labels = no_labels }) f_row.body
unfolding IsStatement AreStatements is_void out-Ty out hidden-the_row-TStmt-0 hidden
f_body = ((f_value, (refl, refl)), tt)

g_there : IsPlace (here main_row) g_place
unfolding IsPlace
g_there = (g_row, (refl, refl))

sets_member : IsValue (here main_row) (expr.Assign int (target.Into (place.Member int g_place (0 ∷ []))) (expr.Constant int 7))
unfolding IsValue IsTarget IsPlace is_complete is_array out-Ty out hidden-the_row-TTarget-2 hidden-the_row-TExpr-3 hidden-the_row-TExpr-1 hidden-the_row-TPlace-0 hidden
sets_member = (refl, ((g_there, ((0, refl), leads)), (refl, ((kind.Int, (refl, omega arith)), refl))))

prints_call : IsValue (here main_row) (expr.Print ty.Void (print.Signed ∷ []) (expr.Call int 0 None (expr.Address s_pointer g_place ∷ []) ∷ []))
unfolding IsValue AreValues IsGiven hidden-the_row-TTarget-2 hidden-the_row-TExpr-3 hidden-the_row-TExpr-1 hidden-the_row-TPlace-0 hidden-the_row-TTarget-5 hidden-the_row-Ty-0 hidden-the_row-Ty-1 hidden
prints_call = (refl, ((([], (refl, (((g_there, ((g_row, (refl, refl)), refl)), tt), (f_row, ((refl, refl), refl))))), tt), ((kind.Int, (refl, refl)), tt)))

main_body : IsStatement (here main_row) (record { number = 1; breaks = 0; loops = 0; labels = no_labels }) main_row.body
unfolding IsStatement AreStatements hidden-the_row-TStmt-0 hidden
main_body = ((All-nil (AreBounds (here main_row)), sets_member), ((All-nil (AreBounds (here main_row)), prints_call), tt))

f_is : IsFunction example 0 f_row
unfolding layout layout_of layouts_after aggregate_layout rounded followed in_order is_complete may_be_private is_array out-Ty out hidden-the_row-Ty-0 hidden hidden-the_row-TStmt-0
f_is = record {
  locals = All-from_recursion (IsLocalOf example) (s_local ∷ []) ((refl, λ e. refl), tt);
  parameters = omega arith;
  no_arrays = All-from_recursion (λ t. is_array t ≡ false) (s_pointer ∷ []) (refl, tt);
  returns = inr (refl, refl);
  shared = refl;
  stands = inl refl;
  labels = All-nil (λ n. n < 0);
  distinct = no_pairs (λ a b. a ≡ b → ⊥);
  body = f_body;
}

main_is : IsFunction example 1 main_row
unfolding layout layout_of layouts_after aggregate_layout rounded followed in_order is_complete may_be_private is_array out-Ty out hidden-the_row-Ty-0 hidden hidden-the_row-TStmt-0
main_is = record {
  locals = All-nil (IsLocalOf example);
  parameters = omega arith;
  no_arrays = All-nil (λ t. is_array t ≡ false);
  returns = inl refl;
  shared = refl;
  stands = inl refl;
  labels = All-nil (λ n. n < 0);
  distinct = no_pairs (λ a b. a ≡ b → ⊥);
  body = main_body;
}

pub well_typed : IsWellTyped example
unfolding layout layout_of layouts_after aggregate_layout rounded followed in_order is_complete out-Ty out hidden-the_row-Ty-0 hidden
well_typed = record {
  laid_out = laid_out;
  members = each_of_one (λ k a. All (λ t. is_stored example.aggregates t ≡ true) (members_of (Some a))) s_row (All-from_recursion (λ t. is_stored example.aggregates t ≡ true) (int ∷ ty.Integer kind.Byte ∷ []) (refl, (refl, tt)));
  small = each_of_one (λ k a. a.size ≤ 2 ^ 28) s_row (omega arith);
  globals = All-from_recursion (IsGlobal example) (g_row ∷ []) (global_is, tt);
  elements = All-nil (λ t. is_stored example.aggregates t ≡ true);
  functions = each_of_two (IsFunction example) f_row main_row f_is main_is;
  main_function = main_row;
  main = record { is_there = (refl, refl); returns = refl; parameters = inl refl };
}

pub addresses_are_words : AddressesAreWords example
unfolding layout layout_of layouts_after aggregate_layout rounded followed in_order
addresses_are_words = are_words example (omega arith) (omega arith)

-- ---- what is not well typed

false_is_not : true ≡ false → ⊥
false_is_not e = cc

int_is_no_aggregate : IsAggregate int → ⊥
int_is_no_aggregate a = let e = a.1 in cc

pub value_refused : IsWellTyped no_value → ⊥
unfolding IsStatement AreStatements is_void out-Ty out hidden-the_row-TStmt-0 hidden-the_row-TExpr-3 hidden
value_refused W = false_is_not (W.functions 0 (plain [] (void_returned ∷ [])) refl).body.0.1.0

pub member_refused : IsWellTyped no_member → ⊥
unfolding IsStatement AreStatements IsValue IsPlace hidden-the_row-TStmt-0 hidden-the_row-TPlace-0 hidden-the_row-TExpr-1 hidden
member_refused W = int_is_no_aggregate (W.functions 0 (plain (x_local ∷ []) (x_member ∷ [])) refl).body.0.1.0.1.0
