-- What is said of the fault of an item.
use Rattle.std.proofs.Common.{◌≡◌, ◌≤◌, List, [], ◌∷◌, Option, Some, None, refl, ap, ◌∙◌}
use Rattle.al_lex.specs.declared.kind.TokenKind.{TokenKind}
use Rattle.al_lex.specs.declared.kind.TokenKind.TheVariants as k
use Rattle.al_lex.specs.declared.token.Token.{Token}
use Rattle.al_tree.specs.Words.{start, scope_word}
use Rattle.al_tree.specs.Types.{Leaves}
use Rattle.al_tree.specs.Items.{Declared}
use Rattle.al_tree.specs.Items as items
use Rattle.al_tree.specs.Reading.{kind}
use Rattle.al_tree.specs.declared.item.Scope.{Scope}
use Rattle.al_tree.proofs.Law.{World, Any, Has, kind_local, start_local}
use Rattle.al_parse_type.proofs.BoundLaw.{first_kind}
use Rattle.al_parse_stmt.specs.Parse as parse
use Rattle.al_parse_stmt.proofs.FitsKept.{AdtsFit}
use Rattle.al_parse_stmt.proofs.Judge.{Judge, law_judge, guard_judge, look_judge, take_judge}
use Rattle.al_parse_stmt.proofs.ItemLaw.{LItem, typedef_law, aggr_law, union_law, adt_item_law, enumerated_law}
use Rattle.al_parse_stmt.proofs.DeclaredJudge.{declared_judge}

module _ (leaves : Leaves) (d : Declared) (fit : AdtsFit d) (R : Type 0) (w : World) (fits : R → w.fuel ≤ w.turns) where
  some_item : Has (LItem leaves d)
  some_item = (typedef_law leaves d R w fits).has

  scoped_judge : (word : Scope) {G : List Token → Type 0} → ((t : Token) (ts : List Token) → G (t ∷ ts) → scope_word t.kind ≡ Some word) → Judge R w G (λ w. parse.scoped leaves w.turns w.depth d word) (LItem leaves d)
  unfolding parse.scoped
  scoped_judge word first = take_judge (λ w t. parse.declared leaves w.turns w.depth d t.place (Some word)) (λ t. scope_word t.kind ≡ Some word) first some_item
      (λ t c. guard_judge (λ ts g. refl) (declared_judge leaves d fit R w fits (t ∷ []) (Some word) (items.some t c) t.place))

  unscoped_judge : {G : List Token → Type 0} → Judge R w G (λ w. parse.unscoped leaves w.turns w.depth d) (LItem leaves d)
  unfolding parse.unscoped
  unscoped_judge = look_judge start start_local (λ w at. parse.declared leaves w.turns w.depth d at None) some_item (λ at. guard_judge (λ ts g. g.1) (declared_judge leaves d fit R w fits [] None items.none at))

  by_scope : (kd : TokenKind) (o : Option Scope) → scope_word kd ≡ o → Judge R w (λ ts. kind ts ≡ kd) (λ w. parse.scoped_by leaves w.turns w.depth d o) (LItem leaves d)
  by_scope kd (Some word) e = scoped_judge word (λ t ts g. ap scope_word (first_kind t ts kd g) ∙ e)
  by_scope kd None e = unscoped_judge

  item_by_judge : (kd : TokenKind) → Judge R w (λ ts. kind ts ≡ kd) (λ w. parse.item_by leaves w.turns w.depth d kd) (LItem leaves d)
  item_by_judge k.Typedef = law_judge (typedef_law leaves d R w fits)
  item_by_judge k.Enum = law_judge (enumerated_law leaves d R w fits)
  item_by_judge k.Aggr = law_judge (aggr_law leaves d R w fits)
  item_by_judge k.Union = law_judge (union_law leaves d R w fits)
  item_by_judge k.Adt = law_judge (adt_item_law leaves d R w fits)
  item_by_judge kd = by_scope kd (scope_word kd) refl

  pub item_judge : Judge R w Any (λ w. parse.one_item leaves w.turns w.depth d) (LItem leaves d)
  unfolding parse.one_item
  item_judge = look_judge kind kind_local (λ w next. parse.item_by leaves w.turns w.depth d next) some_item (λ next. guard_judge (λ ts g. g.1) (item_by_judge next))
