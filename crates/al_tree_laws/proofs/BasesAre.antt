-- The base type of each declaration of a tree is no array.
use Rattle.std.proofs.Common.{◌≡◌, ℕ, Bool, true, List, [], ◌∷◌, ◌++◌, Some, None, refl, sym, ap, ◌∙◌}
use Rattle.std.specs.List.{list_all}
use Rattle.std.proofs.lemmas.List.Folds.{list_all-append}
use Rattle.al_lex.specs.declared.token.Token.{Token}
use Rattle.al_lex.specs.TokenList.{TokenList}
use Rattle.al_tree.specs.Words.{start}
use Rattle.al_tree.specs.Types as t
use Rattle.al_tree.specs.Types.{Leaves, name_at, IsBase}
use Rattle.al_tree.specs.Statements as g
use Rattle.al_tree.specs.Statements.{IsStmt, IsBlock, IsBodyStmt, IsBody, IsCases, IsBranches}
use Rattle.al_tree.specs.Items as i
use Rattle.al_tree.specs.Items.{Declared, body_types, IsParameter, IsParameters, IsParameterList, IsMember, IsMembers, IsAdtPart, IsAdtMember, IsAdtMembers, IsHead, IsDeclarator, IsDeclarators, IsItem, IsItems}
use Rattle.al_tree.specs.Leaves.{leaves_of}
use Rattle.al_tree.specs.Tree.{IsTree}
use Rattle.al_tree.specs.declared.type_tree.TypeTree.{TypeTree, roll-TypeTree}
use Rattle.al_tree.specs.declared.type_tree.TypeTree.TheVariants as ty
use Rattle.al_tree.specs.declared.type_tree.TypeTree.TheOpen.{TypeTree-F}
use Rattle.al_tree.specs.declared.type_tree.TypeTree.TheViews.{out-roll-TypeTree}
use Rattle.al_tree.specs.declared.statement.Stmt.{Stmt, roll-Stmt, map-Stmt, fold-roll-Stmt}
use Rattle.al_tree.specs.declared.statement.Stmt.TheVariants as s
use Rattle.al_tree.specs.declared.statement.Stmt.TheOpen.{Stmt-F}
use Rattle.al_tree.specs.declared.item.Parameter.{Parameter}
use Rattle.al_tree.specs.declared.item.Head.{Head}
use Rattle.al_tree.specs.declared.item.Declarator.{Declarator}
use Rattle.al_tree.specs.declared.item.Member.{Member, roll-Member, map-Member, fold-roll-Member}
use Rattle.al_tree.specs.declared.item.Member.TheVariants as mem
use Rattle.al_tree.specs.declared.item.Member.TheOpen.{Member-F}
use Rattle.al_tree.specs.declared.item.AdtPart.{AdtPart}
use Rattle.al_tree.specs.declared.item.AdtMember.{AdtMember}
use Rattle.al_tree.specs.declared.item.Item.{Item}
use Rattle.al_tree.specs.declared.item.Tree.{Tree}
use Rattle.al_tree_laws.specs.Bases.{BasesArePlain, is_base_at, is_base, parameter_has_base, statement_step, statement_has_bases, member_step, member_has_bases, part_has_bases, adt_member_has_bases, declarator_has_bases, item_has_bases, tree_has_bases}
use Rattle.al_tree_laws.proofs.Trues.{both_true, all_one_more, all_map}

-- ---- what is asked of rolled trees

base_by : (z : TypeTree-F TypeTree) {x : TypeTree} → roll-TypeTree z ≡ x → is_base_at z ≡ true → is_base x ≡ true
unfolding is_base
base_by z q h = ap is_base (sym q) ∙ ap is_base_at (out-roll-TypeTree z) ∙ h

statement_by : (z : Stmt-F Stmt) {x : Stmt} → roll-Stmt z ≡ x → statement_step (map-Stmt Stmt Bool statement_has_bases z) ≡ true → statement_has_bases x ≡ true
unfolding statement_has_bases
statement_by z q h = ap statement_has_bases (sym q) ∙ fold-roll-Stmt Bool statement_step z ∙ h

member_by : (z : Member-F Member) {x : Member} → roll-Member z ≡ x → member_step (map-Member Member Bool member_has_bases z) ≡ true → member_has_bases x ≡ true
unfolding member_has_bases
member_by z q h = ap member_has_bases (sym q) ∙ fold-roll-Member Bool member_step z ∙ h

-- ---- types

module _ (leaves : Leaves) where
  pub base_is : {types : List ℕ} {bare takes : Bool} {u : List Token} {x : TypeTree} {h : ℕ} → IsBase leaves types bare takes u x h → is_base x ≡ true
  base_is (t.basic w {x = x} c) = base_by _ (ty.rolls-Basic w.place x) refl
  base_is (t.named w c) = base_by _ (ty.rolls-Named w.place w.name []) refl
  base_is (t.instance w o c {xs = xs} a oc l ec) = base_by _ (ty.rolls-Named w.place w.name xs) refl
  base_is (t.tuple w o c {xs = xs} wc oc l ec) = base_by _ (ty.rolls-Tuple w.place xs) refl
  base_is (t.bare_tuple o c {xs = xs} oc l ec) = base_by _ (ty.rolls-Tuple o.place xs) refl
  base_is (t.channel w o c {x = x} wc oc a ec) = base_by _ (ty.rolls-Chan w.place x None) refl
  base_is (t.buffered w o c p q {x = x} {n = n} wc oc a ec pc b qc) = base_by _ (ty.rolls-Chan w.place x (Some n)) refl

  -- ---- statements

  abbrev S : Stmt → Bool
  S = statement_has_bases

  case_is : (xs ys : List Stmt) (x : Stmt) → list_all S xs ≡ true → S x ≡ true → list_all S ys ≡ true → list_all S (xs ++ x ∷ ys) ≡ true
  case_is xs ys x h k l = list_all-append S xs (x ∷ ys) ∙ both_true h (both_true k l)

  module _ (types : List ℕ) where
    mutual
      pub stmt_is : {dangles : Bool} {u : List Token} {x : Stmt} {h : ℕ} → IsStmt leaves types dangles u x h → statement_has_bases x ≡ true
      stmt_is (g.empty w c) = statement_by _ (s.rolls-Empty w.place) refl
      stmt_is (g.block d) = block_is d
      stmt_is (g.value w {u = u} {x = x} d c) = statement_by _ (s.rolls-Value (start u) x) refl
      stmt_is (g.label m w {x = x} b c d) = statement_by _ (s.rolls-Label m.place m.name x) (stmt_is d)
      stmt_is (g.if_alone w o c {x = x} {y = y} wc oc a ec d) = statement_by _ (s.rolls-If w.place x y None) (both_true (stmt_is d) refl)
      stmt_is (g.if_else w o c e {x = x} {y = y} {z = z} wc oc a ec d tc b) = statement_by _ (s.rolls-If w.place x y (Some z)) (both_true (stmt_is d) (stmt_is b))
      stmt_is (g.while_loop w o c {x = x} {y = y} wc oc a ec d) = statement_by _ (s.rolls-While w.place x y) (stmt_is d)
      stmt_is (g.do_loop w e o c q {x = x} {y = y} wc d tc oc a ec qc) = statement_by _ (s.rolls-Do w.place x y) (stmt_is d)
      stmt_is (g.for_loop w o p q c {x = x} {y = y} {z = z} {body = body} wc oc a pc d qc e ec f) = statement_by _ (s.rolls-For w.place x y z body) (stmt_is f)
      stmt_is (g.switch w o c p q {x = x} {ys = ys} wc oc a ec pc l qc) = statement_by _ (s.rolls-Switch w.place x ys) (all_map S ys (cases_are l))
      stmt_is (g.alt w p q {xs = xs} wc pc l qc) = statement_by _ (s.rolls-Alt w.place xs) (all_map S xs (cases_are l))
      stmt_is (g.par w p q {xs = xs} wc pc l qc) = statement_by _ (s.rolls-Par w.place xs) (all_map S xs (branches_are l))
      stmt_is (g.rescue w {name = name} {x = x} wc a d) = statement_by _ (s.rolls-Rescue w.place name x) (block_is d)
      stmt_is (g.raise w e {name = name} wc a tc) = statement_by _ (s.rolls-Raise w.place name) refl
      stmt_is (g.return w e {x = x} wc a tc) = statement_by _ (s.rolls-Return w.place x) refl
      stmt_is (g.become w e {x = x} wc a tc) = statement_by _ (s.rolls-Become w.place x) refl
      stmt_is (g.break w e {count = count} wc a tc) = statement_by _ (s.rolls-Break w.place count) refl
      stmt_is (g.continue w e {count = count} wc a tc) = statement_by _ (s.rolls-Continue w.place count) refl
      stmt_is (g.goto w m e wc a tc) = statement_by _ (s.rolls-Goto w.place (name_at m)) refl
      stmt_is (g.alloc w e {xs = xs} wc l tc) = statement_by _ (s.rolls-Alloc w.place xs) refl
      stmt_is (g.unalloc w e {xs = xs} wc l tc) = statement_by _ (s.rolls-Unalloc w.place xs) refl
      stmt_is (g.check w e {x = x} wc a tc) = statement_by _ (s.rolls-Check w.place x None) refl
      stmt_is (g.check_text w m b e {x = x} wc a mc bc tc) = statement_by _ (s.rolls-Check w.place x (Some (leaves.bytes b))) refl
      stmt_is (g.proc w e {xs = xs} wc l tc) = statement_by _ (s.rolls-Proc w.place xs) refl
      stmt_is (g.task w e {xs = xs} wc l tc) = statement_by _ (s.rolls-Task w.place xs) refl

      pub block_is : {u : List Token} {x : Stmt} {h : ℕ} → IsBlock leaves types u x h → statement_has_bases x ≡ true
      block_is (g.braces p q {xs = xs} pc l qc) = statement_by _ (s.rolls-Block p.place xs) (all_map S xs (body_is l))

      pub body_stmt_is : {u : List Token} {x : Stmt} {h : ℕ} → IsBodyStmt leaves types u x h → statement_has_bases x ≡ true
      body_stmt_is (g.statement d) = stmt_is d
      body_stmt_is (g.declare w {u = u} {x = x} {ys = ys} b l tc) = statement_by _ (s.rolls-Declare (start u) x ys) (base_is b)

      pub body_is : {u : List Token} {xs : List Stmt} {h : ℕ} → IsBody leaves types u xs h → list_all statement_has_bases xs ≡ true
      body_is g.no_statement = refl
      body_is (g.one_more {xs = xs} {x = x} l d) = all_one_more S xs x (body_is l) (body_stmt_is d)

      pub cases_are : {with_default : Bool} {u : List Token} {xs : List Stmt} {h : ℕ} → IsCases leaves types with_default u xs h → list_all statement_has_bases xs ≡ true
      cases_are g.no_case = refl
      cases_are (g.one_case w e {xs = xs} {ys = ys} {x = x} l wc a tc b) =
          case_is xs ys (s.Case w.place x) (cases_are l) (statement_by _ (s.rolls-Case w.place x) refl) (body_is b)
      cases_are (g.default_case w e {xs = xs} {ys = ys} l wc tc b) =
          case_is xs ys (s.Default w.place) (cases_are l) (statement_by _ (s.rolls-Default w.place) refl) (body_is b)

      pub branches_are : {u : List Token} {xs : List Stmt} {h : ℕ} → IsBranches leaves types u xs h → list_all statement_has_bases xs ≡ true
      branches_are g.no_branch = refl
      branches_are (g.one_branch {xs = xs} {x = x} l d) = all_one_more S xs x (branches_are l) (stmt_is d)

    -- ---- parameters

    pub parameter_is : {u : List Token} {x : Parameter} {h : ℕ} → IsParameter leaves types u x h → parameter_has_base x ≡ true
    parameter_is (i.named w b a c o) = base_is b
    parameter_is (i.unnamed b a) = base_is b
    parameter_is (i.unnamed_array b a c o) = base_is b
    parameter_is (i.own_pointer w e wc a) = refl
    parameter_is (i.own_value w e wc a) = refl

    pub parameters_are : {u : List Token} {xs : List Parameter} {h : ℕ} → IsParameters leaves types u xs h → list_all parameter_has_base xs ≡ true
    parameters_are (i.one d) = both_true (parameter_is d) refl
    parameters_are (i.more w {xs = xs} {x = x} l c d) = all_one_more parameter_has_base xs x (parameters_are l) (parameter_is d)

    pub parameter_list_is : {u : List Token} {xs : List Parameter} {h : ℕ} → IsParameterList leaves types u xs h → list_all parameter_has_base xs ≡ true
    parameter_list_is i.none = refl
    parameter_list_is (i.void w c) = refl
    parameter_list_is (i.some l c) = parameters_are l

    -- ---- members

    mutual
      pub member_is : {u : List Token} {x : Member} {h : ℕ} → IsMember leaves types u x h → member_has_bases x ≡ true
      member_is (i.fields w {u = u} {x = x} {ys = ys} b l c) = member_by _ (mem.rolls-Fields (start u) x ys) (base_is b)
      member_is (i.unnamed w {u = u} {x = x} b c d) = member_by _ (mem.rolls-Unnamed (start u) x) (base_is b)
      member_is (i.inner w o c e {kind = kind} {xs = xs} a oc l ec tc) = member_by _ (mem.rolls-Inner w.place kind xs) (all_map member_has_bases xs (members_are l))

      pub members_are : {u : List Token} {xs : List Member} {h : ℕ} → IsMembers leaves types u xs h → list_all member_has_bases xs ≡ true
      members_are (i.one d) = both_true (member_is d) refl
      members_are (i.more {xs = xs} {x = x} l d) = all_one_more member_has_bases xs x (members_are l) (member_is d)

    pub part_is : {u : List Token} {x : AdtPart} {h : ℕ} → IsAdtPart leaves types u x h → part_has_bases x ≡ true
    part_is (i.data_member d) = member_is d
    part_is (i.function w o c q b a n oc l ec qc) = both_true (base_is b) (parameter_list_is l)

    pub adt_member_is : {u : List Token} {x : AdtMember} {h : ℕ} → IsAdtMember leaves types u x h → adt_member_has_bases x ≡ true
    adt_member_is (i.plain d) = part_is d
    adt_member_is (i.marked w c d) = part_is d

    pub adt_members_are : {u : List Token} {xs : List AdtMember} {h : ℕ} → IsAdtMembers leaves types u xs h → list_all adt_member_has_bases xs ≡ true
    adt_members_are (i.one d) = both_true (adt_member_is d) refl
    adt_members_are (i.more {xs = xs} {x = x} l d) = all_one_more adt_member_has_bases xs x (adt_members_are l) (adt_member_is d)

  -- ---- items

  pub head_is : {d : Declared} {inside : List ℕ} {u : List Token} {x : Head} {h : ℕ} → IsHead leaves d inside u x h → list_all parameter_has_base x.parameters ≡ true
  head_is (i.plain {d = d} w o c a b oc l ec) = parameter_list_is d.types l
  head_is (i.of_adt {d = d} a p w o c e f pc b oc l ec) = parameter_list_is d.types l
  head_is (i.of_parametrised a m r p w o c e f mc b rc pc n oc l ec) = parameter_list_is _ l

  pub declarator_is : {d : Declared} {inside : List ℕ} {u : List Token} {x : Declarator} {h : ℕ} → IsDeclarator leaves d inside u x h → declarator_has_bases x ≡ true
  declarator_is (i.global a) = refl
  declarator_is (i.set w a c b) = refl
  declarator_is (i.function a) = head_is a

  pub declarators_are : {d : Declared} {inside : List ℕ} {u : List Token} {xs : List Declarator} {h : ℕ} → IsDeclarators leaves d inside u xs h → list_all declarator_has_bases xs ≡ true
  declarators_are (i.one a) = both_true (declarator_is a) refl
  declarators_are (i.more w {xs = xs} {x = x} l c a) = all_one_more declarator_has_bases xs x (declarators_are l) (declarator_is a)

  pub item_is : {d after : Declared} {u : List Token} {x : Item} {h : ℕ} → IsItem leaves d u x after h → item_has_bases x ≡ true
  item_is (i.typedef w e wc b a tc) = base_is b
  item_is (i.function_type {d = d} w m o c e wc b a mc oc l ec tc) = both_true (base_is b) (parameter_list_is d.types l)
  item_is (i.forward w m e a mc tc) = refl
  item_is (i.plain_members w m o c a mc oc l ec q) = members_are _ l
  item_is (i.adt w m o c wc mc oc l ec q) = adt_members_are _ l
  item_is (i.parametrised w m l r o c wc mc lc a rc oc b ec q) = adt_members_are _ b
  item_is (i.enum w wc a q) = refl
  item_is (i.named_enum w m wc mc a q) = refl
  item_is (i.declare w a b l tc) = both_true (base_is b) (declarators_are l)
  item_is (i.function {d = d} {head = head} a b f k) = both_true (both_true (base_is b) (head_is f)) (block_is (body_types leaves d head.owner) k)

  pub items_are : {d : Declared} {u : List Token} {xs : List Item} {h : ℕ} → IsItems leaves u xs d h → list_all item_has_bases xs ≡ true
  items_are i.none = refl
  items_are (i.more {xs = xs} {x = x} l d) = all_one_more item_has_bases xs x (items_are l) (item_is d)

tree_is : (tokens : TokenList) (tree : Tree) (height : ℕ) → IsTree tokens tree height → tree_has_bases tree ≡ true
unfolding tree_has_bases
tree_is tokens tree height is = items_are (leaves_of tokens.text) is.tree_of.items

pub bases_are_plain : BasesArePlain
bases_are_plain = record { tree = tree_is }
