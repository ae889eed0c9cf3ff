-- What a name stands for as a type stays the same, where no name is declared twice.
use Rattle.std.proofs.Common.{◌≡◌, ℕ, zero, suc, Bool, true, false, not, nat_eq, List, [], ◌∷◌, fold, Option, Some, None, refl, sym, ap, ◌∙◌, subst}
use Rattle.std.specs.Prelude.{⊤, ◌==◌}
use Rattle.std.specs.Map.{lookup}
use Rattle.std.proofs.lemmas.Bool.{eqb-true, eq-eqb}
use Rattle.indexmap.specs.IndexMap.{insert_entry}
use Rattle.al_tree.specs.declared.expression.Name.{Name}
use Rattle.al_tree.specs.declared.type_tree.BasicType.TheVariants as basic
use Rattle.al_tree.specs.declared.item.AggregateKind.{AggregateKind}
use Rattle.al_tree.specs.declared.item.AggregateKind.TheVariants as kind
use Rattle.al_tree.specs.declared.item.Constant.{Constant}
use Rattle.al_tree.specs.declared.item.Declarator.{Declarator}
use Rattle.al_tree.specs.declared.item.Declarator.TheVariants as declarator
use Rattle.al_tree.specs.declared.item.Item.{Item}
use Rattle.al_tree.specs.declared.item.Item.TheVariants as item
use Rattle.al_tree.specs.declared.item.Owner.{Owner}
use Rattle.al_poly.specs.declared.concrete_type.ConcreteType.{ConcreteType}
use Rattle.al_poly.specs.declared.concrete_type.ConcreteType.TheVariants as ty
use Rattle.al_poly.specs.declared.names.Names.{Names}
use Rattle.al_poly.specs.Types.{declared, function_type, with_enum, with_item, with_known}
use Rattle.al_declare.specs.Rules.{may_be_again, rule_2_again, what_number}
use Rattle.al_declare.specs.Asking.{file_name, found, free_name, together, what_of}
use Rattle.al_declare.specs.Asking as ask
use Rattle.al_declare.specs.Types.{Way, dcl_bounds, each, optional, type_tree}
use Rattle.al_declare.specs.Expressions.{expr}
use Rattle.al_declare.specs.Items.{adt_member, declarator_way, definition, enum_constant, enum_name, function_if, initializer, item_way, member, prototype, scope_of_parameters}
use Rattle.al_sound_calls.proofs.Unnamed.{Asked, Declared, MaybeDeclared, Text}
use Rattle.al_sound_calls.proofs.Lists.{and_both, some_is}
use Rattle.al_sound_calls.proofs.Declares.{IsQuiet, adt_parameters_quiet, dcl_quiet, definition_quiet, each_quiet, expr_quiet, initializer_quiet, member_quiet, next, optional_quiet, owner_quiet, part_quiet, same, scope_quiet, type_quiet}
use Rattle.al_sound_calls.proofs.Joint.{put_is, put_other}
use Rattle.al_sound_calls.proofs.FunctionNames.{name_kept, name_told}

abbrev MaybeKnown : Type 0
MaybeKnown = Option (Option ConcreteType)

-- what is known of a name that is declared as something of that number
abbrev IsAs : ℕ → ℕ → MaybeKnown → Type 0
IsAs q zero o = ⊤
IsAs q (suc zero) o = o ≡ Some (Some (ty.Named q))
IsAs q (suc (suc zero)) o = o ≡ Some (Some (ty.Named q))
IsAs q (suc (suc (suc zero))) o = o ≡ Some (Some (ty.Named q))
IsAs q (suc (suc (suc (suc n)))) o = o ≡ None

abbrev AgreeAt : ℕ → MaybeDeclared → MaybeKnown → Type 0
AgreeAt q None o = o ≡ None
AgreeAt q (Some d) o = IsAs q (what_number d.what) o

-- what is known as a type was declared so
abbrev pub Agree : Asked → Names → Type 0
Agree a p = (q : ℕ) → AgreeAt q (found a.names q) (lookup (nat_eq q) p.known)

-- what is known stays, and more is known
pub record Extends (p u : Names) : Type 0 where
  pub constants : u.constants ≡ p.constants
  pub adts : u.adts ≡ p.adts
  pub known : (q : ℕ) (t : ConcreteType) → lookup (nat_eq q) p.known ≡ Some (Some t) → lookup (nat_eq q) u.known ≡ Some (Some t)

pub extends_same : (p : Names) → Extends p p
extends_same p = record { constants = refl; adts = refl; known = λ q t e. e }

pub extends_then : {p v u : Names} → Extends p v → Extends v u → Extends p u
extends_then e f = record { constants = f.constants ∙ e.constants; adts = f.adts ∙ e.adts; known = λ q t h. f.known q t (e.known q t h) }

number_is : (old : MaybeDeclared) (d : Declared) → rule_2_again old d ≡ true → what_number (together old d).what ≡ what_number d.what
number_is None d h = refl
number_is (Some o) d h = eqb-true (what_number o.what) (what_number d.what) (and_both _ _ (and_both _ _ h).0).0

-- what is declared again was declared as the same
old_is : (q : ℕ) (old : MaybeDeclared) (d : Declared) (o : MaybeKnown) → AgreeAt q old o → rule_2_again old d ≡ true → (o ≡ None → IsAs q (what_number d.what) o) → IsAs q (what_number d.what) o
old_is q None d o g h none = none g
old_is q (Some old) d o g h none = subst (λ k. IsAs q k o) (number_is (Some old) d h) g

not_both : (b : Bool) → b ≡ true → not b ≡ true → ⊥
not_both true p h = let f : ⊥ = cc in f
not_both false p h = let f : ⊥ = cc in f

-- what may not be declared again was not declared
other_none : (q : ℕ) (old : MaybeDeclared) (d : Declared) (o : MaybeKnown) → what_number d.what ≡ 0 → AgreeAt q old o → rule_2_again old d ≡ true → o ≡ None
other_none q None d o none g h = g
other_none q (Some old) d o none g h =
    let both = and_both (may_be_again old.what d.what) _ h in
    let r = and_both (what_number old.what == what_number d.what) (not (what_number old.what == 0)) both.0 in
    absurd (not_both (what_number old.what == 0) (eq-eqb (what_number old.what) 0 (eqb-true (what_number old.what) (what_number d.what) r.0 ∙ none)) r.1)

module _ (text : Text) (n : Name) (d : Declared) (a : Asked) (p : Names) where
  abbrev both : Declared
  both = together (found a.names n.name) d

  put_agrees : (t : Option ConcreteType) → Agree a p → IsAs n.name (what_number both.what) (Some t) → Agree (file_name n d text a) (with_known p n.name t)
  unfolding file_name free_name
  put_agrees t g meets q = go (nat_eq q n.name) refl
    where
      known : List (ℕ × Option ConcreteType)
      known = insert_entry nat_eq p.known n.name t

      names : List (ℕ × Declared)
      names = insert_entry nat_eq a.names n.name both

      go : (c : Bool) → nat_eq q n.name ≡ c → AgreeAt q (found names q) (lookup (nat_eq q) known)
      go true is =
          subst (λ k. AgreeAt k (found names k) (lookup (nat_eq k) known)) (sym (eqb-true q n.name is))
          (subst (λ o. AgreeAt n.name o (lookup (nat_eq n.name) known)) (sym (put_is a.names n.name both)) (subst (λ o. AgreeAt n.name (Some both) o) (sym (put_is p.known n.name t)) meets))
      go false is =
          subst (λ o. AgreeAt q o (lookup (nat_eq q) known)) (sym (put_other a.names n.name both q is))
          (subst (λ o. AgreeAt q (found a.names q) o) (sym (put_other p.known n.name t q is)) (g q))

  put_extends : (t : Option ConcreteType) → ((x : ConcreteType) → lookup (nat_eq n.name) p.known ≡ Some (Some x) → t ≡ Some x) → Extends p (with_known p n.name t)
  put_extends t old = record { constants = refl; adts = refl; known = λ q x e. go q x e (nat_eq q n.name) refl }
    where
      known : List (ℕ × Option ConcreteType)
      known = insert_entry nat_eq p.known n.name t

      go : (q : ℕ) (x : ConcreteType) → lookup (nat_eq q) p.known ≡ Some (Some x) → (c : Bool) → nat_eq q n.name ≡ c → lookup (nat_eq q) known ≡ Some (Some x)
      go q x e true is =
          let k = eqb-true q n.name is in
          ap (λ j. lookup (nat_eq j) known) k ∙ put_is p.known n.name t ∙ ap Some (old x (sym (ap (λ j. lookup (nat_eq j) p.known) k) ∙ e))
      go q x e false is = put_other p.known n.name t q is ∙ e

  keep_agrees : Agree a p → IsAs n.name (what_number both.what) (lookup (nat_eq n.name) p.known) → Agree (file_name n d text a) p
  unfolding file_name free_name
  keep_agrees g meets q = go (nat_eq q n.name) refl
    where
      names : List (ℕ × Declared)
      names = insert_entry nat_eq a.names n.name both

      go : (c : Bool) → nat_eq q n.name ≡ c → AgreeAt q (found names q) (lookup (nat_eq q) p.known)
      go true is =
          subst (λ k. AgreeAt k (found names k) (lookup (nat_eq k) p.known)) (sym (eqb-true q n.name is))
          (subst (λ o. AgreeAt n.name o (lookup (nat_eq n.name) p.known)) (sym (put_is a.names n.name both)) meets)
      go false is = subst (λ o. AgreeAt q o (lookup (nat_eq q) p.known)) (sym (put_other a.names n.name both q is)) (g q)

-- nothing more is known as a type
record Moves (a b : Asked) : Type 0 where
  faults : b.faults ≡ [] → a.faults ≡ []
  agrees : (p : Names) → b.faults ≡ [] → Agree a p → Agree b p

quietly : {a b : Asked} → IsQuiet a b → Moves a b
quietly {a} {b} k = record { faults = k.faults; agrees = λ p f g q. subst (λ l. AgreeAt q (found l q) (lookup (nat_eq q) p.known)) (sym k.names) (g q) }

next_to : {a b d : Asked} → Moves a b → Moves b d → Moves a d
next_to p q = record { faults = λ f. p.faults (q.faults f); agrees = λ u f g. q.agrees u f (p.agrees u (q.faults f) g) }

module _ (text : Text) where
  -- a name that stands for no type, or for one that nothing else has
  value_moves : (n : Name) (d : Declared) (a : Asked) → ((o : MaybeKnown) → o ≡ None → IsAs n.name (what_number d.what) o) → Moves a (file_name n d text a)
  value_moves n d a none = record {
    faults = (name_kept text n d a).faults;
    agrees = λ p f g.
        let told = name_told text n d a f in
        keep_agrees text n d a p g
        (subst (λ k. IsAs n.name k (lookup (nat_eq n.name) p.known)) (sym (number_is (found a.names n.name) d told))
        (old_is n.name (found a.names n.name) d (lookup (nat_eq n.name) p.known) (g n.name) told (none (lookup (nat_eq n.name) p.known))));
  }

  each_moves : {A : Type 0} (f : A → Way) → ((x : A) (a : Asked) → Moves a (f x text a)) → (xs : List A) (a : Asked) → Moves a (each f xs text a)
  each_moves f h [] a = quietly (same a)
  each_moves f h (x ∷ xs) a = next_to (h x a) (each_moves f h xs (f x text a))

  function_moves : (b : Bool) (o : Option Owner) (n : Name) (a : Asked) → Moves a (function_if b o n text a)
  unfolding function_if
  function_moves b None n a = value_moves n _ a (λ o e. e)
  function_moves b (Some owner) n a = quietly (same a)

  declarator_moves : (x : Declarator) (a : Asked) → Moves a (declarator_way x text a)
  unfolding declarator_way prototype
  declarator_moves (declarator.Global dcl value) a =
      next_to (quietly (dcl_quiet text dcl a))
      (next_to (value_moves dcl.name _ (dcl_bounds dcl text a) (λ o e. e)) (quietly (optional_quiet text initializer (initializer_quiet text) value _)))
  declarator_moves (declarator.Function h) a = next_to (function_moves false h.owner h.name a) (quietly (scope_quiet text None h.parameters _))

  constant_moves : (x : Constant) (a : Asked) → Moves a (enum_constant x text a)
  unfolding enum_constant
  constant_moves x a = next_to (quietly (optional_quiet text expr (expr_quiet text) x.value a)) (value_moves x.name _ (optional expr x.value text a) (λ o e. tt))

  -- ---- items

  pub record ItemMoves (x : Item) (a : Asked) : Type 0 where
    pub faults : (item_way x text a).faults ≡ [] → a.faults ≡ []
    pub steps : (p : Names) → (item_way x text a).faults ≡ [] → Agree a p → Agree (item_way x text a) (with_item p x) × Extends p (with_item p x)

  -- a name that stands for a type of its own, and for nothing else
  other_known : (n : Name) (d : Declared) (a : Asked) (p : Names) (t : Option ConcreteType) → what_number d.what ≡ 0 → (file_name n d text a).faults ≡ [] → Agree a p
      → Agree (file_name n d text a) (with_known p n.name t) × Extends p (with_known p n.name t)
  other_known n d a p t first f g =
      let told = name_told text n d a f in
      let none = other_none n.name (found a.names n.name) d (lookup (nat_eq n.name) p.known) first (g n.name) told in (
        put_agrees text n d a p t g (subst (λ k. IsAs n.name k (Some t)) (sym (number_is (found a.names n.name) d told ∙ first)) tt),
        put_extends text n d a p t (λ x e. let q : None ≡ Some (Some x) = sym none ∙ e in absurd (let h : ⊥ = cc in h)),
      )

  -- or for a type with members
  named_known : (n : Name) (d : Declared) (a : Asked) (p : Names) → ((o : MaybeKnown) → o ≡ Some (Some (ty.Named n.name)) → IsAs n.name (what_number d.what) o)
      → ((o : MaybeKnown) → IsAs n.name (what_number d.what) o → o ≡ Some (Some (ty.Named n.name))) → (file_name n d text a).faults ≡ [] → Agree a p
      → Agree (file_name n d text a) (with_known p n.name (Some (ty.Named n.name))) × Extends p (with_known p n.name (Some (ty.Named n.name)))
  named_known n d a p meets back f g =
      let t = Some (ty.Named n.name) in
      let told = name_told text n d a f in (
        put_agrees text n d a p t g (subst (λ k. IsAs n.name k (Some t)) (sym (number_is (found a.names n.name) d told)) (meets (Some t) refl)),
        put_extends text n d a p t (λ x e. go (found a.names n.name) (lookup (nat_eq n.name) p.known) (g n.name) told x e),
      )
    where
      go : (old : MaybeDeclared) (o : MaybeKnown) → AgreeAt n.name old o → rule_2_again old d ≡ true → (x : ConcreteType) → o ≡ Some (Some x) → Some (ty.Named n.name) ≡ Some x
      go None o g told x e = let q : None ≡ Some (Some x) = sym g ∙ e in absurd (let h : ⊥ = cc in h)
      go (Some old) o g told x e =
          let is = back o (subst (λ k. IsAs n.name k o) (number_is (Some old) d told) g) in
          some_is (sym is ∙ e)

  kind_known : (n : Name) (k : AggregateKind) (b : Bool) (a : Asked) (p : Names) → (file_name n (ask.declared (what_of k) b) text a).faults ≡ [] → Agree a p
      → Agree (file_name n (ask.declared (what_of k) b) text a) (with_known p n.name (Some (ty.Named n.name))) × Extends p (with_known p n.name (Some (ty.Named n.name)))
  kind_known n kind.Aggr b a p f g = named_known n (ask.declared (what_of kind.Aggr) b) a p (λ o e. e) (λ o e. e) f g
  kind_known n kind.Union b a p f g = named_known n (ask.declared (what_of kind.Union) b) a p (λ o e. e) (λ o e. e) f g
  kind_known n kind.Adt b a p f g = named_known n (ask.declared (what_of kind.Adt) b) a p (λ o e. e) (λ o e. e) f g

  unknown : (x : Item) (a : Asked) → Moves a (item_way x text a) → ((p : Names) → with_item p x ≡ p) → ItemMoves x a
  unknown x a m same = record {
    faults = m.faults;
    steps = λ p f g. subst (λ (u : Names). Agree (item_way x text a) u × Extends p u) (sym (same p)) (m.agrees p f g, extends_same p);
  }

  enum_known : (o : Option Name) (a : Asked) → ((enum_name o text a).faults ≡ [] → a.faults ≡ [])
      × ((p : Names) → (enum_name o text a).faults ≡ [] → Agree a p → Agree (enum_name o text a) (with_enum p o) × Extends p (with_enum p o))
  enum_known None a = (λ f. f, λ p f g. (g, extends_same p))
  enum_known (Some n) a = ((value_moves n _ a (λ o e. tt)).faults, λ p f g. other_known n _ a p (Some (ty.Basic basic.Int)) refl f g)

  pub item_moves : (x : Item) (a : Asked) → ItemMoves x a
  unfolding item_way with_item definition
  item_moves (item.Typedef at base dcl) a =
      let q = next (type_quiet text base a) (dcl_quiet text dcl (type_tree base text a)) in
      let b = dcl_bounds dcl text (type_tree base text a) in
      record {
        faults = λ f. q.faults ((value_moves dcl.name _ b (λ o e. tt)).faults f);
        steps = λ p f g. other_known dcl.name _ b p (declared p None base dcl) refl f ((quietly q).agrees p ((value_moves dcl.name _ b (λ o e. tt)).faults f) g);
      }
  item_moves (item.FunctionType at base stars name ps) a =
      let q = next (type_quiet text base a) (scope_quiet text None ps (type_tree base text a)) in
      let b = scope_of_parameters None ps text (type_tree base text a) in
      record {
        faults = λ f. q.faults ((value_moves name _ b (λ o e. tt)).faults f);
        steps = λ p f g. other_known name _ b p (function_type p None base stars ps) refl f ((quietly q).agrees p ((value_moves name _ b (λ o e. tt)).faults f) g);
      }
  item_moves (item.Forward at k name) a =
      record { faults = (name_kept text name (ask.declared (what_of k) false) a).faults; steps = λ p f g. kind_known name k false a p f g }
  item_moves (item.Aggregate at k name members) a =
      let b = file_name name (ask.declared (what_of k) true) text a in
      let q = each_quiet text member (member_quiet text) members b in
      record {
        faults = λ f. (name_kept text name (ask.declared (what_of k) true) a).faults (q.faults f);
        steps = λ p f g. let r = kind_known name k true a p (q.faults f) g in ((quietly q).agrees (with_known p name.name (Some (ty.Named name.name))) f r.0, r.1);
      }
  item_moves (item.Adt at name ps members) a =
      let b = file_name name (ask.declared (what_of kind.Adt) true) text a in
      let q = next (adt_parameters_quiet text ps b) (each_quiet text (adt_member name.name) (λ m u. part_quiet text name.name m.part u) members _) in
      record {
        faults = λ f. (name_kept text name (ask.declared (what_of kind.Adt) true) a).faults (q.faults f);
        steps = λ p f g. let r = kind_known name kind.Adt true a p (q.faults f) g in ((quietly q).agrees (with_known p name.name (Some (ty.Named name.name))) f r.0, r.1);
      }
  item_moves (item.Enum at name list) a =
      let e = enum_known name a in
      let m = each_moves enum_constant constant_moves list (enum_name name text a) in
      record {
        faults = λ f. e.0 (m.faults f);
        steps = λ p f g. let r = e.1 p (m.faults f) g in (m.agrees (with_enum p name) f r.0, r.1);
      }
  item_moves (item.Declare at scope base list) a =
      unknown (item.Declare at scope base list) a (next_to (quietly (type_quiet text base a)) (each_moves declarator_way declarator_moves list (type_tree base text a))) (λ p. refl)
  item_moves (item.Function at scope base head block) a =
      unknown (item.Function at scope base head block) a
      (next_to (quietly (type_quiet text base a)) (next_to (function_moves true head.owner head.name (type_tree base text a))
      (quietly (next (owner_quiet text head.at head.owner _) (definition_quiet text head.parameters block _))))) (λ p. refl)

  pub items_faults : (xs : List Item) (a : Asked) → (each item_way xs text a).faults ≡ [] → a.faults ≡ []
  items_faults [] a f = f
  items_faults (x ∷ xs) a f = (item_moves x a).faults (items_faults xs (item_way x text a) f)

  pub items_extend : (xs : List Item) (a : Asked) (p : Names) → (each item_way xs text a).faults ≡ [] → Agree a p → Extends p (fold with_item p xs)
  items_extend [] a p f g = extends_same p
  items_extend (x ∷ xs) a p f g =
      let s = (item_moves x a).steps p (items_faults xs (item_way x text a) f) g in
      extends_then s.1 (items_extend xs (item_way x text a) (with_item p x) f s.0)
