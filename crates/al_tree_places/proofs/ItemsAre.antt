-- The names of a text stand at tokens of it, each at one of its own.
use Rattle.std.proofs.Common.{◌≡◌, ℕ, List, [], ◌∷◌, ◌++◌, flat_map, sym, ap, ◌∙◌, append-nil}
use Rattle.al_base.specs.declared.place.Place.{Place}
use Rattle.al_lex.specs.declared.token.Token.{Token}
use Rattle.al_tree.specs.Types.{Leaves}
use Rattle.al_tree.specs.Items as g
use Rattle.al_tree.specs.Items.{Declared, body_types, IsParameter, IsParameters, IsParameterList, IsInitializer, IsInitializers, IsConstant, IsConstants, IsEnumBody, IsHead, IsDeclarator, IsDeclarators, IsItem, IsItems}
use Rattle.al_tree.specs.declared.item.Initializer.{Initializer, roll-Initializer, map-Initializer, fold-roll-Initializer}
use Rattle.al_tree.specs.declared.item.Initializer.TheVariants as ini
use Rattle.al_tree.specs.declared.item.Initializer.TheOpen.{Initializer-F}
use Rattle.al_tree.specs.declared.item.Parameter.{Parameter}
use Rattle.al_tree.specs.declared.item.Constant.{Constant}
use Rattle.al_tree.specs.declared.item.Head.{Head}
use Rattle.al_tree.specs.declared.item.Declarator.{Declarator}
use Rattle.al_tree.specs.declared.item.Item.{Item}
use Rattle.al_tree_walks.specs.Expressions.{name_places}
use Rattle.al_tree_places.specs.Names.{initializer_step, initializer_places, statement_places, head_places, parameter_places, constant_places, declarator_places, item_places}
use Rattle.al_tree_places.proofs.Times.{Within, within_is, nothing, behind, first, both, before, after, turned, some_of, joined_map, flat_one_more}
use Rattle.al_tree_places.proofs.ExpressionsAre.{asg_within}
use Rattle.al_tree_places.proofs.StatementsAre.{dcl_within, block_within}

abbrev step_of : Initializer-F Initializer → List Place
step_of z = initializer_step (map-Initializer Initializer (List Place) initializer_places z)

pub initializer_is : (z : Initializer-F Initializer) {x : Initializer} → roll-Initializer z ≡ x → initializer_places x ≡ step_of z
unfolding initializer_places
initializer_is z q = ap initializer_places (sym q) ∙ fold-roll-Initializer (List Place) initializer_step z

module _ (leaves : Leaves) where
  within_by : {u : List Token} (z : Initializer-F Initializer) {x : Initializer} → roll-Initializer z ≡ x → Within u (step_of z) → Within u (initializer_places x)
  within_by z q f = within_is (initializer_is z q) f

  abbrev T : Initializer → List Place
  T = initializer_places

  module _ (types : List ℕ) where
    mutual
      pub initializer_within : {u : List Token} {x : Initializer} {h : ℕ} → IsInitializer leaves types u x h → Within u (initializer_places x)
      initializer_within (g.value {x = x} d) = within_by _ (ini.rolls-Value x) (asg_within leaves types d)
      initializer_within (g.braces o c {u = u} {xs = xs} oc l ec) = within_by _ (ini.rolls-Braces o.place xs) (within_is (joined_map T xs) (behind o (before u (c ∷ []) (initializers_within l))))
      initializer_within (g.braces_comma o t c {u = u} {xs = xs} oc l tc ec) =
          within_by _ (ini.rolls-Braces o.place xs) (within_is (joined_map T xs) (behind o (before u (t ∷ c ∷ []) (initializers_within l))))

      pub initializers_within : {u : List Token} {xs : List Initializer} {h : ℕ} → IsInitializers leaves types u xs h → Within u (flat_map initializer_places xs)
      initializers_within (g.one {x = x} d) = within_is (append-nil (T x)) (initializer_within d)
      initializers_within (g.more t {u = u} {v = v} {xs = xs} {x = x} l c d) =
          within_is (flat_one_more T xs x) (both u (t ∷ v) (flat_map T xs) (T x) (initializers_within l) (behind t (initializer_within d)))

    pub parameter_within : {u : List Token} {x : Parameter} {h : ℕ} → IsParameter leaves types u x h → Within u (parameter_places x)
    parameter_within (g.named t {u = u} {v = v} {r = r} a b c d) = after (u ++ v) (t ∷ r) (first t (nothing r))
    parameter_within (g.unnamed {u = u} {v = v} a b) = nothing (u ++ v)
    parameter_within (g.unnamed_array {u = u} {v = v} {r = r} a b c d) = nothing (u ++ v ++ r)
    parameter_within (g.own_pointer w t a b) = nothing (w ∷ t ∷ [])
    parameter_within (g.own_value w t a b) = nothing (w ∷ t ∷ [])

    pub parameters_within : {u : List Token} {xs : List Parameter} {h : ℕ} → IsParameters leaves types u xs h → Within u (flat_map parameter_places xs)
    parameters_within (g.one {x = x} d) = within_is (append-nil (parameter_places x)) (parameter_within d)
    parameters_within (g.more t {u = u} {v = v} {xs = xs} {x = x} l c d) =
        within_is (flat_one_more parameter_places xs x) (both u (t ∷ v) (flat_map parameter_places xs) (parameter_places x) (parameters_within l) (behind t (parameter_within d)))

    pub parameter_list_within : {u : List Token} {xs : List Parameter} {h : ℕ} → IsParameterList leaves types u xs h → Within u (flat_map parameter_places xs)
    parameter_list_within g.none = nothing []
    parameter_list_within (g.void t c) = nothing (t ∷ [])
    parameter_list_within (g.some d c) = parameters_within d

    pub constant_within : {u : List Token} {x : Constant} {h : ℕ} → IsConstant leaves types u x h → Within u (constant_places x)
    constant_within (g.bare m a) = first m (nothing [])
    constant_within (g.set m t {x = x} a c d) = turned (m.place ∷ []) (name_places x) (first m (behind t (asg_within leaves types d)))

    pub constants_within : {u : List Token} {xs : List Constant} {h : ℕ} → IsConstants leaves types u xs h → Within u (flat_map constant_places xs)
    constants_within (g.one {x = x} d) = within_is (append-nil (constant_places x)) (constant_within d)
    constants_within (g.more t {u = u} {v = v} {xs = xs} {x = x} l c d) =
        within_is (flat_one_more constant_places xs x) (both u (t ∷ v) (flat_map constant_places xs) (constant_places x) (constants_within l) (behind t (constant_within d)))

    pub enum_within : {u : List Token} {xs : List Constant} {h : ℕ} → IsEnumBody leaves types u xs h → Within u (flat_map constant_places xs)
    enum_within (g.braces o c {u = u} oc l ec) = behind o (before u (c ∷ []) (constants_within l))
    enum_within (g.braces_comma o t c {u = u} oc l tc ec) = behind o (before u (t ∷ c ∷ []) (constants_within l))

  -- the name of a head, and its parameters
  pub head_within : {d : Declared} {inside : List ℕ} {u : List Token} {x : Head} {h : ℕ} → IsHead leaves d inside u x h → Within u (head_places x ++ flat_map parameter_places x.parameters)
  head_within (g.plain {d = d} t o c {u = u} {v = v} a b oc p ec) = after u (t ∷ o ∷ (v ++ c ∷ [])) (first t (behind o (before v (c ∷ []) (parameter_list_within d.types p))))
  head_within (g.of_adt {d = d} a p t o c {u = u} {v = v} s b pc e oc l ec) =
      after u (a ∷ p ∷ t ∷ o ∷ (v ++ c ∷ [])) (behind a (behind p (behind t (behind o (before v (c ∷ []) (parameter_list_within d.types l))))))
  head_within (g.of_parametrised {d = d} a l r p t o c {u = u} {w = w} {v = v} s b lc ns rc pc e oc ps ec) =
      after u (a ∷ l ∷ (w ++ r ∷ p ∷ t ∷ o ∷ (v ++ c ∷ []))) (behind a (behind l (after w (r ∷ p ∷ t ∷ o ∷ (v ++ c ∷ []))
      (behind r (behind p (behind t (behind o (before v (c ∷ []) (parameter_list_within _ ps)))))))))

  pub declarator_within : {d : Declared} {inside : List ℕ} {u : List Token} {x : Declarator} {h : ℕ} → IsDeclarator leaves d inside u x h → Within u (declarator_places x)
  declarator_within (g.global {d = d} a) = dcl_within leaves d.types a
  declarator_within (g.set {d = d} t {u = u} {v = v} {x = x} {y = y} a c i) = both u (t ∷ v) (x.name.at ∷ []) (initializer_places y) (dcl_within leaves d.types a) (behind t (initializer_within d.types i))
  declarator_within (g.function {x = x} a) = some_of (head_places x) (flat_map parameter_places x.parameters) (head_within a)

  pub declarators_within : {d : Declared} {inside : List ℕ} {u : List Token} {xs : List Declarator} {h : ℕ} → IsDeclarators leaves d inside u xs h → Within u (flat_map declarator_places xs)
  declarators_within (g.one {x = x} a) = within_is (append-nil (declarator_places x)) (declarator_within a)
  declarators_within (g.more t {u = u} {v = v} {xs = xs} {x = x} l c a) =
      within_is (flat_one_more declarator_places xs x) (both u (t ∷ v) (flat_map declarator_places xs) (declarator_places x) (declarators_within l) (behind t (declarator_within a)))

  pub item_within : {d after_item : Declared} {u : List Token} {x : Item} {h : ℕ} → IsItem leaves d u x after_item h → Within u (item_places x)
  item_within (g.typedef w t {u = u} {v = v} wc b a tc) = nothing (w ∷ (u ++ v ++ t ∷ []))
  item_within (g.function_type w m o c t {u = u} {v = v} {r = r} wc b a mc oc p ec tc) = nothing (w ∷ (u ++ v ++ m ∷ o ∷ (r ++ c ∷ t ∷ [])))
  item_within (g.forward w m t a mc tc) = nothing (w ∷ m ∷ t ∷ [])
  item_within (g.plain_members w m o c {u = u} {q = q} a mc oc l ec s) = nothing (w ∷ m ∷ o ∷ (u ++ c ∷ q))
  item_within (g.adt w m o c {u = u} {q = q} wc mc oc l ec s) = nothing (w ∷ m ∷ o ∷ (u ++ c ∷ q))
  item_within (g.parametrised w m l r o c {p = p} {u = u} {q = q} wc mc lc a rc oc b ec s) = nothing (w ∷ m ∷ l ∷ (p ++ r ∷ o ∷ (u ++ c ∷ q)))
  item_within (g.enum {d = d} w {u = u} {q = q} wc a s) = behind w (before u q (enum_within d.types a))
  item_within (g.named_enum w m {u = u} {q = q} wc mc a s) = behind w (behind m (before u q (enum_within _ a)))
  item_within (g.declare t {s = s} {u = u} {v = v} a b l tc) = before (s ++ u ++ v) (t ∷ []) (after (s ++ u) v (declarators_within l))
  item_within (g.function {d = d} {s = s} {u = u} {v = v} {b = b} {head = head} {body = body} a e f k) =
      both (s ++ u ++ v) b (head_places head ++ flat_map parameter_places head.parameters) (statement_places body)
      (after (s ++ u) v (head_within f)) (block_within leaves (body_types leaves d head.owner) k)

  pub items_within : {d : Declared} {u : List Token} {xs : List Item} {h : ℕ} → IsItems leaves u xs d h → Within u (flat_map item_places xs)
  items_within g.none = nothing []
  items_within (g.more {u = u} {v = v} {xs = xs} {x = x} l i) = within_is (flat_one_more item_places xs x) (both u v (flat_map item_places xs) (item_places x) (items_within l) (item_within i))
