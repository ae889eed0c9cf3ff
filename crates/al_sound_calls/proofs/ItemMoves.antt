-- The items of a text, one after the other: each definition of a function outside of adts has the signature of its name.
use Rattle.std.proofs.Common.{◌≡◌, ℕ, Bool, true, false, List, [], ◌∷◌, fold, flat_map, Option, Some, None, refl}
use Rattle.std.specs.Prelude.{is_some, ⊤}
use Rattle.al_base.specs.declared.place.Place.{Place}
use Rattle.al_tree.specs.declared.constants.EnumConstant.{EnumConstant}
use Rattle.al_tree.specs.declared.expression.Name.{Name}
use Rattle.al_tree.specs.declared.type_tree.Dcl.{Dcl}
use Rattle.al_tree.specs.declared.type_tree.TypeTree.{TypeTree}
use Rattle.al_tree.specs.declared.statement.Stmt.{Stmt}
use Rattle.al_tree.specs.declared.item.Scope.{Scope}
use Rattle.al_tree.specs.declared.item.Owner.{Owner}
use Rattle.al_tree.specs.declared.item.Head.{Head}
use Rattle.al_tree.specs.declared.item.Constant.{Constant}
use Rattle.al_tree.specs.declared.item.Declarator.{Declarator}
use Rattle.al_tree.specs.declared.item.Declarator.TheVariants as declarator
use Rattle.al_tree.specs.declared.item.Item.{Item}
use Rattle.al_tree.specs.declared.item.Item.TheVariants as item
use Rattle.al_scope.specs.Firsts.{declaration_at}
use Rattle.al_scope.specs.Names.{global}
use Rattle.al_scope.specs.Types.{each, type_tree, dcl_bounds}
use Rattle.al_scope.specs.Items.{adt_member, declarator_way, enum_constant, function_if, initializer, item_way, member, prototype, valued}
use Rattle.al_declare.specs.Types as dt
use Rattle.al_declare.specs.Expressions as de
use Rattle.al_declare.specs.Items as di
use Rattle.al_environment.specs.declared.environment.Environment.{Environment}
use Rattle.al_environment.specs.Written.{written}
use Rattle.al_typed.specs.declared.ty.Ty.{Ty}
use Rattle.al_type_rules.specs.Written.{faults_in}
use Rattle.al_type_rules.specs.Types.{declared, known, signature_faults, typedef_faults, variable_faults}
use Rattle.al_type_rules.specs.Members.{member_faults}
use Rattle.al_globals.specs.declared.found.Found.{Found}
use Rattle.al_globals.specs.Globals.{global_in, is_private_word, outside, with_base_dcl, with_dcl, with_declarator, with_faults, with_global, with_global_if, with_item, with_owner, with_type}
use Rattle.al_sound_calls.proofs.Unnamed.{Asked, Text, Walk}
use Rattle.al_sound_calls.proofs.Lists.{Every}
use Rattle.al_sound_calls.proofs.Walks.{dcl_stays, each_stays, optional_stays, same, type_stays, next}
use Rattle.al_sound_calls.proofs.Parts.{defined_stays, each_bounds, initializer_stays, member_stays, part_stays, valued_stays}
use Rattle.al_sound_calls.proofs.Declares.{nil_first}
use Rattle.al_sound_calls.proofs.Declares as declares
use Rattle.al_sound_calls.proofs.Joint.{IsGood, IsKept, IsStill, Joint, Lasts, Moves, kept_quiet, kept_then, moves_then, stay, still, still_then}
use Rattle.al_sound_calls.proofs.FunctionNames.{name_kept}
use Rattle.al_sound_calls.proofs.FunctionMoves.{IsHead, constant_moves, function_moves, global_moves, head_lasts}

faults_still : (g : Found) (fs : _) → IsStill g (with_faults g fs)
faults_still g fs = record { functions = refl; faults = nil_first g.faults fs }

global_still : (g : Found) (at : Place) (o : Option ℕ) (t : Ty) (p v : Bool) → IsStill g (with_global_if g at o t p v)
unfolding with_global
global_still g at None t p v = still g
global_still g at (Some n) t p v = record { functions = refl; faults = nil_first g.faults _ }

module _ (env : Environment) (ns : List (Option ℕ)) (text : Text) (c : List EnumConstant) where
  dcl_still : (p : Bool) (base : TypeTree) (g : Found) (dcl : Dcl) (v : Bool) → IsStill g (with_base_dcl env outside p base g dcl v)
  unfolding with_dcl
  dcl_still p base g dcl v =
      let t = with_type env outside g base in
      let f = variable_faults env (written env outside base) dcl in
      still_then (faults_still g (faults_in env outside base)) (still_then (faults_still t f)
      (global_still (with_faults t f) dcl.name.at (global_in (declaration_at env.scopes.names dcl.name.at)) (known (declared env (written env outside base) dcl)) p v))

  -- ---- heads

  head_moves : (b : Bool) (o : Option Owner) (base : TypeTree) (h : Head) (w : Walk) (a : Asked) (g : Found)
      → Moves env ns w a g (function_if o h.name w) (di.function_if b o h.name text a) (with_owner env outside ns o b base g h)
      × (o ≡ None → IsGood env ns (function_if o h.name w) (di.function_if b o h.name text a) (with_owner env outside ns o b base g h) → Joint env ns w a g
      → IsHead env ns text (function_if o h.name w) (with_owner env outside ns o b base g h) base h)
  unfolding function_if di.function_if
  head_moves b None base h w a g = let m = function_moves env ns text _ refl b base h w a g in (m.0, λ e x j. m.1 x j)
  head_moves b (Some owner) base h w a g = (stay env ns (same w) (kept_quiet (declares.same a)) (still g), λ e x j. absurd (let f : ⊥ = cc in f))

  -- ---- declarators

  declarator_moves : (p : Bool) (base : TypeTree) (d : Declarator) (w : Walk) (a : Asked) (g : Found)
      → Moves env ns w a g (declarator_way d c w) (di.declarator_way d text a) (with_declarator env outside ns p base g d)
  unfolding declarator_way di.declarator_way with_declarator prototype di.prototype
  declarator_moves p base (declarator.Global dcl value) w a g =
      moves_then env ns (stay env ns (dcl_stays c dcl w) (kept_quiet (declares.dcl_quiet text dcl a)) (still g))
      (moves_then env ns (global_moves env ns text dcl.name _ refl (dcl_bounds dcl c w) (dt.dcl_bounds dcl text a) (dcl_still p base g dcl (is_some value)))
      (stay env ns (optional_stays c initializer (initializer_stays c) value (global dcl.name (dcl_bounds dcl c w)))
      (kept_quiet (declares.optional_quiet text di.initializer (declares.initializer_quiet text) value _)) (still (with_base_dcl env outside p base g dcl (is_some value)))))
  declarator_moves p base (declarator.Function h) w a g =
      let m = head_moves false h.owner base h w a g in
      moves_then env ns m.0 (stay env ns (each_bounds c h.parameters (function_if h.owner h.name w)) (kept_quiet (declares.scope_quiet text None h.parameters _)) (still _))

  declarators_move : (p : Bool) (base : TypeTree) (ds : List Declarator) (w : Walk) (a : Asked) (g : Found)
      → Moves env ns w a g (each declarator_way ds c w) (dt.each di.declarator_way ds text a) (fold (with_declarator env outside ns p base) g ds)
  declarators_move p base [] w a g = stay env ns (same w) (kept_quiet (declares.same a)) (still g)
  declarators_move p base (d ∷ ds) w a g = moves_then env ns (declarator_moves p base d w a g) (declarators_move p base ds _ _ _)

  -- ---- enum constants

  constants_move : (ds : List Constant) (w : Walk) (a : Asked) (g : Found) → Moves env ns w a g (each enum_constant ds c w) (dt.each di.enum_constant ds text a) g
  unfolding enum_constant di.enum_constant
  constants_move [] w a g = stay env ns (same w) (kept_quiet (declares.same a)) (still g)
  constants_move (d ∷ ds) w a g =
      moves_then env ns (stay env ns (valued_stays c d.value w) (kept_quiet (declares.optional_quiet text de.expr (declares.expr_quiet text) d.value a)) (still g))
      (moves_then env ns (constant_moves env ns text d.name _ refl (valued d.value c w) (dt.optional de.expr d.value text a) (still g)) (constants_move ds _ _ g))

  enum_name_kept : (o : Option Name) (a : Asked) → IsKept a (di.enum_name o text a)
  enum_name_kept None a = kept_quiet (declares.same a)
  enum_name_kept (Some name) a = name_kept text name _ a

  -- ---- items

  -- a definition outside of adts has the signature of its name
  abbrev pub ItemDone : Walk → Found → Item → Type 0
  ItemDone w g (item.Function at scope base head body) = head.owner ≡ None → IsHead env ns text w g base head
  ItemDone w g _ = ⊤

  done_lasts : {w u : Walk} {g h : Found} (x : Item) → Lasts w g u h → ItemDone w g x → ItemDone u h x
  done_lasts (item.Function at scope base head body) l d = λ e. head_lasts env ns text l (d e)
  done_lasts (item.Typedef at base dcl) l d = tt
  done_lasts (item.FunctionType at base stars name ps) l d = tt
  done_lasts (item.Forward at kind name) l d = tt
  done_lasts (item.Aggregate at kind name members) l d = tt
  done_lasts (item.Adt at name ps members) l d = tt
  done_lasts (item.Enum at name list) l d = tt
  done_lasts (item.Declare at scope base list) l d = tt

  abbrev Done : Item → Walk → Asked → Found → Type 0
  Done x w a g =
      Moves env ns w a g (item_way x c w) (di.item_way x text a) (with_item env outside ns g x)
      × (IsGood env ns (item_way x c w) (di.item_way x text a) (with_item env outside ns g x) → Joint env ns w a g → ItemDone (item_way x c w) (with_item env outside ns g x) x)

  function_done : (at : Place) (scope : Option Scope) (base : TypeTree) (head : Head) (block : Stmt) (w : Walk) (a : Asked) (g : Found) → Done (item.Function at scope base head block) w a g
  unfolding item_way di.item_way with_item di.definition
  function_done at scope base head block w a g =
      let v = type_tree base c w in
      let b = dt.type_tree base text a in
      let m = head_moves true head.owner base head v b g in
      let first = stay env ns (type_stays c base w) (kept_quiet (declares.type_quiet text base a)) (still g) in
      let last = stay env ns (defined_stays c head.parameters block (function_if head.owner head.name v))
      (kept_quiet (declares.next (declares.owner_quiet text head.at head.owner (di.function_if true head.owner head.name text b))
      (declares.definition_quiet text head.parameters block (di.owner_of_definition head.at head.owner text (di.function_if true head.owner head.name text b))))) (still (with_owner env outside ns head.owner true base g head)) in (
        moves_then env ns first (moves_then env ns m.0 last),
        λ x j. λ e.
            let after = last.good x in
            let before = m.0.good after in
            let k = first.joint before j in
            head_lasts env ns text (last.joint x (m.0.joint after k.0).0).1 (m.1 e after k.0),
      )

  item_done : (x : Item) (w : Walk) (a : Asked) (g : Found) → Done x w a g
  unfolding item_way di.item_way with_item
  item_done (item.Typedef at base dcl) w a g = (
    stay env ns (next (type_stays c base w) (dcl_stays c dcl (type_tree base c w)))
        (kept_then (kept_quiet (declares.next (declares.type_quiet text base a) (declares.dcl_quiet text dcl (dt.type_tree base text a)))) (name_kept text dcl.name _ _))
        (still_then (faults_still g (faults_in env outside base)) (faults_still (with_type env outside g base) (typedef_faults env (written env outside base) dcl))),
    λ x j. tt,
  )
  item_done (item.FunctionType at base stars name ps) w a g = (
    stay env ns (next (type_stays c base w) (each_bounds c ps (type_tree base c w)))
        (kept_then (kept_quiet (declares.next (declares.type_quiet text base a) (declares.scope_quiet text None ps (dt.type_tree base text a)))) (name_kept text name _ _))
        (still_then (faults_still g (faults_in env outside base)) (faults_still (with_type env outside g base) (signature_faults env outside at base stars ps))),
    λ x j. tt,
  )
  item_done (item.Forward at kind name) w a g = (stay env ns (same w) (name_kept text name _ a) (still g), λ x j. tt)
  item_done (item.Aggregate at kind name members) w a g = (
    stay env ns (each_stays c member (member_stays c) members w)
        (kept_then (name_kept text name _ a) (kept_quiet (declares.each_quiet text di.member (declares.member_quiet text) members _)))
        (faults_still g (flat_map (member_faults env outside) members)),
    λ x j. tt,
  )
  item_done (item.Adt at name ps members) w a g = (
    stay env ns (each_stays c adt_member (λ m v. part_stays c m.part v) members w)
        (kept_then (name_kept text name _ a) (kept_quiet (declares.next (declares.adt_parameters_quiet text ps _)
        (declares.each_quiet text (di.adt_member name.name) (λ m b. declares.part_quiet text name.name m.part b) members _)))) (still g),
    λ x j. tt,
  )
  item_done (item.Enum at name list) w a g = (
    moves_then env ns (stay env ns (same w) (enum_name_kept name a) (still g)) (constants_move list w (di.enum_name name text a) g),
    λ x j. tt,
  )
  item_done (item.Declare at scope base list) w a g = (
    moves_then env ns (stay env ns (type_stays c base w) (kept_quiet (declares.type_quiet text base a)) (still g))
        (declarators_move (is_private_word scope) base list (type_tree base c w) (dt.type_tree base text a) g),
    λ x j. tt,
  )
  item_done (item.Function at scope base head block) w a g = function_done at scope base head block w a g

  pub items_done : (xs : List Item) (w : Walk) (a : Asked) (g : Found)
      → Moves env ns w a g (each item_way xs c w) (dt.each di.item_way xs text a) (fold (with_item env outside ns) g xs)
      × (IsGood env ns (each item_way xs c w) (dt.each di.item_way xs text a) (fold (with_item env outside ns) g xs) → Joint env ns w a g
      → Every (ItemDone (each item_way xs c w) (fold (with_item env outside ns) g xs)) xs)
  items_done [] w a g = (stay env ns (same w) (kept_quiet (declares.same a)) (still g), λ x j. tt)
  items_done (y ∷ ys) w a g =
      let m = item_done y w a g in
      let rest = items_done ys (item_way y c w) (di.item_way y text a) (with_item env outside ns g y) in (
        moves_then env ns m.0 rest.0,
        λ x j.
            let after = rest.0.good x in
            let k = m.0.joint after j in
            (done_lasts y (rest.0.joint x k.0).1 (m.1 after j), rest.1 x k.0),
      )
