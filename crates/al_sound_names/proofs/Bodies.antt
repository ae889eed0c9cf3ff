-- The body of a unit is well typed with its names.
use Rattle.std.proofs.Common.{◌≡◌, ℕ, ◌<◌, ◌≤◌, true, List, [], ◌∷◌, ◌++◌, map, length, Some, refl, sym, ap, ◌∙◌, subst, ◌⊎◌, inl, inr}
use Rattle.std.specs.Prelude.{All, Contains, slice_get}
use Rattle.std.proofs.lemmas.List.Elements.{All-contains}
use Rattle.al_base.specs.declared.place.Place.{Place}
use Rattle.al_rules.specs.Outcome.{Good}
use Rattle.al_tree.specs.declared.item.Tree.{Tree}
use Rattle.al_tree.specs.declared.statement.Stmt.{Stmt, out-Stmt}
use Rattle.al_tree.specs.declared.statement.Stmt.TheOpen.{Stmt-F}
use Rattle.al_tree_walks.specs.Statements.{branches}
use Rattle.al_tree_places.specs.Apart.{AreApart, HasBody}
use Rattle.al_tree_places.specs.Jumps.{jump_places}
use Rattle.al_typed.specs.declared.program.Function.{Function}
use Rattle.al_typed.specs.declared.program.Program.{Program}
use Rattle.al_typed.specs.declared.ty.Ty.{Ty}
use Rattle.al_typed.specs.Alike.{are_alike}
use Rattle.al_typed.specs.WellTyped.{IsStatement, Scope, is_sound, labels_in, rescues_in}
use Rattle.al_convert.proofs.Alikes.{alike}
use Rattle.al_branches.specs.Statements.{place}
use Rattle.al_declare.specs.declared.function.Defined.{Defined}
use Rattle.al_environment.specs.declared.environment.Environment.{Environment}
use Rattle.al_environment.specs.declared.environment.Here.{Here}
use Rattle.al_environment.specs.declared.numbered.Numbered.{Numbered}
use Rattle.al_body_parts.specs.Statements.{parts}
use Rattle.al_flow.specs.Flow.{marks, targets}
use Rattle.al_type_stmt.specs.declared.within.Choice.TheVariants as choice
use Rattle.al_type_stmt.specs.declared.within.Within.{Within}
use Rattle.al_type_stmt.specs.Statements.{branch_at, of_each, statement}
use Rattle.al_sound_operators.proofs.Outcomes.{if_good}
use Rattle.al_sound_nodes.specs.Nodes.{Tells}
use Rattle.al_sound_environment.specs.Tells.{any_scope}
use Rattle.al_sound_statements.specs.Named.{BodiesAreNamed, IsNamedBody, Leads}
use Rattle.al_sound_statements.specs.Statements.{nest_of}
use Rattle.al_sound_statements.proofs.TypesGathered.{types_are_gathered}
use Rattle.al_sound_programs.proofs.Frames.{all_hold, written_hold}
use Rattle.al_sound_flow.specs.Flow.{HasTargets, label_numbers, rescue_numbers}
use Rattle.al_sound_flow.specs.Flow as flow
use Rattle.al_sound_flow.proofs.FlowIs.{bodies_have_targets}
use Rattle.al_sound_rows.specs.Units.{HasBranches, IsUnit, of_branch, of_function}
use Rattle.al_sound_names.proofs.Named.{AreRoomy, Unit_of, address_shared, name_reached, scope_in, typed_of}
use Rattle.al_sound_names.proofs.TellsNames.{NumbersLead, names_told}
use Rattle.al_sound_names.proofs.Walks.{statement_holds}

-- ---- the function that a unit is in

-- The body of an item that a unit is, or is a branch in.
pub record IsRooted (tree : Tree) (w : Within) (u : Stmt) : Type 0 where
  pub item : ℕ
  pub body : Stmt
  pub has : HasBody tree item body
  pub flow : targets body ≡ Good w.targets
  pub among : (body ≡ u) ⊎ Contains (branches body) u

pub rooted : (env : Environment) (tree : Tree) (ds : List Defined) (strings : ℕ) (rows : List Function) (number : ℕ) (f : Function) (w : Within) (here : Here) (u : Stmt)
    → IsUnit env tree ds strings rows number f w here u → IsRooted tree w u
rooted env tree ds strings rows _ _ _ _ _ (of_function number f w here u stands is) = record {
  item = is.defined.item;
  body = u;
  has = record { at = is.at; scope = is.scope; base = is.base; head = is.head; is = is.stands };
  flow = is.flow;
  among = inl refl;
}
rooted env tree ds strings rows _ _ _ _ _ (of_branch outer g v there s number f w here u parent stands is) =
    let r = rooted env tree ds strings rows outer g v there s parent in
    record {
      item = r.item;
      body = r.body;
      has = r.has;
      flow = r.flow ∙ ap (λ (x : Within). Good x.targets) (sym is.within);
      among = inr (on r.body r.among);
    }
  where
    near : Contains (branches s) u
    near = (statement_holds s).near u is.among

    on : (body : Stmt) → (body ≡ s) ⊎ Contains (branches body) s → Contains (branches body) u
    on body (inl e) = subst (λ (x : Stmt). Contains (branches x) u) (sym e) near
    on body (inr c) = (statement_holds body).deep s u c near

-- the strings of a unit are the program's
pub texts_of : (env : Environment) (tree : Tree) (ds : List Defined) (strings : ℕ) (rows : List Function) (number : ℕ) (f : Function) (w : Within) (here : Here) (u : Stmt)
    → IsUnit env tree ds strings rows number f w here u → All (λ (n : Numbered). n.number < strings) here.texts
texts_of env tree ds strings rows _ _ _ _ _ (of_function number f w here u stands is) = is.texts
texts_of env tree ds strings rows _ _ _ _ _ (of_branch outer g v there s number f w here u parent stands is) =
    subst (λ (x : Here). All (λ (n : Numbered). n.number < strings) x.texts) (sym is.entered) (texts_of env tree ds strings rows outer g v there s parent)

-- what a unit returns is sound
pub returns_of : (env : Environment) (tree : Tree) (ds : List Defined) (strings : ℕ) (rows : List Function) (number : ℕ) (f : Function) (w : Within) (here : Here) (u : Stmt)
    → IsUnit env tree ds strings rows number f w here u → is_sound env.aggregates w.returns ≡ true
returns_of env tree ds strings rows _ _ _ _ _ (of_function number f w here u stands is) = subst (λ t. is_sound env.aggregates t ≡ true) is.typed.returns is.sound
returns_of env tree ds strings rows _ _ _ _ _ (of_branch outer g v there s number f w here u parent stands is) =
    subst (λ (x : Within). is_sound env.aggregates x.returns ≡ true) (sym is.within) refl

-- ---- a body

module _ (env : Environment) (tree : Tree) (ds : List Defined) (strings : ℕ) (p : Program) (aggregates : p.aggregates ≡ env.aggregates) (texts : strings ≡ length p.strings)
    (few : length p.functions ≤ 4294967296) (roomy : AreRoomy env tree ds strings p aggregates) (lead : NumbersLead env p)
    (jumps : (k : ℕ) (body : Stmt) → HasBody tree k body → AreApart (jump_places body)) (law : BodiesAreNamed)
    (some functions : ℕ) (outside : Here) (any : Tells (any_scope env some functions 0) env outside) where
  module _ (number : ℕ) (f : Function) (w : Within) (here : Here) (u : Stmt) (is : Unit_of env tree ds strings p aggregates number f w here u)
      (pars : HasBranches p.functions number f w u) where
    abbrev S : Scope
    S = scope_in env tree ds strings p aggregates few roomy f 0

    pub targets_are : HasTargets w.targets u
    targets_are =
        let r = rooted env tree ds strings p.functions number f w here u is in
        on r.body r.flow (jumps r.item r.body r.has) r.among
      where
        on : (body : Stmt) → targets body ≡ Good w.targets → AreApart (jump_places body) → (body ≡ u) ⊎ Contains (branches body) u → HasTargets w.targets u
        on body good apart (inl e) = subst (HasTargets w.targets) e (bodies_have_targets.body body w.targets good apart)
        on body good apart (inr c) = bodies_have_targets.branch body w.targets good apart u c

    pub numbered : (labels_in f.body ≡ label_numbers 0 (marks u)) × (rescues_in f.body ≡ rescue_numbers 0 (marks u))
    numbered =
        let t = typed_of env tree ds strings p aggregates number f w here u is in
        targets_are.labels w env here f.body refl t.typed.body

    leads_so : (b l : ℕ) (z : Stmt-F Stmt) → flow.Leads w.targets (label_numbers 0 (marks u)) (rescue_numbers 0 (marks u)) b l z
        → ((at : Place) (bodies : List Stmt) → z ≡ Stmt-F.Par at bodies → (ns : List ℕ) → of_each (branch_at w) (map place bodies) ≡ Good ns
        → (1 ≤ length ns) × (length ns ≤ 64) × All (λ n. (b : Function) × (slice_get p.functions n ≡ Some b) × (b.around ≡ f.around ++ number ∷ [])) ns) → Leads S number w b l z
    leads_so b l (Stmt-F.Goto at name) h k = λ n q. subst (λ ls. Contains ls n) (sym numbered.0) (h n q)
    leads_so b l (Stmt-F.Raise at name) h k = λ n q. subst (λ ls. Contains ls n) (sym numbered.1) (h n q)
    leads_so b l (Stmt-F.Break at count) h k = h
    leads_so b l (Stmt-F.Continue at count) h k = h
    leads_so b l (Stmt-F.Par at bodies) h k = λ ns q.
        let x = k at bodies refl ns q in (x.0, (x.1, all_so ns x.2))
      where
        all_so : (ns : List ℕ) → All (λ n. (b : Function) × (slice_get p.functions n ≡ Some b) × (b.around ≡ f.around ++ number ∷ [])) ns
            → All (λ n. (b : Function) × ((slice_get p.functions n ≡ Some b) × (b.around ≡ f.around ++ number ∷ []))) ns
        all_so ns h i d lt = let x = h i d lt in (x.0, (x.1, x.2))
    leads_so b l (Stmt-F.Empty at) h k = tt
    leads_so b l (Stmt-F.Block at body) h k = tt
    leads_so b l (Stmt-F.Declare at base variables) h k = tt
    leads_so b l (Stmt-F.Value at e) h k = tt
    leads_so b l (Stmt-F.Label at name body) h k = tt
    leads_so b l (Stmt-F.If at e met other) h k = tt
    leads_so b l (Stmt-F.While at e body) h k = tt
    leads_so b l (Stmt-F.Do at body e) h k = tt
    leads_so b l (Stmt-F.For at start e next body) h k = tt
    leads_so b l (Stmt-F.Switch at e body) h k = tt
    leads_so b l (Stmt-F.Alt at body) h k = tt
    leads_so b l (Stmt-F.Case at e) h k = tt
    leads_so b l (Stmt-F.Default at) h k = tt
    leads_so b l (Stmt-F.Rescue at name body) h k = tt
    leads_so b l (Stmt-F.Return at e) h k = tt
    leads_so b l (Stmt-F.Become at e) h k = tt
    leads_so b l (Stmt-F.Alloc at es) h k = tt
    leads_so b l (Stmt-F.Unalloc at es) h k = tt
    leads_so b l (Stmt-F.Check at e text) h k = tt
    leads_so b l (Stmt-F.Proc at es) h k = tt
    leads_so b l (Stmt-F.Task at es) h k = tt

    is_named : IsNamedBody S number w env here u
    is_named =
        let t = typed_of env tree ds strings p aggregates number f w here u is in
        record {
          tells = names_told env tree ds strings p aggregates few roomy lead some functions 0 outside any number f w here u is;
          returned = sym t.typed.returns;
          returns = subst (λ rows. is_sound rows w.returns ≡ true) (sym aggregates) (returns_of env tree ds strings p.functions number f w here u is);
          hands_on = λ a q. ap (are_alike a) t.typed.returns ∙ sym (alike a w.returns) ∙ q;
          texts = subst (λ n. All (λ (x : Numbered). x.number < n) here.texts) texts (texts_of env tree ds strings p.functions number f w here u is);
          no_iterators = t.typed.iterators;
          reached = name_reached env tree ds strings p aggregates few roomy number f w here u is 0;
          shared = address_shared env tree ds strings p aggregates few roomy number f w here u is 0;
          types = λ x c v e.
              subst (λ rows. is_sound rows v ≡ true) (sym aggregates)
              (All-contains (λ (y : Ty). is_sound env.aggregates y ≡ true) (parts env t.outside u).types v
              (all_hold (is_sound env.aggregates) (parts env t.outside u).types (written_hold env.aggregates f.locals (parts env t.outside u).types t.typed.sound))
              (types_are_gathered.types env here t.outside (sym t.typed.own) u x c v e));
          leads = λ x c. leads_so x.breaks x.loops (out-Stmt x.tree) (targets_are.leads x c) (pars.pars x c);
        }

    pub body_is : IsStatement S (nest_of number 0 0 choice.Neither) f.body
    body_is =
        let t = typed_of env tree ds strings p aggregates number f w here u is in
        if_good (IsStatement S (nest_of number 0 0 choice.Neither)) (statement w env here u) f.body (law.body S number w env here u is_named) t.typed.body
