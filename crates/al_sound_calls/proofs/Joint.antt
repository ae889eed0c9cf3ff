-- What is true of functions outside of adts while the items of a text are walked: their names are resolved, declared and given types together.
use Rattle.std.proofs.Common.{◌≡◌, ℕ, Bool, true, false, nat_eq, cond, List, [], ◌∷◌, ◌++◌, length, reverse, Option, Some, None, option_map, refl, sym, ap, ◌∙◌}
use Rattle.std.specs.Prelude.{slice_get}
use Rattle.std.specs.List.{Contains, find}
use Rattle.std.specs.Map.{lookup}
use Rattle.std.proofs.lemmas.List.{reverse-append}
use Rattle.std.proofs.lemmas.Bool.{eqb-true, eq-eqb}
use Rattle.indexmap.specs.IndexMap.{insert_entry}
use Rattle.al_tree.specs.declared.expression.Name.{Name}
use Rattle.al_scope.specs.declared.declaration.Declaration.{Declaration}
use Rattle.al_scope.specs.declared.declaration.Declaration.TheVariants as declaration
use Rattle.al_scope.specs.declared.declaration.Resolved.{Resolved}
use Rattle.al_scope.specs.Firsts.{declaration_at}
use Rattle.al_scope.specs.Names.{known, latest, meant, seen_from}
use Rattle.al_declare.specs.Rules.{what_number}
use Rattle.al_declare.specs.Asking.{found}
use Rattle.al_environment.specs.declared.environment.Environment.{Environment}
use Rattle.al_environment.specs.declared.environment.Signature.{Signature}
use Rattle.al_globals.specs.Numbers.{number_of}
use Rattle.al_globals.specs.declared.found.Found.{Found}
use Rattle.al_sound_calls.proofs.Unnamed.{Asked, KnownNames, MaybeDeclared, Walk}
use Rattle.al_sound_calls.proofs.Lists.{some_is}
use Rattle.al_sound_calls.proofs.Walks.{Stays}
use Rattle.al_sound_calls.proofs.Declares.{IsQuiet}

-- ---- what names stand for, with one more

pub latest_is : (ks : KnownNames) (name : ℕ) (d : Declaration) → latest (ks ++ known name d ∷ []) name ≡ Some d
unfolding latest
latest_is ks name d =
    ap (λ l. option_map (λ k. k.declaration) (find (λ k. nat_eq k.name name) l)) (reverse-append ks (known name d ∷ []))
    ∙ ap (λ b. option_map (λ k. k.declaration) (cond b (Some (known name d)) (find (λ k. nat_eq k.name name) (reverse ks)))) (eq-eqb name name refl)

pub latest_other : (ks : KnownNames) (name : ℕ) (d : Declaration) (q : ℕ) → nat_eq name q ≡ false → latest (ks ++ known name d ∷ []) q ≡ latest ks q
unfolding latest
latest_other ks name d q h =
    ap (λ l. option_map (λ k. k.declaration) (find (λ k. nat_eq k.name q) l)) (reverse-append ks (known name d ∷ []))
    ∙ ap (λ b. option_map (λ k. k.declaration) (cond b (Some (known name d)) (find (λ k. nat_eq k.name q) (reverse ks)))) h

pub latest_from : (w : Walk) (q n : ℕ) → meant w q ≡ Some (declaration.Function n) → latest w.known q ≡ Some (declaration.Function n)
unfolding meant seen_from
latest_from w q n h = go (latest w.known q) h
  where
    outer : (own k : ℕ) (b : Bool) → Some (cond b (declaration.Local k) (declaration.Outer own k)) ≡ Some (declaration.Function n) → Some (declaration.Outer own k) ≡ Some (declaration.Function n)
    outer own k true e = absurd (cc)
    outer own k false e = absurd (cc)

    go : (o : Option Declaration) → option_map (seen_from (length w.around)) o ≡ Some (declaration.Function n) → o ≡ Some (declaration.Function n)
    go None e = absurd (cc)
    go (Some (declaration.Global k)) e = e
    go (Some (declaration.Function k)) e = e
    go (Some (declaration.Constant k)) e = e
    go (Some (declaration.Local k)) e = e
    go (Some (declaration.Outer own k)) e = outer own k (nat_eq own (length w.around)) e
    go (Some declaration.Print) e = e
    go (Some declaration.Terminate) e = e

pub meant_from : (w : Walk) (q n : ℕ) → latest w.known q ≡ Some (declaration.Function n) → meant w q ≡ Some (declaration.Function n)
unfolding meant seen_from
meant_from w q n h = ap (option_map (seen_from (length w.around))) h

-- ---- what is declared

module _ {V : Type 0} where
  pub put_is : (es : List (ℕ × V)) (k : ℕ) (v : V) → lookup (nat_eq k) (insert_entry nat_eq es k v) ≡ Some v
  put_is [] k v = ap (λ b. cond b (Some v) None) (eq-eqb k k refl)
  put_is (e ∷ es) k v = go (nat_eq k e.0) refl (put_is es k v)
    where
      go : (b : Bool) → nat_eq k e.0 ≡ b → lookup (nat_eq k) (insert_entry nat_eq es k v) ≡ Some v → lookup (nat_eq k) (cond b ((e.0, v) ∷ es) (e ∷ insert_entry nat_eq es k v)) ≡ Some v
      go true h rest = ap (λ b. cond b (Some v) (lookup (nat_eq k) es)) h
      go false h rest = ap (λ b. cond b (Some e.1) (lookup (nat_eq k) (insert_entry nat_eq es k v))) h ∙ rest

  pub put_other : (es : List (ℕ × V)) (k : ℕ) (v : V) (q : ℕ) → nat_eq q k ≡ false → lookup (nat_eq q) (insert_entry nat_eq es k v) ≡ lookup (nat_eq q) es
  put_other [] k v q h = ap (λ b. cond b (Some v) None) h
  put_other (e ∷ es) k v q h = go (nat_eq k e.0) refl (put_other es k v q h)
    where
      go : (b : Bool) → nat_eq k e.0 ≡ b → lookup (nat_eq q) (insert_entry nat_eq es k v) ≡ lookup (nat_eq q) es
          → lookup (nat_eq q) (cond b ((e.0, v) ∷ es) (e ∷ insert_entry nat_eq es k v)) ≡ cond (nat_eq q e.0) (Some e.1) (lookup (nat_eq q) es)
      go true same rest =
          let other : nat_eq q e.0 ≡ false = ap (nat_eq q) (sym (eqb-true k e.0 same)) ∙ h in
          ap (λ b. cond b (Some v) (lookup (nat_eq q) es)) other ∙ sym (ap (λ b. cond b (Some e.1) (lookup (nat_eq q) es)) other)
      go false other rest = ap (λ o. cond (nat_eq q e.0) (Some e.1) o) rest

-- declared as a function
abbrev pub is_function_name : MaybeDeclared → Bool
is_function_name None = false
is_function_name (Some d) = nat_eq (what_number d.what) 5

-- what was a function's name is one
pub record IsKept (a b : Asked) : Type 0 where
  pub names : (q : ℕ) → is_function_name (found a.names q) ≡ true → is_function_name (found b.names q) ≡ true
  pub faults : b.faults ≡ [] → a.faults ≡ []

pub kept_quiet : {a b : Asked} → IsQuiet a b → IsKept a b
kept_quiet {a} {b} k = record { names = λ q h. ap (λ l. is_function_name (found l q)) k.names ∙ h; faults = k.faults }

pub kept_then : {a b d : Asked} → IsKept a b → IsKept b d → IsKept a d
kept_then p q = record { names = λ n h. q.names n (p.names n h); faults = λ h. p.faults (q.faults h) }

-- ---- what is found of types

pub record IsStill (g h : Found) : Type 0 where
  pub functions : h.functions ≡ g.functions
  pub faults : h.faults ≡ [] → g.faults ≡ []

pub still : (g : Found) → IsStill g g
still g = record { functions = refl; faults = λ h. h }

pub still_then : {g h k : Found} → IsStill g h → IsStill h k → IsStill g k
still_then p q = record { functions = q.functions ∙ p.functions; faults = λ h. p.faults (q.faults h) }

-- ---- all together

-- what was there at a number is there
pub record Lasts (w : Walk) (g : Found) (u : Walk) (h : Found) : Type 0 where
  pub functions : (n : ℕ) (x : Name) → slice_get w.functions n ≡ Some x → slice_get u.functions n ≡ Some x
  pub signatures : (n : ℕ) (s : Signature) → slice_get g.functions n ≡ Some s → slice_get h.functions n ≡ Some s

pub lasts_then : {w v u : Walk} {g h k : Found} → Lasts w g v h → Lasts v h u k → Lasts w g u k
lasts_then p q = record { functions = λ n x e. q.functions n x (p.functions n x e); signatures = λ n s e. q.signatures n s (p.signatures n s e) }

module _ (env : Environment) (ns : List (Option ℕ)) where
  -- there are no faults, and entries are found at their places
  pub record IsGood (w : Walk) (a : Asked) (g : Found) : Type 0 where
    pub found : (r : Resolved) → Contains w.names r → declaration_at env.scopes.names r.at ≡ Some r.declaration
    pub asked : a.faults ≡ []
    pub told : g.faults ≡ []

  -- The name of each function stands for it, and for nothing else. It has a signature, with the number of the name's body.
  pub record Joint (w : Walk) (a : Asked) (g : Found) : Type 0 where
    pub stands : (n : ℕ) (x : Name) → slice_get w.functions n ≡ Some x → latest w.known x.name ≡ Some (declaration.Function n)
    pub named : (n q : ℕ) → latest w.known q ≡ Some (declaration.Function n) → (x : Name) × (slice_get w.functions n ≡ Some x) × (x.name ≡ q)
    pub declared : (n : ℕ) (x : Name) → slice_get w.functions n ≡ Some x → is_function_name (found a.names x.name) ≡ true
    pub count : length g.functions ≡ length w.functions
    pub numbered : (n : ℕ) (x : Name) (s : Signature) → slice_get w.functions n ≡ Some x → slice_get g.functions n ≡ Some s → s.number ≡ number_of ns x.name

  pub record Moves (w : Walk) (a : Asked) (g : Found) (u : Walk) (b : Asked) (h : Found) : Type 0 where
    pub good : IsGood u b h → IsGood w a g
    pub joint : IsGood u b h → Joint w a g → Joint u b h × Lasts w g u h

  pub moves_then : {w v u : Walk} {a b d : Asked} {g h k : Found} → Moves w a g v b h → Moves v b h u d k → Moves w a g u d k
  moves_then p q = record {
    good = λ x. p.good (q.good x);
    joint = λ x j. let m = p.joint (q.good x) j in let n = q.joint x m.0 in (n.0, lasts_then m.1 n.1);
  }

  -- no function is declared, and no name that stands for one
  pub stay : {w u : Walk} {a b : Asked} {g h : Found} → Stays w u → IsKept a b → IsStill g h → Moves w a g u b h
  stay {w} {u} {a} {b} {g} {h} s k t = record {
    good = λ x. record { found = λ r i. x.found r (s.names r i); asked = k.faults x.asked; told = t.faults x.told };
    joint = λ x j. (
      record {
        stands = λ n y e. ap (λ l. latest l y.name) s.known ∙ j.stands n y (before n y e);
        named = λ n q e. let y = j.named n q (ap (λ l. latest l q) (sym s.known) ∙ e) in (y.0, after n y.0 y.1, y.2);
        declared = λ n y e. k.names y.name (j.declared n y (before n y e));
        count = ap (λ (l : List Signature). length l) t.functions ∙ j.count ∙ sym (ap (λ (l : List Name). length l) s.functions);
        numbered = λ n y f e i. j.numbered n y f (before n y e) (ap (λ (l : List Signature). slice_get l n) (sym t.functions) ∙ i);
      },
      record { functions = after; signatures = λ n f e. ap (λ (l : List Signature). slice_get l n) t.functions ∙ e },
    );
  }
    where
      before : (n : ℕ) (y : Name) → slice_get u.functions n ≡ Some y → slice_get w.functions n ≡ Some y
      before n y e = ap (λ (l : List Name). slice_get l n) (sym s.functions) ∙ e

      after : (n : ℕ) (y : Name) → slice_get w.functions n ≡ Some y → slice_get u.functions n ≡ Some y
      after n y e = ap (λ (l : List Name). slice_get l n) s.functions ∙ e

  -- a name that stands for no function, and stands for something else now
  pub record Replaces (w u : Walk) (name : ℕ) (d : Declaration) : Type 0 where
    pub known : u.known ≡ w.known ++ known name d ∷ []
    pub functions : u.functions ≡ w.functions
    pub names : (r : Resolved) → Contains w.names r → Contains u.names r

  pub replace : {w u : Walk} {a b : Asked} {g h : Found} (name : ℕ) (d : Declaration) → ((n : ℕ) → d ≡ declaration.Function n → ⊥) → Replaces w u name d
      → (b.faults ≡ [] → is_function_name (found a.names name) ≡ false) → IsKept a b → IsStill g h → Moves w a g u b h
  replace {w} {u} {a} {b} {g} {h} name d other s free k t = record {
    good = λ x. record { found = λ r i. x.found r (s.names r i); asked = k.faults x.asked; told = t.faults x.told };
    joint = λ x j. (
      record {
        stands = λ n y e. stands (free x.asked) j n y (before n y e) (nat_eq name y.name) refl;
        named = λ n q e. named j n q (ap (λ l. latest l q) (sym s.known) ∙ e) (nat_eq name q) refl;
        declared = λ n y e. k.names y.name (j.declared n y (before n y e));
        count = ap (λ (l : List Signature). length l) t.functions ∙ j.count ∙ sym (ap (λ (l : List Name). length l) s.functions);
        numbered = λ n y f e i. j.numbered n y f (before n y e) (ap (λ (l : List Signature). slice_get l n) (sym t.functions) ∙ i);
      },
      record { functions = after; signatures = λ n f e. ap (λ (l : List Signature). slice_get l n) t.functions ∙ e },
    );
  }
    where
      before : (n : ℕ) (y : Name) → slice_get u.functions n ≡ Some y → slice_get w.functions n ≡ Some y
      before n y e = ap (λ (l : List Name). slice_get l n) (sym s.functions) ∙ e

      after : (n : ℕ) (y : Name) → slice_get w.functions n ≡ Some y → slice_get u.functions n ≡ Some y
      after n y e = ap (λ (l : List Name). slice_get l n) s.functions ∙ e

      not_both : {x : Bool} → x ≡ true → x ≡ false → ⊥
      not_both p q = let f : ⊥ = cc in f

      stands : is_function_name (found a.names name) ≡ false → Joint w a g → (n : ℕ) (y : Name) → slice_get w.functions n ≡ Some y → (c : Bool) → nat_eq name y.name ≡ c
          → latest u.known y.name ≡ Some (declaration.Function n)
      stands free j n y e true is = absurd (not_both (ap (λ q. is_function_name (found a.names q)) (eqb-true name y.name is) ∙ j.declared n y e) free)
      stands free j n y e false is = ap (λ l. latest l y.name) s.known ∙ latest_other w.known name d y.name is ∙ j.stands n y e

      named : Joint w a g → (n q : ℕ) → latest (w.known ++ known name d ∷ []) q ≡ Some (declaration.Function n) → (c : Bool) → nat_eq name q ≡ c
          → (x : Name) × (slice_get u.functions n ≡ Some x) × (x.name ≡ q)
      named j n q e true is = absurd (other n (some_is (sym (latest_is w.known name d) ∙ ap (latest (w.known ++ known name d ∷ [])) (eqb-true name q is) ∙ e)))
      named j n q e false is = let y = j.named n q (sym (latest_other w.known name d q is) ∙ e) in (y.0, after n y.0 y.1, y.2)
