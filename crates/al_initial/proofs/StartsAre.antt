-- Starts, from each declarator and item on: a fault stays one.
use Rattle.std.proofs.Common.{◌≡◌, ℕ, ◌+◌, ◌<◌, ◌≤◌, suc, true, Bool, List, [], ◌∷◌, length, get_or, drop, fold, Option, Some, None, ap, ◌∙◌, sym, drop-cons, add-one}
use Rattle.std.proofs.lemmas.List.{drop_all}
use Rattle.al_base.specs.declared.place.Place.{Place}
use Rattle.al_rules.specs.declared.fault.TypeStop.{TypeStop}
use Rattle.al_rules.specs.Outcome.{Outcome, permits}
use Rattle.al_rules.proofs.Permits.{permits-left}
use Rattle.al_tree.specs.declared.item.Declarator.{Declarator}
use Rattle.al_tree.specs.declared.item.Declarator.TheVariants as declarator
use Rattle.al_tree.specs.declared.item.Initializer.{Initializer}
use Rattle.al_tree.specs.declared.item.Item.{Item}
use Rattle.al_tree.specs.declared.item.Item.TheVariants as item
use Rattle.al_environment.specs.declared.environment.Environment.{Environment}
use Rattle.al_environment.specs.declared.environment.Here.{Here}
use Rattle.al_initial.specs.Walks.{Starts, global_start, with_start, started_if, started_by, started_in}

-- the walk goes on behind what stands at a place of a list, and ends past its end
pub fold-here :
    {A B : Type 0} (f : B → A → B) (xs : List A) (b : B) (n : ℕ) (x : A) → n < length xs → x ≡ get_or xs n x
    → fold f b (drop n xs) ≡ fold f (f b x) (drop (n + 1) xs)
fold-here f xs b n x h e =
    ap (fold f b) (drop-cons xs n x h)
    ∙ ap (λ y. fold f (f b y) (drop (suc n) xs)) (sym e)
    ∙ ap (λ k. fold f (f b x) (drop k xs)) (sym (add-one n))

pub fold-end : {A B : Type 0} (f : B → A → B) (xs : List A) (b : B) (n : ℕ) → length xs ≤ n → fold f b (drop n xs) ≡ b
fold-end f xs b n h = ap (fold f b) (drop_all n xs h)

module _ (env : Environment) (here : Here) (adts : List Bool) where
  permits-if : (o : Outcome Starts) (at : Place) (i : Option Initializer) (s : TypeStop) → permits o s ≡ true → permits (started_if env here adts o at i) s ≡ true
  permits-if o at None s h = h
  permits-if o at (Some i) s h = permits-left o (global_start env here adts at i) with_start s h

  permits-by : (o : Outcome Starts) (d : Declarator) (s : TypeStop) → permits o s ≡ true → permits (started_by env here adts o d) s ≡ true
  permits-by o (declarator.Global dcl value) s h = permits-if o dcl.name.at value s h
  permits-by o (declarator.Function head) s h = h

  pub permits-declarators : (ds : List Declarator) (o : Outcome Starts) (s : TypeStop) → permits o s ≡ true → permits (fold (started_by env here adts) o ds) s ≡ true
  permits-declarators [] o s h = h
  permits-declarators (d ∷ ds) o s h = permits-declarators ds (started_by env here adts o d) s (permits-by o d s h)

  permits-in : (o : Outcome Starts) (i : Item) (s : TypeStop) → permits o s ≡ true → permits (started_in env here adts o i) s ≡ true
  unfolding started_in
  permits-in o (item.Declare at scope base list) s h = permits-declarators list o s h
  permits-in o _ s h = h

  pub permits-items : (is : List Item) (o : Outcome Starts) (s : TypeStop) → permits o s ≡ true → permits (fold (started_in env here adts) o is) s ≡ true
  permits-items [] o s h = h
  permits-items (i ∷ is) o s h = permits-items is (started_in env here adts o i) s (permits-in o i s h)

  pub declarators-fault :
      (ds : List Declarator) (o p : Outcome Starts) (n : ℕ) (d : Declarator) (s : TypeStop)
      → n < length ds → d ≡ get_or ds n d → permits (started_by env here adts p d) s ≡ true
      → fold (started_by env here adts) o ds ≡ fold (started_by env here adts) p (drop n ds)
      → permits (fold (started_by env here adts) o ds) s ≡ true
  declarators-fault ds o p n d s h e bad so_far =
      ap (λ q. permits q s) (so_far ∙ fold-here (started_by env here adts) ds p n d h e)
      ∙ permits-declarators (drop (n + 1) ds) (started_by env here adts p d) s bad

  pub items-fault :
      (is : List Item) (o p : Outcome Starts) (n : ℕ) (i : Item) (s : TypeStop)
      → n < length is → i ≡ get_or is n i → permits (started_in env here adts p i) s ≡ true
      → fold (started_in env here adts) o is ≡ fold (started_in env here adts) p (drop n is)
      → permits (fold (started_in env here adts) o is) s ≡ true
  items-fault is o p n i s h e bad so_far =
      ap (λ q. permits q s) (so_far ∙ fold-here (started_in env here adts) is p n i h e)
      ∙ permits-items (drop (n + 1) is) (started_in env here adts p i) s bad

pub ruleset declarators_are = (fold-here, fold-end, declarators-fault)

pub ruleset items_are = (fold-here, fold-end, items-fault)
