-- The adts with parameters that items declare have some, and their names are those of types.
use Rattle.std.proofs.Common.{◌≡◌, ℕ, ◌==◌, Bool, true, false, if◌then◌else◌, ◌||◌, List, [], ◌∷◌, ◌++◌, map, Some, refl, ap, ◌∙◌}
use Rattle.std.specs.List.{All}
use Rattle.std.proofs.lemmas.List.Elements.{All-nil, All-cons, All-append}
use Rattle.al_lex.specs.declared.token.Token.{Token}
use Rattle.al_tree.specs.Types.{Leaves, known, with_name}
use Rattle.al_tree.specs.Items.{Parametrised, Declared, nothing_declared, with_type, with_adt, number_of, parameters_of, IsItem, IsItems, AreNewNames}
use Rattle.al_tree.specs.Items as items
use Rattle.al_tree.specs.declared.expression.Name.{Name}
use Rattle.al_tree.specs.declared.item.Item.{Item}
use Rattle.al_parse_stmt.specs.Ahead.{some_parameters}
use Rattle.al_parse_stmt.specs.Begun.{owners}
use Rattle.al_parse_stmt.proofs.Begins.{itself}
use Rattle.al_parse_stmt.proofs.Declared.{OwnerFits}

abbrev pub AdtsFit : Declared → Type 0
AdtsFit d = All (λ n. OwnerFits d (Some n)) (owners d.adts)

-- ---- names

or_right : (x y : Bool) → y ≡ true → (x || y) ≡ true
or_right true y h = refl
or_right false y h = h

or_cases : (x y z : Bool) → (x ≡ true → z ≡ true) → (y ≡ true → z ≡ true) → (x || y) ≡ true → z ≡ true
or_cases true y z f g h = f refl
or_cases false y z f g h = g h

any_front : (n : ℕ) (xs ys : List ℕ) → known xs n ≡ true → known (xs ++ ys) n ≡ true
any_front n [] ys h = absurd (let z : ⊥ = cc in z)
any_front n (x ∷ xs) ys h = or_cases (n == x) (known xs n) ((n == x) || known (xs ++ ys) n) (λ e. ap (λ b. b || known (xs ++ ys) n) e) (λ e. or_right (n == x) (known (xs ++ ys) n) (any_front n xs ys e)) h

any_last : (n : ℕ) (xs : List ℕ) → known (xs ++ n ∷ []) n ≡ true
any_last n [] = ap (λ b. b || false) (itself n)
any_last n (x ∷ xs) = or_right (n == x) (known (xs ++ n ∷ []) n) (any_last n xs)

known_more : (types : List ℕ) (m n : ℕ) → known types n ≡ true → known (with_name types m) n ≡ true
known_more types m n h = by (known types m)
  where
    by : (b : Bool) → known (if b then types else types ++ m ∷ []) n ≡ true
    by true = h
    by false = any_front n types (m ∷ []) h

known_new : (types : List ℕ) (n : ℕ) → known (with_name types n) n ≡ true
known_new types n = by (known types n) refl
  where
    by : (b : Bool) → known types n ≡ b → known (if b then types else types ++ n ∷ []) n ≡ true
    by true e = e
    by false e = any_last n types

-- ---- parameters

some_front : (xs ys : List ℕ) → some_parameters xs ≡ true → some_parameters (xs ++ ys) ≡ true
some_front [] ys h = absurd (let z : ⊥ = cc in z)
some_front (x ∷ xs) ys h = refl

some_back : (xs ys : List ℕ) → some_parameters ys ≡ true → some_parameters (xs ++ ys) ≡ true
some_back [] ys h = h
some_back (x ∷ xs) ys h = refl

some_kept : (a : Parametrised) (adts : List Parametrised) (n : ℕ) → some_parameters (parameters_of adts n) ≡ true → some_parameters (parameters_of (a ∷ adts) n) ≡ true
some_kept a adts n h = by (a.adt == n)
  where
    by : (b : Bool) → some_parameters (if b then a.parameters ++ parameters_of adts n else parameters_of adts n) ≡ true
    by true = some_back a.parameters (parameters_of adts n) h
    by false = h

some_own : (a : Parametrised) (adts : List Parametrised) → some_parameters a.parameters ≡ true → some_parameters (parameters_of (a ∷ adts) a.adt) ≡ true
some_own a adts h = ap (λ b. some_parameters (if b then a.parameters ++ parameters_of adts a.adt else parameters_of adts a.adt)) (itself a.adt) ∙ some_front a.parameters (parameters_of adts a.adt) h

-- ---- what is declared

all_as : {A : Type 0} (P Q : A → Type 0) → ((x : A) → P x → Q x) → (xs : List A) → All P xs → All Q xs
all_as P Q f xs h = λ k x l. f _ (h k x l)

pub nothing_fits : AdtsFit nothing_declared
nothing_fits = All-nil (λ n. OwnerFits nothing_declared (Some n))

type_fits : (m : ℕ) (d : Declared) → AdtsFit d → AdtsFit (with_type m d)
type_fits m d h = all_as (λ n. OwnerFits d (Some n)) (λ n. OwnerFits (with_type m d) (Some n)) (λ n q. (known_more d.types m n q.0, q.1)) (owners d.adts) h

adt_fits : (m : ℕ) (names : List ℕ) (d : Declared) → some_parameters names ≡ true → AdtsFit d → AdtsFit (with_adt m names d)
adt_fits m names d some h =
    let new : Declared = with_adt m names d in
    let own : Parametrised = record { adt = m; parameters = names } in
    All-append (λ n. OwnerFits new (Some n)) (owners d.adts) (m ∷ [])
    (all_as (λ n. OwnerFits d (Some n)) (λ n. OwnerFits new (Some n)) (λ n q. (known_more d.types m n q.0, some_kept own d.adts n q.1)) (owners d.adts) h)
    (All-cons (λ n. OwnerFits new (Some n)) m [] (known_new d.types m, some_own own d.adts some) (All-nil (λ n. OwnerFits new (Some n))))

last_some : (xs : List Name) (x : Name) → some_parameters (map number_of (xs ++ x ∷ [])) ≡ true
last_some [] x = refl
last_some (y ∷ ys) x = refl

module _ (leaves : Leaves) where
  new_some : (types : List ℕ) {u : List Token} {xs : List Name} → AreNewNames leaves types u xs → some_parameters (map number_of xs) ≡ true
  new_some types (items.one n c) = refl
  new_some types (items.more t n {xs = xs} l c o) = last_some xs (Rattle.al_tree.specs.Types.name_at n)

  pub after_fits : {d after : Declared} {u : List Token} {x : Item} {h : ℕ} → IsItem leaves d u x after h → AdtsFit d → AdtsFit after
  after_fits {d = d} (items.typedef w t {y = y} wc a l qc) f = type_fits y.name.name d f
  after_fits {d = d} (items.function_type w n o c t wc a st nc oc l cc tc) f = type_fits n.name d f
  after_fits {d = d} (items.forward w n t wc nc tc) f = type_fits n.name d f
  after_fits {d = d} (items.plain_members w n o c wc nc oc l ec s) f = type_fits n.name d f
  after_fits {d = d} (items.adt w n o c wc nc oc l ec s) f = type_fits n.name d f
  after_fits {d = d} (items.parametrised w n l r o c {ns = ns} wc nc lc names rc oc m ec s) f = adt_fits n.name (map number_of ns) d (new_some (with_name d.types n.name) names) f
  after_fits (items.enum w wc l s) f = f
  after_fits {d = d} (items.named_enum w n wc nc l s) f = type_fits n.name d f
  after_fits (items.declare t w a l tc) f = f
  after_fits (items.function w a l b) f = f

  pub items_fit : {d : Declared} {u : List Token} {xs : List Item} {h : ℕ} → IsItems leaves u xs d h → AdtsFit d
  items_fit items.none = nothing_fits
  items_fit (items.more l a) = after_fits a (items_fit l)
