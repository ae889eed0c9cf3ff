-- The tables of reserved words and operators.
use Rattle.std.proofs.Common.{◌≡◌, ℕ, ◌≤◌, nat_eq, nat_le, Bool, true, false, not, ◌&&◌, if◌then◌else◌, List, [], ◌∷◌, ◌++◌, length, drop, Some, refl, sym, ap, ap₂, ◌∙◌, subst, arith}
use Rattle.std.specs.List.{list_all, starts_with}
use Rattle.std.proofs.lemmas.Slice.Eq.{starts_is}
use Rattle.std.proofs.lemmas.Bool.Decides.{Decides-eqb}
use lib.Pointwise.{pointwise, bytes_decides}
use Rattle.al_lex.specs.declared.kind.TokenKind.{TokenKind}
use Rattle.al_lex.specs.Spelling.{Spelled}
use Rattle.al_lex.specs.Pieces.{In, here, there}
use Rattle.al_lex.specs.Scan.{look_up, first_of, first_is}
use Rattle.al_lex.proofs.Runs.{both, equal}

-- ---- fronts

pub front_is : (ts u : List ℕ) → starts_with nat_eq ts u ≡ true → ts ≡ u ++ drop (length u) ts
front_is ts u h = (starts_is Decides-eqb ts u (starts_with nat_eq ts u) refl).0 h

pub front_true : (u r : List ℕ) → starts_with nat_eq (u ++ r) u ≡ true
front_true u r = (starts_is Decides-eqb (u ++ r) u (starts_with nat_eq (u ++ r) u) refl).1 r refl

pub same_true : (u : List ℕ) → pointwise nat_eq u u ≡ true
same_true u = (bytes_decides u u).1 refl

pub same_is : (u v : List ℕ) → pointwise nat_eq u v ≡ true → u ≡ v
same_is u v = (bytes_decides u v).0

-- equal texts are cut alike at equal lengths
pub split_same : (u v r s : List ℕ) → length u ≡ length v → u ++ r ≡ v ++ s → (u ≡ v) × (r ≡ s)
split_same [] [] r s l e = (refl, e)
split_same [] (b ∷ v) r s l e = absurd (omega arith)
split_same (a ∷ u) [] r s l e = absurd (omega arith)
split_same (a ∷ u) (b ∷ v) r s l e =
    let h : a ≡ b = cc in let t : u ++ r ≡ v ++ s = cc in
    let q = split_same u v r s (omega arith) t in (ap₂ (λ x l. x ∷ l) h q.0, q.1)

pub not_both : (b : Bool) → b ≡ true → b ≡ false → ⊥
not_both b t f = let e : true ≡ false = sym t ∙ f in cc

pub first_cons : (b : ℕ) (ts : List ℕ) → first_is b ts ≡ true → ts ≡ b ∷ drop 1 ts
first_cons b [] h = absurd (let f : ⊥ = cc in f)
first_cons b (x ∷ xs) h = ap (λ y. y ∷ xs) (equal x b h)

-- ---- tests of a whole table

pub all_in : (test : Spelled → Bool) {row : Spelled} {table : List Spelled} → In row table → list_all test table ≡ true → test row ≡ true
all_in test (here {x = row} {xs = more}) h = (both (test row) (list_all test more) h).0
all_in test (there {y = y} {xs = more} i) h = all_in test i (both (test y) (list_all test more) h).1

-- no two rows have the same bytes
abbrev pub distinct : List Spelled → Bool
distinct [] = true
distinct (row ∷ rows) = list_all (λ r. not (pointwise nat_eq row.0 r.0)) rows && distinct rows

-- no row is longer than one before it
abbrev pub descending : List Spelled → Bool
descending [] = true
descending (row ∷ rows) = list_all (λ r. nat_le (length r.0) (length row.0)) rows && descending rows

not_true : (b : Bool) → not b ≡ true → b ≡ false
not_true true h = absurd (let f : ⊥ = cc in f)
not_true false h = refl

-- the bytes of a row's own are not those of a row behind it
other : (u v : List ℕ) (kind : TokenKind) (rows : List Spelled) → In (u, kind) rows → list_all (λ (r : Spelled). not (pointwise nat_eq v r.0)) rows ≡ true → pointwise nat_eq v u ≡ false
other u v kind rows i h = not_true (pointwise nat_eq v u) (all_in (λ (r : Spelled). not (pointwise nat_eq v r.0)) i h)

-- ---- look_up

pub look_up_in : {u : List ℕ} {kind : TokenKind} {rows : List Spelled} → In (u, kind) rows → distinct rows ≡ true → look_up rows u ≡ Some kind
look_up_in {u} {kind} (here {xs = more}) d = rw (same_true u) refl
look_up_in {u} {kind} (there {y = y} {xs = more} i) d =
    let s = both (list_all (λ (r : Spelled). not (pointwise nat_eq y.0 r.0)) more) (distinct more) d in
    rw (other u y.0 kind more i s.0) (look_up_in i s.1)

look_up_step : (u : List ℕ) (y : Spelled) (rows : List Spelled) (kind : TokenKind) (b : Bool) → pointwise nat_eq y.0 u ≡ b → (if b then Some y.1 else look_up rows u) ≡ Some kind → (look_up rows u ≡ Some kind → In (u, kind) rows) → In (u, kind) (y ∷ rows)
look_up_step u y rows kind true e h more =
    let k : y.1 ≡ kind = cc in
    let same : y ≡ (u, kind) = ap₂ (λ a b. (a, b)) (same_is y.0 u e) k in
    subst (λ (x : Spelled). In x (y ∷ rows)) same here
look_up_step u y rows kind false e h more = there (more h)

pub look_up_is : (rows : List Spelled) (u : List ℕ) (kind : TokenKind) → look_up rows u ≡ Some kind → In (u, kind) rows
look_up_is [] u kind h = absurd (let f : ⊥ = cc in f)
look_up_is (y ∷ rows) u kind h = look_up_step u y rows kind (pointwise nat_eq y.0 u) refl h (look_up_is rows u kind)

-- ---- first_of

-- the row that was found: no shorter, and of the same kind where it is as long
pub record Longer (rows : List Spelled) (u : List ℕ) (kind : TokenKind) (ts : List ℕ) : Type 0 where
  pub row : Spelled
  pub is : first_of rows ts ≡ Some row
  pub long : length u ≤ length row.0
  pub same : length u ≡ length row.0 → kind ≡ row.1

le_true : (a b : ℕ) → nat_le a b ≡ true → a ≤ b
le_true a b h = grind arith

longer_step : (u : List ℕ) (kind : TokenKind) (y : Spelled) (rows : List Spelled) (r : List ℕ) (b : Bool) → starts_with nat_eq (u ++ r) y.0 ≡ b → In (u, kind) rows
    → list_all (λ (z : Spelled). not (pointwise nat_eq y.0 z.0)) rows ≡ true → list_all (λ (z : Spelled). nat_le (length z.0) (length y.0)) rows ≡ true
    → Longer rows u kind (u ++ r) → Longer (y ∷ rows) u kind (u ++ r)
longer_step u kind y rows r true e i apart below more =
    let long = le_true (length u) (length y.0) (all_in (λ (z : Spelled). nat_le (length z.0) (length y.0)) i below) in
    record {
      row = y;
      is = rw e refl;
      long = long;
      same = λ l.
          let q = split_same u y.0 r (drop (length y.0) (u ++ r)) l (front_is (u ++ r) y.0 e) in
          let same = subst (λ (x : List ℕ). pointwise nat_eq x u ≡ true) q.0 (same_true u) in
          absurd (not_both (pointwise nat_eq y.0 u) same (other u y.0 kind rows i apart));
    }
longer_step u kind y rows r false e i apart below more = record { row = more.row; is = rw e more.is; long = more.long; same = more.same }

pub first_longer : {u : List ℕ} {kind : TokenKind} {rows : List Spelled} → In (u, kind) rows → distinct rows ≡ true → descending rows ≡ true → (r : List ℕ) → Longer rows u kind (u ++ r)
first_longer {u} {kind} (here {xs = more}) d s r = record { row = (u, kind); is = rw (front_true u r) refl; long = omega arith; same = λ _. refl }
first_longer {u} {kind} (there {y = y} {xs = more} i) d s r =
    let a = both (list_all (λ (z : Spelled). not (pointwise nat_eq y.0 z.0)) more) (distinct more) d in
    let b = both (list_all (λ (z : Spelled). nat_le (length z.0) (length y.0)) more) (descending more) s in
    longer_step u kind y more r (starts_with nat_eq (u ++ r) y.0) refl i a.0 b.0 (first_longer i a.1 b.1 r)

first_step : (ts : List ℕ) (y row : Spelled) (rows : List Spelled) (b : Bool) → starts_with nat_eq ts y.0 ≡ b → (if b then Some y else first_of rows ts) ≡ Some row → (first_of rows ts ≡ Some row → In row rows × (ts ≡ row.0 ++ drop (length row.0) ts)) → In row (y ∷ rows) × (ts ≡ row.0 ++ drop (length row.0) ts)
first_step ts y row rows true e h more =
    let same : y ≡ row = cc in
    (subst (λ (x : Spelled). In x (y ∷ rows)) same here, subst (λ (x : Spelled). ts ≡ x.0 ++ drop (length x.0) ts) same (front_is ts y.0 e))
first_step ts y row rows false e h more = let m = more h in (there m.0, m.1)

pub first_is_in : (rows : List Spelled) (ts : List ℕ) (row : Spelled) → first_of rows ts ≡ Some row → In row rows × (ts ≡ row.0 ++ drop (length row.0) ts)
first_is_in [] ts row h = absurd (let f : ⊥ = cc in f)
first_is_in (y ∷ rows) ts row h = first_step ts y row rows (starts_with nat_eq ts y.0) refl h (first_is_in rows ts row)
