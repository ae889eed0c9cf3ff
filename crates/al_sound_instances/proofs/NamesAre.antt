-- The names of types that items declare are among the names of the tree.
use Rattle.std.proofs.Common.{◌≡◌, ℕ, suc, ◌+◌, ◌<◌, ◌≤◌, Bool, true, false, not, ◌&&◌, ◌||◌, if◌then◌else◌, List, [], ◌∷◌, ◌++◌, fold, length, refl, sym, ap, ◌∙◌, subst, arith, length-append}
use Rattle.std.specs.Prelude.{◌==◌, ⊤}
use Rattle.std.specs.List.{list_any, position_or_len}
use Rattle.std.proofs.lemmas.Bool.{eqb-true, eq-eqb}
use Rattle.al_lex.specs.TokenList.{bytes_of}
use Rattle.al_lex.specs.declared.kind.TokenKind.{TokenKind}
use Rattle.al_lex.specs.declared.kind.TokenKind.TheVariants as k
use Rattle.al_lex.specs.declared.kind.PieceKind.TheVariants as p
use Rattle.al_lex.specs.declared.token.Token.{Token}
use Rattle.al_lex.specs.Cut.{Piece, joined}
use Rattle.al_lex.specs.Written.{IsCutInto, end_token, first_seen, is_name, name_number, names_of, noted, same_bytes, token_at, tokens_from}
use Rattle.al_lex.proofs.NameLemmas.{known_noted, noted_known, number_noted}
use Rattle.al_tree.specs.Leaves.{leaves_of, names_from}
use Rattle.al_tree.specs.Words as words
use Rattle.al_tree.specs.Types.{Leaves}
use Rattle.al_tree.specs.Items as i
use Rattle.al_tree.specs.Items.{Declared, IsItem, IsItems}
use Rattle.al_tree.specs.Tree.{IsTree}
use Rattle.al_tree.specs.declared.item.Item.{Item}
use Rattle.al_tree.specs.declared.item.Item.TheVariants as item
use Rattle.al_tree.specs.declared.item.Tree.{Tree}
use Rattle.al_sound_environment.specs.Members.{Every}
use Rattle.al_sound_environment.proofs.Lists.{every_more}

-- the number of a name is one of so many
abbrev pub IsNumbered : ℕ → Token → Type 0
IsNumbered m t = t.kind ≡ k.Name → t.name < m

abbrev Names : Type 0
Names = List (List ℕ)

position_within : (test : List ℕ → Bool) (xs : Names) → list_any test xs ≡ true → position_or_len test xs < length xs
position_within test [] h = absurd (let f : ⊥ = cc in f)
position_within test (x ∷ xs) h = go (test x) h (position_within test xs)
  where
    go : (b : Bool) → (b || list_any test xs) ≡ true → (list_any test xs ≡ true → position_or_len test xs < length xs) → (if not b then 1 + position_or_len test xs else 0) < suc (length xs)
    go true e more = omega arith
    go false e more = let r = more e in omega (arith, r)

position_past : (test : List ℕ → Bool) (xs : Names) → list_any test xs ≡ false → position_or_len test xs ≡ length xs
position_past test [] h = refl
position_past test (x ∷ xs) h = go (test x) h (position_past test xs)
  where
    go : (b : Bool) → (b || list_any test xs) ≡ false → (list_any test xs ≡ false → position_or_len test xs ≡ length xs) → (if not b then 1 + position_or_len test xs else 0) ≡ suc (length xs)
    go true e more = absurd (let f : ⊥ = cc in f)
    go false e more = let r = more e in omega (arith, r)

-- a name that is known has its number in all that come
number_stays : (s more : Names) (u : List ℕ) → list_any (same_bytes u) s ≡ true → position_or_len (same_bytes u) (fold noted s more) ≡ position_or_len (same_bytes u) s
number_stays s [] u h = refl
number_stays s (w ∷ more) u h =
    let r = known_noted s w u h in
    number_stays (noted s w) more u r.0 ∙ r.1

-- the number of a name, where these are known before it
number_is : (s more : Names) (u : List ℕ) → position_or_len (same_bytes u) (fold noted (noted s u) more) ≡ position_or_len (same_bytes u) s
number_is s more u = number_stays (noted s u) more u (noted_known s u) ∙ number_noted s u

names_same : (kind : TokenKind) → words.is_name kind ≡ is_name kind
names_same kind = refl

module _ (text : List ℕ) where
  abbrev pushed : Bool → Names → Token → Names
  pushed b seen t = if b then seen ++ bytes_of text t ∷ [] else seen

  names_grow : (ts : List Token) (seen : Names) → length seen ≤ length (names_from text seen ts)
  names_grow [] seen = omega arith
  names_grow (t ∷ ts) seen = go (words.is_name t.kind && t.name == length seen) (names_grow ts)
    where
      go : (b : Bool) → ((more : Names) → length more ≤ length (names_from text more ts)) → length seen ≤ length (names_from text (pushed b seen t) ts)
      go true grow = let r = grow (seen ++ bytes_of text t ∷ []) in omega (arith, r, length-append seen (bytes_of text t ∷ []))
      go false grow = grow seen

  -- the names that are seen are as many as those that are noted
  push_one : (s seen : Names) (t : Token) (u : List ℕ) → t.kind ≡ k.Name → t.name ≡ position_or_len (same_bytes u) s → length seen ≡ length s
      → (length (pushed (words.is_name t.kind && t.name == length seen) seen t) ≡ length (noted s u)) × (t.name < length (noted s u))
  push_one s seen t u kind number same =
      subst (λ b. (length (pushed (words.is_name b && t.name == length seen) seen t) ≡ length (noted s u)) × (t.name < length (noted s u))) (sym kind)
      (go (list_any (same_bytes u) s) refl (t.name == length seen) refl)
    where
      go : (known : Bool) → list_any (same_bytes u) s ≡ known → (b : Bool) → (t.name == length seen) ≡ b
          → (length (pushed b seen t) ≡ length (if known then s else s ++ u ∷ [])) × (t.name < length (if known then s else s ++ u ∷ []))
      go true e true is =
          let lt = position_within (same_bytes u) s e in
          let n : t.name ≡ length seen = eqb-true t.name (length seen) is in
          absurd (omega (arith, lt, n, number, same))
      go true e false is = let lt = position_within (same_bytes u) s e in (same, omega (arith, lt, number))
      go false e true is =
          let past = position_past (same_bytes u) s e in
          (omega (arith, same, length-append seen (bytes_of text t ∷ []), length-append s (u ∷ [])), omega (arith, past, number, length-append s (u ∷ [])))
      go false e false is =
          let past = position_past (same_bytes u) s e in
          let n : (t.name == length seen) ≡ true = eq-eqb t.name (length seen) (number ∙ past ∙ sym same) in
          absurd (let x : true ≡ false = sym n ∙ is in let f : ⊥ = cc in f)

  abbrev AreNumbered : List Piece → List ℕ → Names → Type 0
  AreNumbered pieces before whole = (s seen : Names) → whole ≡ fold noted s (names_of pieces) → length seen ≡ length s
      → Every (IsNumbered (length (names_from text seen (tokens_from whole before pieces)))) (tokens_from whole before pieces)

  numbered : (pieces : List Piece) (s seen : Names) (before : List ℕ) (whole : Names) → whole ≡ fold noted s (names_of pieces) → length seen ≡ length s
      → Every (IsNumbered (length (names_from text seen (tokens_from whole before pieces)))) (tokens_from whole before pieces)
  numbered [] s seen before whole is same = tt
  numbered ((p.Token kind, u) ∷ more) s seen before whole is same = go (is_name kind) refl (λ r next. numbered more r next (before ++ u) whole)
    where
      t : Token
      t = token_at before kind u (name_number whole kind u)

      go : (b : Bool) → is_name kind ≡ b → AreNumbered more (before ++ u) whole
          → Every (IsNumbered (length (names_from text seen (t ∷ tokens_from whole (before ++ u) more)))) (t ∷ tokens_from whole (before ++ u) more)
      go true e further = by_name (kind_is kind e)
        where
          kind_is : (q : TokenKind) → is_name q ≡ true → q ≡ k.Name
          kind_is k.Name h = refl
          kind_is q h = cc

          by_name : kind ≡ k.Name → Every (IsNumbered (length (names_from text seen (t ∷ tokens_from whole (before ++ u) more)))) (t ∷ tokens_from whole (before ++ u) more)
          by_name is_kind =
              let whole_is : whole ≡ fold noted (noted s u) (names_of more) = is ∙ ap (λ b. fold noted s (if b then u ∷ names_of more else names_of more)) e in
              let number : t.name ≡ position_or_len (same_bytes u) s =
              ap (λ b. if b then position_or_len (same_bytes u) whole else 0) e ∙ ap (position_or_len (same_bytes u)) whole_is ∙ number_is s (names_of more) u in
              let r = push_one s seen t u is_kind number same in
              let next = pushed (words.is_name t.kind && t.name == length seen) seen t in
              let rest = further (noted s u) next whole_is r.0 in
              let grow = names_grow (tokens_from whole (before ++ u) more) next in
              let lt = r.1 in let count = r.0 in
              (λ _. omega (arith, grow, lt, count), rest)
      go false e further =
          let whole_is : whole ≡ fold noted s (names_of more) = is ∙ ap (λ b. fold noted s (if b then u ∷ names_of more else names_of more)) e in
          let rest = further s seen whole_is same in
          let stays : pushed (words.is_name t.kind && t.name == length seen) seen t ≡ seen = ap (λ b. pushed (b && t.name == length seen) seen t) (names_same kind ∙ e) in (
            λ n. let x : true ≡ false = sym (ap is_name n) ∙ e in absurd (let f : ⊥ = cc in f),
            subst (λ (l : Names). Every (IsNumbered (length (names_from text l (tokens_from whole (before ++ u) more)))) (tokens_from whole (before ++ u) more)) (sym stays) rest,
          )
  numbered ((p.Blank, u) ∷ more) s seen before whole is same = numbered more s seen (before ++ u) whole is same
  numbered ((p.Comment, u) ∷ more) s seen before whole is same = numbered more s seen (before ++ u) whole is same
  numbered ((p.Skipped, u) ∷ more) s seen before whole is same = numbered more s seen (before ++ u) whole is same

-- ---- items

pub every_both : {A : Type 0} (P : A → Type 0) (xs ys : List A) → Every P (xs ++ ys) → Every P xs × Every P ys
every_both P [] ys h = (tt, h)
every_both P (x ∷ xs) ys h = let r = every_both P xs ys h.1 in ((h.0, r.0), r.1)

-- the name of a type with members is one of so many
abbrev pub ItemNamed : ℕ → Item → Type 0
ItemNamed m (item.Forward at kind name) = name.name < m
ItemNamed m (item.Aggregate at kind name members) = name.name < m
ItemNamed m (item.Adt at name ps members) = name.name < m
ItemNamed m _ = ⊤

module _ (leaves : Leaves) (m : ℕ) where
  item_named : {d after : Declared} {u : List Token} {x : Item} {h : ℕ} → IsItem leaves d u x after h → Every (IsNumbered m) u → ItemNamed m x
  item_named (i.typedef w t wc b a tc) all = tt
  item_named (i.function_type w o n c t wc b a mc oc p ec tc) all = tt
  item_named (i.forward w n t a mc tc) all = all.1.0 mc
  item_named (i.plain_members w n o c a mc oc l ec s) all = all.1.0 mc
  item_named (i.adt w n o c wc mc oc l ec s) all = all.1.0 mc
  item_named (i.parametrised w n l r o c wc mc lc a rc oc b ec s) all = all.1.0 mc
  item_named (i.enum w wc a s) all = tt
  item_named (i.named_enum w n wc mc a s) all = tt
  item_named (i.declare t a b l tc) all = tt
  item_named (i.function a e f q) all = tt

  items_named : {d : Declared} {u : List Token} {xs : List Item} {h : ℕ} → IsItems leaves u xs d h → Every (IsNumbered m) u → Every (ItemNamed m) xs
  items_named i.none all = tt
  items_named (i.more {u = u} {v = v} {xs = xs} {x = x} l d) all =
      let r = every_both (IsNumbered m) u v all in
      every_more (ItemNamed m) xs x (items_named l r.0) (item_named d r.1)

same_front : {A : Type 0} (xs ys : List A) (x y : A) → xs ++ x ∷ [] ≡ ys ++ y ∷ [] → xs ≡ ys
same_front [] [] x y h = refl
same_front [] (z ∷ []) x y h = absurd (let f : ⊥ = cc in f)
same_front [] (z ∷ w ∷ ys) x y h = absurd (let f : ⊥ = cc in f)
same_front (z ∷ []) [] x y h = absurd (let f : ⊥ = cc in f)
same_front (z ∷ w ∷ xs) [] x y h = absurd (let f : ⊥ = cc in f)
same_front (z ∷ xs) (w ∷ ys) x y h =
    let head : z ≡ w = cc in
    let tail : xs ++ x ∷ [] ≡ ys ++ y ∷ [] = cc in
    ap (λ a. a ∷ xs) head ∙ ap (λ l. w ∷ l) (same_front xs ys x y tail)

pub names_are_numbered : (text : List ℕ) (tokens : List Token) (tree : Tree) (height : ℕ) → IsCutInto text tokens → IsTree (record { list = tokens; text = text }) tree height
    → Every (ItemNamed (length tree.names)) tree.items
names_are_numbered text tokens tree height c is =
    let whole = first_seen (names_of c.pieces) in
    let front : tokens_from whole [] c.pieces ≡ is.front = same_front (tokens_from whole [] c.pieces) is.front (end_token (joined c.pieces)) is.last (sym c.is ∙ is.is) in
    let all = numbered text c.pieces [] [] [] whole refl refl in
    items_named (leaves_of text) (length tree.names) is.tree_of.items
    (subst (λ n. Every (IsNumbered n) is.front) (ap length (sym is.tree_of.names)) (subst (λ (ts : List Token). Every (IsNumbered (length (names_from text [] ts))) ts) front all))
