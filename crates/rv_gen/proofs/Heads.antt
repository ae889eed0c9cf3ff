-- What stands before the functions, as it is emitted.
use Rattle.std.proofs.Common.{◌≡◌, ℕ, ◌+◌, List, [], ◌∷◌, ◌++◌, length, map, ap, ◌∙◌, append_assoc, append-nil, length-append}
use Rattle.rv_isa.specs.declared.instr.Instr.{Instr}
use Rattle.rv_form.specs.Layout.{Layout}
use Rattle.rv_form.specs.Dispatch.{tree, tree_width, tree_code}
use Rattle.rv_form.specs.Program.{places_from, dispatchers_code}
use Rattle.rv_emit_dispatch.proofs.Splitting.{length-tree_code}

-- ---- four pieces and their places

pub four_pieces : (c a b d e c1 c2 c3 c4 : List Instr) → c1 ≡ c ++ a → c2 ≡ c1 ++ b → c3 ≡ c2 ++ d → c4 ≡ c3 ++ e → c4 ≡ c ++ (a ++ (b ++ (d ++ (e ++ []))))
four_pieces c a b d e c1 c2 c3 c4 p q r s =
    s ∙ ap (λ (x : List Instr). x ++ e) (r ∙ ap (λ (x : List Instr). x ++ d) (q ∙ ap (λ (x : List Instr). x ++ b) p))
    ∙ simp (append_assoc, append-nil)

pub four_places : (ps p1 p2 p3 p4 : List ℕ) (n w1 w2 w3 w4 n1 n2 n3 : ℕ) → n1 ≡ n + w1 → n2 ≡ n1 + w2 → n3 ≡ n2 + w3
    → p1 ≡ ps ++ n ∷ [] → p2 ≡ p1 ++ n1 ∷ [] → p3 ≡ p2 ++ n2 ∷ [] → p4 ≡ p3 ++ n3 ∷ []
    → p4 ≡ ps ++ places_from n (w1 ∷ w2 ∷ w3 ∷ w4 ∷ [])
four_places ps p1 p2 p3 p4 n w1 w2 w3 w4 n1 n2 n3 e1 e2 e3 q1 q2 q3 q4 =
    let f2 : n2 ≡ n + w1 + w2 = e2 ∙ ap (λ m. m + w2) e1 in
    let f3 : n3 ≡ n + w1 + w2 + w3 = e3 ∙ ap (λ m. m + w3) f2 in
    let three : p3 ≡ ((ps ++ n ∷ []) ++ n1 ∷ []) ++ n2 ∷ [] =
    q3 ∙ ap (λ (x : List ℕ). x ++ n2 ∷ []) (q2 ∙ ap (λ (x : List ℕ). x ++ n1 ∷ []) q1) in
    let joined : (((ps ++ n ∷ []) ++ n1 ∷ []) ++ n2 ∷ []) ++ n3 ∷ [] ≡ ps ++ (n ∷ n1 ∷ n2 ∷ n3 ∷ []) = simp append_assoc in
    let first : ps ++ (n ∷ n1 ∷ n2 ∷ n3 ∷ []) ≡ ps ++ (n ∷ (n + w1) ∷ n2 ∷ n3 ∷ []) = ap (λ m. ps ++ (n ∷ m ∷ n2 ∷ n3 ∷ [])) e1 in
    let second : ps ++ (n ∷ (n + w1) ∷ n2 ∷ n3 ∷ []) ≡ ps ++ (n ∷ (n + w1) ∷ (n + w1 + w2) ∷ n3 ∷ []) = ap (λ m. ps ++ (n ∷ (n + w1) ∷ m ∷ n3 ∷ [])) f2 in
    let third : ps ++ (n ∷ (n + w1) ∷ (n + w1 + w2) ∷ n3 ∷ []) ≡ ps ++ (n ∷ (n + w1) ∷ (n + w1 + w2) ∷ (n + w1 + w2 + w3) ∷ []) = ap (λ m. ps ++ (n ∷ (n + w1) ∷ (n + w1 + w2) ∷ m ∷ [])) f3 in
    q4 ∙ (ap (λ (x : List ℕ). x ++ n3 ∷ []) three ∙ (joined ∙ (first ∙ (second ∙ third))))

-- ---- dispatchers

pub record DispatchersLeft (l : Layout) (left : List (List ℕ)) (made : List Instr) (found : List ℕ) (all : List Instr) (all_places : List ℕ) : Type 0 where
  pub code : made ++ dispatchers_code l (length made) left ≡ all
  pub places : found ++ places_from (length made) (map (λ (class : List ℕ). tree_width (tree class)) left) ≡ all_places

pub one_dispatcher : (l : Layout) (class : List ℕ) (left : List (List ℕ)) (code next : List Instr) (places next_places : List ℕ) (all : List Instr) (all_places : List ℕ)
    → DispatchersLeft l (class ∷ left) code places all all_places → next ≡ code ++ tree_code l.entry l.stack (length code) (tree class) → next_places ≡ places ++ length code ∷ []
    → DispatchersLeft l left next next_places all all_places
one_dispatcher l class left code next places next_places all all_places so_far is are =
    let goes : length next ≡ length code + tree_width (tree class) =
    ap length is ∙ (length-append code (tree_code l.entry l.stack (length code) (tree class)) ∙ ap (λ n. length code + n) (length-tree_code l.entry l.stack (length code) (tree class))) in
    record {
      code =
          ap (λ (c : List Instr). c ++ dispatchers_code l (length next) left) is
          ∙ (append_assoc code (tree_code l.entry l.stack (length code) (tree class)) (dispatchers_code l (length next) left)
          ∙ (ap (λ n. code ++ (tree_code l.entry l.stack (length code) (tree class) ++ dispatchers_code l n left)) goes ∙ so_far.code));
      places =
          ap (λ (ps : List ℕ). ps ++ places_from (length next) (map (λ (class : List ℕ). tree_width (tree class)) left)) are
          ∙ (append_assoc places (length code ∷ []) (places_from (length next) (map (λ (class : List ℕ). tree_width (tree class)) left))
          ∙ (ap (λ n. places ++ (length code ∷ places_from n (map (λ (class : List ℕ). tree_width (tree class)) left))) goes ∙ so_far.places));
    }
