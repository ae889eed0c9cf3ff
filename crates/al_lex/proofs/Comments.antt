-- Comments, and the operators that begin with a slash.
use Rattle.std.proofs.Common.{◌≡◌, ℕ, ◌+◌, nat_eq, Bool, true, false, List, [], ◌∷◌, ◌++◌, length, drop, Option, Some, None, option_map, codes, refl, sym, ap, ap₂, ◌∙◌, subst, arith, append_assoc, length-append}
use Rattle.std.specs.List.{prefix_len, take_while, starts_with}
use Rattle.al_lex.specs.declared.kind.PieceKind.TheVariants as p
use Rattle.al_lex.specs.declared.fault.LexReason.TheVariants as why
use Rattle.al_lex.specs.Bytes.{is_in_line}
use Rattle.al_lex.specs.Pieces.{Occurs, IsComment, block, line, comment}
use Rattle.al_lex.specs.Cut.{IsPieceFault, open_comment}
use Rattle.al_lex.specs.Scan.{found, flaw, comment_end, block_found, scan_slash, scan_operator, first_is}
use Rattle.al_lex.proofs.Answers.{IsSound, piece, fault, Covers, longer}
use Rattle.al_lex.proofs.Runs.{run_all, run_longer, run_within, cut_run, run_cons, choose_by, by_bool, if_true, if_false}
use Rattle.al_lex.proofs.Tables.{not_both, first_cons, front_is, front_true}
use Rattle.al_lex.proofs.Words.{operator_sound}

abbrev pub end_mark : List ℕ
end_mark = codes "*/"

later_occurs : (w : List ℕ) (b : ℕ) (bs : List ℕ) → Occurs w bs → Occurs w (b ∷ bs)
later_occurs w b bs o = record { front = b ∷ o.front; back = o.back; is = ap (λ l. b ∷ l) o.is }

-- at the beginning of a text, the end mark in it stands there too
mark_occurs : (ts : List ℕ) → starts_with nat_eq ts end_mark ≡ true → Occurs end_mark ts
mark_occurs ts h = record { front = []; back = drop 2 ts; is = front_is ts end_mark h }

comment_step : (b : ℕ) (bs : List ℕ) → starts_with nat_eq (b ∷ bs) end_mark ≡ false → comment_end (b ∷ bs) ≡ option_map (λ n. 1 + n) (comment_end bs)
comment_step b bs h = if_false (starts_with nat_eq (b ∷ bs) end_mark) _ _ h

pub no_end : (ts : List ℕ) → ¬ Occurs end_mark ts → comment_end ts ≡ None
no_end [] h = refl
no_end (b ∷ bs) h =
    comment_step b bs (by_bool (starts_with nat_eq (b ∷ bs) end_mark) (λ t. absurd (h (mark_occurs (b ∷ bs) t))) (λ f. f))
    ∙ ap (option_map (λ n. 1 + n)) (no_end bs (λ o. h (later_occurs end_mark b bs o)))

-- in front of the end mark no other ends the comment
body_apart : (b : ℕ) (body rest : List ℕ) → ¬ Occurs end_mark ((b ∷ body) ++ codes "*") → starts_with nat_eq (b ∷ (body ++ (end_mark ++ rest))) end_mark ≡ false
body_apart b [] rest h = by_bool (starts_with nat_eq (b ∷ (end_mark ++ rest)) end_mark) (λ t. let e = front_is (b ∷ (end_mark ++ rest)) end_mark t in let x : ◌≡◌ {A = ℕ} 42 47 = cc in absurd (omega (arith, x))) (λ f. f)
body_apart b (c ∷ cs) rest h =
    by_bool (starts_with nat_eq (b ∷ (c ∷ (cs ++ (end_mark ++ rest)))) end_mark)
    (λ t.
    let e = front_is (b ∷ (c ∷ (cs ++ (end_mark ++ rest)))) end_mark t in
    let x : b ≡ 42 = cc in let y : c ≡ 47 = cc in
    absurd (h (record { front = []; back = cs ++ codes "*"; is = ap₂ (λ m n. m ∷ (n ∷ (cs ++ codes "*"))) x y })))
    (λ f. f)

body_end : (body rest : List ℕ) → ¬ Occurs end_mark (body ++ codes "*") → comment_end (body ++ (end_mark ++ rest)) ≡ Some (length body + 2)
body_end [] rest h = refl
body_end (b ∷ body) rest h =
    comment_step b (body ++ (end_mark ++ rest)) (body_apart b body rest h)
    ∙ ap (option_map (λ n. 1 + n)) (body_end body rest (λ o. h (later_occurs end_mark b (body ++ codes "*") o)))
    ∙ ap Some (omega arith)

-- what stands in front of the end of a comment
pub record Ends (ts : List ℕ) (n : ℕ) : Type 0 where
  pub body : List ℕ
  pub rest : List ℕ
  pub cut : ts ≡ body ++ (end_mark ++ rest)
  pub len : n ≡ length body + 2
  pub is : ¬ Occurs end_mark (body ++ codes "*")

pub data EndIs (ts : List ℕ) : Option ℕ → Type 0 where
  ended : {n : ℕ} → Ends ts n → EndIs ts (Some n)
  endless : ¬ Occurs end_mark ts → EndIs ts None

star_alone : ¬ Occurs end_mark (codes "*")
star_alone o = go o.front o.is
  where
    go : (front : List ℕ) → codes "*" ≡ front ++ (end_mark ++ o.back) → ⊥
    go [] e = omega (arith, ap length e)
    go (b ∷ bs) e = omega (arith, ap length e, length-append bs (end_mark ++ o.back))

not_here : (b : ℕ) (bs : List ℕ) → starts_with nat_eq (b ∷ bs) end_mark ≡ false → ¬ Occurs end_mark bs → ¬ Occurs end_mark (b ∷ bs)
not_here b bs f none o = go o.front o.is
  where
    go : (front : List ℕ) → b ∷ bs ≡ front ++ (end_mark ++ o.back) → ⊥
    go [] e = not_both (starts_with nat_eq (b ∷ bs) end_mark) (subst (λ (l : List ℕ). starts_with nat_eq l end_mark ≡ true) (sym e) (front_true end_mark o.back)) f
    go (c ∷ cs) e = none (record { front = cs; back = o.back; is = cc })

-- no end mark lies over the beginning of the body and the byte before it
mark_apart : (b : ℕ) (bs body rest : List ℕ) → bs ≡ body ++ (end_mark ++ rest) → starts_with nat_eq (b ∷ bs) end_mark ≡ false → starts_with nat_eq (b ∷ (body ++ codes "*")) end_mark ≡ false
mark_apart b bs [] rest cut f = by_bool (starts_with nat_eq (b ∷ codes "*") end_mark) (λ t. let e = front_is (b ∷ codes "*") end_mark t in let x : ◌≡◌ {A = ℕ} 42 47 = cc in absurd (omega (arith, x))) (λ g. g)
mark_apart b bs (c ∷ cs) rest cut f =
    by_bool (starts_with nat_eq (b ∷ (c ∷ (cs ++ codes "*"))) end_mark)
    (λ t.
    let e = front_is (b ∷ (c ∷ (cs ++ codes "*"))) end_mark t in
    let x : b ≡ 42 = cc in let y : c ≡ 47 = cc in
    let same : b ∷ bs ≡ end_mark ++ (cs ++ (end_mark ++ rest)) = ap (λ l. b ∷ l) cut ∙ ap₂ (λ m n. m ∷ (n ∷ (cs ++ (end_mark ++ rest)))) x y in
    absurd (not_both (starts_with nat_eq (b ∷ bs) end_mark) (subst (λ (l : List ℕ). starts_with nat_eq l end_mark ≡ true) (sym same) (front_true end_mark (cs ++ (end_mark ++ rest)))) f))
    (λ g. g)

end_step : (b : ℕ) (bs : List ℕ) → starts_with nat_eq (b ∷ bs) end_mark ≡ false → (o : Option ℕ) → EndIs bs o → EndIs (b ∷ bs) (option_map (λ n. 1 + n) o)
end_step b bs f None (endless h) = endless (not_here b bs f h)
end_step b bs f (Some n) (ended d) = ended (record { body = b ∷ d.body; rest = d.rest; cut = ap (λ l. b ∷ l) d.cut; len = omega (arith, d.len); is = not_here b (d.body ++ codes "*") (mark_apart b bs d.body d.rest d.cut f) d.is })

pub end_is : (ts : List ℕ) → EndIs ts (comment_end ts)
end_is [] = endless (λ o. omega (arith, ap length o.is, length-append o.front (end_mark ++ o.back)))
end_is (b ∷ bs) =
    choose_by (EndIs (b ∷ bs)) (starts_with nat_eq (b ∷ bs) end_mark) _ _
    (λ t. ended (record { body = []; rest = drop 2 (b ∷ bs); cut = front_is (b ∷ bs) end_mark t; len = refl; is = star_alone }))
    (λ f. end_step b bs f (comment_end bs) (end_is bs))

-- ---- what the others need

slash_line : (ts : List ℕ) → first_is 47 (drop 1 ts) ≡ true → scan_slash ts ≡ found p.Comment (prefix_len is_in_line ts)
slash_line ts h = if_true (first_is 47 (drop 1 ts)) _ _ h

slash_block : (ts : List ℕ) → first_is 47 (drop 1 ts) ≡ false → first_is 42 (drop 1 ts) ≡ true → scan_slash ts ≡ block_found (comment_end (drop 2 ts))
slash_block ts f h = if_false (first_is 47 (drop 1 ts)) _ _ f ∙ if_true (first_is 42 (drop 1 ts)) _ _ h

pub comment_covers : {u : List ℕ} → IsComment u → (rest : List ℕ) → Covers p.Comment u (scan_slash (u ++ rest))
comment_covers (line body h) rest = longer p.Comment _ (run_longer is_in_line (codes "//" ++ body) rest h) (λ _. refl)
comment_covers (block body h) rest =
    let e : comment_end ((body ++ end_mark) ++ rest) ≡ Some (length body + 2) = ap comment_end (append_assoc body end_mark rest) ∙ body_end body rest h in
    subst (λ (o : Option ℕ). Covers p.Comment (codes "/*" ++ (body ++ end_mark)) (block_found o)) (sym e)
    (longer p.Comment (length body + 2 + 2) (omega (arith, length-append body end_mark)) (λ _. refl))

pub comment_open : (rest : List ℕ) → ¬ Occurs end_mark rest → scan_slash (codes "/*" ++ rest) ≡ flaw why.OpenComment 0
comment_open rest h = ap block_found (no_end rest h)

-- the operators with a slash: the slash alone, and `/=`
pub divide_covers : (rest : List ℕ) → scan_slash (codes "/=" ++ rest) ≡ scan_operator (codes "/=" ++ rest)
divide_covers rest = refl

line_cut : (bs : List ℕ) → first_is 47 bs ≡ true → take_while is_in_line (47 ∷ bs) ≡ codes "//" ++ take_while is_in_line (drop 1 bs)
line_cut bs h =
    let e = first_cons 47 bs h in
    ap (λ l. take_while is_in_line (47 ∷ l)) e ∙ run_cons is_in_line 47 (47 ∷ drop 1 bs) refl ∙ ap (λ l. 47 ∷ l) (run_cons is_in_line 47 (drop 1 bs) refl)

block_sound : (fresh : Bool) (ts rest : List ℕ) (o : Option ℕ) → ts ≡ codes "/*" ++ rest → EndIs rest o → IsSound fresh ts (block_found o)
block_sound fresh ts rest None cut (endless h) = fault why.OpenComment 0 (subst (λ (l : List ℕ). IsPieceFault fresh l why.OpenComment 0) (sym cut) (open_comment rest h))
block_sound fresh ts rest (Some n) cut (ended d) =
    piece p.Comment (n + 2) (codes "/*" ++ (d.body ++ end_mark)) d.rest (cut ∙ ap (λ l. codes "/*" ++ l) (d.cut ∙ sym (append_assoc d.body end_mark d.rest))) (omega (arith, d.len, length-append d.body end_mark)) (comment (block d.body d.is))

pub slash_sound : (fresh : Bool) (bs : List ℕ) → IsSound fresh (47 ∷ bs) (scan_slash (47 ∷ bs))
slash_sound fresh bs =
    let ts = 47 ∷ bs in
    choose_by (IsSound fresh ts) (first_is 47 bs) _ _
    (λ t. piece p.Comment (prefix_len is_in_line ts) (take_while is_in_line ts) (drop (prefix_len is_in_line ts) ts) (cut_run is_in_line ts) (run_within is_in_line ts)
    (comment (subst IsComment (sym (line_cut bs t)) (line (take_while is_in_line (drop 1 bs)) (run_all is_in_line (drop 1 bs))))))
    (λ _. choose_by (IsSound fresh ts) (first_is 42 bs) _ _
    (λ t. block_sound fresh ts (drop 1 bs) (comment_end (drop 1 bs)) (ap (λ l. 47 ∷ l) (first_cons 42 bs t)) (end_is (drop 1 bs)))
    (λ _. operator_sound fresh ts))
