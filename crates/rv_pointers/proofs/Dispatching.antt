-- A dispatcher is run: it comes back with the place and the greatest frame of the function that it found, or with 0.
use Rattle.std.proofs.Common.{◌≡◌, ◌≢◌, ℕ, zero, suc, ◌+◌, ◌*◌, ◌^◌, ◌<◌, ◌≤◌, ◌==◌, Bool, true, false, not, nat_le, nat_lt, if◌then◌else◌, pos, List, ◌++◌, length, Option, Some, None, refl, sym, ap, ap₂, ◌∙◌, arith, subst, length-append, ◌⊎◌, inl, inr}
use Rattle.std.proofs.lemmas.Bool.{cases_eq}
use Rattle.std.proofs.lemmas.Bool.Decides.{nat_tests}
use Rattle.al_meaning.specs.Places.{function_address}
use Rattle.rv_isa.specs.declared.image.Contents.{Contents}
use Rattle.rv_isa.specs.declared.instr.Instr.{Instr}
use Rattle.rv_isa.specs.declared.instr.Instr.TheVariants.{Upper, Branch, Immediate}
use Rattle.rv_isa.specs.declared.instr.UpperOp.TheVariants.{Lui}
use Rattle.rv_isa.specs.declared.instr.BranchOp.TheVariants.{Bne, Bgeu}
use Rattle.rv_isa.specs.declared.instr.ImmediateOp.TheVariants.{Addi}
use Rattle.rv_exec.specs.Hart.{Hart, put, register, moved, with_register}
use Rattle.rv_exec.specs.Words.{word, sum_of, is_taken}
use Rattle.rv_exec.specs.Calls.{Privates, Goes}
use Rattle.rv_exec.specs.Step.{jumps_by, most_jumps}
use Rattle.rv_code.specs.declared.reach.Reach.TheVariants.{Long}
use Rattle.rv_code.specs.Homes.{low_part, high_part}
use Rattle.rv_code.specs.Jumps.{place, branch_code}
use Rattle.rv_code.specs.Runs.{Stands, Leads}
use Rattle.rv_code.proofs.Frames.{returns_by}
use Rattle.rv_code.proofs.Jumps.{ahead, branch_goes, branch_stays}
use Rattle.rv_code.proofs.Leading.{stands_front, stands_back, then_leads, one, fetched}
use Rattle.rv_code.proofs.Numbers.{whole}
use Rattle.rv_code.proofs.Operands.{IsKept}
use Rattle.rv_code.proofs.Slots.{put_same, put_other, reads}
use Rattle.rv_form.specs.Dispatch.{Tree, Nothing, Is, Split, tree_width, not_found, found_code, tree_code}
use Rattle.rv_form.specs.Flow.{wide_number, last_frame}
use Rattle.rv_pointers.proofs.Trees.{found_in, IsShallow, HasAll, equal_is, other_is}

pub not_used : (i n : ℕ) → (i < 2) ⊎ ((5 ≤ i) × (i < 18)) → IsKept n → n ≢ i
not_used i n (inl a) (inl f) e = absurd (omega (arith, a, f.0, e))
not_used i n (inl a) (inr f) e = absurd (omega (arith, a, f.0, e))
not_used i n (inr a) (inl f) e = absurd (omega (arith, a.0, f.1, e))
not_used i n (inr a) (inr f) e = absurd (omega (arith, a.1, f.0, e))

pub equal_so : (x y : ℕ) → x ≡ y → not (x == y) ≡ false
equal_so x y e = let q : (x == y) ≡ true = grind (arith, nat_tests, e) in ap not q

pub other_so : (x y : ℕ) → x ≢ y → not (x == y) ≡ true
other_so x y e = let q : (x == y) ≡ false = grind (arith, nat_tests, e) in ap not q

-- what comes back
abbrev pub Tells : (entry stack : ℕ → ℕ) → Option ℕ → (registers : ℕ → ℕ) → Type 0
Tells entry stack None registers = registers 6 ≡ 0
Tells entry stack (Some f) registers = (registers 6 ≡ place (entry f)) × (registers 7 ≡ last_frame 0 (stack f))

-- a function of a program, and where it begins
abbrev pub Known : (entry : ℕ → ℕ) → ℕ → Type 0
Known entry f = (f < 2 ^ 16) × (entry f < 2 ^ 23)

-- its words
tree_length : (entry stack : ℕ → ℕ) (at : ℕ) (t : Tree) → length (tree_code entry stack at t) ≡ tree_width t
tree_length entry stack at Nothing = refl
tree_length entry stack at (Is f) = refl
tree_length entry stack at (Split f below above) =
    omega (arith, length-append (tree_code entry stack (at + 5) below) (tree_code entry stack (at + 5 + tree_width below) above), tree_length entry stack (at + 5) below, tree_length entry stack (at + 5 + tree_width below) above)

module _ (image : Contents) (small : length image.code ≤ 2 ^ 23) where
  -- a number comes into a register by two instructions
  pub wides : (h : Hart) (p : Privates) (at rd n : ℕ) → h.pc ≡ place at → rd ≢ 0 → n < 2 ^ 32 → Stands image.code at (wide_number rd n)
      → Leads image h p (record h { pc = h.pc + 4 + 4; registers = put (put h.registers rd (high_part n * 2 ^ 12)) rd n; work = h.work + 1 + 1 }) p
  wides h p at rd n here some few has =
      let high : ℕ = high_part n * 2 ^ 12 in
      let h1 : Hart = record h { pc = h.pc + 4; registers = put h.registers rd high; work = h.work + 1 } in
      let h2 : Hart = record h { pc = h.pc + 4 + 4; registers = put (put h.registers rd high) rd n; work = h.work + 1 + 1 } in
      let value : sum_of (register (fetched h1) rd) (word (low_part n)) ≡ n = ap (λ v. sum_of v (word (low_part n))) (reads (fetched h1) rd some ∙ put_same h.registers rd high) ∙ whole n few in
      then_leads image {i = h1} {j = h2} (one image {h = h} {next = h1} {p = p} {q = p} small (Upper Lui rd (high_part n)) at has.0 here refl)
      (one image {h = h1} {next = h2} {p = p} {q = p} small (Immediate Addi rd rd (low_part n)) (at + 1) has.1.0 (omega (arith, here)) (ap (λ v. Goes (moved (with_register rd v (fetched h1))) p) value))

  pub record Told (h : Hart) (p : Privates) (back made : ℕ) (entry stack : ℕ → ℕ) (o : Option ℕ) : Type 0 where
    pub registers : ℕ → ℕ
    pub jumps : ℕ
    pub work : ℕ
    pub leads : Leads image h p (record h { pc = place back; registers = registers; jumps = jumps; work = work }) p
    pub tells : Tells entry stack o registers
    pub kept : (n : ℕ) → IsKept n → registers n ≡ h.registers n
    pub counted : jumps ≤ h.jumps + made

  module _ (entry stack : ℕ → ℕ) (back v : ℕ) (back_low : back < 2 ^ 23) where
    -- it returns
    none_told : (h : Hart) (p : Privates) (at : ℕ) → h.pc ≡ place at → h.registers 1 ≡ place back → h.jumps < most_jumps → Stands image.code at not_found → Told h p back 1 entry stack None
    none_told h p at here way room has =
        let rs : ℕ → ℕ = put h.registers 6 0 in
        let h1 : Hart = record h { pc = h.pc + 4; registers = rs; work = h.work + 1 } in
        let first : Leads image h p h1 p = one image {h = h} {next = h1} {p = p} {q = p} small (Immediate Addi 6 0 (pos 0)) at has.0 here refl in
        let b = returns_by image small h1 p (at + 1) back (omega (arith, here)) way back_low has.1 room in
        record {
          registers = b.registers;
          jumps = b.jumps;
          work = b.work;
          leads = then_leads image {i = h1} {j = record h { pc = place back; registers = b.registers; jumps = b.jumps; work = b.work }} first b.leads;
          tells = b.kept 6 (omega arith) (omega arith) (omega arith);
          kept = λ n k. b.kept n (not_used 0 n (inl (omega arith)) k) (not_used 1 n (inl (omega arith)) k) (not_used 8 n (inr (omega arith, omega arith)) k) ∙ put_other h.registers 6 0 n (not_used 6 n (inr (omega arith, omega arith)) k);
          counted = b.counted;
        }

    one_told : (f : ℕ) → Known entry f → (h : Hart) (p : Privates) (at : ℕ) → h.pc ≡ place at → h.registers 1 ≡ place back → h.jumps < most_jumps → Stands image.code at (found_code (entry f) (stack f)) → Told h p back 1 entry stack (Some f)
    one_told f known h p at here way room has =
        let six : ℕ → ℕ = put (put h.registers 6 (high_part (place (entry f)) * 2 ^ 12)) 6 (place (entry f)) in
        let h1 : Hart = record h { pc = h.pc + 4 + 4; registers = six; work = h.work + 1 + 1 } in
        let first : Leads image h p h1 p = wides h p at 6 (place (entry f)) here (omega arith) (omega (arith, known.1)) (has.0, (has.1.0, tt)) in
        let limit : ℕ = last_frame 0 (stack f) in
        let seven : ℕ → ℕ = put (put six 7 (high_part limit * 2 ^ 12)) 7 limit in
        let h2 : Hart = record h { pc = h.pc + 4 + 4 + 4 + 4; registers = seven; work = h.work + 1 + 1 + 1 + 1 } in
        let second : Leads image h1 p h2 p = wides h1 p (at + 1 + 1) 7 limit (omega (arith, here)) (omega arith) (omega arith) (has.1.1.0, (has.1.1.1.0, tt)) in
        let b = returns_by image small h2 p (at + 1 + 1 + 1 + 1) back (omega (arith, here)) way back_low has.1.1.1.1 room in
        record {
          registers = b.registers;
          jumps = b.jumps;
          work = b.work;
          leads = then_leads image {i = h1} {j = record h { pc = place back; registers = b.registers; jumps = b.jumps; work = b.work }} first (then_leads image {i = h2} {j = record h { pc = place back; registers = b.registers; jumps = b.jumps; work = b.work }} second b.leads);
          tells = (b.kept 6 (omega arith) (omega arith) (omega arith), b.kept 7 (omega arith) (omega arith) (omega arith));
          kept = λ n k. b.kept n (not_used 0 n (inl (omega arith)) k) (not_used 1 n (inl (omega arith)) k) (not_used 8 n (inr (omega arith, omega arith)) k)
              ∙ put_other (put six 7 _) 7 limit n (not_used 7 n (inr (omega arith, omega arith)) k) ∙ put_other six 7 _ n (not_used 7 n (inr (omega arith, omega arith)) k)
              ∙ put_other (put h.registers 6 _) 6 _ n (not_used 6 n (inr (omega arith, omega arith)) k) ∙ put_other h.registers 6 _ n (not_used 6 n (inr (omega arith, omega arith)) k);
          counted = b.counted;
        }

    with_more : (h : Hart) (p : Privates) (i j : ℕ) (o : Option ℕ) → i ≤ j → Told h p back i entry stack o → Told h p back j entry stack o
    with_more h p i j o le t = record { registers = t.registers; jumps = t.jumps; work = t.work; leads = t.leads; tells = t.tells; kept = t.kept; counted = omega (arith, t.counted, le) }

    behind : (h : Hart) (p : Privates) (c : ℕ) (rs : ℕ → ℕ) (js w i j : ℕ) (o : Option ℕ) → Leads image h p (record h { pc = c; registers = rs; jumps = js; work = w }) p
        → ((k : ℕ) → IsKept k → rs k ≡ h.registers k) → js ≤ h.jumps + j → Told (record h { pc = c; registers = rs; jumps = js; work = w }) p back i entry stack o → Told h p back (j + i) entry stack o
    behind h p c rs js w i j o leads same more t = record {
      registers = t.registers;
      jumps = t.jumps;
      work = t.work;
      leads = then_leads image {i = record h { pc = c; registers = rs; jumps = js; work = w }} {j = record h { pc = place back; registers = t.registers; jumps = t.jumps; work = t.work }} leads t.leads;
      tells = t.tells;
      kept = λ n k. t.kept n k ∙ same n k;
      counted = omega (arith, t.counted, more);
    }

    same_six : (h : Hart) (x y n : ℕ) → IsKept n → put (put h.registers 6 x) 6 y n ≡ h.registers n
    same_six h x y n k = put_other (put h.registers 6 x) 6 y n (not_used 6 n (inr (omega arith, omega arith)) k) ∙ put_other h.registers 6 x n (not_used 6 n (inr (omega arith, omega arith)) k)

    is_told : (f : ℕ) → Known entry f → (h : Hart) (p : Privates) (at : ℕ) → h.pc ≡ place at → h.registers 1 ≡ place back → h.registers 10 ≡ v → h.jumps < most_jumps
        → at + 10 < 2 ^ 23 → Stands image.code at (tree_code entry stack at (Is f)) → Told h p back 1 entry stack (found_in (Is f) v)
    is_told f known h p at here way ten room low has = on (cases_eq (function_address f) v) where
      six : ℕ → ℕ
      six = put (put h.registers 6 (high_part (function_address f) * 2 ^ 12)) 6 (function_address f)

      h1 : Hart
      h1 = record h { pc = h.pc + 4 + 4; registers = six; work = h.work + 1 + 1 }

      first : Leads image h p h1 p
      first = wides h p at 6 (function_address f) here (omega arith) (omega (arith, known.0)) (has.0, (has.1.0, tt))

      named : register h1 6 ≡ function_address f
      named = put_same (put h.registers 6 (high_part (function_address f) * 2 ^ 12)) 6 (function_address f)

      asked : register h1 10 ≡ v
      asked = put_other (put h.registers 6 (high_part (function_address f) * 2 ^ 12)) 6 (function_address f) 10 (omega arith) ∙ put_other h.registers 6 (high_part (function_address f) * 2 ^ 12) 10 (omega arith) ∙ ten

      link : six 1 ≡ place back
      link = put_other (put h.registers 6 (high_part (function_address f) * 2 ^ 12)) 6 (function_address f) 1 (omega arith) ∙ put_other h.registers 6 (high_part (function_address f) * 2 ^ 12) 1 (omega arith) ∙ way

      on : (function_address f ≡ v) ⊎ (function_address f ≢ v) → Told h p back 1 entry stack (found_in (Is f) v)
      on (inl e) =
          let t : is_taken Bne (register h1 10) (register h1 6) ≡ false = equal_so (register h1 10) (register h1 6) (asked ∙ sym e ∙ sym named) in
          let h2 : Hart = record h { pc = h.pc + 4 + 4 + 4; registers = six; work = h.work + 1 + 1 + 1 } in
          let second : Leads image h1 p h2 p = one image {h = h1} {next = h2} {p = p} {q = p} small (Branch Bne 10 6 (pos 24)) (at + 1 + 1) has.1.1.0 (omega (arith, here))
          (ap (λ (b : Bool). if b then jumps_by (pos 24) (fetched h1) (fetched h1) p else Goes (moved (fetched h1)) p) t) in
          let found = one_told f known h2 p (at + 1 + 1 + 1) (omega (arith, here)) link room (stands_front image.code (at + 1 + 1 + 1) (found_code (entry f) (stack f)) not_found has.1.1.1) in
          let told : Told h p back 1 entry stack (Some f) = behind h p h2.pc six h.jumps h2.work 1 0 (Some f) (then_leads image {i = h1} {j = h2} first second) (λ n k. same_six h _ _ n k) (omega arith) found in
          let is : found_in (Is f) v ≡ Some f = ap (λ (b : Bool). if b then Some f else None) (equal_is (function_address f) v e) in
          subst (λ (o : Option ℕ). Told h p back 1 entry stack o) (sym is) told
      on (inr e) =
          let t : is_taken Bne (register h1 10) (register h1 6) ≡ true = other_so (register h1 10) (register h1 6) (λ q. e (sym (sym asked ∙ q ∙ named))) in
          let h2 : Hart = record h { pc = h.pc + 4 + 4 + 24; registers = six; work = h.work + 1 + 1 + 1 } in
          let second : Leads image h1 p h2 p = one image {h = h1} {next = h2} {p = p} {q = p} small (Branch Bne 10 6 (pos 24)) (at + 1 + 1) has.1.1.0 (omega (arith, here))
          (ap (λ (b : Bool). if b then jumps_by (pos 24) (fetched h1) (fetched h1) p else Goes (moved (fetched h1)) p) t ∙ ahead image small (fetched h1) p 24 (omega arith) (omega arith) (omega (arith, here, low))) in
          let found = none_told h2 p (at + 1 + 1 + 1 + 5) (omega (arith, here)) link room (stands_back image.code (at + 1 + 1 + 1) (found_code (entry f) (stack f)) not_found has.1.1.1) in
          let told : Told h p back 1 entry stack None = behind h p h2.pc six h.jumps h2.work 1 0 None (then_leads image {i = h1} {j = h2} first second) (λ n k. same_six h _ _ n k) (omega arith) found in
          let is : found_in (Is f) v ≡ None = ap (λ (b : Bool). if b then Some f else None) (other_is (function_address f) v e) in
          subst (λ (o : Option ℕ). Told h p back 1 entry stack o) (sym is) told

    pub tree_told : (levels : ℕ) (t : Tree) → IsShallow levels t → HasAll (Known entry) t → (h : Hart) (p : Privates) (at : ℕ) → h.pc ≡ place at → h.registers 1 ≡ place back → h.registers 10 ≡ v → h.jumps + levels < most_jumps
        → at + tree_width t < 2 ^ 23 → Stands image.code at (tree_code entry stack at t) → Told h p back (levels + 1) entry stack (found_in t v)
    tree_told levels Nothing shallow known h p at here way ten room low has = with_more h p 1 (levels + 1) None (omega arith) (none_told h p at here way (omega (arith, room)) has)
    tree_told levels (Is f) shallow known h p at here way ten room low has = with_more h p 1 (levels + 1) (found_in (Is f) v) (omega arith) (is_told f known h p at here way ten (omega (arith, room)) low has)
    tree_told zero (Split f below above) shallow known h p at here way ten room low has = absurd shallow
    tree_told (suc levels) (Split f below above) shallow known h p at here way ten room low has =
        on
        (λ h1 here1 way1 ten1 room1. tree_told levels below shallow.0 known.1.0 h1 p (at + 5) here1 way1 ten1 room1 (omega (arith, low)) left)
        (λ h1 here1 way1 ten1 room1. tree_told levels above shallow.1 known.1.1 h1 p (at + 5 + tree_width below) here1 way1 ten1 room1 (omega (arith, low)) right)
        (nat_lt v (function_address f)) refl where
          six : ℕ → ℕ
          six = put (put h.registers 6 (high_part (function_address f) * 2 ^ 12)) 6 (function_address f)

          h1 : Hart
          h1 = record h { pc = h.pc + 4 + 4; registers = six; work = h.work + 1 + 1 }

          first : Leads image h p h1 p
          first = wides h p at 6 (function_address f) here (omega arith) (omega (arith, known.0)) (has.0, (has.1.0, tt))

          named : register h1 6 ≡ function_address f
          named = put_same (put h.registers 6 (high_part (function_address f) * 2 ^ 12)) 6 (function_address f)

          asked : register h1 10 ≡ v
          asked = put_other (put h.registers 6 (high_part (function_address f) * 2 ^ 12)) 6 (function_address f) 10 (omega arith) ∙ put_other h.registers 6 (high_part (function_address f) * 2 ^ 12) 10 (omega arith) ∙ ten

          link : six 1 ≡ place back
          link = put_other (put h.registers 6 (high_part (function_address f) * 2 ^ 12)) 6 (function_address f) 1 (omega arith) ∙ put_other h.registers 6 (high_part (function_address f) * 2 ^ 12) 1 (omega arith) ∙ way

          branch : List Instr
          branch = branch_code Long Bgeu 10 6 (at + 2) (at + 5 + tree_width below)

          low_code : List Instr
          low_code = tree_code entry stack (at + 5) below

          high_code : List Instr
          high_code = tree_code entry stack (at + 5 + tree_width below) above

          rest : Stands image.code (at + 2) (branch ++ (low_code ++ high_code))
          rest = stands_back image.code at (wide_number 6 (function_address f)) (branch ++ (low_code ++ high_code)) has

          tail : Stands image.code (at + 5) (low_code ++ high_code)
          tail = let e : at + 2 + 3 ≡ at + 5 = omega arith in subst (λ n. Stands image.code n (low_code ++ high_code)) e (stands_back image.code (at + 2) branch (low_code ++ high_code) rest)

          left : Stands image.code (at + 5) low_code
          left = stands_front image.code (at + 5) low_code high_code tail

          right : Stands image.code (at + 5 + tree_width below) high_code
          right = let e : at + 5 + length low_code ≡ at + 5 + tree_width below = ap (λ n. at + 5 + n) (tree_length entry stack (at + 5) below) in subst (λ n. Stands image.code n high_code) e (stands_back image.code (at + 5) low_code high_code tail)

          tested : (b : Bool) → nat_lt v (function_address f) ≡ b → is_taken Bgeu (register h1 10) (register h1 6) ≡ not b
          tested b e = ap₂ (λ x y. not (nat_lt x y)) asked named ∙ ap not e

          decided : (b : Bool) → nat_lt v (function_address f) ≡ b → found_in (Split f below above) v ≡ (if b then found_in below v else found_in above v)
          decided true e = let q : nat_le (function_address f) v ≡ false = grind (arith, nat_tests, e) in ap (λ (b : Bool). if b then found_in above v else found_in below v) q
          decided false e = let q : nat_le (function_address f) v ≡ true = grind (arith, nat_tests, e) in ap (λ (b : Bool). if b then found_in above v else found_in below v) q

          on : ((h1 : Hart) → h1.pc ≡ place (at + 5) → h1.registers 1 ≡ place back → h1.registers 10 ≡ v → h1.jumps + levels < most_jumps → Told h1 p back (levels + 1) entry stack (found_in below v))
              → ((h1 : Hart) → h1.pc ≡ place (at + 5 + tree_width below) → h1.registers 1 ≡ place back → h1.registers 10 ≡ v → h1.jumps + levels < most_jumps → Told h1 p back (levels + 1) entry stack (found_in above v))
              → (b : Bool) → nat_lt v (function_address f) ≡ b → Told h p back (suc levels + 1) entry stack (found_in (Split f below above) v)
          on lower upper true e =
              let g = branch_stays image small Bgeu 10 6 (at + 2) (at + 5 + tree_width below) h1 p (omega (arith, here)) (omega (arith, low)) (omega (arith, low)) (omega (arith, room)) Long (stands_front image.code (at + 2) branch (low_code ++ high_code) rest) (tested true e) in
              let h2 : Hart = record h { pc = place (at + 2 + 3); registers = six; work = g.work } in
              let told = lower h2 (omega arith) link asked (omega (arith, room)) in
              let all = behind h p h2.pc six h.jumps g.work (levels + 1) 1 (found_in below v) (then_leads image {i = h1} {j = h2} first g.leads) (λ n k. same_six h _ _ n k) (omega arith) told in
              let more : Told h p back (suc levels + 1) entry stack (found_in below v) = with_more h p (1 + (levels + 1)) (suc levels + 1) (found_in below v) (omega arith) all in
              subst (λ (o : Option ℕ). Told h p back (suc levels + 1) entry stack o) (sym (decided true e)) more
          on lower upper false e =
              let g = branch_goes image small Bgeu 10 6 (at + 2) (at + 5 + tree_width below) h1 p (omega (arith, here)) (omega (arith, low)) (omega (arith, low)) (omega (arith, room)) Long (stands_front image.code (at + 2) branch (low_code ++ high_code) rest) (tested false e) in
              let h2 : Hart = record h { pc = place (at + 5 + tree_width below); registers = g.registers; jumps = g.jumps; work = g.work } in
              let told = upper h2 refl (g.kept 1 (omega arith) (omega arith) ∙ link) (g.kept 10 (omega arith) (omega arith) ∙ asked) (omega (arith, room, g.counted)) in
              let all = behind h p h2.pc g.registers g.jumps g.work (levels + 1) 1 (found_in above v) (then_leads image {i = h1} {j = h2} first g.leads)
              (λ n k. g.kept n (not_used 0 n (inl (omega arith)) k) (not_used 5 n (inr (omega arith, omega arith)) k) ∙ same_six h _ _ n k) g.counted told in
              let more : Told h p back (suc levels + 1) entry stack (found_in above v) = with_more h p (1 + (levels + 1)) (suc levels + 1) (found_in above v) (omega arith) all in
              subst (λ (o : Option ℕ). Told h p back (suc levels + 1) entry stack o) (sym (decided false e)) more
