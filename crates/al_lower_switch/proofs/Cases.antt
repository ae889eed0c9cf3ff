-- Where the cases of a body begin, and what is done from each of them on.
use Rattle.std.proofs.Common.{◌≡◌, ℕ, ◌+◌, ◌≤◌, List, [], ◌∷◌, ◌++◌, Option, Some, None, sym, subst, arith}
use Rattle.std.specs.Prelude.{⊤, Bool, true, false, ◌==◌, if◌then◌else◌, unwrap_or}
use Rattle.std.specs.List.{AllByRecursion}
use Rattle.al_typed.specs.declared.statement.TStmt.{TStmt, Case, Default, Row_of-TStmt, end_of-TStmt, more_of-TStmt}
use Rattle.al_meaning.specs.Meant.{Part, meant_all, part_of_case, part_of_default, returned, become_in}
use Rattle.al_lower_code.specs.Heads.{CasePlace}
use Rattle.al_lower_code.specs.Statements.{stmt_code, all_code, stmt_size, all_size, case_places, default_place}
use Rattle.al_lower_steps.specs.Site.{HasAt}
use Rattle.al_lower_steps.proofs.Steps.{has_back}
use Rattle.al_lower_flow.proofs.Flow.{goes_at, round_less, From}
use Rattle.al_lower_bodies.proofs.Bodies.{Body, site_of, vars_of, spot_in, MeansIn, StmtIn, AllIn, IsKnown}
use Rattle.al_lower_bodies.proofs.Forms.{none_do, more_do}

-- the place of the first case with these bits
abbrev pub first_place : ℕ → List CasePlace → Option ℕ
first_place bits [] = None
first_place bits (c ∷ cs) = if c.bits == bits then Some c.place else first_place bits cs

-- ---- places lie in the body

pub places_behind : (b : Body) {m : _} (row : Row_of-TStmt m) (least pc : ℕ) → least ≤ pc → AllByRecursion (λ (c : CasePlace). least ≤ c.place) (case_places (spot_in b) row pc)
places_behind b end_of-TStmt least pc le = tt
places_behind b (more_of-TStmt (Case line bits) rest) least pc le = (le, places_behind b rest least pc le)
places_behind b (more_of-TStmt a rest) least pc le = places_behind b rest least (pc + stmt_size (spot_in b) a) (omega (arith, le))

pub default_behind : (b : Body) {m : _} (row : Row_of-TStmt m) (end least pc : ℕ) → least ≤ pc → least ≤ end → least ≤ unwrap_or (default_place (spot_in b) row pc) end
default_behind b end_of-TStmt end least pc le high = high
default_behind b (more_of-TStmt Default rest) end least pc le high = le
default_behind b (more_of-TStmt a rest) end least pc le high = default_behind b rest end least (pc + stmt_size (spot_in b) a) (omega (arith, le)) high

-- ---- the statements of a body

abbrev pub RowsIn : Body → (breaks loops : ℕ) → {m : _} → Row_of-TStmt m → Type 0
RowsIn b breaks loops end_of-TStmt = ⊤
RowsIn b breaks loops (more_of-TStmt a rest) = StmtIn b breaks loops a × RowsIn b breaks loops rest

pub all_in : (b : Body) {breaks loops : ℕ} {m : _} (row : Row_of-TStmt m) → RowsIn b breaks loops row → AllIn b breaks loops row
all_in b {breaks} {loops} end_of-TStmt h = none_do (site_of b) (vars_of b) (spot_in b) b.call (returned b.row.locals b.given) (become_in b.row.locals b.instead b.given) (IsKnown b) {breaks = breaks} {loops = loops}
all_in b {breaks} {loops} (more_of-TStmt a rest) h =
    more_do (site_of b) (vars_of b) (spot_in b) b.call (returned b.row.locals b.given) (become_in b.row.locals b.instead b.given) (IsKnown b) a rest h.0 (all_in b rest h.1)

-- what is done from a place in a body on
abbrev pub FromIn : (b : Body) (breaks loops : ℕ) {m : _} → Row_of-TStmt m → (pc : ℕ) → Option Part → Option ℕ → Type 0
FromIn b breaks loops row pc o i = From (site_of b) (vars_of b) (spot_in b) b.call (returned b.row.locals b.given) (become_in b.row.locals b.instead b.given) (IsKnown b) breaks loops (λ c pc. all_code (spot_in b) c row pc) (all_size (spot_in b) row) pc o i

module _ (b : Body) (breaks loops : ℕ) where
  -- behind the first one
  behind_first : {m : _} (a : TStmt) (rest : Row_of-TStmt m) → StmtIn b breaks loops a → (q : Part) (pc at : ℕ) → MeansIn b breaks loops (λ c pc. all_code (spot_in b) c rest pc) (all_size (spot_in b) rest) q (pc + stmt_size (spot_in b) a) at → MeansIn b breaks loops (λ c pc. stmt_code (spot_in b) c a pc ++ all_code (spot_in b) c rest (pc + stmt_size (spot_in b) a)) (stmt_size (spot_in b) a + all_size (spot_in b) rest) q pc at
  behind_first {m} a rest h q pc at f line c jump behind again next has round jumps go =
      let s = spot_in b in
      let size = stmt_size s a in
      let more = all_size s rest in
      let back : HasAt (site_of b) (pc + size) (all_code s c rest (pc + size)) = subst (λ i. HasAt (site_of b) (pc + i) (all_code s c rest (pc + size))) (h.sized c pc) (has_back (site_of b) pc (stmt_code s c a pc) (all_code s c rest (pc + size)) has) in
      let end : pc + size + more ≡ pc + (size + more) = omega arith in
      f line c jump behind again next back (round_less (site_of b) (vars_of b) (pc + size + more) (omega arith) round) jumps (goes_at (site_of b) (vars_of b) end go)

  later : {m : _} (a : TStmt) (rest : Row_of-TStmt m) → StmtIn b breaks loops a → (pc : ℕ) (o : Option Part) (i : Option ℕ) → FromIn b breaks loops rest (pc + stmt_size (spot_in b) a) o i → From (site_of b) (vars_of b) (spot_in b) b.call (returned b.row.locals b.given) (become_in b.row.locals b.instead b.given) (IsKnown b) breaks loops (λ c pc. stmt_code (spot_in b) c a pc ++ all_code (spot_in b) c rest (pc + stmt_size (spot_in b) a)) (stmt_size (spot_in b) a + all_size (spot_in b) rest) pc o i
  later {m} a rest h pc None None f = tt
  later {m} a rest h pc (Some q) (Some at) f = behind_first a rest h q pc at f
  later {m} a rest h pc None (Some at) f = absurd f
  later {m} a rest h pc (Some q) None f = absurd f

  -- from a case with these bits on, and from the default on
  pub case_from : {m : _} (row : Row_of-TStmt m) → RowsIn b breaks loops row → (bits n pc : ℕ) → FromIn b breaks loops row pc (part_of_case bits row n) (first_place bits (case_places (spot_in b) row pc))
  case_from end_of-TStmt h bits n pc = tt
  case_from (more_of-TStmt (Case line label) rest) h bits n pc =
      let z : pc ≡ pc + 0 = omega arith in
      on (label == bits) (subst (λ i. FromIn b breaks loops rest (pc + 0) (part_of_case bits rest n) (first_place bits (case_places (spot_in b) rest i))) (sym z) (case_from rest h.1 bits n (pc + 0)))
    where
      on : (c : Bool) → FromIn b breaks loops rest (pc + 0) (part_of_case bits rest n) (first_place bits (case_places (spot_in b) rest pc)) → FromIn b breaks loops (more_of-TStmt (Case line label) rest) pc (if c then Some (meant_all rest n) else part_of_case bits rest n) (if c then Some pc else first_place bits (case_places (spot_in b) rest pc))
      on true f = λ line0 c jump behind again next has round jumps go.
          let z : pc ≡ pc + 0 = omega arith in
          goes_at (site_of b) (vars_of b) z (behind_first (Case line label) rest h.0 (meant_all rest n) pc (pc + 0) ((all_in b rest h.1).by n (pc + 0)) line0 c jump behind again next has round jumps go)
      on false f = later (Case line label) rest h.0 pc (part_of_case bits rest n) (first_place bits (case_places (spot_in b) rest pc)) f
  case_from (more_of-TStmt a rest) h bits n pc =
      later a rest h.0 pc (part_of_case bits rest n) (first_place bits (case_places (spot_in b) rest (pc + stmt_size (spot_in b) a))) (case_from rest h.1 bits n (pc + stmt_size (spot_in b) a))

  pub default_from : {m : _} (row : Row_of-TStmt m) → RowsIn b breaks loops row → (n pc : ℕ) → FromIn b breaks loops row pc (part_of_default row n) (default_place (spot_in b) row pc)
  default_from end_of-TStmt h n pc = tt
  default_from (more_of-TStmt Default rest) h n pc = λ line0 c jump behind again next has round jumps go.
      let z : pc ≡ pc + 0 = omega arith in
      goes_at (site_of b) (vars_of b) z (behind_first Default rest h.0 (meant_all rest n) pc (pc + 0) ((all_in b rest h.1).by n (pc + 0)) line0 c jump behind again next has round jumps go)
  default_from (more_of-TStmt a rest) h n pc =
      later a rest h.0 pc (part_of_default rest n) (default_place (spot_in b) rest (pc + stmt_size (spot_in b) a)) (default_from rest h.1 n (pc + stmt_size (spot_in b) a))
