-- The bodies of an alt's cases, and where they begin.
use Rattle.std.proofs.Common.{◌≡◌, ℕ, ◌+◌, ◌≤◌, List, [], ◌∷◌, ◌++◌, refl, sym, subst, arith}
use Rattle.std.specs.Prelude.{⊤}
use Rattle.al_typed.specs.declared.statement.TStmt.{TStmt, AltCase, Row_of-TStmt, end_of-TStmt, more_of-TStmt}
use Rattle.al_typed.specs.declared.statement.TCommunication.{TCommunication}
use Rattle.al_meaning.specs.Meant.{Part, Branching, meant_all, branchings}
use Rattle.al_lower_code.specs.Heads.{cases_in}
use Rattle.al_lower_code.specs.Statements.{stmt_code, all_code, stmt_size, all_size, body_places}
use Rattle.al_lower_steps.specs.Site.{HasAt}
use Rattle.al_lower_steps.proofs.Steps.{has_back}
use Rattle.al_lower_flow.proofs.Flow.{goes_at, round_less}
use Rattle.al_lower_bodies.proofs.Bodies.{Body, site_of, vars_of, spot_in, MeansIn, StmtIn}
use Rattle.al_lower_switch.proofs.Cases.{RowsIn, all_in}

module _ (b : Body) (breaks loops : ℕ) where
  -- these bodies are gone through from these places on, which are at least `least`, in a row that stands from pc on
  abbrev pub BodiesFrom : {m : _} → Row_of-TStmt m → (least pc : ℕ) → List Branching → List ℕ → List TCommunication → Type 0
  BodiesFrom row least pc [] [] [] = ⊤
  BodiesFrom row least pc (x ∷ xs) (p ∷ ps) (c ∷ cs) =
      ((x.communication ≡ c) × ((least ≤ p) × MeansIn b breaks loops (λ c pc. all_code (spot_in b) c row pc) (all_size (spot_in b) row) x.body pc p)) × BodiesFrom row least pc xs ps cs
  BodiesFrom row least pc _ _ _ = ⊥

  -- behind the first one
  behind_first : {m : _} (a : TStmt) (rest : Row_of-TStmt m) → StmtIn b breaks loops a → (q : Part) (pc at : ℕ) → MeansIn b breaks loops (λ c pc. all_code (spot_in b) c rest pc) (all_size (spot_in b) rest) q (pc + stmt_size (spot_in b) a) at → MeansIn b breaks loops (λ c pc. stmt_code (spot_in b) c a pc ++ all_code (spot_in b) c rest (pc + stmt_size (spot_in b) a)) (stmt_size (spot_in b) a + all_size (spot_in b) rest) q pc at
  behind_first {m} a rest h q pc at f line c jump behind again next has round jumps go =
      let s = spot_in b in
      let size = stmt_size s a in
      let more = all_size s rest in
      let back : HasAt (site_of b) (pc + size) (all_code s c rest (pc + size)) = subst (λ i. HasAt (site_of b) (pc + i) (all_code s c rest (pc + size))) (h.sized c pc) (has_back (site_of b) pc (stmt_code s c a pc) (all_code s c rest (pc + size)) has) in
      let end : pc + size + more ≡ pc + (size + more) = omega arith in
      f line c jump behind again next back (round_less (site_of b) (vars_of b) (pc + size + more) (omega arith) round) jumps (goes_at (site_of b) (vars_of b) end go)

  later : {m : _} (a : TStmt) (rest : Row_of-TStmt m) → StmtIn b breaks loops a → (least pc : ℕ) (xs : List Branching) (ps : List ℕ) (cs : List TCommunication) → BodiesFrom rest least (pc + stmt_size (spot_in b) a) xs ps cs → BodiesFrom (more_of-TStmt a rest) least pc xs ps cs
  later {m} a rest h least pc [] [] [] f = tt
  later {m} a rest h least pc (x ∷ xs) (p ∷ ps) (c ∷ cs) f = ((f.0.0, (f.0.1.0, behind_first a rest h x.body pc p f.0.1.1)), later a rest h least pc xs ps cs f.1)
  later {m} a rest h least pc [] [] (c ∷ cs) f = f
  later {m} a rest h least pc [] (p ∷ ps) cs f = f
  later {m} a rest h least pc (x ∷ xs) [] cs f = f
  later {m} a rest h least pc (x ∷ xs) (p ∷ ps) [] f = f

  pub bodies_from : {m : _} (row : Row_of-TStmt m) → RowsIn b breaks loops row → (n least pc : ℕ) → least ≤ pc → BodiesFrom row least pc (branchings row n) (body_places (spot_in b) row pc) (cases_in row)
  bodies_from end_of-TStmt h n least pc le = tt
  bodies_from (more_of-TStmt (AltCase c) rest) h n least pc le =
      let z : pc ≡ pc + 0 = omega arith in (
        (
          refl,
          (
            le,
            λ line0 c2 jump behind again next has round jumps go.
                goes_at (site_of b) (vars_of b) z (behind_first (AltCase c) rest h.0 (meant_all rest n) pc (pc + 0) ((all_in b rest h.1).by n (pc + 0)) line0 c2 jump behind again next has round jumps go),
          ),
        ),
        later (AltCase c) rest h.0 least pc (branchings rest n) (body_places (spot_in b) rest pc) (cases_in rest) (subst (λ i. BodiesFrom rest least (pc + 0) (branchings rest n) (body_places (spot_in b) rest i) (cases_in rest)) (sym z) (bodies_from rest h.1 n least (pc + 0) (omega (arith, le)))),
      )
  bodies_from (more_of-TStmt a rest) h n least pc le =
      later a rest h.0 least pc (branchings rest n) (body_places (spot_in b) rest (pc + stmt_size (spot_in b) a)) (cases_in rest) (bodies_from rest h.1 n least (pc + stmt_size (spot_in b) a) (omega (arith, le)))
