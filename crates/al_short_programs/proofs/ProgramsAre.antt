-- The program of a text is short, and its string constants are of bytes where the text is.
use Rattle.std.proofs.Common.{◌≡◌, ℕ, ◌+◌, ◌≤◌, ◌<◌, ◌^◌, Bool, true, ◌&&◌, List, [], ◌∷◌, ◌++◌, length, flat_map, Option, Some, None, All, refl, sym, ap, ap₂, ◌∙◌, arith, length-append, leb-true, lt-ltb, ltb-true}
use Rattle.std.specs.List.{list_all, AllByRecursion}
use Rattle.std.proofs.lemmas.Bool.{and_parts}
use Rattle.std.proofs.lemmas.List.{length-map}
use Rattle.std.proofs.lemmas.List.Elements.{All-cons, All-nil}
use Rattle.std.proofs.lemmas.List.Folds.{list_all-map}
use Rattle.al_lex.specs.TokenList.{TokenList}
use Rattle.al_tree.specs.Tree.{IsTree}
use Rattle.al_tree.specs.declared.item.Tree.{Tree}
use Rattle.al_rules.specs.Outcome.{Good, and_then}
use Rattle.al_called.specs.Items.{names_are_called}
use Rattle.al_scope.specs.declared.declaration.Scopes.{Scopes}
use Rattle.al_scope.specs.Items.{resolved}
use Rattle.al_poly.specs.declared.instance.Instance.{Instance}
use Rattle.al_poly.specs.Instances.{instances}
use Rattle.al_typed.specs.declared.program.Program.{Program}
use Rattle.al_typed.specs.Sound.{IsShort}
use Rattle.al_environment.specs.declared.environment.Environment.{Environment}
use Rattle.al_declare.specs.Functions.{functions}
use Rattle.al_declare.specs.Items.{names_hold}
use Rattle.al_initial.specs.declared.globals.Initial.{Initial}
use Rattle.al_initial.specs.Whole.{bytes_in, gathered, initial}
use Rattle.al_build_environment.specs.Whole.{environment}
use Rattle.al_bodies.specs.declared.found.Bodies.{Bodies}
use Rattle.al_check.specs.Checked.{bodies_of, check, main_number, program, whole, with_bodies, with_flows, with_globals, with_main, with_names}
use Rattle.al_check.specs.Flow.{all_targets}
use Rattle.al_front.specs.Accepted.{IsRead}
use Rattle.al_tree_laws.specs.Texts.{Texts, body_texts, global_texts, item_texts, is_short}
use Rattle.al_tree_laws.proofs.TextsAre.{texts_are_few}
use Rattle.al_tree_laws.proofs.BytesAre.{is_byte, are_bytes, texts_are_bytes}
use Rattle.al_short_programs.specs.Short.{ProgramsAreShort}
use Rattle.al_short_programs.specs.Bytes.{AreBytes, StringsOfBytes}
use Rattle.al_short_programs.proofs.Outcomes.{good_is, and_then_good}
use Rattle.al_short_programs.proofs.TokensAre.{tokens_few}
use Rattle.al_short_programs.proofs.InitialsAre.{IsInitial, gathered_grows, initial_is}
use Rattle.al_short_programs.proofs.GlobalsAre.{globals_count}
use Rattle.al_short_programs.proofs.GatheredAre.{bodies_grow, defined_hold, defined_texts}
use Rattle.al_short_programs.proofs.DefinedAre.{functions_count}
use Rattle.al_short_programs.proofs.Lists.{Grows, both_hold, two_count, two_hold}

-- what a checked program is of
pub record IsChecked (tree : Tree) (is : List Instance) (p : Program) : Type 0 where
  pub scopes : Scopes
  pub env : Environment
  pub env_is : environment tree is scopes ≡ Good env
  pub initials : Initial
  pub initials_are : initial env tree ≡ Good initials
  pub bodies : Bodies
  pub bodies_are : bodies_of tree is env (length initials.texts) ≡ Good bodies
  pub globals : p.globals ≡ initials.globals
  pub strings : p.strings ≡ initials.texts ++ bodies.texts

main_is : (env : Environment) (i : Initial) (b : Bodies) (o : Option ℕ) (p : Program) → with_main env i b o ≡ Good p → (p.globals ≡ i.globals) × (p.strings ≡ i.texts ++ b.texts)
main_is env i b None p h = absurd (let f : ⊥ = cc in f)
main_is env i b (Some main) p h =
    let e = good_is (program env i b main) p h in
    (sym (ap (λ (x : Program). x.globals) e), sym (ap (λ (x : Program). x.strings) e))

checked_is : (tree : Tree) (is : List Instance) (p : Program) → check tree is ≡ Good p → IsChecked tree is p
unfolding check with_flows with_names with_globals with_bodies whole
checked_is tree is p h =
    let a = and_then_good (names_hold tree) (λ _. and_then (names_are_called tree) (λ _. and_then (all_targets tree.items) (λ _. with_flows tree is))) p h in
    let b = and_then_good (names_are_called tree) (λ _. and_then (all_targets tree.items) (λ _. with_flows tree is)) p a.2 in
    let c = and_then_good (all_targets tree.items) (λ _. with_flows tree is) p b.2 in
    let d = and_then_good (resolved tree) (with_names tree is) p c.2 in
    let e = and_then_good (environment tree is d.0) (with_globals tree is) p d.2 in
    let f = and_then_good (initial e.0 tree) (with_bodies tree is e.0) p e.2 in
    let g = and_then_good (bodies_of tree is e.0 (length f.0.texts)) (whole tree e.0 f.0) p f.2 in
    let m = main_is e.0 f.0 g.0 (main_number tree e.0) p g.2 in
    record { scopes = d.0; env = e.0; env_is = e.1; initials = f.0; initials_are = f.1; bodies = g.0; bodies_are = g.1; globals = m.0; strings = m.1 }

-- ---- the limits

all_small : (n : ℕ) (xs : Texts) → n + 1 < 2 ^ 32 → list_all (is_short n) xs ≡ true → All (λ (s : List ℕ). length s + 1 < 2 ^ 32) xs
all_small n [] h k = All-nil (λ (s : List ℕ). length s + 1 < 2 ^ 32)
all_small n (x ∷ xs) h k =
    let p = and_parts (is_short n x) (list_all (is_short n) xs) k in
    All-cons (λ (s : List ℕ). length s + 1 < 2 ^ 32) x xs (omega (arith, h, leb-true (length x) n p.0)) (all_small n xs h p.1)

initials_grow : (Q : List ℕ → Bool) (env : Environment) (tree : Tree) (i : Initial) → IsInitial env tree i → Grows Q (flat_map global_texts tree.items) [] i.texts
initials_grow Q env tree i is =
    let a = gathered_grows Q env tree in
    let ts = (gathered env tree).texts in
    record {
      count = omega (arith, a.count, ap length is.texts, length-map ts bytes_in);
      each = λ h k. ap (list_all Q) is.texts ∙ list_all-map Q bytes_in ts ∙ a.each_holds refl k;
    }

module _ (tree : Tree) (is : List Instance) (p : Program) (c : IsChecked tree is p) where
  abbrev I : IsInitial c.env tree c.initials
  I = initial_is c.env tree c.initials c.initials_are

  abbrev given : (Q : List ℕ → Bool) → Grows Q (flat_map global_texts tree.items) [] c.initials.texts
  given Q = initials_grow Q c.env tree c.initials I

  abbrev found : (Q : List ℕ → Bool) → Grows Q (flat_map (defined_texts tree.items) (functions tree.items is)) [] c.bodies.texts
  found Q = bodies_grow Q c.env tree (functions tree.items is) (length c.initials.texts) c.bodies c.bodies_are

  -- what holds of the string constants of the tree
  strings_hold : (Q : List ℕ → Bool) → list_all Q (flat_map item_texts tree.items) ≡ true → list_all Q p.strings ≡ true
  strings_hold Q h =
      let s = two_hold Q global_texts body_texts tree.items h in
      let g = (given Q).each refl s.0 in
      let f = (found Q).each refl (defined_hold Q tree.items (functions tree.items is) s.1) in
      ap (list_all Q) c.strings ∙ both_hold Q c.initials.texts c.bodies.texts g f

module _ (tokens : TokenList) (tree : Tree) (height : ℕ) (read : IsTree tokens tree height) (few : length tokens.list ≤ length tokens.text + 1) (short : length tokens.text ≤ 2 ^ 20)
    (is : List Instance) (p : Program) (within : length is ≤ 256) (c : IsChecked tree is p) where
  abbrev n : ℕ
  n = length tokens.text

  pub few_globals : length p.globals ≤ 2 ^ 28
  few_globals = omega (arith, ap length c.globals, (I tree is p c).globals, globals_count tree is c.scopes c.env c.env_is, texts_are_few.globals tokens tree height read, few, short)

  pub few_texts : length p.strings ≤ 2 ^ 28
  few_texts = omega (
    arith,
    ap length c.strings,
    length-append c.initials.texts c.bodies.texts,
    (given tree is p c (is_short n)).count,
    (found tree is p c (is_short n)).count,
    functions_count body_texts tree.items is within,
    two_count global_texts body_texts tree.items,
    texts_are_few.texts tokens tree height read,
    few,
    short,
  )

  pub small_texts : All (λ (s : List ℕ). length s + 1 < 2 ^ 32) p.strings
  small_texts = all_small n p.strings (omega (arith, short)) (strings_hold tree is p c (is_short n) (texts_are_few.short tokens tree height read))

program_is : (text : List ℕ) (tree : Tree) (is : List Instance) (p : Program) → IsRead text tree → length is ≤ 256 → check tree is ≡ Good p → IsShort p
program_is text tree is p r few h =
    let tokens : TokenList = record { list = r.tokens; text = text } in
    let t = tokens_few text r.tokens r.cut in
    let c = checked_is tree is p h in
    record {
      globals = few_globals tokens tree r.is.height r.is.is t r.short is p few c;
      texts = few_texts tokens tree r.is.height r.is.is t r.short is p few c;
      strings = small_texts tokens tree r.is.height r.is.is t r.short is p few c;
    }

pub programs_are_short : ProgramsAreShort
programs_are_short = record {
  program = program_is;
  accepted = λ text p a. program_is text a.tree (instances a.tree.items) p a.read a.typed.few a.typed.good;
}

-- ---- bytes

bytes_pass : (bs : List ℕ) → AreBytes bs → are_bytes bs ≡ true
bytes_pass [] h = refl
bytes_pass (b ∷ bs) h = ap₂ (λ a b. a && b) (lt-ltb b 256 h.0) (bytes_pass bs h.1)

passed_bytes : (bs : List ℕ) → are_bytes bs ≡ true → AreBytes bs
passed_bytes [] h = tt
passed_bytes (b ∷ bs) h = let p = and_parts (is_byte b) (are_bytes bs) h in (ltb-true b 256 p.0, passed_bytes bs p.1)

passed_texts : (xs : Texts) → list_all are_bytes xs ≡ true → AllByRecursion AreBytes xs
passed_texts [] h = tt
passed_texts (x ∷ xs) h = let p = and_parts (are_bytes x) (list_all are_bytes xs) h in (passed_bytes x p.0, passed_texts xs p.1)

pub strings_are_bytes : StringsOfBytes
strings_are_bytes text p a h =
    let r = a.read in
    let is = instances a.tree.items in
    let tokens : TokenList = record { list = r.tokens; text = text } in
    let c = checked_is a.tree is p a.typed.good in
    passed_texts p.strings (strings_hold a.tree is p c are_bytes (texts_are_bytes tokens a.tree r.is.height r.is.is (bytes_pass text h)))
