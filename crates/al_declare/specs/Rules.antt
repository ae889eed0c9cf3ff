-- Typing rules 2, 3, 12, 15 and 17, one predicate for each sentence. The other files say of which parts of a tree they are
-- asked.
use Rattle.std.specs.Prelude.{ℕ, ◌==◌, nat_le, Bool, true, false, not, ◌&&◌, ◌||◌, List, [], ◌∷◌, Option, Some, None}
use Rattle.std.specs.List.{list_any}
use Rattle.al_tree.specs.declared.expression.Name.{Name}
use Rattle.al_declare.specs.declared.asked.What.{What}
use Rattle.al_declare.specs.declared.asked.What.TheVariants as what
use Rattle.al_declare.specs.declared.asked.Declared.{Declared}
use Rattle.al_declare.specs.declared.text.Text.{Text}

-- ---- at file level

-- what may be declared again, by a number of its own; anything else has 0
abbrev pub what_number : What → ℕ
what_number what.Other = 0
what_number what.Aggr = 1
what_number what.Union = 2
what_number what.Adt = 3
what_number what.Global = 4
what_number what.Function = 5

abbrev pub may_be_again : What → What → Bool
may_be_again old new = what_number old == what_number new && not (what_number old == 0)

-- 2. A name is declared once per scope. An aggr, union or adt may also be declared, as the same kind, by items without
-- members. Globals and functions may be declared again, a global with one initialiser at most, a function with one body at
-- most. What is declared so is whole where its members, its initialiser or its body stand there.
abbrev pub rule_2_again : Option Declared → Declared → Bool
rule_2_again None new = true
rule_2_again (Some old) new = may_be_again old.what new.what && not (old.is_whole && new.is_whole)

-- ---- in a list of parameters, a block, a switch or an alt

abbrev pub is_among : List ℕ → ℕ → Bool
is_among scope name = list_any (λ n. n == name) scope

-- 2. A name is declared once per scope.
abbrev pub rule_2_new : List ℕ → ℕ → Bool
rule_2_new scope name = not (is_among scope name)

-- ---- names of the language

abbrev pub is_own : Option ℕ → ℕ → Bool
is_own None name = false
is_own (Some own) name = own == name

-- 3. print and terminate are not declared.
abbrev pub rule_3_free : Text → ℕ → Bool
rule_3_free text name = not (is_own text.print name || is_own text.terminate name)

-- ---- functions of adts

-- 12. `*T` and `.T` are the first parameter and T is the adt at hand. In a definition, a head without a body, and a function
-- type there is no such parameter, nor behind the first one.
abbrev pub rule_12_own : (adt : Option ℕ) → ℕ → Bool
rule_12_own None name = false
rule_12_own (Some adt) name = adt == name

abbrev pub same_numbers : List Name → List ℕ → Bool
same_numbers [] [] = true
same_numbers [] (q ∷ qs) = false
same_numbers (p ∷ ps) [] = false
same_numbers (p ∷ ps) (q ∷ qs) = p.name == q && same_numbers ps qs

abbrev pub no_names : List Name → Bool
no_names [] = true
no_names (p ∷ ps) = false

-- 15. A definition's parameter list is the adt's, in order. What is no adt with members has none.
abbrev pub rule_15_list : Option (List ℕ) → List Name → Bool
rule_15_list None written = no_names written
rule_15_list (Some parameters) written = same_numbers written parameters

-- ---- bounds

-- 17. An array bound is 1 to 2^28.
abbrev pub rule_17_bound : Option ℕ → Bool
rule_17_bound None = false
rule_17_bound (Some n) = nat_le 1 n && nat_le n 268435456

-- 17. A channel's capacity is 1 to 4,096.
abbrev pub rule_17_capacity : Option ℕ → Bool
rule_17_capacity None = false
rule_17_capacity (Some n) = nat_le 1 n && nat_le n 4096
