-- Rules that are asked, and names that are declared.
use Rattle.std.specs.Prelude.{ℕ, nat_eq, bytes_eq, Bool, ◌||◌, List, [], ◌∷◌, ◌++◌, map, fold, position, Option, Some, None, codes}
use Rattle.std.specs.Map.{lookup}
use Rattle.indexmap.specs.IndexMap.{insert_entry}
use Rattle.al_tree.specs.declared.expression.Name.{Name}
use Rattle.al_tree.specs.declared.item.AggregateKind.{AggregateKind}
use Rattle.al_tree.specs.declared.item.AggregateKind.TheVariants as kind
use Rattle.al_tree.specs.declared.item.Item.{Item}
use Rattle.al_tree.specs.declared.item.Item.TheVariants as item
use Rattle.al_tree.specs.declared.item.Tree.{Tree}
use Rattle.al_tree.specs.Constants.{values}
use Rattle.al_rules.specs.declared.fault.TypeFault.{TypeFault}
use Rattle.al_rules.specs.Outcome.{ask}
use Rattle.al_declare.specs.declared.asked.What.{What}
use Rattle.al_declare.specs.declared.asked.What.TheVariants as what
use Rattle.al_declare.specs.declared.asked.Declared.{Declared}
use Rattle.al_declare.specs.declared.asked.Asked.{Asked}
use Rattle.al_declare.specs.declared.text.Text.{Text}
use Rattle.al_declare.specs.Rules.{rule_2_again, rule_2_new, rule_3_free}

-- rules are asked
abbrev pub asked : List TypeFault → Asked → Asked
asked faults w = record w { faults = w.faults ++ faults }

-- 3. of a name that is declared
unfoldable pub free_name : Name → Text → Asked → Asked
free_name n text w = asked (ask 3 n.at (rule_3_free text n.name)) w

-- a parameter, a local, or a parameter of an adt
unfoldable pub local : Name → Text → Asked → Asked
local n text w =
    let u = asked (ask 2 n.at (rule_2_new w.scope n.name)) (free_name n text w) in
    record u { scope = u.scope ++ n.name ∷ [] }

abbrev pub what_of : AggregateKind → What
what_of kind.Aggr = what.Aggr
what_of kind.Union = what.Union
what_of kind.Adt = what.Adt

abbrev pub declared : What → Bool → Declared
declared what is_whole = record { what = what; is_whole = is_whole }

-- what is known of a name that is declared again
abbrev pub together : Option Declared → Declared → Declared
together None new = new
together (Some old) new = record { what = old.what; is_whole = old.is_whole || new.is_whole }

abbrev pub found : List (ℕ × Declared) → ℕ → Option Declared
found names name = lookup (nat_eq name) names

-- a name at file level
unfoldable pub file_name : Name → Declared → Text → Asked → Asked
file_name n d text w =
    let u = asked (ask 2 n.at (rule_2_again (found w.names n.name) d)) (free_name n text w) in
    record u { names = insert_entry nat_eq u.names n.name (together (found w.names n.name) d) }

-- a scope of its own
unfoldable pub inner : (Asked → Asked) → Asked → Asked
inner a w = record (a (record w { scope = [] })) { scope = w.scope }

-- ---- a text

abbrev pub Adts : Type 0
Adts = List (ℕ × List ℕ)

abbrev pub number_of : Name → ℕ
number_of n = n.name

-- the adts of a text with their parameters
unfoldable pub with_adt : Adts → Item → Adts
with_adt adts (item.Adt at name parameters members) = insert_entry nat_eq adts name.name (map number_of parameters)
with_adt adts _ = adts

abbrev pub is_text : List ℕ → List ℕ → Bool
is_text text name = bytes_eq name text

unfoldable pub numbered : List ℕ → List (List ℕ) → Option ℕ
numbered text names = position (λ name. is_text text name) names

unfoldable pub text_of : Tree → Text
text_of tree = record {
  constants = record { list = values tree.items };
  adts = fold with_adt [] tree.items;
  print = numbered (codes "print") tree.names;
  terminate = numbered (codes "terminate") tree.names;
}

-- nothing is declared yet
abbrev pub begun : Asked
begun = record { names = []; scope = []; faults = [] }
