-- Names that are declared at file level, where rule 2 holds.
use Rattle.std.proofs.Common.{◌≡◌, ℕ, Bool, true, false, nat_eq, [], ◌++◌, Some, None, refl, sym, ap, ◌∙◌}
use Rattle.std.proofs.lemmas.Bool.{eqb-true}
use Rattle.al_tree.specs.declared.expression.Name.{Name}
use Rattle.al_rules.specs.Outcome.{ask}
use Rattle.al_declare.specs.Rules.{rule_2_again, rule_3_free, what_number}
use Rattle.al_declare.specs.Asking.{file_name, found, free_name, together}
use Rattle.al_sound_calls.proofs.Unnamed.{Asked, Declared, MaybeDeclared, Text}
use Rattle.al_sound_calls.proofs.Lists.{and_both, asked_true, none_in}
use Rattle.al_sound_calls.proofs.Declares.{nil_first}
use Rattle.al_sound_calls.proofs.Joint.{IsKept, is_function_name, put_is, put_other}

-- a function stays one
still_function : (old : MaybeDeclared) (d : Declared) → is_function_name old ≡ true → is_function_name (Some (together old d)) ≡ true
still_function None d h = absurd (cc)
still_function (Some o) d h = h

-- what is declared as a function is one
now_function : (old : MaybeDeclared) (d : Declared) → nat_eq (what_number d.what) 5 ≡ true → rule_2_again old d ≡ true → is_function_name (Some (together old d)) ≡ true
now_function None d is h = is
now_function (Some o) d is h = ap (λ n. nat_eq n 5) (eqb-true (what_number o.what) (what_number d.what) (and_both _ _ (and_both _ _ h).0).0) ∙ is

-- what is declared as something else is none
pub no_function : (old : MaybeDeclared) (d : Declared) → nat_eq (what_number d.what) 5 ≡ false → rule_2_again old d ≡ true → is_function_name old ≡ false
no_function None d other h = refl
no_function (Some o) d other h = ap (λ n. nat_eq n 5) (eqb-true (what_number o.what) (what_number d.what) (and_both _ _ (and_both _ _ h).0).0) ∙ other

module _ (text : Text) (n : Name) (d : Declared) (a : Asked) where
  -- rule 2 was asked
  pub name_told : (file_name n d text a).faults ≡ [] → rule_2_again (found a.names n.name) d ≡ true
  unfolding file_name free_name
  name_told h =
      asked_true 2 n.at (rule_2_again (found a.names n.name) d)
      (none_in (a.faults ++ ask 3 n.at (rule_3_free text n.name)) (ask 2 n.at (rule_2_again (found a.names n.name) d)) h).1

  pub name_kept : IsKept a (file_name n d text a)
  unfolding file_name free_name
  name_kept = record {
    names = λ q h. names q h (nat_eq q n.name) refl;
    faults = λ h. nil_first a.faults (ask 3 n.at (rule_3_free text n.name)) (nil_first (a.faults ++ ask 3 n.at (rule_3_free text n.name)) (ask 2 n.at (rule_2_again (found a.names n.name) d)) h);
  }
    where
      both : Declared
      both = together (found a.names n.name) d

      names : (q : ℕ) → is_function_name (found a.names q) ≡ true → (c : Bool) → nat_eq q n.name ≡ c → is_function_name (found (file_name n d text a).names q) ≡ true
      names q h true is =
          let e = eqb-true q n.name is in
          ap (λ k. is_function_name (found (file_name n d text a).names k)) e ∙ ap is_function_name (put_is a.names n.name both)
          ∙ still_function (found a.names n.name) d (sym (ap (λ k. is_function_name (found a.names k)) e) ∙ h)
      names q h false is = ap is_function_name (put_other a.names n.name both q is) ∙ h

  pub name_is : nat_eq (what_number d.what) 5 ≡ true → (file_name n d text a).faults ≡ [] → is_function_name (found (file_name n d text a).names n.name) ≡ true
  unfolding file_name free_name
  name_is is h = ap is_function_name (put_is a.names n.name (together (found a.names n.name) d)) ∙ now_function (found a.names n.name) d is (name_told h)
