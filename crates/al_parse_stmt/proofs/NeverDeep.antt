-- What a declaration begins with does not go too deep where there are as many levels as tokens.
use Rattle.std.proofs.Common.{◌≡◌, ℕ, ◌+◌, ◌<◌, ◌≤◌, true, false, if◌then◌else◌, List, length, Option, Some, None, Err, subst, arith}
use Rattle.al_base.specs.declared.place.Place.{Place}
use Rattle.al_lex.specs.declared.token.Token.{Token}
use Rattle.al_tree.specs.Words.{start}
use Rattle.al_tree.specs.Types.{Leaves, with_names}
use Rattle.al_tree.specs.Items.{Declared}
use Rattle.al_tree.specs.Reading.{◌>>=◌, pure, refuse, kind, name_number}
use Rattle.al_tree.specs.declared.cursor.ParseError.TheVariants.{Deep}
use Rattle.al_parse_type.specs.Parse.{sees_type_name, stars_from}
use Rattle.al_parse_stmt.proofs.TypeLevels.{Fits, Levels, pure_levels, refuse_levels, bind_levels, choose_levels, look_levels, pass_levels, other_levels, stars_levels, base_within_levels}
use Rattle.al_parse_stmt.specs.Ahead.{inside_of}
use Rattle.al_parse_stmt.specs.Begun as parse
use Rattle.al_parse_stmt.specs.Begun.{lends, may_be, agrees, first_name, begins, begun_as}

module _ (leaves : Leaves) (F : ℕ) (d : Declared) (owner : Option ℕ) where
  lender_levels : {n : ℕ} (at : Place) (stars : ℕ) → Levels n (parse.lender d F owner at stars)
  unfolding parse.lender
  lender_levels at stars = pass_levels (λ a. look_levels kind (λ next. if agrees owner (lends d a.name next) then pure (first_name at stars a true) else refuse) (λ next. choose_levels (agrees owner (lends d a.name next)) (pure_levels (first_name at stars a true)) refuse_levels))

  adt_levels : {n : ℕ} (at : Place) (stars : ℕ) → Levels n (parse.adt_name d F owner at stars)
  unfolding parse.adt_name
  adt_levels at stars = look_levels (λ ts. may_be owner (name_number ts)) (λ fits. if fits then parse.lender d F owner at stars else refuse) (λ fits. choose_levels fits (lender_levels at stars) refuse_levels)

  new_levels : {n : ℕ} (o : Option ℕ) (at : Place) (stars : ℕ) → Levels n (parse.new_name d F owner o at stars)
  new_levels None at stars = other_levels leaves d.types F (λ t. pure_levels (first_name at stars t false))
  new_levels (Some x) at stars = refuse_levels

  begins_levels : {n : ℕ} → Levels n (begins d F owner)
  unfolding begins
  begins_levels = look_levels start (λ at. stars_from F 0 >>= (λ stars ts. (if sees_type_name d.types ts then parse.adt_name d F owner at stars else parse.new_name d F owner owner at stars) ts))
      (λ at. bind_levels (stars_levels leaves d.types F F 0) (λ stars. look_levels (sees_type_name d.types) (λ is. if is then parse.adt_name d F owner at stars else parse.new_name d F owner owner at stars) (λ is. choose_levels is (adt_levels at stars) (new_levels owner at stars))))

  as_levels : (n : ℕ) → Levels n (begun_as leaves F n d owner)
  unfolding begun_as
  as_levels n = bind_levels (base_within_levels leaves (with_names d.types (inside_of d owner)) F n) (λ b. bind_levels begins_levels (λ y. pure_levels (b, y)))

  never_fits : (ts : List Token) (n m : ℕ) → length ts ≤ n → Fits n (length ts) (begun_as leaves F n d owner ts) → begun_as leaves F n d owner ts ≡ Err (Deep m) → ⊥
  never_fits ts n m s f e = absurd (let h : m + n < length ts = subst (Fits n (length ts)) e f in omega (arith, h, s))

  -- it does not go too deep where there are as many levels as tokens
  pub never_deep : (ts : List Token) (n m : ℕ) → length ts ≤ n → begun_as leaves F n d owner ts ≡ Err (Deep m) → ⊥
  never_deep ts n m s e = never_fits ts n m s ((as_levels n).run ts) e
