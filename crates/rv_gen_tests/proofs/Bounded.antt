-- The programs keep the bounds that code for them rests on.
use Rattle.std.proofs.Common.{[], All, inl, refl, arith}
use Rattle.std.proofs.lemmas.List.Elements.{All-from_recursion}
use Rattle.al_ir.specs.Bounds.{IsBounded, IsFunction, OperationsFit, IsLine}
use Rattle.al_ir.specs.declared.ir.Operation.{Operation}
use Rattle.rv_gen_tests.specs.Programs.{function, sum, sums, asks, answers, differs, leaves, divides}

sum_fits : OperationsFit sums (function 1 0 8 sum) 0 sum
sum_fits = (
  (omega arith, omega arith),
  (
    (omega arith, omega arith),
    (
      (omega arith, omega arith),
      (
        (tt, (omega arith, (omega arith, omega arith))),
        (
          (omega arith, (omega arith, omega arith)),
          (
            (omega arith, (omega arith, (inl (omega arith), λ e. grind arith))),
            (
              tt,
              (
                omega arith,
                (
                  omega arith,
                  (
                    tt,
                    (
                      (omega arith, omega arith),
                      tt,
                    ),
                  ),
                ),
              ),
            ),
          ),
        ),
      ),
    ),
  ),
)

sum_lines : All (λ (o : Operation). IsLine o.line) sum
sum_lines = All-from_recursion (λ (o : Operation). IsLine o.line) sum (
  (omega arith, omega arith),
  (
    (omega arith, omega arith),
    (
      (omega arith, omega arith),
      (
        (omega arith, omega arith),
        (
          (omega arith, omega arith),
          (
            (omega arith, omega arith),
            (
              (omega arith, omega arith),
              (
                (omega arith, omega arith),
                (
                  (omega arith, omega arith),
                  (
                    (omega arith, omega arith),
                    (
                      (omega arith, omega arith),
                      tt,
                    ),
                  ),
                ),
              ),
            ),
          ),
        ),
      ),
    ),
  ),
)

sum_is_function : IsFunction sums (function 1 0 8 sum)
sum_is_function = record {
  line = (omega arith, omega arith);
  lines = sum_lines;
  stack = omega arith;
  slots = omega arith;
  arguments = omega arith;
  operations = sum_fits;
  before_last = 10;
  ends = refl;
  last = _;
  is_last = refl;
  goes_nowhere = refl;
  jumps = omega arith;
}

pub sums_bounded : IsBounded sums
sums_bounded = record {
  functions = All-from_recursion (IsFunction sums) sums.functions (
    sum_is_function,
    tt,
  );
  count = omega arith;
  classes = All-from_recursion _ [] tt;
  layouts = All-from_recursion _ [] tt;
  globals = All-from_recursion _ [] tt;
  starts = omega arith;
  privates = omega arith;
  main = omega arith;
  main_words = inl refl;
}

asks_fits : OperationsFit differs (function 1 0 8 asks) 0 asks
asks_fits = (
  (omega arith, omega arith),
  (
    (omega arith, omega arith),
    (
      (omega arith, omega arith),
      (
        (omega arith, omega arith),
        (
          omega arith,
          (
            tt,
            (
              (omega arith, omega arith),
              tt,
            ),
          ),
        ),
      ),
    ),
  ),
)

asks_lines : All (λ (o : Operation). IsLine o.line) asks
asks_lines = All-from_recursion (λ (o : Operation). IsLine o.line) asks (
  (omega arith, omega arith),
  (
    (omega arith, omega arith),
    (
      (omega arith, omega arith),
      (
        (omega arith, omega arith),
        (
          (omega arith, omega arith),
          (
            (omega arith, omega arith),
            (
              (omega arith, omega arith),
              tt,
            ),
          ),
        ),
      ),
    ),
  ),
)

asks_is_function : IsFunction differs (function 1 0 8 asks)
asks_is_function = record {
  line = (omega arith, omega arith);
  lines = asks_lines;
  stack = omega arith;
  slots = omega arith;
  arguments = omega arith;
  operations = asks_fits;
  before_last = 6;
  ends = refl;
  last = _;
  is_last = refl;
  goes_nowhere = refl;
  jumps = omega arith;
}

answers_fits : OperationsFit differs (function 7 2 2 answers) 0 answers
answers_fits = (
  (omega arith, (omega arith, omega arith)),
  (
    (omega arith, omega arith),
    tt,
  ),
)

answers_lines : All (λ (o : Operation). IsLine o.line) answers
answers_lines = All-from_recursion (λ (o : Operation). IsLine o.line) answers (
  (omega arith, omega arith),
  (
    (omega arith, omega arith),
    tt,
  ),
)

answers_is_function : IsFunction differs (function 7 2 2 answers)
answers_is_function = record {
  line = (omega arith, omega arith);
  lines = answers_lines;
  stack = omega arith;
  slots = omega arith;
  arguments = omega arith;
  operations = answers_fits;
  before_last = 1;
  ends = refl;
  last = _;
  is_last = refl;
  goes_nowhere = refl;
  jumps = omega arith;
}

pub differs_bounded : IsBounded differs
differs_bounded = record {
  functions = All-from_recursion (IsFunction differs) differs.functions (
    asks_is_function,
    (
      answers_is_function,
      tt,
    ),
  );
  count = omega arith;
  classes = All-from_recursion _ [] tt;
  layouts = All-from_recursion _ [] tt;
  globals = All-from_recursion _ [] tt;
  starts = omega arith;
  privates = omega arith;
  main = omega arith;
  main_words = inl refl;
}

leaves_fits : OperationsFit divides (function 1 0 12 leaves) 0 leaves
leaves_fits = (
  (omega arith, omega arith),
  (
    (omega arith, omega arith),
    (
      (omega arith, omega arith),
      (
        (omega arith, omega arith),
        (
          (omega arith, (omega arith, omega arith)),
          (
            omega arith,
            (
              tt,
              (
                (omega arith, omega arith),
                (
                  (omega arith, (omega arith, omega arith)),
                  (
                    (omega arith, omega arith),
                    tt,
                  ),
                ),
              ),
            ),
          ),
        ),
      ),
    ),
  ),
)

leaves_lines : All (λ (o : Operation). IsLine o.line) leaves
leaves_lines = All-from_recursion (λ (o : Operation). IsLine o.line) leaves (
  (omega arith, omega arith),
  (
    (omega arith, omega arith),
    (
      (omega arith, omega arith),
      (
        (omega arith, omega arith),
        (
          (omega arith, omega arith),
          (
            (omega arith, omega arith),
            (
              (omega arith, omega arith),
              (
                (omega arith, omega arith),
                (
                  (omega arith, omega arith),
                  (
                    (omega arith, omega arith),
                    tt,
                  ),
                ),
              ),
            ),
          ),
        ),
      ),
    ),
  ),
)

leaves_is_function : IsFunction divides (function 1 0 12 leaves)
leaves_is_function = record {
  line = (omega arith, omega arith);
  lines = leaves_lines;
  stack = omega arith;
  slots = omega arith;
  arguments = omega arith;
  operations = leaves_fits;
  before_last = 9;
  ends = refl;
  last = _;
  is_last = refl;
  goes_nowhere = refl;
  jumps = omega arith;
}

pub divides_bounded : IsBounded divides
divides_bounded = record {
  functions = All-from_recursion (IsFunction divides) divides.functions (
    leaves_is_function,
    tt,
  );
  count = omega arith;
  classes = All-from_recursion _ [] tt;
  layouts = All-from_recursion _ [] tt;
  globals = All-from_recursion _ [] tt;
  starts = omega arith;
  privates = omega arith;
  main = omega arith;
  main_words = inl refl;
}
