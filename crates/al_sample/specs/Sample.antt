-- The sample text: one text of the language for each number, of a size that the number sets.
use Rattle.std.specs.Prelude.{ℕ, zero, suc, ◌+◌, ◌*◌, ◌/◌, ◌%◌, List, [], ◌∷◌, ◌++◌, codes, decimal}

-- what a line gives for 0, 1, .. up to n - 1, one after the other
abbrev pub joined : (ℕ → List ℕ) → ℕ → List ℕ
joined line zero = []
joined line (suc k) = joined line k ++ line k

-- how many functions f the text for n has
abbrev pub functions_of : ℕ → ℕ
functions_of n = 20 + 4 * (n % 250)

-- function f number j
abbrev pub function_line : ℕ → List ℕ
function_line j =
    codes "int f" ++ decimal j ++ codes "(int x){int i;i=0;while(i<3){x=x*5+" ++ decimal j
    ++ codes ";i=i+1;}return x;}" ++ (10 ∷ [])

-- one call of function f number j in worker p
abbrev pub call : ℕ → ℕ → List ℕ
call p j = codes "s=s+f" ++ decimal j ++ codes "(" ++ decimal p ++ codes ");"

-- worker p of four calls every fourth function, from number p on: `calls` of them
abbrev pub worker_line : ℕ → ℕ → List ℕ
worker_line calls p =
    codes "void w" ++ decimal p ++ codes "(chan(int) c){int s;s=0;" ++ joined (λ k. call p (4 * k + p)) calls
    ++ codes "c<-=s;}" ++ (10 ∷ [])

-- main starts the workers and prints the sum of what they send
abbrev pub main_line : List ℕ
main_line =
    codes "void main(){chan(int) c;int s,i;alloc c;proc w0(c);proc w1(c);proc w2(c);proc w3(c);s=0;i=0;"
    ++ codes "while(i<4){s=s+<-c;i=i+1;}print(\"%u\\n\",s);}" ++ (10 ∷ [])

-- the text for n
abbrev pub sample_text : ℕ → List ℕ
sample_text n =
    joined function_line (functions_of n) ++ joined (worker_line (functions_of n / 4)) 4 ++ main_line
