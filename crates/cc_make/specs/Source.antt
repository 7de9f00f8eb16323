-- The text of a made source, line by line.
use Rattle.std.specs.Prelude.{ℕ, ◌+◌, ◌++◌, Bool, List, [], ◌∷◌, codes, if◌then◌else◌}
use Rattle.std.specs.Fmt.{decimal}
use Rattle.cc_make.specs.declared.counters.Counter.{Counter}
use Rattle.cc_make.specs.Draws.{counters}

-- the object of a counter
abbrev pub variable : ℕ → List ℕ
variable number = codes "unsigned char v" ++ (decimal number ++ codes ";\n")

-- its function, which counts it up to a limit: the lines in front, and the choice
abbrev pub function_head : ℕ → List ℕ
function_head number = codes "void f" ++ (decimal number ++ (codes "(void) {\n  unsigned char x;\n  x = v" ++ (decimal number ++ codes ";\n")))

abbrev pub function_choice : ℕ → ℕ → List ℕ
function_choice number limit = codes "  if (x < " ++ (decimal limit ++ (codes ") v" ++ (decimal number ++ (codes " = x + 1; else v" ++ (decimal number ++ codes " = 0;\n}\n")))))

abbrev pub function : ℕ → ℕ → List ℕ
function number limit = function_head number ++ function_choice number limit

-- the line of the handler, where it clears the counter
abbrev pub clearing : ℕ → Bool → List ℕ
clearing number cleared = if cleared then codes "  v" ++ (decimal number ++ codes " = 0;\n") else []

-- the call of its function
abbrev pub call : ℕ → List ℕ
call number = codes "    f" ++ (decimal number ++ codes "();\n")

-- what stands for each counter, the first of which has this number
abbrev pub each_from : (ℕ → Counter → List ℕ) → ℕ → List Counter → List ℕ
each_from part number [] = []
each_from part number (counter ∷ rest) = part number counter ++ each_from part (number + 1) rest

abbrev pub variables : List Counter → List ℕ
variables counters = each_from (λ number counter. variable number) 0 counters

abbrev pub functions : List Counter → List ℕ
functions counters = each_from (λ number counter. function number counter.limit) 0 counters

abbrev pub clearings : List Counter → List ℕ
clearings counters = each_from (λ number counter. clearing number counter.cleared) 0 counters

abbrev pub calls : List Counter → List ℕ
calls counters = each_from (λ number counter. call number) 0 counters

-- what stands in front of the objects, of the handler's lines and of the calls, and at the end
abbrev pub device : List ℕ
device = codes "extern volatile unsigned char out;\n"

abbrev pub handler_head : List ℕ
handler_head = codes "__attribute__((signal)) void tick(void) {\n"

abbrev pub main_head : List ℕ
main_head = codes "}\nint main(void) {\n  irq_on();\n  while (1) {\n"

abbrev pub main_end : List ℕ
main_end = codes "    out = v0;\n  }\n}\n"

-- all objects, all functions, the handler, and main with all calls
abbrev pub source : List Counter → List ℕ
source counters = device ++ (variables counters ++ (functions counters ++ (handler_head ++ (clearings counters ++ (main_head ++ (calls counters ++ main_end))))))

-- the source of so many counters, drawn from a seed
abbrev pub made : ℕ → ℕ → List ℕ
made seed count = source (counters seed count)
