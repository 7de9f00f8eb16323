-- What becomes of each kind of statement, as the code makes it.
use Rattle.std.proofs.Common.{arith, ◌≡◌, ◌<◌, ◌+◌, ◌||◌, ℕ, zero, suc, Bool, true, false, List, [], ◌∷◌, ◌++◌, map, length, take, get_or, Option, refl, ap, sym, ◌∙◌, append_assoc}
use Rattle.std.specs.Prelude.{pos}
use Rattle.std.proofs.lemmas.List.{append-nil, map-append, take_more, take_all}
use Rattle.std.proofs.lemmas.List.Folds.{list_any-append}
use Rattle.cc_program.specs.CcNum.declared.int_type.IntType.TheVariants as int
use Rattle.cc_program.specs.declared.expr.Expr.{Expr, roll-Expr, Const, Load, Assign}
use Rattle.cc_program.specs.declared.expr.Expr.TheVariants.{rolls-Const, rolls-Load, rolls-Assign}
use Rattle.cc_program.specs.declared.expr.Expr.TheOpen as one
use Rattle.cc_program.specs.declared.expr.Place.{Place, roll-Place, Local}
use Rattle.cc_program.specs.declared.expr.Place.TheVariants.{rolls-Local}
use Rattle.cc_program.specs.declared.stmt.Case.{Case, out-Case, roll-Case}
use Rattle.cc_program.specs.declared.stmt.Stmt.{Stmt, roll-Stmt, Do, If, While, DoWhile, For, Switch, Break, Continue, Return, Empty, Block}
use Rattle.cc_program.specs.declared.stmt.Stmt.TheVariants.{rolls-Do, rolls-If, rolls-While, rolls-DoWhile, rolls-For, rolls-Switch, rolls-Break, rolls-Continue, rolls-Return, rolls-Empty, rolls-Block, outs-Do, outs-If, outs-While, outs-DoWhile, outs-For, outs-Switch, outs-Break, outs-Continue, outs-Return, outs-Empty, outs-Block}
use Rattle.cc_program.specs.declared.stmt.Stmt.TheOpen as is
use Rattle.cc_program.specs.declared.types.CType.{CType}
use Rattle.cc_lower_statements.specs.Statements.{break_statement}
use Rattle.cc_lower_statements.proofs.CodeEquations.{endless_loop-is}
use Rattle.cc_lower_continues.specs.Continues.{Flagging, CaseFlagging, assign_flag, read_flag, leave_unless, test_but_first, flagged_do, any_continues, any_case_continues, flags_in, flags_in_cases, all_become, cases_become, needs_flag, do_flagging, flagging, case_flagging, flags_of, flagged_list, unsigned_char, flag_locals}
use Rattle.cc_lower_continues.proofs.Layers.{flagging_layer, flagging-out, case_flagging-out}

-- ---- flags

pub assign_flag-is : (t n : ℕ) → assign_flag t n ≡ Do (Assign (Local t) (Const (pos n) int.UChar))
assign_flag-is t n =
    let place : Place = roll-Place (one.Local t) in
    let value : Expr = roll-Expr (one.Const (pos n) int.UChar) in
    rolls-Do (roll-Expr (one.Assign place value)) ∙ ap Do (rolls-Assign place value ∙ ap (λ (p : Place). Assign p value) (rolls-Local t) ∙ ap (λ (e : Expr). Assign (Local t) e) (rolls-Const (pos n) int.UChar))

pub read_flag-is : (t : ℕ) → read_flag t ≡ Load (Local t)
read_flag-is t = rolls-Load _ ∙ ap Load (rolls-Local t)

pub leave_unless-is : (e : Expr) → leave_unless e ≡ If e [] (Break ∷ [])
leave_unless-is e = rolls-If e [] (break_statement ∷ []) ∙ ap (λ (s : Stmt). If e [] (s ∷ [])) rolls-Break

pub test_but_first-is : (t : ℕ) (e : Expr) → test_but_first t e ≡ If (read_flag t) (assign_flag t 0 ∷ []) (leave_unless e ∷ [])
test_but_first-is t e = rolls-If (read_flag t) (assign_flag t 0 ∷ []) (leave_unless e ∷ [])

pub flagged_do-is : (t : ℕ) (e : Expr) (a : List Stmt) → flagged_do t e a ≡ Block (assign_flag t 1 ∷ While (Const (pos 1) int.Int) (test_but_first t e ∷ a) ∷ [])
flagged_do-is t e a = rolls-Block _ ∙ ap (λ (s : Stmt). Block (assign_flag t 1 ∷ s ∷ [])) (endless_loop-is (test_but_first t e ∷ a))

pub do_while-is : (a : List Stmt) (e : Expr) → roll-Stmt (is.DoWhile a e) ≡ DoWhile a e
do_while-is a e = rolls-DoWhile a e

pub ruleset made_statements = (assign_flag-is, read_flag-is, leave_unless-is, test_but_first-is, flagged_do-is, do_while-is)

-- ---- each kind of statement

pub continues-Do : (e : Expr) → (flagging (Do e)).continues ≡ false
continues-Do e = ap (λ (s : Flagging). s.continues) (flagging-out (Do e) ∙ ap flagging_layer (outs-Do e))

pub flags-Do : (e : Expr) → (flagging (Do e)).flags ≡ 0
flags-Do e = ap (λ (s : Flagging). s.flags) (flagging-out (Do e) ∙ ap flagging_layer (outs-Do e))

pub becomes-Do : (e : Expr) (n : ℕ) → (flagging (Do e)).becomes n ≡ Do e
becomes-Do e n = ap (λ (s : Flagging). s.becomes n) (flagging-out (Do e) ∙ ap flagging_layer (outs-Do e)) ∙ rolls-Do e

pub continues-If : (e : Expr) (a b : List Stmt) → (flagging (If e a b)).continues ≡ (any_continues (map flagging a) || any_continues (map flagging b))
continues-If e a b = ap (λ (s : Flagging). s.continues) (flagging-out (If e a b) ∙ ap flagging_layer (outs-If e a b))

pub flags-If : (e : Expr) (a b : List Stmt) → (flagging (If e a b)).flags ≡ flags_of a + flags_of b
flags-If e a b = ap (λ (s : Flagging). s.flags) (flagging-out (If e a b) ∙ ap flagging_layer (outs-If e a b))

pub becomes-If : (e : Expr) (a b : List Stmt) (n : ℕ) → (flagging (If e a b)).becomes n ≡ If e (flagged_list a n) (flagged_list b (n + flags_of a))
becomes-If e a b n = ap (λ (s : Flagging). s.becomes n) (flagging-out (If e a b) ∙ ap flagging_layer (outs-If e a b)) ∙ rolls-If e (flagged_list a n) (flagged_list b (n + flags_of a))

pub continues-While : (e : Expr) (a : List Stmt) → (flagging (While e a)).continues ≡ false
continues-While e a = ap (λ (s : Flagging). s.continues) (flagging-out (While e a) ∙ ap flagging_layer (outs-While e a))

pub flags-While : (e : Expr) (a : List Stmt) → (flagging (While e a)).flags ≡ flags_of a
flags-While e a = ap (λ (s : Flagging). s.flags) (flagging-out (While e a) ∙ ap flagging_layer (outs-While e a))

pub becomes-While : (e : Expr) (a : List Stmt) (n : ℕ) → (flagging (While e a)).becomes n ≡ While e (flagged_list a n)
becomes-While e a n = ap (λ (s : Flagging). s.becomes n) (flagging-out (While e a) ∙ ap flagging_layer (outs-While e a)) ∙ rolls-While e (flagged_list a n)

do_continues : (b : Bool) (a : List Flagging) (e : Expr) → (do_flagging b a e).continues ≡ false
do_continues true a e = refl
do_continues false a e = refl

pub continues-DoWhile : (a : List Stmt) (e : Expr) → (flagging (DoWhile a e)).continues ≡ false
continues-DoWhile a e = ap (λ (s : Flagging). s.continues) (flagging-out (DoWhile a e) ∙ ap flagging_layer (outs-DoWhile a e)) ∙ do_continues (needs_flag (any_continues (map flagging a)) e) (map flagging a) e

pub flags-DoWhile : (a : List Stmt) (e : Expr) → (flagging (DoWhile a e)).flags ≡ (do_flagging (needs_flag (any_continues (map flagging a)) e) (map flagging a) e).flags
flags-DoWhile a e = ap (λ (s : Flagging). s.flags) (flagging-out (DoWhile a e) ∙ ap flagging_layer (outs-DoWhile a e))

pub becomes-DoWhile : (a : List Stmt) (e : Expr) (n : ℕ) → (flagging (DoWhile a e)).becomes n ≡ (do_flagging (needs_flag (any_continues (map flagging a)) e) (map flagging a) e).becomes n
becomes-DoWhile a e n = ap (λ (s : Flagging). s.becomes n) (flagging-out (DoWhile a e) ∙ ap flagging_layer (outs-DoWhile a e))

pub continues-For : (first test again : Option Expr) (a : List Stmt) → (flagging (For first test again a)).continues ≡ false
continues-For first test again a = ap (λ (s : Flagging). s.continues) (flagging-out (For first test again a) ∙ ap flagging_layer (outs-For first test again a))

pub flags-For : (first test again : Option Expr) (a : List Stmt) → (flagging (For first test again a)).flags ≡ flags_of a
flags-For first test again a = ap (λ (s : Flagging). s.flags) (flagging-out (For first test again a) ∙ ap flagging_layer (outs-For first test again a))

pub becomes-For : (first test again : Option Expr) (a : List Stmt) (n : ℕ) → (flagging (For first test again a)).becomes n ≡ For first test again (flagged_list a n)
becomes-For first test again a n = ap (λ (s : Flagging). s.becomes n) (flagging-out (For first test again a) ∙ ap flagging_layer (outs-For first test again a)) ∙ rolls-For first test again (flagged_list a n)

pub continues-Switch : (e : Expr) (cases : List Case) → (flagging (Switch e cases)).continues ≡ any_case_continues (map case_flagging cases)
continues-Switch e cases = ap (λ (s : Flagging). s.continues) (flagging-out (Switch e cases) ∙ ap flagging_layer (outs-Switch e cases))

pub flags-Switch : (e : Expr) (cases : List Case) → (flagging (Switch e cases)).flags ≡ flags_in_cases (map case_flagging cases)
flags-Switch e cases = ap (λ (s : Flagging). s.flags) (flagging-out (Switch e cases) ∙ ap flagging_layer (outs-Switch e cases))

pub becomes-Switch : (e : Expr) (cases : List Case) (n : ℕ) → (flagging (Switch e cases)).becomes n ≡ Switch e (cases_become (map case_flagging cases) n)
becomes-Switch e cases n = ap (λ (s : Flagging). s.becomes n) (flagging-out (Switch e cases) ∙ ap flagging_layer (outs-Switch e cases)) ∙ rolls-Switch e (cases_become (map case_flagging cases) n)

pub continues-Break : (flagging Break).continues ≡ false
continues-Break = ap (λ (s : Flagging). s.continues) (flagging-out Break ∙ ap flagging_layer outs-Break)

pub flags-Break : (flagging Break).flags ≡ 0
flags-Break = ap (λ (s : Flagging). s.flags) (flagging-out Break ∙ ap flagging_layer outs-Break)

pub becomes-Break : (n : ℕ) → (flagging Break).becomes n ≡ Break
becomes-Break n = ap (λ (s : Flagging). s.becomes n) (flagging-out Break ∙ ap flagging_layer outs-Break) ∙ rolls-Break

pub continues-Continue : (flagging Continue).continues ≡ true
continues-Continue = ap (λ (s : Flagging). s.continues) (flagging-out Continue ∙ ap flagging_layer outs-Continue)

pub flags-Continue : (flagging Continue).flags ≡ 0
flags-Continue = ap (λ (s : Flagging). s.flags) (flagging-out Continue ∙ ap flagging_layer outs-Continue)

pub becomes-Continue : (n : ℕ) → (flagging Continue).becomes n ≡ Continue
becomes-Continue n = ap (λ (s : Flagging). s.becomes n) (flagging-out Continue ∙ ap flagging_layer outs-Continue) ∙ rolls-Continue

pub continues-Return : (e : Option Expr) → (flagging (Return e)).continues ≡ false
continues-Return e = ap (λ (s : Flagging). s.continues) (flagging-out (Return e) ∙ ap flagging_layer (outs-Return e))

pub flags-Return : (e : Option Expr) → (flagging (Return e)).flags ≡ 0
flags-Return e = ap (λ (s : Flagging). s.flags) (flagging-out (Return e) ∙ ap flagging_layer (outs-Return e))

pub becomes-Return : (e : Option Expr) (n : ℕ) → (flagging (Return e)).becomes n ≡ Return e
becomes-Return e n = ap (λ (s : Flagging). s.becomes n) (flagging-out (Return e) ∙ ap flagging_layer (outs-Return e)) ∙ rolls-Return e

pub continues-Empty : (flagging Empty).continues ≡ false
continues-Empty = ap (λ (s : Flagging). s.continues) (flagging-out Empty ∙ ap flagging_layer outs-Empty)

pub flags-Empty : (flagging Empty).flags ≡ 0
flags-Empty = ap (λ (s : Flagging). s.flags) (flagging-out Empty ∙ ap flagging_layer outs-Empty)

pub becomes-Empty : (n : ℕ) → (flagging Empty).becomes n ≡ Empty
becomes-Empty n = ap (λ (s : Flagging). s.becomes n) (flagging-out Empty ∙ ap flagging_layer outs-Empty) ∙ rolls-Empty

pub continues-Block : (a : List Stmt) → (flagging (Block a)).continues ≡ any_continues (map flagging a)
continues-Block a = ap (λ (s : Flagging). s.continues) (flagging-out (Block a) ∙ ap flagging_layer (outs-Block a))

pub flags-Block : (a : List Stmt) → (flagging (Block a)).flags ≡ flags_of a
flags-Block a = ap (λ (s : Flagging). s.flags) (flagging-out (Block a) ∙ ap flagging_layer (outs-Block a))

pub becomes-Block : (a : List Stmt) (n : ℕ) → (flagging (Block a)).becomes n ≡ Block (flagged_list a n)
becomes-Block a n = ap (λ (s : Flagging). s.becomes n) (flagging-out (Block a) ∙ ap flagging_layer (outs-Block a)) ∙ rolls-Block (flagged_list a n)

pub ruleset continues_rules = (continues-Do, continues-If, continues-While, continues-DoWhile, continues-For, continues-Switch, continues-Break, continues-Continue, continues-Return, continues-Empty, continues-Block)

pub ruleset flagged_statements = (flags-Do, becomes-Do, flags-If, becomes-If, flags-While, becomes-While, flags-DoWhile, becomes-DoWhile, flags-For, becomes-For, flags-Switch, becomes-Switch, flags-Break, becomes-Break, flags-Continue, becomes-Continue, flags-Return, becomes-Return, flags-Empty, becomes-Empty, flags-Block, becomes-Block)

-- ---- cases

pub case_continues-is : (c : Case) → (case_flagging c).continues ≡ any_continues (map flagging (out-Case c).body)
case_continues-is c = ap (λ (s : CaseFlagging). s.continues) (case_flagging-out c)

pub case_flags-is : (c : Case) → (case_flagging c).flags ≡ flags_of (out-Case c).body
case_flags-is c = ap (λ (s : CaseFlagging). s.flags) (case_flagging-out c)

pub case_becomes-is : (c : Case) (n : ℕ) → (case_flagging c).becomes n ≡ roll-Case (record { labels = (out-Case c).labels; body = flagged_list (out-Case c).body n })
case_becomes-is c n = ap (λ (s : CaseFlagging). s.becomes n) (case_flagging-out c)

pub ruleset case_rules = (case_continues-is)

pub ruleset flagged_cases = (case_flags-is, case_becomes-is)

-- ---- lists, as far as a loop has come

associate : (a b c : ℕ) → a + (b + c) ≡ (a + b) + c
associate a b c = omega arith

zero_before : (a : ℕ) → a ≡ 0 + a
zero_before a = omega arith

zero_behind : (a : ℕ) → a + 0 ≡ a
zero_behind a = omega arith

flags-append : (xs ys : List Flagging) → flags_in (xs ++ ys) ≡ flags_in xs + flags_in ys
flags-append [] ys = zero_before (flags_in ys)
flags-append (x ∷ xs) ys = ap (λ n. x.flags + n) (flags-append xs ys) ∙ associate x.flags (flags_in xs) (flags_in ys)

case_flags-append : (xs ys : List CaseFlagging) → flags_in_cases (xs ++ ys) ≡ flags_in_cases xs + flags_in_cases ys
case_flags-append [] ys = zero_before (flags_in_cases ys)
case_flags-append (x ∷ xs) ys = ap (λ n. x.flags + n) (case_flags-append xs ys) ∙ associate x.flags (flags_in_cases xs) (flags_in_cases ys)

become-append : (xs ys : List Flagging) (n : ℕ) → all_become (xs ++ ys) n ≡ all_become xs n ++ all_become ys (n + flags_in xs)
become-append [] ys n = ap (all_become ys) (sym (zero_behind n))
become-append (x ∷ xs) ys n = ap (λ l. x.becomes n ∷ l) (become-append xs ys (n + x.flags) ∙ ap (λ m. all_become xs (n + x.flags) ++ all_become ys m) (sym (associate n x.flags (flags_in xs))))

cases_become-append : (xs ys : List CaseFlagging) (n : ℕ) → cases_become (xs ++ ys) n ≡ cases_become xs n ++ cases_become ys (n + flags_in_cases xs)
cases_become-append [] ys n = ap (cases_become ys) (sym (zero_behind n))
cases_become-append (x ∷ xs) ys n = ap (λ l. x.becomes n ∷ l) (cases_become-append xs ys (n + x.flags) ∙ ap (λ m. cases_become xs (n + x.flags) ++ cases_become ys m) (sym (associate n x.flags (flags_in_cases xs))))

any-append : (xs ys : List Flagging) → any_continues (xs ++ ys) ≡ (any_continues xs || any_continues ys)
any-append xs ys = list_any-append (λ s. s.continues) xs ys

any_case-append : (xs ys : List CaseFlagging) → any_case_continues (xs ++ ys) ≡ (any_case_continues xs || any_case_continues ys)
any_case-append xs ys = list_any-append (λ c. c.continues) xs ys

or_false : (x : Bool) → (x || false) ≡ x
or_false true = refl
or_false false = refl

mapped-more : {B : Type 0} (f : Stmt → B) (xs : List Stmt) (i : ℕ) (d : Stmt) → i < length xs → map f (take (i + 1) xs) ≡ map f (take i xs) ++ f (get_or xs i d) ∷ []
mapped-more f xs i d h = ap (map f) (take_more xs i d h) ∙ map-append f (take i xs) (get_or xs i d ∷ [])

cases_mapped-more : {B : Type 0} (f : Case → B) (xs : List Case) (i : ℕ) (d : Case) → i < length xs → map f (take (i + 1) xs) ≡ map f (take i xs) ++ f (get_or xs i d) ∷ []
cases_mapped-more f xs i d h = ap (map f) (take_more xs i d h) ∙ map-append f (take i xs) (get_or xs i d ∷ [])

pub continues-more : (xs : List Stmt) (i : ℕ) (d : Stmt) → i < length xs → any_continues (map flagging (take (i + 1) xs)) ≡ (any_continues (map flagging (take i xs)) || (flagging (get_or xs i d)).continues)
continues-more xs i d h =
    ap any_continues (mapped-more flagging xs i d h) ∙ any-append (map flagging (take i xs)) (flagging (get_or xs i d) ∷ [])
    ∙ ap (λ b. any_continues (map flagging (take i xs)) || b) (or_false (flagging (get_or xs i d)).continues)

pub case_continues-more : (xs : List Case) (i : ℕ) (d : Case) → i < length xs →
    any_case_continues (map case_flagging (take (i + 1) xs)) ≡ (any_case_continues (map case_flagging (take i xs)) || (case_flagging (get_or xs i d)).continues)
case_continues-more xs i d h =
    ap any_case_continues (cases_mapped-more case_flagging xs i d h) ∙ any_case-append (map case_flagging (take i xs)) (case_flagging (get_or xs i d) ∷ [])
    ∙ ap (λ b. any_case_continues (map case_flagging (take i xs)) || b) (or_false (case_flagging (get_or xs i d)).continues)

pub flags-more : (xs : List Stmt) (i : ℕ) (d : Stmt) → i < length xs → flags_of (take (i + 1) xs) ≡ flags_of (take i xs) + (flagging (get_or xs i d)).flags
flags-more xs i d h = ap flags_in (mapped-more flagging xs i d h) ∙ flags-append (map flagging (take i xs)) (flagging (get_or xs i d) ∷ []) ∙ ap (λ n. flags_of (take i xs) + n) (zero_behind (flagging (get_or xs i d)).flags)

pub case_flags-more : (xs : List Case) (i : ℕ) (d : Case) → i < length xs →
    flags_in_cases (map case_flagging (take (i + 1) xs)) ≡ flags_in_cases (map case_flagging (take i xs)) + (case_flagging (get_or xs i d)).flags
case_flags-more xs i d h =
    ap flags_in_cases (cases_mapped-more case_flagging xs i d h) ∙ case_flags-append (map case_flagging (take i xs)) (case_flagging (get_or xs i d) ∷ []) ∙ ap (λ n. flags_in_cases (map case_flagging (take i xs)) + n) (zero_behind (case_flagging (get_or xs i d)).flags)

pub become-more : (xs : List Stmt) (i : ℕ) (d : Stmt) (n : ℕ) → i < length xs → flagged_list (take (i + 1) xs) n ≡ flagged_list (take i xs) n ++ (flagging (get_or xs i d)).becomes (n + flags_of (take i xs)) ∷ []
become-more xs i d n h = ap (λ l. all_become l n) (mapped-more flagging xs i d h) ∙ become-append (map flagging (take i xs)) (flagging (get_or xs i d) ∷ []) n

pub cases_become-more : (xs : List Case) (i : ℕ) (d : Case) (n : ℕ) → i < length xs →
    cases_become (map case_flagging (take (i + 1) xs)) n ≡ cases_become (map case_flagging (take i xs)) n ++ (case_flagging (get_or xs i d)).becomes (n + flags_in_cases (map case_flagging (take i xs))) ∷ []
cases_become-more xs i d n h =
    ap (λ l. cases_become l n) (cases_mapped-more case_flagging xs i d h) ∙ cases_become-append (map case_flagging (take i xs)) (case_flagging (get_or xs i d) ∷ []) n

pub ruleset list_rules = (continues-more, case_continues-more, flags-more, case_flags-more, become-more, cases_become-more, take_all, append_assoc, append-nil)

one_more : (n : ℕ) → n + 1 ≡ suc n
one_more n = omega arith

pub flag_locals-more : (n : ℕ) → flag_locals (n + 1) ≡ flag_locals n ++ ([], unsigned_char) ∷ []
flag_locals-more n = ap flag_locals (one_more n) ∙ behind n
  where
    behind : (n : ℕ) → flag_locals (suc n) ≡ flag_locals n ++ ([], unsigned_char) ∷ []
    behind zero = refl
    behind (suc n) = ap (λ (l : List (List ℕ × CType)). ([], unsigned_char) ∷ l) (behind n)

pub ruleset flag_rules = (flag_locals-more, append_assoc, append-nil)
