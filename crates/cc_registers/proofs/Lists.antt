-- The lists of a statement's parts, one level of an expression or a statement, and lists as far as a loop has come.
use Rattle.std.proofs.Common.{◌≡◌, ◌<◌, ◌+◌, ◌++◌, ◌⊎◌, inl, inr, ℕ, Bool, List, [], ◌∷◌, map, length, take, get_or, Option, refl, ap, sym, ◌∙◌, append_assoc}
use Rattle.std.proofs.lemmas.Grind.{flat_map-append}
use Rattle.std.proofs.lemmas.List.{append-nil, take_more, take_all}
use Rattle.std.specs.List.{flat_map}
use Rattle.cc_program.specs.CcNum.declared.int_type.IntType.{IntType}
use Rattle.cc_program.specs.CcNum.declared.op.BinOp.{BinOp}
use Rattle.cc_program.specs.declared.expr.Expr.{Expr, AddrOf, Bin, Move, Gap, Compare, Both, Either, Seq, Assign, Change, Call, roll-Expr, map-Expr, fold-roll-Expr}
use Rattle.cc_program.specs.declared.expr.Expr.TheOpen as one
use Rattle.cc_program.specs.declared.expr.Place.{Place}
use Rattle.cc_program.specs.declared.stmt.Case.{Case, out-Case, fold-Case, fold_out-Case}
use Rattle.cc_program.specs.declared.stmt.Stmt.{Stmt, Do, If, While, DoWhile, For, Switch, Break, Continue, Return, Empty, Block, fold-roll-Stmt}
use Rattle.cc_program.specs.declared.stmt.Stmt.TheVariants.{rolls-Do, rolls-If, rolls-While, rolls-DoWhile, rolls-For, rolls-Switch, rolls-Break, rolls-Continue, rolls-Return, rolls-Empty, rolls-Block}
use Rattle.cc_program.specs.declared.stmt.Stmt.TheOpen as is
use Rattle.cc_registers.specs.Taken.{all_of, listed, PlaceTaken, taken_step, place_taken_step, taken_in, place_taken_in, taken_if, stmt_taken_step, taken_by, taken_by_all}

-- ---- lists of lists

module _ {X : Type 0} (f : X → List ℕ) where
  flat_more : (xs : List X) (i : ℕ) (d : X) → i < length xs → flat_map f (take (i + 1) xs) ≡ flat_map f (take i xs) ++ f (get_or xs i d)
  flat_more xs i d h = ap (flat_map f) (take_more xs i d h) ∙ flat_map-append f (take i xs) (get_or xs i d ∷ []) ∙ ap (λ l. flat_map f (take i xs) ++ l) (append-nil (f (get_or xs i d)))

  mapped : (xs : List X) → flat_map (λ list. list) (map f xs) ≡ flat_map f xs
  mapped [] = refl
  mapped (x ∷ xs) = ap (λ l. f x ++ l) (mapped xs)

  mapped_more : (xs : List X) (i : ℕ) (d : X) → i < length xs → all_of (map f (take (i + 1) xs)) ≡ all_of (map f (take i xs)) ++ f (get_or xs i d)
  mapped_more xs i d h = mapped (take (i + 1) xs) ∙ flat_more xs i d h ∙ ap (λ l. l ++ f (get_or xs i d)) (sym (mapped (take i xs)))

-- ---- expressions

taken-at : (e : Expr) (x : one.Expr-F Expr Place) → e ≡ roll-Expr x → taken_in e ≡ taken_step (map-Expr Expr Place (List ℕ) PlaceTaken taken_in place_taken_in x)
unfolding taken_in place_taken_in
taken-at e x h = ap taken_in h ∙ fold-roll-Expr (List ℕ) PlaceTaken taken_step place_taken_step x

abbrev IsTwo : Expr → Expr → Expr → Type 0
IsTwo e a b =
    ((o : BinOp) × (t : IntType) × e ≡ Bin o t a b) ⊎ (((back : Bool) × e ≡ Move a b back) ⊎ ((e ≡ Gap a b) ⊎ (((o : BinOp) × e ≡ Compare o a b) ⊎ ((e ≡ Both a b) ⊎ ((e ≡ Either a b) ⊎ (e ≡ Seq a b))))))

pub two-is : (e a b : Expr) → IsTwo e a b → taken_in e ≡ taken_in a ++ taken_in b
unfolding roll-Expr denote.Hole.Carrier.roll
two-is e a b (inl h) = taken-at e (one.Bin h.0 h.1 a b) h.2
two-is e a b (inr (inl h)) = taken-at e (one.Move a b h.0) h.1
two-is e a b (inr (inr (inl h))) = taken-at e (one.Gap a b) h
two-is e a b (inr (inr (inr (inl h)))) = taken-at e (one.Compare h.0 a b) h.1
two-is e a b (inr (inr (inr (inr (inl h))))) = taken-at e (one.Both a b) h
two-is e a b (inr (inr (inr (inr (inr (inl h)))))) = taken-at e (one.Either a b) h
two-is e a b (inr (inr (inr (inr (inr (inr h)))))) = taken-at e (one.Seq a b) h

pub assign-is : (e : Expr) (a : Place) (v : Expr) → (e ≡ Assign a v) ⊎ ((o : BinOp) × (t : IntType) × e ≡ Change a o t v) → taken_in e ≡ (place_taken_in a).inside ++ taken_in v
unfolding roll-Expr denote.Hole.Carrier.roll
assign-is e a v (inl h) = taken-at e (one.Assign a v) h
assign-is e a v (inr h) = taken-at e (one.Change a h.0 h.1 v) h.2

pub address-is : (e : Expr) (a : Place) → e ≡ AddrOf a → taken_in e ≡ listed (place_taken_in a).local ++ (place_taken_in a).inside
unfolding roll-Expr denote.Hole.Carrier.roll
address-is e a h = taken-at e (one.AddrOf a) h

pub call-is : (e g : Expr) (args : List Expr) → e ≡ Call g args → taken_in e ≡ taken_in g ++ flat_map taken_in args
unfolding roll-Expr denote.Hole.Carrier.roll
call-is e g args h = taken-at e (one.Call g args) h ∙ ap (λ l. taken_in g ++ l) (mapped taken_in args)

pub args-more : (xs : List Expr) (i : ℕ) (d : Expr) → i < length xs → flat_map taken_in (take (i + 1) xs) ≡ flat_map taken_in (take i xs) ++ taken_in (get_or xs i d)
args-more xs i d h = flat_more taken_in xs i d h

pub ruleset flat_rules = (args-more, take_all, append_assoc, append-nil)

-- ---- statements

pub stmts-more : (list : List Stmt) (i : ℕ) (d : Stmt) → i < length list → taken_by_all (take (i + 1) list) ≡ taken_by_all (take i list) ++ taken_by (get_or list i d)
stmts-more list i d h = mapped_more taken_by list i d h

pub cases-more : (cases : List Case) (i : ℕ) (d : Case) → i < length cases →
    flat_map (λ c. taken_by_all (out-Case c).body) (take (i + 1) cases) ≡ flat_map (λ c. taken_by_all (out-Case c).body) (take i cases) ++ taken_by_all (out-Case (get_or cases i d)).body
cases-more cases i d h = flat_more (λ (c : Case). taken_by_all (out-Case c).body) cases i d h

taken_case : Case → List ℕ
taken_case c = fold-Case (List ℕ) (List ℕ) stmt_taken_step (λ c. all_of c.body) c

taken_cases : (cases : List Case) → all_of (map taken_case cases) ≡ flat_map (λ c. taken_by_all (out-Case c).body) cases
unfolding taken_case taken_by
taken_cases [] = refl
taken_cases (c ∷ cases) =
    ap (λ l. l ++ all_of (map taken_case cases)) (fold_out-Case (List ℕ) (List ℕ) stmt_taken_step (λ c. all_of c.body) c) ∙ ap (λ l. taken_by_all (out-Case c).body ++ l) (taken_cases cases)

pub effect-is : (e : Expr) → taken_by (Do e) ≡ taken_in e
unfolding taken_by
effect-is e = ap taken_by (sym (rolls-Do e)) ∙ fold-roll-Stmt (List ℕ) (List ℕ) stmt_taken_step (λ c. all_of c.body) (is.Do e)

pub return-is : (e : Option Expr) → taken_by (Return e) ≡ taken_if e
unfolding taken_by
return-is e = ap taken_by (sym (rolls-Return e)) ∙ fold-roll-Stmt (List ℕ) (List ℕ) stmt_taken_step (λ c. all_of c.body) (is.Return e)

pub block-is : (a : List Stmt) → taken_by (Block a) ≡ taken_by_all a
unfolding taken_by
block-is a = ap taken_by (sym (rolls-Block a)) ∙ fold-roll-Stmt (List ℕ) (List ℕ) stmt_taken_step (λ c. all_of c.body) (is.Block a)

pub break-is : taken_by Break ≡ []
unfolding taken_by
break-is = ap taken_by (sym rolls-Break) ∙ fold-roll-Stmt (List ℕ) (List ℕ) stmt_taken_step (λ c. all_of c.body) is.Break

pub continue-is : taken_by Continue ≡ []
unfolding taken_by
continue-is = ap taken_by (sym rolls-Continue) ∙ fold-roll-Stmt (List ℕ) (List ℕ) stmt_taken_step (λ c. all_of c.body) is.Continue

pub empty-is : taken_by Empty ≡ []
unfolding taken_by
empty-is = ap taken_by (sym rolls-Empty) ∙ fold-roll-Stmt (List ℕ) (List ℕ) stmt_taken_step (λ c. all_of c.body) is.Empty

pub if-is : (e : Expr) (a b : List Stmt) → taken_by (If e a b) ≡ taken_in e ++ (taken_by_all a ++ taken_by_all b)
unfolding taken_by
if-is e a b = ap taken_by (sym (rolls-If e a b)) ∙ fold-roll-Stmt (List ℕ) (List ℕ) stmt_taken_step (λ c. all_of c.body) (is.If e a b)

pub while-is : (e : Expr) (a : List Stmt) → taken_by (While e a) ≡ taken_in e ++ taken_by_all a
unfolding taken_by
while-is e a = ap taken_by (sym (rolls-While e a)) ∙ fold-roll-Stmt (List ℕ) (List ℕ) stmt_taken_step (λ c. all_of c.body) (is.While e a)

pub do-is : (a : List Stmt) (e : Expr) → taken_by (DoWhile a e) ≡ taken_by_all a ++ taken_in e
unfolding taken_by
do-is a e = ap taken_by (sym (rolls-DoWhile a e)) ∙ fold-roll-Stmt (List ℕ) (List ℕ) stmt_taken_step (λ c. all_of c.body) (is.DoWhile a e)

pub for-is : (first test step : Option Expr) (a : List Stmt) → taken_by (For first test step a) ≡ taken_if first ++ (taken_if test ++ (taken_if step ++ taken_by_all a))
unfolding taken_by
for-is first test step a = ap taken_by (sym (rolls-For first test step a)) ∙ fold-roll-Stmt (List ℕ) (List ℕ) stmt_taken_step (λ c. all_of c.body) (is.For first test step a)

pub switch-is : (e : Expr) (cases : List Case) → taken_by (Switch e cases) ≡ taken_in e ++ flat_map (λ c. taken_by_all (out-Case c).body) cases
unfolding taken_case taken_by
switch-is e cases =
    ap taken_by (sym (rolls-Switch e cases)) ∙ fold-roll-Stmt (List ℕ) (List ℕ) stmt_taken_step (λ c. all_of c.body) (is.Switch e cases) ∙ ap (λ l. taken_in e ++ l) (taken_cases cases)

pub ruleset list_rules = (append_assoc, append-nil, take_all, stmts-more, cases-more)

pub ruleset stmt_rules = (append_assoc, append-nil, effect-is, return-is, block-is, break-is, continue-is, empty-is, if-is, while-is, do-is, for-is, switch-is)
