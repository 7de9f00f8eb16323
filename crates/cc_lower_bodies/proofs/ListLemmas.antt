-- What lists of statements and of cases become, as far as a loop has come.
use Rattle.std.proofs.Common.{◌≡◌, ◌+◌, ◌<◌, ℕ, List, [], ◌∷◌, ◌++◌, length, take, get_or, refl, ap, sym, ◌∙◌, append_assoc, arith}
use Rattle.std.proofs.lemmas.List.{append-nil, length-append, take_more, take_all}
use Rattle.cc_program.specs.declared.func.Func.{Func}
use Rattle.cc_program.specs.declared.program.Program.{Program}
use Rattle.cc_program.specs.declared.stmt.Case.{Case, out-Case, roll-Case, fold_out-Case}
use Rattle.cc_program.specs.declared.stmt.Stmt.{Stmt}
use Rattle.cc_lower_expressions.specs.Expressions.{Temps, Piece, piece, Make, onto, joined}
use Rattle.cc_lower_expressions.specs.Statements.{lower_in, lower_case_in, lower, lower_case}
use Rattle.cc_lower_accesses.proofs.AccessRules.{locals-append, locals-length}
use Rattle.cc_lower_accesses.proofs.Opened.{then-assoc}
use Rattle.cc_lower_accesses.specs.Modes.{as_locals}
use Rattle.cc_eval.specs.CcSyntax.Types.{Named}
use Rattle.cc_lower_bodies.specs.Lists.{list_made, cases_made}

-- ---- lists

pub number-behind : (k : ℕ) (a b : Temps) → k + length a + length b ≡ k + length (a ++ b)
number-behind k a b = let h : k + length a + length b ≡ k + (length a + length b) = omega arith in h ∙ ap (λ (n : ℕ). k + n) (sym (length-append a b))

module _ (p : Program) (f : Func) where
  pub list-none : (k : ℕ) → list_made p f [] k ≡ piece [] [] tt
  unfolding list_made
  list-none k = refl

  list-one : (s : Stmt) (k : ℕ) → list_made p f (s ∷ []) k ≡ (let x = lower p f s k in piece x.temps x.stmts tt)
  unfolding list_made
  list-one s k =
      let x = lower p f s k in
      ap (λ (ts : Temps). piece ts (x.stmts ++ []) tt) (append-nil x.temps) ∙ ap (λ (ss : List Stmt). piece x.temps ss tt) (append-nil x.stmts)

  list-append : (xs ys : List Stmt) (k : ℕ) → list_made p f (xs ++ ys) k ≡ (let x = list_made p f xs k in onto x (list_made p f ys (k + length x.temps)))
  unfolding list_made
  list-append [] ys k = let z : k ≡ k + 0 = omega arith in ap (λ (n : ℕ). list_made p f ys n) z
  list-append (s ∷ xs) ys k =
      let a = lower p f s k in let x = list_made p f xs (k + length a.temps) in
      ap (λ (z : Piece (Unit {0})). onto a z) (list-append xs ys (k + length a.temps)) ∙
      sym (then-assoc a x (list_made p f ys (k + length a.temps + length x.temps))) ∙
      ap (λ (n : ℕ). onto (onto a x) (list_made p f ys n)) (number-behind k a.temps x.temps)

  list-more : (xs : List Stmt) (k i : ℕ) (d : Stmt) → i < length xs →
      list_made p f (take (i + 1) xs) k ≡
      (let x = list_made p f (take i xs) k in let y = lower p f (get_or xs i d) (k + length x.temps) in piece (x.temps ++ y.temps) (x.stmts ++ y.stmts) tt)
  list-more xs k i d h =
      let x = list_made p f (take i xs) k in
      ap (λ (l : List Stmt). list_made p f l k) (take_more xs i d h) ∙ list-append (take i xs) (get_or xs i d ∷ []) k ∙
      ap (λ (z : Piece (Unit {0})). onto x z) (list-one (get_or xs i d) (k + length x.temps))

  -- ---- cases

  abbrev case_made : Case → Make Case
  case_made c k = (let x = list_made p f (out-Case c).body k in piece x.temps [] (roll-Case (record { labels = (out-Case c).labels; body = x.stmts })))

  pub case-is : (c : Case) (k : ℕ) → lower_case p f c k ≡ case_made c k
  unfolding lower lower_case list_made
  case-is c k = ap (λ (m : Make Case). m k) (fold_out-Case (Make (Unit {0})) (Make Case) (lower_in p f) (lower_case_in p f) c)

  abbrev put : Piece (List Case) → Piece (List Case) → Piece (List Case)
  put x y = joined (λ xs ys. xs ++ ys) x y

  put-assoc : (x : Piece Case) (y z : Piece (List Case)) → joined (λ c cs. c ∷ cs) x (put y z) ≡ put (joined (λ c cs. c ∷ cs) x y) z
  put-assoc x y z =
      ap (λ (ts : Temps). piece ts (x.stmts ++ (y.stmts ++ z.stmts)) (x.value ∷ (y.value ++ z.value))) (sym (append_assoc x.temps y.temps z.temps)) ∙
      ap (λ (ss : List Stmt). piece ((x.temps ++ y.temps) ++ z.temps) ss (x.value ∷ (y.value ++ z.value))) (sym (append_assoc x.stmts y.stmts z.stmts))

  pub cases-none : (k : ℕ) → cases_made p f [] k ≡ piece [] [] []
  unfolding cases_made
  cases-none k = refl

  cases-one : (c : Case) (k : ℕ) → cases_made p f (c ∷ []) k ≡ (let y = lower_case p f c k in piece y.temps (y.stmts ++ []) (y.value ∷ []))
  unfolding cases_made
  cases-one c k = let y = lower_case p f c k in ap (λ (ts : Temps). piece ts (y.stmts ++ []) (y.value ∷ [])) (append-nil y.temps)

  cases-append : (xs ys : List Case) (k : ℕ) → cases_made p f (xs ++ ys) k ≡ (let x = cases_made p f xs k in put x (cases_made p f ys (k + length x.temps)))
  unfolding cases_made
  cases-append [] ys k = let z : k ≡ k + 0 = omega arith in ap (λ (n : ℕ). cases_made p f ys n) z
  cases-append (c ∷ xs) ys k =
      let a = lower_case p f c k in let x = cases_made p f xs (k + length a.temps) in
      ap (λ (z : Piece (List Case)). joined (λ c cs. c ∷ cs) a z) (cases-append xs ys (k + length a.temps)) ∙
      put-assoc a x (cases_made p f ys (k + length a.temps + length x.temps)) ∙
      ap (λ (n : ℕ). put (joined (λ c cs. c ∷ cs) a x) (cases_made p f ys n)) (number-behind k a.temps x.temps)

  cases-more : (xs : List Case) (k i : ℕ) (d : Case) → i < length xs →
      cases_made p f (take (i + 1) xs) k ≡
      (let x = cases_made p f (take i xs) k in let y = lower_case p f (get_or xs i d) (k + length x.temps) in
      piece (x.temps ++ y.temps) (x.stmts ++ (y.stmts ++ [])) (x.value ++ y.value ∷ []))
  cases-more xs k i d h =
      let x = cases_made p f (take i xs) k in
      ap (λ (l : List Case). cases_made p f l k) (take_more xs i d h) ∙ cases-append (take i xs) (get_or xs i d ∷ []) k ∙
      ap (λ (z : Piece (List Case)). put x z) (cases-one (get_or xs i d) (k + length x.temps))

  pub cases-no-statements : (xs : List Case) (k : ℕ) → (cases_made p f xs k).stmts ≡ []
  unfolding cases_made
  cases-no-statements [] k = refl
  cases-no-statements (c ∷ xs) k =
      let a = lower_case p f c k in
      ap (λ (z : Piece Case). z.stmts ++ (cases_made p f xs (k + length a.temps)).stmts) (case-is c k) ∙ cases-no-statements xs (k + length a.temps)

  -- ---- as far as a loop has come

  more-locals : (l m n : List Named) (x y z : Temps) → m ≡ l ++ as_locals x → n ≡ m ++ as_locals y → y ≡ z → n ≡ l ++ as_locals (x ++ z)
  more-locals l m n x y z locals behind same =
      behind ∙ ap (λ (r : List Named). r ++ as_locals y) locals ∙ ap (λ (t : Temps). (l ++ as_locals x) ++ as_locals t) same ∙ append_assoc l (as_locals x) (as_locals z) ∙
      ap (λ (r : List Named). l ++ r) (sym (locals-append x z))

  count-of : (l m : List Named) (x : Temps) → m ≡ l ++ as_locals x → length m ≡ length l + length x
  count-of l m x locals = ap (λ (it : List Named). length it) locals ∙ locals-length l x

  pub list-step : (xs : List Stmt) (i : ℕ) (s : Stmt) (l m n : List Named) (o q : List Stmt) → i < length xs → s ≡ get_or xs i s →
      o ≡ (list_made p f (take i xs) (length l)).stmts → m ≡ l ++ as_locals (list_made p f (take i xs) (length l)).temps →
      n ≡ m ++ as_locals (lower p f s (length m)).temps → q ≡ o ++ (lower p f s (length m)).stmts →
      (q ≡ (list_made p f (take (i + 1) xs) (length l)).stmts) × (n ≡ l ++ as_locals (list_made p f (take (i + 1) xs) (length l)).temps)
  list-step xs i s l m n o q h is made locals behind next =
      let k = length l in let x = list_made p f (take i xs) k in
      let more = list-more xs k i s h in
      let same : lower p f s (length m) ≡ lower p f (get_or xs i s) (k + length x.temps) =
      ap (λ (j : ℕ). lower p f s j) (count-of l m x.temps locals) ∙ ap (λ (z : Stmt). lower p f z (k + length x.temps)) is in (
        next ∙ ap (λ (r : List Stmt). r ++ (lower p f s (length m)).stmts) made ∙ ap (λ (z : Piece (Unit {0})). x.stmts ++ z.stmts) same ∙ sym (ap (λ (z : Piece (Unit {0})). z.stmts) more),
        more-locals l m n x.temps (lower p f s (length m)).temps (lower p f (get_or xs i s) (k + length x.temps)).temps locals behind (ap (λ (z : Piece (Unit {0})). z.temps) same) ∙
            sym (ap (λ (z : Piece (Unit {0})). l ++ as_locals z.temps) more),
      )

  pub cases-step : (xs : List Case) (i : ℕ) (c : Case) (l m n : List Named) (o q : List Case) (r : Case) → i < length xs → c ≡ get_or xs i c →
      o ≡ (cases_made p f (take i xs) (length l)).value → m ≡ l ++ as_locals (cases_made p f (take i xs) (length l)).temps →
      n ≡ m ++ as_locals (lower_case p f c (length m)).temps → r ≡ (lower_case p f c (length m)).value → q ≡ o ++ r ∷ [] →
      (q ≡ (cases_made p f (take (i + 1) xs) (length l)).value) × (n ≡ l ++ as_locals (cases_made p f (take (i + 1) xs) (length l)).temps)
  cases-step xs i c l m n o q r h is made locals behind value next =
      let k = length l in let x = cases_made p f (take i xs) k in
      let more = cases-more xs k i c h in
      let same : lower_case p f c (length m) ≡ lower_case p f (get_or xs i c) (k + length x.temps) =
      ap (λ (j : ℕ). lower_case p f c j) (count-of l m x.temps locals) ∙ ap (λ (z : Case). lower_case p f z (k + length x.temps)) is in (
        next ∙ ap (λ (w : List Case). w ++ r ∷ []) made ∙ ap (λ (w : Case). x.value ++ w ∷ []) (value ∙ ap (λ (z : Piece Case). z.value) same) ∙ sym (ap (λ (z : Piece (List Case)). z.value) more),
        more-locals l m n x.temps (lower_case p f c (length m)).temps (lower_case p f (get_or xs i c) (k + length x.temps)).temps locals behind (ap (λ (z : Piece Case). z.temps) same) ∙
            sym (ap (λ (z : Piece (List Case)). l ++ as_locals z.temps) more),
      )

pub ruleset case_rules = (case-is)

pub ruleset list_rules = (list-none, cases-none, take_all)
