-- How what is made composes.
use Rattle.std.proofs.Common.{◌≡◌, ◌+◌, ℕ, List, [], ◌∷◌, ◌++◌, length, Option, Result, Ok, Err, IfOk, refl, ap, sym, ◌∙◌, append_assoc}
use Rattle.std.specs.Prelude.{OnOk}
use Rattle.std.proofs.lemmas.List.{append-nil}
use Rattle.cc_program.specs.declared.expr.Expr.{Expr}
use Rattle.cc_program.specs.declared.stmt.Stmt.{Stmt, If}
use Rattle.cc_eval.specs.CcSyntax.Types.{Named}
use Rattle.cc_eval.specs.CcSyntax.Values.{ValueType}
use Rattle.cc_lower_expressions.specs.Expressions.{Temps, Piece, piece, Make, done, ◌>>=◌, fresh, emit, fork, mapped, with_both}
use Rattle.cc_lower_accesses.specs.Modes.{as_locals}
use Rattle.cc_lower_accesses.proofs.AccessRules.{locals-none, locals-append, locals-length}
use Rattle.cc_lower_operands.specs.Branches.{apart}
use Rattle.cc_lower_operands.specs.Made.{IsMade}

-- no temporary is no local
pub no_locals : (l : List Named) → l ≡ l ++ as_locals []
no_locals l = sym (ap (λ (z : List Named). l ++ z) locals-none ∙ append-nil l)

pub made_as : {A : Type 0} {m : Make A} {v : A} {l l' : List Named} {o o' : List Stmt} (m' : Make A) → m (length l) ≡ m' (length l) → IsMade m' v l l' o o' → IsMade m v l l' o o'
made_as {l = l} {o = o} m' e h = record {
  value = h.value ∙ sym (ap (λ x. x.value) e);
  locals = h.locals ∙ sym (ap (λ x. l ++ as_locals x.temps) e);
  statements = h.statements ∙ sym (ap (λ x. o ++ x.stmts) e);
}

-- the number of the next temporary
next_is : {A : Type 0} {m : Make A} {x : A} {l l' : List Named} {o o' : List Stmt} → IsMade m x l l' o o' → length l' ≡ length l + length (m (length l)).temps
next_is {m = m} {l = l} h = ap length h.locals ∙ locals-length l (m (length l)).temps

behind_locals : (l l' l'' : List Named) (x y : Temps) → l' ≡ l ++ as_locals x → l'' ≡ l' ++ as_locals y → l'' ≡ l ++ as_locals (x ++ y)
behind_locals l l' l'' x y h i = i ∙ ap (λ (z : List Named). z ++ as_locals y) h ∙ append_assoc l (as_locals x) (as_locals y) ∙ sym (ap (λ (z : List Named). l ++ z) (locals-append x y))

behind_statements : (o o' o'' x y : List Stmt) → o' ≡ o ++ x → o'' ≡ o' ++ y → o'' ≡ o ++ (x ++ y)
behind_statements o o' o'' x y h i = i ∙ ap (λ (z : List Stmt). z ++ y) h ∙ append_assoc o x y

-- one behind the other, by any equal second one
behind : {A B C : Type 0} {m : Make A} {x : A} {n : Make B} {y : B} {l l' l'' : List Named} {o o' o'' : List Stmt} (w : Make C) (v : C) →
    IsMade m x l l' o o' → IsMade n y l' l'' o' o'' →
    v ≡ (w (length l)).value →
    (w (length l)).temps ≡ (m (length l)).temps ++ (n (length l')).temps →
    (w (length l)).stmts ≡ (m (length l)).stmts ++ (n (length l')).stmts → IsMade w v l l'' o o''
behind {m = m} {n = n} {l = l} {l' = l'} {l'' = l''} {o = o} {o' = o'} {o'' = o''} w v h i is ts ss = record {
  value = is;
  locals = behind_locals l l' l'' (m (length l)).temps (n (length l')).temps h.locals i.locals ∙ sym (ap (λ (z : Temps). l ++ as_locals z) ts);
  statements = behind_statements o o' o'' (m (length l)).stmts (n (length l')).stmts h.statements i.statements ∙ sym (ap (λ (z : List Stmt). o ++ z) ss);
}

pub made_then : {A B : Type 0} {m : Make A} {x : A} {v : B} {l l' l'' : List Named} {o o' o'' : List Stmt} (g : A → Make B) →
    IsMade m x l l' o o' → IsMade (g x) v l' l'' o' o'' → IsMade (m >>= g) v l l'' o o''
made_then {A} {B} {m = m} {x = x} {v = v} {l = l} {l' = l'} g h i =
    let e : g x (length l') ≡ g (m (length l)).value (length l + length (m (length l)).temps) =
    ap (g x) (next_is h) ∙ ap (λ (z : A). g z (length l + length (m (length l)).temps)) h.value in
    behind (m >>= g) v h i (i.value ∙ ap (λ (z : Piece B). z.value) e)
    (sym (ap (λ (z : Piece B). (m (length l)).temps ++ z.temps) e))
    (sym (ap (λ (z : Piece B). (m (length l)).stmts ++ z.stmts) e))

pub made_both : {A B C : Type 0} {m : Make A} {x : A} {n : Make B} {y : B} {l l' l'' : List Named} {o o' o'' : List Stmt} (f : A → B → C) →
    IsMade m x l l' o o' → IsMade n y l' l'' o' o'' → IsMade (with_both f m n) (f x y) l l'' o o''
made_both {A} {B} {C} {m = m} {x = x} {n = n} {y = y} {l = l} {l' = l'} f h i =
    let e : n (length l') ≡ n (length l + length (m (length l)).temps) = ap n (next_is h) in
    behind (with_both f m n) (f x y) h i
    (ap (λ (z : A). f z y) h.value ∙ ap (f (m (length l)).value) (i.value ∙ ap (λ (z : Piece B). z.value) e))
    (sym (ap (λ (z : Piece B). (m (length l)).temps ++ z.temps) e))
    (sym (ap (λ (z : Piece B). (m (length l)).stmts ++ z.stmts) e))

pub made_fresh : (t : Option ValueType) (n : ℕ) (l l' : List Named) (o : List Stmt) → n ≡ length l → l' ≡ l ++ as_locals (t ∷ []) → IsMade (fresh t) n l l' o o
made_fresh t n l l' o e h = record { value = e; locals = h; statements = sym (append-nil o) }

pub made_emit : (s : Stmt) (l : List Named) (o o' : List Stmt) → o' ≡ o ++ s ∷ [] → IsMade (emit s) tt l l o o'
made_emit s l o o' h = record { value = refl; locals = no_locals l; statements = h }

-- ---- outcomes

abbrev pub Gives : {A E : Type 0} → Result A E → Make A → List Named → List Named → List Stmt → List Stmt → Type 0
Gives r m l l' o o' = IfOk r (λ v. IsMade m v l l' o o')

pub gives : {A E : Type 0} (r : Result A E) (m : Make A) (l l' : List Named) (o o' : List Stmt) →
    IfOk r (λ v. v ≡ (m (length l)).value) → OnOk r (l' ≡ l ++ as_locals (m (length l)).temps) → OnOk r (o' ≡ o ++ (m (length l)).stmts) → Gives r m l l' o o'
gives (Ok a) m l l' o o' h i j = record { value = h; locals = i; statements = j }
gives (Err e) m l l' o o' h i j = tt

pub gives_unit : {E : Type 0} (r : Result (Unit {0}) E) (m : Make (Unit {0})) (l l' : List Named) (o o' : List Stmt) →
    OnOk r (l' ≡ l ++ as_locals (m (length l)).temps) → OnOk r (o' ≡ o ++ (m (length l)).stmts) → Gives r m l l' o o'
gives_unit (Ok a) m l l' o o' i j = record { value = refl; locals = i; statements = j }
gives_unit (Err e) m l l' o o' i j = tt

pub gives_as : {A E : Type 0} (r : Result A E) (m m' : Make A) (l l' : List Named) (o o' : List Stmt) → m (length l) ≡ m' (length l) → Gives r m' l l' o o' → Gives r m l l' o o'
gives_as (Ok v) m m' l l' o o' e h = made_as m' e h
gives_as (Err e) m m' l l' o o' e' h = tt

pub gives_then : {A B E : Type 0} {m : Make A} {x : A} {l l' : List Named} {o o' : List Stmt} (r : Result B E) (l'' : List Named) (o'' : List Stmt) (g : A → Make B) →
    IsMade m x l l' o o' → Gives r (g x) l' l'' o' o'' → Gives r (m >>= g) l l'' o o''
gives_then (Ok v) l'' o'' g h i = made_then g h i
gives_then (Err e) l'' o'' g h i = tt

pub gives_mapped : {A B E : Type 0} {m : Make A} {x : A} {l l' : List Named} {o o' : List Stmt} (r : Result B E) (f : A → B) →
    IsMade m x l l' o o' → IfOk r (λ v. v ≡ f x) → Gives r (λ k. mapped f (m k)) l l' o o'
gives_mapped (Ok v) f h i = record { value = i ∙ ap f h.value; locals = h.locals; statements = h.statements }
gives_mapped (Err e) f h i = tt

-- a statement behind, which is made of the value
pub gives_behind : {A E : Type 0} {m : Make A} {x : A} {l l' : List Named} {o o' : List Stmt} (r : Result (Unit {0}) E) (o'' : List Stmt) (s : A → Stmt) →
    IsMade m x l l' o o' → OnOk r (o'' ≡ o' ++ s x ∷ []) → Gives r (λ k. piece (m k).temps ((m k).stmts ++ s (m k).value ∷ []) tt) l l' o o''
gives_behind {A} {m = m} {x = x} {l = l} {o = o} (Ok v) o'' s h i = record {
  value = refl;
  locals = h.locals;
  statements =
      i ∙ ap (λ (z : List Stmt). z ++ s x ∷ []) h.statements ∙ append_assoc o (m (length l)).stmts (s x ∷ []) ∙ ap (λ (z : A). o ++ ((m (length l)).stmts ++ s z ∷ [])) h.value;
}
gives_behind (Err e) o'' s h i = tt

-- what is there already
pub made_kept : {A : Type 0} (x y : A) (l : List Named) (o : List Stmt) → y ≡ x → IsMade (done x) y l l o o
made_kept x y l o e = record { value = e; locals = no_locals l; statements = sym (append-nil o) }

pub stays : {A E : Type 0} (r : Result A E) (m : Make A) (x : A) (l : List Named) (o : List Stmt) → m (length l) ≡ done x (length l) → IfOk r (λ v. v ≡ x) → Gives r m l l o o
stays (Ok v) m x l o e h = made_as (done x) e (made_kept x v l o h)
stays (Err e) m x l o e' h = tt

-- ---- arms

pub made_apart : {arm : Make (Unit {0})} {u : Unit {0}} {l l' : List Named} {s : List Stmt} (x : Expr) (n : ℕ) (o : List Stmt) →
    IsMade arm u l l' [] s → IsMade (apart x n arm) (x, n, s) l l' o o
made_apart x n o h = record { value = ap (λ (z : List Stmt). (x, n, z)) h.statements; locals = h.locals; statements = sym (append-nil o) }

pub made_fork : {these those : Make (Unit {0})} {u v : Unit {0}} {l l' l'' : List Named} {s s' : List Stmt} (c : Expr) (o o' : List Stmt) →
    IsMade these u l l' [] s → IsMade those v l' l'' [] s' → o' ≡ o ++ If c s s' ∷ [] → IsMade (fork c these those) tt l l'' o o'
made_fork {these = these} {those = those} {l = l} {l' = l'} {l'' = l''} {s = s} {s' = s'} c o o' h i j =
    let e : those (length l') ≡ those (length l + length (these (length l)).temps) = ap those (next_is h) in
    record {
      value = refl;
      locals = behind_locals l l' l'' (these (length l)).temps (those (length l')).temps h.locals i.locals ∙ ap (λ (z : Piece (Unit {0})). l ++ as_locals ((these (length l)).temps ++ z.temps)) e;
      statements = j ∙ ap (λ (z : List Stmt). o ++ If c z s' ∷ []) h.statements ∙ ap (λ (z : List Stmt). o ++ If c (these (length l)).stmts z ∷ []) (i.statements ∙ ap (λ (z : Piece (Unit {0})). z.stmts) e);
    }

-- statements of an arm begin with none
pub from_none : {A : Type 0} {m : Make A} {x : A} {l l' : List Named} (start s : List Stmt) → start ≡ [] → IsMade m x l l' start s → IsMade m x l l' [] s
from_none {m = m} {l = l} start s e h = record { value = h.value; locals = h.locals; statements = h.statements ∙ ap (λ (z : List Stmt). z ++ (m (length l)).stmts) e }

-- clause by clause
pub value_given : {A E : Type 0} (r : Result A E) (m : Make A) (l l' : List Named) (o o' : List Stmt) → Gives r m l l' o o' → IfOk r (λ v. v ≡ (m (length l)).value)
value_given (Ok v) m l l' o o' h = h.value
value_given (Err e) m l l' o o' h = tt

pub locals_given : {A E : Type 0} (r : Result A E) (m : Make A) (l l' : List Named) (o o' : List Stmt) → Gives r m l l' o o' → OnOk r (l' ≡ l ++ as_locals (m (length l)).temps)
locals_given (Ok v) m l l' o o' h = h.locals
locals_given (Err e) m l l' o o' h = tt

pub statements_given : {A E : Type 0} (r : Result A E) (m : Make A) (l l' : List Named) (o o' : List Stmt) → Gives r m l l' o o' → OnOk r (o' ≡ o ++ (m (length l)).stmts)
statements_given (Ok v) m l l' o o' h = h.statements
statements_given (Err e) m l l' o o' h = tt
