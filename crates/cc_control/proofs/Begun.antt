-- Where a statement begins, a block at a time.
use Rattle.std.proofs.Common.{◌≡◌, ◌<◌, ℕ, suc, List, [], ◌∷◌, ◌++◌, length, map, get_or, drop, refl, ap, ◌∙◌, sym, arith, append-nil}
use Rattle.cc_program.specs.declared.stmt.Stmt.{Stmt, out-Stmt, map-Stmt, fold-Stmt, fold_out-Stmt}
use Rattle.cc_program.specs.declared.stmt.Stmt.TheOpen as is
use Rattle.cc_program.specs.declared.stmt.Case.{Case, fold-Case}
use Rattle.cc_control.specs.Control.{Level, Begins, level, opening, behind_body, first_phase, stands, inside, begin_step, begun, bodies, close}

raw : Stmt → Begins
raw s = fold-Stmt Begins (Unit {0}) begin_step (λ c. tt) s

raw_case : Case → Unit {0}
raw_case c = fold-Case Begins (Unit {0}) begin_step (λ c. tt) c

abbrev opened : is.Stmt-F Stmt Case → is.Stmt-F Begins (Unit {0})
opened x = map-Stmt Stmt Case Begins (Unit {0}) raw raw_case x

raw_level : (s : Stmt) → raw s ≡ begin_step (opened (out-Stmt s))
unfolding raw raw_case
raw_level s = fold_out-Stmt Begins (Unit {0}) begin_step (λ c. tt) s

inside-none : (os : List Stmt) (s : Stmt) (n : ℕ) (rest : List Stmt) (around : List Level) → inside [] os s n rest around ≡ stands s n rest around
inside-none [] s n rest around = refl
inside-none (t ∷ ts) s n rest around = refl

inside-some : (a os : List Stmt) (t : Stmt) (ts : List Stmt) (s : Stmt) (n : ℕ) (rest : List Stmt) (around : List Level) → a ≡ t ∷ ts → os ≡ t ∷ ts →
    inside (map raw a) os s n rest around ≡ raw t t 0 ts (level (s ∷ rest) n (behind_body (out-Stmt s)) ∷ around)
inside-some a os t ts s n rest around h k = rw (h, k) refl

stands-by : (s : Stmt) (n : ℕ) (rest : List Stmt) (around : List Level) (x : is.Stmt-F Stmt Case) → opening x ≡ [] → begin_step (opened x) s n rest around ≡ stands s n rest around
stands-by s n rest around (is.Do e) h = refl
stands-by s n rest around (is.If e a b) h = refl
stands-by s n rest around (is.While e a) h = refl
stands-by s n rest around (is.DoWhile a e) h = rw h (inside-none (opening (out-Stmt s)) s n rest around)
stands-by s n rest around (is.For first test again a) h = refl
stands-by s n rest around (is.Switch e cases) h = refl
stands-by s n rest around is.Break h = refl
stands-by s n rest around is.Continue h = refl
stands-by s n rest around (is.Return e) h = refl
stands-by s n rest around is.Empty h = refl
stands-by s n rest around (is.Block a) h = rw h (inside-none (opening (out-Stmt s)) s n rest around)

pub begun_stands : (s : Stmt) (n : ℕ) (rest : List Stmt) (around : List Level) → opening (out-Stmt s) ≡ [] → begun s n rest around ≡ stands s n rest around
unfolding begun raw
begun_stands s n rest around h = ap (λ (b : Begins). b s n rest around) (raw_level s) ∙ stands-by s n rest around (out-Stmt s) h

enters-by : (s t : Stmt) (n : ℕ) (rest ts : List Stmt) (around : List Level) (x : is.Stmt-F Stmt Case) → out-Stmt s ≡ x → opening x ≡ t ∷ ts →
    begin_step (opened x) s n rest around ≡ raw t t 0 ts (level (s ∷ rest) n (behind_body (out-Stmt s)) ∷ around)
enters-by s t n rest ts around (is.Do e) k h = absurd (cc)
enters-by s t n rest ts around (is.If e a b) k h = absurd (cc)
enters-by s t n rest ts around (is.While e a) k h = absurd (cc)
enters-by s t n rest ts around (is.DoWhile a e) k h = inside-some a (opening (out-Stmt s)) t ts s n rest around h (ap opening k ∙ h)
enters-by s t n rest ts around (is.For first test again a) k h = absurd (cc)
enters-by s t n rest ts around (is.Switch e cases) k h = absurd (cc)
enters-by s t n rest ts around is.Break k h = absurd (cc)
enters-by s t n rest ts around is.Continue k h = absurd (cc)
enters-by s t n rest ts around (is.Return e) k h = absurd (cc)
enters-by s t n rest ts around is.Empty k h = absurd (cc)
enters-by s t n rest ts around (is.Block a) k h = inside-some a (opening (out-Stmt s)) t ts s n rest around h (ap opening k ∙ h)

pub begun_enters : (s t : Stmt) (n : ℕ) (rest ts : List Stmt) (around : List Level) → opening (out-Stmt s) ≡ t ∷ ts →
    begun s n rest around ≡ begun t 0 ts (level (s ∷ rest) n (behind_body (out-Stmt s)) ∷ around)
unfolding begun raw
begun_enters s t n rest ts around h = ap (λ (b : Begins). b s n rest around) (raw_level s) ∙ enters-by s t n rest ts around (out-Stmt s) refl h

-- how many blocks are entered at once
abbrev first_depth : List ℕ → ℕ
first_depth [] = 0
first_depth (n ∷ ns) = suc n

abbrev depth_step : is.Stmt-F ℕ (Unit {0}) → ℕ
depth_step (is.Do e) = 0
depth_step (is.If e a b) = 0
depth_step (is.While e a) = 0
depth_step (is.DoWhile a e) = first_depth a
depth_step (is.For first test again a) = 0
depth_step (is.Switch e cases) = 0
depth_step is.Break = 0
depth_step is.Continue = 0
depth_step (is.Return e) = 0
depth_step is.Empty = 0
depth_step (is.Block a) = first_depth a

pub depth_of : Stmt → ℕ
depth_of s = fold-Stmt ℕ (Unit {0}) depth_step (λ c. tt) s

depth_case : Case → Unit {0}
depth_case c = fold-Case ℕ (Unit {0}) depth_step (λ c. tt) c

depth_level : (s : Stmt) → depth_of s ≡ depth_step (map-Stmt Stmt Case ℕ (Unit {0}) depth_of depth_case (out-Stmt s))
unfolding depth_of depth_case
depth_level s = fold_out-Stmt ℕ (Unit {0}) depth_step (λ c. tt) s

abbrev pub depth : List Stmt → ℕ
depth [] = 0
depth (s ∷ rest) = suc (depth_of s)

depth-by : (t : Stmt) (ts : List Stmt) (x : is.Stmt-F Stmt Case) → opening x ≡ t ∷ ts → depth_step (map-Stmt Stmt Case ℕ (Unit {0}) depth_of depth_case x) ≡ suc (depth_of t)
depth-by t ts (is.Do e) h = absurd (cc)
depth-by t ts (is.If e a b) h = absurd (cc)
depth-by t ts (is.While e a) h = absurd (cc)
depth-by t ts (is.DoWhile a e) h = rw h refl
depth-by t ts (is.For first test again a) h = absurd (cc)
depth-by t ts (is.Switch e cases) h = absurd (cc)
depth-by t ts is.Break h = absurd (cc)
depth-by t ts is.Continue h = absurd (cc)
depth-by t ts (is.Return e) h = absurd (cc)
depth-by t ts is.Empty h = absurd (cc)
depth-by t ts (is.Block a) h = rw h refl

depth-here : (s t : Stmt) (ts : List Stmt) → opening (out-Stmt s) ≡ t ∷ ts → depth_of s ≡ suc (depth_of t)
depth-here s t ts h = depth_level s ∙ depth-by t ts (out-Stmt s) h

pub first_and_rest : (list : List Stmt) (s : Stmt) → s ≡ get_or list 0 s → 0 < length list → list ≡ s ∷ drop 1 list
first_and_rest [] s e h = absurd (omega (arith, h))
first_and_rest (t ∷ ts) s e h = ap (λ (x : Stmt). x ∷ ts) (sym e)

-- a list whose first statement begins with others, which are not empty
pub depth_falls : (s : Stmt) (rest list inner : List Stmt) → list ≡ s ∷ rest → inner ≡ opening (out-Stmt s) → 0 < length inner → depth inner < depth list
depth_falls s rest list [] e h k = absurd (omega (arith, k))
depth_falls s rest list (t ∷ ts) e h k = let d = depth-here s t ts (sym h) in rw e (omega (arith, d))

pub list_enters : (s : Stmt) (list inner rest : List Stmt) (cases : List Case) (n : ℕ) (around : List Level) → list ≡ s ∷ rest → inner ≡ opening (out-Stmt s) → 0 < length inner →
    close (inner ++ bodies []) 0 (level (list ++ bodies cases) n (behind_body (out-Stmt s)) ∷ around) ≡ close (list ++ bodies cases) n around
list_enters s list [] rest cases n around e h k = absurd (omega (arith, k))
list_enters s list (t ∷ ts) rest cases n around e h k =
    rw (e, append-nil ts) (sym (begun_enters s t n (rest ++ bodies cases) ts around (sym h)))

pub list_stands : (s : Stmt) (list inner rest : List Stmt) (cases : List Case) (n : ℕ) (around : List Level) → list ≡ s ∷ rest → inner ≡ opening (out-Stmt s) → length inner ≡ 0 →
    (level (list ++ bodies cases) n (first_phase (out-Stmt s)), around) ≡ close (list ++ bodies cases) n around
list_stands s list [] rest cases n around e h k = rw e (sym (begun_stands s n (rest ++ bodies cases) around (sym h)))
list_stands s list (t ∷ ts) rest cases n around e h k = absurd (omega (arith, k))
