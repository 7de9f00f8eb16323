-- Each point of a program is one of a function.
use Rattle.std.proofs.Common.{arith, ◌≡◌, ℕ, zero, suc, ◌+◌, ◌<◌, List, [], ◌∷◌, All, length, Some, slice_get, refl, sym, ap, subst, ◌∙◌}
use Rattle.std.proofs.lemmas.List.Elements.{All-nil, All-append, All-weaker}
use Rattle.std.proofs.lemmas.Option.{get_or_from_slice_get}
use Rattle.cc_state_reads.proofs.CcFlow.Inside.{body_inside}
use Rattle.cc_state_reads.proofs.CcFlow.Paths.{all_counted}
use Rattle.cc_state_reads.specs.CcFlow.declared.types.Point.{Point}
use Rattle.cc_state_reads.specs.CcFlow.Laws.{IsIn}
use Rattle.cc_state_reads.specs.CcFlow.Points.{body_count, body_points, points_in, count_of, flow_of}
use Rattle.cc_program.specs.declared.func.Func.{Func}
use Rattle.cc_program.specs.declared.program.Program.{Program}

-- the point is one of some functions, whose ids count from one on
abbrev IsOneOf : ℕ → List Func → Point → Type 0
IsOneOf func funcs q = (i : ℕ) × (f : Func) × (q.func ≡ func + i) × (slice_get funcs i ≡ Some f)

own_first : (func first : ℕ) (f : Func) (funcs : List Func) → All (IsOneOf func (f ∷ funcs)) (body_points func first f.body)
own_first func first f funcs = All-weaker (IsIn func first (first + body_count f.body)) (IsOneOf func (f ∷ funcs)) (λ q h. (zero, f, (let e = h.own in omega (arith, e)), refl)) (body_points func first f.body) (body_inside func first f.body)

own_later : (func : ℕ) (f : Func) (funcs : List Func) (q : Point) → IsOneOf (func + 1) funcs q → IsOneOf func (f ∷ funcs) q
own_later func f funcs q (i, g, e, there) = (suc i, g, omega (arith, e), there)

all_own : (func first : ℕ) (funcs : List Func) → All (IsOneOf func funcs) (points_in func first funcs)
all_own func first [] = All-nil (IsOneOf func [])
all_own func first (f ∷ funcs) =
    All-append (IsOneOf func (f ∷ funcs)) (body_points func first f.body) (points_in (func + 1) (first + body_count f.body) funcs) (own_first func first f funcs)
    (All-weaker (IsOneOf (func + 1) funcs) (IsOneOf func (f ∷ funcs)) (λ q h. own_later func f funcs q h) (points_in (func + 1) (first + body_count f.body) funcs) (all_own (func + 1) (first + body_count f.body) funcs))

some_at : {A : Type 0} (xs : List A) (i : ℕ) → i < length xs → (x : A) × (slice_get xs i ≡ Some x)
some_at [] i l = absurd (omega (arith, l))
some_at (x ∷ xs) zero l = (x, refl)
some_at (x ∷ xs) (suc i) l = some_at xs i (omega (arith, l))

pub function_at : (p : Program) (n : ℕ) → n < count_of p → (q : Point) × (f : Func) × (slice_get (flow_of p).points n ≡ Some q) × (slice_get p.funcs q.func ≡ Some f)
function_at p n l =
    let points = (flow_of p).points in
    let within : n < length points = subst (λ (c : ℕ). n < c) (sym (all_counted p)) l in
    let (q, at) = some_at points n within in
    let (i, f, e, there) = subst (IsOneOf 0 p.funcs) (get_or_from_slice_get points n q q at) (all_own 0 0 p.funcs n q within) in
    (q, f, at, ap (slice_get p.funcs) (let same : q.func ≡ i = omega (arith, e) in same) ∙ there)
