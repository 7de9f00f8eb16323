-- From a point of a program on there are as many points as its statement has.
use Rattle.std.proofs.Common.{arith, ◌≡◌, ◌⊎◌, inl, inr, ◌≤◌, ◌+◌, ℕ, zero, suc, List, [], ◌∷◌, ◌++◌, length, append_assoc, append-nil, Some, slice_get, refl, ap, sym, subst, ◌∙◌}
use Rattle.std.proofs.lemmas.List.{length-append, length-map}
use Rattle.std.proofs.lemmas.List.Sums.{sum_by-cons}
use Rattle.std.proofs.lemmas.Option.{none-some, same_Some}
use Rattle.cc_state_points.specs.CcControl.Control.{bodies}
use Rattle.cc_state_points.proofs.CcFlow.Inside.{body_inside}
use Rattle.cc_state_points.proofs.CcFlow.Paths.{body_counted}
use Rattle.cc_state_points.specs.CcFlow.declared.next.Site.{Site}
use Rattle.cc_state_points.specs.CcFlow.declared.types.Point.{Point}
use Rattle.cc_state_points.specs.CcFlow.Laws.{IsIn}
use Rattle.cc_state_points.specs.CcFlow.Next.{reached}
use Rattle.cc_state_points.specs.CcFlow.Points.{Piece, CasePiece, total, list_points, case_points, point, flow_step, piece_of, pieces, size_of, total_of, body_site, body_points, body_count, count_in, count_of, points_in, flow_of}
use Rattle.cc_state_points.proofs.CcFlowSound.Opened.{folded, folded_cases, piece_level, form_size, size_at, total-append, total-bodies}
use Rattle.cc_state_points.proofs.CcFlowSound.Segments.{all_counted, flat}
use Rattle.cc_state_points.specs.CcFlowSound.Sites.{loop_site, switch_site}
use Rattle.cc_state_points.specs.CcFlowSound.Statements.{inside, statement_at}
use Rattle.cc_program.proofs.Each.{Each, each_of}
use Rattle.cc_program.proofs.StmtInduction.{StmtParts, CaseParts, by_stmt}
use Rattle.cc_program.specs.declared.func.Func.{Func}
use Rattle.cc_program.specs.declared.program.Program.{Program}
use Rattle.cc_program.specs.declared.stmt.Case.{Case, out-Case, roll-Case, out-roll-Case}
use Rattle.cc_program.specs.declared.stmt.Stmt.{Stmt, out-Stmt, roll-Stmt, out-roll-Stmt, map-Stmt}
use Rattle.cc_program.specs.declared.stmt.Stmt.TheOpen as is
use Rattle.cc_state_points.proofs.CcRulesFlows.Paths.{leads}
use Rattle.cc_state_points.specs.CcRulesFlows.Descents.{descended}
use Rattle.cc_rules_here.proofs.Owned.{all_there, owned_in}
use Rattle.cc_state_points.specs.CcSyntax.Expressions.{of_one}

-- ---- lists

in_part : {A : Type 0} (xs ys : List A) (i : ℕ) (q : A) → slice_get (xs ++ ys) i ≡ Some q → (slice_get xs i ≡ Some q) ⊎ ((m : ℕ) × (i ≡ length xs + m) × (slice_get ys m ≡ Some q))
in_part [] ys i q e = inr (i, omega arith, e)
in_part (x ∷ xs) ys zero q e = inl e
in_part (x ∷ xs) ys (suc i) q e = by (in_part xs ys i q e)
  where
    by : (slice_get xs i ≡ Some q) ⊎ ((m : ℕ) × (i ≡ length xs + m) × (slice_get ys m ≡ Some q)) → (slice_get (x ∷ xs) (suc i) ≡ Some q) ⊎ ((m : ℕ) × (suc i ≡ length (x ∷ xs) + m) × (slice_get ys m ≡ Some q))
    by (inl h) = inl h
    by (inr h) = let k = h.1 in inr (h.0, omega (arith, k), h.2)

get_left : {A : Type 0} (xs ys : List A) (i : ℕ) (x : A) → slice_get xs i ≡ Some x → slice_get (xs ++ ys) i ≡ Some x
get_left [] ys i x e = absurd (none-some x e)
get_left (z ∷ xs) ys zero x e = e
get_left (z ∷ xs) ys (suc i) x e = get_left xs ys i x e

get_right : {A : Type 0} (xs ys : List A) (i : ℕ) (x : A) → slice_get ys i ≡ Some x → slice_get (xs ++ ys) (length xs + i) ≡ Some x
get_right [] ys i x e = ap (slice_get ys) (let k : 0 + i ≡ i = omega arith in k) ∙ e
get_right (z ∷ xs) ys i x e = ap (slice_get (z ∷ xs ++ ys)) (let k : length (z ∷ xs) + i ≡ suc (length xs + i) = omega arith in k) ∙ get_right xs ys i x e

get_end : {A : Type 0} (xs : List A) (x : A) → slice_get xs (length xs) ≡ Some x → ⊥
get_end [] x e = none-some x e
get_end (z ∷ xs) x e = get_end xs x e

each_both : {A : Type 0} (P : A → Type 0) (xs ys : List A) → Each P xs → Each P ys → Each P (xs ++ ys)
each_both P [] ys h k = k
each_both P (x ∷ xs) ys h k = (h.0, each_both P xs ys h.1 k)

-- ---- the points of a statement, and of a list

-- the path of a point leads from the statement to one that has no more points than there are from there on
record Stands (s : Stmt) (base : List ℕ) (i : ℕ) (q : Point) : Type 0 where
  rest : List ℕ
  path : q.path ≡ base ++ rest
  room : (t : Stmt) → descended s rest ≡ Some t → i + size_of t ≤ size_of s

record StandsIn (list : List Stmt) (base : List ℕ) (position i : ℕ) (q : Point) : Type 0 where
  at : ℕ
  stmt : Stmt
  there : slice_get list at ≡ Some stmt
  rest : List ℕ
  path : q.path ≡ base ++ (position + at) ∷ rest
  room : (t : Stmt) → descended stmt rest ≡ Some t → i + size_of t ≤ total_of list

abbrev HasRoom : Stmt → Type 0
HasRoom s = (base : List ℕ) (site : Site) (i : ℕ) (q : Point) → slice_get ((piece_of s).points base site) i ≡ Some q → Stands s base i q

abbrev first_site : Stmt → List Stmt → Site → Site
first_site s list site = record site { behind = reached (total (pieces list)) (site.number + (piece_of s).count) site.behind }

abbrev next_site : Stmt → Site → Site
next_site s site = record site { number = site.number + (piece_of s).count }

abbrev first_points : Stmt → List Stmt → List ℕ → ℕ → Site → List Point
first_points s list base position site = (piece_of s).points (base ++ position ∷ []) (first_site s list site)

abbrev next_points : Stmt → List Stmt → List ℕ → ℕ → Site → List Point
next_points s list base position site = list_points (pieces list) base (position + 1) (next_site s site)

first_long : (s : Stmt) (list : List Stmt) (base : List ℕ) (position : ℕ) (site : Site) → length (first_points s list base position site) ≡ size_of s
first_long s list base position site = (all_counted (s ∷ [])).0 (base ++ position ∷ []) (first_site s list site)

abbrev ListHasRoom : List Stmt → Type 0
ListHasRoom list = (base : List ℕ) (position : ℕ) (site : Site) (i : ℕ) (q : Point) → slice_get (list_points (pieces list) base position site) i ≡ Some q → StandsIn list base position i q

with_first : (s : Stmt) (list : List Stmt) → HasRoom s → ListHasRoom list → (base : List ℕ) (position : ℕ) (site : Site) (i : ℕ) (q : Point) →
    (slice_get (first_points s list base position site) i ≡ Some q) ⊎ ((m : ℕ) × (i ≡ length (first_points s list base position site) + m) × (slice_get (next_points s list base position site) m ≡ Some q)) → StandsIn (s ∷ list) base position i q
with_first s list own others base position site i q (inl k) =
    let w = own (base ++ position ∷ []) (first_site s list site) i q k in
    let sum : total_of (s ∷ list) ≡ size_of s + total_of list = sum_by-cons size_of s list in
    record {
      at = 0;
      stmt = s;
      there = refl;
      rest = w.rest;
      path = w.path ∙ append_assoc base (position ∷ []) w.rest ∙ ap (λ n. base ++ n ∷ w.rest) (let z : position ≡ position + 0 = omega arith in z);
      room = λ t d. let r = w.room t d in omega (arith, r, sum);
    }
with_first s list own others base position site i q (inr k) =
    let w = others base (position + 1) (next_site s site) k.0 q k.2 in
    let im = k.1 in
    let long = first_long s list base position site in
    let sum : total_of (s ∷ list) ≡ size_of s + total_of list = sum_by-cons size_of s list in
    record {
      at = suc w.at;
      stmt = w.stmt;
      there = w.there;
      rest = w.rest;
      path = w.path ∙ ap (λ n. base ++ n ∷ w.rest) (let z : position + 1 + w.at ≡ position + suc w.at = omega arith in z);
      room = λ t d. let r = w.room t d in omega (arith, r, sum, long, im);
    }

list_room : (list : List Stmt) → Each HasRoom list → ListHasRoom list
list_room [] h base position site i q e = absurd (none-some q e)
list_room (s ∷ list) h base position site i q e = with_first s list h.0 (list_room list h.1) base position site i q (in_part (first_points s list base position site) (next_points s list base position site) i q e)

list_long : (list : List Stmt) (base : List ℕ) (position : ℕ) (site : Site) → length (list_points (pieces list) base position site) ≡ total_of list
list_long [] base position site = refl
list_long (s ∷ list) base position site =
    let one = first_long s list base position site in
    let rest = list_long list base (position + 1) (next_site s site) in
    let both = length-append (first_points s list base position site) (next_points s list base position site) in
    let sum = sum_by-cons size_of s list in
    omega (arith, one, rest, both, sum)

-- ---- a statement, by its form

in_bodies : (cases : List Case) → Each (λ (c : Case). Each HasRoom (out-Case c).body) cases → Each HasRoom (bodies cases)
in_bodies [] h = tt
in_bodies (c ∷ cases) h = each_both HasRoom (out-Case c).body (bodies cases) h.0 (in_bodies cases h.1)

module _ (s : Stmt) (base : List ℕ) (site : Site) (q : Point) where
  own : (next : List ℕ) → Some (point base site next) ≡ Some q → Stands s base 0 q
  own next e = record {
    rest = [];
    path = ap (λ (p : Point). p.path) (sym (same_Some (point base site next) q e)) ∙ sym (append-nil base);
    room = λ t d. let k = ap size_of (same_Some s t d) in omega (arith, k);
  }

  nested : (x : is.Stmt-F Stmt Case) → out-Stmt s ≡ x → form_size x ≡ 1 + total_of (inside x) → (i : ℕ) → StandsIn (inside x) base 0 i q → Stands s base (suc i) q
  nested x e size i k = record {
    rest = k.at ∷ k.rest;
    path = k.path ∙ ap (λ n. base ++ n ∷ k.rest) (let z : 0 + k.at ≡ k.at = omega arith in z);
    room = λ t d.
        let there : slice_get (inside (out-Stmt s)) k.at ≡ Some k.stmt = ap (λ y. slice_get (inside y) k.at) e ∙ k.there in
        let leads : descended k.stmt k.rest ≡ Some t = sym (ap (λ o. of_one o (λ (r : Stmt). descended r k.rest)) there) ∙ d in
        let r = k.room t leads in
        let own : size_of s ≡ 1 + total_of (inside x) = size_at s ∙ ap form_size e ∙ size in
        omega (arith, r, own);
  }

  abbrev Points : is.Stmt-F Stmt Case → ℕ → Type 0
  Points x i = slice_get ((flow_step (map-Stmt Stmt Case Piece CasePiece piece_of folded x)).points base site) i ≡ Some q

  abbrev then_points : List Stmt → List Point
  then_points a = list_points (pieces a) base 0 (record site { number = site.number + 1 })

  abbrev else_points : List Stmt → List Stmt → List Point
  else_points a b = list_points (pieces b) base (length (pieces a)) (record site { number = site.number + 1 + total (pieces a) })

  -- the two lists of an `if`
  in_if : (a b : List Stmt) → Each HasRoom a → Each HasRoom b → (i : ℕ) → slice_get (then_points a ++ else_points a b) i ≡ Some q → StandsIn (a ++ b) base 0 i q
  in_if a b h k i e = by (in_part (then_points a) (else_points a b) i q e)
    where
      sum : total_of (a ++ b) ≡ total_of a + total_of b
      sum = total-append a b

      by : (slice_get (then_points a) i ≡ Some q) ⊎ ((m : ℕ) × (i ≡ length (then_points a) + m) × (slice_get (else_points a b) m ≡ Some q)) → StandsIn (a ++ b) base 0 i q
      by (inl e) =
          let w = list_room a h base 0 (record site { number = site.number + 1 }) i q e in
          record { at = w.at; stmt = w.stmt; there = get_left a b w.at w.stmt w.there; rest = w.rest; path = w.path; room = λ t d. let r = w.room t d in omega (arith, r, sum) }
      by (inr e) =
          let w = list_room b k base (length (pieces a)) (record site { number = site.number + 1 + total (pieces a) }) e.0 q e.2 in
          let im = e.1 in
          let long : length (then_points a) ≡ total_of a = list_long a base 0 (record site { number = site.number + 1 }) in
          let pos : length (pieces a) + w.at ≡ 0 + (length a + w.at) = (let l = length-map a piece_of in omega (arith, l)) in
          record {
            at = length a + w.at;
            stmt = w.stmt;
            there = get_right a b w.at w.stmt w.there;
            rest = w.rest;
            path = w.path ∙ ap (λ n. base ++ n ∷ w.rest) pos;
            room = λ t d. let r = w.room t d in omega (arith, r, sum, long, im);
          }

  by_form : (x : is.Stmt-F Stmt Case) → out-Stmt s ≡ x → StmtParts HasRoom (λ (c : Case). Each HasRoom (out-Case c).body) x → (i : ℕ) → Points x i → Stands s base i q
  by_form (is.Do e) o h zero k = own (site.behind ∷ []) k
  by_form (is.Do e) o h (suc i) k = absurd (none-some q k)
  by_form (is.If e a b) o h zero k = own _ k
  by_form (is.If e a b) o h (suc i) k = nested (is.If e a b) o (ap (λ n. 1 + n) (sym (total-append a b))) i (in_if a b h.0 h.1 i k)
  by_form (is.While e a) o h zero k = own _ k
  by_form (is.While e a) o h (suc i) k = nested (is.While e a) o refl i (list_room a h base 0 (loop_site site) i q k)
  by_form (is.DoWhile a e) o h zero k = own (site.behind ∷ []) k
  by_form (is.DoWhile a e) o h (suc i) k = absurd (none-some q k)
  by_form (is.For first test step a) o h zero k = own (site.behind ∷ []) k
  by_form (is.For first test step a) o h (suc i) k = absurd (none-some q k)
  by_form (is.Switch e cases) o h zero k = own _ k
  by_form (is.Switch e cases) o h (suc i) k =
      nested (is.Switch e cases) o (ap (λ n. 1 + n) (sym (total-bodies cases))) i
      (list_room (bodies cases) (in_bodies cases h) base 0 (switch_site site) i q
      (ap (λ (ps : List Point). slice_get ps i) (flat cases base 0 (switch_site site)) ∙ (ap (λ (ps : List CasePiece). slice_get (case_points ps base 0 (switch_site site)) i) (sym (folded_cases cases)) ∙ k)))
  by_form is.Break o h zero k = own (site.breaks ∷ []) k
  by_form is.Break o h (suc i) k = absurd (none-some q k)
  by_form is.Continue o h zero k = own (site.continues ∷ []) k
  by_form is.Continue o h (suc i) k = absurd (none-some q k)
  by_form (is.Return e) o h zero k = own (site.exit ∷ []) k
  by_form (is.Return e) o h (suc i) k = absurd (none-some q k)
  by_form is.Empty o h zero k = own (site.behind ∷ []) k
  by_form is.Empty o h (suc i) k = absurd (none-some q k)
  by_form (is.Block a) o h zero k = own (site.behind ∷ []) k
  by_form (is.Block a) o h (suc i) k = absurd (none-some q k)

level : (s : Stmt) → StmtParts HasRoom (λ (c : Case). Each HasRoom (out-Case c).body) (out-Stmt s) → HasRoom s
level s h base site i q e = by_form s base site q (out-Stmt s) refl h i (subst (λ (p : Piece). slice_get (p.points base site) i ≡ Some q) (piece_level s) e)

made : (x : is.Stmt-F Stmt Case) → StmtParts HasRoom (λ (c : Case). Each HasRoom (out-Case c).body) x → HasRoom (roll-Stmt x)
made x h = level (roll-Stmt x) (subst (StmtParts HasRoom (λ (c : Case). Each HasRoom (out-Case c).body)) (sym (out-roll-Stmt x)) h)

made_case : (x : is.Case-F Stmt Case) → CaseParts HasRoom (λ (c : Case). Each HasRoom (out-Case c).body) x → Each HasRoom (out-Case (roll-Case x)).body
made_case x h = subst (λ (c : is.Case-F Stmt Case). Each HasRoom c.body) (sym (out-roll-Case x)) h

all_room : (list : List Stmt) → Each HasRoom list
all_room list = each_of HasRoom (by_stmt HasRoom (λ (c : Case). Each HasRoom (out-Case c).body) made made_case) list

-- ---- a function, and a program

abbrev inner : ℕ → ℕ → List Stmt → List Point
inner func first body = list_points (pieces body) [] 0 (body_site func first (first + total_of body))

abbrev exit : ℕ → List Stmt → Point
exit func body = record { func = func; path = length body ∷ []; next = [] }

body_room : (func first : ℕ) (body : List Stmt) (i : ℕ) (q : Point) (t : Stmt) → slice_get (body_points func first body) i ≡ Some q → statement_at body q.path ≡ Some t → i + size_of t ≤ total_of body
body_room func first body i q t e d = by (in_part (inner func first body) (exit func body ∷ []) i q e)
  where
    ended : (m : ℕ) → slice_get (exit func body ∷ []) m ≡ Some q → ⊥
    ended zero k = get_end body t (ap (λ (p : Point). statement_at body p.path) (same_Some (exit func body) q k) ∙ d)
    ended (suc m) k = none-some q k

    by : (slice_get (inner func first body) i ≡ Some q) ⊎ ((m : ℕ) × (i ≡ length (inner func first body) + m) × (slice_get (exit func body ∷ []) m ≡ Some q)) → i + size_of t ≤ total_of body
    by (inl k) =
        let w = list_room body (all_room body) [] 0 (body_site func first (first + total_of body)) i q k in
        let path : q.path ≡ w.at ∷ w.rest = w.path ∙ ap (λ n. n ∷ w.rest) (let z : 0 + w.at ≡ w.at = omega arith in z) in
        w.room t (sym (ap (λ o. of_one o (λ (r : Stmt). descended r w.rest)) w.there) ∙ (sym (leads body w.at w.rest) ∙ (ap (statement_at body) (sym path) ∙ d)))
    by (inr k) = absurd (ended k.0 k.2)

abbrev HaveRoom : List Func → ℕ → ℕ → Type 0
HaveRoom funcs func first = (n k : ℕ) (q : Point) (f : Func) (t : Stmt) → slice_get (points_in func first funcs) n ≡ Some q → q.func ≡ func + k → slice_get funcs k ≡ Some f → statement_at f.body q.path ≡ Some t → n + size_of t ≤ count_in funcs

module _ (g : Func) (funcs : List Func) (func first : ℕ) (others : HaveRoom funcs (func + 1) (first + body_count g.body)) (n : ℕ) (q : Point) (f : Func) (t : Stmt) where
  abbrev own_points : List Point
  own_points = body_points func first g.body

  abbrev other_points : List Point
  other_points = points_in (func + 1) (first + body_count g.body) funcs

  sum : count_in (g ∷ funcs) ≡ body_count g.body + count_in funcs
  sum = sum_by-cons (λ (h : Func). body_count h.body) g funcs

  in_first : (k : ℕ) → q.func ≡ func + k → slice_get (g ∷ funcs) k ≡ Some f → statement_at f.body q.path ≡ Some t → slice_get own_points n ≡ Some q → n + size_of t ≤ count_in (g ∷ funcs)
  in_first zero own there d e = let r = body_room func first g.body n q t e (ap (λ (h : Func). statement_at h.body q.path) (same_Some g f there) ∙ d) in let s = sum in omega (arith, r, s)
  in_first (suc k) own there d e = let w = (all_there (IsIn func first (first + body_count g.body)) own_points n q (body_inside func first g.body) e).own in absurd (omega (arith, w, own))

  in_next : (k m : ℕ) → q.func ≡ func + k → slice_get (g ∷ funcs) k ≡ Some f → statement_at f.body q.path ≡ Some t → n ≡ length own_points + m → slice_get other_points m ≡ Some q → n + size_of t ≤ count_in (g ∷ funcs)
  in_next zero m own there d nm e = let w = (owned_in funcs (func + 1) (first + body_count g.body) m q e).0 in absurd (omega (arith, w, own))
  in_next (suc k) m own there d nm e =
      let own_later : q.func ≡ func + 1 + k = omega (arith, own) in
      let r = others m k q f t e own_later there d in
      let s = sum in
      let long : length own_points ≡ body_count g.body = body_counted func first g.body in
      omega (arith, r, s, long, nm)

  in_either : (k : ℕ) → q.func ≡ func + k → slice_get (g ∷ funcs) k ≡ Some f → statement_at f.body q.path ≡ Some t → (slice_get own_points n ≡ Some q) ⊎ ((m : ℕ) × (n ≡ length own_points + m) × (slice_get other_points m ≡ Some q)) → n + size_of t ≤ count_in (g ∷ funcs)
  in_either k own there d (inl h) = in_first k own there d h
  in_either k own there d (inr h) = in_next k h.0 own there d h.1 h.2

room_in : (funcs : List Func) (func first : ℕ) → HaveRoom funcs func first
room_in [] func first n k q f t e own there d = absurd (none-some q e)
room_in (g ∷ funcs) func first n k q f t e own there d =
    in_either g funcs func first (room_in funcs (func + 1) (first + body_count g.body)) n q f t k own there d (in_part (body_points func first g.body) (points_in (func + 1) (first + body_count g.body) funcs) n q e)

pub room : (p : Program) (n : ℕ) (q : Point) (f : Func) (t : Stmt) → slice_get (flow_of p).points n ≡ Some q → slice_get p.funcs q.func ≡ Some f → statement_at f.body q.path ≡ Some t → n + size_of t ≤ count_of p
room p n q f t e there d = room_in p.funcs 0 0 n q.func q f t e (let z : q.func ≡ 0 + q.func = omega arith in z) there d
