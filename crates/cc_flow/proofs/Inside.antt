-- Control stays in the function, and where it goes ascends.
use Rattle.std.proofs.Common.{◌≡◌, ◌<◌, ◌≤◌, ◌+◌, ◌⊎◌, inl, inr, ℕ, Bool, true, false, List, [], ◌∷◌, ◌++◌, length, map, nat_eq, nat_le, ◌||◌, sum, All, AllPairs, if◌then◌else◌, refl, sym, subst, append_assoc, arith}
use Rattle.std.specs.List.{list_any}
use Rattle.std.proofs.lemmas.List.{append-nil}
use Rattle.std.proofs.lemmas.List.Elements.{All-nil, All-cons, All-append, All-weaker}
use Rattle.std.proofs.lemmas.List.Kept.{AllPairs-cons}
use Rattle.std.proofs.lemmas.List.Sums.{sum_by-cons, sum-map}
use Rattle.cc_program.proofs.Each.{Each}
use Rattle.cc_program.specs.declared.expr.Expr.{Expr}
use Rattle.cc_program.specs.declared.stmt.Stmt.{Stmt}
use Rattle.cc_program.specs.declared.stmt.Stmt.TheOpen as is
use Rattle.cc_flow.specs.declared.next.Site.{Site}
use Rattle.cc_flow.specs.declared.types.Point.{Point}
use Rattle.cc_flow.specs.Laws.{IsIn}
use Rattle.cc_flow.specs.Next.{reached, head, heads, branches, may_pass}
use Rattle.cc_flow.specs.Points.{Piece, CasePiece, total, total_in_cases, list_points, case_points, point, simple, if_next, loop_next, switch_next, flow_step, pieces, total_of, body_count, body_site, body_points}
use Rattle.cc_flow.proofs.Pairs.{pairs_nil, pairs_one}
use Rattle.cc_flow.proofs.PieceInduction.{PieceParts, all_pieces}
use Rattle.cc_flow.proofs.Pieces.{total-pieces}
use Rattle.cc_flow.proofs.Tests.{zero_of, some_of, le_of, above_of}

-- a place before points, or where there are none behind them
reached_is : (count number behind : ℕ) → ((count ≡ 0) × (reached count number behind ≡ behind)) ⊎ ((0 < count) × (reached count number behind ≡ number))
reached_is count number behind = cases (nat_eq count 0) refl
  where
    cases : (b : Bool) → nat_eq count 0 ≡ b → ((count ≡ 0) × ((if b then behind else number) ≡ behind)) ⊎ ((0 < count) × ((if b then behind else number) ≡ number))
    cases true e = inl (zero_of count e, refl)
    cases false e = inr (some_of count e, refl)

-- ascending numbers from one on
pub record Up (least : ℕ) (next : List ℕ) : Type 0 where
  pub above : All (λ n. least ≤ n) next
  pub ascends : AllPairs (λ m n. m < n) next

up_nil : (least : ℕ) → Up least []
up_nil least = record { above = All-nil (λ n. least ≤ n); ascends = pairs_nil (λ m n. m < n) }

up_cons : (least n : ℕ) (next : List ℕ) → least ≤ n → Up (n + 1) next → Up least (n ∷ next)
up_cons least n next h up = record {
  above = All-cons (λ m. least ≤ m) n next h (All-weaker (λ m. n + 1 ≤ m) (λ m. least ≤ m) (λ m k. omega (arith, h, k)) next up.above);
  ascends = AllPairs-cons (λ m n. m < n) n next (All-weaker (λ m. n + 1 ≤ m) (λ m. n < m) (λ m k. omega (arith, k)) next up.above) up.ascends;
}

up_less : (least less : ℕ) (next : List ℕ) → less ≤ least → Up least next → Up less next
up_less least less next h up = record { above = All-weaker (λ n. least ≤ n) (λ n. less ≤ n) (λ n k. omega (arith, h, k)) next up.above; ascends = up.ascends }

-- the first points of lists, and what is behind all of them
heads_up : (number : ℕ) (counts next : List ℕ) → Up (number + sum counts) next → Up number (heads number counts ++ next)
heads_up number [] next up = up_less (number + sum []) number next (omega arith) up
heads_up number (count ∷ counts) next up =
    let one = sum_by-cons (λ (n : ℕ). n) count counts in
    let rest = heads_up (number + count) counts next (up_less (number + sum (count ∷ counts)) (number + count + sum counts) next (omega (arith, one)) up) in
    subst (Up number) (sym (append_assoc (head number count) (heads (number + count) counts) next)) (cases (nat_eq count 0) refl rest)
  where
    cases : (b : Bool) → nat_eq count 0 ≡ b → Up (number + count) (heads (number + count) counts ++ next) → Up number ((if b then [] else number ∷ []) ++ (heads (number + count) counts ++ next))
    cases true e rest = up_less (number + count) number (heads (number + count) counts ++ next) (omega arith) rest
    cases false e rest =
        let some = some_of count e in
        up_cons number number (heads (number + count) counts ++ next) (omega arith) (up_less (number + count) (number + 1) (heads (number + count) counts ++ next) (omega (arith, some)) rest)

heads_below : (number end : ℕ) (counts : List ℕ) → number + sum counts ≤ end → All (λ n. (number ≤ n) × (n < end)) (heads number counts)
heads_below number end [] h = All-nil (λ n. (number ≤ n) × (n < end))
heads_below number end (count ∷ counts) h =
    let one = sum_by-cons (λ (n : ℕ). n) count counts in
    let rest = heads_below (number + count) end counts (omega (arith, h, one)) in
    All-append (λ n. (number ≤ n) × (n < end)) (head number count) (heads (number + count) counts) (cases (nat_eq count 0) refl (omega (arith, h, one)))
    (All-weaker (λ n. (number + count ≤ n) × (n < end)) (λ n. (number ≤ n) × (n < end)) (λ n k. (omega (arith, k.0), k.1)) (heads (number + count) counts) rest)
  where
    cases : (b : Bool) → nat_eq count 0 ≡ b → number + count ≤ end → All (λ n. (number ≤ n) × (n < end)) (if b then [] else number ∷ [])
    cases true e k = All-nil (λ n. (number ≤ n) × (n < end))
    cases false e k =
        let some = some_of count e in
        All-cons (λ n. (number ≤ n) × (n < end)) number [] (omega arith, omega (arith, some, k)) (All-nil (λ n. (number ≤ n) × (n < end)))

module _ (func lo hi : ℕ) where
  abbrev Within : ℕ → Type 0
  Within n = (lo ≤ n) × (n < hi)

  -- a site of so many points in the function: what is behind them is not among them
  pub record Fits (count : ℕ) (site : Site) : Type 0 where
    pub own : site.func ≡ func
    pub low : lo ≤ site.number
    pub high : site.number + count ≤ hi
    pub behind : (lo ≤ site.behind) × (site.behind < hi)
    pub breaks : (lo ≤ site.breaks) × (site.breaks < hi)
    pub continues : (lo ≤ site.continues) × (site.continues < hi)
    pub exit : (lo ≤ site.exit) × (site.exit < hi)
    pub outside : site.number < site.behind → site.number + count ≤ site.behind

  abbrev Sound : Piece → Type 0
  Sound p = (path : List ℕ) (site : Site) → Fits p.count site → All (IsIn func lo hi) (p.points path site)

  -- a next point
  one_in : (path : List ℕ) (site : Site) (n : ℕ) → site.func ≡ func → Within n → IsIn func lo hi (point path site (n ∷ []))
  one_in path site n e w = record { own = e; stays = All-cons Within n [] w (All-nil Within); ascends = pairs_one (λ m n. m < n) n }

  some_in : (path : List ℕ) (site : Site) (p : Point) → IsIn func lo hi p → All (IsIn func lo hi) (p ∷ [])
  some_in path site p h = All-cons (IsIn func lo hi) p [] h (All-nil (IsIn func lo hi))

  simple_sound : (next : Site → ℕ) → ((site : Site) → Fits 1 site → Within (next site)) → Sound (simple next)
  simple_sound next w = λ path site f. some_in path site (point path site (next site ∷ [])) (one_in path site (next site) f.own (w site f))

  -- the first points of the lists inside, and what is behind
  branches_in : (passes : Bool) (path : List ℕ) (site : Site) (counts : List ℕ) → Fits (1 + sum counts) site → IsIn func lo hi (point path site (branches passes site counts))
  branches_in passes path site counts f = record { own = f.own; stays = stay passes; ascends = (ascend passes).ascends }
    where
      inner : All Within (heads (site.number + 1) counts)
      inner =
          let low = f.low in
          let high = f.high in
          All-weaker (λ n. (site.number + 1 ≤ n) × (n < hi)) Within (λ n k. (omega (arith, low, k.0), k.1)) (heads (site.number + 1) counts) (heads_below (site.number + 1) hi counts (omega (arith, high)))

      order : (b : Bool) → nat_le site.behind site.number ≡ b → All Within (if b then site.behind ∷ heads (site.number + 1) counts else heads (site.number + 1) counts ++ site.behind ∷ [])
      order true e = All-cons Within site.behind (heads (site.number + 1) counts) f.behind inner
      order false e = All-append Within (heads (site.number + 1) counts) (site.behind ∷ []) inner (All-cons Within site.behind [] f.behind (All-nil Within))

      stay : (b : Bool) → All Within (branches b site counts)
      stay false = inner
      stay true = order (nat_le site.behind site.number) refl

      alone : Up (site.number + 1) (heads (site.number + 1) counts)
      alone = subst (Up (site.number + 1)) (append-nil (heads (site.number + 1) counts)) (heads_up (site.number + 1) counts [] (up_nil (site.number + 1 + sum counts)))

      sorted : (b : Bool) → nat_le site.behind site.number ≡ b → Up 0 (if b then site.behind ∷ heads (site.number + 1) counts else heads (site.number + 1) counts ++ site.behind ∷ [])
      sorted true e =
          let k = le_of site.behind site.number e in
          up_cons 0 site.behind (heads (site.number + 1) counts) (omega arith) (up_less (site.number + 1) (site.behind + 1) (heads (site.number + 1) counts) (omega (arith, k)) alone)
      sorted false e =
          let k = above_of site.behind site.number e in
          let o = f.outside k in
          up_less (site.number + 1) 0 (heads (site.number + 1) counts ++ site.behind ∷ []) (omega arith)
          (heads_up (site.number + 1) counts (site.behind ∷ []) (up_cons (site.number + 1 + sum counts) site.behind [] (omega (arith, o)) (up_nil (site.behind + 1))))

      ascend : (b : Bool) → Up 0 (branches b site counts)
      ascend false = up_less (site.number + 1) 0 (heads (site.number + 1) counts) (omega arith) alone
      ascend true = sorted (nat_le site.behind site.number) refl

  -- of what stands at the front of more, and of what stands behind
  front_fits : (count rest : ℕ) (site : Site) → Fits (count + rest) site → Fits count (record site { behind = reached rest (site.number + count) site.behind })
  front_fits count rest site f =
      let low = f.low in
      let high = f.high in
      let behind = f.behind in
      let outside = f.outside in
      elim (reached_is rest (site.number + count) site.behind) as (λ _. Fits count (record site { behind = reached rest (site.number + count) site.behind })) [
        | inl r ↦ record {
          own = f.own;
          low = low;
          high = omega (arith, high);
          behind = (omega (arith, r.1, behind.0), omega (arith, r.1, behind.1));
          breaks = f.breaks;
          continues = f.continues;
          exit = f.exit;
          outside = λ k. (let o : site.number + (count + rest) ≤ site.behind = outside (omega (arith, r.1, k)) in omega (arith, r.1, o));
        }
        | inr r ↦ record {
          own = f.own;
          low = low;
          high = omega (arith, high);
          behind = (omega (arith, r.1, low), omega (arith, r.0, r.1, high));
          breaks = f.breaks;
          continues = f.continues;
          exit = f.exit;
          outside = λ k. omega (arith, r.1);
        }
      ]

  rest_fits : (count rest number : ℕ) (site : Site) → number ≡ site.number + count → Fits (count + rest) site → Fits rest (record site { number = number })
  rest_fits count rest number site e f =
      let low = f.low in
      let high = f.high in
      let outside = f.outside in
      record {
        own = f.own;
        low = omega (arith, e, low);
        high = omega (arith, e, high);
        behind = f.behind;
        breaks = f.breaks;
        continues = f.continues;
        exit = f.exit;
        outside = λ k. (let o : site.number + (count + rest) ≤ site.behind = outside (omega (arith, e, k)) in omega (arith, e, o));
      }

  fewer_fit : (count more : ℕ) (site : Site) → count ≤ more → Fits more site → Fits count site
  fewer_fit count more site h f =
      let high = f.high in
      let outside = f.outside in
      record {
        own = f.own;
        low = f.low;
        high = omega (arith, h, high);
        behind = f.behind;
        breaks = f.breaks;
        continues = f.continues;
        exit = f.exit;
        outside = λ k. (let o = outside k in omega (arith, h, o));
      }

  list_sound : (list : List Piece) → Each Sound list → (path : List ℕ) (position : ℕ) (site : Site) → Fits (total list) site → All (IsIn func lo hi) (list_points list path position site)
  list_sound [] h path position site f = All-nil (IsIn func lo hi)
  list_sound (p ∷ list) h path position site f =
      let f2 = subst (λ n. Fits n site) (sum_by-cons (λ (p : Piece). p.count) p list) f in
      All-append (IsIn func lo hi) (p.points (path ++ position ∷ []) (record site { behind = reached (total list) (site.number + p.count) site.behind })) (list_points list path (position + 1) (record site { number = site.number + p.count }))
      (h.0 (path ++ position ∷ []) (record site { behind = reached (total list) (site.number + p.count) site.behind }) (front_fits p.count (total list) site f2))
      (list_sound list h.1 path (position + 1) (record site { number = site.number + p.count }) (rest_fits p.count (total list) (site.number + p.count) site refl f2))

  abbrev CaseSound : CasePiece → Type 0
  CaseSound c = Each Sound c.body

  cases_sound : (cases : List CasePiece) → Each CaseSound cases → (path : List ℕ) (position : ℕ) (site : Site) → Fits (total_in_cases cases) site → All (IsIn func lo hi) (case_points cases path position site)
  cases_sound [] h path position site f = All-nil (IsIn func lo hi)
  cases_sound (c ∷ cases) h path position site f =
      let f2 = subst (λ n. Fits n site) (sum_by-cons (λ (c : CasePiece). total c.body) c cases) f in
      All-append (IsIn func lo hi) (list_points c.body path position (record site { behind = reached (total_in_cases cases) (site.number + total c.body) site.behind }))
      (case_points cases path (position + length c.body) (record site { number = site.number + total c.body }))
      (list_sound c.body h.0 path position (record site { behind = reached (total_in_cases cases) (site.number + total c.body) site.behind }) (front_fits (total c.body) (total_in_cases cases) site f2))
      (cases_sound cases h.1 path (position + length c.body) (record site { number = site.number + total c.body }) (rest_fits (total c.body) (total_in_cases cases) (site.number + total c.body) site refl f2))

  if_sound : (e : Expr) (a b : List Piece) → Each Sound a → Each Sound b → Sound (flow_step (is.If e a b))
  if_sound e a b h k = λ path site f.
      let counts = total a ∷ total b ∷ [] in
      let sums : sum counts ≡ total a + total b = omega arith in
      All-cons (IsIn func lo hi) (point path site (if_next a b site))
      (list_points a path 0 (record site { number = site.number + 1 }) ++ list_points b path (length a) (record site { number = site.number + 1 + total a }))
      (branches_in (nat_eq (total a) 0 || nat_eq (total b) 0) path site counts (subst (λ n. Fits (1 + n) site) (sym sums) f))
      (
      All-append (IsIn func lo hi) (list_points a path 0 (record site { number = site.number + 1 })) (list_points b path (length a) (record site { number = site.number + 1 + total a }))
      (
      list_sound a h path 0 (record site { number = site.number + 1 })
      (fewer_fit (total a) (total a + total b) (record site { number = site.number + 1 }) (omega arith) (rest_fits 1 (total a + total b) (site.number + 1) site refl f))
      )
      (
      list_sound b k path (length a) (record site { number = site.number + 1 + total a })
      (rest_fits (total a) (total b) (site.number + 1 + total a) (record site { number = site.number + 1 }) refl (rest_fits 1 (total a + total b) (site.number + 1) site refl f))
      )
      )

  loop_sound : (e : Expr) (a : List Piece) → Each Sound a → Sound (flow_step (is.While e a))
  loop_sound e a h = λ path site f.
      let low = f.low in
      let high = f.high in
      let inner = record site { number = site.number + 1; behind = site.number; breaks = site.behind; continues = site.number } in
      let own : Within site.number = (low, omega (arith, high)) in
      let first : Within (reached (total a) (site.number + 1) site.number) =
      elim (reached_is (total a) (site.number + 1) site.number) as (λ _. Within (reached (total a) (site.number + 1) site.number)) [
        | inl r ↦ (omega (arith, r.1, low), omega (arith, r.1, high))
        | inr r ↦ (omega (arith, r.1, low), omega (arith, r.0, r.1, high))
      ] in
      All-cons (IsIn func lo hi) (point path site (loop_next a site ∷ [])) (list_points a path 0 inner)
      (one_in path site (reached (total a) (site.number + 1) site.number) f.own first)
      (
      list_sound a h path 0 inner
      (
      record {
        own = f.own;
        low = omega (arith, low);
        high = omega (arith, high);
        behind = own;
        breaks = f.behind;
        continues = own;
        exit = f.exit;
        outside = λ k. absurd (omega (arith, k));
      }
      )
      )

  switch_sound : (e : Expr) (cases : List CasePiece) → Each CaseSound cases → Sound (flow_step (is.Switch e cases))
  switch_sound e cases h = λ path site f.
      let counts = map (λ (c : CasePiece). total c.body) cases in
      let sums : sum counts ≡ total_in_cases cases = sum-map (λ (c : CasePiece). total c.body) cases in
      let passes = may_pass (list_any (λ (c : CasePiece). c.is_default) cases) counts in
      let inner = record site { number = site.number + 1; breaks = site.behind } in
      let g = rest_fits 1 (total_in_cases cases) (site.number + 1) site refl f in
      All-cons (IsIn func lo hi) (point path site (switch_next cases site)) (case_points cases path 0 inner)
      (branches_in passes path site counts (subst (λ n. Fits (1 + n) site) (sym sums) f))
      (
      cases_sound cases h path 0 inner
      (record { own = g.own; low = g.low; high = g.high; behind = g.behind; breaks = f.behind; continues = g.continues; exit = g.exit; outside = g.outside })
      )

  made : (x : is.Stmt-F Piece CasePiece) → PieceParts Sound x → Sound (flow_step x)
  made (is.Do e) h = simple_sound (λ site. site.behind) (λ site f. f.behind)
  made (is.If e a b) h = if_sound e a b h.0 h.1
  made (is.While e a) h = loop_sound e a h
  made (is.DoWhile a e) h = simple_sound (λ site. site.behind) (λ site f. f.behind)
  made (is.For first test step a) h = simple_sound (λ site. site.behind) (λ site f. f.behind)
  made (is.Switch e cases) h = switch_sound e cases h
  made is.Break h = simple_sound (λ site. site.breaks) (λ site f. f.breaks)
  made is.Continue h = simple_sound (λ site. site.continues) (λ site f. f.continues)
  made (is.Return e) h = simple_sound (λ site. site.exit) (λ site f. f.exit)
  made is.Empty h = simple_sound (λ site. site.behind) (λ site f. f.behind)
  made (is.Block a) h = simple_sound (λ site. site.behind) (λ site f. f.behind)

  pub body_in : (body : List Stmt) (exit : ℕ) → exit ≡ lo + total_of body → exit < hi → All (IsIn func lo hi) (list_points (pieces body) [] 0 (body_site func lo exit))
  body_in body exit e h =
      let t = total-pieces body in
      list_sound (pieces body) (all_pieces Sound made body) [] 0 (body_site func lo exit)
      (
      record {
        own = refl;
        low = omega arith;
        high = omega (arith, e, h, t);
        behind = (omega (arith, e), h);
        breaks = (omega (arith, e), h);
        continues = (omega (arith, e), h);
        exit = (omega (arith, e), h);
        outside = λ k. omega (arith, e, t);
      }
      )

pub body_inside : (func first : ℕ) (body : List Stmt) → All (IsIn func first (first + body_count body)) (body_points func first body)
body_inside func first body =
    let hi = first + body_count body in
    let exit = first + total_of body in
    let last : Point = record { func = func; path = length body ∷ []; next = [] } in
    All-append (IsIn func first hi) (list_points (pieces body) [] 0 (body_site func first exit)) (last ∷ [])
    (body_in func first hi body exit refl (omega arith))
    (All-cons (IsIn func first hi) last [] (record { own = refl; stays = All-nil (λ n. (first ≤ n) × (n < hi)); ascends = pairs_nil (λ m n. m < n) }) (All-nil (IsIn func first hi)))
