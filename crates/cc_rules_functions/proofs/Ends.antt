-- The exit of a function stands in front of the first point of the next one.
use Rattle.std.proofs.Common.{arith, ◌≡◌, ◌≤◌, ◌<◌, ◌+◌, ℕ, zero, suc, List, [], ◌∷◌, length, Some, slice_get, unwrap_or, ap, ◌∙◌}
use Rattle.std.proofs.lemmas.List.Sums.{sum_by-cons}
use Rattle.std.proofs.lemmas.Option.{unwrap_or-slice_get}
use Rattle.cc_rules_flows.proofs.CcFlow.Paths.{all_counted}
use Rattle.cc_rules_flows.specs.CcFlow.Points.{flow_of, count_of, count_in, firsts_in, body_count}
use Rattle.cc_rules_flows.specs.CcFlowSound.Moves.{entry}
use Rattle.cc_program.specs.declared.func.Func.{Func}
use Rattle.cc_program.specs.declared.program.Program.{Program}
use Rattle.cc_rules_flows.specs.Nexts.{exit_of}
use Rattle.cc_rules_functions.specs.Ends.{end_at}

same : (f g : Func) → Some f ≡ Some g → f ≡ g
same f g h = cc

long : (f g : Func) → Some f ≡ Some g → body_count f.body ≡ body_count g.body
long f g h = ap (λ (x : Func). body_count x.body) (same f g h)

counted : (g : Func) (funcs : List Func) → count_in (g ∷ funcs) ≡ body_count g.body + count_in funcs
counted g funcs = sum_by-cons (λ (f : Func). body_count f.body) g funcs

ends : (first : ℕ) (funcs : List Func) (id : ℕ) (f : Func) → slice_get funcs id ≡ Some f →
    unwrap_or (slice_get (firsts_in first funcs) (suc id)) (first + count_in funcs) ≡ unwrap_or (slice_get (firsts_in first funcs) id) 0 + body_count f.body
ends first [] id f h = absurd (cc)
ends first (g ∷ []) zero f h = let e = long g f h in omega (arith, e)
ends first (g ∷ k ∷ funcs) zero f h = ap (λ n. first + n) (long g f h)
ends first (g ∷ funcs) (suc id) f h =
    let one = counted g funcs in
    let all : first + count_in (g ∷ funcs) ≡ first + body_count g.body + count_in funcs = omega (arith, one) in
    ap (λ n. unwrap_or (slice_get (firsts_in (first + body_count g.body) funcs) (suc id)) n) all ∙ ends (first + body_count g.body) funcs id f h

within : (first : ℕ) (funcs : List Func) (id : ℕ) (f : Func) → slice_get funcs id ≡ Some f → unwrap_or (slice_get (firsts_in first funcs) id) 0 + body_count f.body ≤ first + count_in funcs
within first [] id f h = absurd (cc)
within first (g ∷ funcs) zero f h = let e = long g f h in let one = counted g funcs in omega (arith, e, one)
within first (g ∷ funcs) (suc id) f h = let l = within (first + body_count g.body) funcs id f h in let one = counted g funcs in omega (arith, l, one)

module _ (p : Program) (id : ℕ) (f : Func) (there : slice_get p.funcs id ≡ Some f) where
  at_end : end_at (length (flow_of p).points) (flow_of p).first id ≡ unwrap_or (slice_get (flow_of p).first id) 0 + body_count f.body
  at_end =
      let next : id + 1 ≡ suc id = omega arith in
      let count = all_counted p in
      let all : length (flow_of p).points ≡ 0 + count_in p.funcs = omega (arith, count) in
      ap (λ n. end_at n (flow_of p).first id) all ∙ (ap (λ n. unwrap_or (slice_get (firsts_in 0 p.funcs) n) (0 + count_in p.funcs)) next ∙ ends 0 p.funcs id f there)

  pub some : 0 < end_at (length (flow_of p).points) (flow_of p).first id
  some = let e = at_end in omega (arith, e)

  pub few : count_of p ≤ 65536 → end_at (length (flow_of p).points) (flow_of p).first id ≤ 65536
  few l = let e = at_end in let k = within 0 p.funcs id f there in omega (arith, e, k, l)

  pub is_entry : unwrap_or (slice_get (flow_of p).first id) 0 ≡ entry p id
  is_entry = unwrap_or-slice_get (flow_of p).first id 0

  pub is_exit : (exit : ℕ) → exit + 1 ≡ end_at (length (flow_of p).points) (flow_of p).first id → exit ≡ exit_of p id f
  is_exit exit h = let e = at_end in let k = is_entry in omega (arith, e, k, h)
