-- Returns, by what the stack has.
use Rattle.std.proofs.Common.{arith, ◌≡◌, ◌<◌, ◌-◌, ℕ, Bool, true, false, map, reverse, if◌then◌else◌, List, [], ◌∷◌, length, length-take, slice_set, take, get_or, refl, ap, sym, ◌∙◌}
use Rattle.std.proofs.Math.Seq.{take-set-lt}
use Rattle.std.proofs.lemmas.List.{get_or-take, set-get_or, map-set}
use Rattle.cc_eval.specs.declared.mark.Mark.{Mark}
use Rattle.cc_program.specs.declared.program.Program.{Program}
use Rattle.cc_program.specs.declared.value.Value.{Value}
use Rattle.cc_steps.specs.declared.activation.Activation.{Activation}
use Rattle.cc_steps.specs.declared.event.End.TheVariants.{Exit}
use Rattle.cc_steps.specs.State.{Active, State}
use Rattle.cc_steps.specs.Step.{marked, stopped, with_stack, with_flag, number_in, on_top, return_mark, returned}
use Rattle.cc_steps.specs.View.{active_of, actives_of, returned_first}
use Rattle.cc_steps.proofs.StackLemmas.{actives_of-last, actives_of-empty, actives_of-set}

fewer : (xs : List Activation) → 0 < length xs → length (take (length xs - 1) xs) ≡ length xs - 1
fewer xs h = length-take (length xs - 1) xs ∙ omega (arith, h)

pub returned-only : (p : Program) (s : State) (xs : List Activation) (d : Activation) (v : Value) → length xs ≡ 1 → returned_first p s (actives_of xs) v ≡ stopped (with_stack s []) (Exit (number_in v))
returned-only p s xs d v h =
    let some : 0 < length xs = omega (arith, h) in
    let none : actives_of (take (length xs - 1) xs) ≡ [] = actives_of-empty (take (length xs - 1) xs) (fewer xs some ∙ omega (arith, h)) in
    ap (λ stack. returned_first p s stack v) (actives_of-last xs d some) ∙ ap (λ below. returned p s (active_of (get_or xs (length xs - 1) d)) below v) none

to_caller : (p : Program) (s : State) (a b : Active) (below stack : List Active) (v : Value) → stack ≡ b ∷ below →
    returned p s a stack v ≡ (if a.handler then with_flag (with_stack s stack) true else with_stack s (on_top p stack (return_mark p a.func v)))
to_caller p s a b below stack v e = rw e refl

returned-caller : (p : Program) (s : State) (xs : List Activation) (d : Activation) (v : Value) → 1 < length xs →
    returned_first p s (actives_of xs) v
    ≡ (if (get_or xs (length xs - 1) d).handler then with_flag (with_stack s (actives_of (take (length xs - 1) xs))) true else with_stack s (on_top p (actives_of (take (length xs - 1) xs)) (return_mark p (get_or xs (length xs - 1) d).func v)))
returned-caller p s xs d v h =
    let some : 0 < length xs = omega (arith, h) in
    let ys = take (length xs - 1) xs in
    let more : 0 < length ys = omega (arith, h, fewer xs some) in
    let a = get_or xs (length xs - 1) d in
    ap (λ stack. returned_first p s stack v) (actives_of-last xs d some)
    ∙ to_caller p s (active_of a) (active_of (get_or ys (length ys - 1) d)) (actives_of (take (length ys - 1) ys)) (actives_of ys) v (actives_of-last ys d more)

pub returned-handler : (p : Program) (s : State) (xs : List Activation) (d : Activation) (v : Value) → 1 < length xs → (get_or xs (length xs - 1) d).handler ≡ true →
    returned_first p s (actives_of xs) v ≡ with_flag (with_stack s (actives_of (take (length xs - 1) xs))) true
returned-handler p s xs d v h k =
    returned-caller p s xs d v h
    ∙ ap (λ (b : Bool). if b then with_flag (with_stack s (actives_of (take (length xs - 1) xs))) true else with_stack s (on_top p (actives_of (take (length xs - 1) xs)) (return_mark p (get_or xs (length xs - 1) d).func v))) k

pub returned-value : (p : Program) (s : State) (xs : List Activation) (d : Activation) (v : Value) → 1 < length xs → (get_or xs (length xs - 1) d).handler ≡ false →
    returned_first p s (actives_of xs) v ≡ with_stack s (on_top p (actives_of (take (length xs - 1) xs)) (return_mark p (get_or xs (length xs - 1) d).func v))
returned-value p s xs d v h k =
    returned-caller p s xs d v h
    ∙ ap (λ (b : Bool). if b then with_flag (with_stack s (actives_of (take (length xs - 1) xs))) true else with_stack s (on_top p (actives_of (take (length xs - 1) xs)) (return_mark p (get_or xs (length xs - 1) d).func v))) k

pub none-below : (xs : List Activation) → length xs ≡ 1 → actives_of (take (length xs - 1) xs) ≡ []
none-below xs h = let some : 0 < length xs = omega (arith, h) in actives_of-empty (take (length xs - 1) xs) (fewer xs some ∙ omega (arith, h))

-- one that stays as it is
pub kept : (xs : List Activation) (i : ℕ) (old new : Activation) → old ≡ get_or xs i old → active_of new ≡ active_of old → actives_of (slice_set xs i new) ≡ actives_of xs
unfolding actives_of
kept xs i old new e k =
    ap reverse (
    map-set active_of xs i new ∙ ap (slice_set (map active_of xs) i) (k ∙ ap active_of e) ∙ sym (map-set active_of xs i (get_or xs i old)) ∙ ap (map active_of) (set-get_or xs i old)
    )

-- the caller is the last of those below
pub answered : (p : Program) (xs : List Activation) (old new : Activation) (m : Mark) → 1 < length xs → old ≡ get_or xs (length xs - 2) old → active_of new ≡ marked p (active_of old) m →
    actives_of (take (length xs - 1) (slice_set xs (length xs - 2) new)) ≡ on_top p (actives_of (take (length xs - 1) xs)) m
answered p xs old new m h e k =
    let some : 0 < length xs = omega (arith, h) in
    let ys = take (length xs - 1) xs in
    let less : length ys ≡ length xs - 1 = fewer xs some in
    let more : 0 < length ys = omega (arith, h, less) in
    let there : length ys - 1 ≡ length xs - 2 = omega (arith, less) in
    let below = actives_of (take (length ys - 1) ys) in
    let these : actives_of (take (length xs - 1) (slice_set xs (length xs - 2) new)) ≡ active_of new ∷ below =
    ap actives_of (take-set-lt (length xs - 1) xs (length xs - 2) new (omega (arith, h)))
    ∙ ap (λ i. actives_of (slice_set ys i new)) (sym there) ∙ actives_of-set ys new more in
    let caller : get_or ys (length ys - 1) old ≡ old = ap (λ i. get_or ys i old) there ∙ get_or-take (length xs - 1) xs (length xs - 2) old (omega (arith, h)) ∙ sym e in
    let those : on_top p (actives_of ys) m ≡ marked p (active_of old) m ∷ below =
    ap (λ stack. on_top p stack m) (actives_of-last ys old more) ∙ ap (λ (x : Activation). marked p (active_of x) m ∷ below) caller in
    these ∙ ap (λ (a : Active). a ∷ below) k ∙ sym those

pub ruleset of_answers = (answered, kept)

pub ruleset of_returns = (actives_of-empty, none-below, returned-only)

pub ruleset of_callers = (returned-handler, returned-value)
