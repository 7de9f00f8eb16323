-- Boundaries, paths and operands, by what an activation keeps.
use Rattle.std.proofs.Common.{◌≡◌, ◌<◌, ◌≤◌, ◌-◌, ◌+◌, ◌&&◌, ℕ, true, false, List, [], ◌∷◌, ◌++◌, length, map, reverse, take, get_or, Some, None, refl, ap, sym, ◌∙◌}
use Rattle.std.proofs.lemmas.List.{map-append, take_all, take_more, reverse-reverse, reverse-append}
use Rattle.cc_control.specs.Control.{Level as LevelAs, path_of}
use Rattle.cc_control.specs.View.{first_of, level_of, levels_of}
use Rattle.cc_control.specs.declared.level.Level.{Level}
use Rattle.cc_control.specs.declared.phase.Phase.{Phase}
use Rattle.cc_eval.specs.declared.mark.Mark.{Mark}
use Rattle.cc_eval.specs.declared.mark.Mark.TheVariants.{Gave, Did, Chose}
use Rattle.cc_eval.specs.Progress.{operands_of}
use Rattle.cc_program.specs.declared.stmt.Stmt.{Stmt, out-Stmt}
use Rattle.cc_steps.specs.declared.activation.Activation.{Activation}
use Rattle.cc_steps.specs.Runs.{begins_at, begins, is_empty, running_begins}
use Rattle.cc_steps.specs.Step.{worked, worked_at}
use Rattle.cc_steps.specs.View.{active_of, actives_of}
use Rattle.cc_steps.specs.Whole.{position_in}
use Rattle.cc_steps.proofs.StackLemmas.{actives_of-last, actives_of-empty}
use Rattle.cc_steps.proofs.StartLemmas.{map-more}

some_same : {A : Type 0} → {x y : A} → Some x ≡ Some y → x ≡ y
some_same h = cc

pub begins-none : (rest : List Stmt) (phase : Phase) → None ≡ first_of rest → begins rest phase ≡ true
begins-none [] phase h = refl
begins-none (s ∷ rest) phase h = absurd (cc)

pub begins-some : (rest : List Stmt) (phase : Phase) (s : Stmt) → Some s ≡ first_of rest → begins rest phase ≡ begins_at (out-Stmt s) phase
begins-some [] phase s h = absurd (cc)
begins-some (t ∷ rest) phase s h = ap (λ s. begins_at (out-Stmt s) phase) (sym (some_same h))

pub ruleset of_first = (begins-none, begins-some)

pub worked-none : (here : LevelAs) (rest : List Stmt) → None ≡ first_of rest → None ≡ worked_at here rest
worked-none here [] h = refl
worked-none here (s ∷ rest) h = absurd (cc)

pub worked-some : (here : LevelAs) (rest : List Stmt) (s : Stmt) → Some s ≡ first_of rest → worked (out-Stmt s) here.phase ≡ worked_at here rest
worked-some here [] s h = absurd (cc)
worked-some here (t ∷ rest) s h = ap (λ s. worked (out-Stmt s) here.phase) (some_same h)

pub ruleset of_worked = (worked-none, worked-some)

pub running-none : (xs : List Activation) → length xs ≡ 0 → running_begins (actives_of xs) ≡ false
running-none xs h = ap running_begins (actives_of-empty xs h)

pub running-some : (xs : List Activation) (d : Activation) → 0 < length xs →
    running_begins (actives_of xs)
    ≡ (is_empty (active_of (get_or xs (length xs - 1) d)).marks && begins (active_of (get_or xs (length xs - 1) d)).here.rest (active_of (get_or xs (length xs - 1) d)).here.phase)
running-some xs d h = ap running_begins (actives_of-last xs d h)

pub ruleset of_running = (running-none, running-some)

map_reverse : {A B : Type 0} (f : A → B) (xs : List A) → map f (reverse xs) ≡ reverse (map f xs)
map_reverse f [] = refl
map_reverse f (x ∷ xs) =
    ap (map f) (reverse-append (x ∷ []) xs) ∙ map-append f (reverse xs) (x ∷ []) ∙ ap (λ ys. ys ++ f x ∷ []) (map_reverse f xs) ∙ sym (reverse-append (f x ∷ []) (map f xs))

abbrev position_of : LevelAs → ℕ
position_of l = l.position

same_positions : (around : List Level) → map position_of (map level_of around) ≡ map position_in around
same_positions [] = refl
same_positions (l ∷ around) = ap (λ ps. l.position ∷ ps) (same_positions around)

pub path-all : (here : LevelAs) (around : List Level) → path_of (here, levels_of around) ≡ map position_in around ++ here.position ∷ []
unfolding levels_of
path-all here around =
    reverse-append (here.position ∷ []) (map position_of (reverse (map level_of around)))
    ∙ ap (λ ps. reverse ps ++ here.position ∷ []) (map_reverse position_of (map level_of around))
    ∙ ap (λ ps. ps ++ here.position ∷ []) (reverse-reverse (map position_of (map level_of around)) ∙ same_positions around)

pub positions-more : (around : List Level) (i : ℕ) (d : Level) → i < length around → map position_in (take (i + 1) around) ≡ map position_in (take i around) ++ (get_or around i d).position ∷ []
positions-more around i d h = map-more position_in around i d h

-- once all levels around have been gone through
pub path-done : (here : LevelAs) (around : List Level) (i : ℕ) (path : List ℕ) → length around ≤ i → path ≡ map position_in (take i around) ++ here.position ∷ [] → path ≡ path_of (here, levels_of around)
path-done here around i path h e = e ∙ ap (λ (ls : List Level). map position_in ls ++ here.position ∷ []) (take_all i around h) ∙ sym (path-all here around)

pub ruleset of_paths = (positions-more)

operands-append : (xs ys : List Mark) → operands_of (xs ++ ys) ≡ operands_of xs ++ operands_of ys
operands-append [] ys = refl
operands-append (Gave v ∷ xs) ys = ap (λ vs. v ∷ vs) (operands-append xs ys)
operands-append (Did ∷ xs) ys = operands-append xs ys
operands-append (Chose b ∷ xs) ys = operands-append xs ys

pub operands-more : (marks : List Mark) (i : ℕ) (d : Mark) → i < length marks → operands_of (take (i + 1) marks) ≡ operands_of (take i marks) ++ operands_of (get_or marks i d ∷ [])
operands-more marks i d h = ap operands_of (take_more marks i d h) ∙ operands-append (take i marks) (get_or marks i d ∷ [])

pub ruleset of_operands = (operands-more)
