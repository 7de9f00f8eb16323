-- Arrivals that rows give ascend: each row has a later turn than the row before it.
use Rattle.std.proofs.Common.{arith, ◌≡◌, ℕ, Bool, true, false, List, [], ◌∷◌, refl, Option, Some, None}
use Rattle.std.specs.Prelude.{nat_lt, map}
use Rattle.cc_program.specs.declared.func.Func.{Func}
use Rattle.cc_run.specs.declared.arrivals.Written.{Written}
use Rattle.cc_run.specs.Arrivals.{arrival_of, arrivals_from, handler_named, turn_behind}
use Rattle.cc_run.specs.Driven.{turns_ascend}

-- the turn of an arrival that a row gives is later
later_by : (funcs : List Func) (last : ℕ) (w : Written) (x : ℕ × ℕ) (b : Bool) (h : Option ℕ) → nat_lt last w.turn ≡ b → handler_named funcs w.name ≡ h → Some x ≡ arrival_of funcs last (Some w) → nat_lt last x.0 ≡ true
later_by funcs last w x true (Some h) e f k = grind arith
later_by funcs last w x true None e f k = grind arith
later_by funcs last w x false h e f k = grind arith

later : (funcs : List Func) (last : ℕ) (w : Option Written) (x : ℕ × ℕ) → Some x ≡ arrival_of funcs last w → nat_lt last x.0 ≡ true
later funcs last None x e = cc
later funcs last (Some w) x e = later_by funcs last w x (nat_lt last w.turn) (handler_named funcs w.name) refl refl e

pub ascending : (funcs : List Func) (last : ℕ) (xs : List (ℕ × ℕ)) (ws : List (Option Written)) → map Some xs ≡ arrivals_from funcs last ws → turns_ascend last xs ≡ true
ascending funcs last [] ws e = refl
ascending funcs last (x ∷ xs) [] e = cc
ascending funcs last (x ∷ xs) (w ∷ ws) e =
    let first : Some x ≡ arrival_of funcs last w = grind arith in
    let behind : map Some xs ≡ arrivals_from funcs (turn_behind last (Some x)) ws = grind arith in
    rw (later funcs last w x first) (ascending funcs x.0 xs ws behind)

pub ruleset of_ascending = (ascending)
