-- What facts say about all runs of a program, as sets: which values, flags and levels there may be, and where. What is proved here
-- of runs sees no domain of values and no list of facts.
use Rattle.std.specs.Prelude.{ℕ, Bool}
use Rattle.cc_program.specs.declared.value.Value.{Value}

pub record View : Type 1 where
  -- the static objects that are known by point
  pub tracked : ℕ → Bool
  -- the values of a scalar of a static object, by the object and the scalar's position, and of a local that is no register, by the
  -- function, the local and the position: in the whole run
  pub static_at : ℕ → ℕ → Value → Type 0
  pub local_at : ℕ → ℕ → ℕ → Value → Type 0
  -- the values that a function gives
  pub result : ℕ → Value → Type 0
  -- of a function: main reaches it, where no handler runs; a handler does, and those of which levels, the innermost counting; the levels
  -- at which it runs, which are those of the handlers below it
  pub by_main : ℕ → Type 0
  pub by_handler : ℕ → Type 0
  pub reached_from : ℕ → ℕ → Type 0
  pub runs_at : ℕ → ℕ → Type 0
  -- the levels of the innermost handlers in which a tracked object may be written
  pub written_by : ℕ → ℕ → Type 0
  -- at a point: it is reached; how the flag may be; the values of a register, and of a tracked object; a register and a tracked object
  -- that are the same
  pub reached : ℕ → Type 0
  pub may_be : ℕ → Bool → Type 0
  pub local : ℕ → ℕ → Value → Type 0
  pub cell : ℕ → ℕ → Value → Type 0
  pub same : ℕ → ℕ → ℕ → Type 0

-- what facts say, by its parts
abbrev pub view_of : (ℕ → Bool) → (ℕ → ℕ → Value → Type 0) → (ℕ → ℕ → ℕ → Value → Type 0) → (ℕ → Value → Type 0) → (ℕ → Type 0) → (ℕ → Type 0) → (ℕ → ℕ → Type 0) → (ℕ → ℕ → Type 0) → (ℕ → ℕ → Type 0) →
    (ℕ → Type 0) → (ℕ → Bool → Type 0) → (ℕ → ℕ → Value → Type 0) → (ℕ → ℕ → Value → Type 0) → (ℕ → ℕ → ℕ → Type 0) → View
view_of tracked static_at local_at result by_main by_handler reached_from runs_at written_by reached may_be local cell same = record {
  tracked = tracked;
  static_at = static_at;
  local_at = local_at;
  result = result;
  by_main = by_main;
  by_handler = by_handler;
  reached_from = reached_from;
  runs_at = runs_at;
  written_by = written_by;
  reached = reached;
  may_be = may_be;
  local = local;
  cell = cell;
  same = same;
}
