-- Whether a pure expression reads a local. Of one that is not pure it is not asked: all locals are taken to be read in it.
use Rattle.std.specs.Prelude.{ℕ, ◌==◌, Bool, true, false, ◌||◌}
use Rattle.cc_program.specs.declared.expr.Expr.{Expr, fold-Expr}
use Rattle.cc_program.specs.declared.expr.Expr.TheOpen as one
use Rattle.cc_program.specs.declared.expr.Place.{Place, fold-Place}

-- of a place: whether it is the local, and whether an operand in it reads the local
pub record PlaceReads : Type 0 where
  pub is_local : Bool
  pub reads : Bool

module _ (local : ℕ) where
  abbrev pub read_step : one.Expr-F Bool PlaceReads → Bool
  read_step (one.Const n t) = false
  read_step (one.Null t) = false
  read_step (one.FuncAddr f) = false
  read_step (one.Load a) = a.is_local || a.reads
  read_step (one.AddrOf a) = a.reads
  read_step (one.Un o t a) = a
  read_step (one.Bin o t a b) = a || b
  read_step (one.Conv t a) = a
  read_step (one.Qualify t a) = a
  read_step (one.Move a b back) = a || b
  read_step (one.Gap a b) = a || b
  read_step (one.Compare o a b) = a || b
  read_step (one.Both a b) = a || b
  read_step (one.Either a b) = a || b
  read_step (one.Choose c a b) = c || (a || b)
  read_step (one.Assign a e) = true
  read_step (one.Change a o t e) = true
  read_step (one.After a down) = true
  read_step (one.Call f args) = true
  read_step (one.Intr i a) = true
  read_step (one.Seq a b) = true

  abbrev pub place_read_step : one.Place-F Bool PlaceReads → PlaceReads
  place_read_step (one.Local r) = record { is_local = r == local; reads = false }
  place_read_step (one.Static i) = record { is_local = false; reads = false }
  place_read_step (one.Device d) = record { is_local = false; reads = false }
  place_read_step (one.Element a i) = record { is_local = false; reads = a.reads || i }
  place_read_step (one.Member a m) = record { is_local = false; reads = a.reads }
  place_read_step (one.Deref e) = record { is_local = false; reads = e }

  unfoldable pub reads : Expr → Bool
  reads e = fold-Expr Bool PlaceReads read_step place_read_step e

  unfoldable pub place_reads : Place → PlaceReads
  place_reads a = fold-Place Bool PlaceReads read_step place_read_step a
