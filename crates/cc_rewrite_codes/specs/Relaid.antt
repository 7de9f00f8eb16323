-- The first values of an object in another order, or with others among them: structure by structure, the members of each as lists.
use Rattle.std.specs.Prelude.{ℕ, zero, suc, List, [], ◌∷◌, ◌++◌, fold, length, slice_get, unwrap_or}
use Rattle.cc_program.specs.declared.types.CType.{CType, fold-CType}
use Rattle.cc_program.specs.declared.types.Shape.TheOpen as shape
use Rattle.cc_program.specs.declared.types.Structure.{Structure}
use Rattle.cc_operands.specs.CcSyntax.Types.{Named}

-- what is made of the first values in a list, and those that are left behind it
abbrev pub Relaid : Type 0 → Type 0
Relaid A = List A → List A × List A

module _ {A : Type 0} where
  abbrev pub scalar : Relaid A
  scalar [] = ([], [])
  scalar (v ∷ vs) = (v ∷ [], vs)

  abbrev pub nothing : Relaid A
  nothing vs = ([], vs)

  abbrev pub both : Relaid A → Relaid A → Relaid A
  both a b vs = ((a vs).0 ++ (b (a vs).1).0, (b (a vs).1).1)

  abbrev pub times : ℕ → Relaid A → Relaid A
  times zero a = nothing
  times (suc n) a = both a (times n a)

  abbrev pub relaid_step : List (Relaid A) → shape.Shape-F (Relaid A) (Relaid A) (Unit {0}) → Relaid A
  relaid_step structures shape.Void = nothing
  relaid_step structures (shape.Int t) = scalar
  relaid_step structures (shape.Pointer to) = scalar
  relaid_step structures (shape.Array of n) = times n of
  relaid_step structures (shape.Struct s) = unwrap_or (slice_get structures s) nothing
  relaid_step structures (shape.Func sig) = nothing

  unfoldable pub relaid_in : List (Relaid A) → CType → Relaid A
  relaid_in structures t = fold-CType (Relaid A) (Relaid A) (Unit {0}) (relaid_step structures) (λ t. t.shape) (λ sig. tt) t

  abbrev pub members_in : List (Relaid A) → List Named → List A → List (List A) × List A
  members_in structures [] vs = ([], vs)
  members_in structures (m ∷ ms) vs =
      let a = relaid_in structures m.1 vs in let b = members_in structures ms a.1 in (a.0 ∷ b.0, b.1)

  -- by what is made of the members of each structure
  module _ (lay : ℕ → List (List A) → List A) where
    abbrev pub laid : ℕ → List (List A) × List A → List A × List A
    laid s x = (lay s x.0, x.1)

    abbrev pub structure_in : List (Relaid A) → Structure → Relaid A
    structure_in before s vs = laid (length before) (members_in before s.members vs)

    unfoldable pub structures_relaid : List Structure → List (Relaid A)
    structures_relaid structures = fold (λ (before : List (Relaid A)) (s : Structure). before ++ structure_in before s ∷ []) [] structures

    abbrev pub relaid : List Structure → CType → List A → List A
    relaid structures t vs = (relaid_in (structures_relaid structures) t vs).0
