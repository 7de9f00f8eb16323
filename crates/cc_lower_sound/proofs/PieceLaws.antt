-- Of each expression, in three modes.
use Rattle.std.proofs.Common.{◌≡◌, ◌+◌, ℕ, true, List, [], ◌∷◌, Option, Some, slice_get, refl, ap, ◌∙◌, arith}
use Rattle.cc_lower_expressions.specs.Expressions.{Temps}
use Rattle.cc_lower_expressions.specs.Temporaries.{declared_type}
use Rattle.cc_program.specs.declared.expr.Expr.{Expr}
use Rattle.cc_program.specs.declared.func.Func.{Func}
use Rattle.cc_program.specs.declared.program.Program.{Program}
use Rattle.cc_program.specs.declared.types.CType.{CType}
use Rattle.cc_program.proofs.Each.{Each}
use Rattle.cc_eval.specs.CcSyntax.Effects.{Registers}
use Rattle.cc_eval.specs.CcSyntax.Expressions.{type_of}
use Rattle.cc_eval.specs.CcSyntax.Folding.{is_folded}
use Rattle.cc_eval.specs.CcSyntax.Registers.{is_register}
use Rattle.cc_eval.specs.CcSyntax.Sound.{any_names, IsFuncBy, IsTypedProgram}
use Rattle.cc_eval.specs.CcSyntax.Types.{Named}
use Rattle.cc_eval.specs.CcSyntax.Values.{ValueType, is_scalar}
use Rattle.cc_eval.specs.CcSyntax.Views.{of_program}
use Rattle.cc_lower_sound.specs.Pieces.{Extends, AreDeclared, IsSoundAnywhere, IsTypedOperand, TakesValues, AreRegisters, AreNormal, IsNormalOperand}
use Rattle.cc_lower_sound.proofs.Lowered.{lowered}
use Rattle.cc_lower_sound.proofs.LoweringParts.{low}
use Rattle.cc_lower_sound.proofs.NormalReading.{normal_reading, normal_laws}
use Rattle.cc_lower_sound.proofs.Pieces.{Declared}
use Rattle.cc_lower_sound.proofs.Readings.{IsLowered}
use Rattle.cc_lower_sound.proofs.TypedPrograms.{all_at, standing, declaring}
use Rattle.cc_lower_sound.proofs.TypedReading.{reading, typed_laws, IsTemp}

declared_as : (p : Program) (f : Func) (locals : List Named) (result : CType) (k : ℕ) (ts : Temps) → AreDeclared locals k ts → Declared (IsTemp p f locals result) k ts
declared_as p f locals result k [] h = tt
declared_as p f locals result k (o ∷ ts) h = (λ t e. (h.0.0, h.0.1, h.0.2 ∙ ap declared_type e), declared_as p f locals result (k + 1) ts h.1)

module _ (p : Program) (h : IsTypedProgram p) (i : ℕ) (f : Func) (there : slice_get p.funcs i ≡ Some f) (e : Expr) (t : ValueType) (has : type_of (of_program p) f.locals e ≡ Some t) where
  k : IsFuncBy p any_names f
  k = all_at (IsFuncBy p any_names) p.funcs i f h.funcs there

  module _ (locals : List Named) (result : CType) (more : Extends f.locals locals) where
    typed_pieces : IsLowered p f (reading p f locals result) t (low p f e)
    typed_pieces = lowered p f (reading p f locals result) (typed_laws p f locals result more) (standing p h f k) (declaring p h f k) e t has tt

    pub operand_typed : is_scalar t ≡ true → (later : Registers) (n : ℕ) → AreDeclared locals n ((low p f e).operand later n).temps → IsTypedOperand locals p result t ((low p f e).operand later n)
    operand_typed s later n d =
        let x = (typed_pieces.operand s later).made n tt (declared_as p f locals result n ((low p f e).operand later n).temps d) in
        record { stmts = x.0; own = x.1.0; typed = x.1.1; lacks = x.1.2 }

    pub whole_typed : is_scalar t ≡ true → (o : Option ValueType) (r : ℕ) → TakesValues locals p result r t → (later : Registers) (n : ℕ) → AreDeclared locals n ((low p f e).whole o r later n).temps → Each (IsSoundAnywhere locals p result) ((low p f e).whole o r later n).stmts
    whole_typed s o r takes later n d =
        ((typed_pieces.whole s o r later).made n (record { place = takes.place; to = takes.to; placed = takes.placed; writes = takes.writes; fits = takes.fits }) (declared_as p f locals result n ((low p f e).whole o r later n).temps d)).0

    pub effect_typed : (later : Registers) (n : ℕ) → AreDeclared locals n ((low p f e).effect later n).temps → Each (IsSoundAnywhere locals p result) ((low p f e).effect later n).stmts
    effect_typed later n d = ((typed_pieces.effect later).made n tt (declared_as p f locals result n ((low p f e).effect later n).temps d)).0

  module _ (g : Func) (kept : (r : ℕ) → is_register f r ≡ true → is_register g r ≡ true) (folded : is_folded p.target e ≡ true) where
    registers_as : (n : ℕ) (ts : Temps) → AreRegisters p g n ts → Declared (λ n t. is_register g n ≡ true) n ts
    registers_as n [] d = tt
    registers_as n (o ∷ ts) d = (λ t z. d n (omega arith) (omega arith), registers_as (n + 1) ts (λ m a b. d m (omega arith) (omega arith)))

    normal_pieces : IsLowered p f (normal_reading p f g kept) t (low p f e)
    normal_pieces = lowered p f (normal_reading p f g kept) (normal_laws p f g kept) (λ e t d. refl) (λ x t d e. refl) e t has folded

    pub operand_normal : is_scalar t ≡ true → (later : Registers) (n : ℕ) → AreRegisters p g n ((low p f e).operand later n).temps → IsNormalOperand p g ((low p f e).operand later n)
    operand_normal s later n d =
        let x = (normal_pieces.operand s later).made n tt (registers_as n ((low p f e).operand later n).temps d) in record { stmts = x.0; value = x.1 }

    pub whole_normal : is_scalar t ≡ true → (o : Option ValueType) (r : ℕ) → is_register g r ≡ true → (later : Registers) (n : ℕ) → AreRegisters p g n ((low p f e).whole o r later n).temps → AreNormal p g ((low p f e).whole o r later n).stmts
    whole_normal s o r z later n d = ((normal_pieces.whole s o r later).made n z (registers_as n ((low p f e).whole o r later n).temps d)).0

    pub effect_normal : (later : Registers) (n : ℕ) → AreRegisters p g n ((low p f e).effect later n).temps → AreNormal p g ((low p f e).effect later n).stmts
    effect_normal later n d = ((normal_pieces.effect later).made n tt (registers_as n ((low p f e).effect later n).temps d)).0
