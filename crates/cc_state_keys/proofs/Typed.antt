-- What a typed program has fewer than 2 ^ 32 of.
use Rattle.std.proofs.Common.{arith, ◌≡◌, ◌<◌, ◌^◌, ℕ, true, length, get_or}
use Rattle.std.specs.List.{All}
use Rattle.cc_program.specs.declared.func.Func.{Func}
use Rattle.cc_program.specs.declared.program.Program.{Program}
use Rattle.cc_eval.specs.CcSyntax.Sizes.{AreSized}
use Rattle.cc_eval.specs.CcSyntax.Sound.{have_ids, any_names, IsTypedProgram}
use Rattle.cc_eval.specs.CcSyntax.Types.{AreShort}
use Rattle.cc_eval.proofs.CcSyntax.StructureLemmas.{structures_sized_by}

few : (n : ℕ) → have_ids n ≡ true → n < 2 ^ 32
few n h = grind arith

module _ (p : Program) (typed : IsTypedProgram p) where
  pub sized : AreSized p.structures p.target
  sized = structures_sized_by (length p.structures) p.target any_names p.structures typed.structures

  pub few-structures : length p.structures < 2 ^ 32
  few-structures = few (length p.structures) typed.few_structures

  pub few-objects : length p.objects < 2 ^ 32
  few-objects = few (length p.objects) typed.few_objects

  pub few-funcs : length p.funcs < 2 ^ 32
  few-funcs = few (length p.funcs) typed.few_funcs

  pub few-locals : All (λ (f : Func). length f.locals < 2 ^ 32) p.funcs
  few-locals k d b = few (length (get_or p.funcs k d).locals) (typed.funcs k d b).few

  pub few-members : AreShort p.structures
  few-members = sized.short
