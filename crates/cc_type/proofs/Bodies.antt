-- What a function's body leaves known, from what each step of its reading leaves.
use Rattle.std.proofs.Common.{◌≡◌, ◌∙◌, ℕ, List, map, length, Ok, ap, sym, subst}
use Rattle.cc_program.specs.CcNum.declared.target.Target.{Target}
use Rattle.cc_program.specs.declared.program.Roles.{Roles}
use Rattle.cc_program.specs.declared.stmt.Stmt.{Stmt}
use Rattle.cc_program.specs.declared.types.CType.{CType}
use Rattle.cc_program.specs.declared.types.Sig.{Sig, out-Sig}
use Rattle.cc_scopes.specs.State.{State, Scope, Name, entered, with_locals}
use Rattle.cc_scopes.specs.Verdicts.{Found, and_then, Checked, checked}
use Rattle.cc_typed_bodies.specs.CcSyntax.Types.{Named}
use Rattle.cc_tree.specs.declared.at.At.{At}
use Rattle.cc_tree.specs.declared.unit.Line.{Line}
use Rattle.cc_type.specs.Functions.{function_defined, function_body_found}
use Rattle.cc_typed_bodies.specs.Lines.{line_here}
use Rattle.cc_typed_bodies.specs.Meanings.{lines_found}
use Rattle.cc_typed_bodies.specs.CcTypedStatements.Jumps.{no_jumps}
use Rattle.cc_typed_bodies.specs.CcTypedStatements.declared.jumps.Jumps.{Jumps}

module _ (target : Target) (roles : Roles) (defined : List Name) (body : List (At Line)) where
  abbrev read : Jumps → CType → State → Found (List Stmt)
  read jumps result s = lines_found jumps (map (line_here target roles defined result) body) s

  abbrev known : State → Found Checked
  known s = Ok (checked, s)

  pub body-defined : (at i params : ℕ) (x : Name) (t result : CType) (sig : Sig) (locals : List Named) (scope : Scope) (jumps : Jumps) (ss : List Stmt) (s with_parameters inside behind left : State) →
      with_parameters ≡ with_locals locals s → inside ≡ entered scope with_parameters → jumps ≡ no_jumps → result ≡ (out-Sig sig).result →
      lines_found jumps (map (line_here target roles defined result) body) inside ≡ Ok (ss, behind) → params ≡ length locals → left ≡ function_defined at i x t sig params ss behind →
      function_body_found target roles defined at x t sig locals scope body (i, s) ≡ Ok (checked, left)
  body-defined at i params x t result sig locals scope jumps ss s with_parameters inside behind left p e j r h n l =
      let h1 = subst (λ (z : State). read jumps result z ≡ Ok (ss, behind)) (e ∙ ap (entered scope) p) h in
      let h2 = subst (λ (z : CType). read jumps z (entered scope (with_locals locals s)) ≡ Ok (ss, behind)) r h1 in
      let h3 = subst (λ (z : Jumps). read z (out-Sig sig).result (entered scope (with_locals locals s)) ≡ Ok (ss, behind)) j h2 in
      ap (λ (m : Found (List Stmt)). and_then m (λ ss b. known (function_defined at i x t sig (length locals) ss b))) h3
      ∙ ap known (ap (λ (k : ℕ). function_defined at i x t sig k ss behind) (sym n) ∙ sym l)
