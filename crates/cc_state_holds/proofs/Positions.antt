-- Scalars of objects and locals by their positions: what the keys say that are listed there.
use Rattle.std.proofs.Common.{◌≡◌, ℕ, Bool, true, false, true≢false, List, Some, None, slice_get, refl, ap, sym, ◌∙◌, subst}
use Rattle.std.specs.Prelude.{◌↔◌, IsTrue}
use Rattle.std.proofs.lemmas.Option.{same_Some, none-some}
use Rattle.cc_program.specs.declared.func.Func.{Func}
use Rattle.cc_program.specs.declared.program.Program.{Program}
use Rattle.cc_program.specs.declared.value.Part.{Part}
use Rattle.cc_program.specs.declared.value.Root.{Root}
use Rattle.cc_program.specs.declared.value.Root.TheVariants as root
use Rattle.cc_program.specs.declared.value.Value.{Value}
use Rattle.cc_state.specs.View.{InWhole, StaticAt, LocalOf}
use Rattle.cc_state_reads.specs.CcStateFacts.declared.facts.Facts.{Facts}
use Rattle.cc_state_reads.specs.CcStateFacts.declared.facts.Key.{Key}
use Rattle.cc_state_holds.proofs.LocalKeys.{local_there}
use Rattle.cc_state_holds.proofs.Statics.{object_there}
use Rattle.cc_state_holds.specs.Parts.{IsListedIn, WasLocalIn}
use Rattle.cc_state_reads.specs.CcStateKeys.Keys.{cell_key}
use Rattle.cc_state_reads.specs.CcStateKeys.Paths.{LeadsTo}
use Rattle.cc_state_reads.specs.CcStateOperators.Domains.{Domain}
use Rattle.cc_state_scalars.proofs.Over.{there_is}
use Rattle.cc_state_scalars.specs.Listed.{AreKeysIn, AreStaticKeys, AreLocalKeys}
use Rattle.cc_steps.specs.Step.{cell_position}
use Rattle.cc_state_reads.specs.CcSyntax.Registers.{is_register}

module _ {I : Type 0} (d : Domain I) (p : Program) (facts : Facts I) (n : ℕ) (x : Value) where
  -- the key of each path that leads there
  abbrev pub OfPaths : Root → Type 0
  OfPaths object = (path : List Part) → LeadsTo p object path n → InWhole d p facts (cell_key p object path) x

  pub none_listed : (keys : List Key) → None ≡ slice_get keys n → IsTrue true ↔ IsListedIn d p facts keys n x
  none_listed keys e = ((λ t k at. absurd (none-some k (e ∙ at))), (λ h. refl))

  pub one_listed : (keys : List Key) (key : Key) (b : Bool) → Some key ≡ slice_get keys n → IsTrue b ↔ ((y : Value) → Some x ≡ Some y → InWhole d p facts key y) → IsTrue b ↔ IsListedIn d p facts keys n x
  one_listed keys key b e h =
      ((λ t k at. subst (λ (z : Key). InWhole d p facts z x) (same_Some key k (e ∙ at)) (h.0 t x refl)), (λ w. h.1 (λ y is. subst (λ (z : Value). InWhole d p facts key z) (same_Some x y is) (w key (sym e)))))

  pub listed_by : (object : Root) (keys : List Key) → AreKeysIn p object keys → IsListedIn d p facts keys n x ↔ OfPaths object
  listed_by object keys are =
      ((λ h path leads. h (cell_key p object path) (are.each path n leads)), (λ h k at. let w = are.all n k at in subst (λ (z : Key). InWhole d p facts z x) w.2 (h w.0 w.1)))

  -- ---- of a static object

  module _ (lists : List (List Key)) (listed : AreStaticKeys p p.objects lists) (i : ℕ) where
    pub static_listed : (keys : List Key) → Some keys ≡ slice_get lists i → IsListedIn d p facts keys n x ↔ StaticAt d p facts i n x
    static_listed keys e = listed_by (root.Static i) keys (listed.there i keys (sym e))

    pub no_static : None ≡ slice_get lists i → IsTrue true ↔ StaticAt d p facts i n x
    no_static e = ((λ t path leads. let o = object_there p i path n leads in let l = there_is p.objects lists (sym listed.count) i o.0 o.1 in absurd (none-some l.0 (e ∙ l.1))), (λ h. refl))

  -- ---- of a local of a function

  module _ (g : ℕ) (f : Func) (function : slice_get p.funcs g ≡ Some f) (lists : List (List Key)) (listed : AreLocalKeys p g f.locals lists) (r : ℕ) where
    pub local_listed : (keys : List Key) → Some keys ≡ slice_get lists r → IsListedIn d p facts keys n x ↔ LocalOf d p facts g r n x
    local_listed keys e =
        ((λ h number path leads. (listed_by (root.Auto number g r) keys (listed.there number r keys (sym e))).0 h path leads), (λ h. (listed_by (root.Auto 0 g r) keys (listed.there 0 r keys (sym e))).1 (λ path leads. h 0 path leads)))

    pub no_local : None ≡ slice_get lists r → IsTrue true ↔ LocalOf d p facts g r n x
    no_local e = ((λ t number path leads. let o = local_there p number g r f path n function leads in let l = there_is f.locals lists (sym listed.count) r o.0 o.1 in absurd (none-some l.0 (e ∙ l.1))), (λ h. refl))

-- ---- what was read of a local

module _ {I : Type 0} (d : Domain I) (p : Program) (facts : Facts I) (number g r : ℕ) (path : List Part) (x : Value) where
  pub missing_read : None ≡ slice_get p.funcs g → IsTrue true ↔ WasLocalIn d p facts number g r path x
  missing_read e = ((λ t h at no. absurd (none-some h (e ∙ at))), (λ w. refl))

  module _ (f : Func) (there : slice_get p.funcs g ≡ Some f) where
    pub register_read : true ≡ is_register f r → IsTrue true ↔ WasLocalIn d p facts number g r path x
    register_read e = ((λ t h at no. absurd (true≢false (e ∙ (ap (λ (z : Func). is_register z r) (same_Some f h (sym there ∙ at)) ∙ no)))), (λ w. refl))

    pub other_read : (b : Bool) → false ≡ is_register f r → IsTrue b ↔ LocalOf d p facts g r (cell_position p (root.Auto number g r) path) x → IsTrue b ↔ WasLocalIn d p facts number g r path x
    other_read b e h = ((λ t g at no. h.0 t), (λ w. h.1 (w f there (sym e))))
