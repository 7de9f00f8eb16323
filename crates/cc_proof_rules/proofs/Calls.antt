-- What facts that solve the constraints say of a call: each function that may be called is entered with what is known at the point and with
-- the arguments, and goes back to behind the call with what is known at its exit and with its result.
use Rattle.std.proofs.Common.{arith, ◌≡◌, inl, inr, ℕ, zero, suc, ◌+◌, Bool, true, false, true≢false, List, [], ◌∷◌, ◌++◌, All, Contains, Option, Some, None, slice_get, refl, sym, ap, subst, ◌∙◌}
use Rattle.std.specs.Prelude.{option_and_then}
use Rattle.std.specs.List.{flat_map}
use Rattle.std.proofs.lemmas.List.Elements.{All-head, All-tail}
use Rattle.std.proofs.lemmas.Option.{same_Some, none-some}
use Rattle.cc_rules.specs.CcFlow.declared.types.Point.{Point}
use Rattle.cc_rules.specs.CcFlow.Points.{flow_of}
use Rattle.cc_rules.specs.CcFlowSound.Moves.{entry}
use Rattle.cc_state_values_sound.specs.CcPlaces.declared.abs.Abs.{Abs}
use Rattle.cc_state_values_sound.specs.CcPlaces.Abstract.{IsBelowAbs, HasValue}
use Rattle.cc_program.specs.declared.expr.Expr.{Expr}
use Rattle.cc_program.specs.declared.func.Func.{Func}
use Rattle.cc_program.specs.declared.program.Program.{Program}
use Rattle.cc_program.specs.declared.types.Sig.{Sig, out-Sig}
use Rattle.cc_program.specs.declared.value.Address.TheVariants as address
use Rattle.cc_program.specs.declared.value.Root.TheVariants as root
use Rattle.cc_program.specs.declared.value.Value.{Value}
use Rattle.cc_program.specs.declared.value.Value.TheVariants.{Place}
use Rattle.cc_proof_covers.specs.Invariant.{exit_of, FlowsBack}
use Rattle.cc_proof_covers.specs.Rules.{Opens}
use Rattle.cc_proof_covers.specs.Views.{View}
use Rattle.cc_proof_forms.specs.CallRules.{CallRule}
use Rattle.cc_proof_rules.proofs.Arrivals.{register_there, has_more, arrives, known_flag, known_local, known_cell, with_local_keeps, with_local_has, opens_of}
use Rattle.cc_proof_rules.proofs.CallTypes.{IsTypedCall, callee_typed, function_of_type, parameter_of, parameter_key, result_given}
use Rattle.cc_proof_rules.proofs.Functions.{next_function, entry_function, exit_function}
use Rattle.cc_proof_rules.proofs.Keyed.{local_key_numbered}
use Rattle.cc_proof_rules.proofs.Lists.{no_member, first_or_rest, all_front, all_back}
use Rattle.cc_proof_rules.proofs.Asks.{call_met, back_met, for_one, known_point, fact_flag}
use Rattle.cc_proof_rules.proofs.Numbered.{register_numbered}
use Rattle.cc_proof_rules.specs.Arrivals.{flag_in, HasFlag, IsKnown, Arrives}
use Rattle.cc_proof_rules.specs.Operands.{Holds}
use Rattle.cc_rules.specs.Rules.{act_at, NeedsAt, IsValue, AreValues, AreCalled, ForEach, at_entry, need_whole, other_parameters, Entered, IsResult, OfMain, OfOther, of_exit, IsGiven, ToRegister, ToNone, Returned, FromExit, NoExit, CallAsks, OfEntries, OfReturns, OfNoCall, IsSolution}
use Rattle.cc_rules.specs.CcRulesFlows.Acts.{Act, Calls}
use Rattle.cc_rules.specs.CcRulesFlows.Nexts.{IsPoint, statement_of}
use Rattle.cc_rules.specs.CcRulesNeeds.Flowing.{Flowing, of_fact}
use Rattle.cc_rules.specs.CcRulesNeeds.Needs.{AreValuesBelow, Needs, Has as HasPart, HasAll}
use Rattle.cc_rules.specs.CcRulesNeeds.declared.needs.Part.{Part}
use Rattle.cc_rules.specs.CcRulesNeeds.declared.needs.Part.TheVariants.{Mark, LevelSet, Values}
use Rattle.cc_rules.specs.CcRulesNeeds.declared.needs.Slot.{Slot}
use Rattle.cc_rules.specs.CcRulesNeeds.declared.needs.Slot.TheVariants.{Whole, ByMain, ByHandler, Levels, From}
use Rattle.cc_state.specs.Shape.{HaveShape, IsPointFact}
use Rattle.cc_state.specs.View.{Has, ResultOf, view}
use Rattle.cc_rules.specs.CcStateFacts.declared.facts.Facts.{Facts}
use Rattle.cc_rules.specs.CcStateFacts.declared.facts.Key.TheVariants as key
use Rattle.cc_rules.specs.CcStateFacts.declared.facts.PointFact.{PointFact}
use Rattle.cc_rules.specs.CcStateFacts.Facts.{fact_at, local_of, mark_of, levels_of}
use Rattle.cc_rules.specs.CcStateKeys.Keys.{key_number, cell_key}
use Rattle.cc_rules.specs.CcStateKeys.Tracked.{register_number}
use Rattle.cc_state_values_sound.specs.CcStateOperators.Domains.{Domain}
use Rattle.cc_state_values_sound.proofs.Choices.{GivesAll, below_gives}
use Rattle.cc_state_values_sound.specs.CcSteps.Step.{gives_nothing}
use Rattle.cc_state_values_sound.specs.CcSyntax.Forms.{form_of}
use Rattle.cc_state_values_sound.specs.CcSyntax.Normal.{IsNormal, is_callee}
use Rattle.cc_state_values_sound.specs.CcSyntax.Registers.{is_register}
use Rattle.cc_state_values_sound.specs.CcSyntax.Values.{ValueType, NoValue}

-- the first four of some things, and the others
first_four : {A : Type 0} (P : A → Type 0) (a b c e : A) (rest : List A) → All P (a ∷ b ∷ c ∷ e ∷ rest) → P a × P b × P c × P e × All P rest
first_four P a b c e rest h =
    let t = All-tail P a (b ∷ c ∷ e ∷ rest) h in
    let u = All-tail P b (c ∷ e ∷ rest) t in
    let w = All-tail P c (e ∷ rest) u in
    (All-head P a (b ∷ c ∷ e ∷ rest) h, All-head P b (c ∷ e ∷ rest) t, All-head P c (e ∷ rest) u, All-head P e rest w, All-tail P e rest w)

-- what holds of all that is made of some things holds of what is made of each
flat_part : {A B : Type 0} (P : B → Type 0) (make : A → List B) (xs : List A) (x : A) → All P (flat_map make xs) → Contains xs x → All P (make x)
flat_part P make [] x h c = no_member x c
flat_part P make (y ∷ xs) x h c = elim (first_or_rest y xs x c) [
  | inl e ↦ subst (λ z. All P (make z)) e (all_front P (make y) (flat_map make xs) h)
  | inr r ↦ flat_part P make xs x (all_back P (make y) (flat_map make xs) h) r
]

module _ {I : Type 0} (d : Domain I) (all : GivesAll d) (p : Program) (facts : Facts I) (normal : IsNormal p) (shape : HaveShape d p facts) (solution : IsSolution d p facts)
    (n : ℕ) (q : Point) (f : Func) (fact : PointFact I) (numbered : slice_get (flow_of p).points n ≡ Some q) (function : slice_get p.funcs q.func ≡ Some f) (there : fact_at facts n ≡ Some fact) where
  abbrev v : View
  v = view d p facts

  abbrev point : IsPoint p n q.func f q
  point = record { numbered = numbered; own = refl; function = function }

  known : IsKnown d p facts n f fact
  known = known_point d all p facts solution n q f fact numbered function there

  -- ---- a call at the point

  module _ (fe : Expr) (args : List Expr) (result : Option ℕ) (calls : act_at (statement_of f q) f ≡ Calls result fe args) where
    abbrev Holds-at : Expr → Value → Type 0
    Holds-at e w = Holds d p facts n e w

    abbrev IsArgument : ℕ → Value → Type 0
    IsArgument i w = (arg : Expr) × (slice_get args i ≡ Some arg) × Holds-at arg w

    abbrev Operand : Expr → Abs I → Type 0
    Operand e y = IsValue d p facts n q.func f q fact e y

    abbrev may_call : ℕ → Type 0
    may_call g = Holds-at fe (Place (address.Func g))

    called_among : (gs : List ℕ) → AreCalled d p facts n q.func f q fact fe gs → (g : ℕ) → may_call g → Contains gs g
    called_among gs called g may = (called.called g).1 (may q.func f q point called.operand called.given)

    value_at : (es : List Expr) (ys : List (Abs I)) → AreValues d p facts n q.func f q fact es ys → (i : ℕ) (arg : Expr) → slice_get es i ≡ Some arg → (y : Abs I) × (slice_get ys i ≡ Some y) × Operand arg y
    value_at [] ys h i arg e = absurd (none-some arg e)
    value_at (x ∷ es) ys (y, rest, first, more, is) zero arg e = (y, ap (λ (zs : List (Abs I)). slice_get zs 0) is, subst (λ (z : Expr). Operand z y) (same_Some x arg e) first)
    value_at (x ∷ es) ys (y, rest, first, more, is) (suc i) arg e =
        let r = value_at es rest more i arg e in
        (r.0, ap (λ (zs : List (Abs I)). slice_get zs (suc i)) is ∙ r.1, r.2)

    -- ---- what is asked for a function that may be called

    abbrev entry_needs : List (Abs I) → ℕ → Func → Needs I
    entry_needs ys g callee =
        (ByMain g, Mark (mark_of facts.by_main q.func)) ∷ (ByHandler g, Mark (mark_of facts.by_handler q.func)) ∷ (Levels g, LevelSet (levels_of facts.levels q.func)) ∷ (From g, LevelSet (levels_of facts.from q.func)) ∷
        (NeedsAt d p facts (entry p g) callee (at_entry d p facts n q.func f q fact ys callee) ++ other_parameters d p facts n q.func f q fact g 0 ys)

    -- the values of the arguments, with which it is entered
    record IsEntered (g : ℕ) (callee : Func) : Type 0 where
      pub values : List (Abs I)
      pub are : AreValues d p facts n q.func f q fact args values
      pub had : HasAll d.below (entry_needs values g callee) facts
      pub operand : Abs I
      pub given : Operand fe operand

    same_call : {C : Type 0} (r : Option ℕ) (h : Expr) (es : List Expr) → Calls result fe args ≡ Calls r h es → ((result ≡ r) → (fe ≡ h) → (args ≡ es) → C) → C
    same_call r h es e k = k (let a : result ≡ r = cc in a) (let b : fe ≡ h = cc in b) (let c : args ≡ es = cc in c)

    module _ (g : ℕ) (callee : Func) (is : slice_get p.funcs g ≡ Some callee) (may : may_call g) where
      entered_by : (ys : List (Abs I)) (gs : List ℕ) → AreCalled d p facts n q.func f q fact fe gs → AreValues d p facts n q.func f q fact args ys → (ns : Needs I) → ForEach d p facts n q.func f q fact (Entered d p facts n q.func f q fact ys) gs ns → HasAll d.below ns facts →
          IsEntered g callee
      entered_by ys gs called values ns each has =
          let one = for_one d all p facts solution n q f fact numbered function there (Entered d p facts n q.func f q fact ys) gs ns each has g (called_among gs called g may) in
          let same : one.0 ≡ callee = same_Some one.0 callee (sym one.2 ∙ is) in
          record {
            values = ys;
            are = values;
            had = subst (λ (c : Func). HasAll d.below (entry_needs ys g c) facts) same (subst (λ (ms : Needs I). HasAll d.below ms facts) one.3 one.4);
            operand = called.operand;
            given = called.given;
          }

      entered_of : (act : Act) (ns : Needs I) → act ≡ Calls result fe args → CallAsks d p facts n q.func f q fact true act ns → HasAll d.below ns facts → IsEntered g callee
      entered_of act ns e (OfEntries r h es gs ys entering is_call called values each) has =
          same_call r h es (sym e ∙ is_call) (λ a b c.
          entered_by ys gs (subst (λ (x : Expr). AreCalled d p facts n q.func f q fact x gs) (sym b) called) (subst (λ (xs : List Expr). AreValues d p facts n q.func f q fact xs ys) (sym c) values) ns each has)
      entered_of act ns e (OfReturns r h es gs entering is_call called each) has = absurd (true≢false entering)
      entered_of act ns e (OfNoCall other is) has = absurd (other result fe args e)

      entered : IsEntered g callee
      entered = let met = call_met d all p facts solution n q f fact numbered function there in entered_of (act_at (statement_of f q) f) met.0 calls met.1 met.2

      -- ---- the entry

      abbrev ys : List (Abs I)
      ys = entered.values

      abbrev into : Flowing I
      into = at_entry d p facts n q.func f q fact ys callee

      abbrev entry_list : Needs I
      entry_list = NeedsAt d p facts (entry p g) callee into

      abbrev others_list : Needs I
      others_list = other_parameters d p facts n q.func f q fact g 0 ys

      abbrev PartIn : Slot × Part I → Type 0
      PartIn need = HasPart d.below facts need

      had_four :
          PartIn (ByMain g, Mark (mark_of facts.by_main q.func)) × PartIn (ByHandler g, Mark (mark_of facts.by_handler q.func)) × PartIn (Levels g, LevelSet (levels_of facts.levels q.func)) × PartIn (From g, LevelSet (levels_of facts.from q.func)) ×
          HasAll d.below (entry_list ++ others_list) facts
      had_four =
          first_four PartIn (ByMain g, Mark (mark_of facts.by_main q.func)) (ByHandler g, Mark (mark_of facts.by_handler q.func)) (Levels g, LevelSet (levels_of facts.levels q.func)) (From g, LevelSet (levels_of facts.from q.func)) (entry_list ++ others_list) entered.had

      has_flag : HasFlag (of_fact fact)
      has_flag = fact_flag d all p facts solution shape n q f fact numbered function there

      comes_in : Arrives d p facts (entry p g) callee into
      comes_in = arrives d all p facts (entry p g) callee into (entry_function d p facts g callee is) (all_front PartIn entry_list others_list had_four.4) has_flag

      flag_same : (b : Bool) → flag_in (of_fact fact) b ≡ true → flag_in into b ≡ true
      flag_same true h = h
      flag_same false h = h

      opens : Opens p v q.func n g (entry p g) (v.may_be n)
      opens =
          opens_of d all p facts n q.func g (entry p g) f callee fact into (v.may_be n) known comes_in (λ b h. flag_same b (known_flag d all p facts n f fact known b h)) (λ number. refl) (λ number cell. refl)

      -- ---- the arguments

      argument_value : (i : ℕ) (w : Value) → IsArgument i w → (y : Abs I) × (slice_get ys i ≡ Some y) × HasValue d.has y w
      argument_value i w (arg, at, holds) =
          let one = value_at args ys entered.are i arg at in
          (one.0, one.1, holds q.func f q point one.0 one.2)

      in_registers : (i : ℕ) (w : Value) → is_register callee i ≡ true → IsArgument i w → v.local (entry p g) i w
      in_registers i w register argument =
          let number = register_numbered callee i register in
          let value = argument_value i w argument in
          comes_in.locals i number.0 w number.1
          (value.0, ap (option_and_then (slice_get ys)) (register_there callee i number.0 number.1) ∙ value.1, value.2)

      other_asked : (r : ℕ) (zs : List (Abs I)) → HasAll d.below (other_parameters d p facts n q.func f q fact g r zs) facts → (i j : ℕ) (y : Abs I) (k : ℕ) → slice_get zs i ≡ Some y → j ≡ r + i → key_number p (key.Local g j) ≡ Some k →
          AreValuesBelow d.below (Some y) (slice_get facts.whole k)
      other_asked r [] has i j y k e s number = absurd (none-some y e)
      other_asked r (z ∷ zs) has zero j y k e s number =
          let here : r ≡ j = omega (arith, s) in
          let own = all_front PartIn (need_whole d p facts n q.func f q fact (key_number p (key.Local g r)) z) (other_parameters d p facts n q.func f q fact g (suc r) zs) has in
          let asked : HasAll d.below (need_whole d p facts n q.func f q fact (Some k) z) facts =
          subst (λ (o : Option ℕ). HasAll d.below (need_whole d p facts n q.func f q fact o z) facts) (ap (λ (m : ℕ). key_number p (key.Local g m)) here ∙ number) own in
          subst (λ (x : Abs I). AreValuesBelow d.below (Some x) (slice_get facts.whole k)) (same_Some z y e) (All-head PartIn (Whole k, Values (Some z)) [] asked)
      other_asked r (z ∷ zs) has (suc i) j y k e s number =
          other_asked (suc r) zs (all_back PartIn (need_whole d p facts n q.func f q fact (key_number p (key.Local g r)) z) (other_parameters d p facts n q.func f q fact g (suc r) zs) has) i j y k e (omega (arith, s)) number

      -- ---- what is called, by its type

      module _ (u : ValueType) (call : IsTypedCall p f fe args u) (callee_form : is_callee p.target f (form_of fe) ≡ true) where
        point_fact : IsPointFact d p f fact
        point_fact = shape.point_facts n fact q f (listed (slice_get facts.at n) refl there) numbered function
          where
            listed : (o : Option (Option (PointFact I))) → slice_get facts.at n ≡ o → option_and_then (λ (x : Option (PointFact I)). x) o ≡ Some fact → slice_get facts.at n ≡ Some (Some fact)
            listed None e h = absurd (none-some fact h)
            listed (Some x) e h = e ∙ ap Some h

        its_type : callee.sig ≡ call.sig
        its_type = function_of_type p g callee call.sig is (callee_typed d p facts n q.func f fact there point_fact fe call.sig callee_form call.callee entered.operand entered.given g (may q.func f q point entered.operand entered.given))

        in_others : (i : ℕ) (w : Value) → is_register callee i ≡ false → IsArgument i w → v.local_at g i 0 w
        in_others i w other (arg, at, holds) number path leads =
            let parameter = parameter_of p normal g callee is f fe args u call its_type i arg at in
            let own : cell_key p (root.Auto number g i) path ≡ key.Local g i = parameter_key p g callee is i parameter number path 0 leads in
            let found = local_key_numbered p number g i path 0 callee is other leads in
            let k : key_number p (key.Local g i) ≡ Some found.0 = ap (key_number p) (sym own) ∙ found.1 in
            let value = argument_value i w (arg, at, holds) in
            let asked = other_asked 0 ys (all_back PartIn entry_list others_list had_four.4) i i value.0 found.0 value.1 (omega arith) k in
            let held : Has d p facts (slice_get facts.whole found.0) w = has_more d all p facts (Some value.0) (slice_get facts.whole found.0) w asked (value.0, refl, value.2) in
            subst (λ (o : Option ℕ). Has d p facts (option_and_then (slice_get facts.whole) o) w) (sym found.1) held

        result_there : (u ≡ NoValue → ⊥) → gives_nothing (Some callee) ≡ false
        result_there some = ap (λ (s : Sig). gives_nothing (Some (record callee { sig = s }))) its_type ∙ result_given (out-Sig call.sig).result u call.result some

        -- ---- behind the call

        module _ (k : ℕ) (next : Contains q.next k) (exit : PointFact I) (exit_there : fact_at facts (exit_of p g callee) ≡ Some exit) where
          abbrev back_flow : Flowing I → Flowing I
          back_flow flow = of_exit d p facts n q.func f q fact exit flow

          exit_known : IsKnown d p facts (exit_of p g callee) callee exit
          exit_known = record { function = exit_function d p facts g callee is; there = exit_there }

          exit_flag : HasFlag (of_fact exit)
          exit_flag = let at = exit_function d p facts g callee is in fact_flag d all p facts solution shape (exit_of p g callee) at.0 callee exit at.1 at.2 exit_there

          module _ (flow : Flowing I) (comes : Arrives d p facts k f (back_flow flow)) where
            back_flag : (b : Bool) → flag_in (of_fact exit) b ≡ true → flag_in (back_flow flow) b ≡ true
            back_flag true h = h
            back_flag false h = h

            -- the registers of the caller
            kept : (r number : ℕ) (x : Value) → (result ≡ Some r → ⊥) → register_number f r ≡ Some number → Has d p facts (local_of fact number) x → IsGiven d p facts n q.func f q fact result g callee flow → Has d p facts (flow.local number) x
            kept r number x other e h (ToRegister s m y is_result is_number gives is_flow) =
                subst (λ (z : Flowing I). Has d p facts (z.local number) x) (sym is_flow)
                ((with_local_keeps d all p facts f fact s m is_number y).locals r number x (λ same. other (is_result ∙ same)) e h)
            kept r number x other e h (ToNone is_result is_flow) = subst (λ (z : Flowing I). Has d p facts (z.local number) x) (sym is_flow) h

            -- the result
            more : (x y : Abs I) (w : Value) → IsBelowAbs d.below x y → HasValue d.has x w → HasValue d.has y w
            more x y w h k = below_gives d all x y (Some w) h k

            given : (y : Abs I) (x : Value) → ResultOf d p facts g x → IsResult d p facts n q.func f q fact g callee y → HasValue d.has y x
            given y x (inl (z, set, has)) (OfMain w none_given main gives set' only alike above above_zero least) = more w y x above (subst (λ (o : Abs I). HasValue d.has o x) (same_Some z w (sym set ∙ set')) has)
            given y x (inl (z, set, has)) (OfOther other set') = subst (λ (o : Abs I). HasValue d.has o x) (same_Some z y (sym set ∙ set')) has
            given y x (inr (main, gives, none)) (OfMain w none_given main' gives' set' (o, is_zero, has, only) alike above above_zero least) =
                more none_given y x above_zero (subst (λ (a : Abs I). HasValue d.has a x) (sym (same_Some none_given o is_zero)) (subst (λ (a : Value). HasValue d.has o a) (sym none) has))
            given y x (inr (main, gives, none)) (OfOther other set') = absurd (true≢false (sym (other main) ∙ sym (ap gives_nothing is) ∙ gives))

            given_at : (r : ℕ) (x : Value) → result ≡ Some r → ResultOf d p facts g x → IsGiven d p facts n q.func f q fact result g callee flow → v.local k r x
            given_at r x e h (ToRegister s m y is_result is_number gives is_flow) =
                let same : s ≡ r = same_Some s r (sym is_result ∙ e) in
                comes.locals r m x (ap (register_number f) (sym same) ∙ is_number)
                (subst (λ (z : Flowing I). Has d p facts (z.local m) x) (sym is_flow) (with_local_has d all p facts f fact s m is_number y x (given y x h gives)))
            given_at r x e h (ToNone is_result is_flow) = absurd (none-some r (sym is_result ∙ e))

            flows_back : IsGiven d p facts n q.func f q fact result g callee flow → FlowsBack p v f n k g (exit_of p g callee) result
            flows_back is_given = record {
              reached = comes.reached;
              flags = λ b h. comes.flags b (back_flag b (known_flag d all p facts (exit_of p g callee) callee exit exit_known b h));
              cells = λ i x h. (let c = known_cell d all p facts (exit_of p g callee) callee exit exit_known i x h in comes.cells i c.0 x c.1 c.2);
              locals = λ r x other h. (let l = known_local d all p facts n f fact known r x h in comes.locals r l.0 x l.1 (kept r l.0 x other l.1 l.2 is_given));
              given = λ r x e h. given_at r x e h is_given;
              sames = λ r i h. (let c = comes.pairs r i h in true≢false (sym c.4));
            }

          back_by : (ns : Needs I) → Returned d p facts n q.func f q fact result g callee ns → HasAll d.below ns facts → FlowsBack p v f n k g (exit_of p g callee) result
          back_by ns (FromExit other flow at is_given is_list) has =
              let same : other ≡ exit = same_Some other exit (sym at ∙ exit_there) in
              let listed : HasAll d.below (flat_map (λ k. NeedsAt d p facts k f (back_flow flow)) q.next) facts =
              subst (λ (e : PointFact I). HasAll d.below (flat_map (λ k. NeedsAt d p facts k f (of_exit d p facts n q.func f q fact e flow)) q.next) facts) same (subst (λ (ms : Needs I). HasAll d.below ms facts) is_list has) in
              flows_back flow
              (arrives d all p facts k f (back_flow flow) (next_function d p facts n q f numbered function k next) (flat_part PartIn (λ k. NeedsAt d p facts k f (back_flow flow)) q.next k listed next) exit_flag) is_given
          back_by ns (NoExit none is_list) has = absurd (none-some exit (sym none ∙ exit_there))

          back_each : (gs : List ℕ) → AreCalled d p facts n q.func f q fact fe gs → (ns : Needs I) → ForEach d p facts n q.func f q fact (Returned d p facts n q.func f q fact result) gs ns → HasAll d.below ns facts → FlowsBack p v f n k g (exit_of p g callee) result
          back_each gs called ns each has =
              let one = for_one d all p facts solution n q f fact numbered function there (Returned d p facts n q.func f q fact result) gs ns each has g (called_among gs called g may) in
              let same : one.0 ≡ callee = same_Some one.0 callee (sym one.2 ∙ is) in
              back_by one.1 (subst (λ (c : Func). Returned d p facts n q.func f q fact result g c one.1) same one.3) one.4

          back_of : (act : Act) (ns : Needs I) → act ≡ Calls result fe args → CallAsks d p facts n q.func f q fact false act ns → HasAll d.below ns facts → FlowsBack p v f n k g (exit_of p g callee) result
          back_of act ns e (OfEntries r h es gs zs entering is_call called values each) has = absurd (true≢false (sym entering))
          back_of act ns e (OfReturns r h es gs entering is_call called each) has =
              same_call r h es (sym e ∙ is_call) (λ a b c.
              back_each gs (subst (λ (x : Expr). AreCalled d p facts n q.func f q fact x gs) (sym b) called) ns
              (subst (λ (o : Option ℕ). ForEach d p facts n q.func f q fact (Returned d p facts n q.func f q fact o) gs ns) (sym a) each) has)
          back_of act ns e (OfNoCall other is) has = absurd (other result fe args e)

          back : FlowsBack p v f n k g (exit_of p g callee) result
          back = let met = back_met d all p facts solution n q f fact numbered function there in back_of (act_at (statement_of f q) f) met.0 calls met.1 met.2

        -- ---- the whole

        pub call_rule : (k : ℕ) → Contains q.next k → ((r : ℕ) → result ≡ Some r → u ≡ NoValue → ⊥) → CallRule p v q.func f n k IsArgument g callee result
        call_rule k next some = record {
          back = λ reached. back k next reached.0 reached.1;
          gives = λ r e. result_there (some r e);
          opens = opens;
          by_main = λ h. had_four.0 h;
          by_handler = λ h. had_four.1 h;
          from = λ l h. (had_four.1 h.0, (h.1.0, had_four.3 l h.1.1));
          levels = λ l h. had_four.2 l h;
          registers = in_registers;
          others = in_others;
        }
