-- From what the parts answer of a program to the texts that are written of it, or to why none are.
use Rattle.std.proofs.Common.{◌≡◌, ◌∙◌, ◌≤◌, ◌<◌, ℕ, true, List, [], ◌∷◌, length, Option, Some, None, IfSome, Result, Ok, Err, IfOk, IfErr, refl, ap, sym, subst, arith}
use Rattle.std.specs.Prelude.{◌≢◌}
use Rattle.cc_cost.specs.declared.profile.Profile.{Profile}
use Rattle.cc_layout.specs.Seats.{ram}
use Rattle.cc_lower.specs.Lowered.{HasIds}
use Rattle.cc_material.proofs.LimitLaws.{lt-true, above-over}
use Rattle.cc_material.specs.Material.{is_refusal}
use Rattle.cc_material.specs.Programs.{IsAbove, IsProgram, IsWithin}
use Rattle.cc_packing.specs.Ends.{ProgramEnds, TextsEnd, NotPacked, AboveLimit, LongText, is_pack_refusal}
use Rattle.cc_packing.specs.Headline.{AreMade, IsPackable, IsPackedText, output_of}
use Rattle.cc_packing.specs.Written.{AreTextsOf}
use Rattle.cc_packing.specs.declared.outputs.Texts.{Texts}
use Rattle.cc_print.specs.Printed.{text}
use Rattle.cc_program.specs.declared.program.Program.{Program}
use Rattle.cc_read.specs.Texts.{Reads}
use Rattle.cc_status.specs.declared.status.Status.{Status}
use Rattle.cc_status.specs.declared.status.Status.TheVariants as status
use Rattle.cc_status.specs.declared.status.What.{What}
use Rattle.cc_status.specs.declared.status.What.TheVariants as what
use Rattle.cc_states.specs.CcSteps.Runs.{Follows, Answers}
use Rattle.cc_states.proofs.CcSyntax.StructureLemmas.{sound_sizes}
use Rattle.cc_states.specs.CcSyntax.Layout.{HasSizes}
use Rattle.cc_states.specs.CcSyntax.Normal.{IsNormal}
use Rattle.cc_states.specs.CcSyntax.Sound.{IsSound}
use Rattle.cc_table.specs.Table.{table_text}

-- ---- the texts that are written of a program in normal form

pub sizes : (p : Program) → IsNormal p → HasSizes p
sizes p h = sound_sizes p h.sound

pub sizes_of_sound : (p : Program) → IsSound p → HasSizes p
sizes_of_sound p h = sound_sizes p h

module _ (q : Program) where
  pub texts-of : IsNormal q → Reads (text q ∷ []) q.target q.roles q → (bytes rows : List ℕ) (before taken : ℕ) → bytes ≡ text q → length bytes ≤ 16777216 → taken ≡ ram q → rows ≡ table_text before taken → AreTextsOf before q bytes rows
  texts-of n h bytes rows before taken e l r t =
      record { normal = n; printed = e; short = subst (λ b. length b ≤ 16777216) e l; reads_back = h; tabled = t ∙ ap (table_text before) r }

  pub long_text : (bytes : List ℕ) (n : ℕ) → n ≡ length bytes → bytes ≡ text q → 16777216 < n → (status.Limit what.Out n ≡ status.Limit what.Out (length (text q))) × (16777216 < length (text q))
  long_text bytes n e t h =
      let same : n ≡ length (text q) = e ∙ ap length t in (ap (status.Limit what.Out) same, subst (λ m. 16777216 < m) same h)

-- ---- and of the program that was lowered to it

module _ (p : Program) where
  pub packed-by : (r : Result Texts Status) (before : ℕ) (q : Program) → q ≡ output_of p → before ≡ ram p → IfOk r (λ t. AreTextsOf before q t.out.items t.table.items) →
      Follows (output_of p) p → Answers (output_of p) p → ram (output_of p) ≡ ram p → (output_of p).target ≡ p.target → (output_of p).roles ≡ p.roles → IfOk r (λ t. IsPackedText p.target p.roles p t.out.items t.table.items)
  packed-by (Err s) before q e b h f a r t o = tt
  packed-by (Ok x) before q e b h f a r t o = of_it (subst (λ q. AreTextsOf before q x.out.items x.table.items) e h)
    where
      of_it : AreTextsOf before (output_of p) x.out.items x.table.items → IsPackedText p.target p.roles p x.out.items x.table.items
      of_it k = record {
        normal = k.normal;
        printed = k.printed;
        reads_back = subst (λ b. Reads (b ∷ []) p.target p.roles (output_of p)) (sym k.printed)
            (subst (λ z. Reads (text (output_of p) ∷ []) z p.roles (output_of p)) t (subst (λ z. Reads (text (output_of p) ∷ []) (output_of p).target z (output_of p)) o k.reads_back));
        is_packed = record { follows = f; answers = a; ram = omega (arith, r) };
        tabled = k.tabled ∙ ap (λ n. table_text n (ram (output_of p))) b;
      }

  -- it is in normal form, as the source is folded and accesses its devices
  pub normal-by : (q : Program) → q ≡ output_of p → HasIds p → (HasIds p → IsNormal (output_of p)) → IsNormal q
  normal-by q e ids law = subst IsNormal (sym e) (law ids)

  pub packable-by : (r : Result Texts Status) (before : ℕ) (q : Program) → q ≡ output_of p → IsWithin p → IfOk r (λ t. AreTextsOf before q t.out.items t.table.items) → IfOk r (λ t. IsPackable p)
  packable-by (Err s) before q e w h = tt
  packable-by (Ok x) before q e w h = of_it (subst (λ q. AreTextsOf before q x.out.items x.table.items) e h)
    where
      of_it : AreTextsOf before (output_of p) x.out.items x.table.items → IsPackable p
      of_it k = record { within = w; short = k.short }

  -- why none are written
  pub ends-by : (r : Result Texts Status) (q : Program) → q ≡ output_of p → IsWithin p → IfErr r (λ s. s ≢ status.NoMemory → (s ≡ status.Limit what.Out (length (text q))) × (16777216 < length (text q))) → IfErr r (λ s. s ≢ status.NoMemory → ProgramEnds p s)
  ends-by (Ok x) q e within h = tt
  ends-by (Err s) q e within h = λ n. let long = subst (λ q. (s ≡ status.Limit what.Out (length (text q))) × (16777216 < length (text q))) e (h n) in subst (ProgramEnds p) (sym long.0) (LongText within long.1)

-- a program above a limit is not packed
is_above : (p : Program) (limit : Option (What × ℕ)) (w : What) (n : ℕ) → limit ≡ Some (w, n) → IfSome limit (λ l. IsAbove p l.0 l.1) → IsAbove p w n
is_above p limit w n e h = subst (λ l. IfSome l (λ l. IsAbove p l.0 l.1)) e h

pub limit-ends : (p : Program) (limit : Option (What × ℕ)) (w : What) (n : ℕ) → limit ≡ Some (w, n) → IfSome limit (λ l. IsAbove p l.0 l.1) → ProgramEnds p (status.Limit w n)
limit-ends p limit w n e h = AboveLimit w n (is_above p limit w n e h)

pub limit-refuses : (p : Program) (limit : Option (What × ℕ)) (w : What) (n : ℕ) → limit ≡ Some (w, n) → IfSome limit (λ l. IsAbove p l.0 l.1) → is_pack_refusal (status.Limit w n) ≡ true
limit-refuses p limit w n e h = above-over p w n (is_above p limit w n e h)

pub over-out : (n : ℕ) → 16777216 < n → is_pack_refusal (status.Limit what.Out n) ≡ true
over-out n h = lt-true 16777216 n h

-- what refuses before a program is read refuses packing
pub pack-refusal : (s : Status) → is_refusal s ≡ true → is_pack_refusal s ≡ true
pack-refusal status.Done h = h
pack-refusal (status.Usage word) h = h
pack-refusal (status.ReadFault name) h = h
pack-refusal (status.TooLong name) h = h
pack-refusal (status.Refused name w) h = h
pack-refusal (status.Profile e) h = h
pack-refusal (status.Inputs row) h = h
pack-refusal (status.Arrivals row) h = h
pack-refusal (status.Limit w n) h = absurd (cc)
pack-refusal (status.WriteFault name) h = h
pack-refusal status.NoMemory h = h

pub ruleset of_programs = (sizes, sizes_of_sound, over-out)

-- ---- sources

module _ (profile : Profile) (texts : List (List ℕ)) (p : Program) (h : IsProgram profile texts p) where
  -- what is read has the profile's target and roles
  packed-for : (bytes rows : List ℕ) → IsPackedText p.target p.roles p bytes rows → IsPackedText profile.target profile.roles p bytes rows
  packed-for bytes rows k =
      subst (λ t. IsPackedText t profile.roles p bytes rows) (ap (λ (q : Program). q.target) h.reads.linked.is) (subst (λ r. IsPackedText p.target r p bytes rows) (ap (λ (q : Program). q.roles) h.reads.linked.is) k)

  pub are-made : (r : Result Texts Status) → IfOk r (λ _. IsPackable p) → IfOk r (λ t. IsPackedText p.target p.roles p t.out.items t.table.items) → IfOk r (λ t. AreMade profile texts t.out.items t.table.items)
  are-made (Ok t) k o = record { read = p; is_program = h; packable = k; output = packed-for t.out.items t.table.items o }
  are-made (Err s) k o = tt

  pub not-packed : (names : List (List ℕ)) (r : Result Texts Status) → IfErr r (λ s. s ≢ status.NoMemory → ProgramEnds p s) → IfErr r (λ s. s ≢ status.NoMemory → TextsEnd names profile texts s)
  not-packed names (Ok t) e = tt
  not-packed names (Err s) e = λ n. NotPacked p s h (e n)
