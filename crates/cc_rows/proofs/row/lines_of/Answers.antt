use Rattle.std.proofs.Common.{Bor, List, ℕ, ◌≡◌, ◌∙◌, sym, refl, rules, inl, inr, true, ap, map, Some, ◌∷◌, ◌++◌, []}
use Rattle.std.specs.Result.{is_ok}
use Rattle.std.proofs.lemmas.List.{map-append}
use Rattle.csv.specs.Reading.{AreRecords, Reached, default_config, error_kind, stops_reader, strip_bom}
use Rattle.csv.specs.Records.{fields_of}
use Rattle.csv.specs.declared.parser.State.TheVariants as st
use Rattle.csv.proofs.ReadFacts.{rows-end, rows-more}
use Rattle.cc_rows.proofs.RowLemmas.{only-stopped, rows-are, rows-few, lines-few}
use Rattle.cc_rows.proofs.row.lines_of.Goals as goal

pub loop-row-init : goal.loop-row-init
unfolding Reached
loop-row-init g c =
    let fr = c.from_reader-reader.ensures in
    let e = c.has_headers.ensures in
    let f = c.flexible.ensures in
    let start = c.into_iter-row-iterator.ensures.into_iter_gives ∙ refl in
    let rdr = c.byte_records-row-items.ensures.rdr in
    let left = c.byte_records-row-items.ensures.left in
    rw (start, rdr, c.new-lines.ensures.items) (
      rw (f, e) at fr.trim ∙ c.new.ensures.trim,
      inr (inr (rw (f, e) at fr.has_headers, fr.headers)),
      left,
      rw (f, e) at fr.config ∙ c.new.ensures.config,
      strip_bom c.args.text.now,
      fr.source,
      [],
      (sym fr.state, refl),
      refl,
      rw f at fr.flexible,
    )

pub loop-row-preserved : goal.loop-row-preserved
loop-row-preserved g c =
    let inv = c.loop-row.invariant in
    let s = rw (c.in-Some.is, c.in-Ok.is) at ((c.next.ensures.steps inv.2 inv.0).0 inv.1) in
    let good : is_ok c.push.result ≡ true = search rules in
    let items = rw good at c.push.ensures.items in
    let m = rows-more (λ (s : Bor (List ℕ)). Some s.now) c.loop-row.row-iterator.rdr.now c.next.new.self.rdr.now (fields_of c.in-Ok.row) default_config st.StartRecord (strip_bom c.args.text.now) inv.4 inv.6 inv.3 inv.5 inv.7 s.0 in (
      s.0.3 ∙ inv.0,
      inl s.1,
      s.2,
      s.0.2 ∙ inv.3,
      m.0,
      m.1,
      inv.6 ++ fields_of c.in-Ok.row ∷ [],
      m.2,
      items ∙ ap (λ t. t ++ c.in_ok-from_row-in-Ok.field-0 ∷ []) inv.8 ∙ ap (λ l. map g.R.FromRow.said_by inv.6 ++ l ∷ []) c.in_ok-from_row-in-Ok.ensures ∙ sym (map-append g.R.FromRow.said_by inv.6 (fields_of c.in-Ok.row ∷ [])),
      (rw (c.in-Some.is, c.in-Ok.is) at (c.next.ensures.steps inv.2 inv.0).3) ∙ inv.9,
    )

pub want_of_memory-requires : goal.want_of_memory-requires
want_of_memory-requires g c =
    let inv = c.loop-row.invariant in
    let s = rw (c.in-Some.is, c.in-Err.is) at ((c.next.ensures.steps inv.2 inv.0).0 inv.1) in
    ap stops_reader c.into_kind.ensures ∙ only-stopped (λ (s : Bor (List ℕ)). Some s.now) c.loop-row.row-iterator.rdr.now c.next.new.self.rdr.now (error_kind c.in-Err.error) inv.9 s

pub returns : goal.returns
returns g c =
    let inv = c.loop-row.invariant in
    let s = rw c.in-None.is at ((c.next.ensures.steps inv.2 inv.0).0 inv.1) in
    let all : AreRecords default_config st.StartRecord (strip_bom c.args.text.now) inv.6 =
    (c.loop-row.row-iterator.rdr.now.state, inv.4, inv.7, rows-end (λ (s : Bor (List ℕ)). Some s.now) c.loop-row.row-iterator.rdr.now c.next.new.self.rdr.now [] default_config inv.4 inv.3 inv.5 s) in
    record {
      lines = inv.8 ∙ ap (map g.R.FromRow.said_by) (sym (rows-are c.args.text.now inv.6 all));
      few = lines-few c.args.text.now inv.6 c.loop-row.lines.items g.R.FromRow.said_by (rows-few c.args.text.now inv.6 all) inv.8;
    }
