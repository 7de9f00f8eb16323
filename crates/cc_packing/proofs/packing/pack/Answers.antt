use Rattle.std.proofs.Common.{◌≡◌, sym, ap, subst, inl, IsTrue, [], Err, option_map, unwrap_or}
use Rattle.cc_status.specs.declared.status.Status.TheVariants.{WriteFault}
use Rattle.cc_packing.specs.Asked.{asked_of}
use Rattle.cc_material.proofs.Since.{Rose-earlier}
use Rattle.cc_packing.proofs.PackLaws.{packs, leaves, leaves_table, table_at_fault}
use Rattle.cc_packing.proofs.packing.pack.Goals as goal

pub returns-in-Err-Out-clause-write_fault : goal.returns-in-Err-Out-clause-write_fault
returns-in-Err-Out-clause-write_fault g c = λ name e.
    let same : WriteFault c.in-Ok.out_name ≡ WriteFault name = e in
    let copied = c.in-Ok.ensures in
    let left = c.in-Err-Out.ensures.output (ap Err c.in-Err-Out.field-0-is) in (
      Rose-earlier _ _ _ c.in-Ok-texts_asked.ensures.later c.in-Err-Out.ensures.fault,
      inl (
        cc,
        λ told.
            let told_then : IsTrue (g.F.Store.told c.texts_asked.new.store) = subst IsTrue (sym c.in-Ok-texts_asked.ensures.told) told in
            leaves (asked_of c.args.asked.now) (g.F.Store.files c.args.store.now) (g.F.Store.files c.texts_asked.new.store) (g.F.Store.files c.write.new.store) c.in-Ok-texts_asked.texts.out.items c.in-Ok-texts_asked.texts.table.items
            (c.in-Ok-texts_asked.ensures.asked told) (c.in-Ok-texts_asked.ensures.stay told) (left told_then),
      ),
    )

pub returns-in-Err-Table-clause-write_fault : goal.returns-in-Err-Table-clause-write_fault
returns-in-Err-Table-clause-write_fault g c = λ name e.
    let same : WriteFault c.in-Ok-copy_table_name.table_name ≡ WriteFault name = e in
    let copied = c.in-Ok-copy_table_name.ensures in
    let named : name ≡ unwrap_or (option_map (λ t. t.now) c.args.asked.now.table) [] = cc in
    let left = c.in-Err-Table.ensures.table (ap Err c.in-Err-Table.field-0-is) in (
      Rose-earlier _ _ _ c.in-Ok-texts_asked.ensures.later c.in-Err-Table.ensures.fault,
      table_at_fault name (asked_of c.args.asked.now) c.in-Ok-texts_asked.texts.out.items c.in-Ok-texts_asked.texts.table.items (g.F.Store.told c.args.store.now) (g.F.Store.told c.texts_asked.new.store)
          (g.F.Store.files c.args.store.now) (g.F.Store.files c.texts_asked.new.store) (g.F.Store.files c.write.new.store) named left
          (λ t w told.
          let told_then : IsTrue (g.F.Store.told c.texts_asked.new.store) = subst IsTrue (sym c.in-Ok-texts_asked.ensures.told) told in
          leaves_table (asked_of c.args.asked.now) (g.F.Store.files c.args.store.now) (g.F.Store.files c.texts_asked.new.store) (g.F.Store.files c.write.new.store) c.in-Ok-texts_asked.texts.out.items c.in-Ok-texts_asked.texts.table.items
          (c.in-Ok-texts_asked.ensures.asked told) (c.in-Ok-texts_asked.ensures.stay told) t (w told_then)),
    )

pub returns-in-Ok-write-clause-headline : goal.returns-in-Ok-write-clause-headline
returns-in-Ok-write-clause-headline g c = λ e told.
    let told_then : IsTrue (g.F.Store.told c.texts_asked.new.store) = subst IsTrue (sym c.in-Ok-texts_asked.ensures.told) told in
    packs (asked_of c.args.asked.now) (g.F.Store.files c.args.store.now) (g.F.Store.files c.texts_asked.new.store) (g.F.Store.files c.write.new.store) c.in-Ok-texts_asked.texts.out.items c.in-Ok-texts_asked.texts.table.items
    (c.in-Ok-texts_asked.ensures.asked told) (c.in-Ok-texts_asked.ensures.stay told) (c.in-Ok-write.ensures.whole told_then)
