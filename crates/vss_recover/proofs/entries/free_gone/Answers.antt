use Rattle.std.proofs.Common.{◌∙◌, sym, ap, get_or, true, map, List, Bool}
use Rattle.std.specs.Prelude.{slice_set}
use Rattle.std.proofs.lemmas.List.{map-set}
use Rattle.diff_area.specs.AreaValue.{AreaValue}
use Rattle.diff_area.specs.Format.{free, is_free}
use Rattle.diff_map.specs.Copies.{copy_of}
use Rattle.diff_map.specs.declared.entry.Entry.{Entry}
use Rattle.cow_volume.specs.CopiesAfter.{with_records}
use Rattle.cow_volume.specs.Changes.{record_for}
use Rattle.vss_recover.proofs.Passing.{entry_at, step_set, step_kept, slot_within, passes_end}
use Rattle.vss_recover.proofs.UsedSlots.{among, among_stays, among_goes, taken_there, followed_kept}
use Rattle.vss_recover.proofs.entries.free_gone.Goals as goal
use Rattle.vss_recover.proofs.entries.free_gone.Goals.{then-not-contains, else-not-contains}

pub clear_record-requires : goal.clear_record-requires
clear_record-requires g c =
    let zero_entry : Entry = record { block = 0; set = 0; slot = 0 } in
    let i = c.loop-entry.entry-index in
    slot_within c.args.area.now c.loop-entry.area 0 (among c.args.images.now) c.args.entries.now i (get_or c.args.entries.now i zero_entry) c.requires.index
    (entry_at c.args.entries.now i zero_entry c.loop-entry-test.true) c.loop-entry.invariant.area

pub give-requires : goal.give-requires
give-requires g c =
    let zero_entry : Entry = record { block = 0; set = 0; slot = 0 } in
    let i = c.loop-entry.entry-index in
    taken_there c.args.area.now c.loop-entry.area c.loop-entry.pool (among c.args.images.now) c.args.entries.now i (get_or c.args.entries.now i zero_entry) c.requires.index
    (entry_at c.args.entries.now i zero_entry c.loop-entry-test.true) c.loop-entry.invariant.area c.loop-entry.invariant.pool

pub loop-entry-preserved : goal.loop-entry-preserved
loop-entry-preserved g c =
    let zero_entry : Entry = record { block = 0; set = 0; slot = 0 } in
    let i = c.loop-entry.entry-index in
    let e : Entry = get_or c.args.entries.now i zero_entry in
    let at = entry_at c.args.entries.now i zero_entry c.loop-entry-test.true in
    elim c.if-not-contains.branch [
      | then-not-contains w ↦ rw (w.area-is, w.pool-is) (record {
        area = step_set c.args.area.now c.loop-entry.area w.clear_record.new.self 0 (among c.args.images.now) c.args.entries.now i e _ at c.loop-entry.invariant.area w.clear_record.ensures
            (ap (record_for 0) (among_goes c.args.images.now (copy_of e.set e.block) (sym c.contains.ensures.value ∙ w.if-not-contains.true)));
        pool = w.give.ensures ∙ ap (λ (p : List Bool). slice_set p e.slot true) c.loop-entry.invariant.pool ∙ sym (map-set is_free c.loop-entry.area.records e.slot free)
            ∙ ap (λ (a : AreaValue _). map is_free a.records) (sym w.clear_record.ensures);
      })
      | else-not-contains w ↦ rw (w.area-is, w.pool-is) (record {
        area = step_kept c.args.area.now c.loop-entry.area 0 (among c.args.images.now) c.args.entries.now i e c.requires.index at c.loop-entry.invariant.area
            (among_stays c.args.images.now (copy_of e.set e.block) (sym c.contains.ensures.value ∙ w.if-not-contains.false));
        pool = c.loop-entry.invariant.pool;
      })
    ]

pub returns-clause-area : goal.returns-clause-area
returns-clause-area g c =
    passes_end c.args.area.now c.loop-entry.area 0 (among c.args.images.now) c.args.entries.now c.loop-entry.entry-index c.requires.index c.loop-entry.invariant.area c.loop-entry-test.false
    ∙ ap (λ rs. with_records rs c.args.area.now) (followed_kept c.args.area.now.volumes c.args.area.now.records c.args.images.now c.requires.one c.requires.records)
