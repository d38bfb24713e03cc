use Rattle.std.proofs.Common.{◌≡◌, ◌<◌, None, arith, length}
use Rattle.vss_shards.specs.Journals.{first_off, most_cuts}
use Rattle.vss_shards.proofs.Lists.{journal_cut}
use Rattle.vss_shards.proofs.journal.store.Goals as goal

pub invariant_of-journal-2 : goal.invariant_of-journal-2
invariant_of-journal-2 c =
    let whole : c.len-at.result ≡ length c.journal.inside.entries.items = (let long = c.len-at.ensures in let ok = c.journal.inside.entries.ok in omega arith) in
    let room : length c.journal.inside.cuts.items < most_cuts = rw (← c.journal.view_is) at c.requires.room in
    let none : first_off c.journal.inside.entries.items c.in_ok-parts.parts.items ≡ None = rw c.in_ok-parts.ensures (rw (← c.journal.view_is) at c.requires.counts) in (
      rw c.in_ok-push.ensures.items
          (journal_cut c.journal.inside.entries.items c.journal.inside.cuts.items c.journal.inside.places c.len-at.result c.in_ok-parts.parts.items whole room
          none c.journal.invariant.0),
      c.journal.invariant.1,
      c.journal.invariant.2,
    )
