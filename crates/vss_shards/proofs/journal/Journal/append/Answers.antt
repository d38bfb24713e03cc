use Rattle.std.proofs.Common.{◌≡◌, ◌<◌, ◌+◌, ◌∙◌, ap, arith}
use Rattle.std.proofs.lemmas.Option.{get_or_from_slice_get}
use Rattle.vss_shards.specs.Journals.{count_of}
use Rattle.vss_shards.proofs.Lists.{count_within, counts_more, journal_more}
use Rattle.vss_shards.proofs.journal.Journal.append.Goals as goal

pub overflow_add-index_mut : goal.overflow_add-index_mut
overflow_add-index_mut c =
    let at = c.self.invariant.1.each c.args.entry.volume c.requires.volume in
    let now : c.index_mut.result.now ≡ count_of c.self.inside.entries.items c.args.entry.volume = c.index_mut.ensures.value
    ∙ get_or_from_slice_get c.self.inside.counts.items c.args.entry.volume
    (count_of c.self.inside.entries.items c.args.entry.volume) c.index_mut.result.now at in
    let low = count_within c.args.entry.volume c.self.inside.entries.items in
    let few = c.self.invariant.0.few in
    omega arith

pub invariant_of-self : goal.invariant_of-self
invariant_of-self c =
    let at = c.self.invariant.1.each c.args.entry.volume c.requires.volume in
    let now : c.index_mut.result.now ≡ count_of c.self.inside.entries.items c.args.entry.volume = c.index_mut.ensures.value
    ∙ get_or_from_slice_get c.self.inside.counts.items c.args.entry.volume
    (count_of c.self.inside.entries.items c.args.entry.volume) c.index_mut.result.now at in
    let taken : 0 < c.self.inside.places = rw (← c.self.view_is) at c.requires.place in
    let is = journal_more c.self.inside.entries.items c.self.inside.cuts.items c.self.inside.places c.args.entry taken c.self.invariant.0 in
    let counts = counts_more c.self.inside.counts.items c.self.inside.entries.items c.args.entry (c.index_mut.result.now + 1) c.requires.volume (ap (λ n. n + 1) now) c.self.invariant.1 in
    let room = c.self.invariant.2 in
    let long = c.push_reserved.ensures.len in
    let same = c.push_reserved.ensures.capacity in
    (rw c.push_reserved.ensures.items is, rw c.push_reserved.ensures.items counts, omega arith)
