use Rattle.std.proofs.Common.{◌≡◌, ◌∙◌, sym, arith, Some, None}
use Rattle.vss_shards.specs.Journals.{first_off}
use Rattle.vss_shards.proofs.Lists.{counts_hold}
use Rattle.vss_shards.proofs.Keeping.{off_is_refused}
use Rattle.vss_shards.proofs.journal.Journal.record_cut.Goals as goal

pub returns-in-Some-clause-record : goal.returns-in-Some-clause-record
returns-in-Some-clause-record c =
    let off : first_off c.args.self.now.entries c.args.draft.now.parts ≡ Some c.in-Some.fault = rw (← c.draft.view_is) (rw (sym c.deref.ensures.value) (sym c.differing.ensures ∙ c.in-Some.is)) in
    off_is_refused c.args.self.now c.args.draft.now c.in-Some.fault
    (rw (← c.self.view_is) (let room = c.if-len-ge-MOST_CUTS.false in let long = c.len.ensures in let whole = c.self.inside.cuts.ok in omega arith)) off

pub returns-clause-counts : goal.returns-clause-counts
returns-clause-counts c =
    let none : first_off c.args.self.now.entries c.args.draft.now.parts ≡ None = rw (← c.draft.view_is) (rw (sym c.deref.ensures.value) (sym c.differing.ensures ∙ c.in_default.is)) in
    counts_hold c.args.self.now.entries c.args.draft.now.parts none
