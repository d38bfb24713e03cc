use Rattle.std.proofs.Common.{◌<◌, ◌≤◌, refl, sym, ◌∙◌, arith, length}
use Rattle.std.proofs.lemmas.Option.{slice_get-get_or}
use Rattle.vss_shards.specs.declared.small.Small.TheVariants.{Fill}
use Rattle.vss_shards.specs.contracts.entry.EntryEq.TheImpl.Laws.{laws-law}
use Rattle.vss_shards.proofs.Lists.{differ_at, differ_past, found_at, option_apart}
use Rattle.vss_shards.proofs.gathering.compare.Goals as goal

pub returns-then-differs-clause-differ : goal.returns-then-differs-clause-differ
returns-then-differs-clause-differ c =
    let within : c.loop-entry.entry-index < length c.args.journal.now = (let test = c.loop-entry-test.true in omega arith) in (
      refl,
      differ_at c.args.volume c.args.listed.now c.args.journal.now c.loop-entry.entry-index c.loop-entry.at _ c.copied-own.result
          (slice_get-get_or c.args.journal.now c.loop-entry.entry-index (record { volume = 0; block = 0; payload = Fill 0 }) within) c.if-entry-volume.true
          (found_at c.args.listed.now c.loop-entry.at c.get.result c.get.ensures.lookup.0 c.get.ensures.lookup.1 ∙ sym c.copied-own.ensures)
          (option_apart _ laws-law.refl c.copied-own.result _ c.ne-differs.result c.if-differs.true c.ne-differs.ensures) c.loop-entry.invariant,
    )

pub returns-then-at-listed-clause-differ : goal.returns-then-at-listed-clause-differ
returns-then-at-listed-clause-differ c =
    let ended : length c.args.journal.now ≤ c.loop-entry.entry-index = (let test = c.loop-entry-test.false in omega arith) in
    let within : c.loop-entry.at < length c.args.listed.now = (let test = c.if-at-listed.true in omega arith) in (
      refl,
      differ_past c.args.volume c.args.listed.now c.args.journal.now c.loop-entry.entry-index c.loop-entry.at _ ended
          (slice_get-get_or c.args.listed.now c.loop-entry.at (record { volume = 0; block = 0; payload = Fill 0 }) within) c.loop-entry.invariant,
    )
