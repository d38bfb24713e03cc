use Rattle.std.proofs.Common.{◌≡◌, ◌∙◌, length, slice_get, ap, sym, arith}
use Rattle.vss_catalog.specs.Entries.{bytes_in}
use Rattle.vss_catalog.proofs.Back.{short_name}
use Rattle.vss_catalog.proofs.names.name_at.Goals as goal

pub returns-clause-bytes : goal.returns-clause-bytes
returns-clause-bytes c = c.bytes.ensures ∙ ap bytes_in (sym c.text_at.ensures)

pub returns-clause-short : goal.returns-clause-short
returns-clause-short c =
    let e : c.bytes.result.now ≡ bytes_in (slice_get c.args.names.now c.args.at) = c.bytes.ensures ∙ ap bytes_in (sym c.text_at.ensures) in
    let l = ap length e in
    let short = short_name c.args.names.now c.args.at c.requires.names in
    omega arith
