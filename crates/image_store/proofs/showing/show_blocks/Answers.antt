use Rattle.std.proofs.Common.{◌∙◌, ◌-◌, ℕ, List, ap, sym, refl, length, arith}
use Rattle.std.specs.Prelude.{slice_get}
use Rattle.std.proofs.lemmas.Result.{err_from_is_err_and}
use Rattle.block_data.specs.declared.block_buf.TheConstants.{BLOCK}
use Rattle.cow_volume.specs.Calls.{blocks_at, blocks_in}
use Rattle.image_store.specs.Showing.{shown_in}
use Rattle.image_store.proofs.Calls.{show_after}
use Rattle.image_store.proofs.Plains.{kept_then}
use Rattle.image_store.proofs.Shown.{bad_shown, read_failed, seen_in, shown_none, shown_more, shown_failed, shown_part, block_of, part_is}
use Rattle.image_store.proofs.showing.show_blocks.Goals as goal
use Rattle.cow_volume.proofs.Kept.{unfailed_further}

pub returns-in_err-left-clause-show : goal.returns-in_err-left-clause-show
returns-in_err-left-clause-show g c =
    let p = err_from_is_err_and c.from_residual.result c.from_residual.ensures.1 in
    rw (p.1, p.2) (λ ps has. bad_shown (shown_in ps c.args.v c.args.which) (g.K.Sink.taken c.args.sink.now) _ (c.in_err-left.ensures.bad ps has))

pub loop-b-init : goal.loop-b-init
loop-b-init g c = record {
  shown = record {
    kept = c.length_of.ensures.kept;
    images = c.length_of.ensures.images;
    count_is = refl;
    taken = λ ps has. shown_none (shown_in ps c.args.v c.args.which) _ c.in_ok-left.left (g.K.Sink.taken c.args.sink.now) (c.in_ok-left.ensures.length ps has);
  };
  seen = c.in_ok-left.ensures.seen;
  unfailed = c.in_ok-left.ensures.same;
}

pub returns-in_default-clause-show : goal.returns-in_default-clause-show
returns-in_default-clause-show g c = λ ps has.
    let inv = c.loop-b.invariant.shown in
    let bytes = c.bytes.result.now in
    let more = c.part_of-more.result in
    let within = c.part_of-more.ensures.within in
    let shown = shown_in ps c.args.v c.args.which in
    let blocks = ap (λ (ns : List ℕ). blocks_in (slice_get ns c.args.v)) inv.kept.volumes in
    let here = block_of shown _ (blocks_at c.args.group.now c.args.v) c.loop-b.b c.read_which.new.piece bytes blocks c.bytes.ensures.bytes
    (c.in_ok-read_which.ensures.read ps (inv.kept.plains ps has)) in
    let part = part_is c.loop-b.left more (length bytes) BLOCK c.part_of-more.ensures.part c.bytes.ensures.whole c.part_of-more.ensures.most in
    shown_failed shown _ c.loop-b.left more (c.loop-b.left - more) c.loop-b.b (g.K.Sink.taken c.args.sink.now) (g.K.Sink.taken c.loop-b.sink) (g.K.Sink.taken c.write_all.new.sink) bytes
    (inv.taken ps has) here c.in_default.ensures.err (omega arith) part

pub loop-b-preserved : goal.loop-b-preserved
loop-b-preserved g c = record {
  shown = record {
    kept = kept_then g.D.Device.told c.args.group.now c.loop-b.group c.read_which.new.group c.loop-b.invariant.shown.kept c.read_which.ensures.kept;
    images = c.read_which.ensures.images ∙ c.loop-b.invariant.shown.images;
    count_is = c.in-Ok.ensures.cause.same ∙ c.loop-b.invariant.shown.count_is;
    taken = λ ps has.
        let inv = c.loop-b.invariant.shown in
        let bytes = c.bytes.result.now in
        let more = c.part_of-more.result in
        let within = c.part_of-more.ensures.within in
        let shown = shown_in ps c.args.v c.args.which in
        let blocks = ap (λ (ns : List ℕ). blocks_in (slice_get ns c.args.v)) inv.kept.volumes in
        let here = block_of shown _ (blocks_at c.args.group.now c.args.v) c.loop-b.b c.read_which.new.piece bytes blocks c.bytes.ensures.bytes
        (c.in_ok-read_which.ensures.read ps (inv.kept.plains ps has)) in
        let part = part_is c.loop-b.left more (length bytes) BLOCK c.part_of-more.ensures.part c.bytes.ensures.whole c.part_of-more.ensures.most in
        shown_more shown _ c.loop-b.left more (c.loop-b.left - more) c.loop-b.b (g.K.Sink.taken c.args.sink.now) (g.K.Sink.taken c.loop-b.sink) (g.K.Sink.taken c.write_all.new.sink) bytes
        (inv.taken ps has) here c.in-Ok.ensures.ok (omega arith) part;
  };
  seen = c.loop-b.invariant.seen;
  unfailed = unfailed_further g.D.Device.count c.args.group.now c.loop-b.group c.read_which.new.group c.loop-b.invariant.unfailed c.in_ok-read_which.ensures.same;
}

pub returns-in_err-read_which-clause-failed : goal.returns-in_err-read_which-clause-failed
returns-in_err-read_which-clause-failed g c =
    let p = err_from_is_err_and c.from_residual-in_err-read_which.result c.from_residual-in_err-read_which.ensures.1 in
    rw (p.1, p.2) (show_after g.D.Device.count c.args.v c.args.group.now c.loop-b.group c.read_which.new.group c.in_err-read_which.field-0.0 c.loop-b.invariant.unfailed
    c.in_err-read_which.ensures.failed)

pub returns-in_err-read_which-clause-show : goal.returns-in_err-read_which-clause-show
returns-in_err-read_which-clause-show g c =
    let p = err_from_is_err_and c.from_residual-in_err-read_which.result c.from_residual-in_err-read_which.ensures.1 in
    rw (p.1, p.2) (λ ps has. read_failed c.loop-b.group c.args.v c.args.which (shown_in ps c.args.v c.args.which) (g.K.Sink.taken c.args.sink.now) (g.K.Sink.taken c.loop-b.sink)
    c.in_err-read_which.field-0.0 (seen_in c.loop-b.group c.args.group.now c.args.v c.args.which (sym c.loop-b.invariant.shown.images) c.loop-b.invariant.seen) c.in_err-read_which.ensures.cause
    (shown_part (shown_in ps c.args.v c.args.which) _ c.loop-b.left c.loop-b.b (g.K.Sink.taken c.args.sink.now) (g.K.Sink.taken c.loop-b.sink) (c.loop-b.invariant.shown.taken ps has)))
