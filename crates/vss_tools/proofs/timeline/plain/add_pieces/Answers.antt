use Rattle.std.proofs.Common.{◌∙◌, ◌+◌, ◌*◌, ◌/◌, ◌-◌, ◌++◌, ◌≡◌, ap, arith, drop, length, take}
use Rattle.std.proofs.lemmas.List.{take_all}
use Rattle.vss_tools.proofs.TextLines.{adds_more, adds_none, part_next, part_short}
use Rattle.vss_tools.proofs.timeline.plain.add_pieces.Goals as goal

pub loop-at-init : goal.loop-at-init
loop-at-init c = adds_none c.args.out.now.bytes

pub loop-at-preserved : goal.loop-at-preserved
loop-at-preserved c =
    let line = c.args.line.now in
    let a = c.loop-at.at * 100 in
    adds_more c.args.out.now.bytes c.loop-at.out.bytes c.add.new.self.bytes c.add-in-loop-at.new.self.bytes _ _ _ c.loop-at.invariant (part_short a (a + 100) line (omega arith)) c.in_ok-add.ensures.ok
    c.in_ok-add-2.ensures.ok (part_next a (a + 100) line (omega arith) ∙ ap (λ k. take k line) (omega arith))

pub returns : goal.returns
returns c =
    let line = c.args.line.now in
    let a = length line / 100 * 100 in
    let at : take (c.loop-at.at * 100) line ≡ take a line = ap (λ k. take (k * 100) line) (omega arith) in
    adds_more c.args.out.now.bytes c.loop-at.out.bytes c.add-2.new.self.bytes c.add-3.new.self.bytes _ _ _ c.loop-at.invariant (part_short a (length line) line (omega arith)) c.in_ok-add-3.ensures.ok
    c.in_ok-add-4.ensures.ok (ap (λ t. t ++ take (length line - a) (drop a line)) at ∙ part_next a (length line) line (omega arith) ∙ take_all (length line) line (omega arith))
