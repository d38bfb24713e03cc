use Rattle.std.proofs.Common.{refl, inl, inr}
use Rattle.vss_main.proofs.Summed.{marked_as, unmarked_as}
use Rattle.vss_main.proofs.generating.digests_of.Goals as goal

pub returns-in-Err-clause-digested : goal.returns-in-Err-clause-digested
returns-in-Err-clause-digested g c = record {
  new = c.digests.new.self;
  quiet = c.digests.ensures.quiet;
  keeps = c.digests.ensures.kept;
  ends = inl
      (c.in-Err.ensures.rose refl);
  kept = c.give_back.ensures.kept;
  count_is = c.give_back.ensures.count;
}

pub returns-then-marked-clause-digested : goal.returns-then-marked-clause-digested
returns-then-marked-clause-digested g c = record {
  new = c.digests.new.self;
  quiet = c.digests.ensures.quiet;
  keeps = c.digests.ensures.kept;
  ends = inr
      (marked_as c.digests.new.self.trail c.trail.result.now.moves c.has_a_mark-marked.result c.trail.ensures c.has_a_mark-marked.ensures
      c.if-marked.true);
  kept = c.give_back-2.ensures.kept;
  count_is = c.give_back-2.ensures.count;
}

pub returns-clause-digested : goal.returns-clause-digested
returns-clause-digested g
    c = record {
      new = c.digests.new.self;
      quiet = c.digests.ensures.quiet;
      keeps = c.digests.ensures.kept;
      ends = (
        c.in-Ok.ensures.digests,
        c.in-Ok.ensures.areas,
        unmarked_as
            c.digests.new.self.trail c.trail.result.now.moves c.has_a_mark-marked.result c.trail.ensures c.has_a_mark-marked.ensures
            c.if-marked.false,
        c.in-Ok.ensures.unfailed,
        c.digests.auto.out,
        c.in-Ok.ensures.left,
      );
      kept = c.give_back-2.ensures.kept;
      count_is = c.give_back-2.ensures.count;
    }
