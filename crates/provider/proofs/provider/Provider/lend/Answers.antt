use Rattle.std.proofs.Common.{is_some, IfOk, ◌≡◌, true, false}
use Rattle.provider.proofs.Words.{IfErr-weaker, IfOk-weaker}
use Rattle.write_history.specs.History.{content}
use Rattle.cow_volume.specs.Parts.{IsLentBy}
use Rattle.provider.proofs.Found.{below, found_by, inside, on_ok, shown_of, some_map, there, there_of}
use Rattle.provider.proofs.Called.{unseen_image}
use Rattle.provider.proofs.Kept.{at_seen}
use Rattle.provider.proofs.provider.Provider.lend.Goals as goal

pub lend-requires : goal.lend-requires
lend-requires g c = inside (found_by c.self.view_is c.requires.has c.place-place.ensures c.index.ensures)

pub returns : goal.returns
returns g c =
    let f = found_by c.self.view_is c.requires.has c.place-place.ensures c.index.ensures in
    rw (← c.self.view_is) (record {
      shown = IfOk-weaker c.lend.result _ _ (λ lent h. some_map _ _ lent h (λ bytes is.
          shown_of g.D.Device.told f c.args.set (λ ws p. bytes.now ≡ content ws p c.args.block) (at_seen g.D.Device.told f.here f.within c.args.set c.args.block bytes.now is)))
          c.lend.ensures.seen;
      whole = c.lend.ensures.whole;
      there = on_ok _ _ c.lend.result (there_of g.D.Device.told f c.args.set true) c.lend.ensures.there;
      lends = there f (λ x u. IfOk c.lend.result (λ lent. IsLentBy g.D.Device.lending x u c.args.set c.args.block (is_some lent))) c.lend.ensures.lends;
      none = IfErr-weaker c.lend.result _ _ (λ fault h.
          let none = unseen_image _ _ c.args.set c.args.block (below f c.args.block c.requires.block.1) fault h in
          (none.0, there_of g.D.Device.told f c.args.set false none.1)) c.lend.ensures.unseen;
    })
