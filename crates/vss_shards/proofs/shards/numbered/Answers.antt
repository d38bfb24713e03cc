use Rattle.std.specs.Prelude.{All}
use Rattle.std.proofs.lemmas.List.{append-nil, nil_from_length}
use Rattle.std.proofs.lemmas.List.Elements.{All-head, All-tail}
use Rattle.std.proofs.Common.{◌≡◌, ◌∙◌, ◌+◌, ◌∷◌, ◌++◌, [], None, subst, sym, arith, length, ap, List, append_assoc}
use Rattle.write_history.specs.History.{fresh}
use Rattle.cow_volume.specs.StandsFor.{GroupValue}
use Rattle.cow_volume.specs.OneVolume.{StandsForOne}
use Rattle.vss_shards.specs.Shards.{ShardValue, shard_value, shards_from}
use Rattle.vss_shards.proofs.shards.numbered.Goals as goal

pub new-requires-clause-fresh : goal.new-requires-clause-fresh
new-requires-clause-fresh g c =
    All-head (λ (v : GroupValue _). StandsForOne g.D.Device.told v fresh) c.in-Some.volume c.next.new.self.rest.items
    (subst (λ (vs : List (GroupValue _)). All (λ v. StandsForOne g.D.Device.told v fresh) vs) c.in-Some.ensures.steps.0 c.loop-volume.invariant.2)

pub loop-volume-init : goal.loop-volume-init
loop-volume-init g c =
    let gives = c.into_iter-volume-iterator.ensures.into_iter_gives.0 in (
      ap (λ (xs : List (ShardValue _)). xs ++ shards_from 0 c.into_iter-volume-iterator.result.rest.items) c.in_ok-shards.ensures.items ∙ ap (shards_from 0) gives,
      (let long = ap length gives in omega arith),
      subst (λ (vs : List (GroupValue _)). All (λ v. StandsForOne g.D.Device.told v fresh) vs) (sym gives) c.requires.fresh,
    )

pub loop-volume-preserved : goal.loop-volume-preserved
loop-volume-preserved g c =
    let step = c.in-Some.ensures.steps.0 in
    let shorter = ap length step in
    let all = c.loop-volume.invariant.1 in
    let one : ShardValue _ = shard_value c.loop-volume.number c.in-Some.volume [] [] 0 None in
    let pushed : c.push.new.self.items ≡ c.loop-volume.shards.items ++ one ∷ [] = cc (c.in_ok-push.ensures.items, c.in_ok-shard.ensures) in (
      ap (λ (xs : List (ShardValue _)). xs ++ shards_from (c.loop-volume.number + 1) c.next.new.self.rest.items) pushed
          ∙ append_assoc c.loop-volume.shards.items (one ∷ []) (shards_from (c.loop-volume.number + 1) c.next.new.self.rest.items)
          ∙ ap (λ (vs : List (GroupValue _)). c.loop-volume.shards.items ++ shards_from c.loop-volume.number vs) (sym step)
          ∙ c.loop-volume.invariant.0,
      omega arith,
      All-tail (λ (v : GroupValue _). StandsForOne g.D.Device.told v fresh) c.in-Some.volume c.next.new.self.rest.items
          (subst (λ (vs : List (GroupValue _)). All (λ v. StandsForOne g.D.Device.told v fresh) vs) step c.loop-volume.invariant.2),
    )

pub returns : goal.returns
returns g c =
    let left = nil_from_length _ (sym c.loop-volume.volume-iterator.rest.ok.0 ∙ c.in-None.ensures.steps.0) in
    sym (append-nil c.loop-volume.shards.items)
    ∙ ap (λ (vs : List (GroupValue _)). c.loop-volume.shards.items ++ shards_from c.loop-volume.number vs) (sym left)
    ∙ c.loop-volume.invariant.0
