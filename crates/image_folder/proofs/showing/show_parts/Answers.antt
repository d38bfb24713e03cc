use Rattle.std.proofs.Common.{◌≤◌, ◌<◌, ◌∙◌, List, ℕ, length, ap, arith, subst}
use Rattle.std.specs.Prelude.{slice_index}
use Rattle.std.proofs.lemmas.List.{take_all}
use Rattle.io_edge.specs.Streams.{Took}
use Rattle.image_store.proofs.Opens.{place_is}
use Rattle.image_folder.proofs.Joins.{one_more, pieces_are_file, shown_all}
use Rattle.image_folder.proofs.showing.show_parts.Goals as goal

pub loop-volume-preserved : goal.loop-volume-preserved
loop-volume-preserved g c =
    let vs = c.args.volumes.now in
    let k = c.loop-volume.volume-index in
    let within : k < length vs = (let test = c.loop-volume-test.true in omega arith) in
    one_more g.D.Device.told c.args.store.now c.loop-volume.store c.show.new.self
    (g.K.Sink.taken c.args.sink.now) (g.K.Sink.taken c.loop-volume.sink) (g.K.Sink.taken c.show.new.sink)
    c.args.which vs k (slice_index vs k) _ c.loop-volume.invariant (place_is vs k within) c.show.ensures.still c.in-Ok.ensures.show

pub returns : goal.returns
returns g c = λ p file stands are.
    let vs = c.args.volumes.now in
    let end : length vs ≤ c.loop-volume.volume-index = (let test = c.loop-volume-test.false in omega arith) in
    let is = ap (shown_all p.volumes c.args.which) (take_all c.loop-volume.volume-index vs end)
    ∙ pieces_are_file 1073725440 p.volumes c.args.which vs file are in
    subst (λ (xs : List ℕ). Took (g.K.Sink.taken c.args.sink.now) xs (g.K.Sink.taken c.loop-volume.sink)) is (c.loop-volume.invariant.took p stands)
