use Rattle.std.proofs.Common.{List, ℕ, sym, subst, get_or, All}
use Rattle.std.proofs.lemmas.Option.{slice_get-get_or}
use Rattle.diff_map.specs.Copies.{AreImages}
use Rattle.cow_volume.proofs.laws.what_is_taken_apart_is_taken_up.Goals as goal

pub resume-requires-clause-rise : goal.resume-requires-clause-rise
resume-requires-clause-rise g c =
    let lists = c.args.group.images in
    let all : All AreImages lists = λ k d l. c.volumes-facts.ensures.rise k (get_or lists k d) (slice_get-get_or lists k d l) in
    subst (λ (ss : List (List ℕ)). All AreImages ss) (sym c.requires) all
